-- The bytes of an entry behind its gate, as they go out piece by piece.
use Rattle.std.proofs.Common.{◌≡◌, ◌∙◌, ap, sym, subst, ℕ, ◌+◌, ◌-◌, ◌≤◌, List, ◌++◌, length, take, drop, arith, append_assoc, length-append}
use Rattle.std.specs.List.{flat_map}
use Rattle.std.proofs.lemmas.Grind.{flat_map-append}
use Rattle.std.proofs.lemmas.List.{take_all}
use Rattle.std.proofs.Math.Seq.{take-add}
use Rattle.byteorder.specs.Endian.{little_bytes}
use Rattle.disk_model.specs.Contents.{Files, Holds, SameOutside}
use Rattle.rec_bytes.specs.Format.{log_file}
use Rattle.rec_bytes.specs.Pairs.{Pairs}
use Rattle.redo_log.specs.Appending.{write_bytes, payload_bytes}
use Rattle.disk_model.proofs.Contents.{Holds-before, Holds-append}

-- the bytes up to a record
abbrev pub bytes_before : Pairs → ℕ → List ℕ
bytes_before writes next = little_bytes 2 (length writes) ++ flat_map write_bytes (take next writes)

-- What is out stands in the log from a place on, and with the piece that follows it is the bytes up to a record.
pub record IsSent (reads : Files) (at place : ℕ) (piece : List ℕ) (writes : Pairs) (next : ℕ) : Type 0 where
  pub sent : List ℕ
  pub whole : sent ++ piece ≡ bytes_before writes next
  pub place_is : place ≡ at + length sent
  pub stands : Holds log_file at sent reads

-- with those of the records up to a later one
bytes_before-more : (writes : Pairs) (next later : ℕ) → next ≤ later → bytes_before writes next ++ flat_map write_bytes
    (take (later - next) (drop next writes)) ≡ bytes_before writes later
bytes_before-more writes next later on =
    let count = little_bytes 2 (length writes) in
    let more = take (later - next) (drop next writes) in
    let n : next + (later - next) ≡ later = omega arith in
    let all : take next writes ++ more ≡ take later writes = sym (take-add next (later - next) writes) ∙ ap (λ k. take k writes) n in
    append_assoc count (flat_map write_bytes (take next writes)) (flat_map write_bytes more)
    ∙ ap (λ bytes. count ++ bytes) (sym (flat_map-append write_bytes (take next writes) more) ∙ ap (flat_map write_bytes) all)

-- one piece more is out
pub IsSent-more : (old new : Files) (at place : ℕ) (piece : List ℕ) (next_piece : List ℕ) (writes : Pairs) (next later : ℕ)
    → IsSent old at place piece writes next → Holds log_file place piece new → SameOutside log_file place (length piece) old new
    → next_piece ≡ flat_map write_bytes (take (later - next) (drop next writes)) → next ≤ later
    → IsSent new at (place + length piece) next_piece writes later
IsSent-more old new at place piece next_piece writes next later before holds same is on = record {
  sent = before.sent ++ piece;
  whole = ap (λ bytes. bytes ++ next_piece) before.whole ∙ ap (λ bytes. bytes_before writes next ++ bytes) is ∙ bytes_before-more writes next later on;
  place_is = omega (arith, before.place_is, length-append before.sent piece);
  stands = Holds-append log_file at before.sent piece new
      (Holds-before log_file at place (length piece) before.sent old new before.stands same (omega (arith, before.place_is)))
      (subst (λ start. Holds log_file start piece new) before.place_is holds);
}

-- the last piece is out
pub IsSent-all : (old new : Files) (at place : ℕ) (piece last : List ℕ) (writes : Pairs) (next : ℕ) (close : List ℕ)
    → IsSent old at place piece writes next → length writes ≤ next → last ≡ piece ++ close → Holds log_file place last new
    → SameOutside log_file place (length last) old new
    → Holds log_file at (payload_bytes writes ++ close) new
IsSent-all old new at place piece last writes next close before done is holds same =
    let all : before.sent ++ last ≡ payload_bytes writes ++ close =
    ap (λ bytes. before.sent ++ bytes) is ∙ sym (append_assoc before.sent piece close)
    ∙ ap (λ bytes. bytes ++ close) (before.whole ∙ ap (λ (ws : Pairs). little_bytes 2 (length writes) ++ flat_map write_bytes ws) (take_all next writes done))
    in
    subst (λ bytes. Holds log_file at bytes new) all
    (Holds-append log_file at before.sent last new
    (Holds-before log_file at place (length last) before.sent old new before.stands same (omega (arith, before.place_is)))
    (subst (λ start. Holds log_file start last new) before.place_is holds))
