use Rattle.std.proofs.Common.{◌≡◌, ◌∙◌, ◌++◌, List, ℕ, ap, length}
use Rattle.std.proofs.lemmas.List.{append_assoc}
use Rattle.std.specs.Prelude.{flat_map}
use Rattle.byteorder.specs.Endian.{little_bytes}
use Rattle.rec_bytes.specs.Pairs.{Pairs}
use Rattle.redo_log.specs.Appending.{write_bytes}
use Rattle.follower.specs.Shipping.{shipment_bytes}
use Rattle.follower.proofs.shipping.write_shipment.Goals as goal

-- the bytes of the head and of the records behind the old ones, where the count is that of the records
behind_all : (old first now all : List ℕ) (number count : ℕ) (writes : Pairs) → first ≡ old → count ≡ length writes
    → now ≡ first ++ (little_bytes 8 number ++ little_bytes 2 count)
    → all ≡ now ++ flat_map write_bytes writes → all ≡ old ++ shipment_bytes number writes
behind_all old first now all number count writes same is head rest =
    let records = flat_map write_bytes writes in
    rest
    ∙ ap (λ (bytes : List ℕ). bytes ++ records) head
    ∙ append_assoc first (little_bytes 8 number ++ little_bytes 2 count) records
    ∙ ap (λ (bytes : List ℕ). bytes ++ ((little_bytes 8 number ++ little_bytes 2 count) ++ records)) same
    ∙ ap (λ (n : ℕ). old ++ ((little_bytes 8 number ++ little_bytes 2 n) ++ records)) is
    ∙ ap (λ (bytes : List ℕ). old ++ bytes) (append_assoc (little_bytes 8 number) (little_bytes 2 (length writes)) records)

pub returns-clause-written : goal.returns-clause-written
returns-clause-written c =
    behind_all c.args.bytes.now.items c.reserve.new.self.items c.add_head.new.bytes.items c.add_writes.new.bytes.items c.args.number c.len-count.result
    c.args.writes.now.pairs
    c.in_ok-reserve.ensures.items c.len-count.ensures.value c.add_head.ensures.items c.add_writes.ensures.items
