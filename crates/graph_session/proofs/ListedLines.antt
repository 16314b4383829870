-- The lines that were gathered so far, and how the reply ends.
use Rattle.std.proofs.Common.{◌≡◌, ◌≢◌, ◌∙◌, ◌≤◌, ℕ, List, [], ◌∷◌, ◌++◌, append_assoc, flat_map, refl, sym, ap, subst, arith}
use Rattle.std.proofs.lemmas.Grind.{flat_map-append}
use Rattle.std.proofs.lemmas.List.{append-nil}
use Rattle.stream_io.specs.Streams.{TakesFront}
use Rattle.stream_io.specs.declared.streams.Sink.{Ghosts as SinkGhosts}
use Rattle.plain_graph.specs.Reply.{Told, prefixed_line, prefixed_text, text_line}
use Rattle.graph_session.specs.Answer.{Delivers, Gives}
use Rattle.graph_session.specs.Exchange.{AreFirst}
use Rattle.graph_session.specs.ReplyLines.{AddsLine, BeginsLines, HaveSameSink}
use Rattle.graph_session.specs.declared.reply_lines.ReplyLines.{ReplyLines}
use Rattle.graph_session.specs.declared.turn.Turn.{Turn}
use Rattle.graph_session.specs.declared.turn.Turn.TheVariants.{Go, Quit, SinkFault}
use Rattle.graph_session.proofs.Streams.{Rose-from, delivers-after, takes-after, takes-more}

-- the bytes of lines, one after the other, each after the prefix
abbrev pub bytes_of : List ℕ → List (List ℕ) → List ℕ
bytes_of prefix lines = flat_map (prefixed_line prefix) lines

bytes_of-one : (prefix line : List ℕ) → bytes_of prefix (line ∷ []) ≡ prefixed_line prefix line
bytes_of-one prefix line = append-nil (prefixed_line prefix line)

bytes_of-more : (prefix : List ℕ) (lines : List (List ℕ)) (line : List ℕ)
    → bytes_of prefix (lines ++ line ∷ []) ≡ bytes_of prefix lines ++ prefixed_line prefix line
bytes_of-more prefix lines line =
    flat_map-append (prefixed_line prefix) lines (line ∷ []) ∙ ap (λ (xs : List ℕ). bytes_of prefix lines ++ xs) (bytes_of-one prefix line)

-- What a sink took, with what is held beside it, is the text.
abbrev pub HasGiven : List ℕ → List ℕ → List ℕ → List ℕ → Type 0
HasGiven before after held text = (given : List ℕ) × (after ≡ before ++ given) × (given ++ held ≡ text)

-- These lines were gathered since the reply's beginning, each after the prefix.
pub record HasLines {K : Type 0} (sink : SinkGhosts K) (old now : ReplyLines K) (lines : List (List ℕ)) : Type 0 where
  pub given : sink.tells → HasGiven (sink.taken old.output.now) (sink.taken now.output.now) now.buffer.now.bytes (bytes_of old.prefix.now lines)
  pub prefix : now.prefix.now ≡ old.prefix.now
  pub same_sink : HaveSameSink old now
  pub later : sink.faults old.output.now ≤ sink.faults now.output.now

module _ {K : Type 0} {sink : SinkGhosts K} {old now : ReplyLines K} where
  pub lines-none : BeginsLines old now → HasLines sink old now []
  lines-none begins = record {
    given = λ told. (
      [],
      ap sink.taken begins.output ∙ sym (append-nil (sink.taken old.output.now)),
      begins.empty,
    );
    prefix = begins.prefix;
    same_sink = begins.same_sink;
    later = subst (λ (k : K). sink.faults old.output.now ≤ sink.faults k) (sym begins.output) (omega arith);
  }

module _ {K : Type 0} {sink : SinkGhosts K} {old now : ReplyLines K} {lines : List (List ℕ)} (has : HasLines sink old now lines) where
  -- what is held of these lines, and one more
  held-line : (given line : List ℕ) → given ++ now.buffer.now.bytes ≡ bytes_of old.prefix.now lines
      → given ++ (now.buffer.now.bytes ++ (now.prefix.now ++ text_line line)) ≡ bytes_of old.prefix.now (lines ++ line ∷ [])
  held-line given line is =
      sym (append_assoc given now.buffer.now.bytes (now.prefix.now ++ text_line line))
      ∙ ap (λ (xs : List ℕ). xs ++ (now.prefix.now ++ text_line line)) is
      ∙ ap (λ (m : List ℕ). bytes_of old.prefix.now lines ++ (m ++ text_line line)) has.prefix
      ∙ sym (bytes_of-more old.prefix.now lines line)

  -- one more was gathered
  pub lines-add : (line : List ℕ) (new : ReplyLines K) → AddsLine sink (text_line line) now new Go → HasLines sink old new (lines ++ line ∷ [])
  lines-add line new adds = record {
    given = λ told.
        let had = has.given told in
        let more = adds.adds.gathers told in (
          had.0 ++ more.0,
          more.1 ∙ ap (λ (xs : List ℕ). xs ++ more.0) had.1 ∙ append_assoc (sink.taken old.output.now) had.0 more.0,
          append_assoc had.0 more.0 new.buffer.now.bytes ∙ ap (λ (xs : List ℕ). had.0 ++ xs) more.2 ∙ held-line had.0 line had.2,
        );
    prefix = adds.prefix ∙ has.prefix;
    same_sink = adds.same_sink ∙ has.same_sink;
    later = let first = has.later in let second = adds.adds.later in omega (arith, first, second);
  }

  -- a last text was given with what was held
  pub lines-last : (text : List ℕ) (then : K) (turn : Turn)
      → Gives sink (now.buffer.now.bytes ++ (now.prefix.now ++ text)) now.output.now then turn
      → Gives sink (bytes_of old.prefix.now lines ++ (old.prefix.now ++ text)) old.output.now then turn
  lines-last text then turn gives = record {
    delivers = λ told.
        let had = has.given told in
        subst (λ (bytes : List ℕ). Delivers turn (sink.taken old.output.now) (sink.taken then) bytes)
        (sym (append_assoc had.0 now.buffer.now.bytes (now.prefix.now ++ text))
        ∙ ap (λ (xs : List ℕ). xs ++ (now.prefix.now ++ text)) had.2
        ∙ ap (λ (m : List ℕ). bytes_of old.prefix.now lines ++ (m ++ text)) has.prefix)
        (delivers-after turn (sink.taken old.output.now) (sink.taken now.output.now) (sink.taken then) had.0
        (now.buffer.now.bytes ++ (now.prefix.now ++ text)) had.1 (gives.delivers told));
    goes = gives.goes;
    cause = λ is. Rose-from (sink.faults old.output.now) (sink.faults now.output.now) (sink.faults then) has.later (gives.cause is);
    later = let first = has.later in let second = gives.later in omega (arith, first, second);
  }

  -- the sink failed at one more, whatever was to come after it
  pub lines-stop : (line : List ℕ) (new : ReplyLines K) (turn : Turn) → AddsLine sink (text_line line) now new turn → turn ≢ Go
      → (more : List ℕ) → Gives sink (bytes_of old.prefix.now (lines ++ line ∷ []) ++ more) old.output.now new.output.now turn
  lines-stop line new Go adds stops more = absurd (stops refl)
  lines-stop line new Quit adds stops more = absurd (adds.adds.runs refl)
  lines-stop line new SinkFault adds stops more = record {
    delivers = λ told.
        let had = has.given told in
        let taken = takes-after (sink.taken old.output.now) (sink.taken now.output.now) (sink.taken new.output.now) had.0
        (now.buffer.now.bytes ++ (now.prefix.now ++ text_line line)) had.1 (adds.adds.gathers told) in
        takes-more (sink.taken old.output.now) (sink.taken new.output.now) (bytes_of old.prefix.now (lines ++ line ∷ [])) more
        (subst (λ (bytes : List ℕ). TakesFront (sink.taken old.output.now) (sink.taken new.output.now) bytes) (held-line had.0 line had.2) taken);
    goes = λ e. cc;
    cause = λ is. Rose-from (sink.faults old.output.now) (sink.faults now.output.now) (sink.faults new.output.now) has.later (adds.adds.cause is);
    later = let first = has.later in let second = adds.adds.later in omega (arith, first, second);
  }

  -- the sink failed in the lines of an answer
  pub lines-stop_in : (all : List (List ℕ)) (last : List ℕ) (line : List ℕ) → AreFirst (lines ++ line ∷ []) all → (new : ReplyLines K) (turn : Turn)
      → AddsLine sink (text_line line) now new turn → turn ≢ Go
      → Gives sink (prefixed_text old.prefix.now (Told all last)) old.output.now new.output.now turn
  lines-stop_in all last line first new turn adds stops =
      subst (λ (text : List ℕ). Gives sink text old.output.now new.output.now turn)
      (sym (append_assoc (bytes_of old.prefix.now (lines ++ line ∷ [])) (bytes_of old.prefix.now first.0) (prefixed_line old.prefix.now last))
      ∙ ap (λ (xs : List ℕ). xs ++ prefixed_line old.prefix.now last) (sym (flat_map-append (prefixed_line old.prefix.now) (lines ++ line ∷ []) first.0)
      ∙ ap (bytes_of old.prefix.now) first.1))
      (lines-stop line new turn adds stops (bytes_of old.prefix.now first.0 ++ prefixed_line old.prefix.now last))
