-- What a sink took, piece after piece.
use Rattle.std.proofs.Common.{◌≡◌, ◌≢◌, ◌∙◌, ◌+◌, ◌≤◌, ℕ, List, [], ◌++◌, length, take, append_assoc, refl, sym, ap, subst, arith}
use Rattle.std.proofs.Math.Seq.{take-append-add}
use Rattle.std.proofs.lemmas.List.{append-nil, length-append, take-append-le}
use Rattle.fault_count.specs.Cause.{Rose}
use Rattle.stream_io.specs.Streams.{TakesFront}
use Rattle.stream_io.specs.declared.streams.Sink.{Ghosts}
use Rattle.graph_session.specs.Answer.{Delivers, Gives}
use Rattle.graph_session.specs.LineBuffer.{Adds}
use Rattle.graph_session.specs.declared.turn.Turn.{Turn}
use Rattle.graph_session.specs.declared.turn.Turn.TheVariants.{Go, Quit, SinkFault}

-- a count that rose since a later moment rose since an earlier one
pub Rose-from : (a b c : ℕ) → a ≤ b → Rose b c → Rose a c
Rose-from a b c le rose = omega arith

-- a prefix of a longer text
pub takes-more : (old new bytes more : List ℕ) → TakesFront old new bytes → TakesFront old new (bytes ++ more)
takes-more old new bytes more (n, short, is) =
    let long = length-append bytes more in
    (n, omega (arith, short, long), is ∙ ap (λ (xs : List ℕ). old ++ xs) (sym (take-append-le n bytes more short)))

-- a prefix of what comes after what was taken
pub takes-after : (old mid new given bytes : List ℕ) → mid ≡ old ++ given → TakesFront mid new bytes → TakesFront old new (given ++ bytes)
takes-after old mid new given bytes at (n, short, is) =
    let long = length-append given bytes in (
      length given + n,
      omega (arith, short, long),
      is ∙ ap (λ (xs : List ℕ). xs ++ take n bytes) at ∙ append_assoc old given (take n bytes)
          ∙ ap (λ (xs : List ℕ). old ++ xs) (sym (take-append-add given bytes n)),
    )

pub delivers-after : (turn : Turn) (old mid new given bytes : List ℕ) → mid ≡ old ++ given → Delivers turn mid new bytes
    → Delivers turn old new (given ++ bytes)
delivers-after Go old mid new given bytes at is = is ∙ ap (λ (xs : List ℕ). xs ++ bytes) at ∙ append_assoc old given bytes
delivers-after Quit old mid new given bytes at is = is ∙ ap (λ (xs : List ℕ). xs ++ bytes) at ∙ append_assoc old given bytes
delivers-after SinkFault old mid new given bytes at is = takes-after old mid new given bytes at is

module _ {K : Type 0} {sink : Ghosts K} {line old new : List ℕ} {before after : K} where
  -- what was held was not given whole
  pub adds-stop : (turn : Turn) → Gives sink old before after turn → turn ≢ Go → Adds sink line old new before after turn
  adds-stop Go gives stops = absurd (stops refl)
  adds-stop Quit gives stops = absurd (gives.goes refl)
  adds-stop SinkFault gives stops = record {
    gathers = λ told. takes-more (sink.taken before) (sink.taken after) old line (gives.delivers told);
    runs = λ e. cc;
    cause = gives.cause;
    later = gives.later;
  }

module _ {K : Type 0} {sink : Ghosts K} {line old : List ℕ} {before mid after : K} where
  -- what was held was given, and then the line alone
  pub adds-alone : Gives sink old before mid Go → (turn : Turn) → Gives sink line mid after turn → Adds sink line old [] before after turn
  adds-alone first Go gives = record {
    gathers = λ told. (
      old ++ line,
      gives.delivers told ∙ ap (λ (xs : List ℕ). xs ++ line) (first.delivers told) ∙ append_assoc (sink.taken before) old line,
      append-nil (old ++ line),
    );
    runs = λ e. cc;
    cause = λ e. cc;
    later = let early = first.later in let late = gives.later in omega (arith, early, late);
  }
  adds-alone first Quit gives = absurd (gives.goes refl)
  adds-alone first SinkFault gives = record {
    gathers = λ told. takes-after (sink.taken before) (sink.taken mid) (sink.taken after) old line (first.delivers told) (gives.delivers told);
    runs = λ e. cc;
    cause = λ is. Rose-from (sink.faults before) (sink.faults mid) (sink.faults after) first.later (gives.cause is);
    later = let early = first.later in let late = gives.later in omega (arith, early, late);
  }

module _ {K : Type 0} {sink : Ghosts K} {line old new : List ℕ} {before mid after : K} where
  -- a line was gathered, and then all was given
  pub adds-gives : Adds sink line old new before mid Go → (turn : Turn) → Gives sink new mid after turn → Gives sink (old ++ line) before after turn
  adds-gives adds turn gives = record {
    delivers = λ told.
        let had = adds.gathers told in
        subst (λ (bytes : List ℕ). Delivers turn (sink.taken before) (sink.taken after) bytes) had.2
        (delivers-after turn (sink.taken before) (sink.taken mid) (sink.taken after) had.0 new had.1 (gives.delivers told));
    goes = gives.goes;
    cause = λ is. Rose-from (sink.faults before) (sink.faults mid) (sink.faults after) adds.later (gives.cause is);
    later = let first = adds.later in let second = gives.later in omega (arith, first, second);
  }

module _ {K : Type 0} {sink : Ghosts K} {first second old mid new : List ℕ} {before between after : K} where
  -- a text was gathered, and then another one
  pub adds-more : Adds sink first old mid before between Go → (turn : Turn) → Adds sink second mid new between after turn
      → Adds sink (first ++ second) old new before after turn
  adds-more adds Go more = record {
    gathers = λ told.
        let had = adds.gathers told in
        let has = more.gathers told in (
          had.0 ++ has.0,
          has.1 ∙ ap (λ (xs : List ℕ). xs ++ has.0) had.1 ∙ append_assoc (sink.taken before) had.0 has.0,
          append_assoc had.0 has.0 new
              ∙ ap (λ (xs : List ℕ). had.0 ++ xs) has.2
              ∙ sym (append_assoc had.0 mid second)
              ∙ ap (λ (xs : List ℕ). xs ++ second) had.2
              ∙ append_assoc old first second,
        );
    runs = λ e. cc;
    cause = λ e. cc;
    later = let early = adds.later in let late = more.later in omega (arith, early, late);
  }
  adds-more adds Quit more = absurd (more.runs refl)
  adds-more adds SinkFault more = record {
    gathers = λ told.
        let had = adds.gathers told in
        subst (λ (bytes : List ℕ). TakesFront (sink.taken before) (sink.taken after) bytes)
        (sym (append_assoc had.0 mid second) ∙ ap (λ (xs : List ℕ). xs ++ second) had.2 ∙ append_assoc old first second)
        (takes-after (sink.taken before) (sink.taken between) (sink.taken after) had.0 (mid ++ second) had.1 (more.gathers told));
    runs = λ e. cc;
    cause = λ is. Rose-from (sink.faults before) (sink.faults between) (sink.faults after) adds.later (more.cause is);
    later = let early = adds.later in let late = more.later in omega (arith, early, late);
  }

module _ {K : Type 0} {sink : Ghosts K} {first old mid : List ℕ} {before after : K} where
  -- the sink failed at the first of two
  pub adds-cut : (second : List ℕ) (turn : Turn) → Adds sink first old mid before after turn → turn ≢ Go → Adds sink (first ++ second) old mid before after turn
  adds-cut second Go adds stops = absurd (stops refl)
  adds-cut second Quit adds stops = absurd (adds.runs refl)
  adds-cut second SinkFault adds stops = record {
    gathers = λ told.
        subst (λ (bytes : List ℕ). TakesFront (sink.taken before) (sink.taken after) bytes) (append_assoc old first second)
        (takes-more (sink.taken before) (sink.taken after) (old ++ first) second (adds.gathers told));
    runs = λ e. cc;
    cause = adds.cause;
    later = adds.later;
  }

module _ {K : Type 0} {sink : Ghosts K} {line old new : List ℕ} {before after : K} where
  -- the sink failed at a line, after which all was to be given
  pub adds-unended : (turn : Turn) → Adds sink line old new before after turn → turn ≢ Go → Gives sink (old ++ line) before after turn
  adds-unended Go adds stops = absurd (stops refl)
  adds-unended Quit adds stops = absurd (adds.runs refl)
  adds-unended SinkFault adds stops = record { delivers = adds.gathers; goes = λ e. cc; cause = adds.cause; later = adds.later }

-- what was given to a sink that was lent was given to it
pub gives-back : {K : Type 0} {sink : Ghosts K} {text : List ℕ} {before : K} {turn : Turn} (now new : K) → new ≡ now → Gives sink text before now turn
    → Gives sink text before new turn
gives-back {sink = sink} {text = text} {before = before} {turn = turn} now new same gives = subst (λ k. Gives sink text before k turn) (sym same) gives
