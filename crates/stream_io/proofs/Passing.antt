-- Step after step of a reader's call.
use Rattle.std.proofs.Common.{◌≡◌, ◌≢◌, ◌⊎◌, inl, inr, ℕ, ◌+◌, ◌*◌, ◌-◌, ◌^◌, ◌≤◌, ◌<◌, Bool, true, false, List, []}
use Rattle.std.proofs.Common.{◌∷◌, ◌++◌, length, refl, sym, ◌∙◌, ap, subst, arith, length-append, append_assoc, cond}
use Rattle.stream_io.specs.Lines.{InputLine, Whole, Long, line_of}
use Rattle.stream_io.specs.Answers.{IsPiece, TakesLine, Drops}
use Rattle.stream_io.specs.Reading.{Reading, ahead, used}
use Rattle.stream_io.specs.Steps.{PassesPart, FindsPiece, StepTakes, StepCounts, OutcomeTakes, OutcomeCounts}
use Rattle.stream_io.specs.declared.line_reader.Found.{Found}
use Rattle.stream_io.specs.declared.line_reader.Found.TheVariants as founds
use Rattle.stream_io.specs.declared.line_reader.Outcome.{Outcome}
use Rattle.stream_io.specs.declared.line_reader.Outcome.TheVariants as outcomes
use Rattle.stream_io.specs.declared.line_reader.Step.TheVariants as steps
use Rattle.std.proofs.lemmas.Bool.Decides.{nat_tests}
use Rattle.stream_io.proofs.Ranges.{IsPiece-append}

-- Since the call began, a part of the line was dropped that is too long by itself, or nothing was.
pub record Passed (tells : Type 0) (start : Reading) (left_start : List ℕ) (dropped : Bool) (now : Reading) (left : List ℕ) : Type 0 where
  pub part : tells → PassesPart false dropped (ahead start left_start) (ahead now left)
  pub no_less : used start ≤ used now
  pub more : dropped ≡ true → used start < used now
  pub start_goes_on : now.ended ≡ false → start.ended ≡ false
  pub asked : start.ended ≡ false → now.ended ≡ true → now.taken < 2 ^ 30

long_line : (piece : List ℕ) → 8192 < length piece → line_of piece ≡ Long
long_line piece long = grind (arith, nat_tests)

pub parts_joined : {a b c : List ℕ} (d e : Bool) → PassesPart false d a b → PassesPart d e b c → PassesPart false e a c
parts_joined {a} {b} {c} d e p q = elim p.is_part [
  | inl none ↦
      let start : a ≡ b = p.split ∙ ap (λ (xs : List ℕ). xs ++ b) none.0 in
      elim q.is_part [
        | inl still ↦ record { part = []; split = start ∙ q.split ∙ ap (λ (xs : List ℕ). xs ++ c) still.0; is_part = inl (refl, still.1 ∙ none.1) }
        | inr long ↦ record { part = q.part; split = start ∙ q.split; is_part = inr long }
      ]
  | inr before ↦ elim q.is_part [
    | inl still ↦ record {
      part = p.part;
      split = p.split ∙ ap (λ (xs : List ℕ). p.part ++ xs) (q.split ∙ ap (λ (xs : List ℕ). xs ++ c) still.0);
      is_part = inr (before.0, before.1, still.1 ∙ before.2);
    }
    | inr long ↦ record {
      part = p.part ++ q.part;
      split = p.split ∙ ap (λ (xs : List ℕ). p.part ++ xs) q.split ∙ sym (append_assoc p.part q.part c);
      is_part = inr (IsPiece-append p.part q.part before.0 long.0, omega (arith, before.1, length-append p.part q.part), long.2);
    }
  ]
]

-- what is dropped behind a part is dropped with it
drops_joined : {a b c : List ℕ} (d : Bool) → PassesPart false d a b → Drops b c → Drops a c
drops_joined {a} {b} {c} d p q = record {
  piece = p.part ++ q.piece;
  no_newline = IsPiece-append p.part q.piece (part_piece p.is_part) q.no_newline;
  split = p.split ∙ ap (λ (xs : List ℕ). p.part ++ xs) q.split ∙ sym (append_assoc p.part q.piece c);
} where
  part_piece : ((p.part ≡ []) × (d ≡ false)) ⊎ (IsPiece p.part × (8192 < length p.part) × (d ≡ true)) → IsPiece p.part
  part_piece (inl none) = subst IsPiece (sym none.0) tt
  part_piece (inr long) = long.0

not_nil : (xs : List ℕ) → 0 < length xs → xs ≢ []
not_nil [] h e = absurd (omega arith)
not_nil (x ∷ xs) h e = cc

-- The end of a line behind the part that was dropped of it.
line_joined : {a b c : List ℕ} (d : Bool) (line : InputLine) (found : Found) (new : Reading) → PassesPart false d a b → (f : FindsPiece found d b c new)
    → (d ≡ false → line_of f.piece ≡ line) → (d ≡ true → line ≡ Long) → TakesLine line a c new.ended
line_joined {a} {b} {c} d line found new p f short long = elim p.is_part [
  | inl none ↦
      let start : a ≡ b = p.split ∙ ap (λ (xs : List ℕ). xs ++ b) none.0 in
      record {
        piece = f.piece;
        no_newline = f.no_newline;
        line_is = short none.1;
        split = elim f.split [ inl ended ↦ inl (start ∙ ended) | inr last ↦ inr (start ∙ last.0, last.3 none.1, last.1, last.2) ];
      }
  | inr before ↦
      let size : 8192 < length (p.part ++ f.piece) = omega (arith, before.1, length-append p.part f.piece) in
      record {
        piece = p.part ++ f.piece;
        no_newline = IsPiece-append p.part f.piece before.0 f.no_newline;
        line_is = long_line (p.part ++ f.piece) size ∙ sym (long before.2);
        split = elim f.split [
          | inl ended ↦ inl (p.split ∙ ap (λ (xs : List ℕ). p.part ++ xs) ended ∙ sym (append_assoc p.part f.piece (10 ∷ c)))
          | inr last ↦ inr (p.split ∙ ap (λ (xs : List ℕ). p.part ++ xs) last.0, not_nil (p.part ++ f.piece) (omega (arith, size)), last.1, last.2)
        ];
      }
]

-- the outcome of a call whose last step says this
pub outcome_takes : (o : Outcome) (d : Bool) (a b c : List ℕ) (new : Reading) → PassesPart false d a b → StepTakes (steps.Ended o) d b c new
    → OutcomeTakes o a c new
outcome_takes (outcomes.Found founds.Line) d a b c new p f = line_joined d (Whole new.line) founds.Line new p f (λ _. f.is_found.1)
    (λ e. absurd (cc (e, f.is_found.0)))
outcome_takes (outcomes.Found founds.TooLong) d a b c new p f = line_joined d Long founds.TooLong new p f
    (λ e. elim f.is_found [ inl was ↦ absurd (cc (was, e)) | inr is ↦ is ]) (λ _. refl)
outcome_takes outcomes.End d a b c new p f = elim p.is_part [
  | inl none ↦ (p.split ∙ ap (λ (xs : List ℕ). xs ++ b) none.0 ∙ f.1, f.2, f.3)
  | inr long ↦ absurd (cc (long.2, f.0))
]
outcome_takes outcomes.SourceFault d a b c new p f = drops_joined d p f
outcome_takes outcomes.Exhausted d a b c new p f = drops_joined d p f

-- a step further
pub passed_on : (tells : Type 0) (start now new : Reading) (left_start left left_new : List ℕ) (d e : Bool) → Passed tells start left_start d now left
    → (tells → PassesPart d e (ahead now left) (ahead new left_new)) → StepCounts (steps.GoOn e) d now new → Passed tells start left_start e new left_new
passed_on tells start now new left_start left left_new d e p takes c = record {
  part = λ t. parts_joined d e (p.part t) (takes t);
  no_less = omega (arith, p.no_less, c.1);
  more = λ is. elim (c.2 is) [ inl was ↦ omega (arith, p.more was, c.1) | inr rose ↦ omega (arith, p.no_less, rose) ];
  start_goes_on = λ _. p.start_goes_on c.0.had_not_ended;
  asked = λ _ ended. elim c.0.goes_on [ inl on ↦ absurd (cc (on.0, ended)) | inr off ↦ omega (arith, off.1, c.0.below_limit) ];
}

pub passed_none : (tells : Type 0) (start : Reading) (left : List ℕ) → Passed tells start left false start left
passed_none tells start left = record {
  part = λ t. record { part = []; split = refl; is_part = inl (refl, refl) };
  no_less = omega arith;
  more = λ e. absurd (cc e);
  start_goes_on = λ e. e;
  asked = λ e f. absurd (cc (e, f));
}

-- how far the call is from its end
abbrev pub still_to_come : Reading → ℕ
still_to_come r = 2 * (2 ^ 30 - r.taken) + cond r.ended 0 1
