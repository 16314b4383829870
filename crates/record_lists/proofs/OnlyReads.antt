-- Spaces that were only read.
use Rattle.std.proofs.Common.{◌≡◌, ◌≤◌, ◌∙◌, ℕ, zero, suc, arith, ap, refl}
use Rattle.rec_bytes.specs.Frame.{IsRead}
use Rattle.rec_bytes.specs.Space.{State, after_get, after_gets}
use Rattle.rec_bytes.specs.declared.space.Reads.{Ghosts}
use Rattle.rec_bytes.proofs.Spaces.{records-after_gets}

-- reads write nothing
written-after_gets : (n : ℕ) (s : State) → (after_gets n s).written ≡ s.written
unfolding after_gets
written-after_gets zero s = refl
written-after_gets (suc n) s = written-after_gets n s

module _ {R : Type 0} (space : Ghosts R) where
  -- nothing was read
  pub is_read-none : ((a : R) → space.onward a a) → (a : R) → IsRead space a a
  is_read-none stays a = record { records = refl; written = refl; onward = stays a; later = omega arith }

  -- more was read
  pub is_read-on : ((a b c : R) → space.onward a b → space.onward b c → space.onward a c) → (a b c : R) → IsRead space a b → IsRead space b c → IsRead space a c
  is_read-on further a b c first more = record {
    records = more.records ∙ first.records;
    written = more.written ∙ first.written;
    onward = further a b c first.onward more.onward;
    later = let early = first.later in let late = more.later in omega (arith, early, late);
  }

  -- a record was read
  pub is_read-get : (a b : R) → space.state b ≡ after_get (space.state a) → space.onward a b → space.faults a ≤ space.faults b → IsRead space a b
  is_read-get a b is onward later = record {
    records = ap (λ (s : State). s.records) is;
    written = ap (λ (s : State). s.written) is;
    onward = onward;
    later = later;
  }

  -- so many records were read
  pub is_read-gets : (n : ℕ) (a b : R) → space.state b ≡ after_gets n (space.state a) → space.onward a b → space.faults a ≤ space.faults b → IsRead space a b
  is_read-gets n a b is onward later = record {
    records = ap (λ (s : State). s.records) is ∙ records-after_gets n (space.state a);
    written = ap (λ (s : State). s.written) is ∙ written-after_gets n (space.state a);
    onward = onward;
    later = later;
  }
