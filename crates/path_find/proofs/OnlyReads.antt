-- Spaces that were only read.
use Rattle.std.proofs.Common.{◌≡◌, ℕ, zero, suc, ◌≤◌, refl, sym, ap, subst, ◌∙◌, arith}
use Rattle.rec_bytes.specs.Frame.{IsRead}
use Rattle.rec_bytes.specs.Space.{SameButReads, State, after_gets}
use Rattle.rec_bytes.specs.declared.fault.Fault.{Fault}
use Rattle.rec_bytes.specs.declared.space.Reads.{Ghosts}
use Rattle.rec_bytes.proofs.Spaces.{records-after_gets}
use Rattle.path_find.specs.Damage.{BlamesBroken}
use Rattle.store_rules.specs.Rules.{IsWhole}

-- reads write nothing
written-after_gets : (n : ℕ) (s : State) → (after_gets n s).written ≡ s.written
unfolding after_gets
written-after_gets zero s = refl
written-after_gets (suc n) s = written-after_gets n s

module _ {R : Type 0} (space : Ghosts R) where
  -- nothing was read
  pub is_read-none : ((a : R) → space.onward a a) → (a : R) → IsRead space a a
  is_read-none stays a = record { records = refl; written = refl; onward = stays a; later = omega arith }

  -- more was read
  pub is_read-on : ((a b c : R) → space.onward a b → space.onward b c → space.onward a c) → (a b c : R) → IsRead space a b → IsRead space b c → IsRead space a c
  is_read-on further a b c first more = record {
    records = more.records ∙ first.records;
    written = more.written ∙ first.written;
    onward = further a b c first.onward more.onward;
    later = let early = first.later in let late = more.later in omega (arith, early, late);
  }

  -- so many records were read
  pub is_read-gets : (n : ℕ) (a b : R) → space.state b ≡ after_gets n (space.state a) → space.onward a b → space.faults a ≤ space.faults b → IsRead space a b
  is_read-gets n a b is onward later = record {
    records = ap (λ (s : State). s.records) is ∙ records-after_gets n (space.state a);
    written = ap (λ (s : State). s.written) is ∙ written-after_gets n (space.state a);
    onward = onward;
    later = later;
  }

  module _ (keeps_shape : (a b : R) → space.onward a b → (space.state b).shape ≡ (space.state a).shape) where
    -- the count of reads alone is another
    pub same-read : (a b : R) → IsRead space a b → SameButReads (space.state a) (space.state b)
    same-read a b read = λ i. record {
      records = read.records i;
      written = read.written i;
      reads = (space.state b).reads;
      shape = keeps_shape a b read.onward i;
    }

    -- the store is as it was
    pub store-read : (a b : R) → IsRead space a b → IsWhole (space.state a) → IsWhole (space.state b)
    store-read a b read store = subst IsWhole (sym (same-read a b read)) store

    -- and so is what breaks a rule
    pub broken-read : (a b : R) → IsRead space a b → (fault : Fault) → BlamesBroken (space.state b) fault → BlamesBroken (space.state a) fault
    broken-read a b read fault = subst (λ (s : State). BlamesBroken s fault) (same-read a b read)
