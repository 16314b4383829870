-- Spaces that were only read.
use Rattle.std.proofs.Common.{◌≡◌, ℕ, zero, suc, ◌≤◌, List, refl, sym, ap, ◌∙◌, arith}
use Rattle.rec_bytes.specs.Space.{SameButReads, State, after_get, after_gets}
use Rattle.rec_bytes.specs.declared.space.Reads.{Ghosts as SpaceGhosts}
use Rattle.traversal_run.specs.Reading.{IsNamedStore, IsRead}

-- reads change the count of reads alone
gets_same : (n : ℕ) (s : State) → SameButReads s (after_gets n s)
unfolding after_gets
gets_same zero s = refl
gets_same (suc n) s = ap after_get (gets_same n s)

then_same : (n : ℕ) (s t : State) → t ≡ after_gets n s → SameButReads s t
then_same n s t is = is ∙ gets_same n s ∙ ap (λ (u : State). record s { reads = u.reads }) (sym is)

module _ {R : Type 0} (space : SpaceGhosts R) where
  -- nothing was read
  pub is_read-none : ((a : R) → space.onward a a) → (r : R) → IsRead space r r
  is_read-none stays r = record { same = refl; onward = stays r; later = omega arith }

  -- more was read
  pub is_read-on : ((a b c : R) → space.onward a b → space.onward b c → space.onward a c) → (a b c : R) → IsRead space a b → IsRead space b c → IsRead space a c
  is_read-on further a b c first more = record {
    same = more.same ∙ ap (λ (s : State). record s { reads = (space.state c).reads }) first.same;
    onward = further a b c first.onward more.onward;
    later = let early = first.later in let late = more.later in omega (arith, early, late);
  }

  -- so many records were read
  pub is_read-gets : (n : ℕ) (a b : R) → space.state b ≡ after_gets n (space.state a) → space.onward a b → space.faults a ≤ space.faults b → IsRead space a b
  is_read-gets n a b is onward later = record { same = then_same n (space.state a) (space.state b) is; onward = onward; later = later }

  -- the store is as it was
  pub named-read : (a b : R) (names : List (List ℕ)) → IsRead space a b → IsNamedStore (space.state a).records (space.state a).shape names
      → IsNamedStore (space.state b).records (space.state b).shape names
  named-read a b names read store = rw read.same store
