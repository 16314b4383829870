-- The draft of a store that was only read.
use Rattle.std.proofs.Common.{◌≡◌, ◌∙◌, ℕ, zero, suc, Bool, false, Some, is_some, if◌then◌else◌, [], ◌∷◌, refl, sym, ap}
use Rattle.std.proofs.lemmas.Bool.{true≢false}
use Rattle.disk_model.specs.declared.disk.Disk.{Ghosts}
use Rattle.rec_bytes.specs.Pairs.{Pairs, find_pair}
use Rattle.rec_bytes.specs.Space as spaces
use Rattle.rec_bytes.specs.Space.{after_gets}
use Rattle.rec_bytes.specs.declared.key.Key.{Key}
use Rattle.rec_bytes.proofs.KeyLaws.{key_eq-same}
use Rattle.txn_core.specs.Store as store
use Rattle.txn_core.specs.declared.store.Store.{Store}

-- pairs in which no key is found
none-found : (pairs : Pairs) → ((key : Key) → is_some (find_pair pairs key) ≡ false) → pairs ≡ []
none-found [] none = refl
none-found (pair ∷ rest) none = absurd (true≢false (ap (λ (b : Bool). is_some (if b then Some pair.1 else find_pair rest pair.0)) (sym (key_eq-same pair.0))
    ∙ none pair.0))

-- reads write no key
written-gets : (n : ℕ) (s : spaces.State) → (after_gets n s).written ≡ s.written
unfolding after_gets
written-gets zero s = refl
written-gets (suc n) s = written-gets n s

module _ {D : Type 0} {g : Ghosts D} where
  -- no key was written, so the draft is empty yet
  pub draft-kept : (old new : Store D g) → (store.state_of new).written ≡ (store.state_of old).written → old.draft.pairs ≡ [] → new.draft.pairs ≡ []
  draft-kept old new written none =
      none-found new.draft.pairs (λ key. ap (λ (keys : Key → Bool). keys key) written ∙ ap (λ (pairs : Pairs). is_some (find_pair pairs key)) none)

  -- and so it is after reads
  pub draft-read : (old new : Store D g) (count : ℕ) → store.state_of new ≡ after_gets count (store.state_of old) → old.draft.pairs ≡ [] → new.draft.pairs ≡ []
  draft-read old new count is = draft-kept old new (ap (λ (s : spaces.State). s.written) is ∙ written-gets count (store.state_of old))
