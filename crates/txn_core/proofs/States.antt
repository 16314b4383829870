-- What a store is as a space, after a read and after a write.
use Rattle.std.proofs.Common.{◌≡◌, ◌∙◌, ap, sym, ℕ, false, Option, Some, None, Ok, Result, unwrap_or, refl, arith}
use Rattle.fault_count.specs.Cause.{raised}
use Rattle.disk_model.specs.declared.disk.Disk.{Ghosts}
use Rattle.rec_bytes.specs.declared.key.Key.{Key}
use Rattle.rec_bytes.specs.declared.record.Rec.{Rec}
use Rattle.rec_bytes.specs.declared.shape.Shape.{Shape}
use Rattle.rec_bytes.specs.declared.space.SpaceFault.{SpaceFault}
use Rattle.rec_bytes.specs.Pairs.{Pairs, find_pair, held_at, with_pair}
use Rattle.rec_bytes.specs.Space.{HasCause, State, after_get, after_put, laid_state}
use Rattle.rec_bytes.proofs.Spaces.{laid_state-put}
use Rattle.txn_core.specs.declared.store.Store.{Store}
use Rattle.txn_core.specs.Store.{drafted, state_of, working}

-- what lies beneath the draft
abbrev pub beneath : (Key → Rec) → ℕ → Shape → State
beneath records reads shape = record { records = records; written = λ _. false; reads = reads; shape = shape }

-- one read more
pub state_read : (draft : Pairs) (old new : Key → Rec) (reads : ℕ) (next : ℕ) (shape other : Shape) → new ≡ old → next ≡ raised reads → other ≡ shape
    → laid_state (beneath new next other) draft ≡ after_get (laid_state (beneath old reads shape) draft)
state_read draft old new reads next shape other records count same = λ i. laid_state (beneath (records i) (count i) (same i)) draft

-- the draft's record is over what is beneath already
held_twice : (pairs : Pairs) (key : Key) (below : Rec) → held_at pairs key (held_at pairs key below) ≡ held_at pairs key below
held_twice pairs key below = pick (find_pair pairs key)
  where
    pick : (o : Option Rec) → unwrap_or o (unwrap_or o below) ≡ unwrap_or o below
    pick (Some rec) = refl
    pick None = refl

module _ {D : Type 0} (g : Ghosts D) where
  -- the record that is handed out
  pub state_edited : (old mid : Store D g) (key : Key) (below : Rec) → state_of mid ≡ after_get (state_of old) → below ≡ drafted old key
      → held_at mid.draft.pairs key below ≡ drafted old key
  state_edited old mid key below state is =
      let same : drafted mid key ≡ drafted old key = ap (λ (s : State). s.records key) state in
      ap (held_at mid.draft.pairs key) (is ∙ sym same) ∙ held_twice mid.draft.pairs key (working mid key) ∙ same

  -- and written
  pub state_written : (old mid new : Store D g) (key : Key) (rec : Rec) → state_of mid ≡ after_get (state_of old) → new.base ≡ mid.base → new.reads ≡ mid.reads
      → new.draft.pairs ≡ with_pair mid.draft.pairs key rec
      → state_of new ≡ after_put (after_get (state_of old)) key rec
  state_written old mid new key rec state base reads draft =
      (λ i. laid_state (beneath (working (record mid { base = base i })) (reads i) (base i).shape) new.draft.pairs)
      ∙ laid_state-put (beneath (working mid) mid.reads mid.base.shape) mid.draft.pairs new.draft.pairs key rec draft
      ∙ ap (λ (s : State). after_put s key rec) state

  -- or not
  pub state_refused : (old mid new : Store D g) → state_of mid ≡ after_get (state_of old) → new.base ≡ mid.base → new.reads ≡ mid.reads
      → new.draft.pairs ≡ mid.draft.pairs → state_of new ≡ after_get (state_of old)
  state_refused old mid new state base reads draft = (λ i. laid_state (beneath (working (record mid { base = base i })) (reads i) (base i).shape) (draft i))
      ∙ state

-- a call that went well blames nobody
pub no_blame : {T U : Type 0} (before now : ℕ) (r : Result T SpaceFault) (x : U) → HasCause before now r → HasCause {T = U} before now (Ok x)
no_blame before now r x h = record { later = h.later; disk = search arith }
