-- What a space ends as, where a record was handed out for writing.
use Rattle.std.specs.Prelude.{◌≡◌, ℕ, Result}
use Rattle.std.specs.Borrow.{LendsSoOk, MutBor, Fml, RattleType}
use Rattle.rec_bytes.specs.declared.record.Rec.{Rec}
use Rattle.rec_bytes.specs.declared.key.Key.{Key}
use Rattle.rec_bytes.specs.declared.space.SpaceFault.{SpaceFault}
use Rattle.rec_bytes.specs.contracts.record.Rec.{the_row}
use Rattle.rec_bytes.specs.Space.{State, HasCause, after_get, after_put}

module _
    {S : Type 0} (state_of : S → State) (faults_of : S → ℕ) (onward_of : S → S → Type 0)
    (old : S) (key : Key) (r : Result (MutBor Rec) SpaceFault) where
  -- the record was read, and the last one written through the reference stands at the key
  pub record Edits (new : S) (rec : Rec) : Type 0 where
    pub state : state_of new ≡ after_put (after_get (state_of old)) key rec
    pub onward : onward_of old new
    pub cause : HasCause (faults_of old) (faults_of new) r

  -- the record was read
  pub record Refuses (new : S) : Type 0 where
    pub state : state_of new ≡ after_get (state_of old)
    pub onward : onward_of old new
    pub cause : HasCause (faults_of old) (faults_of new) r

abbrev pub LendsRecord :
    (S : RattleType) → (S.Denot → State) → (S.Denot → ℕ) → (S.Denot → S.Denot → Type 0)
    → MutBor S.Denot → Key → Result (MutBor Rec) SpaceFault → Fml
LendsRecord S state faults onward s key r =
    LendsSoOk S the_row s r (Edits state faults onward s.now key r)
    (Refuses state faults onward s.now key r)
