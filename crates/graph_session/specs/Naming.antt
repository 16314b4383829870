-- What it leaves to take the names of a store that was found again.
use Rattle.std.specs.Prelude.{◌≡◌, List, ℕ}
use Rattle.fault_count.specs.Cause.{Rose}
use Rattle.disk_model.specs.declared.disk.Disk.{Ghosts}
use Rattle.store_rules.specs.Graph.{names_of}
use Rattle.name_store.specs.Again.{IsFirstOther}
use Rattle.txn_core.specs.Store.{drafted}
use Rattle.txn_core.specs.declared.store.Store.{Store}
use Rattle.rec_bytes.specs.declared.fault.Fault.TheVariants as faults
use Rattle.graph_session.specs.declared.answer.Answer.{Answer}
use Rattle.graph_session.specs.declared.answer.Answer.TheVariants as answers
use Rattle.graph_session.specs.declared.health.Health.{Health}
use Rattle.graph_session.specs.declared.health.Health.TheVariants as healths

-- The session is live, and its names are those of the store.
pub record IsNamed {D : Type 0} {g : Ghosts D} (store : Store D g) (names : List (List ℕ))
    (health : Health) : Type 0 where
  pub live : health ≡ healths.Live
  pub named : g.tells_reads → names ≡ names_of (drafted store)

-- It is failed yet, with the names that it had.
pub record IsUnnamed (old names : List (List ℕ)) (health : Health) : Type 0 where
  pub failed : health ≡ healths.Failed
  pub same : names ≡ old

-- What the names and the health are after the answer. The disk is blamed only where it failed, and
-- of the records the first name that isn't the one in memory.
abbrev pub TakesNames : {D : Type 0} {g : Ghosts D} → Store D g → Store D g → List (List ℕ)
    → List (List ℕ) → Health → Answer → Type 0
TakesNames old new was names health answers.Done = IsNamed old names health
TakesNames old new was names health (answers.NodeMade id) = ⊥
TakesNames old new was names health (answers.EdgeMade id) = ⊥
TakesNames old new was names health (answers.Results results) = ⊥
TakesNames old new was names health (answers.Refused why) = ⊥
TakesNames old new was names health (answers.Fault faults.Memory) = ⊥
TakesNames {g = g} old new was names health (answers.Fault faults.Disk) =
    IsUnnamed was names health × Rose (g.faults old.base.disk.now) (g.faults new.base.disk.now)
TakesNames {g = g} old new was names health (answers.Fault (faults.Damaged damage)) =
    IsUnnamed was names health × (g.tells_reads → IsFirstOther (drafted old) was damage)
