-- What holds where a call ends and nothing was given, or nothing more was read.
use Rattle.std.specs.Prelude.{Result, Err}
use Rattle.std.proofs.Common.{◌≡◌, ◌<◌, ◌≤◌, ℕ, ◌+◌, Bool, true, false, Option, None, Some, List, [], ◌∷◌, length, inr, refl, sym, ap, ◌∙◌, subst, arith}
use Rattle.plain_graph.specs.declared.item.Item.{Item}
use Rattle.prop_store.specs.Reading.{ReadsAtMost}
use Rattle.prop_store.proofs.ReadCounts.{reads_more}
use Rattle.rec_bytes.specs.Fault.{HasFaultCause}
use Rattle.rec_bytes.specs.Space.{State}
use Rattle.rec_bytes.specs.declared.fault.Fault.TheVariants as faults
use Rattle.traversal_run.specs.Held.{IsBatch}
use Rattle.traversal_run.specs.Row.{AreIdle, stages_of}
use Rattle.traversal_run.specs.Run.{allowed_by}
use Rattle.traversal_run.specs.Scan.{limit_row}
use Rattle.traversal_run.specs.Stage.{with_more}
use Rattle.traversal_run.specs.Stop.{HasStopCause}
use Rattle.traversal_run.specs.declared.row.Row.{Row}
use Rattle.traversal_run.specs.declared.stop.Stop.TheVariants as stops

-- ---- causes

-- want of memory blames no disk
pub memory_blames : {T : Type 0} (before now : ℕ) → before ≤ now → HasFaultCause {T = T} before now (Err faults.Memory)
memory_blames before now early = record { later = early; disk = λ blamed. absurd cc }

-- nor does the end, or a count that passes
pub end_blames : {T : Type 0} (before now : ℕ) → before ≤ now → HasStopCause {T = T} before now (Err stops.End)
end_blames before now early = record { later = early; disk = λ blamed. absurd cc }

pub past_blames : {T : Type 0} (before now : ℕ) → before ≤ now → HasStopCause {T = T} before now (Err stops.PastCount)
past_blames before now early = record { later = early; disk = λ blamed. absurd cc }

-- ---- reads

-- what comes after a first one
pub reads_first : (n : ℕ) (s t : State) → ReadsAtMost 1 s t → ReadsAtMost (1 + n) s t
reads_first n s t reads = reads_more 1 (1 + n) s t (omega arith) reads

-- ---- a step that gives nothing

-- a limit lets as many through
pub limit_none : (left : Option ℕ) (outs : List Item) → outs ≡ [] → with_more left (length outs) ≡ left
limit_none None outs none = refl
limit_none (Some n) outs none = let long : length outs ≡ 0 = ap length none in ap (λ m. Some m) (omega (arith, long))

-- nothing is no more than one item
pub few_none : (d : ℕ) (is_behind_hop : Bool) (outs : List Item) → outs ≡ [] → IsBatch d is_behind_hop outs
few_none d is_behind_hop outs none = let long : length outs ≡ 0 = ap length none in inr (omega (arith, long))

-- ---- rows

-- where an item waits for the only step, the rows aren't idle
pub idle_none : (rows : List Row) (most : ℕ) (item : Item) → rows ≡ limit_row most (item ∷ []) ∷ [] → AreIdle rows → ⊥
idle_none rows most item is idle = some_waits (subst AreIdle is idle).0
  where
    some_waits : item ∷ [] ≡ [] → ⊥
    some_waits e = cc

-- an item that came from the source is ready where no step takes it
pub allowed-sourced : (over : Bool) (rows later : List Row) (ready : List Item) → stages_of later ≡ stages_of rows → over ≡ false
    → (0 < length rows → ready ≡ []) → allowed_by over (stages_of later) (length ready) ≡ allowed_by over (stages_of rows) 0
allowed-sourced over [] later ready same going passed =
    (λ i. allowed_by (going i) (same i) (length ready)) ∙ ap (λ (b : Bool). allowed_by b [] 0) (sym going)
allowed-sourced over (row ∷ rows) later ready same going passed =
    let none = passed (omega arith) in
    λ i. allowed_by over (same i) (length (none i))
