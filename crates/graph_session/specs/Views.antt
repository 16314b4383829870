-- The line of an element that is shown, and the answer in its place.
use Rattle.std.specs.Prelude.{◌≡◌, ℕ, None, Some, List}
use Rattle.fault_count.specs.Cause.{Rose}
use Rattle.plain_graph.specs.ElementMaps.{making_text}
use Rattle.plain_graph.specs.Graph.{Graph}
use Rattle.plain_graph.specs.Lines.{item_at}
use Rattle.plain_graph.specs.Reply.{text_line}
use Rattle.plain_graph.specs.declared.command.Target.{Target}
use Rattle.plain_graph.specs.declared.command.Target.TheVariants as targets
use Rattle.plain_graph.specs.declared.element_map.ElementMap.{ElementMap}
use Rattle.plain_graph.specs.declared.item.Item.{Item}
use Rattle.plain_graph.specs.declared.refusal.Refusal.{Refusal}
use Rattle.plain_graph.specs.declared.refusal.Refusal.TheVariants as refusals
use Rattle.rec_bytes.specs.declared.space.Reads.{Ghosts as SpaceGhosts}
use Rattle.store_rules.specs.Breaking.{Breaks}
use Rattle.store_rules.specs.Graph.{graph_of}
use Rattle.traversal_run.specs.Reading.{IsNamedStore}
use Rattle.traversal_run.specs.Viewing.{view_of}
use Rattle.rec_bytes.specs.declared.fault.Fault.TheVariants as faults
use Rattle.graph_session.specs.declared.answer.Answer.{Answer}
use Rattle.graph_session.specs.declared.answer.Answer.TheVariants as answers

-- the refusal of an element that isn't there
abbrev pub no_element : Target → Refusal
no_element (targets.Node id) = refusals.NoNode id
no_element (targets.Edge id) = refusals.NoEdge id

-- The line makes some element, which over a store is the one of its graph that is named, with all
-- its properties.
pub record MakesElement {R : Type 0} (space : SpaceGhosts R) (names : List (List ℕ))
    (target : Target) (at : R) (line : List ℕ) : Type 0 where
  pub item : Item
  pub element : ElementMap
  pub is : line ≡ text_line (making_text item element)
  pub viewed : space.tells
      → IsNamedStore (space.state at).records (space.state at).shape names
      → view_of (graph_of (space.state at).records) target ≡ Some (item, element)

-- The answer in place of the line. The disk is blamed only where it failed, and a record only where
-- it breaks a rule.
abbrev pub IsViewAnswer : {R : Type 0} → SpaceGhosts R → Target → R → R → Answer → Type 0
IsViewAnswer space target at now (answers.Refused why) = why ≡ no_element target
IsViewAnswer space target at now (answers.Fault faults.Memory) = Unit {0}
IsViewAnswer space target at now (answers.Fault faults.Disk) =
    Rose (space.faults at) (space.faults now)
IsViewAnswer space target at now (answers.Fault (faults.Damaged damage)) =
    space.tells → Breaks (space.state at).records (space.state at).shape damage
IsViewAnswer space target at now _ = ⊥

-- In a store the element isn't there where it is refused.
abbrev pub IsViewRefusal : Graph → Target → Answer → Type 0
IsViewRefusal graph target (answers.Refused why) = item_at graph target ≡ None
IsViewRefusal graph target _ = Unit {0}
