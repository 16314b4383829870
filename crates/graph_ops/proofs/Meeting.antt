-- Elements that are met one after the other, each taken once.
use Rattle.std.proofs.Common.{◌≡◌, ℕ, List, [], ◌++◌, drop}
use Rattle.plain_graph.specs.declared.command.Target.{Target}
use Rattle.plain_graph.specs.declared.item.Item.{Item}
use Rattle.graph_ops.specs.Distinct.{Agree}
use Rattle.plain_graph.specs.Mutations.{elements_of, targets_once}

-- The elements so far are each met once, and those to come give the rest.
pub record AreDistinct (nodes edges : List ℕ) (distinct : List Target) (results : List Item) (i : ℕ) : Type 0 where
  pub agree : Agree nodes edges distinct
  pub rest : distinct ++ targets_once distinct (elements_of (drop i results)) ≡ targets_once [] (elements_of results)
