-- The results of a change: that each has a line is known in one way.
use Rattle.std.specs.Prelude.{List, [], ◌∷◌}
use Rattle.std.specs.List.{AllByRecursion}
use Rattle.std.proofs.Props.{props}
use Rattle.plain_graph.specs.Forms.{IsKept, IsShown}
use Rattle.plain_graph.specs.declared.item.Item.{Item}
use Rattle.plain_graph.specs.declared.item.Item.TheVariants as items
use Rattle.plain_graph.specs.declared.value.Value.{Value}
use Rattle.plain_graph.specs.declared.value.Value.TheVariants as values

IsKept-prop : (value : Value) → IsProp (IsKept value)
IsKept-prop (values.Int number) = hlevel props
IsKept-prop (values.Bool truth) = hlevel props
IsKept-prop (values.Text text) = hlevel props

IsShown-prop : (item : Item) → IsProp (IsShown item)
IsShown-prop (items.Vertex id) = hlevel props
IsShown-prop (items.Edge id label from to) = hlevel props
IsShown-prop (items.Value value) = IsKept-prop value

pub AreShown-prop : (items : List Item) → IsProp (AllByRecursion IsShown items)
AreShown-prop [] = hlevel props
AreShown-prop (item ∷ later) = hlevel (props, IsShown-prop item, AreShown-prop later)
