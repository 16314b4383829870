-- The lines of names.
use Rattle.std.specs.Prelude.{ℕ, List}
use Rattle.plain_graph.specs.Reply.{item_line}
use Rattle.plain_graph.specs.declared.item.Item.TheVariants as items
use Rattle.plain_graph.specs.declared.value.Value.TheVariants as values

-- the line of a name
abbrev pub name_text : List ℕ → List ℕ
name_text name = item_line (items.Value (values.Text name))
