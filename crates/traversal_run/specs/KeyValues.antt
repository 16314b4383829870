-- Values with the texts of their keys.
use Rattle.std.specs.Prelude.{◌≡◌, ℕ, ◌<◌, Bool, Option, List, [], ◌∷◌, map}
use Rattle.std.specs.FinMap as maps
use Rattle.std.specs.List.{filter_map}
use Rattle.std.specs.Option.{option_map}
use Rattle.std.specs.Cmp.Lexicographic.{slice_cmp}
use Rattle.std.specs.Ordering.{is_lt, nat_cmp}
use Rattle.plain_graph.specs.declared.item.Item.{Item}
use Rattle.plain_graph.specs.declared.item.Item.TheVariants as items
use Rattle.plain_graph.specs.Properties.{Properties}
use Rattle.plain_graph.specs.declared.value.Value.{Value}
use Rattle.prop_store.specs.Reading.{prop_of}
use Rattle.prop_store.specs.declared.prop.Prop.{Prop}
use Rattle.rec_bytes.specs.Format.{names_file}
use Rattle.store_rules.specs.Chains.{In}
use Rattle.store_rules.specs.Properties.{AreOnce, Property, keys_of, map_of}
use Rattle.store_rules.specs.Views.{Records, rec_at}
use Rattle.traversal_run.specs.Naming.{name_at, name_count}
use Rattle.traversal_run.specs.declared.key_values.Named.{Named}

-- the text of a key, and its value
abbrev pub entry_of : Named → List ℕ × Value
entry_of row = (row.key.now, row.value)

-- the same of a property that was read
abbrev pub named_entry : Records → Prop → List ℕ × Value
named_entry records prop = (name_at records prop.key, prop.value)

-- the value as a result
abbrev pub entry_item : List ℕ × Value → Item
entry_item entry = items.Value entry.1

-- the text of one key is below that of another
abbrev pub entry_below : List ℕ × Value → List ℕ × Value → Bool
entry_below a b = is_lt (slice_cmp nat_cmp a.0 b.0)

abbrev pub row_below : Named → Named → Bool
row_below a b = entry_below (entry_of a) (entry_of b)

-- a key with its value, where it has one
abbrev pub entry_at : Properties → List ℕ → Option (List ℕ × Value)
entry_at properties key = option_map (λ value. (key, value)) (maps.get properties key)

-- those of these keys, in their order, or where none is written all, in their own order
abbrev pub entries_of : Properties → List (List ℕ) → List (List ℕ × Value)
entries_of properties [] = maps.entries properties
entries_of properties (key ∷ keys) = filter_map (entry_at properties) (key ∷ keys)

-- What was read are the properties of an element, whose keys are names.
pub record AreRead (records : Records) (props : List Prop) (properties : Properties) : Type 0 where
  pub es : List Property
  pub read : props ≡ map prop_of es
  pub known : (key : ℕ) → In key (keys_of es) → key < name_count records
  pub once : AreOnce (keys_of es)
  pub are : properties ≡ map_of (rec_at records names_file) es
