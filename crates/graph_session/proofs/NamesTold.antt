-- The names that a space has, of those in memory.
use Rattle.std.proofs.Common.{◌≡◌, ◌<◌, ◌∙◌, ℕ, Some, List, [], ◌∷◌, ◌++◌, inl, inr, refl, get_or, slice_get, take, map, sym, ap}
use Rattle.std.proofs.Math.Seq.{take-append_seam}
use Rattle.std.proofs.lemmas.List.{get_or-take}
use Rattle.std.proofs.lemmas.Option.{get_or_from_slice_get}
use Rattle.rec_bytes.specs.declared.shape.Shape.{Shape}
use Rattle.store_rules.specs.Graph.{names_of}
use Rattle.store_rules.specs.Views.{Records}
use Rattle.name_store.proofs.FirstNames.{length-names_of}
use Rattle.traversal_run.specs.Naming.{name_count}
use Rattle.traversal_run.specs.Reading.{IsNamedStore}
use Rattle.plain_graph.specs.Lines.{listed}
use Rattle.plain_graph.specs.Reply.{item_line}
use Rattle.plain_graph.specs.declared.command.Command.TheVariants as commands
use Rattle.plain_graph.specs.declared.item.Item.TheVariants as items
use Rattle.plain_graph.specs.declared.value.Value.TheVariants as values
use Rattle.graph_session.specs.NameLists.{name_text}
use Rattle.graph_session.specs.State.{IsSpared}
use Rattle.graph_session.proofs.Questioned.{Asks}

-- a name among the first ones
pub name-taken : (names : List (List ℕ)) (count id : ℕ) (text : List ℕ) → id < count → slice_get names id ≡ Some text → get_or (take count names) id [] ≡ text
name-taken names count id text low is = get_or-take count names id [] low ∙ get_or_from_slice_get names id text [] is

-- the first ones are those of the store
pub names-first : (records : Records) (shape : Shape) (names : List (List ℕ)) → IsNamedStore records shape names → (count : ℕ) → count ≡ name_count records
    → take count names ≡ names_of records
names-first records shape names store count is =
    (λ i. take (is i) (store.named i))
    ∙ ap (λ (n : ℕ). take n (names_of records ++ store.more)) (sym (length-names_of records))
    ∙ take-append_seam (names_of records) store.more

-- ---- the line that asks for them

names-unspared : ¬ IsSpared commands.ViewNames
names-unspared (inl spared) = spared
names-unspared (inr (inl e)) = cc
names-unspared (inr (inr e)) = cc

pub asks-names : Asks commands.ViewNames
asks-names = record { question = tt; unspared = names-unspared; unchecked = λ e. cc; reading = listed []; formed = ([], refl) }

-- the lines of names are those of their items
pub name-lines : (names : List (List ℕ)) → map name_text names ≡ map item_line (map (λ (name : List ℕ). items.Value (values.Text name)) names)
name-lines [] = refl
name-lines (name ∷ later) = ap (λ (lines : List (List ℕ)). name_text name ∷ lines) (name-lines later)
