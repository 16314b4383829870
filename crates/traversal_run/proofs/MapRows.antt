-- The rows of all keys or of some, and what they cost.
use Rattle.std.proofs.Common.{All, ◌≡◌, ◌≢◌, ◌<◌, ◌∙◌, ◌==◌, ◌+◌, true, false}
use Rattle.std.proofs.Common.{List, [], ◌∷◌, length, map, refl, sym, ap, subst, arith}
use Rattle.std.specs.FinMap as maps
use Rattle.std.proofs.lemmas.Bool.{false≢true}
use borrow.Author.Tests.{eqb-true}
use Rattle.plain_graph.specs.Properties.{Properties}
use Rattle.plain_graph.specs.Sorting.{sorted}
use Rattle.prop_store.specs.Reading.{block_total}
use Rattle.prop_store.specs.declared.prop.Prop.{Prop}
use Rattle.rec_bytes.specs.declared.shape.Shape.{Shape}
use Rattle.store_rules.specs.Rules.{IsWellFormed}
use Rattle.store_rules.specs.Views.{Records}
use Rattle.traversal_run.specs.KeyValues.{AreRead, entries_of, entry_below, named_entry}
use Rattle.traversal_run.specs.Naming.{name_count}
use Rattle.traversal_run.specs.Viewing.{property_reads}
use Rattle.traversal_run.proofs.ValueOrder.{all_known, entries-sorted, reads-read}

-- what was read has names as keys
pub read_known : (records : Records) (props : List Prop) (properties : Properties) → AreRead records props properties
    → All (λ (prop : Prop). prop.key < name_count records) props
read_known records props properties read =
    subst (λ list. All (λ (prop : Prop). prop.key < name_count records) list) (sym read.read)
    (all_known (name_count records) read.es read.known)

-- in order, what was read are the entries of all keys
pub all_rows : (records : Records) (shape : Shape) → IsWellFormed records shape → (props : List Prop) (properties : Properties)
    → AreRead records props properties → sorted entry_below (map (named_entry records) props) ≡ entries_of properties []
all_rows records shape store props properties read =
    ap (λ list. sorted entry_below (map (named_entry records) list)) read.read
    ∙ entries-sorted records (name_count records) store.names read.es read.known read.once
    ∙ ap maps.entries (sym read.are)

-- so many reads they take as were read
pub read_cost : (records : Records) (shape : Shape) → IsWellFormed records shape → (props : List Prop) (properties : Properties)
    → AreRead records props properties → length props + block_total props ≡ property_reads properties
read_cost records shape store props properties read =
    (λ i. length (read.read i) + block_total (read.read i))
    ∙ reads-read records (name_count records) store.names read.es read.known read.once
    ∙ ap property_reads (sym read.are)

-- a list that is said to be empty is
pub is_none : {A : Type 0} (xs : List A) → (length xs == 0) ≡ true → xs ≡ []
is_none [] none = refl
is_none (x ∷ xs) none = absurd (let zero = eqb-true (length (x ∷ xs)) 0 none in omega arith)

-- one that isn't is not
pub is_some : {A : Type 0} (xs : List A) → (length xs == 0) ≡ false → xs ≢ []
is_some xs some = λ none. false≢true (sym some ∙ ap (λ list. length list == 0) none)
