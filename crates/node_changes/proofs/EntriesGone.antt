-- The values that a node has, and the pairs that have an index.
use Rattle.std.proofs.Common.{◌≡◌, ◌≢◌, ⊎_elim, inl, inr, ℕ, ◌<◌, nat_eq, Bool, true, false, ◌||◌, cond, Option, None}
use Rattle.std.proofs.Common.{List, [], ◌∷◌, map, refl, ap, sym, ◌∙◌, arith}
use Rattle.std.proofs.lemmas.Bool.{true≢false}
use Rattle.plain_graph.specs.declared.command.Target.TheVariants as targets
use Rattle.plain_graph.specs.declared.value.Value.{Value}
use Rattle.prop_index.proofs.Values.{value_in-is}
use Rattle.prop_index.specs.Listing.{pair_of}
use Rattle.prop_store.proofs.ElementChanges.{has_properties}
use Rattle.prop_store.proofs.ElementGraphs.{listed_at, owns_listed}
use Rattle.prop_store.specs.Changing.{HasElement}
use Rattle.prop_store.specs.Finding.{value_of}
use Rattle.prop_store.specs.Owner.{HasProperties, IsOwner}
use Rattle.prop_store.specs.Reading.{properties_met}
use Rattle.rec_bytes.specs.Format as format
use Rattle.rec_bytes.specs.Record.{field}
use Rattle.rec_bytes.specs.Space.{State}
use Rattle.rec_bytes.specs.declared.record.Rec.{Rec}
use Rattle.store_rules.specs.Chains.{In}
use Rattle.store_rules.specs.Indexes.{indexed_key, indexed_label, listed_from, node_value, row_value, value_in}
use Rattle.store_rules.specs.Properties.{Property, property_records}
use Rattle.store_rules.specs.Views.{Records, high, kind_at, node_in, rec_at}
use Rattle.store_rules.proofs.NumberLaws.{eq_false, eq_true, nat_cases}
use Rattle.store_rules.proofs.Shapes.{high_most}
use Rattle.store_rules.proofs.ViewLaws.{kind_below, row_some}
use Rattle.node_changes.specs.Entries.{is_listed, is_pair}
use Rattle.change_parts.specs.Owners.{owner_of}
use Rattle.store_rules.specs.Rules.{IsWhole}

-- ---- numbers and truths

pub eq_of : (a b : ℕ) → nat_eq a b ≡ true → a ≡ b
eq_of a b e = ⊎_elim (λ (q : a ≡ b). q) (λ (ne : a ≢ b). absurd (true≢false (sym e ∙ eq_false a b ne))) (nat_cases a b)

-- ---- the value that a node has, as its properties are met

module _ (records : Records) (node : ℕ) where
  -- what is met of the key
  abbrev pub met : ℕ → Option Value
  met key = value_of (properties_met records (owner_of (targets.Node node))) key

  abbrev node_rec : Rec
  node_rec = rec_at records format.nodes_file node

  abbrev listed_here : List Property
  listed_here = listed_from (property_records records) (field 4 node_rec format.node_first_property)

  -- A node in use has the value that is met, for its own label.
  pub own_met : (label key : ℕ) → kind_at records format.nodes_file node ≢ 0 → label ≡ field 4 node_rec format.node_label
      → node_value records label key node ≡ met key
  own_met label key used is =
      ap (row_value (property_records records) label key) (row_some (kind_at records format.nodes_file node) (node_in node_rec node) used)
      ∙ ap (λ b. cond b (value_in listed_here key) None) (eq_true (field 4 node_rec format.node_label) label (sym is))
      ∙ value_in-is listed_here key

-- ---- pairs that are listed

-- the pair of a definition is listed
pub listed_in : (s : Records) (ds : List ℕ) (d label key : ℕ) → In d ds → label ≡ indexed_label s d → key ≡ indexed_key s d
    → is_listed (map (pair_of s) ds) label key ≡ true
listed_in s [] d label key i l k = elim i [ ]
listed_in s (x ∷ ds) d label key (inl e) l k =
    let a = eq_true (indexed_label s x) label (ap (indexed_label s) (sym e) ∙ sym l) in
    let b = eq_true (indexed_key s x) key (ap (indexed_key s) (sym e) ∙ sym k) in
    rw (a, b) refl
listed_in s (x ∷ ds) d label key (inr i) l k = rw (listed_in s ds d label key i l k) (or_true (is_pair label key (pair_of s x)))
  where
    or_true : (b : Bool) → (b || true) ≡ true
    or_true true = refl
    or_true false = refl

-- ---- a node in use can be read
pub owner_known : (s : State) (node : ℕ) → IsWhole s → kind_at s.records format.nodes_file node ≢ 0 → (es : List Property)
    × HasProperties s.records (owner_of (targets.Node node)) es
owner_known s node store used =
    let low : node < high s.records format.nodes_file = kind_below (high s.records format.nodes_file) (rec_at s.records format.nodes_file node) node used in
    let most = high_most s.records s.shape format.nodes_file store.ranges refl in
    let is : IsOwner (owner_of (targets.Node node)) = record { key = record { file = refl; id = omega arith }; file = inl refl; place = refl } in
    let has : HasElement s (owner_of (targets.Node node)) = record { store = store; used = used } in
    let es = listed_at s (owner_of (targets.Node node)) is has in
    (es, has_properties s (owner_of (targets.Node node)) es (owns_listed s (owner_of (targets.Node node)) is has))
