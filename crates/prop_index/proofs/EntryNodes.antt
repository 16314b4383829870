-- What an entry is blamed for whose node can't be read.
use Rattle.std.proofs.Common.{◌≡◌, ◌≢◌, ◌<◌, ℕ, None, refl, ap, sym, ◌∙◌, subst, ⊎_elim, inl, inr, arith}
use Rattle.std.proofs.lemmas.Bool.{cases_lt}
use Rattle.rec_bytes.specs.declared.damage.Damage.{Damage}
use Rattle.rec_bytes.specs.declared.record.Rec.{Rec}
use Rattle.rec_bytes.specs.Format as format
use Rattle.rec_bytes.specs.Record.{field}
use Rattle.rec_bytes.specs.Space.{State}
use Rattle.store_rules.specs.Breaking.{Breaks, BreaksAny}
use Rattle.store_rules.specs.Breaking.Breaks.{RecordRange}
use Rattle.store_rules.specs.IndexBreaking.IndexBreaks.{UnwantedEntry}
use Rattle.store_rules.specs.Indexes.{entry_node, has_hash, index_rec, indexed_key, indexed_label, row_value, entry_hash}
use Rattle.store_rules.specs.Properties.{property_records}
use Rattle.store_rules.specs.Views.{Records, high, kind_at, node_at, node_in, rec_at}
use Rattle.store_rules.proofs.IndexPointers.{entry_node_low}
use Rattle.store_rules.proofs.ViewLaws.{kind_below, kind_high, kind_low, row_none}
use Rattle.prop_index.specs.Gathering.{HighNodes, IsEntryMet, IsOwnerDamage, NamesNone}
use Rattle.prop_index.specs.Reading.{damage_of}
use Rattle.prop_index.proofs.IndexBlames.{nodes_mark}

-- the record of a node in use has a kind
pub in_use : (s : Records) (n : ℕ) (rec : Rec) → rec ≡ rec_at s format.nodes_file n → n < high s format.nodes_file
    → kind_at s format.nodes_file n ≢ format.free_kind → field 1 rec format.kind ≡ format.free_kind → ⊥
in_use s n rec is low used free = used (kind_low (high s format.nodes_file) (rec_at s format.nodes_file n) n low ∙ ap (λ (r : Rec). field 1 r format.kind)
    (sym is) ∙ free)

module _ (s : State) (d b count x : ℕ) (rec : Rec) (met : IsEntryMet s.records d b count x rec) (node : ℕ) (node_is : node ≡ entry_node s.records x) where
  below : x < high s.records format.index_file
  below = kind_below (high s.records format.index_file) (index_rec s.records x) x (λ e. let k = met.used in omega (arith, e, k))

  pub entry_owner_blames : (named : Damage) → named ≡ damage_of format.index_file x 1 → (bad : Damage) → IsOwnerDamage s node named bad
      → BreaksAny s.records s.shape bad
  entry_owner_blames named is _ (NamesNone le) = inl (subst (Breaks s.records s.shape) (sym is)
      (RecordRange format.index_file x refl below
      (λ fits. let low = entry_node_low (high s.records) (index_rec s.records x) fits (sym (kind_low (high s.records format.index_file) (index_rec s.records x)
      x below) ∙ met.used) in omega (arith, low, le, node_is))))
  entry_owner_blames named is _ (HighNodes over) = inl (nodes_mark s over)

  -- its node is not in use
  pub entry_unwanted : field 1 (rec_at s.records format.nodes_file node) format.kind ≡ format.free_kind
      → BreaksAny s.records s.shape (damage_of format.index_file x 8)
  entry_unwanted free =
      let unused : kind_at s.records format.nodes_file node ≡ format.free_kind = ⊎_elim
      (λ (lt : node < high s.records format.nodes_file). kind_low (high s.records format.nodes_file) (rec_at s.records format.nodes_file node) node lt ∙ free)
      (λ ge. kind_high (high s.records format.nodes_file) (rec_at s.records format.nodes_file node) node ge)
      (cases_lt node (high s.records format.nodes_file)) in
      let none : node_at s.records (entry_node s.records x) ≡ None = ap (node_at s.records) (sym node_is)
      ∙ row_none (kind_at s.records format.nodes_file node) (node_in (rec_at s.records format.nodes_file node) node) unused in
      inr (UnwantedEntry d b count x met.leads met.used
      (ap (λ row. has_hash (entry_hash s.records x) (row_value (property_records s.records) (indexed_label s.records d) (indexed_key s.records d) row)) none))
