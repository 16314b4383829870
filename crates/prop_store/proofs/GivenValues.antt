-- A property that is put in front or written again is the one of its key that the records lead to.
use Rattle.std.specs.Prelude.{Bool, if◌then◌else◌, nat_eq, None, Some, map}
use Rattle.std.proofs.Common.{◌≡◌, ◌≢◌, ◌∙◌, ℕ, List, [], ◌∷◌, true, false, ap, sym, refl, ⊎_elim, arith}
use Rattle.plain_graph.specs.declared.value.Value.{Value}
use Rattle.rec_bytes.specs.declared.key.Key.{Key}
use Rattle.rec_bytes.specs.Format as format
use Rattle.rec_bytes.specs.Record.{field}
use Rattle.rec_bytes.specs.RecordFiles.{meta_key_of}
use Rattle.store_rules.specs.Properties.{Property, followed, next_property, property_at, property_ids, property_records}
use Rattle.store_rules.specs.Views.{Records, key_in, rec_at}
use Rattle.store_rules.proofs.MetaLaws.{not_meta_key}
use Rattle.store_rules.proofs.NumberLaws.{eq_true, nat_cases}
use Rattle.prop_store.specs.Finding.{GivesMet, IsRecordOf, MetAt, PutsAgain, property_of}
use Rattle.prop_store.specs.Owner.{IsOwner, first_of}
use Rattle.prop_store.specs.declared.owner.Owner.{Owner}
use Rattle.prop_store.specs.declared.property_row.PropertyRow.{PropertyRow}
use Rattle.prop_store.proofs.Ahead.{ahead, ahead_one}
use Rattle.prop_store.proofs.Unused.{some_is}

pub front_met : (t : Records) (owner : Owner) (key id : ℕ) (value : Value) → first_of t owner ≡ id → id ≢ format.nil
    → IsRecordOf (rec_at t format.properties_file id) key value → GivesMet t owner key value
front_met t owner key id value first some is =
    let rec = rec_at t format.properties_file id in
    let p = property_at (property_records t) id in
    let later = ahead t (field 4 rec format.property_next) 1 in
    let test : nat_eq p.key key ≡ true = eq_true _ key is.key_is in
    let step : property_of (p ∷ later) key ≡ Some p = rw test refl in (
      p,
      ap (λ z. property_of (ahead t z 0) key) first
          ∙ ap (λ es. property_of es key) (ahead_one t id 0 (field 4 rec format.property_next) rec some (omega arith) refl refl) ∙ step,
      is,
    )

-- the element's record is none of these files
pub other_file : (owner : Owner) → IsOwner owner → (file : ℕ) → format.nodes_file ≢ file → format.relationships_file ≢ file → owner.key.file ≢ file
other_file owner is file node rel e = ⊎_elim (λ k. node (sym k ∙ e)) (λ k. rel (sym k ∙ e)) is.file

module _ (s t : Records) (owner : Owner) (is : IsOwner owner) (key : ℕ) (row : PropertyRow) (value : Value) (met : MetAt s owner key row)
    (key_is : field 4 row.rec format.property_key ≡ key) (puts : PutsAgain s t row value) where
  apart : (x : ℕ) → x ≢ row.id → rec_at t format.properties_file x ≡ rec_at s format.properties_file x
  apart x ne = puts.others (key_in format.properties_file x) (λ e. omega (arith, e)) (not_meta_key format.properties_file x format.strings_file refl)
      (λ e. ne (ap (λ (k : Key). k.id) e))

  same_next : (x : ℕ) → next_property (rec_at t format.properties_file) x ≡ next_property (rec_at s format.properties_file) x
  same_next x = ⊎_elim
      (λ (e : x ≡ row.id). ap (next_property (rec_at t format.properties_file)) e ∙ puts.next_is ∙ ap (λ r. field 4 r format.property_next) met.rec_is
      ∙ ap (next_property (rec_at s format.properties_file)) (sym e))
      (λ (ne : x ≢ row.id). ap (λ r. field 4 r format.property_next) (apart x ne))
      (nat_cases x row.id)

  abbrev key_at : Records → ℕ → ℕ
  key_at records x = field 4 (rec_at records format.properties_file x) format.property_key

  same_key : (x : ℕ) → key_at t x ≡ key_at s x
  same_key x = ⊎_elim
      (λ (e : x ≡ row.id). ap (key_at t) e ∙ puts.here.key_is ∙ ap (λ r. field 4 r format.property_key) met.rec_is ∙ ap (key_at s) (sym e))
      (λ (ne : x ≢ row.id). ap (λ r. field 4 r format.property_key) (apart x ne))
      (nat_cases x row.id)

  first_same : first_of t owner ≡ first_of s owner
  first_same = ap (λ r. field 4 r owner.field) (puts.others owner.key
      (other_file owner is format.strings_file (λ e. omega (arith, e)) (λ e. omega (arith, e)))
      (λ e. other_file owner is format.meta_file (λ q. omega (arith, q)) (λ q. omega (arith, q)) (ap (λ (k : Key). k.file) e))
      (λ e. other_file owner is format.properties_file (λ q. omega (arith, q)) (λ q. omega (arith, q)) (ap (λ (k : Key). k.file) e)))

  met_list : (ids : List ℕ) → property_of (map (property_at (property_records s)) ids) key ≡ Some (property_at (property_records s) row.id)
      → property_of (map (property_at (property_records t)) ids) key ≡ Some (property_at (property_records t) row.id)
  met_list [] e = absurd cc
  met_list (x ∷ xs) e = by (nat_eq (key_at s x) key) refl (λ f. met_list xs f) e
    where
      by : (b : Bool) → nat_eq (key_at s x) key ≡ b
          → (property_of (map (property_at (property_records s)) xs) key ≡ Some (property_at (property_records s) row.id)
          → property_of (map (property_at (property_records t)) xs) key ≡ Some (property_at (property_records t) row.id))
          → (if b then Some (property_at (property_records s) x) else property_of (map (property_at (property_records s)) xs) key)
          ≡ Some (property_at (property_records s) row.id)
          → property_of (map (property_at (property_records t)) (x ∷ xs)) key ≡ Some (property_at (property_records t) row.id)
      by true q rest found =
          let here : x ≡ row.id = ap (λ (p : Property). p.id) (some_is _ _ found) in
          rw (ap (λ k. nat_eq k key) (same_key x) ∙ q) (ap (λ z. Some (property_at (property_records t) z)) here)
      by false q rest found = rw (ap (λ k. nat_eq k key) (same_key x) ∙ q) (rest found)

  ids_same : property_ids (rec_at t format.properties_file) (first_of t owner) ≡ property_ids (rec_at s format.properties_file) (first_of s owner)
  ids_same = λ i. followed 32 (λ x. same_next x i) (first_same i)

  pub again_met : GivesMet t owner key value
  again_met = (
    property_at (property_records t) row.id,
    ap (λ ids. property_of (map (property_at (property_records t)) ids) key) ids_same ∙ met_list _ met.is,
    record { key_is = puts.here.key_is ∙ key_is; first = puts.here.first; content = puts.here.content },
  )
