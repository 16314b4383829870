-- The properties that the records lead through from one on, after so many others.
use Rattle.std.specs.Prelude.{nat_eq}
use Rattle.std.proofs.Common.{◌≡◌, ◌≢◌, ◌<◌, ◌≤◌, ◌+◌, ◌-◌, ◌∙◌, ◌++◌, ◌⊎◌, ⊎_elim, append_assoc, append-nil, ℕ, suc}
use Rattle.std.proofs.Common.{List, [], ◌∷◌, Option, Some, true, false, length, map, ap, sym, arith, refl}
use Rattle.std.specs.Option.{option_map}
use Rattle.plain_graph.specs.declared.value.Value.{Value}
use Rattle.rec_bytes.specs.declared.record.Rec.{Rec}
use Rattle.rec_bytes.specs.Format as format
use Rattle.rec_bytes.specs.Record.{field}
use Rattle.store_rules.specs.Properties.{Property, content_of, followed, next_property, property_at, property_records, value_from}
use Rattle.store_rules.specs.Views.{Records, rec_at}
use Rattle.store_rules.proofs.NumberLaws.{eq_false, eq_true}
use Rattle.prop_store.specs.Finding.{MetAt, property_of, value_of}
use Rattle.prop_store.specs.Reading.{prop_of, properties_met}
use Rattle.prop_store.specs.declared.property_row.PropertyRow.{PropertyRow}
use Rattle.prop_store.specs.declared.owner.Owner.{Owner}
use Rattle.prop_store.specs.declared.prop.Prop.{Prop}
use Rattle.prop_store.proofs.Followed.{followed_none, followed_one}

abbrev pub ahead : Records → ℕ → ℕ → List Property
ahead records at count = map (property_at (property_records records)) (followed (32 - count) (next_property (rec_at records format.properties_file)) at)

-- none come after the last one, nor after the most that an element may have
pub ahead_none : (records : Records) (at count : ℕ) → at ≡ format.nil → ahead records at count ≡ []
ahead_none records at count none = ap (map (property_at (property_records records)))
    (followed_none (32 - count) (next_property (rec_at records format.properties_file)) at none)

pub ahead_over : (records : Records) (at count : ℕ) → 32 ≤ count → ahead records at count ≡ []
unfolding followed
ahead_over records at count all =
    let none : 32 - count ≡ 0 = omega (arith, all) in
    ap (λ n. map (property_at (property_records records)) (followed n (next_property (rec_at records format.properties_file)) at)) none

-- the property at hand, by what was read of it, and those after it
pub ahead_one : (records : Records) (at count to : ℕ) (rec : Rec) → at ≢ format.nil → count < 32 → rec ≡ rec_at records format.properties_file at
    → to ≡ field 4 rec format.property_next
    → ahead records at count ≡ property_at (property_records records) at ∷ ahead records to (count + 1)
ahead_one records at count to rec some few rec_is to_is =
    let next = next_property (rec_at records format.properties_file) in
    let more : 32 - count ≡ suc (32 - (count + 1)) = omega (arith, few) in
    let there : next at ≡ to = sym (to_is ∙ ap (λ r. field 4 r format.property_next) rec_is) in
    ap (λ n. map (property_at (property_records records)) (followed n next at)) more
    ∙ ap (map (property_at (property_records records))) (followed_one (32 - (count + 1)) next at some)
    ∙ ap (λ z. property_at (property_records records) at ∷ ahead records z (count + 1)) there

-- one more is answered
pub answered_one : (records : Records) (props pushed whole : List Prop) (at count to key : ℕ) (rec : Rec) (value : Value)
    → pushed ≡ props ++ record { key = key; value = value } ∷ [] → at ≢ format.nil → count < 32
    → rec ≡ rec_at records format.properties_file at → to ≡ field 4 rec format.property_next → key ≡ field 4 rec format.property_key
    → value ≡ value_from (rec_at records format.strings_file) (content_of rec)
    → props ++ map prop_of (ahead records at count) ≡ whole → pushed ++ map prop_of (ahead records to (count + 1)) ≡ whole
answered_one records props pushed whole at count to key rec value pushed_is some few rec_is to_is key_is value_is before =
    let later = map prop_of (ahead records to (count + 1)) in
    let prop : record { key = key; value = value } ≡ prop_of (property_at (property_records records) at)
    = ap (λ k. record { key = k; value = value }) (key_is ∙ ap (λ r. field 4 r format.property_key) rec_is)
    ∙ ap (λ v. record { key = field 4 (rec_at records format.properties_file at) format.property_key; value = v })
    (value_is ∙ ap (λ r. value_from (rec_at records format.strings_file) (content_of r)) rec_is) in
    ap (λ z. z ++ later) (pushed_is ∙ ap (λ p. props ++ p ∷ []) prop) ∙ append_assoc props (prop_of (property_at (property_records records) at) ∷ []) later
    ∙ ap (λ es. props ++ map prop_of es) (sym (ahead_one records at count to rec some few rec_is to_is)) ∙ before

-- all are answered where none come after
pub all_answered : (records : Records) (props whole : List Prop) (at count : ℕ) → (at ≡ format.nil) ⊎ (32 ≤ count)
    → props ++ map prop_of (ahead records at count) ≡ whole → props ≡ whole
all_answered records props whole at count end before =
    let none : ahead records at count ≡ [] = ⊎_elim (λ e. ahead_none records at count e) (λ le. ahead_over records at count le) end in
    sym (ap (λ es. props ++ map prop_of es) none ∙ append-nil props) ∙ before

-- ---- how many were passed

pub passed_one : (records : Records) (at count to : ℕ) (rec : Rec) → at ≢ format.nil → count < 32 → rec ≡ rec_at records format.properties_file at
    → to ≡ field 4 rec format.property_next
    → count + 1 + length (ahead records to (count + 1)) ≡ count + length (ahead records at count)
passed_one records at count to rec some few rec_is to_is =
    let e = ap (λ (es : List Property). length es) (ahead_one records at count to rec some few rec_is to_is) in
    omega (arith, e)

pub all_passed : (count : ℕ) (es : List Property) → es ≡ [] → count ≡ count + length es
all_passed count es none = let e = ap (λ (ps : List Property). length ps) none in omega (arith, e)

-- ---- a search for a key

key_read : (records : Records) (at : ℕ) (rec : Rec) → rec ≡ rec_at records format.properties_file at
    → (property_at (property_records records) at).key ≡ field 4 rec format.property_key
key_read records at rec rec_is = ap (λ r. field 4 r format.property_key) (sym rec_is)

-- a property of another key is passed by
pub passed_by : (records : Records) (key at count to : ℕ) (rec : Rec) (found : Option Property) → at ≢ format.nil → count < 32
    → rec ≡ rec_at records format.properties_file at → to ≡ field 4 rec format.property_next
    → field 4 rec format.property_key ≢ key → property_of (ahead records at count) key ≡ found → property_of (ahead records to (count + 1)) key ≡ found
passed_by records key at count to rec found some few rec_is to_is other before =
    let test : nat_eq (property_at (property_records records) at).key key ≡ false = eq_false _ key (λ e. other (sym (key_read records at rec rec_is) ∙ e)) in
    let step : property_of (property_at (property_records records) at ∷ ahead records to (count + 1)) key ≡ property_of (ahead records to (count + 1)) key =
    rw test refl in
    sym step ∙ ap (λ es. property_of es key) (sym (ahead_one records at count to rec some few rec_is to_is)) ∙ before

-- and one of the key is found
pub met_here : (records : Records) (owner : Owner) (key at count : ℕ) (row : PropertyRow) → at ≢ format.nil → count < 32 → row.id ≡ at
    → row.rec ≡ rec_at records format.properties_file at → field 4 row.rec format.property_key ≡ key
    → property_of (ahead records at count) key ≡ property_of (properties_met records owner) key → MetAt records owner key row
met_here records owner key at count row some few id_is rec_is same before =
    let test : nat_eq (property_at (property_records records) at).key key ≡ true = eq_true _ key (key_read records at row.rec rec_is ∙ same) in
    let later = ahead records (field 4 row.rec format.property_next) (count + 1) in
    let step : property_of (property_at (property_records records) at ∷ later) key ≡ Some (property_at (property_records records) at) = rw test refl in
    record {
      rec_is = rec_is ∙ ap (rec_at records format.properties_file) (sym id_is);
      is = sym before ∙ ap (λ es. property_of es key) (ahead_one records at count _ row.rec some few rec_is refl) ∙ step
          ∙ ap (λ p. Some (property_at (property_records records) p)) (sym id_is);
    }

-- its value is the one that is read, also after other reads
pub value_found : (records now : Records) (owner : Owner) (key : ℕ) (row : PropertyRow) (value : Value) → now ≡ records → MetAt records owner key row
    → value ≡ value_from (rec_at now format.strings_file) (content_of row.rec)
    → Some value ≡ value_of (properties_met records owner) key
value_found records now owner key row value same met is =
    let value_is : value ≡ value_from (rec_at records format.strings_file) (content_of (rec_at records format.properties_file row.id))
    = is ∙ ap (λ (r : Records). value_from (rec_at r format.strings_file) (content_of row.rec)) same
    ∙ ap (λ r. value_from (rec_at records format.strings_file) (content_of r)) met.rec_is in
    ap (λ v. Some v) value_is ∙ sym (ap (option_map (λ (e : Property). e.value)) met.is)
