-- The property of a key among those of an element.
use Rattle.std.proofs.Common.{◌≡◌, ◌≢◌, ◌∙◌, ◌++◌, ⊎_elim, inl, inr, ℕ, List, [], ◌∷◌, cond, Some, None, ap, sym, refl}
use Rattle.rec_bytes.specs.Format as format
use Rattle.rec_bytes.specs.Record.{field}
use Rattle.store_rules.specs.Chains.{In}
use Rattle.store_rules.specs.Properties.{Property, keys_of, property_records}
use Rattle.store_rules.specs.Views.{Records, rec_at}
use Rattle.store_rules.proofs.NumberLaws.{eq_false, eq_true, nat_cases}
use Rattle.prop_store.specs.Alone.{HasKeyAt}
use Rattle.prop_store.specs.Finding.{FoundAt, property_of}
use Rattle.prop_store.specs.Link.{link_after, link_of, next_link}
use Rattle.prop_store.specs.declared.property_row.PropertyRow.{PropertyRow}
use Rattle.prop_store.specs.declared.link.Link.{Link}
use Rattle.prop_store.specs.declared.owner.Owner.{Owner}
use Rattle.prop_store.proofs.WalkSteps.{WalkHere}

pub found_first : (before : List Property) (e : Property) (after : List Property) (key : ℕ) → (In key (keys_of before) → ⊥) → e.key ≡ key
    → property_of (before ++ e ∷ after) key ≡ Some e
found_first [] e after key out is = ap (λ b. cond b (Some e) (property_of after key)) (eq_true e.key key is)
found_first (p ∷ before) e after key out is =
    ap (λ b. cond b (Some p) (property_of (before ++ e ∷ after) key)) (eq_false p.key key (λ q. out (inl (sym q))))
    ∙ found_first before e after key (λ i. out (inr i)) is

pub absent_key : (es : List Property) (key : ℕ) → (In key (keys_of es) → ⊥) → property_of es key ≡ None
absent_key [] key out = refl
absent_key (e ∷ es) key out = ap (λ b. cond b (Some e) (property_of es key)) (eq_false e.key key (λ q. out (inl (sym q))))
    ∙ absent_key es key (λ i. out (inr i))

pub no_key : (es : List Property) (key : ℕ) → property_of es key ≡ None → In key (keys_of es) → ⊥
no_key [] key none i = i
no_key (e ∷ es) key none i = ⊎_elim
    (λ (k : e.key ≡ key). let some : Some e ≡ None = sym (ap (λ b. cond b (Some e) (property_of es key)) (eq_true e.key key k)) ∙ none in cc)
    (λ (k : e.key ≢ key). ⊎_elim (λ q. k (sym q)) (λ j. no_key es key (sym (ap (λ b. cond b (Some e) (property_of es key)) (eq_false e.key key k)) ∙ none) j) i)
    (nat_cases e.key key)

-- The property of a key that was found stands among the others.
pub record Placed (es : List Property) (e : Property) (key : ℕ) : Type 0 where
  pub before : List Property
  pub rest : List Property
  pub at : HasKeyAt es before e rest key

pub placed : (es : List Property) (e : Property) (key : ℕ) → property_of es key ≡ Some e → Placed es e key
placed [] e key some = absurd cc
placed (p ∷ es) e key some = ⊎_elim
    (λ (k : p.key ≡ key).
    let same : Some p ≡ Some e = sym (ap (λ b. cond b (Some p) (property_of es key)) (eq_true p.key key k)) ∙ some in
    let is : p ≡ e = cc in
    record { before = []; rest = es; at = record { all = ap (λ z. z ∷ es) is; key_is = ap (λ (z : Property). z.key) (sym is) ∙ k } })
    (λ (k : p.key ≢ key).
    let later = placed es e key (sym (ap (λ b. cond b (Some p) (property_of es key)) (eq_false p.key key k)) ∙ some) in
    record { before = p ∷ later.before; rest = later.rest; at = record { all = ap (λ z. p ∷ z) later.at.all; key_is = later.at.key_is } })
    (nat_cases p.key key)

-- a key that wasn't passed and isn't here is still none of those passed
pub keys_passed : (before : List Property) (e : Property) (key : ℕ) → (In key (keys_of before) → ⊥) → e.key ≢ key → In key (keys_of (before ++ e ∷ [])) → ⊥
keys_passed [] e key out other i = ⊎_elim (λ q. other (sym q)) (λ j. j) i
keys_passed (p ∷ before) e key out other i = ⊎_elim (λ q. out (inl q)) (λ j. keys_passed before e key (λ k. out (inr k)) other j) i

-- the link after one more
pub link_after-one : (link : Link) (before : List Property) (e : Property) → link_after link (before ++ e ∷ []) ≡ next_link e.id
link_after-one link [] e = refl
link_after-one link (p ∷ before) e = link_after-one (next_link p.id) before e

-- the property of the key is at hand
pub found_here : (records : Records) (owner : Owner) (es : List Property) (at count key : ℕ) (link : Link) (row : PropertyRow)
    → WalkHere (property_records records) es at count (λ passed. (link ≡ link_after (link_of owner) passed) × (In key (keys_of passed) → ⊥))
    → row.id ≡ at → row.rec ≡ rec_at records format.properties_file at → field 4 row.rec format.property_key ≡ key → FoundAt records owner es key link row
found_here records owner es at count key link row here id_is rec_is key_is =
    let rec = rec_is ∙ ap (rec_at records format.properties_file) here.at_is in
    let its : here.property.key ≡ key = sym here.is.key ∙ ap (λ r. field 4 r format.property_key) (sym rec) ∙ key_is in
    record {
      before = here.passed;
      property = here.property;
      after = here.later;
      all = here.all;
      link_is = here.kept.0;
      id_is = id_is ∙ here.at_is;
      rec_is = rec;
      is = here.is;
      key_is = its;
      found = ap (λ z. property_of z key) here.all ∙ found_first here.passed here.property here.later key here.kept.1 its;
    }
