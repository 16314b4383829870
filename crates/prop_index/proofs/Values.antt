-- Values of keys, and what equal ones have in common.
use Rattle.std.proofs.Common.{◌≡◌, ℕ, Bool, true, false, cond, nat_eq, Some, List, [], ◌∷◌, refl, option_map}
use Rattle.store_rules.specs.Indexes.{value_in}
use Rattle.store_rules.specs.Properties.{Property}
use Rattle.prop_store.specs.Finding.{property_of, value_of}

-- the value of a key, by either definition
pub value_in-is : (es : List Property) (key : ℕ) → value_in es key ≡ value_of es key
value_in-is [] key = refl
value_in-is (e ∷ es) key = by (nat_eq e.key key) (value_in-is es key)
  where
    by : (b : Bool) → value_in es key ≡ value_of es key → cond b (Some e.value) (value_in es key) ≡ option_map (λ (d : Property). d.value)
        (cond b (Some e) (property_of es key))
    by true later = refl
    by false later = later
