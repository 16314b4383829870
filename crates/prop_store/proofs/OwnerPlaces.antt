-- The place of an element's first property.
use Rattle.std.proofs.Common.{◌≡◌, ◌+◌, ◌<◌, ◌≤◌, sym, ap, subst, ⊎_elim, arith}
use Rattle.rec_bytes.specs.Format as format
use Rattle.rec_bytes.specs.Record.{field}
use Rattle.store_rules.specs.PropertyChange.{property_from, property_place}
use Rattle.store_rules.specs.Views.{Records}
use Rattle.prop_store.specs.Owner.{IsOwner, first_of}
use Rattle.prop_store.specs.declared.owner.Owner.{Owner}

-- it is within the record
pub place_within : (owner : Owner) → IsOwner owner → owner.field + 4 ≤ format.record_bytes
place_within owner is = subst (λ n. n + 4 ≤ format.record_bytes) (sym is.place)
    (⊎_elim (λ e. subst (λ f. property_place f + 4 ≤ format.record_bytes) (sym e) (omega arith)) (λ e. subst (λ f. property_place f + 4 ≤ format.record_bytes)
    (sym e) (omega arith)) is.file)

-- it is behind the kind
pub place_behind : (owner : Owner) → IsOwner owner → 0 < owner.field
place_behind owner is = subst (λ n. 0 < n) (sym is.place)
    (⊎_elim (λ e. subst (λ f. 0 < property_place f) (sym e) (omega arith)) (λ e. subst (λ f. 0 < property_place f) (sym e) (omega arith)) is.file)

-- it is the one of the rules
pub first_of-is : (s : Records) (owner : Owner) → IsOwner owner → first_of s owner ≡ property_from s owner.key.file owner.key.id
first_of-is s owner is = ap (λ at. field 4 (s owner.key) at) is.place
