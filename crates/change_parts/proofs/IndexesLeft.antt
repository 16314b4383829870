-- A change of properties leaves the indexes.
use Rattle.std.proofs.Common.{◌≡◌, ◌≢◌, ◌⊎◌, ℕ, List, [], ◌∷◌, ◌++◌, map, inl, inr, ⊎_elim, sym, ap, ◌∙◌, arith}
use Rattle.prop_store.specs.Touching.{TouchesProperties, property_keys}
use Rattle.prop_store.specs.declared.owner.Owner.{Owner}
use Rattle.rec_bytes.specs.declared.damage.Damage.{Damage}
use Rattle.rec_bytes.specs.declared.key.Key.{Key}
use Rattle.rec_bytes.specs.Format as format
use Rattle.rec_bytes.specs.RecordFiles.{meta_key_of}
use Rattle.rec_bytes.specs.Space.{IsAmong, State}
use Rattle.store_rules.specs.Views.{key_in}
use Rattle.change_parts.specs.Damage.{IsOfIndex, LeavesIndexes}

among_others : (file : ℕ) (ids : List ℕ) (rest : List Key) (q : Key) → q.file ≢ file → IsAmong q (map (key_in file) ids ++ rest) → IsAmong q rest
among_others file [] rest q ne i = i
among_others file (x ∷ ids) rest q ne (inl e) = absurd (ne (ap (λ (k : Key). k.file) e))
among_others file (x ∷ ids) rest q ne (inr i) = among_others file ids rest q ne i

-- a record of the indexes, or their meta record, is none of these
module _ (owner : Owner) (file : (owner.key.file ≡ format.nodes_file) ⊎ (owner.key.file ≡ format.relationships_file)) (damage : Damage) (of : IsOfIndex damage)
  where
    other : (f : ℕ) → f ≢ format.index_file → f ≢ format.meta_file → damage.file ≢ f
    other f a b e = ⊎_elim (λ (i : damage.file ≡ format.index_file). a (sym e ∙ i)) (λ k. b (sym e ∙ k.0)) of

    no_meta : (f : ℕ) → f ≢ format.index_file → key_in damage.file damage.id ≢ meta_key_of f
    no_meta f a e =
        let m : damage.file ≡ format.meta_file = ap (λ (k : Key). k.file) e in
        let i : damage.id ≡ f = ap (λ (k : Key). k.id) e in
        ⊎_elim (λ (x : damage.file ≡ format.index_file). let z = sym x ∙ m in omega arith) (λ k. a (sym i ∙ k.1)) of

    own : key_in damage.file damage.id ≢ owner.key
    own e = ⊎_elim
        (λ (n : owner.key.file ≡ format.nodes_file). other format.nodes_file (λ z. omega arith) (λ z. omega arith) (ap (λ (k : Key). k.file) e ∙ n))
        (λ (r : owner.key.file ≡ format.relationships_file). other format.relationships_file (λ z. omega arith) (λ z. omega arith) (ap (λ (k : Key). k.file) e
        ∙ r)) file

    index_apart : (ids blocks : List ℕ) → ¬ IsAmong (key_in damage.file damage.id) (owner.key ∷ property_keys ids blocks)
    index_apart ids blocks i = ⊎_elim own
        (λ j. ⊎_elim (no_meta format.properties_file (λ z. omega arith)) (λ k. ⊎_elim (no_meta format.strings_file (λ z. omega arith)) (λ (f : ⊥). f) k)
        (among_others format.strings_file blocks _ _ (other format.strings_file (λ z. omega arith) (λ z. omega arith))
        (among_others format.properties_file ids _ _ (other format.properties_file (λ z. omega arith) (λ z. omega arith)) j))) i

-- a change of properties leaves it
pub properties_leave : (tells : Type 0) (properties blocks : ℕ) (s t : State) (owner : Owner) → (owner.key.file ≡ format.nodes_file)
    ⊎ (owner.key.file ≡ format.relationships_file) → tells → TouchesProperties tells (owner.key ∷ []) properties blocks s t
    → LeavesIndexes s t
properties_leave tells properties blocks s t owner file does touches damage of =
    ⊎_elim (λ e. e) (λ i. absurd (index_apart owner file damage of touches.ids touches.block_ids i))
    ((touches.only.stays does).each (key_in damage.file damage.id))
