-- What the entries of an index that is made touch.
use Rattle.std.proofs.Common.{◌≡◌, ◌≢◌, ⊎_elim, ℕ, cond, List, [], ◌∷◌, ◌++◌, sym, subst, inl, inr}
use Rattle.rec_bytes.specs.Format as format
use Rattle.rec_bytes.specs.Space.{State}
use Rattle.store_rules.specs.Chains.{In}
use Rattle.store_rules.proofs.NumberLaws.{eq_false, eq_true, nat_cases}
use Rattle.store_rules.proofs.OnceLaws.{in_left, in_right}
use Rattle.prop_store.specs.Touching.{TouchesOnly}
use Rattle.prop_index.specs.Touching.{front_ids, index_keys, some_id}
use Rattle.prop_index.proofs.IndexTouches.{only_join}

append_in : (xs ys : List ℕ) (x : ℕ) → In x (xs ++ ys) → (P : Type 0) → (In x xs → P) → (In x ys → P) → P
append_in [] ys x i P left right = right i
append_in (y ∷ xs) ys x (inl e) P left right = left (inl e)
append_in (y ∷ xs) ys x (inr i) P left right = append_in xs ys x i P (λ j. left (inr j)) right

some_in : (first x : ℕ) → In x (some_id first) → (x ≡ first) × (first ≢ format.nil)
some_in first x i = ⊎_elim
    (λ (e : first ≡ format.nil). let none : In x [] = subst (λ b. In x (cond b [] (first ∷ []))) (eq_true first format.nil e) i in absurd none)
    (λ (ne : first ≢ format.nil). let one : In x (first ∷ []) = subst (λ b. In x (cond b [] (first ∷ []))) (eq_false first format.nil ne) i in
    (⊎_elim (λ e. e) (λ (k : ⊥). absurd k) one, ne))
    (nat_cases first format.nil)

-- the records of an entry in front of a bucket: its own, a head, and an entry that came before
pub front_in : (known ids : List ℕ) (id head first : ℕ) → In head known → (first ≢ format.nil → In first ids) → (x : ℕ) → In x (front_ids id head first)
    → In x (known ++ id ∷ ids)
front_in known ids id head first there before x (inl e) = in_right x known (id ∷ ids) (inl e)
front_in known ids id head first there before x (inr (inl e)) = in_left x known (id ∷ ids) (subst (λ z. In z known) (sym e) there)
front_in known ids id head first there before x (inr (inr i)) = let k = some_in first x i in
    in_right x known (id ∷ ids) (inr (subst (λ z. In z ids) (sym k.0) (before k.1)))

pub more_in : (known ids : List ℕ) (id x : ℕ) → In x (known ++ ids) → In x (known ++ id ∷ ids)
more_in known ids id x i = append_in known ids x i (In x (known ++ id ∷ ids)) (λ j. in_left x known (id ∷ ids) j) (λ j. in_right x known (id ∷ ids) (inr j))

pub beside_more : {tells : Type 0} (known ids : List ℕ) (id head first : ℕ) (s m t : State) → In head known → (first ≢ format.nil → In first ids)
    → TouchesOnly tells s m (index_keys (known ++ ids)) → TouchesOnly tells m t (index_keys (front_ids id head first))
    → TouchesOnly tells s t (index_keys (known ++ id ∷ ids))
beside_more known ids id head first s m t there before h g =
    only_join (known ++ ids) (front_ids id head first) (known ++ id ∷ ids) s m t (more_in known ids id) (front_in known ids id head first there before) h g
