-- Which elements own properties, and their labels.
use Rattle.std.proofs.Common.{◌≡◌, ℕ, ◌<◌, Bool, true, false, cond, not, Option, Some, None, nat_eq, sym, ap, subst, ⊎_elim, refl}
use Rattle.std.proofs.lemmas.Bool.{cases_Bool, eqb-true, or_cases, true≢false}
use Rattle.rec_bytes.specs.Format as format
use Rattle.store_rules.specs.Breaking.{Owns, is_element_file, label_of}
use Rattle.store_rules.specs.PropertyChange.{property_from}
use Rattle.store_rules.specs.Rules as rules
use Rattle.store_rules.specs.Views.{NodeRow, Records, RelRow, high, is_live, kind_at, node_at, node_in, rec_at, rel_at, rel_in}
use Rattle.store_rules.proofs.PropertyOwners.{used_of_live}
use Rattle.store_rules.proofs.ViewLaws.{row_some}
use Rattle.store_rules.specs.Rules.{KeepsLabels}

module _ (records : Records) (x : ℕ) where
  -- what an owner of properties is
  pub record IsOwner (file first : ℕ) : Type 0 where
    pub known : is_element_file file ≡ true
    pub live : is_live records file x ≡ true
    pub first_is : first ≡ property_from records file x

  node_by : (b : Bool) (row : NodeRow) (first : ℕ) → rules.node_first (cond b None (Some row)) ≡ Some first → (not b ≡ true) × (first ≡ row.property)
  node_by true row first h = absurd cc
  node_by false row first h = (refl, cc)

  rel_by : (b : Bool) (row : RelRow) (first : ℕ) → rules.rel_first (cond b None (Some row)) ≡ Some first → (not b ≡ true) × (first ≡ row.property)
  rel_by true row first h = absurd cc
  rel_by false row first h = (refl, cc)

  neither : (a b : Bool) (o u : Option ℕ) (first : ℕ) → a ≡ false → b ≡ false → cond a o (cond b u None) ≡ Some first → ⊥
  neither true b o u first e f h = absurd (true≢false e)
  neither false true o u first e f h = absurd (true≢false f)
  neither false false o u first e f h = absurd cc

  node_owner : (first : ℕ) → Owns records 1 x first → IsOwner 1 first
  node_owner first h =
      let r = node_by (nat_eq (kind_at records 1 x) 0) (node_in (rec_at records 1 x) x) first h in
      record { known = refl; live = r.0; first_is = r.1 }

  rel_owner : (first : ℕ) → Owns records 2 x first → IsOwner 2 first
  rel_owner first h =
      let r = rel_by (nat_eq (kind_at records 2 x) 0) (rel_in (rec_at records 2 x) x) first h in
      record { known = refl; live = r.0; first_is = r.1 }

  pub owns_is : (file first : ℕ) → Owns records file x first → IsOwner file first
  owns_is file first h = ⊎_elim
      (λ (t : nat_eq file 1 ≡ true). let e = eqb-true file 1 t in subst (λ f. IsOwner f first) (sym e) (node_owner first (subst (λ f. Owns records f x first)
      e h)))
      (λ (n : nat_eq file 1 ≡ false). ⊎_elim
      (λ (t : nat_eq file 2 ≡ true). let e = eqb-true file 2 t in subst (λ f. IsOwner f first) (sym e) (rel_owner first (subst (λ f. Owns records f x first)
      e h)))
      (λ (m : nat_eq file 2 ≡ false). absurd (neither (nat_eq file 1) (nat_eq file 2) (rules.node_first (node_at records x))
      (rules.rel_first (rel_at records x)) first n m h))
      (cases_Bool (nat_eq file 2)))
      (cases_Bool (nat_eq file 1))

  pub owner_of : (file : ℕ) → is_element_file file ≡ true → is_live records file x ≡ true → Owns records file x (property_from records file x)
  owner_of file known live = ⊎_elim
      (λ (t : nat_eq file 1 ≡ true). let e = eqb-true file 1 t in subst (λ f. Owns records f x (property_from records f x)) (sym e)
      (node (subst (λ f. is_live records f x ≡ true) e live)))
      (λ (t : nat_eq file 2 ≡ true). let e = eqb-true file 2 t in subst (λ f. Owns records f x (property_from records f x)) (sym e)
      (rel (subst (λ f. is_live records f x ≡ true) e live)))
      (or_cases (nat_eq file 1) (nat_eq file 2) known)
    where
      node : is_live records 1 x ≡ true → Owns records 1 x (property_from records 1 x)
      node l = ap rules.node_first (row_some (kind_at records 1 x) (node_in (rec_at records 1 x) x) (used_of_live records 1 x l))

      rel : is_live records 2 x ≡ true → Owns records 2 x (property_from records 2 x)
      rel l = ap rules.rel_first (row_some (kind_at records 2 x) (rel_in (rec_at records 2 x) x) (used_of_live records 2 x l))

-- where the labels of all elements are names, that of each is
pub label_kept : (records : Records) (file x : ℕ) → is_element_file file ≡ true
    → KeepsLabels records
    → is_live records file x ≡ true → label_of records file x < high records format.names_file
label_kept records file x known h live = ⊎_elim
    (λ (t : nat_eq file 1 ≡ true). let e = eqb-true file 1 t in subst (λ f. label_of records f x < high records format.names_file) (sym e)
    (node (subst (λ f. is_live records f x ≡ true) e live)))
    (λ (t : nat_eq file 2 ≡ true). let e = eqb-true file 2 t in subst (λ f. label_of records f x < high records format.names_file) (sym e)
    (rel (subst (λ f. is_live records f x ≡ true) e live)))
    (or_cases (nat_eq file 1) (nat_eq file 2) known)
  where
    node : is_live records 1 x ≡ true → label_of records 1 x < high records format.names_file
    node l = h.nodes_named x (node_in (rec_at records 1 x) x) (row_some (kind_at records 1 x) (node_in (rec_at records 1 x) x) (used_of_live records 1 x l))

    rel : is_live records 2 x ≡ true → label_of records 2 x < high records format.names_file
    rel l = h.rels_named x (rel_in (rec_at records 2 x) x) (row_some (kind_at records 2 x) (rel_in (rec_at records 2 x) x) (used_of_live records 2 x l))
