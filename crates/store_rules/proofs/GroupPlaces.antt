-- The places of a group's first links: at which of them a relationship of its type stands.
use Rattle.std.proofs.Common.{◌≡◌, ◌≢◌, ◌⊎◌, ℕ, Option, Some, sym, ap, ◌∙◌, subst, inl, inr, ⊎_elim, arith, refl}
use Rattle.rec_bytes.specs.declared.key.Key.{Key}
use Rattle.rec_bytes.specs.Format as format
use Rattle.store_rules.specs.Rules.{GroupHead, Head, IsOn}
use Rattle.store_rules.specs.Views.{GroupRow, RelRow}
use Rattle.store_rules.proofs.GroupLaws.{IsFirstPlace, same_group}
use Rattle.store_rules.proofs.NumberLaws.{nat_cases}

-- a relationship from one node to another stands at this place of a group of the node
abbrev pub IsAtPlace : ℕ → ℕ → ℕ → ℕ → Type 0
IsAtPlace place from to n =
    ((place ≡ format.group_first_out) × (from ≡ n) × (to ≢ n))
    ⊎ (((place ≡ format.group_first_in) × (from ≢ n) × (to ≡ n))
    ⊎ ((place ≡ format.group_first_loop) × (from ≡ n) × (to ≡ n)))

pub first_place : (place from to n : ℕ) → IsAtPlace place from to n → IsFirstPlace place
first_place place from to n (inl s) = inl s.0
first_place place from to n (inr (inl s)) = inr (inl s.0)
first_place place from to n (inr (inr s)) = inr (inr s.0)

-- it stands at one place
pub one_place : (p q from to n : ℕ) → IsAtPlace p from to n → IsAtPlace q from to n → p ≡ q
one_place p q from to n (inl a) (inl b) = a.0 ∙ sym b.0
one_place p q from to n (inl a) (inr (inl b)) = absurd (b.1 a.1)
one_place p q from to n (inl a) (inr (inr b)) = absurd (a.2 b.2)
one_place p q from to n (inr (inl a)) (inl b) = absurd (a.1 b.1)
one_place p q from to n (inr (inl a)) (inr (inl b)) = a.0 ∙ sym b.0
one_place p q from to n (inr (inl a)) (inr (inr b)) = absurd (a.1 b.1)
one_place p q from to n (inr (inr a)) (inl b) = absurd (b.2 a.2)
one_place p q from to n (inr (inr a)) (inr (inl b)) = absurd (b.1 a.1)
one_place p q from to n (inr (inr a)) (inr (inr b)) = a.0 ∙ sym b.0

-- and each has a place
pub some_place : (from to n : ℕ) → (from ≡ n) ⊎ (to ≡ n) → (place : ℕ) × IsAtPlace place from to n
some_place from to n end = ⊎_elim
    (λ (f : from ≡ n). ⊎_elim
    (λ (t : to ≡ n). (format.group_first_loop, inr (inr (refl, f, t))))
    (λ (t : to ≢ n). (format.group_first_out, inl (refl, f, t)))
    (nat_cases to n))
    (λ (f : from ≢ n). (format.group_first_in, inr (inl (refl, f, ⊎_elim (λ e. absurd (f e)) (λ e. e) end))))
    (nat_cases from n)

module _ (groups : ℕ → Option GroupRow) (h : Head) (group : GroupRow) (file : h.key.file ≡ format.groups_file) (is : groups h.key.id ≡ Some group)
    (row : RelRow) where
  -- what is on a head of a group has the group's type, and stands at the place of the head
  pub place_on : IsOn groups h row → (row.label ≡ group.label) × IsAtPlace h.field row.from row.to group.owner
  place_on (inl b) = absurd (let f = b.0 in omega arith)
  place_on (inr b) =
      let same : b.1.row ≡ group = same_group b.1.row group (sym b.1.group ∙ is) in
      (b.1.label ∙ ap (λ (r : GroupRow). r.label) same, subst (λ (r : GroupRow). IsAtPlace h.field row.from row.to r.owner) same b.1.side)

  -- and what has these is on it
  pub on_place : row.label ≡ group.label → IsAtPlace h.field row.from row.to group.owner → IsOn groups h row
  on_place label side = inr (file, record { row = group; group = is; label = label; side = side })

-- so it is of a head that a node owns
module _ (kind : ℕ → ℕ) (groups : ℕ → Option GroupRow) (h : Head) (n : ℕ) (o : GroupHead kind groups h n) (row : RelRow) where
  file : h.key.file ≡ format.groups_file
  file = ap (λ (z : Key). z.file) o.key

  group : groups h.key.id ≡ Some o.row
  group = ap (λ (z : Key). groups z.id) o.key ∙ o.group

  pub on_group : IsOn groups h row → (row.label ≡ o.row.label) × IsAtPlace h.field row.from row.to n
  on_group on = let p = place_on groups h o.row file group row on in (p.0, subst (IsAtPlace h.field row.from row.to) o.owner p.1)

  pub group_on : row.label ≡ o.row.label → IsAtPlace h.field row.from row.to n → IsOn groups h row
  group_on label side = on_place groups h o.row file group row label (subst (IsAtPlace h.field row.from row.to) (sym o.owner) side)
