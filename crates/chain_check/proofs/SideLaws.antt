-- The side of a node on which a relationship stands: in the node's own chain, or in one of a group.
use Rattle.std.proofs.Common.{◌≡◌, ◌≢◌, ℕ, zero, suc, ◌+◌, ◌*◌, ◌%◌, ◌<◌, ◌≤◌, Bool, true, false, not, ◌&&◌, ◌||◌}
use Rattle.std.proofs.Common.{nat_eq, sym, ap, ◌∙◌, subst, inl, inr, ⊎_elim, arith, refl}
use Rattle.std.proofs.lemmas.Bool.{and_from, eqb-true, or_cases, true≢false}
use Rattle.rec_bytes.specs.declared.record.Rec.{Rec}
use Rattle.rec_bytes.specs.Format as format
use Rattle.rec_bytes.specs.Record.{field}
use Rattle.store_rules.specs.Rules as rules
use Rattle.store_rules.specs.Views.{RelRow, rel_in}
use Rattle.store_rules.proofs.GroupLaws.{IsFirstPlace}
use Rattle.store_rules.proofs.GroupPlaces.{IsAtPlace}
use Rattle.store_rules.proofs.NumberLaws.{and_parts, eq_false, eq_true}
use Rattle.chain_check.specs.declared.chains.Side.{Side}
use Rattle.chain_check.specs.declared.chains.Side.TheVariants.{Any, Into, Loop, Out}
use Rattle.chain_check.specs.NodeChains.{enters, group_of, has_label, is_on, leaves, place_of, side_at}

-- ---- the test of a record

or_right : (a b : Bool) → b ≡ true → (a || b) ≡ true
or_right true b e = refl
or_right false b e = e

pub not_eq : (a b : ℕ) → not (nat_eq a b) ≡ true → a ≢ b
not_eq a b h e = true≢false (sym h ∙ ap not (eq_true a b e))

-- what the test says of the row
abbrev pub OnSide : Side → ℕ → RelRow → Type 0
OnSide Any n row = rules.IsEnd n row
OnSide (Out label) n row = (row.label ≡ label) × (row.from ≡ n) × (row.to ≢ n)
OnSide (Into label) n row = (row.label ≡ label) × (row.from ≢ n) × (row.to ≡ n)
OnSide (Loop label) n row = (row.label ≡ label) × (row.from ≡ n) × (row.to ≡ n)

module _ (n : ℕ) (r : Rec) (x : ℕ) where
  abbrev source : ℕ
  source = field 4 r format.relationship_source

  abbrev target : ℕ
  target = field 4 r format.relationship_target

  abbrev kind : ℕ
  kind = field 4 r format.relationship_type

  pub on_side : (side : Side) → is_on side n r ≡ true → OnSide side n (rel_in r x)
  on_side Any h = ⊎_elim (λ l. inl (eqb-true source n l)) (λ e. inr (eqb-true target n e)) (or_cases (leaves r n) (enters r n) h)
  on_side (Out label) h =
      let a = and_parts (leaves r n) (not (enters r n) && has_label r label) h in
      let b = and_parts (not (enters r n)) (has_label r label) a.1 in
      (eqb-true kind label b.1, eqb-true source n a.0, not_eq target n b.0)
  on_side (Into label) h =
      let a = and_parts (not (leaves r n)) (enters r n && has_label r label) h in
      let b = and_parts (enters r n) (has_label r label) a.1 in
      (eqb-true kind label b.1, not_eq source n a.0, eqb-true target n b.0)
  on_side (Loop label) h =
      let a = and_parts (leaves r n) (enters r n && has_label r label) h in
      let b = and_parts (enters r n) (has_label r label) a.1 in
      (eqb-true kind label b.1, eqb-true source n a.0, eqb-true target n b.0)

  pub side_test : (side : Side) → OnSide side n (rel_in r x) → is_on side n r ≡ true
  side_test Any h = ⊎_elim
      (λ (f : source ≡ n). let l : leaves r n ≡ true = eq_true source n f in rw l refl)
      (λ (t : target ≡ n). or_right (leaves r n) (enters r n) (eq_true target n t))
      h
  side_test (Out label) h = and_from (leaves r n) (not (enters r n) && has_label r label) (eq_true source n h.1)
      (and_from (not (enters r n)) (has_label r label) (ap not (eq_false target n h.2)) (eq_true kind label h.0))
  side_test (Into label) h = and_from (not (leaves r n)) (enters r n && has_label r label) (ap not (eq_false source n h.1))
      (and_from (enters r n) (has_label r label) (eq_true target n h.2) (eq_true kind label h.0))
  side_test (Loop label) h = and_from (leaves r n) (enters r n && has_label r label) (eq_true source n h.1)
      (and_from (enters r n) (has_label r label) (eq_true target n h.2) (eq_true kind label h.0))

-- ---- the place of a group

-- the side at a place has what stands there
pub side_from : (place label n : ℕ) (row : RelRow) → IsFirstPlace place → OnSide (side_at place label) n row → (row.label ≡ label)
    × IsAtPlace place row.from row.to n
side_from place label n row (inl e) h = let s : OnSide (Out label) n row = subst (λ p. OnSide (side_at p label) n row) e h in (s.0, inl (e, s.1, s.2))
side_from place label n row (inr (inl e)) h = let s : OnSide (Into label) n row = subst (λ p. OnSide (side_at p label) n row) e h in
    (s.0, inr (inl (e, s.1, s.2)))
side_from place label n row (inr (inr e)) h = let s : OnSide (Loop label) n row = subst (λ p. OnSide (side_at p label) n row) e h in
    (s.0, inr (inr (e, s.1, s.2)))

pub side_to : (place label n : ℕ) (row : RelRow) → row.label ≡ label → IsAtPlace place row.from row.to n → OnSide (side_at place label) n row
side_to place label n row e (inl s) = subst (λ p. OnSide (side_at p label) n row) (sym s.0) (e, s.1, s.2)
side_to place label n row e (inr (inl s)) = subst (λ p. OnSide (side_at p label) n row) (sym s.0) (e, s.1, s.2)
side_to place label n row e (inr (inr s)) = subst (λ p. OnSide (side_at p label) n row) (sym s.0) (e, s.1, s.2)

-- ---- the heads of groups, by their numbers

pub place_first : (id : ℕ) → IsFirstPlace (place_of id)
place_first id = by_rest (id % 3) (omega arith)
  where
    by_rest : (d : ℕ) → d < 3 → IsFirstPlace (format.group_first_out + 4 * d)
    by_rest zero lt = inl refl
    by_rest (suc zero) lt = inr (inl refl)
    by_rest (suc (suc zero)) lt = inr (inr refl)
    by_rest (suc (suc (suc d))) lt = absurd (omega arith)

pub head_id : (g place : ℕ) → IsFirstPlace place → (id : ℕ) × (group_of id ≡ g) × (place_of id ≡ place) × (3 * g ≤ id) × (id < 3 * g + 3)
head_id g place (inl e) = (3 * g, omega arith, omega arith, omega arith, omega arith)
head_id g place (inr (inl e)) = (3 * g + 1, omega arith, omega arith, omega arith, omega arith)
head_id g place (inr (inr e)) = (3 * g + 2, omega arith, omega arith, omega arith, omega arith)

pub same_id : (i j : ℕ) → group_of i ≡ group_of j → place_of i ≡ place_of j → i ≡ j
same_id i j g p = omega arith
