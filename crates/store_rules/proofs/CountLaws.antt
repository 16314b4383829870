-- The numbers of a counted group where a relationship comes or goes: one more, or one less, at the head where it stands.
use Rattle.std.proofs.Common.{◌≡◌, ◌≢◌, ◌⊎◌, ℕ, ◌+◌, ◌<◌, ◌≤◌, ◌^◌, nat_eq, ◌&&◌, not, Bool, true, false, cond, Option}
use Rattle.std.proofs.Common.{None, Some, length, sym, ap, ◌∙◌, inl, refl, add-zero, inr, subst, ⊎_elim, arith}
use Rattle.rec_bytes.specs.declared.record.Rec.{Rec}
use Rattle.rec_bytes.specs.Format as format
use Rattle.rec_bytes.specs.Record.{field, with_field}
use Rattle.rec_bytes.proofs.Numbers.{field-with_field_other, field-with_field_same}
use Rattle.store_rules.specs.Rules.{HasCounts, IsEnd, count_of, is_into, is_loop_of, is_out_of, passes}
use Rattle.store_rules.specs.Views.{GroupRow, RelRow}
use Rattle.store_rules.proofs.Counts.{ids_kept, ids_with}
use Rattle.store_rules.proofs.GroupPlaces.{IsAtPlace}
use Rattle.store_rules.proofs.NumberLaws.{eq_false, eq_true, nat_cases}

-- one where a test holds
abbrev pub one_if : Bool → ℕ
one_if b = cond b 1 0

-- The numbers of the second record are those of the first, with one more for the relationship at the head where it stands.
pub record HasOneMore (old new : Rec) (group : GroupRow) (row : RelRow) : Type 0 where
  pub out : field 4 new format.group_out_count ≡ field 4 old format.group_out_count + one_if (is_out_of group row)
  pub into : field 4 new format.group_in_count ≡ field 4 old format.group_in_count + one_if (is_into group row)
  pub loops : field 4 new format.group_loop_count ≡ field 4 old format.group_loop_count + one_if (is_loop_of group row)

-- ---- one head

more_none : (n : ℕ) (b : Bool) → b ≡ false → n ≡ n + one_if b
more_none n b e = sym (add-zero n) ∙ ap (λ c. n + one_if c) (sym e)

more_one : (n v : ℕ) (b : Bool) → b ≡ true → v ≡ n + 1 → v ≡ n + one_if b
more_one n v b e is = is ∙ ap (λ c. n + one_if c) (sym e)

-- where a relationship stands at one of the group's heads: the place of the head's first link, and the direction
abbrev pub IsSide : ℕ → GroupRow → RelRow → Type 0
IsSide at group row = IsAtPlace at row.from row.to group.owner

-- the number that stands twelve bytes after the first link becomes one more
module _ (r : Rec) (group : GroupRow) (row : RelRow) (v : ℕ) (typed : row.label ≡ group.label) (small : v < 2 ^ 32) where
  other : (at place : ℕ) → place + 4 ≤ 64 → (at + 4 ≤ place) ⊎ (place + 4 ≤ at) → field 4 (with_field 4 r at v) place ≡ field 4 r place
  other at place inside apart = field-with_field_other 4 r at v 4 place inside apart

  at_out : row.from ≡ group.owner → row.to ≢ group.owner → v ≡ field 4 r 32 + 1 → HasOneMore r (with_field 4 r 32 v) group row
  at_out from to is = record {
    out = field-with_field_same 4 r 32 v (omega arith) small ∙ more_one (field 4 r 32) v (is_out_of group row)
        (λ i. eq_true row.label group.label typed i && (eq_true row.from group.owner from i && not (eq_false row.to group.owner to i))) is;
    into = other 32 36 (omega arith) (inl (omega arith)) ∙ more_none (field 4 r 36) (is_into group row)
        (λ i. eq_true row.label group.label typed i && (not (eq_true row.from group.owner from i) && eq_false row.to group.owner to i));
    loops = other 32 40 (omega arith) (inl (omega arith)) ∙ more_none (field 4 r 40) (is_loop_of group row)
        (λ i. eq_true row.label group.label typed i && (eq_true row.from group.owner from i && eq_false row.to group.owner to i));
  }

  at_in : row.from ≢ group.owner → row.to ≡ group.owner → v ≡ field 4 r 36 + 1 → HasOneMore r (with_field 4 r 36 v) group row
  at_in from to is = record {
    out = other 36 32 (omega arith) (inr (omega arith)) ∙ more_none (field 4 r 32) (is_out_of group row)
        (λ i. eq_true row.label group.label typed i && (eq_false row.from group.owner from i && not (eq_true row.to group.owner to i)));
    into = field-with_field_same 4 r 36 v (omega arith) small ∙ more_one (field 4 r 36) v (is_into group row)
        (λ i. eq_true row.label group.label typed i && (not (eq_false row.from group.owner from i) && eq_true row.to group.owner to i)) is;
    loops = other 36 40 (omega arith) (inl (omega arith)) ∙ more_none (field 4 r 40) (is_loop_of group row)
        (λ i. eq_true row.label group.label typed i && (eq_false row.from group.owner from i && eq_true row.to group.owner to i));
  }

  at_loop : row.from ≡ group.owner → row.to ≡ group.owner → v ≡ field 4 r 40 + 1 → HasOneMore r (with_field 4 r 40 v) group row
  at_loop from to is = record {
    out = other 40 32 (omega arith) (inr (omega arith)) ∙ more_none (field 4 r 32) (is_out_of group row)
        (λ i. eq_true row.label group.label typed i && (eq_true row.from group.owner from i && not (eq_true row.to group.owner to i)));
    into = other 40 36 (omega arith) (inr (omega arith)) ∙ more_none (field 4 r 36) (is_into group row)
        (λ i. eq_true row.label group.label typed i && (not (eq_true row.from group.owner from i) && eq_true row.to group.owner to i));
    loops = field-with_field_same 4 r 40 v (omega arith) small ∙ more_one (field 4 r 40) v (is_loop_of group row)
        (λ i. eq_true row.label group.label typed i && (eq_true row.from group.owner from i && eq_true row.to group.owner to i)) is;
  }

  pub counts_at : (at : ℕ) → IsSide at group row → v ≡ field 4 r (at + 12) + 1 → HasOneMore r (with_field 4 r (at + 12) v) group row
  counts_at at (inl k) = subst At (sym k.0) (at_out k.1 k.2)
    where
      At : ℕ → Type 0
      At a = v ≡ field 4 r (a + 12) + 1 → HasOneMore r (with_field 4 r (a + 12) v) group row
  counts_at at (inr (inl k)) = subst At (sym k.0) (at_in k.1 k.2)
    where
      At : ℕ → Type 0
      At a = v ≡ field 4 r (a + 12) + 1 → HasOneMore r (with_field 4 r (a + 12) v) group row
  counts_at at (inr (inr k)) = subst At (sym k.0) (at_loop k.1 k.2)
    where
      At : ℕ → Type 0
      At a = v ≡ field 4 r (a + 12) + 1 → HasOneMore r (with_field 4 r (a + 12) v) group row

-- the numbers of a group in which the relationship isn't stay
none_more : (old new : Rec) (group : GroupRow) (row : RelRow) → ((at : ℕ) → (32 ≤ at) × (at + 4 ≤ 44) → field 4 new at ≡ field 4 old at)
    → is_out_of group row ≡ false → is_into group row ≡ false → is_loop_of group row ≡ false → HasOneMore old new group row
none_more old new group row same a b c = record {
  out = same 32 (omega arith, omega arith) ∙ more_none (field 4 old 32) (is_out_of group row) a;
  into = same 36 (omega arith, omega arith) ∙ more_none (field 4 old 36) (is_into group row) b;
  loops = same 40 (omega arith, omega arith) ∙ more_none (field 4 old 40) (is_loop_of group row) c;
}

-- one of another type
pub counts_untyped : (old new : Rec) (group : GroupRow) (row : RelRow) → ((at : ℕ) → (32 ≤ at) × (at + 4 ≤ 44) → field 4 new at ≡ field 4 old at)
    → row.label ≢ group.label → HasOneMore old new group row
counts_untyped old new group row same ne = none_more old new group row same (rw (eq_false row.label group.label ne) refl)
    (rw (eq_false row.label group.label ne) refl) (rw (eq_false row.label group.label ne) refl)

-- one at other nodes
pub counts_away : (old new : Rec) (group : GroupRow) (row : RelRow) → ((at : ℕ) → (32 ≤ at) × (at + 4 ≤ 44) → field 4 new at ≡ field 4 old at)
    → ¬ IsEnd group.owner row → HasOneMore old new group row
counts_away old new group row same out = none_more old new group row same
    ((λ i. nat_eq row.label group.label && (from i && not (to i))) ∙ none (nat_eq row.label group.label))
    ((λ i. nat_eq row.label group.label && (not (from i) && to i)) ∙ none (nat_eq row.label group.label))
    ((λ i. nat_eq row.label group.label && (from i && to i)) ∙ none (nat_eq row.label group.label))
  where
    from : nat_eq row.from group.owner ≡ false
    from = eq_false row.from group.owner (λ e. out (inl e))

    to : nat_eq row.to group.owner ≡ false
    to = eq_false row.to group.owner (λ e. out (inr e))

    none : (b : Bool) → (b && false) ≡ false
    none true = refl
    none false = refl

-- ---- all heads

-- one more relationship is one more, where it passes the test
pub count_more : (test : RelRow → Bool) (row : RelRow) (rels now : ℕ → Option RelRow) (n m id : ℕ) → rels id ≡ None → now id ≡ Some row
    → ((x : ℕ) → x ≢ id → now x ≡ rels x)
    → id < m → (m ≡ n) ⊎ ((id ≡ n) × (m ≡ n + 1)) → count_of test now m ≡ count_of test rels n + one_if (test row)
count_more test row rels now n m id none here same lt way = by (test row) (ap (passes test) here)
  where
    by : (b : Bool) → passes test (now id) ≡ b → count_of test now m ≡ count_of test rels n + one_if b
    by true e = ids_with (λ x. passes test (rels x)) (λ x. passes test (now x)) n m id (ap (passes test) none) e (λ x ne. ap (passes test) (same x ne)) lt way
    by false e = ap length (ids_kept (λ x. passes test (rels x)) (λ x. passes test (now x)) n m id
        (λ x. ⊎_elim (λ (k : x ≡ id). ap (λ z. passes test (now z)) k ∙ e ∙ sym (ap (passes test) none) ∙ ap (λ z. passes test (rels z)) (sym k))
        (λ ne. ap (passes test) (same x ne)) (nat_cases x id))
        (ap (passes test) none) way) ∙ sym (add-zero (count_of test rels n))

-- so the numbers stay exact
pub counts_more : (group : GroupRow) (row : RelRow) (rels now : ℕ → Option RelRow) (n m id : ℕ) → rels id ≡ None → now id ≡ Some row
    → ((x : ℕ) → x ≢ id → now x ≡ rels x)
    → id < m → (m ≡ n) ⊎ ((id ≡ n) × (m ≡ n + 1)) → (old new : Rec) → HasOneMore old new group row → HasCounts old group rels n → HasCounts new group now m
counts_more group row rels now n m id none here same lt way old new more h = record {
  out = one (is_out_of group) _ _ more.out h.out;
  into = one (is_into group) _ _ more.into h.into;
  loops = one (is_loop_of group) _ _ more.loops h.loops;
}
  where
    one : (test : RelRow → Bool) (a b : ℕ) → b ≡ a + one_if (test row) → a ≡ count_of test rels n → b ≡ count_of test now m
    one test a b is was = is ∙ ap (λ k. k + one_if (test row)) was ∙ sym (count_more test row rels now n m id none here same lt way)

-- and where one goes
pub counts_less : (group : GroupRow) (row : RelRow) (rels now : ℕ → Option RelRow) (n m id : ℕ) → rels id ≡ Some row → now id ≡ None
    → ((x : ℕ) → x ≢ id → now x ≡ rels x)
    → id < n → m ≡ n → (old new : Rec) → HasOneMore new old group row → HasCounts old group rels n → HasCounts new group now m
counts_less group row rels now n m id there none same lt mark old new more h = record {
  out = one (is_out_of group) _ _ more.out h.out;
  into = one (is_into group) _ _ more.into h.into;
  loops = one (is_loop_of group) _ _ more.loops h.loops;
}
  where
    lower : (a b c d k : ℕ) → b ≡ a + k → b ≡ c → c ≡ d + k → a ≡ d
    lower a b c d k p q r = omega arith

    one : (test : RelRow → Bool) (a b : ℕ) → b ≡ a + one_if (test row) → b ≡ count_of test rels n → a ≡ count_of test now m
    one test a b is was = lower a b (count_of test rels n) (count_of test now n) (one_if (test row)) is was
        (count_more test row now rels n n id none there (λ x ne. sym (same x ne)) lt (inl refl))
        ∙ ap (count_of test now) (sym mark)
