-- Which relationships counted groups count, while relationships of a node come into its groups, and what leaves the numbers exact.
use Rattle.std.proofs.Common.{◌≡◌, ◌≢◌, ℕ, ◌+◌, ◌≤◌, nat_eq, Bool, true, false, cond, ◌&&◌, ◌||◌, not, Option, None}
use Rattle.std.proofs.Common.{Some, List, [], ◌∷◌, length, sym, ap, ◌∙◌, subst, inl, inr, ⊎_elim, arith, refl}
use Rattle.std.specs.List.{list_any}
use Rattle.std.proofs.lemmas.Bool.{true≢false}
use Rattle.rec_bytes.specs.declared.record.Rec.{Rec}
use Rattle.rec_bytes.specs.Format as format
use Rattle.rec_bytes.specs.Record.{field}
use Rattle.store_rules.specs.Chains.{In}
use Rattle.store_rules.specs.Rules.{HasCounts, IsEnd, KeepsCounts, count_of, is_into, is_loop_of, is_out_of, passes}
use Rattle.store_rules.specs.Views.{GroupRow, Records, RelRow, group_at, high, kind_at, rec_at, rel_at}
use Rattle.store_rules.proofs.Counts.{ids_none}
use Rattle.store_rules.proofs.NumberLaws.{eq_false, eq_true, nat_cases}
use Rattle.group_store.specs.Spreading.{AreExactBut, HasCountedGroups, counted_rels, left_out}

-- ---- which relationships are counted

pub counted_here : (node owner : ℕ) (rest : List ℕ) (rels : ℕ → Option RelRow) → owner ≡ node → counted_rels node rest rels owner ≡ left_out rest rels
counted_here node owner rest rels e = ap (λ b. cond b (left_out rest rels) rels) (eq_true owner node e)

pub counted_other : (node owner : ℕ) (rest : List ℕ) (rels : ℕ → Option RelRow) → owner ≢ node → counted_rels node rest rels owner ≡ rels
counted_other node owner rest rels ne = ap (λ b. cond b (left_out rest rels) rels) (eq_false owner node ne)

-- where none is left all are
all_counted : (node owner : ℕ) (rels : ℕ → Option RelRow) → counted_rels node [] rels owner ≡ rels
all_counted node owner rels = by (nat_eq owner node)
  where
    by : (b : Bool) → cond b (left_out [] rels) rels ≡ rels
    by true = λ i x. rels x
    by false = refl

pub exact_all : (s : Records) (node : ℕ) → AreExactBut s node [] → KeepsCounts s
exact_all s node old g row is kind = subst (λ (rels : ℕ → Option RelRow). HasCounts (rec_at s format.groups_file g) row rels (high s format.relationships_file))
    (all_counted node row.owner (rel_at s)) (old g row is kind)

pub all_exact : (s : Records) (node : ℕ) → KeepsCounts s → AreExactBut s node []
all_exact s node old g row is kind = subst (λ (rels : ℕ → Option RelRow). HasCounts (rec_at s format.groups_file g) row rels (high s format.relationships_file))
    (sym (all_counted node row.owner (rel_at s))) (old g row is kind)

-- a relationship that is in none of these
out_test : (x : ℕ) (xs : List ℕ) → ¬ In x xs → list_any (nat_eq x) xs ≡ false
out_test x [] out = refl
out_test x (y ∷ ys) out = rw (eq_false x y (λ e. out (inl e)), out_test x ys (λ i. out (inr i))) refl

pub left_in : (rel : ℕ) (rest : List ℕ) (rels : ℕ → Option RelRow) → left_out (rel ∷ rest) rels rel ≡ None
left_in rel rest rels = ap (λ b. cond (b || list_any (nat_eq rel) rest) None (rels rel)) (eq_true rel rel refl)

pub left_not : (x : ℕ) (rest : List ℕ) (rels : ℕ → Option RelRow) → ¬ In x rest → left_out rest rels x ≡ rels x
left_not x rest rels out = ap (λ b. cond b None (rels x)) (out_test x rest out)

pub left_more : (x rel : ℕ) (rest : List ℕ) (rels : ℕ → Option RelRow) → x ≢ rel → left_out rest rels x ≡ left_out (rel ∷ rest) rels x
left_more x rel rest rels ne = ap (λ b. cond (b || list_any (nat_eq x) rest) None (rels x)) (sym (eq_false x rel ne))

-- ---- what stays

pub counts_by : (old new : Rec) (group : GroupRow) (rels now : ℕ → Option RelRow) (n m : ℕ)
    → ((at : ℕ) → (32 ≤ at) × (at + 4 ≤ 44) → field 4 new at ≡ field 4 old at) → now ≡ rels → m ≡ n → HasCounts old group rels n → HasCounts new group now m
counts_by old new group rels now n m same are mark h =
    subst (λ (q : ℕ → Option RelRow). HasCounts new group q m) (sym are) (subst (λ k. HasCounts new group rels k) (sym mark) (record {
      out = same 32 (omega arith, omega arith) ∙ h.out;
      into = same 36 (omega arith, omega arith) ∙ h.into;
      loops = same 40 (omega arith, omega arith) ∙ h.loops;
    }))

pub exact_stays : (s t : Records) (node : ℕ) (rest : List ℕ) → ((g : ℕ) → kind_at t format.groups_file g ≡ kind_at s format.groups_file g)
    → ((g : ℕ) → group_at t g ≡ group_at s g)
    → ((g at : ℕ) → (32 ≤ at) × (at + 4 ≤ 44) → field 4 (rec_at t format.groups_file g) at ≡ field 4 (rec_at s format.groups_file g) at) → rel_at t ≡ rel_at s
    → high t format.relationships_file ≡ high s format.relationships_file
    → AreExactBut s node rest → AreExactBut t node rest
exact_stays s t node rest kinds groups numbers rels mark old g row is kind =
    counts_by (rec_at s format.groups_file g) (rec_at t format.groups_file g) row (counted_rels node rest (rel_at s) row.owner)
    (counted_rels node rest (rel_at t) row.owner) (high s format.relationships_file) (high t format.relationships_file)
    (numbers g) (λ i. counted_rels node rest (rels i) row.owner) mark (old g row (sym (groups g) ∙ is) (sym (kinds g) ∙ kind))

pub counted_stays : (s t : Records) (node : ℕ) → ((g : ℕ) → kind_at t format.groups_file g ≡ kind_at s format.groups_file g)
    → ((g : ℕ) → group_at t g ≡ group_at s g) → HasCountedGroups s node → HasCountedGroups t node
counted_stays s t node kinds groups old g row is owner = kinds g ∙ old g row (sym (groups g) ∙ is) owner

-- and the other way round
test_out : (x : ℕ) (xs : List ℕ) → list_any (nat_eq x) xs ≡ false → ¬ In x xs
test_out x [] out i = i
test_out x (y ∷ ys) out (inl e) = true≢false (sym (ap (λ b. b || list_any (nat_eq x) ys) (eq_true x y e)) ∙ out)
test_out x (y ∷ ys) out (inr i) = test_out x ys (by (nat_eq x y) out) i
  where
    by : (b : Bool) → (b || list_any (nat_eq x) ys) ≡ false → list_any (nat_eq x) ys ≡ false
    by true e = absurd (true≢false e)
    by false e = e

-- ---- none

-- a test of a group that no relationship of its type at its owner passes
no_test : (group : GroupRow) (row : RelRow) → (row.label ≡ group.label → IsEnd group.owner row → ⊥) → (is_out_of group row ≡ false)
    × (is_into group row ≡ false) × (is_loop_of group row ≡ false)
no_test group row none = ⊎_elim
    (λ (typed : row.label ≡ group.label).
    let from : nat_eq row.from group.owner ≡ false = eq_false row.from group.owner (λ e. none typed (inl e)) in
    let to : nat_eq row.to group.owner ≡ false = eq_false row.to group.owner (λ e. none typed (inr e)) in (
      (λ i. nat_eq row.label group.label && (from i && not (to i))) ∙ no_more (nat_eq row.label group.label),
      (λ i. nat_eq row.label group.label && (not (from i) && to i)) ∙ no_more (nat_eq row.label group.label),
      (λ i. nat_eq row.label group.label && (from i && to i)) ∙ no_more (nat_eq row.label group.label),
    ))
    (λ (ne : row.label ≢ group.label). let l = eq_false row.label group.label ne in (
      (λ i. l i && (nat_eq row.from group.owner && not (nat_eq row.to group.owner))),
      (λ i. l i && (not (nat_eq row.from group.owner) && nat_eq row.to group.owner)),
      (λ i. l i && (nat_eq row.from group.owner && nat_eq row.to group.owner)),
    )) (nat_cases row.label group.label)
  where
    no_more : (b : Bool) → (b && false) ≡ false
    no_more true = refl
    no_more false = refl

-- where none is left but these, a group counts none
pub none_counted : (r : Rec) (group : GroupRow) (rels : ℕ → Option RelRow) (rest : List ℕ) (mark : ℕ) → field 4 r format.group_out_count ≡ 0
    → field 4 r format.group_in_count ≡ 0 → field 4 r format.group_loop_count ≡ 0
    → ((x : ℕ) (row : RelRow) → rels x ≡ Some row → ¬ In x rest → row.label ≡ group.label → IsEnd group.owner row → ⊥)
    → HasCounts r group (left_out rest rels) mark
none_counted r group rels rest mark a b c none = record {
  out = a ∙ sym (zero (is_out_of group) (λ row h. (no_test group row h).0));
  into = b ∙ sym (zero (is_into group) (λ row h. (no_test group row h).1));
  loops = c ∙ sym (zero (is_loop_of group) (λ row h. (no_test group row h).2));
}
  where
    zero : (test : RelRow → Bool) → ((row : RelRow) → (row.label ≡ group.label → IsEnd group.owner row → ⊥) → test row ≡ false)
        → count_of test (left_out rest rels) mark ≡ 0
    zero test fails = ap length (ids_none (λ x. passes test (left_out rest rels x)) mark each)
      where
        by : (x : ℕ) (b : Bool) → list_any (nat_eq x) rest ≡ b → (o : Option RelRow) → rels x ≡ o → passes test (cond b None o) ≡ false
        by x true e o is = refl
        by x false e None is = refl
        by x false e (Some row) is = fails row (none x row is (test_out x rest e))

        each : (x : ℕ) → passes test (left_out rest rels x) ≡ false
        each x = by x (list_any (nat_eq x) rest) refl (rels x) refl
