-- How many relationships stand in the chains of a group.
use Rattle.std.proofs.Common.{◌≡◌, ◌≢◌, ℕ, zero, suc, ◌+◌, ◌<◌, ◌≤◌, nat_eq, min, not, Bool, true, false, ◌&&◌, ◌||◌}
use Rattle.std.proofs.Common.{◌⊎◌, cond, Option, None, Some, List, length, sym, ap, ◌∙◌, subst, inl, inr, ⊎_elim, arith}
use Rattle.std.proofs.Common.{refl}
use Rattle.std.proofs.lemmas.Bool.{true≢false}
use Rattle.std.proofs.lemmas.Bool.Decides.{nat_tests}
use Rattle.std.proofs.lemmas.List.{length-append}
use Rattle.rec_bytes.specs.declared.shape.Shape.{Shape}
use Rattle.rec_bytes.specs.Format as format
use Rattle.rec_bytes.specs.Format.{most_ids, nil}
use Rattle.rec_bytes.specs.Space.{State}
use Rattle.store_rules.specs.Chains.{IsWalk}
use Rattle.store_rules.specs.Rows.{ids, option_list}
use Rattle.store_rules.specs.Rules.{GroupHead, IsInGroup, KeepsRules, Owns, StandsAt, count_of, degree_of, first_of, passes, stands_in}
use Rattle.store_rules.specs.Views as views
use Rattle.store_rules.specs.Views.{Records, RelRow, group_at, high, kind_at, rec_at, rel_at, rel_in}
use Rattle.store_rules.proofs.ChainLaws.{walk_of_chain}
use Rattle.store_rules.proofs.CountLaws.{IsSide, one_if}
use Rattle.store_rules.proofs.Counts.{ids_in, in_ids, once_ids}
use Rattle.store_rules.proofs.GroupLaws.{same_group}
use Rattle.store_rules.proofs.NumberLaws.{and_parts, eq_false, eq_true}
use Rattle.store_rules.proofs.OnceLaws.{length_once, length_same, once_walk}
use Rattle.store_rules.proofs.ViewLaws.{kind_below, some_row}
use Rattle.rel_store.specs.Loading.{rel_mark}
use Rattle.chain_edit.specs.Chains.{next_of, prev_of}
use Rattle.chain_edit.specs.Length.{HasCounted, IsMemberChain, is_member, stands}
use Rattle.chain_edit.proofs.Walks.{short_below, walk_is}
use Rattle.group_store.specs.declared.side.Side.{Side}
use Rattle.group_store.specs.declared.side.Side.TheVariants.{Out, In as Into, Loop}
use Rattle.group_store.specs.Raising.{members_of}
use Rattle.group_store.specs.Sides.{group_head, place_of}

-- ---- which relationships stand on a side

-- a group's row by its numbers
abbrev pub row_as : ℕ → ℕ → ℕ → views.GroupRow
row_as g label node = record { id = g; label = label; owner = node }

-- a test is passed by a row
passed : (test : RelRow → Bool) (o : Option RelRow) → passes test o ≡ true → (row : RelRow) × (o ≡ Some row) × (test row ≡ true)
passed test None e = absurd cc
passed test (Some row) e = (row, refl, e)

is_eq : (a b : ℕ) → nat_eq a b ≡ true → a ≡ b
is_eq a b e = grind (arith, nat_tests)

differ : (a b : ℕ) → not (nat_eq a b) ≡ true → a ≢ b
differ a b e k = true≢false (sym e ∙ ap not (eq_true a b k))

pub from_side : (g label node : ℕ) (z : Side) (row : RelRow) → row.label ≡ label → IsSide (place_of z) (row_as g label node) row
    → is_member node (members_of label z) row ≡ true
from_side g label node Out row typed (inl k) = λ i. eq_true row.label label typed i && (eq_true row.from node k.1 i && not (eq_false row.to node k.2 i))
from_side g label node Out row typed (inr (inl k)) = absurd (let e = k.0 in omega arith)
from_side g label node Out row typed (inr (inr k)) = absurd (let e = k.0 in omega arith)
from_side g label node Into row typed (inl k) = absurd (let e = k.0 in omega arith)
from_side g label node Into row typed (inr (inl k)) = λ i. eq_true row.label label typed i && (not (eq_false row.from node k.1 i) && eq_true row.to node k.2 i)
from_side g label node Into row typed (inr (inr k)) = absurd (let e = k.0 in omega arith)
from_side g label node Loop row typed (inl k) = absurd (let e = k.0 in omega arith)
from_side g label node Loop row typed (inr (inl k)) = absurd (let e = k.0 in omega arith)
from_side g label node Loop row typed (inr (inr k)) = λ i. eq_true row.label label typed i && (eq_true row.from node k.1 i && eq_true row.to node k.2 i)

pub to_side : (g label node : ℕ) (z : Side) (row : RelRow) → is_member node (members_of label z) row ≡ true → (row.label ≡ label)
    × IsSide (place_of z) (row_as g label node) row
to_side g label node Out row e =
    let a = and_parts (nat_eq row.label label) (nat_eq row.from node && not (nat_eq row.to node)) e in
    let b = and_parts (nat_eq row.from node) (not (nat_eq row.to node)) a.1 in
    (is_eq row.label label a.0, inl (refl, is_eq row.from node b.0, differ row.to node b.1))
to_side g label node Into row e =
    let a = and_parts (nat_eq row.label label) (not (nat_eq row.from node) && nat_eq row.to node) e in
    let b = and_parts (not (nat_eq row.from node)) (nat_eq row.to node) a.1 in
    (is_eq row.label label a.0, inr (inl (refl, differ row.from node b.0, is_eq row.to node b.1)))
to_side g label node Loop row e =
    let a = and_parts (nat_eq row.label label) (nat_eq row.from node && nat_eq row.to node) e in
    let b = and_parts (nat_eq row.from node) (nat_eq row.to node) a.1 in
    (is_eq row.label label a.0, inr (inr (refl, is_eq row.from node b.0, is_eq row.to node b.1)))

pub place : (z : Side) → (place_of z ≡ format.group_first_out) ⊎ ((place_of z ≡ format.group_first_in) ⊎ (place_of z ≡ format.group_first_loop))
place Out = inl refl
place Into = inr (inl refl)
place Loop = inr (inr refl)

-- what stands there was given out
pub stands_low : (s : Records) (test : RelRow → Bool) (x : ℕ) → passes test (rel_at s x) ≡ true → x < high s format.relationships_file
stands_low s test x e =
    let p = passed test (rel_at s x) e in
    let r = rec_at s format.relationships_file x in
    kind_below (high s format.relationships_file) r x (some_row (kind_at s format.relationships_file x) (rel_in r x) p.0 p.1).0

module _ (s : Records) (g label node : ℕ) (is : group_at s g ≡ Some (row_as g label node)) where
  -- what stands at a head is of its side
  pub stands_there : (z : Side) (x : ℕ) → StandsAt (rel_at s) (group_at s) (group_head g z) x → stands s node (members_of label z) x ≡ true
  stands_there z x at = ap (passes (is_member node (members_of label z))) at.live ∙ by (⊎_elim (λ k. absurd (let f = k.0 in omega arith)) (λ k. k.1) at.on)
    where
      by : IsInGroup (group_at s) (group_head g z) at.row → is_member node (members_of label z) at.row ≡ true
      by k =
          let same : k.row ≡ row_as g label node = same_group k.row (row_as g label node) (sym k.group ∙ is) in
          from_side g label node z at.row (k.label ∙ ap (λ (q : views.GroupRow). q.label) same)
          (subst (λ (q : views.GroupRow). IsSide (place_of z) q at.row) same k.side)

  -- and the other way round
  pub test_stands : (z : Side) (x : ℕ) → stands s node (members_of label z) x ≡ true → StandsAt (rel_at s) (group_at s) (group_head g z) x
  test_stands z x e =
      let p = passed (is_member node (members_of label z)) (rel_at s x) e in
      let k = to_side g label node z p.0 p.2 in
      record { row = p.0; live = p.1; on = inr (refl, record { row = row_as g label node; group = is; label = k.0; side = k.1 }) }

  abbrev pub owns_group : (z : Side) → kind_at s format.nodes_file node ≡ format.dense
      → GroupHead (kind_at s format.nodes_file) (group_at s) (group_head g z) node
  owns_group z dense = record { dense = dense; row = row_as g label node; group = is; owner = refl; key = refl; field = place z }

  pub owns : (z : Side) → kind_at s format.nodes_file node ≡ format.dense → Owns (kind_at s format.nodes_file) (group_at s) (group_head g z) node
  owns z dense = inr (owns_group z dense)

  module _ (shape : Shape) {most : ℕ} {empty : List ℕ} (well : KeepsRules s shape most empty) (dense : kind_at s format.nodes_file node ≡ format.dense)
      (z : Side) where
    -- the chain of a side
    pub chain_of_side : (t : State) → t.records ≡ s → (xs : List ℕ) × IsMemberChain t (first_of s (group_head g z)) node (members_of label z) xs
    chain_of_side t same =
        let l = well.linked.listed.each (group_head g z) node (owns z dense) in (
          l.members,
          subst (λ (r : Records). IsMemberChain (record t { records = r }) (first_of s (group_head g z)) node (members_of label z) l.members) (sym same)
              (record {
                chain = l.chain;
                low = λ x i. stands_low s (is_member node (members_of label z)) x (stands_there z x (l.only x i));
                are = λ x i.
                    stands_there z x (l.only x i);
              }),
        )

    -- it has as many as stand there
    pub length_is : (xs : List ℕ) → IsWalk (next_of s node) (first_of s (group_head g z)) xs
        → length xs ≡ count_of (is_member node (members_of label z)) (rel_at s) (high s format.relationships_file)
    length_is xs walk =
        let l = well.linked.listed.each (group_head g z) node (owns z dense) in
        let test = stands s node (members_of label z) in
        let mark = high s format.relationships_file in
        let met = walk_of_chain (next_of s node) (prev_of s node) nil (first_of s (group_head g z)) l.members l.chain in
        ap length (walk_is (next_of s node) (first_of s (group_head g z)) xs l.members walk met)
        ∙ length_same l.members (ids test mark) (once_walk (next_of s node) (first_of s (group_head g z)) l.members met) (once_ids test mark)
        (λ x i. let there = stands_there z x (l.only x i) in in_ids test mark x (stands_low s (is_member node (members_of label z)) x there) there)
        (λ x i. l.all x (test_stands z x (ids_in test mark x i).1))

-- ---- no more than the node has

one_test : (l f t : Bool) → (one_if (l && (f && not t)) + one_if (l && (not f && t))) + one_if (l && (f && t)) ≤ one_if (f || t)
one_test true true true = omega arith
one_test true true false = omega arith
one_test true false true = omega arith
one_test true false false = omega arith
one_test false true true = omega arith
one_test false true false = omega arith
one_test false false true = omega arith
one_test false false false = omega arith

-- a relationship stands on one side at most
row_test : (node label : ℕ) (o : Option RelRow) → (one_if (passes (is_member node (members_of label Out)) o) + one_if
    (passes (is_member node (members_of label Into)) o)) + one_if (passes (is_member node (members_of label Loop)) o) ≤ one_if (stands_in node o)
row_test node label None = omega arith
row_test node label (Some row) = one_test (nat_eq row.label label) (nat_eq row.from node) (nat_eq row.to node)

length_next : (test : ℕ → Bool) (n : ℕ) → length (ids test (suc n)) ≡ length (ids test n) + one_if (test n)
length_next test n = length-append (ids test n) (option_list (cond (test n) (Some n) None)) ∙ ap (λ k. length (ids test n) + k) (by (test n))
  where
    by : (b : Bool) → length (option_list (cond b (Some n) None)) ≡ one_if b
    by true = refl
    by false = refl

three_fit : (a b c d : ℕ → Bool) → ((x : ℕ) → (one_if (a x) + one_if (b x)) + one_if (c x) ≤ one_if (d x)) → (n : ℕ)
    → (length (ids a n) + length (ids b n)) + length (ids c n) ≤ length (ids d n)
three_fit a b c d h zero = omega arith
three_fit a b c d h (suc n) =
    let before = three_fit a b c d h n in
    let here = h n in
    let ea = length_next a n in
    let eb = length_next b n in
    let ec = length_next c n in
    let ed = length_next d n in
    omega arith

-- what was counted on a side stands there
counted_few : (s : State) (first node label budget n : ℕ) (z : Side) → HasCounted s first node (members_of label z) budget n
    → n ≤ count_of (is_member node (members_of label z)) (rel_at s.records) (rel_mark s)
counted_few s first node label budget n z h =
    let test = stands s.records node (members_of label z) in
    let le = length_once h.counted (ids test (rel_mark s)) (once_walk (prev_of s.records node) h.last h.counted h.walk)
    (λ x i. in_ids test (rel_mark s) x (h.low x i) (h.are x i)) in
    let e = h.many in
    omega arith

counted_small : (s : State) (first node label budget n : ℕ) (z : Side) → HasCounted s first node (members_of label z) budget n → n ≤ 33554432
counted_small s first node label budget n z h =
    let le = short_below (prev_of s.records node) h.last most_ids h.counted h.walk (λ x i. (h.key x i).id) in
    let e = h.many in
    omega arith

module _ (s : State) (node label a b c : ℕ) {f g h k m n : ℕ} (out : HasCounted s f node (members_of label Out) k a)
    (into : HasCounted s g node (members_of label Into) m b) (loops : HasCounted s h node (members_of label Loop) n c) where
  pub no_more : (a + b) + c ≤ degree_of (rel_at s.records) (rel_mark s) node
  no_more =
      let x = counted_few s f node label k a Out out in
      let y = counted_few s g node label m b Into into in
      let z = counted_few s h node label n c Loop loops in
      let all = three_fit (stands s.records node (members_of label Out)) (stands s.records node (members_of label Into))
      (stands s.records node (members_of label Loop)) (λ q. stands_in node (rel_at s.records q)) (λ q. row_test node label (rel_at s.records q))
      (rel_mark s) in
      omega arith

  -- so the degree says less, where they are as many as it allows and one
  pub less_said : (degree limit : ℕ) → limit ≡ min (degree + 1) 4294967295 → (a + b) + c ≡ limit → degree ≢ degree_of (rel_at s.records) (rel_mark s) node
  less_said degree limit is all e =
      let few = no_more in
      let x = counted_small s f node label k a Out out in
      let y = counted_small s g node label m b Into into in
      let z = counted_small s h node label n c Loop loops in
      omega arith
