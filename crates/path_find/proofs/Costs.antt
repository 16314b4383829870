-- What searches read, as sums over nodes of which none stands twice.
use Rattle.std.proofs.Common.{◌≡◌, ◌≢◌, ◌<◌, ◌≤◌, inl, inr, ℕ, zero, suc, ◌+◌, List, [], ◌∷◌, ◌++◌, length, take, drop, get_or, Contains}
use Rattle.std.proofs.Common.{append_assoc, refl, sym, ap, subst, ◌∙◌, arith}
use Rattle.std.specs.List.{AllPairs, sum_by}
use Rattle.std.proofs.lemmas.Grind.{get_or_default_zero}
use Rattle.std.proofs.lemmas.List.{drop_at, get_or-take, get_or_push, length_push, take-append-le, take_more_same}
use Rattle.std.proofs.lemmas.List.Elements.{All-contains, at_from_Contains}
use Rattle.std.proofs.lemmas.List.Sums.{sum_by-cons, sum_by-take-le, sum_by_more}
use Rattle.rec_bytes.specs.Space.{State}
use Rattle.rec_bytes.specs.declared.fault.Fault.{Fault}
use Rattle.rec_bytes.specs.declared.fault.Fault.TheVariants as faults
use Rattle.rec_bytes.specs.declared.row_fault.RowFault.{RowFault}
use Rattle.rec_bytes.specs.declared.row_fault.RowFault.TheVariants as rows
use Rattle.rec_bytes.proofs.Spaces.{after_gets-zero}
use Rattle.plain_graph.specs.Adjacency.{Adjacency}
use Rattle.plain_graph.specs.Walks.{LeadsTo}
use Rattle.plain_graph.specs.declared.direction.Direction.{Direction}
use Rattle.store_rules.proofs.Members.{contains_cases, contains_first, contains_later, pairs_first, pairs_rest}
use Rattle.chain_edit.specs.Walking.{ReadsAtMost}
use Rattle.expand.specs.Costs.{most_reads}
use Rattle.expand.specs.ExpandFault.{of_fault, of_row}
use Rattle.expand.proofs.ReadCounts.{reads_both}
use Rattle.path_find.specs.Costs.{AreReachedBelow, ReadsBetween, ReadsEnds, but_last, nodes_reads, rows_reads}
use Rattle.path_find.specs.Reach.{AreLayers}
use Rattle.path_find.specs.Tree.{IsTree, Rows, Spans, level_at, node_at, parent_at, row_count, way_to}
use Rattle.path_find.proofs.TreeWalks.{length-way_to, row_first, way_to-leads}

-- ---- reads

-- nothing was read
pub reads_none : (most : ℕ) (s : State) → ReadsAtMost most s s
reads_none most s = record { count = 0; within = omega arith; is = sym (after_gets-zero s) }

-- no more is read than another bound allows
pub reads_within : {s t : State} (few most : ℕ) → few ≤ most → ReadsAtMost few s t → ReadsAtMost most s t
reads_within few most le r = record { count = r.count; within = let within = r.within in omega (arith, le, within); is = r.is }

-- so many reads, and then as many as a bound rises by
pub reads_rise : (a b c : State) (low high : ℕ) → ReadsAtMost low a b → ReadsBetween low high b c → ReadsAtMost high a c
reads_rise a b c low high before more = subst (λ n. ReadsAtMost n a c) more.is (reads_both a b c low more.most before more.reads)

-- a bound that rises by nothing
pub between_none : (bound : ℕ) (s : State) → ReadsBetween bound bound s s
between_none bound s = record { most = 0; reads = reads_none 0 s; is = omega arith }

-- and by some reads more
pub between_more : (a b c : State) (low high most higher : ℕ) → ReadsBetween low high a b → ReadsAtMost most b c → high + most ≡ higher
    → ReadsBetween low higher a c
between_more a b c low high most higher before more rise = record {
  most = before.most + most;
  reads = reads_both a b c before.most most before.reads more;
  is = let is = before.is in omega (arith, is, rise);
}

-- beside another bound
pub between_left : {s t : State} (low high other : ℕ) → ReadsBetween low high s t → ReadsBetween (low + other) (high + other) s t
between_left low high other r = record { most = r.most; reads = r.reads; is = let is = r.is in omega (arith, is) }

pub between_right : {s t : State} (low high other : ℕ) → ReadsBetween low high s t → ReadsBetween (other + low) (other + high) s t
between_right low high other r = record { most = r.most; reads = r.reads; is = let is = r.is in omega (arith, is) }

-- what was read at so many first ones of a list, and at one more
module _ {X : Type 0} (f : X → ℕ) (xs : List X) (i : ℕ) (a b c : State) where
  pub first_reads-more : (d : X) → i < length xs → ReadsAtMost (sum_by f (take i xs)) a b → ReadsAtMost (f (get_or xs i d)) b c
      → ReadsAtMost (sum_by f (take (i + 1) xs)) a c
  first_reads-more d low before one = subst (λ n. ReadsAtMost n a c) (sym (sum_by_more f xs i d low))
      (reads_both a b c (sum_by f (take i xs)) (f (get_or xs i d)) before one)

  -- is no more than what all of them cost
  pub first_reads-all : ReadsAtMost (sum_by f (take i xs)) a c → ReadsAtMost (sum_by f xs) a c
  first_reads-all r = reads_within (sum_by f (take i xs)) (sum_by f xs) (sum_by-take-le f xs i) r

-- a fault that is passed on tells of no node that is missing
pub row_ends : (old new : State) (fault : RowFault) → ReadsEnds old new (of_row fault)
row_ends old new rows.Disk = tt
row_ends old new (rows.Damaged damage) = tt

pub fault_ends : (old new : State) (fault : Fault) → ReadsEnds old new (of_fault fault)
fault_ends old new faults.Memory = tt
fault_ends old new faults.Disk = tt
fault_ends old new (faults.Damaged damage) = tt

-- ---- sums

-- a list without a member, but for what is equal to it
record IsSplit (f : ℕ → ℕ) (ys : List ℕ) (x : ℕ) : Type 0 where
  rest : List ℕ
  sum : f x + sum_by f rest ≡ sum_by f ys
  others : (z : ℕ) → z ≢ x → Contains ys z → Contains rest z

split : (f : ℕ → ℕ) (ys : List ℕ) (x : ℕ) → Contains ys x → IsSplit f ys x
split f [] x (k, lt, is) = absurd (omega arith)
split f (y ∷ ys) x has = elim (contains_cases y ys x has) [
  | inl same ↦ record {
    rest = ys;
    sum = ap (λ n. f n + sum_by f ys) same ∙ sym (sum_by-cons f y ys);
    others = λ z differ has. elim (contains_cases y ys z has) [ inl is ↦ absurd (differ (is ∙ sym same)) | inr later ↦ later ];
  }
  | inr later ↦
      let less = split f ys x later in
      record {
        rest = y ∷ less.rest;
        sum = let one = sum_by-cons f y less.rest in let all = sum_by-cons f y ys in let sum = less.sum in omega (arith, one, all, sum);
        others = λ z differ has. elim (contains_cases y ys z has) [
          | inl is ↦ subst (Contains (y ∷ less.rest)) (sym is) (contains_first y less.rest)
          | inr there ↦ contains_later y less.rest z (less.others z differ there)
        ];
      }
]

-- a sum over members of which none stands twice is no more than that over all
pub sum_within : (f : ℕ → ℕ) (xs ys : List ℕ) → AllPairs (λ a b. a ≢ b) xs → ((x : ℕ) → Contains xs x → Contains ys x) → sum_by f xs ≤ sum_by f ys
sum_within f [] ys once within = omega arith
sum_within f (x ∷ xs) ys once within =
    let less = split f ys x (within x (contains_first x xs)) in
    let first = pairs_first (λ a b. a ≢ b) x xs once in
    let rest = sum_within f xs less.rest (pairs_rest (λ a b. a ≢ b) x xs once)
    (λ z has. less.others z (λ same. All-contains (λ y. x ≢ y) xs z first has (sym same)) (within z (contains_later x xs z has))) in
    let one = sum_by-cons f x xs in
    let sum = less.sum in
    omega (arith, rest, one, sum)

-- ---- the first rows

-- a place among so many first ones
low_in_take : (n : ℕ) (xs : List ℕ) (j : ℕ) → j < length (take n xs) → (j < n) × (j < length xs)
low_in_take zero xs j lt = absurd (omega arith)
low_in_take (suc n) [] j lt = absurd (omega arith)
low_in_take (suc n) (x ∷ xs) zero lt = (omega arith, omega arith)
low_in_take (suc n) (x ∷ xs) (suc j) lt =
    let rest = low_in_take n xs j (omega arith) in
    let few = rest.0 in
    let low = rest.1 in
    (omega (arith, few), omega (arith, low))

-- lists that agree at so many places
pub take_same : (n : ℕ) (xs ys : List ℕ) → n ≤ length xs → n ≤ length ys → ((i : ℕ) → i < n → get_or xs i 0 ≡ get_or ys i 0) → take n xs ≡ take n ys
take_same zero xs ys low low' same = refl
take_same (suc n) xs ys low low' same =
    let more = take_more_same xs ys n 0 (omega arith) (omega arith) (take_same n xs ys (omega arith) (omega arith) (λ i lt. same i (omega arith)))
    (same n (omega arith)) in
    let is : n + 1 ≡ suc n = omega arith in
    subst (λ k. take k xs ≡ take k ys) is more

at_take : (n : ℕ) (xs : List ℕ) (j d : ℕ) → j < n → j < length xs → get_or (take n xs) j d ≡ get_or xs j 0
at_take n xs j d few low = get_or-take n xs j d few ∙ get_or_default_zero xs j d low

module _ (rows : Rows) where
  pub record IsFirst (count node : ℕ) : Type 0 where
    pub row : ℕ
    pub few : row < count
    pub low : row < row_count rows
    pub is : node_at rows row ≡ node

  -- a node of so many first rows
  pub first_member : (count node : ℕ) → Contains (take count rows.nodes) node → IsFirst count node
  first_member count node has =
      let there = at_from_Contains (take count rows.nodes) node has in
      let low = low_in_take count rows.nodes there.0 there.1 in
      record { row = there.0; few = low.0; low = low.1; is = sym (at_take count rows.nodes there.0 0 low.0 low.1) ∙ there.2 0 }

  -- none stands twice
  pub first_once : (done : ℕ) → IsTree rows done → (count : ℕ) → AllPairs (λ a b. a ≢ b) (take count rows.nodes)
  first_once done tree count = λ i j d lt low.
      let place = low_in_take count rows.nodes j low in
      let few = place.0 in
      let there = place.1 in
      let first = at_take count rows.nodes i d (omega (arith, lt, few)) (omega (arith, lt, there)) in
      let second = at_take count rows.nodes j d few there in
      λ same. tree.distinct i j lt there (sym first ∙ same ∙ second)

  module _ (s : State) (direction : Direction) (labels : List ℕ) where
    -- with one row more
    pub rows_reads-more : (new : Rows) (at node : ℕ) → at < row_count rows → node ≡ node_at rows at → take (at + 1) new.nodes ≡ take (at + 1) rows.nodes
        → rows_reads s direction labels rows at + most_reads s direction labels node ≡ rows_reads s direction labels new (at + 1)
    rows_reads-more new at node low is same =
        let f = most_reads s direction labels in
        ap (λ n. sum_by f (take at rows.nodes) + f n) is ∙ sym (sum_by_more f rows.nodes at 0 low) ∙ ap (sum_by f) (sym same)

  -- ---- a search by whole levels

  -- its first rows are reached by fewer edges than it goes far
  pub first_reached : (near : Adjacency) (from done depth : ℕ) → AreLayers rows done depth → Spans near rows done → node_at rows 0 ≡ from
      → AreReachedBelow near from depth (take done rows.nodes)
  first_reached near from done depth layers spans first = record {
    distinct = first_once done layers.tree done;
    each = λ k d lt.
        let place = low_in_take done rows.nodes k lt in
        let few = place.0 in
        let low = place.1 in
        let level = level_at rows k in
        let leads = way_to-leads rows done layers.tree near spans level k low refl in
        let long = length-way_to rows done layers.tree level k in
        let below = layers.below k few in
        record {
          walk = node_at rows 0 ∷ way_to rows level k;
          leads = (first, subst (LeadsTo near (node_at rows 0) (way_to rows level k)) (sym (at_take done rows.nodes k d few low)) leads);
          few = omega (arith, long, below);
        };
  }

-- ---- the way on

-- the last node of a way to which one is added
pub last_pushed : (first : ℕ) (way new : List ℕ) (node : ℕ) → new ≡ way ++ node ∷ [] → get_or (first ∷ new) (length new) 0 ≡ node
last_pushed first way new node is =
    ap (λ (list : List ℕ). get_or (first ∷ list) (length list) 0) is
    ∙ get_or_push (first ∷ way) node 0 (length (way ++ node ∷ [])) (let long = length_push way node in omega (arith, long))

-- and what is read at the others
pub but_last-more : (s : State) (direction : Direction) (labels : List ℕ) (first : ℕ) (way new : List ℕ) (node last : ℕ) → new ≡ way ++ node ∷ []
    → get_or (first ∷ way) (length way) 0 ≡ last
    → nodes_reads s direction labels (but_last first way) + most_reads s direction labels last ≡ nodes_reads s direction labels (but_last first new)
but_last-more s direction labels first way new node last is at =
    let f = most_reads s direction labels in
    let long : length new ≡ length way + 1 = ap length is ∙ length_push way node in
    ap (λ n. sum_by f (but_last first way) + f n) (sym at) ∙ sym (sum_by_more f (first ∷ way) (length way) 0 (omega arith))
    ∙ ap (sum_by f) (sym (take-append-le (length way + 1) (first ∷ way) (node ∷ []) (omega arith)))
    ∙ ap (λ n. sum_by f (take n (first ∷ (way ++ node ∷ [])))) (sym long)
    ∙ ap (λ (list : List ℕ). sum_by f (take (length new) (first ∷ list))) (sym is)

-- what is left of a walk from a row on
pub drop_way : (rows : Rows) (done : ℕ) (tree : IsTree rows done) (level row : ℕ) (way : List ℕ) → row < row_count rows → level_at rows row ≡ level
    → drop level (node_at rows 0 ∷ (way_to rows level row ++ way)) ≡ node_at rows row ∷ way
drop_way rows done tree zero row way low is = ap (λ i. node_at rows i ∷ way) (sym (row_first rows done tree row low is))
drop_way rows done tree (suc level) row way low is =
    let before = way_to rows level (parent_at rows row) in
    ap (drop level) (append_assoc before (node_at rows row ∷ []) way)
    ∙ drop_at before (node_at rows row ∷ way) level (length-way_to rows done tree level (parent_at rows row))

abbrev no_nodes : List ℕ
no_nodes = []

-- where no walk is, nothing is left
pub none_left : (before count : ℕ) → no_nodes ≡ take count (drop before no_nodes)
none_left zero zero = refl
none_left zero (suc count) = refl
none_left (suc before) zero = refl
none_left (suc before) (suc count) = refl
