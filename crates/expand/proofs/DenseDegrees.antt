-- The number of a dense node's edges, by its groups or by its relationships.
use Rattle.std.proofs.Common.{◌≡◌, ◌≤◌, ◌+◌, ◌^◌, ℕ, Some, Bool, true, false, ◌&&◌, ◌||◌, not, List, [], ◌∷◌, length}
use Rattle.std.proofs.Common.{map, refl, sym, ap, ◌∙◌, subst, inl, inr, arith, Result, Ok, Err, IfOk}
use Rattle.std.proofs.lemmas.Bool.{true≢false}
use Rattle.plain_graph.specs.declared.direction.Direction.{Direction}
use Rattle.rec_bytes.specs.Format as format
use Rattle.rec_bytes.specs.Space.{State}
use Rattle.store_rules.specs.Chains.{In, IsWalk}
use Rattle.store_rules.specs.Graph.{graph_in, graph_of}
use Rattle.store_rules.specs.Views.{Records, first_link, group_in, high, kind_at, rec_at}
use Rattle.store_rules.proofs.ChainLaws.{walk_of_chain}
use Rattle.store_rules.proofs.NumberLaws.{eq_true}
use Rattle.store_rules.proofs.Shapes.{high_most}
use Rattle.store_rules.proofs.ViewLaws.{kind_low}
use Rattle.node_store.specs.declared.node_row.NodeRow.{NodeRow}
use Rattle.node_store.specs.Loading.{after_load, row_at}
use Rattle.chain_edit.specs.Walking.{ReadsAtMost}
use Rattle.chain_edit.proofs.Walks.{walk_is}
use Rattle.group_store.specs.declared.group_row.GroupRow.{GroupRow}
use Rattle.group_store.specs.GroupChain.{next_group}
use Rattle.group_store.specs.GroupRecord.{is_counted}
use Rattle.group_store.specs.Spreading.{HasCountedGroups}
use Rattle.group_store.specs.Walking.{HasGroupRows, group_row_at}
use Rattle.group_store.proofs.GroupRecords.{group_below}
use Rattle.group_store.proofs.GroupRules.{row_of_group}
use Rattle.expand.specs.declared.expand_fault.ExpandFault.{ExpandFault}
use Rattle.expand.specs.Costs.{type_count}
use Rattle.expand.specs.Degrees.{IsDenseDegree, as_number, counted_sum, lacks_counts, rows_count}
use Rattle.expand.specs.Expanding.{rows_of}
use Rattle.expand.specs.Matching.{is_wanted}
use Rattle.expand.proofs.DenseRows as dense_rows
use Rattle.expand.proofs.GroupHeads as heads
use Rattle.expand.proofs.GroupSums.{sum_rows}
use Rattle.expand.proofs.LoadedRows as loaded_rows
use Rattle.expand.proofs.ReadCounts.{reads_then}
use Rattle.expand.proofs.RowCounts.{count_small, part_count}
use Rattle.store_rules.specs.Rules.{IsWhole}

-- the number of rows of a store is small enough
pub number_is : (s : State) → IsWhole s → (direction : Direction) (labels : List ℕ) (n : ℕ)
    → as_number (rows_count direction labels n (rows_of s.records)) ≡ rows_count direction labels n (rows_of s.records)
number_is s store direction labels n =
    let few = count_small s.records direction labels n in
    let low = high_most s.records s.shape format.relationships_file store.ranges refl in
    small (rows_count direction labels n (rows_of s.records)) (high s.records format.relationships_file) few low
  where
    small : (k mark : ℕ) → k ≤ mark + mark → mark ≤ 2 ^ 25 → as_number k ≡ k
    small k mark few low = omega arith

module _ (s : State) (store : IsWhole s) (row : NodeRow) (dense : kind_at s.records format.nodes_file row.id ≡ format.dense)
    (first : row.first ≡ first_link s.records row.id) (direction : Direction) (labels : List ℕ) where
  abbrev n : ℕ
  n = row.id

  abbrev members : List ℕ
  members = heads.groups s.records s.shape store n dense

  group_walk : IsWalk (next_group s.records) row.first members
  group_walk = subst (λ f. IsWalk (next_group s.records) f members) (sym first)
      (walk_of_chain _ _ format.nil (first_link s.records n) members (heads.chain s.records s.shape store n dense).chain)

  listed_are : (gs : List GroupRow) → HasGroupRows s.records n row.first gs → gs ≡ map (group_row_at s.records) members
  listed_are gs listed = listed.are ∙ ap (map (group_row_at s.records))
      (walk_is (next_group s.records) row.first listed.members members listed.list.walk group_walk)

  pub degree_is : (t : State) (count : ℕ) → IsDenseDegree s t row direction labels count → count ≡ rows_count direction labels n (rows_of s.records)
  degree_is t count (inl sum) =
      let are = listed_are sum.groups sum.listed in
      sum.is ∙ ap as_number (ap (counted_sum direction labels) are ∙ sum_rows s.records s.shape store n dense labels direction (ap (lacks_counts labels)
      (sym are) ∙ sum.counted)) ∙ number_is s store direction labels n
  degree_is t count (inr walked) =
      walked.is ∙ ap as_number (part_count direction labels n walked.rows (rows_of s.records) (dense_rows.dense_part s store row dense first direction labels t
      walked.rows walked.has)) ∙ number_is s store direction labels n

  module _ (all : HasCountedGroups s.records n) where
    counted : (g : ℕ) → In g members → is_counted (rec_at s.records format.groups_file g) ≡ true
    counted g i =
        let is = (heads.chain s.records s.shape store n dense).only g i in
        let kind = all g (group_in (rec_at s.records format.groups_file g) g) (row_of_group s.records n g is) is.owner in
        eq_true _ _ (sym (kind_low (high s.records format.groups_file) (rec_at s.records format.groups_file g) g (group_below s.records n g is)) ∙ kind)

    none_lacks : (gs : List ℕ) → ((g : ℕ) → In g gs → In g members) → lacks_counts labels (map (group_row_at s.records) gs) ≡ false
    none_lacks [] within = refl
    none_lacks (g ∷ gs) within = by (is_wanted labels (group_row_at s.records g).label) (is_counted (rec_at s.records format.groups_file g))
        (counted g (within g (inl refl))) (none_lacks gs (λ k i. within k (inr i)))
      where
        by : (w c : Bool) → c ≡ true → lacks_counts labels (map (group_row_at s.records) gs) ≡ false
            → ((w && not c) || lacks_counts labels (map (group_row_at s.records) gs)) ≡ false
        by true true c rest = rest
        by true false c rest = absurd (true≢false (sym c))
        by false c d rest = rest

    -- so none of its groups lacks them
    pub all_counted : lacks_counts labels (map (group_row_at s.records) members) ≡ false
    all_counted = none_lacks members (λ k i. i)

-- one read, and so many more
pub one_read : (k : ℕ) (s t : State) → ReadsAtMost (k + 1) s t → ReadsAtMost (1 + k) s t
one_read k s t r = record { count = r.count; within = let le = r.within in omega arith; is = r.is }

-- ---- after the node was loaded

module _ (s : State) (n : ℕ) (row : NodeRow) (found : Some row ≡ row_at s.records n) (mid : State) (loaded : mid ≡ after_load s n) (thick : row.dense ≡ true)
    (store : IsWhole s) (direction : Direction) (labels : List ℕ) (new : State) where
  records_are : mid.records ≡ s.records
  records_are = loaded_rows.records_stay s n row found mid loaded

  abbrev mid_store : IsWhole mid
  mid_store = loaded_rows.store_stays s n row found mid loaded store

  abbrev mid_dense : kind_at mid.records format.nodes_file row.id ≡ format.dense
  mid_dense = loaded_rows.mid_dense s n row found mid loaded thick

  abbrev mid_first : row.first ≡ first_link mid.records row.id
  mid_first = loaded_rows.mid_first s n row found mid loaded thick

  id_is : row.id ≡ n
  id_is = loaded_rows.id_is s n row found mid loaded thick

  pub loaded_degree : (count : ℕ) → IsDenseDegree mid new row direction labels count → count ≡ rows_count direction labels n (rows_of s.records)
  loaded_degree count h = degree_is mid mid_store row mid_dense mid_first direction labels new count h
      ∙ (λ i. rows_count direction labels (id_is i) (rows_of (records_are i)))

  -- where all groups are counted, they alone are read
  pub loaded_counted : HasCountedGroups s.records n
      → (lacks_counts labels (map (group_row_at mid.records) (dense_rows.members mid mid_store row mid_dense mid_first direction labels)) ≡ false → ReadsAtMost
      (length (dense_rows.members mid mid_store row mid_dense mid_first direction labels)) mid new)
      → ReadsAtMost (1 + type_count (graph_in s) n) s new
  loaded_counted all reads =
      let counted = all_counted mid mid_store row mid_dense mid_first direction labels
      (subst (λ x. HasCountedGroups mid.records x) (sym id_is) (subst (λ (r : Records). HasCountedGroups r n) (sym records_are) all)) in
      let more = reads counted in
      let types = dense_rows.types_are mid mid_store row mid_dense mid_first direction labels in
      one_read (type_count (graph_in s) n) s new (reads_then s mid new n (type_count (graph_in s) n) loaded
      (subst (λ (r : Records). ReadsAtMost (type_count (graph_of r) n) mid new) records_are (subst (λ x. ReadsAtMost (type_count (graph_of mid.records) x)
      mid new) id_is (subst (λ k. ReadsAtMost k mid new) types more))))

-- ---- answers

pub if_degree : {P Q : ℕ → Type 0} (r : Result ℕ ExpandFault) → ((count : ℕ) → P count → Q count) → IfOk r P → IfOk r Q
if_degree (Ok count) f h = f count h
if_degree (Err fault) f h = tt
