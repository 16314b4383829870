-- What a load of a node and a walk of its chain say of the store.
use Rattle.std.proofs.Common.{◌≡◌, ◌≢◌, ◌+◌, ◌<◌, ℕ, nat_eq, Bool, true, false, cond, None, Some, List, Result, Ok, Err}
use Rattle.std.proofs.Common.{IfErr, IfOk, length, map, refl, sym, ap, ◌∙◌, subst, ⊎_elim, arith}
use Rattle.std.specs.List.{Contains}
use Rattle.std.proofs.lemmas.Bool.{eqb-true, true≢false}
use Rattle.std.proofs.lemmas.List.{length-map}
use Rattle.plain_graph.specs.Graph.{degree_in, has_node}
use Rattle.plain_graph.specs.declared.direction.Direction.{Direction}
use Rattle.rec_bytes.specs.declared.damage.Damage.{Damage}
use Rattle.rec_bytes.specs.declared.row_fault.RowFault.{RowFault}
use Rattle.rec_bytes.specs.declared.shape.Shape.{Shape}
use Rattle.rec_bytes.specs.RecordFiles.{room_of}
use Rattle.rec_bytes.specs.declared.row_fault.RowFault.TheVariants as row
use Rattle.rec_bytes.specs.Format as format
use Rattle.rec_bytes.specs.Record.{field}
use Rattle.rec_bytes.specs.Space.{State}
use Rattle.store_rules.specs.Breaking.{Breaks, NodeKeeps}
use Rattle.store_rules.specs.Breaking.Breaks.{NodeChain, RecordRange, WrongMeta}
use Rattle.store_rules.specs.Chains.{IsWalk}
use Rattle.store_rules.specs.Graph.{graph_in, graph_of}
use Rattle.store_rules.specs.Rules.{IsWellFormed, IsWhole}
use Rattle.store_rules.specs.Views.{Records, first_link, high, kind_at, rec_at, rel_in}
use Rattle.store_rules.proofs.GraphRows.{no_node, node_there}
use Rattle.store_rules.proofs.ChainLaws.{walk_of_chain}
use Rattle.store_rules.proofs.NumberLaws.{eq_false, eq_true, nat_cases}
use Rattle.store_rules.proofs.ViewLaws.{kind_below, kind_low, some_row}
use Rattle.node_store.specs.declared.node_row.NodeRow.{NodeRow}
use Rattle.node_store.specs.Loading.{IsKnown, IsNodeDamage, IsNodeFault, after_load, row_at}
use Rattle.row_store.specs.Loading.IsRowDamage.{HighMark as HighRow, UnknownKind}
use Rattle.node_store.specs.NodeRecord.{node_key, row_of}
use Rattle.node_store.proofs.Rows.{kind-row_at-None, kind-row_at-Some}
use Rattle.rel_store.specs.declared.edge_row.EdgeRow.{EdgeRow}
use Rattle.rel_store.specs.Loading.{rel_mark}
use Rattle.rec_bytes.specs.declared.fault.Fault.{Fault}
use Rattle.rec_bytes.specs.declared.fault.Fault.TheVariants as chain
use Rattle.chain_edit.specs.Chains.{IsChainFrom, next_of, prev_of}
use Rattle.chain_edit.specs.Walking.{HasWalked, IsSoundWalk, IsWalkDamage, IsWalkFault, ReadsAtMost, edge_at}
use Rattle.chain_edit.specs.Walking.IsWalkDamage.{HighMark, NoWalk}
use Rattle.chain_edit.proofs.Walks as walks
use Rattle.chain_edit.proofs.Walks.{sound_below}
use Rattle.group_store.specs.Loading.{group_mark}
use Rattle.group_store.proofs.ChainHeads.{sparse_unless}
use Rattle.expand.specs.declared.expand_fault.ExpandFault.{ExpandFault}
use Rattle.expand.specs.declared.expand_fault.ExpandFault.TheVariants.{Damaged, Disk, Memory, NoNode}
use Rattle.expand.specs.Costs.{dense_reads, met_count, most_reads, type_count}
use Rattle.expand.specs.ExpandFault.{of_fault, of_row}
use Rattle.expand.specs.Expanding.{Blames, CanWalkGroups, HasDenseRows, IsDenseRow, IsExpandFault, TellsNode, name_of, rows_of}
use Rattle.expand.specs.Matching.{IsPart, is_at, is_met}
use Rattle.expand.proofs.ChainRows as chain_rows
use Rattle.expand.proofs.ChainRows.{length-part, part_met}
use Rattle.expand.proofs.ChainWalks.{Rows}
use Rattle.expand.proofs.DenseRows as dense_rows
use Rattle.store_rules.proofs.Members.{contains_map}
use Rattle.expand.proofs.ModelEdges.{length-at_node}
use Rattle.expand.proofs.ReadCounts.{load_reads, records-after_load, reads_then, shape-after_load}

-- no row: no node has the identifier
pub none_there : (s : State) (n : ℕ) → None ≡ row_at s.records n → has_node (graph_in s) n ≡ false
none_there s n found = no_node s.records n (kind-row_at-None s.records n (sym found))

-- ---- a row that was loaded

module _ (s : State) (n : ℕ) (row : NodeRow) (found : Some row ≡ row_at s.records n) where
  -- the identifier is in use
  pub used : kind_at s.records format.nodes_file n ≢ 0
  used = (kind-row_at-Some s.records n row (sym found)).0

  -- a node has the identifier
  pub one_there : has_node (graph_in s) n ≡ true
  one_there = node_there s.records n used

  row_is : row ≡ row_of (rec_at s.records format.nodes_file n) n
  row_is = (kind-row_at-Some s.records n row (sym found)).1

  -- where its chain begins
  first_is : row.first ≡ first_link s.records n
  first_is = ap (λ (r : NodeRow). r.first) row_is

  -- its kind is as the row says
  kind_is : kind_at s.records format.nodes_file n ≡ field 1 (rec_at s.records format.nodes_file n) format.kind
  kind_is = let r = rec_at s.records format.nodes_file n in kind_low (high s.records format.nodes_file) r n
      (kind_below (high s.records format.nodes_file) r n used)

  pub dense_test : row.dense ≡ nat_eq (kind_at s.records format.nodes_file n) format.dense
  dense_test = ap (λ (r : NodeRow). r.dense) row_is ∙ ap (λ kind. nat_eq kind format.dense) (sym kind_is)

  -- its kind is one that nodes have
  known_sparse : IsKnown s n → row.dense ≡ false → kind_at s.records format.nodes_file n ≡ format.sparse
  known_sparse known thin =
      let r = rec_at s.records format.nodes_file n in
      let kind = field 1 r format.kind in
      ⊎_elim (λ (is : kind ≡ format.sparse). kind_is ∙ is) (λ (ne : kind ≢ format.sparse).
      absurd (known.kind (kind_below (high s.records format.nodes_file) r n used)
      (rw (
        eq_false kind format.free_kind (λ e. used (kind_is ∙ e)),
        eq_false kind format.sparse ne,
        (sym (ap (λ k. nat_eq k format.dense) kind_is)
            ∙ sym dense_test ∙ thin),
      ) refl)))
      (nat_cases kind format.sparse)

  is_sparse : IsWhole s → row.dense ≡ false → kind_at s.records format.nodes_file n ≡ format.sparse
  is_sparse store thin = sparse_unless s.records s.shape n store.ranges used (λ e. true≢false (sym (eq_true _ _ e) ∙ sym dense_test ∙ thin))

  -- the bound on reads
  sparse_bound : (direction : Direction) (labels : List ℕ) → row.dense ≡ false → most_reads s direction labels n ≡ degree_in (graph_in s) n + 1
  sparse_bound direction labels thin = ap (λ t. cond t (dense_reads s direction labels n) (degree_in (graph_in s) n + 1)) (sym dense_test ∙ thin)

  pub dense_bound : (direction : Direction) (labels : List ℕ) → row.dense ≡ true → most_reads s direction labels n ≡ dense_reads s direction labels n
  dense_bound direction labels thick = ap (λ t. cond t (dense_reads s direction labels n) (degree_in (graph_in s) n + 1)) (sym dense_test ∙ thick)

  module _ (mid : State) (loaded : mid ≡ after_load s n) where
    -- the load changed no record, no mark, no shape and no room
    pub records_stay : mid.records ≡ s.records
    records_stay = ap (λ (t : State). t.records) loaded ∙ records-after_load s n

    shape_stays : mid.shape ≡ s.shape
    shape_stays = ap (λ (t : State). t.shape) loaded ∙ shape-after_load s n

    mark_stays : rel_mark mid ≡ rel_mark s
    mark_stays = ap (λ (r : Records). high r format.relationships_file) records_stay

    pub store_stays : IsWhole s → IsWhole mid
    store_stays store = subst (λ (r : Records). IsWellFormed r mid.shape) (sym records_stay) (subst (IsWellFormed s.records) (sym shape_stays) store)

    -- ---- of a sparse node

    module _ (mark : ℕ) (marked : mark ≡ rel_mark s) (thin : row.dense ≡ false) where
      -- where the node has a chain, the walk ends within the mark
      ends : NodeKeeps s.records n → kind_at s.records format.nodes_file n ≡ format.sparse → (xs : List ℕ) × IsSoundWalk mid row.first n mark xs
      ends keeps is =
          let head = keeps.chain is in (
            head.0,
            subst (λ m. IsSoundWalk mid row.first n m head.0) (mark_stays ∙ sym marked) (sound_below mid row.first n head.0
                (subst (λ (r : Records). IsChainFrom r n row.first head.0) (sym records_stay) (subst (λ first. IsChainFrom s.records n first head.0)
                (sym first_is) head.1.chain))
                (λ x i.
                let stands = head.1.only x i in
                let low = kind_below (rel_mark s) (rec_at s.records format.relationships_file x) x
                (some_row (kind_at s.records format.relationships_file x) (rel_in (rec_at s.records format.relationships_file x) x) stands.row stands.live).0 in
                let same = mark_stays in omega arith)),
          )

      -- a record that the walk calls damaged breaks a rule
      pub chain_fault : IsKnown s n → (fault : Fault) → IsWalkFault mid (node_key n) row.first n mark fault → IsExpandFault s n (of_fault fault)
      chain_fault known chain.Memory told = tt
      chain_fault known chain.Disk told = tt
      chain_fault known (chain.Damaged damage) told = by damage told
        where
          below : n < high s.records format.nodes_file
          below = kind_below (high s.records format.nodes_file) (rec_at s.records format.nodes_file n) n used

          by : (damage : Damage) → IsWalkDamage mid (node_key n) row.first n mark damage → Breaks s.records s.shape damage
          by damage (NoWalk none) = NodeChain n below (λ keeps. let walk = ends keeps (known_sparse known thin) in none walk.0 walk.1)
          by damage (HighMark above) = WrongMeta format.relationships_file (omega arith)
              (λ meta. let right = meta.high in let mark = mark_stays in let room = ap (λ (shape : Shape). room_of shape format.relationships_file)
              shape_stays in omega arith)

      module _ (store : IsWhole s) where
        pub sparse : kind_at s.records format.nodes_file n ≡ format.sparse
        sparse = is_sparse store thin

        -- the relationships of the node's chain
        abbrev pub members : List ℕ
        members = chain_rows.members s.records s.shape store n sparse

        -- they are met after the load
        chained : IsChainFrom mid.records n row.first members
        chained = subst (λ (r : Records). IsChainFrom r n row.first members) (sym records_stay)
            (subst (λ first. IsChainFrom s.records n first members) (sym first_is) (chain_rows.chained s.records s.shape store n sparse))

        walk : IsWalk (next_of mid.records n) row.first members
        walk = walk_of_chain (next_of mid.records n) (prev_of mid.records n) format.nil row.first members chained

        -- the chain ends within the mark
        pub sound : IsSoundWalk mid row.first n mark members
        sound = subst (λ m. IsSoundWalk mid row.first n m members) (mark_stays ∙ sym marked)
            (sound_below mid row.first n members chained (λ x i. let low = chain_rows.low s.records s.shape store n sparse x i in let same = mark_stays in omega
            arith))

        -- each of them is at the node
        at_node : (r : EdgeRow) → Contains (map (edge_at s.records) members) r → is_at n r ≡ true
        at_node r is =
            let found = contains_map (edge_at s.records) members r is in
            subst (λ (e : EdgeRow). is_at n e ≡ true) (sym found.2) (chain_rows.at_node s.records s.shape store n sparse found.0 found.1)

        -- as many reads as relationships, and one for the node
        pub sparse_reads : (direction : Direction) (labels : List ℕ) (new : State) → ReadsAtMost (length members) mid new
            → ReadsAtMost (most_reads s direction labels n) s new
        sparse_reads direction labels new reads =
            let few = length-part (is_at n) (is_at n) (map (edge_at s.records) members) (rows_of s.records) (chain_rows.part s.records s.shape store n sparse)
            at_node in
            let same = length-at_node s.records s.shape store n in
            let long = length-map members (edge_at s.records) in
            let more : ReadsAtMost (degree_in (graph_in s) n) mid new =
            record { count = reads.count; within = let le = reads.within in omega arith; is = reads.is } in
            subst (λ most. ReadsAtMost most s new) (sym (sparse_bound direction labels thin)) (reads_then s mid new n (degree_in (graph_in s) n) loaded more)

        module _ (rows : List EdgeRow) (walked : HasWalked mid row.first n mark rows) where
          -- the rows are theirs
          rows_are : rows ≡ map (edge_at s.records) members
          rows_are = walks.rows_of mid row.first n mark rows members walked walk ∙ ap (λ (r : Records). map (edge_at r) members) records_stay

          whole : IsPart (is_at n) rows (rows_of s.records)
          whole = subst (λ xs. IsPart (is_at n) xs (rows_of s.records)) (sym rows_are) (chain_rows.part s.records s.shape store n sparse)

          -- so they are a part of all rows
          pub sparse_part : (direction : Direction) (labels : List ℕ) → IsPart (is_met direction labels n) rows (rows_of s.records)
          sparse_part direction labels = part_met direction labels n rows (rows_of s.records) whole

    -- ---- of a dense one

    module _ (thick : row.dense ≡ true) where
      pub id_is : row.id ≡ n
      id_is = ap (λ (r : NodeRow). r.id) row_is

      -- a record that is called damaged breaks a rule
      pub dense_fault : {T : Type 0} (found : Result T ExpandFault) → IfErr found (Blames mid) → IfErr found (IsExpandFault s n)
      dense_fault (Ok rows) told = tt
      dense_fault (Err (NoNode id)) told = absurd told
      dense_fault (Err Memory) told = tt
      dense_fault (Err Disk) told = tt
      dense_fault (Err (Damaged damage)) told = subst (λ (r : Records). Breaks r s.shape damage) records_stay
          (subst (λ (shape : Shape). Breaks mid.records shape damage) shape_stays told)

      -- the node is there
      pub dense_tells : {T : Type 0} (found : Result T ExpandFault) → IfErr found (Blames mid) → TellsNode found n (has_node (graph_in s) n)
      dense_tells (Ok rows) told = one_there
      dense_tells (Err (NoNode id)) told = absurd told
      dense_tells (Err Memory) told = one_there
      dense_tells (Err Disk) told = tt
      dense_tells (Err (Damaged damage)) told = tt

      pub mid_dense : kind_at mid.records format.nodes_file row.id ≡ format.dense
      mid_dense = ap (λ x. kind_at mid.records format.nodes_file x) id_is ∙ ap (λ (r : Records). kind_at r format.nodes_file n) records_stay
          ∙ eqb-true _ _ (sym dense_test ∙ thick)

      pub mid_first : row.first ≡ first_link mid.records row.id
      mid_first = first_is ∙ ap (λ (r : Records). first_link r n) (sym records_stay) ∙ ap (first_link mid.records) (sym id_is)

      pub mid_row : IsDenseRow mid row
      mid_row = record { dense = mid_dense; first = mid_first }

      module _ (store : IsWhole s) where
        -- the walks have an end
        pub can_walk : (direction : Direction) (labels : List ℕ) → CanWalkGroups mid row direction labels
            (dense_rows.members mid (store_stays store) row mid_dense mid_first direction labels)
            (dense_rows.chains mid (store_stays store) row mid_dense mid_first direction labels).members
        can_walk direction labels = dense_rows.can_walk mid (store_stays store) row mid_dense mid_first direction labels

        module _ (direction : Direction) (labels : List ℕ) (new : State) where
          -- the rows are a part of all rows
          pub dense_part : (rows : List EdgeRow) → HasDenseRows mid new row direction labels rows → IsPart (is_met direction labels n) rows (rows_of s.records)
          dense_part rows has = subst (λ (r : Records). IsPart (is_met direction labels n) rows (rows_of r)) records_stay
              (subst (λ x. IsPart (is_met direction labels x) rows (rows_of mid.records)) id_is (dense_rows.dense_part mid (store_stays store) row mid_dense
              mid_first direction labels new rows has))

          -- as many reads as types and as relationships that are met, and one for the node
          pub dense_most : ReadsAtMost (length (dense_rows.members mid (store_stays store) row mid_dense mid_first direction labels) + length
              (dense_rows.chains mid (store_stays store) row mid_dense mid_first direction labels).members) mid new
              → ReadsAtMost (most_reads s direction labels n) s new
          dense_most reads =
              let more = dense_rows.dense_few mid (store_stays store) row mid_dense mid_first direction labels new reads in
              let count = λ (r : Records) (x : ℕ). type_count (graph_of r) x + met_count (graph_of r) direction (map (name_of r) labels) x in
              subst (λ most. ReadsAtMost most s new) (sym (dense_bound direction labels thick))
              (reads_then s mid new n (count s.records n) loaded
              (subst (λ (r : Records). ReadsAtMost (count r n) mid new) records_stay (subst (λ x. ReadsAtMost (count mid.records x) mid new) id_is more)))

-- the rows of a dense node are a part of all rows
pub dense_parts : (s : State) (n : ℕ) (row : NodeRow) (found : Some row ≡ row_at s.records n) (mid : State) (loaded : mid ≡ after_load s n)
    (thick : row.dense ≡ true) (direction : Direction) (labels : List ℕ) (new : State)
    (result : Result Rows ExpandFault) → IfOk result (λ (rows : Rows). HasDenseRows mid new row direction labels rows.items)
    → IfOk result (λ (rows : Rows). IsWhole s → IsPart (is_met direction labels n) rows.items (rows_of s.records))
dense_parts s n row found mid loaded thick direction labels new (Ok rows) has = λ store.
    dense_part s n row found mid loaded thick store direction labels new rows.items has
dense_parts s n row found mid loaded thick direction labels new (Err fault) has = tt

-- reads after the load are no more than the marks count
pub dense_at_most : (s : State) (n : ℕ) (mid new : State) → mid ≡ after_load s n → ReadsAtMost (group_mark mid + rel_mark mid) mid new
    → ReadsAtMost (group_mark s + rel_mark s + 1) s new
dense_at_most s n mid new loaded more =
    let same = ap (λ (t : State). t.records) loaded ∙ records-after_load s n in
    reads_then s mid new n (group_mark s + rel_mark s) loaded
    (subst (λ (r : Records). ReadsAtMost (high r format.groups_file + high r format.relationships_file) mid new) same more)

pub sparse_at_most : (s : State) (n : ℕ) (mid new : State) → mid ≡ after_load s n → ReadsAtMost (rel_mark s) mid new
    → ReadsAtMost (group_mark s + rel_mark s + 1) s new
sparse_at_most s n mid new loaded more =
    reads_then s mid new n (group_mark s + rel_mark s) loaded (record { count = more.count; within = let few = more.within in omega arith; is = more.is })

-- a fault of the walk says that the node is there
pub chain_tells : (s : State) (n : ℕ) → has_node (graph_in s) n ≡ true → (fault : Fault)
    → TellsNode {T = Rows} (Err (of_fault fault)) n (has_node (graph_in s) n)
chain_tells s n there chain.Memory = there
chain_tells s n there chain.Disk = tt
chain_tells s n there (chain.Damaged damage) = tt

-- ---- faults

-- a record that the load calls damaged breaks a rule
pub row_fault : (s : State) (n : ℕ) (fault : RowFault) → IsNodeFault s n fault → IsExpandFault s n (of_row fault)
row_fault s n row.Disk told = tt
row_fault s n (row.Damaged damage) told = by damage told
  where
    by : (damage : Damage) → IsNodeDamage s n damage → Breaks s.records s.shape damage
    by damage (HighRow above) = WrongMeta format.nodes_file (omega arith) (λ meta. let right = meta.high in omega arith)
    by damage (UnknownKind lt none) = RecordRange format.nodes_file n refl lt (λ fits. let is = fits.is in cc)

-- ---- at most one read

pub load_most : (s mid : State) (n : ℕ) (direction : Direction) (labels : List ℕ) → mid ≡ after_load s n → ReadsAtMost (most_reads s direction labels n) s mid
load_most s mid n direction labels loaded = by (nat_eq (kind_at s.records format.nodes_file n) format.dense)
  where
    by : (is : Bool) → ReadsAtMost (cond is (dense_reads s direction labels n) (degree_in (graph_in s) n + 1)) s mid
    by true = load_reads s mid n (type_count (graph_in s) n + met_count (graph_in s) direction (map (name_of s.records) labels) n) loaded
    by false = load_reads s mid n (degree_in (graph_in s) n) loaded
