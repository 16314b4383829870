-- What walks in the chains of a dense node's groups say of the store.
use Rattle.std.proofs.Common.{◌≡◌, ◌≢◌, ◌<◌, ◌+◌, ℕ, true, List, length, map, refl, sym, ap, ◌∙◌, subst, arith}
use Rattle.std.specs.List.{Contains}
use Rattle.std.proofs.lemmas.List.{length-map}
use Rattle.plain_graph.specs.declared.direction.Direction.{Direction}
use Rattle.rec_bytes.specs.Format as format
use Rattle.rec_bytes.specs.Space.{State}
use Rattle.store_rules.specs.Chains.{In, IsWalk}
use Rattle.store_rules.specs.Views.{first_link, kind_at, rec_at}
use Rattle.store_rules.proofs.ChainLaws.{walk_of_chain}
use Rattle.store_rules.proofs.ViewLaws.{kind_below}
use Rattle.node_store.specs.declared.node_row.NodeRow.{NodeRow}
use Rattle.rel_store.specs.declared.edge_row.EdgeRow.{EdgeRow}
use Rattle.rel_store.specs.Loading.{rel_mark}
use Rattle.chain_edit.specs.Walking.{ReadsAtMost, edge_at}
use Rattle.chain_edit.proofs.Walks.{walk_is}
use Rattle.group_store.specs.GroupChain.{next_group}
use Rattle.group_store.specs.Walking.{group_row_at}
use Rattle.expand.specs.Costs.{met_count, type_count}
use Rattle.expand.specs.Expanding.{CanWalkGroups, HasDenseRows, name_of, rows_of}
use Rattle.expand.specs.FirstLinks.{first_numbers}
use Rattle.expand.specs.Matching.{IsPart, is_met}
use Rattle.expand.specs.Walking.{AreWalks}
use Rattle.expand.proofs.ChainRows.{length-part, rows_part}
use Rattle.expand.proofs.ChainWalks.{walks_are}
use Rattle.expand.proofs.GroupHeads.{all_met, chain, firsts_are, groups, heads_differ, heads_in, heads_own, only_met}
use Rattle.expand.proofs.HeadChains.{HaveChains, have_chains}
use Rattle.store_rules.proofs.Members.{contains_map, length-once_below}
use Rattle.expand.proofs.TypeCounts.{groups_count, met_le}
use Rattle.store_rules.specs.Rules.{IsWhole}
use Rattle.store_rules.specs.Graph.{graph_in}

module _ (s : State) (store : IsWhole s) (row : NodeRow) (dense : kind_at s.records format.nodes_file row.id ≡ format.dense)
    (first : row.first ≡ first_link s.records row.id) (direction : Direction) (labels : List ℕ) where
  abbrev n : ℕ
  n = row.id

  -- the groups of the node, and what stands at their heads of the direction and types
  abbrev pub members : List ℕ
  members = groups s.records s.shape store n dense

  abbrev pub chains : HaveChains s.records s.shape store n (heads_in s.records direction labels members)
  chains = have_chains s.records s.shape store n (heads_in s.records direction labels members) (heads_own s.records s.shape store n dense direction labels)
      (heads_differ s.records s.shape store n dense direction labels)

  live : (x : ℕ) → In x chains.members → kind_at s.records format.relationships_file x ≢ 0
  live x i = let k = chains.only x i in (only_met s.records s.shape store n dense direction labels k.0 x k.1 k.2).0

  low : (x : ℕ) → In x chains.members → x < rel_mark s
  low x i = kind_below (rel_mark s) (rec_at s.records format.relationships_file x) x (live x i)

  walks : AreWalks s.records n (first_numbers direction labels (map (group_row_at s.records) members)) chains.members
  walks = subst (λ firsts. AreWalks s.records n firsts chains.members) (firsts_are s.records direction labels members) chains.walks

  group_walk : IsWalk (next_group s.records) row.first members
  group_walk = subst (λ f. IsWalk (next_group s.records) f members) (sym first)
      (walk_of_chain _ _ format.nil (first_link s.records n) members (chain s.records s.shape store n dense).chain)

  -- the links lead through all of them
  pub can_walk : CanWalkGroups s row direction labels members chains.members
  can_walk = record {
    walkable = record {
      mark = (store.ranges.metas format.groups_file refl).high;
      list = record { walk = group_walk; only = (chain s.records s.shape store n dense).only };
    };
    sound = record {
      walks = walks;
      few = length-once_below chains.members (rel_mark s) chains.once low;
      low = low;
    };
  }

  -- the rows of all that stand at their heads are a part of all rows
  part : IsPart (is_met direction labels n) (map (edge_at s.records) chains.members) (rows_of s.records)
  part = rows_part s.records (is_met direction labels n) chains.members chains.once live
      (λ x some met. let k = all_met s.records s.shape store n dense direction labels x some met in chains.all k.0 x k.1 k.2)

  met : (r : EdgeRow) → Contains (map (edge_at s.records) chains.members) r → is_met direction labels n r ≡ true
  met r is =
      let found = contains_map (edge_at s.records) chains.members r is in
      let k = chains.only found.0 found.1 in
      subst (λ (e : EdgeRow). is_met direction labels n e ≡ true) (sym found.2)
      (only_met s.records s.shape store n dense direction labels k.0 found.0 k.1 k.2).1

  pub types_are : length members ≡ type_count (graph_in s) n
  types_are = groups_count s.records s.shape store n dense

  -- as many groups as types, and as many members as relationships that are met
  pub dense_few : (new : State) → ReadsAtMost (length members + length chains.members) s new
      → ReadsAtMost (type_count (graph_in s) n + met_count (graph_in s) direction (map (name_of s.records) labels) n) s new
  dense_few new reads = record {
    count = reads.count;
    within =
        let le = reads.within in
        let few = length-part (is_met direction labels n) (is_met direction labels n) (map (edge_at s.records) chains.members) (rows_of s.records) part met in
        let fewer = met_le s.records s.shape store direction labels n in
        let long = length-map chains.members (edge_at s.records) in
        omega (arith, le, few, fewer, long, types_are);
    is = reads.is;
  }

  module _ (new : State) (rows : List EdgeRow) (has : HasDenseRows s new row direction labels rows) where
    -- the rows of the groups are those of all
    groups_are : has.groups ≡ map (group_row_at s.records) members
    groups_are = has.listed.are ∙ ap (map (group_row_at s.records)) (walk_is (next_group s.records) row.first has.listed.members members has.listed.list.walk
        group_walk)

    -- and the rows of relationships those of all that stand at their heads
    rows_are : rows ≡ map (edge_at s.records) chains.members
    rows_are = has.walked.are ∙ ap (map (edge_at s.records)) (walks_are s.records n (first_numbers direction labels has.groups) has.walked.members
        chains.members has.walked.walks
        (subst (λ rows. AreWalks s.records n (first_numbers direction labels rows) chains.members) (sym groups_are) walks))

    -- so they are a part of all rows
    pub dense_part : IsPart (is_met direction labels n) rows (rows_of s.records)
    dense_part = subst (λ xs. IsPart (is_met direction labels n) xs (rows_of s.records)) (sym rows_are) part
