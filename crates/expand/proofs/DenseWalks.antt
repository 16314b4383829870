-- A walk of a dense node's groups, and then of chains of theirs.
use Rattle.std.proofs.Common.{◌≡◌, ◌<◌, ℕ, List, length, map, refl, sym, ap, ◌∙◌, subst, arith}
use Rattle.rec_bytes.specs.declared.damage.Damage.{Damage}
use Rattle.rec_bytes.specs.Format as format
use Rattle.rec_bytes.specs.Space.{State, after_gets}
use Rattle.rec_bytes.specs.declared.shape.Shape.{Shape}
use Rattle.store_rules.specs.Breaking as breaking
use Rattle.store_rules.specs.Breaking.{Breaks}
use Rattle.store_rules.specs.Breaking.Breaks.{OwnerGroups, RecordRange, WrongMeta}
use Rattle.store_rules.specs.Views as views
use Rattle.store_rules.specs.Views.{Records, first_link, group_in, high, kind_at, rec_at}
use Rattle.store_rules.proofs.ChainLaws.{walk_of_chain}
use Rattle.store_rules.proofs.ViewLaws.{kind_below, some_row}
use Rattle.node_store.specs.declared.node_row.NodeRow.{NodeRow}
use Rattle.plain_graph.specs.declared.direction.Direction.{Direction}
use Rattle.rel_store.specs.declared.edge_row.EdgeRow.{EdgeRow}
use Rattle.rel_store.specs.Loading.{rel_mark}
use Rattle.chain_edit.specs.Walking.{edge_at}
use Rattle.chain_edit.proofs.Walks.{mark_then, walk_is}
use Rattle.group_store.specs.declared.group_row.GroupRow.{GroupRow}
use Rattle.group_store.specs.GroupChain.{IsOwnedList, next_group}
use Rattle.group_store.specs.Walking as groups
use Rattle.group_store.specs.Walking.{HasGroupRows, IsWalkable, group_row_at}
use Rattle.group_store.specs.Walking.IsWalkDamage.{HighMark, NoList, UnknownGroup}
use Rattle.group_store.proofs.GroupWalks.{gets_add, records_then}
use Rattle.expand.specs.declared.expand_fault.ExpandFault.{ExpandFault}
use Rattle.expand.specs.declared.expand_fault.ExpandFault.TheVariants.{Damaged, Disk, Memory, NoNode}
use Rattle.expand.specs.declared.first_links.FirstLink.{FirstLink}
use Rattle.rec_bytes.specs.declared.fault.Fault.{Fault}
use Rattle.rec_bytes.specs.declared.fault.Fault.TheVariants as group
use Rattle.expand.specs.ExpandFault.{of_fault}
use Rattle.expand.specs.Expanding.{Blames, CanWalkGroups, HasDenseRows, IsDenseRow}
use Rattle.expand.specs.FirstLinks.{first_links, numbers_of}
use Rattle.expand.specs.Walking.{AreOfGroups, AreSoundWalks, AreWalks, HaveWalked}
use Rattle.expand.proofs.ChainWalks.{shape-after_gets}

-- what is blamed after reads breaks a rule of the space as it was
pub blamed_then : (s mid : State) (n : ℕ) → mid ≡ after_gets n s → (fault : ExpandFault) → Blames mid fault → Blames s fault
blamed_then s mid n reads (NoNode id) told = told
blamed_then s mid n reads Memory told = tt
blamed_then s mid n reads Disk told = tt
blamed_then s mid n reads (Damaged damage) told =
    let same : mid.shape ≡ s.shape = ap (λ (t : State). t.shape) reads ∙ shape-after_gets n s in
    subst (λ (r : Records). Breaks r s.shape damage) (records_then s mid n reads) (subst (λ (shape : Shape). Breaks mid.records shape damage) same told)

-- a node with a group chain owns those that its links lead through
owned_groups : (records : Records) (n : ℕ) (members : List ℕ) → breaking.IsGroupChain records n members → IsOwnedList records n (first_link records n) members
owned_groups records n members groups = record {
  walk = walk_of_chain _ _ format.nil (first_link records n) members groups.chain;
  only = λ g i.
      let is = groups.only g i in
      let row = some_row (kind_at records format.groups_file g) (group_in (rec_at records format.groups_file g) g) is.0 is.1 in
      record { used = row.0; owner = ap (λ (r : views.GroupRow). r.owner) row.1 ∙ is.2 };
}

-- what the groups are blamed for breaks a rule
pub group_fault : (s : State) (row : NodeRow) → IsDenseRow s row → (fault : Fault) → groups.IsWalkFault s row.id row.first fault → Blames s (of_fault fault)
group_fault s row is group.Memory told = tt
group_fault s row is group.Disk told = tt
group_fault s row is (group.Damaged damage) told = by damage told
  where
    below : row.id < high s.records format.nodes_file
    below = kind_below (high s.records format.nodes_file) (rec_at s.records format.nodes_file row.id) row.id (λ e. let dense = is.dense in omega arith)

    by : (damage : Damage) → groups.IsWalkDamage s row.id row.first damage → Breaks s.records s.shape damage
    by damage (NoList none) = OwnerGroups row.id below (λ keeps.
        let chain = keeps.groups is.dense in
        none chain.0 (subst (λ first. IsOwnedList s.records row.id first chain.0) (sym is.first) (owned_groups s.records row.id chain.0 chain.1)))
    by damage (UnknownGroup g none low unknown) = RecordRange format.groups_file g refl low (λ fits. let layout = fits.is in cc)
    by damage (HighMark above) = WrongMeta format.groups_file (omega arith) (λ meta. let right = meta.high in omega arith)

-- the rows of a walk of groups are those of groups that can be walked
pub rows_are : (s : State) (row : NodeRow) (rows : List GroupRow) (members : List ℕ) → HasGroupRows s.records row.id row.first rows
    → IsWalkable s row.id row.first members → rows ≡ map (group_row_at s.records) members
rows_are s row rows members listed can = listed.are ∙ ap (map (group_row_at s.records))
    (walk_is (next_group s.records) row.first listed.members members listed.list.walk can.list.walk)

module _ (s mid : State) (n : ℕ) (reads : mid ≡ after_gets n s) where
  -- walks that end do so after reads
  sound_then : (node : ℕ) (firsts xs : List ℕ) → AreSoundWalks s node firsts (rel_mark s) xs → AreSoundWalks mid node firsts (rel_mark mid) xs
  sound_then node firsts xs sound =
      let mark = mark_then s mid n reads in
      record {
        walks = subst (λ (r : Records). AreWalks r node firsts xs) (sym (records_then s mid n reads)) sound.walks;
        few = let few = sound.few in omega arith;
        low = λ x i. let lt = sound.low x i in omega arith;
      }

  module _ (row : NodeRow) (direction : Direction) (labels : List ℕ) (links : List FirstLink) (rows : List GroupRow)
      (listed : HasGroupRows s.records row.id row.first rows) (are : links ≡ first_links direction labels rows) where
    -- the links are those of the node's groups
    pub of_groups : IsDenseRow s row → AreOfGroups mid row.id links
    of_groups is = subst (λ (r : Records). AreOfGroups (record mid { records = r }) row.id links) (sym (records_then s mid n reads)) (record {
      dense = is.dense;
      groups = rows;
      listed = subst (λ first. HasGroupRows s.records row.id first rows) is.first listed;
      direction = direction;
      labels = labels;
      are = are;
    })

    -- chains of groups that can be walked
    pub can_walk : (members xs : List ℕ) → CanWalkGroups s row direction labels members xs → AreSoundWalks mid row.id (numbers_of links) (rel_mark mid) xs
    can_walk members xs can =
        let links_are = ap (first_links direction labels) (sym (rows_are s row rows members listed can.walkable)) ∙ sym are in
        sound_then row.id (numbers_of links) xs (subst (λ ls. AreSoundWalks s row.id (numbers_of ls) (rel_mark s) xs) links_are can.sound)

    -- the rows of both walks
    pub has_dense_rows : (new : State) (found : List EdgeRow) → n ≡ length rows → HaveWalked mid row.id (numbers_of links) found
        → new ≡ after_gets (length found) mid → HasDenseRows s new row direction labels found
    has_dense_rows new found count walked more = record {
      groups = rows;
      listed = listed;
      walked = record {
        members = walked.members;
        walks = subst (λ ls. AreWalks s.records row.id (numbers_of ls) walked.members) are
            (subst (λ (r : Records). AreWalks r row.id (numbers_of links) walked.members) (records_then s mid n reads) walked.walks);
        are = walked.are ∙ ap (λ (r : Records). map (edge_at r) walked.members) (records_then s mid n reads);
      };
      read = more ∙ ap (after_gets (length found)) reads ∙ gets_add (length found) n s ∙ ap (λ k. after_gets k s) (omega (arith, count));
    }
