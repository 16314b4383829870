-- A record that is blamed where an end of an edge is looked for broke the rule before.
use Rattle.std.proofs.Common.{◌≡◌, ◌≢◌, ◌⊎◌, ℕ, ◌+◌, ◌<◌, ◌≤◌, nat_eq, nat_lt, cond, Option, Some, List, sym, ap, ◌∙◌, subst, inl, inr, ⊎_elim, arith, refl}
use Rattle.std.proofs.lemmas.Bool.{true≢false}
use Rattle.rec_bytes.specs.declared.damage.Damage.{Damage}
use Rattle.rec_bytes.specs.declared.key.Key.{Key}
use Rattle.rec_bytes.specs.declared.record.Rec.{Rec}
use Rattle.rec_bytes.specs.declared.shape.Shape.{Shape}
use Rattle.rec_bytes.specs.Format as format
use Rattle.rec_bytes.specs.Meta as metas
use Rattle.rec_bytes.specs.MetaForm.{IsMetaRight}
use Rattle.rec_bytes.specs.Record.{field}
use Rattle.rec_bytes.specs.RecordFiles.{is_meta_file, room_of}
use Rattle.rec_bytes.specs.Space.{SameButReads, State}
use Rattle.rel_store.specs.Loading.{mark_damage, row_at}
use Rattle.rel_store.specs.declared.rel_row.RelRow.{RelRow}
use Rattle.rel_store.proofs.Rows as rel_rows
use Rattle.store_rules.specs.Breaking.{Breaks, BreaksAny, DegreeKeeps, GroupKeeps, IsGroupHeadOf, IsHeadChain, IsHeadOf}
use Rattle.store_rules.specs.Breaking.{IsInChain, IsMetaKept, IsOnOwnChain, group_head}
use Rattle.store_rules.specs.Breaking.Breaks.{FreeList, GroupChains, GroupOwner, NameCount, NodeChain, OffFreeList}
use Rattle.store_rules.specs.Breaking.Breaks.{OwnRecord, OwnerGroups, RecordRange, RelEnds, WrongBlock, WrongDefinition}
use Rattle.store_rules.specs.Breaking.Breaks.{WrongDegree, WrongElement, WrongHolding, WrongMeta, WrongName, WrongText}
use Rattle.store_rules.specs.Chains.{IsChain, next_in, place_of, prev_in}
use Rattle.store_rules.specs.PropertyChange.{Apart}
use Rattle.store_rules.specs.Rules.{Head, IsEnd, StandsAt, degree_of, first_of}
use Rattle.store_rules.specs.Views as views
use Rattle.store_rules.specs.Views.{GroupRow, Records, degree, group_at, high, key_in, kind_at, kind_in, rec_at, rel_at, rel_in}
use Rattle.store_rules.proofs.ChainLaws.{chain_stays}
use Rattle.store_rules.proofs.ChainRules.{chain_head}
use Rattle.store_rules.proofs.IndexBreaches.{index_rule}
use Rattle.store_rules.proofs.NumberLaws.{nat_cases}
use Rattle.store_rules.proofs.TwinRows.{HaveRels, degree_alike, have_rels, stands_alike}
use Rattle.store_rules.proofs.ViewLaws.{kind_below, some_row}
use Rattle.group_store.specs.Loading.{group_mark}
use Rattle.group_store.specs.Opening.{IsSearchDamage, LacksGroupOn, end_damage}
use Rattle.group_store.specs.Opening.IsSearchDamage.{BadGroups, BadNode, Uncounted}
use Rattle.group_store.specs.Raising.{IsCountDamage}
use Rattle.group_store.proofs.BrokenGroups.{no_group_breaks, node_breaks, walk_breaks}
use Rattle.group_store.proofs.AlikeGroups.{AreAlike, alike_back, chain_head_as, chains_as, dense_as, group_row}
use Rattle.group_store.proofs.AlikeGroups.{groups_as, groups_damage_as, lacks_as, node_as, on_as, twin_as, walk_as}
use Rattle.group_store.proofs.TwinLaws.{groups_break, twins_break}
use Rattle.std.specs.Prelude.{IfSome}
use Rattle.rec_bytes.specs.declared.fault.Fault.{Fault}
use Rattle.rec_bytes.specs.declared.fault.Fault.TheVariants as faults
use Rattle.rec_bytes.specs.Fault.{damage_of}
use Rattle.group_store.specs.Opening.{IsHeadFault}
use Rattle.change_parts.specs.ChangeFault.{of_fault}
use Rattle.change_parts.specs.declared.change_fault.ChangeFault.{ChangeFault}
use Rattle.change_parts.specs.Damage.{BlamesBroken, IsBroken}
use Rattle.change_parts.proofs.Broken.{blames_more}
use Rattle.change_parts.proofs.Causes.{broken_left}
use Rattle.edge_changes.proofs.EdgeBlames.{head_blamed}
use Rattle.edge_changes.proofs.EdgeDrops.{undropped_broke}
use Rattle.edge_changes.specs.EdgeDeleting.{BlamesEnd, HasRow, IsGroupedDamage, IsSoughtDamage, IsStray, IsTakenDamage, LeavesEdge, with_property}
use Rattle.edge_changes.specs.EdgeDeleting.IsTakenDamage.{Parted, Sought, Undropped}
use Rattle.edge_changes.proofs.EdgeFrames.{alike_edge, edge_none, end_link_before, end_link_breaks, kind_same, meta, node_same, pair_is, pair_low}

-- ---- what breaks a rule of which one record is said

-- the third rule of a group
group_broken : (r : Records) (shape : Shape) (g : ℕ) (d : Damage) → d ≡ record { file = format.groups_file; id = g; rule = 3 } → BreaksAny r shape d
    → (g < high r format.groups_file) × IsOnOwnChain r g × (¬ GroupKeeps r g)
group_broken r shape g d e (inl (OwnRecord k)) = absurd (let f = ap (λ (d : Damage). d.rule) e in omega arith)
group_broken r shape g d e (inl (WrongMeta id lt k)) = absurd (let f = ap (λ (d : Damage). d.rule) e in omega arith)
group_broken r shape g d e (inl (RecordRange file x m lt k)) = absurd (let f = ap (λ (d : Damage). d.rule) e in omega arith)
group_broken r shape g d e (inl (FreeList file m k)) = absurd (let f = ap (λ (d : Damage). d.rule) e in omega arith)
group_broken r shape g d e (inl (OffFreeList file x m lt dead k)) = absurd (let f = ap (λ (d : Damage). d.rule) e in omega arith)
group_broken r shape g d e (inl (NameCount k)) = absurd (let f = ap (λ (d : Damage). d.rule) e in omega arith)
group_broken r shape g d e (inl (NodeChain n lt k)) = absurd (let f = ap (λ (d : Damage). d.file) e in omega arith)
group_broken r shape g d e (inl (GroupChains h lt on k)) = subst (λ z. (z < high r format.groups_file) × IsOnOwnChain r z × (¬ GroupKeeps r z))
    (ap (λ (d : Damage). d.id) e) (lt, on, k)
group_broken r shape g d e (inl (RelEnds x lt k)) = absurd (let f = ap (λ (d : Damage). d.file) e in omega arith)
group_broken r shape g d e (inl (OwnerGroups n lt k)) = absurd (let f = ap (λ (d : Damage). d.rule) e in omega arith)
group_broken r shape g d e (inl (GroupOwner h k)) = absurd (let f = ap (λ (d : Damage). d.rule) e in omega arith)
group_broken r shape g d e (inl (WrongElement file x m lt k)) = absurd (let f = ap (λ (d : Damage). d.rule) e in omega arith)
group_broken r shape g d e (inl (WrongHolding p k)) = absurd (let f = ap (λ (d : Damage). d.rule) e in omega arith)
group_broken r shape g d e (inl (WrongText p lt k)) = absurd (let f = ap (λ (d : Damage). d.rule) e in omega arith)
group_broken r shape g d e (inl (WrongBlock b k)) = absurd (let f = ap (λ (d : Damage). d.rule) e in omega arith)
group_broken r shape g d e (inl (WrongDefinition x lt k)) = absurd (let f = ap (λ (d : Damage). d.rule) e in omega arith)
group_broken r shape g d e (inl (WrongName x lt k)) = absurd (let f = ap (λ (d : Damage). d.rule) e in omega arith)
group_broken r shape g d e (inl (WrongDegree n lt k)) = absurd (let f = ap (λ (d : Damage). d.rule) e in omega arith)
group_broken r shape g d e (inr bad) = absurd (let f = ap (λ (d : Damage). d.rule) e in let k = index_rule r d bad in omega arith)

-- the seventh rule of a node
degree_broken : (r : Records) (shape : Shape) (n : ℕ) (d : Damage) → d ≡ record { file = format.nodes_file; id = n; rule = 7 } → BreaksAny r shape d
    → (n < high r format.nodes_file) × (¬ DegreeKeeps r shape.threshold n)
degree_broken r shape n d e (inl (OwnRecord k)) = absurd (let f = ap (λ (d : Damage). d.rule) e in omega arith)
degree_broken r shape n d e (inl (WrongMeta id lt k)) = absurd (let f = ap (λ (d : Damage). d.rule) e in omega arith)
degree_broken r shape n d e (inl (RecordRange file x m lt k)) = absurd (let f = ap (λ (d : Damage). d.rule) e in omega arith)
degree_broken r shape n d e (inl (FreeList file m k)) = absurd (let f = ap (λ (d : Damage). d.rule) e in omega arith)
degree_broken r shape n d e (inl (OffFreeList file x m lt dead k)) = absurd (let f = ap (λ (d : Damage). d.rule) e in omega arith)
degree_broken r shape n d e (inl (NameCount k)) = absurd (let f = ap (λ (d : Damage). d.rule) e in omega arith)
degree_broken r shape n d e (inl (NodeChain m lt k)) = absurd (let f = ap (λ (d : Damage). d.rule) e in omega arith)
degree_broken r shape n d e (inl (GroupChains h lt on k)) = absurd (let f = ap (λ (d : Damage). d.rule) e in omega arith)
degree_broken r shape n d e (inl (RelEnds x lt k)) = absurd (let f = ap (λ (d : Damage). d.rule) e in omega arith)
degree_broken r shape n d e (inl (OwnerGroups m lt k)) = absurd (let f = ap (λ (d : Damage). d.rule) e in omega arith)
degree_broken r shape n d e (inl (GroupOwner h k)) = absurd (let f = ap (λ (d : Damage). d.rule) e in omega arith)
degree_broken r shape n d e (inl (WrongElement file x m lt k)) = absurd (let f = ap (λ (d : Damage). d.rule) e in omega arith)
degree_broken r shape n d e (inl (WrongHolding p k)) = absurd (let f = ap (λ (d : Damage). d.rule) e in omega arith)
degree_broken r shape n d e (inl (WrongText p lt k)) = absurd (let f = ap (λ (d : Damage). d.rule) e in omega arith)
degree_broken r shape n d e (inl (WrongBlock b k)) = absurd (let f = ap (λ (d : Damage). d.rule) e in omega arith)
degree_broken r shape n d e (inl (WrongDefinition x lt k)) = absurd (let f = ap (λ (d : Damage). d.rule) e in omega arith)
degree_broken r shape n d e (inl (WrongName x lt k)) = absurd (let f = ap (λ (d : Damage). d.rule) e in omega arith)
degree_broken r shape n d e (inl (WrongDegree m lt k)) = subst (λ z. (z < high r format.nodes_file) × (¬ DegreeKeeps r shape.threshold z))
    (ap (λ (d : Damage). d.id) e) (lt, k)
degree_broken r shape n d e (inr bad) = absurd (let f = ap (λ (d : Damage). d.rule) e in let k = index_rule r d bad in omega arith)

-- the first rule of the meta record of the relationships
meta_broken : (r : Records) (shape : Shape) (d : Damage) → d ≡ mark_damage → BreaksAny r shape d → ¬ IsMetaKept r shape format.relationships_file
meta_broken r shape d e (inl (OwnRecord k)) = absurd (let f = ap (λ (d : Damage). d.id) e in omega arith)
meta_broken r shape d e (inl (WrongMeta id lt k)) = subst (λ z. ¬ IsMetaKept r shape z) (ap (λ (d : Damage). d.id) e) k
meta_broken r shape d e (inl (RecordRange file x m lt k)) = absurd (true≢false (sym m ∙ ap is_meta_file (ap (λ (d : Damage). d.file) e)))
meta_broken r shape d e (inl (FreeList file m k)) = absurd (let f = ap (λ (d : Damage). d.rule) e in omega arith)
meta_broken r shape d e (inl (OffFreeList file x m lt dead k)) = absurd (let f = ap (λ (d : Damage). d.rule) e in omega arith)
meta_broken r shape d e (inl (NameCount k)) = absurd (let f = ap (λ (d : Damage). d.rule) e in omega arith)
meta_broken r shape d e (inl (NodeChain n lt k)) = absurd (let f = ap (λ (d : Damage). d.rule) e in omega arith)
meta_broken r shape d e (inl (GroupChains h lt on k)) = absurd (let f = ap (λ (d : Damage). d.rule) e in omega arith)
meta_broken r shape d e (inl (RelEnds x lt k)) = absurd (let f = ap (λ (d : Damage). d.rule) e in omega arith)
meta_broken r shape d e (inl (OwnerGroups n lt k)) = absurd (let f = ap (λ (d : Damage). d.rule) e in omega arith)
meta_broken r shape d e (inl (GroupOwner h k)) = absurd (let f = ap (λ (d : Damage). d.rule) e in omega arith)
meta_broken r shape d e (inl (WrongElement file x m lt k)) = absurd (let f = ap (λ (d : Damage). d.rule) e in omega arith)
meta_broken r shape d e (inl (WrongHolding p k)) = absurd (let f = ap (λ (d : Damage). d.rule) e in omega arith)
meta_broken r shape d e (inl (WrongText p lt k)) = absurd (let f = ap (λ (d : Damage). d.rule) e in omega arith)
meta_broken r shape d e (inl (WrongBlock b k)) = absurd (let f = ap (λ (d : Damage). d.rule) e in omega arith)
meta_broken r shape d e (inl (WrongDefinition x lt k)) = absurd (let f = ap (λ (d : Damage). d.rule) e in omega arith)
meta_broken r shape d e (inl (WrongName x lt k)) = absurd (let f = ap (λ (d : Damage). d.rule) e in omega arith)
meta_broken r shape d e (inl (WrongDegree n lt k)) = absurd (let f = ap (λ (d : Damage). d.rule) e in omega arith)
meta_broken r shape d e (inr bad) = absurd (let f = ap (λ (d : Damage). d.rule) e in let k = index_rule r d bad in omega arith)

-- ---- what was so before

module _ (s t : State) (id : ℕ) (left : LeavesEdge s t id) where
  marks : (file : ℕ) → file ≢ format.properties_file → file ≢ format.strings_file → high t.records file ≡ high s.records file
  marks file a b = ap (λ (r : Rec). (metas.meta_of r).high) (meta s t id left file a b)

  room : (file : ℕ) → room_of t.shape file ≡ room_of s.shape file
  room file = ap (λ (h : Shape). room_of h file) left.shape

  -- ---- relationships

  rel_number : (x n at : ℕ) → at + n ≤ format.record_bytes → Apart n at 4 format.relationship_first_property
      → field n (rec_at t.records format.relationships_file x) at ≡ field n (rec_at s.records format.relationships_file x) at
  rel_number x n at inside apart = ⊎_elim
      (λ (e : x ≡ id). subst (λ z. field n (rec_at t.records format.relationships_file z) at ≡ field n (rec_at s.records format.relationships_file z) at)
      (sym e) (left.own n at inside apart))
      (λ (ne : x ≢ id). ap (λ (r : Rec). field n r at) (left.others (key_in format.relationships_file x) (λ e. omega arith) (λ e. omega arith)
      (λ e. let f = ap (λ (k : Key). k.file) e in omega arith) (λ e. let f = ap (λ (k : Key). k.file) e in omega arith) (λ e. omega arith)
      (λ e. ne (ap (λ (k : Key). k.id) e))))
      (nat_cases x id)

  rel_mark : high t.records format.relationships_file ≡ high s.records format.relationships_file
  rel_mark = marks format.relationships_file (λ e. omega arith) (λ e. omega arith)

  rel_kind : (x : ℕ) → kind_at t.records format.relationships_file x ≡ kind_at s.records format.relationships_file x
  unfolding kind_in
  rel_kind x = λ i. kind_of (rel_mark i) (rel_number x 1 format.kind (omega arith) (inl (omega arith)) i)
    where
      kind_of : ℕ → ℕ → ℕ
      kind_of mark kind = cond (nat_lt x mark) kind 0

  rel_row : (x : ℕ) → rel_in (rec_at t.records format.relationships_file x) x ≡ record (rel_in (rec_at s.records format.relationships_file x) x)
      { property = field 4 (rec_at t.records format.relationships_file x) format.relationship_first_property }
  rel_row x = λ i. record {
    id = x;
    label = rel_number x 4 format.relationship_type (omega arith) (inl (omega arith)) i;
    from = rel_number x 4 format.relationship_source (omega arith) (inl (omega arith)) i;
    to = rel_number x 4 format.relationship_target (omega arith) (inl (omega arith)) i;
    property = field 4 (rec_at t.records format.relationships_file x) format.relationship_first_property;
  }

  rel_back : (x : ℕ) → rel_in (rec_at s.records format.relationships_file x) x ≡ record (rel_in (rec_at t.records format.relationships_file x) x)
      { property = field 4 (rec_at s.records format.relationships_file x) format.relationship_first_property }
  rel_back x = ap (λ (r : views.RelRow). record r { property = field 4 (rec_at s.records format.relationships_file x) format.relationship_first_property })
      (sym (rel_row x))

  there : HaveRels (rel_at s.records) (rel_at t.records)
  there = have_rels s.records t.records rel_kind rel_row

  back : HaveRels (rel_at t.records) (rel_at s.records)
  back = have_rels t.records s.records (λ x. sym (rel_kind x)) rel_back

  -- the links for a node
  link_place : (x n : ℕ) → place_of (rec_at t.records format.relationships_file x) n ≡ place_of (rec_at s.records format.relationships_file x) n
  link_place x n = ap (λ z. cond (nat_eq z n) 16 24) (rel_number x 4 format.relationship_source (omega arith) (inl (omega arith)))

  next_as : (x n : ℕ) → next_in (rec_at t.records format.relationships_file x) n ≡ next_in (rec_at s.records format.relationships_file x) n
  next_as x n =
      let r = rec_at s.records format.relationships_file x in
      let b = pair_low (place_of r n) (pair_is r n) in
      ap (λ p. field 4 (rec_at t.records format.relationships_file x) (p + 4)) (link_place x n)
      ∙ rel_number x 4 (place_of r n + 4) (omega (arith, b.1)) (inl (omega (arith, b.1)))

  prev_as : (x n : ℕ) → prev_in (rec_at t.records format.relationships_file x) n ≡ prev_in (rec_at s.records format.relationships_file x) n
  prev_as x n =
      let r = rec_at s.records format.relationships_file x in
      let b = pair_low (place_of r n) (pair_is r n) in
      ap (λ p. field 4 (rec_at t.records format.relationships_file x) p) (link_place x n)
      ∙ rel_number x 4 (place_of r n) (omega (arith, b.1)) (inl (omega (arith, b.1)))

  -- ---- groups

  alike : (n : ℕ) → AreAlike s t n
  alike n = alike_edge s t id left n

  -- the chain at a head of a node is there still
  first_as : (head : Head) (n : ℕ) → IsHeadOf s.records head n → first_of t.records head ≡ first_of s.records head
  first_as head n (inl o) = ap (first_of t.records) o.is ∙ ap (λ (r : Rec). field 4 r format.node_first_link) (node_same s t id left n)
      ∙ sym (ap (first_of s.records) o.is)
  first_as head n (inr o) = ap (λ (k : Key). field 4 (t.records k) head.field) o.key ∙ number ∙ sym (ap (λ (k : Key). field 4 (s.records k) head.field) o.key)
    where
      number : field 4 (rec_at t.records format.groups_file o.row.id) head.field ≡ field 4 (rec_at s.records format.groups_file o.row.id) head.field
      number = ⊎_elim
          (λ (e : head.field ≡ format.group_first_out). left.groups o.row.id 4 head.field (omega (arith, e)) (omega (arith, e)))
          (λ k. ⊎_elim (λ (e : head.field ≡ format.group_first_in). left.groups o.row.id 4 head.field (omega (arith, e)) (omega (arith, e)))
          (λ (e : head.field ≡ format.group_first_loop). left.groups o.row.id 4 head.field (omega (arith, e)) (omega (arith, e))) k) o.field

  head_chain : (head : Head) (n : ℕ) (members : List ℕ) → IsHeadOf s.records head n → IsHeadChain s.records head n members
      → IsHeadChain t.records head n members
  head_chain head n members owns was = record {
    chain = subst (λ f. IsChain (λ y. next_in (rec_at t.records format.relationships_file y) n) (λ y. prev_in (rec_at t.records format.relationships_file y) n)
        format.nil f members) (sym (first_as head n owns))
        (chain_stays (λ y. next_in (rec_at s.records format.relationships_file y) n) (λ y. prev_in (rec_at s.records format.relationships_file y) n)
        (λ y. next_in (rec_at t.records format.relationships_file y) n) (λ y. prev_in (rec_at t.records format.relationships_file y) n)
        format.nil (first_of s.records head) members (λ y i. next_as y n) (λ y i. prev_as y n) was.chain);
    only = λ x i. subst (λ (f : ℕ → Option GroupRow). StandsAt (rel_at t.records) f head x) (sym (groups_as s t n (alike n)))
        (stands_alike (rel_at s.records) (rel_at t.records) there back (group_at s.records) head x (was.only x i));
  }

  -- a group with its chains has them still
  group_keeps : (g : ℕ) → GroupKeeps s.records g → GroupKeeps t.records g
  group_keeps g keeps = record { chains = chains }
    where
      chains : (place n : ℕ) → IsGroupHeadOf t.records (group_head g place) n → (members : List ℕ) × IsHeadChain t.records (group_head g place) n members
      chains place n own =
          let now : IsGroupHeadOf s.records (group_head g place) n
          = record {
            dense = dense_as s t n (alike n) own.dense;
            row = own.row;
            group = sym (group_row s t n (alike n) own.row.id) ∙ own.group;
            owner =
                own.owner;
            key = own.key;
            field = own.field;
          } in
          let was = keeps.chains place n now in
          (was.0, head_chain (group_head g place) n was.0 (inr now) was.1)

  -- a relationship in a chain of a node is in it still
  in_chain : (n x : ℕ) → IsInChain s.records n x → IsInChain t.records n x
  in_chain n x here = record {
    head = here.head;
    owns = chain_head_as t s n (alike_back s t n (alike n)) here.head here.owns;
    members = here.members;
    chain = head_chain here.head n here.members (chain_head s.records here.head n here.owns) here.chain;
    member = here.member;
  }

  -- so is a node with its degree
  degree_keeps : (n : ℕ) → DegreeKeeps s.records s.shape.threshold n → DegreeKeeps t.records t.shape.threshold n
  degree_keeps n keeps = record {
    exact = λ used. same ∙ keeps.exact (λ e. used (kind_same s t id left n ∙ e))
        ∙ sym (degree_alike (rel_at s.records) (rel_at t.records) there back (high s.records format.relationships_file) n)
        ∙ ap (λ m. degree_of (rel_at t.records) m n) (sym rel_mark);
    few = λ sparse. subst (λ (h : Shape). degree t.records n ≤ h.threshold) (sym left.shape)
        (subst (λ d. d ≤ s.shape.threshold) (sym same) (keeps.few (sym (kind_same s t id left n) ∙ sparse)));
  }
    where
      same : degree t.records n ≡ degree s.records n
      same = ap (λ (r : Rec). field 4 r format.node_degree) (node_same s t id left n)

  group_mark_as : group_mark t ≡ group_mark s
  group_mark_as = marks format.groups_file (λ e. omega arith) (λ e. omega arith)

  -- ---- what broke the rule

  counted_broke : (n g : ℕ) (d : Damage) → IsCountDamage n g d → IsBroken t d → IsBroken s d
  counted_broke n g d names broken = ⊎_elim
      (λ e. let k = group_broken t.records t.shape g d e broken in
      subst (IsBroken s) (sym e) (inl (GroupChains g (subst (λ m. g < m) group_mark_as k.0) (k.1.0, on_as s t k.1.0 (alike k.1.0) g k.1.1)
      (λ keeps. k.2 (group_keeps g keeps)))))
      (λ j. ⊎_elim
      (λ e. let k = degree_broken t.records t.shape n d e broken in
      subst (IsBroken s) (sym e) (inl (WrongDegree n (subst (λ m. n < m) (marks format.nodes_file (λ e. omega arith) (λ e. omega arith)) k.0)
      (λ keeps. k.1 (degree_keeps n keeps)))))
      (λ e. let k = meta_broken t.records t.shape d e broken in
      subst (IsBroken s) (sym e) (inl (WrongMeta format.relationships_file (omega arith) (λ kept. k
      (subst (λ (h : Shape). IsMetaKept t.records h format.relationships_file) (sym left.shape)
      (subst (λ (r : Rec). IsMetaRight format.newest_version s.shape format.relationships_file r) (sym (meta s t id left format.relationships_file
      (λ e. omega arith) (λ e. omega arith))) kept)))))) j) names

  search_broke : (n : ℕ) (d : Damage) → IsBroken t d → IsSearchDamage t n d → IsBroken s d
  search_broke n d broken (BadNode _ bad) = inl (node_breaks s n d (node_as s t n (alike n) d bad))
  search_broke n d broken (BadGroups _ dense bad) = inl (walk_breaks s n (dense_as s t n (alike n) dense) d (walk_as s t n (alike n) d bad))
  search_broke n d broken (Uncounted _ g names) = counted_broke n g d names broken

  -- of an edge that was there
  pub sought_broke : (n label : ℕ) (row : views.RelRow) (d : Damage) → rel_at s.records id ≡ Some row → IsEnd n row → row.label ≡ label
      → IsSoughtDamage t id n label d → IsBroken s d
  sought_broke n label row d live end typed (inl told) = search_broke n d told.0 told.1
  sought_broke n label row d live end typed (inr told) = subst (IsBroken s) (sym told.0) (inl (⊎_elim
      (λ (free : kind_at t.records format.nodes_file n ≡ format.free_kind).
      RelEnds id (kind_below (high s.records format.relationships_file) (rec_at s.records format.relationships_file id) id
      (some_row (kind_at s.records format.relationships_file id) (rel_in (rec_at s.records format.relationships_file id) id) row live).0)
      (λ keeps. ⊎_elim
      (λ (e : row.from ≡ n). (keeps.from row live).node (ap (kind_at s.records format.nodes_file) e ∙ sym (kind_same s t id left n) ∙ free))
      (λ (e : row.to ≡ n). (keeps.to row live).node (ap (kind_at s.records format.nodes_file) e ∙ sym (kind_same s t id left n) ∙ free)) end))
      (λ (lacks : LacksGroupOn t.records n label). no_group_breaks s n id label row live end typed (lacks_as s t n (alike n) label lacks)) told.1))

  -- ---- an edge that isn't taken out of its chains

  grouped_broke : (n : ℕ) (d : Damage) → IsGroupedDamage t n d → IsBroken s d
  grouped_broke n d told = inl (⊎_elim
      (λ k. groups_break s n d (groups_damage_as s t n (alike n) d k))
      (λ k. subst (Breaks s.records s.shape) (sym k.0) (twins_break s n k.1 (on_as s t n (alike n) k.1 k.2) (twin_as s t n (alike n) k.1 k.3))) told)

  stray_broke : (row : views.RelRow) → rel_at s.records id ≡ Some row → IsStray t.records id row.from row.to → IsBroken s (end_damage id)
  stray_broke row live stray = inl (RelEnds id
      (kind_below (high s.records format.relationships_file) (rec_at s.records format.relationships_file id) id
      (some_row (kind_at s.records format.relationships_file id) (rel_in (rec_at s.records format.relationships_file id) id) row live).0)
      (λ keeps. stray.out (in_chain row.from id ((keeps.from row live).chain (chains_as s t row.from (alike row.from) stray.source)))
      (in_chain row.to id ((keeps.to row live).chain (chains_as s t row.to (alike row.to) stray.target)))))

  -- the row of the edge is the same, but for its properties
  pub row_later : (rel : RelRow) → HasRow s.records id rel → HasRow t.records id rel
  row_later rel has = there id (with_property id rel has.0) has.1

-- a record that is blamed where an edge that was found is taken out of its chains
pub taken_told : (s : State) (id : ℕ) (rel : RelRow) → row_at s.records id ≡ Some rel → (damage : Damage) → IsTakenDamage s id rel damage → IsBroken s damage
taken_told s id rel found damage (Sought _ node mid which left told) =
    sought_broke s mid id left node rel.label _ damage (rel_rows.rel_at-Some s.records id rel found) (⊎_elim (λ e. inl (sym e)) (λ e. inr (sym e)) which) refl
    told
taken_told s id rel found damage (Parted _ mid left told) =
    let live = rel_rows.rel_at-Some s.records id rel found in
    ⊎_elim
    (λ k. end_link_breaks s id rel damage found (end_link_before s mid id rel.from rel.to damage left k))
    (λ k. ⊎_elim (λ e. subst (IsBroken s) (sym e.0) (stray_broke s mid id left _ live e.1))
    (λ n. ⊎_elim (λ g. grouped_broke s mid id left rel.from damage g) (λ g. grouped_broke s mid id left rel.to damage g) n) k) told
taken_told s id rel found damage (Undropped _ mid left told) = inl (undropped_broke s mid told.0 told.1 (alike_edge s mid id left told.0) told.2 damage told.3)

-- an edge that is found has the row
pub row_found : (s : State) (id : ℕ) (rel : RelRow) → row_at s.records id ≡ Some rel → HasRow s.records id rel
row_found s id rel found = (
  rel.property,
  rel_rows.rel_at-Some s.records id rel found ∙ ap (λ i. Some (with_property i rel rel.property))
      (sym (ap (λ (r : RelRow). r.id) (rel_rows.kind-row_at-Some s.records id rel found).1)),
)

-- ---- an end that isn't found, in the space as it is left

-- where no more than reads came before
pub end_still : (s t : State) (id node : ℕ) (rel : RelRow) → HasRow s.records id rel → (node ≡ rel.from) ⊎ (node ≡ rel.to) → SameButReads s t
    → (fault : ChangeFault) → BlamesEnd s id node rel.label fault → BlamesBroken t fault
end_still s t id node rel has which same fault told = broken_left s t same fault (blames_more (IsSoughtDamage s id node rel.label) (IsBroken s)
    (λ damage k. sought_broke s s id (edge_none s id) node rel.label (with_property id rel has.0) damage has.1 (⊎_elim (λ e. inl (sym e)) (λ e. inr (sym e))
    which) refl k) fault told)

-- and where a head is looked for
pub head_still : (s m t : State) (id node : ℕ) (rel : RelRow) → HasRow s.records id rel → (node ≡ rel.from) ⊎ (node ≡ rel.to) → SameButReads s m
    → (fault : Fault) → IsHeadFault m node id rel.label fault → IfSome (damage_of fault) (λ _. SameButReads m t)
    → BlamesBroken t (of_fault fault)
head_still s m t id node rel has which same faults.Memory told later = tt
head_still s m t id node rel has which same faults.Disk told later = tt
head_still s m t id node rel has which same (faults.Damaged damage) told later =
    subst (λ (z : State). IsBroken z damage) (sym later) (subst (λ (z : State). IsBroken z damage) (sym same)
    (sought_broke s s id (edge_none s id) node rel.label (with_property id rel has.0) damage has.1 (⊎_elim (λ e. inl (sym e)) (λ e. inr (sym e)) which) refl
    (head_blamed s m id node rel.label same (faults.Damaged damage) told)))
