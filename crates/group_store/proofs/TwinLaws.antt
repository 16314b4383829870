-- Groups of one type on the chain of a node.
use Rattle.std.proofs.Common.{◌≡◌, ◌≢◌, ℕ, ◌+◌, ◌≤◌, Bool, true, false, Some, Result, Ok, Err, IfErr, IfOk, List, []}
use Rattle.std.proofs.Common.{◌∷◌, ◌++◌, sym, ap, ◌∙◌, subst, inl, inr, ⊎_elim, arith, refl}
use Rattle.std.proofs.lemmas.Bool.Decides.{nat_tests}
use Rattle.rec_bytes.specs.declared.damage.Damage.{Damage}
use Rattle.rec_bytes.specs.declared.fault.Fault.{Fault}
use Rattle.rec_bytes.specs.declared.fault.Fault.TheVariants.{Memory, Disk, Damaged}
use Rattle.rec_bytes.specs.declared.key.Key.{Key}
use Rattle.rec_bytes.specs.declared.record.Rec.{Rec}
use Rattle.rec_bytes.specs.Format as format
use Rattle.rec_bytes.specs.Record.{field}
use Rattle.rec_bytes.specs.Space.{SameButReads, State}
use Rattle.store_rules.specs.Breaking.{Breaks, HasChains, IsChainHead, IsOnChain}
use Rattle.store_rules.specs.Breaking.Breaks.{OwnerGroups}
use Rattle.store_rules.specs.Chains.{In}
use Rattle.store_rules.specs.Rules.{Head, IsOn}
use Rattle.store_rules.specs.Views as views
use Rattle.store_rules.specs.Views.{Records, RelRow, first_link, group_at, group_in, key_in, kind_at, rec_at, rel_at}
use Rattle.store_rules.proofs.ChainLaws.{walk_of_chain}
use Rattle.store_rules.proofs.ChainRules.{chain_head, on_dense, on_walk, same_rel}
use Rattle.store_rules.proofs.GroupPlaces.{on_group, one_place}
use Rattle.store_rules.proofs.OneHead.{end_on}
use Rattle.store_rules.proofs.ViewLaws.{some_row}
use Rattle.chain_edit.specs.Breaks.{IsBreakFault}
use Rattle.chain_edit.specs.Unlinking.{IsLoneHead, IsUnlinkFault}
use Rattle.chain_edit.specs.Walking.{ReadsAtMost}
use Rattle.group_store.specs.FirstGroup.{IsNodeFault}
use Rattle.group_store.specs.GroupChain.{IsDense, next_group, type_of}
use Rattle.group_store.specs.Loading.{group_mark}
use Rattle.row_store.specs.Loading.IsRowDamage.{HighMark as HighNodes, UnknownKind}
use Rattle.node_store.specs.Loading.{IsNodeDamage}
use Rattle.group_store.specs.Opening.{IsPlaced}
use Rattle.group_store.specs.Twins.{HasTwin, HasTwinIf, IsGroupsDamage, IsGroupsFault, IsLone, IsLoneAt, IsMet, IsNamed}
use Rattle.group_store.specs.Twins.{IsPartFault, IsTwinDamage, IsTwinFault, is_twin}
use Rattle.group_store.specs.Walking.{IsWalkDamage, IsWalkFault, chain_damage}
use Rattle.group_store.specs.Walking.IsWalkDamage.{HighMark, NoList, UnknownGroup}
use Rattle.group_store.proofs.ChainHeads.{same_records}
use Rattle.group_store.proofs.BrokenGroups.{dense_below, node_breaks, walk_breaks}
use Rattle.group_store.proofs.GroupWalks.{in_push, mark_then, reads_more}

-- ---- a test of a record

pub twin_is : (rec : Rec) (at group label : ℕ) → is_twin rec at group label ≡ true → (field 4 rec format.group_type ≡ label) × (at ≢ group)
twin_is rec at group label h = (grind (arith, nat_tests), grind (arith, nat_tests))

pub no_twin : (rec : Rec) (at group label : ℕ) → is_twin rec at group label ≡ false → field 4 rec format.group_type ≡ label → at ≡ group
no_twin rec at group label h e = grind (arith, nat_tests)

-- ---- a walk

pub lone_none : (records : Records) (group label : ℕ) → (k : ℕ) → In k [] → type_of records k ≡ label → k ≡ group
lone_none records group label k i e = elim i [ ]

pub lone_more : (records : Records) (group label at : ℕ) (ms : List ℕ) → (type_of records at ≡ label → at ≡ group)
    → ((k : ℕ) → In k ms → type_of records k ≡ label → k ≡ group)
    → (k : ℕ) → In k (ms ++ at ∷ []) → type_of records k ≡ label → k ≡ group
lone_more records group label at ms here lone k i e = ⊎_elim (λ j. lone k j e) (λ q. q ∙ here (ap (type_of records) (sym q) ∙ e)) (in_push ms at k i)

-- ---- a search over the whole chain

pub met_all : (records : Records) (node group label : ℕ) (twin : Bool) → IsDense records node → type_of records group ≡ label
    → IsMet records node (first_link records node) group label twin → HasTwinIf records node group twin
met_all records node group label true dense typed met = record { twin = met.twin; other = met.other; typed = met.typed ∙ sym typed; on = met.on refl dense }
met_all records node group label false dense typed met = λ g on same.
    met.lone g (on_walk records node met.members met.list.walk g on) (same ∙ typed)

pub none_lone : (records : Records) (node group : ℕ) → ¬ IsDense records node → IsLone records node group
none_lone records node group thin = λ g on same. absurd (thin (on_dense records node g on))

-- ---- damage

pub groups_break : (s : State) (node : ℕ) (damage : Damage) → IsGroupsDamage s node damage → Breaks s.records s.shape damage
groups_break s node damage told = ⊎_elim (λ k. node_breaks s node damage k) (λ k. walk_breaks s node k.0 damage k.1) told

-- two groups of one type on the chain of a node break its fourth rule
pub twins_break : (s : State) (node group : ℕ) → IsOnChain s.records node group → HasTwin s.records node group → Breaks s.records s.shape (chain_damage node)
twins_break s node group on twin =
    let dense = on_dense s.records node group on in
    OwnerGroups node (dense_below s node dense) (λ keeps.
    let chain = keeps.groups dense in
    let walk = walk_of_chain (next_group s.records) _ format.nil (first_link s.records node) chain.0 chain.1.chain in
    twin.other (chain.1.once twin.twin group (on_walk s.records node chain.0 walk twin.twin twin.on) (on_walk s.records node chain.0 walk group on) twin.typed))

-- ---- told by the space as it was

node_read : (s z : State) (node : ℕ) (damage : Damage) → SameButReads s z → IsNodeDamage z node damage → IsNodeDamage s node damage
node_read s z node damage same told = by damage (subst (λ (q : State). IsNodeDamage q node damage) same told)
  where
    by : (d : Damage) → IsNodeDamage (record s { reads = z.reads }) node d → IsNodeDamage s node d
    by d (HighNodes above) = HighNodes above
    by d (UnknownKind low none) = UnknownKind low none

walk_read : (s z : State) (node first : ℕ) (damage : Damage) → SameButReads s z → IsWalkDamage z node first damage → IsWalkDamage s node first damage
walk_read s z node first damage same told = by damage (subst (λ (q : State). IsWalkDamage q node first damage) same told)
  where
    by : (d : Damage) → IsWalkDamage (record s { reads = z.reads }) node first d → IsWalkDamage s node first d
    by d (NoList none) = NoList none
    by d (UnknownGroup g none low unknown) = UnknownGroup g none low unknown
    by d (HighMark above) = HighMark above

pub node_then : (s z : State) (node : ℕ) (fault : Fault) → SameButReads s z → IsNodeFault z node fault → IsGroupsFault s node fault
node_then s z node Memory same told = tt
node_then s z node Disk same told = tt
node_then s z node (Damaged damage) same told = inl (node_read s z node damage same told)

pub walk_then : (s z : State) (node first : ℕ) (r : Result Bool Fault) → SameButReads s z → IsDense s.records node → first ≡ first_link s.records node
    → IfErr r (IsWalkFault z node first) → IfErr r (IsGroupsFault s node)
walk_then s z node first (Ok twin) same dense is told = tt
walk_then s z node first (Err Memory) same dense is told = tt
walk_then s z node first (Err Disk) same dense is told = tt
walk_then s z node first (Err (Damaged damage)) same dense is told = inr
    (dense, subst (λ f. IsWalkDamage s node f damage) is (walk_read s z node first damage same told))

pub met_then : (s z : State) (node first group label : ℕ) (r : Result Bool Fault) → SameButReads s z → IsDense s.records node
    → first ≡ first_link s.records node → type_of s.records group ≡ label
    → IfOk r (IsMet z.records node first group label) → IfOk r (HasTwinIf s.records node group)
met_then s z node first group label (Err fault) same dense is typed told = tt
met_then s z node first group label (Ok twin) same dense is typed told =
    met_all s.records node group label twin dense typed (subst (λ f. IsMet s.records node f group label twin) is
    (subst (λ (r : Records). IsMet r node first group label twin) (same_records s z same) told))

-- ---- reads

pub reads_then : (s now end : State) (m n most : ℕ) → m + n ≤ most → ReadsAtMost m s now → ReadsAtMost n now end → ReadsAtMost most s end
reads_then s now end m n most le one more = let a = one.within in reads_more s now end one.count n most (omega arith) one.is more

-- ---- heads

-- a relationship that stands at a head of a group that is the only one of its type stands at no other head of the node
pub lone_head : (records : Records) (head : Head) (node rel : ℕ) (row : RelRow) → rel_at records rel ≡ Some row → IsPlaced records head node row
    → IsLoneAt records head node → IsLoneHead records head node rel row
lone_head records head node rel row live placed lone = record {
  end = end_on (kind_at records format.nodes_file) (group_at records) head node row (chain_head records head node placed.owns) placed.on;
  has = has placed.owns;
  lone = λ h owns stands. only h owns (subst (IsOn (group_at records) h) (same_rel records rel stands.row row stands.live live) stands.on) placed.owns;
}
  where
    has : IsChainHead records head node → HasChains records node
    has (inl o) = inl o.sparse
    has (inr c) = inr c.own.dense

    type_is : (g : ℕ) (group : views.GroupRow) → group_at records g ≡ Some group → type_of records g ≡ group.label
    type_is g group is = ap (λ (r : views.GroupRow). r.label) (some_row (kind_at records format.groups_file g) (group_in (rec_at records format.groups_file g)
        g) group is).1

    only : (h : Head) → IsChainHead records h node → IsOn (group_at records) h row → IsChainHead records head node → h ≡ head
    only h (inl a) on (inl b) = a.is ∙ sym b.is
    only h (inl a) on (inr b) = absurd (let p = a.sparse in let q = b.own.dense in omega (arith, p, q))
    only h (inr a) on (inl b) = absurd (let p = b.sparse in let q = a.own.dense in omega (arith, p, q))
    only h (inr a) on (inr b) =
        let p = on_group (kind_at records format.nodes_file) (group_at records) h node a.own row on in
        let q = on_group (kind_at records format.nodes_file) (group_at records) head node b.own row placed.on in
        let here : head.key.id ≡ b.own.row.id = ap (λ (k : Key). k.id) b.own.key in
        let typed : type_of records a.own.row.id ≡ type_of records head.key.id
        = type_is a.own.row.id a.own.row a.own.group ∙ sym p.0 ∙ q.0 ∙ sym (type_is b.own.row.id b.own.row b.own.group) ∙ ap (type_of records) (sym here) in
        let group : a.own.row.id ≡ head.key.id = lone (ap (λ (k : Key). k.file) b.own.key) a.own.row.id a.on typed in
        let key : h.key ≡ head.key = a.own.key ∙ ap (key_in format.groups_file) (group ∙ here) ∙ sym b.own.key in
        let place : h.field ≡ head.field = one_place h.field head.field row.from row.to node p.1 q.1 in
        ap (λ z. record { key = z; field = h.field }) key ∙ ap (λ z. record { key = head.key; field = z }) place

-- ---- which record breaks a rule

-- the group of a head where a chain of the node begins is on the chain of the node
pub head_on : (records : Records) (head : Head) (node : ℕ) → IsChainHead records head node → head.key.file ≡ format.groups_file
    → IsOnChain records node head.key.id
head_on records head node (inl o) file = absurd (let f = ap (λ (h : Head). h.key.file) o.is in omega arith)
head_on records head node (inr c) file = subst (IsOnChain records node) (sym (ap (λ (k : Key). k.id) c.own.key)) c.on

pub twin_breaks : (s : State) (head : Head) (node : ℕ) (damage : Damage) → IsChainHead s.records head node → IsTwinDamage s head node damage
    → Breaks s.records s.shape damage
twin_breaks s head node damage owns told = ⊎_elim (λ k. groups_break s node damage k)
    (λ k. subst (Breaks s.records s.shape) (sym k.0) (twins_break s node head.key.id (head_on s.records head node owns told.group) k.1)) told.broken

-- ---- a relationship that isn't taken out of a chain, told by the space as it was

twin_read : (s z : State) (head : Head) (node : ℕ) (damage : Damage) → SameButReads s z → IsTwinDamage z head node damage → IsTwinDamage s head node damage
twin_read s z head node damage same told = record {
  group = told.group;
  broken = ⊎_elim
      (λ k. inl (⊎_elim (λ b. inl (node_read s z node damage same b))
      (λ b. inr (
        subst (λ (r : Records). IsDense r node) (same_records s z same) b.0,
        subst (λ (r : Records). IsWalkDamage s node (first_link r node) damage) (same_records s z same)
            (walk_read s z node (first_link z.records node) damage same b.1),
      )) k))
      (λ k. inr (k.0, subst (λ (r : Records). HasTwin r node head.key.id) (same_records s z same) k.1)) told.broken;
}

pub part_twin : (s z : State) (head : Head) (node rel : ℕ) (fault : Fault) → SameButReads s z → IsTwinFault z head node fault
    → IsPartFault s head node rel fault
part_twin s z head node rel Memory same told = tt
part_twin s z head node rel Disk same told = tt
part_twin s z head node rel (Damaged damage) same told = inr (twin_read s z head node damage same told)

pub part_named : (s z : State) (head : Head) (node rel : ℕ) (damage named : Damage) → SameButReads s z → IsUnlinkFault s head node rel (Damaged damage)
    → IsNamed z head node damage named → IsPartFault s head node rel (Damaged named)
part_named s z head node rel damage named same told (inl k) =
    inl (subst (λ d. IsUnlinkFault s head node rel (Damaged d)) (sym k.0) told, subst (λ (r : Records). IsLoneAt r head node) (same_records s z same) k.1)
part_named s z head node rel damage named same told (inr k) = inr (twin_read s z head node named same k)

pub twin_then_breaks : (s z : State) (head : Head) (node : ℕ) (fault : Fault) → SameButReads s z → IsChainHead s.records head node
    → IsTwinFault z head node fault → IsBreakFault s fault
twin_then_breaks s z head node Memory same owns told = tt
twin_then_breaks s z head node Disk same owns told = tt
twin_then_breaks s z head node (Damaged damage) same owns told = twin_breaks s head node damage owns (twin_read s z head node damage same told)

pub named_breaks : (s z : State) (head : Head) (node rel : ℕ) (row : RelRow) (damage named : Damage) → SameButReads s z → rel_at s.records rel ≡ Some row
    → IsPlaced s.records head node row
    → (IsLoneHead s.records head node rel row → Breaks s.records s.shape damage) → IsNamed z head node damage named → Breaks s.records s.shape named
named_breaks s z head node rel row damage named same live placed breaks (inl k) =
    subst (Breaks s.records s.shape) (sym k.0) (breaks (lone_head s.records head node rel row live placed (subst (λ (r : Records). IsLoneAt r head node)
    (same_records s z same) k.1)))
named_breaks s z head node rel row damage named same live placed breaks (inr k) =
    twin_breaks s head node named placed.owns (twin_read s z head node named same k)

pub reads_more_groups : (s now end : State) (m n most : ℕ) → ReadsAtMost m s now → m + (n + group_mark s) ≤ most → ReadsAtMost (n + group_mark now) now end
    → ReadsAtMost most s end
reads_more_groups s now end m n most one le more =
    let same : group_mark now ≡ group_mark s = mark_then s now one.count one.is in
    reads_then s now end m (n + group_mark now) most (omega arith) one more
