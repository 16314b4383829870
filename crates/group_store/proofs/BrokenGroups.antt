-- Damage that breaks a rule.
use Rattle.std.proofs.Common.{◌≡◌, ◌≢◌, ℕ, ◌<◌, ◌≤◌, nat_eq, Bool, true, false, cond, None, Some, Result, Ok, Err}
use Rattle.std.proofs.Common.{IfErr, List, [], ◌∷◌, sym, ap, ◌∙◌, subst, inl, inr, ⊎_elim, arith, refl}
use Rattle.rec_bytes.specs.declared.damage.Damage.{Damage}
use Rattle.rec_bytes.specs.declared.fault.Fault.{Fault}
use Rattle.rec_bytes.specs.declared.fault.Fault.TheVariants.{Memory, Disk, Damaged}
use Rattle.rec_bytes.specs.declared.key.Key.{Key}
use Rattle.rec_bytes.specs.declared.record.Rec.{Rec}
use Rattle.rec_bytes.specs.Format as format
use Rattle.rec_bytes.specs.Meta.{IsMetaInRange}
use Rattle.rec_bytes.specs.Record.{field}
use Rattle.rec_bytes.specs.RecordFiles.{meta_key_of}
use Rattle.rec_bytes.specs.Space.{SameButReads, State}
use Rattle.id_freelist.proofs.TakeBreaches.{breaks_of}
use Rattle.store_rules.specs.Breaking as breaking
use Rattle.store_rules.specs.Breaking.{Breaks, IsHeadOf, IsOwnedBy}
use Rattle.store_rules.specs.Breaking.Breaks.{GroupOwner, OwnerGroups, RecordRange, RelEnds, WrongMeta}
use Rattle.store_rules.specs.Ranges.{Fits, Layout, Pointer, all_point, free_layout, group_layout, layout_by, may, must, node_layout, points}
use Rattle.store_rules.specs.Rules.{Head, IsEnd, StandsAt}
use Rattle.store_rules.specs.Views as views
use Rattle.store_rules.specs.Views.{Records, RelRow, first_link, group_at, group_in, high, kind_at, rec_at, rel_at, rel_in}
use Rattle.store_rules.proofs.ChainLaws.{walk_of_chain}
use Rattle.store_rules.proofs.ChainRules.{on_walk, same_rel}
use Rattle.store_rules.proofs.GroupPlaces.{on_group}
use Rattle.store_rules.proofs.LinkFits.{IsLow}
use Rattle.store_rules.proofs.NumberLaws.{and_parts, eq_false}
use Rattle.store_rules.proofs.ViewLaws.{kind_below, kind_low, some_row}
use Rattle.chain_edit.specs.Breaks.{IsBreakFault}
use Rattle.chain_edit.proofs.InRange.{low_points}
use Rattle.node_store.specs.Loading.{IsNodeDamage}
use Rattle.row_store.specs.Loading.IsRowDamage.{HighMark as HighNodes, UnknownKind}
use Rattle.group_store.specs.Dropping.{IsDropDamage, IsDropFault, IsLinkChain}
use Rattle.group_store.specs.Dropping.IsDropDamage.{Astray, BadMember, BadNext, BadPrevious}
use Rattle.group_store.specs.Finding.{IsFindFault}
use Rattle.group_store.specs.FirstGroup.{IsNodeFault}
use Rattle.group_store.specs.GroupChain.{IsDense, IsOwnedList, next_group, previous_group}
use Rattle.group_store.specs.GroupRecord.{range_damage}
use Rattle.group_store.specs.Links.{IsLinkDamage}
use Rattle.group_store.specs.Links.IsLinkDamage.{LeadsNowhere, HighLink}
use Rattle.group_store.specs.Loading.{group_mark, group_room, mark_damage}
use Rattle.group_store.specs.Making.{IsMakeDamage, IsMakeFault, link_damage}
use Rattle.group_store.specs.Making.IsMakeDamage.{BadFree, BadLink, BadNode as BadOwner, NotDense}
use Rattle.group_store.specs.OpenFault.{of_fault}
use Rattle.group_store.specs.Opening.{IsHeadFault, IsOpenFault, IsSearchDamage, LacksGroupOn, end_damage}
use Rattle.group_store.specs.Opening.IsSearchDamage.{BadGroups, BadNode, Uncounted}
use Rattle.group_store.specs.Raising.{IsCountFault}
use Rattle.group_store.specs.Walking.{IsMemberDamage, IsWalkDamage}
use Rattle.group_store.specs.Walking.IsMemberDamage.{HighMember, NoMember, UnknownMember}
use Rattle.group_store.specs.Walking.IsWalkDamage.{HighMark, NoList, UnknownGroup}
use Rattle.group_store.specs.declared.open_fault.OpenFault.{OpenFault}
use Rattle.group_store.specs.declared.open_fault.OpenFault.TheVariants as opens

-- ---- the first rule

used_is : (pointed layout : Layout) → Some pointed ≡ Some layout → pointed ≡ layout
used_is pointed layout h = cc

not_low : (mark link : ℕ) → link ≢ format.nil → mark ≤ link → IsLow mark link → ⊥
not_low mark link some above low = ⊎_elim (λ (e : link ≡ format.nil). some e) (λ (lt : link < mark). omega arith) low

-- a meta record that counts more than there is room for
mark_breaks : (s : State) → group_room s < group_mark s → Breaks s.records s.shape mark_damage
mark_breaks s above = WrongMeta format.groups_file (omega arith)
    (λ (kept : IsMetaInRange s.shape format.groups_file (s.records (meta_key_of format.groups_file))). let few = kept.high in omega arith)

-- a node that can't be read
pub node_breaks : (s : State) (n : ℕ) (damage : Damage) → IsNodeDamage s n damage → Breaks s.records s.shape damage
node_breaks s n damage (HighNodes above) = WrongMeta format.nodes_file (omega arith)
    (λ (kept : IsMetaInRange s.shape format.nodes_file (s.records (meta_key_of format.nodes_file))). let few = kept.high in omega arith)
node_breaks s n damage (UnknownKind low unknown) = RecordRange format.nodes_file n refl low (λ fits. let layout = fits.is in cc)

pub node_fault_breaks : (s : State) (n : ℕ) (fault : Fault) → IsNodeFault s n fault → IsBreakFault s fault
node_fault_breaks s n Memory told = tt
node_fault_breaks s n Disk told = tt
node_fault_breaks s n (Damaged damage) told = node_breaks s n damage told

-- the layout of a group in use
layout_of_group : (r : Rec) (kind : ℕ) (layout : Layout) → kind ≢ 0 → layout_by format.groups_file r kind ≡ Some layout → (size : ℕ)
    × (group_layout size ≡ Some layout)
layout_of_group r kind layout live is = by (nat_eq kind 0) (nat_eq kind 1) (nat_eq kind 2) (eq_false kind 0 live) is
  where
    by : (free grouped counted : Bool) → free ≡ false → cond free (free_layout format.groups_file)
        (cond grouped (group_layout 28) (cond counted (group_layout 40) None)) ≡ Some layout → (size : ℕ) × (group_layout size ≡ Some layout)
    by true grouped counted e h = absurd cc
    by false true counted e h = (28, h)
    by false false true e h = (40, h)
    by false false false e h = absurd cc

abbrev group_pointers : List Pointer
group_pointers = must format.group_owner format.nodes_file ∷ may format.group_previous format.groups_file ∷ may format.group_next format.groups_file
    ∷ may format.group_first_out format.relationships_file ∷ may format.group_first_in format.relationships_file ∷ may format.group_first_loop
    format.relationships_file ∷ []

-- the neighbours of a group that fits
neighbours_low : (marks : ℕ → ℕ) (r : Rec) → field 1 r format.kind ≢ 0 → Fits marks format.groups_file r
    → IsLow (marks format.groups_file) (field 4 r format.group_previous) × IsLow (marks format.groups_file) (field 4 r format.group_next)
neighbours_low marks r used fits =
    let is = layout_of_group r (field 1 r format.kind) fits.layout used fits.is in
    let point : all_point marks r group_pointers ≡ true = subst (λ (l : Layout). all_point marks r l.pointers ≡ true) (sym (used_is _ fits.layout is.1))
    fits.point in
    let a = and_parts (points marks r (must format.group_owner format.nodes_file)) _ point in
    let b = and_parts (points marks r (may format.group_previous format.groups_file)) _ a.1 in
    let c = and_parts (points marks r (may format.group_next format.groups_file)) _ b.1 in
    (low_points marks r format.group_previous format.groups_file b.0, low_points marks r format.group_next format.groups_file c.0)

-- the first link of a dense node that fits
dense_low : (marks : ℕ → ℕ) (r : Rec) → field 1 r format.kind ≡ format.dense → Fits marks format.nodes_file r
    → IsLow (marks format.groups_file) (field 4 r format.node_first_link)
dense_low marks r kind fits =
    let is : node_layout format.groups_file ≡ Some fits.layout = ap (layout_by format.nodes_file r) (sym kind) ∙ fits.is in
    let point : all_point marks r (may format.node_first_link format.groups_file ∷ may format.node_first_property format.properties_file ∷ []) ≡ true
    = subst (λ (l : Layout). all_point marks r l.pointers ≡ true) (sym (used_is _ fits.layout is)) fits.point in
    low_points marks r format.node_first_link format.groups_file (and_parts (points marks r (may format.node_first_link format.groups_file)) _ point).0

pub dense_below : (s : State) (n : ℕ) → IsDense s.records n → n < high s.records format.nodes_file
dense_below s n dense = kind_below (high s.records format.nodes_file) (rec_at s.records format.nodes_file n) n (λ e. absurd (let d = dense in omega arith))

-- ---- the groups of a dense node

-- a node with a group chain owns those that its links lead through
owned_groups : (records : Records) (n : ℕ) (members : List ℕ) → breaking.IsGroupChain records n members → IsOwnedList records n (first_link records n) members
owned_groups records n members groups = record {
  walk = walk_of_chain _ _ format.nil (first_link records n) members groups.chain;
  only = λ g i.
      let is = groups.only g i in
      let row = some_row (kind_at records format.groups_file g) (group_in (rec_at records format.groups_file g) g) is.0 is.1 in
      record { used = row.0; owner = ap (λ (r : views.GroupRow). r.owner) row.1 ∙ is.2 };
}

pub walk_breaks : (s : State) (n : ℕ) → IsDense s.records n → (damage : Damage) → IsWalkDamage s n (first_link s.records n) damage
    → Breaks s.records s.shape damage
walk_breaks s n dense damage (NoList none) = OwnerGroups n (dense_below s n dense)
    (λ keeps. let chain = keeps.groups dense in none chain.0 (owned_groups s.records n chain.0 chain.1))
walk_breaks s n dense damage (UnknownGroup g none low unknown) = RecordRange format.groups_file g refl low (λ fits. let layout = fits.is in cc)
walk_breaks s n dense damage (HighMark above) = mark_breaks s above

pub find_breaks : (s : State) (n : ℕ) → IsDense s.records n → (fault : Fault) → IsFindFault s n fault → IsBreakFault s fault
find_breaks s n dense Memory told = tt
find_breaks s n dense Disk told = tt
find_breaks s n dense (Damaged damage) told = ⊎_elim (λ k. node_breaks s n damage k) (λ k. walk_breaks s n dense damage k) told

-- ---- a group that is made

first_breaks : (s : State) (n : ℕ) → IsDense s.records n → (damage : Damage) → IsLinkDamage s (first_link s.records n) (link_damage n) damage
    → Breaks s.records s.shape damage
first_breaks s n dense damage (LeadsNowhere some above) =
    let r = rec_at s.records format.nodes_file n in
    let lt = dense_below s n dense in
    let kind : field 1 r format.kind ≡ format.dense = sym (kind_low (high s.records format.nodes_file) r n lt) ∙ dense in
    RecordRange format.nodes_file n refl lt (λ fits. not_low (group_mark s) (first_link s.records n) some above (dense_low (high s.records) r kind fits))
first_breaks s n dense damage (HighLink above) = mark_breaks s above

pub make_breaks : (s : State) (n : ℕ) → IsDense s.records n → (fault : OpenFault) → IsMakeFault s n fault → IsOpenFault s fault
make_breaks s n dense (opens.Full live) told = told
make_breaks s n dense opens.Memory told = tt
make_breaks s n dense opens.Disk told = tt
make_breaks s n dense (opens.Damaged damage) told = by damage told
  where
    by : (damage : Damage) → IsMakeDamage s n damage → Breaks s.records s.shape damage
    by damage (BadOwner d bad) = node_breaks s n d bad
    by damage (NotDense thin) = absurd (thin dense)
    by damage (BadLink d bad) = first_breaks s n dense d bad
    by damage (BadFree d bad) = breaks_of s format.groups_file refl d bad

pub only_breaks : (s : State) (fault : Fault) → IsBreakFault s fault → IsOpenFault s (of_fault fault)
only_breaks s Memory told = tt
only_breaks s Disk told = tt
only_breaks s (Damaged damage) told = told

-- after reads
pub open_read : (s z : State) → SameButReads s z → (fault : OpenFault) → IsOpenFault z fault → IsOpenFault s fault
open_read s z same (opens.Full live) told = subst (λ (q : State). IsOpenFault q (opens.Full live)) same told
open_read s z same opens.Memory told = tt
open_read s z same opens.Disk told = tt
open_read s z same (opens.Damaged damage) told = subst (λ (q : State). IsOpenFault q (opens.Damaged damage)) same told

-- ---- a group that is dropped

module _ (s : State) (n g : ℕ) (row : views.GroupRow) (is : group_at s.records g ≡ Some row) (owner : row.owner ≡ n) where
  found : (kind_at s.records format.groups_file g ≢ 0) × (group_in (rec_at s.records format.groups_file g) g ≡ row)
  found = some_row (kind_at s.records format.groups_file g) (group_in (rec_at s.records format.groups_file g) g) row is

  owned : IsOwnedBy s.records n g
  owned = record { used = found.0; owner = ap (λ (r : views.GroupRow). r.owner) found.1 ∙ owner }

  below : g < high s.records format.groups_file
  below = kind_below (high s.records format.groups_file) (rec_at s.records format.groups_file g) g found.0

  used : field 1 (rec_at s.records format.groups_file g) format.kind ≢ 0
  used e = found.0 (kind_low (high s.records format.groups_file) (rec_at s.records format.groups_file g) g below ∙ e)

  link_breaks : (link : ℕ) (damage : Damage) → (Fits (high s.records) format.groups_file (rec_at s.records format.groups_file g) → IsLow (group_mark s) link)
      → IsLinkDamage s link (range_damage g) damage → Breaks s.records s.shape damage
  link_breaks link damage low (LeadsNowhere some above) = RecordRange format.groups_file g refl below
      (λ fits. not_low (group_mark s) link some above (low fits))
  link_breaks link damage low (HighLink above) = mark_breaks s above

  member_breaks : (damage : Damage) → IsMemberDamage s n g damage → Breaks s.records s.shape damage
  member_breaks damage (NoMember none) = absurd (none owned)
  member_breaks damage (UnknownMember low unknown) = RecordRange format.groups_file g refl low (λ fits. let layout = fits.is in cc)
  member_breaks damage (HighMember above) = mark_breaks s above

  drop_by : (damage : Damage) → IsDropDamage s n g damage → Breaks s.records s.shape damage
  drop_by damage (BadMember d bad) = member_breaks d bad
  drop_by damage (BadPrevious d bad) = link_breaks (previous_group s.records g) d
      (λ fits. (neighbours_low (high s.records) (rec_at s.records format.groups_file g) used fits).0) bad
  drop_by damage (BadNext d bad) = link_breaks (next_group s.records g) d
      (λ fits. (neighbours_low (high s.records) (rec_at s.records format.groups_file g) used fits).1) bad
  drop_by damage (Astray out) = GroupOwner g (λ keeps. let o = keeps.owner row is in
      out o.members (subst (λ m. IsLinkChain s.records m o.members) owner o.groups.chain) o.member)

  pub drop_breaks : (fault : Fault) → IsDropFault s n g fault → IsBreakFault s fault
  drop_breaks Memory told = tt
  drop_breaks Disk told = tt
  drop_breaks (Damaged damage) told = drop_by damage told

-- the group of a head that a node owns
pub close_breaks : (s : State) (head : Head) (n : ℕ) → IsHeadOf s.records head n → head.key.file ≡ format.groups_file → (fault : Fault)
    → IsDropFault s n head.key.id fault → IsBreakFault s fault
close_breaks s head n (inl o) file fault told = absurd (let f = ap (λ (h : Head). h.key.file) o.is in omega arith)
close_breaks s head n (inr o) file fault told = drop_breaks s n head.key.id o.row (ap (λ (k : Key). group_at s.records k.id) o.key ∙ o.group) o.owner fault told

-- ---- a relationship with no group

-- a relationship at a dense node with no group of its type on its chain breaks the third rule
pub no_group_breaks : (s : State) (n rel label : ℕ) (row : RelRow) → rel_at s.records rel ≡ Some row → IsEnd n row → row.label ≡ label
    → LacksGroupOn s.records n label → Breaks s.records s.shape (end_damage rel)
no_group_breaks s n rel label row live end typed lacks =
    RelEnds rel (kind_below (high s.records format.relationships_file) (rec_at s.records format.relationships_file rel) rel
    (some_row (kind_at s.records format.relationships_file rel) (rel_in (rec_at s.records format.relationships_file rel) rel) row live).0)
    (λ keeps. ⊎_elim (λ (e : row.from ≡ n). none (subst (λ m. breaking.EndKeeps s.records m rel) e (keeps.from row live))) (λ (e : row.to ≡ n). none
    (subst (λ m. breaking.EndKeeps s.records m rel) e (keeps.to row live))) end)
  where
    none : breaking.EndKeeps s.records n rel → ⊥
    none keeps =
        let chain = keeps.chain (inr lacks.dense) in
        by chain.head chain.owns (chain.chain.only rel chain.member)
      where
        by : (head : Head) → breaking.IsChainHead s.records head n → StandsAt (rel_at s.records) (group_at s.records) head rel → ⊥
        by head (inl o) stands = let a = o.sparse in let b = lacks.dense in omega arith
        by head (inr o) stands =
            let row_is = (some_row (kind_at s.records format.groups_file o.own.row.id) (group_in (rec_at s.records format.groups_file o.own.row.id)
            o.own.row.id) o.own.row o.own.group).1 in
            let live_row : stands.row ≡ row = same_rel s.records rel stands.row row stands.live live in
            let here = (on_group (kind_at s.records format.nodes_file) (group_at s.records) head n o.own stands.row stands.on).0 in
            lacks.lacks o.own.row.id (on_walk s.records n lacks.members lacks.list.walk o.own.row.id o.on)
            (ap (λ (r : views.GroupRow). r.label) row_is ∙ sym here ∙ ap (λ (r : RelRow). r.label) live_row ∙ typed)

-- ---- faults that are handed on

-- after reads
pub search_read : (s z : State) (n : ℕ) (damage : Damage) → SameButReads s z → IsSearchDamage z n damage → IsSearchDamage s n damage
search_read s z n damage same told = by damage (subst (λ (q : State). IsSearchDamage q n damage) same told)
  where
    node : (d : Damage) → IsNodeDamage (record s { reads = z.reads }) n d → IsNodeDamage s n d
    node d (HighNodes above) = HighNodes above
    node d (UnknownKind low none) = UnknownKind low none

    walk : (d : Damage) → IsWalkDamage (record s { reads = z.reads }) n (first_link s.records n) d → IsWalkDamage s n (first_link s.records n) d
    walk d (NoList none) = NoList none
    walk d (UnknownGroup g none low unknown) = UnknownGroup g none low unknown
    walk d (HighMark above) = HighMark above

    by : (d : Damage) → IsSearchDamage (record s { reads = z.reads }) n d → IsSearchDamage s n d
    by d (BadNode _ bad) = BadNode d (node d bad)
    by d (BadGroups _ dense bad) = BadGroups d dense (walk d bad)
    by d (Uncounted _ g names) = Uncounted d g names

pub node_only : (s : State) (n rel label : ℕ) (fault : Fault) → IsNodeFault s n fault → IsHeadFault s n rel label fault
node_only s n rel label Memory told = tt
node_only s n rel label Disk told = tt
node_only s n rel label (Damaged damage) told = inl (node_breaks s n damage told, BadNode damage told)

pub find_only : (s z : State) (n rel label : ℕ) → SameButReads s z → IsDense z.records n → (fault : Fault) → IsFindFault z n fault
    → IsHeadFault s n rel label fault
find_only s z n rel label same dense Memory told = tt
find_only s z n rel label same dense Disk told = tt
find_only s z n rel label same dense (Damaged damage) told =
    inl (
      subst (λ (q : State). Breaks q.records q.shape damage) same (find_breaks z n dense (Damaged damage) told),
      search_read s z n damage same
          (⊎_elim (λ k. BadNode damage k) (λ k. BadGroups damage dense k) told),
    )

pub count_only : (s z : State) (n rel label g : ℕ) → SameButReads s z → (fault : Fault) → IsCountFault n g fault → IsBreakFault z fault
    → IsHeadFault s n rel label fault
count_only s z n rel label g same Memory names told = tt
count_only s z n rel label g same Disk names told = tt
count_only s z n rel label g same (Damaged damage) names told = inl (subst (λ (q : State). Breaks q.records q.shape damage) same told, Uncounted damage g names)

pub if_err : {T E : Type 0} (r : Result T E) (P Q : E → Type 0) → ((e : E) → P e → Q e) → IfErr r P → IfErr r Q
if_err (Ok x) P Q f p = tt
if_err (Err e) P Q f p = f e p
