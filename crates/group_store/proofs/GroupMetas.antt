-- The free list of the groups where a head is found or made, and when their meta record is called damaged.
use Rattle.std.proofs.Common.{◌≡◌, ◌≢◌, ◌⊎◌, ℕ, ◌+◌, ◌<◌, ◌≤◌, ◌^◌, nat_eq, not, Bool, true, false, cond, Result, Ok, Err, IfErr}
use Rattle.std.proofs.Common.{sym, ap, ◌∙◌, subst, inl, inr, ⊎_elim, arith, refl}
use Rattle.id_freelist.specs.ListDamage.{HarmsNoList, IsListDamage}
use Rattle.id_freelist.specs.ListDamage.IsListDamage.{OutOfRange}
use Rattle.id_freelist.specs.Taking.{IsUndamaged, free_taken, mark_taken, taken, taken_id}
use Rattle.id_freelist.proofs.ListLaws.{same_back}
use Rattle.id_freelist.proofs.ListSteps.{beside_harms_none, harms_none_then, put_harms_none, reads_harm_none, used_harms_none}
use Rattle.id_freelist.proofs.TakeBreaches.{list_damage}
use Rattle.rec_bytes.specs.declared.damage.Damage.{Damage}
use Rattle.rec_bytes.specs.declared.fault.Fault.{Fault}
use Rattle.rec_bytes.specs.declared.fault.Fault.TheVariants as faults
use Rattle.rec_bytes.specs.declared.key.Key.{Key}
use Rattle.rec_bytes.specs.declared.record.Rec.{Rec}
use Rattle.rec_bytes.specs.declared.row_fault.RowFault.{RowFault}
use Rattle.rec_bytes.specs.declared.row_fault.RowFault.TheVariants as row
use Rattle.rec_bytes.specs.declared.shape.Shape.{Shape}
use Rattle.rec_bytes.specs.Fault.{of_row}
use Rattle.rec_bytes.specs.Format as format
use Rattle.rec_bytes.specs.Meta as metas
use Rattle.rec_bytes.specs.Record.{field, with_field}
use Rattle.rec_bytes.specs.RecordFiles.{meta_key_of, room_of}
use Rattle.rec_bytes.specs.Space.{SameButReads, State, after_get, after_put, after_set, meta_of, put}
use Rattle.rec_bytes.proofs.Numbers.{field-lt, field-with_field_same}
use Rattle.rec_bytes.specs.declared.meta.Meta.{Meta}
use Rattle.std.proofs.lemmas.Bool.{cases_lt}
use Rattle.rec_bytes.proofs.Spaces.{put_other, put_same}
use Rattle.store_rules.specs.Rules.{Head, first_of}
use Rattle.store_rules.specs.Views.{first_link, high, kind_at, kind_in, rec_at}
use Rattle.store_rules.proofs.ChainSteps.{on_test}
use Rattle.store_rules.proofs.ViewLaws.{kind_by}
use Rattle.node_store.specs.Loading.{IsNodeDamage}
use Rattle.node_store.specs.NodeRecord.{node_key}
use Rattle.row_store.specs.Loading.{IsRowDamage}
use Rattle.row_store.specs.Loading.IsRowDamage.{HighMark as HighRow, UnknownKind}
use Rattle.rel_store.specs.Loading as rels
use Rattle.chain_edit.specs.Links as chains
use Rattle.chain_edit.specs.Links.{prev_set}
use Rattle.chain_edit.specs.Links.IsLinkDamage.{LeadsNowhere as NoRel, HighMark as HighRels}
use Rattle.chain_edit.specs.Pushing.{IsPushFault, first_damage, pushed}
use Rattle.chain_edit.proofs.LinkLaws.{elsewhere-set_prev, field-set_other}
use Rattle.group_store.specs.declared.raising.Counts.{Counts}
use Rattle.group_store.specs.Counting.{one_more, tallied}
use Rattle.group_store.specs.Finding.{IsFindFault}
use Rattle.group_store.specs.FirstGroup.{IsNodeFault}
use Rattle.group_store.specs.GroupRecord.{group_key}
use Rattle.group_store.specs.Links.{IsLinkDamage, backed}
use Rattle.group_store.specs.Links.IsLinkDamage.{LeadsNowhere, HighLink}
use Rattle.group_store.specs.Making.{IsMakeDamage, IsMakeFault, empty_group, led, link_damage, made}
use Rattle.group_store.specs.Making.IsMakeDamage.{BadFree, BadLink, BadNode, NotDense}
use Rattle.group_store.specs.Naming.{NamesMeta}
use Rattle.group_store.specs.Leaving.{LeavesCounted}
use Rattle.group_store.specs.OpenFault.{IsFullOfGroups, OnRefusal, of_fault}
use Rattle.group_store.specs.Opening.{GrowsAtMost}
use Rattle.group_store.specs.Raising.{IsCountFault, IsGroupAt, raised, raised_state}
use Rattle.group_store.specs.declared.group_row.GroupRow.{GroupRow}
use Rattle.group_store.specs.declared.open_fault.OpenFault.{OpenFault}
use Rattle.group_store.specs.declared.open_fault.OpenFault.TheVariants.{Full, Memory, Disk, Damaged}
use Rattle.group_store.specs.SparseChain.{IsSparseDamage, IsSparseFault}
use Rattle.group_store.specs.SparseChain.IsSparseDamage.{BadRelationship, MoreThanSaid, NoChain}
use Rattle.group_store.specs.Spreading.{cleared}
use Rattle.group_store.specs.Walking.{IsWalkDamage}
use Rattle.group_store.specs.Walking.IsWalkDamage.{HighMark, NoList, UnknownGroup}
use Rattle.group_store.proofs.Clearing.{clear_of}
use Rattle.group_store.proofs.DenseStays.{pushed_other}
use Rattle.group_store.proofs.KeptHeads.{raised_kind}
use Rattle.group_store.proofs.Leadings.{pushed_field}
use Rattle.group_store.proofs.Makes.{kind-empty_group}
use Rattle.group_store.proofs.Tallies.{field-tallied, file-tallied}

-- ---- changes that add nothing to what is wrong with the free list

-- of a group only what is behind its first eight bytes is other
list_low : (s t : State) → t.shape ≡ s.shape → t.records (meta_key_of format.groups_file) ≡ s.records (meta_key_of format.groups_file)
    → ((g n at : ℕ) → at + n ≤ 8 → field n (rec_at t.records format.groups_file g) at ≡ field n (rec_at s.records format.groups_file g) at)
    → HarmsNoList s t format.groups_file
list_low s t shape meta low d why = same_back s.records t.records s.shape format.groups_file (record {
  meta = ap metas.meta_of meta;
  live = λ x. ap (λ k. not (nat_eq k 0)) (ap (λ r. kind_in (metas.meta_of r).high (rec_at t.records format.groups_file x) x) meta
      ∙ kind_by (high s.records format.groups_file) (rec_at t.records format.groups_file x) (rec_at s.records format.groups_file x) x
      (low x 1 format.kind (omega arith)));
  links = λ x u. low x 4 format.free_next (omega arith);
}) d (subst (λ (h : Shape). IsListDamage t.records h format.groups_file d) shape why)

-- a relationship comes into a group
pub moved_harms_none : (m t end : State) (node rel : ℕ) (h : Head) → h.key.file ≡ format.groups_file → 20 ≤ h.field → t ≡ prev_set m node rel format.nil
    → end ≡ tallied one_more (pushed t h node rel) h → end.shape ≡ m.shape → HarmsNoList m end format.groups_file
moved_harms_none m t end node rel h group high_field freed put shape =
    list_low m end shape (other (meta_key_of format.groups_file) (omega arith) (omega arith)) low
  where
    low : (k n at : ℕ) → at + n ≤ 8 → field n (rec_at end.records format.groups_file k) at ≡ field n (rec_at m.records format.groups_file k) at
    low k n at inside = ap (λ (q : State). field n (q.records (group_key k)) at) put
        ∙ field-tallied one_more (pushed t h node rel) h (group_key k) n at (omega arith)
        ∙ pushed_field t h node rel k n at (omega arith) (λ _. inl (omega arith))
        ∙ ap (λ r. field n r at) (ap (λ (q : State). q.records (group_key k)) freed ∙ elsewhere-set_prev m.records node rel format.nil (group_key k)
        (λ e. omega arith))

    other : (key : Key) → key.file ≢ format.relationships_file → key.file ≢ format.groups_file → end.records key ≡ m.records key
    other key a b = ap (λ (q : State). q.records key) put ∙ file-tallied one_more (pushed t h node rel) h key b
        ∙ pushed_other t h node rel key a (λ e. b (ap (λ (k : Key). k.file) e ∙ group)) ∙ ap (λ (q : State). q.records key) freed
        ∙ elsewhere-set_prev m.records node rel format.nil key a

-- a node becomes dense
pub cleared_harms_none : (v t : State) (node : ℕ) → t ≡ cleared v node → HarmsNoList v t format.groups_file
cleared_harms_none v t node clear = beside_harms_none v t format.groups_file (ap (λ (q : State). q.shape) clear)
    (other (meta_key_of format.groups_file) (λ e. let f = ap (λ (k : Key). k.file) e in absurd (omega arith)))
    (λ g. other (group_key g) (λ e. let f = ap (λ (k : Key). k.file) e in absurd (omega arith)))
  where
    other : (key : Key) → key ≢ node_key node → t.records key ≡ v.records key
    other key ne = ap (λ (q : State). q.records key) clear ∙ put_other v.records (node_key node) (clear_of (v.records (node_key node))) key ne

-- a group in use gets counts
pub raised_harms_none : (s z t : State) (g : ℕ) (counts : Counts) → SameButReads s z → t ≡ raised_state z g counts
    → kind_at s.records format.groups_file g ≢ format.free_kind → HarmsNoList s t format.groups_file
raised_harms_none s z t g counts same is used = used_harms_none s t format.groups_file g refl
    (ap (λ (q : State). q.shape) is ∙ ap (λ (q : State). q.shape) same)
    (λ key ne. ap (λ (q : State). q.records key) is ∙ put_other z.records (group_key g) (raised (z.records (group_key g)) counts) key ne
    ∙ ap (λ (q : State). q.records key) same)
    used (λ e. let counted = sym (ap (λ (q : State). field 1 (q.records (group_key g)) format.kind) is
    ∙ ap (λ r. field 1 r format.kind) (put_same z.records (group_key g) (raised (z.records (group_key g)) counts))
    ∙ raised_kind (z.records (group_key g)) counts) ∙ e in omega arith)

-- ---- a group that is made

module _ (u : State) (node first id : ℕ) (rec : Rec) where
  abbrev placed : State
  placed = after_put u (group_key id) rec

  abbrev node_now : Rec
  node_now = with_field 4 ((backed placed first id).records (node_key node)) format.node_first_link id

  abbrev first_now : Rec
  first_now = with_field 4 (placed.records (group_key first)) format.group_previous id

  led_meta : (led u node first id rec).records (meta_key_of format.groups_file) ≡ placed.records (meta_key_of format.groups_file)
  unfolding led backed
  led_meta = put_other (backed placed first id).records (node_key node) node_now (meta_key_of format.groups_file)
      (λ e. let f = ap (λ (k : Key). k.file) e in absurd (omega arith))
      ∙ on_test (λ (q : State). q.records (meta_key_of format.groups_file) ≡ placed.records (meta_key_of format.groups_file)) first format.nil placed
      (after_set placed (group_key first) 4 format.group_previous id) (λ _. refl)
      (λ _. put_other placed.records (group_key first) first_now (meta_key_of format.groups_file)
      (λ e. let f = ap (λ (k : Key). k.file) e in absurd (omega arith)))

  led_low : (g n at : ℕ) → at + n ≤ 8 → field n (rec_at (led u node first id rec).records format.groups_file g) at
      ≡ field n (rec_at placed.records format.groups_file g) at
  unfolding led backed
  led_low g n at inside = ap (λ r. field n r at) (put_other (backed placed first id).records (node_key node) node_now (group_key g)
      (λ e. let f = ap (λ (k : Key). k.file) e in absurd (omega arith)))
      ∙ on_test (λ (q : State). field n (q.records (group_key g)) at ≡ field n (placed.records (group_key g)) at) first format.nil placed
      (after_set placed (group_key first) 4 format.group_previous id) (λ _. refl)
      (λ _. field-set_other placed.records (record { key = group_key first; field = format.group_previous }) id (group_key g) n at (omega arith)
      (λ _. inl (omega arith)))

  led_shape : (led u node first id rec).shape ≡ placed.shape
  unfolding led backed
  led_shape = on_test (λ (q : State). q.shape ≡ placed.shape) first format.nil placed (after_set placed (group_key first) 4 format.group_previous id)
      (λ _. refl) (λ _. refl)

  pub led_harms_none : HarmsNoList placed (led u node first id rec) format.groups_file
  led_harms_none = list_low placed (led u node first id rec) led_shape led_meta led_low

pub made_harms_none : (s now u end : State) (node label first id : ℕ) (rec : Rec) → now ≡ after_get s → u ≡ taken now format.groups_file
    → id ≡ taken_id (meta_of now format.groups_file) → IsUndamaged now format.groups_file
    → kind_at now.records format.groups_file id ≡ format.free_kind → id < format.most_ids → id < room_of now.shape format.groups_file
    → first ≡ first_link s.records node → rec ≡ empty_group node label first
    → end ≡ led u node first id rec → node < 2 ^ 32 → label < 2 ^ 32 → HarmsNoList s end format.groups_file
made_harms_none s now u end node label first id rec read took id_is undamaged fresh few small first_is rec_is is small_node small_label =
    let p = after_put u (group_key id) rec in
    let low : first < 2 ^ 32 = subst (λ n. n < 2 ^ 32) (sym first_is) (field-lt 4 (rec_at s.records format.nodes_file node) format.node_first_link) in
    let kind = ap (λ r. field 1 r format.kind) rec_is ∙ kind-empty_group node label first small_node small_label low in
    let took_none : HarmsNoList now p format.groups_file
    = put_harms_none now u p format.groups_file id rec refl took id_is undamaged fresh few small refl (λ e. let k = sym kind ∙ e in omega arith) in
    let read_none : HarmsNoList s now format.groups_file = reads_harm_none s now format.groups_file (subst (SameButReads s) (sym read) refl) in
    subst (λ (q : State). HarmsNoList s q format.groups_file) (sym is)
    (harms_none_then s p (led u node first id rec) format.groups_file (harms_none_then s now p format.groups_file read_none took_none)
    (led_harms_none u node first id rec))

-- ---- how many groups are counted

pub grows_read : (s t : State) → SameButReads s t → GrowsAtMost s t 0
grows_read s t same = let live = ap (λ (q : State). (meta_of q format.groups_file).live) same in omega (arith, live)

pub grows_then : (j k : ℕ) (s m t : State) → GrowsAtMost s m j → GrowsAtMost m t k → GrowsAtMost s t (j + k)
grows_then j k s m t first then = omega (arith, first, then)

grows_same : (s t : State) → t.records (meta_key_of format.groups_file) ≡ s.records (meta_key_of format.groups_file) → GrowsAtMost s t 0
grows_same s t same = let live = ap (λ (r : Rec). (metas.meta_of r).live) same in omega (arith, live)

-- a number is at most what was written
live_with : (r : Rec) (m : Meta) → field 4 (metas.with_meta r m) format.meta_live ≤ m.live
live_with r m = ⊎_elim
    (λ (lt : m.live < 2 ^ 32). let is = field-with_field_same 4 (with_field 4 (with_field 4 r format.meta_high m.high) format.meta_free m.free) format.meta_live
    m.live (omega arith) lt in omega (arith, is))
    (λ (ge : 2 ^ 32 ≤ m.live). let lt = field-lt 4 (metas.with_meta r m) format.meta_live in omega (arith, ge, lt)) (cases_lt m.live (2 ^ 32))

taken_live : (s : State) (file : ℕ) → (meta_of (taken s file) file).live ≤ (meta_of s file).live + 1
unfolding mark_taken free_taken
taken_live s file = by (nat_eq (meta_of s file).free format.nil)
  where
    live_of : (to : Meta) → field 4 (put s.records (meta_key_of file) (metas.with_meta (s.records (meta_key_of file)) to) (meta_key_of file)) format.meta_live
        ≤ to.live
    live_of to = subst (λ r. field 4 r format.meta_live ≤ to.live) (sym (put_same s.records (meta_key_of file) (metas.with_meta (s.records (meta_key_of file))
        to))) (live_with (s.records (meta_key_of file)) to)

    by : (b : Bool) → (meta_of (cond b (mark_taken s file) (free_taken s file)) file).live ≤ (meta_of s file).live + 1
    by true = live_of _
    by false = live_of _

pub grows_made : (s : State) (node label : ℕ) → GrowsAtMost s (made s node label) 1
unfolding made
grows_made s node label =
    let first = first_link s.records node in
    let id = taken_id (meta_of s format.groups_file) in
    let u = taken (after_get s) format.groups_file in
    let rec = empty_group node label first in
    let meta = ap (λ (r : Rec). (metas.meta_of r).live) (led_meta u node first id rec ∙ put_other u.records (group_key id) rec (meta_key_of format.groups_file)
    (λ e. let f = ap (λ (k : Key). k.file) e in absurd (omega arith))) in
    let one = taken_live (after_get s) format.groups_file in
    omega (arith, meta, one)

-- a relationship comes into a group
pub grows_moved : (m t end : State) (node rel : ℕ) (h : Head) → h.key.file ≡ format.groups_file → t ≡ prev_set m node rel format.nil
    → end ≡ tallied one_more (pushed t h node rel) h → GrowsAtMost m end 0
grows_moved m t end node rel h group freed put =
    let key : Key = meta_key_of format.groups_file in
    grows_same m end (ap (λ (q : State). q.records key) put
    ∙ file-tallied one_more (pushed t h node rel) h key (λ e. omega arith)
    ∙ pushed_other t h node rel key (λ e. omega arith) (λ e. let f = ap (λ (k : Key). k.file) e in omega (arith, f, group))
    ∙ ap (λ (q : State). q.records key) freed ∙ elsewhere-set_prev m.records node rel format.nil key (λ e. omega arith))

-- a node becomes dense
pub grows_cleared : (v t : State) (node : ℕ) → t ≡ cleared v node → GrowsAtMost v t 0
grows_cleared v t node clear = grows_same v t (ap (λ (q : State). q.records (meta_key_of format.groups_file)) clear
    ∙ put_other v.records (node_key node) (clear_of (v.records (node_key node))) (meta_key_of format.groups_file)
    (λ e. let f = ap (λ (k : Key). k.file) e in absurd (omega arith)))

-- a group that is counted, or has its numbers
pub grows_counted : (m t : State) (node : ℕ) (row : GroupRow) → (row.counted ≡ true → SameButReads m t)
    → (IsGroupAt m node row → LeavesCounted m.records t.records) → (row.counted ≡ true) ⊎ IsGroupAt m node row → GrowsAtMost m t 0
grows_counted m t node row kept counts (inl is) = grows_read m t (kept is)
grows_counted m t node row kept counts (inr at) = grows_same m t ((counts at).others (meta_key_of format.groups_file) (λ e. omega arith))

-- ---- the meta record that is named

pub metas_other : (k : ℕ) (s t : State) (damage : Damage) → damage.file ≢ format.meta_file → NamesMeta s t k (Damaged damage)
metas_other k s t damage other of = absurd (other of.0)

pub metas_node : (k : ℕ) (s t : State) (damage : Damage) (n rule : ℕ) → damage ≡ record { file = format.nodes_file; id = n; rule = rule }
    → NamesMeta s t k (Damaged damage)
metas_node k s t damage n rule is = metas_other k s t damage (λ e. let f = ap (λ (d : Damage). d.file) is in omega arith)

node_metas : (k : ℕ) (s t z : State) (n : ℕ) (damage : Damage) → IsNodeDamage z n damage → NamesMeta s t k (Damaged damage)
node_metas k s t z n damage (HighRow above) of = absurd (let i : format.nodes_file ≡ format.groups_file = of.1 in omega arith)
node_metas k s t z n damage (UnknownKind low unknown) of = absurd (let f : format.nodes_file ≡ format.meta_file = of.0 in omega arith)

pub node_fault_metas : (k : ℕ) (s t z : State) (n : ℕ) (fault : Fault) → IsNodeFault z n fault → NamesMeta s t k (of_fault fault)
node_fault_metas k s t z n faults.Memory told = tt
node_fault_metas k s t z n faults.Disk told = tt
node_fault_metas k s t z n (faults.Damaged damage) told = node_metas k s t z n damage told

-- the mark of the groups is above the room
high_listed : (s : State) → room_of s.shape format.groups_file < high s.records format.groups_file
    → IsListDamage s.records s.shape format.groups_file (record { file = format.meta_file; id = format.groups_file; rule = 1 })
high_listed s above = OutOfRange (λ r. let low = r.mark in omega arith)

walk_metas : (k : ℕ) (s t : State) (n first : ℕ) (damage : Damage) → IsWalkDamage s n first damage → NamesMeta s t k (Damaged damage)
walk_metas k s t n first damage (NoList none) of = absurd (let f : format.nodes_file ≡ format.meta_file = of.0 in omega arith)
walk_metas k s t n first damage (UnknownGroup g none low unknown) of = absurd (let f : format.groups_file ≡ format.meta_file = of.0 in omega arith)
walk_metas k s t n first damage (HighMark above) of = high_listed s above

pub find_metas : (k : ℕ) (s t : State) (n : ℕ) (fault : Fault) → IsFindFault s n fault → NamesMeta s t k (of_fault fault)
find_metas k s t n faults.Memory told = tt
find_metas k s t n faults.Disk told = tt
find_metas k s t n (faults.Damaged damage) told = ⊎_elim (λ bad. node_metas k s t s n damage bad) (λ bad. walk_metas k s t n _ damage bad) told

link_metas : (k : ℕ) (s t : State) (n link : ℕ) (damage : Damage) → IsLinkDamage s link (link_damage n) damage → NamesMeta s t k (Damaged damage)
link_metas k s t n link damage (LeadsNowhere some above) of = absurd (let f : format.nodes_file ≡ format.meta_file = of.0 in omega arith)
link_metas k s t n link damage (HighLink above) of = high_listed s above

make_damage_metas : (s t : State) (n : ℕ) (damage : Damage) → IsMakeDamage s n damage → NamesMeta s t 1 (Damaged damage)
make_damage_metas s t n damage (BadNode _ bad) = node_metas 1 s t s n damage bad
make_damage_metas s t n damage (NotDense thin) = λ of. absurd (let f : format.nodes_file ≡ format.meta_file = of.0 in omega arith)
make_damage_metas s t n damage (BadLink _ bad) = link_metas 1 s t n _ damage bad
make_damage_metas s t n damage (BadFree _ bad) = λ of. list_damage s format.groups_file damage bad

make_metas : {T : Type 0} (s t : State) (n : ℕ) (r : Result T OpenFault) → IfErr r (IsMakeFault s n) → OnRefusal r (SameButReads s t)
    → IfErr r (NamesMeta s t 1)
make_metas s t n (Ok x) told same = tt
make_metas s t n (Err (Full live)) told same = record {
  full = subst (λ (q : State). IsFullOfGroups q live) (sym same) told;
  lacks = omega (arith, told);
}
make_metas s t n (Err Memory) told same = tt
make_metas s t n (Err Disk) told same = tt
make_metas s t n (Err (Damaged damage)) told same = make_damage_metas s t n damage told

-- as it was wrong before
pub metas_then : (j k : ℕ) (s z t : State) (fault : OpenFault) → z.shape ≡ s.shape → GrowsAtMost s z j → HarmsNoList s z format.groups_file
    → NamesMeta z t k fault → NamesMeta s t (j + k) fault
metas_then j k s z t (Full live) shape grows harmless told = record {
  full = told.full;
  lacks = let lacks = told.lacks in let room = ap (λ (h : Shape). room_of h format.groups_file) shape in omega (arith, lacks, grows, room);
}
metas_then j k s z t Memory shape grows harmless told = tt
metas_then j k s z t Disk shape grows harmless told = tt
metas_then j k s z t (Damaged damage) shape grows harmless told = λ of. harmless damage (told of)

-- there was room for fewer than more
pub metas_more : (j k : ℕ) (s t : State) (fault : OpenFault) → j ≤ k → NamesMeta s t j fault → NamesMeta s t k fault
metas_more j k s t (Full live) le told = record { full = told.full; lacks = let lacks = told.lacks in omega (arith, lacks, le) }
metas_more j k s t Memory le told = tt
metas_more j k s t Disk le told = tt
metas_more j k s t (Damaged damage) le told = told

pub metas_read : (k : ℕ) (s z t : State) (fault : OpenFault) → SameButReads s z → NamesMeta z t k fault → NamesMeta s t k fault
metas_read k s z t fault same told =
    metas_more (0 + k) k s t fault (omega arith)
    (metas_then 0 k s z t fault (ap (λ (q : State). q.shape) same) (grows_read s z same) (reads_harm_none s z format.groups_file same) told)

pub own_metas : {T : Type 0} (s now t : State) (n : ℕ) (r : Result T OpenFault) → SameButReads s now → IfErr r (IsMakeFault now n)
    → OnRefusal r (SameButReads now t) → IfErr r (NamesMeta s t 1)
own_metas s now t n (Ok x) same told kept = tt
own_metas s now t n (Err fault) same told kept = metas_read 1 s now t fault same (make_metas {T = Unit {0}} now t n (Err fault) told kept)

pub count_metas : (k : ℕ) (s t : State) (n g : ℕ) (fault : Fault) → IsCountFault n g fault → NamesMeta s t k (of_fault fault)
count_metas k s t n g faults.Memory told = tt
count_metas k s t n g faults.Disk told = tt
count_metas k s t n g (faults.Damaged damage) (inl group) = metas_other k s t damage (λ e. let f = ap (λ (d : Damage). d.file) group in omega arith)
count_metas k s t n g (faults.Damaged damage) (inr (inl many)) = metas_node k s t damage n 7 many
count_metas k s t n g (faults.Damaged damage) (inr (inr mark)) = λ of. absurd (let i = ap (λ (d : Damage). d.id) mark in let j = of.1 in omega arith)

row_metas : (k : ℕ) (s t z : State) (x : ℕ) (damage : Damage) → IsRowDamage format.relationships_file z x damage → NamesMeta s t k (Damaged damage)
row_metas k s t z x damage (HighRow above) of = absurd (let i : format.relationships_file ≡ format.groups_file = of.1 in omega arith)
row_metas k s t z x damage (UnknownKind low unknown) of = absurd (let f : format.relationships_file ≡ format.meta_file = of.0 in omega arith)

pub rel_metas : (k : ℕ) (s t z : State) (x : ℕ) (fault : RowFault) → rels.IsRelFault z x fault → NamesMeta s t k (of_fault (of_row fault))
rel_metas k s t z x row.Disk told = tt
rel_metas k s t z x (row.Damaged damage) told = row_metas k s t z x damage told

pub push_metas : (k : ℕ) (s t z : State) (head : Head) → head.key.file ≡ format.groups_file → (fault : Fault) → IsPushFault z head fault
    → NamesMeta s t k (of_fault fault)
push_metas k s t z head group faults.Memory told = tt
push_metas k s t z head group faults.Disk told = tt
push_metas k s t z head group (faults.Damaged damage) told = by damage told
  where
    by : (d : Damage) → chains.IsLinkDamage z (first_of z.records head) (first_damage head.key) d → NamesMeta s t k (Damaged d)
    by d (NoRel some above) of = absurd (let f : head.key.file ≡ format.meta_file = of.0 in omega arith)
    by d (HighRels above) of = absurd (let i : format.relationships_file ≡ format.groups_file = of.1 in omega arith)

sparse_damage_metas : (k : ℕ) (s t z : State) (n count : ℕ) (damage : Damage) → IsSparseDamage z n count damage → NamesMeta s t k (Damaged damage)
sparse_damage_metas k s t z n count damage (NoChain none) = metas_node k s t damage n 3 refl
sparse_damage_metas k s t z n count damage (MoreThanSaid more) = metas_node k s t damage n 7 refl
sparse_damage_metas k s t z n count damage (BadRelationship x _ bad) = row_metas k s t z x damage bad

pub sparse_metas : (k : ℕ) (s t z : State) (n count : ℕ) (fault : Fault) → IsSparseFault z n count fault → NamesMeta s t k (of_fault fault)
sparse_metas k s t z n count faults.Memory told = tt
sparse_metas k s t z n count faults.Disk told = tt
sparse_metas k s t z n count (faults.Damaged damage) told = sparse_damage_metas k s t z n count damage told
