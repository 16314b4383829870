-- The groups of a node that becomes dense: its links lead through them, and each has counts, whatever other records are.
use Rattle.std.specs.Prelude.{OnOk}
use Rattle.std.proofs.Common.{◌≡◌, ◌≢◌, ◌⊎◌, ℕ, ◌+◌, ◌<◌, ◌≤◌, ◌^◌, true, None, Some, List, [], ◌∷◌, Result, Ok, Err, IfOk}
use Rattle.std.proofs.Common.{sym, ap, ◌∙◌, subst, inl, inr, ⊎_elim, arith, refl}
use Rattle.id_freelist.specs.Taking.{IsTakeDamage, IsUndamaged, BadNext, InUse, Overcounted, Undercounted, Unlisted, Unranged, taken, taken_id}
use Rattle.rec_bytes.specs.declared.damage.Damage.{Damage}
use Rattle.rec_bytes.specs.declared.fault.Fault.{Fault}
use Rattle.rec_bytes.specs.declared.fault.Fault.TheVariants as faults
use Rattle.rec_bytes.specs.declared.key.Key.{Key}
use Rattle.rec_bytes.specs.declared.record.Rec.{Rec}
use Rattle.rec_bytes.specs.declared.row_fault.RowFault.{RowFault}
use Rattle.rec_bytes.specs.declared.row_fault.RowFault.TheVariants as row
use Rattle.rec_bytes.specs.Fault.{of_row}
use Rattle.rec_bytes.specs.Format as format
use Rattle.rec_bytes.specs.Meta as metas
use Rattle.rec_bytes.specs.Record.{field}
use Rattle.rec_bytes.specs.RecordFiles.{meta_key_of}
use Rattle.rec_bytes.specs.Space.{SameButReads, State, after_get, meta_of}
use Rattle.rec_bytes.specs.Tables.{field_at}
use Rattle.rec_bytes.proofs.Numbers.{field-lt}
use Rattle.rec_bytes.proofs.Spaces.{put_same}
use Rattle.store_rules.specs.Chains.{In, IsWalk}
use Rattle.store_rules.specs.Ranges.{layout_by}
use Rattle.store_rules.specs.Rules.{Head, first_of}
use Rattle.store_rules.specs.Views.{Records, first_link, high, kind_at, kind_in, rec_at}
use Rattle.store_rules.proofs.ChainLaws.{walk_stays}
use Rattle.store_rules.proofs.ChainSteps.{first_in}
use Rattle.store_rules.proofs.NumberLaws.{eq_true}
use Rattle.store_rules.proofs.ViewLaws.{kind_below, kind_by, kind_low}
use Rattle.node_store.specs.Loading.{IsNodeDamage}
use Rattle.node_store.specs.NodeRecord.{node_key}
use Rattle.row_store.specs.Loading.{IsRowDamage}
use Rattle.row_store.specs.Loading.IsRowDamage.{HighMark as HighRow, UnknownKind}
use Rattle.rel_store.specs.Loading as rels
use Rattle.chain_edit.specs.Links as chains
use Rattle.chain_edit.specs.Links.{prev_set}
use Rattle.chain_edit.specs.Links.IsLinkDamage.{LeadsNowhere as NoRel, HighMark as HighRels}
use Rattle.chain_edit.specs.Pushing.{IsPushFault, first_damage, pushed}
use Rattle.chain_edit.proofs.LinkLaws.{elsewhere-set_prev}
use Rattle.group_store.specs.Counting.{one_more, tallied}
use Rattle.group_store.specs.declared.group_row.GroupRow.{GroupRow}
use Rattle.group_store.specs.declared.making.OwnGroup.{OwnGroup}
use Rattle.group_store.specs.declared.open_fault.OpenFault.{OpenFault}
use Rattle.group_store.specs.declared.open_fault.OpenFault.TheVariants.{Full, Memory, Disk, Damaged}
use Rattle.group_store.specs.Finding.{IsFindFault, IsReached}
use Rattle.group_store.specs.GroupChain.{IsDense, next_group}
use Rattle.group_store.specs.GroupRecord.{group_key}
use Rattle.group_store.specs.Links.{IsLinkDamage}
use Rattle.group_store.specs.Links.IsLinkDamage.{LeadsNowhere, HighLink}
use Rattle.group_store.specs.Loading.{group_mark}
use Rattle.group_store.specs.Making.{IsMakeDamage, IsMakeFault, empty_fields, empty_group, led, link_damage}
use Rattle.group_store.specs.Making.IsMakeDamage.{BadFree, BadLink, BadNode, NotDense}
use Rattle.group_store.specs.Naming.{NamesNoNode}
use Rattle.group_store.specs.OpenFault.{of_fault}
use Rattle.group_store.specs.Spreading.{HasCountedList, cleared}
use Rattle.group_store.specs.Walking.{IsWalkDamage, group_row_at}
use Rattle.group_store.specs.Walking.IsWalkDamage.{HighMark, NoList, UnknownGroup}
use Rattle.group_store.proofs.BrokenGroups.{dense_below}
use Rattle.group_store.proofs.Clearing.{clear_first, clear_of}
use Rattle.group_store.proofs.DenseStays.{pushed_other, taken_other}
use Rattle.group_store.proofs.Leadings.{pushed_field, taken_marks}
use Rattle.group_store.proofs.Makes.{first_here, group_here, group_stays, kind-empty_group, meta_stays, new, number-empty_group}
use Rattle.group_store.proofs.Tallies.{field-tallied, file-tallied}

-- ---- what such a list follows from

list_alike : (s t : Records) (node : ℕ) → high t format.groups_file ≡ high s format.groups_file → first_link t node ≡ first_link s node
    → ((g n at : ℕ) → at + n ≤ 20 → field n (rec_at t format.groups_file g) at ≡ field n (rec_at s format.groups_file g) at)
    → HasCountedList s node → HasCountedList t node
list_alike s t node mark first low h = record {
  members = h.members;
  walk = subst (λ f. IsWalk (next_group t) f h.members) (sym first)
      (walk_stays (next_group s) (next_group t) (first_link s node) h.members (λ x i. low x 4 format.group_next (omega arith)) h.walk);
  counted = λ g i. ap (λ m. kind_in m (rec_at t format.groups_file g) g) mark
      ∙ kind_by (high s format.groups_file) (rec_at t format.groups_file g) (rec_at s format.groups_file g) g (low g 1 format.kind (omega arith))
      ∙ h.counted g i;
  owner = λ g i. low g 4 format.group_owner (omega arith) ∙ h.owner g i;
}

pub list_read : (s t : State) (node : ℕ) → SameButReads s t → HasCountedList s.records node → HasCountedList t.records node
list_read s t node same h = subst (λ (q : State). HasCountedList q.records node) (sym same) h

-- a node that becomes dense has none
pub list_cleared : (v t : State) (node : ℕ) → t ≡ cleared v node → HasCountedList t.records node
list_cleared v t node clear = subst (λ (q : State). HasCountedList q.records node) (sym clear) (record {
  members = [];
  walk = ap (λ r. field 4 r format.node_first_link) (put_same v.records (node_key node) (clear_of (rec_at v.records format.nodes_file node)))
      ∙ clear_first (rec_at v.records format.nodes_file node);
  counted = λ g i. elim i [ ];
  owner = λ g i. elim i [ ];
})

-- a relationship comes into a group
pub list_moved : (m t end : State) (node rel : ℕ) (h : Head) → h.key.file ≡ format.groups_file → 20 ≤ h.field → t ≡ prev_set m node rel format.nil
    → end ≡ tallied one_more (pushed t h node rel) h → HasCountedList m.records node → HasCountedList end.records node
list_moved m t end node rel h group high_field freed put =
    list_alike m.records end.records node (ap (λ r. (metas.meta_of r).high) (other (meta_key_of format.groups_file) (omega arith) (omega arith)))
    (ap (λ r. field 4 r format.node_first_link) (other (node_key node) (omega arith) (omega arith))) low
  where
    group_t : (k : ℕ) → rec_at t.records format.groups_file k ≡ rec_at m.records format.groups_file k
    group_t k = ap (λ (q : State). q.records (group_key k)) freed ∙ elsewhere-set_prev m.records node rel format.nil (group_key k) (λ e. omega arith)

    low : (k n at : ℕ) → at + n ≤ 20 → field n (rec_at end.records format.groups_file k) at ≡ field n (rec_at m.records format.groups_file k) at
    low k n at inside = ap (λ (q : State). field n (q.records (group_key k)) at) put
        ∙ field-tallied one_more (pushed t h node rel) h (group_key k) n at (omega arith)
        ∙ pushed_field t h node rel k n at (omega arith) (λ _. inl (omega arith)) ∙ ap (λ r. field n r at) (group_t k)

    other : (key : Key) → key.file ≢ format.relationships_file → key.file ≢ format.groups_file → end.records key ≡ m.records key
    other key a b = ap (λ (q : State). q.records key) put ∙ file-tallied one_more (pushed t h node rel) h key b
        ∙ pushed_other t h node rel key a (λ e. b (ap (λ (k : Key). k.file) e ∙ group)) ∙ ap (λ (q : State). q.records key) freed
        ∙ elsewhere-set_prev m.records node rel format.nil key a

-- ---- a group that is made

module _ (s u : State) (node label id : ℕ) (others : (key : Key) → key ≢ meta_key_of format.groups_file → u.records key ≡ s.records key)
    (grown : high s.records format.groups_file ≤ high u.records format.groups_file) (low : id < high u.records format.groups_file)
    (fresh : kind_at s.records format.groups_file id ≡ format.free_kind)
    (small : id < 2 ^ 25) (small_node : node < 2 ^ 32) (small_label : label < 2 ^ 32) (h : HasCountedList s.records node) where
  abbrev was_first : ℕ
  was_first = first_link s.records node

  abbrev rec : Rec
  rec = empty_group node label was_first

  abbrev after : State
  after = new u node was_first id rec

  small_first : was_first < 2 ^ 32
  small_first = field-lt 4 (rec_at s.records format.nodes_file node) format.node_first_link

  off : (g : ℕ) → In g h.members → g ≢ id
  off g i e = let none = sym (h.counted g i) ∙ ap (kind_at s.records format.groups_file) e ∙ fresh in omega arith

  apart : id ≢ was_first
  apart e = by h.members h.walk (λ g i. off g i)
    where
      by : (xs : List ℕ) → IsWalk (next_group s.records) was_first xs → ((g : ℕ) → In g xs → g ≢ id) → ⊥
      by [] walk out = omega (arith, walk, e)
      by (x ∷ xs) walk out = out x (inl refl) (sym walk.0 ∙ sym e)

  number : (g n at : ℕ) → at + n ≤ 64 → g ≢ id → (at + n ≤ 12) ⊎ (16 ≤ at)
      → field n (rec_at after.records format.groups_file g) at ≡ field n (rec_at s.records format.groups_file g) at
  number g n at fits ne aside = group_stays u node was_first id rec g n at fits ne (λ _. aside)
      ∙ ap (λ r. field n r at) (others (group_key g) (λ e. let f = ap (λ (k : Key). k.file) e in absurd (omega arith)))

  here : rec_at after.records format.groups_file id ≡ rec
  here = group_here u node was_first id rec apart

  mark : high after.records format.groups_file ≡ high u.records format.groups_file
  mark = ap (λ r. (metas.meta_of r).high) (meta_stays u node was_first id rec)

  value : (at v : ℕ) → field_at (empty_fields node label was_first) 4 at ≡ Some v → field 4 (rec_at after.records format.groups_file id) at ≡ v
  value at v is = ap (λ r. field 4 r at) here ∙ number-empty_group node label was_first at v small_node small_label small_first is

  counted_old : (g : ℕ) → In g h.members → kind_at after.records format.groups_file g ≡ format.counted
  counted_old g i =
      let is = h.counted g i in
      let lt : g < high s.records format.groups_file = kind_below (high s.records format.groups_file) (rec_at s.records format.groups_file g) g
      (λ e. let z = sym e ∙ is in omega arith) in
      let m = mark in
      kind_low (high after.records format.groups_file) (rec_at after.records format.groups_file g) g (omega arith)
      ∙ number g 1 format.kind (omega arith) (off g i) (inl (omega arith))
      ∙ sym (kind_low (high s.records format.groups_file) (rec_at s.records format.groups_file g) g lt) ∙ is

  counted_here : kind_at after.records format.groups_file id ≡ format.counted
  counted_here = let m = mark in
      kind_low (high after.records format.groups_file) (rec_at after.records format.groups_file id) id (omega arith) ∙ ap (λ r. field 1 r format.kind) here
      ∙ kind-empty_group node label was_first small_node small_label small_first

  list_new : HasCountedList after.records node
  list_new = record {
    members = id ∷ h.members;
    walk = (
      first_here u node was_first id rec (omega arith),
      (λ e. omega arith),
      subst (λ f. IsWalk (next_group after.records) f h.members) (sym (value format.group_next was_first refl))
          (walk_stays (next_group s.records) (next_group after.records) was_first h.members (λ x i. number x 4 format.group_next (omega arith) (off x i)
          (inr (omega arith))) h.walk),
    );
    counted = λ g i. ⊎_elim (λ e. ap (kind_at after.records format.groups_file) e ∙ counted_here) (λ j. counted_old g j) i;
    owner = λ g i. ⊎_elim
        (λ e. ap (λ k. field 4 (rec_at after.records format.groups_file k) format.group_owner) e ∙ value format.group_owner node refl)
        (λ j. number g 4 format.group_owner (omega arith) (off g j) (inl (omega arith)) ∙ h.owner g j) i;
  }

  pub list_led : HasCountedList (led u node was_first id rec).records node
  unfolding new
  list_led = list_new

pub list_made : (s now u end : State) (node label first id : ℕ) (rec : Rec) → now ≡ after_get s → u ≡ taken now format.groups_file
    → id ≡ taken_id (meta_of now format.groups_file) → IsUndamaged now format.groups_file
    → kind_at now.records format.groups_file id ≡ format.free_kind → first ≡ first_link s.records node → rec ≡ empty_group node label first
    → end ≡ led u node first id rec
    → id < 2 ^ 25 → node < 2 ^ 32 → label < 2 ^ 32 → HasCountedList s.records node → HasCountedList end.records node
list_made s now u end node label first id rec read took id_is undamaged fresh first_is rec_is is small small_node small_label h =
    let same : now.records ≡ s.records = ap (λ (t : State). t.records) read in
    let was = first_link now.records node in
    let first_now : first ≡ was = first_is ∙ ap (λ (r : Records). first_link r node) (sym same) in
    let end_is : end ≡ led u node was id (empty_group node label was) = is ∙ ap (λ f. led u node f id rec) first_now
    ∙ ap (λ (r : Rec). led u node was id r) (rec_is ∙ ap (empty_group node label) first_now) in
    let marks = subst (λ (q : State). (high now.records format.groups_file ≤ high q.records format.groups_file) × (id < high q.records format.groups_file))
    (sym took) (taken_marks now id id_is small undamaged) in
    subst (λ (t : State). HasCountedList t.records node) (sym end_is)
    (list_led now u node label id (λ key ne. ap (λ (q : State). q.records key) took ∙ taken_other now key ne) marks.0 marks.1 fresh small small_node
    small_label (subst (λ (r : Records). HasCountedList r node) (sym same) h))

-- ---- which record is named where the node has such a list

known_dense : (s : State) (n : ℕ) → IsDense s.records n → layout_by format.nodes_file (rec_at s.records format.nodes_file n)
    (field 1 (rec_at s.records format.nodes_file n) format.kind) ≡ None → ⊥
known_dense s n dense unknown =
    let kind = sym (kind_low (high s.records format.nodes_file) (rec_at s.records format.nodes_file n) n (dense_below s n dense)) ∙ dense in
    let none = sym (ap (layout_by format.nodes_file (rec_at s.records format.nodes_file n)) kind) ∙ unknown in
    cc

no_node : (s : State) (n : ℕ) → IsDense s.records n → (damage : Damage) → IsNodeDamage s n damage → damage.file ≢ format.nodes_file
no_node s n dense damage (HighRow above) e = let z : format.meta_file ≡ format.nodes_file = e in omega arith
no_node s n dense damage (UnknownKind low unknown) e = known_dense s n dense unknown

first_below : (s : State) (n : ℕ) → HasCountedList s.records n → first_link s.records n ≢ format.nil → group_mark s ≤ first_link s.records n → ⊥
first_below s n h some above = by h.members h.walk h.counted
  where
    by : (xs : List ℕ) → IsWalk (next_group s.records) (first_link s.records n) xs → ((g : ℕ) → In g xs → kind_at s.records format.groups_file g
        ≡ format.counted) → ⊥
    by [] walk all = some walk
    by (x ∷ xs) walk all =
        let is = all x (inl refl) in
        let lt : x < high s.records format.groups_file = kind_below (high s.records format.groups_file) (rec_at s.records format.groups_file x) x
        (λ e. let z = sym e ∙ is in omega arith) in
        omega (arith, walk.0, above, lt)

walk_listed : (s : State) (n : ℕ) → HasCountedList s.records n → (damage : Damage) → IsWalkDamage s n (first_link s.records n) damage
    → damage.file ≢ format.nodes_file
walk_listed s n h damage (NoList none) e = none h.members
    (record { walk = h.walk; only = λ g i. record { used = λ z. let k = sym (h.counted g i) ∙ z in omega arith; owner = h.owner g i } })
walk_listed s n h damage (UnknownGroup g none low unknown) e = let z : format.groups_file ≡ format.nodes_file = e in omega arith
walk_listed s n h damage (HighMark above) e = let z : format.meta_file ≡ format.nodes_file = e in omega arith

pub find_listed : (s : State) (n : ℕ) → IsDense s.records n → HasCountedList s.records n → (fault : Fault) → IsFindFault s n fault
    → NamesNoNode (of_fault fault)
find_listed s n dense h faults.Memory told = tt
find_listed s n dense h faults.Disk told = tt
find_listed s n dense h (faults.Damaged damage) told = ⊎_elim (λ k. no_node s n dense damage k) (λ k. walk_listed s n h damage k) told

link_listed : (s : State) (n : ℕ) → HasCountedList s.records n → (damage : Damage) → IsLinkDamage s (first_link s.records n) (link_damage n) damage
    → damage.file ≢ format.nodes_file
link_listed s n h damage (LeadsNowhere some above) e = first_below s n h some above
link_listed s n h damage (HighLink above) e = let z : format.meta_file ≡ format.nodes_file = e in omega arith

take_listed : (s : State) (damage : Damage) → IsTakeDamage s format.groups_file damage → damage.file ≢ format.nodes_file
take_listed s damage (Unranged out) e = let z : format.meta_file ≡ format.nodes_file = e in omega arith
take_listed s damage (Unlisted x none low unused) e = let z : format.groups_file ≡ format.nodes_file = e in omega arith
take_listed s damage (Undercounted none low used) e = let z : format.meta_file ≡ format.nodes_file = e in omega arith
take_listed s damage (Overcounted above more) e = let z : format.meta_file ≡ format.nodes_file = e in omega arith
take_listed s damage (InUse some used) e = let z : format.meta_file ≡ format.nodes_file = e in omega arith
take_listed s damage (BadNext some unused link above) e = let z : format.groups_file ≡ format.nodes_file = e in omega arith

make_damage_listed : (s : State) (n : ℕ) → IsDense s.records n → HasCountedList s.records n → (damage : Damage) → IsMakeDamage s n damage
    → damage.file ≢ format.nodes_file
make_damage_listed s n dense h damage (BadNode _ bad) = no_node s n dense damage bad
make_damage_listed s n dense h damage (NotDense thin) = absurd (thin dense)
make_damage_listed s n dense h damage (BadLink _ bad) = link_listed s n h damage bad
make_damage_listed s n dense h damage (BadFree _ bad) = take_listed s damage bad

pub make_listed : (s : State) (n : ℕ) → IsDense s.records n → HasCountedList s.records n → (fault : OpenFault) → IsMakeFault s n fault → NamesNoNode fault
make_listed s n dense h (Full live) told = tt
make_listed s n dense h Memory told = tt
make_listed s n dense h Disk told = tt
make_listed s n dense h (Damaged damage) told = make_damage_listed s n dense h damage told

-- ---- a group that is found among them

-- the links from the first on lead among them
next_among : (next : ℕ → ℕ) (from : ℕ) (xs : List ℕ) → IsWalk next from xs → (x : ℕ) → In x xs → (next x ≡ format.nil) ⊎ In (next x) xs
next_among next from [] walk x i = elim i [ ]
next_among next from (y ∷ ys) walk x (inl e) = subst (λ z. (next z ≡ format.nil) ⊎ In (next z) (y ∷ ys)) (sym e)
    (⊎_elim (λ none. inl none) (λ j. inr (inr j)) (first_in next (next y) ys walk.2))
next_among next from (y ∷ ys) walk x (inr i) = ⊎_elim (λ none. inl none) (λ j. inr (inr j)) (next_among next (next y) ys walk.2 x i)

pub found_counted : (s : State) (node : ℕ) (row : GroupRow) → HasCountedList s.records node → IsReached s.records (first_link s.records node) row.id
    → row.id < 2 ^ 25 → row ≡ group_row_at s.records row.id → row.counted ≡ true
found_counted s node row h reached small is =
    let first : In (first_link s.records node) (format.nil ∷ h.members)
    = ⊎_elim (λ e. inl e) (λ i. inr i) (first_in (next_group s.records) (first_link s.records node) h.members h.walk) in
    let member : In row.id h.members
    = ⊎_elim (λ (e : row.id ≡ format.nil). absurd (omega arith)) (λ i. i) (reached (format.nil ∷ h.members) first
    (λ g i some. ⊎_elim (λ e. absurd (some e))
    (λ j. ⊎_elim (λ e. inl e) (λ k. inr k) (next_among (next_group s.records) (first_link s.records node) h.members h.walk g j)) i)) in
    let counted = h.counted row.id member in
    let r = rec_at s.records format.groups_file row.id in
    let lt = kind_below (high s.records format.groups_file) r row.id (λ e. let z = sym e ∙ counted in omega arith) in
    ap (λ (q : GroupRow). q.counted) is
    ∙ eq_true (field 1 r format.kind) format.counted (sym (kind_low (high s.records format.groups_file) r row.id lt) ∙ counted)

-- of a list that was made
pub list_own : (r : Result OwnGroup OpenFault) (s now end : State) (node : ℕ) → SameButReads s now
    → OnOk r (HasCountedList now.records node → HasCountedList end.records node) → IfOk r (λ own. own.row.counted ≡ true)
    → IfOk r (λ own. HasCountedList s.records node → HasCountedList end.records node × (own.row.counted ≡ true))
list_own (Err fault) s now end node same list counted = tt
list_own (Ok own) s now end node same list counted = λ h. (list (list_read s now node same h), counted)

-- ---- other faults

-- a relationship that can't be read, or can't be put at the head of a group, is no node
pub rel_listed : (s : State) (x : ℕ) (fault : RowFault) → rels.IsRelFault s x fault → NamesNoNode (of_fault (of_row fault))
rel_listed s x row.Disk told = tt
rel_listed s x (row.Damaged damage) told = by damage told
  where
    by : (d : Damage) → IsRowDamage format.relationships_file s x d → d.file ≢ format.nodes_file
    by d (HighRow above) e = let z : format.meta_file ≡ format.nodes_file = e in omega arith
    by d (UnknownKind low unknown) e = let z : format.relationships_file ≡ format.nodes_file = e in omega arith

pub push_listed : (z : State) (head : Head) → head.key.file ≡ format.groups_file → (fault : Fault) → IsPushFault z head fault → NamesNoNode (of_fault fault)
push_listed z head group faults.Memory told = tt
push_listed z head group faults.Disk told = tt
push_listed z head group (faults.Damaged damage) told = by damage told
  where
    by : (d : Damage) → chains.IsLinkDamage z (first_of z.records head) (first_damage head.key) d → d.file ≢ format.nodes_file
    by d (NoRel some above) e = let z : head.key.file ≡ format.nodes_file = e in omega arith
    by d (HighRels above) e = let z : format.meta_file ≡ format.nodes_file = e in omega arith
