-- The groups of a node that becomes dense, and what stands first in them, whatever the records are.
use Rattle.std.proofs.Common.{◌≡◌, ◌≢◌, ◌⊎◌, ℕ, ◌+◌, ◌<◌, ◌≤◌, ◌^◌, true, false, nat_eq, cond, None, Some, List, []}
use Rattle.std.proofs.Common.{◌∷◌, ◌++◌, length, Result, Ok, Err, IfOk, sym, ap, ◌∙◌, subst, inl, inr, ⊎_elim, arith}
use Rattle.std.proofs.Common.{refl}
use Rattle.std.proofs.lemmas.Bool.{cases_lt}
use Rattle.id_freelist.specs.Taking.{IsUndamaged, free_taken, mark_taken, meta_damage, taken, taken_id}
use Rattle.id_freelist.specs.Taking.IsTakeDamage.{Unranged}
use Rattle.rec_bytes.specs.declared.key.Key.{Key}
use Rattle.rec_bytes.specs.declared.meta.Meta.{Meta}
use Rattle.rec_bytes.specs.declared.record.Rec.{Rec}
use Rattle.rec_bytes.specs.Format as format
use Rattle.rec_bytes.specs.Meta as metas
use Rattle.rec_bytes.specs.Record.{field, with_field}
use Rattle.rec_bytes.specs.RecordFiles.{meta_key_of}
use Rattle.rec_bytes.specs.Space.{SameButReads, State, after_get, meta_of, put}
use Rattle.rec_bytes.specs.Tables.{field_at}
use Rattle.rec_bytes.proofs.Numbers.{field-lt, field-with_field_other, field-with_field_same}
use Rattle.rec_bytes.proofs.Spaces.{put_other, put_same}
use Rattle.node_store.specs.NodeRecord.{node_key}
use Rattle.store_rules.specs.Chains.{In, IsWalk, next_in}
use Rattle.store_rules.specs.Rules.{Head, first_of}
use Rattle.store_rules.specs.Views.{Records, degree, first_link, high, key_in, kind_at, kind_in, rec_at, rel_at}
use Rattle.store_rules.proofs.ChainLaws.{head_once, walk_stays}
use Rattle.store_rules.proofs.NumberLaws.{eq_false, eq_true, nat_cases}
use Rattle.store_rules.proofs.ViewLaws.{kind_below, kind_by, kind_low}
use Rattle.chain_edit.specs.Chains.{next_of}
use Rattle.chain_edit.specs.Links as links
use Rattle.chain_edit.specs.Links.{prev_set}
use Rattle.chain_edit.specs.Pushing.{pushed}
use Rattle.chain_edit.proofs.Edits.{next_of-backed}
use Rattle.chain_edit.proofs.LinkLaws.{elsewhere-set_prev, key_cases, next_of-set_next_other, next_of-set_prev}
use Rattle.group_store.specs.declared.making.OwnGroup.{OwnGroup}
use Rattle.group_store.specs.declared.open_fault.OpenFault.{OpenFault}
use Rattle.group_store.specs.declared.side.Side.{Side}
use Rattle.group_store.specs.declared.side.Side.TheVariants.{Out, In as Into, Loop}
use Rattle.group_store.specs.Counting.{one_more, tallied}
use Rattle.group_store.specs.Finding.{IsReached}
use Rattle.group_store.specs.GroupChain.{next_group}
use Rattle.group_store.specs.GroupRecord.{group_key}
use Rattle.group_store.specs.Making.{empty_fields, empty_group, led, made}
use Rattle.group_store.specs.Sides.{group_head, place_of}
use Rattle.group_store.specs.SparseChain.{HasChain}
use Rattle.group_store.specs.Spreading.{LeadsAmong, cleared}
use Rattle.group_store.proofs.Clearing.{clear_first, clear_of}
use Rattle.group_store.proofs.DenseStays.{pushed_other, taken_other}
use Rattle.group_store.proofs.Gathers.{place_range, side_cases}
use Rattle.group_store.proofs.GroupWalks.{in_push}
use Rattle.group_store.proofs.Makes.{first_here, group_here, group_stays, kind-empty_group, meta_stays, new, number-empty_group, stays}
use Rattle.group_store.proofs.Spreads.{in_before, in_last}
use Rattle.group_store.proofs.Tallies.{field-tallied, file-tallied}

-- ---- the identifier that is taken

high_with : (r : Rec) (m : Meta) → m.high < 2 ^ 32 → field 4 (metas.with_meta r m) format.meta_high ≡ m.high
high_with r m small = field-with_field_other 4 (with_field 4 (with_field 4 r format.meta_high m.high) format.meta_free m.free) format.meta_live m.live 4
    format.meta_high (omega arith) (inr (omega arith))
    ∙ field-with_field_other 4 (with_field 4 r format.meta_high m.high) format.meta_free m.free 4 format.meta_high (omega arith) (inr (omega arith))
    ∙ field-with_field_same 4 r format.meta_high m.high (omega arith) small

-- the mark after a take, and what was taken: the mark, or the first free one
taken_high : (s : State) (file id : ℕ) → id ≡ taken_id (meta_of s file) → id < 2 ^ 25
    → (((meta_of s file).free ≡ format.nil) × (id ≡ high s.records file) × (high (taken s file).records file ≡ high s.records file + 1))
    ⊎ (((meta_of s file).free ≢ format.nil) × (id ≡ (meta_of s file).free) × (high (taken s file).records file ≡ high s.records file))
unfolding mark_taken free_taken
taken_high s file id is small = ⊎_elim
    (λ (none : (meta_of s file).free ≡ format.nil).
    let test : nat_eq (meta_of s file).free format.nil ≡ true = eq_true (meta_of s file).free format.nil none in
    let same : id ≡ (meta_of s file).high = subst (λ b. id ≡ cond b (meta_of s file).high (meta_of s file).free) test is in
    let more : high (mark_taken s file).records file ≡ (meta_of s file).high + 1 = high_of _ (omega arith) in
    inl (none, same, subst (λ b. high (cond b (mark_taken s file) (free_taken s file)).records file ≡ high s.records file + 1) (sym test) more))
    (λ (some : (meta_of s file).free ≢ format.nil).
    let test : nat_eq (meta_of s file).free format.nil ≡ false = eq_false (meta_of s file).free format.nil some in
    let same : id ≡ (meta_of s file).free = subst (λ b. id ≡ cond b (meta_of s file).high (meta_of s file).free) test is in
    let fits : (meta_of s file).high < 2 ^ 32 = field-lt 4 (s.records (meta_key_of file)) format.meta_high in
    let kept : high (free_taken s file).records file ≡ (meta_of s file).high = high_of _ fits in
    inr (some, same, subst (λ b. high (cond b (mark_taken s file) (free_taken s file)).records file ≡ high s.records file) (sym test) kept))
    (nat_cases (meta_of s file).free format.nil)
  where
    high_of : (to : Meta) → to.high < 2 ^ 32 → field 4 (put s.records (meta_key_of file) (metas.with_meta (s.records (meta_key_of file)) to)
        (meta_key_of file)) format.meta_high ≡ to.high
    high_of to fits = ap (λ r. field 4 r format.meta_high) (put_same s.records (meta_key_of file) (metas.with_meta (s.records (meta_key_of file)) to))
        ∙ high_with (s.records (meta_key_of file)) to fits

-- it isn't lower than before
pub taken_grown : (s : State) (file id : ℕ) → id ≡ taken_id (meta_of s file) → id < 2 ^ 25 → high s.records file ≤ high (taken s file).records file
taken_grown s file id is small = ⊎_elim (λ k. omega (arith, k.2)) (λ k. omega (arith, k.2)) (taken_high s file id is small)

-- what was taken is below it
pub taken_marks : (s : State) (id : ℕ) → id ≡ taken_id (meta_of s format.groups_file) → id < 2 ^ 25 → IsUndamaged s format.groups_file
    → (high s.records format.groups_file ≤ high (taken s format.groups_file).records format.groups_file)
    × (id < high (taken s format.groups_file).records format.groups_file)
taken_marks s id is small undamaged = (
  taken_grown s format.groups_file id is small,
  ⊎_elim
      (λ k. let at = k.1 in let more = k.2 in omega arith)
      (λ k. let at = k.1 in let kept = k.2 in
      let low : (meta_of s format.groups_file).free < (meta_of s format.groups_file).high =
      ⊎_elim (λ lt. lt) (λ (ge : (meta_of s format.groups_file).high ≤ (meta_of s format.groups_file).free). absurd (undamaged
      (meta_damage format.groups_file 1)
      (Unranged (λ r. ⊎_elim (λ e. k.0 e) (λ lt. omega arith) r.first)))) (cases_lt (meta_of s format.groups_file).free
      (meta_of s format.groups_file).high) in
      omega arith) (taken_high s format.groups_file id is small),
)

-- ---- a group that is made

module _ (s u : State) (node label id : ℕ) (others : (key : Key) → key ≢ meta_key_of format.groups_file → u.records key ≡ s.records key)
    (grown : high s.records format.groups_file ≤ high u.records format.groups_file) (low : id < high u.records format.groups_file)
    (fresh : kind_at s.records format.groups_file id ≡ format.free_kind)
    (small : id < 2 ^ 25) (small_node : node < 2 ^ 32) (small_label : label < 2 ^ 32) (came groups : List ℕ) (h : LeadsAmong s.records node came groups) where
  abbrev was_first : ℕ
  was_first = first_link s.records node

  abbrev rec : Rec
  rec = empty_group node label was_first

  abbrev after : State
  after = new u node was_first id rec

  small_first : was_first < 2 ^ 32
  small_first = field-lt 4 (rec_at s.records format.nodes_file node) format.node_first_link

  off : (g : ℕ) → In g groups → g ≢ id
  off g i e = ⊎_elim (λ (none : g ≡ format.nil). omega arith) (λ (some : g ≢ format.nil). h.used g i some (ap (kind_at s.records format.groups_file) e ∙ fresh))
      (nat_cases g format.nil)

  apart : id ≢ was_first
  apart e = off was_first h.first (sym e)

  number : (g n at : ℕ) → at + n ≤ 64 → g ≢ id → (at + n ≤ 12) ⊎ (16 ≤ at)
      → field n (rec_at after.records format.groups_file g) at ≡ field n (rec_at s.records format.groups_file g) at
  number g n at fits ne aside = group_stays u node was_first id rec g n at fits ne (λ _. aside)
      ∙ ap (λ r. field n r at) (others (group_key g) (λ e. let f = ap (λ (k : Key). k.file) e in absurd (omega arith)))

  here : rec_at after.records format.groups_file id ≡ rec
  here = group_here u node was_first id rec apart

  mark : high after.records format.groups_file ≡ high u.records format.groups_file
  mark = ap (λ r. (metas.meta_of r).high) (meta_stays u node was_first id rec)

  value : (at v : ℕ) → field_at (empty_fields node label was_first) 4 at ≡ Some v → field 4 (rec_at after.records format.groups_file id) at ≡ v
  value at v is = ap (λ r. field 4 r at) here ∙ number-empty_group node label was_first at v small_node small_label small_first is

  head_here : (side : Side) → first_of after.records (group_head id side) ≡ format.nil
  head_here Out = value format.group_first_out format.nil refl
  head_here Into = value format.group_first_in format.nil refl
  head_here Loop = value format.group_first_loop format.nil refl

  used_old : (g : ℕ) → In g groups → g ≢ format.nil → kind_at after.records format.groups_file g ≢ format.free_kind
  used_old g i some is =
      let lt : g < high s.records format.groups_file = kind_below (high s.records format.groups_file) (rec_at s.records format.groups_file g) g
      (h.used g i some) in
      let m = mark in
      h.used g i some (kind_low (high s.records format.groups_file) (rec_at s.records format.groups_file g) g lt ∙ sym (number g 1 format.kind (omega arith)
      (off g i) (inl (omega arith)))
      ∙ sym (kind_low (high after.records format.groups_file) (rec_at after.records format.groups_file g) g (omega arith)) ∙ is)

  used_here : kind_at after.records format.groups_file id ≢ format.free_kind
  used_here is =
      let m = mark in
      let counted = sym (kind_low (high after.records format.groups_file) (rec_at after.records format.groups_file id) id (omega arith) ∙ ap
      (λ r. field 1 r format.kind) here ∙ kind-empty_group node label was_first small_node small_label small_first) ∙ is in
      omega arith

  leads_new : LeadsAmong after.records node came (groups ++ id ∷ [])
  leads_new = record {
    first = subst (λ z. In z (groups ++ id ∷ [])) (sym (first_here u node was_first id rec (omega arith))) (in_last id groups);
    next = λ g i some. ⊎_elim
        (λ j. subst (λ z. In z (groups ++ id ∷ [])) (sym (number g 4 format.group_next (omega arith) (off g j) (inr (omega arith))))
        (in_before (next_group s.records g) id groups (h.next g j some)))
        (λ e. subst (λ z. In (next_group after.records z) (groups ++ id ∷ [])) (sym e) (subst (λ z. In z (groups ++ id ∷ []))
        (sym (value format.group_next was_first refl)) (in_before was_first id groups h.first)))
        (in_push groups id g i);
    used = λ g i some. ⊎_elim (λ j. used_old g j some) (λ e. subst (λ z. kind_at after.records format.groups_file z ≢ format.free_kind) (sym e) used_here)
        (in_push groups id g i);
    heads = λ g i some side. let b = place_range side in ⊎_elim
        (λ j. subst (λ z. In z came) (sym (number g 4 (place_of side) (let top = b.1 in omega arith) (off g j) (inr (let bottom = b.0 in omega arith))))
        (h.heads g j some side))
        (λ e. subst (λ z. In (first_of after.records (group_head z side)) came) (sym e) (subst (λ z. In z came) (sym (head_here side)) h.no_rel))
        (in_push groups id g i);
    no_group = in_before format.nil id groups h.no_group;
    no_rel = h.no_rel;
  }

  pub leads_led : LeadsAmong (led u node was_first id rec).records node came (groups ++ id ∷ [])
  unfolding new
  leads_led = leads_new

pub leads_made : (s now u end : State) (node label first id : ℕ) (rec : Rec) → now ≡ after_get s → u ≡ taken now format.groups_file
    → id ≡ taken_id (meta_of now format.groups_file) → IsUndamaged now format.groups_file
    → kind_at now.records format.groups_file id ≡ format.free_kind → first ≡ first_link s.records node → rec ≡ empty_group node label first
    → end ≡ led u node first id rec
    → id < 2 ^ 25 → node < 2 ^ 32 → label < 2 ^ 32 → (came groups : List ℕ) → LeadsAmong s.records node came groups
    → LeadsAmong end.records node came (groups ++ id ∷ [])
leads_made s now u end node label first id rec read took id_is undamaged fresh first_is rec_is is small small_node small_label came groups h =
    let same : now.records ≡ s.records = ap (λ (t : State). t.records) read in
    let was = first_link now.records node in
    let first_now : first ≡ was = first_is ∙ ap (λ (r : Records). first_link r node) (sym same) in
    let end_is : end ≡ led u node was id (empty_group node label was) = is ∙ ap (λ f. led u node f id rec) first_now
    ∙ ap (λ (r : Rec). led u node was id r) (rec_is ∙ ap (empty_group node label) first_now) in
    let marks = subst (λ (q : State). (high now.records format.groups_file ≤ high q.records format.groups_file) × (id < high q.records format.groups_file))
    (sym took) (taken_marks now id id_is small undamaged) in
    subst (λ (t : State). LeadsAmong t.records node came (groups ++ id ∷ [])) (sym end_is)
    (leads_led now u node label id (λ key ne. ap (λ (q : State). q.records key) took ∙ taken_other now key ne) marks.0 marks.1 fresh small small_node
    small_label came groups
    (subst (λ (r : Records). LeadsAmong r node came groups) (sym same) h))

-- the relationships are as they were
pub rels_made : (s : State) (node label x : ℕ) → rec_at (made s node label).records format.relationships_file x ≡ rec_at s.records format.relationships_file x
unfolding made new
rels_made s node label x =
    let first = first_link s.records node in
    stays (taken (after_get s) format.groups_file) node first (taken_id (meta_of s format.groups_file)) (empty_group node label first)
    (key_in format.relationships_file x)
    (λ e. let f = ap (λ (k : Key). k.file) e in omega arith) (λ e. let f = ap (λ (k : Key). k.file) e in omega arith)
    (λ e. let f = ap (λ (k : Key). k.file) e in omega arith)
    ∙ taken_other (after_get s) (key_in format.relationships_file x) (λ e. let f = ap (λ (k : Key). k.file) e in omega arith)

-- ---- a group that is found or made

-- what was reached is among the groups
pub leads_found : (s l : State) (node id : ℕ) → SameButReads s l → IsReached s.records (first_link s.records node) id → (came groups : List ℕ)
    → LeadsAmong s.records node came groups
    → LeadsAmong l.records node came (groups ++ id ∷ []) × In format.nil groups
leads_found s l node id same reached came groups h = (
  subst (λ (q : State). LeadsAmong q.records node came (groups ++ id ∷ [])) (sym same) (record {
    first = in_before (first_link s.records node) id groups h.first;
    next = λ g i some. in_before (next_group s.records g) id groups (h.next g (old g i) some);
    used = λ g i some. h.used g (old g i) some;
    heads = λ g i some side. h.heads g (old g i) some side;
    no_group = in_before format.nil id groups h.no_group;
    no_rel = h.no_rel;
  }),
  h.no_group,
)
  where
    old : (g : ℕ) → In g (groups ++ id ∷ []) → In g groups
    old g i = ⊎_elim (λ j. j) (λ e. subst (λ z. In z groups) (sym e) (reached groups h.first h.next)) (in_push groups id g i)

pub leads_own : (r : Result OwnGroup OpenFault) (s now end : State) (node : ℕ) → SameButReads s now
    → IfOk r (λ own. (came groups : List ℕ) → LeadsAmong now.records node came groups → LeadsAmong end.records node came (groups ++ own.row.id ∷ []))
    → IfOk r (λ own. own.first ≡ first_link now.records node)
    → IfOk r (λ own. (came groups : List ℕ) → LeadsAmong s.records node came groups → LeadsAmong end.records node came (groups ++ own.row.id ∷ [])
    × In own.first groups)
leads_own (Err fault) s now end node same leads first = tt
leads_own (Ok own) s now end node same leads first = λ came groups h.
    let there = subst (λ (q : State). LeadsAmong q.records node came groups) (sym same) h in
    (leads came groups there, subst (λ z. In z groups) (sym first) there.first)

-- ---- a relationship that comes into its group

pushed_next : (t : State) (h : Head) (node rel y : ℕ) → h.key.file ≡ format.groups_file → y ≢ rel
    → next_of (pushed t h node rel).records node y ≡ next_of t.records node y
unfolding pushed
pushed_next t h node rel y group ne =
    let first = first_of t.records h in
    let b = links.backed (after_get t) node first rel in
    ap (λ r. next_in r node) (put_other (links.next_set b node rel first).records h.key (with_field 4 (t.records h.key) h.field rel)
    (key_in format.relationships_file y) (λ e. let f : format.relationships_file ≡ format.groups_file = ap (λ (k : Key). k.file) e ∙ group in omega arith))
    ∙ next_of-set_next_other b.records node rel first node y (λ e. absurd (ne e))
    ∙ next_of-backed (after_get t) node first rel node y

pub pushed_field : (t : State) (h : Head) (node rel k n at : ℕ) → at + n ≤ 64 → (group_key k ≡ h.key → (at + n ≤ h.field) ⊎ (h.field + 4 ≤ at))
    → field n (rec_at (pushed t h node rel).records format.groups_file k) at ≡ field n (rec_at t.records format.groups_file k) at
unfolding pushed
pushed_field t h node rel k n at inside apart = ⊎_elim
    (λ (e : group_key k ≡ h.key).
    let all = links.next_set (links.backed (after_get t) node (first_of t.records h) rel) node rel (first_of t.records h) in
    let put_there = with_field 4 (t.records h.key) h.field rel in
    ap (λ z. field n (put all.records h.key put_there z) at) e ∙ ap (λ q. field n q at) (put_same all.records h.key put_there)
    ∙ field-with_field_other 4 (t.records h.key) h.field rel n at inside (⊎_elim (λ low. inr low) (λ high. inl high) (apart e))
    ∙ ap (λ z. field n (t.records z) at) (sym e))
    (λ (ne : group_key k ≢ h.key). ap (λ q. field n q at) (pushed_other t h node rel (group_key k) (λ e. omega arith) ne)) (key_cases (group_key k) h.key)

pushed_first : (t : State) (h : Head) (node rel : ℕ) → h.field + 4 ≤ 64 → rel < 2 ^ 32 → first_of (pushed t h node rel).records h ≡ rel
unfolding pushed
pushed_first t h node rel fits small =
    let all = links.next_set (links.backed (after_get t) node (first_of t.records h) rel) node rel (first_of t.records h) in
    ap (λ r. field 4 r h.field) (put_same all.records h.key (with_field 4 (t.records h.key) h.field rel))
    ∙ field-with_field_same 4 (t.records h.key) h.field rel fits small

module _ (m : State) (node rel g : ℕ) (side : Side) (small : rel < 2 ^ 32) where
  abbrev head : Head
  head = group_head g side

  abbrev t : State
  t = prev_set m node rel format.nil

  abbrev p : State
  p = pushed t head node rel

  abbrev moved : State
  moved = tallied one_more p head

  other : (key : Key) → key.file ≢ format.relationships_file → key.file ≢ format.groups_file → moved.records key ≡ m.records key
  other key a b = file-tallied one_more p head key b ∙ pushed_other t head node rel key a (λ e. b (ap (λ (k : Key). k.file) e))
      ∙ elsewhere-set_prev m.records node rel format.nil key a

  group_t : (k : ℕ) → rec_at t.records format.groups_file k ≡ rec_at m.records format.groups_file k
  group_t k = elsewhere-set_prev m.records node rel format.nil (group_key k) (λ e. omega arith)

  low : (k n at : ℕ) → at + n ≤ 20 → field n (rec_at moved.records format.groups_file k) at ≡ field n (rec_at m.records format.groups_file k) at
  low k n at inside = field-tallied one_more p head (group_key k) n at (omega arith)
      ∙ pushed_field t head node rel k n at (omega arith) (λ _. let b = (place_range side).0 in inl (omega arith)) ∙ ap (λ r. field n r at) (group_t k)

  kind_m : (k : ℕ) → kind_at moved.records format.groups_file k ≡ kind_at m.records format.groups_file k
  kind_m k = ap (λ r. kind_in (metas.meta_of r).high (rec_at moved.records format.groups_file k) k)
      (other (meta_key_of format.groups_file) (λ e. omega arith) (λ e. omega arith))
      ∙ kind_by (high m.records format.groups_file) (rec_at moved.records format.groups_file k) (rec_at m.records format.groups_file k) k
      (low k 1 format.kind (omega arith))

  first_same : (k : ℕ) (s : Side) → ((k ≡ g) → (place_of s + 4 ≤ place_of side) ⊎ (place_of side + 4 ≤ place_of s))
      → first_of moved.records (group_head k s) ≡ first_of m.records (group_head k s)
  first_same k s aside =
      let b = (place_range s).1 in
      field-tallied one_more p head (group_key k) 4 (place_of s) (omega arith)
      ∙ pushed_field t head node rel k 4 (place_of s) (omega arith) (λ e. aside (ap (λ (z : Key). z.id) e)) ∙ ap (λ r. field 4 r (place_of s)) (group_t k)

  first_here_now : first_of moved.records head ≡ rel
  first_here_now = let b = (place_range side).1 in field-tallied one_more p head (group_key g) 4 (place_of side) (omega arith)
      ∙ pushed_first t head node rel (omega arith) small

  heads_now : (came : List ℕ) (k : ℕ) → ((s : Side) → In (first_of m.records (group_head k s)) came) → (s : Side)
      → In (first_of moved.records (group_head k s)) (came ++ rel ∷ [])
  heads_now came k was s = ⊎_elim
      (λ (same : k ≡ g). ⊎_elim
      (λ (e : side ≡ s). subst (λ z. In (first_of moved.records (group_head z s)) (came ++ rel ∷ [])) (sym same)
      (subst (λ z. In (first_of moved.records (group_head g z)) (came ++ rel ∷ [])) e (subst (λ z. In z (came ++ rel ∷ [])) (sym first_here_now)
      (in_last rel came))))
      (λ apart. kept (λ _. ⊎_elim (λ a. inr a) (λ b. inl b) apart)) (side_cases side s))
      (λ (ne : k ≢ g). kept (λ e. absurd (ne e))) (nat_cases k g)
    where
      kept : ((k ≡ g) → (place_of s + 4 ≤ place_of side) ⊎ (place_of side + 4 ≤ place_of s)) → In (first_of moved.records (group_head k s)) (came ++ rel ∷ [])
      kept aside = subst (λ z. In z (came ++ rel ∷ [])) (sym (first_same k s aside)) (in_before (first_of m.records (group_head k s)) rel came (was s))

  leads_moved : (came groups : List ℕ) → LeadsAmong m.records node came groups → LeadsAmong moved.records node (came ++ rel ∷ []) groups
  leads_moved came groups h = record {
    first = subst (λ r. In (field 4 r format.node_first_link) groups) (sym (other (node_key node) (λ e. omega arith) (λ e. omega arith))) h.first;
    next = λ k i some. subst (λ z. In z groups) (sym (low k 4 format.group_next (omega arith))) (h.next k i some);
    used = λ k i some is. h.used k i some (sym (kind_m k) ∙ is);
    heads = λ k i some s. heads_now came k (h.heads k i some) s;
    no_group = h.no_group;
    no_rel = in_before format.nil rel came h.no_rel;
  }

  next_moved : (y : ℕ) → y ≢ rel → next_of moved.records node y ≡ next_of m.records node y
  next_moved y ne = ap (λ r. next_in r node) (file-tallied one_more p head (key_in format.relationships_file y) (λ e. omega arith))
      ∙ pushed_next t head node rel y refl ne ∙ next_of-set_prev m.records node rel format.nil node y

-- the groups and what stands first in them, after a turn
pub leads_turn : (s l m t end : State) (node rel : ℕ) (side : Side) (h : Head) (own : OwnGroup) (first : ℕ) → SameButReads s l
    → ((came groups : List ℕ) → LeadsAmong l.records node came groups → LeadsAmong m.records node came (groups ++ own.row.id ∷ []) × In own.first groups)
    → own.row.id < 2 ^ 25 → rel < 2 ^ 25
    → t ≡ prev_set m node rel format.nil → h ≡ group_head own.row.id side → end ≡ tallied one_more (pushed t h node rel) h → first ≡ first_of t.records h
    → (came groups : List ℕ) → LeadsAmong s.records node came groups → LeadsAmong end.records node (came ++ rel ∷ []) (groups ++ own.row.id ∷ [])
    × (In first came × In own.first groups)
leads_turn s l m t end node rel side h own first same opens group small freed head put first_is came groups was =
    let opened = opens came groups (subst (λ (q : State). LeadsAmong q.records node came groups) (sym same) was) in
    let end_of : moved m node rel own.row.id side (omega arith) ≡ end
    = sym (put ∙ ap (λ (q : State). tallied one_more (pushed q h node rel) h) freed ∙ ap (λ (q : Head). tallied one_more
    (pushed (prev_set m node rel format.nil) q node rel) q) head) in
    let first_m : first ≡ first_of m.records (group_head own.row.id side)
    = first_is ∙ ap (λ (q : State). first_of q.records h) freed ∙ ap (λ (q : Head). first_of (prev_set m node rel format.nil).records q) head
    ∙ ap (λ r. field 4 r (place_of side)) (group_t m node rel own.row.id side (omega arith) own.row.id) in (
      subst (λ (q : State). LeadsAmong q.records node (came ++ rel ∷ []) (groups ++ own.row.id ∷ [])) end_of
          (leads_moved m node rel own.row.id side (omega arith) came (groups ++ own.row.id ∷ []) opened.0),
      (
        subst (λ z. In z came) (sym first_m) (opened.0.heads own.row.id (in_last own.row.id groups) (λ e. omega arith) side),
        opened.1,
      ),
    )

-- the links lead through the rest
pub walk_turn : (s l m t end : State) (node rel : ℕ) (side : Side) (h : Head) (g next : ℕ) → SameButReads s l
    → ((x : ℕ) → rec_at m.records format.relationships_file x ≡ rec_at l.records format.relationships_file x)
    → rel < 2 ^ 25 → t ≡ prev_set m node rel format.nil → h ≡ group_head g side → end ≡ tallied one_more (pushed t h node rel) h
    → next ≡ next_of s.records node rel
    → (rest : List ℕ) → IsWalk (next_of s.records node) rel (rel ∷ rest) → IsWalk (next_of end.records node) next rest
walk_turn s l m t end node rel side h g next same rels small freed head put next_is rest walk =
    let end_of : moved m node rel g side (omega arith) ≡ end
    = sym (put ∙ ap (λ (q : State). tallied one_more (pushed q h node rel) h) freed ∙ ap (λ (q : Head). tallied one_more
    (pushed (prev_set m node rel format.nil) q node rel) q) head) in
    let stays : (y : ℕ) → In y rest → next_of end.records node y ≡ next_of s.records node y
    = λ y i. ap (λ (q : State). next_of q.records node y) (sym end_of) ∙ next_moved m node rel g side (omega arith) y
    (λ e. head_once (next_of s.records node) rel rest walk.1 walk.2 (subst (λ z. In z rest) e i))
    ∙ ap (λ r. next_in r node) (rels y) ∙ ap (λ (q : State). next_of q.records node y) same in
    walk_stays (next_of s.records node) (next_of end.records node) next rest stays (subst (λ z. IsWalk (next_of s.records node) z rest) (sym next_is) walk.2)

-- ---- a node that becomes dense

pub leads_cleared : (s : State) (node : ℕ) → LeadsAmong (cleared s node).records node (format.nil ∷ []) (format.nil ∷ [])
leads_cleared s node =
    let old = rec_at s.records format.nodes_file node in
    let none : first_link (cleared s node).records node ≡ format.nil = ap (λ r. field 4 r format.node_first_link)
    (put_same s.records (node_key node) (clear_of old)) ∙ clear_first old in
    record {
      first = subst (λ z. In z (format.nil ∷ [])) (sym none) (inl refl);
      next = λ g i some. absurd (some (only g i));
      used = λ g i some. absurd (some (only g i));
      heads = λ g i some side. absurd (some (only g i));
      no_group = inl refl;
      no_rel = inl refl;
    }
  where
    only : (g : ℕ) → In g (format.nil ∷ []) → g ≡ format.nil
    only g i = ⊎_elim (λ e. e) (λ j. elim j [ ]) i

-- The links lead through these that are left from this one on. Each was in use at the start. With those that came they are no
-- more than the node's degree says.
pub record HasRest (s now : State) (node at count : ℕ) : Type 0 where
  pub rest : List ℕ
  pub walk : IsWalk (next_of now.records node) at rest
  pub live : (x : ℕ) → In x rest → rel_at s.records x ≢ None
  pub few : length rest + count ≤ degree s.records node

pub rest_all : (s l v t : State) (node first said : ℕ) → SameButReads s l → SameButReads s v → t ≡ cleared v node → said ≡ degree s.records node
    → HasChain l.records node first said → HasRest s t node first 0
rest_all s l v t node first said same_l same clear said_is chain =
    let h = subst (λ (q : State). HasChain q.records node first said) same_l chain in
    let few = h.few in
    record {
      rest = h.members;
      walk = subst (λ (q : State). IsWalk (next_of q.records node) first h.members) (sym clear)
          (walk_stays (next_of s.records node) (next_of (cleared v node).records node) first h.members
          (λ x i. ap (λ r. next_in r node) (put_other v.records (node_key node) (clear_of (rec_at v.records format.nodes_file node))
          (key_in format.relationships_file x) (λ e. let f = ap (λ (k : Key). k.file) e in omega arith)) ∙ ap (λ (q : State). next_of q.records node x)
          same) h.walk);
      live = h.live;
      few = omega arith;
    }

module _ (s now : State) (node at count : ℕ) (there : at ≢ format.nil) (h : HasRest s now node at count) where
  rest_first : {P : Type 0} → ((later : List ℕ) → IsWalk (next_of now.records node) at (at ∷ later) → ((x : ℕ) → In x (at ∷ later) → rel_at s.records x ≢ None)
      → length later + (count + 1) ≤ degree s.records node → P) → P
  rest_first {P} found = by h.rest h.walk h.live h.few
    where
      by : (xs : List ℕ) → IsWalk (next_of now.records node) at xs → ((x : ℕ) → In x xs → rel_at s.records x ≢ None) → length xs + count ≤ degree s.records node
          → P
      by [] walk live few = absurd (there walk)
      by (y ∷ later) walk live few = found later (subst (λ z. IsWalk (next_of now.records node) at (z ∷ later)) (sym walk.0) walk)
          (λ x i. live x (subst (λ z. In x (z ∷ later)) walk.0 i)) (omega arith)

  pub rest_live : rel_at s.records at ≢ None
  rest_live = rest_first (λ later walk live few. live at (inl refl))

  pub rest_over : degree s.records node ≤ count → ⊥
  rest_over all = rest_first (λ later walk live few. omega arith)

  pub rest_next : (end : State) (next : ℕ) → ((rest : List ℕ) → IsWalk (next_of now.records node) at (at ∷ rest) → IsWalk (next_of end.records node) next rest)
      → HasRest s end node next (count + 1)
  rest_next end next onward = rest_first (λ later walk live few. record { rest = later; walk = onward later walk; live = λ x i. live x (inr i); few = few })
