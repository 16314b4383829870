-- A group that is made keeps the rules, but that it is empty.
use Rattle.std.proofs.Common.{◌≡◌, ◌≢◌, ◌⊎◌, ℕ, ◌+◌, ◌<◌, ◌≤◌, ◌^◌, nat_eq, nat_lt, not, Bool, true, false, cond, ◌&&◌}
use Rattle.std.proofs.Common.{◌||◌, Option, None, Some, List, [], ◌∷◌, sym, ap, ◌∙◌, subst, inl, inr, ⊎_elim, arith}
use Rattle.std.proofs.Common.{refl}
use Rattle.std.specs.List.{list_any}
use Rattle.std.proofs.lemmas.Bool.{cases_lt, eqb-true}
use Rattle.std.proofs.lemmas.Bool.Decides.{nat_tests}
use Rattle.id_freelist.specs.FreeLists.{IsFreeList}
use Rattle.id_freelist.specs.Taking.{CanTake, HasTaken, free_taken, mark_taken, taken}
use Rattle.id_freelist.proofs.Making.{is_made}
use Rattle.id_freelist.proofs.Splits.{can_take}
use Rattle.rec_bytes.specs.declared.key.Key.{Key}
use Rattle.rec_bytes.specs.declared.record.Rec.{Rec}
use Rattle.rec_bytes.specs.declared.shape.Shape.{Shape}
use Rattle.rec_bytes.specs.Format as format
use Rattle.rec_bytes.specs.Meta as metas
use Rattle.rec_bytes.specs.Record.{field, zeros}
use Rattle.rec_bytes.specs.RecordFiles.{is_meta_file, room_of}
use Rattle.rec_bytes.specs.Space.{State, after_get, after_put, after_set, meta_of}
use Rattle.rec_bytes.specs.Tables.{is_clear}
use Rattle.rec_bytes.proofs.Numbers.{field-lt}
use Rattle.rec_bytes.proofs.Spaces.{put_other, put_same}
use Rattle.rec_bytes.proofs.Tables.{field-with_fields_other}
use Rattle.rel_store.proofs.RelRecords.{byte-zeros}
use Rattle.store_rules.specs.Chains.{In, IsChain, next_in, prev_in}
use Rattle.store_rules.specs.Ranges.{Fits, bytes_of, is_in, layout_by, may, must}
use Rattle.store_rules.specs.Rules.{HasCounts, HasGroups, Head, IsEnd, IsInGroup, IsListed, KeepsGroups, Owns, first_of, is_filled}
use Rattle.store_rules.specs.Views as views
use Rattle.store_rules.specs.Views.{Records, RelRow, first_link, group_at, group_in, high, is_group_kind, key_in, kind_at, kind_in, rec_at, rel_at, row_if}
use Rattle.store_rules.proofs.ChainLaws.{chain_stays, walk_of_chain}
use Rattle.store_rules.proofs.Changes as ch
use Rattle.store_rules.proofs.Frames.{kind_same}
use Rattle.store_rules.proofs.GroupLaws.{IsFirstPlace, same_group}
use Rattle.store_rules.proofs.LinkFits.{IsLow}
use Rattle.store_rules.proofs.Made.{IsMade}
use Rattle.store_rules.proofs.NumberLaws.{eq_true, lt_true, nat_cases}
use Rattle.store_rules.proofs.Shapes.{high_most, room_most, room_small}
use Rattle.store_rules.proofs.ViewLaws.{group_used, kind_below, kind_by, kind_low, row_none, some_row}
use Rattle.chain_edit.specs.Chains.{next_of, prev_of}
use Rattle.store_rules.proofs.ChainSteps.{first_in, on_test}
use Rattle.group_store.specs.declared.group_row.GroupRow.{GroupRow}
use Rattle.group_store.specs.GroupChain.{IsGroupChain, IsGroupOf, LacksGroup, next_group, type_of}
use Rattle.group_store.specs.GroupRecord.{count_in, group_key}
use Rattle.group_store.specs.Links.{backed}
use Rattle.group_store.specs.Making.{HasMade, empty_fields, empty_group, empty_row, led}
use Rattle.group_store.specs.Leaving.{LeavesOthers}
use Rattle.group_store.specs.Spreading.{AreExactBut, HasCountedGroups, HasOpened, IsLinkedBut, KeepsBut, StandsBut, counted_rels, left_out}
use Rattle.group_store.proofs.CountedRels.{counted_here, counts_by, none_counted}
use Rattle.group_store.proofs.GroupRecords.{group_below}
use Rattle.group_store.proofs.GroupRules.{HasGroups-IsGroupChain, IsGroupChain-HasGroups, group_of_row, row_of_group}
use Rattle.group_store.proofs.GroupSteps.{HasStepped, step_first, step_previous}
use Rattle.group_store.proofs.Makes.{group_stays, has_made, kind-empty_group, meta_stays, new, number-empty_group}
use Rattle.group_store.proofs.Regrouping as re
use Rattle.group_store.proofs.Regrouping.{IsFrame, others_stay, regroups_of}

-- ---- what a head lists, in other words

-- where the chain is as it was
pub listed_again : (s t : Records) (h : Head) (n : ℕ) (at at' : ℕ → Type 0)
    → ((x : ℕ) → rec_at t format.relationships_file x ≡ rec_at s format.relationships_file x) → first_of t h ≡ first_of s h
    → ((x : ℕ) → at x → at' x) → ((x : ℕ) → at' x → at x) → IsListed s h n at → IsListed t h n at'
listed_again s t h n at at' rels first there back l = record {
  members = l.members;
  chain = subst (λ f. IsChain (next_of t n) (prev_of t n) format.nil f l.members) (sym first)
      (chain_stays (next_of s n) (prev_of s n) (next_of t n) (prev_of t n) format.nil (first_of s h) l.members
      (λ x i. ap (λ r. next_in r n) (rels x)) (λ x i. ap (λ r. prev_in r n) (rels x)) l.chain);
  only = λ x i. there x (l.only x i);
  all = λ x a. l.all x (back x a);
}

-- where the head's group is as it was, and no fewer are apart
pub stands_again : (rels : ℕ → Option RelRow) (groups now : ℕ → Option views.GroupRow) (node : ℕ) (rest : List ℕ) (h : Head) (x : ℕ)
    → (h.key.file ≡ format.groups_file → now h.key.id ≡ groups h.key.id)
    → StandsBut rels groups node rest h x → StandsBut rels now node rest h x
stands_again rels groups now node rest h x same b = record {
  stands = record {
    row = b.stands.row;
    live = b.stands.live;
    on = ⊎_elim (λ k. inl k) (λ (k : (h.key.file ≡ format.groups_file) × IsInGroup groups h b.stands.row). inr (
      k.0,
      record {
        row = k.1.row;
        group = same k.0
            ∙ k.1.group;
        label = k.1.label;
        side = k.1.side;
      },
    )) b.stands.on;
  };
  apart = λ o. b.apart (record { file = o.file; row = o.row; group = sym (same o.file) ∙ o.group; owner = o.owner });
}

-- ---- the record of an empty group

outside : (node label next i : ℕ) → list_any (is_in i) (bytes_of format.kind 1 ∷ bytes_of format.group_type 40 ∷ []) ≡ false
    → is_clear i 1 (empty_fields node label next) ≡ true
outside node label next i out = ⊎_elim (λ (low : i < 4). grind (arith, nat_tests)) (λ (high : 4 ≤ i). grind (arith, nat_tests)) (cases_lt i 4)

-- it fits where its owner and the group after it are below their marks
pub empty_fits : (marks : ℕ → ℕ) (node label next : ℕ) → node < 2 ^ 32 → label < 2 ^ 32 → next < 2 ^ 32 → node < marks format.nodes_file
    → IsLow (marks format.groups_file) next → Fits marks format.groups_file (empty_group node label next)
empty_fits marks node label next a b c owner low = record {
  layout = record {
    pointers = must format.group_owner format.nodes_file ∷ may format.group_previous format.groups_file ∷ may format.group_next format.groups_file
        ∷ may format.group_first_out format.relationships_file ∷ may format.group_first_in format.relationships_file
        ∷ may format.group_first_loop format.relationships_file ∷ [];
    used = bytes_of format.kind 1 ∷ bytes_of format.group_type 40 ∷ [];
  };
  is = ap (layout_by format.groups_file (empty_group node label next)) (kind-empty_group node label next a b c);
  point = rw (
    number-empty_group node label next format.group_owner node a b c refl,
    number-empty_group node label next format.group_previous format.nil a b c refl,
    number-empty_group node label next format.group_next next a b c refl,
    number-empty_group node label next format.group_first_out format.nil a b c refl,
    number-empty_group node label next format.group_first_in format.nil a b c refl,
    number-empty_group node label next format.group_first_loop format.nil a b c refl,
    lt_true node (marks format.nodes_file) owner,
  )
      (all_open (nat_lt format.nil (marks format.groups_file)) (nat_lt next (marks format.groups_file)) (nat_eq next format.nil)
      (nat_lt format.nil (marks format.relationships_file))
      (⊎_elim (λ (e : next ≡ format.nil). or_right (nat_lt next (marks format.groups_file)) (nat_eq next format.nil) (eq_true next format.nil e))
      (λ (lt : next < marks format.groups_file). or_left (nat_lt next (marks format.groups_file)) (nat_eq next format.nil)
      (lt_true next (marks format.groups_file) lt)) low));
  blank = λ i lt out. field-with_fields_other 1 zeros (empty_fields node label next) i (omega arith) (outside node label next i out) ∙ byte-zeros i lt;
}
  where
    or_left : (x y : Bool) → x ≡ true → (x || y) ≡ true
    or_left x y e = rw e refl

    or_right : (x y : Bool) → y ≡ true → (x || y) ≡ true
    or_right true y e = refl
    or_right false y e = e

    all_open : (g l n r : Bool) → (l || n) ≡ true → ((g || true) && ((l || n) && ((r || true) && ((r || true) && ((r || true) && true))))) ≡ true
    all_open true l n true e = rw e refl
    all_open true l n false e = rw e refl
    all_open false l n true e = rw e refl
    all_open false l n false e = rw e refl

-- ---- the links that lead to it

back_stepped : (s : Records) (m : State) (shape : Shape) (node first id : ℕ) → HasStepped s m.records shape node
    → (first ≢ format.nil → is_group_kind (kind_at m.records format.groups_file first) ≡ true) → IsLow (high m.records format.groups_file) id
    → HasStepped s (backed m first id).records shape node × IsLow (high (backed m first id).records format.groups_file) id
unfolding backed
back_stepped s m shape node first id h kind low =
    on_test (λ (q : State). HasStepped s q.records shape node × IsLow (high q.records format.groups_file) id) first format.nil m
    (after_set m (group_key first) 4 format.group_previous id)
    (λ _. (h, low)) (λ some. (step_previous s m.records shape node h first id (kind some) low, low))

led_shape : (u : State) (node first id : ℕ) (rec : Rec) → (led u node first id rec).shape ≡ u.shape
unfolding led backed
led_shape u node first id rec = on_test (λ (q : State). q.shape ≡ u.shape) first format.nil (after_put u (group_key id) rec)
    (after_set (after_put u (group_key id) rec) (group_key first) 4 format.group_previous id) (λ _. refl) (λ _. refl)

module _ (s u : State) (node label id : ℕ) (rest : List ℕ) (most : ℕ) (empty : List ℕ) (keeps : KeepsBut s.records s.shape node rest most empty)
    (dense : kind_at s.records format.nodes_file node ≡ format.dense) (lacks : LacksGroup s.records node label)
    (took : (free : List ℕ) → IsFreeList s.records format.groups_file free → HasTaken s.records u.records format.groups_file id free)
    (fresh : kind_at s.records format.groups_file id ≡ 0) (small : id < room_of s.shape format.groups_file) (small_node : node < 2 ^ 32)
    (small_label : label < 2 ^ 32) where
  abbrev free : List ℕ
  free = (keeps.others.split format.groups_file refl).0

  abbrev has : HasGroups (first_link s.records node) node (rec_at s.records format.groups_file) (group_at s.records) empty
  has = keeps.grouped.each node dense

  abbrev xs : List ℕ
  xs = has.members

  abbrev first : ℕ
  first = first_link s.records node

  abbrev rec : Rec
  rec = empty_group node label first

  abbrev now : State
  now = led u node first id rec

  chain : IsGroupChain s.records node xs
  chain = IsGroupChain-HasGroups s.records s.shape node keeps.others.ranges has

  can : CanTake s format.groups_file free
  can = can_take s format.groups_file free (keeps.others.ranges.metas format.groups_file refl).high (keeps.others.split format.groups_file refl).1

  has_taken : HasTaken s.records u.records format.groups_file id free
  has_taken = took free can.list

  key_small : id < 2 ^ 25
  key_small = let le = room_most s.records s.shape format.groups_file keeps.others.ranges in omega arith

  small_first : first < 2 ^ 32
  small_first = field-lt 4 (rec_at s.records format.nodes_file node) format.node_first_link

  made : HasMade s.records now.records node label (empty_row id label) free xs
  made = has_made s u node label id free xs chain (λ g i. lacks g (chain.only g i)) can has_taken fresh key_small small_node small_label

  -- ---- the record is put
  abbrev m : State
  m = after_put u (group_key id) rec

  is_put : IsMade s.records m.records s.shape format.groups_file id rec
  is_put = is_made s.records u.records m.records s.shape format.groups_file id free rec refl (keeps.others.split format.groups_file refl).1 has_taken
      (put_same u.records (group_key id) rec) (λ key ne. put_other u.records (group_key id) rec key ne)
      (λ e. let k = sym (kind-empty_group node label first small_node small_label small_first) ∙ e in omega arith) small
      (room_small s.records s.shape format.groups_file keeps.others.ranges) (keeps.others.ranges.metas format.groups_file refl)

  node_low : node < high s.records format.nodes_file
  node_low = kind_below (high s.records format.nodes_file) (rec_at s.records format.nodes_file node) node (λ e. let k = sym e ∙ dense in omega arith)

  first_group : first ≢ format.nil → IsGroupOf s.records node first
  first_group some = ⊎_elim (λ e. absurd (some e)) (λ i. chain.only first i)
      (first_in (next_group s.records) first xs (walk_of_chain _ _ format.nil first xs chain.chain))

  not_id : (g : ℕ) → kind_at s.records format.groups_file g ≢ 0 → g ≢ id
  not_id g used e = used (ap (kind_at s.records format.groups_file) e ∙ fresh)

  put_low : IsLow (high m.records format.groups_file) first
  put_low = ⊎_elim (λ e. inl e)
      (λ some. let k = (first_group some).kind in
      let lt = kind_below (high s.records format.groups_file) (rec_at s.records format.groups_file first) first
      (group_used (kind_at s.records format.groups_file first) k) in
      let le = is_put.change.more in inr (omega arith)) (nat_cases first format.nil)

  put_record : (f x : ℕ) → is_meta_file f ≡ true → f ≢ format.groups_file → rec_at m.records f x ≡ rec_at s.records f x
  put_record f x is ne = ch.other_record s.records m.records format.groups_file id is_put.change f x is (λ e. absurd (ne e))

  put_frame : IsFrame s.records m.records node
  put_frame = record {
    others = λ key a b c d. is_put.change.others key d (λ e. c (ap (λ (k : Key). k.file) e));
    nodes = λ x n at inside one apart. ap (λ r. field n r at) (put_record format.nodes_file x refl (λ e. omega arith));
    kinds = λ x ne. node_kind x;
    here = inl (node_kind node);
    rels = λ x n at inside apart. ap (λ r. field n r at) (put_record format.relationships_file x refl (λ e. omega arith));
  }
    where
      node_kind : (x : ℕ) → kind_at m.records format.nodes_file x ≡ kind_at s.records format.nodes_file x
      node_kind = kind_same s.records m.records format.nodes_file (ch.same_file s.records m.records format.groups_file id is_put.change format.nodes_file refl
          (λ e. omega arith))

  put_stepped : HasStepped s.records m.records s.shape node
  put_stepped = record {
    frame = put_frame;
    ranges = ch.in_range s.records m.records format.groups_file id is_put.change s.shape is_put.meta
        (λ _. subst (Fits (high m.records) format.groups_file) (sym is_put.here)
        (empty_fits (high m.records) node label first small_node small_label small_first (let e = re.mark_same s.records m.records node put_frame
        format.nodes_file (λ e. omega arith) in let lt = node_low in omega arith) put_low)) keeps.others.ranges;
    free = is_put.free;
    split = is_put.split;
  }

  -- ---- it is linked
  linked : HasStepped s.records (backed m first id).records s.shape node × IsLow (high (backed m first id).records format.groups_file) id
  linked = back_stepped s.records m s.shape node first id put_stepped
      (λ some. let k = (first_group some).kind in ap is_group_kind (ch.kind_other s.records m.records format.groups_file id is_put.change first
      (not_id first (group_used (kind_at s.records format.groups_file first) k))) ∙ k) (inr is_put.below)

  stepped : HasStepped s.records now.records s.shape node
  unfolding led
  stepped = step_first s.records (backed m first id).records s.shape node linked.0 id
      (re.dense_same s.records (backed m first id).records node linked.0.frame node dense) linked.1

  -- ---- the groups
  number : (g n at : ℕ) → at + n ≤ 64 → g ≢ id → (g ≡ first → (at + n ≤ 12) ⊎ (16 ≤ at))
      → field n (rec_at now.records format.groups_file g) at ≡ field n (rec_at s.records format.groups_file g) at
  unfolding new
  number g n at inside ne apart = group_stays u node first id rec g n at inside ne apart
      ∙ ap (λ r. field n r at) (has_taken.others (group_key g) (λ e. let f = ap (λ (k : Key). k.file) e in absurd (omega arith)))

  mark : high now.records format.groups_file ≡ high m.records format.groups_file
  unfolding new
  mark = ap (λ r. (metas.meta_of r).high) (meta_stays u node first id rec)

  kind_stays : (g : ℕ) → g ≢ id → kind_at now.records format.groups_file g ≡ kind_at s.records format.groups_file g
  kind_stays g ne = ap (λ q. kind_in q (rec_at now.records format.groups_file g) g) mark
      ∙ kind_by (high m.records format.groups_file) (rec_at now.records format.groups_file g) (rec_at m.records format.groups_file g) g
      (number g 1 format.kind (omega arith) ne (λ _. inl (omega arith)) ∙ ap (λ r. field 1 r format.kind)
      (sym (ch.other_record s.records m.records format.groups_file id is_put.change format.groups_file g refl (λ _. ne))))
      ∙ ch.kind_other s.records m.records format.groups_file id is_put.change g ne

  group_stays_at : (g : ℕ) → g ≢ id → group_at now.records g ≡ group_at s.records g
  group_stays_at g ne = λ i. row_if (kind_stays g ne i) (record {
    id = g;
    label = number g 4 format.group_type (omega arith) ne (λ _. inl (omega arith)) i;
    owner = number g 4 format.group_owner (omega arith) ne (λ _. inl (omega arith)) i;
  })

  abbrev row : views.GroupRow
  row = record { id = id; label = label; owner = node }

  is_new : group_at now.records id ≡ Some row
  is_new = row_of_group now.records node id member ∙ (λ i. Some (record {
    id = id;
    label = ap (λ (r : GroupRow). r.label) made.here i;
    owner = member.owner i;
  }))
    where
      member : IsGroupOf now.records node id
      member = made.chain.only id (inl refl)

  was_none : group_at s.records id ≡ None
  was_none = row_none (kind_at s.records format.groups_file id) (group_in (rec_at s.records format.groups_file id) id) fresh

  old_group : (g : ℕ) (q : views.GroupRow) → group_at s.records g ≡ Some q → g ≢ id
  old_group g q is e = absurd (let z : None ≡ Some q = sym was_none ∙ ap (group_at s.records) (sym e) ∙ is in cc)

  rels_stay : (x : ℕ) → rec_at now.records format.relationships_file x ≡ rec_at s.records format.relationships_file x
  rels_stay x = made.stays (key_in format.relationships_file x) (λ e. let f = ap (λ (k : Key). k.file) e in absurd (omega arith))
      (λ e. let f = ap (λ (k : Key). k.file) e in absurd (omega arith))
      (λ e. let f = ap (λ (k : Key). k.file) e in absurd (omega arith)) (λ e. let f = ap (λ (k : Key). k.file) e in absurd (omega arith))

  first_stays : (n : ℕ) → n ≢ node → first_link now.records n ≡ first_link s.records n
  first_stays n ne = ap (λ r. field 4 r format.node_first_link) (made.stays (key_in format.nodes_file n) (λ e. let f = ap (λ (k : Key). k.file) e in absurd
      (omega arith)) (λ e. ne (ap (λ (k : Key). k.id) e))
      (λ e. let f = ap (λ (k : Key). k.file) e in absurd (omega arith)) (λ e. let f = ap (λ (k : Key). k.file) e in absurd (omega arith)))

  abbrev rels : ℕ → Option RelRow
  rels = rel_at s.records

  -- a head whose group was there
  listed_old : (h : Head) (n : ℕ) → Owns (kind_at s.records format.nodes_file) (group_at s.records) h n → first_of now.records h ≡ first_of s.records h
      → (h.key.file ≡ format.groups_file → h.key.id ≢ id)
      → IsListed now.records h n (StandsBut rels (group_at now.records) node rest h)
  listed_old h n o first_is ne = listed_again s.records now.records h n (StandsBut rels (group_at s.records) node rest h)
      (StandsBut rels (group_at now.records) node rest h) rels_stay first_is
      (λ x. stands_again rels (group_at s.records) (group_at now.records) node rest h x (λ f. group_stays_at h.key.id (ne f)))
      (λ x. stands_again rels (group_at now.records) (group_at s.records) node rest h x (λ f. sym (group_stays_at h.key.id (ne f))))
      (keeps.linked.listed.each h n o)

  -- nothing stands at the new group
  none_stands : (h : Head) (x : ℕ) → h.key ≡ key_in format.groups_file id → StandsBut rels (group_at now.records) node rest h x → ⊥
  none_stands h x key b =
      let here : group_at now.records h.key.id ≡ Some row = ap (λ (k : Key). group_at now.records k.id) key ∙ is_new in
      let out : ¬ In x rest = b.apart (record { file = ap (λ (k : Key). k.file) key; row = row; group = here; owner = refl }) in
      ⊎_elim
      (λ (k : (h.key.file ≡ format.nodes_file) × IsEnd h.key.id b.stands.row). let f = k.0 in let g = ap (λ (z : Key). z.file) key in omega arith)
      (λ (k : (h.key.file ≡ format.groups_file) × IsInGroup (group_at now.records) h b.stands.row).
      let same : k.1.row ≡ row = same_group k.1.row row (sym k.1.group ∙ here) in
      let owner : k.1.row.owner ≡ node = ap (λ (r : views.GroupRow). r.owner) same in
      let end : IsEnd node b.stands.row = ⊎_elim (λ j. inl (j.1 ∙ owner)) (λ j. ⊎_elim (λ l. inr (l.2 ∙ owner)) (λ l. inl (l.1 ∙ owner)) j) k.1.side in
      let group = keeps.linked.typed x node b.stands.row b.stands.live end dense (λ _. out) in
      lacks group.row.id (group_of_row s.records s.shape node group.row.id group.row keeps.others.ranges group.group group.owner)
      (type_is group.row.id group.row group.group ∙ group.label ∙ k.1.label ∙ ap (λ (r : views.GroupRow). r.label) same)) b.stands.on
    where
      type_is : (g : ℕ) (q : views.GroupRow) → group_at s.records g ≡ Some q → type_of s.records g ≡ q.label
      type_is g q is = ap (λ (r : views.GroupRow). r.label) (some_row (kind_at s.records format.groups_file g) (group_in (rec_at s.records format.groups_file g)
          g) q is).1

  listed_new : (h : Head) (n : ℕ) → h.key ≡ key_in format.groups_file id → IsFirstPlace h.field
      → IsListed now.records h n (StandsBut rels (group_at now.records) node rest h)
  listed_new h n key place = record {
    members = [];
    chain = ap (λ (k : Key). field 4 (now.records k) h.field) key ∙ none;
    only = λ x i. elim i [ ];
    all = λ x b. absurd (none_stands h x key b);
  }
    where
      none : field 4 (rec_at now.records format.groups_file id) h.field ≡ format.nil
      none = ⊎_elim (λ (e : h.field ≡ format.group_first_out). ap (field 4 (rec_at now.records format.groups_file id)) e ∙ ap (λ (r : GroupRow). r.first_out)
          made.here)
          (λ k. ⊎_elim (λ (e : h.field ≡ format.group_first_in). ap (field 4 (rec_at now.records format.groups_file id)) e ∙ ap (λ (r : GroupRow). r.first_in)
          made.here)
          (λ (e : h.field ≡ format.group_first_loop). ap (field 4 (rec_at now.records format.groups_file id)) e ∙ ap (λ (r : GroupRow). r.first_loop) made.here)
          k) place

  listed : (h : Head) (n : ℕ) → Owns (kind_at now.records format.nodes_file) (group_at now.records) h n
      → IsListed now.records h n (StandsBut rels (group_at now.records) node rest h)
  listed h n (inl o) =
      let was = re.sparse_was s.records now.records node stepped.frame n o.sparse in
      let ne : n ≢ node = λ e. let z = sym was ∙ ap (kind_at s.records format.nodes_file) e ∙ dense in omega arith in
      listed_old h n (inl (record { sparse = was; is = o.is })) (ap (first_of now.records) o.is ∙ first_stays n ne ∙ ap (first_of s.records) (sym o.is))
      (λ f. let g = ap (λ (z : Head). z.key.file) o.is in absurd (omega arith))
  listed h n (inr o) = ⊎_elim
      (λ (e : o.row.id ≡ id). listed_new h n (o.key ∙ ap (key_in format.groups_file) e) o.field)
      (λ (ne : o.row.id ≢ id).
      let apart : (h.key.file ≡ format.groups_file) → h.key.id ≢ id = λ _ e. ne (sym (ap (λ (k : Key). k.id) o.key) ∙ e) in
      listed_old h n (inr (record {
        dense = re.dense_was s.records now.records node stepped.frame dense n o.dense;
        row = o.row;
        group = sym
            (group_stays_at o.row.id ne) ∙ o.group;
        owner = o.owner;
        key = o.key;
        field = o.field;
      }))
      (ap (λ (k : Key). field 4 (now.records k) h.field) o.key ∙ first_same o.row.id h.field ne o.field ∙ ap (λ (k : Key). field 4 (s.records k) h.field)
      (sym o.key)) apart) (nat_cases o.row.id id)
    where
      first_same : (g at : ℕ) → g ≢ id → IsFirstPlace at → field 4 (rec_at now.records format.groups_file g) at ≡ field 4
          (rec_at s.records format.groups_file g) at
      first_same g at ne place = number g 4 at within.0 ne (λ _. inr within.1)
        where
          within : (at + 4 ≤ 64) × (16 ≤ at)
          within = ⊎_elim (λ (e : at ≡ 20). (omega arith, omega arith))
              (λ k. ⊎_elim (λ (e : at ≡ 24). (omega arith, omega arith)) (λ (e : at ≡ 28). (omega arith, omega arith)) k) place

  linked_now : IsLinkedBut now.records (kind_at now.records format.nodes_file) rels (group_at now.records) node rest
  linked_now = record {
    ends = λ x q e. let k = keeps.linked.ends x q e in record {
      from = re.used_same s.records now.records node stepped.frame q.from k.from;
      to = re.used_same
          s.records now.records node stepped.frame q.to k.to;
    };
    typed = λ x n q e end d apart. let k = keeps.linked.typed x n q e end (re.dense_was s.records now.records node stepped.frame dense n d) apart in
        record { row = k.row; group = group_stays_at k.row.id (old_group k.row.id k.row k.group) ∙ k.group; owner = k.owner; label = k.label };
    listed = record { each = listed };
  }

  filled_stays : (g : ℕ) → g ≢ id → is_filled (rec_at now.records format.groups_file g) ≡ is_filled (rec_at s.records format.groups_file g)
  filled_stays g ne =
      let a = number g 4 20 (omega arith) ne (λ _. inr (omega arith)) in
      let b = number g 4 24 (omega arith) ne (λ _. inr (omega arith)) in
      let c = number g 4 28 (omega arith) ne (λ _. inr (omega arith)) in
      λ i. not (nat_eq (a i) format.nil && (nat_eq (b i) format.nil && nat_eq (c i) format.nil))

  grouped_now : KeepsGroups now.records
      (id ∷ empty)
  grouped_now = record {
    owned = λ g q e. ⊎_elim
        (λ (k : g ≡ id). let same : q ≡ row = same_group q row (sym e ∙ ap (group_at now.records) k ∙ is_new) in
        re.dense_same s.records now.records node stepped.frame q.owner (ap (λ (r : views.GroupRow). kind_at s.records format.nodes_file r.owner) same ∙ dense))
        (λ (ne : g ≢ id). re.dense_same s.records now.records node stepped.frame q.owner (keeps.grouped.owned g q (sym (group_stays_at g ne) ∙ e)))
        (nat_cases g id);
    each = λ n d. ⊎_elim
        (λ (e : n ≡ node). subst (λ z. HasGroups (first_link now.records z) z (rec_at now.records format.groups_file) (group_at now.records) (id ∷ empty))
        (sym e)
        (HasGroups-IsGroupChain now.records s.shape node (id ∷ xs) (id ∷ empty) stepped.ranges made.chain
        (λ g i. ⊎_elim (λ (k : g ≡ id). inr (inl k)) (λ (j : In g xs). still node g has (chain.only g j) j) i)))
        (λ (ne : n ≢ node).
        let old = keeps.grouped.each n (re.dense_was s.records now.records node stepped.frame dense n d) in
        let other = IsGroupChain-HasGroups s.records s.shape n keeps.others.ranges old in
        HasGroups-IsGroupChain now.records s.shape n old.members (id ∷ empty) stepped.ranges (made.others n old.members ne other)
        (λ g i. still n g old (other.only g i) i)) (nat_cases n node);
  }
    where
      still : (n g : ℕ) (old : HasGroups (first_link s.records n) n (rec_at s.records format.groups_file) (group_at s.records) empty) → IsGroupOf s.records n g
          → In g old.members
          → (is_filled (rec_at now.records format.groups_file g) ≡ true) ⊎ In g (id ∷ empty)
      still n g old is i = ⊎_elim (λ f. inl (filled_stays g (not_id g (group_used (kind_at s.records format.groups_file g) is.kind)) ∙ f)) (λ j. inr (inr j))
          (old.filled g i)

  -- ---- the numbers
  kind_new : kind_at now.records format.groups_file id ≡ format.counted
  kind_new = kind_low (high now.records format.groups_file) (rec_at now.records format.groups_file id) id
      (group_below now.records node id (made.chain.only id (inl refl))) ∙ eqb-true _ _ (ap (λ (r : GroupRow). r.counted) made.here)

  count_zero : (at : ℕ) → count_in (rec_at now.records format.groups_file id) at ≡ 0 → field 4 (rec_at now.records format.groups_file id) at ≡ 0
  count_zero at zero = sym (ap (λ b. cond b (field 4 (rec_at now.records format.groups_file id) at) 0) (ap (λ (r : GroupRow). r.counted) made.here)) ∙ zero

  none_typed : (x : ℕ) (q : RelRow) → rels x ≡ Some q → ¬ In x rest → q.label ≡ label → IsEnd node q → ⊥
  none_typed x q live out typed end =
      let group = keeps.linked.typed x node q live end dense (λ _. out) in
      lacks group.row.id (group_of_row s.records s.shape node group.row.id group.row keeps.others.ranges group.group group.owner)
      (ap (λ (r : views.GroupRow). r.label) (some_row (kind_at s.records format.groups_file group.row.id)
      (group_in (rec_at s.records format.groups_file group.row.id) group.row.id) group.row group.group).1 ∙ group.label ∙ typed)

  exact_now : AreExactBut s.records node rest → AreExactBut now.records node rest
  exact_now old k q is kind = ⊎_elim
      (λ (e : k ≡ id).
      let same : row ≡ q = same_group row q (sym is_new ∙ ap (group_at now.records) (sym e) ∙ is) in
      subst (λ z. HasCounts (rec_at now.records format.groups_file z) q (counted_rels node rest (rel_at now.records) q.owner)
      (high now.records format.relationships_file)) (sym e)
      (subst (λ (z : views.GroupRow). HasCounts (rec_at now.records format.groups_file id) z (counted_rels node rest (rel_at now.records) z.owner)
      (high now.records format.relationships_file)) same
      (subst (λ (f : ℕ → Option RelRow). HasCounts (rec_at now.records format.groups_file id) row f (high now.records format.relationships_file))
      (sym (counted_here node node rest (rel_at now.records) refl))
      (subst (λ (f : ℕ → Option RelRow). HasCounts (rec_at now.records format.groups_file id) row (left_out rest f)
      (high now.records format.relationships_file)) (sym (re.rels_same s.records now.records node stepped.frame))
      (none_counted (rec_at now.records format.groups_file id) row rels rest (high now.records format.relationships_file)
      (count_zero format.group_out_count (ap (λ (r : GroupRow). r.out_count) made.here))
      (count_zero format.group_in_count (ap (λ (r : GroupRow). r.in_count) made.here))
      (count_zero format.group_loop_count (ap (λ (r : GroupRow). r.loop_count) made.here)) none_typed)))))
      (λ (ne : k ≢ id).
      counts_by (rec_at s.records format.groups_file k) (rec_at now.records format.groups_file k) q (counted_rels node rest rels q.owner)
      (counted_rels node rest (rel_at now.records) q.owner) (high s.records format.relationships_file) (high now.records format.relationships_file)
      (λ at within. number k 4 at (let b = within.1 in omega arith) ne (λ _. inr (let b = within.0 in omega arith)))
      (λ i. counted_rels node rest (re.rels_same s.records now.records node stepped.frame i) q.owner)
      (re.mark_same s.records now.records node stepped.frame format.relationships_file (λ e. omega arith))
      (old k q (sym (group_stays_at k ne) ∙ is) (sym (kind_stays k ne) ∙ kind))) (nat_cases k id)

  counted_now : HasCountedGroups s.records node → HasCountedGroups now.records node
  counted_now old k q is owner = ⊎_elim (λ (e : k ≡ id). ap (kind_at now.records format.groups_file) e ∙ kind_new)
      (λ (ne : k ≢ id). kind_stays k ne ∙ old k q (sym (group_stays_at k ne) ∙ is) owner) (nat_cases k id)

  shape_is : u.shape ≡ s.shape → now.shape ≡ s.shape
  shape_is e = led_shape u node first id rec ∙ e

  -- ---- what is left of other records
  key_far : (f x h y : ℕ) → f ≢ h → key_in f x ≢ key_in h y
  key_far f x h y ne e = ne (ap (λ (k : Key). k.file) e)

  -- a group of another node isn't the first of this one
  not_first : (g : ℕ) (q : views.GroupRow) → group_at s.records g ≡ Some q → q.owner ≢ node → g ≢ first
  not_first g q is ne e =
      let found = some_row (kind_at s.records format.groups_file g) (group_in (rec_at s.records format.groups_file g) g) q is in
      let lt = kind_below (high s.records format.groups_file) (rec_at s.records format.groups_file g) g found.0 in
      let le = high_most s.records s.shape format.groups_file keeps.others.ranges refl in
      ne (sym (ap (λ (r : views.GroupRow). r.owner) found.1) ∙ ap (λ k. field 4 (rec_at s.records format.groups_file k) format.group_owner) e ∙
      (first_group (λ none. absurd (let z = e ∙ none in omega arith))).owner)

  leaves_now : LeavesOthers s now node
  leaves_now = record {
    files = λ key a b c d. stepped.frame.others key a b c d;
    nodes = λ x n at inside ne. ap (λ r. field n r at) (made.stays (key_in format.nodes_file x)
        (key_far format.nodes_file x format.meta_file format.groups_file (λ e. omega arith)) (λ e. ne (ap (λ (k : Key). k.id) e))
        (key_far format.nodes_file x format.groups_file id (λ e. omega arith)) (key_far format.nodes_file x format.groups_file first (λ e. omega arith)));
    here = λ n at inside one apart. stepped.frame.nodes node n at inside one apart;
    rels = λ x n at some inside beside. ap (λ r. field n r at) (made.stays (key_in format.relationships_file x)
        (key_far format.relationships_file x format.meta_file format.groups_file (λ e. omega arith))
        (key_far format.relationships_file x format.nodes_file node (λ e. omega arith))
        (key_far format.relationships_file x format.groups_file id (λ e. omega arith))
        (key_far format.relationships_file x format.groups_file first (λ e. omega arith)));
    groups = λ g q is ne n at inside. number g n at inside (old_group g q is) (λ e. absurd (not_first g q is ne e));
  }

  -- ---- all of it
  pub made_rules : u.shape ≡ s.shape → KeepsBut now.records now.shape node rest most (id ∷ empty) × HasOpened s now node label id rest
  made_rules shape =
      let keeps_now : KeepsBut now.records s.shape node rest most (id ∷ empty) = record {
        others = others_stay s.records now.records node stepped.frame s.shape most keeps.others stepped.ranges stepped.free stepped.split;
        linked = subst (λ (r : ℕ → Option RelRow). IsLinkedBut now.records (kind_at now.records format.nodes_file) r (group_at now.records) node rest)
            (sym (re.rels_same s.records now.records node stepped.frame)) linked_now;
        grouped = grouped_now;
      } in (
        subst (λ (q : Shape). KeepsBut now.records q node rest most (id ∷ empty)) (sym (shape_is shape)) keeps_now,
        record {
          group = is_new;
          dense = re.dense_same s.records now.records node stepped.frame node dense;
          regroups = regroups_of s now node stepped.frame (shape_is shape) (λ g q e _. group_stays_at g (old_group g q e) ∙ e);
          leaves = leaves_now;
          rels = rels_stay;
          exact = exact_now;
          counted = counted_now;
        },
      )

taken_shape : (s : State) (file : ℕ) → (taken s file).shape ≡ s.shape
unfolding mark_taken free_taken
taken_shape s file = on_test (λ (q : State). q.shape ≡ s.shape) (meta_of s file).free format.nil (mark_taken s file) (free_taken s file) (λ _. refl) (λ _. refl)

-- told by the space as it was, step by step
pub rules_made : (s now u end : State) (node label link id : ℕ) (rec : Rec) (row : GroupRow) → now ≡ after_get s
    → ((free : List ℕ) → IsFreeList now.records format.groups_file free → HasTaken now.records u.records format.groups_file id free)
    → kind_at now.records format.groups_file id ≡ 0
    → id < room_of now.shape format.groups_file → u ≡ taken now format.groups_file → link ≡ first_link s.records node → rec ≡ empty_group node label link
    → end ≡ led u node link id rec → row ≡ empty_row id label
    → node < 2 ^ 32 → label < 2 ^ 32 → (rest : List ℕ) (most : ℕ) (empty : List ℕ) → KeepsBut s.records s.shape node rest most empty
    → kind_at s.records format.nodes_file node ≡ format.dense → LacksGroup s.records node label
    → KeepsBut end.records end.shape node rest most (row.id ∷ empty) × HasOpened s end node label row.id rest
rules_made s now u end node label link id rec row read took fresh small at link_is rec_is is row_is small_node small_label rest most empty keeps dense lacks =
    let same : now.records ≡ s.records = ap (λ (t : State). t.records) read in
    let was = first_link s.records node in
    let end_is : led u node was id (empty_group node label was) ≡ end
    = sym (is ∙ ap (λ f. led u node f id rec) link_is ∙ ap (λ (r : Rec). led u node was id r) (rec_is ∙ ap (empty_group node label) link_is)) in
    let id_is : id ≡ row.id = sym (ap (λ (r : GroupRow). r.id) row_is) in
    subst (λ g. KeepsBut end.records end.shape node rest most (g ∷ empty) × HasOpened s end node label g rest) id_is
    (subst (λ (t : State). KeepsBut t.records t.shape node rest most (id ∷ empty) × HasOpened s t node label id rest) end_is
    (made_rules s u node label id rest most empty keeps dense lacks
    (λ free list. subst (λ (r : Records). HasTaken r u.records format.groups_file id free) same
    (took free (subst (λ (r : Records). IsFreeList r format.groups_file free) (sym same) list)))
    (ap (λ (r : Records). kind_at r format.groups_file id) (sym same) ∙ fresh)
    (subst (λ (q : Shape). id < room_of q format.groups_file) (ap (λ (t : State). t.shape) read) small) small_node small_label
    (ap (λ (q : State). q.shape) at ∙ taken_shape now format.groups_file ∙ ap (λ (t : State). t.shape) read)))
