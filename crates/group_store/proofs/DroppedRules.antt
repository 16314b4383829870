-- A store whose empty group is dropped keeps the rules, and its graph.
use Rattle.std.proofs.Common.{◌≡◌, ◌≢◌, ◌⊎◌, ℕ, ◌+◌, ◌<◌, ◌≤◌, nat_eq, Bool, true, false, not, ◌&&◌, Option, None, Some}
use Rattle.std.proofs.Common.{List, [], ◌∷◌, refl, sym, ap, ◌∙◌, subst, inl, inr, ⊎_elim, arith}
use Rattle.std.proofs.lemmas.Bool.{eqb-true, true≢false}
use Rattle.rec_bytes.specs.declared.key.Key.{Key}
use Rattle.rec_bytes.specs.declared.record.Rec.{Rec}
use Rattle.rec_bytes.specs.declared.shape.Shape.{Shape}
use Rattle.rec_bytes.specs.Format as format
use Rattle.rec_bytes.specs.Meta as metas
use Rattle.rec_bytes.specs.Record.{field, with_field}
use Rattle.rec_bytes.specs.RecordFiles.{meta_key_of}
use Rattle.rec_bytes.specs.Space.{State, after_get, after_set}
use Rattle.rec_bytes.proofs.Spaces.{put_other}
use Rattle.store_rules.specs.Chains.{In, IsChain, next_in, prev_in, without}
use Rattle.store_rules.specs.Ends.{Regroups}
use Rattle.store_rules.specs.Rules.{HasGroup, HasGroups, Head, IsEnd, IsInGroup, IsLinked, IsListed, IsSplit, KeepsCounts, KeepsGroups, KeepsRules, Owns}
use Rattle.store_rules.specs.Rules.{StandsAt, first_of, is_filled}
use Rattle.store_rules.specs.Views.{GroupRow, RelRow, first_link, group_at, group_in, high, is_group_kind, is_live, key_in, kind_at, kind_in, rec_at, rel_at}
use Rattle.store_rules.specs.Views.{row_if}
use Rattle.store_rules.proofs.Changes as ch
use Rattle.store_rules.proofs.Frames.{kind_same}
use Rattle.store_rules.proofs.GroupLaws.{IsFirstPlace}
use Rattle.store_rules.proofs.LinkFits.{IsLow}
use Rattle.store_rules.proofs.Made.{IsGone}
use Rattle.store_rules.proofs.NumberLaws.{nat_cases}
use Rattle.store_rules.proofs.Shapes.{room_most, room_small}
use Rattle.store_rules.proofs.ViewLaws.{kind_by, not_live, row_none, some_row, group_used}
use Rattle.id_freelist.specs.Giving.{CanGive, HasGiven}
use Rattle.id_freelist.proofs.FreeListLaws.{has_given}
use Rattle.id_freelist.proofs.Leaving.{is_gone, not_free_id}
use Rattle.node_store.specs.NodeRecord.{node_key}
use Rattle.store_rules.proofs.ChainSteps.{in_without, on_test}
use Rattle.chain_edit.proofs.LinkLaws.{field-set_other, set_at}
use Rattle.group_store.specs.declared.side.Side.{Side}
use Rattle.group_store.specs.declared.side.Side.TheVariants.{Out, In as Into, Loop}
use Rattle.group_store.specs.Dropping.{CanDrop, HasDropped, dropped, follows}
use Rattle.group_store.specs.GroupChain.{IsGroupChain, IsGroupOf, next_group, previous_group}
use Rattle.group_store.specs.GroupRecord.{group_key}
use Rattle.group_store.specs.Links.{backed, link_set}
use Rattle.group_store.specs.Sides.{group_head, place_of, side_at}
use Rattle.group_store.proofs.ChainHeads.{at_group}
use Rattle.group_store.proofs.Drops as d
use Rattle.group_store.proofs.GroupRecords.{group_below}
use Rattle.group_store.proofs.CountedRels.{counts_by}
use Rattle.group_store.proofs.GroupRules.{HasGroups-IsGroupChain, IsGroupChain-HasGroups, row_of_group}
use Rattle.group_store.proofs.GroupSteps as steps
use Rattle.group_store.proofs.GroupSteps.{HasStepped}
use Rattle.group_store.proofs.MadeRules.{listed_again}
use Rattle.group_store.proofs.Regrouping as fr
use Rattle.group_store.proofs.Regrouping.{IsFrame, KeepsRules-KeepsOthers, frame_both, frame_none}

-- an empty group has no chain
pub hollow_none : (r : Rec) → is_filled r ≡ false → (z : Side) → field 4 r (place_of z) ≡ format.nil
hollow_none r hollow z = by z (nat_eq (field 4 r format.group_first_out) format.nil) (nat_eq (field 4 r format.group_first_in) format.nil)
    (nat_eq (field 4 r format.group_first_loop) format.nil) refl refl refl hollow
  where
    by : (z : Side) (a b c : Bool) → nat_eq (field 4 r format.group_first_out) format.nil ≡ a → nat_eq (field 4 r format.group_first_in) format.nil ≡ b
        → nat_eq (field 4 r format.group_first_loop) format.nil ≡ c
        → not (a && (b && c)) ≡ false → field 4 r (place_of z) ≡ format.nil
    by Out true b c e f g h = eqb-true (field 4 r format.group_first_out) format.nil e
    by Out false b c e f g h = absurd (true≢false h)
    by Into true true c e f g h = eqb-true (field 4 r format.group_first_in) format.nil f
    by Into true false c e f g h = absurd (true≢false h)
    by Into false b c e f g h = absurd (true≢false h)
    by Loop true true true e f g h = eqb-true (field 4 r format.group_first_loop) format.nil g
    by Loop true true false e f g h = absurd (true≢false h)
    by Loop true false c e f g h = absurd (true≢false h)
    by Loop false b c e f g h = absurd (true≢false h)

module _ (s : State) (node g most : ℕ) (empty : List ℕ) (well : KeepsRules s.records s.shape most (g ∷ empty)) (member : IsGroupOf s.records node g)
    (hollow : is_filled (rec_at s.records format.groups_file g) ≡ false) where
  t : State
  t = dropped s node g

  there : group_at s.records g ≡ Some (group_in (rec_at s.records format.groups_file g) g)
  there = row_of_group s.records node g member

  dense : kind_at s.records format.nodes_file node ≡ format.dense
  dense = subst (λ m. kind_at s.records format.nodes_file m ≡ format.dense) member.owner
      (well.grouped.owned g (group_in (rec_at s.records format.groups_file g) g) there)

  xs : List ℕ
  xs = (well.grouped.each node dense).members

  chain : IsGroupChain s.records node xs
  unfolding xs
  chain = IsGroupChain-HasGroups s.records s.shape node well.ranges (well.grouped.each node dense)

  free : List ℕ
  free = (well.split format.groups_file refl).0

  split : IsSplit s.records format.groups_file (is_live s.records format.groups_file) free
  unfolding free
  split = (well.split format.groups_file refl).1

  can : CanDrop s node g free xs
  can = record {
    chain = chain;
    member = chain.all g member;
    list = split.walk;
    unused = λ x i. not_live (kind_at s.records format.groups_file x)
        (split.only x i);
  }

  small : g < format.most_ids
  small = let a = group_below s.records node g member in let b = (well.ranges.metas format.groups_file refl).high in let c =
      room_most s.records s.shape format.groups_file well.ranges in omega arith

  gives : CanGive (d.linked s node (previous_group s.records g) (next_group s.records g)) format.groups_file g free
      → HasGiven (d.linked s node (previous_group s.records g) (next_group s.records g)).records t.records format.groups_file g free
  unfolding t dropped d.linked
  gives could = has_given (d.linked s node (previous_group s.records g) (next_group s.records g)) format.groups_file g free refl small could

  has : HasDropped s.records t.records node g free xs
  has = d.has_dropped s t node g free xs can gives

  -- ---- the first two rules
  before : ℕ
  before = previous_group s.records g

  after : ℕ
  after = next_group s.records g

  low_member : (x : ℕ) → In x xs → IsLow (high s.records format.groups_file) x
  low_member x i = inr (group_below s.records node x (chain.only x i))

  before_low : IsLow (high s.records format.groups_file) before
  unfolding before
  before_low = ⊎_elim (λ (e : first_link s.records node ≡ g). inl (d.before_nil s t node g free xs can gives e)) (λ i. low_member before i)
      (d.before_member s t node g free xs can gives)

  after_low : IsLow (high s.records format.groups_file) after
  unfolding after
  after_low = ⊎_elim (λ e. inl e) (λ i. low_member after i) (d.after_member s t node g free xs can gives)

  after_kind : after ≢ format.nil → is_group_kind (kind_at s.records format.groups_file after) ≡ true
  unfolding after
  after_kind some = ⊎_elim (λ e. absurd (some e)) (λ i. (chain.only after i).kind) (d.after_member s t node g free xs can gives)

  before_kind : before ≢ format.nil → is_group_kind (kind_at s.records format.groups_file before) ≡ true
  unfolding before
  before_kind some = ⊎_elim (λ e. absurd (some (d.before_nil s t node g free xs can gives e))) (λ i. (chain.only before i).kind)
      (d.before_member s t node g free xs can gives)

  start : HasStepped s.records s.records s.shape node
  start = record { frame = frame_none s.records node; ranges = well.ranges; free = free; split = split }

  b : State
  unfolding after before
  b = backed (after_get s) after before

  backs : HasStepped s.records b.records s.shape node
  unfolding b backed after before
  backs = on_test (λ (z : State). HasStepped s.records z.records s.shape node) after format.nil (after_get s)
      (link_set (after_get s) after format.group_previous before) (λ _. start)
      (λ some. steps.step_previous s.records s.records s.shape node start after before (after_kind some) before_low)

  b_kind : (x : ℕ) → kind_at b.records format.groups_file x ≡ kind_at s.records format.groups_file x
  unfolding b backed after before
  b_kind x = on_test (λ (z : State). kind_at z.records format.groups_file x ≡ kind_at s.records format.groups_file x) after format.nil (after_get s)
      (link_set (after_get s) after format.group_previous before) (λ _. refl)
      (λ _. kind_by (high s.records format.groups_file) (rec_at (set_at s.records (steps.number_at format.groups_file after format.group_previous) before)
      format.groups_file x) (rec_at s.records format.groups_file x) x
      (field-set_other s.records (steps.number_at format.groups_file after format.group_previous) before (key_in format.groups_file x) 1 format.kind
      (omega arith) (λ _. inl (omega arith))))

  b_mark : (f : ℕ) → high b.records f ≡ high s.records f
  unfolding b backed after before
  b_mark f = on_test (λ (z : State). high z.records f ≡ high s.records f) after format.nil (after_get s)
      (link_set (after_get s) after format.group_previous before) (λ _. refl)
      (λ _. ap (λ r. (metas.meta_of r).high) (put_other s.records (group_key after) (with_field 4 (s.records (group_key after)) format.group_previous before)
      (meta_key_of f) (λ e. let k = ap (λ (q : Key). q.file) e in omega arith)))

  b_dense : kind_at b.records format.nodes_file node ≡ format.dense
  b_dense = fr.dense_same s.records b.records node backs.frame node dense

  u : State
  unfolding b after before
  u = follows b node before after

  links : HasStepped s.records u.records s.shape node
  unfolding u follows
  links = on_test (λ (z : State). HasStepped s.records z.records s.shape node) before format.nil (after_set b (node_key node) 4 format.node_first_link after)
      (link_set b before format.group_next after)
      (λ _. steps.step_first s.records b.records s.shape node backs after b_dense (subst (λ m. IsLow m after) (sym (b_mark format.groups_file)) after_low))
      (λ some. steps.step_next s.records b.records s.shape node backs before after (ap is_group_kind (b_kind before) ∙ before_kind some)
      (subst (λ m. IsLow m after) (sym (b_mark format.groups_file)) after_low))

  kind_u : is_group_kind (kind_at u.records format.groups_file g) ≡ true
  unfolding u b before after d.linked
  kind_u = ap is_group_kind (kind_by (high u.records format.groups_file) (rec_at u.records format.groups_file g) (rec_at s.records format.groups_file g) g
      (d.group_stays s node before after g 1 format.kind (omega arith) (λ _. inl (omega arith)) (λ _. inl (omega arith)))
      ∙ ap (λ r. kind_in ((metas.meta_of r).high) (rec_at s.records format.groups_file g) g) (d.meta_stays s node before after)) ∙ member.kind

  given_has : HasGiven u.records t.records format.groups_file g links.free
  unfolding u b before after t dropped d.linked
  given_has = has_given u format.groups_file g links.free refl small (record {
    list = links.split.walk;
    fresh = not_free_id u.records format.groups_file g
        links.free links.split (group_used (kind_at u.records format.groups_file g) kind_u);
  })

  lost : IsGone u.records t.records s.shape format.groups_file g
  lost = is_gone u.records t.records s.shape format.groups_file g links.free refl links.split (group_used (kind_at u.records format.groups_file g) kind_u)
      given_has (room_small s.records s.shape format.groups_file well.ranges) (links.ranges.metas format.groups_file refl)

  lost_frame : IsFrame u.records t.records node
  lost_frame = record {
    others = λ key a b c e. lost.change.others key e (λ k. c (ap (λ (q : Key). q.file) k));
    nodes = λ x n at inside one aside. ap (λ r. field n r at) (ch.other_record u.records t.records format.groups_file g lost.change format.nodes_file x refl
        (λ k. absurd (let z : 1 ≡ 3 = k in omega arith)));
    kinds = λ x ne. node_kind x;
    here = inl (node_kind node);
    rels = λ x n at inside aside. ap (λ r. field n r at) (ch.other_record u.records t.records format.groups_file g lost.change format.relationships_file x refl
        (λ k. absurd (let z : 2 ≡ 3 = k in omega arith)));
  }
    where
      node_kind : (x : ℕ) → kind_at t.records format.nodes_file x ≡ kind_at u.records format.nodes_file x
      node_kind = kind_same u.records t.records format.nodes_file (ch.same_file u.records t.records format.groups_file g lost.change format.nodes_file refl
          (λ e. omega arith))

  stepped : HasStepped s.records t.records s.shape node
  stepped = record {
    frame = frame_both s.records u.records t.records node links.frame lost_frame;
    ranges = ch.in_range u.records t.records format.groups_file g lost.change s.shape lost.meta (λ _. lost.fits) links.ranges;
    free = lost.free;
    split = lost.split;
  }

  -- ---- the groups
  number : (h n at : ℕ) → at + n ≤ 64 → h ≢ g → ((at + n ≤ 12) ⊎ (20 ≤ at))
      → field n (rec_at t.records format.groups_file h) at ≡ field n (rec_at s.records format.groups_file h) at
  number h n at inside ne aside = d.number s t node g free xs can gives h n at inside ne (λ _. ⊎_elim (λ k. inl k) (λ k. inr (omega arith)) aside)
      (λ _. ⊎_elim (λ k. inl (omega arith)) (λ k. inr k) aside)

  group_stays_at : (h : ℕ) → h ≢ g → group_at t.records h ≡ group_at s.records h
  group_stays_at h ne = λ i. row_if (d.kind_stays s t node g free xs can gives h ne i) (record {
    id = h;
    label = number h 4 format.group_type (omega arith) ne (inl (omega arith)) i;
    owner = number h 4 format.group_owner (omega arith) ne (inl (omega arith)) i;
  })

  is_none : group_at t.records g ≡ None
  is_none = row_none (kind_at t.records format.groups_file g) (group_in (rec_at t.records format.groups_file g) g) has.gone

  not_g : (h : ℕ) (row : GroupRow) → group_at t.records h ≡ Some row → h ≢ g
  not_g h row is e = absurd (let z : None ≡ Some row = sym is_none ∙ ap (group_at t.records) (sym e) ∙ is in cc)

  apart_file : (key : Key) → key.file ≢ format.groups_file → key ≢ meta_key_of format.groups_file → key ≢ node_key node → t.records key ≡ s.records key
  apart_file key ne meta away = has.stays key meta away (λ e. ne (ap (λ (k : Key). k.file) e)) (λ e. ne (ap (λ (k : Key). k.file) e))
      (λ e. ne (ap (λ (k : Key). k.file) e))

  rels_stay : (x : ℕ) → rec_at t.records format.relationships_file x ≡ rec_at s.records format.relationships_file x
  rels_stay x = apart_file (key_in format.relationships_file x) (λ e. let z : 2 ≡ 3 = e in omega arith)
      (λ e. let f = ap (λ (k : Key). k.file) e in absurd (omega arith)) (λ e. let f = ap (λ (k : Key). k.file) e in absurd (omega arith))

  first_stays : (n : ℕ) → n ≢ node → first_link t.records n ≡ first_link s.records n
  first_stays n ne = ap (λ r. field 4 r format.node_first_link) (apart_file (key_in format.nodes_file n) (λ e. let z : 1 ≡ 3 = e in omega arith)
      (λ e. let f = ap (λ (k : Key). k.file) e in absurd (omega arith)) (λ e. ne (ap (λ (k : Key). k.id) e)))

  -- ---- the third rule
  abbrev rels : ℕ → Option RelRow
  rels = rel_at s.records

  stands_again : (groups now : ℕ → Option GroupRow) (h : Head) (x : ℕ) → (h.key.file ≡ format.groups_file → now h.key.id ≡ groups h.key.id)
      → StandsAt rels groups h x → StandsAt rels now h x
  stands_again groups now h x same a = record {
    row = a.row;
    live = a.live;
    on = ⊎_elim (λ k. inl k) (λ (k : (h.key.file ≡ format.groups_file) × IsInGroup groups h a.row). inr (
      k.0,
      record {
        row = k.1.row;
        group = same k.0
            ∙ k.1.group;
        label = k.1.label;
        side = k.1.side;
      },
    )) a.on;
  }

  listed_old : (h : Head) (n : ℕ) → Owns (kind_at s.records format.nodes_file) (group_at s.records) h n → first_of t.records h ≡ first_of s.records h
      → (h.key.file ≡ format.groups_file → h.key.id ≢ g)
      → IsListed t.records h n (StandsAt rels (group_at t.records) h)
  listed_old h n o first_is ne = listed_again s.records t.records h n (StandsAt rels (group_at s.records) h) (StandsAt rels (group_at t.records) h) rels_stay
      first_is
      (λ x. stands_again (group_at s.records) (group_at t.records) h x (λ f. group_stays_at h.key.id (ne f)))
      (λ x. stands_again (group_at t.records) (group_at s.records) h x (λ f. sym (group_stays_at h.key.id (ne f)))) (well.linked.listed.each h n o)

  listed : (h : Head) (n : ℕ) → Owns (kind_at t.records format.nodes_file) (group_at t.records) h n
      → IsListed t.records h n (StandsAt rels (group_at t.records) h)
  listed h n (inl o) =
      let was = fr.sparse_was s.records t.records node stepped.frame n o.sparse in
      let ne : n ≢ node = λ e. let z = sym was ∙ ap (kind_at s.records format.nodes_file) e ∙ dense in omega arith in
      listed_old h n (inl (record { sparse = was; is = o.is })) (ap (first_of t.records) o.is ∙ first_stays n ne ∙ ap (first_of s.records) (sym o.is))
      (λ f. let k = ap (λ (z : Head). z.key.file) o.is in absurd (omega arith))
  listed h n (inr o) =
      let ne = not_g o.row.id o.row o.group in
      listed_old h n (inr (record {
        dense = fr.dense_was s.records t.records node stepped.frame dense n o.dense;
        row = o.row;
        group = sym
            (group_stays_at o.row.id ne) ∙ o.group;
        owner = o.owner;
        key = o.key;
        field = o.field;
      }))
      (ap (λ (k : Key). field 4 (t.records k) h.field) o.key ∙ first_same o.row.id h.field ne o.field ∙ ap (λ (k : Key). field 4 (s.records k) h.field)
      (sym o.key)) (λ _ e. ne (sym (ap (λ (k : Key). k.id) o.key) ∙ e))
    where
      first_same : (k at : ℕ) → k ≢ g → IsFirstPlace at → field 4 (rec_at t.records format.groups_file k) at ≡ field 4 (rec_at s.records format.groups_file k)
          at
      first_same k at ne place = number k 4 at within.0 ne (inr within.1)
        where
          within : (at + 4 ≤ 64) × (20 ≤ at)
          within = ⊎_elim (λ (e : at ≡ 20). (omega arith, omega arith))
              (λ j. ⊎_elim (λ (e : at ≡ 24). (omega arith, omega arith)) (λ (e : at ≡ 28). (omega arith, omega arith)) j) place

  -- no relationship has the group's type, since it would stand in one of its chains
  none_typed : (x : ℕ) (row : RelRow) → rel_at s.records x ≡ Some row → IsEnd node row
      → row.label ≢ field 4 (rec_at s.records format.groups_file g) format.group_type
  none_typed x row live end typed =
      let side = side_at node row.from row.to in
      let head = at_group s.records s.shape well node g row.label side row member (sym typed) (record { end = end; typed = refl; aside = refl }) in
      let l = well.linked.listed.each (group_head g side) node head.owns in
      some l.members l.chain (hollow_none (rec_at s.records format.groups_file g) hollow side) (l.all x (record { row = row; live = live; on = head.on }))
    where
      some : (ms : List ℕ) → IsChain (λ y. next_in (rec_at s.records format.relationships_file y) node)
          (λ y. prev_in (rec_at s.records format.relationships_file y) node) format.nil (first_of s.records (group_head g (side_at node row.from row.to))) ms
          → field 4 (rec_at s.records format.groups_file g) (place_of (side_at node row.from row.to)) ≡ format.nil → ¬ In x ms
      some [] c none i = elim i [ ]
      some (y ∷ ys) c none i = c.1 (sym c.0 ∙ none)

  linked_now : IsLinked t.records (kind_at t.records format.nodes_file) rels (group_at t.records)
  linked_now = record {
    ends = λ x q e. let k = well.linked.ends x q e in record {
      from = fr.used_same s.records t.records node stepped.frame q.from k.from;
      to = fr.used_same
          s.records t.records node stepped.frame q.to k.to;
    };
    typed = λ x n q e end dn. let k = well.linked.typed x n q e end (fr.dense_was s.records t.records node stepped.frame dense n dn) in
        record { row = k.row; group = group_stays_at k.row.id (kept x n q e end k) ∙ k.group; owner = k.owner; label = k.label };
    listed = record { each = listed };
  }
    where
      kept : (x n : ℕ) (q : RelRow) → rel_at s.records x ≡ Some q → IsEnd n q → (k : HasGroup (group_at s.records) n q.label) → k.row.id ≢ g
      kept x n q e end k is =
          let row = some_row (kind_at s.records format.groups_file k.row.id) (group_in (rec_at s.records format.groups_file k.row.id) k.row.id) k.row k.group in
          let at_g : n ≡ node = sym k.owner ∙ sym (ap (λ (r : GroupRow). r.owner) row.1)
          ∙ ap (λ z. field 4 (rec_at s.records format.groups_file z) format.group_owner) is ∙ member.owner in
          none_typed x q e (subst (λ z. IsEnd z q) at_g end) (sym k.label ∙ sym (ap (λ (r : GroupRow). r.label) row.1) ∙ ap
          (λ z. field 4 (rec_at s.records format.groups_file z) format.group_type) is)

  -- ---- the fourth
  filled_stays : (h : ℕ) → h ≢ g → is_filled (rec_at t.records format.groups_file h) ≡ is_filled (rec_at s.records format.groups_file h)
  filled_stays h ne =
      let a = number h 4 20 (omega arith) ne (inr (omega arith)) in
      let b = number h 4 24 (omega arith) ne (inr (omega arith)) in
      let c = number h 4 28 (omega arith) ne (inr (omega arith)) in
      λ i. not (nat_eq (a i) format.nil && (nat_eq (b i) format.nil && nat_eq (c i) format.nil))

  still : (n h : ℕ) (old : HasGroups (first_link s.records n) n (rec_at s.records format.groups_file) (group_at s.records) (g ∷ empty)) → h ≢ g
      → In h old.members → (is_filled (rec_at t.records format.groups_file h) ≡ true) ⊎ In h empty
  still n h old ne i = ⊎_elim (λ f. inl (filled_stays h ne ∙ f)) (λ j. ⊎_elim (λ e. absurd (ne e)) (λ k. inr k) j) (old.filled h i)

  grouped_now : KeepsGroups t.records empty
  unfolding xs
  grouped_now = record {
    owned = λ h q e. fr.dense_same s.records t.records node stepped.frame q.owner (well.grouped.owned h q (sym (group_stays_at h (not_g h q e)) ∙ e));
    each = λ n dn. ⊎_elim
        (λ (e : n ≡ node). subst (λ z. HasGroups (first_link t.records z) z (rec_at t.records format.groups_file) (group_at t.records) empty) (sym e)
        (HasGroups-IsGroupChain t.records s.shape node (without g xs) empty stepped.ranges has.chain
        (λ h i. still node h (well.grouped.each node dense) (none_left h (has.chain.only h i)) (in_without g xs h i))))
        (λ (ne : n ≢ node).
        let old = well.grouped.each n (fr.dense_was s.records t.records node stepped.frame dense n dn) in
        let other = IsGroupChain-HasGroups s.records s.shape n well.ranges old in
        HasGroups-IsGroupChain t.records s.shape n old.members empty stepped.ranges (has.others n old.members ne other)
        (λ h i. still n h old (λ e. ne (sym (other.only h i).owner ∙ ap (λ z. field 4 (rec_at s.records format.groups_file z) format.group_owner) e
        ∙ member.owner)) i)) (nat_cases n node);
  }
    where
      none_left : (h : ℕ) → IsGroupOf t.records node h → h ≢ g
      none_left h is e = group_used (kind_at t.records format.groups_file h) is.kind (ap (kind_at t.records format.groups_file) e ∙ has.gone)

  exact_now : KeepsCounts t.records
  exact_now h q is kind = let ne = not_g h q is in
      counts_by (rec_at s.records format.groups_file h) (rec_at t.records format.groups_file h) q (rel_at s.records) (rel_at t.records)
      (high s.records format.relationships_file) (high t.records format.relationships_file)
      (λ at within. number h 4 at (let b = within.1 in omega arith) ne (inr (let b = within.0 in omega arith)))
      (fr.rels_same s.records t.records node stepped.frame) (fr.mark_same s.records t.records node stepped.frame format.relationships_file (λ e. omega arith))
      (well.exact h q (sym (group_stays_at h ne) ∙ is) (sym (d.kind_stays s t node g free xs can gives h ne) ∙ kind))

  -- ---- all of it
  keeps_now : KeepsRules t.records s.shape most empty
  keeps_now =
      let others = KeepsRules-KeepsOthers s.records s.shape most (g ∷ empty) well in
      let o = fr.others_stay s.records t.records node stepped.frame s.shape most others stepped.ranges stepped.free stepped.split in
      record {
        ranges = o.ranges;
        split = o.split;
        kept = o.kept;
        linked = subst (λ (r : ℕ → Option RelRow). IsLinked t.records (kind_at t.records format.nodes_file) r (group_at t.records))
            (sym (fr.rels_same s.records t.records node stepped.frame)) linked_now;
        grouped = grouped_now;
        exact = exact_now;
        properties = o.properties;
        named = o.named;
        defined = o.defined;
        names = o.names;
        degrees = o.degrees;
      }

  pub dropped_rules : (z : State) → z ≡ dropped s node g → z.shape ≡ s.shape → KeepsRules z.records z.shape most empty × Regroups s z node
      × (kind_at z.records format.nodes_file node ≡ kind_at s.records format.nodes_file node)
      × ((h : ℕ) (row : GroupRow) → group_at s.records h ≡ Some row → row.owner ≢ node → kind_at z.records format.groups_file h ≡ kind_at s.records
      format.groups_file h)
  unfolding t
  dropped_rules z is shape = (
    subst (λ (q : Shape). KeepsRules z.records q most empty) (sym shape) (subst (λ (w : State). KeepsRules w.records s.shape most empty) (sym is) keeps_now),
    fr.regroups_of s z node (subst (λ (w : State). IsFrame s.records w.records node) (sym is) stepped.frame) shape
        (λ h row q ne. ap (λ (w : State). group_at w.records h) is ∙ group_stays_at h
        (λ e. ne (sym (ap (λ (r : GroupRow). r.owner) (some_row (kind_at s.records format.groups_file h) (group_in (rec_at s.records format.groups_file h)
        h) row q).1)
        ∙ ap (λ k. field 4 (rec_at s.records format.groups_file k) format.group_owner) e ∙ member.owner)) ∙ q),
    ap (λ (w : State). kind_at w.records format.nodes_file node) is ∙ fr.dense_same s.records t.records node stepped.frame node dense ∙ sym dense,
    λ h row q ne. ap (λ (w : State). kind_at w.records format.groups_file h) is
        ∙ d.kind_stays s t node g free xs can gives h (λ e. ne (sym (ap (λ (r : GroupRow). r.owner) (some_row (kind_at s.records format.groups_file h)
        (group_in (rec_at s.records format.groups_file h) h) row q).1)
        ∙ ap (λ k. field 4 (rec_at s.records format.groups_file k) format.group_owner) e ∙ member.owner)),
  )
