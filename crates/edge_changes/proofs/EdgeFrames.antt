-- What stays of a store where an edge is taken out of its chains, and what was so in it before.
use Rattle.std.specs.Prelude.{not}
use Rattle.std.proofs.Common.{◌≡◌, ◌≢◌, ◌⊎◌, ℕ, ◌+◌, ◌<◌, ◌≤◌, nat_eq, Bool, true, false, cond, Some, sym, ap, ◌∙◌, subst, inl, inr, ⊎_elim, arith, refl}
use Rattle.plain_graph.specs.declared.command.Target.TheVariants as targets
use Rattle.rec_bytes.specs.declared.damage.Damage.{Damage}
use Rattle.rec_bytes.specs.declared.key.Key.{Key}
use Rattle.rec_bytes.specs.declared.record.Rec.{Rec}
use Rattle.rec_bytes.specs.declared.shape.Shape.{Shape}
use Rattle.rec_bytes.specs.Format as format
use Rattle.rec_bytes.specs.Meta as metas
use Rattle.rec_bytes.specs.Record.{field, with_field}
use Rattle.rec_bytes.specs.RecordFiles.{meta_key_of, room_of}
use Rattle.rec_bytes.specs.Space.{SameButReads, State, after_get, after_put}
use Rattle.rec_bytes.proofs.Numbers.{field-with_field_other}
use Rattle.rec_bytes.proofs.Spaces.{put_other, put_same}
use Rattle.store_rules.specs.Breaking.{IsHeadOf}
use Rattle.store_rules.specs.Chains.{place_of}
use Rattle.store_rules.specs.Rules.{Head}
use Rattle.store_rules.proofs.NumberLaws.{eq_false, eq_true, nat_cases}
use Rattle.store_rules.proofs.ViewLaws.{kind_by}
use Rattle.store_rules.specs.Views.{Records, high, is_group_kind, key_in, kind_at, kind_in, rec_at, rel_at, row_if}
use Rattle.rel_store.specs.declared.rel_row.RelRow.{RelRow}
use Rattle.rel_store.specs.Loading.{rel_mark, rel_room, row_at}
use Rattle.rel_store.specs.RelRecord.{rel_key}
use Rattle.rel_store.proofs.Rows as rel_rows
use Rattle.chain_edit.specs.Chains.{Differ, next_of, next_place, prev_of, prev_place}
use Rattle.chain_edit.specs.Links.{IsLinkDamage, backed, next_set, number_set, prev_set}
use Rattle.chain_edit.specs.Links.IsLinkDamage.{LeadsNowhere, HighMark}
use Rattle.chain_edit.specs.Unlinking.{alone, led, unlinked}
use Rattle.chain_edit.proofs.Broken.{next_breaks, prev_breaks}
use Rattle.store_rules.proofs.ChainSteps.{on_test}
use Rattle.chain_edit.proofs.LinkLaws.{field-set_other, rel_rec, set_at}
use Rattle.prop_store.specs.Touching.{LeavesElement}
use Rattle.group_store.specs.Counting.{one_less, tallied}
use Rattle.group_store.specs.Leaving.{LeavesCounted}
use Rattle.group_store.proofs.Tallies.{file-tallied}
use Rattle.change_parts.specs.Damage.{IsBroken}
use Rattle.edge_changes.specs.EdgeDeleting.{IsEdgeLink, IsEndLink, IsSoughtDamage, IsTakenDamage, LeavesEdge}
use Rattle.edge_changes.specs.EdgeDeleting.IsTakenDamage.{Parted, Sought, Undropped}
use Rattle.group_store.proofs.AlikeGroups.{AreAlike}
use Rattle.edge_changes.specs.EdgeEnds.{parted}
use Rattle.change_parts.specs.Owners.{owner_of}
use Rattle.edge_changes.proofs.EdgeSteps.{record_parted, shape_parted}

-- ---- what stays before the edge is taken out

pub edge_none : (s : State) (id : ℕ) → LeavesEdge s s id
edge_none s id = record {
  shape = refl;
  others = λ key a b c d e f. refl;
  own = λ n at inside apart. refl;
  groups = λ g n at one inside. refl;
  used = λ g.
      refl;
  live = λ g. refl;
}

pub edge_counted : (s t : State) (id : ℕ) → t.shape ≡ s.shape → LeavesCounted s.records t.records → LeavesEdge s t id
edge_counted s t id shape counted = record {
  shape = shape;
  others = λ key a b c d file ne. counted.others key file;
  own = λ n at inside apart. ap (λ r. field n r at) (counted.others (rel_key id) (λ e. omega arith));
  groups = λ g n at one inside. counted.groups g n at one inside;
  used = λ g. counted.used g;
  live = λ g. counted.live g;
}

pub edge_then : (s t u : State) (id : ℕ) → LeavesEdge s t id → LeavesEdge t u id → LeavesEdge s u id
edge_then s t u id h k = record {
  shape = k.shape ∙ h.shape;
  others = λ key a b c d file ne. k.others key a b c d file ne ∙ h.others key a b c d file ne;
  own = λ n at inside apart. k.own n at inside apart ∙ h.own n at inside apart;
  groups = λ g n at one inside. k.groups g n at one inside ∙ h.groups g n at one inside;
  used = λ g. k.used g ∙ h.used g;
  live = λ g. k.live g ∙ h.live g;
}

pub edge_read : (s t : State) (id : ℕ) → SameButReads s t → LeavesEdge s t id
edge_read s t id same = subst (λ (z : State). LeavesEdge s z id) (sym same)
    (record {
      shape = refl;
      others = λ key a b c d e f. refl;
      own = λ n at inside apart. refl;
      groups = λ g n at one inside. refl;
      used = λ g. refl;
      live = λ g.
          refl;
    })

-- its properties are taken away
pub edge_left : (s t : State) (id : ℕ) → t.shape ≡ s.shape → LeavesElement s t (owner_of (targets.Edge id)) → LeavesEdge s t id
edge_left s t id shape left = record {
  shape = shape;
  others = λ key a b c d file ne. left.others key a b c d ne;
  own = λ n at inside apart. left.own n at inside apart;
  groups = λ g n at one inside. ap (λ r. field n r at) (group g);
  used = λ g. ap is_group_kind (kind g);
  live = λ g. ap (λ k. not (nat_eq k 0)) (kind g);
}
  where
    group : (g : ℕ) → rec_at t.records format.groups_file g ≡ rec_at s.records format.groups_file g
    group g = left.others (key_in format.groups_file g) (λ e. omega arith) (λ e. omega arith) (λ e. let f = ap (λ (k : Key). k.file) e in omega arith)
        (λ e. let f = ap (λ (k : Key). k.file) e in omega arith) (λ e. let f = ap (λ (k : Key). k.file) e in omega arith)

    mark : t.records (meta_key_of format.groups_file) ≡ s.records (meta_key_of format.groups_file)
    mark = left.others (meta_key_of format.groups_file) (λ e. omega arith) (λ e. omega arith) (λ e. let f = ap (λ (k : Key). k.id) e in omega arith)
        (λ e. let f = ap (λ (k : Key). k.id) e in omega arith) (λ e. let f = ap (λ (k : Key). k.file) e in omega arith)

    kind : (g : ℕ) → kind_at t.records format.groups_file g ≡ kind_at s.records format.groups_file g
    kind g = ap (λ m. kind_in m (rec_at t.records format.groups_file g) g) (ap (λ r. (metas.meta_of r).high) mark)
        ∙ ap (λ r. kind_in (high s.records format.groups_file) r g) (group g)

-- ---- what was so before

module _ (s t : State) (id : ℕ) (left : LeavesEdge s t id) where
  pub meta : (file : ℕ) → file ≢ format.properties_file → file ≢ format.strings_file → t.records (meta_key_of file) ≡ s.records (meta_key_of file)
  meta file a b = left.others (meta_key_of file) (λ e. omega arith) (λ e. omega arith) (λ e. a (ap (λ (k : Key). k.id) e)) (λ e. b (ap (λ (k : Key). k.id) e))
      (λ e. omega arith) (λ e. let f = ap (λ (k : Key). k.file) e in omega arith)

  pub node_same : (n : ℕ) → rec_at t.records format.nodes_file n ≡ rec_at s.records format.nodes_file n
  node_same n = left.others (key_in format.nodes_file n) (λ e. omega arith) (λ e. omega arith) (λ e. let f = ap (λ (k : Key). k.file) e in omega arith)
      (λ e. let f = ap (λ (k : Key). k.file) e in omega arith) (λ e. omega arith) (λ e. let f = ap (λ (k : Key). k.file) e in omega arith)

  pub kind_same : (n : ℕ) → kind_at t.records format.nodes_file n ≡ kind_at s.records format.nodes_file n
  kind_same n = ap (λ m. kind_in m (rec_at t.records format.nodes_file n) n)
      (ap (λ r. (metas.meta_of r).high) (meta format.nodes_file (λ e. omega arith) (λ e. omega arith)))
      ∙ ap (λ r. kind_in (high s.records format.nodes_file) r n) (node_same n)

  pub alike_edge : (n : ℕ) → AreAlike s t n
  alike_edge n = record {
    shape = left.shape;
    node = node_same n;
    node_mark = ap (λ r. (metas.meta_of r).high) (meta format.nodes_file (λ e. omega arith) (λ e. omega arith));
    group_mark = ap (λ r. (metas.meta_of r).high) (meta format.groups_file (λ e. omega arith) (λ e. omega arith));
    numbers = λ g m at one inside. left.groups g m at one (omega arith);
    used = left.used;
    live = left.live;
  }

-- ---- links of the edge

pub link_as : (s u : State) (l k : ℕ) (named damage : Damage) → l ≡ k → rel_mark u ≡ rel_mark s → rel_room u ≡ rel_room s → IsLinkDamage u l named damage
    → IsLinkDamage s k named damage
link_as s u l k named damage is mark room (LeadsNowhere some above) = LeadsNowhere (λ e. some (is ∙ e))
    (subst (λ z. z ≤ k) mark (subst (λ z. rel_mark u ≤ z) is above))
link_as s u l k named damage is mark room (HighMark above) = HighMark (subst (λ z. z < rel_mark s) room (subst (λ z. rel_room u < z) mark above))

-- one of the two places of pairs of links
abbrev pub IsPair : ℕ → Type 0
IsPair p = (p ≡ 16) ⊎ (p ≡ 24)

pub pair_is : (r : Rec) (n : ℕ) → IsPair (place_of r n)
pair_is r n = by (nat_eq (field 4 r 8) n)
  where
    by : (b : Bool) → IsPair (cond b 16 24)
    by true = inl refl
    by false = inr refl

pub pair_low : (p : ℕ) → IsPair p → (16 ≤ p) × (p ≤ 24)
pair_low p h = ⊎_elim (λ e. (omega arith, omega arith)) (λ e. (omega arith, omega arith)) h

-- the places of two pairs that differ
pair_apart : (p q : ℕ) → IsPair p → IsPair q → p ≢ q → (p + 8 ≤ q) ⊎ (q + 8 ≤ p)
pair_apart p q (inl a) (inl b) ne = absurd (ne (a ∙ sym b))
pair_apart p q (inl a) (inr b) ne = inl (omega arith)
pair_apart p q (inr a) (inl b) ne = inr (omega arith)
pair_apart p q (inr a) (inr b) ne = absurd (ne (a ∙ sym b))

-- in a store that leaves the edge
pub edge_link_before : (s t : State) (id node : ℕ) (damage : Damage) → LeavesEdge s t id → IsEdgeLink t id node damage → IsEdgeLink s id node damage
edge_link_before s t id node damage left told = ⊎_elim
    (λ k. inl (link_as s t (prev_of t.records node id) (prev_of s.records node id) _ damage (ap (λ p. field 4 (rel_rec t.records id) p) place ∙ left.own 4
    (place_of (rel_rec s.records id) node) (omega (arith, b.1)) (inl (omega (arith, b.1)))) mark room k))
    (λ k. inr (link_as s t (next_of t.records node id) (next_of s.records node id) _ damage (ap (λ p. field 4 (rel_rec t.records id) (p + 4)) place ∙ left.own 4
    (place_of (rel_rec s.records id) node + 4) (omega (arith, b.1)) (inl (omega (arith, b.1)))) mark room k)) told
  where
    b : (16 ≤ place_of (rel_rec s.records id) node) × (place_of (rel_rec s.records id) node ≤ 24)
    b = pair_low (place_of (rel_rec s.records id) node) (pair_is (rel_rec s.records id) node)

    place : place_of (rel_rec t.records id) node ≡ place_of (rel_rec s.records id) node
    place = ap (λ z. cond (nat_eq z node) 16 24) (left.own 4 8 (omega arith) (inl (omega arith)))

    mark : rel_mark t ≡ rel_mark s
    mark = ap (λ z. (metas.meta_of z).high) (meta s t id left format.relationships_file (λ e. omega arith) (λ e. omega arith))

    room : rel_room t ≡ rel_room s
    room = ap (λ (h : Shape). room_of h format.relationships_file) left.shape

pub end_link_before : (s t : State) (id from to : ℕ) (damage : Damage) → LeavesEdge s t id → IsEndLink t id from to damage → IsEndLink s id from to damage
end_link_before s t id from to damage left told = ⊎_elim (λ k. inl (edge_link_before s t id from damage left k))
    (λ k. inr (edge_link_before s t id to damage left k)) told

-- a link that leads nowhere breaks the first rule
pub end_link_breaks : (s : State) (id : ℕ) (rel : RelRow) (damage : Damage) → row_at s.records id ≡ Some rel → IsEndLink s id rel.from rel.to damage
    → IsBroken s damage
end_link_breaks s id rel damage found told =
    let live = rel_rows.rel_at-Some s.records id rel found in
    inl (⊎_elim (λ k. ⊎_elim (λ l. prev_breaks s id rel.from _ damage live l) (λ l. next_breaks s id rel.from _ damage live l) k)
    (λ k. ⊎_elim (λ l. prev_breaks s id rel.to _ damage live l) (λ l. next_breaks s id rel.to _ damage live l) k) told)

-- the edge's record says these ends
pub record HasEndsIn (records : Records) (id from to : ℕ) : Type 0 where
  pub source : field 4 (records (rel_key id)) format.relationship_source ≡ from
  pub target : field 4 (records (rel_key id)) format.relationship_target ≡ to

-- ---- a pair of links that isn't the chain's from which the edge is taken

module _ (s : State) (head : Head) (n rel d m : ℕ) (elsewhere : head.key.file ≢ format.relationships_file) (differ : Differ s.records n m rel) where
  abbrev r : Rec
  r = rel_rec s.records rel

  abbrev pn : ℕ
  pn = place_of r n

  abbrev pm : ℕ
  pm = place_of r m

  record PairStays (q : Records) : Type 0 where
    ends : field 4 (rel_rec q rel) 8 ≡ field 4 r 8
    prev : field 4 (rel_rec q rel) pm ≡ field 4 r pm
    next : field 4 (rel_rec q rel) (pm + 4) ≡ field 4 r (pm + 4)

  bounds : ((16 ≤ pn) × (pn ≤ 24)) × ((16 ≤ pm) × (pm ≤ 24))
  bounds = (pair_low pn (pair_is r n), pair_low pm (pair_is r m))

  aside : (at p : ℕ) → (at ≡ pm) ⊎ (at ≡ pm + 4) → (p ≡ pn) ⊎ (p ≡ pn + 4) → (at + 4 ≤ p) ⊎ (p + 4 ≤ at)
  aside at p a b = ⊎_elim
      (λ (k : pn + 8 ≤ pm). inr (⊎_elim (λ e. ⊎_elim (λ f. omega (arith, k, e, f)) (λ f. omega (arith, k, e, f)) b) (λ e. ⊎_elim (λ f. omega (arith, k, e, f))
      (λ f. omega (arith, k, e, f)) b) a))
      (λ (k : pm + 8 ≤ pn). inl (⊎_elim (λ e. ⊎_elim (λ f. omega (arith, k, e, f)) (λ f. omega (arith, k, e, f)) b) (λ e. ⊎_elim (λ f. omega (arith, k, e, f))
      (λ f. omega (arith, k, e, f)) b) a))
      (pair_apart pn pm (pair_is r n) (pair_is r m) differ)

  low : (p : ℕ) → (p ≡ pn) ⊎ (p ≡ pn + 4) → 16 ≤ p
  low p b = ⊎_elim (λ e. omega (arith, bounds.0.0, e)) (λ e. omega (arith, bounds.0.0, e)) b

  stays_set : (q : Records) (p : Head) (to : ℕ) → (key_in format.relationships_file rel ≡ p.key → (p.field ≡ pn) ⊎ (p.field ≡ pn + 4)) → PairStays q
      → PairStays (set_at q p to)
  stays_set q p to here was = record {
    ends = field-set_other q p to (key_in format.relationships_file rel) 4 8 (omega arith) (λ e. inl (let b = low p.field (here e) in omega (arith, b)))
        ∙ was.ends;
    prev = field-set_other q p to (key_in format.relationships_file rel) 4 pm (omega (arith, bounds.1.1)) (λ e. aside pm p.field (inl refl) (here e))
        ∙ was.prev;
    next = field-set_other q p to (key_in format.relationships_file rel) 4 (pm + 4) (omega (arith, bounds.1.1))
        (λ e. aside (pm + 4) p.field (inr refl) (here e)) ∙ was.next;
  }

  stays_same : (q t : Records) → rel_rec t rel ≡ rel_rec q rel → PairStays q → PairStays t
  stays_same q t same was = record {
    ends = ap (λ z. field 4 z 8) same ∙ was.ends;
    prev = ap (λ z. field 4 z pm) same ∙ was.prev;
    next = ap
        (λ z. field 4 z (pm + 4)) same ∙ was.next;
  }

  place_now : (q : Records) → PairStays q → place_of (rel_rec q rel) n ≡ pn
  place_now q was = ap (λ z. cond (nat_eq z n) 16 24) was.ends

  place_at : (q : Records) (x : ℕ) → PairStays q → key_in format.relationships_file rel ≡ key_in format.relationships_file x → place_of (rel_rec q x) n ≡ pn
  place_at q x was e = ap (λ z. place_of (rel_rec q z) n) (sym (ap (λ (k : Key). k.id) e)) ∙ place_now q was

  abbrev freed : State
  freed = after_put (after_get s) (key_in format.relationships_file rel) (alone (s.records (key_in format.relationships_file rel)) n)

  stays_freed : PairStays freed.records
  stays_freed =
      let same = put_same s.records (key_in format.relationships_file rel) (alone r n) in
      let by : (at : ℕ) → at + 4 ≤ 64 → (at + 4 ≤ pn) ⊎ (pn + 4 ≤ at) → (at + 4 ≤ pn + 4) ⊎ (pn + 4 + 4 ≤ at)
      → field 4 (rel_rec freed.records rel) at ≡ field 4 r at
      = λ at inside a b. ap (λ z. field 4 z at) same
      ∙ field-with_field_other 4 (with_field 4 r pn format.nil) (pn + 4) format.nil 4 at inside (⊎_elim (λ k. inr k) (λ k. inl k) b)
      ∙ field-with_field_other 4 r pn format.nil 4 at inside (⊎_elim (λ k. inr k) (λ k. inl k) a) in
      record {
        ends = by 8 (omega arith) (inl (omega (arith, bounds.0.0))) (inl (omega (arith, bounds.0.0)));
        prev = by pm (omega (arith, bounds.1.1)) (aside pm pn (inl refl) (inl refl)) (aside pm (pn + 4) (inl refl) (inr refl));
        next = by (pm + 4) (omega (arith, bounds.1.1)) (aside (pm + 4) pn (inr refl) (inl refl)) (aside (pm + 4) (pn + 4) (inr refl) (inr refl));
      }

  stays_unlinked : PairStays (unlinked s head n rel).records
  unfolding unlinked led backed
  stays_unlinked =
      let before = prev_of s.records n rel in
      let after = next_of s.records n rel in
      let back = backed freed n after before in
      let now : PairStays back.records
      = on_test (λ (z : State). PairStays z.records) after format.nil freed (prev_set freed n after before) (λ _. stays_freed)
      (λ _. stays_set freed.records (prev_place freed.records n after) before (λ e. inl (place_at freed.records after stays_freed e)) stays_freed) in
      on_test (λ (z : State). PairStays z.records) before format.nil (number_set back head after) (next_set back n before after)
      (λ _. stays_set back.records head after (λ e. absurd (elsewhere (sym (ap (λ (k : Key). k.file) e)))) now)
      (λ _. stays_set back.records (next_place back.records n before) after (λ e. inr (ap (λ z. z + 4) (place_at back.records before now e))) now)

  stays_parted : PairStays (parted s head n rel d).records
  unfolding parted
  stays_parted =
      let u = unlinked s head n rel in
      let t = tallied one_less u head in
      stays_same t.records (parted s head n rel d).records
      (put_other t.records (key_in format.nodes_file n) (with_field 4 (t.records (key_in format.nodes_file n)) format.node_degree d)
      (key_in format.relationships_file rel) (λ e. let f = ap (λ (k : Key). k.file) e in omega arith))
      (stays_same u.records t.records (file-tallied one_less u head (key_in format.relationships_file rel) (λ e. omega arith)) stays_unlinked)

  place_m : place_of (rel_rec (parted s head n rel d).records rel) m ≡ pm
  place_m = ap (λ z. cond (nat_eq z m) 16 24) stays_parted.ends

  prev_parted : prev_of (parted s head n rel d).records m rel ≡ prev_of s.records m rel
  prev_parted = ap (λ p. field 4 (rel_rec (parted s head n rel d).records rel) p) place_m ∙ stays_parted.prev

  next_parted : next_of (parted s head n rel d).records m rel ≡ next_of s.records m rel
  next_parted = ap (λ p. field 4 (rel_rec (parted s head n rel d).records rel) (p + 4)) place_m ∙ stays_parted.next

  pub link_parted : head.key.file ≢ format.meta_file → (u : State) → u ≡ parted s head n rel d → (damage : Damage) → IsEdgeLink u rel m damage
      → IsEdgeLink s rel m damage
  link_parted no_meta u is damage told =
      let t = parted s head n rel d in
      let mark : rel_mark t ≡ rel_mark s
      = ap (λ z. (metas.meta_of z).high) (record_parted s head n rel d (meta_key_of format.relationships_file) (λ e. omega arith)
      (λ e. no_meta (sym (ap (λ (k : Key). k.file) e))) (λ e. let f = ap (λ (k : Key). k.file) e in omega arith)) in
      let room : rel_room t ≡ rel_room s = ap (λ (h : Shape). room_of h format.relationships_file) (shape_parted s head n rel d) in
      ⊎_elim
      (λ k. inl (link_as s t (prev_of t.records m rel) (prev_of s.records m rel) _ damage prev_parted mark room k))
      (λ k. inr (link_as s t (next_of t.records m rel) (next_of s.records m rel) _ damage next_parted mark room k))
      (subst (λ (z : State). IsEdgeLink z rel m damage) is told)

-- the head that a node owns is in a node's record or a group's
head_file : (records : Records) (head : Head) (n : ℕ) → IsHeadOf records head n → (head.key.file ≡ format.nodes_file) ⊎ (head.key.file ≡ format.groups_file)
head_file records head n (inl o) = inl (ap (λ (h : Head). h.key.file) o.is)
head_file records head n (inr o) = inr (ap (λ (k : Key). k.file) o.key)

-- a link at the other end
pub link_before : (s u : State) (head : Head) (n rel d m : ℕ) → n ≢ m → HasEndsIn s.records rel n m → IsHeadOf s.records head n → u ≡ parted s head n rel d
    → (damage : Damage) → IsEdgeLink u rel m damage → IsEdgeLink s rel m damage
link_before s u head n rel d m ne ends owns is damage told =
    link_parted s head n rel d m (not_in format.relationships_file (omega arith) (omega arith))
    (λ same. absurd (let a = sym here ∙ same ∙ there in omega (arith, a))) (not_in format.meta_file (omega arith) (omega arith)) u is damage told
  where
    not_in : (file : ℕ) → file ≢ format.nodes_file → file ≢ format.groups_file → head.key.file ≢ file
    not_in file a b e = ⊎_elim (λ k. a (sym e ∙ k)) (λ k. b (sym e ∙ k)) (head_file s.records head n owns)

    here : place_of (rel_rec s.records rel) n ≡ 16
    here = ap (λ z. cond (nat_eq z n) 16 24) ends.source ∙ ap (λ b. cond b 16 24) (eq_true n n refl)

    there : place_of (rel_rec s.records rel) m ≡ 24
    there = ap (λ z. cond (nat_eq z m) 16 24) ends.source ∙ ap (λ b. cond b 16 24) (eq_false n m ne)

-- ---- which record is blamed

-- an end that isn't found
pub end_taken : (s m : State) (id : ℕ) (rel : RelRow) (node : ℕ) → (node ≡ rel.from) ⊎ (node ≡ rel.to) → LeavesEdge s m id → (damage : Damage)
    → IsSoughtDamage m id node rel.label damage → IsTakenDamage s id rel damage
end_taken s m id rel node which left damage told = Sought damage node m which left told

-- seen from before
pub taken_before : (s m : State) (id : ℕ) (rel : RelRow) → LeavesEdge s m id → (damage : Damage) → IsTakenDamage m id rel damage → IsTakenDamage s id rel damage
taken_before s m id rel left damage (Sought _ node mid which later told) = Sought damage node mid which (edge_then s m mid id left later) told
taken_before s m id rel left damage (Parted _ mid later told) = Parted damage mid (edge_then s m mid id left later) told
taken_before s m id rel left damage (Undropped _ mid later told) = Undropped damage mid (edge_then s m mid id left later) told

-- ---- the rows of relationships where one is taken out of a chain: links alone are set

module _ (s : State) (head : Head) (n rel d : ℕ) (elsewhere : head.key.file ≢ format.relationships_file) (x : ℕ) where
  module _ (m at : ℕ) (fits : at + m ≤ 64) (out : (at + m ≤ 16) ⊎ (32 ≤ at)) where
    abbrev IsKept : Records → Type 0
    IsKept q = field m (rel_rec q x) at ≡ field m (rel_rec s.records x) at

    kept_set : (q : Records) (p : Head) (to : ℕ) → (key_in format.relationships_file x ≡ p.key → (16 ≤ p.field) × (p.field ≤ 28)) → IsKept q
        → IsKept (set_at q p to)
    kept_set q p to here was = field-set_other q p to (key_in format.relationships_file x) m at fits
        (λ e. let b = here e in ⊎_elim (λ (k : at + m ≤ 16). inl (omega (arith, k, b.0))) (λ (k : 32 ≤ at). inr (omega (arith, k, b.1))) out) ∙ was

    aside_two : (p : ℕ) → (16 ≤ p) × (p ≤ 28) → (p + 4 ≤ at) ⊎ (at + m ≤ p)
    aside_two p b = ⊎_elim (λ (k : at + m ≤ 16). inr (omega (arith, k, b.0))) (λ (k : 32 ≤ at). inl (omega (arith, k, b.1))) out

    kept_freed : IsKept (after_put (after_get s) (key_in format.relationships_file rel) (alone (s.records (key_in format.relationships_file rel)) n)).records
    kept_freed =
        let r = rel_rec s.records rel in
        let p = place_of r n in
        let b = pair_low p (pair_is r n) in
        ⊎_elim
        (λ (e : x ≡ rel). subst (λ y. field m (rel_rec (after_put (after_get s) (key_in format.relationships_file rel) (alone r n)).records y) at ≡ field m
        (rel_rec s.records y) at) (sym e)
        (ap (λ z. field m z at) (put_same s.records (key_in format.relationships_file rel) (alone r n))
        ∙ field-with_field_other 4 (with_field 4 r p format.nil) (p + 4) format.nil m at fits (aside_two (p + 4) (omega (arith, b.0), omega (arith, b.1)))
        ∙ field-with_field_other 4 r p format.nil m at fits (aside_two p (b.0, omega (arith, b.1)))))
        (λ (ne : x ≢ rel). ap (λ z. field m z at) (put_other s.records (key_in format.relationships_file rel) (alone r n) (key_in format.relationships_file x)
        (λ e. ne (ap (λ (k : Key). k.id) e))))
        (nat_cases x rel)

    prev_bounds : (q : Records) (y : ℕ) → (16 ≤ (prev_place q n y).field) × ((prev_place q n y).field ≤ 28)
    prev_bounds q y = let b = pair_low (place_of (rel_rec q y) n) (pair_is (rel_rec q y) n) in (b.0, omega (arith, b.1))

    next_bounds : (q : Records) (y : ℕ) → (16 ≤ (next_place q n y).field) × ((next_place q n y).field ≤ 28)
    next_bounds q y = let b = pair_low (place_of (rel_rec q y) n) (pair_is (rel_rec q y) n) in (omega (arith, b.0), omega (arith, b.1))

    kept_unlinked : IsKept (unlinked s head n rel).records
    unfolding unlinked led backed
    kept_unlinked =
        let before = prev_of s.records n rel in
        let after = next_of s.records n rel in
        let free = after_put (after_get s) (key_in format.relationships_file rel) (alone (s.records (key_in format.relationships_file rel)) n) in
        let back = backed free n after before in
        let now : IsKept back.records
        = on_test (λ (z : State). IsKept z.records) after format.nil free (prev_set free n after before) (λ _. kept_freed)
        (λ _. kept_set free.records (prev_place free.records n after) before (λ _. prev_bounds free.records after) kept_freed) in
        on_test (λ (z : State). IsKept z.records) before format.nil (number_set back head after) (next_set back n before after)
        (λ _. kept_set back.records head after (λ e. absurd (elsewhere (sym (ap (λ (k : Key). k.file) e)))) now)
        (λ _. kept_set back.records (next_place back.records n before) after (λ _. next_bounds back.records before) now)

    kept_parted : IsKept (parted s head n rel d).records
    unfolding parted
    kept_parted =
        let u = unlinked s head n rel in
        let t = tallied one_less u head in
        ap (λ z. field m z at) (put_other t.records (key_in format.nodes_file n) (with_field 4 (t.records (key_in format.nodes_file n)) format.node_degree d)
        (key_in format.relationships_file x) (λ e. let f = ap (λ (k : Key). k.file) e in omega arith)
        ∙ file-tallied one_less u head (key_in format.relationships_file x) (λ e. omega arith)) ∙ kept_unlinked

  pub row_parted : head.key.file ≢ format.meta_file → rel_at (parted s head n rel d).records x ≡ rel_at s.records x
  row_parted no_meta = λ i. row_if (kind i) (record {
    id = x;
    label = number format.relationship_type (omega arith) (inl (omega arith)) i;
    from = number
        format.relationship_source (omega arith) (inl (omega arith)) i;
    to = number format.relationship_target (omega arith) (inl (omega arith)) i;
    property =
        number format.relationship_first_property (omega arith) (inr (omega arith)) i;
  })
    where
      number : (at : ℕ) → at + 4 ≤ 64 → (at + 4 ≤ 16) ⊎ (32 ≤ at) → field 4 (rel_rec (parted s head n rel d).records x) at ≡ field 4 (rel_rec s.records x) at
      number at fits out = kept_parted 4 at fits out

      mark : high (parted s head n rel d).records format.relationships_file ≡ high s.records format.relationships_file
      mark = ap (λ z. (metas.meta_of z).high) (record_parted s head n rel d (meta_key_of format.relationships_file) (λ e. omega arith)
          (λ e. no_meta (sym (ap (λ (k : Key). k.file) e))) (λ e. let f = ap (λ (k : Key). k.file) e in omega arith))

      kind : kind_at (parted s head n rel d).records format.relationships_file x ≡ kind_at s.records format.relationships_file x
      kind = ap (λ k. kind_in k (rel_rec (parted s head n rel d).records x) x) mark
          ∙ kind_by (high s.records format.relationships_file) (rel_rec (parted s head n rel d).records x) (rel_rec s.records x) x
          (kept_parted 1 format.kind (omega arith) (inl (omega arith)))

-- of a head that the node owns
pub row_still : (s u : State) (head : Head) (n rel d : ℕ) → IsHeadOf s.records head n → u ≡ parted s head n rel d → (x : ℕ)
    → rel_at u.records x ≡ rel_at s.records x
row_still s u head n rel d owns is x = ap (λ (z : State). rel_at z.records x) is
    ∙ row_parted s head n rel d (not_in format.relationships_file (omega arith) (omega arith)) x (not_in format.meta_file (omega arith) (omega arith))
  where
    not_in : (file : ℕ) → file ≢ format.nodes_file → file ≢ format.groups_file → head.key.file ≢ file
    not_in file a b e = ⊎_elim (λ k. a (sym e ∙ k)) (λ k. b (sym e ∙ k)) (head_file s.records head n owns)
