-- Heads of nodes where a group is made, a relationship comes into one, or a node becomes dense, whatever the records are.
use Rattle.std.proofs.Common.{◌≡◌, ◌≢◌, ◌⊎◌, ℕ, ◌+◌, ◌<◌, ◌≤◌, ◌^◌, Some, sym, ap, ◌∙◌, subst, inl, inr, arith, refl}
use Rattle.id_freelist.specs.Taking.{IsUndamaged, taken, taken_id}
use Rattle.node_store.specs.NodeRecord.{node_key}
use Rattle.rec_bytes.specs.declared.key.Key.{Key}
use Rattle.rec_bytes.specs.declared.record.Rec.{Rec}
use Rattle.rec_bytes.specs.Format as format
use Rattle.rec_bytes.specs.Meta as metas
use Rattle.rec_bytes.specs.Record.{field}
use Rattle.rec_bytes.specs.RecordFiles.{meta_key_of}
use Rattle.rec_bytes.specs.Space.{State, after_get, meta_of}
use Rattle.rec_bytes.proofs.Spaces.{put_other}
use Rattle.rec_bytes.specs.Tables.{field_at}
use Rattle.store_rules.specs.Breaking.{IsHeadOf, IsOwnedBy}
use Rattle.store_rules.specs.Rules.{Head, first_of}
use Rattle.store_rules.specs.Views.{GroupRow, Records, group_at, group_in, high, is_group_kind, kind_at, kind_in, rec_at}
use Rattle.store_rules.proofs.ViewLaws.{kind_by, kind_low, row_some, some_row}
use Rattle.store_rules.proofs.NumberLaws.{nat_cases}
use Rattle.std.proofs.Common.{⊎_elim}
use Rattle.chain_edit.specs.Links as links
use Rattle.chain_edit.specs.Pushing.{pushed}
use Rattle.chain_edit.proofs.LinkLaws.{elsewhere-set_prev}
use Rattle.group_store.specs.Counting.{one_more, tallied}
use Rattle.group_store.specs.GroupChain.{IsDense}
use Rattle.group_store.specs.GroupRecord.{group_key}
use Rattle.group_store.specs.Leaving.{KeepsHeads, KeepsOtherHeads}
use Rattle.group_store.specs.Making.{IsEmptyOf, empty_fields, empty_group, led}
use Rattle.group_store.specs.Sides.{group_head}
use Rattle.group_store.specs.Spreading.{cleared}
use Rattle.group_store.specs.declared.side.Side.{Side}
use Rattle.group_store.specs.declared.side.Side.TheVariants.{Out, In as Into, Loop}
use Rattle.group_store.proofs.Clearing.{clear_of}
use Rattle.group_store.proofs.DenseStays.{led_kind, pushed_other, taken_other}
use Rattle.group_store.proofs.KeptHeads.{alike_by, group_grown, heads_alike, place_first}
use Rattle.group_store.proofs.Leadings.{pushed_field, taken_marks}
use Rattle.group_store.proofs.Makes.{group_stays, kind-empty_group, meta_stays, new, number-empty_group, number_aside, number_here, stays}
use Rattle.group_store.proofs.Tallies.{field-tallied, file-tallied}

-- a dense node has the heads of a group in use that it owns
pub owned_head : (s : Records) (node g : ℕ) (side : Side) → IsDense s node → IsOwnedBy s node g → IsHeadOf s (group_head g side) node
owned_head s node g side dense own = inr (record {
  dense = dense;
  row = group_in (rec_at s format.groups_file g) g;
  group = row_some (kind_at s format.groups_file g) (group_in (rec_at s format.groups_file g) g) own.used;
  owner = own.owner;
  key = refl;
  field = place_first side;
})

-- other nodes have their heads still
pub others_then : (s t u : State) (node : ℕ) → KeepsOtherHeads s t node → KeepsHeads t u → KeepsOtherHeads s u node
others_then s t u node a b h n ne o = b h n (a h n ne o)

pub others_of : (s t : State) (node : ℕ) → KeepsHeads s t → KeepsOtherHeads s t node
others_of s t node a h n ne o = a h n o

-- ---- a group that is made

module _ (now u : State) (node label first id : ℕ) (rec : Rec) (took : u ≡ taken now format.groups_file)
    (id_is : id ≡ taken_id (meta_of now format.groups_file)) (undamaged : IsUndamaged now format.groups_file)
    (fresh : kind_at now.records format.groups_file id ≡ format.free_kind) (rec_is : rec ≡ empty_group node label first) (small : id < 2 ^ 25)
    (small_node : node < 2 ^ 32) (small_label : label < 2 ^ 32) (small_first : first < 2 ^ 32) where
  abbrev after : State
  after = new u node first id rec

  marks : (high now.records format.groups_file ≤ high u.records format.groups_file) × (id < high u.records format.groups_file)
  marks = subst (λ (q : State). (high now.records format.groups_file ≤ high q.records format.groups_file) × (id < high q.records format.groups_file)) (sym took)
      (taken_marks now id id_is small undamaged)

  mark : high after.records format.groups_file ≡ high u.records format.groups_file
  mark = ap (λ r. (metas.meta_of r).high) (meta_stays u node first id rec)

  took_other : (key : Key) → key ≢ meta_key_of format.groups_file → u.records key ≡ now.records key
  took_other key ne = ap (λ (q : State). q.records key) took ∙ taken_other now key ne

  kind_new : kind_at after.records format.groups_file id ≡ format.counted
  kind_new =
      let m = mark in
      let low = marks.1 in
      kind_low (high after.records format.groups_file) (rec_at after.records format.groups_file id) id (omega arith)
      ∙ number_here u node first id rec 1 format.kind (omega arith) ∙ ap (λ r. field 1 r format.kind) rec_is
      ∙ kind-empty_group node label first small_node small_label small_first

  value : (at v : ℕ) → at + 4 ≤ 64 → (at + 4 ≤ 12) ⊎ (16 ≤ at) → field_at (empty_fields node label first) 4 at ≡ Some v
      → field 4 (rec_at after.records format.groups_file id) at ≡ v
  value at v fits apart is = number_aside u node first id rec 4 at fits apart ∙ ap (λ r. field 4 r at) rec_is
      ∙ number-empty_group node label first at v small_node small_label small_first is

  none_new : (side : Side) → first_of after.records (group_head id side) ≡ format.nil
  none_new Out = value format.group_first_out format.nil (omega arith) (inr (omega arith)) refl
  none_new Into = value format.group_first_in format.nil (omega arith) (inr (omega arith)) refl
  none_new Loop = value format.group_first_loop format.nil (omega arith) (inr (omega arith)) refl

  empty_new : IsEmptyOf after.records node id
  empty_new = record {
    group = record { kind = ap is_group_kind kind_new; owner = value format.group_owner node (omega arith) (inl (omega arith)) refl };
    none = none_new;
  }

  group_new : (g : ℕ) (row : GroupRow) → group_at now.records g ≡ Some row → group_at after.records g ≡ Some row
  group_new g row is =
      let r = rec_at now.records format.groups_file g in
      let was = some_row (kind_at now.records format.groups_file g) (group_in r g) row is in
      let ne : g ≢ id = λ e. was.0 (ap (kind_at now.records format.groups_file) e ∙ fresh) in
      let number : (n at : ℕ) → at + n ≤ 12 → field n (rec_at after.records format.groups_file g) at ≡ field n r at
      = λ n at low. group_stays u node first id rec g n at (omega arith) ne (λ _. inl low)
      ∙ ap (λ r. field n r at) (took_other (group_key g) (λ e. let f = ap (λ (k : Key). k.file) e in absurd (omega arith))) in
      let m = mark in
      let grown = marks.0 in
      group_grown now.records after.records g row (omega arith) (λ some z. some (sym (number 1 format.kind (omega arith)) ∙ z))
      (number 4 format.group_type (omega arith)) (number 4 format.group_owner (omega arith)) is

  node_mark : high after.records format.nodes_file ≡ high now.records format.nodes_file
  node_mark = ap (λ r. (metas.meta_of r).high) (stays u node first id rec (meta_key_of format.nodes_file)
      (λ e. let f = ap (λ (k : Key). k.file) e in absurd (omega arith)) (λ e. let f = ap (λ (k : Key). k.file) e in absurd (omega arith))
      (λ e. let f = ap (λ (k : Key). k.file) e in absurd (omega arith))
      ∙ took_other (meta_key_of format.nodes_file) (λ e. let f = ap (λ (k : Key). k.id) e in absurd (omega arith)))

  own_byte : field 1 (rec_at after.records format.nodes_file node) format.kind ≡ field 1 (rec_at u.records format.nodes_file node) format.kind
  unfolding new
  own_byte = led_kind u node first id rec

  node_byte : (n : ℕ) → field 1 (rec_at after.records format.nodes_file n) format.kind ≡ field 1 (rec_at now.records format.nodes_file n) format.kind
  node_byte n = ⊎_elim
      (λ (e : n ≡ node). subst (λ k. field 1 (rec_at after.records format.nodes_file k) format.kind ≡ field 1 (rec_at u.records format.nodes_file k)
      format.kind) (sym e) own_byte)
      (λ (ne : n ≢ node). ap (λ r. field 1 r format.kind) (stays u node first id rec (node_key n) (λ e. ne (ap (λ (k : Key). k.id) e))
      (λ e. let f = ap (λ (k : Key). k.file) e in absurd (omega arith)) (λ e. let f = ap (λ (k : Key). k.file) e in absurd (omega arith)))) (nat_cases n node)
      ∙ ap (λ r. field 1 r format.kind) (took_other (node_key n) (λ e. let f = ap (λ (k : Key). k.file) e in absurd (omega arith)))

  heads_new : KeepsHeads now after
  heads_new = heads_alike now.records after.records (record {
    nodes = λ n. ap (λ m. kind_in m (rec_at after.records format.nodes_file n) n) node_mark
        ∙ kind_by (high now.records format.nodes_file) (rec_at after.records format.nodes_file n) (rec_at now.records format.nodes_file n) n (node_byte n);
    groups = group_new;
  })

  empty_led : IsEmptyOf (led u node first id rec).records node id
  unfolding new
  empty_led = empty_new

  heads_led : KeepsHeads now (led u node first id rec)
  unfolding new
  heads_led = heads_new

  -- by the space before it and after it
  module _ (s end : State) (read : now ≡ after_get s) (is : end ≡ led u node first id rec) where
    pub empty_made : IsEmptyOf end.records node id
    empty_made = subst (λ (t : State). IsEmptyOf t.records node id) (sym is) empty_led

    pub heads_made : KeepsHeads s end
    heads_made = subst (λ (t : State). KeepsHeads s t) (sym is) (subst (λ (z : State). KeepsHeads z (led u node first id rec)) read heads_led)

-- ---- a relationship that comes into a group

pub heads_freed : (m t : State) (node rel : ℕ) → t ≡ links.prev_set m node rel format.nil → KeepsHeads m t
heads_freed m t node rel freed = heads_alike m.records t.records (alike_by m.records t.records (mark format.nodes_file) (mark format.groups_file)
    (λ n. ap (λ r. field 1 r format.kind) (other (node_key n) (omega arith))) (λ g n at low. ap (λ r. field n r at) (other (group_key g) (omega arith))))
  where
    other : (key : Key) → key.file ≢ format.relationships_file → t.records key ≡ m.records key
    other key a = ap (λ (q : State). q.records key) freed ∙ elsewhere-set_prev m.records node rel format.nil key a

    mark : (f : ℕ) → high t.records f ≡ high m.records f
    mark f = ap (λ r. (metas.meta_of r).high) (other (meta_key_of f) (omega arith))

pub heads_pushed : (t end : State) (node rel : ℕ) (h : Head) → h.key.file ≡ format.groups_file → 12 ≤ h.field → end ≡ tallied one_more (pushed t h node rel) h
    → KeepsHeads t end
heads_pushed t end node rel h group high_field put = heads_alike t.records end.records
    (alike_by t.records end.records (mark format.nodes_file) (mark format.groups_file)
    (λ n. ap (λ r. field 1 r format.kind) (other (node_key n) (omega arith) (omega arith)))
    (λ g n at low. ap (λ (q : State). field n (q.records (group_key g)) at) put ∙ field-tallied one_more (pushed t h node rel) h (group_key g) n at
    (omega arith)
    ∙ pushed_field t h node rel g n at (omega arith) (λ _. inl (omega arith))))
  where
    other : (key : Key) → key.file ≢ format.relationships_file → key.file ≢ format.groups_file → end.records key ≡ t.records key
    other key a b = ap (λ (q : State). q.records key) put ∙ file-tallied one_more (pushed t h node rel) h key b
        ∙ pushed_other t h node rel key a (λ e. b (ap (λ (k : Key). k.file) e ∙ group))

    mark : (f : ℕ) → high end.records f ≡ high t.records f
    mark f = ap (λ r. (metas.meta_of r).high) (other (meta_key_of f) (omega arith) (omega arith))

-- ---- a node that becomes dense

pub heads_cleared : (s t : State) (node : ℕ) → t ≡ cleared s node → KeepsOtherHeads s t node
heads_cleared s t node is h n ne o = subst (λ (z : State). IsHeadOf z.records h n) (sym is) (by o)
  where
    other : (key : Key) → key ≢ node_key node → (cleared s node).records key ≡ s.records key
    other key a = put_other s.records (node_key node) (clear_of (s.records (node_key node))) key a

    mark : (f : ℕ) → high (cleared s node).records f ≡ high s.records f
    mark f = ap (λ r. (metas.meta_of r).high) (other (meta_key_of f) (λ e. let k = ap (λ (k : Key). k.file) e in absurd (omega arith)))

    kind : kind_at (cleared s node).records format.nodes_file n ≡ kind_at s.records format.nodes_file n
    kind = ap (λ m. kind_in m (rec_at (cleared s node).records format.nodes_file n) n) (mark format.nodes_file)
        ∙ ap (λ r. kind_in (high s.records format.nodes_file) r n) (other (node_key n) (λ e. ne (ap (λ (k : Key). k.id) e)))

    group : (g : ℕ) (row : GroupRow) → group_at s.records g ≡ Some row → group_at (cleared s node).records g ≡ Some row
    group g row there =
        let same = other (group_key g) (λ e. let k = ap (λ (k : Key). k.file) e in absurd (omega arith)) in
        let m = mark format.groups_file in
        group_grown s.records (cleared s node).records g row (omega arith) (λ some z. some (ap (λ r. field 1 r format.kind) (sym same) ∙ z))
        (ap (λ r. field 4 r format.group_type) same) (ap (λ r. field 4 r format.group_owner) same) there

    by : IsHeadOf s.records h n → IsHeadOf (cleared s node).records h n
    by (inl o) = inl (record { sparse = kind ∙ o.sparse; is = o.is })
    by (inr o) = inr (record { dense = kind ∙ o.dense; row = o.row; group = group o.row.id o.row o.group; owner = o.owner; key = o.key; field = o.field })
