-- A node that is dense, where its first link or the chains of its groups change.
use Rattle.std.proofs.Common.{◌≡◌, ◌≢◌, ℕ, ◌<◌, sym, ap, ◌∙◌, subst, inl, arith}
use Rattle.rec_bytes.specs.declared.key.Key.{Key}
use Rattle.rec_bytes.specs.declared.record.Rec.{Rec}
use Rattle.rec_bytes.specs.Format as format
use Rattle.rec_bytes.specs.Meta as metas
use Rattle.rec_bytes.specs.Record.{field, with_field}
use Rattle.rec_bytes.specs.RecordFiles.{meta_key_of}
use Rattle.rec_bytes.specs.Space.{State, after_get, after_put, after_set, meta_of}
use Rattle.rec_bytes.proofs.Spaces.{put_other, put_same}
use Rattle.node_store.specs.NodeRecord.{node_key}
use Rattle.id_freelist.specs.Taking.{free_taken, mark_taken, taken, taken_id}
use Rattle.store_rules.specs.Rules.{Head, first_of}
use Rattle.store_rules.specs.Views.{Records, first_link, high, kind_at, rec_at}
use Rattle.store_rules.proofs.ViewLaws.{kind_below, kind_low}
use Rattle.chain_edit.specs.Links as links
use Rattle.chain_edit.specs.Pushing.{pushed}
use Rattle.store_rules.proofs.ChainSteps.{on_test}
use Rattle.chain_edit.proofs.Edits.{elsewhere-backed}
use Rattle.chain_edit.proofs.LinkLaws.{elsewhere-set_next, elsewhere-set_prev, field-set_other}
use Rattle.group_store.specs.Counting.{one_more, tallied}
use Rattle.group_store.specs.GroupChain.{IsDense}
use Rattle.group_store.specs.GroupRecord.{group_key}
use Rattle.group_store.specs.Links.{backed}
use Rattle.group_store.specs.Making.{empty_group, led, made}
use Rattle.group_store.specs.Spreading.{cleared}
use Rattle.group_store.proofs.Clearing.{clear_kind, clear_of}
use Rattle.group_store.proofs.Makes.{new, stays}
use Rattle.group_store.proofs.Tallies.{file-tallied}

dense_by : (s t : Records) (node : ℕ) → high t format.nodes_file ≡ high s format.nodes_file
    → field 1 (rec_at t format.nodes_file node) format.kind ≡ field 1 (rec_at s format.nodes_file node) format.kind → IsDense s node → IsDense t node
dense_by s t node marks byte dense =
    let low : node < high s format.nodes_file = kind_below (high s format.nodes_file) (rec_at s format.nodes_file node) node
    (λ e. let k = sym e ∙ dense in absurd (omega arith)) in
    kind_low (high t format.nodes_file) (rec_at t format.nodes_file node) node (subst (λ m. node < m) (sym marks) low) ∙ byte
    ∙ sym (kind_low (high s format.nodes_file) (rec_at s format.nodes_file node) node low) ∙ dense

-- ---- a group that is made

pub taken_other : (s : State) (key : Key) → key ≢ meta_key_of format.groups_file → (taken s format.groups_file).records key ≡ s.records key
unfolding mark_taken free_taken
taken_other s key ne = on_test (λ (q : State). q.records key ≡ s.records key) (meta_of s format.groups_file).free format.nil (mark_taken s format.groups_file)
    (free_taken s format.groups_file)
    (λ _. put_other s.records (meta_key_of format.groups_file) _ key ne) (λ _. put_other s.records (meta_key_of format.groups_file) _ key ne)

module _ (u : State) (node first id : ℕ) (rec : Rec) where
  led_stays : (key : Key) → key ≢ node_key node → key ≢ group_key id → key ≢ group_key first → (led u node first id rec).records key ≡ u.records key
  unfolding new
  led_stays key a b c = stays u node first id rec key a b c

  no_group : (g : ℕ) → node_key node ≢ group_key g
  no_group g e = let f = ap (λ (k : Key). k.file) e in absurd (omega arith)

  put_node : (after_put u (group_key id) rec).records (node_key node) ≡ u.records (node_key node)
  put_node = put_other u.records (group_key id) rec (node_key node) (no_group id)

  pub led_kind : field 1 ((led u node first id rec).records (node_key node)) format.kind ≡ field 1 (u.records (node_key node)) format.kind
  unfolding led backed
  led_kind =
      let t = after_put u (group_key id) rec in
      field-set_other (backed t first id).records (record { key = node_key node; field = format.node_first_link }) id (node_key node) 1 format.kind
      (omega arith) (λ _. inl (omega arith))
      ∙ ap (λ r. field 1 r format.kind) (on_test (λ (q : State). q.records (node_key node) ≡ u.records (node_key node)) first format.nil t
      (after_set t (group_key first) 4 format.group_previous id) (λ _. put_node)
      (λ _. put_other t.records (group_key first) (with_field 4 (t.records (group_key first)) format.group_previous id) (node_key node) (no_group first)
      ∙ put_node))

-- a dense node gets a group
pub dense_made : (s : State) (node label : ℕ) → IsDense s.records node → IsDense (made s node label).records node
unfolding made
dense_made s node label dense =
    let first = first_link s.records node in
    let id = taken_id (meta_of s format.groups_file) in
    let rec = empty_group node label first in
    let u = taken (after_get s) format.groups_file in
    let meta = meta_key_of format.nodes_file in
    dense_by s.records (led u node first id rec).records node
    (ap (λ r. (metas.meta_of r).high) (led_stays u node first id rec meta (λ e. let f = ap (λ (k : Key). k.file) e in absurd (omega arith))
    (λ e. let f = ap (λ (k : Key). k.file) e in absurd (omega arith)) (λ e. let f = ap (λ (k : Key). k.file) e in absurd (omega arith))
    ∙ taken_other (after_get s) meta (λ e. let f = ap (λ (k : Key). k.id) e in absurd (omega arith))))
    (led_kind u node first id rec ∙ ap (λ r. field 1 r format.kind) (taken_other (after_get s) (node_key node) (λ e. let f = ap (λ (k : Key). k.file)
    e in absurd (omega arith)))) dense

-- ---- a relationship that comes into a group

pub pushed_other : (s : State) (h : Head) (node rel : ℕ) (key : Key) → key.file ≢ format.relationships_file → key ≢ h.key
    → (pushed s h node rel).records key ≡ s.records key
unfolding pushed
pushed_other s h node rel key file ne =
    let first = first_of s.records h in
    let b = links.backed (after_get s) node first rel in
    put_other (links.next_set b node rel first).records h.key (with_field 4 (s.records h.key) h.field rel) key ne
    ∙ elsewhere-set_next b.records node rel first key file ∙ elsewhere-backed (after_get s) node first rel key file

-- the node stays dense
pub dense_moved : (m t end : State) (node rel : ℕ) (h : Head) → h.key.file ≡ format.groups_file → t ≡ links.prev_set m node rel format.nil
    → end ≡ tallied one_more (pushed t h node rel) h → IsDense m.records node → IsDense end.records node
dense_moved m t end node rel h group freed put dense =
    dense_by m.records end.records node (ap (λ r. (metas.meta_of r).high) (other (meta_key_of format.nodes_file) (omega arith) (omega arith)))
    (ap (λ r. field 1 r format.kind) (other (node_key node) (omega arith) (omega arith))) dense
  where
    other : (key : Key) → key.file ≢ format.relationships_file → key.file ≢ format.groups_file → end.records key ≡ m.records key
    other key a b = ap (λ (q : State). q.records key) put ∙ file-tallied one_more (pushed t h node rel) h key b
        ∙ pushed_other t h node rel key a (λ e. b (ap (λ (k : Key). k.file) e ∙ group)) ∙ ap (λ (q : State). q.records key) freed
        ∙ elsewhere-set_prev m.records node rel format.nil key a

-- ---- a node that becomes dense

pub dense_cleared : (s : State) (node : ℕ) → kind_at s.records format.nodes_file node ≢ 0 → IsDense (cleared s node).records node
dense_cleared s node used =
    let old = rec_at s.records format.nodes_file node in
    let low = kind_below (high s.records format.nodes_file) old node used in
    kind_low (high s.records format.nodes_file) (rec_at (cleared s node).records format.nodes_file node) node low
    ∙ ap (λ r. field 1 r format.kind) (put_same s.records (node_key node) (clear_of old)) ∙ clear_kind old
