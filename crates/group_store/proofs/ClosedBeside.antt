-- Records that stay where a chain of groups is closed, whatever they are.
use Rattle.std.proofs.Common.{◌≡◌, ◌≢◌, ◌∙◌, ℕ, ◌-◌, Bool, true, false, ap, refl}
use Rattle.rec_bytes.specs.declared.key.Key.{Key}
use Rattle.rec_bytes.specs.Format as format
use Rattle.rec_bytes.specs.Meta.{with_meta}
use Rattle.rec_bytes.specs.Record.{with_field}
use Rattle.rec_bytes.specs.RecordFiles.{meta_key_of}
use Rattle.rec_bytes.specs.Space.{SameButReads, State, after_get, after_put, meta_of}
use Rattle.rec_bytes.proofs.Spaces.{put_other, put_other_file}
use Rattle.id_freelist.specs.FreeLists.{free_record}
use Rattle.store_rules.specs.Views.{key_in}
use Rattle.store_rules.proofs.ChainSteps.{on_test}
use Rattle.node_store.specs.NodeRecord.{node_key}
use Rattle.group_store.specs.Closing.{KeepsBesideGroups}
use Rattle.group_store.specs.Dropping.{dropped, follows}
use Rattle.group_store.specs.GroupChain.{next_group, previous_group}
use Rattle.group_store.specs.GroupRecord.{group_key}
use Rattle.group_store.specs.Links.{backed, link_set}

module _ (q : Key) (no_node : q.file ≢ format.nodes_file) (no_group : q.file ≢ format.groups_file) where
  backed_beside : (s : State) (g to : ℕ) → (backed s g to).records q ≡ s.records q
  unfolding backed
  backed_beside s g to = on_test (λ (z : State). z.records q ≡ s.records q) g format.nil s (link_set s g format.group_previous to) (λ _. refl)
      (λ _. put_other_file s.records (group_key g) (with_field 4 (s.records (group_key g)) format.group_previous to) q no_group)

  follows_beside : (s : State) (node before after : ℕ) → (follows s node before after).records q ≡ s.records q
  unfolding follows
  follows_beside s node before after = on_test (λ (z : State). z.records q ≡ s.records q) before format.nil _ (link_set s before format.group_next after)
      (λ _. put_other_file s.records (node_key node) (with_field 4 (s.records (node_key node)) format.node_first_link after) q no_node)
      (λ _. put_other_file s.records (group_key before) (with_field 4 (s.records (group_key before)) format.group_next after) q no_group)

  dropped_beside : (s : State) (node g : ℕ) → q ≢ meta_key_of format.groups_file → (dropped s node g).records q ≡ s.records q
  unfolding dropped
  dropped_beside s node g no_meta =
      let before = previous_group s.records g in
      let after = next_group s.records g in
      let back = backed (after_get s) after before in
      let l = follows back node before after in
      let m = meta_of l format.groups_file in
      let freed = after_put l (key_in format.groups_file g) (free_record m.free) in
      put_other freed.records (meta_key_of format.groups_file) (with_meta (freed.records (meta_key_of format.groups_file))
      (record { high = m.high; free = g; live = m.live - 1 })) q no_meta
      ∙ put_other_file l.records (key_in format.groups_file g) (free_record m.free) q no_group
      ∙ follows_beside back node before after
      ∙ backed_beside (after_get s) after before

-- the group of a head that is closed
pub beside_closed : (s t : State) (node g : ℕ) → (gone : Bool) → (gone ≡ false → SameButReads s t) → (gone ≡ true → t ≡ dropped s node g)
    → KeepsBesideGroups s t
beside_closed s t node g true kept is = λ q no_node no_group no_meta.
    ap (λ (z : State). z.records q) (is refl) ∙ dropped_beside q no_node no_group s node g no_meta
beside_closed s t node g false kept is = λ q no_node no_group no_meta. ap (λ (z : State). z.records q) (kept refl)
