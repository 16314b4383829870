-- What changes of a node's groups leave of all other records, one after another.
use Rattle.std.proofs.Common.{◌≡◌, ◌≢◌, ◌⊎◌, ℕ, ◌+◌, ◌<◌, ◌≤◌, nat_eq, Bool, true, false, cond, Some, sym, ap, ◌∙◌, subst, inl, inr, ⊎_elim, arith, refl}
use Rattle.rec_bytes.specs.declared.key.Key.{Key}
use Rattle.rec_bytes.specs.declared.record.Rec.{Rec}
use Rattle.rec_bytes.specs.Format as format
use Rattle.rec_bytes.specs.Record.{field}
use Rattle.rec_bytes.specs.Space.{SameButReads, State, put}
use Rattle.rec_bytes.proofs.Spaces.{put_other, put_other_file}
use Rattle.store_rules.specs.Chains.{place_of}
use Rattle.store_rules.specs.Ends.{Regroups}
use Rattle.store_rules.specs.Views.{GroupRow, Records, group_at, group_in, high, key_in, kind_at, rec_at}
use Rattle.store_rules.proofs.GroupLaws.{same_group}
use Rattle.store_rules.proofs.ViewLaws.{kind_below, kind_low, some_row}
use Rattle.group_store.specs.GroupRecord.{group_key}
use Rattle.group_store.specs.Leaving.{IsBesideLinks, IsEndIn, LeavesOthers}

-- reads alone
pub leaves_read : (s t : State) (node : ℕ) → SameButReads s t → LeavesOthers s t node
leaves_read s t node same = subst (λ (q : State). LeavesOthers s q node) (sym same) (record {
  files = λ key a b c d. refl;
  nodes = λ x n at inside ne. refl;
  here = λ n at inside one apart. refl;
  rels = λ x n at some inside beside. refl;
  groups = λ g group is ne n at inside. refl;
})

-- the links stand past the ends
pub place_late : (r : Rec) (node : ℕ) → 16 ≤ place_of r node
place_late r node = by (nat_eq (field 4 r 8) node)
  where
    by : (b : Bool) → 16 ≤ cond b 16 24
    by true = omega arith
    by false = omega arith

-- where the ends stay the same bytes stand beside the links
pub beside_same : (r q : Rec) (node n at : ℕ) → field 4 q 8 ≡ field 4 r 8 → field 4 q 12 ≡ field 4 r 12 → IsBesideLinks r node n at → IsBesideLinks q node n at
beside_same r q node n at source target beside end =
    let place : place_of q node ≡ place_of r node = ap (λ v. cond (nat_eq v node) 16 24) source in
    let was : IsEndIn r node = ⊎_elim (λ e. inl (sym source ∙ e)) (λ e. inr (sym target ∙ e)) end in
    subst (λ p. (at + n ≤ p) ⊎ (p + 8 ≤ at)) (sym place) (beside was)

-- the ends of a relationship
ends_beside : (r : Rec) (node at : ℕ) → at ≤ 12 → IsBesideLinks r node 4 at
ends_beside r node at low end = inl (let p = place_late r node in omega arith)

pub leaves_both : (s m t : State) (node : ℕ) → Regroups s m node → LeavesOthers s m node → LeavesOthers m t node → LeavesOthers s t node
leaves_both s m t node regroups h k = record {
  files = λ key a b c d. k.files key a b c d ∙ h.files key a b c d;
  nodes = λ x n at inside ne. k.nodes x n at inside ne ∙ h.nodes x n at inside ne;
  here = λ n at inside one apart. k.here n at inside one apart ∙ h.here n at inside one apart;
  rels = λ x n at some inside beside.
      let r = rec_at s.records format.relationships_file x in
      let q = rec_at m.records format.relationships_file x in
      k.rels x n at some inside (beside_same r q node n at (h.rels x 4 8 some (omega arith) (ends_beside r node 8 (omega arith)))
      (h.rels x 4 12 some (omega arith) (ends_beside r node 12 (omega arith))) beside)
      ∙ h.rels x n at some inside beside;
  groups = λ g group is ne n at inside. k.groups g group (regroups.groups g group is ne) ne n at inside ∙ h.groups g group is ne n at inside;
}

-- groups of other nodes are of the kind that they were
pub group_kinds : (s t : State) (node : ℕ) → Regroups s t node → LeavesOthers s t node → (g : ℕ) (group : GroupRow) → group_at s.records g ≡ Some group
    → group.owner ≢ node → kind_at t.records format.groups_file g ≡ kind_at s.records format.groups_file g
group_kinds s t node regroups leaves g group is ne =
    kind_low (high t.records format.groups_file) (rec_at t.records format.groups_file g) g (below t (regroups.groups g group is ne))
    ∙ leaves.groups g group is ne 1 format.kind (omega arith)
    ∙ sym (kind_low (high s.records format.groups_file) (rec_at s.records format.groups_file g) g (below s is))
  where
    below : (z : State) → group_at z.records g ≡ Some group → g < high z.records format.groups_file
    below z at =
        let r = rec_at z.records format.groups_file g in
        kind_below (high z.records format.groups_file) r g (some_row (kind_at z.records format.groups_file g) (group_in r g) group at).0

-- the record of a group of the node is replaced
pub leaves_put : (s t : State) (node g : ℕ) (rec : Rec) (row : GroupRow) → group_at s.records g ≡ Some row → row.owner ≡ node
    → t.records ≡ put s.records (group_key g) rec → LeavesOthers s t node
leaves_put s t node g rec row group owner is = record {
  files = λ key a b c d. ap (λ (r : Records). r key) is ∙ put_other_file s.records (group_key g) rec key c;
  nodes = λ x n at inside ne. ap (λ (r : Records). field n (rec_at r format.nodes_file x) at) is;
  here = λ n at inside one apart. ap (λ (r : Records). field n (rec_at r format.nodes_file node) at) is;
  rels = λ x n at some inside beside. ap (λ (r : Records). field n (rec_at r format.relationships_file x) at) is;
  groups = λ k q there ne n at inside. ap (λ (r : Records). field n (rec_at r format.groups_file k) at) is
      ∙ ap (λ r. field n r at) (put_other s.records (group_key g) rec (key_in format.groups_file k)
      (λ e. ne (ap (λ (z : GroupRow). z.owner) (same_group q row (sym there ∙ ap (λ (z : Key). group_at s.records z.id) e ∙ group)) ∙ owner)));
}
