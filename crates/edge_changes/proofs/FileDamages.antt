-- What is wrong with relationships, or with a free list, is so after changes of other records only if it was so before.
use Rattle.std.proofs.Common.{◌≡◌, ℕ, nat_eq, not, ap, ◌∙◌, subst, inl, inr, ⊎_elim, arith, refl}
use Rattle.rec_bytes.specs.declared.damage.Damage.{Damage}
use Rattle.rec_bytes.specs.declared.key.Key.{Key}
use Rattle.rec_bytes.specs.declared.shape.Shape.{Shape}
use Rattle.rec_bytes.specs.Format as format
use Rattle.rec_bytes.specs.Meta as metas
use Rattle.rec_bytes.specs.Record.{field}
use Rattle.rec_bytes.specs.RecordFiles.{meta_key_of}
use Rattle.rec_bytes.specs.Space.{State}
use Rattle.store_rules.specs.Views.{high, key_in, kind_at, kind_in, rec_at}
use Rattle.store_rules.proofs.ViewLaws.{kind_by}
use Rattle.id_freelist.specs.ListDamage.{HarmsNoList, IsListDamage}
use Rattle.id_freelist.proofs.ListLaws.{same_back}
use Rattle.id_freelist.proofs.ListSteps.{beside_harms_none}
use Rattle.id_freelist.proofs.TakeBreaches.{list_breaks}
use Rattle.group_store.specs.Leaving.{LeavesBeside}
use Rattle.group_store.proofs.Named.{unread_before, unread_beside}
use Rattle.group_store.proofs.SparseChains.{rel_breaks}
use Rattle.change_parts.specs.Damage.{IsBroken, KeepsButNames}
use Rattle.edge_changes.specs.EdgeAdding.{HarmsNoFiles, IsFileDamage}

-- a head was found or made
module _ (s t : State) (node : ℕ) (shape : t.shape ≡ s.shape) (beside : LeavesBeside s.records t.records node) where
  meta : t.records (meta_key_of format.relationships_file) ≡ s.records (meta_key_of format.relationships_file)
  meta = beside.others (meta_key_of format.relationships_file) (λ e. omega arith) (λ e. omega arith) (λ e. let f = ap (λ (k : Key). k.id) e in omega arith)
      (λ e. let f = ap (λ (k : Key). k.file) e in omega arith)

  mark : high t.records format.relationships_file ≡ high s.records format.relationships_file
  mark = ap (λ r. (metas.meta_of r).high) meta

  kind : (x : ℕ) → kind_at t.records format.relationships_file x ≡ kind_at s.records format.relationships_file x
  kind x = ap (λ m. kind_in m (rec_at t.records format.relationships_file x) x) mark
      ∙ kind_by (high s.records format.relationships_file) (rec_at t.records format.relationships_file x) (rec_at s.records format.relationships_file x) x
      (beside.rels x 1 format.kind (omega arith) (inl (omega arith)))

  list_beside : HarmsNoList s t format.relationships_file
  list_beside d why = same_back s.records t.records s.shape format.relationships_file (record {
    meta = ap metas.meta_of meta;
    live = λ x. ap (λ k. not (nat_eq k 0)) (kind x);
    links = λ x u. beside.rels x 4 format.free_next (omega arith) (inl (omega arith));
  }) d (subst (λ (h : Shape). IsListDamage t.records h format.relationships_file d) shape why)

  pub files_beside : HarmsNoList s t format.groups_file → HarmsNoFiles s t
  files_beside groups d told = ⊎_elim (λ u. inl (unread_beside s t node shape beside d u))
      (λ l. inr (⊎_elim (λ r. inl (list_beside d r)) (λ k. inr (groups d k)) l)) told

-- names were made
pub files_beyond : (s t : State) → t.shape ≡ s.shape → KeepsButNames s t → HarmsNoFiles s t
files_beyond s t shape keeps d told = ⊎_elim
    (λ u. inl (unread_before s t shape meta (λ x. ap (λ r. field 1 r format.kind) (each x)) d u))
    (λ l. inr (⊎_elim (λ r. inl (beside_harms_none s t format.relationships_file shape meta each d r))
    (λ k. inr (beside_harms_none s t format.groups_file shape group_meta group_each d k)) l)) told
  where
    meta : t.records (meta_key_of format.relationships_file) ≡ s.records (meta_key_of format.relationships_file)
    meta = keeps (meta_key_of format.relationships_file) (λ e. omega arith) (λ e. let f = ap (λ (k : Key). k.id) e in omega arith)

    each : (x : ℕ) → rec_at t.records format.relationships_file x ≡ rec_at s.records format.relationships_file x
    each x = keeps (key_in format.relationships_file x) (λ e. omega arith) (λ e. let f = ap (λ (k : Key). k.file) e in omega arith)

    group_meta : t.records (meta_key_of format.groups_file) ≡ s.records (meta_key_of format.groups_file)
    group_meta = keeps (meta_key_of format.groups_file) (λ e. omega arith) (λ e. let f = ap (λ (k : Key). k.id) e in omega arith)

    group_each : (x : ℕ) → rec_at t.records format.groups_file x ≡ rec_at s.records format.groups_file x
    group_each x = keeps (key_in format.groups_file x) (λ e. omega arith) (λ e. let f = ap (λ (k : Key). k.file) e in omega arith)

-- one after another
pub files_then : (s t u : State) → HarmsNoFiles s t → HarmsNoFiles t u → HarmsNoFiles s u
files_then s t u first later d told = first d (later d told)

-- it breaks a rule
pub files_broken : (s : State) (d : Damage) → IsFileDamage s d → IsBroken s d
files_broken s d told = inl (⊎_elim (λ u. rel_breaks s u.0 d u.1) (λ l. ⊎_elim (list_breaks s.records s.shape format.relationships_file refl d)
    (list_breaks s.records s.shape format.groups_file refl d) l) told)
