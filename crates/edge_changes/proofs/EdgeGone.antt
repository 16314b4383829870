-- An edge that is in use no more, whatever the records are.
use Rattle.std.proofs.Common.{◌≡◌, ◌≢◌, ◌∙◌, ℕ, ◌-◌, nat_lt, Bool, true, false, cond, None, Some, ap, arith, refl}
use Rattle.rec_bytes.specs.declared.key.Key.{Key}
use Rattle.rec_bytes.specs.declared.record.Rec.{Rec}
use Rattle.rec_bytes.specs.Format as format
use Rattle.rec_bytes.specs.Meta as metas
use Rattle.rec_bytes.specs.Record.{field}
use Rattle.rec_bytes.specs.RecordFiles.{meta_key_of}
use Rattle.rec_bytes.specs.Space.{State, after_put, meta_of}
use Rattle.rec_bytes.proofs.Spaces.{put_other, put_same}
use Rattle.id_freelist.specs.FreeLists.{free_record}
use Rattle.id_freelist.specs.Giving.{given}
use Rattle.id_freelist.proofs.Leaving.{free_is_free}
use Rattle.store_rules.specs.Views.{high, key_in, kind_at, kind_in, rec_at}
use Rattle.store_rules.proofs.MetaLaws.{not_meta_key}
use Rattle.group_store.specs.Closing.{KeepsBesideGroups}
use Rattle.edge_changes.specs.EdgeDeleting.{IsUnusedEdge}

-- the record of a free identifier says so, below the mark and past it
free_in : (mark : ℕ) (r : Rec) (x : ℕ) → field 1 r format.kind ≡ format.free_kind → kind_in mark r x ≡ format.free_kind
unfolding kind_in
free_in mark r x is = by (nat_lt x mark)
  where
    by : (low : Bool) → cond low (field 1 r format.kind) 0 ≡ format.free_kind
    by true = is
    by false = refl

unused_given : (u : State) (id : ℕ) → IsUnusedEdge (given u format.relationships_file id).records id
unused_given u id =
    let m = meta_of u format.relationships_file in
    let put = after_put u (key_in format.relationships_file id) (free_record m.free) in
    let here : rec_at (given u format.relationships_file id).records format.relationships_file id ≡ free_record m.free =
    put_other put.records (meta_key_of format.relationships_file) (metas.with_meta (put.records (meta_key_of format.relationships_file))
    (record { high = m.high; free = id; live = m.live - 1 })) (key_in format.relationships_file id)
    (not_meta_key format.relationships_file id format.relationships_file refl)
    ∙ put_same u.records (key_in format.relationships_file id) (free_record m.free) in
    free_in (high (given u format.relationships_file id).records format.relationships_file)
    (rec_at (given u format.relationships_file id).records format.relationships_file id) id
    (ap (λ r. field 1 r format.kind) here ∙ free_is_free m.free)

-- its identifier was given back
pub edge_given : (u t : State) (id : ℕ) → t ≡ given u format.relationships_file id → IsUnusedEdge t.records id
edge_given u t id is = ap (λ (z : State). kind_at z.records format.relationships_file id) is ∙ unused_given u id

-- so it is when chains of groups were closed then
pub edge_beside : (s t : State) (id : ℕ) → KeepsBesideGroups s t → IsUnusedEdge s.records id → IsUnusedEdge t.records id
edge_beside s t id beside gone =
    ap (λ r. kind_in (metas.meta_of r).high (rec_at t.records format.relationships_file id) id)
    (beside (meta_key_of format.relationships_file) (λ e. omega arith) (λ e. omega arith) (λ e. let f = ap (λ (k : Key). k.id) e in omega arith))
    ∙ ap (λ r. kind_in (high s.records format.relationships_file) r id)
    (beside (key_in format.relationships_file id) (λ e. omega arith) (λ e. omega arith) (λ e. let f = ap (λ (k : Key). k.file) e in omega arith))
    ∙ gone

-- an edge that was found was there
pub some_there : {T : Type 0} (x : T) → Some x ≢ None
some_there x e = absurd cc
