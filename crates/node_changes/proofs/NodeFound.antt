-- Which records a deletion of a node may write.
use Rattle.std.proofs.Common.{◌≡◌, ◌≢◌, ◌⊎◌, ℕ, [], ◌∷◌, sym, ap, ◌∙◌, inl, inr}
use Rattle.plain_graph.specs.declared.command.Target.TheVariants as targets
use Rattle.rec_bytes.specs.declared.damage.Damage.{Damage}
use Rattle.rec_bytes.specs.declared.key.Key.{Key}
use Rattle.rec_bytes.specs.Format as format
use Rattle.rec_bytes.specs.RecordFiles.{meta_key_of}
use Rattle.rec_bytes.specs.Space.{IsAmong, SameButReads, State}
use Rattle.store_rules.specs.Views.{key_in}
use Rattle.store_rules.specs.Writes.{ChangesOnly}
use Rattle.store_rules.proofs.NumberLaws.{nat_cases}
use Rattle.chain_edit.proofs.LinkLaws.{key_cases}
use Rattle.prop_store.specs.Touching.{LeavesElement}
use Rattle.prop_store.specs.declared.owner.Owner.{Owner}
use Rattle.prop_index.specs.Touching.{TouchesIndex}
use Rattle.change_parts.specs.Damage.{IsAsFound}
use Rattle.change_parts.specs.Owners.{owner_of}
use Rattle.node_changes.specs.NodeDeleting.{IsOfNode, KeepsButNode}
use Rattle.node_changes.proofs.IndexBeside.{KeepsBesideIndex, touched_beside}

-- nothing is other after reads
pub kept_read : (s t : State) (id : ℕ) → SameButReads s t → KeepsButNode s t id
kept_read s t id same damage = inl (ap (λ (z : State). z.records (key_in damage.file damage.id)) same)

pub kept_then : (s u t : State) (id : ℕ) → KeepsButNode s u id → KeepsButNode u t id → KeepsButNode s t id
kept_then s u t id one two damage = by (one damage) (two damage)
  where
    by : IsAsFound s u damage ⊎ IsOfNode id damage → IsAsFound u t damage ⊎ IsOfNode id damage → IsAsFound s t damage ⊎ IsOfNode id damage
    by (inl a) (inl b) = inl (b ∙ a)
    by (inl a) (inr of) = inr of
    by (inr of) b = inr of

-- ---- the steps

-- the properties of the node are taken away
pub kept_dropped : (s t : State) (id : ℕ) (owner : Owner) → owner ≡ owner_of (targets.Node id) → LeavesElement s t owner → KeepsButNode s t id
kept_dropped s t id owner is leaves damage =
    by (nat_cases damage.file format.properties_file) (nat_cases damage.file format.strings_file) (key_cases q (meta_key_of format.properties_file))
    (key_cases q (meta_key_of format.strings_file)) (key_cases q owner.key)
  where
    q : Key
    q = key_in damage.file damage.id

    by : (damage.file ≡ format.properties_file) ⊎ (damage.file ≢ format.properties_file)
        → (damage.file ≡ format.strings_file) ⊎ (damage.file ≢ format.strings_file)
        → (q ≡ meta_key_of format.properties_file) ⊎ (q ≢ meta_key_of format.properties_file)
        → (q ≡ meta_key_of format.strings_file) ⊎ (q ≢ meta_key_of format.strings_file) → (q ≡ owner.key) ⊎ (q ≢ owner.key)
        → IsAsFound s t damage ⊎ IsOfNode id damage
    by (inl p) b m n o = inr (inr (inr (inl p)))
    by (inr p) (inl b) m n o = inr (inr (inr (inr (inl b))))
    by (inr p) (inr b) (inl m) n o = inr (inr (inr (inr (inr (ap (λ (k : Key). k.file) m, inr (inl (ap (λ (k : Key). k.id) m)))))))
    by (inr p) (inr b) (inr m) (inl n) o = inr (inr (inr (inr (inr (ap (λ (k : Key). k.file) n, inr (inr (ap (λ (k : Key). k.id) n)))))))
    by (inr p) (inr b) (inr m) (inr n) (inl o) =
        let key = o ∙ ap (λ (w : Owner). w.key) is in
        inr (inl (ap (λ (k : Key). k.file) key, ap (λ (k : Key). k.id) key))
    by (inr p) (inr b) (inr m) (inr n) (inr o) = inl (leaves.others q p b m n o)

-- its identifier is given back
pub kept_given : (s t : State) (id : ℕ) → ChangesOnly s t (key_in format.nodes_file id ∷ meta_key_of format.nodes_file ∷ []) → KeepsButNode s t id
kept_given s t id changes damage = by (changes.each (key_in damage.file damage.id))
  where
    by : (t.records (key_in damage.file damage.id) ≡ s.records (key_in damage.file damage.id))
        ⊎ IsAmong (key_in damage.file damage.id) (key_in format.nodes_file id ∷ meta_key_of format.nodes_file ∷ [])
        → IsAsFound s t damage ⊎ IsOfNode id damage
    by (inl same) = inl same
    by (inr (inl e)) = inr (inl (ap (λ (k : Key). k.file) e, ap (λ (k : Key). k.id) e))
    by (inr (inr (inl e))) = inr (inr (inr (inr (inr (ap (λ (k : Key). k.file) e, inl (ap (λ (k : Key). k.id) e))))))
    by (inr (inr (inr none))) = absurd none

-- its entries leave the indexes
pub kept_left : {tells : Type 0} (most : ℕ) (s t : State) (id : ℕ) → tells → TouchesIndex tells most s t → KeepsButNode s t id
kept_left most s t id told touches damage =
    by (nat_cases damage.file format.index_file) (key_cases (key_in damage.file damage.id) (meta_key_of format.index_file))
  where
    beside : KeepsBesideIndex s.records t.records
    beside = touched_beside most s t told touches

    by : (damage.file ≡ format.index_file) ⊎ (damage.file ≢ format.index_file)
        → (key_in damage.file damage.id ≡ meta_key_of format.index_file) ⊎ (key_in damage.file damage.id ≢ meta_key_of format.index_file)
        → IsAsFound s t damage ⊎ IsOfNode id damage
    by (inl e) m = inr (inr (inl (inl e)))
    by (inr e) (inl m) = inr (inr (inl (inr (ap (λ (k : Key). k.file) m, ap (λ (k : Key). k.id) m))))
    by (inr e) (inr m) = inl (beside.others (key_in damage.file damage.id) e m)
