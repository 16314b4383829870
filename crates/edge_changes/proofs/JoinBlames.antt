-- Which record is blamed where an edge joins the chains of its ends.
use Rattle.std.specs.Prelude.{IfSome}
use Rattle.std.proofs.Common.{◌≡◌, ◌≢◌, ◌∙◌, ℕ, [], ◌∷◌, ap, inl, inr, ⊎_elim, sym, subst, arith}
use Rattle.plain_graph.specs.declared.command.Target.{Target}
use Rattle.rec_bytes.specs.declared.fault.Fault.{Fault}
use Rattle.rec_bytes.specs.declared.fault.Fault.TheVariants as faults
use Rattle.rec_bytes.specs.declared.key.Key.{Key}
use Rattle.rec_bytes.specs.declared.record.Rec.{Rec}
use Rattle.rec_bytes.specs.Fault.{damage_of}
use Rattle.rec_bytes.specs.Format as format
use Rattle.rec_bytes.specs.Meta as metas
use Rattle.rec_bytes.specs.RecordFiles.{meta_key_of}
use Rattle.rec_bytes.specs.Space.{SameButReads, State, after_get, after_put}
use Rattle.rec_bytes.proofs.Spaces.{put_other}
use Rattle.store_rules.specs.Breaking.{Breaks}
use Rattle.store_rules.specs.Writes.{ChangesOnly}
use Rattle.store_rules.specs.Views.{high, key_in, kind_at, kind_in, rec_at}
use Rattle.chain_edit.specs.Breaks.{IsBreakFault}
use Rattle.chain_edit.proofs.LinkLaws.{key_cases}
use Rattle.group_store.specs.Opening.{IsOpenFault}
use Rattle.group_store.specs.declared.open_fault.OpenFault.{OpenFault}
use Rattle.group_store.specs.declared.open_fault.OpenFault.TheVariants as opens
use Rattle.group_store.specs.Leaving.{LeavesBeside}
use Rattle.group_store.proofs.LeftBeside.{beside_kinds}
use Rattle.change_parts.specs.ChangeFault.{of_fault, of_open}
use Rattle.change_parts.specs.Damage.{BlamesBroken, KeepsButNames}
use Rattle.edge_changes.specs.EdgeAdding.{IsUsedNode}
use Rattle.change_parts.specs.Owners.{IsAbsent}
use Rattle.change_parts.specs.Rooms.{HasRoom}
use Rattle.change_parts.proofs.ElementRooms.{room_still}
use Rattle.change_parts.specs.declared.change_fault.ChangeFault.{ChangeFault}
use Rattle.change_parts.specs.declared.change_fault.ChangeFault.TheVariants.{NoNode, NoEdge, HasRelationships, IndexThere}
use Rattle.change_parts.specs.declared.change_fault.ChangeFault.TheVariants.{TooManyIndexes, IndexTooLarge, Full}
use Rattle.change_parts.specs.declared.change_fault.ChangeFault.TheVariants.{NamesFull, PropsFull, Memory, Disk, Damaged}

-- an element that isn't found
pub absent_blamed : (s : State) (target : Target) (fault : ChangeFault) → IsAbsent s target fault → BlamesBroken s fault
absent_blamed s target (NoNode id) told = tt
absent_blamed s target (NoEdge id) told = tt
absent_blamed s target (HasRelationships id degree) told = tt
absent_blamed s target IndexThere told = tt
absent_blamed s target TooManyIndexes told = tt
absent_blamed s target (IndexTooLarge count) told = tt
absent_blamed s target (Full file live) told = tt
absent_blamed s target (NamesFull count) told = tt
absent_blamed s target (PropsFull count) told = tt
absent_blamed s target Memory told = tt
absent_blamed s target Disk told = tt
absent_blamed s target (Damaged damage) told = told

-- ---- an end for which no head is found or made

pub end_blamed : (t : State) (fault : OpenFault) → IsOpenFault t fault → BlamesBroken t (of_open fault)
end_blamed t (opens.Full live) told = tt
end_blamed t opens.Memory told = tt
end_blamed t opens.Disk told = tt
end_blamed t (opens.Damaged damage) told = inl told

-- ---- nodes that are sparse or dense

-- still, after the head of another end was found or made
pub used_beside : (s t : State) (from node : ℕ) → LeavesBeside s.records t.records from → node ≢ from → IsUsedNode s node → IsUsedNode t node
used_beside s t from node beside ne used =
    let same = beside_kinds s.records t.records from beside node ne in
    ⊎_elim (λ d. inl (same ∙ d)) (λ d. inr (same ∙ d)) used

-- and after reads
pub used_read : (s t : State) (node : ℕ) → SameButReads s t → IsUsedNode s node → IsUsedNode t node
used_read s t node same used = subst (λ (z : State). IsUsedNode z node) (sym same) used

-- and after names, properties and blocks were made ready
module _ (s t : State) (keeps : KeepsButNames s t) (node : ℕ) where
  record_beyond : rec_at t.records format.nodes_file node ≡ rec_at s.records format.nodes_file node
  record_beyond = keeps (key_in format.nodes_file node) (λ e. omega arith) (λ e. let f = ap (λ (k : Key). k.file) e in omega arith)

  meta_beyond : t.records (meta_key_of format.nodes_file) ≡ s.records (meta_key_of format.nodes_file)
  meta_beyond = keeps (meta_key_of format.nodes_file) (λ e. omega arith) (λ e. let f = ap (λ (k : Key). k.id) e in omega arith)

  kind_beyond : kind_at t.records format.nodes_file node ≡ kind_at s.records format.nodes_file node
  kind_beyond = ap (λ m. kind_in m (rec_at t.records format.nodes_file node) node) (ap (λ r. (metas.meta_of r).high) meta_beyond)
      ∙ ap (λ r. kind_in (high s.records format.nodes_file) r node) record_beyond

  pub used_beyond : IsUsedNode s node → IsUsedNode t node
  used_beyond used = ⊎_elim (λ d. inl (kind_beyond ∙ d)) (λ d. inr (kind_beyond ∙ d)) used

-- the file of relationships has the room that it had
pub room_beyond : (s t : State) → KeepsButNames s t → t.shape ≡ s.shape → HasRoom s format.relationships_file 1 → HasRoom t format.relationships_file 1
room_beyond s t keeps shape room =
    let meta = keeps (meta_key_of format.relationships_file) (λ e. omega arith) (λ e. let f = ap (λ (k : Key). k.id) e in omega arith) in
    room_still s t format.relationships_file 1 (ap (λ (r : Rec). (metas.meta_of r).live) meta) shape room

-- the meta record of the relationships stays where a head was found or made
pub meta_beside : (s t : State) (node : ℕ) → LeavesBeside s.records t.records node
    → t.records (meta_key_of format.relationships_file) ≡ s.records (meta_key_of format.relationships_file)
meta_beside s t node beside = beside.others (meta_key_of format.relationships_file) (λ e. omega arith) (λ e. omega arith)
    (λ e. let f = ap (λ (k : Key). k.id) e in omega arith) (λ e. let f = ap (λ (k : Key). k.file) e in omega arith)

-- ---- a new edge in its chains

-- a head that leads nowhere
pub push_blamed : (s t : State) (fault : Fault) → IsBreakFault s fault → IfSome (damage_of fault) (λ _. t ≡ after_get s) → BlamesBroken t (of_fault fault)
push_blamed s t faults.Memory told same = tt
push_blamed s t faults.Disk told same = tt
push_blamed s t (faults.Damaged damage) told same = inl (subst (λ (z : State). Breaks z.records z.shape damage) (sym same) told)

-- its record is written where an identifier was taken
pub placed_only : (s t u : State) (id : ℕ) (rec : Rec) → ChangesOnly s t (meta_key_of format.relationships_file ∷ [])
    → u ≡ after_put t (key_in format.relationships_file id) rec
    → ChangesOnly s u (key_in format.relationships_file id ∷ meta_key_of format.relationships_file ∷ [])
placed_only s t u id rec took put = record {
  each = λ q. ⊎_elim (λ e. inr (inl e))
      (λ ne. ⊎_elim (λ same. inl (ap (λ (z : State). z.records q) put ∙ put_other t.records (key_in format.relationships_file id) rec q ne ∙ same))
      (λ i. inr (inr i)) (took.each q))
      (key_cases q (key_in format.relationships_file id));
}
