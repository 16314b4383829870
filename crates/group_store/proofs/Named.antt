-- Which record is called damaged where a head of a node is found or made.
use Rattle.std.proofs.Common.{◌≡◌, ℕ, sym, ap, ◌∙◌, subst, inl, inr, ⊎_elim, arith, refl}
use Rattle.rec_bytes.specs.declared.damage.Damage.{Damage}
use Rattle.rec_bytes.specs.declared.fault.Fault.{Fault}
use Rattle.rec_bytes.specs.declared.fault.Fault.TheVariants as faults
use Rattle.rec_bytes.specs.declared.key.Key.{Key}
use Rattle.rec_bytes.specs.declared.record.Rec.{Rec}
use Rattle.rec_bytes.specs.declared.row_fault.RowFault.{RowFault}
use Rattle.rec_bytes.specs.declared.row_fault.RowFault.TheVariants as row
use Rattle.rec_bytes.specs.declared.shape.Shape.{Shape}
use Rattle.rec_bytes.specs.Fault.{of_row}
use Rattle.rec_bytes.specs.Format as format
use Rattle.rec_bytes.specs.Meta as metas
use Rattle.rec_bytes.specs.Record.{field}
use Rattle.rec_bytes.specs.RecordFiles.{meta_key_of, room_of}
use Rattle.rec_bytes.specs.Space.{SameButReads, State}
use Rattle.store_rules.specs.Ranges.{layout_by}
use Rattle.store_rules.specs.Rules.{Head, first_of}
use Rattle.store_rules.specs.Views.{high, rec_at}
use Rattle.id_freelist.specs.Taking.{IsTakeDamage, BadNext, InUse, Overcounted, Undercounted, Unlisted, Unranged}
use Rattle.row_store.specs.Loading.{IsRowDamage}
use Rattle.row_store.specs.Loading.IsRowDamage.{HighMark as HighRow, UnknownKind}
use Rattle.node_store.specs.Loading.{IsNodeDamage}
use Rattle.rel_store.specs.Loading as rels
use Rattle.chain_edit.specs.Links as chains
use Rattle.chain_edit.specs.Links.IsLinkDamage.{LeadsNowhere as NoRel, HighMark as HighRels}
use Rattle.chain_edit.specs.Pushing.{IsPushFault, first_damage}
use Rattle.group_store.specs.Finding.{IsFindFault}
use Rattle.group_store.specs.FirstGroup.{IsNodeFault}
use Rattle.group_store.specs.Leaving.{LeavesBeside}
use Rattle.group_store.specs.Links.{IsLinkDamage}
use Rattle.group_store.specs.Links.IsLinkDamage.{LeadsNowhere, HighLink}
use Rattle.group_store.specs.Making.{IsMakeDamage, IsMakeFault, link_damage}
use Rattle.group_store.specs.Making.IsMakeDamage.{BadFree, BadLink, BadNode, NotDense}
use Rattle.group_store.specs.Naming.{IsNamedAt, IsUnread, NamesAt}
use Rattle.group_store.specs.OpenFault.{of_fault}
use Rattle.group_store.specs.Raising.{IsCountFault}
use Rattle.group_store.specs.SparseChain.{IsSparseDamage, IsSparseFault}
use Rattle.group_store.specs.SparseChain.IsSparseDamage.{BadRelationship, MoreThanSaid, NoChain}
use Rattle.group_store.specs.Walking.{IsWalkDamage}
use Rattle.group_store.specs.Walking.IsWalkDamage.{HighMark, NoList, UnknownGroup}
use Rattle.group_store.specs.declared.open_fault.OpenFault.{OpenFault}
use Rattle.group_store.specs.declared.open_fault.OpenFault.TheVariants.{Full, Memory, Disk, Damaged}

-- ---- a search

node_named : (s z : State) (n : ℕ) (damage : Damage) → IsNodeDamage z n damage → IsNamedAt s n damage
node_named s z n damage (HighRow above) = inr (inl (refl, inl refl))
node_named s z n damage (UnknownKind low unknown) = inl (inr (refl, refl))

pub node_fault_named : (s z : State) (n : ℕ) (fault : Fault) → IsNodeFault z n fault → NamesAt s n (of_fault fault)
node_fault_named s z n faults.Memory told = tt
node_fault_named s z n faults.Disk told = tt
node_fault_named s z n (faults.Damaged damage) told = node_named s z n damage told

walk_named : (s z : State) (n first : ℕ) (damage : Damage) → IsWalkDamage z n first damage → IsNamedAt s n damage
walk_named s z n first damage (NoList none) = inl (inr (refl, refl))
walk_named s z n first damage (UnknownGroup g none low unknown) = inl (inl (inl refl))
walk_named s z n first damage (HighMark above) = inl (inl (inr (refl, refl)))

pub find_named : (s z : State) (n : ℕ) (fault : Fault) → IsFindFault z n fault → NamesAt s n (of_fault fault)
find_named s z n faults.Memory told = tt
find_named s z n faults.Disk told = tt
find_named s z n (faults.Damaged damage) told = ⊎_elim (λ k. node_named s z n damage k) (λ k. walk_named s z n _ damage k) told

-- ---- a group that is made

link_named : (s z : State) (n link : ℕ) (damage : Damage) → IsLinkDamage z link (link_damage n) damage → IsNamedAt s n damage
link_named s z n link damage (LeadsNowhere some above) = inl (inr (refl, refl))
link_named s z n link damage (HighLink above) = inl (inl (inr (refl, refl)))

take_named : (s z : State) (n : ℕ) (damage : Damage) → IsTakeDamage z format.groups_file damage → IsNamedAt s n damage
take_named s z n damage (Unranged out) = inl (inl (inr (refl, refl)))
take_named s z n damage (Unlisted x none low unused) = inl (inl (inl refl))
take_named s z n damage (Undercounted none low used) = inl (inl (inr (refl, refl)))
take_named s z n damage (Overcounted above more) = inl (inl (inr (refl, refl)))
take_named s z n damage (InUse some used) = inl (inl (inr (refl, refl)))
take_named s z n damage (BadNext some unused link above) = inl (inl (inl refl))

make_damage_named : (s z : State) (n : ℕ) (damage : Damage) → IsMakeDamage z n damage → IsNamedAt s n damage
make_damage_named s z n damage (BadNode _ bad) = node_named s z n damage bad
make_damage_named s z n damage (NotDense thin) = inl (inr (refl, refl))
make_damage_named s z n damage (BadLink _ bad) = link_named s z n _ damage bad
make_damage_named s z n damage (BadFree _ bad) = take_named s z n damage bad

pub make_named : (s z : State) (n : ℕ) (fault : OpenFault) → IsMakeFault z n fault → NamesAt s n fault
make_named s z n (Full live) told = tt
make_named s z n Memory told = tt
make_named s z n Disk told = tt
make_named s z n (Damaged damage) told = make_damage_named s z n damage told

-- ---- a group that is counted

pub at_node : (s : State) (n : ℕ) (damage : Damage) (rule : ℕ) → damage ≡ record { file = format.nodes_file; id = n; rule = rule } → IsNamedAt s n damage
at_node s n damage rule is = inl (inr (ap (λ (d : Damage). d.file) is, ap (λ (d : Damage). d.id) is))

pub count_named : (s : State) (n g : ℕ) (fault : Fault) → IsCountFault n g fault → NamesAt s n (of_fault fault)
count_named s n g faults.Memory told = tt
count_named s n g faults.Disk told = tt
count_named s n g (faults.Damaged damage) (inl group) = inl (inl (inl (ap (λ (d : Damage). d.file) group)))
count_named s n g (faults.Damaged damage) (inr (inl many)) = at_node s n damage 7 many
count_named s n g (faults.Damaged damage) (inr (inr mark)) = inr (inl (ap (λ (d : Damage). d.file) mark, inr (ap (λ (d : Damage). d.id) mark)))

-- ---- a relationship that comes into its group

pub rel_named : (s : State) (n x : ℕ) (fault : RowFault) → rels.IsRelFault s x fault → NamesAt s n (of_fault (of_row fault))
rel_named s n x row.Disk told = tt
rel_named s n x (row.Damaged damage) told = inr (inr (x, told))

pub push_named : (s z : State) (n : ℕ) (head : Head) → head.key.file ≡ format.groups_file → (fault : Fault) → IsPushFault z head fault
    → NamesAt s n (of_fault fault)
push_named s z n head group faults.Memory told = tt
push_named s z n head group faults.Disk told = tt
push_named s z n head group (faults.Damaged damage) told = by damage told
  where
    by : (d : Damage) → chains.IsLinkDamage z (first_of z.records head) (first_damage head.key) d → IsNamedAt s n d
    by d (NoRel some above) = inl (inl (inl group))
    by d (HighRels above) = inr (inl (refl, inr refl))

-- ---- the chain of a sparse node

sparse_damage_named : (s : State) (n count : ℕ) (damage : Damage) → IsSparseDamage s n count damage → IsNamedAt s n damage
sparse_damage_named s n count damage (NoChain none) = inl (inr (refl, refl))
sparse_damage_named s n count damage (MoreThanSaid more) = inl (inr (refl, refl))
sparse_damage_named s n count damage (BadRelationship x _ bad) = inr (inr (x, bad))

pub sparse_named : (s : State) (n count : ℕ) (fault : Fault) → IsSparseFault s n count fault → NamesAt s n (of_fault fault)
sparse_named s n count faults.Memory told = tt
sparse_named s n count faults.Disk told = tt
sparse_named s n count (faults.Damaged damage) told = sparse_damage_named s n count damage told

-- ---- as it was told of the space before

pub named_read : (s z : State) (n : ℕ) (fault : OpenFault) → SameButReads s z → NamesAt z n fault → NamesAt s n fault
named_read s z n fault same told = by fault (subst (λ (q : State). NamesAt q n fault) same told)
  where
    rel : (x : ℕ) (d : Damage) → IsRowDamage format.relationships_file (record s { reads = z.reads }) x d → IsRowDamage format.relationships_file s x d
    rel x d (HighRow above) = HighRow above
    rel x d (UnknownKind low unknown) = UnknownKind low unknown

    by : (f : OpenFault) → NamesAt (record s { reads = z.reads }) n f → NamesAt s n f
    by (Full live) k = tt
    by Memory k = tt
    by Disk k = tt
    by (Damaged d) (inl own) = inl own
    by (Damaged d) (inr (inl mark)) = inr (inl mark)
    by (Damaged d) (inr (inr unread)) = inr (inr (unread.0, rel unread.0 d unread.1))

-- the meta record of the relationships is the same, and so are their kinds
module _ (s t : State) (shape : t.shape ≡ s.shape)
    (meta : t.records (meta_key_of format.relationships_file) ≡ s.records (meta_key_of format.relationships_file))
    (kinds : (x : ℕ) → field 1 (rec_at t.records format.relationships_file x) format.kind
    ≡ field 1 (rec_at s.records format.relationships_file x) format.kind) where
  mark : high t.records format.relationships_file ≡ high s.records format.relationships_file
  mark = ap (λ (r : Rec). (metas.meta_of r).high) meta

  room : room_of t.shape format.relationships_file ≡ room_of s.shape format.relationships_file
  room = ap (λ (h : Shape). room_of h format.relationships_file) shape

  row_before : (x : ℕ) (d : Damage) → IsRowDamage format.relationships_file t x d → IsRowDamage format.relationships_file s x d
  row_before x d (HighRow above) = HighRow (let m = mark in let r = room in omega arith)
  row_before x d (UnknownKind low unknown) = UnknownKind (let m = mark in omega arith)
      (ap (layout_by format.relationships_file (rec_at s.records format.relationships_file x)) (sym (kinds x)) ∙ unknown)

  pub unread_before : (d : Damage) → IsUnread t d → IsUnread s d
  unread_before d told = (told.0, row_before told.0 d told.1)

pub unread_beside : (s t : State) (node : ℕ) → t.shape ≡ s.shape → LeavesBeside s.records t.records node → (d : Damage) → IsUnread t d → IsUnread s d
unread_beside s t node shape beside = unread_before s t shape
    (beside.others (meta_key_of format.relationships_file) (λ e. omega arith) (λ e. omega arith) (λ e. let f = ap (λ (k : Key). k.id) e in omega arith)
    (λ e. let f = ap (λ (k : Key). k.file) e in omega arith))
    (λ x. beside.rels x 1 format.kind (omega arith) (inl (omega arith)))

pub named_beside : (s t : State) (node : ℕ) → t.shape ≡ s.shape → LeavesBeside s.records t.records node → (fault : OpenFault) → NamesAt t node fault
    → NamesAt s node fault
named_beside s t node shape beside (Full live) told = tt
named_beside s t node shape beside Memory told = tt
named_beside s t node shape beside Disk told = tt
named_beside s t node shape beside (Damaged damage) (inl own) = inl own
named_beside s t node shape beside (Damaged damage) (inr (inl mark)) = inr (inl mark)
named_beside s t node shape beside (Damaged damage) (inr (inr unread)) = inr (inr (unread_beside s t node shape beside damage unread))
