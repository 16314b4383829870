-- Which group is named where a head of a node is found or made, and that it is as it was found.
use Rattle.std.proofs.Common.{◌≡◌, ◌≢◌, ℕ, true, Result, Ok, Err, IfErr, sym, ap, ◌∙◌, subst, inl, inr, ⊎_elim, arith, refl}
use Rattle.id_freelist.specs.ListDamage.{HarmsNoList}
use Rattle.id_freelist.proofs.ListSteps.{reads_harm_none}
use Rattle.id_freelist.proofs.TakeBreaches.{list_damage}
use Rattle.rec_bytes.specs.declared.damage.Damage.{Damage}
use Rattle.rec_bytes.specs.declared.fault.Fault.{Fault}
use Rattle.rec_bytes.specs.declared.fault.Fault.TheVariants as faults
use Rattle.rec_bytes.specs.declared.row_fault.RowFault.{RowFault}
use Rattle.rec_bytes.specs.declared.row_fault.RowFault.TheVariants as row
use Rattle.rec_bytes.specs.Fault.{of_row}
use Rattle.rec_bytes.specs.Format as format
use Rattle.rec_bytes.specs.Space.{SameButReads, State}
use Rattle.store_rules.specs.Rules.{Head, first_of}
use Rattle.store_rules.specs.Views.{first_link, key_in}
use Rattle.row_store.specs.Loading.{IsRowDamage}
use Rattle.row_store.specs.Loading.IsRowDamage.{HighMark as HighRow, UnknownKind}
use Rattle.rel_store.specs.Loading as rels
use Rattle.chain_edit.specs.Links as chains
use Rattle.chain_edit.specs.Links.IsLinkDamage.{LeadsNowhere as NoRel, HighMark as HighRels}
use Rattle.chain_edit.specs.Pushing.{IsPushFault, first_damage}
use Rattle.group_store.specs.Finding.{IsFindFault}
use Rattle.group_store.specs.FirstGroup.{IsNodeFault}
use Rattle.group_store.specs.GroupChain.{is_group_of}
use Rattle.group_store.specs.GroupRecord.{group_key}
use Rattle.group_store.specs.Leaving.{IsLowLink, LeavesBeside}
use Rattle.group_store.specs.Links.{IsLinkDamage}
use Rattle.group_store.specs.Links.IsLinkDamage.{LeadsNowhere, HighLink}
use Rattle.group_store.specs.Loading.{HasNoKind}
use Rattle.group_store.specs.Making.{IsMakeDamage, IsMakeFault, link_damage}
use Rattle.group_store.specs.Making.IsMakeDamage.{BadFree, BadLink, BadNode, NotDense}
use Rattle.group_store.specs.Naming.{IsAsBefore, IsNoOther, NamesFound, NamesNoGroup, NamesNoNode, NamesNoOther}
use Rattle.group_store.specs.OpenFault.{OnRefusal, of_fault}
use Rattle.group_store.specs.Raising.{IsCountFault}
use Rattle.group_store.specs.SparseChain.{IsSparseDamage, IsSparseFault}
use Rattle.group_store.specs.SparseChain.IsSparseDamage.{BadRelationship, MoreThanSaid, NoChain}
use Rattle.group_store.specs.Walking.{IsWalkDamage}
use Rattle.group_store.specs.Walking.IsWalkDamage.{HighMark, NoList, UnknownGroup}
use Rattle.group_store.specs.declared.open_fault.OpenFault.{OpenFault}
use Rattle.group_store.specs.declared.open_fault.OpenFault.TheVariants.{Full, Memory, Disk, Damaged}
use Rattle.group_store.proofs.OwnRecords.{own_no_other, stray}

as_read : (s t : State) (damage : Damage) → SameButReads s t → IsAsBefore s t damage
as_read s t damage same = ap (λ (q : State). q.records (key_in damage.file damage.id)) same

-- ---- a record that is no group

-- it is of another file
pub apart : (s t : State) (damage : Damage) → damage.file ≢ format.groups_file → NamesNoGroup s t (Damaged damage)
apart s t damage other e = absurd (other e)

pub node_apart : (s t : State) (damage : Damage) (n rule : ℕ) → damage ≡ record { file = format.nodes_file; id = n; rule = rule }
    → NamesNoGroup s t (Damaged damage)
node_apart s t damage n rule is = apart s t damage (λ e. let f = ap (λ (d : Damage). d.file) is in omega arith)

row_apart : (s t z : State) (file x : ℕ) (damage : Damage) → file ≢ format.groups_file → IsRowDamage file z x damage → NamesNoGroup s t (Damaged damage)
row_apart s t z file x damage other (HighRow above) e = absurd (let f : format.meta_file ≡ format.groups_file = e in omega arith)
row_apart s t z file x damage other (UnknownKind low unknown) e = absurd (other e)

pub node_fault_apart : (s t z : State) (n : ℕ) (fault : Fault) → IsNodeFault z n fault → NamesNoGroup s t (of_fault fault)
node_fault_apart s t z n faults.Memory told = tt
node_fault_apart s t z n faults.Disk told = tt
node_fault_apart s t z n (faults.Damaged damage) told = row_apart s t z format.nodes_file n damage (λ e. omega arith) told

pub rel_apart : (s t z : State) (x : ℕ) (fault : RowFault) → rels.IsRelFault z x fault → NamesNoGroup s t (of_fault (of_row fault))
rel_apart s t z x row.Disk told = tt
rel_apart s t z x (row.Damaged damage) told = row_apart s t z format.relationships_file x damage (λ e. omega arith) told

sparse_damage_apart : (s t z : State) (n count : ℕ) (damage : Damage) → IsSparseDamage z n count damage → NamesNoGroup s t (Damaged damage)
sparse_damage_apart s t z n count damage (NoChain none) = node_apart s t damage n 3 refl
sparse_damage_apart s t z n count damage (MoreThanSaid more) = node_apart s t damage n 7 refl
sparse_damage_apart s t z n count damage (BadRelationship x _ bad) = row_apart s t z format.relationships_file x damage (λ e. omega arith) bad

pub sparse_apart : (s t z : State) (n count : ℕ) (fault : Fault) → IsSparseFault z n count fault → NamesNoGroup s t (of_fault fault)
sparse_apart s t z n count faults.Memory told = tt
sparse_apart s t z n count faults.Disk told = tt
sparse_apart s t z n count (faults.Damaged damage) told = sparse_damage_apart s t z n count damage told

-- ---- a search

walk_apart : (s t : State) (n first : ℕ) (damage : Damage) → SameButReads s t → IsWalkDamage s n first damage → NamesNoGroup s t (Damaged damage)
walk_apart s t n first damage same (NoList none) e = absurd (let f : format.nodes_file ≡ format.groups_file = e in omega arith)
walk_apart s t n first damage same (UnknownGroup g none low unknown) e = inr (unknown, as_read s t damage same)
walk_apart s t n first damage same (HighMark above) e = absurd (let f : format.meta_file ≡ format.groups_file = e in omega arith)

pub find_apart : (s t : State) (n : ℕ) (fault : Fault) → SameButReads s t → IsFindFault s n fault → NamesNoGroup s t (of_fault fault)
find_apart s t n faults.Memory same told = tt
find_apart s t n faults.Disk same told = tt
find_apart s t n (faults.Damaged damage) same told =
    ⊎_elim (λ k. row_apart s t s format.nodes_file n damage (λ e. omega arith) k) (λ k. walk_apart s t n (first_link s.records n) damage same k) told

-- ---- a group that is made

link_apart : (s t z : State) (n link : ℕ) (damage : Damage) → IsLinkDamage z link (link_damage n) damage → NamesNoGroup s t (Damaged damage)
link_apart s t z n link damage (LeadsNowhere some above) e = absurd (let f : format.nodes_file ≡ format.groups_file = e in omega arith)
link_apart s t z n link damage (HighLink above) e = absurd (let f : format.meta_file ≡ format.groups_file = e in omega arith)

make_damage_apart : (s t : State) (n : ℕ) (damage : Damage) → IsMakeDamage s n damage → NamesNoGroup s t (Damaged damage)
make_damage_apart s t n damage (BadNode _ bad) = row_apart s t s format.nodes_file n damage (λ e. omega arith) bad
make_damage_apart s t n damage (NotDense thin) = λ e. absurd (let f : format.nodes_file ≡ format.groups_file = e in omega arith)
make_damage_apart s t n damage (BadLink _ bad) = link_apart s t s n _ damage bad
make_damage_apart s t n damage (BadFree _ bad) = λ e. inl (list_damage s format.groups_file damage bad)

pub make_apart : (s t : State) (n : ℕ) (fault : OpenFault) → IsMakeFault s n fault → NamesNoGroup s t fault
make_apart s t n (Full live) told = tt
make_apart s t n Memory told = tt
make_apart s t n Disk told = tt
make_apart s t n (Damaged damage) told = make_damage_apart s t n damage told

-- ---- a relationship that can't be put at the head of a group whose chain leads somewhere

pub push_apart : (s t z : State) (head : Head) → IsLowLink z.records (first_of z.records head) → (fault : Fault) → IsPushFault z head fault
    → NamesNoGroup s t (of_fault fault)
push_apart s t z head low faults.Memory told = tt
push_apart s t z head low faults.Disk told = tt
push_apart s t z head low (faults.Damaged damage) told = by damage told
  where
    by : (d : Damage) → chains.IsLinkDamage z (first_of z.records head) (first_damage head.key) d → NamesNoGroup s t (Damaged d)
    by d (NoRel some above) e = absurd (⊎_elim (λ none. some none) (λ lt. omega (arith, lt, above)) low)
    by d (HighRels above) e = absurd (let f : format.meta_file ≡ format.groups_file = e in omega arith)

-- ---- the same, of spaces before

pub apart_read : (s z t : State) (fault : OpenFault) → SameButReads s z → NamesNoGroup z t fault → NamesNoGroup s t fault
apart_read s z t (Full live) same told = tt
apart_read s z t Memory same told = tt
apart_read s z t Disk same told = tt
apart_read s z t (Damaged damage) same told = λ e. ⊎_elim (λ list. inl (reads_harm_none s z format.groups_file same damage list))
    (λ k. inr (subst (λ (q : State). HasNoKind q.records damage.id) same k.0, k.1 ∙ as_read s z damage same)) (told e)

-- ---- it is no other node's

pub apart_no_other : (s t : State) (node : ℕ) (fault : OpenFault) → NamesNoGroup s t fault → NamesNoOther s node fault
apart_no_other s t node (Full live) told = tt
apart_no_other s t node Memory told = tt
apart_no_other s t node Disk told = tt
apart_no_other s t node (Damaged damage) told = λ e. ⊎_elim (λ list. inl list) (λ k. inr (λ n ne. stray s.records damage.id n k.0)) (told e)

pub count_no_other : (s : State) (node g : ℕ) → is_group_of (s.records (group_key g)) node ≡ true → (fault : Fault) → IsCountFault node g fault
    → NamesNoOther s node (of_fault fault)
count_no_other s node g own faults.Memory told = tt
count_no_other s node g own faults.Disk told = tt
count_no_other s node g own (faults.Damaged damage) (inl group) = λ e. inr (subst (IsNoOther s.records node) (sym (ap (λ (d : Damage). d.id) group))
    (own_no_other s.records node g own))
count_no_other s node g own (faults.Damaged damage) (inr (inl many)) = λ e. absurd (let f = ap (λ (d : Damage). d.file) many in omega arith)
count_no_other s node g own (faults.Damaged damage) (inr (inr mark)) = λ e. absurd (let f = ap (λ (d : Damage). d.file) mark in omega arith)

-- ---- what is named is as it was found

-- nothing was written
pub found_same : (s t : State) (node : ℕ) (fault : OpenFault) → SameButReads s t → NamesNoOther s node fault → NamesFound s t node fault
found_same s t node (Full live) same other = tt
found_same s t node Memory same other = tt
found_same s t node Disk same other = tt
found_same s t node (Damaged damage) same other = record {
  nodes = λ _. as_read s t damage same;
  groups = λ e. ⊎_elim (λ list. inl list) (λ k. inr (as_read s t damage same, k)) (other e);
}

pub found_apart : (s t : State) (node : ℕ) (fault : OpenFault) → SameButReads s t → NamesNoGroup s t fault → NamesFound s t node fault
found_apart s t node fault same told = found_same s t node fault same (apart_no_other s t node fault told)

pub found_unwritten : {T : Type 0} (s t : State) (node : ℕ) (r : Result T OpenFault) → OnRefusal r (SameButReads s t) → IfErr r (NamesNoOther s node)
    → IfErr r (NamesFound s t node)
found_unwritten s t node (Ok x) same other = tt
found_unwritten s t node (Err (Full live)) same other = tt
found_unwritten s t node (Err Memory) same other = tt
found_unwritten s t node (Err Disk) same other = tt
found_unwritten s t node (Err (Damaged damage)) same other = found_same s t node (Damaged damage) same other

-- the node became dense before
pub found_dense : (s m t : State) (node : ℕ) → LeavesBeside s.records m.records node → HarmsNoList s m format.groups_file → (fault : OpenFault)
    → NamesNoNode fault → NamesNoGroup m t fault → NamesFound s t node fault
found_dense s m t node beside harmless (Full live) never told = tt
found_dense s m t node beside harmless Memory never told = tt
found_dense s m t node beside harmless Disk never told = tt
found_dense s m t node beside harmless (Damaged damage) never told = record {
  nodes = λ e. absurd (never e);
  groups = λ e. ⊎_elim (λ list. inl (harmless damage list)) (λ k.
      let same = beside.groups damage.id (stray m.records damage.id node k.0) in
      inr (
        k.1 ∙ subst (λ f. m.records (key_in f damage.id) ≡ s.records (key_in f damage.id)) (sym e) same,
        λ n ne. ap (λ r. is_group_of r n) (sym same) ∙ stray m.records damage.id n k.0,
      )) (told e);
}

pub found_spread : {T : Type 0} (s m t : State) (node : ℕ) (r : Result T OpenFault) → LeavesBeside s.records m.records node
    → HarmsNoList s m format.groups_file → IfErr r NamesNoNode → IfErr r (NamesNoGroup m t) → IfErr r (NamesFound s t node)
found_spread s m t node (Ok x) beside harmless never told = tt
found_spread s m t node (Err fault) beside harmless never told = found_dense s m t node beside harmless fault never told

pub found_read : (s z t : State) (node : ℕ) (fault : OpenFault) → SameButReads s z → NamesFound z t node fault → NamesFound s t node fault
found_read s z t node (Full live) same told = tt
found_read s z t node Memory same told = tt
found_read s z t node Disk same told = tt
found_read s z t node (Damaged damage) same told = record {
  nodes = λ e. told.nodes e ∙ as_read s z damage same;
  groups = λ e. ⊎_elim (λ list. inl (reads_harm_none s z format.groups_file same damage list))
      (λ k. inr (k.0 ∙ as_read s z damage same, subst (λ (q : State). IsNoOther q.records node damage.id) same k.1)) (told.groups e);
}
