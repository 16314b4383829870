-- Which records an edge that is added may write before its properties, and which one is blamed.
use Rattle.std.specs.Prelude.{IfSome, OnOk}
use Rattle.std.proofs.Common.{◌≡◌, ◌≢◌, ◌⊎◌, ℕ, ◌+◌, ◌<◌, ◌≤◌, Result, Ok, Err, [], ◌∷◌, sym, ap, ◌∙◌, subst, inl, inr, ⊎_elim, arith, refl}
use Rattle.rec_bytes.specs.declared.damage.Damage.{Damage}
use Rattle.rec_bytes.specs.declared.fault.Fault.{Fault}
use Rattle.rec_bytes.specs.declared.fault.Fault.TheVariants as faults
use Rattle.rec_bytes.specs.declared.key.Key.{Key}
use Rattle.rec_bytes.specs.declared.record.Rec.{Rec}
use Rattle.rec_bytes.specs.declared.shape.Shape.{Shape}
use Rattle.rec_bytes.specs.Fault.{damage_of}
use Rattle.rec_bytes.specs.Format as format
use Rattle.rec_bytes.specs.Meta as metas
use Rattle.rec_bytes.specs.Record.{field}
use Rattle.rec_bytes.specs.RecordFiles.{meta_key_of, room_of}
use Rattle.rec_bytes.specs.Space.{IsAmong, SameButReads, State, after_get, after_set, meta_of}
use Rattle.rec_bytes.proofs.Numbers.{field-lt}
use Rattle.store_rules.specs.Breaking.{IsHeadOf}
use Rattle.store_rules.specs.Rules.{Head, first_of}
use Rattle.store_rules.specs.Views.{high, key_in}
use Rattle.store_rules.specs.Writes.{ChangesOnly}
use Rattle.store_rules.proofs.NumberLaws.{nat_cases}
use Rattle.id_freelist.specs.ListDamage.{HarmsNoList, IsListDamage}
use Rattle.id_freelist.specs.ListDamage.IsListDamage.{OutOfRange}
use Rattle.id_freelist.proofs.ListSteps.{beside_harms_none}
use Rattle.node_store.specs.NodeRecord.{node_key}
use Rattle.prop_store.specs.Setting.{HarmsNoLists}
use Rattle.rel_store.specs.declared.rel_row.RelRow.{RelRow}
use Rattle.rel_store.specs.Loading.{mark_damage, rel_mark, rel_room}
use Rattle.rel_store.specs.RelRecord.{rel_record, row_of}
use Rattle.rel_store.proofs.RelRecords.{HasNumbers, kind-rel_record}
use Rattle.chain_edit.specs.Heads.{head_of}
use Rattle.chain_edit.specs.Links.{IsLinkDamage}
use Rattle.chain_edit.specs.Links.IsLinkDamage.{HighMark, LeadsNowhere}
use Rattle.chain_edit.specs.Pushing.{IsPushFault, first_damage, pushed}
use Rattle.chain_edit.proofs.LinkLaws.{key_cases}
use Rattle.group_store.specs.Counting.{one_more, tallied}
use Rattle.group_store.specs.Leaving.{IsLowLink, LeavesBeside}
use Rattle.group_store.specs.OpenFault.{IfRefuses}
use Rattle.group_store.specs.declared.open_fault.OpenFault.{OpenFault}
use Rattle.group_store.specs.declared.open_fault.OpenFault.TheVariants as opens
use Rattle.group_store.specs.Naming.{IsNamedAt, IsOfMarks, NamesAt, NamesFound, NamesMeta}
use Rattle.change_parts.specs.ChangeFault.{of_fault, of_open}
use Rattle.change_parts.specs.Damage.{BlamesBroken, IfBlames, IsAsFound, IsBroken, IsOfLists, KeepsButNames}
use Rattle.change_parts.specs.declared.change_fault.ChangeFault.{ChangeFault}
use Rattle.change_parts.proofs.Adding.{lists_before, lists_broken}
use Rattle.change_parts.proofs.Broken.{blames_both, blames_more}
use Rattle.edge_changes.specs.EdgeAdding.{BlamesAdded, BlamesChains, BlamesEnd, HarmsNoFiles, IsAddDamage, IsChainDamage, IsOfChains, IsOfEnd, IsOfEnds}
use Rattle.edge_changes.specs.EdgeAdding.{IsOfNodes, KeepsButChains, groups_needed}
use Rattle.edge_changes.specs.EdgeEnds.{AtEach, AtSome, HasHead, joined, source_of, target_of}
use Rattle.edge_changes.specs.EdgeJoining.{BlamesEndJoined, IsJoinDamage, IsLostEnd, IsOfLost, KeepsBesideEnd}
use Rattle.edge_changes.specs.EdgeOpening.{KeepsHead}
use Rattle.edge_changes.specs.declared.edge_end.EdgeEnd.{EdgeEnd}
use Rattle.edge_changes.specs.declared.edge_end.Ends.{Ends}
use Rattle.edge_changes.specs.declared.edge_end.Ends.TheVariants.{Loop, Two}
use Rattle.edge_changes.proofs.EdgeSteps.{record_joined}
use Rattle.edge_changes.proofs.FileDamages.{files_beyond, files_broken}
use Rattle.edge_changes.proofs.HeadsFound.{head_is_no_meta, head_is_no_rel, head_of_end, keys_apart, lost_before}

-- ---- one step after another

-- nothing is other after reads
pub found_read : (s t : State) (from to : ℕ) → SameButReads s t → KeepsButChains s t from to
found_read s t from to same damage = inl (ap (λ (z : State). z.records (key_in damage.file damage.id)) same)

pub step_found : (s u t : State) (from to : ℕ) → KeepsButChains s u from to → (damage : Damage) → IsAsFound u t damage ⊎ IsOfChains from to damage
    → IsAsFound s t damage ⊎ IsOfChains from to damage
step_found s u t from to keeps damage then = by (keeps damage) then
  where
    by : IsAsFound s u damage ⊎ IsOfChains from to damage → IsAsFound u t damage ⊎ IsOfChains from to damage
        → IsAsFound s t damage ⊎ IsOfChains from to damage
    by (inl a) (inl b) = inl (b ∙ a)
    by (inl a) (inr of) = inr of
    by (inr of) b = inr of

pub found_then : (s u t : State) (from to : ℕ) → KeepsButChains s u from to → KeepsButChains u t from to → KeepsButChains s t from to
found_then s u t from to one two damage = step_found s u t from to one damage (two damage)

-- the meta records of the nodes and of the relationships are as they were
abbrev pub KeepsMarks : State → State → Type 0
KeepsMarks s t = (damage : Damage) → IsOfMarks damage → IsAsFound s t damage

-- and so are these records
abbrev pub KeepsThese : State → State → (Damage → Type 0) → Type 0
KeepsThese s t these = (damage : Damage) → IsOfMarks damage ⊎ these damage → IsAsFound s t damage

pub chain_then : (s u t : State) (these : Damage → Type 0) → HarmsNoFiles s u → KeepsThese s u these
    → (damage : Damage) → IsChainDamage u t these damage → IsChainDamage s t these damage
chain_then s u t these harmless keeps damage (inl rel) = inl (harmless damage rel)
chain_then s u t these harmless keeps damage (inr found) = inr (found.0, found.1 ∙ keeps damage found.0)

-- it is one of those, too
pub chain_more : (s t : State) (these those : Damage → Type 0) → ((damage : Damage) → these damage → those damage) → (damage : Damage)
    → IsChainDamage s t these damage → IsChainDamage s t those damage
chain_more s t these those more damage (inl rel) = inl rel
chain_more s t these those more damage (inr found) = inr (⊎_elim (λ mark. inl mark) (λ this. inr (more damage this)) found.0, found.1)

-- no meta record but that of the groups is other
pub marks_kept : (s t : State) (from to : ℕ) → KeepsButChains s t from to
    → t.records (meta_key_of format.relationships_file) ≡ s.records (meta_key_of format.relationships_file) → KeepsMarks s t
marks_kept s t from to keeps rels damage of = by (keeps damage)
  where
    by : IsAsFound s t damage ⊎ IsOfChains from to damage → IsAsFound s t damage
    by (inl same) = same
    by (inr (inl (inl e))) = absurd (let f = of.0 in omega arith)
    by (inr (inl (inr e))) =
        let key : key_in damage.file damage.id ≡ meta_key_of format.relationships_file
        = ap (λ f. key_in f damage.id) e.0 ∙ ap (key_in format.meta_file) e.1 in
        ap t.records key ∙ rels ∙ ap s.records (sym key)
    by (inr (inr (inl (inl e)))) = absurd (let f = of.0 in omega arith)
    by (inr (inr (inl (inr e)))) = absurd (⊎_elim (λ (f : damage.id ≡ format.nodes_file). let g = e.1 in omega arith)
        (λ (f : damage.id ≡ format.relationships_file). let g = e.1 in omega arith) of.1)
    by (inr (inr (inr e))) = absurd (let f = of.0 in let g = e.0 in omega arith)

-- one of the ends
pub end_found : (s t : State) (from to node : ℕ) → (node ≡ from) ⊎ (node ≡ to) → (damage : Damage) → IsAsFound s t damage ⊎ IsOfChains node node damage
    → IsAsFound s t damage ⊎ IsOfChains from to damage
end_found s t from to node is damage (inl same) = inl same
end_found s t from to node is damage (inr (inl rel)) = inr (inl rel)
end_found s t from to node is damage (inr (inr (inl group))) = inr (inr (inl group))
end_found s t from to node is damage (inr (inr (inr at))) = inr (inr (inr (at.0, by is)))
  where
    id_is : damage.id ≡ node
    id_is = ⊎_elim (λ (e : damage.id ≡ node). e) (λ (e : damage.id ≡ node). e) at.1

    by : (node ≡ from) ⊎ (node ≡ to) → (damage.id ≡ from) ⊎ (damage.id ≡ to)
    by (inl e) = inl (id_is ∙ e)
    by (inr e) = inr (id_is ∙ e)

pub ends_found : (s t : State) (from to node : ℕ) → (node ≡ from) ⊎ (node ≡ to) → KeepsButChains s t node node → KeepsButChains s t from to
ends_found s t from to node is keeps damage = end_found s t from to node is damage (keeps damage)

node_of : (from to node : ℕ) → (node ≡ from) ⊎ (node ≡ to) → (damage : Damage) → IsOfNodes node node damage → IsOfNodes from to damage
node_of from to node is damage at = (at.0, ⊎_elim (λ e. inl (id_is ∙ e)) (λ e. inr (id_is ∙ e)) is)
  where
    id_is : damage.id ≡ node
    id_is = ⊎_elim (λ (e : damage.id ≡ node). e) (λ (e : damage.id ≡ node). e) at.1

pub end_of : (s : State) (from to node : ℕ) → (node ≡ from) ⊎ (node ≡ to) → (damage : Damage) → IsOfEnd s node damage → IsOfEnds from to damage
end_of s from to node is damage at = ⊎_elim (λ group. inl group.0) (λ own. inr (node_of from to node is damage own)) at

-- what is told at an end, in a space after one that left these records of it as they were
pub end_blames : (s m t : State) (from to node : ℕ) → (node ≡ from) ⊎ (node ≡ to) → HarmsNoFiles s m → KeepsThese s m (IsOfEnd m node)
    → (fault : ChangeFault) → BlamesEnd m t node fault → BlamesChains s t from to fault
end_blames s m t from to node is harmless keeps fault told =
    blames_more (IsChainDamage m t (IsOfEnd m node)) (IsChainDamage s t (IsOfEnds from to))
    (λ damage chain. chain_more s t (IsOfEnd m node) (IsOfEnds from to) (end_of m from to node is) damage
    (chain_then s m t (IsOfEnd m node) harmless keeps damage chain)) fault told

-- nothing is other before
pub these_same : (s : State) (these : Damage → Type 0) → KeepsThese s s these
these_same s these damage told = refl

-- what follows of a result
pub on_ok : {T : Type 0} (r : Result T ChangeFault) (P Q : Type 0) → (P → Q) → OnOk r P → OnOk r Q
on_ok (Ok x) P Q then h = then h
on_ok (Err fault) P Q then h = tt

-- ---- the steps

-- a head is found or made
pub found_beside : (s t : State) (node : ℕ) → LeavesBeside s.records t.records node → KeepsButChains s t node node
found_beside s t node beside damage =
    by (nat_cases damage.file format.relationships_file) (nat_cases damage.file format.groups_file)
    (key_cases (key_in damage.file damage.id) (meta_key_of format.groups_file)) (key_cases (key_in damage.file damage.id) (node_key node))
  where
    by : (damage.file ≡ format.relationships_file) ⊎ (damage.file ≢ format.relationships_file)
        → (damage.file ≡ format.groups_file) ⊎ (damage.file ≢ format.groups_file)
        → (key_in damage.file damage.id ≡ meta_key_of format.groups_file) ⊎ (key_in damage.file damage.id ≢ meta_key_of format.groups_file)
        → (key_in damage.file damage.id ≡ node_key node) ⊎ (key_in damage.file damage.id ≢ node_key node)
        → IsAsFound s t damage ⊎ IsOfChains node node damage
    by (inl r) b c d = inr (inl (inl r))
    by (inr r) (inl b) c d = inr (inr (inl (inl b)))
    by (inr r) (inr b) (inl c) d = inr (inr (inl (inr (ap (λ (k : Key). k.file) c, ap (λ (k : Key). k.id) c))))
    by (inr r) (inr b) (inr c) (inl d) = inr (inr (inr (ap (λ (k : Key). k.file) d, inl (ap (λ (k : Key). k.id) d))))
    by (inr r) (inr b) (inr c) (inr d) = inl (beside.others (key_in damage.file damage.id) r b c d)

pub marks_beside : (s t : State) (node : ℕ) → LeavesBeside s.records t.records node → KeepsMarks s t
marks_beside s t node beside damage of = beside.others (key_in damage.file damage.id) (λ (e : damage.file ≡ format.relationships_file). let f = of.0 in omega
    arith) (λ (e : damage.file ≡ format.groups_file). let f = of.0 in omega arith)
    (λ e. let id : damage.id ≡ format.groups_file = ap (λ (k : Key). k.id) e in
    ⊎_elim (λ (f : damage.id ≡ format.nodes_file). omega arith) (λ (f : damage.id ≡ format.relationships_file). omega arith) of.1)
    (λ e. let file : damage.file ≡ format.nodes_file = ap (λ (k : Key). k.file) e in let f = of.0 in omega arith)

-- so are another node, and a group that is no other node's than that
pub other_beside : (s t : State) (a b : ℕ) → b ≢ a → LeavesBeside s.records t.records a → KeepsThese s t (IsOfEnd t b)
other_beside s t a b ne beside damage (inl mark) = marks_beside s t a beside damage mark
other_beside s t a b ne beside damage (inr (inl group)) =
    subst (λ f. t.records (key_in f damage.id) ≡ s.records (key_in f damage.id)) (sym group.0) (beside.groups damage.id (group.1 a (λ e. ne (sym e))))
other_beside s t a b ne beside damage (inr (inr at)) = beside.others (key_in damage.file damage.id)
    (λ (e : damage.file ≡ format.relationships_file). let f = at.0 in omega arith) (λ (e : damage.file ≡ format.groups_file). let f = at.0 in omega arith)
    (λ e. let file : damage.file ≡ format.meta_file = ap (λ (k : Key). k.file) e in let f = at.0 in omega arith)
    (λ e. let id : damage.id ≡ a = ap (λ (k : Key). k.id) e in ne (sym (⊎_elim (λ (f : damage.id ≡ b). f) (λ (f : damage.id ≡ b). f) at.1) ∙ id))

-- a record that is named where no head is found or made
named_chain : (k : ℕ) (s t : State) (node : ℕ) → LeavesBeside s.records t.records node → (damage : Damage) → IsNamedAt s node damage
    → NamesFound s t node (opens.Damaged damage) → NamesMeta s t k (opens.Damaged damage) → IsChainDamage s t (IsOfEnd s node) damage
named_chain k s t node beside damage (inl (inl (inl group))) found metas =
    ⊎_elim (λ list. inl (inr (inr list))) (λ k. inr (inr (inl (group, k.1)), k.0)) (found.groups group)
named_chain k s t node beside damage (inl (inl (inr of))) found metas = inl (inr (inr (metas of)))
named_chain k s t node beside damage (inl (inr at)) found metas = inr (inr (inr (at.0, inl at.1)), found.nodes at.0)
named_chain k s t node beside damage (inr (inl mark)) found metas = inr (inl mark, marks_beside s t node beside damage mark)
named_chain k s t node beside damage (inr (inr unread)) found metas = inl (inl unread)

pub open_blames : (k : ℕ) (s t : State) (node : ℕ) (fault : OpenFault) → NamesAt s node fault → NamesFound s t node fault → NamesMeta s t k fault
    → IfRefuses (LeavesBeside s.records t.records node) fault → BlamesEnd s t node (of_open fault)
open_blames k s t node (opens.Full live) names found metas beside = tt
open_blames k s t node opens.Memory names found metas beside = tt
open_blames k s t node opens.Disk names found metas beside = tt
open_blames k s t node (opens.Damaged damage) names found metas beside = named_chain k s t node beside damage names found metas

-- an identifier is taken, and the record of a relationship is written
pub found_placed : (s t : State) (id from to : ℕ)
    → ChangesOnly s t (key_in format.relationships_file id ∷ meta_key_of format.relationships_file ∷ []) → KeepsButChains s t from to
found_placed s t id from to changes damage = by (changes.each (key_in damage.file damage.id))
  where
    by : (t.records (key_in damage.file damage.id) ≡ s.records (key_in damage.file damage.id))
        ⊎ IsAmong (key_in damage.file damage.id) (key_in format.relationships_file id ∷ meta_key_of format.relationships_file ∷ [])
        → IsAsFound s t damage ⊎ IsOfChains from to damage
    by (inl same) = inl same
    by (inr (inl e)) = inr (inl (inl (ap (λ (k : Key). k.file) e)))
    by (inr (inr (inl e))) = inr (inl (inr (ap (λ (k : Key). k.file) e, ap (λ (k : Key). k.id) e)))
    by (inr (inr (inr none))) = absurd none

-- nothing is written where no identifier is taken
pub taken_found : (s t : State) → SameButReads s t → (damage : Damage)
    → IsOfMarks damage ⊎ IsListDamage s.records s.shape format.relationships_file damage → IsChainDamage s t (λ _. ⊥) damage
taken_found s t same damage told = ⊎_elim
    (λ of. inr (inl of, ap (λ (z : State). z.records (key_in damage.file damage.id)) same)) (λ list. inl (inr (inl list))) told

-- no record of another file is written then but a meta record
pub placed_others : (s t : State) (id : ℕ) → ChangesOnly s t (key_in format.relationships_file id ∷ meta_key_of format.relationships_file ∷ [])
    → (key : Key) → key.file ≢ format.relationships_file → key.file ≢ format.meta_file → t.records key ≡ s.records key
placed_others s t id changes key no_rel no_meta = by (changes.each key)
  where
    by : (t.records key ≡ s.records key) ⊎ IsAmong key (key_in format.relationships_file id ∷ meta_key_of format.relationships_file ∷ [])
        → t.records key ≡ s.records key
    by (inl same) = same
    by (inr (inl e)) = absurd (no_rel (ap (λ (k : Key). k.file) e))
    by (inr (inr (inl e))) = absurd (no_meta (ap (λ (k : Key). k.file) e))
    by (inr (inr (inr none))) = absurd none

-- its record is in use
pub placed_used : (rec : Rec) (row : RelRow) → row_of rec row.id ≡ row → field 1 (rel_record row) format.kind ≢ format.free_kind
placed_used rec row got free =
    let small : HasNumbers row = record {
      label = omega (arith, field-lt 4 rec 4, ap (λ (r : RelRow). r.label) got);
      from = omega (arith, field-lt 4 rec 8, ap (λ (r : RelRow). r.from) got);
      to = omega (arith, field-lt 4 rec 12, ap (λ (r : RelRow). r.to) got);
      source_previous = omega (arith, field-lt 4 rec 16, ap (λ (r : RelRow). r.source_previous) got);
      source_next = omega (arith, field-lt 4 rec 20, ap (λ (r : RelRow). r.source_next) got);
      target_previous = omega (arith, field-lt 4 rec 24, ap (λ (r : RelRow). r.target_previous) got);
      target_next = omega (arith, field-lt 4 rec 28, ap (λ (r : RelRow). r.target_next) got);
      property = omega (arith, field-lt 4 rec 32, ap (λ (r : RelRow). r.property) got);
    } in
    let kind = kind-rel_record row small in omega arith

-- it is put at the front of a chain of the node
module _ (s : State) (head : Head) (node : ℕ) (owns : IsHeadOf s.records head node) (rel d : ℕ) where
  found_joined : KeepsButChains s (joined s head node rel d) node node
  found_joined damage =
      by (nat_cases damage.file format.relationships_file) (key_cases (key_in damage.file damage.id) head.key)
      (key_cases (key_in damage.file damage.id) (key_in format.nodes_file node))
    where
      at_head : key_in damage.file damage.id ≡ head.key → IsHeadOf s.records head node → IsOfChains node node damage
      at_head e (inl o) =
          let key = e ∙ ap (λ (h : Head). h.key) o.is in
          inr (inr (ap (λ (k : Key). k.file) key, inl (ap (λ (k : Key). k.id) key)))
      at_head e (inr o) = inr (inl (inl (ap (λ (k : Key). k.file) (e ∙ o.key))))

      by : (damage.file ≡ format.relationships_file) ⊎ (damage.file ≢ format.relationships_file)
          → (key_in damage.file damage.id ≡ head.key) ⊎ (key_in damage.file damage.id ≢ head.key)
          → (key_in damage.file damage.id ≡ key_in format.nodes_file node) ⊎ (key_in damage.file damage.id ≢ key_in format.nodes_file node)
          → IsAsFound s (joined s head node rel d) damage ⊎ IsOfChains node node damage
      by (inl r) h n = inr (inl (inl r))
      by (inr r) (inl h) n = inr (at_head h owns)
      by (inr r) (inr h) (inl n) = inr (inr (inr (ap (λ (k : Key). k.file) n, inl (ap (λ (k : Key). k.id) n))))
      by (inr r) (inr h) (inr n) = inl (record_joined s head node rel d (key_in damage.file damage.id) r h n)

  -- in two steps
  pub found_joined_by : (u t : State) → u ≡ tallied one_more (pushed s head node rel) head → t ≡ after_set u (key_in format.nodes_file node)
      4 format.node_degree d
      → KeepsButChains s t node node
  unfolding joined
  found_joined_by u t put set =
      subst (λ (z : State). KeepsButChains s z node node) (sym (set ∙ ap (λ (z : State). after_set z (key_in format.nodes_file node) 4 format.node_degree d)
      put))
      found_joined

-- no record of another file is written but that of the head and the node's
pub others_joined_by : (s : State) (head : Head) (node rel d : ℕ) (u t : State) → u ≡ tallied one_more (pushed s head node rel) head
    → t ≡ after_set u (key_in format.nodes_file node) 4 format.node_degree d
    → (key : Key) → key.file ≢ format.relationships_file → key ≢ head.key → key ≢ key_in format.nodes_file node → t.records key ≡ s.records key
unfolding joined
others_joined_by s head node rel d u t put set key no_rel no_head no_node = ap (λ (z : State). z.records key)
    (set ∙ ap (λ (z : State). after_set z (key_in format.nodes_file node) 4 format.node_degree d) put)
    ∙ record_joined s head node rel d key no_rel no_head no_node

-- it can't be put there: the head leads nowhere, or there is no room for so many
pub push_blames : (s t : State) (end : EdgeEnd) → (fault : Fault) → IsPushFault s (head_of end.head) fault
    → IfSome (damage_of fault) (λ _. t ≡ after_get s) → BlamesEndJoined s t end (of_fault fault)
push_blames s t end faults.Memory told same = tt
push_blames s t end faults.Disk told same = tt
push_blames s t end (faults.Damaged damage) told same = by damage told (ap (λ (z : State). z.records (key_in damage.file damage.id)) same)
  where
    by : (d : Damage) → IsLinkDamage s (first_of s.records (head_of end.head)) (first_damage end.head.key) d → IsAsFound s t d → IsJoinDamage s t (Loop end) d
    by d (LeadsNowhere some above) still = inr (record { key = refl; lost = λ low. ⊎_elim (λ none. some none) (λ lt. omega (arith, lt, above)) low }, still)
    by d (HighMark above) still = inl (refl, above)

-- it was put at the source before
pub source_first : (s t : State) (source target : EdgeEnd) (damage : Damage) → IsJoinDamage s t (Loop source) damage
    → IsJoinDamage s t (Two source target) damage
source_first s t source target damage (inl high) = inl high
source_first s t source target damage (inr at) = inr (inl at.0, at.1)

-- the head of the target isn't written where it is put at the source
pub joined_then : (s u t : State) (source target : EdgeEnd) → source.node ≢ target.node → u.shape ≡ s.shape
    → high u.records format.relationships_file ≡ high s.records format.relationships_file → KeepsBesideEnd s u source
    → HasHead s.records source → HasHead s.records target
    → (damage : Damage) → IsJoinDamage u t (Loop target) damage → IsJoinDamage s t (Two source target) damage
joined_then s u t source target ne shape mark keeps has_source has_target damage (inl high) =
    inl (high.0, subst (λ n. rel_room s < n) mark (subst (λ (h : Shape). room_of h format.relationships_file < rel_mark u) shape high.1))
joined_then s u t source target ne shape mark keeps has_source has_target damage (inr at) =
    inr (inr (lost_before s u damage target mark same at.0), at.1 ∙ ap u.records at.0.key ∙ same ∙ ap s.records (sym at.0.key))
  where
    away : (target.head.key ≢ source.head.key) × (target.head.key ≢ key_in format.nodes_file source.node)
    away = keys_apart s.records (head_of source.head) (head_of target.head) source.node target.node ne has_source has_target

    same : u.records target.head.key ≡ s.records target.head.key
    same = keeps target.head.key (head_is_no_rel s.records (head_of target.head) target.node has_target) away.0 away.1

-- ---- what is so at some end

pub at_some : {T P : Type 0} (each some : T → Type 0) (ends : Ends T) → ((end : T) → each end → some end → P) → AtEach each ends → AtSome some ends → P
at_some each some (Loop end) then is at = then end is at
at_some each some (Two source target) then is (inl at) = then source is.0 at
at_some each some (Two source target) then is (inr at) = then target is.1 at

some_more : {T : Type 0} (each some other : T → Type 0) (ends : Ends T) → ((end : T) → each end → some end → other end) → AtEach each ends → AtSome some ends
    → AtSome other ends
some_more each some other (Loop end) then is at = then end is at
some_more each some other (Two source target) then is (inl at) = inl (then source is.0 at)
some_more each some other (Two source target) then is (inr at) = inr (then target is.1 at)

-- what is told then, after an identifier was taken and its record written
pub placed_then : (s u t : State) (ends : Ends EdgeEnd) → HarmsNoList s u format.relationships_file
    → ((key : Key) → key.file ≢ format.relationships_file → key.file ≢ format.meta_file → u.records key ≡ s.records key)
    → rel_mark s ≤ rel_mark u → AtEach (HasHead s.records) ends → (damage : Damage)
    → IsJoinDamage u t ends damage → IsChainDamage s t (IsOfLost s ends) damage
placed_then s u t ends harmless others grown has damage (inl high) =
    inl (inr (inl (subst (IsListDamage s.records s.shape format.relationships_file) (sym high.0)
    (harmless mark_damage (OutOfRange (λ r. let low = r.mark in let above = high.1 in omega arith))))))
placed_then s u t ends harmless others grown has damage (inr at) =
    inr (inr (some_more (HasHead s.records) (IsLostEnd u damage) (IsLostEnd s damage) ends lost has at.0), at.1 ∙ was)
  where
    same : (end : EdgeEnd) → HasHead s.records end → u.records end.head.key ≡ s.records end.head.key
    same end owns = others end.head.key (head_is_no_rel s.records (head_of end.head) end.node owns) (head_is_no_meta s.records (head_of end.head) end.node owns)

    lost : (end : EdgeEnd) → HasHead s.records end → IsLostEnd u damage end → IsLostEnd s damage end
    lost end owns is = record {
      key = is.key;
      lost = λ low. is.lost (subst (IsLowLink u.records) (sym (ap (λ (r : Rec). field 4 r end.head.field) (same end owns)))
          (⊎_elim (λ none. inl none) (λ lt. inr (omega (arith, lt, grown))) low));
    }

    was : IsAsFound s u damage
    was = at_some (HasHead s.records) (IsLostEnd u damage) ends (λ end owns is. ap u.records is.key ∙ same end owns ∙ ap s.records (sym is.key)) has at.0

-- and after the heads of the ends were found or made
pub lost_kept : (s t : State) (ends : Ends EdgeEnd) → KeepsMarks s t → AtEach (KeepsHead s t) ends → KeepsThese s t (IsOfLost t ends)
lost_kept s t ends marks kept damage (inl mark) = marks damage mark
lost_kept s t ends marks kept damage (inr at) = at_some (KeepsHead s t) (IsLostEnd t damage) ends
    (λ end keeps is. ⊎_elim (λ same. ap t.records is.key ∙ same ∙ ap s.records (sym is.key)) (λ low. absurd (is.lost low)) keeps) kept at

-- they are those of the nodes, or of groups
pub lost_ends : (s : State) (ends : Ends EdgeEnd) (from to : ℕ) → (source_of ends).node ≡ from → (target_of ends).node ≡ to
    → AtEach (HasHead s.records) ends → (damage : Damage) → IsOfLost s ends damage → IsOfEnds from to damage
lost_ends s (Loop end) from to a b has damage is = head_of_end s end from to (inl a) has damage is
lost_ends s (Two source target) from to a b has damage (inl is) = head_of_end s source from to (inl a) has.0 damage is
lost_ends s (Two source target) from to a b has damage (inr is) = head_of_end s target from to (inr b) has.1 damage is

-- ---- the files of properties and blocks

module _ (s t : State) (from to : ℕ) (shape : t.shape ≡ s.shape) (keeps : KeepsButChains s t from to) where
  record_same : (file id : ℕ) → file ≢ format.relationships_file → file ≢ format.groups_file → file ≢ format.nodes_file → file ≢ format.meta_file
      → t.records (key_in file id) ≡ s.records (key_in file id)
  record_same file id rel group node meta = by (keeps (record { file = file; id = id; rule = 0 }))
    where
      by : (t.records (key_in file id) ≡ s.records (key_in file id)) ⊎ IsOfChains from to (record { file = file; id = id; rule = 0 })
          → t.records (key_in file id) ≡ s.records (key_in file id)
      by (inl same) = same
      by (inr (inl (inl e))) = absurd (rel e)
      by (inr (inl (inr e))) = absurd (meta e.0)
      by (inr (inr (inl (inl e)))) = absurd (group e)
      by (inr (inr (inl (inr e)))) = absurd (meta e.0)
      by (inr (inr (inr e))) = absurd (node e.0)

  meta_same : (file : ℕ) → file ≢ format.relationships_file → file ≢ format.groups_file → t.records (meta_key_of file) ≡ s.records (meta_key_of file)
  meta_same file rel group = by (keeps (record { file = format.meta_file; id = file; rule = 0 }))
    where
      by : (t.records (meta_key_of file) ≡ s.records (meta_key_of file)) ⊎ IsOfChains from to (record { file = format.meta_file; id = file; rule = 0 })
          → t.records (meta_key_of file) ≡ s.records (meta_key_of file)
      by (inl same) = same
      by (inr (inl (inl e))) = absurd (let z : format.meta_file ≡ format.relationships_file = e in omega arith)
      by (inr (inl (inr e))) = absurd (rel e.1)
      by (inr (inr (inl (inl e)))) = absurd (let z : format.meta_file ≡ format.groups_file = e in omega arith)
      by (inr (inr (inl (inr e)))) = absurd (group e.1)
      by (inr (inr (inr e))) = absurd (let z : format.meta_file ≡ format.nodes_file = e.0 in omega arith)

  list_same : (file : ℕ) → file ≢ format.relationships_file → file ≢ format.groups_file → file ≢ format.nodes_file → file ≢ format.meta_file
      → HarmsNoList s t file
  list_same file rel group node meta = beside_harms_none s t file shape (meta_same file rel group) (λ x. record_same file x rel group node meta)

  -- their free lists stay
  pub chains_harm_no_lists : HarmsNoLists s t
  chains_harm_no_lists = record {
    properties = list_same format.properties_file (λ e. omega arith) (λ e. omega arith) (λ e. omega arith) (λ e. omega arith);
    blocks = list_same format.strings_file (λ e. omega arith) (λ e. omega arith) (λ e. omega arith) (λ e. omega arith);
  }

-- ---- names before

-- a name that is new is no node, no group and no meta record of another file
pub these_beyond : (s t : State) (from to : ℕ) → KeepsButNames s t → KeepsThese s t (IsOfEnds from to)
these_beyond s t from to keeps damage (inl of) = keeps (key_in damage.file damage.id) (λ (e : damage.file ≡ format.names_file). let f = of.0 in omega arith)
    (λ e. let id : damage.id ≡ format.names_file = ap (λ (k : Key). k.id) e in
    ⊎_elim (λ (f : damage.id ≡ format.nodes_file). omega arith) (λ (f : damage.id ≡ format.relationships_file). omega arith) of.1)
these_beyond s t from to keeps damage (inr (inl group)) = keeps (key_in damage.file damage.id) (λ (e : damage.file ≡ format.names_file). omega arith)
    (λ e. let file : damage.file ≡ format.meta_file = ap (λ (k : Key). k.file) e in omega arith)
these_beyond s t from to keeps damage (inr (inr at)) =
    keeps (key_in damage.file damage.id) (λ (e : damage.file ≡ format.names_file). let f = at.0 in omega arith)
    (λ e. let file : damage.file ≡ format.meta_file = ap (λ (k : Key). k.file) e in let f = at.0 in omega arith)

-- reads before
pub read_names : (s n u : State) → SameButReads s n → KeepsButNames n u → KeepsButNames s u
read_names s n u same keeps key other no_meta = keeps key other no_meta ∙ ap (λ (z : State). z.records key) same

-- ---- what is blamed of an edge that is added

pub broken_added : (s t : State) (fault : ChangeFault) → BlamesBroken s fault → BlamesAdded s t fault
broken_added s t fault told = blames_more (IsBroken s) (IsAddDamage s t) (λ damage broken. inl broken) fault told

-- in the chains
chain_added : (s u t : State) (from to : ℕ) → u.shape ≡ s.shape → KeepsButNames s u → (damage : Damage) → IsBroken t damage
    → IsChainDamage u t (IsOfEnds from to) damage
    → IsAddDamage s t damage
chain_added s u t from to shape keeps damage broken (inl file) = inl (files_broken s damage (files_beyond s u shape keeps damage file))
chain_added s u t from to shape keeps damage broken (inr found) = inr (broken, found.1 ∙ these_beyond s u from to keeps damage found.0)

pub chains_added : (s u t : State) (from to : ℕ) → u.shape ≡ s.shape → KeepsButNames s u → (fault : ChangeFault) → BlamesBroken t fault
    → BlamesChains u t from to fault → BlamesAdded s t fault
chains_added s u t from to shape keeps fault told found =
    let chains = IsChainDamage u t (IsOfEnds from to) in
    blames_more (λ damage. IsBroken t damage × chains damage) (IsAddDamage s t)
    (λ damage both. chain_added s u t from to shape keeps damage both.0 both.1) fault (blames_both (IsBroken t) chains fault told found)

-- the file of groups had the same room before names were made
pub few_before : (k : ℕ) (s u : State) → k ≡ groups_needed s.shape.threshold → u.shape ≡ s.shape → KeepsButNames s u
    → room_of u.shape format.groups_file < (meta_of u format.groups_file).live + k
    → room_of s.shape format.groups_file < (meta_of s format.groups_file).live + groups_needed s.shape.threshold
few_before k s u is shape keeps lacks =
    let room = ap (λ (h : Shape). room_of h format.groups_file) shape in
    let live = ap (λ (r : Rec). (metas.meta_of r).live) (keeps (meta_key_of format.groups_file) (λ e. omega arith)
    (λ e. let i = ap (λ (q : Key). q.id) e in omega arith)) in
    omega (arith, lacks, room, live, is)

-- in the free lists of properties and blocks
pub lists_added : (s v t : State) → HarmsNoLists s v → (fault : ChangeFault) → IfBlames (IsOfLists v) fault → BlamesAdded s t fault
lists_added s v t harmless fault told =
    broken_added s t fault
    (blames_more (IsOfLists v) (IsBroken s) (λ damage of. lists_broken s damage (lists_before s v harmless damage of)) fault told)
