-- What a change of a node's groups leaves of all other records, whatever the records are.
use Rattle.std.specs.Prelude.{IfSome, OnOk, nat_eq, not}
use Rattle.std.proofs.lemmas.Bool.{and_parts, eqb-true, false≢true}
use Rattle.std.proofs.Common.{◌≡◌, ◌≢◌, ◌⊎◌, ℕ, ◌+◌, ◌<◌, ◌≤◌, ◌^◌, List, true, false, Result, Ok, Err, sym, ap, ◌∙◌, subst, inl, inr, ⊎_elim, arith, refl}
use Rattle.rec_bytes.specs.declared.fault.Fault.{Fault}
use Rattle.rec_bytes.specs.declared.key.Key.{Key}
use Rattle.rec_bytes.specs.declared.meta.Meta.{Meta}
use Rattle.rec_bytes.specs.declared.record.Rec.{Rec}
use Rattle.rec_bytes.specs.Fault.{damage_of}
use Rattle.group_store.specs.OpenFault.{IfRefuses, of_fault}
use Rattle.group_store.specs.declared.open_fault.OpenFault.{OpenFault}
use Rattle.group_store.proofs.OpenFaults.{if_refuses, refuses}
use Rattle.rec_bytes.specs.Format as format
use Rattle.rec_bytes.specs.Meta as metas
use Rattle.rec_bytes.specs.Record.{field, with_field}
use Rattle.rec_bytes.specs.RecordFiles.{meta_key_of}
use Rattle.rec_bytes.specs.Space.{SameButReads, State, after_get, after_put, after_set, meta_of, put}
use Rattle.rec_bytes.proofs.Numbers.{field-lt, field-with_field_other}
use Rattle.rec_bytes.proofs.Spaces.{meta_in-put_other, put_other, put_same}
use Rattle.node_store.specs.NodeRecord.{node_key}
use Rattle.id_freelist.specs.Taking.{taken, taken_id}
use Rattle.store_rules.specs.Rules.{Head, first_of}
use Rattle.store_rules.specs.Views.{Records, first_link, high, is_group_kind, is_live, key_in, kind_at, kind_in, rec_at}
use Rattle.store_rules.proofs.NumberLaws.{nat_cases}
use Rattle.store_rules.proofs.ViewLaws.{group_used, kind_below, kind_low, live_true}
use Rattle.chain_edit.specs.Chains.{next_place, prev_place}
use Rattle.chain_edit.specs.Links as links
use Rattle.chain_edit.specs.Pushing.{pushed}
use Rattle.store_rules.proofs.ChainSteps.{first_in, on_test}
use Rattle.chain_edit.proofs.LinkLaws.{elsewhere-set_prev, field-set_other, key_cases, place_high, place_low, set_at}
use Rattle.group_store.specs.Counting.{one_more, tallied}
use Rattle.group_store.specs.GroupRecord.{group_key}
use Rattle.group_store.specs.GroupChain.{IsGroupList, IsGroupOf, is_group_of, next_group}
use Rattle.group_store.specs.Leaving.{LeavesBeside, LeavesCounted}
use Rattle.group_store.specs.Links.{backed}
use Rattle.group_store.specs.Making.{empty_group, led, made}
use Rattle.group_store.specs.Raising.{raised, raised_state}
use Rattle.group_store.specs.Spreading.{cleared}
use Rattle.group_store.specs.declared.raising.Counts.{Counts}
use Rattle.group_store.proofs.Clearing.{clear_of, clear_other}
use Rattle.group_store.proofs.DenseStays.{taken_other}
use Rattle.group_store.proofs.KeptHeads.{numbered, raised_kind}
use Rattle.group_store.proofs.Makes.{kind-empty_group, number-empty_group}
use Rattle.group_store.proofs.OwnRecords.{group_by, group_says, group_true}
use Rattle.group_store.proofs.Tallies.{elsewhere-tallied, field-tallied, file-tallied}

-- ---- one change

pub beside_none : (s : Records) (node : ℕ) → LeavesBeside s s node
beside_none s node = record {
  others = λ key a b c d. refl;
  here = λ n at inside one apart. refl;
  rels = λ x n at inside apart. refl;
  groups = λ g apart. refl;
}

pub beside_read : (s t : State) (node : ℕ) → SameButReads s t → LeavesBeside s.records t.records node
beside_read s t node same = subst (λ (z : State). LeavesBeside s.records z.records node) (sym same) (beside_none s.records node)

pub beside_then : (s t u : Records) (node : ℕ) → LeavesBeside s t node → LeavesBeside t u node → LeavesBeside s u node
beside_then s t u node a b = record {
  others = λ key no_rel no_group no_meta ne. b.others key no_rel no_group no_meta ne ∙ a.others key no_rel no_group no_meta ne;
  here = λ n at inside one apart. b.here n at inside one apart ∙ a.here n at inside one apart;
  rels = λ x n at inside apart. b.rels x n at inside apart ∙ a.rels x n at inside apart;
  groups = λ g no. let later = b.groups g no in later ∙ a.groups g (ap (λ r. is_group_of r node) (sym later) ∙ no);
}

-- no record but the node's groups and their meta record is other
beside_groups : (s t : Records) (node : ℕ) → ((key : Key) → key.file ≢ format.groups_file → key ≢ meta_key_of format.groups_file → t key ≡ s key)
    → ((g : ℕ) → is_group_of (t (group_key g)) node ≡ false → t (group_key g) ≡ s (group_key g)) → LeavesBeside s t node
beside_groups s t node same groups = record {
  others = λ key a b c d. same key b c;
  here = λ n at inside one apart. ap (λ r. field n r at) (same (key_in format.nodes_file node) (λ e. omega arith) (λ e. let f = ap (λ (k : Key). k.file)
      e in omega arith));
  rels = λ x n at inside apart. ap (λ r. field n r at) (same (key_in format.relationships_file x) (λ e. omega arith) (λ e. let f = ap (λ (k : Key). k.file)
      e in omega arith));
  groups = groups;
}

-- a group of the node is written
pub beside_group : (s : Records) (node : ℕ) (key : Key) (rec : Rec) → key.file ≡ format.groups_file → is_group_of rec node ≡ true
    → LeavesBeside s (put s key rec) node
beside_group s node key rec group own = beside_groups s (put s key rec) node
    (λ q no_group no_meta. put_other s key rec q (λ e. no_group (ap (λ (k : Key). k.file) e ∙ group)))
    (λ g no. ⊎_elim
    (λ (e : group_key g ≡ key). absurd (false≢true (sym no ∙ ap (λ r. is_group_of r node) (ap (put s key rec) e ∙ put_same s key rec) ∙ own)))
    (λ ne. put_other s key rec (group_key g) ne) (key_cases (group_key g) key))

-- the node's record is
beside_node : (s : Records) (node : ℕ) (rec : Rec) → ((n at : ℕ) → at + n ≤ format.record_bytes → 1 ≤ at → (at + n ≤ format.node_first_link) ⊎
    (format.node_first_property ≤ at) → field n rec at ≡ field n (s (node_key node)) at)
    → LeavesBeside s (put s (node_key node) rec) node
beside_node s node rec stays = record {
  others = λ key a b c d. put_other s (node_key node) rec key d;
  here = λ n at inside one apart. ap (λ r. field n r at) (put_same s (node_key node) rec) ∙ stays n at inside one apart;
  rels = λ x n at inside apart. ap (λ r. field n r at) (put_other s (node_key node) rec (key_in format.relationships_file x)
      (λ e. let f = ap (λ (k : Key). k.file) e in omega arith));
  groups = λ g no. put_other s (node_key node) rec (group_key g) (λ e. let f = ap (λ (k : Key). k.file) e in omega arith);
}

-- a link of a relationship is set
beside_link : (s : Records) (node : ℕ) (p : Head) (to : ℕ) → p.key.file ≡ format.relationships_file → 16 ≤ p.field → p.field ≤ 28
    → LeavesBeside s (set_at s p to) node
beside_link s node p to rel low high = record {
  others = λ key a b c d. put_other s p.key (with_field 4 (s p.key) p.field to) key (λ e. a (ap (λ (k : Key). k.file) e ∙ rel));
  here = λ n at inside one apart. ap (λ r. field n r at) (put_other s p.key (with_field 4 (s p.key) p.field to) (key_in format.nodes_file node)
      (λ e. let f : format.nodes_file ≡ format.relationships_file = ap (λ (k : Key). k.file) e ∙ rel in omega arith));
  rels = λ x n at inside apart. field-set_other s p to (key_in format.relationships_file x) n at inside
      (λ e. ⊎_elim (λ (k : at + n ≤ format.relationship_source_previous). inl (omega arith)) (λ (k : format.relationship_first_property ≤ at). inr
      (omega arith)) apart);
  groups = λ g no. put_other s p.key (with_field 4 (s p.key) p.field to) (group_key g)
      (λ e. let f : format.groups_file ≡ format.relationships_file = ap (λ (k : Key). k.file) e ∙ rel in omega arith);
}

pub beside_prev : (s : State) (node m x to : ℕ) → LeavesBeside s.records (links.prev_set s m x to).records node
beside_prev s node m x to =
    let r = rec_at s.records format.relationships_file x in
    beside_link s.records node (prev_place s.records m x) to refl (place_low r m) (let h = place_high r m in omega arith)

pub beside_next : (s : State) (node m x to : ℕ) → LeavesBeside s.records (links.next_set s m x to).records node
beside_next s node m x to =
    let r = rec_at s.records format.relationships_file x in
    beside_link s.records node (next_place s.records m x) to refl (let h = place_low r m in omega arith) (let h = place_high r m in omega arith)

-- ---- a group that is made

-- the number of a group's record is set, behind its owner
own_set : (r : Rec) (node place to : ℕ) → 12 ≤ place → is_group_of r node ≡ true → is_group_of (with_field 4 r place to) node ≡ true
own_set r node place to far own = group_by r (with_field 4 r place to) node
    (field-with_field_other 4 r place to 1 format.kind (omega arith) (inr (omega arith)))
    (field-with_field_other 4 r place to 4 format.group_owner (omega arith) (inr (omega arith))) ∙ own

-- the first group, if any, is the node's
abbrev pub FirstIsOwn : Records → ℕ → ℕ → Type 0
FirstIsOwn records node first = (first ≡ format.nil) ⊎ (is_group_of (records (group_key first)) node ≡ true)

beside_led : (u : State) (node first id : ℕ) (rec : Rec) → is_group_of rec node ≡ true → FirstIsOwn u.records node first
    → LeavesBeside u.records (led u node first id rec).records node
unfolding led backed
beside_led u node first id rec own first_own =
    let t = after_put u (group_key id) rec in
    let b = backed t first id in
    beside_then u.records t.records (led u node first id rec).records node (beside_group u.records node (group_key id) rec refl own)
    (beside_then t.records b.records (led u node first id rec).records node
    (on_test (λ (q : State). LeavesBeside t.records q.records node) first format.nil t (after_set t (group_key first) 4 format.group_previous id)
    (λ _. beside_none t.records node) (λ some. beside_group t.records node (group_key first) _ refl (own_set (t.records (group_key first)) node
    format.group_previous id (omega arith) (own_there some))))
    (beside_node b.records node (with_field 4 (b.records (node_key node)) format.node_first_link id)
    (λ n at inside one apart. sym (ap (λ r. field n r at) (put_same b.records (node_key node) (with_field 4 (b.records (node_key node)) format.node_first_link
    id)))
    ∙ field-set_other b.records (record { key = node_key node; field = format.node_first_link }) id (node_key node) n at inside (λ _. apart))))
  where
    own_there : first ≢ format.nil → is_group_of ((after_put u (group_key id) rec).records (group_key first)) node ≡ true
    own_there some = ⊎_elim
        (λ (e : group_key first ≡ group_key id). ap (λ r. is_group_of r node) (ap (put u.records (group_key id) rec) e ∙ put_same u.records (group_key id) rec)
        ∙ own)
        (λ ne. ap (λ r. is_group_of r node) (put_other u.records (group_key id) rec (group_key first) ne) ∙ ⊎_elim (λ none. absurd (some none)) (λ is. is)
        first_own)
        (key_cases (group_key first) (group_key id))

pub beside_made : (s : State) (node label : ℕ) → node < 2 ^ 32 → label < 2 ^ 32 → FirstIsOwn s.records node (first_link s.records node)
    → LeavesBeside s.records (made s node label).records node
unfolding made
beside_made s node label small_node small_label first_own =
    let first = first_link s.records node in
    let id = taken_id (meta_of s format.groups_file) in
    let u = taken (after_get s) format.groups_file in
    let small_first = field-lt 4 (rec_at s.records format.nodes_file node) format.node_first_link in
    let group_same : (g : ℕ) → u.records (group_key g) ≡ s.records (group_key g)
    = λ g. taken_other (after_get s) (group_key g) (λ e. let f = ap (λ (k : Key). k.file) e in absurd (omega arith)) in
    beside_then s.records u.records (made s node label).records node
    (beside_groups s.records u.records node (λ key a b. taken_other (after_get s) key b) (λ g no. group_same g))
    (beside_led u node first id (empty_group node label first) (group_true (empty_group node label first) node
    (ap is_group_kind (kind-empty_group node label first small_node small_label small_first))
    (number-empty_group node label first format.group_owner node small_node small_label small_first refl))
    (⊎_elim (λ none. inl none) (λ is. inr (ap (λ r. is_group_of r node) (group_same first) ∙ is)) first_own))

-- the first group is the node's where its links lead through its groups
pub first_own : (records : Records) (node : ℕ) (xs : List ℕ) → IsGroupList records node (first_link records node) xs
    → FirstIsOwn records node (first_link records node)
first_own records node xs list = ⊎_elim (λ none. inl none)
    (λ i. inr (group_says records node (first_link records node) (list.only (first_link records node) i)))
    (first_in (next_group records) (first_link records node) xs list.walk)

-- ---- a group that gets its numbers

pub beside_raised : (s z t : State) (node g : ℕ) (counts : Counts) → SameButReads s z → t ≡ raised_state z g counts
    → is_group_of (s.records (group_key g)) node ≡ true → LeavesBeside s.records t.records node
beside_raised s z t node g counts same is own = beside_then s.records z.records t.records node (beside_read s z node same)
    (subst (λ (q : State). LeavesBeside z.records q.records node) (sym is) (beside_group z.records node (group_key g) (raised (z.records (group_key g)) counts)
    refl (group_true (raised (z.records (group_key g)) counts) node (ap is_group_kind (raised_kind (z.records (group_key g)) counts))
    (numbered (z.records (group_key g)) counts 4 format.group_owner (omega arith)
    ∙ field-with_field_other 1 (z.records (group_key g)) format.kind format.counted 4 format.group_owner (omega arith) (inl (omega arith)) ∙ owner_z))))
  where
    own_z : is_group_of (z.records (group_key g)) node ≡ true
    own_z = ap (λ (q : State). is_group_of (q.records (group_key g)) node) same ∙ own

    owner_z : field 4 (z.records (group_key g)) format.group_owner ≡ node
    owner_z = eqb-true _ node (and_parts (is_group_kind (field 1 (z.records (group_key g)) format.kind))
        (nat_eq (field 4 (z.records (group_key g)) format.group_owner) node) own_z).1

-- ---- a relationship that comes into a group

beside_pushed : (s : State) (node : ℕ) (h : Head) (rel : ℕ) → h.key.file ≡ format.groups_file → 12 ≤ h.field
    → is_group_of (s.records h.key) node ≡ true → LeavesBeside s.records (pushed s h node rel).records node
unfolding pushed links.backed
beside_pushed s node h rel group far own =
    let first = first_of s.records h in
    let b = links.backed (after_get s) node first rel in
    let l = links.next_set b node rel first in
    beside_then s.records b.records (pushed s h node rel).records node
    (on_test (λ (q : State). LeavesBeside s.records q.records node) first format.nil (after_get s) (links.prev_set (after_get s) node first rel)
    (λ _. beside_none s.records node) (λ _. beside_prev (after_get s) node node first rel))
    (beside_then b.records l.records (pushed s h node rel).records node (beside_next b node node rel first) (beside_group l.records node h.key
    (with_field 4 (s.records h.key) h.field rel) group (own_set (s.records h.key) node h.field rel far own)))

own_pushed : (t : State) (node : ℕ) (h : Head) (rel : ℕ) → 12 ≤ h.field → is_group_of (t.records h.key) node ≡ true
    → is_group_of ((pushed t h node rel).records h.key) node ≡ true
unfolding pushed
own_pushed t node h rel far own =
    let all = links.next_set (links.backed (after_get t) node (first_of t.records h) rel) node rel (first_of t.records h) in
    ap (λ r. is_group_of r node) (put_same all.records h.key (with_field 4 (t.records h.key) h.field rel)) ∙ own_set (t.records h.key) node h.field rel far own

beside_tallied : (change : ℕ → ℕ) (s : State) (node : ℕ) (h : Head) → is_group_of (s.records h.key) node ≡ true
    → LeavesBeside s.records (tallied change s h).records node
beside_tallied change s node h own = beside_groups s.records (tallied change s h).records node (λ key a b. file-tallied change s h key a)
    (λ g no. ⊎_elim
    (λ (e : group_key g ≡ h.key). absurd (false≢true (sym no ∙ ap (λ k. is_group_of ((tallied change s h).records k) node) e
    ∙ group_by (s.records h.key) ((tallied change s h).records h.key) node (field-tallied change s h h.key 1 format.kind (omega arith))
    (field-tallied change s h h.key 4 format.group_owner (omega arith)) ∙ own)))
    (λ ne. elsewhere-tallied change s h (group_key g) ne) (key_cases (group_key g) h.key))

pub beside_freed : (m t : State) (node rel : ℕ) → t ≡ links.prev_set m node rel format.nil → LeavesBeside m.records t.records node
beside_freed m t node rel freed = subst (λ (z : State). LeavesBeside m.records z.records node) (sym freed) (beside_prev m node node rel format.nil)

pub beside_moved : (m t end : State) (node rel : ℕ) (h : Head) → h.key.file ≡ format.groups_file → 20 ≤ h.field
    → is_group_of (m.records h.key) node ≡ true → t ≡ links.prev_set m node rel format.nil
    → end ≡ tallied one_more (pushed t h node rel) h → LeavesBeside m.records end.records node
beside_moved m t end node rel h group far own freed put = beside_then m.records t.records end.records node
    (beside_freed m t node rel freed)
    (subst (λ (z : State). LeavesBeside t.records z.records node) (sym put)
    (beside_then t.records (pushed t h node rel).records (tallied one_more (pushed t h node rel) h).records node (beside_pushed t node h rel group
    (omega arith) own_t) (beside_tallied one_more (pushed t h node rel) node h (own_pushed t node h rel (omega arith) own_t))))
  where
    own_t : is_group_of (t.records h.key) node ≡ true
    own_t = ap (λ r. is_group_of r node) (ap (λ (q : State). q.records h.key) freed
        ∙ elsewhere-set_prev m.records node rel format.nil h.key (λ e. omega (arith, e, group))) ∙ own

-- ---- a node that becomes dense

pub beside_cleared : (s t : State) (node : ℕ) → t ≡ cleared s node → LeavesBeside s.records t.records node
beside_cleared s t node is = subst (λ (z : State). LeavesBeside s.records z.records node) (sym is)
    (beside_node s.records node (clear_of (s.records (node_key node))) (λ n at inside one apart. clear_other (s.records (node_key node)) n at inside one apart))

-- ---- other nodes

-- they are of the kind that they were
pub beside_kinds : (s t : Records) (node : ℕ) → LeavesBeside s t node → (x : ℕ) → x ≢ node → kind_at t format.nodes_file x ≡ kind_at s format.nodes_file x
beside_kinds s t node beside x ne =
    let same = beside.others (key_in format.nodes_file x) (λ e. omega arith) (λ e. omega arith) (λ e. let f = ap (λ (k : Key). k.file) e in omega arith)
    (λ e. ne (ap (λ (k : Key). k.id) e)) in
    let meta = beside.others (meta_key_of format.nodes_file) (λ e. omega arith) (λ e. omega arith) (λ e. let f = ap (λ (k : Key). k.id) e in omega arith)
    (λ e. let f = ap (λ (k : Key). k.file) e in omega arith) in
    ap (λ m. kind_in m (rec_at t format.nodes_file x) x) (ap (λ r. (metas.meta_of r).high) meta) ∙ ap (λ r. kind_in (high s format.nodes_file) r x) same

-- ---- what holds where a call succeeds, or where it is refused

pub if_done : {T E : Type 0} (r : Result T E) (P Q : Type 0) → (P → Q) → OnOk r P → OnOk r Q
if_done (Ok x) P Q f h = f h
if_done (Err e) P Q f h = tt

-- a call that writes nothing where it is refused, after reads
pub unwritten_beside : (s l t : State) (node : ℕ) → SameButReads s l → (fault : OpenFault) → IfRefuses (SameButReads l t) fault
    → IfRefuses (LeavesBeside s.records t.records node) fault
unwritten_beside s l t node same fault told = if_refuses fault _ _ (λ k. beside_then s.records l.records t.records node (beside_read s l node same)
    (beside_read l t node k)) told

-- one that only reads where it tells a record
pub unpushed_beside : (s : Records) (t end : State) (node : ℕ) → LeavesBeside s t.records node → (fault : Fault)
    → IfSome (damage_of fault) (λ _. end ≡ after_get t) → IfRefuses (LeavesBeside s end.records node) (of_fault fault)
unpushed_beside s t end node beside fault told = if_refuses (of_fault fault) _ _ (λ is. subst (λ (z : State). LeavesBeside s z.records node) (sym is) beside)
    (refuses fault _ told)

-- one after another
pub later_beside : (s t u : Records) (node : ℕ) → LeavesBeside s t node → (fault : OpenFault) → IfRefuses (LeavesBeside t u node) fault
    → IfRefuses (LeavesBeside s u node) fault
later_beside s t u node beside fault told = if_refuses fault _ _ (λ k. beside_then s t u node beside k) told

-- ---- numbers of a group

pub counted_none : (s : Records) → LeavesCounted s s
counted_none s = record { others = λ key a. refl; groups = λ g n at one inside. refl; used = λ g. refl; live = λ g. refl }

pub counted_read : (s t : State) → SameButReads s t → LeavesCounted s.records t.records
counted_read s t same = subst (λ (z : State). LeavesCounted s.records z.records) (sym same) (counted_none s.records)

pub counted_then : (s t u : Records) → LeavesCounted s t → LeavesCounted t u → LeavesCounted s u
counted_then s t u a b = record {
  others = λ key file. b.others key file ∙ a.others key file;
  groups = λ g n at one inside. b.groups g n at one inside ∙ a.groups g n at one inside;
  used = λ g. b.used g ∙ a.used g;
  live = λ g. b.live g ∙ a.live g;
}

counted_put : (s : State) (node g : ℕ) (counts : Counts) → IsGroupOf s.records node g → LeavesCounted s.records (raised_state s g counts).records
counted_put s node g counts member =
    let was = s.records (group_key g) in
    let rec = raised was counts in
    let t : Records = put s.records (group_key g) rec in
    let marks : (f : ℕ) → high t f ≡ high s.records f = λ f. ap (λ (m : Meta). m.high)
    (meta_in-put_other s.records (group_key g) rec f (λ e. let k = ap (λ (q : Key). q.file) e in omega arith)) in
    let elsewhere : (k : ℕ) → k ≢ g → kind_at t format.groups_file k ≡ kind_at s.records format.groups_file k
    = λ k ne. ap (λ m. kind_in m (rec_at t format.groups_file k) k) (marks format.groups_file)
    ∙ ap (λ r. kind_in (high s.records format.groups_file) r k) (put_other s.records (group_key g) rec (group_key k) (λ e. ne (ap (λ (q : Key). q.id) e))) in
    record {
      others = λ key file. put_other s.records (group_key g) rec key (λ e. file (ap (λ (k : Key). k.file) e));
      groups = λ k n at one inside. ⊎_elim
          (λ (e : k ≡ g). subst (λ z. field n (rec_at t format.groups_file z) at ≡ field n (rec_at s.records format.groups_file z) at) (sym e)
          (ap (λ r. field n r at) (put_same s.records (group_key g) rec) ∙ numbered was counts n at (omega arith)
          ∙ field-with_field_other 1 was format.kind format.counted n at (omega arith) (inl (omega arith))))
          (λ (ne : k ≢ g). ap (λ r. field n r at) (put_other s.records (group_key g) rec (group_key k) (λ e. ne (ap (λ (q : Key). q.id) e)))) (nat_cases k g);
      used = λ k. ⊎_elim
          (λ (e : k ≡ g). subst (λ z. is_group_kind (kind_at t format.groups_file z) ≡ is_group_kind (kind_at s.records format.groups_file z)) (sym e)
          (here marks))
          (λ (ne : k ≢ g). ap is_group_kind (elsewhere k ne)) (nat_cases k g);
      live = λ k. ⊎_elim
          (λ (e : k ≡ g). subst (λ z. is_live t format.groups_file z ≡ is_live s.records format.groups_file z) (sym e)
          (live_true (kind_at t format.groups_file g) (group_used (kind_at t format.groups_file g) (here marks ∙ member.kind)) ∙ sym
          (live_true (kind_at s.records format.groups_file g) (group_used (kind_at s.records format.groups_file g) member.kind))))
          (λ (ne : k ≢ g). ap (λ z. not (nat_eq z 0)) (elsewhere k ne)) (nat_cases k g);
    }
  where
    here : ((f : ℕ) → high (put s.records (group_key g) (raised (s.records (group_key g)) counts)) f ≡ high s.records f)
        → is_group_kind (kind_at (raised_state s g counts).records format.groups_file g) ≡ is_group_kind (kind_at s.records format.groups_file g)
    here marks =
        let r = rec_at s.records format.groups_file g in
        let rec = raised r counts in
        let lt = kind_below (high s.records format.groups_file) r g (λ e. false≢true (ap is_group_kind (sym e) ∙ member.kind)) in
        ap is_group_kind (kind_low (high (raised_state s g counts).records format.groups_file) (rec_at (raised_state s g counts).records format.groups_file g) g
        (subst (λ m. g < m) (sym (marks format.groups_file)) lt)
        ∙ ap (λ q. field 1 q format.kind) (put_same s.records (group_key g) rec) ∙ raised_kind r counts) ∙ sym member.kind

pub counted_raised : (s z t : State) (node g : ℕ) (counts : Counts) → IsGroupOf s.records node g → SameButReads s z → t ≡ raised_state z g counts
    → LeavesCounted s.records t.records
counted_raised s z t node g counts member same is = counted_then s.records z.records t.records (counted_read s z same)
    (subst (λ (q : State). LeavesCounted z.records q.records) (sym is) (counted_put z node g counts (subst (λ (q : State). IsGroupOf q.records node g)
    (sym same) member)))
