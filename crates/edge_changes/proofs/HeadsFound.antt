-- The records that heads of ends are in, which are a node's own or one of its groups.
use Rattle.std.proofs.Common.{◌≡◌, ◌≢◌, ◌⊎◌, ℕ, ◌<◌, Bool, true, false, nat_eq, sym, ap, ◌∙◌, subst, inl, inr, ⊎_elim, arith, refl}
use Rattle.std.proofs.lemmas.Bool.{and_parts, eqb-true}
use Rattle.rec_bytes.specs.declared.damage.Damage.{Damage}
use Rattle.rec_bytes.specs.declared.key.Key.{Key}
use Rattle.rec_bytes.specs.declared.record.Rec.{Rec}
use Rattle.rec_bytes.specs.Format as format
use Rattle.rec_bytes.specs.Record.{field}
use Rattle.rec_bytes.specs.Space.{State}
use Rattle.store_rules.specs.Breaking.{IsHeadOf}
use Rattle.store_rules.specs.Rules.{Head, first_of}
use Rattle.store_rules.specs.Views.{GroupRow, Records, group_in, high, is_group_kind, key_in, kind_at, rec_at}
use Rattle.store_rules.proofs.ViewLaws.{some_row}
use Rattle.node_store.specs.NodeRecord.{node_key}
use Rattle.chain_edit.specs.Heads.{head_of}
use Rattle.group_store.specs.GroupChain.{is_group_of}
use Rattle.group_store.specs.GroupRecord.{group_key}
use Rattle.group_store.specs.Leaving.{IsLowLink, KeepsOrLeads, LeavesBeside}
use Rattle.group_store.proofs.LowHeads.{low_beside}
use Rattle.edge_changes.specs.EdgeAdding.{IsOfEnds}
use Rattle.edge_changes.specs.EdgeEnds.{HasHead}
use Rattle.edge_changes.specs.EdgeJoining.{IsLostEnd}
use Rattle.edge_changes.specs.declared.edge_end.EdgeEnd.{EdgeEnd}

-- ---- which record it is

-- the record of the node, or that of a group with this owner
pub data HasKeyOf (records : Records) (n : ℕ) (key : Key) : Type 0 where
  OwnKey : key ≡ node_key n → HasKeyOf records n key
  GroupKey : (g : ℕ) → key ≡ group_key g → field 4 (rec_at records format.groups_file g) format.group_owner ≡ n → HasKeyOf records n key

pub key_of : (s : Records) (h : Head) (n : ℕ) → IsHeadOf s h n → HasKeyOf s n h.key
key_of s h n (inl o) = OwnKey (ap (λ (q : Head). q.key) o.is)
key_of s h n (inr o) =
    let r = rec_at s format.groups_file o.row.id in
    let row = some_row (kind_at s format.groups_file o.row.id) (group_in r o.row.id) o.row o.group in
    GroupKey o.row.id o.key (ap (λ (q : GroupRow). q.owner) row.1 ∙ o.owner)

pub head_is_no_rel : (s : Records) (h : Head) (n : ℕ) → IsHeadOf s h n → h.key.file ≢ format.relationships_file
head_is_no_rel s h n owns e = by (key_of s h n owns)
  where
    by : HasKeyOf s n h.key → ⊥
    by (OwnKey is) = let f = ap (λ (k : Key). k.file) is in omega arith
    by (GroupKey g is owner) = let f = ap (λ (k : Key). k.file) is in omega arith

pub head_is_no_meta : (s : Records) (h : Head) (n : ℕ) → IsHeadOf s h n → h.key.file ≢ format.meta_file
head_is_no_meta s h n owns e = by (key_of s h n owns)
  where
    by : HasKeyOf s n h.key → ⊥
    by (OwnKey is) = let f = ap (λ (k : Key). k.file) is in omega arith
    by (GroupKey g is owner) = let f = ap (λ (k : Key). k.file) is in omega arith

-- two nodes have no head in one record
pub keys_apart : (s : Records) (h k : Head) (a b : ℕ) → a ≢ b → IsHeadOf s h a → IsHeadOf s k b → (k.key ≢ h.key) × (k.key ≢ key_in format.nodes_file a)
keys_apart s h k a b ne at_a at_b = by (key_of s h a at_a) (key_of s k b at_b)
  where
    by : HasKeyOf s a h.key → HasKeyOf s b k.key → (k.key ≢ h.key) × (k.key ≢ key_in format.nodes_file a)
    by (OwnKey is) (OwnKey at) = (
      (λ e. ne (ap (λ (q : Key). q.id) (sym is ∙ sym e ∙ at))),
      (λ e. ne (ap (λ (q : Key). q.id) (sym e ∙ at))),
    )
    by (OwnKey is) (GroupKey g at owner) = (
      (λ e. let f = ap (λ (q : Key). q.file) (sym is ∙ sym e ∙ at) in omega arith),
      (λ e. let f = ap (λ (q : Key). q.file) (sym e ∙ at) in omega arith),
    )
    by (GroupKey g is owner) (OwnKey at) = (
      (λ e. let f = ap (λ (q : Key). q.file) (sym is ∙ sym e ∙ at) in omega arith),
      (λ e. ne (ap (λ (q : Key). q.id) (sym e ∙ at))),
    )
    by (GroupKey g is owner) (GroupKey l at other) = (
      (λ e. ne (sym owner ∙ ap (λ x. field 4 (rec_at s format.groups_file x) format.group_owner) (ap (λ (q : Key). q.id) (sym is ∙ sym e ∙ at)) ∙ other)),
      (λ e. let f = ap (λ (q : Key). q.file) (sym e ∙ at) in omega arith),
    )

-- ---- where the head of another node is found or made

not_owned : (r : Rec) (n b : ℕ) → field 4 r format.group_owner ≡ n → n ≢ b → is_group_of r b ≡ false
not_owned r n b owner ne = by (is_group_of r b) refl
  where
    by : (says : Bool) → is_group_of r b ≡ says → says ≡ false
    by false is = refl
    by true is = absurd (ne (sym owner ∙ eqb-true _ b (and_parts (is_group_kind (field 1 r format.kind)) (nat_eq (field 4 r format.group_owner) b) is).1))

-- the record of a head of this one is as it was
pub head_kept : (s m t : Records) (a n : ℕ) (h : Head) → n ≢ a → LeavesBeside s m a → IsHeadOf t h n → t h.key ≡ m h.key → m h.key ≡ s h.key
head_kept s m t a n h ne beside owns same = by (key_of t h n owns)
  where
    by : HasKeyOf t n h.key → m h.key ≡ s h.key
    by (OwnKey is) = ap m is ∙ beside.others (node_key n) (λ e. omega arith) (λ e. omega arith)
        (λ e. let f = ap (λ (k : Key). k.file) e in omega arith) (λ e. ne (ap (λ (k : Key). k.id) e)) ∙ ap s (sym is)
    by (GroupKey g is owner) = ap m is
        ∙ beside.groups g (not_owned (m (group_key g)) n a
        (ap (λ (r : Rec). field 4 r format.group_owner) (ap m (sym is) ∙ sym same ∙ ap t is) ∙ owner) ne)
        ∙ ap s (sym is)

-- so is what was found of it before, and after
pub kept_after : (s m t : State) (b n : ℕ) (h : Head) → n ≢ b → LeavesBeside m.records t.records b → IsHeadOf t.records h n
    → KeepsOrLeads s.records m.records h → KeepsOrLeads s.records t.records h
kept_after s m t b n h ne beside owns keeps =
    let same = head_kept m.records t.records t.records b n h ne beside owns refl in
    ⊎_elim (λ kept. inl (same ∙ kept))
    (λ low. inr (subst (IsLowLink t.records) (sym (ap (λ (r : Rec). field 4 r h.field) same)) (low_beside m.records t.records b _ beside low))) keeps

pub kept_before : (s m t : State) (a n : ℕ) (h : Head) → n ≢ a → LeavesBeside s.records m.records a → IsHeadOf t.records h n
    → KeepsOrLeads m.records t.records h → KeepsOrLeads s.records t.records h
kept_before s m t a n h ne beside owns keeps =
    ⊎_elim (λ kept. inl (kept ∙ head_kept s.records m.records t.records a n h ne beside owns kept)) (λ low. inr low) keeps

-- ---- a head that leads nowhere

-- it did before, where its record is as it was
pub lost_before : (s u : State) (damage : Damage) (end : EdgeEnd) → high u.records format.relationships_file
    ≡ high s.records format.relationships_file → u.records end.head.key ≡ s.records end.head.key → IsLostEnd u damage end → IsLostEnd s damage end
lost_before s u damage end mark same is = record {
  key = is.key;
  lost = λ low. is.lost (subst (IsLowLink u.records) (sym (ap (λ (r : Rec). field 4 r end.head.field) same))
      (⊎_elim (λ none. inl none) (λ lt. inr (subst (λ m. first_of s.records (head_of end.head) < m) (sym mark) lt)) low));
}

-- the record is the node's, or a group
pub head_of_end : (s : State) (end : EdgeEnd) (from to : ℕ) → (end.node ≡ from) ⊎ (end.node ≡ to) → HasHead s.records end → (damage : Damage)
    → IsLostEnd s damage end → IsOfEnds from to damage
head_of_end s end from to at owns damage is = by (key_of s.records (head_of end.head) end.node owns)
  where
    by : HasKeyOf s.records end.node end.head.key → IsOfEnds from to damage
    by (OwnKey own) =
        let id : damage.id ≡ end.node = ap (λ (k : Key). k.id) (is.key ∙ own) in
        inr (ap (λ (k : Key). k.file) (is.key ∙ own), ⊎_elim (λ e. inl (id ∙ e)) (λ e. inr (id ∙ e)) at)
    by (GroupKey g group owner) = inl (ap (λ (k : Key). k.file) (is.key ∙ group))
