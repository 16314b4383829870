-- Which node a group's record says to be its owner, by the record alone.
use Rattle.std.proofs.Common.{◌≡◌, ℕ, Bool, true, false, ◌&&◌, nat_eq, sym, ap, ◌∙◌, refl}
use Rattle.std.proofs.lemmas.Bool.{and_parts, eqb-true}
use Rattle.rec_bytes.specs.declared.record.Rec.{Rec}
use Rattle.rec_bytes.specs.Format as format
use Rattle.rec_bytes.specs.Record.{field}
use Rattle.store_rules.specs.Views.{Records, high, is_group_kind, rec_at}
use Rattle.store_rules.proofs.NumberLaws.{eq_true}
use Rattle.store_rules.proofs.ViewLaws.{kind_low}
use Rattle.group_store.specs.GroupChain.{IsGroupOf, is_group_of}
use Rattle.group_store.specs.GroupRecord.{group_key}
use Rattle.group_store.specs.Loading.{HasNoKind}
use Rattle.group_store.specs.Naming.{IsNoOther}
use Rattle.group_store.proofs.GroupRecords.{group_below}
use Rattle.group_store.proofs.UnknownKinds.{layout-known}

-- by its kind and its owner
pub group_by : (r q : Rec) (node : ℕ) → field 1 q format.kind ≡ field 1 r format.kind → field 4 q format.group_owner ≡ field 4 r format.group_owner
    → is_group_of q node ≡ is_group_of r node
group_by r q node kind owner = ap (λ k. is_group_kind k && nat_eq (field 4 q format.group_owner) node) kind
    ∙ ap (λ n. is_group_kind (field 1 r format.kind) && nat_eq n node) owner

pub group_true : (r : Rec) (node : ℕ) → is_group_kind (field 1 r format.kind) ≡ true → field 4 r format.group_owner ≡ node → is_group_of r node ≡ true
group_true r node kind owner = ap (λ b. b && nat_eq (field 4 r format.group_owner) node) kind ∙ eq_true (field 4 r format.group_owner) node owner

-- the record of a group of the node
pub group_says : (records : Records) (node g : ℕ) → IsGroupOf records node g → is_group_of (records (group_key g)) node ≡ true
group_says records node g is =
    let lt = group_below records node g is in
    group_true (records (group_key g)) node
    (ap is_group_kind (sym (kind_low (high records format.groups_file) (rec_at records format.groups_file g) g lt)) ∙ is.kind) is.owner

-- one of no kind is no node's
pub stray : (records : Records) (g node : ℕ) → HasNoKind records g → is_group_of (records (group_key g)) node ≡ false
stray records g node none = by (is_group_of (records (group_key g)) node) refl
  where
    by : (b : Bool) → is_group_of (records (group_key g)) node ≡ b → b ≡ false
    by false is = refl
    by true is =
        let both = and_parts (is_group_kind (field 1 (rec_at records format.groups_file g) format.kind))
        (nat_eq (field 4 (rec_at records format.groups_file g) format.group_owner) node) is in
        let known = layout-known (rec_at records format.groups_file g) (field 1 (rec_at records format.groups_file g) format.kind) both.0 in
        let clash = sym none ∙ known.1 in
        cc

-- one of the node is no other node's
pub own_no_other : (records : Records) (node g : ℕ) → is_group_of (records (group_key g)) node ≡ true → IsNoOther records node g
own_no_other records node g is n ne = by (is_group_of (records (group_key g)) n) refl
  where
    owner_of : (m : ℕ) → is_group_of (records (group_key g)) m ≡ true → field 4 (records (group_key g)) format.group_owner ≡ m
    owner_of m says = eqb-true _ m (and_parts (is_group_kind (field 1 (records (group_key g)) format.kind))
        (nat_eq (field 4 (records (group_key g)) format.group_owner) m) says).1

    by : (b : Bool) → is_group_of (records (group_key g)) n ≡ b → b ≡ false
    by false says = refl
    by true says = absurd (ne (sym (owner_of n says) ∙ owner_of node is))
