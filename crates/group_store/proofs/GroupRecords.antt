-- What a record says of a group and its owner.
use Rattle.std.proofs.Common.{◌≡◌, ℕ, ◌<◌, ◌≤◌, Bool, true, false, ◌&&◌, ◌||◌, nat_eq, if◌then◌else◌, sym, ap, ◌∙◌, refl, arith}
use Rattle.std.proofs.lemmas.Bool.{and_parts, eqb-true, true≢false}
use Rattle.rec_bytes.specs.declared.record.Rec.{Rec}
use Rattle.rec_bytes.specs.Format as format
use Rattle.rec_bytes.specs.Record.{field}
use Rattle.store_rules.specs.Breaking.{IsOwnedBy}
use Rattle.store_rules.specs.Views.{Records, high, is_group_kind, kind_at, rec_at}
use Rattle.store_rules.proofs.NumberLaws.{eq_true}
use Rattle.store_rules.proofs.ViewLaws.{group_used, kind_below, kind_low}
use Rattle.rec_bytes.specs.Space.{State}
use Rattle.store_rules.specs.Ranges.{layout_by}
use Rattle.group_store.specs.GroupChain.{IsGroupOf, is_group_of}
use Rattle.group_store.specs.GroupRecord.{range_damage}
use Rattle.group_store.specs.Loading.{group_mark}
use Rattle.group_store.specs.Walking.{IsMemberDamage, chain_damage, member_damage}
use Rattle.group_store.specs.Walking.IsMemberDamage.{NoMember, UnknownMember}
use Rattle.group_store.proofs.UnknownKinds.{layout-other}

-- a group is below the mark
pub group_below : (records : Records) (node g : ℕ) → IsGroupOf records node g → g < high records format.groups_file
group_below records node g is = kind_below (high records format.groups_file) (rec_at records format.groups_file g) g
    (group_used (kind_at records format.groups_file g) is.kind)

-- and so is what the node owns, as its groups are
pub owned_below : (records : Records) (node g : ℕ) → IsOwnedBy records node g → g < high records format.groups_file
owned_below records node g is = kind_below (high records format.groups_file) (rec_at records format.groups_file g) g is.used

pub owned : (records : Records) (node g : ℕ) → IsGroupOf records node g → IsOwnedBy records node g
owned records node g is = record { used = group_used (kind_at records format.groups_file g) is.kind; owner = is.owner }

-- so what is not below it is none
pub above_none : (records : Records) (node g : ℕ) → high records format.groups_file ≤ g → IsOwnedBy records node g → ⊥
above_none records node g le is = let lt = owned_below records node g is in omega arith

both_true : (kind owner node : ℕ) → (is_group_kind kind && nat_eq owner node) ≡ true → (is_group_kind kind ≡ true) × (owner ≡ node)
both_true kind owner node h = let k = and_parts (is_group_kind kind) (nat_eq owner node) h in (k.0, eqb-true owner node k.1)

not_both : (kind owner node : ℕ) → (is_group_kind kind && nat_eq owner node) ≡ false → is_group_kind kind ≡ true → owner ≡ node → ⊥
not_both kind owner node h k o = true≢false (sym (rw (k, eq_true owner node o) refl) ∙ h)

-- the record of a group below the mark
pub group_is : (records : Records) (node g : ℕ) (rec : Rec) → g < high records format.groups_file → rec ≡ rec_at records format.groups_file g
    → is_group_of rec node ≡ true → IsGroupOf records node g
group_is records node g rec lt got test =
    let both = both_true (field 1 rec format.kind) (field 4 rec format.group_owner) node test in
    record {
      kind = ap is_group_kind (kind_low (high records format.groups_file) (rec_at records format.groups_file g) g lt ∙ ap (λ r. field 1 r format.kind)
          (sym got)) ∙ both.0;
      owner = ap (λ r. field 4 r format.group_owner) (sym got) ∙ both.1;
    }

pub group_is_not : (records : Records) (node g : ℕ) (rec : Rec) → rec ≡ rec_at records format.groups_file g → is_group_of rec node ≡ false
    → IsGroupOf records node g → ⊥
group_is_not records node g rec got test is =
    let lt = group_below records node g is in
    not_both (field 1 rec format.kind) (field 4 rec format.group_owner) node test
    (ap is_group_kind (ap (λ r. field 1 r format.kind) got ∙ sym (kind_low (high records format.groups_file) (rec_at records format.groups_file g) g lt))
    ∙ is.kind)
    (ap (λ r. field 4 r format.group_owner) got ∙ is.owner)

-- what is below the mark and no group of the node is none of its records, or of no kind
pub not_member : (s : State) (node g : ℕ) (rec : Rec) → g < group_mark s → rec ≡ rec_at s.records format.groups_file g → is_group_of rec node ≡ false
    → IsMemberDamage s node g (member_damage rec node g)
not_member s node g rec lt got test = by (nat_eq kind format.free_kind) (nat_eq kind format.grouped) (nat_eq kind format.counted) refl refl refl
  where
    kind : ℕ
    kind = field 1 rec format.kind

    same : kind_at s.records format.groups_file g ≡ kind
    same = kind_low (high s.records format.groups_file) (rec_at s.records format.groups_file g) g lt ∙ ap (λ r. field 1 r format.kind) (sym got)

    no_group : is_group_kind kind ≡ true → IsOwnedBy s.records node g → ⊥
    no_group known is = group_is_not s.records node g rec got test (record { kind = ap is_group_kind same ∙ known; owner = is.owner })

    by : (free grouped counted : Bool) → nat_eq kind format.free_kind ≡ free → nat_eq kind format.grouped ≡ grouped → nat_eq kind format.counted ≡ counted
        → IsMemberDamage s node g (if (free || grouped) || counted then chain_damage node else range_damage g)
    by true grouped counted a b c = NoMember (λ is. is.used (same ∙ eqb-true kind format.free_kind a))
    by false true counted a b c = NoMember (no_group (rw b refl))
    by false false true a b c = NoMember (no_group (rw (b, c) refl))
    by false false false a b c = UnknownMember lt (ap (λ r. layout_by format.groups_file r (field 1 r format.kind)) (sym got) ∙ layout-other rec kind a
        (rw (b, c) refl))
