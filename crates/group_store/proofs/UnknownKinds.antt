-- A record of the groups that is read as damaged is of no kind that the file has.
use Rattle.std.proofs.Common.{◌≡◌, ℕ, ◌<◌, Bool, true, false, ◌||◌, nat_eq, if◌then◌else◌, None, Some, Ok, Err, IfErr, refl, sym, ap, ◌∙◌}
use Rattle.std.proofs.lemmas.Bool.{true≢false}
use Rattle.rec_bytes.specs.declared.record.Rec.{Rec}
use Rattle.rec_bytes.specs.Format as format
use Rattle.rec_bytes.specs.Record.{field}
use Rattle.rec_bytes.specs.Space.{State}
use Rattle.store_rules.specs.Ranges.{Layout, layout_by}
use Rattle.store_rules.proofs.NumberLaws.{eq_false}
use Rattle.store_rules.proofs.ViewLaws.{group_used, kind_low}
use Rattle.store_rules.specs.Views.{Records, high, is_group_kind, rec_at}
use Rattle.rec_bytes.specs.declared.row_fault.RowFault.TheVariants.{Damaged}
use Rattle.group_store.specs.Loading.{HasNoKind, IsRowFault, group_mark}
use Rattle.group_store.specs.Loading.IsRowDamage.{UnknownKind}
use Rattle.group_store.specs.GroupChain.{IsGroupOf}
use Rattle.group_store.specs.GroupRecord.{range_damage, read_row, row_of}

-- the layout of a record in use, by the kind of groups
pub layout-other : (rec : Rec) (kind : ℕ) → nat_eq kind format.free_kind ≡ false → is_group_kind kind ≡ false → layout_by format.groups_file rec kind ≡ None
layout-other rec kind free none = by (nat_eq kind format.grouped) (nat_eq kind format.counted) refl refl none
  where
    by : (p q : Bool) → nat_eq kind format.grouped ≡ p → nat_eq kind format.counted ≡ q → (p || q) ≡ false → layout_by format.groups_file rec kind ≡ None
    by true q a b e = absurd (true≢false e)
    by false true a b e = absurd (true≢false e)
    by false false a b e = rw (free, a, b) refl

pub layout-known : (rec : Rec) (kind : ℕ) → is_group_kind kind ≡ true → (layout : Layout) × (layout_by format.groups_file rec kind ≡ Some layout)
layout-known rec kind known = by (nat_eq kind format.grouped) (nat_eq kind format.counted) refl refl known
  where
    used : nat_eq kind format.free_kind ≡ false
    used = eq_false kind format.free_kind (group_used kind known)

    by : (p q : Bool) → nat_eq kind format.grouped ≡ p → nat_eq kind format.counted ≡ q → (p || q) ≡ true → (layout : Layout)
        × (layout_by format.groups_file rec kind ≡ Some layout)
    by true q a b e = rw (used, a) (_, refl)
    by false true a b e = rw (used, a, b) (_, refl)
    by false false a b e = absurd (true≢false (sym e))

-- a group below the mark is of a kind
pub known_kind : (records : Records) (node g : ℕ) → g < high records format.groups_file → IsGroupOf records node g → HasNoKind records g → ⊥
known_kind records node g lt is none =
    let known = layout-known (rec_at records format.groups_file g) (field 1 (rec_at records format.groups_file g) format.kind)
    (ap is_group_kind (sym (kind_low (high records format.groups_file) (rec_at records format.groups_file g) g lt)) ∙ is.kind) in
    let both = sym none ∙ known.1 in
    cc

pub fault-read_row : (s : State) (id : ℕ) (rec : Rec) → id < group_mark s → rec ≡ rec_at s.records format.groups_file id
    → IfErr (read_row rec id) (IsRowFault s id)
fault-read_row s id rec lt is = by (nat_eq kind format.free_kind) (is_group_kind kind) refl refl
  where
    kind : ℕ
    kind = field 1 rec format.kind

    by : (free grouped : Bool) → nat_eq kind format.free_kind ≡ free → is_group_kind kind ≡ grouped
        → IfErr (if free then Ok None else (if grouped then Ok (Some (row_of rec id)) else Err (Damaged (range_damage id)))) (IsRowFault s id)
    by true grouped a b = tt
    by false true a b = tt
    by false false a b = UnknownKind lt (ap (λ r. layout_by format.groups_file r (field 1 r format.kind)) (sym is) ∙ layout-other rec kind a b)
