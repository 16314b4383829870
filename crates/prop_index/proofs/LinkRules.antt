-- A link of an entry or a head that is set keeps the rules but the eighth.
use Rattle.std.proofs.Common.{◌≡◌, ◌≢◌, ⊎_elim, ℕ, ◌+◌, ◌*◌, ◌<◌, ◌≤◌, ◌^◌, List, refl, ap, sym, ◌∙◌, subst, arith}
use Rattle.rec_bytes.specs.declared.shape.Shape.{Shape}
use Rattle.rec_bytes.specs.Format as format
use Rattle.rec_bytes.specs.Record.{field, with_field}
use Rattle.rec_bytes.specs.RecordFiles.{room_of}
use Rattle.rec_bytes.specs.Space.{State, put}
use Rattle.store_rules.specs.Ranges.{AreInRange}
use Rattle.store_rules.specs.Rules.{IsSplit, IsWellFormed, IsWhole}
use Rattle.store_rules.specs.Views.{high, is_live, key_in, kind_at, rec_at}
use Rattle.store_rules.proofs.IndexRules.{set_kept, set_kind, set_mark}
use Rattle.store_rules.proofs.LinkFits.{IsLow, fits_entry_previous, fits_head}
use Rattle.store_rules.proofs.NumberLaws.{nat_cases}
use Rattle.store_rules.proofs.ViewLaws.{kind_below, kind_low}
use Rattle.id_freelist.specs.Taking.{CanTake}
use Rattle.id_freelist.proofs.Splits.{can_take}
use Rattle.prop_index.specs.Heads.{IsHeadPlace}
use Rattle.prop_index.specs.Linking.{backed_entry}
use Rattle.prop_index.specs.declared.heads.Slot.{Slot}
use Rattle.prop_index.proofs.Steps.{backed-none, backed-some}

-- the free identifiers of the index
pub free_list : (s : State) → IsWhole s → (free : List ℕ) × IsSplit s.records format.index_file (is_live s.records format.index_file) free
free_list s rules = rules.split format.index_file refl

pub store_room : (s : State) → IsWhole s → high s.records format.index_file ≤ room_of s.shape format.index_file
store_room s rules = let ranges : AreInRange s.records s.shape = rules.ranges in (ranges.metas format.index_file refl).high

pub store_takes : (s : State) (rules : IsWhole s) → CanTake s format.index_file (free_list s rules).0
store_takes s rules = can_take s format.index_file (free_list s rules).0 (store_room s rules) (free_list s rules).1

-- ---- a number of a record

-- a record that fits with another link to the one before it
pub back_kept : (shape : Shape) (s : State) (id to : ℕ) → (id ≢ format.nil → kind_at s.records format.index_file id ≡ format.indexed) → to < 2 ^ 32
    → IsLow (high s.records format.index_file) to
    → IsWellFormed s.records shape → IsWellFormed (backed_entry s id to).records shape
back_kept shape s id to entry small low rules = ⊎_elim
    (λ (e : id ≡ format.nil). subst (λ (z : State). IsWellFormed z.records shape) (sym (backed-none s id to e)) rules)
    (λ (some : id ≢ format.nil).
    let k = entry some in
    let used : kind_at s.records format.index_file id ≢ format.free_kind = λ q. omega (arith, k, q) in
    let under = kind_below (high s.records format.index_file) (rec_at s.records format.index_file id) id used in
    let byte : field 1 (rec_at s.records format.index_file id) format.kind ≡ format.indexed =
    sym (kind_low (high s.records format.index_file) (rec_at s.records format.index_file id) id under) ∙ k in
    subst (λ (z : State). IsWellFormed z.records shape) (sym (backed-some s id to some))
    (set_kept s.records id format.indexed_previous to used (omega arith) shape (λ q. omega (arith, k, q)) (fits_entry_previous (high s.records)
    (rec_at s.records format.index_file id) to small low byte) rules))
    (nat_cases id format.nil)

pub back_kind : (s : State) (id to : ℕ) → (id ≢ format.nil → kind_at s.records format.index_file id ≡ format.indexed) → (y : ℕ)
    → kind_at (backed_entry s id to).records format.index_file y ≡ kind_at s.records format.index_file y
back_kind s id to entry y = ⊎_elim
    (λ (e : id ≡ format.nil). ap (λ (z : State). kind_at z.records format.index_file y) (backed-none s id to e))
    (λ (some : id ≢ format.nil). let k = entry some in
    ap (λ (z : State). kind_at z.records format.index_file y) (backed-some s id to some)
    ∙ set_kind s.records id format.indexed_previous to (λ q. omega (arith, k, q)) (omega arith) y)
    (nat_cases id format.nil)

pub back_mark : (s : State) (id to : ℕ) → (id ≢ format.nil → kind_at s.records format.index_file id ≡ format.indexed)
    → high (backed_entry s id to).records format.index_file ≡ high s.records format.index_file
back_mark s id to entry = ⊎_elim
    (λ (e : id ≡ format.nil). ap (λ (z : State). high z.records format.index_file) (backed-none s id to e))
    (λ (some : id ≢ format.nil). let k = entry some in
    ap (λ (z : State). high z.records format.index_file) (backed-some s id to some)
    ∙ set_mark s.records id format.indexed_previous to (λ q. omega (arith, k, q)) (omega arith) format.index_file)
    (nat_cases id format.nil)

-- a record of heads with another first entry
pub head_kept : (shape : Shape) (s : State) (slot : Slot) (to : ℕ) → kind_at s.records format.index_file slot.id ≡ format.heads → IsHeadPlace slot.place
    → to < 2 ^ 32 → IsLow (high s.records format.index_file) to
    → IsWellFormed s.records shape → IsWellFormed (put s.records (key_in format.index_file slot.id) (with_field 4 (rec_at s.records format.index_file slot.id)
    slot.place to)) shape
head_kept shape s slot to k place small low rules =
    let used : kind_at s.records format.index_file slot.id ≢ format.free_kind = λ q. omega (arith, k, q) in
    let under = kind_below (high s.records format.index_file) (rec_at s.records format.index_file slot.id) slot.id used in
    let byte : field 1 (rec_at s.records format.index_file slot.id) format.kind ≡ format.heads =
    sym (kind_low (high s.records format.index_file) (rec_at s.records format.index_file slot.id) slot.id under) ∙ k in
    subst (λ at. IsWellFormed (put s.records (key_in format.index_file slot.id) (with_field 4 (rec_at s.records format.index_file slot.id) at to)) shape)
    (sym place.is)
    (set_kept s.records slot.id (format.heads_first + 4 * place.number) to used (omega arith) shape (λ q. omega (arith, k, q)) (fits_head (high s.records)
    (rec_at s.records format.index_file slot.id) place.number to place.low small low byte) rules)
