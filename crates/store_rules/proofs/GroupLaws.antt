-- What is read of a group: which of its chains have a member, and that what stands in one is at its owner.
use Rattle.std.proofs.Common.{◌≡◌, ◌≢◌, ◌⊎◌, ℕ, nat_eq, Bool, true, false, ◌&&◌, not, Some, sym, ap, ◌∙◌, inl, inr, ⊎_elim, arith, refl}
use Rattle.std.proofs.lemmas.Bool.{true≢false}
use Rattle.rec_bytes.specs.declared.record.Rec.{Rec}
use Rattle.rec_bytes.specs.declared.key.Key.{Key}
use Rattle.rec_bytes.specs.Format as format
use Rattle.rec_bytes.specs.Record.{field}
use Rattle.store_rules.specs.Rules.{GroupHead, Head, IsEnd, IsInGroup, StandsAt, is_filled}
use Rattle.store_rules.specs.Views.{GroupRow, Records, group_at, group_in, kind_at, rec_at, rel_at}
use Rattle.store_rules.proofs.NumberLaws.{eq_false, eq_true, nat_cases}
use Rattle.store_rules.proofs.ViewLaws.{some_row}

-- the place of the first link of a group's chain
abbrev pub IsFirstPlace : ℕ → Type 0
IsFirstPlace at = (at ≡ format.group_first_out) ⊎ ((at ≡ format.group_first_in) ⊎ (at ≡ format.group_first_loop))

-- a group that isn't empty has a chain with a member
pub filled_chain : (r : Rec) → is_filled r ≡ true → (at : ℕ) × IsFirstPlace at × (field 4 r at ≢ format.nil)
filled_chain r filled = ⊎_elim
    (λ (a : field 4 r format.group_first_out ≡ format.nil). ⊎_elim
    (λ (b : field 4 r format.group_first_in ≡ format.nil). ⊎_elim
    (λ (c : field 4 r format.group_first_loop ≡ format.nil). absurd (true≢false (sym filled ∙ all_none (eq_true (field 4 r format.group_first_out) format.nil a)
    (eq_true (field 4 r format.group_first_in) format.nil b) (eq_true (field 4 r format.group_first_loop) format.nil c))))
    (λ (c : field 4 r format.group_first_loop ≢ format.nil). (format.group_first_loop, inr (inr refl), c))
    (nat_cases (field 4 r format.group_first_loop) format.nil))
    (λ (b : field 4 r format.group_first_in ≢ format.nil). (format.group_first_in, inr (inl refl), b)) (nat_cases (field 4 r format.group_first_in) format.nil))
    (λ (a : field 4 r format.group_first_out ≢ format.nil). (format.group_first_out, inl refl, a)) (nat_cases (field 4 r format.group_first_out) format.nil)
  where
    all_none : nat_eq (field 4 r format.group_first_out) format.nil ≡ true → nat_eq (field 4 r format.group_first_in) format.nil ≡ true
        → nat_eq (field 4 r format.group_first_loop) format.nil ≡ true → is_filled r ≡ false
    all_none a b c = rw (a, b, c) refl

-- a group that has one isn't empty
pub chain_filled : (r : Rec) (at : ℕ) → IsFirstPlace at → field 4 r at ≢ format.nil → is_filled r ≡ true
chain_filled r at place some = ⊎_elim
    (λ (e : at ≡ format.group_first_out). rw (eq_false (field 4 r format.group_first_out) format.nil (there format.group_first_out e)) refl)
    (λ k. ⊎_elim
    (λ (e : at ≡ format.group_first_in). rw (eq_false (field 4 r format.group_first_in) format.nil (there format.group_first_in e))
    (right_of (nat_eq (field 4 r format.group_first_out) format.nil)))
    (λ (e : at ≡ format.group_first_loop). rw (eq_false (field 4 r format.group_first_loop) format.nil (there format.group_first_loop e))
    (last_of (nat_eq (field 4 r format.group_first_out) format.nil) (nat_eq (field 4 r format.group_first_in) format.nil))) k) place
  where
    there : (place : ℕ) → at ≡ place → field 4 r place ≢ format.nil
    there place e none = some (ap (field 4 r) e ∙ none)

    right_of : (a : Bool) → not (a && (false && nat_eq (field 4 r format.group_first_loop) format.nil)) ≡ true
    right_of true = refl
    right_of false = refl

    last_of : (a b : Bool) → not (a && (b && false)) ≡ true
    last_of true true = refl
    last_of true false = refl
    last_of false b = refl

-- the row of a group has its identifier
pub group_id : (s : Records) (g : ℕ) (row : GroupRow) → group_at s g ≡ Some row → row.id ≡ g
group_id s g row is = ap (λ (r : GroupRow). r.id) (sym (some_row (kind_at s format.groups_file g) (group_in (rec_at s format.groups_file g) g) row is).1)

pub same_group : (a b : GroupRow) → Some a ≡ Some b → a ≡ b
same_group a b e = cc

-- what stands at a head of a group is at the owner
pub stands_end : (s : Records) (h : Head) (n x : ℕ) → GroupHead (kind_at s format.nodes_file) (group_at s) h n → (a : StandsAt (rel_at s) (group_at s) h x)
    → IsEnd n a.row
stands_end s h n x o a = ⊎_elim
    (λ (b : (h.key.file ≡ format.nodes_file) × IsEnd h.key.id a.row). absurd (let f = b.0 in let k = ap (λ (z : Key). z.file) o.key in omega arith))
    (λ (b : (h.key.file ≡ format.groups_file) × IsInGroup (group_at s) h a.row).
    let same : b.1.row ≡ o.row = same_group b.1.row o.row (sym b.1.group ∙ ap (λ (z : Key). group_at s z.id) o.key ∙ o.group) in
    let owner : b.1.row.owner ≡ n = ap (λ (r : GroupRow). r.owner) same ∙ o.owner in
    ⊎_elim (λ k. inl (k.1 ∙ owner)) (λ k. ⊎_elim (λ j. inr (j.2 ∙ owner)) (λ j. inl (j.1 ∙ owner)) k) b.1.side) a.on
