-- Laws of what is read of the records of a store.
use Rattle.std.proofs.Common.{◌≡◌, ◌≢◌, ◌⊎◌, ℕ, inl, inr, ◌<◌, ◌≤◌, nat_lt, nat_eq, Bool, true, false, not, cond, ◌&&◌}
use Rattle.std.proofs.Common.{◌||◌, None, Some, List, [], ◌∷◌, sym, ap, ◌∙◌, ⊎_elim, arith, refl}
use Rattle.std.proofs.lemmas.Bool.{cases_lt, eqb-true, true≢false, or_cases}
use Rattle.std.proofs.lemmas.Bool.Decides.{nat_tests}
use Rattle.rec_bytes.specs.declared.record.Rec.{Rec}
use Rattle.rec_bytes.specs.Format as format
use Rattle.rec_bytes.specs.Record.{field}
use Rattle.store_rules.specs.Views.{is_group_kind, kind_in, row_if}
use Rattle.store_rules.specs.Ranges.{Pointer, points, all_point, Fits}
use Rattle.store_rules.proofs.NumberLaws.{nat_cases, lt_true, lt_false, eq_true, eq_false, and_parts}

pub kind_low : (mark : ℕ) (r : Rec) (x : ℕ) → x < mark → kind_in mark r x ≡ field 1 r format.kind
unfolding kind_in
kind_low mark r x lt = rw (lt_true x mark lt) refl

pub kind_high : (mark : ℕ) (r : Rec) (x : ℕ) → mark ≤ x → kind_in mark r x ≡ 0
unfolding kind_in
kind_high mark r x le = rw (lt_false x mark le) refl

-- what has a kind is below the mark
pub kind_below : (mark : ℕ) (r : Rec) (x : ℕ) → kind_in mark r x ≢ 0 → x < mark
kind_below mark r x some = ⊎_elim (λ (lt : x < mark). lt) (λ (le : mark ≤ x). absurd (some (kind_high mark r x le))) (cases_lt x mark)

pub kind_by : (mark : ℕ) (r q : Rec) (x : ℕ) → field 1 r format.kind ≡ field 1 q format.kind → kind_in mark r x ≡ kind_in mark q x
unfolding kind_in
kind_by mark r q x e = ap (λ k. cond (nat_lt x mark) k 0) e

-- a kind of groups
pub group_kinds : (kind : ℕ) → is_group_kind kind ≡ true → (kind ≡ format.grouped) ⊎ (kind ≡ format.counted)
group_kinds kind is = ⊎_elim (λ k. inl (eqb-true kind format.grouped k)) (λ k. inr (eqb-true kind format.counted k))
    (or_cases (nat_eq kind format.grouped) (nat_eq kind format.counted) is)

-- and of what is none's
pub group_used : (kind : ℕ) → is_group_kind kind ≡ true → kind ≢ 0
group_used kind is e = true≢false (sym is ∙ ap is_group_kind e)

-- the test of what is in use
pub live_true : (kind : ℕ) → kind ≢ 0 → not (nat_eq kind 0) ≡ true
live_true kind some = ap not (eq_false kind 0 some)

pub live_false : (kind : ℕ) → kind ≡ 0 → not (nat_eq kind 0) ≡ false
live_false kind none = ap not (eq_true kind 0 none)

pub not_live : (kind : ℕ) → not (nat_eq kind 0) ≡ false → kind ≡ 0
not_live kind h = ⊎_elim (λ (e : kind ≡ 0). e) (λ (ne : kind ≢ 0). absurd (true≢false (sym (live_true kind ne) ∙ h))) (nat_cases kind 0)

pub row_none : {E : Type 0} (kind : ℕ) (row : E) → kind ≡ 0 → row_if kind row ≡ None
row_none kind row e = rw (eq_true kind 0 e) refl

pub row_some : {E : Type 0} (kind : ℕ) (row : E) → kind ≢ 0 → row_if kind row ≡ Some row
row_some kind row ne = rw (eq_false kind 0 ne) refl

pub some_row : {E : Type 0} (kind : ℕ) (row other : E) → row_if kind row ≡ Some other → (kind ≢ 0) × (row ≡ other)
some_row kind row other h = on (nat_eq kind 0) (λ k. eq_true kind 0 k) h
  where
    on : (t : Bool) → (kind ≡ 0 → t ≡ true) → cond t None (Some row) ≡ Some other → (kind ≢ 0) × (row ≡ other)
    on true f h = absurd cc
    on false f h = ((λ e. true≢false (sym (f e))), cc)

-- ---- pointers into files that have grown
points_more : (marks now : ℕ → ℕ) (r : Rec) (p : Pointer) → ((f : ℕ) → marks f ≤ now f) → points marks r p ≡ true → points now r p ≡ true
points_more marks now r p le h = ⊎_elim
    (λ (lt : nat_lt (field 4 r p.place) (marks p.into) ≡ true). let more = le p.into in rw (grown (field 4 r p.place) (marks p.into) (now p.into) more lt) refl)
    (λ (none : (p.optional && nat_eq (field 4 r p.place) format.nil) ≡ true). rw none (right (nat_lt (field 4 r p.place) (now p.into))))
    (or_cases (nat_lt (field 4 r p.place) (marks p.into)) (p.optional && nat_eq (field 4 r p.place) format.nil) h)
  where
    grown : (a b c : ℕ) → b ≤ c → nat_lt a b ≡ true → nat_lt a c ≡ true
    grown a b c le h = grind (arith, nat_tests)

    right : (a : Bool) → (a || true) ≡ true
    right true = refl
    right false = refl

pub all_point_more : (marks now : ℕ → ℕ) (r : Rec) (ps : List Pointer) → ((f : ℕ) → marks f ≤ now f) → all_point marks r ps ≡ true → all_point now r ps ≡ true
all_point_more marks now r [] le h = refl
all_point_more marks now r (p ∷ ps) le h = let t = and_parts (points marks r p) (all_point marks r ps) h in
    rw (points_more marks now r p le t.0, all_point_more marks now r ps le t.1) refl

pub fits_more : (marks now : ℕ → ℕ) (file : ℕ) (r : Rec) → ((f : ℕ) → marks f ≤ now f) → Fits marks file r → Fits now file r
fits_more marks now file r le h = record { layout = h.layout; is = h.is; point = all_point_more marks now r h.layout.pointers le h.point; blank = h.blank }
