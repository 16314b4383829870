-- Laws of layouts.
use Rattle.std.proofs.Common.{◌≡◌, ◌≢◌, ⊎_elim, ℕ, zero, suc, ◌+◌, ◌*◌, ◌<◌, ◌≤◌, arith, Bool, true, false, ◌||◌, ◌&&◌}
use Rattle.std.proofs.Common.{map, Option, None, Some, List, [], ◌∷◌, ◌++◌, sym, ap, ◌∙◌, subst, refl}
use Rattle.std.specs.Bool.{Decides}
use Rattle.std.specs.List.{list_all, list_any}
use Rattle.std.proofs.lemmas.Bool.{cases_lt, true≢false}
use Rattle.rec_bytes.specs.declared.record.Rec.{Rec}
use Rattle.rec_bytes.specs.Format as format
use Rattle.rec_bytes.specs.Record.{field}
use Rattle.rec_bytes.specs.RecordFiles.{is_meta_file}
use Rattle.store_rules.specs.Ranges as ranges
use Rattle.store_rules.proofs.NumberLaws.{eq_false}
use Rattle.store_check.specs.declared.layout.Pointer.{Pointer}
use Rattle.store_check.specs.declared.layout.Range.{Range}
use Rattle.store_check.specs.Layouts.{HasLayoutOf, IsBlankBut, has_place, is_right_in, pointer_of, range_of}

pub all_point-list : (seen : ℕ → ℕ) (r : Rec) (ps : List Pointer) → list_all (is_right_in seen r) ps ≡ ranges.all_point seen r (map pointer_of ps)
all_point-list seen r [] = refl
all_point-list seen r (p ∷ ps) = ap (λ b. ranges.points seen r (pointer_of p) && b) (all_point-list seen r ps)

pub any-map : (i : ℕ) (rs : List Range) → list_any (has_place i) rs ≡ list_any (ranges.is_in i) (map range_of rs)
any-map i [] = refl
any-map i (r ∷ rs) = ap (λ b. ranges.is_in i (range_of r) || b) (any-map i rs)

-- a record has a layout exactly where its numbers are right and its other bytes are zero
pub laid_by : (seen : ℕ → ℕ) (r : Rec) (ps : List Pointer) (rs : List Range) (b : Bool) → list_all (is_right_in seen r) ps ≡ true
    → Decides b (IsBlankBut rs r) → Decides b (HasLayoutOf seen r (ranges.laid (map pointer_of ps) (map range_of rs)))
laid_by seen r ps rs b e d = (
  (λ t. record { point = sym (all_point-list seen r ps) ∙ e; blank = λ i lt out. d.0 t i lt (any-map i rs ∙ out) }),
  (λ h. d.1 (λ i lt out. h.blank i lt (sym (any-map i rs) ∙ out))),
)

pub not_laid : (seen : ℕ → ℕ) (r : Rec) (ps : List Pointer) (rs : List Range) (b : Bool) → b ≡ list_all (is_right_in seen r) ps → b ≡ false
    → Decides b (HasLayoutOf seen r (ranges.laid (map pointer_of ps) (map range_of rs)))
not_laid seen r ps rs b e f = ((λ t. absurd (true≢false (sym t ∙ f))), (λ h. e ∙ all_point-list seen r ps ∙ h.point))

-- ---- numbers from a place on

and_more : (a b c : Bool) → (a && (b && c)) ≡ ((a && b) && c)
and_more true b c = refl
and_more false b c = refl

and_none : (a : Bool) → (a && false) ≡ false
and_none true = refl
and_none false = refl

-- one more at their end
pub from_more : (seen : ℕ → ℕ) (r : Rec) (pointer : ℕ → ranges.Pointer) (n place : ℕ)
    → ranges.all_point seen r (ranges.pointers_from (suc n) pointer place)
    ≡ (ranges.all_point seen r (ranges.pointers_from n pointer place) && ranges.points seen r (pointer (place + 4 * n)))
from_more seen r pointer zero place = by (ranges.points seen r (pointer place)) ∙ ap (λ p. ranges.points seen r (pointer p)) (omega arith)
  where
    by : (a : Bool) → (a && true) ≡ a
    by true = refl
    by false = refl
from_more seen r pointer (suc n) place =
    let next : place + 4 + 4 * n ≡ place + 4 * suc n = omega arith in
    ap (λ b. ranges.points seen r (pointer place) && b) (from_more seen r pointer n (place + 4) ∙ ap (λ p. ranges.all_point seen r
    (ranges.pointers_from n pointer (place + 4)) && ranges.points seen r (pointer p)) next)
    ∙ and_more (ranges.points seen r (pointer place)) (ranges.all_point seen r (ranges.pointers_from n pointer (place + 4)))
    (ranges.points seen r (pointer (place + 4 * suc n)))

-- one that is not right
pub from_wrong : (seen : ℕ → ℕ) (r : Rec) (pointer : ℕ → ranges.Pointer) (n k place : ℕ) → k < n → ranges.points seen r (pointer (place + 4 * k)) ≡ false
    → ranges.all_point seen r (ranges.pointers_from n pointer place) ≡ false
from_wrong seen r pointer zero k place lt wrong = absurd (omega (arith, lt))
from_wrong seen r pointer (suc n) k place lt wrong =
    let before = ranges.all_point seen r (ranges.pointers_from n pointer place) in
    let last = ranges.points seen r (pointer (place + 4 * n)) in
    from_more seen r pointer n place ∙ ⊎_elim
    (λ (here : k < n). ap (λ b. b && last) (from_wrong seen r pointer n k place here wrong))
    (λ (there : n ≤ k). let same : k ≡ n = omega (arith, lt, there) in ap (λ b. before && b) (subst (λ m. ranges.points seen r (pointer (place + 4 * m))
    ≡ false) same wrong) ∙ and_none before)
    (cases_lt k n)

-- those of two lists
all_both : (seen : ℕ → ℕ) (r : Rec) (ps more : List ranges.Pointer) → ranges.all_point seen r
    (ps ++ more) ≡ (ranges.all_point seen r ps && ranges.all_point seen r more)
all_both seen r [] more = refl
all_both seen r (p ∷ ps) more = ap (λ b. ranges.points seen r p && b) (all_both seen r ps more)
    ∙ and_more (ranges.points seen r p) (ranges.all_point seen r ps) (ranges.all_point seen r more)

-- a layout with more numbers: the record has it where it has the one without and these are right
pub laid_and : (seen : ℕ → ℕ) (r : Rec) (ps more : List ranges.Pointer) (rs : List ranges.Range) (b : Bool) → HasLayoutOf seen r (ranges.laid ps rs)
    → b ≡ ranges.all_point seen r more → Decides b (HasLayoutOf seen r (ranges.laid (ps ++ more) rs))
laid_and seen r ps more rs b h e = (
  (λ t. record { point = both ∙ sym e ∙ t; blank = h.blank }),
  (λ all. e ∙ sym both ∙ all.point),
)
  where
    both : ranges.all_point seen r (ps ++ more) ≡ ranges.all_point seen r more
    both = all_both seen r ps more ∙ ap (λ a. a && ranges.all_point seen r more) h.point

-- a record fits exactly where it has the layout of its kind
pub fits_of : (seen : ℕ → ℕ) (file : ℕ) (r : Rec) (l : Option ranges.Layout) → ranges.layout_of file r ≡ l → HasLayoutOf seen r l → ranges.Fits seen file r
fits_of seen file r None e h = absurd h
fits_of seen file r (Some l) e h = record { layout = l; is = e; point = h.point; blank = h.blank }

pub layout_fits : (seen : ℕ → ℕ) (file : ℕ) (r : Rec) → ranges.Fits seen file r → HasLayoutOf seen r (ranges.layout_of file r)
layout_fits seen file r f = subst (HasLayoutOf seen r) (sym f.is) (record { point = f.point; blank = f.blank })

-- so a test of the layout is a test of whether the record fits
pub fits_by : (seen : ℕ → ℕ) (file : ℕ) (r : Rec) (l : Option ranges.Layout) (b : Bool) → ranges.layout_of file r ≡ l → Decides b (HasLayoutOf seen r l)
    → Decides b (ranges.Fits seen file r)
fits_by seen file r l b e d = ((λ t. fits_of seen file r l e (d.0 t)), (λ f. d.1 (subst (HasLayoutOf seen r) e (layout_fits seen file r f))))

pub free_is : (file : ℕ) (r : Rec) → is_meta_file file ≡ true → file ≢ format.names_file → field 1 r format.kind ≡ 0
    → ranges.layout_of file r ≡ ranges.free_layout file
free_is file r meta other e = rw (e, meta, eq_false file format.names_file other) refl

pub used_is : (file : ℕ) (r : Rec) → field 1 r format.kind ≢ 0 → ranges.layout_of file r ≡ ranges.used_layout file r (field 1 r format.kind)
used_is file r ne = rw (eq_false (field 1 r format.kind) 0 ne) refl
