-- What stands in a record after several numbers were written.
use Rattle.std.proofs.Common.{◌≡◌, ◌⊎◌, ⊎_elim, inl, inr, ℕ, ◌+◌, ◌≤◌, Bool, true, false, ◌&&◌, ◌||◌, cond, nat_eq, []}
use Rattle.std.proofs.Common.{◌∷◌, Some, sym, ap, ◌∙◌, subst, arith, refl}
use Rattle.std.specs.Prelude.{nat_le}
use Rattle.std.proofs.lemmas.Bool.Decides.{nat_tests}
use Rattle.rec_bytes.specs.declared.record.Rec.{Rec}
use Rattle.rec_bytes.specs.Record.{field, with_field}
use Rattle.rec_bytes.specs.Tables.{AllFit, Fields, are_apart, field_at, is_clear, is_table, with_fields}
use Rattle.rec_bytes.proofs.Numbers.{Apart, field-with_field_same, field-with_field_other}

both : (a b : Bool) → (a && b) ≡ true → (a ≡ true) × (b ≡ true)
both true b h = (refl, h)
both false b h = absurd cc

either : (a b : Bool) → (a || b) ≡ true → (a ≡ true) ⊎ (b ≡ true)
either true b h = inl refl
either false b h = inr h

same : (a b : ℕ) → nat_eq a b ≡ true → a ≡ b
same a b h = grind (arith, nat_tests)

within : (a b : ℕ) → nat_le a b ≡ true → a ≤ b
within a b h = grind (arith, nat_tests)

apart : (at n other m : ℕ) → are_apart at n other m ≡ true → Apart m other n at
apart at n other m h = ⊎_elim (λ (k : nat_le (at + n) other ≡ true). inr (within (at + n) other k))
    (λ (k : nat_le (other + m) at ≡ true). inl (within (other + m) at k))
    (either (nat_le (at + n) other) (nat_le (other + m) at) h)

-- the number at any place that stands apart stays
pub field-with_fields_other : (n : ℕ) (r : Rec) (fs : Fields) (at : ℕ) → at + n ≤ 64 → is_clear at n fs ≡ true → field n (with_fields r fs) at ≡ field n r at
unfolding with_fields
field-with_fields_other n r [] at fits clear = refl
field-with_fields_other n r (f ∷ fs) at fits clear =
    let t = both (are_apart at n f.0 f.1) (is_clear at n fs) clear in
    field-with_fields_other n (with_field f.1 r f.0 f.2) fs at fits t.1 ∙ field-with_field_other f.1 r f.0 f.2 n at fits (apart at n f.0 f.1 t.0)

-- the number at each place of the table is the table's
pub field-with_fields : (n : ℕ) (r : Rec) (fs : Fields) (at value : ℕ) → is_table fs ≡ true → AllFit fs → field_at fs n at ≡ Some value
    → field n (with_fields r fs) at ≡ value
unfolding with_fields
field-with_fields n r [] at value ok fit is = absurd cc
field-with_fields n r (f ∷ fs) at value ok fit is =
    let t = both (nat_le (f.0 + f.1) 64 && is_clear f.0 f.1 fs) (is_table fs) ok in
    let u = both (nat_le (f.0 + f.1) 64) (is_clear f.0 f.1 fs) t.0 in
    let fits : f.0 + f.1 ≤ 64 = within (f.0 + f.1) 64 u.0 in
    pick (nat_eq at f.0 && nat_eq n f.1)
    (λ h. let e = both (nat_eq at f.0) (nat_eq n f.1) h in
    subst (λ m. field m (with_fields (with_field f.1 r f.0 f.2) fs) at ≡ f.2) (sym (same n f.1 e.1))
    (ap (field f.1 (with_fields (with_field f.1 r f.0 f.2) fs)) (same at f.0 e.0)
    ∙ field-with_fields_other f.1 (with_field f.1 r f.0 f.2) fs f.0 fits u.1 ∙ field-with_field_same f.1 r f.0 f.2 fits fit.0))
    (λ later. field-with_fields n (with_field f.1 r f.0 f.2) fs at value t.1 fit.1 later) is
  where
    given : (a b : ℕ) → Some a ≡ Some b → a ≡ b
    given a b e = cc

    pick : (here : Bool) → (here ≡ true → field n (with_fields (with_field f.1 r f.0 f.2) fs) at ≡ f.2)
        → (field_at fs n at ≡ Some value → field n (with_fields (with_field f.1 r f.0 f.2) fs) at ≡ value)
        → cond here (Some f.2) (field_at fs n at) ≡ Some value → field n (with_fields (with_field f.1 r f.0 f.2) fs) at ≡ value
    pick true h later is = h refl ∙ given f.2 value is
    pick false h later is = later is
