-- Where no record is damaged, none is said to be.
use Rattle.std.specs.Prelude.{nat_le, Result, Ok, Err, IfErr}
use Rattle.std.proofs.Common.{◌≡◌, ◌≢◌, ◌⊎◌, ℕ, ◌<◌, ◌≤◌, nat_lt, nat_eq, Bool, true, false, cond, ◌&&◌, ◌||◌, List, []}
use Rattle.std.proofs.Common.{◌∷◌, sym, ap, ◌∙◌, subst, inl, inr, ⊎_elim, arith, refl}
use Rattle.std.proofs.lemmas.Bool.{true≢false}
use Rattle.std.proofs.lemmas.Bool.Decides.{nat_tests}
use Rattle.rec_bytes.specs.declared.damage.Damage.{Damage}
use Rattle.rec_bytes.specs.declared.meta.Meta.{Meta}
use Rattle.rec_bytes.specs.declared.record.Rec.{Rec}
use Rattle.rec_bytes.specs.Format as format
use Rattle.rec_bytes.specs.Record.{field}
use Rattle.rec_bytes.specs.Space.{State, meta_of}
use Rattle.store_rules.specs.Rules.{next_free}
use Rattle.store_rules.specs.Views.{high, kind_at, rec_at}
use Rattle.store_rules.proofs.NumberLaws.{and_parts, nat_cases}
use Rattle.store_rules.proofs.ViewLaws.{kind_high, kind_low}
use Rattle.id_freelist.specs.declared.take_fault.TakeFault.{TakeFault}
use Rattle.id_freelist.specs.declared.take_fault.TakeFault.TheVariants.{Full, Memory, Disk, Damaged}
use Rattle.id_freelist.specs.TakeFault.{NotDamaged}
use Rattle.id_freelist.specs.Taking.{AreAllUsed, BadNext, CanTake, InUse, IsNextLow, IsRanged, IsTakeDamage}
use Rattle.id_freelist.specs.Taking.{IsTakeFault, IsUndamaged, IsUnused, Overcounted, Undercounted, Unlisted, Unranged}
use Rattle.id_freelist.specs.Taking.{is_counted, is_ranged, is_undercounted, meta_damage, record_damage, room}

module _ (s : State) (file : ℕ) where
  ranged : (free : List ℕ) → CanTake s file free → IsRanged (meta_of s file) (room s file)
  ranged [] can = record { mark = can.mark; first = inl can.list }
  ranged (x ∷ later) can = record { mark = can.mark; first = inr (subst (λ z. z < high s.records file) (sym can.list.0) (can.low x (inl refl))) }

  none_counted : (free : List ℕ) → CanTake s file free → (meta_of s file).free ≡ format.nil → (meta_of s file).live ≡ (meta_of s file).high
  none_counted [] can e = can.count
  none_counted (x ∷ later) can e = absurd (can.list.1 (sym can.list.0 ∙ e))

  some_counted : (free : List ℕ) → CanTake s file free → (meta_of s file).free ≢ format.nil → (meta_of s file).live < (meta_of s file).high
  some_counted [] can ne = absurd (ne can.list)
  some_counted (x ∷ later) can ne = can.count

  first_unused : (free : List ℕ) → CanTake s file free → (meta_of s file).free ≢ format.nil → kind_at s.records file (meta_of s file).free ≡ format.free_kind
  first_unused [] can ne = absurd (ne can.list)
  first_unused (x ∷ later) can ne = subst (λ z. kind_at s.records file z ≡ format.free_kind) (sym can.list.0) (can.unused x (inl refl))

  next_low : (free : List ℕ) → CanTake s file free → (meta_of s file).free ≢ format.nil → (next_free s.records file (meta_of s file).free ≡ format.nil)
      ⊎ (next_free s.records file (meta_of s file).free < high s.records file)
  next_low [] can ne = absurd (ne can.list)
  next_low (x ∷ []) can ne = inl (ap (next_free s.records file) can.list.0 ∙ can.list.2)
  next_low (x ∷ y ∷ later) can ne = inr (subst (λ z. z < high s.records file) (sym (ap (next_free s.records file) can.list.0 ∙ can.list.2.0))
      (can.low y (inr (inl refl))))

  no_damage : (free : List ℕ) → CanTake s file free → (d : Damage) → IsTakeDamage s file d → ⊥
  no_damage free can d (Unranged f) = f (ranged free can)
  no_damage free can d (Unlisted x e lt unused) = let q = none_counted free can e in omega arith
  no_damage free can d (Undercounted e lt used) = let q = none_counted free can e in omega arith
  no_damage free can d (Overcounted le more) = ⊎_elim
      (λ (e : (meta_of s file).free ≡ format.nil). let q = none_counted free can e in let lt = more e in omega arith)
      (λ (ne : (meta_of s file).free ≢ format.nil). let lt = some_counted free can ne in omega arith) (nat_cases (meta_of s file).free format.nil)
  no_damage free can d (InUse ne used) = used (first_unused free can ne)
  no_damage free can d (BadNext ne unused some le) = ⊎_elim some (λ (lt : next_free s.records file (meta_of s file).free < high s.records file). omega arith)
      (next_low free can ne)

  -- a refusal for a reason is none for damage
  pub sound_of : (r : Result ℕ TakeFault) → IfErr r (IsTakeFault s file) → (free : List ℕ) → CanTake s file free → NotDamaged r
  sound_of (Ok id) why free can = tt
  sound_of (Err (Full full live)) why free can = tt
  sound_of (Err Memory) why free can = tt
  sound_of (Err Disk) why free can = tt
  sound_of (Err (Damaged d)) why free can = absurd (no_damage free can d why)

  -- ---- the tests that failed
  pub unranged : is_ranged (meta_of s file) (room s file) ≡ false → IsTakeDamage s file (meta_damage file 1)
  unranged h = Unranged (λ k. true≢false (sym (passes (meta_of s file) k.mark k.first) ∙ h))
    where
      passes : (m : Meta) → m.high ≤ room s file → (m.free ≡ format.nil) ⊎ (m.free < m.high) → is_ranged m (room s file) ≡ true
      passes m le (inl e) = both (nat_le m.high (room s file)) (nat_eq m.free format.nil) (nat_lt m.free m.high) (grind (arith, nat_tests))
          (grind (arith, nat_tests))
        where
          both : (a b c : Bool) → a ≡ true → b ≡ true → (a && (b || c)) ≡ true
          both a b c p q = rw (p, q) refl
      passes m le (inr lt) = both (nat_le m.high (room s file)) (nat_eq m.free format.nil) (nat_lt m.free m.high) (grind (arith, nat_tests))
          (grind (arith, nat_tests))
        where
          both : (a b c : Bool) → a ≡ true → c ≡ true → (a && (b || c)) ≡ true
          both a true c p q = rw p refl
          both a false c p q = rw (p, q) refl

  pub uncounted : (meta : Meta) → meta ≡ meta_of s file → is_counted meta ≡ false → is_undercounted meta ≡ false → IsTakeDamage s file (meta_damage file 2)
  uncounted meta is h low =
      subst (λ (m : Meta). is_counted m ≡ false → is_undercounted m ≡ false → IsTakeDamage s file (meta_damage file 2)) (sym is)
      (λ k l. Overcounted (most (meta_of s file) k l) (more (meta_of s file) k l)) h low
    where
      more : (m : Meta) → is_counted m ≡ false → is_undercounted m ≡ false → m.free ≡ format.nil → m.high < m.live
      more m k l e =
          let t : nat_eq m.free format.nil ≡ true = grind (arith, nat_tests) in
          let a : nat_eq m.live m.high ≡ false = sym (ap (λ b. cond b (nat_eq m.live m.high) (nat_lt m.live m.high)) t) ∙ k in
          let b : nat_lt m.live m.high ≡ false = sym (ap (λ b. b && nat_lt m.live m.high) t) ∙ l in
          grind (arith, nat_tests)

      most : (m : Meta) → is_counted m ≡ false → is_undercounted m ≡ false → m.high ≤ m.live
      most m k l = ⊎_elim
          (λ (e : m.free ≡ format.nil). let lt = more m k l e in omega arith)
          (λ (ne : m.free ≢ format.nil). above m ne k) (nat_cases m.free format.nil)
        where
          above : (m : Meta) → m.free ≢ format.nil → is_counted m ≡ false → m.high ≤ m.live
          above m ne k = let t : nat_eq m.free format.nil ≡ false = grind (arith, nat_tests, ne) in let z : nat_lt m.live m.high ≡ false =
              sym (ap (λ b. cond b (nat_eq m.live m.high) (nat_lt m.live m.high)) t) ∙ k in grind (arith, nat_tests)

  low_of : (m : Meta) → is_undercounted m ≡ true → (m.free ≡ format.nil) × (m.live < m.high)
  low_of m l = let parts = and_parts (nat_eq m.free format.nil) (nat_lt m.live m.high) l in let a = parts.0 in let b = parts.1 in
      (grind (arith, nat_tests), grind (arith, nat_tests))

  pub unlisted : (meta : Meta) (x : ℕ) → meta ≡ meta_of s file → is_undercounted meta ≡ true → IsUnused s.records file x
      → IsTakeDamage s file (record_damage file x 2)
  unlisted meta x is l unused = let low = low_of (meta_of s file) (ap is_undercounted (sym is) ∙ l) in Unlisted x low.0 low.1 unused

  pub undercounted : (meta : Meta) → meta ≡ meta_of s file → is_undercounted meta ≡ true → AreAllUsed s.records file → IsTakeDamage s file (meta_damage file 2)
  undercounted meta is l used = let low = low_of (meta_of s file) (ap is_undercounted (sym is) ∙ l) in Undercounted low.0 low.1 used

  -- ---- the tests that held
  ranged_of : (m : Meta) → is_ranged m (room s file) ≡ true → IsRanged m (room s file)
  ranged_of m = by (nat_le m.high (room s file)) (nat_eq m.free format.nil) (nat_lt m.free m.high) refl refl refl
    where
      by : (a b c : Bool) → nat_le m.high (room s file) ≡ a → nat_eq m.free format.nil ≡ b → nat_lt m.free m.high ≡ c → (a && (b || c)) ≡ true
          → IsRanged m (room s file)
      by true true c x y z e = record { mark = grind (arith, nat_tests); first = inl (grind (arith, nat_tests)) }
      by true false true x y z e = record { mark = grind (arith, nat_tests); first = inr (grind (arith, nat_tests)) }
      by true false false x y z e = absurd (true≢false (sym e))
      by false b c x y z e = absurd (true≢false (sym e))

  counted_all : (m : Meta) → is_counted m ≡ true → m.free ≡ format.nil → m.live ≡ m.high
  counted_all m k e = let t : nat_eq m.free format.nil ≡ true = grind (arith, nat_tests) in let z : nat_eq m.live m.high ≡ true =
      sym (ap (λ b. cond b (nat_eq m.live m.high) (nat_lt m.live m.high)) t) ∙ k in grind (arith, nat_tests)

  counted_some : (m : Meta) → is_counted m ≡ true → m.free ≢ format.nil → m.live < m.high
  counted_some m k ne = let t : nat_eq m.free format.nil ≡ false = grind (arith, nat_tests, ne) in let z : nat_lt m.live m.high ≡ true =
      sym (ap (λ b. cond b (nat_eq m.live m.high) (nat_lt m.live m.high)) t) ∙ k in grind (arith, nat_tests)

  -- where each test held, nothing that was read is damaged
  pub undamaged : is_ranged (meta_of s file) (room s file) ≡ true → is_counted (meta_of s file) ≡ true
      → ((meta_of s file).free ≢ format.nil → kind_at s.records file (meta_of s file).free ≡ format.free_kind)
      → ((meta_of s file).free ≢ format.nil → IsNextLow s file) → IsUndamaged s file
  undamaged ranged counted unused low d (Unranged f) = f (ranged_of (meta_of s file) ranged)
  undamaged ranged counted unused low d (Unlisted x e lt out) = let q = counted_all (meta_of s file) counted e in omega arith
  undamaged ranged counted unused low d (Undercounted e lt used) = let q = counted_all (meta_of s file) counted e in omega arith
  undamaged ranged counted unused low d (Overcounted le more) = ⊎_elim
      (λ (e : (meta_of s file).free ≡ format.nil). let q = counted_all (meta_of s file) counted e in let lt = more e in omega arith)
      (λ (ne : (meta_of s file).free ≢ format.nil). let lt = counted_some (meta_of s file) counted ne in omega arith)
      (nat_cases (meta_of s file).free format.nil)
  undamaged ranged counted unused low d (InUse ne used) = used (unused ne)
  undamaged ranged counted unused low d (BadNext ne out some le) = ⊎_elim some
      (λ (lt : next_free s.records file (meta_of s file).free < high s.records file). omega arith) (low ne)

  pub in_use : (rec : Rec) (meta : Meta) → meta ≡ meta_of s file → meta.free ≢ format.nil → meta.free < meta.high → rec ≡ rec_at s.records file meta.free
      → field 1 rec format.kind ≢ format.free_kind → IsTakeDamage s file (meta_damage file 2)
  in_use rec meta is ne lt there used =
      let P : Meta → Type 0 = λ m. m.free ≢ format.nil → m.free < m.high → rec ≡ rec_at s.records file m.free → IsTakeDamage s file (meta_damage file 2) in
      subst P (sym is) (λ a b c. InUse a (λ z. used (ap (λ r. field 1 r format.kind) c ∙ sym (kind_low (high s.records file) (rec_at s.records file
      (meta_of s file).free) (meta_of s file).free b) ∙ z))) ne lt there

  pub bad_next : (rec : Rec) (meta : Meta) (next : ℕ) → meta ≡ meta_of s file → meta.free ≢ format.nil → meta.free < meta.high
      → rec ≡ rec_at s.records file meta.free → field 1 rec format.kind ≡ format.free_kind
      → next ≡ field 4 rec format.free_next → next ≢ format.nil → meta.high ≤ next → IsTakeDamage s file (record_damage file meta.free 1)
  bad_next rec meta next is ne lt there free at some le =
      let P : Meta → Type 0 = λ m. m.free ≢ format.nil → m.free < m.high → rec ≡ rec_at s.records file m.free → m.high ≤ next
      → IsTakeDamage s file (record_damage file m.free 1) in
      subst P (sym is) (λ a b c l.
      let e : next ≡ next_free s.records file (meta_of s file).free = at ∙ ap (λ r. field 4 r format.free_next) c in
      let unused : IsUnused s.records file (meta_of s file).free = record {
        low = b;
        free = kind_low (high s.records file) (rec_at s.records file (meta_of s file).free) (meta_of s file).free b ∙ ap (λ r. field 1 r format.kind)
            (sym c) ∙ free;
      } in
      BadNext a unused (λ z. some (e ∙ z)) (omega (arith, l, e))) ne lt there le

  -- a free record isn't in use, and nor is the mark
  pub not_in_use : (rec : Rec) (meta : Meta) → meta ≡ meta_of s file → meta.free < meta.high → rec ≡ rec_at s.records file meta.free
      → field 1 rec format.kind ≡ format.free_kind → kind_at s.records file meta.free ≡ format.free_kind
  not_in_use rec meta is lt there free =
      let P : Meta → Type 0 = λ m. m.free < m.high → rec ≡ rec_at s.records file m.free → kind_at s.records file m.free ≡ format.free_kind in
      subst P (sym is) (λ b c. kind_low (high s.records file) (rec_at s.records file (meta_of s file).free) (meta_of s file).free b ∙ ap
      (λ r. field 1 r format.kind) (sym c) ∙ free) lt there

  pub mark_not_in_use : (meta : Meta) → meta ≡ meta_of s file → kind_at s.records file meta.high ≡ format.free_kind
  mark_not_in_use meta is = let e = ap (λ (m : Meta). m.high) is in kind_high (high s.records file) (rec_at s.records file meta.high) meta.high (omega arith)
