-- Laws of numbers that are set in records, and of the links among them.
use Rattle.std.proofs.Common.{◌≡◌, ◌≢◌, ◌⊎◌, ℕ, ◌+◌, ◌<◌, ◌≤◌, ◌^◌, nat_eq, cond, Bool, true, false, sym, ap, ◌∙◌, inl, inr, ⊎_elim, arith, refl}
use Rattle.rec_bytes.specs.declared.key.Key.{Key}
use Rattle.rec_bytes.specs.declared.record.Rec.{Rec}
use Rattle.rec_bytes.specs.Record.{field, with_field}
use Rattle.rec_bytes.specs.Space.{put}
use Rattle.rec_bytes.proofs.Numbers.{field-with_field_same, field-with_field_other}
use Rattle.rec_bytes.proofs.Spaces.{put_same, put_other}
use Rattle.store_rules.specs.Chains.{place_of}
use Rattle.store_rules.specs.Rules.{Head}
use Rattle.store_rules.specs.Views.{Records, key_in, rec_at}
use Rattle.store_rules.proofs.NumberLaws.{nat_cases}
use Rattle.chain_edit.specs.Chains.{Differ, next_of, next_place, prev_of, prev_place}

-- the record of a relationship
abbrev pub rel_rec : Records → ℕ → Rec
rel_rec records x = rec_at records 2 x

-- ---- a number that is set

-- the records with another number at a place
abbrev pub set_at : Records → Head → ℕ → Records
set_at records p to = put records p.key (with_field 4 (records p.key) p.field to)

pub key_cases : (a b : Key) → (a ≡ b) ⊎ (a ≢ b)
key_cases a b = ⊎_elim
    (λ (f : a.file ≡ b.file). ⊎_elim
    (λ (i : a.id ≡ b.id). inl (ap (λ z. record { file = z; id = a.id }) f ∙ ap (λ z. record { file = b.file; id = z }) i))
    (λ (i : a.id ≢ b.id). inr (λ e. i (ap (λ (k : Key). k.id) e))) (nat_cases a.id b.id))
    (λ (f : a.file ≢ b.file). inr (λ e. f (ap (λ (k : Key). k.file) e))) (nat_cases a.file b.file)

pub field-set_same : (records : Records) (p : Head) (to : ℕ) → p.field + 4 ≤ 64 → to < 2 ^ 32 → field 4 (set_at records p to p.key) p.field ≡ to
field-set_same records p to fits small =
    ap (λ r. field 4 r p.field) (put_same records p.key (with_field 4 (records p.key) p.field to)) ∙ field-with_field_same 4 (records p.key) p.field to fits
    small

-- each other number stays
pub field-set_other : (records : Records) (p : Head) (to : ℕ) (key : Key) (n at : ℕ) → at + n ≤ 64 → (key ≡ p.key → (at + n ≤ p.field) ⊎ (p.field + 4 ≤ at))
    → field n (set_at records p to key) at ≡ field n (records key) at
field-set_other records p to key n at fits apart = ⊎_elim
    (λ (same : key ≡ p.key).
    ap (λ k. field n (set_at records p to k) at) same
    ∙ ap (λ r. field n r at) (put_same records p.key (with_field 4 (records p.key) p.field to))
    ∙ field-with_field_other 4 (records p.key) p.field to n at fits (⊎_elim (λ low. inr low) (λ high. inl high) (apart same))
    ∙ ap (λ k. field n (records k) at) (sym same))
    (λ (ne : key ≢ p.key). ap (λ r. field n r at) (put_other records p.key (with_field 4 (records p.key) p.field to) key ne))
    (key_cases key p.key)

-- ---- the places of links

-- one of the two places of previous links
abbrev IsPrevious : ℕ → Type 0
IsPrevious p = (p ≡ 16) ⊎ (p ≡ 24)

choice : (b : Bool) → IsPrevious (cond b 16 24)
choice true = inl refl
choice false = inr refl

place_is : (r : Rec) (n : ℕ) → IsPrevious (place_of r n)
place_is r n = choice (nat_eq (field 4 r 8) n)

low : (p : ℕ) → IsPrevious p → 16 ≤ p
low p h = ⊎_elim (λ e. omega arith) (λ e. omega arith) h

high : (p : ℕ) → IsPrevious p → p ≤ 24
high p h = ⊎_elim (λ e. omega arith) (λ e. omega arith) h

pub place_low : (r : Rec) (n : ℕ) → 16 ≤ place_of r n
place_low r n = low (place_of r n) (place_is r n)

pub place_high : (r : Rec) (n : ℕ) → place_of r n ≤ 24
place_high r n = high (place_of r n) (place_is r n)

-- so many bytes from one place on stand apart from those from another
abbrev IsAside : ℕ → ℕ → Type 0
IsAside a b = (a + 4 ≤ b) ⊎ (b + 4 ≤ a)

-- a previous link stands apart from a next one, and links of one kind at two places stand apart
aside_next : (p q : ℕ) → IsPrevious p → IsPrevious q → IsAside p (q + 4)
aside_next p q h k = ⊎_elim
    (λ (e : p ≡ 16). ⊎_elim (λ (f : q ≡ 16). inl (omega arith)) (λ (f : q ≡ 24). inl (omega arith)) k)
    (λ (e : p ≡ 24). ⊎_elim (λ (f : q ≡ 16). inr (omega arith)) (λ (f : q ≡ 24). inl (omega arith)) k) h

aside_previous : (p q : ℕ) → IsPrevious p → IsPrevious q → IsAside (p + 4) q
aside_previous p q h k = ⊎_elim (λ l. inr l) (λ l. inl l) (aside_next q p k h)

aside : (d p q : ℕ) → IsPrevious p → IsPrevious q → p ≢ q → IsAside (p + d) (q + d)
aside d p q h k ne = ⊎_elim
    (λ (e : p ≡ 16). ⊎_elim (λ (f : q ≡ 16). absurd (ne (omega arith))) (λ (f : q ≡ 24). inl (omega arith)) k)
    (λ (e : p ≡ 24). ⊎_elim (λ (f : q ≡ 16). inr (omega arith)) (λ (f : q ≡ 24). absurd (ne (omega arith))) k) h

-- ---- the links after a number was set that is none of a node's identifiers in a relationship

-- the number is in another file, or stands after the ends of a relationship
abbrev pub IsPastEnds : Head → Type 0
IsPastEnds p = p.key.file ≡ 2 → 12 ≤ p.field

module _ (records : Records) (p : Head) (to : ℕ) (past : IsPastEnds p) where
  at_rel : (x : ℕ) → key_in 2 x ≡ p.key → 12 ≤ p.field
  at_rel x e = past (sym (ap (λ (k : Key). k.file) e))

  pub low-set : (x n at : ℕ) → at + n ≤ 12 → field n (rel_rec (set_at records p to) x) at ≡ field n (rel_rec records x) at
  low-set x n at le = field-set_other records p to (key_in 2 x) n at (omega arith) (λ e. let b = at_rel x e in inl (omega arith))

  pub place-set : (m x : ℕ) → place_of (rel_rec (set_at records p to) x) m ≡ place_of (rel_rec records x) m
  place-set m x = ap (λ s. cond (nat_eq s m) 16 24) (low-set x 4 8 (omega arith))

  pub next-set_other : (m x : ℕ) → (key_in 2 x ≡ p.key → IsAside (place_of (rel_rec records x) m + 4) p.field) → next_of (set_at records p to) m x ≡ next_of
      records m x
  next-set_other m x apart =
      ap (λ q. field 4 (rel_rec (set_at records p to) x) (q + 4)) (place-set m x)
      ∙ field-set_other records p to (key_in 2 x) 4 (place_of (rel_rec records x) m + 4) (let b = place_high (rel_rec records x) m in omega arith) apart

  pub prev-set_other : (m x : ℕ) → (key_in 2 x ≡ p.key → IsAside (place_of (rel_rec records x) m) p.field) → prev_of (set_at records p to) m x ≡ prev_of records
      m x
  prev-set_other m x apart =
      ap (λ q. field 4 (rel_rec (set_at records p to) x) q) (place-set m x)
      ∙ field-set_other records p to (key_in 2 x) 4 (place_of (rel_rec records x) m) (let b = place_high (rel_rec records x) m in omega arith) apart

-- a number in another file
module _ (records : Records) (p : Head) (to : ℕ) (elsewhere : p.key.file ≢ 2) where
  never : {A : Type 0} (x : ℕ) → key_in 2 x ≡ p.key → A
  never x e = absurd (elsewhere (sym (ap (λ (k : Key). k.file) e)))

  pub rel-set_elsewhere : (x : ℕ) → rel_rec (set_at records p to) x ≡ rel_rec records x
  rel-set_elsewhere x = put_other records p.key (with_field 4 (records p.key) p.field to) (key_in 2 x) (λ e. never x e)

-- the record of another file stays where a relationship's is put
pub put_rel_elsewhere : (records : Records) (key : Key) (r : Rec) (x : ℕ) → key.file ≢ 2 → put records (key_in 2 x) r key ≡ records key
put_rel_elsewhere records key r x ne = put_other records (key_in 2 x) r key (λ e. ne (ap (λ (k : Key). k.file) e))

-- ---- a link that is set
same_id : (x y : ℕ) → key_in 2 x ≡ key_in 2 y → x ≡ y
same_id x y e = ap (λ (k : Key). k.id) e

module _ (records : Records) (n id to : ℕ) where
  next_past : IsPastEnds (next_place records n id)
  next_past _ = let b = place_low (rel_rec records id) n in omega arith

  prev_past : IsPastEnds (prev_place records n id)
  prev_past _ = let b = place_low (rel_rec records id) n in omega arith

  -- the link to the next one
  pub next_of-set_next_same : to < 2 ^ 32 → next_of (set_at records (next_place records n id) to) n id ≡ to
  next_of-set_next_same small =
      ap (λ q. field 4 (rel_rec (set_at records (next_place records n id) to) id) (q + 4)) (place-set records (next_place records n id) to next_past n id)
      ∙ field-set_same records (next_place records n id) to (let b = place_high (rel_rec records id) n in omega arith) small

  pub next_of-set_next_other : (m x : ℕ) → (x ≡ id → Differ records n m id) → next_of (set_at records (next_place records n id) to) m x ≡ next_of records m x
  next_of-set_next_other m x ne = next-set_other records (next_place records n id) to next_past m x
      (λ e. let is = same_id x id e in rw is (aside 4 (place_of (rel_rec records id) m) (place_of (rel_rec records id) n) (place_is (rel_rec records id) m)
      (place_is (rel_rec records id) n) (λ q. ne is (sym q))))

  pub prev_of-set_next : (m x : ℕ) → prev_of (set_at records (next_place records n id) to) m x ≡ prev_of records m x
  prev_of-set_next m x = prev-set_other records (next_place records n id) to next_past m x
      (λ _. aside_next (place_of (rel_rec records x) m) (place_of (rel_rec records id) n) (place_is (rel_rec records x) m) (place_is (rel_rec records id) n))

  pub place-set_next : (m x : ℕ) → place_of (rel_rec (set_at records (next_place records n id) to) x) m ≡ place_of (rel_rec records x) m
  place-set_next m x = place-set records (next_place records n id) to next_past m x

  -- the link to the one before
  pub prev_of-set_prev_same : to < 2 ^ 32 → prev_of (set_at records (prev_place records n id) to) n id ≡ to
  prev_of-set_prev_same small =
      ap (λ q. field 4 (rel_rec (set_at records (prev_place records n id) to) id) q) (place-set records (prev_place records n id) to prev_past n id)
      ∙ field-set_same records (prev_place records n id) to (let b = place_high (rel_rec records id) n in omega arith) small

  pub prev_of-set_prev_other : (m x : ℕ) → (x ≡ id → Differ records n m id) → prev_of (set_at records (prev_place records n id) to) m x ≡ prev_of records m x
  prev_of-set_prev_other m x ne = prev-set_other records (prev_place records n id) to prev_past m x
      (λ e. let is = same_id x id e in rw is (aside_same (place_of (rel_rec records id) m) (place_of (rel_rec records id) n) (place_is (rel_rec records id) m)
      (place_is (rel_rec records id) n) (λ q. ne is (sym q))))
    where
      aside_same : (p q : ℕ) → IsPrevious p → IsPrevious q → p ≢ q → IsAside p q
      aside_same p q h k ne = ⊎_elim (λ l. inl (omega arith)) (λ l. inr (omega arith)) (aside 0 p q h k ne)

  pub next_of-set_prev : (m x : ℕ) → next_of (set_at records (prev_place records n id) to) m x ≡ next_of records m x
  next_of-set_prev m x = next-set_other records (prev_place records n id) to prev_past m x
      (λ _. aside_previous (place_of (rel_rec records x) m) (place_of (rel_rec records id) n) (place_is (rel_rec records x) m) (place_is (rel_rec records id)
      n))

  pub place-set_prev : (m x : ℕ) → place_of (rel_rec (set_at records (prev_place records n id) to) x) m ≡ place_of (rel_rec records x) m
  place-set_prev m x = place-set records (prev_place records n id) to prev_past m x

  -- what is set there changes no other file
  pub elsewhere-set_next : (key : Key) → key.file ≢ 2 → set_at records (next_place records n id) to key ≡ records key
  elsewhere-set_next key ne = put_rel_elsewhere records key (with_field 4 (rel_rec records id) (place_of (rel_rec records id) n + 4) to) id ne

  pub elsewhere-set_prev : (key : Key) → key.file ≢ 2 → set_at records (prev_place records n id) to key ≡ records key
  elsewhere-set_prev key ne = put_rel_elsewhere records key (with_field 4 (rel_rec records id) (place_of (rel_rec records id) n) to) id ne
