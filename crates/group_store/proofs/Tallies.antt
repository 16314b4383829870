-- What a changed number of a head's relationships leaves, and that it counts one more, or one less.
use Rattle.std.proofs.Common.{◌≡◌, ◌≢◌, ◌⊎◌, ℕ, ◌+◌, ◌-◌, ◌<◌, ◌≤◌, ◌^◌, nat_eq, Bool, true, false, cond, sym, ap, ◌∙◌, subst, inl, inr, ⊎_elim, arith, refl}
use Rattle.std.proofs.lemmas.Bool.{eqb-true, eqb-false, true≢false}
use Rattle.rec_bytes.specs.declared.key.Key.{Key}
use Rattle.rec_bytes.specs.declared.record.Rec.{Rec}
use Rattle.rec_bytes.specs.Format as format
use Rattle.rec_bytes.specs.Record.{field, with_field}
use Rattle.rec_bytes.specs.Space.{State, after_get, after_put, put}
use Rattle.rec_bytes.proofs.Numbers.{field-lt, field-with_field_other, field-with_field_same}
use Rattle.rec_bytes.proofs.Spaces.{put_other, put_same}
use Rattle.store_rules.specs.Rules.{Head}
use Rattle.store_rules.specs.Views.{GroupRow, Records, RelRow, high, key_in, kind_at, rec_at}
use Rattle.store_rules.proofs.CountLaws.{HasOneMore, IsSide, counts_at}
use Rattle.store_rules.proofs.LinkFits.{IsCountPlace}
use Rattle.store_rules.proofs.NumberLaws.{nat_cases}
use Rattle.store_rules.proofs.Relinks.{IsRelinked, byte_stays, set_count}
use Rattle.store_rules.proofs.ViewLaws.{kind_low}
use Rattle.group_store.specs.Counting.{count_place, one_less, one_more, recounted, tallied}
use Rattle.group_store.specs.GroupRecord.{is_counted}

-- the three ways: no group's head, a counted group's, and another group's
pub tally_cases : (change : ℕ → ℕ) (t : State) (head : Head) (P : State → Type 0) → (head.key.file ≢ format.groups_file → P t)
    → (head.key.file ≡ format.groups_file → is_counted (t.records head.key) ≡ true
    → P (after_put (after_get t) head.key (with_field 4 (t.records head.key) (count_place head.field)
    (change (field 4 (t.records head.key) (count_place head.field))))))
    → (head.key.file ≡ format.groups_file → is_counted (t.records head.key) ≡ false → P (after_put (after_get t) head.key (t.records head.key)))
    → P (tallied change t head)
unfolding tallied
tally_cases change t head P none counted plain = by (nat_eq head.key.file format.groups_file) refl
  where
    of_group : head.key.file ≡ format.groups_file → (b : Bool) → is_counted (t.records head.key) ≡ b
        → P (after_put (after_get t) head.key (cond b (with_field 4 (t.records head.key) (count_place head.field)
        (change (field 4 (t.records head.key) (count_place head.field)))) (t.records head.key)))
    of_group is true e = counted is e
    of_group is false e = plain is e

    by : (b : Bool) → nat_eq head.key.file format.groups_file ≡ b → P (cond b (after_put (after_get t) head.key (recounted change (t.records head.key)
        (count_place head.field))) t)
    by true e = of_group (eqb-true _ _ e) (is_counted (t.records head.key)) refl
    by false e = none (eqb-false _ _ e)

-- other records stay
pub elsewhere-tallied : (change : ℕ → ℕ) (t : State) (head : Head) (key : Key) → key ≢ head.key → (tallied change t head).records key ≡ t.records key
elsewhere-tallied change t head key ne = tally_cases change t head (λ z. z.records key ≡ t.records key) (λ _. refl)
    (λ _ _. put_other t.records head.key (with_field 4 (t.records head.key) (count_place head.field)
    (change (field 4 (t.records head.key) (count_place head.field)))) key ne)
    (λ _ _. put_other t.records head.key (t.records head.key) key ne)

-- and those of other files
pub file-tallied : (change : ℕ → ℕ) (t : State) (head : Head) (key : Key) → key.file ≢ format.groups_file → (tallied change t head).records key ≡ t.records key
file-tallied change t head key ne = tally_cases change t head (λ z. z.records key ≡ t.records key) (λ _. refl)
    (λ is _. put_other t.records head.key (with_field 4 (t.records head.key) (count_place head.field)
    (change (field 4 (t.records head.key) (count_place head.field)))) key (λ e. ne (ap (λ (k : Key). k.file) e ∙ is)))
    (λ is _. put_other t.records head.key (t.records head.key) key (λ e. ne (ap (λ (k : Key). k.file) e ∙ is)))

pub shape-tallied : (change : ℕ → ℕ) (t : State) (head : Head) → (tallied change t head).shape ≡ t.shape
shape-tallied change t head = tally_cases change t head (λ z. z.shape ≡ t.shape) (λ _. refl) (λ _ _. refl) (λ _ _. refl)

key_cases : (a b : Key) → (a ≡ b) ⊎ (a ≢ b)
key_cases a b = ⊎_elim
    (λ (f : a.file ≡ b.file). ⊎_elim
    (λ (i : a.id ≡ b.id). inl (ap (λ z. record { file = z; id = a.id }) f ∙ ap (λ z. record { file = b.file; id = z }) i))
    (λ (i : a.id ≢ b.id). inr (λ e. i (ap (λ (k : Key). k.id) e))) (nat_cases a.id b.id))
    (λ (f : a.file ≢ b.file). inr (λ e. f (ap (λ (k : Key). k.file) e))) (nat_cases a.file b.file)

pub count_high : (at : ℕ) → (32 ≤ count_place at) × (count_place at + 4 ≤ 44) × IsCountPlace (count_place at)
count_high at = by (nat_eq at 20) (nat_eq at 24)
  where
    by : (a b : Bool) → (32 ≤ cond a 32 (cond b 36 40)) × (cond a 32 (cond b 36 40) + 4 ≤ 44) × IsCountPlace (cond a 32 (cond b 36 40))
    by true b = (omega arith, omega arith, inl refl)
    by false true = (omega arith, omega arith, inr (inl refl))
    by false false = (omega arith, omega arith, inr (inr refl))

-- and all numbers before the counts
pub field-tallied : (change : ℕ → ℕ) (t : State) (head : Head) (key : Key) (n at : ℕ) → at + n ≤ 32
    → field n ((tallied change t head).records key) at ≡ field n (t.records key) at
field-tallied change t head key n at low = tally_cases change t head (λ z. field n (z.records key) at ≡ field n (t.records key) at) (λ _. refl)
    (λ _ _. ⊎_elim
    (λ (e : key ≡ head.key). ap (λ k. field n (put t.records head.key (with_field 4 (t.records head.key) (count_place head.field)
    (change (field 4 (t.records head.key) (count_place head.field)))) k) at) e
    ∙ ap (λ r. field n r at) (put_same t.records head.key (with_field 4 (t.records head.key) (count_place head.field)
    (change (field 4 (t.records head.key) (count_place head.field)))))
    ∙ field-with_field_other 4 (t.records head.key) (count_place head.field) (change (field 4 (t.records head.key) (count_place head.field))) n at (omega arith)
    (inr (let h = (count_high head.field).0 in omega arith))
    ∙ ap (λ k. field n (t.records k) at) (sym e))
    (λ (ne : key ≢ head.key). ap (λ r. field n r at) (put_other t.records head.key (with_field 4 (t.records head.key) (count_place head.field)
    (change (field 4 (t.records head.key) (count_place head.field)))) key ne)) (key_cases key head.key))
    (λ _ _. ⊎_elim
    (λ (e : key ≡ head.key). ap (λ k. field n (put t.records head.key (t.records head.key) k) at) e ∙ ap (λ r. field n r at) (put_same t.records head.key
    (t.records head.key)) ∙ ap (λ k. field n (t.records k) at) (sym e))
    (λ (ne : key ≢ head.key). ap (λ r. field n r at) (put_other t.records head.key (t.records head.key) key ne)) (key_cases key head.key))

-- and each number that stands apart from the one of the head
pub apart-tallied : (change : ℕ → ℕ) (t : State) (head : Head) (key : Key) (n at : ℕ) → at + n ≤ 64
    → (key ≡ head.key → (at + n ≤ count_place head.field) ⊎ (count_place head.field + 4 ≤ at))
    → field n ((tallied change t head).records key) at ≡ field n (t.records key) at
apart-tallied change t head key n at inside apart = tally_cases change t head (λ z. field n (z.records key) at ≡ field n (t.records key) at) (λ _. refl)
    (λ _ _. by (with_field 4 (t.records head.key) (count_place head.field) (change (field 4 (t.records head.key) (count_place head.field))))
    (λ e. field-with_field_other 4 (t.records head.key) (count_place head.field) (change (field 4 (t.records head.key) (count_place head.field))) n at inside
    (⊎_elim (λ low. inr low) (λ high. inl high) (apart e))))
    (λ _ _. by (t.records head.key) (λ _. refl))
  where
    by : (r : Rec) → (key ≡ head.key → field n r at ≡ field n (t.records head.key) at) → field n (put t.records head.key r key) at ≡ field n (t.records key) at
    by r same = ⊎_elim
        (λ (e : key ≡ head.key). ap (λ k. field n (put t.records head.key r k) at) e ∙ ap (λ q. field n q at) (put_same t.records head.key r) ∙ same e ∙ ap
        (λ k. field n (t.records k) at) (sym e))
        (λ (ne : key ≢ head.key). ap (λ q. field n q at) (put_other t.records head.key r key ne)) (key_cases key head.key)

-- the number itself, of a counted group
pub count-tallied : (change : ℕ → ℕ) (t : State) (head : Head) → head.key.file ≡ format.groups_file → is_counted (t.records head.key) ≡ true
    → change (field 4 (t.records head.key) (count_place head.field)) < 2 ^ 32
    → field 4 ((tallied change t head).records head.key) (count_place head.field) ≡ change (field 4 (t.records head.key) (count_place head.field))
count-tallied change t head file counted small =
    let n = change (field 4 (t.records head.key) (count_place head.field)) in
    tally_cases change t head (λ z. field 4 (z.records head.key) (count_place head.field) ≡ n) (λ other. absurd (other file))
    (λ _ _. ap (λ r. field 4 r (count_place head.field)) (put_same t.records head.key (with_field 4 (t.records head.key) (count_place head.field) n))
    ∙ field-with_field_same 4 (t.records head.key) (count_place head.field) n (let b = (count_high head.field).1 in omega arith) small)
    (λ _ plain. absurd (true≢false (sym counted ∙ plain)))

-- ---- as a step among links and degrees

put_again : (t : Records) (key : Key) → put t key (t key) ≡ t
put_again t key = λ i q. each q i
  where
    each : (q : Key) → put t key (t key) q ≡ t q
    each q = ⊎_elim (λ (e : q ≡ key). ap (put t key (t key)) e ∙ put_same t key (t key) ∙ ap t (sym e)) (λ (ne : q ≢ key). put_other t key (t key) q ne)
        (key_cases q key)

pub links_tallied : (s : Records) (t : State) (change : ℕ → ℕ) (head : Head) → ((n : ℕ) → n < 2 ^ 32 → change n < 2 ^ 32)
    → (head.key.file ≡ format.groups_file → head.key.id < high s format.groups_file) → IsRelinked s t.records
    → IsRelinked s (tallied change t head).records
links_tallied s t change head small below old = tally_cases change t head (λ z. IsRelinked s z.records) (λ _. old)
    (λ is counted.
    let key : head.key ≡ key_in format.groups_file head.key.id = λ i. record { file = is i; id = head.key.id } in
    let byte : field 1 (rec_at t.records format.groups_file head.key.id) format.kind ≡ format.counted = ap (λ k. field 1 (t.records k) format.kind) (sym key)
    ∙ eqb-true _ _ counted in
    let kind : kind_at s format.groups_file head.key.id ≡ format.counted =
    kind_low (high s format.groups_file) (rec_at s format.groups_file head.key.id) head.key.id (below is)
    ∙ sym (byte_stays s t.records old format.groups_file head.key.id) ∙ byte in
    subst (λ (k : Key). IsRelinked s (put t.records k (with_field 4 (t.records k) (count_place head.field)
    (change (field 4 (t.records k) (count_place head.field)))))) (sym key)
    (set_count s t.records old head.key.id (count_place head.field) (change (field 4 (rec_at t.records format.groups_file head.key.id)
    (count_place head.field))) kind (count_high head.field).2
    (small (field 4 (rec_at t.records format.groups_file head.key.id) (count_place head.field)) (field-lt 4 (rec_at t.records format.groups_file head.key.id)
    (count_place head.field)))))
    (λ _ _. subst (IsRelinked s) (sym (put_again t.records head.key)) old)

pub more_small : (n : ℕ) → n < 2 ^ 32 → one_more n < 2 ^ 32
more_small n lt = omega arith

pub less_small : (n : ℕ) → n < 2 ^ 32 → one_less n < 2 ^ 32
less_small n lt = omega arith

-- ---- the number

place_is : (at : ℕ) (group : GroupRow) (row : RelRow) → IsSide at group row → count_place at ≡ at + 12
place_is at group row (inl k) = subst (λ a. count_place a ≡ a + 12) (sym k.0) refl
place_is at group row (inr (inl k)) = subst (λ a. count_place a ≡ a + 12) (sym k.0) refl
place_is at group row (inr (inr k)) = subst (λ a. count_place a ≡ a + 12) (sym k.0) refl

-- numbers that are the same
pub more_like : (old new then : Rec) (group : GroupRow) (row : RelRow) → ((at : ℕ) → IsCountPlace at → field 4 then at ≡ field 4 new at)
    → HasOneMore old new group row → HasOneMore old then group row
more_like old new then group row same h = record {
  out = same 32 (inl refl) ∙ h.out;
  into = same 36 (inr (inl refl)) ∙ h.into;
  loops = same 40 (inr (inr refl))
      ∙ h.loops;
}

-- one more relationship is one more
pub more_counted : (r : Rec) (at : ℕ) (group : GroupRow) (row : RelRow) → row.label ≡ group.label → IsSide at group row → field 4 r (at + 12) < 2 ^ 32 - 1
    → HasOneMore r (with_field 4 r (count_place at) (one_more (field 4 r (count_place at)))) group row
more_counted r at group row typed side low =
    let place = place_is at group row side in
    subst (λ p. HasOneMore r (with_field 4 r p (one_more (field 4 r p))) group row) (sym place)
    (counts_at r group row (one_more (field 4 r (at + 12))) typed (omega arith) at side (omega arith))

-- and one less is one less
pub less_counted : (r : Rec) (at : ℕ) (group : GroupRow) (row : RelRow) → row.label ≡ group.label → IsSide at group row → 1 ≤ field 4 r (at + 12)
    → HasOneMore (with_field 4 r (count_place at) (one_less (field 4 r (count_place at)))) r group row
less_counted r at group row typed side some =
    let place = place_is at group row side in
    let high = count_high at in
    let n = field 4 r (at + 12) in
    let bound : n < 2 ^ 32 = field-lt 4 r (at + 12) in
    let low = with_field 4 r (at + 12) (one_less n) in
    let fits : at + 12 + 4 ≤ 64 = let b = high.1 in omega (arith, b, place) in
    let here : field 4 low (at + 12) ≡ one_less n = field-with_field_same 4 r (at + 12) (one_less n) fits (omega (arith, bound)) in
    subst (λ p. HasOneMore (with_field 4 r p (one_less (field 4 r p))) r group row) (sym place)
    (more_like low (with_field 4 low (at + 12) n) r group row
    (λ q is. ⊎_elim
    (λ (e : q ≡ at + 12). ap (field 4 r) e ∙ sym (field-with_field_same 4 low (at + 12) n fits bound) ∙ ap (field 4 (with_field 4 low (at + 12) n)) (sym e))
    (λ (ne : q ≢ at + 12).
    let apart : (at + 12 + 4 ≤ q) ⊎ (q + 4 ≤ at + 12) = spaced q (at + 12) is (subst IsCountPlace place high.2) ne in
    let inside : q + 4 ≤ 64 = within q is in
    sym (field-with_field_other 4 low (at + 12) n 4 q inside apart ∙ field-with_field_other 4 r (at + 12) (one_less n) 4 q inside apart)) (nat_cases q
    (at + 12)))
    (counts_at low group row n typed bound at side (less_more n (field 4 low (at + 12)) some here)))
  where
    less_more : (n m : ℕ) → 1 ≤ n → m ≡ one_less n → n ≡ m + 1
    less_more n m some is = omega arith

    within : (q : ℕ) → IsCountPlace q → q + 4 ≤ 64
    within q is = ⊎_elim (λ (e : q ≡ 32). omega arith) (λ k. ⊎_elim (λ (e : q ≡ 36). omega arith) (λ (e : q ≡ 40). omega arith) k) is

    spaced : (q p : ℕ) → IsCountPlace q → IsCountPlace p → q ≢ p → (p + 4 ≤ q) ⊎ (q + 4 ≤ p)
    spaced q p (inl a) (inl b) ne = absurd (ne (a ∙ sym b))
    spaced q p (inl a) (inr (inl b)) ne = inr (omega arith)
    spaced q p (inl a) (inr (inr b)) ne = inr (omega arith)
    spaced q p (inr (inl a)) (inl b) ne = inl (omega arith)
    spaced q p (inr (inl a)) (inr (inl b)) ne = absurd (ne (a ∙ sym b))
    spaced q p (inr (inl a)) (inr (inr b)) ne = inr (omega arith)
    spaced q p (inr (inr a)) (inl b) ne = inl (omega arith)
    spaced q p (inr (inr a)) (inr (inl b)) ne = inl (omega arith)
    spaced q p (inr (inr a)) (inr (inr b)) ne = absurd (ne (a ∙ sym b))
