-- How many properties an element has, and how many blocks they take, after a change of its map.
use Rattle.std.proofs.Common.{◌≡◌, ℕ, ◌+◌, ◌-◌, Bool, true, false, ◌&&◌, cond, None, Some, List, [], ◌∷◌, length, map, sym, ap, ◌∙◌, arith, refl}
use Rattle.std.proofs.lemmas.Cmp.{nat_list_cmp_total}
use Rattle.std.proofs.lemmas.List.Sums.{sum_by-cons}
use Rattle.std.specs.Cmp.Lexicographic.{slice_cmp}
use Rattle.std.specs.Prelude.{is_some}
use Rattle.std.specs.FinMap as maps
use Rattle.std.specs.FinMap.Entries as entries
use Rattle.std.specs.List.{sum_by}
use Rattle.std.specs.Ordering.{eq_by_cmp, is_eq, is_lt, nat_cmp}
use Rattle.std.specs.declared.cmp.Ordering.{Ordering}
use Rattle.std.specs.declared.cmp.Ordering.TheVariants.{Less, Equal, Greater}
use lib.Dec.{T}
use Rattle.plain_graph.specs.Properties.{Properties, blocks_at, blocks_if, blocks_in, blocks_of, no_properties}
use Rattle.plain_graph.specs.declared.value.Value.{Value}

-- the order of keys
abbrev pub order : List ℕ → List ℕ → Ordering
order = slice_cmp nat_cmp

abbrev Entries : Type 0
Entries = List (List ℕ × Value)

-- how many blocks the values of the entries take
abbrev blocks_under : Entries → ℕ
blocks_under es = sum_by blocks_of (map (λ (e : List ℕ × Value). e.1) es)

-- both parts of a conjunction hold
both_true : (a b : Bool) → T (a && b) → T a × T b
both_true true b h = (tt, h)
both_true false b h = absurd h

-- the test of what is less
is_less : (r : Ordering) → T (is_lt r) → r ≡ Less
is_less Less h = refl
is_less Equal h = absurd h
is_less Greater h = absurd h

-- a key that is below each of the others is not found among them
not_found : (k x : List ℕ) (es : Entries) → order k x ≡ Less → T (entries.below_all order x es) → entries.find order k es ≡ None
not_found k x [] lt below = refl
not_found k x (e ∷ es) lt below =
    let parts = both_true (is_lt (order x e.0)) (entries.below_all order x es) below in
    ap (λ r. cond (is_eq r) (Some e.1) (entries.find order k es)) (nat_list_cmp_total.trans k x e.0 lt (is_less (order x e.0) parts.0))
    ∙ not_found k x es lt parts.1

-- those of one entry more
blocks_under-cons : (e : List ℕ × Value) (es : Entries) → blocks_under (e ∷ es) ≡ blocks_of e.1 + blocks_under es
blocks_under-cons e es = sum_by-cons blocks_of e.1 (map (λ (d : List ℕ × Value). d.1) es)

-- where an entry is put, the blocks of its value count in place of those that its key had
blocks_put : (k : List ℕ) (v : Value) (es : Entries) → T (entries.is_sorted order es)
    → blocks_under (entries.put order k v es) + blocks_if (entries.find order k es) ≡ blocks_under es + blocks_of v
blocks_put k v [] sorted = let n = blocks_under-cons (k, v) [] in omega arith
blocks_put k v (e ∷ es) sorted =
    let parts = both_true (entries.below_all order e.0 es) (entries.is_sorted order es) sorted in
    let old = blocks_under-cons e es in
    elim (order k e.0) as (λ r. order k e.0 ≡ r → blocks_under (entries.by_order r ((k, v) ∷ e ∷ es) ((e.0, v) ∷ es) (e ∷ entries.put order k v es)) + blocks_if
    (cond (is_eq r) (Some e.1) (entries.find order k es)) ≡ blocks_under (e ∷ es) + blocks_of v) [
      | Less ↦ λ p.
          let new = blocks_under-cons (k, v) (e ∷ es) in
          let none = ap blocks_if (not_found k e.0 es p parts.0) in
          omega arith
      | Equal ↦ λ p. let new = blocks_under-cons (e.0, v) es in omega arith
      | Greater ↦ λ p.
          let new = blocks_under-cons e (entries.put order k v es) in
          let later = blocks_put k v es parts.1 in
          omega arith
    ] refl

-- ---- the laws

-- a key that has a value has another one, and a new key is one more
pub len-insert : (m : Properties) (k : List ℕ) (v : Value) → maps.len (maps.insert m k v) ≡ cond (maps.contains_key m k) (maps.len m) (maps.len m + 1)
len-insert m k v = maps.len-insert nat_list_cmp_total m k v

-- the blocks of the old value are given back, and those of the new one are taken
pub blocks_in-insert : (m : Properties) (k : List ℕ) (v : Value) → blocks_in (maps.insert m k v) + blocks_at m k ≡ blocks_in m + blocks_of v
blocks_in-insert m k v =
    let new = ap blocks_under (maps.entries-insert nat_list_cmp_total m k v) in
    let old = ap blocks_if (maps.get-entries m k) in
    let all = blocks_put k v (maps.entries m) (maps.entries_sorted m) in
    omega arith

-- only equal keys compare as equal
order_apart : maps.IsAntisymmetric order
order_apart = maps.slice_cmp-IsAntisymmetric maps.nat_cmp-IsAntisymmetric

-- a key that compares equal is the key
pub same_key : (q k : List ℕ) → eq_by_cmp order q k ≡ true → q ≡ k
same_key q k e = order_apart q k (equal (order q k) e)
  where
    equal : (r : Ordering) → is_eq r ≡ true → r ≡ Equal
    equal Less h = absurd cc
    equal Equal h = refl
    equal Greater h = absurd cc

-- no key comes twice among the entries
abbrev pub AreApart : List (List ℕ × Value) → Type 0
AreApart [] = Unit {0}
AreApart (e ∷ es) = (maps.find order e.0 es ≡ None) × AreApart es

-- a map of entries apart has as many
pub len-from_entries : (es : List (List ℕ × Value)) → AreApart es → maps.len (maps.from_entries {R = order} es) ≡ length es
len-from_entries [] apart = maps.len-empty order Value
len-from_entries (e ∷ es) apart =
    let none = maps.get-from_entries nat_list_cmp_total es e.0 ∙ apart.0 in
    let later = len-from_entries es apart.1 in
    let now = len-insert (maps.from_entries es) e.0 e.1 ∙ ap (λ o. cond (is_some o) (maps.len (maps.from_entries {R = order} es))
    (maps.len (maps.from_entries {R = order} es) + 1)) none in
    omega arith

-- no properties take no blocks
pub blocks_in-empty : blocks_in no_properties ≡ 0
blocks_in-empty = ap blocks_under (none (maps.entries no_properties) (sym (maps.len-entries no_properties) ∙ maps.len-empty order Value))
  where
    none : (es : Entries) → length es ≡ 0 → es ≡ []
    none [] h = refl
    none (e ∷ es) h = absurd (omega arith)

-- and its values take what the entries' take together
pub blocks_in-from_entries : (es : List (List ℕ × Value)) → AreApart es
    → blocks_in (maps.from_entries es) ≡ sum_by blocks_of (map (λ (e : List ℕ × Value). e.1) es)
blocks_in-from_entries [] apart = blocks_in-empty
blocks_in-from_entries (e ∷ es) apart =
    let none = ap blocks_if (maps.get-from_entries nat_list_cmp_total es e.0 ∙ apart.0) in
    let later = blocks_in-from_entries es apart.1 in
    let now = blocks_in-insert (maps.from_entries es) e.0 e.1 in
    let more = blocks_under-cons e es in
    omega arith
