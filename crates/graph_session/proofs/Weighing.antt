-- A transaction writes no more records than it weighs.
use Rattle.std.proofs.Common.{◌≡◌, ◌⊎◌, ⊎_elim, ◌∙◌, ℕ, ◌+◌, ◌≤◌, Bool, true, false, cond, Option, Some, is_some, List}
use Rattle.std.proofs.Common.{[], ◌∷◌, ◌++◌, length, inl, inr, refl, sym, ap, arith}
use mathlib.Core.Bool.{false≢true}
use Rattle.std.proofs.lemmas.List.{length-append}
use Rattle.plain_graph.specs.Changes.{start_weight}
use Rattle.rec_bytes.specs.Key.{key_eq}
use Rattle.rec_bytes.specs.Pairs.{IsOrdered, Pairs, find_pair, merged, with_pair}
use Rattle.rec_bytes.specs.Space.{IsAmong, State as Space}
use Rattle.rec_bytes.specs.declared.key.Key.{Key}
use Rattle.rec_bytes.specs.declared.record.Rec.{Rec}
use Rattle.rec_bytes.proofs.KeyLaws.{key_eq-same}
use Rattle.rec_bytes.proofs.PairLaws.{below_out, find_with, ordered_with}
use Rattle.store_rules.specs.Writes.{WritesAtMost, meta_keys}
use Rattle.store_rules.proofs.WriteLaws.{among_both, among_left, among_right}
use Rattle.graph_session.specs.SnapshotEffects.{AreWeighed}

-- ---- ordered pairs whose keys are among these are no more than those

-- the keys without one of them
record IsWithout (key : Key) (keys : List Key) : Type 0 where
  others : List Key
  one_less : length keys ≡ length others + 1
  each : (other : Key) → IsAmong other keys → ¬ (other ≡ key) → IsAmong other others

without-key : (key : Key) (keys : List Key) → IsAmong key keys → IsWithout key keys
without-key key [] is = absurd is
without-key key (x ∷ xs) (inl e) = record {
  others = xs;
  one_less = omega arith;
  each = λ other among differs. ⊎_elim (λ (same : other ≡ x). absurd (differs (same ∙ sym e))) (λ (later : IsAmong other xs). later) among;
}
without-key key (x ∷ xs) (inr later) =
    let found = without-key key xs later in
    record {
      others = x ∷ found.others;
      one_less = omega (arith, found.one_less);
      each = λ other among differs. ⊎_elim (λ (same : other ≡ x). inl same) (λ (more : IsAmong other xs). inr (found.each other more differs)) among;
    }

has-first : (key : Key) (rec : Rec) (rest : Pairs) → is_some (find_pair ((key, rec) ∷ rest) key) ≡ true
has-first key rec rest = ap (λ (t : Bool). is_some (cond t (Some rec) (find_pair rest key))) (key_eq-same key)

has-later : (t : Bool) (rec : Rec) (o : Option Rec) → is_some o ≡ true → is_some (cond t (Some rec) o) ≡ true
has-later true rec o h = refl
has-later false rec o h = h

pub length-within : (ps : Pairs) → IsOrdered ps → (keys : List Key) → ((key : Key) → is_some (find_pair ps key) ≡ true → IsAmong key keys)
    → length ps ≤ length keys
length-within [] rising keys each = omega arith
length-within (pair ∷ rest) rising keys each =
    let found = without-key pair.0 keys (each pair.0 (has-first pair.0 pair.1 rest)) in
    let more = length-within rest rising.1 found.others (λ key has.
    found.each key (each key (has-later (key_eq key pair.0) pair.1 (find_pair rest key) has))
    (λ is. false≢true (sym (ap is_some (below_out rest pair.0 rising.0)) ∙ ap (λ (k : Key). is_some (find_pair rest k)) (sym is) ∙ has))) in
    omega (arith, found.one_less, more)

-- ---- the records that a transaction has written

pub length-weighed : (written : Pairs) (weight : ℕ) → AreWeighed written weight → length written ≤ weight
length-weighed written weight h =
    let metas : length meta_keys ≡ 7 = refl in
    omega (arith, length-within written h.rising (h.keys ++ meta_keys) h.each, length-append h.keys meta_keys, metas, h.few)

pub weighed-start : AreWeighed [] start_weight
weighed-start = record { rising = tt; keys = []; few = omega arith; each = λ key has. absurd (false≢true has) }

ordered-merged : (ps other : Pairs) → IsOrdered ps → IsOrdered (merged ps other)
ordered-merged ps [] rising = rising
ordered-merged ps (pair ∷ rest) rising = ordered-merged (with_pair ps pair.0 pair.1) rest (ordered_with ps pair.0 pair.1 rising)

-- what is found in the one with the other is found in one of them
merged-has : (ps other : Pairs) (key : Key) → is_some (find_pair (merged ps other) key) ≡ true → (is_some (find_pair ps key) ≡ true)
    ⊎ (is_some (find_pair other key) ≡ true)
merged-has ps [] key has = inl has
merged-has ps (pair ∷ rest) key has = ⊎_elim
    (λ (found : is_some (find_pair (with_pair ps pair.0 pair.1) key) ≡ true).
    by (key_eq key pair.0) (find_pair ps key) (sym (ap is_some (find_with ps pair.0 pair.1 key)) ∙ found))
    (λ (found : is_some (find_pair rest key) ≡ true). inr (has-later (key_eq key pair.0) pair.1 (find_pair rest key) found))
    (merged-has (with_pair ps pair.0 pair.1) rest key has)
  where
    by : (t : Bool) (o : Option Rec) → is_some (cond t (Some pair.1) o) ≡ true → (is_some o ≡ true)
        ⊎ (is_some (cond t (Some pair.1) (find_pair rest key)) ≡ true)
    by true o h = inr refl
    by false o h = inl h

-- a draft of so many more records is taken into it
pub weighed-kept : (own draft : Pairs) (weight more : ℕ) (old new : Space) → AreWeighed own weight → ((key : Key) → old.written key ≡ false)
    → ((key : Key) → new.written key ≡ is_some (find_pair draft key)) → WritesAtMost more old new → AreWeighed (merged own draft) (weight + more)
weighed-kept own draft weight more old new h none drafted writes = record {
  rising = ordered-merged own draft h.rising;
  keys = h.keys ++ writes.keys;
  few = omega (arith, h.few, writes.few, length-append h.keys writes.keys);
  each = λ key has. ⊎_elim
      (λ (found : is_some (find_pair own key) ≡ true).
      among_both key h.keys meta_keys
      (λ among. among_left key (h.keys ++ writes.keys) meta_keys (among_left key h.keys writes.keys among))
      (λ among. among_right key (h.keys ++ writes.keys) meta_keys among) (h.each key found))
      (λ (found : is_some (find_pair draft key) ≡ true). ⊎_elim
      (λ (was : old.written key ≡ true). absurd (false≢true (sym (none key) ∙ was)))
      (λ (among : IsAmong key (writes.keys ++ meta_keys)).
      among_both key writes.keys meta_keys
      (λ own_key. among_left key (h.keys ++ writes.keys) meta_keys (among_right key h.keys writes.keys own_key))
      (λ meta. among_right key (h.keys ++ writes.keys) meta_keys meta) among)
      (writes.only.each key (drafted key ∙ found)))
      (merged-has own draft key has);
}
