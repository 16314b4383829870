-- Marks of keys stay set for what the layers have.
use Rattle.std.proofs.Common.{◌≡◌, ◌⊎◌, inl, inr, ℕ, Bool, true, false, cond, nat_eq, List, [], ◌∷◌, ◌++◌, Option, Some, None, is_some, refl, ap, sym, ◌∙◌}
use mathlib.Core.Bool.{false≢true}
use Rattle.std.specs.Option.{option_or}
use Rattle.rec_bytes.specs.declared.record.Rec.{Rec}
use Rattle.rec_bytes.specs.declared.key.Key.{Key}
use Rattle.rec_bytes.specs.Key.{key_eq}
use Rattle.rec_bytes.specs.Pairs.{IsOrdered, find_pair, merged, with_pair}
use Rattle.rec_bytes.proofs.KeyLaws.{key_eq_true}
use Rattle.rec_bytes.proofs.PairLaws.{find_with, find_merged}
use Rattle.snap_store.proofs.LayerLaws.{or_some, some_left}
use Rattle.snap_store.specs.Layers.{Layer, Layers, AreRising, from, joined, kept_at, released, released_behind, with_kept}
use Rattle.snap_store.specs.Marks.{AreMarked, may_have}

-- each key that these layers have is one that those have
abbrev pub HasOnly : Layers → Layers → Type 0
HasOnly new old = (q : Key) → is_some (kept_at new q) ≡ true → is_some (kept_at old q) ≡ true

-- an option over another is there where one of them is
either : {X : Type 0} (a b : Option X) → is_some (option_or a b) ≡ true → (is_some a ≡ true) ⊎ (is_some b ≡ true)
either (Some x) b h = inl refl
either None b h = inr h

-- a layer more before both
kept_cons : (layer : Layer) (new old : Layers) → HasOnly new old → HasOnly (layer ∷ new) (layer ∷ old)
kept_cons layer new old only q h = by (either (find_pair layer.kept q) (kept_at new q) h)
  where
    by : (is_some (find_pair layer.kept q) ≡ true) ⊎ (is_some (kept_at new q) ≡ true) → is_some (kept_at (layer ∷ old) q) ≡ true
    by (inl own) = some_left (find_pair layer.kept q) (kept_at old q) own
    by (inr later) = or_some (find_pair layer.kept q) (kept_at old q) (only q later)

-- marks of layers are those of layers that have no more keys
pub marked_less : (marks : List Bool) (new old : Layers) → HasOnly new old → AreMarked marks old → AreMarked marks new
marked_less marks new old only marked q h = marked q (only q h)

pub only_younger : (layer : Layer) (younger : Layers) → HasOnly younger (layer ∷ younger)
only_younger layer younger q h = or_some (find_pair layer.kept q) (kept_at younger q) h

pub only_from : (reader : ℕ) (layers : Layers) → HasOnly (from reader layers) layers
only_from reader [] q h = h
only_from reader (layer ∷ younger) q h = by (nat_eq reader layer.reader) (only_from reader younger) h
  where
    by : (t : Bool) → HasOnly (from reader younger) younger
        → is_some (kept_at (cond t (layer ∷ younger) (from reader younger)) q) ≡ true → is_some (kept_at (layer ∷ younger) q) ≡ true
    by true later h = h
    by false later h = only_younger layer younger q (later q h)

-- a new layer has no key
pub only_taken : (layers : Layers) (reader : ℕ) → HasOnly (layers ++ record { reader = reader; kept = [] } ∷ []) layers
only_taken [] reader q h = h
only_taken (layer ∷ younger) reader q h = kept_cons layer (younger ++ record { reader = reader; kept = [] } ∷ []) younger (only_taken younger reader) q h

-- joined layers have the keys of both
only_joined : (older layer : Layer) (younger : Layers) → IsOrdered older.kept → HasOnly (joined older layer ∷ younger) (older ∷ layer ∷ younger)
only_joined older layer younger rising q h =
    by (either (find_pair (merged layer.kept older.kept) q) (kept_at younger q) h)
  where
    both : (is_some (find_pair older.kept q) ≡ true) ⊎ (is_some (find_pair layer.kept q) ≡ true) → is_some (kept_at (older ∷ layer ∷ younger) q) ≡ true
    both (inl own) = some_left (find_pair older.kept q) (kept_at (layer ∷ younger) q) own
    both (inr next) = or_some (find_pair older.kept q) (kept_at (layer ∷ younger) q) (some_left (find_pair layer.kept q) (kept_at younger q) next)

    by : (is_some (find_pair (merged layer.kept older.kept) q) ≡ true) ⊎ (is_some (kept_at younger q) ≡ true)
        → is_some (kept_at (older ∷ layer ∷ younger) q) ≡ true
    by (inl one) = both (either (find_pair older.kept q) (find_pair layer.kept q) (ap is_some (sym (find_merged layer.kept older.kept q rising)) ∙ one))
    by (inr later) = or_some (find_pair older.kept q) (kept_at (layer ∷ younger) q) (or_some (find_pair layer.kept q) (kept_at younger q) later)

only_released_behind : (reader : ℕ) (older : Layer) (layers : Layers) → AreRising (older ∷ layers)
    → HasOnly (released_behind reader older layers) (older ∷ layers)
only_released_behind reader older [] rising q h = h
only_released_behind reader older (layer ∷ younger) rising q h = by (nat_eq reader layer.reader) (only_released_behind reader layer younger rising.1) h
  where
    by : (t : Bool) → HasOnly (released_behind reader layer younger) (layer ∷ younger)
        → is_some (kept_at (cond t (joined older layer ∷ younger) (older ∷ released_behind reader layer younger)) q) ≡ true
        → is_some (kept_at (older ∷ layer ∷ younger) q) ≡ true
    by true later h = only_joined older layer younger rising.0 q h
    by false later h = kept_cons older (released_behind reader layer younger) (layer ∷ younger) later q h

pub only_released : (reader : ℕ) (layers : Layers) → AreRising layers → HasOnly (released reader layers) layers
only_released reader [] rising q h = h
only_released reader (layer ∷ younger) rising q h = by (nat_eq reader layer.reader) h
  where
    by : (t : Bool) → is_some (kept_at (cond t younger (released_behind reader layer younger)) q) ≡ true → is_some (kept_at (layer ∷ younger) q) ≡ true
    by true h = only_younger layer younger q h
    by false h = only_released_behind reader layer younger rising q h

-- one key more
with_kept_has : (layers : Layers) (key : Key) (rec : Rec) (q : Key) → is_some (kept_at (with_kept layers key rec) q) ≡ true
    → (q ≡ key) ⊎ (is_some (kept_at layers q) ≡ true)
with_kept_has [] key rec q h = inr h
with_kept_has (layer ∷ []) key rec q h = by (either (find_pair (with_pair layer.kept key rec) q) (kept_at [] q) h)
  where
    held : (t : Bool) (o : Option Rec) → (t ≡ true → q ≡ key) → is_some (cond t (Some rec) o) ≡ true → (q ≡ key) ⊎ (is_some o ≡ true)
    held true o same h = inl (same refl)
    held false o same h = inr h

    more : (q ≡ key) ⊎ (is_some (find_pair layer.kept q) ≡ true) → (q ≡ key) ⊎ (is_some (kept_at (layer ∷ []) q) ≡ true)
    more (inl same) = inl same
    more (inr own) = inr (some_left (find_pair layer.kept q) None own)

    by : (is_some (find_pair (with_pair layer.kept key rec) q) ≡ true) ⊎ (is_some (kept_at [] q) ≡ true) → (q ≡ key) ⊎ (is_some (kept_at (layer ∷ []) q) ≡ true)
    by (inl own) = more (held (key_eq q key) (find_pair layer.kept q) (λ t. key_eq_true q key t) (ap is_some (sym (find_with layer.kept key rec q)) ∙ own))
    by (inr none) = absurd (false≢true none)
with_kept_has (layer ∷ next ∷ younger) key rec q h =
    by (with_kept_has (next ∷ younger) key rec q) (either (find_pair layer.kept q) (kept_at (with_kept (next ∷ younger) key rec) q) h)
  where
    more : (q ≡ key) ⊎ (is_some (kept_at (next ∷ younger) q) ≡ true) → (q ≡ key) ⊎ (is_some (kept_at (layer ∷ next ∷ younger) q) ≡ true)
    more (inl same) = inl same
    more (inr later) = inr (or_some (find_pair layer.kept q) (kept_at (next ∷ younger) q) later)

    by : (is_some (kept_at (with_kept (next ∷ younger) key rec) q) ≡ true → (q ≡ key) ⊎ (is_some (kept_at (next ∷ younger) q) ≡ true))
        → (is_some (find_pair layer.kept q) ≡ true) ⊎ (is_some (kept_at (with_kept (next ∷ younger) key rec) q) ≡ true)
        → (q ≡ key) ⊎ (is_some (kept_at (layer ∷ next ∷ younger) q) ≡ true)
    by has (inl own) = inr (some_left (find_pair layer.kept q) (kept_at (next ∷ younger) q) own)
    by has (inr later) = more (has later)

pub marked_more : (old new : List Bool) (layers : Layers) (key : Key) (rec : Rec) → AreMarked old layers → may_have new key ≡ true
    → ((other : Key) → may_have old other ≡ true → may_have new other ≡ true) → AreMarked new (with_kept layers key rec)
marked_more old new layers key rec marked own others q h = by (with_kept_has layers key rec q h)
  where
    by : (q ≡ key) ⊎ (is_some (kept_at layers q) ≡ true) → may_have new q ≡ true
    by (inl same) = ap (may_have new) same ∙ own
    by (inr had) = others q (marked q had)
