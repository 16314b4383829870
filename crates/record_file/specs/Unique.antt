-- A content has one list of entries, so what is said of them is a proposition: a struct's ghost
-- field may hold it.
use Rattle.std.proofs.Common.{◌≡◌, ◌∙◌, ap, sym, subst, ℕ, ◌+◌, List, [], ◌∷◌, length, refl}
use Rattle.std.proofs.Props.{props}
use mathlib.Core.HLevel.{is_prop→PathP}
use Rattle.std.specs.List.{AllByRecursion}
use Rattle.std.specs.Ordering.{Ordering-set}
use Rattle.disk_model.specs.Contents.{Files}
use Rattle.rec_bytes.specs.declared.key.Key.{Key}
use Rattle.rec_bytes.specs.declared.record.Rec.{Rec}
use Rattle.rec_bytes.specs.Key.{IsKey}
use Rattle.rec_bytes.specs.Pairs.{Pairs, IsBelow, IsOrdered, find_pair}
use Rattle.redo_log.specs.Entries.{HasEntries, HasEntriesFrom, IsEntry, entry_bytes}
use Rattle.redo_log.specs.Redo.{redone}
use Rattle.record_file.specs.Records.{record_at}
use Rattle.record_file.specs.Redone.{AreAlike, IsLogged, Redoes, last_of}

pub entries_unique : (a b : List Pairs) (place s t : ℕ) (content : Files)
    → HasEntriesFrom place content a s → HasEntriesFrom place content b t → a ≡ b
entries_unique [] [] place s t content h k = refl
entries_unique [] (e ∷ l) place s t content h k = absurd (h.1 k.0.open_gate)
entries_unique (e ∷ l) [] place s t content h k = absurd (k.1 h.0.open_gate)
entries_unique (d ∷ l) (e ∷ m) place s t content h k =
    let same : d ≡ e = sym h.1 ∙ k.1 in
    let rest : l ≡ m =
    entries_unique l m (place + entry_bytes (length d)) s t content h.2
    (subst (λ (x : Pairs). HasEntriesFrom (place + entry_bytes (length x)) content m t)
    (sym same) k.2) in
    ap (λ (x : Pairs). x ∷ l) same ∙ ap (λ (x : List Pairs). e ∷ x) rest

-- so it redoes to one space
pub Redoes-unique : (content : Files) (a b : Key → Rec) → Redoes content a → Redoes content b
    → a ≡ b
Redoes-unique content a b one other =
    sym one.makes ∙ ap (λ (entries : List Pairs). redone (record_at content) entries)
    (entries_unique one.entries other.entries 0 one.tail other.tail content one.log other.log) ∙
    other.makes

below_prop : (key : Key) (ps : Pairs) → IsProp (IsBelow key ps)
below_prop key [] = hlevel
below_prop key (pair ∷ rest) = hlevel (Ordering-set, below_prop key rest)

ordered_prop : (ps : Pairs) → IsProp (IsOrdered ps)
ordered_prop [] = hlevel
ordered_prop (pair ∷ rest) = hlevel (below_prop pair.0 rest, ordered_prop rest)

pub keys_prop : (ps : Pairs) → IsProp (AllByRecursion (λ (w : Key × Rec). IsKey w.0) ps)
keys_prop [] = hlevel
keys_prop (pair ∷ rest) = hlevel (props, keys_prop rest)

entry_prop : (content : Files) (place : ℕ) → IsProp (IsEntry content place)
entry_prop content place = hlevel (props, keys_prop, ordered_prop)

has_prop : (entries : List Pairs) (place tail : ℕ) (content : Files)
    → IsProp (HasEntriesFrom place content entries tail)
has_prop [] place tail content = hlevel props
has_prop (e ∷ l) place tail content = hlevel (props, entry_prop, has_prop l)

changes_prop : (changed : Pairs) (entries : List Pairs)
    → IsProp ((key : Key) → find_pair changed key ≡ last_of entries key)
changes_prop changed entries = hlevel props

pub IsLogged-prop : (content : Files) (changed : Pairs) (tail : ℕ)
    → IsProp (IsLogged content changed tail)
IsLogged-prop content changed tail a b =
    let same : a.entries ≡ b.entries =
    entries_unique a.entries b.entries 0 tail tail content a.log b.log in
    λ i. record {
      entries = same i;
      log =
          is_prop→PathP (λ j. HasEntries content (same j) tail)
          (λ j. has_prop (same j) 0 tail content) a.log b.log i;
      changes =
          is_prop→PathP (λ j. (key : Key) → find_pair changed key ≡ last_of (same j) key)
          (λ j. changes_prop changed (same j)) a.changes b.changes i;
    }

pub AreAlike-prop : (content : Files) (changed : Pairs) (images : Files → Type 0)
    → IsProp (AreAlike content changed images)
AreAlike-prop content changed images = hlevel props
