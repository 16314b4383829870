-- A log is read entry by entry, up to its end or to damage; damage and an end are never both.
use Rattle.std.proofs.Common.{◌≡◌, ◌≢◌, ◌∙◌, ap, sym, subst, ℕ, ◌+◌, List, [], ◌∷◌, ◌++◌, length, refl}
use Rattle.disk_model.specs.Contents.{Files}
use Rattle.rec_bytes.specs.Format.{log_file}
use Rattle.rec_bytes.specs.Pairs.{Pairs}
use Rattle.redo_log.specs.Entries.{HasEntries, HasEntriesFrom, HasEntriesUpTo, IsDamaged, IsDamagedLog, IsEntry, entry_at, entry_bytes}

HasEntriesFrom-damaged : (entries before : List Pairs) (place tail damage : ℕ) (content : Files) → HasEntriesFrom place content entries tail
    → HasEntriesUpTo place content before damage
    → IsDamaged content damage → ⊥
HasEntriesFrom-damaged [] [] place tail damage content has upto damaged = has.1 (ap (content log_file) upto ∙ damaged.0)
HasEntriesFrom-damaged [] (other ∷ others) place tail damage content has upto damaged = has.1 upto.0.open_gate
HasEntriesFrom-damaged (entry ∷ later) [] place tail damage content has upto damaged = damaged.1 (subst (IsEntry content) upto has.0)
HasEntriesFrom-damaged (entry ∷ later) (other ∷ others) place tail damage content has upto damaged =
    let same : other ≡ entry = sym upto.1 ∙ has.1 in
    let rest = subst (λ (writes : Pairs). HasEntriesUpTo (place + entry_bytes (length writes)) content others damage) same upto.2 in
    HasEntriesFrom-damaged later others (place + entry_bytes (length entry)) tail damage content has.2 rest damaged

-- a damaged log has no list of entries
pub HasEntries-damaged : (entries : List Pairs) (tail damage : ℕ) (content : Files) → HasEntries content entries tail → IsDamagedLog content damage → ⊥
HasEntries-damaged entries tail damage content has log = HasEntriesFrom-damaged entries log.entries 0 tail damage content has log.before log.damaged

-- one more entry
pub HasEntriesUpTo-more : (entries : List Pairs) (place end : ℕ) (content : Files) → HasEntriesUpTo place content entries end → IsEntry content end
    → HasEntriesUpTo place content (entries ++ entry_at content end ∷ []) (end + entry_bytes (length (entry_at content end)))
HasEntriesUpTo-more [] place end content upto entry =
    subst (λ (p : ℕ). HasEntriesUpTo p content (entry_at content end ∷ []) (end + entry_bytes (length (entry_at content end)))) (sym upto) (entry, refl, refl)
HasEntriesUpTo-more (first ∷ later) place end content upto entry =
    (upto.0, upto.1, HasEntriesUpTo-more later (place + entry_bytes (length first)) end content upto.2 entry)

-- entries up to a closed gate are the log's
pub HasEntriesUpTo-closed : (entries : List Pairs) (place end : ℕ) (content : Files) → HasEntriesUpTo place content entries end → content log_file end ≢ 1
    → HasEntriesFrom place content entries end
HasEntriesUpTo-closed [] place end content upto closed = (upto, subst (λ (p : ℕ). content log_file p ≢ 1) (sym upto) closed)
HasEntriesUpTo-closed (entry ∷ later) place end content upto closed =
    (upto.0, upto.1, HasEntriesUpTo-closed later (place + entry_bytes (length entry)) end content upto.2 closed)
