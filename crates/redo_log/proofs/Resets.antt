-- What closing the first gate leaves of the entries.
use Rattle.std.proofs.Common.{◌≡◌, ◌≢◌, ◌∙◌, ap, sym, inl, inr, ⊎_elim, ℕ, List, [], ◌∷◌, refl, arith}
use Rattle.std.proofs.lemmas.Bool.{cases_eq}
use Rattle.disk_model.specs.Contents.{Files}
use Rattle.rec_bytes.specs.Format.{log_file}
use Rattle.rec_bytes.specs.Pairs.{Pairs}
use Rattle.redo_log.specs.Entries.{AllHaveEntries, HasEntries}
use Rattle.redo_log.specs.Resetting.{HasEntriesOrNone, IsReset, SameButGate}
use Rattle.redo_log.proofs.Appends.{HasEntries-read}

-- of two logs with the same entries both begin with an open gate, or none
pub first_gate : (entries : List Pairs) (tail : ℕ) (a b : Files) → HasEntries a entries tail → HasEntries b entries tail → a log_file 0 ≡ 1 → b log_file 0 ≡ 1
first_gate [] tail a b has_a has_b is_open = absurd (has_a.1 is_open)
first_gate (entry ∷ later) tail a b has_a has_b is_open = has_b.0.open_gate

-- a closed first gate leaves none
pub HasEntries-closed : (content : Files) → content log_file 0 ≢ 1 → HasEntries content [] 0
HasEntries-closed content closed = (refl, closed)

-- whatever the first gate is after a change of it, the log has the old entries or none
pub HasEntries-gate : (entries : List Pairs) (tail : ℕ) (old new : Files) → HasEntries old entries tail → old log_file 0 ≡ 1 → SameButGate old new
    → HasEntriesOrNone new entries tail
HasEntries-gate entries tail old new has was_open same =
    ⊎_elim
    (λ is_open. inl (HasEntries-read entries tail old new has (λ place. ⊎_elim
    (λ first. ap (new log_file) first ∙ is_open ∙ sym was_open ∙ ap (old log_file) (sym first))
    (λ after. same log_file place (λ within. after (omega (arith, within.before_end))))
    (cases_eq place 0))))
    (λ closed. inr (HasEntries-closed new closed))
    (cases_eq (new log_file 0) 1)

-- nothing was done
pub IsReset-none : (images : Files → Type 0) (entries : List Pairs) (tail : ℕ) → AllHaveEntries images entries tail → (image : Files) → images image
    → IsReset images entries tail image
IsReset-none images entries tail all image left = record {
  old = image;
  was_left = left;
  elsewhere = λ file place out. refl;
  entries_are = inl (all image left);
}

-- the first gate was open in what is read, and may be anything now
pub IsReset-torn : (images : Files → Type 0) (entries : List Pairs) (tail : ℕ) (read old new : Files) → AllHaveEntries images entries tail
    → HasEntries read entries tail → read log_file 0 ≡ 1 → images old → SameButGate old new
    → IsReset images entries tail new
IsReset-torn images entries tail read old new all has is_open was same = record {
  old = old;
  was_left = was;
  elsewhere = same;
  entries_are = HasEntries-gate entries tail old new (all old was) (first_gate entries tail read old has (all old was) is_open) same;
}
