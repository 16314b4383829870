-- What the calls of a disk in memory that keeps its calls do to its images, over the whole call.
use Rattle.std.proofs.Common.{◌≡◌, inl, inr, ⊎_elim, ℕ, ◌≤◌, List, [], ◌∷◌, ◌++◌, length, take, Result, Ok, Err, refl, sym, subst, arith, length-append}
use Rattle.std.specs.Prelude.{OnOk, OnErr}
use Rattle.std.proofs.lemmas.Bool.{cases_lt}
use Rattle.std.proofs.lemmas.List.{take-append-le}
use Rattle.std.proofs.Math.Nat.{le_refl}
use Rattle.std.proofs.Math.Seq.{take-length}
use Rattle.fault_count.specs.Cause.{raised}
use Rattle.disk_model.specs.Contents.{Files, Same, SameOutside}
use Rattle.disk_model.specs.Disk.{TornIn, NoMore, Settled, Elapses}
use Rattle.disk_model.specs.PlainDisk.{contents}
use Rattle.disk_model.specs.Calls.{Call, Wrote, Tore, Synced, Allows}
use Rattle.disk_model.specs.MemoryDisk.{MemoryDiskState, content_of, MayLeave, LeftSince, IsAfterFailedWrite}
use Rattle.disk_model.proofs.Images.{Reaches-wrote, Reaches-tore, TornIn-push, SameOutside-push, NoMore-synced, Settled-synced, content-synced}

-- the images of some moment since t calls were kept
abbrev pub Since : Files → Files → List Call → ℕ → Files → Type 0
Since base pokes calls t image = (k : ℕ) × (t ≤ k) × (k ≤ length calls) × Allows base pokes (take k calls) image

pub Elapses-same : (base pokes : Files) (calls : List Call) → Elapses (length calls) (length calls) (Since base pokes calls) (Since base pokes calls)
    (Allows base pokes calls)
Elapses-same base pokes calls = record { later = le_refl (length calls); nothing_else = λ t image early since. inl since; keeps = λ t image early past. past }

pub Elapses-push : (base pokes : Files) (calls : List Call) (call : Call)
    → Elapses (length calls) (length (calls ++ call ∷ [])) (Since base pokes calls) (Since base pokes (calls ++ call ∷ []))
    (Allows base pokes (calls ++ call ∷ []))
Elapses-push base pokes calls call =
    let more = length-append calls (call ∷ []) in
    record {
      later = omega (arith, more);
      nothing_else = λ t image early since. ⊎_elim
          (λ last.
          let is_now : since.0 ≡ length (calls ++ call ∷ []) = omega (arith, more, since.2, last) in
          inr (subst (λ cs. Allows base pokes cs image) (take-length (calls ++ call ∷ [])) (subst (λ k. Allows base pokes (take k (calls ++ call ∷ [])) image)
          is_now since.3)))
          (λ before. inl (since.0, since.1, before, subst (λ cs. Allows base pokes cs image) (take-append-le since.0 calls (call ∷ []) before) since.3))
          (cases_lt (length calls) since.0);
      keeps = λ t image early past.
          let within : past.0 ≤ length (calls ++ call ∷ []) = omega (arith, more, past.2) in
          (past.0, past.1, within, subst (λ cs. Allows base pokes cs image) (sym (take-append-le past.0 calls (call ∷ []) past.2)) past.3);
    }

-- a fact that holds after each outcome of a write
after_write : {T E : Type 0} (P : MemoryDiskState → Type 0) (result : Result T E) (old new : MemoryDiskState) (file at : ℕ) (bytes : List ℕ)
    → OnOk result (new ≡ record old { calls = old.calls ++ Wrote file at bytes ∷ []; made = raised old.made })
    → OnErr result (IsAfterFailedWrite old file at (length bytes) new)
    → P (record old { calls = old.calls ++ Wrote file at bytes ∷ []; made = raised old.made })
    → P (record old { calls = old.calls ++ Tore file at (length bytes) ∷ []; made = raised old.made; faults = raised old.faults })
    → P (record old { made = raised old.made; faults = raised old.faults })
    → P new
after_write P (Ok x) old new file at bytes ok err wrote tore kept = subst P (sym ok) wrote
after_write P (Err e) old new file at bytes ok err wrote tore kept = ⊎_elim (λ torn. subst P (sym torn.3) tore) (λ same. subst P (sym same.1) kept) err

pub crash-write : {T E : Type 0} (result : Result T E) (old new : MemoryDiskState) (file at : ℕ) (bytes : List ℕ)
    → OnOk result (new ≡ record old { calls = old.calls ++ Wrote file at bytes ∷ []; made = raised old.made })
    → OnErr result (IsAfterFailedWrite old file at (length bytes) new)
    → TornIn file at (length bytes) (MayLeave old) (MayLeave new)
crash-write result old new file at bytes ok err =
    after_write (λ disk. TornIn file at (length bytes) (MayLeave old) (MayLeave disk)) result old new file at bytes ok err
    (TornIn-push (contents old.base) (contents old.pokes) old.calls (Wrote file at bytes) file at (length bytes) (Reaches-wrote file at bytes))
    (TornIn-push (contents old.base) (contents old.pokes) old.calls (Tore file at (length bytes)) file at (length bytes) (Reaches-tore file at (length bytes)))
    (λ image leaves. (image, leaves, λ other place out. refl))

pub elsewhere-write : {T E : Type 0} (result : Result T E) (old new : MemoryDiskState) (file at : ℕ) (bytes : List ℕ)
    → OnOk result (new ≡ record old { calls = old.calls ++ Wrote file at bytes ∷ []; made = raised old.made })
    → OnErr result (IsAfterFailedWrite old file at (length bytes) new)
    → SameOutside file at (length bytes) (content_of old) (content_of new)
elsewhere-write result old new file at bytes ok err =
    after_write (λ disk. SameOutside file at (length bytes) (content_of old) (content_of disk)) result old new file at bytes ok err
    (SameOutside-push (contents old.base) (contents old.pokes) old.calls (Wrote file at bytes) file at (length bytes) (Reaches-wrote file at bytes))
    (SameOutside-push (contents old.base) (contents old.pokes) old.calls (Tore file at (length bytes)) file at (length bytes)
    (Reaches-tore file at (length bytes)))
    (λ other place out. refl)

pub time-write : {T E : Type 0} (result : Result T E) (old new : MemoryDiskState) (file at : ℕ) (bytes : List ℕ)
    → OnOk result (new ≡ record old { calls = old.calls ++ Wrote file at bytes ∷ []; made = raised old.made })
    → OnErr result (IsAfterFailedWrite old file at (length bytes) new)
    → Elapses (length old.calls) (length new.calls) (LeftSince old) (LeftSince new) (MayLeave new)
time-write result old new file at bytes ok err =
    after_write (λ disk. Elapses (length old.calls) (length disk.calls) (LeftSince old) (LeftSince disk) (MayLeave disk)) result old new file at bytes ok err
    (Elapses-push (contents old.base) (contents old.pokes) old.calls (Wrote file at bytes))
    (Elapses-push (contents old.base) (contents old.pokes) old.calls (Tore file at (length bytes)))
    (Elapses-same (contents old.base) (contents old.pokes) old.calls)

-- a fact that holds after each outcome of a sync
after_sync : {T E : Type 0} (P : MemoryDiskState → Type 0) (result : Result T E) (old new : MemoryDiskState) (file : ℕ)
    → OnOk result (new ≡ record old { calls = old.calls ++ Synced file ∷ []; made = raised old.made })
    → OnErr result (new ≡ record old { made = raised old.made; faults = raised old.faults })
    → P (record old { calls = old.calls ++ Synced file ∷ []; made = raised old.made })
    → P (record old { made = raised old.made; faults = raised old.faults })
    → P new
after_sync P (Ok x) old new file ok err synced kept = subst P (sym ok) synced
after_sync P (Err e) old new file ok err synced kept = subst P (sym err) kept

pub keeps-sync : {T E : Type 0} (result : Result T E) (old new : MemoryDiskState) (file : ℕ)
    → OnOk result (new ≡ record old { calls = old.calls ++ Synced file ∷ []; made = raised old.made })
    → OnErr result (new ≡ record old { made = raised old.made; faults = raised old.faults })
    → Same (content_of old) (content_of new)
keeps-sync result old new file ok err =
    after_sync (λ disk. Same (content_of old) (content_of disk)) result old new file ok err
    (content-synced (contents old.base) (contents old.pokes) old.calls file)
    (λ other place. refl)

pub crash-sync : {T E : Type 0} (result : Result T E) (old new : MemoryDiskState) (file : ℕ)
    → OnOk result (new ≡ record old { calls = old.calls ++ Synced file ∷ []; made = raised old.made })
    → OnErr result (new ≡ record old { made = raised old.made; faults = raised old.faults })
    → NoMore (MayLeave old) (MayLeave new)
crash-sync result old new file ok err =
    after_sync (λ disk. NoMore (MayLeave old) (MayLeave disk)) result old new file ok err
    (NoMore-synced (contents old.base) (contents old.pokes) old.calls file)
    (λ image leaves. leaves)

pub time-sync : {T E : Type 0} (result : Result T E) (old new : MemoryDiskState) (file : ℕ)
    → OnOk result (new ≡ record old { calls = old.calls ++ Synced file ∷ []; made = raised old.made })
    → OnErr result (new ≡ record old { made = raised old.made; faults = raised old.faults })
    → Elapses (length old.calls) (length new.calls) (LeftSince old) (LeftSince new) (MayLeave new)
time-sync result old new file ok err =
    after_sync (λ disk. Elapses (length old.calls) (length disk.calls) (LeftSince old) (LeftSince disk) (MayLeave disk)) result old new file ok err
    (Elapses-push (contents old.base) (contents old.pokes) old.calls (Synced file))
    (Elapses-same (contents old.base) (contents old.pokes) old.calls)

pub settled-sync : {T E : Type 0} (result : Result T E) (old new : MemoryDiskState) (file : ℕ)
    → OnOk result (new ≡ record old { calls = old.calls ++ Synced file ∷ []; made = raised old.made })
    → OnOk result (Settled file (content_of old) (MayLeave new))
settled-sync (Ok x) old new file ok = subst (λ disk. Settled file (content_of old) (MayLeave disk)) (sym ok)
    (Settled-synced (contents old.base) (contents old.pokes) old.calls file)
settled-sync (Err e) old new file ok = tt
