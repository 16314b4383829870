-- The log of kept calls as one more call is kept.
use Rattle.std.proofs.Common.{◌≡◌, ℕ, ◌+◌, ◌≤◌, List, [], ◌∷◌, ◌++◌, length, take, drop, ap, ◌∙◌, refl, arith, length-append}
use Rattle.std.specs.List.{AllByRecursion}
use Rattle.std.proofs.lemmas.Grind.{common_steps}
use Rattle.std.proofs.lemmas.List.{map-append, append-nil}
use Rattle.disk_model.specs.declared.call_log.KeptCall.{KeptCall}
use Rattle.disk_model.specs.declared.call_log.KeptCall.TheVariants as kept
use Rattle.disk_model.specs.Calls.{Call, Wrote, Tore, Synced, bytes_kept}
use Rattle.disk_model.specs.CallLog.{call_of, calls_of, IsKeptWithin, IsLog}
use Rattle.disk_model.specs.Contents.{IsFile}

part-more : (bytes more : List ℕ) (start len : ℕ) → start + len ≤ length bytes → take len (drop start (bytes ++ more)) ≡ take len (drop start bytes)
part-more bytes more start len within = grind (arith, common_steps)

-- more bytes change no call
call_of-more : (bytes more : List ℕ) (call : KeptCall) → IsKeptWithin (length bytes) call → call_of (bytes ++ more) call ≡ call_of bytes call
call_of-more bytes more (kept.Wrote file at start len) within = ap (Wrote file at) (part-more bytes more start len within.1)
call_of-more bytes more (kept.Tore file at len) within = refl
call_of-more bytes more (kept.Synced file) within = refl

calls_of-more : (bytes more : List ℕ) (calls : List KeptCall) → AllByRecursion (IsKeptWithin (length bytes)) calls
    → calls_of calls (bytes ++ more) ≡ calls_of calls bytes
calls_of-more bytes more [] within = refl
calls_of-more bytes more (call ∷ calls) within = let head = call_of-more bytes more call within.0 in let rest = calls_of-more bytes more calls within.1 in cc

IsKeptWithin-more : (n m : ℕ) (call : KeptCall) → n ≤ m → IsKeptWithin n call → IsKeptWithin m call
IsKeptWithin-more n m (kept.Wrote file at start len) le within = (within.0, omega arith)
IsKeptWithin-more n m (kept.Tore file at len) le within = within
IsKeptWithin-more n m (kept.Synced file) le within = within

within-push : (n m : ℕ) (calls : List KeptCall) (call : KeptCall) → n ≤ m → AllByRecursion (IsKeptWithin n) calls → IsKeptWithin m call
    → AllByRecursion (IsKeptWithin m) (calls ++ call ∷ [])
within-push n m [] call le before new = (new, tt)
within-push n m (first ∷ calls) call le before new = (IsKeptWithin-more n m first le before.0, within-push n m calls call le before.1 new)

bytes_kept-push : (calls : List Call) (call : Call) → bytes_kept (calls ++ call ∷ []) ≡ bytes_kept calls + bytes_kept (call ∷ [])
bytes_kept-push [] call = omega arith
bytes_kept-push (Wrote file at bytes ∷ calls) call = omega (arith, bytes_kept-push calls call)
bytes_kept-push (Tore file at len ∷ calls) call = bytes_kept-push calls call
bytes_kept-push (Synced file ∷ calls) call = bytes_kept-push calls call

calls_of-push : (bytes : List ℕ) (calls : List KeptCall) (call : KeptCall)
    → calls_of (calls ++ call ∷ []) bytes ≡ calls_of calls bytes ++ call_of bytes call ∷ []
calls_of-push bytes calls call = map-append (call_of bytes) calls (call ∷ [])

last-part : (bytes more : List ℕ) → take (length more) (drop (length bytes) (bytes ++ more)) ≡ more
last-part bytes more = grind (arith, common_steps, append-nil)

-- a write more
pub calls_of-wrote : (calls : List KeptCall) (bytes more : List ℕ) (file at : ℕ) → IsLog calls bytes
    → calls_of (calls ++ kept.Wrote file at (length bytes) (length more) ∷ []) (bytes ++ more) ≡ calls_of calls bytes ++ Wrote file at more ∷ []
calls_of-wrote calls bytes more file at log =
    calls_of-push (bytes ++ more) calls (kept.Wrote file at (length bytes) (length more))
    ∙ ap (λ cs. cs ++ Wrote file at (take (length more) (drop (length bytes) (bytes ++ more))) ∷ []) (calls_of-more bytes more calls log.within)
    ∙ ap (λ part. calls_of calls bytes ++ Wrote file at part ∷ []) (last-part bytes more)

pub IsLog-wrote : (calls : List KeptCall) (bytes more : List ℕ) (file at : ℕ) → IsFile file → IsLog calls bytes
    → IsLog (calls ++ kept.Wrote file at (length bytes) (length more) ∷ []) (bytes ++ more)
IsLog-wrote calls bytes more file at known log = record {
  within = within-push (length bytes) (length (bytes ++ more)) calls (kept.Wrote file at (length bytes) (length more)) (omega (arith, length-append bytes more))
      log.within (known, omega (arith, length-append bytes more));
  count = ap bytes_kept (calls_of-wrote calls bytes more file at log) ∙ bytes_kept-push (calls_of calls bytes) (Wrote file at more)
      ∙ omega (arith, log.count, length-append bytes more);
}

-- a failed write or a sync more
pub IsLog-tore : (calls : List KeptCall) (bytes : List ℕ) (file at len : ℕ) → IsFile file → IsLog calls bytes
    → IsLog (calls ++ kept.Tore file at len ∷ []) bytes
IsLog-tore calls bytes file at len known log = record {
  within = within-push (length bytes) (length bytes) calls (kept.Tore file at len) (omega arith) log.within known;
  count = ap bytes_kept (calls_of-push bytes calls (kept.Tore file at len)) ∙ bytes_kept-push (calls_of calls bytes) (Tore file at len)
      ∙ omega (arith, log.count);
}

pub IsLog-synced : (calls : List KeptCall) (bytes : List ℕ) (file : ℕ) → IsFile file → IsLog calls bytes → IsLog (calls ++ kept.Synced file ∷ []) bytes
IsLog-synced calls bytes file known log = record {
  within = within-push (length bytes) (length bytes) calls (kept.Synced file) (omega arith) log.within known;
  count = ap bytes_kept (calls_of-push bytes calls (kept.Synced file)) ∙ bytes_kept-push (calls_of calls bytes) (Synced file) ∙ omega (arith, log.count);
}
