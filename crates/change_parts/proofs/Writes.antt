-- How many records became written by single calls, and at exits.
use Rattle.std.specs.Prelude.{Result, Ok, Err, OnErr}
use Rattle.std.proofs.Common.{◌≡◌, ℕ, ◌+◌, true, List, [], ◌∷◌, subst, inl, ⊎_elim, arith, refl}
use Rattle.rec_bytes.specs.declared.key.Key.{Key}
use Rattle.rec_bytes.specs.RecordFiles.{is_meta_file, meta_key_of}
use Rattle.rec_bytes.specs.Space.{SameButReads, State, WritesOnly}
use Rattle.store_rules.proofs.WriteLaws.{among_metas, beside_written, more_written, none_written, some_written}
use Rattle.store_rules.specs.Writes.{WritesAtMost}
use Rattle.plain_graph.specs.declared.command.Target.{Target}
use Rattle.plain_graph.specs.declared.command.Target.TheVariants as targets
use Rattle.prop_store.specs.Touching.{TouchesProperties}
use Rattle.change_parts.specs.Owners.{owner_of}
use Rattle.prop_store.proofs.WriteCounts.{touched_beside}

-- of a space that was only read any keys serve
pub only_read : (s t : State) (keys : List Key) → SameButReads s t → WritesOnly s t keys
only_read s t keys same = record { each = λ q w. inl (subst (λ (z : State). z.written q ≡ true) same w) }

-- ---- elements

-- the record of an element is no meta record
pub own_record : (target : Target) → is_meta_file (owner_of target).key.file ≡ true
own_record (targets.Node id) = refl
own_record (targets.Edge id) = refl

-- what a change of an element's properties touches, counted
pub touched_written : {tells : Type 0} {key : Key} {n m : ℕ} {s t : State} → is_meta_file key.file ≡ true → TouchesProperties tells (key ∷ []) n m s t
    → WritesAtMost (1 + (n + m)) s t
touched_written {tells} {key} {n} {m} {s} {t} own h = beside_written own (touched_beside n m (n + m) s t key (omega arith) h)

-- ---- single calls

-- an identifier that is taken of a file
pub taken_written : (file : ℕ) (s t : State) → is_meta_file file ≡ true → WritesOnly s t (meta_key_of file ∷ []) → WritesAtMost 0 s t
taken_written file s t is = some_written s t [] (meta_key_of file ∷ []) tt (λ q i. ⊎_elim (λ e. among_metas file q is e) (λ e. absurd e) i)

-- one record
pub record_written : (key : Key) (s t : State) → is_meta_file key.file ≡ true → WritesOnly s t (key ∷ []) → WritesAtMost 1 s t
record_written key s t is = some_written s t (key ∷ []) (key ∷ []) (is, tt) (λ q i. ⊎_elim (λ e. inl e) (λ e. absurd e) i)

-- what holds of an exit
pub on_any_err : {T E : Type 0} (r : Result T E) (P : Type 0) → P → OnErr r P
on_any_err (Ok x) P p = tt
on_any_err (Err e) P p = p

pub read_exit : {T E : Type 0} (r : Result T E) (n : ℕ) (s t : State) → SameButReads s t → OnErr r (WritesAtMost n s t)
read_exit r n s t same = on_any_err r (WritesAtMost n s t) (more_written (omega arith) (none_written s t same))
