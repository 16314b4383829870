-- What a call promises of its answer, where it returns a fault or what another call returned.
use Rattle.std.specs.Prelude.{Result, Ok, Err, IfOk}
use Rattle.std.specs.Result.{IsErrAnd}

-- an exit by a fault promises nothing of an answer
pub never_ok : {T E : Type 0} (r : Result T E) (P : T → Type 0) (Q : E → Type 0) → IsErrAnd r Q → IfOk r P
never_ok (Ok x) P Q is = absurd is
never_ok (Err e) P Q is = tt

-- what a call promises of its answer by two clauses together
pub ok_of_both : {T E : Type 0} (r : Result T E) (P Q R : T → Type 0) → ((x : T) → P x → Q x → R x) → IfOk r P → IfOk r Q → IfOk r R
ok_of_both (Ok x) P Q R gives p q = gives x p q
ok_of_both (Err e) P Q R gives p q = tt
