use Rattle.std.specs.Prelude.{IfSome}
use Rattle.std.proofs.Common.{subst}
use Rattle.rec_bytes.specs.Fault.{damage_of}
use Rattle.rec_bytes.specs.declared.fault.Fault.{Fault}
use Rattle.index_check.proofs.IndexLaws.{decides, never_broken}
use Rattle.index_check.proofs.ValueLaws.{readable_of}
use Rattle.index_check.proofs.checking.check_indexes.Goals as goal

pub returns-in-Ok-clause-decided : goal.returns-in-Ok-clause-decided
returns-in-Ok-clause-decided g c = λ tells.
    let s = g.R.Reads.state c.args.space.now in
    decides s.records s.shape c.in-Ok.found (c.in-Ok.ensures.decided tells)

pub returns-in-Ok-clause-only : goal.returns-in-Ok-clause-only
returns-in-Ok-clause-only g c = λ tells ix. never_broken (g.R.Reads.state c.args.space.now).records c.in-Ok.found (c.in-Ok.ensures.decided tells) ix

pub returns-in-Err-Damaged-clause-only : goal.returns-in-Err-Damaged-clause-only
returns-in-Err-Damaged-clause-only g c = λ tells ix.
    let s = g.R.Reads.state c.args.space.now in
    let sound = c.in-Err-Damaged.ensures.not_damaged tells (readable_of s.records s.shape (c.requires.rules tells)) in
    absurd (subst (λ (f : Fault). IfSome (damage_of f) (λ _. ⊥)) c.in-Err-Damaged.field-0-is sound)

pub returns-in-Err-Damaged-clause-decided : goal.returns-in-Err-Damaged-clause-decided
returns-in-Err-Damaged-clause-decided g c = λ tells.
    let s = g.R.Reads.state c.args.space.now in
    let sound = c.in-Err-Damaged.ensures.not_damaged tells (readable_of s.records s.shape (c.requires.rules tells)) in
    absurd (subst (λ (f : Fault). IfSome (damage_of f) (λ _. ⊥)) c.in-Err-Damaged.field-0-is sound)
