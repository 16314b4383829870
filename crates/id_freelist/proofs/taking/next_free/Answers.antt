use Rattle.std.proofs.Common.{arith, sym, subst, rules}
use Rattle.id_freelist.specs.Taking.{IsTakeFault}
use Rattle.id_freelist.proofs.TakeDamages.{bad_next, in_use, not_in_use}
use Rattle.rec_bytes.proofs.Causes.{never_ok}
use Rattle.id_freelist.proofs.taking.next_free.Goals as goal

pub returns-then-byte-ne-FREE-clause-refused : goal.returns-then-byte-ne-FREE-clause-refused
returns-then-byte-ne-FREE-clause-refused g c tells =
    let s = g.R.Reads.state c.args.space.now in
    subst (IsTakeFault s c.args.file) (sym c.damaged.ensures) (in_use s c.args.file c.in_ok-rec.rec c.args.meta c.requires.meta c.requires.some c.requires.low
    (c.in_ok-rec.ensures.got tells) (λ e. omega (arith, e, c.byte.ensures)))

pub returns-then-next-meta-clause-refused : goal.returns-then-next-meta-clause-refused
returns-then-next-meta-clause-refused g c tells =
    let s = g.R.Reads.state c.args.space.now in
    subst (IsTakeFault s c.args.file) (sym c.damaged-then-next-meta.ensures)
    (bad_next s c.args.file c.in_ok-rec.rec c.args.meta c.number-next.result c.requires.meta c.requires.some c.requires.low (c.in_ok-rec.ensures.got tells)
    (omega (arith, c.byte.ensures)) c.number-next.ensures (λ e. omega arith) (omega arith))

pub returns-clause-fresh : goal.returns-clause-fresh
returns-clause-fresh g c tells =
    not_in_use (g.R.Reads.state c.args.space.now) c.args.file c.in_ok-rec.rec c.args.meta c.requires.meta c.requires.low (c.in_ok-rec.ensures.got tells)
    (omega (arith, c.byte.ensures))

pub returns-in_err-rec-clause-fresh : goal.returns-in_err-rec-clause-fresh
returns-in_err-rec-clause-fresh g c _ = never_ok c.from_residual.result _ _ c.from_residual.ensures.1

pub returns-in_err-rec-clause-is : goal.returns-in_err-rec-clause-is
returns-in_err-rec-clause-is g c _ = never_ok c.from_residual.result _ _ c.from_residual.ensures.1

pub returns-in_err-rec-clause-low : goal.returns-in_err-rec-clause-low
returns-in_err-rec-clause-low g c _ = never_ok c.from_residual.result _ _ c.from_residual.ensures.1

pub returns-in_err-rec-clause-onward : goal.returns-in_err-rec-clause-onward
returns-in_err-rec-clause-onward g c = search rules
