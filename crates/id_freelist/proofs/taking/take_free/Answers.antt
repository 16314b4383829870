use Rattle.std.proofs.Common.{rules, ◌≡◌}
use Rattle.id_freelist.specs.Taking.{free_taken}
use Rattle.id_freelist.proofs.FreeListLaws.{free_by}
use Rattle.rec_bytes.proofs.Causes.{never_ok}
use Rattle.id_freelist.proofs.taking.take_free.Goals as goal

pub returns-clause-taken : goal.returns-clause-taken
unfolding free_taken
returns-clause-taken g c tells free list =
    let now : g.S.Reads.state c.change_meta.new.space ≡ free_taken (g.S.Reads.state c.args.space.now) c.args.file = search rules in
    free_by (g.S.Reads.state c.args.space.now) (g.S.Reads.state c.change_meta.new.space) c.args.file c.args.meta free c.requires.meta c.requires.file
    c.requires.some c.requires.live now list

pub returns-in_err-next-clause-taken : goal.returns-in_err-next-clause-taken
returns-in_err-next-clause-taken g c _ = never_ok c.from_residual.result _ _ c.from_residual.ensures.1

pub returns-in_err-next-clause-fresh : goal.returns-in_err-next-clause-fresh
returns-in_err-next-clause-fresh g c _ = never_ok c.from_residual.result _ _ c.from_residual.ensures.1

pub returns-in_err-next-clause-is : goal.returns-in_err-next-clause-is
returns-in_err-next-clause-is g c = never_ok c.from_residual.result _ _ c.from_residual.ensures.1

pub returns-in_err-next-clause-ok : goal.returns-in_err-next-clause-ok
returns-in_err-next-clause-ok g c _ = never_ok c.from_residual.result _ _ c.from_residual.ensures.1

pub returns-in_err-next-clause-low : goal.returns-in_err-next-clause-low
returns-in_err-next-clause-low g c _ = never_ok c.from_residual.result _ _ c.from_residual.ensures.1

pub returns-in_err-next-clause-onward : goal.returns-in_err-next-clause-onward
returns-in_err-next-clause-onward g c = search rules

pub returns-in_err-change_meta-clause-taken : goal.returns-in_err-change_meta-clause-taken
returns-in_err-change_meta-clause-taken g c _ = never_ok c.from_residual-in_err-change_meta.result _ _ c.from_residual-in_err-change_meta.ensures.1

pub returns-in_err-change_meta-clause-fresh : goal.returns-in_err-change_meta-clause-fresh
returns-in_err-change_meta-clause-fresh g c _ = never_ok c.from_residual-in_err-change_meta.result _ _ c.from_residual-in_err-change_meta.ensures.1

pub returns-in_err-change_meta-clause-is : goal.returns-in_err-change_meta-clause-is
returns-in_err-change_meta-clause-is g c = never_ok c.from_residual-in_err-change_meta.result _ _ c.from_residual-in_err-change_meta.ensures.1

pub returns-in_err-change_meta-clause-ok : goal.returns-in_err-change_meta-clause-ok
returns-in_err-change_meta-clause-ok g c _ = never_ok c.from_residual-in_err-change_meta.result _ _ c.from_residual-in_err-change_meta.ensures.1

pub returns-in_err-change_meta-clause-low : goal.returns-in_err-change_meta-clause-low
returns-in_err-change_meta-clause-low g c _ = never_ok c.from_residual-in_err-change_meta.result _ _ c.from_residual-in_err-change_meta.ensures.1
