use Rattle.std.proofs.Common.{rules, subst, sym}
use Rattle.rec_bytes.specs.Space.{State}
use Rattle.store_rules.proofs.MetaLaws.{meta_of_reused}
use Rattle.id_freelist.specs.Giving.{HasGiven}
use Rattle.id_freelist.proofs.FreeListLaws.{given_stays, has_given}
use Rattle.rec_bytes.proofs.Causes.{never_ok}
use Rattle.id_freelist.proofs.giving.give.Goals as goal

pub returns-clause-ok : goal.returns-clause-ok
returns-clause-ok g c tells = search rules

pub returns-clause-stays : goal.returns-clause-stays
returns-clause-stays g c tells = given_stays (g.S.Reads.state c.args.space.now) (g.S.Reads.state c.change_meta.new.space) c.args.file c.args.id
    (returns-clause-ok g c tells)

pub returns-clause-given : goal.returns-clause-given
returns-clause-given g c tells free can =
    let old = g.S.Reads.state c.args.space.now in
    let is = returns-clause-ok g c tells in
    subst (λ (new : State). HasGiven old.records new.records c.args.file c.args.id free) (sym is)
    (has_given old c.args.file c.args.id free (meta_of_reused c.args.file c.requires.file) c.requires.key.id can)

pub returns-in_err-put-clause-given : goal.returns-in_err-put-clause-given
returns-in_err-put-clause-given g c _ = never_ok c.from_residual.result _ _ c.from_residual.ensures.1

pub returns-in_err-put-clause-ok : goal.returns-in_err-put-clause-ok
returns-in_err-put-clause-ok g c _ = never_ok c.from_residual.result _ _ c.from_residual.ensures.1

pub returns-in_err-put-clause-onward : goal.returns-in_err-put-clause-onward
returns-in_err-put-clause-onward g c = search rules

pub returns-in_err-change_meta-clause-given : goal.returns-in_err-change_meta-clause-given
returns-in_err-change_meta-clause-given g c _ = never_ok c.from_residual-in_err-change_meta.result _ _ c.from_residual-in_err-change_meta.ensures.1

pub returns-in_err-change_meta-clause-ok : goal.returns-in_err-change_meta-clause-ok
returns-in_err-change_meta-clause-ok g c _ = never_ok c.from_residual-in_err-change_meta.result _ _ c.from_residual-in_err-change_meta.ensures.1
