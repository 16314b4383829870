use Rattle.std.proofs.Common.{◌≡◌, subst}
use Rattle.plain_graph.specs.Changes.{IsChange}
use Rattle.plain_graph.specs.declared.command.Command.TheVariants as commands
use Rattle.graph_session.proofs.Jobs.{is_change}
use Rattle.graph_session.proofs.Taps.{begin-ends, checkpoint-ends, reopen-ends, rollback-ends, takes-nothing, takes-weaker, taps-other}
use Rattle.graph_session.proofs.session.Session.settle.Goals as goal

pub returns-in-Begin-clause-taps : goal.returns-in-Begin-clause-taps
returns-in-Begin-clause-taps g c =
    let was = c.args.tap.now in
    rw c.in-Begin.is (takes-weaker was was (taps-other (begin-ends c.args.self.now.store.base.in_transaction)) (takes-nothing was c.requires.room))

pub returns-in-Rollback-clause-taps : goal.returns-in-Rollback-clause-taps
returns-in-Rollback-clause-taps g c =
    let was = c.args.tap.now in
    rw c.in-Rollback.is (takes-weaker was was (taps-other (rollback-ends c.args.self.now.store.base.in_transaction)) (takes-nothing was c.requires.room))

pub returns-in-Checkpoint-clause-taps : goal.returns-in-Checkpoint-clause-taps
returns-in-Checkpoint-clause-taps g c =
    let was = c.args.tap.now in
    rw c.in-Checkpoint.is (takes-weaker was was (taps-other (checkpoint-ends c.args.self.now.store.base.in_transaction)) (takes-nothing was c.requires.room))

pub returns-in-Reopen-clause-taps : goal.returns-in-Reopen-clause-taps
returns-in-Reopen-clause-taps g c =
    let was = c.args.tap.now in
    rw c.in-Reopen.is (takes-weaker was was (taps-other (reopen-ends c.args.self.now.store.base.in_transaction)) (takes-nothing was c.requires.room))

pub returns-in-Begin-clause-settles : goal.returns-in-Begin-clause-settles
returns-in-Begin-clause-settles g c = rw c.in-Begin.is c.begin.ensures.settles

pub returns-in-Begin-clause-keeps : goal.returns-in-Begin-clause-keeps
returns-in-Begin-clause-keeps g c = rw c.in-Begin.is c.begin.ensures.keeps

pub returns-in-Commit-clause-settles : goal.returns-in-Commit-clause-settles
returns-in-Commit-clause-settles g c = rw c.in-Commit.is c.commit.ensures.settles

pub returns-in-Commit-clause-keeps : goal.returns-in-Commit-clause-keeps
returns-in-Commit-clause-keeps g c = rw c.in-Commit.is c.commit.ensures.keeps

pub returns-in-Rollback-clause-settles : goal.returns-in-Rollback-clause-settles
returns-in-Rollback-clause-settles g c = rw c.in-Rollback.is c.rollback.ensures.settles

pub returns-in-Rollback-clause-keeps : goal.returns-in-Rollback-clause-keeps
returns-in-Rollback-clause-keeps g c = rw c.in-Rollback.is c.rollback.ensures.keeps

pub returns-in-Checkpoint-clause-settles : goal.returns-in-Checkpoint-clause-settles
returns-in-Checkpoint-clause-settles g c = rw c.in-Checkpoint.is c.checkpoint.ensures.settles

pub returns-in-Checkpoint-clause-keeps : goal.returns-in-Checkpoint-clause-keeps
returns-in-Checkpoint-clause-keeps g c = rw c.in-Checkpoint.is c.checkpoint.ensures.keeps

pub returns-in-Reopen-clause-settles : goal.returns-in-Reopen-clause-settles
returns-in-Reopen-clause-settles g c = rw c.in-Reopen.is c.reopen.ensures.settles

pub returns-in-Reopen-clause-keeps : goal.returns-in-Reopen-clause-keeps
returns-in-Reopen-clause-keeps g c = rw c.in-Reopen.is c.reopen.ensures.keeps

pub returns-in-Change-clause-settles : goal.returns-in-Change-clause-settles
returns-in-Change-clause-settles g c = rw c.in-Change.is c.change.ensures.settles

pub returns-in-Change-clause-keeps : goal.returns-in-Change-clause-keeps
returns-in-Change-clause-keeps g c = rw c.in-Change.is c.change.ensures.keeps

pub returns-in-Commit-clause-taps : goal.returns-in-Commit-clause-taps
returns-in-Commit-clause-taps g c = rw c.in-Commit.is c.commit.ensures.taps

pub returns-in-Change-clause-taps : goal.returns-in-Change-clause-taps
returns-in-Change-clause-taps g c = rw c.in-Change.is c.change.ensures.taps

pub returns-in-Begin-clause-careful : goal.returns-in-Begin-clause-careful
returns-in-Begin-clause-careful g c = rw c.in-Begin.is (λ again. let clash : commands.Begin ≡ commands.Reopen = again in cc)

pub returns-in-Commit-clause-careful : goal.returns-in-Commit-clause-careful
returns-in-Commit-clause-careful g c = rw c.in-Commit.is (λ again. let clash : commands.Commit ≡ commands.Reopen = again in cc)

pub returns-in-Rollback-clause-careful : goal.returns-in-Rollback-clause-careful
returns-in-Rollback-clause-careful g c = rw c.in-Rollback.is (λ again. let clash : commands.Rollback ≡ commands.Reopen = again in cc)

pub returns-in-Checkpoint-clause-careful : goal.returns-in-Checkpoint-clause-careful
returns-in-Checkpoint-clause-careful g c = rw c.in-Checkpoint.is (λ again. let clash : commands.Checkpoint ≡ commands.Reopen = again in cc)

pub returns-in-Reopen-clause-careful : goal.returns-in-Reopen-clause-careful
returns-in-Reopen-clause-careful g c = λ again. c.reopen.ensures.careful

pub returns-in-Change-clause-careful : goal.returns-in-Change-clause-careful
returns-in-Change-clause-careful g c = rw c.in-Change.is (λ again. absurd (subst IsChange again (is_change c.in-Change.change)))
