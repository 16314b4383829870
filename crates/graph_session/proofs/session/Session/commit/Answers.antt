use Rattle.std.proofs.Common.{◌∙◌, ap, inl, inr, length, refl, sym, true≢false}
use Rattle.graph_session.proofs.Moves.{commit_failed, committed_one, refused-commit}
use Rattle.graph_session.specs.Session.{view}
use Rattle.graph_session.specs.Tapping.{HasWritten, IsEmpty}
use Rattle.graph_session.proofs.Taps.{commit-still, takes-nothing, takes-then, takes-weaker, tapped-written, taps-ended, taps-unconfirmed}
use Rattle.graph_session.proofs.session.Session.commit.Goals as goal

pub returns-then-not-in_transaction-clause-settles :
    goal.returns-then-not-in_transaction-clause-settles
returns-then-not-in_transaction-clause-settles g c = refused-commit {g = g.D.Disk} g.met.D.Disk.only_now (view c.args.self.now) c.requires.live
    (sym c.if-not-in_transaction.ensures.is)

pub returns-in-Ok-clause-settles : goal.returns-in-Ok-clause-settles
returns-in-Ok-clause-settles g c =
    let s = c.args.self.now in
    let done = c.in-Ok.ensures in
    committed_one s.store c.commit_kept.new.self done.same done.closed done.draft done.cause.later (sym c.if-not-in_transaction.ensures.is) done.crash s.health
    c.requires.live s.weight s.names.names done.own done.done (λ nothing. (done.empty (ap length nothing)).1)

pub returns-in-Err-clause-settles : goal.returns-in-Err-clause-settles
returns-in-Err-clause-settles g c =
    let s = c.args.self.now in
    let done = c.in-Err.ensures in
    commit_failed s.store c.commit_kept.new.self done.same done.closed done.draft done.cause.later (sym c.if-not-in_transaction.ensures.is) done.crash s.health
    c.requires.live s.weight s.names.names done.failed done.cause.failed (λ nothing. true≢false (sym (done.empty (ap length nothing)).0))

pub returns-then-not-in_transaction-clause-keeps :
    goal.returns-then-not-in_transaction-clause-keeps
returns-then-not-in_transaction-clause-keeps g c = record { held = inl (refl, sym c.if-not-in_transaction.ensures.is); weighed = λ none weighed. weighed }

pub returns-in-Ok-clause-keeps : goal.returns-in-Ok-clause-keeps
returns-in-Ok-clause-keeps g c =
    let done = c.in-Ok.ensures in
    record {
      held = inr (sym c.if-not-in_transaction.ensures.is, record { ends = inl tt; sights = done.sights; ended = done.ended; held = done.held });
      weighed = λ none weighed opened. absurd (true≢false (sym opened ∙ done.closed));
    }

pub returns-in-Err-clause-keeps : goal.returns-in-Err-clause-keeps
returns-in-Err-clause-keeps g c =
    let done = c.in-Err.ensures in
    record {
      held = inr (sym c.if-not-in_transaction.ensures.is, record { ends = inr refl; sights = done.sights; ended = done.ended; held = done.held });
      weighed = λ none weighed opened. absurd (true≢false (sym opened ∙ done.closed));
    }

pub returns-then-not-in_transaction-clause-taps :
    goal.returns-then-not-in_transaction-clause-taps
returns-then-not-in_transaction-clause-taps g c = takes-weaker c.args.tap.now c.args.tap.now (taps-unconfirmed (λ confirms. confirms))
    (takes-nothing c.args.tap.now c.requires.room)

pub returns-in-Ok-clause-taps : goal.returns-in-Ok-clause-taps
returns-in-Ok-clause-taps g c =
    let done = c.in-Ok.ensures in
    takes-weaker c.args.tap.now c.fill.new.tap (λ pairs has. taps-ended tt (inl refl) pairs (λ commits. has.is) (λ change. absurd (commit-still change))
    (tapped-written (view c.args.self.now) _ pairs has done.same.shape done.done.space)) c.fill.ensures

pub returns-in-Err-clause-taps : goal.returns-in-Err-clause-taps
returns-in-Err-clause-taps g c = takes-weaker c.args.tap.now c.forget.new.tap (taps-unconfirmed (λ confirms. confirms))
    (takes-then (HasWritten (view c.args.self.now).console) IsEmpty c.args.tap.now c.fill.new.tap c.forget.new.tap c.fill.ensures c.forget.ensures)
