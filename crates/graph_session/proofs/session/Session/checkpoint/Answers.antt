use Rattle.std.proofs.Common.{◌∙◌, refl, sym, true≢false}
use Rattle.graph_session.proofs.Moves.{brought, stopped_so}
use Rattle.graph_session.proofs.session.Session.checkpoint.Goals as goal

pub returns-in-Ok-clause-settles : goal.returns-in-Ok-clause-settles
returns-in-Ok-clause-settles g c =
    let s = c.args.self.now in
    let done = c.in-Ok.ensures in
    let closed = sym c.if-in_transaction.ensures.is in
    brought s.store c.checkpoint.new.self done.same closed done.closed done.draft done.cause.later done.crash s.health c.requires.live s.weight s.names.names
    done.own (c.if-in_transaction.ensures.none closed) done.done

pub returns-in-Err-clause-settles : goal.returns-in-Err-clause-settles
returns-in-Err-clause-settles g c =
    let s = c.args.self.now in
    let done = c.in-Err.ensures in
    stopped_so s.store c.checkpoint.new.self done.same (sym c.if-in_transaction.ensures.is) done.closed done.draft done.cause.later done.crash s.health
    c.requires.live s.weight s.names.names done.failed done.cause.failed

pub returns-then-in_transaction-clause-keeps : goal.returns-then-in_transaction-clause-keeps
returns-then-in_transaction-clause-keeps g c = record { held = refl; weighed = λ none weighed. weighed }

pub returns-in-Ok-clause-keeps : goal.returns-in-Ok-clause-keeps
returns-in-Ok-clause-keeps g c = record { held = refl; weighed = λ none weighed opened. absurd (true≢false (sym opened ∙ c.in-Ok.ensures.closed)) }

pub returns-in-Err-clause-keeps : goal.returns-in-Err-clause-keeps
returns-in-Err-clause-keeps g c = record { held = refl; weighed = λ none weighed opened. absurd (true≢false (sym opened ∙ c.in-Err.ensures.closed)) }
