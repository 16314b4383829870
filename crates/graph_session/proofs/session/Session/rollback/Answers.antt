use Rattle.std.proofs.Common.{◌∙◌, refl, sym, true≢false}
use Rattle.graph_session.proofs.Moves.{dropped, refused-rollback}
use Rattle.graph_session.specs.Session.{view}
use Rattle.graph_session.proofs.session.Session.rollback.Goals as goal

pub returns-then-not-in_transaction-clause-settles :
    goal.returns-then-not-in_transaction-clause-settles
returns-then-not-in_transaction-clause-settles g c = refused-rollback {g = g.D.Disk} g.met.D.Disk.only_now (view c.args.self.now) c.requires.live
    (sym c.if-not-in_transaction.ensures.is)

pub returns-clause-settles : goal.returns-clause-settles
returns-clause-settles g c =
    let s = c.args.self.now in
    dropped g.met.D.Disk.only_now s.store c.rollback.new.self c.rollback.ensures.same c.rollback.ensures.draft c.rollback.ensures.own s.health c.requires.live
    s.weight s.names.names c.cut.new.self.names
    (sym c.if-not-in_transaction.ensures.is) c.rollback.ensures.closed c.meta.result c.meta.ensures c.cut.ensures

pub returns-then-not-in_transaction-clause-keeps :
    goal.returns-then-not-in_transaction-clause-keeps
returns-then-not-in_transaction-clause-keeps g c = record { held = refl; weighed = λ none weighed. weighed }

pub returns-clause-keeps : goal.returns-clause-keeps
returns-clause-keeps g c = record { held = refl; weighed = λ none weighed opened. absurd (true≢false (sym opened ∙ c.rollback.ensures.closed)) }
