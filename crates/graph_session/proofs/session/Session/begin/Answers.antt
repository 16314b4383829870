use Rattle.std.proofs.Common.{refl, subst, sym}
use Rattle.plain_graph.specs.Changes.{start_weight}
use Rattle.rec_bytes.specs.Pairs.{Pairs}
use Rattle.graph_session.proofs.Moves.{began, refused-begin}
use Rattle.graph_session.proofs.Weighing.{weighed-start}
use Rattle.graph_session.specs.Session.{view}
use Rattle.graph_session.specs.SnapshotEffects.{AreWeighed}
use Rattle.graph_session.proofs.session.Session.begin.Goals as goal

pub returns-clause-settles : goal.returns-clause-settles
returns-clause-settles g c =
    let s = c.args.self.now in
    began g.met.D.Disk.only_now s.store c.begin.new.self c.begin.ensures.same c.begin.ensures.draft c.begin.ensures.own s.health c.requires.live s.weight
    s.names.names (sym c.if-in_transaction.ensures.is)
    c.begin.ensures.in_transaction

pub returns-then-in_transaction-clause-settles : goal.returns-then-in_transaction-clause-settles
returns-then-in_transaction-clause-settles g c = refused-begin {g = g.D.Disk} g.met.D.Disk.only_now (view c.args.self.now) c.requires.live
    (sym c.if-in_transaction.ensures.is)

pub returns-clause-keeps : goal.returns-clause-keeps
returns-clause-keeps g c = record {
  held = refl;
  weighed = λ none weighed opened. subst (λ (written : Pairs). AreWeighed written start_weight)
      (sym c.begin.ensures.own) weighed-start;
}

pub returns-then-in_transaction-clause-keeps : goal.returns-then-in_transaction-clause-keeps
returns-then-in_transaction-clause-keeps g c = record { held = refl; weighed = λ none weighed. weighed }
