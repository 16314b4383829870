use Rattle.graph_session.proofs.Dispatch.{answers-long}
use Rattle.graph_session.proofs.session.Session.too_long.Goals as goal

pub returns-clause-answers : goal.returns-clause-answers
returns-clause-answers g c = answers-long g.D.Disk g.met.D.Disk.only_now g.K.Sink c.give_reply.ensures
