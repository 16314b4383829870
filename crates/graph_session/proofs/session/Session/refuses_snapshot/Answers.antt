use Rattle.std.proofs.Common.{inl, inr, refl}
use Rattle.graph_session.proofs.Jobs.{snapshot-read}
use Rattle.graph_session.proofs.session.Session.refuses_snapshot.Goals as goal

pub returns-in-Failed-clause-refused : goal.returns-in-Failed-clause-refused
returns-in-Failed-clause-refused g c = inr (snapshot-read c.args.act, inl (c.in-Failed.is, refl))
