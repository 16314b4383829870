use Rattle.std.proofs.Common.{inl, inr, refl}
use Rattle.plain_graph.specs.Lines.{kind_of}
use Rattle.graph_session.proofs.Jobs.{asks-read}
use Rattle.graph_session.proofs.session.Session.refuses_reading.Goals as goal

pub returns-in-Failed-clause-refused : goal.returns-in-Failed-clause-refused
returns-in-Failed-clause-refused g c = λ command asks. inr (asks-read (kind_of command) asks, inl (c.in-Failed.is, refl))
