use Rattle.std.proofs.Common.{rules, sym}
use Rattle.graph_session.proofs.Streams.{gives-back}
use Rattle.graph_session.proofs.giving.give_reply.Goals as goal

pub returns : goal.returns
returns g c =
    let name = sym c.give_answer.ensures.same_sink in
    gives-back _ _ (search rules) c.give_answer.ensures.gives
