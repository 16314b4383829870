use Rattle.graph_session.proofs.Expansion.{stands-number}
use Rattle.graph_session.proofs.type_numbers.number_of.Goals as goal

pub returns : goal.returns
returns c = λ records shape store.
    rw c.unwrap_or.ensures
    (stands-number records shape c.args.names.now.names store c.args.label.now c.count.ensures.are_names.distinct c.find.result c.count.result
    (rw c.as_bytes.ensures at c.find.ensures.some) (rw c.as_bytes.ensures at c.find.ensures.none) c.count.ensures.value)
