use Rattle.std.proofs.Common.{List, ℕ, subst, sym, ◌∙◌}
use Rattle.gremlin_parse.specs.Queries.{FirstId, Steps, elements_of, query_from, LeadsTo}
use Rattle.gremlin_parse.proofs.QueryReads.{no_ids}
use Rattle.gremlin_parse.proofs.source.read_ids.Goals as goal

pub returns-in-Some-clause-ok : goal.returns-in-Some-clause-ok
returns-in-Some-clause-ok c = λ edges.
    let ids = c.new-in-Some.ensures ∙ c.new.ensures.items in
    subst (λ (list : List ℕ). LeadsTo (FirstId edges) c.args.bytes.now (Steps (query_from (elements_of edges list))) c.in-Some.rest.now) (sym ids)
    (no_ids c.args.bytes.now c.in-Some.rest.now edges c.in-Some.ensures.some)
