use Rattle.std.proofs.Common.{◌≡◌, length}
use Rattle.gremlin_parse.specs.Drafts.{IsDraft, draft_place}
use Rattle.gremlin_parse.specs.Queries.{LeadsTo, Steps, query_from}
use Rattle.gremlin_parse.proofs.query.read_steps.Given as goal

abbrev pub invariant-loop-rest : goal.invariant-loop-rest
invariant-loop-rest l = record {
  source_is : l.source ≡ l.fn.source;
  is : IsDraft l.fn.source l.draft;
  leads : LeadsTo (Steps (query_from l.fn.source)) l.fn.bytes (draft_place l.fn.source l.draft) l.rest;
}

abbrev pub decreases-loop-rest : goal.decreases-loop-rest
decreases-loop-rest l = length l.rest
