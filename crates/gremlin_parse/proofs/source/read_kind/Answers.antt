use Rattle.std.proofs.Common.{refl}
use Rattle.gremlin_parse.specs.Queries.{SourceName, Opening}
use Rattle.gremlin_parse.specs.declared.source.SourceKind.TheVariants as sources
use Rattle.gremlin_parse.proofs.QueryReads.{token_leads, find_leads, vertex_leads, stop_at_source}
use Rattle.gremlin_parse.proofs.source.read_kind.Goals as goal

pub returns-in-Some-clause-ok : goal.returns-in-Some-clause-ok
returns-in-Some-clause-ok c = token_leads SourceName 86 (Opening sources.Vertices) c.args.bytes.now c.in-Some.rest.now refl refl c.in-Some.ensures.some

pub returns-in-Some-read_first-clause-ok : goal.returns-in-Some-read_first-clause-ok
returns-in-Some-read_first-clause-ok c = token_leads SourceName 69 (Opening sources.Edges) c.args.bytes.now c.in-Some-read_first.rest.now refl refl
    c.in-Some-read_first.ensures.some

pub returns-in-Ok-clause-ok : goal.returns-in-Ok-clause-ok
returns-in-Ok-clause-ok c = find_leads c.args.bytes.now c.in-Ok.rest.now c.in-Ok.ensures.ok

pub returns-in-Ok-read_token-clause-ok : goal.returns-in-Ok-read_token-clause-ok
returns-in-Ok-read_token-clause-ok c = vertex_leads c.args.bytes.now c.in-Ok-read_token.rest.now c.in-Ok-read_token.ensures.ok

pub returns-in-Err-read_token-clause-err : goal.returns-in-Err-read_token-clause-err
returns-in-Err-read_token-clause-err c = rw c.later.ensures (stop_at_source c.args.bytes.now c.in-Err.no_find c.in-Err-read_token.no_vertex
    c.in_default.ensures.none c.in_default-read_first.ensures.none c.in-Err.ensures.err c.in-Err-read_token.ensures.err)
