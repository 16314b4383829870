use Rattle.std.proofs.Common.{sym, subst}
use Rattle.std.specs.Result.{IfOk, IfErr}
use Rattle.gremlin_parse.specs.Queries.{StopsFrom, is_loose, opened_source, turn}
use Rattle.gremlin_parse.specs.Turns.{KeptFrom}
use Rattle.gremlin_parse.specs.declared.source.SourceKind.{SourceKind}
use Rattle.gremlin_parse.proofs.Exits.{never_ok}
use Rattle.gremlin_parse.proofs.query.read_from.Goals as goal

pub returns-in_err-mutation-in-NewVertex-clause-ok : goal.returns-in_err-mutation-in-NewVertex-clause-ok
returns-in_err-mutation-in-NewVertex-clause-ok c = never_ok c.from_residual.result _ _ c.from_residual.ensures.1

pub returns-in-Vertices-clause-ok : goal.returns-in-Vertices-clause-ok
returns-in-Vertices-clause-ok c = subst (λ (kind : SourceKind). IfOk c.read_elements.result (λ command. KeptFrom turn is_loose command (opened_source kind)
    c.args.bytes.now)) (sym c.in-Vertices.is) c.read_elements.ensures.ok

pub returns-in-Vertices-clause-err : goal.returns-in-Vertices-clause-err
returns-in-Vertices-clause-err c = subst (λ (kind : SourceKind). IfErr c.read_elements.result (StopsFrom (opened_source kind) c.args.bytes.now))
    (sym c.in-Vertices.is) c.read_elements.ensures.err

pub returns-in-Edges-clause-ok : goal.returns-in-Edges-clause-ok
returns-in-Edges-clause-ok c = subst (λ (kind : SourceKind). IfOk c.read_elements-in-Edges.result (λ command. KeptFrom turn is_loose command
    (opened_source kind) c.args.bytes.now)) (sym c.in-Edges.is) c.read_elements-in-Edges.ensures.ok

pub returns-in-Edges-clause-err : goal.returns-in-Edges-clause-err
returns-in-Edges-clause-err c = subst (λ (kind : SourceKind). IfErr c.read_elements-in-Edges.result (StopsFrom (opened_source kind) c.args.bytes.now))
    (sym c.in-Edges.is) c.read_elements-in-Edges.ensures.err

pub returns-in-Found-clause-ok : goal.returns-in-Found-clause-ok
returns-in-Found-clause-ok c = subst (λ (kind : SourceKind). IfOk c.read_found_nodes.result (λ command. KeptFrom turn is_loose command (opened_source kind)
    c.args.bytes.now)) (sym c.in-Found.is) c.read_found_nodes.ensures.ok

pub returns-in-Found-clause-err : goal.returns-in-Found-clause-err
returns-in-Found-clause-err c = subst (λ (kind : SourceKind). IfErr c.read_found_nodes.result (StopsFrom (opened_source kind) c.args.bytes.now))
    (sym c.in-Found.is) c.read_found_nodes.ensures.err
