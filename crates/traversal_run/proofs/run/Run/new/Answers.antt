use Rattle.std.proofs.Common.{◌≡◌, ◌∙◌, length, ap, refl, arith}
use Rattle.plain_graph.specs.Meaning.{source_of}
use Rattle.store_rules.specs.Graph.{graph_of}
use Rattle.traversal_run.specs.Row.{stages_of, stream, through, with_first}
use Rattle.traversal_run.specs.Run.{allowed_by}
use Rattle.traversal_run.specs.Source.{left_of}
use Rattle.traversal_run.specs.Starting.{rows_of}
use Rattle.traversal_run.proofs.Begins.{through_steps}
use Rattle.traversal_run.proofs.HeldRuns.{within-begins}
use Rattle.traversal_run.proofs.Limits.{allowed-rows_of}
use Rattle.traversal_run.proofs.Scans.{scan_begins}
use Rattle.rec_bytes.proofs.Causes.{never_ok}
use Rattle.traversal_run.proofs.HopRuns.{hop_begins}
use Rattle.traversal_run.specs.Owing.{steps_owe}
use Rattle.traversal_run.proofs.run.Run.new.Goals as goal

pub returns-clause-begins : goal.returns-clause-begins
returns-clause-begins g c = λ none graph.
    let query = c.args.query.now in
    let rows : c.in-Ok.rows.items ≡ rows_of query.steps = c.in-Ok.ensures ∙ ap rows_of c.as_slice.ensures in
    let coming : left_of graph c.in_ok-source.source ≡ source_of graph query.source = c.in_ok-source.ensures.all none graph in
    (λ i. with_first (c.new-2.ensures i) (through graph (rows i) (stream (coming i)))) ∙ through_steps graph query.steps (stream (source_of graph query.source))

pub returns-clause-found : goal.returns-clause-found
returns-clause-found g c = λ tells store.
    let query = c.args.query.now in
    let graph = graph_of (g.R.Reads.state c.args.space.now).records in
    let rows : c.in-Ok.rows.items ≡ rows_of query.steps = c.in-Ok.ensures ∙ ap rows_of c.as_slice.ensures in
    let coming : left_of graph c.in_ok-source.source ≡ source_of graph query.source = c.in_ok-source.ensures.found tells store in
    (λ i. with_first (c.new-2.ensures i) (through graph (rows i) (stream (coming i)))) ∙ through_steps graph query.steps (stream (source_of graph query.source))

pub returns-clause-allowed : goal.returns-clause-allowed
returns-clause-allowed g c = λ most is.
    let query = c.args.query.now in
    let rows : c.in-Ok.rows.items ≡ rows_of query.steps = c.in-Ok.ensures ∙ ap rows_of c.as_slice.ensures in
    (λ i. allowed_by (c.in_ok-source.ensures.over i) (stages_of (rows i)) (length (c.new-2.ensures i))) ∙ allowed-rows_of query.steps most is

pub returns-clause-within : goal.returns-clause-within
returns-clause-within g c = λ plain d.
    let query = c.args.query.now in
    let rows : c.in-Ok.rows.items ≡ rows_of query.steps = c.in-Ok.ensures ∙ ap rows_of c.as_slice.ensures in
    within-begins d query.steps _ plain rows c.new-2.ensures

pub returns-clause-scan : goal.returns-clause-scan
returns-clause-scan g c = λ all most one.
    let query = c.args.query.now in
    let rows : c.in-Ok.rows.items ≡ rows_of query.steps = c.in-Ok.ensures ∙ ap rows_of c.as_slice.ensures in
    scan_begins _ query.steps most one (c.in_ok-source.ensures.from all) rows c.new-2.ensures refl

pub returns-in_err-source-clause-begins : goal.returns-in_err-source-clause-begins
returns-in_err-source-clause-begins g c _ = never_ok c.from_residual.result _ _ c.from_residual.ensures.1

pub returns-in_err-source-clause-found : goal.returns-in_err-source-clause-found
returns-in_err-source-clause-found g c _ _ = never_ok c.from_residual.result _ _ c.from_residual.ensures.1

pub returns-in_err-source-clause-there : goal.returns-in_err-source-clause-there
returns-in_err-source-clause-there g c _ _ = never_ok c.from_residual.result _ _ c.from_residual.ensures.1

pub returns-in_err-source-clause-allowed : goal.returns-in_err-source-clause-allowed
returns-in_err-source-clause-allowed g c = never_ok c.from_residual.result _ _ c.from_residual.ensures.1

pub returns-in_err-source-clause-stopped : goal.returns-in_err-source-clause-stopped
returns-in_err-source-clause-stopped g c = never_ok c.from_residual.result _ _ c.from_residual.ensures.1

pub returns-in_err-source-clause-within : goal.returns-in_err-source-clause-within
returns-in_err-source-clause-within g c _ = never_ok c.from_residual.result _ _ c.from_residual.ensures.1

pub returns-in_err-source-clause-scan : goal.returns-in_err-source-clause-scan
returns-in_err-source-clause-scan g c _ _ _ = never_ok c.from_residual.result _ _ c.from_residual.ensures.1

pub returns-clause-hop : goal.returns-clause-hop
returns-clause-hop g c = λ id hop is.
    let query = c.args.query.now in
    let rows : c.in-Ok.rows.items ≡ rows_of query.steps = c.in-Ok.ensures ∙ ap rows_of c.as_slice.ensures in
    hop_begins _ query id hop is (c.in_ok-source.ensures.one id is.source) rows c.new-2.ensures refl

pub returns-in_err-source-clause-hop : goal.returns-in_err-source-clause-hop
returns-in_err-source-clause-hop g c _ _ _ = never_ok c.from_residual.result _ _ c.from_residual.ensures.1

pub returns-clause-owes : goal.returns-clause-owes
returns-clause-owes g c = λ tells store.
    let records = (g.R.Reads.state c.args.space.now).records in
    let graph = graph_of records in
    let query = c.args.query.now in
    let rows : c.in-Ok.rows.items ≡ rows_of query.steps = c.in-Ok.ensures ∙ ap rows_of c.as_slice.ensures in
    let coming : left_of graph c.in_ok-source.source ≡ source_of graph query.source = c.in_ok-source.ensures.found tells store in
    let steps : steps_owe records c.in-Ok.rows.items (left_of graph c.in_ok-source.source)
    ≡ steps_owe records (rows_of query.steps) (source_of graph query.source) = λ i. steps_owe records (rows i) (coming i) in
    let few = c.in_ok-source.ensures.owes tells store in
    omega (arith, steps, few)

pub returns-in_err-source-clause-owes : goal.returns-in_err-source-clause-owes
returns-in_err-source-clause-owes g c _ _ = never_ok c.from_residual.result _ _ c.from_residual.ensures.1
