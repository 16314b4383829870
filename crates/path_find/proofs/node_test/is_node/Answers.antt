use Rattle.std.proofs.Common.{sym, ◌∙◌}
use Rattle.expand.proofs.LoadedRows.{none_there, one_there}
use Rattle.expand.proofs.ReadCounts.{load_reads}
use Rattle.path_find.proofs.OnlyReads.{is_read-gets}
use Rattle.rec_bytes.proofs.Causes.{never_ok}
use Rattle.path_find.proofs.node_test.is_node.Goals as goal

pub returns-in-Some-clause-is : goal.returns-in-Some-clause-is
returns-in-Some-clause-is g c = λ tells store. sym (one_there (g.R.Reads.state c.args.reads.now) c.args.id c.in-Some.field-0
    (sym c.in-Some.is ∙ c.in_ok-load.ensures.found tells))

pub returns-in-None-clause-is : goal.returns-in-None-clause-is
returns-in-None-clause-is g c = λ tells store. sym (none_there (g.R.Reads.state c.args.reads.now) c.args.id (sym c.in-None.is ∙ c.in_ok-load.ensures.found
    tells))

pub returns-in-None-clause-row : goal.returns-in-None-clause-row
returns-in-None-clause-row g c = λ tells. sym (sym c.in-None.is ∙ c.in_ok-load.ensures.found tells)

pub returns-in_err-load-clause-read : goal.returns-in_err-load-clause-read
returns-in_err-load-clause-read g c =
    let reads = load_reads (g.R.Reads.state c.args.reads.now) (g.R.Reads.state c.load.new.space) c.args.id 0 c.load.ensures.state in
    is_read-gets g.R.Reads reads.count c.args.reads.now c.load.new.space reads.is c.load.ensures.onward c.load.ensures.cause.later

pub returns-in-Some-clause-read : goal.returns-in-Some-clause-read
returns-in-Some-clause-read g c =
    let reads = load_reads (g.R.Reads.state c.args.reads.now) (g.R.Reads.state c.load.new.space) c.args.id 0 c.load.ensures.state in
    is_read-gets g.R.Reads reads.count c.args.reads.now c.load.new.space reads.is c.load.ensures.onward c.load.ensures.cause.later

pub returns-in-None-clause-read : goal.returns-in-None-clause-read
returns-in-None-clause-read g c =
    let reads = load_reads (g.R.Reads.state c.args.reads.now) (g.R.Reads.state c.load.new.space) c.args.id 0 c.load.ensures.state in
    is_read-gets g.R.Reads reads.count c.args.reads.now c.load.new.space reads.is c.load.ensures.onward c.load.ensures.cause.later

pub returns-in_err-load-clause-is : goal.returns-in_err-load-clause-is
returns-in_err-load-clause-is g c _ _ = never_ok c.from_residual.result _ _ c.from_residual.ensures.1

pub returns-in_err-load-clause-row : goal.returns-in_err-load-clause-row
returns-in_err-load-clause-row g c _ = never_ok c.from_residual.result _ _ c.from_residual.ensures.1

pub returns-in_err-load-clause-cost : goal.returns-in_err-load-clause-cost
returns-in_err-load-clause-cost g c = load_reads (g.R.Reads.state c.args.reads.now) (g.R.Reads.state c.load.new.space) c.args.id 0 c.load.ensures.state

pub returns-in-Some-clause-cost : goal.returns-in-Some-clause-cost
returns-in-Some-clause-cost g c = load_reads (g.R.Reads.state c.args.reads.now) (g.R.Reads.state c.load.new.space) c.args.id 0 c.load.ensures.state

pub returns-in-None-clause-cost : goal.returns-in-None-clause-cost
returns-in-None-clause-cost g c = load_reads (g.R.Reads.state c.args.reads.now) (g.R.Reads.state c.load.new.space) c.args.id 0 c.load.ensures.state
