use Rattle.prop_store.proofs.ReadCounts.{reads_none}
use Rattle.traversal_run.specs.Owing.{rank_reads}
use Rattle.rec_bytes.proofs.Causes.{never_ok}
use Rattle.traversal_run.proofs.lookups.rank.Goals as goal

pub returns-in_err-rank-in-None-clause-found : goal.returns-in_err-rank-in-None-clause-found
returns-in_err-rank-in-None-clause-found g c _ _ = never_ok c.from_residual.result _ _ c.from_residual.ensures.1

pub returns-in_err-rank-in-None-clause-at_most : goal.returns-in_err-rank-in-None-clause-at_most
returns-in_err-rank-in-None-clause-at_most g c = reads_none (rank_reads c.args.key.now) (g.R.Reads.state c.args.space.now)

pub returns-in_ok-rank-in-None-clause-at_most : goal.returns-in_ok-rank-in-None-clause-at_most
returns-in_ok-rank-in-None-clause-at_most g c = reads_none (rank_reads c.args.key.now) (g.R.Reads.state c.args.space.now)
