use Rattle.std.proofs.Common.{◌∙◌, ◌++◌, List, ap, arith, refl, sym, subst}
use Rattle.std.specs.List.{filter_map}
use Rattle.plain_graph.specs.Meaning.{ranked}
use Rattle.plain_graph.specs.declared.item.Item.{Item}
use Rattle.prop_store.specs.Reading.{ReadsAtMost}
use Rattle.prop_store.proofs.ReadCounts.{reads_none}
use Rattle.store_rules.specs.Graph.{graph_of}
use Rattle.traversal_run.specs.Owing.{stage_reads}
use Rattle.traversal_run.specs.Stage.{given_in_order, rank_in}
use Rattle.traversal_run.specs.declared.stage.Stage.{Stage}
use Rattle.traversal_run.proofs.KeptItems.{kept_rank, one_more_kept}
use Rattle.traversal_run.proofs.Causes.{cause_passed, memory_cause}
use Rattle.rec_bytes.proofs.Causes.{never_ok, ok_cause}
use Rattle.prop_store.proofs.Exits.{same_has}
use Rattle.traversal_run.proofs.OnlyReads.{is_read-none}
use Rattle.traversal_run.proofs.stage.Stage.take.Goals as goal

pub returns-in_err-outs-in-Dedup-clause-cause : goal.returns-in_err-outs-in-Dedup-clause-cause
returns-in_err-outs-in-Dedup-clause-cause g c = memory_cause _ _ c.from_residual.result (omega arith) c.from_residual.ensures.1

pub returns-in_err-rank-in-Order-clause-cause : goal.returns-in_err-rank-in-Order-clause-cause
returns-in_err-rank-in-Order-clause-cause g c =
    cause_passed _ _ _ c.from_residual-in_err-rank-in-Order.result c.in_err-rank-in-Order.field-0.0 (omega arith) c.in_err-rank-in-Order.ensures.cause
    c.from_residual-in_err-rank-in-Order.ensures.1

pub returns-in_err-keep-in-Order-clause-cause : goal.returns-in_err-keep-in-Order-clause-cause
returns-in_err-keep-in-Order-clause-cause g c =
    memory_cause _ _ c.from_residual-in_err-keep-in-Order.result c.in_ok-rank-in-Order.ensures.cause.later c.from_residual-in_err-keep-in-Order.ensures.1

pub returns-in_err-outs-in-Dedup-clause-takes : goal.returns-in_err-outs-in-Dedup-clause-takes
returns-in_err-outs-in-Dedup-clause-takes g c _ _ = never_ok c.from_residual.result _ _ c.from_residual.ensures.1

pub returns-in_err-outs-in-Dedup-clause-limits : goal.returns-in_err-outs-in-Dedup-clause-limits
returns-in_err-outs-in-Dedup-clause-limits g c = never_ok c.from_residual.result _ _ c.from_residual.ensures.1

pub returns-in_err-outs-in-Dedup-clause-limit : goal.returns-in_err-outs-in-Dedup-clause-limit
returns-in_err-outs-in-Dedup-clause-limit g c _ _ = never_ok c.from_residual.result _ _ c.from_residual.ensures.1

pub returns-in_err-rank-in-Order-clause-takes : goal.returns-in_err-rank-in-Order-clause-takes
returns-in_err-rank-in-Order-clause-takes g c _ _ = never_ok c.from_residual-in_err-rank-in-Order.result _ _ c.from_residual-in_err-rank-in-Order.ensures.1

pub returns-in_err-keep-in-Order-clause-takes : goal.returns-in_err-keep-in-Order-clause-takes
returns-in_err-keep-in-Order-clause-takes g c _ _ = never_ok c.from_residual-in_err-keep-in-Order.result _ _ c.from_residual-in_err-keep-in-Order.ensures.1

pub returns-in_err-rank-in-Order-clause-limits : goal.returns-in_err-rank-in-Order-clause-limits
returns-in_err-rank-in-Order-clause-limits g c = never_ok c.from_residual-in_err-rank-in-Order.result _ _ c.from_residual-in_err-rank-in-Order.ensures.1

pub returns-in_err-keep-in-Order-clause-limits : goal.returns-in_err-keep-in-Order-clause-limits
returns-in_err-keep-in-Order-clause-limits g c = never_ok c.from_residual-in_err-keep-in-Order.result _ _ c.from_residual-in_err-keep-in-Order.ensures.1

pub returns-in_err-rank-in-Order-clause-limit : goal.returns-in_err-rank-in-Order-clause-limit
returns-in_err-rank-in-Order-clause-limit g c _ _ = never_ok c.from_residual-in_err-rank-in-Order.result _ _ c.from_residual-in_err-rank-in-Order.ensures.1

pub returns-in_err-keep-in-Order-clause-limit : goal.returns-in_err-keep-in-Order-clause-limit
returns-in_err-keep-in-Order-clause-limit g c _ _ = never_ok c.from_residual-in_err-keep-in-Order.result _ _ c.from_residual-in_err-keep-in-Order.ensures.1

pub returns-in-Mapped-clause-damaged : goal.returns-in-Mapped-clause-damaged
returns-in-Mapped-clause-damaged g c = c.mapped.ensures.damaged

pub returns-in-Mapped-clause-read : goal.returns-in-Mapped-clause-read
returns-in-Mapped-clause-read g c = c.mapped.ensures.read

pub returns-in-Mapped-clause-cause : goal.returns-in-Mapped-clause-cause
returns-in-Mapped-clause-cause g c = c.mapped.ensures.cause

pub returns-in-Limit-clause-read : goal.returns-in-Limit-clause-read
returns-in-Limit-clause-read g c = is_read-none g.R.Reads g.met.R.Reads.stays_onward c.args.space.now

pub returns-in_ok-outs-in-Dedup-clause-read : goal.returns-in_ok-outs-in-Dedup-clause-read
returns-in_ok-outs-in-Dedup-clause-read g c = is_read-none g.R.Reads g.met.R.Reads.stays_onward c.args.space.now

pub returns-in_ok-keep-in-Order-clause-read : goal.returns-in_ok-keep-in-Order-clause-read
returns-in_ok-keep-in-Order-clause-read g c = c.in_ok-rank-in-Order.ensures.read

pub returns-in_ok-keep-in-Order-clause-cause : goal.returns-in_ok-keep-in-Order-clause-cause
returns-in_ok-keep-in-Order-clause-cause g c = ok_cause _ _ _ _ c.in_ok-rank-in-Order.ensures.cause.later

pub returns-in_err-outs-in-Dedup-clause-read : goal.returns-in_err-outs-in-Dedup-clause-read
returns-in_err-outs-in-Dedup-clause-read g c = is_read-none g.R.Reads g.met.R.Reads.stays_onward c.args.space.now

pub returns-in_err-outs-in-Dedup-clause-damaged : goal.returns-in_err-outs-in-Dedup-clause-damaged
returns-in_err-outs-in-Dedup-clause-damaged g c _ = same_has _ c.from_residual.result _ c.from_residual.ensures.1 tt

pub returns-in_err-rank-in-Order-clause-read : goal.returns-in_err-rank-in-Order-clause-read
returns-in_err-rank-in-Order-clause-read g c = c.in_err-rank-in-Order.ensures.read

pub returns-in_err-keep-in-Order-clause-read : goal.returns-in_err-keep-in-Order-clause-read
returns-in_err-keep-in-Order-clause-read g c = c.in_ok-rank-in-Order.ensures.read

pub returns-in_err-rank-in-Order-clause-damaged : goal.returns-in_err-rank-in-Order-clause-damaged
returns-in_err-rank-in-Order-clause-damaged g c tells =
    same_has _ c.from_residual-in_err-rank-in-Order.result _ c.from_residual-in_err-rank-in-Order.ensures.1 (c.in_err-rank-in-Order.ensures.damaged tells)

pub returns-in_err-keep-in-Order-clause-damaged : goal.returns-in_err-keep-in-Order-clause-damaged
returns-in_err-keep-in-Order-clause-damaged g c _ = same_has _ c.from_residual-in_err-keep-in-Order.result _ c.from_residual-in_err-keep-in-Order.ensures.1 tt

pub returns-in_ok-keep-in-Order-clause-takes : goal.returns-in_ok-keep-in-Order-clause-takes
returns-in_ok-keep-in-Order-clause-takes g c tells store coming =
    let graph = graph_of (g.R.Reads.state c.args.space.now).records in
    let kept = kept_rank graph c.in-Order.key c.args.item c.in_ok-rank-in-Order.rank c.in-Order.kept c.keep.new.self
    (c.in_ok-rank-in-Order.ensures.found tells store ∙ ap (rank_in graph c.in-Order.key) c.as_item.ensures.is) c.in_ok-keep-in-Order.ensures in
    let then = one_more_kept c.in-Order.given c.in-Order.descending (ranked graph c.in-Order.key) c.args.item coming c.in-Order.kept c.keep.new.self kept in
    rw c.in-Order.is (
      then ∙ ap (λ (first : List Item). first ++ given_in_order c.in-Order.given c.in-Order.descending
          (c.keep.new.self ++ filter_map (ranked graph c.in-Order.key) coming)) (sym c.new.ensures),
      refl,
    )

pub returns-in-Limit-clause-reads : goal.returns-in-Limit-clause-reads
returns-in-Limit-clause-reads g c = λ tells store.
    let s = g.R.Reads.state c.args.space.now in
    reads_none (stage_reads s.records c.args.self.now c.args.item) s

pub returns-in_ok-outs-in-Dedup-clause-reads : goal.returns-in_ok-outs-in-Dedup-clause-reads
returns-in_ok-outs-in-Dedup-clause-reads g c = λ tells store.
    let s = g.R.Reads.state c.args.space.now in
    reads_none (stage_reads s.records c.args.self.now c.args.item) s

pub returns-in_err-outs-in-Dedup-clause-reads : goal.returns-in_err-outs-in-Dedup-clause-reads
returns-in_err-outs-in-Dedup-clause-reads g c = λ tells store.
    let s = g.R.Reads.state c.args.space.now in
    reads_none (stage_reads s.records c.args.self.now c.args.item) s

pub returns-in-Mapped-clause-reads : goal.returns-in-Mapped-clause-reads
returns-in-Mapped-clause-reads g c = λ tells store.
    let s = g.R.Reads.state c.args.space.now in
    let t = g.R.Reads.state c.mapped.new.space in
    subst (λ (stage : Stage). ReadsAtMost (stage_reads s.records stage c.args.item) s t) (sym c.in-Mapped.is) (c.mapped.ensures.reads tells store)

pub returns-in_ok-keep-in-Order-clause-reads : goal.returns-in_ok-keep-in-Order-clause-reads
returns-in_ok-keep-in-Order-clause-reads g c = λ tells store.
    let s = g.R.Reads.state c.args.space.now in
    let t = g.R.Reads.state c.rank.new.space in
    subst (λ (stage : Stage). ReadsAtMost (stage_reads s.records stage c.args.item) s t) (sym c.in-Order.is) (c.in_ok-rank-in-Order.ensures.at_most)

pub returns-in_err-keep-in-Order-clause-reads : goal.returns-in_err-keep-in-Order-clause-reads
returns-in_err-keep-in-Order-clause-reads g c = λ tells store.
    let s = g.R.Reads.state c.args.space.now in
    let t = g.R.Reads.state c.rank.new.space in
    subst (λ (stage : Stage). ReadsAtMost (stage_reads s.records stage c.args.item) s t) (sym c.in-Order.is) (c.in_ok-rank-in-Order.ensures.at_most)

pub returns-in_err-rank-in-Order-clause-reads : goal.returns-in_err-rank-in-Order-clause-reads
returns-in_err-rank-in-Order-clause-reads g c = λ tells store.
    let s = g.R.Reads.state c.args.space.now in
    let t = g.R.Reads.state c.rank.new.space in
    subst (λ (stage : Stage). ReadsAtMost (stage_reads s.records stage c.args.item) s t) (sym c.in-Order.is) (c.in_err-rank-in-Order.ensures.at_most)
