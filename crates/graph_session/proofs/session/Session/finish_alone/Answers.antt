use Rattle.std.proofs.Common.{◌+◌, ◌≤◌, arith, inl, refl}
use Rattle.plain_graph.specs.Changes.{most_weight, start_weight}
use Rattle.rec_bytes.specs.Pairs.{merged}
use Rattle.txn_core.proofs.StoreRecords.{committed-beneath}
use Rattle.graph_session.specs.Session.{view}
use Rattle.graph_session.proofs.Drafts.{tries-kept}
use Rattle.graph_session.proofs.Taps.{commit-from}
use Rattle.graph_session.proofs.session.Session.finish_alone.Goals as goal

pub returns-in-Ok-keep-clause-finishes : goal.returns-in-Ok-keep-clause-finishes
returns-in-Ok-keep-clause-finishes g c =
    let fits : start_weight + c.in-Ok.field-0.weight ≤ most_weight = omega arith in
    rw c.in-Ok.is (inl (
      fits,
      tries-kept c.in-Ok-keep.ensures.same c.in-Ok-keep.ensures.working refl refl c.in-Ok-keep.ensures.own refl c.in-Ok.field-0.answer
          c.commit_alone.result c.commit_alone.ensures.tries,
    ))

pub returns-in-Ok-keep-clause-taps : goal.returns-in-Ok-keep-clause-taps
returns-in-Ok-keep-clause-taps g c =
    let s = c.args.self.now in
    let fits : start_weight + c.in-Ok.field-0.weight ≤ most_weight = omega arith in
    rw c.in-Ok.is
    (inl (
      fits,
      commit-from g.D.Disk (view s) _ (view c.commit_alone.new.self) c.keep.new.store.base.own.pairs (merged s.store.base.own.pairs s.store.draft.pairs)
          c.in-Ok.field-0.answer c.commit_alone.result c.args.tap.now c.commit_alone.new.tap
          (committed-beneath s.store.base c.keep.new.store.base c.in-Ok-keep.ensures.same)
          c.in-Ok-keep.ensures.own c.commit_alone.ensures.taps,
    ))
