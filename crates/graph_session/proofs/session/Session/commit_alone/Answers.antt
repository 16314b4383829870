use Rattle.std.proofs.Common.{inl, inr, refl}
use Rattle.graph_session.proofs.Drafts.{records-failed}
use Rattle.graph_session.proofs.Taps.{takes-then, takes-weaker, tapped-written}
use Rattle.graph_session.specs.Session.{view}
use Rattle.graph_session.specs.Tapping.{HasWritten, IsEmpty}
use Rattle.graph_session.proofs.session.Session.commit_alone.Goals as goal

pub returns-in-Ok-clause-tries : goal.returns-in-Ok-clause-tries
returns-in-Ok-clause-tries g c =
    let done = c.in-Ok.ensures in
    record {
      crash = done.crash;
      later = done.cause.later;
      sights = done.sights;
      writes = refl;
      ended = done.ended;
      held = done.held;
      ends = inl (
        refl,
        record {
          closes = record { same = done.same; in_transaction = done.closed; own = done.own; draft = done.draft };
          health = refl;
          live = done.done.live;
          names = refl;
          committed = done.done.space;
          stored = done.done.stored;
        },
      );
    }

pub returns-in-Err-clause-tries : goal.returns-in-Err-clause-tries
returns-in-Err-clause-tries g c =
    let done = c.in-Err.ensures in
    record {
      crash = done.crash;
      later = done.cause.later;
      sights = done.sights;
      writes = refl;
      ended = done.ended;
      held = done.held;
      ends = inr (
        refl,
        records-failed c.args.self.now _ (record { same = done.same; in_transaction = done.closed; own = done.own; draft = done.draft })
            refl refl done.cause.failed done.failed,
      );
    }

pub returns-in-Ok-clause-taps : goal.returns-in-Ok-clause-taps
returns-in-Ok-clause-taps g c =
    let done = c.in-Ok.ensures in
    inl (
      refl,
      takes-weaker c.args.tap.now c.fill.new.tap (λ pairs has. (
        has.is,
        tapped-written (view c.args.self.now) _ pairs has done.same.shape
            done.done.space,
      )) c.fill.ensures,
    )

pub returns-in-Err-clause-taps : goal.returns-in-Err-clause-taps
returns-in-Err-clause-taps g c = inr (
  refl,
  takes-then (HasWritten (view c.args.self.now).console) IsEmpty c.args.tap.now c.fill.new.tap c.forget.new.tap
      c.fill.ensures c.forget.ensures,
)
