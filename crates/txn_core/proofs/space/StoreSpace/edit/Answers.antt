use mathlib.Core.Bool.{false≢true}
use Rattle.std.proofs.Common.{rules, refl, ◌∙◌}
use Rattle.txn_core.proofs.States.{no_blame, state_edited, state_refused, state_written}
use Rattle.txn_core.proofs.space.StoreSpace.edit.Goals as goal

pub returns-in-Ok-edit : goal.returns-in-Ok-edit
returns-in-Ok-edit g c =
    let old = c.args.self.now in
    let mid = c.get.new.self in (
      (
        refl,
        (λ w _. record {
          state = state_written g.D.Disk old mid (record mid { draft = c.edit.follows.lender w }) c.args.key w c.get.ensures.state refl refl
              (c.edit.follows.holds w (search rules));
          onward = c.get.ensures.onward;
          cause = no_blame _ _ _ _ c.get.ensures.cause;
        }),
        tt,
      ),
      record {
        lends = tt;
        got = λ tells. c.in-Ok-edit.ensures.got ∙ state_edited g.D.Disk old mid c.args.key c.in-Ok.below c.get.ensures.state
            (c.in-Ok.ensures.got tells);
      },
    )

pub returns-in-Err-edit : goal.returns-in-Err-edit
returns-in-Err-edit g c = (
  (
    refl,
    (λ w e. absurd (false≢true e)),
    record {
      state = state_refused g.D.Disk c.args.self.now c.get.new.self (record c.get.new.self { draft = c.edit.follows.lender-at-none }) c.get.ensures.state refl
          refl (rw c.in-Err-edit.is at c.edit.follows.holds-at-none);
      onward = c.get.ensures.onward;
      cause = record { later = c.get.ensures.cause.later; disk = search rules };
    },
  ),
  record { lends = tt; got = λ _. tt },
)

pub returns-in-Err : goal.returns-in-Err
returns-in-Err g c = (
  (
    refl,
    (λ w e. absurd (false≢true e)),
    record {
      state = c.in-Err.ensures.state;
      onward = c.in-Err.ensures.onward;
      cause =
          record { later = c.in-Err.ensures.cause.later; disk = search rules };
    },
  ),
  record { lends = tt; got = λ _. tt },
)
