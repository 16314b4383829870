use Rattle.std.proofs.Common.{rules, arith, refl, ap, ◌∙◌, ℕ}
use Rattle.rec_bytes.specs.MapSpace.{blank_state}
use Rattle.rec_bytes.specs.Space.{State, after_put, laid_state}
use Rattle.rec_bytes.proofs.Spaces.{laid_state-put}
use Rattle.rec_bytes.proofs.map_space.MapSpaceSpace.edit.Goals as goal

pub returns-in-Ok : goal.returns-in-Ok
returns-in-Ok c =
    let old = c.args.self.now in
    let base : ℕ → State = λ n. record (blank_state old.shape.shape) { reads = n } in (
      (
        refl,
        (λ w _. record {
          state = laid_state-put (base c.saturating_add-self.result) old.set.pairs (c.edit.follows.lender w).pairs c.args.key w
              (c.edit.follows.holds w (search rules))
              ∙ ap (λ n. after_put (laid_state (base n) old.set.pairs) c.args.key w) c.saturating_add-self.ensures;
          onward = search rules;
          cause = record { later = omega arith; disk = search rules };
        }),
        tt,
      ),
      record { lends = tt; got = λ _. c.in-Ok.ensures.got },
    )
