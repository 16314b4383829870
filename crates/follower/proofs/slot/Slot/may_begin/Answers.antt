use Rattle.std.proofs.Common.{ℕ, ◌≤◌, ◌^◌, arith, subst}
use Rattle.follower.specs.Slot.{IsLeastFrom, least_next}
use Rattle.follower.proofs.Slots.{least_stands, none_begins, stands_begins}
use Rattle.follower.proofs.slot.Slot.may_begin.Goals as goal

pub returns-then-id : goal.returns-then-id
returns-then-id c =
    let least = subst (λ (n : ℕ). IsLeastFrom n c.args.low c.args.power c.least_from-id.result) c.least_next.ensures.is c.least_from-id.ensures in
    let great : 2 ^ 32 ≤ c.least_from-id.result = omega arith in (
      λ t. absurd (cc),
      λ begins. absurd (none_begins c.args.self.now c.args.file c.args.low c.args.power c.least_from-id.result c.requires.allowed
          c.requires.is_power c.requires.below least great begins),
    )

pub returns : goal.returns
returns c =
    let least = subst (λ (n : ℕ). IsLeastFrom n c.args.low c.args.power c.least_from-id.result) c.least_next.ensures.is c.least_from-id.ensures in (
      λ t. stands_begins c.args.self.now c.args.file c.args.low c.args.power c.least_from-id.result (least_next c.args.self.now.last c.args.file) least
          (c.may_have.ensures.0 t),
      λ begins. c.may_have.ensures.1 (least_stands c.args.self.now c.args.file c.args.low c.args.power c.least_from-id.result c.requires.is_power
          c.requires.below least begins),
    )
