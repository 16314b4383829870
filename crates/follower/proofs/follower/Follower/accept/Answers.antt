use Rattle.std.proofs.Common.{refl, subst, arith}
use Rattle.follower.specs.Shipment.{IsNoShipment, IsShipment}
use Rattle.follower.specs.declared.accept.Accept.TheVariants.{Bad, Gap, Old}
use Rattle.follower.proofs.Accepts.{accepts_same}
use Rattle.follower.proofs.follower.Follower.accept.Goals as goal

pub returns-in-Err-clause-accepts : goal.returns-in-Err-clause-accepts
returns-in-Err-clause-accepts g c =
    let self = c.args.self.now in
    accepts_same g.D.Disk c.args.bytes.now self.store self.have self.live (Bad c.in-Err.at) g.met.D.Disk.only_now (self.standing c.requires)
    (λ same. (subst (λ (shape : _). IsNoShipment shape c.args.bytes.now c.in-Err.at) c.shape-shape.ensures.is c.in-Err.ensures.bad, same))

pub returns-then-number-self-clause-accepts : goal.returns-then-number-self-clause-accepts
returns-then-number-self-clause-accepts g c =
    let self = c.args.self.now in
    let number = c.number_of-number.ensures in
    let low = c.if-number-self.true in
    accepts_same g.D.Disk c.args.bytes.now self.store self.have self.live (Old self.have) g.met.D.Disk.only_now (self.standing c.requires)
    (λ same. (subst (λ (shape : _). IsShipment shape c.args.bytes.now) c.shape-shape.ensures.is c.in_default.ensures.good, omega arith, refl, same))

pub returns-then-number-self-gt-STEP-clause-accepts : goal.returns-then-number-self-gt-STEP-clause-accepts
returns-then-number-self-gt-STEP-clause-accepts g c =
    let self = c.args.self.now in
    let number = c.number_of-number.ensures in
    let high = c.if-number-self-gt-STEP.true in
    accepts_same g.D.Disk c.args.bytes.now self.store self.have self.live (Gap self.have) g.met.D.Disk.only_now (self.standing c.requires)
    (λ same. (subst (λ (shape : _). IsShipment shape c.args.bytes.now) c.shape-shape.ensures.is c.in_default.ensures.good, omega arith, refl, same))
