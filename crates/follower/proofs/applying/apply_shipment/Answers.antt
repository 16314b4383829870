use Rattle.std.proofs.Common.{◌∙◌, ap}
use Rattle.follower.specs.Taken.{taken}
use Rattle.follower.proofs.Applies.{applies_not, applies_now, applies_perhaps, beneath_after, beneath_then}
use Rattle.follower.proofs.applying.apply_shipment.Goals as goal

pub returns-in-Err-clause-applies : goal.returns-in-Err-clause-applies
returns-in-Err-clause-applies g c =
    let old = c.args.store.now in
    let begun = c.begin.new.self in
    let mid = c.put_and_keep.new.store in
    applies_not g.D.Disk c.args.bytes.now old c.rollback.new.self c.requires.live
    (beneath_after g.D.Disk old.base begun.base c.rollback.new.self.base c.begin.ensures.same (beneath_then g.D.Disk begun.base mid.base
    c.rollback.new.self.base c.put_and_keep.ensures.beneath c.rollback.ensures.same))

pub returns-in-Ok-commit-clause-applies : goal.returns-in-Ok-commit-clause-applies
returns-in-Ok-commit-clause-applies g c =
    let old = c.args.store.now in
    let begun = c.begin.new.self in
    let mid = c.put_and_keep.new.store in
    applies_now g.D.Disk c.args.bytes.now old mid c.commit.new.self c.requires.live
    (beneath_after g.D.Disk old.base begun.base mid.base c.begin.ensures.same c.put_and_keep.ensures.beneath)
    (c.in-Ok.ensures.working ∙ ap (λ (records : _). taken records c.args.bytes.now) c.begin.ensures.read)
    c.commit.ensures.crash c.commit.ensures.cause.later c.in-Ok-commit.ensures.done

pub returns-in-Err-commit-clause-applies : goal.returns-in-Err-commit-clause-applies
returns-in-Err-commit-clause-applies g c =
    let old = c.args.store.now in
    let begun = c.begin.new.self in
    let mid = c.put_and_keep.new.store in
    applies_perhaps g.D.Disk c.args.bytes.now old mid c.commit.new.self c.requires.live
    (beneath_after g.D.Disk old.base begun.base mid.base c.begin.ensures.same c.put_and_keep.ensures.beneath)
    (c.in-Ok.ensures.working ∙ ap (λ (records : _). taken records c.args.bytes.now) c.begin.ensures.read)
    c.commit.ensures.crash c.commit.ensures.cause.later c.in-Err-commit.ensures.failed c.in-Err-commit.ensures.cause.failed
