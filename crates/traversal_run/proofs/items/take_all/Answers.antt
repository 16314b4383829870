use Rattle.std.proofs.Common.{List, arith, sym, subst}
use Rattle.plain_graph.specs.declared.item.Item.{Item}
use Rattle.traversal_run.proofs.AllItems.{IsTaking, taking-end, taking-first, taking-on}
use Rattle.rec_bytes.proofs.Causes.{never_ok, ok_cause}
use Rattle.traversal_run.proofs.Causes.{later_on, memory_cause}
use Rattle.traversal_run.proofs.OnlyReads.{is_read-on}
use Rattle.prop_store.proofs.Exits.{same_has}
use Rattle.traversal_run.proofs.Exits.{memory_blames}
use Rattle.traversal_run.proofs.items.take_all.Goals as goal

pub loop-init : goal.loop-init
loop-init g c =
    let names = c.args.names.now.names in
    let space = c.args.space.now in
    subst (λ (found : List Item). IsTaking g.R.Reads names c.args.run.now space space found c.args.run.now) (sym c.new-items.ensures.items)
    (taking-first g.R.Reads names g.met.R.Reads.stays_onward space c.args.run.now c.requires)

pub loop-preserved : goal.loop-preserved
loop-preserved g c =
    let names = c.args.names.now.names in
    let found = c.loop.items.items in
    let next = c.in-Item.ensures in
    subst (λ (list : List Item). IsTaking g.R.Reads names c.args.run.now c.args.space.now c.next.new.space list c.next.new.self)
    (sym c.in_ok-push-in-Item.ensures.items)
    (taking-on g.R.Reads names c.args.run.now g.met.R.Reads.further_onward c.args.space.now c.loop.space found c.loop.run c.loop.invariant c.next.new.space
    c.next.ensures.read c.next.new.self c.in-Item.item next.item next.shown next.stops)

pub returns-in-End-clause-items : goal.returns-in-End-clause-items
returns-in-End-clause-items g c =
    let inv = c.loop.invariant in
    taking-end g.R.Reads c.args.names.now.names c.args.run.now g.met.R.Reads.further_onward c.args.space.now c.loop.space c.loop.items.items c.loop.run inv
    (λ tells store. c.next.ensures.end tells store inv.goes c.in-End.is)

pub returns-in_err-push-in-Item-clause-items : goal.returns-in_err-push-in-Item-clause-items
returns-in_err-push-in-Item-clause-items g c _ _ = never_ok c.from_residual.result _ _ c.from_residual.ensures.1

pub returns-in_err-push-in-Item-clause-shown : goal.returns-in_err-push-in-Item-clause-shown
returns-in_err-push-in-Item-clause-shown g c = never_ok c.from_residual.result _ _ c.from_residual.ensures.1

pub returns-in_err-push-in-Item-clause-damaged : goal.returns-in_err-push-in-Item-clause-damaged
returns-in_err-push-in-Item-clause-damaged g c _ = same_has _ c.from_residual.result _ c.from_residual.ensures.1 tt

pub returns-in_err-push-in-Item-clause-read : goal.returns-in_err-push-in-Item-clause-read
returns-in_err-push-in-Item-clause-read g c =
    is_read-on g.R.Reads g.met.R.Reads.further_onward _ _ _ c.loop.invariant.read c.next.ensures.read

pub returns-in_err-push-in-Item-clause-cause : goal.returns-in_err-push-in-Item-clause-cause
returns-in_err-push-in-Item-clause-cause g c =
    memory_cause _ _ c.from_residual.result (later_on c.loop.invariant.read.later c.next.ensures.read.later) c.from_residual.ensures.1

pub returns-in-End-clause-read : goal.returns-in-End-clause-read
returns-in-End-clause-read g c =
    is_read-on g.R.Reads g.met.R.Reads.further_onward _ _ _ c.loop.invariant.read c.next.ensures.read

pub returns-in-End-clause-cause : goal.returns-in-End-clause-cause
returns-in-End-clause-cause g c =
    ok_cause _ _ _ _ (later_on c.loop.invariant.read.later c.next.ensures.read.later)

pub returns-in-Disk-clause-read : goal.returns-in-Disk-clause-read
returns-in-Disk-clause-read g c =
    is_read-on g.R.Reads g.met.R.Reads.further_onward _ _ _ c.loop.invariant.read c.next.ensures.read

pub returns-in-Disk-clause-cause : goal.returns-in-Disk-clause-cause
returns-in-Disk-clause-cause g c =
    let before = c.loop.invariant.read.later in
    let rose = c.next.ensures.cause c.loop.invariant.goes c.in-Disk.is in
    record { later = later_on before c.next.ensures.read.later; disk = λ blamed. omega (arith, before, rose) }

pub returns-in-Damaged-clause-read : goal.returns-in-Damaged-clause-read
returns-in-Damaged-clause-read g c =
    is_read-on g.R.Reads g.met.R.Reads.further_onward _ _ _ c.loop.invariant.read c.next.ensures.read

pub returns-in-Damaged-clause-cause : goal.returns-in-Damaged-clause-cause
returns-in-Damaged-clause-cause g c =
    record { later = later_on c.loop.invariant.read.later c.next.ensures.read.later; disk = λ blamed. absurd cc }

pub returns-clause-read : goal.returns-clause-read
returns-clause-read g c = c.loop.invariant.read

pub returns-in-Memory-clause-read : goal.returns-in-Memory-clause-read
returns-in-Memory-clause-read g c = is_read-on g.R.Reads g.met.R.Reads.further_onward _ _ _ c.loop.invariant.read c.next.ensures.read

pub returns-in-Memory-clause-cause : goal.returns-in-Memory-clause-cause
returns-in-Memory-clause-cause g c = memory_blames _ _ (later_on c.loop.invariant.read.later c.next.ensures.read.later)

pub returns-clause-cause : goal.returns-clause-cause
returns-clause-cause g c = memory_blames _ _ c.loop.invariant.read.later
