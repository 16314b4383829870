use Rattle.std.proofs.Common.{Err, ap, refl}
use Rattle.std.proofs.lemmas.Result.{err_from_is_err_and}
use Rattle.plain_graph.specs.declared.command.Command.TheVariants as commands
use Rattle.txn_core.specs.Store.{drafted, state_of}
use Rattle.graph_session.proofs.LineDrafts.{changes-refused, changes-stopped, drafts-on, has-read, ids-read, leaves-read, mutation-made, writes-read}
use Rattle.graph_session.proofs.Streams.{Rose-from}
use Rattle.graph_session.proofs.session.Session.draft_mutation.Goals as goal

pub new-requires : goal.new-requires
new-requires g c = c.in-Ok.ensures.shown c.in_ok-items.ensures.shown

pub returns-in_err-items-clause-only : goal.returns-in_err-items-clause-only
returns-in_err-items-clause-only g c = c.in_err-items.ensures.only

pub returns-in-Ok-clause-only : goal.returns-in-Ok-clause-only
returns-in-Ok-clause-only g c =
    let met = c.in-Ok.ensures in
    drafts-on c.in_ok-items.ensures.only
    (record { base = met.onward; weight = refl; health = refl; snaps = refl; brought = met.prefix; later = met.cause.later })

pub returns-in-Err-clause-only : goal.returns-in-Err-clause-only
returns-in-Err-clause-only g c =
    let met = c.in-Err.ensures in
    drafts-on c.in_ok-items.ensures.only
    (record { base = met.onward; weight = refl; health = refl; snaps = refl; brought = met.prefix; later = met.cause.later })

pub returns-in_err-items-clause-drafts : goal.returns-in_err-items-clause-drafts
returns-in_err-items-clause-drafts g c = let p = err_from_is_err_and c.from_residual.result c.from_residual.ensures.1 in
    rw (p.1, p.2) (c.in_err-items.ensures.stopped c.args.mutation.now)

pub returns-in-Ok-clause-drafts : goal.returns-in-Ok-clause-drafts
returns-in-Ok-clause-drafts g c =
    let old = c.args.self.now in
    let mid = c.read_items.new.self in
    let read = c.in_ok-items.ensures in
    rw c.new.ensures (
      (c.in-Ok.field-0.items.items, refl),
      λ told has.
          mutation-made (state_of old.store) (state_of mid.store) read.same c.args.reading.now c.args.mutation.now (read.there told has) _ (read.items told has)
          c.in-Ok.field-0.items.items c.in-Ok.field-0.weight _ _
          (c.in-Ok.ensures.made told (has-read old mid read.same read.names has)),
      λ few. writes-read (state_of old.store) (state_of mid.store) read.same (c.in-Ok.ensures.writes few),
      λ told. (
        c.in_ok-items.items.items,
        c.in-Ok.field-0.items.items,
        refl,
        ids-read (state_of old.store) (state_of mid.store) read.same c.args.mutation.now c.in-Ok.field-0.items.items (c.in-Ok.ensures.ids told),
        leaves-read (state_of old.store) (state_of mid.store) read.same c.args.mutation.now c.in_ok-items.items.items c.in-Ok.field-0.items.items
            (drafted c.mutate.new.space) c.mutate.new.names.names (c.in-Ok.ensures.leaves told),
      ),
    )

pub returns-in-Err-clause-drafts : goal.returns-in-Err-clause-drafts
returns-in-Err-clause-drafts g c =
    let old = c.args.self.now in
    let mid = c.read_items.new.self in
    let read = c.in_ok-items.ensures in
    let met = c.in-Err.ensures in
    changes-stopped (commands.Mutate c.args.reading.now c.args.mutation.now) old c.mutate.new.space.base.disk.now c.in-Err.fault
    (λ told has.
    changes-refused (state_of old.store) (state_of mid.store) read.same c.args.reading.now c.args.mutation.now (read.there told has) _ (read.items told has)
    c.in-Err.fault
    (met.refused told (has-read old mid read.same read.names has)))
    (λ e. Rose-from (g.D.Disk.faults old.store.base.disk.now) (g.D.Disk.faults mid.store.base.disk.now) (g.D.Disk.faults c.mutate.new.space.base.disk.now)
    read.only.later (met.cause.disk (ap Err e))) c.from.result c.from.ensures
