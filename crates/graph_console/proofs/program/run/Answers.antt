use Rattle.std.proofs.Common.{◌≡◌, inl, inr, true, false, subst, rules}
use Rattle.disk_model.proofs.Spans.{only_reads_none}
use Rattle.recovery.specs.Finding.{IsCareful}
use Rattle.fault_count.specs.Cause.{Rose}
use Rattle.txn_core.specs.Config.{Suits}
use Rattle.txn_core.specs.Opening as store
use Rattle.txn_core.specs.declared.config.Config.{Config}
use Rattle.txn_core.specs.declared.open_fault.OpenFault.TheVariants.{Memory}
use Rattle.graph_session.specs.Known.{as_known}
use Rattle.graph_session.specs.Opening.{IsUnopened, LeavesRefused, Opens}
use Rattle.graph_session.specs.Session.{shared_view, view}
use Rattle.graph_session.proofs.Knowing.{leaves-known, told_of, unopened-known}
use Rattle.graph_session.proofs.SnapshotTaking.{opens-shared}
use Rattle.graph_session.specs.SnapshotEffects.{SharedView}
use Rattle.graph_console.specs.AnyDisk.{terms_over}
use Rattle.graph_console.specs.Sending.{OpensSession}
use Rattle.graph_console.specs.Program.{Serves, Writes, config_for, terms_for}
use Rattle.graph_console.specs.Run.{begins_with}
use Rattle.graph_console.specs.Unopened.{EndsUnopened, HasOtherShape}
use Rattle.graph_console.proofs.AnyDisk.{walks_opened}
use Rattle.graph_console.proofs.Failing.{failed_rose}
use Rattle.graph_console.proofs.Lossless.{ends_over}
use Rattle.graph_console.proofs.Opened.{asked_other, at_equal, bad_files, disk_failed, ends_unopened, other_shape}
use Rattle.graph_console.proofs.Opened.{serves_opened, serves_unopened, sound_for, unopened_memory}
use Rattle.graph_console.proofs.program.run.Goals as goal

pub returns-in_default-clause-serves : goal.returns-in_default-clause-serves
returns-in_default-clause-serves g c = λ known holds s k.
    serves_unopened (terms_for (as_known known g.D.Disk) c.args.options c.args.disk.now c.args.disk.now) Memory
    (unopened_memory (as_known known g.D.Disk) g.met.D.Disk.only_now (config_for c.args.options) c.args.disk.now)
    _ _ c.end_without_memory.result _ _ (c.end_without_memory.ensures.written k)

pub returns-in_default-clause-steps : goal.returns-in_default-clause-steps
returns-in_default-clause-steps g c = λ s k.
    serves_unopened (terms_over g.D.Disk c.args.options c.args.disk.now c.args.disk.now) Memory
    (unopened_memory g.D.Disk g.met.D.Disk.only_now (config_for c.args.options) c.args.disk.now)
    _ _ c.end_without_memory.result _ _ (c.end_without_memory.ensures.written k)

pub returns-in_default-clause-unopened : goal.returns-in_default-clause-unopened
returns-in_default-clause-unopened g c = λ ends k.
    ends_unopened (IsUnopened g.D.Disk (config_for c.args.options) c.args.disk.now c.args.disk.now) Memory
    (unopened_memory g.D.Disk g.met.D.Disk.only_now (config_for c.args.options) c.args.disk.now)
    _ _ c.end_without_memory.result ends (c.end_without_memory.ensures.written k)

pub returns-in-Ok-open-clause-serves : goal.returns-in-Ok-open-clause-serves
returns-in-Ok-open-clause-serves g c = λ known holds s k.
    let config_is : c.config_of.result ≡ config_for c.args.options = c.config_of.ensures in
    let opens = subst (λ (config : Config). Opens g.D.Disk config c.args.disk.now (view c.in-Ok-open.session)) config_is c.in-Ok-open.ensures.opened in
    let begins = opens.begins known holds in
    let at = opens-shared (as_known known g.D.Disk) (shared_view c.in-Ok-open.session) begins.0 begins.2
    (λ told. c.in-Ok-open.ensures.stored (told_of known g.D.Disk told)) begins.1.closed c.in-Ok-open.ensures.no_snapshots in
    at_equal
    (λ (disk : g.row.D.Denot). Writes (g.K.Sink.taken c.args.output.now) (g.K.Sink.taken c.serve-exit.new.output)
    (Serves (terms_for (as_known known g.D.Disk) c.args.options c.args.disk.now disk) c.serve-exit.result (g.S.Source.left c.args.input.now)
    (g.S.Source.left c.serve-exit.new.input)))
    (view c.serve-exit.new.session).disk _
    (serves_opened (as_known known g.D.Disk) c.args.options c.args.disk.now (view c.in-Ok-open.session) (view c.serve-exit.new.session).disk
    (leaves-known known g.D.Disk (config_for c.args.options) c.args.disk.now (view c.in-Ok-open.session).disk opens.crash) opens.later holds begins.0
    begins.1 begins.2 c.serve-exit.result _ _ _ _
    (c.serve-exit.ensures.serves known (begins_with begins.0) at s k))
    (search rules)

pub returns-in-Ok-open-clause-steps : goal.returns-in-Ok-open-clause-steps
returns-in-Ok-open-clause-steps g c = λ s k.
    let config_is : c.config_of.result ≡ config_for c.args.options = c.config_of.ensures in
    let first : SharedView g.row.D.Denot = shared_view c.in-Ok-open.session in
    let opens = subst (λ (config : Config). Opens g.D.Disk config c.args.disk.now (view c.in-Ok-open.session)) config_is c.in-Ok-open.ensures.opened in
    let starts : OpensSession g.D.Disk (config_for c.args.options) c.args.disk.now first = record {
      opens = opens;
      none = c.in-Ok-open.ensures.no_snapshots;
      stored = c.in-Ok-open.ensures.stored;
      records = λ told. subst (λ (config : Config). store.Opens (g.D.Disk.reads c.args.disk.now) config first.session.console.shape
          first.session.console.committed) config_is (c.in-Ok-open.ensures.records told);
    } in
    let begins = opens.begins false (λ never. absurd never) in
    let at = opens-shared (as_known false g.D.Disk) first begins.0 begins.2 (λ never. absurd never) begins.1.closed c.in-Ok-open.ensures.no_snapshots in
    at_equal
    (λ (disk : g.row.D.Denot). Writes (g.K.Sink.taken c.args.output.now) (g.K.Sink.taken c.serve-exit.new.output)
    (Serves (terms_over g.D.Disk c.args.options c.args.disk.now disk) c.serve-exit.result (g.S.Source.left c.args.input.now)
    (g.S.Source.left c.serve-exit.new.input)))
    (view c.serve-exit.new.session).disk _
    (walks_opened g.D.Disk c.args.options c.args.disk.now (view c.serve-exit.new.session).disk first starts
    (ends_over g.D.Disk g.met.D.Disk.only_now g.met.D.Disk.counts_now (config_for c.args.options) c.args.disk.now (view c.serve-exit.new.session).disk first
    starts) c.serve-exit.result _ _ _ _
    (c.serve-exit.ensures.steps (begins_with begins.0) at s k))
    (search rules)

pub returns-in-Ok-open-clause-store_failed : goal.returns-in-Ok-open-clause-store_failed
returns-in-Ok-open-clause-store_failed g c = λ told stands s k is.
    failed_rose g.D.Disk c.args.options c.args.disk.now _ told c.serve-exit.result _ _ _ _ (returns-in-Ok-open-clause-serves g c true (λ _. stands) s k) is

pub returns-clause-serves : goal.returns-clause-serves
returns-clause-serves g c = λ known holds s k.
    let config_is : c.config_of.result ≡ config_for c.args.options = c.config_of.ensures in
    let unopened = subst (λ (config : Config). IsUnopened g.D.Disk config c.args.disk.now c.in-Err.field-0.disk.now c.in-Err.field-0.why) config_is
    c.in-Err.ensures.unopened in
    at_equal
    (λ (disk : g.row.D.Denot). Writes (g.K.Sink.taken c.args.output.now) (g.K.Sink.taken c.end_unopened.new.output)
    (Serves (terms_for (as_known known g.D.Disk) c.args.options c.args.disk.now disk) c.end_unopened.result (g.S.Source.left c.args.input.now)
    (g.S.Source.left c.args.input.now)))
    c.in-Err.field-0.disk.now _
    (serves_unopened (terms_for (as_known known g.D.Disk) c.args.options c.args.disk.now c.in-Err.field-0.disk.now) c.in-Err.field-0.why
    (unopened-known known unopened) _ _ c.end_unopened.result _ _ (c.end_unopened.ensures.written k))
    (search rules)

pub returns-clause-steps : goal.returns-clause-steps
returns-clause-steps g c = λ s k.
    let config_is : c.config_of.result ≡ config_for c.args.options = c.config_of.ensures in
    let unopened = subst (λ (config : Config). IsUnopened g.D.Disk config c.args.disk.now c.in-Err.field-0.disk.now c.in-Err.field-0.why) config_is
    c.in-Err.ensures.unopened in
    at_equal
    (λ (disk : g.row.D.Denot). Writes (g.K.Sink.taken c.args.output.now) (g.K.Sink.taken c.end_unopened.new.output)
    (Serves (terms_over g.D.Disk c.args.options c.args.disk.now disk) c.end_unopened.result (g.S.Source.left c.args.input.now)
    (g.S.Source.left c.args.input.now)))
    c.in-Err.field-0.disk.now _
    (serves_unopened (terms_over g.D.Disk c.args.options c.args.disk.now c.in-Err.field-0.disk.now) c.in-Err.field-0.why unopened _ _ c.end_unopened.result _ _
    (c.end_unopened.ensures.written k))
    (search rules)

pub returns-clause-unopened : goal.returns-clause-unopened
returns-clause-unopened g c = λ ends k.
    let config_is : c.config_of.result ≡ config_for c.args.options = c.config_of.ensures in
    let unopened = subst (λ (config : Config). IsUnopened g.D.Disk config c.args.disk.now c.in-Err.field-0.disk.now c.in-Err.field-0.why) config_is
    c.in-Err.ensures.unopened in
    at_equal
    (λ (disk : g.row.D.Denot). Writes (g.K.Sink.taken c.args.output.now) (g.K.Sink.taken c.end_unopened.new.output)
    (EndsUnopened (IsUnopened g.D.Disk (config_for c.args.options) c.args.disk.now disk) c.end_unopened.result))
    c.in-Err.field-0.disk.now _
    (ends_unopened (IsUnopened g.D.Disk (config_for c.args.options) c.args.disk.now c.in-Err.field-0.disk.now) c.in-Err.field-0.why unopened _ _
    c.end_unopened.result ends (c.end_unopened.ensures.written k))
    (search rules)

pub returns-clause-sound : goal.returns-clause-sound
returns-clause-sound g c = λ shape graph told stands.
    let config_is : c.config_of.result ≡ config_for c.args.options = c.config_of.ensures in
    let sound = sound_for shape c.config_of.result c.in-Err.field-0.why (c.in-Err.ensures.unopened.sound told shape graph stands) c.end_unopened.result
    c.end_unopened.ensures.cause in
    (sound.0, λ stored asked is. let differs = sound.1 stored asked is in (differs.0, subst (λ (config : Config). ¬ Suits config shape) config_is differs.1))

pub returns-clause-disk_fault : goal.returns-clause-disk_fault
returns-clause-disk_fault g c = λ is.
    at_equal (λ (disk : g.row.D.Denot). Rose (g.D.Disk.faults c.args.disk.now) (g.D.Disk.faults disk)) c.in-Err.field-0.disk.now _
    (c.in-Err.ensures.unopened.cause (disk_failed c.in-Err.field-0.why c.end_unopened.result c.end_unopened.ensures.cause is)) (search rules)

pub returns-in_default-clause-careful : goal.returns-in_default-clause-careful
returns-in_default-clause-careful g c = λ told. inl (only_reads_none g.D.Disk c.args.disk.now g.met.D.Disk.only_now)

pub returns-in-Ok-open-clause-careful : goal.returns-in-Ok-open-clause-careful
returns-in-Ok-open-clause-careful g c = λ told. inr (c.in-Ok-open.ensures.opened.recoverable told)

pub returns-clause-careful : goal.returns-clause-careful
returns-clause-careful g c =
    at_equal (λ (disk : g.row.D.Denot). IsCareful g.D.Disk c.args.disk.now disk) c.in-Err.field-0.disk.now _ c.in-Err.ensures.unopened.careful (search rules)

pub returns-in_default-clause-untouched : goal.returns-in_default-clause-untouched
returns-in_default-clause-untouched g c = λ told is. inl (only_reads_none g.D.Disk c.args.disk.now g.met.D.Disk.only_now)

-- what was served ends in none of the exits of a store that isn't opened
pub returns-in-Ok-open-clause-unopened : goal.returns-in-Ok-open-clause-unopened
returns-in-Ok-open-clause-unopened g c = λ ends k. absurd (c.serve-exit.ensures.exits.1 ends)

pub returns-in-Ok-open-clause-unread : goal.returns-in-Ok-open-clause-unread
returns-in-Ok-open-clause-unread g c = λ ends. absurd (c.serve-exit.ensures.exits.1 ends)

pub returns-in-Ok-open-clause-sound : goal.returns-in-Ok-open-clause-sound
returns-in-Ok-open-clause-sound g c = λ shape graph told stands. (
  (λ is. c.serve-exit.ensures.exits.1 (inr (inl is))),
  (λ stored asked is. absurd (c.serve-exit.ensures.exits.1 (inr (inr (inl (stored, asked, is)))))),
)

pub returns-in-Ok-open-clause-untouched : goal.returns-in-Ok-open-clause-untouched
returns-in-Ok-open-clause-untouched g c = λ told is. absurd (c.serve-exit.ensures.exits.1 (inr (inl is)))

pub returns-clause-untouched : goal.returns-clause-untouched
returns-clause-untouched g c = λ told is.
    at_equal (λ (disk : g.row.D.Denot). LeavesRefused g.D.Disk c.args.disk.now disk) c.in-Err.field-0.disk.now _
    (c.in-Err.ensures.unopened.untouched told (bad_files c.in-Err.field-0.why c.end_unopened.result c.end_unopened.ensures.cause is)) (search rules)

pub returns-in_default-clause-differs : goal.returns-in_default-clause-differs
returns-in_default-clause-differs g c = λ stored asked told is. absurd (cc (asked_other Memory c.end_without_memory.result c.end_without_memory.ensures.cause
    stored asked is))

pub returns-in-Ok-open-clause-differs : goal.returns-in-Ok-open-clause-differs
returns-in-Ok-open-clause-differs g c = λ stored asked told is. absurd (c.serve-exit.ensures.exits.1 (inr (inr (inl (stored, asked, is)))))

pub returns-clause-differs : goal.returns-clause-differs
returns-clause-differs g c = λ stored asked told is.
    let config_is : c.config_of.result ≡ config_for c.args.options = c.config_of.ensures in
    at_equal (λ (disk : g.row.D.Denot). HasOtherShape g.D.Disk (config_for c.args.options) c.args.disk.now disk stored asked) c.in-Err.field-0.disk.now _
    (subst (λ (config : Config). HasOtherShape g.D.Disk config c.args.disk.now c.in-Err.field-0.disk.now stored asked) config_is
    (other_shape g.D.Disk c.config_of.result c.args.disk.now c.in-Err.field-0.disk.now c.in-Err.field-0.why stored asked c.in-Err.ensures.unopened told
    (asked_other c.in-Err.field-0.why c.end_unopened.result c.end_unopened.ensures.cause stored asked is))) (search rules)
