use Rattle.std.proofs.Common.{◌≡◌, inl, inr, sym, ap, subst, Err}
use Rattle.disk_model.proofs.Spans.{only_reads_none}
use Rattle.txn_core.specs.Config.{Suits}
use Rattle.txn_core.specs.declared.open_fault.OpenFault.TheVariants.{Memory}
use Rattle.console_words.specs.declared.asked.Asked.TheVariants.{Follow, Run, Sample}
use Rattle.console_words.specs.declared.run_options.RunOptions.{RunOptions}
use Rattle.console_words.specs.declared.sample_options.SampleOptions.{SampleOptions}
use Rattle.graph_session.specs.Known.{as_known}
use Rattle.graph_session.specs.Opening.{IsUnopened}
use Rattle.graph_console.specs.AnyDisk.{terms_over}
use Rattle.graph_console.specs.Follow.{Follows}
use Rattle.graph_console.specs.Program.{Serves, Writes, config_for, terms_for}
use Rattle.graph_console.specs.Sample.{Samples}
use Rattle.graph_console.specs.Unopened.{EndsUnopened, HasOtherShape}
use Rattle.graph_console.proofs.AskedFor.{asks-not_run, asks-nothing, follow-not_run, follow-not_sample, follow_within}
use Rattle.graph_console.proofs.AskedFor.{other_exit, run-not_follow, run-not_sample, run_allowed, same_follow}
use Rattle.graph_console.proofs.AskedFor.{same_run, same_sample, sample-not_follow, sample-not_run, sample_within}
use Rattle.graph_console.proofs.Follows.{lacks_follow}
use Rattle.graph_console.proofs.Opened.{asked_other, ends_unopened, refuses_usage, serves_unopened, unopened_memory}
use Rattle.graph_console.proofs.Samples.{ends_first}
use Rattle.graph_console.proofs.program.graph_main.Goals as goal

pub returns-in-Err-Usage-clause-serves : goal.returns-in-Err-Usage-clause-serves
returns-in-Err-Usage-clause-serves g c = λ known options asks holds s k.
    absurd (rw c.deref.ensures.value at (c.in-Err-Usage.ensures.usage (ap Err c.in-Err-Usage.field-0-is)) (Run options) asks)

pub returns-in-Err-Usage-clause-steps : goal.returns-in-Err-Usage-clause-steps
returns-in-Err-Usage-clause-steps g c = λ options asks s k. absurd (rw c.deref.ensures.value at (c.in-Err-Usage.ensures.usage
    (ap Err c.in-Err-Usage.field-0-is)) (Run options) asks)

pub returns-in-Err-Usage-clause-usage : goal.returns-in-Err-Usage-clause-usage
returns-in-Err-Usage-clause-usage g c = λ is. rw c.deref.ensures.value at (c.in-Err-Usage.ensures.usage (ap Err c.in-Err-Usage.field-0-is))

pub returns-in-Err-Usage-clause-refuses : goal.returns-in-Err-Usage-clause-refuses
returns-in-Err-Usage-clause-refuses g c = λ asks k. refuses_usage c.end_with_line.result _ _ (c.end_with_line.ensures.written k)

pub returns-in-Err-Usage-clause-samples : goal.returns-in-Err-Usage-clause-samples
returns-in-Err-Usage-clause-samples g c = λ options asks k. absurd (rw c.deref.ensures.value at (c.in-Err-Usage.ensures.usage
    (ap Err c.in-Err-Usage.field-0-is)) (Sample options) asks)

pub returns-in-Err-Usage-clause-sampled : goal.returns-in-Err-Usage-clause-sampled
returns-in-Err-Usage-clause-sampled g c = λ asks. absurd (asks-nothing _ (rw c.deref.ensures.value at (c.in-Err-Usage.ensures.usage
    (ap Err c.in-Err-Usage.field-0-is))) asks)

pub returns-in-Err-Usage-clause-follows : goal.returns-in-Err-Usage-clause-follows
returns-in-Err-Usage-clause-follows g c = λ options asks k. absurd (rw c.deref.ensures.value at (c.in-Err-Usage.ensures.usage
    (ap Err c.in-Err-Usage.field-0-is)) (Follow options) asks)

pub returns-in-Err-Memory-clause-samples : goal.returns-in-Err-Memory-clause-samples
returns-in-Err-Memory-clause-samples g c = λ options asks k.
    ends_first (Unit {0}) options _ _ c.end_without_memory.result (c.end_without_memory.ensures.written k)

pub returns-in-Err-Memory-clause-follows : goal.returns-in-Err-Memory-clause-follows
returns-in-Err-Memory-clause-follows g c = λ options asks k.
    lacks_follow (Unit {0}) options _ _ c.end_without_memory.result (c.end_without_memory.ensures.written k)

pub returns-in-Err-Memory-clause-serves : goal.returns-in-Err-Memory-clause-serves
returns-in-Err-Memory-clause-serves g c = λ known options asks holds s k.
    serves_unopened (terms_for (as_known known g.D.Disk) options c.args.disk.now c.args.disk.now) Memory
    (unopened_memory (as_known known g.D.Disk) g.met.D.Disk.only_now (config_for options) c.args.disk.now)
    _ _ c.end_without_memory.result _ _ (c.end_without_memory.ensures.written k)

pub returns-in-Err-Memory-clause-steps : goal.returns-in-Err-Memory-clause-steps
returns-in-Err-Memory-clause-steps g c = λ options asks s k.
    serves_unopened (terms_over g.D.Disk options c.args.disk.now c.args.disk.now) Memory
    (unopened_memory g.D.Disk g.met.D.Disk.only_now (config_for options) c.args.disk.now)
    _ _ c.end_without_memory.result _ _ (c.end_without_memory.ensures.written k)

pub returns-in-Err-Memory-clause-unopened : goal.returns-in-Err-Memory-clause-unopened
returns-in-Err-Memory-clause-unopened g c = λ options asks ends k.
    ends_unopened (IsUnopened g.D.Disk (config_for options) c.args.disk.now c.args.disk.now) Memory
    (unopened_memory g.D.Disk g.met.D.Disk.only_now (config_for options) c.args.disk.now)
    _ _ c.end_without_memory.result ends (c.end_without_memory.ensures.written k)

pub run-requires : goal.run-requires
run-requires g c = run_allowed _ c.in-Run.options c.in-Ok.asked c.in-Ok.ensures.taken c.in-Run.is

pub returns-in-Run-clause-serves : goal.returns-in-Run-clause-serves
returns-in-Run-clause-serves g c = λ known options asks holds s k.
    let same : options ≡ c.in-Run.options = same_run options c.in-Run.options c.in-Ok.asked
    (rw c.deref.ensures.value at c.in-Ok.ensures.only (Run options) asks) c.in-Run.is in
    subst
    (λ (o : RunOptions). Writes (g.K.Sink.taken c.args.output.now) (g.K.Sink.taken c.run.new.output)
    (Serves (terms_for (as_known known g.D.Disk) o c.args.disk.now c.run.new.disk) c.run.result (g.S.Source.left c.args.input.now)
    (g.S.Source.left c.run.new.input)))
    (sym same) (c.run.ensures.serves known holds s k)

pub returns-in-Run-clause-steps : goal.returns-in-Run-clause-steps
returns-in-Run-clause-steps g c = λ options asks s k.
    let same : options ≡ c.in-Run.options = same_run options c.in-Run.options c.in-Ok.asked
    (rw c.deref.ensures.value at c.in-Ok.ensures.only (Run options) asks) c.in-Run.is in
    subst
    (λ (o : RunOptions). Writes (g.K.Sink.taken c.args.output.now) (g.K.Sink.taken c.run.new.output)
    (Serves (terms_over g.D.Disk o c.args.disk.now c.run.new.disk) c.run.result (g.S.Source.left c.args.input.now) (g.S.Source.left c.run.new.input)))
    (sym same) (c.run.ensures.steps s k)

pub returns-in-Run-clause-unopened : goal.returns-in-Run-clause-unopened
returns-in-Run-clause-unopened g c = λ options asks ends k.
    let same : options ≡ c.in-Run.options = same_run options c.in-Run.options c.in-Ok.asked
    (rw c.deref.ensures.value at c.in-Ok.ensures.only (Run options) asks) c.in-Run.is in
    subst
    (λ (o : RunOptions). Writes (g.K.Sink.taken c.args.output.now) (g.K.Sink.taken c.run.new.output) (EndsUnopened (IsUnopened g.D.Disk (config_for o)
    c.args.disk.now c.run.new.disk) c.run.result))
    (sym same) (c.run.ensures.unopened ends k)

pub returns-in-Err-Usage-clause-careful : goal.returns-in-Err-Usage-clause-careful
returns-in-Err-Usage-clause-careful g c = λ told. inl (only_reads_none g.D.Disk c.args.disk.now g.met.D.Disk.only_now)

pub returns-in-Err-Memory-clause-careful : goal.returns-in-Err-Memory-clause-careful
returns-in-Err-Memory-clause-careful g c = λ told. inl (only_reads_none g.D.Disk c.args.disk.now g.met.D.Disk.only_now)

pub returns-in-Err-Usage-clause-untouched : goal.returns-in-Err-Usage-clause-untouched
returns-in-Err-Usage-clause-untouched g c = λ options asks told is. inl (only_reads_none g.D.Disk c.args.disk.now g.met.D.Disk.only_now)

pub returns-in-Err-Memory-clause-untouched : goal.returns-in-Err-Memory-clause-untouched
returns-in-Err-Memory-clause-untouched g c = λ options asks told is. inl (only_reads_none g.D.Disk c.args.disk.now g.met.D.Disk.only_now)

pub returns-in-Run-clause-careful : goal.returns-in-Run-clause-careful
returns-in-Run-clause-careful g c = c.run.ensures.careful

pub returns-in-Run-clause-untouched : goal.returns-in-Run-clause-untouched
returns-in-Run-clause-untouched g c = λ options asks told is. c.run.ensures.untouched told is

pub returns-in-Run-clause-sound : goal.returns-in-Run-clause-sound
returns-in-Run-clause-sound g c = λ options shape graph asks told stands.
    let same : options ≡ c.in-Run.options = same_run options c.in-Run.options c.in-Ok.asked
    (rw c.deref.ensures.value at c.in-Ok.ensures.only (Run options) asks) c.in-Run.is in
    let sound = c.run.ensures.sound shape graph told stands in (
      sound.0,
      λ stored asked is. let differs = sound.1 stored asked is in (
        differs.0,
        subst (λ (o : RunOptions). ¬ Suits (config_for o) shape) (sym same)
            differs.1,
      ),
    )

pub returns-in-Run-clause-samples : goal.returns-in-Run-clause-samples
returns-in-Run-clause-samples g c = λ options asks k. absurd (sample-not_run options c.in-Run.options c.in-Ok.asked
    (rw c.deref.ensures.value at c.in-Ok.ensures.only (Sample options) asks) c.in-Run.is)

pub returns-in-Run-clause-follows : goal.returns-in-Run-clause-follows
returns-in-Run-clause-follows g c = λ options asks k. absurd (follow-not_run options c.in-Run.options c.in-Ok.asked
    (rw c.deref.ensures.value at c.in-Ok.ensures.only (Follow options) asks) c.in-Run.is)

pub returns-in-Run-clause-sampled : goal.returns-in-Run-clause-sampled
returns-in-Run-clause-sampled g c = λ asks. absurd (asks-not_run _ c.in-Run.options c.in-Ok.asked (rw c.deref.ensures.value at c.in-Ok.ensures.only)
    c.in-Run.is asks)

pub returns-in-Run-clause-unread : goal.returns-in-Run-clause-unread
returns-in-Run-clause-unread g c = λ unserved. elim unserved [
  | inl nothing ↦ absurd (nothing c.in-Ok.asked (rw c.deref.ensures.value at c.in-Ok.ensures.taken))
  | inr (inl asks) ↦ absurd (asks-not_run _ c.in-Run.options c.in-Ok.asked (rw c.deref.ensures.value at c.in-Ok.ensures.only) c.in-Run.is asks)
  | inr (inr ends) ↦ c.run.ensures.unread ends
]

pub returns-in-Run-clause-unused : goal.returns-in-Run-clause-unused
returns-in-Run-clause-unused g c = λ unserved. elim unserved [
  | inl nothing ↦ absurd (nothing c.in-Ok.asked (rw c.deref.ensures.value at c.in-Ok.ensures.taken))
  | inr asks ↦ absurd (asks-not_run _ c.in-Run.options c.in-Ok.asked (rw c.deref.ensures.value at c.in-Ok.ensures.only) c.in-Run.is asks)
]

pub returns-in-Run-clause-usage : goal.returns-in-Run-clause-usage
returns-in-Run-clause-usage g c = λ is. absurd (c.run.ensures.known is)

pub sample-requires : goal.sample-requires
sample-requires g c = sample_within _ c.in-Sample.options c.in-Ok.asked c.in-Ok.ensures.taken c.in-Sample.is

pub returns-in-Sample-clause-serves : goal.returns-in-Sample-clause-serves
returns-in-Sample-clause-serves g c = λ known options asks holds s k. absurd
    (run-not_sample options c.in-Sample.options c.in-Ok.asked (rw c.deref.ensures.value at c.in-Ok.ensures.only (Run options) asks) c.in-Sample.is)

pub returns-in-Sample-clause-steps : goal.returns-in-Sample-clause-steps
returns-in-Sample-clause-steps g c = λ options asks s k. absurd (run-not_sample options c.in-Sample.options c.in-Ok.asked
    (rw c.deref.ensures.value at c.in-Ok.ensures.only (Run options) asks) c.in-Sample.is)

pub returns-in-Sample-clause-unopened : goal.returns-in-Sample-clause-unopened
returns-in-Sample-clause-unopened g c = λ options asks ends k. absurd (run-not_sample options c.in-Sample.options c.in-Ok.asked
    (rw c.deref.ensures.value at c.in-Ok.ensures.only (Run options) asks) c.in-Sample.is)

pub returns-in-Sample-clause-careful : goal.returns-in-Sample-clause-careful
returns-in-Sample-clause-careful g c = λ told. inl (only_reads_none g.D.Disk c.args.disk.now g.met.D.Disk.only_now)

pub returns-in-Sample-clause-untouched : goal.returns-in-Sample-clause-untouched
returns-in-Sample-clause-untouched g c = λ options asks told is. absurd
    (run-not_sample options c.in-Sample.options c.in-Ok.asked (rw c.deref.ensures.value at c.in-Ok.ensures.only (Run options) asks) c.in-Sample.is)

pub returns-in-Sample-clause-sound : goal.returns-in-Sample-clause-sound
returns-in-Sample-clause-sound g c = λ options shape graph asks told stands.
    absurd (run-not_sample options c.in-Sample.options c.in-Ok.asked (rw c.deref.ensures.value at c.in-Ok.ensures.only (Run options) asks) c.in-Sample.is)

pub returns-in-Sample-clause-samples : goal.returns-in-Sample-clause-samples
returns-in-Sample-clause-samples g c = λ options asks k.
    let same : options ≡ c.in-Sample.options = same_sample options c.in-Sample.options c.in-Ok.asked
    (rw c.deref.ensures.value at c.in-Ok.ensures.only (Sample options) asks) c.in-Sample.is in
    subst (λ (o : SampleOptions). Writes (g.K.Sink.taken c.args.output.now) (g.K.Sink.taken c.sample.new.output) (Samples (Unit {0}) o c.sample.result))
    (sym same) (c.sample.ensures.samples k)

pub returns-in-Sample-clause-usage : goal.returns-in-Sample-clause-usage
returns-in-Sample-clause-usage g c = λ is. absurd ((other_exit c.sample.result c.sample.ensures.exits).0 is)

pub returns-in-Sample-clause-cause : goal.returns-in-Sample-clause-cause
returns-in-Sample-clause-cause g c = record {
  input_fault = λ is. absurd ((other_exit c.sample.result c.sample.ensures.exits).1 is);
  output_fault = c.sample.ensures.cause;
}

pub returns-in-Sample-clause-disk_fault : goal.returns-in-Sample-clause-disk_fault
returns-in-Sample-clause-disk_fault g c = λ is. absurd ((other_exit c.sample.result c.sample.ensures.exits).2 is)

pub returns-in-Sample-clause-store_failed : goal.returns-in-Sample-clause-store_failed
returns-in-Sample-clause-store_failed g c = λ options asks told stands s k is. absurd ((other_exit c.sample.result c.sample.ensures.exits).3 is)

pub returns-in-Sample-clause-follows : goal.returns-in-Sample-clause-follows
returns-in-Sample-clause-follows g c = λ options asks k. absurd (follow-not_sample options c.in-Sample.options c.in-Ok.asked
    (rw c.deref.ensures.value at c.in-Ok.ensures.only (Follow options) asks) c.in-Sample.is)

pub follow-requires : goal.follow-requires
follow-requires g c = follow_within _ c.in-Follow.options c.in-Ok.asked c.in-Ok.ensures.taken c.in-Follow.is

pub returns-clause-serves : goal.returns-clause-serves
returns-clause-serves g c = λ known options asks holds s k. absurd (run-not_follow options c.in-Follow.options c.in-Ok.asked
    (rw c.deref.ensures.value at c.in-Ok.ensures.only (Run options) asks) c.in-Follow.is)

pub returns-clause-steps : goal.returns-clause-steps
returns-clause-steps g c = λ options asks s k. absurd (run-not_follow options c.in-Follow.options c.in-Ok.asked
    (rw c.deref.ensures.value at c.in-Ok.ensures.only (Run options) asks) c.in-Follow.is)

pub returns-clause-unopened : goal.returns-clause-unopened
returns-clause-unopened g c = λ options asks ends k. absurd (run-not_follow options c.in-Follow.options c.in-Ok.asked
    (rw c.deref.ensures.value at c.in-Ok.ensures.only (Run options) asks) c.in-Follow.is)

pub returns-clause-careful : goal.returns-clause-careful
returns-clause-careful g c = λ told. inl (only_reads_none g.D.Disk c.args.disk.now g.met.D.Disk.only_now)

pub returns-clause-untouched : goal.returns-clause-untouched
returns-clause-untouched g c = λ options asks told is. absurd (run-not_follow options c.in-Follow.options c.in-Ok.asked
    (rw c.deref.ensures.value at c.in-Ok.ensures.only (Run options) asks) c.in-Follow.is)

pub returns-clause-sound : goal.returns-clause-sound
returns-clause-sound g c = λ options shape graph asks told stands. absurd
    (run-not_follow options c.in-Follow.options c.in-Ok.asked (rw c.deref.ensures.value at c.in-Ok.ensures.only (Run options) asks) c.in-Follow.is)

pub returns-clause-samples : goal.returns-clause-samples
returns-clause-samples g c = λ options asks k. absurd (sample-not_follow options c.in-Follow.options c.in-Ok.asked
    (rw c.deref.ensures.value at c.in-Ok.ensures.only (Sample options) asks) c.in-Follow.is)

pub returns-clause-follows : goal.returns-clause-follows
returns-clause-follows g c = λ options asks k.
    let same : options ≡ c.in-Follow.options = same_follow options c.in-Follow.options c.in-Ok.asked
    (rw c.deref.ensures.value at c.in-Ok.ensures.only (Follow options) asks) c.in-Follow.is in
    subst (λ (o : SampleOptions). Writes (g.K.Sink.taken c.args.output.now) (g.K.Sink.taken c.follow.new.output) (Follows (Unit {0}) o c.follow.result))
    (sym same) (c.follow.ensures.follows k)

pub returns-clause-usage : goal.returns-clause-usage
returns-clause-usage g c = λ is. absurd ((other_exit c.follow.result c.follow.ensures.exits).0 is)

pub returns-clause-cause : goal.returns-clause-cause
returns-clause-cause g c = record {
  input_fault = λ is. absurd ((other_exit c.follow.result c.follow.ensures.exits).1 is);
  output_fault = c.follow.ensures.cause;
}

pub returns-clause-disk_fault : goal.returns-clause-disk_fault
returns-clause-disk_fault g c = λ is. absurd ((other_exit c.follow.result c.follow.ensures.exits).2 is)

pub returns-clause-store_failed : goal.returns-clause-store_failed
returns-clause-store_failed g c = λ options asks told stands s k is. absurd ((other_exit c.follow.result c.follow.ensures.exits).3 is)

pub returns-in-Err-Usage-clause-differs : goal.returns-in-Err-Usage-clause-differs
returns-in-Err-Usage-clause-differs g c = λ options stored asked asks told is.
    absurd (rw c.deref.ensures.value at (c.in-Err-Usage.ensures.usage (ap Err c.in-Err-Usage.field-0-is)) (Run options) asks)

pub returns-in-Err-Memory-clause-differs : goal.returns-in-Err-Memory-clause-differs
returns-in-Err-Memory-clause-differs g c = λ options stored asked asks told is.
    absurd (cc (asked_other Memory c.end_without_memory.result c.end_without_memory.ensures.cause stored asked is))

pub returns-in-Run-clause-differs : goal.returns-in-Run-clause-differs
returns-in-Run-clause-differs g c = λ options stored asked asks told is.
    let same : options ≡ c.in-Run.options = same_run options c.in-Run.options c.in-Ok.asked
    (rw c.deref.ensures.value at c.in-Ok.ensures.only (Run options) asks) c.in-Run.is in
    subst (λ (o : RunOptions). HasOtherShape g.D.Disk (config_for o) c.args.disk.now c.run.new.disk stored asked) (sym same)
    (c.run.ensures.differs stored asked told is)

pub returns-in-Sample-clause-differs : goal.returns-in-Sample-clause-differs
returns-in-Sample-clause-differs g c = λ options stored asked asks told is.
    absurd (run-not_sample options c.in-Sample.options c.in-Ok.asked (rw c.deref.ensures.value at c.in-Ok.ensures.only (Run options) asks) c.in-Sample.is)

pub returns-clause-differs : goal.returns-clause-differs
returns-clause-differs g c = λ options stored asked asks told is. absurd
    (run-not_follow options c.in-Follow.options c.in-Ok.asked (rw c.deref.ensures.value at c.in-Ok.ensures.only (Run options) asks) c.in-Follow.is)
