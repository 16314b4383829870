use Rattle.std.proofs.Common.{◌≡◌, ◌+◌, ◌<◌, ◌∷◌, ap, arith, drop, length, subst, sym}
use Rattle.std.proofs.lemmas.List.{drop_all}
use Rattle.rec_bytes.specs.Pairs.{Pairs}
use Rattle.rec_bytes.specs.declared.key.Key.{Key}
use Rattle.rec_bytes.specs.declared.record.Rec.{Rec}
use Rattle.rec_bytes.proofs.PairLaws.{next_pair}
use Rattle.rec_bytes.proofs.Causes.{never_ok}
use Rattle.txn_core.specs.Base.{working}
use Rattle.txn_core.specs.Changed.{PutsChanged}
use Rattle.txn_core.specs.OnlyReading.{only_reads_base_none, only_reads_base_on}
use Rattle.txn_core.proofs.ChangedRecords.{IsThinned, thinned_has, thinned_more, thinned_none}
use Rattle.txn_core.proofs.StoreRecords.{working-read}
use Rattle.txn_core.proofs.changed.put_all_changed.Goals as goal

pub loop-i-init : goal.loop-i-init
loop-i-init g c =
    let all = c.args.draft.now.pairs in
    let tells = g.D.Disk.tells_reads in
    record {
      thinned = subst (λ (made : Pairs). IsThinned tells (working c.args.base.now) all made all) (sym c.requires.empty)
          (thinned_none tells (working c.args.base.now) all c.len-i-end.ensures.rising);
      room = omega (arith, c.requires.room);
      onward = only_reads_base_none g.met.D.Disk.only_now c.args.base.now;
      later = omega arith;
    }

pub loop-i-preserved : goal.loop-i-preserved
loop-i-preserved g c =
    let all = c.args.draft.now.pairs in
    let tells = g.D.Disk.tells_reads in
    let i = c.loop-i.i in
    let was = c.loop-i.invariant in
    let within : i < length all = omega (arith, c.loop-i-test.true, c.len-i-end.ensures.value) in
    let next : drop i all ≡ c.at.result ∷ drop (i + 1) all = next_pair all i c.at.result c.at.ensures.value within in
    let records = working c.args.base.now in
    let old = c.loop-i.changed.pairs in
    let new = c.put_changed.new.changed.pairs in
    record {
      thinned = thinned_more tells records all old c.at.result.0 c.at.result.1 (drop (i + 1) all)
          (subst (λ (rest : Pairs). IsThinned tells records all old rest) next was.thinned)
          new
          (subst (λ (r : Key → Rec). PutsChanged tells r c.at.result.0 c.at.result.1 old new) (working-read c.args.base.now c.loop-i.base was.onward)
          c.in_ok-put_changed.ensures.puts);
      room = omega (arith, was.room, c.put_changed.ensures.room);
      onward = only_reads_base_on was.onward c.put_changed.ensures.onward;
      later = omega (arith, was.later, c.put_changed.ensures.cause.later);
    }

pub returns-in_err-put_changed-clause-changed : goal.returns-in_err-put_changed-clause-changed
returns-in_err-put_changed-clause-changed g c = never_ok c.from_residual.result _ _ c.from_residual.ensures.1

pub returns-clause-changed : goal.returns-clause-changed
returns-clause-changed g c =
    let all = c.args.draft.now.pairs in
    let none = drop_all c.loop-i.i all (omega (arith, c.loop-i-test.false, c.len-i-end.ensures.value)) in
    thinned_has g.D.Disk.tells_reads (working c.args.base.now) all c.loop-i.changed.pairs
    (subst (λ (rest : Pairs). IsThinned g.D.Disk.tells_reads (working c.args.base.now) all c.loop-i.changed.pairs rest) none c.loop-i.invariant.thinned)
