use Rattle.std.proofs.Common.{rules, arith, ◌≡◌, ◌≢◌, ◌<◌, ◌+◌, ◌∙◌, true, false, ap, sym, refl}
use Rattle.rec_bytes.specs.declared.meta.Meta.{Meta}
use Rattle.rec_bytes.specs.Record.{field}
use Rattle.store_rules.specs.Views.{high, is_live, rec_at}
use Rattle.record_lists.specs.Seen.{is_seen}
use Rattle.record_lists.proofs.CountLaws.{count_more, count_same}
use Rattle.store_check.proofs.FreeLaws.{free_by, live_by}
use Rattle.record_lists.proofs.HeadLaws.{one_more}
use Rattle.store_check.proofs.free.count_live.Goals.{then-byte-ne-FREE, else-byte-ne-FREE+else-not-seen-id}
use Rattle.std.proofs.lemmas.Bool.{true≢false}
use Rattle.rec_bytes.proofs.Causes.{never_ok, ok_cause}
use Rattle.record_lists.proofs.Causes.{cause_passed}
use Rattle.record_lists.proofs.OnlyReads.{is_read-get, is_read-on}
use Rattle.store_check.proofs.free.count_live.Goals as goal

pub returns-then-not-seen-id-clause-counted : goal.returns-then-not-seen-id-clause-counted
returns-then-not-seen-id-clause-counted g c = λ tells.
    let records = (g.R.Reads.state c.args.space.now).records in
    let mark : c.meta-id-end.result.high ≡ high records c.args.file = ap (λ (m : Meta). m.high) c.meta-id-end.ensures in
    let lt : c.loop-id.id < high records c.args.file = omega (arith, c.loop-id-test.true) in
    let got : c.in_ok-rec.rec ≡ rec_at records c.args.file c.loop-id.id = c.in_ok-rec.ensures.got tells
    ∙ ap (λ rs. rec_at rs c.args.file c.loop-id.id) c.loop-id.invariant.read.records in
    let free : field 1 c.in_ok-rec.rec 0 ≡ 0 = sym c.byte.ensures ∙ search rules in
    (lt, free_by records c.args.file c.loop-id.id c.in_ok-rec.rec lt got free, search rules)

pub loop-id-preserved : goal.loop-id-preserved
loop-id-preserved g c =
    let records = (g.R.Reads.state c.args.space.now).records in
    let inv = c.loop-id.invariant in
    let id = c.loop-id.id in
    let mark : c.meta-id-end.result.high ≡ high records c.args.file = ap (λ (m : Meta). m.high) c.meta-id-end.ensures in
    let lt : id < high records c.args.file = omega (arith, c.loop-id-test.true) in
    let got = λ (t : g.R.Reads.tells). c.in_ok-rec.ensures.got t ∙ ap (λ rs. rec_at rs c.args.file id) inv.read.records in
    record {
      low = elim c.if-byte-ne-FREE.branch [
        | then-byte-ne-FREE w ↦ let e = w.live-is in omega (arith, inv.low)
        | else-byte-ne-FREE+else-not-seen-id w ↦ let e = w.live-is in omega (arith, inv.low)
      ];
      live = λ t. elim c.if-byte-ne-FREE.branch [
        | then-byte-ne-FREE w ↦
            let some : field 1 c.in_ok-rec.rec 0 ≢ 0 = λ z. w.if-byte-ne-FREE.true (c.byte.ensures ∙ z) in
            let more = count_more (is_live records c.args.file) id (id + 1) refl (live_by records c.args.file id c.in_ok-rec.rec lt (got t) some) in
            let e = w.live-is in let was = inv.live t in omega arith
        | else-byte-ne-FREE+else-not-seen-id w ↦
            let none : field 1 c.in_ok-rec.rec 0 ≡ 0 = sym c.byte.ensures ∙ w.if-byte-ne-FREE.false in
            let same = count_same (is_live records c.args.file) id (id + 1) refl (free_by records c.args.file id c.in_ok-rec.rec lt (got t) none) in
            let e = w.live-is in let was = inv.live t in omega arith
      ];
      on_list = λ t. one_more (λ x. is_live records c.args.file x ≡ false → is_seen c.args.seen.now x ≡ true) id (inv.on_list t)
          (elim c.if-byte-ne-FREE.branch [
            | then-byte-ne-FREE w ↦ λ f.
                let some : field 1 c.in_ok-rec.rec 0 ≢ 0 = λ z. w.if-byte-ne-FREE.true (c.byte.ensures ∙ z) in
                absurd (true≢false (sym (live_by records c.args.file id c.in_ok-rec.rec lt (got t) some) ∙ f))
            | else-byte-ne-FREE+else-not-seen-id w ↦ λ f. search rules
          ]);
      read = is_read-on g.R.Reads g.met.R.Reads.further_onward c.args.space.now c.loop-id.space c.get.new.self inv.read (is_read-get g.R.Reads _ _
          c.in_ok-rec.ensures.state c.in_ok-rec.ensures.onward c.in_ok-rec.ensures.cause.later);
    }

pub returns-in_err-rec-clause-counted : goal.returns-in_err-rec-clause-counted
returns-in_err-rec-clause-counted g c _ = never_ok c.from_residual.result _ _ c.from_residual.ensures.1

pub returns-clause-cause : goal.returns-clause-cause
returns-clause-cause g c = ok_cause _ _ _ _ c.loop-id.invariant.read.later

pub returns-in_err-rec-clause-read : goal.returns-in_err-rec-clause-read
returns-in_err-rec-clause-read g c =
    is_read-on g.R.Reads g.met.R.Reads.further_onward _ _ _ c.loop-id.invariant.read (is_read-get g.R.Reads _ _ c.in_err-rec.ensures.state
    c.in_err-rec.ensures.onward c.in_err-rec.ensures.cause.later)

pub returns-in_err-rec-clause-cause : goal.returns-in_err-rec-clause-cause
returns-in_err-rec-clause-cause g c =
    cause_passed _ _ _ c.from_residual.result c.in_err-rec.field-0.0 c.loop-id.invariant.read.later c.in_err-rec.ensures.cause c.from_residual.ensures.1

pub returns-clause-read : goal.returns-clause-read
returns-clause-read g c =
    c.loop-id.invariant.read

pub returns-then-not-seen-id-clause-read : goal.returns-then-not-seen-id-clause-read
returns-then-not-seen-id-clause-read g c =
    is_read-on g.R.Reads g.met.R.Reads.further_onward _ _ _ c.loop-id.invariant.read (is_read-get g.R.Reads _ _ c.in_ok-rec.ensures.state
    c.in_ok-rec.ensures.onward c.in_ok-rec.ensures.cause.later)

pub returns-then-not-seen-id-clause-cause : goal.returns-then-not-seen-id-clause-cause
returns-then-not-seen-id-clause-cause g c = ok_cause _ _ _ _ (returns-then-not-seen-id-clause-read g c).later
