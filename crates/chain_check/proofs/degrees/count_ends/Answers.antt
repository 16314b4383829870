use Rattle.std.proofs.Common.{arith, ◌≡◌, ◌≤◌, ◌<◌, ◌+◌, ◌∙◌, cond, length, Bool, true, false, sym, ap, refl}
use Rattle.rec_bytes.specs.declared.meta.Meta.{Meta}
use Rattle.rec_bytes.specs.Format.{relationships_file}
use Rattle.store_rules.specs.Views.{high, rec_at}
use Rattle.chain_check.specs.NodeChains.{is_of_node}
use Rattle.chain_check.proofs.DegreeLaws.{degree_more}
use Rattle.rec_bytes.proofs.Causes.{never_ok, ok_cause}
use Rattle.record_lists.proofs.Causes.{cause_passed}
use Rattle.record_lists.proofs.OnlyReads.{is_read-none, is_read-on, is_read-get}
use Rattle.chain_check.proofs.degrees.count_ends.Goals as goal

small : (b : Bool) → cond b 1 0 ≤ 1
small true = omega arith
small false = omega arith

pub loop-id-init : goal.loop-id-init
loop-id-init g c = record {
  len = refl;
  low = λ n lt. let e = c.requires.none n in omega arith;
  counts = λ t n lt. c.requires.none n;
  read = is_read-none g.R.Reads g.met.R.Reads.stays_onward c.args.space.now;
}

pub loop-id-preserved : goal.loop-id-preserved
loop-id-preserved g c =
    let records = (g.R.Reads.state c.args.space.now).records in
    let inv = c.loop-id.invariant in
    let mark : c.meta-id-end.result.high ≡ high records relationships_file = ap (λ (m : Meta). m.high) c.meta-id-end.ensures in
    let lt : c.loop-id.id < high records relationships_file = omega (arith, c.loop-id-test.true) in
    let len = c.count_rel.ensures.len in
    record {
      len = len ∙ inv.len;
      low = λ n low.
          let was : n < length c.loop-id.counts = omega arith in
          let e = c.count_rel.ensures.count n was in let o = inv.low n was in let s = small (is_of_node n c.in_ok-rec.rec) in omega arith;
      counts = λ t n low.
          let was : n < length c.loop-id.counts = omega arith in
          let got : c.in_ok-rec.rec ≡ rec_at records relationships_file c.loop-id.id = c.in_ok-rec.ensures.got t
          ∙ ap (λ rs. rec_at rs relationships_file c.loop-id.id) inv.read.records in
          c.count_rel.ensures.count n was ∙ ap (λ m. m + cond (is_of_node n c.in_ok-rec.rec) 1 0) (inv.counts t n was)
          ∙ sym (degree_more records c.loop-id.id (c.loop-id.id + 1) n c.in_ok-rec.rec lt got refl);
      read = is_read-on g.R.Reads g.met.R.Reads.further_onward c.args.space.now c.loop-id.space c.get.new.self inv.read (is_read-get g.R.Reads _ _
          c.in_ok-rec.ensures.state c.in_ok-rec.ensures.onward c.in_ok-rec.ensures.cause.later);
    }

pub returns-in_err-rec-clause-counts : goal.returns-in_err-rec-clause-counts
returns-in_err-rec-clause-counts g c _ = never_ok c.from_residual.result _ _ c.from_residual.ensures.1

pub returns-clause-cause : goal.returns-clause-cause
returns-clause-cause g c = ok_cause _ _ _ _ c.loop-id.invariant.read.later

pub returns-in_err-rec-clause-read : goal.returns-in_err-rec-clause-read
returns-in_err-rec-clause-read g c =
    is_read-on g.R.Reads g.met.R.Reads.further_onward _ _ _ c.loop-id.invariant.read (is_read-get g.R.Reads _ _ c.in_err-rec.ensures.state
    c.in_err-rec.ensures.onward c.in_err-rec.ensures.cause.later)

pub returns-in_err-rec-clause-cause : goal.returns-in_err-rec-clause-cause
returns-in_err-rec-clause-cause g c =
    cause_passed _ _ _ c.from_residual.result c.in_err-rec.field-0.0 c.loop-id.invariant.read.later c.in_err-rec.ensures.cause c.from_residual.ensures.1

pub returns-clause-read : goal.returns-clause-read
returns-clause-read g c =
    c.loop-id.invariant.read
