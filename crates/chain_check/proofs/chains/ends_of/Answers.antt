use Rattle.std.proofs.Common.{ap, arith, get_or, map, rules, take, ◌∙◌, ◌≡◌}
use Rattle.std.proofs.lemmas.Grind.{common_steps}
use Rattle.std.proofs.lemmas.List.{take_all}
use Rattle.chain_check.specs.NodeChains.{end_of}
use Rattle.record_lists.proofs.Causes.{cause_passed}
use Rattle.rec_bytes.proofs.Causes.{never_ok, ok_cause}
use Rattle.record_lists.proofs.OnlyReads.{is_read-none, is_read-on, is_read-get}
use Rattle.chain_check.proofs.chains.ends_of.Goals as goal

pub loop-id-init : goal.loop-id-init
loop-id-init g c = record {
  low = search rules;
  ends = λ tells. search rules;
  read = is_read-none g.R.Reads g.met.R.Reads.stays_onward c.args.space.now;
}

pub loop-id-preserved : goal.loop-id-preserved
loop-id-preserved g c =
    let records = (g.R.Reads.state c.args.space.now).records in
    let inv = c.loop-id.invariant in
    let node = c.args.node in
    let ids = c.args.ids.now in
    let at = c.loop-id.id-index in
    let id = get_or ids at 0 in
    record {
      low = grind (arith, common_steps);
      ends = λ tells. grind (arith, common_steps);
      read = is_read-on g.R.Reads g.met.R.Reads.further_onward c.args.space.now c.loop-id.space c.get.new.self inv.read (is_read-get g.R.Reads _ _
          c.in_ok-rec.ensures.state c.in_ok-rec.ensures.onward c.in_ok-rec.ensures.cause.later);
    }

pub returns-in_err-rec-clause-read : goal.returns-in_err-rec-clause-read
returns-in_err-rec-clause-read g c =
    is_read-on g.R.Reads g.met.R.Reads.further_onward _ _ _ c.loop-id.invariant.read (is_read-get g.R.Reads _ _ c.in_err-rec.ensures.state
    c.in_err-rec.ensures.onward c.in_err-rec.ensures.cause.later)

pub returns-in_default-clause-read : goal.returns-in_default-clause-read
returns-in_default-clause-read g c =
    is_read-on g.R.Reads g.met.R.Reads.further_onward _ _ _ c.loop-id.invariant.read (is_read-get g.R.Reads _ _ c.in_ok-rec.ensures.state
    c.in_ok-rec.ensures.onward c.in_ok-rec.ensures.cause.later)

pub returns-clause-ends : goal.returns-clause-ends
returns-clause-ends g c = λ tells.
    let ids = c.args.ids.now in
    let all : take c.loop-id.id-index ids ≡ ids = take_all c.loop-id.id-index ids (omega arith) in
    c.loop-id.invariant.ends tells ∙ ap (map (end_of (g.R.Reads.state c.args.space.now).records c.args.node)) all

pub returns-in_err-rec-clause-cause : goal.returns-in_err-rec-clause-cause
returns-in_err-rec-clause-cause g c =
    cause_passed _ _ _ c.from_residual.result c.in_err-rec.field-0.0 c.loop-id.invariant.read.later c.in_err-rec.ensures.cause c.from_residual.ensures.1

pub returns-in_default-clause-cause : goal.returns-in_default-clause-cause
returns-in_default-clause-cause g c = record {
  later = let later = c.in_ok-rec.ensures.cause.later in omega (arith, c.loop-id.invariant.read.later, later);
  disk = λ blamed. absurd cc;
}

pub returns-in_err-rec-clause-ends : goal.returns-in_err-rec-clause-ends
returns-in_err-rec-clause-ends g c _ = never_ok c.from_residual.result _ _ c.from_residual.ensures.1

pub returns-in_err-rec-clause-low : goal.returns-in_err-rec-clause-low
returns-in_err-rec-clause-low g c = never_ok c.from_residual.result _ _ c.from_residual.ensures.1

pub returns-clause-cause : goal.returns-clause-cause
returns-clause-cause g c = ok_cause _ _ _ _ c.loop-id.invariant.read.later

pub returns-clause-read : goal.returns-clause-read
returns-clause-read g c =
    c.loop-id.invariant.read
