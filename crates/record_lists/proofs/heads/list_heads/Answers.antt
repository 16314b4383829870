use Rattle.std.proofs.Common.{rules, arith, ◌≡◌, ℕ, ◌∙◌, sym, subst, inl, false, refl}
use Rattle.record_lists.specs.Seen.{is_seen}
use Rattle.store_rules.specs.Views.{Records}
use Rattle.record_lists.specs.declared.heads.Told.TheVariants.{Seen}
use Rattle.record_lists.specs.Heads.{AtHead, HeadTold, HeadKeeps}
use Rattle.record_lists.proofs.HeadLaws.{among_and, among_none, not_earlier, once_more, one_more}
use Rattle.rec_bytes.proofs.Causes.{never_ok, ok_cause}
use Rattle.record_lists.proofs.Causes.{cause_passed}
use Rattle.record_lists.proofs.OnlyReads.{is_read-none, is_read-on}
use Rattle.record_lists.proofs.heads.list_heads.Goals as goal

pub loop-id-preserved : goal.loop-id-preserved
loop-id-preserved g c =
    let records = (g.R.Reads.state c.args.space.now).records in
    let has = g.H.Heads.has c.args.heads.now records in
    let lists = g.H.Heads.lists c.args.heads.now records in
    let inv = c.loop-id.invariant in
    let well : c.in_ok-see_head.field-0 ≡ Seen = search rules in
    let told : g.R.Reads.tells → HeadTold has lists c.loop-id.id c.loop-id.seen c.see_head.new.seen Seen
    = λ t. subst (HeadTold has lists c.loop-id.id c.loop-id.seen c.see_head.new.seen) well
    (subst (λ (r : Records). HeadTold (g.H.Heads.has c.args.heads.now r) (g.H.Heads.lists c.args.heads.now r) c.loop-id.id c.loop-id.seen
    c.see_head.new.seen c.in_ok-see_head.field-0) inv.read.records (c.in_ok-see_head.ensures.told t)) in
    record {
      keeps = λ t. one_more (HeadKeeps has lists) c.loop-id.id (inv.keeps t) (told t).0;
      seen = λ t. among_and has lists c.loop-id.id c.args.seen.now c.loop-id.seen c.see_head.new.seen (inv.seen t) (told t).1;
      once = λ t. once_more has lists c.loop-id.id c.args.seen.now c.loop-id.seen (inv.seen t) (told t).2 (inv.once t);
      fresh = λ t. one_more (λ k. (p : ℕ) → AtHead has lists k p → is_seen c.args.seen.now p ≡ false) c.loop-id.id (inv.fresh t)
          (λ p a. not_earlier c.args.seen.now c.loop-id.seen p (λ m. (inv.seen t p).1 (inl m)) ((told t).2 p a));
      len = c.see_head.ensures.len ∙ inv.len;
      read = is_read-on g.R.Reads g.met.R.Reads.further_onward c.args.space.now c.loop-id.space c.see_head.new.space inv.read c.see_head.ensures.read;
    }

pub loop-id-init : goal.loop-id-init
loop-id-init g c =
    let records = (g.R.Reads.state c.args.space.now).records in
    record {
      keeps = λ t k lt. absurd (omega arith);
      seen = λ t. among_none (g.H.Heads.has c.args.heads.now records) (g.H.Heads.lists c.args.heads.now records) c.args.seen.now;
      once = λ t p k l lk ll a b. absurd (omega arith);
      fresh = λ t k lt p a. absurd (omega arith);
      len = refl;
      read = is_read-none g.R.Reads g.met.R.Reads.stays_onward c.args.space.now;
    }

pub see_head-requires-clause-suits : goal.see_head-requires-clause-suits
see_head-requires-clause-suits g c = subst (g.H.Heads.suits c.args.heads.now) (sym c.loop-id.invariant.read.records) c.requires.suits

pub returns-clause-fresh : goal.returns-clause-fresh
returns-clause-fresh g c t k lt p a = c.loop-id.invariant.fresh t k (omega arith) p a

pub returns-in_err-see_head-clause-keeps : goal.returns-in_err-see_head-clause-keeps
returns-in_err-see_head-clause-keeps g c _ = never_ok c.from_residual.result _ _ c.from_residual.ensures.1

pub returns-in_err-see_head-clause-seen : goal.returns-in_err-see_head-clause-seen
returns-in_err-see_head-clause-seen g c _ = never_ok c.from_residual.result _ _ c.from_residual.ensures.1

pub returns-in_err-see_head-clause-once : goal.returns-in_err-see_head-clause-once
returns-in_err-see_head-clause-once g c _ = never_ok c.from_residual.result _ _ c.from_residual.ensures.1

pub returns-in_err-see_head-clause-fresh : goal.returns-in_err-see_head-clause-fresh
returns-in_err-see_head-clause-fresh g c _ = never_ok c.from_residual.result _ _ c.from_residual.ensures.1

pub returns-in_err-see_head-clause-broken : goal.returns-in_err-see_head-clause-broken
returns-in_err-see_head-clause-broken g c _ = never_ok c.from_residual.result _ _ c.from_residual.ensures.1

pub returns-in-Unlisted-clause-cause : goal.returns-in-Unlisted-clause-cause
returns-in-Unlisted-clause-cause g c = ok_cause _ _ _ _ (omega (arith, c.loop-id.invariant.read.later, c.see_head.ensures.read.later))

pub returns-in-Twice-clause-cause : goal.returns-in-Twice-clause-cause
returns-in-Twice-clause-cause g c = ok_cause _ _ _ _ (omega (arith, c.loop-id.invariant.read.later, c.see_head.ensures.read.later))

pub returns-clause-cause : goal.returns-clause-cause
returns-clause-cause g c = ok_cause _ _ _ _ c.loop-id.invariant.read.later

pub returns-in_err-see_head-clause-read : goal.returns-in_err-see_head-clause-read
returns-in_err-see_head-clause-read g c =
    is_read-on g.R.Reads g.met.R.Reads.further_onward _ _ _ c.loop-id.invariant.read c.in_err-see_head.ensures.read

pub returns-in_err-see_head-clause-cause : goal.returns-in_err-see_head-clause-cause
returns-in_err-see_head-clause-cause g c =
    cause_passed _ _ _ c.from_residual.result c.in_err-see_head.field-0.0 c.loop-id.invariant.read.later c.in_err-see_head.ensures.cause
    c.from_residual.ensures.1

pub returns-in-Unlisted-clause-read : goal.returns-in-Unlisted-clause-read
returns-in-Unlisted-clause-read g c =
    is_read-on g.R.Reads g.met.R.Reads.further_onward _ _ _ c.loop-id.invariant.read c.see_head.ensures.read

pub returns-in-Twice-clause-read : goal.returns-in-Twice-clause-read
returns-in-Twice-clause-read g c =
    is_read-on g.R.Reads g.met.R.Reads.further_onward _ _ _ c.loop-id.invariant.read c.see_head.ensures.read

pub returns-clause-read : goal.returns-clause-read
returns-clause-read g c =
    c.loop-id.invariant.read
