use Rattle.std.proofs.Common.{rules, arith, ◌≡◌, ℕ, ◌≤◌, false, true, length, inl, inr, sym, ap, ◌∙◌}
use Rattle.std.proofs.lemmas.Grind.{common_steps}
use Rattle.rec_bytes.specs.Format.{nil}
use Rattle.store_rules.specs.Views.{rec_at}
use Rattle.record_lists.proofs.LineLaws.{path_step, path_ends, no_line, no_line_so_long}
use Rattle.rec_bytes.proofs.Causes.{never_ok, ok_cause}
use Rattle.record_lists.proofs.Causes.{cause_passed}
use Rattle.record_lists.proofs.OnlyReads.{is_read-none, is_read-on, is_read-get}
use Rattle.record_lists.proofs.line.follow.Goals as goal

pub returns-then-at-clause-found : goal.returns-then-at-clause-found
returns-then-at-clause-found g c tells =
    path_ends _ _ c.args.high nil c.args.first c.loop.ids.items c.loop.before c.loop.at (c.loop.invariant.path tells) c.if-at.true

pub returns-then-at-2-clause-found : goal.returns-then-at-2-clause-found
returns-then-at-2-clause-found g c tells =
    path_ends _ _ c.args.high nil c.args.first c.loop.ids.items c.loop.before c.loop.at (c.loop.invariant.path tells) c.if-at-2.true

pub returns-then-at-high-clause-none : goal.returns-then-at-high-clause-none
returns-then-at-high-clause-none g c tells =
    let past : c.args.high ≤ c.loop.at = omega arith in
    no_line _ _ c.args.high c.requires nil c.args.first c.loop.ids.items c.loop.before c.loop.at (c.loop.invariant.path tells) c.if-at.false (inl past)

pub returns-then-not-fits-clause-none : goal.returns-then-not-fits-clause-none
returns-then-not-fits-clause-none g c tells =
    let records = (g.R.Reads.state c.args.space.now).records in
    let kind = g.L.Line.kind c.args.line.now in
    let got : c.in_ok-rec.rec ≡ rec_at records kind.file c.loop.at = c.in_ok-rec.ensures.got tells
    ∙ ap (λ rs. rec_at rs c.file.result c.loop.at) c.loop.invariant.read.records ∙ ap (λ f. rec_at records f c.loop.at) c.file.ensures.is in
    let no : c.fits.result ≡ false = search rules in
    let bad = ap (kind.fits c.loop.before c.loop.at) (sym got) ∙ sym c.fits.ensures ∙ no in
    no_line _ _ c.args.high c.requires nil c.args.first c.loop.ids.items c.loop.before c.loop.at (c.loop.invariant.path tells) c.if-at.false (inr bad)

pub loop-preserved : goal.loop-preserved
loop-preserved g c =
    let records = (g.R.Reads.state c.args.space.now).records in
    let kind = g.L.Line.kind c.args.line.now in
    let last = c.loop.before in
    let at = c.loop.at in
    let next = λ (x : ℕ). kind.next (rec_at records kind.file x) in
    let yes : c.fits.result ≡ true = search rules in
    record {
      low = grind (arith, common_steps);
      count = search rules;
      path = λ tells.
          let got : c.in_ok-rec.rec ≡ rec_at records kind.file at = c.in_ok-rec.ensures.got tells ∙ ap (λ rs. rec_at rs c.file.result at)
          c.loop.invariant.read.records
          ∙ ap (λ f. rec_at records f at) c.file.ensures.is in
          let ok = ap (kind.fits last at) (sym got) ∙ sym c.fits.ensures ∙ yes in
          let link : c.next-at.result ≡ next at = c.next-at.ensures ∙ ap (kind.next) got in
          path_step next _ c.args.high nil c.args.first c.loop.ids.items last at (c.loop.invariant.path tells) c.if-at-high.false ok _ _ c.in-Ok.ensures.items
          link;
      read = is_read-on g.R.Reads g.met.R.Reads.further_onward c.args.space.now c.loop.space c.get.new.self c.loop.invariant.read
          (is_read-get g.R.Reads _ _ c.in_ok-rec.ensures.state c.in_ok-rec.ensures.onward c.in_ok-rec.ensures.cause.later);
    }

pub returns-else-at-2-clause-none : goal.returns-else-at-2-clause-none
returns-else-at-2-clause-none g c tells =
    let long : length c.loop.ids.items ≡ c.args.high = omega (arith, c.loop.invariant.count) in
    no_line_so_long _ _ c.args.high c.requires nil c.args.first c.loop.ids.items c.loop.before c.loop.at (c.loop.invariant.path tells) c.if-at-2.false long

pub loop-init : goal.loop-init
loop-init g c = record {
  low = search rules;
  count = search rules;
  path = λ tells. search rules;
  read = is_read-none g.R.Reads g.met.R.Reads.stays_onward c.args.space.now;
}

pub returns-in_err-rec-clause-cause : goal.returns-in_err-rec-clause-cause
returns-in_err-rec-clause-cause g c =
    cause_passed _ _ _ c.from_residual.result c.in_err-rec.field-0.0 c.loop.invariant.read.later c.in_err-rec.ensures.cause c.from_residual.ensures.1

pub returns-in_err-rec-clause-read : goal.returns-in_err-rec-clause-read
returns-in_err-rec-clause-read g c =
    is_read-on g.R.Reads g.met.R.Reads.further_onward c.args.space.now c.loop.space c.get.new.self c.loop.invariant.read (is_read-get g.R.Reads _ _
    c.in_err-rec.ensures.state c.in_err-rec.ensures.onward c.in_err-rec.ensures.cause.later)

pub returns-in_default-clause-read : goal.returns-in_default-clause-read
returns-in_default-clause-read g c =
    is_read-on g.R.Reads g.met.R.Reads.further_onward _ _ _ c.loop.invariant.read (is_read-get g.R.Reads _ _ c.in_ok-rec.ensures.state
    c.in_ok-rec.ensures.onward c.in_ok-rec.ensures.cause.later)

pub returns-then-not-fits-clause-read : goal.returns-then-not-fits-clause-read
returns-then-not-fits-clause-read g c =
    is_read-on g.R.Reads g.met.R.Reads.further_onward _ _ _ c.loop.invariant.read (is_read-get g.R.Reads _ _ c.in_ok-rec.ensures.state
    c.in_ok-rec.ensures.onward c.in_ok-rec.ensures.cause.later)

pub returns-in_default-clause-cause : goal.returns-in_default-clause-cause
returns-in_default-clause-cause g c = record {
  later = let later = c.in_ok-rec.ensures.cause.later in omega (arith, c.loop.invariant.read.later, later);
  disk = λ blamed. absurd cc;
}

pub returns-then-at-clause-cause : goal.returns-then-at-clause-cause
returns-then-at-clause-cause g c = ok_cause _ _ _ _ c.loop.invariant.read.later

pub returns-then-at-high-clause-cause : goal.returns-then-at-high-clause-cause
returns-then-at-high-clause-cause g c = ok_cause _ _ _ _ c.loop.invariant.read.later

pub returns-then-not-fits-clause-cause : goal.returns-then-not-fits-clause-cause
returns-then-not-fits-clause-cause g c = ok_cause _ _ _ _ (let later = c.in_ok-rec.ensures.cause.later in omega (arith, c.loop.invariant.read.later, later))

pub returns-then-at-2-clause-cause : goal.returns-then-at-2-clause-cause
returns-then-at-2-clause-cause g c = ok_cause _ _ _ _ c.loop.invariant.read.later

pub returns-else-at-2-clause-cause : goal.returns-else-at-2-clause-cause
returns-else-at-2-clause-cause g c = ok_cause _ _ _ _ c.loop.invariant.read.later

pub returns-in_err-rec-clause-found : goal.returns-in_err-rec-clause-found
returns-in_err-rec-clause-found g c tells = never_ok c.from_residual.result _ _ c.from_residual.ensures.1

pub returns-in_err-rec-clause-none : goal.returns-in_err-rec-clause-none
returns-in_err-rec-clause-none g c tells = never_ok c.from_residual.result _ _ c.from_residual.ensures.1

pub returns-in_err-rec-clause-low : goal.returns-in_err-rec-clause-low
returns-in_err-rec-clause-low g c = never_ok c.from_residual.result _ _ c.from_residual.ensures.1

pub returns-then-at-clause-read : goal.returns-then-at-clause-read
returns-then-at-clause-read g c =
    c.loop.invariant.read

pub returns-then-at-high-clause-read : goal.returns-then-at-high-clause-read
returns-then-at-high-clause-read g c =
    c.loop.invariant.read

pub returns-then-at-2-clause-read : goal.returns-then-at-2-clause-read
returns-then-at-2-clause-read g c =
    c.loop.invariant.read

pub returns-else-at-2-clause-read : goal.returns-else-at-2-clause-read
returns-else-at-2-clause-read g c =
    c.loop.invariant.read
