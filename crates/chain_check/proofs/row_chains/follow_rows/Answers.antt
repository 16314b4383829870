use Rattle.std.proofs.Common.{rules, arith, ◌≡◌, ◌≤◌, false, true, length, inl, inr, sym, ap, ◌∙◌}
use Rattle.std.proofs.lemmas.Grind.{common_steps}
use Rattle.rec_bytes.specs.Format.{nil}
use Rattle.rec_bytes.proofs.Causes.{never_ok}
use Rattle.record_lists.proofs.LineLaws.{path_step, path_ends, no_line, no_line_so_long}
use Rattle.chain_check.specs.LinkRows.{row_at, row_fits, row_next}
use Rattle.chain_check.proofs.row_chains.follow_rows.Goals as goal

pub loop-init : goal.loop-init
loop-init c = record { low = search rules; count = search rules; path = search rules }

pub returns-then-at-clause-found : goal.returns-then-at-clause-found
returns-then-at-clause-found c =
    path_ends _ _ (length c.args.rows.now) nil c.args.first c.loop.ids.items c.loop.before c.loop.at c.loop.invariant.path c.if-at.true

pub returns-then-at-2-clause-found : goal.returns-then-at-2-clause-found
returns-then-at-2-clause-found c =
    path_ends _ _ (length c.args.rows.now) nil c.args.first c.loop.ids.items c.loop.before c.loop.at c.loop.invariant.path c.if-at-2.true

pub loop-preserved : goal.loop-preserved
loop-preserved c =
    let node = c.args.node in
    let rows = c.args.rows.now in
    let at = c.loop.at in
    let is = c.row_at-row.ensures in
    let yes : c.fits.result ≡ true = search rules in
    let ok : row_fits node c.loop.before (row_at rows at) ≡ true = ap (row_fits node c.loop.before) (sym is) ∙ sym c.fits.ensures ∙ yes in
    let link : c.next-at.result ≡ row_next node (row_at rows at) = c.next-at.ensures ∙ ap (row_next node) is in
    record {
      low = grind (arith, common_steps);
      count = search rules;
      path = path_step (λ x. row_next node (row_at rows x)) _ (length rows) nil c.args.first c.loop.ids.items c.loop.before at c.loop.invariant.path
          (omega arith) ok _ _ c.in_ok-push.ensures.items link;
    }

pub returns-then-at-rows-clause-none : goal.returns-then-at-rows-clause-none
returns-then-at-rows-clause-none c =
    let past : length c.args.rows.now ≤ c.loop.at = omega (arith, c.if-at-rows.true) in
    no_line _ _ (length c.args.rows.now) c.requires nil c.args.first c.loop.ids.items c.loop.before c.loop.at c.loop.invariant.path c.if-at.false (inl past)

pub returns-then-not-fits-clause-none : goal.returns-then-not-fits-clause-none
returns-then-not-fits-clause-none c =
    let no : c.fits.result ≡ false = search rules in
    let bad : row_fits c.args.node c.loop.before (row_at c.args.rows.now c.loop.at) ≡ false = ap (row_fits c.args.node c.loop.before) (sym c.row_at-row.ensures)
    ∙ sym c.fits.ensures ∙ no in
    no_line _ _ (length c.args.rows.now) c.requires nil c.args.first c.loop.ids.items c.loop.before c.loop.at c.loop.invariant.path c.if-at.false (inr bad)

pub returns-else-at-2-clause-none : goal.returns-else-at-2-clause-none
returns-else-at-2-clause-none c =
    let long : length c.loop.ids.items ≡ length c.args.rows.now = omega (arith, c.loop.invariant.count) in
    no_line_so_long _ _ (length c.args.rows.now) c.requires nil c.args.first c.loop.ids.items c.loop.before c.loop.at c.loop.invariant.path c.if-at-2.false long

pub returns-in_err-push-clause-found : goal.returns-in_err-push-clause-found
returns-in_err-push-clause-found c = never_ok c.from_residual.result _ _ c.from_residual.ensures.1

pub returns-in_err-push-clause-none : goal.returns-in_err-push-clause-none
returns-in_err-push-clause-none c = never_ok c.from_residual.result _ _ c.from_residual.ensures.1

pub returns-in_err-push-clause-low : goal.returns-in_err-push-clause-low
returns-in_err-push-clause-low c = never_ok c.from_residual.result _ _ c.from_residual.ensures.1
