use Rattle.std.proofs.Common.{sym, ◌∙◌}
use Rattle.store_rules.specs.Ranges.{free_layout, used_layout}
use Rattle.store_rules.specs.Views.{high}
use Rattle.rec_bytes.specs.Record.{field}
use Rattle.store_check.proofs.LayoutLaws.{fits_by, free_is, used_is}
use Rattle.store_check.proofs.layout.fits.Goals as goal

pub returns-then-file-ne-NAMES : goal.returns-then-file-ne-NAMES
returns-then-file-ne-NAMES g c =
    let free = sym c.byte.ensures ∙ c.if-byte-eq-FREE.true in
    fits_by (high (g.R.Reads.state c.args.space.now).records) c.args.file c.args.rec.now (free_layout c.args.file) c.is_free.result
    (free_is c.args.file c.args.rec.now c.requires c.if-file-ne-NAMES.true free) c.is_free.ensures

pub returns-else-byte-eq-FREE : goal.returns-else-byte-eq-FREE
returns-else-byte-eq-FREE g c =
    fits_by (high (g.R.Reads.state c.args.space.now).records) c.args.file c.args.rec.now (used_layout c.args.file c.args.rec.now (field 1 c.args.rec.now 0))
    c.is_used_record.result (used_is c.args.file c.args.rec.now (λ e. c.if-byte-eq-FREE.false (c.byte.ensures ∙ e))) c.is_used_record.ensures
