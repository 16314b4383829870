use mathlib.Core.Bool.{false≢true}
use Rattle.std.proofs.Common.{ap, sym, ◌∙◌, is_some, arith}
use Rattle.rec_bytes.specs.PairOrder.{no_pair, in_order}
use Rattle.rec_bytes.proofs.PairLaws.{find_at}
use Rattle.rec_bytes.proofs.place_hints.gap_of.Goals as goal

pub search-requires-clause-below : goal.search-requires-clause-below
search-requires-clause-below c k none = absurd (omega (arith, none))

pub unreachable-requires : goal.unreachable-requires
unreachable-requires c =
    absurd (false≢true (sym (ap is_some c.requires.absent)
    ∙ ap is_some (find_at (in_order c.args.pairs.now.items c.args.order.now.items) c.args.key c.in-Ok.field-0 no_pair c.in-Ok.ensures.found)))
