use Rattle.std.proofs.Common.{refl}
use Rattle.gremlin_parse.specs.Numbers.{value_after}
use Rattle.gremlin_parse.proofs.Decimals.{takes_number}
use Rattle.gremlin_parse.proofs.number.cut_number.Goals as goal

pub returns-clause-some : goal.returns-clause-some
returns-clause-some c =
    let digits = c.split_at.result.0.now in
    takes_number c.args.bytes.now digits c.split_at.result.1.now (value_after 0 digits) c.number_len-len.result c.number_len-len.ensures.counts
    c.if-len-eq0.false c.split_at.ensures.front c.split_at.ensures.back refl
