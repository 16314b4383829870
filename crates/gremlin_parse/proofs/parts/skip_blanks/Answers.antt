use Rattle.std.proofs.Common.{take, refl}
use Rattle.std.proofs.lemmas.List.{take_rest}
use Rattle.gremlin_parse.specs.Grammar.{is_blank}
use Rattle.gremlin_parse.proofs.Runs.{cut_run_at}
use Rattle.gremlin_parse.proofs.parts.skip_blanks.Goals as goal

pub returns : goal.returns
returns c =
    let bytes = c.args.bytes.now in
    let n = c.run_len-len.result in
    let cut = cut_run_at is_blank bytes (take n bytes) _ n c.run_len-len.ensures.count refl (take_rest bytes n) in
    record { takes = record { prefix = take n bytes; bytes_are = cut.bytes_are; is = cut.passes; ends = cut.ends }; allowed = tt; bounded = tt }
