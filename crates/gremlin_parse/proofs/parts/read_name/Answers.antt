use Rattle.std.proofs.Common.{◌≡◌, take, drop, length, length-take-le, refl, sym, ◌∙◌, arith}
use Rattle.gremlin_parse.proofs.Names.{takes_name}
use Rattle.gremlin_parse.proofs.parts.read_name.Goals as goal

pub returns-then-len-gt-NAME_BYTES-clause-err : goal.returns-then-len-gt-NAME_BYTES-clause-err
returns-then-len-gt-NAME_BYTES-clause-err c =
    let bytes = c.args.bytes.now in
    let n = c.run_len-len.result in
    let fits = c.run_len-len.ensures.bound in
    let len : length (take n bytes) ≡ n = length-take-le n bytes fits in (
      take n bytes,
      omega arith,
      drop n bytes,
      takes_name bytes (take n bytes) (drop n bytes) n c.in-len1-up.len_at_least (sym c.is_name_start.ensures
          ∙ c.if-is_name_start.true) c.run_len-len.ensures.count refl refl,
      refl,
    )

pub returns-clause-ok : goal.returns-clause-ok
returns-clause-ok c =
    let bytes = c.args.bytes.now in
    let n = c.run_len-len.result in
    record {
      takes = takes_name bytes c.split_at.result.0.now c.split_at.result.1.now n c.in-len1-up.len_at_least
          (sym c.is_name_start.ensures ∙ c.if-is_name_start.true) c.run_len-len.ensures.count c.split_at.ensures.front c.split_at.ensures.back;
      allowed = tt;
      bounded = rw (c.split_at.ensures.front, length-take-le n bytes c.run_len-len.ensures.bound) (omega arith);
    }
