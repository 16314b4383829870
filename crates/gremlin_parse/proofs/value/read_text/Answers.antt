use Rattle.std.proofs.Common.{◌<◌, ◌≤◌, length, arith}
use Rattle.plain_graph.specs.declared.value.Value.TheVariants as values
use Rattle.gremlin_parse.specs.Values.{unescaped}
use Rattle.gremlin_parse.proofs.Values.{takes_text}
use Rattle.gremlin_parse.proofs.Exits.{never_ok}
use Rattle.gremlin_parse.proofs.value.read_text.Goals as goal

pub returns-then-quoted-gt-TEXT_BYTES-clause-err : goal.returns-then-quoted-gt-TEXT_BYTES-clause-err
returns-then-quoted-gt-TEXT_BYTES-clause-err c =
    let inside = c.in_ok-quoted.quoted.inside.now in
    let reads = c.in_ok-quoted.ensures.ok in
    let long : 1024 < length (unescaped inside) = omega (arith, reads.len_is) in (
      values.Text (unescaped inside),
      long,
      c.in_ok-quoted.rest.now,
      takes_text c.args.quote inside c.in_ok-quoted.quoted.len c.args.after.now
          c.in_ok-quoted.rest.now c.requires reads,
      omega arith,
    )

pub returns-clause-ok : goal.returns-clause-ok
returns-clause-ok c =
    let inside = c.in_ok-quoted.quoted.inside.now in
    let reads = c.in_ok-quoted.ensures.ok in
    let short : length (unescaped inside) ≤ 1024 = omega (arith, reads.len_is) in
    record {
      takes = takes_text c.args.quote inside c.in_ok-quoted.quoted.len c.args.after.now c.in_ok-quoted.rest.now c.requires reads;
      allowed = tt;
      bounded =
          short;
    }

pub returns-in_err-quoted-clause-ok : goal.returns-in_err-quoted-clause-ok
returns-in_err-quoted-clause-ok c = never_ok c.from_residual.result _ _ c.from_residual.ensures.1
