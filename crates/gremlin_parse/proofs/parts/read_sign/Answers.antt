use Rattle.std.proofs.Common.{arith}
use Rattle.gremlin_parse.proofs.Differing.{leaves_word, leaves_word_at_end, first_differs}
use Rattle.gremlin_parse.proofs.parts.read_sign.Goals as goal

pub returns-in_default-clause-err : goal.returns-in_default-clause-err
returns-in_default-clause-err c = leaves_word_at_end c.args.sign.now c.args.bytes.now c.loop-byte.rest.now c.loop-byte.byte-index c.loop-byte-test.true
    c.loop-byte.invariant (omega arith)

pub returns-then-first-byte-clause-err : goal.returns-then-first-byte-clause-err
returns-then-first-byte-clause-err c = leaves_word c.args.sign.now c.args.bytes.now c.loop-byte.rest.now c.loop-byte.byte-index c.loop-byte-test.true
    c.loop-byte.invariant (first_differs c.loop-byte.rest.now _ c.if-first-byte.true)
