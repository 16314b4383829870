use Rattle.std.proofs.Common.{◌≡◌, ◌∙◌, false, true, get_or, sym, arith}
use Rattle.std.proofs.lemmas.List.Sums.{prefix_len-drop_no, prefix_len-drop_yes, prefix_len-drop_all}
use Rattle.gremlin_parse.specs.ByteKinds.{is_of}
use Rattle.gremlin_parse.proofs.byte_kind.run_len.Goals as goal

pub loop-byte-preserved : goal.loop-byte-preserved
loop-byte-preserved c =
    let bytes = c.args.bytes.now in
    let i = c.loop-byte.byte-index in
    let is : is_of c.args.kind (get_or bytes i 0) ≡ true = sym c.is_of.ensures ∙ c.if-not-is_of.false in
    let more = prefix_len-drop_yes (is_of c.args.kind) bytes i 0 c.loop-byte-test.true is in
    let at = c.loop-byte.invariant.at in
    let count = c.loop-byte.invariant.count in
    record { at = omega arith; count = omega (arith, more, count) }

pub returns-then-not-is_of-clause-count : goal.returns-then-not-is_of-clause-count
returns-then-not-is_of-clause-count c =
    let bytes = c.args.bytes.now in
    let i = c.loop-byte.byte-index in
    let no : is_of c.args.kind (get_or bytes i 0) ≡ false = sym c.is_of.ensures ∙ c.if-not-is_of.true in
    let none = prefix_len-drop_no (is_of c.args.kind) bytes i 0 c.loop-byte-test.true no in
    let count = c.loop-byte.invariant.count in
    omega (arith, none, count)

pub returns-then-not-is_of-clause-bound : goal.returns-then-not-is_of-clause-bound
returns-then-not-is_of-clause-bound c = let at = c.loop-byte.invariant.at in omega (arith, at)

pub returns-clause-count : goal.returns-clause-count
returns-clause-count c =
    let none = prefix_len-drop_all (is_of c.args.kind) c.args.bytes.now c.loop-byte.byte-index c.loop-byte-test.false in
    let count = c.loop-byte.invariant.count in
    omega (arith, none, count)
