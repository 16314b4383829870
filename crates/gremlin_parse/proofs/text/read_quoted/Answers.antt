use Rattle.std.proofs.Common.{arith}
use Rattle.std.proofs.lemmas.List.{take_rest}
use Rattle.gremlin_parse.specs.Texts.{StartsWith, TakesPiece}
use Rattle.gremlin_parse.proofs.Texts.{text_more, piece_shorter, text_closes}
use Rattle.gremlin_parse.proofs.Exits.{never_ok}
use Rattle.gremlin_parse.proofs.text.read_quoted.Goals as goal

pub loop-after-preserved : goal.loop-after-preserved
loop-after-preserved c =
    let takes : TakesPiece c.args.quote c.loop-after.rest.now c.in-Some.after.now = rw c.in-Some.is at c.in_ok-after.ensures.ok in
    let less = piece_shorter c.args.quote c.loop-after.rest.now c.in-Some.after.now takes in
    record {
      so_far = text_more c.args.quote c.args.bytes.now c.loop-after.rest.now c.in-Some.after.now c.loop-after.len c.loop-after.invariant.so_far takes;
      within = omega arith;
    }

pub returns-clause-ok : goal.returns-clause-ok
returns-clause-ok c =
    let close : StartsWith c.args.quote c.loop-after.rest.now = rw c.in_default.is at c.in_ok-after.ensures.ok in
    text_closes c.args.quote c.args.bytes.now c.loop-after.rest.now c.loop-after.len c.loop-after.invariant.so_far close c.split_at.result.0.now
    c.split_at.result.1.now c.split_at.ensures.front c.split_at.ensures.back _ (take_rest c.split_at.result.1.now 1)

pub returns-in_err-after-clause-ok : goal.returns-in_err-after-clause-ok
returns-in_err-after-clause-ok c = never_ok c.from_residual.result _ _ c.from_residual.ensures.1
