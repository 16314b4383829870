use Rattle.std.proofs.Common.{arith}
use Rattle.page_cache.proofs.Forgetting.{forgotten_agrees, forgotten_more}
use Rattle.page_cache.proofs.page_cache.PageCache.forget_all.Goals as goal

pub loop-i-preserved : goal.loop-i-preserved
loop-i-preserved c = forgotten_more c.args.written.now.pairs c.loop-i.i c.at.result c.args.self.now c.loop-i.self c.forget.new.self c.at.ensures.value
    c.forget.ensures.pages c.forget.ensures.gone c.loop-i.invariant

pub returns-clause-agrees : goal.returns-clause-agrees
returns-clause-agrees c old new keeps agrees =
    forgotten_agrees c.args.written.now.pairs c.loop-i.i c.args.self.now c.loop-i.self old new (omega (arith, c.len-i-end.ensures.value)) c.loop-i.invariant
    keeps agrees
