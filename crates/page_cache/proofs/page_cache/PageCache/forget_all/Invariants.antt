use Rattle.page_cache.proofs.Forgetting.{HasForgotten}
use Rattle.page_cache.proofs.page_cache.PageCache.forget_all.Given as goal

abbrev pub invariant-loop-i : goal.invariant-loop-i
invariant-loop-i l = HasForgotten l.written.pairs l.i l.fn.self l.self
