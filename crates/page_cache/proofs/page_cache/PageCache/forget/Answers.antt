use Rattle.std.proofs.Common.{ap, sym, subst, List, ℕ}
use Rattle.lru.specs.LruCache.{LruCache}
use Rattle.page_cache.specs.declared.page.PageKey.{PageKey}
use Rattle.page_cache.specs.LastPages.{AreFirst, seen}
use Rattle.page_cache.specs.Pages.{Agrees}
use Rattle.page_cache.proofs.Agreement.{agrees_forgotten, gone_forgotten}
use Rattle.page_cache.proofs.Known.{seen_forgotten}
use Rattle.page_cache.proofs.LastPages.{last_forgotten}
use Rattle.page_cache.proofs.page_cache.PageCache.forget.Goals as goal

pub returns-clause-agrees : goal.returns-clause-agrees
returns-clause-agrees c old new same agrees =
    agrees_forgotten old new c.args.key c.of-page.result (seen c.self.inside.pages c.self.inside.last.files)
    (seen c.pop.new.self c.forget.new.self.files) c.of-page.ensures same c.len-before.ensures.valid.0
    c.len-after.ensures.valid.0
    (ap (λ (cache : LruCache PageKey (List ℕ)). cache.entries) c.pop.ensures.entries)
    (subst (Agrees old) (sym c.self.view_is) agrees)

pub returns-clause-gone : goal.returns-clause-gone
returns-clause-gone c bytes =
    gone_forgotten c.args.key c.of-page.result (seen c.self.inside.pages c.self.inside.last.files) (seen c.pop.new.self c.forget.new.self.files)
    c.of-page.ensures c.len-before.ensures.valid.0 c.len-after.ensures.valid.0
    (ap (λ (cache : LruCache PageKey (List ℕ)). cache.entries) c.pop.ensures.entries) bytes

pub invariant_of-self : goal.invariant_of-self
invariant_of-self c =
    subst (AreFirst c.forget.new.self.files) (sym c.pop.ensures.entries)
    (last_forgotten c.self.inside.last.files c.forget.new.self.files c.self.inside.pages c.of-page.result c.self.invariant c.forget.ensures.pages)

pub returns-clause-pages : goal.returns-clause-pages
returns-clause-pages c =
    seen_forgotten c.self.inside.pages c.pop.new.self c.self.inside.last.files c.forget.new.self.files c.args.key c.of-page.result c.args.self.now
    c.pop.ensures.entries c.forget.ensures.numbers c.of-page.ensures c.self.view_is
