use Rattle.std.proofs.Common.{◌≡◌, sym, subst}
use Rattle.page_cache.specs.LastPages.{AreFirst, seen}
use Rattle.page_cache.specs.Pages.{PageList, without_file}
use Rattle.page_cache.proofs.Known.{seen_put, seen_refused}
use Rattle.page_cache.proofs.LastPages.{last_pushed, last_refused}
use Rattle.page_cache.proofs.page_cache.PageCache.keep.Goals as goal

pub invariant_of-self : goal.invariant_of-self
invariant_of-self c =
    last_pushed c.self.inside.last.files c.put.new.self.files c.forget_gone.new.self.files c.self.inside.pages c.push.new.self c.args.key c.args.page
    c.in-Ok.gone
    c.len-before.ensures.valid.1 c.len-before.ensures.valid.2 c.self.invariant c.put.ensures.pages c.in-Ok.ensures.old c.forget_gone.ensures.pages
    c.in-Ok.ensures.entries

pub invariant_of-self-in-Err : goal.invariant_of-self-in-Err
invariant_of-self-in-Err c =
    subst (AreFirst c.forget.new.self.files) (sym c.in-Err.ensures.err)
    (last_refused c.self.inside.last.files c.put.new.self.files c.forget.new.self.files c.self.inside.pages c.args.key c.args.page c.self.invariant
    c.put.ensures.pages c.forget.ensures.pages)

pub returns-in-Ok-clause-kept : goal.returns-in-Ok-clause-kept
returns-in-Ok-clause-kept c _ = (
  c.put.ensures.numbers.0,
  seen_put c.self.inside.pages c.push.new.self c.self.inside.last.files c.put.new.self.files c.forget_gone.new.self.files c.args.key c.args.page
      c.put.ensures.numbers.0 c.in-Ok.gone c.args.self.now c.in-Ok.ensures.entries c.put.ensures.numbers.1 c.in-Ok.ensures.old
      c.forget_gone.ensures.numbers c.self.view_is,
)

pub returns-in-Err-clause-refused : goal.returns-in-Err-clause-refused
returns-in-Err-clause-refused c _ =
    subst (λ (list : PageList). seen list c.forget.new.self.files ≡ without_file c.args.key c.args.self.now) (sym c.in-Err.ensures.err)
    (seen_refused c.self.inside.pages c.self.inside.last.files c.put.new.self.files c.forget.new.self.files c.args.key c.put.ensures.numbers.0
    c.args.self.now c.put.ensures.numbers.1 c.forget.ensures.numbers c.self.view_is)
