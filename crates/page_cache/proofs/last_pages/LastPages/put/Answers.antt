use Rattle.std.proofs.Common.{◌∙◌, inr, true, false, Option, ap, arith, set}
use Rattle.page_cache.specs.declared.last_pages.LastPage.{LastPage}
use Rattle.page_cache.specs.LastPages.{numbers_of}
use Rattle.page_cache.proofs.Known.{numbers_emptied, numbers_put}
use Rattle.page_cache.proofs.LastPages.{apart_past}
use Rattle.page_cache.proofs.last_pages.LastPages.put.Goals as goal
use Rattle.page_cache.proofs.last_pages.LastPages.put.Goals.{in-Some, in-None}

pub returns-after-share-clause-numbers : goal.returns-after-share-clause-numbers
returns-after-share-clause-numbers c =
    let files = c.args.self.now.files in
    let numbers = λ (slot : Option LastPage). numbers_of (set files c.args.key.file slot) in
    elim c.match-share.branch [
      | in-Some w ↦ (true, ap numbers w.last-is ∙ numbers_put files c.args.key w.in-Some.page)
      | in-None w ↦ (false, ap numbers w.last-is ∙ numbers_emptied files c.args.key)
    ]

pub returns-else-file-lt-FILES-clause-pages : goal.returns-else-file-lt-FILES-clause-pages
returns-else-file-lt-FILES-clause-pages c other bytes is =
    inr (apart_past c.args.self.now.files c.args.key other bytes (omega arith) is, is)
