use Rattle.std.proofs.Common.{◌≡◌, ◌∙◌, ap, sym, refl, not, true, Bor, Option, Some, None, is_some, option_copied, arith}
use Rattle.page_cache.specs.LastPages.{numbers_of}
use Rattle.page_cache.specs.Pages.{is_last}
use Rattle.page_cache.proofs.Known.{is_last-numbers_of, numbers_emptied, without_last-known}
use Rattle.page_cache.proofs.LastPages.{apart_past, files_apart}
use Rattle.page_cache.proofs.last_pages.LastPages.forget.Goals as goal

copied : {T : Type 0} (o : Option (Bor T)) → is_some (option_copied o) ≡ is_some o
copied (Some x) = refl
copied None = refl

pub returns-then-file-lt-FILES-clause-numbers : goal.returns-then-file-lt-FILES-clause-numbers
returns-then-file-lt-FILES-clause-numbers c =
    let files = c.args.self.now.files in
    let known : is_last c.args.page (numbers_of files) ≡ true
    = is_last-numbers_of files c.args.page ∙ ap is_some (sym c.find.ensures) ∙ copied c.find.result ∙ c.is_none.ensures ∙ ap not c.if-is_none.false in
    numbers_emptied files c.args.page ∙ sym (without_last-known c.args.page (numbers_of files) known)

pub returns-else-file-lt-FILES-clause-pages : goal.returns-else-file-lt-FILES-clause-pages
returns-else-file-lt-FILES-clause-pages c other bytes is = (
  files_apart c.args.page other (apart_past c.args.self.now.files c.args.page other bytes (omega arith) is),
  is,
)
