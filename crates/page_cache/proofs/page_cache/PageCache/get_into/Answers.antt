use Rattle.std.proofs.Common.{◌≡◌, ◌∙◌, ap, is_some, subst, sym}
use Rattle.page_cache.specs.Pages.{KeepsPage, Pages, kept_page}
use Rattle.page_cache.specs.Staying.{StayKept}
use Rattle.page_cache.proofs.Keeping.{keeps_missed, kept_used, none_kept, stay_missed, stay_none, stay_used}
use Rattle.page_cache.proofs.page_cache.PageCache.get_into.Goals as goal

pub returns-then-find_into-clause-told : goal.returns-then-find_into-clause-told
returns-then-find_into-clause-told g c =
    sym c.if-find_into.true ∙ c.find_into.ensures.kept ∙ ap is_some (sym (kept_used c.args.key c.args.self.now c.find_into.new.self c.find_into.ensures.used
    c.args.key))

pub returns-then-find_into-clause-stay : goal.returns-then-find_into-clause-stay
returns-then-find_into-clause-stay g c = stay_used c.args.key c.args.self.now c.find_into.new.self c.find_into.ensures.used

pub returns-in-Ok-clause-pages : goal.returns-in-Ok-clause-pages
returns-in-Ok-clause-pages g c =
    let same : c.spare_page.new.self ≡ c.args.self.now = c.spare_page.ensures ∙ (c.find_into.ensures.absent c.if-find_into.false).1 in
    let none = none_kept c.args.key c.args.self.now (sym c.if-find_into.false ∙ c.find_into.ensures.kept) in
    subst (λ pages. KeepsPage c.args.key pages c.load.new.self) same
    (c.load.ensures.pages (ap (λ (pages : Pages). kept_page c.args.key pages) same ∙ none))

pub returns-in_ok-rec-in-Err-clause-pages : goal.returns-in_ok-rec-in-Err-clause-pages
returns-in_ok-rec-in-Err-clause-pages g c =
    let same : c.spare_page.new.self ≡ c.args.self.now = c.spare_page.ensures ∙ (c.find_into.ensures.absent c.if-find_into.false).1 in
    keeps_missed c.args.key c.args.self.now c.spare_page.new.self
    (none_kept c.args.key c.args.self.now (sym c.if-find_into.false ∙ c.find_into.ensures.kept)) same

pub returns-in_err-rec-in-Err-clause-pages : goal.returns-in_err-rec-in-Err-clause-pages
returns-in_err-rec-in-Err-clause-pages g c =
    let same : c.spare_page.new.self ≡ c.args.self.now = c.spare_page.ensures ∙ (c.find_into.ensures.absent c.if-find_into.false).1 in
    keeps_missed c.args.key c.args.self.now c.spare_page.new.self
    (none_kept c.args.key c.args.self.now (sym c.if-find_into.false ∙ c.find_into.ensures.kept)) same

pub returns-in-Ok-clause-told : goal.returns-in-Ok-clause-told
returns-in-Ok-clause-told g c =
    let same : c.spare_page.new.self ≡ c.args.self.now = c.spare_page.ensures ∙ (c.find_into.ensures.absent c.if-find_into.false).1 in
    let none = none_kept c.args.key c.args.self.now (sym c.if-find_into.false ∙ c.find_into.ensures.kept) in
    c.load.ensures.told (ap (λ (pages : Pages). kept_page c.args.key pages) same ∙ none)

pub returns-in-Ok-clause-stay : goal.returns-in-Ok-clause-stay
returns-in-Ok-clause-stay g c =
    let same : c.spare_page.new.self ≡ c.args.self.now = c.spare_page.ensures ∙ (c.find_into.ensures.absent c.if-find_into.false).1 in
    let none = none_kept c.args.key c.args.self.now (sym c.if-find_into.false ∙ c.find_into.ensures.kept) in
    stay_missed c.args.key c.args.self.now c.load.new.self none
    (subst (λ pages. KeepsPage c.args.key pages c.load.new.self) same
    (c.load.ensures.pages (ap (λ (pages : Pages). kept_page c.args.key pages) same ∙ none)))

pub returns-in_ok-rec-in-Err-clause-told : goal.returns-in_ok-rec-in-Err-clause-told
returns-in_ok-rec-in-Err-clause-told g c =
    let same : c.spare_page.new.self ≡ c.args.self.now = c.spare_page.ensures ∙ (c.find_into.ensures.absent c.if-find_into.false).1 in
    let none = none_kept c.args.key c.args.self.now (sym c.if-find_into.false ∙ c.find_into.ensures.kept) in
    sym (ap (λ (pages : Pages). is_some (kept_page c.args.key pages)) same ∙ ap is_some none)

pub returns-in_ok-rec-in-Err-clause-stay : goal.returns-in_ok-rec-in-Err-clause-stay
returns-in_ok-rec-in-Err-clause-stay g c =
    let same : c.spare_page.new.self ≡ c.args.self.now = c.spare_page.ensures ∙ (c.find_into.ensures.absent c.if-find_into.false).1 in
    subst (StayKept c.args.self.now) (sym same) (stay_none c.args.self.now)

pub returns-in_err-rec-in-Err-clause-stay : goal.returns-in_err-rec-in-Err-clause-stay
returns-in_err-rec-in-Err-clause-stay g c =
    let same : c.spare_page.new.self ≡ c.args.self.now = c.spare_page.ensures ∙ (c.find_into.ensures.absent c.if-find_into.false).1 in
    subst (StayKept c.args.self.now) (sym same) (stay_none c.args.self.now)
