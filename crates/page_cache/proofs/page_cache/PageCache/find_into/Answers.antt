use Rattle.std.proofs.Common.{ap, inl, inr, refl, sym, subst, ◌∙◌, ◌≡◌, Contains, IsSome, List, Option, Some, None, is_some, option_copied, true, false, ℕ}
use Rattle.std.specs.Map.{lookup}
use Rattle.lru.proofs.CallerLemmas.{Contains-promoted}
use Rattle.lru.specs.LruCache.{lru_cache, promoted}
use Rattle.disk_model.specs.Contents.{Files}
use Rattle.page_cache.specs.declared.page.PageKey.{PageKey}
use Rattle.page_cache.specs.declared.last_pages.LastPage.{LastPage}
use Rattle.page_cache.specs.LastPages.{AreFirst, numbers_of, seen}
use Rattle.page_cache.specs.Pages.{Agrees, IsLastUsed, PageList, Pages, first_of, is_last, kept_page, page_eq, page_of}
use Rattle.page_cache.proofs.Agreement.{agrees_found, agrees_within, unused}
use Rattle.page_cache.proofs.Known.{is_last-numbers_of, seen_used}
use Rattle.page_cache.proofs.LastPages.{first_kept, last_used}
use Rattle.page_cache.proofs.page_cache.PageCache.find_into.Goals as goal

-- the last page of the record's file is the record's, and it is among the pages
held : (c : goal.After-read_record) → kept_page c.args.key c.args.self.now ≡ Some c.in-Some.page.now
held c =
    ap (λ (page : PageKey). lookup (page_eq page) c.args.self.now.entries) (sym c.of-wanted.ensures)
    ∙ subst (λ (pages : Pages). lookup (page_eq c.of-wanted.result) pages.entries ≡ Some c.in-Some.page.now) c.self.view_is
    (first_kept c.of-wanted.result c.in-Some.page.now c.self.inside.pages.entries
    (c.self.invariant c.of-wanted.result c.in-Some.page.now (sym c.in-Some.ensures)))

-- and it is the first of them that is of this file
last_used_there : (c : goal.After-read_record) → IsLastUsed c.args.key c.args.self.now
last_used_there c = record {
  known = subst (λ (pages : Pages). is_last (page_of c.args.key) pages.last ≡ true) c.self.view_is
      (subst (λ (page : PageKey). is_last page (numbers_of c.self.inside.last.files) ≡ true) c.of-wanted.ensures
      (is_last-numbers_of c.self.inside.last.files c.of-wanted.result ∙ ap is_some (sym c.in-Some.ensures)));
  bytes = c.in-Some.page.now;
  first = subst (λ (pages : Pages). first_of c.args.key.file pages.entries ≡ Some (page_of c.args.key, c.in-Some.page.now)) c.self.view_is
      (subst (λ (page : PageKey). first_of page.file c.self.inside.pages.entries ≡ Some (page, c.in-Some.page.now)) c.of-wanted.ensures
      (c.self.invariant c.of-wanted.result c.in-Some.page.now (sym c.in-Some.ensures)));
}

pub returns-in-Some-clause-used : goal.returns-in-Some-clause-used
returns-in-Some-clause-used c = inl (inl (last_used_there c), refl)

pub returns-in-Some-clause-kept : goal.returns-in-Some-clause-kept
returns-in-Some-clause-kept c = ap is_some (sym (held c))

pub returns-in-Some-clause-record : goal.returns-in-Some-clause-record
returns-in-Some-clause-record c content agrees there =
    c.read_record.ensures ∙ agrees_found content c.args.self.now c.args.key c.in-Some.page.now c.requires agrees (held c)

-- where the list is looked through
moved_agrees : (content : Files) (list moved : PageList) (old new : List (Option LastPage)) (wanted : PageKey)
    → moved ≡ lru_cache (promoted (page_eq wanted) list.entries) list.cap → Agrees content (seen list old) → Agrees content (seen moved new)
moved_agrees content list moved old new wanted is agrees =
    agrees_within content (seen list old) (seen moved new) agrees
    (λ entry i. Contains-promoted (page_eq wanted) list.entries entry (subst (λ (l : PageList). Contains l.entries entry) is i))

pub invariant_of-self : goal.invariant_of-self
invariant_of-self c =
    subst (AreFirst c.put.new.self.files) (sym c.get.follows.holds-at-none)
    (last_used c.self.inside.last.files c.put.new.self.files c.self.inside.pages c.of-wanted.result c.in-Some-get.page.now (sym c.in-Some-get.ensures.value)
    c.self.invariant c.put.ensures.pages)

-- where the page isn't kept
unmoved : (list moved : PageList) (wanted : PageKey) → moved ≡ lru_cache (promoted (page_eq wanted) list.entries) list.cap
    → lookup (page_eq wanted) list.entries ≡ None → moved ≡ list
unmoved list moved wanted is none = is ∙ ap (λ (entries : List (PageKey × List ℕ)). lru_cache entries list.cap) (unused (page_eq wanted) list.entries none)

pub invariant_of-self-in-None : goal.invariant_of-self-in-None
invariant_of-self-in-None c =
    subst (AreFirst c.self.inside.last.files)
    (sym (unmoved c.self.inside.pages c.get.follows.lender-at-none c.of-wanted.result c.get.follows.holds-at-none (sym c.in-None.ensures.value)))
    c.self.invariant

pub returns-in-Some-get-clause-record : goal.returns-in-Some-get-clause-record
returns-in-Some-get-clause-record c content agrees there =
    let list = c.self.inside.pages in
    c.read_record-in-Some-get.ensures
    ∙ agrees_found content (seen list c.self.inside.last.files) c.args.key c.in-Some-get.page.now c.requires
    (subst (Agrees content) (sym c.self.view_is) agrees)
    (ap (λ (page : PageKey). lookup (page_eq page) list.entries) (sym c.of-wanted.ensures) ∙ sym c.in-Some-get.ensures.value)

pub returns-in-Some-get-clause-agrees : goal.returns-in-Some-get-clause-agrees
returns-in-Some-get-clause-agrees c content agrees =
    moved_agrees content c.self.inside.pages c.get.follows.lender-at-none c.self.inside.last.files c.put.new.self.files c.of-wanted.result
    c.get.follows.holds-at-none
    (subst (Agrees content) (sym c.self.view_is) agrees)

-- no page is the last one of its file where none is found
unfound : {X : Type 0} (o : Option X) → ((x : X) → o ≡ Some x → ⊥) → o ≡ None
unfound None other = refl
unfound (Some x) other = absurd (other x refl)

pub returns-in-Some-get-clause-used : goal.returns-in-Some-get-clause-used
returns-in-Some-get-clause-used c =
    let list = c.self.inside.pages in
    let files = c.self.inside.last.files in
    inr (record {
      unknown = subst (λ (pages : Pages). is_last (page_of c.args.key) pages.last ≡ false) c.self.view_is
          (subst (λ (page : PageKey). is_last page (numbers_of files) ≡ false) c.of-wanted.ensures
          (is_last-numbers_of files c.of-wanted.result ∙ ap is_some (sym c.find.ensures)
          ∙ ap (λ o. is_some (option_copied o)) (unfound c.find.result c.in_default.not-Some)));
      kept = subst (λ (pages : Pages). IsSome (kept_page c.args.key pages)) c.self.view_is
          (subst (λ (page : PageKey). IsSome (lookup (page_eq page) list.entries)) c.of-wanted.ensures (ap is_some (sym c.in-Some-get.ensures.value)));
      shared = c.put.ensures.numbers.0;
      moved = seen_used list c.get.follows.lender-at-none files c.put.new.self.files c.args.key c.of-wanted.result c.put.ensures.numbers.0 c.args.self.now
          c.get.follows.holds-at-none c.put.ensures.numbers.1 c.of-wanted.ensures c.self.view_is;
    })

pub returns-in-None-clause-agrees : goal.returns-in-None-clause-agrees
returns-in-None-clause-agrees c content agrees =
    moved_agrees content c.self.inside.pages c.get.follows.lender-at-none c.self.inside.last.files c.self.inside.last.files c.of-wanted.result
    c.get.follows.holds-at-none
    (subst (Agrees content) (sym c.self.view_is) agrees)

-- all stays as it was
stays : (list moved : PageList) (files : List (Option LastPage)) (now : Pages) (wanted : PageKey)
    → moved ≡ lru_cache (promoted (page_eq wanted) list.entries) list.cap → lookup (page_eq wanted) list.entries ≡ None → seen list files ≡ now
    → seen moved files ≡ now
stays list moved files now wanted is none view = ap (λ (l : PageList). seen l files) (unmoved list moved wanted is none) ∙ view

pub returns-in-None-clause-absent : goal.returns-in-None-clause-absent
returns-in-None-clause-absent c _ = (
  refl,
  stays c.self.inside.pages c.get.follows.lender-at-none c.self.inside.last.files c.args.self.now c.of-wanted.result c.get.follows.holds-at-none
      (sym c.in-None.ensures.value) c.self.view_is,
)

pub returns-in-None-clause-used : goal.returns-in-None-clause-used
returns-in-None-clause-used c = inl (
  inr (subst (λ (pages : Pages). kept_page c.args.key pages ≡ None) c.self.view_is
      (subst (λ (page : PageKey). lookup (page_eq page) c.self.inside.pages.entries ≡ None) c.of-wanted.ensures (sym c.in-None.ensures.value))),
  stays c.self.inside.pages c.get.follows.lender-at-none c.self.inside.last.files c.args.self.now c.of-wanted.result c.get.follows.holds-at-none
      (sym c.in-None.ensures.value) c.self.view_is,
)
