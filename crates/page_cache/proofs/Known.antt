-- Of each file the number of the page that is known as the one used last.
use Rattle.std.proofs.Common.{◌≡◌, ◌∙◌, ℕ, zero, suc, Bool, true, false, cond, List, [], ◌∷◌, Option, Some, None, is_some}
use Rattle.std.proofs.Common.{ap, refl, arith, nat_eq, set, slice_get}
use Rattle.std.proofs.lemmas.Bool.Decides.{nat_tests}
use Rattle.std.proofs.lemmas.List.{map-set}
use Rattle.std.proofs.lemmas.Option.{slice_get-map}
use Rattle.std.specs.Map.{remove_entry}
use Rattle.std.specs.Option.{option_map}
use Rattle.lru.specs.LruCache.{lru_cache, promoted, displaced, put_entries}
use Rattle.rec_bytes.specs.declared.key.Key.{Key}
use Rattle.page_cache.specs.declared.last_pages.LastPage.{LastPage}
use Rattle.page_cache.specs.declared.page.PageKey.{PageKey}
use Rattle.page_cache.specs.LastPages.{last_page, number_of, numbered, numbers_of, seen}
use Rattle.page_cache.specs.Pages.{PageList, Pages, is_last, is_number, page_eq, page_of, used_last, with_last, with_page, without_file, without_gone}
use Rattle.page_cache.specs.Pages.{without_last, without_page}

-- a page is the last one of its file exactly if its number is known as that
pub is_last-numbers_of : (files : List (Option LastPage)) (page : PageKey) → is_last page (numbers_of files) ≡ is_some (last_page files page)
is_last-numbers_of files page = ap (is_number page.number) (slice_get-map number_of files page.file) ∙ at (slice_get files page.file)
  where
    same : (here : Bool) (bytes : List ℕ) → here ≡ is_some (cond here (Some bytes) None)
    same true bytes = refl
    same false bytes = refl

    at : (found : Option (Option LastPage)) → is_number page.number (option_map number_of found) ≡ is_some (numbered page.number found)
    at None = refl
    at (Some None) = refl
    at (Some (Some last)) = same (nat_eq last.number page.number) last.page

-- a page becomes the last one of its file
pub numbers_put : (files : List (Option LastPage)) (page : PageKey) (bytes : List ℕ)
    → numbers_of (set files page.file (Some (record { number = page.number; page = bytes }))) ≡ with_last page true (numbers_of files)
numbers_put files page bytes = map-set number_of files page.file (Some (record { number = page.number; page = bytes }))

-- none is the last one of its file
pub numbers_emptied : (files : List (Option LastPage)) (page : PageKey) → numbers_of (set files page.file None) ≡ with_last page false (numbers_of files)
numbers_emptied files page = map-set number_of files page.file None

cond_true : {X : Type 0} (b : Bool) (x y : X) → b ≡ true → cond b x y ≡ x
cond_true b x y is = ap (λ b. cond b x y) is

-- the page that is known is forgotten
pub without_last-known : (page : PageKey) (last : List (Option ℕ)) → is_last page last ≡ true → without_last page last ≡ with_last page false last
without_last-known page last is = cond_true (is_last page last) (set last page.file None) last is

-- a page that was just made the known one is forgotten
forgotten_at : (number : ℕ) (shared : Bool) (last : List (Option ℕ)) (file : ℕ)
    → cond (is_number number (slice_get (set last file (cond shared (Some number) None)) file)) (set (set last file (cond shared (Some number) None)) file None)
    (set last file (cond shared (Some number) None)) ≡ set last file None
forgotten_at number shared [] file = refl
forgotten_at number true (x ∷ rest) zero = cond_true (nat_eq number number) (None ∷ rest) (Some number ∷ rest) (grind (arith, nat_tests))
forgotten_at number false (x ∷ rest) zero = refl
forgotten_at number shared (x ∷ rest) (suc file) =
    let next = set rest file (cond shared (Some number) None) in
    lift (is_number number (slice_get next file)) (set next file None) next ∙ ap (λ (l : List (Option ℕ)). x ∷ l) (forgotten_at number shared rest file)
  where
    lift : (b : Bool) (a c : List (Option ℕ)) → cond b (x ∷ a) (x ∷ c) ≡ x ∷ cond b a c
    lift true a c = refl
    lift false a c = refl

pub without_last-with_last : (page : PageKey) (shared : Bool) (last : List (Option ℕ))
    → without_last page (with_last page shared last) ≡ with_last page false last
without_last-with_last page shared last = forgotten_at page.number shared last page.file

abbrev of_parts : List (PageKey × List ℕ) → ℕ → List (Option ℕ) → Pages
of_parts entries cap last = record { entries = entries; cap = cap; last = last }

-- what contracts see where a page is used
pub seen_used : (list moved : PageList) (old new : List (Option LastPage)) (key : Key) (wanted : PageKey) (shared : Bool) (now : Pages)
    → moved ≡ lru_cache (promoted (page_eq wanted) list.entries) list.cap → numbers_of new ≡ with_last wanted shared (numbers_of old)
    → wanted ≡ page_of key → seen list old ≡ now → seen moved new ≡ used_last key shared now
seen_used list moved old new key wanted shared now moves puts its view =
    ap (λ (l : PageList). seen l new) moves
    ∙ ap (λ (last : List (Option ℕ)). of_parts (promoted (page_eq wanted) list.entries) list.cap last) puts
    ∙ ap (λ (page : PageKey). of_parts (promoted (page_eq page) list.entries) list.cap (with_last page shared (numbers_of old))) its
    ∙ ap (used_last key shared) view

-- where one is put in
pub seen_put : (list after : PageList) (old mid new : List (Option LastPage)) (page : PageKey) (bytes : List ℕ) (shared : Bool)
    (went : Option (PageKey × List ℕ)) (now : Pages) → after ≡ lru_cache (put_entries page_eq list page bytes) list.cap
    → numbers_of mid ≡ with_last page shared (numbers_of old) → went ≡ displaced page_eq list page bytes
    → numbers_of new ≡ without_gone went (numbers_of mid) → seen list old ≡ now → seen after new ≡ with_page page bytes shared now
seen_put list after old mid new page bytes shared went now pushes puts displaces forgets view =
    ap (λ (l : PageList). seen l new) pushes
    ∙ ap (λ (last : List (Option ℕ)). of_parts (put_entries page_eq list page bytes) list.cap last)
    (forgets ∙ ap (λ (g : Option (PageKey × List ℕ)). without_gone g (numbers_of mid)) displaces
    ∙ ap (without_gone (displaced page_eq list page bytes)) puts)
    ∙ ap (with_page page bytes shared) view

-- where there was no memory to put it in
pub seen_refused : (list : PageList) (old mid new : List (Option LastPage)) (page : PageKey) (shared : Bool) (now : Pages)
    → numbers_of mid ≡ with_last page shared (numbers_of old) → numbers_of new ≡ without_last page (numbers_of mid) → seen list old ≡ now
    → seen list new ≡ without_file page now
seen_refused list old mid new page shared now puts forgets view =
    ap (λ (last : List (Option ℕ)). of_parts list.entries list.cap last)
    (forgets ∙ ap (without_last page) puts ∙ without_last-with_last page shared (numbers_of old))
    ∙ ap (without_file page) view

-- where one is taken out
pub seen_forgotten : (list after : PageList) (old new : List (Option LastPage)) (key : Key) (page : PageKey) (now : Pages)
    → after ≡ lru_cache (remove_entry (page_eq page) list.entries) list.cap → numbers_of new ≡ without_last page (numbers_of old)
    → page ≡ page_of key → seen list old ≡ now → seen after new ≡ without_page key now
seen_forgotten list after old new key page now pops forgets its view =
    ap (λ (l : PageList). seen l new) pops
    ∙ ap (λ (last : List (Option ℕ)). of_parts (remove_entry (page_eq page) list.entries) list.cap last) forgets
    ∙ ap (λ (p : PageKey). of_parts (remove_entry (page_eq p) list.entries) list.cap (without_last p (numbers_of old))) its
    ∙ ap (without_page key) view
