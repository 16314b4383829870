-- Of each file the page that was used last.
use Rattle.std.specs.Prelude.{◌≡◌, ◌⊎◌, ℕ, List, Option, Some, None, cond, false, map}
use Rattle.std.specs.Prelude.{nat_eq, slice_get}
use Rattle.page_cache.specs.Pages.{PageList, Pages, first_of, page_eq}
use Rattle.page_cache.specs.declared.page.PageKey.{PageKey}
use Rattle.page_cache.specs.declared.last_pages.LastPage.{LastPage}

-- the bytes of a file's last page, if it has this number
abbrev pub numbered : ℕ → Option (Option LastPage) → Option (List ℕ)
numbered number (Some (Some last)) = cond (nat_eq last.number number) (Some last.page) None
numbered number (Some None) = None
numbered number None = None

-- the bytes of a page, if it is the last one of its file
abbrev pub last_page : List (Option LastPage) → PageKey → Option (List ℕ)
last_page files page = numbered page.number (slice_get files page.file)

-- the number of a file's last page
abbrev pub number_of : Option LastPage → Option ℕ
number_of (Some last) = Some last.number
number_of None = None

-- the same, of each file
abbrev pub numbers_of : List (Option LastPage) → List (Option ℕ)
numbers_of files = map number_of files

-- what contracts see of the list and of the last pages
abbrev pub seen : PageList → List (Option LastPage) → Pages
seen list files = record { entries = list.entries; cap = list.cap; last = numbers_of files }

-- the last page of each file stands first, of that file's pages
abbrev pub AreFirst : List (Option LastPage) → PageList → Type 0
AreFirst files list = (page : PageKey) (bytes : List ℕ) → last_page files page ≡ Some bytes
    → first_of page.file list.entries ≡ Some (page, bytes)

-- each last page was one before, and isn't this one
abbrev pub ForgetsLast : PageKey → List (Option LastPage) → List (Option LastPage) → Type 0
ForgetsLast page old new = (other : PageKey) (bytes : List ℕ) → last_page new other ≡ Some bytes
    → (page_eq page other ≡ false) × (last_page old other ≡ Some bytes)

-- each last page was one before, and isn't the one that went from the list
abbrev pub ForgetsGone : Option (PageKey × List ℕ) → List (Option LastPage)
    → List (Option LastPage) → Type 0
ForgetsGone gone old new = (other : PageKey) (bytes : List ℕ) → last_page new other ≡ Some bytes
    → ((pair : PageKey × List ℕ) → gone ≡ Some pair → page_eq pair.0 other ≡ false)
    × (last_page old other ≡ Some bytes)

-- each last page is this one, with these bytes, or one of another file that was one before
abbrev pub PutsLast : PageKey → List ℕ → List (Option LastPage) → List (Option LastPage) → Type 0
PutsLast page held old new = (other : PageKey) (bytes : List ℕ)
    → last_page new other ≡ Some bytes
    → ((other ≡ page) × (bytes ≡ held))
    ⊎ ((nat_eq page.file other.file ≡ false) × (last_page old other ≡ Some bytes))
