-- The last page of each file stays the first of that file's pages.
use Rattle.std.proofs.Common.{◌≡◌, ◌∙◌, ⊎_elim, ℕ, zero, suc, ◌+◌, ◌-◌, ◌<◌, ◌≤◌, Bool, true, false, cond, List, []}
use Rattle.std.proofs.Common.{◌∷◌, length, take, Option, Some, None, is_some, ap, sym, refl, arith, nat_eq, slice_get}
use Rattle.std.proofs.lemmas.Bool.{false≢true}
use Rattle.std.proofs.lemmas.Bool.Decides.{nat_tests}
use Rattle.std.proofs.lemmas.Option.{slice_get_within}
use Rattle.std.specs.Map.{lookup, lookup_entry, remove_entry}
use Rattle.std.specs.Option.{option_map_or}
use Rattle.lru.specs.LruCache.{displaced, lru_cache, promoted, put_entries}
use Rattle.page_cache.specs.declared.last_pages.LastPage.{LastPage}
use Rattle.page_cache.specs.declared.page.PageKey.{PageKey}
use Rattle.page_cache.specs.LastPages.{AreFirst, ForgetsGone, ForgetsLast, PutsLast, last_page, numbered}
use Rattle.page_cache.specs.Pages.{PageList, first_of, page_eq}
use Rattle.page_cache.proofs.Agreement.{page_eq-same, page_eq-true}

-- a file that has a last page is one of the files
last_within : (files : List (Option LastPage)) (page : PageKey) (bytes : List ℕ) → last_page files page ≡ Some bytes → page.file < length files
last_within files page bytes is = pick (slice_get files page.file) refl is
  where
    pick : (found : Option (Option LastPage)) → slice_get files page.file ≡ found → numbered page.number found ≡ Some bytes → page.file < length files
    pick None there none = absurd (false≢true (ap is_some none))
    pick (Some slot) there some = slice_get_within files page.file slot there

-- there is no such file, so no last page is of it
pub apart_past : (files : List (Option LastPage)) (page other : PageKey) (bytes : List ℕ) → length files ≤ page.file → last_page files other ≡ Some bytes
    → nat_eq page.file other.file ≡ false
apart_past files page other bytes past is = below page.file other.file (omega (arith, past, last_within files other bytes is))
  where
    below : (a b : ℕ) → b < a → nat_eq a b ≡ false
    below a b less = grind (arith, nat_tests)

abbrev Entries : Type 0
Entries = List (PageKey × List ℕ)

apart_from : (a b c : PageKey) → page_eq a c ≡ true → page_eq a b ≡ false → page_eq b c ≡ false
apart_from a b c same other = ap (λ (k : PageKey). page_eq b k) (sym (page_eq-true a c same)) ∙ page_eq-turned a b other
  where
    page_eq-turned : (x y : PageKey) → page_eq x y ≡ false → page_eq y x ≡ false
    page_eq-turned x y e = grind (arith, nat_tests)

-- a look-up of another page, with one page taken out
lookup-without : (gone page : PageKey) (entries : Entries) → page_eq gone page ≡ false
    → lookup (page_eq page) (remove_entry (page_eq gone) entries) ≡ lookup (page_eq page) entries
lookup-without gone page [] other = refl
lookup-without gone page (entry ∷ rest) other = pick (page_eq gone entry.0) refl (lookup-without gone page rest other)
  where
    pick : (here : Bool) → page_eq gone entry.0 ≡ here → lookup (page_eq page) (remove_entry (page_eq gone) rest) ≡ lookup (page_eq page) rest
        → lookup (page_eq page) (cond here rest (entry ∷ remove_entry (page_eq gone) rest)) ≡ lookup (page_eq page) (entry ∷ rest)
    pick true is later = sym (ap (λ b. cond b (Some entry.1) (lookup (page_eq page) rest)) (apart_from gone page entry.0 is other))
    pick false is later = ap (λ found. cond (page_eq page entry.0) (Some entry.1) found) later

some_is : {X : Type 0} (a b : X) → Some a ≡ Some b → a ≡ b
some_is a b e = cc

-- a page that is found is the one that is sought
found_is : (wanted : PageKey) (entries : Entries) (entry : PageKey × List ℕ) → lookup_entry (page_eq wanted) entries ≡ Some entry → wanted ≡ entry.0
found_is wanted [] entry is = absurd (false≢true (ap is_some is))
found_is wanted (first ∷ rest) entry is = pick (page_eq wanted first.0) refl is (λ e. found_is wanted rest entry e)
  where
    pick : (here : Bool) → page_eq wanted first.0 ≡ here → cond here (Some first) (lookup_entry (page_eq wanted) rest) ≡ Some entry
        → (lookup_entry (page_eq wanted) rest ≡ Some entry → wanted ≡ entry.0) → wanted ≡ entry.0
    pick true same e later = page_eq-true wanted first.0 same ∙ ap (λ (x : PageKey × List ℕ). x.0) (some_is first entry e)
    pick false same e later = later e

lookup_found : (wanted : PageKey) (entries : Entries) (entry : PageKey × List ℕ) → lookup_entry (page_eq wanted) entries ≡ Some entry
    → lookup (page_eq wanted) entries ≡ Some entry.1
lookup_found wanted [] entry is = absurd (false≢true (ap is_some is))
lookup_found wanted (first ∷ rest) entry is = pick (page_eq wanted first.0) is (λ e. lookup_found wanted rest entry e)
  where
    pick : (here : Bool) → cond here (Some first) (lookup_entry (page_eq wanted) rest) ≡ Some entry
        → (lookup_entry (page_eq wanted) rest ≡ Some entry → lookup (page_eq wanted) rest ≡ Some entry.1)
        → cond here (Some first.1) (lookup (page_eq wanted) rest) ≡ Some entry.1
    pick true e later = ap (λ (x : Option (PageKey × List ℕ)). option_map_or (λ (p : PageKey × List ℕ). Some p.1) x None) e
    pick false e later = later e

-- a look-up of any page, with one that moves to the front
pub lookup-promoted : (wanted page : PageKey) (entries : Entries) → lookup (page_eq page) (promoted (page_eq wanted) entries) ≡ lookup (page_eq page) entries
lookup-promoted wanted page entries = pick (lookup_entry (page_eq wanted) entries) refl
  where
    by : (entry : PageKey × List ℕ) → lookup_entry (page_eq wanted) entries ≡ Some entry → (here : Bool) → page_eq page entry.0 ≡ here
        → cond here (Some entry.1) (lookup (page_eq page) (remove_entry (page_eq wanted) entries)) ≡ lookup (page_eq page) entries
    by entry is true same =
        let its : page ≡ wanted = page_eq-true page entry.0 same ∙ sym (found_is wanted entries entry is) in
        sym (ap (λ (p : PageKey). lookup (page_eq p) entries) its ∙ lookup_found wanted entries entry is)
    by entry is false same =
        let other : page_eq page wanted ≡ false = ap (λ (p : PageKey). page_eq page p) (found_is wanted entries entry is) ∙ same in
        lookup-without wanted page entries (turned page wanted other)
      where
        turned : (x y : PageKey) → page_eq x y ≡ false → page_eq y x ≡ false
        turned x y e = grind (arith, nat_tests)

    pick : (found : Option (PageKey × List ℕ)) → lookup_entry (page_eq wanted) entries ≡ found
        → lookup (page_eq page) (option_map_or (λ e. e ∷ remove_entry (page_eq wanted) entries) found entries) ≡ lookup (page_eq page) entries
    pick None is = refl
    pick (Some entry) is = by entry is (page_eq page entry.0) refl

-- the first entry that passes a test, with another page taken out
lookup_entry-without : (test : PageKey → Bool) (gone : PageKey) (entries : Entries) (entry : PageKey × List ℕ) → lookup_entry test entries ≡ Some entry
    → page_eq gone entry.0 ≡ false → lookup_entry test (remove_entry (page_eq gone) entries) ≡ Some entry
lookup_entry-without test gone [] entry is other = absurd (false≢true (ap is_some is))
lookup_entry-without test gone (first ∷ rest) entry is other =
    pick (page_eq gone first.0) refl (λ e. lookup_entry-without test gone rest entry e other)
  where
    keep : (here : Bool) → cond here (Some first) (lookup_entry test rest) ≡ Some entry
        → (lookup_entry test rest ≡ Some entry → lookup_entry test (remove_entry (page_eq gone) rest) ≡ Some entry)
        → cond here (Some first) (lookup_entry test (remove_entry (page_eq gone) rest)) ≡ Some entry
    keep true e later = e
    keep false e later = later e

    past : (here : Bool) → cond here (Some first) (lookup_entry test rest) ≡ Some entry → page_eq gone first.0 ≡ true → lookup_entry test rest ≡ Some entry
    past true e same = absurd (false≢true (sym other ∙ ap (λ (x : PageKey × List ℕ). page_eq gone x.0) (sym (some_is first entry e)) ∙ same))
    past false e same = e

    pick : (out : Bool) → page_eq gone first.0 ≡ out
        → (lookup_entry test rest ≡ Some entry → lookup_entry test (remove_entry (page_eq gone) rest) ≡ Some entry)
        → lookup_entry test (cond out rest (first ∷ remove_entry (page_eq gone) rest)) ≡ Some entry
    pick true same later = past (test first.0) is same
    pick false same later = keep (test first.0) is later

-- the same where another page goes for want of room
lookup_entry-take : (n : ℕ) (test : PageKey → Bool) (entries : Entries) (entry : PageKey × List ℕ) → lookup_entry test entries ≡ Some entry
    → length entries ≤ n + 1 → ((gone : PageKey × List ℕ) → slice_get entries n ≡ Some gone → page_eq gone.0 entry.0 ≡ false)
    → lookup_entry test (take n entries) ≡ Some entry
lookup_entry-take n test [] entry is fits other = absurd (false≢true (ap is_some is))
lookup_entry-take zero test (first ∷ []) entry is fits other = absurd (only (test first.0) is)
  where
    only : (here : Bool) → cond here (Some first) None ≡ Some entry → ⊥
    only true e =
        false≢true (sym (other first refl) ∙ ap (λ (x : PageKey × List ℕ). page_eq first.0 x.0) (sym (some_is first entry e)) ∙ page_eq-same first.0)
    only false e = false≢true (ap is_some e)
lookup_entry-take zero test (first ∷ next ∷ rest) entry is fits other = absurd (omega (arith, fits))
lookup_entry-take (suc n) test (first ∷ rest) entry is fits other =
    pick (test first.0) is (λ e. lookup_entry-take n test rest entry e (omega (arith, fits)) other)
  where
    pick : (here : Bool) → cond here (Some first) (lookup_entry test rest) ≡ Some entry
        → (lookup_entry test rest ≡ Some entry → lookup_entry test (take n rest) ≡ Some entry)
        → cond here (Some first) (lookup_entry test (take n rest)) ≡ Some entry
    pick true e later = e
    pick false e later = later e

-- the page that stands first of its file is kept
pub first_kept : (page : PageKey) (bytes : List ℕ) (entries : Entries) → lookup_entry (λ (p : PageKey). nat_eq p.file page.file) entries ≡ Some (page, bytes)
    → lookup (page_eq page) entries ≡ Some bytes
first_kept page bytes [] is = absurd (false≢true (ap is_some is))
first_kept page bytes (first ∷ rest) is = pick (nat_eq first.0.file page.file) refl is (first_kept page bytes rest)
  where
    apart : nat_eq first.0.file page.file ≡ false → page_eq page first.0 ≡ false
    apart e = grind (arith, nat_tests)

    pick : (here : Bool) → nat_eq first.0.file page.file ≡ here
        → cond here (Some first) (lookup_entry (λ (p : PageKey). nat_eq p.file page.file) rest) ≡ Some (page, bytes)
        → (lookup_entry (λ (p : PageKey). nat_eq p.file page.file) rest ≡ Some (page, bytes) → lookup (page_eq page) rest ≡ Some bytes)
        → lookup (page_eq page) (first ∷ rest) ≡ Some bytes
    pick true same e later =
        ap (λ (x : PageKey × List ℕ). lookup (page_eq page) (x ∷ rest)) (some_is first (page, bytes) e)
        ∙ ap (λ b. cond b (Some bytes) (lookup (page_eq page) rest)) (page_eq-same page)
    pick false same e later = ap (λ b. cond b (Some first.1) (lookup (page_eq page) rest)) (apart same) ∙ later e

-- a page that isn't found has no bytes
lookup-unfound : (wanted : PageKey) (entries : Entries) → lookup_entry (page_eq wanted) entries ≡ None → lookup (page_eq wanted) entries ≡ None
lookup-unfound wanted [] e = refl
lookup-unfound wanted (first ∷ rest) e = by (page_eq wanted first.0) e (λ h. lookup-unfound wanted rest h)
  where
    by : (here : Bool) → cond here (Some first) (lookup_entry (page_eq wanted) rest) ≡ None
        → (lookup_entry (page_eq wanted) rest ≡ None → lookup (page_eq wanted) rest ≡ None)
        → cond here (Some first.1) (lookup (page_eq wanted) rest) ≡ None
    by true h later = absurd (false≢true (sym (ap is_some h)))
    by false h later = later h

-- pages of two files are two
pub files_apart : (a b : PageKey) → nat_eq a.file b.file ≡ false → page_eq a b ≡ false
files_apart a b e = grind (arith, nat_tests)

-- a page that comes to the front is the first of its file; of another file, what was the first stays so
put_front : (old new : List (Option LastPage)) (page : PageKey) (held : List ℕ) (rest : Entries) → PutsLast page held old new → (other : PageKey)
    (bytes : List ℕ) → last_page new other ≡ Some bytes
    → (nat_eq page.file other.file ≡ false → last_page old other ≡ Some bytes
    → lookup_entry (λ (p : PageKey). nat_eq p.file other.file) rest ≡ Some (other, bytes))
    → lookup_entry (λ (p : PageKey). nat_eq p.file other.file) ((page, held) ∷ rest) ≡ Some (other, bytes)
put_front old new page held rest puts other bytes is later = ⊎_elim
    (λ (this : (other ≡ page) × (bytes ≡ held)).
    ap (λ b. cond b (Some (page, held)) (lookup_entry (λ (p : PageKey). nat_eq p.file other.file) rest)) (one_file this.0)
    ∙ ap Some (ap (λ (p : PageKey). (p, held)) (sym this.0) ∙ ap (λ (b : List ℕ). (other, b)) (sym this.1)))
    (λ (was : (nat_eq page.file other.file ≡ false) × (last_page old other ≡ Some bytes)).
    ap (λ b. cond b (Some (page, held)) (lookup_entry (λ (p : PageKey). nat_eq p.file other.file) rest)) was.0 ∙ later was.0 was.1)
    (puts other bytes is)
  where
    equal : (n : ℕ) → nat_eq n n ≡ true
    equal n = grind (arith, nat_tests)

    one_file : other ≡ page → nat_eq page.file other.file ≡ true
    one_file e = ap (λ (p : PageKey). nat_eq page.file p.file) e ∙ equal page.file

-- a page is used
pub last_used : (old new : List (Option LastPage)) (pages : PageList) (wanted : PageKey) (held : List ℕ) → lookup (page_eq wanted) pages.entries ≡ Some held
    → AreFirst old pages → PutsLast wanted held old new → AreFirst new (record pages { entries = promoted (page_eq wanted) pages.entries })
last_used old new pages wanted held found firsts puts other bytes is = pick (lookup_entry (page_eq wanted) pages.entries) refl
  where
    by : (entry : PageKey × List ℕ) → lookup_entry (page_eq wanted) pages.entries ≡ Some entry
        → lookup_entry (λ (p : PageKey). nat_eq p.file other.file) (entry ∷ remove_entry (page_eq wanted) pages.entries) ≡ Some (other, bytes)
    by entry at =
        let value : entry.1 ≡ held = some_is entry.1 held (sym (lookup_found wanted pages.entries entry at) ∙ found) in
        let its : (wanted, held) ≡ entry
        = ap (λ (p : PageKey). (p, held)) (found_is wanted pages.entries entry at) ∙ ap (λ (b : List ℕ). (entry.0, b)) (sym value) in
        ap (λ (e : PageKey × List ℕ). lookup_entry (λ (p : PageKey). nat_eq p.file other.file) (e ∷ remove_entry (page_eq wanted) pages.entries)) (sym its)
        ∙ put_front old new wanted held (remove_entry (page_eq wanted) pages.entries) puts other bytes is
        (λ apart was. lookup_entry-without (λ (p : PageKey). nat_eq p.file other.file) wanted pages.entries (other, bytes) (firsts other bytes was)
        (files_apart wanted other apart))

    pick : (at : Option (PageKey × List ℕ)) → lookup_entry (page_eq wanted) pages.entries ≡ at
        → lookup_entry (λ (p : PageKey). nat_eq p.file other.file) (option_map_or (λ e. e ∷ remove_entry (page_eq wanted) pages.entries) at pages.entries)
        ≡ Some (other, bytes)
    pick None none = absurd (false≢true (ap is_some (sym (lookup-unfound wanted pages.entries none) ∙ found)))
    pick (Some entry) at = by entry at

pub last_forgotten : (old new : List (Option LastPage)) (pages : PageList) (page : PageKey) → AreFirst old pages → ForgetsLast page old new
    → AreFirst new (record pages { entries = remove_entry (page_eq page) pages.entries })
last_forgotten old new pages page firsts forgets other bytes is =
    let was = forgets other bytes is in
    lookup_entry-without (λ (p : PageKey). nat_eq p.file other.file) page pages.entries (other, bytes) (firsts other bytes was.1) was.0

pub last_pushed : (old mid new : List (Option LastPage)) (pages after : PageList) (key : PageKey) (held : List ℕ) (went : Option (PageKey × List ℕ))
    → length pages.entries ≤ pages.cap → 0 < pages.cap
    → AreFirst old pages → PutsLast key held old mid → went ≡ displaced page_eq pages key held → ForgetsGone went mid new
    → after ≡ lru_cache (put_entries page_eq pages key held) pages.cap → AreFirst new after
last_pushed old mid new pages after key held went fits room firsts puts gone_is forgets after_is other bytes is =
    ap (λ (p : PageList). first_of other.file p.entries) after_is ∙ pick (lookup_entry (page_eq key) pages.entries) refl
  where
    pick : (at : Option (PageKey × List ℕ)) → lookup_entry (page_eq key) pages.entries ≡ at
        → lookup_entry (λ (p : PageKey). nat_eq p.file other.file) (option_map_or (λ e. (e.0, held) ∷ remove_entry (page_eq key) pages.entries) at
        ((key, held) ∷ take (pages.cap - 1) pages.entries)) ≡ Some (other, bytes)
    pick None none =
        put_front old mid key held (take (pages.cap - 1) pages.entries) puts other bytes (forgets other bytes is).1
        (λ apart was. lookup_entry-take (pages.cap - 1) (λ (p : PageKey). nat_eq p.file other.file) pages.entries (other, bytes) (firsts other bytes was)
        (omega (arith, fits, room))
        (λ gone there. (forgets other bytes is).0 gone (gone_is
        ∙ ap (λ (o : Option (List ℕ)). option_map_or (λ old. Some (key, old)) o (slice_get pages.entries (pages.cap - 1)))
        (lookup-unfound key pages.entries none) ∙ there)))
    pick (Some entry) at =
        ap (λ (k : PageKey). lookup_entry (λ (p : PageKey). nat_eq p.file other.file) ((k, held) ∷ remove_entry (page_eq key) pages.entries))
        (sym (found_is key pages.entries entry at))
        ∙ put_front old mid key held (remove_entry (page_eq key) pages.entries) puts other bytes (forgets other bytes is).1
        (λ apart was. lookup_entry-without (λ (p : PageKey). nat_eq p.file other.file) key pages.entries (other, bytes) (firsts other bytes was)
        (files_apart key other apart))

pub last_refused : (old mid new : List (Option LastPage)) (pages : PageList) (key : PageKey) (held : List ℕ) → AreFirst old pages → PutsLast key held old mid
    → ForgetsLast key mid new → AreFirst new pages
last_refused old mid new pages key held firsts puts forgets other bytes is =
    let was = forgets other bytes is in
    ⊎_elim
    (λ this. absurd (false≢true (sym was.0 ∙ ap (λ (p : PageKey). page_eq key p) this.0 ∙ page_eq-same key)))
    (λ before. firsts other bytes before.1)
    (puts other bytes was.1)
