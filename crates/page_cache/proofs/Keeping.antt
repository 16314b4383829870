-- Which pages stay when one is used or put in.
use Rattle.std.proofs.Common.{◌≡◌, ◌∙◌, ◌⊎◌, ⊎_elim, inl, inr, ℕ, suc, ◌+◌, ◌-◌, ◌≤◌, Bool, true, false, cond, IsSome}
use Rattle.std.proofs.Common.{IsTrue, List, [], ◌∷◌, length, take, length-take-le, Option, None, Some, is_some, ap, sym}
use Rattle.std.proofs.Common.{subst, refl, arith, nat_le}
use Rattle.std.proofs.lemmas.Bool.{false≢true}
use Rattle.std.proofs.lemmas.Bool.Decides.{nat_tests}
use Rattle.std.proofs.lemmas.List.{take_all}
use Rattle.std.specs.Map.{lookup, lookup_entry, remove_entry}
use Rattle.std.specs.Option.{option_map_or}
use Rattle.lru.proofs.CallerLemmas.{lookup-put_entries}
use Rattle.lru.specs.LruCache.{lru_cache, promoted}
use Rattle.rec_bytes.specs.declared.key.Key.{Key}
use Rattle.page_cache.specs.declared.page.PageKey.{PageKey}
use Rattle.page_cache.specs.Pages.{IsLastUsed, IsMoved, IsPut, IsUsed, KeepsPage, Pages, kept_page, page_eq, page_of, used_last, with_page, without_file}
use Rattle.page_cache.specs.Staying.{StayKept}
use Rattle.page_cache.proofs.Agreement.{page_laws, unused_cases}
use Rattle.page_cache.proofs.LastPages.{lookup-promoted}

pub stay_none : (pages : Pages) → StayKept pages pages
stay_none pages = record { room = refl; full = λ full. full; stay = λ key kept. inl kept }

-- a page that is used keeps its bytes, as each other does
pub kept_used : (key : Key) (old new : Pages) → IsUsed key old new → (other : Key) → kept_page other new ≡ kept_page other old
kept_used key old new used other = ⊎_elim
    (λ (same : (IsLastUsed key old ⊎ (kept_page key old ≡ None)) × (new ≡ old)). ap (λ (pages : Pages). kept_page other pages) same.1)
    (λ (is : IsMoved key old new).
    ap (λ (pages : Pages). kept_page other pages) is.moved ∙ lookup-promoted (page_of key) (page_of other) old.entries)
    used

-- a page that is put in is kept
pub kept_put : (key : Key) (bytes : List ℕ) (shared : Bool) (old : Pages) → kept_page key (with_page (page_of key) bytes shared old) ≡ Some bytes
kept_put key bytes shared old = lookup-put_entries page_eq (lru_cache old.entries old.cap) (page_of key) bytes page_laws

length-without : (test : PageKey → Bool) (entries : List (PageKey × List ℕ)) (entry : PageKey × List ℕ) → lookup_entry test entries ≡ Some entry
    → length (remove_entry test entries) + 1 ≡ length entries
length-without test [] entry is = absurd (false≢true (ap is_some is))
length-without test (first ∷ rest) entry is = pick (test first.0) is (λ e. length-without test rest entry e)
  where
    pick : (here : Bool) → cond here (Some first) (lookup_entry test rest) ≡ Some entry
        → (lookup_entry test rest ≡ Some entry → length (remove_entry test rest) + 1 ≡ length rest)
        → length (cond here rest (first ∷ remove_entry test rest)) + 1 ≡ length (first ∷ rest)
    pick true e later = omega arith
    pick false e later = omega (arith, later e)

length-promoted : (test : PageKey → Bool) (entries : List (PageKey × List ℕ)) → length (promoted test entries) ≡ length entries
length-promoted test entries = pick (lookup_entry test entries) refl
  where
    pick : (found : Option (PageKey × List ℕ)) → lookup_entry test entries ≡ found
        → length (option_map_or (λ e. e ∷ remove_entry test entries) found entries) ≡ length entries
    pick None is = refl
    pick (Some entry) is = omega (arith, length-without test entries entry is)

stay_moved : (key : Key) (shared : Bool) (pages : Pages) → StayKept pages (used_last key shared pages)
stay_moved key shared pages = record {
  room = refl;
  full = λ full. omega (arith, full, length-promoted (page_eq (page_of key)) pages.entries);
  stay = λ other kept. inl (ap is_some (lookup-promoted (page_of key) (page_of other) pages.entries) ∙ kept);
}

pub stay_used : (key : Key) (old new : Pages) → IsUsed key old new → StayKept old new
stay_used key old new used = ⊎_elim
    (λ (same : (IsLastUsed key old ⊎ (kept_page key old ≡ None)) × (new ≡ old)). subst (StayKept old) (sym same.1) (stay_none old))
    (λ (is : IsMoved key old new). subst (StayKept old) (sym is.moved) (stay_moved key is.shared old))
    used

-- the pages with one more before them, and without those past the room
pushed : PageKey → List ℕ → List (Option ℕ) → Pages → Pages
pushed page bytes last pages = record pages { entries = (page, bytes) ∷ take (pages.cap - 1) pages.entries; last = last }

stay_pushed : (page : PageKey) (bytes : List ℕ) (last : List (Option ℕ)) (pages : Pages) → StayKept pages (pushed page bytes last pages)
unfolding pushed
stay_pushed page bytes last pages = record {
  room = refl;
  full = λ full. filled (omega (arith, full));
  stay = λ key kept. by key kept (nat_le (length pages.entries) (pages.cap - 1)) refl;
}
  where
    filled : pages.cap - 1 ≤ length pages.entries → pages.cap ≤ suc (length (take (pages.cap - 1) pages.entries))
    filled less = omega (arith, length-take-le (pages.cap - 1) pages.entries less)

    there : (key : Key) (here : Bool) → IsSome (kept_page key pages) → IsSome (cond here (Some bytes) (kept_page key pages))
    there key true kept = refl
    there key false kept = kept

    by : (key : Key) → IsSome (kept_page key pages) → (all : Bool) → nat_le (length pages.entries) (pages.cap - 1) ≡ all
        → IsSome (cond (page_eq (page_of key) page) (Some bytes) (lookup (page_eq (page_of key)) (take (pages.cap - 1) pages.entries)))
        ⊎ (pages.cap ≤ suc (length (take (pages.cap - 1) pages.entries)))
    by key kept true is =
        let least : length pages.entries ≤ pages.cap - 1 = grind (arith, nat_tests) in
        inl (subst (λ entries. IsSome (cond (page_eq (page_of key) page) (Some bytes) (lookup (page_eq (page_of key)) entries)))
        (sym (take_all (pages.cap - 1) pages.entries least)) (there key (page_eq (page_of key) page) kept))
    by key kept false is = inr (filled (grind (arith, nat_tests)))

-- where the page of the record wasn't kept
pub stay_missed : (key : Key) (old new : Pages) → kept_page key old ≡ None → KeepsPage key old new → StayKept old new
unfolding pushed
stay_missed key old new none keeps = ⊎_elim
    (λ used. stay_used key old new used)
    (λ (came : IsPut key old new ⊎ (new ≡ without_file (page_of key) old)). ⊎_elim
    (λ (is : IsPut key old new). put_in is)
    (λ (refused : new ≡ without_file (page_of key) old). subst (StayKept old) (sym refused) (stay_unknown old))
    came)
    keeps
  where
    put_in : IsPut key old new → StayKept old new
    put_in is =
        let last = (with_page (page_of key) is.bytes is.shared old).last in
        let missed : with_page (page_of key) is.bytes is.shared old ≡ pushed (page_of key) is.bytes last old
        = ap
        (λ (found : Option (PageKey × List ℕ)). record old {
          entries = option_map_or (λ e. (e.0, is.bytes) ∷ remove_entry (page_eq (page_of key)) old.entries) found
              ((page_of key, is.bytes) ∷ take (old.cap - 1) old.entries);
          last = last;
        })
        (unused_cases (page_eq (page_of key)) old.entries none) in
        subst (StayKept old) (sym (is.put ∙ missed)) (stay_pushed (page_of key) is.bytes last old)

    stay_unknown : (pages : Pages) → StayKept pages (without_file (page_of key) pages)
    stay_unknown pages = record { room = refl; full = λ full. full; stay = λ other kept. inl kept }

-- where no page came, though the one of the record wasn't kept
pub keeps_missed : (key : Key) (old new : Pages) → kept_page key old ≡ None → new ≡ old → KeepsPage key old new
keeps_missed key old new none same = inl (inl (inr none, same))

-- the page of the record was put in, or there was no memory for that
pub keeps_loaded : (key : Key) (page : PageKey) (bytes : List ℕ) (old new : Pages) (kept : Bool) → page ≡ page_of key
    → (IsTrue kept → (shared : Bool) × (new ≡ with_page page bytes shared old)) → (kept ≡ false → new ≡ without_file page old) → KeepsPage key old new
keeps_loaded key page bytes old new true its put refused = inr (inl (record {
  bytes = bytes;
  shared = (put refl).0;
  put = (put refl).1 ∙ ap (λ (p : PageKey). with_page p bytes (put refl).0 old) its;
}))
keeps_loaded key page bytes old new false its put refused = inr (inr (refused refl ∙ ap (λ (p : PageKey). without_file p old) its))

-- it is kept now exactly if it was put in
pub told_kept : (key : Key) (page : PageKey) (bytes : List ℕ) (old new : Pages) (kept : Bool) → page ≡ page_of key → kept_page key old ≡ None
    → (IsTrue kept → (shared : Bool) × (new ≡ with_page page bytes shared old)) → (kept ≡ false → new ≡ without_file page old)
    → kept ≡ is_some (kept_page key new)
told_kept key page bytes old new true its none put refused =
    sym (ap (λ (pages : Pages). is_some (kept_page key pages)) ((put refl).1 ∙ ap (λ (p : PageKey). with_page p bytes (put refl).0 old) its)
    ∙ ap is_some (kept_put key bytes (put refl).0 old))
told_kept key page bytes old new false its none put refused =
    sym (ap (λ (pages : Pages). is_some (kept_page key pages)) (refused refl) ∙ ap is_some none)

-- a page that isn't found isn't kept
pub none_kept : (key : Key) (pages : Pages) → false ≡ is_some (kept_page key pages) → kept_page key pages ≡ None
none_kept key pages is = pick (kept_page key pages) is
  where
    pick : (o : Option (List ℕ)) → false ≡ is_some o → o ≡ None
    pick None e = refl
    pick (Some bytes) e = absurd (false≢true e)
