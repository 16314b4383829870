-- Pages of records that are kept, and when they agree with a content of the disk.
use Rattle.std.specs.Prelude.{
  ◌≡◌,
  ◌⊎◌,
  ◌*◌,
  ◌/◌,
  ◌%◌,
  ◌&&◌,
  ℕ,
  Bool,
  false,
  cond,
  List,
  [],
  ◌∷◌,
  Contains,
  Option,
  Some,
  None,
  IsSome,
  IsTrue,
  nat_eq,
  slice_get,
  slice_set,
  length,
  replicate,
  take,
  drop,
}
use Rattle.std.specs.Map.{lookup, lookup_entry, remove_entry}
use Rattle.lru.specs.LruCache.{LruCache, displaced, lru_cache, promoted, put_entries}
use Rattle.disk_model.specs.Contents.{Files, Holds, number_of_files}
use Rattle.rec_bytes.specs.declared.key.Key.{Key}
use Rattle.rec_bytes.specs.declared.record.Rec.{Rec}
use Rattle.rec_bytes.specs.Format.{record_bytes}
use Rattle.rec_bytes.specs.Key.{IsKey}
use Rattle.rec_bytes.specs.Pairs.{Pairs}
use Rattle.record_file.specs.Records.{record_at}
use Rattle.page_cache.specs.declared.page.PageKey.{PageKey}

-- how many records a page has
abbrev pub page_records : ℕ
page_records = 64

-- how many bytes a page has
abbrev pub page_bytes : ℕ
page_bytes = 4096

-- the kept pages in the order of their use, and how many there may be
abbrev pub PageList : Type 0
PageList = LruCache PageKey (List ℕ)

-- The kept pages, first the one that was last put in or moved to the front, and of each the bytes
-- that were read; how many there may be; and of each file the number of the page that is known as
-- the one that was used last, if one is.
pub record Pages : Type 0 where
  pub entries : List (PageKey × List ℕ)
  pub cap : ℕ
  pub last : List (Option ℕ)

-- no page yet, of those that there may be
abbrev pub no_pages : ℕ → Pages
no_pages room = record { entries = []; cap = room; last = replicate number_of_files None }

-- the page of a record
abbrev pub page_of : Key → PageKey
page_of key = record { file = key.file; number = key.id / page_records }

-- the pages are the same
abbrev pub page_eq : PageKey → PageKey → Bool
page_eq a b = nat_eq a.file b.file && nat_eq a.number b.number

-- the bytes of the page of a record, if it is kept
abbrev pub kept_page : Key → Pages → Option (List ℕ)
kept_page key pages = lookup (page_eq (page_of key)) pages.entries

-- of a file a page is known as the one used last, and it has this number
abbrev pub is_number : ℕ → Option (Option ℕ) → Bool
is_number number (Some (Some last)) = nat_eq last number
is_number number (Some None) = false
is_number number None = false

-- the page is known as the one of its file that was used last
abbrev pub is_last : PageKey → List (Option ℕ) → Bool
is_last page last = is_number page.number (slice_get last page.file)

-- Of its file this page is known as the one used last, or none, where it couldn't be shared. Of
-- each other file it is the page that it was.
abbrev pub with_last : PageKey → Bool → List (Option ℕ) → List (Option ℕ)
with_last page shared last = slice_set last page.file (cond shared (Some page.number) None)

-- This page isn't known as the one of its file that was used last. Of each other page it is known
-- as before.
abbrev pub without_last : PageKey → List (Option ℕ) → List (Option ℕ)
without_last page last = cond (is_last page last) (slice_set last page.file None) last

-- the same of the page that went from the list, if one did
abbrev pub without_gone : Option (PageKey × List ℕ) → List (Option ℕ) → List (Option ℕ)
without_gone (Some gone) last = without_last gone.0 last
without_gone None last = last

-- The same pages, and the page of the record, if it is kept, is the first. It is known as the one
-- of its file that was used last, if it could be shared.
abbrev pub used_last : Key → Bool → Pages → Pages
used_last key shared pages = record pages {
  entries = promoted (page_eq (page_of key)) pages.entries;
  last = with_last (page_of key) shared pages.last;
}

-- The page, with these bytes, is the first. If that is a page too many, the last one is gone, and
-- isn't known as used last. Of its file the page is known as that, if it could be shared.
abbrev pub with_page : PageKey → List ℕ → Bool → Pages → Pages
with_page page bytes shared pages = record pages {
  entries = put_entries page_eq (lru_cache pages.entries pages.cap) page bytes;
  last = without_gone (displaced page_eq (lru_cache pages.entries pages.cap) page bytes)
      (with_last page shared pages.last);
}

-- the same pages, and of the page's file none is known as the one used last
abbrev pub without_file : PageKey → Pages → Pages
without_file page pages = record pages { last = with_last page false pages.last }

-- the same pages but for the one of the record
abbrev pub without_page : Key → Pages → Pages
without_page key pages = record pages {
  entries = remove_entry (page_eq (page_of key)) pages.entries;
  last = without_last (page_of key) pages.last;
}

-- the same pages but for those of these records
abbrev pub without_pages : Pairs → Pages → Pages
without_pages [] pages = pages
without_pages (pair ∷ rest) pages = without_pages rest (without_page pair.0 pages)

-- of the pages of a file, the one that stands first in the list, with its bytes
abbrev pub first_of : ℕ → List (PageKey × List ℕ) → Option (PageKey × List ℕ)
first_of file entries = lookup_entry (λ page. nat_eq page.file file) entries

-- The page of the record is known as the one of its file that was used last. Of the kept pages of
-- its file it is the first in the list.
pub record IsLastUsed (key : Key) (pages : Pages) : Type 0 where
  pub known : IsTrue (is_last (page_of key) pages.last)
  pub bytes : List ℕ
  pub first : first_of key.file pages.entries ≡ Some (page_of key, bytes)

-- The page of the record is kept, and isn't known as the one of its file that was used last. It
-- goes to the front, and of its file no other is known then.
pub record IsMoved (key : Key) (old new : Pages) : Type 0 where
  pub unknown : is_last (page_of key) old.last ≡ false
  pub kept : IsSome (kept_page key old)
  pub shared : Bool
  pub moved : new ≡ used_last key shared old

-- A hit on the page that is known as the one of its file that was used last leaves all as it is.
-- Each other hit puts its page first. No page comes or goes, and each has its bytes. If the page
-- isn't kept, all stays as it is.
abbrev pub IsUsed : Key → Pages → Pages → Type 0
IsUsed key old new =
    ((IsLastUsed key old ⊎ (kept_page key old ≡ None)) × (new ≡ old)) ⊎ IsMoved key old new

-- the page of the record was put in
pub record IsPut (key : Key) (old new : Pages) : Type 0 where
  pub bytes : List ℕ
  pub shared : Bool
  pub put : new ≡ with_page (page_of key) bytes shared old

-- The page of the record was used or put in, and no other came. If there was no memory to put it
-- in, of its file none is known as the one used last.
abbrev pub KeepsPage : Key → Pages → Pages → Type 0
KeepsPage key old new =
    IsUsed key old new ⊎ (IsPut key old new ⊎ (new ≡ without_file (page_of key) old))

-- the bytes are a page's, as they stand in a content
pub record IsPage (content : Files) (page : PageKey) (bytes : List ℕ) : Type 0 where
  pub whole : length bytes ≡ page_bytes
  pub holds : Holds page.file (page_bytes * page.number) bytes content

-- the record of a number, of its page
abbrev pub record_in : List ℕ → ℕ → Rec
record_in page id =
    record { bytes = take record_bytes (drop (record_bytes * (id % page_records)) page) }

-- Each record of a kept page is the one that stands in the content.
pub record Agrees (content : Files) (pages : Pages) : Type 0 where
  pub kept : (key : Key) (bytes : List ℕ) → IsKey key → Contains pages.entries (page_of key, bytes)
      → record_in bytes key.id ≡ record_at content key
