-- Kept pages agree with the records.
use Rattle.std.proofs.Common.{◌≡◌, ◌∙◌, ◌⊎◌, ⊎_elim, ℕ, Bool, true, false, cond, List, [], ◌∷◌, Option, Some, None, is_some, Contains, ap, sym, subst, refl}
use Rattle.std.proofs.Common.{arith, IsTrue}
use Rattle.std.proofs.lemmas.Bool.{false≢true}
use Rattle.std.proofs.lemmas.Bool.Decides.{nat_tests}
use Rattle.std.proofs.lemmas.Map.{lookup-remove_entry}
use Rattle.std.proofs.lemmas.Map.Views.{lookup-from_Contains}
use Rattle.std.specs.Cmp.{IsEquivalence}
use Rattle.std.specs.List.{IsDistinct}
use Rattle.std.specs.Map.{keys_of, lookup, lookup_entry, remove_entry}
use Rattle.std.specs.Option.{option_map_or}
use Rattle.lru.proofs.CallerLemmas.{Contains-lookup, Contains-put_entries, Contains-remove_entry}
use Rattle.lru.specs.LruCache.{lru_cache, promoted}
use Rattle.disk_model.specs.Contents.{Files}
use Rattle.rec_bytes.specs.declared.key.Key.{Key}
use Rattle.rec_bytes.specs.Key.{IsKey, key_eq}
use Rattle.record_file.specs.Records.{SameButRecord, record_at}
use Rattle.record_file.proofs.Records.{record_at-other}
use Rattle.page_cache.specs.declared.page.PageKey.{PageKey}
use Rattle.page_cache.specs.Pages.{Agrees, IsLastUsed, IsMoved, IsPage, IsPut, IsUsed, KeepsPage, Pages, kept_page, page_eq, page_of, record_in, with_page}
use Rattle.page_cache.specs.Pages.{without_file}
use Rattle.page_cache.proofs.RecordInPage.{record_in-is}

pub page_eq-true : (a b : PageKey) → page_eq a b ≡ true → a ≡ b
page_eq-true a b h =
    let file : a.file ≡ b.file = grind (arith, nat_tests) in
    let number : a.number ≡ b.number = grind (arith, nat_tests) in
    ap (λ f. record { file = f; number = a.number }) file ∙ ap (λ n. record { file = b.file; number = n }) number

pub page_eq-same : (a : PageKey) → page_eq a a ≡ true
page_eq-same a = grind (arith, nat_tests)

pub page_laws : IsEquivalence page_eq
page_laws = record {
  refl = page_eq-same;
  symm = λ x y. grind (arith, nat_tests);
  congr = λ x y z e. ap (λ w. page_eq w z) (page_eq-true x y e);
}

-- fewer pages
pub agrees_within : (content : Files) (old new : Pages) → Agrees content old
    → ((entry : PageKey × List ℕ) → Contains new.entries entry → Contains old.entries entry) → Agrees content new
agrees_within content old new agrees within = record { kept = λ key bytes valid i. agrees.kept key bytes valid (within (page_of key, bytes) i) }

-- the same records
pub agrees_same : (old new : Files) (pages : Pages) → ((key : Key) → record_at new key ≡ record_at old key) → Agrees old pages → Agrees new pages
agrees_same old new pages same agrees = record { kept = λ key bytes valid i. agrees.kept key bytes valid i ∙ sym (same key) }

-- the record of a page that is found
pub agrees_found : (content : Files) (pages : Pages) (key : Key) (bytes : List ℕ) → IsKey key → Agrees content pages → kept_page key pages ≡ Some bytes
    → record_in bytes key.id ≡ record_at content key
agrees_found content pages key bytes valid agrees found =
    let entry = Contains-lookup (page_eq (page_of key)) pages.entries bytes found in
    agrees.kept key bytes valid (subst (λ page. Contains pages.entries (page, bytes)) (sym (page_eq-true (page_of key) entry.0 entry.2)) entry.1)

-- one page more, as it stands in the content; others may have gone
pub agrees_put : (content : Files) (cache : Pages) (page : PageKey) (bytes : List ℕ) (shared : Bool) → Agrees content cache → IsPage content page bytes
    → Agrees content (with_page page bytes shared cache)
agrees_put content cache page bytes shared agrees is = record {
  kept = λ key held valid i. ⊎_elim
      (λ was. agrees.kept key held valid was)
      (λ new.
      let same : page ≡ page_of key = ⊎_elim (λ e. sym e) (λ other. page_eq-true page (page_of key) other.2) new.1 in
      ap (λ b. record_in b key.id) new.0 ∙ record_in-is content key bytes valid.file (subst (λ p. IsPage content p bytes) same is))
      (Contains-put_entries page_eq (lru_cache cache.entries cache.cap) page bytes (page_of key, held) i);
}

-- it was put in, or there was no memory for that
pub agrees_loaded : (content : Files) (page : PageKey) (bytes : List ℕ) (old new : Pages) (kept : Bool) → Agrees content old → IsPage content page bytes
    → (IsTrue kept → (shared : Bool) × (new ≡ with_page page bytes shared old)) → (kept ≡ false → new ≡ without_file page old) → Agrees content new
agrees_loaded content page bytes old new true agrees is put refused =
    subst (Agrees content) (sym (put refl).1) (agrees_put content old page bytes (put refl).0 agrees is)
agrees_loaded content page bytes old new false agrees is put refused =
    subst (Agrees content) (sym (refused refl)) (agrees_within content old (without_file page old) agrees (λ entry i. i))

-- the page of a record was taken out, so it is not there
pub gone_forgotten : (key : Key) (page : PageKey) (before after : Pages) → page ≡ page_of key
    → IsDistinct page_eq (keys_of before.entries) → IsDistinct page_eq (keys_of after.entries) → after.entries ≡ remove_entry (page_eq page) before.entries
    → (bytes : List ℕ) → ¬ Contains after.entries (page_of key, bytes)
gone_forgotten key page before after its once then is bytes i =
    let found : lookup (page_eq (page_of key)) after.entries ≡ Some bytes = lookup-from_Contains page_laws (page_of key) bytes after.entries then i in
    let gone : lookup (page_eq (page_of key)) after.entries ≡ cond (page_eq page (page_of key)) None (lookup (page_eq (page_of key)) before.entries)
    = ap (lookup (page_eq (page_of key))) is ∙ lookup-remove_entry page_laws (page_eq page) (λ x y e. ap (λ w. page_eq w y) (page_eq-true page x e))
    (page_of key) before.entries once in
    let same : page_eq page (page_of key) ≡ true = ap (λ p. page_eq p (page_of key)) its ∙ page_eq-same (page_of key) in
    absurd (none_there (page_eq page (page_of key)) (lookup (page_eq (page_of key)) before.entries) bytes same (sym gone ∙ found))
  where
    none_there : {X : Type 0} (b : Bool) (o : Option X) (x : X) → b ≡ true → cond b None o ≡ Some x → ⊥
    none_there true o x t e = absurd (cc)
    none_there false o x t e = absurd (cc)

-- the page of a record was taken out, and the record written
pub agrees_forgotten : (old new : Files) (key : Key) (page : PageKey) (before after : Pages) → page ≡ page_of key → SameButRecord key old new
    → IsDistinct page_eq (keys_of before.entries) → IsDistinct page_eq (keys_of after.entries) → after.entries ≡ remove_entry (page_eq page) before.entries
    → Agrees old before → Agrees new after
agrees_forgotten old new key page before after its same once then is agrees = record {
  kept = λ other bytes valid i.
      let found : lookup (page_eq (page_of other)) after.entries ≡ Some bytes = lookup-from_Contains page_laws (page_of other) bytes after.entries then i in
      let gone : lookup (page_eq (page_of other)) after.entries ≡ cond (page_eq page (page_of other)) None (lookup (page_eq (page_of other)) before.entries)
      = ap (lookup (page_eq (page_of other))) is ∙ lookup-remove_entry page_laws (page_eq page) (λ x y e. ap (λ w. page_eq w y) (page_eq-true page x e))
      (page_of other) before.entries once in
      let apart = kept_apart (page_eq page (page_of other)) (lookup (page_eq (page_of other)) before.entries) bytes (sym gone ∙ found) in
      let differ = other_key other key (ap (λ p. page_eq p (page_of other)) (sym its) ∙ apart) in
      agrees.kept other bytes valid (Contains-remove_entry (page_eq page) before.entries (page_of other, bytes)
      (subst (λ pages. Contains pages (page_of other, bytes)) is i))
      ∙ sym (record_at-other other key old new differ same);
}
  where
    kept_apart : {X : Type 0} (b : Bool) (o : Option X) (x : X) → cond b None o ≡ Some x → b ≡ false
    kept_apart true o x e = absurd (cc)
    kept_apart false o x e = refl

    other_key : (a b : Key) → page_eq (page_of b) (page_of a) ≡ false → key_eq a b ≡ false
    other_key a b apart = grind (arith, nat_tests)

-- as many pages may be there as before
IsUsed-room : (key : Key) (old new : Pages) → IsUsed key old new → new.cap ≡ old.cap
IsUsed-room key old new used = ⊎_elim
    (λ (same : (IsLastUsed key old ⊎ (kept_page key old ≡ None)) × (new ≡ old)). ap (λ (pages : Pages). pages.cap) same.1)
    (λ (is : IsMoved key old new). ap (λ (pages : Pages). pages.cap) is.moved)
    used

pub KeepsPage-room : (key : Key) (old new : Pages) → KeepsPage key old new → new.cap ≡ old.cap
KeepsPage-room key old new keeps = ⊎_elim
    (λ used. IsUsed-room key old new used)
    (λ (came : IsPut key old new ⊎ (new ≡ without_file (page_of key) old)). ⊎_elim
    (λ (is : IsPut key old new). ap (λ (pages : Pages). pages.cap) is.put)
    (λ (refused : new ≡ without_file (page_of key) old). ap (λ (pages : Pages). pages.cap) refused)
    came)
    keeps

-- where a page isn't kept, using it leaves the list as it is
pub unused_cases : (test : PageKey → Bool) (entries : List (PageKey × List ℕ)) → lookup test entries ≡ None → lookup_entry test entries ≡ None
unused_cases test [] is = refl
unused_cases test (entry ∷ rest) is = pick (test entry.0) is (unused_cases test rest)
  where
    pick : (here : Bool) → cond here (Some entry.1) (lookup test rest) ≡ None → (lookup test rest ≡ None → lookup_entry test rest ≡ None)
        → cond here (Some entry) (lookup_entry test rest) ≡ None
    pick true none later = absurd (false≢true (sym (ap is_some none)))
    pick false none later = later none

pub unused : (test : PageKey → Bool) (entries : List (PageKey × List ℕ)) → lookup test entries ≡ None → promoted test entries ≡ entries
unused test entries is = ap (λ (found : Option (PageKey × List ℕ)). option_map_or (λ e. e ∷ remove_entry test entries) found entries)
    (unused_cases test entries is)
