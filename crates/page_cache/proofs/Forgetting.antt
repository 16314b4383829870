-- Pages that are taken out one after the other.
use Rattle.std.proofs.Common.{◌≡◌, ◌∙◌, ℕ, suc, zero, ◌+◌, ◌≤◌, List, [], ◌∷◌, Option, Some, Contains, ap, sym, subst}
use Rattle.std.proofs.Common.{refl, arith, drop, length, unwrap_or, is_some, ⊎_elim}
use Rattle.std.proofs.lemmas.Bool.{false≢true}
use Rattle.std.specs.List.{slice_get}
use Rattle.lru.proofs.CallerLemmas.{Contains-remove_entry}
use Rattle.disk_model.specs.Contents.{Files}
use Rattle.rec_bytes.specs.declared.key.Key.{Key}
use Rattle.rec_bytes.specs.declared.record.Rec.{Rec}
use Rattle.rec_bytes.specs.Pairs.{Pairs, find_pair}
use Rattle.record_file.specs.Records.{KeepsOthers}
use Rattle.record_file.proofs.Records.{cases_key}
use Rattle.record_file.proofs.Written.{find_pair-drop, find_pair-end}
use Rattle.page_cache.specs.declared.page.PageKey.{PageKey}
use Rattle.page_cache.specs.Pages.{Agrees, Pages, page_eq, page_of, without_page, without_pages}

-- The pages of the first of these records were taken out, and no page was put in.
pub record HasForgotten (pairs : Pairs) (i : ℕ) (start now : Pages) : Type 0 where
  pub within : (entry : PageKey × List ℕ) → Contains now.entries entry → Contains start.entries entry
  pub apart : (key : Key) (bytes : List ℕ) → Contains now.entries (page_of key, bytes) → find_pair pairs key ≡ find_pair (drop i pairs) key
  pub left : without_pages (drop i pairs) now ≡ without_pages pairs start

-- the pairs from a place on begin with the one at it
drop_at : (ps : Pairs) (i : ℕ) (write : Key × Rec) → slice_get ps i ≡ Some write → drop i ps ≡ write ∷ drop (suc i) ps
drop_at [] i write is = absurd (false≢true (ap is_some is))
drop_at (pair ∷ rest) zero write is = ap (λ (w : Key × Rec). w ∷ rest) (ap (λ (o : Option (Key × Rec)). unwrap_or o pair) is)
drop_at (pair ∷ rest) (suc i) write is = drop_at rest i write is

pub forgotten_more : (pairs : Pairs) (i : ℕ) (write : Key × Rec) (start now next : Pages) → slice_get pairs i ≡ Some write → next ≡ without_page write.0 now
    → ((bytes : List ℕ) → ¬ Contains next.entries (page_of write.0, bytes)) → HasForgotten pairs i start now → HasForgotten pairs (i + 1) start next
forgotten_more pairs i write start now next is out gone before =
    let more : i + 1 ≡ suc i = omega arith in
    let fewer : (entry : PageKey × List ℕ) → Contains next.entries entry → Contains now.entries entry
    = λ entry there. Contains-remove_entry (page_eq (page_of write.0)) now.entries entry (subst (λ (pages : Pages). Contains pages.entries entry) out there) in
    record {
      within = λ entry there. before.within entry (fewer entry there);
      apart = λ key bytes there. ⊎_elim
          (λ (e : key ≡ write.0). absurd (gone bytes (subst (λ (k : Key). Contains next.entries (page_of k, bytes)) e there)))
          (λ differ. before.apart key bytes (fewer (page_of key, bytes) there) ∙ find_pair-drop pairs i write key is differ ∙ ap (λ n. find_pair (drop n pairs)
          key) (sym more))
          (cases_key key write.0);
      left = ap (λ n. without_pages (drop n pairs) next) more ∙ ap (without_pages (drop (suc i) pairs)) out
          ∙ sym (ap (λ (ps : Pairs). without_pages ps now) (drop_at pairs i write is)) ∙ before.left;
    }

-- The pages that are left have none of the records, so they agree with a content that has others there.
pub forgotten_agrees : (pairs : Pairs) (i : ℕ) (start now : Pages) (old new : Files) → length pairs ≤ i → HasForgotten pairs i start now
    → KeepsOthers pairs old new → Agrees old start → Agrees new now
forgotten_agrees pairs i start now old new end all keeps agrees = record {
  kept = λ key bytes valid there.
      agrees.kept key bytes valid (all.within (page_of key, bytes) there) ∙ sym (keeps key (all.apart key bytes there ∙ find_pair-end pairs i key end));
}

-- as many pages may be there as before
pub without_pages-room : (pairs : Pairs) (pages : Pages) → (without_pages pairs pages).cap ≡ pages.cap
without_pages-room [] pages = refl
without_pages-room (pair ∷ rest) pages = without_pages-room rest (without_page pair.0 pages)
