-- Walks of records in use as lines.
use Rattle.std.proofs.Common.{◌≡◌, ℕ, ◌<◌, ◌≤◌, Bool, true, not, List, nat_eq, sym, ap, ◌∙◌, refl}
use Rattle.std.proofs.lemmas.Bool.{true≢false}
use Rattle.rec_bytes.specs.Format as format
use Rattle.rec_bytes.specs.Record.{field}
use Rattle.store_rules.specs.Chains.{In, IsWalk}
use Rattle.store_rules.specs.Views.{Records, high, is_live, rec_at}
use Rattle.store_rules.proofs.NumberLaws.{eq_false, eq_true}
use Rattle.store_rules.proofs.PropertyOwners.{used_of_live}
use Rattle.store_rules.proofs.ViewLaws.{kind_below}
use Rattle.record_lists.specs.Lines.{IsLineIn, live_line}
use Rattle.record_lists.proofs.LineLaws.{below_in, line_of_walk, tested_in, walk_of_line}
use Rattle.record_lists.proofs.RecordLaws.{free_read, live_read}

-- what is in use is below the mark
pub live_below : (records : Records) (file x : ℕ) → is_live records file x ≡ true → x < high records file
live_below records file x l = kind_below (high records file) (rec_at records file x) x (used_of_live records file x l)

module _ (records : Records) (file place first : ℕ) where
  abbrev pub test : ℕ → Bool
  test x = not (nat_eq (field 1 (rec_at records file x) format.kind) format.free_kind)

  abbrev pub next : ℕ → ℕ
  next x = field 4 (rec_at records file x) place

  abbrev pub IsIt : List ℕ → Type 0
  IsIt xs = IsLineIn (live_line file place) records (high records file) first xs

  test_live : (x : ℕ) → x < high records file → test x ≡ true → is_live records file x ≡ true
  test_live x lt t = live_read records file x (rec_at records file x) lt refl
      (λ z. true≢false (sym t ∙ ap not (eq_true (field 1 (rec_at records file x) format.kind) 0 z)))

  live_test : (x : ℕ) → x < high records file → is_live records file x ≡ true → test x ≡ true
  live_test x lt l = ap not (eq_false (field 1 (rec_at records file x) format.kind) 0 (λ z. free_read records file x (rec_at records file x) lt refl z l))

  -- a walk of records in use is a line
  pub line_from : (xs : List ℕ) → IsWalk next first xs → ((x : ℕ) → In x xs → is_live records file x ≡ true) → IsIt xs
  line_from xs walk live = line_of_walk next test (high records file) format.nil first xs walk (λ x i. live_below records file x (live x i))
      (λ x i. live_test x (live_below records file x (live x i)) (live x i))

  -- and a line is such a walk
  pub walk_from : high records file ≤ format.most_ids → (xs : List ℕ) → IsIt xs → IsWalk next first xs
  walk_from room xs it = walk_of_line next (λ _ x. test x) (high records file) room format.nil first xs it

  pub live_from : high records file ≤ format.most_ids → (xs : List ℕ) → IsIt xs → (x : ℕ) → In x xs → is_live records file x ≡ true
  live_from room xs it x i = test_live x (below_in next (λ _ x. test x) (high records file) room format.nil first xs it x i)
      (tested_in next test (high records file) format.nil first xs it x i)
