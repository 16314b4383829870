-- Free lists as lines, and counts of what is in use.
use Rattle.std.proofs.Common.{◌≡◌, ◌≢◌, ℕ, ◌<◌, ◌≤◌, Bool, true, false, List, length, nat_eq, sym, ap, ◌∙◌, subst, refl}
use Rattle.std.proofs.lemmas.Bool.{eqb-true, true≢false}
use Rattle.rec_bytes.specs.declared.record.Rec.{Rec}
use Rattle.rec_bytes.specs.Format as format
use Rattle.rec_bytes.specs.Record.{field}
use Rattle.rec_bytes.specs.Space.{meta_in}
use Rattle.store_rules.specs.Chains.{In}
use Rattle.store_rules.specs.Rows.{ids}
use Rattle.store_rules.specs.Rules as rules
use Rattle.store_rules.specs.Views.{Records, high, is_live, kind_at, rec_at}
use Rattle.store_rules.proofs.NumberLaws.{eq_true}
use Rattle.store_rules.proofs.ViewLaws.{kind_low, live_false, live_true, not_live}
use Rattle.store_check.specs.declared.free.Counted.{Counted}
use Rattle.store_rules.specs.Breaking.{HasFreeList, IsFreeList, IsOnFreeList}
use Rattle.store_check.specs.Free.{IsCounted, free_line}
use Rattle.record_lists.specs.Lines.{IsLineIn}
use Rattle.record_lists.specs.Seen.{is_among, is_seen}
use Rattle.record_lists.proofs.LineLaws.{among_from_in, below_in, in_from_among, line_of_walk, tested_in, walk_members, walk_of_line}

module _ (records : Records) (file : ℕ) where
  -- what a record below the mark says of its use
  pub live_by : (x : ℕ) (r : Rec) → x < high records file → r ≡ rec_at records file x → field 1 r format.kind ≢ 0 → is_live records file x ≡ true
  live_by x r lt e ne = live_true (kind_at records file x) (λ k. ne (ap (λ q. field 1 q format.kind) e ∙ sym (kind_low (high records file)
      (rec_at records file x) x lt) ∙ k))

  pub free_by : (x : ℕ) (r : Rec) → x < high records file → r ≡ rec_at records file x → field 1 r format.kind ≡ 0 → is_live records file x ≡ false
  free_by x r lt e z = live_false (kind_at records file x) (kind_low (high records file) (rec_at records file x) x lt ∙ sym (ap (λ q. field 1 q format.kind) e)
      ∙ z)

  abbrev pub free_test : ℕ → Bool
  free_test x = nat_eq (field 1 (rec_at records file x) format.kind) format.free_kind

  test_free : (x : ℕ) → x < high records file → free_test x ≡ true → is_live records file x ≡ false
  test_free x lt t = free_by x (rec_at records file x) lt refl (eqb-true (field 1 (rec_at records file x) format.kind) 0 t)

  free_tests : (x : ℕ) → x < high records file → is_live records file x ≡ false → free_test x ≡ true
  free_tests x lt f = eq_true (field 1 (rec_at records file x) format.kind) 0
      (sym (kind_low (high records file) (rec_at records file x) x lt) ∙ not_live (kind_at records file x) f)

  -- ---- the list

  abbrev pub IsIt : List ℕ → Type 0
  IsIt xs = IsLineIn (free_line file) records (high records file) (meta_in records file).free xs

  module _ (room : high records file ≤ format.most_ids) where
    pub list_of : (xs : List ℕ) → IsIt xs → IsFreeList records file xs
    list_of xs h =
        let low = below_in (rules.next_free records file) (λ _ x. free_test x) (high records file) room format.nil (meta_in records file).free xs h in
        record {
          walk = walk_of_line (rules.next_free records file) (λ _ x. free_test x) (high records file) room format.nil (meta_in records file).free xs h;
          low = low;
          only = λ x i. test_free x (low x i) (tested_in (rules.next_free records file) free_test (high records file) format.nil (meta_in records file).free xs
              h x i);
        }

    pub line_from : (xs : List ℕ) → IsFreeList records file xs → IsIt xs
    line_from xs l = line_of_walk (rules.next_free records file) free_test (high records file) format.nil (meta_in records file).free xs l.walk l.low
        (λ x i. free_tests x (l.low x i) (l.only x i))

    pub no_list : ((xs : List ℕ) → ¬ IsIt xs) → ¬ HasFreeList records file
    no_list none h = none h.members (line_from h.members h.list)

    -- the list that was found is the one that there is
    members_same : (xs ys : List ℕ) → IsIt xs → IsFreeList records file ys → (q : ℕ) → In q ys → In q xs
    members_same xs ys h l q i = walk_members (rules.next_free records file) (meta_in records file).free ys xs l.walk (list_of xs h).walk q i

    pub is_split : (seen : List Bool) (xs : List ℕ) → IsIt xs → ((p : ℕ) → is_seen seen p ≡ is_among xs p)
        → (meta_in records file).live ≡ length (ids (is_live records file) (high records file))
        → ((x : ℕ) → x < high records file → is_live records file x ≡ false → is_seen seen x ≡ true) → (free : List ℕ)
        × rules.IsSplit records file (is_live records file) free
    is_split seen xs h ms count all =
        let l = list_of xs h in (
          xs,
          record { walk = l.walk; low = l.low; only = l.only; all = λ x lt free. in_from_among x xs (sym (ms x) ∙ all x lt free); exact = count },
        )

    pub is_off : (seen : List Bool) (xs : List ℕ) → IsIt xs → ((p : ℕ) → is_seen seen p ≡ is_among xs p) → (x : ℕ) → is_seen seen x ≡ false
        → ¬ IsOnFreeList records file x
    is_off seen xs h ms x out held = true≢false (sym (among_from_in x xs (members_same xs held.members h held.list x held.member)) ∙ sym (ms x) ∙ out)

    -- where the count is another one the rule is broken
    pub wrong_count : (n : ℕ) → n ≡ length (ids (is_live records file) (high records file)) → n ≢ (meta_in records file).live → ¬ HasFreeList records file
    wrong_count n e ne h = ne (e ∙ sym h.exact)

-- a count of the same records
pub counted_at : (now records : Records) (file : ℕ) (earlier seen : List Bool) (found was : Counted) → now ≡ records → earlier ≡ seen → was ≡ found
    → IsCounted now file earlier was → IsCounted records file seen found
counted_at now records file earlier seen found was e s f h =
    subst (λ (r : Records). IsCounted r file seen found) e (subst (λ ms. IsCounted now file ms found) s (subst (λ k. IsCounted now file earlier k) f h))
