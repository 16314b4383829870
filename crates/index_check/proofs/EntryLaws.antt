-- The entries of all buckets of a definition, one bucket after the other.
use Rattle.std.proofs.Common.{◌≡◌, ℕ, ◌+◌, ◌<◌, ◌≤◌, List, [], ◌++◌, sym, ◌∙◌, subst, ⊎_elim, arith}
use Rattle.std.specs.List.{All}
use Rattle.std.proofs.lemmas.Bool.{cases_lt}
use Rattle.std.proofs.lemmas.List.Elements.{All-append}
use Rattle.store_rules.specs.Chains.{In}
use Rattle.store_rules.specs.IndexBreaking.{IsBucketList}
use Rattle.store_rules.specs.Views.{Records}
use Rattle.store_rules.proofs.ChainLaws.{walk_of_chain}
use Rattle.store_rules.proofs.OnceLaws.{in_left, in_parts, in_right, once_both, once_walk}
use Rattle.index_check.specs.Entries.{AreEntriesTo, HasBucketIn}

module _ (records : Records) (d : ℕ) where
  -- no bucket, no entries
  pub entries_none : AreEntriesTo records d 0 []
  entries_none = record {
    each = λ b lt. absurd (omega arith);
    only = λ x i. elim i [ ];
    once = tt;
  }

  -- the entries of one bucket more
  pub entries_more : (n : ℕ) (xs ys : List ℕ) → AreEntriesTo records d n xs → IsBucketList records d n ys → AreEntriesTo records d (n + 1) (xs ++ ys)
  entries_more n xs ys h l = record {
    each = λ b lt. ⊎_elim
        (λ (low : b < n). let e = h.each b low in record { members = e.members; list = e.list; all = λ x i. in_left x xs ys (e.all x i) })
        (λ (ge : n ≤ b). let same : n ≡ b = omega arith in subst (λ z. HasBucketIn records d z (xs ++ ys)) same (record {
          members = ys;
          list = l;
          all = λ x i.
              in_right x xs ys i;
        }))
        (cases_lt b n);
    only = λ x i. ⊎_elim
        (λ (j : In x xs). let e = h.only x j in let lt : e.bucket < n = e.below in record {
          bucket = e.bucket;
          below = omega arith;
          members = e.members;
          list =
              e.list;
          member = e.member;
        })
        (λ (j : In x ys). record { bucket = n; below = omega arith; members = ys; list = l; member = j })
        (in_parts x xs ys i);
    once = once_both xs ys h.once (once_walk _ _ ys (walk_of_chain _ _ _ _ ys l.chain))
        (λ x i j. let e = h.only x i in let lt : e.bucket < n = e.below in let same : e.bucket ≡ n = sym (e.list.hash x e.member) ∙ l.hash x j in omega arith);
  }

-- identifiers below a mark, and more of them below a lower one
pub low_more : (mark most : ℕ) (xs ys zs : List ℕ) → mark ≤ most → zs ≡ xs ++ ys → All (λ x. x < most) xs → All (λ x. x < mark) ys → All (λ x. x < most) zs
low_more mark most xs ys zs le is front back = subst (All (λ x. x < most)) (sym is)
    (All-append (λ x. x < most) xs ys front (λ k d lt. let low = back k d lt in omega (arith, low)))
