-- The list of the kinds of nodes, kind by kind, and what is said of ends by it.
use Rattle.std.proofs.Common.{◌≡◌, ℕ, ◌+◌, ◌<◌, ◌≤◌, Bool, Option, Some, None, IfNone, IfSome, List, [], ◌∷◌, ◌++◌}
use Rattle.std.proofs.Common.{length, get_or, sym, ap, ◌∙◌, subst, inl, inr, ⊎_elim, arith}
use Rattle.std.proofs.lemmas.Bool.{cases_lt}
use Rattle.std.proofs.lemmas.List.{get_or_append_left, get_or_past, get_or_push}
use Rattle.rec_bytes.specs.Format as format
use Rattle.store_rules.specs.Views.{Records, high, kind_at, rec_at}
use Rattle.store_rules.proofs.ViewLaws.{kind_high}
use Rattle.chain_check.specs.Kinds.{AreKinds, kind_of}
use Rattle.chain_check.specs.NodeChains.{EndHolds, RelHolds}

-- a list that is what a function makes of the first numbers, and of one more
pub made_more : {X : Type 0} (f : ℕ → X) (xs : List X) (y d : X) → ((k : ℕ) → k < length xs → get_or xs k d ≡ f k) → y ≡ f (length xs)
    → (k : ℕ) → k < length xs + 1 → get_or (xs ++ y ∷ []) k d ≡ f k
made_more f xs y d made one k lt = ⊎_elim
    (λ (low : k < length xs). get_or_append_left xs (y ∷ []) d k low ∙ made k low)
    (λ (up : length xs ≤ k). let last : length xs ≡ k = omega arith in get_or_push xs y d k last ∙ one ∙ ap f last)
    (cases_lt k (length xs))

-- a list of the kinds of the nodes below the mark is one of all
pub kinds_all : (records : Records) (kinds : List ℕ) → length kinds ≡ high records format.nodes_file
    → ((n : ℕ) → n < length kinds → kind_of kinds n ≡ kind_at records format.nodes_file n) → AreKinds records kinds
kinds_all records kinds len below n = ⊎_elim
    (λ (lt : n < length kinds). below n lt)
    (λ (ge : length kinds ≤ n). get_or_past kinds n 0 ge ∙ sym (kind_high (high records format.nodes_file) (rec_at records format.nodes_file n) n
    (omega arith)))
    (cases_lt n (length kinds))

-- what is said by one list of kinds is said by the same kinds
end_by : (f g : ℕ → ℕ) → ((n : ℕ) → f n ≡ g n) → (n : ℕ) (met : Bool) → EndHolds f n met → EndHolds g n met
end_by f g same n met h = record {
  node = λ z. h.node (same n ∙ z);
  chain = λ has. h.chain (⊎_elim (λ s. inl (same n ∙ s)) (λ d. inr (same n ∙ d)) has);
}

pub rel_by : (f g : ℕ → ℕ) → ((n : ℕ) → f n ≡ g n) → (records : Records) (seen : List Bool) (x : ℕ) → RelHolds f records seen x → RelHolds g records seen x
rel_by f g same records seen x h = record {
  from = λ row live. end_by f g same row.from _ (h.from row live);
  to = λ row live. end_by f g same row.to _ (h.to row live);
}

-- so what a walk by the list finds is found by the records
module _ (records after : Records) (kinds : List ℕ) (seen : List Bool) (count : ℕ)
    (same : after ≡ records) (is : count ≡ high records format.relationships_file) (are : AreKinds records kinds) where
  pub none_loose : (found : Option ℕ) → IfNone found ((x : ℕ) → x < count → RelHolds (kind_of kinds) after seen x)
      → IfNone found ((x : ℕ) → x < high records format.relationships_file → RelHolds (kind_at records format.nodes_file) records seen x)
  none_loose (Some y) h = tt
  none_loose None h = λ x lt. rel_by (kind_of kinds) (kind_at records format.nodes_file) are records seen x
      (subst (λ (r : Records). RelHolds (kind_of kinds) r seen x) same (h x (omega arith)))

  pub one_loose : (found : Option ℕ) → IfSome found (λ x. (x < count) × (¬ RelHolds (kind_of kinds) after seen x))
      → IfSome found (λ x. (x < high records format.relationships_file) × (¬ RelHolds (kind_at records format.nodes_file) records seen x))
  one_loose None h = tt
  one_loose (Some y) h = (
    omega (arith, h.0),
    (λ k. h.1 (subst (λ (r : Records). RelHolds (kind_of kinds) r seen y) (sym same)
        (rel_by (kind_at records format.nodes_file) (kind_of kinds) (λ n. sym (are n)) records seen y k))),
  )
