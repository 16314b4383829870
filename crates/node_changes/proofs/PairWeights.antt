-- What a value of one key at one node weighs for the indexes of a graph, by the definition of the pair.
use Rattle.std.proofs.Common.{◌≡◌, ◌≢◌, ⊎_elim, inl, inr, ℕ, ◌+◌, ◌<◌, nat_eq, Bool, true, false, ◌&&◌, ◌||◌}
use Rattle.std.proofs.Common.{if◌then◌else◌, cond, List, [], ◌∷◌, ap, sym, ◌∙◌, subst, arith, refl}
use Rattle.std.specs.Cmp.{eq_by_cmp_equiv}
use Rattle.std.specs.Cmp.Lexicographic.{nat_list_cmp_total}
use Rattle.std.specs.List.{list_any, sum_by}
use Rattle.std.proofs.lemmas.List.Sums.{sum_by-cons}
use Rattle.plain_graph.specs.Graph.{Index}
use Rattle.plain_graph.specs.Values.{is_text}
use Rattle.plain_graph.proofs.PropertyLaws.{same_key}
use Rattle.rec_bytes.specs.declared.record.Rec.{Rec}
use Rattle.rec_bytes.specs.declared.shape.Shape.{Shape}
use Rattle.rec_bytes.specs.Format as format
use Rattle.store_rules.specs.Chains.{In}
use Rattle.store_rules.specs.Graph.{indexes_of}
use Rattle.store_rules.specs.Indexes.{AreIndexed, Entries, indexed_key, indexed_label}
use Rattle.store_rules.specs.Rules.{AreNames, IsWellFormed}
use Rattle.store_rules.specs.Views.{Records, high, rec_at, text_of}
use Rattle.store_rules.proofs.NumberLaws.{eq_false, eq_true, nat_cases}
use Rattle.change_parts.proofs.GraphPairs.{AreApart, any_in, apart, has_pair, is_among, of_definition, pair_is, same_number, same_truth, sum_indexes, text}

-- The texts of two names are the same where their numbers are.
pub text_test : (name_file : ℕ → Rec) (names : ℕ) → AreNames name_file names → (a b : ℕ) → a < names → b < names
    → is_text (text_of (name_file a)) (text_of (name_file b)) ≡ nat_eq a b
text_test name_file names named a b low below = same_truth (is_text (text_of (name_file a)) (text_of (name_file b))) (nat_eq a b)
    (λ h. eq_true a b (named.distinct a b low below (same_key (text_of (name_file a)) (text_of (name_file b)) h)))
    (λ h. subst (λ k. is_text (text_of (name_file a)) (text_of (name_file k)) ≡ true) (same_number a b h) ((eq_by_cmp_equiv nat_list_cmp_total).refl
    (text_of (name_file a))))

pub sum_same : (f g : ℕ → ℕ) (xs : List ℕ) → ((x : ℕ) → In x xs → f x ≡ g x) → sum_by f xs ≡ sum_by g xs
sum_same f g [] same = refl
sum_same f g (x ∷ xs) same =
    let here = same x (inl refl) in
    let later = sum_same f g xs (λ y i. same y (inr i)) in
    let a = sum_by-cons f x xs in
    let b = sum_by-cons g x xs in
    omega arith

module _ (s : Records) (label key w : ℕ) where
  none_of : (ds : List ℕ) → list_any (has_pair s label key) ds ≡ false → sum_by (λ d. cond (has_pair s label key d) w 0) ds ≡ 0
  none_of [] e = refl
  none_of (d ∷ ds) e = by (has_pair s label key d) (λ later. none_of ds later) e (sum_by-cons (λ d. cond (has_pair s label key d) w 0) d ds)
    where
      by : (b : Bool) → (list_any (has_pair s label key) ds ≡ false → sum_by (λ d. cond (has_pair s label key d) w 0) ds ≡ 0)
          → (b || list_any (has_pair s label key) ds) ≡ false
          → sum_by (λ d. cond (has_pair s label key d) w 0) (d ∷ ds) ≡ cond b w 0 + sum_by (λ d. cond (has_pair s label key d) w 0) ds
          → sum_by (λ d. cond (has_pair s label key d) w 0) (d ∷ ds) ≡ 0
      by true later e sum = absurd cc
      by false later e sum = let rest = later e in omega (arith, rest, sum)

  -- at most one definition has the pair
  sum_one : (ds : List ℕ) → AreApart s ds → sum_by (λ d. cond (has_pair s label key d) w 0) ds ≡ cond (is_among s ds label key) w 0
  sum_one [] apart = refl
  sum_one (d ∷ ds) apart = by (has_pair s label key d) refl (list_any (has_pair s label key) ds) refl (sum_one ds rest)
      (sum_by-cons (λ d. cond (has_pair s label key d) w 0) d ds)
    where
      rest : AreApart s ds
      rest = record { named = λ e i. apart.named e (inr i); distinct = λ e g i j. apart.distinct e g (inr i) (inr j); once = apart.once.1 }

      by : (a : Bool) → has_pair s label key d ≡ a → (b : Bool) → list_any (has_pair s label key) ds ≡ b
          → sum_by (λ d. cond (has_pair s label key d) w 0) ds ≡ cond b w 0
          → sum_by (λ d. cond (has_pair s label key d) w 0) (d ∷ ds) ≡ cond a w 0 + sum_by (λ d. cond (has_pair s label key d) w 0) ds
          → sum_by (λ d. cond (has_pair s label key d) w 0) (d ∷ ds) ≡ cond (a || b) w 0
      by true is true other later sum =
          let found = any_in (has_pair s label key) ds other in
          let p = pair_is s label key d is in
          let q = pair_is s label key found.0 found.2 in
          absurd (apart.once.0 (subst (λ z. In z ds) (sym (apart.distinct d found.0 (inl refl) (inr found.1) (p.0 ∙ sym q.0) (p.1 ∙ sym q.1))) found.1))
      by true is false other later sum = omega (arith, later, sum)
      by false is b other later sum = omega (arith, later, sum)

module _ (s : Records) (shape : Shape) (store : IsWellFormed s shape) (wanted : Entries) (ix : AreIndexed s wanted) (label key : ℕ)
    (label_low : label < high s format.names_file) (key_low : key < high s format.names_file) (weight : List ℕ → ℕ) where
  abbrev weigh : Index → ℕ
  weigh index = if is_text index.label (text s label) && is_text (text s key) index.key then weight index.key else 0

  one_weighs : (d : ℕ) → In d ix.definitions → of_definition s weigh d ≡ cond (has_pair s label key d) (weight (text s key)) 0
  one_weighs d i =
      let low = (apart s store.defined wanted ix).named d i in
      let names = rec_at s format.names_file in
      let mark = high s format.names_file in
      rw (text_test names mark store.names (indexed_label s d) label low.0 label_low, text_test names mark store.names key (indexed_key s d) key_low low.1)
      (by (nat_eq (indexed_label s d) label))
    where
      key_by : cond (nat_eq key (indexed_key s d)) (weight (text s (indexed_key s d))) 0 ≡ cond (nat_eq (indexed_key s d) key) (weight (text s key)) 0
      key_by = ⊎_elim
          (λ (e : key ≡ indexed_key s d). ap (λ b. cond b (weight (text s (indexed_key s d))) 0) (eq_true key (indexed_key s d) e) ∙ ap (λ k. weight (text s k))
          (sym e) ∙ sym (ap (λ b. cond b (weight (text s key)) 0) (eq_true (indexed_key s d) key (sym e))))
          (λ (ne : key ≢ indexed_key s d). ap (λ b. cond b (weight (text s (indexed_key s d))) 0) (eq_false key (indexed_key s d) ne) ∙ sym
          (ap (λ b. cond b (weight (text s key)) 0) (eq_false (indexed_key s d) key (λ e. ne (sym e)))))
          (nat_cases key (indexed_key s d))

      by : (b : Bool) → (if b && nat_eq key (indexed_key s d) then weight (text s (indexed_key s d)) else 0) ≡ cond (b && nat_eq (indexed_key s d) key)
          (weight (text s key)) 0
      by true = key_by
      by false = refl

  -- so the pair's definition, if there is one, counts alone
  pub pair_weight : sum_by weigh (indexes_of s) ≡ cond (is_among s ix.definitions label key) (weight (text s key)) 0
  pair_weight = sum_indexes s store.defined wanted ix weigh ∙ sum_same (of_definition s weigh) (λ d. cond (has_pair s label key d) (weight (text s key)) 0)
      ix.definitions one_weighs
      ∙ sum_one s label key (weight (text s key)) ix.definitions (apart s store.defined wanted ix)
