-- How many records the indexes of a store have: thirteen for each definition, and one for each node of its label that has its key.
use Rattle.std.proofs.Common.{◌≡◌, ◌≢◌, ⊎_elim, ℕ, zero, suc, ◌+◌, ◌*◌, ◌<◌, true, List, [], ◌∷◌, ◌++◌, length, map}
use Rattle.std.proofs.Common.{refl, sym, ap, ◌∙◌, subst, inl, inr, arith, length-append}
use Rattle.std.specs.List.{flat_map}
use Rattle.std.proofs.lemmas.List.{length-map}
use Rattle.rec_bytes.specs.Format as format
use Rattle.rec_bytes.specs.Space.{meta_in}
use Rattle.store_rules.specs.Chains.{In}
use Rattle.store_rules.specs.Indexes.{AreIndexed, Entries, IsDefinition, IsEntry, IsHeads, IsOfIndex, first_entry}
use Rattle.store_rules.specs.Indexes.{heads_of, next_definition, next_entry, first_definition}
use Rattle.store_rules.specs.Properties.{AreOnce}
use Rattle.store_rules.specs.Rows.{ids}
use Rattle.store_rules.specs.Rules.{IsSplit}
use Rattle.store_rules.specs.Views.{Records, high, is_live, kind_at, rec_at}
use Rattle.store_rules.proofs.ChainLaws.{walk_of_chain}
use Rattle.store_rules.proofs.Counts.{ids_in, in_ids, once_ids}
use Rattle.store_rules.proofs.NumberLaws.{nat_cases}
use Rattle.store_rules.proofs.OnceLaws.{flat_map_in, in_flat_map, in_left, in_parts, in_right, length_same, map_in}
use Rattle.store_rules.proofs.OnceLaws.{once_both, once_flat_map, once_map, once_walk}
use Rattle.store_rules.proofs.ViewLaws.{kind_below, live_true}

-- the numbers below a mark, the highest first
abbrev pub down : ℕ → List ℕ
down zero = []
down (suc n) = n ∷ down n

pub down_in : (n x : ℕ) → In x (down n) → x < n
down_in zero x i = elim i [ ]
down_in (suc n) x (inl e) = omega arith
down_in (suc n) x (inr i) = let lt = down_in n x i in omega arith

pub in_down : (n x : ℕ) → x < n → In x (down n)
in_down zero x lt = absurd (omega arith)
in_down (suc n) x lt = ⊎_elim (λ (e : x ≡ n). inl e) (λ (ne : x ≢ n). inr (in_down n x (omega arith))) (nat_cases x n)

once_down : (n : ℕ) → AreOnce (down n)
once_down zero = tt
once_down (suc n) = ((λ i. let lt = down_in n n i in omega arith), once_down n)

length-down : (n : ℕ) → length (down n) ≡ n
length-down zero = refl
length-down (suc n) = ap suc (length-down n)

image_in : (f : ℕ → ℕ) (x : ℕ) (ps : List ℕ) → In x ps → In (f x) (map f ps)
image_in f x [] i = elim i [ ]
image_in f x (y ∷ ps) (inl e) = inl (ap f e)
image_in f x (y ∷ ps) (inr i) = inr (image_in f x ps i)

module _ (s : Records) (wanted : Entries) (ix : AreIndexed s wanted) where
  abbrev ds : List ℕ
  ds = ix.definitions

  -- the entries of a definition, those of the last bucket first
  abbrev pub entries_of : ℕ → List ℕ
  entries_of d = flat_map (ix.lists d) (down 180)

  abbrev heads_in : ℕ → List ℕ
  heads_in d = map (heads_of s d) (down 12)

  -- all its records
  abbrev block : ℕ → List ℕ
  block d = d ∷ (heads_in d ++ entries_of d)

  head_kind : (d x : ℕ) → In d ds → In x (heads_in d) → kind_at s format.index_file x ≡ format.heads
  head_kind d x i m = let r = map_in (heads_of s d) x (down 12) m in ap (kind_at s format.index_file) r.2 ∙ ix.heads d r.0 i (down_in 12 r.0 r.1)

  entry_kind : (d x : ℕ) → In d ds → In x (entries_of d) → kind_at s format.index_file x ≡ format.indexed
  entry_kind d x i m = let r = flat_map_in (ix.lists d) x (down 180) m in (ix.buckets d r.0 i (down_in 180 r.0 r.1)).kind x r.2

  -- ---- none comes twice

  pub entries_once : (d : ℕ) → In d ds → AreOnce (entries_of d)
  entries_once d i = once_flat_map (ix.lists d) (down 180) (once_down 180)
      (λ b k. once_walk (next_entry s) (first_entry s d b) (ix.lists d b) (walk_of_chain _ _ _ _ (ix.lists d b) (ix.buckets d b i (down_in 180 b k)).chain))
      (λ b c x k l m n. sym ((ix.buckets d b i (down_in 180 b k)).hash x m) ∙ (ix.buckets d c i (down_in 180 c l)).hash x n)

  heads_once : (d : ℕ) → In d ds → AreOnce (heads_in d)
  heads_once d i = once_map (heads_of s d) (down 12) (once_down 12) (λ c k a b e. (ix.heads_once d c d k i i (down_in 12 c a) (down_in 12 k b) e).1)

  block_once : (d : ℕ) → In d ds → AreOnce (block d)
  block_once d i = (
    (λ m. let k = ix.defined d i in ⊎_elim
        (λ (h : In d (heads_in d)). let f = head_kind d d i h in omega (arith, k, f))
        (λ (h : In d (entries_of d)). let f = entry_kind d d i h in omega (arith, k, f))
        (in_parts d (heads_in d) (entries_of d) m)),
    once_both (heads_in d) (entries_of d) (heads_once d i) (entries_once d i)
        (λ x m n. let a = head_kind d x i m in let b = entry_kind d x i n in omega (arith, a, b)),
  )

  part : {P : Type 0} (d x : ℕ) → In x (block d) → (x ≡ d → P) → (In x (heads_in d) → P) → (In x (entries_of d) → P) → P
  part d x (inl e) own heads entries = own e
  part d x (inr m) own heads entries = ⊎_elim heads entries (in_parts x (heads_in d) (entries_of d) m)

  own_kind : (d x : ℕ) → In d ds → x ≡ d → kind_at s format.index_file x ≡ format.definition
  own_kind d x i e = ap (kind_at s format.index_file) e ∙ ix.defined d i

  same : (d e x : ℕ) → In d ds → In e ds → In x (block d) → In x (block e) → d ≡ e
  same d e x i j m n = part d x m
      (λ a. part e x n
      (λ b. sym a ∙ b)
      (λ b. absurd (let k = own_kind d x i a in let f = head_kind e x j b in omega (arith, k, f)))
      (λ b. absurd (let k = own_kind d x i a in let f = entry_kind e x j b in omega (arith, k, f))))
      (λ a. part e x n
      (λ b. absurd (let k = own_kind e x j b in let f = head_kind d x i a in omega (arith, k, f)))
      (λ b. let p = map_in (heads_of s d) x (down 12) a in let q = map_in (heads_of s e) x (down 12) b in (ix.heads_once d p.0 e q.0 i j (down_in 12 p.0 p.1)
      (down_in 12 q.0 q.1) (sym p.2 ∙ q.2)).0)
      (λ b. absurd (let k = head_kind d x i a in let f = entry_kind e x j b in omega (arith, k, f))))
      (λ a. part e x n
      (λ b. absurd (let k = own_kind e x j b in let f = entry_kind d x i a in omega (arith, k, f)))
      (λ b. absurd (let k = head_kind e x j b in let f = entry_kind d x i a in omega (arith, k, f)))
      (λ b. let p = flat_map_in (ix.lists d) x (down 180) a in let q = flat_map_in (ix.lists e) x (down 180) b in ix.one d p.0 e q.0 x i j (down_in 180 p.0 p.1)
      (down_in 180 q.0 q.1) p.2 q.2))

  all_once : AreOnce (flat_map block ds)
  all_once = once_flat_map block ds (once_walk (next_definition s) (first_definition s) ds ix.walk) block_once same

  -- ---- they are the records in use

  used_in : (x : ℕ) → is_live s format.index_file x ≡ true → In x (flat_map block ds)
  used_in x live = by (ix.held x live)
    where
      by : IsOfIndex s ix.definitions ix.lists x → In x (flat_map block ds)
      by (IsDefinition i) = in_flat_map block x x ds i (inl refl)
      by (IsHeads d c i lt is) = in_flat_map block x d ds i (inr (in_left x (heads_in d) (entries_of d) (subst (λ z. In z (heads_in d)) is
          (image_in (heads_of s d) c (down 12) (in_down 12 c lt)))))
      by (IsEntry d b i lt m) = in_flat_map block x d ds i (inr (in_right x (heads_in d) (entries_of d) (in_flat_map (ix.lists d) x b (down 180)
          (in_down 180 b lt) m)))

  in_used : (x : ℕ) → In x (flat_map block ds) → kind_at s format.index_file x ≢ 0
  in_used x m q =
      let r = flat_map_in block x ds m in
      part r.0 x r.2
      (λ a. let k = own_kind r.0 x r.1 a in omega (arith, k, q))
      (λ a. let k = head_kind r.0 x r.1 a in omega (arith, k, q))
      (λ a. let k = entry_kind r.0 x r.1 a in omega (arith, k, q))

  blocks_are : length (ids (is_live s format.index_file) (high s format.index_file)) ≡ length (flat_map block ds)
  blocks_are = length_same (ids (is_live s format.index_file) (high s format.index_file)) (flat_map block ds)
      (once_ids (is_live s format.index_file) (high s format.index_file)) all_once
      (λ x i. used_in x (ids_in (is_live s format.index_file) (high s format.index_file) x i).1)
      (λ x m. in_ids (is_live s format.index_file) (high s format.index_file) x (kind_below (high s format.index_file) (rec_at s format.index_file x) x
      (in_used x m)) (live_true (kind_at s format.index_file x) (in_used x m)))

  length-blocks : (xs : List ℕ) → length (flat_map block xs) ≡ 13 * length xs + length (flat_map entries_of xs)
  length-blocks [] = refl
  length-blocks (x ∷ xs) =
      let rest = length-blocks xs in
      let whole = length-append (block x) (flat_map block xs) in
      let inner = length-append (heads_in x) (entries_of x) in
      let heads = length-map (down 12) (heads_of s x) in
      let twelve = length-down 12 in
      let entries = length-append (entries_of x) (flat_map entries_of xs) in
      omega (arith, rest, whole, inner, heads, twelve, entries)

  -- The count of live records is thirteen for each definition, and one for each entry.
  pub index_count : (free : List ℕ) → IsSplit s format.index_file (is_live s format.index_file) free
      → (meta_in s format.index_file).live ≡ 13 * length ds + length (flat_map entries_of ds)
  index_count free split = split.exact ∙ blocks_are ∙ length-blocks ds
