-- The blocks of texts as lines.
use Rattle.std.proofs.Common.{◌≡◌, ℕ, zero, suc, ◌+◌, ◌-◌, ◌<◌, ◌≤◌, List, [], ◌∷◌, map, length, get_or, sym, subst, arith}
use Rattle.std.specs.List.{fold, sum}
use Rattle.rec_bytes.specs.Format as format
use Rattle.store_rules.specs.Chains.{IsWalk}
use Rattle.store_rules.specs.Rules as rules
use Rattle.store_rules.specs.Views.{Records, high}
use Rattle.store_rules.specs.Breaking.{IsBlockList, block_size, first_block, next_block, text_size}
use Rattle.record_lists.specs.Lines.{IsLineIn}
use Rattle.store_check.specs.Pieces.{AreLengths}
use Rattle.store_check.specs.Texts.{block_line}
use Rattle.record_lists.proofs.LiveLaws.{line_from, live_from, walk_from}
use Rattle.store_rules.proofs.PropertyWalks.{walk_is}

fold_from : (a : ℕ) (xs : List ℕ) → fold ◌+◌ a xs ≡ a + fold ◌+◌ 0 xs
fold_from a [] = omega arith
fold_from a (x ∷ xs) = let l = fold_from (a + x) xs in let r = fold_from (0 + x) xs in omega arith

sum_cons : (x : ℕ) (xs : List ℕ) → sum (x ∷ xs) ≡ x + sum xs
sum_cons x xs = let r = fold_from (0 + x) xs in omega arith

-- pieces, one after another and by their lengths
pub pieces_of : (size : ℕ → ℕ) (n : ℕ) (xs : List ℕ) → AreLengths n (map size xs) → rules.ArePieces size n xs
pieces_of size n [] h = sym h.total
pieces_of size n (b ∷ []) h = let e = h.total in let c = h.count in (omega arith, omega arith, omega arith)
pieces_of size n (b ∷ c ∷ rest) h =
    let e = h.total in
    let k = h.count in
    let full = h.full 0 (omega arith) in
    let more : sum (map size (b ∷ c ∷ rest)) ≡ size b + sum (map size (c ∷ rest)) = sum_cons (size b) (map size (c ∷ rest)) in
    (full, omega arith, pieces_of size (n - 48) (c ∷ rest) (record { count = omega arith; full = λ i lt. h.full (suc i) (omega arith); total = omega arith }))

pub lengths_from : (size : ℕ → ℕ) (n : ℕ) (xs : List ℕ) → rules.ArePieces size n xs → AreLengths n (map size xs)
lengths_from size n [] h = record { count = omega (arith, h); full = λ k lt. absurd (omega arith); total = sym h }
lengths_from size n (b ∷ []) h = let e = h.0 in let low = h.1 in let most = h.2 in
    record { count = omega arith; full = λ k lt. absurd (omega arith); total = omega arith }
lengths_from size n (b ∷ c ∷ rest) h =
    let e = h.0 in
    let low = h.1 in
    let r = lengths_from size (n - 48) (c ∷ rest) h.2 in
    let count = r.count in
    let total = r.total in
    let more : sum (map size (b ∷ c ∷ rest)) ≡ size b + sum (map size (c ∷ rest)) = sum_cons (size b) (map size (c ∷ rest)) in
    record { count = omega arith; full = later e r; total = omega arith }
  where
    later : size b ≡ 48 → AreLengths (n - 48) (map size (c ∷ rest)) → (k : ℕ) → k + 1 < length (map size (b ∷ c ∷ rest))
        → get_or (map size (b ∷ c ∷ rest)) k 0 ≡ 48
    later e r zero lt = e
    later e r (suc k) lt = r.full k (omega arith)

module _ (records : Records) (p : ℕ) where
  abbrev pub IsIt : List ℕ → Type 0
  IsIt xs = IsLineIn block_line records (high records format.strings_file) (first_block records p) xs

  pub no_blocks : ((xs : List ℕ) → ¬ IsIt xs) → (xs : List ℕ) → ¬ IsBlockList records p xs
  no_blocks none xs h = none xs (line_from records format.strings_file format.block_next (first_block records p) xs h.walk h.live)

  module _ (room : high records format.strings_file ≤ format.most_ids) (xs : List ℕ) (it : IsIt xs) where
    its_walk : IsWalk (next_block records) (first_block records p) xs
    its_walk = walk_from records format.strings_file format.block_next (first_block records p) room xs it

    pub blocks_of : AreLengths (text_size records p) (map (block_size records) xs) → IsBlockList records p xs
    blocks_of l = record {
      walk = its_walk;
      live = live_from records format.strings_file format.block_next (first_block records p) room xs it;
      pieces = pieces_of (block_size records) (text_size records p) xs l;
    }

    pub wrong_blocks : ¬ AreLengths (text_size records p) (map (block_size records) xs) → (ys : List ℕ) → ¬ IsBlockList records p ys
    wrong_blocks bad ys h =
        let same = walk_is (next_block records) (first_block records p) ys xs h.walk its_walk in
        bad (lengths_from (block_size records) (text_size records p) xs (subst (rules.ArePieces (block_size records) (text_size records p)) same h.pieces))
