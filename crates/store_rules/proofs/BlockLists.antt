-- What is known of the blocks of a text, by the rules and by `AreBlocks`.
use Rattle.std.specs.Prelude.{min}
use Rattle.std.specs.List.{flat_map}
use Rattle.std.proofs.Common.{◌≡◌, ℕ, ◌+◌, ◌-◌, ◌<◌, ◌≤◌, ◌/◌, List, [], ◌∷◌, ◌++◌, length, take, drop, sym, ap, ◌∙◌, subst, inl, inr, ⊎_elim, arith, refl}
use Rattle.std.proofs.lemmas.List.{drop_at, drop_all, length-append, length-drop, take-append-drop, take_all, take_at, append-nil}
use Rattle.std.proofs.lemmas.Bool.{cases_lt}
use Rattle.rec_bytes.specs.declared.record.Rec.{Rec}
use Rattle.rec_bytes.specs.Format as format
use Rattle.rec_bytes.specs.Record.{field, text_in}
use Rattle.rec_bytes.proofs.Texts.{length-text_in}
use Rattle.store_rules.specs.Chains.{In, IsWalk}
use Rattle.store_rules.specs.Properties.{AreBlocks, IsBlock, block_ids, head_of, long_text_from, next_block, piece_of}
use Rattle.store_rules.specs.Rules.{ArePieces}
use Rattle.store_rules.proofs.ChainLaws.{followed-walk}

module _ (string_file : ℕ → Rec) where
  -- the pieces of the blocks, one after the other
  abbrev pub pieces : List ℕ → List ℕ
  pieces bs = flat_map (λ b. piece_of (string_file b)) bs

  -- the length that a block's record says
  abbrev sizes : ℕ → ℕ
  sizes b = field 1 (string_file b) format.block_length

  -- a block of a right length has the first bytes of what it and the later ones have
  first_block : (b size next : ℕ) (rest : List ℕ) → sizes b ≡ size → 0 < size → size ≤ 48 → (size < 48 → rest ≡ []) → b < format.most_ids
      → field 1 (string_file b) format.kind ≡ format.block
      → next_block string_file b ≡ next → IsBlock string_file (piece_of (string_file b) ++ rest) b next × (drop 48 (piece_of (string_file b) ++ rest) ≡ rest)
      × (length (piece_of (string_file b)) ≡ size)
  first_block b size next rest is some most last low kind next_is = (
    record {
      low = low;
      some = let l = both in omega arith;
      kind = kind;
      size = is ∙ sym least;
      piece = ap (text_in (string_file b) format.block_text) (least ∙ sym is) ∙ sym parts.0;
      next_is = next_is;
    },
    parts.1,
    long,
  )
    where
      long : length (piece_of (string_file b)) ≡ size
      long = length-text_in (string_file b) format.block_text (sizes b) (omega arith) ∙ is

      both : length (piece_of (string_file b) ++ rest) ≡ size + length rest
      both = length-append (piece_of (string_file b)) rest ∙ ap (λ n. n + length rest) long

      parts : (take 48 (piece_of (string_file b) ++ rest) ≡ piece_of (string_file b)) × (drop 48 (piece_of (string_file b) ++ rest) ≡ rest)
      parts = ⊎_elim
          (λ (lt : size < 48).
          let none = last lt in
          let l = long in
          let alone : piece_of (string_file b) ++ rest ≡ piece_of (string_file b) = ap (λ xs. piece_of (string_file b) ++ xs) none
          ∙ append-nil (piece_of (string_file b)) in (
            ap (take 48) alone ∙ take_all 48 (piece_of (string_file b)) (omega arith),
            ap (drop 48) alone ∙ drop_all 48 (piece_of (string_file b)) (omega arith)
                ∙ sym none,
          ))
          (λ (ge : 48 ≤ size).
          let l = long in
          let full : length (piece_of (string_file b)) ≡ 48 = omega arith in
          (take_at (piece_of (string_file b)) rest 48 full, drop_at (piece_of (string_file b)) rest 48 full))
          (cases_lt size 48)

      least : min 48 (length (piece_of (string_file b) ++ rest)) ≡ size
      least = ⊎_elim
          (λ (lt : size < 48). let n : length rest ≡ 0 = ap length (last lt) in let l = both in omega arith)
          (λ (ge : 48 ≤ size). let l = both in omega arith) (cases_lt size 48)

  -- what a rule says of a block that is in use
  abbrev pub IsKnown : ℕ → Type 0
  IsKnown b = (b < format.most_ids) × (field 1 (string_file b) format.kind ≡ format.block)

  -- blocks of right lengths, each of which leads to the next, have the text of their pieces
  pub blocks_right : (size : ℕ) (from : ℕ) (bs : List ℕ) → ArePieces sizes size bs → IsWalk (next_block string_file) from bs → ((b : ℕ) → In b bs → IsKnown b)
      → AreBlocks string_file (pieces bs) bs × (length (pieces bs) ≡ size)
  blocks_right size from [] are walk known = (refl, sym are)
  blocks_right size from (b ∷ []) are walk known =
      let k = known b (inl refl) in
      let f = first_block b size format.nil [] are.0 are.1 are.2 (λ _. refl) k.0 k.1 walk.2 in
      let n = length-append (piece_of (string_file b)) [] in
      let l = f.2 in
      ((f.0, f.1), omega arith)
  blocks_right size from (b ∷ c ∷ rest) are walk known =
      let k = known b (inl refl) in
      let later = blocks_right (size - 48) (next_block string_file b) (c ∷ rest) are.2 walk.2 (λ x i. known x (inr i)) in
      let f = first_block b 48 c (pieces (c ∷ rest)) are.0 (omega arith) (omega arith) (λ lt. absurd (omega arith)) k.0 k.1 walk.2.0 in
      let n = length-append (piece_of (string_file b)) (pieces (c ∷ rest)) in
      let l = f.2 in
      let m = later.1 in
      let more = are.1 in
      ((f.0, subst (λ text. AreBlocks string_file text (c ∷ rest)) (sym f.1) later.0), omega arith)

  -- how many blocks a text of so many bytes has
  pub length-pieces : (size : ℕ) (bs : List ℕ) → ArePieces sizes size bs → length bs ≡ (size + 47) / 48
  length-pieces size [] are = omega arith
  length-pieces size (b ∷ []) are = let some = are.1 in let most = are.2 in omega arith
  length-pieces size (b ∷ c ∷ rest) are = let more = are.1 in let e = length-pieces (size - 48) (c ∷ rest) are.2 in omega arith

  -- ---- blocks that have a text

  -- as many blocks as the text takes
  pub length-blocks : (text bs : List ℕ) → AreBlocks string_file text bs → length bs ≡ (length text + 47) / 48
  length-blocks text [] are = let e = ap length are in omega arith
  length-blocks text (b ∷ bs) are = let some = are.0.some in let e = length-blocks (drop 48 text) bs are.1 in let d = length-drop 48 text in omega arith

  -- each leads to the next
  pub blocks_walk : (text bs : List ℕ) → AreBlocks string_file text bs → IsWalk (next_block string_file) (head_of bs) bs
  blocks_walk text [] are = refl
  blocks_walk text (b ∷ bs) are = (
    refl,
    (λ e. let low = are.0.low in omega arith),
    subst (λ z. IsWalk (next_block string_file) z bs) (sym are.0.next_is)
        (blocks_walk (drop 48 text) bs are.1),
  )

  -- their pieces are the text
  pub blocks_text : (text bs : List ℕ) → AreBlocks string_file text bs → pieces bs ≡ text
  blocks_text text [] are = sym are
  blocks_text text (b ∷ bs) are =
      ap (λ n. text_in (string_file b) format.block_text n ++ pieces bs) are.0.size ∙ ap (λ xs. xs ++ pieces bs) are.0.piece
      ∙ ap (λ xs. take 48 text ++ xs) (blocks_text (drop 48 text) bs are.1) ∙ take-append-drop 48 text

  -- a text has no blocks where it has no bytes
  pub no_blocks : (bs : List ℕ) → AreBlocks string_file [] bs → bs ≡ []
  no_blocks [] are = refl
  no_blocks (b ∷ bs) are = absurd (let some = are.0.some in omega arith)

  -- so the blocks are those that the links lead through
  pub block_ids-blocks : (text bs : List ℕ) → AreBlocks string_file text bs → block_ids string_file (length text) (head_of bs) ≡ bs
  block_ids-blocks text bs are =
      let n = length-blocks text bs are in
      followed-walk ((length text + 47) / 48) (next_block string_file) (head_of bs) bs (blocks_walk text bs are) (omega arith)

  -- and the text is the one that is read
  pub long_text_from-blocks : (text bs : List ℕ) → AreBlocks string_file text bs → long_text_from string_file (length text) (head_of bs) ≡ text
  long_text_from-blocks text bs are = ap pieces (block_ids-blocks text bs are) ∙ blocks_text text bs are
