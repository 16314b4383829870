-- A loop along the blocks of a text.
use Rattle.std.proofs.Common.{◌≡◌, ◌<◌, ◌+◌, ◌-◌, ◌/◌, ◌∙◌, ◌++◌, append_assoc, append-nil, ℕ, suc, List, [], ◌∷◌}
use Rattle.std.proofs.Common.{length, take, drop, flat_map, min, ap, sym, subst, arith, inl, refl, length-drop}
use Rattle.rec_bytes.specs.declared.record.Rec.{Rec}
use Rattle.rec_bytes.specs.Format as format
use Rattle.rec_bytes.specs.Record.{field, text_in}
use Rattle.store_rules.specs.Properties.{AreBlocks, followed, head_of, long_text_from, next_block, piece_of}
use Rattle.store_rules.specs.Views.{Records, rec_at}
use Rattle.prop_store.specs.Blocks.{HasBlockForm, HasText}
use Rattle.prop_store.specs.GivenOut.{AreGivenOut, IsGivenOut}
use Rattle.prop_store.proofs.Followed.{followed_one}

-- Of the text so many bytes are left, in blocks from this one on, and these and their bytes have a property.
pub record TextLeft (string_file : ℕ → Rec) (at left : ℕ) (P : List ℕ → List ℕ → Type 0) : Type 0 where
  pub text : List ℕ
  pub blocks : List ℕ
  pub has : HasText string_file at left text blocks
  pub kept : P text blocks

pub all_left : (string_file : ℕ → Rec) (first size : ℕ) (text blocks : List ℕ) (P : List ℕ → List ℕ → Type 0) → HasText string_file first size text blocks
    → P text blocks → TextLeft string_file first size P
all_left string_file first size text blocks P has kept = record { text = text; blocks = blocks; has = has; kept = kept }

-- the block at hand: its bytes are the next ones of the text
pub record BlockHere (string_file : ℕ → Rec) (at left : ℕ) (P : List ℕ → List ℕ → Type 0) : Type 0 where
  pub text : List ℕ
  pub later : List ℕ
  pub kept : P text (at ∷ later)
  pub form : HasBlockForm (string_file at) (min 48 left)
  pub piece : text_in (string_file at) format.block_text (min 48 left) ≡ take 48 text
  pub left_is : length text ≡ left
  pub next_is : field 4 (string_file at) format.block_next ≡ head_of later
  pub later_are : AreBlocks string_file (drop 48 text) later

pub block_here : (string_file : ℕ → Rec) (at left : ℕ) (P : List ℕ → List ℕ → Type 0) → 0 < left → TextLeft string_file at left P
    → BlockHere string_file at left P
block_here string_file at left P some l = open_here l.text l.blocks l.has.are l.has.size_is l.has.first_is l.kept
  where
    open_here : (text blocks : List ℕ) → AreBlocks string_file text blocks → length text ≡ left → at ≡ head_of blocks → P text blocks
        → BlockHere string_file at left P
    open_here text [] are size first kept = absurd (let none : length text ≡ 0 = ap (λ (xs : List ℕ). length xs) are in omega arith)
    open_here text (b ∷ bs) are size first kept =
        let long : min 48 (length text) ≡ min 48 left = ap (min 48) size in
        record {
          text = text;
          later = bs;
          kept = subst (λ z. P text (z ∷ bs)) (sym first) kept;
          form = record {
            kind = ap (λ z. field 1 (string_file z) format.kind) first ∙ are.0.kind;
            length_is = ap (λ z. field 1 (string_file z)
                format.block_length) first ∙ are.0.size ∙ long;
          };
          piece = ap (λ z. text_in (string_file z) format.block_text (min 48 left)) first ∙ ap (text_in (string_file b) format.block_text) (sym long)
              ∙ are.0.piece;
          left_is = size;
          next_is = ap (λ z. field 4 (string_file z) format.block_next) first ∙ are.0.next_is;
          later_are = are.1;
        }

-- after it, by what was read
pub text_after : (string_file : ℕ → Rec) (at left : ℕ) (P Q : List ℕ → List ℕ → Type 0) (here : BlockHere string_file at left P) (rec : Rec) (piece to : ℕ)
    → rec ≡ string_file at → piece ≡ min 48 left → to ≡ field 4 rec format.block_next → Q (drop 48 here.text) here.later
    → TextLeft string_file to (left - piece) Q
text_after string_file at left P Q here rec piece to rec_is piece_is to_is kept = record {
  text = drop 48 here.text;
  blocks = here.later;
  has = record {
    are = here.later_are;
    size_is = let l = here.left_is in omega (arith, length-drop 48 here.text);
    first_is = to_is ∙ ap (λ r. field 4 r format.block_next) rec_is ∙ here.next_is;
  };
  kept = kept;
}

-- at the end of the text no block is left
pub record TextOver (at : ℕ) (P : List ℕ → List ℕ → Type 0) : Type 0 where
  pub none : at ≡ format.nil
  pub kept : P [] []

pub text_over : (string_file : ℕ → Rec) (at left : ℕ) (P : List ℕ → List ℕ → Type 0) → left ≡ 0 → TextLeft string_file at left P → TextOver at P
text_over string_file at left P over l = open_over l.text l.blocks l.has.are l.has.size_is l.has.first_is l.kept
  where
    open_over : (text blocks : List ℕ) → AreBlocks string_file text blocks → length text ≡ left → at ≡ head_of blocks → P text blocks → TextOver at P
    open_over text [] are size first kept = record { none = first; kept = subst (λ z. P z []) are kept }
    open_over text (b ∷ bs) are size first kept = absurd (let some = are.0.some in omega arith)

-- the block at hand is right where all that are left were given out, also after reads
pub right_here : (records now : Records) (at left piece : ℕ) → now ≡ records → piece ≡ min 48 left
    → BlockHere (rec_at records format.strings_file) at left (λ text later. AreGivenOut records format.strings_file later)
    → IsGivenOut now format.strings_file at × HasBlockForm (rec_at now format.strings_file at) piece
right_here records now at left piece same piece_is here =
    subst (λ (r : Records). IsGivenOut r format.strings_file at × HasBlockForm (rec_at r format.strings_file at) piece) (sym same)
    (here.kept at (inl refl), record { kind = here.form.kind; length_is = here.form.length_is ∙ sym piece_is })

-- the bytes of the block at hand come after those so far, by what was read
pub piece_read : (string_file : ℕ → Rec) (so_far pushed whole bytes : List ℕ) (at left piece to : ℕ) (rec : Rec) → 0 < left → at < format.most_ids
    → rec ≡ string_file at → HasBlockForm rec piece → piece ≡ min 48 left
    → bytes ≡ text_in rec format.block_text piece → pushed ≡ so_far ++ bytes → to ≡ field 4 rec format.block_next
    → so_far ++ long_text_from string_file left at ≡ whole → pushed ++ long_text_from string_file (left - piece) to ≡ whole
piece_read string_file so_far pushed whole bytes at left piece to rec some low rec_is form piece_is bytes_are pushed_is to_is before =
    let next = next_block string_file in
    let pieces : List ℕ → List ℕ = flat_map (λ b. piece_of (string_file b)) in
    let more : (left + 47) / 48 ≡ suc ((left - piece + 47) / 48) = omega (arith, some, piece_is) in
    let mine : piece_of (string_file at) ≡ bytes = ap piece_of (sym rec_is) ∙ ap (text_in rec format.block_text) form.length_is ∙ sym bytes_are in
    let there : next at ≡ to = sym (to_is ∙ ap (λ r. field 4 r format.block_next) rec_is) in
    let whole_is : long_text_from string_file left at ≡ bytes ++ long_text_from string_file (left - piece) to
    = ap (λ n. pieces (followed n next at)) more ∙ ap pieces (followed_one ((left - piece + 47) / 48) next at (λ e. omega (arith, low, e)))
    ∙ ap (λ z. z ++ long_text_from string_file (left - piece) (next at)) mine ∙ ap (λ z. bytes ++ long_text_from string_file (left - piece) z) there in
    ap (λ z. z ++ long_text_from string_file (left - piece) to) pushed_is ∙ append_assoc so_far bytes (long_text_from string_file (left - piece) to)
    ∙ ap (λ z. so_far ++ z) (sym whole_is) ∙ before

-- no bytes of the text are left
pub text_read : (string_file : ℕ → Rec) (so_far whole : List ℕ) (at left : ℕ) → left ≡ 0 → so_far ++ long_text_from string_file left at ≡ whole → so_far ≡ whole
unfolding followed
text_read string_file so_far whole at left over before = sym (ap (λ n. so_far ++ long_text_from string_file n at) over ∙ append-nil so_far) ∙ before
