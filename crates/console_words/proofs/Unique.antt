-- Words ask for one thing at most.
use Rattle.std.proofs.Common.{◌≡◌, ◌∙◌, ◌<◌, ℕ, Bool, true, false, zero, suc, arith, codes, refl, sym, ap, ap₂, subst}
use Rattle.std.proofs.Common.{List, [], ◌∷◌, ◌++◌, Option, Some, None, drop}
use Rattle.std.specs.Str.Parse.{digits_value, without_leading_plus}
use Rattle.clap.specs.Walk.{Row, Text, one_of}
use Rattle.console_words.specs.Numbers.{ReadsNumber}
use Rattle.console_words.specs.Words.{AsksFor, AsksForLines, AsksForRun, IsNumber}
use Rattle.console_words.specs.declared.asked.Asked.{Asked}
use Rattle.console_words.specs.declared.asked.Asked.TheVariants.{Follow, Run, Sample}
use Rattle.console_words.specs.declared.run_options.RunOptions.{RunOptions}
use Rattle.console_words.specs.declared.sample_options.SampleOptions.{SampleOptions}
use Rattle.console_words.proofs.Turns.{name_of}
use Rattle.console_words.proofs.Reading.{Use, rows_after_uses, spelled, words_of}
use Rattle.console_words.proofs.Asks.{RunAnswers, asks_back}

-- a text is read as one number
reads_one : (k : ℕ) (text : Option Text) (m n : Option ℕ) → ReadsNumber k text m → ReadsNumber k text n → m ≡ n
reads_one k None m n p q = p ∙ sym q
reads_one k (Some text) None None p q = refl
reads_one k (Some text) None (Some y) p q = absurd (p q.0)
reads_one k (Some text) (Some x) None p q = absurd (q p.0)
reads_one k (Some text) (Some x) (Some y) p q = ap Some (p.1 ∙ sym q.1)

answers_one : (rows : List Row) (a b : RunOptions) → RunAnswers rows a → RunAnswers rows b → a ≡ b
answers_one rows a b p q =
    let threshold : a.threshold ≡ b.threshold = reads_one 16 (one_of (name_of true) rows) a.threshold b.threshold p.threshold q.threshold in
    let limit : a.limit ≡ b.limit = reads_one 32 (one_of (name_of false) rows) a.limit b.limit p.limit q.limit in
    ap (λ (n : Option ℕ). record { threshold = n; limit = a.limit }) threshold ∙ ap (λ (n : Option ℕ). record { threshold = b.threshold; limit = n }) limit

differ : (a b : ℕ) → a < b → a ≡ b → ⊥
differ a b less same = omega arith

-- the byte at this place of the first word, and 0 behind its end
byte_at : ℕ → Text → ℕ
byte_at n [] = 0
byte_at zero (b ∷ bytes) = b
byte_at (suc n) (b ∷ bytes) = byte_at n bytes

byte_of : ℕ → List Text → ℕ
byte_of n [] = 0
byte_of n (word ∷ words) = byte_at n word

-- the first word tells which option is used first, and how
pub words_of-one : (us vs : List Use) → words_of us ≡ words_of vs → us ≡ vs
unfolding byte_of byte_at
words_of-one [] [] e = refl
words_of-one [] (v ∷ vs) e = starts v.is_joined v.which v.text e
  where
    starts : (joined which : Bool) (text : Text) → [] ≡ spelled joined which text ++ words_of vs → [] ≡ v ∷ vs
    starts true which text e = cc
    starts false which text e = cc
words_of-one (u ∷ us) [] e = starts u.is_joined u.which u.text e
  where
    starts : (joined which : Bool) (text : Text) → spelled joined which text ++ words_of us ≡ [] → u ∷ us ≡ []
    starts true which text e = cc
    starts false which text e = cc
words_of-one (u ∷ us) (v ∷ vs) e = starts u.is_joined u.which u.text refl v.is_joined v.which v.text refl e (words_of-one us vs)
  where
    starts : (joined which : Bool) (text : Text) → u ≡ record { which = which; text = text; is_joined = joined }
        → (joined2 which2 : Bool) (text2 : Text) → v ≡ record { which = which2; text = text2; is_joined = joined2 }
        → spelled joined which text ++ words_of us ≡ spelled joined2 which2 text2 ++ words_of vs
        → (words_of us ≡ words_of vs → us ≡ vs) → u ∷ us ≡ v ∷ vs
    starts true true text a true true text2 b e more =
        let same : words_of us ≡ words_of vs = cc in
        let rest = more same in
        cc
    starts true true text a true false text2 b e more = absurd (differ 108 116 (omega arith) (sym (ap (byte_of 2) e)))
    starts true true text a false true text2 b e more = absurd (differ 0 61 (omega arith) (sym (ap (byte_of 11) e)))
    starts true true text a false false text2 b e more = absurd (differ 108 116 (omega arith) (sym (ap (byte_of 2) e)))
    starts true false text a true true text2 b e more = absurd (differ 108 116 (omega arith) (ap (byte_of 2) e))
    starts true false text a true false text2 b e more =
        let same : words_of us ≡ words_of vs = cc in
        let rest = more same in
        cc
    starts true false text a false true text2 b e more = absurd (differ 108 116 (omega arith) (ap (byte_of 2) e))
    starts true false text a false false text2 b e more = absurd (differ 0 61 (omega arith) (sym (ap (byte_of 7) e)))
    starts false true text a true true text2 b e more = absurd (differ 0 61 (omega arith) (ap (byte_of 11) e))
    starts false true text a true false text2 b e more = absurd (differ 108 116 (omega arith) (sym (ap (byte_of 2) e)))
    starts false true text a false true text2 b e more =
        let same : words_of us ≡ words_of vs = cc in
        let rest = more same in
        cc
    starts false true text a false false text2 b e more = absurd (differ 108 116 (omega arith) (sym (ap (byte_of 2) e)))
    starts false false text a true true text2 b e more = absurd (differ 108 116 (omega arith) (ap (byte_of 2) e))
    starts false false text a true false text2 b e more = absurd (differ 0 61 (omega arith) (ap (byte_of 7) e))
    starts false false text a false true text2 b e more = absurd (differ 108 116 (omega arith) (ap (byte_of 2) e))
    starts false false text a false false text2 b e more =
        let same : words_of us ≡ words_of vs = cc in
        let rest = more same in
        cc

run_one : (words : List Text) (a b : RunOptions) → AsksForRun words a → AsksForRun words b → a ≡ b
run_one words a b p q =
    let first = asks_back words a p in
    let second = asks_back words b q in
    let whole : first.name ∷ codes "run" ∷ first.rest ≡ second.name ∷ codes "run" ∷ second.rest = sym first.words_are ∙ second.words_are in
    let rest : first.rest ≡ second.rest = cc in
    let same : first.passes.uses ≡ second.passes.uses = words_of-one _ _ (sym first.passes.words_are ∙ (rest ∙ second.passes.words_are)) in
    answers_one (rows_after_uses second.passes.uses []) a b (subst (λ us. RunAnswers (rows_after_uses us []) a) same first.passes.answers) second.passes.answers

-- a text is one number
one_number : (text text2 : Text) (m n : ℕ) → IsNumber text m → IsNumber text2 n → text ≡ text2 → m ≡ n
one_number text text2 m n p q e = sym p.1 ∙ (ap (λ t. digits_value 10 (without_leading_plus t)) e ∙ q.1)

lines_one : (word : Text) (most : ℕ) (words : List Text) (a b : SampleOptions) → AsksForLines word most words a → AsksForLines word most words b → a ≡ b
lines_one word most words a b p q =
    let whole : p.name ∷ word ∷ p.seed_text ∷ p.count_text ∷ [] ≡ q.name ∷ word ∷ q.seed_text ∷ q.count_text ∷ [] = sym p.are ∙ q.are in
    let seed_text : p.seed_text ≡ q.seed_text = cc in
    let count_text : p.count_text ≡ q.count_text = cc in
    let seed : a.seed ≡ b.seed = one_number p.seed_text q.seed_text a.seed b.seed p.seed.number q.seed.number seed_text in
    let count : a.count ≡ b.count = one_number p.count_text q.count_text a.count b.count p.count.number q.count.number count_text in
    ap₂ (λ (m n : ℕ). record { seed = m; count = n }) seed count

-- the word after the name is not `run`
run_is_no_sample : (word : Text) (most : ℕ) → (byte_at 0 word ≡ 114 → ⊥) → (words : List Text) (a : RunOptions) (b : SampleOptions) → AsksForRun words a
    → AsksForLines word most words b → ⊥
unfolding byte_of byte_at
run_is_no_sample word most other words a b p q =
    let run = asks_back words a p in
    let whole : run.name ∷ codes "run" ∷ run.rest ≡ q.name ∷ word ∷ q.seed_text ∷ q.count_text ∷ [] = sym run.words_are ∙ q.are in
    other (sym (ap (λ ws. byte_of 0 (drop 1 ws)) whole))

sample_no_run : byte_at 0 (codes "sample") ≡ 114 → ⊥
unfolding byte_at
sample_no_run e = differ 114 115 (omega arith) (sym e)

follow_no_run : byte_at 0 (codes "follow") ≡ 114 → ⊥
unfolding byte_at
follow_no_run e = differ 102 114 (omega arith) e

sample_is_no_follow : (words : List Text) (a b : SampleOptions) → AsksForLines (codes "sample") 20000 words a → AsksForLines (codes "follow") 2000 words b → ⊥
unfolding byte_of byte_at
sample_is_no_follow words a b p q =
    let whole : p.name ∷ codes "sample" ∷ p.seed_text ∷ p.count_text ∷ [] ≡ q.name ∷ codes "follow" ∷ q.seed_text ∷ q.count_text ∷ [] = sym p.are ∙ q.are in
    differ 102 115 (omega arith) (sym (ap (λ ws. byte_of 0 (drop 1 ws)) whole))

pub asks_one : (words : List Text) (a b : Asked) → AsksFor words a → AsksFor words b → a ≡ b
asks_one words (Run a) (Run b) p q = ap Run (run_one words a b p q)
asks_one words (Run a) (Sample b) p q = absurd (run_is_no_sample (codes "sample") 20000 sample_no_run words a b p q)
asks_one words (Run a) (Follow b) p q = absurd (run_is_no_sample (codes "follow") 2000 follow_no_run words a b p q)
asks_one words (Sample a) (Run b) p q = absurd (run_is_no_sample (codes "sample") 20000 sample_no_run words b a q p)
asks_one words (Sample a) (Sample b) p q = ap Sample (lines_one (codes "sample") 20000 words a b p q)
asks_one words (Sample a) (Follow b) p q = absurd (sample_is_no_follow words a b p q)
asks_one words (Follow a) (Run b) p q = absurd (run_is_no_sample (codes "follow") 2000 follow_no_run words b a q p)
asks_one words (Follow a) (Sample b) p q = absurd (sample_is_no_follow words b a q p)
asks_one words (Follow a) (Follow b) p q = ap Follow (lines_one (codes "follow") 2000 words a b p q)
