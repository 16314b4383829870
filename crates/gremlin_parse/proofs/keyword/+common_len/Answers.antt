use Rattle.std.proofs.Common.{◌≡◌, ◌≢◌, ◌∙◌, ℕ, ◌+◌, ◌<◌, ◌≤◌, nat_eq, cond, Bool, true, false, List, [], ◌∷◌, length, get_or, drop, ap, sym, refl, arith}
use Rattle.std.proofs.lemmas.Bool.Decides.{nat_tests}
use Rattle.std.proofs.lemmas.List.{take_rest}
use Rattle.gremlin_parse.specs.Keywords.{common}
use Rattle.gremlin_parse.proofs.keyword.+common_len.Goals as goal

no_word : (word run : List ℕ) → length word < 1 → common word run ≡ 0
no_word [] run none = refl
no_word (b ∷ word) run none = absurd (omega arith)

no_run : (word run : List ℕ) → length run < 1 → common word run ≡ 0
no_run [] run none = refl
no_run (b ∷ word) [] none = refl
no_run (b ∷ word) (d ∷ run) none = absurd (omega arith)

test_same : (a b : ℕ) → a ≡ b → nat_eq a b ≡ true
test_same a b same = grind (arith, nat_tests)

test_other : (a b : ℕ) → a ≢ b → nat_eq a b ≡ false
test_other a b other = grind (arith, nat_tests)

same_first : (word run : List ℕ) → 1 ≤ length word → 1 ≤ length run → get_or run 0 0 ≡ get_or word 0 0
    → common word run ≡ 1 + common (drop 1 word) (drop 1 run)
same_first [] run some one same = absurd (omega arith)
same_first (b ∷ word) [] some one same = absurd (omega arith)
same_first (b ∷ word) (d ∷ run) some one same = ap (λ (t : Bool). cond t (1 + common word run) 0) (test_same d b same)

other_first : (word run : List ℕ) → get_or run 0 0 ≢ get_or word 0 0 → common word run ≡ 0
other_first [] run other = refl
other_first (b ∷ word) [] other = refl
other_first (b ∷ word) (d ∷ run) other = ap (λ (t : Bool). cond t (1 + common word run) 0) (test_other d b other)

pub returns-in_default-clause-count : goal.returns-in_default-clause-count
returns-in_default-clause-count t c = sym (no_word c.args.word.now c.args.run.now c.in_default.len_below)

pub returns-in_default-run-clause-count : goal.returns-in_default-run-clause-count
returns-in_default-run-clause-count t c = sym (no_run c.args.word.now c.args.run.now c.in_default-run.len_below)

pub returns-then-other-byte-clause-count : goal.returns-then-other-byte-clause-count
returns-then-other-byte-clause-count t c =
    let word = c.args.word.now in
    let run = c.args.run.now in
    let same : get_or run 0 0 ≡ get_or word 0 0 = omega arith in
    let later : c.common_len.result ≡ common (drop 1 word) (drop 1 run) = rw (take_rest word 1, take_rest run 1) at c.common_len.ensures.count in
    ap (λ (n : ℕ). 1 + n) later ∙ sym (same_first word run c.in-len1-up.len_at_least c.in-len1-up-run.len_at_least same)

pub returns-else-other-byte-clause-count : goal.returns-else-other-byte-clause-count
returns-else-other-byte-clause-count t c =
    let other : get_or c.args.run.now 0 0 ≢ get_or c.args.word.now 0 0 = λ same. absurd (omega (arith, same)) in
    sym (other_first c.args.word.now c.args.run.now other)
