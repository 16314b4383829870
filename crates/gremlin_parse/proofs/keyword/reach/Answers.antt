use Rattle.std.specs.Borrow.{Bor}
use Rattle.std.specs.Ordering.{ord_max}
use Rattle.std.proofs.Common.{◌≡◌, ◌∙◌, ℕ, suc, ◌+◌, ◌<◌, max, List, length, get_or, drop, ap, sym, arith, rules, add-one, drop-cons, nat_cmp}
use Rattle.gremlin_parse.specs.Keywords.{common, reach, words_of}
use Rattle.gremlin_parse.proofs.keyword.reach.Goals as goal

larger : (a b : ℕ) → ord_max nat_cmp a b ≡ max a b
larger a b = search rules

-- how far the words of the table from one on reach
from_word : {K : Type 0} (table : List (Bor (List ℕ) × K)) (run : List ℕ) (i : ℕ) (item : Bor (List ℕ) × K) → i < length table → item ≡ get_or table i item
    → reach (words_of (drop i table)) run ≡ max (common item.0.now run) (reach (words_of (drop (i + 1) table)) run)
from_word {K} table run i item below is =
    ap (λ (l : List (Bor (List ℕ) × K)). reach (words_of l) run) (drop-cons table i item below)
    ∙ ap (λ (first : Bor (List ℕ) × K). max (common first.0.now run) (reach (words_of (drop (suc i) table)) run)) (sym is)
    ∙ ap (λ (n : ℕ). max (common item.0.now run) (reach (words_of (drop n table)) run)) (sym (add-one i))

pub loop-word-init : goal.loop-word-init
loop-word-init g c = record { most = omega arith; within = omega arith }

pub loop-word-preserved : goal.loop-word-preserved
loop-word-preserved g c =
    let from = from_word c.args.table.now c.args.run.now c.loop-word.word-index c.loop-word-item.result c.loop-word-test.true c.loop-word-item.is in
    let more = c.max-most.ensures ∙ larger c.loop-word.most c.common_len.result in
    record { most = omega (arith, from, more); within = omega (arith, more) }
