use Rattle.std.specs.Borrow.{Bor}
use Rattle.std.specs.Cmp.Lexicographic.{pointwise}
use Rattle.std.proofs.Common.{◌≡◌, ◌∙◌, ℕ, suc, ◌+◌, ◌<◌, nat_eq, cond, Bool, Some, List, length, get_or, drop, ap, sym, refl, add-one, drop-cons}
use Rattle.gremlin_parse.specs.Keywords.{lookup, words_of}
use Rattle.gremlin_parse.proofs.keyword.lookup.Goals as goal

-- what the table has from a word on
from_word : {K : Type 0} (table : List (Bor (List ℕ) × K)) (run : List ℕ) (i : ℕ) (item : Bor (List ℕ) × K) → i < length table → item ≡ get_or table i item
    → lookup (words_of (drop i table)) run
    ≡ cond (pointwise nat_eq item.0.now run) (Some item.1) (lookup (words_of (drop (i + 1) table)) run)
from_word {K} table run i item below is =
    ap (λ (l : List (Bor (List ℕ) × K)). lookup (words_of l) run) (drop-cons table i item below)
    ∙ ap (λ (first : Bor (List ℕ) × K). cond (pointwise nat_eq first.0.now run) (Some first.1) (lookup (words_of (drop (suc i) table)) run)) (sym is)
    ∙ ap (λ (n : ℕ). cond (pointwise nat_eq item.0.now run) (Some item.1) (lookup (words_of (drop n table)) run)) (sym (add-one i))

pub loop-word-init : goal.loop-word-init
loop-word-init g c = refl

pub loop-word-preserved : goal.loop-word-preserved
loop-word-preserved g c =
    let table = c.args.table.now in
    let run = c.args.run.now in
    let item = c.loop-word-item.result in
    let rest = lookup (words_of (drop (c.loop-word.word-index + 1) table)) run in
    sym (from_word table run c.loop-word.word-index item c.loop-word-test.true c.loop-word-item.is
    ∙ ap (λ (b : Bool). cond b (Some item.1) rest) (sym c.eq.ensures ∙ c.if-eq.false)) ∙ c.loop-word.invariant
