use Rattle.std.proofs.Common.{arith, ◌≡◌, ◌≢◌, ◌<◌, ◌||◌, ◌∙◌, ℕ, List, Bool, true, false, length, get_or, set, nat_eq, ap, sym, subst, refl, ⊎_elim}
use Rattle.std.proofs.lemmas.List.{get_or-set_other, get_or-set_same, take_all}
use Rattle.record_lists.specs.Seen.{is_among, is_seen}
use Rattle.store_rules.specs.Properties.{AreOnce}
use Rattle.store_rules.proofs.NumberLaws.{eq_false, eq_true, nat_cases}
use Rattle.index_check.proofs.NodeLaws.{among_more, once_more, twice_met}
use Rattle.index_check.proofs.nodes.see_once.Goals as goal

-- one more is seen
seen_more : (seen : List Bool) (n p : ℕ) → n < length seen → is_seen (set seen n true) p ≡ (nat_eq p n || is_seen seen p)
seen_more seen n p lt = ⊎_elim
    (λ (e : p ≡ n). subst (λ z. is_seen (set seen n true) z ≡ (nat_eq z n || is_seen seen z)) (sym e) (get_or-set_same seen n true false lt ∙ sym
    (ap (λ b. b || is_seen seen n) (eq_true n n refl))))
    (λ (ne : p ≢ n). get_or-set_other seen n p true false ne ∙ sym (ap (λ b. b || is_seen seen p) (eq_false p n ne)))
    (nat_cases p n)

pub loop-number-init : goal.loop-number-init
loop-number-init c = record { told = λ p. c.requires.clear p; once = tt }

pub returns-then-seen-number-clause-twice : goal.returns-then-seen-number-clause-twice
returns-then-seen-number-clause-twice c =
    let n = get_or c.args.numbers.now c.loop-number.number-index 0 in
    twice_met n c.args.numbers.now c.loop-number.number-index c.loop-number-test.true refl (sym (c.loop-number.invariant.told n) ∙ c.if-seen-number.true)

pub loop-number-preserved : goal.loop-number-preserved
loop-number-preserved c =
    let numbers = c.args.numbers.now in
    let i = c.loop-number.number-index in
    let n = get_or numbers i 0 in
    record {
      told = λ p. seen_more c.loop-number.seen n p (let low = c.requires.low i 0 c.loop-number-test.true in omega (arith, low, c.loop-number.auto.seen))
          ∙ ap (λ b. nat_eq p n || b) (c.loop-number.invariant.told p) ∙ sym (among_more numbers i p c.loop-number-test.true);
      once = once_more numbers i c.loop-number-test.true c.loop-number.invariant.once (sym (c.loop-number.invariant.told n) ∙ c.if-seen-number.false);
    }

pub returns-clause-once : goal.returns-clause-once
returns-clause-once c =
    let numbers = c.args.numbers.now in
    subst AreOnce (take_all c.loop-number.number-index numbers (omega arith)) c.loop-number.invariant.once

pub returns-clause-seen : goal.returns-clause-seen
returns-clause-seen c = λ p.
    let numbers = c.args.numbers.now in
    c.loop-number.invariant.told p ∙ ap (λ ys. is_among ys p) (take_all c.loop-number.number-index numbers (omega arith))
