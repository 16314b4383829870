use Rattle.std.proofs.Common.{◌≡◌, ◌<◌, ◌+◌, ◌++◌, ◌∙◌, [], All, Option, ℕ, List, Vec, Global, take, nat_eq, ap, sym, subst}
use Rattle.std.specs.List.{cons_option, list_any}
use Rattle.std.proofs.lemmas.List.{append-nil}
use Rattle.traversal_run.specs.Naming.{FindsNames, name_count}
use Rattle.traversal_run.proofs.TypeNumbers.{all_found, all_none, numbers_more}
use Rattle.rec_bytes.proofs.Causes.{never_ok}
use Rattle.traversal_run.proofs.naming.numbers_of.Goals as goal
use Rattle.traversal_run.proofs.naming.numbers_of.Goals.{in-Some+in_ok-push, in_default}

pub loop-text-init : goal.loop-text-init
loop-text-init g c =
    let s = g.R.Reads.state c.args.space.now in
    record {
      finds = λ store number lt. ap (λ (list : List ℕ). list_any (nat_eq number) list) c.new-numbers.ensures.items;
      below = subst (All (λ number. number < name_count s.records)) (sym c.new-numbers.ensures.items) (all_none (λ number. number < name_count s.records));
    }

pub loop-text-preserved : goal.loop-text-preserved
loop-text-preserved g c =
    let s = g.R.Reads.state c.args.space.now in
    let i = c.loop-text.text-index in
    let old = c.loop-text.numbers.items in
    let found = c.text_number.result in
    let items : c.match-text_number.numbers.items ≡ old ++ cons_option found [] = elim c.match-text_number.branch [
      | in-Some+in_ok-push w ↦ ap (λ (list : Vec ℕ Global). list.items) w.numbers-is ∙ w.in_ok-push.ensures.items
          ∙ ap (λ (o : Option ℕ). old ++ cons_option o []) (sym w.in-Some.is)
      | in_default w ↦ ap (λ (list : Vec ℕ Global). list.items) w.numbers-is ∙ sym (append-nil old)
          ∙ ap (λ (o : Option ℕ). old ++ cons_option o []) (sym w.in_default.is)
    ] in
    record {
      finds = λ store.
          subst (λ (list : List ℕ). FindsNames s.records list (take (i + 1) c.args.texts.now)) (sym items)
          (numbers_more s.records old c.args.texts.now i c.text-item.result found c.loop-text-test.true c.text-item.is
          (c.text_number.ensures.finds store) (c.loop-text.invariant.finds store));
      below = subst (All (λ number. number < name_count s.records)) (sym items)
          (all_found (λ number. number < name_count s.records) old found c.loop-text.invariant.below c.text_number.ensures.below);
    }

pub returns-in_err-push-clause-finds : goal.returns-in_err-push-clause-finds
returns-in_err-push-clause-finds g c _ = never_ok c.from_residual.result _ _ c.from_residual.ensures.1

pub returns-in_err-push-clause-below : goal.returns-in_err-push-clause-below
returns-in_err-push-clause-below g c = never_ok c.from_residual.result _ _ c.from_residual.ensures.1
