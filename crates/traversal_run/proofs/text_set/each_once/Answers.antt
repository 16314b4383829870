use Rattle.std.proofs.Common.{◌≡◌, ◌++◌, ◌∷◌, [], ap, sym, ◌∙◌, not, nat_eq, cond, Vec}
use Rattle.std.specs.declared.alloc.Global.{Global}
use Rattle.std.specs.List.{list_any}
use Rattle.std.specs.Cmp.Lexicographic.{pointwise}
use Rattle.std.proofs.lemmas.List.{append-nil}
use Rattle.plain_graph.specs.Meaning.{texts_once}
use Rattle.plain_graph.specs.declared.text.Text.{Text}
use Rattle.traversal_run.proofs.Texts.{texts_once-step}
use Rattle.rec_bytes.proofs.Causes.{never_ok}
use Rattle.traversal_run.proofs.text_set.each_once.Goals as goal
use Rattle.traversal_run.proofs.text_set.each_once.Goals.{then-branch+in_ok-push_copy, else-branch}

pub loop-text-preserved : goal.loop-text-preserved
loop-text-preserved c =
    let text = c.text-item.result in
    let set = c.loop-text.set in
    let is_new = c.in_ok-add_copy.field-0 in
    let is : is_new ≡ not (list_any (pointwise nat_eq text) set) = c.in_ok-add_copy.ensures.is_new in
    let kept : c.add_copy.new.set ≡ cond is_new (set ++ text ∷ []) set = c.in_ok-add_copy.ensures.added in
    let taken = c.loop-text.distinct.items in
    let now : c.if-branch.distinct.items ≡ taken ++ cond is_new (text ∷ []) [] =
    elim c.if-branch.branch [
      | then-branch+in_ok-push_copy w ↦
          ap (λ (v : Vec Text Global). v.items) w.distinct-is ∙ w.in_ok-push_copy.ensures
          ∙ ap (λ b. taken ++ cond b (text ∷ []) []) (sym w.if-branch.true)
      | else-branch w ↦ ap (λ (v : Vec Text Global). v.items) w.distinct-is ∙ sym (append-nil taken)
          ∙ ap (λ b. taken ++ cond b (text ∷ []) []) (sym w.if-branch.false)
    ] in
    texts_once-step taken c.if-branch.distinct.items set c.add_copy.new.set c.args.texts.now (texts_once [] c.args.texts.now) c.loop-text.text-index text text
    is_new c.loop-text-test.true c.text-item.is is kept now c.loop-text.invariant

pub returns-in_err-add_copy : goal.returns-in_err-add_copy
returns-in_err-add_copy c = never_ok c.from_residual.result _ _ c.from_residual.ensures.1

pub returns-in_err-push_copy : goal.returns-in_err-push_copy
returns-in_err-push_copy c = never_ok c.from_residual-in_err-push_copy.result _ _ c.from_residual-in_err-push_copy.ensures.1
