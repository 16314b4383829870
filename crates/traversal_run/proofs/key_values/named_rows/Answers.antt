use Rattle.std.proofs.Common.{◌≡◌, ◌<◌, map, ◌++◌, ◌∷◌, [], ap, ◌∙◌, sym, subst, rules}
use Rattle.std.proofs.lemmas.Iterator.Adapters.{YieldsList-from_vec}
use Rattle.std.proofs.lemmas.Iterator.Consumers.{YieldsList-end, YieldsList-turn}
use Rattle.std.proofs.lemmas.List.{map-append, map-id}
use Rattle.prop_store.specs.declared.prop.Prop.{Prop as PropRow}
use Rattle.traversal_run.specs.KeyValues.{entry_of, named_entry}
use Rattle.traversal_run.specs.Naming.{name_at, name_count}
use Rattle.rec_bytes.proofs.Causes.{never_ok}
use Rattle.traversal_run.proofs.key_values.named_rows.Goals as goal

pub loop-prop-preserved : goal.loop-prop-preserved
loop-prop-preserved c = λ records shape store all.
    let road = YieldsList-from_vec {s = c.into_iter-prop-iterator.result} c.args.props.items (search rules) (search rules) in
    let turn = YieldsList-turn road c.loop-prop.yielded c.loop-prop.prop-iterator c.loop-prop.yielded_by c.next.result c.next.new.self c.in-Some.prop
    c.in-Some.is c.next.ensures.steps in
    let low = subst (λ (prop : PropRow). prop.key < name_count records) (sym turn.1) (all _ c.in-Some.prop turn.0) in
    let name : c.text_of-key.result.now ≡ name_at records c.in-Some.prop.key = c.text_of-key.ensures.is records shape store low in
    let value : c.new-value.result ≡ c.in-Some.prop.value = c.new-value.ensures in
    ap (map entry_of) c.in_ok-push.ensures.items
    ∙ map-append entry_of c.loop-prop.rows.items _
    ∙ (λ i. c.loop-prop.invariant records shape store all i ++ (name i, value i) ∷ [])
    ∙ sym (map-append (named_entry records) c.loop-prop.yielded (c.in-Some.prop ∷ []))

pub returns : goal.returns
returns c = λ records shape store all.
    let road = YieldsList-from_vec {s = c.into_iter-prop-iterator.result} c.args.props.items (search rules) (search rules) in
    let end = YieldsList-end road c.loop-prop.yielded c.loop-prop.prop-iterator c.loop-prop.yielded_by c.next.result c.next.new.self c.in-None.is
    c.next.ensures.steps in
    c.loop-prop.invariant records shape store all ∙ ap (map (named_entry records)) (sym (map-id c.loop-prop.yielded) ∙ end.0)

pub returns-in_err-push : goal.returns-in_err-push
returns-in_err-push c _ _ _ _ = never_ok c.from_residual.result _ _ c.from_residual.ensures.1
