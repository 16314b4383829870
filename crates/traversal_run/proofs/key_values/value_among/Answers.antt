use Rattle.std.specs.Prelude.{IfOk}
use Rattle.std.proofs.Common.{◌≡◌, ◌∙◌, Option, List, ap, find, nat_eq, sym, subst, option_map}
use Rattle.plain_graph.specs.declared.value.Value.{Value}
use Rattle.prop_store.specs.declared.prop.Prop.{Prop as PropRow}
use Rattle.traversal_run.proofs.Owned.{value_is, value_none}
use Rattle.traversal_run.proofs.ValueOrder.{find-read}
use Rattle.traversal_run.proofs.key_values.value_among.Goals as goal

pub returns-in_default-clause-found : goal.returns-in_default-clause-found
returns-in_default-clause-found g c = λ store properties read.
    let s = g.R.Reads.state c.args.space.now in
    sym (value_none s.records s.shape store.store properties read.es read.known read.are c.args.key.now (c.in_default.ensures.finds store))

pub returns-clause-found : goal.returns-clause-found
returns-clause-found g c = λ store properties read.
    let s = g.R.Reads.state c.args.space.now in
    let is = ap (λ (props : List PropRow). option_map (λ (prop : PropRow). prop.value) (find (λ (prop : PropRow). nat_eq prop.key c.in-Some.number) props))
    read.read
    ∙ find-read c.in-Some.number read.es
    ∙ value_is s.records s.shape store.store properties read.es read.known read.are c.args.key.now c.in-Some.number c.in-Some.ensures.below
    (c.in-Some.ensures.finds store) in
    subst (λ (it : Option Value). IfOk c.value_numbered.result (λ value. value ≡ it)) is c.value_numbered.ensures.found
