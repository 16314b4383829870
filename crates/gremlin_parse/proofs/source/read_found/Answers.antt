use Rattle.std.proofs.Common.{List, ℕ, sym, subst}
use Rattle.std.proofs.lemmas.Result.{err_from_is_err_and}
use Rattle.plain_graph.specs.declared.query.Source.TheVariants as origins
use Rattle.plain_graph.specs.declared.value.Value.{Value}
use Rattle.gremlin_parse.specs.Queries.{FoundLabel, LeadsTo, Quote, Steps, query_from}
use Rattle.gremlin_parse.specs.Values.{value_of}
use Rattle.gremlin_parse.proofs.FoundReads.{found_read, stop_after_label, stop_in_label, stop_in_pair}
use Rattle.gremlin_parse.proofs.Exits.{never_ok}
use Rattle.gremlin_parse.proofs.source.read_found.Goals as goal

-- the nodes that are found, from their label to the bytes after them
abbrev Leads : List ℕ → List ℕ → List ℕ → Value → List ℕ → Type 0
Leads bytes label key value rest = LeadsTo (Quote FoundLabel) bytes (Steps (query_from (origins.Found label key value))) rest

pub returns-in_err-label-clause-err : goal.returns-in_err-label-clause-err
returns-in_err-label-clause-err c =
    let p = err_from_is_err_and c.from_residual.result c.from_residual.ensures.1 in
    rw (p.1, p.2) (stop_in_label c.args.bytes.now c.in_err-label.field-0.0 c.in_err-label.ensures.err)

pub returns-in_err-at_key-clause-err : goal.returns-in_err-at_key-clause-err
returns-in_err-at_key-clause-err c =
    let p = err_from_is_err_and c.from_residual-in_err-at_key.result c.from_residual-in_err-at_key.ensures.1 in
    rw (p.1, p.2) (stop_after_label c.in_ok-label.label.now c.args.bytes.now c.in_ok-label.at_comma.now c.in_err-at_key.field-0.0 c.in_ok-label.ensures.ok
    c.in_err-at_key.ensures.err)

pub returns-in_err-key-clause-err : goal.returns-in_err-key-clause-err
returns-in_err-key-clause-err c =
    let p = err_from_is_err_and c.from_residual-in_err-key.result c.from_residual-in_err-key.ensures.1 in
    rw (p.1, p.2) (stop_in_pair c.in_ok-label.label.now c.args.bytes.now c.in_ok-label.at_comma.now c.in_ok-at_key.at_key.now c.in_err-key.field-0.0
    c.in_ok-label.ensures.ok c.in_ok-at_key.ensures.ok c.in_err-key.ensures.err)

pub returns-clause-ok : goal.returns-clause-ok
returns-clause-ok c =
    let read = found_read c.in_ok-label.label.now c.in_ok-key.key.now c.args.bytes.now c.in_ok-label.at_comma.now c.in_ok-at_key.at_key.now c.in_ok-key.rest.now
    (value_of c.in_ok-key.written) c.in_ok-label.ensures.ok c.in_ok-at_key.ensures.ok c.in_ok-key.ensures.ok in
    let labelled = subst (λ (label : List ℕ). Leads c.args.bytes.now label c.in_ok-key.key.now (value_of c.in_ok-key.written) c.in_ok-key.rest.now)
    (sym c.in_ok-label-2.ensures.ok) read in
    let keyed = subst (λ (key : List ℕ). Leads c.args.bytes.now c.in_ok-label-2.label key (value_of c.in_ok-key.written) c.in_ok-key.rest.now)
    (sym c.in_ok-key-2.ensures.ok) labelled in
    subst (λ (value : Value). Leads c.args.bytes.now c.in_ok-label-2.label c.in_ok-key-2.key value c.in_ok-key.rest.now) (sym c.in_ok-value.ensures.ok) keyed

pub returns-in_err-label-clause-ok : goal.returns-in_err-label-clause-ok
returns-in_err-label-clause-ok c = never_ok c.from_residual.result _ _ c.from_residual.ensures.1

pub returns-in_err-at_key-clause-ok : goal.returns-in_err-at_key-clause-ok
returns-in_err-at_key-clause-ok c = never_ok c.from_residual-in_err-at_key.result _ _ c.from_residual-in_err-at_key.ensures.1

pub returns-in_err-key-clause-ok : goal.returns-in_err-key-clause-ok
returns-in_err-key-clause-ok c = never_ok c.from_residual-in_err-key.result _ _ c.from_residual-in_err-key.ensures.1

pub returns-in_err-value-clause-ok : goal.returns-in_err-value-clause-ok
returns-in_err-value-clause-ok c = never_ok c.from_residual-in_err-value.result _ _ c.from_residual-in_err-value.ensures.1

pub returns-in_err-label-2-clause-ok : goal.returns-in_err-label-2-clause-ok
returns-in_err-label-2-clause-ok c = never_ok c.from_residual-in_err-label-2.result _ _ c.from_residual-in_err-label-2.ensures.1

pub returns-in_err-key-2-clause-ok : goal.returns-in_err-key-2-clause-ok
returns-in_err-key-2-clause-ok c = never_ok c.from_residual-in_err-key-2.result _ _ c.from_residual-in_err-key-2.ensures.1
