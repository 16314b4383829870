use Rattle.std.proofs.lemmas.Result.{err_from_is_err_and}
use Rattle.std.proofs.Common.{◌≡◌, ◌∙◌, sym, subst, arith, rules}
use Rattle.store_rules.specs.Views.{kind_at}
use Rattle.id_freelist.specs.ListDamage.{BlamesList}
use Rattle.rec_bytes.specs.Format as format
use Rattle.prop_index.specs.Blaming.{TakeBlamesBroken as BlamesBroken}
use Rattle.prop_index.specs.Entering.{IsIndexFull}
use Rattle.prop_index.specs.Blaming.{TakeNamesIndexes}
use Rattle.prop_index.specs.Touching.{front_ids}
use Rattle.prop_index.proofs.DefinitionsStay.{made_graph}
use Rattle.prop_index.proofs.FillSteps.{elsewhere_of}
use Rattle.prop_index.proofs.IndexBlames.{take_has}
use Rattle.prop_index.proofs.IndexTouches.{front_index}
use Rattle.rec_bytes.proofs.Causes.{never_ok}
use Rattle.prop_index.proofs.entering.add_entry.Goals as goal

pub returns-in_err-put_in_front-clause-touches : goal.returns-in_err-put_in_front-clause-touches
returns-in_err-put_in_front-clause-touches g c = front_index 3 c.args.bucket.slot.id c.args.bucket.first _ _ (omega arith) c.in_err-put_in_front.ensures.touches

pub returns-clause-touches : goal.returns-clause-touches
returns-clause-touches g c = front_index 3 c.args.bucket.slot.id c.args.bucket.first _ _ (omega arith) c.in_ok-put_in_front.ensures.touches

pub returns-in_err-put_in_front-clause-damaged_after : goal.returns-in_err-put_in_front-clause-damaged_after
returns-in_err-put_in_front-clause-damaged_after g c tells =
    let t = g.S.Reads.state c.put_in_front.new.space in
    take_has (BlamesBroken t.records t.shape) c.from_residual.result c.in_err-put_in_front.field-0.0 c.from_residual.ensures.1
    (c.in_err-put_in_front.ensures.damaged_after tells)

pub returns-in_err-put_in_front-clause-names : goal.returns-in_err-put_in_front-clause-names
returns-in_err-put_in_front-clause-names g c tells = take_has TakeNamesIndexes c.from_residual.result c.in_err-put_in_front.field-0.0 c.from_residual.ensures.1
    (c.in_err-put_in_front.ensures.names tells)

pub returns-in_err-put_in_front-clause-crowded : goal.returns-in_err-put_in_front-clause-crowded
returns-in_err-put_in_front-clause-crowded g c tells =
    let t = g.S.Reads.state c.put_in_front.new.space in
    take_has (IsIndexFull t) c.from_residual.result c.in_err-put_in_front.field-0.0 c.from_residual.ensures.1 (c.in_err-put_in_front.ensures.crowded tells)

pub returns-in_err-put_in_front-clause-made : goal.returns-in_err-put_in_front-clause-made
returns-in_err-put_in_front-clause-made g c _ _ _ _ = never_ok c.from_residual.result _ _ c.from_residual.ensures.1

pub returns-in_err-put_in_front-clause-keeps : goal.returns-in_err-put_in_front-clause-keeps
returns-in_err-put_in_front-clause-keeps g c _ _ _ _ = never_ok c.from_residual.result _ _ c.from_residual.ensures.1

pub returns-in_err-put_in_front-clause-graph : goal.returns-in_err-put_in_front-clause-graph
returns-in_err-put_in_front-clause-graph g c _ _ _ _ = never_ok c.from_residual.result _ _ c.from_residual.ensures.1

pub returns-in_err-put_in_front-clause-counted : goal.returns-in_err-put_in_front-clause-counted
returns-in_err-put_in_front-clause-counted g c _ = never_ok c.from_residual.result _ _ c.from_residual.ensures.1

pub returns-in_err-put_in_front-clause-onward : goal.returns-in_err-put_in_front-clause-onward
returns-in_err-put_in_front-clause-onward g c = search rules

pub returns-in_err-put_in_front-clause-unwritten : goal.returns-in_err-put_in_front-clause-unwritten
returns-in_err-put_in_front-clause-unwritten g c = take_has _ c.from_residual.result c.in_err-put_in_front.field-0.0 c.from_residual.ensures.1
    c.in_err-put_in_front.ensures.unwritten

pub returns-clause-made : goal.returns-clause-made
returns-clause-made g c tells free head can right = (c.in_ok-put_in_front.field-0, c.in_ok-put_in_front.ensures.made tells free head right can)

pub returns-clause-keeps : goal.returns-clause-keeps
returns-clause-keeps g c tells store opened known = c.in_ok-put_in_front.ensures.keeps tells store opened.head opened.begins opened.place known

pub returns-in_err-put_in_front-clause-not_damaged : goal.returns-in_err-put_in_front-clause-not_damaged
returns-in_err-put_in_front-clause-not_damaged g c tells free can =
    let p = err_from_is_err_and c.from_residual.result c.from_residual.ensures.1 in
    rw (p.1, p.2) (c.in_err-put_in_front.ensures.not_damaged tells free can)

pub returns-in_err-put_in_front-clause-damaged : goal.returns-in_err-put_in_front-clause-damaged
returns-in_err-put_in_front-clause-damaged g c tells =
    take_has (BlamesList (g.S.Reads.state c.args.space.now) format.index_file) c.from_residual.result c.in_err-put_in_front.field-0.0
    c.from_residual.ensures.1 (c.in_err-put_in_front.ensures.damaged tells)

pub returns-clause-spares : goal.returns-clause-spares
returns-clause-spares g c tells opened =
    let head = opened.head.heads in
    let at = opened.place.is in
    c.in_ok-put_in_front.ensures.spares tells opened.head.heads opened.begins (omega (arith, at))

pub returns-in_err-put_in_front-clause-spares : goal.returns-in_err-put_in_front-clause-spares
returns-in_err-put_in_front-clause-spares g c _ _ = never_ok c.from_residual.result _ _ c.from_residual.ensures.1

pub returns-clause-graph : goal.returns-clause-graph
returns-clause-graph g c tells free opened can =
    let s = g.S.Reads.state c.args.space.now in
    let t = g.S.Reads.state c.put_in_front.new.space in
    let bucket = c.args.bucket in
    let id = c.in_ok-put_in_front.field-0 in
    let head = opened.head in
    let at = opened.place.is in
    made_graph s.records t.records id bucket.slot.id bucket.slot.place c.args.content.node c.args.content.hash
    (c.in_ok-put_in_front.ensures.made tells free head opened.begins can) head.heads
    (λ some. subst (λ x. kind_at s.records format.index_file x ≡ format.indexed) head.first_is (opened.begins (λ none. some (sym head.first_is ∙ none))))
    (omega (arith, at))
    (elsewhere_of g.S.Reads.tells s t (front_ids id bucket.slot.id bucket.first) tells c.in_ok-put_in_front.ensures.touched)
