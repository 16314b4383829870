use Rattle.std.proofs.Common.{inl}
use Rattle.graph_ops.specs.Mutating.{IsListCaused}
use Rattle.change_parts.proofs.Exits.{fault_exit}
use Rattle.graph_ops.proofs.Parts.{making_more, next_exit, next_caused}
use Rattle.graph_ops.proofs.Spreading.{items_spread}
use Rattle.plain_graph.specs.Mutations.{changes_of}
use Rattle.plain_graph.specs.declared.mutation.Mutation.TheVariants as mutations
use Rattle.rec_bytes.proofs.Causes.{never_ok, ok_cause}
use Rattle.graph_ops.proofs.mutating.set_each.Goals as goal

pub returns-in_err-more-clause-refused : goal.returns-in_err-more-clause-refused
returns-in_err-more-clause-refused g c told store =
    let inv = c.loop-item.invariant in
    let pairs = c.args.pairs.now in
    let item = c.item-item.result in
    next_exit (changes_of (mutations.Property pairs)) (items_spread pairs) c.args.items.now c.loop-item.item-index item item c.loop-item-test.true
    c.item-item.is c.loop-item.weight (g.S.Reads.state c.args.space.now) (g.S.Reads.state c.loop-item.space) c.args.names.now.names c.loop-item.names.names
    c.in_err-more.field-0.0 c.from_residual.result told store inv.part inv.shape c.from_residual.ensures.1 (λ kept. c.in_err-more.ensures.refused told kept)

pub loop-item-preserved : goal.loop-item-preserved
loop-item-preserved g c =
    let inv = c.loop-item.invariant in
    let pairs = c.args.pairs.now in
    let item = c.item-item.result in
    making_more (changes_of (mutations.Property pairs)) (items_spread pairs) c.args.items.now c.loop-item.item-index item item c.loop-item-test.true
    c.item-item.is c.loop-item.weight c.in_ok-more.more c.in_ok-both.both (g.S.Reads.state c.args.space.now) (g.S.Reads.state c.loop-item.space)
    (g.S.Reads.state c.set_item.new.space) c.args.names.now.names c.loop-item.names.names c.set_item.new.names.names (g.S.Reads.faults c.args.space.now)
    (g.S.Reads.faults c.loop-item.space) (g.S.Reads.faults c.set_item.new.space) c.in_ok-both.ensures.sum c.in_ok-both.ensures.few inv
    c.in_ok-more.ensures.part c.set_item.ensures.prefix
    (g.met.S.Reads.onward_shape _ _ c.set_item.ensures.onward) (g.met.S.Reads.further_onward c.args.space.now c.loop-item.space c.set_item.new.space
    inv.onward_is c.set_item.ensures.onward) c.set_item.ensures.cause.later (λ rs ts a each b. tt)

-- ---- why it is refused, by the space as it is left

pub returns-in_err-more-clause-caused_after : goal.returns-in_err-more-clause-caused_after
returns-in_err-more-clause-caused_after g c tells =
    let t = g.S.Reads.state c.set_item.new.space in
    let pairs = c.args.pairs.now in
    let item = c.item-item.result in
    next_caused (changes_of (mutations.Property pairs)) (items_spread pairs) c.args.items.now c.loop-item.item-index item item c.loop-item-test.true
    c.item-item.is t c.args.names.now.names c.loop-item.names.names c.set_item.new.names.names c.in_err-more.field-0.0 c.from_residual.result
    c.loop-item.invariant.prefix c.from_residual.ensures.1 (c.in_err-more.ensures.caused_after tells)

pub returns-in_err-both-clause-caused_after : goal.returns-in_err-both-clause-caused_after
returns-in_err-both-clause-caused_after g c tells =
    let t = g.S.Reads.state c.set_item.new.space in
    fault_exit (λ f. f) (IsListCaused (changes_of (mutations.Property c.args.pairs.now) c.args.items.now) t c.args.names.now.names c.set_item.new.names.names)
    c.in_err-both.field-0.0 c.from_residual-in_err-both.result c.from_residual-in_err-both.ensures.1 (inl c.in_err-both.ensures.memory)

pub returns-in_err-more-clause-part : goal.returns-in_err-more-clause-part
returns-in_err-more-clause-part g c = never_ok c.from_residual.result _ _ c.from_residual.ensures.1

pub returns-in_err-both-clause-part : goal.returns-in_err-both-clause-part
returns-in_err-both-clause-part g c = never_ok c.from_residual-in_err-both.result _ _ c.from_residual-in_err-both.ensures.1

pub returns-clause-cause : goal.returns-clause-cause
returns-clause-cause g c = ok_cause _ _ _ _ c.loop-item.invariant.later
