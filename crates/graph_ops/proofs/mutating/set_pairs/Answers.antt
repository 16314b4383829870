use Rattle.std.proofs.Common.{inl, sym, subst, List}
use Rattle.plain_graph.specs.Forms.{IsKept}
use Rattle.plain_graph.specs.Names.{IsShortName}
use Rattle.plain_graph.specs.Reply.{Done}
use Rattle.plain_graph.specs.declared.command.Command.TheVariants as commands
use Rattle.plain_graph.specs.declared.pairs.Pair.{Pair}
use Rattle.change_parts.proofs.Assigned.{pair_form}
use Rattle.graph_ops.specs.Mutating.{IsListCaused, any_replies}
use Rattle.change_parts.proofs.Exits.{fault_exit}
use Rattle.plain_graph.specs.Mutations.{settings}
use Rattle.graph_ops.proofs.Parts.{making_more, next_exit, next_caused, one_caused, one_part, one_refused}
use Rattle.graph_ops.proofs.Spreading.{pairs_spread}
use Rattle.rec_bytes.proofs.Causes.{never_ok, ok_cause}
use Rattle.graph_ops.proofs.mutating.set_pairs.Goals as goal
use Rattle.store_rules.specs.Graph.{graph_in}

pub set-requires : goal.set-requires
set-requires g c = subst (λ (p : Pair). IsShortName p.key × IsKept p.value) (sym c.pair-item.is)
    (pair_form c.args.pairs.now c.loop-pair.pair-index c.pair-item.result c.requires c.loop-pair-test.true)

pub returns-in_err-more-clause-refused : goal.returns-in_err-more-clause-refused
returns-in_err-more-clause-refused g c told store =
    let inv = c.loop-pair.invariant in
    let t = g.S.Reads.state c.loop-pair.space in
    let target = c.args.target in
    let pair = c.pair-item.result in
    let fault = c.in_err-more.field-0.0 in
    next_exit (λ (pairs : List Pair). settings pairs target) (pairs_spread target) c.args.pairs.now c.loop-pair.pair-index pair pair c.loop-pair-test.true
    c.pair-item.is c.loop-pair.weight (g.S.Reads.state c.args.space.now) t c.args.names.now.names c.loop-pair.names.names fault c.from_residual.result told
    store inv.part
    inv.shape c.from_residual.ensures.1 (λ kept. one_refused t.shape.limit (graph_in t) (commands.Set target pair.key pair.value) fault
    (c.in_err-more.ensures.refused told kept))

pub loop-pair-preserved : goal.loop-pair-preserved
loop-pair-preserved g c =
    let inv = c.loop-pair.invariant in
    let s = g.S.Reads.state c.args.space.now in
    let t = g.S.Reads.state c.loop-pair.space in
    let u = g.S.Reads.state c.set.new.space in
    let target = c.args.target in
    let pair = c.pair-item.result in
    let before = c.loop-pair.names.names in
    let after = c.set.new.names.names in
    let made = c.in_ok-more.ensures in
    making_more (λ (pairs : List Pair). settings pairs target) (pairs_spread target) c.args.pairs.now c.loop-pair.pair-index pair pair c.loop-pair-test.true
    c.pair-item.is c.loop-pair.weight c.in_ok-more.more c.in_ok-both.both s t u c.args.names.now.names before after (g.S.Reads.faults c.args.space.now)
    (g.S.Reads.faults c.loop-pair.space) (g.S.Reads.faults c.set.new.space) c.in_ok-both.ensures.sum c.in_ok-both.ensures.few inv
    (one_part g.S.Reads.tells (commands.Set target pair.key pair.value) any_replies Done c.in_ok-more.more
    t u before after made.made made.gives made.light made.writes tt)
    c.set.ensures.prefix (g.met.S.Reads.onward_shape _ _ c.set.ensures.onward)
    (g.met.S.Reads.further_onward c.args.space.now c.loop-pair.space c.set.new.space inv.onward_is c.set.ensures.onward) c.set.ensures.cause.later
    (λ rs ts a each b. tt)

-- ---- why it is refused, by the space as it is left

pub returns-in_err-more-clause-caused_after : goal.returns-in_err-more-clause-caused_after
returns-in_err-more-clause-caused_after g c tells =
    let t = g.S.Reads.state c.set.new.space in
    let target = c.args.target in
    let pair = c.pair-item.result in
    let mid = c.loop-pair.names.names in
    let now = c.set.new.names.names in
    let fault = c.in_err-more.field-0.0 in
    next_caused (λ (pairs : List Pair). settings pairs target) (pairs_spread target) c.args.pairs.now c.loop-pair.pair-index pair pair c.loop-pair-test.true
    c.pair-item.is t c.args.names.now.names mid now fault c.from_residual.result c.loop-pair.invariant.prefix c.from_residual.ensures.1
    (one_caused (commands.Set target pair.key pair.value) t mid now fault c.set.ensures.prefix (c.in_err-more.ensures.caused_after tells))

pub returns-in_err-both-clause-caused_after : goal.returns-in_err-both-clause-caused_after
returns-in_err-both-clause-caused_after g c tells =
    let t = g.S.Reads.state c.set.new.space in
    fault_exit (λ f. f) (IsListCaused (settings c.args.pairs.now c.args.target) t c.args.names.now.names c.set.new.names.names) c.in_err-both.field-0.0
    c.from_residual-in_err-both.result c.from_residual-in_err-both.ensures.1 (inl c.in_err-both.ensures.memory)

pub returns-in_err-more-clause-part : goal.returns-in_err-more-clause-part
returns-in_err-more-clause-part g c = never_ok c.from_residual.result _ _ c.from_residual.ensures.1

pub returns-in_err-both-clause-part : goal.returns-in_err-both-clause-part
returns-in_err-both-clause-part g c = never_ok c.from_residual-in_err-both.result _ _ c.from_residual-in_err-both.ensures.1

pub returns-clause-cause : goal.returns-clause-cause
returns-clause-cause g c = ok_cause _ _ _ _ c.loop-pair.invariant.later
