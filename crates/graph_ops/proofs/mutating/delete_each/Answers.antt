use Rattle.std.proofs.Common.{[], get_or, inl, sym, arith, refl}
use Rattle.plain_graph.specs.declared.command.Command.TheVariants as commands
use Rattle.plain_graph.specs.declared.command.Target.TheVariants as targets
use Rattle.plain_graph.specs.Mutations.{deletions}
use Rattle.graph_ops.specs.Mutating.{IsListCaused, any_replies}
use Rattle.change_parts.proofs.Exits.{fault_exit}
use Rattle.graph_ops.proofs.Parts.{making_more, next_exit, next_caused, none_part, one_caused, one_refused}
use Rattle.graph_ops.proofs.Spreading.{deletions_spread}
use Rattle.store_rules.proofs.RowLaws.{append_none}
use Rattle.graph_ops.proofs.mutating.delete_each.Goals as goal
use Rattle.store_rules.specs.Graph.{graph_in}

pub returns-in_err-more-clause-refused : goal.returns-in_err-more-clause-refused
returns-in_err-more-clause-refused g c told store =
    let inv = c.loop-target.invariant in
    let t = g.S.Reads.state c.loop-target.space in
    let names = c.args.names.now.names in
    let i = c.loop-target.target-index in
    let target = get_or c.args.targets.now i (targets.Node 0) in
    let fault = c.in_err-more.field-0.0 in
    next_exit deletions deletions_spread c.args.targets.now i target (targets.Node 0) c.loop-target-test.true refl c.loop-target.weight
    (g.S.Reads.state c.args.space.now) t names names fault c.from_residual.result told store inv.part inv.shape c.from_residual.ensures.1
    (λ kept. one_refused t.shape.limit (graph_in t) (commands.Delete target) fault (c.in_err-more.ensures.refused told kept))

pub loop-target-init : goal.loop-target-init
loop-target-init g c =
    let s = g.S.Reads.state c.args.space.now in
    let names = c.args.names.now.names in
    record {
      part = none_part g.S.Reads.tells any_replies s names tt;
      prefix = ([], sym (append_none names));
      shape = refl;
      onward_is = g.met.S.Reads.stays_onward c.args.space.now;
      later = omega arith;
    }

pub loop-target-preserved : goal.loop-target-preserved
loop-target-preserved g c =
    let inv = c.loop-target.invariant in
    let names = c.args.names.now.names in
    let i = c.loop-target.target-index in
    let target = get_or c.args.targets.now i (targets.Node 0) in
    making_more deletions deletions_spread c.args.targets.now i target (targets.Node 0) c.loop-target-test.true refl c.loop-target.weight c.in_ok-more.more
    c.in_ok-both.both (g.S.Reads.state c.args.space.now) (g.S.Reads.state c.loop-target.space) (g.S.Reads.state c.delete.new.space) names names names
    (g.S.Reads.faults c.args.space.now) (g.S.Reads.faults c.loop-target.space) (g.S.Reads.faults c.delete.new.space) c.in_ok-both.ensures.sum
    c.in_ok-both.ensures.few inv c.in_ok-more.ensures.part ([], sym (append_none names)) (g.met.S.Reads.onward_shape _ _ c.delete.ensures.onward)
    (g.met.S.Reads.further_onward c.args.space.now c.loop-target.space c.delete.new.space inv.onward_is c.delete.ensures.onward) c.delete.ensures.cause.later
    (λ rs ts a each b. tt)

-- ---- why it is refused, by the space as it is left

pub returns-in_err-more-clause-caused_after : goal.returns-in_err-more-clause-caused_after
returns-in_err-more-clause-caused_after g c tells =
    let t = g.S.Reads.state c.delete.new.space in
    let names = c.args.names.now.names in
    let i = c.loop-target.target-index in
    let target = get_or c.args.targets.now i (targets.Node 0) in
    let fault = c.in_err-more.field-0.0 in
    next_caused deletions deletions_spread c.args.targets.now i target (targets.Node 0) c.loop-target-test.true refl t names names names fault
    c.from_residual.result ([], sym (append_none names)) c.from_residual.ensures.1
    (one_caused (commands.Delete target) t names names fault ([], sym (append_none names)) (c.in_err-more.ensures.caused_after tells))

pub returns-in_err-both-clause-caused_after : goal.returns-in_err-both-clause-caused_after
returns-in_err-both-clause-caused_after g c tells =
    let t = g.S.Reads.state c.delete.new.space in
    let names = c.args.names.now.names in
    fault_exit (λ f. f) (IsListCaused (deletions c.args.targets.now) t names names) c.in_err-both.field-0.0 c.from_residual-in_err-both.result
    c.from_residual-in_err-both.ensures.1 (inl c.in_err-both.ensures.memory)
