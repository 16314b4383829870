use Rattle.std.proofs.Common.{◌≡◌, ◌++◌, take}
use Rattle.std.specs.List.{AllByRecursion}
use Rattle.plain_graph.specs.Forms.{IsShown}
use Rattle.plain_graph.specs.Mutations.{changes_of, new_elements}
use Rattle.rec_bytes.specs.Format as format
use Rattle.graph_ops.specs.Mutating.{steps_for}
use Rattle.graph_ops.specs.NewIds.{ShowsIds}
use Rattle.graph_ops.proofs.Parts.{IsMaking}
use Rattle.graph_ops.proofs.mutating.add_edges.Given as goal

abbrev pub invariant-loop-item : goal.invariant-loop-item
invariant-loop-item g l =
    let commands = changes_of (steps_for l.edge) (take l.item-index l.items) in
    record {
      making : IsMaking g.S.Reads.tells (g.S.Reads.onward l.fn.space l.space) commands
          (λ replies. l.shown.items ≡ l.fn.shown.items ++ new_elements commands replies) l.weight (g.S.Reads.state l.fn.space) (g.S.Reads.state l.space)
          l.fn.names.names l.names.names (g.S.Reads.faults l.fn.space)
          (g.S.Reads.faults l.space);
      ids : g.S.Reads.tells → ShowsIds (g.S.Reads.state l.fn.space).records (g.S.Reads.state l.space).records format.relationships_file l.fn.shown.items
          l.shown.items;
      lines : AllByRecursion IsShown l.fn.shown.items → AllByRecursion IsShown l.shown.items;
    }
