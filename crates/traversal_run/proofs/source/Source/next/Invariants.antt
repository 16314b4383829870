use Rattle.std.proofs.Common.{◌≡◌, ◌≤◌, ◌+◌, ◌-◌, ℕ, true}
use Rattle.store_rules.specs.Graph.{graph_of}
use Rattle.traversal_run.specs.Reading.{IsNamedStore, IsRead}
use Rattle.traversal_run.specs.Scan.{vertices_from}
use Rattle.traversal_run.specs.Source.{is_over, left_count, left_of}
use Rattle.traversal_run.specs.declared.source.Left.TheVariants.{From}
use Rattle.traversal_run.proofs.source.Source.next.Given as goal

abbrev pub invariant-loop-id : goal.invariant-loop-id
invariant-loop-id g l =
    let old = g.R.Reads.state l.fn.space in
    record {
      same : g.R.Reads.tells → IsNamedStore old.records old.shape l.names.names
          → left_of (graph_of old.records) l.self ≡ left_of (graph_of old.records) l.fn.self;
      edges : l.self.edges ≡ l.fn.self.edges;
      over : is_over l.self.left ≡ is_over l.fn.self.left;
      unread : is_over l.fn.self.left ≡ true → l.space ≡ l.fn.space;
      vertex : (at : ℕ) → l.fn.self ≡ vertices_from at → (next : ℕ) × (at ≤ next) × (l.self.left ≡ From next)
          × ((g.R.Reads.state l.space).reads ≤ old.reads + (next - at));
      spent : (g.R.Reads.state l.space).reads + left_count l.mark l.self.left ≤ old.reads + left_count l.mark l.fn.self.left;
      read : IsRead g.R.Reads l.fn.space l.space;
    }

abbrev pub decreases-loop-id : goal.decreases-loop-id
decreases-loop-id g l = left_count l.mark l.self.left
