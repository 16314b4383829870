use Rattle.std.proofs.Common.{◌≡◌, ℕ}
use Rattle.store_rules.specs.Graph.{graph_of}
use Rattle.traversal_run.specs.Held.{HasDegreesUpTo, IsNear, IsWithin}
use Rattle.traversal_run.specs.Owing.{Spends, owed}
use Rattle.traversal_run.specs.Reading.{IsNamedStore, IsRead}
use Rattle.traversal_run.specs.Run.{still_allowed, to_come}
use Rattle.traversal_run.specs.Scan.{IsScan}
use Rattle.traversal_run.proofs.Scans.{ScanState}
use Rattle.traversal_run.proofs.HopRuns.{HopState}
use Rattle.traversal_run.proofs.run.Run.go_on.Given as goal

abbrev pub invariant-loop : goal.invariant-loop
invariant-loop g l =
    let old = g.R.Reads.state l.fn.space in
    record {
      same : g.R.Reads.tells → IsNamedStore old.records old.shape l.names.names
          → to_come (graph_of old.records) l.self ≡ to_come (graph_of old.records) l.fn.self;
      allowed : still_allowed l.self ≡ still_allowed l.fn.self;
      near : g.R.Reads.tells → IsNamedStore old.records old.shape l.names.names → (d most : ℕ) → HasDegreesUpTo (graph_of old.records) d
          → IsWithin d most l.fn.self → IsNear d most l.self.rows.items l.self.ready;
      scan : (at : ℕ) → IsScan l.fn.self at → ScanState at old.reads (g.R.Reads.state l.space).reads l.self;
      hop : HopState g.R.Reads l.names.names l.fn.space l.space l.fn.self l.self;
      owes : g.R.Reads.tells → IsNamedStore old.records old.shape l.names.names
          → Spends old (g.R.Reads.state l.space) (owed old.records l.fn.self) (owed old.records l.self);
      stopped : l.self.stopped ≡ l.fn.self.stopped;
      read : IsRead g.R.Reads l.fn.space l.space;
    }
