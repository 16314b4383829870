use Rattle.std.proofs.Common.{◌≡◌, ◌<◌, ℕ, true, take, map}
use Rattle.std.specs.List.{All}
use Rattle.rec_bytes.specs.Format.{nodes_file}
use Rattle.store_rules.specs.Chains.{In}
use Rattle.store_rules.specs.Indexes.{entry_node, wanted_in}
use Rattle.store_rules.specs.Views.{high}
use Rattle.index_check.specs.Nodes.{said_by}
use Rattle.rec_bytes.specs.Frame.{IsRead}
use Rattle.index_check.proofs.nodes.nodes_of.Given as goal

abbrev pub invariant-loop-id : goal.invariant-loop-id
invariant-loop-id g l =
    let records = (g.R.Reads.state l.fn.space).records in
    record {
      read : IsRead g.R.Reads l.fn.space l.space;
      nodes : g.R.Reads.tells → l.nodes.items ≡ map (entry_node records) (take l.id-index l.entries);
      wanted : g.R.Reads.tells → (x : ℕ) → In x (take l.id-index l.entries) → wanted_in records (said_by records l.definition x) ≡ true;
      low : All (λ n. n < high records nodes_file) l.nodes.items;
    }
