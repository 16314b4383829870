use Rattle.std.proofs.Common.{◌≡◌, ◌<◌, ℕ, length}
use Rattle.rec_bytes.specs.Format.{nodes_file}
use Rattle.store_rules.specs.Views.{kind_at}
use Rattle.chain_check.specs.Kinds.{kind_of}
use Rattle.rec_bytes.specs.Frame.{IsRead}
use Rattle.chain_check.proofs.kinds.node_kinds.Given as goal

abbrev pub invariant-loop-id : goal.invariant-loop-id
invariant-loop-id g l =
    let s = g.R.Reads.state l.fn.space in
    record {
      read : IsRead g.R.Reads l.fn.space l.space;
      len : length l.kinds.items ≡ l.id;
      kinds : g.R.Reads.tells → (n : ℕ) → n < length l.kinds.items → kind_of l.kinds.items n ≡ kind_at s.records nodes_file n;
    }
