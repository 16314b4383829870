-- The values that a new node is given.
use Rattle.std.specs.Prelude.{◌≡◌, ℕ, nat_eq, Bool, ◌&&◌, ◌||◌, List}
use Rattle.std.specs.List.{list_any}
use Rattle.plain_graph.specs.declared.pairs.Pair.{Pair}
use Rattle.rec_bytes.specs.Format as format
use Rattle.rec_bytes.specs.Record.{field}
use Rattle.rec_bytes.specs.Space.{State}
use Rattle.store_rules.specs.Hashes.{hash_of}
use Rattle.store_rules.specs.Indexes.{Entries, Entry, wanted_in}
use Rattle.store_rules.specs.RuleList.{IsSameFile}
use Rattle.store_rules.specs.Views.{rec_at}
use Rattle.change_parts.specs.Assigning.{pair_at}
use Rattle.change_parts.specs.declared.assigning.Assignment.{Assignment}

-- one of the assignments gives the key a value with the hash
abbrev pub gives_hash : List Pair → List Assignment → ℕ → ℕ → Bool
gives_hash pairs assigned key hash = list_any
    (λ (assignment : Assignment). nat_eq assignment.key key
    && nat_eq (hash_of (pair_at pairs assignment.pair).value) hash) assigned

-- the entries with those of a node of this label for the values of the assignments
abbrev pub with_assigned : Entries → ℕ → ℕ → List Pair → List Assignment → Entries
with_assigned wanted label node pairs assigned e =
    (nat_eq e.label label && (nat_eq e.node node && gives_hash pairs assigned e.key e.hash))
    || wanted e

-- The values that the nodes have are those that they had, and those of the assignments at this
-- node. The file of the indexes is as it was.
pub record GivesValues (s t : State) (id : ℕ) (pairs : List Pair) (assigned : List Assignment)
    : Type 0 where
  pub file : IsSameFile s.records t.records format.index_file
  pub values : (e : Entry) → wanted_in t.records e
      ≡ with_assigned (wanted_in s.records)
      (field 4 (rec_at s.records format.nodes_file id) format.node_label) id pairs assigned e
