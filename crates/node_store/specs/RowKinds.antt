-- The kinds of a node are those that a record in use of the nodes may have.
use Rattle.std.proofs.Common.{◌≡◌, ◌≢◌, ℕ, Bool, true, false, ◌||◌, cond, nat_eq, None}
use Rattle.std.proofs.Common.{refl, arith}
use Rattle.std.proofs.lemmas.Bool.Decides.{nat_tests}
use Rattle.rec_bytes.specs.declared.record.Rec.{Rec}
use Rattle.rec_bytes.specs.Format as format
use Rattle.store_rules.specs.Ranges.{layout_by, node_layout}
use Rattle.node_store.specs.NodeRecord.{is_node_kind}

free_false : (kind : ℕ) → kind ≢ format.free_kind → nat_eq kind format.free_kind ≡ false
free_false kind ne = grind (arith, nat_tests)

pub no_kind : (rec : Rec) (kind : ℕ) → kind ≢ format.free_kind → is_node_kind kind ≡ false
    → layout_by format.nodes_file rec kind ≡ None
no_kind rec kind used other =
    rw (free_false kind used) (by (nat_eq kind format.sparse) (nat_eq kind format.dense) other)
  where
    by : (sparse dense : Bool) → (sparse || dense) ≡ false
        → cond sparse (node_layout format.relationships_file)
        (cond dense (node_layout format.groups_file) None) ≡ None
    by true dense e = absurd cc
    by false true e = absurd cc
    by false false e = refl

pub own_kind : (rec : Rec) (kind : ℕ) → kind ≢ format.free_kind → is_node_kind kind ≡ true
    → layout_by format.nodes_file rec kind ≢ None
own_kind rec kind used own =
    rw (free_false kind used) (by (nat_eq kind format.sparse) (nat_eq kind format.dense) own)
  where
    by : (sparse dense : Bool) → (sparse || dense) ≡ true
        → cond sparse (node_layout format.relationships_file)
        (cond dense (node_layout format.groups_file) None) ≢ None
    by true dense e = λ f. absurd cc
    by false true e = λ f. absurd cc
    by false false e = absurd cc
