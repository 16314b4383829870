-- How many there are of each part of the graph.
use Rattle.std.proofs.Common.{◌≡◌, ◌∙◌, ℕ, nat_eq, Bool, true, false, not, cond, Some, None, is_some, length, refl, sym}
use Rattle.plain_graph.specs.Counts.{counts_of}
use Rattle.plain_graph.specs.declared.counts.Counts.{Counts}
use Rattle.rec_bytes.specs.Format.{names_file, nodes_file, properties_file, relationships_file, strings_file}
use Rattle.rec_bytes.specs.Space.{meta_in}
use Rattle.rec_bytes.specs.declared.key.Key.{Key}
use Rattle.rec_bytes.specs.declared.record.Rec.{Rec}
use Rattle.rec_bytes.specs.declared.shape.Shape.{Shape}
use Rattle.store_rules.specs.Graph.{graph_of, node_from, node_of}
use Rattle.store_rules.specs.Properties.{property_records}
use Rattle.store_rules.specs.Rules.{IsWellFormed}
use Rattle.store_rules.specs.Views.{high, is_live, kind_at, node_in, rec_at}
use Rattle.store_rules.proofs.Counts.{length-collect}
use Rattle.store_rules.proofs.GraphRows.{count_edges}
use Rattle.store_rules.proofs.PropertyCounts.{count_blocks, count_properties}
use Rattle.graph_session.proofs.Held.{length-names}

-- a node is in the graph where its record is in use
pub is_some-node : (records : Key → Rec) (x : ℕ) → is_some (node_of records x) ≡ is_live records nodes_file x
is_some-node records x = by (nat_eq (kind_at records nodes_file x) 0)
  where
    by : (free : Bool) → is_some (node_from (rec_at records names_file) (property_records records)
        (cond free None (Some (node_in (rec_at records nodes_file x) x)))) ≡ not free
    by true = refl
    by false = refl

-- the meta record of the nodes says how many the graph has
pub count_nodes : (records : Key → Rec) (shape : Shape) → IsWellFormed records shape → (meta_in records nodes_file).live ≡ length (graph_of records).nodes
count_nodes records shape store =
    let split = store.split nodes_file refl in
    split.1.exact ∙ sym (length-collect _ (node_of records) (is_live records nodes_file) (high records nodes_file) (is_some-node records))

abbrev pub counts_from : ℕ → ℕ → ℕ → ℕ → ℕ → Counts
counts_from nodes edges properties blocks names = record { nodes = nodes; edges = edges; properties = properties; blocks = blocks; names = names }

-- what is counted of these parts
pub counts_from-same : {a b c d e v w x y z : ℕ} → a ≡ v → b ≡ w → c ≡ x → d ≡ y → e ≡ z → counts_from a b c d e ≡ counts_from v w x y z
counts_from-same f g h i j = cc

-- what the meta records of a store say
pub counts_are : (records : Key → Rec) (shape : Shape) → IsWellFormed records shape
    → counts_from (meta_in records nodes_file).live (meta_in records relationships_file).live (meta_in records properties_file).live
    (meta_in records strings_file).live (high records names_file) ≡ counts_of (graph_of records)
counts_are records shape keeps =
    counts_from-same (count_nodes records shape keeps) (count_edges records shape keeps) (count_properties records shape keeps)
    (count_blocks records shape keeps) (sym (length-names records))
