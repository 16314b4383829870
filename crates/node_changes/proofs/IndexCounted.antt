-- As many nodes have a label and a key where no node and no property differs.
use Rattle.std.specs.Option.{option_map}
use Rattle.std.proofs.Math.Path.{fun_ext}
use Rattle.std.proofs.Common.{◌≡◌, ◌≢◌, ℕ, length, ap, arith}
use Rattle.rec_bytes.specs.declared.key.Key.{Key}
use Rattle.rec_bytes.specs.Format as format
use Rattle.rec_bytes.specs.Meta as metas
use Rattle.rec_bytes.specs.RecordFiles.{meta_key_of}
use Rattle.store_rules.specs.Hashes.{hash_of}
use Rattle.store_rules.specs.Indexes.{row_value}
use Rattle.store_rules.specs.Properties.{property_records}
use Rattle.store_rules.specs.Rows.{collect}
use Rattle.store_rules.specs.RuleList.{IsSameFile}
use Rattle.store_rules.specs.Views.{Records, high, key_in, kind_in, node_at, node_in, row_if}
use Rattle.prop_index.specs.Collecting.{content_of}
use Rattle.prop_index.specs.Making.{count_of}
use Rattle.prop_store.specs.FileChange.{IsSameBeside}
use Rattle.node_changes.proofs.IndexBeside.{KeepsBesideIndex, files_same, mark_same, nodes_beside}

count_same : (s t : Records) → node_at t ≡ node_at s → property_records t ≡ property_records s → high t format.nodes_file ≡ high s format.nodes_file → (l k : ℕ)
    → count_of t l k ≡ count_of s l k
count_same s t nodes files mark l k = λ i. length (collect (λ n. option_map (content_of n) (option_map hash_of (row_value (files i) l k (nodes i n)))) (mark i))

-- records of indexes alone differ
pub count_beside : (s t : Records) → KeepsBesideIndex s t → (l k : ℕ) → count_of t l k ≡ count_of s l k
count_beside s t beside = count_same s t (nodes_beside s t beside) (files_same s t beside) (mark_same s t beside format.nodes_file (λ e. omega arith))

-- records of names alone do
module _ (s t : Records) (beside : IsSameBeside format.names_file s t) where
  pub file_kept : (file : ℕ) → file ≢ format.names_file → file ≢ format.meta_file → IsSameFile s t file
  file_kept file other no_meta = record {
    records = fun_ext (λ x. beside (key_in file x) other (λ e. no_meta (ap (λ (k : Key). k.file) e)));
    meta = beside (meta_key_of file) (λ e. omega arith) (λ e. other (ap (λ (k : Key). k.id) e));
  }

  nodes_kept : IsSameFile s t format.nodes_file
  nodes_kept = file_kept format.nodes_file (λ e. omega arith) (λ e. omega arith)

  mark_kept : high t format.nodes_file ≡ high s format.nodes_file
  mark_kept = ap (λ r. (metas.meta_of r).high) nodes_kept.meta

  pub count_kept : (l k : ℕ) → count_of t l k ≡ count_of s l k
  count_kept = count_same s t
      (λ i x. row_if (kind_in (mark_kept i) (nodes_kept.records i x) x) (node_in (nodes_kept.records i x) x))
      (λ i. record {
        properties = (file_kept format.properties_file (λ e. omega arith) (λ e. omega arith)).records i;
        strings = (file_kept format.strings_file
            (λ e. omega arith) (λ e. omega arith)).records i;
      })
      mark_kept
