-- What is read of a node is what its entry says.
use Rattle.std.proofs.Common.{◌≡◌, ◌≢◌, ⊎_elim, ℕ, suc, ◌+◌, ◌<◌, cond, Option, None, Some, List, [], ◌∷◌, ◌++◌, length}
use Rattle.std.proofs.Common.{option_map, refl, ap, sym, ◌∙◌, arith, length-append}
use Rattle.rec_bytes.specs.Format as format
use Rattle.rec_bytes.specs.Record.{field}
use Rattle.store_rules.specs.Hashes.{hash_of}
use Rattle.store_rules.specs.Indexes.{row_value, value_in}
use Rattle.store_rules.specs.Properties.{property_records}
use Rattle.store_rules.specs.Rows.{option_list}
use Rattle.store_rules.specs.Views.{NodeRow, Records, high, kind_at, node_in, rec_at}
use Rattle.store_rules.proofs.NumberLaws.{eq_false, eq_true, nat_cases}
use Rattle.store_rules.proofs.ViewLaws.{kind_low, row_none, row_some}
use Rattle.prop_store.specs.Finding.{value_of}
use Rattle.prop_store.specs.Reading.{properties_met}
use Rattle.prop_index.specs.Collecting.{content_at, content_of, contents_in, hash_at}
use Rattle.prop_index.specs.Gathering.{node_owner}
use Rattle.prop_index.specs.declared.entry_row.Content.{Content}
use Rattle.prop_index.proofs.Values.{value_in-is}

module _ (records : Records) (label key n : ℕ) (low : n < high records format.nodes_file) where
  abbrev row : NodeRow
  row = node_in (rec_at records format.nodes_file n) n

  kind_is : kind_at records format.nodes_file n ≡ field 1 (rec_at records format.nodes_file n) format.kind
  kind_is = kind_low (high records format.nodes_file) (rec_at records format.nodes_file n) n low

  -- a free record, or another label
  pub hash_at-none : (field 1 (rec_at records format.nodes_file n) format.kind ≢ format.free_kind → field 4 (rec_at records format.nodes_file n)
      format.node_label ≢ label) → hash_at records label key n ≡ None
  hash_at-none other = ap (option_map hash_of) (⊎_elim
      (λ (e : kind_at records format.nodes_file n ≡ 0). ap (row_value (property_records records) label key) (row_none (kind_at records format.nodes_file n)
      row e))
      (λ (ne : kind_at records format.nodes_file n ≢ 0).
      ap (row_value (property_records records) label key) (row_some (kind_at records format.nodes_file n) row ne)
      ∙ ap (λ b. cond b (value_in (properties_met records (node_owner n)) key) None) (eq_false row.label label (other (λ e. ne (kind_is ∙ e)))))
      (nat_cases (kind_at records format.nodes_file n) 0))

  -- a node in use with the label
  pub hash_at-labelled : field 1 (rec_at records format.nodes_file n) format.kind ≢ format.free_kind
      → field 4 (rec_at records format.nodes_file n) format.node_label ≡ label
      → hash_at records label key n ≡ option_map hash_of (value_of (properties_met records (node_owner n)) key)
  hash_at-labelled used is = ap (option_map hash_of) (
      ap (row_value (property_records records) label key) (row_some (kind_at records format.nodes_file n) row (λ e. used (sym kind_is ∙ e)))
      ∙ ap (λ b. cond b (value_in (properties_met records (node_owner n)) key) None) (eq_true row.label label is)
      ∙ value_in-is (properties_met records (node_owner n)) key)

-- ---- one node more

module _ (records : Records) (label key n : ℕ) where
  abbrev before : List Content
  before = contents_in records label key n

  -- it has no entry
  pub contents-skip : hash_at records label key n ≡ None → contents_in records label key (n + 1) ≡ contents_in records label key n
  contents-skip none = step ∙ ap (λ (o : Option ℕ). before ++ option_list (option_map (content_of n) o)) none ∙ append_none before
    where
      append_none : (xs : List Content) → xs ++ [] ≡ xs
      append_none [] = refl
      append_none (x ∷ xs) = ap (λ ys. x ∷ ys) (append_none xs)

      step : contents_in records label key (n + 1) ≡ before ++ option_list (content_at records label key n)
      step = ap (contents_in records label key) (let e : n + 1 ≡ suc n = omega arith in e)

  -- it has one
  pub contents-more : (hash : ℕ) → hash_at records label key n ≡ Some hash
      → contents_in records label key (n + 1) ≡ contents_in records label key n ++ content_of n hash ∷ []
  contents-more hash some = ap (contents_in records label key) (let e : n + 1 ≡ suc n = omega arith in e)
      ∙ ap (λ (o : Option ℕ). before ++ option_list (option_map (content_of n) o)) some

  pub length-contents-more : (hash : ℕ) → hash_at records label key n ≡ Some hash
      → length (contents_in records label key (n + 1)) ≡ length (contents_in records label key n) + 1
  length-contents-more hash some = ap length (contents-more hash some) ∙ length-append before (content_of n hash ∷ [])
