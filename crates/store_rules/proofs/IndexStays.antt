-- The indexes stay where their file does, and what they are to have where nodes and properties do.
use Rattle.std.proofs.Common.{◌≡◌, ℕ, ◌+◌, ◌*◌, ◌/◌, ◌%◌, List, not, nat_eq, ap, sym, ◌∙◌, subst}
use Rattle.rec_bytes.specs.declared.record.Rec.{Rec}
use Rattle.rec_bytes.specs.Format as format
use Rattle.rec_bytes.specs.Meta as metas
use Rattle.rec_bytes.specs.Record.{field}
use Rattle.rec_bytes.specs.RecordFiles.{meta_key_of}
use Rattle.store_rules.specs.Chains.{IsChain, IsWalk}
use Rattle.store_rules.specs.Hashes.{bucket_of}
use Rattle.store_rules.specs.Indexes.{AreIndexed, Entries, IsBucket, IsOfIndex, entry_in, first_entry, has_hash, heads_of, index_rec, row_value, wanted_in}
use Rattle.store_rules.specs.Properties.{property_records}
use Rattle.store_rules.specs.Indexes.IsOfIndex.{IsDefinition, IsEntry, IsHeads}
use Rattle.store_rules.specs.RuleList.{IsSameFile}
use Rattle.store_rules.specs.Views.{Records, kind_at, kind_in, node_at}

module _ (s t : Records) (same : IsSameFile s t format.index_file) where
  mark : metas.meta_of (t (meta_key_of format.index_file)) ≡ metas.meta_of (s (meta_key_of format.index_file))
  mark = ap metas.meta_of same.meta

  -- what is read of a record
  record_same : (x : ℕ) → index_rec t x ≡ index_rec s x
  record_same x = ap (λ (f : ℕ → Rec). f x) same.records

  number_same : (at : ℕ) (x : ℕ) → field 4 (index_rec t x) at ≡ field 4 (index_rec s x) at
  number_same at x = ap (λ (r : Rec). field 4 r at) (record_same x)

  kind_same : (x : ℕ) → kind_at t format.index_file x ≡ kind_at s format.index_file x
  kind_same x = λ i. kind_in (mark i).high (record_same x i) x

  heads_same : (d c : ℕ) → heads_of t d c ≡ heads_of s d c
  heads_same d c = number_same (format.definition_heads + 4 * c) d

  first_same : (d b : ℕ) → first_entry t d b ≡ first_entry s d b
  first_same d b = ap (λ h. field 4 (index_rec t h) (format.heads_first + 4 * (b % 15))) (heads_same d (b / 15))
      ∙ number_same (format.heads_first + 4 * (b % 15)) (heads_of s d (b / 15))

  entry_same : (d x : ℕ) → entry_in t d x ≡ entry_in s d x
  entry_same d x = λ i. record {
    label = number_same format.definition_label d i;
    key = number_same format.definition_key d i;
    node = number_same format.indexed_node x i;
    hash = field 8 (record_same x i) format.indexed_hash;
  }

  bucket_same : (wanted : Entries) (d b : ℕ) (xs : List ℕ) → IsBucket s wanted d b xs → IsBucket t wanted d b xs
  bucket_same wanted d b xs was = record {
    chain = subst (λ (p : (ℕ → Rec) × ℕ). IsChain (λ x. field 4 (p.0 x) format.indexed_next) (λ x. field 4 (p.0 x) format.indexed_previous) format.nil p.1 xs)
        (λ i. (sym same.records i, sym (first_same d b) i)) was.chain;
    kind = λ x m. kind_same x ∙ was.kind x m;
    hash = λ x m. ap (λ (r : Rec). bucket_of (field 8 r format.indexed_hash)) (record_same x) ∙ was.hash x m;
    wanted_is = λ x m. ap wanted (entry_same d x) ∙ was.wanted_is x m;
  }

  of_index : (definitions : List ℕ) (lists : ℕ → ℕ → List ℕ) (x : ℕ) → IsOfIndex s definitions lists x → IsOfIndex t definitions lists x
  of_index definitions lists x (IsDefinition m) = IsDefinition m
  of_index definitions lists x (IsHeads d c i lt e) = IsHeads d c i lt (heads_same d c ∙ e)
  of_index definitions lists x (IsEntry d b i lt m) = IsEntry d b i lt m

  pub indexes_stay : (wanted : Entries) → AreIndexed s wanted → AreIndexed t wanted
  indexes_stay wanted ix = record {
    definitions = ix.definitions;
    walk = subst (λ (p : (ℕ → Rec) × Rec). IsWalk (λ d. field 4 (p.0 d) format.definition_next) (field 4 p.1 format.meta_definition) ix.definitions)
        (λ i. (sym same.records i, sym same.meta i)) ix.walk;
    few = ix.few;
    defined = λ d i. kind_same d ∙ ix.defined d i;
    distinct = λ d e i j l k. ix.distinct d e i j (sym (number_same format.definition_label d) ∙ l ∙ number_same format.definition_label e)
        (sym (number_same format.definition_key d) ∙ k ∙ number_same format.definition_key e);
    heads = λ d c i lt. kind_same (heads_of t d c) ∙ ap (kind_at s format.index_file) (heads_same d c) ∙ ix.heads d c i lt;
    heads_once = λ d c e k i j lt more is. ix.heads_once d c e k i j lt more (sym (heads_same d c) ∙ is ∙ heads_same e k);
    lists = ix.lists;
    buckets = λ d b i lt. bucket_same wanted d b (ix.lists d b) (ix.buckets d b i lt);
    all = λ d e i l k w. let has = ix.all d e i (l ∙ number_same format.definition_label d) (k ∙ number_same format.definition_key d) w in
        record { id = has.id; member = has.member; is = entry_same d has.id ∙ has.is };
    once = λ d b x y i lt m n node hash. ix.once d b x y i lt m n (sym (number_same format.indexed_node x) ∙ node ∙ number_same format.indexed_node y)
        (sym (ap (λ (r : Rec). field 8 r format.indexed_hash) (record_same x)) ∙ hash ∙ ap (λ (r : Rec). field 8 r format.indexed_hash) (record_same y));
    one = ix.one;
    held = λ x live. of_index ix.definitions ix.lists x (ix.held x (sym (ap (λ k. not (nat_eq k 0)) (kind_same x)) ∙ live));
  }

-- Nodes and properties that are as they were have the same values.
pub wanted_same : (s t : Records) → node_at t ≡ node_at s → property_records t ≡ property_records s → wanted_in t ≡ wanted_in s
wanted_same s t nodes files = λ i e. has_hash e.hash (row_value (files i) e.label e.key (nodes i e.node))
