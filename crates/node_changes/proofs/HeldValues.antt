-- The rule of the indexes after a value of one key at one node changed, and its entries with it.
use Rattle.std.proofs.Common.{◌≡◌, ◌≢◌, ◌⊎◌, ⊎_elim, inl, inr, ℕ, false, Option, ap, sym, ◌∙◌, refl}
use Rattle.std.proofs.lemmas.Bool.{true≢false}
use Rattle.plain_graph.specs.declared.value.Value.{Value}
use Rattle.rec_bytes.specs.Format as format
use Rattle.store_rules.specs.Chains.{In}
use Rattle.store_rules.specs.IndexChange.{ChangesValue, with_value, without_value}
use Rattle.store_rules.specs.Indexes.{AreIndexed, Entries, Entry, has_hash, indexed_key, indexed_label, wanted_in}
use Rattle.store_rules.specs.RuleList.{IsSameFile}
use Rattle.store_rules.specs.Views.{Records}
use Rattle.store_rules.proofs.IndexFrames.{indexed_again, indexed_same}
use Rattle.store_rules.proofs.NumberLaws.{eq_true, nat_cases}
use Rattle.change_parts.proofs.GraphPairs.{defined_among, defined_same, has_pair, in_any, is_among}
use Rattle.node_changes.proofs.IndexBeside.{KeepsBesideIndex, value_beside}

module _ (s u v : Records) (label key id : ℕ) (old new : Option Value) (change : ChangesValue s u label key id old new) (beside : KeepsBesideIndex u v) where
  change_now : ChangesValue s v label key id old new
  change_now = record {
    was = change.was;
    now = value_beside u v beside label key id ∙ change.now;
    others = λ l k m apart. value_beside u v beside l k m ∙ change.others l k m apart;
  }

  -- the pair has an index, and its entries changed
  pub listed_again : AreIndexed v (with_value (without_value (wanted_in s) label key id old) label key id new) → AreIndexed v (wanted_in v)
  listed_again = indexed_again s v label key id old new change_now

  -- it has none
  pub unlisted_again : (ix : AreIndexed v (wanted_in s)) → is_among v ix.definitions label key ≡ false → AreIndexed v (wanted_in v)
  unlisted_again ix none = indexed_same v (wanted_in s) (wanted_in v) ix
      (λ d e i l k. ap (has_hash e.hash) (change_now.others e.label e.key e.node (apart d e i l k)))
    where
      apart : (d : ℕ) (e : Entry) → In d ix.definitions → e.label ≡ indexed_label v d → e.key ≡ indexed_key v d → (e.label ≢ label)
          ⊎ ((e.key ≢ key) ⊎ (e.node ≢ id))
      apart d e i l k = ⊎_elim
          (λ (a : e.label ≡ label). ⊎_elim
          (λ (b : e.key ≡ key). absurd (true≢false (sym (in_any (has_pair v label key) d ix.definitions i
          (rw (eq_true (indexed_label v d) label (sym l ∙ a), eq_true (indexed_key v d) key (sym k ∙ b)) refl)) ∙ none)))
          (λ (b : e.key ≢ key). inr (inl b)) (nat_cases e.key key))
          (λ (a : e.label ≢ label). inl a) (nat_cases e.label label)

-- The pair has an index after that where it had one before, if the file of the indexes stays.
pub among_same : (s v : Records) → IsSameFile s v format.index_file → (wanted now : Entries) (ix : AreIndexed s wanted) (iy : AreIndexed v now) (label key : ℕ)
    → is_among v iy.definitions label key ≡ is_among s ix.definitions label key
among_same s v same wanted now ix iy label key = sym (defined_among v now iy label key) ∙ defined_same s v same label key ∙ defined_among s wanted ix label key
