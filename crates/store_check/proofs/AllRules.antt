-- A store that keeps each rule by its number is well-formed, with its indexes.
use Rattle.std.proofs.Common.{ℕ, ◌≤◌, arith}
use Rattle.rec_bytes.specs.declared.shape.Shape.{Shape}
use Rattle.store_rules.specs.Breaking.{Keeps}
use Rattle.store_rules.specs.Indexes.{IsIndexed}
use Rattle.store_rules.specs.Rules as rules
use Rattle.store_rules.specs.Views.{Records}
use Rattle.store_rules.proofs.ChainRules.{linked_of}

module _ (records : Records) (shape : Shape) where
  pub is_store : ((n : ℕ) → 1 ≤ n → n ≤ 7 → Keeps records shape n) → rules.IsWellFormed records shape
  is_store all =
      let ranges : Keeps records shape 1 = all 1 (omega arith) (omega arith) in
      let split : Keeps records shape 2 = all 2 (omega arith) (omega arith) in
      let chained : Keeps records shape 3 = all 3 (omega arith) (omega arith) in
      let grouped : Keeps records shape 4 = all 4 (omega arith) (omega arith) in
      let properties : Keeps records shape 5 = all 5 (omega arith) (omega arith) in
      let names : Keeps records shape 6 = all 6 (omega arith) (omega arith) in
      let degrees : Keeps records shape 7 = all 7 (omega arith) (omega arith) in
      record {
        ranges = ranges;
        split = split.split;
        kept = split.kept;
        linked = linked_of records grouped.grouped chained;
        grouped = grouped.grouped;
        exact = grouped.exact;
        properties = properties.properties;
        named = properties.named;
        defined = properties.defined;
        names = names;
        degrees = degrees;
      }

  pub is_indexed : ((n : ℕ) → 1 ≤ n → n ≤ 8 → Keeps records shape n) → IsIndexed records shape
  is_indexed all =
      let indexes : Keeps records shape 8 = all 8 (omega arith) (omega arith) in
      record { store = is_store (λ n from to. all n from (omega arith)); indexes = indexes }
