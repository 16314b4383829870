-- The labels and the keys of definitions.
use Rattle.std.proofs.Common.{◌≡◌, ◌≢◌, ℕ, ◌<◌, sym, ◌∙◌, subst, arith}
use Rattle.rec_bytes.specs.declared.record.Rec.{Rec}
use Rattle.rec_bytes.specs.Format as format
use Rattle.rec_bytes.specs.Record.{field}
use Rattle.store_rules.specs.Breaking.{DefinitionKeeps}
use Rattle.store_rules.specs.Views.{Records, high, kind_at, rec_at}
use Rattle.store_rules.proofs.ViewLaws.{kind_below}
use Rattle.record_lists.proofs.RecordLaws.{kind_read}
use Rattle.store_check.specs.Holding.{AreDefinitionsRight}
use Rattle.store_rules.specs.Rules.{KeepsDefinitions}

module _ (records : Records) where
  definition_low : (d : ℕ) → kind_at records format.index_file d ≡ format.definition → d < high records format.index_file
  definition_low d kind = kind_below (high records format.index_file) (rec_at records format.index_file d) d
      (λ z. let one : 1 ≡ 0 = sym kind ∙ z in omega arith)

  -- where each definition keeps the rule, the store does
  pub are_defined : AreDefinitionsRight records → KeepsDefinitions records
  are_defined right = record {
    labels = λ d kind. (right.keeps d (definition_low d kind)).label kind;
    keys = λ d kind. (right.keeps d (definition_low d kind)).key kind;
  }

  -- what a record that was read says of it
  module _ (d : ℕ) (r : Rec) (lt : d < high records format.index_file) (got : r ≡ rec_at records format.index_file d) where
    abbrev pub IsName : ℕ → Type 0
    IsName place = field 4 r place < high records format.names_file

    kind_is : kind_at records format.index_file d ≡ field 1 r format.kind
    kind_is = kind_read records format.index_file d r lt got

    at_record : (place : ℕ) → IsName place → field 4 (rec_at records format.index_file d) place < high records format.names_file
    at_record place named = subst (λ q. field 4 q place < high records format.names_file) got named

    at_read : (place : ℕ) → field 4 (rec_at records format.index_file d) place < high records format.names_file → IsName place
    at_read place named = subst (λ q. field 4 q place < high records format.names_file) (sym got) named

    pub other_keeps : field 1 r format.kind ≢ format.definition → DefinitionKeeps records d
    other_keeps other = record { label = λ is. absurd (other (sym kind_is ∙ is)); key = λ is. absurd (other (sym kind_is ∙ is)) }

    pub named_keeps : IsName format.definition_label → IsName format.definition_key → DefinitionKeeps records d
    named_keeps label key = record { label = λ is. at_record format.definition_label label; key = λ is. at_record format.definition_key key }

    pub label_named : field 1 r format.kind ≡ format.definition → DefinitionKeeps records d → IsName format.definition_label
    label_named is keeps = at_read format.definition_label (keeps.label (kind_is ∙ is))

    pub key_named : field 1 r format.kind ≡ format.definition → DefinitionKeeps records d → IsName format.definition_key
    key_named is keeps = at_read format.definition_key (keeps.key (kind_is ∙ is))
