-- What the records of an element lead to stays where records of the indexes alone are changed.
use Rattle.std.specs.Prelude.{Some, map}
use Rattle.std.proofs.Common.{◌≡◌, ◌∙◌, ℕ, List, ap, refl, subst, sym, arith}
use Rattle.plain_graph.specs.declared.command.Target.{Target}
use Rattle.plain_graph.specs.declared.command.Target.TheVariants as targets
use Rattle.plain_graph.specs.declared.value.Value.{Value}
use Rattle.rec_bytes.specs.declared.record.Rec.{Rec}
use Rattle.rec_bytes.specs.Format as format
use Rattle.rec_bytes.specs.Record.{field}
use Rattle.store_rules.specs.Properties.{Property, property_at, property_ids, property_records}
use Rattle.store_rules.specs.Views.{Records, rec_at}
use Rattle.prop_store.specs.Finding.{GivesMet, IsRecordOf, property_of}
use Rattle.prop_store.specs.Owner.{first_of}
use Rattle.prop_store.specs.Reading.{properties_met}
use Rattle.change_parts.specs.Owners.{owner_of}
use Rattle.node_changes.proofs.IndexBeside.{KeepsBesideIndex, file_same, files_same}

module _ (s t : Records) (beside : KeepsBesideIndex s t) where
  first_same : (target : Target) → first_of t (owner_of target) ≡ first_of s (owner_of target)
  first_same (targets.Node id) =
      ap (λ (f : ℕ → Rec). field 4 (f id) format.node_first_property) (file_same s t beside format.nodes_file refl (λ e. omega arith))
  first_same (targets.Edge id) =
      ap (λ (f : ℕ → Rec). field 4 (f id) format.relationship_first_property) (file_same s t beside format.relationships_file refl (λ e. omega arith))

  met_same : (target : Target) → properties_met t (owner_of target) ≡ properties_met s (owner_of target)
  met_same target = λ i. map (property_at (files_same s t beside i))
      (property_ids (file_same s t beside format.properties_file refl (λ e. omega arith) i) (first_same target i))

  pub given_beside : (target : Target) (key : ℕ) (value : Value) → GivesMet s (owner_of target) key value → GivesMet t (owner_of target) key value
  given_beside target key value gives =
      let e = gives.0 in (
        e,
        ap (λ (es : List Property). property_of es key) (met_same target) ∙ gives.1,
        subst (λ (r : Rec). IsRecordOf r key value)
            (ap (λ (f : ℕ → Rec). f e.id) (sym (file_same s t beside format.properties_file refl (λ q. omega arith)))) gives.2,
      )
