-- A store without an index keeps the eighth rule too, and so does a new one.
use Rattle.std.proofs.Common.{◌≡◌, true, [], sym, ap, ◌∙◌, arith, refl}
use Rattle.std.proofs.lemmas.Bool.{true≢false}
use Rattle.rec_bytes.specs.declared.record.Rec.{Rec}
use Rattle.rec_bytes.specs.declared.shape.Shape.{Shape}
use Rattle.rec_bytes.specs.Creation.{creation_pairs}
use Rattle.rec_bytes.specs.Format as format
use Rattle.rec_bytes.specs.Meta.{empty_meta, first_meta, meta_record}
use Rattle.rec_bytes.specs.Record.{field, zeros_from}
use Rattle.rec_bytes.specs.RecordFiles.{meta_key_of}
use Rattle.rec_bytes.specs.Shape.{is_allowed}
use Rattle.rec_bytes.specs.Space.{laid_over}
use Rattle.rec_bytes.proofs.CreationPairs.{find_pair-creation_meta}
use Rattle.rec_bytes.proofs.Numbers.{field-with_field_same}
use Rattle.rec_bytes.proofs.Spaces.{laid_over-at}
use Rattle.store_rules.specs.Indexes.{AreIndexed, Entries, HasNoIndex, IsIndexed, first_definition, wanted_in}
use Rattle.store_rules.specs.Rules.{IsWellFormed}
use Rattle.store_rules.specs.Views.{Records, kind_at}
use Rattle.store_rules.proofs.NewStores.{new_unindexed, new_well}
use Rattle.store_rules.proofs.ViewLaws.{live_false}

-- no definition, and no record of the index in use
pub none_indexed : (records : Records) (wanted : Entries) → first_definition records ≡ format.nil → HasNoIndex records → AreIndexed records wanted
none_indexed records wanted none unused = record {
  definitions = [];
  walk = none;
  few = omega arith;
  defined = λ d i. elim i [ ];
  distinct = λ d e i. elim i [ ];
  heads = λ d c i. elim i [ ];
  heads_once = λ d c e k i. elim i [ ];
  lists = λ d b. [];
  buckets = λ d b i. elim i [ ];
  all = λ d e i. elim i [ ];
  once = λ d b x y i. elim i [ ];
  one = λ d b e c x i. elim i [ ];
  held = λ x live. absurd (true≢false (sym live ∙ live_false (kind_at records format.index_file x) (unused x)));
}

-- A well-formed store that names no definition and has no record of the index in use.
pub well_indexed : (records : Records) (shape : Shape) → IsWellFormed records shape → first_definition records ≡ format.nil → HasNoIndex records
    → IsIndexed records shape
well_indexed records shape well none unused = record { store = well; indexes = none_indexed records (wanted_in records) none unused }

module _ (before : Records) (shape : Shape) where
  abbrev new : Records
  new = laid_over before (creation_pairs shape)

  meta-new : new (meta_key_of format.index_file) ≡ first_meta format.index_file
  meta-new = laid_over-at before (creation_pairs shape) (meta_key_of format.index_file) (first_meta format.index_file)
      (find_pair-creation_meta shape format.index_file refl)

  first-new : first_definition new ≡ format.nil
  first-new = ap (λ (r : Rec). field 4 r format.meta_definition) meta-new
      ∙ field-with_field_same 4 (meta_record empty_meta) format.meta_definition format.nil (omega arith) (omega arith)

  pub new_indexed : is_allowed shape ≡ true → zeros_from format.taken_rest (before (meta_key_of format.taken_id)) ≡ true → IsIndexed new shape
  new_indexed allowed none_taken = well_indexed new shape (new_well before shape allowed none_taken) first-new (new_unindexed before shape)
