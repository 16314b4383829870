-- What stands in the records of the meta file, by one list.
use Rattle.std.specs.Prelude.{◌≡◌, ℕ, ◌<◌, ◌≤◌, true, List, [], ◌∷◌, slice_index_or}
use Rattle.rec_bytes.specs.declared.meta_form.MetaForm.{MetaForm}
use Rattle.rec_bytes.specs.declared.meta_form.MetaForm.TheVariants.{Own, Counts, Taken, Index}
use Rattle.rec_bytes.specs.declared.record.Rec.{Rec}
use Rattle.rec_bytes.specs.declared.shape.Shape.{Shape}
use Rattle.rec_bytes.specs.Format.{index_version, taken_rest}
use Rattle.rec_bytes.specs.Meta.{IsMetaInRange}
use Rattle.rec_bytes.specs.Record.{zeros, zeros_from}

-- each record of the meta file by ascending number: the store's own, the counts of the files 1 to
-- 6, the number of the last transaction that was taken over, and the counts of the index
abbrev pub meta_forms : List MetaForm
meta_forms = Own ∷ Counts ∷ Counts ∷ Counts ∷ Counts ∷ Counts ∷ Counts ∷ Taken ∷ Index ∷ []

abbrev pub form_of : ℕ → MetaForm
form_of id = slice_index_or meta_forms id Own

-- The meta record of the index is zeros before the version that brings the index, and from then on
-- like that of any file.
pub record IsIndexMeta (version : ℕ) (shape : Shape) (file : ℕ) (rec : Rec) : Type 0 where
  pub before : version < index_version → rec ≡ zeros
  pub since : index_version ≤ version → IsMetaInRange shape file rec

-- a record of the meta file of this form; the own record says the version and the shape, so it is
-- tested first
abbrev pub IsRightAs : MetaForm → ℕ → Shape → ℕ → Rec → Type 0
IsRightAs Own version shape id rec = Unit {0}
IsRightAs Counts version shape id rec = IsMetaInRange shape id rec
IsRightAs Taken version shape id rec = zeros_from taken_rest rec ≡ true
IsRightAs Index version shape id rec = IsIndexMeta version shape id rec

-- rule 1 for the record of this number in the meta file, in a store of this version and shape
abbrev pub IsMetaRight : ℕ → Shape → ℕ → Rec → Type 0
IsMetaRight version shape id rec = IsRightAs (form_of id) version shape id rec
