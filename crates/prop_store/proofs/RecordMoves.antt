-- Changes of the files of properties and of blocks, one after the other.
use Rattle.std.proofs.Common.{◌≡◌, ◌≢◌, ℕ, ◌≤◌, List, sym, ap, ◌∙◌, inl, inr, arith, refl}
use Rattle.rec_bytes.specs.declared.key.Key.{Key}
use Rattle.rec_bytes.specs.declared.shape.Shape.{Shape}
use Rattle.rec_bytes.specs.Format as format
use Rattle.rec_bytes.specs.RecordFiles.{meta_key_of}
use Rattle.rec_bytes.proofs.RecordFiles.{is_meta_file-not_meta}
use Rattle.store_rules.specs.PropertyChange.{ChangesFile}
use Rattle.store_rules.specs.Views.{Records, high, key_in, rec_at}
use Rattle.prop_store.specs.Dropping.{ChangesRecords}
use Rattle.prop_store.specs.FileChange.{IsSameBeside}
use Rattle.prop_store.proofs.FileMoves.{Replaces, composed}
use Rattle.prop_store.proofs.FileSteps.{IsPropertyFile, file_same, marks_beside, meta_of_file}

-- one change after the other, in part of the lists
pub records_then : (s m t : Records) (shape : Shape) (ids mid new blocks mid_blocks new_blocks a b c d : List ℕ) → Replaces mid a b new
    → Replaces mid_blocks c d new_blocks
    → ChangesRecords s m shape ids mid blocks mid_blocks → ChangesRecords m t shape a b c d → ChangesRecords s t shape ids new blocks new_blocks
records_then s m t shape ids mid new blocks mid_blocks new_blocks a b c d r q h k = record {
  properties = composed shape format.properties_file s m t ids mid a b new r h.properties k.properties;
  strings = composed shape format.strings_file s m t blocks mid_blocks c d new_blocks q h.strings k.strings;
  others = λ key p s' mp ms. k.others key p s' mp ms ∙ h.others key p s' mp ms;
}

-- Of another file of properties or of blocks the records are the same.
module _ (s t : Records) (file other : ℕ) (is : IsPropertyFile file) (is_other : IsPropertyFile other) (ne : other ≢ file) (beside : IsSameBeside file s t)
  where
    pub meta_beside : t (meta_key_of other) ≡ s (meta_key_of other)
    meta_beside = beside (meta_key_of other) (λ e. is_meta_file-not_meta file (meta_of_file file is) (sym e)) (λ e. ne (ap (λ (k : Key). k.id) e))

    pub record_beside : (x : ℕ) → rec_at t other x ≡ rec_at s other x
    record_beside x = beside (key_in other x) ne (λ e. is_meta_file-not_meta other (meta_of_file other is_other) (ap (λ (k : Key). k.file) e))

    -- so it keeps its rules
    pub file_aside : (shape : Shape) (xs : List ℕ) → ChangesFile s s shape other xs xs → high s file ≤ high t file → ChangesFile s t shape other xs xs
    file_aside shape xs h grows = file_same s t shape other xs xs h meta_beside record_beside (marks_beside file s t (meta_of_file file is) beside grows) xs
        h.live

-- blocks alone changed
pub strings_moved : (s t : Records) (shape : Shape) (ids blocks new_blocks : List ℕ) → ChangesFile s s shape format.properties_file ids ids
    → IsSameBeside format.strings_file s t → ChangesFile s t shape format.strings_file blocks new_blocks
    → ChangesRecords s t shape ids ids blocks new_blocks
strings_moved s t shape ids blocks new_blocks h beside k = record {
  properties = file_aside s t format.strings_file format.properties_file (inr refl) (inl refl) (λ e. absurd (omega arith)) beside shape ids h k.grows;
  strings = k;
  others = λ key p s' mp ms. beside key s' ms;
}

-- properties alone changed
pub properties_moved : (s t : Records) (shape : Shape) (ids new_ids blocks : List ℕ) → ChangesFile s s shape format.strings_file blocks blocks
    → IsSameBeside format.properties_file s t → ChangesFile s t shape format.properties_file ids new_ids
    → ChangesRecords s t shape ids new_ids blocks blocks
properties_moved s t shape ids new_ids blocks h beside k = record {
  properties = k;
  strings = file_aside s t format.properties_file format.strings_file (inl refl) (inr refl) (λ e. absurd (omega arith)) beside shape blocks h k.grows;
  others = λ key p s' mp ms. beside key p mp;
}
