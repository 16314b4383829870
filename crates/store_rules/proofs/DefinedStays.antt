-- Labels and keys of definitions stay names.
use Rattle.std.proofs.Common.{◌≡◌, ◌≢◌, ⊎_elim, ℕ, ◌<◌, ◌≤◌, ap, sym, ◌∙◌, subst, arith, refl}
use Rattle.rec_bytes.specs.declared.record.Rec.{Rec}
use Rattle.rec_bytes.specs.Format as format
use Rattle.rec_bytes.specs.Meta as metas
use Rattle.rec_bytes.specs.Record.{field}
use Rattle.store_rules.specs.RuleList.{IsSameFile}
use Rattle.store_rules.specs.Views.{Records, high, kind_at, kind_in, rec_at}
use Rattle.store_rules.proofs.Changes as ch
use Rattle.store_rules.proofs.Changes.{IsChanged}
use Rattle.store_rules.proofs.NumberLaws.{nat_cases}
use Rattle.store_rules.specs.Rules.{KeepsDefinitions}

-- what the rule says of the definitions of a store
abbrev pub Defines : Records → Type 0
Defines s = KeepsDefinitions s

-- the label and the key of a record are names
abbrev pub IsOfNames : Records → Rec → Type 0
IsOfNames s r = (field 4 r format.definition_label < high s format.names_file) × (field 4 r format.definition_key < high s format.names_file)

-- where definitions are what they were, and names came
pub defined_alike : (s t : Records) → ((d : ℕ) → kind_at t format.index_file d ≡ format.definition → (kind_at s format.index_file d ≡ format.definition) ×
    (rec_at t format.index_file d ≡ rec_at s format.index_file d))
    → high s format.names_file ≤ high t format.names_file → Defines s → Defines t
defined_alike s t alike more h = record {
  labels = λ d is. let a = alike d is in let low = h.labels d a.0 in subst (λ (r : Rec). field 4 r format.definition_label < high t format.names_file) (sym a.1)
      (omega (arith, low, more));
  keys = λ d is. let a = alike d is in let low = h.keys d a.0 in subst (λ (r : Rec). field 4 r format.definition_key < high t format.names_file) (sym a.1)
      (omega (arith, low, more));
}

-- the file of the index stayed
pub defined_stay : (s t : Records) → IsSameFile s t format.index_file → high s format.names_file ≤ high t format.names_file → Defines s → Defines t
defined_stay s t same more = defined_alike s t (λ d is. (sym (kind d) ∙ is, ap (λ (f : ℕ → Rec). f d) same.records)) more
  where
    mark : high t format.index_file ≡ high s format.index_file
    mark = ap (λ (r : Rec). (metas.meta_of r).high) same.meta

    kind : (d : ℕ) → kind_at t format.index_file d ≡ kind_at s format.index_file d
    kind d = λ i. kind_in (mark i) (same.records i d) d

-- one record of another file changed
pub changed_defined : (s t : Records) (file id : ℕ) → IsChanged s t file id → file ≢ format.index_file → Defines s → Defines t
changed_defined s t file id change other = defined_stay s t (record {
  records = ch.file_same s t file id change format.index_file refl (λ e. other (sym e));
  meta = ch.other_meta s t file id change format.index_file (λ e. other (sym e));
}) (ch.marks_le s t file id change format.names_file)

-- one record of the index changed, and if it is a definition now its label and its key are names
pub defined_with : (s t : Records) (id : ℕ) → IsChanged s t format.index_file id
    → (kind_at t format.index_file id ≡ format.definition → IsOfNames s (rec_at t format.index_file id)) → Defines s → Defines t
defined_with s t id change now h = record {
  labels = λ d is. subst (λ n. field 4 (rec_at t format.index_file d) format.definition_label < n) (sym names) (label d is);
  keys = λ d is. subst (λ n. field 4 (rec_at t format.index_file d) format.definition_key < n) (sym names) (key d is);
}
  where
    names : high t format.names_file ≡ high s format.names_file
    names = ch.mark_same s t format.index_file id change format.names_file (λ e. omega arith)

    other : (d : ℕ) → d ≢ id → rec_at t format.index_file d ≡ rec_at s format.index_file d
    other d ne = ch.other_record s t format.index_file id change format.index_file d refl (λ _. ne)

    label : (d : ℕ) → kind_at t format.index_file d ≡ format.definition
        → field 4 (rec_at t format.index_file d) format.definition_label < high s format.names_file
    label d is = ⊎_elim
        (λ (e : d ≡ id). subst (λ z. field 4 (rec_at t format.index_file z) format.definition_label < high s format.names_file) (sym e)
        ((now (ap (kind_at t format.index_file) (sym e) ∙ is)).0))
        (λ (ne : d ≢ id). subst (λ (r : Rec). field 4 r format.definition_label < high s format.names_file) (sym (other d ne))
        (h.labels d (sym (ch.kind_other s t format.index_file id change d ne) ∙ is)))
        (nat_cases d id)

    key : (d : ℕ) → kind_at t format.index_file d ≡ format.definition → field 4 (rec_at t format.index_file d) format.definition_key < high s format.names_file
    key d is = ⊎_elim
        (λ (e : d ≡ id). subst (λ z. field 4 (rec_at t format.index_file z) format.definition_key < high s format.names_file) (sym e)
        ((now (ap (kind_at t format.index_file) (sym e) ∙ is)).1))
        (λ (ne : d ≢ id). subst (λ (r : Rec). field 4 r format.definition_key < high s format.names_file) (sym (other d ne))
        (h.keys d (sym (ch.kind_other s t format.index_file id change d ne) ∙ is)))
        (nat_cases d id)
