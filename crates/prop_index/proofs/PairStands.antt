-- A definition that was made stands when its index is filled.
use Rattle.std.specs.Prelude.{Bool, false, if◌then◌else◌, nat_eq, true}
use Rattle.std.proofs.Common.{◌≡◌, ◌≢◌, ◌∙◌, ℕ, List, [], ◌∷◌, ap, inl, inr, refl, subst, ⊎_elim}
use Rattle.rec_bytes.specs.declared.key.Key.{Key}
use Rattle.rec_bytes.specs.declared.record.Rec.{Rec}
use Rattle.rec_bytes.specs.Format as format
use Rattle.rec_bytes.specs.Record.{field}
use Rattle.rec_bytes.specs.Space.{IsAmong, State}
use Rattle.store_rules.specs.Chains.{In}
use Rattle.store_rules.specs.Indexes.{index_rec}
use Rattle.store_rules.specs.Views.{key_in}
use Rattle.store_rules.proofs.MetaLaws.{not_meta_key}
use Rattle.store_rules.proofs.NumberLaws.{nat_cases}
use Rattle.prop_store.specs.Touching.{TouchesOnly}
use Rattle.prop_index.specs.Defining.{HasPair, IsDefined, KeepsBeside}
use Rattle.prop_index.specs.Touching.{front_ids, index_keys, some_id}
use Rattle.prop_index.specs.declared.finding.Definition.{Definition}
use Rattle.prop_index.proofs.Sparing.{is_definition}

in_keys : (xs : List ℕ) (x : ℕ) → IsAmong (key_in format.index_file x) (index_keys xs) → In x xs
in_keys [] x (inl e) = absurd (not_meta_key format.index_file x format.index_file refl e)
in_keys [] x (inr i) = absurd i
in_keys (y ∷ ys) x (inl e) = inl (ap (λ (k : Key). k.id) e)
in_keys (y ∷ ys) x (inr i) = inr (in_keys ys x i)

in_if : (b : Bool) (first x : ℕ) → In x (if b then [] else first ∷ []) → x ≡ first
in_if true first x i = absurd i
in_if false first x (inl e) = e
in_if false first x (inr i) = absurd i

-- another record is as it was when an entry is put in front
pub apart_rec : (tells : Type 0) (s t : State) (id head first x : ℕ) → tells → TouchesOnly tells s t (index_keys (front_ids id head first)) → x ≢ id → x ≢ head
    → (first ≢ format.nil → x ≢ first) → index_rec t.records x ≡ index_rec s.records x
apart_rec tells s t id head first x told h a b d =
    ⊎_elim (λ (e : t.records (key_in format.index_file x) ≡ s.records (key_in format.index_file x)). e)
    (λ (i : IsAmong (key_in format.index_file x) (index_keys (front_ids id head first))). absurd (out (in_keys (front_ids id head first) x i)))
    ((h.stays told).each (key_in format.index_file x))
  where
    last : In x (some_id first) → ⊥
    last i = ⊎_elim
        (λ (e : first ≡ format.nil). let none : In x [] = subst (λ f. In x (some_id f)) e i in absurd none)
        (λ (ne : first ≢ format.nil). d ne (in_if (nat_eq first format.nil) first x i))
        (nat_cases first format.nil)

    out : In x (front_ids id head first) → ⊥
    out (inl e) = a e
    out (inr (inl e)) = b e
    out (inr (inr i)) = last i

pub pair_stands : (m t : State) (label key : ℕ) (definition : Definition) → IsDefined m label key definition → KeepsBeside m t definition.rec
    → HasPair t.records label key
pair_stands m t label key definition defined beside =
    let kept = beside definition.id defined.used defined.apart in
    let here : index_rec t.records definition.id ≡ definition.rec = kept.1 ∙ defined.here in (
      definition.id,
      is_definition t.records definition.id kept.0 (ap (λ (r : Rec). field 1 r format.kind) here ∙ defined.kind),
      ap (λ (r : Rec). field 4 r format.definition_label) here ∙ defined.label_is,
      ap (λ (r : Rec). field 4 r format.definition_key) here ∙ defined.key_is,
    )
