-- A store whose own number is written is a well-formed store with the same graph.
use Rattle.std.proofs.Common.{◌≡◌, ◌≢◌, ◌∙◌, ap, sym, subst, ⊎_elim, ℕ, ◌<◌, ◌≤◌, true, List, [], ◌∷◌, refl, arith}
use Rattle.std.specs.List.{list_all}
use Rattle.rec_bytes.specs.declared.key.Key.{Key}
use Rattle.rec_bytes.specs.declared.record.Rec.{Rec}
use Rattle.rec_bytes.specs.declared.shape.Shape.{Shape}
use Rattle.rec_bytes.specs.Format.{meta_file, taken_id, taken_rest}
use Rattle.rec_bytes.specs.Meta.{IsMetaInRange, meta_of}
use Rattle.rec_bytes.specs.Record.{field, zeros, zeros_from}
use Rattle.rec_bytes.specs.RecordFiles.{is_meta_file, meta_key_of}
use Rattle.rec_bytes.specs.Shape.{shape_of_record, version_of}
use Rattle.rec_bytes.specs.Space.{put}
use Rattle.rec_bytes.proofs.RecordFiles.{is_meta_file-not_meta, is_meta_file-not_taken}
use Rattle.rec_bytes.proofs.Spaces.{put_other, put_other_file, put_same}
use Rattle.store_rules.specs.Graph.{graph_of}
use Rattle.store_rules.specs.Indexes.{IsIndexed}
use Rattle.store_rules.specs.Ranges.{AreInRange, Fits, is_reused}
use Rattle.store_rules.specs.RuleList.{AreSame, IsSameFile, IsSplitFile, KeepsThose, Slack, but_index, reads}
use Rattle.store_rules.specs.RuleList.Rule.{Counts, Defined, Degrees, Grouped, Labels, Linked, Names, Properties, Ranges, Split, Indexed}
use Rattle.store_rules.specs.Rules.{IsWellFormed}
use Rattle.store_rules.specs.Views.{Records, high, rec_at}
use Rattle.store_rules.proofs.NumberLaws.{and_parts, nat_cases}
use Rattle.store_rules.proofs.RuleStays.{all_of, by_name, stays}
use Rattle.store_rules.proofs.ViewLaws.{fits_more}

-- the number that no transaction has given
blank_high : field 4 zeros 0 ≡ 0
unfolding field
blank_high = refl

-- the key of the record with the number
abbrev number_key : Key
number_key = meta_key_of taken_id

module _ (records : Records) (number : Rec) where
  abbrev numbered : Records
  numbered = put records number_key number

  -- each file of records is the same, with its meta record
  meta_kept : (file : ℕ) → file ≢ taken_id → numbered (meta_key_of file) ≡ records (meta_key_of file)
  meta_kept file other = put_other records number_key number (meta_key_of file) (λ e. other (ap (λ (key : Key). key.id) e))

  same_file : (file : ℕ) → is_meta_file file ≡ true → IsSameFile records numbered file
  same_file file is = record {
    records = λ i x. put_other_file records number_key number (record { file = file; id = x }) (is_meta_file-not_meta file is) i;
    meta = meta_kept file (is_meta_file-not_taken file is);
  }

  all_same : (files : List ℕ) → list_all is_meta_file files ≡ true → AreSame records numbered files
  all_same [] are = tt
  all_same (file ∷ files) are = let both = and_parts (is_meta_file file) (list_all is_meta_file files) are in (same_file file both.0, all_same files both.1)

  -- no mark is smaller where there was no number
  marks : records number_key ≡ zeros → (file : ℕ) → high records file ≤ high numbered file
  marks blank file = ⊎_elim
      (λ (same : file ≡ taken_id).
      let none : high records taken_id ≡ 0 = ap (λ (r : Rec). (meta_of r).high) blank ∙ blank_high in
      subst (λ (f : ℕ). high records f ≤ high numbered f) (sym same) (omega (arith, none)))
      (λ (other : file ≢ taken_id). let same : high numbered file ≡ high records file = ap (λ (r : Rec). (meta_of r).high) (meta_kept file other) in omega
      (arith, same))
      (nat_cases file taken_id)

  not_taken : meta_file ≢ taken_id
  not_taken e = omega (arith, e)

  in_range : (shape : Shape) → records number_key ≡ zeros → zeros_from taken_rest number ≡ true → AreInRange records shape → AreInRange numbered shape
  in_range shape blank rest are = record {
    own = ap shape_of_record (meta_kept meta_file not_taken) ∙ are.own;
    newest = ap version_of (meta_kept meta_file not_taken) ∙ are.newest;
    taken = ap (zeros_from taken_rest) (put_same records number_key number) ∙ rest;
    metas = λ file is. subst (IsMetaInRange shape file) (sym (meta_kept file (is_meta_file-not_taken file is))) (are.metas file is);
    fit = λ file x is low.
        let same = same_file file is in
        let here : rec_at numbered file x ≡ rec_at records file x = ap (λ (recs : ℕ → Rec). recs x) same.records in
        subst (Fits (high numbered) file) (sym here)
        (fits_more (high records) (high numbered) file (rec_at records file x) (marks blank)
        (are.fit file x is (subst (λ (r : Rec). x < (meta_of r).high) same.meta low)));
  }

  reused_meta : (file : ℕ) → is_reused file ≡ true → is_meta_file file ≡ true
  reused_meta file is = (and_parts (is_meta_file file) _ is).0

  split_stays : (file : ℕ) (shape : Shape) (slack : Slack) → IsSplitFile records file → IsSplitFile numbered file
  split_stays file shape slack has = record {
    split = λ is. (stays records numbered (Split file) shape slack refl (same_file file (reused_meta file is), tt) has).split is;
    kept = λ is not. (stays records numbered (Split file) shape slack refl (same_file file is, tt) has).kept is not;
  }

  rules_stay : (shape : Shape) (slack : Slack) → records number_key ≡ zeros → zeros_from taken_rest number ≡ true → KeepsThose but_index records shape slack
      → KeepsThose but_index numbered shape slack
  rules_stay shape slack blank rest all Ranges e = in_range shape blank rest (all Ranges refl)
  rules_stay shape slack blank rest all (Split file) e = split_stays file shape slack (all (Split file) refl)
  rules_stay shape slack blank rest all Linked e = stays records numbered Linked shape slack refl (all_same (reads Linked) refl) (all Linked refl)
  rules_stay shape slack blank rest all Grouped e = stays records numbered Grouped shape slack refl (all_same (reads Grouped) refl) (all Grouped refl)
  rules_stay shape slack blank rest all Counts e = stays records numbered Counts shape slack refl (all_same (reads Counts) refl) (all Counts refl)
  rules_stay shape slack blank rest all Properties e = stays records numbered Properties shape slack refl (all_same (reads Properties) refl)
      (all Properties refl)
  rules_stay shape slack blank rest all Labels e = stays records numbered Labels shape slack refl (all_same (reads Labels) refl) (all Labels refl)
  rules_stay shape slack blank rest all Defined e = stays records numbered Defined shape slack refl (all_same (reads Defined) refl) (all Defined refl)
  rules_stay shape slack blank rest all Names e = stays records numbered Names shape slack refl (all_same (reads Names) refl) (all Names refl)
  rules_stay shape slack blank rest all Degrees e = stays records numbered Degrees shape slack refl (all_same (reads Degrees) refl) (all Degrees refl)
  rules_stay shape slack blank rest all Indexed e = absurd cc

  pub well_numbered : (shape : Shape) → records number_key ≡ zeros → zeros_from taken_rest number ≡ true → IsWellFormed records shape
      → IsWellFormed numbered shape
  well_numbered shape blank rest well =
      let slack : Slack = record { most = shape.threshold; empty = [] } in
      all_of numbered shape slack (rules_stay shape slack blank rest (by_name records shape shape.threshold [] well))

  pub indexed_numbered : (shape : Shape) → records number_key ≡ zeros → zeros_from taken_rest number ≡ true → IsIndexed records shape → IsIndexed numbered shape
  indexed_numbered shape blank rest store = record {
    store = well_numbered shape blank rest store.store;
    indexes = stays records numbered Indexed shape (record { most = shape.threshold; empty = [] }) refl (all_same (reads Indexed) refl) store.indexes;
  }

  pub graph-numbered : graph_of numbered ≡ graph_of records
  graph-numbered = refl
