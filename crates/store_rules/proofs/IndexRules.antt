-- Changes of the index's file alone: the first seven rules stay.
use Rattle.std.proofs.Common.{◌≡◌, ◌≢◌, ⊎_elim, inr, ℕ, ◌<◌, ◌≤◌, ◌^◌, true, ◌&&◌, not, nat_eq, List, [], ◌∷◌, length, refl, ap, sym, ◌∙◌, subst, arith}
use Rattle.std.specs.List.{list_all}
use Rattle.std.proofs.lemmas.Bool.{true≢false}
use Rattle.rec_bytes.specs.declared.key.Key.{Key}
use Rattle.rec_bytes.specs.declared.meta.Meta.{Meta}
use Rattle.rec_bytes.specs.declared.record.Rec.{Rec}
use Rattle.rec_bytes.specs.declared.shape.Shape.{Shape}
use Rattle.rec_bytes.specs.Format as format
use Rattle.rec_bytes.specs.Meta as metas
use Rattle.rec_bytes.specs.Meta.{IsLinkBelow, IsMetaInRange}
use Rattle.rec_bytes.specs.Record.{field, with_field}
use Rattle.rec_bytes.specs.RecordFiles.{is_meta_file, meta_key_of, room_of}
use Rattle.rec_bytes.specs.Space.{meta_in, put}
use Rattle.rec_bytes.proofs.MetaBytes.{zeros_from-with_field}
use Rattle.rec_bytes.proofs.Metas.{meta_of-definition}
use Rattle.rec_bytes.proofs.Numbers.{field-with_field_other, field-with_field_same}
use Rattle.rec_bytes.proofs.Spaces.{put_other, put_same}
use Rattle.store_rules.specs.Chains.{In, IsWalk}
use Rattle.store_rules.specs.Ranges.{AreInRange, Fits}
use Rattle.store_rules.specs.Rows.{ids}
use Rattle.store_rules.specs.RuleList.{AreSame, IsSameFile, IsSplitFile, KeepsThose, Slack, but_index, reads}
use Rattle.store_rules.specs.RuleList.Rule.{Counts, Defined, Degrees, Grouped, Labels, Linked, Names, Properties, Ranges, Split, Indexed}
use Rattle.store_rules.specs.Rules.{IsSplit, IsWellFormed, next_free}
use Rattle.store_rules.specs.Views.{Records, high, is_live, key_in, kind_at, kind_in, rec_at}
use Rattle.store_rules.proofs.ChainLaws.{walk_stays}
use Rattle.store_rules.proofs.Changes as ch
use Rattle.store_rules.proofs.Changes.{IsChanged}
use Rattle.store_rules.proofs.DefinedStays.{Defines, IsOfNames, defined_alike, defined_with}
use Rattle.store_rules.proofs.Made.{IsGone, IsMade}
use Rattle.store_rules.proofs.MetaLaws.{not_meta_key}
use Rattle.store_rules.proofs.NumberLaws.{and_parts, nat_cases}
use Rattle.store_rules.proofs.RuleStays.{all_of, by_name, stays}
use Rattle.store_rules.proofs.ViewLaws.{kind_by, kind_low, live_true}

-- every other file is as it was
abbrev pub OthersStay : Records → Records → Type 0
OthersStay s t = (f : ℕ) → is_meta_file f ≡ true → f ≢ format.index_file → IsSameFile s t f

module _ (s t : Records) (shape : Shape) (others : OthersStay s t) where
  abbrev slack : Slack
  slack = record { most = shape.threshold; empty = [] }

  all_same : (files : List ℕ) → list_all (λ f. is_meta_file f && not (nat_eq f format.index_file)) files ≡ true → AreSame s t files
  all_same [] are = tt
  all_same (f ∷ files) are =
      let both = and_parts (is_meta_file f && not (nat_eq f format.index_file)) (list_all (λ g. is_meta_file g && not (nat_eq g format.index_file)) files)
      are in
      let one = and_parts (is_meta_file f) (not (nat_eq f format.index_file)) both.0 in
      (others f one.0 (λ e. true≢false (sym one.1 ∙ ap (λ g. not (nat_eq g format.index_file)) e)), all_same files both.1)

  split_other : (f : ℕ) → f ≢ format.index_file → IsSplitFile s f → IsSplitFile t f
  split_other f ne has = record {
    split = λ is. (stays s t (Split f) shape slack refl (others f (and_parts (is_meta_file f) _ is).0 ne, tt) has).split is;
    kept = λ is not. (stays s t (Split f) shape slack refl (others f is ne, tt) has).kept is not;
  }

  -- The first rule, the second of the index, and that of its definitions are shown anew.
  by_rule : AreInRange t shape → IsSplitFile t format.index_file → Defines t → KeepsThose but_index s shape slack → KeepsThose but_index t shape slack
  by_rule ranges split defined all Ranges e = ranges
  by_rule ranges split defined all (Split f) e = ⊎_elim (λ (p : f ≡ format.index_file). subst (IsSplitFile t) (sym p) split)
      (λ (ne : f ≢ format.index_file). split_other f ne (all (Split f) refl)) (nat_cases f format.index_file)
  by_rule ranges split defined all Linked e = stays s t Linked shape slack refl (all_same (reads Linked) refl) (all Linked refl)
  by_rule ranges split defined all Grouped e = stays s t Grouped shape slack refl (all_same (reads Grouped) refl) (all Grouped refl)
  by_rule ranges split defined all Counts e = stays s t Counts shape slack refl (all_same (reads Counts) refl) (all Counts refl)
  by_rule ranges split defined all Properties e = stays s t Properties shape slack refl (all_same (reads Properties) refl) (all Properties refl)
  by_rule ranges split defined all Labels e = stays s t Labels shape slack refl (all_same (reads Labels) refl) (all Labels refl)
  by_rule ranges split defined all Defined e = defined
  by_rule ranges split defined all Names e = stays s t Names shape slack refl (all_same (reads Names) refl) (all Names refl)
  by_rule ranges split defined all Degrees e = stays s t Degrees shape slack refl (all_same (reads Degrees) refl) (all Degrees refl)
  by_rule ranges split defined all Indexed e = absurd cc

  pub rules_kept : AreInRange t shape → IsSplitFile t format.index_file → Defines t → IsWellFormed s shape → IsWellFormed t shape
  rules_kept ranges split defined well = all_of t shape slack (by_rule ranges split defined (by_name s shape shape.threshold [] well))

of_split : (t : Records) (free : List ℕ) → IsSplit t format.index_file (is_live t format.index_file) free → IsSplitFile t format.index_file
of_split t free split = record { split = λ is. (free, split); kept = λ is not. absurd (true≢false not) }

-- the other files, where one record of the index changed
pub changed_others : (s t : Records) (id : ℕ) → IsChanged s t format.index_file id → OthersStay s t
changed_others s t id change f is ne = record {
  records = ch.file_same s t format.index_file id change f is ne;
  meta = ch.other_meta s t format.index_file id
      change f ne;
}

-- A record that fits came into use, and if it is a definition its label and its key are names.
pub made_kept : (s t : Records) (shape : Shape) (id : ℕ) (rec : Rec) → IsMade s t shape format.index_file id rec → Fits (high t) format.index_file rec
    → (field 1 rec format.kind ≡ format.definition → IsOfNames s rec) → IsWellFormed s shape → IsWellFormed t shape
made_kept s t shape id rec made fits names well = rules_kept s t shape (changed_others s t id made.change)
    (ch.in_range s t format.index_file id made.change shape made.meta (λ lt. subst (Fits (high t) format.index_file) (sym made.here) fits) well.ranges)
    (of_split t made.free made.split)
    (defined_with s t id made.change (λ is. subst (IsOfNames s) (sym made.here) (names (ap (λ (r : Rec). field 1 r format.kind) (sym made.here) ∙ sym
    (kind_low (high t format.index_file) (rec_at t format.index_file id) id made.below) ∙ is))) well.defined) well

-- A record went.
pub gone_kept : (s t : Records) (shape : Shape) (id : ℕ) → IsGone s t shape format.index_file id → IsWellFormed s shape → IsWellFormed t shape
gone_kept s t shape id gone well = rules_kept s t shape (changed_others s t id gone.change)
    (ch.in_range s t format.index_file id gone.change shape gone.meta (λ lt. gone.fits) well.ranges)
    (of_split t gone.free gone.split) (defined_with s t id gone.change (λ is. let e = sym gone.gone ∙ is in omega (arith, e)) well.defined) well

-- ---- a number of a record in use was set, which is no definition, and the record still fits

module _ (s : Records) (x at to : ℕ) (used : kind_at s format.index_file x ≢ format.free_kind) (behind : 1 ≤ at) where
  abbrev rec : Rec
  rec = with_field 4 (rec_at s format.index_file x) at to

  abbrev pub set_in : Records
  set_in = put s (key_in format.index_file x) rec

  set_meta : (f : ℕ) → set_in (meta_key_of f) ≡ s (meta_key_of f)
  set_meta f = put_other s (key_in format.index_file x) rec (meta_key_of f) (λ e. not_meta_key format.index_file x f refl (sym e))

  pub set_mark : (f : ℕ) → high set_in f ≡ high s f
  set_mark f = ap (λ (r : Rec). (metas.meta_of r).high) (set_meta f)

  set_other : (y : ℕ) → y ≢ x → rec_at set_in format.index_file y ≡ rec_at s format.index_file y
  set_other y ne = put_other s (key_in format.index_file x) rec (key_in format.index_file y) (λ e. ne (ap (λ (k : Key). k.id) e))

  set_here : rec_at set_in format.index_file x ≡ rec
  set_here = put_same s (key_in format.index_file x) rec

  set_byte : (y : ℕ) → field 1 (rec_at set_in format.index_file y) format.kind ≡ field 1 (rec_at s format.index_file y) format.kind
  set_byte y = ⊎_elim
      (λ (p : y ≡ x). ap (λ z. field 1 (rec_at set_in format.index_file z) format.kind) p ∙ ap (λ (r : Rec). field 1 r format.kind) set_here
      ∙ field-with_field_other 4 (rec_at s format.index_file x) at to 1 format.kind (omega arith) (inr (omega arith))
      ∙ ap (λ z. field 1 (rec_at s format.index_file z) format.kind) (sym p))
      (λ (ne : y ≢ x). ap (λ (r : Rec). field 1 r format.kind) (set_other y ne)) (nat_cases y x)

  pub set_kind : (y : ℕ) → kind_at set_in format.index_file y ≡ kind_at s format.index_file y
  set_kind y = ap (λ m. kind_in m (rec_at set_in format.index_file y) y) (set_mark format.index_file)
      ∙ kind_by (high s format.index_file) (rec_at set_in format.index_file y) (rec_at s format.index_file y) y (set_byte y)

  set_change : IsChanged s set_in format.index_file x
  set_change = record {
    is_file = refl;
    others = λ key a b. put_other s (key_in format.index_file x) rec key b;
    more = let e = set_mark format.index_file in omega arith;
    covers = λ y lt ne. let e = set_mark format.index_file in omega arith;
  }

  pub set_others : OthersStay s set_in
  set_others = changed_others s set_in x set_change

  set_split : (free : List ℕ) → IsSplit s format.index_file (is_live s format.index_file) free
      → IsSplit set_in format.index_file (is_live set_in format.index_file) free
  set_split free k =
      let live : is_live set_in format.index_file ≡ is_live s format.index_file = λ i y. not (nat_eq (set_kind y i) 0) in
      let not_x : (y : ℕ) → In y free → y ≢ x = λ y i e. true≢false (sym (live_true (kind_at s format.index_file x) used) ∙ ap (is_live s format.index_file)
      (sym e) ∙ k.only y i) in
      let meta : meta_in set_in format.index_file ≡ meta_in s format.index_file = ap metas.meta_of (set_meta format.index_file) in
      subst (λ l. IsSplit set_in format.index_file l free) (sym live) (record {
        walk = subst (λ (m : Meta). IsWalk (next_free set_in format.index_file) m.free free) (sym meta)
            (walk_stays (next_free s format.index_file) (next_free set_in format.index_file) (meta_in s format.index_file).free free
            (λ y i. ap (λ (r : Rec). field 4 r format.free_next) (set_other y (not_x y i))) k.walk);
        low = λ y i. subst (λ m. y < m) (sym (set_mark format.index_file)) (k.low y i);
        only = k.only;
        all = λ y lt. k.all y (subst (λ m. y < m) (set_mark format.index_file) lt);
        exact = ap (λ (m : Meta). m.live) meta ∙ k.exact ∙ ap (λ m. length (ids (is_live s format.index_file) m)) (sym (set_mark format.index_file));
      })

  pub set_kept : (shape : Shape) → kind_at s format.index_file x ≢ format.definition
      → (Fits (high s) format.index_file (rec_at s format.index_file x) → Fits (high s) format.index_file rec) → IsWellFormed s shape
      → IsWellFormed set_in shape
  set_kept shape plain fits well =
      let ranges : AreInRange s shape = well.ranges in
      let split = well.split format.index_file refl in
      let marks : high s ≡ high set_in = λ i f. sym (set_mark f) i in
      rules_kept s set_in shape set_others
      (ch.in_range s set_in format.index_file x set_change shape (subst (IsMetaInRange shape format.index_file) (sym (set_meta format.index_file))
      (ranges.metas format.index_file refl))
      (λ lt. subst (Fits (high set_in) format.index_file) (sym set_here) (subst (λ (m : ℕ → ℕ). Fits m format.index_file rec) marks
      (fits (ranges.fit format.index_file x refl (let e = set_mark format.index_file in omega arith))))) ranges)
      (of_split set_in split.0 (set_split split.0 split.1)) (defined_with s set_in x set_change (λ is. absurd (plain (sym (set_kind x) ∙ is))) well.defined)
      well

-- ---- the first definition was set

module _ (s : Records) (d : ℕ) (small : d < 2 ^ 32) where
  abbrev metas_key : Key
  metas_key = meta_key_of format.index_file

  abbrev first_rec : Rec
  first_rec = with_field 4 (s metas_key) format.meta_definition d

  abbrev pub with_first : Records
  with_first = put s metas_key first_rec

  first_here : with_first metas_key ≡ first_rec
  first_here = put_same s metas_key first_rec

  first_elsewhere : (key : Key) → key ≢ metas_key → with_first key ≡ s key
  first_elsewhere key ne = put_other s metas_key first_rec key ne

  first_mark : (f : ℕ) → high with_first f ≡ high s f
  first_mark f = ⊎_elim
      (λ (p : f ≡ format.index_file). subst (λ g. high with_first g ≡ high s g) (sym p) (ap (λ (r : Rec). (metas.meta_of r).high) first_here ∙ ap
      (λ (m : Meta). m.high) (meta_of-definition (s metas_key) d)))
      (λ (ne : f ≢ format.index_file). ap (λ (r : Rec). (metas.meta_of r).high) (first_elsewhere (meta_key_of f) (λ e. ne (ap (λ (k : Key). k.id) e))))
      (nat_cases f format.index_file)

  pub first_record : (x : ℕ) → rec_at with_first format.index_file x ≡ rec_at s format.index_file x
  first_record x = first_elsewhere (key_in format.index_file x) (not_meta_key format.index_file x format.index_file refl)

  pub first_kind : (x : ℕ) → kind_at with_first format.index_file x ≡ kind_at s format.index_file x
  first_kind x = λ i. kind_in (first_mark format.index_file i) (first_record x i) x

  pub first_now : field 4 (with_first metas_key) format.meta_definition ≡ d
  first_now = ap (λ (r : Rec). field 4 r format.meta_definition) first_here ∙ field-with_field_same 4 (s metas_key) format.meta_definition d (omega arith) small

  first_change : IsChanged s with_first format.index_file 0
  first_change = record {
    is_file = refl;
    others = λ key a b. first_elsewhere key a;
    more = let e = first_mark format.index_file in omega arith;
    covers = λ y lt ne. let e = first_mark format.index_file in omega arith;
  }

  pub first_others : OthersStay s with_first
  first_others = changed_others s with_first 0 first_change

  first_split : (free : List ℕ) → IsSplit s format.index_file (is_live s format.index_file) free
      → IsSplit with_first format.index_file (is_live with_first format.index_file) free
  first_split free k =
      let live : is_live with_first format.index_file ≡ is_live s format.index_file = λ i y. not (nat_eq (first_kind y i) 0) in
      let meta : meta_in with_first format.index_file ≡ meta_in s format.index_file = ap metas.meta_of first_here ∙ meta_of-definition (s metas_key) d in
      subst (λ l. IsSplit with_first format.index_file l free) (sym live) (record {
        walk = subst (λ (m : Meta). IsWalk (next_free with_first format.index_file) m.free free) (sym meta)
            (walk_stays (next_free s format.index_file) (next_free with_first format.index_file) (meta_in s format.index_file).free free
            (λ y i. ap (λ (r : Rec). field 4 r format.free_next) (first_record y)) k.walk);
        low = λ y i. subst (λ m. y < m) (sym (first_mark format.index_file)) (k.low y i);
        only = k.only;
        all = λ y lt. k.all y (subst (λ m. y < m) (first_mark format.index_file) lt);
        exact = ap (λ (m : Meta). m.live) meta ∙ k.exact ∙ ap (λ m. length (ids (is_live s format.index_file) m)) (sym (first_mark format.index_file));
      })

  first_range : (shape : Shape) → IsLinkBelow d (high s format.index_file) → IsMetaInRange shape format.index_file (s metas_key)
      → IsMetaInRange shape format.index_file (with_first metas_key)
  first_range shape low old =
      let same : metas.meta_of first_rec ≡ metas.meta_of (s metas_key) = meta_of-definition (s metas_key) d in
      subst (IsMetaInRange shape format.index_file) (sym first_here) (record {
        high = subst (λ (m : Meta). m.high ≤ room_of shape format.index_file) (sym same) old.high;
        free = subst (λ (m : Meta). IsLinkBelow m.free m.high) (sym same) old.free;
        first = λ is. subst (λ (n : ℕ). IsLinkBelow n (metas.meta_of first_rec).high)
            (sym (field-with_field_same 4 (s metas_key) format.meta_definition d (omega arith) small))
            (subst (λ (m : Meta). IsLinkBelow d m.high) (sym same) low);
        rest = zeros_from-with_field 4 (s metas_key) format.meta_definition d format.meta_index_rest (omega arith) (omega arith) old.rest;
      })

  pub first_kept : (shape : Shape) → IsLinkBelow d (high s format.index_file) → IsWellFormed s shape → IsWellFormed with_first shape
  first_kept shape low well =
      let ranges : AreInRange s shape = well.ranges in
      let split = well.split format.index_file refl in
      let marks : high s ≡ high with_first = λ i f. sym (first_mark f) i in
      rules_kept s with_first shape first_others
      (ch.in_range s with_first format.index_file 0 first_change shape (first_range shape low (ranges.metas format.index_file refl))
      (λ lt. subst (Fits (high with_first) format.index_file) (sym (first_record 0)) (subst (λ (m : ℕ → ℕ). Fits m format.index_file
      (rec_at s format.index_file 0)) marks (ranges.fit format.index_file 0 refl (let e = first_mark format.index_file in omega arith)))) ranges)
      (of_split with_first split.0 (first_split split.0 split.1)) (defined_alike s with_first (λ e is. (sym (first_kind e) ∙ is, first_record e))
      (let e = first_mark format.names_file in omega (arith, e)) well.defined) well
