-- An entry that was taken, written and linked is one that the rule of an index knows.
use Rattle.std.proofs.Common.{◌≡◌, ◌≢◌, ⊎_elim, ℕ, ◌<◌, ◌≤◌, ◌^◌, List, [], ◌∷◌, refl, ap, sym, ◌∙◌, subst, inl, arith}
use Rattle.rec_bytes.specs.declared.key.Key.{Key}
use Rattle.rec_bytes.specs.declared.record.Rec.{Rec}
use Rattle.rec_bytes.specs.Format as format
use Rattle.rec_bytes.specs.Meta as metas
use Rattle.rec_bytes.specs.Record.{field, with_field, zeros}
use Rattle.rec_bytes.specs.RecordFiles.{meta_key_of}
use Rattle.rec_bytes.specs.Space.{State, after_put, after_set, meta_in}
use Rattle.rec_bytes.specs.Tables.{AllFit}
use Rattle.rec_bytes.proofs.Metas.{definition-with_meta}
use Rattle.rec_bytes.proofs.Numbers.{field-lt}
use Rattle.rec_bytes.proofs.Spaces.{put_other, put_same}
use Rattle.rec_bytes.proofs.Tables.{field-with_fields}
use Rattle.store_rules.specs.Chains.{In}
use Rattle.store_rules.specs.Indexes.{index_rec}
use Rattle.store_rules.specs.Views.{Records, high, key_in, kind_at}
use Rattle.store_rules.specs.IndexChange.{IsEntryMade}
use Rattle.store_rules.proofs.MetaLaws.{high_fits}
use Rattle.store_rules.proofs.NumberLaws.{nat_cases}
use Rattle.store_rules.proofs.ViewLaws.{kind_below, kind_low}
use Rattle.id_freelist.specs.Taking.{HasTaken, first_of, mark_after}
use Rattle.prop_index.specs.Linking.{backed_entry, entry_fields, entry_record, linked_entry}
use Rattle.prop_index.proofs.Steps.{backed-none, backed-some, linked-is}
use Rattle.prop_index.specs.declared.entry_row.Content.{Content}
use Rattle.prop_index.specs.declared.heads.Slot.{Slot}

abbrev at : ℕ → Key
at x = key_in format.index_file x

apart : (x y : ℕ) → x ≢ y → at x ≢ at y
apart x y ne e = ne (ap (λ (k : Key). k.id) e)

-- the mark only grows by the identifier that was taken
mark_more : (free : List ℕ) (mark : ℕ) → mark ≤ mark_after free mark
mark_more [] mark = omega arith
mark_more (x ∷ later) mark = omega arith

mark_only : (free : List ℕ) (mark id y : ℕ) → id ≡ first_of free mark → y ≢ id → y < mark_after free mark → y < mark
mark_only [] mark id y is ne lt = omega arith
mark_only (x ∷ later) mark id y is ne lt = lt

module _ (s : Records) (u : State) (slot : Slot) (first id : ℕ) (content : Content) (free : List ℕ) (taken : HasTaken s u.records format.index_file id free)
    (below : id < high u.records format.index_file) (fresh : kind_at s format.index_file id ≡ format.free_kind) (small : id < format.most_ids)
    (heads : kind_at s format.index_file slot.id ≡ format.heads) (is_first : first ≡ field 4 (index_rec s slot.id) slot.place)
    (entry : first ≢ format.nil → kind_at s format.index_file first ≡ format.indexed) (node_fits : content.node < 2 ^ 32) (hash_fits : content.hash < 2 ^ 64)
  where
    abbrev rec : Rec
    rec = entry_record content.node first content.hash

    abbrev one : State
    one = after_put u (at id) rec

    abbrev two : State
    two = backed_entry one first id

    abbrev three : State
    three = linked_entry u slot first id content

    three_is : three ≡ after_set two (at slot.id) 4 slot.place id
    three_is = linked-is u slot first id content

    two_none : first ≡ format.nil → two ≡ one
    two_none = backed-none one first id

    two_some : first ≢ format.nil → two ≡ after_set one (at first) 4 format.indexed_previous id
    two_some = backed-some one first id

    -- records of other keys
    one_other : (key : Key) → key ≢ at id → key ≢ meta_key_of format.index_file → one.records key ≡ s key
    one_other key ne no_meta = put_other u.records (at id) rec key ne ∙ taken.others key no_meta

    two_other : (key : Key) → key ≢ at first → two.records key ≡ one.records key
    two_other key ne = ⊎_elim
        (λ (e : first ≡ format.nil). ap (λ (z : State). z.records key) (two_none e))
        (λ (some : first ≢ format.nil). ap (λ (z : State). z.records key) (two_some some) ∙ put_other one.records (at first)
        (with_field 4 (one.records (at first)) format.indexed_previous id) key ne)
        (nat_cases first format.nil)

    three_other : (key : Key) → key ≢ at slot.id → three.records key ≡ two.records key
    three_other key ne = ap (λ (z : State). z.records key) three_is ∙ put_other two.records (at slot.id) (with_field 4 (two.records (at slot.id)) slot.place id)
        key ne

    not_meta : (x : ℕ) → at x ≢ meta_key_of format.index_file
    not_meta x e = let f = ap (λ (k : Key). k.file) e in omega (arith, f)

    used_some : (y : ℕ) → kind_at s format.index_file y ≢ format.free_kind → y ≢ format.nil
    used_some y used e = let lt = kind_below (high s format.index_file) (index_rec s y) y used in let fits = high_fits s format.index_file in omega arith

    slot_not_new : slot.id ≢ id
    slot_not_new e = let k = ap (kind_at s format.index_file) e in omega (arith, k, heads, fresh)

    slot_not_first : slot.id ≢ first
    slot_not_first e = ⊎_elim
        (λ (n : first ≡ format.nil). used_some slot.id (λ q. omega (arith, q, heads)) (e ∙ n))
        (λ (some : first ≢ format.nil). let k = ap (kind_at s format.index_file) e in let f = entry some in omega (arith, k, heads, f))
        (nat_cases first format.nil)

    new_not_first : id ≢ first
    new_not_first e = ⊎_elim
        (λ (n : first ≡ format.nil). omega (arith, e, n, small))
        (λ (some : first ≢ format.nil). let k = ap (kind_at s format.index_file) e in let f = entry some in omega (arith, k, fresh, f))
        (nat_cases first format.nil)

    here : index_rec three.records id ≡ rec
    here = three_other (at id) (apart id slot.id (λ e. slot_not_new (sym e))) ∙ two_other (at id) (apart id first new_not_first) ∙ put_same u.records (at id)
        rec

    meta_rec : three.records (meta_key_of format.index_file) ≡ u.records (meta_key_of format.index_file)
    meta_rec = three_other (meta_key_of format.index_file) (λ e. not_meta slot.id (sym e))
        ∙ two_other (meta_key_of format.index_file) (λ e. not_meta first (sym e))
        ∙ put_other u.records (at id) rec (meta_key_of format.index_file) (λ e. not_meta id (sym e))

    mark_now : high three.records format.index_file ≡ mark_after free (high s format.index_file)
    mark_now = ap (λ (r : Rec). (metas.meta_of r).high) meta_rec ∙ taken.mark

    pub made : IsEntryMade s three.records id slot.id slot.place content.node content.hash
    made = record {
      fresh = fresh;
      some = omega (arith, small);
      small = omega (arith, small);
      grows = let m = mark_more free (high s format.index_file) in let n = mark_now in omega (arith, m, n);
      only = λ y ne lt. mark_only free (high s format.index_file) id y taken.is ne (subst (λ m. y < m) mark_now lt);
      first = ap (λ (r : Rec). field 4 r format.meta_definition) (meta_rec ∙ taken.meta)
          ∙ definition-with_meta (s (meta_key_of format.index_file)) (meta_in u.records format.index_file);
      kind = let m = ap (λ (r : Rec). (metas.meta_of r).high) meta_rec in
          kind_low (high three.records format.index_file) (index_rec three.records id) id (omega (arith, below, m)) ∙ ap (λ (r : Rec). field 1 r format.kind)
          here
          ∙ field-with_fields 1 zeros (entry_fields content.node first content.hash) format.kind format.indexed refl fit refl;
      node_is = ap (λ (r : Rec). field 4 r format.indexed_node) here ∙ field-with_fields 4 zeros (entry_fields content.node first content.hash)
          format.indexed_node content.node refl fit refl;
      hash_is = ap (λ (r : Rec). field 8 r format.indexed_hash) here ∙ field-with_fields 8 zeros (entry_fields content.node first content.hash)
          format.indexed_hash content.hash refl fit refl;
      next = ap (λ (r : Rec). field 4 r format.indexed_next) here ∙ field-with_fields 4 zeros (entry_fields content.node first content.hash) format.indexed_next
          first refl fit refl ∙ is_first;
      previous = ap (λ (r : Rec). field 4 r format.indexed_previous) here
          ∙ field-with_fields 4 zeros (entry_fields content.node first content.hash) format.indexed_previous format.nil refl fit refl;
      after = subst (λ f. f ≢ format.nil → index_rec three.records f ≡ with_field 4 (index_rec s f) format.indexed_previous id) is_first (λ some.
          three_other (at first) (apart first slot.id (λ e. slot_not_first (sym e))) ∙ ap (λ (z : State). z.records (at first)) (two_some some)
          ∙ put_same one.records (at first) (with_field 4 (one.records (at first)) format.indexed_previous id)
          ∙ ap (λ (r : Rec). with_field 4 r format.indexed_previous id) (one_other (at first) (apart first id (λ e. new_not_first (sym e))) (not_meta first)));
      head = ap (λ (z : State). z.records (at slot.id)) three_is ∙ put_same two.records (at slot.id) (with_field 4 (two.records (at slot.id)) slot.place id)
          ∙ ap (λ (r : Rec). with_field 4 r slot.place id) (two_other (at slot.id) (apart slot.id first slot_not_first) ∙ one_other (at slot.id)
          (apart slot.id id slot_not_new) (not_meta slot.id));
      others = λ y a b c. three_other (at y) (apart y slot.id c) ∙ two_other (at y) (apart y first (λ e. b (e ∙ is_first)))
          ∙ one_other (at y) (apart y id a) (not_meta y);
    }
      where
        fit : AllFit (entry_fields content.node first content.hash)
        fit = (omega arith, (node_fits, (omega arith, (subst (λ f. f < 2 ^ 32) (sym is_first) (field-lt 4 (index_rec s slot.id) slot.place), (hash_fits, tt)))))

-- an identifier that was taken is below the mark
pub below_taken : (s : Records) (u : Records) (id : ℕ) (free : List ℕ) → HasTaken s u format.index_file id free
    → ((x : ℕ) → In x free → x < high s format.index_file) → id < high u format.index_file
below_taken s u id [] taken low = let m = taken.mark in let i = taken.is in omega (arith, m, i)
below_taken s u id (x ∷ later) taken low = let m = taken.mark in let i = taken.is in let l = low x (inl refl) in omega (arith, m, i, l)
