-- The value of a key taken away: what leads to its property leads to the next one.
use Rattle.std.proofs.Common.{◌≡◌, ◌≢◌, ◌⊎◌, ℕ, ◌<◌, ◌^◌, true, Some, List, [], ◌∷◌, ◌++◌, sym, ap, ◌∙◌, subst, inl, inr, ⊎_elim, append_assoc, arith, refl}
use Rattle.rec_bytes.specs.declared.key.Key.{Key}
use Rattle.rec_bytes.specs.Format as format
use Rattle.rec_bytes.specs.Record.{field, with_field}
use Rattle.rec_bytes.specs.Space.{State, after_set}
use Rattle.store_rules.specs.Chains.{In}
use Rattle.store_rules.specs.Properties.{AreLinked, AreProperties, Property, blocks_of, content_for, content_of}
use Rattle.store_rules.specs.Properties.{first_property, head_of, ids_of, keys_of, property_records}
use Rattle.store_rules.specs.Views.{high, is_live, key_in, rec_at}
use Rattle.store_rules.proofs.LinkFits.{IsLow}
use Rattle.store_rules.proofs.PropertyStays.{linked_stay}
use Rattle.prop_store.specs.Alone.{OwnsProperties, RemovesAlone}
use Rattle.prop_store.specs.Dropping.{ChangesRecords, DropsProperty}
use Rattle.prop_store.specs.Link.{link_after, link_of, next_link}
use Rattle.prop_store.specs.Owner.{IsOwner, first_of}
use Rattle.prop_store.specs.declared.link.Link.{Link}
use Rattle.prop_store.specs.declared.owner.Owner.{Owner}
use Rattle.prop_store.proofs.DropSteps.{live_low}
use Rattle.prop_store.proofs.ElementChanges.{first_kept, first_set, list_changed}
use Rattle.prop_store.proofs.ElementParts.{are_parts, other_blocks_kept, other_kept, replaced_records}
use Rattle.prop_store.proofs.ElementSteps.{SetsFirst}
use Rattle.prop_store.proofs.FileSteps.{file_now, keeps_file}
use Rattle.prop_store.proofs.LinkChanges.{link_here, link_moved, link_others, linked_around, not_its_id, replaces_same, without_one}
use Rattle.prop_store.proofs.ListLaws.{in_either, in_left, in_right}
use Rattle.prop_store.proofs.PropertyParts.{LastLink, blocks_both, ids_parts, last_link}
use Rattle.prop_store.proofs.PropertyRecords.{used-content}
use Rattle.prop_store.proofs.RecordMoves.{records_then}

-- behind one, what comes first stays
first_behind : (before : List Property) (last : Property) (rest other : List Property)
    → first_property ((before ++ last ∷ []) ++ rest) ≡ first_property ((before ++ last ∷ []) ++ other)
first_behind [] last rest other = refl
first_behind (b ∷ before) last rest other = refl

-- the keys of fewer are among those of all
fewer_keys : (front : List Property) (e : Property) (back : List Property) (k : ℕ) → In k (keys_of (front ++ back)) → In k (keys_of (front ++ e ∷ back))
fewer_keys [] e back k i = inr i
fewer_keys (f ∷ front) e back k (inl q) = inl q
fewer_keys (f ∷ front) e back k (inr i) = inr (fewer_keys front e back k i)

module _ (s : State) (owner : Owner) (is : IsOwner owner) (es : List Property) (owns : OwnsProperties s owner es) (front : List Property) (e : Property)
    (back : List Property) (all : es ≡ front ++ e ∷ back)
    (m t : State) (released to : ℕ) (drops : DropsProperty s m e released) (to_is : to ≡ first_property back) (small : to < 2 ^ 32) where
  -- The records as they are before the element's place is written.
  record Relinked : Type 0 where
    last : State
    changes : ChangesRecords s.records last.records s.shape (ids_of es) (ids_of (front ++ back)) (blocks_of es) (blocks_of (front ++ back))
    set : SetsFirst last.records t.records owner.key.file owner.key.id (first_property (front ++ back))
    linked : AreLinked (property_records last.records) (front ++ back)

  taken_out : ChangesRecords s.records m.records s.shape (ids_of es) (ids_of (front ++ back)) (blocks_of es) (blocks_of (front ++ back))
  taken_out = replaced_records s owner es owns front e back all m.records [] drops.changes

  id_kept : (x : ℕ) → In x (ids_of front) ⊎ In x (ids_of back) → (is_live m.records format.properties_file x ≡ true)
      × (rec_at m.records format.properties_file x ≡ rec_at s.records format.properties_file x)
  id_kept = other_kept s owner es owns front e back all m.records [] drops.changes.properties

  block_kept : (x : ℕ) → In x (blocks_of front) ⊎ In x (blocks_of back) → (is_live m.records format.strings_file x ≡ true)
      × (rec_at m.records format.strings_file x ≡ rec_at s.records format.strings_file x)
  block_kept = other_blocks_kept s owner es owns front e back all m.records [] drops.changes.strings

  first_low : (later : List Property) → ((x : ℕ) → In x (ids_of later) → is_live m.records format.properties_file x ≡ true)
      → IsLow (high m.records format.properties_file) (first_property later)
  first_low [] live = inl refl
  first_low (d ∷ later) live = inr (live_low m.records format.properties_file d.id (live d.id (inl refl)))

  to_low : IsLow (high m.records format.properties_file) to
  to_low = subst (IsLow (high m.records format.properties_file)) (sym to_is) (first_low back (λ x i. (id_kept x (inr i)).0))

  -- the element's place led to it
  by_owner : front ≡ [] → t ≡ after_set m owner.key 4 owner.field to → Relinked
  by_owner none set =
      let same : back ≡ front ++ back = ap (λ z. z ++ back) (sym none) in
      let first : to ≡ first_property (front ++ back) = to_is ∙ ap first_property same in
      record {
        last = m;
        changes = taken_out;
        set = subst (SetsFirst m.records t.records owner.key.file owner.key.id) first
            (first_set s owner es owns is m (front ++ back) taken_out t to set small to_low);
        linked = subst (AreLinked (property_records m.records)) same
            (linked_stay (property_records s.records) (property_records m.records) back (λ x i. (id_kept x (inr i)).1) (λ b i. (block_kept b (inr i)).1)
            (linked_last front (are_parts s owner es owns front e back all).linked));
      }
    where
      linked_last : (front : List Property) → AreLinked (property_records s.records) (front ++ e ∷ back) → AreLinked (property_records s.records) back
      linked_last [] h = h.1
      linked_last (f ∷ front) h = linked_last front h.1

  -- the link of the one before it did
  module _ (before : List Property) (last : Property) (front_is : front ≡ before ++ last ∷ [])
      (set : t ≡ after_set m (key_in format.properties_file last.id) 4 format.property_next to) where
    whole : front ++ e ∷ back ≡ before ++ last ∷ e ∷ back
    whole = ap (λ z. z ++ e ∷ back) front_is ∙ append_assoc before (last ∷ []) (e ∷ back)

    left : front ++ back ≡ before ++ last ∷ back
    left = ap (λ z. z ++ back) front_is ∙ append_assoc before (last ∷ []) back

    in_front : (x : ℕ) → In x (ids_of before) → In x (ids_of front)
    in_front x i = subst (λ z. In x (ids_of z)) (sym front_is) (subst (In x) (sym (ids_parts before last [])) (in_left x (ids_of before) (last.id ∷ []) i))

    last_front : In last.id (ids_of front)
    last_front = subst (λ z. In last.id (ids_of z)) (sym front_is) (subst (In last.id) (sym (ids_parts before last [])) (in_right last.id (ids_of before)
        (last.id ∷ []) (inl refl)))

    block_front : (x : ℕ) → In x (blocks_of before) ⊎ In x last.blocks → In x (blocks_of front)
    block_front x i = subst (λ z. In x (blocks_of z)) (sym front_is) (subst (In x) (sym (blocks_both before (last ∷ [])))
        (⊎_elim (λ b. in_left x (blocks_of before) (last.blocks ++ []) b) (λ l. in_right x (blocks_of before) (last.blocks ++ []) (in_left x last.blocks [] l))
        i))

    -- no other has its identifier
    not_last : (x : ℕ) → In x (ids_of before) ⊎ In x (ids_of back) → x ≢ last.id
    not_last x i q = not_its_id (property_records s.records) (property_records s.records) (first_of s.records owner) before last (e ∷ back)
        (subst (AreProperties (property_records s.records) (first_of s.records owner)) whole (are_parts s owner es owns front e back all)) x
        (⊎_elim (λ b. inl b) (λ b. inr (inr b)) i) (inl q)

    string_same : (b : ℕ) → rec_at t.records format.strings_file b ≡ rec_at m.records format.strings_file b
    string_same b = link_others m t s.shape last.id to set (key_in format.strings_file b) (λ q. absurd (let z = ap (λ (k : Key). k.file) q in omega arith))

    by_link : Relinked
    by_link =
        let kept = id_kept last.id (inl last_front) in
        let moved = link_moved m t s.shape last.id to set (ids_of front ++ ids_of back) (ids_of front ++ ids_of back)
        (file_now s.records m.records s.shape format.properties_file (e.id ∷ []) [] drops.changes.properties (ids_of front ++ ids_of back)
        (λ x i. (id_kept x (in_either x (ids_of front) (ids_of back) i)).0))
        (keeps_file s.records m.records s.shape format.strings_file e.blocks [] drops.changes.strings) kept.0
        (subst (λ r. field 1 r format.kind ≢ format.free_kind) (sym kept.1) (used-content (rec_at s.records format.properties_file last.id) _
        (last_property before (subst (AreLinked (property_records s.records)) whole (are_parts s owner es owns front e back all).linked)))) small to_low in
        let changes = records_then s.records m.records t.records s.shape (ids_of es) (ids_of (front ++ back)) (ids_of (front ++ back)) (blocks_of es)
        (blocks_of (front ++ back)) (blocks_of (front ++ back)) (last.id ∷ []) (last.id ∷ []) [] []
        (replaces_same (ids_of (front ++ back)) (last.id ∷ []) (λ x i. ⊎_elim (λ (q : x ≡ last.id). subst (λ z. In z (ids_of (front ++ back))) (sym q)
        (last_left)) (λ j. elim j [ ]) i))
        (replaces_same (blocks_of (front ++ back)) [] (λ x i. elim i [ ])) taken_out moved in
        record {
          last = t;
          changes = changes;
          set = first_kept s owner es owns is t (front ++ back) changes
              (owns.held.are.first_is ∙ ap first_property all ∙ ap (λ z. first_property (z ++ e ∷ back)) front_is ∙ first_behind before last (e ∷ back) back
              ∙ ap (λ z. first_property (z ++ back)) (sym front_is));
          linked = subst (AreLinked (property_records t.records)) (sym left)
              (linked_around (property_records s.records) (property_records t.records) before last e back to to_is small
              (λ x i. link_others m t s.shape last.id to set (key_in format.properties_file x) (λ q. not_last x i (ap (λ (k : Key). k.id) q)) ∙
              (id_kept x (⊎_elim (λ b. inl (in_front x b)) (λ b. inr b) i)).1)
              (λ b i. string_same b ∙ (block_kept b (⊎_elim (λ z. inl (block_front b (inl z))) (λ z. ⊎_elim (λ l. inl (block_front b (inr l))) (λ k. inr k) z)
              i)).1)
              (link_here m t s.shape last.id to set ∙ ap (λ r. with_field 4 r format.property_next to) kept.1)
              (subst (AreLinked (property_records s.records)) whole (are_parts s owner es owns front e back all).linked));
        }
      where
        last_property : (before : List Property) → AreLinked (property_records s.records) (before ++ last ∷ e ∷ back)
            → content_of (rec_at s.records format.properties_file last.id) ≡ Some (content_for last.value (head_of last.blocks))
        last_property [] h = h.0.content
        last_property (b ∷ before) h = last_property before h.1

        last_left : In last.id (ids_of (front ++ back))
        last_left = subst (λ z. In last.id (ids_of z)) (sym left) (subst (In last.id) (sym (ids_parts before last back)) (in_right last.id (ids_of before)
            ((last.id ∷ []) ++ ids_of back) (inl refl)))

  relinked : (link : Link) → link ≡ link_after (link_of owner) front → t ≡ after_set m link.key 4 link.field to → Relinked
  relinked link link_is set = ⊎_elim
      (λ (none : front ≡ []).
      let here : link ≡ link_of owner = link_is ∙ ap (link_after (link_of owner)) none in
      by_owner none (set ∙ ap (λ (l : Link). after_set m l.key 4 l.field to) here))
      (λ (l : LastLink (link_of owner) front).
      let here : link ≡ next_link l.last.id = link_is ∙ l.link_is in
      by_link l.before l.last l.all (set ∙ ap (λ (l : Link). after_set m l.key 4 l.field to) here))
      (last_link (link_of owner) front)

  pub value_removed : (link : Link) (key : ℕ) → e.key ≡ key → link ≡ link_after (link_of owner) front → t ≡ after_set m link.key 4 link.field to
      → RemovesAlone s t owner es key released
  value_removed link key key_is link_is set =
      let r = relinked link link_is set in
      record {
        before = front;
        was = e;
        rest = back;
        found = record { all = all; key_is = key_is };
        changes = list_changed s owner es owns is r.last (front ++ back) r.changes t r.set
            (without_one (property_records s.records) (property_records r.last.records) (first_of s.records owner) front e back
            (are_parts s owner es owns front e back all) r.linked)
            (λ k i. owns.known k (subst (λ z. In k (keys_of z)) (sym all) (fewer_keys front e back k i)));
        released_is = drops.released_is;
      }
