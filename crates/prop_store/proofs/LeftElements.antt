-- What is left of all other records where properties of an element are taken away.
use Rattle.std.proofs.Common.{◌≡◌, ◌≢◌, ℕ, List, [], ◌∷◌, ◌++◌, map, sym, ap, ◌∙◌, subst, inl, inr, ⊎_elim, arith, refl}
use Rattle.rec_bytes.specs.declared.key.Key.{Key}
use Rattle.rec_bytes.specs.Format as format
use Rattle.rec_bytes.specs.Record.{field, with_field}
use Rattle.rec_bytes.specs.RecordFiles.{meta_key_of}
use Rattle.rec_bytes.specs.Space.{IsAmong, SameButReads, State, after_set}
use Rattle.rec_bytes.proofs.Numbers.{field-with_field_other}
use Rattle.rec_bytes.proofs.Spaces.{put_other, put_same}
use Rattle.rec_bytes.specs.Meta as metas
use Rattle.store_rules.specs.Views.{high, key_in, kind_in}
use Rattle.prop_store.specs.Owner.{IsInUse, IsOwner}
use Rattle.prop_store.specs.Touching.{LeavesElement, TouchesProperties, property_keys}
use Rattle.prop_store.specs.declared.owner.Owner.{Owner}

among_ids : (file : ℕ) (ids : List ℕ) (rest : List Key) (q : Key) → q.file ≢ file → IsAmong q (map (key_in file) ids ++ rest) → IsAmong q rest
among_ids file [] rest q ne i = i
among_ids file (x ∷ ids) rest q ne (inl e) = absurd (ne (ap (λ (k : Key). k.file) e))
among_ids file (x ∷ ids) rest q ne (inr i) = among_ids file ids rest q ne i

-- a record that isn't one of these
beyond_keys : (ids blocks : List ℕ) (q : Key) → q.file ≢ format.properties_file → q.file ≢ format.strings_file → q ≢ meta_key_of format.properties_file
    → q ≢ meta_key_of format.strings_file → ¬ IsAmong q (property_keys ids blocks)
beyond_keys ids blocks q a b c d i =
    ⊎_elim c (λ j. ⊎_elim d (λ (f : ⊥). f) j) (among_ids format.strings_file blocks _ q b (among_ids format.properties_file ids _ q a i))

-- properties that are given back
module _ (tells : Type 0) (properties blocks : ℕ) (s t : State) (owner : Owner) (is : IsOwner owner) (does : tells)
    (touches : TouchesProperties tells [] properties blocks s t) where
  by : (file : ℕ) → file ≢ format.nodes_file → file ≢ format.relationships_file → owner.key.file ≢ file
  by file no_node no_rel e = ⊎_elim (λ k. no_node (sym e ∙ k)) (λ k. no_rel (sym e ∙ k)) is.file

  stays : (q : Key) → q.file ≢ format.properties_file → q.file ≢ format.strings_file → q ≢ meta_key_of format.properties_file
      → q ≢ meta_key_of format.strings_file → t.records q ≡ s.records q
  stays q a b c d = ⊎_elim (λ e. e) (λ (i : IsAmong q (property_keys touches.ids touches.block_ids)). absurd (beyond_keys touches.ids touches.block_ids q a b c
      d i)) ((touches.only.stays does).each q)

  -- the element's own record is as it was, and so is the mark of its file
  pub owner_stays : t.records owner.key ≡ s.records owner.key
  owner_stays = stays owner.key (by format.properties_file (omega arith) (omega arith)) (by format.strings_file (omega arith) (omega arith))
      (λ e. by format.meta_file (omega arith) (omega arith) (ap (λ (k : Key). k.file) e))
      (λ e. by format.meta_file (omega arith) (omega arith) (ap (λ (k : Key). k.file) e))

  pub owner_used : IsInUse s.records owner → IsInUse t.records owner
  owner_used used e = used (sym (ap (λ m. kind_in m (t.records owner.key) owner.key.id) mark ∙ ap (λ r. kind_in (high s.records owner.key.file) r owner.key.id)
      owner_stays) ∙ e)
    where
      mark : high t.records owner.key.file ≡ high s.records owner.key.file
      mark = ap (λ r. (metas.meta_of r).high) (stays (meta_key_of owner.key.file) (λ e. absurd (omega arith)) (λ e. absurd (omega arith))
          (λ e. by format.properties_file (omega arith) (omega arith) (ap (λ (k : Key). k.id) e))
          (λ e. by format.strings_file (omega arith) (omega arith) (ap (λ (k : Key). k.id) e)))

  pub left_dropped : LeavesElement s t owner
  left_dropped = record {
    others = λ q a b c d ne. stays q a b c d;
    own = λ n at fits apart. ap (λ r. field n r at) owner_stays;
  }

-- the place of the first property is set
pub left_set : (s t : State) (owner : Owner) (to : ℕ) → t ≡ after_set s owner.key 4 owner.field to → LeavesElement s t owner
left_set s t owner to is = subst (λ (z : State). LeavesElement s z owner) (sym is) (record {
  others = λ q a b c d ne. put_other s.records owner.key (with_field 4 (s.records owner.key) owner.field to) q ne;
  own = λ n at fits apart. ap (λ r. field n r at) (put_same s.records owner.key (with_field 4 (s.records owner.key) owner.field to))
      ∙ field-with_field_other 4 (s.records owner.key) owner.field to n at fits (⊎_elim (λ low. inr low) (λ high. inl high) apart);
})

-- reads alone
pub left_read : (s t : State) (owner : Owner) → SameButReads s t → LeavesElement s t owner
left_read s t owner same = subst (λ (z : State). LeavesElement s z owner) (sym same) (record { others = λ q a b c d ne. refl; own = λ n at fits apart. refl })

-- one after the other
pub left_then : (s t u : State) (owner : Owner) → LeavesElement s t owner → LeavesElement t u owner → LeavesElement s u owner
left_then s t u owner a b = record {
  others = λ q np ns mp ms ne. b.others q np ns mp ms ne ∙ a.others q np ns mp ms ne;
  own = λ n at fits apart. b.own n at fits apart ∙ a.own n at fits apart;
}

-- both, after reads
pub left_after : (tells : Type 0) (properties blocks : ℕ) (s z t : State) (owner : Owner) → IsOwner owner → tells → SameButReads s z
    → TouchesProperties tells [] properties blocks z t → LeavesElement s t owner
left_after tells properties blocks s z t owner is does same touches = left_then s z t owner (left_read s z owner same)
    (left_dropped tells properties blocks z t owner is does touches)
