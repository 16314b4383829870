-- A walk that finds an element's properties and the blocks of their values.
use Rattle.std.specs.Prelude.{IfSome}
use Rattle.std.proofs.Common.{◌≡◌, ◌⊎◌, ◌∙◌, ◌++◌, ℕ, List, [], ◌∷◌, Option, None, Some, length, ap, sym, subst, inl}
use Rattle.std.proofs.Common.{inr, ⊎_elim, refl, append_assoc, append-nil}
use Rattle.std.proofs.lemmas.List.{map-append}
use Rattle.std.proofs.lemmas.Grind.{flat_map-append}
use Rattle.rec_bytes.specs.Format as format
use Rattle.rec_bytes.specs.declared.key.Key.{Key}
use Rattle.rec_bytes.specs.declared.shape.Shape.{Shape}
use Rattle.store_rules.specs.Breaking.{Breaks, HasBlock, damage, next_property}
use Rattle.store_rules.specs.Breaking.Breaks.{WrongBlock}
use Rattle.store_rules.specs.Chains.{In, IsWalk}
use Rattle.store_rules.specs.Properties.{AreOnce, Property, blocks_of, ids_of, property_records}
use Rattle.store_rules.specs.Views.{Records}
use Rattle.store_rules.proofs.OnceLaws.{once_walk}
use Rattle.prop_store.specs.Blocks.{HasBlocks}
use Rattle.prop_store.specs.BlockList.{AreSmall}
use Rattle.prop_store.specs.GivenOut.{holder_of}
use Rattle.prop_store.specs.Owner.{HasProperties, first_of}
use Rattle.prop_store.specs.declared.owner.Owner.{Owner}
use Rattle.prop_store.proofs.Breaches.{ArePast, Reached}
use Rattle.prop_store.proofs.ListLaws.{in_either, in_left, once_split}
use Rattle.prop_store.proofs.WalkSteps.{Walked, walk_begins}

-- ---- which properties have the blocks

-- one of these properties has the block
pub record Owned (records : Records) (ids : List ℕ) (b : ℕ) : Type 0 where
  pub property : ℕ
  pub among : In property ids
  pub has : HasBlock records property b

-- two of them have it
pub record HeldTwice (records : Records) (ids : List ℕ) (b : ℕ) : Type 0 where
  pub before : List ℕ
  pub property : ℕ
  pub after : List ℕ
  pub all : ids ≡ before ++ property ∷ after
  pub has : HasBlock records property b
  pub earlier : Owned records before b

-- one property more, with its blocks
module _ (records : Records) (ids pushed blocks all more : List ℕ) (at : ℕ) (pushed_is : pushed ≡ ids ++ at ∷ []) (all_is : all ≡ blocks ++ more)
    (owned : (b : ℕ) → In b blocks → Owned records ids b) (has : HasBlocks records at more) where
  pub owned_more : (b : ℕ) → In b all → Owned records pushed b
  owned_more b i = subst (λ z. Owned records z b) (sym pushed_is) (⊎_elim
      (λ (j : In b blocks). let o = owned b j in record { property = o.property; among = in_left o.property ids (at ∷ []) o.among; has = o.has })
      (λ (j : In b more). record { property = at; among = last ids; has = has b j })
      (in_either b blocks more (subst (In b) all_is i)))
    where
      last : (xs : List ℕ) → In at (xs ++ at ∷ [])
      last [] = inl refl
      last (x ∷ xs) = inr (last xs)

  pub twice_more : (known shared : Option ℕ) → IfSome known (HeldTwice records ids) → IfSome shared (λ b. (known ≡ Some b) ⊎ (In b blocks × In b more))
      → IfSome shared (HeldTwice records pushed)
  twice_more known None before found = tt
  twice_more known (Some b) before (inl e) = let t : HeldTwice records ids b = subst (λ z. IfSome z (HeldTwice records ids)) e before in record {
    before = t.before;
    property = t.property;
    after = t.after ++ at ∷ [];
    all = pushed_is ∙ ap (λ z. z ++ at ∷ []) t.all ∙ append_assoc t.before (t.property ∷ t.after) (at ∷ []);
    has = t.has;
    earlier = t.earlier;
  }
  twice_more known (Some b) before (inr i) = record { before = ids; property = at; after = []; all = pushed_is; has = has b i.1; earlier = owned b i.0 }

-- a walk along these came to this one
pub reached : (records : Records) (owner : Owner) (from : Key) (first at : ℕ) (ids : List ℕ) → first ≡ first_of records owner → ArePast records first ids at
    → from ≡ holder_of format.properties_file owner.key ids → Reached records owner from at (length ids)
reached records owner from first at ids first_is past from_is = record {
  passed = ids;
  past = subst (λ z. ArePast records z ids at) first_is past;
  from_is =
      from_is;
  count_is = refl;
}

-- where the properties end, they are different ones
pub past_walk : (records : Records) (from : ℕ) (ids : List ℕ) (at : ℕ) → ArePast records from ids at → at ≡ format.nil → IsWalk (next_property records) from ids
past_walk records from [] at past end = past ∙ end
past_walk records from (p ∷ ps) at past end = (past.0, past.1.some, past_walk records (next_property records p) ps at past.2 end)

pub twice_breaks : (records : Records) (shape : Shape) (from : ℕ) (ids : List ℕ) (at b : ℕ) → ArePast records from ids at → at ≡ format.nil
    → HeldTwice records ids b → Breaks records shape (damage format.strings_file b 5)
twice_breaks records shape from ids at b past end t =
    let once = subst AreOnce t.all (once_walk (next_property records) from ids (past_walk records from ids at past end)) in
    let apart = (once_split t.before (t.property ∷ t.after) once).apart t.earlier.property t.earlier.among in
    WrongBlock b (λ k. apart (inl (k.once t.earlier.property t.property t.earlier.has t.has)))

-- ---- where the properties are known

-- those that were passed were found, and no block is shared
pub record Told (ids blocks : List ℕ) (shared : Option ℕ) (passed : List Property) : Type 0 where
  pub ids_are : ids ≡ ids_of passed
  pub blocks_are : blocks ≡ blocks_of passed
  pub none : shared ≡ None

pub told_begins : (records : Records) (owner : Owner) (first : ℕ) (es : List Property) (ids blocks : List ℕ) → ids ≡ [] → blocks ≡ []
    → first ≡ first_of records owner → HasProperties records owner es
    → Walked (property_records records) es first (length ids) (Told ids blocks None)
told_begins records owner first es ids blocks no_ids no_blocks first_is has =
    subst (λ n. Walked (property_records records) es first n (Told ids blocks None)) (sym (ap (λ (z : List ℕ). length z) no_ids))
    (walk_begins (property_records records) (first_of records owner) first es (Told ids blocks None) first_is has.are
    (record { ids_are = no_ids; blocks_are = no_blocks; none = refl }))

blocks_append : (xs ys : List Property) → blocks_of (xs ++ ys) ≡ blocks_of xs ++ blocks_of ys
blocks_append xs ys = flat_map-append (λ (e : Property). e.blocks) xs ys

pub told_more : (es passed : List Property) (e : Property) (later : List Property) → es ≡ passed ++ e ∷ later → AreOnce (blocks_of es)
    → (ids blocks pushed all more : List ℕ) (at : ℕ) (known shared : Option ℕ)
    → pushed ≡ ids ++ at ∷ [] → all ≡ blocks ++ more → at ≡ e.id → more ≡ e.blocks → IfSome shared (λ b. (known ≡ Some b) ⊎ (In b blocks × In b more))
    → Told ids blocks known passed → Told pushed all shared (passed ++ e ∷ [])
told_more es passed e later es_is once ids blocks pushed all more at known shared pushed_is all_is at_is more_is found told = record {
  ids_are = pushed_is ∙ ap (λ z. z ++ at ∷ []) told.ids_are ∙ ap (λ z. ids_of passed ++ z ∷ []) at_is
      ∙ sym (map-append (λ (z : Property). z.id) passed (e ∷ []));
  blocks_are = all_is ∙ ap (λ z. z ++ more) told.blocks_are ∙ ap (λ z. blocks_of passed ++ z) (more_is ∙ sym (append-nil e.blocks))
      ∙ sym (blocks_append passed (e ∷ []));
  none = none shared found;
}
  where
    none : (shared : Option ℕ) → IfSome shared (λ b. (known ≡ Some b) ⊎ (In b blocks × In b more)) → shared ≡ None
    none None found = refl
    none (Some b) (inl is) = absurd (let e : Some b ≡ None = sym is ∙ told.none in cc)
    none (Some b) (inr i) = absurd ((once_split (blocks_of passed) (blocks_of (e ∷ later)) (subst AreOnce (ap blocks_of es_is ∙ blocks_append passed
        (e ∷ later)) once)).apart b
        (subst (In b) told.blocks_are i.0) (in_left b e.blocks (blocks_of later) (subst (In b) more_is i.1)))

-- ---- small ones

pub small_more : (xs ys zs : List ℕ) → AreSmall xs → AreSmall ys → zs ≡ xs ++ ys → AreSmall zs
small_more xs ys zs h k is x i = ⊎_elim (h x) (k x) (in_either x xs ys (subst (In x) is i))
