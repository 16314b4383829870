-- Lists of properties in parts.
use Rattle.std.proofs.lemmas.Grind.{flat_map-append}
use Rattle.std.proofs.Common.{◌≡◌, ◌⊎◌, ℕ, List, [], ◌∷◌, ◌++◌, ap, subst, inl, inr, refl}
use Rattle.std.proofs.lemmas.List.{map-append}
use Rattle.store_rules.specs.Chains.{In}
use Rattle.store_rules.specs.Properties.{AreLinked, IsProperty, Property, PropertyRecords, blocks_of, first_property, ids_of, keys_of}
use Rattle.store_rules.proofs.PropertyStays.{property_stays}
use Rattle.prop_store.specs.Link.{link_after, next_link}
use Rattle.prop_store.specs.declared.link.Link.{Link}
use Rattle.prop_store.proofs.ListLaws.{in_left, in_right}

-- ---- what several have

pub ids_parts : (front : List Property) (e : Property) (back : List Property) → ids_of (front ++ e ∷ back) ≡ ids_of front ++ ((e.id ∷ []) ++ ids_of back)
ids_parts front e back = map-append (λ (z : Property). z.id) front (e ∷ back)

pub keys_parts : (front : List Property) (e : Property) (back : List Property) → keys_of (front ++ e ∷ back) ≡ keys_of front ++ ((e.key ∷ []) ++ keys_of back)
keys_parts front e back = map-append (λ (z : Property). z.key) front (e ∷ back)

pub blocks_both : (front back : List Property) → blocks_of (front ++ back) ≡ blocks_of front ++ blocks_of back
blocks_both front back = flat_map-append (λ (e : Property). e.blocks) front back

pub blocks_parts : (front : List Property) (e : Property) (back : List Property)
    → blocks_of (front ++ e ∷ back) ≡ blocks_of front ++ (e.blocks ++ blocks_of back)
blocks_parts front e back = blocks_both front (e ∷ back)

-- ---- links

-- what the links lead to stays behind some properties
pub first_same : (front rest other : List Property) → first_property rest ≡ first_property other
    → first_property (front ++ rest) ≡ first_property (front ++ other)
first_same [] rest other e = e
first_same (f ∷ front) rest other e = refl

-- Properties that stay lead to others that begin alike.
pub linked_before : (was now : PropertyRecords) (front rest other : List Property) → first_property rest ≡ first_property other
    → ((p : ℕ) → In p (ids_of front) → now.properties p ≡ was.properties p) → ((b : ℕ) → In b (blocks_of front) → now.strings b ≡ was.strings b)
    → AreLinked was (front ++ rest) → AreLinked now other → AreLinked now (front ++ other)
linked_before was now [] rest other e same blocks h k = k
linked_before was now (f ∷ front) rest other e same blocks h k = (
  subst (IsProperty now f) (first_same front rest other e) (property_stays was now f (first_property (front ++ rest)) (same f.id (inl refl))
      (λ b i. blocks b (in_left b f.blocks (blocks_of front) i)) h.0),
  linked_before was now front rest other e (λ p i. same p (inr i)) (λ b i. blocks b (in_right b f.blocks (blocks_of front) i)) h.1 k,
)

-- those behind some are linked
pub linked_after : (files : PropertyRecords) (front rest : List Property) → AreLinked files (front ++ rest) → AreLinked files rest
linked_after files [] rest h = h
linked_after files (f ∷ front) rest h = linked_after files front rest h.1

-- The link after some properties is the one that leads to the first of them, where there is none, or that of the last one.
pub record LastLink (link : Link) (front : List Property) : Type 0 where
  pub before : List Property
  pub last : Property
  pub all : front ≡ before ++ last ∷ []
  pub link_is : link_after link front ≡ next_link last.id

pub last_link : (link : Link) (front : List Property) → (front ≡ []) ⊎ LastLink link front
last_link link [] = inl refl
last_link link (f ∷ front) = inr (by link f front)
  where
    by : (link : Link) (f : Property) (front : List Property) → LastLink link (f ∷ front)
    by link f [] = record { before = []; last = f; all = refl; link_is = refl }
    by link f (g ∷ front) = let l = by (next_link f.id) g front in record
        { before = f ∷ l.before; last = l.last; all = ap (λ es. f ∷ es) l.all; link_is = l.link_is }
