-- What a list of properties says of its members, and of the lists of blocks that they own.
use Rattle.std.proofs.Common.{eqb-true, ◌≡◌, ◌≢◌, ℕ, nat_eq, Bool, true, false, cond, ◌&&◌, not, None, Some, List, []}
use Rattle.std.proofs.Common.{◌∷◌, length, sym, ap, ◌∙◌, subst, inl, inr, arith, refl}
use Rattle.std.proofs.lemmas.Bool.{true≢false}
use Rattle.rec_bytes.specs.declared.record.Rec.{Rec}
use Rattle.rec_bytes.specs.Format as format
use Rattle.rec_bytes.specs.Record.{field}
use Rattle.store_rules.specs.Chains.{In, IsWalk}
use Rattle.store_rules.specs.Properties.{AreBlocks, AreLinked, AreOnce, IsProperty, Property, PropertyRecords}
use Rattle.store_rules.specs.Properties.{blocks_of, first_property, head_of, ids_of, keys_of, long_text, next_block}
use Rattle.store_rules.specs.Properties.{property_records}
use Rattle.store_rules.specs.Rules.{block_owner}
use Rattle.store_rules.specs.Views.{Records, high, is_live, kind_at, rec_at}
use Rattle.store_rules.proofs.BlockLists.{blocks_walk}
use Rattle.store_rules.proofs.MemberLaws.{Among, in_flat_map, in_map, once_apart, once_right}
use Rattle.store_rules.proofs.NumberLaws.{and_parts, eq_false, eq_true}
use Rattle.store_rules.proofs.PropertyLists.{block_owner_in}
use Rattle.store_rules.proofs.PropertyWalks.{IsLong, kind_of_long, long_of_kind}
use Rattle.store_rules.proofs.ViewLaws.{kind_below, kind_low}

-- ---- what is in use
-- what is live is in use
pub used_of_live : (s : Records) (f x : ℕ) → is_live s f x ≡ true → kind_at s f x ≢ 0
used_of_live s f x live e = true≢false (sym live ∙ ap not (eq_true (kind_at s f x) 0 e))

-- the kind of a record in use is the one that its bytes say
pub kind_of_live : (s : Records) (f x : ℕ) → is_live s f x ≡ true → kind_at s f x ≡ field 1 (rec_at s f x) format.kind
kind_of_live s f x live = kind_low (high s f) (rec_at s f x) x (kind_below (high s f) (rec_at s f x) x (used_of_live s f x live))

-- ---- members
pub linked_at : (files : PropertyRecords) (e : Property) (es : List Property) → AreLinked files es → Among e es → (next : ℕ) × IsProperty files e next
linked_at files e [] h i = elim i [ ]
linked_at files e (d ∷ es) h (inl k) = (first_property es, subst (λ z. IsProperty files z (first_property es)) (sym k) h.0)
linked_at files e (d ∷ es) h (inr i) = linked_at files e es h.1 i

-- the key that a member's record has is one of the keys
pub linked_key : (files : PropertyRecords) (es : List Property) → AreLinked files es → (p : ℕ) → In p (ids_of es)
    → In (field 4 (files.properties p) format.property_key) (keys_of es)
linked_key files [] h p i = elim i [ ]
linked_key files (e ∷ es) h p (inl k) = inl (ap (λ z. field 4 (files.properties z) format.property_key) k ∙ h.0.key)
linked_key files (e ∷ es) h p (inr i) = inr (linked_key files es h.1 p i)

-- and no other member's has it
pub linked_keys_apart : (files : PropertyRecords) (es : List Property) → AreLinked files es → AreOnce (keys_of es) → (p q : ℕ) → In p (ids_of es)
    → In q (ids_of es)
    → field 4 (files.properties p) format.property_key ≡ field 4 (files.properties q) format.property_key → p ≡ q
linked_keys_apart files [] h once p q i j same = elim i [ ]
linked_keys_apart files (e ∷ es) h once p q (inl i) (inl j) same = i ∙ sym j
linked_keys_apart files (e ∷ es) h once p q (inl i) (inr j) same =
    absurd (once.0 (subst (λ z. In z (keys_of es)) (sym same ∙ ap (λ z. field 4 (files.properties z) format.property_key) i ∙ h.0.key)
    (linked_key files es h.1 q j)))
linked_keys_apart files (e ∷ es) h once p q (inr i) (inl j) same =
    absurd (once.0 (subst (λ z. In z (keys_of es)) (same ∙ ap (λ z. field 4 (files.properties z) format.property_key) j ∙ h.0.key)
    (linked_key files es h.1 p i)))
linked_keys_apart files (e ∷ es) h once p q (inr i) (inr j) same = linked_keys_apart files es h.1 once.1 p q i j same

-- ---- blocks
-- the blocks of the property of an identifier, or others where it is none of these
abbrev pub blocks_by : List Property → ℕ → List ℕ → List ℕ
blocks_by [] p others = others
blocks_by (e ∷ es) p others = cond (nat_eq p e.id) e.blocks (blocks_by es p others)

-- a property of the list has its own
pub blocks_by-here : (es : List Property) (e : Property) (p : ℕ) (others : List ℕ) → AreOnce (ids_of es) → Among e es → p ≡ e.id
    → blocks_by es p others ≡ e.blocks
blocks_by-here [] e p others once i is = elim i [ ]
blocks_by-here (d ∷ es) e p others once (inl k) is = rw (eq_true p d.id (is ∙ ap (λ (z : Property). z.id) k)) (ap (λ (z : Property). z.blocks) (sym k))
blocks_by-here (d ∷ es) e p others once (inr i) is =
    rw (eq_false p d.id (λ q. once.0 (subst (λ z. In z (ids_of es)) (sym is ∙ q) (in_map (λ (z : Property). z.id) e es i))))
    (blocks_by-here es e p others once.1 i is)

-- an identifier of another has the others
pub blocks_by-there : (es : List Property) (p : ℕ) (others : List ℕ) → ¬ In p (ids_of es) → blocks_by es p others ≡ others
blocks_by-there [] p others out = refl
blocks_by-there (e ∷ es) p others out = rw (eq_false p e.id (λ q. out (inl q))) (blocks_by-there es p others (λ i. out (inr i)))

-- a block is in the list of one property
pub one_block : (es : List Property) (e d : Property) (b : ℕ) → AreOnce (blocks_of es) → Among e es → Among d es → In b e.blocks → In b d.blocks → e.id ≡ d.id
one_block [] e d b once p q i j = elim p [ ]
one_block (f ∷ es) e d b once (inl p) (inl q) i j = ap (λ (z : Property). z.id) (p ∙ sym q)
one_block (f ∷ es) e d b once (inl p) (inr q) i j =
    absurd (once_apart b f.blocks (blocks_of es) once (subst (λ (z : Property). In b z.blocks) p i) (in_flat_map (λ (z : Property). z.blocks) b d es q j))
one_block (f ∷ es) e d b once (inr p) (inl q) i j =
    absurd (once_apart b f.blocks (blocks_of es) once (subst (λ (z : Property). In b z.blocks) q j) (in_flat_map (λ (z : Property). z.blocks) b e es p i))
one_block (f ∷ es) e d b once (inr p) (inr q) i j = one_block es e d b (once_right f.blocks (blocks_of es) once) p q i j

-- ---- the owners of blocks
-- an owner of blocks is a property with a text in blocks, and its record has the first one
pub owner_parts : (kind : ℕ → ℕ) (property_file : ℕ → Rec) (f x first : ℕ) → block_owner kind property_file f x ≡ Some first
    → (f ≡ format.properties_file) × (kind x ≡ format.text_in_blocks) × (field 4 (property_file x) format.property_first_block ≡ first)
owner_parts kind property_file f x first e = by (nat_eq f format.properties_file && nat_eq (kind x) format.text_in_blocks) refl e
  where
    by : (b : Bool) → (nat_eq f format.properties_file && nat_eq (kind x) format.text_in_blocks) ≡ b
        → cond b (Some (field 4 (property_file x) format.property_first_block)) None ≡ Some first
        → (f ≡ format.properties_file) × (kind x ≡ format.text_in_blocks) × (field 4 (property_file x) format.property_first_block ≡ first)
    by true q z = let k = and_parts (nat_eq f format.properties_file) (nat_eq (kind x) format.text_in_blocks) q in
        (eqb-true f format.properties_file k.0, eqb-true (kind x) format.text_in_blocks k.1, cc)
    by false q z = absurd cc

-- a property with a text in blocks owns them
pub owner_long : (kind : ℕ → ℕ) (property_file : ℕ → Rec) (f x : ℕ) → f ≡ format.properties_file → kind x ≡ format.text_in_blocks
    → block_owner kind property_file f x ≡ Some (field 4 (property_file x) format.property_first_block)
owner_long kind property_file f x a b = rw (eq_true f format.properties_file a, eq_true (kind x) format.text_in_blocks b) refl

module _ (s : Records) (e : Property) (next : ℕ) (h : IsProperty (property_records s) e next) (live : is_live s format.properties_file e.id ≡ true) where
  -- a property with a block owns it
  pub owner_of_block : (b : ℕ) → In b e.blocks → block_owner_in s format.properties_file e.id ≡ Some (head_of e.blocks)
  owner_of_block b i =
      let kind = kind_of_long (rec_at s format.properties_file e.id) e.value (head_of e.blocks) h.content (some (long_text e.value) e.blocks h.blocks i) in
      owner_long (kind_at s format.properties_file) (rec_at s format.properties_file) format.properties_file e.id refl
      (kind_of_live s format.properties_file e.id live ∙ kind)
      ∙ ap (λ z. Some z) (long_of_kind (rec_at s format.properties_file e.id) e.value (head_of e.blocks) h.content kind).first_is
    where
      some : (text bs : List ℕ) → AreBlocks (rec_at s format.strings_file) text bs → In b bs → text ≢ []
      some text [] k j none = elim j [ ]
      some text (c ∷ bs) k j none = let lt = k.0.some in let z = ap length none in omega arith

  -- what an owner's record has is its long text, and its blocks are those of the property
  pub owner_is_long : (f first : ℕ) → block_owner_in s f e.id ≡ Some first → IsLong (rec_at s format.properties_file e.id) e.value first
      × IsWalk (next_block (rec_at s format.strings_file)) first e.blocks
  owner_is_long f first owned =
      let parts = owner_parts (kind_at s format.properties_file) (rec_at s format.properties_file) f e.id first owned in
      let k = long_of_kind (rec_at s format.properties_file e.id) e.value (head_of e.blocks) h.content
      (sym (kind_of_live s format.properties_file e.id live) ∙ parts.1) in
      let same : head_of e.blocks ≡ first = sym k.first_is ∙ parts.2 in (
        record { text = k.text; is = k.is; long = k.long; size = k.size; first_is = parts.2 },
        subst (λ z. IsWalk (next_block (rec_at s format.strings_file))
            z e.blocks) same (blocks_walk (rec_at s format.strings_file) (long_text e.value) e.blocks h.blocks),
      )
