-- A change of one element's properties keeps the fifth rule: each property and each block in use is in the list of one owner, with its keys and its text.
use Rattle.std.proofs.Common.{◌≡◌, ◌≢◌, ◌⊎◌, ℕ, ◌-◌, ◌<◌, nat_eq, true, cond, ◌&&◌, Some, List, [], ◌∷◌, length, sym}
use Rattle.std.proofs.Common.{ap, ◌∙◌, subst, inl, inr, ⊎_elim, arith, refl}
use Rattle.std.proofs.lemmas.Bool.{true≢false}
use Rattle.std.proofs.lemmas.List.{length-map}
use Rattle.rec_bytes.specs.declared.shape.Shape.{Shape}
use Rattle.rec_bytes.specs.Format as format
use Rattle.rec_bytes.specs.Record.{field}
use Rattle.store_rules.specs.Chains.{In, IsWalk}
use Rattle.store_rules.specs.Properties.{IsProperty, Property, blocks_of, head_of, ids_of, long_text, next_block, next_property, property_records}
use Rattle.store_rules.specs.Rules.{AreHeld, ArePieces, HaveKeys, HaveProperties, HaveTexts, KeepsProperties, KeepsRules, node_first, property_files}
use Rattle.store_rules.specs.Rules.{rel_first}
use Rattle.store_rules.specs.Views.{Records, high, is_live, kind_at, node_at, rec_at, rel_at}
use Rattle.store_rules.proofs.Frames.{pair_cases}
use Rattle.store_rules.proofs.HeldChange.{AreRelisted, Stays, relisted, stays_kept}
use Rattle.store_rules.proofs.MemberLaws.{Among, flat_map_in, in_cases, in_flat_map, in_map, map_in}
use Rattle.store_rules.proofs.NumberLaws.{eq_false, eq_true, nat_cases}
use Rattle.store_rules.specs.PropertyChange.{ChangesProperties, property_from}
use Rattle.store_rules.proofs.PropertyFrames as fr
use Rattle.store_rules.proofs.PropertyLists.{block_owner_in, owner_in, owner_in-used}
use Rattle.store_rules.proofs.PropertyOwners.{blocks_by, blocks_by-here, blocks_by-there, kind_of_live, linked_at}
use Rattle.store_rules.proofs.PropertyOwners.{linked_key, linked_keys_apart, one_block, owner_is_long, owner_long}
use Rattle.store_rules.proofs.PropertyOwners.{owner_of_block, owner_parts}
use Rattle.store_rules.proofs.PropertyWalks.{IsLong, blocks_pieces, linked_walk, walk_is}
use Rattle.store_rules.proofs.ViewLaws.{live_true}

-- the lists of the owners, of which one has another
abbrev pub with_list : (ℕ → ℕ → List ℕ) → ℕ → ℕ → List ℕ → ℕ → ℕ → List ℕ
with_list lists file id list f x = cond (nat_eq f file && nat_eq x id) list (lists f x)

module _ (lists : ℕ → ℕ → List ℕ) (file id : ℕ) (list : List ℕ) where
  -- the list that is another
  list_here : (f x : ℕ) → f ≡ file → x ≡ id → with_list lists file id list f x ≡ list
  list_here f x p q = rw (eq_true f file p, eq_true x id q) refl

  -- a list that stays
  list_there : (f x : ℕ) → (f ≡ file → x ≢ id) → with_list lists file id list f x ≡ lists f x
  list_there f x ne = ⊎_elim (λ (p : f ≡ file). rw (eq_true f file p, eq_false x id (ne p)) refl) (λ (p : f ≢ file). rw (eq_false f file p) refl)
      (nat_cases f file)

-- pieces stay where the lengths of blocks do
pieces_stay : (size now : ℕ → ℕ) (n : ℕ) (bs : List ℕ) → ((b : ℕ) → In b bs → now b ≡ size b) → ArePieces size n bs → ArePieces now n bs
pieces_stay size now n [] same h = h
pieces_stay size now n (b ∷ []) same h = (same b (inl refl) ∙ h.0, h.1, h.2)
pieces_stay size now n (b ∷ c ∷ bs) same h = (same b (inl refl) ∙ h.0, h.1, pieces_stay size now (n - 48) (c ∷ bs) (λ d i. same d (inr i)) h.2)

-- values that are there are the same
inner : (a b : ℕ) → Some a ≡ Some b → a ≡ b
inner a b e = cc

module _ (s t : Records) (shape : Shape) (file x : ℕ) (old new : List Property) (h : ChangesProperties s t shape file x old new) {most : ℕ} {empty : List ℕ}
    (well : KeepsRules s shape most empty) where
  -- ---- properties
  abbrev held : AreHeld (owner_in s) (next_property (rec_at s format.properties_file)) (is_live s format.properties_file)
  held = well.properties.held

  -- the element owns its properties, before and now
  owned : owner_in s file x ≡ Some (property_from s file x)
  owned = owner_in-used s file x h.element h.used

  owned_now : owner_in t file x ≡ Some (property_from t file x)
  owned_now = owner_in-used t file x h.element (fr.used_now s t shape file x old new h)

  -- another element has the first property that it had
  pub owner_other : (f y : ℕ) → (f ≡ file → y ≢ x) → owner_in t f y ≡ owner_in s f y
  owner_other f y ne = ⊎_elim
      (λ (e : f ≡ format.nodes_file). rw (eq_true f format.nodes_file e) (ap node_first (fr.node_other s t shape file x old new h y (λ k. ne (e ∙ k)))))
      (λ (a : f ≢ format.nodes_file). rw (eq_false f format.nodes_file a) (⊎_elim
      (λ (e : f ≡ format.relationships_file). rw (eq_true f format.relationships_file e) (ap rel_first (fr.rel_other s t shape file x old new h y
      (λ k. ne (e ∙ k)))))
      (λ (b : f ≢ format.relationships_file). rw (eq_false f format.relationships_file b) refl)
      (nat_cases f format.relationships_file))) (nat_cases f format.nodes_file)

  -- the element's list is the one that it had
  list_was : held.lists file x ≡ ids_of old
  list_was = walk_is (next_property (rec_at s format.properties_file)) (property_from s file x) (held.lists file x) (ids_of old)
      (held.walk file x (property_from s file x) owned)
      (subst (λ z. IsWalk (next_property (rec_at s format.properties_file)) z (ids_of old)) (sym h.was.first_is) (linked_walk (property_records s)
      old h.was.linked))

  -- the lists now
  abbrev lists : ℕ → ℕ → List ℕ
  lists = with_list held.lists file x (ids_of new)

  -- the element is the one that changed
  abbrev IsMine : ℕ → ℕ → Type 0
  IsMine f y = (f ≡ file) × (y ≡ x)

  -- its list is that of the new properties
  here : (f y : ℕ) → IsMine f y → lists f y ≡ ids_of new
  here f y o = list_here held.lists file x (ids_of new) f y o.0 o.1

  -- the list of another element is the one that it had, and none of it was given back
  other_stays : (f y first : ℕ) → (f ≡ file → y ≢ x) → owner_in s f y ≡ Some first → Stays (owner_in s) held.lists lists (ids_of old) f y first
  other_stays f y first ne e = record {
    owned = e;
    same = list_there held.lists file x (ids_of new) f y ne;
    aside = λ p i o. let k = held.once f y first file x (property_from s file x) p e owned i (subst (In p) (sym list_was) o) in ne k.0 k.1;
  }

  -- an owner is the element, or one whose list stays
  sides : (f y first : ℕ) → owner_in t f y ≡ Some first → IsMine f y ⊎ Stays (owner_in s) held.lists lists (ids_of old) f y first
  sides f y first e = pair_cases file x f y (λ p q. inl (p, q)) (λ ne. inr (other_stays f y first ne (sym (owner_other f y ne) ∙ e)))

  -- the properties that came are in the list of the element, and other lists stay
  relisted_properties : AreRelisted (owner_in s) (owner_in t) (next_property (rec_at t format.properties_file)) held.lists lists (ids_of old) (ids_of new)
      IsMine
  relisted_properties = record {
    sides = sides;
    walk = λ f y first o e.
        let is : property_from t file x ≡ first = inner (property_from t file x) first (sym owned_now ∙ (λ i. owner_in t (sym o.0 i) (sym o.1 i)) ∙ e) in
        rw (here f y o) (subst (λ z. IsWalk (next_property (rec_at t format.properties_file)) z (ids_of new)) (sym h.now.first_is ∙ is)
        (linked_walk (property_records t) new h.now.linked));
    come = λ f y p o i. subst (In p) (here f y o) i;
    back = λ p i. (file, x, property_from t file x, (owned_now, subst (In p) (sym (here file x (refl, refl))) i));
    keep = λ f y first p e i out. pair_cases file x f y
        (λ a b. absurd (out (subst (In p) ((λ j. held.lists (a j) (b j)) ∙ list_was) i)))
        (λ ne. (owner_other f y ne ∙ e, list_there held.lists file x (ids_of new) f y ne));
    apart = λ f y g z p o u i j. (o.0 ∙ sym u.0, o.1 ∙ sym u.1);
  }

  -- so each property in use is in the list of one element
  abbrev held_now : AreHeld (owner_in t) (next_property (rec_at t format.properties_file)) (is_live t format.properties_file)
  held_now = relisted s t shape format.properties_file (ids_of old) (ids_of new) h.properties (λ r. field 4 r format.property_next) (owner_in s) (owner_in t)
      held lists IsMine relisted_properties

  -- ---- keys
  -- the record of a property whose list stays is as it was
  record_stays : (f y first p : ℕ) → Stays (owner_in s) held.lists lists (ids_of old) f y first → In p (held.lists f y)
      → rec_at t format.properties_file p ≡ rec_at s format.properties_file p
  record_stays f y first p k i =
      (stays_kept s t shape format.properties_file (ids_of old) (ids_of new) h.properties (λ r. field 4 r format.property_next) (owner_in s) (owner_in t)
      held lists IsMine f y first p k i).1

  -- keys are names, and no key comes twice in a list
  keys_now : HaveKeys (owner_in t) lists (rec_at t format.properties_file) (high s format.names_file)
  keys_now = record {
    few = λ f y first e. ⊎_elim
        (λ (o : IsMine f y). let many = ap length (here f y o) ∙ length-map new (λ (e : Property). e.id) in let few = h.now.few in omega arith)
        (λ (k : Stays (owner_in s) held.lists lists (ids_of old) f y first). let many = ap length k.same in let few = well.properties.keys.few f y first
        k.owned in omega arith) (sides f y first e);
    named = λ f y first p e i. ⊎_elim
        (λ (o : IsMine f y). h.known (field 4 (rec_at t format.properties_file p) format.property_key) (linked_key (property_records t) new h.now.linked p
        (subst (In p) (here f y o) i)))
        (λ (k : Stays (owner_in s) held.lists lists (ids_of old) f y first).
        let j = subst (In p) k.same i in
        subst (λ r. field 4 r format.property_key < high s format.names_file) (sym (record_stays f y first p k j))
        (well.properties.keys.named f y first p k.owned j)) (sides f y first e);
    distinct = λ f y first p q e i j same. ⊎_elim
        (λ (o : IsMine f y). linked_keys_apart (property_records t) new h.now.linked h.now.keys_once p q (subst (In p) (here f y o) i)
        (subst (In q) (here f y o) j) same)
        (λ (k : Stays (owner_in s) held.lists lists (ids_of old) f y first).
        let a = subst (In p) k.same i in
        let b = subst (In q) k.same j in
        well.properties.keys.distinct f y first p q k.owned a b
        (sym (ap (λ r. field 4 r format.property_key) (record_stays f y first p k a)) ∙ same ∙ ap (λ r. field 4 r format.property_key)
        (record_stays f y first q k b))) (sides f y first e);
  }

  -- ---- blocks
  abbrev blocks : AreHeld (block_owner_in s) (next_block (rec_at s format.strings_file)) (is_live s format.strings_file)
  blocks = well.properties.blocks

  -- the element's old properties are in use before
  old_live : (p : ℕ) → In p (ids_of old) → is_live s format.properties_file p ≡ true
  old_live p i = held.only file x (property_from s file x) p owned (subst (In p) (sym list_was) i)

  -- an old property with a block owns it, and no other block
  old_owner : (e : Property) (b : ℕ) → Among e old → In b e.blocks → (block_owner_in s format.properties_file e.id ≡ Some (head_of e.blocks))
      × (blocks.lists format.properties_file e.id ≡ e.blocks)
  old_owner e b a i =
      let live = old_live e.id (in_map (λ (z : Property). z.id) e old a) in
      let is = linked_at (property_records s) e old h.was.linked a in
      let owner = owner_of_block s e is.0 is.1 live b i in (
        owner,
        walk_is (next_block (rec_at s format.strings_file)) (head_of e.blocks) (blocks.lists format.properties_file e.id) e.blocks
            (blocks.walk format.properties_file e.id (head_of e.blocks) owner)
            (owner_is_long s e is.0 is.1 live format.properties_file (head_of e.blocks) owner).1,
      )

  -- the lists of blocks now: those of the new properties, and the others
  abbrev block_lists : ℕ → ℕ → List ℕ
  block_lists f p = blocks_by new p (blocks.lists f p)

  -- the owner is a new property
  abbrev IsNew : ℕ → ℕ → Type 0
  IsNew f p = (f ≡ format.properties_file) × In p (ids_of new)

  -- A new property, with what is known of it.
  record IsEntry (p : ℕ) (others : List ℕ) : Type 0 where
    entry : Property
    among : Among entry new
    is : p ≡ entry.id
    next : ℕ
    right : IsProperty (property_records t) entry next
    live : is_live t format.properties_file entry.id ≡ true
    listed : blocks_by new p others ≡ entry.blocks

  -- an identifier of the new properties is that of one of them
  entry_of : (p : ℕ) (others : List ℕ) → In p (ids_of new) → IsEntry p others
  entry_of p others i =
      let e = map_in (λ (z : Property). z.id) p new i in
      let l = linked_at (property_records t) e.0 new h.now.linked e.1 in
      record {
        entry = e.0;
        among = e.1;
        is = e.2;
        next = l.0;
        right = l.1;
        live = h.properties.live e.0.id (in_map (λ (z : Property). z.id) e.0 new e.1);
        listed = blocks_by-here new e.0 p others h.now.ids_once e.1 e.2;
      }

  -- the owner of new blocks, where it is a new property
  entry_long : (f p first : ℕ) (k : IsEntry p (blocks.lists f p)) → block_owner_in t f p ≡ Some first
      → IsLong (rec_at t format.properties_file k.entry.id) k.entry.value first × IsWalk (next_block (rec_at t format.strings_file)) first k.entry.blocks
  entry_long f p first k e = owner_is_long t k.entry k.next k.right k.live f first (ap (block_owner_in t f) (sym k.is) ∙ e)

  -- the blocks of a property that isn't new stay
  block_stays : (f p first : ℕ) → block_owner_in t f p ≡ Some first → (is_live s format.properties_file p ≡ true) × (¬ In p (ids_of old))
      → Stays (block_owner_in s) blocks.lists block_lists (blocks_of old) f p first × (rec_at t format.properties_file p ≡ rec_at s format.properties_file p)
  block_stays f p first e k =
      let parts = owner_parts (kind_at t format.properties_file) (rec_at t format.properties_file) f p first e in
      let kept = h.properties.kept p k.0 k.1 in
      let kind = kind_of_live s format.properties_file p k.0 ∙ ap (λ r. field 1 r format.kind) (sym kept.1)
      ∙ sym (kind_of_live t format.properties_file p kept.0) ∙ parts.1 in
      let owner = owner_long (kind_at s format.properties_file) (rec_at s format.properties_file) f p parts.0 kind
      ∙ ap (λ r. Some (field 4 r format.property_first_block)) (sym kept.1) ∙ ap (λ z. Some z) parts.2 in (
        record {
          owned = owner;
          same = blocks_by-there new p (blocks.lists f p) (λ i. ⊎_elim k.1 (λ dead. true≢false (sym k.0 ∙ dead)) (h.properties.from p i));
          aside = λ b i o.
              let d = flat_map_in (λ (z : Property). z.blocks) b old o in
              let own = old_owner d.0 b d.1 d.2 in
              let one = blocks.once f p first format.properties_file d.0.id (head_of d.0.blocks) b owner own.0 i (subst (In b) (sym own.1) d.2) in
              k.1 (subst (λ z. In z (ids_of old)) (sym one.1) (in_map (λ (z : Property). z.id) d.0 old d.1));
        },
        kept.1,
      )

  -- an owner of blocks is a new property, or one that stays with its record
  block_sides : (f p first : ℕ) → block_owner_in t f p ≡ Some first
      → IsNew f p ⊎ (Stays (block_owner_in s) blocks.lists block_lists (blocks_of old) f p first × (rec_at t format.properties_file p ≡ rec_at s
      format.properties_file p))
  block_sides f p first e =
      let parts = owner_parts (kind_at t format.properties_file) (rec_at t format.properties_file) f p first e in
      let kind = parts.1 in
      ⊎_elim (λ (i : In p (ids_of new)). inl (parts.0, i)) (λ k. inr (block_stays f p first e k))
      (h.properties.only p (live_true (kind_at t format.properties_file p) (λ z. omega arith)))

  -- the blocks of an old property are given back, and those of another stay
  block_kept : (f p first b : ℕ) → block_owner_in s f p ≡ Some first → In b (blocks.lists f p) → ¬ In b (blocks_of old) → (block_owner_in t f p ≡ Some first)
      × (block_lists f p ≡ blocks.lists f p)
  block_kept f p first b e i out =
      let parts = owner_parts (kind_at s format.properties_file) (rec_at s format.properties_file) f p first e in
      let kind = parts.1 in
      let live = live_true (kind_at s format.properties_file p) (λ z. omega arith) in
      ⊎_elim
      (λ (o : In p (ids_of old)).
      let d = map_in (λ (z : Property). z.id) p old o in
      let l = linked_at (property_records s) d.0 old h.was.linked d.1 in
      let walk = (owner_is_long s d.0 l.0 l.1 (ap (is_live s format.properties_file) (sym d.2) ∙ live) f first (ap (block_owner_in s f) (sym d.2) ∙ e)).1 in
      let is = walk_is (next_block (rec_at s format.strings_file)) first (blocks.lists f p) d.0.blocks (blocks.walk f p first e) walk in
      absurd (out (in_flat_map (λ (z : Property). z.blocks) b d.0 old d.1 (subst (In b) is i))))
      (λ (no : ¬ In p (ids_of old)).
      let kept = h.properties.kept p live no in (
        owner_long (kind_at t format.properties_file) (rec_at t format.properties_file) f p parts.0
            (kind_of_live t format.properties_file p kept.0 ∙ ap (λ r. field 1 r format.kind) kept.1 ∙ sym (kind_of_live s format.properties_file p live)
            ∙ parts.1)
            ∙ ap (λ r. Some (field 4 r format.property_first_block)) kept.1 ∙ ap (λ z. Some z) parts.2,
        blocks_by-there new p (blocks.lists f p) (λ j. ⊎_elim no (λ dead. true≢false (sym live ∙ dead)) (h.properties.from p j)),
      ))
      (in_cases p (ids_of old))

  -- the blocks that came are in the lists of the new properties, and other lists stay
  relisted_blocks : AreRelisted (block_owner_in s) (block_owner_in t) (next_block (rec_at t format.strings_file)) blocks.lists block_lists (blocks_of old)
      (blocks_of new) IsNew
  relisted_blocks = record {
    sides = λ f p first e. ⊎_elim (λ (o : IsNew f p). inl o) (λ k. inr k.0) (block_sides f p first e);
    walk = λ f p first o e. let k = entry_of p (blocks.lists f p) o.1 in rw k.listed (entry_long f p first k e).1;
    come = λ f p b o i. let k = entry_of p (blocks.lists f p) o.1 in in_flat_map (λ (z : Property). z.blocks) b k.entry new k.among (subst (In b) k.listed i);
    back = λ b i.
        let d = flat_map_in (λ (z : Property). z.blocks) b new i in
        let l = linked_at (property_records t) d.0 new h.now.linked d.1 in (
          format.properties_file,
          d.0.id,
          head_of d.0.blocks,
          (
            owner_of_block t d.0 l.0 l.1 (h.properties.live d.0.id (in_map (λ (z : Property). z.id) d.0 new d.1)) b d.2,
            subst (In b) (sym (blocks_by-here new d.0 d.0.id (blocks.lists format.properties_file d.0.id) h.now.ids_once d.1 refl)) d.2,
          ),
        );
    keep = block_kept;
    apart = λ f p g q b o u i j.
        let k = entry_of p (blocks.lists f p) o.1 in
        let l = entry_of q (blocks.lists g q) u.1 in (
          o.0 ∙ sym u.0,
          k.is ∙ one_block new k.entry l.entry b h.now.blocks_once k.among l.among (subst (In b) k.listed i) (subst (In b) l.listed j)
              ∙ sym l.is,
        );
  }

  -- so each block in use is in the list of one property
  abbrev blocks_now : AreHeld (block_owner_in t) (next_block (rec_at t format.strings_file)) (is_live t format.strings_file)
  blocks_now = relisted s t shape format.strings_file (blocks_of old) (blocks_of new) h.strings (λ r. field 4 r format.block_next) (block_owner_in s)
      (block_owner_in t) blocks block_lists IsNew relisted_blocks

  -- how many bytes a block has
  abbrev size_in : Records → ℕ → ℕ
  size_in r b = field 1 (rec_at r format.strings_file b) format.block_length

  -- and the blocks of a property have as many bytes as its text
  texts_now : HaveTexts (block_owner_in t) block_lists (rec_at t format.properties_file) (rec_at t format.strings_file)
  texts_now = record {
    pieces = λ f p first e. ⊎_elim
        (λ (o : IsNew f p).
        let k = entry_of p (blocks.lists f p) o.1 in
        let l = (entry_long f p first k e).0 in
        rw k.listed (subst (λ n. ArePieces (size_in t) n k.entry.blocks) (ap length l.long ∙ sym l.size ∙ ap (λ z. field 2 (rec_at t format.properties_file z)
        format.property_length) (sym k.is))
        (blocks_pieces (rec_at t format.strings_file) (long_text k.entry.value) k.entry.blocks k.right.blocks)))
        (λ k. rw k.0.same (subst (λ r. ArePieces (size_in t) (field 2 r format.property_length) (blocks.lists f p)) (sym k.1)
        (pieces_stay (size_in s) (size_in t) (field 2 (rec_at s format.properties_file p) format.property_length) (blocks.lists f p)
        (λ b i. ap (λ r. field 1 r format.block_length)
        (stays_kept s t shape format.strings_file (blocks_of old) (blocks_of new) h.strings (λ r. field 4 r format.block_next) (block_owner_in s)
        (block_owner_in t) blocks block_lists IsNew f p first b k.0 i).1)
        (well.properties.texts.pieces f p first k.0.owned)))) (block_sides f p first e);
  }

  -- the fifth rule is kept
  pub properties_held : KeepsProperties t
  unfolding relisted
  properties_held = subst (HaveProperties (property_files t) (node_at t) (rel_at t)) (sym (fr.name_mark s t shape file x old new h))
      (record { held = held_now; keys = keys_now; blocks = blocks_now; texts = texts_now })
