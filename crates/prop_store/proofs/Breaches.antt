-- What a property or a text is blamed for, as a breach of a rule.
use Rattle.std.specs.Prelude.{Result, Err, nat_le, not}
use Rattle.std.specs.Int.{cast_signed}
use Rattle.std.specs.Option.{option_map}
use mir.Syntax.{w64}
use Rattle.std.specs.Result.{IsErrAnd}
use Rattle.std.proofs.Common.{◌≡◌, ◌≢◌, ◌<◌, ◌≤◌, ◌+◌, ◌-◌, ◌∙◌, ◌++◌, ℕ, nat_eq, nat_lt, ◌&&◌, Bool, cond, List, []}
use Rattle.std.proofs.Common.{◌∷◌, None, Some, true, false, length, length-append, min, ap, sym, subst, inl, inr}
use Rattle.std.proofs.Common.{⊎_elim, arith, refl}
use Rattle.std.proofs.lemmas.Bool.{eqb-true}
use Rattle.std.proofs.lemmas.Result.{err_from_is_err_and}
use Rattle.rec_bytes.specs.declared.damage.Damage.{Damage}
use Rattle.rec_bytes.specs.declared.fault.Fault.{Fault}
use Rattle.rec_bytes.specs.declared.fault.Fault.TheVariants.{Memory, Disk, Damaged}
use Rattle.rec_bytes.specs.declared.key.Key.{Key}
use Rattle.rec_bytes.specs.declared.record.Rec.{Rec}
use Rattle.rec_bytes.specs.declared.shape.Shape.{Shape}
use Rattle.rec_bytes.specs.Fault.{HasFaultCause}
use Rattle.rec_bytes.specs.Format as format
use Rattle.rec_bytes.specs.Meta.{IsLinkBelow}
use Rattle.rec_bytes.specs.Record.{field, text_in}
use Rattle.rec_bytes.specs.RecordFiles.{room_of}
use Rattle.rec_bytes.specs.Space.{State, meta_in}
use Rattle.store_rules.specs.Breaking.{Breaks, IsBlockList, IsLong, IsPropertyList, block_size, damage, first_block}
use Rattle.store_rules.specs.Breaking.{is_element_file, next_block, next_property, text_size}
use Rattle.store_rules.specs.Breaking.Breaks.{RecordRange, WrongElement, WrongMeta, WrongText}
use Rattle.store_rules.specs.Chains.{In, IsWalk}
use Rattle.store_rules.specs.Properties.{AreOnce, Inline, Long, Number, Truth}
use Rattle.store_rules.specs.PropertyChange.{property_from}
use Rattle.store_rules.specs.Rules as rules
use Rattle.store_rules.specs.Rules.{ArePieces, property_owner}
use Rattle.store_rules.specs.Views.{Records, high, is_live, key_in, kind_at, node_at, node_in, rec_at, rel_at, rel_in}
use Rattle.store_rules.proofs.LinkFits.{IsLow}
use Rattle.store_rules.proofs.NumberLaws.{and_parts, eq_false}
use Rattle.store_rules.proofs.OnceLaws.{in_right, once_walk}
use Rattle.store_rules.proofs.PropertyOwners.{used_of_live}
use Rattle.store_rules.proofs.ViewLaws.{kind_below, kind_low, row_some}
use Rattle.prop_store.specs.Blocks as blocks
use Rattle.prop_store.specs.Blocks.{ArePassed, AreUsedOnce, IsBlockOf, IsBlockFault, IsTextDamage, IsTextFault, IsTextOf, HasBlocks, NoBlock, NotSuch, TooMany}
use Rattle.prop_store.specs.Fault.{BlamesBroken}
use Rattle.prop_store.specs.Form.{form_in, form_of}
use Rattle.prop_store.specs.GivenOut.{HighMark, IsLinkDamage, IsLinkFault, PastMark, holder_of}
use Rattle.prop_store.specs.Owner.{IsInUse, IsOwner, first_of}
use Rattle.prop_store.specs.PropertyRow as rows
use Rattle.prop_store.specs.PropertyRow.{IsRowFault}
use Rattle.prop_store.specs.declared.form.Form.TheVariants as forms
use Rattle.prop_store.specs.declared.owner.Owner.{Owner}
use Rattle.prop_store.specs.declared.property_row.PropertyRow.{PropertyRow}
use Rattle.prop_store.proofs.ElementSteps.{meta_of_element}
use Rattle.prop_store.proofs.OwnerPlaces.{first_of-is}
use Rattle.prop_store.proofs.PropertyRecords.{form_in-content}
use Rattle.prop_store.proofs.PointerLaws.{block_if_fits, content_if_fits, element_low, first_low, next_block_low, next_low}

-- ---- links

-- a link is never a reason to blame the disk
pub link_cause : {T : Type 0} (s : State) (from : Key) (file id faults : ℕ) (r : Result T Fault) (fault : Fault) → IsErrAnd r (λ f. f ≡ fault)
    → IsLinkFault s from file id fault → HasFaultCause faults faults r
link_cause {T} s from file id faults r fault h why = let p = err_from_is_err_and r h in
    subst (HasFaultCause {T = T} faults faults) (sym p.1) (subst (λ f. HasFaultCause {T = T} faults faults (Err f)) (sym p.2) (by fault why))
  where
    by : {T : Type 0} (fault : Fault) → IsLinkFault s from file id fault → HasFaultCause {T = T} faults faults (Err fault)
    by Memory why = elim why [ ]
    by Disk why = elim why [ ]
    by (Damaged d) why = record { later = omega arith; disk = λ e. absurd cc }

-- the record breaks the first rule where its link leads past the mark
abbrev LinkBreaks : State → Key → ℕ → ℕ → Type 0
LinkBreaks s key file to = high s.records file ≤ to → to ≢ format.nil → Breaks s.records s.shape (damage key.file key.id 1)

none_past : (mark to : ℕ) → mark ≤ to → to ≢ format.nil → IsLow mark to → ⊥
none_past mark to le some low = ⊎_elim some (λ (lt : to < mark). omega arith) low

-- the kind that the bytes of a record in use say
used_kind : (records : Records) (file x : ℕ) → kind_at records file x ≢ format.free_kind → field 1 (rec_at records file x) format.kind ≢ format.free_kind
used_kind records file x used e = used (kind_low (high records file) (rec_at records file x) x (kind_below (high records file) (rec_at records file x) x used)
    ∙ e)

pub properties_mark : (s : State) → room_of s.shape format.properties_file < high s.records format.properties_file
    → Breaks s.records s.shape (damage format.meta_file format.properties_file 1)
properties_mark s over = WrongMeta format.properties_file (omega arith) (λ k. let h = k.high in omega arith)

pub strings_mark : (s : State) → room_of s.shape format.strings_file < high s.records format.strings_file
    → Breaks s.records s.shape (damage format.meta_file format.strings_file 1)
strings_mark s over = WrongMeta format.strings_file (omega arith) (λ k. let h = k.high in omega arith)

-- the first free block can't stand there
pub strings_free : (s : State) → ¬ IsLinkBelow (meta_in s.records format.strings_file).free (meta_in s.records format.strings_file).high
    → Breaks s.records s.shape (damage format.meta_file format.strings_file 1)
strings_free s bad = WrongMeta format.strings_file (omega arith) (λ k. bad k.free)

-- ---- the properties of an element

-- a record in use that is no property's
pub unknown_breaks : (s : State) (at : ℕ) → kind_at s.records format.properties_file at ≢ format.free_kind
    → ¬ rows.HasContent (rec_at s.records format.properties_file at) → Breaks s.records s.shape (damage format.properties_file at 1)
unknown_breaks s at there none =
    RecordRange format.properties_file at refl (kind_below (high s.records format.properties_file) (rec_at s.records format.properties_file at) at there)
    (λ fits. none (content_if_fits (high s.records) (rec_at s.records format.properties_file at) (used_kind s.records format.properties_file at there) fits))

-- the property is in use
pub record IsThere (records : Records) (p : ℕ) : Type 0 where
  pub some : p ≢ format.nil
  pub used : kind_at records format.properties_file p ≢ format.free_kind

-- these lead from one to the next, and the last one to this one
abbrev pub ArePast : Records → ℕ → List ℕ → ℕ → Type 0
ArePast records from [] at = from ≡ at
ArePast records from (p ∷ ps) at = (from ≡ p) × IsThere records p × ArePast records (next_property records p) ps at

pub past_more : (records : Records) (from : ℕ) (ps : List ℕ) (at to : ℕ) → ArePast records from ps at → IsThere records at → to ≡ next_property records at
    → ArePast records from (ps ++ at ∷ []) to
past_more records from [] at to past there next = (past, there, sym next)
past_more records from (p ∷ ps) at to past there next = (past.0, past.1, past_more records (next_property records p) ps at to past.2 there next)

pub holder_more : (file : ℕ) (key : Key) (xs : List ℕ) (at : ℕ) → holder_of file key (xs ++ at ∷ []) ≡ key_in file at
holder_more file key [] at = refl
holder_more file key (x ∷ xs) at = holder_more file (key_in file x) xs at

pub next_breaks : (s : State) (p : ℕ) → IsThere s.records p → LinkBreaks s (key_in format.properties_file p) format.properties_file (next_property s.records p)
next_breaks s p there le some =
    RecordRange format.properties_file p refl (kind_below (high s.records format.properties_file) (rec_at s.records format.properties_file p) p there.used)
    (λ fits. none_past (high s.records format.properties_file) (next_property s.records p) le some (next_low (high s.records)
    (rec_at s.records format.properties_file p) (used_kind s.records format.properties_file p there.used) fits))

past_breaks : (s : State) (key : Key) (from : ℕ) (ps : List ℕ) (at : ℕ) → ArePast s.records from ps at → LinkBreaks s key format.properties_file from
    → LinkBreaks s (holder_of format.properties_file key ps) format.properties_file at
past_breaks s key from [] at past breaks = subst (LinkBreaks s key format.properties_file) past breaks
past_breaks s key from (p ∷ ps) at past breaks = past_breaks s (key_in format.properties_file p) (next_property s.records p) ps at past.2
    (next_breaks s p past.1)

-- a list that begins there has those passed, and the rest
record Rest (next : ℕ → ℕ) (ps members : List ℕ) (at : ℕ) : Type 0 where
  pub rest : List ℕ
  pub all : members ≡ ps ++ rest
  pub walk : IsWalk next at rest

past_rest : (records : Records) (from : ℕ) (ps : List ℕ) (at : ℕ) → ArePast records from ps at → (members : List ℕ)
    → IsWalk (next_property records) from members → Rest (next_property records) ps members at
past_rest records from [] at past members walk = record { rest = members; all = refl; walk = subst (λ z. IsWalk (next_property records) z members) past walk }
past_rest records from (p ∷ ps) at past [] walk = absurd (past.1.some (sym past.0 ∙ walk))
past_rest records from (p ∷ ps) at past (y ∷ ys) walk =
    let same : y ≡ p = sym walk.0 ∙ past.0 in
    let r = past_rest records (next_property records p) ps at past.2 ys
    (subst (λ z. IsWalk (next_property records) (next_property records z) ys) same walk.2) in
    record { rest = r.rest; all = ap (λ z. z ∷ ys) same ∙ ap (λ zs. p ∷ zs) r.all; walk = r.walk }

-- a walk along an element's properties came to this one, to which this record leads, after so many
pub record Reached (records : Records) (owner : Owner) (from : Key) (at count : ℕ) : Type 0 where
  pub passed : List ℕ
  pub past : ArePast records (first_of records owner) passed at
  pub from_is : from ≡ holder_of format.properties_file owner.key passed
  pub count_is : count ≡ length passed

unfoldable pub reached_first : (records : Records) (owner : Owner) (from : Key) (at : ℕ) → from ≡ owner.key → at ≡ first_of records owner
    → Reached records owner from at 0
reached_first records owner from at from_is is = record { passed = []; past = sym is; from_is = from_is; count_is = refl }

-- the property at hand was read, by the row and what it leads to
unfoldable pub reached_next : (records : Records) (owner : Owner) (from then : Key) (at count to : ℕ) → Reached records owner from at count → at ≢ format.nil
    → kind_at records format.properties_file at ≢ format.free_kind
    → to ≡ next_property records at → then ≡ key_in format.properties_file at → Reached records owner then to (count + 1)
reached_next records owner from then at count to r some used next then_is = record {
  passed = r.passed ++ at ∷ [];
  past = past_more records (first_of records owner) r.passed at to r.past (record { some = some; used = used }) next;
  from_is = then_is ∙ sym (holder_more format.properties_file owner.key r.passed at);
  count_is = let c = r.count_is in let l = length-append r.passed (at ∷ []) in omega arith;
}

module _ (s : State) (owner : Owner) (is : IsOwner owner) (used : IsInUse s.records owner) where
  abbrev file : ℕ
  file = owner.key.file

  abbrev x : ℕ
  x = owner.key.id

  low : x < high s.records file
  low = kind_below (high s.records file) (rec_at s.records file x) x used

  owned : property_owner (node_at s.records) (rel_at s.records) file x ≡ Some (first_of s.records owner)
  owned = ⊎_elim
      (λ (e : file ≡ format.nodes_file). (subst (λ f. kind_at s.records f x ≢ format.free_kind → property_owner (node_at s.records) (rel_at s.records)
      f x ≡ Some (property_from s.records f x)) (sym e)
      (λ u. ap rules.node_first (row_some (kind_at s.records format.nodes_file x) (node_in (rec_at s.records format.nodes_file x) x) u))) used)
      (λ (e : file ≡ format.relationships_file). (subst (λ f. kind_at s.records f x ≢ format.free_kind → property_owner (node_at s.records) (rel_at s.records)
      f x ≡ Some (property_from s.records f x)) (sym e)
      (λ u. ap rules.rel_first (row_some (kind_at s.records format.relationships_file x) (rel_in (rec_at s.records format.relationships_file x) x) u))) used)
      is.file
      ∙ ap Some (sym (first_of-is s.records owner is))

  element : is_element_file file ≡ true
  element = ⊎_elim (λ (e : file ≡ format.nodes_file). subst (λ f. is_element_file f ≡ true) (sym e) refl)
      (λ (e : file ≡ format.relationships_file). subst (λ f. is_element_file f ≡ true) (sym e) refl) is.file

  -- it has no list of properties
  pub element_breaks : ((members : List ℕ) → IsPropertyList s.records (first_of s.records owner) members → ⊥) → Breaks s.records s.shape (damage file x 5)
  element_breaks none = WrongElement file x element low (λ k. let l = k.list (first_of s.records owner) owned in none l.0 l.1)

  first_breaks : LinkBreaks s owner.key format.properties_file (first_of s.records owner)
  first_breaks le some = RecordRange file x (meta_of_element file is.file) low
      (λ fits. none_past (high s.records format.properties_file) (first_of s.records owner) le some
      (subst (IsLow (high s.records format.properties_file)) (sym (first_of-is s.records owner is)) (element_low (high s.records) file (rec_at s.records file x)
      is.file (used_kind s.records file x used) fits)))

  module _ (from : Key) (at count : ℕ) (r : Reached s.records owner from at count) (some : at ≢ format.nil) where
    -- the property at hand is one of its list
    on_list : (members : List ℕ) (list : IsPropertyList s.records (first_of s.records owner) members) → (is_live s.records format.properties_file at ≡ true)
        × (count < length members)
    on_list members list = let e = past_rest s.records (first_of s.records owner) r.passed at r.past members list.walk in by e.rest e.all e.walk
      where
        by : (rest : List ℕ) → members ≡ r.passed ++ rest → IsWalk (next_property s.records) at rest → (is_live s.records format.properties_file at ≡ true)
            × (count < length members)
        by [] all walk = absurd (some walk)
        by (y ∷ ys) all walk = (
          subst (λ z. is_live s.records format.properties_file z ≡ true) (sym walk.0)
              (list.live y (subst (In y) (sym all) (in_right y r.passed (y ∷ ys) (inl refl)))),
          let l = ap (λ (z : List ℕ). length z) all ∙ length-append r.passed (y ∷ ys) in let c = r.count_is in omega arith,
        )

    -- there are too many
    pub too_many : 32 ≤ count → Breaks s.records s.shape (damage file x 5)
    too_many le = element_breaks (λ members list. let here = on_list members list in let few = list.few in let more = here.1 in omega arith)

    pub row_blames : (fault : Fault) → IsRowFault s owner.key from at fault → BlamesBroken s.records s.shape fault
    row_blames Memory why = tt
    row_blames Disk why = tt
    row_blames (Damaged d) (rows.BadLink _ (PastMark le)) =
        subst (λ (k : Key). Breaks s.records s.shape (damage k.file k.id 1)) (sym r.from_is)
        (past_breaks s owner.key (first_of s.records owner) r.passed at r.past first_breaks le some)
    row_blames (Damaged d) (rows.BadLink _ (HighMark over)) = properties_mark s over
    row_blames (Damaged d) (rows.Unused e) = element_breaks (λ members list. used_of_live s.records format.properties_file at (on_list members list).0 e)
    row_blames (Damaged d) (rows.Unknown there none) = unknown_breaks s at there none

-- a walk along the blocks of a property's text came to this one, to which this record leads, with so many bytes left
pub record TextReached (records : Records) (p : ℕ) (from : Key) (at left : ℕ) : Type 0 where
  pub blocks : List ℕ
  pub passed : ArePassed records (first_block records p) (text_size records p) blocks at left
  pub from_is : from ≡ holder_of format.strings_file (key_in format.properties_file p) blocks

pub text_begins : (records : Records) (p : ℕ) (from : Key) (first size : ℕ) → IsTextOf records p first size → from ≡ key_in format.properties_file p
    → TextReached records p from first size
text_begins records p from first size is from_is = record { blocks = []; passed = (sym is.first_is, sym is.size_is); from_is = from_is }

-- ---- the blocks of a text

block_breaks : (s : State) (b size : ℕ) → IsBlockOf s.records b size → LinkBreaks s (key_in format.strings_file b) format.strings_file (next_block s.records b)
block_breaks s b size here le some =
    RecordRange format.strings_file b refl (kind_below (high s.records format.strings_file) (rec_at s.records format.strings_file b) b here.used)
    (λ fits. none_past (high s.records format.strings_file) (next_block s.records b) le some (next_block_low (high s.records)
    (rec_at s.records format.strings_file b) (used_kind s.records format.strings_file b here.used) fits))

passed_breaks : (s : State) (key : Key) (from size : ℕ) (bs : List ℕ) (at left : ℕ) → ArePassed s.records from size bs at left
    → LinkBreaks s key format.strings_file from → LinkBreaks s (holder_of format.strings_file key bs) format.strings_file at
passed_breaks s key from size [] at left passed breaks = subst (LinkBreaks s key format.strings_file) passed.0 breaks
passed_breaks s key from size (b ∷ bs) at left passed breaks = passed_breaks s (key_in format.strings_file b) (next_block s.records b) (size - 48) bs at left
    passed.3 (block_breaks s b (min 48 size) passed.2)

-- one more block
pub passed_more : (records : Records) (from size : ℕ) (bs : List ℕ) (at left to : ℕ) → ArePassed records from size bs at left → 0 < left
    → IsBlockOf records at (min 48 left) → to ≡ next_block records at → ArePassed records from size (bs ++ at ∷ []) to (left - 48)
passed_more records from size [] at left to passed more here next = (
  passed.0,
  omega (arith, more, passed.1),
  subst (λ n. IsBlockOf records at (min 48 n)) (sym passed.1) here,
  (sym next, ap (λ n. n - 48) passed.1),
)
passed_more records from size (b ∷ bs) at left to passed more here next =
    (passed.0, passed.1, passed.2, passed_more records (next_block records b) (size - 48) bs at left to passed.3 more here next)

-- the block at hand was read, with what it leads to
pub text_goes_on : (records : Records) (p : ℕ) (from then : Key) (at left piece to : ℕ) → TextReached records p from at left → 0 < left → piece ≡ min 48 left
    → IsBlockOf records at piece → to ≡ next_block records at → then ≡ key_in format.strings_file at
    → TextReached records p then to (left - piece)
text_goes_on records p from then at left piece to r more piece_is here next then_is = record {
  blocks = r.blocks ++ at ∷ [];
  passed =
      let all = passed_more records (first_block records p) (text_size records p) r.blocks at left to r.passed more (subst (IsBlockOf records at) piece_is here)
      next in
      let same : left - 48 ≡ left - piece = omega (arith, piece_is) in
      subst (ArePassed records (first_block records p) (text_size records p) (r.blocks ++ at ∷ []) to) same all;
  from_is = then_is ∙ sym (holder_more format.strings_file (key_in format.properties_file p) r.blocks at);
}

pub passed_piece : (records : Records) (from size : ℕ) (bs pushed : List ℕ) (at left piece to : ℕ) → ArePassed records from size bs at left → 0 < left
    → piece ≡ min 48 left → IsBlockOf records at piece → to ≡ next_block records at → pushed ≡ bs ++ at ∷ []
    → ArePassed records from size pushed to (left - piece)
passed_piece records from size bs pushed at left piece to passed more piece_is here next is =
    let all = passed_more records from size bs at left to passed more (subst (IsBlockOf records at) piece_is here) next in
    let same : left - 48 ≡ left - piece = omega (arith, piece_is) in
    subst (λ zs. ArePassed records from size zs to (left - piece)) (sym is) (subst (ArePassed records from size (bs ++ at ∷ []) to) same all)

-- those that end are a walk
passed_walk : (records : Records) (from size : ℕ) (bs : List ℕ) (at left : ℕ) → ArePassed records from size bs at left → at ≡ format.nil
    → IsWalk (next_block records) from bs
passed_walk records from size [] at left p end = p.0 ∙ end
passed_walk records from size (b ∷ bs) at left p end = (p.0, p.2.some, passed_walk records (next_block records b) (size - 48) bs at left p.3 end)

passed_used : (records : Records) (from size : ℕ) (bs : List ℕ) (at left : ℕ) → ArePassed records from size bs at left → (b : ℕ) → In b bs
    → kind_at records format.strings_file b ≢ format.free_kind
passed_used records from size [] at left p b i = elim i [ ]
passed_used records from size (x ∷ bs) at left p b (inl e) = subst (λ z. kind_at records format.strings_file z ≢ format.free_kind) (sym e) p.2.used
passed_used records from size (x ∷ bs) at left p b (inr i) = passed_used records (next_block records x) (size - 48) bs at left p.3 b i

-- where no byte is left they are its pieces
passed_pieces : (records : Records) (from size : ℕ) (bs : List ℕ) (at left : ℕ) → ArePassed records from size bs at left → left ≡ 0
    → ArePieces (block_size records) size bs
passed_pieces records from size [] at left p over = p.1 ∙ over
passed_pieces records from size (b ∷ []) at left p over = (p.2.size_is ∙ omega (arith, p.1, p.3.1, over), p.1, omega (arith, p.3.1, over))
passed_pieces records from size (b ∷ c ∷ bs) at left p over =
    (p.2.size_is ∙ omega (arith, p.1, p.3.1), omega (arith, p.1, p.3.1), passed_pieces records (next_block records b) (size - 48) (c ∷ bs) at left p.3 over)

-- they are in use, and none comes twice
pub passed_once : (records : Records) (from size : ℕ) (bs : List ℕ) (at left : ℕ) → ArePassed records from size bs at left → at ≡ format.nil
    → AreUsedOnce records bs
passed_once records from size bs at left passed end =
    record {
      once = once_walk (next_block records) from bs (passed_walk records from size bs at left passed end);
      used = passed_used records from size bs at
          left passed;
    }

-- and the property has them
pub passed_blocks : (records : Records) (p from size : ℕ) (bs : List ℕ) (at left : ℕ) → IsTextOf records p from size → ArePassed records from size bs at left
    → at ≡ format.nil → left ≡ 0 → HasBlocks records p bs
passed_blocks records p from size bs at left text passed end over b i = record {
  long = text.long;
  members = bs;
  list = record {
    walk = subst (λ f. IsWalk (next_block records) f bs) text.first_is (passed_walk records from size bs at left passed end);
    live = λ x j. ap not (eq_false (kind_at records format.strings_file x) 0 (passed_used records from size bs at left passed x j));
    pieces = subst (λ n. ArePieces (block_size records) n bs) text.size_is (passed_pieces records from size bs at left passed over);
  };
  member = i;
}

-- what is left of a list that begins there
record TextRest (records : Records) (bs members : List ℕ) (at left : ℕ) : Type 0 where
  pub rest : List ℕ
  pub all : members ≡ bs ++ rest
  pub walk : IsWalk (next_block records) at rest
  pub pieces : ArePieces (block_size records) left rest

text_rest : (records : Records) (from size : ℕ) (bs : List ℕ) (at left : ℕ) → ArePassed records from size bs at left → (members : List ℕ)
    → IsWalk (next_block records) from members → ArePieces (block_size records) size members → TextRest records bs members at left
text_rest records from size [] at left passed members walk pieces =
    record {
      rest = members;
      all = refl;
      walk = subst (λ z. IsWalk (next_block records) z members) passed.0 walk;
      pieces = subst
          (λ n. ArePieces (block_size records) n members) passed.1 pieces;
    }
text_rest records from size (b ∷ bs) at left passed [] walk pieces = absurd (passed.2.some (sym passed.0 ∙ walk))
text_rest records from size (b ∷ bs) at left passed (y ∷ ys) walk pieces =
    let same : y ≡ b = sym walk.0 ∙ passed.0 in
    let r = text_rest records (next_block records b) (size - 48) bs at left passed.3 ys
    (subst (λ z. IsWalk (next_block records) (next_block records z) ys) same walk.2) (later ys pieces) in
    record { rest = r.rest; all = ap (λ z. z ∷ ys) same ∙ ap (λ zs. b ∷ zs) r.all; walk = r.walk; pieces = r.pieces }
  where
    later : (ys : List ℕ) → ArePieces (block_size records) size (y ∷ ys) → ArePieces (block_size records) (size - 48) ys
    later [] p = omega (arith, p.2)
    later (z ∷ zs) p = p.2

module _ (s : State) (p : ℕ) (long : IsLong s.records p) where
  in_use : kind_at s.records format.properties_file p ≢ format.free_kind
  in_use e = absurd (let z : format.text_in_blocks ≡ format.free_kind = sym long ∙ e in omega arith)

  property_low : p < high s.records format.properties_file
  property_low = kind_below (high s.records format.properties_file) (rec_at s.records format.properties_file p) p in_use

  first_block_breaks : LinkBreaks s (key_in format.properties_file p) format.strings_file (first_block s.records p)
  first_block_breaks le some =
      RecordRange format.properties_file p refl property_low
      (λ fits. none_past (high s.records format.strings_file) (first_block s.records p) le some (first_low (high s.records)
      (rec_at s.records format.properties_file p) (used_kind s.records format.properties_file p in_use) fits
      (sym (kind_low (high s.records format.properties_file) (rec_at s.records format.properties_file p) p property_low) ∙ long)))

  text_breaks : ((members : List ℕ) → IsBlockList s.records p members → ⊥) → Breaks s.records s.shape (damage format.properties_file p 5)
  text_breaks none = WrongText p property_low (λ k. let t = k.text long in none t.0 t.1)

  -- the next block of a list is such a one
  such : (bs : List ℕ) (at left : ℕ) → ArePassed s.records (first_block s.records p) (text_size s.records p) bs at left → 0 < left → (members : List ℕ)
      → IsBlockList s.records p members → IsBlockOf s.records at (min 48 left)
  such bs at left passed more members list = let r = text_rest s.records (first_block s.records p) (text_size s.records p) bs at left passed members list.walk
      list.pieces in by r.rest r.all r.walk r.pieces
    where
      here : (y : ℕ) (ys : List ℕ) → members ≡ bs ++ y ∷ ys → IsWalk (next_block s.records) at (y ∷ ys) → block_size s.records y ≡ min 48 left
          → IsBlockOf s.records at (min 48 left)
      here y ys all walk size = subst (λ z. IsBlockOf s.records z (min 48 left)) (sym walk.0)
          (record {
            some = walk.1;
            used = used_of_live s.records format.strings_file y
                (list.live y (subst (In y) (sym all) (in_right y bs (y ∷ ys) (inl refl))));
            size_is = size;
          })

      by : (rest : List ℕ) → members ≡ bs ++ rest → IsWalk (next_block s.records) at rest → ArePieces (block_size s.records) left rest
          → IsBlockOf s.records at (min 48 left)
      by [] all walk pieces = absurd (omega (arith, more, pieces))
      by (y ∷ []) all walk pieces = here y [] all walk (omega (arith, pieces.0, pieces.2))
      by (y ∷ z ∷ zs) all walk pieces = here y (z ∷ zs) all walk (omega (arith, pieces.0, pieces.1))

  -- no block is left of a list where no byte is
  ended : (bs : List ℕ) (at : ℕ) → ArePassed s.records (first_block s.records p) (text_size s.records p) bs at 0 → (members : List ℕ)
      → IsBlockList s.records p members → at ≡ format.nil
  ended bs at passed members list = let r = text_rest s.records (first_block s.records p) (text_size s.records p) bs at 0 passed members list.walk
      list.pieces in by r.rest r.walk r.pieces
    where
      by : (rest : List ℕ) → IsWalk (next_block s.records) at rest → ArePieces (block_size s.records) 0 rest → at ≡ format.nil
      by [] walk pieces = walk
      by (y ∷ []) walk pieces = absurd (omega (arith, pieces.1))
      by (y ∷ z ∷ zs) walk pieces = absurd (omega (arith, pieces.1))

  text_damage : (d : Damage) → IsTextDamage s p d → Breaks s.records s.shape d
  text_damage d (NoBlock bs at left _ passed more (blocks.BadLink _ some (PastMark le))) =
      passed_breaks s (key_in format.properties_file p) (first_block s.records p) (text_size s.records p) bs at left passed first_block_breaks le some
  text_damage d (NoBlock bs at left _ passed more (blocks.BadLink _ some (HighMark over))) = strings_mark s over
  text_damage d (NoBlock bs at left _ passed more (blocks.Unknown unknown)) =
      let there : kind_at s.records format.strings_file at ≢ format.free_kind = λ e. unknown (inl e) in
      RecordRange format.strings_file at refl (kind_below (high s.records format.strings_file) (rec_at s.records format.strings_file at) at there)
      (λ fits. unknown (inr (kind_low (high s.records format.strings_file) (rec_at s.records format.strings_file at) at
      (kind_below (high s.records format.strings_file) (rec_at s.records format.strings_file at) at there)
      ∙ block_if_fits (high s.records) (rec_at s.records format.strings_file at) (used_kind s.records format.strings_file at there) fits)))
  text_damage d (NoBlock bs at left _ passed more (NotSuch not)) = text_breaks (λ members list. not (such bs at left passed more members list))
  text_damage d (TooMany bs at passed some) = text_breaks (λ members list. some (ended bs at passed members list))

pub text_blames : (s : State) (p : ℕ) (fault : Fault) → IsTextFault s p fault → BlamesBroken s.records s.shape fault
text_blames s p Memory why = tt
text_blames s p Disk why = tt
text_blames s p (Damaged d) why = text_damage s p why.0 d why.1

-- ---- after reads

module _ (s t : State) (records_stay : t.records ≡ s.records) (shape_stays : t.shape ≡ s.shape) where
  link_same : (from : Key) (file id : ℕ) (d : Damage) → IsLinkDamage t from file id d → IsLinkDamage s from file id d
  link_same from file id d (PastMark le) = PastMark (subst (λ (r : Records). high r file ≤ id) records_stay le)
  link_same from file id d (HighMark over) = HighMark (subst (λ (r : Records). room_of s.shape file < high r file) records_stay
      (subst (λ (h : Shape). room_of h file < high t.records file) shape_stays over))

  row_same : (owner from : Key) (id : ℕ) (d : Damage) → rows.IsRowDamage t owner from id d → rows.IsRowDamage s owner from id d
  row_same owner from id d (rows.BadLink _ link) = rows.BadLink d (link_same from format.properties_file id d link)
  row_same owner from id d (rows.Unused e) = rows.Unused (subst (λ (r : Records). kind_at r format.properties_file id ≡ format.free_kind) records_stay e)
  row_same owner from id d (rows.Unknown used out) =
      rows.Unknown (subst (λ (r : Records). kind_at r format.properties_file id ≢ format.free_kind) records_stay used)
      (subst (λ (r : Records). ¬ rows.HasContent (rec_at r format.properties_file id)) records_stay out)

  pub row_fault_same : (owner from : Key) (id : ℕ) (fault : Fault) → IsRowFault t owner from id fault → IsRowFault s owner from id fault
  row_fault_same owner from id Memory why = tt
  row_fault_same owner from id Disk why = tt
  row_fault_same owner from id (Damaged d) why = row_same owner from id d why

  block_same : (p : ℕ) (from : Key) (b size : ℕ) (d : Damage) → blocks.IsBlockDamage t p from b size d → blocks.IsBlockDamage s p from b size d
  block_same p from b size d (blocks.BadLink _ some link) = blocks.BadLink d some (link_same from format.strings_file b d link)
  block_same p from b size d (blocks.Unknown unknown) = blocks.Unknown (subst (λ (r : Records). ¬ blocks.IsBlockKind (kind_at r format.strings_file b))
      records_stay unknown)
  block_same p from b size d (NotSuch not) = NotSuch (subst (λ (r : Records). ¬ IsBlockOf r b size) records_stay not)

  -- a block that is no such one is none of the text
  pub block_fault : (p : ℕ) (from : Key) (at left piece : ℕ) (fault : Fault) → IsLong s.records p → TextReached s.records p from at left → 0 < left
      → piece ≡ min 48 left → IsBlockFault t p from at piece fault → IsTextFault s p fault
  block_fault p from at left piece Memory long r more piece_is why = tt
  block_fault p from at left piece Disk long r more piece_is why = tt
  block_fault p from at left piece (Damaged d) long r more piece_is why = (
    long,
    NoBlock r.blocks at left d r.passed more (subst (λ n. blocks.IsBlockDamage s p (holder_of format.strings_file (key_in format.properties_file p) r.blocks)
        at n d) piece_is
        (subst (λ (k : Key). blocks.IsBlockDamage s p k at piece d) r.from_is (block_same p from at piece d why))),
  )

  text_same : (p : ℕ) (d : Damage) → IsTextDamage t p d → IsTextDamage s p d
  text_same p d (NoBlock bs at left _ passed more why) = NoBlock bs at left d
      (subst (λ (r : Records). ArePassed r (first_block r p) (text_size r p) bs at left) records_stay passed) more (block_same p _ at (min 48 left) d why)
  text_same p d (TooMany bs at passed some) = TooMany bs at (subst (λ (r : Records). ArePassed r (first_block r p) (text_size r p) bs at 0) records_stay passed)
      some

  pub text_fault_same : (p : ℕ) (fault : Fault) → IsTextFault t p fault → IsTextFault s p fault
  text_fault_same p Memory why = tt
  text_fault_same p Disk why = tt
  text_fault_same p (Damaged d) why = (subst (λ (r : Records). IsLong r p) records_stay why.0, text_same p d why.1)

-- there is a block where no byte is left
pub text_too_long : (s : State) (p : ℕ) (from : Key) (at left : ℕ) → IsLong s.records p → TextReached s.records p from at left → left ≡ 0 → at ≢ format.nil
    → IsTextFault s p (Damaged (damage format.properties_file p 5))
text_too_long s p from at left long r over some = (
  long,
  TooMany r.blocks at (subst (ArePassed s.records (first_block s.records p) (text_size s.records p)
      r.blocks at) over r.passed) some,
)

-- a row of a long text is that of its first block and its size
long_form : (r : Rec) (size first : ℕ) → form_in r ≡ Some (forms.Long size first) → (field 1 r format.kind ≡ format.text_in_blocks)
    × (size ≡ field 2 r format.property_length) × (first ≡ field 4 r format.property_first_block)
long_form r size first is =
    let bytes = field 2 r format.property_length in
    let k = by (nat_eq (field 1 r format.kind) format.int) (nat_eq (field 1 r format.kind) format.bool && nat_le (field 1 r format.property_truth) 1)
    (nat_eq (field 1 r format.kind) format.text_inline && nat_le bytes 40)
    (nat_eq (field 1 r format.kind) format.text_in_blocks && (nat_lt 40 bytes && nat_le bytes 1024)) (cast_signed w64 (field 8 r format.property_number))
    (nat_eq (field 1 r format.property_truth) 1)
    (text_in r format.property_text bytes) bytes (field 4 r format.property_first_block) (sym (form_in-content r) ∙ is) in (
      eqb-true (field 1 r format.kind) format.text_in_blocks (and_parts (nat_eq (field 1 r format.kind) format.text_in_blocks)
          (nat_lt 40 bytes && nat_le bytes 1024) k.0).0,
      k.1,
      k.2,
    )
  where
    by : (a b c d : Bool) (number : _) (truth : Bool) (text : List ℕ) (bytes block : ℕ)
        → option_map form_of (cond a (Some (Number number)) (cond b (Some (Truth truth)) (cond c (Some (Inline text)) (cond d (Some (Long bytes block)) None))))
        ≡ Some (forms.Long size first)
        → (d ≡ true) × (size ≡ bytes) × (first ≡ block)
    by true b c d number truth text bytes block e = absurd cc
    by false true c d number truth text bytes block e = absurd cc
    by false false true d number truth text bytes block e = absurd cc
    by false false false true number truth text bytes block e = (refl, cc, cc)
    by false false false false number truth text bytes block e = absurd cc

pub text_of_row : (records : Records) (row : PropertyRow) (size first : ℕ) → form_in row.rec ≡ Some row.form → row.form ≡ forms.Long size first
    → rows.IsReadRow records row → IsTextOf records row.id first size
text_of_row records row size first form_is long read =
    let k = long_form row.rec size first (form_is ∙ ap Some long) in
    record {
      long = kind_low (high records format.properties_file) (rec_at records format.properties_file row.id) row.id
          (kind_below (high records format.properties_file) (rec_at records format.properties_file row.id) row.id read.used)
          ∙ ap (λ r. field 1 r format.kind) (sym read.rec_is) ∙ k.0;
      first_is = k.2 ∙ ap (λ r. field 4 r format.property_first_block) read.rec_is;
      size_is = k.1 ∙ ap (λ r. field 2 r format.property_length) read.rec_is;
    }
