-- Properties given back with their blocks, one after the other.
use Rattle.std.proofs.Common.{◌≡◌, ℕ, ◌<◌, true, List, [], ◌∷◌, length, sym, ap, ◌∙◌, subst, inl, inr, arith, refl, append-nil}
use Rattle.std.proofs.lemmas.Bool.{true≢false}
use Rattle.rec_bytes.specs.declared.key.Key.{Key}
use Rattle.rec_bytes.specs.declared.shape.Shape.{Shape}
use Rattle.rec_bytes.specs.Format as format
use Rattle.rec_bytes.specs.Space.{SameButReads, State}
use Rattle.store_rules.specs.Chains.{In}
use Rattle.store_rules.specs.Properties.{AreBlocks, AreOnce, AreProperties, Property, blocks_of, ids_of, property_records}
use Rattle.store_rules.specs.PropertyChange.{ChangesFile}
use Rattle.store_rules.specs.Views.{Records, high, is_live, kind_at, rec_at}
use Rattle.store_rules.proofs.ViewLaws.{kind_below, live_false}
use Rattle.id_freelist.specs.Giving.{CanGive, HasGiven}
use Rattle.prop_store.specs.Dropping.{AreHeld, ChangesRecords, IsHeld}
use Rattle.prop_store.specs.FileChange.{HasFewer, IsSameBeside}
use Rattle.prop_store.specs.GivenOut.{AreGivenOut}
use Rattle.prop_store.specs.Owner.{HasProperties, first_of}
use Rattle.prop_store.specs.declared.owner.Owner.{Owner}
use Rattle.prop_store.specs.declared.property_row.PropertyRow.{PropertyRow}
use Rattle.prop_store.proofs.FileMoves.{Replaces, middle}
use Rattle.prop_store.proofs.FileSteps.{file_given, file_now, keeps_file}
use Rattle.prop_store.proofs.RecordMoves.{properties_moved, records_then, strings_moved}

-- what is in use was given out
pub live_low : (s : Records) (file x : ℕ) → is_live s file x ≡ true → x < high s file
live_low s file x live = kind_below (high s file) (rec_at s file x) x (λ e. true≢false (sym live ∙ live_false (kind_at s file x) e))

-- blocks of a text have small identifiers
blocks_small : (string_file : ℕ → _) (text blocks : List ℕ) → AreBlocks string_file text blocks → (x : ℕ) → In x blocks → x < format.most_ids
blocks_small string_file text [] are x i = elim i [ ]
blocks_small string_file text (b ∷ bs) are x (inl e) = let low = are.0.low in omega arith
blocks_small string_file text (b ∷ bs) are x (inr i) = blocks_small string_file _ bs are.1 x i

-- blocks in use that have a text were given out
pub blocks_given_out : (s : Records) (shape : Shape) (text blocks : List ℕ) → ChangesFile s s shape format.strings_file blocks blocks
    → AreBlocks (rec_at s format.strings_file) text blocks → AreGivenOut s format.strings_file blocks
blocks_given_out s shape text blocks h are x i = record {
  low = live_low s format.strings_file x (h.live x i);
  small = blocks_small
      (rec_at s format.strings_file) text blocks are x i;
}

-- A record given back leaves the others.
pub given_beside : (s t : Records) (file id : ℕ) (free : List ℕ) → HasGiven s t file id free → IsSameBeside file s t
given_beside s t file id free given key ne meta = given.others key meta (λ e. ne (ap (λ (k : Key). k.file) e))

-- One record of a property is given back.
pub record_given : (b t : State) (shape : Shape) (id : ℕ) → ChangesFile b.records b.records shape format.properties_file (id ∷ []) (id ∷ [])
    → ChangesFile b.records b.records shape format.strings_file [] []
    → ((free : List ℕ) → CanGive b format.properties_file id free → HasGiven b.records t.records format.properties_file id free)
    → ChangesRecords b.records t.records shape (id ∷ []) [] [] []
record_given b t shape id now none given =
    let live : is_live b.records format.properties_file id ≡ true = now.live id (inl refl) in
    let has = given now.free (record { list = now.split.walk; fresh = λ i. true≢false (sym live ∙ now.split.only id i) }) in
    properties_moved b.records t.records shape (id ∷ []) [] [] none (given_beside b.records t.records format.properties_file id now.free has)
    (file_given b.records t.records shape format.properties_file id (id ∷ []) (id ∷ []) (inl refl) now live has)

-- Its blocks are given back.
pub blocks_released : (s a b : State) (held ids blocks : List ℕ) → SameButReads s a → ids ≡ blocks → AreOnce blocks
    → ChangesFile s.records s.records s.shape format.properties_file held held → ChangesFile s.records s.records s.shape format.strings_file blocks blocks
    → (AreOnce ids → ChangesFile a.records a.records a.shape format.strings_file ids ids → ChangesFile a.records b.records a.shape format.strings_file ids []
    × HasFewer a b format.strings_file (length ids))
    → IsSameBeside format.strings_file a.records b.records → ChangesRecords s.records b.records s.shape held held blocks []
blocks_released s a b held ids blocks same ids_are once properties strings released beside =
    let now : IsSameBeside format.strings_file s.records b.records = subst (λ (z : State). IsSameBeside format.strings_file z.records b.records) same beside in
    let less : ChangesFile s.records b.records s.shape format.strings_file blocks [] = by same ids_are in
    strings_moved s.records b.records s.shape held blocks [] properties now less
  where
    by : SameButReads s a → ids ≡ blocks → ChangesFile s.records b.records s.shape format.strings_file blocks []
    by same ids_are = (subst (λ (z : State). AreOnce blocks → ChangesFile z.records z.records z.shape format.strings_file blocks blocks → ChangesFile z.records
        b.records z.shape format.strings_file blocks []) same
        (subst (λ (bs : List ℕ). AreOnce bs → ChangesFile a.records a.records a.shape format.strings_file bs bs → ChangesFile a.records b.records a.shape
        format.strings_file bs []) ids_are (λ o h. (released o h).0))) once strings

-- Its blocks are given back, and then its record.
pub property_dropped : (s a b t : State) (row : PropertyRow) (e : Property) (ids : List ℕ) → IsHeld s row e → SameButReads s a → ids ≡ e.blocks
    → (AreOnce ids → ChangesFile a.records a.records a.shape format.strings_file ids ids → ChangesFile a.records b.records a.shape format.strings_file ids []
    × HasFewer a b format.strings_file (length ids))
    → IsSameBeside format.strings_file a.records b.records
    → ((free : List ℕ) → CanGive b format.properties_file row.id free → HasGiven b.records t.records format.properties_file row.id free)
    → ChangesRecords s.records t.records s.shape (e.id ∷ []) [] e.blocks []
property_dropped s a b t row e ids held same ids_are released beside given =
    let first = blocks_released s a b (e.id ∷ []) ids e.blocks same ids_are held.once held.properties held.strings released beside in
    let second = record_given b t s.shape e.id (file_now s.records b.records s.shape format.properties_file (e.id ∷ []) (e.id ∷ []) first.properties (e.id ∷ [])
    first.properties.live)
    (keeps_file s.records b.records s.shape format.strings_file e.blocks [] first.strings)
    (subst (λ (id : ℕ). (free : List ℕ) → CanGive b format.properties_file id free → HasGiven b.records t.records format.properties_file id free)
    held.id_is given) in
    records_then s.records b.records t.records s.shape (e.id ∷ []) (e.id ∷ []) [] e.blocks [] [] (e.id ∷ []) [] [] []
    (middle [] (e.id ∷ []) [] [] ((λ i. i), tt)) (middle [] [] [] [] tt) first second

-- What an element's properties have was found, and it was given back: all blocks, and then all properties.
pub all_dropped : (s a b t : State) (es : List Property) (first : ℕ) (ids blocks : List ℕ) → AreHeld s first es → SameButReads s a → ids ≡ ids_of es
    → blocks ≡ blocks_of es → b.shape ≡ s.shape
    → (AreOnce blocks → ChangesFile a.records a.records a.shape format.strings_file blocks blocks → ChangesFile a.records b.records a.shape format.strings_file
    blocks [] × HasFewer a b format.strings_file (length blocks))
    → IsSameBeside format.strings_file a.records b.records
    → (AreOnce ids → ChangesFile b.records b.records b.shape format.properties_file ids ids → ChangesFile b.records t.records b.shape format.properties_file ids
    [])
    → IsSameBeside format.properties_file b.records t.records
    → ChangesRecords s.records t.records s.shape (ids_of es) [] (blocks_of es) []
all_dropped s a b t es first ids blocks held same ids_are blocks_are shape released beside returned aside =
    let all = ids_of es in
    let freed = blocks_released s a b all blocks (blocks_of es) same blocks_are held.are.blocks_once held.properties held.strings released beside in
    let now = file_now s.records b.records s.shape format.properties_file all all freed.properties all freed.properties.live in
    let gone : ChangesFile b.records t.records s.shape format.properties_file all []
    = subst (λ (z : Shape). ChangesFile b.records b.records z format.properties_file all all → ChangesFile b.records t.records z format.properties_file all [])
    shape
    (subst (λ (xs : List ℕ). AreOnce xs → ChangesFile b.records b.records b.shape format.properties_file xs xs → ChangesFile b.records t.records b.shape
    format.properties_file xs []) ids_are returned held.are.ids_once) now in
    let last = properties_moved b.records t.records s.shape all [] [] (keeps_file s.records b.records s.shape format.strings_file (blocks_of es)
    [] freed.strings) aside gone in
    records_then s.records b.records t.records s.shape all all [] (blocks_of es) [] [] all [] [] []
    (subst (λ xs. Replaces xs all [] []) (append-nil all) (middle [] all [] [] (subst AreOnce (sym (append-nil all)) held.are.ids_once)))
    (middle [] [] [] [] tt) freed last

-- the properties that are held were given out
pub held_given : (s : State) (owner : Owner) (first : ℕ) (es : List Property) → first ≡ first_of s.records owner → AreHeld s first es
    → HasProperties s.records owner es
held_given s owner first es first_is held = record {
  are = subst (λ f. AreProperties (property_records s.records) f es) first_is held.are;
  ids_low = λ x i. live_low s.records format.properties_file x (held.properties.live x i);
  blocks_low = λ x i. live_low s.records format.strings_file x (held.strings.live x i);
}
