-- The records of a shipment, put one by one.
use Rattle.std.proofs.Common.{◌≡◌, ◌∙◌, ap, sym, ℕ, zero, suc, ◌+◌, ◌*◌, ◌<◌, Bool, true, false, cond, List, [], ◌∷◌}
use Rattle.std.proofs.Common.{◌++◌, Option, None, Some, length, take, refl, arith}
use Rattle.std.specs.List.{slice_get}
use Rattle.std.proofs.lemmas.List.{take_more}
use Rattle.std.proofs.lemmas.Option.{get_or_from_slice_get, slice_get_within}
use Rattle.std.proofs.Math.Seq.{take-length}
use Rattle.std.specs.Prelude.{unwrap_or, OnOk, Result, Ok, Err}
use Rattle.rec_bytes.specs.declared.key.Key.{Key}
use Rattle.rec_bytes.specs.declared.record.Rec.{Rec}
use Rattle.rec_bytes.specs.declared.shape.Shape.{Shape}
use Rattle.rec_bytes.specs.Key.{IsKey, key_eq}
use Rattle.rec_bytes.specs.Pairs.{IsBelow, IsOrdered, Pairs, find_pair, held_at}
use Rattle.rec_bytes.specs.Shape.{is_allowed}
use Rattle.rec_bytes.specs.Space.{laid_over, put}
use Rattle.rec_bytes.proofs.KeyLaws.{key_eq_true}
use Rattle.rec_bytes.proofs.PairLaws.{below_all, below_out}
use Rattle.txn_core.specs.Shipped.{is_shipped, taken_key}
use Rattle.follower.specs.Shipment.{Ascend, IsShipment, count_of, number_of, write_in, writes_in, writes_of}
use Rattle.follower.specs.Taken.{number_record, taken}
use Rattle.follower.proofs.Reading.{length-writes_in}
use Rattle.follower.proofs.Slots.{shipped_key}

-- a fact of a success that follows from another
pub on_ok : {T E : Type 0} (r : Result T E) (P Q : Type 0) → (P → Q) → OnOk r P → OnOk r Q
on_ok (Ok x) P Q f p = f p
on_ok (Err e) P Q f p = p

-- the records with these put one after the other
abbrev pub put_all : (Key → Rec) → Pairs → Key → Rec
put_all records [] = records
put_all records (write ∷ later) = put_all (put records write.0 write.1) later

put_all-append : (records : Key → Rec) (writes : Pairs) (write : Key × Rec)
    → put_all records (writes ++ write ∷ []) ≡ put (put_all records writes) write.0 write.1
put_all-append records [] write = refl
put_all-append records (first ∷ later) write = put_all-append (put records first.0 first.1) later write

-- a record put before others of greater keys
laid_over-put : (records : Key → Rec) (write : Key × Rec) (later : Pairs) → IsBelow write.0 later → (q : Key)
    → laid_over (put records write.0 write.1) later q ≡ laid_over records (write ∷ later) q
laid_over-put records write later below q = by (key_eq q write.0) refl
  where
    by : (same : Bool) → key_eq q write.0 ≡ same → laid_over (put records write.0 write.1) later q ≡ laid_over records (write ∷ later) q
    by true is =
        let none : find_pair later q ≡ None = ap (find_pair later) (key_eq_true q write.0 is) ∙ below_out later write.0 below in
        ap (λ (o : Option Rec). unwrap_or o (put records write.0 write.1 q)) none
        ∙ ap (λ (b : Bool). cond b write.1 (records q)) is
        ∙ sym (ap (λ (b : Bool). unwrap_or (cond b (Some write.1) (find_pair later q)) (records q)) is)
    by false is =
        ap (λ (b : Bool). held_at later q (cond b write.1 (records q))) is
        ∙ sym (ap (λ (b : Bool). unwrap_or (cond b (Some write.1) (find_pair later q)) (records q)) is)

put_all-laid_over : (records : Key → Rec) (writes : Pairs) → IsOrdered writes → put_all records writes ≡ laid_over records writes
put_all-laid_over records [] ordered = refl
put_all-laid_over records (write ∷ later) ordered =
    put_all-laid_over (put records write.0 write.1) later ordered.1
    ∙ (λ i q. laid_over-put records write later ordered.0 q i)

-- ---- the keys of a shipment rise

ascend_above : (shape : Shape) (last : Key) (writes : Pairs) → Ascend shape (Some last) writes → IsBelow last writes × IsOrdered writes
ascend_above shape last [] ascend = (tt, tt)
ascend_above shape last (write ∷ later) ascend =
    let rest = ascend_above shape write.0 later ascend.1 in
    ((ascend.0.above, below_all last write.0 later ascend.0.above rest.0), rest)

pub ascend_ordered : (shape : Shape) (writes : Pairs) → Ascend shape None writes → IsOrdered writes
ascend_ordered shape [] ascend = tt
ascend_ordered shape (write ∷ later) ascend = ascend_above shape write.0 later ascend.1

ascend_shipped : (shape : Shape) (last : Option Key) (writes : Pairs) (i : ℕ) (write : Key × Rec) → Ascend shape last writes → slice_get writes i ≡ Some write
    → is_shipped shape write.0 ≡ true
ascend_shipped shape last [] i write ascend got = let e = got in cc
ascend_shipped shape last (first ∷ later) zero write ascend got = let e : first ≡ write = some_same first write got in
    ap (λ (w : Key × Rec). is_shipped shape w.0) (sym e) ∙ ascend.0.shipped
  where
    some_same : {X : Type 0} (x y : X) → let one : Option X = Some x in one ≡ Some y → x ≡ y
    some_same x y e = cc
ascend_shipped shape last (first ∷ later) (suc i) write ascend got = ascend_shipped shape (Some first.0) later i write ascend.1 got

-- ---- the records of the bytes

pub slice_get-writes_in : (bytes : List ℕ) (place n i : ℕ) → i < n → slice_get (writes_in bytes place n) i ≡ Some (write_in bytes (place + 69 * i))
slice_get-writes_in bytes place zero i lt = absurd (omega arith)
slice_get-writes_in bytes place (suc n) zero lt = let here : place ≡ place + 69 * 0 = omega arith in ap (λ (p : ℕ). Some (write_in bytes p)) here
slice_get-writes_in bytes place (suc n) (suc i) lt =
    let there : place + 69 + 69 * i ≡ place + 69 * suc i = omega arith in
    slice_get-writes_in bytes (place + 69) n i (omega arith) ∙ ap (λ (p : ℕ). Some (write_in bytes p)) there

-- the key of each is one that a store can have
pub write_key : (shape : Shape) (bytes : List ℕ) (i : ℕ) → is_allowed shape ≡ true → IsShipment shape bytes → i < count_of bytes
    → IsKey (write_in bytes (10 + 69 * i)).0
write_key shape bytes i allowed is lt =
    shipped_key shape (write_in bytes (10 + 69 * i)).0 allowed (ascend_shipped shape None (writes_of bytes) i (write_in bytes (10 + 69 * i)) is.ascend
    (slice_get-writes_in bytes 10 (count_of bytes) i lt))

-- one record more
pub put_all-more : (records now next : Key → Rec) (bytes : List ℕ) (i : ℕ) (key : Key) (rec : Rec) → i < count_of bytes
    → now ≡ put_all records (take i (writes_of bytes)) → let write : Key × Rec = (key, rec) in write ≡ write_in bytes (10 + 69 * i) → next ≡ put now key rec
    → next ≡ put_all records (take (i + 1) (writes_of bytes))
put_all-more records now next bytes i key rec lt before is put_is =
    let write = write_in bytes (10 + 69 * i) in
    let got = slice_get-writes_in bytes 10 (count_of bytes) i lt in
    let within = slice_get_within (writes_of bytes) i write got in
    put_is ∙ ap (λ (records : Key → Rec). put records key rec) before
    ∙ ap (λ (w : Key × Rec). put (put_all records (take i (writes_of bytes))) w.0 w.1) is
    ∙ sym (ap (put_all records) (take_more (writes_of bytes) i write within) ∙ ap (λ (last : Key × Rec). put_all records (take i (writes_of bytes)
    ++ last ∷ [])) (get_or_from_slice_get (writes_of bytes) i write write got)
    ∙ put_all-append records (take i (writes_of bytes)) write)

-- all of them, and the number
pub put_all-taken : (shape : Shape) (records now next : Key → Rec) (bytes : List ℕ) (i : ℕ) (rec : Rec) → IsShipment shape bytes → i ≡ count_of bytes
    → now ≡ put_all records (take i (writes_of bytes)) → rec ≡ number_record (number_of bytes) → next ≡ put now taken_key rec
    → next ≡ taken records bytes
put_all-taken shape records now next bytes i rec is all before number put_is =
    let long : length (writes_of bytes) ≡ count_of bytes = length-writes_in bytes 10 (count_of bytes) in
    let whole : take i (writes_of bytes) ≡ writes_of bytes = ap (λ (n : ℕ). take n (writes_of bytes)) (all ∙ sym long) ∙ take-length (writes_of bytes) in
    put_is ∙ ap (λ (records : Key → Rec). put records taken_key rec) (before ∙ ap (put_all records) whole ∙ put_all-laid_over records (writes_of bytes)
    (ascend_ordered shape (writes_of bytes) is.ascend))
    ∙ ap (put (laid_over records (writes_of bytes)) taken_key) number
