-- The records of a follower, shipment by shipment.
use Rattle.std.proofs.Common.{◌≡◌, ◌∙◌, ap, sym, ℕ, ◌+◌, ◌<◌, ◌^◌, Bool, true, false, cond, List, [], ◌∷◌, ◌++◌, Some, length, take, refl, lit≤}
use Rattle.std.specs.List.{slice_get}
use Rattle.std.proofs.lemmas.List.{take_more}
use Rattle.std.proofs.lemmas.Option.{get_or_from_slice_get, slice_get_within}
use Rattle.std.specs.Prelude.{get_or}
use Rattle.rec_bytes.specs.declared.key.Key.{Key}
use Rattle.rec_bytes.specs.declared.record.Rec.{Rec}
use Rattle.rec_bytes.specs.declared.shape.Shape.{Shape}
use Rattle.rec_bytes.specs.Creation.{new_records}
use Rattle.rec_bytes.specs.Key.{key_eq}
use Rattle.rec_bytes.specs.Pairs.{Pairs, held_at}
use Rattle.rec_bytes.specs.Record.{as_64, field, with_bytes, with_field, zeros}
use Rattle.rec_bytes.specs.Space.{laid_over, put}
use Rattle.rec_bytes.proofs.Numbers.{field-with_field_same}
use Rattle.rec_bytes.proofs.Spaces.{put_held, put_same}
use Rattle.txn_core.specs.Shipped.{taken_key}
use Rattle.follower.specs.Shipment.{number_of, writes_of}
use Rattle.follower.specs.Taken.{follower_records, laid_all, number_in, number_record, sender_records, taken}

-- one shipment more
laid_all-append : (records : Key → Rec) (sent : List (List ℕ)) (bytes : List ℕ)
    → laid_all records (sent ++ bytes ∷ []) ≡ laid_over (laid_all records sent) (writes_of bytes)
laid_all-append records [] bytes = refl
laid_all-append records (first ∷ later) bytes = laid_all-append (laid_over records (writes_of first)) later bytes

pub sender_records-more : (shape : Shape) (sent : List (List ℕ)) (j : ℕ) (bytes : List ℕ) → slice_get sent j ≡ Some bytes
    → sender_records shape sent (j + 1) ≡ laid_over (sender_records shape sent j) (writes_of bytes)
sender_records-more shape sent j bytes got =
    let within : j < length sent = slice_get_within sent j bytes got in
    let is : get_or sent j bytes ≡ bytes = get_or_from_slice_get sent j bytes bytes got in
    ap (laid_all (new_records shape)) (take_more sent j bytes within)
    ∙ ap (λ (last : List ℕ). laid_all (new_records shape) (take j sent ++ last ∷ [])) is
    ∙ laid_all-append (new_records shape) (take j sent) bytes

-- a record set before others are laid over it doesn't count where it is set after them too
put_over : (records : Key → Rec) (key : Key) (one other : Rec) (pairs : Pairs) (q : Key)
    → put (laid_over (put records key one) pairs) key other q ≡ put (laid_over records pairs) key other q
put_over records key one other pairs q = by_key (key_eq q key)
  where
    by_key : (same : Bool) → cond same other (held_at pairs q (cond same one (records q))) ≡ cond same other (held_at pairs q (records q))
    by_key true = refl
    by_key false = refl

-- the next shipment makes of a follower's records those of the next number
pub taken-follower_records : (shape : Shape) (sent : List (List ℕ)) (j : ℕ) (bytes : List ℕ) → slice_get sent j ≡ Some bytes → number_of bytes ≡ j + 1
    → taken (follower_records shape sent j) bytes ≡ follower_records shape sent (j + 1)
taken-follower_records shape sent j bytes got number =
    (λ i q. put_over (sender_records shape sent j) taken_key (number_record j) (number_record (number_of bytes)) (writes_of bytes) q i)
    ∙ ap (λ (n : ℕ). put (laid_over (sender_records shape sent j) (writes_of bytes)) taken_key (number_record n)) number
    ∙ ap (λ (records : Key → Rec). put records taken_key (number_record (j + 1))) (sym (sender_records-more shape sent j bytes got))

number_record-zero : number_record 0 ≡ zeros
unfolding with_field with_bytes as_64
number_record-zero = refl

-- where none was taken they are those of a new store
pub follower_records-none : (shape : Shape) (sent : List (List ℕ)) → follower_records shape sent 0 ≡ new_records shape
follower_records-none shape sent =
    ap (put (new_records shape) taken_key) number_record-zero
    ∙ put_held (new_records shape) taken_key zeros refl

-- the number in them
pub number_in-follower_records : (shape : Shape) (sent : List (List ℕ)) (j : ℕ) → j < 2 ^ 64 → number_in (follower_records shape sent j) ≡ j
number_in-follower_records shape sent j small =
    ap (λ (rec : Rec). field 8 rec 0) (put_same (sender_records shape sent j) taken_key (number_record j))
    ∙ field-with_field_same 8 zeros 0 j (lit≤ tt) small

-- and after a shipment
pub number_in-taken : (records : Key → Rec) (bytes : List ℕ) → number_of bytes < 2 ^ 64 → number_in (taken records bytes) ≡ number_of bytes
number_in-taken records bytes small =
    ap (λ (rec : Rec). field 8 rec 0) (put_same (laid_over records (writes_of bytes)) taken_key (number_record (number_of bytes)))
    ∙ field-with_field_same 8 zeros 0 (number_of bytes) (lit≤ tt) small
