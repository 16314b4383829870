-- A follower's records are a store with the sender's graph, as the sender's are.
use Rattle.std.proofs.Common.{◌≡◌, ◌≢◌, ◌∙◌, ap, sym, subst, inl, inr, ℕ, zero, suc, ◌+◌, ◌<◌, ◌≤◌, Bool, true, cond}
use Rattle.std.proofs.Common.{List, [], ◌∷◌, Option, None, Some, length, refl, arith}
use mathlib.Core.Bool.{false≢true}
use Rattle.std.specs.List.{slice_get}
use Rattle.rec_bytes.specs.declared.key.Key.{Key}
use Rattle.rec_bytes.specs.declared.record.Rec.{Rec}
use Rattle.rec_bytes.specs.declared.shape.Shape.{Shape}
use Rattle.rec_bytes.specs.Format.{taken_rest}
use Rattle.rec_bytes.specs.Pairs.{Pairs, find_pair}
use Rattle.rec_bytes.specs.Record.{as_64, with_bytes, with_field, zeros, zeros_from}
use Rattle.rec_bytes.specs.Space.{blank_records}
use Rattle.rec_bytes.proofs.KeyLaws.{key_eq-other}
use Rattle.rec_bytes.proofs.Spaces.{laid_over-other}
use Rattle.store_rules.specs.Indexes.{IsIndexed}
use Rattle.store_rules.proofs.NewStores.{new_store_empty}
use Rattle.store_rules.proofs.NumberedStores.{graph-numbered, indexed_numbered}
use Rattle.stored_graph.specs.Stands.{StandsFor}
use Rattle.follower.specs.Sent.{HoldsSent, IsSent, sent_graph}
use Rattle.txn_core.specs.Shipped.{is_shipped, taken_key}
use Rattle.follower.specs.Shipment.{Ascend, writes_of}
use Rattle.follower.specs.Taken.{follower_records, number_record, sender_records}
use Rattle.follower.proofs.Taking.{sender_records-more}

-- zeros stand behind a number
number_rest : (number : ℕ) → zeros_from taken_rest (number_record number) ≡ true
unfolding zeros_from with_field with_bytes as_64
number_rest number = refl

-- ---- the sender's store has no number

kept_back : (shape : Shape) (last : Option Key) (writes : Pairs) → Ascend shape last writes → find_pair writes taken_key ≡ None
kept_back shape last [] ascend = refl
kept_back shape last (write ∷ later) ascend =
    let other : taken_key ≢ write.0 = λ same. false≢true (subst (λ (key : Key). is_shipped shape key ≡ true) (sym same) ascend.0.shipped) in
    ap (λ (b : Bool). cond b (Some write.1) (find_pair later taken_key)) (key_eq-other taken_key write.0 other) ∙ kept_back shape (Some write.0) later ascend.1

slice_get_below : (xs : List (List ℕ)) (i : ℕ) → i < length xs → (x : List ℕ) × (slice_get xs i ≡ Some x)
slice_get_below [] i lt = absurd (omega arith)
slice_get_below (x ∷ xs) zero lt = (x, refl)
slice_get_below (x ∷ xs) (suc i) lt = slice_get_below xs i (omega arith)

sender_number : (shape : Shape) (sent : List (List ℕ)) (j : ℕ) → IsSent shape sent → j ≤ length sent → sender_records shape sent j taken_key ≡ zeros
sender_number shape sent zero is below = refl
sender_number shape sent (suc j) is below =
    let next = slice_get_below sent j (omega arith) in
    let one : j + 1 ≡ suc j = omega arith in
    ap (λ (n : ℕ). sender_records shape sent n taken_key) (sym one)
    ∙ ap (λ (records : Key → Rec). records taken_key) (sender_records-more shape sent j next.0 next.1)
    ∙ laid_over-other (sender_records shape sent j) (writes_of next.0) taken_key (kept_back shape None (writes_of next.0) (is.each j next.0 next.1).0.ascend)
    ∙ sender_number shape sent j is (omega arith)

-- ---- what a content of a follower's disk stands for

pub follower_well : (shape : Shape) (sent : List (List ℕ)) (j : ℕ) → IsSent shape sent → j ≤ length sent → IsIndexed (follower_records shape sent j) shape
follower_well shape sent j is below = indexed_numbered (sender_records shape sent j) (number_record j) shape (sender_number shape sent j is below)
    (number_rest j) (is.stored j below)

pub taken_stands : (shape : Shape) (sent : List (List ℕ)) (j : ℕ) (content : _) → IsSent shape sent → j ≤ length sent → HoldsSent shape sent j content
    → StandsFor content shape (sent_graph shape sent j)
taken_stands shape sent j content is below (inl redoes) = inr (record {
  space = follower_records shape sent j;
  redoes = redoes;
  store = follower_well shape sent j is below;
  graph_is = sym (graph-numbered (sender_records shape sent j) (number_record j));
})
taken_stands shape sent j content is below (inr blank) = inl (
  blank.1.unmade,
  ap (sent_graph shape sent) blank.0 ∙ new_store_empty blank_records shape,
)
