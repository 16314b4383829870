-- What a delivery makes of a follower that has come through the sender's first shipments.
use Rattle.std.proofs.Common.{◌≡◌, ◌∙◌, ℕ, zero, suc, ◌+◌, ◌*◌, ◌<◌, ◌≤◌, nat_eq, nat_le, Bool, true, false, cond, inr}
use Rattle.std.proofs.Common.{List, Some, Result, Ok, Err, IfOk, length, ap, sym, subst, arith, refl}
use Rattle.std.specs.List.{slice_get}
use Rattle.std.proofs.lemmas.Bool.Decides.{nat_tests}
use Rattle.std.proofs.lemmas.Option.{slice_get_within}
use Rattle.disk_model.specs.Contents.{Files}
use Rattle.disk_model.specs.declared.disk.Disk.{Ghosts}
use Rattle.rec_bytes.specs.declared.key.Key.{Key}
use Rattle.rec_bytes.specs.declared.record.Rec.{Rec}
use Rattle.rec_bytes.specs.declared.shape.Shape.{Shape}
use Rattle.record_file.specs.Redone.{Redoes}
use Rattle.stored_graph.specs.Stands.{IsZeros}
use Rattle.txn_core.specs.Config.{shape_of}
use Rattle.txn_core.specs.declared.config.Config.{Config}
use Rattle.follower.specs.Follower.{HasApplied, IsNextFor, IsOpened, IsUnchanged, View}
use Rattle.follower.specs.Sent.{IsSent}
use Rattle.follower.specs.Shipment.{number_of}
use Rattle.follower.specs.Taken.{follower_records, number_in, taken}
use Rattle.follower.proofs.Standing.{opens_as, zeros_blank}
use Rattle.follower.proofs.Taking.{number_in-follower_records, taken-follower_records}
use Rattle.graph_console.specs.Follow.{all_delivered, deliver, deliver_drawn, deliver_first, none_delivered, picked_number}
use Rattle.graph_console.specs.Following.{HasTaken, TakesAll, count_delivered}
use Rattle.graph_console.specs.declared.follow.delivered.Delivered.{Delivered}

-- ---- the counts

deliver_old : (number : ℕ) (so_far : Delivered) → number ≤ so_far.applied → deliver number so_far ≡ record so_far { old = so_far.old + 1 }
deliver_old number so_far low = let is : nat_le number so_far.applied ≡ true = grind (arith, nat_tests) in rw is refl

deliver_next : (number : ℕ) (so_far : Delivered) → number ≡ so_far.applied + 1 → deliver number so_far ≡ record so_far { applied = so_far.applied + 1 }
deliver_next number so_far next =
    let later : nat_le number so_far.applied ≡ false = grind (arith, nat_tests) in
    let is : nat_eq number (so_far.applied + 1) ≡ true = grind (arith, nat_tests) in
    rw (later, is) refl

deliver_gap : (number : ℕ) (so_far : Delivered) → so_far.applied + 1 < number → deliver number so_far ≡ record so_far { gap = so_far.gap + 1 }
deliver_gap number so_far high =
    let later : nat_le number so_far.applied ≡ false = grind (arith, nat_tests) in
    let other : nat_eq number (so_far.applied + 1) ≡ false = grind (arith, nat_tests) in
    rw (later, other) refl

-- ---- a delivery

module _ {D : Type 0} (g : Ghosts D) (shape : Shape) (sent : List (List ℕ)) (is : IsSent shape sent) (place : ℕ) (bytes : List ℕ)
    (got : slice_get sent place ≡ Some bytes)
    (so_far : Delivered) (old new : View D) (reads : g.tells_reads) (has : HasTaken g shape sent so_far old) (same_shape : new.shape ≡ old.shape) where
  number_is : number_of bytes ≡ place + 1
  number_is = (is.each place bytes got).1

  -- the follower is as it was
  unchanged : (old_ones gaps : ℕ) → IsUnchanged g old new → HasTaken g shape sent (record { applied = so_far.applied; old = old_ones; gap = gaps }) new
  unchanged old_ones gaps same = let same_reads : g.reads new.disk ≡ g.reads old.disk = λ i file at. same.disk.keeps file at i in record {
    shape_is = same_shape ∙ has.shape_is;
    have = same.have ∙ has.have;
    within = has.within;
    records = same.records reads ∙ has.records;
    stored =
        subst (Redoes (g.reads new.disk)) (sym (same.records reads))
        (subst (λ (content : Files). Redoes content old.records) (sym same_reads) has.stored);
  }

  pub takes_old : number_of bytes ≤ old.have → IsUnchanged g old new → (record so_far { old = so_far.old + 1 } ≡ deliver (place + 1) so_far)
      × HasTaken g shape sent (record so_far { old = so_far.old + 1 }) new
  takes_old low same =
      let have = has.have in
      let number = number_is in
      (sym (deliver_old (place + 1) so_far (omega arith)), unchanged (so_far.old + 1) so_far.gap same)

  pub takes_gap : old.have + 1 < number_of bytes → IsUnchanged g old new → (record so_far { gap = so_far.gap + 1 } ≡ deliver (place + 1) so_far)
      × HasTaken g shape sent (record so_far { gap = so_far.gap + 1 }) new
  takes_gap high same =
      let have = has.have in
      let number = number_is in
      (sym (deliver_gap (place + 1) so_far (omega arith)), unchanged so_far.old (so_far.gap + 1) same)

  pub takes_next : IsNextFor old bytes → HasApplied g bytes old new → (record so_far { applied = so_far.applied + 1 } ≡ deliver (place + 1) so_far)
      × HasTaken g shape sent (record so_far { applied = so_far.applied + 1 }) new
  takes_next next applied =
      let have = has.have in
      let number = number_is in
      let number_next = next.number in
      let at : place ≡ so_far.applied = omega arith in
      let below : place < length sent = slice_get_within sent place bytes got in
      let got_here : slice_get sent so_far.applied ≡ Some bytes = subst (λ (p : ℕ). slice_get sent p ≡ Some bytes) at got in (
        sym (deliver_next (place + 1) so_far (omega arith)),
        record {
          shape_is = same_shape ∙ has.shape_is;
          have = applied.have ∙ next.number ∙ ap (λ (n : ℕ). n + 1) has.have;
          within = omega arith;
          records =
              applied.records reads ∙ ap (λ (records : Key → Rec). taken records bytes) has.records
              ∙ taken-follower_records shape sent so_far.applied bytes got_here (next.number ∙ ap (λ (n : ℕ). n + 1) has.have);
          stored = applied.stored.read reads;
        },
      )

-- ---- an opening

-- a follower that is opened on a disk of zeros has none
pub opens_none : {D : Type 0} (g : Ghosts D) (config : Config) (sent : List (List ℕ)) (old : D) (new : View D) → g.tells_reads → IsSent (shape_of config) sent
    → IsZeros (g.reads old) → IsOpened g config old new
    → HasTaken g (shape_of config) sent none_delivered new
opens_none g config sent old new reads is zeros opened =
    let found = opens_as config sent (g.reads old) 0 new.shape new.records is (omega arith) (inr (refl, zeros_blank (g.reads old) zeros))
    (opened.opens reads) in
    record {
      shape_is = found.1;
      have = opened.have reads ∙ ap number_in found.0 ∙ number_in-follower_records (shape_of config) sent 0 (omega arith);
      within = omega arith;
      records = found.0;
      stored = opened.stored.read reads;
    }

-- ---- the last deliveries

-- each of the first ones is applied then
pub reaches : (n : ℕ) (so_far : Delivered) → n ≤ (deliver_first n so_far).applied
unfolding deliver_first
reaches zero so_far = omega arith
reaches (suc n) so_far = by (deliver_first n so_far) (reaches n so_far)
  where
    by : (before : Delivered) → n ≤ before.applied → suc n ≤ (deliver (n + 1) before).applied
    by before low = go (nat_le (n + 1) before.applied) (nat_eq (n + 1) (before.applied + 1)) refl refl
      where
        go : (is_old is_next : Bool) → nat_le (n + 1) before.applied ≡ is_old → nat_eq (n + 1) (before.applied + 1) ≡ is_next
            → suc n ≤ (cond is_old (record before { old = before.old + 1 }) (cond is_next (record before { applied = before.applied + 1 })
            (record before { gap = before.gap + 1 }))).applied
        go true is_next old next = grind (arith, nat_tests)
        go false true old next = omega (arith, low)
        go false false old next = absurd (grind (arith, nat_tests))

-- ---- a loop of deliveries

-- The follower still takes shipments, so many were delivered since it was as it was first, and this came of them.
pub record HasDelivered {D : Type 0} (g : Ghosts D) (sent : List (List ℕ)) (first : Delivered) (start : View D) (counted : ℕ) (all delivered : Delivered)
    (now : View D) : Type 0 where
  pub live : now.live ≡ true
  pub count : count_delivered delivered ≡ counted
  pub delivers : g.tells_reads → (shape : Shape) → IsSent shape sent → HasTaken g shape sent first start → (delivered ≡ all)
      × HasTaken g shape sent delivered now

-- one delivery more
pub delivered_more : {D : Type 0} (g : Ghosts D) (sent : List (List ℕ)) (first : Delivered) (start : View D) (counted counted_next : ℕ)
    (all all_next : Delivered) (so_far delivered : Delivered) (now next : View D) (place : ℕ) (bytes : List ℕ)
    → HasDelivered g sent first start counted all so_far now → slice_get sent place ≡ Some bytes → counted_next ≡ counted + 1
    → all_next ≡ deliver (place + 1) all → next.live ≡ true → count_delivered delivered ≡ count_delivered so_far + 1
    → (g.tells_reads → (shape : Shape) (sent : List (List ℕ)) (place : ℕ) → IsSent shape sent → slice_get sent place ≡ Some bytes → HasTaken g shape sent so_far
    now → (delivered ≡ deliver (place + 1) so_far) × HasTaken g shape sent delivered next)
    → HasDelivered g sent first start counted_next all_next delivered next
delivered_more g sent first start counted counted_next all all_next so_far delivered now next place bytes before got counted_is all_is live count takes =
    record {
      live = live;
      count = count ∙ ap (λ (n : ℕ). n + 1) before.count ∙ sym counted_is;
      delivers = λ reads shape is has.
          let until = before.delivers reads shape is has in
          let one = takes reads shape sent place is got until.1 in
          (one.0 ∙ ap (deliver (place + 1)) until.0 ∙ sym all_is, one.1);
    }

pub one_more : (n : ℕ) → n + 1 ≡ suc n
one_more n = omega arith

-- one more is drawn
pub drawn_more : (count x draw : ℕ) → deliver_drawn count x (draw + 1) ≡ deliver (picked_number count x draw) (deliver_drawn count x draw)
unfolding deliver_drawn
drawn_more count x draw = ap (deliver_drawn count x) (one_more draw)

-- the next one comes in order
pub first_more : (n : ℕ) (so_far : Delivered) → deliver_first (n + 1) so_far ≡ deliver (n + 1) (deliver_first n so_far)
unfolding deliver_first
first_more n so_far = ap (λ (m : ℕ). deliver_first m so_far) (one_more n)

pub none_drawn : (count x : ℕ) → deliver_drawn count x 0 ≡ none_delivered
unfolding deliver_drawn
none_drawn count x = refl

pub no_first : (so_far : Delivered) → deliver_first 0 so_far ≡ so_far
unfolding deliver_first
no_first so_far = refl

-- a follower that was delivered all of them has all of them
pub has_all : {D : Type 0} (g : Ghosts D) (shape : Shape) (sent : List (List ℕ)) (drawn delivered : Delivered) (now : View D)
    → delivered ≡ deliver_first (length sent) drawn → HasTaken g shape sent delivered now
    → Redoes (g.reads now.disk) (follower_records shape sent (length sent))
has_all g shape sent drawn delivered now all has =
    let least : length sent ≤ (deliver_first (length sent) drawn).applied = reaches (length sent) drawn in
    let most : delivered.applied ≤ length sent = has.within in
    let same : delivered.applied ≡ (deliver_first (length sent) drawn).applied = ap (λ (d : Delivered). d.applied) all in
    let number : delivered.applied ≡ length sent = omega (arith, least, most, same) in
    subst (Redoes (g.reads now.disk)) (has.records ∙ ap (follower_records shape sent) number) has.stored

-- all deliveries, from an opening on
pub takes_all : {D E : Type 0} (g : Ghosts D) (config : Config) (sent : List (List ℕ)) (x : ℕ) (old : D) (opened new : View D) (result : Result Delivered E)
    → IsOpened g config old opened
    → (g.tells_reads → (shape : Shape) → IsSent shape sent → HasTaken g shape sent none_delivered opened → IfOk result
    (λ delivered. (delivered ≡ all_delivered (length sent) x) × HasTaken g shape sent delivered new))
    → IfOk result (TakesAll g (shape_of config) sent x old new.disk)
takes_all g config sent x old opened new (Ok delivered) opens takes = λ reads is zeros.
    let ends = takes reads (shape_of config) is (opens_none g config sent old opened reads is zeros opens) in
    (ends.0, has_all g (shape_of config) sent (deliver_drawn (length sent) x (4 * length sent)) delivered new ends.0 ends.1)
takes_all g config sent x old opened new (Err fault) opens takes = tt
