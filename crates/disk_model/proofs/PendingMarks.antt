-- Files that mark the pending places of a disk, and the image that draws a byte at each.
use Rattle.std.proofs.Common.{◌≡◌, ⊎_elim, ℕ, ◌<◌, ◌%◌, cond, ◌&&◌, ltb, List, length, ap, ◌∙◌, sym, arith}
use Rattle.std.specs.List.{AllByRecursion}
use Rattle.std.proofs.lemmas.Bool.{cases_Bool, cond-true, cond-false, and_from, and_left, lt-ltb}
use Rattle.disk_model.specs.Calls.{Call, FitsFile, pending_since, content_since}
use Rattle.disk_model.specs.Generator.{drawn}
use Rattle.disk_model.specs.Marks.{is_marked_in, with_draws}
use Rattle.disk_model.specs.MemoryDisk.{IsRead}
use Rattle.disk_model.specs.Places.{count_before}
use Rattle.disk_model.specs.PlainDisk.{file_of, rooms_of, contents, AllZeros}
use Rattle.disk_model.proofs.Draws.{count_before-same}
use Rattle.disk_model.proofs.ReadFiles.{same_room, pending_since_within}

-- files of zeros with a 1 at each pending place mark these and no others
pub marked-pending : (base pokes blank marks : List (List ℕ)) (calls : List Call) → AllByRecursion (FitsFile base) calls → rooms_of blank ≡ rooms_of base
    → AllZeros blank
    → ((file place : ℕ) → contents marks file place ≡ cond (pending_since (contents pokes) calls file place && ltb place (length (file_of blank file))) 1
    (contents blank file place))
    → (file place : ℕ) → is_marked_in marks file place ≡ pending_since (contents pokes) calls file place
marked-pending base pokes blank marks calls fits rooms zeros filled file place =
    ⊎_elim
    (λ pending.
    let known : place < length (file_of blank file) = omega (
      arith,
      pending_since_within base (contents pokes) calls file place fits pending,
      same_room blank
          base file rooms,
    ) in
    ap (λ mark. ltb 0 mark) (filled file place ∙ cond-true _ 1 (contents blank file place) (and_from (pending_since (contents pokes) calls file place)
    (ltb place (length (file_of blank file))) pending (lt-ltb place (length (file_of blank file)) known)))
    ∙ sym pending)
    (λ settled.
    ap (λ mark. ltb 0 mark) (filled file place ∙ cond-false _ 1 (contents blank file place) (and_left (pending_since (contents pokes) calls file place)
    (ltb place (length (file_of blank file))) settled) ∙ zeros file place)
    ∙ sym settled)
    (cases_Bool (pending_since (contents pokes) calls file place))

-- the files as they are read with a byte drawn at each pending place
pub with_draws-pending : (base pokes files marks : List (List ℕ)) (calls : List Call) (seed file place : ℕ) → IsRead base pokes files calls
    → rooms_of marks ≡ rooms_of base
    → ((f p : ℕ) → is_marked_in marks f p ≡ pending_since (contents pokes) calls f p)
    → with_draws seed marks (contents files) file place ≡ cond (pending_since (contents pokes) calls file place)
    (drawn seed (count_before (pending_since (contents pokes) calls) base file place) % 256)
    (content_since (contents base) (contents pokes) calls file place)
with_draws-pending base pokes files marks calls seed file place read rooms marked =
    ap (λ b. cond b (drawn seed (count_before (is_marked_in marks) marks file place) % 256) (contents files file place)) (marked file place)
    ∙ ap (λ draw. cond (pending_since (contents pokes) calls file place) (drawn seed draw % 256) (contents files file place))
    (count_before-same (is_marked_in marks) (pending_since (contents pokes) calls) marks base file place rooms marked)
    ∙ ap (λ byte. cond (pending_since (contents pokes) calls file place) (drawn seed (count_before (pending_since (contents pokes) calls) base file place)
    % 256) byte) (read.reads file place)
