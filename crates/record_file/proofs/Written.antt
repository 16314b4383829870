-- What writing records one after the other does.
use Rattle.std.proofs.Common.{◌≡◌, ◌≢◌, ◌∙◌, ap, sym, subst, ⊎_elim, ℕ, zero, suc, ◌+◌, ◌≤◌, false, [], ◌∷◌, Option}
use Rattle.std.proofs.Common.{Some, None, unwrap_or, is_some, length, drop, refl, arith}
use mathlib.Core.Bool.{false≢true}
use Rattle.std.specs.List.{AllByRecursion, slice_get}
use Rattle.std.specs.declared.cmp.Ordering.TheVariants.{Less, Greater}
use Rattle.disk_model.specs.Contents.{Files, Same}
use Rattle.disk_model.specs.Spans.{AtEachMoment}
use Rattle.disk_model.specs.declared.disk.Disk.{Ghosts}
use Rattle.disk_model.proofs.Spans.{CountsNow, OnlyNow, Passes, at_each_moment_none, at_each_moment_now, at_each_moment_then}
use Rattle.rec_bytes.specs.declared.key.Key.{Key}
use Rattle.rec_bytes.specs.declared.record.Rec.{Rec}
use Rattle.rec_bytes.specs.Format.{log_file}
use Rattle.rec_bytes.specs.Key.{IsKey, key_eq}
use Rattle.rec_bytes.specs.Pairs.{Pairs, IsBelow, IsOrdered, find_pair}
use Rattle.rec_bytes.specs.Space.{laid_over, put}
use Rattle.rec_bytes.proofs.KeyLaws.{key_eq-same}
use Rattle.rec_bytes.proofs.PairLaws.{apart, reverse}
use Rattle.rec_bytes.proofs.Spaces.{put_same}
use Rattle.record_file.specs.Records.{IsTornInRecords, SameButRecords}
use Rattle.record_file.proofs.Records.{cases_key, record_at-kept}

-- two changes of these records
pub SameButRecords-then : (written : Pairs) (old middle new : Files) → SameButRecords written old middle → SameButRecords written middle new
    → SameButRecords written old new
SameButRecords-then written old middle new before after = record {
  log = λ place. after.log place ∙ before.log place;
  others = λ key none. after.others key none ∙ before.others key none;
}

-- no change at all
pub SameButRecords-same : (written : Pairs) (old new : Files) → Same old new → SameButRecords written old new
SameButRecords-same written old new same = record { log = same log_file; others = λ key none. record_at-kept key old new same }

pub SameButRecords-none : (written : Pairs) (content : Files) → SameButRecords written content content
SameButRecords-none written content = record { log = λ place. refl; others = λ key none. refl }

-- before the first write
pub torn_in_records_none : {D : Type 0} (g : Ghosts D) (disk : D) (written : Pairs) → OnlyNow g → g.tells_images
    → AtEachMoment g disk disk (IsTornInRecords (g.may_leave disk) written)
torn_in_records_none g disk written only told = at_each_moment_none g disk (IsTornInRecords (g.may_leave disk) written) only told
    (λ image left. (image, left, SameButRecords-none written image))

-- records that are all among these
abbrev pub AreAmong : Pairs → Pairs → Type 0
AreAmong some written = (key : Key) → find_pair written key ≡ None → find_pair some key ≡ None

pub AreAmong-none : (written : Pairs) → AreAmong [] written
AreAmong-none written key none = refl

-- one more of them
pub AreAmong-put : (old new written : Pairs) (key : Key) → AreAmong old written → find_pair written key ≢ None
    → ((q : Key) → find_pair old q ≡ None → key_eq q key ≡ false → find_pair new q ≡ None) → AreAmong new written
AreAmong-put old new written key among found waits q none = ⊎_elim
    (λ e. absurd (found (subst (λ k. find_pair written k ≡ None) e none)))
    (λ differ. waits q (among q none) differ)
    (cases_key q key)

-- a change of some of them
pub SameButRecords-among : (some written : Pairs) (old new : Files) → AreAmong some written → SameButRecords some old new → SameButRecords written old new
SameButRecords-among some written old new among same = record { log = same.log; others = λ key none. same.others key (among key none) }

-- one write more of some of these records
pub torn_in_records_more : {D : Type 0} (g : Ghosts D) (first old new : D) (written some : Pairs) → CountsNow g → g.tells_images
    → AtEachMoment g first old (IsTornInRecords (g.may_leave first) written) → Passes g old new
    → ((image : Files) → g.may_leave new image → IsTornInRecords (g.may_leave old) some image)
    → AreAmong some written → AtEachMoment g first new (IsTornInRecords (g.may_leave first) written)
torn_in_records_more g first old new written some counts told before time torn among =
    at_each_moment_then g first old new (IsTornInRecords (g.may_leave first) written) before time (λ image left.
    let was = torn image left in
    let start = at_each_moment_now g first old (IsTornInRecords (g.may_leave first) written) counts told before was.0 was.1 in
    (start.0, start.1, SameButRecords-then written start.0 was.0 image start.2 (SameButRecords-among some written was.0 image among was.2)))

-- a pair after others has another key
below_get : (ps : Pairs) (key : Key) (i : ℕ) (write : Key × Rec) → IsBelow key ps → slice_get ps i ≡ Some write → key_eq write.0 key ≡ false
below_get [] key i write below is = absurd (false≢true (ap is_some is))
below_get (pair ∷ rest) key zero write below is =
    let same : pair ≡ write = ap (λ (o : Option (Key × Rec)). unwrap_or o pair) is in
    subst (λ (w : Key × Rec). key_eq w.0 key ≡ false) same (apart pair.0 key Greater (reverse key pair.0 Less below.0) (λ e. cc))
below_get (pair ∷ rest) key (suc i) write below is = below_get rest key i write below.1 is

-- the pair at a place is the one that is found
pub find_pair-get : (ps : Pairs) (i : ℕ) (write : Key × Rec) → IsOrdered ps → slice_get ps i ≡ Some write → find_pair ps write.0 ≡ Some write.1
find_pair-get [] i write ordered is = absurd (false≢true (ap is_some is))
find_pair-get (pair ∷ rest) zero write ordered is =
    let same : pair ≡ write = ap (λ (o : Option (Key × Rec)). unwrap_or o pair) is in
    subst (λ (w : Key × Rec). find_pair (pair ∷ rest) w.0 ≡ Some w.1) same (rw (key_eq-same pair.0) refl)
find_pair-get (pair ∷ rest) (suc i) write ordered is = rw (below_get rest pair.0 i write ordered.0 is) (find_pair-get rest i write ordered.1 is)

some≢none : {X : Type 0} (o : Option X) (x : X) → o ≡ Some x → o ≢ None
some≢none o x some none = false≢true (ap is_some (sym none ∙ some))

-- the key of the pair at a place is found
pub find_pair-there : (ps : Pairs) (i : ℕ) (write : Key × Rec) → IsOrdered ps → slice_get ps i ≡ Some write → find_pair ps write.0 ≢ None
find_pair-there ps i write ordered is = some≢none (find_pair ps write.0) write.1 (find_pair-get ps i write ordered is)

-- without the pair at the place the same is found at each other key
pub find_pair-drop : (ps : Pairs) (i : ℕ) (write : Key × Rec) (key : Key) → slice_get ps i ≡ Some write → key_eq key write.0 ≡ false
    → find_pair (drop i ps) key ≡ find_pair (drop (suc i) ps) key
find_pair-drop [] i write key is differ = absurd (false≢true (ap is_some is))
find_pair-drop (pair ∷ rest) zero write key is differ =
    let same : pair ≡ write = ap (λ (o : Option (Key × Rec)). unwrap_or o pair) is in
    rw (subst (λ (w : Key × Rec). key_eq key w.0 ≡ false) (sym same) differ) refl
find_pair-drop (pair ∷ rest) (suc i) write key is differ = find_pair-drop rest i write key is differ

-- after the last pair nothing is found
pub find_pair-end : (ps : Pairs) (i : ℕ) (key : Key) → length ps ≤ i → find_pair (drop i ps) key ≡ None
find_pair-end [] zero key end = refl
find_pair-end [] (suc i) key end = refl
find_pair-end (pair ∷ rest) zero key end = absurd (omega (arith, end))
find_pair-end (pair ∷ rest) (suc i) key end = find_pair-end rest i key (omega (arith, end))

-- a store can have the key of each pair
pub IsKey-get : (ps : Pairs) (i : ℕ) (write : Key × Rec) → AllByRecursion (λ (w : Key × Rec). IsKey w.0) ps → slice_get ps i ≡ Some write → IsKey write.0
IsKey-get [] i write keys is = absurd (false≢true (ap is_some is))
IsKey-get (pair ∷ rest) zero write keys is =
    let same : pair ≡ write = ap (λ (o : Option (Key × Rec)). unwrap_or o pair) is in
    subst (λ (w : Key × Rec). IsKey w.0) same keys.0
IsKey-get (pair ∷ rest) (suc i) write keys is = IsKey-get rest i write keys.1 is

-- At each key that is not among the rest the record is laid over the others.
abbrev pub AreWritten : (Key → Rec) → Pairs → ℕ → (Key → Rec) → Type 0
AreWritten base ps i records = (key : Key) → find_pair (drop i ps) key ≡ None → records key ≡ laid_over base ps key

pub AreWritten-none : (base : Key → Rec) (ps : Pairs) → AreWritten base ps 0 base
AreWritten-none base ps key none = rw none refl

pub AreWritten-all : (base : Key → Rec) (ps : Pairs) (i : ℕ) (records : Key → Rec) → AreWritten base ps i records → length ps ≤ i → records ≡ laid_over base ps
AreWritten-all base ps i records are end = λ j key. are key (find_pair-end ps i key end) j

pub AreWritten-more : (base : Key → Rec) (ps : Pairs) (i : ℕ) (write : Key × Rec) (old new : Key → Rec) → IsOrdered ps → slice_get ps i ≡ Some write
    → AreWritten base ps i old → new ≡ put old write.0 write.1 → AreWritten base ps (i + 1) new
AreWritten-more base ps i write old new ordered is are written key none =
    let found : find_pair ps write.0 ≡ Some write.1 = find_pair-get ps i write ordered is in
    let next : i + 1 ≡ suc i = omega arith in
    ⊎_elim
    (λ (e : key ≡ write.0). subst (λ k. new k ≡ laid_over base ps k) (sym e) (ap (λ (records : Key → Rec). records write.0) written ∙ put_same old write.0
    write.1 ∙ rw found refl))
    (λ differ. ap (λ (records : Key → Rec). records key) written
    ∙ rw differ (are key (find_pair-drop ps i write key is differ ∙ ap (λ (n : ℕ). find_pair (drop n ps) key) (sym next) ∙ none)))
    (cases_key key write.0)
