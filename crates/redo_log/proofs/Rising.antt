-- Records whose keys rise, tested one after the other.
use Rattle.std.proofs.Common.{◌≡◌, ℕ, suc, ◌+◌, ◌*◌, ◌-◌, ◌<◌, [], ◌∷◌, Option, None, Some, sym, ap, ◌∙◌, subst, arith}
use Rattle.std.specs.Prelude.{◌↔◌, IsTrue, false}
use Rattle.std.proofs.lemmas.Bool.{false≢true}
use Rattle.std.specs.List.{AllByRecursion}
use Rattle.std.specs.declared.cmp.Ordering.TheVariants.{Less}
use Rattle.disk_model.specs.Contents.{Files}
use Rattle.rec_bytes.specs.declared.key.Key.{Key}
use Rattle.rec_bytes.specs.declared.record.Rec.{Rec}
use Rattle.rec_bytes.specs.Key.{IsKey, key_cmp}
use Rattle.rec_bytes.specs.Pairs.{Pairs, IsBelow, IsOrdered}
use Rattle.rec_bytes.proofs.PairLaws.{keys_total}
use Rattle.redo_log.specs.Entries.{write_at, writes_from}
use Rattle.redo_log.specs.Reading.{IsNextKey, AreRisingAbove}

-- what is greater than a key is greater than each smaller one
below_all : (a b : Key) (writes : Pairs) → key_cmp a b ≡ Less → IsBelow b writes → IsBelow a writes
below_all a b [] h below = tt
below_all a b (write ∷ later) h below = (keys_total.trans a b write.0 h below.0, below_all a b later h below.1)

pub rising_valid : (last : Option Key) (writes : Pairs) → AreRisingAbove last writes → AllByRecursion (λ (write : Key × Rec). IsKey write.0) writes
rising_valid last [] rising = tt
rising_valid last (write ∷ later) rising = (rising.0.valid, rising_valid (Some write.0) later rising.1)

rising_above : (last : Key) (writes : Pairs) → AreRisingAbove (Some last) writes → IsBelow last writes × IsOrdered writes
rising_above last [] rising = (tt, tt)
rising_above last (write ∷ later) rising =
    let rest = rising_above write.0 later rising.1 in
    ((rising.0.above, below_all last write.0 later rising.0.above rest.0), rest)

pub rising_ordered : (writes : Pairs) → AreRisingAbove None writes → IsOrdered writes
rising_ordered [] rising = tt
rising_ordered (write ∷ later) rising = rising_above write.0 later rising.1

rises_above : (last : Key) (writes : Pairs) → AllByRecursion (λ (write : Key × Rec). IsKey write.0) writes → IsBelow last writes → IsOrdered writes
    → AreRisingAbove (Some last) writes
rises_above last [] valid below ordered = tt
rises_above last (write ∷ later) valid below ordered = (record { valid = valid.0; above = below.0 }, rises_above write.0 later valid.1 ordered.0 ordered.1)

pub ordered_rises : (writes : Pairs) → AllByRecursion (λ (write : Key × Rec). IsKey write.0) writes → IsOrdered writes → AreRisingAbove None writes
ordered_rises [] valid ordered = tt
ordered_rises (write ∷ later) valid ordered = (record { valid = valid.0; above = tt }, rises_above write.0 later valid.1 ordered.0 ordered.1)

-- the records from the place of one on, of which there are some
pub writes_from-first : (content : Files) (start index count : ℕ) → index < count
    → writes_from content (start + 69 * index) (count - index) ≡ write_at content (start + 69 * index) ∷ writes_from content (start + 69 * (index + 1))
    (count - (index + 1))
writes_from-first content start index count lt =
    let more : count - index ≡ suc (count - (index + 1)) = omega arith in
    let next : start + 69 * index + 69 ≡ start + 69 * (index + 1) = omega arith in
    ap (λ (n : ℕ). writes_from content (start + 69 * index) n) more ∙ ap
    (λ (p : ℕ). write_at content (start + 69 * index) ∷ writes_from content p (count - (index + 1))) next

-- the next key is the one that it has to be, so those behind it decide
pub rising_goes_on : (content : Files) (start index count : ℕ) (last : Option Key) (key : Key) (Rising : Type 0) → index < count
    → key ≡ (write_at content (start + 69 * index)).0 → IsNextKey last key
    → AreRisingAbove last (writes_from content (start + 69 * index) (count - index)) ↔ Rising
    → AreRisingAbove (Some key) (writes_from content (start + 69 * (index + 1)) (count - (index + 1))) ↔ Rising
rising_goes_on content start index count last key Rising lt is next decides =
    let later = writes_from content (start + 69 * (index + 1)) (count - (index + 1)) in
    let first = writes_from-first content start index count lt in (
      λ rising. decides.0 (subst (AreRisingAbove last) (sym first) (subst (λ (k : Key). IsNextKey last k × AreRisingAbove (Some k) later) is (next, rising))),
      λ rising. (subst (λ (k : Key). IsNextKey last k × AreRisingAbove (Some k) later) (sym is) (subst (AreRisingAbove last) first (decides.1 rising))).1,
    )

-- the next key is another one, so the keys don't rise
pub rising_ends : (content : Files) (start index count : ℕ) (last : Option Key) (key : Key) (Rising : Type 0) → index < count
    → key ≡ (write_at content (start + 69 * index)).0 → (IsNextKey last key → IsTrue false)
    → AreRisingAbove last (writes_from content (start + 69 * index) (count - index)) ↔ Rising
    → IsTrue false ↔ Rising
rising_ends content start index count last key Rising lt is other decides = (
  λ never. absurd (false≢true never),
  λ rising. other (subst (IsNextKey last) (sym is) (subst (AreRisingAbove last) (writes_from-first content start index count lt) (decides.1 rising)).0),
)
