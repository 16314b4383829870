-- What a pass over the texts says.
use Rattle.std.proofs.Common.{◌≡◌, ◌⊎◌, ℕ, ◌<◌, Bool, true, false, List, sym, ◌∙◌, inr, ⊎_elim, arith}
use Rattle.std.specs.Bool.{Decides}
use Rattle.std.proofs.lemmas.Bool.{true≢false}
use Rattle.rec_bytes.specs.Format as format
use Rattle.store_rules.specs.Views.{Records, high, is_live, rec_at}
use Rattle.store_rules.proofs.ViewLaws.{kind_below}
use Rattle.store_rules.specs.Breaking.{HasBlock, IsBlockHeldOnce, IsBlockList, IsLong, TextKeeps}
use Rattle.record_lists.specs.Heads.{AmongHeads, AtHead, HeadKeeps, IsOnce, IsTwice}
use Rattle.store_check.specs.Holding.{AllTexts, AreTextsRight, IsBlockHeld}
use Rattle.record_lists.specs.Seen.{is_seen}
use Rattle.record_lists.proofs.LiveLaws.{live_below}

module _ (records : Records) where
  pub text_head : (p : ℕ) → TextKeeps records p → HeadKeeps (IsLong records) (IsBlockList records) p
  text_head p k = record { list = k.text }

  head_text : (p : ℕ) → HeadKeeps (IsLong records) (IsBlockList records) p → TextKeeps records p
  head_text p h = record { text = h.list }

  at_has : (p b : ℕ) → AtHead (IsLong records) (IsBlockList records) p b → HasBlock records p b
  at_has p b a = record { long = a.must; members = a.items; list = a.listed; member = a.member }

  has_at : (p b : ℕ) → HasBlock records p b → AtHead (IsLong records) (IsBlockList records) p b
  has_at p b h = record { must = h.long; items = h.members; listed = h.list; member = h.member }

  pub long_low : (p : ℕ) → IsLong records p → p < high records format.properties_file
  long_low p l = kind_below (high records format.properties_file) (rec_at records format.properties_file p) p (λ z. let four : 4 ≡ 0 = sym l ∙ z in omega arith)

  pub twice_breaks : (n : ℕ) (old : List Bool) (b : ℕ) → ((q : ℕ) → is_seen old q ≡ false) → IsTwice (IsLong records) (IsBlockList records) n old b
      → ¬ IsBlockHeldOnce records b
  twice_breaks n old b clear t k = ⊎_elim
      (λ (m : is_seen old b ≡ true). true≢false (sym m ∙ clear b))
      (λ (a : AmongHeads (IsLong records) (IsBlockList records) t.head b).
      let same = k.once a.id t.head (at_has a.id b a.here) (at_has t.head b t.here) in
      let below : a.id < t.head = a.below in
      absurd (omega arith))
      t.before

  pub all_texts : (n : ℕ) (old now : List Bool) → n ≡ high records format.properties_file → ((q : ℕ) → is_seen old q ≡ false)
      → ((p : ℕ) → p < n → HeadKeeps (IsLong records) (IsBlockList records) p)
      → ((b : ℕ) → Decides (is_seen now b) ((is_seen old b ≡ true) ⊎ AmongHeads (IsLong records) (IsBlockList records) n b))
      → ((b : ℕ) → IsOnce (IsLong records) (IsBlockList records) n b) → AllTexts records now
  all_texts n old now mark clear keeps told once = record {
    keeps = λ p lt. head_text p (keeps p (omega arith));
    told = λ b. (
      (λ m. ⊎_elim (λ (o : is_seen old b ≡ true). absurd (true≢false (sym o ∙ clear b))) (λ (a : AmongHeads (IsLong records) (IsBlockList records) n b).
          record { property = a.id; has = at_has a.id b a.here }) ((told b).0 m)),
      (λ (h : IsBlockHeld records b). let has = h.has in let low = long_low h.property has.long in (told b).1
          (inr (record { id = h.property; below = omega arith; here = has_at h.property b has }))),
    );
    once = λ p q b h k. let lp = long_low p h.long in let lq = long_low q k.long in once b p q (omega arith) (omega arith) (has_at p b h) (has_at q b k);
  }

  pub texts_right : (n : List Bool) → AllTexts records n → ((b : ℕ) → b < high records format.strings_file → is_live records format.strings_file b ≡ true
      → is_seen n b ≡ true) → AreTextsRight records
  texts_right n l mark = record {
    keeps = l.keeps;
    held = λ b. record {
      held = λ live. let h = (l.told b).0 (mark b (live_below records format.strings_file b live) live) in (h.property, h.has);
      once = λ p q h k. l.once p q b h k;
    };
  }

  pub not_held : (n : List Bool) (b : ℕ) → AllTexts records n → ¬ (is_live records format.strings_file b ≡ true → is_seen n b ≡ true)
      → ¬ IsBlockHeldOnce records b
  not_held n b l bad k = bad (λ live. let h = k.held live in (l.told b).1 (record { property = h.0; has = h.1 }))
