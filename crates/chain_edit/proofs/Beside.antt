-- What is beside a relationship that is taken out: tests of it, and what they leave.
use Rattle.std.proofs.Common.{◌≡◌, ◌≢◌, ◌+◌, ℕ, zero, suc, ◌<◌, nat_eq, cond, Bool, true, false, Some, IfSome, List, [], ◌∷◌, sym, ap, ◌∙◌, subst}
use Rattle.std.proofs.Common.{inl, inr, ⊎_elim, arith, refl}
use Rattle.rec_bytes.specs.declared.damage.Damage.{Damage}
use Rattle.rec_bytes.specs.declared.fault.Fault.{Fault}
use Rattle.rec_bytes.specs.declared.fault.Fault.TheVariants.{Memory, Disk, Damaged}
use Rattle.rec_bytes.specs.declared.key.Key.{Key}
use Rattle.rec_bytes.specs.declared.record.Rec.{Rec}
use Rattle.rec_bytes.specs.Fault.{damage_of}
use Rattle.rec_bytes.specs.Format as format
use Rattle.rec_bytes.specs.Format.{nil}
use Rattle.rec_bytes.specs.Key.{IsKey}
use Rattle.rec_bytes.specs.Record.{with_field}
use Rattle.rec_bytes.specs.Space.{State, WritesOnly, after_get, after_gets, after_put}
use Rattle.rec_bytes.proofs.Spaces.{after_gets-zero, put_other, writes_none, writes_then}
use Rattle.rel_store.specs.RelRecord.{rel_key}
use Rattle.store_rules.specs.Breaking.{Breaks, EndKeeps, IsInChain}
use Rattle.store_rules.specs.Breaking.Breaks.{RelEnds}
use Rattle.store_rules.specs.Chains.{In, IsChain, IsWalk, place_of}
use Rattle.store_rules.specs.Rules.{Head, first_of}
use Rattle.store_rules.specs.Views.{RelRow, Records, kind_at, rec_at, rel_at, rel_in}
use Rattle.store_rules.proofs.ChainLaws.{walk_of_chain}
use Rattle.store_rules.proofs.ChainSteps.{after_other, before_in, eq_cases, first_before, first_in, next_before, nil_out, on_test, twice_other}
use Rattle.store_rules.proofs.ViewLaws.{kind_below, some_row}
use Rattle.rel_store.specs.Loading.{rel_mark}
use Rattle.chain_edit.specs.Breaks.{IsBreakFault}
use Rattle.chain_edit.specs.Chains.{IsChainAt, next_of, prev_of}
use Rattle.chain_edit.specs.Links.{backed, prev_set}
use Rattle.chain_edit.specs.Unlinking.{CanUnlink, IsAstray, IsAstrayFault, IsBehind, IsLinkedIn, IsLoneHead, IsUnlinkFault, alone, astray_damage}
use Rattle.chain_edit.specs.Unlinking.{leads_to, led, put_back, put_led, seen, unlinked}
use Rattle.chain_edit.specs.Walking.{ReadsAtMost}
use Rattle.chain_edit.proofs.Edits.{elsewhere-backed}
use Rattle.chain_edit.proofs.LinkLaws.{put_rel_elsewhere}
use Rattle.chain_edit.proofs.Walks.{read_next, reads_next, reads_within}

-- ---- a member of a right chain

-- what comes after a member leads back to it
pub back_member : (next prev : ℕ → ℕ) (b f : ℕ) (xs : List ℕ) (r : ℕ) → IsChain next prev b f xs → In r xs → next r ≢ nil → prev (next r) ≡ r
back_member next prev b f [] r h i some = elim i [ ]
back_member next prev b f (x ∷ xs) r h (inl e) some = ⊎_elim
    (λ (none : next x ≡ nil). absurd (some (ap next e ∙ none)))
    (λ (k : In (next x) xs). ap (λ z. prev (next z)) e ∙ first_before next prev x (next x) xs (next x) h.3 k refl ∙ sym e)
    (first_in next (next x) xs (walk_of_chain next prev x (next x) xs h.3))
back_member next prev b f (x ∷ xs) r h (inr i) some = back_member next prev x (next x) xs r h.3 i some

module _ (next prev : ℕ → ℕ) (f : ℕ) (xs : List ℕ) (r : ℕ) (chain : IsChain next prev nil f xs) (member : In r xs) where
  walked : IsWalk next f xs
  walked = walk_of_chain next prev nil f xs chain

  -- what comes before it leads to it, or the first link does
  pub led_member : cond (nat_eq (prev r) nil) f (next (prev r)) ≡ r
  led_member = on_test (λ v. v ≡ r) (prev r) nil f (next (prev r))
      (λ (none : prev r ≡ nil). ⊎_elim (λ (e : f ≡ r). e) (λ i. absurd (nil_out next f xs walked (subst (λ z. In z xs) none i)))
      (before_in next prev nil f xs r chain member))
      (λ (some : prev r ≢ nil). ⊎_elim (λ (k : (f ≡ r) × (prev r ≡ nil)). absurd (some k.1)) (λ k. k) (next_before next prev nil f xs r chain member))

  -- and what comes after it is another than it and than what comes before it
  pub other_member : next r ≢ r
  other_member = after_other next f xs r walked member

  pub apart_member : next r ≢ nil → next r ≢ prev r
  apart_member some q = ⊎_elim
      (λ (k : (f ≡ r) × (prev r ≡ nil)). some (q ∙ k.1))
      (λ (k : next (prev r) ≡ r). twice_other next f xs r walked member some (ap next q ∙ k))
      (next_before next prev nil f xs r chain member)

module _ (records : Records) (head : Head) (node rel : ℕ) (xs : List ℕ) (can : CanUnlink records head node rel xs) where
  -- the tests hold of it
  pub chain_linked : IsLinkedIn records head node rel
  chain_linked = record {
    led = led_member (next_of records node) (prev_of records node) (first_of records head) xs rel can.chain can.member;
    behind = λ some. record {
      back = back_member (next_of records node) (prev_of records node) nil (first_of records head) xs rel can.chain can.member some;
      other = other_member (next_of records node) (prev_of records node) (first_of records head) xs rel can.chain can.member;
      apart = apart_member (next_of records node) (prev_of records node) (first_of records head) xs rel can.chain can.member some;
    };
  }

-- ---- which record is blamed

-- a relationship that is blamed is in no right chain of the head
abbrev pub Blames : State → Head → ℕ → ℕ → Fault → Type 0
Blames s head node rel Memory = Unit {0}
Blames s head node rel Disk = Unit {0}
Blames s head node rel (Damaged damage) = IsAstray s.records head node rel damage

astray : (s : State) (head : Head) (node rel : ℕ) (damage : Damage) → damage ≡ astray_damage rel → (IsLinkedIn s.records head node rel → ⊥) → IsAstray s.records
    head node rel damage
astray s head node rel damage is not = record {
  is = is;
  out = λ xs chain i. not (chain_linked s.records head node rel xs
      (record { chain = chain; member = i }));
}

pub behind_blames : (s t : State) (head : Head) (node rel before after : ℕ) (fault : Fault) → t ≡ after_get s → before ≡ prev_of s.records node rel
    → after ≡ next_of s.records node rel
    → IsAstrayFault ((after ≢ nil) × (IsBehind t.records node rel before after → ⊥)) rel fault → Blames s head node rel fault
behind_blames s t head node rel before after Memory read b a told = tt
behind_blames s t head node rel before after Disk read b a told = tt
behind_blames s t head node rel before after (Damaged damage) read b a told = astray s head node rel damage told.0 (λ linked.
    told.1.1 (subst (λ (z : State). IsBehind z.records node rel before after) (sym read)
    (subst (λ x. IsBehind s.records node rel x after) (sym b) (subst (λ x. IsBehind s.records node rel (prev_of s.records node rel) x) (sym a)
    (linked.behind (λ none. told.1.0 (a ∙ none)))))))

-- a read unless there is none changes no record
pub seen_records : (t : State) (x : ℕ) → (seen t x).records ≡ t.records
unfolding seen
seen_records t x = on_test (λ (z : State). z.records ≡ t.records) x nil t (after_get t) (λ _. refl) (λ _. refl)

pub lead_blames : (s t : State) (head : Head) (node rel before : ℕ) (fault : Fault) → t.records ≡ s.records → before ≡ prev_of s.records node rel
    → IsAstrayFault (leads_to t.records head node before ≢ rel) rel fault → Blames s head node rel fault
lead_blames s t head node rel before Memory same b told = tt
lead_blames s t head node rel before Disk same b told = tt
lead_blames s t head node rel before (Damaged damage) same b told = astray s head node rel damage told.0 (λ linked.
    told.1 (ap (λ (r : Records). leads_to r head node before) same ∙ ap (λ x. leads_to s.records head node x) b ∙ linked.led))

pub blamed : (s : State) (head : Head) (node rel : ℕ) (fault : Fault) → Blames s head node rel fault → IsUnlinkFault s head node rel fault
blamed s head node rel Memory told = tt
blamed s head node rel Disk told = tt
blamed s head node rel (Damaged damage) told = inr told

-- not where it is in one
pub not_blamed : (s : State) (head : Head) (node rel : ℕ) (fault : Fault) (xs : List ℕ) → CanUnlink s.records head node rel xs → Blames s head node rel fault
    → IfSome (damage_of fault) (λ _. ⊥)
not_blamed s head node rel Memory xs can told = tt
not_blamed s head node rel Disk xs can told = tt
not_blamed s head node rel (Damaged damage) xs can told = told.out xs can.chain can.member

-- it breaks the third rule, where it stands at no other head
astray_breaks : (s : State) (head : Head) (node rel : ℕ) (row : RelRow) (damage : Damage) → rel_at s.records rel ≡ Some row → IsLoneHead s.records head node rel
    row
    → IsAstray s.records head node rel damage → Breaks s.records s.shape damage
astray_breaks s head node rel row damage live lone bad =
    let r = rec_at s.records format.relationships_file rel in
    let used = (some_row (kind_at s.records format.relationships_file rel) (rel_in r rel) row live).0 in
    let lt : rel < rel_mark s = kind_below (rel_mark s) r rel used in
    let never : EndKeeps s.records node rel → ⊥ = λ (k : EndKeeps s.records node rel). out (k.chain lone.has) in
    subst (Breaks s.records s.shape) (sym bad.is) (RelEnds rel lt (λ keeps. ⊎_elim
    (λ (e : row.from ≡ node). never (subst (λ n. EndKeeps s.records n rel) e (keeps.from row live)))
    (λ (e : row.to ≡ node). never (subst (λ n. EndKeeps s.records n rel) e (keeps.to row live)))
    lone.end))
  where
    out : IsInChain s.records node rel → ⊥
    out here = bad.out here.members
        (subst (λ (h : Head). IsChainAt s.records h node here.members) (lone.lone here.head here.owns (here.chain.only rel here.member)) here.chain.chain)
        here.member

pub blames_breaks : (s : State) (head : Head) (node rel : ℕ) (row : RelRow) (fault : Fault) → rel_at s.records rel ≡ Some row → IsLoneHead s.records head node
    rel row
    → Blames s head node rel fault → IsBreakFault s fault
blames_breaks s head node rel row Memory live lone told = tt
blames_breaks s head node rel row Disk live lone told = tt
blames_breaks s head node rel row (Damaged damage) live lone told = astray_breaks s head node rel row damage live lone told

-- ---- reads
pub first_read : (s t : State) → t ≡ after_get s → t ≡ after_gets 1 s
first_read s t is = read_next s s t 0 1 refl (sym (after_gets-zero s)) is

pub behind_reads : (s t u : State) → t ≡ after_get s → ReadsAtMost 1 t u → ReadsAtMost 3 s u
behind_reads s t u first more = reads_within s t u 1 3 (omega arith) (first_read s t first) more

pub lead_reads : (s t u v : State) (after : ℕ) → t ≡ after_get s → u ≡ seen t after → v ≡ after_get u → ReadsAtMost 3 s v
unfolding seen
lead_reads s t u v after first then last =
    on_test (λ (z : State). u ≡ z → ReadsAtMost 3 s v) after nil t (after_get t)
    (λ _ e. reads_next s u v 1 3 (omega arith) (e ∙ first_read s t first) last)
    (λ _ e. reads_next s u v 2 3 (omega arith) (read_next s t u 1 2 refl (first_read s t first) e) last) then

-- what reads leave written
pub gets_written : (s t u v : State) (after : ℕ) → t ≡ after_get s → u ≡ seen t after → v ≡ after_get u → v.written ≡ s.written
unfolding seen
gets_written s t u v after first then last =
    ap (λ (z : State). z.written) last ∙ ap (λ (z : State). z.written) then ∙ on_test (λ (z : State). z.written ≡ t.written) after nil t (after_get t)
    (λ _. refl) (λ _. refl) ∙ ap (λ (z : State). z.written) first

gets_keep : (n : ℕ) (s : State) → (after_gets n s).written ≡ s.written
unfolding after_gets
gets_keep zero s = refl
gets_keep (suc n) s = gets_keep n s

pub reads_written : (most : ℕ) (s t : State) → ReadsAtMost most s t → t.written ≡ s.written
reads_written most s t reads = ap (λ (z : State). z.written) reads.is ∙ gets_keep reads.count s

-- what holds anyway holds where a record is blamed
pub on_damage : {P : Type 0} (fault : Fault) → P → IfSome (damage_of fault) (λ _. P)
on_damage Memory p = tt
on_damage Disk p = tt
on_damage (Damaged damage) p = p

-- ---- what is written
pub wrote : (s s3 s4 s5 s6 : State) (before rel after : ℕ) (head : Key) → s3.written ≡ s.written → WritesOnly s3 s4 (rel_key rel ∷ []) → WritesOnly s4 s5
    (rel_key after ∷ [])
    → WritesOnly s5 s6 (rel_key before ∷ head ∷ []) → WritesOnly s s6 (rel_key before ∷ rel_key rel ∷ rel_key after ∷ head ∷ [])
wrote s s3 s4 s5 s6 before rel after head same one two three = record {
  each = λ q w. ⊎_elim
      (λ w5. ⊎_elim
      (λ w4. ⊎_elim
      (λ w3. inl (subst (λ (k : Key → Bool). k q ≡ true) same w3))
      (λ m. ⊎_elim (λ e. inr (inr (inl e))) (λ k. absurd k) m) (one.each q w4))
      (λ m. ⊎_elim (λ e. inr (inr (inr (inl e)))) (λ k. absurd k) m) (two.each q w5))
      (λ m. ⊎_elim (λ e. inr (inl e)) (λ k. ⊎_elim (λ e. inr (inr (inr (inr (inl e))))) (λ k. absurd k) k) m)
      (three.each q w);
}

pub wrote_none : (s t : State) (keys : List Key) → t ≡ s → WritesOnly s t keys
wrote_none s t keys is = writes_none s t keys (ap (λ (z : State). z.written) is)

-- what comes to the front writes what stood first, itself and the head
pub wrote_front : (s s1 s2 s3 s4 : State) (first rel : ℕ) (head : Key) → s1.written ≡ s.written → WritesOnly s1 s2 (rel_key first ∷ []) → WritesOnly s2 s3
    (rel_key rel ∷ [])
    → WritesOnly s3 s4 (head ∷ []) → WritesOnly s s4 (rel_key first ∷ rel_key rel ∷ head ∷ [])
wrote_front s s1 s2 s3 s4 first rel head same one two three =
    writes_then s s3 s4 (rel_key first ∷ rel_key rel ∷ []) (head ∷ [])
    (writes_then s s2 s3 (rel_key first ∷ []) (rel_key rel ∷ []) (writes_then s s1 s2 [] (rel_key first ∷ []) (writes_none s s1 [] same) one) two) three

-- ---- the state

pub alone_is : (r one two was : Rec) (node place : ℕ) → place ≡ place_of r node → r ≡ was → one ≡ with_field 4 r place nil → two ≡ with_field 4 one (place + 4)
    nil → two ≡ alone was node
alone_is r one two was node place p is first second =
    second ∙ ap (λ z. with_field 4 z (place + 4) nil) first ∙ ap (λ q. with_field 4 (with_field 4 r q nil) (q + 4) nil) p ∙ ap (λ z. alone z node) is

back_is : (g : State) (k : Key) (a : Rec) (node x to : ℕ) (r : Rec) → (x ≢ nil → r ≡ g.records (rel_key x)) → (x ≢ nil → rel_key x ≢ k)
    → put_back (after_put (after_get (seen g x)) k a) node x to r ≡ after_get (backed (after_put g k a) node x to)
unfolding put_back seen backed
back_is g k a node x to r got apart = ⊎_elim
    (λ (e : (x ≡ nil) × (nat_eq x nil ≡ true)). rw e.1 refl)
    (λ (e : (x ≢ nil) × (nat_eq x nil ≡ false)). rw e.1
    (ap (λ q. after_put (after_put (after_get (after_get g)) k a) (rel_key x) (with_field 4 q (place_of q node) to))
    (got e.0 ∙ sym (put_other g.records k a (rel_key x) (apart e.0)))))
    (eq_cases x nil)

led_is : (t : State) (head : Head) (node before after : ℕ) (r : Rec) → (before ≡ nil → r ≡ t.records head.key) → (before ≢ nil → r ≡ t.records (rel_key before))
    → put_led (after_get t) head node before after r ≡ led t head node before after
unfolding put_led led
led_is t head node before after r none some = ⊎_elim
    (λ (e : (before ≡ nil) × (nat_eq before nil ≡ true)). rw e.1 (ap (λ q. after_put (after_get t) head.key (with_field 4 q head.field after)) (none e.0)))
    (λ (e : (before ≢ nil) × (nat_eq before nil ≡ false)). rw e.1 (ap (λ q. after_put (after_get t) (rel_key before) (with_field 4 q (place_of q node + 4)
    after)) (some e.0)))
    (eq_cases before nil)

rel_other : (x y : ℕ) → x ≢ y → rel_key x ≢ rel_key y
rel_other x y ne e = ne (ap (λ (k : Key). k.id) e)

backed_other : (t : State) (node x to y : ℕ) → (x ≢ nil → y ≢ x) → (backed t node x to).records (rel_key y) ≡ t.records (rel_key y)
unfolding backed
backed_other t node x to y ne = on_test (λ (z : State). z.records (rel_key y) ≡ t.records (rel_key y)) x nil t (prev_set t node x to)
    (λ _. refl) (λ some. put_other t.records (rel_key x) (with_field 4 (t.records (rel_key x)) (place_of (t.records (rel_key x)) node) to) (rel_key y)
    (rel_other y x (ne some)))

-- a relationship that a store can have is none of none
pub some_rel : (rel : ℕ) → IsKey (rel_key rel) → rel ≢ nil
some_rel rel key e = let lt = key.id in omega arith

-- what the calls have read and tested
pub record AreRead (s s1 s2 : State) (head : Head) (node rel before after : ℕ) (behind_rec lead_rec : Rec) : Type 0 where
  pub elsewhere : head.key.file ≢ 2
  pub key : IsKey (rel_key rel)
  pub is_before : before ≡ prev_of s.records node rel
  pub is_after : after ≡ next_of s.records node rel
  pub one : s1 ≡ after_get s
  pub two : s2 ≡ seen s1 after
  pub got_behind : after ≢ nil → behind_rec ≡ s1.records (rel_key after)
  pub got_head : before ≡ nil → lead_rec ≡ s2.records head.key
  pub got_before : before ≢ nil → lead_rec ≡ s2.records (rel_key before)
  pub behind : after ≢ nil → IsBehind s1.records node rel before after
  pub led : leads_to s2.records head node before ≡ rel

module _ (s s1 s2 : State) (head : Head) (node rel before after : ℕ) (behind lead : Rec) (read : AreRead s s1 s2 head node rel before after behind lead) where
  same : s2.records ≡ s.records
  same = ap (λ (z : State). z.records) read.two ∙ seen_records s1 after ∙ ap (λ (z : State). z.records) read.one

  same_one : s1.records ≡ s.records
  same_one = ap (λ (z : State). z.records) read.one

  pub linked : IsLinkedIn s.records head node rel
  linked = record {
    led = ap (λ x. leads_to s.records head node x) (sym read.is_before) ∙ ap (λ (r : Records). leads_to r head node before) (sym same) ∙ read.led;
    behind = λ some. subst (λ x. IsBehind s.records node rel x (next_of s.records node rel)) read.is_before
        (subst (λ x. IsBehind s.records node rel before x) read.is_after
        (subst (λ (r : Records). IsBehind r node rel before after) same_one (read.behind (λ none. some (sym read.is_after ∙ none)))));
  }

  -- what is before it is another
  before_other : before ≢ nil → before ≢ rel
  before_other some e =
      let led : next_of s.records node (prev_of s.records node rel) ≡ rel = on_test (λ v. v ≡ rel → next_of s.records node (prev_of s.records node rel) ≡ rel)
      (prev_of s.records node rel) nil (first_of s.records head) (next_of s.records node (prev_of s.records node rel))
      (λ none. absurd (some (read.is_before ∙ none))) (λ _ q. q) linked.led in
      let after_is : next_of s.records node rel ≡ rel = ap (next_of s.records node) (sym e ∙ read.is_before) ∙ led in
      (linked.behind (λ none. some_rel rel read.key (sym after_is ∙ none))).other after_is

  pub unlinked_is : (s3 s4 s5 s6 : State) (rec : Rec) → s3 ≡ after_get s2 → s4 ≡ after_put s3 (rel_key rel) rec → rec ≡ alone (s.records (rel_key rel)) node
      → s5 ≡ put_back s4 node after before behind → s6 ≡ put_led s5 head node before after lead → s6 ≡ unlinked s head node rel
  unfolding unlinked
  unlinked_is s3 s4 s5 s6 rec three four rec_is five six =
      let a = alone (s.records (rel_key rel)) node in
      let freed = after_put (after_get s) (rel_key rel) a in
      let e3 : s3 ≡ after_get (seen (after_get s) after) = three ∙ ap after_get (read.two ∙ ap (λ (z : State). seen z after) read.one) in
      let e4 : s4 ≡ after_put (after_get (seen (after_get s) after)) (rel_key rel) a = four ∙ ap (λ (z : State). after_put z (rel_key rel) rec) e3 ∙ ap
      (λ z. after_put (after_get (seen (after_get s) after)) (rel_key rel) z) rec_is in
      let e5 : s5 ≡ after_get (backed freed node after before) = five ∙ ap (λ (z : State). put_back z node after before behind) e4
      ∙ back_is (after_get s) (rel_key rel) a node after before behind (λ some. read.got_behind some ∙ ap (λ (r : Records). r (rel_key after)) same_one)
      (λ some. rel_other after rel ((read.behind some).other)) in
      let e6 : s6 ≡ led (backed freed node after before) head node before after = six ∙ ap (λ (z : State). put_led z head node before after lead) e5
      ∙ led_is (backed freed node after before) head node before after lead
      (λ none. read.got_head none ∙ ap (λ (r : Records). r head.key) same ∙ sym (elsewhere-backed freed node after before head.key read.elsewhere
      ∙ put_rel_elsewhere s.records head.key a rel read.elsewhere))
      (λ some. read.got_before some ∙ ap (λ (r : Records). r (rel_key before)) same
      ∙ sym (backed_other freed node after before before (λ there e. (read.behind there).apart (sym e)) ∙ put_other s.records (rel_key rel) a (rel_key before)
      (rel_other before rel (before_other some)))) in
      e6 ∙ ap (λ b. led (backed freed node after b) head node b after) read.is_before
      ∙ ap (λ z. led (backed freed node z (prev_of s.records node rel)) head node (prev_of s.records node rel) z) read.is_after
