-- The numbers of counted groups, while relationships of a node come into its groups.
use Rattle.std.proofs.Common.{◌≡◌, ◌≢◌, ℕ, ◌+◌, ◌<◌, ◌≤◌, ◌^◌, Bool, true, false, cond, Option, Some, List, ◌∷◌, sym}
use Rattle.std.proofs.Common.{ap, ◌∙◌, subst, inl, inr, ⊎_elim, arith, refl}
use Rattle.rec_bytes.specs.declared.record.Rec.{Rec}
use Rattle.rec_bytes.specs.Format as format
use Rattle.rec_bytes.specs.Record.{field, with_field}
use Rattle.rec_bytes.specs.Space.{State, put}
use Rattle.rec_bytes.proofs.Numbers.{field-with_field_other}
use Rattle.store_rules.specs.Chains.{In}
use Rattle.store_rules.specs.Ranges.{Fits}
use Rattle.store_rules.specs.Rules.{HasCounts, Head, count_of, is_into, is_loop_of, is_out_of, passes}
use Rattle.store_rules.specs.Views.{GroupRow, Records, RelRow, group_at, group_in, high, is_group_kind, kind_at, rec_at, rel_at, rel_in}
use Rattle.store_rules.proofs.CountLaws.{HasOneMore, IsSide, counts_at, counts_more, counts_untyped}
use Rattle.store_rules.proofs.Counts.{length-ids}
use Rattle.store_rules.proofs.LinkFits.{IsCountPlace, fits_count}
use Rattle.store_rules.proofs.NumberLaws.{eq_true, nat_cases}
use Rattle.store_rules.proofs.Shapes.{high_most}
use Rattle.store_rules.proofs.ViewLaws.{kind_below, kind_low, some_row}
use Rattle.group_store.specs.Counting.{count_place, one_more, tallied}
use Rattle.group_store.specs.GroupRecord.{group_key, is_counted}
use Rattle.group_store.specs.Spreading.{AreExactBut, HasCountedGroups, KeepsBut, counted_rels, left_out}
use Rattle.store_rules.specs.Ends.{Regroups}
use Rattle.group_store.specs.GroupChain.{IsGroupOf}
use Rattle.group_store.proofs.CountedRels.{counted_here, counted_other, counted_stays, left_in, left_more, left_not}
use Rattle.group_store.proofs.GroupPuts as puts
use Rattle.group_store.proofs.GroupRules.{group_of_row, row_of_group}
use Rattle.group_store.proofs.Regrouping.{IsFrame, regroups_of}

-- ---- one more

count_small : (test : RelRow → Bool) (rels : ℕ → Option RelRow) (mark : ℕ) → count_of test rels mark ≤ mark
count_small test rels mark = length-ids (λ x. passes test (rels x)) mark

-- a number of an exact group is no more than there are relationships
pub side_small : (at : ℕ) (r : Rec) (group : GroupRow) (row : RelRow) (rels : ℕ → Option RelRow) (mark : ℕ) → IsSide at group row → HasCounts r group rels mark
    → (field 4 r (at + 12) ≤ mark) × IsCountPlace (at + 12) × (count_place at ≡ at + 12)
side_small at r group row rels mark (inl k) h = subst Is (sym k.0) (
  (let c = count_small (is_out_of group) rels mark in let e = h.out in omega arith),
  inl refl,
  refl,
)
  where
    Is : ℕ → Type 0
    Is a = (field 4 r (a + 12) ≤ mark) × IsCountPlace (a + 12) × (count_place a ≡ a + 12)
side_small at r group row rels mark (inr (inl k)) h = subst Is (sym k.0)
    ((let c = count_small (is_into group) rels mark in let e = h.into in omega arith), inr (inl refl), refl)
  where
    Is : ℕ → Type 0
    Is a = (field 4 r (a + 12) ≤ mark) × IsCountPlace (a + 12) × (count_place a ≡ a + 12)
side_small at r group row rels mark (inr (inr k)) h = subst Is (sym k.0)
    ((let c = count_small (is_loop_of group) rels mark in let e = h.loops in omega arith), inr (inr refl), refl)
  where
    Is : ℕ → Type 0
    Is a = (field 4 r (a + 12) ≤ mark) × IsCountPlace (a + 12) × (count_place a ≡ a + 12)

pub one_more_is : (n : ℕ) → n < 2 ^ 26 → one_more n ≡ n + 1
one_more_is n lt = omega arith

module _ (u : State) (node rel g at : ℕ) (row : RelRow) (rest : List ℕ) (most : ℕ) (empty : List ℕ) (keeps : KeepsBut u.records u.shape node rest most empty)
    (dense : kind_at u.records format.nodes_file node ≡ format.dense)
    (live : rel_at u.records rel ≡ Some row) (group : group_at u.records g ≡ Some (record { id = g; label = row.label; owner = node })) (out : ¬ In rel rest)
    (side : IsSide at (record { id = g; label = row.label; owner = node }) row)
    (exact : AreExactBut u.records node (rel ∷ rest)) (counted : HasCountedGroups u.records node) where
  abbrev pub head : Head
  head = record { key = group_key g; field = at }

  abbrev pub now : State
  now = tallied one_more u head

  abbrev group_row : GroupRow
  group_row = record { id = g; label = row.label; owner = node }

  abbrev r : Rec
  r = rec_at u.records format.groups_file g

  abbrev mark : ℕ
  mark = high u.records format.relationships_file

  abbrev rels : ℕ → Option RelRow
  rels = rel_at u.records

  kind_g : kind_at u.records format.groups_file g ≡ format.counted
  kind_g = counted g group_row group refl

  below_g : g < high u.records format.groups_file
  below_g = kind_below (high u.records format.groups_file) r g (λ e. let z = sym e ∙ kind_g in omega arith)

  byte_g : field 1 r format.kind ≡ format.counted
  byte_g = sym (kind_low (high u.records format.groups_file) r g below_g) ∙ kind_g

  below : rel < mark
  below = kind_below mark (rec_at u.records format.relationships_file rel) rel
      (some_row (kind_at u.records format.relationships_file rel) (rel_in (rec_at u.records format.relationships_file rel) rel) row live).0

  old_counts : HasCounts r group_row (left_out (rel ∷ rest) rels) mark
  old_counts = subst (λ (q : ℕ → Option RelRow). HasCounts r group_row q mark) (counted_here node node (rel ∷ rest) rels refl) (exact g group_row group kind_g)

  of_side : (field 4 r (at + 12) ≤ mark) × IsCountPlace (at + 12) × (count_place at ≡ at + 12)
  of_side = side_small at r group_row row (left_out (rel ∷ rest) rels) mark side old_counts

  v : ℕ
  v = field 4 r (at + 12) + 1

  low : field 4 r (at + 12) < 2 ^ 26
  low = let a = of_side.0 in let b = below in let c = high_most u.records u.shape format.relationships_file keeps.others.ranges refl in omega arith

  small : v < 2 ^ 32
  unfolding v
  small = let a = low in omega arith

  rec : Rec
  rec = with_field 4 r (at + 12) v

  within : (32 ≤ at + 12) × (at + 16 ≤ 44)
  within = ⊎_elim (λ (e : at + 12 ≡ 32). (omega arith, omega arith)) (λ k. ⊎_elim (λ (e : at + 12 ≡ 36). (omega arith, omega arith)) (λ (e : at + 12 ≡ 40).
      (omega arith, omega arith)) k) of_side.1

  now_is : now.records ≡ put u.records (group_key g) rec
  unfolding tallied rec v
  now_is = ap (put u.records (group_key g)) (recount (is_counted r) (eq_true _ _ byte_g)
      ∙ (λ i. with_field 4 r (of_side.2 i) (one_more (field 4 r (of_side.2 i)))) ∙ ap (with_field 4 r (at + 12)) (one_more_is (field 4 r (at + 12)) low))
    where
      recount : (b : Bool) → b ≡ true → cond b (with_field 4 r (count_place at) (one_more (field 4 r (count_place at)))) r ≡ with_field 4 r (count_place at)
          (one_more (field 4 r (count_place at)))
      recount true e = refl
      recount false e = absurd cc

  shape_is : now.shape ≡ u.shape
  unfolding tallied
  shape_is = refl

  kind_now : field 1 rec format.kind ≡ format.counted
  unfolding rec
  kind_now = field-with_field_other 4 r (at + 12) v 1 format.kind (omega arith) (inr (let b = within in omega arith)) ∙ byte_g

  same : (place : ℕ) → (4 ≤ place) × (place + 4 ≤ 32) → field 4 rec place ≡ field 4 r place
  unfolding rec
  same place inside = field-with_field_other 4 r (at + 12) v 4 place (let a = inside.1 in omega arith)
      (inr (let a = inside.1 in let b = within.0 in omega arith))

  fits : Fits (high u.records) format.groups_file rec
  unfolding rec
  fits = fits_count (high u.records) r (at + 12) v of_side.1 small byte_g (keeps.others.ranges.fit format.groups_file g refl below_g)

  used : is_group_kind (kind_at u.records format.groups_file g) ≡ true
  used = ap is_group_kind kind_g

  abbrev t : Records
  t = put u.records (group_key g) rec

  keeps_t : KeepsBut t u.shape node rest most empty
  keeps_t = puts.put_keeps u.records u.shape node g rec used (ap is_group_kind kind_now) same fits rest most empty keeps

  group_t : (k : ℕ) → group_at t k ≡ group_at u.records k
  group_t k = puts.group_same u.records u.shape node g rec used (ap is_group_kind kind_now) same fits k

  kind_t : (k : ℕ) → kind_at t format.groups_file k ≡ kind_at u.records format.groups_file k
  kind_t k = ⊎_elim
      (λ (e : k ≡ g). subst (λ z. kind_at t format.groups_file z ≡ kind_at u.records format.groups_file z) (sym e) (puts.kind_here u.records u.shape node g rec
      used (ap is_group_kind kind_now) same fits ∙ kind_now ∙ sym kind_g))
      (λ (ne : k ≢ g). puts.kind_other u.records u.shape node g rec used (ap is_group_kind kind_now) same fits k ne) (nat_cases k g)

  same_row : (a b : GroupRow) → Some a ≡ Some b → a ≡ b
  same_row a b e = cc

  -- the numbers of a group of the node
  more : (q : GroupRow) (new old : Rec) → HasOneMore old new q row → HasCounts old q (left_out (rel ∷ rest) rels) mark
      → HasCounts new q (left_out rest rels) mark
  more q new old one h = counts_more q row (left_out (rel ∷ rest) rels) (left_out rest rels) mark mark rel (left_in rel rest rels)
      (left_not rel rest rels out ∙ live) (λ x ne. left_more x rel rest rels ne) below (inl refl) old new one h

  counts_here : HasCounts rec group_row (left_out rest rels) mark
  unfolding rec v
  counts_here = more group_row rec r (counts_at r group_row row v refl small at side refl) old_counts

  exact_t : AreExactBut t node rest
  exact_t k q is kind = ⊎_elim
      (λ (e : k ≡ g).
      let row_is : group_row ≡ q = same_row group_row q (sym group ∙ ap (group_at u.records) (sym e) ∙ sym (group_t k) ∙ is) in
      subst (λ (z : GroupRow). HasCounts (rec_at t format.groups_file k) z (counted_rels node rest rels z.owner) mark) row_is
      (subst (λ (f : ℕ → Option RelRow). HasCounts (rec_at t format.groups_file k) group_row f mark) (sym (counted_here node node rest rels refl))
      (subst (λ (z : Rec). HasCounts z group_row (left_out rest rels) mark) (sym (ap (rec_at t format.groups_file) e ∙ puts.here u.records u.shape node g rec
      used (ap is_group_kind kind_now) same fits)) counts_here)))
      (λ (ne : k ≢ g).
      let was = exact k q (sym (group_t k) ∙ is) (sym (kind_t k) ∙ kind) in
      let rec_is : rec_at t format.groups_file k ≡ rec_at u.records format.groups_file k =
      puts.other u.records u.shape node g rec used (ap is_group_kind kind_now) same fits k ne in
      subst (λ (z : Rec). HasCounts z q (counted_rels node rest rels q.owner) mark) (sym rec_is) (⊎_elim
      (λ (own : q.owner ≡ node).
      subst (λ (f : ℕ → Option RelRow). HasCounts (rec_at u.records format.groups_file k) q f mark) (sym (counted_here node q.owner rest rels own))
      (more q (rec_at u.records format.groups_file k) (rec_at u.records format.groups_file k) (counts_untyped (rec_at u.records format.groups_file k)
      (rec_at u.records format.groups_file k) q row (λ place inside. refl) (untyped k q ne (sym (group_t k) ∙ is) own))
      (subst (λ (f : ℕ → Option RelRow). HasCounts (rec_at u.records format.groups_file k) q f mark) (counted_here node q.owner (rel ∷ rest) rels own) was)))
      (λ (else : q.owner ≢ node).
      subst (λ (f : ℕ → Option RelRow). HasCounts (rec_at u.records format.groups_file k) q f mark)
      (counted_other node q.owner (rel ∷ rest) rels else ∙ sym (counted_other node q.owner rest rels else)) was)
      (nat_cases q.owner node))) (nat_cases k g)
    where
      untyped : (k : ℕ) (q : GroupRow) → k ≢ g → group_at u.records k ≡ Some q → q.owner ≡ node → row.label ≢ q.label
      untyped k q ne is own typed =
          let has = keeps.grouped.each node dense in
          let label : (j : ℕ) (p : GroupRow) → group_at u.records j ≡ Some p → field 4 (rec_at u.records format.groups_file j) format.group_type ≡ p.label
          = λ j p e. ap (λ (z : GroupRow). z.label) (some_row (kind_at u.records format.groups_file j) (group_in (rec_at u.records format.groups_file j) j)
          p e).1 in
          ne (has.once k g (has.all k q is own) (has.all g group_row group refl) (label k q is ∙ sym typed ∙ sym (label g group_row group)))

  -- ---- all of it
  pub tally_keeps : KeepsBut now.records now.shape node rest most empty
  tally_keeps = subst (λ (z : Records). KeepsBut z now.shape node rest most empty) (sym now_is)
      (subst (λ z. KeepsBut t z node rest most empty) (sym shape_is) keeps_t)

  pub tally_exact : AreExactBut now.records node rest
  tally_exact = subst (λ (z : Records). AreExactBut z node rest) (sym now_is) exact_t

  pub tally_counted : HasCountedGroups now.records node
  tally_counted = subst (λ (z : Records). HasCountedGroups z node) (sym now_is) (counted_stays u.records t node kind_t group_t counted)

  pub tally_put : (z : ℕ) × (now.records ≡ put u.records (group_key g) (with_field 4 r (at + 12) z))
  unfolding rec
  tally_put = (v, now_is)

  pub tally_regroups : Regroups u now node
  tally_regroups = regroups_of u now node (subst (λ (z : Records). IsFrame u.records z node) (sym now_is) (puts.frame u.records u.shape node g rec used
      (ap is_group_kind kind_now) same fits)) shape_is
      (λ k q is ne. ap (λ (z : Records). group_at z k) now_is ∙ group_t k ∙ is)

  pub tally_groups : (k : ℕ) → IsGroupOf now.records node k → IsGroupOf u.records node k
  tally_groups k is = group_of_row u.records u.shape node k (group_in (rec_at now.records format.groups_file k) k) keeps.others.ranges
      (sym (ap (λ (z : Records). group_at z k) now_is ∙ group_t k) ∙ row_of_group now.records node k is) is.owner
