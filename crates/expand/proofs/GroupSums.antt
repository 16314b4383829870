-- The numbers of a dense node's counted groups have all relationships at the node that are met.
use Rattle.std.proofs.Common.{◌≡◌, ◌+◌, ℕ, nat_eq, Bool, true, false, ◌&&◌, ◌||◌, not, cond, Option, Some, List}
use Rattle.std.proofs.Common.{[], ◌∷◌, map, refl, sym, ap, ◌∙◌, subst, inl, inr, arith}
use Rattle.std.specs.List.{list_any}
use Rattle.std.proofs.lemmas.Bool.{eqb-true, true≢false}
use Rattle.plain_graph.specs.declared.direction.Direction.{Direction}
use Rattle.plain_graph.specs.declared.direction.Direction.TheVariants as directions
use Rattle.rec_bytes.specs.declared.shape.Shape.{Shape}
use Rattle.rec_bytes.specs.Format as format
use Rattle.rec_bytes.specs.Record.{field}
use Rattle.store_rules.specs.Chains.{In}
use Rattle.store_rules.specs.Properties.{AreOnce}
use Rattle.store_rules.specs.Rules.{HasCounts, IsEnd, IsWellFormed, count_of, is_into, is_loop_of, is_out_of}
use Rattle.store_rules.specs.Views as views
use Rattle.store_rules.specs.Views.{Records, RelRow, group_in, high, kind_at, rec_at, rel_at, rel_in}
use Rattle.store_rules.proofs.CountLaws.{one_if}
use Rattle.store_rules.proofs.NumberLaws.{eq_true}
use Rattle.store_rules.proofs.ViewLaws.{kind_low, some_row}
use Rattle.group_store.specs.declared.group_row.GroupRow.{GroupRow}
use Rattle.group_store.specs.GroupChain.{IsGroupOf, type_of}
use Rattle.group_store.specs.GroupRecord.{count_in, is_counted}
use Rattle.group_store.specs.Walking.{group_row_at}
use Rattle.group_store.proofs.GroupRecords.{group_below}
use Rattle.group_store.proofs.GroupRules.{row_of_group}
use Rattle.expand.specs.declared.matching.End.{End}
use Rattle.expand.specs.declared.matching.End.TheVariants as ends
use Rattle.expand.specs.Degrees.{count_on, counted_sum, lacks_counts, rows_count}
use Rattle.expand.specs.Expanding.{rows_of}
use Rattle.expand.specs.Matching.{is_wanted}
use Rattle.expand.proofs.GroupHeads as heads
use Rattle.expand.proofs.RowCounts.{count_none, count_same, count_split, end_in, meets, met_count}

-- ---- tests

-- the direction in which an end is met
abbrev way : End → Direction
way ends.Source = directions.Outgoing
way ends.Target = directions.Incoming

split_or : (e w l r : Bool) → (l ≡ true → r ≡ true → ⊥) → one_if (e && (w && (l || r))) ≡ one_if (e && (w && l)) + one_if (e && (w && r))
split_or false w l r apart = refl
split_or true false l r apart = refl
split_or true true true true apart = absurd (apart refl refl)
split_or true true true false apart = refl
split_or true true false true apart = refl
split_or true true false false apart = refl

split_out : (f t w l : Bool) → (l ≡ true → w ≡ true) → one_if (f && (w && l)) ≡ one_if (l && (f && not t)) + one_if (l && (f && t))
split_out f t true false h = none f
  where
    none : (f : Bool) → one_if (f && false) ≡ 0 + 0
    none true = refl
    none false = refl
split_out f t false false h = none f
  where
    none : (f : Bool) → one_if (f && false) ≡ 0 + 0
    none true = refl
    none false = refl
split_out f t false true h = absurd (true≢false (sym (h refl)))
split_out true true true true h = refl
split_out true false true true h = refl
split_out false t true true h = refl

split_in : (f t w l : Bool) → (l ≡ true → w ≡ true) → one_if (t && (w && l)) ≡ one_if (l && (not f && t)) + one_if (l && (f && t))
split_in f t true false h = none t
  where
    none : (f : Bool) → one_if (f && false) ≡ 0 + 0
    none true = refl
    none false = refl
split_in f t false false h = none t
  where
    none : (f : Bool) → one_if (f && false) ≡ 0 + 0
    none true = refl
    none false = refl
split_in f t false true h = absurd (true≢false (sym (h refl)))
split_in true true true true h = refl
split_in false true true true h = refl
split_in true false true true h = refl
split_in false false true true h = refl

no_and : (e w : Bool) → (e && (w && false)) ≡ false
no_and true true = refl
no_and true false = refl
no_and false w = refl

none_wanted : (e w l : Bool) → (l ≡ true → w ≡ false) → (e && (w && l)) ≡ false
none_wanted e w false h = no_and e w
none_wanted e true true h = absurd (true≢false (h refl))
none_wanted true false true h = refl
none_wanted false false true h = refl

same_and : (e w r : Bool) → (e ≡ true → r ≡ true) → (e && (w && r)) ≡ (e && w)
same_and false w r h = refl
same_and true true true h = refl
same_and true true false h = h refl
same_and true false r h = refl

module _ (s : Records) (shape : Shape) (store : IsWellFormed s shape) (n : ℕ) (dense : kind_at s format.nodes_file n ≡ format.dense) (labels : List ℕ) where
  abbrev groups : List ℕ
  groups = heads.groups s shape store n dense

  abbrev rels : ℕ → Option RelRow
  rels = rel_at s

  abbrev mark : ℕ
  mark = high s format.relationships_file

  -- the type is that of one of these groups
  abbrev is_typed : List ℕ → ℕ → Bool
  is_typed gs label = list_any (λ g. nat_eq label (type_of s g)) gs

  -- a relationship is met at an end, and has the type of one of these groups
  abbrev met_of : End → List ℕ → RelRow → Bool
  met_of end gs row = nat_eq (end_in end row) n && (is_wanted labels row.label && is_typed gs row.label)

  -- of one of them
  abbrev met_by : End → ℕ → RelRow → Bool
  met_by end g row = nat_eq (end_in end row) n && (is_wanted labels row.label && nat_eq row.label (type_of s g))

  -- ---- one group

  module _ (g : ℕ) (member : In g groups) where
    is_group : IsGroupOf s n g
    is_group = (heads.chain s shape store n dense).only g member

    group : views.GroupRow
    group = group_in (rec_at s format.groups_file g) g

    byte : kind_at s format.groups_file g ≡ field 1 (rec_at s format.groups_file g) format.kind
    byte = kind_low (high s format.groups_file) (rec_at s format.groups_file g) g (group_below s n g is_group)

    -- a type that is wanted, or isn't, as one of its relationships
    typed_as : (row : RelRow) → nat_eq row.label (type_of s g) ≡ true → is_wanted labels row.label ≡ is_wanted labels (type_of s g)
    typed_as row is = ap (is_wanted labels) (eqb-true row.label (type_of s g) is)

    module _ (counted : is_counted (rec_at s format.groups_file g) ≡ true) where
      counts : HasCounts (rec_at s format.groups_file g) group rels mark
      unfolding group
      counts = store.exact g (group_in (rec_at s format.groups_file g) g) (row_of_group s n g is_group) (byte ∙ eqb-true _ _ counted)

      number : (at : ℕ) → count_in (rec_at s format.groups_file g) at ≡ field 4 (rec_at s format.groups_file g) at
      number at = ap (λ b. cond b (field 4 (rec_at s format.groups_file g) at) 0) counted

      of_end : (end : End) → is_wanted labels (type_of s g) ≡ true → count_of (met_by end g) rels mark ≡ count_on (way end) (group_row_at s g)
      unfolding group
      of_end ends.Source wanted =
          count_split (met_by ends.Source g) (is_out_of group) (is_loop_of group) rels mark (λ x row live.
          subst (λ o. one_if (met_by ends.Source g row) ≡ one_if (nat_eq row.label (type_of s g) && (nat_eq row.from o && not (nat_eq row.to o))) + one_if
          (nat_eq row.label (type_of s g) && (nat_eq row.from o && nat_eq row.to o))) (sym is_group.owner)
          (split_out (nat_eq row.from n) (nat_eq row.to n) (is_wanted labels row.label) (nat_eq row.label (type_of s g)) (λ l. typed_as row l ∙ wanted)))
          ∙ (λ i. (sym counts.out ∙ sym (number format.group_out_count)) i + (sym counts.loops ∙ sym (number format.group_loop_count)) i)
      of_end ends.Target wanted =
          count_split (met_by ends.Target g) (is_into group) (is_loop_of group) rels mark (λ x row live.
          subst (λ o. one_if (met_by ends.Target g row) ≡ one_if (nat_eq row.label (type_of s g) && (not (nat_eq row.from o) && nat_eq row.to o)) + one_if
          (nat_eq row.label (type_of s g) && (nat_eq row.from o && nat_eq row.to o))) (sym is_group.owner)
          (split_in (nat_eq row.from n) (nat_eq row.to n) (is_wanted labels row.label) (nat_eq row.label (type_of s g)) (λ l. typed_as row l ∙ wanted)))
          ∙ (λ i. (sym counts.into ∙ sym (number format.group_in_count)) i + (sym counts.loops ∙ sym (number format.group_loop_count)) i)

    not_end : (end : End) → is_wanted labels (type_of s g) ≡ false → count_of (met_by end g) rels mark ≡ 0
    not_end end unwanted = count_none (met_by end g) rels mark (λ row. none_wanted (nat_eq (end_in end row) n) (is_wanted labels row.label)
        (nat_eq row.label (type_of s g)) (λ l. typed_as row l ∙ unwanted))

    -- its part of the sum
    of_group : (end : End) → (is_wanted labels (type_of s g) && not (is_counted (rec_at s format.groups_file g))) ≡ false
        → cond (is_wanted labels (type_of s g)) (count_on (way end) (group_row_at s g)) 0 ≡ count_of (met_by end g) rels mark
    of_group end has = by (is_wanted labels (type_of s g)) (is_counted (rec_at s format.groups_file g)) refl refl has
      where
        by : (w c : Bool) → is_wanted labels (type_of s g) ≡ w → is_counted (rec_at s format.groups_file g) ≡ c → (w && not c) ≡ false
            → cond w (count_on (way end) (group_row_at s g)) 0 ≡ count_of (met_by end g) rels mark
        by true true w c h = sym (of_end c end w)
        by true false w c h = absurd (true≢false h)
        by false c w d h = sym (not_end end w)

  -- ---- several groups

  or_parts : (a b : Bool) → (a || b) ≡ false → (a ≡ false) × (b ≡ false)
  or_parts true b h = absurd (true≢false h)
  or_parts false b h = (refl, h)

  -- two groups of the node have two types
  typed_once : (g : ℕ) (gs : List ℕ) → AreOnce (g ∷ gs) → ((k : ℕ) → In k (g ∷ gs) → In k groups) → (label : ℕ) → nat_eq label (type_of s g) ≡ true
      → is_typed gs label ≡ true → ⊥
  typed_once g gs once within label first later = found gs (λ k i. i) later
    where
      found : (ks : List ℕ) → ((k : ℕ) → In k ks → In k gs) → is_typed ks label ≡ true → ⊥
      found [] sub h = true≢false (sym h)
      found (k ∷ ks) sub h = by (nat_eq label (type_of s k)) refl (λ z. found ks (λ j i. sub j (inr i)) z) h
        where
          by : (b : Bool) → nat_eq label (type_of s k) ≡ b → (is_typed ks label ≡ true → ⊥) → (b || is_typed ks label) ≡ true → ⊥
          by true e rest h =
              let same : g ≡ k = (heads.chain s shape store n dense).once g k (within g (inl refl)) (within k (inr (sub k (inl refl))))
              (sym (eqb-true label (type_of s g) first) ∙ eqb-true label (type_of s k) e) in
              once.0 (subst (λ z. In z gs) (sym same) (sub k (inl refl)))
          by false e rest h = rest h

  sum_is : (end : End) (gs : List ℕ) → AreOnce gs → ((k : ℕ) → In k gs → In k groups) → lacks_counts labels (map (group_row_at s) gs) ≡ false
      → counted_sum (way end) labels (map (group_row_at s) gs) ≡ count_of (met_of end gs) rels mark
  sum_is end [] once within has = sym (count_none (met_of end []) rels mark (λ row. no_and (nat_eq (end_in end row) n) (is_wanted labels row.label)))
  sum_is end (g ∷ gs) once within has =
      let parts = or_parts _ _ has in
      let one = of_group g (within g (inl refl)) end parts.0 in
      let rest = sum_is end gs once.1 (λ k i. within k (inr i)) parts.1 in
      (λ i. one i + rest i) ∙ sym (count_split (met_of end (g ∷ gs)) (met_by end g) (met_of end gs) rels mark (λ x row live.
      split_or (nat_eq (end_in end row) n) (is_wanted labels row.label) (nat_eq row.label (type_of s g)) (is_typed gs row.label)
      (typed_once g gs once within row.label)))

  -- each relationship at the node has the type of a group
  all_typed : (end : End) (x : ℕ) (row : RelRow) → rels x ≡ Some row → nat_eq (end_in end row) n ≡ true → is_typed groups row.label ≡ true
  all_typed end x row live at =
      let found = some_row (kind_at s format.relationships_file x) (rel_in (rec_at s format.relationships_file x) x) row live in
      let own = heads.own_group s shape store n dense x found.0 (subst (IsEnd n) (sym found.1) (ended end at)) in
      among groups own.0 own.1 (own.2 ∙ ap (λ (r : RelRow). r.label) found.1)
    where
      ended : (end : End) → nat_eq (end_in end row) n ≡ true → IsEnd n row
      ended ends.Source is = inl (eqb-true row.from n is)
      ended ends.Target is = inr (eqb-true row.to n is)

      among : (gs : List ℕ) (g : ℕ) → In g gs → type_of s g ≡ row.label → is_typed gs row.label ≡ true
      among [] g i is = elim i [ ]
      among (k ∷ ks) g (inl e) is = rw (eq_true row.label (type_of s k) (sym is ∙ ap (type_of s) e)) refl
      among (k ∷ ks) g (inr i) is = by (nat_eq row.label (type_of s k)) (among ks g i is)
        where
          by : (b : Bool) → is_typed ks row.label ≡ true → (b || is_typed ks row.label) ≡ true
          by true h = refl
          by false h = h

  end_sum : (end : End) → lacks_counts labels (map (group_row_at s) groups) ≡ false
      → counted_sum (way end) labels (map (group_row_at s) groups) ≡ count_of (meets end labels n) rels mark
  end_sum end has = sum_is end groups (heads.groups_once s shape store n dense) (λ k i. i) has
      ∙ count_same (met_of end groups) (meets end labels n) rels mark (λ x row live. same_and (nat_eq (end_in end row) n) (is_wanted labels row.label)
      (is_typed groups row.label) (all_typed end x row live))

  both_sum : (gs : List GroupRow) → counted_sum directions.Both labels gs ≡ counted_sum directions.Outgoing labels gs + counted_sum directions.Incoming labels
      gs
  both_sum [] = refl
  both_sum (g ∷ gs) = by (is_wanted labels g.label) (both_sum gs)
    where
      by : (w : Bool) → counted_sum directions.Both labels gs ≡ counted_sum directions.Outgoing labels gs + counted_sum directions.Incoming labels gs
          → cond w (count_on directions.Both g) 0 + counted_sum directions.Both labels gs
          ≡ cond w (count_on directions.Outgoing g) 0 + counted_sum directions.Outgoing labels
          gs + (cond w (count_on directions.Incoming g) 0 + counted_sum directions.Incoming labels gs)
      by true e = omega (arith, e)
      by false e = omega (arith, e)

  -- the sum is the number of rows that are met
  pub sum_rows : (direction : Direction) → lacks_counts labels (map (group_row_at s) groups) ≡ false
      → counted_sum direction labels (map (group_row_at s) groups) ≡ rows_count direction labels n (rows_of s)
  sum_rows directions.Outgoing has = end_sum ends.Source has ∙ sym (met_count s ends.Source labels n)
  sum_rows directions.Incoming has = end_sum ends.Target has ∙ sym (met_count s ends.Target labels n)
  sum_rows directions.Both has = both_sum (map (group_row_at s) groups)
      ∙ (λ i. (end_sum ends.Source has ∙ sym (met_count s ends.Source labels n)) i + (end_sum ends.Target has ∙ sym (met_count s ends.Target labels n)) i)
