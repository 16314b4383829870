-- A relationship that comes to a head of a node, or leaves it: what the numbers of the counted groups say then.
use Rattle.std.proofs.Common.{◌≡◌, ◌≢◌, ℕ, ◌+◌, ◌-◌, ◌<◌, ◌≤◌, ◌^◌, Bool, true, ◌&&◌, not, Some, List, sym, ap, ◌∙◌, subst, inl, inr, ⊎_elim, arith, refl}
use Rattle.std.proofs.lemmas.Bool.{cases_lt, true≢false}
use Rattle.rec_bytes.specs.declared.key.Key.{Key}
use Rattle.rec_bytes.specs.declared.record.Rec.{Rec}
use Rattle.rec_bytes.specs.declared.shape.Shape.{Shape}
use Rattle.rec_bytes.specs.Format as format
use Rattle.rec_bytes.specs.Record.{field, with_field}
use Rattle.rec_bytes.specs.Space.{State, put}
use Rattle.rec_bytes.proofs.Spaces.{put_same}
use Rattle.store_rules.specs.Ends.{IsEndHead}
use Rattle.store_rules.specs.Rules.{GroupHead, HasCounts, Head, IsInGroup, KeepsRules, Owns, count_of, is_into, is_loop_of, is_out_of, passes}
use Rattle.store_rules.specs.Views.{GroupRow, Records, RelRow, group_at, group_in, high, key_in, kind_at, rec_at, rel_at, rel_in}
use Rattle.store_rules.proofs.CountLaws.{HasOneMore, IsSide, counts_untyped, one_if}
use Rattle.store_rules.proofs.Counts.{ids_empty}
use Rattle.store_rules.proofs.GroupLaws.{same_group}
use Rattle.store_rules.proofs.LinkFits.{IsCountPlace}
use Rattle.store_rules.proofs.NumberLaws.{eq_false, eq_true, nat_cases}
use Rattle.store_rules.proofs.Shapes.{high_most}
use Rattle.store_rules.proofs.ViewLaws.{kind_below, some_row}
use Rattle.group_store.specs.Counting.{count_place, one_less, one_more, tallied}
use Rattle.group_store.specs.GroupRecord.{is_counted}
use Rattle.group_store.proofs.ExactGroups.{side_small}
use Rattle.group_store.proofs.Tallies.{elsewhere-tallied, less_counted, more_counted, more_like, tally_cases}

-- numbers before that are the same
more_from : (old was new : Rec) (group : GroupRow) (row : RelRow) → ((at : ℕ) → (32 ≤ at) × (at + 4 ≤ 44) → field 4 old at ≡ field 4 was at)
    → HasOneMore old new group row → HasOneMore was new group row
more_from old was new group row same h = record {
  out = h.out ∙ ap (λ k. k + one_if (is_out_of group row)) (same 32 (omega arith, omega arith));
  into = h.into ∙ ap (λ k. k + one_if (is_into group row)) (same 36 (omega arith, omega arith));
  loops = h.loops ∙ ap (λ k. k + one_if (is_loop_of group row)) (same 40 (omega arith, omega arith));
}

in_places : (at : ℕ) → IsCountPlace at → (32 ≤ at) × (at + 4 ≤ 44)
in_places at is = ⊎_elim (λ (e : at ≡ 32). (omega arith, omega arith)) (λ k. ⊎_elim (λ (e : at ≡ 36). (omega arith, omega arith))
    (λ (e : at ≡ 40). (omega arith, omega arith)) k) is

-- the head is one where the row stands, in a store that keeps the rules; the group is counted, and has its numbers still
module _ (s : Records) (shape : Shape) {most : ℕ} {empty : List ℕ} (well : KeepsRules s shape most empty) (row : RelRow) (h : Head) (n : ℕ)
    (end : IsEndHead s h n row)
    (g : ℕ) (group : GroupRow) (is : group_at s g ≡ Some group) (counted : kind_at s format.groups_file g ≡ format.counted)
    (p : State) (same : (at : ℕ) → (32 ≤ at) × (at + 4 ≤ 44) → field 4 (rec_at p.records format.groups_file g) at ≡ field 4 (rec_at s format.groups_file g) at)
    (byte : field 1 (rec_at p.records format.groups_file g) format.kind ≡ format.counted) where
  exact : HasCounts (rec_at s format.groups_file g) group (rel_at s) (high s format.relationships_file)
  exact = well.exact g group is counted

  label_of : (k : ℕ) (q : GroupRow) → group_at s k ≡ Some q → field 4 (rec_at s format.groups_file k) format.group_type ≡ q.label
  label_of k q e = ap (λ (z : GroupRow). z.label) (some_row (kind_at s format.groups_file k) (group_in (rec_at s format.groups_file k) k) q e).1

  -- the group of the head
  inside : (o : GroupHead (kind_at s format.nodes_file) (group_at s) h n) → IsInGroup (group_at s) h row
  inside o = ⊎_elim (λ z. absurd (let f = z.0 in let k = ap (λ (q : Key). q.file) o.key in omega arith)) (λ z. z.1) end.on

  here_is : (o : GroupHead (kind_at s format.nodes_file) (group_at s) h n) → (inside o).row ≡ o.row
  here_is o = same_group (inside o).row o.row (sym (inside o).group ∙ ap (λ (q : Key). group_at s q.id) o.key ∙ o.group)

  module _ (change : ℕ → ℕ) where
    abbrev t : State
    t = tallied change p h

  module _ (own : group.owner ≡ n) where
    dense : kind_at s format.nodes_file n ≡ format.dense
    dense = ap (kind_at s format.nodes_file) (sym own) ∙ well.grouped.owned g group is

    -- the head of another group of the node is that of another type
    untyped : (o : GroupHead (kind_at s format.nodes_file) (group_at s) h n) → o.row.id ≢ g → row.label ≢ group.label
    untyped o ne typed =
        let has = well.grouped.each n dense in
        ne (has.once o.row.id g (has.all o.row.id o.row o.group o.owner) (has.all g group is own)
        (label_of o.row.id o.row o.group ∙ sym (ap (λ (q : GroupRow). q.label) (here_is o)) ∙ sym (inside o).label ∙ typed ∙ sym (label_of g group is)))

    -- at the group's own head
    module _ (o : GroupHead (kind_at s format.nodes_file) (group_at s) h n) (id : o.row.id ≡ g) where
      key : h.key ≡ key_in format.groups_file g
      key = o.key ∙ ap (key_in format.groups_file) id

      row_is : (inside o).row ≡ group
      row_is = here_is o ∙ same_group o.row group (sym o.group ∙ ap (group_at s) id ∙ is)

      typed : row.label ≡ group.label
      typed = (inside o).label ∙ ap (λ (q : GroupRow). q.label) row_is

      side : IsSide h.field group row
      side = subst (λ (q : GroupRow). IsSide h.field q row) row_is (inside o).side

      rec_p : p.records h.key ≡ rec_at p.records format.groups_file g
      rec_p = ap p.records key

      place_low : (32 ≤ h.field + 12) × (h.field + 12 + 4 ≤ 44)
      place_low = in_places (h.field + 12) (side_small h.field (rec_at s format.groups_file g) group row (rel_at s) (high s format.relationships_file)
          side exact).1

      number : field 4 (p.records h.key) (h.field + 12) ≡ field 4 (rec_at s format.groups_file g) (h.field + 12)
      number = ap (λ (r : Rec). field 4 r (h.field + 12)) rec_p ∙ same (h.field + 12) place_low

      is_counted_p : is_counted (p.records h.key) ≡ true
      is_counted_p = ap is_counted rec_p ∙ eq_true _ _ byte

      low : field 4 (p.records h.key) (h.field + 12) < 2 ^ 32 - 1
      low = let e = number in let few = (side_small h.field (rec_at s format.groups_file g) group row (rel_at s) (high s format.relationships_file)
          side exact).0 in
          let mark = high_most s shape format.relationships_file well.ranges refl in omega arith

      more_there : HasOneMore (rec_at s format.groups_file g) (rec_at (tallied one_more p h).records format.groups_file g) group row
      more_there = tally_cases one_more p h (λ z. HasOneMore (rec_at s format.groups_file g) (rec_at z.records format.groups_file g) group row)
          (λ ne. absurd (ne (ap (λ (q : Key). q.file) key)))
          (λ _ _.
          let new = with_field 4 (p.records h.key) (count_place h.field) (one_more (field 4 (p.records h.key) (count_place h.field))) in
          subst (λ (k : Key). HasOneMore (rec_at s format.groups_file g) (put p.records h.key new k) group row) key
          (subst (λ (r : Rec). HasOneMore (rec_at s format.groups_file g) r group row) (sym (put_same p.records h.key new))
          (more_from (p.records h.key) (rec_at s format.groups_file g) new group row (λ at w. ap (λ (r : Rec). field 4 r at) rec_p ∙ same at w)
          (more_counted (p.records h.key) h.field group row typed side low))))
          (λ _ no. absurd (true≢false (sym is_counted_p ∙ no)))

      -- it is counted there
      module _ (x : ℕ) (live : rel_at s x ≡ Some row) where
        below : x < high s format.relationships_file
        below = kind_below (high s format.relationships_file) (rec_at s format.relationships_file x) x
            (some_row (kind_at s format.relationships_file x) (rel_in (rec_at s format.relationships_file x) x) row live).0

        positive : (test : RelRow → Bool) → test row ≡ true → 1 ≤ count_of test (rel_at s) (high s format.relationships_file)
        positive test passed = ⊎_elim
            (λ (z : count_of test (rel_at s) (high s format.relationships_file) < 1).
            absurd (true≢false (sym (ap (passes test) live ∙ passed) ∙ ids_empty (λ y. passes test (rel_at s y)) (high s format.relationships_file)
            (omega arith) x below)))
            (λ (ge : 1 ≤ count_of test (rel_at s) (high s format.relationships_file)). ge)
            (cases_lt (count_of test (rel_at s) (high s format.relationships_file)) 1)

        some_at : (at : ℕ) → IsSide at group row → 1 ≤ field 4 (rec_at s format.groups_file g) (at + 12)
        some_at at (inl k) = subst (λ a. 1 ≤ field 4 (rec_at s format.groups_file g) (a + 12)) (sym k.0)
            (let c = positive (is_out_of group) (λ i. eq_true row.label group.label typed i && (eq_true row.from group.owner k.1 i && not
            (eq_false row.to group.owner k.2 i))) in let e = exact.out in omega (arith, c, e))
        some_at at (inr (inl k)) = subst (λ a. 1 ≤ field 4 (rec_at s format.groups_file g) (a + 12)) (sym k.0)
            (let c = positive (is_into group) (λ i. eq_true row.label group.label typed i && (not (eq_false row.from group.owner k.1 i) && eq_true row.to
            group.owner k.2 i)) in let e = exact.into in omega (arith, c, e))
        some_at at (inr (inr k)) = subst (λ a. 1 ≤ field 4 (rec_at s format.groups_file g) (a + 12)) (sym k.0)
            (let c = positive (is_loop_of group) (λ i. eq_true row.label group.label typed i && (eq_true row.from group.owner k.1 i && eq_true row.to
            group.owner k.2 i)) in let e = exact.loops in omega (arith, c, e))

        less_there : HasOneMore (rec_at (tallied one_less p h).records format.groups_file g) (rec_at s format.groups_file g) group row
        less_there = tally_cases one_less p h (λ z. HasOneMore (rec_at z.records format.groups_file g) (rec_at s format.groups_file g) group row)
            (λ ne. absurd (ne (ap (λ (q : Key). q.file) key)))
            (λ _ _.
            let new = with_field 4 (p.records h.key) (count_place h.field) (one_less (field 4 (p.records h.key) (count_place h.field))) in
            subst (λ (k : Key). HasOneMore (put p.records h.key new k) (rec_at s format.groups_file g) group row) key
            (subst (λ (r : Rec). HasOneMore r (rec_at s format.groups_file g) group row) (sym (put_same p.records h.key new))
            (more_like new (p.records h.key) (rec_at s format.groups_file g) group row (λ at w. sym (ap (λ (r : Rec). field 4 r at) rec_p ∙ same at
            (in_places at w)))
            (less_counted (p.records h.key) h.field group row typed side (let e = number in let c = some_at h.field side in omega arith)))))
            (λ _ no. absurd (true≢false (sym is_counted_p ∙ no)))

    -- the numbers of the node's groups: one more at the head
    pub more_here : HasOneMore (rec_at s format.groups_file g) (rec_at (tallied one_more p h).records format.groups_file g) group row
    more_here = by end.owns
      where
        by : Owns (kind_at s format.nodes_file) (group_at s) h n → HasOneMore (rec_at s format.groups_file g)
            (rec_at (tallied one_more p h).records format.groups_file g) group row
        by (inl o) = absurd (let z = sym o.sparse ∙ dense in omega arith)
        by (inr o) = ⊎_elim (λ (e : o.row.id ≡ g). more_there o e)
            (λ (ne : o.row.id ≢ g).
            let away = elsewhere-tallied one_more p h (key_in format.groups_file g) (λ e. ne (sym (ap (λ (q : Key). q.id) (e ∙ o.key)))) in
            counts_untyped (rec_at s format.groups_file g) (rec_at (tallied one_more p h).records format.groups_file g) group row
            (λ at w. ap (λ (r : Rec). field 4 r at) away ∙ same at w) (untyped o ne)) (nat_cases o.row.id g)

    -- and one less, where it stood
    pub less_here : (x : ℕ) → rel_at s x ≡ Some row → HasOneMore (rec_at (tallied one_less p h).records format.groups_file g) (rec_at s format.groups_file g)
        group row
    less_here x live = by end.owns
      where
        by : Owns (kind_at s format.nodes_file) (group_at s) h n → HasOneMore (rec_at (tallied one_less p h).records format.groups_file g)
            (rec_at s format.groups_file g) group row
        by (inl o) = absurd (let z = sym o.sparse ∙ dense in omega arith)
        by (inr o) = ⊎_elim (λ (e : o.row.id ≡ g). less_there o e x live)
            (λ (ne : o.row.id ≢ g).
            let away = elsewhere-tallied one_less p h (key_in format.groups_file g) (λ e. ne (sym (ap (λ (q : Key). q.id) (e ∙ o.key)))) in
            counts_untyped (rec_at (tallied one_less p h).records format.groups_file g) (rec_at s format.groups_file g) group row
            (λ at w. sym (ap (λ (r : Rec). field 4 r at) away ∙ same at w)) (untyped o ne)) (nat_cases o.row.id g)
