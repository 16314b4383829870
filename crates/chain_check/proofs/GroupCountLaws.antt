-- The counts of groups: where the third rule is kept, a chain of a group is as long as there are relationships of its type and side at its owner.
use Rattle.std.proofs.Common.{◌≡◌, ℕ, ◌<◌, ◌≤◌, Bool, true, not, ◌&&◌, Option, None, Some, List, length, nat_eq, sym, ap, ◌∙◌, subst, inl, inr, arith, refl}
use Rattle.std.specs.Bool.{Decides}
use Rattle.std.proofs.lemmas.Bool.{and_from, eqb-true, true≢false}
use Rattle.rec_bytes.specs.declared.record.Rec.{Rec}
use Rattle.rec_bytes.specs.Format as format
use Rattle.rec_bytes.specs.Record.{field}
use Rattle.store_rules.specs.Chains.{next_in, prev_in}
use Rattle.store_rules.specs.Rows.{ids}
use Rattle.store_rules.specs.Rules as rules
use Rattle.store_rules.specs.Rules.{HasCounts, count_of, is_into, is_loop_of, is_out_of, passes}
use Rattle.store_rules.specs.Views.{GroupRow, RelRow, Records, group_at, group_in, high, kind_at, rec_at, rel_at}
use Rattle.store_rules.proofs.ChainLaws.{walk_of_chain}
use Rattle.store_rules.proofs.ChainRules.{Grouped, Linked, Stands, owned_by, owned_head}
use Rattle.store_rules.proofs.GroupLaws.{IsFirstPlace}
use Rattle.store_rules.proofs.Counts.{ids_in, in_ids, once_ids}
use Rattle.store_rules.proofs.NumberLaws.{and_parts, eq_false, eq_true}
use Rattle.store_rules.proofs.OnceLaws.{length_same, once_walk}
use Rattle.store_rules.proofs.ViewLaws.{kind_below, row_some, some_row}
use Rattle.store_rules.specs.Breaking.{IsGroupHeadOf, IsHeadChain, MemberKeeps, group_head}
use Rattle.chain_check.specs.declared.chains.Side.{Side}
use Rattle.chain_check.specs.declared.chains.Side.TheVariants.{Into, Loop, Out}
use Rattle.chain_check.specs.Counts.{AreAsLong, CountsHold, IsAsLong}
use Rattle.record_lists.specs.Lines.{IsLineIn}
use Rattle.chain_check.specs.NodeChains.{chain_line, side_at}
use Rattle.chain_check.proofs.ChainLaws.{IsSideOf, chain_one, group_side, head_chain, line_of_head, stands_low}
use Rattle.store_rules.proofs.GroupOwners.{Exact}
use Rattle.record_lists.proofs.LineLaws.{line_one}
use Rattle.chain_check.proofs.SideLaws.{OnSide, not_eq}

-- ---- tests of a relationship, and the sides of a group

-- just what is on this side passes the test
pub record IsTestOf (group : GroupRow) (side : Side) (test : RelRow → Bool) : Type 0 where
  pub to : (rel : RelRow) → OnSide side group.owner rel → test rel ≡ true
  pub from : (rel : RelRow) → test rel ≡ true → OnSide side group.owner rel

module _ (group : GroupRow) where
  abbrev typed : RelRow → Bool
  typed rel = nat_eq rel.label group.label

  abbrev from_it : RelRow → Bool
  from_it rel = nat_eq rel.from group.owner

  abbrev to_it : RelRow → Bool
  to_it rel = nat_eq rel.to group.owner

  pub out_test : IsTestOf group (Out group.label) (is_out_of group)
  out_test = record {
    to = λ rel h. and_from (typed rel) (from_it rel && not (to_it rel)) (eq_true rel.label group.label h.0)
        (and_from (from_it rel) (not (to_it rel)) (eq_true rel.from group.owner h.1) (ap not (eq_false rel.to group.owner h.2)));
    from = λ rel h.
        let a = and_parts (typed rel) (from_it rel && not (to_it rel)) h in
        let b = and_parts (from_it rel) (not (to_it rel)) a.1 in
        (eqb-true rel.label group.label a.0, eqb-true rel.from group.owner b.0, not_eq rel.to group.owner b.1);
  }

  pub into_test : IsTestOf group (Into group.label) (is_into group)
  into_test = record {
    to = λ rel h. and_from (typed rel) (not (from_it rel) && to_it rel) (eq_true rel.label group.label h.0)
        (and_from (not (from_it rel)) (to_it rel) (ap not (eq_false rel.from group.owner h.1)) (eq_true rel.to group.owner h.2));
    from = λ rel h.
        let a = and_parts (typed rel) (not (from_it rel) && to_it rel) h in
        let b = and_parts (not (from_it rel)) (to_it rel) a.1 in
        (eqb-true rel.label group.label a.0, not_eq rel.from group.owner b.0, eqb-true rel.to group.owner b.1);
  }

  pub loop_test : IsTestOf group (Loop group.label) (is_loop_of group)
  loop_test = record {
    to = λ rel h. and_from (typed rel) (from_it rel && to_it rel) (eq_true rel.label group.label h.0)
        (and_from (from_it rel) (to_it rel) (eq_true rel.from group.owner h.1) (eq_true rel.to group.owner h.2));
    from = λ rel h.
        let a = and_parts (typed rel) (from_it rel && to_it rel) h in
        let b = and_parts (from_it rel) (to_it rel) a.1 in
        (eqb-true rel.label group.label a.0, eqb-true rel.from group.owner b.0, eqb-true rel.to group.owner b.1);
  }

-- a row that passes a test
passed : (test : RelRow → Bool) (o : Option RelRow) → passes test o ≡ true → (row : RelRow) × (o ≡ Some row) × (test row ≡ true)
passed test None h = absurd (true≢false (sym h))
passed test (Some row) h = (row, refl, h)

module _ (records : Records) where
  abbrev pub group_rec : ℕ → Rec
  group_rec g = rec_at records format.groups_file g

  abbrev pub mark : ℕ
  mark = high records format.relationships_file

  -- ---- one chain of a group

  module _ (linked : Linked records) (room : mark ≤ format.most_ids) (g : ℕ) (row : GroupRow) (live : group_at records g ≡ Some row)
      (dense : kind_at records format.nodes_file row.owner ≡ format.dense) where
    module _ (place : ℕ) (at : IsFirstPlace place) (test : RelRow → Bool) (is : IsTestOf row (side_at place row.label) test) where
      abbrev head : rules.Head
      head = group_head g place

      abbrev side : Side
      side = side_at place row.label

      fit : IsSideOf records head row.owner side
      fit = group_side records g place row live at

      own : IsGroupHeadOf records head row.owner
      own = owned_head records row.owner g place at dense (owned_by records row.owner g row live refl)

      pub listed : rules.IsListed records head row.owner (Stands records head)
      listed = linked.listed.each head row.owner (inr own)

      abbrev all : List ℕ
      all = ids (λ x. passes test (rel_at records x)) mark

      length_all : length listed.members ≡ count_of test (rel_at records) mark
      length_all = length_same listed.members all
          (once_walk (λ x. next_in (rec_at records format.relationships_file x) row.owner) (rules.first_of records head) listed.members
          (walk_of_chain (λ x. next_in (rec_at records format.relationships_file x) row.owner) (λ x. prev_in (rec_at records format.relationships_file x)
          row.owner) format.nil (rules.first_of records head) listed.members listed.chain))
          (once_ids (λ x. passes test (rel_at records x)) mark)
          (λ x i.
          let s = listed.only x i in
          in_ids (λ x. passes test (rel_at records x)) mark x (stands_low records head row.owner side fit x s)
          (ap (passes test) s.live ∙ is.to s.row (fit.from s.row s.on)))
          (λ x i.
          let t = ids_in (λ x. passes test (rel_at records x)) mark x i in
          let p = passed test (rel_at records x) t.1 in
          listed.all x (record { row = p.0; live = p.1; on = fit.to p.0 (is.from p.0 p.2) }))

      abbrev IsIt : List ℕ → Type 0
      IsIt xs = IsLineIn (chain_line side row.owner) records mark (field 4 (group_rec g) place) xs

      -- there is a line, and it is as long as there are such relationships
      pub line_there : IsIt listed.members
      line_there = line_of_head records head row.owner side fit (field 4 (group_rec g) place) refl listed.members
          (record { chain = listed.chain; only = listed.only })

      pub length_line : (xs : List ℕ) → IsIt xs → length xs ≡ count_of test (rel_at records) mark
      length_line xs h =
          let c : IsHeadChain records head row.owner xs = head_chain records head row.owner side fit room (field 4 (group_rec g) place) refl xs h in
          ap length (chain_one (λ x. next_in (rec_at records format.relationships_file x) row.owner) (λ x. prev_in (rec_at records format.relationships_file x)
          row.owner) format.nil (rules.first_of records head) xs listed.members c.chain listed.chain)
          ∙ length_all

    -- ---- the three of them

    abbrev side_line : ℕ → List ℕ → Type 0
    side_line place xs = IsLineIn (chain_line (side_at place row.label) row.owner) records mark (field 4 (group_rec g) place) xs

    read : group_in (group_rec g) g ≡ row
    read = (some_row (kind_at records format.groups_file g) (group_in (group_rec g) g) row live).1

    -- a line of the record is one of the row
    from_record : (place : ℕ) (xs : List ℕ) → IsLineIn (chain_line (side_at place (field 4 (group_rec g) format.group_type)) (field 4 (group_rec g)
        format.group_owner)) records mark (field 4 (group_rec g) place) xs → side_line place xs
    from_record place xs h = subst (λ (w : GroupRow). IsLineIn (chain_line (side_at place w.label) w.owner) records mark (field 4 (group_rec g) place) xs) read
        h

    to_record : (place : ℕ) (xs : List ℕ) → side_line place xs → IsLineIn
        (chain_line (side_at place (field 4 (group_rec g) format.group_type)) (field 4 (group_rec g) format.group_owner)) records mark
        (field 4 (group_rec g) place) xs
    to_record place xs h = subst (λ (w : GroupRow). IsLineIn (chain_line (side_at place w.label) w.owner) records mark (field 4 (group_rec g) place) xs)
        (sym read) h

    exact_one : (place count : ℕ) (at : IsFirstPlace place) (test : RelRow → Bool) → IsTestOf row (side_at place row.label) test
        → IsAsLong records mark (group_rec g) place count
        → field 4 (group_rec g) count ≡ count_of test (rel_at records) mark
    exact_one place count at test is h = h.size ∙ length_line place at test is h.members (from_record place h.members h.line)

    long_one : (place count : ℕ) (at : IsFirstPlace place) (test : RelRow → Bool) → IsTestOf row (side_at place row.label) test
        → field 4 (group_rec g) count ≡ count_of test (rel_at records) mark → IsAsLong records mark (group_rec g) place count
    long_one place count at test is e = record {
      members = (listed place at test is).members;
      line = to_record place (listed place at test is).members (line_there place at test is);
      size = e ∙ sym (length_all place at test is);
    }

    pub counts_of : AreAsLong records mark (group_rec g) → HasCounts (group_rec g) row (rel_at records) mark
    counts_of h = record {
      out = exact_one format.group_first_out format.group_out_count (inl refl) (is_out_of row) (out_test row) h.out;
      into = exact_one format.group_first_in format.group_in_count (inr (inl refl)) (is_into row) (into_test row) h.into;
      loops = exact_one format.group_first_loop format.group_loop_count (inr (inr refl)) (is_loop_of row) (loop_test row) h.loops;
    }

    pub long_of : HasCounts (group_rec g) row (rel_at records) mark → AreAsLong records mark (group_rec g)
    long_of h = record {
      out = long_one format.group_first_out format.group_out_count (inl refl) (is_out_of row) (out_test row) h.out;
      into = long_one format.group_first_in format.group_in_count (inr (inl refl)) (is_into row) (into_test row) h.into;
      loops = long_one format.group_first_loop format.group_loop_count (inr (inr refl)) (is_loop_of row) (loop_test row) h.loops;
    }

  -- ---- the counts of all groups

  -- what has a kind of groups is one
  group_there : (g : ℕ) → kind_at records format.groups_file g ≡ format.counted → group_at records g ≡ Some (group_in (group_rec g) g)
  group_there g counted = row_some (kind_at records format.groups_file g) (group_in (group_rec g) g) (λ z. let e : 2 ≡ 0 = sym counted ∙ z in omega arith)

  -- a group that keeps the rule has the counts of its chains
  pub counts_hold : Linked records → mark ≤ format.most_ids → (g : ℕ) → MemberKeeps records g → CountsHold records g
  counts_hold linked room g keeps counted =
      let row = group_in (group_rec g) g in
      let live = group_there g counted in
      long_of linked room g row live (keeps.owner row live).dense (keeps.counts row live counted)

  -- and where all have them they are exact
  pub are_exact : Linked records → mark ≤ format.most_ids → Grouped records → ((g : ℕ) → g < high records format.groups_file → CountsHold records g)
      → Exact records
  are_exact linked room grouped hold g row live counted =
      let low = kind_below (high records format.groups_file) (group_rec g) g
      (some_row (kind_at records format.groups_file g) (group_in (group_rec g) g) row live).0 in
      counts_of linked room g row live (grouped.owned g row live) (hold g low counted)

-- ---- what is decided of one chain, and of a group

-- the one line there is that was found
pub as_long : (records : Records) (high : ℕ) (r : Rec) (first count : ℕ) (xs : List ℕ) (b : Bool) → high ≤ format.most_ids
    → IsLineIn (chain_line (side_at first (field 4 r format.group_type)) (field 4 r format.group_owner)) records high (field 4 r first) xs
    → b ≡ nat_eq (field 4 r count) (length xs) → Decides b (IsAsLong records high r first count)
as_long records high r first count xs b room line e = (
  (λ t. record { members = xs; line = line; size = eqb-true (field 4 r count) (length xs) (sym e ∙ t) }),
  (λ h. e ∙ eq_true (field 4 r count) (length xs) (h.size ∙ ap length (line_one _ _ high format.nil (field 4 r first) h.members xs room h.line line))),
)

-- and of the three, where the record has counts
pub counts_decided : (records after : Records) (is_seen g : ℕ) (r : Rec) (b : Bool) → after ≡ records → is_seen ≡ high records format.relationships_file
    → r ≡ rec_at records format.groups_file g
    → kind_at records format.groups_file g ≡ format.counted → Decides b (AreAsLong after is_seen r) → Decides b (CountsHold records g)
counts_decided records after is_seen g r b same at read counted d =
    let here : Decides b (AreAsLong records (high records format.relationships_file) (rec_at records format.groups_file g))
    = subst (λ q. Decides b (AreAsLong records (high records format.relationships_file) q)) read
    (subst (λ m. Decides b (AreAsLong records m r)) at (subst (λ (rs : Records). Decides b (AreAsLong rs is_seen r)) same d)) in
    ((λ t _. here.0 t), (λ h. here.1 (h counted)))
