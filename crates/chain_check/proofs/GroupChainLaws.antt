-- The group chains of dense nodes: as lines, and the fourth rule by what it says of each record.
use Rattle.std.proofs.Common.{◌≡◌, ◌≢◌, ℕ, ◌<◌, ◌≤◌, Bool, true, false, not, ◌&&◌, List, [], ◌∷◌, Some, map, nat_eq}
use Rattle.std.proofs.Common.{sym, ap, ◌∙◌, subst, inl, inr, ⊎_elim, arith, refl}
use Rattle.std.specs.Bool.{Decides}
use Rattle.std.specs.List.{IsDistinct, AllByRecursion}
use Rattle.std.proofs.lemmas.Bool.{and_from, eq-eqb, eqb-true, ne_eqb, true≢false}
use Rattle.rec_bytes.specs.declared.record.Rec.{Rec}
use Rattle.rec_bytes.specs.Format as format
use Rattle.rec_bytes.specs.Record.{field}
use Rattle.store_rules.specs.Chains.{In, IsChain}
use Rattle.store_rules.specs.Rules as rules
use Rattle.store_rules.specs.Views.{GroupRow, Records, first_link, group_at, group_in, high, is_live, kind_at, rec_at}
use Rattle.store_rules.proofs.ChainLaws.{head_once, walk_of_chain}
use Rattle.store_rules.proofs.ChainRules.{Grouped}
use Rattle.store_rules.proofs.GroupLaws.{same_group}
use Rattle.store_rules.proofs.NumberLaws.{and_parts, eq_false, eq_true}
use Rattle.store_rules.proofs.PropertyOwners.{used_of_live}
use Rattle.store_rules.proofs.ViewLaws.{kind_below, kind_low, row_some, some_row}
use Rattle.store_rules.specs.Breaking.{IsGroupChain, IsGroupOf, MemberKeeps, OwnerKeeps, group_label}
use Rattle.record_lists.specs.declared.heads.Found.{Found}
use Rattle.record_lists.specs.declared.heads.Found.TheVariants.{Items, Missing, Nothing}
use Rattle.chain_check.specs.Groups.{AreGroups, GroupsFound, group_line, is_group_of}
use Rattle.record_lists.specs.Heads.{AmongHeads, AtHead, FoundIs, HeadKeeps, IsTwice}
use Rattle.record_lists.specs.Lines.{IsLineIn}
use Rattle.record_lists.specs.Seen.{is_seen}
use Rattle.chain_check.specs.NodeChains.{IsDense}
use Rattle.chain_check.proofs.ChainLaws.{chain_of_line, chain_one, line_of_chain, test_of_line}
use Rattle.record_lists.proofs.LineLaws.{below_in, line_one}

module _ (records : Records) where
  abbrev pub group_rec : ℕ → Rec
  group_rec g = rec_at records format.groups_file g

  abbrev pub next : ℕ → ℕ
  next g = field 4 (group_rec g) format.group_next

  abbrev pub prev : ℕ → ℕ
  prev g = field 4 (group_rec g) format.group_previous

  -- a group in use is in the group chain of its owner
  abbrev pub HasOwner : ℕ → Type 0
  HasOwner g = (row : GroupRow) → group_at records g ≡ Some row → IsGroupOf records row.owner g

  group_chain_one : (n : ℕ) (xs ys : List ℕ) → IsGroupChain records n xs → IsGroupChain records n ys → xs ≡ ys
  group_chain_one n xs ys h k = chain_one next prev format.nil (first_link records n) xs ys h.chain k.chain

  pub are_grouped : ((n : ℕ) → n < high records format.nodes_file → OwnerKeeps records n) → ((g : ℕ) → g < high records format.groups_file → HasOwner g)
      → Grouped records
  are_grouped owners members = record {
    owned = λ g row live. let k = member g row live in k.dense;
    each = λ n dense.
        let low = kind_below (high records format.nodes_file) (rec_at records format.nodes_file n) n (λ z. let two : 2 ≡ 0 = sym dense ∙ z in omega arith) in
        let k = (owners n low).groups dense in
        record {
          members = k.0;
          chain = k.1.chain;
          only = k.1.only;
          filled = λ g i. inl (k.1.filled g i);
          all = λ g row live owner.
              let m = subst (λ o. IsGroupOf records o g) owner (member g row live) in
              subst (In g) (group_chain_one n m.members k.0 m.groups k.1) m.member;
          once = k.1.once;
        };
  }
    where
      member : (g : ℕ) (row : GroupRow) → group_at records g ≡ Some row → IsGroupOf records row.owner g
      member g row live = (members g (kind_below (high records format.groups_file) (group_rec g) g (some_row (kind_at records format.groups_file g)
          (group_in (group_rec g) g) row live).0)) row live

  -- ---- group chains as lines

  module _ (n : ℕ) where
    abbrev pub test : ℕ → Bool
    test g = is_group_of n (group_rec g)

    row_of : (g : ℕ) → g < high records format.groups_file → test g ≡ true → (row : GroupRow) × (group_at records g ≡ Some row) × (row.owner ≡ n)
    row_of g lt t =
        let both = and_parts (not (nat_eq (field 1 (group_rec g) format.kind) format.free_kind))
        (nat_eq (field 4 (group_rec g) format.group_owner) n && rules.is_filled (group_rec g)) t in
        let low = kind_low (high records format.groups_file) (group_rec g) g lt in
        let some : kind_at records format.groups_file g ≢ 0 = λ e. true≢false
        (sym both.0 ∙ ap not (eq_true (field 1 (group_rec g) format.kind) 0 (sym low ∙ e))) in (
          group_in (group_rec g) g,
          row_some (kind_at records format.groups_file g) (group_in (group_rec g) g) some,
          eqb-true (field 4 (group_rec g)
              format.group_owner) n (and_parts (nat_eq (field 4 (group_rec g) format.group_owner) n) (rules.is_filled (group_rec g)) both.1).0,
        )

    filled_of : (g : ℕ) → test g ≡ true → rules.is_filled (group_rec g) ≡ true
    filled_of g t =
        let both = and_parts (not (nat_eq (field 1 (group_rec g) format.kind) format.free_kind))
        (nat_eq (field 4 (group_rec g) format.group_owner) n && rules.is_filled (group_rec g)) t in
        (and_parts (nat_eq (field 4 (group_rec g) format.group_owner) n) (rules.is_filled (group_rec g)) both.1).1

    group_low : (g : ℕ) (row : GroupRow) → group_at records g ≡ Some row → g < high records format.groups_file
    group_low g row live = kind_below (high records format.groups_file) (group_rec g) g
        (some_row (kind_at records format.groups_file g) (group_in (group_rec g) g) row live).0

    test_of : (g : ℕ) (row : GroupRow) → group_at records g ≡ Some row → row.owner ≡ n → rules.is_filled (group_rec g) ≡ true → test g ≡ true
    test_of g row live owner filled =
        let r = some_row (kind_at records format.groups_file g) (group_in (group_rec g) g) row live in
        let low = kind_low (high records format.groups_file) (group_rec g) g (group_low g row live) in
        and_from (not (nat_eq (field 1 (group_rec g) format.kind) format.free_kind))
        (nat_eq (field 4 (group_rec g) format.group_owner) n && rules.is_filled (group_rec g))
        (ap not (eq_false (field 1 (group_rec g) format.kind) 0 (λ e. r.0 (low ∙ e))))
        (and_from (nat_eq (field 4 (group_rec g) format.group_owner) n) (rules.is_filled (group_rec g)) (eq_true (field 4 (group_rec g) format.group_owner) n
        (ap (λ (w : GroupRow). w.owner) r.1 ∙ owner)) filled)

    -- types that are distinct, and groups that are told apart by them
    apart_in : (x : ℕ) (xs : List ℕ) → AllByRecursion (λ y. nat_eq (group_label records x) y ≡ false) (map (group_label records) xs) → (y : ℕ) → In y xs
        → group_label records x ≡ group_label records y → ⊥
    apart_in x [] h y i e = elim i [ ]
    apart_in x (z ∷ zs) h y (inl same) e = true≢false (sym (eq-eqb (group_label records x) (group_label records z) (e ∙ ap (group_label records) same)) ∙ h.0)
    apart_in x (z ∷ zs) h y (inr i) e = apart_in x zs h.1 y i e

    once_of : (xs : List ℕ) → IsDistinct nat_eq (map (group_label records) xs) → (g k : ℕ) → In g xs → In k xs → group_label records g ≡ group_label records k
        → g ≡ k
    unfolding IsDistinct
    once_of [] h g k i j e = elim i [ ]
    once_of (x ∷ xs) h g k (inl a) (inl b) e = a ∙ sym b
    once_of (x ∷ xs) h g k (inl a) (inr j) e = absurd (apart_in x xs h.0 k j (ap (group_label records) (sym a) ∙ e))
    once_of (x ∷ xs) h g k (inr i) (inl b) e = absurd (apart_in x xs h.0 g i (ap (group_label records) (sym b) ∙ sym e))
    once_of (x ∷ xs) h g k (inr i) (inr j) e = once_of xs h.1 g k i j e

    apart_all : (x : ℕ) (xs : List ℕ) → ((y : ℕ) → In y xs → group_label records x ≡ group_label records y → ⊥)
        → AllByRecursion (λ y. nat_eq (group_label records x) y ≡ false) (map (group_label records) xs)
    apart_all x [] out = tt
    apart_all x (y ∷ ys) out = (ne_eqb (group_label records x) (group_label records y) (λ e. out y (inl refl) e), apart_all x ys (λ z i e. out z (inr i) e))

    distinct_of : (b f : ℕ) (xs : List ℕ) → IsChain next prev b f xs → ((g k : ℕ) → In g xs → In k xs → group_label records g ≡ group_label records k → g ≡ k)
        → IsDistinct nat_eq (map (group_label records) xs)
    unfolding IsDistinct
    distinct_of b f [] h once = tt
    distinct_of b f (x ∷ xs) h once = (
      apart_all x xs (λ y i e. head_once next x xs h.1 (walk_of_chain next prev x (next x) xs h.3) (subst (λ z. In z xs) (sym (once x y (inl refl) (inr i) e))
          i)),
      distinct_of x (next x) xs h.3 (λ g k i j e. once g k (inr i) (inr j) e),
    )

    module _ (first : ℕ) (is : first ≡ first_link records n) where
      abbrev pub AreIts : List ℕ → Type 0
      AreIts xs = AreGroups records (high records format.groups_file) n first xs

      chain_from : high records format.groups_file ≤ format.most_ids → (xs : List ℕ) → AreIts xs → IsGroupChain records n xs
      chain_from room xs h = record {
        chain = subst (λ f. IsChain next prev format.nil f xs) is (chain_of_line next prev test (high records format.groups_file) room format.nil first xs
            h.line);
        only = λ g i. row_of g (below_in next (λ before x. test x && nat_eq (prev x) before) (high records format.groups_file) room format.nil first xs h.line g
            i) (passes g i);
        filled = λ g i. filled_of g (passes g i);
        once = once_of xs h.types;
      }
        where
          passes : (g : ℕ) → In g xs → test g ≡ true
          passes = test_of_line next prev test (high records format.groups_file) format.nil first xs h.line

      groups_from : (xs : List ℕ) → IsGroupChain records n xs → AreIts xs
      groups_from xs h = record {
        line = line_of_chain next prev test (high records format.groups_file) format.nil first xs
            (subst (λ f. IsChain next prev format.nil f xs) (sym is) h.chain)
            (λ g i. let r = h.only g i in group_low g r.0 r.1)
            (λ g i. let r = h.only g i in test_of g r.0 r.1 r.2 (h.filled g i));
        types = distinct_of format.nil (first_link records n) xs h.chain h.once;
      }

    -- a line is determined
    pub groups_one : (high first : ℕ) → high ≤ format.most_ids → (xs ys : List ℕ) → IsLineIn (group_line n) records high first xs
        → IsLineIn (group_line n) records high first ys → xs ≡ ys
    groups_one high first room xs ys h k = line_one next (λ before x. test x && nat_eq (prev x) before) high format.nil first xs ys room h k

    -- what a walk finds is the one group chain
    pub found_is : (after : Records) (mark first : ℕ) (found : Found) → after ≡ records → mark ≡ high records format.groups_file
        → high records format.groups_file ≤ format.most_ids
        → first ≡ first_link records n → IsDense records n → GroupsFound after mark n first found → FoundIs (IsDense records n) (IsGroupChain records n) found
    found_is after mark first Nothing read is room at dense h = absurd h
    found_is after mark first Missing read is room at dense h = (
      dense,
      λ xs k. subst (λ m. (ys : List ℕ) → ¬ AreGroups records m n first ys) is (subst (λ (r : Records). (ys : List ℕ) → ¬ AreGroups r mark n first ys)
          read h) xs (groups_from first at xs k),
    )
    found_is after mark first (Items v) read is room at dense h =
        let groups = chain_from first at room v.items (subst (λ m. AreGroups records m n first v.items) is
        (subst (λ (r : Records). AreGroups r mark n first v.items) read h)) in
        (dense, groups, (λ xs k. group_chain_one n xs v.items k groups))

  -- ---- what it says that they are seen

  -- a group is in the group chain of its owner alone
  owner_of : (n g : ℕ) → AtHead (IsDense records) (IsGroupChain records) n g → (row : GroupRow) × (group_at records g ≡ Some row) × (row.owner ≡ n)
  owner_of n g a = a.listed.only g a.member

  owner_same : (m n g : ℕ) → AtHead (IsDense records) (IsGroupChain records) m g → AtHead (IsDense records) (IsGroupChain records) n g → m ≡ n
  owner_same m n g a b =
      let h = owner_of m g a in
      let k = owner_of n g b in
      sym h.2 ∙ ap (λ (r : GroupRow). r.owner) (same_group h.0 k.0 (sym h.1 ∙ k.1)) ∙ k.2

  pub never_twice : (n : ℕ) (seen : List Bool) (p : ℕ) → ((q : ℕ) → is_seen seen q ≡ false) → ¬ IsTwice (IsDense records) (IsGroupChain records) n seen p
  never_twice n seen p clear t = ⊎_elim
      (λ (m : is_seen seen p ≡ true). true≢false (sym m ∙ clear p))
      (λ (a : AmongHeads (IsDense records) (IsGroupChain records) t.head p).
      let same = owner_same a.id t.head p a.here t.here in
      let below : a.id < t.head = a.below in
      absurd (omega arith))
      t.before

  pub keeps_of_head : (n : ℕ) → HeadKeeps (IsDense records) (IsGroupChain records) n → OwnerKeeps records n
  keeps_of_head n h = record { groups = h.list }

  pub head_of_keeps : (n : ℕ) → OwnerKeeps records n → HeadKeeps (IsDense records) (IsGroupChain records) n
  head_of_keeps n k = record { list = k.groups }

  module _ (seen : List Bool) (told : (p : ℕ) → Decides (is_seen seen p) (AmongHeads (IsDense records) (IsGroupChain records) (high records format.nodes_file)
      p)) where
    pub member_of_seen : (g : ℕ) → (is_live records format.groups_file g ≡ true → is_seen seen g ≡ true) → HasOwner g
    member_of_seen g h row live =
        let kind = some_row (kind_at records format.groups_file g) (group_in (group_rec g) g) row live in
        let a = (told g).0 (h (ap not (eq_false (kind_at records format.groups_file g) 0 kind.0))) in
        let o = owner_of a.id g a.here in
        let same : a.id ≡ row.owner = sym o.2 ∙ ap (λ (r : GroupRow). r.owner) (same_group o.0 row (sym o.1 ∙ live)) in
        subst (λ m. IsGroupOf records m g) same (record { dense = a.here.must; members = a.here.items; groups = a.here.listed; member = a.here.member })

    pub seen_of_member : (g : ℕ) → MemberKeeps records g → is_live records format.groups_file g ≡ true → is_seen seen g ≡ true
    seen_of_member g k live =
        let row = row_some (kind_at records format.groups_file g) (group_in (group_rec g) g) (used_of_live records format.groups_file g live) in
        let o = k.owner (group_in (group_rec g) g) row in
        let n = field 4 (group_rec g) format.group_owner in
        (told g).1 (record {
          id = n;
          below = kind_below (high records format.nodes_file) (rec_at records format.nodes_file n) n (λ z. let two : 2 ≡ 0 = sym o.dense ∙ z in omega arith);
          here = record { must = o.dense; items = o.members; listed = o.groups; member = o.member };
        })
