-- The chains of nodes and of groups as lines.
use Rattle.std.proofs.Common.{◌≡◌, ◌≢◌, ℕ, ◌<◌, ◌≤◌, Bool, true, not, ◌&&◌, List, [], ◌∷◌, Some, map, nat_eq, sym, ap}
use Rattle.std.proofs.Common.{◌∙◌, subst, inl, inr, ⊎_elim, arith, refl}
use Rattle.std.proofs.lemmas.Bool.{and_from, eq-eqb, eqb-true, true≢false}
use Rattle.rec_bytes.specs.declared.record.Rec.{Rec}
use Rattle.rec_bytes.specs.Format as format
use Rattle.rec_bytes.specs.Record.{field}
use Rattle.store_rules.specs.Chains.{In, IsChain, next_in, prev_in}
use Rattle.store_rules.specs.Rules as rules
use Rattle.store_rules.specs.Views.{GroupRow, RelRow, Records, group_at, high, kind_at, rec_at, rel_at, rel_in}
use Rattle.store_rules.proofs.NumberLaws.{and_parts, eq_false, eq_true}
use Rattle.store_rules.proofs.ViewLaws.{kind_below, kind_low, row_some, some_row}
use Rattle.store_rules.specs.Breaking.{IsHeadChain, group_head}
use Rattle.store_rules.proofs.GroupLaws.{IsFirstPlace}
use Rattle.store_rules.proofs.GroupPlaces.{on_place, place_on}
use Rattle.chain_check.specs.declared.chains.Side.{Side}
use Rattle.chain_check.specs.declared.chains.Side.TheVariants.{Any}
use Rattle.record_lists.specs.declared.heads.Found.{Found}
use Rattle.record_lists.specs.declared.heads.Found.TheVariants.{Items, Missing, Nothing}
use Rattle.record_lists.specs.Heads.{FoundIs}
use Rattle.record_lists.specs.Lines.{IsLine, IsLineIn}
use Rattle.chain_check.specs.NodeChains.{AreHeadEnds, AreLineEnds, EndsFound, chain_line, end_of, is_of, is_on, side_at}
use Rattle.record_lists.proofs.LineLaws.{below_in}
use Rattle.chain_check.proofs.SideLaws.{OnSide, on_side, side_from, side_test, side_to}

-- ---- chains and lines

module _ (next prev : ℕ → ℕ) (test : ℕ → Bool) (high : ℕ) where
  abbrev pub fits : ℕ → ℕ → Bool
  fits before x = test x && nat_eq (prev x) before

  pub chain_of_line : high ≤ format.most_ids → (b f : ℕ) (xs : List ℕ) → IsLine next fits high b f xs → IsChain next prev b f xs
  chain_of_line room b f [] h = h
  chain_of_line room b f (x ∷ xs) h =
      let lt : x < high = h.1 in
      (h.0, (λ e. omega arith), eqb-true (prev x) b (and_parts (test x) (nat_eq (prev x) b) h.2).1, chain_of_line room x (next x) xs h.3)

  pub test_of_line : (b f : ℕ) (xs : List ℕ) → IsLine next fits high b f xs → (x : ℕ) → In x xs → test x ≡ true
  test_of_line b f [] h x i = elim i [ ]
  test_of_line b f (y ∷ ys) h x (inl e) = ap test e ∙ (and_parts (test y) (nat_eq (prev y) b) h.2).0
  test_of_line b f (y ∷ ys) h x (inr i) = test_of_line y (next y) ys h.3 x i

  pub line_of_chain : (b f : ℕ) (xs : List ℕ) → IsChain next prev b f xs → ((x : ℕ) → In x xs → x < high) → ((x : ℕ) → In x xs → test x ≡ true)
      → IsLine next fits high b f xs
  line_of_chain b f [] h low ok = h
  line_of_chain b f (x ∷ xs) h low ok = (
    h.0,
    low x (inl refl),
    and_from (test x) (nat_eq (prev x) b) (ok x (inl refl)) (eq-eqb (prev x) b h.2),
    line_of_chain x (next x) xs h.3
        (λ y i. low y (inr i)) (λ y i. ok y (inr i)),
  )

-- a chain is determined
pub chain_one : (next prev : ℕ → ℕ) (b f : ℕ) (xs ys : List ℕ) → IsChain next prev b f xs → IsChain next prev b f ys → xs ≡ ys
chain_one next prev b f [] [] h k = refl
chain_one next prev b f [] (y ∷ ys) h k = absurd (k.1 (sym k.0 ∙ h))
chain_one next prev b f (x ∷ xs) [] h k = absurd (h.1 (sym h.0 ∙ k))
chain_one next prev b f (x ∷ xs) (y ∷ ys) h k =
    let same : y ≡ x = sym k.0 ∙ h.0 in
    ap (λ z. z ∷ xs) (sym same) ∙ ap (λ zs. y ∷ zs) (chain_one next prev y (next y) xs ys (subst (λ z. IsChain next prev z (next z) xs) (sym same) h.3) k.3)

-- ---- the chain at a head

-- just what is on the side of the node is on the head
pub record IsSideOf (records : Records) (head : rules.Head) (n : ℕ) (side : Side) : Type 0 where
  pub to : (row : RelRow) → OnSide side n row → rules.IsOn (group_at records) head row
  pub from : (row : RelRow) → rules.IsOn (group_at records) head row → OnSide side n row

pub node_side : (records : Records) (n : ℕ) → IsSideOf records (rules.node_head n) n Any
node_side records n = record {
  to = λ row end. inl (refl, end);
  from = λ row on. ⊎_elim (λ a. a.1) (λ b. absurd (let e : 1 ≡ 3 = b.0 in omega arith)) on;
}

pub group_side : (records : Records) (g place : ℕ) (row : GroupRow) → group_at records g ≡ Some row → IsFirstPlace place
    → IsSideOf records (group_head g place) row.owner (side_at place row.label)
group_side records g place row live at = record {
  to = λ rel on. let s = side_from place row.label row.owner rel at on in on_place (group_at records) (group_head g place) row refl live rel s.0 s.1;
  from = λ rel on. let s = place_on (group_at records) (group_head g place) row refl live rel on in side_to place row.label row.owner rel s.0 s.1;
}

module _ (records : Records) (head : rules.Head) (n : ℕ) (side : Side) (fit : IsSideOf records head n side) where
  abbrev pub rel_of : ℕ → Rec
  rel_of x = rec_at records format.relationships_file x

  abbrev pub Stands : ℕ → Type 0
  Stands x = rules.StandsAt (rel_at records) (group_at records) head x

  stands_of : (x : ℕ) → x < high records format.relationships_file → is_of side n (rel_of x) ≡ true → Stands x
  stands_of x lt t =
      let both = and_parts (not (nat_eq (field 1 (rel_of x) format.kind) format.free_kind)) (is_on side n (rel_of x)) t in
      let low = kind_low (high records format.relationships_file) (rel_of x) x lt in
      let some : kind_at records format.relationships_file x ≢ 0 = λ e.
      true≢false (sym both.0 ∙ ap not (eq_true (field 1 (rel_of x) format.kind) 0 (sym low ∙ e))) in
      record {
        row = rel_in (rel_of x) x;
        live = row_some (kind_at records format.relationships_file x) (rel_in (rel_of x) x) some;
        on = fit.to (rel_in (rel_of x) x) (on_side n (rel_of x) x side both.1);
      }

  pub stands_low : (x : ℕ) → Stands x → x < high records format.relationships_file
  stands_low x s = kind_below (high records format.relationships_file) (rel_of x) x
      (some_row (kind_at records format.relationships_file x) (rel_in (rel_of x) x) s.row s.live).0

  of_stands : (x : ℕ) → Stands x → is_of side n (rel_of x) ≡ true
  of_stands x s =
      let r = some_row (kind_at records format.relationships_file x) (rel_in (rel_of x) x) s.row s.live in
      let low = kind_low (high records format.relationships_file) (rel_of x) x (stands_low x s) in
      and_from (not (nat_eq (field 1 (rel_of x) format.kind) format.free_kind)) (is_on side n (rel_of x))
      (ap not (eq_false (field 1 (rel_of x) format.kind) 0 (λ e. r.0 (low ∙ e))))
      (side_test n (rel_of x) x side (subst (OnSide side n) (sym r.1) (fit.from s.row s.on)))

  abbrev pub next : ℕ → ℕ
  next x = next_in (rel_of x) n

  abbrev pub prev : ℕ → ℕ
  prev x = prev_in (rel_of x) n

  abbrev pub IsIt : ℕ → List ℕ → Type 0
  IsIt first xs = IsLineIn (chain_line side n) records (high records format.relationships_file) first xs

  pub head_chain : high records format.relationships_file ≤ format.most_ids → (first : ℕ) → first ≡ rules.first_of records head → (xs : List ℕ) → IsIt first xs
      → IsHeadChain records head n xs
  head_chain room first is xs h = record {
    chain = subst (λ f. IsChain next prev format.nil f xs) is (chain_of_line next prev (λ x. is_of side n (rel_of x)) (high records format.relationships_file)
        room format.nil first xs h);
    only = λ x i. stands_of x
        (below_in next (λ before x. is_of side n (rel_of x) && nat_eq (prev x) before) (high records format.relationships_file) room format.nil first xs h x i)
        (test_of_line next prev (λ x. is_of side n (rel_of x)) (high records format.relationships_file) format.nil first xs h x i);
  }

  pub line_of_head : (first : ℕ) → first ≡ rules.first_of records head → (xs : List ℕ) → IsHeadChain records head n xs → IsIt first xs
  line_of_head first is xs h = line_of_chain next prev (λ x. is_of side n (rel_of x)) (high records format.relationships_file) format.nil first xs
      (subst (λ f. IsChain next prev format.nil f xs) (sym is) h.chain) (λ x i. stands_low x (h.only x i)) (λ x i. of_stands x (h.only x i))

  -- what a line of ends says of the head
  pub head_ends : (first : ℕ) (ends : List ℕ) → high records format.relationships_file ≤ format.most_ids → first ≡ rules.first_of records head
      → AreLineEnds records (high records format.relationships_file) side n first ends → AreHeadEnds records head n ends
  head_ends first ends room e h = record { members = h.members; chain = head_chain room first e h.members h.line; are = h.are }

  no_ends : (first : ℕ) → first ≡ rules.first_of records head → ((xs : List ℕ) → ¬ IsIt first xs) → (xs : List ℕ) → ¬ AreHeadEnds records head n xs
  no_ends first e none xs h = none h.members (line_of_head first e h.members h.chain)

module _ (records : Records) (head : rules.Head) (n : ℕ) where
  head_chain_one : (xs ys : List ℕ) → IsHeadChain records head n xs → IsHeadChain records head n ys → xs ≡ ys
  head_chain_one xs ys h k = chain_one (λ x. next_in (rec_at records format.relationships_file x) n)
      (λ x. prev_in (rec_at records format.relationships_file x) n) format.nil (rules.first_of records head) xs ys h.chain k.chain

  ends_one : (xs ys : List ℕ) → AreHeadEnds records head n xs → AreHeadEnds records head n ys → xs ≡ ys
  ends_one xs ys h k = h.are ∙ ap (map (end_of records n)) (head_chain_one h.members k.members h.chain k.chain) ∙ sym k.are

-- what a walk finds is the one list of ends at the head
pub found_is : (records after : Records) (head : rules.Head) (n : ℕ) (side : Side) (mark first : ℕ) (found : Found) → IsSideOf records head n side
    → after ≡ records → mark ≡ high records format.relationships_file → high records format.relationships_file ≤ format.most_ids
    → first ≡ rules.first_of records head
    → (has : Type 0) → has → EndsFound after mark side n first found → FoundIs has (AreHeadEnds records head n) found
found_is records after head n side mark first Nothing fit read is room at has must h = absurd h
found_is records after head n side mark first Missing fit read is room at has must h = (
  must,
  no_ends records head n side fit first at
      (subst (λ m. (xs : List ℕ) → ¬ IsLineIn (chain_line side n) records m first xs) is (subst (λ (r : Records). (xs : List ℕ) → ¬ IsLineIn (chain_line side n)
      r mark first xs) read h)),
)
found_is records after head n side mark first (Items v) fit read is room at has must h =
    let ends = head_ends records head n side fit first v.items room at
    (subst (λ m. AreLineEnds records m side n first v.items) is (subst (λ (r : Records). AreLineEnds r mark side n first v.items) read h)) in
    (must, ends, (λ xs k. ends_one records head n xs v.items k ends))
