-- The heads of a dense node's groups, of which those of a direction and of some types have just the relationships that are met.
use Rattle.std.proofs.Common.{◌≡◌, ◌≢◌, ◌⊎◌, ℕ, zero, suc, nat_eq, Bool, true, false, cond, List, [], ◌∷◌, ◌++◌, map}
use Rattle.std.proofs.Common.{refl, sym, ap, ◌∙◌, subst, inl, inr, ⊎_elim, arith}
use Rattle.std.specs.List.{All, AllPairs, Contains}
use Rattle.std.proofs.lemmas.Bool.{and_parts, eqb-true, or_cases, or_left, or_right, true≢false}
use Rattle.std.proofs.lemmas.List.{map-append}
use Rattle.std.proofs.lemmas.List.Elements.{Contains-append_cases, Contains-append_left, Contains-append_right, Contains-get_or}
use Rattle.std.proofs.lemmas.List.Kept.{AllPairs-cons}
use Rattle.plain_graph.specs.declared.direction.Direction.{Direction}
use Rattle.plain_graph.specs.declared.direction.Direction.TheVariants as directions
use Rattle.rec_bytes.specs.declared.shape.Shape.{Shape}
use Rattle.rec_bytes.specs.Format as format
use Rattle.store_rules.specs.Chains.{In}
use Rattle.store_rules.specs.Properties.{AreOnce}
use Rattle.store_rules.specs.Rules.{GroupHead, HasGroup, Head, IsEnd, IsInGroup, IsWellFormed, first_of}
use Rattle.store_rules.specs.Views as views
use Rattle.store_rules.specs.Views.{Records, RelRow, first_link, group_at, group_in, kind_at, rec_at, rel_at, rel_in}
use Rattle.store_rules.proofs.ChainLaws.{walk_of_chain}
use Rattle.store_rules.proofs.FilledGroups as filled_groups
use Rattle.store_rules.proofs.FilledGroups.{filled_has, owns_chain}
use Rattle.store_rules.proofs.GroupLaws.{IsFirstPlace, same_group}
use Rattle.store_rules.proofs.NumberLaws.{eq_true}
use Rattle.store_rules.proofs.OnceLaws.{once_walk}
use Rattle.store_rules.proofs.ViewLaws.{row_some, some_row}
use Rattle.rel_store.specs.declared.edge_row.EdgeRow.{EdgeRow}
use Rattle.chain_edit.specs.Walking.{edge_at}
use Rattle.group_store.specs.declared.side.Side.{Side}
use Rattle.group_store.specs.declared.side.Side.TheVariants.{Out, In as Into, Loop}
use Rattle.group_store.specs.GroupChain.{IsGroupChain, next_group, type_of}
use Rattle.group_store.specs.Sides.{group_head, place_of, side_at}
use Rattle.group_store.specs.Walking.{group_row_at}
use Rattle.group_store.proofs.ChainHeads.{at_group}
use Rattle.group_store.proofs.GroupRules.{IsGroupChain-HasGroups, row_of_group}
use Rattle.expand.specs.declared.matching.End.TheVariants as ends
use Rattle.expand.specs.declared.first_links.FirstLink.{FirstLink}
use Rattle.expand.specs.FirstLinks.{first_links, first_numbers, first_on, link_on, links_of, numbers_of, sides_of}
use Rattle.expand.specs.Matching.{is_at, is_met, is_met_at, is_wanted}
use Rattle.expand.proofs.ChainRows.{at_met}
use Rattle.expand.proofs.HeadChains.{Own, Stands}
use Rattle.store_rules.proofs.Members.{contains_cases, contains_first, contains_image, contains_later, image_contains, pairs_append, pairs_none}

-- ---- sides

-- the side is one of a direction
abbrev pub IsSideOf : Direction → Side → Type 0
IsSideOf directions.Outgoing Out = Unit {0}
IsSideOf directions.Outgoing Into = ⊥
IsSideOf directions.Outgoing Loop = Unit {0}
IsSideOf directions.Incoming Out = ⊥
IsSideOf directions.Incoming Into = Unit {0}
IsSideOf directions.Incoming Loop = Unit {0}
IsSideOf directions.Both side = Unit {0}

side_in : (direction : Direction) (side : Side) → IsSideOf direction side → Contains (sides_of direction) side
side_in directions.Outgoing Out is = contains_first Out (Loop ∷ [])
side_in directions.Outgoing Loop is = contains_later Out (Loop ∷ []) Loop (contains_first Loop [])
side_in directions.Outgoing Into is = absurd is
side_in directions.Incoming Out is = absurd is
side_in directions.Incoming Into is = contains_first Into (Loop ∷ [])
side_in directions.Incoming Loop is = contains_later Into (Loop ∷ []) Loop (contains_first Loop [])
side_in directions.Both Out is = contains_first Out (Into ∷ Loop ∷ [])
side_in directions.Both Into is = contains_later Out (Into ∷ Loop ∷ []) Into (contains_first Into (Loop ∷ []))
side_in directions.Both Loop is = contains_later Out (Into ∷ Loop ∷ []) Loop (contains_later Into (Loop ∷ []) Loop (contains_first Loop []))

-- what holds of two holds of each
in_two : (P : Side → Type 0) (a b z : Side) → P a → P b → Contains (a ∷ b ∷ []) z → P z
in_two P a b z one other is = ⊎_elim
    (λ (e : z ≡ a). subst P (sym e) one)
    (λ (later : Contains (b ∷ []) z). ⊎_elim (λ (e : z ≡ b). subst P (sym e) other) (λ (none : Contains [] z). absurd (let lt = none.1 in omega arith))
    (contains_cases b [] z later))
    (contains_cases a (b ∷ []) z is)

in_side : (direction : Direction) (side : Side) → Contains (sides_of direction) side → IsSideOf direction side
in_side directions.Outgoing side is = in_two (IsSideOf directions.Outgoing) Out Loop side tt tt is
in_side directions.Incoming side is = in_two (IsSideOf directions.Incoming) Into Loop side tt tt is
in_side directions.Both side is = tt

pub place_is : (side : Side) → IsFirstPlace (place_of side)
place_is Out = inl refl
place_is Into = inr (inl refl)
place_is Loop = inr (inr refl)

side_at_place : (at : ℕ) → IsFirstPlace at → (side : Side) × (at ≡ place_of side)
side_at_place at (inl e) = (Out, e)
side_at_place at (inr (inl e)) = (Into, e)
side_at_place at (inr (inr e)) = (Loop, e)

-- ---- where a relationship stands that is met

-- which direction a relationship of a side has at the node
abbrev IsDirected : ℕ → Side → EdgeRow → Type 0
IsDirected n Out row = row.from ≡ n
IsDirected n Into row = row.to ≡ n
IsDirected n Loop row = (row.from ≡ n) × (row.to ≡ n)

met_from : (labels : List ℕ) (n : ℕ) (row : EdgeRow) → row.from ≡ n → is_wanted labels row.label ≡ true → is_met_at ends.Source labels n row ≡ true
met_from labels n row from wanted = rw (eq_true row.from n from, wanted) refl

met_to : (labels : List ℕ) (n : ℕ) (row : EdgeRow) → row.to ≡ n → is_wanted labels row.label ≡ true → is_met_at ends.Target labels n row ≡ true
met_to labels n row to wanted = rw (eq_true row.to n to, wanted) refl

-- one of these sides and types is met
side_met : (direction : Direction) (side : Side) (labels : List ℕ) (n : ℕ) (row : EdgeRow) → IsSideOf direction side → IsDirected n side row
    → is_wanted labels row.label ≡ true → is_met direction labels n row ≡ true
side_met directions.Outgoing Out labels n row is from wanted = met_from labels n row from wanted
side_met directions.Outgoing Into labels n row is at wanted = absurd is
side_met directions.Outgoing Loop labels n row is at wanted = met_from labels n row at.0 wanted
side_met directions.Incoming Out labels n row is at wanted = absurd is
side_met directions.Incoming Into labels n row is to wanted = met_to labels n row to wanted
side_met directions.Incoming Loop labels n row is at wanted = met_to labels n row at.1 wanted
side_met directions.Both Out labels n row is from wanted = or_left _ _ (met_from labels n row from wanted)
side_met directions.Both Into labels n row is to wanted = or_right _ _ (met_to labels n row to wanted)
side_met directions.Both Loop labels n row is at wanted = or_left _ _ (met_from labels n row at.0 wanted)

-- and what is met has such a type
met_wanted : (direction : Direction) (labels : List ℕ) (n : ℕ) (row : EdgeRow) → is_met direction labels n row ≡ true → is_wanted labels row.label ≡ true
met_wanted directions.Outgoing labels n row is = (and_parts (nat_eq row.from n) (is_wanted labels row.label) is).1
met_wanted directions.Incoming labels n row is = (and_parts (nat_eq row.to n) (is_wanted labels row.label) is).1
met_wanted directions.Both labels n row is = ⊎_elim
    (λ (k : is_met_at ends.Source labels n row ≡ true). (and_parts (nat_eq row.from n) (is_wanted labels row.label) k).1)
    (λ (k : is_met_at ends.Target labels n row ≡ true). (and_parts (nat_eq row.to n) (is_wanted labels row.label) k).1)
    (or_cases (is_met_at ends.Source labels n row) (is_met_at ends.Target labels n row) is)

-- and side
met_side : (direction : Direction) (labels : List ℕ) (n : ℕ) (row : EdgeRow) → is_met direction labels n row ≡ true
    → IsSideOf direction (side_at n row.from row.to)
met_side direction labels n row is = by direction (nat_eq row.from row.to) (nat_eq row.from n) refl refl is
  where
    by : (direction : Direction) (loop out : Bool) → nat_eq row.from row.to ≡ loop → nat_eq row.from n ≡ out → is_met direction labels n row ≡ true
        → IsSideOf direction (cond loop Loop (cond out Out Into))
    by directions.Outgoing true out same leaves met = tt
    by directions.Outgoing false true same leaves met = tt
    by directions.Outgoing false false same leaves met = true≢false (sym (and_parts (nat_eq row.from n) (is_wanted labels row.label) met).0 ∙ leaves)
    by directions.Incoming true out same leaves met = tt
    by directions.Incoming false true same leaves met =
        let from = eqb-true row.from n leaves in
        let to = eqb-true row.to n (and_parts (nat_eq row.to n) (is_wanted labels row.label) met).0 in
        true≢false (sym (eq_true row.from row.to (from ∙ sym to)) ∙ same)
    by directions.Incoming false false same leaves met = tt
    by directions.Both loop out same leaves met = tt

-- what has a side is at the node
directed_at : (side : Side) (n : ℕ) (row : EdgeRow) → IsDirected n side row → is_at n row ≡ true
directed_at Out n row from = or_left _ _ (eq_true row.from n from)
directed_at Into n row to = or_right _ _ (eq_true row.to n to)
directed_at Loop n row at = or_left _ _ (eq_true row.from n at.0)

-- and the node is an end of what is at it
pub end_at : (n : ℕ) (row : EdgeRow) → is_at n row ≡ true → (row.from ≡ n) ⊎ (row.to ≡ n)
end_at n row at = ⊎_elim (λ (from : nat_eq row.from n ≡ true). inl (eqb-true row.from n from)) (λ (to : nat_eq row.to n ≡ true). inr (eqb-true row.to n to))
    (or_cases (nat_eq row.from n) (nat_eq row.to n) at)

-- ---- the heads of groups

-- those of the groups of these types, on the sides of a direction
abbrev pub heads_in : Records → Direction → List ℕ → List ℕ → List Head
heads_in s direction labels [] = []
heads_in s direction labels (g ∷ gs) = cond (is_wanted labels (type_of s g)) (map (group_head g) (sides_of direction)) [] ++ heads_in s direction labels gs

-- their first links are those that the rows of the groups have
pub firsts_are : (s : Records) (direction : Direction) (labels gs : List ℕ)
    → map (first_of s) (heads_in s direction labels gs) ≡ first_numbers direction labels (map (group_row_at s) gs)
firsts_are s direction labels [] = refl
firsts_are s direction labels (g ∷ gs) =
    map-append (first_of s) (cond (is_wanted labels (type_of s g)) (map (group_head g) (sides_of direction)) []) (heads_in s direction labels gs)
    ∙ (λ i. one (is_wanted labels (type_of s g)) i ++ firsts_are s direction labels gs i)
    ∙ sym (map-append (λ (link : FirstLink). link.first) (cond (is_wanted labels (type_of s g)) (links_of direction (group_row_at s g)) [])
    (first_links direction labels (map (group_row_at s) gs)))
  where
    of_side : (side : Side) → first_of s (group_head g side) ≡ first_on (group_row_at s g) side
    of_side Out = refl
    of_side Into = refl
    of_side Loop = refl

    of_sides : (sides : List Side) → map (first_of s) (map (group_head g) sides) ≡ numbers_of (map (link_on (group_row_at s g)) sides)
    of_sides [] = refl
    of_sides (side ∷ sides) = λ i. of_side side i ∷ of_sides sides i

    one : (wanted : Bool) → map (first_of s) (cond wanted (map (group_head g) (sides_of direction)) []) ≡ numbers_of
        (cond wanted (links_of direction (group_row_at s g)) [])
    one true = of_sides (sides_of direction)
    one false = refl

-- a head that is among them
pub record IsGroupHead (s : Records) (direction : Direction) (labels gs : List ℕ) (h : Head) : Type 0 where
  pub group : ℕ
  pub side : Side
  pub member : In group gs
  pub wanted : is_wanted labels (type_of s group) ≡ true
  pub aside : IsSideOf direction side
  pub is : h ≡ group_head group side

head_in : (s : Records) (direction : Direction) (labels gs : List ℕ) (h : Head) → Contains (heads_in s direction labels gs) h
    → IsGroupHead s direction labels gs h
head_in s direction labels [] h (k, lt, is) = absurd (omega arith)
head_in s direction labels (g ∷ gs) h is = ⊎_elim
    (λ (own : Contains (cond (is_wanted labels (type_of s g)) (map (group_head g) (sides_of direction)) []) h). of_one (is_wanted labels (type_of s g))
    refl own)
    (λ (later : Contains (heads_in s direction labels gs) h).
    let k = head_in s direction labels gs h later in
    record { group = k.group; side = k.side; member = inr k.member; wanted = k.wanted; aside = k.aside; is = k.is })
    (Contains-append_cases (cond (is_wanted labels (type_of s g)) (map (group_head g) (sides_of direction)) []) (heads_in s direction labels gs) h is)
  where
    of_one : (wanted : Bool) → is_wanted labels (type_of s g) ≡ wanted → Contains (cond wanted (map (group_head g) (sides_of direction)) []) h
        → IsGroupHead s direction labels (g ∷ gs) h
    of_one false not_wanted (k, lt, e) = absurd (omega arith)
    of_one true wanted own =
        let k = contains_image (group_head g) (sides_of direction) h own in
        record { group = g; side = k.0; member = inl refl; wanted = wanted; aside = in_side direction k.0 k.1; is = k.2 }

in_heads : (s : Records) (direction : Direction) (labels gs : List ℕ) (g : ℕ) (side : Side) → In g gs → is_wanted labels (type_of s g) ≡ true
    → IsSideOf direction side → Contains (heads_in s direction labels gs) (group_head g side)
in_heads s direction labels [] g side i wanted aside = elim i [ ]
in_heads s direction labels (k ∷ gs) g side (inl same) wanted aside =
    Contains-append_left (cond (is_wanted labels (type_of s k)) (map (group_head k) (sides_of direction)) []) (heads_in s direction labels gs)
    (group_head g side)
    (subst (λ b. Contains (cond b (map (group_head k) (sides_of direction)) []) (group_head g side)) (sym (ap (λ z. is_wanted labels (type_of s z)) (sym same)
    ∙ wanted))
    (subst (λ z. Contains (map (group_head z) (sides_of direction)) (group_head g side)) same (image_contains (group_head g) (sides_of direction) side
    (side_in direction side aside))))
in_heads s direction labels (k ∷ gs) g side (inr later) wanted aside =
    Contains-append_right (cond (is_wanted labels (type_of s k)) (map (group_head k) (sides_of direction)) []) (heads_in s direction labels gs)
    (group_head g side)
    (in_heads s direction labels gs g side later wanted aside)

-- no head comes twice
abbrev Differ : Head → Head → Type 0
Differ h k = h ≢ k

pub heads_apart : (s : Records) (direction : Direction) (labels gs : List ℕ) → AreOnce gs → AllPairs Differ (heads_in s direction labels gs)
heads_apart s direction labels [] once = pairs_none Differ
heads_apart s direction labels (g ∷ gs) once =
    pairs_append Differ (cond (is_wanted labels (type_of s g)) (map (group_head g) (sides_of direction)) []) (heads_in s direction labels gs)
    (of_one (is_wanted labels (type_of s g))) (heads_apart s direction labels gs once.1)
    (λ h k here later e.
    let other = head_in s direction labels gs k later in
    let id : h.key.id ≡ g = of_group (is_wanted labels (type_of s g)) h here in
    once.0 (subst (λ z. In z gs) (sym (sym id ∙ ap (λ (z : Head). z.key.id) (e ∙ other.is))) other.member))
  where
    all_cons : (P : Head → Type 0) (x : Head) (xs : List Head) → P x → All P xs → All P (x ∷ xs)
    all_cons P x xs one rest zero d lt = one
    all_cons P x xs one rest (suc k) d lt = rest k d (omega arith)

    all_none : (P : Head → Type 0) → All P []
    all_none P k d lt = absurd (omega arith)

    of_two : (a b : Side) → Differ (group_head g a) (group_head g b) → AllPairs Differ (group_head g a ∷ group_head g b ∷ [])
    of_two a b ne = AllPairs-cons Differ (group_head g a) (group_head g b ∷ [])
        (all_cons (Differ (group_head g a)) (group_head g b) [] ne (all_none (Differ (group_head g a))))
        (AllPairs-cons Differ (group_head g b) [] (all_none (Differ (group_head g b))) (pairs_none Differ))

    of_sides : (direction : Direction) → AllPairs Differ (map (group_head g) (sides_of direction))
    of_sides directions.Outgoing = of_two Out Loop (λ e. let f = ap (λ (h : Head). h.field) e in omega arith)
    of_sides directions.Incoming = of_two Into Loop (λ e. let f = ap (λ (h : Head). h.field) e in omega arith)
    of_sides directions.Both = AllPairs-cons Differ (group_head g Out) (group_head g Into ∷ group_head g Loop ∷ [])
        (all_cons (Differ (group_head g Out)) (group_head g Into) (group_head g Loop ∷ []) (λ e. let f = ap (λ (h : Head). h.field) e in omega arith)
        (all_cons (Differ (group_head g Out)) (group_head g Loop) [] (λ e. let f = ap (λ (h : Head). h.field) e in omega arith)
        (all_none (Differ (group_head g Out)))))
        (of_two Into Loop (λ e. let f = ap (λ (h : Head). h.field) e in omega arith))

    of_one : (wanted : Bool) → AllPairs Differ (cond wanted (map (group_head g) (sides_of direction)) [])
    of_one true = of_sides direction
    of_one false = pairs_none Differ

    of_group : (wanted : Bool) (h : Head) → Contains (cond wanted (map (group_head g) (sides_of direction)) []) h → h.key.id ≡ g
    of_group true h here = ap (λ (z : Head). z.key.id) (contains_image (group_head g) (sides_of direction) h here).2
    of_group false h (k, lt, e) = absurd (omega arith)

-- ---- in a store

module _ (s : Records) (shape : Shape) (store : IsWellFormed s shape) (n : ℕ) (dense : kind_at s format.nodes_file n ≡ format.dense) where
  -- the groups of the node
  abbrev pub groups : List ℕ
  groups = (store.grouped.each n dense).members

  pub chain : IsGroupChain s n groups
  chain = IsGroupChain-HasGroups s shape n store.ranges (store.grouped.each n dense)

  pub groups_once : AreOnce groups
  groups_once = once_walk (next_group s) (first_link s n) groups (walk_of_chain _ _ format.nil (first_link s n) groups chain.chain)

  -- the node owns the heads of its groups
  own_head : (g : ℕ) (side : Side) → In g groups → GroupHead (kind_at s format.nodes_file) (group_at s) (group_head g side) n
  own_head g side i =
      let is = row_of_group s n g (chain.only g i) in
      subst (GroupHead (kind_at s format.nodes_file) (group_at s) (group_head g side)) (chain.only g i).owner
      (owns_chain s store.grouped g (group_in (rec_at s format.groups_file g) g) is (place_of side) (place_is side))

  pub heads_own : (direction : Direction) (labels : List ℕ) → All (Own s shape store n) (heads_in s direction labels groups)
  heads_own direction labels = λ k d lt.
      let h = head_in s direction labels groups _ (Contains-get_or (heads_in s direction labels groups) k d lt) in
      inr (subst (λ z. GroupHead (kind_at s format.nodes_file) (group_at s) z n) (sym h.is) (own_head h.group h.side h.member))

  pub heads_differ : (direction : Direction) (labels : List ℕ) → AllPairs (λ h k. h ≢ k) (heads_in s direction labels groups)
  heads_differ direction labels = heads_apart s direction labels groups groups_once

  -- what stands at a head of a group has its type, and its direction at the node
  pub stands_typed : (g : ℕ) (side : Side) → In g groups → (x : ℕ) → Stands s shape store n (group_head g side) x
      → (kind_at s format.relationships_file x ≢ 0) × ((edge_at s x).label ≡ type_of s g) × IsDirected n side (edge_at s x)
  stands_typed g side i x at =
      let found = some_row (kind_at s format.relationships_file x) (rel_in (rec_at s format.relationships_file x) x) at.row at.live in
      ⊎_elim
      (λ (own : (format.groups_file ≡ format.nodes_file) × IsEnd g at.row). absurd (let e = own.0 in omega arith))
      (λ (other : (format.groups_file ≡ format.groups_file) × IsInGroup (group_at s) (group_head g side) at.row).
      let in_group = other.1 in
      let same : in_group.row ≡ group_in (rec_at s format.groups_file g) g =
      same_group in_group.row (group_in (rec_at s format.groups_file g) g) (sym in_group.group ∙ row_of_group s n g (chain.only g i)) in
      let owner : in_group.row.owner ≡ n = ap (λ (r : views.GroupRow). r.owner) same ∙ (chain.only g i).owner in (
        found.0,
        ap (λ (r : RelRow). r.label) found.1 ∙ in_group.label ∙ ap (λ (r : views.GroupRow). r.label) same,
        directed side at.row in_group.row found.1 owner in_group.side,
      )) at.on
    where
      directed : (side : Side) (row : RelRow) (group : views.GroupRow) → rel_in (rec_at s format.relationships_file x) x ≡ row → group.owner ≡ n
          → ((place_of side ≡ format.group_first_out) × (row.from ≡ group.owner) × (row.to ≢ group.owner))
          ⊎ (((place_of side ≡ format.group_first_in) × (row.from ≢ group.owner) × (row.to ≡ group.owner))
          ⊎ ((place_of side ≡ format.group_first_loop) × (row.from ≡ group.owner) × (row.to ≡ group.owner))) → IsDirected n side (edge_at s x)
      directed Out row group is owner (inl k) = ap (λ (r : RelRow). r.from) is ∙ k.1 ∙ owner
      directed Out row group is owner (inr (inl k)) = absurd (let e = k.0 in omega arith)
      directed Out row group is owner (inr (inr k)) = absurd (let e = k.0 in omega arith)
      directed Into row group is owner (inl k) = absurd (let e = k.0 in omega arith)
      directed Into row group is owner (inr (inl k)) = ap (λ (r : RelRow). r.to) is ∙ k.2 ∙ owner
      directed Into row group is owner (inr (inr k)) = absurd (let e = k.0 in omega arith)
      directed Loop row group is owner (inl k) = absurd (let e = k.0 in omega arith)
      directed Loop row group is owner (inr (inl k)) = absurd (let e = k.0 in omega arith)
      directed Loop row group is owner (inr (inr k)) = (ap (λ (r : RelRow). r.from) is ∙ k.1 ∙ owner, ap (λ (r : RelRow). r.to) is ∙ k.2 ∙ owner)

  -- what stands at a head of theirs is met
  pub only_met : (direction : Direction) (labels : List ℕ) (h : Head) (x : ℕ) → Contains (heads_in s direction labels groups) h → Stands s shape store n h x
      → (kind_at s format.relationships_file x ≢ 0) × (is_met direction labels n (edge_at s x) ≡ true)
  only_met direction labels h x is at =
      let head = head_in s direction labels groups h is in
      let typed = stands_typed head.group head.side head.member x (subst (λ z. Stands s shape store n z x) head.is at) in
      (typed.0, side_met direction head.side labels n (edge_at s x) head.aside typed.2 (ap (is_wanted labels) typed.1 ∙ head.wanted))

  -- a group has a relationship at the node, of its type
  pub has_one : (g : ℕ) → In g groups → (x : ℕ) × (kind_at s format.relationships_file x ≢ 0) × (is_at n (edge_at s x) ≡ true)
      × ((edge_at s x).label ≡ type_of s g)
  has_one g i =
      let filled = ⊎_elim (λ k. k) (λ (k : In g []). elim k [ ]) ((store.grouped.each n dense).filled g i) in
      let one = filled_has s store.grouped g (group_in (rec_at s format.groups_file g) g) (row_of_group s n g (chain.only g i)) s (rel_at s) store.linked.listed
      filled in
      let side = side_at_place one.0 one.2 in
      let typed = stands_typed g side.0 i one.1 (subst (λ place. Stands s shape store n (filled_groups.group_head g place) one.1) side.1 one.3) in
      (one.1, typed.0, directed_at side.0 n (edge_at s one.1) typed.2, typed.1)

  -- a relationship in use at the node has a group
  pub own_group : (x : ℕ) → kind_at s format.relationships_file x ≢ 0 → IsEnd n (rel_in (rec_at s format.relationships_file x) x) → (g : ℕ) × In g groups
      × (type_of s g ≡ (edge_at s x).label)
  own_group x some end =
      let row = rel_in (rec_at s format.relationships_file x) x in
      let has : HasGroup (group_at s) n row.label = store.linked.typed x n row (row_some (kind_at s format.relationships_file x) row some) end dense in
      let found = some_row (kind_at s format.groups_file has.row.id) (group_in (rec_at s format.groups_file has.row.id) has.row.id) has.row has.group in
      (has.row.id, (store.grouped.each n dense).all has.row.id has.row has.group has.owner, ap (λ (r : views.GroupRow). r.label) found.1 ∙ has.label)

  -- and what is met stands at one
  pub all_met : (direction : Direction) (labels : List ℕ) (x : ℕ) → kind_at s format.relationships_file x ≢ 0 → is_met direction labels n (edge_at s x) ≡ true
      → (h : Head) × Contains (heads_in s direction labels groups) h × Stands s shape store n h x
  all_met direction labels x some met =
      let row = rel_in (rec_at s format.relationships_file x) x in
      let end : IsEnd n row = end_at n (edge_at s x) (at_met direction labels n (edge_at s x) met) in
      let own = own_group x some end in
      let side = side_at n row.from row.to in (
        group_head own.0 side,
        in_heads s direction labels groups own.0 side own.1 (ap (is_wanted labels) own.2 ∙ met_wanted direction labels n (edge_at s x) met)
            (met_side direction labels n (edge_at s x) met),
        record {
          row = row;
          live = row_some (kind_at s format.relationships_file x) row some;
          on = (at_group s shape store n own.0 row.label side row (chain.only own.0 own.1) own.2 (record { end = end; typed = refl; aside = refl })).on;
        },
      )
