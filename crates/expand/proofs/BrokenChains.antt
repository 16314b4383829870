-- What chains of a node or of its groups say is damaged breaks its rule.
use Rattle.std.proofs.Common.{◌≡◌, ◌≢◌, ◌⊎◌, ◌<◌, ◌+◌, ◌-◌, ℕ, nat_eq, Bool, true, false, ◌&&◌, not, cond, List, []}
use Rattle.std.proofs.Common.{◌∷◌, ◌++◌, get_or, length, map, refl, sym, ap, ◌∙◌, subst, inl, inr, ⊎_elim, arith}
use Rattle.std.specs.List.{AllPairs, Contains, list_all, list_any}
use Rattle.std.proofs.lemmas.Bool.{and_parts, eqb-true, or_cases, true≢false}
use Rattle.std.proofs.lemmas.List.{get_or-map, length-append, length-map, map-append}
use Rattle.std.proofs.lemmas.List.Elements.{Contains-append_cases, Contains-get_or}
use Rattle.std.proofs.lemmas.List.Folds.{list_any_at}
use Rattle.plain_graph.specs.declared.direction.Direction.{Direction}
use Rattle.plain_graph.specs.declared.direction.Direction.TheVariants as directions
use Rattle.rec_bytes.specs.declared.damage.Damage.{Damage}
use Rattle.rec_bytes.specs.Format as format
use Rattle.rec_bytes.specs.Space.{State, after_gets}
use Rattle.rec_bytes.specs.declared.fault.Fault.{Fault}
use Rattle.rec_bytes.specs.declared.fault.Fault.TheVariants as faults
use Rattle.store_rules.specs.Breaking as breaking
use Rattle.store_rules.specs.Breaking.{Breaks, GroupKeeps, OwnerKeeps}
use Rattle.store_rules.specs.Breaking.Breaks.{GroupChains, OwnerGroups, WrongMeta}
use Rattle.store_rules.specs.Chains.{In, IsWalk}
use Rattle.store_rules.specs.Properties.{AreOnce}
use Rattle.store_rules.specs.Rules.{GroupHead, IsEnd, IsInGroup, StandsAt, first_of}
use Rattle.store_rules.specs.Views as views
use Rattle.store_rules.specs.Views.{Records, RelRow, first_link, group_at, group_in, high, kind_at, rec_at, rel_at, rel_in}
use Rattle.store_rules.proofs.ChainLaws.{walk_of_chain}
use Rattle.store_rules.proofs.GroupLaws.{same_group}
use Rattle.store_rules.proofs.NumberLaws.{eq_false, eq_true, nat_cases}
use Rattle.store_rules.proofs.OnceLaws.{in_parts, once_both, once_walk}
use Rattle.store_rules.proofs.ViewLaws.{kind_below, some_row}
use Rattle.rel_store.specs.declared.edge_row.EdgeRow.{EdgeRow}
use Rattle.rel_store.specs.Loading.{rel_mark}
use Rattle.chain_edit.specs.Chains.{IsChainFrom, next_of}
use Rattle.chain_edit.specs.Walking.{HasWalked, IsSoundWalk, IsWalkDamage, IsWalkFault, chain_damage, edge_at}
use Rattle.chain_edit.specs.Walking.IsWalkDamage.{HighMark, NoWalk}
use Rattle.chain_edit.proofs.Walks.{mark_then, walk_is}
use Rattle.group_store.proofs.GroupWalks.{records_then}
use Rattle.expand.proofs.ChainWalks.{chain_walk, room_then}
use Rattle.group_store.specs.declared.side.Side.{Side}
use Rattle.group_store.specs.declared.side.Side.TheVariants.{Out, In as Into, Loop}
use Rattle.group_store.specs.GroupChain.{IsGroupOf, next_group, type_of}
use Rattle.group_store.specs.Sides.{group_head, place_of}
use Rattle.group_store.specs.Walking.{group_row_at}
use Rattle.group_store.specs.GroupRecord.{group_key}
use Rattle.group_store.proofs.GroupRecords.{group_below}
use Rattle.group_store.proofs.GroupRules.{list_on, row_of_group}
use Rattle.expand.specs.declared.first_links.FirstLink.{FirstLink}
use Rattle.expand.specs.FirstLinks.{are_twins, belongs, first_links, first_on, have_twins, is_on, link_on, links_of, sides_of}
use Rattle.expand.specs.Matching.{is_wanted}
use Rattle.expand.specs.ExpandFault.{of_fault}
use Rattle.expand.specs.Expanding.{Blames}
use Rattle.expand.specs.Walking.{AreOfGroups, chain_blamed, with_node}
use Rattle.expand.proofs.GroupHeads.{heads_apart, heads_in, place_is}
use Rattle.store_rules.proofs.Members.{contains_first, contains_image, contains_later, length-once_below}

-- ---- sides

out_or_in : (from to : Bool) → (from && not to) ≡ true → (not from && to) ≡ true → ⊥
out_or_in true to h k = true≢false (sym k)
out_or_in false to h k = true≢false (sym h)

out_or_loop : (from to : Bool) → (from && not to) ≡ true → (from && to) ≡ true → ⊥
out_or_loop true true h k = true≢false (sym h)
out_or_loop true false h k = true≢false (sym k)
out_or_loop false to h k = true≢false (sym h)

in_or_loop : (from to : Bool) → (not from && to) ≡ true → (from && to) ≡ true → ⊥
in_or_loop true to h k = true≢false (sym h)
in_or_loop false to h k = true≢false (sym k)

-- a relationship is on one side of a node at most
one_side : (side other : Side) (node : ℕ) (row : EdgeRow) → is_on side node row ≡ true → is_on other node row ≡ true → side ≡ other
one_side Out Out node row h k = refl
one_side Out Into node row h k = absurd (out_or_in (nat_eq row.from node) (nat_eq row.to node) h k)
one_side Out Loop node row h k = absurd (out_or_loop (nat_eq row.from node) (nat_eq row.to node) h k)
one_side Into Out node row h k = absurd (out_or_in (nat_eq row.from node) (nat_eq row.to node) k h)
one_side Into Into node row h k = refl
one_side Into Loop node row h k = absurd (in_or_loop (nat_eq row.from node) (nat_eq row.to node) h k)
one_side Loop Out node row h k = absurd (out_or_loop (nat_eq row.from node) (nat_eq row.to node) k h)
one_side Loop Into node row h k = absurd (in_or_loop (nat_eq row.from node) (nat_eq row.to node) k h)
one_side Loop Loop node row h k = refl

-- ---- the link of a group's chain

-- the link is that of a chain of this group of the node
pub record IsLinkOf (s : Records) (node : ℕ) (gs : List ℕ) (link : FirstLink) : Type 0 where
  pub member : In link.group gs
  pub label : link.label ≡ type_of s link.group
  pub first : link.first ≡ first_of s (group_head link.group link.side)

first_is : (s : Records) (g : ℕ) (side : Side) → first_on (group_row_at s g) side ≡ first_of s (group_head g side)
first_is s g Out = refl
first_is s g Into = refl
first_is s g Loop = refl

pub link_is : (s : Records) (node : ℕ) (direction : Direction) (labels gs : List ℕ) (link : FirstLink)
    → Contains (first_links direction labels (map (group_row_at s) gs)) link → IsLinkOf s node gs link
link_is s node direction labels [] link (k, lt, is) = absurd (omega arith)
link_is s node direction labels (g ∷ gs) link is = ⊎_elim
    (λ (own : Contains (cond (is_wanted labels (type_of s g)) (links_of direction (group_row_at s g)) []) link). of_one (is_wanted labels (type_of s g)) own)
    (λ (later : Contains (first_links direction labels (map (group_row_at s) gs)) link).
    let k = link_is s node direction labels gs link later in
    record { member = inr k.member; label = k.label; first = k.first })
    (Contains-append_cases (cond (is_wanted labels (type_of s g)) (links_of direction (group_row_at s g)) []) (first_links direction labels
    (map (group_row_at s) gs)) link is)
  where
    of_side : (side : Side) → link ≡ link_on (group_row_at s g) side → IsLinkOf s node (g ∷ gs) link
    of_side side is = record {
      member = inl (ap (λ (l : FirstLink). l.group) is);
      label = ap (λ (l : FirstLink). l.label) is ∙ ap (type_of s) (sym (ap (λ (l : FirstLink). l.group) is));
      first = ap (λ (l : FirstLink). l.first) is ∙ first_is s g side ∙ (λ i. first_of s (group_head (sym (ap (λ (l : FirstLink). l.group) is) i)
          (sym (ap (λ (l : FirstLink). l.side) is) i)));
    }

    of_one : (wanted : Bool) → Contains (cond wanted (links_of direction (group_row_at s g)) []) link → IsLinkOf s node (g ∷ gs) link
    of_one false (k, lt, e) = absurd (omega arith)
    of_one true own = let k = contains_image (link_on (group_row_at s g)) (sides_of direction) link own in of_side k.0 k.2

-- what passes a test of some is among them
any_contains : {X : Type 0} (p : X → Bool) (xs : List X) → list_any p xs ≡ true → (x : X) × Contains xs x × (p x ≡ true)
any_contains p [] h = absurd (true≢false (sym h))
any_contains p (x ∷ xs) h = ⊎_elim
    (λ (one : p x ≡ true). (x, contains_first x xs, one))
    (λ (later : list_any p xs ≡ true). let k = any_contains p xs later in (k.0, contains_later x xs k.0 k.1, k.2))
    (or_cases (p x) (list_any p xs) h)

-- ---- the heads of the links

heads_are : (s : Records) (direction : Direction) (labels gs : List ℕ) → map (λ (link : FirstLink). group_head link.group link.side)
    (first_links direction labels (map (group_row_at s) gs)) ≡ heads_in s direction labels gs
heads_are s direction labels [] = refl
heads_are s direction labels (g ∷ gs) =
    map-append (λ (link : FirstLink). group_head link.group link.side) (cond (is_wanted labels (type_of s g)) (links_of direction (group_row_at s g)) [])
    (first_links direction labels (map (group_row_at s) gs))
    ∙ (λ i. one (is_wanted labels (type_of s g)) direction i ++ heads_are s direction labels gs i)
  where
    one : (wanted : Bool) (direction : Direction) → map (λ (link : FirstLink). group_head link.group link.side)
        (cond wanted (links_of direction (group_row_at s g)) []) ≡ cond wanted (map (group_head g) (sides_of direction)) []
    one true directions.Outgoing = refl
    one true directions.Incoming = refl
    one true directions.Both = refl
    one false direction = refl

-- two links of different types or sides
abbrev pub AreApart : FirstLink → FirstLink → Type 0
AreApart link other = (link.label ≡ other.label) → (link.side ≡ other.side) → ⊥

-- no twins: two links of one type and side are one
apart : (links : List FirstLink) → have_twins links ≡ false → (i j : ℕ) (d : FirstLink) → i < length links → j < length links
    → group_head (get_or links i d).group (get_or links i d).side ≢ group_head (get_or links j d).group (get_or links j d).side
    → AreApart (get_or links i d) (get_or links j d)
apart links none i j d low lower ne label side =
    let link = get_or links i d in
    let other = get_or links j d in
    ⊎_elim
    (λ (same : other.group ≡ link.group). ne (λ k. group_head (sym same k) (side k)))
    (λ (differ : other.group ≢ link.group).
    true≢false (sym (list_any_at (λ (l : FirstLink). list_any (are_twins l) links) links i d low
    (list_any_at (are_twins link) links j d lower (rw (eq_true other.label link.label (sym label), eq_false other.group link.group differ) refl))) ∙ none))
    (nat_cases other.group link.group)

-- two links that are twins
record AreTwo (links : List FirstLink) : Type 0 where
  link : FirstLink
  other : FirstLink
  has : Contains links link
  has_other : Contains links other
  same : other.label ≡ link.label
  differ : other.group ≢ link.group

twins_of : (links : List FirstLink) → have_twins links ≡ true → AreTwo links
twins_of links twins =
    let outer = any_contains (λ (l : FirstLink). list_any (are_twins l) links) links twins in
    let inner = any_contains (are_twins outer.0) links outer.2 in
    let both = and_parts (nat_eq inner.0.label outer.0.label) (not (nat_eq inner.0.group outer.0.group)) inner.2 in
    record {
      link = outer.0;
      other = inner.0;
      has = outer.1;
      has_other = inner.1;
      same = eqb-true inner.0.label outer.0.label both.0;
      differ = λ e. true≢false
          (sym both.1 ∙ ap not (eq_true inner.0.group outer.0.group e));
    }

-- ---- a dense node and links of its groups

module _ (s : State) (node : ℕ) (links : List FirstLink) (of : AreOfGroups s node links) where
  abbrev gs : List ℕ
  gs = of.listed.members

  are_links : links ≡ first_links of.direction of.labels (map (group_row_at s.records) gs)
  are_links = of.are ∙ ap (first_links of.direction of.labels) of.listed.are

  pub link_of : (link : FirstLink) → Contains links link → IsLinkOf s.records node gs link
  link_of link is = link_is s.records node of.direction of.labels gs link (subst (λ ls. Contains ls link) are_links is)

  once_groups : AreOnce gs
  once_groups = once_walk (next_group s.records) (first_link s.records node) gs of.listed.list.walk

  -- without twins, no two links are of one type and side
  pub all_apart : have_twins links ≡ false → AllPairs AreApart links
  all_apart none i j d lt low =
      let heads = heads_apart s.records of.direction of.labels gs once_groups in
      let f = λ (link : FirstLink). group_head link.group link.side in
      let long : length (heads_in s.records of.direction of.labels gs) ≡ length links = ap length (sym (heads_are s.records of.direction of.labels gs))
      ∙ length-map (first_links of.direction of.labels (map (group_row_at s.records) gs)) f ∙ ap length (sym are_links) in
      let same : (k : ℕ) → k < length links → get_or (heads_in s.records of.direction of.labels gs) k (f d) ≡ f (get_or links k d) = λ k below.
      ap (λ hs. get_or hs k (f d)) (sym (heads_are s.records of.direction of.labels gs))
      ∙ get_or-map f (first_links of.direction of.labels (map (group_row_at s.records) gs)) k d (f d) (let e = ap length are_links in omega arith)
      ∙ ap (λ ls. f (get_or ls k d)) (sym are_links) in
      apart links none i j d (omega arith) low (λ e. heads i j (f d) lt (omega arith) (same i (omega arith) ∙ e ∙ sym (same j low)))

  -- with twins, the node breaks the fourth rule
  pub twins_break : have_twins links ≡ true → Breaks s.records s.shape (breaking.damage format.nodes_file node 4)
  twins_break twins = OwnerGroups node below broken
    where
      below : node < high s.records format.nodes_file
      below = kind_below (high s.records format.nodes_file) (rec_at s.records format.nodes_file node) node (λ free. let e = of.dense in omega arith)

      broken : ¬ OwnerKeeps s.records node
      broken keeps =
          let chain = keeps.groups of.dense in
          let two = twins_of links twins in
          let one = link_of two.link two.has in
          let other = link_of two.other two.has_other in
          let all : chain.0 ≡ gs = walk_is (next_group s.records) (first_link s.records node) chain.0 gs
          (walk_of_chain _ _ format.nil (first_link s.records node) chain.0 chain.1.chain) of.listed.list.walk in
          two.differ (chain.1.once two.other.group two.link.group (subst (In two.other.group) (sym all) other.member) (subst (In two.link.group) (sym all)
          one.member)
          (sym other.label ∙ two.same ∙ one.label))

  module _ (link : FirstLink) (is : Contains links link) where
    group_is : IsGroupOf s.records node link.group
    group_is = of.listed.list.only link.group (link_of link is).member

    pub owned : GroupHead (kind_at s.records format.nodes_file) (group_at s.records) (group_head link.group link.side) node
    owned = record {
      dense = of.dense;
      row = group_in (rec_at s.records format.groups_file link.group) link.group;
      group = row_of_group s.records node link.group group_is;
      owner = group_is.owner;
      key = refl;
      field = place_is link.side;
    }

    -- what stands at its head belongs into the chain
    pub stands_belongs : (x : ℕ) → StandsAt (rel_at s.records) (group_at s.records) (group_head link.group link.side) x
        → belongs link node (edge_at s.records x) ≡ true
    stands_belongs x at =
        let found = some_row (kind_at s.records format.relationships_file x) (rel_in (rec_at s.records format.relationships_file x) x) at.row at.live in
        ⊎_elim
        (λ (own : (format.groups_file ≡ format.nodes_file) × IsEnd link.group at.row). absurd (let e = own.0 in omega arith))
        (λ (other : (format.groups_file ≡ format.groups_file) × IsInGroup (group_at s.records) (group_head link.group link.side) at.row).
        let in_group = other.1 in
        let same : in_group.row ≡ group_in (rec_at s.records format.groups_file link.group) link.group =
        same_group in_group.row (group_in (rec_at s.records format.groups_file link.group) link.group)
        (sym in_group.group ∙ row_of_group s.records node link.group group_is) in
        let owner : in_group.row.owner ≡ node = ap (λ (r : views.GroupRow). r.owner) same ∙ group_is.owner in
        let label : (edge_at s.records x).label ≡ link.label = ap (λ (r : RelRow). r.label) found.1 ∙ in_group.label ∙ ap (λ (r : views.GroupRow). r.label) same
        ∙ sym (link_of link is).label in
        rw (eq_true (edge_at s.records x).label link.label label) (placed link.side at.row in_group.row found.1 owner in_group.side)) at.on
      where
        placed : (side : Side) (row : RelRow) (group : views.GroupRow) → rel_in (rec_at s.records format.relationships_file x) x ≡ row → group.owner ≡ node
            → ((place_of side ≡ format.group_first_out) × (row.from ≡ group.owner) × (row.to ≢ group.owner))
            ⊎ (((place_of side ≡ format.group_first_in) × (row.from ≢ group.owner) × (row.to ≡ group.owner))
            ⊎ ((place_of side ≡ format.group_first_loop) × (row.from ≡ group.owner) × (row.to ≡ group.owner))) → is_on side node (edge_at s.records x) ≡ true
        placed Out row group is owner (inl k) = rw (
          eq_true (edge_at s.records x).from node (ap (λ (r : RelRow). r.from) is ∙ k.1 ∙ owner),
          eq_false
              (edge_at s.records x).to node (λ e. k.2 (sym (ap (λ (r : RelRow). r.to) is) ∙ e ∙ sym owner)),
        ) refl
        placed Out row group is owner (inr (inl k)) = absurd (let e = k.0 in omega arith)
        placed Out row group is owner (inr (inr k)) = absurd (let e = k.0 in omega arith)
        placed Into row group is owner (inl k) = absurd (let e = k.0 in omega arith)
        placed Into row group is owner (inr (inl k)) = rw (
          eq_false (edge_at s.records x).from node (λ e. k.1 (sym (ap (λ (r : RelRow). r.from) is) ∙ e
              ∙ sym owner)),
          eq_true (edge_at s.records x).to node (ap (λ (r : RelRow). r.to) is ∙ k.2 ∙ owner),
        ) refl
        placed Into row group is owner (inr (inr k)) = absurd (let e = k.0 in omega arith)
        placed Loop row group is owner (inl k) = absurd (let e = k.0 in omega arith)
        placed Loop row group is owner (inr (inl k)) = absurd (let e = k.0 in omega arith)
        placed Loop row group is owner (inr (inr k)) = rw (
          eq_true (edge_at s.records x).from node (ap (λ (r : RelRow). r.from) is ∙ k.1 ∙ owner),
          eq_true
              (edge_at s.records x).to node (ap (λ (r : RelRow). r.to) is ∙ k.2 ∙ owner),
        ) refl

    -- a chain that is right: it begins at the link, and has what belongs there
    pub record IsRightChain : Type 0 where
      pub members : List ℕ
      pub chain : IsChainFrom s.records node link.first members
      pub low : (x : ℕ) → In x members → x < rel_mark s
      pub belong : (x : ℕ) → In x members → belongs link node (edge_at s.records x) ≡ true

    pub right_chain : GroupKeeps s.records link.group → IsRightChain
    right_chain keeps =
        let chain = keeps.chains (place_of link.side) node owned in
        record {
          members = chain.0;
          chain = subst (λ f. IsChainFrom s.records node f chain.0) (sym (link_of link is).first) chain.1.chain;
          low = λ x i. kind_below (rel_mark s) (rec_at s.records format.relationships_file x) x
              (some_row (kind_at s.records format.relationships_file x) (rel_in (rec_at s.records format.relationships_file x) x) (chain.1.only x i).row
              (chain.1.only x i).live).0;
          belong = λ x i. stands_belongs x (chain.1.only x i);
        }

    -- so a group without such a chain breaks the third rule
    pub chains_break : (IsRightChain → ⊥) → Breaks s.records s.shape (breaking.damage format.groups_file link.group 3)
    chains_break none = GroupChains link.group (group_below s.records node link.group group_is)
        (node, list_on s.records node gs of.dense of.listed.list link.group (link_of link is).member) (λ keeps. none (right_chain keeps))

-- ---- what was met, by the links

-- a link that is none's
abbrev pub no_link : FirstLink
no_link = record { group = 0; label = 0; side = Out; first = 0 }

-- Of each relationship that was met, the link before this place where it belongs. Where no two
-- links are of one type and side, none was met twice.
pub record HaveStood (s : State) (node : ℕ) (links : List FirstLink) (at : ℕ) (d : FirstLink) (rows : List EdgeRow) : Type 0 where
  pub members : List ℕ
  pub are : rows ≡ map (edge_at s.records) members
  pub low : (x : ℕ) → In x members → x < rel_mark s
  pub only : (x : ℕ) → In x members → (j : ℕ) × (j < at) × (belongs (get_or links j d) node (edge_at s.records x) ≡ true)
  pub once : AllPairs AreApart links → AreOnce members

pub none_stood : (s : State) (node : ℕ) (links : List FirstLink) (d : FirstLink) → HaveStood s node links 0 d []
none_stood s node links d = record { members = []; are = refl; low = λ x i. elim i [ ]; only = λ x i. elim i [ ]; once = λ apart. tt }

all_pass : (p : EdgeRow → Bool) (f : ℕ → EdgeRow) (xs : List ℕ) → list_all p (map f xs) ≡ true → (x : ℕ) → In x xs → p (f x) ≡ true
all_pass p f [] all x i = elim i [ ]
all_pass p f (y ∷ ys) all x (inl e) = ap (λ z. p (f z)) e ∙ (and_parts (p (f y)) (list_all p (map f ys)) all).0
all_pass p f (y ∷ ys) all x (inr i) = all_pass p f ys (and_parts (p (f y)) (list_all p (map f ys)) all).1 x i

pass_all : (p : EdgeRow → Bool) (f : ℕ → EdgeRow) (xs : List ℕ) → ((x : ℕ) → In x xs → p (f x) ≡ true) → list_all p (map f xs) ≡ true
pass_all p f [] each = refl
pass_all p f (y ∷ ys) each = rw (each y (inl refl)) (pass_all p f ys (λ x i. each x (inr i)))

-- what belongs at two links makes them of one type and side
same_place : (link other : FirstLink) (node : ℕ) (row : EdgeRow) → belongs link node row ≡ true → belongs other node row ≡ true → (link.label ≡ other.label)
    × (link.side ≡ other.side)
same_place link other node row one two =
    let a = and_parts (nat_eq row.label link.label) (is_on link.side node row) one in
    let b = and_parts (nat_eq row.label other.label) (is_on other.side node row) two in
    (sym (eqb-true row.label link.label a.0) ∙ eqb-true row.label other.label b.0, one_side link.side other.side node row a.1 b.1)

module _ (s now : State) (n node at budget : ℕ) (links : List FirstLink) (d : FirstLink) (reads : now ≡ after_gets n s) (low : at < length links) where
  abbrev here : FirstLink
  here = get_or links at d

  -- ---- one chain more

  module _ (chain : List EdgeRow) (walked : HasWalked now here.first node budget chain) where
    walk_then : IsWalk (next_of s.records node) here.first walked.members
    walk_then = chain_walk s.records node here.first walked.members (subst (λ (r : Records). IsChainFrom r node here.first walked.members)
        (records_then s now n reads) walked.sound.chain)

    rows_then : chain ≡ map (edge_at s.records) walked.members
    rows_then = walked.are ∙ ap (λ (r : Records). map (edge_at r) walked.members) (records_then s now n reads)

    pub more_stood : (rows : List EdgeRow) → list_all (belongs here node) chain ≡ true → HaveStood s node links at d rows
        → HaveStood s node links (at + 1) d (rows ++ chain)
    more_stood rows all stood =
        let belong = all_pass (belongs here node) (edge_at s.records) walked.members (ap (list_all (belongs here node)) (sym rows_then) ∙ all) in
        record {
          members = stood.members ++ walked.members;
          are = (λ i. stood.are i ++ rows_then i) ∙ sym (map-append (edge_at s.records) stood.members walked.members);
          low = λ x i. ⊎_elim (λ j. stood.low x j) (λ j. let lt = walked.sound.low x j in let same = mark_then s now n reads in omega arith)
              (in_parts x stood.members walked.members i);
          only = λ x i. ⊎_elim
              (λ j. let k = stood.only x j in (k.0, (let lt = k.1 in omega arith), k.2))
              (λ j. (at, (omega arith), belong x j)) (in_parts x stood.members walked.members i);
          once = λ apart. once_both stood.members walked.members (stood.once apart) (once_walk (next_of s.records node) here.first walked.members walk_then)
              (λ x i j.
              let k = stood.only x i in
              let same = same_place (get_or links k.0 d) here node (edge_at s.records x) k.2 (belong x j) in
              apart k.0 at d k.1 low same.0 same.1);
        }

    -- a chain with what doesn't belong there
    pub stray_breaks : (of : AreOfGroups s node links) → list_all (belongs here node) chain ≡ false
        → Breaks s.records s.shape (breaking.damage format.groups_file here.group 3)
    stray_breaks of stray = chains_break s node links of here (Contains-get_or links at d low) (λ right.
        let same = walk_is (next_of s.records node) here.first right.members walked.members (chain_walk s.records node here.first right.members right.chain)
        walk_then in
        true≢false (sym (pass_all (belongs here node) (edge_at s.records) right.members right.belong) ∙ ap (λ xs. list_all (belongs here node)
        (map (edge_at s.records) xs)) same
        ∙ ap (list_all (belongs here node)) (sym rows_then) ∙ stray))

  -- ---- a chain that leads nowhere

  module _ (of : AreOfGroups s node links) (rows : List EdgeRow) (is : budget ≡ rel_mark s - length rows) (stood : HaveStood s node links at d rows) where
    -- where the group is right and there are no twins, its chain ends within what is left of the mark
    within : AllPairs AreApart links → (right : IsRightChain s node links of here (Contains-get_or links at d low))
        → IsSoundWalk now here.first node budget right.members
    within apart right = record {
      chain = subst (λ (r : Records). IsChainFrom r node here.first right.members) (sym (records_then s now n reads)) right.chain;
      few =
          let once = once_both stood.members right.members (stood.once apart)
          (once_walk (next_of s.records node) here.first right.members (chain_walk s.records node here.first right.members right.chain)) (λ x i j.
          let k = stood.only x i in
          let same = same_place (get_or links k.0 d) here node (edge_at s.records x) k.2 (right.belong x j) in
          apart k.0 at d k.1 low same.0 same.1) in
          let few = length-once_below (stood.members ++ right.members) (rel_mark s) once
          (λ x i. ⊎_elim (λ j. stood.low x j) (λ j. right.low x j) (in_parts x stood.members right.members i)) in
          let long = length-append stood.members right.members in
          let count = ap length stood.are ∙ length-map stood.members (edge_at s.records) in
          omega arith;
      low = λ x i. let lt = right.low x i in let same = mark_then s now n reads in omega arith;
    }

    pub walk_breaks : (fault : Fault) → IsWalkFault now (group_key here.group) here.first node budget fault
        → Blames s (of_fault (with_node node (have_twins links) fault))
    walk_breaks faults.Memory told = tt
    walk_breaks faults.Disk told = tt
    walk_breaks (faults.Damaged damage) told = by damage told
      where
        of_twins : (twins : Bool) → have_twins links ≡ twins → ((xs : List ℕ) → ¬ IsSoundWalk now here.first node budget xs)
            → Breaks s.records s.shape (chain_blamed node twins (chain_damage (group_key here.group)))
        of_twins true twins none = twins_break s node links of twins
        of_twins false twins none = chains_break s node links of here (Contains-get_or links at d low)
            (λ right. none right.members (within (all_apart s node links of twins) right))

        by : (damage : Damage) → IsWalkDamage now (group_key here.group) here.first node budget damage
            → Breaks s.records s.shape (chain_blamed node (have_twins links) damage)
        by damage (NoWalk none) = of_twins (have_twins links) refl none
        by damage (HighMark above) = WrongMeta format.relationships_file (omega arith)
            (λ meta. let right = meta.high in let mark = mark_then s now n reads in let room = room_then s now n reads in omega arith)
