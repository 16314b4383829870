-- The rows that the chain of a node lists are a part of all rows.
use Rattle.std.proofs.Common.{◌≡◌, ◌≢◌, ◌<◌, ◌≤◌, ℕ, nat_eq, Bool, true, Some, List, length, map, inl, inr, refl, sym, ap, ◌∙◌, subst, ⊎_elim, arith}
use Rattle.std.specs.Cmp.{IsEquivalence}
use Rattle.std.specs.List.{AllPairs, Contains, filter}
use Rattle.std.proofs.lemmas.Bool.{and_parts, eqb-true, or_cases, or_left, or_right}
use Rattle.std.proofs.lemmas.List.Folds.{Any-from_list_any, list_any-from_Any}
use Rattle.std.proofs.lemmas.Map.Keys.{IsDistinct-from_apart}
use Rattle.std.proofs.lemmas.Map.Made.{length-le_from_is_member}
use Rattle.plain_graph.specs.declared.direction.Direction.{Direction}
use Rattle.plain_graph.specs.declared.direction.Direction.TheVariants as directions
use Rattle.rec_bytes.specs.declared.shape.Shape.{Shape}
use Rattle.rec_bytes.specs.Format as format
use Rattle.store_rules.specs.Chains.{In, IsWalk}
use Rattle.store_rules.specs.Properties.{AreOnce}
use Rattle.store_rules.specs.Rules.{IsEnd, IsInGroup, IsListed, IsWellFormed, StandsAt, node_head}
use Rattle.store_rules.specs.Views.{Records, RelRow, first_link, group_at, high, kind_at, rec_at, rel_at, rel_in}
use Rattle.store_rules.proofs.ChainLaws.{walk_of_chain}
use Rattle.store_rules.proofs.NumberLaws.{eq_false, eq_true}
use Rattle.store_rules.proofs.OnceLaws.{once_walk}
use Rattle.store_rules.proofs.ViewLaws.{kind_below, row_some, some_row}
use Rattle.rel_store.specs.declared.edge_row.EdgeRow.{EdgeRow}
use Rattle.chain_edit.specs.Chains.{IsChainFrom, next_of}
use Rattle.chain_edit.specs.Walking.{edge_at}
use Rattle.expand.specs.declared.matching.End.TheVariants as ends
use Rattle.expand.specs.Expanding.{edge_row_at, rows_of}
use Rattle.expand.specs.Matching.{IsPart, id_of, is_at, is_met, is_met_at, is_wanted}
use Rattle.expand.proofs.Ascending.{Differs, flips, same_id}
use Rattle.store_rules.proofs.Members.{ascends_collect, collect_contains, contains_collect, contains_map, filter_contains, map_contains, pairs_map, pairs_once}

-- the rows of relationships in use, none of which comes twice, with all that pass a test among them
pub rows_part : (s : Records) (test : EdgeRow → Bool) (xs : List ℕ) → AreOnce xs → ((x : ℕ) → In x xs → kind_at s format.relationships_file x ≢ 0)
    → ((x : ℕ) → kind_at s format.relationships_file x ≢ 0 → test (edge_at s x) ≡ true → In x xs) → IsPart test (map (edge_at s) xs) (rows_of s)
rows_part s test xs once live all = record {
  ascends = ascends_collect id_of (edge_row_at s) (high s format.relationships_file)
      (λ x row is. ap id_of (sym (some_row (kind_at s format.relationships_file x) (edge_at s x) row is).1));
  distinct = pairs_map Differs (edge_at s) xs (pairs_once (λ x y. x ≢ y) xs once (λ x y i j ne. ne));
  only = λ row is.
      let found = contains_map (edge_at s) xs row is in
      let some = live found.0 found.1 in
      collect_contains (edge_row_at s) (high s format.relationships_file) found.0 row
      (kind_below (high s format.relationships_file) (rec_at s format.relationships_file found.0) found.0 some)
      (row_some (kind_at s format.relationships_file found.0) (edge_at s found.0) some ∙ ap (λ (r : EdgeRow). Some r) (sym found.2));
  all = λ row is passes.
      let found = contains_collect (edge_row_at s) (high s format.relationships_file) row is in
      let has = some_row (kind_at s format.relationships_file found.0) (edge_at s found.0) row found.2 in
      subst (Contains (map (edge_at s) xs)) has.1 (map_contains (edge_at s) xs found.0 (all found.0 has.0 (subst (λ (r : EdgeRow). test r ≡ true) (sym has.1)
      passes)));
}

module _ (s : Records) (shape : Shape) (store : IsWellFormed s shape) (n : ℕ) (sparse : kind_at s format.nodes_file n ≡ format.sparse) where
  -- the head of the node lists what stands at it
  pub listed : IsListed s (node_head n) n (StandsAt (rel_at s) (group_at s) (node_head n))
  listed = store.linked.listed.each (node_head n) n (inl (record { sparse = sparse; is = refl }))

  -- the relationships of the node's chain
  abbrev pub members : List ℕ
  members = listed.members

  -- the links of the node lead through just these
  pub chained : IsChainFrom s n (first_link s n) members
  chained = listed.chain

  pub walk : IsWalk (next_of s n) (first_link s n) members
  walk = walk_of_chain _ _ format.nil (first_link s n) listed.members listed.chain

  -- each is in use, and the node is one of its ends
  pub live : (x : ℕ) → In x members → kind_at s format.relationships_file x ≢ 0
  live x i = let at = listed.only x i in (some_row (kind_at s format.relationships_file x) (rel_in (rec_at s format.relationships_file x) x) at.row at.live).0

  -- each is below the mark
  pub low : (x : ℕ) → In x members → x < high s format.relationships_file
  low x i = kind_below (high s format.relationships_file) (rec_at s format.relationships_file x) x (live x i)

  -- the node is an end of each, as its row says
  pub at_node : (x : ℕ) → In x members → is_at n (edge_at s x) ≡ true
  at_node x i =
      let at = listed.only x i in
      let row = (some_row (kind_at s format.relationships_file x) (rel_in (rec_at s format.relationships_file x) x) at.row at.live).1 in
      ⊎_elim (λ (own : (format.nodes_file ≡ format.nodes_file) × IsEnd n at.row). end_at at.row row own.1)
      (λ (other : (format.nodes_file ≡ format.groups_file) × IsInGroup (group_at s) (node_head n) at.row). absurd (let e = other.0 in omega arith)) at.on
    where
      end_at : (row : RelRow) → rel_in (rec_at s format.relationships_file x) x ≡ row → IsEnd n row → is_at n (edge_at s x) ≡ true
      end_at row is (inl from) = or_left _ _ (eq_true _ _ (ap (λ (r : RelRow). r.from) is ∙ from))
      end_at row is (inr to) = or_right _ _ (eq_true _ _ (ap (λ (r : RelRow). r.to) is ∙ to))

  -- each relationship in use at the node is among them
  pub all : (x : ℕ) → kind_at s format.relationships_file x ≢ 0 → is_at n (edge_at s x) ≡ true → In x members
  all x some at =
      let row = rel_in (rec_at s format.relationships_file x) x in
      let end : IsEnd n row = ⊎_elim (λ (from : nat_eq row.from n ≡ true). inl (eqb-true row.from n from))
      (λ (to : nat_eq row.to n ≡ true). inr (eqb-true row.to n to)) (or_cases (nat_eq row.from n) (nat_eq row.to n) at) in
      listed.all x (record { row = row; live = row_some (kind_at s format.relationships_file x) row some; on = inl (refl, end) })

  -- so their rows are a part of all
  pub part : IsPart (is_at n) (map (edge_at s) members) (rows_of s)
  part = rows_part s (is_at n) members (once_walk (next_of s n) (first_link s n) members walk) live all

-- ---- as many as the degree

-- identifiers tell rows apart as numbers do
same_id_laws : IsEquivalence same_id
same_id_laws = record {
  refl = λ a. eq_true _ _ refl;
  symm = flips;
  congr = λ a b c same. ap (λ id. nat_eq id (id_of c)) (eqb-true _ _ same);
}

-- rows that pass a test are no more than all that do
pub length-part : (wide test : EdgeRow → Bool) (rows edges : List EdgeRow) → IsPart wide rows edges → ((row : EdgeRow) → Contains rows row → test row ≡ true)
    → length rows ≤ length (filter test edges)
length-part wide test rows edges part passes =
    length-le_from_is_member same_id_laws rows (filter test edges) (IsDistinct-from_apart same_id rows (λ i j d lt low. eq_false _ _
    (part.distinct i j d lt low))) (λ q is.
    let found = Any-from_list_any (same_id q) rows is in
    let member : Contains rows found.1 = (found.0, found.2, found.3) in
    let kept = filter_contains test edges found.1 (part.only found.1 member) (passes found.1 member) in
    list_any-from_Any (same_id q) (filter test edges) (kept.0, found.1, kept.1, kept.2, found.4))

-- rows of which none comes twice are no more than those that have them all
pub length-members : (rows others : List EdgeRow) → AllPairs (λ a b. id_of a < id_of b) rows → ((row : EdgeRow) → Contains rows row → Contains others row)
    → length rows ≤ length others
length-members rows others up within =
    length-le_from_is_member same_id_laws rows others (IsDistinct-from_apart same_id rows (λ i j d lt low. eq_false _ _ (let l = up i j d lt low in λ e. omega
    (arith, l, e)))) (λ q is.
    let found = Any-from_list_any (same_id q) rows is in
    let kept = within found.1 (found.0, found.2, found.3) in
    list_any-from_Any (same_id q) others (kept.0, found.1, kept.1, kept.2, found.4))

-- ---- a direction and types

-- a relationship that is met in a direction is at the node
pub at_met : (direction : Direction) (labels : List ℕ) (n : ℕ) (row : EdgeRow) → is_met direction labels n row ≡ true → is_at n row ≡ true
at_met direction labels n row met = by direction met
  where
    leaves : is_met_at ends.Source labels n row ≡ true → is_at n row ≡ true
    leaves is = or_left _ _ (and_parts (nat_eq row.from n) (is_wanted labels row.label) is).0

    enters : is_met_at ends.Target labels n row ≡ true → is_at n row ≡ true
    enters is = or_right _ _ (and_parts (nat_eq row.to n) (is_wanted labels row.label) is).0

    by : (direction : Direction) → is_met direction labels n row ≡ true → is_at n row ≡ true
    by directions.Outgoing is = leaves is
    by directions.Incoming is = enters is
    by directions.Both is = ⊎_elim leaves enters (or_cases (is_met_at ends.Source labels n row) (is_met_at ends.Target labels n row) is)

-- so rows that have all at the node have all that are met
pub part_met : (direction : Direction) (labels : List ℕ) (n : ℕ) (rows edges : List EdgeRow) → IsPart (is_at n) rows edges
    → IsPart (is_met direction labels n) rows edges
part_met direction labels n rows edges part = record {
  ascends = part.ascends;
  distinct = part.distinct;
  only = part.only;
  all = λ row is met. part.all row is (at_met direction labels n row met);
}
