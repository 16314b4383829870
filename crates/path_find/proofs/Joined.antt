-- What searches from both ends have found is the least walk.
use Rattle.std.proofs.Common.{◌≡◌, ◌<◌, ◌≤◌, inl, inr, ℕ, ◌+◌, List, [], ◌∷◌, ◌++◌, length, take, drop, Contains, refl, sym, ap, subst, ◌∙◌, arith}
use Rattle.std.specs.Prelude.{IfSome}
use Rattle.std.proofs.lemmas.Bool.{cases_lt}
use Rattle.std.proofs.lemmas.List.{length-append}
use Rattle.std.proofs.lemmas.List.Elements.{Contains-get_or}
use Rattle.plain_graph.specs.Adjacency.{Adjacency}
use Rattle.plain_graph.specs.Walks.{HasNoWalk, IsLeastShortest, IsNotAfter, IsWalk, LeadsTo}
use Rattle.plain_graph.specs.Reached.{IsLeastOrNone}
use Rattle.path_find.specs.Checking.{edges_of}
use Rattle.path_find.specs.Costs.{but_last}
use Rattle.path_find.specs.Meeting.{AreApart, AreJoined, IsShared}
use Rattle.path_find.specs.Reach.{AreLayers}
use Rattle.path_find.specs.Tree.{Rows, Spans, level_at, node_at, row_count, way_to}
use Rattle.path_find.proofs.Costs.{drop_way}
use Rattle.path_find.proofs.Descents.{behind, descent-leads, descent-least}
use Rattle.path_find.proofs.ListOrder.{not_after-earlier, not_after-join}
use Rattle.path_find.proofs.Opposites.{AreOpposite, turn}
use Rattle.path_find.proofs.TreeWalks.{length-way_to, reached, way_to-leads, way_to-least, way_to-order}
use Rattle.path_find.proofs.WalkLaws.{LeadsTo-append, one_end, parts}

-- each walk has more nodes than so many
abbrev pub AreLonger : Adjacency → ℕ → ℕ → ℕ → Type 0
AreLonger near from to count = (other : List ℕ) → IsWalk near from to other → count < length other

-- each walk has a node
pub longer-none : (near : Adjacency) (from to : ℕ) → AreLonger near from to 0
longer-none near from to [] walk = absurd walk
longer-none near from to (first ∷ later) walk = omega arith

module _ (near back : Adjacency) (there : AreOpposite near back) (return : AreOpposite back near)
    (ahead : Rows) (ahead_done ahead_depth : ℕ) (ahead_layers : AreLayers ahead ahead_done ahead_depth) (ahead_spans : Spans near ahead ahead_done)
    (behind_rows : Rows) (behind_done behind_depth : ℕ) (behind_layers : AreLayers behind_rows behind_done behind_depth)
    (behind_spans : Spans back behind_rows behind_done) where
  abbrev from : ℕ
  from = node_at ahead 0

  abbrev to : ℕ
  to = node_at behind_rows 0

  -- where a walk leads there is a row of the search ahead
  record IsAhead (node most : ℕ) : Type 0 where
    row : ℕ
    low : row < row_count ahead
    is : node_at ahead row ≡ node
    level : level_at ahead row ≤ most

  is_ahead : (later : List ℕ) (node : ℕ) → LeadsTo near from later node → length later ≤ ahead_depth → IsAhead node (length later)
  is_ahead later node leads few =
      let root = ahead_layers.tree.root in
      let found = reached ahead ahead_done ahead_layers.tree near ahead_spans ahead_depth ahead_layers.complete later from node 0 ahead_layers.tree.some refl
      leads (omega (arith, root, few)) in
      let level = found.level in
      record { row = found.row; low = found.low; is = found.is; level = omega (arith, level, root) }

  -- a node in the midst of a walk is a row of both
  record IsMid (node before after : ℕ) : Type 0 where
    first : IsAhead node before
    last : ℕ
    last_low : last < row_count behind_rows
    last_is : node_at behind_rows last ≡ node
    last_level : level_at behind_rows last ≤ after

  is_mid : (node : ℕ) (before after : List ℕ) → LeadsTo near from before node → LeadsTo near node after to → length before ≤ ahead_depth
      → length after ≤ behind_depth → IsMid node (length before) (length after)
  is_mid node before after leads rest few most =
      let found = behind near back there return behind_rows behind_done behind_depth behind_layers behind_spans after node rest most in
      record { first = is_ahead before node leads few; last = found.row; last_low = found.low; last_is = found.is; last_level = found.level }

  shared_mid : (node before after : ℕ) (mid : IsMid node before after) → IsShared ahead behind_rows mid.first.row
  shared_mid node before after mid = subst (Contains behind_rows.nodes) (mid.last_is ∙ sym mid.first.is)
      (Contains-get_or behind_rows.nodes mid.last 0 mid.last_low)

  -- ---- no node is shared

  -- each walk has two edges more than nodes are left out
  pub apart-longer : AreApart ahead behind_rows → AreLonger near from to (ahead_depth + behind_depth + 1)
  apart-longer apart [] walk = absurd walk
  apart-longer apart (first ∷ later) walk = elim (cases_lt (ahead_depth + behind_depth) (length later)) [
    | inl more ↦ omega arith
    | inr few ↦ absurd (short later (subst (λ n. LeadsTo near n later to) walk.0 walk.1) few)
  ]
    where
      by : (later : List ℕ) → LeadsTo near from later to → (count : ℕ) → count ≤ length later → count ≤ ahead_depth → length later ≤ count + behind_depth → ⊥
      by later leads count low few most =
          let two = parts near count later from to leads low in
          let long = two.long in
          let whole = ap length two.is ∙ length-append two.before two.after in
          let mid = is_mid two.mid two.before two.after two.leads two.rest (omega (arith, long, few)) (omega (arith, long, whole, most)) in
          apart mid.first.row mid.first.low (shared_mid two.mid (length two.before) (length two.after) mid)

      short : (later : List ℕ) → LeadsTo near from later to → length later ≤ ahead_depth + behind_depth → ⊥
      short later leads few = elim (cases_lt (length later) ahead_depth) [
        | inl less ↦ by later leads (length later) (omega arith) (omega arith) (omega arith)
        | inr ge ↦ by later leads ahead_depth ge (omega arith) few
      ]

  -- ---- one search is whole

  pub whole_ahead : AreApart ahead behind_rows → ahead_done ≡ row_count ahead → HasNoWalk near from to
  whole_ahead apart whole [] walk = walk
  whole_ahead apart whole (first ∷ later) walk =
      let root = ahead_layers.tree.root in
      let found = reached ahead ahead_done ahead_layers.tree near ahead_spans (length later) (λ i low less. omega (arith, low, whole)) later from to 0
      ahead_layers.tree.some refl
      (subst (λ n. LeadsTo near n later to) walk.0 walk.1) (omega (arith, root)) in
      apart found.row found.low (subst (Contains behind_rows.nodes) (sym found.is) (Contains-get_or behind_rows.nodes 0 0 behind_layers.tree.some))

  pub whole_behind : AreApart ahead behind_rows → behind_done ≡ row_count behind_rows → HasNoWalk near from to
  whole_behind apart whole [] walk = walk
  whole_behind apart whole (first ∷ later) walk =
      let root = behind_layers.tree.root in
      let turned = turn near back there later from to (subst (λ n. LeadsTo near n later to) walk.0 walk.1) in
      let found = reached behind_rows behind_done behind_layers.tree back behind_spans (length turned.later) (λ i low less. omega (arith, low, whole))
      turned.later to from 0 behind_layers.tree.some refl turned.leads (omega (arith, root)) in
      apart 0 ahead_layers.tree.some (subst (Contains behind_rows.nodes) found.is (Contains-get_or behind_rows.nodes found.row 0 found.low))

  -- ---- a node is shared

  module _ (longer : AreLonger near from to (ahead_depth + behind_depth)) where
    -- both have all their levels there
    record AreFull (row last : ℕ) : Type 0 where
      first : level_at ahead row ≡ ahead_depth
      second : level_at behind_rows last ≡ behind_depth

    are_full : (row last : ℕ) → row < row_count ahead → last < row_count behind_rows → node_at behind_rows last ≡ node_at ahead row → AreFull row last
    are_full row last low last_low same =
        let way = way_to ahead (level_at ahead row) row in
        let leads = way_to-leads ahead ahead_done ahead_layers.tree near ahead_spans (level_at ahead row) row low refl in
        let long = length-way_to ahead ahead_done ahead_layers.tree (level_at ahead row) row in
        let back_way = way_to behind_rows (level_at behind_rows last) last in
        let back_leads = way_to-leads behind_rows behind_done behind_layers.tree back behind_spans (level_at behind_rows last) last last_low refl in
        let back_long = length-way_to behind_rows behind_done behind_layers.tree (level_at behind_rows last) last in
        let turned = turn back near return back_way to (node_at behind_rows last) back_leads in
        let turned_long = turned.long in
        let rest = subst (λ n. LeadsTo near n turned.later to) same turned.leads in
        let whole = length-append way turned.later in
        let least = longer (from ∷ (way ++ turned.later)) (refl, LeadsTo-append near way turned.later from (node_at ahead row) to leads rest) in
        let most = ahead_layers.most row low in
        let back_most = behind_layers.most last last_low in
        record {
          first = omega (arith, long, back_long, turned_long, whole, least, most, back_most);
          second = omega (arith, long, back_long, turned_long, whole, least, most, back_most);
        }

    module _ (walk : List ℕ) (joined : AreJoined near ahead behind_rows walk) where
      abbrev way : List ℕ
      way = way_to ahead (level_at ahead joined.row) joined.row

      full : AreFull joined.row joined.last
      full = are_full joined.row joined.last joined.low joined.last_low joined.shared

      abbrev joined_walk : List ℕ
      joined_walk = from ∷ (way ++ joined.way)

      leads : IsWalk near from to joined_walk
      leads =
          let first = way_to-leads ahead ahead_done ahead_layers.tree near ahead_spans (level_at ahead joined.row) joined.row joined.low refl in
          let rest = descent-leads near back there return behind_rows behind_done behind_depth behind_layers behind_spans joined.way joined.last joined.last_low
          joined.long joined.descends in
          (refl, LeadsTo-append near way joined.way from (node_at ahead joined.row) to first (subst (λ n. LeadsTo near n joined.way to) joined.shared rest))

      long : length (way ++ joined.way) ≡ ahead_depth + behind_depth
      long =
          let whole = length-append way joined.way in
          let first = length-way_to ahead ahead_done ahead_layers.tree (level_at ahead joined.row) joined.row in
          let second = joined.long in
          let full_first = full.first in
          let full_second = full.second in
          omega (arith, whole, first, second, full_first, full_second)

      -- the way to the first shared row is not after one to another
      prefix : (before : List ℕ) (row : ℕ) → row < row_count ahead → joined.row ≤ row → level_at ahead row ≡ ahead_depth
          → LeadsTo near from before (node_at ahead row) → length before ≡ ahead_depth → IsNotAfter (way_to ahead ahead_depth joined.row) before
      prefix before row low le is leads_there count =
          let rest = way_to-least ahead ahead_done ahead_layers.tree near ahead_spans ahead_depth ahead_layers.complete ahead_depth row before low is
          (omega arith) leads_there count in
          elim (cases_lt joined.row row) [
            | inl lt ↦ not_after-earlier (way_to ahead ahead_depth joined.row) (way_to ahead ahead_depth row) before
                (way_to-order ahead ahead_done ahead_layers.tree ahead_depth joined.row row full.first is lt low) rest
            | inr ge ↦ let same : row ≡ joined.row = omega arith in subst (λ r. IsNotAfter (way_to ahead ahead_depth r) before) same rest
          ]

      first : (other : List ℕ) → LeadsTo near from other to → length other ≡ ahead_depth + behind_depth → IsNotAfter (way ++ joined.way) other
      first other leads_other count =
          let two = parts near ahead_depth other from to leads_other (omega (arith, count)) in
          let before_long = two.long in
          let whole = ap length two.is ∙ length-append two.before two.after in
          let mid = is_mid two.mid two.before two.after two.leads two.rest (omega (arith, before_long)) (omega (arith, before_long, whole, count)) in
          let row = mid.first.row in
          let full_there = are_full row mid.last mid.first.low mid.last_low (mid.last_is ∙ sym mid.first.is) in
          let not_before : joined.row ≤ row = elim (cases_lt row joined.row) [
            | inl lt ↦ absurd (joined.before row (omega arith) lt (shared_mid two.mid (length two.before) (length two.after) mid))
            | inr le ↦ le
          ] in
          let there_leads = subst (LeadsTo near from two.before) (sym mid.first.is) two.leads in
          let upto = subst (λ l. IsNotAfter (way_to ahead l joined.row) two.before) (sym full.first)
          (prefix two.before row mid.first.low not_before full_there.first there_leads before_long) in
          let mine_long = length-way_to ahead ahead_done ahead_layers.tree (level_at ahead joined.row) joined.row in
          let mine_full = full.first in
          let last_full = full.second in
          let way_long = joined.long in
          let mine_leads = way_to-leads ahead ahead_done ahead_layers.tree near ahead_spans (level_at ahead joined.row) joined.row joined.low refl in
          let onward : way ≡ two.before → IsNotAfter joined.way two.after = λ e.
          let ends : node_at ahead joined.row ≡ two.mid = one_end near two.before from (node_at ahead joined.row) two.mid
          (subst (λ list. LeadsTo near from list (node_at ahead joined.row)) e mine_leads) two.leads in
          descent-least near back there return behind_rows behind_done behind_depth behind_layers behind_spans joined.way joined.last two.after joined.last_low
          joined.long joined.descends
          (subst (λ n. LeadsTo near n two.after to) (sym ends ∙ sym joined.shared) two.rest) (omega (arith, before_long, whole, count, last_full, way_long)) in
          subst (IsNotAfter (way ++ joined.way)) (sym two.is) (not_after-join way two.before joined.way two.after
          (omega (arith, mine_long, mine_full, before_long)) upto onward)

      pub least_joined : IsLeastShortest near from to joined_walk
      least_joined = record {
        shortest = record {
          leads = leads;
          least = λ other is. let more = longer other is in let mine = long in omega (arith, more, mine);
        };
        first = λ other is same. by other is same;
      }
        where
          by : (other : List ℕ) → IsWalk near from to other → length other ≡ length joined_walk → IsNotAfter joined_walk other
          by [] is same = absurd is
          by (node ∷ later) is same = inr (
            sym is.0,
            first later (subst (λ n. LeadsTo near n later to) is.0 is.1) (let mine = long in omega
                (arith, same, mine)),
          )

      -- the walk has the edges of both, and the way on is what is left of it
      pub meets_at : IfSome (edges_of walk) (λ edges. ahead_depth + behind_depth ≡ edges)
          × (but_last (node_at ahead joined.row) joined.way ≡ take behind_depth (drop ahead_depth walk))
      meets_at =
          let left = drop_way ahead ahead_done ahead_layers.tree ahead_depth joined.row joined.way joined.low full.first in
          let walk_is = joined.is ∙ ap (λ l. from ∷ (way_to ahead l joined.row ++ joined.way)) full.first in (
            subst (λ (list : List ℕ). IfSome (edges_of list) (λ edges. ahead_depth + behind_depth ≡ edges)) (sym joined.is) (sym long),
            ap (λ n. take n (node_at ahead joined.row ∷ joined.way)) (joined.long ∙ full.second)
                ∙ ap (take behind_depth) (sym left ∙ ap (drop ahead_depth) (sym walk_is)),
          )

      pub least_walk : IsLeastOrNone near from to walk
      least_walk = subst (IsLeastOrNone near from to) (sym joined.is) least_joined
