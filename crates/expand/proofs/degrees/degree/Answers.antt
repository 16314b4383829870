use Rattle.std.proofs.Common.{ℕ, ◌≡◌, ◌∙◌, Option, Result, IfOk, length, map, subst, sym}
use Rattle.std.proofs.lemmas.Slice.Zip.{AllZip-long}
use Rattle.plain_graph.specs.Meaning.{edges_at}
use Rattle.plain_graph.specs.declared.direction.Direction.{Direction}
use Rattle.rec_bytes.specs.Space.{State}
use Rattle.store_rules.specs.Rows.{option_list}
use Rattle.expand.specs.declared.expand_fault.ExpandFault.{ExpandFault}
use Rattle.expand.specs.Degrees.{rows_count}
use Rattle.expand.specs.Expanding.{AreNameNumbers, IsRowOf, name_of, rows_of}
use Rattle.expand.specs.Matching.{rows_at}
use Rattle.expand.proofs.DenseDegrees.{if_degree}
use Rattle.expand.proofs.ModelEdges.{names_stand, rows_at_are}
use Rattle.expand.proofs.RowCounts.{count_rows_at}
use Rattle.expand.proofs.degrees.degree.Goals as goal
use Rattle.store_rules.specs.Rules.{IsWhole}
use Rattle.store_rules.specs.Graph.{graph_in}

module _ (s : State) (direction : Direction) (node : ℕ) (r : Result ℕ ExpandFault) where
  -- the number, by its type or for all
  abbrev Counted : Option ℕ → Type 0
  Counted label = IfOk r (λ count. IsWhole s → count ≡ rows_count direction (option_list label) node (rows_of s.records))

  listed : (label : Option ℕ) → Counted label → IfOk r (λ count. IsWhole s → count ≡ length (rows_at direction (option_list label) node (rows_of s.records)))
  listed label = if_degree r (λ count h store. h store ∙ count_rows_at direction (option_list label) node (rows_of s.records))

  edged : (label : Option ℕ) → Counted label → IfOk r (λ count. IsWhole s → AreNameNumbers s.records (option_list label) → count ≡ length (edges_at (graph_in s)
      direction (map (name_of s.records) (option_list label)) node))
  edged label = if_degree r (λ count h store names.
      let labels = option_list label in
      let texts = map (name_of s.records) labels in
      h store ∙ count_rows_at direction labels node (rows_of s.records)
      ∙ sym (AllZip-long (IsRowOf s.records) (rows_at direction labels node (rows_of s.records)) (edges_at (graph_in s) direction texts node)
      (rows_at_are s.records s.shape store labels texts (names_stand s.records s.shape store labels names) node direction)))

pub returns-in-Some-clause-rows : goal.returns-in-Some-clause-rows
returns-in-Some-clause-rows g c = λ tells.
    let s = g.R.Reads.state c.args.space.now in
    listed s c.args.direction c.args.node c.degree_of.result c.args.label
    (subst (Counted s c.args.direction c.args.node c.degree_of.result) (sym c.in-Some.is) (c.degree_of.ensures.rows tells))

pub returns-in-Some-clause-edges : goal.returns-in-Some-clause-edges
returns-in-Some-clause-edges g c = λ tells.
    let s = g.R.Reads.state c.args.space.now in
    edged s c.args.direction c.args.node c.degree_of.result c.args.label
    (subst (Counted s c.args.direction c.args.node c.degree_of.result) (sym c.in-Some.is) (c.degree_of.ensures.rows tells))

pub returns-in-None-clause-rows : goal.returns-in-None-clause-rows
returns-in-None-clause-rows g c = λ tells.
    let s = g.R.Reads.state c.args.space.now in
    listed s c.args.direction c.args.node c.degree_of-in-None.result c.args.label
    (subst (Counted s c.args.direction c.args.node c.degree_of-in-None.result) (sym c.in-None.is) (c.degree_of-in-None.ensures.rows tells))

pub returns-in-None-clause-edges : goal.returns-in-None-clause-edges
returns-in-None-clause-edges g c = λ tells.
    let s = g.R.Reads.state c.args.space.now in
    edged s c.args.direction c.args.node c.degree_of-in-None.result c.args.label
    (subst (Counted s c.args.direction c.args.node c.degree_of-in-None.result) (sym c.in-None.is) (c.degree_of-in-None.ensures.rows tells))
