use Rattle.std.proofs.Common.{◌∙◌, Err, List, ℕ, Option, ap, refl, subst, sym}
use Rattle.std.proofs.lemmas.Result.{err_from_is_err_and}
use Rattle.plain_graph.specs.ElementMaps.{map_line}
use Rattle.plain_graph.specs.Reply.{item_line}
use Rattle.plain_graph.specs.declared.element_map.ElementMap.{ElementMap}
use Rattle.prop_store.specs.Reading.{ReadsAtMost}
use Rattle.prop_store.proofs.ReadCounts.{reads_none}
use Rattle.store_rules.specs.Graph.{graph_of}
use Rattle.graph_session.specs.QueryResults.{AddsShown, map_reads, reads_to_show}
use Rattle.graph_session.proofs.questions.query_results.add_shown.Goals as goal

pub returns-in_default-clause-added : goal.returns-in_default-clause-added
returns-in_default-clause-added g c =
    subst (λ (maps : Option (List (List ℕ))). AddsShown g.R.Reads g.K.Sink c.args.context.names.now.names maps c.args.item.now c.args.space.now c.args.lines.now
    c.add_result.new.self c.add_result.result) (sym c.in_default.is)
    (record { line = item_line c.args.item.now; form = refl; shown = λ told store. refl; adds = c.add_result.ensures })

pub returns-in_default-clause-cost : goal.returns-in_default-clause-cost
returns-in_default-clause-cost g c = λ told store.
    let s = g.R.Reads.state c.args.space.now in
    subst (λ (maps : Option (List (List ℕ))). ReadsAtMost (reads_to_show (graph_of s.records) maps c.args.item.now) s s) (sym c.in_default.is) (reads_none 0 s)

pub returns-in_default-clause-at_most : goal.returns-in_default-clause-at_most
returns-in_default-clause-at_most g c =
    let s = g.R.Reads.state c.args.space.now in
    subst (λ (maps : Option (List (List ℕ))). ReadsAtMost (map_reads maps) s s) (sym c.in_default.is) (reads_none 0 s)

pub returns-in_err-map-clause-stopped : goal.returns-in_err-map-clause-stopped
returns-in_err-map-clause-stopped g c =
    let met = c.in_err-map.ensures in
    let p = err_from_is_err_and c.from_residual.result c.from_residual.ensures.1 in
    rw (p.1, p.2) (record {
      same = refl;
      disk = λ is. met.cause.disk (ap Err is);
      blames = λ told. met.damaged told;
    })

pub returns-clause-added : goal.returns-clause-added
returns-clause-added g c =
    let map = c.in_ok-map.map in
    subst (λ (maps : Option (List (List ℕ))). AddsShown g.R.Reads g.K.Sink c.args.context.names.now.names maps c.args.item.now c.args.space.now c.args.lines.now
    c.add.new.self c.add.result) (sym c.in-Some.is)
    (record {
      line = map_line (c.args.item.now, map);
      form = (map, refl);
      shown = λ told store. ap (λ (element : ElementMap). map_line (c.args.item.now, element)) (rw c.as_slice.ensures at c.in_ok-map.ensures.found told store);
      adds = rw (c.deref.ensures.value, c.in_ok-line.ensures) at c.add.ensures;
    })

pub returns-in_err-map-clause-unread : goal.returns-in_err-map-clause-unread
returns-in_err-map-clause-unread g c =
    λ none. absurd (let e = sym none ∙ c.in-Some.is in cc)

pub returns-in_err-line-clause-unread : goal.returns-in_err-line-clause-unread
returns-in_err-line-clause-unread g c =
    λ none. absurd (let e = sym none ∙ c.in-Some.is in cc)

pub returns-clause-unread : goal.returns-clause-unread
returns-clause-unread g c =
    λ none. absurd (let e = sym none ∙ c.in-Some.is in cc)

pub returns-in_err-map-clause-at_most : goal.returns-in_err-map-clause-at_most
returns-in_err-map-clause-at_most g c =
    subst (λ (maps : Option (List (List ℕ))). ReadsAtMost (map_reads maps) (g.R.Reads.state c.args.space.now) (g.R.Reads.state c.read_map.new.space))
    (sym c.in-Some.is) c.read_map.ensures.at_most

pub returns-in_err-line-clause-at_most : goal.returns-in_err-line-clause-at_most
returns-in_err-line-clause-at_most g c =
    subst (λ (maps : Option (List (List ℕ))). ReadsAtMost (map_reads maps) (g.R.Reads.state c.args.space.now) (g.R.Reads.state c.read_map.new.space))
    (sym c.in-Some.is) c.read_map.ensures.at_most

pub returns-clause-at_most : goal.returns-clause-at_most
returns-clause-at_most g c =
    subst (λ (maps : Option (List (List ℕ))). ReadsAtMost (map_reads maps) (g.R.Reads.state c.args.space.now) (g.R.Reads.state c.read_map.new.space))
    (sym c.in-Some.is) c.read_map.ensures.at_most
