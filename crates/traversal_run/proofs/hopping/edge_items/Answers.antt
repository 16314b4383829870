use Rattle.std.proofs.Common.{◌≡◌, ◌<◌, ◌+◌, ◌++◌, ◌∷◌, [], ℕ, List, map, take, get_or, length, sym, ap, ◌∙◌, subst, arith}
use Rattle.std.proofs.lemmas.List.{map-append, take_all, take_more}
use Rattle.std.proofs.lemmas.Result.{err_from_is_err_and}
use Rattle.plain_graph.specs.declared.item.Item.{Item}
use Rattle.rec_bytes.specs.Space.{SameButReads, State}
use Rattle.rel_store.specs.declared.edge_row.EdgeRow.{EdgeRow}
use Rattle.traversal_run.specs.EdgeItems.{row_item}
use Rattle.traversal_run.specs.Naming.{name_count}
use Rattle.traversal_run.proofs.Broken.{blamed_before}
use Rattle.traversal_run.proofs.OnlyReads.{is_read-on, named-read}
use Rattle.traversal_run.proofs.Causes.{cause_passed}
use Rattle.rec_bytes.proofs.Causes.{never_ok}
use Rattle.traversal_run.proofs.hopping.edge_items.Goals as goal

-- after reads the numbers of names are the same
names_then : (s m : State) → SameButReads s m → (n : ℕ) → n < name_count s.records → n < name_count m.records
names_then s m same n low = subst (λ (t : State). n < name_count t.records) (sym same) low

-- one more edge
more_edges : (s m : State) → SameButReads s m → (rows : List EdgeRow) (at : ℕ) (d : EdgeRow) (old new : List Item) → at < length rows
    → old ≡ map (row_item s.records) (take at rows)
    → new ≡ old ++ row_item m.records (get_or rows at d) ∷ [] → new ≡ map (row_item s.records) (take (at + 1) rows)
more_edges s m same rows at d old new lt are more =
    subst (λ (t : State). new ≡ old ++ row_item t.records (get_or rows at d) ∷ []) same more
    ∙ ap (λ (list : List Item). list ++ row_item s.records (get_or rows at d) ∷ []) are
    ∙ sym (map-append (row_item s.records) (take at rows) (get_or rows at d ∷ []))
    ∙ ap (map (row_item s.records)) (sym (take_more rows at d lt))

pub returns-in_err-push_edge-clause-damaged : goal.returns-in_err-push_edge-clause-damaged
returns-in_err-push_edge-clause-damaged g c = λ tells.
    let space = g.R.Reads in
    let p = err_from_is_err_and c.from_residual.result c.from_residual.ensures.1 in
    rw (p.1, p.2) (blamed_before (space.state c.args.space.now) (space.state c.loop-row.space) c.loop-row.invariant.read.same c.in_err-push_edge.field-0.0
    (c.in_err-push_edge.ensures.damaged tells))

pub returns-in_err-push_edge-clause-read : goal.returns-in_err-push_edge-clause-read
returns-in_err-push_edge-clause-read g c = is_read-on g.R.Reads g.met.R.Reads.further_onward c.args.space.now c.loop-row.space c.push_edge.new.space
    c.loop-row.invariant.read c.push_edge.ensures.read

pub loop-row-preserved : goal.loop-row-preserved
loop-row-preserved g c =
    let space = g.R.Reads in
    let at = c.loop-row.row-index in
    let read = c.loop-row.invariant.read in
    record {
      are = λ tells store typed.
          more_edges (space.state c.args.space.now) (space.state c.loop-row.space) read.same c.args.rows.now at _ c.loop-row.items c.push_edge.new.items
          (omega arith) (c.loop-row.invariant.are tells store typed)
          (c.in_ok-push_edge.ensures.is tells (named-read space c.args.space.now c.loop-row.space c.args.names.now.names read store)
          (names_then (space.state c.args.space.now) (space.state c.loop-row.space) read.same _ (typed at _ (omega arith))));
      no_read = λ tells store typed.
          c.push_edge.ensures.no_read tells (named-read space c.args.space.now c.loop-row.space c.args.names.now.names read store)
          (names_then (space.state c.args.space.now) (space.state c.loop-row.space) read.same _ (typed at _ (omega arith)))
          ∙ c.loop-row.invariant.no_read tells store typed;
      read = is_read-on space g.met.R.Reads.further_onward c.args.space.now c.loop-row.space c.push_edge.new.space read c.push_edge.ensures.read;
    }

pub returns-clause-are : goal.returns-clause-are
returns-clause-are g c = λ tells store typed.
    let s = g.R.Reads.state c.args.space.now in
    c.loop-row.invariant.are tells store typed ∙ ap (map (row_item s.records)) (take_all c.loop-row.row-index c.args.rows.now (omega arith))

pub returns-in_err-push_edge-clause-cause : goal.returns-in_err-push_edge-clause-cause
returns-in_err-push_edge-clause-cause g c =
    cause_passed _ _ _ c.from_residual.result c.in_err-push_edge.field-0.0 c.loop-row.invariant.read.later c.in_err-push_edge.ensures.cause
    c.from_residual.ensures.1

pub returns-in_err-push_edge-clause-are : goal.returns-in_err-push_edge-clause-are
returns-in_err-push_edge-clause-are g c _ _ _ = never_ok c.from_residual.result _ _ c.from_residual.ensures.1

pub returns-in_err-push_edge-clause-no_read : goal.returns-in_err-push_edge-clause-no_read
returns-in_err-push_edge-clause-no_read g c = λ tells store typed.
    let space = g.R.Reads in
    let read = c.loop-row.invariant.read in
    c.push_edge.ensures.no_read tells (named-read space c.args.space.now c.loop-row.space c.args.names.now.names read store)
    (names_then (space.state c.args.space.now) (space.state c.loop-row.space) read.same _ (typed c.loop-row.row-index _ (omega arith)))
    ∙ c.loop-row.invariant.no_read tells store typed
