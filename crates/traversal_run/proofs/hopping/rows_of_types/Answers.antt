use Rattle.std.proofs.Common.{◌≡◌, [], List, ℕ, nat_eq, length, ap, sym, ◌∙◌, subst, arith}
use Rattle.plain_graph.specs.Meaning.{edges_at}
use Rattle.store_rules.specs.Graph.{graph_of}
use Rattle.traversal_run.specs.Hopping.{AreTypeNumbers, reads_at_vertex}
use Rattle.traversal_run.specs.Naming.{FindsNames}
use Rattle.traversal_run.proofs.HopEdges.{are_none, edges_at-untyped, no_length, some_length}
use Rattle.traversal_run.proofs.Causes.{memory_cause}
use Rattle.rec_bytes.proofs.Causes.{never_ok}
use Rattle.traversal_run.proofs.HopCosts.{hop_costs}
use Rattle.prop_store.proofs.ReadCounts.{reads_none}
use Rattle.traversal_run.proofs.OnlyReads.{is_read-none}
use Rattle.traversal_run.proofs.hopping.rows_of_types.Goals as goal
use Rattle.traversal_run.proofs.hopping.rows_of_types.Goals.{else-is_empty-via-else-is_empty, else-is_empty-via-then-is_empty+else-not-is_empty}

pub returns-in_err-numbers-clause-cause : goal.returns-in_err-numbers-clause-cause
returns-in_err-numbers-clause-cause g c = memory_cause _ _ c.from_residual.result (omega arith) c.from_residual.ensures.1

pub returns-then-not-is_empty-clause-found : goal.returns-then-not-is_empty-clause-found
returns-then-not-is_empty-clause-found g c = λ tells store.
    let s = g.R.Reads.state c.args.space.now in
    let hop = c.args.hop.now in
    let numbers = c.in_ok-numbers.numbers in
    let none = no_length numbers.items (ap (λ n. nat_eq n 0) (sym numbers.ok.0) ∙ sym c.is_empty.ensures ∙ c.if-is_empty.true) in
    let some = some_length hop.labels (ap (λ (texts : List (List ℕ)). nat_eq (length texts) 0) c.requires ∙ sym c.is_empty-then-is_empty.ensures
    ∙ c.if-not-is_empty.true) in
    let finds : FindsNames s.records [] hop.labels = subst (λ (texts : List (List ℕ)). FindsNames s.records [] texts) (sym c.requires)
    (subst (λ (list : List ℕ). FindsNames s.records list c.args.labels.now) none (c.in_ok-numbers.ensures.finds store)) in
    are_none s.records c.new.result.items (edges_at (graph_of s.records) hop.direction hop.labels c.args.id) c.new.ensures.items
    (edges_at-untyped s.records s.shape store.store hop.labels c.args.id hop.direction finds some)

pub returns-clause-found : goal.returns-clause-found
returns-clause-found g c = λ tells store.
    let s = g.R.Reads.state c.args.space.now in
    let hop = c.args.hop.now in
    let numbers = c.in_ok-numbers.numbers in
    let none : numbers.items ≡ [] → hop.labels ≡ [] = elim c.else-is_empty.branch [
      | else-is_empty-via-then-is_empty+else-not-is_empty w ↦
          λ empty. no_length hop.labels (ap (λ (texts : List (List ℕ)). nat_eq (length texts) 0) c.requires ∙ sym w.is_empty-then-is_empty.ensures
          ∙ w.if-not-is_empty.false)
      | else-is_empty-via-else-is_empty w ↦
          λ empty. absurd (some_length numbers.items (ap (λ n. nat_eq n 0) (sym numbers.ok.0) ∙ sym c.is_empty.ensures ∙ w.if-is_empty.false) empty)
    ] in
    let types : AreTypeNumbers s.records numbers.items hop.labels = record {
      finds = subst (λ (texts : List (List ℕ)). FindsNames s.records numbers.items texts) (sym c.requires) (c.in_ok-numbers.ensures.finds store);
      below = c.in_ok-numbers.ensures.below;
      none = none;
    } in
    c.rows_by.ensures.found tells store.store (subst (λ (list : List ℕ). AreTypeNumbers s.records list hop.labels) (sym c.deref.ensures.value) types)

pub returns-in_err-numbers-clause-found : goal.returns-in_err-numbers-clause-found
returns-in_err-numbers-clause-found g c _ _ = never_ok c.from_residual.result _ _ c.from_residual.ensures.1

pub returns-clause-reads : goal.returns-clause-reads
returns-clause-reads g c = λ tells store.
    let s = g.R.Reads.state c.args.space.now in
    let hop = c.args.hop.now in
    let numbers = c.in_ok-numbers.numbers in
    let none : numbers.items ≡ [] → hop.labels ≡ [] = elim c.else-is_empty.branch [
      | else-is_empty-via-then-is_empty+else-not-is_empty w ↦
          λ empty. no_length hop.labels (ap (λ (texts : List (List ℕ)). nat_eq (length texts) 0) c.requires ∙ sym w.is_empty-then-is_empty.ensures
          ∙ w.if-not-is_empty.false)
      | else-is_empty-via-else-is_empty w ↦
          λ empty. absurd (some_length numbers.items (ap (λ n. nat_eq n 0) (sym numbers.ok.0) ∙ sym c.is_empty.ensures ∙ w.if-is_empty.false) empty)
    ] in
    let types : AreTypeNumbers s.records numbers.items hop.labels = record {
      finds = subst (λ (texts : List (List ℕ)). FindsNames s.records numbers.items texts) (sym c.requires) (c.in_ok-numbers.ensures.finds store);
      below = c.in_ok-numbers.ensures.below;
      none = none;
    } in
    hop_costs s (g.R.Reads.state c.rows_by.new.space) store.store hop c.deref.result.now c.args.id
    (subst (λ (list : List ℕ). AreTypeNumbers s.records list hop.labels) (sym c.deref.ensures.value) types)
    (c.rows_by.ensures.reads tells store.store)

pub returns-then-not-is_empty-clause-reads : goal.returns-then-not-is_empty-clause-reads
returns-then-not-is_empty-clause-reads g c = λ tells store.
    let s = g.R.Reads.state c.args.space.now in
    reads_none (reads_at_vertex s.records c.args.hop.now c.args.id) s

pub returns-in_err-numbers-clause-reads : goal.returns-in_err-numbers-clause-reads
returns-in_err-numbers-clause-reads g c = λ tells store.
    let s = g.R.Reads.state c.args.space.now in
    reads_none (reads_at_vertex s.records c.args.hop.now c.args.id) s

pub returns-then-not-is_empty-clause-read : goal.returns-then-not-is_empty-clause-read
returns-then-not-is_empty-clause-read g c = is_read-none g.R.Reads g.met.R.Reads.stays_onward c.args.space.now
