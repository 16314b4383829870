use Rattle.std.proofs.Common.{◌≡◌, ℕ, true, false, List, sym, subst, ◌∙◌}
use Rattle.plain_graph.specs.Graph.{has_node}
use Rattle.chain_edit.specs.Walking.{ReadsAtMost}
use Rattle.expand.specs.Costs.{most_reads}
use Rattle.path_find.specs.Meeting.{IsFirstAtLevel, SomeAtLevel}
use Rattle.path_find.specs.WalkSearch.{neighbours_for}
use Rattle.path_find.specs.Tree.{AreNeighbours}
use Rattle.path_find.proofs.Descents.{next_from_first}
use Rattle.path_find.proofs.descending.next_row.Goals as goal
use Rattle.store_rules.specs.Graph.{graph_in}

clash : true ≡ false → ⊥
clash e = cc

pub returns-in-Some-clause-next : goal.returns-in-Some-clause-next
returns-in-Some-clause-next g c = λ tells store nearer.
    let near = neighbours_for (g.R.Reads.state c.args.space.now) c.args.sought.now in
    let rows = c.args.tree.now in
    let ends = c.in-Some.ends.items in
    let are = rw c.in-Some.is at c.in_ok-found.ensures.some tells store in
    let ascend = rw c.in-Some.is at c.in_ok-found.ensures.ascending in
    next_from_first near rows c.args.at c.args.level c.first_at_level.result ends (subst (λ n. AreNeighbours near n ends) c.node-node.ensures are) ascend nearer
    (subst (λ (list : List ℕ). SomeAtLevel rows c.args.level list → IsFirstAtLevel rows c.args.level list c.first_at_level.result) c.deref.ensures.value
    c.first_at_level.ensures.is)

pub returns-in-None-clause-next : goal.returns-in-None-clause-next
returns-in-None-clause-next g c = λ tells store nearer.
    let s = g.R.Reads.state c.args.space.now in
    let gone = rw c.in-None.is at c.in_ok-found.ensures.none tells store in
    absurd (clash (sym nearer.there ∙ subst (λ n. has_node (graph_in s) n ≡ false) c.node-node.ensures gone))

-- whatever is found, the neighbours of the row's node alone are read
pub returns-in_err-found-clause-cost : goal.returns-in_err-found-clause-cost
returns-in_err-found-clause-cost g c = λ tells store.
    let old = g.R.Reads.state c.args.space.now in
    subst (λ n. ReadsAtMost (most_reads old c.args.sought.now.direction c.args.sought.now.labels.now n) old (g.R.Reads.state c.neighbours.new.space))
    c.node-node.ensures (c.neighbours.ensures.cost tells store)

pub returns-in-Some-clause-cost : goal.returns-in-Some-clause-cost
returns-in-Some-clause-cost g c = λ tells store.
    let old = g.R.Reads.state c.args.space.now in
    subst (λ n. ReadsAtMost (most_reads old c.args.sought.now.direction c.args.sought.now.labels.now n) old (g.R.Reads.state c.neighbours.new.space))
    c.node-node.ensures (c.neighbours.ensures.cost tells store)

pub returns-in-None-clause-cost : goal.returns-in-None-clause-cost
returns-in-None-clause-cost g c = λ tells store.
    let old = g.R.Reads.state c.args.space.now in
    subst (λ n. ReadsAtMost (most_reads old c.args.sought.now.direction c.args.sought.now.labels.now n) old (g.R.Reads.state c.neighbours.new.space))
    c.node-node.ensures (c.neighbours.ensures.cost tells store)
