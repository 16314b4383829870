use Rattle.std.proofs.Common.{◌∙◌, ◌++◌, List, ap, subst}
use Rattle.std.specs.List.{filter}
use Rattle.std.specs.List.Sorted.{IsPermutation}
use Rattle.std.proofs.lemmas.Bool.{or_left, or_right}
use Rattle.plain_graph.specs.declared.direction.Direction.TheVariants as directions
use Rattle.rel_store.specs.declared.edge_row.EdgeRow.{EdgeRow}
use Rattle.expand.specs.declared.matching.End.TheVariants as ends
use Rattle.expand.specs.Matching.{is_met, is_met_at}
use Rattle.expand.proofs.Ascending.{sorted_part}
use Rattle.expand.proofs.matching.rows_at.Goals as goal

pub returns-in_ok-found-in-Outgoing : goal.returns-in_ok-found-in-Outgoing
returns-in_ok-found-in-Outgoing c = rw c.in-Outgoing.is (λ edges part.
    let found = c.in_ok-found-in-Outgoing in
    let test = is_met_at ends.Source c.args.labels.now c.args.node in
    sorted_part test test c.args.rows.items edges found.found.items part (λ row is. is) found.ensures.moved found.ensures.sorted)

pub returns-in_ok-found-in-Incoming : goal.returns-in_ok-found-in-Incoming
returns-in_ok-found-in-Incoming c = rw c.in-Incoming.is (λ edges part.
    let found = c.in_ok-found-in-Incoming in
    let test = is_met_at ends.Target c.args.labels.now c.args.node in
    sorted_part test test c.args.rows.items edges found.found.items part (λ row is. is) found.ensures.moved found.ensures.sorted)

pub returns-in_ok-extend_from_slice-in-Both : goal.returns-in_ok-extend_from_slice-in-Both
returns-in_ok-extend_from_slice-in-Both c = rw c.in-Both.is (λ edges part.
    let labels = c.args.labels.now in
    let node = c.args.node in
    let rows = c.args.rows.items in
    let leaving = c.in_ok-found-in-Both in
    let entering = c.in_ok-entering-in-Both in
    let leaves = is_met_at ends.Source labels node in
    let enters = is_met_at ends.Target labels node in
    let either = is_met directions.Both labels node in
    let picked = c.in_ok-leaving-in-Both.ensures ∙ ap (filter leaves) c.deref.ensures.value in
    let first = sorted_part either leaves rows edges leaving.found.items part (λ row is. or_left (leaves row) (enters row) is)
    (subst (λ (list : List EdgeRow). IsPermutation list leaving.found.items) picked leaving.ensures.moved) leaving.ensures.sorted in
    let second = sorted_part either enters rows edges entering.entering.items part (λ row is. or_right (leaves row) (enters row) is) entering.ensures.moved
    entering.ensures.sorted in
    c.in_ok-extend_from_slice-in-Both.ensures.items ∙ (λ i. first i ++ (c.deref-in-Both.ensures.value ∙ second) i))
