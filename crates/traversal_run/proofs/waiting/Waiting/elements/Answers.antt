use Rattle.std.proofs.Common.{◌≡◌, ◌∙◌, ◌+◌, List, rules, length, sym, subst, arith}
use Rattle.std.specs.List.{cons_option}
use Rattle.std.specs.VecDeque.{deque_items, deque_len}
use Rattle.plain_graph.specs.declared.item.Item.{Item}
use Rattle.traversal_run.specs.Held.{elements_in}
use Rattle.traversal_run.proofs.HeldRows.{elements-vertices}
use Rattle.traversal_run.proofs.waiting.Waiting.elements.Goals as goal

pub returns : goal.returns
returns c =
    let ids = deque_items c.self.inside.vertices in
    let others = cons_option c.self.inside.first (deque_items c.self.inside.later) in
    let counted : deque_len c.self.inside.vertices ≡ length ids = search rules in
    let sum : c.len.result + c.elements_of.result ≡ length ids + elements_in others = omega (arith, c.len.ensures, c.elements_of.ensures, counted) in
    subst (λ (l : List Item). c.len.result + c.elements_of.result ≡ elements_in l) c.self.view_is (sum ∙ sym (elements-vertices ids others))
