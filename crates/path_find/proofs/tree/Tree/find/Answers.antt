use Rattle.std.proofs.Common.{◌≡◌, ℕ, nat_eq, Option, None, Some, List, IfSome, slice_index, sym, subst}
use Rattle.std.specs.List.{position}
use Rattle.std.proofs.lemmas.List.Quantifiers.{position-Some}
use borrow.Author.Tests.{eqb-true}
use Rattle.path_find.specs.Tree.{Rows, node_at}
use Rattle.path_find.proofs.tree.Tree.find.Goals as goal

at : (nodes : List ℕ) (node : ℕ) (r : Option ℕ) → r ≡ position (nat_eq node) nodes → IfSome r (λ row. slice_index nodes row ≡ node)
at nodes node None is = tt
at nodes node (Some row) is = sym (eqb-true node (slice_index nodes row) (position-Some (nat_eq node) nodes row 0 (sym is)).1)

pub returns-clause-is : goal.returns-clause-is
returns-clause-is c =
    subst (λ (rows : Rows). IfSome c.get_index_of.result (λ row. node_at rows row ≡ c.args.node)) c.self.view_is
    (at c.self.inside.nodes.keys c.args.node c.get_index_of.result c.get_index_of.ensures.index)
