use Rattle.std.proofs.Common.{◌≡◌, ◌++◌, ◌∷◌, [], cond, not, nat_eq, List, ℕ, ap, sym, ◌∙◌, subst}
use Rattle.std.specs.List.{list_any}
use Rattle.std.specs.Cmp.Lexicographic.{pointwise}
use Rattle.plain_graph.specs.Meaning.{unseen}
use Rattle.plain_graph.specs.declared.item.Item.{Item}
use Rattle.plain_graph.specs.declared.item.Item.TheVariants as items
use Rattle.traversal_run.specs.Seen.{AreCodes, code_of}
use Rattle.traversal_run.proofs.Codes.{codes-kept, unseen-value}
use Rattle.rec_bytes.proofs.Causes.{never_ok}
use Rattle.traversal_run.proofs.seen.Seen.add_value.Goals as goal

pub invariant_of-self : goal.invariant_of-self
invariant_of-self c = subst AreCodes (sym c.in_err-is_new.ensures.err) c.self.invariant

pub invariant_of-self-2 : goal.invariant_of-self-2
invariant_of-self-2 c =
    let codes = c.self.inside.codes in
    let code = c.in_ok-code.ensures.is in
    let kept : c.add.new.self ≡ cond c.in_ok-is_new.is_new (codes ++ code_of c.args.value.now ∷ []) codes
    = c.in_ok-is_new.ensures.added ∙ ap (λ (t : List ℕ). cond c.in_ok-is_new.is_new (codes ++ t ∷ []) codes) code in
    codes-kept codes c.add.new.self c.args.value.now c.in_ok-is_new.is_new c.in_ok-code.ensures.range c.self.invariant kept

pub returns : goal.returns
returns c = λ later.
    let old = c.self.inside in
    let codes = old.codes in
    let value = c.args.value.now in
    let code = c.in_ok-code.ensures.is in
    let is : c.in_ok-is_new.is_new ≡ not (list_any (pointwise nat_eq (code_of value)) codes) = c.in_ok-is_new.ensures.is_new
    ∙ ap (λ (t : List ℕ). not (list_any (pointwise nat_eq t) codes)) code in
    let kept : c.add.new.self ≡ cond c.in_ok-is_new.is_new (codes ++ code_of value ∷ []) codes
    = c.in_ok-is_new.ensures.added ∙ ap (λ (t : List ℕ). cond c.in_ok-is_new.is_new (codes ++ t ∷ []) codes) code in
    ap (λ (seen : List Item). unseen seen (items.Value value ∷ later)) (sym c.self.view_is)
    ∙ unseen-value old.vertices old.edges codes value c.add.new.self c.in_ok-is_new.is_new c.in_ok-code.ensures.range c.self.invariant is kept later

pub returns-in_err-code : goal.returns-in_err-code
returns-in_err-code c = never_ok c.from_residual.result _ _ c.from_residual.ensures.1

pub returns-in_err-is_new : goal.returns-in_err-is_new
returns-in_err-is_new c = never_ok c.from_residual-in_err-is_new.result _ _ c.from_residual-in_err-is_new.ensures.1
