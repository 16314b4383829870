-- Runs of which nothing is to come.
use Rattle.std.proofs.Common.{◌≡◌, ℕ, suc, zero, Bool, true, false, not, ◌&&◌, Some, List, [], ◌∷◌, length, take, get_or, refl, sym, ap, ◌∙◌, arith}
use Rattle.std.specs.List.{list_all}
use Rattle.std.proofs.Math.Seq.{take-length}
use Rattle.plain_graph.specs.Graph.{Graph}
use Rattle.plain_graph.specs.declared.item.Item.{Item}
use Rattle.traversal_run.specs.Row.{stages_of, stream, through, with_first}
use Rattle.traversal_run.specs.Run.{allowed_by}
use Rattle.traversal_run.specs.Source.{elements_left, is_over}
use Rattle.traversal_run.specs.Stage.{is_count}
use Rattle.traversal_run.specs.declared.row.Row.{Row}
use Rattle.traversal_run.specs.declared.source.Left.{Left}
use Rattle.traversal_run.specs.declared.source.Left.TheVariants.{Among, From, Nothing}
use Rattle.traversal_run.proofs.Limits.{allowed-zero_last, allowed-zero_ready}
use Rattle.traversal_run.proofs.Rows.{left_of-over, through_spent}

over_gives : (graph : Graph) (edges : Bool) (left : Left) → is_over left ≡ true → elements_left graph edges left ≡ []
over_gives graph edges (From from) over = cc
over_gives graph edges (Among ids) over = cc
over_gives graph edges Nothing over = left_of-over graph edges

no_count-take : (rows : List Row) (at : ℕ) → list_all (λ (r : Row). not (is_count r.stage)) rows ≡ true
    → list_all (λ (r : Row). not (is_count r.stage)) (take at rows) ≡ true
no_count-take [] zero none = refl
no_count-take [] (suc at) none = refl
no_count-take (row ∷ rows) zero none = refl
no_count-take (row ∷ rows) (suc at) none = by (no_count-take rows at) (is_count row.stage) none
  where
    by : (list_all (λ (r : Row). not (is_count r.stage)) rows ≡ true → list_all (λ (r : Row). not (is_count r.stage)) (take at rows) ≡ true)
        → (b : Bool) → not b && list_all (λ (r : Row). not (is_count r.stage)) rows ≡ true → not b
        && list_all (λ (r : Row). not (is_count r.stage)) (take at rows) ≡ true
    by later true all = cc
    by later false all = later all

-- a run whose last step lets nothing through
pub spent-to_come : (graph : Graph) (ready : List Item) (rows : List Row) (edges : Bool) (left : Left)
    → allowed_by (is_over left) (stages_of rows) (length ready) ≡ Some 0
    → with_first ready (through graph rows (stream (elements_left graph edges left))) ≡ stream []
spent-to_come graph ready rows edges left all =
    let none = allowed-zero_ready (is_over left) (stages_of rows) ready all in
    ap (λ items. with_first items (through graph rows (stream (elements_left graph edges left)))) none
    ∙ by rows (sym (ap (λ (items : List Item). allowed_by (is_over left) (stages_of rows) (length items)) none) ∙ all)
  where
    at_end : (over : Bool) → allowed_by over [] 0 ≡ Some 0 → over ≡ true
    at_end true e = refl
    at_end false e = absurd cc

    by : (list : List Row) → allowed_by (is_over left) (stages_of list) 0 ≡ Some 0 → through graph list (stream (elements_left graph edges left)) ≡ stream []
    by [] e = ap stream (over_gives graph edges left (at_end (is_over left) e))
    by (first ∷ later) e =
        let list = first ∷ later in
        let at = length later in
        let row = get_or list at first in
        let last = allowed-zero_last (is_over left) list at row first refl refl e in
        ap (λ rs. through graph rs (stream (elements_left graph edges left))) (sym (take-length list))
        ∙ through_spent graph list at row first (stream (elements_left graph edges left)) (omega arith) refl last.0 (no_count-take list at last.1)
