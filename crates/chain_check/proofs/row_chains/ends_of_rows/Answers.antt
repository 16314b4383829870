use Rattle.std.proofs.Common.{[], ap, arith, get_or, map, sym, take, ℕ, ◌++◌, ◌∙◌, ◌∷◌, ◌≡◌}
use Rattle.std.proofs.lemmas.Grind.{common_steps}
use Rattle.std.proofs.lemmas.List.{map_more, take_all}
use Rattle.chain_check.specs.LinkRows.{row_at, row_end}
use Rattle.chain_check.proofs.row_chains.ends_of_rows.Goals as goal

pub loop-id-preserved : goal.loop-id-preserved
loop-id-preserved c =
    let ids = c.args.ids.now in
    let rows = c.args.rows.now in
    let at = c.loop-id.id-index in
    let id = get_or ids at 0 in
    let of = λ (x : ℕ). row_end c.args.node x (row_at rows x) in
    let one : c.end.result ≡ of id = c.end.ensures.is ∙ ap (row_end c.args.node id) c.row_at.ensures in
    record {
      low = grind (arith, common_steps);
      ends = c.in_ok-push.ensures.items ∙ ap (λ xs. xs ++ c.end.result ∷ []) c.loop-id.invariant.ends ∙ ap (λ x. map of (take at ids) ++ x ∷ []) one
          ∙ sym (map_more of ids at 0 c.loop-id-test.true);
    }

pub returns-clause-ends : goal.returns-clause-ends
returns-clause-ends c =
    let ids = c.args.ids.now in
    let rows = c.args.rows.now in
    let all : take c.loop-id.id-index ids ≡ ids = take_all c.loop-id.id-index ids (omega arith) in
    c.loop-id.invariant.ends ∙ ap (map (λ x. row_end c.args.node x (row_at rows x))) all
