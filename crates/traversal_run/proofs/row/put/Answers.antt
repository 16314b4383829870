use Rattle.std.proofs.Common.{◌++◌, ◌∙◌, arith, get_or, refl, sym}
use Rattle.std.proofs.Math.Seq.{map-set_same}
use Rattle.traversal_run.specs.declared.row.Row.{Row}
use Rattle.traversal_run.proofs.OwedRows.{owe-past, owe-put}
use Rattle.traversal_run.proofs.row.put.Goals as goal

pub returns-then-at-rows-clause-stages : goal.returns-then-at-rows-clause-stages
returns-then-at-rows-clause-stages c =
    let any = c.index-rows-at.result in
    map-set_same (λ (row : Row). row.stage) c.args.rows.now c.args.at (record { stage = (get_or c.args.rows.now c.args.at any).stage; waiting = c.args.outs })
    any refl

pub returns-then-at-rows-clause-owes : goal.returns-then-at-rows-clause-owes
returns-then-at-rows-clause-owes c = λ records coming.
    owe-put records c.args.rows.now c.args.at c.index-rows-at.result c.args.outs coming c.requires.idle

pub returns-else-at-rows-clause-owes : goal.returns-else-at-rows-clause-owes
returns-else-at-rows-clause-owes c = λ records coming.
    owe-past records c.args.rows.now c.args.at coming (omega arith) ∙ sym (owe-past records c.args.rows.now c.args.at (c.args.outs ++ coming) (omega arith))
