use Rattle.std.proofs.Common.{◌≡◌, rules, ap, ◌∙◌}
use Rattle.rec_bytes.specs.declared.record.TheConstants.Rec.{ZEROS}
use Rattle.rec_bytes.specs.Shape.{shape_of_record, with_shape}
use Rattle.rec_bytes.proofs.Shapes.{shape_reads_back}
use Rattle.rec_bytes.proofs.shape.Shape.write.Goals as goal

pub returns-clause-got : goal.returns-clause-got
returns-clause-got c zeros allowed =
    let is : c.set_number.new.self ≡ with_shape ZEROS c.args.self.now = cc in
    ap shape_of_record is ∙ shape_reads_back c.args.self.now (search rules) (search rules) allowed
