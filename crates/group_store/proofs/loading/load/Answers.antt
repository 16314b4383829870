use Rattle.std.proofs.Common.{◌≡◌, ap, ◌∙◌, subst, sym, IfErr, arith}
use Rattle.rec_bytes.specs.declared.meta.Meta.{Meta}
use Rattle.rec_bytes.specs.declared.shape.Shape.{Shape}
use Rattle.rec_bytes.specs.Format as format
use Rattle.rec_bytes.specs.RecordFiles.{room_of}
use Rattle.group_store.specs.Loading.{IsRowFault, group_mark, group_room}
use Rattle.group_store.specs.Loading.IsRowDamage.{HighMark}
use Rattle.group_store.proofs.UnknownKinds.{fault-read_row}
use Rattle.group_store.proofs.loading.load.Goals as goal

pub returns-then-id-room_of-clause-damaged : goal.returns-then-id-room_of-clause-damaged
returns-then-id-room_of-clause-damaged g c = λ tells.
    let s = g.R.Reads.state c.args.space.now in
    let mark : c.meta.result.high ≡ group_mark s = ap (λ (m : Meta). m.high) c.meta.ensures in
    let room : c.room_of.result ≡ group_room s = c.room_of.ensures ∙ ap (λ (shape : Shape). room_of shape format.groups_file) c.shape.ensures.is in
    HighMark (omega arith)

pub returns-in-Ok-clause-damaged : goal.returns-in-Ok-clause-damaged
returns-in-Ok-clause-damaged g c = λ tells.
    let s = g.R.Reads.state c.args.space.now in
    let mark : c.meta.result.high ≡ group_mark s = ap (λ (m : Meta). m.high) c.meta.ensures in
    let fault = fault-read_row s c.args.id c.get_into.new.rec (omega arith) (c.in-Ok.ensures.got tells) in
    subst (λ r. IfErr r (IsRowFault s c.args.id)) (sym c.read_row.ensures) fault
