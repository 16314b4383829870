use Rattle.std.proofs.Common.{◌≡◌, ap, ◌∙◌, arith}
use Rattle.rec_bytes.specs.declared.meta.Meta.{Meta}
use Rattle.rec_bytes.specs.declared.shape.Shape.{Shape}
use Rattle.rec_bytes.specs.Format as format
use Rattle.rec_bytes.specs.RecordFiles.{room_of}
use Rattle.group_store.specs.Links.IsLinkDamage.{LeadsNowhere, HighLink}
use Rattle.group_store.specs.Loading.{group_mark, group_room}
use Rattle.group_store.proofs.links.test_link.Goals as goal

pub returns-then-link-meta-clause-damaged : goal.returns-then-link-meta-clause-damaged
returns-then-link-meta-clause-damaged g c =
    let s = g.R.Reads.state c.args.space.now in
    let mark : c.meta.result.high ≡ group_mark s = ap (λ (m : Meta). m.high) c.meta.ensures in
    LeadsNowhere c.if-link-eq-NIL.false (omega arith)

pub returns-then-link-room_of-clause-damaged : goal.returns-then-link-room_of-clause-damaged
returns-then-link-room_of-clause-damaged g c =
    let s = g.R.Reads.state c.args.space.now in
    let mark : c.meta.result.high ≡ group_mark s = ap (λ (m : Meta). m.high) c.meta.ensures in
    let room : c.room_of.result ≡ group_room s = c.room_of.ensures ∙ ap (λ (shape : Shape). room_of shape format.groups_file) c.shape.ensures.is in
    HighLink (omega arith)
