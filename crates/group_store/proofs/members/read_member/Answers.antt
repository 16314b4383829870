use Rattle.std.proofs.Common.{◌≡◌, ap, ◌∙◌, sym, subst, arith, rules}
use Rattle.rec_bytes.specs.declared.meta.Meta.{Meta}
use Rattle.rec_bytes.specs.declared.shape.Shape.{Shape}
use Rattle.rec_bytes.specs.Format as format
use Rattle.rec_bytes.specs.RecordFiles.{room_of}
use Rattle.group_store.specs.Loading.{group_mark, group_room}
use Rattle.group_store.specs.Walking.{IsMemberDamage}
use Rattle.group_store.specs.Walking.IsMemberDamage.{NoMember, HighMember}
use Rattle.group_store.proofs.GroupWalks.{reads_none, reads_one}
use Rattle.group_store.proofs.GroupRecords.{above_none, group_is, not_member}
use Rattle.group_store.proofs.Causes.{space_cause_passed}
use Rattle.rec_bytes.proofs.Causes.{never_ok}
use Rattle.group_store.proofs.members.read_member.Goals as goal

pub returns-then-id-meta-clause-at_most : goal.returns-then-id-meta-clause-at_most
returns-then-id-meta-clause-at_most g c = reads_none (g.R.Reads.state c.args.space.now) 1

pub returns-then-id-meta-clause-damaged : goal.returns-then-id-meta-clause-damaged
returns-then-id-meta-clause-damaged g c = λ tells.
    let s = g.R.Reads.state c.args.space.now in
    let mark : c.meta.result.high ≡ group_mark s = ap (λ (m : Meta). m.high) c.meta.ensures in
    subst (IsMemberDamage s c.args.node c.args.id) (sym c.chain_damage.ensures) (NoMember (above_none s.records c.args.node c.args.id (omega arith)))

pub returns-then-id-room_of-clause-at_most : goal.returns-then-id-room_of-clause-at_most
returns-then-id-room_of-clause-at_most g c = reads_none (g.R.Reads.state c.args.space.now) 1

pub returns-then-id-room_of-clause-damaged : goal.returns-then-id-room_of-clause-damaged
returns-then-id-room_of-clause-damaged g c = λ tells.
    let s = g.R.Reads.state c.args.space.now in
    let mark : c.meta.result.high ≡ group_mark s = ap (λ (m : Meta). m.high) c.meta.ensures in
    let room : c.room_of.result ≡ group_room s = c.room_of.ensures ∙ ap (λ (shape : Shape). room_of shape format.groups_file) c.shape.ensures.is in
    HighMember (omega arith)

pub returns-in_err-get_into-clause-at_most : goal.returns-in_err-get_into-clause-at_most
returns-in_err-get_into-clause-at_most g c = reads_one (g.R.Reads.state c.args.space.now) (g.R.Reads.state c.get_into.new.self) c.in_err-get_into.ensures.state

pub returns-then-not-is_group_of-clause-at_most : goal.returns-then-not-is_group_of-clause-at_most
returns-then-not-is_group_of-clause-at_most g c = reads_one (g.R.Reads.state c.args.space.now) (g.R.Reads.state c.get_into.new.self)
    c.in_ok-get_into.ensures.state

pub returns-then-not-is_group_of-clause-damaged : goal.returns-then-not-is_group_of-clause-damaged
returns-then-not-is_group_of-clause-damaged g c = λ tells.
    let s = g.R.Reads.state c.args.space.now in
    let mark : c.meta.result.high ≡ group_mark s = ap (λ (m : Meta). m.high) c.meta.ensures in
    subst (IsMemberDamage s c.args.node c.args.id) (sym c.member_damage.ensures)
    (not_member s c.args.node c.args.id c.get_into.new.rec (omega arith) (c.in_ok-get_into.ensures.got tells) (sym c.is_group_of.ensures
    ∙ c.if-not-is_group_of.true))

pub returns-clause-member : goal.returns-clause-member
returns-clause-member g c = λ tells.
    let s = g.R.Reads.state c.args.space.now in
    let mark : c.meta.result.high ≡ group_mark s = ap (λ (m : Meta). m.high) c.meta.ensures in
    group_is s.records c.args.node c.args.id c.get_into.new.rec (omega arith) (c.in_ok-get_into.ensures.got tells)
    (sym c.is_group_of.ensures ∙ c.if-not-is_group_of.false)

pub returns-clause-at_most : goal.returns-clause-at_most
returns-clause-at_most g c = reads_one (g.R.Reads.state c.args.space.now) (g.R.Reads.state c.get_into.new.self) c.in_ok-get_into.ensures.state

pub returns-in_err-get_into-clause-cause : goal.returns-in_err-get_into-clause-cause
returns-in_err-get_into-clause-cause g c =
    space_cause_passed _ _ _ c.from_residual.result c.in_err-get_into.field-0.0 (omega arith) c.in_err-get_into.ensures.cause c.from_residual.ensures.1

pub returns-in_err-get_into-clause-got : goal.returns-in_err-get_into-clause-got
returns-in_err-get_into-clause-got g c _ = never_ok c.from_residual.result _ _ c.from_residual.ensures.1

pub returns-in_err-get_into-clause-member : goal.returns-in_err-get_into-clause-member
returns-in_err-get_into-clause-member g c _ = never_ok c.from_residual.result _ _ c.from_residual.ensures.1

pub returns-in_err-get_into-clause-key : goal.returns-in_err-get_into-clause-key
returns-in_err-get_into-clause-key g c = never_ok c.from_residual.result _ _ c.from_residual.ensures.1

pub returns-in_err-get_into-clause-read : goal.returns-in_err-get_into-clause-read
returns-in_err-get_into-clause-read g c = never_ok c.from_residual.result _ _ c.from_residual.ensures.1

pub returns-in_err-get_into-clause-onward : goal.returns-in_err-get_into-clause-onward
returns-in_err-get_into-clause-onward g c = search rules
