use Rattle.std.proofs.Common.{arith, ℕ, Bool, [], ◌∷◌, sym, subst, rules}
use Rattle.std.proofs.lemmas.Result.{err_from_is_err_and}
use Rattle.rec_bytes.specs.Format as format
use Rattle.rec_bytes.specs.RecordFiles.{meta_key_of}
use Rattle.rec_bytes.specs.Space.{WritesOnly}
use Rattle.store_rules.specs.Views.{key_in}
use Rattle.group_store.specs.Dropping.{lead_key}
use Rattle.group_store.specs.GroupRecord.{group_key}
use Rattle.chain_edit.specs.Heads.{head_of}
use Rattle.group_store.proofs.BrokenGroups.{close_breaks}
use Rattle.group_store.proofs.Closings.{closable, closed_by}
use Rattle.group_store.proofs.ClosedBeside.{beside_closed}
use Rattle.group_store.proofs.KeptHeads.{heads_closed}
use Rattle.group_store.proofs.Openings.{handed}
use Rattle.group_store.proofs.OtherChains.{others_closed}
use Rattle.group_store.proofs.Causes.{cause_passed}
use Rattle.rec_bytes.proofs.Causes.{never_ok}
use Rattle.group_store.proofs.closing.close_chain.Goals as goal
use Rattle.group_store.proofs.closing.close_chain.Goals.{After-drop_if_empty}
use Rattle.group_store.proofs.closing.close_chain.Given.{Over}

pub returns-in_err-drop_if_empty-clause-not_damaged : goal.returns-in_err-drop_if_empty-clause-not_damaged
returns-in_err-drop_if_empty-clause-not_damaged g c = λ tells most empty can.
    let s = g.S.Reads.state c.args.space.now in
    let p = err_from_is_err_and c.from_residual.result c.from_residual.ensures.1 in
    let on = closable s c.args.head.key.file c.args.head.key.id c.args.head.field c.args.node most empty c.if-head-eq-GROUPS.true can in
    rw (p.1, p.2) (handed Bool Unit c.in_err-drop_if_empty.field-0.0 (c.in_err-drop_if_empty.ensures.not_damaged tells on.0 on.1))

-- the group's key is that of the head
written : (g : Over) (c : After-drop_if_empty g) → (before after : ℕ) × WritesOnly (g.S.Reads.state c.args.space.now)
    (g.S.Reads.state c.drop_if_empty.new.space) (group_key after ∷ lead_key c.args.node before ∷ c.args.head.key ∷ meta_key_of format.groups_file ∷ [])
written g c =
    let w = c.drop_if_empty.ensures.writes in (
      w.0,
      w.1,
      subst (λ f. WritesOnly (g.S.Reads.state c.args.space.now) (g.S.Reads.state c.drop_if_empty.new.space) (group_key w.1 ∷ lead_key c.args.node w.0 ∷
          key_in f c.args.head.key.id ∷ meta_key_of format.groups_file ∷ [])) (sym c.if-head-eq-GROUPS.true) w.2,
    )

pub returns-in_err-drop_if_empty-clause-writes : goal.returns-in_err-drop_if_empty-clause-writes
returns-in_err-drop_if_empty-clause-writes g c = written g (goal.at.returns-in_err-drop_if_empty-clause-writes g c).After-drop_if_empty

pub returns-in_ok-drop_if_empty-clause-closed : goal.returns-in_ok-drop_if_empty-clause-closed
returns-in_ok-drop_if_empty-clause-closed g c = λ tells most empty can.
    closed_by (g.S.Reads.state c.args.space.now) c.args.head.key.file c.args.head.key.id c.args.head.field c.args.node most empty c.if-head-eq-GROUPS.true can
    (g.S.Reads.state c.drop_if_empty.new.space)
    c.in_ok-drop_if_empty.field-0 (c.in_ok-drop_if_empty.ensures.is tells) c.in_ok-drop_if_empty.ensures.kept (c.in_ok-drop_if_empty.ensures.ok tells)
    (g.met.S.Reads.onward_shape _ _ c.in_ok-drop_if_empty.ensures.onward)

pub returns-in_ok-drop_if_empty-clause-writes : goal.returns-in_ok-drop_if_empty-clause-writes
returns-in_ok-drop_if_empty-clause-writes g c = written g (goal.at.returns-in_ok-drop_if_empty-clause-writes g c).After-drop_if_empty

pub returns-in_err-drop_if_empty-clause-breaks : goal.returns-in_err-drop_if_empty-clause-breaks
returns-in_err-drop_if_empty-clause-breaks g c = λ tells owns.
    let s = g.S.Reads.state c.args.space.now in
    let p = err_from_is_err_and c.from_residual.result c.from_residual.ensures.1 in
    rw (p.1, p.2) (close_breaks s (head_of c.args.head) c.args.node owns c.if-head-eq-GROUPS.true c.in_err-drop_if_empty.field-0.0
    (c.in_err-drop_if_empty.ensures.damaged tells))

pub returns-in_err-drop_if_empty-clause-cause : goal.returns-in_err-drop_if_empty-clause-cause
returns-in_err-drop_if_empty-clause-cause g c =
    cause_passed _ _ _ c.from_residual.result c.in_err-drop_if_empty.field-0.0 (omega arith) c.in_err-drop_if_empty.ensures.cause c.from_residual.ensures.1

-- ---- damage, and heads of other nodes
pub returns-in_err-drop_if_empty-clause-unwritten : goal.returns-in_err-drop_if_empty-clause-unwritten
returns-in_err-drop_if_empty-clause-unwritten g c =
    let p = err_from_is_err_and c.from_residual.result c.from_residual.ensures.1 in
    rw (p.1, p.2) c.in_err-drop_if_empty.ensures.unwritten

pub returns-in_ok-drop_if_empty-clause-heads : goal.returns-in_ok-drop_if_empty-clause-heads
returns-in_ok-drop_if_empty-clause-heads g c = λ tells owns.
    heads_closed (g.S.Reads.state c.args.space.now) (g.S.Reads.state c.drop_if_empty.new.space) (head_of c.args.head) c.args.node c.if-head-eq-GROUPS.true owns
    c.in_ok-drop_if_empty.field-0 c.in_ok-drop_if_empty.ensures.kept (c.in_ok-drop_if_empty.ensures.ok tells)

pub returns-in_ok-drop_if_empty-clause-others : goal.returns-in_ok-drop_if_empty-clause-others
returns-in_ok-drop_if_empty-clause-others g c = λ tells owns.
    others_closed (g.S.Reads.state c.args.space.now) (g.S.Reads.state c.drop_if_empty.new.space) (head_of c.args.head) c.args.node c.if-head-eq-GROUPS.true owns
    (g.met.S.Reads.onward_shape _ _ c.in_ok-drop_if_empty.ensures.onward)
    c.in_ok-drop_if_empty.field-0 c.in_ok-drop_if_empty.ensures.kept (c.in_ok-drop_if_empty.ensures.ok tells) (c.in_ok-drop_if_empty.ensures.linked tells)
    (c.in_ok-drop_if_empty.ensures.low tells)

pub returns-in_err-drop_if_empty-clause-damaged : goal.returns-in_err-drop_if_empty-clause-damaged
returns-in_err-drop_if_empty-clause-damaged g c = λ tells.
    let p = err_from_is_err_and c.from_residual.result c.from_residual.ensures.1 in
    rw (p.1, p.2) (c.in_err-drop_if_empty.ensures.damaged tells)

pub returns-in_err-drop_if_empty-clause-closed : goal.returns-in_err-drop_if_empty-clause-closed
returns-in_err-drop_if_empty-clause-closed g c _ = never_ok c.from_residual.result _ _ c.from_residual.ensures.1

pub returns-in_err-drop_if_empty-clause-heads : goal.returns-in_err-drop_if_empty-clause-heads
returns-in_err-drop_if_empty-clause-heads g c _ _ = never_ok c.from_residual.result _ _ c.from_residual.ensures.1

pub returns-in_err-drop_if_empty-clause-onward : goal.returns-in_err-drop_if_empty-clause-onward
returns-in_err-drop_if_empty-clause-onward g c = search rules

pub returns-in_err-drop_if_empty-clause-others : goal.returns-in_err-drop_if_empty-clause-others
returns-in_err-drop_if_empty-clause-others g c _ _ = never_ok c.from_residual.result _ _ c.from_residual.ensures.1

-- ---- records that stay
pub returns-in_ok-drop_if_empty-clause-keeps : goal.returns-in_ok-drop_if_empty-clause-keeps
returns-in_ok-drop_if_empty-clause-keeps g c = λ tells.
    beside_closed (g.S.Reads.state c.args.space.now) (g.S.Reads.state c.drop_if_empty.new.space) c.args.node c.args.head.key.id c.in_ok-drop_if_empty.field-0
    c.in_ok-drop_if_empty.ensures.kept (c.in_ok-drop_if_empty.ensures.ok tells)

pub returns-in_err-drop_if_empty-clause-keeps : goal.returns-in_err-drop_if_empty-clause-keeps
returns-in_err-drop_if_empty-clause-keeps g c _ = never_ok c.from_residual.result _ _ c.from_residual.ensures.1
