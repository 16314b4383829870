use Rattle.std.proofs.Common.{◌≡◌, true, inr, refl, sym, ◌∙◌, subst}
use Rattle.chain_edit.specs.declared.members.Members.{Members}
use Rattle.chain_edit.specs.Length.{stands}
use Rattle.group_store.specs.Sides.{group_head}
use Rattle.group_store.proofs.BrokenGroups.{if_err}
use Rattle.group_store.proofs.ChainHeads.{only_read}
use Rattle.group_store.proofs.Raises.{first_is, group_is, length_names}
use Rattle.group_store.proofs.SideCounts.{owns_group, stands_there}
use Rattle.group_store.proofs.raising.side_length.Goals as goal

pub returns-clause-breaks : goal.returns-clause-breaks
returns-clause-breaks g c = λ tells at.
    let s = g.R.Reads.state c.args.space.now in
    let node = c.args.node in
    let row = c.args.row.now in
    let is = group_is s node row at in
    c.chain_length.ensures.breaks tells (group_head row.id c.args.side) refl (c.first_in.ensures ∙ first_is s node row at c.args.side)
    (inr (record { own = owns_group s.records row.id row.label node is c.args.side at.dense; on = at.on }))
    (λ x there. subst (λ (m : Members). stands s.records node m x ≡ true) (sym c.members_of.ensures) (stands_there s.records row.id row.label node is
    c.args.side x there))

pub returns-clause-state : goal.returns-clause-state
returns-clause-state g c = only_read (g.R.Reads.state c.args.space.now) (g.R.Reads.state c.chain_length.new.space) c.args.budget c.chain_length.ensures.at_most

pub returns-clause-names : goal.returns-clause-names
returns-clause-names g c = λ tells.
    let s = g.R.Reads.state c.args.space.now in
    if_err c.chain_length.result _ _ (length_names s c.args.node c.args.row.now.id _ _) (c.chain_length.ensures.damaged tells)
