use Rattle.std.proofs.Common.{◌≡◌, ◌<◌, ◌+◌, ◌-◌, ℕ, refl, sym, subst, arith, rules}
use Rattle.std.proofs.lemmas.Result.{err_from_is_err_and}
use Rattle.rec_bytes.specs.declared.damage.Damage.{Damage}
use Rattle.store_rules.specs.Breaking.{Breaks}
use Rattle.group_store.specs.declared.raising.Counts.{Counts}
use Rattle.group_store.specs.declared.side.Side.TheVariants.{Out, In as Into, Loop}
use Rattle.group_store.specs.Raising.{first_in, members_of}
use Rattle.group_store.proofs.ChainHeads.{same_twice}
use Rattle.group_store.proofs.Openings.{handed}
use Rattle.group_store.proofs.Raises.{can_read, counted_read, degree_breaks, degree_right, side_chain}
use Rattle.group_store.proofs.Causes.{cause_passed, later_on}
use Rattle.rec_bytes.proofs.Causes.{never_ok}
use Rattle.chain_edit.proofs.Causes.{same_has}
use Rattle.group_store.proofs.raising.count_chains.Goals as goal

pub returns-in_err-out-clause-not_damaged : goal.returns-in_err-out-clause-not_damaged
returns-in_err-out-clause-not_damaged g c = λ tells is most empty can.
    let s = g.R.Reads.state c.args.space.now in
    let p = err_from_is_err_and c.from_residual.result c.from_residual.ensures.1 in
    let chain = side_chain s c.args.node c.args.row.now most empty can Out in
    rw (p.1, p.2) (handed ℕ Counts c.in_err-out.field-0.0 (c.in_err-out.ensures.not_damaged tells (can.keeps.ranges.metas 2 refl).high chain.0 chain.1))

pub returns-in_err-into-clause-not_damaged : goal.returns-in_err-into-clause-not_damaged
returns-in_err-into-clause-not_damaged g c = λ tells is most empty can.
    let s = g.R.Reads.state c.args.space.now in
    let z = g.R.Reads.state c.side_length.new.space in
    let now = can_read s z c.args.node c.args.row.now most empty c.in_ok-out.ensures.state can in
    let p = err_from_is_err_and c.from_residual-in_err-into.result c.from_residual-in_err-into.ensures.1 in
    let chain = side_chain z c.args.node c.args.row.now most empty now Into in
    rw (p.1, p.2) (handed ℕ Counts c.in_err-into.field-0.0 (c.in_err-into.ensures.not_damaged tells (now.keeps.ranges.metas 2 refl).high chain.0 chain.1))

pub returns-in_err-loops-clause-not_damaged : goal.returns-in_err-loops-clause-not_damaged
returns-in_err-loops-clause-not_damaged g c = λ tells is most empty can.
    let s = g.R.Reads.state c.args.space.now in
    let y = g.R.Reads.state c.side_length.new.space in
    let z = g.R.Reads.state c.side_length-2.new.space in
    let now = can_read s z c.args.node c.args.row.now most empty (same_twice s y z c.in_ok-out.ensures.state c.in_ok-into.ensures.state) can in
    let p = err_from_is_err_and c.from_residual-in_err-loops.result c.from_residual-in_err-loops.ensures.1 in
    let chain = side_chain z c.args.node c.args.row.now most empty now Loop in
    rw (p.1, p.2) (handed ℕ Counts c.in_err-loops.field-0.0 (c.in_err-loops.ensures.not_damaged tells (now.keeps.ranges.metas 2 refl).high chain.0 chain.1))

pub returns-then-limit-out-clause-not_damaged : goal.returns-then-limit-out-clause-not_damaged
returns-then-limit-out-clause-not_damaged g c = λ tells is most empty can.
    let s = g.R.Reads.state c.args.space.now in
    let y = g.R.Reads.state c.side_length.new.space in
    let z = g.R.Reads.state c.side_length-2.new.space in
    let node = c.args.node in
    let row = c.args.row.now in
    let limit = c.saturating_add-limit.result in
    let a = c.in_ok-out.out in
    let b = c.in_ok-into.into in
    let d = c.in_ok-loops.loops in
    let all : (a + b) + d ≡ limit = omega (arith, c.if-limit-out.true, c.in_ok-out.ensures.few, c.in_ok-into.ensures.few) in
    degree_right s node row can.group c.args.node_degree limit a b d is c.saturating_add-limit.ensures all (c.in_ok-out.ensures.counted tells)
    (counted_read s y (first_in row Into) node (members_of row.label Into) (limit - a) b c.in_ok-out.ensures.state (c.in_ok-into.ensures.counted tells))
    (counted_read s z (first_in row Loop) node (members_of row.label Loop) (limit - a - b) d (same_twice s y z c.in_ok-out.ensures.state
    c.in_ok-into.ensures.state) (c.in_ok-loops.ensures.counted tells)) can.keeps

pub returns-then-limit-out-clause-breaks : goal.returns-then-limit-out-clause-breaks
returns-then-limit-out-clause-breaks g c = λ tells is at.
    let s = g.R.Reads.state c.args.space.now in
    let y = g.R.Reads.state c.side_length.new.space in
    let z = g.R.Reads.state c.side_length-2.new.space in
    let node = c.args.node in
    let row = c.args.row.now in
    let limit = c.saturating_add-limit.result in
    let a = c.in_ok-out.out in
    let b = c.in_ok-into.into in
    let d = c.in_ok-loops.loops in
    let all : (a + b) + d ≡ limit = omega (arith, c.if-limit-out.true, c.in_ok-out.ensures.few, c.in_ok-into.ensures.few) in
    subst (λ (k : Damage). Breaks s.records s.shape k) (sym c.degree_damage.ensures)
    (degree_breaks s node row at c.args.node_degree limit a b d is c.saturating_add-limit.ensures all (c.in_ok-out.ensures.counted tells)
    (counted_read s y (first_in row Into) node (members_of row.label Into) (limit - a) b c.in_ok-out.ensures.state (c.in_ok-into.ensures.counted tells))
    (counted_read s z (first_in row Loop) node (members_of row.label Loop) (limit - a - b) d (same_twice s y z c.in_ok-out.ensures.state
    c.in_ok-into.ensures.state) (c.in_ok-loops.ensures.counted tells)))

pub returns-clause-counts : goal.returns-clause-counts
returns-clause-counts g c = λ tells.
    let s = g.R.Reads.state c.args.space.now in
    let y = g.R.Reads.state c.side_length.new.space in
    let z = g.R.Reads.state c.side_length-2.new.space in
    let node = c.args.node in
    let row = c.args.row.now in
    let limit = c.saturating_add-limit.result in
    let a = c.in_ok-out.out in
    let b = c.in_ok-into.into in
    let d = c.in_ok-loops.loops in
    let few : d < limit - a - b = omega (arith, c.if-limit-out.false, c.in_ok-loops.ensures.few) in
    let into = counted_read s y (first_in row Into) node (members_of row.label Into) (limit - a) b c.in_ok-out.ensures.state
    (c.in_ok-into.ensures.counted tells) in
    let loops = counted_read s z (first_in row Loop) node (members_of row.label Loop) (limit - a - b) d
    (same_twice s y z c.in_ok-out.ensures.state c.in_ok-into.ensures.state) (c.in_ok-loops.ensures.counted tells) in
    record {
      out = (c.in_ok-out.ensures.counted tells).whole (omega arith);
      into = into.whole (omega arith);
      loops = loops.whole few;
    }

pub returns-in_err-out-clause-cause : goal.returns-in_err-out-clause-cause
returns-in_err-out-clause-cause g c =
    cause_passed _ _ _ c.from_residual.result c.in_err-out.field-0.0 (omega arith) c.in_err-out.ensures.cause c.from_residual.ensures.1

pub returns-in_err-into-clause-cause : goal.returns-in_err-into-clause-cause
returns-in_err-into-clause-cause g c =
    cause_passed _ _ _ c.from_residual-in_err-into.result c.in_err-into.field-0.0 c.in_ok-out.ensures.cause.later c.in_err-into.ensures.cause
    c.from_residual-in_err-into.ensures.1

pub returns-in_err-loops-clause-cause : goal.returns-in_err-loops-clause-cause
returns-in_err-loops-clause-cause g c =
    cause_passed _ _ _ c.from_residual-in_err-loops.result c.in_err-loops.field-0.0 (later_on c.in_ok-out.ensures.cause.later c.in_ok-into.ensures.cause.later)
    c.in_err-loops.ensures.cause c.from_residual-in_err-loops.ensures.1

pub returns-in_err-out-clause-counts : goal.returns-in_err-out-clause-counts
returns-in_err-out-clause-counts g c _ = never_ok c.from_residual.result _ _ c.from_residual.ensures.1

pub returns-in_err-out-clause-onward : goal.returns-in_err-out-clause-onward
returns-in_err-out-clause-onward g c = search rules

pub returns-in_err-into-clause-counts : goal.returns-in_err-into-clause-counts
returns-in_err-into-clause-counts g c _ = never_ok c.from_residual-in_err-into.result _ _ c.from_residual-in_err-into.ensures.1

pub returns-in_err-loops-clause-counts : goal.returns-in_err-loops-clause-counts
returns-in_err-loops-clause-counts g c _ = never_ok c.from_residual-in_err-loops.result _ _ c.from_residual-in_err-loops.ensures.1

pub returns-in_err-out-clause-breaks : goal.returns-in_err-out-clause-breaks
returns-in_err-out-clause-breaks g c tells is at = same_has _ c.from_residual.result _ c.from_residual.ensures.1 (c.in_err-out.ensures.breaks tells at)

pub returns-in_err-out-clause-names : goal.returns-in_err-out-clause-names
returns-in_err-out-clause-names g c tells = same_has _ c.from_residual.result _ c.from_residual.ensures.1 (c.in_err-out.ensures.names tells)

pub returns-in_err-into-clause-names : goal.returns-in_err-into-clause-names
returns-in_err-into-clause-names g c tells = same_has _ c.from_residual-in_err-into.result _ c.from_residual-in_err-into.ensures.1
    (c.in_err-into.ensures.names tells)

pub returns-in_err-loops-clause-names : goal.returns-in_err-loops-clause-names
returns-in_err-loops-clause-names g c tells = same_has _ c.from_residual-in_err-loops.result _ c.from_residual-in_err-loops.ensures.1
    (c.in_err-loops.ensures.names tells)

pub returns-in_err-out-clause-state : goal.returns-in_err-out-clause-state
returns-in_err-out-clause-state g c = c.in_err-out.ensures.state

pub returns-in_err-into-clause-onward : goal.returns-in_err-into-clause-onward
returns-in_err-into-clause-onward g c =
    g.met.R.Reads.further_onward _ _ _ c.in_ok-out.ensures.onward c.in_err-into.ensures.onward

pub returns-in_err-loops-clause-onward : goal.returns-in_err-loops-clause-onward
returns-in_err-loops-clause-onward g c =
    g.met.R.Reads.further_onward _ _ _ (g.met.R.Reads.further_onward _ _ _ c.in_ok-out.ensures.onward c.in_ok-into.ensures.onward) c.in_err-loops.ensures.onward
