use Rattle.std.proofs.Common.{arith, inl, inr, sym, ◌∙◌, subst, rules}
use Rattle.std.proofs.lemmas.Bool.{false≢true}
use Rattle.rec_bytes.specs.Space.{State}
use Rattle.group_store.specs.Raising.{HasRaised}
use Rattle.group_store.proofs.ChainHeads.{same_twice}
use Rattle.group_store.proofs.Raises.{can_read, got_same, lengths_read, raises, raises_after, raises_none}
use Rattle.group_store.proofs.KeptHeads.{heads_raised}
use Rattle.group_store.proofs.Causes.{cause_passed, later_on, space_cause_passed}
use Rattle.group_store.proofs.LeftBeside.{beside_none, beside_raised, counted_none, counted_raised}
use Rattle.group_store.proofs.LowHeads.{lengths_low}
use Rattle.rec_bytes.proofs.Causes.{never_ok}
use Rattle.chain_edit.proofs.Causes.{same_has, space_has}
use Rattle.group_store.proofs.GroupMetas.{raised_harms_none}
use Rattle.group_store.proofs.raising.count_group.Goals as goal

pub returns-then-row-clause-raised : goal.returns-then-row-clause-raised
returns-then-row-clause-raised g c = λ tells most empty can. raises_none (g.S.Reads.state c.args.space.now) c.args.node c.args.row.now most empty can
    c.if-row.true

pub returns-clause-raised : goal.returns-clause-raised
returns-clause-raised g c = λ tells most empty can.
    let s = g.S.Reads.state c.args.space.now in
    let y = g.S.Reads.state c.get.new.self in
    let z = g.S.Reads.state c.count_chains.new.space in
    let t = g.S.Reads.state c.set_counts.new.space in
    let node = c.args.node in
    let row = c.args.row.now in
    let same = same_twice s y z (got_same s y c.in_ok-rec.ensures.state) c.in_ok-counts.ensures.state in
    let lengths = lengths_read y z node row c.in_ok-counts.counts c.in_ok-counts.ensures.state (c.in_ok-counts.ensures.counts tells) in
    raises_after s z t node row.id most empty same
    (subst (λ (q : State). HasRaised z q node row.id most empty) (sym (c.in_ok-set_counts.ensures.ok tells)) (raises z node row most empty
    (can_read s z node row most empty same can) c.if-row.false c.in_ok-counts.counts lengths))

pub returns-in_err-rec-clause-cause : goal.returns-in_err-rec-clause-cause
returns-in_err-rec-clause-cause g c =
    space_cause_passed _ _ _ c.from_residual.result c.in_err-rec.field-0.0 (omega arith) c.in_err-rec.ensures.cause c.from_residual.ensures.1

pub returns-in_err-counts-clause-cause : goal.returns-in_err-counts-clause-cause
returns-in_err-counts-clause-cause g c =
    cause_passed _ _ _ c.from_residual-in_err-counts.result c.in_err-counts.field-0.0 c.in_ok-rec.ensures.cause.later c.in_err-counts.ensures.cause
    c.from_residual-in_err-counts.ensures.1

pub returns-in_err-set_counts-clause-cause : goal.returns-in_err-set_counts-clause-cause
returns-in_err-set_counts-clause-cause g c =
    space_cause_passed _ _ _ c.from_residual-in_err-set_counts.result c.in_err-set_counts.field-0.0
    (later_on c.in_ok-rec.ensures.cause.later c.in_ok-counts.ensures.cause.later) c.in_err-set_counts.ensures.cause
    c.from_residual-in_err-set_counts.ensures.1

-- ---- heads
pub returns-then-row-clause-heads : goal.returns-then-row-clause-heads
returns-then-row-clause-heads g c = λ tells h n o. o

pub returns-clause-heads : goal.returns-clause-heads
returns-clause-heads g c = λ tells.
    let s = g.S.Reads.state c.args.space.now in
    let y = g.S.Reads.state c.get.new.self in
    let z = g.S.Reads.state c.count_chains.new.space in
    let t = g.S.Reads.state c.set_counts.new.space in
    heads_raised s z t c.args.row.now.id c.in_ok-counts.counts (same_twice s y z (got_same s y c.in_ok-rec.ensures.state) c.in_ok-counts.ensures.state)
    (c.in_ok-set_counts.ensures.ok tells)

-- ---- what is left of other records

pub returns-then-row-clause-leaves_others : goal.returns-then-row-clause-leaves_others
returns-then-row-clause-leaves_others g c = λ tells own. beside_none (g.S.Reads.state c.args.space.now).records c.args.node

pub returns-clause-leaves_others : goal.returns-clause-leaves_others
returns-clause-leaves_others g c = λ tells own.
    let s = g.S.Reads.state c.args.space.now in
    let y = g.S.Reads.state c.get.new.self in
    let z = g.S.Reads.state c.count_chains.new.space in
    beside_raised s z (g.S.Reads.state c.set_counts.new.space) c.args.node c.args.row.now.id c.in_ok-counts.counts
    (same_twice s y z (got_same s y c.in_ok-rec.ensures.state) c.in_ok-counts.ensures.state) (c.in_ok-set_counts.ensures.ok tells) own

pub returns-then-row-clause-counts : goal.returns-then-row-clause-counts
returns-then-row-clause-counts g c = λ tells at. counted_none (g.S.Reads.state c.args.space.now).records

pub returns-clause-counts : goal.returns-clause-counts
returns-clause-counts g c = λ tells at.
    let s = g.S.Reads.state c.args.space.now in
    let y = g.S.Reads.state c.get.new.self in
    let z = g.S.Reads.state c.count_chains.new.space in
    counted_raised s z (g.S.Reads.state c.set_counts.new.space) c.args.node c.args.row.now.id c.in_ok-counts.counts at.member
    (same_twice s y z (got_same s y c.in_ok-rec.ensures.state) c.in_ok-counts.ensures.state) (c.in_ok-set_counts.ensures.ok tells)

pub returns-in_err-rec-clause-raised : goal.returns-in_err-rec-clause-raised
returns-in_err-rec-clause-raised g c _ = never_ok c.from_residual.result _ _ c.from_residual.ensures.1

pub returns-in_err-rec-clause-heads : goal.returns-in_err-rec-clause-heads
returns-in_err-rec-clause-heads g c _ = never_ok c.from_residual.result _ _ c.from_residual.ensures.1

pub returns-in_err-rec-clause-leaves_others : goal.returns-in_err-rec-clause-leaves_others
returns-in_err-rec-clause-leaves_others g c _ _ = never_ok c.from_residual.result _ _ c.from_residual.ensures.1

pub returns-in_err-rec-clause-counts : goal.returns-in_err-rec-clause-counts
returns-in_err-rec-clause-counts g c _ _ = never_ok c.from_residual.result _ _ c.from_residual.ensures.1

pub returns-in_err-rec-clause-onward : goal.returns-in_err-rec-clause-onward
returns-in_err-rec-clause-onward g c = search rules

pub returns-in_err-counts-clause-raised : goal.returns-in_err-counts-clause-raised
returns-in_err-counts-clause-raised g c _ = never_ok c.from_residual-in_err-counts.result _ _ c.from_residual-in_err-counts.ensures.1

pub returns-in_err-counts-clause-heads : goal.returns-in_err-counts-clause-heads
returns-in_err-counts-clause-heads g c _ = never_ok c.from_residual-in_err-counts.result _ _ c.from_residual-in_err-counts.ensures.1

pub returns-in_err-counts-clause-leaves_others : goal.returns-in_err-counts-clause-leaves_others
returns-in_err-counts-clause-leaves_others g c _ _ = never_ok c.from_residual-in_err-counts.result _ _ c.from_residual-in_err-counts.ensures.1

pub returns-in_err-counts-clause-counts : goal.returns-in_err-counts-clause-counts
returns-in_err-counts-clause-counts g c _ _ = never_ok c.from_residual-in_err-counts.result _ _ c.from_residual-in_err-counts.ensures.1

pub returns-in_err-set_counts-clause-raised : goal.returns-in_err-set_counts-clause-raised
returns-in_err-set_counts-clause-raised g c _ = never_ok c.from_residual-in_err-set_counts.result _ _ c.from_residual-in_err-set_counts.ensures.1

pub returns-in_err-set_counts-clause-heads : goal.returns-in_err-set_counts-clause-heads
returns-in_err-set_counts-clause-heads g c _ = never_ok c.from_residual-in_err-set_counts.result _ _ c.from_residual-in_err-set_counts.ensures.1

pub returns-in_err-set_counts-clause-leaves_others : goal.returns-in_err-set_counts-clause-leaves_others
returns-in_err-set_counts-clause-leaves_others g c _ _ = never_ok c.from_residual-in_err-set_counts.result _ _ c.from_residual-in_err-set_counts.ensures.1

pub returns-in_err-set_counts-clause-counts : goal.returns-in_err-set_counts-clause-counts
returns-in_err-set_counts-clause-counts g c _ _ = never_ok c.from_residual-in_err-set_counts.result _ _ c.from_residual-in_err-set_counts.ensures.1

pub returns-in_err-rec-clause-not_damaged : goal.returns-in_err-rec-clause-not_damaged
returns-in_err-rec-clause-not_damaged g c _ _ _ _ = space_has _ tt tt c.from_residual.result c.in_err-rec.field-0.0 c.from_residual.ensures.1

pub returns-in_err-rec-clause-breaks : goal.returns-in_err-rec-clause-breaks
returns-in_err-rec-clause-breaks g c _ _ = space_has _ tt tt c.from_residual.result c.in_err-rec.field-0.0 c.from_residual.ensures.1

pub returns-in_err-rec-clause-names : goal.returns-in_err-rec-clause-names
returns-in_err-rec-clause-names g c _ = space_has _ tt tt c.from_residual.result c.in_err-rec.field-0.0 c.from_residual.ensures.1

pub returns-in_err-rec-clause-unwritten : goal.returns-in_err-rec-clause-unwritten
returns-in_err-rec-clause-unwritten g c = space_has _ tt tt c.from_residual.result c.in_err-rec.field-0.0 c.from_residual.ensures.1

pub returns-in_err-set_counts-clause-not_damaged : goal.returns-in_err-set_counts-clause-not_damaged
returns-in_err-set_counts-clause-not_damaged g c _ _ _ _ = space_has _ tt tt c.from_residual-in_err-set_counts.result c.in_err-set_counts.field-0.0
    c.from_residual-in_err-set_counts.ensures.1

pub returns-in_err-set_counts-clause-breaks : goal.returns-in_err-set_counts-clause-breaks
returns-in_err-set_counts-clause-breaks g c _ _ = space_has _ tt tt c.from_residual-in_err-set_counts.result c.in_err-set_counts.field-0.0
    c.from_residual-in_err-set_counts.ensures.1

pub returns-in_err-set_counts-clause-names : goal.returns-in_err-set_counts-clause-names
returns-in_err-set_counts-clause-names g c _ = space_has _ tt tt c.from_residual-in_err-set_counts.result c.in_err-set_counts.field-0.0
    c.from_residual-in_err-set_counts.ensures.1

pub returns-in_err-set_counts-clause-unwritten : goal.returns-in_err-set_counts-clause-unwritten
returns-in_err-set_counts-clause-unwritten g c = space_has _ tt tt c.from_residual-in_err-set_counts.result c.in_err-set_counts.field-0.0
    c.from_residual-in_err-set_counts.ensures.1

pub returns-in_err-counts-clause-names : goal.returns-in_err-counts-clause-names
returns-in_err-counts-clause-names g c tells = same_has _ c.from_residual-in_err-counts.result _ c.from_residual-in_err-counts.ensures.1
    (c.in_err-counts.ensures.names tells)

pub returns-in_err-counts-clause-onward : goal.returns-in_err-counts-clause-onward
returns-in_err-counts-clause-onward g c =
    g.met.S.Reads.further_onward _ _ _ c.in_ok-rec.ensures.onward c.in_err-counts.ensures.onward

pub returns-in_err-set_counts-clause-onward : goal.returns-in_err-set_counts-clause-onward
returns-in_err-set_counts-clause-onward g c =
    g.met.S.Reads.further_onward _ _ _ (g.met.S.Reads.further_onward _ _ _ c.in_ok-rec.ensures.onward c.in_ok-counts.ensures.onward)
    c.in_err-set_counts.ensures.onward

-- ---- the free list of the groups

pub returns-then-row-clause-lists : goal.returns-then-row-clause-lists
returns-then-row-clause-lists g c = λ tells used d why. why

pub returns-clause-lists : goal.returns-clause-lists
returns-clause-lists g c = λ tells used.
    let s = g.S.Reads.state c.args.space.now in
    let y = g.S.Reads.state c.get.new.self in
    let z = g.S.Reads.state c.count_chains.new.space in
    raised_harms_none s z (g.S.Reads.state c.set_counts.new.space) c.args.row.now.id c.in_ok-counts.counts
    (same_twice s y z (got_same s y c.in_ok-rec.ensures.state) c.in_ok-counts.ensures.state) (c.in_ok-set_counts.ensures.ok tells) used

pub returns-in_err-rec-clause-lists : goal.returns-in_err-rec-clause-lists
returns-in_err-rec-clause-lists g c _ _ = never_ok c.from_residual.result _ _ c.from_residual.ensures.1

pub returns-in_err-counts-clause-lists : goal.returns-in_err-counts-clause-lists
returns-in_err-counts-clause-lists g c _ _ = never_ok c.from_residual-in_err-counts.result _ _ c.from_residual-in_err-counts.ensures.1

pub returns-in_err-set_counts-clause-lists : goal.returns-in_err-set_counts-clause-lists
returns-in_err-set_counts-clause-lists g c _ _ = never_ok c.from_residual-in_err-set_counts.result _ _ c.from_residual-in_err-set_counts.ensures.1

-- ---- a group that has its numbers

pub returns-in_err-rec-clause-kept : goal.returns-in_err-rec-clause-kept
returns-in_err-rec-clause-kept g c counted = absurd (false≢true (sym c.if-row.false ∙ counted))

pub returns-in_err-counts-clause-kept : goal.returns-in_err-counts-clause-kept
returns-in_err-counts-clause-kept g c counted = absurd (false≢true (sym c.if-row.false ∙ counted))

pub returns-in_err-set_counts-clause-kept : goal.returns-in_err-set_counts-clause-kept
returns-in_err-set_counts-clause-kept g c counted = absurd (false≢true (sym c.if-row.false ∙ counted))

pub returns-clause-kept : goal.returns-clause-kept
returns-clause-kept g c counted = absurd (false≢true (sym c.if-row.false ∙ counted))

-- ---- where its chains begin

pub returns-then-row-clause-low : goal.returns-then-row-clause-low
returns-then-row-clause-low g c = λ tells at. inl c.if-row.true

pub returns-clause-low : goal.returns-clause-low
returns-clause-low g c = λ tells at.
    let s = g.S.Reads.state c.args.space.now in
    let y = g.S.Reads.state c.get.new.self in
    let z = g.S.Reads.state c.count_chains.new.space in
    let node = c.args.node in
    let row = c.args.row.now in
    inr (lengths_low s z (g.S.Reads.state c.set_counts.new.space) node row c.in_ok-counts.counts
    (same_twice s y z (got_same s y c.in_ok-rec.ensures.state) c.in_ok-counts.ensures.state) at.is
    (lengths_read y z node row c.in_ok-counts.counts c.in_ok-counts.ensures.state (c.in_ok-counts.ensures.counts tells))
    (c.in_ok-set_counts.ensures.ok tells))

pub returns-in_err-rec-clause-low : goal.returns-in_err-rec-clause-low
returns-in_err-rec-clause-low g c _ _ = never_ok c.from_residual.result _ _ c.from_residual.ensures.1

pub returns-in_err-counts-clause-low : goal.returns-in_err-counts-clause-low
returns-in_err-counts-clause-low g c _ _ = never_ok c.from_residual-in_err-counts.result _ _ c.from_residual-in_err-counts.ensures.1

pub returns-in_err-set_counts-clause-low : goal.returns-in_err-set_counts-clause-low
returns-in_err-set_counts-clause-low g c _ _ = never_ok c.from_residual-in_err-set_counts.result _ _ c.from_residual-in_err-set_counts.ensures.1
