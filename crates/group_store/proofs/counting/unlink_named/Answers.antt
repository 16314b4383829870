use Rattle.std.proofs.Common.{◌+◌, arith, subst}
use Rattle.std.specs.Prelude.{IfSome}
use Rattle.std.proofs.lemmas.Result.{err_from_is_err_and}
use Rattle.rec_bytes.specs.declared.fault.Fault.{Fault}
use Rattle.rec_bytes.specs.Fault.{damage_of}
use Rattle.chain_edit.specs.Breaks.{IsBreakFault}
use Rattle.chain_edit.specs.Heads.{head_of}
use Rattle.chain_edit.specs.Unlinking.{IsUnlinkFault}
use Rattle.chain_edit.specs.Walking.{ReadsAtMost}
use Rattle.group_store.specs.Loading.{group_mark}
use Rattle.group_store.proofs.ChainHeads.{only_read, same_twice}
use Rattle.group_store.proofs.MakeSteps.{on_damage, same_writes}
use Rattle.group_store.proofs.TwinLaws.{named_breaks, part_named, part_twin, reads_more_groups, twin_then_breaks}
use Rattle.rec_bytes.proofs.Causes.{never_ok}
use Rattle.group_store.proofs.counting.unlink_named.Goals as goal

-- ---- the record can't be named

pub returns-in_err-named-in-Err-Damaged-clause-damaged : goal.returns-in_err-named-in-Err-Damaged-clause-damaged
returns-in_err-named-in-Err-Damaged-clause-damaged g c = λ tells.
    let s = g.S.Reads.state c.args.space.now in
    let z = g.S.Reads.state c.unlink.new.space in
    let few : ReadsAtMost 3 s z = subst (λ (f : Fault). IfSome (damage_of f) (λ _. ReadsAtMost 3 s z)) c.in-Err-Damaged.field-0-is
    c.in-Err-Damaged.ensures.unwritten in
    let same = only_read s z 3 few in
    let p = err_from_is_err_and c.from_residual.result c.from_residual.ensures.1 in
    rw (p.1, p.2) (part_twin s z (head_of c.args.head) c.args.node c.args.rel c.in_err-named-in-Err-Damaged.field-0.0 same
    (c.in_err-named-in-Err-Damaged.ensures.damaged tells))

pub returns-in_err-named-in-Err-Damaged-clause-breaks : goal.returns-in_err-named-in-Err-Damaged-clause-breaks
returns-in_err-named-in-Err-Damaged-clause-breaks g c = λ tells row live placed.
    let s = g.S.Reads.state c.args.space.now in
    let z = g.S.Reads.state c.unlink.new.space in
    let few : ReadsAtMost 3 s z = subst (λ (f : Fault). IfSome (damage_of f) (λ _. ReadsAtMost 3 s z)) c.in-Err-Damaged.field-0-is
    c.in-Err-Damaged.ensures.unwritten in
    let same = only_read s z 3 few in
    let p = err_from_is_err_and c.from_residual.result c.from_residual.ensures.1 in
    rw (p.1, p.2) (twin_then_breaks s z (head_of c.args.head) c.args.node c.in_err-named-in-Err-Damaged.field-0.0 same placed.owns
    (c.in_err-named-in-Err-Damaged.ensures.damaged tells))

pub returns-in_err-named-in-Err-Damaged-clause-unwritten : goal.returns-in_err-named-in-Err-Damaged-clause-unwritten
returns-in_err-named-in-Err-Damaged-clause-unwritten g c =
    let s = g.S.Reads.state c.args.space.now in
    let z = g.S.Reads.state c.unlink.new.space in
    let few : ReadsAtMost 3 s z = subst (λ (f : Fault). IfSome (damage_of f) (λ _. ReadsAtMost 3 s z)) c.in-Err-Damaged.field-0-is
    c.in-Err-Damaged.ensures.unwritten in
    let t = g.S.Reads.state c.name_damage.new.space in
    on_damage c.from_residual.result _ (reads_more_groups s z t 3 2 (5 + group_mark s) few (omega arith) c.in_err-named-in-Err-Damaged.ensures.at_most)

pub returns-in_err-named-in-Err-Damaged-clause-writes : goal.returns-in_err-named-in-Err-Damaged-clause-writes
returns-in_err-named-in-Err-Damaged-clause-writes g c =
    let s = g.S.Reads.state c.args.space.now in
    let z = g.S.Reads.state c.unlink.new.space in
    let few : ReadsAtMost 3 s z = subst (λ (f : Fault). IfSome (damage_of f) (λ _. ReadsAtMost 3 s z)) c.in-Err-Damaged.field-0-is
    c.in-Err-Damaged.ensures.unwritten in
    let same = only_read s z 3 few in
    let t = g.S.Reads.state c.name_damage.new.space in
    (0, 0, same_writes s t _ (same_twice s z t same (only_read z t (2 + group_mark z) c.in_err-named-in-Err-Damaged.ensures.at_most)))

-- ---- the record that is named

pub returns-in_ok-named-in-Err-Damaged-clause-damaged : goal.returns-in_ok-named-in-Err-Damaged-clause-damaged
returns-in_ok-named-in-Err-Damaged-clause-damaged g c = λ tells.
    let s = g.S.Reads.state c.args.space.now in
    let z = g.S.Reads.state c.unlink.new.space in
    let few : ReadsAtMost 3 s z = subst (λ (f : Fault). IfSome (damage_of f) (λ _. ReadsAtMost 3 s z)) c.in-Err-Damaged.field-0-is
    c.in-Err-Damaged.ensures.unwritten in
    let same = only_read s z 3 few in
    part_named s z (head_of c.args.head) c.args.node c.args.rel c.in-Err-Damaged.damage c.in_ok-named-in-Err-Damaged.named same
    (subst (IsUnlinkFault s (head_of c.args.head) c.args.node c.args.rel) c.in-Err-Damaged.field-0-is (c.in-Err-Damaged.ensures.damaged tells))
    (c.in_ok-named-in-Err-Damaged.ensures.named tells)

pub returns-in_ok-named-in-Err-Damaged-clause-breaks : goal.returns-in_ok-named-in-Err-Damaged-clause-breaks
returns-in_ok-named-in-Err-Damaged-clause-breaks g c = λ tells row live placed.
    let s = g.S.Reads.state c.args.space.now in
    let z = g.S.Reads.state c.unlink.new.space in
    let few : ReadsAtMost 3 s z = subst (λ (f : Fault). IfSome (damage_of f) (λ _. ReadsAtMost 3 s z)) c.in-Err-Damaged.field-0-is
    c.in-Err-Damaged.ensures.unwritten in
    let same = only_read s z 3 few in
    named_breaks s z (head_of c.args.head) c.args.node c.args.rel row c.in-Err-Damaged.damage c.in_ok-named-in-Err-Damaged.named same live placed
    (λ lone. subst (IsBreakFault s) c.in-Err-Damaged.field-0-is (c.in-Err-Damaged.ensures.breaks tells row live lone))
    (c.in_ok-named-in-Err-Damaged.ensures.named tells)

pub returns-in_ok-named-in-Err-Damaged-clause-unwritten : goal.returns-in_ok-named-in-Err-Damaged-clause-unwritten
returns-in_ok-named-in-Err-Damaged-clause-unwritten g c =
    let s = g.S.Reads.state c.args.space.now in
    let z = g.S.Reads.state c.unlink.new.space in
    let few : ReadsAtMost 3 s z = subst (λ (f : Fault). IfSome (damage_of f) (λ _. ReadsAtMost 3 s z)) c.in-Err-Damaged.field-0-is
    c.in-Err-Damaged.ensures.unwritten in
    let t = g.S.Reads.state c.name_damage.new.space in
    reads_more_groups s z t 3 2 (5 + group_mark s) few (omega arith) c.in_ok-named-in-Err-Damaged.ensures.at_most

pub returns-in_ok-named-in-Err-Damaged-clause-writes : goal.returns-in_ok-named-in-Err-Damaged-clause-writes
returns-in_ok-named-in-Err-Damaged-clause-writes g c =
    let s = g.S.Reads.state c.args.space.now in
    let z = g.S.Reads.state c.unlink.new.space in
    let few : ReadsAtMost 3 s z = subst (λ (f : Fault). IfSome (damage_of f) (λ _. ReadsAtMost 3 s z)) c.in-Err-Damaged.field-0-is
    c.in-Err-Damaged.ensures.unwritten in
    let same = only_read s z 3 few in
    let t = g.S.Reads.state c.name_damage.new.space in
    (0, 0, same_writes s t _ (same_twice s z t same (only_read z t (2 + group_mark z) c.in_ok-named-in-Err-Damaged.ensures.at_most)))

pub returns-in_err-named-in-Err-Damaged-clause-ok : goal.returns-in_err-named-in-Err-Damaged-clause-ok
returns-in_err-named-in-Err-Damaged-clause-ok g c _ = never_ok c.from_residual.result _ _ c.from_residual.ensures.1

pub returns-in_err-named-in-Err-Damaged-clause-linked : goal.returns-in_err-named-in-Err-Damaged-clause-linked
returns-in_err-named-in-Err-Damaged-clause-linked g c _ = never_ok c.from_residual.result _ _ c.from_residual.ensures.1
