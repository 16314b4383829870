use Rattle.std.proofs.Common.{◌≡◌, ◌≤◌, ◌+◌, ◌*◌, ◌++◌, cond, [], ◌∷◌, arith, ap, sym, ◌∙◌, subst, refl}
use Rattle.std.proofs.lemmas.Result.{err_from_is_err_and}
use Rattle.rec_bytes.specs.declared.record.Rec.{Rec}
use Rattle.rec_bytes.specs.Format as format
use Rattle.rec_bytes.specs.Record.{field}
use Rattle.rec_bytes.specs.Space.{SameButReads}
use Rattle.store_rules.specs.Indexes.{entry_hash, entry_node, index_rec}
use Rattle.store_rules.specs.Views.{Records, high, kind_at}
use Rattle.prop_store.specs.Reading.{ReadsAtMost}
use Rattle.prop_store.proofs.ReadCounts.{reads_more, reads_same, reads_then}
use Rattle.prop_index.specs.Gathering.{IsEntryMet, IsListedNode, is_hashed, is_picked}
use Rattle.rec_bytes.specs.declared.meta.Meta.{Meta}
use Rattle.prop_index.specs.Blaming.{BlamesBroken}
use Rattle.prop_store.proofs.Exits.{same_has}
use Rattle.prop_index.specs.Blaming.{IsEntryAt}
use Rattle.prop_index.proofs.IndexBlames.{blames_before, entry_blames, entry_goes_on, late_breaks, read_fault_same}
use Rattle.prop_index.proofs.Gathers.{gather_begins, gather_cost, gather_here, gather_on, gather_over}
use Rattle.prop_index.proofs.Reread.{node_after, room_after, same_records, same_then}
use Rattle.prop_store.proofs.Causes.{cause_passed, later_on}
use Rattle.rec_bytes.proofs.Causes.{never_ok, ok_cause}
use Rattle.prop_index.proofs.Causes.{told_cause}
use Rattle.prop_index.proofs.gathering.gather.Goals as goal

pub loop-init : goal.loop-init
loop-init g c = record {
  told = λ tells xs are. gather_begins _ _ _ _ xs c.args.first _ c.new-nodes.ensures.items are;
  at = λ tells d b h. h;
  same = refl;
  onward = g.met.R.Reads.stays_onward _;
  later = omega arith;
}

pub returns-then-at-clause-found : goal.returns-then-at-clause-found
returns-then-at-clause-found g c tells xs are = gather_over _ _ _ _ _ xs _ _ _ (c.loop.invariant.told tells xs are) c.if-at.true

pub returns-then-at-clause-cost : goal.returns-then-at-clause-cost
returns-then-at-clause-cost g c tells xs are = gather_cost _ _ _ _ _ xs _ _ _ (c.loop.invariant.told tells xs are)

pub returns-then-at-2-clause-cost : goal.returns-then-at-2-clause-cost
returns-then-at-2-clause-cost g c tells xs are = gather_cost _ _ _ _ _ xs _ _ _ (c.loop.invariant.told tells xs are)

pub returns-clause-cost : goal.returns-clause-cost
returns-clause-cost g c tells xs are = gather_cost _ _ _ _ _ xs _ _ _ (c.loop.invariant.told tells xs are)

pub returns-in_err-record_at-clause-cost : goal.returns-in_err-record_at-clause-cost
returns-in_err-record_at-clause-cost g c tells xs are =
    let s = g.R.Reads.state c.args.space.now in
    let now = g.R.Reads.state c.loop.space in
    let after = g.R.Reads.state c.record_at.new.space in
    gather_cost _ _ _ _ _ xs _ _ _ (gather_on s now _ _ _ xs c.loop.at c.loop.counter _ (c.loop.invariant.told tells xs are) after _ _ c.if-at.false refl refl
    (reads_more 1 _ now after (omega arith) c.in_err-record_at.ensures.at_most))

pub returns-in_err-add_node-clause-cost : goal.returns-in_err-add_node-clause-cost
returns-in_err-add_node-clause-cost g c tells xs are =
    let s = g.R.Reads.state c.args.space.now in
    let now = g.R.Reads.state c.loop.space in
    let then = g.R.Reads.state c.record_at.new.space in
    let after = g.R.Reads.state c.add_node.new.space in
    let same_now : SameButReads s then = same_then s now then c.loop.invariant.same (reads_same 1 now then c.in_ok-record_at.ensures.at_most) in
    let gone = same_records s then same_now in
    let rec_then : c.record_at.new.rec ≡ index_rec then.records c.loop.at = c.in_ok-record_at.ensures.got tells
    ∙ ap (λ (r : Records). index_rec r c.loop.at) (sym (same_records now then (reads_same 1 now then c.in_ok-record_at.ensures.at_most))) in
    gather_cost _ _ _ _ _ xs _ _ _ (gather_on s now _ _ _ xs c.loop.at c.loop.counter _ (c.loop.invariant.told tells xs are) after _ _ c.if-at.false refl refl
    (reads_then 1 _ _ now then after (omega arith) c.in_ok-record_at.ensures.at_most
    (subst (λ (r : Records). ReadsAtMost (55 * cond (is_hashed r c.args.sought.now.hash c.loop.at) 1 0) then after) gone
    (c.in_err-add_node.ensures.cost c.loop.at
    rec_then))))

pub returns-in_err-record_at-clause-not_damaged : goal.returns-in_err-record_at-clause-not_damaged
returns-in_err-record_at-clause-not_damaged g c tells xs are readable =
    let s = g.R.Reads.state c.args.space.now in
    let now = g.R.Reads.state c.loop.space in
    let same = c.loop.invariant.same in
    let here = gather_here _ _ _ _ _ xs _ _ _ (c.loop.invariant.told tells xs are) c.if-at.false in
    let p = err_from_is_err_and c.from_residual.result c.from_residual.ensures.1 in
    rw (p.1, p.2) (c.in_err-record_at.ensures.not_damaged tells (room_after s now format.index_file same readable.room)
    (ap (λ (r : Records). kind_at r format.index_file c.loop.at) (same_records s now same) ∙ are.kind c.loop.at here.0))

pub returns-in_err-add_node-clause-not_damaged : goal.returns-in_err-add_node-clause-not_damaged
returns-in_err-add_node-clause-not_damaged g c tells xs are readable =
    let s = g.R.Reads.state c.args.space.now in
    let now = g.R.Reads.state c.loop.space in
    let then = g.R.Reads.state c.record_at.new.space in
    let same = c.loop.invariant.same in
    let same_now : SameButReads s then = same_then s now then same (reads_same 1 now then c.in_ok-record_at.ensures.at_most) in
    let here = gather_here _ _ _ _ _ xs _ _ _ (c.loop.invariant.told tells xs are) c.if-at.false in
    let rec_is : c.record_at.new.rec ≡ index_rec then.records c.loop.at = c.in_ok-record_at.ensures.got tells
    ∙ ap (λ (r : Records). index_rec r c.loop.at) (sym (same_records now then (reads_same 1 now then c.in_ok-record_at.ensures.at_most))) in
    let p = err_from_is_err_and c.from_residual-in_err-add_node.result c.from_residual-in_err-add_node.ensures.1 in
    let gone = same_records s then same_now in
    rw (p.1, p.2) (c.in_err-add_node.ensures.not_damaged tells c.loop.at rec_is
    (λ e. node_after s then _ same_now (subst (λ (r : Records). IsListedNode s (entry_node r c.loop.at)) (sym gone) (readable.nodes c.loop.at here.0
    (ap (λ (r : Records). entry_hash r c.loop.at) (sym gone) ∙ e)))))

pub returns-in_err-record_at-clause-same : goal.returns-in_err-record_at-clause-same
returns-in_err-record_at-clause-same g c =
    let s = g.R.Reads.state c.args.space.now in
    let now = g.R.Reads.state c.loop.space in
    let then = g.R.Reads.state c.record_at.new.space in
    same_then s now then c.loop.invariant.same (reads_same 1 now then c.in_err-record_at.ensures.at_most)

pub returns-in_err-add_node-clause-same : goal.returns-in_err-add_node-clause-same
returns-in_err-add_node-clause-same g c =
    let s = g.R.Reads.state c.args.space.now in
    let now = g.R.Reads.state c.loop.space in
    let then = g.R.Reads.state c.record_at.new.space in
    let after = g.R.Reads.state c.add_node.new.space in
    same_then s then after (same_then s now then c.loop.invariant.same (reads_same 1 now then c.in_ok-record_at.ensures.at_most))
    (reads_same 55 then after c.in_err-add_node.ensures.at_most)

pub loop-preserved : goal.loop-preserved
loop-preserved g c =
    let s = g.R.Reads.state c.args.space.now in
    let now = g.R.Reads.state c.loop.space in
    let then = g.R.Reads.state c.record_at.new.space in
    let after = g.R.Reads.state c.add_node.new.space in
    let first = reads_same 1 now then c.in_ok-record_at.ensures.at_most in
    let same_now : SameButReads s then = same_then s now then c.loop.invariant.same first in
    record {
      told = λ tells xs are.
          let told = c.loop.invariant.told tells xs are in
          let was = same_records s now c.loop.invariant.same in
          let rec_is : c.record_at.new.rec ≡ index_rec s.records c.loop.at = c.in_ok-record_at.ensures.got tells
          ∙ ap (λ (r : Records). index_rec r c.loop.at) was in
          let gone = same_records s then same_now in
          let rec_then : c.record_at.new.rec ≡ index_rec then.records c.loop.at = rec_is ∙ ap (λ (r : Records). index_rec r c.loop.at) (sym gone) in
          gather_on s now _ _ _ xs c.loop.at c.loop.counter _ told after c.number-at.result _ c.if-at.false
          (c.number-at.ensures ∙ ap (λ (r : Rec). field 4 r format.indexed_next) rec_is)
          (subst (λ (r : Records). c.add_node.new.nodes.items ≡ c.loop.nodes.items ++ cond
          (is_picked r c.args.sought.now.key c.args.sought.now.hash c.args.sought.now.value.now
          c.loop.at) (entry_node r c.loop.at ∷ []) []) gone
          (c.in_ok-add_node.ensures.added tells c.loop.at rec_then))
          (reads_then 1 _ _ now then after (omega arith) c.in_ok-record_at.ensures.at_most
          (subst (λ (r : Records). ReadsAtMost (55 * cond (is_hashed r c.args.sought.now.hash c.loop.at) 1 0) then after) gone
          (c.in_ok-add_node.ensures.cost c.loop.at rec_then)));
      at = λ tells d b h.
          let was = same_records s now c.loop.invariant.same in
          let rec_is : c.record_at.new.rec ≡ index_rec s.records c.loop.at = c.in_ok-record_at.ensures.got tells
          ∙ ap (λ (r : Records). index_rec r c.loop.at) was in
          subst (IsEntryAt s d b (c.loop.counter + 1) c.number-at.result) (sym c.out_of_range-named.ensures)
          (entry_goes_on s d b c.loop.counter c.loop.at c.loop.named (c.loop.invariant.at tells d b h) c.if-at.false c.number-at.result
          (ap (λ (r : Records). kind_at r format.index_file c.loop.at) (sym was) ∙ c.in_ok-record_at.ensures.used tells)
          (c.number-at.ensures ∙ ap (λ (r : Rec). field 4 r format.indexed_next) rec_is));
      same = same_then s then after same_now (reads_same 55 then after c.in_ok-add_node.ensures.at_most);
      onward = g.met.R.Reads.further_onward _ _ _ (g.met.R.Reads.further_onward _ _ _ c.loop.invariant.onward c.in_ok-record_at.ensures.onward)
          c.in_ok-add_node.ensures.onward;
      later = omega (arith, c.loop.invariant.later, c.in_ok-record_at.ensures.cause.later, c.in_ok-add_node.ensures.cause.later);
    }

pub returns-in_err-record_at-clause-damaged : goal.returns-in_err-record_at-clause-damaged
returns-in_err-record_at-clause-damaged g c tells d b h =
    let s = g.R.Reads.state c.args.space.now in
    let now = g.R.Reads.state c.loop.space in
    same_has (BlamesBroken s.records s.shape) c.from_residual.result c.in_err-record_at.field-0.0 c.from_residual.ensures.1
    (entry_blames s d b c.loop.counter c.loop.at c.loop.named (c.loop.invariant.at tells d b h) c.if-at.false c.in_err-record_at.field-0.0
    (read_fault_same s now c.loop.at format.indexed c.loop.named c.loop.invariant.same c.in_err-record_at.field-0.0 (c.in_err-record_at.ensures.damaged tells)))

pub returns-in_err-add_node-clause-damaged : goal.returns-in_err-add_node-clause-damaged
returns-in_err-add_node-clause-damaged g c tells d b h =
    let s = g.R.Reads.state c.args.space.now in
    let now = g.R.Reads.state c.loop.space in
    let then = g.R.Reads.state c.record_at.new.space in
    let same : SameButReads s then = same_then s now then c.loop.invariant.same (reads_same 1 now then c.in_ok-record_at.ensures.at_most) in
    let was = same_records s now c.loop.invariant.same in
    let met : IsEntryMet s.records d b c.loop.counter c.loop.at c.record_at.new.rec = record {
      leads = (c.loop.invariant.at tells d b h).leads c.if-at.false;
      used = ap (λ (r : Records). kind_at r format.index_file c.loop.at) (sym was) ∙ c.in_ok-record_at.ensures.used tells;
      rec_is = c.in_ok-record_at.ensures.got tells ∙ ap (λ (r : Records). index_rec r c.loop.at) was;
    } in
    same_has (BlamesBroken s.records s.shape) c.from_residual-in_err-add_node.result c.in_err-add_node.field-0.0 c.from_residual-in_err-add_node.ensures.1
    (blames_before s then c.in_err-add_node.field-0.0 same
    (c.in_err-add_node.ensures.damaged tells d b c.loop.counter (subst (λ (r : Records). IsEntryMet r d b c.loop.counter c.loop.at c.record_at.new.rec)
    (sym (same_records s then same)) met)))

pub returns-then-at-2-clause-damaged : goal.returns-then-at-2-clause-damaged
returns-then-at-2-clause-damaged g c tells d b h =
    let s = g.R.Reads.state c.args.space.now in
    let late : high s.records format.index_file ≤ c.loop.counter = subst (λ (m : Meta). m.high ≤ c.loop.counter) c.meta-end.ensures (omega arith) in
    subst (BlamesBroken s.records s.shape) (sym c.damaged.ensures) (late_breaks s d b c.loop.counter c.loop.at c.loop.named (c.loop.invariant.at tells d b h)
    c.if-at-2.true late)

pub returns-in_err-record_at-clause-onward : goal.returns-in_err-record_at-clause-onward
returns-in_err-record_at-clause-onward g c =
    g.met.R.Reads.further_onward _ _ _ c.loop.invariant.onward c.in_err-record_at.ensures.onward

pub returns-in_err-add_node-clause-onward : goal.returns-in_err-add_node-clause-onward
returns-in_err-add_node-clause-onward g c =
    g.met.R.Reads.further_onward _ _ _
    (g.met.R.Reads.further_onward _ _ _ c.loop.invariant.onward c.in_ok-record_at.ensures.onward)
    c.in_err-add_node.ensures.onward

pub returns-in_err-record_at-clause-cause : goal.returns-in_err-record_at-clause-cause
returns-in_err-record_at-clause-cause g c =
    cause_passed _ _ _ c.from_residual.result c.in_err-record_at.field-0.0 c.loop.invariant.later c.in_err-record_at.ensures.cause c.from_residual.ensures.1

pub returns-in_err-add_node-clause-cause : goal.returns-in_err-add_node-clause-cause
returns-in_err-add_node-clause-cause g c =
    cause_passed _ _ _ c.from_residual-in_err-add_node.result c.in_err-add_node.field-0.0
    (later_on c.loop.invariant.later c.in_ok-record_at.ensures.cause.later) c.in_err-add_node.ensures.cause
    c.from_residual-in_err-add_node.ensures.1

pub returns-in_err-record_at-clause-found : goal.returns-in_err-record_at-clause-found
returns-in_err-record_at-clause-found g c _ _ _ = never_ok c.from_residual.result _ _ c.from_residual.ensures.1

pub returns-in_err-add_node-clause-found : goal.returns-in_err-add_node-clause-found
returns-in_err-add_node-clause-found g c _ _ _ = never_ok c.from_residual-in_err-add_node.result _ _ c.from_residual-in_err-add_node.ensures.1

pub returns-clause-cause : goal.returns-clause-cause
returns-clause-cause g c = ok_cause _ _ _ _ (omega arith)

pub returns-then-at-clause-cause : goal.returns-then-at-clause-cause
returns-then-at-clause-cause g c = ok_cause _ _ _ _ c.loop.invariant.later

pub returns-then-at-2-clause-cause : goal.returns-then-at-2-clause-cause
returns-then-at-2-clause-cause g c = told_cause _ _ _ _ c.loop.invariant.later c.damaged.ensures

pub returns-clause-onward : goal.returns-clause-onward
returns-clause-onward g c = c.loop.invariant.onward

pub returns-then-at-clause-onward : goal.returns-then-at-clause-onward
returns-then-at-clause-onward g c = c.loop.invariant.onward

pub returns-then-at-2-clause-onward : goal.returns-then-at-2-clause-onward
returns-then-at-2-clause-onward g c = c.loop.invariant.onward

pub returns-clause-same : goal.returns-clause-same
returns-clause-same g c = c.loop.invariant.same

pub returns-then-at-clause-same : goal.returns-then-at-clause-same
returns-then-at-clause-same g c = c.loop.invariant.same

pub returns-then-at-2-clause-same : goal.returns-then-at-2-clause-same
returns-then-at-2-clause-same g c = c.loop.invariant.same
