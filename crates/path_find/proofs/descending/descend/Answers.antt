use Rattle.std.proofs.Common.{◌≡◌, ◌-◌, ◌++◌, ◌∷◌, [], ℕ, suc, List, length, slice_index, append-nil, sym, ap, subst, ◌∙◌, arith}
use Rattle.std.proofs.lemmas.List.{length_push}
use Rattle.std.proofs.lemmas.Result.{err_from_is_err_and}
use Rattle.rec_bytes.specs.Space.{State}
use Rattle.chain_edit.specs.Walking.{ReadsAtMost}
use Rattle.expand.specs.Costs.{most_reads}
use Rattle.expand.proofs.ReadCounts.{reads_both}
use Rattle.path_find.specs.Meeting.{CanDescend, HasNearer, IsDescent, IsNextRow}
use Rattle.path_find.specs.WalkSearch.{neighbours_for}
use Rattle.path_find.specs.Tree.{node_at}
use Rattle.path_find.proofs.Costs.{but_last-more, last_pushed, reads_none}
use Rattle.path_find.proofs.Descents.{descent_on}
use Rattle.path_find.proofs.OnlyReads.{broken-read, is_read-none, is_read-on, same-read, store-read}
use Rattle.chain_edit.proofs.Causes.{same_has}
use Rattle.path_find.proofs.Causes.{cause_passed, later_on, memory_cause}
use Rattle.rec_bytes.proofs.Causes.{never_ok}
use Rattle.path_find.proofs.descending.descend.Goals as goal
use Rattle.store_rules.specs.Rules.{IsWhole}

pub returns-in_err-next-clause-damaged : goal.returns-in_err-next-clause-damaged
returns-in_err-next-clause-damaged g c = λ tells.
    let p = err_from_is_err_and c.from_residual.result c.from_residual.ensures.1 in
    rw (p.1, p.2) (broken-read g.R.Reads g.met.R.Reads.onward_shape c.args.space.now c.loop-level.space c.loop-level.invariant.read c.in_err-next.field-0.0
    (c.in_err-next.ensures.damaged tells))

pub loop-level-init : goal.loop-level-init
loop-level-init g c = record {
  low = c.requires.low;
  long = let none = ap length c.new-way.ensures.items in let level = c.level-level.ensures in omega (arith, none, level);
  read = is_read-none g.R.Reads g.met.R.Reads.stays_onward c.args.space.now;
  last = ap (λ (way : List ℕ). slice_index (node_at c.args.tree.now c.args.row ∷ way) (length way)) c.new-way.ensures.items;
  cost = λ tells store. reads_none _ (g.R.Reads.state c.args.space.now);
  level = λ tells store can. sym c.level-level.ensures;
  descends = λ tells store can rest long descends.
      subst (λ (list : List ℕ). IsDescent (neighbours_for (g.R.Reads.state c.args.space.now) c.args.sought.now) c.args.tree.now c.args.row
      (list ++ rest)) (sym c.new-way.ensures.items) descends;
}

pub loop-level-preserved : goal.loop-level-preserved
loop-level-preserved g c =
    let inv = c.loop-level.invariant in
    let rows = c.args.tree.now in
    let at = c.loop-level.at in
    let level = c.loop-level.level in
    let below = c.loop-level.level - 1 in
    let old = g.R.Reads.state c.args.space.now in
    let near = neighbours_for old c.args.sought.now in
    let test = c.loop-level-test.true in
    let up : level ≡ suc below = omega (arith, test) in
    let next = c.in_ok-next.next in
    let way = c.loop-level.way.items in
    let new = c.push.new.self.items in
    let same = same-read g.R.Reads g.met.R.Reads.onward_shape c.args.space.now c.loop-level.space inv.read in
    let pushed : new ≡ way ++ node_at rows next ∷ [] = c.in_ok-push.ensures.items ∙ ap (λ n. way ++ n ∷ []) c.node.ensures in
    let step : g.R.Reads.tells → IsWhole old → CanDescend near rows → IsNextRow near rows at below next = λ tells store can.
    let nearer = can at below inv.low (inv.level tells store can ∙ up) in
    let found = c.in_ok-next.ensures.next tells (store-read g.R.Reads g.met.R.Reads.onward_shape c.args.space.now c.loop-level.space inv.read store) in
    subst (λ (t : State). IsNextRow (neighbours_for t c.args.sought.now) rows at below next) same
    (found (subst (λ (t : State). HasNearer (neighbours_for t c.args.sought.now) rows at below) (sym same) nearer)) in
    record {
      low = c.in_ok-next.ensures.low;
      long = let long = inv.long in let more = length_push way (node_at rows next) in let is = ap length pushed in omega (arith, long, more, is, up);
      read = is_read-on g.R.Reads g.met.R.Reads.further_onward c.args.space.now c.loop-level.space c.next_row.new.space inv.read c.next_row.ensures.read;
      last = last_pushed (node_at rows c.args.row) way new (node_at rows next) pushed;
      cost = λ tells store.
          let mid = g.R.Reads.state c.loop-level.space in
          let after = g.R.Reads.state c.next_row.new.space in
          let direction = c.args.sought.now.direction in
          let labels = c.args.sought.now.labels.now in
          let one = subst (λ (t : State). ReadsAtMost (most_reads t direction labels (node_at rows at)) mid after) same
          (c.next_row.ensures.cost tells (store-read g.R.Reads g.met.R.Reads.onward_shape c.args.space.now c.loop-level.space inv.read store)) in
          subst (λ n. ReadsAtMost n old after)
          (but_last-more old direction labels (node_at rows c.args.row) way new (node_at rows next) (node_at rows at) pushed inv.last)
          (reads_both old mid after _ (most_reads old direction labels (node_at rows at)) (inv.cost tells store) one);
      level = λ tells store can. (step tells store can).exact;
      descends = λ tells store can. descent_on near rows c.args.row at next level below way new up (inv.descends tells store can) (step tells store can) pushed;
    }

pub returns-clause-descends : goal.returns-clause-descends
returns-clause-descends g c = λ tells store can.
    let near = neighbours_for (g.R.Reads.state c.args.space.now) c.args.sought.now in
    let test = c.loop-level-test.false in
    subst (IsDescent near c.args.tree.now c.args.row) (append-nil c.loop-level.way.items)
    (c.loop-level.invariant.descends tells store can [] (omega (arith, test)) tt)

pub returns-clause-long : goal.returns-clause-long
returns-clause-long g c = λ tells store can.
    let test = c.loop-level-test.false in
    let long = c.loop-level.invariant.long in
    omega (arith, test, long)

pub returns-in_err-next-clause-read : goal.returns-in_err-next-clause-read
returns-in_err-next-clause-read g c =
    is_read-on g.R.Reads g.met.R.Reads.further_onward _ _ _ c.loop-level.invariant.read c.next_row.ensures.read

pub returns-in_err-next-clause-cause : goal.returns-in_err-next-clause-cause
returns-in_err-next-clause-cause g c =
    cause_passed _ _ _ c.from_residual.result c.in_err-next.field-0.0 c.loop-level.invariant.read.later c.in_err-next.ensures.cause c.from_residual.ensures.1

pub returns-in_err-push-clause-read : goal.returns-in_err-push-clause-read
returns-in_err-push-clause-read g c =
    is_read-on g.R.Reads g.met.R.Reads.further_onward _ _ _ c.loop-level.invariant.read c.next_row.ensures.read

pub returns-in_err-push-clause-cause : goal.returns-in_err-push-clause-cause
returns-in_err-push-clause-cause g c =
    memory_cause _ _ c.from_residual-in_err-push.result (later_on c.loop-level.invariant.read.later c.in_ok-next.ensures.cause.later)
    c.from_residual-in_err-push.ensures.1

pub returns-in_err-next-clause-descends : goal.returns-in_err-next-clause-descends
returns-in_err-next-clause-descends g c _ _ _ = never_ok c.from_residual.result _ _ c.from_residual.ensures.1

pub returns-in_err-next-clause-long : goal.returns-in_err-next-clause-long
returns-in_err-next-clause-long g c _ _ _ = never_ok c.from_residual.result _ _ c.from_residual.ensures.1

pub returns-in_err-push-clause-descends : goal.returns-in_err-push-clause-descends
returns-in_err-push-clause-descends g c _ _ _ = never_ok c.from_residual-in_err-push.result _ _ c.from_residual-in_err-push.ensures.1

pub returns-in_err-push-clause-long : goal.returns-in_err-push-clause-long
returns-in_err-push-clause-long g c _ _ _ = never_ok c.from_residual-in_err-push.result _ _ c.from_residual-in_err-push.ensures.1

pub returns-in_err-push-clause-damaged : goal.returns-in_err-push-clause-damaged
returns-in_err-push-clause-damaged g c _ = same_has _ c.from_residual-in_err-push.result _ c.from_residual-in_err-push.ensures.1 tt

pub returns-clause-cost : goal.returns-clause-cost
returns-clause-cost g c = c.loop-level.invariant.cost

pub returns-in_err-next-clause-cost : goal.returns-in_err-next-clause-cost
returns-in_err-next-clause-cost g c _ _ = never_ok c.from_residual.result _ _ c.from_residual.ensures.1

pub returns-in_err-push-clause-cost : goal.returns-in_err-push-clause-cost
returns-in_err-push-clause-cost g c _ _ = never_ok c.from_residual-in_err-push.result _ _ c.from_residual-in_err-push.ensures.1
