use Rattle.std.proofs.Common.{◌≡◌, ◌+◌, get_or, sym, subst, arith, inl, inr}
use Rattle.std.proofs.lemmas.Bool.{OnFalse_at, OnTrue_at, cases_lt}
use Rattle.std.proofs.lemmas.List.{get_or_default}
use Rattle.std.proofs.lemmas.List.Elements.{Contains-get_or, at_from_Contains}
use Rattle.std.proofs.lemmas.Result.{err_from_is_err_and}
use Rattle.plain_graph.specs.Levels.{level_of}
use Rattle.rec_bytes.specs.Space.{State}
use Rattle.chain_edit.specs.Walking.{ReadsAtMost}
use Rattle.path_find.specs.Costs.{row_reads}
use Rattle.path_find.proofs.Costs.{first_reads-all, first_reads-more, reads_none}
use Rattle.path_find.specs.Checking.{IsSpreadAt}
use Rattle.path_find.specs.WalkSearch.{neighbours_for}
use Rattle.path_find.proofs.OnlyReads.{broken-read, is_read-none, is_read-on, same-read, store-read}
use Rattle.path_find.proofs.Causes.{cause_passed}
use Rattle.rec_bytes.proofs.Causes.{never_ok, ok_cause}
use Rattle.path_find.proofs.checking.all_spread.Goals as goal

pub returns-in_err-spreads-clause-damaged : goal.returns-in_err-spreads-clause-damaged
returns-in_err-spreads-clause-damaged g c = λ tells.
    let p = err_from_is_err_and c.from_residual.result c.from_residual.ensures.1 in
    rw (p.1, p.2) (broken-read g.R.Reads g.met.R.Reads.onward_shape c.args.reads.now c.loop-row.reads c.loop-row.invariant.read c.in_err-spreads.field-0.0
    (c.in_err-spreads.ensures.damaged tells))

pub returns-then-not-spreads-clause-no : goal.returns-then-not-spreads-clause-no
returns-then-not-spreads-clause-no g c = λ tells store. λ all.
    let levels = c.args.claim.now.levels.now in
    let index = c.loop-row.row-index in
    let row = get_or levels index (level_of 0 0) in
    let read = c.loop-row.invariant.read in
    let same = same-read g.R.Reads g.met.R.Reads.onward_shape c.args.reads.now c.loop-row.reads read in
    let there = store-read g.R.Reads g.met.R.Reads.onward_shape c.args.reads.now c.loop-row.reads read store in
    let mid = subst (λ (s : State). IsSpreadAt (neighbours_for s c.args.sought.now) levels c.args.claim.now.edges row) (sym same)
    (all row (Contains-get_or levels index (level_of 0 0) c.loop-row-test.true)) in
    OnFalse_at c.if-not-spreads.true (c.in_ok-spreads.ensures.no tells there) mid

pub loop-row-preserved : goal.loop-row-preserved
loop-row-preserved g c = record {
  read = is_read-on g.R.Reads g.met.R.Reads.further_onward c.args.reads.now c.loop-row.reads c.is_spread.new.reads c.loop-row.invariant.read
      c.is_spread.ensures.read;
  cost = λ tells store.
      let levels = c.args.claim.now.levels.now in
      let index = c.loop-row.row-index in
      let old = g.R.Reads.state c.args.reads.now in
      let mid = g.R.Reads.state c.loop-row.reads in
      let after = g.R.Reads.state c.is_spread.new.reads in
      let direction = c.args.sought.now.direction in
      let labels = c.args.sought.now.labels.now in
      let edges = c.args.claim.now.edges in
      let read = c.loop-row.invariant.read in
      let same = same-read g.R.Reads g.met.R.Reads.onward_shape c.args.reads.now c.loop-row.reads read in
      let there = store-read g.R.Reads g.met.R.Reads.onward_shape c.args.reads.now c.loop-row.reads read store in
      let one = subst (λ (s : State). ReadsAtMost (row_reads s direction labels edges (get_or levels index (level_of 0 0))) mid after) same
      (c.is_spread.ensures.cost tells there) in
      let next = first_reads-more (row_reads old direction labels edges) levels index old mid after (level_of 0 0) c.loop-row-test.true
      (c.loop-row.invariant.cost tells store) one in
      next;
  spread = λ tells store k d lt. elim (cases_lt k c.loop-row.row-index) [
    | inl less ↦ c.loop-row.invariant.spread tells store k d less
    | inr ge ↦
        let levels = c.args.claim.now.levels.now in
        let index = c.loop-row.row-index in
        let row = get_or levels index (level_of 0 0) in
        let read = c.loop-row.invariant.read in
        let same = same-read g.R.Reads g.met.R.Reads.onward_shape c.args.reads.now c.loop-row.reads read in
        let there = store-read g.R.Reads g.met.R.Reads.onward_shape c.args.reads.now c.loop-row.reads read store in
        let mid : IsSpreadAt (neighbours_for (g.R.Reads.state c.loop-row.reads) c.args.sought.now) levels c.args.claim.now.edges row =
        OnTrue_at c.if-not-spreads.false (c.in_ok-spreads.ensures.yes tells there) in
        let old = g.R.Reads.state c.args.reads.now in
        let at_old = subst (λ (s : State). IsSpreadAt (neighbours_for s c.args.sought.now) levels c.args.claim.now.edges row) same mid in
        let here : index ≡ k = omega arith in
        subst (λ i. IsSpreadAt (neighbours_for old c.args.sought.now) levels c.args.claim.now.edges (get_or levels i d)) here
        (subst (IsSpreadAt (neighbours_for old c.args.sought.now) levels c.args.claim.now.edges) (sym (get_or_default levels index d (level_of 0 0)
        c.loop-row-test.true)) at_old)
  ];
}

pub returns-clause-yes : goal.returns-clause-yes
returns-clause-yes g c = λ tells store row has.
    let levels = c.args.claim.now.levels.now in
    let old = g.R.Reads.state c.args.reads.now in
    let at = at_from_Contains levels row has in
    let test = c.loop-row-test.false in
    let low = at.1 in
    subst (IsSpreadAt (neighbours_for old c.args.sought.now) levels c.args.claim.now.edges) (at.2 row)
    (c.loop-row.invariant.spread tells store at.0 row (omega (arith, test, low)))

pub returns-in_err-spreads-clause-read : goal.returns-in_err-spreads-clause-read
returns-in_err-spreads-clause-read g c =
    is_read-on g.R.Reads g.met.R.Reads.further_onward _ _ _ c.loop-row.invariant.read c.is_spread.ensures.read

pub returns-in_err-spreads-clause-cause : goal.returns-in_err-spreads-clause-cause
returns-in_err-spreads-clause-cause g c =
    cause_passed _ _ _ c.from_residual.result c.in_err-spreads.field-0.0 c.loop-row.invariant.read.later
    c.in_err-spreads.ensures.cause c.from_residual.ensures.1

pub returns-then-not-spreads-clause-read : goal.returns-then-not-spreads-clause-read
returns-then-not-spreads-clause-read g c =
    is_read-on g.R.Reads g.met.R.Reads.further_onward _ _ _ c.loop-row.invariant.read c.is_spread.ensures.read

pub returns-in_err-spreads-clause-yes : goal.returns-in_err-spreads-clause-yes
returns-in_err-spreads-clause-yes g c _ _ = never_ok c.from_residual.result _ _ c.from_residual.ensures.1

pub returns-in_err-spreads-clause-no : goal.returns-in_err-spreads-clause-no
returns-in_err-spreads-clause-no g c _ _ = never_ok c.from_residual.result _ _ c.from_residual.ensures.1

pub returns-clause-cause : goal.returns-clause-cause
returns-clause-cause g c = ok_cause _ _ _ _ (omega arith)

-- ---- what is read

pub returns-in_err-spreads-clause-cost : goal.returns-in_err-spreads-clause-cost
returns-in_err-spreads-clause-cost g c = λ tells store.
    let levels = c.args.claim.now.levels.now in
    let index = c.loop-row.row-index in
    let old = g.R.Reads.state c.args.reads.now in
    let mid = g.R.Reads.state c.loop-row.reads in
    let after = g.R.Reads.state c.is_spread.new.reads in
    let direction = c.args.sought.now.direction in
    let labels = c.args.sought.now.labels.now in
    let edges = c.args.claim.now.edges in
    let read = c.loop-row.invariant.read in
    let same = same-read g.R.Reads g.met.R.Reads.onward_shape c.args.reads.now c.loop-row.reads read in
    let there = store-read g.R.Reads g.met.R.Reads.onward_shape c.args.reads.now c.loop-row.reads read store in
    let one = subst (λ (s : State). ReadsAtMost (row_reads s direction labels edges (get_or levels index (level_of 0 0))) mid after) same
    (c.is_spread.ensures.cost tells there) in
    let next = first_reads-more (row_reads old direction labels edges) levels index old mid after (level_of 0 0) c.loop-row-test.true
    (c.loop-row.invariant.cost tells store) one in
    first_reads-all (row_reads old direction labels edges) levels (index + 1) old after after next

pub returns-then-not-spreads-clause-cost : goal.returns-then-not-spreads-clause-cost
returns-then-not-spreads-clause-cost g c = λ tells store.
    let levels = c.args.claim.now.levels.now in
    let index = c.loop-row.row-index in
    let old = g.R.Reads.state c.args.reads.now in
    let mid = g.R.Reads.state c.loop-row.reads in
    let after = g.R.Reads.state c.is_spread.new.reads in
    let direction = c.args.sought.now.direction in
    let labels = c.args.sought.now.labels.now in
    let edges = c.args.claim.now.edges in
    let read = c.loop-row.invariant.read in
    let same = same-read g.R.Reads g.met.R.Reads.onward_shape c.args.reads.now c.loop-row.reads read in
    let there = store-read g.R.Reads g.met.R.Reads.onward_shape c.args.reads.now c.loop-row.reads read store in
    let one = subst (λ (s : State). ReadsAtMost (row_reads s direction labels edges (get_or levels index (level_of 0 0))) mid after) same
    (c.is_spread.ensures.cost tells there) in
    let next = first_reads-more (row_reads old direction labels edges) levels index old mid after (level_of 0 0) c.loop-row-test.true
    (c.loop-row.invariant.cost tells store) one in
    first_reads-all (row_reads old direction labels edges) levels (index + 1) old after after next

pub returns-clause-cost : goal.returns-clause-cost
returns-clause-cost g c = λ tells store.
    let old = g.R.Reads.state c.args.reads.now in
    let now = g.R.Reads.state c.loop-row.reads in
    first_reads-all (row_reads old c.args.sought.now.direction c.args.sought.now.labels.now c.args.claim.now.edges) c.args.claim.now.levels.now
    c.loop-row.row-index old now now (c.loop-row.invariant.cost tells store)

pub loop-row-init : goal.loop-row-init
loop-row-init g c = record {
  read = is_read-none g.R.Reads g.met.R.Reads.stays_onward c.args.reads.now;
  cost = λ tells store. reads_none _ (g.R.Reads.state c.args.reads.now);
  spread = λ tells store k d lt. absurd (omega arith);
}
