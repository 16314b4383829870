use Rattle.std.proofs.Common.{◌++◌, ℕ, List, ap, subst, ◌∙◌, arith}
use Rattle.chain_edit.specs.Walking.{ReadsAtMost}
use Rattle.path_find.specs.Costs.{but_last, nodes_reads}
use Rattle.path_find.specs.Meeting.{AreApartFrom}
use Rattle.path_find.specs.Tree.{row_count}
use Rattle.rec_bytes.proofs.Causes.{never_ok, ok_cause}
use Rattle.chain_edit.proofs.Causes.{same_has}
use Rattle.path_find.proofs.Causes.{cause_passed, memory_cause}
use Rattle.path_find.proofs.OnlyReads.{is_read-none}
use Rattle.path_find.proofs.meeting.join.Goals as goal

pub returns-clause-joins : goal.returns-clause-joins
returns-clause-joins g c = λ tells store can. record {
  row = c.in-Some.row;
  low = c.in-Some.ensures.low;
  last = c.in-Some-find.last;
  last_low = c.in-Some-find.ensures.low;
  shared = c.in-Some-find.ensures.is ∙ c.node.ensures;
  before = c.in-Some.ensures.before;
  way = c.in_ok-way.way.items;
  descends = c.in_ok-way.ensures.descends tells store can;
  long = c.in_ok-way.ensures.long tells store can;
  is = c.in_ok-append.ensures.items ∙ ap (λ (list : List ℕ). list ++ c.in_ok-way.way.items) c.in_ok-walk.ensures;
}

pub returns-clause-cost : goal.returns-clause-cost
unfolding returns-clause-joins
returns-clause-cost g c = λ tells store can.
    let old = g.R.Reads.state c.args.space.now in
    let sought = c.args.sought.now in (
      returns-clause-joins g c tells store can,
      subst (λ n. ReadsAtMost (nodes_reads old sought.direction sought.labels.now (but_last n c.in_ok-way.way.items)) old (g.R.Reads.state c.descend.new.space))
          (c.in-Some-find.ensures.is ∙ c.node.ensures) (c.in_ok-way.ensures.cost tells store),
    )

-- both have found some node
pub unreachable-requires : goal.unreachable-requires
unreachable-requires g c =
    let apart : AreApartFrom c.args.ahead.now 0 (row_count c.args.ahead.now) c.args.behind.now = rw c.in_default.is at c.first_shared.ensures.none in
    let met = c.requires.met in
    absurd (apart met.row (omega arith) met.low met.shared)

pub returns-in_err-walk-clause-joins : goal.returns-in_err-walk-clause-joins
returns-in_err-walk-clause-joins g c _ _ = never_ok c.from_residual.result _ _ c.from_residual.ensures.1

pub returns-in_err-way-clause-joins : goal.returns-in_err-way-clause-joins
returns-in_err-way-clause-joins g c _ _ = never_ok c.from_residual-in_err-way.result _ _ c.from_residual-in_err-way.ensures.1

pub returns-in_err-append-clause-joins : goal.returns-in_err-append-clause-joins
returns-in_err-append-clause-joins g c _ _ = never_ok c.from_residual-in_err-append.result _ _ c.from_residual-in_err-append.ensures.1

pub returns-clause-cause : goal.returns-clause-cause
returns-clause-cause g c = ok_cause _ _ _ _ (omega arith)

pub returns-in_err-walk-clause-damaged : goal.returns-in_err-walk-clause-damaged
returns-in_err-walk-clause-damaged g c _ = same_has _ c.from_residual.result _ c.from_residual.ensures.1 tt

pub returns-in_err-walk-clause-read : goal.returns-in_err-walk-clause-read
returns-in_err-walk-clause-read g c = is_read-none g.R.Reads g.met.R.Reads.stays_onward c.args.space.now

pub returns-in_err-walk-clause-cause : goal.returns-in_err-walk-clause-cause
returns-in_err-walk-clause-cause g c =
    memory_cause _ _ c.from_residual.result (omega arith) c.from_residual.ensures.1

pub returns-in_err-way-clause-damaged : goal.returns-in_err-way-clause-damaged
returns-in_err-way-clause-damaged g c tells =
    same_has _ c.from_residual-in_err-way.result _ c.from_residual-in_err-way.ensures.1 (c.in_err-way.ensures.damaged tells)

pub returns-in_err-way-clause-read : goal.returns-in_err-way-clause-read
returns-in_err-way-clause-read g c = c.descend.ensures.read

pub returns-in_err-way-clause-cause : goal.returns-in_err-way-clause-cause
returns-in_err-way-clause-cause g c =
    cause_passed _ _ _ c.from_residual-in_err-way.result c.in_err-way.field-0.0 (omega arith) c.in_err-way.ensures.cause c.from_residual-in_err-way.ensures.1

pub returns-in_err-append-clause-damaged : goal.returns-in_err-append-clause-damaged
returns-in_err-append-clause-damaged g c _ = same_has _ c.from_residual-in_err-append.result _ c.from_residual-in_err-append.ensures.1 tt

pub returns-in_err-append-clause-read : goal.returns-in_err-append-clause-read
returns-in_err-append-clause-read g c = c.descend.ensures.read

pub returns-in_err-append-clause-cause : goal.returns-in_err-append-clause-cause
returns-in_err-append-clause-cause g c =
    memory_cause _ _ c.from_residual-in_err-append.result c.in_ok-way.ensures.cause.later c.from_residual-in_err-append.ensures.1

pub returns-in_err-walk-clause-cost : goal.returns-in_err-walk-clause-cost
returns-in_err-walk-clause-cost g c _ _ = never_ok c.from_residual.result _ _ c.from_residual.ensures.1

pub returns-in_err-way-clause-cost : goal.returns-in_err-way-clause-cost
returns-in_err-way-clause-cost g c _ _ = never_ok c.from_residual-in_err-way.result _ _ c.from_residual-in_err-way.ensures.1

pub returns-in_err-append-clause-cost : goal.returns-in_err-append-clause-cost
returns-in_err-append-clause-cost g c _ _ = never_ok c.from_residual-in_err-append.result _ _ c.from_residual-in_err-append.ensures.1
