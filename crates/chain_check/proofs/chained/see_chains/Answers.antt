use Rattle.std.proofs.Common.{◌≡◌, ap, arith, subst}
use Rattle.rec_bytes.specs.declared.meta.Meta.{Meta}
use Rattle.rec_bytes.specs.Format.{nodes_file}
use Rattle.store_rules.specs.Breaking.{IsOwnedBy}
use Rattle.store_rules.specs.Views.{Records, high}
use Rattle.chain_check.specs.Chained.{SeesChain}
use Rattle.chain_check.proofs.ChainedLaws.{SeenBelow, below_all, below_clear, below_more, below_none}
use Rattle.record_lists.proofs.Causes.{cause_passed}
use Rattle.record_lists.proofs.OnlyReads.{is_read-none, is_read-on}
use Rattle.rec_bytes.proofs.Causes.{ok_cause}
use Rattle.chain_check.proofs.chained.see_chains.Goals as goal

pub loop-node-init : goal.loop-node-init
loop-node-init g c = record {
  seen = λ t. below_none (g.R.Reads.state c.args.space.now).records c.args.seen.now c.requires.clear;
  read = is_read-none g.R.Reads g.met.R.Reads.stays_onward c.args.space.now;
}

pub see_chain-requires-clause-clear : goal.see_chain-requires-clause-clear
see_chain-requires-clause-clear g c = λ t k own.
    let inv = c.loop-node.invariant in
    below_clear (g.R.Reads.state c.args.space.now).records c.loop-node.node c.loop-node.seen (inv.seen t) k
    (subst (λ (r : Records). IsOwnedBy r c.loop-node.node k) inv.read.records own)

pub loop-node-preserved : goal.loop-node-preserved
loop-node-preserved g c =
    let records = (g.R.Reads.state c.args.space.now).records in
    let inv = c.loop-node.invariant in
    record {
      seen = λ t. below_more records c.loop-node.node c.loop-node.seen c.see_chain.new.seen (inv.seen t)
          (subst (λ (r : Records). SeesChain r c.loop-node.node c.loop-node.seen c.see_chain.new.seen) inv.read.records
          (c.in_ok-see_chain.ensures.seen t));
      read = is_read-on g.R.Reads g.met.R.Reads.further_onward c.args.space.now c.loop-node.space c.see_chain.new.space inv.read
          c.in_ok-see_chain.ensures.read;
    }

pub returns-clause-seen : goal.returns-clause-seen
returns-clause-seen g c = λ t.
    let records = (g.R.Reads.state c.args.space.now).records in
    let mark : c.meta-node-end.result.high ≡ high records nodes_file = ap (λ (m : Meta). m.high) c.meta-node-end.ensures in
    below_all records c.loop-node.seen (subst (λ n. SeenBelow records n c.loop-node.seen) (omega arith) (c.loop-node.invariant.seen t))

pub returns-in_err-see_chain-clause-cause : goal.returns-in_err-see_chain-clause-cause
returns-in_err-see_chain-clause-cause g c =
    cause_passed _ _ _ c.from_residual.result c.in_err-see_chain.field-0.0 c.loop-node.invariant.read.later c.in_err-see_chain.ensures.cause
    c.from_residual.ensures.1

pub returns-in_err-see_chain-clause-read : goal.returns-in_err-see_chain-clause-read
returns-in_err-see_chain-clause-read g c =
    is_read-on g.R.Reads g.met.R.Reads.further_onward _ _ _ c.loop-node.invariant.read c.in_err-see_chain.ensures.read

pub returns-clause-read : goal.returns-clause-read
returns-clause-read g c = c.loop-node.invariant.read

pub returns-clause-cause : goal.returns-clause-cause
returns-clause-cause g c = ok_cause _ _ _ _ (returns-clause-read g c).later
