use Rattle.std.proofs.Common.{◌∙◌, ap, sym, subst, arith}
use Rattle.rec_bytes.specs.Space.{State}
use Rattle.follower.proofs.Puts.{on_ok, put_all-more, put_all-taken, write_key}
use Rattle.follower.specs.Shipment.{write_in}
use Rattle.rec_bytes.specs.Key.{IsKey}
use Rattle.follower.proofs.taken.put_shipment.Goals as goal
use Rattle.follower.specs.Taken.{number_record}

pub put-requires : goal.put-requires
put-requires g c =
    let place = c.place_of.ensures in
    let below = c.loop-index-test.true in
    subst (λ (w : _). IsKey w.0) (sym (c.write_in.ensures ∙ ap (write_in c.args.bytes.now) place))
    (write_key c.args.shape c.args.bytes.now c.loop-index.index c.requires.allowed c.requires.shipment (omega (arith, c.count_of-index-end.ensures, below)))

pub loop-index-preserved : goal.loop-index-preserved
loop-index-preserved g c =
    let below = c.loop-index-test.true in
    let before = c.loop-index.invariant.later in
    let more = c.put.ensures.cause.later in
    record {
      records = put_all-more (g.S.Reads.state c.args.space.now).records (g.S.Reads.state c.loop-index.space).records (g.S.Reads.state c.put.new.self).records
          c.args.bytes.now c.loop-index.index c.write_in.result.0 c.write_in.result.1
          (omega (arith, c.count_of-index-end.ensures, below)) c.loop-index.invariant.records
          (c.write_in.ensures ∙ ap (write_in c.args.bytes.now) c.place_of.ensures) (ap (λ (s : State). s.records) c.in_ok-put.ensures.ok);
      onward = g.met.S.Reads.further_onward _ _ _ c.loop-index.invariant.onward c.put.ensures.onward;
      later = omega arith;
    }

pub returns-clause-ok : goal.returns-clause-ok
returns-clause-ok g c =
    let over = c.loop-index-test.false in
    let end = c.loop-index.auto.index-end in
    on_ok c.put-2.result _ _ (λ is. put_all-taken c.args.shape (g.S.Reads.state c.args.space.now).records (g.S.Reads.state c.loop-index.space).records
    (g.S.Reads.state c.put-2.new.self).records c.args.bytes.now c.loop-index.index c.number_record.result
    c.requires.shipment (omega (arith, c.count_of-index-end.ensures, over, end)) c.loop-index.invariant.records
    (c.number_record.ensures ∙ ap number_record c.number_of.ensures) (ap (λ (s : State). s.records) is)) c.put-2.ensures.ok
