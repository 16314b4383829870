use Rattle.std.proofs.Common.{◌≡◌, [], ap, ◌∙◌, length, arith}
use Rattle.rec_bytes.specs.Creation.{own_key}
use Rattle.rec_bytes.specs.Format.{index_file}
use Rattle.rec_bytes.specs.Pairs.{Pairs, with_pair}
use Rattle.rec_bytes.specs.RecordFiles.{meta_key_of}
use Rattle.rec_bytes.specs.Shape.{shape_record}
use Rattle.rec_bytes.proofs.CreationPairs.{raising_pairs-put}
use Rattle.rec_bytes.proofs.PairLaws.{growth_le}
use Rattle.rec_bytes.proofs.creating.put_raising.Goals as goal

pub returns-clause-pairs : goal.returns-clause-pairs
returns-clause-pairs c =
    c.put_reserved-2.ensures.pairs
    ∙ ap (λ (p : Pairs). with_pair p c.meta_key.result c.first_meta.result)
    (c.put_reserved.ensures.pairs ∙ ap (λ (p : Pairs). with_pair p own_key c.to_record.result) c.requires.empty ∙ ap (with_pair [] own_key)
    c.to_record.ensures.is)
    ∙ ap (λ k. with_pair (with_pair [] own_key (shape_record c.args.shape)) k c.first_meta.result) c.meta_key.ensures
    ∙ ap (with_pair (with_pair [] own_key (shape_record c.args.shape)) (meta_key_of index_file)) c.first_meta.ensures
    ∙ raising_pairs-put c.args.shape

pub returns-clause-room : goal.returns-clause-room
returns-clause-room c =
    let long : length c.put_reserved-2.new.self.pairs ≡ 2 = ap (λ (p : Pairs). length p) (returns-clause-pairs c) in
    omega (
      arith,
      long,
      c.put_reserved.ensures.room,
      c.put_reserved-2.ensures.room,
      growth_le c.args.set.now.pairs own_key,
      growth_le
          c.put_reserved.new.self.pairs c.meta_key.result,
    )
