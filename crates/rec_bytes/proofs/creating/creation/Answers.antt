use Rattle.std.proofs.Common.{[], drop, ap, ◌∙◌}
use Rattle.rec_bytes.specs.Creation.{own_key}
use Rattle.rec_bytes.specs.Pairs.{Pairs, merged, with_pair}
use Rattle.rec_bytes.proofs.CreationPairs.{creation_pairs-merged, meta_pairs}
use Rattle.rec_bytes.proofs.creating.creation.Goals as goal

pub loop-entry-init : goal.loop-entry-init
loop-entry-init c =
    let files = c.all_but_meta-entry-items.result.now in
    ap (λ (p : Pairs). merged p (meta_pairs (drop 0 files)))
    (c.in_ok-put.ensures.ok ∙ ap (λ (p : Pairs). with_pair p own_key c.to_record.result) c.new-set.ensures ∙ ap (with_pair [] own_key) c.to_record.ensures.is)
    ∙ creation_pairs-merged c.args.shape files c.all_but_meta-entry-items.ensures
