use Rattle.rec_bytes.specs.Format.{most_ids}
use Rattle.prop_store.proofs.ListLaws.{below_more}
use Rattle.prop_store.proofs.block_list.BlockList.push.Goals as goal

pub invariant_of-self : goal.invariant_of-self
invariant_of-self c = below_more most_ids _ c.push.new.self.items c.args.id c.self.invariant c.requires.small c.push.ensures.items
