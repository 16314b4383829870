use Rattle.traversal_run.proofs.elements.value_of.Goals as goal

pub returns-clause-found : goal.returns-clause-found
returns-clause-found g c = λ tells store.
    c.numbered_value.ensures.found tells store.store c.args.key.now.text.now (record {
      finds = c.number_of-number.ensures.finds store;
      below =
          c.number_of-number.ensures.below;
    })
