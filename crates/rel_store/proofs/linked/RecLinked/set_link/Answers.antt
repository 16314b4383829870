use Rattle.std.proofs.Common.{ap, ◌∙◌, sym}
use Rattle.rec_bytes.proofs.Numbers.{field-with_field_other}
use Rattle.rel_store.specs.Linked.{link_in}
use Rattle.rel_store.proofs.LinkPlaces.{link_word, links_apart}
use Rattle.rel_store.proofs.linked.RecLinked.set_link.Goals as goal

pub returns-clause-others : goal.returns-clause-others
returns-clause-others c = λ other link ne.
    ap (λ rec. link_in rec other) c.set_number.ensures.set
    ∙ field-with_field_other 4 c.args.self.now c.args.field c.args.to 4 other (link_word other link).2
    (links_apart c.args.field other c.requires link (λ e. ne (sym e)))
