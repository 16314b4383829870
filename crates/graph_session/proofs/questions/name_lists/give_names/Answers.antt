use Rattle.std.proofs.Common.{◌∙◌, List, ℕ, ap, map, refl, take}
use Rattle.plain_graph.specs.Lines.{listed}
use Rattle.graph_session.specs.NameLists.{name_text}
use Rattle.graph_session.proofs.NamesTold.{asks-names, name-lines, names-first}
use Rattle.graph_session.proofs.Questioned.{asks-told}
use Rattle.graph_session.proofs.Running.{is_read-none}
use Rattle.store_rules.specs.Graph.{names_of}
use Rattle.graph_session.proofs.questions.name_lists.give_names.Goals as goal

pub returns-clause-gives : goal.returns-clause-gives
returns-clause-gives g c =
    let s = g.R.Reads.state c.args.space.now in
    let names = c.args.names.now.names in
    let count = c.name_count.result in
    asks-told asks-names (is_read-none g.R.Reads g.met.R.Reads.stays_onward c.args.space.now) (listed (map name_text (take count names)))
    (take count names, refl) refl (λ told store. tt) (λ told store. tt)
    (λ told store. ap (λ (own : List (List ℕ)). listed (map name_text own)) (names-first s.records s.shape names store count (c.name_count.ensures.is store))
    ∙ ap listed (name-lines (names_of s.records))) c.give_first.ensures.gives
