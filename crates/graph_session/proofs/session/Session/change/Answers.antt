use Rattle.graph_session.specs.Jobs.{change_command}
use Rattle.graph_session.proofs.Jobs.{is_change}
use Rattle.graph_session.proofs.ChangeEnds.{settles-change}
use Rattle.graph_session.proofs.KeptChanges.{keeps-change}
use Rattle.graph_session.proofs.Taps.{taps-change}
use Rattle.graph_session.proofs.session.Session.change.Goals as goal

pub returns-clause-settles : goal.returns-clause-settles
returns-clause-settles g c =
    let drafted = c.draft_begun-drafted in
    settles-change (is_change c.args.change) c.requires.live c.end_change.new.self c.begin_change-begun.result c.begin_change-begun.ensures
    drafted.ensures.only drafted.result drafted.ensures.drafts drafted.ensures.blames c.end_change.result c.end_change.ensures.ends

pub returns-clause-keeps : goal.returns-clause-keeps
returns-clause-keeps g c =
    let drafted = c.draft_begun-drafted in
    keeps-change (is_change c.args.change) c.requires.live c.end_change.new.self c.begin_change-begun.result c.begin_change-begun.ensures
    drafted.ensures.only drafted.result drafted.ensures.drafts drafted.ensures.changed c.end_change.result c.end_change.ensures.ends

pub returns-clause-taps : goal.returns-clause-taps
returns-clause-taps g c =
    let drafted = c.draft_begun-drafted in
    taps-change (change_command c.args.change) (is_change c.args.change) c.requires.live c.end_change.new.self c.begin_change-begun.result
    c.begin_change-begun.ensures drafted.ensures.only drafted.result drafted.ensures.drafts drafted.ensures.changed c.end_change.result c.args.tap.now
    c.end_change.new.tap c.end_change.ensures.taps
