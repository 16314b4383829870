use Rattle.graph_session.specs.Jobs.{change_command}
use Rattle.graph_session.proofs.ChangedDrafts.{drafts-changed, only-changed, unchanged-blames}
use Rattle.graph_session.proofs.LineDrafts.{drafts-on}
use Rattle.graph_session.proofs.session.Session.draft_changed.Goals as goal

pub returns-else-drafted-clause-only : goal.returns-else-drafted-clause-only
returns-else-drafted-clause-only g c = drafts-on c.draft.ensures.only c.drop_unchanged.ensures.only

pub returns-else-drafted-clause-drafts : goal.returns-else-drafted-clause-drafts
returns-else-drafted-clause-drafts g c =
    drafts-changed c.drop_unchanged.ensures.only c.draft.ensures.only c.in-Ok.drafted c.in-Ok.ensures.drafts c.drop_unchanged.result
    c.drop_unchanged.ensures.drops

pub returns-else-drafted-clause-changed : goal.returns-else-drafted-clause-changed
returns-else-drafted-clause-changed g c = only-changed c.drop_unchanged.ensures.only c.in-Ok.drafted c.drop_unchanged.result c.drop_unchanged.ensures.drops

pub returns-else-drafted-clause-blames : goal.returns-else-drafted-clause-blames
returns-else-drafted-clause-blames g c =
    unchanged-blames c.drop_unchanged.ensures.only (change_command c.args.change) c.args.self.now c.in-Ok.drafted c.drop_unchanged.result
    c.drop_unchanged.ensures.drops
