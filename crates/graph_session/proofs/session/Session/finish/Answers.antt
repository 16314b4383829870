use Rattle.std.proofs.Common.{inl, refl}
use Rattle.graph_session.proofs.session.Session.finish.Goals as goal

pub returns-in-Ok-keep_draft : goal.returns-in-Ok-keep_draft
returns-in-Ok-keep_draft g c = rw c.in-Ok.is (inl (refl, c.in-Ok-keep_draft.ensures.kept))
