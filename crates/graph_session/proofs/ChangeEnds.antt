-- A change, from its beginning to its end.
use Rattle.std.proofs.Common.{◌≡◌, ◌∙◌, IfErr, Result, inl, inr, sym, subst, true≢false}
use Rattle.disk_model.specs.declared.disk.Disk.{Ghosts}
use Rattle.plain_graph.specs.Changes.{IsChange}
use Rattle.plain_graph.specs.declared.command.Command.{Command}
use Rattle.graph_session.specs.Answering.{reply_of}
use Rattle.graph_session.specs.Drafting.{BeginsChange, BlamesSeen, Drafts, EndsChange, OnlyDrafts}
use Rattle.graph_session.specs.Session.{view}
use Rattle.graph_session.specs.Settling.{SettlesCommand}
use Rattle.graph_session.specs.declared.answer.Answer.{Answer}
use Rattle.graph_session.specs.declared.changing.Begun.{Begun}
use Rattle.graph_session.specs.declared.changing.Drafted.{Drafted}
use Rattle.graph_session.specs.declared.health.Health.TheVariants as healths
use Rattle.graph_session.specs.declared.session.Session.{Session}
use Rattle.graph_session.proofs.Finishing.{settles-finish}
use Rattle.graph_session.proofs.FinishingAlone.{settles-finish_alone}

module _ {D : Type 0} {g : Ghosts D} {command : Command} (change : IsChange command) {old : Session D g} (live : old.health ≡ healths.Live)
    {mid then : Session D g} (new : Session D g) (begun : Begun) where
  -- what is drafted settles the line
  pub settles-change : BeginsChange old mid begun → OnlyDrafts mid then → (drafted : Result Drafted Answer) → Drafts command mid then drafted
      → IfErr drafted (BlamesSeen command mid) → (answer : Answer) → EndsChange begun drafted then new answer
      → SettlesCommand g command (view old) (view new) (reply_of answer)
  settles-change (counts, inl (within, opened, same)) only drafted drafts blames answer (inl (is, ends)) =
      settles-finish new live opened (subst (λ (s : Session D g). OnlyDrafts s then) same only) change begun.names counts drafted answer
      (subst (λ (s : Session D g). Drafts command s then drafted) same drafts)
      (subst (λ (s : Session D g). IfErr drafted (BlamesSeen command s)) same blames) ends
  settles-change (counts, inl (within, opened, same)) only drafted drafts blames answer (inr (is, ends)) = absurd (true≢false (sym is ∙ within))
  settles-change (counts, inr (alone, begins)) only drafted drafts blames answer (inl (is, ends)) = absurd (true≢false (sym alone ∙ is))
  settles-change (counts, inr (alone, begins)) only drafted drafts blames answer (inr (is, ends)) =
      settles-finish_alone old new live begins.closed begins.idle begins.same begins.own begins.draft begins.names begins.health only change begun.names counts
      drafted answer drafts blames ends
