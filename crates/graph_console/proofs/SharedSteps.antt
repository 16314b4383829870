-- What a line of each session does to the console of the session that writes.
use Rattle.std.proofs.Common.{◌≡◌, ◌⊎◌, ⊎_elim, inl, inr, ℕ, zero, suc, refl, ap, subst, arith}
use Rattle.plain_graph.specs.Reply as replies
use Rattle.plain_graph.specs.Reply.{Reply}
use Rattle.graph_session.specs.Exchange.{ConsoleStep, Exchange}
use Rattle.graph_session.specs.ReaderStep.{ReaderStep}
use Rattle.graph_session.specs.SharedExchange.{SharedStep, step_of}
use Rattle.graph_session.specs.SnapshotEffects.{Confirms}
use Rattle.graph_session.specs.Snapshots.{SharedState}
use Rattle.graph_session.specs.State.{session_in}
use Rattle.graph_console.specs.History.{AcknowledgesFrom, IsOfWriter}

module _ (old : SharedState) (x : Exchange) (new : SharedState) where
  same_writer : new ≡ old → new.writer ≡ old.writer
  same_writer same = ap (λ (s : SharedState). s.writer) same

  -- a line of a session that reads leaves the console of the one that writes as it is
  reader_keeps : (reader : ℕ) → ReaderStep reader old x new → new.writer ≡ old.writer
  reader_keeps reader step = by x.reply step
    where
      by : (reply : Reply) → ReaderStep reader old (record x { reply = reply }) new → new.writer ≡ old.writer
      by replies.Silent s = same_writer s.1
      by replies.Done s = ⊎_elim (λ taken. ap (λ (s : SharedState). s.writer) taken.1) (λ released. ap (λ (s : SharedState). s.writer) released.1) s.1
      by (replies.NodeMade id) never = absurd never
      by (replies.EdgeMade id) never = absurd never
      by (replies.Told lines last) s = same_writer s.1
      by (replies.Faulted lines fault) s = same_writer s.1
      by (replies.Refused why) s = same_writer s.1

  -- The session that writes takes a step of its console, in a line of its own; or its console stays, and no transaction is acknowledged.
  pub writes_or_stays : SharedStep old x new → (IsOfWriter x.line × ConsoleStep old.writer x new.writer)
      ⊎ ((¬ AcknowledgesFrom old.writer x) × (new.writer ≡ old.writer))
  writes_or_stays step = by (session_in x.line) refl step
    where
      by : (session : ℕ) → session_in x.line ≡ session → step_of session old x new → (IsOfWriter x.line × ConsoleStep old.writer x new.writer)
          ⊎ ((¬ AcknowledgesFrom old.writer x) × (new.writer ≡ old.writer))
      by zero own (inl refused) = inr (λ acknowledges. subst Confirms refused.1 acknowledges.1, same_writer refused.2)
      by zero own (inr writes) = inl (own, writes.1.0)
      by (suc reader) other reads = inr (
        λ acknowledges. let own : session_in x.line ≡ 0 = acknowledges.0 in omega (arith, own, other),
        reader_keeps (suc reader) reads,
      )
