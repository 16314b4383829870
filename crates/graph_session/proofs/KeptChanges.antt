-- What a change leaves of the old records that are kept for snapshots.
use Rattle.std.proofs.Common.{◌≡◌, ◌⊎◌, ◌∙◌, ℕ, ◌+◌, ◌≤◌, true, false, Ok, Err, Result, is_some, [], length, inl, inr, true≢false}
use Rattle.std.proofs.Common.{refl, sym, ap, subst, arith}
use Rattle.disk_model.specs.declared.disk.Disk.{Ghosts}
use Rattle.plain_graph.specs.Changes.{IsChange, most_weight, start_weight}
use Rattle.plain_graph.specs.Kinds.{AreChanges, AreQuestions, Blanks, Bound, Change, Ending, Kind, Question, Sight, Upkeep}
use Rattle.plain_graph.specs.LineChanges.{LineWeighs}
use Rattle.plain_graph.specs.Lines.{IsQuestion, kind_of}
use Rattle.plain_graph.specs.Reply.{DiskFailed, Faulted, Reply}
use Rattle.plain_graph.specs.declared.command.Command.{Command}
use Rattle.plain_graph.specs.declared.command.Command.TheVariants as commands
use Rattle.rec_bytes.specs.Pairs.{Held, Pairs, find_pair, merged}
use Rattle.rec_bytes.specs.Space.{laid_over}
use Rattle.rec_bytes.specs.declared.key.Key.{Key}
use Rattle.rec_bytes.specs.declared.record.Rec.{Rec}
use Rattle.rec_bytes.specs.declared.shape.Shape.{Shape}
use Rattle.store_rules.specs.Graph.{graph_of, names_of}
use Rattle.store_rules.specs.Indexes.{IsIndexed}
use Rattle.snap_store.specs.Keeping.{EndsFor, KeepsHeld}
use Rattle.snap_store.specs.Snaps.{Snapshots}
use Rattle.txn_core.specs.Base.{SameBeneath}
use Rattle.txn_core.specs.Store.{committed, drafted, state_of, working}
use Rattle.txn_core.proofs.StoreRecords.{working-none}
use Rattle.rec_bytes.specs.declared.fault.Fault.TheVariants as faults
use Rattle.graph_session.specs.Answering.{reply_of}
use Rattle.graph_session.specs.Drafting.{BeginsChange, Drafts, DraftsChanged, EndsChange, EndsCommit, Finishes, FinishesAlone}
use Rattle.graph_session.specs.Drafting.{HasOnlyChanged, HasStore, IsStopped, IsUnkeptAlone, OnlyDrafts, TriesCommit}
use Rattle.graph_session.specs.MayStep.{TellsMade}
use Rattle.graph_session.specs.Session.{shared_view, view}
use Rattle.graph_session.specs.SnapshotEffects.{AreWeighed, Confirms, DifferJustAt, KeepsChange, KeepsKind, KeepsOlds, SharedView, WritesAlone}
use Rattle.graph_session.specs.declared.answer.Answer.{Answer}
use Rattle.graph_session.specs.declared.answer.Answer.TheVariants as answers
use Rattle.graph_session.specs.declared.changing.Begun.{Begun}
use Rattle.graph_session.specs.declared.changing.Drafted.{Drafted}
use Rattle.graph_session.specs.declared.health.Health.TheVariants as healths
use Rattle.graph_session.specs.declared.session.Session.{Session}
use Rattle.graph_session.proofs.ChangedDrafts.{changed-merged, differ-just_at}
use Rattle.graph_session.proofs.Drafts.{sights-as}
use Rattle.graph_session.proofs.FinishingAlone.{committed-mid, disk-dropped, drafted-begun}
use Rattle.graph_session.proofs.Weighing.{weighed-kept, weighed-start}
use Rattle.graph_session.proofs.Weights.{told-whole}

-- what is said of a change by its kind
keeps-kind : {D : Type 0} (g : Ghosts D) (old : SharedView D) (reply : Reply) (new : SharedView D) (command : Command) → IsChange command
    → KeepsChange g old reply new command
    → KeepsKind g old reply new (kind_of command) command
keeps-kind g old reply new command change kept = by (kind_of command) change
  where
    by : (kind : Kind) → AreChanges kind → KeepsKind g old reply new kind command
    by Blanks is = absurd is
    by Ending is = absurd is
    by Bound is = absurd is
    by Upkeep is = absurd is
    by Sight is = absurd is
    by Change is = kept
    by Question is = absurd is

-- a line that reads keeps nothing
pub keeps-read : {D : Type 0} {g : Ghosts D} {command : Command} {reply : Reply} (old new : SharedView D) → IsQuestion command → new.held ≡ old.held
    → new.session.console.is_open ≡ old.session.console.is_open
    → new.session.console.written ≡ old.session.console.written → new.session.console.weight ≡ old.session.console.weight → KeepsOlds g command old reply new
keeps-read {g = g} {command = command} {reply = reply} old new asks same opened written weight = record {
  held = by (kind_of command) asks;
  weighed = λ none weighed open_now.
      subst (λ n. AreWeighed new.session.console.written n) (sym weight)
      (subst (λ (pairs : Pairs). AreWeighed pairs old.session.console.weight) (sym written) (weighed (sym opened ∙ open_now)));
}
  where
    by : (kind : Kind) → AreQuestions kind → KeepsKind g old reply new kind command
    by Blanks is = absurd is
    by Ending is = absurd is
    by Bound is = absurd is
    by Upkeep is = absurd is
    by Sight is = absurd is
    by Change is = absurd is
    by Question is = same

pub made-confirmed : (command : Command) (reply : Reply) → TellsMade command reply → Confirms reply
made-confirmed (commands.Node label pairs) reply tells = subst Confirms (sym tells.1) tt
made-confirmed (commands.Edge from label to pairs) reply tells = subst Confirms (sym tells.1) tt
made-confirmed (commands.Set target key value) reply tells = subst Confirms (sym tells) tt
made-confirmed (commands.Unset target key) reply tells = subst Confirms (sym tells) tt
made-confirmed (commands.Delete target) reply tells = subst Confirms (sym tells) tt
made-confirmed (commands.Index label key) reply tells = subst Confirms (sym tells) tt
made-confirmed (commands.Mutate reading mutation) reply tells = subst Confirms (sym tells.1) tt
made-confirmed _ reply tells = absurd tells

pub stopped-unconfirmed : {D : Type 0} {g : Ghosts D} (command : Command) (base : Session D g) (now : D) (why : Answer) → IsStopped command base now why
    → ¬ Confirms (reply_of why)
stopped-unconfirmed command base now answers.Done stopped = absurd stopped
stopped-unconfirmed command base now (answers.NodeMade id) stopped = absurd stopped
stopped-unconfirmed command base now (answers.EdgeMade id) stopped = absurd stopped
stopped-unconfirmed command base now (answers.Results results) stopped = absurd stopped
stopped-unconfirmed command base now (answers.Refused why) stopped = λ confirms. confirms
stopped-unconfirmed command base now (answers.Fault faults.Memory) stopped = λ confirms. confirms
stopped-unconfirmed command base now (answers.Fault faults.Disk) stopped = λ confirms. confirms
stopped-unconfirmed command base now (answers.Fault (faults.Damaged damage)) stopped = λ confirms. confirms

pub unkept-unconfirmed : (weight : ℕ) (answer : Answer) → IsUnkeptAlone weight answer → ¬ Confirms (reply_of answer)
unkept-unconfirmed weight answer (inl (is, heavy)) = subst (λ (a : Answer). ¬ Confirms (reply_of a)) (sym is) (λ confirms. confirms)
unkept-unconfirmed weight answer (inr is) = subst (λ (a : Answer). ¬ Confirms (reply_of a)) (sym is) (λ confirms. confirms)

-- a draft leaves what the transaction has written
own-mid : {D : Type 0} {g : Ghosts D} {old mid : Session D g} → OnlyDrafts old mid → mid.store.base.own.pairs ≡ old.store.base.own.pairs
own-mid only = ap (λ (held : Held). held.pairs) only.base.own

module _ {D : Type 0} {g : Ghosts D} {command : Command} (change : IsChange command) where
  -- a change in the open transaction
  module _ {old mid : Session D g} (new : Session D g) (opened : old.store.base.in_transaction ≡ true) (only : OnlyDrafts old mid) where
    keeps-dropped : (answer : Answer) → new.snaps ≡ mid.snaps → new.store.base.own.pairs ≡ mid.store.base.own.pairs → new.weight ≡ mid.weight
        → KeepsOlds g command (shared_view old) (reply_of answer) (shared_view new)
    keeps-dropped answer snaps own weight = record {
      held = keeps-kind g (shared_view old) (reply_of answer) (shared_view new) command change (inl (snaps ∙ only.snaps, inl opened));
      weighed = λ none weighed open_now.
          subst (λ n. AreWeighed new.store.base.own.pairs n) (sym (weight ∙ only.weight))
          (subst (λ (written : Pairs). AreWeighed written old.weight) (sym (own ∙ own-mid only)) (weighed opened));
    }

    pub keeps-finish : (count : ℕ) (result : Result Drafted Answer) (answer : Answer) → Drafts command old mid result → Finishes result count mid new answer
        → KeepsOlds g command (shared_view old) (reply_of answer) (shared_view new)
    keeps-finish count (Ok made) answer drafts (inl (is, kept)) = record {
      held = keeps-kind g (shared_view old) (reply_of answer) (shared_view new) command change (inl (kept.snaps ∙ only.snaps, inl opened));
      weighed = λ none weighed open_now.
          subst (λ n. AreWeighed new.store.base.own.pairs n) (sym (kept.weight ∙ ap (λ n. n + made.weight) only.weight))
          (subst (λ (written : Pairs). AreWeighed written (old.weight + made.weight))
          (sym (kept.own ∙ ap (λ (written : Pairs). merged written mid.store.draft.pairs) (own-mid only)))
          (weighed-kept old.store.base.own.pairs mid.store.draft.pairs old.weight made.weight (state_of old.store) (state_of mid.store) (weighed opened)
          (λ key. ap (λ (pairs : Pairs). is_some (find_pair pairs key)) none) (λ key. refl) (drafts.2 (let fits = kept.fits in omega (arith, fits)))));
    }
    keeps-finish count (Ok made) answer drafts (inr (unkept, drops)) = keeps-dropped answer drops.snaps drops.own drops.weight
    keeps-finish count (Err why) answer drafts (is, drops) = keeps-dropped answer drops.snaps drops.own drops.weight

  -- a change by itself
  module _ {begun mid : Session D g} (old new : Session D g) (live : old.health ≡ healths.Live) (closed : old.store.base.in_transaction ≡ false)
      (idle : length old.store.base.own.pairs ≡ 0)
      (same : SameBeneath old.store.base begun.store.base) (own : begun.store.base.own.pairs ≡ []) (draft : begun.store.draft.pairs ≡ [])
      (names : begun.names.names ≡ old.names.names) (health : begun.health ≡ old.health)
      (snaps : begun.snaps ≡ old.snaps) (only : OnlyDrafts begun mid) where
    weighs-alone : (made : Drafted) → start_weight + made.weight ≤ most_weight → Drafts command begun mid (Ok made) → g.tells_reads
        → IsIndexed (committed old.store) old.store.base.shape
        → old.names.names ≡ names_of (committed old.store) → LineWeighs old.store.base.shape.limit old.store.base.shape.threshold
        (graph_of (committed old.store)) command made.weight
    weighs-alone made light drafts told store named =
        let is = drafted-begun old new live closed idle same own draft names health only in
        let has : HasStore begun = record {
          store = subst (λ (shape : Shape). IsIndexed (drafted begun.store) shape) (sym same.shape)
              (subst (λ (records : Key → Rec). IsIndexed records old.store.base.shape) (sym is) store);
          names = names ∙ named ∙ ap names_of (sym is);
        } in
        let made_line = drafts.1 told has in
        let weighs =
        subst (λ (weight : ℕ). LineWeighs begun.store.base.shape.limit begun.store.base.shape.threshold (graph_of (drafted begun.store)) command weight)
        (told-whole made_line.total made.weight made_line.told (omega (arith, light))) made_line.weighs in
        subst (λ (shape : Shape). LineWeighs shape.limit shape.threshold (graph_of (committed old.store)) command made.weight) same.shape
        (subst (λ (records : Key → Rec). LineWeighs begun.store.base.shape.limit begun.store.base.shape.threshold (graph_of records) command made.weight)
        is weighs)

    weighed-alone : (made : Drafted) → start_weight + made.weight ≤ most_weight → Drafts command begun mid (Ok made)
        → AreWeighed (merged mid.store.base.own.pairs mid.store.draft.pairs) (start_weight + made.weight)
    weighed-alone made light drafts =
        subst (λ (written : Pairs). AreWeighed (merged written mid.store.draft.pairs) (start_weight + made.weight)) (sym (own-mid only ∙ own))
        (weighed-kept [] mid.store.draft.pairs start_weight made.weight (state_of begun.store) (state_of mid.store) weighed-start
        (λ key. ap (λ (pairs : Pairs). is_some (find_pair pairs key)) draft) (λ key. refl)
        (drafts.2 (omega (arith, light))))

    -- what it has written by itself
    pub writes-alone : (made : Drafted) → start_weight + made.weight ≤ most_weight → Drafts command begun mid (Ok made) → HasOnlyChanged mid
        → WritesAlone g command (view old) (merged mid.store.base.own.pairs mid.store.draft.pairs)
    writes-alone made light drafts changed = record {
      more = made.weight;
      weighed = weighed-alone made light drafts;
      light = light;
      weighs = λ told store named. weighs-alone made light drafts told store named;
      changed = λ told.
          changed-merged (working mid.store) (committed old.store) mid.store.base.own.pairs mid.store.draft.pairs (own-mid only ∙ own) changed.rising
          (working-none mid.store.base (own-mid only ∙ own) ∙ committed-mid old new live closed idle same own draft names health only)
          (changed.changed told);
    }

    keeps-tried : (made : Drafted) (answer : Answer) → start_weight + made.weight ≤ most_weight → Drafts command begun mid (Ok made) → HasOnlyChanged mid
        → TriesCommit (drafted mid.store) (merged mid.store.base.own.pairs mid.store.draft.pairs) mid new made.answer answer
        → KeepsOlds g command (shared_view old) (reply_of answer) (shared_view new)
    keeps-tried made answer light drafts changed tries = record {
      held = keeps-kind g (shared_view old) (reply_of answer) (shared_view new) command change (inr (
        closed,
        merged mid.store.base.own.pairs mid.store.draft.pairs,
        writes-alone made light drafts changed,
        λ told confirms. (is_committed told tries.ends confirms, differs told (is_committed told tries.ends confirms)),
        record {
          ends = ends tries.ends;
          sights = sights-as g new.store.base.disk.now (committed mid.store) (committed old.store) mid.snaps old.snaps new.snaps
              (committed-mid old new live closed idle same own draft names health only) (only.snaps ∙ snaps) tries.sights;
          ended = subst (λ (held : Snapshots). EndsFor (merged mid.store.base.own.pairs mid.store.draft.pairs) held new.snaps) (only.snaps ∙ snaps) tries.ended;
          held = λ weight few. subst (λ (held : Snapshots). KeepsHeld weight held new.snaps) (only.snaps ∙ snaps) (tries.held weight few);
        },
      ));
      weighed = λ none weighed opened. absurd (true≢false (sym opened ∙ closes tries.ends));
    }
      where
        ends : EndsCommit (drafted mid.store) mid new made.answer answer → Confirms (reply_of answer) ⊎ (reply_of answer ≡ Faulted [] DiskFailed)
        ends (inl (is, commits)) = inl (subst (λ (a : Answer). Confirms (reply_of a)) (sym is) (made-confirmed command (reply_of made.answer) drafts.0))
        ends (inr (is, failed)) = inr (ap reply_of is)

        is_committed : g.tells_reads → EndsCommit (drafted mid.store) mid new made.answer answer → Confirms (reply_of answer)
            → committed new.store ≡ laid_over (committed old.store) (merged mid.store.base.own.pairs mid.store.draft.pairs)
        is_committed told (inl (is, commits)) confirms =
            commits.committed told
            ∙ tries.writes
            ∙ ap (λ (records : Key → Rec). laid_over records (merged mid.store.base.own.pairs mid.store.draft.pairs))
            (committed-mid old new live closed idle same own draft names health only)
        is_committed told (inr (is, failed)) confirms = absurd (subst (λ (a : Answer). Confirms (reply_of a)) is confirms)

        differs : g.tells_reads → committed new.store ≡ laid_over (committed old.store) (merged mid.store.base.own.pairs mid.store.draft.pairs)
            → DifferJustAt (committed old.store) (committed new.store) (merged mid.store.base.own.pairs mid.store.draft.pairs)
        differs told is = differ-just_at (committed old.store) (committed new.store) (merged mid.store.base.own.pairs mid.store.draft.pairs) is
            ((writes-alone made light drafts changed).changed told)

        closes : EndsCommit (drafted mid.store) mid new made.answer answer → new.store.base.in_transaction ≡ false
        closes (inl (is, commits)) = commits.closes.in_transaction
        closes (inr (is, inl drops)) = drops.closes.in_transaction
        closes (inr (is, inr doubts)) = doubts.closes.in_transaction

    pub keeps-finish_alone : (count : ℕ) → count ≡ length old.names.names → (result : Result Drafted Answer) (answer : Answer) → Drafts command begun mid result
        → DraftsChanged result mid → FinishesAlone result count mid new answer
        → KeepsOlds g command (shared_view old) (reply_of answer) (shared_view new)
    keeps-finish_alone count counts (Ok made) answer drafts changed (inl (light, tries)) = keeps-tried made answer light drafts (changed light) tries
    keeps-finish_alone count counts (Ok made) answer drafts changed (inr (unkept, drops)) = record {
      held = keeps-kind g (shared_view old) (reply_of answer) (shared_view new) command change
          (inl (
            drops.snaps ∙ only.snaps ∙ snaps,
            inr (
              unkept-unconfirmed made.weight answer unkept,
              disk-dropped old new live closed idle same own draft names health only count counts answer drops,
            ),
          ));
      weighed = λ none weighed opened. absurd (true≢false (sym opened ∙ drops.closes.in_transaction));
    }
    keeps-finish_alone count counts (Err why) answer drafts changed (is, drops) = record {
      held = keeps-kind g (shared_view old) (reply_of answer) (shared_view new) command change
          (inl (
            drops.snaps ∙ only.snaps ∙ snaps,
            inr (
              subst (λ (a : Answer). ¬ Confirms (reply_of a)) (sym is) (stopped-unconfirmed command begun mid.store.base.disk.now why drafts),
              disk-dropped old new live closed idle same own draft names health only count counts answer drops,
            ),
          ));
      weighed = λ none weighed opened. absurd (true≢false (sym opened ∙ drops.closes.in_transaction));
    }

module _ {D : Type 0} {g : Ghosts D} {command : Command} (change : IsChange command) {old : Session D g} (live : old.health ≡ healths.Live)
    {mid then : Session D g} (new : Session D g) (begun : Begun) where
  -- what is drafted keeps the old records
  pub keeps-change : BeginsChange old mid begun → OnlyDrafts mid then → (drafted : Result Drafted Answer) → Drafts command mid then drafted
      → (begun.alone ≡ true → DraftsChanged drafted then) → (answer : Answer) → EndsChange begun drafted then new answer
      → KeepsOlds g command (shared_view old) (reply_of answer) (shared_view new)
  keeps-change (counts, inl (within, opened, same)) only drafted drafts changed answer (inl (is, ends)) =
      keeps-finish change new opened (subst (λ (s : Session D g). OnlyDrafts s then) same only) begun.names drafted answer
      (subst (λ (s : Session D g). Drafts command s then drafted) same drafts) ends
  keeps-change (counts, inl (within, opened, same)) only drafted drafts changed answer (inr (is, ends)) = absurd (true≢false (sym is ∙ within))
  keeps-change (counts, inr (alone, begins)) only drafted drafts changed answer (inl (is, ends)) = absurd (true≢false (sym alone ∙ is))
  keeps-change (counts, inr (alone, begins)) only drafted drafts changed answer (inr (is, ends)) =
      keeps-finish_alone change old new live begins.closed begins.idle begins.same begins.own begins.draft begins.names begins.health begins.snaps only
      begun.names counts drafted answer drafts (changed alone) ends
