-- A draft that has the changed records alone, and what is committed with such a one.
use Rattle.std.proofs.Common.{◌≡◌, ◌↔◌, ◌∙◌, ℕ, Option, None, Some, IfErr, Ok, Err, Result, List, [], true, is_some, inl, inr, refl, sym, ap, subst}
use Rattle.disk_model.specs.declared.disk.Disk.{Ghosts}
use Rattle.plain_graph.specs.LineChanges.{LineChanges}
use Rattle.plain_graph.specs.Reply.{Reply}
use Rattle.plain_graph.specs.declared.command.Command.{Command}
use Rattle.rec_bytes.specs.Pairs.{IsOrdered, Pairs, find_pair, merged}
use Rattle.rec_bytes.specs.Space.{State as Space, laid_over}
use Rattle.rec_bytes.specs.declared.key.Key.{Key}
use Rattle.rec_bytes.specs.declared.record.Rec.{Rec}
use Rattle.rec_bytes.specs.declared.shape.Shape.{Shape}
use Rattle.rec_bytes.proofs.Spaces.{laid_over-at, laid_over-other}
use Rattle.store_rules.specs.Graph.{graph_in, graph_of, names_of}
use Rattle.store_rules.specs.Indexes.{IsIndexed}
use Rattle.store_rules.specs.Views.{Records}
use Rattle.store_rules.specs.Writes.{WritesAtMost}
use Rattle.txn_core.specs.Changed.{AreChanged}
use Rattle.txn_core.specs.Store as store
use Rattle.txn_core.proofs.Shipped.{merged-none}
use Rattle.txn_core.proofs.StoreRecords.{working-read}
use Rattle.graph_session.specs.Answering.{reply_of}
use Rattle.graph_session.specs.ChangeLeft.{LeavesRecords}
use Rattle.graph_session.specs.Drafting.{BlamesSeen, Drafts, DraftsChanged, DropsUnchanged, IsStopped, KeepsOnlyChanged, MakesLine, OnlyDrafts}
use Rattle.graph_session.specs.SnapshotEffects.{DifferJustAt}
use Rattle.graph_session.specs.declared.answer.Answer.{Answer}
use Rattle.graph_session.specs.declared.changing.Drafted.{Drafted}
use Rattle.graph_session.specs.declared.session.Session.{Session}
use Rattle.graph_session.proofs.Streams.{Rose-from}

-- what is made of a space is made of it where its records and names come otherwise
pub makes-same : (command : Command) (reply : Reply) (weight : ℕ) (old mid new : Space) (names known : List (List ℕ)) → new.records ≡ mid.records
    → new.shape ≡ mid.shape → known ≡ names → MakesLine command reply weight old mid names → MakesLine command reply weight old new known
makes-same command reply weight old mid new names known records shape is made = record {
  store = record {
    store = subst (λ (s : Shape). IsIndexed new.records s) (sym shape) (subst (λ (r : Records). IsIndexed r mid.shape) (sym records) made.store.store);
    names = is ∙ made.store.names ∙ ap names_of (sym records);
  };
  changes = subst (λ (r : Records). LineChanges old.shape.limit (graph_in old) command reply (graph_of r)) (sym records) made.changes;
  total = made.total;
  weighs = made.weighs;
  only = made.only;
  told = made.told;
  free = made.free;
}

module _ {D : Type 0} {g : Ghosts D} {mid new : Session D g} (more : OnlyDrafts mid new) where
  -- the same is read of the draft
  drafted-changed : KeepsOnlyChanged mid new → g.tells_reads → store.drafted new.store ≡ store.drafted mid.store
  drafted-changed kept told =
      ap (λ (r : Key → Rec). laid_over r new.store.draft.pairs) (working-read mid.store.base new.store.base more.base) ∙ kept.records.read told

  -- its records are the changed ones
  pub only-changed : (made : Drafted) (result : Result Drafted Answer) → DropsUnchanged made mid new result → DraftsChanged result new
  only-changed made (Ok also) (is, kept) = λ light. record {
    rising = kept.rising;
    changed = λ told.
        subst (λ (r : Key → Rec). AreChanged r new.store.draft.pairs) (sym (working-read mid.store.base new.store.base more.base)) (kept.records.changed told);
  }
  only-changed made (Err why) dropped = tt

  -- where there is none any more, no record is blamed
  pub unchanged-blames : (command : Command) (old : Session D g) (made : Drafted) (result : Result Drafted Answer) → DropsUnchanged made mid new result
      → IfErr result (BlamesSeen command old)
  unchanged-blames command old made (Ok also) dropped = tt
  unchanged-blames command old made (Err why) (inl is) = subst (λ (a : Answer). BlamesSeen command old a) (sym is) tt
  unchanged-blames command old made (Err why) (inr (is, rose)) = subst (λ (a : Answer). BlamesSeen command old a) (sym is) tt

  -- and it is the draft of the same change
  pub drafts-changed : {command : Command} {old : Session D g} → OnlyDrafts old mid → (made : Drafted) → Drafts command old mid (Ok made)
      → (result : Result Drafted Answer) → DropsUnchanged made mid new result → Drafts command old new result
  drafts-changed {command = command} {old = old} first made drafts (Ok also) (is, kept) = subst (λ (m : Drafted). Drafts command old new (Ok m)) (sym is) (
    drafts.0,
    λ told has.
        makes-same command _ made.weight (store.state_of old.store) (store.state_of mid.store) (store.state_of new.store) mid.names.names new.names.names
        (drafted-changed kept told) more.base.shape kept.names (drafts.1 told has),
    λ few. fewer (drafts.2 few),
    λ told.
        subst (LeavesRecords command (reply_of made.answer) (store.drafted old.store) (store.drafted new.store)) (sym kept.names)
        (subst (λ (r : Records). LeavesRecords command (reply_of made.answer) (store.drafted old.store) r mid.names.names) (sym (drafted-changed kept told))
        (drafts.3 told)),
  )
    where
      fewer : WritesAtMost made.weight (store.state_of old.store) (store.state_of mid.store)
          → WritesAtMost made.weight (store.state_of old.store) (store.state_of new.store)
      fewer writes = record {
        keys = writes.keys;
        few = writes.few;
        own = writes.own;
        only = record { each = λ q there. writes.only.each q (kept.records.fewer q there) };
      }
  drafts-changed {command = command} {old = old} first made drafts (Err why) (inl is) =
      subst (λ (a : Answer). IsStopped command old new.store.base.disk.now a) (sym is) tt
  drafts-changed {command = command} {old = old} first made drafts (Err why) (inr (is, rose)) =
      subst (λ (a : Answer). IsStopped command old new.store.base.disk.now a) (sym is)
      (Rose-from (g.faults old.store.base.disk.now) (g.faults mid.store.base.disk.now) (g.faults new.store.base.disk.now) first.later rose)

-- changed records over an empty transaction are changed ones of what was committed
pub changed-merged : (records was : Key → Rec) (own draft : Pairs) → own ≡ [] → IsOrdered draft → records ≡ was → AreChanged records draft
    → AreChanged was (merged own draft)
changed-merged records was own draft none rising same changed =
    subst (λ (written : Pairs). AreChanged was written)
    (sym (ap (λ (written : Pairs). merged written draft) none ∙ merged-none draft rising))
    (subst (λ (r : Key → Rec). AreChanged r draft) same changed)

-- What was committed and what is differ at the keys of changed records that were laid over it, and at no other.
pub differ-just_at : (old new : Key → Rec) (written : Pairs) → new ≡ laid_over old written → AreChanged old written → DifferJustAt old new written
differ-just_at old new written is changed = λ key. by key (find_pair written key) refl
  where
    at : (key : Key) → new key ≡ laid_over old written key
    at key = ap (λ (r : Key → Rec). r key) is

    by : (key : Key) (found : Option Rec) → find_pair written key ≡ found → (is_some (find_pair written key) ≡ true) ↔ (¬ (new key ≡ old key))
    by key (Some rec) found = (
      λ there same. changed key rec found (sym (laid_over-at old written key rec found) ∙ sym (at key) ∙ same),
      λ differs. ap is_some found,
    )
    by key None found = (
      λ there. let clash = sym (ap is_some found) ∙ there in absurd cc,
      λ differs. absurd (differs (at key ∙ laid_over-other old written key found)),
    )
