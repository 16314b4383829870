-- A change, from its draft to its reply.
use Rattle.std.proofs.Common.{◌≡◌, ◌∙◌, ◌+◌, ◌<◌, ◌≤◌, ℕ, Bool, true, IfErr, Ok, Err, Result, Some, List, [], length, take, inl, inr, refl, sym, ap, subst}
use Rattle.std.proofs.Common.{arith}
use Rattle.fault_count.specs.Cause.{Rose}
use Rattle.disk_model.specs.Spans.{OnlyReads}
use Rattle.disk_model.specs.declared.disk.Disk.{Ghosts}
use Rattle.stream_io.specs.Lines.{Whole}
use Rattle.plain_graph.specs.Changes.{IsChange, most_weight}
use Rattle.plain_graph.specs.Graph.{Graph}
use Rattle.plain_graph.specs.LineChanges.{LineChanges, LineWeighs, line_reasons}
use Rattle.plain_graph.specs.Refusals.{FirstReason, NoReason}
use Rattle.plain_graph.specs.Reply.{DiskFailed, Faulted, NoMemory, Reply}
use Rattle.plain_graph.specs.declared.command.Command.{Command}
use Rattle.plain_graph.specs.declared.refusal.Refusal.TheVariants as refusals
use Rattle.rec_bytes.specs.Pairs.{Held}
use Rattle.rec_bytes.specs.declared.key.Key.{Key}
use Rattle.rec_bytes.specs.declared.record.Rec.{Rec}
use Rattle.rec_bytes.specs.declared.shape.Shape.{Shape}
use Rattle.store_rules.specs.Graph.{graph_in, graph_of, names_of}
use Rattle.store_rules.specs.Indexes.{IsIndexed}
use Rattle.txn_core.specs.Store.{drafted, state_of, working}
use Rattle.txn_core.proofs.StoreRecords.{committed-beneath, committed-read, drafted-none, working-beneath, working-read}
use Rattle.rec_bytes.specs.declared.fault.Fault.TheVariants as faults
use Rattle.graph_session.specs.Answer.{Settles}
use Rattle.graph_session.specs.Answering.{reply_of}
use Rattle.graph_session.specs.ChangeLeft.{LeavesRecords}
use Rattle.graph_session.specs.Console.{IsAt, SessionView}
use Rattle.graph_session.specs.DiskUse.{UsesDisk}
use Rattle.graph_session.specs.Drafting.{BlamesSeen, Discards, Drafts, Finishes, HasDraft, HasStore, IsStopped, KeepsDraft, OnlyDrafts, TellsChange}
use Rattle.graph_session.specs.Effects.{Keeps, Stays}
use Rattle.graph_session.specs.Known.{as_known}
use Rattle.graph_session.specs.MayStep.{MayAnswer}
use Rattle.graph_session.specs.Refusals.{SpellsOnly, weight_before}
use Rattle.graph_session.specs.Session.{view}
use Rattle.graph_session.specs.Settling.{SettlesCommand}
use Rattle.graph_session.specs.State.{State, Transaction, seen}
use Rattle.graph_session.specs.declared.answer.Answer.{Answer}
use Rattle.graph_session.specs.declared.answer.Answer.TheVariants as answers
use Rattle.graph_session.specs.declared.changing.Drafted.{Drafted}
use Rattle.graph_session.specs.declared.health.Health.TheVariants as healths
use Rattle.graph_session.specs.declared.session.Session.{Session}
use Rattle.graph_session.proofs.Anyhow.{made-good, may-change, may-stopped}
use Rattle.graph_session.proofs.Answering.{settles-damaged, settles-memory, settles-refused}
use Rattle.graph_session.proofs.Changes.{change-reached, settles-change_fault, settles-kept}
use Rattle.graph_session.proofs.Conditions.{WeighsIn, accepted, heavy-refused, refused, weight-light}
use Rattle.graph_session.proofs.DiskUse.{change-needs, uses-reads}
use Rattle.graph_session.proofs.Drafts.{Sees, sees-as}
use Rattle.graph_session.proofs.Held.{held, names-working, seen_open, take-brought}
use Rattle.graph_session.proofs.Knowing.{keeps-known, stays-known, told_of}
use Rattle.graph_session.proofs.Spelling.{change-spared, spared-only}
use Rattle.graph_session.proofs.States.{is_open}
use Rattle.graph_session.proofs.Staying.{comes-stays}
use Rattle.graph_session.proofs.Weights.{told-least, told-whole}

module _ {D : Type 0} {g : Ghosts D} where
  -- a change that was not made
  module _ {old new : SessionView D} {state : State} (at : IsAt g old state) (live : old.console.health ≡ healths.Live) {line : List ℕ} {command : Command}
      (spelled : SpellsOnly line command)
      (change : IsChange command) (stays : Stays g old new) where
    pub unmade-uses : {reply : Reply} → UsesDisk g (Whole line) state reply old.disk new.disk
    unmade-uses = uses-reads state spelled (change-needs command change) (change-reached at live spelled change) stays.beneath.disk

    pub unmade-memory : Settles g (Whole line) old new state (Faulted [] NoMemory)
    unmade-memory = settles-memory at stays (λ spares. change-spared command change (spared-only spelled spares)) unmade-uses

module _ {D : Type 0} {g : Ghosts D} where
  -- the store, and the graph that a line sees
  module _ (known : Bool) (old : Session D g) {state : State} (at : IsAt (as_known known g) (view old) state) (live : old.health ≡ healths.Live)
      (told : (as_known known g).tells_reads) where
    pub has-store : HasStore old
    has-store =
        let none : drafted old.store ≡ working old.store = drafted-none old.store at.no_draft in
        record {
          store = subst (λ (shape : Shape). IsIndexed (drafted old.store) shape) at.shape
              (subst (λ (records : Key → Rec). IsIndexed records state.shape) (sym none) (held at live told).working);
          names = names-working at live told ∙ ap names_of (sym none);
        }

    pub has-sees : Sees (state_of old.store) state
    has-sees = record { shape = at.shape; graph = sym (held at live told).working_graph ∙ ap graph_of (sym (drafted-none old.store at.no_draft)) }

  -- no change was drafted
  module _ (known : Bool) {old new : SessionView D} {state : State} (at : IsAt (as_known known g) old state) (live : old.console.health ≡ healths.Live)
      {line : List ℕ} {command : Command} (spelled : SpellsOnly line command)
      (change : IsChange command) (base : Session D g) (now : D) (has : (as_known known g).tells_reads → HasStore base)
      (sees : (as_known known g).tells_reads → Sees (state_of base.store) state) where
    pub settles-stopped : (why : Answer) → IsStopped command base now why → (¬ (why ≡ answers.Fault faults.Disk) → Stays g old new)
        → (why ≡ answers.Fault faults.Disk → Rose (g.faults base.store.base.disk.now) (g.faults now) → Settles (as_known known g) (Whole line) old new state
        (Faulted [] DiskFailed)) → Settles (as_known known g) (Whole line) old new state (reply_of why)
    settles-stopped answers.Done stopped stays fault = absurd stopped
    settles-stopped (answers.NodeMade id) stopped stays fault = absurd stopped
    settles-stopped (answers.EdgeMade id) stopped stays fault = absurd stopped
    settles-stopped (answers.Results results) stopped stays fault = absurd stopped
    settles-stopped (answers.Refused why) stopped stays fault =
        settles-refused at (stays-known known (stays (λ e. cc))) why (λ told. refused state spelled (change-reached at live spelled change) why
        (sees-as (sees told) (λ shape graph. FirstReason line_reasons shape.limit graph command why) (stopped (told_of known g told) (has told))))
        (unmade-uses at live spelled change (stays-known known (stays (λ e. cc))))
    settles-stopped (answers.Fault faults.Memory) stopped stays fault = unmade-memory at live spelled change (stays-known known (stays (λ e. cc)))
    settles-stopped (answers.Fault faults.Disk) stopped stays fault = fault refl stopped
    settles-stopped (answers.Fault (faults.Damaged damage)) stopped stays fault =
        settles-damaged damage.file damage.id state (comes-stays at (stays-known known (stays (λ e. cc)))) (λ told. stopped (told_of known g told) (has told))
        (unmade-uses at live spelled change (stays-known known (stays (λ e. cc))))

  -- a change in the open transaction
  module _ {old mid : Session D g} (new : Session D g) (live : old.health ≡ healths.Live) (opened : old.store.base.in_transaction ≡ true)
      (only : OnlyDrafts old mid) where
    stays-discarded : (count : ℕ) → count ≡ length old.names.names → Discards count mid new → Stays g (view old) (view new)
    stays-discarded count counts drops = record {
      beneath = record {
        shape = drops.beneath.shape ∙ only.base.shape;
        is_live = drops.beneath.live ∙ only.base.live;
        committed = λ told. committed-beneath mid.store.base new.store.base drops.beneath ∙ committed-read old.store.base mid.store.base only.base;
        no_draft = drops.draft;
        disk = subst (λ (disk : D). OnlyReads g old.store.base.disk.now disk) (sym drops.beneath.disk) only.base.disk;
      };
      health = drops.health ∙ only.health;
      is_open = drops.in_transaction ∙ only.base.in_transaction;
      weight = λ is. drops.weight ∙ only.weight;
      names = drops.names ∙ ap (take count) only.brought.1 ∙ take-brought old.names.names only.brought.0 count counts;
      written = drops.own ∙ ap (λ (held : Held). held.pairs) only.base.own;
      working = λ told. working-beneath mid.store.base new.store.base drops.beneath drops.own ∙ working-read old.store.base mid.store.base only.base;
    }

    keeps-kept : (more : ℕ) → KeepsDraft more mid new → Keeps g (view old) (view new) more
    keeps-kept more kept = record {
      beneath = record {
        shape = kept.beneath.shape ∙ only.base.shape;
        is_live = kept.beneath.live ∙ only.base.live;
        committed = λ told. committed-beneath mid.store.base new.store.base kept.beneath ∙ committed-read old.store.base mid.store.base only.base;
        no_draft = kept.draft;
        disk = subst (λ (disk : D). OnlyReads g old.store.base.disk.now disk) (sym kept.beneath.disk) only.base.disk;
      };
      health = kept.health ∙ only.health;
      is_open = kept.in_transaction ∙ only.base.in_transaction;
      weighs = kept.weight ∙ ap (λ (n : ℕ). n + more) only.weight;
      brought = (only.brought.0, kept.names ∙ only.brought.1);
    }

    module _ (known : Bool) {command : Command} (change : IsChange command) {line : List ℕ} {state : State} (spelled : SpellsOnly line command)
        (at : IsAt (as_known known g) (view old) state) (made : Drafted)
        (has : g.tells_reads → HasStore old → HasDraft command old mid made) (transaction : Transaction) (is : state.open_one ≡ Some transaction) where
      has-draft : (as_known known g).tells_reads → HasDraft command old mid made
      has-draft told = has (told_of known g told) (has-store known old at live told)

      same-graph : (as_known known g).tells_reads → graph_in (state_of old.store) ≡ transaction.graph
      same-graph told = sym (has-sees known old at live told).graph ∙ seen_open state transaction is

      -- what the line weighs in the graph that it sees, and no other number
      weighs-it : (told : (as_known known g).tells_reads) → WeighsIn state command (has-draft told).total
      weighs-it told = sees-as (has-sees known old at live told) (λ shape graph. LineWeighs shape.limit shape.threshold graph command (has-draft told).total)
          (has-draft told).weighs

      weighs-only : (told : (as_known known g).tells_reads) (other : ℕ) → WeighsIn state command other → other ≡ (has-draft told).total
      weighs-only told = sees-as (has-sees known old at live told) (λ shape graph. (other : ℕ) → LineWeighs shape.limit shape.threshold graph command other
          → other ≡ (has-draft told).total) (has-draft told).only

      -- no reason refuses the change in the graph that the line sees
      is-free : (as_known known g).tells_reads → NoReason line_reasons state.shape.limit (seen state) command
      is-free told = sees-as (has-sees known old at live told) (λ shape graph. NoReason line_reasons shape.limit graph command) (has-draft told).free

      -- what the open transaction weighs
      before-it : weight_before state.open_one ≡ mid.weight
      before-it = ap weight_before is ∙ sym (at.weight transaction is) ∙ sym only.weight

      settles-full : Stays g (view old) (view new) → most_weight < mid.weight + made.weight
          → Settles (as_known known g) (Whole line) (view old) (view new) state (reply_of (answers.Refused refusals.TransactionFull))
      settles-full stays more =
          settles-refused at (stays-known known stays) refusals.TransactionFull
          (λ told.
          heavy-refused state spelled (is-free told) (change-reached at live spelled change) (has-draft told).total (weighs-it told)
          (let a = before-it in let least = told-least (has-draft told).total made.weight (has-draft told).told in omega (arith, a, least, more)))
          (unmade-uses at live spelled change (stays-known known stays))

      settles-made : TellsChange command made.answer → KeepsDraft made.weight mid new
          → Settles (as_known known g) (Whole line) (view old) (view new) state (reply_of made.answer)
      settles-made tells kept =
          settles-kept at live transaction is spelled change (reply_of made.answer) (made-good command (reply_of made.answer) tells) made.weight
          (keeps-known known (keeps-kept made.weight kept))
          (λ told. record {
            store =
                subst (λ (shape : Shape). IsIndexed (working new.store) shape) (only.base.shape ∙ sym at.shape)
                (subst (λ (records : Key → Rec). IsIndexed records mid.store.base.shape) (sym kept.working) (has-draft told).store.store);
            named = kept.names ∙ (has-draft told).store.names ∙ ap names_of (sym kept.working);
          })
          (λ told.
          accepted state spelled (change-reached at live spelled change) (is-free told)
          (weight-light state command (has-draft told).total (weighs-only told) (let a = before-it in let same = whole told in let fits = kept.fits in omega
          (arith, a, same, fits))))
          (λ told.
          subst (λ (limit : ℕ). LineChanges limit transaction.graph command (reply_of made.answer) (graph_of (working new.store)))
          (ap (λ (shape : Shape). shape.limit) (sym at.shape))
          (subst (λ (graph : Graph). LineChanges old.store.base.shape.limit graph command (reply_of made.answer) (graph_of (working new.store)))
          (same-graph told)
          (subst (λ (records : Key → Rec). LineChanges old.store.base.shape.limit (graph_in (state_of old.store)) command (reply_of made.answer)
          (graph_of records)) (sym kept.working) (has-draft told).changes)))
          (λ told.
          subst (λ (weight : ℕ). LineWeighs state.shape.limit state.shape.threshold transaction.graph command weight) (whole told)
          (subst (λ (graph : Graph). LineWeighs state.shape.limit state.shape.threshold graph command (has-draft told).total) (seen_open state transaction is)
          (weighs-it told)))
        where
          -- a weight that fits is told whole
          whole : (told : (as_known known g).tells_reads) → (has-draft told).total ≡ made.weight
          whole told = told-whole (has-draft told).total made.weight (has-draft told).told (let fits = kept.fits in omega (arith, fits))

    later-on : (disk : D) → disk ≡ mid.store.base.disk.now → g.faults old.store.base.disk.now ≤ g.faults disk
    later-on disk same = subst (λ (now : D). g.faults old.store.base.disk.now ≤ g.faults now) (sym same) only.later

    module _ {command : Command} (change : IsChange command) (count : ℕ) (counts : count ≡ length old.names.names) where
      settles-unmade : (known : Bool) {line : List ℕ} {state : State} → SpellsOnly line command → IsAt (as_known known g) (view old) state → (why : Answer)
          → IsStopped command old mid.store.base.disk.now why → Discards count mid new
          → Settles (as_known known g) (Whole line) (view old) (view new) state (reply_of why)
      settles-unmade known {state = state} spelled at why stopped drops =
          let stays = stays-discarded count counts drops in
          settles-stopped known at live spelled change old mid.store.base.disk.now (has-store known old at live) (has-sees known old at live) why stopped
          (λ other. stays)
          (λ is rose. let one = is_open at opened in settles-change_fault at live one.0 one.1 spelled change (stays-known known stays)
          (subst (λ (disk : D). Rose (g.faults old.store.base.disk.now) (g.faults disk)) (sym drops.beneath.disk) rose))

      pub settles-finish : (result : Result Drafted Answer) (answer : Answer) → Drafts command old mid result → IfErr result (BlamesSeen command old)
          → Finishes result count mid new answer → SettlesCommand g command (view old) (view new) (reply_of answer)
      settles-finish (Ok made) answer drafts blames (inl (told_so, kept)) = record {
        settles = λ known line state spelled served at.
            let one = is_open at opened in
            subst (λ (a : Answer). Settles (as_known known g) (Whole line) (view old) (view new) state (reply_of a)) (sym told_so)
            (settles-made known change spelled at made drafts.1 one.0 one.1 drafts.0 kept);
        may = λ none.
            subst (λ (a : Answer). MayAnswer g command (view old) (reply_of a) (view new)) (sym told_so)
            (may-change g (view old) (reply_of made.answer) (view new) command change
            (inl (
              drafts.0,
              inl (opened, made.weight, keeps-kept made.weight kept, subst (λ (n : ℕ). n ≤ most_weight) (sym kept.weight) kept.fits),
              λ told.
                  subst (LeavesRecords command (reply_of made.answer) (drafted old.store) (drafted new.store)) (sym kept.names)
                  (subst (λ (now : Key → Rec). LeavesRecords command (reply_of made.answer) (drafted old.store) now mid.names.names)
                  (sym (drafted-none new.store kept.draft ∙ kept.working)) (drafts.3 told)),
            )));
        onward = record { disk_later = later-on new.store.base.disk.now kept.beneath.disk };
      }
      settles-finish (Ok made) answer drafts blames (inr (inl (told_so, more), drops)) = record {
        settles = λ known line state spelled served at.
            let one = is_open at opened in
            subst (λ (a : Answer). Settles (as_known known g) (Whole line) (view old) (view new) state (reply_of a)) (sym told_so)
            (settles-full known change spelled at made drafts.1 one.0 one.1 (stays-discarded count counts drops) more);
        may = λ none.
            subst (λ (a : Answer). MayAnswer g command (view old) (reply_of a) (view new)) (sym told_so)
            (may-change g (view old) (reply_of (answers.Refused refusals.TransactionFull)) (view new) command change
            (inr (inl ((refusals.TransactionFull, refl), stays-discarded count counts drops))));
        onward = record { disk_later = later-on new.store.base.disk.now drops.beneath.disk };
      }
      settles-finish (Ok made) answer drafts blames (inr (inr told_so, drops)) = record {
        settles = λ known line state spelled served at.
            subst (λ (a : Answer). Settles (as_known known g) (Whole line) (view old) (view new) state (reply_of a)) (sym told_so)
            (unmade-memory at live spelled change (stays-known known (stays-discarded count counts drops)));
        may = λ none.
            subst (λ (a : Answer). MayAnswer g command (view old) (reply_of a) (view new)) (sym told_so)
            (may-change g (view old) (reply_of (answers.Fault faults.Memory)) (view new) command change
            (inr (inr (inl (refl, stays-discarded count counts drops)))));
        onward = record { disk_later = later-on new.store.base.disk.now drops.beneath.disk };
      }
      settles-finish (Err why) answer drafts blames (told_so, drops) = record {
        settles = λ known line state spelled served at.
            subst (λ (a : Answer). Settles (as_known known g) (Whole line) (view old) (view new) state (reply_of a)) (sym told_so)
            (settles-unmade known spelled at why drafts drops);
        may = λ none.
            let stays = stays-discarded count counts drops in
            subst (λ (a : Answer). MayAnswer g command (view old) (reply_of a) (view new)) (sym told_so)
            (may-change g (view old) (reply_of why) (view new) command change
            (may-stopped command old mid.store.base.disk.now why drafts (λ other. stays)
            (λ is rose. (subst (λ (disk : D). Rose (g.faults old.store.base.disk.now) (g.faults disk)) (sym drops.beneath.disk) rose, inl (opened, stays)))
            blames none (λ damage seen. seen)));
        onward = record { disk_later = later-on new.store.base.disk.now drops.beneath.disk };
      }
