-- A change that is a transaction by itself, from its draft to its reply.
use Rattle.std.proofs.Common.{◌≡◌, ◌⊎◌, ◌∙◌, ◌+◌, ◌<◌, ◌≤◌, ℕ, IfErr, IsTrue, Bool, false, Ok, Err, Result, List, [], ◌++◌}
use Rattle.std.proofs.Common.{length, take, inl, inr, true≢false, refl, sym, ap, subst, arith}
use Rattle.std.proofs.lemmas.List.{nil_from_length}
use Rattle.fault_count.specs.Cause.{Rose}
use Rattle.disk_model.specs.Spans.{AtEachMoment, OnlyReads}
use Rattle.disk_model.specs.declared.disk.Disk.{Ghosts}
use Rattle.disk_model.proofs.Spans.{only_reads_on}
use Rattle.stream_io.specs.Lines.{Whole}
use Rattle.plain_graph.specs.Changes.{IsChange, most_weight, start_weight}
use Rattle.plain_graph.specs.Graph.{Graph}
use Rattle.plain_graph.specs.LineChanges.{LineChanges, LineWeighs, line_reasons}
use Rattle.plain_graph.specs.Refusals.{NoReason}
use Rattle.plain_graph.specs.declared.command.Command.{Command}
use Rattle.plain_graph.specs.declared.refusal.Refusal.TheVariants as refusals
use Rattle.rec_bytes.specs.Pairs.{merged}
use Rattle.rec_bytes.specs.declared.damage.Damage.{Damage}
use Rattle.rec_bytes.specs.declared.key.Key.{Key}
use Rattle.rec_bytes.specs.declared.record.Rec.{Rec}
use Rattle.rec_bytes.specs.declared.shape.Shape.{Shape}
use Rattle.record_file.specs.Redone.{Redoes}
use Rattle.store_rules.specs.Breaking.{BreaksAny}
use Rattle.store_rules.specs.Graph.{graph_of}
use Rattle.store_rules.specs.Indexes.{IsIndexed}
use Rattle.store_rules.specs.Views.{Records}
use Rattle.name_store.specs.Again.{IsOtherName}
use Rattle.txn_core.specs.Base.{SameBeneath}
use Rattle.txn_core.specs.Store.{committed, drafted, state_of}
use Rattle.txn_core.proofs.StoreRecords.{committed-beneath, committed-read, drafted-none, working-none}
use Rattle.rec_bytes.specs.declared.fault.Fault.TheVariants as faults
use Rattle.graph_session.specs.Answer.{Settles}
use Rattle.graph_session.specs.Answering.{reply_of}
use Rattle.graph_session.specs.ChangeDamage.{IsSeenDamage}
use Rattle.graph_session.specs.ChangeLeft.{LeavesRecords}
use Rattle.graph_session.specs.Console.{HasNoDraft, IsAt}
use Rattle.graph_session.specs.Drafting.{BlamesSeen, Closes, CommitsRecords, DoubtsRecords, Drafts, DropsAlone, DropsRecords}
use Rattle.graph_session.specs.Drafting.{EndsCommit, FinishesAlone, HasDraft, HasStore, IsStopped, OnlyDrafts}
use Rattle.graph_session.specs.Drafting.{TellsChange, TriesCommit}
use Rattle.graph_session.specs.Effects.{CommitsAlone, CommitsFrom, Ends, FailsDrafted, FailsRead, IsAloneInDoubt, Stays}
use Rattle.graph_session.specs.Known.{as_known}
use Rattle.graph_session.specs.MayStep.{HasFailedChange, MayAnswer, TellsDiskFault}
use Rattle.graph_session.specs.Refusals.{IsAccepted, SpellsOnly, weight_before}
use Rattle.graph_session.specs.Session.{view}
use Rattle.graph_session.specs.Settling.{SettlesCommand}
use Rattle.graph_session.specs.State.{State, seen}
use Rattle.graph_session.specs.declared.answer.Answer.{Answer}
use Rattle.graph_session.specs.declared.answer.Answer.TheVariants as answers
use Rattle.graph_session.specs.declared.changing.Drafted.{Drafted}
use Rattle.graph_session.specs.declared.health.Health.TheVariants as healths
use Rattle.graph_session.specs.declared.session.Session.{Session}
use Rattle.graph_session.proofs.Changes.{change-reached, settles-alone, settles-alone_fault, settles-alone_read_fault}
use Rattle.graph_session.proofs.Conditions.{WeighsIn, accepted, heavy-refused, weight-light}
use Rattle.graph_session.proofs.Drafts.{Sees, sees-as, stored-either}
use Rattle.graph_session.proofs.Anyhow.{made-good, may-change, may-stopped}
use Rattle.graph_session.proofs.Answering.{settles-refused}
use Rattle.graph_session.proofs.FailedReads.{fails-drafted}
use Rattle.graph_session.proofs.Finishing.{settles-stopped, unmade-memory, unmade-uses}
use Rattle.graph_session.proofs.Held.{held, seen_closed, take-brought}
use Rattle.graph_session.proofs.Knowing.{alone_in_doubt-known, commits_alone-known, fails_drafted-known, fails_read-known, from-known, stays-known, told_of}
use Rattle.graph_session.proofs.States.{is_closed}
use Rattle.graph_session.proofs.Streams.{Rose-from}
use Rattle.graph_session.proofs.Weights.{told-least, told-whole}

module _ {D : Type 0} {g : Ghosts D} {begun mid : Session D g} (old new : Session D g) (live : old.health ≡ healths.Live)
    (closed : old.store.base.in_transaction ≡ false) (idle : length old.store.base.own.pairs ≡ 0)
    (same : SameBeneath old.store.base begun.store.base) (own : begun.store.base.own.pairs ≡ []) (draft : begun.store.draft.pairs ≡ [])
    (names : begun.names.names ≡ old.names.names) (health : begun.health ≡ old.health)
    (only : OnlyDrafts begun mid) where
  pub drafted-begun : drafted begun.store ≡ committed old.store
  drafted-begun = drafted-none begun.store draft ∙ working-none begun.store.base own ∙ committed-beneath old.store.base begun.store.base same

  -- a change by itself finds what the line sees
  seen-begun : HasNoDraft (view old) → drafted begun.store ≡ drafted old.store
  seen-begun none = drafted-begun ∙ sym (drafted-none old.store none ∙ working-none old.store.base (nil_from_length old.store.base.own.pairs idle))

  -- and what is damaged in it
  damage-begun : HasNoDraft (view old) → (command : Command) (damage : Damage) → IsSeenDamage command (view begun).console damage
      → IsSeenDamage command (view old).console damage
  damage-begun none command damage (inl breaks) =
      inl (subst (λ (shape : Shape). BreaksAny (drafted old.store) shape damage) same.shape
      (subst (λ (records : Records). BreaksAny records begun.store.base.shape damage) (seen-begun none) breaks))
  damage-begun none command damage (inr (may, sound, other)) = inr (
    may,
    subst (λ (shape : Shape). IsIndexed (drafted old.store) shape) same.shape
        (subst (λ (records : Records). IsIndexed records begun.store.base.shape) (seen-begun none) sound),
    subst (λ (known : List (List ℕ)). IsOtherName (drafted old.store) known damage) names
        (subst (λ (records : Records). IsOtherName records begun.names.names damage) (seen-begun none) other),
  )

  pub committed-mid : committed mid.store ≡ committed old.store
  committed-mid = committed-read begun.store.base mid.store.base only.base ∙ committed-beneath old.store.base begun.store.base same

  shape-mid : mid.store.base.shape ≡ old.store.base.shape
  shape-mid = only.base.shape ∙ same.shape

  reads-mid : OnlyReads g old.store.base.disk.now mid.store.base.disk.now
  reads-mid = subst (λ (disk : D). OnlyReads g disk mid.store.base.disk.now) same.disk only.base.disk

  names-mid : mid.names.names ≡ old.names.names ++ only.brought.0
  names-mid = only.brought.1 ∙ ap (λ (known : List (List ℕ)). known ++ only.brought.0) names

  later-mid : g.faults old.store.base.disk.now ≤ g.faults mid.store.base.disk.now
  later-mid = subst (λ (disk : D). g.faults disk ≤ g.faults mid.store.base.disk.now) same.disk only.later

  module _ (known : Bool) {state : State} (at : IsAt (as_known known g) (view old) state) (told : (as_known known g).tells_reads) where
    begun-graph : graph_of (drafted begun.store) ≡ state.committed
    begun-graph = ap graph_of drafted-begun ∙ (held at live told).committed_graph

    has-begun : HasStore begun
    has-begun = record {
      store =
          subst (λ (shape : Shape). IsIndexed (drafted begun.store) shape) (at.shape ∙ sym same.shape)
          (subst (λ (records : Key → Rec). IsIndexed records state.shape) (sym drafted-begun) (held at live told).committed);
      names = names ∙ (held at live told).names ∙ ap (λ (graph : Graph). graph.names) (seen_closed state (is_closed at closed) ∙ sym begun-graph);
    }

    sees-begun : Sees (state_of begun.store) state
    sees-begun = record { shape = at.shape ∙ sym same.shape; graph = seen_closed state (is_closed at closed) ∙ sym begun-graph }

  module _ (count : ℕ) (counts : count ≡ length old.names.names) (answer : Answer) (drops : DropsAlone count mid new answer) where
    pub disk-dropped : OnlyReads g old.store.base.disk.now new.store.base.disk.now
    disk-dropped = subst (λ (disk : D). OnlyReads g old.store.base.disk.now disk) (sym drops.beneath.disk) reads-mid

    committed-dropped : committed new.store ≡ committed old.store
    committed-dropped = committed-beneath mid.store.base new.store.base drops.beneath ∙ committed-mid

    names-dropped : new.names.names ≡ old.names.names
    names-dropped = drops.names ∙ ap (take count) names-mid ∙ take-brought old.names.names only.brought.0 count counts

    stays-dropped : ¬ (answer ≡ answers.Fault faults.Disk) → Stays g (view old) (view new)
    stays-dropped other = record {
      beneath = record {
        shape = drops.beneath.shape ∙ shape-mid;
        is_live = drops.beneath.live ∙ only.base.live ∙ same.live;
        committed = λ told. committed-dropped;
        no_draft = drops.closes.draft;
        disk = disk-dropped;
      };
      health = drops.healthy other ∙ only.health ∙ health;
      is_open = drops.closes.in_transaction ∙ sym closed;
      weight = λ is. absurd (true≢false (sym is ∙ closed));
      names = names-dropped;
      written = drops.closes.own ∙ sym (nil_from_length old.store.base.own.pairs idle);
      working = λ told. working-none new.store.base drops.closes.own ∙ committed-dropped
          ∙ sym (working-none old.store.base (nil_from_length old.store.base.own.pairs idle));
    }

    fails-dropped : answer ≡ answers.Fault faults.Disk → FailsRead g (view old) (view new)
    fails-dropped is = record {
      ends = record { shape = drops.beneath.shape ∙ shape-mid; is_open = drops.closes.in_transaction; no_draft = drops.closes.draft };
      health = drops.failed is;
      live = subst IsTrue (sym (drops.beneath.live ∙ only.base.live ∙ same.live)) (old.standing live);
      names = names-dropped;
      disk = disk-dropped;
    }

    rose-dropped : Rose (g.faults begun.store.base.disk.now) (g.faults mid.store.base.disk.now)
        → Rose (g.faults old.store.base.disk.now) (g.faults new.store.base.disk.now)
    rose-dropped rose =
        subst (λ (disk : D). Rose (g.faults old.store.base.disk.now) (g.faults disk)) (sym drops.beneath.disk)
        (subst (λ (disk : D). Rose (g.faults disk) (g.faults mid.store.base.disk.now)) same.disk rose)

    later-dropped : g.faults old.store.base.disk.now ≤ g.faults new.store.base.disk.now
    later-dropped = subst (λ (disk : D). g.faults old.store.base.disk.now ≤ g.faults disk) (sym drops.beneath.disk) later-mid

    may-unmade : HasNoDraft (view old) → (command : Command) → IsChange command → IsStopped command begun mid.store.base.disk.now answer
        → BlamesSeen command begun answer → MayAnswer g command (view old) (reply_of answer) (view new)
    may-unmade none command change stopped blames =
        may-change g (view old) (reply_of answer) (view new) command change
        (may-stopped command begun mid.store.base.disk.now answer stopped stays-dropped (λ is rose. (rose-dropped rose, inr (closed, inl (fails-dropped is))))
        blames draft (damage-begun none command))

    unmade-alone : (known : Bool) {command : Command} → IsChange command → {line : List ℕ} {state : State} → SpellsOnly line command
        → IsAt (as_known known g) (view old) state → IsStopped command begun mid.store.base.disk.now answer
        → Settles (as_known known g) (Whole line) (view old) (view new) state (reply_of answer)
    unmade-alone known change spelled at stopped =
        settles-stopped known at live spelled change begun mid.store.base.disk.now (has-begun known at) (sees-begun known at) answer stopped stays-dropped
        (λ is rose. settles-alone_read_fault at live closed spelled change (fails-drafted (fails_read-known known (fails-dropped is))) (rose-dropped rose))

  -- a drafted change in the graph that the line sees
  module _ (made : Drafted) (known : Bool) {command : Command} (change : IsChange command)
      (has : g.tells_reads → HasStore begun → HasDraft command begun mid made) {line : List ℕ} {state : State} (spelled : SpellsOnly line command)
      (at : IsAt (as_known known g) (view old) state) where
    alone-draft : (as_known known g).tells_reads → HasDraft command begun mid made
    alone-draft told = has (told_of known g told) (has-begun known at told)

    -- what the line weighs, and no other number
    alone-weighs : (told : (as_known known g).tells_reads) → WeighsIn state command (alone-draft told).total
    alone-weighs told = sees-as (sees-begun known at told) (λ shape graph. LineWeighs shape.limit shape.threshold graph command (alone-draft told).total)
        (alone-draft told).weighs

    alone-only : (told : (as_known known g).tells_reads) (other : ℕ) → WeighsIn state command other → other ≡ (alone-draft told).total
    alone-only told = sees-as (sees-begun known at told) (λ shape graph. (other : ℕ) → LineWeighs shape.limit shape.threshold graph command other → other ≡
        (alone-draft told).total) (alone-draft told).only

    alone-free : (as_known known g).tells_reads → NoReason line_reasons state.shape.limit (seen state) command
    alone-free told = sees-as (sees-begun known at told) (λ shape graph. NoReason line_reasons shape.limit graph command) (alone-draft told).free

    alone-before : weight_before state.open_one ≡ start_weight
    alone-before = ap weight_before (is_closed at closed)

    -- it weighs more than a transaction may
    full-alone : Stays g (view old) (view new) → most_weight < start_weight + made.weight
        → Settles (as_known known g) (Whole line) (view old) (view new) state (reply_of (answers.Refused refusals.TransactionFull))
    full-alone stays more =
        settles-refused at (stays-known known stays) refusals.TransactionFull
        (λ told.
        heavy-refused state spelled (alone-free told) (change-reached at live spelled change) (alone-draft told).total (alone-weighs told)
        (let a = alone-before in let least = told-least (alone-draft told).total made.weight (alone-draft told).told in omega (arith, a, least, more)))
        (unmade-uses at live spelled change (stays-known known stays))

    fits-alone : start_weight + made.weight ≤ most_weight → (as_known known g).tells_reads → IsAccepted state (Whole line)
    fits-alone fits told =
        accepted state spelled (change-reached at live spelled change) (alone-free told)
        (weight-light state command (alone-draft told).total (alone-only told) (let a = alone-before in let whole = told-whole (alone-draft told).total
        made.weight (alone-draft told).told (omega (arith, fits)) in omega (arith, a, whole, fits)))

  module _ (made : Drafted) (answer : Answer) (fits : start_weight + made.weight ≤ most_weight)
      (tries : TriesCommit (drafted mid.store) (merged mid.store.base.own.pairs mid.store.draft.pairs) mid new made.answer answer) where
    from-mid : CommitsFrom g (view old) (view new) (drafted mid.store)
    from-mid = record {
      mid = mid.store.base.disk.now;
      reads = reads-mid;
      crash = λ told.
          subst (λ (records : Key → Rec). AtEachMoment g mid.store.base.disk.now new.store.base.disk.now (λ left. Redoes left records ⊎ Redoes left
          (drafted mid.store))) committed-mid
          (tries.crash told.0 told.1);
    }

    later-tried : g.faults old.store.base.disk.now ≤ g.faults new.store.base.disk.now
    later-tried = let a = later-mid in let b = tries.later in omega (arith, a, b)

    ends-mid : Closes mid new → Ends (view old) (view new)
    ends-mid closes = record { shape = closes.same.shape ∙ shape-mid; is_open = closes.in_transaction; no_draft = closes.draft }

    rose-mid : Rose (g.faults mid.store.base.disk.now) (g.faults new.store.base.disk.now)
        → Rose (g.faults old.store.base.disk.now) (g.faults new.store.base.disk.now)
    rose-mid rose = Rose-from (g.faults old.store.base.disk.now) (g.faults mid.store.base.disk.now) (g.faults new.store.base.disk.now) later-mid rose

    commits-mid : CommitsRecords (drafted mid.store) mid new → CommitsAlone g (view old) (view new) (drafted mid.store)
    commits-mid commits = record {
      ends = ends-mid commits.closes;
      health = commits.health ∙ only.health ∙ health;
      live = commits.live;
      committed = commits.committed;
      working = λ told. working-none new.store.base commits.closes.own;
      stored = record { read = commits.stored.read; images = λ told. commits.stored.images told.0 told.1 };
    }

    doubts-mid : DoubtsRecords (drafted mid.store) mid new → IsAloneInDoubt g (view old) (view new) (drafted mid.store)
    doubts-mid doubts =
        let stored = stored-either new.store.base.disk.now (committed mid.store) (drafted mid.store) (committed old.store) (drafted mid.store) committed-mid
        refl doubts.stored in
        record {
          ends = ends-mid doubts.closes;
          health = doubts.health;
          failed = doubts.failed;
          brought = (only.brought.0, doubts.names ∙ names-mid);
          stored = record { read = stored.read; images = λ told. stored.images told.0 told.1 };
        }

    drops-mid : DropsRecords mid new → FailsDrafted g (view old) (view new)
    drops-mid drops = record {
      ends = ends-mid drops.closes;
      health = drops.health;
      live = drops.live;
      brought = (only.brought.0, drops.names ∙ names-mid);
      disk = only_reads_on g old.store.base.disk.now mid.store.base.disk.now new.store.base.disk.now reads-mid drops.disk;
    }

    may-tried : HasNoDraft (view old) → (command : Command) → IsChange command → TellsChange command made.answer
        → (g.tells_reads → LeavesRecords command (reply_of made.answer) (drafted begun.store) (drafted mid.store) mid.names.names)
        → MayAnswer g command (view old) (reply_of answer) (view new)
    may-tried none command change tells left = by tries.ends
      where
        -- what is committed is what was drafted
        left-committed : CommitsRecords (drafted mid.store) mid new → g.tells_reads
            → LeavesRecords command (reply_of made.answer) (drafted old.store) (drafted new.store) new.names.names
        left-committed commits told =
            subst (λ (was : Key → Rec). LeavesRecords command (reply_of made.answer) was (drafted new.store) new.names.names) (seen-begun none)
            (subst (LeavesRecords command (reply_of made.answer) (drafted begun.store) (drafted new.store)) (sym commits.names)
            (subst (λ (now : Key → Rec). LeavesRecords command (reply_of made.answer) (drafted begun.store) now mid.names.names)
            (sym (drafted-none new.store commits.closes.draft ∙ working-none new.store.base commits.closes.own ∙ commits.committed told)) (left told)))

        by : EndsCommit (drafted mid.store) mid new made.answer answer → MayAnswer g command (view old) (reply_of answer) (view new)
        by (inl (is, commits)) =
            subst (λ (a : Answer). MayAnswer g command (view old) (reply_of a) (view new)) (sym is)
            (may-change g (view old) (reply_of made.answer) (view new) command change
            (inl (tells, inr (closed, drafted mid.store, from-mid, commits-mid commits), λ told. left-committed commits told)))
        by (inr (is, failed)) =
            subst (λ (a : Answer). MayAnswer g command (view old) (reply_of a) (view new)) (sym is)
            (may-change g (view old) (reply_of (answers.Fault faults.Disk)) (view new) command change (inr (inr (inr (inr (fails failed))))))
          where
            fails : DropsRecords mid new ⊎ DoubtsRecords (drafted mid.store) mid new
                → TellsDiskFault g (view old) (reply_of (answers.Fault faults.Disk)) (view new)
                × HasFailedChange g (view old) (view new)
            fails (inl drops) = ((refl, rose-mid drops.rose), inr (closed, inr (inl (drops-mid drops))))
            fails (inr doubts) = ((refl, rose-mid doubts.rose), inr (closed, inr (inr (drafted mid.store, from-mid, doubts-mid doubts))))

    module _ (known : Bool) {command : Command} (change : IsChange command) (tells : TellsChange command made.answer)
        (has : g.tells_reads → HasStore begun → HasDraft command begun mid made) {line : List ℕ} {state : State}
        (spelled : SpellsOnly line command) (at : IsAt (as_known known g) (view old) state) where
      draft-told : (as_known known g).tells_reads → HasDraft command begun mid made
      draft-told = alone-draft made known change has spelled at

      alone-store : (as_known known g).tells_reads → IsIndexed (drafted mid.store) state.shape
      alone-store told = subst (λ (shape : Shape). IsIndexed (drafted mid.store) shape) (shape-mid ∙ sym at.shape) (draft-told told).store.store

      alone-changes : (as_known known g).tells_reads → LineChanges state.shape.limit state.committed command (reply_of made.answer)
          (graph_of (drafted mid.store))
      alone-changes told =
          subst (λ (limit : ℕ). LineChanges limit state.committed command (reply_of made.answer) (graph_of (drafted mid.store)))
          (ap (λ (shape : Shape). shape.limit) (same.shape ∙ sym at.shape))
          (subst (λ (graph : Graph). LineChanges begun.store.base.shape.limit graph command (reply_of made.answer) (graph_of (drafted mid.store)))
          (begun-graph known at told) (draft-told told).changes)

      settles-tried : Settles (as_known known g) (Whole line) (view old) (view new) state (reply_of answer)
      settles-tried = by tries.ends
        where
          is_accepted : (as_known known g).tells_reads → IsAccepted state (Whole line)
          is_accepted = fits-alone made known change has spelled at fits

          by : EndsCommit (drafted mid.store) mid new made.answer answer → Settles (as_known known g) (Whole line) (view old) (view new) state (reply_of answer)
          by (inl (is, commits)) =
              subst (λ (a : Answer). Settles (as_known known g) (Whole line) (view old) (view new) state (reply_of a)) (sym is)
              (settles-alone at live closed (drafted mid.store) spelled change (reply_of made.answer) (made-good command (reply_of made.answer) tells)
              (from-known known from-mid) (commits_alone-known known (commits-mid commits))
              (λ told. record { store = alone-store told; named = commits.names ∙ (draft-told told).store.names }) is_accepted alone-changes)
          by (inr (is, inl drops)) =
              subst (λ (a : Answer). Settles (as_known known g) (Whole line) (view old) (view new) state (reply_of a)) (sym is)
              (settles-alone_read_fault at live closed spelled change (fails_drafted-known known (drops-mid drops)) (rose-mid drops.rose))
          by (inr (is, inr doubts)) =
              subst (λ (a : Answer). Settles (as_known known g) (Whole line) (view old) (view new) state (reply_of a)) (sym is)
              (settles-alone_fault at live closed (drafted mid.store) spelled change (reply_of made.answer) (from-known known from-mid)
              (alone_in_doubt-known known (doubts-mid doubts))
              (λ told. record { store = alone-store told; named = doubts.names ∙ (draft-told told).store.names }) is_accepted alone-changes
              (rose-mid doubts.rose))

  module _ {command : Command} (change : IsChange command) (count : ℕ) (counts : count ≡ length old.names.names) where
    pub settles-finish_alone : (result : Result Drafted Answer) (answer : Answer) → Drafts command begun mid result → IfErr result (BlamesSeen command begun)
        → FinishesAlone result count mid new answer → SettlesCommand g command (view old) (view new) (reply_of answer)
    settles-finish_alone (Ok made) answer drafts blames (inl (fits, tries)) = record {
      settles = λ known line state spelled served at. settles-tried made answer fits tries known change drafts.0 drafts.1 spelled at;
      may = λ none. may-tried made answer fits tries none command change drafts.0 drafts.3;
      onward = record { disk_later = later-tried made answer fits tries };
    }
    settles-finish_alone (Ok made) answer drafts blames (inr (inl (is, more), drops)) =
        let stays = stays-dropped count counts answer drops (λ failed. let clash : answers.Refused refusals.TransactionFull ≡ answers.Fault faults.Disk = sym is
        ∙ failed in cc) in
        record {
          settles = λ known line state spelled served at.
              subst (λ (a : Answer). Settles (as_known known g) (Whole line) (view old) (view new) state (reply_of a)) (sym is)
              (full-alone made known change drafts.1 spelled at stays more);
          may = λ none.
              subst (λ (a : Answer). MayAnswer g command (view old) (reply_of a) (view new)) (sym is)
              (may-change g (view old) (reply_of (answers.Refused refusals.TransactionFull)) (view new) command change
              (inr (inl ((refusals.TransactionFull, refl), stays))));
          onward = record { disk_later = later-dropped count counts answer drops };
        }
    settles-finish_alone (Ok made) answer drafts blames (inr (inr is, drops)) =
        let stays = stays-dropped count counts answer drops
        (λ failed. let clash : answers.Fault faults.Memory ≡ answers.Fault faults.Disk = sym is ∙ failed in cc) in
        record {
          settles = λ known line state spelled served at.
              subst (λ (a : Answer). Settles (as_known known g) (Whole line) (view old) (view new) state (reply_of a)) (sym is)
              (unmade-memory at live spelled change (stays-known known stays));
          may = λ none.
              subst (λ (a : Answer). MayAnswer g command (view old) (reply_of a) (view new)) (sym is)
              (may-change g (view old) (reply_of (answers.Fault faults.Memory)) (view new) command change (inr (inr (inl (refl, stays)))));
          onward = record { disk_later = later-dropped count counts answer drops };
        }
    settles-finish_alone (Err why) answer drafts blames (is, drops) = record {
      settles = λ known line state spelled served at.
          unmade-alone count counts answer drops known change spelled at
          (subst (λ (a : Answer). IsStopped command begun mid.store.base.disk.now a) (sym is) drafts);
      may = λ none. may-unmade count counts answer drops none command change
          (subst (λ (a : Answer). IsStopped command begun mid.store.base.disk.now a) (sym is) drafts)
          (subst (λ (a : Answer). BlamesSeen command begun a) (sym is) blames);
      onward = record { disk_later = later-dropped count counts answer drops };
    }
