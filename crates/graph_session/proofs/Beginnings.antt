-- What a session begins with over a store that was opened and whose names were loaded, and why there is none.
use Rattle.std.proofs.Common.{◌≡◌, ◌⊎◌, ◌∙◌, ◌≤◌, Bool, true, false, cond, nat_lt, IsTrue, None, Err, [], inl, inr, refl, sym, ap, subst, arith}
use Rattle.std.proofs.lemmas.List.{append-nil}
use Rattle.fault_count.specs.Cause.{Rose}
use Rattle.disk_model.specs.Contents.{Files}
use Rattle.disk_model.specs.Spans.{AtEachMoment, OnlyReads}
use Rattle.disk_model.specs.declared.disk.Disk.{Ghosts}
use Rattle.disk_model.proofs.Spans.{CountsNow, at_each_moment_read, at_each_moment_weaker, only_reads_on}
use Rattle.plain_graph.specs.Graph.{Graph}
use Rattle.rec_bytes.specs.Creation.{own_key, raised, raising_pairs}
use Rattle.rec_bytes.specs.Format.{newest_version, taken_id, taken_rest}
use Rattle.rec_bytes.specs.Record.{as_64, zeros, zeros_from}
use Rattle.rec_bytes.specs.Shape.{is_allowed, shape_of_record, version_of}
use Rattle.rec_bytes.specs.Space.{laid_over}
use Rattle.rec_bytes.specs.declared.damage.Damage.{Damage}
use Rattle.rec_bytes.specs.declared.fault.Fault.{Fault}
use Rattle.rec_bytes.specs.declared.fault.Fault.TheVariants.{Memory, Disk, Damaged}
use Rattle.rec_bytes.specs.declared.key.Key.{Key}
use Rattle.rec_bytes.specs.declared.record.Rec.{Rec}
use Rattle.rec_bytes.specs.declared.shape.Shape.{Shape}
use Rattle.record_file.specs.Records.{IsUnmade, record_at}
use Rattle.record_file.specs.Redone.{Redoes}
use Rattle.record_file.proofs.Redone.{Redoes-kept}
use Rattle.record_file.specs.Unique.{Redoes-unique}
use Rattle.recovery.specs.Finding as finding
use Rattle.stored_graph.specs.Stands.{Stands}
use Rattle.stored_graph.specs.Versions.{IsIndexedIn}
use Rattle.stored_graph.proofs.Stands.{Stands-only, unmade-not_found}
use Rattle.stored_graph.proofs.Versions.{graph_of-raised, newest-indexed}
use Rattle.txn_core.specs.Base.{OnlyReadsBase}
use Rattle.txn_core.specs.Config.{Suits, shape_of}
use Rattle.txn_core.specs.Kept.{IsOnDisk}
use Rattle.txn_core.specs.Opening as opening
use Rattle.txn_core.specs.Opening.{HoldsStore, IsAskedOther, IsClean, IsOldOrNew, IsOldOrRaised, IsRefusal, IsWant, OnlyDiffers, made_over}
use Rattle.txn_core.specs.Store.{committed, content, drafted, state_of, working}
use Rattle.txn_core.specs.declared.config.Config.{Config}
use Rattle.txn_core.specs.declared.open_fault.OpenFault.{OpenFault}
use Rattle.txn_core.specs.declared.open_fault.OpenFault.TheVariants as refusals
use Rattle.txn_core.specs.declared.store.Store.{Store}
use Rattle.store_rules.specs.Graph.{graph_of, names_of}
use Rattle.store_rules.specs.Indexes.{IsIndexed}
use Rattle.store_rules.proofs.NewIndexes.{new_indexed}
use Rattle.store_rules.proofs.NewStores.{new_store_empty}
use Rattle.rec_bytes.specs.Fault.{NotDamaged}
use Rattle.name_store.specs.Loading.{AreLoadable, IsLoadFault, IsNameDamage, after_names, name_mark}
use Rattle.name_store.specs.Loading.IsNameDamage.{HighMark, SameText, WrongForm, WrongText}
use Rattle.name_store.proofs.NameDamage.{AreLoadable-AreInRange}
use Rattle.txn_core.proofs.Finding.{opens-recoverable}
use Rattle.txn_core.proofs.StoreRecords.{committed-read, drafted-none, working-none, working-read}
use Rattle.graph_session.specs.Console.{IsAt, SessionView}
use Rattle.graph_session.specs.Known.{as_known}
use Rattle.graph_session.specs.Opening.{IsUnopened, LeavesByOpening, LeavesOldOrSame, LeavesRefused, Opens}
use Rattle.graph_session.specs.Opening.{RefusesContent, StandsForOne, Starts, StartsAs, unloaded}
use Rattle.graph_session.specs.State.{Live, State}
use Rattle.graph_session.specs.declared.health.Health.TheVariants as healths
use Rattle.graph_session.proofs.Knowing.{on_disk-known, told_of}
use Rattle.graph_session.proofs.Openings.{starts-stands}
use Rattle.graph_session.proofs.Stands.{all-admitted, own-one, redone-held}
use Rattle.graph_session.proofs.States.{same_one}
use Rattle.graph_session.proofs.StoreRecords.{draft-read}
use Rattle.graph_session.proofs.Streams.{Rose-from}

-- ---- the records of the store

-- the names of a store are loaded
loadable : (space : Key → Rec) (shape : Shape) → IsIndexed space shape → AreLoadable space
loadable space shape store = AreLoadable-AreInRange space shape store.store.ranges store.store.names

zeros-rest : zeros_from taken_rest zeros ≡ true
unfolding zeros_from as_64
zeros-rest = refl

-- a new store keeps all rules: no transaction was taken over where none was made
new-indexed : (content : Files) (shape : Shape) → IsUnmade content → is_allowed shape ≡ true → IsIndexed (made_over content shape) shape
new-indexed content shape unmade allowed = new_indexed (record_at content) shape allowed
    (ap (λ (r : Rec). zeros_from taken_rest r) (unmade.blank taken_id (omega arith)) ∙ zeros-rest)

new-store : (content : Files) (config : Config) (shape : Shape) (space : Key → Rec) → IsUnmade content → is_allowed (shape_of config) ≡ true
    → shape ≡ shape_of config → space ≡ made_over content shape → IsIndexed space shape
new-store content config shape space unmade allowed shape_is space_is =
    subst (λ (records : Key → Rec). IsIndexed records shape) (sym space_is)
    (subst (λ (s : Shape). IsIndexed (made_over content s) s) (sym shape_is) (new-indexed content (shape_of config) unmade allowed))

-- The records that a content that stands for a graph redoes to are those of its store.
found-store : (content : Files) (shape other : Shape) (before : Key → Rec) (graph : Graph) → Redoes content before → finding.IsMade before shape
    → Stands content other graph → IsIndexedIn before shape
found-store content shape other before graph redoes found (inl unmade) = absurd (unmade-not_found content shape before unmade.0 redoes found)
found-store content shape other before graph redoes found (inr made) =
    let same : made.space ≡ before = Redoes-unique content made.space before made.redoes redoes in
    let shapes : other ≡ shape = same_one other shape (sym made.store.made.own ∙ ap (λ (records : Key → Rec). shape_of_record (records own_key)) same
    ∙ found.own) in
    subst (λ (s : Shape). IsIndexedIn before s) shapes (subst (λ (records : Key → Rec). IsIndexedIn records other) same made.store)

-- The store that is opened keeps all rules, where the content stands for a graph.
opened-store : (content : Files) (config : Config) (shape : Shape) (space : Key → Rec) → is_allowed (shape_of config) ≡ true
    → opening.Opens content config shape space
    → (other : Shape) (graph : Graph) → Stands content other graph → IsIndexed space shape
opened-store content config shape space allowed (inl new) other graph stands = new-store content config shape space new.0 allowed new.1 new.2
opened-store content config shape space allowed (inr (before, redoes, found, suits, is)) other graph stands =
    subst (λ (records : Key → Rec). IsIndexed records shape) (sym is) (found-store content shape other before graph redoes found stands).store

-- the state that a session over these records begins with
abbrev pub beginning : Shape → (Key → Rec) → State
beginning shape space = record { shape = shape; committed = graph_of space; open_one = None; standing = Live }

opened-starts : (content : Files) (config : Config) (shape : Shape) (space : Key → Rec) → opening.Opens content config shape space
    → (other : Shape) (graph : Graph) → Stands content other graph
    → Starts content config (beginning shape space)
opened-starts content config shape space (inl new) other graph stands = inl (new.0, new.1, ap graph_of new.2 ∙ new_store_empty (record_at content) shape)
opened-starts content config shape space (inr (before, redoes, found, suits, is)) other graph stands =
    let same : graph_of space ≡ graph_of before = ap graph_of is ∙ graph_of-raised shape before found in
    inr (
      record { space = before; redoes = redoes; store = found-store content shape other before graph redoes found stands; graph_is = same },
      suits,
    )

-- ---- what a crash leaves

left-made : (content : Files) (images : Files → Type 0) (config : Config) (shape : Shape) (store : HoldsStore content shape)
    → (left : Files) → images left ⊎ IsOldOrRaised shape store.space left → LeavesOldOrSame content images config left
left-made content images config shape store left (inl old) = inl old
left-made content images config shape store left (inr redoes) = inr (inr (
  (λ unmade. unmade-not_found content shape store.space unmade store.redoes store.made),
  shape,
  store,
  redoes,
))

left-new : (content : Files) (images : Files → Type 0) (config : Config) → is_allowed (shape_of config) ≡ true → IsUnmade content
    → (left : Files) → images left ⊎ IsOldOrNew content (shape_of config) left → LeavesOldOrSame content images config left
left-new content images config allowed unmade left (inl old) = inl old
left-new content images config allowed unmade left (inr (inl blank)) = inr (inl (unmade, inl (blank.0, refl)))
left-new content images config allowed unmade left (inr (inr redoes)) =
    let shape = shape_of config in
    inr (inl (
      unmade,
      inr (record {
        space = made_over content shape;
        redoes = redoes;
        store = newest-indexed (made_over content shape) shape (new-indexed content shape unmade allowed);
        graph_is = sym (new_store_empty (record_at content) shape);
      }),
    ))

-- What is left at each moment, where the opening of the store says it.
pub record LeavesStore {D : Type 0} (g : Ghosts D) (config : Config) (old new : D) : Type 0 where
  pub made : g.tells_reads → g.tells_images → (space : Key → Rec) (shape : Shape) → Redoes (g.reads old) space → finding.IsMade space shape
      → AtEachMoment g old new (λ left. g.may_leave old left ⊎ IsOldOrRaised shape space left)
  pub blank : g.tells_reads → g.tells_images → IsUnmade (g.reads old) → AtEachMoment g old new
      (λ left. g.may_leave old left ⊎ IsOldOrNew (g.reads old) (shape_of config) left)

module _ {D : Type 0} (g : Ghosts D) (config : Config) (old : D) where
  pub opening-leaves : (new : D) → is_allowed (shape_of config) ≡ true → LeavesStore g config old new → LeavesByOpening g config old new
  opening-leaves new allowed leaves told (space, redoes, inl unmade) =
      at_each_moment_weaker g old new (λ left. g.may_leave old left ⊎ IsOldOrNew (g.reads old) (shape_of config) left)
      (LeavesOldOrSame (g.reads old) (g.may_leave old) config)
      (leaves.blank told.0 told.1 unmade) (left-new (g.reads old) (g.may_leave old) config allowed unmade)
  opening-leaves new allowed leaves told (space, redoes, inr (shape, made)) =
      at_each_moment_weaker g old new (λ left. g.may_leave old left ⊎ IsOldOrRaised shape space left) (LeavesOldOrSame (g.reads old) (g.may_leave old) config)
      (leaves.made told.0 told.1 space shape redoes made) (left-made (g.reads old) (g.may_leave old) config shape
      (record { space = space; redoes = redoes; made = made }))

  -- and by calls that only read
  loading-leaves : (mid new : D) → CountsNow g → LeavesByOpening g config old mid → OnlyReads g mid new → LeavesByOpening g config old new
  loading-leaves mid new counts leaves reads told one = at_each_moment_read g old mid new (LeavesOldOrSame (g.reads old) (g.may_leave old) config) counts told.1
      (leaves told one) reads

-- ---- why there is no session

want-only : (shape : Shape) (config : Config) (why : OpenFault) → IsWant why → OnlyDiffers shape config why
want-only shape config refusals.Memory want = tt
want-only shape config refusals.Disk want = tt
want-only shape config refusals.NotAStore want = want
want-only shape config (refusals.Damaged damage) want = want
want-only shape config (refusals.ConfigDiffers stored asked) want = absurd want

pub opening-sound : (content : Files) (config : Config) (why : OpenFault)
    → ((space : Key → Rec) (shape : Shape) → Redoes content space → finding.IsMade space shape → OnlyDiffers shape config why) → (IsUnmade content → IsWant why)
    → (shape : Shape) (graph : Graph) → Stands content shape graph → OnlyDiffers shape config why
opening-sound content config why sound blank shape graph (inl unmade) = want-only shape config why (blank unmade.0)
opening-sound content config why sound blank shape graph (inr made) = sound made.space shape made.redoes made.store.made

-- names that are damaged in the newest version were so before
IsNameDamage-raised : (shape : Shape) (space : Key → Rec) (damage : Damage) → IsNameDamage (raised shape space) damage → IsNameDamage space damage
IsNameDamage-raised shape space = pick (nat_lt (version_of (space own_key)) newest_version)
  where
    pick : (old : Bool) (damage : Damage) → IsNameDamage (cond old (laid_over space (raising_pairs shape)) space) damage → IsNameDamage space damage
    pick false damage is = is
    pick true damage (HighMark high) = HighMark high
    pick true damage (WrongForm id low form) = WrongForm id low form
    pick true damage (WrongText id low form text) = WrongText id low form text
    pick true damage (SameText id earlier low form less same) = SameText id earlier low form less same

load-refuses : (T : Type 0) (content : Files) (config : Config) (shape : Shape) (space : Key → Rec) (fault : Fault) → is_allowed (shape_of config) ≡ true
    → opening.Opens content config shape space
    → IsLoadFault space fault → (AreLoadable space → NotDamaged {T = T} (Err fault)) → RefusesContent content config (unloaded fault)
load-refuses T content config shape space Memory allowed opens is sound = inl tt
load-refuses T content config shape space Disk allowed opens is sound = inl tt
load-refuses T content config shape space (Damaged damage) allowed (inl new) is sound =
    absurd (sound (loadable space shape (new-store content config shape space new.0 allowed new.1 new.2)))
load-refuses T content config shape space (Damaged damage) allowed (inr (before, redoes, found, suits, same)) is sound =
    inr (damage, refl, before, redoes, IsNameDamage-raised shape before damage (subst (λ (records : Key → Rec). IsNameDamage records damage) same is))

load-sound : (T : Type 0) (shape : Shape) (config : Config) (fault : Fault) → NotDamaged {T = T} (Err fault) → OnlyDiffers shape config (unloaded fault)
load-sound T shape config Memory sound = tt
load-sound T shape config Disk sound = tt
load-sound T shape config (Damaged damage) sound = sound

unloaded-disk : (fault : Fault) → unloaded fault ≡ refusals.Disk → fault ≡ Disk
unloaded-disk Memory e = cc
unloaded-disk Disk e = refl
unloaded-disk (Damaged damage) e = cc

unloaded-asked : (fault : Fault) → ¬ IsAskedOther (unloaded fault)
unloaded-asked Memory other = other
unloaded-asked Disk other = other
unloaded-asked (Damaged damage) other = other

-- ---- a store whose names were loaded

module _ {D : Type 0} {g : Ghosts D} (opened loaded : Store D g) (reads : OnlyReadsBase opened.base loaded.base) where
  -- what it has on the disk
  same-stored : (space : Key → Rec) → IsOnDisk g opened.base.disk.now (λ left. Redoes left space) → IsOnDisk g loaded.base.disk.now (λ left. Redoes left space)
  same-stored space stored = record {
    read = λ told. Redoes-kept space (g.reads opened.base.disk.now) (g.reads loaded.base.disk.now) (stored.read told) reads.disk.keeps;
    images = λ told images image left. stored.images told images image (reads.disk.crash images image left);
  }

-- What a session holds that begins over these records.
record BeginsOver {D : Type 0} (g : Ghosts D) (session : SessionView D) (shape : Shape) (space : Key → Rec) : Type 0 where
  shape_is : session.console.shape ≡ shape
  health : session.console.health ≡ healths.Live
  live : IsTrue session.console.is_live
  closed : session.console.is_open ≡ false
  no_draft : session.console.draft ≡ []
  store : g.tells_reads → IsIndexed space shape
  committed : session.console.committed ≡ space
  working : session.console.working ≡ space
  names : g.tells_reads → session.console.names ≡ names_of space
  stored : IsOnDisk g session.disk (λ left. Redoes left space)

module _ {D : Type 0} (g : Ghosts D) where
  begins-at : (session : SessionView D) (shape : Shape) (space : Key → Rec) → BeginsOver g session shape space → IsAt g session (beginning shape space)
  begins-at session shape space begins =
      let state = beginning shape space in
      record {
        shape = sym begins.shape_is;
        health = begins.health;
        opened = sym begins.closed;
        weight = λ transaction is. absurd cc;
        no_draft = begins.no_draft;
        closed = λ failed. refl;
        holds = λ told live. record {
          live = begins.live;
          committed = rw begins.committed (begins.store told);
          committed_graph = ap graph_of begins.committed;
          working = rw begins.working (begins.store told);
          working_graph = ap graph_of begins.working;
          names = begins.names told;
          brought = ([], begins.names told ∙ sym (append-nil (names_of space)));
        };
        known = λ told failed. absurd failed;
        reads = λ told. redone-held state space (g.reads session.disk) (own-one state space refl (begins.store told) refl) (begins.stored.read told);
        images = λ told. all-admitted state space (g.may_leave session.disk) (own-one state space refl (begins.store told.0) refl)
            (begins.stored.images told.0 told.1);
      }

  begins-starts : (config : Config) (old : D) (shape : Shape) (space : Key → Rec) → Suits config shape
      → (g.tells_reads → opening.Opens (g.reads old) config shape space) → (g.tells_reads → StandsForOne g old)
      → StartsAs g old config (beginning shape space)
  begins-starts config old shape space suits opens stands =
      let starts : g.tells_reads → Starts (g.reads old) config (beginning shape space) = λ told. let one = stands told in
      opened-starts (g.reads old) config shape space (opens told) one.shape one.graph one.stands in
      record {
        live = refl;
        closed = refl;
        suits = suits;
        starts = starts;
        same = λ told other graph stands. Stands-only (g.reads old) shape other (graph_of space) graph
            (starts-stands (g.reads old) config (beginning shape space) (starts told)) stands;
      }

-- What the opening of a store says of it.
pub record OpensStore {D : Type 0} (g : Ghosts D) (config : Config) (old : D) (store : Store D g) : Type 0 where
  pub allowed : is_allowed (shape_of config) ≡ true
  pub opened : g.tells_reads → opening.Opens (g.reads old) config store.base.shape (committed store)
  pub suits : Suits config store.base.shape
  pub live : IsTrue store.base.live
  pub closed : store.base.in_transaction ≡ false
  pub own : store.base.own.pairs ≡ []
  pub draft : store.draft.pairs ≡ []
  pub stored : IsOnDisk g store.base.disk.now (λ left. Redoes left (committed store))
  pub leaves : LeavesStore g config old store.base.disk.now
  pub clean : g.tells_reads → IsClean (g.reads old) → OnlyReads g old store.base.disk.now
  pub later : g.faults old ≤ g.faults store.base.disk.now

module _ {D : Type 0} {g : Ghosts D} (counts : CountsNow g) (config : Config) (old : D) (opened loaded : Store D g) (opens : OpensStore g config old opened)
    (reads : OnlyReadsBase opened.base loaded.base)
    (later : g.faults opened.base.disk.now ≤ g.faults loaded.base.disk.now) where
  loaded-leaves : LeavesByOpening g config old loaded.base.disk.now
  loaded-leaves = loading-leaves g config old opened.base.disk.now loaded.base.disk.now counts
      (opening-leaves g config old opened.base.disk.now opens.allowed opens.leaves) reads.disk

  loaded-clean : g.tells_reads → IsClean (g.reads old) → OnlyReads g old loaded.base.disk.now
  loaded-clean told clean = only_reads_on g old opened.base.disk.now loaded.base.disk.now (opens.clean told clean) reads.disk

  store-of : (known : Bool) → ((as_known known g).tells_reads → StandsForOne (as_known known g) old) → (as_known known g).tells_reads
      → IsIndexed (committed opened) opened.base.shape
  store-of known stands told = let one = stands told in opened-store (g.reads old) config opened.base.shape (committed opened) opens.allowed
      (opens.opened (told_of known g told)) one.shape one.graph one.stands

  -- The records of a store whose names are damaged stay, but for the version.
  refused-leaves : (found : HoldsStore (g.reads old) opened.base.shape) → committed opened ≡ raised opened.base.shape found.space → g.tells_reads
      → LeavesRefused g old loaded.base.disk.now
  refused-leaves found is told =
      let shape = opened.base.shape in
      inr (
        shape,
        found,
        inr (subst (λ (records : Key → Rec). Redoes (g.reads loaded.base.disk.now) records) is ((same-stored opened loaded reads (committed opened)
            opens.stored).read told)),
        (λ images. at_each_moment_read g old opened.base.disk.now loaded.base.disk.now (λ left. g.may_leave old left ⊎ IsOldOrRaised shape found.space left)
            counts images (opens.leaves.made told images found.space shape found.redoes found.made) reads.disk),
      )

  names-refused : (T : Type 0) (fault : Fault) → IsRefusal (unloaded fault) → (AreLoadable (committed opened) → NotDamaged {T = T} (Err fault)) → g.tells_reads
      → opening.Opens (g.reads old) config opened.base.shape (committed opened) → LeavesRefused g old loaded.base.disk.now
  names-refused T Memory refusal sound told opens_as = absurd refusal
  names-refused T Disk refusal sound told opens_as = absurd refusal
  names-refused T (Damaged damage) refusal sound told (inl new) =
      absurd (sound (loadable (committed opened) opened.base.shape (new-store (g.reads old) config opened.base.shape (committed opened) new.0 opens.allowed
      new.1 new.2)))
  names-refused T (Damaged damage) refusal sound told (inr (before, redoes, found, suits, is)) =
      refused-leaves (record { space = before; redoes = redoes; made = found }) is told

  -- The names were loaded.
  pub loaded-opens : (session : SessionView D) → session.console.shape ≡ loaded.base.shape → session.console.health ≡ healths.Live
      → session.console.is_live ≡ loaded.base.live
      → session.console.is_open ≡ loaded.base.in_transaction → session.console.draft ≡ loaded.draft.pairs → session.console.committed ≡ committed loaded
      → session.console.working ≡ working loaded
      → (g.tells_reads → session.console.names ≡ names_of (state_of opened).records) → session.disk ≡ loaded.base.disk.now
      → state_of loaded ≡ after_names (state_of opened)
      → Opens g config old session
  loaded-opens session shape health live closed draft same_committed same_working names disk state = record {
    begins = λ known stands. (
      beginning opened.base.shape (committed opened),
      begins-starts (as_known known g) config old opened.base.shape (committed opened) opens.suits (λ told. opens.opened (told_of known g told)) stands,
      begins-at (as_known known g) session opened.base.shape (committed opened) (record {
        shape_is = shape ∙ reads.shape;
        health = health;
        live = live ∙ reads.live ∙ opens.live;
        closed = closed ∙ reads.in_transaction ∙ opens.closed;
        no_draft = draft ∙ draft-read opened loaded (name_mark (state_of opened).records) state opens.draft;
        store = store-of known stands;
        committed = same_committed ∙ committed-read opened.base loaded.base reads;
        working = same_working ∙ working-read opened.base loaded.base reads ∙ working-none opened.base opens.own;
        names = λ told. names (told_of known g told) ∙ ap names_of (drafted-none opened opens.draft ∙ working-none opened.base opens.own);
        stored = on_disk-known known (subst (λ (d : D). IsOnDisk g d (λ left. Redoes left (committed opened))) (sym disk) (same-stored opened loaded reads
            (committed opened) opens.stored));
      }),
    );
    recoverable = λ told. opens-recoverable (g.reads old) config opened.base.shape (committed opened) (opens.opened told);
    no_draft = draft ∙ draft-read opened loaded (name_mark (state_of opened).records) state opens.draft;
    crash = subst (λ (d : D). LeavesByOpening g config old d) (sym disk) loaded-leaves;
    clean = λ told clean. subst (λ (d : D). OnlyReads g old d) (sym disk) (loaded-clean told clean);
    later = omega (arith, opens.later, later, ap g.faults disk);
  }

  -- They were not.
  pub loaded-refused : (T : Type 0) (disk : D) (why : OpenFault) (fault : Fault) → disk ≡ loaded.base.disk.now → why ≡ unloaded fault
      → (g.tells_reads → IsLoadFault (state_of opened).records fault)
      → (g.tells_reads → AreLoadable (state_of opened).records → NotDamaged {T = T} (Err fault))
      → (fault ≡ Disk → Rose (g.faults opened.base.disk.now) (g.faults loaded.base.disk.now)) → IsUnopened g config old disk why
  loaded-refused T disk why fault disk_is why_is damaged sound cause =
      let same : drafted opened ≡ committed opened = drafted-none opened opens.draft ∙ working-none opened.base opens.own in
      let right : g.tells_reads → AreLoadable (committed opened) → NotDamaged {T = T} (Err fault) = λ told loads.
      sound told (subst (λ (records : Key → Rec). AreLoadable records) (sym same) loads) in
      let is : IsUnopened g config old loaded.base.disk.now (unloaded fault) = record {
        refused = λ told. load-refuses T (g.reads old) config opened.base.shape (committed opened) fault opens.allowed (opens.opened told)
            (subst (λ (records : Key → Rec). IsLoadFault records fault) same (damaged told)) (right told);
        sound = λ told shape graph stands.
            load-sound T shape config fault (right told (loadable (committed opened) opened.base.shape (opened-store (g.reads old) config opened.base.shape
            (committed opened) opens.allowed (opens.opened told) shape graph stands)));
        crash = loaded-leaves;
        careful = λ told. inr (opens-recoverable (g.reads old) config opened.base.shape (committed opened) (opens.opened told));
        differs = λ told space redoes other. absurd (unloaded-asked fault other);
        clean = loaded-clean;
        untouched = λ told refusal. names-refused T fault refusal (right told) told (opens.opened told);
        later = omega (arith, opens.later, later);
        cause = λ e. Rose-from (g.faults old) (g.faults opened.base.disk.now) (g.faults loaded.base.disk.now) opens.later (cause (unloaded-disk fault e));
      } in
      subst (λ (d : D). IsUnopened g config old d why) (sym disk_is) (subst (λ (w : OpenFault). IsUnopened g config old loaded.base.disk.now w) (sym why_is) is)
