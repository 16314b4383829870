-- Runs of the program one after another over a disk, with stops at any moment.
use Rattle.std.specs.Prelude.{◌≡◌, ◌⊎◌, ℕ, Bool, true, false, List, [], ◌∷◌}
use Rattle.disk_model.specs.Contents.{Files}
use Rattle.disk_model.specs.declared.disk.Disk.{Ghosts}
use Rattle.plain_graph.specs.Graph.{Graph}
use Rattle.rec_bytes.specs.declared.shape.Shape.{Shape}
use Rattle.stored_graph.specs.Stands.{Stands}
use Rattle.console_words.specs.declared.run_options.RunOptions.{RunOptions}
use Rattle.graph_session.specs.Exchange.{Exchange}
use Rattle.txn_core.specs.declared.open_fault.OpenFault.{OpenFault}
use Rattle.graph_session.specs.Opening.{IsUnopened}
use Rattle.graph_session.specs.Snapshots.{SharedState}
use Rattle.graph_session.specs.State.{Admits}
use Rattle.graph_console.specs.Program.{EndsAs, Serves, StartsRun, Terms, config_for}
use Rattle.graph_console.specs.Run.{ComesBy, Run, shared_course}
use Rattle.graph_console.specs.declared.exit.Exit.{Exit}

-- a disk, and the moment at which the last run of the program began
pub record World (D : Type 0) : Type 0 where
  pub disk : D
  pub since : ℕ

-- What may happen: the program runs, for these options, from this state through these exchanges, or
-- ends as the store is not opened; or it is stopped, between two runs or inside the last one, and
-- another disk has what that left.
pub data Event (D : Type 0) : Type 0 where
  Runs : (options : RunOptions) (first : SharedState) (run : List Exchange) (last : SharedState)
      → (now : D) → Event D
  Refuses : (options : RunOptions) (why : OpenFault) (now : D) → Event D
  Stops : (now : D) → Event D
  Stops_inside : (now : D) → Event D

-- the program was called in the event, with these options
abbrev pub IsCalledBy : {D : Type 0} → RunOptions → Event D → Type 0
IsCalledBy options (Runs given first run last now) = given ≡ options
IsCalledBy options (Refuses given why now) = given ≡ options
IsCalledBy options (Stops now) = ⊥
IsCalledBy options (Stops_inside now) = ⊥

module _ {D : Type 0} (g : Ghosts D) where
  -- what there is after an event
  abbrev pub after : Event D → World D → World D
  after (Runs options first run last now) w = record { disk = now; since = g.moment w.disk }
  after (Refuses options why now) w = record { disk = now; since = g.moment w.disk }
  after (Stops now) w = record { disk = now; since = g.moment now }
  after (Stops_inside now) w = record { disk = now; since = g.moment now }

  -- The event may happen then. What a run says is what the program says of it.
  abbrev pub May : Event D → World D → Type 0
  May (Runs options first run last now) w =
      StartsRun g w.disk (config_for options) first × Run g.tells_reads first run last
      × EndsAs g w.disk now first run last
  May (Refuses options why now) w = IsUnopened g (config_for options) w.disk now why
  May (Stops now) w = (image : Files) → g.may_leave now image → g.may_leave w.disk image
  May (Stops_inside now) w =
      (image : Files) → g.may_leave now image → g.left_since w.disk w.since image

  -- Graphs that a disk may have after these events, the last of which stands first, where it had
  -- this one before them; or where the last run is stopped inside. A run that came to its end
  -- leaves one that its last state admits; one that was stopped leaves one from before, or one that
  -- a state admits to which its first exchanges lead. Each run begins with one that was left.
  abbrev pub MayHave : Bool → Graph → List (Event D) → Graph → Type 0
  MayHave inside start [] graph = graph ≡ start
  MayHave false start (Runs options first run last now ∷ earlier) graph =
      MayHave false start earlier first.writer.committed × Admits last.writer graph
  MayHave true start (Runs options first run last now ∷ earlier) graph =
      MayHave false start earlier graph
      ⊎ (MayHave false start earlier first.writer.committed
      × (state : SharedState) × ComesBy g.tells_reads first run last state
      × Admits state.writer graph)
  MayHave inside start (Refuses options why now ∷ earlier) graph = MayHave false start earlier graph
  MayHave inside start (Stops now ∷ earlier) graph = MayHave false start earlier graph
  MayHave inside start (Stops_inside now ∷ earlier) graph = MayHave true start earlier graph

  -- these events may happen, the first of them last, and lead there
  abbrev pub Happen : World D → List (Event D) → World D → Type 0
  Happen begin [] end = end ≡ begin
  Happen begin (event ∷ earlier) end =
      (w : World D) × Happen begin earlier w × May event w × (end ≡ after event w)

  -- The terms of this event alone: its run from its first state through its exchanges to its last
  -- one, or its reason why there is none.
  abbrev pub terms_of : Event D → Terms (shared_course g.tells_reads)
  terms_of (Runs options first run last now) = record {
    starts = λ state. state ≡ first;
    ends = λ begun exchanges ended. (exchanges ≡ run) × (ended ≡ last);
    unopened = λ reason. ⊥;
  }
  terms_of (Refuses options why now) = record {
    starts = λ state. ⊥;
    ends = λ begun exchanges ended. ⊥;
    unopened = λ reason. reason ≡ why;
  }
  terms_of (Stops now) =
      record { starts = λ state. ⊥; ends = λ begun exchanges ended. ⊥; unopened = λ reason. ⊥ }
  terms_of (Stops_inside now) =
      record { starts = λ state. ⊥; ends = λ begun exchanges ended. ⊥; unopened = λ reason. ⊥ }

  -- The event is this call of the program: with these options, from the one disk to the other, and
  -- with this exit. Its run took the lines of this input that the exit says, and its replies are
  -- what was written; or its reason is the one that was written. It may happen whenever the run
  -- before it began.
  pub record IsCall (options : RunOptions) (old new : D) (exit : Exit)
      (input left written : List ℕ) (event : Event D) : Type 0 where
    pub called : IsCalledBy options event
    pub may : (since : ℕ) → May event (record { disk = old; since = since })
    pub leads : (since : ℕ) → after event (record { disk = old; since = since })
        ≡ record { disk = new; since = g.moment old }
    pub serves : Serves (terms_of event) exit input left written

  -- the disk before the first event
  abbrev pub start_of : D → World D
  start_of disk = record { disk = disk; since = g.moment disk }

  -- the content stands for a graph that these events may leave
  abbrev pub IsLeft : Bool → Graph → List (Event D) → Files → Type 0
  IsLeft inside start events content =
      (shape : Shape) × (graph : Graph) × Stands content shape graph
      × MayHave inside start events graph

  -- Each image stands for a graph that the events may leave, and so did each since the last run
  -- began, for one that they may leave where that run is stopped inside.
  pub record IsKept (start : Graph) (events : List (Event D)) (w : World D) : Type 0 where
    pub now : (image : Files) → g.may_leave w.disk image → IsLeft false start events image
    pub meanwhile :
        (image : Files) → g.left_since w.disk w.since image → IsLeft true start events image
