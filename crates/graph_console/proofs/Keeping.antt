-- What every list of runs and stops leaves.
use Rattle.std.proofs.Common.{◌≡◌, ◌⊎◌, inl, inr, true, false, List, [], ◌∷◌, refl, sym, subst}
use Rattle.disk_model.specs.Contents.{Files}
use Rattle.disk_model.specs.declared.disk.Disk.{Ghosts}
use Rattle.disk_model.specs.Spans.{AtEachMoment}
use Rattle.disk_model.proofs.Spans.{CountsNow, OnlyNow, at_each_moment_now}
use Rattle.plain_graph.specs.Graph.{Graph, empty_graph}
use Rattle.rec_bytes.specs.declared.shape.Shape.{Shape}
use Rattle.record_file.specs.Records.{IsUnmade}
use Rattle.stored_graph.specs.Stands.{Stands}
use Rattle.stored_graph.proofs.Stands.{Stands-only, stands-recoverable}
use Rattle.txn_core.specs.Config.{shape_of}
use Rattle.txn_core.specs.Opening.{HoldsStore, IsOldOrRaised}
use Rattle.txn_core.specs.declared.config.Config.{Config}
use Rattle.console_words.specs.declared.run_options.RunOptions.{RunOptions}
use Rattle.graph_session.specs.Opening.{LeavesOldOrSame}
use Rattle.graph_session.specs.Snapshots.{SharedState}
use Rattle.graph_session.specs.Stands.{IsAdmitted}
use Rattle.graph_session.proofs.Openings.{redone-made, store-shape}
use Rattle.graph_console.specs.Lives.{Event, Happen, IsKept, IsLeft, May, MayHave, Refuses, Runs, Stops, Stops_inside, World, after, start_of}
use Rattle.graph_console.specs.Program.{StartsRun, config_for}
use Rattle.graph_console.specs.Run.{IsAdmittedInRun}

-- the laws of a disk that tells its reads and its images
pub record Laws {D : Type 0} (g : Ghosts D) : Type 0 where
  pub reads : g.tells_reads
  pub images : g.tells_images
  pub read_is_image : (disk : D) → g.may_leave disk (g.reads disk)
  pub only : OnlyNow g
  pub counts : CountsNow g

-- what an opening leaves stands for the graph that the content stands for
left_same : (content left : Files) (config : Config) (shape : Shape) (graph : Graph) (P : Graph → Type 0) → Stands content shape graph → P graph
    → (IsUnmade content × Stands left (shape_of config) empty_graph) ⊎ ((¬ IsUnmade content) × (other : Shape) ×
    (store : HoldsStore content other) × IsOldOrRaised
    other store.space left)
    → (other : Shape) × (found : Graph) × Stands left other found × P found
left_same content left config shape graph P stands has (inl (unmade, new)) =
    (shape_of config, empty_graph, new, subst P (Stands-only content shape shape graph empty_graph stands (inl (unmade, refl))) has)
left_same content left config shape graph P (inl unmade) has (inr (made, other, store, left_so)) = absurd (made unmade.0)
left_same content left config shape graph P (inr is) has (inr (made, other, store, left_so)) =
    let shapes : other ≡ shape = store-shape content shape graph is other store in (
      shape,
      graph,
      inr (redone-made content left shape graph store.space is store.redoes (subst (λ (s : Shape). IsOldOrRaised s store.space left)
          shapes left_so)),
      has,
    )

module _ {D : Type 0} (g : Ghosts D) (laws : Laws g) (start : Graph) where
  -- since this moment there is no image but those of now
  settled : (events : List (Event D)) (disk : D) → ((image : Files) → g.may_leave disk image → IsLeft g false start events image)
      → ((image : Files) → g.may_leave disk image → IsLeft g true start events image) → IsKept g start events (start_of g disk)
  settled events disk has had = record { now = has; meanwhile = λ image left. had image (laws.only disk image laws.images left) }

  -- a run begins with the graph that what is read stands for
  begun : (events : List (Event D)) (w : World D) → IsKept g start events w → (options : RunOptions) (first : SharedState)
      → StartsRun g w.disk (config_for options) first → MayHave g false start events first.writer.committed
  begun events w kept options first starts =
      let read = kept.now (g.reads w.disk) (laws.read_is_image w.disk) in
      subst (λ (graph : Graph). MayHave g false start events graph) (sym (starts.writer.same laws.reads read.0 read.1 read.2)) read.3

  on : (events : List (Event D)) (w : World D) → IsKept g start events w → (event : Event D) → May g event w → IsKept g start (event ∷ events) (after g event w)
  on events w kept (Runs options first run last now) may =
      let began = begun events w kept options first may.0 in
      record {
        now = λ image left.
            let is : IsAdmitted last.writer image = may.2.durable (laws.reads, laws.images) image left in
            (last.writer.shape, is.0, is.2, (began, is.1));
        meanwhile = λ image left. inside image ((may.2.crash (laws.reads, laws.images)).each image left);
      }
    where
      inside : (image : Files) → g.may_leave w.disk image ⊎ IsAdmittedInRun g.tells_reads first run last image
          → IsLeft g true start (Runs options first run last now ∷ events) image
      inside image (inl old) = let was = kept.now image old in (was.0, was.1, was.2, inl was.3)
      inside image (inr by) = (by.0.writer.shape, by.2.0, by.2.2, inr (begun events w kept options first may.0, by.0, by.1, by.2.1))
  on events w kept (Refuses options why now) may = record {
    now = λ image left. back image (at_each_moment_now g w.disk now _ laws.counts laws.images moments image left);
    meanwhile = λ image left. back image (moments.each image left);
  }
    where
      read : IsLeft g false start events (g.reads w.disk)
      read = kept.now (g.reads w.disk) (laws.read_is_image w.disk)

      moments : AtEachMoment g w.disk now (LeavesOldOrSame (g.reads w.disk) (g.may_leave w.disk) (config_for options))
      moments = may.crash (laws.reads, laws.images) (stands-recoverable (g.reads w.disk) read.0 read.1 read.2)

      back : (image : Files) → LeavesOldOrSame (g.reads w.disk) (g.may_leave w.disk) (config_for options) image → (shape : Shape) × (graph : Graph)
          × Stands image shape graph × MayHave g false start events graph
      back image (inl old) = kept.now image old
      back image (inr made) = left_same (g.reads w.disk) image (config_for options) read.0 read.1 (λ (graph : Graph). MayHave g false start events graph) read.2
          read.3 made
  on events w kept (Stops now) may = settled (Stops now ∷ events) now (λ image left. kept.now image (may image left))
      (λ image left. kept.now image (may image left))
  on events w kept (Stops_inside now) may =
      settled (Stops_inside now ∷ events) now (λ image left. kept.meanwhile image (may image left)) (λ image left. kept.meanwhile image (may image left))

  -- after each list of events
  pub keeps_always : (shape : Shape) (disk : D) → ((image : Files) → g.may_leave disk image → Stands image shape start)
      → (events : List (Event D)) (end : World D) → Happen g (start_of g disk) events end → IsKept g start events end
  keeps_always shape disk stands [] end same =
      subst (λ (w : World D). IsKept g start [] w) (sym same) (settled [] disk (λ image left. (shape, start, stands image left, refl))
      (λ image left. (shape, start, stands image left, refl)))
  keeps_always shape disk stands (event ∷ earlier) end happen =
      subst (λ (w : World D). IsKept g start (event ∷ earlier) w) (sym happen.3)
      (on earlier happen.0 (keeps_always shape disk stands earlier happen.0 happen.1) event happen.2)
