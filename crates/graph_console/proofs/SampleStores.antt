-- The store that a sample begins with: a disk of zeros, in which none was made.
use Rattle.std.proofs.Common.{◌≡◌, inl, ℕ, zero, suc, ◌+◌, true, List, replicate, refl, subst, ap, None}
use Rattle.disk_model.specs.Contents.{Files, bytes_from}
use Rattle.disk_model.specs.declared.disk.Disk.{Ghosts}
use Rattle.plain_graph.specs.Graph.{Graph, empty_graph}
use Rattle.rec_bytes.specs.declared.record.Rec.{Rec}
use Rattle.rec_bytes.specs.declared.shape.Shape.{Shape}
use Rattle.record_file.specs.Records.{IsUnmade, record_at}
use Rattle.txn_core.specs.declared.config.Config.{Config}
use Rattle.console_words.specs.declared.sample_options.SampleOptions.{SampleOptions}
use Rattle.record_file.specs.Redone.{Redoes}
use Rattle.snap_store.specs.Snaps.{no_snapshots}
use Rattle.graph_session.specs.Opening.{Opens}
use Rattle.graph_session.specs.SharedConsole.{IsSharedAt}
use Rattle.graph_session.specs.SnapshotEffects.{SharedView}
use Rattle.graph_session.specs.State.{Live, State}
use Rattle.graph_session.proofs.SnapshotTaking.{opens-shared}
use Rattle.graph_console.specs.Run.{begins_with}
use Rattle.graph_console.specs.Sample.{sample_config, sample_store}

bytes_from-zeros : (file : ℕ → ℕ) → ((place : ℕ) → file place ≡ 0) → (n place : ℕ) → bytes_from file place n ≡ replicate n 0
bytes_from-zeros file all zero place = refl
bytes_from-zeros file all (suc n) place = cc (all place, bytes_from-zeros file all n (place + 1))

-- in zeros no store was made
pub unmade_zeros : (content : Files) → ((file place : ℕ) → content file place ≡ 0) → IsUnmade content
unfolding record_at
unmade_zeros content all = record {
  log = (refl, λ is_open. cc (all 7 0, is_open));
  blank = λ file is_file. ap (λ (bytes : List ℕ). let r : Rec = record { bytes = bytes } in r) (bytes_from-zeros (content 0) (all 0) 64 _);
}

state_is : (state : State) (threshold limit : ℕ) (graph : Graph) → state.shape.threshold ≡ threshold → state.shape.limit ≡ limit → state.committed ≡ graph
    → state.open_one ≡ None → state.standing ≡ Live
    → state ≡ record { shape = record { threshold = threshold; limit = limit }; committed = graph; open_one = None; standing = Live }
state_is state threshold limit graph of_threshold of_limit of_graph closed live = rw (← of_threshold, ← of_limit, ← of_graph, ← closed, ← live)

-- a session over a disk without a store begins with the one that a sample asks for
pub opens_empty : {D : Type 0} (g : Ghosts D) (options : SampleOptions) (config : Config) (old : D) (new : SharedView D) → config ≡ sample_config options
    → g.tells_reads → IsUnmade (g.reads old) → Opens g config old new.session
    → (g.tells_reads → Redoes (g.reads new.session.disk) new.session.console.committed) → new.held ≡ no_snapshots → IsSharedAt g new (sample_store options)
opens_empty g options config old new asked told unmade opens stored none =
    let shape : Shape = record { threshold = 50; limit = options.count + 16 } in
    let begins = (subst (λ (c : Config). Opens g c old new.session) asked opens).begins true
    (λ _. record { shape = shape; graph = empty_graph; stands = inl (unmade, refl) }) in
    subst (λ (state : State). IsSharedAt g new (begins_with state))
    (state_is begins.0 50 (options.count + 16) empty_graph begins.1.suits.0 begins.1.suits.1 (begins.1.same told shape empty_graph (inl (unmade, refl)))
    begins.1.closed begins.1.live)
    (opens-shared g new begins.0 begins.2 stored begins.1.closed none)
