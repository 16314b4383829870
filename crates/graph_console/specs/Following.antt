-- How far a sample whose lines a follower takes over has come.
use Rattle.std.specs.Prelude.{◌≡◌, ℕ, ◌+◌, ◌≤◌, false, None, List, Vec, length, map}
use Rattle.std.specs.declared.alloc.Global.{Global}
use Rattle.disk_model.specs.declared.disk.Disk.{Ghosts as DiskGhosts}
use Rattle.stream_io.specs.Lines.{Whole}
use Rattle.plain_graph.specs.Reply.{Reply, prefixed_text}
use Rattle.rec_bytes.specs.Pairs.{Pairs}
use Rattle.rec_bytes.specs.declared.shape.Shape.{Shape}
use Rattle.record_file.specs.Redone.{Redoes}
use Rattle.stored_graph.specs.Stands.{IsZeros}
use Rattle.console_words.specs.declared.sample_options.SampleOptions.{SampleOptions}
use Rattle.txn_core.specs.Config.{shape_of}
use Rattle.follower.specs.Follower.{View}
use Rattle.follower.specs.Sent.{IsSent, sent_graph}
use Rattle.follower.specs.Taken.{follower_records}
use Rattle.graph_session.specs.Exchange.{Exchange}
use Rattle.graph_session.specs.SharedConsole.{IsSharedAt}
use Rattle.graph_session.specs.SnapshotEffects.{SharedView}
use Rattle.graph_session.specs.Snapshots.{SharedState}
use Rattle.graph_session.specs.State.{Live, prefix_in}
use Rattle.graph_console.specs.Sending.{HasSent, Steps}
use Rattle.graph_console.specs.Follow.{all_delivered}
use Rattle.graph_console.specs.Run.{Run}
use Rattle.graph_console.specs.Sample.{SampleLines, SampleState, sample_config, sample_store}
use Rattle.graph_console.specs.Sample.{tells_failure}
use Rattle.graph_console.specs.Sampling.{TookTurns}
use Rattle.graph_console.specs.declared.follow.delivered.Delivered.{Delivered}

-- ---- the sender

-- The line was answered with this text, which tells no failure, and the set has what its
-- transaction wrote.
pub record AnswersTapped {D : Type 0} (disk : DiskGhosts D) (line text : List ℕ)
    (old new : SharedView D) (tap : Pairs) : Type 0 where
  pub reply : Reply
  pub text_is : text ≡ prefixed_text (prefix_in (Whole line)) reply
  pub well : tells_failure text ≡ false
  pub steps : (state : SharedState) → IsSharedAt disk old state
      → Steps disk (Whole line) old state reply new tap

-- The session has come through so many turns of a sample, and has sent a shipment for each.
pub record HasSentTurns {D : Type 0} (disk : DiskGhosts D) (options : SampleOptions) (turns : ℕ)
    (sample : SampleState) (sent : List (List ℕ)) (now : SharedView D) : Type 0 where
  pub took : TookTurns disk options turns sample now
  pub sends : HasSent disk (shape_of (sample_config options)) sent now took.last
  pub many : length sent ≡ turns
  pub live : took.last.writer.standing ≡ Live
  pub closed : took.last.writer.open_one ≡ None

-- These are the shipments of all turns of a sample, which left the generator in this state.
pub record SendsSample (tells : Type 0) (options : SampleOptions) (x : ℕ) (sent : List (List ℕ))
    : Type 0 where
  pub run : List Exchange
  pub last : SharedState
  pub steps : Run tells (sample_store options) run last
  pub generated : SampleLines options.seed options.count run
  pub x_is : x ≡ generated.last.x
  pub well : IsSent (shape_of (sample_config options)) sent
  pub many : length sent ≡ options.count
  pub graph :
      last.writer.committed ≡ sent_graph (shape_of (sample_config options)) sent (length sent)

-- ---- the follower

-- the bytes of each shipment
abbrev pub bytes_of : List (Vec ℕ Global) → List (List ℕ)
bytes_of shipments = map (λ (shipment : Vec ℕ Global). shipment.items) shipments

-- how many were delivered
abbrev pub count_delivered : Delivered → ℕ
count_delivered delivered = delivered.applied + delivered.old + delivered.gap

-- A follower over what it has on its disk: the sender's records after its first shipments, as many
-- as were applied.
pub record HasTaken {D : Type 0} (disk : DiskGhosts D) (shape : Shape) (sent : List (List ℕ))
    (delivered : Delivered) (follower : View D) : Type 0 where
  pub shape_is : follower.shape ≡ shape
  pub have : follower.have ≡ delivered.applied
  pub within : delivered.applied ≤ length sent
  pub records : follower.records ≡ follower_records shape sent delivered.applied
  pub stored : Redoes (disk.reads follower.disk) follower.records

-- All shipments were delivered to a follower that was made on this disk, as the generator of this
-- state draws them, and the disk has them all.
abbrev pub TakesAll : {D : Type 0} → DiskGhosts D → Shape → List (List ℕ) → ℕ → D → D
    → Delivered → Type 0
TakesAll disk shape sent x old new delivered =
    disk.tells_reads → IsSent shape sent → IsZeros (disk.reads old)
    → (delivered ≡ all_delivered (length sent) x)
    × Redoes (disk.reads new) (follower_records shape sent (length sent))
