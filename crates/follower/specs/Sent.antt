-- What was sent to a follower, and how far a content of its disk has come in it.
use Rattle.std.specs.Prelude.{◌≡◌, ◌⊎◌, ℕ, ◌+◌, ◌≤◌, ◌<◌, ◌^◌, List, Some, length}
use Rattle.std.specs.List.{slice_get}
use Rattle.disk_model.specs.Contents.{Files}
use Rattle.plain_graph.specs.Graph.{Graph}
use Rattle.rec_bytes.specs.declared.shape.Shape.{Shape}
use Rattle.rec_bytes.specs.Space.{blank_records}
use Rattle.record_file.specs.Records.{IsUnmade, record_at}
use Rattle.record_file.specs.Redone.{Redoes}
use Rattle.store_rules.specs.Graph.{graph_of}
use Rattle.store_rules.specs.Indexes.{IsIndexed}
use Rattle.follower.specs.Shipment.{IsShipment, number_of}
use Rattle.follower.specs.Taken.{follower_records, sender_records}

-- The shipments of a sender with a store of this shape, from number 1 on: one for each of its
-- transactions, from the making of its store on. After each the sender's records are a store
-- of this shape that keeps all rules.
pub record IsSent (shape : Shape) (sent : List (List ℕ)) : Type 0 where
  pub few : length sent < 2 ^ 64
  pub each : (i : ℕ) (bytes : List ℕ) → slice_get sent i ≡ Some bytes
      → IsShipment shape bytes × (number_of bytes ≡ i + 1)
  pub stored : (j : ℕ) → j ≤ length sent → IsIndexed (sender_records shape sent j) shape

-- the sender's graph after its first transactions, so many of them
abbrev pub sent_graph : Shape → List (List ℕ) → ℕ → Graph
sent_graph shape sent j = graph_of (sender_records shape sent j)

-- the content is that of a disk on which no follower's store was made yet
pub record IsBlank (content : Files) : Type 0 where
  pub unmade : IsUnmade content
  pub records : record_at content ≡ blank_records

-- the content has what the sender had after so many transactions, with that number, or none was
-- taken over and none is there
abbrev pub HoldsSent : Shape → List (List ℕ) → ℕ → Files → Type 0
HoldsSent shape sent j content =
    Redoes content (follower_records shape sent j) ⊎ ((j ≡ 0) × IsBlank content)

-- What is known of a follower from the numbers that came to it and from its answers: the number of
-- the last shipment that it said to have applied, the number that its last such answer or its last
-- opening gave, and the greatest that came; 0 before any.
pub record Told : Type 0 where
  pub applied : ℕ
  pub base : ℕ
  pub greatest : ℕ

-- nothing came and nothing was answered
abbrev pub nothing_told : Told
nothing_told = record { applied = 0; base = 0; greatest = 0 }

-- the number is one that a follower may have that told this
pub record FitsTold (told : Told) (j : ℕ) : Type 0 where
  pub holds_applied : told.applied ≤ j
  pub one_more : j ≤ told.base + 1
  pub came : j ≤ told.greatest

-- The content has what the sender had after its first transactions, as many as the number in it
-- says, and this is one that the follower may have.
pub record FollowsSent (shape : Shape) (sent : List (List ℕ)) (told : Told) (content : Files)
    : Type 0 where
  pub number : ℕ
  pub was_sent : number ≤ length sent
  pub holds : HoldsSent shape sent number content
  pub fits : FitsTold told number
