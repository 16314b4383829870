-- What the sessions that read have, beside the state of the one that writes.
use Rattle.rec_bytes.specs.Format.{most_kept}
use Rattle.std.specs.Prelude.{◌≡◌, ◌⊎◌, ◌+◌, ◌<◌, ℕ, Bool, true, nat_eq, not, List, [], ◌∷◌, ◌++◌}
use Rattle.std.specs.Prelude.{filter, map}
use Rattle.std.specs.List.{list_any}
use Rattle.plain_graph.specs.Graph.{Graph}
use Rattle.graph_session.specs.State.{State}

-- an open snapshot: its reader, the graph that it sees, and the weights of the transactions since
-- it was taken, in sum
pub record Snapshot : Type 0 where
  pub reader : ℕ
  pub graph : Graph
  pub sum : ℕ

-- the open snapshots, the oldest first, and the readers whose snapshot has ended
pub record Readers : Type 0 where
  pub open_ones : List Snapshot
  pub ended : List ℕ

-- the console of all sessions: that of the one that writes, and what the readers have
pub record SharedState : Type 0 where
  pub writer : State
  pub readers : Readers

-- the snapshot is the reader's
abbrev pub is_of : ℕ → Snapshot → Bool
is_of reader snapshot = nat_eq snapshot.reader reader

-- the reader has an open snapshot
abbrev pub IsOpenFor : Readers → ℕ → Type 0
IsOpenFor readers reader = list_any (is_of reader) readers.open_ones ≡ true

-- or one that has ended
abbrev pub HasEnded : Readers → ℕ → Type 0
HasEnded readers reader = list_any (nat_eq reader) readers.ended ≡ true

-- the reader's open snapshot, among these, sees this graph
abbrev pub SeesAmong : List Snapshot → ℕ → Graph → Type 0
SeesAmong [] reader graph = ⊥
SeesAmong (snapshot ∷ younger) reader graph =
    ((snapshot.reader ≡ reader) × (snapshot.graph ≡ graph)) ⊎ SeesAmong younger reader graph

abbrev pub Sees : Readers → ℕ → Graph → Type 0
Sees readers reader graph = SeesAmong readers.open_ones reader graph

-- the readers but this one
abbrev pub without_reader : ℕ → List ℕ → List ℕ
without_reader reader readers = filter (λ other. not (nat_eq other reader)) readers

-- the reader's snapshot is open, as the youngest, and sees this graph
abbrev pub with_snapshot : ℕ → Graph → Readers → Readers
with_snapshot reader graph readers = record {
  open_ones = readers.open_ones ++ record { reader = reader; graph = graph; sum = 0 } ∷ [];
  ended = without_reader reader readers.ended;
}

-- the reader has none
abbrev pub without_snapshot : ℕ → Readers → Readers
without_snapshot reader readers = record {
  open_ones = filter (λ snapshot. not (is_of reader snapshot)) readers.open_ones;
  ended = without_reader reader readers.ended;
}

-- a snapshot after one transaction more, of this weight
abbrev pub heavier : ℕ → Snapshot → Snapshot
heavier weight snapshot = record snapshot { sum = snapshot.sum + weight }

-- A transaction of this weight adds to each sum. The oldest snapshot may have ended, if its sum is
-- then more than so many old records as are kept, and so on with the next.
abbrev pub Outlive : ℕ → List Snapshot → List ℕ → Readers → Type 0
Outlive weight [] ended new = new ≡ record { open_ones = []; ended = ended }
Outlive weight (oldest ∷ younger) ended new =
    (new ≡ record { open_ones = map (heavier weight) (oldest ∷ younger); ended = ended })
    ⊎ ((most_kept < oldest.sum + weight)
    × Outlive weight younger (oldest.reader ∷ ended) new)

abbrev pub Outlives : ℕ → Readers → Readers → Type 0
Outlives weight old new = Outlive weight old.open_ones old.ended new
