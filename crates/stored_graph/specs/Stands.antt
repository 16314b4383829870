-- Which graph a content of the disk stands for.
use Rattle.std.specs.Prelude.{◌≡◌, ◌⊎◌, ℕ}
use Rattle.disk_model.specs.Contents.{Files}
use Rattle.plain_graph.specs.Graph.{Graph, empty_graph}
use Rattle.rec_bytes.specs.declared.key.Key.{Key}
use Rattle.rec_bytes.specs.declared.record.Rec.{Rec}
use Rattle.rec_bytes.specs.declared.shape.Shape.{Shape}
use Rattle.record_file.specs.Records.{IsUnmade}
use Rattle.record_file.specs.Redone.{Redoes}
use Rattle.store_rules.specs.Graph.{graph_of}
use Rattle.store_rules.specs.Indexes.{IsIndexed}
use Rattle.stored_graph.specs.Versions.{IsIndexedIn}

-- The entries of the log, laid over the records of the files, make records that are such a store of
-- this shape, and this is their graph.
pub record IsStored (is_store : (Key → Rec) → Shape → Type 0) (content : Files) (shape : Shape)
    (graph : Graph) : Type 0 where
  pub space : Key → Rec
  pub redoes : Redoes content space
  pub store : is_store space shape
  pub graph_is : graph ≡ graph_of space

-- a store of whatever version, which keeps all rules
abbrev pub IsMade : Files → Shape → Graph → Type 0
IsMade content shape graph = IsStored IsIndexedIn content shape graph

-- one of the newest version
abbrev pub IsServed : Files → Shape → Graph → Type 0
IsServed content shape graph = IsStored IsIndexed content shape graph

-- The content stands for this graph, under this shape, where its records are such a store; one in
-- which no store was made stands for the empty graph, under every shape.
abbrev pub StandsAs : ((Key → Rec) → Shape → Type 0) → Files → Shape → Graph → Type 0
StandsAs is_store content shape graph =
    (IsUnmade content × (graph ≡ empty_graph)) ⊎ IsStored is_store content shape graph

-- it stands for it, whatever the version of the store
abbrev pub Stands : Files → Shape → Graph → Type 0
Stands content shape graph = StandsAs IsIndexedIn content shape graph

-- it stands for it, and its store is of the newest version
abbrev pub StandsFor : Files → Shape → Graph → Type 0
StandsFor content shape graph = StandsAs IsIndexed content shape graph

-- each byte of the content is zero
abbrev pub IsZeros : Files → Type 0
IsZeros content = (file place : ℕ) → content file place ≡ 0
