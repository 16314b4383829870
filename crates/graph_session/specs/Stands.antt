-- Which contents of the disk a state admits.
use Rattle.std.specs.Prelude.{◌⊎◌}
use Rattle.disk_model.specs.Contents.{Files}
use Rattle.plain_graph.specs.Graph.{Graph}
use Rattle.stored_graph.specs.Stands.{IsServed, Stands}
use Rattle.graph_session.specs.State.{Admits, State}

-- the content stands for a graph that the state admits
abbrev pub IsAdmitted : State → Files → Type 0
IsAdmitted state content = (graph : Graph) × Admits state graph × Stands content state.shape graph

-- a store of the newest version was made in the content, and the state admits its graph
abbrev pub HoldsAdmitted : State → Files → Type 0
HoldsAdmitted state content =
    (graph : Graph) × Admits state graph × IsServed content state.shape graph

-- it stands for one that the state before a line admits, or the state after it
abbrev pub IsAdmittedByEither : State → State → Files → Type 0
IsAdmittedByEither before after content = IsAdmitted before content ⊎ IsAdmitted after content

-- each content stands for a graph that the state admits
abbrev pub AreAdmitted : State → (Files → Type 0) → Type 0
AreAdmitted state images = (content : Files) → images content → IsAdmitted state content
