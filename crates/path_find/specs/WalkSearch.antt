-- The neighbours by the edges of a search.
use Rattle.rec_bytes.specs.Space.{State}
use Rattle.plain_graph.specs.Adjacency.{Adjacency}
use Rattle.path_find.specs.Meeting.{reversed}
use Rattle.path_find.specs.Reads.{neighbours_at}
use Rattle.path_find.specs.declared.walk_search.WalkSearch.{WalkSearch}

-- the neighbours by edges of its direction and types
abbrev pub neighbours_for : State → WalkSearch → Adjacency
neighbours_for s sought = neighbours_at s sought.direction sought.labels.now

-- those by the same edges from their other ends
abbrev pub neighbours_back : State → WalkSearch → Adjacency
neighbours_back s sought = neighbours_at s (reversed sought.direction) sought.labels.now
