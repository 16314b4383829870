-- What a run still gives.
use Rattle.std.specs.Prelude.{◌≡◌, ℕ, Bool, true, cond, Option, None, Some, List, []}
use Rattle.std.specs.Prelude.{◌∷◌, length}
use Rattle.plain_graph.specs.Graph.{Graph}
use Rattle.plain_graph.specs.Meaning.{after_steps, counts_past_in, source_of}
use Rattle.plain_graph.specs.declared.item.Item.{Item}
use Rattle.plain_graph.specs.declared.query.Query.{Query}
use Rattle.rec_bytes.specs.declared.damage.Damage.{Damage}
use Rattle.traversal_run.specs.Row.{Stream, have_no_count, last_limit, stages_of, stream, through}
use Rattle.traversal_run.specs.Row.{with_first}
use Rattle.traversal_run.specs.Source.{is_over, left_of}
use Rattle.traversal_run.specs.Stage.{with_more}
use Rattle.traversal_run.specs.Stop.{MayStop}
use Rattle.traversal_run.specs.declared.run.Next.{Next}
use Rattle.traversal_run.specs.declared.run.Next.TheVariants as nexts
use Rattle.traversal_run.specs.declared.run.Run.{Run}
use Rattle.traversal_run.specs.declared.stage.Stage.{Stage}
use Rattle.traversal_run.specs.declared.stop.Stop.{Stop}
use Rattle.traversal_run.specs.declared.stop.Stop.TheVariants as stops

-- the results that are ready, and what comes out of the steps
abbrev pub to_come : Graph → Run → Stream
to_come graph run =
    with_first run.ready (through graph run.rows.items (stream (left_of graph run.source)))

-- the results that the query means, and whether a count in it passes the greatest number of a value
abbrev pub meant : Graph → Query → Stream
meant graph query = record {
  items = after_steps graph query.steps (source_of graph query.source);
  past = counts_past_in graph query.steps (source_of graph query.source);
}

-- why a run stops of which this is to come
abbrev pub IsStopOf : Stream → Stop → Type 0
IsStopOf coming stop = MayStop (coming ≡ stream []) (coming.past ≡ true) stop

-- ---- answers

abbrev pub answer_of : Stop → Next
answer_of stops.End = nexts.End
answer_of stops.Memory = nexts.Memory
answer_of stops.Disk = nexts.Disk
answer_of (stops.Damaged damage) = nexts.Damaged damage
answer_of stops.PastCount = nexts.PastCount

abbrev pub answer_if : Option Stop → Option Next
answer_if None = None
answer_if (Some stop) = Some (answer_of stop)

-- the answer that a run gives for good, once it has stopped
abbrev pub stopped_by : Run → Option Next
stopped_by run = answer_if run.stopped

-- each answer but a result is given for good
abbrev pub stop_in : Next → Option Next
stop_in (nexts.Item item) = None
stop_in nexts.End = Some nexts.End
stop_in nexts.Memory = Some nexts.Memory
stop_in nexts.Disk = Some nexts.Disk
stop_in (nexts.Damaged damage) = Some (nexts.Damaged damage)
stop_in nexts.PastCount = Some nexts.PastCount

-- what holds of a result that is given
abbrev pub IfItem : Next → (Item → Type 0) → Type 0
IfItem (nexts.Item item) P = P item
IfItem nexts.End P = Unit {0}
IfItem nexts.Memory P = Unit {0}
IfItem nexts.Disk P = Unit {0}
IfItem (nexts.Damaged damage) P = Unit {0}
IfItem nexts.PastCount P = Unit {0}

-- what holds of a record that is said to be damaged
abbrev pub IfDamaged : Next → (Damage → Type 0) → Type 0
IfDamaged (nexts.Item item) P = Unit {0}
IfDamaged nexts.End P = Unit {0}
IfDamaged nexts.Memory P = Unit {0}
IfDamaged nexts.Disk P = Unit {0}
IfDamaged (nexts.Damaged damage) P = P damage
IfDamaged nexts.PastCount P = Unit {0}

-- ---- a limit that is the last step

-- How many results these steps still let through, with these that are ready: known where the last
-- step is a limit and none counts, and where nothing is left to come.
abbrev pub allowed_by : Bool → List Stage → ℕ → Option ℕ
allowed_by over [] ready = cond over (Some ready) None
allowed_by over (step ∷ steps) ready =
    cond (have_no_count (step ∷ steps)) (with_more (last_limit (step ∷ steps)) ready) None

abbrev pub still_allowed : Run → Option ℕ
still_allowed run =
    allowed_by (is_over run.source.left) (stages_of run.rows.items) (length run.ready)
