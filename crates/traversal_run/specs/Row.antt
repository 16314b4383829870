-- Steps under way, one after the other, each with the items that wait for it.
use Rattle.std.specs.Prelude.{◌≡◌, ℕ, Bool, true, false, not, ◌||◌, Option, None, List, []}
use Rattle.std.specs.Prelude.{◌∷◌, ◌++◌, map}
use Rattle.std.specs.List.{list_all}
use Rattle.plain_graph.specs.Graph.{Graph}
use Rattle.plain_graph.specs.declared.item.Item.{Item}
use Rattle.traversal_run.specs.Stage.{after_stage, counts_past, is_count, is_open, limit_left}
use Rattle.traversal_run.specs.declared.row.Row.{Row}
use Rattle.traversal_run.specs.declared.stage.Stage.{Stage}

-- Items that come, and whether a count on their way passed the greatest number of a value.
pub record Stream : Type 0 where
  pub items : List Item
  pub past : Bool

abbrev pub stream : List Item → Stream
stream items = record { items = items; past = false }

-- these items, and then the others
abbrev pub with_first : List Item → Stream → Stream
with_first first coming = record { items = first ++ coming.items; past = coming.past }

-- what a row makes of the items that come to it: those that wait come first
abbrev pub after_row : Graph → Row → Stream → Stream
after_row graph row coming = record {
  items = after_stage graph row.stage (row.waiting ++ coming.items);
  past = coming.past || counts_past row.stage (row.waiting ++ coming.items);
}

-- what comes out of rows of steps
abbrev pub through : Graph → List Row → Stream → Stream
through graph [] coming = coming
through graph (row ∷ rows) coming = through graph rows (after_row graph row coming)

-- With these still to come to it, the row gives these items and goes on as the new one.
abbrev pub Advances : Graph → Row → List Item → List Item → Row → Type 0
Advances graph old coming outs new =
    (after_stage graph old.stage (old.waiting ++ coming)
    ≡ outs ++ after_stage graph new.stage (new.waiting ++ coming))
    × (counts_past old.stage (old.waiting ++ coming)
    ≡ counts_past new.stage (new.waiting ++ coming))

-- a count of the first of the items that wait passes, whatever comes after it
abbrev pub PassesAt : Row → Type 0
PassesAt row = (coming : List Item) → counts_past row.stage (row.waiting ++ coming) ≡ true

-- no item waits
abbrev pub AreIdle : List Row → Type 0
AreIdle [] = Unit {0}
AreIdle (row ∷ rows) = (row.waiting ≡ []) × AreIdle rows

-- no step gives more once nothing more comes
abbrev pub AreQuiet : List Row → Type 0
AreQuiet [] = Unit {0}
AreQuiet (row ∷ rows) = (is_open row.stage ≡ false) × AreQuiet rows

abbrev pub stages_of : List Row → List Stage
stages_of rows = map (λ (row : Row). row.stage) rows

-- no step counts
abbrev pub have_no_count : List Stage → Bool
have_no_count steps = list_all (λ step. not (is_count step)) steps

-- how many items the last step still lets through, where it is a limit
abbrev pub last_limit : List Stage → Option ℕ
last_limit [] = None
last_limit (step ∷ []) = limit_left step
last_limit (step ∷ next ∷ later) = last_limit (next ∷ later)
