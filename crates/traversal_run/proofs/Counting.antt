-- A count of all items that wait.
use Rattle.std.proofs.Common.{◌≡◌, ◌≢◌, ◌<◌, ℕ, ◌+◌, Bool, true, false, not, ◌&&◌, nat_lt, List, [], ◌++◌, length, refl, sym, ap, ◌∙◌, subst, arith}
use Rattle.std.proofs.lemmas.List.{length-append}
use Rattle.std.proofs.lemmas.Bool.{lt-ltb}
use Rattle.plain_graph.specs.Graph.{Graph}
use Rattle.plain_graph.specs.declared.item.Item.{Item}
use Rattle.traversal_run.specs.Row.{Advances, PassesAt}
use Rattle.traversal_run.specs.Stage.{counted, is_count}
use Rattle.traversal_run.specs.declared.stage.Stage.{Stage}
use Rattle.traversal_run.specs.declared.stage.Stage.TheVariants as stages

-- a row that counts gives nothing, and nothing waits for it any more
counts_all : (graph : Graph) (given : Bool) (so_far after : ℕ) (waiting left coming : List Item) → (given ≡ false → after ≡ so_far + length waiting) → left ≡ []
    → Advances graph (record { stage = stages.Count so_far given; waiting = waiting }) coming [] (record { stage = stages.Count after given; waiting = left })
counts_all graph true so_far after waiting left coming more none = (refl, refl)
counts_all graph false so_far after waiting left coming more none =
    let is : after ≡ so_far + length waiting = more refl in
    let rest : length (left ++ coming) ≡ length coming = ap (λ list. length (list ++ coming)) none in
    let same : so_far + length (waiting ++ coming) ≡ after + length (left ++ coming) = omega (arith, length-append waiting coming) in
    (ap (counted false) same, ap (λ n. nat_lt 9223372036854775807 n) same)

pub counts_row : (graph : Graph) (stage : Stage) (given : Bool) (so_far after : ℕ) (waiting left coming outs : List Item) → stage ≡ stages.Count so_far given
    → outs ≡ [] → (given ≡ false → after ≡ so_far + length waiting) → left ≡ []
    → Advances graph (record { stage = stage; waiting = waiting }) coming outs (record { stage = stages.Count after given; waiting = left })
counts_row graph stage given so_far after waiting left coming outs is nothing more none =
    subst (λ (s : Stage). Advances graph (record { stage = s; waiting = waiting }) coming outs (record { stage = stages.Count after given; waiting = left }))
    (sym is)
    (subst (λ (list : List Item). Advances graph (record { stage = stages.Count so_far given; waiting = waiting }) coming list
    (record { stage = stages.Count after given; waiting = left })) (sym nothing)
    (counts_all graph given so_far after waiting left coming more none))

-- a count passes where those that wait make too many
pub passes_all : (so_far : ℕ) (given : Bool) (waiting : List Item) → given ≡ false → 9223372036854775807 < so_far + length waiting
    → PassesAt (record { stage = stages.Count so_far given; waiting = waiting })
passes_all so_far given waiting untold many coming =
    let longer : so_far + length (waiting ++ coming) ≡ (so_far + length waiting) + length coming = omega (arith, length-append waiting coming) in
    ap (λ (b : Bool). not b && nat_lt 9223372036854775807 (so_far + length (waiting ++ coming))) untold
    ∙ lt-ltb 9223372036854775807 (so_far + length (waiting ++ coming)) (omega arith)

-- what is no count
pub not_count : (stage : Stage) → ((so_far : ℕ) (given : Bool) → stage ≢ stages.Count so_far given) → is_count stage ≡ false
not_count (stages.Count so_far given) other = absurd (other so_far given refl)
not_count stage other = refl
