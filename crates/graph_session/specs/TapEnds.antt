-- What the end of a change leaves in the set that takes the records of its transaction.
use Rattle.std.specs.Prelude.{◌≡◌, ◌⊎◌, ◌+◌, ◌≤◌, true, false, Option, Result, Ok, Err}
use Rattle.disk_model.specs.declared.disk.Disk.{Ghosts}
use Rattle.plain_graph.specs.Changes.{most_weight, start_weight}
use Rattle.rec_bytes.specs.Pairs.{Held, Pairs, merged}
use Rattle.rec_bytes.specs.declared.fault.Fault.TheVariants as faults
use Rattle.graph_session.specs.Console.{SessionView}
use Rattle.graph_session.specs.Drafting.{IsUnkeptAlone}
use Rattle.graph_session.specs.Tapping.{IsEmpty, IsTapped, Takes}
use Rattle.graph_session.specs.declared.answer.Answer.{Answer}
use Rattle.graph_session.specs.declared.answer.Answer.TheVariants as answers
use Rattle.graph_session.specs.declared.changing.Begun.{Begun}
use Rattle.graph_session.specs.declared.changing.Drafted.{Drafted}

-- what was committed are these records
abbrev pub AreTapped :
    {D : Type 0} → Ghosts D → SessionView D → SessionView D → Pairs → Pairs → Type 0
AreTapped g old new written tap = (tap ≡ written) × IsTapped g old new tap

-- a commit of these records that was to be answered so ended, with them, or else with nothing
abbrev pub TapsCommit :
    {D : Type 0} → Ghosts D → SessionView D → SessionView D → Pairs → Answer → Answer
    → Option Held → Option Held → Type 0
TapsCommit g old new written made answer was tap =
    ((answer ≡ made) × Takes (AreTapped g old new written) was tap)
    ⊎ ((answer ≡ answers.Fault faults.Disk) × Takes IsEmpty was tap)

-- a change that is a transaction by itself, with what is drafted then
abbrev pub TapsAlone :
    {D : Type 0} → Ghosts D → Result Drafted Answer → SessionView D → SessionView D → Answer
    → Option Held → Option Held → Type 0
TapsAlone g (Ok made) old new answer was tap =
    ((start_weight + made.weight ≤ most_weight)
    × TapsCommit g old new (merged old.console.written old.console.draft) made.answer answer was
    tap)
    ⊎ (IsUnkeptAlone made.weight answer × Takes IsEmpty was tap)
TapsAlone g (Err why) old new answer was tap = (answer ≡ why) × Takes IsEmpty was tap

-- a change, in the open transaction or by itself
abbrev pub TapsChange :
    {D : Type 0} → Ghosts D → Begun → Result Drafted Answer → SessionView D → SessionView D
    → Answer → Option Held → Option Held → Type 0
TapsChange g begun drafted old new answer was tap =
    ((begun.alone ≡ false) × Takes IsEmpty was tap)
    ⊎ ((begun.alone ≡ true) × TapsAlone g drafted old new answer was tap)
