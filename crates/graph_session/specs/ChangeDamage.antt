-- Which record a change calls damaged, whatever the records are.
use Rattle.std.specs.Prelude.{◌≡◌, ◌⊎◌, ℕ, Contains, List}
use Rattle.plain_graph.specs.declared.command.Command.{Command}
use Rattle.plain_graph.specs.declared.command.Command.TheVariants as commands
use Rattle.plain_graph.specs.declared.command.Target.TheVariants as targets
use Rattle.rec_bytes.specs.declared.damage.Damage.{Damage}
use Rattle.store_rules.specs.Breaking.{BreaksAny}
use Rattle.store_rules.specs.Graph.{names_of}
use Rattle.store_rules.specs.Indexes.{IsIndexed}
use Rattle.store_rules.specs.Views.{Records}
use Rattle.name_store.specs.Again.{IsOtherName}
use Rattle.change_parts.specs.Damage.{IsOfIndex}
use Rattle.graph_session.specs.Console.{ConsoleView}
use Rattle.graph_session.specs.Verdicts.{seen_records}

-- A deletion of an edge reads no names. Any other change may blame a record for its name.
abbrev pub MayMeetNames : Command → Type 0
MayMeetNames (commands.Delete (targets.Edge id)) = ⊥
MayMeetNames _ = Unit {0}

-- The record that a change of this command calls damaged breaks a rule in what a line of the
-- session that writes sees. Or all rules hold there, and the record is that of the first name that
-- isn't the one in memory, or the names' meta record where there are more in memory.
abbrev pub IsSeenDamage : Command → ConsoleView → Damage → Type 0
IsSeenDamage command console damage =
    BreaksAny (seen_records console) console.shape damage
    ⊎ (MayMeetNames command × IsIndexed (seen_records console) console.shape
    × IsOtherName (seen_records console) console.names damage)

-- The record is that of a name that isn't the one in memory, or the names' meta record. Or these
-- are the names in memory, and it is the one that was met.
abbrev pub IsNameOrMet : Records → List (List ℕ) → Damage → Damage → Type 0
IsNameOrMet records names met damage =
    IsOtherName records names damage ⊎ ((names ≡ names_of records) × (damage ≡ met))

-- The call that makes the change of this command, where these are the names, blames only what
-- breaks a rule in the space as it found it, and records of the indexes.
abbrev pub TellsAsFound : Command → List (List ℕ) → Type 0
TellsAsFound (commands.Node label pairs) names = Unit {0}
TellsAsFound (commands.Set target key value) names = Contains names key
TellsAsFound (commands.Unset target key) names = Unit {0}
TellsAsFound (commands.Delete target) names = Unit {0}
TellsAsFound _ names = ⊥

-- So this record breaks one, if the call blames it. A deletion of an edge blames no others at all.
abbrev pub IsToldAsFound : Command → List (List ℕ) → Damage → Type 0
IsToldAsFound command names damage =
    (¬ MayMeetNames command) ⊎ ((¬ IsOfIndex damage) × TellsAsFound command names)
