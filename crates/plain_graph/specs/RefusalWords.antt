-- The line of a refusal in parts: words, for some a number, and for one words behind it.
use Rattle.std.specs.Prelude.{ℕ, List, [], Option, Some, None, codes, decimal}
use Rattle.plain_graph.specs.declared.refusal.Refusal.{Refusal}
use Rattle.plain_graph.specs.declared.refusal.Refusal.TheVariants as refusals

abbrev pub refusal_words : Refusal → List ℕ
refusal_words refusals.LongLine = codes "error line"
refusal_words (refusals.Syntax at) = codes "error syntax "
refusal_words (refusals.NameLength at) = codes "error name length "
refusal_words (refusals.TimesRange at) = codes "error times range "
refusal_words (refusals.StepKind at) = codes "error step kind "
refusal_words (refusals.TooManySteps at) = codes "error too many steps "
refusal_words (refusals.TextLength at) = codes "error text length "
refusal_words refusals.ReadOnly = codes "error read only"
refusal_words refusals.Writer = codes "error writer"
refusal_words refusals.Failed = codes "error failed"
refusal_words refusals.SnapshotOpen = codes "error snapshot open"
refusal_words refusals.NoSnapshot = codes "error no snapshot"
refusal_words refusals.SnapshotEnded = codes "error snapshot ended"
refusal_words refusals.FullNodes = codes "error full nodes"
refusal_words refusals.FullNames = codes "error names full"
refusal_words refusals.TooManyProperties = codes "error properties full"
refusal_words refusals.FullProperties = codes "error full properties"
refusal_words refusals.FullStrings = codes "error full strings"
refusal_words (refusals.NumberRange at) = codes "error number range "
refusal_words refusals.TransactionOpen = codes "error transaction open"
refusal_words refusals.NoTransaction = codes "error no transaction"
refusal_words refusals.FullEdges = codes "error full edges"
refusal_words (refusals.NoNode id) = codes "error no node "
refusal_words (refusals.NoEdge id) = codes "error no edge "
refusal_words (refusals.HasRelationships id) = codes "error node "
refusal_words refusals.TransactionFull = codes "error transaction full"
refusal_words refusals.IndexThere = codes "error index there"
refusal_words refusals.TooManyIndexes = codes "error indexes full"
refusal_words (refusals.IndexTooLarge count) = codes "error index too large "
refusal_words refusals.FullIndex = codes "error full index"
refusal_words refusals.NoIndex = codes "error no index"

abbrev pub refusal_number : Refusal → Option ℕ
refusal_number (refusals.Syntax at) = Some at
refusal_number (refusals.NameLength at) = Some at
refusal_number (refusals.TimesRange at) = Some at
refusal_number (refusals.StepKind at) = Some at
refusal_number (refusals.TooManySteps at) = Some at
refusal_number (refusals.TextLength at) = Some at
refusal_number (refusals.NumberRange at) = Some at
refusal_number (refusals.NoNode id) = Some id
refusal_number (refusals.NoEdge id) = Some id
refusal_number (refusals.HasRelationships id) = Some id
refusal_number (refusals.IndexTooLarge count) = Some count
refusal_number _ = None

abbrev pub refusal_rest : Refusal → List ℕ
refusal_rest (refusals.HasRelationships id) = codes " has relationships"
refusal_rest _ = []

-- the digits of a number, where there is one
abbrev pub number_text : Option ℕ → List ℕ
number_text None = []
number_text (Some number) = decimal number
