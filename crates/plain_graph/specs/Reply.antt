-- The replies of the console, and their bytes.
use Rattle.std.specs.Prelude.{ℕ, nat_eq, if◌then◌else◌, List, [], ◌∷◌, ◌++◌, codes, decimal}
use Rattle.std.specs.Prelude.{Option, Some, None, flat_map, slice_index_or}
use Rattle.std.specs.Fmt.{signed_decimal}
use Rattle.plain_graph.specs.declared.item.Item.{Item}
use Rattle.plain_graph.specs.declared.item.Item.TheVariants as items
use Rattle.plain_graph.specs.declared.value.Value.{Value}
use Rattle.plain_graph.specs.declared.value.Value.TheVariants as values
use Rattle.plain_graph.specs.declared.refusal.Refusal.{Refusal}
use Rattle.plain_graph.specs.declared.refusal.Refusal.TheVariants as refusals

-- why a line is not carried out, or not to its end: no memory, the disk, a record that breaks a
-- rule of the store, or more results at a count than a number holds
pub data Fault : Type 0 where
  PastCount : Fault
  NoMemory : Fault
  DiskFailed : Fault
  DamagedRecord : (file id : ℕ) → Fault

-- What a line of the console is answered with: nothing; what acknowledges a change; what was asked
-- for, in lines of which the last one ends the reply; the first of these lines and a fault; or why
-- the line is refused.
pub data Reply : Type 0 where
  Silent : Reply
  Done : Reply
  NodeMade : (id : ℕ) → Reply
  EdgeMade : (id : ℕ) → Reply
  Told : (lines : List (List ℕ)) → (last : List ℕ) → Reply
  Faulted : (lines : List (List ℕ)) → (fault : Fault) → Reply
  Refused : (why : Refusal) → Reply

-- the text with a newline behind it
abbrev pub text_line : List ℕ → List ℕ
text_line text = text ++ 10 ∷ []

-- A byte of a text as it is shown: a quote, a backslash, a newline, a carriage return and a tab
-- stand behind a backslash.
abbrev pub escaped : ℕ → List ℕ
escaped b =
    if nat_eq b 39 then codes "\\'"
    else if nat_eq b 92 then codes "\\\\"
    else if nat_eq b 10 then codes "\\n"
    else if nat_eq b 13 then codes "\\r"
    else if nat_eq b 9 then codes "\\t"
    else b ∷ []

abbrev pub value_text : Value → List ℕ
value_text (values.Int number) = signed_decimal number
value_text (values.Bool truth) = if truth then codes "true" else codes "false"
value_text (values.Text text) = codes "'" ++ flat_map escaped text ++ codes "'"

-- an index of the graph, by its label and its key
abbrev pub index_line : List ℕ → List ℕ → List ℕ
index_line label key =
    codes "==>" ++ value_text (values.Text label) ++ codes " " ++ value_text (values.Text key)

abbrev pub edge_text : ℕ → List ℕ → ℕ → ℕ → List ℕ
edge_text id label from to =
    codes "e[" ++ decimal id ++ codes "][" ++ decimal from ++ codes "-" ++ label ++ codes "->"
    ++ decimal to ++ codes "]"

abbrev pub item_text : Item → List ℕ
item_text (items.Vertex id) = codes "v[" ++ decimal id ++ codes "]"
item_text (items.Edge id label from to) = edge_text id label from to
item_text (items.Value value) = value_text value

-- one result of a query, and its line
abbrev pub item_line : Item → List ℕ
item_line item = codes "==>" ++ item_text item

abbrev pub result_text : Item → List ℕ
result_text item = text_line (item_line item)

-- what ends a list of results
abbrev pub end_text : List ℕ
end_text = codes "end"

abbrev pub refusal_text : Refusal → List ℕ
refusal_text refusals.LongLine = codes "error line"
refusal_text (refusals.Syntax at) = codes "error syntax " ++ decimal at
refusal_text (refusals.NameLength at) = codes "error name length " ++ decimal at
refusal_text (refusals.TimesRange at) = codes "error times range " ++ decimal at
refusal_text (refusals.StepKind at) = codes "error step kind " ++ decimal at
refusal_text (refusals.TooManySteps at) = codes "error too many steps " ++ decimal at
refusal_text (refusals.TextLength at) = codes "error text length " ++ decimal at
refusal_text refusals.ReadOnly = codes "error read only"
refusal_text refusals.Writer = codes "error writer"
refusal_text refusals.Failed = codes "error failed"
refusal_text refusals.SnapshotOpen = codes "error snapshot open"
refusal_text refusals.NoSnapshot = codes "error no snapshot"
refusal_text refusals.SnapshotEnded = codes "error snapshot ended"
refusal_text refusals.FullNodes = codes "error full nodes"
refusal_text refusals.FullNames = codes "error names full"
refusal_text refusals.TooManyProperties = codes "error properties full"
refusal_text refusals.FullProperties = codes "error full properties"
refusal_text refusals.FullStrings = codes "error full strings"
refusal_text (refusals.NumberRange at) = codes "error number range " ++ decimal at
refusal_text refusals.TransactionOpen = codes "error transaction open"
refusal_text refusals.NoTransaction = codes "error no transaction"
refusal_text refusals.FullEdges = codes "error full edges"
refusal_text (refusals.NoNode id) = codes "error no node " ++ decimal id
refusal_text (refusals.NoEdge id) = codes "error no edge " ++ decimal id
refusal_text (refusals.HasRelationships id) =
    codes "error node " ++ decimal id ++ codes " has relationships"
refusal_text refusals.TransactionFull = codes "error transaction full"
refusal_text refusals.IndexThere = codes "error index there"
refusal_text refusals.TooManyIndexes = codes "error indexes full"
refusal_text (refusals.IndexTooLarge count) = codes "error index too large " ++ decimal count
refusal_text refusals.FullIndex = codes "error full index"
refusal_text refusals.NoIndex = codes "error no index"

-- what the lines of the console call each file of the store
abbrev pub file_name : ℕ → List ℕ
file_name file =
    slice_index_or (codes "meta" ∷ codes "nodes" ∷ codes "edges" ∷ codes "groups"
    ∷ codes "properties" ∷ codes "strings" ∷ codes "names" ∷ codes "log" ∷ codes "index" ∷ [])
    file (codes "log")

-- the record of this number in the file breaks a rule of the store; for the log the number is the
-- place of an entry
abbrev pub damaged_text : ℕ → ℕ → List ℕ
damaged_text file id = codes "damaged " ++ file_name file ++ codes " " ++ decimal id

-- the line of a fault
abbrev pub fault_line : Fault → List ℕ
fault_line PastCount = text_line (codes "error count")
fault_line NoMemory = text_line (codes "error memory")
fault_line DiskFailed = text_line (codes "fault disk")
fault_line (DamagedRecord file id) = text_line (damaged_text file id)

-- what each line of a reply begins with: where the line named its session, that
abbrev pub prefix_text : Option ℕ → List ℕ
prefix_text None = []
prefix_text (Some session) = codes "@" ++ decimal session ++ codes " "

-- the text after the prefix, with a newline behind it
abbrev pub prefixed_line : List ℕ → List ℕ → List ℕ
prefixed_line prefix = λ text. prefix ++ text_line text

-- the bytes of a reply, each of whose lines begins with the prefix
abbrev pub prefixed_text : List ℕ → Reply → List ℕ
prefixed_text prefix Silent = []
prefixed_text prefix Done = prefixed_line prefix (codes "ok")
prefixed_text prefix (NodeMade id) = prefixed_line prefix (codes "node " ++ decimal id)
prefixed_text prefix (EdgeMade id) = prefixed_line prefix (codes "edge " ++ decimal id)
prefixed_text prefix (Told lines last) =
    flat_map (prefixed_line prefix) lines ++ prefixed_line prefix last
prefixed_text prefix (Faulted lines fault) =
    flat_map (prefixed_line prefix) lines ++ (prefix ++ fault_line fault)
prefixed_text prefix (Refused why) = prefixed_line prefix (refusal_text why)

-- the bytes of a reply without a prefix
abbrev pub reply_text : Reply → List ℕ
reply_text reply = prefixed_text [] reply

-- the threshold and the limit of the store
abbrev pub configuration_text : ℕ → ℕ → List ℕ
configuration_text threshold limit =
    codes "configuration " ++ decimal threshold ++ codes " " ++ decimal limit
