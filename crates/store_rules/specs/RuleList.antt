-- The rules of a well-formed store by name: what each says, which files it reads, and all but some.
use Rattle.std.specs.Prelude.{◌≡◌, ℕ, Bool, true, false, List}
use Rattle.std.specs.Prelude.{[], ◌∷◌}
use Rattle.rec_bytes.specs.declared.shape.Shape.{Shape}
use Rattle.rec_bytes.specs.Format as format
use Rattle.rec_bytes.specs.RecordFiles.{is_meta_file, meta_key_of}
use Rattle.store_rules.specs.Indexes.{AreIndexed, wanted_in}
use Rattle.store_rules.specs.Ranges.{AreInRange, is_reused}
use Rattle.store_rules.specs.Rules.{AreAllLive, IsSplit, KeepsCounts, KeepsDefinitions}
use Rattle.store_rules.specs.Rules.{KeepsDegrees, KeepsGroups, KeepsLabels, KeepsLinks, KeepsNames}
use Rattle.store_rules.specs.Rules.{KeepsProperties}
use Rattle.store_rules.specs.Views.{Records, is_live, rec_at}

-- A rule, by its name. The second is one for each file.
pub data Rule : Type 0 where
  Ranges : Rule
  Split : ℕ → Rule
  Linked : Rule
  Grouped : Rule
  Counts : Rule
  Properties : Rule
  Labels : Rule
  Defined : Rule
  Names : Rule
  Degrees : Rule
  Indexed : Rule

-- What may be otherwise in the middle of a change: so many relationships a sparse node may have,
-- and these groups may be empty.
pub record Slack : Type 0 where
  pub most : ℕ
  pub empty : List ℕ

-- the second rule of one file
pub record IsSplitFile (records : Records) (file : ℕ) : Type 0 where
  pub split : is_reused file ≡ true
      → (free : List ℕ) × IsSplit records file (is_live records file) free
  pub kept : is_meta_file file ≡ true → is_reused file ≡ false → AreAllLive records file

-- what a rule says
abbrev pub holds : Rule → Records → Shape → Slack → Type 0
holds Ranges records shape slack = AreInRange records shape
holds (Split file) records shape slack = IsSplitFile records file
holds Linked records shape slack = KeepsLinks records
holds Grouped records shape slack = KeepsGroups records slack.empty
holds Counts records shape slack = KeepsCounts records
holds Properties records shape slack = KeepsProperties records
holds Labels records shape slack = KeepsLabels records
holds Defined records shape slack = KeepsDefinitions records
holds Names records shape slack = KeepsNames records
holds Degrees records shape slack = KeepsDegrees records slack.most
holds Indexed records shape slack = AreIndexed records (wanted_in records)

-- the rules that pass the test
abbrev pub KeepsThose : (Rule → Bool) → Records → Shape → Slack → Type 0
KeepsThose those records shape slack =
    (rule : Rule) → those rule ≡ true → holds rule records shape slack

-- all but the eighth, as `KeepsRules` says them
abbrev pub but_index : Rule → Bool
but_index Ranges = true
but_index (Split file) = true
but_index Linked = true
but_index Grouped = true
but_index Counts = true
but_index Properties = true
but_index Labels = true
but_index Defined = true
but_index Names = true
but_index Degrees = true
but_index Indexed = false

-- ---- what a rule reads

-- The file has the same records, its meta record too.
pub record IsSameFile (s t : Records) (file : ℕ) : Type 0 where
  pub records : rec_at t file ≡ rec_at s file
  pub meta : t (meta_key_of file) ≡ s (meta_key_of file)

-- the files that a rule reads, each with its meta record
abbrev pub reads : Rule → List ℕ
reads Ranges = []
reads (Split file) = file ∷ []
reads Linked = format.nodes_file ∷ format.relationships_file ∷ format.groups_file ∷ []
reads Grouped = format.nodes_file ∷ format.groups_file ∷ []
reads Counts = format.groups_file ∷ format.relationships_file ∷ []
reads Properties =
    format.nodes_file ∷ format.relationships_file ∷ format.properties_file ∷ format.strings_file
    ∷ format.names_file ∷ []
reads Labels = format.nodes_file ∷ format.relationships_file ∷ format.names_file ∷ []
reads Defined = format.index_file ∷ format.names_file ∷ []
reads Names = format.names_file ∷ []
reads Degrees = format.nodes_file ∷ format.relationships_file ∷ []
reads Indexed =
    format.nodes_file ∷ format.properties_file ∷ format.strings_file ∷ format.index_file ∷ []

-- it reads what it says of the files that it names alone, and not of all of them as the first rule
abbrev pub is_local : Rule → Bool
is_local Ranges = false
is_local (Split file) = true
is_local Linked = true
is_local Grouped = true
is_local Counts = true
is_local Properties = true
is_local Labels = true
is_local Defined = true
is_local Names = true
is_local Degrees = true
is_local Indexed = true

abbrev pub AreSame : Records → Records → List ℕ → Type 0
AreSame s t [] = Unit {0}
AreSame s t (file ∷ files) = IsSameFile s t file × AreSame s t files
