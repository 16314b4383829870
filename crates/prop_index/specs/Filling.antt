-- The entries that an index gets.
use Rattle.std.specs.Prelude.{◌≡◌, ℕ, ◌+◌, ◌<◌, ◌≤◌, ◌||◌, false, List, ◌++◌, AllPairs, Contains}
use Rattle.std.specs.Prelude.{length}
use Rattle.std.specs.List.{list_any}
use Rattle.rec_bytes.specs.Format as format
use Rattle.rec_bytes.specs.Space.{State, meta_of}
use Rattle.store_rules.specs.Chains.{In}
use Rattle.store_rules.specs.Indexes.{AreIndexed, Entries, Entry, first_definition, first_entry}
use Rattle.store_rules.specs.Indexes.{index_rec, is_entry}
use Rattle.store_rules.specs.Views.{Records, high}
use Rattle.prop_index.specs.Defining.{SameElsewhere}
use Rattle.prop_index.specs.Finding.{IsPair}
use Rattle.prop_index.specs.Touching.{index_keys}
use Rattle.prop_index.specs.declared.entry_row.Content.{Content}
use Rattle.prop_index.specs.declared.finding.Definition.{Definition}
use Rattle.prop_store.specs.Touching.{TouchesOnly}
use Rattle.store_rules.specs.Rules.{IsWhole}

-- the entry of a node and a hash, in the index of a pair
abbrev pub entry_for : ℕ → ℕ → Content → Entry
entry_for label key content =
    record { label = label; key = key; node = content.node; hash = content.hash }

-- besides, these of the pair
abbrev pub with_contents : Entries → ℕ → ℕ → List Content → Entries
with_contents wanted label key contents e =
    list_any (λ c. is_entry e (entry_for label key c)) contents || wanted e

-- The index of a definition has no entry, and none of the pair is wanted.
pub record IsEmptyIndex (records : Records) (wanted : Entries) (ix : AreIndexed records wanted)
    (label key : ℕ) (definition : Definition) : Type 0 where
  pub listed : In definition.id ix.definitions
  pub rec_is : definition.rec ≡ index_rec records definition.id
  pub pair : IsPair records label key definition.id
  pub empty : (b : ℕ) → b < 180 → first_entry records definition.id b ≡ format.nil
  pub unwanted : (e : Entry) → e.label ≡ label → e.key ≡ key → wanted e ≡ false

-- They are of nodes that were given out, each after the one before it.
pub record AreFillable (records : Records) (contents : List Content) : Type 0 where
  pub ascend : AllPairs (λ a b. a.node < b.node) contents
  pub low : (c : Content) → Contains contents c → c.node < high records format.nodes_file

-- The index has these entries, the definitions are what they were, and so is all else.
pub record IsFilled (s t : State) (wanted : Entries) (ix : AreIndexed s.records wanted)
    (label key : ℕ) (contents : List Content) : Type 0 where
  pub indexes : AreIndexed t.records (with_contents wanted label key contents)
  pub first : first_definition t.records ≡ first_definition s.records
  pub definitions : (e : ℕ) → In e ix.definitions → index_rec t.records e ≡ index_rec s.records e
  pub live : (meta_of t format.index_file).live
      ≡ (meta_of s format.index_file).live + length contents
  pub shape : t.shape ≡ s.shape
  pub others : SameElsewhere s.records t.records
  pub kept : IsWhole t

-- Besides these records of the index at most so many are touched, and its meta record.
pub record TouchesBeside (tells : Type 0) (known : List ℕ) (most : ℕ) (old new : State)
    : Type 0 where
  pub ids : List ℕ
  pub few : length ids ≤ most
  pub only : TouchesOnly tells old new (index_keys (known ++ ids))
