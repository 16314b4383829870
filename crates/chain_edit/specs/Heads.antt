-- Heads of chains.
use Rattle.std.specs.Prelude.{◌≡◌, ◌≢◌, ◌+◌, ◌%◌, ◌≤◌}
use Rattle.rec_bytes.specs.Format as format
use Rattle.rec_bytes.specs.Key.{IsKey}
use Rattle.store_rules.specs.Rules as rules
use Rattle.chain_edit.specs.declared.head.Head.{Head}

-- the head as the rules know it
abbrev pub head_of : Head → rules.Head
head_of head = record { key = head.key; field = head.field }

-- the place of one of the sixteen numbers of a record that is no relationship
pub record IsPlace (head : rules.Head) : Type 0 where
  pub elsewhere : head.key.file ≢ format.relationships_file
  pub whole : head.field % 4 ≡ 0
  pub fits : head.field + 4 ≤ format.record_bytes

-- a place in a record that a store can have
pub record IsHead (head : rules.Head) : Type 0 where
  pub key : IsKey head.key
  pub place : IsPlace head
