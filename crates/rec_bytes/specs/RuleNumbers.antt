-- The numbers of the rules of a store. The code's constants are these; `proofs/Format.antt` says
-- so.
use Rattle.std.specs.Prelude.{ℕ}

-- The record has a form that the format doesn't know.
abbrev pub form_rule : ℕ
form_rule = 0

-- A number of the record is out of its range.
abbrev pub range_rule : ℕ
range_rule = 1

-- The numbers of a file fall apart otherwise than its meta record says.
abbrev pub split_rule : ℕ
split_rule = 2

-- A chain of relationships is broken.
abbrev pub chain_rule : ℕ
chain_rule = 3

-- The groups of a dense node don't fit its relationships.
abbrev pub group_rule : ℕ
group_rule = 4

-- A list of properties, a text or a label is broken.
abbrev pub property_rule : ℕ
property_rule = 5

-- The names are not in order, or one stands twice.
abbrev pub name_rule : ℕ
name_rule = 6

-- A node's degree, or whether it is dense, is wrong.
abbrev pub degree_rule : ℕ
degree_rule = 7

-- The index doesn't fit the nodes.
abbrev pub index_rule : ℕ
index_rule = 8
