-- What the rules and the graph read of the records of a store. Each rule speaks of these alone.
use Rattle.std.specs.Prelude.{ℕ, nat_eq, nat_lt, Bool, ◌||◌, not, cond, Option, None, Some, List}
use Rattle.std.specs.Prelude.{take, drop}
use Rattle.rec_bytes.specs.declared.record.Rec.{Rec}
use Rattle.rec_bytes.specs.declared.key.Key.{Key}
use Rattle.rec_bytes.specs.Format as format
use Rattle.rec_bytes.specs.Record.{field}
use Rattle.rec_bytes.specs.Space.{meta_in}

abbrev pub Records : Type 0
Records = Key → Rec

abbrev pub key_in : ℕ → ℕ → Key
key_in file id = record { file = file; id = id }

abbrev pub rec_at : Records → ℕ → ℕ → Rec
rec_at records file x = records (key_in file x)

-- the first number in the file that was never given out
abbrev pub high : Records → ℕ → ℕ
high records file = (meta_in records file).high

-- the kind of a record, 0 where it is free or was never given out
unfoldable pub kind_in : ℕ → Rec → ℕ → ℕ
kind_in mark r x = cond (nat_lt x mark) (field 1 r format.kind) 0

abbrev pub kind_at : Records → ℕ → ℕ → ℕ
kind_at records file x = kind_in (high records file) (rec_at records file x) x

abbrev pub is_live : Records → ℕ → ℕ → Bool
is_live records file x = not (nat_eq (kind_at records file x) 0)

-- a node in use, but for its links and its degree
pub record NodeRow : Type 0 where
  pub id : ℕ
  pub label : ℕ
  pub property : ℕ

-- a relationship in use, but for its links
pub record RelRow : Type 0 where
  pub id : ℕ
  pub label : ℕ
  pub from : ℕ
  pub to : ℕ
  pub property : ℕ

-- a group in use, but for its links
pub record GroupRow : Type 0 where
  pub id : ℕ
  pub label : ℕ
  pub owner : ℕ

-- the kind is one of groups
abbrev pub is_group_kind : ℕ → Bool
is_group_kind kind = nat_eq kind format.grouped || nat_eq kind format.counted

abbrev pub node_in : Rec → ℕ → NodeRow
node_in r x = record {
  id = x;
  label = field 4 r format.node_label;
  property = field 4 r format.node_first_property;
}

abbrev pub rel_in : Rec → ℕ → RelRow
rel_in r x = record {
  id = x;
  label = field 4 r format.relationship_type;
  from = field 4 r format.relationship_source;
  to = field 4 r format.relationship_target;
  property = field 4 r format.relationship_first_property;
}

abbrev pub group_in : Rec → ℕ → GroupRow
group_in r x = record {
  id = x;
  label = field 4 r format.group_type;
  owner = field 4 r format.group_owner;
}

-- the row of a record in use
abbrev pub row_if : {E : Type 0} → ℕ → E → Option E
row_if kind row = cond (nat_eq kind 0) None (Some row)

abbrev pub node_at : Records → ℕ → Option NodeRow
node_at records x =
    row_if (kind_at records format.nodes_file x) (node_in (rec_at records format.nodes_file x) x)

abbrev pub rel_at : Records → ℕ → Option RelRow
rel_at records x =
    row_if (kind_at records format.relationships_file x)
    (rel_in (rec_at records format.relationships_file x) x)

abbrev pub group_at : Records → ℕ → Option GroupRow
group_at records x =
    row_if (kind_at records format.groups_file x) (group_in (rec_at records format.groups_file x) x)

-- the relationship leaves the node or enters it
abbrev pub is_at : ℕ → RelRow → Bool
is_at n row = nat_eq row.from n || nat_eq row.to n

-- the first link and the degree of a node
abbrev pub first_link : Records → ℕ → ℕ
first_link records n = field 4 (rec_at records format.nodes_file n) format.node_first_link

abbrev pub degree : Records → ℕ → ℕ
degree records n = field 4 (rec_at records format.nodes_file n) format.node_degree

-- the text of a name
abbrev pub text_of : Rec → List ℕ
text_of r = take (field 1 r format.name_length) (drop format.name_text r.bytes)
