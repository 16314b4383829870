-- Places of links to properties.
use Rattle.std.specs.Prelude.{◌≡◌, ◌⊎◌, ℕ, ◌+◌, ◌<◌, ◌≤◌, true, List, [], ◌∷◌}
use Rattle.rec_bytes.specs.Format as format
use Rattle.rec_bytes.specs.Key.{IsKey}
use Rattle.rec_bytes.specs.RecordFiles.{is_meta_file}
use Rattle.store_rules.specs.Properties.{Property}
use Rattle.store_rules.specs.Views.{key_in}
use Rattle.prop_store.specs.declared.link.Link.{Link}
use Rattle.prop_store.specs.declared.owner.Owner.{Owner}

-- the link to an element's first property, and the one to the property after one
abbrev pub link_of : Owner → Link
link_of owner = record { key = owner.key; field = owner.field }

abbrev pub next_link : ℕ → Link
next_link id = record { key = key_in format.properties_file id; field = format.property_next }

-- the link to what comes after some properties, where this one leads to the first of them
abbrev pub link_after : Link → List Property → Link
link_after link [] = link
link_after link (e ∷ es) = link_after (next_link e.id) es

-- the place of a number behind the kind of a record that a store can have, and no meta record
pub record IsLink (link : Link) : Type 0 where
  pub key : IsKey link.key
  pub own : is_meta_file link.key.file ≡ true
  pub behind : 0 < link.field
  pub place : link.field + 4 ≤ format.record_bytes

-- it stands in the element's record, or in one of a property
abbrev pub IsLinkOf : Owner → Link → Type 0
IsLinkOf owner link = (link.key ≡ owner.key) ⊎ (link.key.file ≡ format.properties_file)
