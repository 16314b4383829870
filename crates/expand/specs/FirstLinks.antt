-- The chains of a dense node's groups in which a relationship stands that is met.
use Rattle.std.specs.Prelude.{ℕ, nat_eq, if◌then◌else◌, Bool, not, ◌&&◌, List, [], ◌∷◌, ◌++◌, map}
use Rattle.std.specs.List.{list_any}
use Rattle.plain_graph.specs.declared.direction.Direction.{Direction}
use Rattle.plain_graph.specs.declared.direction.Direction.TheVariants as directions
use Rattle.rel_store.specs.declared.edge_row.EdgeRow.{EdgeRow}
use Rattle.group_store.specs.declared.group_row.GroupRow.{GroupRow}
use Rattle.group_store.specs.declared.side.Side.{Side}
use Rattle.group_store.specs.declared.side.Side.TheVariants.{Out, In, Loop}
use Rattle.expand.specs.declared.first_links.FirstLink.{FirstLink}
use Rattle.expand.specs.Matching.{is_wanted}

-- the sides on which a relationship stands that is met in a direction
abbrev pub sides_of : Direction → List Side
sides_of directions.Outgoing = Out ∷ Loop ∷ []
sides_of directions.Incoming = In ∷ Loop ∷ []
sides_of directions.Both = Out ∷ In ∷ Loop ∷ []

-- the first link of a group's chain
abbrev pub first_on : GroupRow → Side → ℕ
first_on group Out = group.first_out
first_on group In = group.first_in
first_on group Loop = group.first_loop

-- the same, with the group and the side
abbrev pub link_on : GroupRow → Side → FirstLink
link_on group side =
    record { group = group.id; label = group.label; side = side; first = first_on group side }

-- those of the chains of one group
abbrev pub links_of : Direction → GroupRow → List FirstLink
links_of direction group = map (link_on group) (sides_of direction)

-- those of the groups of these types
abbrev pub first_links : Direction → List ℕ → List GroupRow → List FirstLink
first_links direction labels [] = []
first_links direction labels (group ∷ groups) =
    (if is_wanted labels group.label then links_of direction group else [])
    ++ first_links direction labels groups

-- the links themselves
abbrev pub numbers_of : List FirstLink → List ℕ
numbers_of links = map (λ (link : FirstLink). link.first) links

abbrev pub first_numbers : Direction → List ℕ → List GroupRow → List ℕ
first_numbers direction labels groups = numbers_of (first_links direction labels groups)

-- the relationship is on this side of the node
abbrev pub is_on : Side → ℕ → EdgeRow → Bool
is_on Out node row = nat_eq row.from node && not (nat_eq row.to node)
is_on In node row = not (nat_eq row.from node) && nat_eq row.to node
is_on Loop node row = nat_eq row.from node && nat_eq row.to node

-- it belongs into the chain, by its type and its side
abbrev pub belongs : FirstLink → ℕ → EdgeRow → Bool
belongs link node row = nat_eq row.label link.label && is_on link.side node row

-- the links are in two groups of one type
abbrev pub are_twins : FirstLink → FirstLink → Bool
are_twins link other =
    nat_eq other.label link.label && not (nat_eq other.group link.group)

abbrev pub have_twins : List FirstLink → Bool
have_twins links = list_any (λ (link : FirstLink). list_any (are_twins link) links) links
