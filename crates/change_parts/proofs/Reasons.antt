-- Why the names and the properties of a line are refused, and when they aren't.
use Rattle.std.specs.FinMap as maps
use Rattle.std.proofs.Common.{ℕ, ◌+◌, ◌<◌, ◌≤◌, List, [], ◌∷◌, length, ap, inl, inr, arith, refl}
use Rattle.plain_graph.specs.Graph.{Graph, UsesNames, block_count, property_count}
use Rattle.plain_graph.specs.Properties.{Properties, blocks_in, keys_in, no_properties, with_pairs}
use Rattle.plain_graph.specs.Refusals.{FirstReason, NoReason, Reason, has_too_many, index_full, index_too_large, lacks_names, lacks_room, most_names}
use Rattle.plain_graph.specs.declared.command.Command.{Command}
use Rattle.plain_graph.specs.declared.command.Command.TheVariants as commands
use Rattle.plain_graph.specs.declared.pairs.Pair.{Pair}
use Rattle.plain_graph.specs.declared.refusal.Refusal.{Refusal}
use Rattle.plain_graph.specs.declared.refusal.Refusal.TheVariants as refusals
use Rattle.change_parts.specs.Assigning.{LacksNames}
use Rattle.change_parts.specs.Change.{IsRefusedBy}
use Rattle.change_parts.specs.ChangeFault.{IsOutside}
use Rattle.change_parts.specs.Preparing.{line_reasons}
use Rattle.change_parts.specs.declared.change_fault.ChangeFault.{ChangeFault}
use Rattle.change_parts.specs.declared.change_fault.ChangeFault.TheVariants.{NoNode, NoEdge, HasRelationships, IndexThere}
use Rattle.change_parts.specs.declared.change_fault.ChangeFault.TheVariants.{TooManyIndexes, IndexTooLarge, Full}
use Rattle.change_parts.specs.declared.change_fault.ChangeFault.TheVariants.{NamesFull, PropsFull, Memory, Disk, Damaged}
use Rattle.change_parts.proofs.LineNames.{uses_once}

-- the reasons that an index gives, after those of the names and the properties
abbrev pub index_reasons : List Reason
index_reasons = index_too_large ∷ index_full ∷ []

-- nothing is refused so
abbrev pub None : (Refusal → Type 0) → Type 0
None reason = (other : Refusal) → ¬ reason other

-- names that fit are no reason
pub names_fit : (graph : Graph) (line new : List (List ℕ)) → UsesNames graph.names line new → length new ≤ most_names → None (lacks_names graph line)
names_fit graph line new uses few other lacks = let n = ap length (uses_once graph.names line new lacks.0 uses lacks.1) in let many = lacks.2 in
    absurd (omega arith)

pub few_fit : (properties : Properties) → maps.len properties ≤ 32 → None (has_too_many properties)
few_fit properties few other many = let lt = many.0 in absurd (omega arith)

pub room_fits : (limit count : ℕ) (full : Refusal) → count ≤ limit → None (lacks_room limit count full)
room_fits limit count full le other lacks = let lt = lacks.0 in absurd (omega arith)

-- ---- the reasons of a line
module _ (limit : ℕ) (graph : Graph) (label : List ℕ) (pairs : List Pair) where
  abbrev properties : Properties
  properties = with_pairs no_properties pairs

  abbrev line : List (List ℕ)
  line = label ∷ keys_in pairs

  pub line_free : None (lacks_names graph line) → None (has_too_many properties)
      → None (lacks_room limit (property_count graph + maps.len properties) refusals.FullProperties)
      → None (lacks_room limit (block_count graph + blocks_in properties) refusals.FullStrings) → NoReason line_reasons limit graph (commands.Node label pairs)
  line_free names few properties_fit blocks_fit = (names, (few, (properties_fit, (blocks_fit, tt))))

  pub names_refused : LacksNames graph.names line → FirstReason line_reasons limit graph (commands.Node label pairs) refusals.FullNames
  names_refused lacks = inl (lacks.0, lacks.1, lacks.2, refl)

  pub many_refused : None (lacks_names graph line) → 32 < maps.len properties
      → FirstReason line_reasons limit graph (commands.Node label pairs) refusals.TooManyProperties
  many_refused names many = inr (names, inl (many, refl))

  pub properties_refused : None (lacks_names graph line) → maps.len properties ≤ 32 → limit < property_count graph + maps.len properties
      → FirstReason line_reasons limit graph (commands.Node label pairs) refusals.FullProperties
  properties_refused names few full = inr (names, inr (few_fit properties few, inl (full, refl)))

  pub strings_refused : None (lacks_names graph line) → maps.len properties ≤ 32 → property_count graph + maps.len properties ≤ limit
      → limit < block_count graph + blocks_in properties
      → FirstReason line_reasons limit graph (commands.Node label pairs) refusals.FullStrings
  strings_refused names few fits full = inr (
    names,
    inr (
      few_fit properties few,
      inr (
        room_fits limit (property_count graph + maps.len properties)
            refusals.FullProperties fits,
        inl (full, refl),
      ),
    ),
  )

-- ---- more reasons
-- what refuses by some reasons refuses by others, where each first one does
pub refused_more : (some all : List Reason) (limit : ℕ) (graph : Graph) (command other : Command)
    → ((why : Refusal) → FirstReason some limit graph command why → FirstReason all limit graph other why) → (fault : ChangeFault)
    → IsRefusedBy some limit graph command fault → IsRefusedBy all limit graph other fault
refused_more some all limit graph command other more (NoNode id) why = more (refusals.NoNode id) why
refused_more some all limit graph command other more (NoEdge id) why = more (refusals.NoEdge id) why
refused_more some all limit graph command other more (HasRelationships id degree) why = more (refusals.HasRelationships id) why
refused_more some all limit graph command other more IndexThere why = more refusals.IndexThere why
refused_more some all limit graph command other more TooManyIndexes why = more refusals.TooManyIndexes why
refused_more some all limit graph command other more (IndexTooLarge count) why = more (refusals.IndexTooLarge count) why
refused_more some all limit graph command other more (Full file live) why = (why.0, more _ why.1)
refused_more some all limit graph command other more (NamesFull count) why = more refusals.FullNames why
refused_more some all limit graph command other more (PropsFull count) why = more refusals.TooManyProperties why
refused_more some all limit graph command other more Memory why = tt
refused_more some all limit graph command other more Disk why = tt
refused_more some all limit graph command other more (Damaged damage) why = absurd why

-- a failure of the machine refuses anything
pub outside_refused : (reasons : List Reason) (limit : ℕ) (graph : Graph) (command : Command) (fault : ChangeFault) → IsOutside fault
    → IsRefusedBy reasons limit graph command fault
outside_refused reasons limit graph command (NoNode id) out = absurd out
outside_refused reasons limit graph command (NoEdge id) out = absurd out
outside_refused reasons limit graph command (HasRelationships id degree) out = absurd out
outside_refused reasons limit graph command IndexThere out = absurd out
outside_refused reasons limit graph command TooManyIndexes out = absurd out
outside_refused reasons limit graph command (IndexTooLarge count) out = absurd out
outside_refused reasons limit graph command (Full file live) out = absurd out
outside_refused reasons limit graph command (NamesFull count) out = absurd out
outside_refused reasons limit graph command (PropsFull count) out = absurd out
outside_refused reasons limit graph command Memory out = tt
outside_refused reasons limit graph command Disk out = tt
outside_refused reasons limit graph command (Damaged damage) out = absurd out
