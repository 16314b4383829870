-- What is at hand before the record of a new element is written.
use Rattle.std.specs.FinMap as maps
use Rattle.std.specs.Prelude.{slice_get}
use Rattle.std.proofs.Common.{◌≡◌, ℕ, ◌+◌, ◌-◌, ◌≤◌, Some, List, [], ◌∷◌, ◌++◌, length, sym, ap, ◌∙◌, subst, ⊎_elim, arith}
use Rattle.std.proofs.lemmas.List.{get_or_append_left, length-append}
use Rattle.std.proofs.lemmas.Option.{get_or_from_slice_get, slice_get-get_or, slice_get_within}
use Rattle.plain_graph.specs.Graph.{UsesName, UsesNames, block_count, property_count}
use Rattle.plain_graph.specs.Properties.{blocks_in, keys_in, no_properties, with_pairs}
use Rattle.plain_graph.specs.Refusals.{lacks_names, most_names}
use Rattle.plain_graph.specs.declared.command.Command.TheVariants as commands
use Rattle.plain_graph.specs.declared.pairs.Pair.{Pair}
use Rattle.rec_bytes.specs.declared.shape.Shape.{Shape}
use Rattle.rec_bytes.specs.Format as format
use Rattle.rec_bytes.specs.Space.{State, meta_of}
use Rattle.store_rules.proofs.PropertyCounts.{count_blocks, count_properties}
use Rattle.name_store.specs.Interning.{IsFullFault}
use Rattle.name_store.specs.declared.intern_fault.InternFault.{InternFault}
use Rattle.name_store.specs.declared.intern_fault.InternFault.TheVariants as intern
use Rattle.change_parts.specs.Assigning.{AreAssigned, HasPropertyRoom, IsAssignFault, IsReserveFault, LacksNames, assigned_blocks}
use Rattle.change_parts.specs.Change.{IsRefusedBy}
use Rattle.change_parts.specs.ChangeFault.{of_intern}
use Rattle.change_parts.specs.Preparing.{IsPrepared, line_reasons}
use Rattle.change_parts.specs.Rooms.{HasRoom, LacksRoom}
use Rattle.change_parts.specs.Store.{IsMidway, KeepsElements}
use Rattle.change_parts.specs.declared.assigning.Assignment.{Assignment}
use Rattle.change_parts.specs.declared.change_fault.ChangeFault.{ChangeFault}
use Rattle.change_parts.specs.declared.change_fault.ChangeFault.TheVariants.{NoNode, NoEdge, HasRelationships, IndexThere}
use Rattle.change_parts.specs.declared.change_fault.ChangeFault.TheVariants.{TooManyIndexes, IndexTooLarge, Full}
use Rattle.change_parts.specs.declared.change_fault.ChangeFault.TheVariants.{NamesFull, PropsFull, Memory, Disk, Damaged}
use Rattle.change_parts.specs.declared.preparing.Prepared.{Prepared}
use Rattle.change_parts.proofs.Assigned.{blocks-assigned, length-assigned}
use Rattle.change_parts.proofs.LineNames.{first_lacks}
use Rattle.change_parts.proofs.Reasons.{None, few_fit, line_free, many_refused, names_fit, names_refused, properties_refused, room_fits, strings_refused}
use Rattle.store_rules.specs.Graph.{graph_in}

-- a name keeps its number where others come
pub slice_get-more : (names rest : List (List ℕ)) (id : ℕ) (text : List ℕ) → slice_get names id ≡ Some text → slice_get (names ++ rest) id ≡ Some text
slice_get-more names rest id text at =
    let low = slice_get_within names id text at in
    slice_get-get_or (names ++ rest) id [] (omega (arith, length-append names rest))
    ∙ ap Some (get_or_append_left names rest [] id low ∙ get_or_from_slice_get names id text [] at)

-- ---- the label has no number
pub label_refused : (s : State) (names : List (List ℕ)) (label : List ℕ) (pairs : List Pair) → IsMidway s names → (fault : InternFault)
    → IsFullFault names label fault → IsRefusedBy line_reasons s.shape.limit (graph_in s) (commands.Node label pairs) (of_intern fault)
label_refused s names label pairs store (intern.NamesFull count) why =
    names_refused s.shape.limit (graph_in s) label pairs (subst (λ n. LacksNames n (label ∷ keys_in pairs)) store.names (first_lacks names label (keys_in pairs)
    why.all why.new))
label_refused s names label pairs store intern.Memory why = tt
label_refused s names label pairs store intern.Disk why = tt

-- ---- the label has one
module _ (s : State) (a b : List (List ℕ)) (label : List ℕ) (pairs : List Pair) (store : IsMidway s a) (uses : UsesName a label b) where
  abbrev line : List (List ℕ)
  line = label ∷ keys_in pairs

  -- the names of the line, and those of the graph
  line_uses : (c : List (List ℕ)) → UsesNames b (keys_in pairs) c → UsesNames (graph_in s).names line c
  line_uses c later = subst (λ n. UsesNames n line c) store.names (b, uses, later)

  line_fits : (c : List (List ℕ)) → UsesNames b (keys_in pairs) c → length c ≤ most_names → None (lacks_names (graph_in s) line)
  line_fits c later few = names_fit (graph_in s) line c (line_uses c later) few

  pub assign_refused_by : (fault : ChangeFault) → IsAssignFault b pairs fault
      → IsRefusedBy line_reasons s.shape.limit (graph_in s) (commands.Node label pairs) fault
  assign_refused_by (NoNode id) why = absurd why
  assign_refused_by (NoEdge id) why = absurd why
  assign_refused_by (HasRelationships id degree) why = absurd why
  assign_refused_by IndexThere why = absurd why
  assign_refused_by TooManyIndexes why = absurd why
  assign_refused_by (IndexTooLarge count) why = absurd why
  assign_refused_by (Full file live) why = absurd why
  assign_refused_by (NamesFull count) why = names_refused s.shape.limit (graph_in s) label pairs (why.0, line_uses why.0 why.1, why.2)
  assign_refused_by (PropsFull count) why = many_refused s.shape.limit (graph_in s) label pairs (line_fits why.0 why.1 why.2) why.3
  assign_refused_by Memory why = tt
  assign_refused_by Disk why = tt
  assign_refused_by (Damaged damage) why = absurd why

  module _ (u : State) (c : List (List ℕ)) (xs : List Assignment) (later : UsesNames b (keys_in pairs) c) (kept : KeepsElements s u c)
      (are : AreAssigned c pairs xs) (few : length xs ≤ 32) (names_few : length c ≤ most_names) where
    -- the counts of the store are those of the graph before
    live_properties : (meta_of u format.properties_file).live ≡ property_count (graph_in s)
    live_properties = count_properties u.records u.shape kept.store.store
        ∙ (λ i. property_count (record { nodes = kept.nodes i; edges = kept.edges i; names = (graph_in s).names; indexes = (graph_in s).indexes }))

    live_blocks : (meta_of u format.strings_file).live ≡ block_count (graph_in s)
    live_blocks = count_blocks u.records u.shape kept.store.store ∙ (λ i. block_count (record {
      nodes = kept.nodes i;
      edges = kept.edges i;
      names =
          (graph_in s).names;
      indexes = (graph_in s).indexes;
    }))

    limit_is : u.shape.limit ≡ s.shape.limit
    limit_is = ap (λ (h : Shape). h.limit) kept.shape

    few_properties : maps.len (with_pairs no_properties pairs) ≤ 32
    few_properties = let n = length-assigned c pairs xs are in omega arith

    pub reserve_refused : (fault : ChangeFault) → IsReserveFault u (length xs) (assigned_blocks pairs xs) fault
        → IsRefusedBy line_reasons s.shape.limit (graph_in s) (commands.Node label pairs) fault
    reserve_refused fault why =
        let live = live_properties in
        let blocks = live_blocks in
        let limit = limit_is in
        let n = length-assigned c pairs xs are in
        let m = blocks-assigned c pairs xs are in
        ⊎_elim
        (λ (k : LacksRoom u format.properties_file (length xs) fault). subst (IsRefusedBy line_reasons s.shape.limit (graph_in s) (commands.Node label pairs))
        (sym k.is) (
          λ e. omega arith,
          properties_refused s.shape.limit (graph_in s) label pairs (line_fits c later names_few) few_properties
              (let lt = k.lacks in omega arith),
        ))
        (λ (k : HasRoom u format.properties_file (length xs) × LacksRoom u format.strings_file (assigned_blocks pairs xs) fault). subst
        (IsRefusedBy line_reasons s.shape.limit (graph_in s) (commands.Node label pairs)) (sym k.1.is) (
          λ e. omega arith,
          strings_refused s.shape.limit (graph_in s) label pairs (line_fits c later names_few) few_properties
              (let le = k.0 in omega arith) (let lt = k.1.lacks in omega arith),
        )) why

    pub prepared_is : (prepared : Prepared) → prepared.assigned.items ≡ xs → slice_get c prepared.label ≡ Some label
        → HasPropertyRoom u (length xs) (assigned_blocks pairs xs)
        → prepared.weight ≡ length xs + assigned_blocks pairs xs + (length c - length a) → IsPrepared s u c label pairs prepared
    prepared_is prepared same at room weighs = record {
      kept = kept;
      label_is = at;
      assigned = subst (AreAssigned c pairs) (sym same) are;
      room = subst (λ l. HasPropertyRoom u (length l) (assigned_blocks pairs l)) (sym same) room;
      uses = line_uses c later;
      weighs =
          let n = length-assigned c pairs xs are in
          let m = blocks-assigned c pairs xs are in
          let k = ap length store.names in
          omega arith;
      free =
          let live = live_properties in
          let blocks = live_blocks in
          let limit = limit_is in
          let n = length-assigned c pairs xs are in
          let m = blocks-assigned c pairs xs are in
          let p = room.properties in
          let q = room.blocks in
          line_free s.shape.limit (graph_in s) label pairs (line_fits c later names_few) (few_fit (with_pairs no_properties pairs) few_properties)
          (room_fits s.shape.limit (property_count (graph_in s) + maps.len (with_pairs no_properties pairs)) _ (omega arith))
          (room_fits s.shape.limit (block_count (graph_in s) + blocks_in (with_pairs no_properties pairs)) _ (omega arith));
    }
