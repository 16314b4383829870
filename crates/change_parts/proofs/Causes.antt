-- Why a change is refused over any records.
use Rattle.std.specs.FinMap as maps
use Rattle.std.specs.Prelude.{slice_get}
use Rattle.std.proofs.Common.{◌≡◌, ◌≤◌, ◌<◌, ℕ, List, [], length, Some, sym, ap, ◌∙◌, subst, ⊎_elim, inl, inr, arith, refl}
use Rattle.plain_graph.specs.Graph.{UsesName}
use Rattle.plain_graph.specs.Properties.{blocks_in, blocks_of, keys_in, no_properties, with_pairs}
use Rattle.plain_graph.specs.declared.command.Command.{Command}
use Rattle.plain_graph.specs.declared.command.Command.TheVariants as commands
use Rattle.plain_graph.specs.declared.command.Target.{Target}
use Rattle.plain_graph.specs.declared.command.Target.TheVariants as targets
use Rattle.plain_graph.specs.declared.pairs.Pair.{Pair}
use Rattle.plain_graph.specs.declared.value.Value.{Value}
use Rattle.prop_store.specs.Finding.{IsCrowded, LacksMet, property_of}
use Rattle.prop_store.specs.Reading.{properties_met}
use Rattle.prop_store.specs.SetFault.{IsSetCause}
use Rattle.prop_store.specs.Setting.{SetBlamesBroken}
use Rattle.prop_store.specs.declared.set_fault.SetFault.{SetFault}
use Rattle.prop_store.specs.declared.set_fault.SetFault.TheVariants as sets
use Rattle.rec_bytes.specs.declared.damage.Damage.{Damage}
use Rattle.rec_bytes.specs.declared.meta.Meta.{Meta}
use Rattle.rec_bytes.specs.declared.row_fault.RowFault.{RowFault}
use Rattle.rec_bytes.specs.declared.row_fault.RowFault.TheVariants as row
use Rattle.rec_bytes.specs.declared.shape.Shape.{Shape}
use Rattle.rec_bytes.specs.Format as format
use Rattle.rec_bytes.specs.RecordFiles.{room_of}
use Rattle.rec_bytes.specs.Space.{SameButReads, State, meta_of}
use Rattle.store_rules.specs.Properties.{Property}
use Rattle.store_rules.specs.Views.{Records}
use Rattle.name_store.specs.Interning.{IsFullFault}
use Rattle.name_store.specs.declared.intern_fault.InternFault.{InternFault}
use Rattle.name_store.specs.declared.intern_fault.InternFault.TheVariants as intern
use Rattle.node_store.specs.Loading as nodes
use Rattle.rel_store.specs.Loading as rels
use Rattle.change_parts.specs.Assigning.{IsAssignCount, IsAssignFault, IsPutCause, IsReserveFault}
use Rattle.change_parts.specs.Causes.{AsksEdge, AsksNode, AsksRecord, AsksRoom, IsCaused, NeedsAny}
use Rattle.id_freelist.specs.TakeFault as takes
use Rattle.id_freelist.specs.declared.take_fault.TakeFault.{TakeFault}
use Rattle.id_freelist.specs.declared.take_fault.TakeFault.TheVariants as take
use Rattle.change_parts.specs.ChangeFault.{IsFailure, of_intern, of_row, of_set, of_take}
use Rattle.change_parts.specs.Damage.{BlamesBroken, IfBlames, IsBroken}
use Rattle.change_parts.specs.Owners.{IsAbsent, owner_of}
use Rattle.change_parts.specs.Preparing.{IsLineCause, NeedForPairs}
use Rattle.change_parts.specs.Rooms.{HasRoom, KeepsElementMetas, LacksRoom}
use Rattle.change_parts.specs.declared.change_fault.ChangeFault.{ChangeFault}
use Rattle.change_parts.specs.declared.change_fault.ChangeFault.TheVariants.{NoNode, NoEdge, HasRelationships, IndexThere, TooManyIndexes, IndexTooLarge, Full}
use Rattle.change_parts.specs.declared.change_fault.ChangeFault.TheVariants.{NamesFull, PropsFull, Memory, Disk, Damaged}
use Rattle.change_parts.proofs.Broken.{blames_more, node_broken, rel_broken}
use Rattle.change_parts.proofs.LineNames.{first_lacks}

-- ---- elements that aren't there

pub node_absent : (s : State) (target : Target) (id : ℕ) (fault : RowFault) → nodes.IsNodeFault s id fault → IsAbsent s target (of_row fault)
node_absent s target id row.Disk told = tt
node_absent s target id (row.Damaged damage) told = node_broken s id (row.Damaged damage) told

pub edge_absent : (s : State) (target : Target) (id : ℕ) (fault : RowFault) → rels.IsRelFault s id fault → IsAbsent s target (of_row fault)
edge_absent s target id row.Disk told = tt
edge_absent s target id (row.Damaged damage) told = rel_broken s id (row.Damaged damage) told

module _ (command : Command) (s t : State) (names now : List (List ℕ)) where
  pub absent_caused : (target : Target) → ((id : ℕ) → target ≡ targets.Node id → AsksNode command id)
      → ((id : ℕ) → target ≡ targets.Edge id → AsksEdge command id) → (fault : ChangeFault) → IsAbsent s target fault → IsCaused command s t names now fault
  absent_caused target asks_node asks_edge (NoNode id) why = (asks_node id why.0, why.1)
  absent_caused target asks_node asks_edge (NoEdge id) why = (asks_edge id why.0, why.1)
  absent_caused target asks_node asks_edge (HasRelationships id degree) why = absurd why
  absent_caused target asks_node asks_edge IndexThere why = absurd why
  absent_caused target asks_node asks_edge TooManyIndexes why = absurd why
  absent_caused target asks_node asks_edge (IndexTooLarge count) why = absurd why
  absent_caused target asks_node asks_edge (Full file live) why = absurd why
  absent_caused target asks_node asks_edge (NamesFull count) why = absurd why
  absent_caused target asks_node asks_edge (PropsFull count) why = absurd why
  absent_caused target asks_node asks_edge Memory why = tt
  absent_caused target asks_node asks_edge Disk why = tt
  absent_caused target asks_node asks_edge (Damaged damage) why = tt

  -- ---- failures

  pub failure_caused : (fault : ChangeFault) → IsFailure fault → IsCaused command s t names now fault
  failure_caused (NoNode id) fails = absurd fails
  failure_caused (NoEdge id) fails = absurd fails
  failure_caused (HasRelationships id degree) fails = absurd fails
  failure_caused IndexThere fails = absurd fails
  failure_caused TooManyIndexes fails = absurd fails
  failure_caused (IndexTooLarge count) fails = absurd fails
  failure_caused (Full file live) fails = absurd fails
  failure_caused (NamesFull count) fails = absurd fails
  failure_caused (PropsFull count) fails = absurd fails
  failure_caused Memory fails = tt
  failure_caused Disk fails = tt
  failure_caused (Damaged damage) fails = tt

  -- ---- rooms

  pub room_caused : (file count : ℕ) → AsksRoom command s.records now file count → (fault : ChangeFault) → LacksRoom s file count fault
      → IsCaused command s t names now fault
  room_caused file count asks fault why = subst (IsCaused command s t names now) (sym why.is) (inl (count, asks, record { is = refl; lacks = why.lacks }))

  -- ---- values

  -- that a new element is given
  pub put_caused : (pairs : List Pair) (count blocks : ℕ) → NeedForPairs pairs format.properties_file count → NeedForPairs pairs format.strings_file blocks
      → ((file : ℕ) → NeedsAny pairs file → AsksRecord command s.records now file)
      → (fault : ChangeFault) → IsPutCause t count blocks fault → IsCaused command s t names now fault
  put_caused pairs count blocks all sum asks (NoNode id) why = absurd why
  put_caused pairs count blocks all sum asks (NoEdge id) why = absurd why
  put_caused pairs count blocks all sum asks (HasRelationships id degree) why = absurd why
  put_caused pairs count blocks all sum asks IndexThere why = absurd why
  put_caused pairs count blocks all sum asks TooManyIndexes why = absurd why
  put_caused pairs count blocks all sum asks (IndexTooLarge most) why = absurd why
  put_caused pairs count blocks all sum asks (Full file live) why = inr (
    asks file (⊎_elim
        (λ (k : (file ≡ format.properties_file) × (0 < count)). (count, subst (λ f. NeedForPairs pairs f count) (sym k.0) all, k.1))
        (λ (k : (file ≡ format.strings_file) × (0 < blocks)). (blocks, subst (λ f. NeedForPairs pairs f blocks) (sym k.0) sum, k.1)) why.1),
    why.0,
  )
  put_caused pairs count blocks all sum asks (NamesFull n) why = absurd why
  put_caused pairs count blocks all sum asks (PropsFull n) why = absurd why
  put_caused pairs count blocks all sum asks Memory why = tt
  put_caused pairs count blocks all sum asks Disk why = tt
  put_caused pairs count blocks all sum asks (Damaged damage) why = tt

-- ---- the names and the properties of a new element

pub label_caused : (s : State) (names : List (List ℕ)) (label : List ℕ) (pairs : List Pair) (fault : InternFault) → IsFullFault names label fault
    → IsLineCause s names label pairs (of_intern fault)
label_caused s names label pairs (intern.NamesFull count) why = (first_lacks names label (keys_in pairs) why.all why.new, why.is ∙ why.all)
label_caused s names label pairs intern.Memory why = tt
label_caused s names label pairs intern.Disk why = tt

pub assign_caused : (s : State) (a b : List (List ℕ)) (label : List ℕ) (pairs : List Pair) → UsesName a label b → (fault : ChangeFault)
    → IsAssignFault b pairs fault → IsAssignCount fault → IsLineCause s a label pairs fault
assign_caused s a b label pairs uses (NoNode id) why counts = absurd why
assign_caused s a b label pairs uses (NoEdge id) why counts = absurd why
assign_caused s a b label pairs uses (HasRelationships id degree) why counts = absurd why
assign_caused s a b label pairs uses IndexThere why counts = absurd why
assign_caused s a b label pairs uses TooManyIndexes why counts = absurd why
assign_caused s a b label pairs uses (IndexTooLarge count) why counts = absurd why
assign_caused s a b label pairs uses (Full file live) why counts = absurd why
assign_caused s a b label pairs uses (NamesFull count) why counts = ((why.0, (b, uses, why.1), why.2), counts)
assign_caused s a b label pairs uses (PropsFull count) why counts = (why.3, counts)
assign_caused s a b label pairs uses Memory why counts = tt
assign_caused s a b label pairs uses Disk why counts = tt
assign_caused s a b label pairs uses (Damaged damage) why counts = absurd why

module _ (s u : State) (names : List (List ℕ)) (label : List ℕ) (pairs : List Pair) (shape : u.shape ≡ s.shape) where
  file_caused : (file count : ℕ) → NeedForPairs pairs file count → meta_of u file ≡ meta_of s file → (fault : ChangeFault) → LacksRoom u file count fault
      → IsLineCause s names label pairs fault
  file_caused file count need same fault why =
      let live = ap (λ (m : Meta). m.live) same in
      let room = ap (λ (h : Shape). room_of h file) shape in
      subst (IsLineCause s names label pairs) (sym (why.is ∙ ap (λ n. Full file n) live))
      (count, need, record { is = refl; lacks = let lt = why.lacks in omega arith })

  pub reserve_caused : (count blocks : ℕ) → count ≡ maps.len (with_pairs no_properties pairs) → blocks ≡ blocks_in (with_pairs no_properties pairs)
      → KeepsElementMetas s u
      → (fault : ChangeFault) → IsReserveFault u count blocks fault → IsLineCause s names label pairs fault
  reserve_caused count blocks all sum metas fault why = ⊎_elim
      (λ (k : LacksRoom u format.properties_file count fault). file_caused format.properties_file count (inl (refl, all)) metas.properties fault k)
      (λ (k : HasRoom u format.properties_file count × LacksRoom u format.strings_file blocks fault). file_caused format.strings_file blocks (inr (refl, sum))
      metas.blocks fault k.1) why

-- a new node has the causes of its line, and so has a new edge
module _ (s t : State) (names now : List (List ℕ)) (label : List ℕ) (pairs : List Pair) where
  pub line_node : (fault : ChangeFault) → IsLineCause s names label pairs fault → IsCaused (commands.Node label pairs) s t names now fault
  line_node (NoNode id) why = absurd why
  line_node (NoEdge id) why = absurd why
  line_node (HasRelationships id degree) why = absurd why
  line_node IndexThere why = absurd why
  line_node TooManyIndexes why = absurd why
  line_node (IndexTooLarge count) why = absurd why
  line_node (Full file live) why = inl (why.0, inr (inl why.1), why.2)
  line_node (NamesFull count) why = why
  line_node (PropsFull count) why = why
  line_node Memory why = tt
  line_node Disk why = tt
  line_node (Damaged damage) why = tt

  pub line_edge : (from to : ℕ) (fault : ChangeFault) → IsLineCause s names label pairs fault → IsCaused (commands.Edge from label to pairs) s t names now fault
  line_edge from to (NoNode id) why = absurd why
  line_edge from to (NoEdge id) why = absurd why
  line_edge from to (HasRelationships id degree) why = absurd why
  line_edge from to IndexThere why = absurd why
  line_edge from to TooManyIndexes why = absurd why
  line_edge from to (IndexTooLarge count) why = absurd why
  line_edge from to (Full file live) why = inl (why.0, inr why.1, why.2)
  line_edge from to (NamesFull count) why = why
  line_edge from to (PropsFull count) why = why
  line_edge from to Memory why = tt
  line_edge from to Disk why = tt
  line_edge from to (Damaged damage) why = tt

-- one of the values is put
pub add_caused : (new : Type 0) (t : State) (count blocks needed : ℕ) → 0 < count → needed ≤ blocks → (fault : SetFault) → IsSetCause ⊥ new needed t fault
    → IsPutCause t count blocks (of_set fault)
add_caused new t count blocks needed some le (sets.PropsFull n) why = absurd why.1
add_caused new t count blocks needed some le (sets.Full file live) why = (
  why.0,
  ⊎_elim (λ (k : (file ≡ format.properties_file) × new). inl (k.0, some)) (λ (k : (file ≡ format.strings_file) × (0 < needed)). inr
      (k.0, omega (arith, k.1))) why.1,
)
add_caused new t count blocks needed some le sets.Memory why = tt
add_caused new t count blocks needed some le sets.Disk why = tt
add_caused new t count blocks needed some le (sets.Damaged damage) why = tt

pub set_cause_map : (crowded new crowd then : Type 0) → (crowded → crowd) → (new → then) → (blocks : ℕ) (t : State) (fault : SetFault)
    → IsSetCause crowded new blocks t fault → IsSetCause crowd then blocks t fault
set_cause_map crowded new crowd then f h blocks t (sets.PropsFull n) why = (why.0, f why.1)
set_cause_map crowded new crowd then f h blocks t (sets.Full file live) why =
    (why.0, ⊎_elim (λ (k : (file ≡ format.properties_file) × new). inl (k.0, h k.1)) (λ (k : (file ≡ format.strings_file) × (0 < blocks)). inr k) why.1)
set_cause_map crowded new crowd then f h blocks t sets.Memory why = tt
set_cause_map crowded new crowd then f h blocks t sets.Disk why = tt
set_cause_map crowded new crowd then f h blocks t (sets.Damaged damage) why = tt

-- ---- a value that a key is given

module _ (s t : State) (names now : List (List ℕ)) (target : Target) (key : List ℕ) (value : Value) where
  pub key_caused : (fault : InternFault) → IsFullFault names key fault → IsCaused (commands.Set target key value) s t names now (of_intern fault)
  key_caused (intern.NamesFull count) why = (first_lacks names key [] why.all why.new, why.is ∙ why.all)
  key_caused intern.Memory why = tt
  key_caused intern.Disk why = tt

  -- after the key got its number
  pub set_caused : (number : ℕ) → slice_get now number ≡ Some key → (r : Records)
      → properties_met r (owner_of target) ≡ properties_met s.records (owner_of target) → (fault : SetFault)
      → IsSetCause (IsCrowded r (owner_of target) number) (LacksMet r (owner_of target) number) (blocks_of value) t fault
      → IsCaused (commands.Set target key value) s t names now (of_set fault)
  set_caused number named r same (sets.PropsFull n) why = (
    record {
      number = number;
      named = named;
      crowded = (
        sym (ap (λ es. property_of es number) same) ∙ why.1.0,
        sym (ap (λ (es : List Property). length es)
            same) ∙ why.1.1,
      );
    },
    why.0,
  )
  set_caused number named r same (sets.Full file live) why = inr (
    inl (⊎_elim
        (λ (k : (file ≡ format.properties_file) × LacksMet r (owner_of target) number). inl (
          k.0,
          record {
            number = number;
            named = named;
            lacks = sym
                (ap (λ es. property_of es number) same) ∙ k.1;
          },
        ))
        (λ (k : (file ≡ format.strings_file) × (0 < blocks_of value)). inr k) why.1),
    why.0,
  )
  set_caused number named r same sets.Memory why = tt
  set_caused number named r same sets.Disk why = tt
  set_caused number named r same (sets.Damaged damage) why = tt

-- ---- after reads
pub caused_read : (command : Command) (s m t : State) (names now : List (List ℕ)) → SameButReads s m → (fault : ChangeFault)
    → IsCaused command m t names now fault → IsCaused command s t names now fault
caused_read command s m t names now same (NoNode id) why = subst (λ (z : State). IsCaused command z t names now (NoNode id)) same why
caused_read command s m t names now same (NoEdge id) why = subst (λ (z : State). IsCaused command z t names now (NoEdge id)) same why
caused_read command s m t names now same (HasRelationships id degree) why =
    subst (λ (z : State). IsCaused command z t names now (HasRelationships id degree)) same why
caused_read command s m t names now same IndexThere why = subst (λ (z : State). IsCaused command z t names now IndexThere) same why
caused_read command s m t names now same TooManyIndexes why = subst (λ (z : State). IsCaused command z t names now TooManyIndexes) same why
caused_read command s m t names now same (IndexTooLarge count) why = subst (λ (z : State). IsCaused command z t names now (IndexTooLarge count)) same why
caused_read command s m t names now same (Full file live) why = by (subst (λ (z : State). IsCaused command z t names now (Full file live)) same why)
  where
    by : IsCaused command (record s { reads = m.reads }) t names now (Full file live) → IsCaused command s t names now (Full file live)
    by (inl lacks) = inl (lacks.0, lacks.1, record { is = lacks.2.is; lacks = lacks.2.lacks })
    by (inr late) = inr late
caused_read command s m t names now same (NamesFull count) why = why
caused_read command s m t names now same (PropsFull count) why = subst (λ (z : State). IsCaused command z t names now (PropsFull count)) same why
caused_read command s m t names now same Memory why = tt
caused_read command s m t names now same Disk why = tt
caused_read command s m t names now same (Damaged damage) why = tt

-- an element is absent there too
pub absent_read : (s m : State) (target : Target) → SameButReads s m → (fault : ChangeFault) → IsAbsent m target fault → IsAbsent s target fault
absent_read s m target same (NoNode id) why = subst (λ (z : State). IsAbsent z target (NoNode id)) same why
absent_read s m target same (NoEdge id) why = subst (λ (z : State). IsAbsent z target (NoEdge id)) same why
absent_read s m target same (HasRelationships id degree) why = why
absent_read s m target same IndexThere why = why
absent_read s m target same TooManyIndexes why = why
absent_read s m target same (IndexTooLarge count) why = why
absent_read s m target same (Full file live) why = why
absent_read s m target same (NamesFull count) why = why
absent_read s m target same (PropsFull count) why = why
absent_read s m target same Memory why = why
absent_read s m target same Disk why = tt
absent_read s m target same (Damaged damage) why = subst (λ (z : State). IsAbsent z target (Damaged damage)) same why

-- from the space before the reads
pub caused_left : (command : Command) (s m t : State) (names now : List (List ℕ)) → SameButReads s m → (fault : ChangeFault)
    → IsCaused command s t names now fault → IsCaused command m t names now fault
caused_left command s m t names now same fault why = caused_read command m s t names now (ap (λ (z : State). record z { reads = s.reads }) (sym same)) fault why

-- ---- what is blamed

pub any_blamed : (told : Damage → Type 0) → ((damage : Damage) → told damage) → (fault : ChangeFault) → IfBlames told fault
any_blamed told all (NoNode id) = tt
any_blamed told all (NoEdge id) = tt
any_blamed told all (HasRelationships id degree) = tt
any_blamed told all IndexThere = tt
any_blamed told all TooManyIndexes = tt
any_blamed told all (IndexTooLarge count) = tt
any_blamed told all (Full file live) = tt
any_blamed told all (NamesFull count) = tt
any_blamed told all (PropsFull count) = tt
any_blamed told all Memory = tt
any_blamed told all Disk = tt
any_blamed told all (Damaged damage) = all damage

pub intern_blamed : (told : Damage → Type 0) (fault : InternFault) → IfBlames told (of_intern fault)
intern_blamed told (intern.NamesFull count) = tt
intern_blamed told intern.Memory = tt
intern_blamed told intern.Disk = tt

pub set_blamed : (t : State) (fault : SetFault) → SetBlamesBroken t fault → BlamesBroken t (of_set fault)
set_blamed t (sets.PropsFull count) why = tt
set_blamed t (sets.Full file live) why = tt
set_blamed t sets.Memory why = tt
set_blamed t sets.Disk why = tt
set_blamed t (sets.Damaged damage) why = inl why

pub take_blamed_still : (s t : State) (fault : TakeFault) → takes.BlamesBroken s.records s.shape fault → SameButReads s t → BlamesBroken t (of_take fault)
take_blamed_still s t (take.Full file live) why same = tt
take_blamed_still s t take.Memory why same = tt
take_blamed_still s t take.Disk why same = tt
take_blamed_still s t (take.Damaged damage) why same = subst (λ (z : State). IsBroken z damage) (sym same) (inl why)

-- after reads
pub broken_left : (s t : State) → SameButReads s t → (fault : ChangeFault) → BlamesBroken s fault → BlamesBroken t fault
broken_left s t same fault why = subst (λ (z : State). BlamesBroken z fault) (sym same)
    (blames_more (IsBroken s) (IsBroken (record s { reads = t.reads })) (λ damage broken. broken) fault why)

-- ---- targets
pub node_of : {a b : ℕ} → targets.Node a ≡ targets.Node b → a ≡ b
node_of e = cc

pub no_edge : {a b : ℕ} → targets.Node a ≡ targets.Edge b → ⊥
no_edge e = cc
