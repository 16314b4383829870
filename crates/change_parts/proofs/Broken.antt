-- A record that is called damaged breaks the rule.
use Rattle.std.proofs.Common.{◌≡◌, ℕ, Some, sym, subst, inl, arith, refl}
use Rattle.plain_graph.specs.declared.command.Target.{Target}
use Rattle.plain_graph.specs.declared.command.Target.TheVariants as targets
use Rattle.rec_bytes.specs.declared.damage.Damage.{Damage}
use Rattle.rec_bytes.specs.declared.fault.Fault.{Fault}
use Rattle.rec_bytes.specs.declared.fault.Fault.TheVariants as faults
use Rattle.rec_bytes.specs.declared.row_fault.RowFault.{RowFault}
use Rattle.rec_bytes.specs.declared.row_fault.RowFault.TheVariants as row
use Rattle.rec_bytes.specs.Format as format
use Rattle.rec_bytes.specs.Space.{SameButReads, State}
use Rattle.store_rules.specs.Breaking.{Breaks}
use Rattle.store_rules.specs.Breaking.Breaks.{RecordRange, WrongMeta}
use Rattle.row_store.specs.Loading.{IsRowDamage}
use Rattle.row_store.specs.Loading.IsRowDamage.{HighMark, UnknownKind}
use Rattle.node_store.specs.Loading as nodes
use Rattle.node_store.specs.declared.node_row.NodeRow.{NodeRow}
use Rattle.rel_store.specs.Loading as rels
use Rattle.rel_store.specs.declared.rel_row.RelRow.{RelRow}
use Rattle.rel_store.proofs.Rows as rel_rows
use Rattle.prop_store.specs.Fault as props
use Rattle.prop_store.specs.Owner.{IsInUse}
use Rattle.std.specs.Prelude.{IfSome}
use Rattle.rec_bytes.specs.Fault.{damage_of}
use Rattle.change_parts.specs.ChangeFault.{of_fault, of_row}
use Rattle.change_parts.specs.declared.change_fault.ChangeFault.{ChangeFault}
use Rattle.change_parts.specs.declared.change_fault.ChangeFault.TheVariants.{NoNode, NoEdge, HasRelationships, IndexThere, TooManyIndexes, IndexTooLarge, Full}
use Rattle.change_parts.specs.declared.change_fault.ChangeFault.TheVariants.{NamesFull, PropsFull, Memory, Disk, Damaged}
use Rattle.change_parts.specs.Damage.{BlamesBroken, IfBlames}
use Rattle.change_parts.specs.Owners.{MayMiss, owner_of}
use Rattle.change_parts.proofs.Elements.{used_of}

-- ---- rows that are loaded

pub node_breaks : (s : State) (id : ℕ) (damage : Damage) → IsRowDamage format.nodes_file s id damage → Breaks s.records s.shape damage
node_breaks s id damage (UnknownKind low none) = RecordRange format.nodes_file id refl low (λ fits. let is = fits.is in cc)
node_breaks s id damage (HighMark above) = WrongMeta format.nodes_file (omega arith) (λ meta. let right = meta.high in omega arith)

pub rel_breaks : (s : State) (id : ℕ) (damage : Damage) → IsRowDamage format.relationships_file s id damage → Breaks s.records s.shape damage
rel_breaks s id damage (UnknownKind low none) = RecordRange format.relationships_file id refl low (λ fits. let is = fits.is in cc)
rel_breaks s id damage (HighMark above) = WrongMeta format.relationships_file (omega arith) (λ meta. let right = meta.high in omega arith)

pub node_broken : (s : State) (id : ℕ) (fault : RowFault) → nodes.IsNodeFault s id fault → BlamesBroken s (of_row fault)
node_broken s id row.Disk told = tt
node_broken s id (row.Damaged damage) told = inl (node_breaks s id damage told)

pub rel_broken : (s : State) (id : ℕ) (fault : RowFault) → rels.IsRelFault s id fault → BlamesBroken s (of_row fault)
rel_broken s id row.Disk told = tt
rel_broken s id (row.Damaged damage) told = inl (rel_breaks s id damage told)

pub row_misses : (fault : RowFault) → MayMiss (of_row fault)
row_misses row.Disk = tt
row_misses (row.Damaged damage) = tt

-- ---- elements that are loaded are in use

pub node_in_use : (s : State) (target : Target) (id : ℕ) (node : NodeRow) → target ≡ targets.Node id → Some node ≡ nodes.row_at s.records id
    → IsInUse s.records (owner_of target)
node_in_use s target id node is found = subst (λ t. IsInUse s.records (owner_of t)) (sym is) (used_of s id node found).0

pub rel_in_use : (s : State) (target : Target) (id : ℕ) (rel : RelRow) → target ≡ targets.Edge id → Some rel ≡ rels.row_at s.records id
    → IsInUse s.records (owner_of target)
rel_in_use s target id rel is found = subst (λ t. IsInUse s.records (owner_of t)) (sym is) (rel_rows.kind-row_at-Some s.records id rel (sym found)).0

-- ---- what is blamed

-- what follows of a record that is blamed
pub blames_more : (told more : Damage → Type 0) → ((damage : Damage) → told damage → more damage) → (fault : ChangeFault) → IfBlames told fault
    → IfBlames more fault
blames_more told more then (NoNode id) blames = tt
blames_more told more then (NoEdge id) blames = tt
blames_more told more then (HasRelationships id degree) blames = tt
blames_more told more then IndexThere blames = tt
blames_more told more then TooManyIndexes blames = tt
blames_more told more then (IndexTooLarge count) blames = tt
blames_more told more then (Full file live) blames = tt
blames_more told more then (NamesFull count) blames = tt
blames_more told more then (PropsFull count) blames = tt
blames_more told more then Memory blames = tt
blames_more told more then Disk blames = tt
blames_more told more then (Damaged damage) blames = then damage blames

-- what is so of it in two ways
pub blames_both : (one other : Damage → Type 0) (fault : ChangeFault) → IfBlames one fault → IfBlames other fault
    → IfBlames (λ damage. one damage × other damage) fault
blames_both one other (NoNode id) a b = tt
blames_both one other (NoEdge id) a b = tt
blames_both one other (HasRelationships id degree) a b = tt
blames_both one other IndexThere a b = tt
blames_both one other TooManyIndexes a b = tt
blames_both one other (IndexTooLarge count) a b = tt
blames_both one other (Full file live) a b = tt
blames_both one other (NamesFull count) a b = tt
blames_both one other (PropsFull count) a b = tt
blames_both one other Memory a b = tt
blames_both one other Disk a b = tt
blames_both one other (Damaged damage) a b = (a, b)

-- ---- in the space as a call left it

-- where nothing was written before
pub unwritten_left : (s t : State) (fault : Fault) → props.BlamesBroken s.records s.shape fault → IfSome (damage_of fault) (λ _. SameButReads s t)
    → BlamesBroken t (of_fault fault)
unwritten_left s t faults.Memory told same = tt
unwritten_left s t faults.Disk told same = tt
unwritten_left s t (faults.Damaged damage) told same = inl (subst (λ (z : State). Breaks z.records z.shape damage) (sym same) told)
