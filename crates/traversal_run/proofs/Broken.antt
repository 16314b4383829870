-- A record that is called damaged breaks the rule.
use Rattle.std.specs.List.{list_all}
use Rattle.std.proofs.Common.{◌≡◌, ◌≢◌, ◌<◌, ◌≤◌, ◌&&◌, ℕ, nat_lt, Bool, true, false, Some, List, [], ◌∷◌, map, not, inl, inr, refl, sym, ap, ◌∙◌, subst, arith}
use Rattle.rec_bytes.specs.Fault.{of_row}
use Rattle.rec_bytes.specs.Format as format
use Rattle.rec_bytes.specs.Space.{SameButReads, State}
use Rattle.rec_bytes.specs.declared.damage.Damage.{Damage}
use Rattle.rec_bytes.specs.declared.fault.Fault.{Fault}
use Rattle.rec_bytes.specs.declared.row_fault.RowFault.{RowFault}
use Rattle.rec_bytes.specs.declared.row_fault.RowFault.TheVariants as row
use Rattle.store_rules.specs.Breaking.{Breaks, damage, key_of}
use Rattle.store_rules.specs.Breaking.Breaks.{RecordRange, WrongElement, WrongMeta}
use Rattle.store_rules.specs.Chains.{In}
use Rattle.store_rules.specs.Properties.{next_property, property_at, property_ids, property_records}
use Rattle.store_rules.specs.Views.{Records, high, is_live, kind_at, rec_at}
use Rattle.store_rules.proofs.ChainLaws.{followed-walk}
use Rattle.store_rules.proofs.NumberLaws.{eq_false, lt_true}
use Rattle.store_rules.proofs.ViewLaws.{kind_below}
use Rattle.row_store.specs.Loading.{IsRowDamage}
use Rattle.row_store.specs.Loading.IsRowDamage.{HighMark, UnknownKind}
use Rattle.node_store.specs.Loading as nodes
use Rattle.node_store.specs.declared.node_row.NodeRow.{NodeRow}
use Rattle.node_store.proofs.Rows as node_rows
use Rattle.rel_store.specs.Loading as rels
use Rattle.rel_store.specs.declared.rel_row.RelRow.{RelRow}
use Rattle.rel_store.proofs.Rows as rel_rows
use Rattle.prop_store.specs.Fault.{BlamesBroken}
use Rattle.prop_store.specs.Owner.{IsInUse, IsOwner, first_of}
use Rattle.prop_store.specs.Reading.{prop_of, properties_met}
use Rattle.prop_store.specs.declared.owner.Owner.{Owner}
use Rattle.prop_store.specs.declared.prop.Prop.{Prop}
use Rattle.prop_store.proofs.Breaches.{element_breaks}
use Rattle.traversal_run.specs.Naming.{name_count}

-- ---- rows that are loaded

node_breaks : (s : State) (id : ℕ) (d : Damage) → IsRowDamage format.nodes_file s id d → Breaks s.records s.shape d
node_breaks s id d (UnknownKind low none) = RecordRange format.nodes_file id refl low (λ fits. let is = fits.is in cc)
node_breaks s id d (HighMark above) = WrongMeta format.nodes_file (omega arith) (λ meta. let right = meta.high in omega arith)

rel_breaks : (s : State) (id : ℕ) (d : Damage) → IsRowDamage format.relationships_file s id d → Breaks s.records s.shape d
rel_breaks s id d (UnknownKind low none) = RecordRange format.relationships_file id refl low (λ fits. let is = fits.is in cc)
rel_breaks s id d (HighMark above) = WrongMeta format.relationships_file (omega arith) (λ meta. let right = meta.high in omega arith)

pub node_blamed : (s : State) (id : ℕ) (fault : RowFault) → nodes.IsNodeFault s id fault → BlamesBroken s.records s.shape (of_row fault)
node_blamed s id row.Disk told = tt
node_blamed s id (row.Damaged d) told = node_breaks s id d told

pub rel_blamed : (s : State) (id : ℕ) (fault : RowFault) → rels.IsRelFault s id fault → BlamesBroken s.records s.shape (of_row fault)
rel_blamed s id row.Disk told = tt
rel_blamed s id (row.Damaged d) told = rel_breaks s id d told

-- ---- labels, types and keys that are no names

live : (records : Records) (file x : ℕ) → kind_at records file x ≢ 0 → is_live records file x ≡ true
live records file x used = ap not (eq_false (kind_at records file x) 0 used)

pub node_unnamed : (s : State) (id : ℕ) (node : NodeRow) → Some node ≡ nodes.row_at s.records id → name_count s.records ≤ node.label
    → Breaks s.records s.shape (damage format.nodes_file id 5)
node_unnamed s id node found high_label =
    let is = node_rows.kind-row_at-Some s.records id node (sym found) in
    WrongElement format.nodes_file id refl (kind_below (high s.records format.nodes_file) (rec_at s.records format.nodes_file id) id is.0)
    (λ keeps. let low = subst (λ (r : NodeRow). r.label < name_count s.records) (sym is.1) (keeps.named (live s.records format.nodes_file id is.0)) in omega
    arith)

pub rel_unnamed : (s : State) (id : ℕ) (rel : RelRow) → Some rel ≡ rels.row_at s.records id → name_count s.records ≤ rel.label
    → Breaks s.records s.shape (damage format.relationships_file id 5)
rel_unnamed s id rel found high_label =
    let is = rel_rows.kind-row_at-Some s.records id rel (sym found) in
    WrongElement format.relationships_file id refl (kind_below (high s.records format.relationships_file) (rec_at s.records format.relationships_file id)
    id is.0)
    (λ keeps. let low = subst (λ (r : RelRow). r.label < name_count s.records) is.1 (keeps.named (live s.records format.relationships_file id is.0)) in omega
    arith)

all_named : (records : Records) (mark : ℕ) (ps : List ℕ) → ((p : ℕ) → In p ps → key_of records p < mark)
    → list_all (λ (prop : Prop). nat_lt prop.key mark) (map prop_of (map (property_at (property_records records)) ps)) ≡ true
all_named records mark [] named = refl
all_named records mark (p ∷ ps) named = (λ i. lt_true (key_of records p) mark (named p (inl refl)) i && all_named records mark ps (λ q at. named q (inr at)) i)

pub owner_unnamed : (s : State) (owner : Owner) → IsOwner owner → IsInUse s.records owner → (props : List Prop)
    → props ≡ map prop_of (properties_met s.records owner)
    → list_all (λ (prop : Prop). nat_lt prop.key (name_count s.records)) props ≡ false → Breaks s.records s.shape (damage owner.key.file owner.key.id 5)
owner_unnamed s owner is used props met some = element_breaks s owner is used (λ members list.
    let ids : property_ids (rec_at s.records format.properties_file) (first_of s.records owner) ≡ members
    = followed-walk 32 (next_property (rec_at s.records format.properties_file)) (first_of s.records owner) members list.walk list.few in
    let all = all_named s.records (name_count s.records) members list.named in
    let same = met ∙ ap (λ (ps : List ℕ). map prop_of (map (property_at (property_records s.records)) ps)) ids in
    let passed = ap (λ (list : List Prop). list_all (λ (prop : Prop). nat_lt prop.key (name_count s.records)) list) same ∙ all in
    clash (list_all (λ (prop : Prop). nat_lt prop.key (name_count s.records)) props) passed some)
  where
    clash : (b : Bool) → b ≡ true → b ≡ false → ⊥
    clash b on off = cc

-- ---- after reads

pub blamed_before : (s m : State) → SameButReads s m → (fault : Fault) → BlamesBroken m.records m.shape fault → BlamesBroken s.records s.shape fault
blamed_before s m same fault told = subst (λ (z : State). BlamesBroken z.records z.shape fault) same told
