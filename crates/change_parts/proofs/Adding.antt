-- What a new element leaves of the free lists, and which record is damaged where it is added.
use Rattle.std.specs.Cmp.Lexicographic.{pointwise}
use Rattle.std.specs.List.{list_any}
use Rattle.std.proofs.Common.{◌≡◌, ◌≢◌, ◌∙◌, ℕ, nat_eq, Bool, true, false, cond, List, length, map, sym, ap, subst, ⊎_elim, arith, refl, inl, inr}
use Rattle.plain_graph.specs.declared.pairs.Pair.{Pair}
use Rattle.rec_bytes.specs.declared.damage.Damage.{Damage}
use Rattle.rec_bytes.specs.declared.key.Key.{Key}
use Rattle.rec_bytes.specs.declared.record.Rec.{Rec}
use Rattle.rec_bytes.specs.declared.space.SpaceFault.{SpaceFault}
use Rattle.rec_bytes.specs.declared.space.SpaceFault.TheVariants as spaces
use Rattle.std.proofs.Math.Path.{fun_ext}
use Rattle.rec_bytes.specs.Format as format
use Rattle.rec_bytes.specs.Meta as meta_records
use Rattle.rec_bytes.specs.RecordFiles.{meta_key_of}
use Rattle.rec_bytes.specs.Record.{field}
use Rattle.rec_bytes.specs.Space.{State, after_put, meta_of, put}
use Rattle.rec_bytes.proofs.KeyLaws.{key_eq-other}
use Rattle.id_freelist.specs.ListDamage.{HarmsNoList}
use Rattle.id_freelist.specs.Taking.{IsTakeDamage, IsTakeFault}
use Rattle.id_freelist.proofs.ListSteps.{beside_harms_none, harms_none_then}
use Rattle.id_freelist.proofs.TakeBreaches.{list_breaks, list_damage}
use Rattle.id_freelist.specs.declared.take_fault.TakeFault.{TakeFault}
use Rattle.id_freelist.specs.declared.take_fault.TakeFault.TheVariants as take
use Rattle.name_store.specs.Interning.{counted, interned, named}
use Rattle.name_store.specs.NameRecord.{name_key, name_record}
use Rattle.rec_bytes.specs.Meta.{with_meta}
use Rattle.plain_graph.specs.declared.command.Target.{Target}
use Rattle.plain_graph.specs.declared.command.Target.TheVariants as targets
use Rattle.prop_store.specs.FileChange.{IsSameBeside}
use Rattle.prop_store.specs.Owner.{first_of}
use Rattle.prop_store.specs.Reading.{properties_met}
use Rattle.prop_store.specs.Setting.{BlamesLists, HarmsNoLists}
use Rattle.prop_store.specs.declared.set_fault.SetFault.{SetFault}
use Rattle.prop_store.specs.declared.set_fault.SetFault.TheVariants as sets
use Rattle.store_rules.specs.Breaking.{BreaksAny}
use Rattle.store_rules.specs.Properties.{property_at, property_ids}
use Rattle.store_rules.specs.Views.{Records, key_in, rec_at}
use Rattle.change_parts.specs.ChangeFault.{of_set, of_space, of_take}
use Rattle.change_parts.specs.Damage.{IfBlames, IsBroken, IsOfLists, KeepsButNames}
use Rattle.change_parts.specs.Owners.{owner_of}
use Rattle.change_parts.specs.Preparing.{IsLineCause}
use Rattle.change_parts.specs.Rooms.{LacksRoom}
use Rattle.change_parts.specs.declared.change_fault.ChangeFault.{ChangeFault}
use Rattle.change_parts.specs.declared.change_fault.ChangeFault.TheVariants.{NoNode, NoEdge, HasRelationships, IndexThere}
use Rattle.change_parts.specs.declared.change_fault.ChangeFault.TheVariants.{TooManyIndexes, IndexTooLarge, Full}
use Rattle.change_parts.specs.declared.change_fault.ChangeFault.TheVariants.{NamesFull, PropsFull, Memory, Disk, Damaged}

-- ---- names

put_other : (records : Records) (key : Key) (rec : Rec) (q : Key) → q ≢ key → put records key rec q ≡ records q
put_other records key rec q ne = ap (λ b. cond b rec (records q)) (key_eq-other q key ne)

named_beside : (s : State) (id : ℕ) (text : List ℕ) → IsSameBeside format.names_file s.records (named s id text).records
unfolding named
named_beside s id text q other no_meta =
    let named_in = after_put s (name_key id) (name_record text) in
    put_other named_in.records (meta_key_of format.names_file) (with_meta (named_in.records (meta_key_of format.names_file))
    (counted (meta_of named_in format.names_file))) q no_meta
    ∙ put_other s.records (name_key id) (name_record text) q (λ e. other (ap (λ (k : Key). k.file) e))

pub interned_beside : (s t : State) (names : List (List ℕ)) (text : List ℕ) → t ≡ interned s names text → IsSameBeside format.names_file s.records t.records
interned_beside s t names text is = subst (λ (z : State). IsSameBeside format.names_file s.records z.records) (sym is)
    (by (list_any (pointwise nat_eq text) names))
  where
    by : (b : Bool) → IsSameBeside format.names_file s.records (cond b s (named s (length names) text)).records
    by true = λ q other no_meta. refl
    by false = named_beside s (length names) text

-- the records of an element lead through the same properties
pub met_beside : (s t : Records) (target : Target) → IsSameBeside format.names_file s t
    → properties_met t (owner_of target) ≡ properties_met s (owner_of target)
met_beside s t target same =
    let met = λ (p strings : ℕ → Rec) (first : ℕ). map (property_at (record { properties = p; strings = strings })) (property_ids p first) in
    ap (λ p. met p (rec_at t format.strings_file) (first_of t (owner_of target))) (file format.properties_file (λ e. omega arith) (λ e. omega arith))
    ∙ ap (λ p. met (rec_at s format.properties_file) p (first_of t (owner_of target))) (file format.strings_file (λ e. omega arith) (λ e. omega arith))
    ∙ ap (met (rec_at s format.properties_file) (rec_at s format.strings_file)) (first target)
  where
    file : (f : ℕ) → f ≢ format.names_file → f ≢ format.meta_file → rec_at t f ≡ rec_at s f
    file f other no_meta = fun_ext (λ id. same (key_in f id) other (λ e. no_meta (ap (λ (k : Key). k.file) e)))

    first : (target : Target) → first_of t (owner_of target) ≡ first_of s (owner_of target)
    first (targets.Node id) = ap (λ (r : Rec). field 4 r format.node_first_property)
        (same (key_in format.nodes_file id) (λ e. omega arith) (λ e. let f = ap (λ (k : Key). k.file) e in omega arith))
    first (targets.Edge id) = ap (λ (r : Rec). field 4 r format.relationship_first_property)
        (same (key_in format.relationships_file id) (λ e. omega arith) (λ e. let f = ap (λ (k : Key). k.file) e in omega arith))

-- a key of a line gets its number, or is only counted
pub key_beside : (few : Bool) (s t : State) (names : List (List ℕ)) (text : List ℕ) → (few ≡ true → t ≡ interned s names text) → (few ≡ false → t ≡ s)
    → KeepsButNames s t
key_beside true s t names text ok held = interned_beside s t names text (ok refl)
key_beside false s t names text ok held = subst (KeepsButNames s) (sym (held refl)) (λ q other no_meta. refl)

pub names_then : (s t u : State) → KeepsButNames s t → KeepsButNames t u → KeepsButNames s u
names_then s t u h k q other no_meta = k q other no_meta ∙ h q other no_meta

-- ---- free lists

-- those of a file stay where another one changed
module _ (s t : State) (changed : ℕ) (shape : t.shape ≡ s.shape) (keeps : IsSameBeside changed s.records t.records) where
  list_stays : (file : ℕ) → file ≢ changed → file ≢ format.meta_file → changed ≢ format.meta_file → HarmsNoList s t file
  list_stays file other own known = beside_harms_none s t file shape
      (keeps (meta_key_of file) (λ e. known (sym e)) (λ e. other (ap (λ (k : Key). k.id) e)))
      (λ x. keeps (key_in file x) other (λ e. own (ap (λ (k : Key). k.file) e)))

pub names_harm_no_lists : (s t : State) → t.shape ≡ s.shape → KeepsButNames s t → HarmsNoLists s t
names_harm_no_lists s t shape keeps = record {
  properties = list_stays s t format.names_file shape keeps format.properties_file (λ e. omega arith) (λ e. omega arith) (λ e. omega arith);
  blocks = list_stays s t format.names_file shape keeps format.strings_file (λ e. omega arith) (λ e. omega arith) (λ e. omega arith);
}

pub node_harms_no_lists : (s t : State) → t.shape ≡ s.shape → IsSameBeside format.nodes_file s.records t.records → HarmsNoLists s t
node_harms_no_lists s t shape keeps = record {
  properties = list_stays s t format.nodes_file shape keeps format.properties_file (λ e. omega arith) (λ e. omega arith) (λ e. omega arith);
  blocks = list_stays s t format.nodes_file shape keeps format.strings_file (λ e. omega arith) (λ e. omega arith) (λ e. omega arith);
}

pub no_lists_harmed : (s : State) → HarmsNoLists s s
no_lists_harmed s = record { properties = λ d why. why; blocks = λ d why. why }

pub no_lists_then : (s t u : State) → HarmsNoLists s t → HarmsNoLists t u → HarmsNoLists s u
no_lists_then s t u h k = record {
  properties = harms_none_then s t u format.properties_file h.properties k.properties;
  blocks = harms_none_then s t u format.strings_file h.blocks k.blocks;
}

-- ---- records that are blamed

-- what is wrong with the lists was so before
pub lists_before : (s t : State) → HarmsNoLists s t → (d : Damage) → IsOfLists t d → IsOfLists s d
lists_before s t harmless d told = ⊎_elim (λ k. inl (harmless.properties d k)) (λ k. inr (harmless.blocks d k)) told

-- and breaks a rule
pub lists_broken : (s : State) (d : Damage) → IsOfLists s d → IsBroken s d
lists_broken s d told = inl (⊎_elim (list_breaks s.records s.shape format.properties_file refl d) (list_breaks s.records s.shape format.strings_file refl d)
    told)

pub value_lists : (s t : State) → HarmsNoLists s t → (fault : SetFault) → BlamesLists t fault → IfBlames (IsOfLists s) (of_set fault)
value_lists s t harmless (sets.PropsFull count) told = tt
value_lists s t harmless (sets.Full file live) told = tt
value_lists s t harmless sets.Memory told = tt
value_lists s t harmless sets.Disk told = tt
value_lists s t harmless (sets.Damaged damage) told = lists_before s t harmless damage told

pub take_blamed : (s : State) (file : ℕ) (fault : TakeFault) → IsTakeFault s file fault → IfBlames (IsTakeDamage s file) (of_take fault)
take_blamed s file (take.Full full live) told = tt
take_blamed s file take.Memory told = tt
take_blamed s file take.Disk told = tt
take_blamed s file (take.Damaged damage) told = told

pub space_blamed : (told : Damage → Type 0) (fault : SpaceFault) → IfBlames told (of_space fault)
space_blamed told spaces.Memory = tt
space_blamed told spaces.Disk = tt

-- none is where a file has no room
pub room_blamed : (told : Damage → Type 0) (s : State) (file count : ℕ) (fault : ChangeFault) → LacksRoom s file count fault → IfBlames told fault
room_blamed told s file count fault why = subst (IfBlames told) (sym why.is) tt

-- nor where a line is refused
pub line_blamed : (told : Damage → Type 0) (s : State) (names : List (List ℕ)) (label : List ℕ) (pairs : List Pair) (fault : ChangeFault)
    → IsLineCause s names label pairs fault → IfBlames told fault
line_blamed told s names label pairs (NoNode id) why = tt
line_blamed told s names label pairs (NoEdge id) why = tt
line_blamed told s names label pairs (HasRelationships id degree) why = tt
line_blamed told s names label pairs IndexThere why = tt
line_blamed told s names label pairs TooManyIndexes why = tt
line_blamed told s names label pairs (IndexTooLarge count) why = tt
line_blamed told s names label pairs (Full file live) why = tt
line_blamed told s names label pairs (NamesFull count) why = tt
line_blamed told s names label pairs (PropsFull count) why = tt
line_blamed told s names label pairs Memory why = tt
line_blamed told s names label pairs Disk why = tt
line_blamed told s names label pairs (Damaged damage) why = absurd why

-- ---- a take where only names are new

pub node_damage : (s u : State) → u.shape ≡ s.shape → KeepsButNames s u → (d : Damage) → IsTakeDamage u format.nodes_file d → BreaksAny s.records s.shape d
node_damage s u shape keeps d told =
    inl (list_breaks s.records s.shape format.nodes_file refl d (list_stays s u format.names_file shape keeps format.nodes_file (λ e. omega arith)
    (λ e. omega arith) (λ e. omega arith) d (list_damage u format.nodes_file d told)))

-- the meta record of the indexes is none of the names
pub index_beside : (s u : State) → KeepsButNames s u → meta_of u format.index_file ≡ meta_of s format.index_file
index_beside s u keeps = ap meta_records.meta_of (keeps (meta_key_of format.index_file) (λ e. omega arith) (λ e. let f : format.index_file ≡ format.names_file =
    ap (λ (k : Key). k.id) e in omega arith))
