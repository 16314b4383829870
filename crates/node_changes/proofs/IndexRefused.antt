-- Why no index is made, in a store and over any records.
use Rattle.std.specs.Prelude.{slice_get}
use Rattle.std.proofs.Common.{◌≡◌, ⊎_elim, ℕ, ◌+◌, ◌<◌, ◌≤◌, Some, List, [], ◌∷◌, ◌++◌, length, Contains, ap, sym, ◌∙◌, subst, inl, inr, arith, refl}
use Rattle.std.proofs.lemmas.Bool.{cases_lt}
use Rattle.std.proofs.lemmas.List.{length-append}
use Rattle.plain_graph.specs.Graph.{UsesName}
use Rattle.plain_graph.specs.Refusals.{most_names}
use Rattle.plain_graph.specs.declared.command.Command.TheVariants as commands
use Rattle.rec_bytes.specs.Format as format
use Rattle.rec_bytes.specs.RecordFiles.{room_of}
use Rattle.rec_bytes.specs.Space.{SameButReads, State, meta_of}
use Rattle.rec_bytes.specs.declared.meta.Meta.{Meta}
use Rattle.rec_bytes.specs.declared.shape.Shape.{Shape}
use Rattle.name_store.specs.Interning.{IsFullFault, interned}
use Rattle.name_store.specs.declared.intern_fault.InternFault.{InternFault}
use Rattle.name_store.specs.declared.intern_fault.InternFault.TheVariants as intern
use Rattle.prop_index.specs.MakeFault as makes_fault
use Rattle.prop_index.specs.Making.{AreManyMet, HasPairMet, IsMakeCause, IsUnwrittenFull, count_of}
use Rattle.prop_index.specs.declared.make_fault.MakeFault.{MakeFault}
use Rattle.prop_index.specs.declared.make_fault.MakeFault.TheVariants as makes
use Rattle.change_parts.specs.Assigning.{LacksNames}
use Rattle.change_parts.specs.Causes.{IsCaused}
use Rattle.change_parts.specs.Change.{IsCounted}
use Rattle.change_parts.specs.ChangeFault.{LeavesSpace, of_intern, of_make}
use Rattle.change_parts.specs.Damage.{BlamesBroken}
use Rattle.change_parts.specs.declared.change_fault.ChangeFault.{ChangeFault}
use Rattle.change_parts.specs.declared.change_fault.ChangeFault.TheVariants.{NoNode, NoEdge, HasRelationships, IndexThere}
use Rattle.change_parts.specs.declared.change_fault.ChangeFault.TheVariants.{TooManyIndexes, IndexTooLarge, Full}
use Rattle.change_parts.specs.declared.change_fault.ChangeFault.TheVariants.{NamesFull, PropsFull, Memory, Disk, Damaged}
use Rattle.change_parts.proofs.Adding.{index_beside, interned_beside, names_then}
use Rattle.change_parts.proofs.Interned.{shape_interned}
use Rattle.prop_store.specs.FileChange.{IsSameBeside}
use Rattle.prop_store.proofs.FileSteps.{beside_then}

-- ---- names

-- where there are as many names as there may be, a key that is none of them is too many
pub second_lacks : (a b : List (List ℕ)) (label key : List ℕ) → UsesName a label b → length b ≡ most_names → ¬ Contains b key → LacksNames a (label ∷ key ∷ [])
second_lacks a b label key uses full lacks =
    (b ++ key ∷ [], (b, uses, (b ++ key ∷ [], inr (lacks, refl), refl)), omega (arith, full, length-append b (key ∷ [])))

pub name_caused : (s t : State) (old now names : List (List ℕ)) (label key text : List ℕ)
    → (length names ≡ most_names → ¬ Contains names text → LacksNames old (label ∷ key ∷ [])) → (fault : InternFault) → IsFullFault names text fault
    → IsCaused (commands.Index label key) s t old now (of_intern fault)
name_caused s t old now names label key text lacks (intern.NamesFull count) why = (lacks why.all why.new, why.is ∙ why.all)
name_caused s t old now names label key text lacks intern.Memory why = tt
name_caused s t old now names label key text lacks intern.Disk why = tt

-- ---- the index

-- What is so after the label and the key became names with these numbers, by the space as it was.
pub record IsNamedFor (s m : State) (now : List (List ℕ)) (label key : List ℕ) (l k : ℕ) : Type 0 where
  pub label_at : slice_get now l ≡ Some label
  pub key_at : slice_get now k ≡ Some key
  pub count : count_of m.records l k ≡ count_of s.records l k
  pub meta : meta_of m format.index_file ≡ meta_of s format.index_file
  pub shape : m.shape ≡ s.shape
  pub free : ¬ HasPairMet m.records l k
  pub few : ¬ AreManyMet m.records

-- The space `m` is that with the new names.
module _ (m : State) (old now : List (List ℕ)) (label key : List ℕ) (l k : ℕ) where
  pub make_caused : (s t : State) → IsNamedFor s m now label key l k → (fault : MakeFault) → IsMakeCause m l k fault
      → IsCaused (commands.Index label key) s t old now (of_make fault)
  make_caused s t named makes.There why = absurd (named.free why)
  make_caused s t named makes.Many why = absurd (named.few why)
  make_caused s t named (makes.TooLarge count) why =
      (why.1, record { label_number = l; key_number = k; label_named = named.label_at; key_named = named.key_at; count_is = why.0 ∙ named.count })
  make_caused s t named (makes.Full live) why =
      let taken = 13 + count_of m.records l k in
      let past = ⊎_elim
      (λ (lt : room_of m.shape format.index_file < (meta_of m format.index_file).live + taken). lt)
      (λ (fits : (meta_of m format.index_file).live + taken ≤ room_of m.shape format.index_file). absurd (why.1 fits))
      (cases_lt (room_of m.shape format.index_file) ((meta_of m format.index_file).live + taken)) in
      let count_is = named.count in
      let live_is = ap (λ (r : Meta). r.live) named.meta in
      let room_is = ap (λ (h : Shape). room_of h format.index_file) named.shape in
      inl (
        13 + count_of s.records l k,
        (
          refl,
          (
            count_of s.records l k,
            record { label_number = l; key_number = k; label_named = named.label_at; key_named = named.key_at; count_is = refl },
            refl,
          ),
        ),
        record { is = ap (λ n. Full format.index_file n) (why.0 ∙ live_is); lacks = omega (arith, past, count_is, live_is, room_is) },
      )
  make_caused s t named makes.Memory why = tt
  make_caused s t named makes.Disk why = tt
  make_caused s t named (makes.Damaged damage) why = tt

  -- so it is by the space as it is left
  pub make_still : (s t : State) → IsNamedFor s m now label key l k → count_of t.records l k ≡ count_of m.records l k → (fault : MakeFault)
      → IsUnwrittenFull m t fault → IsMakeCause m l k fault → IsCaused (commands.Index label key) t t old now (of_make fault)
  make_still s t named same makes.There left why = absurd (named.free why)
  make_still s t named same makes.Many left why = absurd (named.few why)
  make_still s t named same (makes.TooLarge count) left why =
      (why.1, record { label_number = l; key_number = k; label_named = named.label_at; key_named = named.key_at; count_is = why.0 ∙ sym same })
  make_still s t named same (makes.Full live) left why =
      make_caused t t (subst (λ (z : State). IsNamedFor z m now label key l k) (sym left)
      (record { label_at = named.label_at; key_at = named.key_at; count = refl; meta = refl; shape = refl; free = named.free; few = named.few })) (makes.Full
      live) why
  make_still s t named same makes.Memory left why = tt
  make_still s t named same makes.Disk left why = tt
  make_still s t named same (makes.Damaged damage) left why = tt

  pub make_leaves : (s t : State) → IsNamedFor s m now label key l k → (fault : MakeFault) → IsMakeCause m l k fault → LeavesSpace s t (of_make fault)
  make_leaves s t named makes.There why = absurd (named.free why)
  make_leaves s t named makes.Many why = absurd (named.few why)
  make_leaves s t named (makes.TooLarge count) why = tt
  make_leaves s t named (makes.Full live) why = tt
  make_leaves s t named makes.Memory why = tt
  make_leaves s t named makes.Disk why = tt
  make_leaves s t named (makes.Damaged damage) why = tt

pub make_blamed : (t : State) (fault : MakeFault) → makes_fault.BlamesBroken t.records t.shape fault → BlamesBroken t (of_make fault)
make_blamed t makes.There told = tt
make_blamed t makes.Many told = tt
make_blamed t (makes.TooLarge count) told = tt
make_blamed t (makes.Full live) told = tt
make_blamed t makes.Memory told = tt
make_blamed t makes.Disk told = tt
make_blamed t (makes.Damaged damage) told = told

-- ---- what a refusal leaves

pub name_leaves : (s t : State) (fault : InternFault) → LeavesSpace s t (of_intern fault)
name_leaves s t (intern.NamesFull count) = tt
name_leaves s t intern.Memory = tt
name_leaves s t intern.Disk = tt

-- ---- what follows of each

-- names leave all other records
pub records_named : (s p m t : State) (old now : List (List ℕ)) (label key : List ℕ) → SameButReads s p → m ≡ interned p old label → t ≡ interned m now key
    → IsSameBeside format.names_file s.records t.records
records_named s p m t old now label key read first second =
    subst (λ r. IsSameBeside format.names_file r t.records) (ap (λ (z : State). z.records) read)
    (beside_then format.names_file p.records m.records t.records (interned_beside p m old label first) (interned_beside m t now key second))

-- and the shape
pub shape_named : (s p m t : State) (old now : List (List ℕ)) (label key : List ℕ) → SameButReads s p → m ≡ interned p old label → t ≡ interned m now key
    → t.shape ≡ s.shape
shape_named s p m t old now label key read first second =
    shape_interned m t now key second ∙ shape_interned p m old label first ∙ ap (λ (z : State). z.shape) read

-- names leave what the meta record of the indexes says
pub meta_named : (s p m t : State) (old now : List (List ℕ)) (label key : List ℕ) → SameButReads s p → m ≡ interned p old label → t ≡ interned m now key
    → meta_of t format.index_file ≡ meta_of s format.index_file
meta_named s p m t old now label key read first second =
    index_beside p t (names_then p m t (interned_beside p m old label first) (interned_beside m t now key second))
    ∙ ap (λ (z : State). meta_of z format.index_file) read

-- the count that a refusal tells is so
pub caused_counted : (s t : State) (old now : List (List ℕ)) (label key : List ℕ) (fault : ChangeFault) → IsCaused (commands.Index label key) s t old now fault
    → IsCounted s fault
caused_counted s t old now label key (NoNode id) why = tt
caused_counted s t old now label key (NoEdge id) why = tt
caused_counted s t old now label key (HasRelationships id degree) why = why.1
caused_counted s t old now label key IndexThere why = tt
caused_counted s t old now label key TooManyIndexes why = tt
caused_counted s t old now label key (IndexTooLarge count) why = tt
caused_counted s t old now label key (Full file live) (inl lacks) = let is = lacks.2.is in cc
caused_counted s t old now label key (Full file live) (inr late) = absurd late.0
caused_counted s t old now label key (NamesFull count) why = why.1
caused_counted s t old now label key (PropsFull count) why = why.1
caused_counted s t old now label key Memory why = tt
caused_counted s t old now label key Disk why = tt
caused_counted s t old now label key (Damaged damage) why = tt
