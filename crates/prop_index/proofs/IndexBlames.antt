-- What a search of the indexes blames, as a breach of a rule.
use Rattle.std.proofs.Common.{◌≡◌, ◌≢◌, ◌⊎◌, ℕ, ◌+◌, ◌%◌, ◌<◌, ◌≤◌, List, [], ◌∷◌, ◌++◌, length, length-append, map, refl, sym, ap, ◌∙◌, subst}
use Rattle.std.proofs.Common.{⊎_elim, inl, inr, arith}
use Rattle.std.specs.Prelude.{IfErr, Result, Ok, Err}
use Rattle.std.specs.Result.{IsErrAnd}
use Rattle.std.proofs.lemmas.List.{map-append}
use Rattle.std.proofs.lemmas.Result.{err_from_is_err_and}
use Rattle.id_freelist.specs.TakeFault as takes
use Rattle.id_freelist.specs.Taking.{BadNext, InUse, IsTakeFault, Overcounted, Undercounted, Unlisted, Unranged}
use Rattle.id_freelist.specs.declared.take_fault.TakeFault.{TakeFault}
use Rattle.id_freelist.specs.declared.take_fault.TakeFault.TheVariants as take
use Rattle.rec_bytes.specs.declared.space.SpaceFault.{SpaceFault}
use Rattle.rec_bytes.specs.declared.space.SpaceFault.TheVariants as spaces
use Rattle.rec_bytes.specs.declared.damage.Damage.{Damage}
use Rattle.rec_bytes.specs.declared.fault.Fault.{Fault}
use Rattle.rec_bytes.specs.declared.fault.Fault.TheVariants.{Memory, Disk, Damaged}
use Rattle.rec_bytes.specs.declared.shape.Shape.{Shape}
use Rattle.rec_bytes.specs.Format as format
use Rattle.rec_bytes.specs.Record.{field}
use Rattle.rec_bytes.specs.RecordFiles.{room_of}
use Rattle.rec_bytes.specs.Space.{SameButReads, State}
use Rattle.store_rules.specs.Breaking.{Breaks, BreaksAny}
use Rattle.store_rules.specs.Breaking.Breaks.{RecordRange, WrongMeta}
use Rattle.store_rules.specs.Chains.{In, IsWalk}
use Rattle.store_rules.specs.IndexBreaking.{HasDefinitions, IndexBreaks, LeadsToDefinition, LeadsToEntry}
use Rattle.store_rules.specs.IndexBreaking.IndexBreaks.{LateEntry, OtherDefinition, OtherEntry, OtherHead, WrongDefinitions}
use Rattle.store_rules.specs.IndexBreaking.LeadsToDefinition.{FirstDefinition, NextDefinition}
use Rattle.store_rules.specs.IndexBreaking.LeadsToEntry.{FirstEntry, NextEntry}
use Rattle.store_rules.specs.Indexes.{first_definition, heads_of, index_rec, next_definition, next_entry, previous_entry}
use Rattle.store_rules.specs.Views.{Records, high, key_in, kind_at}
use Rattle.store_rules.proofs.IndexPointers as links
use Rattle.store_rules.proofs.LinkFits.{IsLow}
use Rattle.store_rules.proofs.OnceLaws.{in_parts}
use Rattle.store_rules.proofs.ViewLaws.{kind_below, kind_low}
use Rattle.prop_index.specs.Blaming.{BlamesBroken, TakeBlamesBroken}
use Rattle.prop_store.specs.Fault as props
use Rattle.prop_store.specs.GivenOut as given
use Rattle.prop_index.specs.Blaming.{IsDefinitionAt, IsEntryAt, IsOfIndexes, NamesIndexes, TakeNamesIndexes}
use Rattle.prop_index.specs.Entering.{of_read}
use Rattle.prop_index.specs.Finding.{IsPair, LeadsToNone}
use Rattle.prop_index.specs.Heads.{IsBucketMet}
use Rattle.prop_index.specs.Listing.{ArePairsMet, pair_of}
use Rattle.prop_index.specs.Reading.{HighMark, IsReadFault, LeadsNowhere, OtherKind, damage_of}
use Rattle.prop_index.specs.declared.heads.Bucket.{Bucket}
use Rattle.prop_index.specs.declared.listing.IndexPair.{IndexPair}
use Rattle.prop_index.proofs.Buckets.{bucket-first}

-- ---- records of the index by the first rule

pub index_mark : (s : State) → room_of s.shape format.index_file < high s.records format.index_file
    → Breaks s.records s.shape (damage_of format.meta_file format.index_file 1)
index_mark s over = WrongMeta format.index_file (omega arith) (λ k. let h = (k.since (omega arith)).high in omega arith)

pub nodes_mark : (s : State) → room_of s.shape format.nodes_file < high s.records format.nodes_file
    → Breaks s.records s.shape (damage_of format.meta_file format.nodes_file 1)
nodes_mark s over = WrongMeta format.nodes_file (omega arith) (λ k. let h = k.high in omega arith)

none_past : (mark to : ℕ) → mark ≤ to → to ≢ format.nil → IsLow mark to → ⊥
none_past mark to le some low = ⊎_elim some (λ (lt : to < mark). omega arith) low

module _ (s : State) (x kind : ℕ) (used : kind_at s.records format.index_file x ≡ kind) (some : kind ≢ 0) where
  below : x < high s.records format.index_file
  below = kind_below (high s.records format.index_file) (index_rec s.records x) x (λ e. some (sym used ∙ e))

  byte : field 1 (index_rec s.records x) format.kind ≡ kind
  byte = sym (kind_low (high s.records format.index_file) (index_rec s.records x) x below) ∙ used

definition_some : format.definition ≢ 0
definition_some e = omega (arith, e)

heads_some : format.heads ≢ 0
heads_some e = omega (arith, e)

indexed_some : format.indexed ≢ 0
indexed_some e = omega (arith, e)

-- ---- the chain of the definitions

pub definition_begins : (s : State) (at : ℕ) → at ≡ first_definition s.records → IsDefinitionAt s at (damage_of format.meta_file format.index_file 1)
definition_begins s at is = record {
  leads = λ some. FirstDefinition at (sym is) some;
  past = λ some le. WrongMeta format.index_file (omega arith)
      (λ k. none_past (high s.records format.index_file) at le some (subst (IsLow (high s.records format.index_file)) (sym is)
      ((k.since (omega arith)).first refl)));
}

module _ (s : State) (at : ℕ) (named : Damage) (h : IsDefinitionAt s at named) (some : at ≢ format.nil) where
  pub definition_goes_on : (to : ℕ) → kind_at s.records format.index_file at ≡ format.definition → to ≡ next_definition s.records at
      → IsDefinitionAt s to (damage_of format.index_file at 1)
  definition_goes_on to used is = record {
    leads = λ more. NextDefinition at to (h.leads some) used (sym is) more;
    past = λ more le. RecordRange format.index_file at refl (below s at format.definition used definition_some)
        (λ fits. none_past (high s.records format.index_file) to le more (subst (IsLow (high s.records format.index_file)) (sym is)
        (links.definition_next_low (high s.records) (index_rec s.records at) fits (byte s at format.definition used definition_some))));
  }

  pub definition_blames : (fault : Fault) → IsReadFault s at format.definition named fault → BlamesBroken s.records s.shape fault
  definition_blames Memory why = tt
  definition_blames Disk why = tt
  definition_blames (Damaged d) (LeadsNowhere le) = inl (h.past some le)
  definition_blames (Damaged d) (HighMark over) = inl (index_mark s over)
  definition_blames (Damaged d) (OtherKind low other) = inr (OtherDefinition at (h.leads some) low other)

pub many_break : (s : State) → ¬ HasDefinitions s.records → BreaksAny s.records s.shape (damage_of format.meta_file format.index_file 8)
many_break s bad = inr (WrongDefinitions bad)

-- ---- records of heads

pub heads_blames : (s : State) (d c id : ℕ) → LeadsToDefinition s.records d → kind_at s.records format.index_file d ≡ format.definition → c < 12
    → id ≡ heads_of s.records d c
    → (fault : Fault) → IsReadFault s id format.heads (damage_of format.index_file d 1) fault → BlamesBroken s.records s.shape fault
heads_blames s d c id leads used low is Memory why = tt
heads_blames s d c id leads used low is Disk why = tt
heads_blames s d c id leads used low is (Damaged _) (LeadsNowhere le) =
    inl (RecordRange format.index_file d refl (below s d format.definition used definition_some)
    (λ fits. let k = links.definition_heads_low (high s.records) (index_rec s.records d) fits (byte s d format.definition used definition_some) c low in omega
    (arith, k, le, is)))
heads_blames s d c id leads used low is (Damaged _) (HighMark over) = inl (index_mark s over)
heads_blames s d c id leads used low is (Damaged _) (OtherKind given other) =
    inr (subst (λ z. IndexBreaks s.records (damage_of format.index_file z 8)) (sym is) (OtherHead d c leads used low
    (subst (λ z. z < high s.records format.index_file) is given) (λ e. other (ap (kind_at s.records format.index_file) is ∙ e))))

-- ---- the entries of a bucket

pub entry_begins : (s : State) (label key number : ℕ) (bucket : Bucket) (met : IsBucketMet s.records label key number bucket)
    → IsEntryAt s met.definition number 0 bucket.first (damage_of format.index_file bucket.slot.id 1)
entry_begins s label key number bucket met =
    let first = bucket-first s.records met.definition number bucket met.is in
    let used = met.is.head.heads in
    record {
      leads = λ some. FirstEntry bucket.first met.has (sym first) some;
      past = λ some le. RecordRange format.index_file bucket.slot.id refl (below s bucket.slot.id format.heads used heads_some)
          (λ fits. none_past (high s.records format.index_file) bucket.first le some
          (subst (IsLow (high s.records format.index_file)) (sym (met.is.head.first_is ∙ ap (field 4 (index_rec s.records bucket.slot.id)) met.is.place_is))
          (links.heads_first_low (high s.records) (index_rec s.records bucket.slot.id) fits (byte s bucket.slot.id format.heads used heads_some) (number % 15)
          (omega arith))));
    }

module _ (s : State) (d b count at : ℕ) (named : Damage) (h : IsEntryAt s d b count at named) (some : at ≢ format.nil) where
  pub entry_goes_on : (to : ℕ) → kind_at s.records format.index_file at ≡ format.indexed → to ≡ next_entry s.records at
      → IsEntryAt s d b (count + 1) to (damage_of format.index_file at 1)
  entry_goes_on to used is = record {
    leads = λ more. subst (λ n. LeadsToEntry s.records d b n to) (omega arith) (NextEntry count at to (h.leads some) used (sym is) more);
    past = λ more le. RecordRange format.index_file at refl (below s at format.indexed used indexed_some)
        (λ fits. none_past (high s.records format.index_file) to le more (subst (IsLow (high s.records format.index_file)) (sym is)
        (links.entry_next_low (high s.records) (index_rec s.records at) fits (byte s at format.indexed used indexed_some))));
  }

  pub entry_blames : (fault : Fault) → IsReadFault s at format.indexed named fault → BlamesBroken s.records s.shape fault
  entry_blames Memory why = tt
  entry_blames Disk why = tt
  entry_blames (Damaged _) (LeadsNowhere le) = inl (h.past some le)
  entry_blames (Damaged _) (HighMark over) = inl (index_mark s over)
  entry_blames (Damaged _) (OtherKind low other) = inr (OtherEntry d b count at (h.leads some) low other)

  pub late_breaks : high s.records format.index_file ≤ count → BreaksAny s.records s.shape (damage_of format.index_file at 8)
  late_breaks late = inr (LateEntry d b count at (h.leads some) late)

-- ---- the pairs of the definitions that were passed

abbrev IsPast : (ℕ → ℕ) → ℕ → List ℕ → ℕ → Type 0
IsPast next from [] at = from ≡ at
IsPast next from (x ∷ xs) at = (from ≡ x) × (x ≢ format.nil) × IsPast next (next x) xs at

past_on : (next : ℕ → ℕ) (from : ℕ) (xs : List ℕ) (at to : ℕ) → at ≢ format.nil → to ≡ next at → IsPast next from xs at → IsPast next from (xs ++ at ∷ []) to
past_on next from [] at to some is past = (past, some, sym is)
past_on next from (x ∷ xs) at to some is past = (past.0, past.1, past_on next (next x) xs at to some is past.2)

past_walk : (next : ℕ → ℕ) (from : ℕ) (xs : List ℕ) (at : ℕ) → at ≡ format.nil → IsPast next from xs at → IsWalk next from xs
past_walk next from [] at end past = past ∙ end
past_walk next from (x ∷ xs) at end past = (past.0, past.1, past_walk next (next x) xs at end past.2)

pub record ArePairsPast (records : Records) (at : ℕ) (pairs : List IndexPair) : Type 0 where
  pub passed : List ℕ
  pub past : IsPast (next_definition records) (first_definition records) passed at
  pub defined : (d : ℕ) → In d passed → kind_at records format.index_file d ≡ format.definition
  pub pairs_are : pairs ≡ map (pair_of records) passed

pub pairs_begin : (records : Records) (at : ℕ) (pairs : List IndexPair) → at ≡ first_definition records → pairs ≡ [] → ArePairsPast records at pairs
pairs_begin records at pairs is none = record { passed = []; past = sym is; defined = λ d i. absurd i; pairs_are = none }

pub pairs_go_on : (records : Records) (at to : ℕ) (pairs more : List IndexPair) (pair : IndexPair) → ArePairsPast records at pairs → at ≢ format.nil
    → kind_at records format.index_file at ≡ format.definition
    → to ≡ next_definition records at → more ≡ pairs ++ pair ∷ [] → pair ≡ pair_of records at → ArePairsPast records to more
pairs_go_on records at to pairs more pair h some used is pushed pair_is = record {
  passed = h.passed ++ at ∷ [];
  past = past_on (next_definition records) (first_definition records) h.passed at to some is h.past;
  defined = λ d i. ⊎_elim (λ (j : In d h.passed). h.defined d j)
      (λ (j : In d (at ∷ [])). ⊎_elim (λ (e : d ≡ at). ap (kind_at records format.index_file) e ∙ used) (λ (k : ⊥). absurd k) j)
      (in_parts d h.passed (at ∷ []) i);
  pairs_are = pushed ∙ (λ i. h.pairs_are i ++ pair_is i ∷ []) ∙ sym (map-append (pair_of records) h.passed (at ∷ []));
}

pub pairs_end : (records : Records) (at : ℕ) (pairs : List IndexPair) → ArePairsPast records at pairs → at ≡ format.nil → ArePairsMet records pairs
pairs_end records at pairs h end = record {
  definitions = h.passed;
  walk = past_walk (next_definition records) (first_definition records) h.passed at end h.past;
  defined = h.defined;
  pairs_are = h.pairs_are;
}

-- The chain leads past definitions of other pairs.
pub record AreOthersPast (records : Records) (label key at count : ℕ) : Type 0 where
  pub passed : List ℕ
  pub counted : length passed ≡ count
  pub past : IsPast (next_definition records) (first_definition records) passed at
  pub defined : (d : ℕ) → In d passed → kind_at records format.index_file d ≡ format.definition
  pub none : (d : ℕ) → In d passed → ¬ IsPair records label key d

pub others_begin : (records : Records) (label key at : ℕ) → at ≡ first_definition records → AreOthersPast records label key at 0
others_begin records label key at is = record { passed = []; counted = refl; past = sym is; defined = λ d i. absurd i; none = λ d i. absurd i }

pub others_go_on : (records : Records) (label key at to count : ℕ) → AreOthersPast records label key at count → at ≢ format.nil
    → kind_at records format.index_file at ≡ format.definition
    → to ≡ next_definition records at → ¬ IsPair records label key at → AreOthersPast records label key to (count + 1)
others_go_on records label key at to count h some used is other = record {
  passed = h.passed ++ at ∷ [];
  counted = let n = h.counted in let k = length-append h.passed (at ∷ []) in omega (arith, n, k);
  past = past_on (next_definition records) (first_definition records) h.passed at to some is h.past;
  defined = λ d i. ⊎_elim (λ (j : In d h.passed). h.defined d j)
      (λ (j : In d (at ∷ [])). ⊎_elim (λ (e : d ≡ at). ap (kind_at records format.index_file) e ∙ used) (λ (k : ⊥). absurd k) j)
      (in_parts d h.passed (at ∷ []) i);
  none = λ d i pair. ⊎_elim (λ (j : In d h.passed). h.none d j pair)
      (λ (j : In d (at ∷ [])). ⊎_elim (λ (e : d ≡ at). other (subst (IsPair records label key) e pair)) (λ (k : ⊥). k) j) (in_parts d h.passed (at ∷ []) i);
}

pub others_end : (records : Records) (label key at count : ℕ) → AreOthersPast records label key at count → count ≤ 16 → at ≡ format.nil
    → LeadsToNone records label key
others_end records label key at count h few end = record {
  definitions = h.passed;
  few = let n = h.counted in omega (arith, n, few);
  walk = past_walk (next_definition records) (first_definition records) h.passed at end h.past;
  defined = h.defined;
  none = h.none;
}

-- ---- after reads

pub read_fault_same : (s t : State) (id kind : ℕ) (named : Damage) → SameButReads s t → (fault : Fault) → IsReadFault t id kind named fault
    → IsReadFault s id kind named fault
read_fault_same s t id kind named same Memory why = tt
read_fault_same s t id kind named same Disk why = tt
read_fault_same s t id kind named same (Damaged _) (LeadsNowhere le) = LeadsNowhere (subst (λ (z : State). high z.records format.index_file ≤ id) same le)
read_fault_same s t id kind named same (Damaged _) (HighMark over) = HighMark
    (subst (λ (z : State). room_of z.shape format.index_file < high z.records format.index_file) same over)
read_fault_same s t id kind named same (Damaged _) (OtherKind low other) =
    OtherKind (subst (λ (z : State). id < high z.records format.index_file) same low)
    (subst (λ (z : State). kind_at z.records format.index_file id ≢ kind) same other)

pub blames_reread : (s t : State) (fault : Fault) → SameButReads s t → BlamesBroken s.records s.shape fault → BlamesBroken t.records t.shape fault
blames_reread s t fault same is = subst (λ (z : State). BlamesBroken z.records z.shape fault) (sym same) is

pub blames_before : (s t : State) (fault : Fault) → SameButReads s t → BlamesBroken t.records t.shape fault → BlamesBroken s.records s.shape fault
blames_before s t fault same is = subst (λ (z : State). BlamesBroken z.records z.shape fault) same is

pub entry_reread : (s t : State) (d b count at : ℕ) (named : Damage) → SameButReads s t → IsEntryAt s d b count at named → IsEntryAt t d b count at named
entry_reread s t d b count at named same h =
    let here : IsEntryAt (record s { reads = t.reads }) d b count at named = record { leads = h.leads; past = h.past } in
    subst (λ (z : State). IsEntryAt z d b count at named) (sym same) here

-- what crates below blame breaks one of the first seven
pub any_read : (records : Records) (shape : Shape) (fault : Fault) → props.BlamesBroken records shape fault → BlamesBroken records shape fault
any_read records shape Memory is = tt
any_read records shape Disk is = tt
any_read records shape (Damaged d) is = inl is

pub any_take : (records : Records) (shape : Shape) (fault : TakeFault) → takes.BlamesBroken records shape fault → TakeBlamesBroken records shape fault
any_take records shape (take.Full file live) is = tt
any_take records shape take.Memory is = tt
any_take records shape take.Disk is = tt
any_take records shape (take.Damaged d) is = inl is

-- ---- results

pub if_err : {T E : Type 0} {P Q : E → Type 0} (r : Result T E) → ((e : E) → P e → Q e) → IfErr r P → IfErr r Q
if_err (Ok x) f is = tt
if_err (Err e) f is = f e is

-- a fault of records that are read, as one of a change
pub read_blames : (records : Records) (shape : Shape) (fault : Fault) → BlamesBroken records shape fault → TakeBlamesBroken records shape (of_read fault)
read_blames records shape Memory is = tt
read_blames records shape Disk is = tt
read_blames records shape (Damaged d) is = is

pub take_has : {T : Type 0} (P : TakeFault → Type 0) (r : Result T TakeFault) (fault : TakeFault) → IsErrAnd r (λ f. f ≡ fault) → P fault → IfErr r P
take_has {T} P r fault h has = let p = err_from_is_err_and r h in subst (λ (z : Result T TakeFault). IfErr z P) (sym p.1) (subst P (sym p.2) has)

-- a fault of the space blames no record
pub space_take : {T : Type 0} (records : Records) (shape : Shape) (r : Result T TakeFault) (fault : SpaceFault) → IsErrAnd r (λ f. f ≡ takes.of_space fault)
    → IfErr r (TakeBlamesBroken records shape)
space_take records shape r fault h = take_has (TakeBlamesBroken records shape) r (takes.of_space fault) h (by fault)
  where
    by : (fault : SpaceFault) → TakeBlamesBroken records shape (takes.of_space fault)
    by spaces.Memory = tt
    by spaces.Disk = tt

pub take_reread : (s t : State) (fault : TakeFault) → SameButReads s t → TakeBlamesBroken s.records s.shape fault → TakeBlamesBroken t.records t.shape fault
take_reread s t fault same is = subst (λ (z : State). TakeBlamesBroken z.records z.shape fault) (sym same) is

pub take_before : (s t : State) (fault : TakeFault) → SameButReads s t → TakeBlamesBroken t.records t.shape fault → TakeBlamesBroken s.records s.shape fault
take_before s t fault same is = subst (λ (z : State). TakeBlamesBroken z.records z.shape fault) same is

-- ---- which records are blamed

pub read_names : (s : State) (id kind : ℕ) (named : Damage) (fault : Fault) → IsOfIndexes named → IsReadFault s id kind named fault → NamesIndexes fault
read_names s id kind named Memory is why = tt
read_names s id kind named Disk is why = tt
read_names s id kind named (Damaged _) is (LeadsNowhere le) = is
read_names s id kind named (Damaged _) is (HighMark over) = inr (refl, refl)
read_names s id kind named (Damaged _) is (OtherKind low other) = inl refl

pub take_names : (s : State) (fault : TakeFault) → IsTakeFault s format.index_file fault → TakeNamesIndexes fault
take_names s (take.Full file live) why = tt
take_names s take.Memory why = tt
take_names s take.Disk why = tt
take_names s (take.Damaged _) (Unranged bad) = inr (refl, refl)
take_names s (take.Damaged _) (Unlisted x none less unused) = inl refl
take_names s (take.Damaged _) (Undercounted none less all) = inr (refl, refl)
take_names s (take.Damaged _) (Overcounted more too) = inr (refl, refl)
take_names s (take.Damaged _) (InUse some used) = inr (refl, refl)
take_names s (take.Damaged _) (BadNext some unused more past) = inl refl

pub space_names : (fault : SpaceFault) → TakeNamesIndexes (takes.of_space fault)
space_names spaces.Memory = tt
space_names spaces.Disk = tt

pub of_read_names : (fault : Fault) → NamesIndexes fault → TakeNamesIndexes (of_read fault)
of_read_names Memory is = tt
of_read_names Disk is = tt
of_read_names (Damaged d) is = is
