-- Where a bucket is no list, its index breaks the eighth rule, and what a change of an entry names.
use Rattle.std.proofs.Common.{◌≡◌, ◌≢◌, ◌⊎◌, ℕ, ◌+◌, ◌/◌, ◌<◌, ◌≤◌, suc, List, [], ◌∷◌, length, refl, sym, ap, ◌∙◌, subst, ⊎_elim, inl, inr, arith}
use Rattle.std.specs.Prelude.{Result, Ok, Err, IfErr, IfSome}
use Rattle.fault_count.specs.Cause.{Rose}
use Rattle.rec_bytes.specs.Fault as faults
use Rattle.rec_bytes.specs.Fault.{HasFaultCause, NotDamaged}
use Rattle.rec_bytes.specs.declared.damage.Damage.{Damage}
use Rattle.rec_bytes.specs.declared.fault.Fault.{Fault}
use Rattle.rec_bytes.specs.declared.fault.Fault.TheVariants.{Damaged, Disk, Memory}
use Rattle.rec_bytes.specs.declared.record.Rec.{Rec}
use Rattle.rec_bytes.specs.Format as format
use Rattle.rec_bytes.specs.Meta.{IsLinkBelow}
use Rattle.rec_bytes.specs.RecordFiles.{room_of}
use Rattle.rec_bytes.specs.Space.{SameButReads, State, meta_of}
use Rattle.id_freelist.specs.FreeLists.{IsFreeList}
use Rattle.id_freelist.specs.ListDamage.{BlamesList, IsListDamage, OutOfRange}
use Rattle.id_freelist.specs.Taking.{CanTake, IsRanged}
use Rattle.id_freelist.specs.declared.take_fault.TakeFault.{TakeFault}
use Rattle.id_freelist.specs.declared.take_fault.TakeFault.TheVariants as take
use Rattle.store_rules.specs.Breaking.{BreaksAny}
use Rattle.store_rules.specs.Breaking.Breaks.{WrongMeta, WrongDefinition as WrongNames}
use Rattle.store_rules.specs.Chains.{In, IsChain, IsWalk}
use Rattle.store_rules.specs.IndexBreaking.{AreDefinitions, DefinitionKeeps, HasDefinitions, HasHead, IsAmongDefinitions, IsBucketList}
use Rattle.store_rules.specs.IndexBreaking.{LeadsToDefinition, LeadsToEntry}
use Rattle.store_rules.specs.IndexBreaking.IndexBreaks.{WrongDefinition}
use Rattle.store_rules.specs.IndexBreaking.LeadsToDefinition.{FirstDefinition, NextDefinition}
use Rattle.store_rules.specs.IndexBreaking.LeadsToEntry.{FirstEntry, NextEntry}
use Rattle.store_rules.specs.Indexes.{AreIndexed, Entries, first_definition, first_entry, heads_of, next_definition, next_entry, previous_entry}
use Rattle.store_rules.specs.Views.{Records, high, kind_at, rec_at}
use Rattle.store_rules.proofs.ChainLaws.{walk_of_chain}
use Rattle.store_rules.proofs.ChainSteps.{after_in, first_before, first_in}
use Rattle.store_rules.proofs.IndexParts.{definitions_same}
use Rattle.store_rules.proofs.Members.{length-once_below}
use Rattle.store_rules.proofs.MetaLaws.{high_fits}
use Rattle.store_rules.proofs.NumberLaws.{nat_cases}
use Rattle.store_rules.proofs.OnceLaws.{once_walk}
use Rattle.store_rules.proofs.ViewLaws.{kind_below}
use Rattle.prop_index.specs.Blaming.{BlamesBroken, IsEntryAt, IsOfIndexes, NamesIndexes}
use Rattle.prop_index.specs.Entering.{of_read}
use Rattle.prop_index.specs.Finding.{IsOfPair, IsPair, LeadsToNone}
use Rattle.prop_index.specs.Heads.{IsBucketMet}
use Rattle.prop_index.specs.Leaving.{IsEntryBefore, IsLedTo}
use Rattle.prop_index.specs.Naming.{BlamesBucket, BlamesDefinition, BlamesHead, BlamesIndex, BlamesMark, BlamesOther, HasWrongIndex, IsDefinition}
use Rattle.prop_index.specs.Naming.{IsMarkDamage, LacksBucket}
use Rattle.prop_index.specs.Naming.{TakeBlamesDefinition}
use Rattle.prop_index.specs.Reading.{HighMark, IsReadFault, LeadsNowhere, OtherKind, damage_of}
use Rattle.prop_index.specs.declared.heads.Bucket.{Bucket}
use Rattle.prop_index.proofs.IndexBlames.{blames_before}
use Rattle.prop_index.proofs.Reread.{definitions_after, definitions_of, same_then}

-- ---- the chain of the definitions

-- it leads to the definitions of the list alone
pub listed_of : (records : Records) (ds : List ℕ) → AreDefinitions records ds → (d : ℕ) → LeadsToDefinition records d → In d ds
listed_of records ds are d (FirstDefinition a e some) = ⊎_elim (λ nil. absurd (some (sym e ∙ nil))) (λ i. subst (λ z. In z ds) e i)
    (first_in (next_definition records) (first_definition records) ds are.walk)
listed_of records ds are d (NextDefinition c a before defined e some) = ⊎_elim (λ nil. absurd (some (sym e ∙ nil))) (λ i. subst (λ z. In z ds) e i)
    (after_in (next_definition records) (first_definition records) ds c are.walk (listed_of records ds are c before))

mark_over : (s : State) → room_of s.shape format.index_file < high s.records format.index_file
    → IsMarkDamage s (damage_of format.meta_file format.index_file 1)
mark_over s over = record { is = refl; bad = λ r. let le = r.mark in omega (arith, over, le) }

-- a read of one of them blames the mark alone
pub definition_marks : (s : State) (ds : List ℕ) → AreDefinitions s.records ds → (at : ℕ) → In at ds → (named : Damage) (fault : Fault)
    → IsReadFault s at format.definition named fault → BlamesMark s fault
definition_marks s ds are at i named Memory why = tt
definition_marks s ds are at i named Disk why = tt
definition_marks s ds are at i named (Damaged _) (LeadsNowhere le) =
    let k = are.defined at i in
    let lt = kind_below (high s.records format.index_file) (rec_at s.records format.index_file at) at (λ e. omega (arith, e, k)) in absurd
    (omega (arith, lt, le))
definition_marks s ds are at i named (Damaged _) (HighMark over) = mark_over s over
definition_marks s ds are at i named (Damaged _) (OtherKind low other) = absurd (other (are.defined at i))

pub marks_before : (s t : State) (fault : Fault) → SameButReads s t → BlamesMark t fault → BlamesMark s fault
marks_before s t Memory same is = tt
marks_before s t Disk same is = tt
marks_before s t (Damaged damage) same is =
    let here : IsMarkDamage (record s { reads = t.reads }) damage = subst (λ (z : State). IsMarkDamage z damage) same is in record {
      is = here.is;
      bad =
          here.bad;
    }

-- that is damage of the free list too
pub mark_list : (s : State) (damage : Damage) → IsMarkDamage s damage → IsListDamage s.records s.shape format.index_file damage
mark_list s damage h = subst (IsListDamage s.records s.shape format.index_file) (sym h.is) (OutOfRange h.bad)

pub mark_blames : (s : State) (fault : Fault) → BlamesMark s fault → BlamesDefinition s fault
mark_blames s Memory is = tt
mark_blames s Disk is = tt
mark_blames s (Damaged damage) is = inr (mark_list s damage is)

pub mark_index : (s : State) (label key : ℕ) (fault : Fault) → ((ds : List ℕ) → AreDefinitions s.records ds → BlamesMark s fault) → BlamesIndex s label key
    fault
mark_index s label key Memory told = tt
mark_index s label key Disk told = tt
mark_index s label key (Damaged damage) told = λ ds are. inl (told ds are)

-- ---- heads

pub heads_fault : (s : State) (d c id : ℕ) → id ≡ heads_of s.records d c → (fault : Fault) → IsReadFault s id format.heads (damage_of format.index_file d 1)
    fault
    → BlamesHead s d c fault
heads_fault s d c id is Memory why = tt
heads_fault s d c id is Disk why = tt
heads_fault s d c id is (Damaged _) (LeadsNowhere le) = inr (
  refl,
  λ e.
      let k = ap (kind_at s.records format.index_file) is ∙ e in
      let lt = kind_below (high s.records format.index_file) (rec_at s.records format.index_file id) id (λ z. omega (arith, z, k)) in omega (arith, lt, le),
)
heads_fault s d c id is (Damaged _) (HighMark over) = inl (mark_over s over)
heads_fault s d c id is (Damaged _) (OtherKind low other) = inr (refl, λ e. other (ap (kind_at s.records format.index_file) is ∙ e))

pub head_index : (s : State) (label key d c : ℕ) (rec : Rec) → IsOfPair s.records label key d rec → c < 12 → (fault : Fault) → BlamesHead s d c fault
    → BlamesIndex s label key fault
head_index s label key d c rec of low Memory told = tt
head_index s label key d c rec of low Disk told = tt
head_index s label key d c rec of low (Damaged damage) (inl mark) = λ ds are. inl mark
head_index s label key d c rec of low (Damaged damage) (inr wrong) = λ ds are. inr (
  wrong.0,
  record {
    id = d;
    listed = listed_of s.records ds are d of.leads;
    pair = of.pair;
    wrong = λ keeps. wrong.1 (keeps.heads c low);
  },
)

pub head_before : (s t : State) (d c : ℕ) (fault : Fault) → SameButReads s t → BlamesHead t d c fault → BlamesHead s d c fault
head_before s t d c Memory same is = tt
head_before s t d c Disk same is = tt
head_before s t d c (Damaged damage) same (inl mark) = inl (marks_before s t (Damaged damage) same mark)
head_before s t d c (Damaged damage) same (inr wrong) =
    inr (wrong.0, λ e. wrong.1 (subst (λ (z : State). kind_at z.records format.index_file (heads_of z.records d c) ≡ format.heads) (sym same) e))

-- ---- the entries of a bucket

-- the rest of a list that links lead through, from what they lead to after so many
record IsRest (next : ℕ → ℕ) (xs : List ℕ) (n x : ℕ) : Type 0 where
  pub rest : List ℕ
  pub walk : IsWalk next x rest
  pub within : (y : ℕ) → In y rest → In y xs
  pub count : n + length rest ≡ length xs

next_rest : (next : ℕ → ℕ) (xs : List ℕ) (n x y : ℕ) → x ≢ format.nil → IsRest next xs n x → next x ≡ y → IsRest next xs (suc n) y
next_rest next xs n x y some r e = go r.rest r.walk r.within r.count
  where
    go : (rest : List ℕ) → IsWalk next x rest → ((z : ℕ) → In z rest → In z xs) → n + length rest ≡ length xs → IsRest next xs (suc n) y
    go [] walk within count = absurd (some walk)
    go (z ∷ zs) walk within count = record {
      rest = zs;
      walk = subst (λ f. IsWalk next f zs) (ap next (sym walk.0) ∙ e) walk.2;
      within = λ q i. within q (inr i);
      count = omega (arith, count);
    }

rest_in : (next : ℕ → ℕ) (xs : List ℕ) (n x : ℕ) → x ≢ format.nil → IsRest next xs n x → In x xs × (n < length xs)
rest_in next xs n x some r = go r.rest r.walk r.within r.count
  where
    go : (rest : List ℕ) → IsWalk next x rest → ((z : ℕ) → In z rest → In z xs) → n + length rest ≡ length xs → In x xs × (n < length xs)
    go [] walk within count = absurd (some walk)
    go (z ∷ zs) walk within count = (within x (inl walk.0), omega (arith, count))

pub some_entry : (records : Records) (d b n x : ℕ) → LeadsToEntry records d b n x → x ≢ format.nil
some_entry records d b n x (FirstEntry z has e some) = some
some_entry records d b n x (NextEntry k y z before used e some) = some

module _ (records : Records) (d b : ℕ) (members : List ℕ) (list : IsBucketList records d b members) where
  rest_of : (n x : ℕ) → LeadsToEntry records d b n x → IsRest (next_entry records) members n x
  rest_of n x (FirstEntry z has e some) = record {
    rest = members;
    walk = subst (λ f. IsWalk (next_entry records) f members) e (walk_of_chain _ _ _ _ members list.chain);
    within = λ y i. i;
    count = omega arith;
  }
  rest_of n x (NextEntry k y z before used e some) = next_rest (next_entry records) members k y x (some_entry records d b k y before) (rest_of k y before) e

  -- a bucket that is a list leads to its entries alone
  pub list_member : (n x : ℕ) → LeadsToEntry records d b n x → In x members × (n < length members)
  list_member n x leads = rest_in (next_entry records) members n x (some_entry records d b n x leads) (rest_of n x leads)

  list_few : length members ≤ high records format.index_file
  list_few = length-once_below members (high records format.index_file) (once_walk _ _ members (walk_of_chain _ _ _ _ members list.chain))
      (λ y i. kind_below (high records format.index_file) (rec_at records format.index_file y) y (λ e. let k = list.kind y i in omega (arith, e, k)))

leads_first : (records : Records) (d b n x : ℕ) → LeadsToEntry records d b n x → n ≡ 0 → first_entry records d b ≡ x
leads_first records d b n x (FirstEntry z has e some) none = e
leads_first records d b n x (NextEntry k y z before used e some) none = absurd (omega (arith, none))

pub begins_first : (s : State) (d b at : ℕ) (named : Damage) → IsEntryAt s d b 0 at named → at ≢ format.nil → first_entry s.records d b ≡ at
begins_first s d b at named h some = leads_first s.records d b 0 at (h.leads some) refl

-- what comes after a member of a chain leads back to it
chain_back : (next prev : ℕ → ℕ) (b f : ℕ) (xs : List ℕ) (r : ℕ) → IsChain next prev b f xs → In r xs → next r ≢ format.nil → prev (next r) ≡ r
chain_back next prev b f [] r h i some = elim i [ ]
chain_back next prev b f (x ∷ []) r h (inl e) some = absurd (some (ap next e ∙ h.3))
chain_back next prev b f (x ∷ y ∷ ys) r h (inl e) some = ap (λ z. prev (next z)) e ∙ ap prev h.3.0 ∙ h.3.2 ∙ sym e
chain_back next prev b f (x ∷ xs) r h (inr i) some = chain_back next prev x (next x) xs r h.3 i some

pub leads_again : (r q : Records) (d b n x : ℕ) → q ≡ r → LeadsToEntry r d b n x → LeadsToEntry q d b n x
leads_again r q d b n x same leads = subst (λ (z : Records). LeadsToEntry z d b n x) (sym same) leads

pub stray_lacks : (records : Records) (d b n x : ℕ) → LeadsToEntry records d b n x → kind_at records format.index_file x ≢ format.indexed → LacksBucket records
    d b
stray_lacks records d b n x leads other members list = other (list.kind x (list_member records d b members list n x leads).0)

pub late_lacks : (records : Records) (d b n x : ℕ) → LeadsToEntry records d b n x → high records format.index_file ≤ n → LacksBucket records d b
late_lacks records d b n x leads late members list =
    let m = list_member records d b members list n x leads in let few = list_few records d b members list in omega (arith, late, m.1, few)

-- an entry that leads back to another than the one before it
pub before_lacks : (records : Records) (d b before x : ℕ) → IsLedTo records d b before x → previous_entry records x ≢ before → LacksBucket records d b
before_lacks records d b before x led other members list =
    let i = (list_member records d b members list led.count x led.leads).0 in
    ⊎_elim
    (λ (f : (before ≡ format.nil) × (first_entry records d b ≡ x)). other (first_before _ _ _ (first_entry records d b) members x list.chain i f.1 ∙ sym f.0))
    (λ (e : IsEntryBefore records d b before x).
    let some = some_entry records d b led.count x led.leads in
    let j = (list_member records d b members list e.count before e.leads).0 in
    other (ap (previous_entry records) (sym e.next) ∙ chain_back _ _ _ (first_entry records d b) members before list.chain j (λ n. some (sym e.next ∙ n))))
    led.from

pub after_lacks : (records : Records) (d b n x after : ℕ) → LeadsToEntry records d b n x → next_entry records x ≡ after → after ≢ format.nil
    → previous_entry records after ≢ x → LacksBucket records d b
after_lacks records d b n x after leads next some other members list =
    let i = (list_member records d b members list n x leads).0 in
    other (ap (previous_entry records) (sym next) ∙ chain_back _ _ _ (first_entry records d b) members x list.chain i (λ e. some (sym next ∙ e)))

-- the entry after one that a bucket leads to
pub after_fault : (s : State) (d b n x after : ℕ) → LeadsToEntry s.records d b n x → kind_at s.records format.index_file x ≡ format.indexed
    → next_entry s.records x ≡ after → after ≢ format.nil → (fault : Fault) → IsReadFault s after format.indexed (damage_of format.index_file x 1) fault
    → BlamesBucket s d b fault
after_fault s d b n x after leads used next some Memory why = tt
after_fault s d b n x after leads used next some Disk why = tt
after_fault s d b n x after leads used next some (Damaged _) (LeadsNowhere le) = inr (
  refl,
  stray_lacks s.records d b (suc n) after (NextEntry n x after leads used next some) (λ k.
      let lt = kind_below (high s.records format.index_file) (rec_at s.records format.index_file after) after (λ e. omega (arith, e, k)) in omega
      (arith, lt, le)),
)
after_fault s d b n x after leads used next some (Damaged _) (HighMark over) = inl (mark_over s over)
after_fault s d b n x after leads used next some (Damaged _) (OtherKind low other) =
    inr (refl, stray_lacks s.records d b (suc n) after (NextEntry n x after leads used next some) other)

pub mark_bucket : (s : State) (d b : ℕ) (fault : Fault) → BlamesMark s fault → BlamesBucket s d b fault
mark_bucket s d b Memory told = tt
mark_bucket s d b Disk told = tt
mark_bucket s d b (Damaged damage) told = inl told

pub entry_fault : (s : State) (d b n at : ℕ) (named : Damage) → IsEntryAt s d b n at named → at ≢ format.nil → named.file ≡ format.index_file → (fault : Fault)
    → IsReadFault s at format.indexed named fault → BlamesBucket s d b fault
entry_fault s d b n at named h some file Memory why = tt
entry_fault s d b n at named h some file Disk why = tt
entry_fault s d b n at named h some file (Damaged _) (LeadsNowhere le) = inr (
  file,
  stray_lacks s.records d b n at (h.leads some) (λ k.
      let lt = kind_below (high s.records format.index_file) (rec_at s.records format.index_file at) at (λ e. omega (arith, e, k)) in omega (arith, lt, le)),
)
entry_fault s d b n at named h some file (Damaged _) (HighMark over) = inl (mark_over s over)
entry_fault s d b n at named h some file (Damaged _) (OtherKind low other) = inr (refl, stray_lacks s.records d b n at (h.leads some) other)

pub bucket_index : (s : State) (label key number : ℕ) (bucket : Bucket) (met : IsBucketMet s.records label key number bucket) (fault : Fault)
    → BlamesBucket s met.definition number fault → BlamesIndex s label key fault
bucket_index s label key number bucket met Memory told = tt
bucket_index s label key number bucket met Disk told = tt
bucket_index s label key number bucket met (Damaged damage) (inl mark) = λ ds are. inl mark
bucket_index s label key number bucket met (Damaged damage) (inr lacks) = λ ds are. inr (
  lacks.0,
  record {
    id = met.definition;
    listed = listed_of s.records ds are met.definition met.has.leads;
    pair = met.pair;
    wrong = λ keeps. let l = keeps.buckets number met.has.low in lacks.1 l.0 l.1;
  },
)

pub bucket_before : (s t : State) (d b : ℕ) (fault : Fault) → SameButReads s t → BlamesBucket t d b fault → BlamesBucket s d b fault
bucket_before s t d b Memory same is = tt
bucket_before s t d b Disk same is = tt
bucket_before s t d b (Damaged damage) same (inl mark) = inl (marks_before s t (Damaged damage) same mark)
bucket_before s t d b (Damaged damage) same (inr lacks) = inr (lacks.0, subst (λ (z : State). LacksBucket z.records d b) same lacks.1)

-- ---- what is named

module _ (records : Records) (label key : ℕ) (ds : List ℕ) (are : AreDefinitions records ds) where
  among : (d : ℕ) → In d ds → IsAmongDefinitions records d
  among d i = record { members = ds; list = are; member = i }

  -- each definition of the pair breaks the rule where one does
  pub each_wrong : HasWrongIndex records ds label key → (d : ℕ) → In d ds → IsPair records label key d → ¬ DefinitionKeeps records d
  each_wrong w d i pair keeps = ⊎_elim
      (λ (e : w.id ≡ d). w.wrong (subst (DefinitionKeeps records) (sym e) keeps))
      (λ (ne : w.id ≢ d). ne (keeps.alone w.id (among w.id w.listed) (w.pair.0 ∙ sym pair.0) (w.pair.1 ∙ sym pair.1)))
      (nat_cases w.id d)

  -- a walk that leads past none of the pair leads past all of them
  pub none_wrong : LeadsToNone records label key → HasWrongIndex records ds label key → ⊥
  none_wrong none w =
      let all : AreDefinitions records none.definitions = record { walk = none.walk; few = none.few; defined = none.defined } in
      none.none w.id (subst (In w.id) (definitions_same records ds none.definitions are all) w.listed) w.pair

pub pair_breaks : (s : State) (label key id : ℕ) (rec : Rec) (damage : Damage) → IsOfPair s.records label key id rec → HasDefinitions s.records
    → damage.file ≡ format.index_file → BlamesIndex s label key (Damaged damage) → BreaksAny s.records s.shape (damage_of format.index_file id 8)
pair_breaks s label key id rec damage of has file told = ⊎_elim
    (λ (mark : IsMarkDamage s damage). let f = ap (λ (d : Damage). d.file) mark.is in absurd (omega (arith, f, file)))
    (λ (w : (damage.file ≡ format.index_file) × HasWrongIndex s.records has.members label key).
    let i = listed_of s.records has.members has.list id of.leads in
    inr (WrongDefinition id (among s.records label key has.members has.list id i) (each_wrong s.records label key has.members has.list w.1 id i of.pair)))
    (told has.members has.list)

-- no definition is right that has no label
pub unnamed_breaks : (s : State) (id key : ℕ) (rec : Rec) → IsOfPair s.records format.nil key id rec → BreaksAny s.records s.shape
    (damage_of format.index_file id 5)
unnamed_breaks s id key rec of =
    let used = of.used in
    inl (WrongNames id (kind_below (high s.records format.index_file) (rec_at s.records format.index_file id) id (λ e. omega (arith, e, used)))
    (λ keeps. let lt = keeps.label of.used in let e = of.pair.0 in let fits = high_fits s.records format.names_file in omega (arith, lt, e, fits)))

pub all_defined : (records : Records) (label key : ℕ) → LeadsToNone records label key → HasDefinitions records
all_defined records label key none =
    record { members = none.definitions; list = record { walk = none.walk; few = none.few; defined = none.defined } }

-- ---- indexes that keep the rule

keeps_of : (records : Records) (wanted : Entries) (ix : AreIndexed records wanted) (d : ℕ) → In d ix.definitions → DefinitionKeeps records d
keeps_of records wanted ix d i = record {
  alone = λ e a l k. ix.distinct e d (subst (In e) (definitions_same records a.members ix.definitions a.list (definitions_of records wanted ix)) a.member)
      i l k;
  heads = λ c lt. ix.heads d c i lt;
  buckets = λ b lt. let l = ix.buckets d b i lt in
      (ix.lists d b, record { head = ix.heads d (b / 15) i (omega arith); chain = l.chain; kind = l.kind; hash = l.hash });
}

pub index_sound : (s : State) (wanted : Entries) → AreIndexed s.records wanted → IsRanged (meta_of s format.index_file) (room_of s.shape format.index_file) →
    (label key : ℕ) (fault : Fault)
    → BlamesIndex s label key fault → NotDamaged {T = ℕ} (Err fault)
index_sound s wanted ix ranged label key Memory told = tt
index_sound s wanted ix ranged label key Disk told = tt
index_sound s wanted ix ranged label key (Damaged damage) told = ⊎_elim
    (λ (mark : IsMarkDamage s damage). mark.bad ranged)
    (λ (w : (damage.file ≡ format.index_file) × HasWrongIndex s.records ix.definitions label key). w.1.wrong (keeps_of s.records wanted ix w.1.id w.1.listed))
    (told ix.definitions (definitions_of s.records wanted ix))

pub result_sound : {T : Type 0} (s : State) (wanted : Entries) → AreIndexed s.records wanted
    → IsRanged (meta_of s format.index_file) (room_of s.shape format.index_file) → (label key : ℕ) (r : Result T Fault)
    → IfErr r (BlamesIndex s label key) → NotDamaged r
result_sound s wanted ix ranged label key (Ok x) told = tt
result_sound s wanted ix ranged label key (Err fault) told = index_sound s wanted ix ranged label key fault told

-- the mark and the first free identifier of a right list
pub can_ranged : (s : State) (free : List ℕ) → CanTake s format.index_file free → IsRanged (meta_of s format.index_file) (room_of s.shape format.index_file)
can_ranged s free can = record { mark = can.mark; first = by free can.list can.low }
  where
    by : (xs : List ℕ) → IsFreeList s.records format.index_file xs → ((x : ℕ) → In x xs → x < high s.records format.index_file)
        → IsLinkBelow (meta_of s format.index_file).free (meta_of s format.index_file).high
    by [] list low = inl list
    by (x ∷ xs) list low = inr (subst (λ z. z < high s.records format.index_file) (sym list.0) (low x (inl refl)))

pub index_before : (s t : State) (label key : ℕ) (fault : Fault) → SameButReads s t → BlamesIndex t label key fault → BlamesIndex s label key fault
index_before s t label key Memory same told = tt
index_before s t label key Disk same told = tt
index_before s t label key (Damaged damage) same told = λ ds are. ⊎_elim
    (λ (mark : IsMarkDamage t damage). inl (marks_before s t (Damaged damage) same mark))
    (λ (w : (damage.file ≡ format.index_file) × HasWrongIndex t.records ds label key).
    inr (w.0, subst (λ (z : State). HasWrongIndex z.records ds label key) same w.1))
    (told ds (subst (λ (z : State). AreDefinitions z.records ds) (sym same) are))

-- ---- after reads

pub same_back : (s t : State) → SameButReads s t → SameButReads t s
same_back s t same = sym (ap (λ (z : State). record z { reads = s.reads }) same)

pub definition_before : (s t : State) (fault : Fault) → SameButReads s t → BlamesDefinition t fault → BlamesDefinition s fault
definition_before s t Memory same is = tt
definition_before s t Disk same is = tt
definition_before s t (Damaged damage) same (inl d) =
    let here : IsDefinition (record s { reads = t.reads }) damage = subst (λ (z : State). IsDefinition z damage) same d in
    inl (record { file = here.file; defines = here.defines })
definition_before s t (Damaged damage) same (inr list) = inr (subst (λ (z : State). IsListDamage z.records z.shape format.index_file damage) same list)

-- the cause of a fault that is told otherwise
pub named_cause : {T U : Type 0} (before mid now : ℕ) (fault handed : Fault) → HasFaultCause {T = U} before mid (Err fault) → mid ≤ now
    → (handed ≡ Disk → (fault ≡ Disk) ⊎ Rose mid now) → HasFaultCause {T = T} before now (Err handed)
named_cause before mid now fault handed cause later disk = record {
  later = let early = cause.later in omega (arith, early, later);
  disk = λ blamed.
      let is : handed ≡ Disk = cc in
      ⊎_elim (λ (e : fault ≡ Disk). let rose = cause.disk (ap Err e) in omega (arith, rose, later))
      (λ (rose : Rose mid now). let early = cause.later in omega (arith, rose, early)) (disk is);
}

-- as a fault of a change
pub taken_definition : (s : State) (fault : Fault) (handed : TakeFault) → handed ≡ of_read fault → BlamesDefinition s fault → TakeBlamesDefinition s handed
taken_definition s Memory handed is told = subst (TakeBlamesDefinition s) (sym is) tt
taken_definition s Disk handed is told = subst (TakeBlamesDefinition s) (sym is) tt
taken_definition s (Damaged damage) handed is told = subst (TakeBlamesDefinition s) (sym is) told

pub list_definition : (s : State) (fault : TakeFault) → BlamesList s format.index_file fault → TakeBlamesDefinition s fault
list_definition s (take.Full file live) told = tt
list_definition s take.Memory told = tt
list_definition s take.Disk told = tt
list_definition s (take.Damaged damage) told = inr told

pub taken_definition_before : (s t : State) (fault : TakeFault) → SameButReads s t → TakeBlamesDefinition t fault → TakeBlamesDefinition s fault
taken_definition_before s t (take.Full file live) same told = tt
taken_definition_before s t take.Memory same told = tt
taken_definition_before s t take.Disk same told = tt
taken_definition_before s t (take.Damaged damage) same told = definition_before s t (Damaged damage) same told

-- ---- a mark that is blamed

pub mark_breaks : (s : State) (damage : Damage) → IsMarkDamage s damage → BreaksAny s.records s.shape damage
mark_breaks s damage h = subst (BreaksAny s.records s.shape) (sym h.is)
    (inl (WrongMeta format.index_file (omega arith) (λ k. let is = k.since (omega arith) in h.bad (record { mark = is.high; first = is.free }))))

-- what a bucket blames outside of the indexes
pub bucket_other : (s : State) (d b : ℕ) (fault : Fault) → BlamesBucket s d b fault → BlamesOther s fault
bucket_other s d b Memory told = tt
bucket_other s d b Disk told = tt
bucket_other s d b (Damaged damage) (inl mark) = λ file. mark_breaks s damage mark
bucket_other s d b (Damaged damage) (inr lacks) = λ file. absurd (file lacks.0)

pub broken_other : (s : State) (fault : Fault) → BlamesBroken s.records s.shape fault → BlamesOther s fault
broken_other s Memory told = tt
broken_other s Disk told = tt
broken_other s (Damaged damage) told = λ file. told

pub other_before : (s t : State) (fault : Fault) → SameButReads s t → BlamesOther t fault → BlamesOther s fault
other_before s t Memory same told = tt
other_before s t Disk same told = tt
other_before s t (Damaged damage) same told = λ file. subst (λ (z : State). BreaksAny z.records z.shape damage) same (told file)

pub bucket_names : (s : State) (d b : ℕ) (fault : Fault) → BlamesBucket s d b fault → NamesIndexes fault
bucket_names s d b Memory told = tt
bucket_names s d b Disk told = tt
bucket_names s d b (Damaged damage) (inl mark) = subst IsOfIndexes (sym mark.is) (inr (refl, refl))
bucket_names s d b (Damaged damage) (inr lacks) = inl lacks.0

-- ---- a fault that came after writes blames none

pub named_after : (s t : State) (label key : ℕ) (fault handed : Fault) → IfSome (faults.damage_of fault) (λ _. SameButReads s t)
    → (NotDamaged {T = ℕ} (Err fault) → handed ≡ fault) → BlamesIndex s label key fault
    → (BlamesIndex t label key fault → (ds : List ℕ) → AreDefinitions t.records ds → BlamesDefinition t handed)
    → (ds : List ℕ) → AreDefinitions s.records ds → BlamesDefinition s handed
named_after s t label key Memory handed same passed told named ds are = subst (BlamesDefinition s) (sym (passed tt)) tt
named_after s t label key Disk handed same passed told named ds are = subst (BlamesDefinition s) (sym (passed tt)) tt
named_after s t label key (Damaged damage) handed same passed told named ds are =
    definition_before s t handed same (named (index_before t s label key (Damaged damage) (same_back s t same) told) ds (definitions_after s t ds same are))

pub broken_after : (s t : State) (label key : ℕ) (fault handed : Fault) → IfSome (faults.damage_of fault) (λ _. SameButReads s t)
    → (NotDamaged {T = ℕ} (Err fault) → handed ≡ fault) → BlamesIndex s label key fault → BlamesOther s fault
    → (BlamesIndex t label key fault → BlamesOther t fault → BlamesBroken t.records t.shape handed) → BlamesBroken t.records t.shape handed
broken_after s t label key Memory handed same passed told other broken = subst (BlamesBroken t.records t.shape) (sym (passed tt)) tt
broken_after s t label key Disk handed same passed told other broken = subst (BlamesBroken t.records t.shape) (sym (passed tt)) tt
broken_after s t label key (Damaged damage) handed same passed told other broken =
    broken (index_before t s label key (Damaged damage) (same_back s t same) told) (other_before t s (Damaged damage) (same_back s t same) other)

pub broken_back : (s t : State) (fault handed : Fault) → IfSome (faults.damage_of fault) (λ _. SameButReads s t)
    → (NotDamaged {T = ℕ} (Err fault) → handed ≡ fault) → BlamesBroken t.records t.shape handed → BlamesBroken s.records s.shape handed
broken_back s t Memory handed same passed told = subst (BlamesBroken s.records s.shape) (sym (passed tt)) tt
broken_back s t Disk handed same passed told = subst (BlamesBroken s.records s.shape) (sym (passed tt)) tt
broken_back s t (Damaged damage) handed same passed told = blames_before s t handed same told

pub unwritten_handed : (T : Type 0) (s t u : State) (fault handed : Fault) → IfSome (faults.damage_of fault) (λ _. SameButReads s t)
    → (NotDamaged {T = ℕ} (Err fault) → handed ≡ fault) → SameButReads t u → faults.OnDamage {T = T} (Err handed) (SameButReads s u)
unwritten_handed T s t u Memory handed same passed later = subst (λ (f : Fault). faults.OnDamage {T = T} (Err f) (SameButReads s u)) (sym (passed tt)) tt
unwritten_handed T s t u Disk handed same passed later = subst (λ (f : Fault). faults.OnDamage {T = T} (Err f) (SameButReads s u)) (sym (passed tt)) tt
unwritten_handed T s t u (Damaged damage) handed same passed later = any handed
  where
    any : (f : Fault) → faults.OnDamage {T = T} (Err f) (SameButReads s u)
    any Memory = tt
    any Disk = tt
    any (Damaged d) = same_then s t u same later

pub mark_names : (s : State) (fault : Fault) → BlamesMark s fault → NamesIndexes fault
mark_names s Memory told = tt
mark_names s Disk told = tt
mark_names s (Damaged damage) mark = subst IsOfIndexes (sym mark.is) (inr (refl, refl))
