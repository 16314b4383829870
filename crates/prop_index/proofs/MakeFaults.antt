-- Faults of reads and of takes, as faults of an index that is made.
use Rattle.std.specs.Prelude.{Result, Err, IfErr}
use Rattle.std.specs.Result.{IsErrAnd}
use Rattle.std.proofs.Common.{◌≡◌, ℕ, List, map, ap, sym, subst}
use Rattle.std.specs.List.{Contains}
use Rattle.std.proofs.lemmas.Result.{err_from_is_err_and}
use Rattle.rec_bytes.specs.declared.fault.Fault.{Fault}
use Rattle.rec_bytes.specs.declared.fault.Fault.TheVariants as fault
use Rattle.rec_bytes.specs.Fault as faults
use Rattle.rec_bytes.specs.Space.{State}
use Rattle.id_freelist.specs.declared.take_fault.TakeFault.{TakeFault}
use Rattle.id_freelist.specs.declared.take_fault.TakeFault.TheVariants as take
use Rattle.store_rules.specs.Indexes.{IsIndexed}
use Rattle.store_rules.specs.Views.{Records}
use Rattle.store_rules.proofs.Members.{contains_map, map_contains}
use Rattle.prop_index.specs.Entering.{IsMishap}
use Rattle.prop_index.specs.Listing.{pair_of}
use Rattle.prop_index.specs.MakeFault.{IsCollectFault, of_fault, of_take}
use Rattle.prop_index.specs.Making.{HasPair, IsMakeRefusal, IsPairFault, LacksPair, MayDefine, pair_is}
use Rattle.prop_index.specs.declared.listing.IndexPair.{IndexPair}
use Rattle.prop_index.specs.declared.make_fault.MakeFault.TheVariants as make
use Rattle.prop_index.specs.declared.make_fault.MakeFault.{MakeFault}

-- a fault that is no damage
pub collect-fault : (records : Records) (label key : ℕ) (f : Fault) → faults.NotDamaged {T = ℕ} (Err f) → IsCollectFault records label key (of_fault f)
collect-fault records label key fault.Memory is = tt
collect-fault records label key fault.Disk is = tt
collect-fault records label key (fault.Damaged damage) is = is

pub collect_exit : {T U : Type 0} (records : Records) (label key : ℕ) (r : Result T MakeFault) (q : Result U Fault) (f : Fault) → q ≡ Err f
    → IsErrAnd r (λ e. e ≡ of_fault f) → faults.NotDamaged q
    → IfErr r (IsCollectFault records label key)
collect_exit {T = T} records label key r q f is h sound =
    let p = err_from_is_err_and r h in
    subst (λ (z : Result T MakeFault). IfErr z (IsCollectFault records label key)) (sym p.1)
    (subst (IsCollectFault records label key) (sym p.2) (collect-fault records label key f (subst faults.NotDamaged is sound)))

-- ---- the pair

pub has_listed : (records : Records) (definitions : List ℕ) (pairs : List IndexPair) (label key : ℕ) → pairs ≡ map (pair_of records) definitions
    → Contains pairs (pair_is label key) → HasPair records definitions label key
has_listed records definitions pairs label key are is =
    let k = contains_map (pair_of records) definitions (pair_is label key) (subst (λ (xs : List IndexPair). Contains xs (pair_is label key)) are is) in
    record { definition = k.0; listed = k.1; pair = (sym (ap (λ (p : IndexPair). p.label) k.2), sym (ap (λ (p : IndexPair). p.key) k.2)) }

pub lacks_listed : (records : Records) (definitions : List ℕ) (pairs : List IndexPair) (label key : ℕ) → pairs ≡ map (pair_of records) definitions
    → (Contains pairs (pair_is label key) → ⊥) → LacksPair records definitions label key
lacks_listed records definitions pairs label key are out d i p =
    let same : pair_of records d ≡ pair_is label key = λ j. record { label = p.0 j; key = p.1 j } in
    out (subst (λ (xs : List IndexPair). Contains xs (pair_is label key)) (sym are) (subst (Contains (map (pair_of records) definitions)) same
    (map_contains (pair_of records) definitions d i)))

pair-fault : (records : Records) (definitions : List ℕ) (label key : ℕ) (f : Fault) → faults.NotDamaged {T = ℕ} (Err f)
    → IsPairFault records definitions label key (of_fault f)
pair-fault records definitions label key fault.Memory is = tt
pair-fault records definitions label key fault.Disk is = tt
pair-fault records definitions label key (fault.Damaged damage) is = is

pub pair_exit : {T U : Type 0} (records : Records) (definitions : List ℕ) (label key : ℕ) (r : Result T MakeFault) (q : Result U Fault) (f : Fault) → q ≡ Err f
    → IsErrAnd r (λ e. e ≡ of_fault f) → faults.NotDamaged q
    → IfErr r (IsPairFault records definitions label key)
pair_exit {T = T} records definitions label key r q f is h sound =
    let p = err_from_is_err_and r h in
    subst (λ (z : Result T MakeFault). IfErr z (IsPairFault records definitions label key)) (sym p.1)
    (subst (IsPairFault records definitions label key) (sym p.2) (pair-fault records definitions label key f (subst faults.NotDamaged is sound)))

-- ---- as refusals of an index that is made

pub pair_refusal : (s : State) (was : IsIndexed s.records s.shape) (label key : ℕ) (f : MakeFault) → IsPairFault s.records was.indexes.definitions label key f
    → IsMakeRefusal s was label key f
pair_refusal s was label key make.There is = is
pair_refusal s was label key make.Many is = is
pair_refusal s was label key (make.TooLarge count) is = absurd is
pair_refusal s was label key (make.Full live) is = absurd is
pair_refusal s was label key make.Memory is = tt
pair_refusal s was label key make.Disk is = tt
pair_refusal s was label key (make.Damaged damage) is = is

pub collect_refusal : (s : State) (was : IsIndexed s.records s.shape) (label key : ℕ) (f : MakeFault) → MayDefine s.records was.indexes.definitions label key
    → IsCollectFault s.records label key f → IsMakeRefusal s was label key f
collect_refusal s was label key make.There may is = absurd is
collect_refusal s was label key make.Many may is = absurd is
collect_refusal s was label key (make.TooLarge count) may is = (may, is.0, is.1)
collect_refusal s was label key (make.Full live) may is = absurd is
collect_refusal s was label key make.Memory may is = tt
collect_refusal s was label key make.Disk may is = tt
collect_refusal s was label key (make.Damaged damage) may is = is

pub mishap_refusal : (s : State) (was : IsIndexed s.records s.shape) (label key : ℕ) (f : TakeFault) → IsMishap f → IsMakeRefusal s was label key (of_take f)
mishap_refusal s was label key (take.Full file live) is = absurd is
mishap_refusal s was label key take.Memory is = tt
mishap_refusal s was label key take.Disk is = tt
mishap_refusal s was label key (take.Damaged damage) is = is
