-- Where names are right, no record is said to be damaged.
use Rattle.std.proofs.Common.{◌≡◌, ℕ, ◌<◌, List, [], ◌++◌, Err, Some, slice_get, refl, sym, ap, subst, ◌∙◌, arith}
use Rattle.std.proofs.lemmas.List.{get_or_append_left, length-append}
use Rattle.std.proofs.lemmas.Option.{slice_get-get_or}
use Rattle.rec_bytes.specs.declared.damage.Damage.{Damage}
use Rattle.rec_bytes.specs.declared.shape.Shape.{Shape}
use Rattle.rec_bytes.specs.Format as format
use Rattle.rec_bytes.specs.RowFault as rows
use Rattle.rec_bytes.specs.declared.row_fault.RowFault.{RowFault}
use Rattle.rec_bytes.specs.declared.row_fault.RowFault.TheVariants as compares
use Rattle.store_rules.specs.Graph.{names_of}
use Rattle.store_rules.specs.Ranges.{AreInRange}
use Rattle.store_rules.specs.Rules.{AreNames}
use Rattle.store_rules.specs.Views.{Records, rec_at}
use Rattle.name_store.specs.Again.{HasOther, IsAgainFault}
use Rattle.rec_bytes.specs.Fault as faults
use Rattle.name_store.specs.Loading.{AreLoadable, AreLoadableTo, IsDamageAt, IsFirstDamage, IsLoadFault, IsNameDamage, name_mark, text_at}
use Rattle.name_store.specs.Loading.IsNameDamage.{HighMark, WrongForm, WrongText, SameText}
use Rattle.rec_bytes.specs.declared.fault.Fault.{Fault}
use Rattle.rec_bytes.specs.declared.fault.Fault.TheVariants as loads
use Rattle.name_store.proofs.FirstNames.{first-names_of, length-names_of}

none_damaged : (records : Records) (damage : Damage) → AreLoadable records → IsNameDamage records damage → ⊥
none_damaged records damage right (HighMark above) = let mark = right.mark in omega arith
none_damaged records damage right (WrongForm id lt none) = right.form id lt none
none_damaged records damage right (WrongText id lt has wrong) = wrong (right.names.form id lt)
none_damaged records damage right (SameText id earlier lt has before same) = let e = right.names.distinct earlier id (omega arith) lt same in omega arith

pub NotDamaged-loadable : (records : Records) (fault : Fault) → AreLoadable records → IsLoadFault records fault → faults.NotDamaged {T = Unit {0}} (Err fault)
NotDamaged-loadable records loads.Memory right is = tt
NotDamaged-loadable records loads.Disk right is = tt
NotDamaged-loadable records (loads.Damaged damage) right is = none_damaged records damage right is

-- a damaged record after the first ones is the first
pub IsFirstDamage-at : (records : Records) (n : ℕ) (fault : Fault) → AreLoadableTo records n → IsDamageAt n fault → IsFirstDamage records fault
IsFirstDamage-at records n loads.Memory before at = tt
IsFirstDamage-at records n loads.Disk before at = tt
IsFirstDamage-at records n (loads.Damaged damage) before at = λ file. subst (AreLoadableTo records) (sym at) before

-- a name of the space that is the one kept
kept_name : (records : Records) (names rest : List (List ℕ)) (id : ℕ) → names ≡ names_of records ++ rest → id < name_mark records
    → slice_get names id ≡ Some (text_at records id)
kept_name records names rest id is lt =
    let long = length-names_of records in
    ap (λ ns. slice_get ns id) is ∙ slice_get-get_or (names_of records ++ rest) id [] (omega (arith, length-append (names_of records) rest))
    ∙ ap Some (get_or_append_left (names_of records) rest [] id (omega arith)) ∙ sym (slice_get-get_or (names_of records) id [] (omega arith))
    ∙ first-names_of records id lt

pub NotDamaged-prefix : (records : Records) (names rest : List (List ℕ)) (fault : RowFault) → names ≡ names_of records ++ rest
    → IsAgainFault records names fault → rows.NotDamaged {T = Unit {0}} (Err fault)
NotDamaged-prefix records names rest compares.Disk is fault = tt
NotDamaged-prefix records names rest (compares.Damaged damage) is fault = fault.other (kept_name records names rest fault.id is fault.below)

-- the first name that isn't the one kept
pub IsAgainFault-other : (records : Records) (names : List (List ℕ)) (id : ℕ) (fault : RowFault) → id < name_mark records
    → ((x : ℕ) → x < id → slice_get names x ≡ Some (text_at records x)) → HasOther records names id fault
    → IsAgainFault records names fault
IsAgainFault-other records names id compares.Disk lt before other = tt
IsAgainFault-other records names id (compares.Damaged damage) lt before other = record { id = id; is = other.0; below = lt; before = before; other = other.1 }

-- names that keep the first and the sixth rule are loaded
pub AreLoadable-AreInRange : (records : Records) (shape : Shape) → AreInRange records shape → AreNames (rec_at records format.names_file) (name_mark records)
    → AreLoadable records
AreLoadable-AreInRange records shape ranges names = record {
  mark = (ranges.metas format.names_file refl).high;
  form = λ id lt none. let fits = ranges.fit format.names_file id refl lt in absurd cc;
  names = names;
}
