-- What the records of the meta file say of a store.
use Rattle.std.proofs.Common.{◌≡◌, ◌∙◌, ap, sym, subst, ⊎_elim, inl, inr, ◌+◌, List, [], ◌∷◌, Option, Some, None, is_some, length, refl, arith}
use Rattle.std.proofs.lemmas.Bool.{false≢true}
use Rattle.disk_model.specs.Contents.{Files}
use Rattle.rec_bytes.specs.Creation.{own_key}
use Rattle.rec_bytes.specs.declared.key.Key.{Key}
use Rattle.rec_bytes.specs.declared.record.Rec.{Rec}
use Rattle.rec_bytes.specs.declared.shape.Shape.{Shape}
use Rattle.rec_bytes.specs.Pairs.{Pairs}
use Rattle.rec_bytes.specs.Record.{zeros}
use Rattle.rec_bytes.specs.RecordFiles.{meta_key_of}
use Rattle.rec_bytes.specs.Shape.{shape_of_record}
use Rattle.redo_log.specs.Entries.{HasEntries, entry_bytes}
use Rattle.redo_log.specs.Redo.{redone}
use Rattle.redo_log.proofs.Damage.{HasEntries-damaged}
use Rattle.redo_log.proofs.Entries.{HasEntriesFrom-tail}
use Rattle.rec_bytes.specs.Space.{blank_records}
use Rattle.record_file.specs.MetaFile.{AreMetasOf, find_meta}
use Rattle.record_file.specs.Records.{IsUnmade, record_at}
use Rattle.record_file.specs.Redone.{Redoes}
use Rattle.record_file.specs.Unique.{Redoes-unique, entries_unique}
use Rattle.recovery.specs.declared.logged_metas.LoggedMetas.{LoggedMetas}
use Rattle.recovery.specs.declared.recover_fault.RecoverFault.{RecoverFault}
use Rattle.recovery.specs.declared.recover_fault.RecoverFault.TheVariants as faults
use Rattle.recovery.specs.declared.found.Found.{Found}
use Rattle.recovery.specs.declared.found.Found.TheVariants as founds
use Rattle.recovery.specs.Finding.{HasMetaRight, IsFound, Refuses, RefusesRecords, Stands}
use Rattle.recovery.specs.LoggedMetas.{HasMetas}

-- a log that ends where it begins has no entry
no_entries : (entries : List Pairs) (content : Files) → HasEntries content entries 0 → entries ≡ []
no_entries [] content has = refl
no_entries (entry ∷ later) content has = absurd (omega (arith, HasEntriesFrom-tail later (0 + entry_bytes (length entry)) 0 content has.2))

same_some : (x y : Rec) → let one : Option Rec = Some x in one ≡ Some y → x ≡ y
same_some x y e = cc

-- no entry, and no byte of the meta file
pub IsUnmade-of : (content : Files) (logged : LoggedMetas) → HasMetas content logged → logged.tail ≡ 0 → AreMetasOf blank_records logged.metas.records
    → IsUnmade content
IsUnmade-of content logged has at_start blank =
    let log : HasEntries content has.entries 0 = subst (λ t. HasEntries content has.entries t) at_start has.log in
    let none = no_entries has.entries content log in
    record {
      log = subst (λ (es : List Pairs). HasEntries content es 0) none log;
      blank = λ id below.
          let same : Some (redone (record_at content) has.entries (meta_key_of id)) ≡ Some zeros = sym (has.are id below) ∙ blank id below in
          ap (λ (es : List Pairs). redone (record_at content) es (meta_key_of id)) (sym none) ∙ same_some _ zeros same;
    }

pub at_start-unmade : (content : Files) (logged : LoggedMetas) → HasMetas content logged → IsUnmade content → logged.tail ≡ 0
at_start-unmade content logged has unmade =
    let none : has.entries ≡ [] = entries_unique has.entries [] 0 logged.tail 0 content has.log unmade.log in
    let log : HasEntries content [] logged.tail = subst (λ (es : List Pairs). HasEntries content es logged.tail) none has.log in
    sym log.0

pub blank-unmade : (content : Files) (logged : LoggedMetas) → HasMetas content logged → IsUnmade content → AreMetasOf blank_records logged.metas.records
blank-unmade content logged has unmade id below =
    let none : has.entries ≡ [] = entries_unique has.entries [] 0 logged.tail 0 content has.log unmade.log in
    has.are id below ∙ ap (λ (r : Rec). Some r) (ap (λ (es : List Pairs). redone (record_at content) es (meta_key_of id)) none ∙ unmade.blank id below)

-- the store's own record in memory is the one that the log makes
pub own_read : (content : Files) (logged : LoggedMetas) (has : HasMetas content logged) (own : Rec) → find_meta logged.metas.records own_key ≡ Some own
    → redone (record_at content) has.entries own_key ≡ own
own_read content logged has own is =
    let same : Some (redone (record_at content) has.entries own_key) ≡ Some own = sym (has.are 0 (omega arith)) ∙ is in
    same_some _ own same

-- the records of the meta file make the space that the content redoes to
pub Redoes-metas : (content : Files) (logged : LoggedMetas) (has : HasMetas content logged) → Redoes content (redone (record_at content) has.entries)
Redoes-metas content logged has = record { entries = has.entries; tail = logged.tail; log = has.log; makes = refl }

-- and so does one of the records
pub Refuses-records : (content : Files) (space : Key → Rec) (fault : RecoverFault) → Redoes content space → RefusesRecords content space fault
    → Refuses content fault
Refuses-records content space faults.Disk redoes is = tt
Refuses-records content space faults.NotAStore redoes is = (space, redoes, is)
Refuses-records content space (faults.Damaged damage) redoes is = inr (space, redoes, is)

-- the own record of a disk where no store was made says no shape
unmade_shape : (content : Files) (space : Key → Rec) → Redoes content space → IsUnmade content → shape_of_record (space own_key) ≡ None
unmade_shape content space redoes unmade =
    let none : redoes.entries ≡ [] = entries_unique redoes.entries [] 0 redoes.tail 0 content redoes.log unmade.log in
    let own : space own_key ≡ zeros = ap (λ (s : Key → Rec). s own_key) (sym redoes.makes)
    ∙ ap (λ (es : List Pairs). redone (record_at content) es own_key) none ∙ unmade.blank 0 (omega arith) in
    ap shape_of_record own

-- what stands is refused for nothing but the disk
pub Stands-refused : (content : Files) (space : Key → Rec) (fault : RecoverFault) → Redoes content space → Stands content space → Refuses content fault
    → fault ≡ faults.Disk
Stands-refused content space faults.Disk redoes stands refuses = refl
Stands-refused content space faults.NotAStore redoes stands refuses =
    absurd (⊎_elim
    (λ unmade. refuses.2.1 unmade)
    (λ made.
    let same = Redoes-unique content space refuses.0 redoes refuses.1 in
    let some : shape_of_record (refuses.0 own_key) ≡ Some made.0 = ap (λ (s : Key → Rec). shape_of_record (s own_key)) (sym same) ∙ made.1.own in
    false≢true (ap is_some (sym refuses.2.0 ∙ some)))
    stands)
Stands-refused content space (faults.Damaged damage) redoes stands refuses =
    absurd (⊎_elim
    (λ log. HasEntries-damaged redoes.entries redoes.tail damage.id content redoes.log log.2)
    (λ records.
    let other = records.0 in
    let same : other ≡ space = Redoes-unique content other space records.1 redoes in
    let shape = records.2.0 in
    let damaged = records.2.2 in
    let own : shape_of_record (space own_key) ≡ Some shape = ap (λ (s : Key → Rec). shape_of_record (s own_key)) (sym same) ∙ records.2.1 in
    ⊎_elim
    (λ unmade. false≢true (ap is_some (sym (unmade_shape content space redoes unmade) ∙ own)))
    (λ made.
    let some : Some made.0 ≡ Some shape = sym made.1.own ∙ own in
    let shapes : made.0 ≡ shape = cc in
    let right : HasMetaRight space made.0 damage.id = made.1.metas damage.id damaged.has_meta in
    damaged.wrong (subst (λ (s : Key → Rec). HasMetaRight s shape damage.id) (sym same) (subst (λ (s : Shape). HasMetaRight space s damage.id) shapes right)))
    stands)
    refuses)

-- what is found stands
pub IsFound-stands : (content : Files) (space : Key → Rec) (found : Found) → IsFound content space found → Stands content space
IsFound-stands content space (founds.Made shape) is = inr (shape, is)
IsFound-stands content space founds.Unmade is = inl is
