-- What recovery finds, and what a store begins with then.
use Rattle.std.proofs.Common.{◌≡◌, ◌∙◌, ap, sym, subst, inl, inr, ⊎_elim, ◌⊎◌, List, [], Option, Some, is_some, Result, Ok, Err, IfOk, OnOk, refl, lit<}
use mathlib.Core.Bool.{false≢true}
use Rattle.disk_model.specs.Contents.{Files}
use Rattle.disk_model.specs.Spans.{AtEachMoment, IsAllSettled, OnlyReads}
use Rattle.disk_model.specs.declared.disk.Disk.{Ghosts}
use Rattle.disk_model.proofs.Spans.{CountsNow, at_each_moment_on, at_each_moment_read, at_each_moment_weaker}
use Rattle.rec_bytes.specs.declared.key.Key.{Key}
use Rattle.rec_bytes.specs.declared.record.Rec.{Rec}
use Rattle.rec_bytes.specs.declared.shape.Shape.{Shape}
use Rattle.rec_bytes.specs.Creation.{creation_pairs, own_key, raised}
use Rattle.rec_bytes.specs.RecordFiles.{meta_key_of}
use Rattle.rec_bytes.specs.Pairs.{Pairs}
use Rattle.rec_bytes.specs.Record.{zeros}
use Rattle.rec_bytes.specs.Shape.{shape_of_record}
use Rattle.rec_bytes.specs.Space.{laid_over}
use Rattle.redo_log.specs.Entries.{HasEntries}
use Rattle.redo_log.specs.Redo.{redone}
use Rattle.redo_log.proofs.Appends.{HasEntries-read}
use Rattle.record_file.specs.Records.{IsUnmade, record_at}
use Rattle.record_file.specs.Redone.{Redoes}
use Rattle.record_file.proofs.Redone.{Redoes-kept}
use Rattle.record_file.specs.Unique.{entries_unique}
use Rattle.recovery.specs.Finding.{IsMade, IsRecoverable}
use Rattle.txn_core.specs.Config.{Suits, shape_of}
use Rattle.txn_core.specs.Kept.{IsKept}
use Rattle.record_file.specs.MetaFile.{AreMetasOf}
use Rattle.txn_core.specs.Opening.{HasOnly, HasOpeningEntry, HoldsStore, IsOldOrNew, IsOldOrRaised, IsRefusal, OnlyDiffers}
use Rattle.txn_core.specs.Opening.{Opens, RefusesOpening, StaysAsItWas, made_over, raising_entries}
use Rattle.txn_core.specs.declared.open_fault.OpenFault.{OpenFault}
use Rattle.txn_core.specs.declared.open_fault.OpenFault.TheVariants.{Memory, Disk, NotAStore, Damaged, ConfigDiffers}
use Rattle.txn_core.specs.declared.config.Config.{Config}
use Rattle.txn_core.proofs.Kept.{Redoes-same, kept_settled, same_records}
use Rattle.txn_core.proofs.Raising.{IsOldOrRaised-same}

-- a content redoes to one space
pub redoes_unique : (content : Files) (a b : Key → Rec) → Redoes content a → Redoes content b → a ≡ b
redoes_unique content a b one other =
    sym one.makes ∙ ap (redone (record_at content)) (entries_unique one.entries other.entries 0 one.tail other.tail content one.log other.log) ∙ other.makes

-- a store that is read is of one shape
some_same : {X : Type 0} (x y : X) → let one : Option X = Some x in one ≡ Some y → x ≡ y
some_same x y e = cc

pub one_shape : (content : Files) (space : Key → Rec) (shape other : Shape) → HoldsStore content shape → Redoes content space → IsMade space other
    → other ≡ shape
one_shape content space shape other made redoes has =
    some_same other shape
    (sym has.own ∙ ap (λ (records : Key → Rec). shape_of_record (records own_key)) (redoes_unique content space made.space redoes made.redoes) ∙ made.made.own)

-- where none was made there is none
pub none_made : (content : Files) (shape : Shape) → IsUnmade content → HoldsStore content shape → ⊥
none_made content shape unmade made =
    let same : made.space ≡ record_at content = redoes_unique content made.space (record_at content) made.redoes
    (record { entries = []; tail = 0; log = unmade.log; makes = refl }) in
    let own : shape_of_record zeros ≡ Some shape = ap shape_of_record (sym (ap (λ (records : Key → Rec). records own_key) same ∙ unmade.blank 0 (lit< tt)))
    ∙ made.made.own in
    false≢true (ap (λ (o : Option Shape). is_some o) own)

-- reads leave the disk settled
pub settled_read : {D : Type 0} (g : Ghosts D) (old new : D) → OnlyReads g old new → g.tells_images → IsAllSettled g old → IsAllSettled g new
settled_read g old new reads told settled file below image left place = settled file below image (reads.crash told image left) place
    ∙ sym (reads.keeps file place)

-- the store that is read, as it is in the newest version
pub made_opened : (content mid : Files) (config : Config) (shape found : Shape) (space : Key → Rec) (made : HoldsStore content found)
    → record_at mid ≡ made.space
    → shape ≡ found → Suits config found → space ≡ raised found (record_at mid) → Opens content config shape space
made_opened content mid config shape found space made same found_is suits is =
    inr (
      made.space,
      made.redoes,
      subst (IsMade made.space) (sym found_is) made.made,
      subst (Suits config) (sym found_is) suits,
      is ∙ ap (raised found) same ∙ ap (λ (s : Shape). raised s made.space) (sym found_is),
    )

-- and what its log has then
pub made_log : (content mid now : Files) (shape found : Shape) (made : HoldsStore content found) → record_at mid ≡ made.space → shape ≡ found
    → HasOnly now (raising_entries found (record_at mid)) → HasOpeningEntry content shape now
made_log content mid now shape found made same found_is log =
    inr (
      made.space,
      made.redoes,
      subst (λ (s : Shape). HasOnly now (raising_entries s made.space)) (sym found_is)
          (subst (λ (r : Key → Rec). HasOnly now (raising_entries found r)) same log),
    )

-- what a stop leaves of it
pub made_crash : {D : Type 0} (g : Ghosts D) (first mid now : D) (shape found : Shape) (space : Key → Rec) → record_at (g.reads mid) ≡ space → shape ≡ found
    → AtEachMoment g first mid (λ left. g.may_leave first left ⊎ Redoes left space)
    → AtEachMoment g mid now (IsOldOrRaised found (record_at (g.reads mid)))
    → AtEachMoment g first now (λ left. g.may_leave first left ⊎ IsOldOrRaised shape space left)
made_crash g first mid now shape found space same is before after =
    at_each_moment_on g first mid now _ _ (at_each_moment_weaker g first mid _ _ before (λ left. ⊎_elim (λ was. inl was) (λ redoes. inr (inl redoes)))) after
    (λ left raised. inr (IsOldOrRaised-same found shape (record_at (g.reads mid)) space left (sym is) same raised))

pub made_kept : {D : Type 0} (g : Ghosts D) (mid now : D) (metas : List Rec) (changed : Pairs) → changed ≡ [] → OnlyReads g mid now
    → (g.tells_reads → HasEntries (g.reads mid) [] 0)
    → (g.tells_reads → g.tells_images → IsAllSettled g mid) → (g.tells_reads → AreMetasOf (record_at (g.reads mid)) metas) → IsKept g now metas changed 0
made_kept g mid now metas changed none reads log settled held =
    kept_settled g now metas changed none (λ told. HasEntries-read [] 0 (g.reads mid) (g.reads now) (log told) (reads.keeps 7))
    (λ told images. settled_read g mid now reads images (settled told images))
    (λ told. subst (λ (r : Key → Rec). AreMetasOf r metas) (sym (same_records (g.reads mid) (g.reads now) reads.keeps)) (held told))

-- what a stop leaves before it, while the disk is only read
pub unmade_left : {D : Type 0} (g : Ghosts D) (first now : D) (config : Config) → g.tells_images → OnlyReads g first now
    → AtEachMoment g first now (λ left. g.may_leave first left ⊎ IsOldOrNew (g.reads first) (shape_of config) left)
unmade_left g first now config images reads = at_each_moment_weaker g first now (g.may_leave first) _ (reads.time images) (λ left was. inl was)

-- what a stop leaves while the first entry is appended
pub unmade_crash : {D : Type 0} (g : Ghosts D) (first mid now : D) (config : Config) (shape : Shape) → IsUnmade (g.reads first)
    → record_at (g.reads mid) ≡ record_at (g.reads first) → shape ≡ shape_of config
    → g.tells_images → OnlyReads g first mid → AtEachMoment g mid now (IsOldOrNew (g.reads mid) shape)
    → AtEachMoment g first now (λ left. g.may_leave first left ⊎ IsOldOrNew (g.reads first) (shape_of config) left)
unmade_crash g first mid now config shape unmade same is images before crash =
    at_each_moment_on g first mid now _ _ (unmade_left g first mid config images before) crash
    (λ left made. inr (⊎_elim (λ none. inl (none.0, none.1 ∙ same))
    (λ redoes. inr (Redoes-same left _ _ (ap (λ (records : Key → Rec). laid_over records (creation_pairs shape)) same ∙ ap (made_over (g.reads first)) is)
    redoes)) made))

-- the new store
pub unmade_opened : (content mid : Files) (config : Config) (shape made : Shape) (space : Key → Rec) → IsUnmade content → record_at mid ≡ record_at content
    → made ≡ shape_of config → shape ≡ made → space ≡ made_over mid made → Opens content config shape space
unmade_opened content mid config shape made space unmade same made_is shape_is is =
    inl (unmade, shape_is ∙ made_is, is ∙ ap (λ (records : Key → Rec). laid_over records (creation_pairs made)) same ∙ ap (made_over content) (sym shape_is))

-- none was made after the recovery either
pub unmade_mid : (content mid : Files) → IsUnmade content → record_at mid ≡ record_at content → HasEntries mid [] 0 → IsUnmade mid
unmade_mid content mid unmade same log = record {
  log = log;
  blank = λ file is_file. ap (λ (records : Key → Rec). records (meta_key_of file)) same
      ∙ unmade.blank file is_file;
}

-- a content with no entry redoes to its own records
pub redoes_own : (content : Files) → IsUnmade content → Redoes content (record_at content)
redoes_own content unmade = record { entries = []; tail = 0; log = unmade.log; makes = refl }

-- a content over which a store is opened is a store, or none was made in it
pub opens-recoverable : (content : Files) (config : Config) (shape : Shape) (space : Key → Rec) → Opens content config shape space → IsRecoverable content
opens-recoverable content config shape space (inl new) = (record_at content, redoes_own content new.0, inl new.0)
opens-recoverable content config shape space (inr (before, redoes, made, suits, is)) = (before, redoes, inr (shape, made))

-- two facts of a success
pub if_ok_both : {T E : Type 0} (r : Result T E) (P Q : T → Type 0) → IfOk r P → IfOk r Q → IfOk r (λ x. P x × Q x)
if_ok_both (Ok x) P Q p q = (p, q)
if_ok_both (Err e) P Q p q = tt

-- a fact of any
pub if_ok_all : {T E : Type 0} (r : Result T E) (P Q : T → Type 0) → ((x : T) → P x → Q x) → IfOk r P → IfOk r Q
if_ok_all (Ok x) P Q f p = f x p
if_ok_all (Err e) P Q f p = tt

-- a fact of each success
pub if_ok_on : {T E : Type 0} (r : Result T E) (P : Type 0) → OnOk r P → IfOk r (λ _. P)
if_ok_on (Ok x) P p = p
if_ok_on (Err e) P p = tt

-- a store of another shape than is asked for is refused so
pub refuses_differs : (content : Files) (config : Config) (shape : Shape) (fault : OpenFault) → HoldsStore content shape → OnlyDiffers shape config fault
    → RefusesOpening content config fault
refuses_differs content config shape Memory store only = tt
refuses_differs content config shape Disk store only = tt
refuses_differs content config shape NotAStore store only = absurd only
refuses_differs content config shape (Damaged damage) store only = absurd only
refuses_differs content config shape (ConfigDiffers stored asked) store only =
    (subst (HoldsStore content) (sym only.0) store, only.1, λ suits. only.2 (subst (Suits config) only.0 suits))

pub differs_untouched : {T : Type 0} (config : Config) (shape : Shape) (fault : OpenFault) → OnlyDiffers shape config fault → IsRefusal fault → T
differs_untouched config shape Memory only is = absurd is
differs_untouched config shape Disk only is = absurd is
differs_untouched config shape NotAStore only is = absurd only
differs_untouched config shape (Damaged damage) only is = absurd only
differs_untouched config shape (ConfigDiffers stored asked) only is = absurd is

-- a store that is only read after the recovery stays as it was
pub stays_read : {D : Type 0} (g : Ghosts D) (first mid now : D) (space : Key → Rec) → CountsNow g → Redoes (g.reads mid) space
    → (g.tells_images → AtEachMoment g first mid (λ left. g.may_leave first left ⊎ Redoes left space)) → OnlyReads g mid now → StaysAsItWas g first now space
stays_read g first mid now space counts redoes crash reads = record {
  read = Redoes-kept space (g.reads mid) (g.reads now) redoes reads.keeps;
  crash = λ images. at_each_moment_read g first mid now _ counts images (crash images) reads;
}
