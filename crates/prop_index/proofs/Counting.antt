-- Counts of the index while one is made, whatever the records are.
use Rattle.std.proofs.Common.{◌≡◌, ◌≢◌, ℕ, ◌+◌, ◌<◌, ◌≤◌, ap, sym, ◌∙◌, subst, inl, arith}
use Rattle.rec_bytes.specs.declared.fault.Fault.{Fault}
use Rattle.rec_bytes.specs.declared.fault.Fault.TheVariants as faults
use Rattle.rec_bytes.specs.declared.key.Key.{Key}
use Rattle.rec_bytes.specs.declared.record.Rec.{Rec}
use Rattle.rec_bytes.specs.declared.space.SpaceFault.{SpaceFault}
use Rattle.rec_bytes.specs.declared.space.SpaceFault.TheVariants as spaces
use Rattle.rec_bytes.specs.Format as format
use Rattle.rec_bytes.specs.Meta as metas
use Rattle.rec_bytes.specs.Record.{with_field}
use Rattle.rec_bytes.specs.RecordFiles.{meta_key_of, room_of}
use Rattle.rec_bytes.specs.Space.{SameButReads, State, after_put, after_set, meta_of}
use Rattle.rec_bytes.proofs.Metas.{meta_of-definition}
use Rattle.rec_bytes.proofs.Spaces.{put_other, put_same}
use Rattle.store_rules.specs.Views.{Records, high, key_in}
use Rattle.id_freelist.specs.TakeFault as takes
use Rattle.id_freelist.specs.Taking.{IsTakeFault}
use Rattle.id_freelist.specs.declared.take_fault.TakeFault.{TakeFault}
use Rattle.id_freelist.specs.declared.take_fault.TakeFault.TheVariants as take
use Rattle.prop_index.specs.Blaming.{TakeBlamesBroken}
use Rattle.prop_index.specs.Defining.{CountsMore, HasLeft}
use Rattle.prop_index.specs.Entering.{IsIndexFull, IsNotFull}
use Rattle.prop_index.specs.Gathering.{HighNodes, IsOwnerDamage, NamesNone}
use Rattle.prop_index.specs.MakeFault as makes
use Rattle.prop_index.specs.MakeFault.{of_fault, of_take}
use Rattle.prop_index.proofs.IndexBlames.{nodes_mark}
use Rattle.prop_index.specs.Blaming as blaming
use Rattle.rec_bytes.specs.declared.damage.Damage.{Damage}
use Rattle.rec_bytes.specs.declared.shape.Shape.{Shape}
use Rattle.store_rules.specs.Breaking.{BreaksAny}
use Rattle.prop_index.specs.Making.{IsMakeCause, IsPairCause}
use Rattle.prop_index.specs.MakeFault.{IsCollectCause}
use Rattle.prop_index.specs.declared.make_fault.MakeFault.{MakeFault}
use Rattle.prop_index.specs.declared.make_fault.MakeFault.TheVariants as make

pub counts_then : (a b c : State) (n m k : ℕ) → n + m ≡ k → CountsMore a b n → CountsMore b c m → CountsMore a c k
counts_then a b c n m k sum h g = record {
  live = let p = h.live in let q = g.live in omega (arith, p, q, sum);
  shape = g.shape ∙ h.shape;
}

pub counts_left : (s t : State) (n m k : ℕ) → CountsMore s t n → n + m ≤ k → HasLeft s k → HasLeft t m
counts_left s t n m k h le left = let room = ap (λ z. room_of z format.index_file) h.shape in let live = h.live in omega (arith, room, live, le, left)

-- where one has room, a take doesn't find the file full
pub take_roomy : (s : State) (f : TakeFault) → IsTakeFault s format.index_file f → HasLeft s 1 → IsNotFull f
take_roomy s (take.Full file live) is left = let a = is.1 in let b = is.2 in absurd (omega (arith, a, b, left))
take_roomy s take.Memory is left = tt
take_roomy s take.Disk is left = tt
take_roomy s (take.Damaged damage) is left = tt

pub full_roomy : (s : State) (f : TakeFault) → IsIndexFull s f → HasLeft s 1 → IsNotFull f
full_roomy s (take.Full file live) is left = let a = is.1 in let b = is.2 in absurd (omega (arith, a, b, left))
full_roomy s take.Memory is left = tt
full_roomy s take.Disk is left = tt
full_roomy s (take.Damaged damage) is left = tt

pub space_roomy : (f : SpaceFault) → IsNotFull (takes.of_space f)
space_roomy spaces.Memory = tt
space_roomy spaces.Disk = tt

-- a record that is written counts for nothing
pub put_live : (s : State) (x : ℕ) (rec : Rec) → (meta_of (after_put s (key_in format.index_file x) rec) format.index_file).live
    ≡ (meta_of s format.index_file).live
put_live s x rec = ap (λ (r : Rec). (metas.meta_of r).live) (put_other s.records (key_in format.index_file x) rec (meta_key_of format.index_file) not_meta)
  where
    not_meta : meta_key_of format.index_file ≢ key_in format.index_file x
    not_meta e = let f = ap (λ (k : Key). k.file) e in omega (arith, f)

-- nor does the first definition
pub first_live : (s : State) (id : ℕ) → (meta_of (after_set s (meta_key_of format.index_file) 4 format.meta_definition id) format.index_file).live
    ≡ (meta_of s format.index_file).live
first_live s id =
    ap (λ (r : Rec). (metas.meta_of r).live) (put_same s.records (meta_key_of format.index_file) (with_field 4 (s.records (meta_key_of format.index_file))
    format.meta_definition id))
    ∙ ap (λ m. m.live) (meta_of-definition (s.records (meta_key_of format.index_file)) id)

-- ---- causes

pub pair_read : (records : Records) (label key : ℕ) (f : Fault) → IsPairCause records label key (of_fault f)
pair_read records label key faults.Memory = tt
pair_read records label key faults.Disk = tt
pair_read records label key (faults.Damaged d) = tt

pub collect_read : (records : Records) (label key : ℕ) (f : Fault) → IsCollectCause records label key (of_fault f)
collect_read records label key faults.Memory = tt
collect_read records label key faults.Disk = tt
collect_read records label key (faults.Damaged d) = tt

pub pair_cause : (s : State) (label key : ℕ) (f : MakeFault) → IsPairCause s.records label key f → IsMakeCause s label key f
pair_cause s label key make.There is = is
pair_cause s label key make.Many is = is
pair_cause s label key (make.TooLarge count) is = absurd is
pair_cause s label key (make.Full live) is = absurd is
pair_cause s label key make.Memory is = tt
pair_cause s label key make.Disk is = tt
pair_cause s label key (make.Damaged d) is = tt

pub collect_cause : (s : State) (label key : ℕ) (f : MakeFault) → IsCollectCause s.records label key f → IsMakeCause s label key f
collect_cause s label key make.There is = absurd is
collect_cause s label key make.Many is = absurd is
collect_cause s label key (make.TooLarge count) is = is
collect_cause s label key (make.Full live) is = absurd is
collect_cause s label key make.Memory is = tt
collect_cause s label key make.Disk is = tt
collect_cause s label key (make.Damaged d) is = tt

pub roomy_cause : (s : State) (label key : ℕ) (f : TakeFault) → IsNotFull f → IsMakeCause s label key (of_take f)
roomy_cause s label key (take.Full file live) is = absurd is
roomy_cause s label key take.Memory is = tt
roomy_cause s label key take.Disk is = tt
roomy_cause s label key (take.Damaged d) is = tt

-- ---- what is blamed

pub read_make : (records : Records) (shape : Shape) (f : Fault) → blaming.BlamesBroken records shape f → makes.BlamesBroken records shape (of_fault f)
read_make records shape faults.Memory is = tt
read_make records shape faults.Disk is = tt
read_make records shape (faults.Damaged d) is = is

pub take_make : (records : Records) (shape : Shape) (f : TakeFault) → TakeBlamesBroken records shape f → makes.BlamesBroken records shape (of_take f)
take_make records shape (take.Full file live) is = tt
take_make records shape take.Memory is = tt
take_make records shape take.Disk is = tt
take_make records shape (take.Damaged d) is = is

pub make_reread : (s t : State) (f : MakeFault) → SameButReads s t → makes.BlamesBroken s.records s.shape f → makes.BlamesBroken t.records t.shape f
make_reread s t f same is = subst (λ (z : State). makes.BlamesBroken z.records z.shape f) (sym same) is

pub make_before : (s t : State) (f : MakeFault) → SameButReads s t → makes.BlamesBroken t.records t.shape f → makes.BlamesBroken s.records s.shape f
make_before s t f same is = subst (λ (r : Records). makes.BlamesBroken r s.shape f) (ap (λ (z : State). z.records) same)
    (subst (λ (h : Shape). makes.BlamesBroken t.records h f) (ap (λ (z : State). z.shape) same) is)

-- a node that was given out is not one that there can't be
pub owner_blames : (s : State) (node : ℕ) (named bad : Damage) → node < high s.records format.nodes_file → IsOwnerDamage s node named bad
    → BreaksAny s.records s.shape bad
owner_blames s node named _ low (NamesNone le) = absurd (omega (arith, low, le))
owner_blames s node named _ low (HighNodes over) = inl (nodes_mark s over)
