-- A record that was taken and written is one that is added.
use Rattle.std.proofs.Common.{◌≡◌, ◌≢◌, ℕ, ◌+◌, ◌<◌, ◌≤◌, ap, sym, ◌∙◌, subst, refl, arith}
use Rattle.std.specs.Prelude.{Err}
use Rattle.rec_bytes.specs.declared.key.Key.{Key}
use Rattle.rec_bytes.specs.declared.record.Rec.{Rec}
use Rattle.rec_bytes.specs.declared.space.SpaceFault.{SpaceFault}
use Rattle.rec_bytes.specs.declared.space.SpaceFault.TheVariants as space
use Rattle.rec_bytes.specs.Format as format
use Rattle.rec_bytes.specs.Meta as metas
use Rattle.rec_bytes.specs.Record.{field}
use Rattle.rec_bytes.specs.RecordFiles.{meta_key_of, room_of}
use Rattle.rec_bytes.specs.Space.{State, after_put, meta_in}
use Rattle.rec_bytes.proofs.Metas.{definition-with_meta}
use Rattle.rec_bytes.proofs.Spaces.{put_other, put_same}
use Rattle.store_rules.specs.Indexes.{index_rec}
use Rattle.store_rules.specs.Ranges.{AreInRange}
use Rattle.store_rules.specs.Rules.{IsWellFormed, IsWhole}
use Rattle.store_rules.specs.Views.{high, key_in}
use Rattle.store_rules.proofs.Changes as ch
use Rattle.store_rules.proofs.IndexRules.{made_kept}
use Rattle.store_rules.proofs.Made.{IsMade}
use Rattle.store_rules.proofs.MetaLaws.{not_meta_key}
use Rattle.store_rules.proofs.Shapes.{room_small}
use Rattle.store_rules.proofs.ViewLaws.{kind_low}
use Rattle.id_freelist.specs.TakeFault as takes
use Rattle.id_freelist.specs.Taking.{HasTaken, IsTakeFault}
use Rattle.id_freelist.specs.declared.take_fault.TakeFault.{TakeFault}
use Rattle.id_freelist.specs.declared.take_fault.TakeFault.TheVariants as take
use Rattle.id_freelist.proofs.Making.{is_made}
use Rattle.prop_index.specs.Defining.{GrowsBy, HasLeft, IsRecordAdded}
use Rattle.prop_index.specs.Entering.{IsMishap}
use Rattle.prop_index.proofs.LinkRules.{free_list}

module _ (s u : State) (rec : Rec) (id : ℕ) (store : IsWhole s) (taken : HasTaken s.records u.records format.index_file id (free_list s store).0)
    (small : id < room_of s.shape format.index_file)
    (used : field 1 rec format.kind ≢ format.free_kind) (shape : u.shape ≡ s.shape) where
  abbrev one : State
  one = after_put u (key_in format.index_file id) rec

  ranges : AreInRange s.records s.shape
  ranges = store.ranges

  made : IsMade s.records one.records s.shape format.index_file id rec
  made = is_made s.records u.records one.records s.shape format.index_file id (free_list s store).0 rec refl (free_list s store).1 taken
      (put_same u.records (key_in format.index_file id) rec)
      (λ key ne. put_other u.records (key_in format.index_file id) rec key ne) used small (room_small s.records s.shape format.index_file ranges)
      (ranges.metas format.index_file refl)

  meta_is : one.records (meta_key_of format.index_file) ≡ u.records (meta_key_of format.index_file)
  meta_is = put_other u.records (key_in format.index_file id) rec (meta_key_of format.index_file)
      (λ e. not_meta_key format.index_file id format.index_file refl (sym e))

  added : IsRecordAdded s one rec id
  added = record {
    fresh = made.fresh;
    here = made.here;
    kind = kind_low (high one.records format.index_file) (index_rec one.records id) id made.below ∙ ap (λ (r : Rec). field 1 r format.kind) made.here;
    low = made.below;
    kinds = λ y ne. ch.kind_other s.records one.records format.index_file id made.change y ne;
    records = λ y ne. ch.other_record s.records one.records format.index_file id made.change format.index_file y refl (λ _. ne);
    grows = record {
      first = ap (λ (r : Rec). field 4 r format.meta_definition) (meta_is ∙ taken.meta)
          ∙ definition-with_meta (s.records (meta_key_of format.index_file)) (meta_in u.records format.index_file);
      more = made.change.more;
      live = ap (λ (r : Rec). (metas.meta_of r).live) meta_is ∙ taken.live;
      shape = shape;
      others = λ q file meta. made.change.others q meta (λ e. file (ap (λ (k : Key). k.file) e));
    };
    kept = λ fits names. subst (IsWellFormed one.records) (sym shape) (made_kept s.records one.records s.shape id rec made fits (λ is. let n = names is in
        (n.label_low, n.key_low)) store);
  }

  pub record_added : (t : State) → t ≡ one → IsRecordAdded s t rec id
  record_added t is = subst (λ (z : State). IsRecordAdded s z rec id) (sym is) added

-- ---- why not

-- with room left, a take fails by memory or the disk alone
pub take_mishap : (s : State) (f : TakeFault) → IsTakeFault s format.index_file f → takes.NotDamaged {T = ℕ} (Err f) → HasLeft s 1 → IsMishap f
take_mishap s (take.Full file live) is sound left = let a = is.1 in let b = is.2 in absurd (omega (arith, a, b, left))
take_mishap s take.Memory is sound left = tt
take_mishap s take.Disk is sound left = tt
take_mishap s (take.Damaged damage) is sound left = sound

pub space_mishap : (f : SpaceFault) → IsMishap (takes.of_space f)
space_mishap space.Memory = tt
space_mishap space.Disk = tt

-- one after another
pub grows_then : (a b c : State) (n m k : ℕ) → n + m ≡ k → GrowsBy a b n → GrowsBy b c m → GrowsBy a c k
grows_then a b c n m k sum h g = record {
  first = g.first ∙ h.first;
  more = let p = h.more in let q = g.more in omega (arith, p, q);
  live = let p = h.live in let q = g.live in omega (arith, p, q, sum);
  shape = g.shape ∙ h.shape;
  others = λ q file meta. g.others q file meta ∙ h.others q file meta;
}

pub left_then : (s t : State) (n m k : ℕ) → GrowsBy s t n → n + m ≤ k → HasLeft s k → HasLeft t m
left_then s t n m k g le left = let a : room_of t.shape format.index_file ≡ room_of s.shape format.index_file = ap (λ z. room_of z format.index_file) g.shape in
    let b = g.live in omega (arith, a, b, le, left)
