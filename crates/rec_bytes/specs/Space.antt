-- What a space of records stands for, and what each call makes of it.
use Rattle.std.specs.Prelude.{
  ◌≡◌,
  ◌⊎◌,
  ℕ,
  zero,
  suc,
  Bool,
  true,
  ◌||◌,
  if◌then◌else◌,
  is_some,
  List,
  [],
  ◌∷◌,
  Result,
}
use Rattle.fault_count.specs.Cause.{raised}
use Rattle.rec_bytes.specs.declared.record.Rec.{Rec}
use Rattle.rec_bytes.specs.declared.key.Key.{Key}
use Rattle.rec_bytes.specs.declared.meta.Meta.{Meta}
use Rattle.rec_bytes.specs.declared.shape.Shape.{Shape}
use Rattle.rec_bytes.specs.declared.space.SpaceFault.{SpaceFault}
use Rattle.rec_bytes.specs.declared.space.SpaceFault.TheVariants.{Disk}
use Rattle.rec_bytes.specs.Cause.{HasDiskCause}
use Rattle.rec_bytes.specs.Key.{key_eq}
use Rattle.rec_bytes.specs.Meta as metas
use Rattle.rec_bytes.specs.Pairs.{Pairs, find_pair, held_at}
use Rattle.rec_bytes.specs.Record.{with_field, zeros}
use Rattle.rec_bytes.specs.RecordFiles.{meta_key_of}

-- the records, whether a key was written, the count of reads, and the shape
pub record State : Type 0 where
  pub records : Key → Rec
  pub written : Key → Bool
  pub reads : ℕ
  pub shape : Shape

-- the records with one replaced
abbrev pub put : (Key → Rec) → Key → Rec → Key → Rec
put records key rec q = if key_eq q key then rec else records q

-- the keys with one more
abbrev pub marked : (Key → Bool) → Key → Key → Bool
marked keys key q = key_eq q key || keys q

-- after a record was read
abbrev pub after_get : State → State
after_get s = record s { reads = raised s.reads }

-- after so many reads
unfoldable pub after_gets : ℕ → State → State
after_gets zero s = s
after_gets (suc n) s = after_get (after_gets n s)

-- the same but for the count of reads
abbrev pub SameButReads : State → State → Type 0
SameButReads old new = new ≡ record old { reads = new.reads }

-- after a record was replaced
abbrev pub after_put : State → Key → Rec → State
after_put s key rec = record s { records = put s.records key rec; written = marked s.written key }

-- after a record was read, and written again with another number in the n bytes from a place on
abbrev pub after_set : State → Key → ℕ → ℕ → ℕ → State
after_set s key n at value = after_put (after_get s) key (with_field n (s.records key) at value)

-- after a file's meta record was read, and written again with these numbers
abbrev pub after_meta : State → ℕ → Meta → State
after_meta s file meta =
    after_put (after_get s) (meta_key_of file) (metas.with_meta (s.records (meta_key_of file)) meta)

-- what the records say of a file
abbrev pub meta_in : (Key → Rec) → ℕ → Meta
meta_in records file = metas.meta_of (records (meta_key_of file))

abbrev pub meta_of : State → ℕ → Meta
meta_of s file = meta_in s.records file

-- records of zeros
abbrev pub blank_records : Key → Rec
blank_records key = zeros

-- the records with these written over them
abbrev pub laid_over : (Key → Rec) → Pairs → Key → Rec
laid_over records pairs key = held_at pairs key (records key)

-- a space with written records over its own, and no other key written
abbrev pub laid_state : State → Pairs → State
laid_state base pairs = record {
  records = laid_over base.records pairs;
  written = λ key. is_some (find_pair pairs key);
  reads = base.reads;
  shape = base.shape;
}

-- the disk is blamed only where it failed
abbrev pub HasCause : {T : Type 0} → ℕ → ℕ → Result T SpaceFault → Type 0
HasCause before now result = HasDiskCause Disk before now result

abbrev pub IsAmong : Key → List Key → Type 0
IsAmong q [] = ⊥
IsAmong q (key ∷ keys) = (q ≡ key) ⊎ IsAmong q keys

-- what is written now was written before, or is among these keys
pub record WritesOnly (old new : State) (keys : List Key) : Type 0 where
  pub each : (q : Key) → new.written q ≡ true → (old.written q ≡ true) ⊎ IsAmong q keys
