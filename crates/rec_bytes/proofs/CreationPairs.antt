-- The first records of a store, put one by one.
use Rattle.std.proofs.Common.{◌≡◌, ℕ, Bool, true, false, cond, ◌||◌, nat_eq, List, [], ◌∷◌, Some, rules, refl, ap, ◌∙◌, inl, arith}
use Rattle.std.specs.Prelude.{map}
use Rattle.std.specs.List.{list_any}
use Rattle.std.proofs.lemmas.Bool.Decides.{nat_tests}
use Rattle.rec_bytes.specs.declared.meta.Meta.{Meta}
use Rattle.rec_bytes.specs.declared.record_files.RecordFile.{RecordFile}
use Rattle.rec_bytes.specs.declared.shape.Shape.{Shape}
use Rattle.rec_bytes.specs.Creation.{creation_pairs, new_records, own_key, raising_pairs}
use Rattle.rec_bytes.specs.Format.{index_file, meta_definition, meta_index_rest, meta_rest, newest_version, nil, own_id}
use Rattle.rec_bytes.specs.Meta as metas
use Rattle.rec_bytes.specs.Meta.{IsMetaInRange, empty_meta, first_meta, has_definition, meta_record, rest_of}
use Rattle.rec_bytes.specs.Pairs.{Pairs, IsOrdered, find_pair, merged, with_pair}
use Rattle.rec_bytes.specs.Record.{as_64, field, with_bytes, with_field, zeros, zeros_from}
use Rattle.rec_bytes.specs.RecordFiles.{Rooms, is_meta_file, meta_files, meta_key_of, meta_rooms, rooms_of}
use Rattle.rec_bytes.specs.Shape.{is_allowed, shape_of_record, shape_record, version_of}
use Rattle.rec_bytes.proofs.Metas.{meta_of-definition, meta_reads_back}
use Rattle.rec_bytes.proofs.Numbers.{field-with_field_same}
use Rattle.rec_bytes.proofs.RecordFiles.{is_meta_file-not_meta}
use Rattle.rec_bytes.proofs.Shapes.{shape_reads_back, version_reads_back}

-- the first meta records of these files
abbrev pub meta_pairs : List RecordFile → Pairs
meta_pairs files = map (λ (room : _). (meta_key_of room.0, first_meta room.0)) (rooms_of files)

-- the own record, and the meta records put one by one
pub creation_pairs-merged : (shape : Shape) (files : List RecordFile) → rooms_of files ≡ meta_rooms
    → merged (with_pair [] own_key (shape_record shape)) (meta_pairs files) ≡ creation_pairs shape
unfolding with_pair
creation_pairs-merged shape files e = ap (λ (rooms : Rooms). merged (with_pair [] own_key (shape_record shape))
    (map (λ room. (meta_key_of room.0, first_meta room.0)) rooms)) e

-- the two records of the raise, put one by one
pub raising_pairs-put : (shape : Shape) → with_pair (with_pair [] own_key (shape_record shape)) (meta_key_of index_file) (first_meta index_file) ≡ raising_pairs
    shape
unfolding with_pair
raising_pairs-put shape = refl

-- the keys rise
pub creation_pairs-ordered : (shape : Shape) → IsOrdered (creation_pairs shape)
creation_pairs-ordered shape = search rules

-- a meta record for each file
pub find_pair-creation_meta : (shape : Shape) (file : ℕ) → is_meta_file file ≡ true
    → find_pair (creation_pairs shape) (meta_key_of file) ≡ Some (first_meta file)
find_pair-creation_meta shape file h =
    let ne = is_meta_file-not_meta file h in
    let other : nat_eq file own_id ≡ false = grind (arith, nat_tests) in
    ap (λ (t : Bool). cond t (Some (shape_record shape)) (find_pair (map (λ (f : ℕ). (meta_key_of f, first_meta f)) meta_files) (meta_key_of file))) other
    ∙ each meta_files h
  where
    each : (files : List ℕ) → list_any (nat_eq file) files ≡ true → find_pair (map (λ (f : ℕ). (meta_key_of f, first_meta f)) files) (meta_key_of file) ≡ Some
        (first_meta file)
    each [] any = absurd cc
    each (one ∷ rest) any = pick (nat_eq file one) (λ e. let same : one ≡ file = grind (arith, nat_tests) in ap (λ f. Some (first_meta f)) same) (each rest) any
      where
        pick : (here : Bool) → (here ≡ true → Some (first_meta one) ≡ Some (first_meta file))
            → (list_any (nat_eq file) rest ≡ true → find_pair (map (λ (f : ℕ). (meta_key_of f, first_meta f)) rest) (meta_key_of file) ≡ Some (first_meta file))
            → (here || list_any (nat_eq file) rest) ≡ true
            → cond here (Some (first_meta one)) (find_pair (map (λ (f : ℕ). (meta_key_of f, first_meta f)) rest) (meta_key_of file)) ≡ Some (first_meta file)
        pick true is later any = is refl
        pick false is later any = later any

-- what they say
pub first_meta-says : (file : ℕ) → metas.meta_of (first_meta file) ≡ empty_meta
first_meta-says file = pick (has_definition file)
  where
    read : metas.meta_of (meta_record empty_meta) ≡ empty_meta
    read = meta_reads_back zeros empty_meta (omega arith) (omega arith) (omega arith)

    pick : (b : Bool) → metas.meta_of (cond b (with_field 4 (meta_record empty_meta) meta_definition nil) (meta_record empty_meta)) ≡ empty_meta
    pick false = read
    pick true = meta_of-definition (meta_record empty_meta) nil ∙ read

pub shape_of_record-new : (shape : Shape) → is_allowed shape ≡ true → shape_of_record (new_records shape own_key) ≡ Some shape
shape_of_record-new shape allowed = shape_reads_back shape (grind (arith, nat_tests)) (grind (arith, nat_tests)) allowed

pub version_of-new : (shape : Shape) → version_of (shape_record shape) ≡ newest_version
version_of-new shape = version_reads_back zeros shape

-- nothing was given out, and nothing stands behind
first_rest : (file : ℕ) → zeros_from (rest_of file) (first_meta file) ≡ true
unfolding zeros_from with_field with_bytes as_64
first_rest file = pick (has_definition file)
  where
    pick : (b : Bool) → zeros_from (cond b meta_index_rest meta_rest) (cond b (with_field 4 (meta_record empty_meta) meta_definition nil)
        (meta_record empty_meta)) ≡ true
    pick true = refl
    pick false = refl

pub IsMetaInRange-empty : (shape : Shape) (file : ℕ) → IsMetaInRange shape file (first_meta file)
IsMetaInRange-empty shape file =
    let read = first_meta-says file in
    let high : (metas.meta_of (first_meta file)).high ≡ 0 = ap (λ (m : Meta). m.high) read in
    record {
      high = omega arith;
      free = inl (ap (λ (m : Meta). m.free) read);
      first = λ is. inl (ap (λ (b : Bool). field 4 (cond b (with_field 4 (meta_record empty_meta) meta_definition nil) (meta_record empty_meta))
          meta_definition) is ∙ field-with_field_same 4 (meta_record empty_meta) meta_definition nil (omega arith) (omega arith));
      rest = first_rest file;
    }
