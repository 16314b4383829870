-- What a store's meta records say after a change of one.
use Rattle.std.proofs.Common.{◌≡◌, ◌≢◌, ◌⊎◌, ⊎_elim, inl, inr, subst, ℕ, ◌<◌, ◌≤◌, ◌^◌, true, false, cond, nat_eq, sym, ap, ◌∙◌, arith}
use Rattle.rec_bytes.specs.declared.record.Rec.{Rec}
use Rattle.rec_bytes.specs.declared.key.Key.{Key}
use Rattle.rec_bytes.specs.declared.meta.Meta.{Meta}
use Rattle.rec_bytes.specs.Format as format
use Rattle.rec_bytes.specs.Meta as metas
use Rattle.rec_bytes.specs.Meta.{with_meta, rest_of, IsMetaInRange}
use Rattle.rec_bytes.specs.RecordFiles.{is_meta_file, meta_key_of, room_of}
use Rattle.rec_bytes.specs.Space.{meta_in}
use Rattle.rec_bytes.specs.declared.shape.Shape.{Shape}
use Rattle.rec_bytes.proofs.MetaBytes.{rest_of-behind, zeros_from-with_meta}
use Rattle.rec_bytes.proofs.Metas.{definition-with_meta, meta_reads_back}
use Rattle.rec_bytes.proofs.Numbers.{field-lt}
use Rattle.rec_bytes.proofs.RecordFiles.{is_meta_file-not_meta}
use Rattle.store_rules.specs.Ranges.{is_reused}
use Rattle.store_rules.specs.Views.{Records, key_in}
use Rattle.store_rules.proofs.NumberLaws.{and_parts}

pub meta_of_reused : (file : ℕ) → is_reused file ≡ true → is_meta_file file ≡ true
meta_of_reused file h = (and_parts (is_meta_file file) (cond (nat_eq file format.names_file) false true) h).0

-- a record of a file with a meta record is no meta record
pub not_meta_key : (file x g : ℕ) → is_meta_file file ≡ true → key_in file x ≢ meta_key_of g
not_meta_key file x g is e = is_meta_file-not_meta file is (ap (λ (k : Key). k.file) e)

-- the numbers of a meta record fit
pub high_fits : (records : Records) (file : ℕ) → (meta_in records file).high < 2 ^ 32
high_fits records file = field-lt 4 (records (meta_key_of file)) format.meta_high

pub free_fits : (records : Records) (file : ℕ) → (meta_in records file).free < 2 ^ 32
free_fits records file = field-lt 4 (records (meta_key_of file)) format.meta_free

pub live_fits : (records : Records) (file : ℕ) → (meta_in records file).live < 2 ^ 32
live_fits records file = field-lt 4 (records (meta_key_of file)) format.meta_live

-- a meta record in range stays so with other numbers that are
pub meta_in_range : (shape : Shape) (file : ℕ) (r : Rec) (m : Meta) → IsMetaInRange shape file r → (metas.meta_of r).high ≤ m.high → m.high ≤ room_of shape file
    → room_of shape file < 2 ^ 32
    → (m.free ≡ format.nil) ⊎ (m.free < m.high) → m.live < 2 ^ 32 → IsMetaInRange shape file (with_meta r m)
meta_in_range shape file r m old more high small free live =
    let free_small : m.free < 2 ^ 32 = ⊎_elim (λ (e : m.free ≡ format.nil). omega arith) (λ (lt : m.free < m.high). omega arith) free in
    let back : metas.meta_of (with_meta r m) ≡ m = meta_reads_back r m (omega arith) free_small live in
    record {
      high = subst (λ (q : Meta). q.high ≤ room_of shape file) (sym back) high;
      free = subst (λ (q : Meta). (q.free ≡ format.nil) ⊎ (q.free < q.high)) (sym back) free;
      first = λ is.
          let link = definition-with_meta r m in
          let mark = ap (λ (q : Meta). q.high) back in
          ⊎_elim (λ (none : _). inl (link ∙ none)) (λ (below : _). inr (omega (arith, link, mark, below, more))) (old.first is);
      rest = zeros_from-with_meta (rest_of file) r m (rest_of-behind file) old.rest;
    }
