-- What is read of a store's records where those of one file changed at one identifier alone.
use Rattle.std.proofs.Common.{◌≡◌, ◌≢◌, ℕ, ◌<◌, ◌≤◌, true, false, nat_eq, not, List, sym, ap, ◌∙◌, subst, ⊎_elim, arith, refl}
use Rattle.std.proofs.lemmas.Bool.{cases_lt}
use Rattle.rec_bytes.specs.declared.key.Key.{Key}
use Rattle.rec_bytes.specs.declared.meta.Meta.{Meta}
use Rattle.rec_bytes.specs.declared.shape.Shape.{Shape}
use Rattle.rec_bytes.specs.Format as format
use Rattle.rec_bytes.specs.Meta as metas
use Rattle.rec_bytes.specs.Meta.{IsMetaInRange}
use Rattle.rec_bytes.specs.Record.{field, zeros_from}
use Rattle.rec_bytes.specs.RecordFiles.{is_meta_file, meta_key_of}
use Rattle.rec_bytes.specs.Shape.{shape_of_record, version_of}
use Rattle.store_rules.specs.Chains.{IsChain, next_in, prev_in}
use Rattle.store_rules.specs.Properties.{property_records}
use Rattle.store_rules.specs.Ranges.{AreInRange, Fits, is_reused}
use Rattle.store_rules.specs.Rules.{AreAllLive, Head, IsListed, IsSplit, first_of}
use Rattle.store_rules.specs.Views.{Records, high, is_live, key_in, kind_at, rec_at}
use Rattle.store_rules.proofs.ChainLaws.{chain_stays}
use Rattle.store_rules.proofs.Frames.{IsSame, records_same, split_same}
use Rattle.rec_bytes.proofs.RecordFiles.{is_meta_file-not_meta, is_meta_file-not_taken}
use Rattle.store_rules.proofs.MetaLaws.{meta_of_reused, not_meta_key}
use Rattle.store_rules.proofs.NumberLaws.{nat_cases}
use Rattle.store_rules.proofs.ViewLaws.{kind_low, kind_high, fits_more}

-- All records are as they were but for the file's meta record and that of the identifier. The file's mark hasn't fallen, and has risen past this one at most.
pub record IsChanged (s t : Records) (file id : ℕ) : Type 0 where
  pub is_file : is_meta_file file ≡ true
  pub others : (key : Key) → key ≢ meta_key_of file → key ≢ key_in file id → t key ≡ s key
  pub more : high s file ≤ high t file
  pub covers : (x : ℕ) → x < high t file → x ≢ id → x < high s file

module _ (s t : Records) (file id : ℕ) (change : IsChanged s t file id) where
  pub other_record : (f x : ℕ) → is_meta_file f ≡ true → (f ≡ file → x ≢ id) → rec_at t f x ≡ rec_at s f x
  other_record f x is ne = change.others (key_in f x) (not_meta_key f x file is) (λ e. ne (ap (λ (k : Key). k.file) e) (ap (λ (k : Key). k.id) e))

  pub other_meta : (f : ℕ) → f ≢ file → t (meta_key_of f) ≡ s (meta_key_of f)
  other_meta f ne = change.others (meta_key_of f) (λ e. ne (ap (λ (k : Key). k.id) e))
      (λ e. is_meta_file-not_meta file change.is_file (sym (ap (λ (k : Key). k.file) e)))

  pub same_file : (f : ℕ) → is_meta_file f ≡ true → f ≢ file → IsSame s t f
  same_file f is ne = record { meta = ap metas.meta_of (other_meta f ne); each = λ x. other_record f x is (λ e. absurd (ne e)) }

  pub file_same : (f : ℕ) → is_meta_file f ≡ true → f ≢ file → rec_at t f ≡ rec_at s f
  file_same f is ne = λ i x. (same_file f is ne).each x i

  -- properties and blocks, where the file is neither's
  pub records_stay : file ≢ format.properties_file → file ≢ format.strings_file → property_records t ≡ property_records s
  records_stay a b = records_same s t (same_file format.properties_file refl (λ e. a (sym e))) (same_file format.strings_file refl (λ e. b (sym e)))

  pub mark_same : (f : ℕ) → f ≢ file → high t f ≡ high s f
  mark_same f ne = ap (λ r. (metas.meta_of r).high) (other_meta f ne)

  pub kind_other : (x : ℕ) → x ≢ id → kind_at t file x ≡ kind_at s file x
  kind_other x ne = ⊎_elim
      (λ (lt : x < high s file). let le = change.more in kind_low (high t file) (rec_at t file x) x (omega arith) ∙ ap (λ r. field 1 r format.kind)
      (other_record file x change.is_file (λ _. ne)) ∙ sym (kind_low (high s file) (rec_at s file x) x lt))
      (λ (ge : high s file ≤ x). kind_high (high t file) (rec_at t file x) x (⊎_elim (λ (lt : x < high t file). let c = change.covers x lt ne in omega arith)
      (λ (le : high t file ≤ x). le) (cases_lt x (high t file))) ∙ sym (kind_high (high s file) (rec_at s file x) x ge))
      (cases_lt x (high s file))

  pub live_other : (x : ℕ) → x ≢ id → is_live t file x ≡ is_live s file x
  live_other x ne = ap (λ k. not (nat_eq k 0)) (kind_other x ne)

  pub marks_le : (f : ℕ) → high s f ≤ high t f
  marks_le f = ⊎_elim (λ (e : f ≡ file). subst (λ g. high s g ≤ high t g) (sym e) change.more) (λ (ne : f ≢ file). let e = mark_same f ne in omega arith)
      (nat_cases f file)

  -- the first rule, where the two records that changed keep it
  pub in_range : (shape : Shape) → IsMetaInRange shape file (t (meta_key_of file)) → (id < high t file → Fits (high t) file (rec_at t file id))
      → AreInRange s shape → AreInRange t shape
  in_range shape meta here old = record {
    own = ap shape_of_record (other_meta format.meta_file (λ e. is_meta_file-not_meta file change.is_file (sym e))) ∙ old.own;
    newest = ap version_of (other_meta format.meta_file (λ e. is_meta_file-not_meta file change.is_file (sym e))) ∙ old.newest;
    taken = ap (zeros_from format.taken_rest) (other_meta format.taken_id (λ e. is_meta_file-not_taken file change.is_file (sym e))) ∙ old.taken;
    metas = λ f is. ⊎_elim
        (λ (e : f ≡ file). subst (λ g. IsMetaInRange shape g (t (meta_key_of g))) (sym e) meta)
        (λ (ne : f ≢ file). subst (IsMetaInRange shape f) (sym (other_meta f ne)) (old.metas f is)) (nat_cases f file);
    fit = λ f x is lt. ⊎_elim
        (λ (e : f ≡ file). ⊎_elim
        (λ (k : x ≡ id). subst (λ g. Fits (high t) g (rec_at t g x)) (sym e) (subst (λ z. Fits (high t) file (rec_at t file z)) (sym k)
        (here (subst (λ z. z < high t file) k (subst (λ g. x < high t g) e lt)))))
        (λ (k : x ≢ id). kept f x is (λ _. k) (subst (λ g. x < high s g) (sym e) (change.covers x (subst (λ g. x < high t g) e lt) k))) (nat_cases x id))
        (λ (ne : f ≢ file). let e = mark_same f ne in kept f x is (λ q. absurd (ne q)) (omega arith)) (nat_cases f file);
  }
    where
      kept : (f x : ℕ) → is_meta_file f ≡ true → (f ≡ file → x ≢ id) → x < high s f → Fits (high t) f (rec_at t f x)
      kept f x is ne lt = subst (Fits (high t) f) (sym (other_record f x is ne)) (fits_more (high s) (high t) f (rec_at s f x) marks_le (old.fit f x is lt))

  -- the second rule, where the file keeps it
  pub split_all : (is_reused file ≡ true → (free : List ℕ) × IsSplit t file (is_live t file) free)
      → ((f : ℕ) → is_reused f ≡ true → (free : List ℕ) × IsSplit s f (is_live s f) free)
      → (f : ℕ) → is_reused f ≡ true → (free : List ℕ) × IsSplit t f (is_live t f) free
  split_all here old f is = ⊎_elim (λ (e : f ≡ file). subst (λ g. (free : List ℕ) × IsSplit t g (is_live t g) free) (sym e)
      (here (subst (λ g. is_reused g ≡ true) e is)))
      (λ (ne : f ≢ file). let k = old f is in (k.0, split_same s t f k.0 (same_file f (meta_of_reused f is) ne) k.1)) (nat_cases f file)

  pub kept_all : (is_reused file ≡ false → AreAllLive t file) → ((f : ℕ) → is_meta_file f ≡ true → is_reused f ≡ false → AreAllLive s f) → (f : ℕ)
      → is_meta_file f ≡ true → is_reused f ≡ false → AreAllLive t f
  kept_all here old f is no_reuse = ⊎_elim (λ (e : f ≡ file). subst (AreAllLive t) (sym e) (here (subst (λ g. is_reused g ≡ false) e no_reuse)))
      (λ (ne : f ≢ file). subst (λ (m : Meta). m.live ≡ m.high) (sym (same_file f is ne).meta) (old f is no_reuse)) (nat_cases f file)

  -- a head whose record stays lists what it did, where no relationship changed
  pub listed_kept : (h : Head) (n : ℕ) (at : ℕ → Type 0) → file ≢ format.relationships_file → is_meta_file h.key.file ≡ true
      → (h.key.file ≡ file → h.key.id ≢ id) → IsListed s h n at → IsListed t h n at
  listed_kept h n at ne is apart k =
      let rel : (x : ℕ) → rec_at t format.relationships_file x ≡ rec_at s format.relationships_file x = λ x.
      other_record format.relationships_file x refl (λ e. absurd (ne (sym e))) in
      record {
        members = k.members;
        chain = subst (λ f. IsChain (λ x. next_in (rec_at t format.relationships_file x) n) (λ x. prev_in (rec_at t format.relationships_file x) n) format.nil f
            k.members)
            (sym (ap (λ r. field 4 r h.field) (other_record h.key.file h.key.id is apart)))
            (chain_stays (λ x. next_in (rec_at s format.relationships_file x) n) (λ x. prev_in (rec_at s format.relationships_file x) n)
            (λ x. next_in (rec_at t format.relationships_file x) n) (λ x. prev_in (rec_at t format.relationships_file x) n)
            format.nil (first_of s h) k.members (λ x i. ap (λ r. next_in r n) (rel x)) (λ x i. ap (λ r. prev_in r n) (rel x)) k.chain);
        only = k.only;
        all = k.all;
      }
