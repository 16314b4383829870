-- The records of a space after a new name got its number.
use Rattle.std.proofs.Common.{◌≡◌, ◌≢◌, ◌⊎◌, ⊎_elim, inl, inr, ℕ, suc, ◌+◌, ◌^◌, ◌<◌, ◌≤◌, if◌then◌else◌, cond, List}
use Rattle.std.proofs.Common.{[], ◌∷◌, ◌++◌, length, Contains, refl, sym, ap, ◌∙◌, arith}
use Rattle.plain_graph.specs.Names.{IsShortName}
use Rattle.rec_bytes.specs.declared.key.Key.{Key}
use Rattle.rec_bytes.specs.declared.meta.Meta.{Meta}
use Rattle.rec_bytes.specs.declared.shape.Shape.{Shape}
use Rattle.rec_bytes.specs.Format as format
use Rattle.rec_bytes.specs.Meta as metas
use Rattle.rec_bytes.specs.Meta.{IsMetaInRange}
use Rattle.rec_bytes.specs.RecordFiles.{meta_key_of}
use Rattle.rec_bytes.specs.Space.{State, meta_of, put}
use Rattle.rec_bytes.proofs.KeyLaws.{key_eq-same}
use Rattle.rec_bytes.proofs.Spaces.{put_other}
use Rattle.rec_bytes.proofs.Metas.{meta_reads_back}
use Rattle.store_rules.specs.Graph.{names_of}
use Rattle.store_rules.specs.Rules.{AreAllLive}
use Rattle.store_rules.specs.Views.{high, key_in, rec_at, text_of}
use Rattle.store_rules.proofs.MetaLaws.{free_fits, meta_in_range}
use Rattle.store_rules.proofs.NameMade.{IsNamed}
use Rattle.store_rules.proofs.NameRows.{all_rows, rows_same}
use Rattle.name_store.specs.Interning.{counted, interned, named, one_more}
use Rattle.name_store.specs.Loading.{name_mark, text_at}
use Rattle.name_store.specs.NameRecord.{name_record}
use Rattle.name_store.proofs.FirstNames.{length-names_of}
use Rattle.name_store.proofs.HeldTexts.{list_any-Contains, list_any-lacks}
use Rattle.name_store.proofs.NameRecords.{Fits-name_record, text_of-name_record}

-- a name that is known changes nothing, and one that is new is named
pub interned-known : (s : State) (names : List (List ℕ)) (text : List ℕ) → Contains names text → interned s names text ≡ s
interned-known s names text has = ap (λ b. if b then s else named s (length names) text) (list_any-Contains names text has)

pub interned-new : (s : State) (names : List (List ℕ)) (text : List ℕ) → ¬ Contains names text → interned s names text ≡ named s (length names) text
interned-new s names text lacks = ap (λ b. if b then s else named s (length names) text) (list_any-lacks names text lacks)

small : (n : ℕ) → one_more n < 2 ^ 32
small n = omega arith

-- what the meta record says
pub meta-named : (s : State) (id : ℕ) (text : List ℕ) → meta_of (named s id text) format.names_file ≡ counted (meta_of s format.names_file)
unfolding named
meta-named s id text =
    let m = meta_of s format.names_file in
    meta_reads_back (s.records (meta_key_of format.names_file)) (counted m) (small m.high) (free_fits s.records format.names_file) (small m.live)

pub mark-named : (s : State) (id : ℕ) (text : List ℕ) → name_mark (named s id text).records ≡ one_more (name_mark s.records)
mark-named s id text = ap (λ (m : Meta). m.high) (meta-named s id text)

pub live-named : (s : State) (id : ℕ) (text : List ℕ) → AreAllLive s.records format.names_file → AreAllLive (named s id text).records format.names_file
live-named s id text live = ap (λ (m : Meta). m.live) (meta-named s id text) ∙ ap one_more live ∙ sym (mark-named s id text)

-- the name's record, and those of the other names
pub here-named : (s : State) (id : ℕ) (text : List ℕ) → rec_at (named s id text).records format.names_file id ≡ name_record text
unfolding named
here-named s id text = ap (λ b. cond b (name_record text) (rec_at s.records format.names_file id)) (key_eq-same (key_in format.names_file id))

pub other-named : (s : State) (id : ℕ) (text : List ℕ) (key : Key) → key ≢ meta_key_of format.names_file → key ≢ key_in format.names_file id
    → (named s id text).records key ≡ s.records key
unfolding named
other-named s id text key meta name =
    let named_key = key_in format.names_file id in
    put_other (put s.records named_key (name_record text)) (meta_key_of format.names_file)
    (metas.with_meta (s.records (meta_key_of format.names_file)) (counted (meta_of s format.names_file))) key meta
    ∙ put_other s.records named_key (name_record text) key name

-- another name's text
old_text : (s : State) (id : ℕ) (text : List ℕ) (x : ℕ) → x ≢ id → text_at (named s id text).records x ≡ text_at s.records x
old_text s id text x ne = ap text_of (other-named s id text (key_in format.names_file x) (λ e. let file = ap (λ (k : Key). k.file) e in omega arith)
    (λ e. ne (ap (λ (k : Key). k.id) e)))

-- the names are one more
pub names_of-named : (s : State) (names : List (List ℕ)) (text : List ℕ) → length text ≤ 48 → length names < 4096 → names ≡ names_of s.records
    → names ++ text ∷ [] ≡ names_of (named s (length names) text).records
names_of-named s names text short few is =
    let n = length names in
    let t = (named s n text).records in
    let long : n ≡ name_mark s.records = ap length is ∙ length-names_of s.records in
    let mark : name_mark t ≡ suc n = mark-named s n text ∙ ap one_more (sym long) ∙ below few in
    let last : text_at t n ≡ text = ap text_of (here-named s n text) ∙ text_of-name_record text short in
    let old : all_rows (text_at t) n ≡ names = rows_same (text_at s.records) (text_at t) n (λ x lt. old_text s n text x (λ e. omega arith))
    ∙ ap (all_rows (text_at s.records)) long ∙ sym is in
    sym (ap (all_rows (text_at t)) mark ∙ ap (λ xs. xs ++ text_at t n ∷ []) old ∙ ap (λ x. names ++ x ∷ []) last)
  where
    below : {m : ℕ} → m < 4096 → one_more m ≡ suc m
    below lt = omega arith

meta_there : (s : State) (shape : Shape) (text : List ℕ) → IsMetaInRange shape format.names_file (s.records (meta_key_of format.names_file))
    → name_mark s.records < 4096 → AreAllLive s.records format.names_file
    → IsMetaInRange shape format.names_file ((named s (name_mark s.records) text).records (meta_key_of format.names_file))
unfolding named
meta_there s shape text meta few live =
    let m = meta_of s format.names_file in
    let free : (m.free ≡ format.nil) ⊎ (m.free < one_more m.high) = ⊎_elim (λ (none : m.free ≡ format.nil). inl none)
    (λ (lt : m.free < m.high). inr (omega arith)) meta.free in
    meta_in_range shape format.names_file (s.records (meta_key_of format.names_file)) (counted m) meta (omega arith) (omega arith) (omega arith) free
    (small m.live)

-- A new name is what the rules ask of one: its record fits, and the meta record counts it.
pub IsNamed-named : (s : State) (shape : Shape) (text : List ℕ) → IsMetaInRange shape format.names_file (s.records (meta_key_of format.names_file))
    → AreAllLive s.records format.names_file
    → name_mark s.records < 4096 → IsShortName text → ¬ Contains (names_of s.records) text
    → IsNamed s.records (named s (name_mark s.records) text).records shape (name_record text) text
IsNamed-named s shape text meta live few short new =
    let n = name_mark s.records in
    let t = (named s n text).records in
    let mark : name_mark t ≡ n + 1 = mark-named s n text ∙ below few in
    record {
      change = record { is_file = refl; others = λ key other name. other-named s n text key other name; more = omega arith; covers = λ x lt ne. omega arith };
      here = here-named s n text;
      mark = mark;
      live = live-named s n text live;
      meta = meta_there s shape text meta few live;
      fits = Fits-name_record (high t) text short;
      is = text_of-name_record text short.1;
      form = short;
      fresh = new;
    }
  where
    below : {m : ℕ} → m < 4096 → one_more m ≡ m + 1
    below lt = omega arith
