-- Runs of records, and what a write of one does.
use Rattle.std.proofs.Common.{◌≡◌, ◌≢◌, ◌∙◌, ap, sym, subst, ⊎_elim, ℕ, zero, suc, ◌+◌, ◌*◌, ◌≤◌, ◌<◌, Bool, true}
use Rattle.std.proofs.Common.{false, cond, List, [], ◌∷◌, ◌++◌, Option, Some, None, is_some, unwrap_or, length, take}
use Rattle.std.proofs.Common.{drop, nat_eq, ◌↔◌, IsTrue, length-take-le, length-drop, take_at, take-append-drop, refl}
use Rattle.std.proofs.Common.{arith}
use borrow.Rule.Slice.PartMut.{post_of, put_mid}
use mathlib.Core.Bool.{false≢true}
use Rattle.std.specs.Prelude.{slice_index}
use Rattle.std.specs.Option.{option_or}
use Rattle.std.proofs.lemmas.Bool.Decides.{nat_tests}
use Rattle.std.proofs.lemmas.List.{drop-append-le, get_or-drop, get_or-take, take-append-le}
use Rattle.disk_model.specs.Contents.{Files, Holds, SameOutside}
use Rattle.rec_bytes.specs.declared.key.Key.{Key}
use Rattle.rec_bytes.specs.declared.record.Rec.{Rec}
use Rattle.rec_bytes.specs.Format.{log_file}
use Rattle.rec_bytes.specs.Key.{key_eq}
use Rattle.rec_bytes.specs.Pairs.{FindsPut, Pairs, find_pair}
use Rattle.rec_bytes.specs.RecordFiles.{is_record_file}
use Rattle.rec_bytes.specs.Space.{laid_over}
use Rattle.rec_bytes.proofs.KeyLaws.{key_eq-other, key_eq-same}
use Rattle.rec_bytes.proofs.RecordFiles.{is_record_file-not_log}
use Rattle.record_file.specs.Records.{SameButRecords, record_at}
use Rattle.record_file.specs.Runs.{Takes, key_behind, run_pairs}
use Rattle.record_file.proofs.Records.{cases_key, key-parts, record_at-holds, record_at-same}

pub length-run_pairs : (first : Key) (bytes : List ℕ) (n : ℕ) → length (run_pairs first bytes n) ≡ n
length-run_pairs first bytes zero = refl
length-run_pairs first bytes (suc n) = ap suc (length-run_pairs (key_behind first 1) (drop 64 bytes) n)

-- the key that is behind a run, and whether there is room
pub takes-run : (first : Key) (bytes : List ℕ) (n : ℕ) (key : Key) → n ≢ 0 → Takes (run_pairs first bytes n) key → (key ≡ key_behind first n) × (n < 64)
takes-run first bytes zero key some takes = absurd (some refl)
takes-run first bytes (suc n) key some takes =
    let long = length-run_pairs first bytes (suc n) in
    (subst (λ (m : ℕ). key ≡ key_behind first m) long takes.0, subst (λ (m : ℕ). m < 64) long takes.1)

pub run-takes : (first : Key) (bytes : List ℕ) (n : ℕ) (key : Key) → key ≡ key_behind first n → n < 64 → Takes (run_pairs first bytes n) key
run-takes first bytes zero key behind room = tt
run-takes first bytes (suc n) key behind room =
    let long = sym (length-run_pairs first bytes (suc n)) in
    (subst (λ (m : ℕ). key ≡ key_behind first m) long behind, subst (λ (m : ℕ). m < 64) long room)

-- a key that isn't one of a run
pub run_none : (first : Key) (bytes : List ℕ) (n : ℕ) (q : Key) → (q.file ≡ first.file → first.id ≤ q.id → q.id < first.id + n → ⊥)
    → find_pair (run_pairs first bytes n) q ≡ None
run_none first bytes zero q out = refl
run_none first bytes (suc n) q out =
    let other : q ≢ first = λ e. let id : q.id ≡ first.id = ap (λ (k : Key). k.id) e in
    out (ap (λ (k : Key). k.file) e) (omega (arith, id)) (omega (arith, id)) in
    rw (key_eq-other q first other) (run_none (key_behind first 1) (drop 64 bytes) n q (λ file from end. out file (omega (arith, from)) (omega (arith, end))))

some≢none : {X : Type 0} (o : Option X) (x : X) → o ≡ Some x → o ≢ None
some≢none o x some none = false≢true (ap is_some (sym none ∙ some))

-- and one that is
pub run_some : (first : Key) (bytes : List ℕ) (n : ℕ) (q : Key) → q.file ≡ first.file → first.id ≤ q.id → q.id < first.id + n
    → find_pair (run_pairs first bytes n) q ≢ None
run_some first bytes zero q file from end none = omega (arith, from, end)
run_some first bytes (suc n) q file from end none = ⊎_elim
    (λ (e : q ≡ first).
    let there : find_pair (run_pairs first bytes (suc n)) first ≡ Some (record { bytes = take 64 bytes }) = rw (key_eq-same first) refl in
    some≢none (find_pair (run_pairs first bytes (suc n)) first) (record { bytes = take 64 bytes }) there
    (subst (λ k. find_pair (run_pairs first bytes (suc n)) k ≡ None) e none))
    (λ differ.
    let apart : q.id ≢ first.id = λ id. false≢true (sym differ ∙ subst (λ k. key_eq q k ≡ true) (key-parts q first file id) (key_eq-same q)) in
    run_some (key_behind first 1) (drop 64 bytes) n q file (omega (arith, from, apart)) (omega (arith, end)) (rw differ at none))
    (cases_key q first)

-- the bytes of a run stand in its file
abbrev pub Stands : Key → List ℕ → ℕ → Files → Type 0
Stands first bytes n content = (i : ℕ) → i < 64 * n → slice_index bytes i ≡ content first.file (64 * first.id + i)

-- so its records are those of the content
pub run_held : (first : Key) (bytes : List ℕ) (n : ℕ) (content : Files) (q : Key) (rec : Rec) → is_record_file first.file ≡ true → 64 * n ≤ length bytes
    → Stands first bytes n content
    → find_pair (run_pairs first bytes n) q ≡ Some rec → record_at content q ≡ rec
run_held first bytes zero content q rec file long stands found = absurd (false≢true (ap is_some found))
run_held first bytes (suc n) content q rec file long stands found = ⊎_elim
    (λ (e : q ≡ first).
    let here : Rec = record { bytes = take 64 bytes } in
    let there : find_pair (run_pairs first bytes (suc n)) first ≡ Some here = rw (key_eq-same first) refl in
    let is : here ≡ rec = ap (λ (o : Option Rec). unwrap_or o here) (sym there ∙ subst (λ k. find_pair (run_pairs first bytes (suc n)) k ≡ Some rec) e found) in
    subst (λ k. record_at content k ≡ rec) (sym e)
    (record_at-holds first here content file (length-take-le 64 bytes (omega (arith, long)))
    (λ i below. let short : i < 64 = omega (arith, below, length-take-le 64 bytes (omega (arith, long))) in get_or-take 64 bytes i 0 short ∙ stands i
    (omega (arith, short)))
    ∙ is))
    (λ differ.
    run_held (key_behind first 1) (drop 64 bytes) n content q rec file (omega (arith, long, length-drop 64 bytes))
    (λ i below. get_or-drop 64 bytes i 0 ∙ stands (64 + i) (omega (arith, below)) ∙ ap (content first.file) (omega arith))
    (rw differ at found))
    (cases_key q first)

-- a write of a run leaves each other record, and the log
pub SameButRecords-run : (first : Key) (bytes : List ℕ) (n : ℕ) (old new : Files) → is_record_file first.file ≡ true
    → SameOutside first.file (64 * first.id) (64 * n) old new → SameButRecords (run_pairs first bytes n) old new
SameButRecords-run first bytes n old new file same = record {
  log = λ place. same log_file place (λ within. is_record_file-not_log first.file file (sym within.in_file));
  others = λ q none. record_at-same q old new (λ _ p from end. same q.file p (λ within.
      run_some first bytes n q within.in_file (omega (arith, end, within.at_or_behind)) (omega (arith, from, within.before_end)) none));
}

-- and has its records written
pub run_written : (first : Key) (bytes : List ℕ) (n : ℕ) (old new : Files) → is_record_file first.file ≡ true → 64 * n ≤ length bytes → Stands first bytes n new
    → SameOutside first.file (64 * first.id) (64 * n) old new → record_at new ≡ laid_over (record_at old) (run_pairs first bytes n)
run_written first bytes n old new file long stands same = λ i q. at q (find_pair (run_pairs first bytes n) q) refl i
  where
    at : (q : Key) (o : Option Rec) → find_pair (run_pairs first bytes n) q ≡ o → record_at new q ≡ unwrap_or o (record_at old q)
    at q (Some rec) found = run_held first bytes n new q rec file long stands found
    at q None none = (SameButRecords-run first bytes n old new file same).others q none

key_behind-then : (key : Key) (m n k : ℕ) → m + n ≡ k → key_behind (key_behind key m) n ≡ key_behind key k
key_behind-then key m n k e = ap (λ (i : ℕ). let q : Key = record { file = key.file; id = i } in q) (omega (arith, e))

-- one record more
run_push : (first : Key) (n : ℕ) (front own back rest : List ℕ) → length front ≡ 64 * n → length own ≡ 64
    → run_pairs first (front ++ (own ++ back)) (suc n) ≡ run_pairs first (front ++ rest) n ++ (key_behind first n, record { bytes = own }) ∷ []
run_push first zero [] own back rest long whole =
    let key : first ≡ key_behind first 0 = ap (λ (i : ℕ). let q : Key = record { file = first.file; id = i } in q) (omega arith) in
    ap (λ (bs : List ℕ). let p : Key × Rec = (first, record { bytes = bs }) in p ∷ []) (take_at own back 64 whole)
    ∙ ap (λ (k : Key). let p : Key × Rec = (k, record { bytes = own }) in p ∷ []) key
run_push first zero (b ∷ front) own back rest long whole = absurd (omega (arith, long))
run_push first (suc n) front own back rest long whole =
    let le : 64 ≤ length front = omega (arith, long) in
    let later = run_push (key_behind first 1) n (drop 64 front) own back rest (omega (arith, long, length-drop 64 front)) whole in
    let behind = key_behind-then first 1 n (suc n) (omega arith) in
    rw (take-append-le 64 front (own ++ back) le, take-append-le 64 front rest le, drop-append-le 64 front (own ++ back) le, drop-append-le 64 front rest le)
    (ap (λ (ps : Pairs). (first, record { bytes = take 64 front }) ∷ ps)
    (later ∙ ap (λ (k : Key). run_pairs (key_behind first 1) (drop 64 front ++ rest) n ++ (k, record { bytes = own }) ∷ []) behind))

-- a find among pairs and one behind them
find_pair-append : (ps : Pairs) (key : Key) (rec : Rec) (q : Key) → find_pair (ps ++ (key, rec) ∷ []) q ≡ option_or (find_pair ps q)
    (cond (key_eq q key) (Some rec) None)
find_pair-append [] key rec q = refl
find_pair-append (pair ∷ rest) key rec q =
    pick (key_eq q pair.0) pair.1 (find_pair (rest ++ (key, rec) ∷ []) q) (find_pair rest q) (cond (key_eq q key) (Some rec) None)
    (find_pair-append rest key rec q)
  where
    pick : (b : Bool) (here : Rec) (more one other : Option Rec) → more ≡ option_or one other
        → cond b (Some here) more ≡ option_or (cond b (Some here) one) other
    pick true here more one other later = refl
    pick false here more one other later = later

or-none : {X : Type 0} (o : Option X) → option_or o None ≡ o
or-none (Some x) = refl
or-none None = refl

FindsPut-append : (ps : Pairs) (key : Key) (rec : Rec) → find_pair ps key ≡ None → FindsPut ps (ps ++ (key, rec) ∷ []) key rec
FindsPut-append ps key rec none q = find_pair-append ps key rec q ∙ ⊎_elim
    (λ (e : q ≡ key). subst (λ k. option_or (find_pair ps k) (cond (key_eq k key) (Some rec) None) ≡ cond (key_eq k key) (Some rec) (find_pair ps k)) (sym e)
    (rw (none, key_eq-same key) refl))
    (λ differ. rw differ (or-none (find_pair ps q)))
    (cases_key q key)

-- the bytes of a record behind those of a run
pub FindsPut-run : (first : Key) (n at size : ℕ) (bytes own : List ℕ) (key : Key) (rec : Rec) → at ≡ 64 * n → at + 64 ≤ length bytes → own ≡ rec.bytes
    → length rec.bytes ≡ 64 → key ≡ key_behind first n
    → FindsPut (run_pairs first bytes n) (run_pairs first (put_mid at size bytes own) (n + 1)) key rec
FindsPut-run first n at size bytes own key rec start room is whole behind =
    let long : length (take at bytes) ≡ 64 * n = length-take-le at bytes (omega (arith, room)) ∙ start in
    let pushed : run_pairs first (put_mid at size bytes own) (suc n) ≡ run_pairs first (take at bytes ++ drop at bytes)
    n ++ (key_behind first n, record { bytes = own }) ∷ [] =
    run_push first n (take at bytes) own (post_of at size bytes) (drop at bytes) long (ap length is ∙ whole) in
    let next : n + 1 ≡ suc n = omega arith in
    let now : run_pairs first (put_mid at size bytes own) (n + 1) ≡ run_pairs first bytes n ++ (key, rec) ∷ [] =
    ap (λ (m : ℕ). run_pairs first (put_mid at size bytes own) m) next
    ∙ pushed
    ∙ ap (λ (bs : List ℕ). run_pairs first bs n ++ (key_behind first n, record { bytes = own }) ∷ []) (take-append-drop at bytes)
    ∙ ap (λ (bs : List ℕ). run_pairs first bytes n ++ (key_behind first n, record { bytes = bs }) ∷ []) is
    ∙ ap (λ (k : Key). run_pairs first bytes n ++ (k, rec) ∷ []) (sym behind) in
    let absent : find_pair (run_pairs first bytes n) key ≡ None = run_none first bytes n key (λ _ _ end. omega (arith, end, ap (λ (k : Key). k.id) behind)) in
    subst (λ (ps : Pairs). FindsPut (run_pairs first bytes n) ps key rec) (sym now) (FindsPut-append (run_pairs first bytes n) key rec absent)

-- a key that is put next behind a run: the run has these pairs, and the key stands behind them
pub record IsReady (first : Key) (bytes : List ℕ) (n : ℕ) (key : Key) (pairs : Pairs) : Type 0 where
  pub pairs_are : run_pairs first bytes n ≡ pairs
  pub behind : key ≡ key_behind first n
  pub room : n < 64
  pub whole : length bytes ≡ 4096

pub IsReady-none : (first key : Key) (bytes : List ℕ) (n : ℕ) (pairs : Pairs) → n ≡ 0 → run_pairs first bytes n ≡ pairs → length bytes ≡ 4096
    → IsReady key bytes n key pairs
IsReady-none first key bytes n pairs none are whole = record {
  pairs_are = ap (run_pairs key bytes) none ∙ ap (run_pairs first bytes) (sym none) ∙ are;
  behind = ap (λ (i : ℕ). let q : Key = record { file = key.file; id = i } in q) (omega (arith, none));
  room = omega (arith, none);
  whole = whole;
}

pub IsReady-some : (first key : Key) (bytes : List ℕ) (n : ℕ) (pairs : Pairs) → n ≢ 0 → run_pairs first bytes n ≡ pairs → Takes pairs key → length bytes ≡ 4096
    → IsReady first bytes n key pairs
IsReady-some first key bytes n pairs some are takes whole =
    let is = takes-run first bytes n key some (subst (λ (ps : Pairs). Takes ps key) (sym are) takes) in
    record { pairs_are = are; behind = is.0; room = is.1; whole = whole }

pub FindsPut-ready : (first : Key) (n at size : ℕ) (bytes own : List ℕ) (key : Key) (rec : Rec) (pairs : Pairs) → IsReady first bytes n key pairs → at ≡ 64 * n
    → own ≡ rec.bytes → length rec.bytes ≡ 64
    → FindsPut pairs (run_pairs first (put_mid at size bytes own) (n + 1)) key rec
FindsPut-ready first n at size bytes own key rec pairs ready start is whole =
    subst (λ (ps : Pairs). FindsPut ps (run_pairs first (put_mid at size bytes own) (n + 1)) key rec) ready.pairs_are
    (FindsPut-run first n at size bytes own key rec start (omega (arith, start, ready.room, ready.whole)) is whole ready.behind)

-- the same of the bytes that a call writes
pub SameButRecords-held : (first : Key) (bytes : List ℕ) (n size at : ℕ) (old new : Files) (pairs : Pairs) → run_pairs first bytes n ≡ pairs
    → is_record_file first.file ≡ true → n ≤ 64 → length bytes ≡ 4096
    → size ≡ 64 * n → at ≡ 64 * first.id → SameOutside first.file at (length (take size bytes)) old new → SameButRecords pairs old new
SameButRecords-held first bytes n size at old new pairs are file few whole size_is at_is same =
    let long : length (take size bytes) ≡ 64 * n = length-take-le size bytes (omega (arith, few, whole, size_is)) ∙ size_is in
    subst (λ (ps : Pairs). SameButRecords ps old new) are
    (SameButRecords-run first bytes n old new file (subst (λ (m : ℕ). SameOutside first.file (64 * first.id) m old new) long
    (subst (λ (a : ℕ). SameOutside first.file a (length (take size bytes)) old new) at_is same)))

pub run_written-held : (first : Key) (bytes : List ℕ) (n size at : ℕ) (old new : Files) (pairs : Pairs) → run_pairs first bytes n ≡ pairs
    → is_record_file first.file ≡ true → n ≤ 64 → length bytes ≡ 4096
    → size ≡ 64 * n → at ≡ 64 * first.id → Holds first.file at (take size bytes) new → SameOutside first.file at (length (take size bytes)) old new
    → record_at new ≡ laid_over (record_at old) pairs
run_written-held first bytes n size at old new pairs are file few whole size_is at_is holds same =
    let long : length (take size bytes) ≡ 64 * n = length-take-le size bytes (omega (arith, few, whole, size_is)) ∙ size_is in
    let out = subst (λ (m : ℕ). SameOutside first.file (64 * first.id) m old new) long
    (subst (λ (a : ℕ). SameOutside first.file a (length (take size bytes)) old new) at_is same) in
    let stands : Stands first bytes n new = λ i below.
    sym (get_or-take size bytes i 0 (omega (arith, below, size_is))) ∙ holds i (omega (arith, below, long)) ∙ ap (λ (a : ℕ). new first.file (a + i)) at_is in
    subst (λ (ps : Pairs). record_at new ≡ laid_over (record_at old) ps) are (run_written first bytes n old new file (omega (arith, few, whole)) stands out)

-- a run takes a key that stands behind it in its file
pub Takes-iff : (first key : Key) (bytes : List ℕ) (n : ℕ) (pairs : Pairs) → n ≢ 0 → run_pairs first bytes n ≡ pairs → n < 64 → key.file ≡ first.file
    → IsTrue (nat_eq key.id (first.id + n)) ↔ Takes pairs key
Takes-iff first key bytes n pairs some are room file = (
  λ test.
      let id : key.id ≡ first.id + n = grind (arith, nat_tests) in
      subst (λ (ps : Pairs). Takes ps key) are (run-takes first bytes n key (key-parts key (key_behind first n) file id) room),
  λ takes.
      let is = takes-run first bytes n key some (subst (λ (ps : Pairs). Takes ps key) (sym are) takes) in
      let id : key.id ≡ first.id + n = ap (λ (k : Key). k.id) is.0 in
      grind (arith, nat_tests, id),
)
