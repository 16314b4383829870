-- Changes of one file of properties or of blocks, one after another.
use Rattle.std.proofs.Common.{◌≡◌, ◌≢◌, ◌⊎◌, ℕ, ◌+◌, ◌<◌, ◌≤◌, ◌^◌, true, false, List, [], ◌∷◌, ◌++◌, length, sym, ap}
use Rattle.std.proofs.Common.{◌∙◌, subst, inl, inr, ⊎_elim, arith, refl}
use Rattle.std.proofs.lemmas.Bool.{true≢false}
use Rattle.rec_bytes.specs.declared.key.Key.{Key}
use Rattle.rec_bytes.specs.declared.meta.Meta.{Meta}
use Rattle.rec_bytes.specs.declared.record.Rec.{Rec}
use Rattle.rec_bytes.specs.declared.shape.Shape.{Shape}
use Rattle.rec_bytes.specs.Format as format
use Rattle.rec_bytes.specs.Meta as metas
use Rattle.rec_bytes.specs.Meta.{IsMetaInRange}
use Rattle.rec_bytes.specs.Record.{field}
use Rattle.rec_bytes.specs.RecordFiles.{is_meta_file, meta_key_of, room_of}
use Rattle.rec_bytes.specs.Space.{meta_in}
use Rattle.rec_bytes.proofs.RecordFiles.{is_meta_file-not_meta}
use Rattle.store_rules.specs.Chains.{In}
use Rattle.store_rules.specs.PropertyChange.{ChangesFile}
use Rattle.store_rules.specs.Ranges.{Fits, is_reused}
use Rattle.store_rules.specs.Rows.{ids}
use Rattle.store_rules.specs.Rules.{IsWellFormed}
use Rattle.store_rules.specs.Views.{Records, high, is_live, key_in, kind_at, rec_at}
use Rattle.store_rules.proofs.Changes.{live_other, marks_le}
use Rattle.store_rules.proofs.Counts.{ids_with}
use Rattle.store_rules.proofs.Frames.{live_same, split_same}
use Rattle.store_rules.proofs.MemberLaws.{in_cases}
use Rattle.store_rules.proofs.Made.{IsGone, IsMade}
use Rattle.store_rules.proofs.MetaLaws.{high_fits, meta_of_reused, not_meta_key}
use Rattle.store_rules.proofs.NumberLaws.{nat_cases}
use Rattle.store_rules.proofs.OnceLaws.{in_left, in_parts, in_right}
use Rattle.store_rules.proofs.ViewLaws.{fits_more, kind_below, kind_low, live_false, live_true}
use Rattle.id_freelist.specs.Giving.{HasGiven}
use Rattle.id_freelist.specs.Taking.{HasTaken, first_of, mark_after}
use Rattle.id_freelist.proofs.Leaving.{is_gone}
use Rattle.id_freelist.proofs.Making.{is_made}
use Rattle.prop_store.specs.FileChange.{IsSameBeside}

-- a file of properties or of blocks
abbrev pub IsPropertyFile : ℕ → Type 0
IsPropertyFile file = (file ≡ format.properties_file) ⊎ (file ≡ format.strings_file)

pub reused_file : (file : ℕ) → IsPropertyFile file → is_reused file ≡ true
reused_file file is = ⊎_elim (λ e. subst (λ f. is_reused f ≡ true) (sym e) refl) (λ e. subst (λ f. is_reused f ≡ true) (sym e) refl) is

pub meta_of_file : (file : ℕ) → IsPropertyFile file → is_meta_file file ≡ true
meta_of_file file is = meta_of_reused file (reused_file file is)

-- ---- membership

-- the numbers are of records in use, and none of these
abbrev pub AreAside : Records → ℕ → List ℕ → List ℕ → Type 0
AreAside s file old xs = (x : ℕ) → In x xs → (is_live s file x ≡ true) × (¬ In x old)

module _ (s t : Records) (shape : Shape) (file : ℕ) (old new : List ℕ) (h : ChangesFile s t shape file old new) where
  -- Lists that have more in common say the same of the change, and lists of the same members do.
  pub file_like : (xs ys : List ℕ) → ((x : ℕ) → In x old → In x xs) → ((x : ℕ) → In x new → In x ys)
      → ((x : ℕ) → In x xs → In x old ⊎ In x ys) → ((x : ℕ) → In x ys → In x new ⊎ (In x xs × (is_live s file x ≡ true) × (¬ In x old)))
      → ChangesFile s t shape file xs ys
  file_like xs ys old_in new_in back more = record {
    grows = h.grows;
    meta = h.meta;
    fits = h.fits;
    free = h.free;
    split = h.split;
    live = λ x i. ⊎_elim (λ k. h.live x k) (λ k. (h.kept x k.1 k.2).0) (more x i);
    from = λ x i. ⊎_elim (λ k. ⊎_elim (λ j. inl (old_in x j)) (λ d. inr d) (h.from x k)) (λ k. inl k.0) (more x i);
    kept = λ x l out. h.kept x l (λ i. out (old_in x i));
    only = λ x l. ⊎_elim (λ k. inl (new_in x k))
        (λ k. ⊎_elim (λ i. ⊎_elim (λ j. absurd (k.1 j)) (λ j. inl j) (back x i)) (λ out. inr (k.0, out)) (in_cases x xs)) (h.only x l);
  }

  -- What stays in use may be named before and after what changed.
  pub file_beside : (before after : List ℕ) → AreAside s file old before → AreAside s file old after
      → ChangesFile s t shape file (before ++ (old ++ after)) (before ++ (new ++ after))
  file_beside before after first last = file_like (before ++ (old ++ after)) (before ++ (new ++ after))
      (λ x i. in_right x before (old ++ after) (in_left x old after i))
      (λ x i. in_right x before (new ++ after) (in_left x new after i))
      (λ x i. ⊎_elim (λ j. inr (in_left x before (new ++ after) j))
      (λ j. ⊎_elim (λ k. inl k) (λ k. inr (in_right x before (new ++ after) (in_right x new after k))) (in_parts x old after j))
      (in_parts x before (old ++ after) i))
      (λ x i. ⊎_elim (λ j. inr (in_left x before (old ++ after) j, (first x j).0, (first x j).1))
      (λ j. ⊎_elim (λ k. inl k) (λ k. inr (in_right x before (old ++ after) (in_right x old after k), (last x k).0, (last x k).1)) (in_parts x new after j))
      (in_parts x before (new ++ after) i))

  -- A file keeps its rules after a change, whichever of its records in use are named.
  pub file_now : (xs : List ℕ) → ((x : ℕ) → In x xs → is_live t file x ≡ true) → ChangesFile t t shape file xs xs
  file_now xs live = record {
    grows = omega arith;
    meta = h.meta;
    fits = h.fits;
    free = h.free;
    split = h.split;
    live = live;
    from = λ x i. inl i;
    kept = λ x l out. (l, refl);
    only = λ x l. ⊎_elim (λ i. inl i) (λ out. inr (l, out)) (in_cases x xs);
  }

  pub keeps_file : ChangesFile t t shape file [] []
  keeps_file = file_now [] (λ x i. elim i [ ])

-- One change after another.
pub file_then : (s t u : Records) (shape : Shape) (file : ℕ) (old mid new : List ℕ) → ChangesFile s t shape file old mid → ChangesFile t u shape file mid new
    → ChangesFile s u shape file old new
file_then s t u shape file old mid new h g = record {
  grows = let a = h.grows in let b = g.grows in omega arith;
  meta = g.meta;
  fits = g.fits;
  free = g.free;
  split = g.split;
  live = g.live;
  from = λ x i. ⊎_elim (λ j. h.from x j) (λ dead. ⊎_elim (λ k. inl k) (λ out. inr (not_live_before x dead out)) (in_cases x old)) (g.from x i);
  kept = λ x l out. let a = h.kept x l out in let b = g.kept x a.0 (aside x l out) in (b.0, b.1 ∙ a.1);
  only = λ x l. ⊎_elim (λ i. inl i) (λ k. ⊎_elim (λ j. absurd (k.1 j)) (λ j. inr j) (h.only x k.0)) (g.only x l);
}
  where
    not_live_before : (x : ℕ) → is_live t file x ≡ false → ¬ In x old → is_live s file x ≡ false
    not_live_before x dead out = by (is_live s file x) (λ l. true≢false (sym (h.kept x l out).0 ∙ dead))
      where
        by : (b : _) → (b ≡ true → ⊥) → b ≡ false
        by true f = absurd (f refl)
        by false f = refl

    aside : (x : ℕ) → is_live s file x ≡ true → ¬ In x old → ¬ In x mid
    aside x l out i = ⊎_elim (λ j. out j) (λ dead. true≢false (sym l ∙ dead)) (h.from x i)

-- Besides what came first, more comes.
pub file_more : (s t u : Records) (shape : Shape) (file : ℕ) (old mid more : List ℕ) → ChangesFile s t shape file old mid → ChangesFile t u shape file [] more
    → ChangesFile s u shape file old (more ++ mid)
file_more s t u shape file old mid more h g = file_then s t u shape file old mid (more ++ mid) h
    (file_beside t u shape file [] more g [] mid (λ x i. elim i [ ]) (λ x i. (h.live x i, λ j. j)))

-- What came may be given back in part, and the rest stays.
pub file_less : (s t u : Records) (shape : Shape) (file : ℕ) (old before less after : List ℕ) → AreAside t file less before → AreAside t file less after
    → ChangesFile s t shape file old (before ++ (less ++ after)) → ChangesFile t u shape file less [] → ChangesFile s u shape file old (before ++ after)
file_less s t u shape file old before less after first last h g = file_then s t u shape file old (before ++ (less ++ after)) (before ++ after) h
    (file_beside t u shape file less [] g before after first last)

-- ---- records beside

pub beside_none : (file : ℕ) (s : Records) → IsSameBeside file s s
beside_none file s key out other = refl

pub beside_then : (file : ℕ) (s t u : Records) → IsSameBeside file s t → IsSameBeside file t u → IsSameBeside file s u
beside_then file s t u h g key out other = g key out other ∙ h key out other

-- No mark falls where one file grows, and the others are the same.
pub marks_beside : (file : ℕ) (s t : Records) → is_meta_file file ≡ true → IsSameBeside file s t → high s file ≤ high t file → (f : ℕ) → high s f ≤ high t f
marks_beside file s t is beside grows f = ⊎_elim (λ (e : f ≡ file). subst (λ g. high s g ≤ high t g) (sym e) grows)
    (λ (ne : f ≢ file). let e : high t f ≡ high s f = ap (λ r. (metas.meta_of r).high) (beside (meta_key_of f) (λ (q : format.meta_file ≡ file).
    is_meta_file-not_meta file is (sym q)) (λ q. ne (ap (λ (k : Key). k.id) q))) in omega arith) (nat_cases f file)

-- A file whose records are the same keeps its rules where no mark of another falls.
pub file_same : (s t : Records) (shape : Shape) (file : ℕ) (old new : List ℕ) → ChangesFile s s shape file old new → t (meta_key_of file) ≡ s (meta_key_of file)
    → ((x : ℕ) → rec_at t file x ≡ rec_at s file x) → ((f : ℕ) → high s f ≤ high t f)
    → (xs : List ℕ) → ((x : ℕ) → In x xs → is_live s file x ≡ true) → ChangesFile s t shape file xs xs
file_same s t shape file old new h meta each marks xs live =
    let same_meta : meta_in t file ≡ meta_in s file = ap metas.meta_of meta in
    let lives = live_same s t file (record { meta = same_meta; each = each }) in
    record {
      grows = marks file;
      meta = subst (IsMetaInRange shape file) (sym meta) h.meta;
      fits = λ x lt. subst (Fits (high t) file) (sym (each x)) (fits_more (high s) (high t) file (rec_at s file x) marks
          (h.fits x (subst (λ (m : Meta). x < m.high) same_meta lt)));
      free = h.free;
      split = split_same s t file h.free (record { meta = same_meta; each = each }) h.split;
      live = λ x i. ap (λ l. l x) lives ∙ live x i;
      from = λ x i. inl i;
      kept = λ x l out. (ap (λ l. l x) lives ∙ l, each x);
      only = λ x l. ⊎_elim (λ i. inl i) (λ out. inr (sym (ap (λ l. l x) lives) ∙ l, out)) (in_cases x xs);
    }

-- A store's files of properties and of blocks keep their rules.
pub keeps_in_store : (s : Records) (shape : Shape) (file : ℕ) → IsPropertyFile file → IsWellFormed s shape → ChangesFile s s shape file [] []
keeps_in_store s shape file is store =
    let split = store.split file (reused_file file is) in
    record {
      grows = omega arith;
      meta = store.ranges.metas file (meta_of_file file is);
      fits = λ x lt. store.ranges.fit file x (meta_of_file file is) lt;
      free = split.0;
      split = split.1;
      live = λ x i. elim i [ ];
      from = λ x i. elim i [ ];
      kept = λ x l out. (l, refl);
      only = λ x l. inr (l, λ i. i);
    }

-- ---- one record given back, or taken

-- the room of such a file is the shape's limit
room_is : (shape : Shape) (file : ℕ) → IsPropertyFile file → room_of shape file ≡ shape.limit
room_is shape file is = ⊎_elim (λ e. subst (λ f. room_of shape f ≡ shape.limit) (sym e) refl) (λ e. subst (λ f. room_of shape f ≡ shape.limit) (sym e) refl) is

-- a shape of which the file has just so much room
abbrev shape_with : Shape → ℕ → Shape
shape_with shape room = record { threshold = shape.threshold; limit = room }

room_with : (shape : Shape) (file room : ℕ) → IsPropertyFile file → room_of (shape_with shape room) file ≡ room
room_with shape file room is = room_is (shape_with shape room) file is

-- a meta record in range is so in a smaller or larger room that its mark is within
within_room : (shape other : Shape) (file : ℕ) (r : Rec) → IsMetaInRange shape file r → (metas.meta_of r).high ≤ room_of other file → IsMetaInRange other file r
within_room shape other file r h le = record { high = le; free = h.free; first = h.first; rest = h.rest }

module _ (s t : Records) (shape : Shape) (file id : ℕ) (old new : List ℕ) (is : IsPropertyFile file) (h : ChangesFile s s shape file old new)
    (live : is_live s file id ≡ true) (given : HasGiven s t file id h.free) where
  used : kind_at s file id ≢ format.free_kind
  used e = true≢false (sym live ∙ live_false (kind_at s file id) e)

  -- a room that the mark is just within, which has fewer numbers than four bytes have
  abbrev narrow : Shape
  narrow = shape_with shape (high s file)

  gone : IsGone s t narrow file id
  gone =
      let room : room_of narrow file ≡ high s file = room_with shape file (high s file) is in
      let small : room_of narrow file < 2 ^ 32 = subst (λ n. n < 2 ^ 32) (sym room) (high_fits s file) in
      let fits : (meta_in s file).high ≤ room_of narrow file = omega arith in
      is_gone s t narrow file id h.free (reused_file file is) h.split used given small (within_room shape narrow file (s (meta_key_of file)) h.meta fits)

  dead : is_live t file id ≡ false
  dead = live_false (kind_at t file id) gone.gone

  not_this : (x : ℕ) → is_live t file x ≡ true → x ≢ id
  not_this x l e = true≢false (sym l ∙ ap (is_live t file) e ∙ dead)

  -- A record given back.
  pub file_given : ChangesFile s t shape file (id ∷ []) []
  file_given = record {
    grows = let m = gone.mark in omega arith;
    meta = let room = gone.meta.high in let m = gone.mark in let b = h.meta.high in
        within_room narrow shape file (t (meta_key_of file)) gone.meta (omega arith);
    fits = λ x lt. ⊎_elim (λ (e : x ≡ id). subst (λ z. Fits (high t) file (rec_at t file z)) (sym e) gone.fits)
        (λ (ne : x ≢ id). subst (Fits (high t) file) (sym (same x ne)) (fits_more (high s) (high t) file (rec_at s file x) (marks_le s t file id gone.change)
        (h.fits x (let m = gone.mark in omega arith)))) (nat_cases x id);
    free = gone.free;
    split = gone.split;
    live = λ x i. elim i [ ];
    from = λ x i. elim i [ ];
    kept = λ x l out. (live_other s t file id gone.change x (λ e. out (inl e)) ∙ l, same x (λ e. out (inl e)));
    only = λ x l. let ne = not_this x l in inr (sym (live_other s t file id gone.change x ne) ∙ l, λ i. ⊎_elim ne (λ (j : ⊥). j) i);
  }
    where
      same : (x : ℕ) → x ≢ id → rec_at t file x ≡ rec_at s file x
      same x ne = given.others (key_in file x) (not_meta_key file x file (meta_of_file file is)) (λ e. ne (ap (λ (k : Key). k.id) e))

  -- One fewer is live.
  pub live_given : (meta_in t file).live + 1 ≡ (meta_in s file).live
  live_given =
      let more : length (ids (is_live s file) (high s file)) ≡ length (ids (is_live t file) (high s file)) + 1
      = ids_with (is_live t file) (is_live s file) (high s file) (high s file) id dead live (λ x ne. sym (live_other s t file id gone.change x ne))
      (kind_below (high s file) (rec_at s file id) id used) (inl refl) in
      let e = h.split.exact in
      let l = given.live in
      omega arith

module _ (s m t : Records) (shape : Shape) (file id : ℕ) (rec : Rec) (old new : List ℕ) (is : IsPropertyFile file) (h : ChangesFile s s shape file old new)
    (taken : HasTaken s m file id h.free) (small : id < room_of shape file)
    (here : rec_at t file id ≡ rec) (others : (key : Key) → key ≢ key_in file id → t key ≡ m key) (used : field 1 rec format.kind ≢ format.free_kind)
    (right : Fits (high s) file rec) where
  meta_stays : t (meta_key_of file) ≡ m (meta_key_of file)
  meta_stays = others (meta_key_of file) (λ e. not_meta_key file id file (meta_of_file file is) (sym e))

  high_is : high t file ≡ mark_after h.free (high s file)
  high_is = ap (λ r. (metas.meta_of r).high) meta_stays ∙ taken.mark

  bounds : (id < high t file) × (high s file ≤ high t file)
  bounds = by h.free refl
    where
      by : (xs : List ℕ) → h.free ≡ xs → (id < high t file) × (high s file ≤ high t file)
      by [] e =
          let a : id ≡ high s file = taken.is ∙ ap (λ l. first_of l (high s file)) e in
          let b : high t file ≡ high s file + 1 = high_is ∙ ap (λ l. mark_after l (high s file)) e in
          (omega arith, omega arith)
      by (y ∷ later) e =
          let a : id ≡ y = taken.is ∙ ap (λ l. first_of l (high s file)) e in
          let b : high t file ≡ high s file = high_is ∙ ap (λ l. mark_after l (high s file)) e in
          let low : id < high s file = h.split.low id (subst (In id) (sym e) (inl a)) in
          (omega arith, omega arith)

  -- a room that the mark is just within
  abbrev roomy : Shape
  roomy = shape_with shape (high t file)

  made : IsMade s t roomy file id rec
  made =
      let room : room_of roomy file ≡ high t file = room_with shape file (high t file) is in
      let fits : room_of roomy file < 2 ^ 32 = subst (λ n. n < 2 ^ 32) (sym room) (high_fits t file) in
      let within : (meta_in s file).high ≤ room_of roomy file = let b = bounds.1 in omega arith in
      is_made s m t roomy file id h.free rec (meta_of_file file is) h.split taken here others used (subst (λ n. id < n) (sym room) bounds.0) fits
      (within_room shape roomy file (s (meta_key_of file)) h.meta within)

  live_now : is_live t file id ≡ true
  live_now = live_true (kind_at t file id) (λ e. used (ap (λ r. field 1 r format.kind) (sym here) ∙ sym (kind_low (high t file) (rec_at t file id)
      id made.below) ∙ e))

  -- A record taken and written.
  pub file_taken : ChangesFile s t shape file [] (id ∷ [])
  file_taken = record {
    grows = made.change.more;
    meta = within_room roomy shape file (t (meta_key_of file)) made.meta
        (⊎_elim (λ (e : high t file ≡ high s file). let b = h.meta.high in omega arith) (λ (k : (id ≡ high s file) × (high t file ≡ high s file + 1)).
        let a = k.0 in let b = k.1 in omega arith) made.grows);
    fits = λ x lt. ⊎_elim (λ (e : x ≡ id). subst (λ z. Fits (high t) file (rec_at t file z)) (sym e) (subst (Fits (high t) file) (sym here)
        (fits_more (high s) (high t) file rec (marks_le s t file id made.change) right)))
        (λ (ne : x ≢ id). subst (Fits (high t) file) (sym (same x ne)) (fits_more (high s) (high t) file (rec_at s file x) (marks_le s t file id made.change)
        (h.fits x (made.change.covers x lt ne)))) (nat_cases x id);
    free = made.free;
    split = made.split;
    live = λ x i. ⊎_elim (λ (e : x ≡ id). ap (is_live t file) e ∙ live_now) (λ j. elim j [ ]) i;
    from = λ x i. ⊎_elim (λ (e : x ≡ id). inr (ap (is_live s file) e ∙ was_free)) (λ j. elim j [ ]) i;
    kept = λ x l out. let ne : x ≢ id = λ e. true≢false (sym l ∙ ap (is_live s file) e ∙ was_free) in (live_other s t file id made.change x ne ∙ l, same x ne);
    only = λ x l. ⊎_elim (λ (e : x ≡ id). inl (inl e)) (λ (ne : x ≢ id). inr (sym (live_other s t file id made.change x ne) ∙ l, λ i. i)) (nat_cases x id);
  }
    where
      was_free : is_live s file id ≡ false
      was_free = live_false (kind_at s file id) made.fresh

      same : (x : ℕ) → x ≢ id → rec_at t file x ≡ rec_at s file x
      same x ne = made.change.others (key_in file x) (not_meta_key file x file (meta_of_file file is)) (λ e. ne (ap (λ (k : Key). k.id) e))

  -- One more is live.
  pub live_taken : (meta_in t file).live ≡ (meta_in s file).live + 1
  live_taken = ap (λ r. (metas.meta_of r).live) meta_stays ∙ taken.live
