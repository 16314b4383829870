-- A taken identifier whose record is written: one more record in use.
use Rattle.std.proofs.Common.{◌≡◌, ◌≢◌, ◌⊎◌, ℕ, ◌+◌, ◌<◌, ◌≤◌, ◌^◌, true, List, [], ◌∷◌, sym, ap, ◌∙◌, subst, inl, inr, ⊎_elim, arith, refl}
use Rattle.std.proofs.lemmas.Bool.{cases_lt, true≢false}
use Rattle.rec_bytes.specs.declared.key.Key.{Key}
use Rattle.rec_bytes.specs.declared.meta.Meta.{Meta}
use Rattle.rec_bytes.specs.declared.record.Rec.{Rec}
use Rattle.rec_bytes.specs.declared.shape.Shape.{Shape}
use Rattle.rec_bytes.specs.Format as format
use Rattle.rec_bytes.specs.Meta as metas
use Rattle.rec_bytes.specs.Meta.{IsMetaInRange}
use Rattle.rec_bytes.specs.Record.{field}
use Rattle.rec_bytes.specs.RecordFiles.{is_meta_file, meta_key_of, room_of}
use Rattle.rec_bytes.specs.Space.{meta_in}
use Rattle.store_rules.specs.Chains.{In, IsWalk}
use Rattle.store_rules.specs.Rules.{IsSplit, next_free}
use Rattle.store_rules.specs.Views.{Records, high, is_live, key_in, kind_at, rec_at}
use Rattle.store_rules.proofs.ChainLaws.{head_once, walk_stays}
use Rattle.store_rules.proofs.Changes.{IsChanged, live_other}
use Rattle.store_rules.proofs.Counts.{ids_with}
use Rattle.store_rules.proofs.Made.{IsMade}
use Rattle.store_rules.proofs.MetaLaws.{live_fits, meta_in_range, not_meta_key}
use Rattle.store_rules.proofs.ViewLaws.{kind_high, kind_low, live_false, live_true, not_live}
use Rattle.id_freelist.specs.Taking.{HasTaken, first_of, mark_after, rest_of}

module _ (s m t : Records) (shape : Shape) (file id : ℕ) (free : List ℕ) (rec : Rec) (is_file : is_meta_file file ≡ true)
    (split : IsSplit s file (is_live s file) free) (taken : HasTaken s m file id free)
    (here : rec_at t file id ≡ rec) (others : (key : Key) → key ≢ key_in file id → t key ≡ m key) (used : field 1 rec format.kind ≢ format.free_kind)
    (small : id < room_of shape file) (room : room_of shape file < 2 ^ 32) (range : IsMetaInRange shape file (s (meta_key_of file))) where
  meta_stays : t (meta_key_of file) ≡ m (meta_key_of file)
  meta_stays = others (meta_key_of file) (λ e. not_meta_key file id file is_file (sym e))

  meta_is : meta_in t file ≡ meta_in m file
  meta_is = ap metas.meta_of meta_stays

  high_is : high t file ≡ mark_after free (high s file)
  high_is = ap (λ (q : Meta). q.high) meta_is ∙ taken.mark

  -- the identifier is free, or it is the mark
  way : (xs : List ℕ) → free ≡ xs → (In id free × (high t file ≡ high s file)) ⊎ ((id ≡ high s file) × (high t file ≡ high s file + 1))
  way [] e = inr (taken.is ∙ ap (λ l. first_of l (high s file)) e, high_is ∙ ap (λ l. mark_after l (high s file)) e)
  way (y ∷ later) e = inl (subst (In id) (sym e) (inl (taken.is ∙ ap (λ l. first_of l (high s file)) e)), high_is ∙ ap (λ l. mark_after l (high s file)) e)

  by_way : {P : Type 0} → (In id free → high t file ≡ high s file → P) → (id ≡ high s file → high t file ≡ high s file + 1 → P) → P
  by_way again fresh = ⊎_elim (λ (k : In id free × (high t file ≡ high s file)). again k.0 k.1)
      (λ (k : (id ≡ high s file) × (high t file ≡ high s file + 1)). fresh k.0 k.1) (way free refl)

  below : id < high t file
  below = by_way (λ i q. let b = split.low id i in omega arith) (λ p q. omega arith)

  grows : (high t file ≡ high s file) ⊎ ((id ≡ high s file) × (high t file ≡ high s file + 1))
  grows = by_way (λ i q. inl q) (λ p q. inr (p, q))

  change : IsChanged s t file id
  change = record {
    is_file = is_file;
    others = λ key a b. others key b ∙ taken.others key a;
    more = by_way (λ i q. omega arith) (λ p q. omega arith);
    covers = λ x lt ne. by_way (λ i q. omega arith) (λ p q. ⊎_elim (λ (l : x < high s file). l) (λ (ge : high s file ≤ x). absurd (ne (omega arith)))
        (cases_lt x (high s file)));
  }

  fresh : kind_at s file id ≡ format.free_kind
  fresh = by_way (λ i q. not_live (kind_at s file id) (split.only id i)) (λ p q. kind_high (high s file) (rec_at s file id) id (omega arith))

  live_here : is_live t file id ≡ true
  live_here = live_true (kind_at t file id) (λ e. used (sym (kind_low (high t file) (rec_at t file id) id below ∙ ap (λ r. field 1 r format.kind) here) ∙ e))

  rest_once : (xs : List ℕ) → free ≡ xs → In id (rest_of xs) → ⊥
  rest_once [] e i = elim i [ ]
  rest_once (y ∷ later) e i =
      let w = subst (IsWalk (next_free s file) (meta_in s file).free) e split.walk in
      head_once (next_free s file) y later w.1 w.2 (subst (λ z. In z later) (taken.is ∙ ap (λ l. first_of l (high s file)) e) i)

  in_rest : (xs : List ℕ) (x : ℕ) → In x (rest_of xs) → In x xs
  in_rest [] x i = i
  in_rest (y ∷ later) x i = inr i

  rest_in : (xs : List ℕ) (x : ℕ) → In x xs → x ≢ first_of xs (high s file) → In x (rest_of xs)
  rest_in [] x i ne = i
  rest_in (y ∷ later) x (inl e) ne = absurd (ne e)
  rest_in (y ∷ later) x (inr i) ne = i

  not_id : (x : ℕ) → In x (rest_of free) → x ≢ id
  not_id x i e = rest_once free refl (subst (λ z. In z (rest_of free)) e i)

  split_made : IsSplit t file (is_live t file) (rest_of free)
  split_made = record {
    walk = subst (λ f. IsWalk (next_free t file) f (rest_of free)) (sym (ap (λ (q : Meta). q.free) meta_is))
        (walk_stays (next_free m file) (next_free t file) (meta_in m file).free (rest_of free) (λ x i. ap (λ r. field 4 r format.free_next)
        (others (key_in file x) (λ e. not_id x i (ap (λ (k : Key). k.id) e)))) taken.list);
    low = λ x i. let b = split.low x (in_rest free x i) in let le = change.more in omega arith;
    only = λ x i. live_other s t file id change x (not_id x i) ∙ split.only x (in_rest free x i);
    all = λ x lt out.
        let ne : x ≢ id = λ e. true≢false (sym (subst (λ z. is_live t file z ≡ true) (sym e) live_here) ∙ out) in
        rest_in free x (split.all x (change.covers x lt ne) (sym (live_other s t file id change x ne) ∙ out)) (λ e. ne (e ∙ sym taken.is));
    exact = ap (λ (q : Meta). q.live) meta_is ∙ taken.live ∙ ap (λ n. n + 1) split.exact
        ∙ sym (ids_with (is_live s file) (is_live t file) (high s file) (high t file) id (live_false (kind_at s file id) fresh) live_here
        (live_other s t file id change) below grows);
  }

  first_low : (xs : List ℕ) → IsSplit t file (is_live t file) xs → ((meta_in t file).free ≡ format.nil) ⊎ ((meta_in t file).free < high t file)
  first_low [] k = inl k.walk
  first_low (y ∷ later) k = inr (subst (λ z. z < high t file) (sym k.walk.0) (k.low y (inl refl)))

  pub is_made : IsMade s t shape file id rec
  is_made = record {
    change = change;
    fresh = fresh;
    here = here;
    below = below;
    grows = grows;
    meta = subst (IsMetaInRange shape file) (sym (meta_stays ∙ taken.meta ∙ ap (metas.with_meta (s (meta_key_of file))) (sym meta_is)))
        (meta_in_range shape file (s (meta_key_of file)) (meta_in t file) range change.more (by_way (λ i q. let r = range.high in omega arith)
        (λ p q. omega arith)) room (first_low (rest_of free) split_made) (live_fits t file));
    free = rest_of free;
    split = split_made;
  }
