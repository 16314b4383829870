-- Changes of one file of records in part of a list, and of one record in place.
use Rattle.std.proofs.Common.{◌≡◌, ◌≢◌, ◌⊎◌, ℕ, ◌<◌, ◌≤◌, true, not, nat_eq, length, List, [], ◌∷◌, ◌++◌, sym, ap, ◌∙◌, subst, inl, inr, ⊎_elim, arith, refl}
use Rattle.std.proofs.lemmas.Bool.{true≢false}
use Rattle.rec_bytes.specs.declared.meta.Meta.{Meta}
use Rattle.rec_bytes.specs.declared.shape.Shape.{Shape}
use Rattle.rec_bytes.specs.Format as format
use Rattle.rec_bytes.specs.Meta as metas
use Rattle.rec_bytes.specs.Meta.{IsMetaInRange}
use Rattle.rec_bytes.specs.Record.{field}
use Rattle.rec_bytes.specs.RecordFiles.{meta_key_of}
use Rattle.rec_bytes.specs.Space.{meta_in}
use Rattle.store_rules.specs.Chains.{In, IsWalk}
use Rattle.store_rules.specs.Properties.{AreOnce}
use Rattle.store_rules.specs.PropertyChange.{ChangesFile}
use Rattle.store_rules.specs.Ranges.{Fits}
use Rattle.store_rules.specs.Rows.{ids}
use Rattle.store_rules.specs.Rules.{IsSplit, next_free}
use Rattle.store_rules.specs.Views.{Records, high, is_live, kind_at, kind_in, rec_at}
use Rattle.store_rules.proofs.ChainLaws.{walk_stays}
use Rattle.store_rules.proofs.MemberLaws.{in_cases}
use Rattle.store_rules.proofs.NumberLaws.{nat_cases}
use Rattle.store_rules.proofs.ViewLaws.{fits_more, kind_below, kind_low, live_false, live_true}
use Rattle.prop_store.proofs.FileSteps.{file_like, file_same, file_then, keeps_file}
use Rattle.prop_store.proofs.ListLaws.{in_either, in_left, in_right, once_split}

-- The list has other numbers in the place of some.
pub record Replaces (mid a b new : List ℕ) : Type 0 where
  pub there : (x : ℕ) → In x a → In x mid
  pub from : (x : ℕ) → In x new → In x b ⊎ (In x mid × (¬ In x a))
  pub placed : (x : ℕ) → In x b → In x new
  pub kept : (x : ℕ) → In x mid → ¬ In x a → In x new

-- those in the middle of a list, in which none comes twice
pub middle : (front a b back : List ℕ) → AreOnce (front ++ (a ++ back)) → Replaces (front ++ (a ++ back)) a b (front ++ (b ++ back))
middle front a b back once =
    let outer = once_split front (a ++ back) once in
    let rest = once_split a back outer.right in
    record {
      there = λ x i. in_right x front (a ++ back) (in_left x a back i);
      from = λ x i. ⊎_elim
          (λ (f : In x front). inr (in_left x front (a ++ back) f, (λ (j : In x a). outer.apart x f (in_left x a back j))))
          (λ r. ⊎_elim (λ (j : In x b). inl j) (λ (k : In x back). inr (in_right x front (a ++ back) (in_right x a back k), (λ (j : In x a). rest.apart x j k)))
          (in_either x b back r))
          (in_either x front (b ++ back) i);
      placed = λ x i. in_right x front (b ++ back) (in_left x b back i);
      kept = λ x i out. ⊎_elim (λ (f : In x front). in_left x front (b ++ back) f)
          (λ r. ⊎_elim (λ (j : In x a). absurd (out j)) (λ (k : In x back). in_right x front (b ++ back) (in_right x b back k)) (in_either x a back r))
          (in_either x front (a ++ back) i);
    }

module _ (shape : Shape) (file : ℕ) where
  -- after one change another, in part of the list
  pub composed : (s m t : Records) (old mid a b new : List ℕ) → Replaces mid a b new → ChangesFile s m shape file old mid → ChangesFile m t shape file a b
      → ChangesFile s t shape file old new
  composed s m t old mid a b new r h k = file_then s m t shape file old mid new h (file_like m t shape file a b k mid new r.there r.placed
      (λ x i. ⊎_elim (λ (j : In x a). inl j) (λ (out : ¬ In x a). inr (r.kept x i out)) (in_cases x a))
      (λ x i. ⊎_elim (λ (j : In x b). inl j) (λ (j : In x mid × (¬ In x a)). inr (j.0, h.live x j.0, j.1)) (r.from x i)))

  -- a change of other files leaves this one's, where no mark falls
  pub framed : (s m t : Records) (old new : List ℕ) → ChangesFile s m shape file old new → t (meta_key_of file) ≡ m (meta_key_of file)
      → ((x : ℕ) → rec_at t file x ≡ rec_at m file x) → ((f : ℕ) → high m f ≤ high t f)
      → ChangesFile s t shape file old new
  framed s m t old new h meta each more = file_then s m t shape file old new new h
      (file_same m t shape file [] [] (keeps_file s m shape file old new h) meta each more new h.live)

  -- a record in use is written anew
  pub rewritten : (s t : Records) (id : ℕ) → ChangesFile s s shape file (id ∷ []) (id ∷ []) → t (meta_key_of file) ≡ s (meta_key_of file)
      → ((x : ℕ) → x ≢ id → rec_at t file x ≡ rec_at s file x)
      → field 1 (rec_at t file id) format.kind ≢ format.free_kind → Fits (high t) file (rec_at t file id) → ((f : ℕ) → high s f ≤ high t f)
      → ChangesFile s t shape file (id ∷ []) (id ∷ [])
  rewritten s t id h meta each used here more =
      let same : meta_in t file ≡ meta_in s file = ap metas.meta_of meta in
      let mark : high t file ≡ high s file = ap (λ (q : Meta). q.high) same in
      let was : is_live s file id ≡ true = h.live id (inl refl) in
      let low : id < high s file = kind_below (high s file) (rec_at s file id) id (λ e. true≢false (sym was ∙ live_false (kind_at s file id) e)) in
      let now : is_live t file id ≡ true = live_true (kind_at t file id) (λ e. used (sym (kind_low (high t file) (rec_at t file id) id (omega arith)) ∙ e)) in
      let other : (x : ℕ) → x ≢ id → is_live t file x ≡ is_live s file x = λ x ne. (λ i. not (nat_eq (kind_in (mark i) (each x ne i) x) 0)) in
      let live : (x : ℕ) → is_live t file x ≡ is_live s file x = λ x. ⊎_elim
      (λ (e : x ≡ id). ap (is_live t file) e ∙ now ∙ sym was ∙ ap (is_live s file) (sym e)) (λ (ne : x ≢ id). other x ne) (nat_cases x id) in
      let split : IsSplit t file (is_live s file) h.free = record {
        walk = subst (λ (m : Meta). IsWalk (next_free t file) m.free h.free) (sym same)
            (walk_stays (next_free s file) (next_free t file) (meta_in s file).free h.free
            (λ x i. ap (λ r. field 4 r format.free_next) (each x (λ e. true≢false (sym was ∙ ap (is_live s file) (sym e) ∙ h.split.only x i)))) h.split.walk);
        low = λ x i. subst (λ m. x < m) (sym mark) (h.split.low x i);
        only = h.split.only;
        all = λ x lt. h.split.all x (subst (λ m. x < m) mark lt);
        exact = subst (λ (m : Meta). m.live ≡ length (ids (is_live s file) m.high)) (sym same) h.split.exact;
      } in
      record {
        grows = omega arith;
        meta = subst (IsMetaInRange shape file) (sym meta) h.meta;
        fits = λ x lt. ⊎_elim (λ (e : x ≡ id). subst (λ z. Fits (high t) file (rec_at t file z)) (sym e) here)
            (λ (ne : x ≢ id). subst (Fits (high t) file) (sym (each x ne)) (fits_more (high s) (high t) file (rec_at s file x) more (h.fits x (omega arith))))
            (nat_cases x id);
        free = h.free;
        split = subst (λ l. IsSplit t file l h.free) (λ i x. sym (live x) i) split;
        live = λ x i. live x ∙ h.live x i;
        from = λ x i. inl i;
        kept = λ x l out. (live x ∙ l, each x (λ e. out (inl e)));
        only = λ x l. h.only x (sym (live x) ∙ l);
      }
