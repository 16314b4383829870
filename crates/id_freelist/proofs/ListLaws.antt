-- What is wrong with a free list after a change was wrong with it before.
use Rattle.std.proofs.Common.{◌≡◌, ◌≢◌, ◌⊎◌, ℕ, ◌+◌, ◌-◌, ◌<◌, Bool, false, cond, None, Some, List, [], ◌∷◌, sym, ap}
use Rattle.std.proofs.Common.{◌∙◌, subst, inl, inr, ⊎_elim, arith, refl, length}
use Rattle.std.proofs.lemmas.Bool.{true≢false}
use Rattle.rec_bytes.specs.declared.damage.Damage.{Damage}
use Rattle.rec_bytes.specs.declared.meta.Meta.{Meta}
use Rattle.rec_bytes.specs.declared.shape.Shape.{Shape}
use Rattle.rec_bytes.specs.Format as format
use Rattle.rec_bytes.specs.Meta.{IsLinkBelow}
use Rattle.rec_bytes.specs.Record.{field}
use Rattle.rec_bytes.specs.RecordFiles.{room_of}
use Rattle.rec_bytes.specs.Space.{meta_in}
use Rattle.store_rules.specs.Breaking.{HasFreeList}
use Rattle.store_rules.specs.Chains.{In, IsWalk}
use Rattle.store_rules.specs.Rows.{ids, if_test}
use Rattle.store_rules.specs.Rules.{next_free}
use Rattle.store_rules.specs.Views.{Records, high, is_live, kind_at, rec_at}
use Rattle.store_rules.proofs.ChainLaws.{head_once, walk_stays}
use Rattle.store_rules.proofs.Changes.{IsChanged, kind_other, live_other, other_record}
use Rattle.store_rules.proofs.Counts.{ids_with}
use Rattle.store_rules.proofs.RowLaws.{collect_same}
use Rattle.store_rules.proofs.NumberLaws.{nat_cases}
use Rattle.store_rules.proofs.ViewLaws.{kind_below, live_false, live_true, not_live}
use Rattle.id_freelist.specs.ListDamage.{BadLink, First, IsListDamage, IsReached, Next, NoList, NotReached, OutOfRange}
use Rattle.id_freelist.specs.Taking.{IsRanged, IsUnused}

-- ---- an identifier that is taken and put in use

-- the first free one
pub record IsFirstFree (s t : Records) (file id : ℕ) : Type 0 where
  pub some : (meta_in s file).free ≢ format.nil
  pub is : id ≡ (meta_in s file).free
  pub next : (meta_in t file).free ≡ next_free s file id
  pub mark : high t file ≡ high s file

-- or the mark, where none is free
pub record IsFreshMark (s t : Records) (file id : ℕ) : Type 0 where
  pub none : (meta_in s file).free ≡ format.nil
  pub still : (meta_in t file).free ≡ format.nil
  pub is : id ≡ high s file
  pub mark : high t file ≡ high s file + 1

pub record IsTakenUp (s t : Records) (shape : Shape) (file id : ℕ) : Type 0 where
  pub change : IsChanged s t file id
  pub fresh : kind_at s file id ≡ format.free_kind
  pub used : kind_at t file id ≢ format.free_kind
  pub ranged : IsRanged (meta_in t file) (room_of shape file)
  pub live : (meta_in t file).live ≡ (meta_in s file).live + 1
  pub way : IsFirstFree s t file id ⊎ IsFreshMark s t file id

module _ (s t : Records) (shape : Shape) (file id : ℕ) (k : IsTakenUp s t shape file id) where
  link_stays : (x : ℕ) → x ≢ id → next_free t file x ≡ next_free s file x
  link_stays x ne = ap (λ r. field 4 r format.free_next) (other_record s t file id k.change file x k.change.is_file (λ _. ne))

  below : id < high t file
  below = kind_below (high t file) (rec_at t file id) id k.used

  counted : (n : ℕ) → (meta_in s file).live ≡ length (ids (is_live s file) (high s file)) → (high t file ≡ high s file)
      ⊎ ((id ≡ high s file) × (high t file ≡ high s file + 1)) → (meta_in t file).live ≡ length (ids (is_live t file) (high t file))
  counted n exact way = k.live ∙ ap (λ n. n + 1) exact
      ∙ sym (ids_with (is_live s file) (is_live t file) (high s file) (high t file) id (live_false (kind_at s file id) k.fresh) (live_true (kind_at t file id)
      k.used) (live_other s t file id k.change) below way)

  list_taken : HasFreeList s file → HasFreeList t file
  list_taken h = ⊎_elim (first h.members h.list.walk h.list.low h.list.only) (mark h.members h.list.walk) k.way
    where
      first : (xs : List ℕ) → IsWalk (next_free s file) (meta_in s file).free xs → ((x : ℕ) → In x xs → x < high s file)
          → ((x : ℕ) → In x xs → is_live s file x ≡ false) → IsFirstFree s t file id → HasFreeList t file
      first [] walk low only w = absurd (w.some walk)
      first (y ∷ later) walk low only w =
          let same : id ≡ y = w.is ∙ walk.0 in
          let out : (x : ℕ) → In x later → x ≢ id = λ x i e. head_once (next_free s file) y later walk.1 walk.2 (subst (λ z. In z later) (e ∙ same) i) in
          record {
            members = later;
            list = record {
              walk = subst (λ f. IsWalk (next_free t file) f later) (sym (w.next ∙ ap (next_free s file) same))
                  (walk_stays (next_free s file) (next_free t file) (next_free s file y) later (λ x i. link_stays x (out x i)) walk.2);
              low = λ x i. let lt = low x (inr i) in let m = w.mark in omega arith;
              only = λ x i. live_other s t file id k.change x (out x i) ∙ only x (inr i);
            };
            exact = counted 0 h.exact (inl w.mark);
          }

      mark : (xs : List ℕ) → IsWalk (next_free s file) (meta_in s file).free xs → IsFreshMark s t file id → HasFreeList t file
      mark (y ∷ later) walk w = absurd (walk.1 (sym walk.0 ∙ w.none))
      mark [] walk w = record {
        members = [];
        list = record { walk = w.still; low = λ x i. elim i [ ]; only = λ x i. elim i [ ] };
        exact = counted 0 h.exact
            (inr (w.is, w.mark));
      }

  reached_taken : (x : ℕ) → IsReached s file x → (x ≡ id) ⊎ IsReached t file x
  reached_taken _ First = ⊎_elim (λ (w : IsFirstFree s t file id). inl (sym w.is))
      (λ (w : IsFreshMark s t file id). inr (subst (IsReached t file) (w.still ∙ sym w.none) First)) k.way
  reached_taken _ (Next p r u) = ⊎_elim
      (λ (e : p ≡ id). ⊎_elim
      (λ (w : IsFirstFree s t file id). inr (subst (IsReached t file) (w.next ∙ ap (next_free s file) (sym e)) First))
      (λ (w : IsFreshMark s t file id). let lt = u.low in let is = w.is in absurd (omega arith)) k.way)
      (λ (ne : p ≢ id). ⊎_elim (λ (e : p ≡ id). absurd (ne e))
      (λ (q : IsReached t file p). inr (subst (IsReached t file) (link_stays p ne)
      (Next p q (record { low = let lt = u.low in let m = k.change.more in omega arith; free = kind_other s t file id k.change p ne ∙ u.free }))))
      (reached_taken p r)) (nat_cases p id)

  not_taken : (x : ℕ) → IsUnused t file x → x ≢ id
  not_taken x u e = k.used (ap (kind_at t file) (sym e) ∙ u.free)

  unused_before : (x : ℕ) → IsUnused t file x → IsUnused s file x
  unused_before x u = record { low = k.change.covers x u.low (not_taken x u); free = sym (kind_other s t file id k.change x (not_taken x u)) ∙ u.free }

  -- so it was before the take
  pub take_back : (d : Damage) → IsListDamage t shape file d → IsListDamage s shape file d
  take_back _ (OutOfRange f) = absurd (f k.ranged)
  take_back _ (NoList f) = NoList (λ h. f (list_taken h))
  take_back _ (NotReached x u f) = NotReached x (unused_before x u) (λ r. ⊎_elim (not_taken x u) f (reached_taken x r))
  take_back _ (BadLink x u some le) =
      let e = link_stays x (not_taken x u) in
      BadLink x (unused_before x u) (λ n. some (e ∙ n)) (let m = k.change.more in omega arith)

-- ---- an identifier that is given back

pub record IsGivenBack (s t : Records) (file id : ℕ) : Type 0 where
  pub change : IsChanged s t file id
  pub used : kind_at s file id ≢ format.free_kind
  pub gone : kind_at t file id ≡ format.free_kind
  pub first : (meta_in t file).free ≡ id
  pub next : next_free t file id ≡ (meta_in s file).free
  pub mark : high t file ≡ high s file
  pub live : (meta_in t file).live ≡ (meta_in s file).live - 1
  pub some : id ≢ format.nil
  pub link : IsLinkBelow (meta_in s file).free (high s file)

module _ (s t : Records) (shape : Shape) (file id : ℕ) (k : IsGivenBack s t file id) where
  given_low : id < high s file
  given_low = kind_below (high s file) (rec_at s file id) id k.used

  link_kept : (x : ℕ) → x ≢ id → next_free t file x ≡ next_free s file x
  link_kept x ne = ap (λ r. field 4 r format.free_next) (other_record s t file id k.change file x k.change.is_file (λ _. ne))

  list_given : HasFreeList s file → HasFreeList t file
  list_given h =
      let out : (x : ℕ) → In x h.members → x ≢ id = λ x i e. true≢false
      (sym (live_true (kind_at s file id) k.used) ∙ ap (is_live s file) (sym e) ∙ h.list.only x i) in
      record {
        members = id ∷ h.members;
        list = record {
          walk = (
            k.first,
            k.some,
            subst (λ f. IsWalk (next_free t file) f h.members) (sym k.next) (walk_stays (next_free s file) (next_free t file)
                (meta_in s file).free h.members (λ x i. link_kept x (out x i)) h.list.walk),
          );
          low = λ x i. let m = k.mark in ⊎_elim (λ (e : x ≡ id). let l = given_low in omega arith) (λ j. let l = h.list.low x j in omega arith) i;
          only = λ x i. ⊎_elim (λ (e : x ≡ id). ap (is_live t file) e ∙ live_false (kind_at t file id) k.gone)
              (λ j. live_other s t file id k.change x (out x j) ∙ h.list.only x j) i;
        };
        exact =
            let more : length (ids (is_live s file) (high s file)) ≡ length (ids (is_live t file) (high s file)) + 1
            = ids_with (is_live t file) (is_live s file) (high s file) (high s file) id (live_false (kind_at t file id) k.gone)
            (live_true (kind_at s file id) k.used) (λ x ne. sym (live_other s t file id k.change x ne)) given_low (inl refl) in
            let e = h.exact in
            let l = k.live in
            let here : (meta_in t file).live ≡ length (ids (is_live t file) (high s file)) = omega arith in
            here ∙ ap (λ m. length (ids (is_live t file) m)) (sym k.mark);
      }

  given_unused : IsUnused t file id
  given_unused = record { low = let l = given_low in let m = k.mark in omega arith; free = k.gone }

  reached_given : (x : ℕ) → IsReached s file x → IsReached t file x
  reached_given _ First = subst (IsReached t file) k.next (Next id (subst (IsReached t file) k.first First) given_unused)
  reached_given _ (Next p r u) =
      let ne : p ≢ id = λ e. k.used (ap (kind_at s file) (sym e) ∙ u.free) in
      subst (IsReached t file) (link_kept p ne) (Next p (reached_given p r) (record {
        low = let l = u.low in let m = k.mark in omega arith;
        free = kind_other s
            t file id k.change p ne ∙ u.free;
      }))

  unused_but : (x : ℕ) → x ≢ id → IsUnused t file x → IsUnused s file x
  unused_but x ne u = record { low = k.change.covers x u.low ne; free = sym (kind_other s t file id k.change x ne) ∙ u.free }

  -- so it was before it was given back
  pub give_back : (d : Damage) → IsListDamage t shape file d → IsListDamage s shape file d
  give_back _ (OutOfRange f) = OutOfRange (λ r. f (record {
    mark = let a = r.mark in let m = k.mark in omega arith;
    first = inr
        (let l = given_low in let m = k.mark in let e = k.first in omega arith);
  }))
  give_back _ (NoList f) = NoList (λ h. f (list_given h))
  give_back _ (NotReached x u f) =
      let ne : x ≢ id = λ e. f (subst (IsReached t file) (k.first ∙ sym e) First) in
      NotReached x (unused_but x ne u) (λ r. f (reached_given x r))
  give_back _ (BadLink x u some le) =
      let ne : x ≢ id = λ e. by e in
      BadLink x (unused_but x ne u) (λ n. some (link_kept x ne ∙ n)) (let e = link_kept x ne in let m = k.mark in omega arith)
    where
      by : x ≡ id → ⊥
      by e = let next : next_free t file x ≡ (meta_in s file).free = ap (next_free t file) e
          ∙ k.next in ⊎_elim (λ (n : (meta_in s file).free ≡ format.nil). some (next ∙ n))
          (λ (lt : (meta_in s file).free < high s file). let m = k.mark in omega arith) k.link

-- ---- other changes

-- The file's meta record says the same, the same records are in use, and the links of the others are the same.
pub record HasSameList (s t : Records) (file : ℕ) : Type 0 where
  pub meta : meta_in t file ≡ meta_in s file
  pub live : (x : ℕ) → is_live t file x ≡ is_live s file x
  pub links : (x : ℕ) → IsUnused s file x → next_free t file x ≡ next_free s file x

module _ (s t : Records) (shape : Shape) (file : ℕ) (k : HasSameList s t file) where
  high_same : high t file ≡ high s file
  high_same = ap (λ (m : Meta). m.high) k.meta

  unused_now : (x : ℕ) → IsUnused s file x → IsUnused t file x
  unused_now x u = record {
    low = let l = u.low in let m = high_same in omega arith;
    free = not_live (kind_at t file x) (k.live x ∙ live_false
        (kind_at s file x) u.free);
  }

  unused_then : (x : ℕ) → IsUnused t file x → IsUnused s file x
  unused_then x u = record {
    low = let l = u.low in let m = high_same in omega arith;
    free = not_live (kind_at s file x) (sym (k.live x) ∙ live_false
        (kind_at t file x) u.free);
  }

  alike : ids (is_live t file) (high s file) ≡ ids (is_live s file) (high s file)
  alike = collect_same (λ (e : ℕ). e) (if_test (is_live s file)) (if_test (is_live t file)) (high s file)
      (λ x _. ap (λ (b : Bool). cond b (Some x) None) (k.live x))

  list_kept : HasFreeList s file → HasFreeList t file
  list_kept h = record {
    members = h.members;
    list = record {
      walk = subst (λ f. IsWalk (next_free t file) f h.members) (sym (ap (λ (m : Meta). m.free) k.meta))
          (walk_stays (next_free s file) (next_free t file) (meta_in s file).free h.members
          (λ x i. k.links x (record { low = h.list.low x i; free = not_live (kind_at s file x) (h.list.only x i) })) h.list.walk);
      low = λ x i. let l = h.list.low x i in let m = high_same in omega arith;
      only = λ x i. k.live x ∙ h.list.only x i;
    };
    exact = ap (λ (m : Meta). m.live) k.meta ∙ h.exact ∙ ap length (sym alike) ∙ ap (λ n. length (ids (is_live t file) n)) (sym high_same);
  }

  reached_kept : (x : ℕ) → IsReached s file x → IsReached t file x
  reached_kept _ First = subst (IsReached t file) (ap (λ (m : Meta). m.free) k.meta) First
  reached_kept _ (Next p r u) = subst (IsReached t file) (k.links p u) (Next p (reached_kept p r) (unused_now p u))

  pub same_back : (d : Damage) → IsListDamage t shape file d → IsListDamage s shape file d
  same_back _ (OutOfRange f) = OutOfRange (λ r. f (subst (λ m. IsRanged m (room_of shape file)) (sym k.meta) r))
  same_back _ (NoList f) = NoList (λ h. f (list_kept h))
  same_back _ (NotReached x u f) = NotReached x (unused_then x u) (λ r. f (reached_kept x r))
  same_back _ (BadLink x u some le) =
      let e = k.links x (unused_then x u) in
      BadLink x (unused_then x u) (λ n. some (e ∙ n)) (let m = high_same in omega arith)
