-- What a take says is damaged breaks the rule.
use Rattle.std.specs.Prelude.{Result, Ok, Err, IfErr, nat_lt}
use Rattle.std.proofs.Common.{◌≡◌, ◌≢◌, ℕ, ◌<◌, ◌≤◌, nat_eq, Bool, true, false, cond, ◌&&◌, ◌||◌, None, Some, List, []}
use Rattle.std.proofs.Common.{◌∷◌, sym, ap, ◌∙◌, subst, inl, inr, arith, refl}
use Rattle.std.proofs.lemmas.Bool.{true≢false}
use Rattle.rec_bytes.specs.declared.damage.Damage.{Damage}
use Rattle.rec_bytes.specs.declared.meta_form.MetaForm.{MetaForm}
use Rattle.rec_bytes.specs.declared.meta_form.MetaForm.TheVariants.{Own, Counts, Taken, Index}
use Rattle.rec_bytes.specs.declared.record.Rec.{Rec}
use Rattle.rec_bytes.specs.declared.shape.Shape.{Shape}
use Rattle.rec_bytes.specs.Format as format
use Rattle.rec_bytes.specs.Meta.{IsMetaInRange}
use Rattle.rec_bytes.specs.MetaForm.{IsMetaRight, IsRightAs, form_of}
use Rattle.rec_bytes.specs.Record.{field}
use Rattle.rec_bytes.specs.RecordFiles.{is_meta_file, meta_files, meta_key_of}
use Rattle.rec_bytes.specs.Space.{State, meta_in, meta_of}
use Rattle.rec_bytes.proofs.RecordFiles.{is_meta_file-record, is_record_file-low, passes}
use Rattle.store_rules.specs.Breaking.{Breaks, HasFreeList, IsOnFreeList}
use Rattle.store_rules.specs.Breaking.Breaks.{FreeList, OffFreeList, RecordRange, WrongMeta}
use Rattle.store_rules.specs.Chains.{In, IsWalk}
use Rattle.store_rules.specs.Ranges.{Fits, Layout, all_point, bytes_of, free_layout, is_reused, layout_by, may}
use Rattle.store_rules.specs.Rules.{next_free}
use Rattle.store_rules.specs.Views.{Records, high, is_live, kind_at, rec_at}
use Rattle.store_rules.proofs.Counts.{ids_all, ids_fewer, length-ids}
use Rattle.store_rules.proofs.MetaLaws.{high_fits, meta_of_reused}
use Rattle.store_rules.proofs.NumberLaws.{eq_false, lt_false}
use Rattle.store_rules.proofs.ViewLaws.{kind_low, live_false, live_true, not_live}
use Rattle.id_freelist.specs.ListDamage.{BadLink, First, IsListDamage, IsReached, Next, NoList, NotReached, OutOfRange}
use Rattle.id_freelist.specs.TakeFault.{BlamesBroken}
use Rattle.id_freelist.specs.Taking.{AreAllUsed, BadNext, InUse, IsTakeDamage, IsTakeFault, IsUnused, Overcounted, Undercounted, Unlisted, Unranged}
use Rattle.id_freelist.specs.declared.take_fault.TakeFault.{TakeFault}
use Rattle.id_freelist.specs.declared.take_fault.TakeFault.TheVariants.{Full, Memory, Disk, Damaged}

-- ---- the file's meta record

abbrev counts : MetaForm → Bool
counts Own = false
counts Counts = true
counts Taken = false
counts Index = true

in_range_as : (form : MetaForm) (shape : Shape) (file : ℕ) (r : Rec) → counts form ≡ true → IsRightAs form format.newest_version shape file r
    → IsMetaInRange shape file r
in_range_as Own shape file r c h = absurd cc
in_range_as Counts shape file r c h = h
in_range_as Taken shape file r c h = absurd cc
in_range_as Index shape file r c h = h.since (omega arith)

in_range : (shape : Shape) (file : ℕ) (r : Rec) → is_meta_file file ≡ true → IsMetaRight format.newest_version shape file r → IsMetaInRange shape file r
in_range shape file r known = in_range_as (form_of file) shape file r (passes (λ f. counts (form_of f)) meta_files file refl known)

-- ---- the free list, as the second rule has it

module _ (records : Records) (file : ℕ) where
  all_counted : AreAllUsed records file → HasFreeList records file → (meta_in records file).live ≡ high records file
  all_counted used k = k.exact ∙ ids_all (is_live records file) (high records file) (λ x lt. live_true (kind_at records file x) (used x lt))

  -- the count is no higher than the mark, and lower where something is free
  never_over : HasFreeList records file → high records file ≤ (meta_in records file).live
      → ((meta_in records file).free ≡ format.nil → high records file < (meta_in records file).live) → ⊥
  never_over k le more = by k.members k.list.walk k.list.low k.list.only
    where
      by : (xs : List ℕ) → IsWalk (next_free records file) (meta_in records file).free xs → ((x : ℕ) → In x xs → x < high records file)
          → ((x : ℕ) → In x xs → is_live records file x ≡ false) → ⊥
      by [] walk low only = let e = k.exact in let most = length-ids (is_live records file) (high records file) in let lt = more walk in omega arith
      by (y ∷ ys) walk low only = let e = k.exact in let fewer = ids_fewer (is_live records file) (high records file) y (low y (inl refl))
          (only y (inl refl)) in omega arith

  -- the first on the list is not in use
  first_free : HasFreeList records file → (meta_in records file).free ≢ format.nil → kind_at records file (meta_in records file).free ≡ format.free_kind
  first_free k some = by k.members k.list.walk k.list.only
    where
      by : (xs : List ℕ) → IsWalk (next_free records file) (meta_in records file).free xs → ((x : ℕ) → In x xs → is_live records file x ≡ false)
          → kind_at records file (meta_in records file).free ≡ format.free_kind
      by [] walk only = absurd (some walk)
      by (y ∷ ys) walk only = ap (kind_at records file) walk.0 ∙ not_live (kind_at records file y) (only y (inl refl))

  -- ---- what is reached

  -- where the list begins with none, nothing else is
  none_reached : (meta_in records file).free ≡ format.nil → (x : ℕ) → IsReached records file x → x ≡ format.nil
  none_reached none _ First = none
  none_reached none _ (Next x r unused) = let e = none_reached none x r in let lt = unused.low in let fits = high_fits records file in absurd (omega arith)

  -- what is on the list is
  listed_reached : (x : ℕ) → IsOnFreeList records file x → IsReached records file x
  listed_reached x on = by on.members (meta_in records file).free First on.list.walk on.list.low on.list.only on.member
    where
      by : (xs : List ℕ) (from : ℕ) → IsReached records file from → IsWalk (next_free records file) from xs → ((y : ℕ) → In y xs → y < high records file)
          → ((y : ℕ) → In y xs → is_live records file y ≡ false) → In x xs → IsReached records file x
      by [] from r walk low only i = elim i [ ]
      by (y ∷ ys) from r walk low only (inl e) = subst (IsReached records file) (walk.0 ∙ sym e) r
      by (y ∷ ys) from r walk low only (inr i) =
          let here : IsReached records file y = subst (IsReached records file) walk.0 r in
          by ys (next_free records file y) (Next y here (record { low = low y (inl refl); free = not_live (kind_at records file y) (only y (inl refl)) }))
          walk.2 (λ z j. low z (inr j)) (λ z j. only z (inr j)) i

  -- ---- a free record whose next one can't stand there
  module _ (x : ℕ) (is : is_reused file ≡ true) (unused : IsUnused records file x) where
    kind_is : field 1 (rec_at records file x) format.kind ≡ format.free_kind
    kind_is = sym (kind_low (high records file) (rec_at records file x) x unused.low) ∙ unused.free

    abbrev free_table : Layout
    free_table = record { pointers = may format.free_next file ∷ []; used = bytes_of format.free_next 4 ∷ [] }

    laid_free : (layout : Layout) → layout_by file (rec_at records file x) (field 1 (rec_at records file x) format.kind) ≡ Some layout → layout ≡ free_table
    laid_free layout h = by (is_reused file) is (sym (ap (layout_by file (rec_at records file x)) kind_is) ∙ h)
      where
        same : (a b : Layout) → Some a ≡ Some b → b ≡ a
        same a b q = cc

        by : (b : Bool) → b ≡ true → cond b (free_layout file) None ≡ Some layout → layout ≡ free_table
        by true e q = same free_table layout q
        by false e q = absurd (true≢false (sym e))

    low_next : next_free records file x ≢ format.nil → high records file ≤ next_free records file x → ¬ Fits (high records) file (rec_at records file x)
    low_next some le fits =
        let point : all_point (high records) (rec_at records file x) free_table.pointers ≡ true
        = subst (λ (l : Layout). all_point (high records) (rec_at records file x) l.pointers ≡ true) (laid_free fits.layout fits.is) fits.point in
        by (nat_lt (next_free records file x) (high records file)) (nat_eq (next_free records file x) format.nil)
        (lt_false (next_free records file x) (high records file) le) (eq_false (next_free records file x) format.nil some) point
      where
        by : (a b : Bool) → a ≡ false → b ≡ false → ((a || (true && b)) && true) ≡ true → ⊥
        by true b p q h = absurd cc
        by false true p q h = absurd cc
        by false false p q h = absurd cc

-- ---- what is said to be damaged

-- by what is wrong with the list
pub list_breaks : (records : Records) (shape : Shape) (file : ℕ) → is_reused file ≡ true → (d : Damage) → IsListDamage records shape file d
    → Breaks records shape d
list_breaks records shape file is _ (OutOfRange f) =
    let known = meta_of_reused file is in
    WrongMeta file (is_record_file-low file (is_meta_file-record file known))
    (λ k. let right = in_range shape file (records (meta_key_of file)) known k in f (record { mark = right.high; first = right.free }))
list_breaks records shape file is _ (NoList f) = FreeList file is f
list_breaks records shape file is _ (NotReached x unused f) = OffFreeList file x is unused.low (live_false (kind_at records file x) unused.free)
    (λ on. f (listed_reached records file x on))
list_breaks records shape file is _ (BadLink x unused some le) = RecordRange file x (meta_of_reused file is) unused.low
    (low_next records file x is unused some le)

-- something is wrong with the list
pub list_damage : (s : State) (file : ℕ) (d : Damage) → IsTakeDamage s file d → IsListDamage s.records s.shape file d
list_damage s file _ (Unranged f) = OutOfRange f
list_damage s file _ (Unlisted x none lt unused) = NotReached x unused (λ r. let e = none_reached s.records file none x r in let low = unused.low in let fits =
    high_fits s.records file in omega arith)
list_damage s file _ (Undercounted none lt used) = NoList (λ k. let e = all_counted s.records file used k in omega arith)
list_damage s file _ (Overcounted le more) = NoList (λ k. never_over s.records file k le more)
list_damage s file _ (InUse some used) = NoList (λ k. used (first_free s.records file k some))
list_damage s file _ (BadNext ne unused some le) = BadLink (meta_of s file).free unused some le

pub breaks_of : (s : State) (file : ℕ) → is_reused file ≡ true → (d : Damage) → IsTakeDamage s file d → Breaks s.records s.shape d
breaks_of s file is d why = list_breaks s.records s.shape file is d (list_damage s file d why)

pub blames_broken : (s : State) (file : ℕ) → is_reused file ≡ true → (r : Result ℕ TakeFault) → IfErr r (IsTakeFault s file)
    → IfErr r (BlamesBroken s.records s.shape)
blames_broken s file is (Ok id) why = tt
blames_broken s file is (Err (Full full live)) why = tt
blames_broken s file is (Err Memory) why = tt
blames_broken s file is (Err Disk) why = tt
blames_broken s file is (Err (Damaged d)) why = breaks_of s file is d why
