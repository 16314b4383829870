-- A walk of a node's groups, step by step.
use Rattle.std.proofs.Common.{◌≡◌, ◌≢◌, ◌⊎◌, ⊎_elim, inl, inr, ℕ, zero, suc, ◌+◌, ◌<◌, ◌≤◌, true, List, [], ◌∷◌, ◌++◌}
use Rattle.std.proofs.Common.{length, map, refl, sym, ap, ◌∙◌, subst, append_assoc, append-nil, arith, Err, Result}
use Rattle.std.proofs.Math.Dec.{eqb}
use Rattle.std.specs.List.{list_any}
use Rattle.std.proofs.lemmas.Bool.{or_cases}
use Rattle.std.proofs.lemmas.Bool.Decides.{nat_tests}
use Rattle.std.proofs.lemmas.List.{length-append, map-append}
use Rattle.std.proofs.lemmas.Map.Steps.{length-le_from_distinct_below}
use Rattle.rec_bytes.specs.declared.damage.Damage.{Damage}
use Rattle.rec_bytes.specs.declared.shape.Shape.{Shape}
use Rattle.rec_bytes.specs.Format as format
use Rattle.rec_bytes.specs.RecordFiles.{room_of}
use Rattle.rec_bytes.specs.Space.{State, after_get, after_gets}
use Rattle.rec_bytes.proofs.Spaces.{after_gets-zero, after_gets_more, records-after_gets}
use Rattle.store_rules.specs.Breaking.{IsOwnedBy}
use Rattle.store_rules.specs.Chains.{In, IsWalk}
use Rattle.store_rules.specs.Views.{Records, high, rec_at}
use Rattle.rec_bytes.specs.declared.record.Rec.{Rec}
use Rattle.rec_bytes.specs.Record.{field}
use Rattle.chain_edit.specs.Walking.{ReadsAtMost}
use Rattle.chain_edit.proofs.Walks.{distinct, walk_is}
use Rattle.rec_bytes.specs.declared.fault.Fault.{Fault}
use Rattle.rec_bytes.specs.declared.fault.Fault.TheVariants.{Memory, Disk, Damaged}
use Rattle.group_store.specs.declared.group_row.GroupRow.{GroupRow}
use Rattle.rec_bytes.specs.Fault.{NotDamaged}
use Rattle.group_store.specs.GroupChain.{IsGroupList, IsGroupOf, IsOwnedList, next_group}
use Rattle.group_store.specs.Loading.{HasNoKind, group_mark, group_room}
use Rattle.group_store.specs.Walking.{IsMemberDamage, IsMemberFault, IsWalkDamage, IsWalkFault, IsWalkable, group_row_at}
use Rattle.group_store.specs.Walking.IsMemberDamage.{NoMember, UnknownMember, HighMember}
use Rattle.group_store.specs.Walking.IsWalkDamage.{NoList, UnknownGroup, HighMark}
use Rattle.group_store.proofs.GroupRecords.{owned, owned_below}
use Rattle.group_store.proofs.UnknownKinds.{known_kind}

-- ---- what was met

-- these groups of the node were met between one and another
pub record HasPassed (records : Records) (node first at : ℕ) (ms : List ℕ) : Type 0 where
  pub walk : (rest : List ℕ) → IsWalk (next_group records) at rest → IsWalk (next_group records) first (ms ++ rest)
  pub only : (g : ℕ) → In g ms → IsGroupOf records node g

pub passed_none : (records : Records) (node first : ℕ) → HasPassed records node first first []
passed_none records node first = record { walk = λ rest h. h; only = λ g i. elim i [ ] }

pub in_push : (xs : List ℕ) (y x : ℕ) → In x (xs ++ y ∷ []) → In x xs ⊎ (x ≡ y)
in_push [] y x (inl e) = inr e
in_push [] y x (inr i) = elim i [ ]
in_push (z ∷ xs) y x (inl e) = inl (inl e)
in_push (z ∷ xs) y x (inr i) = ⊎_elim (λ k. inl (inr k)) (λ e. inr e) (in_push xs y x i)

-- one more
pub passed_more : (records : Records) (node first at to : ℕ) (ms : List ℕ) → at ≢ format.nil → IsGroupOf records node at → to ≡ next_group records at
    → HasPassed records node first at ms → HasPassed records node first to (ms ++ at ∷ [])
passed_more records node first at to ms there is link h =
    let next = next_group records in
    record {
      walk = λ rest w. subst (IsWalk next first) (sym (append_assoc ms (at ∷ []) rest))
          (h.walk (at ∷ rest) (refl, there, subst (λ z. IsWalk next z rest) link w));
      only = λ g i. ⊎_elim (λ k. h.only g k) (λ e. subst (IsGroupOf records node) (sym e) is) (in_push ms at g i);
    }

-- the end
pub passed_all : (records : Records) (node first at : ℕ) (ms : List ℕ) → at ≡ format.nil → HasPassed records node first at ms
    → IsGroupList records node first ms
passed_all records node first at ms none h = record {
  walk = subst (IsWalk (next_group records) first) (append-nil ms) (h.walk [] none);
  only = h.only;
}

-- ---- what is left

-- of these groups a list to the end is left, of at most so many
abbrev pub IsLeft : Records → List ℕ → ℕ → ℕ → Type 0
IsLeft records xs left at = (ys : List ℕ) × IsWalk (next_group records) at ys × (length ys ≤ left) × ((g : ℕ) → In g ys → In g xs)

in_any : (q : ℕ) (xs : List ℕ) → list_any (eqb q) xs ≡ true → In q xs
in_any q [] h = absurd cc
in_any q (y ∷ ys) h = ⊎_elim (λ (e : eqb q y ≡ true). inl (grind (arith, nat_tests))) (λ k. inr (in_any q ys k)) (or_cases (eqb q y) (list_any (eqb q) ys) h)

-- a list is no longer than the mark
pub few_owned : (records : Records) (node first : ℕ) (xs : List ℕ) → IsOwnedList records node first xs → length xs ≤ high records format.groups_file
few_owned records node first xs list =
    length-le_from_distinct_below xs (high records format.groups_file) (distinct (next_group records) first xs list.walk)
    (λ q h. owned_below records node q (list.only q (in_any q xs h)))

-- the node owns its groups
pub owned_list : (records : Records) (node first : ℕ) (xs : List ℕ) → IsGroupList records node first xs → IsOwnedList records node first xs
owned_list records node first xs list = record { walk = list.walk; only = λ g i. owned records node g (list.only g i) }

pub few_groups : (records : Records) (node first : ℕ) (xs : List ℕ) → IsGroupList records node first xs → length xs ≤ high records format.groups_file
few_groups records node first xs list = few_owned records node first xs (owned_list records node first xs list)

pub left_more : (records : Records) (left less at to : ℕ) (xs : List ℕ) → left ≡ suc less → at ≢ format.nil → to ≡ next_group records at
    → IsLeft records xs left at → IsLeft records xs less to
left_more records left less at to xs one there link (ys, walk, few, within) = step ys walk few within
  where
    step : (ys : List ℕ) → IsWalk (next_group records) at ys → length ys ≤ left → ((g : ℕ) → In g ys → In g xs) → IsLeft records xs less to
    step [] walk few within = absurd (there walk)
    step (y ∷ ys) walk few within =
        let to_is : next_group records y ≡ to = ap (next_group records) (sym walk.0) ∙ sym link in
        (ys, subst (λ z. IsWalk (next_group records) z ys) to_is walk.2, omega arith, λ g i. within g (inr i))

pub left_member : (records : Records) (left at : ℕ) (xs : List ℕ) → at ≢ format.nil → IsLeft records xs left at → In at xs
left_member records left at xs there ([], walk, few, within) = absurd (there walk)
left_member records left at xs there (y ∷ ys, walk, few, within) = within at (inl walk.0)

pub left_none : (records : Records) (left at : ℕ) (xs : List ℕ) → left ≡ 0 → IsLeft records xs left at → at ≡ format.nil
left_none records left at xs none ([], walk, few, within) = walk
left_none records left at xs none (y ∷ ys, walk, few, within) = absurd (omega arith)

-- ---- how many were met, by a walk that ends

met_and_left : (records : Records) (node first at left : ℕ) (ms xs : List ℕ) → HasPassed records node first at ms → (rest : IsLeft records xs left at)
    → IsWalk (next_group records) first xs → length xs ≡ length ms + length rest.0
met_and_left records node first at left ms xs met (ys, left_walk, few, within) walk =
    ap length (walk_is (next_group records) first xs (ms ++ ys) walk (met.walk ys left_walk)) ∙ length-append ms ys

some_left : (records : Records) (left at : ℕ) (xs : List ℕ) → at ≢ format.nil → (rest : IsLeft records xs left at) → 1 ≤ length rest.0
some_left records left at xs there ([], walk, few, within) = absurd (there walk)
some_left records left at xs there (y ∷ ys, walk, few, within) = omega arith

pub few_then : (records : Records) (node first at left : ℕ) (ms xs : List ℕ) → HasPassed records node first at ms → IsLeft records xs left at
    → IsWalk (next_group records) first xs → length ms ≤ length xs
few_then records node first at left ms xs met rest walk = let long = met_and_left records node first at left ms xs met rest walk in omega arith

pub few_next : (records : Records) (node first at left : ℕ) (ms xs : List ℕ) → at ≢ format.nil → HasPassed records node first at ms → IsLeft records xs left at
    → IsWalk (next_group records) first xs → length ms + 1 ≤ length xs
few_next records node first at left ms xs there met rest walk =
    let long = met_and_left records node first at left ms xs met rest walk in
    let some = some_left records left at xs there rest in
    omega arith

-- ---- reads

pub read_next : (s before now : State) (n more : ℕ) → more ≡ n + 1 → before ≡ after_gets n s → now ≡ after_get before → now ≡ after_gets more s
read_next s before now n more is so_far one = one ∙ ap after_get so_far ∙ sym (after_gets_more n more s is)

pub gets_add : (k n : ℕ) (s : State) → after_gets k (after_gets n s) ≡ after_gets (k + n) s
unfolding after_gets
gets_add zero n s = let e : n ≡ zero + n = omega arith in ap (λ (m : ℕ). after_gets m s) e
gets_add (suc k) n s = ap after_get (gets_add k n s) ∙ sym (after_gets_more (k + n) (suc k + n) s (omega arith))

-- at most so many, and then at most so many more
pub reads_more : (s before now : State) (n more most : ℕ) → n + more ≤ most → before ≡ after_gets n s → ReadsAtMost more before now → ReadsAtMost most s now
reads_more s before now n more most le so_far reads = let within = reads.within in record {
  count = reads.count + n;
  within = omega arith;
  is = reads.is ∙ ap (after_gets reads.count) so_far ∙ gets_add reads.count n s;
}

pub records_then : (s now : State) (n : ℕ) → now ≡ after_gets n s → now.records ≡ s.records
records_then s now n reads = ap (λ (t : State). t.records) reads ∙ records-after_gets n s

shape-after_gets : (n : ℕ) (s : State) → (after_gets n s).shape ≡ s.shape
unfolding after_gets
shape-after_gets zero s = refl
shape-after_gets (suc n) s = shape-after_gets n s

pub mark_then : (s now : State) (n : ℕ) → now ≡ after_gets n s → group_mark now ≡ group_mark s
mark_then s now n reads = ap (λ (r : Records). high r format.groups_file) (records_then s now n reads)

pub room_then : (s now : State) (n : ℕ) → now ≡ after_gets n s → group_room now ≡ group_room s
room_then s now n reads = ap group_room reads ∙ ap (λ (shape : Shape). room_of shape format.groups_file) (shape-after_gets n s)

-- ---- damage

-- what is no group on the way
pub walk_fault : (s now : State) (n node first left at : ℕ) (fault : Fault) → now ≡ after_gets n s → at ≢ format.nil
    → ((xs : List ℕ) → IsWalk (next_group s.records) first xs → length xs ≤ group_mark s → IsLeft s.records xs left at) → IsMemberFault now node at fault
    → IsWalkFault s node first fault
walk_fault s now n node first left at Memory reads there rest told = tt
walk_fault s now n node first left at Disk reads there rest told = tt
walk_fault s now n node first left at (Damaged damage) reads there rest told = by damage told
  where
    by : (damage : Damage) → IsMemberDamage now node at damage → IsWalkDamage s node first damage
    by damage (NoMember none) = NoList (λ xs list. none (subst (λ (r : Records). IsOwnedBy r node at) (sym (records_then s now n reads))
        (list.only at (left_member s.records left at xs there (rest xs list.walk (few_owned s.records node first xs list))))))
    by damage (UnknownMember below unknown) =
        let below_then : at < group_mark s = let mark = mark_then s now n reads in omega arith in
        let unknown_then : HasNoKind s.records at = subst (λ (r : Records). HasNoKind r at) (records_then s now n reads) unknown in
        UnknownGroup at (λ xs list. known_kind s.records node at below_then
        (list.only at (left_member s.records left at xs there (rest xs list.walk (few_groups s.records node first xs list))))
        unknown_then) below_then unknown_then
    by damage (HighMember above) = HighMark (let mark = mark_then s now n reads in let room = room_then s now n reads in omega arith)

pub none_damaged : (s : State) (node first : ℕ) (xs : List ℕ) (damage : Damage) → IsWalkable s node first xs → IsWalkDamage s node first damage → ⊥
none_damaged s node first xs damage can (NoList none) = none xs (owned_list s.records node first xs can.list)
none_damaged s node first xs damage can (UnknownGroup g none below unknown) = none xs can.list
none_damaged s node first xs damage can (HighMark above) = let mark = can.mark in omega arith

-- ---- rows

pub rows_more : (records : Records) (ms : List ℕ) (rows : List GroupRow) (row : GroupRow) (at : ℕ) → row ≡ group_row_at records at
    → rows ≡ map (group_row_at records) ms
    → rows ++ row ∷ [] ≡ map (group_row_at records) (ms ++ at ∷ [])
rows_more records ms rows row at is are = ap (λ r. rows ++ r ∷ []) is ∙ ap (λ rs. rs ++ group_row_at records at ∷ []) are
    ∙ sym (map-append (group_row_at records) ms (at ∷ []))

-- ---- no read, and one

pub reads_none : (s : State) (most : ℕ) → ReadsAtMost most s s
reads_none s most = record { count = 0; within = omega arith; is = sym (after_gets-zero s) }

pub reads_one : (s now : State) → now ≡ after_get s → ReadsAtMost 1 s now
reads_one s now one = record { count = 1; within = omega arith; is = one ∙ ap after_get (sym (after_gets-zero s)) ∙ sym (after_gets_more 0 1 s refl) }

pub reads_so_far : (s now : State) (n most : ℕ) → n ≤ most → now ≡ after_gets n s → ReadsAtMost most s now
reads_so_far s now n most le reads = record { count = n; within = le; is = reads }

-- ---- what was read after other reads, told by the space as it was

pub member_then : (s now : State) (n node at : ℕ) → now ≡ after_gets n s → IsGroupOf now.records node at → IsGroupOf s.records node at
member_then s now n node at reads is = subst (λ (r : Records). IsGroupOf r node at) (records_then s now n reads) is

pub rec_then : (s now : State) (n at : ℕ) (rec : Rec) → now ≡ after_gets n s → rec ≡ rec_at now.records format.groups_file at
    → rec ≡ rec_at s.records format.groups_file at
rec_then s now n at rec reads got = got ∙ ap (λ (r : Records). rec_at r format.groups_file at) (records_then s now n reads)

pub link_then : (s now : State) (n at link : ℕ) (rec : Rec) → now ≡ after_gets n s → rec ≡ rec_at now.records format.groups_file at
    → link ≡ field 4 rec format.group_next → link ≡ next_group s.records at
link_then s now n at link rec reads got is = is ∙ ap (λ r. field 4 r format.group_next) (rec_then s now n at rec reads got)

-- where the list ends, no record is said to be damaged
abbrev pub IsUndamaged : Fault → Type 0
IsUndamaged Memory = Unit {0}
IsUndamaged Disk = Unit {0}
IsUndamaged (Damaged damage) = ⊥

pub undamaged : (s : State) (node first : ℕ) (xs : List ℕ) (fault : Fault) → IsWalkable s node first xs → IsWalkFault s node first fault → IsUndamaged fault
undamaged s node first xs Memory can told = tt
undamaged s node first xs Disk can told = tt
undamaged s node first xs (Damaged damage) can told = none_damaged s node first xs damage can told

pub not_damaged : (T : Type 0) (fault : Fault) → IsUndamaged fault → NotDamaged {T = T} (Err fault)
not_damaged T Memory h = tt
not_damaged T Disk h = tt
not_damaged T (Damaged damage) h = h

pub not_damaged_at : {T : Type 0} (r : Result T Fault) (e fault : Fault) → r ≡ Err e → e ≡ fault → IsUndamaged fault → NotDamaged r
not_damaged_at {T = T} r e fault is same h = subst (NotDamaged {T = T}) (sym is)
    (subst (λ (f : Fault). NotDamaged {T = T} (Err f)) (sym same) (not_damaged T fault h))
