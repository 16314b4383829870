-- A walk, step by step.
use Rattle.std.proofs.Common.{◌<◌, ◌≤◌, ◌+◌, arith, inl, inr, ◌⊎◌, ◌≡◌, ◌≢◌, ℕ, zero, suc, List, [], ◌∷◌, ◌++◌, length, map, sym, ap, ◌∙◌, subst}
use Rattle.std.proofs.Common.{refl, append_assoc, append-nil, ⊎_elim}
use Rattle.std.proofs.Common.{false, true}
use Rattle.std.proofs.Math.Dec.{eqb}
use Rattle.std.specs.List.{AllByRecursion, IsDistinct, list_any}
use Rattle.std.proofs.lemmas.Bool.{or_cases}
use Rattle.std.proofs.lemmas.Bool.Decides.{nat_tests}
use Rattle.std.proofs.lemmas.List.{length-append, length-map, length_push, map-append}
use Rattle.std.proofs.lemmas.Map.Keys.{IsDistinct-cons}
use Rattle.std.proofs.lemmas.Map.Steps.{length-le_from_distinct_below}
use Rattle.rec_bytes.specs.declared.record.Rec.{Rec}
use Rattle.rec_bytes.specs.Format.{nil}
use Rattle.rec_bytes.specs.declared.damage.Damage.{Damage}
use Rattle.rec_bytes.specs.declared.fault.Fault.{Fault}
use Rattle.rec_bytes.specs.declared.fault.Fault.TheVariants.{Memory, Disk, Damaged}
use Rattle.rec_bytes.specs.declared.key.Key.{Key}
use Rattle.rec_bytes.specs.Fault.{damage_of}
use Rattle.std.specs.Prelude.{IfSome}
use Rattle.rec_bytes.specs.declared.shape.Shape.{Shape}
use Rattle.rec_bytes.specs.RecordFiles.{room_of}
use Rattle.rec_bytes.specs.Record.{field}
use Rattle.rec_bytes.specs.Space.{State, after_get, after_gets}
use Rattle.rec_bytes.proofs.Spaces.{after_gets-zero, after_gets_more, records-after_gets}
use Rattle.store_rules.specs.Chains.{In, IsChain, IsWalk, next_in, place_of}
use Rattle.store_rules.proofs.ChainLaws.{head_once, walk_of_chain}
use Rattle.store_rules.proofs.NumberLaws.{eq_false}
use Rattle.store_rules.specs.Views.{Records, high, rec_at}
use Rattle.rel_store.specs.declared.edge_row.EdgeRow.{EdgeRow}
use Rattle.rel_store.specs.Loading.{rel_mark, rel_room}
use Rattle.rel_store.specs.RelRecord.{edge_of}
use Rattle.chain_edit.specs.Reach.{IsReach}
use Rattle.chain_edit.specs.declared.links.Reach.{Reach}
use Rattle.chain_edit.specs.Chains.{IsChainFrom, next_of, prev_of}
use Rattle.chain_edit.specs.Links.{IsLinkDamage}
use Rattle.chain_edit.specs.Links.IsLinkDamage.{LeadsNowhere, HighMark as HighLinkMark}
use Rattle.chain_edit.specs.Walking.{HasWalked, IsSoundFrom, IsSoundWalk, IsStepDamage, IsStepFault, IsWalkDamage, IsWalkFault, ReadsAtMost}
use Rattle.chain_edit.specs.Walking.{chain_damage, edge_at}
use Rattle.chain_edit.specs.Walking.IsStepDamage.{NoStep, HighLink}
use Rattle.chain_edit.specs.Walking.IsWalkDamage.{NoWalk, HighMark}

-- ---- what was met

-- these were met between one relationship and another, which comes after the one that was met before
pub record HasMet (s : State) (first node before at : ℕ) : Type 0 where
  pub members : List ℕ
  pub chain : (rest : List ℕ) → IsChain (next_of s.records node) (prev_of s.records node) before at rest → IsChainFrom s.records node first (members ++ rest)
  pub low : (x : ℕ) → In x members → x < rel_mark s

unfoldable pub met_none : (s : State) (first node : ℕ) → HasMet s first node nil first
met_none s first node = record { members = []; chain = λ rest h. h; low = λ x i. elim i [ ] }

pub in_push : (xs : List ℕ) (y x : ℕ) → In x (xs ++ y ∷ []) → In x xs ⊎ (x ≡ y)
in_push [] y x (inl e) = inr e
in_push [] y x (inr i) = elim i [ ]
in_push (z ∷ xs) y x (inl e) = inl (inl e)
in_push (z ∷ xs) y x (inr i) = ⊎_elim (λ k. inl (inr k)) (λ e. inr e) (in_push xs y x i)

-- the next link of a record that was read
pub link_is : (s : State) (node at to : ℕ) (rec : Rec) → rec ≡ rec_at s.records 2 at → to ≡ next_in rec node → next_of s.records node at ≡ to
link_is s node at to rec got is = ap (λ r. next_in r node) (sym got) ∙ sym is

-- one more
unfoldable pub met_more : (s : State) (first node before at to : ℕ) → at ≢ nil → at < rel_mark s → prev_of s.records node at ≡ before → next_of s.records node
    at ≡ to → HasMet s first node before at → HasMet s first node at to
met_more s first node before at to there low back link met =
    let next = next_of s.records node in
    let prev = prev_of s.records node in
    record {
      members = met.members ++ at ∷ [];
      chain = λ rest h. subst (IsChain next prev nil first) (sym (append_assoc met.members (at ∷ []) rest))
          (met.chain (at ∷ rest) (refl, there, back, subst (λ z. IsChain next prev at z rest) (sym link) h));
      low = λ x i. ⊎_elim (λ k. met.low x k) (λ e. subst (λ z. z < rel_mark s) (sym e) low) (in_push met.members at x i);
    }

-- the end
pub met_all : (s : State) (first node budget before at : ℕ) → at ≡ nil → (met : HasMet s first node before at) → length met.members ≤ budget → IsSoundWalk s
    first node budget met.members
met_all s first node budget before at none met few = record {
  chain = subst (IsChain (next_of s.records node) (prev_of s.records node) nil first) (append-nil met.members) (met.chain [] none);
  few = few;
  low = met.low;
}

-- ---- rows of what was met

pub record HaveRows (s : State) (first node before at : ℕ) (rows : List EdgeRow) : Type 0 where
  pub met : HasMet s first node before at
  pub are : rows ≡ map (edge_at s.records) met.members

pub rows_none : (s : State) (first node : ℕ) → HaveRows s first node nil first []
unfolding met_none
rows_none s first node = record { met = met_none s first node; are = refl }

pub rows_more : (s : State) (first node before at to : ℕ) (rows : List EdgeRow) (rec : Rec) → at ≢ nil → at < rel_mark s → prev_of s.records node at ≡ before
    → rec ≡ rec_at s.records 2 at → to ≡ next_in rec node
    → HaveRows s first node before at rows → HaveRows s first node at to (rows ++ edge_of rec at ∷ [])
unfolding met_more
rows_more s first node before at to rows rec there low back got is so_far = record {
  met = met_more s first node before at to there low back (link_is s node at to rec got is) so_far.met;
  are = ap (λ r. rows ++ edge_of r at ∷ []) got ∙ ap (λ r. r ++ edge_at s.records at ∷ []) so_far.are ∙ sym (map-append (edge_at s.records) so_far.met.members
      (at ∷ []));
}

pub rows_all : (s : State) (first node budget before at : ℕ) (rows : List EdgeRow) → at ≡ nil → length rows ≤ budget → HaveRows s first node before at rows
    → HasWalked s first node budget rows
rows_all s first node budget before at rows none few so_far = record {
  members = so_far.met.members;
  are = so_far.are;
  sound = met_all s first node budget before at none so_far.met (let same = ap length so_far.are ∙ length-map so_far.met.members (edge_at s.records) in omega
      arith);
}

-- ---- what is left

-- a walk to the end is left, of at most so many relationships
abbrev pub IsLeft : State → ℕ → ℕ → ℕ → ℕ → Type 0
IsLeft s node before left at = (ys : List ℕ) × IsSoundFrom s node before at left ys

pub left_more : (s : State) (node before left less at to : ℕ) → left ≡ suc less → at ≢ nil → next_of s.records node at ≡ to → IsLeft s node before left at
    → IsLeft s node at less to
left_more s node before left less at to one there link (ys, h) = step ys h
  where
    step : (ys : List ℕ) → IsSoundFrom s node before at left ys → IsLeft s node at less to
    step [] h = absurd (there h.chain)
    step (y ∷ ys) h =
        let next = next_of s.records node in
        let prev = prev_of s.records node in
        let on : IsChain next prev at (next at) ys = subst (λ z. IsChain next prev z (next z) ys) (sym h.chain.0) h.chain.3 in
        (ys, record { chain = subst (λ z. IsChain next prev at z ys) link on; few = omega (arith, h.few); low = λ x i. h.low x (inr i) })

-- the next one was given out, and leads back
pub left_step : (s : State) (node before left at : ℕ) → at ≢ nil → IsLeft s node before left at → (at < rel_mark s) × (prev_of s.records node at ≡ before)
left_step s node before left at there ([], h) = absurd (there h.chain)
left_step s node before left at there (y ∷ ys, h) = subst (λ z. (z < rel_mark s) × (prev_of s.records node z ≡ before)) (sym h.chain.0)
    (h.low y (inl refl), h.chain.2)

pub left_none : (s : State) (node before left at : ℕ) → left ≡ 0 → IsLeft s node before left at → at ≡ nil
left_none s node before left at none ([], h) = h.chain
left_none s node before left at none (y ∷ ys, h) = absurd (omega (arith, h.few))

-- ---- reads

pub one_longer : (rows more : List EdgeRow) (row : EdgeRow) → more ≡ rows ++ row ∷ [] → length more ≡ length rows + 1
one_longer rows more row is = ap length is ∙ length_push rows row

pub read_next : (s before now : State) (n more : ℕ) → more ≡ n + 1 → before ≡ after_gets n s → now ≡ after_get before → now ≡ after_gets more s
read_next s before now n more is so_far one = one ∙ ap after_get so_far ∙ sym (after_gets_more n more s is)

pub reads_next : (s before now : State) (n most : ℕ) → n < most → before ≡ after_gets n s → now ≡ after_get before → ReadsAtMost most s now
reads_next s before now n most lt so_far one = record { count = n + 1; within = omega arith; is = read_next s before now n (n + 1) refl so_far one }

-- at most one more
pub reads_within : (s before now : State) (n most : ℕ) → n < most → before ≡ after_gets n s → ReadsAtMost 1 before now → ReadsAtMost most s now
reads_within s before now n most lt so_far more = by more.count more.within more.is
  where
    by : (k : ℕ) → k ≤ 1 → now ≡ after_gets k before → ReadsAtMost most s now
    by zero le is = record { count = n; within = omega arith; is = is ∙ after_gets-zero before ∙ so_far }
    by (suc zero) le is = reads_next s before now n most lt so_far (is ∙ after_gets_more 0 1 before refl ∙ ap after_get (after_gets-zero before))
    by (suc (suc k)) le is = absurd (omega arith)

pub reads_none : (s : State) (most : ℕ) → ReadsAtMost most s s
reads_none s most = record { count = 0; within = omega arith; is = sym (after_gets-zero s) }

pub reads_one : (s now : State) → now ≡ after_get s → ReadsAtMost 1 s now
reads_one s now is = reads_next s s now 0 1 (omega arith) (sym (after_gets-zero s)) is

-- a record that was read after others is that of the space as it was
pub rec_then : (s now : State) (n at : ℕ) (rec : Rec) → now ≡ after_gets n s → rec ≡ rec_at now.records 2 at → rec ≡ rec_at s.records 2 at
rec_then s now n at rec reads got = got ∙ ap (λ (t : State). rec_at t.records 2 at) reads ∙ ap (λ (r : Records). rec_at r 2 at) (records-after_gets n s)

-- the next link, read at its place
pub next_read : (rec : Rec) (node place link : ℕ) → place ≡ place_of rec node → link ≡ field 4 rec (place + 4) → link ≡ next_in rec node
next_read rec node place link is got = got ∙ ap (λ at. field 4 rec (at + 4)) is

shape-after_gets : (n : ℕ) (s : State) → (after_gets n s).shape ≡ s.shape
unfolding after_gets
shape-after_gets zero s = refl
shape-after_gets (suc n) s = shape-after_gets n s

pub mark_then : (s now : State) (n : ℕ) → now ≡ after_gets n s → rel_mark now ≡ rel_mark s
mark_then s now n reads = ap rel_mark reads ∙ ap (λ (r : Records). high r 2) (records-after_gets n s)

pub room_then : (s now : State) (n : ℕ) → now ≡ after_gets n s → rel_room now ≡ rel_room s
room_then s now n reads = ap rel_room reads ∙ ap (λ (shape : Shape). room_of shape 2) (shape-after_gets n s)

-- and links may lead as far
pub reach_then : (s now : State) (n : ℕ) (reach : Reach) → now ≡ after_gets n s → IsReach s reach → IsReach now reach
reach_then s now n reach reads is = record { mark = is.mark ∙ sym (mark_then s now n reads); room = is.room ∙ sym (room_then s now n reads) }

-- ---- damage

-- a step of the space as it is after reads, by the space as it was
pub step_then : (s now : State) (n node at before : ℕ) → now ≡ after_gets n s → prev_of now.records node at ≡ before → prev_of s.records node at ≡ before
step_then s now n node at before reads back = sym (ap (λ (r : Records). prev_of r node at) (ap (λ (t : State). t.records) reads ∙ records-after_gets n s))
    ∙ back

-- a step that fails where the rest of a walk has to go on
pub no_step : (s now : State) (n node before left at : ℕ) → now ≡ after_gets n s → at ≢ nil → (at < rel_mark now → prev_of now.records node at ≢ before)
    → IsLeft s node before left at → ⊥
no_step s now n node before left at reads there fails rest =
    let step = left_step s node before left at there rest in
    let same : prev_of now.records node at ≡ prev_of s.records node at = ap (λ (r : Records). prev_of r node at) (ap (λ (t : State). t.records) reads
    ∙ records-after_gets n s) in
    fails (let mark = mark_then s now n reads in let low = step.0 in omega arith) (same ∙ step.1)

pub walk_damage : (s now : State) (n : ℕ) (owner : Key) (first node budget before left at : ℕ) (damage : Damage) → now ≡ after_gets n s → at ≢ nil
    → ((xs : List ℕ) → IsSoundWalk s first node budget xs → IsLeft s node before left at) → IsStepDamage now owner node before at damage → IsWalkDamage s owner
    first node budget damage
walk_damage s now n owner first node budget before left at damage reads there rest told = by damage told
  where
    by : (damage : Damage) → IsStepDamage now owner node before at damage → IsWalkDamage s owner first node budget damage
    by damage (NoStep fails) = NoWalk (λ xs sound. no_step s now n node before left at reads there fails (rest xs sound))
    by damage (HighLink above) = HighMark (let mark = mark_then s now n reads in let room = room_then s now n reads in omega arith)

pub walk_fault : (s now : State) (n : ℕ) (owner : Key) (first node budget before left at : ℕ) (fault : Fault) → now ≡ after_gets n s → at ≢ nil
    → ((xs : List ℕ) → IsSoundWalk s first node budget xs → IsLeft s node before left at) → IsStepFault now owner node before at fault → IsWalkFault s owner
    first node budget fault
walk_fault s now n owner first node budget before left at Memory reads there rest told = tt
walk_fault s now n owner first node budget before left at Disk reads there rest told = tt
walk_fault s now n owner first node budget before left at (Damaged damage) reads there rest told = walk_damage s now n owner first node budget before left at
    damage reads there rest told

pub none_damaged : (s : State) (owner : Key) (first node budget : ℕ) (xs : List ℕ) (damage : Damage) → rel_mark s ≤ rel_room s → IsSoundWalk s first node budget
    xs → IsWalkDamage s owner first node budget damage → ⊥
none_damaged s owner first node budget xs damage mark sound (NoWalk none) = none xs sound
none_damaged s owner first node budget xs damage mark sound (HighMark above) = omega arith

pub undamaged : (s : State) (owner : Key) (first node budget : ℕ) (xs : List ℕ) (fault : Fault) → rel_mark s ≤ rel_room s → IsSoundWalk s first node budget xs
    → IsWalkFault s owner first node budget fault → IfSome (damage_of fault) (λ _. ⊥)
undamaged s owner first node budget xs Memory mark sound told = tt
undamaged s owner first node budget xs Disk mark sound told = tt
undamaged s owner first node budget xs (Damaged damage) mark sound told = none_damaged s owner first node budget xs damage mark sound told

-- ---- walks within the mark

-- a walk is the only one
pub walk_is : (next : ℕ → ℕ) (f : ℕ) (xs ys : List ℕ) → IsWalk next f xs → IsWalk next f ys → xs ≡ ys
walk_is next f [] [] h k = refl
walk_is next f [] (y ∷ ys) h k = absurd (k.1 (sym k.0 ∙ h))
walk_is next f (x ∷ xs) [] h k = absurd (h.1 (sym h.0 ∙ k))
walk_is next f (x ∷ xs) (y ∷ ys) h k =
    let same : x ≡ y = sym h.0 ∙ k.0 in
    ap (λ z. z ∷ xs) same ∙ ap (λ zs. y ∷ zs) (walk_is next (next x) xs ys h.2 (subst (λ z. IsWalk next (next z) ys) (sym same) k.2))

-- the walk of a sound one
pub walk_in : (s : State) (first node budget : ℕ) (xs : List ℕ) → IsSoundWalk s first node budget xs → IsWalk (next_of s.records node) first xs
walk_in s first node budget xs sound = walk_of_chain (next_of s.records node) (prev_of s.records node) nil first xs sound.chain

-- so the rows are those of a walk that is known
pub rows_of : (s : State) (first node budget : ℕ) (rows : List EdgeRow) (xs : List ℕ) → HasWalked s first node budget rows → IsWalk (next_of s.records node)
    first xs → rows ≡ map (edge_at s.records) xs
rows_of s first node budget rows xs walked walk = walked.are ∙ ap (map (edge_at s.records)) (walk_is (next_of s.records node) first walked.members xs
    (walk_in s first node budget walked.members walked.sound) walk)

others : (x : ℕ) (xs : List ℕ) → (In x xs → ⊥) → AllByRecursion (λ y. eqb x y ≡ false) xs
others x [] out = tt
others x (y ∷ ys) out = (eq_false x y (λ e. out (inl e)), others x ys (λ i. out (inr i)))

-- no identifier comes twice in a walk
pub distinct : (next : ℕ → ℕ) (f : ℕ) (xs : List ℕ) → IsWalk next f xs → IsDistinct eqb xs
unfolding IsDistinct
distinct next f [] h = tt
distinct next f (x ∷ xs) h = IsDistinct-cons eqb x xs (others x xs (head_once next x xs h.1 h.2)) (distinct next (next x) xs h.2)

in_any : (q : ℕ) (xs : List ℕ) → list_any (eqb q) xs ≡ true → In q xs
in_any q [] h = absurd cc
in_any q (y ∷ ys) h = ⊎_elim (λ (e : eqb q y ≡ true). inl (grind (arith, nat_tests))) (λ k. inr (in_any q ys k)) (or_cases (eqb q y) (list_any (eqb q) ys) h)

-- so one below the mark is no longer than the mark
pub short_below : (next : ℕ → ℕ) (f mark : ℕ) (xs : List ℕ) → IsWalk next f xs → ((x : ℕ) → In x xs → x < mark) → length xs ≤ mark
short_below next f mark xs walk low = length-le_from_distinct_below xs mark (distinct next f xs walk) (λ q h. low q (in_any q xs h))

pub sound_below : (s : State) (first node : ℕ) (xs : List ℕ) → IsChainFrom s.records node first xs → ((x : ℕ) → In x xs → x < rel_mark s) → IsSoundWalk s first
    node (rel_mark s) xs
sound_below s first node xs chain low = record {
  chain = chain;
  few = short_below (next_of s.records node) first (rel_mark s) xs (walk_of_chain (next_of s.records node) (prev_of s.records node) nil first xs chain) low;
  low = low;
}

-- a link that leads nowhere is no step
pub link_step : (s : State) (owner : Key) (node before at : ℕ) (named damage : Damage) → named ≡ chain_damage owner → IsLinkDamage s at named damage
    → IsStepDamage s owner node before at damage
link_step s owner node before at named damage is (LeadsNowhere some above) = subst (IsStepDamage s owner node before at) (sym is)
    (NoStep (λ lt. absurd (omega arith)))
link_step s owner node before at named damage is (HighLinkMark above) = HighLink above

-- ---- reads, by what a walk that ends meets

-- What was met and what is left are the walk.
met_and_left : (s : State) (first node budget before left at : ℕ) (rows : List EdgeRow) (xs : List ℕ) → HaveRows s first node before at rows →
    (rest : IsLeft s node before left at) → IsSoundWalk s first node budget xs → length xs ≡ length rows + length rest.0
met_and_left s first node budget before left at rows xs so_far (ys, h) sound =
    let next = next_of s.records node in
    let prev = prev_of s.records node in
    let members = so_far.met.members in
    let same = walk_is next first xs (members ++ ys) (walk_of_chain next prev nil first xs sound.chain) (walk_of_chain next prev nil first (members ++ ys)
    (so_far.met.chain ys h.chain)) in
    let long : length rows ≡ length members = ap length so_far.are ∙ length-map members (edge_at s.records) in
    ap length same ∙ length-append members ys ∙ ap (λ n. n + length ys) (sym long)

some_left : (s : State) (node before left at : ℕ) → at ≢ nil → (rest : IsLeft s node before left at) → 1 ≤ length rest.0
some_left s node before left at there ([], h) = absurd (there h.chain)
some_left s node before left at there (y ∷ ys, h) = omega arith

-- so there were no more reads than it has relationships
pub few_then : (s now : State) (first node budget before left at : ℕ) (rows : List EdgeRow) (xs : List ℕ) → HaveRows s first node before at rows → IsLeft s node
    before left at → IsSoundWalk s first node budget xs → now ≡ after_gets (length rows) s
    → ReadsAtMost (length xs) s now
few_then s now first node budget before left at rows xs so_far rest sound reads =
    let long = met_and_left s first node budget before left at rows xs so_far rest sound in
    record { count = length rows; within = omega arith; is = reads }

-- with at most one more at a link that is to a relationship
pub few_next : (s before_state now : State) (first node budget before left at : ℕ) (rows : List EdgeRow) (xs : List ℕ) → at ≢ nil → HaveRows s first node before
    at rows → IsLeft s node before left at → IsSoundWalk s first node budget xs
    → before_state ≡ after_gets (length rows) s → ReadsAtMost 1 before_state now → ReadsAtMost (length xs) s now
few_next s before_state now first node budget before left at rows xs there so_far rest sound reads one =
    let long = met_and_left s first node budget before left at rows xs so_far rest sound in
    let some = some_left s node before left at there rest in
    reads_within s before_state now (length rows) (length xs) (omega arith) reads one
