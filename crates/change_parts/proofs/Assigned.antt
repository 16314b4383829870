-- The pairs of a line that have been assigned so far.
use Rattle.std.specs.FinMap as maps
use Rattle.std.specs.List.{All, sum_by}
use Rattle.std.specs.Prelude.{Contains, slice_get}
use Rattle.std.proofs.Common.{◌≡◌, ◌≢◌, ℕ, zero, suc, ◌+◌, ◌-◌, ◌<◌, ◌≤◌, nat_eq, nat_le, Bool, true, false, cond, Some}
use Rattle.std.proofs.Common.{List, [], ◌∷◌, ◌++◌, length, map, take, get_or, sym, ap, ◌∙◌, subst, arith, refl}
use Rattle.std.proofs.lemmas.Bool.Decides.{nat_tests}
use Rattle.std.proofs.lemmas.List.{get_or_append_left, length-append, length-map, length-take, take_all, take_more}
use Rattle.std.proofs.lemmas.List.Elements.{All-head, All-nil, All-tail, All-weaker}
use Rattle.std.proofs.lemmas.List.Sums.{sum_by-cons}
use Rattle.std.proofs.lemmas.Option.{get_or_from_slice_get, slice_get_within}
use Rattle.plain_graph.specs.Forms.{ArePairs, IsKept}
use Rattle.plain_graph.specs.Graph.{UsesName, UsesNames}
use Rattle.plain_graph.specs.Names.{IsShortName}
use Rattle.plain_graph.specs.Properties.{Properties, blocks_in, blocks_of, keys_in, no_properties, with_pairs}
use Rattle.plain_graph.specs.Refusals.{most_names}
use Rattle.plain_graph.specs.declared.pairs.Pair.{Pair}
use Rattle.plain_graph.specs.declared.value.Value.{Value}
use Rattle.plain_graph.specs.declared.value.Value.TheVariants as values
use Rattle.plain_graph.proofs.PropertyLaws.{blocks_in-empty, order}
use Rattle.name_store.specs.Interning.{IsFullFault}
use Rattle.name_store.specs.Names.{AreHeldNames}
use Rattle.name_store.specs.declared.intern_fault.InternFault.{InternFault}
use Rattle.name_store.specs.declared.intern_fault.InternFault.TheVariants as intern
use Rattle.rec_bytes.specs.Space.{State}
use Rattle.store_rules.specs.Properties.{AreOnce}
use Rattle.store_rules.specs.Writes.{WritesAtMost}
use Rattle.change_parts.specs.Assigning.{AreAssigned, HasTooMany, IsAssignFault, assigned_blocks, pair_at, pair_of, pairs_of, with_place}
use Rattle.change_parts.specs.ChangeFault.{of_intern}
use Rattle.change_parts.specs.Damage.{KeepsButNames}
use Rattle.change_parts.specs.Rooms.{KeepsElementMetas}
use Rattle.change_parts.specs.Store.{IsMidway, KeepsElements}
use Rattle.change_parts.specs.declared.assigning.Assignment.{Assignment}
use Rattle.change_parts.proofs.LastPairs.{all_placed, blocks_in-with_pairs, len-with_pairs, once_placed, pairs_new, with_pairs-placed, with_pairs-push}
use Rattle.change_parts.proofs.LineNames.{held_name, key_lacks, name_long, name_prefix, uses_more}
use Rattle.change_parts.proofs.NewNames.{name_one, named_once, placed_grows}
use Rattle.store_rules.proofs.WriteLaws.{more_written, then_written}

-- ---- the form of a pair
pub pair_form : (pairs : List Pair) (i : ℕ) (d : Pair) → ArePairs pairs → i < length pairs → IsShortName (get_or pairs i d).key
    × IsKept (get_or pairs i d).value
pair_form [] i d are lt = absurd (omega arith)
pair_form (p ∷ ps) zero d are lt = (are.0, are.1)
pair_form (p ∷ ps) (suc i) d are lt = pair_form ps i d are.2 (omega arith)

-- ---- pairs by more names
pub pairs_stay : (names rest : List (List ℕ)) (pairs : List Pair) (xs : List Assignment) → All (λ a. a.key < length names) xs
    → pairs_of (names ++ rest) pairs xs ≡ pairs_of names pairs xs
pairs_stay names rest pairs [] known = refl
pairs_stay names rest pairs (x ∷ xs) known =
    λ i. record { key = get_or_append_left names rest [] x.key (All-head (λ a. a.key < length names) x xs known) i; value = (pair_at pairs x.pair).value }
    ∷ pairs_stay names rest pairs xs (All-tail (λ a. a.key < length names) x xs known) i

-- ---- as many as there is room for
cut_placed : (n : ℕ) (xs : List Assignment) (key place : ℕ) → take n (with_place (take n xs) key place) ≡ take n (with_place xs key place)
cut_placed zero xs key place = none (with_place (take zero xs) key place) ∙ sym (none (with_place xs key place))
  where
    none : (ys : List Assignment) → take zero ys ≡ []
    none ys = refl
cut_placed (suc n) [] key place = refl
cut_placed (suc n) (x ∷ xs) key place = by (nat_eq x.key key) (cut_placed n xs key place)
  where
    again : (m : ℕ) (ys : List Assignment) → take m (take m ys) ≡ take m ys
    again m ys = take_all m (take m ys) (omega (arith, length-take m ys))

    by : (b : Bool) → take n (with_place (take n xs) key place) ≡ take n (with_place xs key place)
        → take (suc n) (cond b (record { key = key; pair = place } ∷ take n xs) (x ∷ with_place (take n xs) key place)) ≡ take (suc n)
        (cond b (record { key = key; pair = place } ∷ xs) (x ∷ with_place xs key place))
    by true rest = ap (λ l. record { key = key; pair = place } ∷ l) (again n xs)
    by false rest = ap (λ l. x ∷ l) rest

-- ---- what holds after so many pairs: the items are the first 33 of all assignments
pub record IsSoFar (old names : List (List ℕ)) (pairs : List Pair) (n : ℕ) (items : List Assignment) : Type 0 where
  pub uses : UsesNames old (keys_in (take n pairs)) names
  pub held : AreHeldNames names
  pub all : List Assignment
  pub known : All (λ a. a.key < length names) all
  pub placed : All (λ a. a.pair < n) all
  pub once : AreOnce (map (λ (a : Assignment). a.key) all)
  pub same : with_pairs no_properties (pairs_of names pairs all) ≡ with_pairs no_properties (take n pairs)
  pub items_is : items ≡ take 33 all
  pub new_few : length names ≤ length old + length all

pub none_so_far : (names : List (List ℕ)) (pairs : List Pair) → AreHeldNames names → IsSoFar names names pairs 0 []
none_so_far names pairs held = record {
  uses = refl;
  held = held;
  all = [];
  known = All-nil (λ a. a.key < length names);
  placed = All-nil (λ a. a.pair < 0);
  once = tt;
  same = refl;
  items_is = refl;
  new_few = omega arith;
}

-- fewer than 33 items are all assignments
pub items_all : (old names : List (List ℕ)) (pairs : List Pair) (n : ℕ) (items : List Assignment) (so_far : IsSoFar old names pairs n items) → length items ≤ 32
    → items ≡ so_far.all
items_all old names pairs n items so_far few =
    let short : length so_far.all ≤ 33 = let e = ap length so_far.items_is in omega (arith, length-take 33 so_far.all) in
    so_far.items_is ∙ take_all 33 so_far.all short

pub items_most : (old names : List (List ℕ)) (pairs : List Pair) (n : ℕ) (items : List Assignment) → IsSoFar old names pairs n items → length items ≤ 33
items_most old names pairs n items so_far = let e = ap length so_far.items_is in omega (arith, length-take 33 so_far.all)

-- while there are fewer, a new name makes one item more
pub named_more : (old names new : List (List ℕ)) (pairs : List Pair) (n number : ℕ) (items now : List Assignment) (x : List ℕ) → IsSoFar old names pairs n items
    → UsesName names x new → slice_get new number ≡ Some x
    → now ≡ take 33 (with_place items number n) → length items ≤ 32 → length new + length items ≤ length names + length now
named_more old names new pairs n number items now x so_far uses at placed few =
    let all = items_all old names pairs n items so_far few in
    let one = name_one names x new uses in
    let more = named_once number n names x new items uses at (subst (All (λ (a : Assignment). a.key < length names)) (sym all) so_far.known) in
    let long = ap length placed in
    omega (arith, length-take 33 (with_place items number n))

-- what is written stays few: a record for each item
pub few_then : (s t u : State) (old names new : List (List ℕ)) (pairs : List Pair) (n number : ℕ) (items now : List Assignment) (x : List ℕ)
    → IsSoFar old names pairs n items → UsesName names x new → slice_get new number ≡ Some x
    → now ≡ take 33 (with_place items number n) → WritesAtMost (length items) s t → WritesAtMost (length new - length names) t u → (32 < length items → u ≡ t)
    → WritesAtMost (length now) s u
few_then s t u old names new pairs n number items now x so_far uses at placed before one held =
    by (nat_le (length items) 32) (λ e. grind (arith, nat_tests)) (λ e. grind (arith, nat_tests))
  where
    by : (b : Bool) → (b ≡ true → length items ≤ 32) → (b ≡ false → 32 < length items) → WritesAtMost (length now) s u
    by true few many =
        let longer = name_long names x new uses in
        let more = named_more old names new pairs n number items now x so_far uses at placed (few refl) in
        more_written (omega arith) (then_written before one)
    by false few many =
        let grows = placed_grows number n items now (items_most old names pairs n items so_far) placed in
        more_written grows (subst (WritesAtMost (length items) s) (sym (held (many refl))) before)

-- so it does where the next key gets no number
pub few_after : (s t u : State) (items : List Assignment) → length items ≤ 33 → WritesAtMost (length items) s t → WritesAtMost 1 t u
    → (32 < length items → u ≡ t) → WritesAtMost 33 s u
few_after s t u items most before one held = by (nat_le (length items) 32) (λ e. grind (arith, nat_tests)) (λ e. grind (arith, nat_tests))
  where
    by : (b : Bool) → (b ≡ true → length items ≤ 32) → (b ≡ false → 32 < length items) → WritesAtMost 33 s u
    by true few many = let le = few refl in more_written (omega arith) (then_written before one)
    by false few many = more_written most (subst (WritesAtMost (length items) s) (sym (held (many refl))) before)

one_more_at : (old names new : List (List ℕ)) (pairs : List Pair) (n number : ℕ) (items now : List Assignment) → IsSoFar old names pairs n items
    → n < length pairs → IsShortName (pair_at pairs n).key
    → UsesName names (pair_at pairs n).key new → slice_get new number ≡ Some (pair_at pairs n).key
    → (¬ Contains names (pair_at pairs n).key → length names ≢ most_names)
    → now ≡ take 33 (with_place items number n) → IsSoFar old new pairs (n + 1) now
one_more_at old names new pairs n number items now so_far lt short uses at room placed =
    let key = (pair_at pairs n).key in
    let value = (pair_at pairs n).value in
    let more = name_prefix names key new uses in
    let held = held_name names key new so_far.held uses short room in
    let low = slice_get_within new number key at in
    let longer : length names ≤ length new = let e = ap length more.1 in omega (arith, length-append names more.0) in
    let known : All (λ (a : Assignment). a.key < length new) so_far.all =
    All-weaker (λ (a : Assignment). a.key < length names) (λ (a : Assignment). a.key < length new) (λ a k. omega arith) so_far.all so_far.known in
    let stay : pairs_of new pairs so_far.all ≡ pairs_of names pairs so_far.all = ap (λ l. pairs_of l pairs so_far.all) more.1
    ∙ pairs_stay names more.0 pairs so_far.all so_far.known in
    record {
      uses = uses_more old pairs n names new lt so_far.uses uses;
      held = held;
      all = with_place so_far.all number n;
      known = all_placed (λ a. a.key < length new) so_far.all number n low known;
      placed = all_placed (λ a. a.pair < n + 1) so_far.all number n (omega arith)
          (All-weaker (λ (a : Assignment). a.pair < n) (λ (a : Assignment). a.pair < n + 1) (λ a k. omega arith) so_far.all so_far.placed);
      once = once_placed so_far.all number n so_far.once;
      same = with_pairs-placed new pairs held.distinct no_properties so_far.all number n low known so_far.once
          ∙ ap (λ l. maps.insert (with_pairs no_properties l) (get_or new number []) value) stay
          ∙ ap (λ m. maps.insert m (get_or new number []) value) so_far.same
          ∙ ap (λ k. maps.insert (with_pairs no_properties (take n pairs)) k value) (get_or_from_slice_get new number key [] at)
          ∙ sym (ap (with_pairs no_properties) (take_more pairs n (record { key = []; value = values.Text [] }) lt) ∙ with_pairs-push no_properties
          (take n pairs) (pair_at pairs n));
      items_is = placed ∙ ap (λ l. take 33 (with_place l number n)) so_far.items_is ∙ cut_placed 33 so_far.all number n;
      new_few = let a = so_far.new_few in let b = named_once number n names key new so_far.all uses at so_far.known in omega arith;
    }

-- the same by the text that got its number
pub one_more : (old names new : List (List ℕ)) (pairs : List Pair) (n number : ℕ) (items now : List Assignment) (x : List ℕ) → x ≡ (pair_at pairs n).key
    → IsSoFar old names pairs n items → n < length pairs → IsShortName x
    → UsesName names x new → slice_get new number ≡ Some x → (¬ Contains names x → length names ≢ most_names) → now ≡ take 33 (with_place items number n)
    → IsSoFar old new pairs (n + 1) now
one_more old names new pairs n number items now x is so_far lt short uses at room placed =
    one_more_at old names new pairs n number items now so_far lt (subst IsShortName is short) (subst (λ k. UsesName names k new) is uses) (at ∙ ap Some is)
    (λ lacks. room (λ h. lacks (subst (Contains names) is h))) placed

-- a key that gets no number is too many a name
pub assign_refused : (old names : List (List ℕ)) (pairs : List Pair) (n : ℕ) (items : List Assignment) (x : List ℕ) → x ≡ (pair_at pairs n).key
    → IsSoFar old names pairs n items → n < length pairs
    → (fault : InternFault) → IsFullFault names x fault → IsAssignFault old pairs (of_intern fault)
assign_refused old names pairs n items x is so_far lt (intern.NamesFull count) why =
    key_lacks old pairs n names lt so_far.uses why.all (λ h. why.new (subst (Contains names) (sym is) h))
assign_refused old names pairs n items x is so_far lt intern.Memory why = tt
assign_refused old names pairs n items x is so_far lt intern.Disk why = tt

-- ---- what the assignments say of the map
module _ (names : List (List ℕ)) (pairs : List Pair) (xs : List Assignment) (assigned : AreAssigned names pairs xs) where
  pub length-assigned : length xs ≡ maps.len (with_pairs no_properties pairs)
  length-assigned =
      let same = ap (λ (m : Properties). maps.len m) assigned.same in
      let all = len-with_pairs no_properties (pairs_of names pairs xs) assigned.once in
      let none = maps.len-empty order Value in
      let long = length-map xs (pair_of names pairs) in
      omega arith

  -- the blocks of the values, by the assignments
  pub sums : (ys : List Assignment) → sum_by (λ (p : Pair). blocks_of p.value) (pairs_of names pairs ys) ≡ assigned_blocks pairs ys
  sums [] = refl
  sums (y ∷ ys) =
      let a = sum_by-cons (λ (p : Pair). blocks_of p.value) (pair_of names pairs y) (pairs_of names pairs ys) in
      let b = sum_by-cons (λ (z : Assignment). blocks_of (pair_at pairs z.pair).value) y ys in
      let rest = sums ys in
      omega arith

  pub blocks-assigned : assigned_blocks pairs xs ≡ blocks_in (with_pairs no_properties pairs)
  blocks-assigned =
      let same = ap blocks_in assigned.same in
      let all = blocks_in-with_pairs no_properties (pairs_of names pairs xs) assigned.once in
      let none = blocks_in-empty in
      let sum = sums xs in
      omega arith

-- ---- the end of the pairs
module _ (old names : List (List ℕ)) (pairs : List Pair) (items : List Assignment) (so_far : IsSoFar old names pairs (length pairs) items) where
  all_pairs : take (length pairs) pairs ≡ pairs
  all_pairs = take_all (length pairs) pairs (omega arith)

  pub all_used : UsesNames old (keys_in pairs) names
  all_used = subst (λ l. UsesNames old (keys_in l) names) all_pairs so_far.uses

  every : AreAssigned names pairs so_far.all
  every = record {
    known = so_far.known;
    placed = so_far.placed;
    once = pairs_new names pairs so_far.held.distinct no_properties so_far.all so_far.known
        so_far.once (λ k i. maps.get-empty order (get_or names k []));
    same = so_far.same ∙ ap (with_pairs no_properties) all_pairs;
  }

  pub all_assigned : length items ≤ 32 → AreAssigned names pairs items
  all_assigned few = subst (AreAssigned names pairs) (sym (items_all old names pairs (length pairs) items so_far few)) every

  pub few_named : length items ≤ 32 → length names ≤ length old + length items
  few_named few = let e = ap length (items_all old names pairs (length pairs) items so_far few) in let n = so_far.new_few in omega arith

  pub too_many : 32 < length items → HasTooMany pairs
  too_many many = let e = ap length so_far.items_is in let n = length-assigned names pairs so_far.all every in omega (arith, length-take 33 so_far.all)

-- ---- the loop's invariant
pub record IsAssigning (tells onward : Type 0) (s t : State) (before now : ℕ) (old names : List (List ℕ)) (pairs : List Pair) (n : ℕ)
    (items : List Assignment) : Type 0 where
  pub so_far : IsSoFar old names pairs n items
  pub stays : tells → KeepsButNames s t
  pub kept : tells → length items ≤ 32 → IsMidway s old → KeepsElements s t names
  pub metas : tells → KeepsElementMetas s t
  pub shape : tells → t.shape ≡ s.shape
  pub writes : length items ≤ 32 → WritesAtMost (length names - length old) s t
  pub few_writes : WritesAtMost (length items) s t
  pub onward_is : onward
  pub later : before ≤ now
