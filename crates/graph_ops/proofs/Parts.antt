-- Parts of a list of changes over a store, one after the other.
use Rattle.std.specs.Prelude.{Result, Ok, Err, IfErr, IfOk, IsErrAnd, OnOk}
use Rattle.std.proofs.Common.{◌≡◌, ◌∙◌, ℕ, ◌+◌, ◌<◌, ◌≤◌, min, List, [], ◌∷◌, ◌++◌, Option, None, is_some, true, false}
use Rattle.std.proofs.Common.{length, take, drop, get_or, append_assoc, inl, inr, sym, ap, subst, arith, refl}
use Rattle.plain_graph.specs.Graph.{Graph}
use Rattle.plain_graph.specs.Refusals.{FirstReason, change_reasons}
use Rattle.plain_graph.specs.Reply.{Reply}
use Rattle.plain_graph.specs.declared.command.Command.{Command}
use Rattle.plain_graph.specs.declared.command.Command.TheVariants as commands
use Rattle.plain_graph.specs.declared.item.Item.{Item}
use Rattle.plain_graph.specs.declared.item.Item.TheVariants as items
use Rattle.plain_graph.specs.declared.pairs.Pair.{Pair}
use Rattle.plain_graph.specs.declared.refusal.Refusal.{Refusal}
use Rattle.rec_bytes.specs.Space.{State}
use Rattle.rec_bytes.specs.declared.shape.Shape.{Shape}
use Rattle.store_rules.specs.Writes.{WritesAtMost}
use Rattle.store_rules.proofs.RowLaws.{append_none}
use Rattle.store_rules.proofs.WriteLaws.{more_written, none_written, then_written}
use Rattle.change_parts.specs.Change.{IsRefusal, MakesChange}
use Rattle.change_parts.specs.Store.{IsStore}
use Rattle.change_parts.specs.declared.change_fault.ChangeFault.{ChangeFault}
use Rattle.change_parts.specs.declared.change_fault.ChangeFault.TheVariants.{NoNode, NoEdge, HasRelationships, IndexThere}
use Rattle.change_parts.specs.declared.change_fault.ChangeFault.TheVariants.{TooManyIndexes, IndexTooLarge, Full}
use Rattle.change_parts.specs.declared.change_fault.ChangeFault.TheVariants.{NamesFull, PropsFull, Memory, Disk, Damaged}
use Rattle.change_parts.proofs.Exits.{fault_exit}
use Rattle.change_parts.specs.Causes.{IsCausedAfter}
use Rattle.graph_ops.specs.ChangeLeft.{LeavesChange, LeavesEach}
use Rattle.graph_ops.proofs.ChangeLeft.{leaves_one, leaves_then}
use Rattle.graph_ops.specs.Mutating.{IsListCaused, IsListRefusal, MakesChanges, MakesList}
use Rattle.graph_ops.specs.Mutating.{MakesMutation, MakesPart, any_replies, most_drafted, most_told}
use Rattle.plain_graph.specs.Mutations.{MakesEach, RefusesEach, changes_of, elements_of, new_elements, targets_once, vertex_id}
use Rattle.plain_graph.specs.declared.mutation.Mutation.TheVariants as mutations
use Rattle.plain_graph.proofs.Alike.{AreAlike, IsNewEdge, IsOfElement, alike_self, edge_carries, element_carries, node_once}
use Rattle.plain_graph.proofs.Making.{AreAll, Carries, each_changes, each_then, each_weighs, never_refused}
use Rattle.plain_graph.proofs.Making.{reasons_apart, reasons_same, refuses_more, refuses_then, weighs_once}
use Rattle.graph_ops.proofs.Spreading.{IsSpread, all_split, deletions_all, edges_all, items_all, up_to_next}
use Rattle.store_rules.specs.Graph.{graph_in}

-- The changes so far, and what every exit says.
pub record IsMaking (tells onward : Type 0) (commands : List Command) (Shown : List Reply → Type 0) (weight : ℕ) (s t : State) (before names : List (List ℕ))
    (faults now : ℕ) : Type 0 where
  pub part : MakesPart tells commands Shown weight s t before names
  pub prefix : (rest : List (List ℕ)) × (names ≡ before ++ rest)
  pub shape : t.shape ≡ s.shape
  pub onward_is : onward
  pub later : faults ≤ now

-- ---- single changes

pub one_part : (tells : Type 0) (command : Command) (Shown : List Reply → Type 0) (reply : Reply) (weight : ℕ) (s t : State) (before names : List (List ℕ))
    → (tells → IsStore s before → MakesChange command reply weight s t names) → (tells → LeavesChange command reply s.records t.records names)
    → weight + 7 ≤ 2048 → WritesAtMost weight s t → Shown (reply ∷ []) → MakesPart tells (command ∷ []) Shown weight s t before names
one_part tells command Shown reply weight s t before names made left light writes shown = record {
  made = λ told. (
    reply ∷ [],
    shown,
    leaves_one command reply s.records t.records names (left told),
    λ store.
        let one = made told store in record {
          store = one.store;
          each = (
            reply,
            weight,
            graph_in t,
            [],
            0,
            refl,
            omega arith,
            record { changes = one.changes; weighs = one.weighs; free = one.free },
            (refl, refl, refl),
          );
        },
  );
  few = omega arith;
  writes = writes;
}

-- of a result, where nothing is said of its reply
pub one_result : (r : Result ℕ ChangeFault) (tells : Type 0) (command : Command) (reply : Reply) (s t : State) (before names : List (List ℕ))
    → (tells → IfOk r (λ weight. IsStore s before → MakesChange command reply weight s t names))
    → (tells → OnOk r (LeavesChange command reply s.records t.records names)) → IfOk r (λ weight. weight + 7 ≤ 2048)
    → IfOk r (λ weight. WritesAtMost weight s t) → IfOk r (λ weight. MakesPart tells (command ∷ []) any_replies weight s t before names)
one_result (Ok weight) tells command reply s t before names made left light writes =
    one_part tells command any_replies reply weight s t before names made left light writes tt
one_result (Err fault) tells command reply s t before names made left light writes = tt

pub none_part : (tells : Type 0) (Shown : List Reply → Type 0) (s : State) (names : List (List ℕ)) → Shown [] → MakesPart tells [] Shown 0 s s names names
none_part tells Shown s names shown = record {
  made = λ told. ([], shown, (refl, refl), λ store. record { store = store; each = (refl, refl, refl) });
  few = omega arith;
  writes = none_written s s refl;
}

-- a result that is no vertex gets no edge
pub none_from : (tells : Type 0) (label : List ℕ) (to : ℕ) (pairs : List Pair) (item : Item) (shown : List Item) (s : State) (names : List (List ℕ))
    → vertex_id item ≡ None
    → MakesPart tells (changes_of (mutations.AddE label to pairs) (item ∷ []))
    (λ replies. shown ≡ shown ++ new_elements (changes_of (mutations.AddE label to pairs) (item ∷ [])) replies) 0 s s names names
none_from tells label to pairs (items.Vertex id) shown s names none = absurd
    (subst (λ (o : Option ℕ). is_some o ≡ true → ⊥) (sym none) (λ (e : false ≡ true). absurd cc) refl)
none_from tells label to pairs (items.Edge id type from end) shown s names none =
    none_part tells (λ replies. shown ≡ shown ++ new_elements [] replies) s names (sym (append_none shown))
none_from tells label to pairs (items.Value value) shown s names none =
    none_part tells (λ replies. shown ≡ shown ++ new_elements [] replies) s names (sym (append_none shown))

-- ---- one part and then another

module _ (xs ys : List Command) (w v both : ℕ) (s t u : State) (is : both ≡ w + v) (few : both ≤ most_drafted) where
  list_then : (rs ts : List Reply) (m n : List (List ℕ)) → t.shape ≡ s.shape → MakesList xs rs w s t m → MakesList ys ts v t u n
      → MakesList (xs ++ ys) (rs ++ ts) both s u n
  list_then rs ts m n shape made next = record {
    store = next.store;
    each =
        subst (λ (n : ℕ). MakesEach s.shape.limit s.shape.threshold (graph_in s) (xs ++ ys) (rs ++ ts) n (graph_in u)) (sym is)
        (each_then s.shape.limit s.shape.threshold (graph_in s) (graph_in t) (graph_in u) xs ys rs ts w v made.each
        (subst (λ (z : Shape). MakesEach z.limit z.threshold (graph_in t) ys ts v (graph_in u)) shape next.each));
  }

  pub part_then : {tells : Type 0} {Shown Next Then : List Reply → Type 0} (b m n : List (List ℕ)) → ((rest : List (List ℕ)) × (n ≡ m ++ rest))
      → t.shape ≡ s.shape → ((rs ts : List Reply) → Shown rs → LeavesEach xs rs s.records t.records m → Next ts → Then (rs ++ ts))
      → MakesPart tells xs Shown w s t b m → MakesPart tells ys Next v t u m n → MakesPart tells (xs ++ ys) Then both s u b n
  part_then b m n grown shape joins made next = record {
    made = λ told.
        let one = made.made told in
        let other = next.made told in (
          one.0 ++ other.0,
          joins one.0 other.0 one.1 one.2 other.1,
          leaves_then xs ys one.0 other.0 s.records t.records u.records m n grown.0 grown.1 one.2 other.2,
          λ store. let first = one.3 store in list_then one.0 other.0 m n shape first (other.3 first.store),
        );
    few = few;
    writes = more_written (omega arith) (then_written made.writes next.writes);
  }

-- ---- refusals

-- what refuses some commands so refuses others so
list_by : (limit : ℕ) (g h : Graph) (xs ys : List Command) → ((why : Refusal) → RefusesEach limit g xs why → RefusesEach limit h ys why) → (fault : ChangeFault)
    → IsListRefusal limit g xs fault → IsListRefusal limit h ys fault
list_by limit g h xs ys more (NoNode id) why = more _ why
list_by limit g h xs ys more (NoEdge id) why = more _ why
list_by limit g h xs ys more (HasRelationships id degree) why = more _ why
list_by limit g h xs ys more IndexThere why = more _ why
list_by limit g h xs ys more TooManyIndexes why = more _ why
list_by limit g h xs ys more (IndexTooLarge count) why = more _ why
list_by limit g h xs ys more (Full file live) why = (why.0, more _ why.1)
list_by limit g h xs ys more (NamesFull count) why = more _ why
list_by limit g h xs ys more (PropsFull count) why = more _ why
list_by limit g h xs ys more Memory why = tt
list_by limit g h xs ys more Disk why = tt
list_by limit g h xs ys more (Damaged damage) why = absurd why

-- a list of one
pub one_refused : (limit : ℕ) (graph : Graph) (command : Command) (fault : ChangeFault) → IsRefusal limit graph command fault
    → IsListRefusal limit graph (command ∷ []) fault
one_refused limit graph command (NoNode id) why = inl why
one_refused limit graph command (NoEdge id) why = inl why
one_refused limit graph command (HasRelationships id degree) why = inl why
one_refused limit graph command IndexThere why = inl why
one_refused limit graph command TooManyIndexes why = inl why
one_refused limit graph command (IndexTooLarge count) why = inl why
one_refused limit graph command (Full file live) why = (why.0, inl why.1)
one_refused limit graph command (NamesFull count) why = inl why
one_refused limit graph command (PropsFull count) why = inl why
one_refused limit graph command Memory why = tt
one_refused limit graph command Disk why = tt
one_refused limit graph command (Damaged damage) why = absurd why

-- after the changes so far, and before those that are left
pub next_refused : {tells : Type 0} {Shown : List Reply → Type 0} (told : tells) (s t : State) (xs ys zs all : List Command) (w : ℕ)
    (before names : List (List ℕ)) → MakesPart tells xs Shown w s t before names → IsStore s before → t.shape ≡ s.shape
    → all ≡ xs ++ (ys ++ zs) → (fault : ChangeFault) → (IsStore t names → IsListRefusal t.shape.limit (graph_in t) ys fault)
    → IsListRefusal s.shape.limit (graph_in s) all fault
next_refused told s t xs ys zs all w before names part store shape is fault refused =
    let made = (part.made told).3 store in
    let replies = (part.made told).0 in
    list_by s.shape.limit (graph_in t) (graph_in s) ys all
    (λ why refuses.
    subst (λ (cs : List Command). RefusesEach s.shape.limit (graph_in s) cs why) (sym is)
    (refuses_then s.shape.limit s.shape.threshold (graph_in s) (graph_in t) xs (ys ++ zs) replies w why made.each (refuses_more s.shape.limit s.shape.threshold
    (graph_in t) ys zs why refuses)))
    fault
    (subst (λ (z : Shape). IsListRefusal z.limit (graph_in t) ys fault) shape (refused made.store))

pub result_refused : {T : Type 0} (r : Result T ChangeFault) (limit : ℕ) (graph : Graph) (command : Command) → IfErr r (IsRefusal limit graph command)
    → IfErr r (IsListRefusal limit graph (command ∷ []))
result_refused (Ok x) limit graph command refused = tt
result_refused (Err fault) limit graph command refused = one_refused limit graph command fault refused

-- ---- why one is refused, by the space as it is left

pub one_caused : (command : Command) (t : State) (names now : List (List ℕ)) (fault : ChangeFault) → ((rest : List (List ℕ)) × (now ≡ names ++ rest))
    → IsCausedAfter command t names now fault → IsListCaused (command ∷ []) t names now fault
one_caused command t names now fault grown why =
    inr (record {
      before = [];
      command = command;
      after = [];
      split = refl;
      more = [];
      rest = grown.0;
      held = grown.1 ∙ ap (λ (l : List (List ℕ)). l ++ grown.0) (sym (append_none names));
      caused = subst (λ (l : List (List ℕ)). IsCausedAfter command t l now fault) (sym (append_none names)) why;
    })

-- among others, after some of which there are more names
pub list_caused : (xs ys zs all : List Command) (t : State) (b m now : List (List ℕ)) (fault : ChangeFault) → all ≡ xs ++ (ys ++ zs)
    → ((more : List (List ℕ)) × (m ≡ b ++ more)) → IsListCaused ys t m now fault → IsListCaused all t b now fault
list_caused xs ys zs all t b m now fault is grown (inl memory) = inl memory
list_caused xs ys zs all t b m now fault is grown (inr why) =
    let names : m ++ why.more ≡ b ++ (grown.0 ++ why.more) = ap (λ (l : List (List ℕ)). l ++ why.more) grown.1 ∙ append_assoc b grown.0 why.more in
    inr (record {
      before = xs ++ why.before;
      command = why.command;
      after = why.after ++ zs;
      split = is ∙ ap (λ (l : List Command). xs ++ (l ++ zs)) why.split
          ∙ ap (λ (l : List Command). xs ++ l) (append_assoc why.before (why.command ∷ why.after) zs)
          ∙ sym (append_assoc xs why.before (why.command ∷ (why.after ++ zs)));
      more = grown.0 ++ why.more;
      rest = why.rest;
      held = why.held ∙ ap (λ (l : List (List ℕ)). l ++ why.rest) names;
      caused = subst (λ (l : List (List ℕ)). IsCausedAfter why.command t l now fault) names why.caused;
    })

-- ---- a loop over a list that is asked for part by part

module _ {X : Type 0} (of : List X → List Command) (spread : IsSpread of) (xs : List X) (i : ℕ) (item any : X) (lt : i < length xs)
    (at : item ≡ get_or xs i any) where
  pub up_to : of (take (i + 1) xs) ≡ of (take i xs) ++ of (item ∷ [])
  up_to = up_to_next of spread xs i any lt ∙ ap (λ (x : X). of (take i xs) ++ of (x ∷ [])) (sym at)

  all_of : of xs ≡ of (take i xs) ++ (of (item ∷ []) ++ of (drop (i + 1) xs))
  all_of = all_split of spread xs i any lt ∙ ap (λ (x : X). of (take i xs) ++ (of (x ∷ []) ++ of (drop (i + 1) xs))) (sym at)

  -- the next part after those so far
  pub making_more : {tells on next_on : Type 0} {Shown Next Then : List Reply → Type 0} (w v both : ℕ) (s t u : State) (b m n : List (List ℕ))
      (faults now then : ℕ) → both ≡ w + v → both ≤ most_drafted → IsMaking tells on (of (take i xs)) Shown w s t b m faults now
      → MakesPart tells (of (item ∷ [])) Next v t u m n → ((rest : List (List ℕ)) × (n ≡ m ++ rest)) → u.shape ≡ t.shape → next_on → now ≤ then
      → ((rs ts : List Reply) → Shown rs → LeavesEach (of (take i xs)) rs s.records t.records m → Next ts → Then (rs ++ ts))
      → IsMaking tells next_on (of (take (i + 1) xs)) Then both s u b n faults then
  making_more {tells} {on} {next_on} {Shown} {Next} {Then} w v both s t u b m n faults now then is few making part grown shape next later joins = record {
    part = subst (λ (cs : List Command). MakesPart tells cs Then both s u b n) (sym up_to)
        (part_then (of (take i xs)) (of (item ∷ [])) w v both s t u is few b m n grown making.shape joins making.part part);
    prefix = (making.prefix.0 ++ grown.0, grown.1 ∙ ap (λ (l : List (List ℕ)). l ++ grown.0) making.prefix.1 ∙ append_assoc b making.prefix.0 grown.0);
    shape = shape ∙ making.shape;
    onward_is = next;
    later = let a = making.later in omega arith;
  }

  -- a refusal of the next part is one of the whole list
  pub next_exit : {T tells : Type 0} {Shown : List Reply → Type 0} (w : ℕ) (s t : State) (b m : List (List ℕ)) (fault : ChangeFault)
      (out : Result T ChangeFault) → tells → IsStore s b → MakesPart tells (of (take i xs)) Shown w s t b m → t.shape ≡ s.shape
      → IsErrAnd out (λ y. y ≡ fault) → (IsStore t m → IsListRefusal t.shape.limit (graph_in t) (of (item ∷ [])) fault)
      → IfErr out (IsListRefusal s.shape.limit (graph_in s) (of xs))
  next_exit w s t b m fault out told store part shape gives refused =
      fault_exit (λ f. f) (IsListRefusal s.shape.limit (graph_in s) (of xs)) fault out gives
      (next_refused told s t (of (take i xs)) (of (item ∷ [])) (of (drop (i + 1) xs)) (of xs) w b m part store shape all_of fault refused)

  -- and so is the cause of one
  pub next_caused : {T : Type 0} (t : State) (b m now : List (List ℕ)) (fault : ChangeFault) (out : Result T ChangeFault)
      → ((more : List (List ℕ)) × (m ≡ b ++ more)) → IsErrAnd out (λ y. y ≡ fault) → IsListCaused (of (item ∷ [])) t m now fault
      → IfErr out (IsListCaused (of xs) t b now)
  next_caused t b m now fault out grown gives why = fault_exit (λ f. f) (IsListCaused (of xs) t b now) fault out gives
      (list_caused (of (take i xs)) (of (item ∷ [])) (of (drop (i + 1) xs)) (of xs) t b m now fault all_of grown why)

-- ---- whole lists

whole : (Is : Command → Type 0) (Alike : Graph → Graph → Type 0) (commands : List Command) (replies : List Reply) (weight told : ℕ) (s t : State)
    (names : List (List ℕ)) → Carries s.shape.limit s.shape.threshold Is Alike
    → Alike (graph_in s) (graph_in s) → AreAll Is commands → told ≡ min weight most_told → MakesList commands replies weight s t names
    → MakesChanges commands replies told s t names
whole Is Alike commands replies weight told s t names carries alike are is made =
    let limit = s.shape.limit in
    let threshold = s.shape.threshold in
    let g = graph_in s in
    record {
      store = made.store;
      changes = each_changes limit threshold g (graph_in t) commands replies weight made.each;
      total = weight;
      weighs = each_weighs limit threshold g (graph_in t) commands replies weight made.each;
      only = λ other weighs. weighs_once limit threshold Is Alike carries g g (graph_in t) commands replies weight other are alike made.each weighs;
      told = is;
      free = λ why. never_refused limit threshold Is Alike carries g g (graph_in t) commands replies weight why are alike made.each;
    }

pub edges_whole : (commands : List Command) (replies : List Reply) (weight told : ℕ) (s t : State) (names : List (List ℕ)) → AreAll IsNewEdge commands
    → told ≡ min weight most_told → MakesList commands replies weight s t names → MakesChanges commands replies told s t names
edges_whole commands replies weight told s t names are is made = whole IsNewEdge AreAlike commands replies weight told s t names
    (edge_carries s.shape.limit s.shape.threshold) (alike_self (graph_in s)) are is made

pub elements_whole : (commands : List Command) (replies : List Reply) (weight told : ℕ) (s t : State) (names : List (List ℕ)) → AreAll IsOfElement commands
    → told ≡ min weight most_told → MakesList commands replies weight s t names → MakesChanges commands replies told s t names
elements_whole commands replies weight told s t names are is made = whole IsOfElement (λ g h. g ≡ h) commands replies weight told s t names
    (element_carries s.shape.limit s.shape.threshold) refl are is made

-- a new node alone
node_whole : (label : List ℕ) (pairs : List Pair) (replies : List Reply) (weight told : ℕ) (s t : State) (names : List (List ℕ)) → told ≡ min weight most_told
    → MakesList (commands.Node label pairs ∷ []) replies weight s t names → MakesChanges (commands.Node label pairs ∷ []) replies told s t names
node_whole label pairs replies weight told s t names is made =
    let limit = s.shape.limit in
    let threshold = s.shape.threshold in
    let g = graph_in s in
    let list = commands.Node label pairs ∷ [] in
    let one = made.each in
    record {
      store = made.store;
      changes = each_changes limit threshold g (graph_in t) list replies weight one;
      total = weight;
      weighs = each_weighs limit threshold g (graph_in t) list replies weight one;
      only = λ other weighs.
          let same : weighs.0 ≡ one.1 = node_once threshold g label pairs weighs.0 one.1 weighs.5 one.7.weighs in
          let a = weighs.4 in
          let b = weighs.7 in
          let d = one.6 in
          let e = one.8.1 in
          omega (arith, same, a, b, d, e);
      told = is;
      free = λ why refused. reasons_apart change_reasons limit g g (commands.Node label pairs) why
          (reasons_same change_reasons limit g (commands.Node label pairs)) one.7.free (first_alone limit g label pairs why refused);
    }
  where
    first_alone : (limit : ℕ) (g : Graph) (label : List ℕ) (pairs : List Pair) (why : Refusal) → RefusesEach limit g (commands.Node label pairs ∷ []) why
        → FirstReason change_reasons limit g (commands.Node label pairs) why
    first_alone limit g label pairs why (inl first) = first
    first_alone limit g label pairs why (inr other) = absurd other.4

-- ---- what each mutation leaves

from_none : (shown start rest : List Item) → start ≡ [] → shown ≡ start ++ rest → shown ≡ rest
from_none shown start rest none is = is ∙ ap (λ (l : List Item). l ++ rest) none

module _ {tells : Type 0} (results shown start : List Item) (weight told : ℕ) (is : told ≡ min weight most_told) (s t : State) (b n : List (List ℕ)) where
  pub vertex_made : (label : List ℕ) (pairs : List Pair) → start ≡ [] → MakesPart tells (commands.Node label pairs ∷ [])
      (λ replies. shown ≡ start ++ new_elements (commands.Node label pairs ∷ []) replies) weight s t b n → tells → IsStore s b
      → MakesMutation (mutations.AddV label pairs) results shown told s t n
  vertex_made label pairs none part tells_it store =
      let made = part.made tells_it in (
        made.0,
        from_none shown start (new_elements (commands.Node label pairs ∷ []) made.0) none made.1,
        node_whole label pairs made.0 weight told s t n is
            (made.3 store),
      )

  pub edges_made : (label : List ℕ) (to : ℕ) (pairs : List Pair) → start ≡ []
      → MakesPart tells (changes_of (mutations.AddE label to pairs) results)
      (λ replies. shown ≡ start ++ new_elements (changes_of (mutations.AddE label to pairs) results) replies) weight s t b n → tells → IsStore s b
      → MakesMutation (mutations.AddE label to pairs) results shown told s t n
  edges_made label to pairs none part tells_it store =
      let made = part.made tells_it in
      let list = changes_of (mutations.AddE label to pairs) results in (
        made.0,
        from_none shown start (new_elements list made.0) none made.1,
        edges_whole list made.0 weight told s t n (edges_all label to pairs results)
            is (made.3 store),
      )

  pub values_made : (pairs : List Pair) → MakesPart tells (changes_of (mutations.Property pairs) results) any_replies weight s t b n → tells → IsStore s b
      → MakesMutation (mutations.Property pairs) results results told s t n
  values_made pairs part tells_it store =
      let made = part.made tells_it in
      (made.0, refl, elements_whole (changes_of (mutations.Property pairs) results) made.0 weight told s t n (items_all pairs results) is (made.3 store))

  pub drops_made : shown ≡ [] → MakesPart tells (changes_of mutations.Drop results) any_replies weight s t b n → tells → IsStore s b
      → MakesMutation mutations.Drop results shown told s t n
  drops_made none part tells_it store =
      let made = part.made tells_it in (
        made.0,
        none,
        elements_whole (changes_of mutations.Drop results) made.0 weight told s t n (deletions_all (targets_once [] (elements_of results)))
            is (made.3 store),
      )

-- ---- what each leaves of the records

-- the new elements are shown
pub shown_left : {tells : Type 0} (list : List Command) (shown start : List Item) (weight : ℕ) (s t : State) (b n : List (List ℕ)) → start ≡ []
    → MakesPart tells list (λ replies. shown ≡ start ++ new_elements list replies) weight s t b n → tells
    → (replies : List Reply) × (shown ≡ new_elements list replies) × LeavesEach list replies s.records t.records n
shown_left list shown start weight s t b n none part told =
    let made = part.made told in (made.0, from_none shown start (new_elements list made.0) none made.1, made.2)
