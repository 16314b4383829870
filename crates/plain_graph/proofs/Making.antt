-- A list of changes that are made one after the other.
use Rattle.std.proofs.Common.{◌≡◌, ◌∙◌, ℕ, ◌+◌, List, [], ◌∷◌, ◌++◌, inl, inr, ⊎_elim, append_assoc, sym, ap, subst, arith}
use Rattle.plain_graph.specs.Changes.{Changes, Weighs}
use Rattle.plain_graph.specs.Graph.{Graph}
use Rattle.plain_graph.specs.Refusals.{FirstReason, NoReason, Reason, change_reasons}
use Rattle.plain_graph.specs.Reply.{Reply}
use Rattle.plain_graph.specs.declared.command.Command.{Command}
use Rattle.plain_graph.specs.declared.item.Item.{Item}
use Rattle.plain_graph.specs.declared.refusal.Refusal.{Refusal}
use Rattle.plain_graph.specs.Mutations.{ChangesEach, MakesEach, RefusesEach, WeighsEach, new_element, new_elements}

module _ (limit threshold : ℕ) where
  pub each_changes : (old new : Graph) (commands : List Command) (replies : List Reply) (weight : ℕ) → MakesEach limit threshold old commands replies weight new
      → ChangesEach limit old commands replies new
  each_changes old new [] replies weight made = (made.0, made.2)
  each_changes old new (command ∷ later) replies weight made = (
    made.0,
    made.3,
    made.2,
    made.5,
    made.7.changes,
    each_changes made.2 new later made.3 made.4
        made.8,
  )

  pub each_weighs : (old new : Graph) (commands : List Command) (replies : List Reply) (weight : ℕ) → MakesEach limit threshold old commands replies weight new
      → WeighsEach limit threshold old commands weight
  each_weighs old new [] replies weight made = made.1
  each_weighs old new (command ∷ later) replies weight made = (
    made.1,
    made.4,
    made.0,
    made.2,
    made.6,
    made.7.weighs,
    made.7.changes,
    each_weighs made.2 new
        later made.3 made.4 made.8,
  )

-- ---- one list and then another

-- the first command changes the graph, and one after it is refused
abbrev RefusesLater : ℕ → Graph → Command → List Command → Refusal → Type 0
RefusesLater limit old command later why =
    NoReason change_reasons limit old command × (reply : Reply) × (between : Graph) × Changes limit old command reply between
    × RefusesEach limit between later why

module _ (limit threshold : ℕ) where
  pub each_then : (old mid new : Graph) (xs ys : List Command) (rs ts : List Reply) (w v : ℕ) → MakesEach limit threshold old xs rs w mid
      → MakesEach limit threshold mid ys ts v new
      → MakesEach limit threshold old (xs ++ ys) (rs ++ ts) (w + v) new
  each_then old mid new [] ys rs ts w v made next =
      let none = made.1 in
      let sum : v ≡ w + v = omega arith in
      subst (λ (n : ℕ). MakesEach limit threshold old ys (rs ++ ts) n new) sum
      (subst (λ (r : List Reply). MakesEach limit threshold old ys (r ++ ts) v new) (sym made.0) (subst (λ (g : Graph). MakesEach limit threshold g ys ts v new)
      made.2 next))
  each_then old mid new (command ∷ later) ys rs ts w v made next = (
    made.0,
    made.1,
    made.2,
    made.3 ++ ts,
    made.4 + v,
    ap (λ (r : List Reply). r ++ ts) made.5,
    let s = made.6 in omega arith,
    made.7,
    each_then made.2 mid new later ys made.3 ts made.4 v made.8 next,
  )

  -- what refuses the second list in the graph that the first left refuses both
  pub refuses_then : (old mid : Graph) (xs ys : List Command) (rs : List Reply) (w : ℕ) (why : Refusal) → MakesEach limit threshold old xs rs w mid
      → RefusesEach limit mid ys why → RefusesEach limit old (xs ++ ys) why
  refuses_then old mid [] ys rs w why made refused = subst (λ (g : Graph). RefusesEach limit g ys why) made.2 refused
  refuses_then old mid (command ∷ later) ys rs w why made refused = inr
      (made.7.free, made.0, made.2, made.7.changes, refuses_then made.2 mid later ys made.3 made.4 why made.8 refused)

  -- what refuses a list refuses a longer one
  pub refuses_more : (old : Graph) (xs ys : List Command) (why : Refusal) → RefusesEach limit old xs why → RefusesEach limit old (xs ++ ys) why
  refuses_more old [] ys why refused = absurd refused
  refuses_more old (command ∷ later) ys why refused =
      ⊎_elim (λ (first : FirstReason change_reasons limit old command why). inl first)
      (λ (other : RefusesLater limit old command later why).
      inr (other.0, other.1, other.2, other.3, refuses_more other.2 later ys why other.4))
      refused

  pub elements_then : (old mid : Graph) (xs ys : List Command) (rs ts : List Reply) (w : ℕ) → MakesEach limit threshold old xs rs w mid
      → new_elements (xs ++ ys) (rs ++ ts) ≡ new_elements xs rs ++ new_elements ys ts
  elements_then old mid [] ys rs ts w made = ap (λ (r : List Reply). new_elements ys (r ++ ts)) made.0
  elements_then old mid (command ∷ later) ys rs ts w made =
      let head = new_element command made.0 in
      ap (λ (r : List Reply). new_elements (command ∷ later ++ ys) (r ++ ts)) made.5
      ∙ ap (λ (es : List Item). head ++ es) (elements_then made.2 mid later ys made.3 ts made.4 made.8)
      ∙ sym (append_assoc head (new_elements later made.3) (new_elements ys ts))
      ∙ ap (λ (r : List Reply). new_elements (command ∷ later) r ++ new_elements ys ts) (sym made.5)

-- ---- one path stands for all

-- all commands are of this kind
abbrev pub AreAll : (Command → Type 0) → List Command → Type 0
AreAll Is [] = Unit {0}
AreAll Is (command ∷ later) = Is command × AreAll Is later

-- Graphs that are alike stay so by a command, which then has the same refusals and weight in both.
pub record Carries (limit threshold : ℕ) (Is : Command → Type 0) (Alike : Graph → Graph → Type 0) : Type 1 where
  pub on : (command : Command) (g h new other : Graph) (reply told : Reply) → Is command → Alike g h → Changes limit g command reply new
      → Changes limit h command told other → Alike new other
  pub apart : (command : Command) (g h : Graph) (why : Refusal) → Is command → Alike g h → NoReason change_reasons limit g command
      → FirstReason change_reasons limit h command why → ⊥
  pub same : (command : Command) (g h : Graph) (a b : ℕ) → Is command → Alike g h → Weighs threshold g command a → Weighs threshold h command b → a ≡ b

module _ (limit threshold : ℕ) (Is : Command → Type 0) (Alike : Graph → Graph → Type 0) (carries : Carries limit threshold Is Alike) where
  -- a list that was made is refused by no reason, whatever identifiers the changes take
  pub never_refused : (g h new : Graph) (commands : List Command) (replies : List Reply) (weight : ℕ) (why : Refusal) → AreAll Is commands → Alike g h
      → MakesEach limit threshold g commands replies weight new
      → ¬ RefusesEach limit h commands why
  never_refused g h new [] replies weight why are alike made refused = refused
  never_refused g h new (command ∷ later) replies weight why are alike made refused =
      ⊎_elim (λ (first : FirstReason change_reasons limit h command why). carries.apart command g h why are.0 alike made.7.free first)
      (λ (other : RefusesLater limit h command later why).
      never_refused made.2 other.2 new later made.3 made.4 why are.1 (carries.on command g h made.2 other.2 made.0 other.1 are.0 alike made.7.changes other.3)
      made.8 other.4)
      refused

  -- and weighs nothing else
  pub weighs_once : (g h new : Graph) (commands : List Command) (replies : List Reply) (weight other : ℕ) → AreAll Is commands → Alike g h
      → MakesEach limit threshold g commands replies weight new → WeighsEach limit threshold h commands other
      → other ≡ weight
  weighs_once g h new [] replies weight other are alike made weighs = weighs ∙ sym made.1
  weighs_once g h new (command ∷ later) replies weight other are alike made weighs =
      let head = carries.same command g h made.1 weighs.0 are.0 alike made.7.weighs weighs.5 in
      let tail = weighs_once made.2 weighs.3 new later made.3 made.4 weighs.1 are.1
      (carries.on command g h made.2 weighs.3 made.0 weighs.2 are.0 alike made.7.changes weighs.6) made.8 weighs.7 in
      let a = made.6 in
      let b = weighs.4 in
      omega (arith, head, tail, a, b)

-- ---- reasons

-- each of these reasons holds in the one graph where it does in the other
abbrev pub HoldAlike : List Reason → ℕ → Graph → Graph → Command → Type 0
HoldAlike [] limit g h command = Unit {0}
HoldAlike (reason ∷ later) limit g h command = ((why : Refusal) → reason limit h command why → reason limit g command why) × HoldAlike later limit g h command

pub reasons_apart : (reasons : List Reason) (limit : ℕ) (g h : Graph) (command : Command) (why : Refusal) → HoldAlike reasons limit g h command
    → NoReason reasons limit g command → ¬ FirstReason reasons limit h command why
reasons_apart [] limit g h command why alike none first = first
reasons_apart (reason ∷ later) limit g h command why alike none first =
    ⊎_elim (λ (holds : reason limit h command why). none.0 why (alike.0 why holds))
    (λ (other : ((o : Refusal) → ¬ reason limit h command o) × FirstReason later limit h command why). reasons_apart later limit g h command why alike.1 none.1
    other.1)
    first

pub reasons_same : (reasons : List Reason) (limit : ℕ) (g : Graph) (command : Command) → HoldAlike reasons limit g g command
reasons_same [] limit g command = tt
reasons_same (reason ∷ later) limit g command = (λ why holds. holds, reasons_same later limit g command)
