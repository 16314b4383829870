-- An element that a line shows: what it is told, and why it isn't.
use Rattle.std.proofs.Common.{◌≡◌, ◌∙◌, ℕ, Bool, true, false, ◌||◌, cond, Option, None, Some, List, [], ◌∷◌, ◌++◌, nat_eq, find, inl, refl, sym, ap, subst}
use Rattle.std.specs.List.{list_any}
use Rattle.std.specs.Option.{option_map}
use Rattle.stream_io.specs.declared.streams.Sink.{Ghosts as SinkGhosts}
use Rattle.plain_graph.specs.ElementMaps.{element_map, making_text}
use Rattle.plain_graph.specs.Graph.{Graph, edge_number, node_number}
use Rattle.plain_graph.specs.Lines.{asked_of, item_at, one_line}
use Rattle.plain_graph.specs.Meaning.{edge_item, vertex_of}
use Rattle.plain_graph.specs.Reply.{prefixed_text}
use Rattle.plain_graph.specs.declared.command.Command.TheVariants as commands
use Rattle.plain_graph.specs.declared.command.Target.{Target}
use Rattle.plain_graph.specs.declared.command.Target.TheVariants as targets
use Rattle.plain_graph.specs.declared.element_map.ElementMap.{ElementMap}
use Rattle.plain_graph.specs.declared.item.Item.{Item}
use Rattle.plain_graph.specs.declared.item.Item.TheVariants as items
use Rattle.rec_bytes.specs.declared.fault.Fault.TheVariants as faults
use Rattle.rec_bytes.specs.declared.space.Reads.{Ghosts as SpaceGhosts}
use Rattle.store_rules.specs.Graph.{graph_of}
use Rattle.traversal_run.specs.Reading.{IsRead}
use Rattle.traversal_run.specs.Viewing.{view_of}
use Rattle.graph_session.specs.Answer.{Gives}
use Rattle.graph_session.specs.Answering.{reply_of}
use Rattle.graph_session.specs.MayStep.{TellsMissing}
use Rattle.graph_session.specs.Questions.{GivesReading}
use Rattle.graph_session.specs.Views.{IsViewAnswer, IsViewRefusal, MakesElement, no_element}
use Rattle.graph_session.specs.declared.answer.Answer.{Answer}
use Rattle.graph_session.specs.declared.answer.Answer.TheVariants as answers
use Rattle.graph_session.specs.declared.turn.Turn.{Turn}
use Rattle.graph_session.proofs.NodeQuestions.{AsksElements, elements-asked, gives-missing, gives-told}
use Rattle.graph_session.proofs.Questioned.{OfStore, asks-damaged, asks-disk, asks-memory}
use Rattle.graph_session.proofs.Reasons.{AsksSome, HasElements, LacksElement}

-- ---- what is there

-- the element is there where one is found
any-found : {E : Type 0} (test : E → Bool) (xs : List E) (e : E) → find test xs ≡ Some e → list_any test xs ≡ true
any-found test [] e is = absurd cc
any-found test (x ∷ xs) e is = by (test x) (λ more. any-found test xs e more) is
  where
    by : (b : Bool) → (find test xs ≡ Some e → list_any test xs ≡ true) → cond b (Some x) (find test xs) ≡ Some e → (b || list_any test xs) ≡ true
    by true later is = refl
    by false later is = later is

any-unfound : {E : Type 0} (test : E → Bool) (xs : List E) → find test xs ≡ None → list_any test xs ≡ false
any-unfound test [] is = refl
any-unfound test (x ∷ xs) is = by (test x) (λ more. any-unfound test xs more) is
  where
    by : (b : Bool) → (find test xs ≡ None → list_any test xs ≡ false) → cond b (Some x) (find test xs) ≡ None → (b || list_any test xs) ≡ false
    by true later is = absurd cc
    by false later is = later is

-- what is mapped is there where the other is
mapped-some : {A B : Type 0} (f : A → B) (o : Option A) (b : B) → option_map f o ≡ Some b → (a : A) × (o ≡ Some a)
mapped-some f None b is = absurd cc
mapped-some f (Some a) b is = (a, refl)

mapped-none : {A B : Type 0} (f : A → B) (o : Option A) → option_map f o ≡ None → o ≡ None
mapped-none f None is = refl
mapped-none f (Some a) is = absurd cc

view-has : (graph : Graph) (target : Target) (item : Item) → item_at graph target ≡ Some item → HasElements graph (asked_of (commands.View target))
view-has graph (targets.Node id) item is =
    let found = mapped-some vertex_of (find (λ node. nat_eq (node_number node) id) graph.nodes) item is in
    any-found (λ node. nat_eq (node_number node) id) graph.nodes found.0 found.1
view-has graph (targets.Edge id) item is =
    let found = mapped-some edge_item (find (λ edge. nat_eq (edge_number edge) id) graph.edges) item is in
    any-found (λ edge. nat_eq (edge_number edge) id) graph.edges found.0 found.1

view-lacks : (graph : Graph) (target : Target) → item_at graph target ≡ None → LacksElement graph (asked_of (commands.View target)) (no_element target)
view-lacks graph (targets.Node id) is = (
  any-unfound (λ node. nat_eq (node_number node) id) graph.nodes (mapped-none vertex_of
      (find (λ node. nat_eq (node_number node) id) graph.nodes) is),
  refl,
)
view-lacks graph (targets.Edge id) is = (
  any-unfound (λ edge. nat_eq (edge_number edge) id) graph.edges (mapped-none edge_item
      (find (λ edge. nat_eq (edge_number edge) id) graph.edges) is),
  refl,
)

-- an element that is viewed is the one that is named, and none is where there is none
viewed-item : (graph : Graph) (target : Target) (item : Item) (element : ElementMap) → view_of graph target ≡ Some (item, element)
    → (item_at graph target ≡ Some item) × (element ≡ element_map graph [] item)
viewed-item graph target item element is = by (item_at graph target) is
  where
    by : (o : Option Item) → option_map {U = Item × ElementMap} (λ own. (own, element_map graph [] own)) o ≡ Some (item, element) → (o ≡ Some item)
        × (element ≡ element_map graph [] item)
    by None is = absurd cc
    by (Some own) is =
        let first : Item × ElementMap = (own, element_map graph [] own) in
        let row : Item × ElementMap = (item, element) in
        let both : first ≡ row = some_same is in (
          ap (λ (row : Item × ElementMap). Some row.0) both,
          sym (ap (λ (row : Item × ElementMap). row.1) both) ∙ ap (λ (row : Item × ElementMap).
              element_map graph [] row.0) both,
        )
      where
        some_same : {a b : Item × ElementMap} → Some a ≡ Some b → a ≡ b
        some_same e = cc

-- ---- the line that asks for one

view-some : (target : Target) → AsksSome (asked_of (commands.View target))
view-some (targets.Node id) = tt
view-some (targets.Edge id) = tt

view-tells : (target : Target) → TellsMissing (asked_of (commands.View target)) (no_element target)
view-tells (targets.Node id) = (id, refl)
view-tells (targets.Edge id) = refl

asks-view : (target : Target) → AsksElements (commands.View target)
asks-view target =
    let none : ElementMap = record { label = None; pairs = [] } in
    record { question = tt; some = view-some target; reading = one_line (making_text (items.Vertex 0) none); formed = (items.Vertex 0, none, refl) }

module _ {R K : Type 0} {space : SpaceGhosts R} {sink : SinkGhosts K} {names : List (List ℕ)} (target : Target) {a b : R} (read : IsRead space a b)
    {prefix : List ℕ} {before after : K} {turn : Turn} where
  -- the element was told
  pub gives-viewed : (line : List ℕ) (made : MakesElement space names target a line) → Gives sink (prefix ++ line) before after turn
      → GivesReading space sink names (commands.View target) prefix a b before after turn
  gives-viewed line made gives =
      gives-told (asks-view target) read (one_line (making_text made.item made.element)) (made.item, made.element, refl) refl
      (λ told store. view-has (graph_of (space.state a).records) target made.item (viewed-item (graph_of (space.state a).records) target made.item made.element
      (made.viewed told store)).0)
      (λ told store.
      let is = viewed-item (graph_of (space.state a).records) target made.item made.element (made.viewed told store) in
      (made.item, is.0, ap (λ (element : ElementMap). one_line (making_text made.item element)) is.1))
      (subst (λ (text : List ℕ). Gives sink (prefix ++ text) before after turn) made.is gives)

  -- it wasn't
  pub gives-unviewed : (answer : Answer) → IsViewAnswer space target a b answer → OfStore space names a (λ graph. IsViewRefusal graph target answer)
      → Gives sink (prefixed_text prefix (reply_of answer)) before after turn
      → GivesReading space sink names (commands.View target) prefix a b before after turn
  gives-unviewed answers.Done is refused gives = absurd is
  gives-unviewed (answers.NodeMade id) is refused gives = absurd is
  gives-unviewed (answers.EdgeMade id) is refused gives = absurd is
  gives-unviewed (answers.Results results) is refused gives = absurd is
  gives-unviewed (answers.Refused why) is refused gives =
      gives-missing (asks-view target) read why (subst (TellsMissing (asked_of (commands.View target))) (sym is) (view-tells target))
      (λ told store.
      subst (LacksElement (graph_of (space.state a).records) (asked_of (commands.View target))) (sym is)
      (view-lacks (graph_of (space.state a).records) target (refused told store))) gives
  gives-unviewed (answers.Fault faults.Memory) is refused gives = asks-memory (elements-asked (asks-view target)) read gives
  gives-unviewed (answers.Fault faults.Disk) is refused gives = asks-disk (elements-asked (asks-view target)) read is gives
  gives-unviewed (answers.Fault (faults.Damaged damage)) is refused gives =
      asks-damaged (elements-asked (asks-view target)) read damage (λ told. inl (is told)) gives
