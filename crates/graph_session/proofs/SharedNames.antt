-- A step of the console forgets no name, and stays at the shape.
use Rattle.std.proofs.Common.{◌≡◌, ◌⊎◌, ◌∙◌, ℕ, zero, suc, Bool, Option, Some, None, List, [], ◌∷◌, Contains, inl, inr, refl, sym, ap, subst, arith}
use Rattle.std.proofs.lemmas.List.{append-nil}
use Rattle.stream_io.specs.Lines.{Whole}
use Rattle.plain_graph.specs.Changes.{Changes}
use Rattle.plain_graph.specs.Graph.{Graph, UsesName}
use Rattle.plain_graph.specs.Kinds.{Blanks, Bound, Change, Ending, Kind, Question, Sight, Upkeep}
use Rattle.plain_graph.specs.LineChanges.{LineChanges, asked_changes}
use Rattle.plain_graph.specs.Lines.{kind_of}
use Rattle.plain_graph.specs.Mutations.{ChangesEach}
use Rattle.plain_graph.specs.Properties.{keys_in}
use Rattle.plain_graph.specs.Reply as replies
use Rattle.plain_graph.specs.Reply.{Fault, Reply}
use Rattle.plain_graph.specs.declared.command.Command.{Command}
use Rattle.plain_graph.specs.declared.command.Command.TheVariants as commands
use Rattle.plain_graph.specs.declared.command.Target.TheVariants as targets
use Rattle.change_parts.proofs.LineNames.{uses_prefix}
use Rattle.graph_session.specs.Console.{BeginWith}
use Rattle.graph_session.specs.Exchange.{CarriesKind, ConsoleStep, DoesUpkeep, IsDone, LeavesBound, LeavesChange}
use Rattle.graph_session.specs.Exchange.{LeavesKind, LeavesStore, MakesChange, MovesBound, Stops, failing}
use Rattle.graph_session.specs.Refusals.{SpellsOnly}
use Rattle.graph_session.specs.State.{Admits, Live, State, Transaction, admitted, graphs_from}
use Rattle.graph_session.proofs.Known.{begin-all}
use Rattle.graph_session.proofs.SnapshotLaws.{begin-on}
use Rattle.graph_session.proofs.Stands.{admits-own}

uses-begins : (old : List (List ℕ)) (name : List ℕ) (new : List (List ℕ)) → UsesName old name new → BeginWith new old
uses-begins old name new (inl known) = ([], known.1 ∙ sym (append-nil old))
uses-begins old name new (inr fresh) = (name ∷ [], fresh.1)

-- a change brings names, and takes none away
changes-begins : (limit : ℕ) (old : Graph) (command : Command) (reply : Reply) (new : Graph) → Changes limit old command reply new
    → BeginWith new.names old.names
changes-begins limit old (commands.Node label pairs) reply new (id, is, adds) = uses_prefix old.names (label ∷ keys_in pairs) new.names adds.names
changes-begins limit old (commands.Edge from label to pairs) reply new (id, is, adds) = uses_prefix old.names (label ∷ keys_in pairs) new.names adds.names
changes-begins limit old (commands.Set target key value) reply new (is, sets) = uses-begins old.names key new.names sets.names
changes-begins limit old (commands.Unset target key) reply new (is, unsets) = begin-all new.names old.names unsets.names
changes-begins limit old (commands.Delete (targets.Node id)) reply new (is, removes) = begin-all new.names old.names removes.names
changes-begins limit old (commands.Delete (targets.Edge id)) reply new (is, removes) = begin-all new.names old.names removes.names
changes-begins limit old (commands.Index label key) reply new (is, adds) = uses_prefix old.names (label ∷ key ∷ []) new.names adds.names
changes-begins limit old command reply new never = absurd never

-- and so do changes one after the other
each-begins : (limit : ℕ) (old : Graph) (commands : List Command) (replies : List Reply) (new : Graph) → ChangesEach limit old commands replies new
    → BeginWith new.names old.names
each-begins limit old [] replies new each = begin-all new.names old.names (ap (λ (graph : Graph). graph.names) each.1)
each-begins limit old (command ∷ later) replies new (reply, rest, between, are, changes, more) =
    begin-on new.names between.names old.names (each-begins limit between later rest new more) (changes-begins limit old command reply between changes)

-- and the line
line-begins : (limit : ℕ) (old : Graph) (command : Command) (reply : Reply) (new : Graph) → LineChanges limit old command reply new
    → BeginWith new.names old.names
line-begins limit old (commands.Mutate reading mutation) reply new (replies, is, each) =
    each-begins limit old (asked_changes old reading mutation) replies new each
line-begins limit old command reply new changes = changes-begins limit old command reply new changes

-- The shape stays, and each graph that is admitted has first the names of one that was.
pub record GoesOn (old new : State) : Type 0 where
  pub shape : new.shape ≡ old.shape
  pub names : (graph : Graph) → Admits new graph → (before : Graph) × Admits old before × BeginWith graph.names before.names

module _ (old : State) where
  pub on-same : {new : State} → new ≡ old → GoesOn old new
  on-same {new} same = subst (GoesOn old) (sym same) (record { shape = refl; names = λ graph admits. (graph, admits, begin-all graph.names graph.names refl) })

  -- these graphs are admitted from now on
  on-graphs : {new : State} (graphs : List Graph) → new.shape ≡ old.shape → admitted new ≡ graphs
      → ((graph : Graph) → Contains graphs graph → (before : Graph) × Admits old before × BeginWith graph.names before.names) → GoesOn old new
  on-graphs graphs shape are each = record { shape = shape; names = λ graph admits. each graph (subst (λ (xs : List Graph). Contains xs graph) are admits) }

  one-graph : (a : Graph) → (before : Graph) × Admits old before × BeginWith a.names before.names
      → (graph : Graph) → Contains (a ∷ []) graph → (before : Graph) × Admits old before × BeginWith graph.names before.names
  one-graph a one graph (zero, low, is) = subst (λ (found : Graph). (before : Graph) × Admits old before × BeginWith found.names before.names) is one
  one-graph a one graph (suc k, low, is) = absurd (omega (arith, low))

  two-graphs : (a b : Graph) → (before : Graph) × Admits old before × BeginWith a.names before.names → (before : Graph) × Admits old before
      × BeginWith b.names before.names
      → (graph : Graph) → Contains (a ∷ b ∷ []) graph → (before : Graph) × Admits old before × BeginWith graph.names before.names
  two-graphs a b one other graph (zero, low, is) = subst (λ (found : Graph). (before : Graph) × Admits old before × BeginWith found.names before.names) is one
  two-graphs a b one other graph (suc zero, low, is) = subst (λ (found : Graph). (before : Graph) × Admits old before × BeginWith found.names before.names) is
      other
  two-graphs a b one other graph (suc (suc k), low, is) = absurd (omega (arith, low))

  module _ (live : old.standing ≡ Live) where
    -- a graph that has first the names of the committed one
    after-own : (graph : Graph) → BeginWith graph.names old.committed.names → (before : Graph) × Admits old before × BeginWith graph.names before.names
    after-own graph begins = (old.committed, admits-own old live, begins)

    own : (before : Graph) × Admits old before × BeginWith old.committed.names before.names
    own = after-own old.committed (begin-all old.committed.names old.committed.names refl)

    -- it is committed
    on-commit : {new : State} (graph : Graph) (open_one : Option Transaction) → BeginWith graph.names old.committed.names
        → new ≡ record old { committed = graph; open_one = open_one } → GoesOn old new
    on-commit {new} graph open_one begins is =
        on-graphs (graph ∷ []) (ap (λ (s : State). s.shape) is)
        (ap admitted is ∙ ap (graphs_from graph) live) (one-graph graph (after-own graph begins))

    on-failing : {new : State} → new ≡ failing old (old.committed ∷ []) → GoesOn old new
    on-failing is = on-graphs (old.committed ∷ []) (ap (λ (s : State). s.shape) is) (ap admitted is) (one-graph old.committed own)

    on-doubt : {new : State} (graph : Graph) → BeginWith graph.names old.committed.names → new ≡ failing old (old.committed ∷ graph ∷ []) → GoesOn old new
    on-doubt graph begins is = on-graphs (old.committed ∷ graph ∷ []) (ap (λ (s : State). s.shape) is) (ap admitted is)
        (two-graphs old.committed graph own (after-own graph begins))

-- An open transaction has first the committed graph's names.
abbrev pub BringsNames : State → Type 0
BringsNames state = (transaction : Transaction) → state.open_one ≡ Some transaction → BeginWith transaction.graph.names state.committed.names

module _ (old : State) (line : List ℕ) (command : Command) (only : SpellsOnly line command) (served : (old.standing ≡ Live) ⊎ (command ≡ commands.Reopen))
    (brings : BringsNames old) (new : State) where
  -- a command of another kind than `reopen` is served live
  live-by : ¬ (command ≡ commands.Reopen) → old.standing ≡ Live
  live-by other = by served
    where
      by : (old.standing ≡ Live) ⊎ (command ≡ commands.Reopen) → old.standing ≡ Live
      by (inl live) = live
      by (inr is) = absurd (other is)

  -- one that the step names is this one
  live-at : (c : Command) → c ≡ command → ¬ (c ≡ commands.Reopen) → old.standing ≡ Live
  live-at c is other = live-by (λ e. other (is ∙ e))

  bound-goes : (c : Command) (reply : Reply) → c ≡ command → MovesBound old c reply new → GoesOn old new
  bound-goes commands.Begin reply is done = subst (GoesOn old) (sym done.1)
      (record { shape = refl; names = λ graph admits. (graph, admits, begin-all graph.names graph.names refl) })
  bound-goes commands.Commit reply is done = on-commit old (live-at commands.Commit is (λ e. cc)) done.1.graph None (brings done.1 done.2) done.3
  bound-goes commands.Rollback reply is done = subst (GoesOn old) (sym done.1)
      (record { shape = refl; names = λ graph admits. (graph, admits, begin-all graph.names graph.names refl) })
  bound-goes c reply is never = absurd never

  kept-goes : (c : Command) (reply : Reply) → DoesUpkeep old c reply new → GoesOn old new
  kept-goes commands.Checkpoint reply done = on-same old done.1
  kept-goes commands.Reopen reply (told, graph, admits, is) =
      on-graphs old (graph ∷ []) (ap (λ (s : State). s.shape) is) (ap admitted is) (one-graph old graph (graph, admits, begin-all graph.names graph.names refl))
  kept-goes c reply never = absurd never

  change-live : (c : Command) → c ≡ command → kind_of c ≡ Change → old.standing ≡ Live
  change-live c is kind = live-at c is (λ e. let clash : Change ≡ Upkeep = sym kind ∙ ap kind_of e in cc)

  change-goes : (c : Command) (reply : Reply) → c ≡ command → kind_of c ≡ Change → MakesChange old c reply new → GoesOn old new
  change-goes c reply is kind (inl (transaction, opened, graph, weight, changes, weighs, same)) =
      subst (GoesOn old) (sym same) (record { shape = refl; names = λ found admits. (found, admits, begin-all found.names found.names refl) })
  change-goes c reply is kind (inr (closed, graph, changes, same)) =
      on-commit old (change-live c is kind) graph old.open_one (line-begins old.shape.limit old.committed c reply graph changes) same

  carries-goes : (kind : Kind) (c : Command) (reply : Reply) → c ≡ command → kind_of c ≡ kind → CarriesKind kind old c reply new → GoesOn old new
  carries-goes Blanks c reply is kind never = absurd never
  carries-goes Ending c reply is kind never = absurd never
  carries-goes Bound c reply is kind done = bound-goes c reply is done
  carries-goes Upkeep c reply is kind done = kept-goes c reply done
  carries-goes Sight c reply is kind never = absurd never
  carries-goes Change c reply is kind done = change-goes c reply is kind done
  carries-goes Question c reply is kind done = on-same old done.4

  done-goes : (failed : Bool) (reply : Reply) → IsDone old (record { line = Whole line; disk_failed = failed; reply = reply }) new → GoesOn old new
  done-goes failed reply (accepted, c, spelled, carries) = carries-goes (kind_of c) c reply (only.only c spelled) refl carries

  left-bound : (c : Command) → c ≡ command → LeavesBound old c new → GoesOn old new
  left-bound commands.Commit is (transaction, opened, inl left) = on-failing old (live-at commands.Commit is (λ e. cc)) left
  left-bound commands.Commit is (transaction, opened, inr left) = on-doubt old (live-at commands.Commit is (λ e. cc)) transaction.graph
      (brings transaction opened) left
  left-bound c is never = absurd never

  left-store : (c : Command) → c ≡ command → LeavesStore old c new → GoesOn old new
  left-store commands.Checkpoint is left = on-failing old (live-at commands.Checkpoint is (λ e. cc)) left
  left-store commands.Reopen is left = on-graphs old (admitted old) (ap (λ (s : State). s.shape) left) (ap admitted left)
      (λ graph admits. (graph, admits, begin-all graph.names graph.names refl))
  left-store c is never = absurd never

  left-change : (c : Command) → c ≡ command → kind_of c ≡ Change → LeavesChange old (Whole line) c new → GoesOn old new
  left-change c is kind (inl (transaction, opened, same)) = on-same old same
  left-change c is kind (inr (closed, inl left)) = on-failing old (change-live c is kind) left
  left-change c is kind (inr (closed, inr (accepted, reply, graph, changes, left))) =
      on-doubt old (change-live c is kind) graph (line-begins old.shape.limit old.committed c reply graph changes) left

  left-goes : (kind : Kind) (c : Command) → c ≡ command → kind_of c ≡ kind → LeavesKind kind old (Whole line) c new → GoesOn old new
  left-goes Blanks c is kind never = absurd never
  left-goes Ending c is kind never = absurd never
  left-goes Bound c is kind left = left-bound c is left
  left-goes Upkeep c is kind left = left-store c is left
  left-goes Sight c is kind never = absurd never
  left-goes Change c is kind left = left-change c is kind left
  left-goes Question c is kind left = on-same old left

  stops-goes : (failed : Bool) (lines : List (List ℕ)) (fault : Fault) → Stops old (Whole line) failed lines fault new → GoesOn old new
  stops-goes failed lines replies.PastCount stops = on-same old stops.4
  stops-goes failed lines replies.NoMemory stops = on-same old stops.1
  stops-goes failed lines replies.DiskFailed (told, reached, c, spelled, shows, leaves) = left-goes (kind_of c) c (only.only c spelled) refl leaves
  stops-goes failed lines (replies.DamagedRecord file id) stops = absurd stops

  pub step-goes : (failed : Bool) (reply : Reply) → ConsoleStep old (record { line = Whole line; disk_failed = failed; reply = reply }) new → GoesOn old new
  step-goes failed replies.Silent step = on-same old step.1
  step-goes failed replies.Done step = done-goes failed replies.Done step
  step-goes failed (replies.NodeMade id) step = done-goes failed (replies.NodeMade id) step
  step-goes failed (replies.EdgeMade id) step = done-goes failed (replies.EdgeMade id) step
  step-goes failed (replies.Told lines last) step = done-goes failed (replies.Told lines last) step
  step-goes failed (replies.Faulted lines fault) step = stops-goes failed lines fault step
  step-goes failed (replies.Refused why) step = on-same old step.1
