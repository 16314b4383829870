-- The names in memory begin with those of each graph that the disk may hold.
use Rattle.std.proofs.Common.{◌≡◌, ◌∙◌, ℕ, zero, suc, List, [], ◌∷◌, ◌++◌, Contains, append_assoc, refl, sym, ap, subst, arith}
use Rattle.std.proofs.lemmas.List.{append-nil}
use Rattle.disk_model.specs.declared.disk.Disk.{Ghosts}
use Rattle.plain_graph.specs.Graph.{Graph}
use Rattle.graph_session.specs.Console.{BeginWith, IsAt, SessionView}
use Rattle.graph_session.specs.State.{Admits, Failed, IsFailed, Live, Standing, State}
use Rattle.graph_session.proofs.Stands.{admits-only}

pub begin-same : (names old first : List (List ℕ)) → names ≡ old → BeginWith old first → BeginWith names first
begin-same names old first same begins = (begins.0, same ∙ begins.1)

pub begin-all : (names first : List (List ℕ)) → names ≡ first → BeginWith names first
begin-all names first same = ([], same ∙ sym (append-nil first))

-- and so do more names
pub begin-more : (names old first : List (List ℕ)) → BeginWith names old → BeginWith old first → BeginWith names first
begin-more names old first more begins = (
  begins.0 ++ more.0,
  more.1 ∙ ap (λ (known : List (List ℕ)). known ++ more.0) begins.1 ∙ append_assoc first begins.0
      more.0,
)

begin-of : (names : List (List ℕ)) (a graph : Graph) → a ≡ graph → BeginWith names a.names → BeginWith names graph.names
begin-of names a graph is = subst (λ (found : Graph). BeginWith names found.names) is

-- one graph is open
pub known-one : (names : List (List ℕ)) (a graph : Graph) → Contains (a ∷ []) graph → BeginWith names a.names → BeginWith names graph.names
known-one names a graph (zero, low, is) one = begin-of names a graph is one
known-one names a graph (suc k, low, is) one = absurd (omega (arith, low))

-- two are
pub known-two : (names : List (List ℕ)) (a b graph : Graph) → Contains (a ∷ b ∷ []) graph → BeginWith names a.names → BeginWith names b.names
    → BeginWith names graph.names
known-two names a b graph (zero, low, is) one other = begin-of names a graph is one
known-two names a b graph (suc zero, low, is) one other = begin-of names b graph is other
known-two names a b graph (suc (suc k), low, is) one other = absurd (omega (arith, low))

module _ {D : Type 0} {g : Ghosts D} {session : SessionView D} {state : State} (at : IsAt g session state) (told : g.tells_reads) where
  -- whatever the console stands like
  pub known-admitted : (graph : Graph) → Admits state graph → BeginWith session.console.names graph.names
  known-admitted graph admits = by state.standing refl
    where
      by : (standing : Standing) → state.standing ≡ standing → BeginWith session.console.names graph.names
      by Live live = begin-of session.console.names state.committed graph (sym (admits-only state graph live admits)) (at.holds told live).brought
      by (Failed graphs) failed = at.known told (subst IsFailed (sym failed) tt) graph admits
