-- The results of a run, taken one by one until its end.
use Rattle.std.proofs.Common.{◌≡◌, ◌∙◌, ℕ, None, List, [], ◌∷◌, ◌++◌, append_assoc, refl, sym, ap, subst, arith}
use Rattle.std.proofs.lemmas.List.{append-nil}
use Rattle.std.specs.List.{AllByRecursion}
use Rattle.plain_graph.specs.Forms.{IsShown}
use Rattle.plain_graph.specs.Graph.{Graph}
use Rattle.plain_graph.specs.declared.item.Item.{Item}
use Rattle.rec_bytes.specs.Space.{State}
use Rattle.rec_bytes.specs.declared.space.Reads.{Ghosts as SpaceGhosts}
use Rattle.store_rules.specs.Graph.{graph_of}
use Rattle.traversal_run.specs.Reading.{IsNamedStore, IsRead}
use Rattle.traversal_run.specs.Row.{Stream, stream, with_first}
use Rattle.traversal_run.specs.Run.{stopped_by, to_come}
use Rattle.traversal_run.specs.declared.run.Run.{Run}
use Rattle.traversal_run.proofs.OnlyReads.{is_read-on, named-read}

all_end : (P : Item → Type 0) (items : List Item) (item : Item) → AllByRecursion P items → P item → AllByRecursion P (items ++ item ∷ [])
all_end P [] item all has = (has, tt)
all_end P (first ∷ items) item all has = (all.0, all_end P items item all.1 has)

-- Some results of a run were found, and the run has the others.
pub record IsTaking {R : Type 0} (space : SpaceGhosts R) (names : List (List ℕ)) (first : Run) (old now : R) (found : List Item) (run : Run) : Type 0 where
  pub coming : space.tells → IsNamedStore (space.state old).records (space.state old).shape names
      → (to_come (graph_of (space.state old).records) first).items ≡ found ++ (to_come (graph_of (space.state old).records) run).items
  pub shown : AllByRecursion IsShown found
  pub goes : stopped_by run ≡ None
  pub read : IsRead space old now

-- nothing was found yet
pub taking-first : {R : Type 0} (space : SpaceGhosts R) (names : List (List ℕ)) → ((a : R) → space.onward a a) → (r : R) (run : Run) → stopped_by run ≡ None
    → IsTaking space names run r r [] run
taking-first space names stays r run goes = record {
  coming = λ tells store. refl;
  shown = tt;
  goes = goes;
  read = record { same = refl; onward = stays r; later = omega arith };
}

module _ {R : Type 0} (space : SpaceGhosts R) (names : List (List ℕ)) (first : Run)
    (further : (a b c : R) → space.onward a b → space.onward b c → space.onward a c) (old now : R) (found : List Item) (run : Run)
    (taking : IsTaking space names first old now found run) where
  -- what the run says of the records as they are now, it says of those at the start
  at_start : (P : Graph → Type 0) → (space.tells → IsNamedStore (space.state now).records (space.state now).shape names → P
      (graph_of (space.state now).records))
      → space.tells → IsNamedStore (space.state old).records (space.state old).shape names → P (graph_of (space.state old).records)
  at_start P says tells store = subst (λ (s : State). P (graph_of s.records)) taking.read.same (says tells (named-read space old now names taking.read store))

  -- a result was found
  pub taking-on : (next : R) → IsRead space now next → (later : Run) (item : Item)
      → (space.tells → IsNamedStore (space.state now).records (space.state now).shape names → to_come (graph_of (space.state now).records) run ≡ with_first
      (item ∷ []) (to_come (graph_of (space.state now).records) later))
      → IsShown item → stopped_by later ≡ None → IsTaking space names first old next (found ++ item ∷ []) later
  taking-on next reads later item comes shown goes = record {
    coming = λ tells store.
        let is : to_come (graph_of (space.state old).records) run ≡ with_first (item ∷ []) (to_come (graph_of (space.state old).records) later) =
        at_start (λ graph. to_come graph run ≡ with_first (item ∷ []) (to_come graph later)) comes tells store in
        taking.coming tells store ∙ ap (λ (s : Stream). found ++ s.items) is
        ∙ sym (append_assoc found (item ∷ []) (to_come (graph_of (space.state old).records) later).items);
    shown = all_end IsShown found item taking.shown shown;
    goes = goes;
    read = is_read-on space further old now next taking.read reads;
  }

  -- all results were found
  pub taking-end : (space.tells → IsNamedStore (space.state now).records (space.state now).shape names → to_come (graph_of (space.state now).records)
      run ≡ stream [])
      → space.tells → IsNamedStore (space.state old).records (space.state old).shape names → found ≡ (to_come (graph_of (space.state old).records) first).items
  taking-end ends tells store =
      let is : to_come (graph_of (space.state old).records) run ≡ stream [] = at_start (λ graph. to_come graph run ≡ stream []) ends tells store in
      sym (taking.coming tells store ∙ ap (λ (s : Stream). found ++ s.items) is ∙ append-nil found)
