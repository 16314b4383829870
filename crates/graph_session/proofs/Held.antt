-- What a live session holds.
use Rattle.std.proofs.Common.{◌≡◌, ◌∙◌, ℕ, Some, None, List, ◌++◌, length, take, sym, ap}
use Rattle.std.proofs.Math.Seq.{take-append_seam}
use Rattle.disk_model.specs.declared.disk.Disk.{Ghosts}
use Rattle.plain_graph.specs.Graph.{Graph}
use Rattle.rec_bytes.specs.Format.{names_file}
use Rattle.rec_bytes.specs.declared.key.Key.{Key}
use Rattle.rec_bytes.specs.declared.record.Rec.{Rec}
use Rattle.store_rules.specs.Graph.{graph_of, names_of}
use Rattle.store_rules.specs.Views.{high, rec_at, text_of}
use Rattle.store_rules.proofs.NameRows.{length-rows}
use Rattle.graph_session.specs.Console.{HoldsGraphs, IsAt, SessionView}
use Rattle.graph_session.specs.State.{State, Transaction, seen, seen_by}
use Rattle.graph_session.specs.declared.health.Health.TheVariants as healths
use Rattle.graph_session.proofs.Stands.{IsOneOf, own-one}
use Rattle.graph_session.proofs.States.{is_live}

-- a line sees the committed graph, or that of the open transaction
pub seen_closed : (state : State) → state.open_one ≡ None → seen state ≡ state.committed
seen_closed state none = ap (seen_by state.committed) none

pub seen_open : (state : State) (transaction : Transaction) → state.open_one ≡ Some transaction → seen state ≡ transaction.graph
seen_open state transaction is = ap (seen_by state.committed) is

-- as many names as were given out
pub length-names : (records : Key → Rec) → length (names_of records) ≡ high records names_file
length-names records = length-rows (λ x. text_of (rec_at records names_file x)) (high records names_file)

-- names that were brought are cut
pub take-brought : {E : Type 0} (names more : List E) (count : ℕ) → count ≡ length names → take count (names ++ more) ≡ names
take-brought names more count same = ap (λ n. take n (names ++ more)) same ∙ take-append_seam names more

module _ {D : Type 0} {g : Ghosts D} {session : SessionView D} {state : State} (at : IsAt g session state) (live : session.console.health ≡ healths.Live)
    (told : g.tells_reads) where
  pub held : HoldsGraphs session.console state
  held = at.holds told (is_live at live)

  -- the records of the last commit
  pub committed-one : IsOneOf state session.console.committed
  committed-one = own-one state session.console.committed (is_live at live) held.committed held.committed_graph

  -- those of the open transaction
  pub working-open : (transaction : Transaction) → state.open_one ≡ Some transaction → graph_of session.console.working ≡ transaction.graph
  working-open transaction is = held.working_graph ∙ seen_open state transaction is

  -- the names in memory are those of the records
  pub names-working : session.console.names ≡ names_of session.console.working
  names-working = held.names ∙ ap (λ (graph : Graph). graph.names) (sym held.working_graph)

  -- as many names as the last commit had
  pub names-cut : take (high session.console.committed names_file) session.console.names ≡ state.committed.names
  names-cut =
      let count : high session.console.committed names_file ≡ length state.committed.names = sym (length-names session.console.committed)
      ∙ ap (λ (graph : Graph). length graph.names) held.committed_graph in
      ap (take (high session.console.committed names_file)) held.brought.1
      ∙ take-brought state.committed.names held.brought.0 (high session.console.committed names_file) count
