-- A session whose disk failed before anything was written: what was committed is so alone.
use Rattle.std.proofs.Common.{◌≡◌, ◌∙◌, Contains, refl, sym, subst}
use Rattle.disk_model.specs.Contents.{Files}
use Rattle.disk_model.specs.declared.disk.Disk.{Ghosts}
use Rattle.plain_graph.specs.Graph.{Graph}
use Rattle.graph_session.specs.Console.{IsAt, SessionView}
use Rattle.graph_session.specs.Effects.{FailsDrafted, FailsRead}
use Rattle.graph_session.specs.Moments.{ComesTo}
use Rattle.graph_session.specs.Stands.{HoldsAdmitted, IsAdmitted}
use Rattle.graph_session.specs.State.{Admits, Standing, State, graphs_from}
use Rattle.graph_session.specs.declared.health.Health.TheVariants as healths
use Rattle.graph_session.proofs.Held.{held}
use Rattle.graph_session.proofs.Known.{begin-all, begin-more, known-one}
use Rattle.graph_session.proofs.States.{is_live}
use Rattle.graph_session.proofs.Staying.{crash-kept, images-kept, reads-kept}
use Rattle.graph_session.proofs.Storage.{stopped}

-- one that brought no names
pub fails-drafted : {D : Type 0} {g : Ghosts D} {old new : SessionView D} → FailsRead g old new → FailsDrafted g old new
fails-drafted {old = old} {new = new} fails = record {
  ends = fails.ends;
  health = fails.health;
  live = fails.live;
  brought = begin-all new.console.names
      old.console.names fails.names;
  disk = fails.disk;
}

module _ {D : Type 0} {g : Ghosts D} {old : SessionView D} {state : State} (at : IsAt g old state) (live : old.console.health ≡ healths.Live) where
  -- what is admitted is the committed graph, which stays open
  stopped-admits : (graph : Graph) → Admits state graph → Admits (stopped state) graph
  stopped-admits graph admits = subst (λ (standing : Standing). Contains (graphs_from state.committed standing) graph) (is_live at live) admits

  stopped-held : (content : Files) → HoldsAdmitted state content → HoldsAdmitted (stopped state) content
  stopped-held content had = (had.0, stopped-admits had.0 had.1, had.2)

  stopped-admitted : (content : Files) → IsAdmitted state content → IsAdmitted (stopped state) content
  stopped-admitted content had = (had.0, stopped-admits had.0 had.1, had.2)

module _ {D : Type 0} {g : Ghosts D} {old new : SessionView D} {state : State} (at : IsAt g old state) (live : old.console.health ≡ healths.Live)
    (fails : FailsDrafted g old new) where
  fails-at : IsAt g new (stopped state)
  fails-at = record {
    shape = at.shape ∙ sym fails.ends.shape;
    health = fails.health;
    opened = sym fails.ends.is_open;
    weight = λ other none. cc;
    no_draft = fails.ends.no_draft;
    closed = λ failed. refl;
    holds = λ told stands. cc;
    known = λ told failed graph admits.
        known-one new.console.names state.committed graph admits (begin-more new.console.names old.console.names state.committed.names fails.brought
        (held at live told).brought);
    reads = λ told. stopped-held at live (g.reads new.disk) (reads-kept at new.disk fails.disk told);
    images = λ told image left. stopped-admitted at live image (images-kept at new.disk fails.disk told image left);
  }

  -- it comes to the state in which the committed graph alone is open
  pub comes-fails : ComesTo g old new state (stopped state)
  comes-fails = record { is_at = fails-at; crash = crash-kept at (stopped state) new.disk fails.disk }
