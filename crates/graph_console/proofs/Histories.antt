-- The committed graph of a state is that of the last transaction of the run that leads to it.
use Rattle.std.proofs.Common.{◌≡◌, ◌∙◌, List, [], ◌∷◌, ◌++◌, inl, inr, refl, sym, ap}
use Rattle.plain_graph.specs.Graph.{Graph}
use Rattle.graph_session.specs.Exchange.{Exchange}
use Rattle.graph_session.specs.Snapshots.{SharedState}
use Rattle.graph_session.specs.State.{State}
use Rattle.graph_console.specs.History.{Adds, Transactions, last_graph}
use Rattle.graph_console.specs.Run.{Run}

-- the last of some graphs and others is the last of the others, after the last of the first
last_more : (start : Graph) (more rest : List Graph) → last_graph start (more ++ rest) ≡ last_graph (last_graph start more) rest
last_more start [] rest = refl
last_more start (graph ∷ more) rest = last_more graph more rest

-- what an exchange adds ends in the committed graph
adds_last : (old : State) (x : Exchange) (new : State) (graphs : List Graph) → Adds old x new graphs → new.committed ≡ last_graph old.committed graphs
adds_last old x new graphs (inl adds) = sym (ap (last_graph old.committed) adds.1)
adds_last old x new graphs (inr (inl adds)) = sym (ap (last_graph old.committed) adds.2)
adds_last old x new graphs (inr (inr adds)) = adds.1 ∙ sym (ap (last_graph old.committed) adds.2)

pub transactions_last : (tells : Type 0) (first : SharedState) (run : List Exchange) (last : SharedState) (graphs : List Graph)
    → Transactions tells first run last graphs → last.writer.committed ≡ last_graph first.writer.committed graphs
transactions_last tells first [] last graphs made = ap (λ (s : SharedState). s.writer.committed) made.0 ∙ sym (ap (last_graph first.writer.committed) made.1)
transactions_last tells first (x ∷ later) last graphs made =
    let next : SharedState = made.0 in
    transactions_last tells next later last made.3 made.5
    ∙ ap (λ (graph : Graph). last_graph graph made.3) (adds_last first.writer x next.writer made.2 made.4)
    ∙ sym (last_more first.writer.committed made.2 made.3)
    ∙ sym (ap (last_graph first.writer.committed) made.6)

pub transactions_run : (tells : Type 0) (first : SharedState) (run : List Exchange) (last : SharedState) (graphs : List Graph)
    → Transactions tells first run last graphs → Run tells first run last
transactions_run tells first [] last graphs made = made.0
transactions_run tells first (x ∷ later) last graphs made = (made.0, made.1, transactions_run tells made.0 later last made.3 made.5)
