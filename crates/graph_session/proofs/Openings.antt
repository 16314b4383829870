-- What the opening of a session leaves: contents from before, or contents that stand for the graph that it begins with.
use Rattle.std.proofs.Common.{◌≡◌, ◌⊎◌, ◌∙◌, inl, inr, sym, ap, subst}
use Rattle.disk_model.specs.Contents.{Files}
use Rattle.disk_model.specs.Spans.{AtEachMoment}
use Rattle.disk_model.specs.declared.disk.Disk.{Ghosts}
use Rattle.disk_model.proofs.Spans.{at_each_moment_weaker}
use Rattle.plain_graph.specs.Graph.{Graph}
use Rattle.rec_bytes.specs.Creation.{own_key, raised}
use Rattle.rec_bytes.specs.Shape.{shape_of_record}
use Rattle.rec_bytes.specs.declared.key.Key.{Key}
use Rattle.rec_bytes.specs.declared.record.Rec.{Rec}
use Rattle.rec_bytes.specs.declared.shape.Shape.{Shape}
use Rattle.record_file.specs.Redone.{Redoes}
use Rattle.record_file.specs.Unique.{Redoes-unique}
use Rattle.stored_graph.specs.Stands.{IsMade, Stands}
use Rattle.stored_graph.proofs.Stands.{stands-recoverable, unmade-not_made}
use Rattle.stored_graph.proofs.Versions.{graph_of-raised, newest-indexed}
use Rattle.txn_core.specs.Opening.{HoldsStore, IsOldOrRaised}
use Rattle.txn_core.specs.declared.config.Config.{Config}
use Rattle.graph_session.specs.Console.{TellsAll}
use Rattle.graph_session.specs.Opening.{LeavesByOpening, LeavesOldOrSame, StandsForOne, Starts, StartsAs}
use Rattle.graph_session.specs.Stands.{IsAdmitted}
use Rattle.graph_session.specs.State.{Live, State}
use Rattle.graph_session.proofs.Stands.{admits-own}
use Rattle.graph_session.proofs.States.{same_one}

-- what redoes to the records of a made store, as they were or in the newest version, stands for its graph
pub redone-made : (content left : Files) (shape : Shape) (graph : Graph) (space : Key → Rec) → IsMade content shape graph → Redoes content space
    → IsOldOrRaised shape space left → IsMade left shape graph
redone-made content left shape graph space made redoes (inl same) = record {
  space = made.space;
  redoes = subst (λ (records : Key → Rec). Redoes left records) (Redoes-unique content space made.space redoes made.redoes) same;
  store = made.store;
  graph_is = made.graph_is;
}
redone-made content left shape graph space made redoes (inr newest) = record {
  space = raised shape made.space;
  redoes = subst (λ (records : Key → Rec). Redoes left (raised shape records)) (Redoes-unique content space made.space redoes made.redoes) newest;
  store = newest-indexed (raised shape made.space) shape made.store.store;
  graph_is = made.graph_is ∙ sym (graph_of-raised shape made.space made.store.made);
}

-- a content has a store of one shape
pub store-shape : (content : Files) (shape : Shape) (graph : Graph) → IsMade content shape graph → (other : Shape) (store : HoldsStore content other)
    → other ≡ shape
store-shape content shape graph made other store =
    let same : store.space ≡ made.space = Redoes-unique content store.space made.space store.redoes made.redoes in
    same_one other shape (sym store.made.own ∙ ap (λ (records : Key → Rec). shape_of_record (records own_key)) same ∙ made.store.made.own)

-- what an opening leaves is from before, or the state that the session begins with admits it
leaves-admitted : (content : Files) (images : Files → Type 0) (config : Config) (state : State) → state.standing ≡ Live → Starts content config state
    → (left : Files) → LeavesOldOrSame content images config left → images left ⊎ IsAdmitted state left
leaves-admitted content images config state live starts left (inl old) = inl old
leaves-admitted content images config state live (inl new) left (inr (inl same)) =
    inr (state.committed, admits-own state live, rw (new.1, new.2) same.1)
leaves-admitted content images config state live (inr made) left (inr (inl same)) = absurd (unmade-not_made content state.shape state.committed same.0 made.0)
leaves-admitted content images config state live (inl new) left (inr (inr same)) = absurd (same.0 new.0)
leaves-admitted content images config state live (inr made) left (inr (inr (was_made, shape, store, left_so))) =
    let shapes : shape ≡ state.shape = store-shape content state.shape state.committed made.0 shape store in
    inr (
      state.committed,
      admits-own state live,
      inr (redone-made content left state.shape state.committed store.space made.0 store.redoes (subst (λ (s : Shape). IsOldOrRaised s store.space left)
          shapes left_so)),
    )

-- a content that a session begins with stands for its graph
pub starts-stands : (content : Files) (config : Config) (state : State) → Starts content config state → Stands content state.shape state.committed
starts-stands content config state (inl new) = inl (new.0, new.2)
starts-stands content config state (inr made) = inr made.0

module _ {D : Type 0} (g : Ghosts D) (old : D) (config : Config) (state : State) (starts : StartsAs g old config state) where
  starts-one : g.tells_reads → StandsForOne g old
  starts-one told = record { shape = state.shape; graph = state.committed; stands = starts-stands (g.reads old) config state (starts.starts told) }

  pub opens_admitted : (opened : D) → LeavesByOpening g config old opened → TellsAll g → StandsForOne g old
      → AtEachMoment g old opened (λ left. g.may_leave old left ⊎ IsAdmitted state left)
  opens_admitted opened leaves told stands =
      at_each_moment_weaker g old opened (LeavesOldOrSame (g.reads old) (g.may_leave old) config) (λ left. g.may_leave old left ⊎ IsAdmitted state left)
      (leaves told (let one = starts-one told.0 in stands-recoverable (g.reads old) one.shape one.graph one.stands))
      (leaves-admitted (g.reads old) (g.may_leave old) config state starts.live (starts.starts told.0))
