-- Which contents of the disk a state admits.
use Rattle.std.proofs.Common.{◌≡◌, ◌⊎◌, ℕ, [], ◌∷◌, Contains, slice_index_or, inl, inr, refl, sym, subst, arith}
use Rattle.disk_model.specs.Contents.{Files}
use Rattle.plain_graph.specs.Graph.{Graph}
use Rattle.rec_bytes.specs.declared.key.Key.{Key}
use Rattle.rec_bytes.specs.declared.record.Rec.{Rec}
use Rattle.record_file.specs.Redone.{Redoes}
use Rattle.store_rules.specs.Graph.{graph_of}
use Rattle.store_rules.specs.Indexes.{IsIndexed}
use Rattle.stored_graph.proofs.Stands.{served-made}
use Rattle.graph_session.specs.Stands.{AreAdmitted, HoldsAdmitted, IsAdmitted, IsAdmittedByEither}
use Rattle.graph_session.specs.State.{Admits, Live, Standing, State, graphs_from}

-- the records are those of a store, and the state admits their graph
pub record IsOneOf (state : State) (space : Key → Rec) : Type 0 where
  pub store : IsIndexed space state.shape
  pub admits : Admits state (graph_of space)

-- a content that holds an admitted graph stands for it
pub held-admitted : (state : State) (content : Files) → HoldsAdmitted state content → IsAdmitted state content
held-admitted state content held = (held.0, held.1, inr (served-made content state.shape held.0 held.2))

pub redone-held : (state : State) (space : Key → Rec) (content : Files) → IsOneOf state space → Redoes content space → HoldsAdmitted state content
redone-held state space content one redoes = (
  graph_of space,
  one.admits,
  record { space = space; redoes = redoes; store = one.store; graph_is = refl },
)

pub redone-admitted : (state : State) (space : Key → Rec) (content : Files) → IsOneOf state space → Redoes content space → IsAdmitted state content
redone-admitted state space content one redoes = held-admitted state content (redone-held state space content one redoes)

-- a content that redoes to one of two
pub either-held : (state : State) (a b : Key → Rec) (content : Files) → IsOneOf state a → IsOneOf state b → Redoes content a ⊎ Redoes content b
    → HoldsAdmitted state content
either-held state a b content one other (inl redoes) = redone-held state a content one redoes
either-held state a b content one other (inr redoes) = redone-held state b content other redoes

-- in the midst of a change from the one to the other
pub either-admitted : (before after : State) (a b : Key → Rec) (content : Files) → IsOneOf before a → IsOneOf after b → Redoes content a ⊎ Redoes content b
    → IsAdmittedByEither before after content
either-admitted before after a b content one other (inl redoes) = inl (redone-admitted before a content one redoes)
either-admitted before after a b content one other (inr redoes) = inr (redone-admitted after b content other redoes)

-- images of one space
pub all-admitted : (state : State) (space : Key → Rec) (images : Files → Type 0) → IsOneOf state space → ((image : Files) → images image → Redoes image space)
    → AreAdmitted state images
all-admitted state space images one redo image left = redone-admitted state space image one (redo image left)

-- the committed graph of a live console is admitted
pub admits-own : (state : State) → state.standing ≡ Live → Admits state state.committed
admits-own state live = subst (λ (standing : Standing). Contains (graphs_from state.committed standing) state.committed) (sym live) (0, omega arith, refl)

-- and no other
pub admits-only : (state : State) (graph : Graph) → state.standing ≡ Live → Admits state graph → graph ≡ state.committed
admits-only state graph live admits = only (subst (λ (standing : Standing). Contains (graphs_from state.committed standing) graph) live admits)
  where
    only : Contains (state.committed ∷ []) graph → graph ≡ state.committed
    only h =
        let first : h.0 ≡ 0 = omega (arith, h.1) in
        sym (subst (λ (k : ℕ). slice_index_or (state.committed ∷ []) k graph ≡ graph) first h.2)

-- the records of a live console's graph
pub own-one : (state : State) (space : Key → Rec) → state.standing ≡ Live → IsIndexed space state.shape → graph_of space ≡ state.committed → IsOneOf state space
own-one state space live store same = record { store = store; admits = subst (λ (graph : Graph). Admits state graph) (sym same) (admits-own state live) }
