-- What the line of a hop at one vertex reads.
use Rattle.std.proofs.Common.{◌≡◌, ◌⊎◌, ℕ, None, List, inl, inr, ⊎_elim, sym, subst}
use Rattle.plain_graph.specs.declared.query.Hop.{Hop}
use Rattle.plain_graph.specs.declared.query.Query.{Query}
use Rattle.prop_store.specs.Reading.{ReadsAtMost}
use Rattle.prop_store.proofs.ReadCounts.{reads_none}
use Rattle.rec_bytes.specs.declared.space.Reads.{Ghosts as SpaceGhosts}
use Rattle.traversal_run.specs.HopRun.{IsHop, IsHopQuery, IsReady, reads_for_hop}
use Rattle.traversal_run.specs.Reading.{IsNamedStore}
use Rattle.traversal_run.specs.Run.{IfItem}
use Rattle.traversal_run.specs.declared.run.Next.{Next}
use Rattle.traversal_run.specs.declared.run.Run.{Run}
use Rattle.traversal_run.proofs.HopRuns.{HopCost}

-- what is promised of a line of it
abbrev pub HopLine : {R : Type 0} → SpaceGhosts R → List (List ℕ) → Query → R → R → Type 0
HopLine space names query old now = (id : ℕ) (hop : Hop) → IsHopQuery query id hop → query.maps ≡ None → HopCost space names old now hop id

-- its run is to make the hop, or has made it
abbrev pub HopGoes : {R : Type 0} → SpaceGhosts R → List (List ℕ) → Query → R → R → Run → Type 0
HopGoes space names query old now run = (id : ℕ) (hop : Hop) → IsHopQuery query id hop → query.maps ≡ None
    → ((now ≡ old) × IsHop run id hop) ⊎ (HopCost space names old now hop id × IsReady run)

module _ {R : Type 0} (space : SpaceGhosts R) (names : List (List ℕ)) (query : Query) (old : R) where
  -- nothing was read
  pub line-unread : (now : R) → ((id : ℕ) (hop : Hop) → IsHopQuery query id hop → now ≡ old) → HopLine space names query old now
  line-unread now same id hop is shown tells store =
      subst (λ (r : R). ReadsAtMost (reads_for_hop (space.state old).records hop id) (space.state old) (space.state r)) (sym (same id hop is))
      (reads_none (reads_for_hop (space.state old).records hop id) (space.state old))

  pub goes-first : (now : R) (run : Run) → ((id : ℕ) (hop : Hop) → IsHopQuery query id hop → now ≡ old)
      → ((id : ℕ) (hop : Hop) → IsHopQuery query id hop → IsHop run id hop) → HopGoes space names query old now run
  goes-first now run same begins id hop is shown = inl (same id hop is, begins id hop is)

  -- where the line ends
  pub line-ends : (now : R) (run : Run) → HopGoes space names query old now run → HopLine space names query old now
  line-ends now run goes id hop is shown tells store =
      ⊎_elim (λ (here : (now ≡ old) × IsHop run id hop). subst (λ (r : R). ReadsAtMost (reads_for_hop (space.state old).records hop id) (space.state old)
      (space.state r)) (sym here.0) (reads_none (reads_for_hop (space.state old).records hop id) (space.state old)))
      (λ (made : HopCost space names old now hop id × IsReady run). made.0 tells store) (goes id hop is shown)

  -- the next result was asked for
  module _ (now next : R) (run new : Run) (answer : Next) (goes : HopGoes space names query old now run)
      (hops : (id : ℕ) (hop : Hop) → IsHop run id hop → HopCost space names now next hop id × IfItem answer (λ item. IsReady new))
      (given : IsReady run → (next ≡ now) × IfItem answer (λ item. IsReady new)) where
    pub line-next : HopLine space names query old next
    line-next id hop is shown tells store =
        ⊎_elim (λ (here : (now ≡ old) × IsHop run id hop).
        subst (λ (r : R). ReadsAtMost (reads_for_hop (space.state r).records hop id) (space.state r) (space.state next)) here.0
        ((hops id hop here.1).0 tells (subst (λ (r : R). IsNamedStore (space.state r).records (space.state r).shape names) (sym here.0) store)))
        (λ (made : HopCost space names old now hop id × IsReady run).
        subst (λ (r : R). ReadsAtMost (reads_for_hop (space.state old).records hop id) (space.state old) (space.state r)) (sym (given made.1).0)
        (made.0 tells store)) (goes id hop is shown)

    ready-next : (id : ℕ) (hop : Hop) → IsHopQuery query id hop → query.maps ≡ None → IfItem answer (λ item. IsReady new)
    ready-next id hop is shown =
        ⊎_elim (λ (here : (now ≡ old) × IsHop run id hop). (hops id hop here.1).1)
        (λ (made : HopCost space names old now hop id × IsReady run). (given made.1).1) (goes id hop is shown)

    -- and its line was gathered, with no read
    pub line-shown : (last : R) → (query.maps ≡ None → last ≡ next) → HopLine space names query old last
    line-shown last unread id hop is shown tells store =
        subst (λ (r : R). ReadsAtMost (reads_for_hop (space.state old).records hop id) (space.state old) (space.state r)) (sym (unread shown))
        (line-next id hop is shown tells store)

    pub goes-on : (last : R) → (query.maps ≡ None → last ≡ next) → (IfItem answer (λ item. IsReady new) → IsReady new) → HopGoes space names query old last new
    goes-on last unread item id hop is shown = inr (line-shown last unread id hop is shown, item (ready-next id hop is shown))
