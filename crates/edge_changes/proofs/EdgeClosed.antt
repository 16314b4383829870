-- An edge that left the chains of its ends, whose groups are dropped if they are empty.
use Rattle.std.proofs.Common.{◌≡◌, ◌≢◌, ℕ, List, [], ◌++◌, sym, ap, ◌∙◌, subst, inl, inr, ⊎_elim, refl}
use Rattle.plain_graph.specs.Graph.{Graph, RemovesEdge}
use Rattle.rec_bytes.specs.Format as format
use Rattle.rec_bytes.specs.Space.{State}
use Rattle.store_rules.specs.Ends.{group_of_head}
use Rattle.store_rules.specs.Graph.{graph_in, graph_of}
use Rattle.store_rules.specs.Rules as rules
use Rattle.store_rules.specs.Rules.{KeepsRules, Owns}
use Rattle.store_rules.specs.Views.{group_at, kind_at}
use Rattle.store_rules.proofs.NumberLaws.{nat_cases}
use Rattle.chain_edit.specs.Heads.{head_of}
use Rattle.group_store.specs.Closing.{CanClose, HasClosed}
use Rattle.edge_changes.specs.EdgeDeleting.{IsBareEdge, KeepsKinds, PartsEdge, StandsAtEnd, TakesEdge}
use Rattle.edge_changes.specs.EdgeEnds.{end_groups, source_of, target_of}
use Rattle.change_parts.specs.Store.{KeepsIndexes}
use Rattle.edge_changes.specs.declared.edge_end.EdgeEnd.{EdgeEnd}
use Rattle.edge_changes.specs.declared.edge_end.Ends.{Ends}
use Rattle.edge_changes.specs.declared.edge_end.Ends.TheVariants.{Loop, Two}
use Rattle.edge_changes.proofs.EndLaws.{at_source, at_target}
use Rattle.change_parts.proofs.KeptIndexes.{regroups_keep}

-- the group of the target's head, unless it is the source's too
abbrev rest_of : Ends EdgeEnd → List ℕ
rest_of (Loop end) = []
rest_of (Two source target) = group_of_head (head_of target.head) ++ []

groups_are : (ends : Ends EdgeEnd) → end_groups ends ≡ group_of_head (head_of (source_of ends).head) ++ rest_of ends
groups_are (Loop end) = refl
groups_are (Two source target) = refl

module _ (s u : State) (names : List (List ℕ)) (id : ℕ) (ends : Ends EdgeEnd) (bare : IsBareEdge s id ends) (parts : PartsEdge s u names id ends) where
  abbrev source : EdgeEnd
  source = source_of ends

  abbrev target : EdgeEnd
  target = target_of ends

  abbrev rest : List ℕ
  rest = rest_of ends

  owns_still : (h : rules.Head) (n : ℕ) → Owns (kind_at s.records format.nodes_file) (group_at s.records) h n
      → Owns (kind_at u.records format.nodes_file) (group_at u.records) h n
  owns_still h n o = subst (λ k. Owns k (group_at u.records) h n) (λ i m. sym (parts.kinds m) i)
      (subst (λ g. Owns (kind_at s.records format.nodes_file) g h n) (λ i g. sym (parts.groups g) i) o)

  -- the source's head may be closed
  pub source_closes : CanClose u (head_of source.head) source.node u.shape.threshold rest
  source_closes = record {
    keeps = subst (KeepsRules u.records u.shape u.shape.threshold) (groups_are ends) parts.keeps;
    owns = owns_still (head_of source.head) source.node (at_source (StandsAtEnd s.records id) ends bare.stands).owns;
  }

  -- what is left keeps the rules, and the graph
  taken : (t : State) → KeepsRules t.records t.shape u.shape.threshold [] → t.shape ≡ u.shape → graph_of t.records ≡ graph_of u.records → KeepsIndexes u t
      → KeepsKinds u t → TakesEdge s t names id
  taken t keeps shape graph indexes kinds = record {
    store = record {
      store = subst (λ m. KeepsRules t.records t.shape m []) (sym (ap (λ z. z.threshold) shape)) keeps;
      names = parts.names ∙ sym (ap (λ (z : Graph). z.names) graph);
    };
    indexes = λ are. indexes (parts.indexes are);
    removes = subst (RemovesEdge (graph_in s) id) (sym graph) parts.removes;
    kinds = λ n. kinds n ∙ parts.kinds n;
  }

  -- a head that is closed leaves all nodes what they are
  closed_kinds : (v w : State) (node most : ℕ) (empty : List ℕ) → HasClosed v w node most empty → KeepsKinds v w
  closed_kinds v w node most empty closed n = ⊎_elim
      (λ (e : n ≡ node). subst (λ m. kind_at w.records format.nodes_file m ≡ kind_at v.records format.nodes_file m) (sym e) closed.kind)
      (λ (ne : n ≢ node). closed.regroups.kinds n ne) (nat_cases n node)

  module _ (v : State) (closed : HasClosed u v source.node u.shape.threshold rest) where
    pub loop_taken : rest ≡ [] → TakesEdge s v names id
    loop_taken none = taken v (subst (KeepsRules v.records v.shape u.shape.threshold) none closed.keeps) closed.regroups.shape closed.regroups.graph
        (regroups_keep u v source.node closed.regroups) (closed_kinds u v source.node u.shape.threshold rest closed)

    -- the other end's head is still the other's
    owns_then : (h : rules.Head) (n : ℕ) → n ≢ source.node → Owns (kind_at u.records format.nodes_file) (group_at u.records) h n
        → Owns (kind_at v.records format.nodes_file) (group_at v.records) h n
    owns_then h n ne (inl o) = inl (record { sparse = closed.regroups.kinds n ne ∙ o.sparse; is = o.is })
    owns_then h n ne (inr o) = inr (record {
      dense = closed.regroups.kinds n ne ∙ o.dense;
      row = o.row;
      group = closed.regroups.groups o.row.id o.row o.group (λ e. ne (sym o.owner ∙ e));
      owner = o.owner;
      key = o.key;
      field = o.field;
    })

    pub target_closes : source.node ≢ target.node → rest ≡ group_of_head (head_of target.head) ++ []
        → CanClose v (head_of target.head) target.node u.shape.threshold []
    target_closes differ other = record {
      keeps = subst (KeepsRules v.records v.shape u.shape.threshold) other closed.keeps;
      owns = owns_then (head_of target.head) target.node (λ e. differ (sym e))
          (owns_still (head_of target.head) target.node (at_target (StandsAtEnd s.records id) ends bare.stands).owns);
    }

    pub pair_taken : (w : State) → HasClosed v w target.node u.shape.threshold [] → TakesEdge s w names id
    pair_taken w last = taken w last.keeps (last.regroups.shape ∙ closed.regroups.shape) (last.regroups.graph ∙ closed.regroups.graph)
        (λ are. regroups_keep v w target.node last.regroups (regroups_keep u v source.node closed.regroups are))
        (λ n. closed_kinds v w target.node u.shape.threshold [] last n ∙ closed_kinds u v source.node u.shape.threshold rest closed n)
