-- The ends of an edge, whose groups are counted where the edge stands.
use Rattle.std.proofs.Common.{◌≡◌, ◌≢◌, ◌⊎◌, ℕ, List, [], None, Some, sym, ap, ◌∙◌, subst, inl, inr, ⊎_elim, refl}
use Rattle.plain_graph.specs.Graph.{Graph, RemovesEdge}
use Rattle.rec_bytes.specs.declared.shape.Shape.{Shape}
use Rattle.rec_bytes.specs.Format as format
use Rattle.rec_bytes.specs.Space.{SameButReads, State}
use Rattle.store_rules.specs.Ends.{IsEndHead}
use Rattle.store_rules.specs.Rules.{KeepsRules}
use Rattle.store_rules.specs.Views as views
use Rattle.store_rules.specs.Views.{Records, degree, kind_at, rec_at, rel_at}
use Rattle.store_rules.proofs.ViewLaws.{row_some}
use Rattle.node_store.specs.Loading as nodes
use Rattle.node_store.specs.NodeRecord as node_records
use Rattle.rel_store.specs.declared.rel_row.RelRow.{RelRow}
use Rattle.chain_edit.specs.Heads.{head_of}
use Rattle.chain_edit.specs.declared.head.Head.{Head as ChainHead}
use Rattle.group_store.specs.Opening.{FindsChain, IsEndOf}
use Rattle.group_store.specs.Sides.{side_at}
use Rattle.group_store.specs.declared.side.Side.{Side}
use Rattle.edge_changes.specs.EdgeDeleting.{FindsEnd, FindsEnds, HasBareRow, StandsAtEnd, TakesEdge}
use Rattle.change_parts.specs.Degrees.{HasDegree}
use Rattle.change_parts.specs.Store.{IsMidway}
use Rattle.edge_changes.specs.declared.edge_end.EdgeEnd.{EdgeEnd}
use Rattle.edge_changes.specs.declared.edge_end.Ends.{Ends}
use Rattle.edge_changes.specs.declared.edge_end.Ends.TheVariants.{Loop, Two}
use Rattle.edge_changes.proofs.EdgeOpened.{end_stays}
use Rattle.change_parts.proofs.Elements.{degree_found, node_readable, used_of}
use Rattle.change_parts.proofs.KeptIndexes.{regroups_keep}
use Rattle.change_parts.proofs.Readings.{store_read}
use Rattle.store_rules.specs.Graph.{graph_in}

-- the row of an edge without properties
abbrev pub bare_of : ℕ → RelRow → views.RelRow
bare_of id rel = record { id = id; label = rel.label; from = rel.from; to = rel.to; property = format.nil }

-- a node in use has its degree
has_degree : (records : Records) (n : ℕ) → kind_at records format.nodes_file n ≢ format.free_kind → HasDegree records n (degree records n)
has_degree records n used = record {
  row = node_records.row_of (rec_at records format.nodes_file n) n;
  found = row_some (kind_at records format.nodes_file n) (node_records.row_of (rec_at records format.nodes_file n) n) used;
  is = refl;
}

-- and keeps it where its kind and its degree are the same
degree_stays : (s : State) (t : Records) (n d : ℕ) → kind_at t format.nodes_file n ≡ kind_at s.records format.nodes_file n → degree t n ≡ degree s.records n
    → HasDegree s.records n d → HasDegree t n d
degree_stays s t n d kind same has =
    subst (HasDegree t n) (same ∙ sym (degree_found s n d has)) (has_degree t n (λ free. (used_of s n has.row (sym has.found)).0 (sym kind ∙ free)))

-- ---- one end
module _ (s : State) (names : List (List ℕ)) (id : ℕ) (rel : RelRow) (store : IsMidway s names) (there : HasBareRow s.records id rel) (node : ℕ)
    (which : (node ≡ rel.from) ⊎ (node ≡ rel.to)) where
  used : kind_at s.records format.nodes_file node ≢ format.free_kind
  used =
      let ends = store.store.linked.ends id (bare_of id rel) there in
      ⊎_elim (λ (e : node ≡ rel.from). subst (λ n. kind_at s.records format.nodes_file n ≢ format.free_kind) (sym e) ends.from)
      (λ (e : node ≡ rel.to). subst (λ n. kind_at s.records format.nodes_file n ≢ format.free_kind) (sym e) ends.to) which

  -- it is a node that can be read
  pub end_readable : nodes.IsReadable s node × (nodes.row_at s.records node ≢ None)
  end_readable = (
    node_readable s names node store,
    λ none. let e = sym (row_some (kind_at s.records format.nodes_file node) (node_records.row_of (rec_at s.records format.nodes_file node) node) used)
        ∙ none in absurd cc,
  )

  -- the edge stands in a chain of it
  pub end_of : (m : State) → SameButReads s m → (side : Side) → side ≡ side_at node rel.from rel.to
      → IsEndOf m node rel.label side m.shape.threshold [] id (bare_of id rel)
  end_of m same side is = record {
    keeps = (store_read s m names same store).store;
    live = subst (λ z. rel_at z.records id ≡ Some (bare_of id rel)) (sym same) there;
    at = record { end = ⊎_elim (λ e. inl (sym e)) (λ e. inr (sym e)) which; typed = refl; aside = is };
  }

  pub end_found : (m t : State) → SameButReads s m → (head : ChainHead) (degree_is : ℕ)
      → FindsChain m t (head_of head) node (bare_of id rel) m.shape.threshold [] → HasDegree s.records node degree_is
      → FindsEnd s t names id (record { node = node; head = head; degree = degree_is })
  end_found m t same head degree_is found has = by (subst (λ z. FindsChain z t (head_of head) node (bare_of id rel) z.shape.threshold []) same found)
    where
      by : FindsChain (record s { reads = m.reads }) t (head_of head) node (bare_of id rel) s.shape.threshold []
          → FindsEnd s t names id (record { node = node; head = head; degree = degree_is })
      by f =
          let r = f.regroups in
          record {
            store = record {
              store = subst (λ n. KeepsRules t.records t.shape n []) (sym (ap (λ (h : Shape). h.threshold) r.shape)) f.keeps;
              names = store.names ∙ sym (ap (λ (g : Graph). g.names) r.graph);
            };
            stands = record {
              owns = f.stands.owns;
              stands = record { row = bare_of id rel; live = r.rels id ∙ there; on = f.stands.on };
              degree = degree_stays s t.records node degree_is (f.kinds node) (r.degrees node) has;
            };
            kinds = f.kinds;
            regroups = record {
              shape = r.shape;
              graph = r.graph;
              nodes = r.nodes;
              rels = r.rels;
              degrees = r.degrees;
              kinds = r.kinds;
              groups = r.groups;
              metas = r.metas;
              others = r.others;
            };
            indexes = regroups_keep (record s { reads = m.reads }) t node r;
          }

-- ---- both
module _ (s t : State) (names : List (List ℕ)) (id : ℕ) (rel : RelRow) (there : HasBareRow s.records id rel) (source : EdgeEnd) (from : source.node ≡ rel.from)
    (first : FindsEnd s t names id source) where
  -- the edge is there after the first
  pub there_then : HasBareRow t.records id rel
  there_then = first.regroups.rels id ∙ there

  pub loop_found : rel.from ≡ rel.to → FindsEnds s t names id (Loop source)
  loop_found loop = record {
    store = first.store;
    bare = record {
      label = rel.label;
      there = there_then ∙ (λ i. Some (record { id = id; label = rel.label; from = sym from i; to = sym (from ∙ loop) i; property = format.nil }));
      stands = first.stands;
    };
    kinds = first.kinds;
    graph = first.regroups.graph;
    indexes = first.indexes;
  }

  pub both_found : (u : State) (target : EdgeEnd) → target.node ≡ rel.to → rel.from ≢ rel.to → FindsEnd t u names id target
      → FindsEnds s u names id (Two source target)
  both_found u target to differ second = record {
    store = second.store;
    bare = record {
      label = rel.label;
      there = second.regroups.rels id ∙ there_then ∙ (λ i. Some (record {
        id = id;
        label = rel.label;
        from = sym from i;
        to = sym to i;
        property = format.nil;
      }));
      stands = (stays, second.stands);
    };
    kinds = λ n. second.kinds n ∙ first.kinds n;
    graph = second.regroups.graph ∙ first.regroups.graph;
    indexes = λ are. second.indexes (first.indexes are);
  }
    where
      -- what the second one changes is another node's
      stays : StandsAtEnd u.records id source
      stays =
          let p = first.stands in
          let at : IsEndHead t.records (head_of source.head) source.node p.stands.row = record { owns = p.owns; on = p.stands.on } in
          let kept = end_stays t u target.node second.regroups (head_of source.head) source.node (λ e. differ (sym from ∙ e ∙ to)) p.stands.row at in
          record {
            owns = kept.owns;
            stands = record { row = p.stands.row; live = second.regroups.rels id ∙ p.stands.live; on = kept.on };
            degree = degree_stays t u.records source.node source.degree (second.kinds source.node) (second.regroups.degrees source.node) p.degree;
          }

-- ---- and the edge is taken away then
pub taken_then : (s t u : State) (names : List (List ℕ)) (id : ℕ) (ends : Ends EdgeEnd) → FindsEnds s t names id ends → TakesEdge t u names id
    → TakesEdge s u names id
taken_then s t u names id ends found taken = record {
  store = taken.store;
  indexes = λ are. taken.indexes (found.indexes are);
  removes = subst (λ (g : Graph). RemovesEdge g id (graph_in u)) found.graph taken.removes;
  kinds = λ n. taken.kinds n ∙ found.kinds n;
}
