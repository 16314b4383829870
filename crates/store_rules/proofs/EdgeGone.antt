-- A relationship that goes keeps the rules, but that the groups that it stood in may be empty, and is one edge less of the graph.
use Rattle.std.specs.List.{list_any}
use Rattle.std.proofs.Common.{◌≡◌, ◌≢◌, ◌⊎◌, ℕ, ◌+◌, ◌<◌, ◌≤◌, nat_eq, true, false, None, Some, List, length, sym, ap}
use Rattle.std.proofs.Common.{◌∙◌, subst, inl, inr, ⊎_elim, arith, refl}
use Rattle.plain_graph.specs.Graph.{edge_number, without_row}
use Rattle.rec_bytes.specs.declared.shape.Shape.{Shape}
use Rattle.rec_bytes.specs.Format as format
use Rattle.store_rules.specs.Chains.{In}
use Rattle.store_rules.specs.Graph.{edge_from, edge_of, graph_of, names_of}
use Rattle.store_rules.specs.Properties.{properties_from, property_records}
use Rattle.store_rules.specs.Rows.{collect}
use Rattle.store_rules.specs.Rules.{AllListed, IsEnd, IsInGroup, KeepsRules, Owns, StandsAt, degree_of, is_filled, stands_in}
use Rattle.store_rules.specs.Views.{GroupRow, Records, RelRow, degree, group_at, high, is_at, kind_at, rec_at, rel_at, rel_in, text_of}
use Rattle.store_rules.proofs.Changes as ch
use Rattle.store_rules.proofs.CountLaws.{HasOneMore, counts_less}
use Rattle.store_rules.proofs.Counts.{ids_kept, ids_with}
use Rattle.store_rules.proofs.EdgeChange as ec
use Rattle.store_rules.proofs.EdgeChange.{IsEdgeChange, IsEdgeStore, edge_well}
use Rattle.store_rules.proofs.EdgeMade.{end_cases, no_row}
use Rattle.store_rules.proofs.FilledGroups.{filled_by, filled_has, group_head}
use Rattle.store_rules.proofs.GraphRows.{edges_numbered}
use Rattle.store_rules.proofs.GroupLaws.{IsFirstPlace}
use Rattle.store_rules.proofs.Made.{IsGone}
use Rattle.store_rules.proofs.NumberLaws.{nat_cases}
use Rattle.store_rules.proofs.Relinks as re
use Rattle.store_rules.proofs.Relinks.{IsRelinked}
use Rattle.store_rules.proofs.RowLaws.{collect_without, there_collect}
use Rattle.store_rules.proofs.ViewLaws.{kind_below, some_row}

-- Links and degrees were set, and then the record of a relationship, which has no properties, was given back. The groups that it stood in, and
-- those that might be empty before, may be.
pub record IsEdgeGone (s u t : Records) (shape : Shape) (id : ℕ) (row : RelRow) (before empty : List ℕ) : Type 0 where
  pub links : IsRelinked s u
  pub gone : IsGone u t shape format.relationships_file id
  pub live : rel_at s id ≡ Some row
  pub bare : row.property ≡ format.nil
  pub listed : AllListed t (Owns (kind_at s format.nodes_file) (group_at s)) (StandsAt (rel_at t) (group_at s))
  pub out_of : (g at : ℕ) → IsInGroup (group_at s) (group_head g at) row → In g empty
  pub still : (g : ℕ) → In g before → In g empty
  pub less : (n : ℕ) → IsEnd n row → degree t n + 1 ≡ degree s n
  pub as_before : (n : ℕ) → ¬ IsEnd n row → degree t n ≡ degree s n
  pub counts : (g : ℕ) (group : GroupRow) → group_at s g ≡ Some group → kind_at s format.groups_file g ≡ format.counted
      → HasOneMore (rec_at t format.groups_file g) (rec_at s format.groups_file g) group row

module _ (s u t : Records) (shape : Shape) (id : ℕ) (row : RelRow) {most : ℕ} {before empty : List ℕ} (edge : IsEdgeGone s u t shape id row before empty)
    (well : KeepsRules s shape most before) where
  change : IsEdgeChange s t id
  change = ec.relinked_changed s u t id edge.links edge.gone.change

  rel_gone : rel_at t id ≡ None
  rel_gone = no_row t id edge.gone.gone

  mark : high t format.relationships_file ≡ high s format.relationships_file
  mark = edge.gone.mark ∙ re.mark_stays s u edge.links format.relationships_file

  row_is : (kind_at s format.relationships_file id ≢ 0) × (rel_in (rec_at s format.relationships_file id) id ≡ row)
  row_is = some_row (kind_at s format.relationships_file id) (rel_in (rec_at s format.relationships_file id) id) row edge.live

  id_low : id < high s format.relationships_file
  id_low = kind_below (high s format.relationships_file) (rec_at s format.relationships_file id) id row_is.0

  less_at : (n : ℕ) → is_at n row ≡ true → degree_of (rel_at s) (high s format.relationships_file) n ≡ degree_of (rel_at t) (high s format.relationships_file)
      n + 1
  less_at n e = ids_with (λ x. stands_in n (rel_at t x)) (λ x. stands_in n (rel_at s x)) (high s format.relationships_file) (high s format.relationships_file)
      id
      (ap (stands_in n) rel_gone) (ap (stands_in n) edge.live ∙ e) (λ x ne. ap (stands_in n) (sym (change.rels x ne))) id_low (inl refl)

  same_at : (n : ℕ) → is_at n row ≡ false → degree_of (rel_at t) (high s format.relationships_file) n ≡ degree_of (rel_at s) (high s format.relationships_file)
      n
  same_at n e = ap length (ids_kept (λ x. stands_in n (rel_at s x)) (λ x. stands_in n (rel_at t x)) (high s format.relationships_file)
      (high s format.relationships_file) id
      (λ x. ⊎_elim (λ (k : x ≡ id). ap (λ z. stands_in n (rel_at t z)) k ∙ ap (stands_in n) rel_gone ∙ sym (ap (stands_in n) edge.live ∙ e) ∙ ap
      (λ z. stands_in n (rel_at s z)) (sym k)) (λ ne. ap (stands_in n) (change.rels x ne)) (nat_cases x id))
      (ap (stands_in n) edge.live ∙ e) (inl refl))

  lower : (a b c d : ℕ) → a + 1 ≡ b → b ≡ c → c ≡ d + 1 → a ≡ d
  lower a b c d p q r = omega arith

  counted : (n : ℕ) → kind_at s format.nodes_file n ≢ format.free_kind → degree t n ≡ degree_of (rel_at t) (high t format.relationships_file) n
  counted n some = end_cases n row
      (λ end at. lower _ _ _ _ (edge.less n end) (well.degrees.each n some) (less_at n at))
      (λ out at. edge.as_before n out ∙ well.degrees.each n some ∙ sym (same_at n at))
      ∙ ap (λ m. degree_of (rel_at t) m n) (sym mark)

  same_row : (a : RelRow) → rel_at s id ≡ Some a → row ≡ a
  same_row a e = inner row a (sym edge.live ∙ e)
    where
      inner : (a b : RelRow) → Some a ≡ Some b → a ≡ b
      inner a b e = cc

  -- a group has what it had, but for the old one
  filled : (g : ℕ) (group : GroupRow) → group_at s g ≡ Some group → (is_filled (rec_at t format.groups_file g) ≡ true) ⊎ In g empty
  filled g group is =
      let has = well.grouped.each group.owner (well.grouped.owned g group is) in
      ⊎_elim (λ (k : is_filled (rec_at s format.groups_file g) ≡ true). stays (filled_has s well.grouped g group is s (rel_at s) well.linked.listed k))
      (λ (k : In g before). inr (edge.still g k)) (has.filled g (has.all g group is refl))
    where
      stays : (at : ℕ) × (x : ℕ) × IsFirstPlace at × StandsAt (rel_at s) (group_at s) (group_head g at) x → (is_filled (rec_at t format.groups_file g) ≡ true)
          ⊎ In g empty
      stays k = ⊎_elim
          (λ (e : k.1 ≡ id). ⊎_elim
          (λ z. absurd (let f : 3 ≡ 1 = z.0 in omega arith))
          (λ z. inr (edge.out_of g k.0 (subst (IsInGroup (group_at s) (group_head g k.0)) (sym (same_row k.3.row (ap (rel_at s) (sym e) ∙ k.3.live))) z.1)))
          k.3.on)
          (λ (ne : k.1 ≢ id). inl (filled_by s well.grouped g group is t (rel_at t) edge.listed k.0 k.1 k.2 (record {
            row = k.3.row;
            live = change.rels k.1 ne
                ∙ k.3.live;
            on = k.3.on;
          })))
          (nat_cases k.1 id)

  few : (n : ℕ) → kind_at s format.nodes_file n ≡ format.sparse → degree t n ≤ most
  few n sparse = end_cases n row
      (λ end at. let a = edge.less n end in let b = well.degrees.few n sparse in omega arith)
      (λ out at. let a = edge.as_before n out in let b = well.degrees.few n sparse in omega arith)

  now : IsEdgeStore s t shape id most empty
  now = record {
    change = change;
    ranges = ch.in_range u t format.relationships_file id edge.gone.change shape edge.gone.meta (λ _. edge.gone.fits)
        (re.range_stays s u edge.links shape well.ranges);
    free = edge.gone.free;
    split = edge.gone.split;
    was = λ a e. subst (λ (r : RelRow). r.property ≡ format.nil) (same_row a e) edge.bare;
    row = λ a e. absurd (let z : None ≡ Some a = sym rel_gone ∙ e in cc);
    listed = edge.listed;
    filled = filled;
    counted = counted;
    few = few;
    exact = λ g group is kind. counts_less group row (rel_at s) (rel_at t) (high s format.relationships_file) (high t format.relationships_file) id edge.live
        rel_gone change.rels id_low mark
        (rec_at s format.groups_file g) (rec_at t format.groups_file g) (edge.counts g group is kind) (well.exact g group is kind);
  }

  pub gone_well : KeepsRules t shape most empty
  gone_well = edge_well s t shape id well now

  -- ---- the graph
  pub gone_nodes : (graph_of t).nodes ≡ (graph_of s).nodes
  gone_nodes = ec.nodes_stay s t id change

  pub gone_names : names_of t ≡ names_of s
  gone_names = ec.names_stay s t id change

  pub gone_there : list_any (λ e. nat_eq (edge_number e) id) (graph_of s).edges ≡ true
  gone_there = there_collect edge_number (edge_of s) (high s format.relationships_file) id
      (record {
        id = row.id;
        label = text_of (rec_at s format.names_file row.label);
        from = row.from;
        to = row.to;
        properties = properties_from (rec_at s format.names_file) (property_records s) row.property;
      }) (ap (λ (r : RelRow). r.id) (sym row_is.1)) (ap (edge_from (rec_at s format.names_file) (property_records s)) edge.live) id_low

  pub gone_edges : (graph_of t).edges ≡ without_row edge_number id (graph_of s).edges
  gone_edges = ap (collect (edge_of t)) mark ∙ collect_without edge_number (edge_of s) (edge_of t) (high s format.relationships_file) id (edges_numbered s)
      (ec.edge_now s t id change id ∙ ap (edge_from (rec_at s format.names_file) (property_records s)) rel_gone) (λ x _ ne. ec.edge_other s t id change x ne)
      id_low
