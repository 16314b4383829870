-- A relationship that is made keeps the rules, and is one more edge of the graph.
use Rattle.std.specs.List.{list_any}
use Rattle.std.proofs.Common.{◌≡◌, ◌≢◌, ◌⊎◌, ℕ, ◌+◌, ◌<◌, ◌≤◌, nat_eq, Bool, true, false, ◌||◌, None, Some, List, []}
use Rattle.std.proofs.Common.{length, sym, ap, ◌∙◌, subst, inl, inr, ⊎_elim, arith, refl}
use Rattle.plain_graph.specs.Graph.{Edge, edge_number, with_row}
use Rattle.plain_graph.specs.Properties.{Properties, no_properties}
use Rattle.rec_bytes.specs.declared.record.Rec.{Rec}
use Rattle.rec_bytes.specs.declared.shape.Shape.{Shape}
use Rattle.rec_bytes.specs.Format as format
use Rattle.rec_bytes.specs.Record.{field}
use Rattle.store_rules.specs.Chains.{In}
use Rattle.store_rules.specs.Graph.{edge_from, edge_of, graph_of, names_of}
use Rattle.store_rules.specs.Properties.{properties_from, property_records}
use Rattle.store_rules.specs.Ranges.{Fits}
use Rattle.store_rules.specs.Rules.{AllListed, IsEnd, IsInGroup, KeepsRules, Owns, StandsAt, degree_of, is_filled, stands_in}
use Rattle.store_rules.specs.Views.{GroupRow, Records, RelRow, degree, group_at, high, is_at, kind_at, rec_at, rel_at, rel_in, text_of}
use Rattle.store_rules.proofs.Changes as ch
use Rattle.store_rules.proofs.CountLaws.{HasOneMore, counts_more}
use Rattle.store_rules.proofs.Counts.{ids_kept, ids_with}
use Rattle.store_rules.proofs.EdgeChange as ec
use Rattle.store_rules.proofs.EdgeChange.{IsEdgeChange, IsEdgeStore, IsGoodRow, edge_well, rels_relinked}
use Rattle.store_rules.proofs.FilledGroups.{filled_by, filled_has, group_head, in_place}
use Rattle.store_rules.proofs.GraphRows.{edges_numbered}
use Rattle.store_rules.proofs.GroupLaws.{IsFirstPlace}
use Rattle.store_rules.proofs.Made.{IsMade}
use Rattle.store_rules.proofs.NumberLaws.{eq_false, eq_true, nat_cases}
use Rattle.store_rules.proofs.PropertyLists.{properties_from-nil}
use Rattle.store_rules.proofs.Relinks as re
use Rattle.store_rules.proofs.Relinks.{IsRelinked}
use Rattle.store_rules.proofs.RowLaws.{fresh_collect, rows_with}
use Rattle.store_rules.proofs.ViewLaws.{kind_low, row_none, row_some}

-- a node is an end of the row, or isn't
pub end_cases : {P : Type 0} (n : ℕ) (row : RelRow) → (IsEnd n row → is_at n row ≡ true → P) → (¬ IsEnd n row → is_at n row ≡ false → P) → P
end_cases n row at out = ⊎_elim
    (λ (e : row.from ≡ n). at (inl e) (rw (eq_true row.from n e) refl))
    (λ (a : row.from ≢ n). ⊎_elim
    (λ (e : row.to ≡ n). at (inr e) (rw (eq_true row.to n e) (or_true (nat_eq row.from n))))
    (λ (b : row.to ≢ n). out (λ i. ⊎_elim a b i) (rw (eq_false row.from n a, eq_false row.to n b) refl)) (nat_cases row.to n)) (nat_cases row.from n)
  where
    or_true : (a : Bool) → (a || true) ≡ true
    or_true true = refl
    or_true false = refl

-- The record of a relationship was made, and then links and degrees were set. Each group that was empty has it, and a sparse end had less than the most.
pub record IsEdgeMade (s m t : Records) (shape : Shape) (id : ℕ) (rec : Rec) (row : RelRow) (most : ℕ) (empty : List ℕ) : Type 0 where
  pub made : IsMade s m shape format.relationships_file id rec
  pub links : IsRelinked m t
  pub is : rel_in rec id ≡ row
  pub used : field 1 rec format.kind ≢ format.free_kind
  pub fits : Fits (high m) format.relationships_file rec
  pub good : IsGoodRow s row
  pub listed : AllListed t (Owns (kind_at s format.nodes_file) (group_at s)) (StandsAt (rel_at t) (group_at s))
  pub into : (g : ℕ) → In g empty → (at : ℕ) × IsInGroup (group_at s) (group_head g at) row
  pub more : (n : ℕ) → IsEnd n row → degree t n ≡ degree s n + 1
  pub as_before : (n : ℕ) → ¬ IsEnd n row → degree t n ≡ degree s n
  pub few : (n : ℕ) → IsEnd n row → kind_at s format.nodes_file n ≡ format.sparse → degree s n < most
  pub counts : (g : ℕ) (group : GroupRow) → group_at s g ≡ Some group → kind_at s format.groups_file g ≡ format.counted
      → HasOneMore (rec_at s format.groups_file g) (rec_at t format.groups_file g) group row

-- the row of a record that was made, and none before
pub made_row : (s m : Records) (shape : Shape) (id : ℕ) (rec : Rec) → IsMade s m shape format.relationships_file id rec
    → field 1 rec format.kind ≢ format.free_kind → rel_at m id ≡ Some (rel_in rec id)
made_row s m shape id rec made used = row_some (kind_at m format.relationships_file id) (rel_in (rec_at m format.relationships_file id) id)
    (λ e. used (sym (kind_low (high m format.relationships_file) (rec_at m format.relationships_file id) id made.below ∙ ap (λ r. field 1 r format.kind)
    made.here) ∙ e)) ∙ ap (λ r. Some (rel_in r id)) made.here

pub no_row : (s : Records) (id : ℕ) → kind_at s format.relationships_file id ≡ format.free_kind → rel_at s id ≡ None
no_row s id free = row_none (kind_at s format.relationships_file id) (rel_in (rec_at s format.relationships_file id) id) free

module _ (s m t : Records) (shape : Shape) (id : ℕ) (rec : Rec) (row : RelRow) {most : ℕ} {empty : List ℕ} (edge : IsEdgeMade s m t shape id rec row most empty)
    (well : KeepsRules s shape most empty) where
  change : IsEdgeChange s t id
  change = ec.changed_relinked s m t id edge.made.change edge.links

  rel_old : rel_at s id ≡ None
  rel_old = no_row s id edge.made.fresh

  rel_new : rel_at t id ≡ Some row
  rel_new = rels_relinked m t edge.links id ∙ made_row s m shape id rec edge.made edge.used ∙ ap (λ r. Some r) edge.is

  mark : high t format.relationships_file ≡ high m format.relationships_file
  mark = re.mark_stays m t edge.links format.relationships_file

  way : (high t format.relationships_file ≡ high s format.relationships_file)
      ⊎ ((id ≡ high s format.relationships_file) × (high t format.relationships_file ≡ high s format.relationships_file + 1))
  way = ⊎_elim (λ e. inl (mark ∙ e)) (λ k. inr (k.0, mark ∙ k.1)) edge.made.grows

  below : id < high t format.relationships_file
  below = let b = edge.made.below in let e = mark in omega arith

  more_at : (n : ℕ) → is_at n row ≡ true → degree_of (rel_at t) (high t format.relationships_file) n ≡ degree_of (rel_at s) (high s format.relationships_file)
      n + 1
  more_at n e = ids_with (λ x. stands_in n (rel_at s x)) (λ x. stands_in n (rel_at t x)) (high s format.relationships_file) (high t format.relationships_file)
      id
      (ap (stands_in n) rel_old) (ap (stands_in n) rel_new ∙ e) (λ x ne. ap (stands_in n) (change.rels x ne)) below way

  same_at : (n : ℕ) → is_at n row ≡ false → degree_of (rel_at t) (high t format.relationships_file) n ≡ degree_of (rel_at s) (high s format.relationships_file)
      n
  same_at n e = ap length (ids_kept (λ x. stands_in n (rel_at s x)) (λ x. stands_in n (rel_at t x)) (high s format.relationships_file)
      (high t format.relationships_file) id
      (λ x. ⊎_elim (λ (k : x ≡ id). ap (λ z. stands_in n (rel_at t z)) k ∙ ap (stands_in n) rel_new ∙ e ∙ sym (ap (stands_in n) rel_old) ∙ ap
      (λ z. stands_in n (rel_at s z)) (sym k)) (λ ne. ap (stands_in n) (change.rels x ne)) (nat_cases x id))
      (ap (stands_in n) rel_old) way)

  counted : (n : ℕ) → kind_at s format.nodes_file n ≢ format.free_kind → degree t n ≡ degree_of (rel_at t) (high t format.relationships_file) n
  counted n some = end_cases n row
      (λ end at. edge.more n end ∙ ap (λ d. d + 1) (well.degrees.each n some) ∙ sym (more_at n at))
      (λ out at. edge.as_before n out ∙ well.degrees.each n some ∙ sym (same_at n at))

  same_row : (a : RelRow) → rel_at t id ≡ Some a → row ≡ a
  same_row a e = inner row a (sym rel_new ∙ e)
    where
      inner : (a b : RelRow) → Some a ≡ Some b → a ≡ b
      inner a b e = cc

  -- a group has what it had, or the new one
  filled : (g : ℕ) (group : GroupRow) → group_at s g ≡ Some group → is_filled (rec_at t format.groups_file g) ≡ true
  filled g group is =
      let has = well.grouped.each group.owner (well.grouped.owned g group is) in
      ⊎_elim (λ (k : is_filled (rec_at s format.groups_file g) ≡ true). stays (filled_has s well.grouped g group is s (rel_at s) well.linked.listed k))
      (λ (k : In g empty). comes (edge.into g k)) (has.filled g (has.all g group is refl))
    where
      by : (at x : ℕ) → IsFirstPlace at → StandsAt (rel_at t) (group_at s) (group_head g at) x → is_filled (rec_at t format.groups_file g) ≡ true
      by = filled_by s well.grouped g group is t (rel_at t) edge.listed

      stays : (at : ℕ) × (x : ℕ) × IsFirstPlace at × StandsAt (rel_at s) (group_at s) (group_head g at) x → is_filled (rec_at t format.groups_file g) ≡ true
      stays k = by k.0 k.1 k.2 (record {
        row = k.3.row;
        live = change.rels k.1 (λ e. absurd (let z : None ≡ Some k.3.row = sym rel_old ∙ ap (rel_at s) (sym e) ∙ k.3.live in cc)) ∙ k.3.live;
        on = k.3.on;
      })

      comes : (at : ℕ) × IsInGroup (group_at s) (group_head g at) row → is_filled (rec_at t format.groups_file g) ≡ true
      comes k = by k.0 id (in_place (group_at s) (group_head g k.0) row k.1) (record { row = row; live = rel_new; on = inr (refl, k.1) })

  few : (n : ℕ) → kind_at s format.nodes_file n ≡ format.sparse → degree t n ≤ most
  few n sparse = end_cases n row
      (λ end at. let a = edge.more n end in let b = edge.few n end sparse in omega arith)
      (λ out at. let a = edge.as_before n out in let b = well.degrees.few n sparse in omega arith)

  now : IsEdgeStore s t shape id most []
  now = record {
    change = change;
    ranges = re.range_stays m t edge.links shape
        (ch.in_range s m format.relationships_file id edge.made.change shape edge.made.meta (λ _. subst (Fits (high m) format.relationships_file)
        (sym edge.made.here) edge.fits) well.ranges);
    free = edge.made.free;
    split = re.split_stays m t edge.links format.relationships_file edge.made.free edge.made.split;
    was = λ a e. absurd (let z : None ≡ Some a = sym rel_old ∙ e in cc);
    row = λ a e. subst (IsGoodRow s) (same_row a e) edge.good;
    listed = edge.listed;
    filled = λ g group is. inl (filled g group is);
    counted = counted;
    few = few;
    exact = λ g group is kind. counts_more group row (rel_at s) (rel_at t) (high s format.relationships_file) (high t format.relationships_file) id rel_old
        rel_new change.rels below way
        (rec_at s format.groups_file g) (rec_at t format.groups_file g) (edge.counts g group is kind) (well.exact g group is kind);
  }

  pub made_well : KeepsRules t shape most []
  made_well = edge_well s t shape id well now

  -- ---- the graph
  pub made_nodes : (graph_of t).nodes ≡ (graph_of s).nodes
  made_nodes = ec.nodes_stay s t id change

  pub made_names : names_of t ≡ names_of s
  made_names = ec.names_stay s t id change

  none_before : edge_of s id ≡ None
  none_before = ap (edge_from (rec_at s format.names_file) (property_records s)) rel_old

  pub made_fresh : list_any (λ e. nat_eq (edge_number e) id) (graph_of s).edges ≡ false
  made_fresh = fresh_collect edge_number (edge_of s) (high s format.relationships_file) id (edges_numbered s) none_before

  number_is : row.id ≡ id
  number_is = ap (λ (r : RelRow). r.id) (sym edge.is)

  abbrev new_edge : ℕ → Properties → Edge
  new_edge n properties = record { id = n; label = text_of (rec_at s format.names_file row.label); from = row.from; to = row.to; properties = properties }

  pub made_edges : (graph_of t).edges ≡ with_row edge_number (record {
    id = id;
    label = text_of (rec_at s format.names_file row.label);
    from = row.from;
    to =
        row.to;
    properties = no_properties;
  }) (graph_of s).edges
  made_edges = rows_with edge_number (edge_of s) (edge_of t) (high s format.relationships_file) (high t format.relationships_file) id
      (new_edge id no_properties) (edges_numbered s) refl none_before
      (ec.edge_now s t id change id ∙ ap (edge_from (rec_at s format.names_file) (property_records s)) rel_new
      ∙ ap (λ n. Some (new_edge n (properties_from (rec_at s format.names_file) (property_records s) row.property))) number_is
      ∙ ap (λ p. Some (new_edge id (properties_from (rec_at s format.names_file) (property_records s) p))) edge.good.bare
      ∙ ap (λ p. Some (new_edge id p)) (properties_from-nil (rec_at s format.names_file) (property_records s)))
      (ec.edge_other s t id change) below way
