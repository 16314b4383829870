-- A new relationship's record and its chains, over a store that has its type's name.
use Rattle.std.specs.Prelude.{slice_get}
use Rattle.std.proofs.Common.{◌≡◌, ◌≢◌, ◌⊎◌, ℕ, ◌+◌, ◌<◌, ◌^◌, nat_eq, nat_lt, Bool, true, false, ◌&&◌, ◌||◌, cond}
use Rattle.std.proofs.Common.{Some, List, [], ◌∷◌, sym, ap, ◌∙◌, subst, ⊎_elim, arith, refl}
use Rattle.plain_graph.specs.Graph.{edge_number, with_row}
use Rattle.plain_graph.specs.Properties.{no_properties}
use Rattle.rec_bytes.specs.declared.record.Rec.{Rec}
use Rattle.rec_bytes.specs.declared.shape.Shape.{Shape}
use Rattle.rec_bytes.specs.Format as format
use Rattle.rec_bytes.specs.Meta as metas
use Rattle.rec_bytes.specs.Record.{field}
use Rattle.rec_bytes.specs.Space.{State, put}
use Rattle.rec_bytes.proofs.Spaces.{put_same, put_other}
use Rattle.store_rules.specs.Chains.{In, prev_in}
use Rattle.store_rules.specs.Ends.{IsEndHead, group_of_head}
use Rattle.store_rules.specs.Ranges.{Fits, layout_by, may, must}
use Rattle.store_rules.specs.Rules.{Head, IsEnd, IsOn, IsSplit, IsWellFormed, KeepsRules, Owns, first_of}
use Rattle.store_rules.specs.Views as views
use Rattle.store_rules.specs.Views.{Records, degree, group_at, high, is_live, key_in, kind_at, rec_at, rel_in, text_of}
use Rattle.store_rules.proofs.Changes as ch
use Rattle.store_rules.proofs.EdgeChange as ec
use Rattle.store_rules.proofs.EdgeMade.{IsEdgeMade, made_edges, made_fresh, made_names, made_nodes, made_well}
use Rattle.store_rules.proofs.GraphRows.{degree_most, node_there}
use Rattle.store_rules.proofs.Made.{IsMade}
use Rattle.store_rules.proofs.NumberLaws.{eq_false, eq_true, lt_true}
use Rattle.store_rules.proofs.Shapes.{high_most, room_most, room_small}
use Rattle.store_rules.proofs.ViewLaws.{kind_below}
use Rattle.id_freelist.specs.Taking.{HasTaken}
use Rattle.id_freelist.proofs.Making.{is_made}
use Rattle.rel_store.specs.RelRecord.{rel_record, rel_used}
use Rattle.rel_store.proofs.RelRecords.{HasNumbers, blank-rel_record, kind-rel_record, number-rel_record}
use Rattle.chain_edit.specs.Heads.{head_of}
use Rattle.chain_edit.specs.Links.{IsRightLink}
use Rattle.chain_edit.proofs.OwnedHeads.{owner_used}
use Rattle.group_store.specs.Opening.{IsCountedHead}
use Rattle.edge_changes.specs.declared.edge_end.EdgeEnd.{EdgeEnd}
use Rattle.edge_changes.specs.declared.edge_end.Ends.{Ends}
use Rattle.edge_changes.specs.declared.edge_end.Ends.TheVariants.{Loop, Two}
use Rattle.edge_changes.specs.EdgeEnds.{AreApart, joined, source_of, target_of}
use Rattle.edge_changes.specs.EdgeJoining.{AreRightFirsts, CanJoin, HasPlaced, IsRightFirst, MayStandAt, edge_row, end_joined, ends_joined, new_row, one_more}
use Rattle.edge_changes.specs.EdgePlacing.{IsFirst, PutsEdge}
use Rattle.edge_changes.proofs.EdgeJoined.{IsLoneEdge, at_new, both_joined, edge_joined, first_source, first_target, loop_target, made_right, one_right}
use Rattle.edge_changes.proofs.EndLaws.{at_source, at_target}
use Rattle.change_parts.proofs.NameNumbers.{number_in}
use Rattle.change_parts.proofs.KeptIndexes.{edge_graph_indexes}
use Rattle.store_rules.proofs.IndexKept.{edge_indexed}
use Rattle.store_rules.specs.Graph.{graph_in}

-- ---- the record of a new relationship
module _ (id label from to : ℕ) (label_small : label < 2 ^ 32) (from_small : from < 2 ^ 32) (to_small : to < 2 ^ 32) where
  numbers : HasNumbers (new_row id label from to)
  numbers = record {
    label = label_small;
    from = from_small;
    to = to_small;
    source_previous = omega arith;
    source_next = omega arith;
    target_previous = omega
        arith;
    target_next = omega arith;
    property = omega arith;
  }

  abbrev rec : Rec
  rec = rel_record (new_row id label from to)

  pub new_kind : field 1 rec format.kind ≡ format.related
  new_kind = kind-rel_record (new_row id label from to) numbers

  pub new_is : rel_in rec id ≡ record { id = id; label = label; from = from; to = to; property = format.nil }
  new_is = λ i. record {
    id = id;
    label = number-rel_record (new_row id label from to) format.relationship_type label numbers refl i;
    from = number-rel_record (new_row id label from to) format.relationship_source from numbers refl i;
    to = number-rel_record (new_row id label from to) format.relationship_target to numbers refl i;
    property = number-rel_record (new_row id label from to) format.relationship_first_property format.nil numbers refl i;
  }

  pub new_lone : (n : ℕ) → prev_in rec n ≡ format.nil
  new_lone n = by (nat_eq (field 4 rec 8) n)
    where
      by : (b : Bool) → field 4 rec (cond b 16 24) ≡ format.nil
      by true = number-rel_record (new_row id label from to) format.relationship_source_previous format.nil numbers refl
      by false = number-rel_record (new_row id label from to) format.relationship_target_previous format.nil numbers refl

  -- the links of its target are none
  pub new_pair : (field 4 rec format.relationship_target_previous ≡ format.nil) × (field 4 rec format.relationship_target_next ≡ format.nil)
  new_pair = (
    number-rel_record (new_row id label from to) format.relationship_target_previous format.nil numbers refl,
    number-rel_record (new_row id label from to) format.relationship_target_next format.nil numbers refl,
  )

  pub new_fits : (marks : ℕ → ℕ) → from < marks format.nodes_file → to < marks format.nodes_file → Fits marks format.relationships_file rec
  new_fits marks from_low to_low = record {
    layout = record {
      pointers = must format.relationship_source format.nodes_file ∷ must format.relationship_target format.nodes_file
          ∷ may format.relationship_source_previous format.relationships_file ∷ may format.relationship_source_next format.relationships_file
          ∷ may format.relationship_target_previous format.relationships_file ∷ may format.relationship_target_next format.relationships_file
          ∷ may format.relationship_first_property format.properties_file ∷ [];
      used = rel_used;
    };
    is = ap (layout_by format.relationships_file rec) new_kind;
    point = rw (
      number-rel_record (new_row id label from to) format.relationship_source from numbers refl,
      number-rel_record (new_row id label from to) format.relationship_target to numbers refl,
      number-rel_record (new_row id label from to) format.relationship_source_previous format.nil numbers refl,
      number-rel_record (new_row id label from to) format.relationship_source_next format.nil numbers refl,
      number-rel_record (new_row id label from to) format.relationship_target_previous format.nil numbers refl,
      number-rel_record (new_row id label from to) format.relationship_target_next format.nil numbers refl,
      number-rel_record (new_row id label from to) format.relationship_first_property format.nil numbers refl,
      lt_true from (marks format.nodes_file) from_low,
      lt_true to (marks format.nodes_file) to_low,
    )
        (all_open (nat_lt format.nil (marks format.relationships_file)) (nat_lt format.nil (marks format.properties_file)));
    blank = blank-rel_record (new_row id label from to);
  }
    where
      all_open : (a b : Bool) → ((a || true) && ((a || true) && ((a || true) && ((a || true) && ((b || true) && true))))) ≡ true
      all_open true true = refl
      all_open true false = refl
      all_open false true = refl
      all_open false false = refl

-- ---- numbers of a store
small_label : (v : Records) (shape : Shape) (number : ℕ) {most : ℕ} {empty : List ℕ} → KeepsRules v shape most empty → number < high v format.names_file
    → number < 2 ^ 32
small_label v shape number well known = let h = (well.ranges.metas format.names_file refl).high in omega (arith, known, h)

small_node : (v : Records) (shape : Shape) (a : Head) (n : ℕ) {most : ℕ} {empty : List ℕ} → KeepsRules v shape most empty
    → Owns (kind_at v format.nodes_file) (group_at v) a n → n < 2 ^ 32
small_node v shape a n well o =
    let low = kind_below (high v format.nodes_file) (rec_at v format.nodes_file n) n (owner_used (kind_at v format.nodes_file) (group_at v) a n o) in
    let r = high_most v shape format.nodes_file well.ranges refl in omega arith

-- ---- over a store that has the type
module _ (v m : Records) (t : State) (shape : Shape) (id number from to : ℕ) (h k : Head) (free : List ℕ) {most : ℕ} {empty : List ℕ}
    (well : KeepsRules v shape most empty) (split : IsSplit v format.relationships_file (is_live v format.relationships_file) free)
    (taken : HasTaken v m format.relationships_file id free) (small : id < shape.limit) (known : number < high v format.names_file)
    (put_is : t.records ≡ put m (key_in format.relationships_file id) (rel_record (new_row id number from to)))
    (source : IsEndHead v h from (edge_row id number from to)) (target : IsEndHead v k to (edge_row id number from to))
    (into : (g : ℕ) → In g empty → In g (group_of_head h) ⊎ In g (group_of_head k))
    (few : (n : ℕ) → IsEnd n (edge_row id number from to) → kind_at v format.nodes_file n ≡ format.sparse → degree v n < most) where
  abbrev new : Rec
  new = rel_record (new_row id number from to)

  node_low : (a : Head) (n : ℕ) → Owns (kind_at v format.nodes_file) (group_at v) a n → n < high v format.nodes_file
  node_low a n o = kind_below (high v format.nodes_file) (rec_at v format.nodes_file n) n (owner_used (kind_at v format.nodes_file) (group_at v) a n o)

  from_low : from < high v format.nodes_file
  from_low = node_low h from source.owns

  to_low : to < high v format.nodes_file
  to_low = node_low k to target.owns

  node_small : (n : ℕ) → n < high v format.nodes_file → n < 2 ^ 32
  node_small n low = let r = high_most v shape format.nodes_file well.ranges refl in omega arith

  label_small : number < 2 ^ 32
  label_small = let h = (well.ranges.metas format.names_file refl).high in omega (arith, known, h)

  made : IsMade v t.records shape format.relationships_file id new
  made = is_made v m t.records shape format.relationships_file id free new refl split taken
      (ap (λ (r : Records). r (key_in format.relationships_file id)) put_is ∙ put_same m (key_in format.relationships_file id) new)
      (λ key ne. ap (λ (r : Records). r key) put_is ∙ put_other m (key_in format.relationships_file id) new key ne)
      (λ e. let k = new_kind id number from to label_small (node_small from from_low) (node_small to to_low) in omega arith) small
      (room_small v shape format.relationships_file well.ranges) (well.ranges.metas format.relationships_file refl)

  low_now : (n : ℕ) → n < high v format.nodes_file → n < high t.records format.nodes_file
  low_now n low = let b = ch.marks_le v t.records format.relationships_file id made.change format.nodes_file in omega arith

  pub lone_edge : IsLoneEdge v t.records shape id new (edge_row id number from to) h k most empty
  lone_edge = record {
    made = made;
    is = new_is id number from to label_small (node_small from from_low) (node_small to to_low);
    kind = new_kind id number from to label_small (node_small from from_low) (node_small to to_low);
    fits = new_fits id number from to label_small (node_small from from_low) (node_small to to_low) (high t.records) (low_now from from_low)
        (low_now to to_low);
    lone = new_lone id number from to label_small (node_small from from_low) (node_small to to_low);
    named = known;
    bare = refl;
    source = source;
    target = target;
    into = into;
    few = few;
    small = let r = room_most v shape format.relationships_file well.ranges in omega arith;
  }

-- ---- what the calls leave

-- a loop is put into one chain
each_joined : (s : State) (ends : Ends EdgeEnd) (id : ℕ) → AreApart (λ (end : EdgeEnd). end.node) ends
    → ends_joined s ends id
    ≡ both_joined s (head_of (source_of ends).head) (head_of (target_of ends).head) (source_of ends).node (target_of ends).node id
    (one_more (source_of ends).degree) (one_more (target_of ends).degree)
each_joined s (Loop end) id apart = rw (eq_true end.node end.node refl) refl
each_joined s (Two source target) id apart = rw (eq_false source.node target.node apart) refl

module _ (s t : State) (names : List (List ℕ)) (number : ℕ) (label : List ℕ) (ends : Ends EdgeEnd) (id : ℕ) (can : CanJoin s names number ends)
    (at : slice_get names number ≡ Some label)
    (placed : HasPlaced s t number (source_of ends).node (target_of ends).node id) where
  abbrev source : EdgeEnd
  source = source_of ends

  abbrev target : EdgeEnd
  target = target_of ends

  abbrev row : views.RelRow
  row = edge_row id number source.node target.node

  abbrev edge_rec : Rec
  edge_rec = rel_record (new_row id number source.node target.node)

  abbrev from_head : Head
  from_head = head_of source.head

  abbrev to_head : Head
  to_head = head_of target.head

  leaves : MayStandAt s source row
  leaves = at_source (λ (end : EdgeEnd). MayStandAt s end row) ends (can.stands id)

  enters : MayStandAt s target row
  enters = at_target (λ (end : EdgeEnd). MayStandAt s end row) ends (can.stands id)

  known : (number < high s.records format.names_file) × (text_of (rec_at s.records format.names_file number) ≡ label)
  known = number_in s.records names number label can.named at

  -- the ends are nodes in use, of degrees that can grow
  end_used : (end : EdgeEnd) → MayStandAt s end row → kind_at s.records format.nodes_file end.node ≢ format.free_kind
  end_used end may = owner_used (kind_at s.records format.nodes_file) (group_at s.records) (head_of end.head) end.node may.head.owns

  more_of : (end : EdgeEnd) → MayStandAt s end row → one_more end.degree ≡ degree s.records end.node + 1
  more_of end may = let few = degree_most s.records s.shape can.keeps end.node (end_used end may) in let is = may.degree in omega arith

  few : (n : ℕ) → IsEnd n row → kind_at s.records format.nodes_file n ≡ format.sparse → degree s.records n < s.shape.threshold
  few n end sparse = ⊎_elim (λ (q : source.node ≡ n). at_end source leaves q) (λ (q : target.node ≡ n). at_end target enters q) end
    where
      at_end : (end : EdgeEnd) → MayStandAt s end row → end.node ≡ n → degree s.records n < s.shape.threshold
      at_end end may q = subst (λ z. degree s.records z < s.shape.threshold) q
          (let few = may.few (ap (kind_at s.records format.nodes_file) q ∙ sparse) in let is = may.degree in omega arith)

  lone : IsLoneEdge s.records t.records s.shape id edge_rec row from_head to_head s.shape.threshold can.empty
  lone = let split = can.keeps.split format.relationships_file refl in
      lone_edge s.records placed.took.records t s.shape id number source.node target.node from_head to_head split.0 can.keeps split.1
      (placed.taken split.0 split.1.walk) placed.small known.0
      (ap (λ (z : State). z.records) placed.saved) leaves.head enters.head can.into few

  same_shape : t.shape ≡ s.shape
  same_shape = ap (λ (z : State). z.shape) placed.saved ∙ placed.shape

  abbrev last : State
  last = both_joined t from_head to_head source.node target.node id (one_more source.degree) (one_more target.degree)

  edge : IsEdgeMade s.records t.records last.records s.shape id edge_rec row s.shape.threshold can.empty
  edge = edge_joined s.records t s.shape id edge_rec row from_head to_head lone can.keeps (one_more source.degree) (one_more target.degree)
      (more_of source leaves) (more_of target enters)

  first_right : IsRightLink t (first_of t.records from_head)
  first_right = made_right s.records t s.shape id edge_rec row from_head to_head lone can.keeps (one_more source.degree) (one_more target.degree)
      (more_of source leaves) (more_of target enters) same_shape

  second_right : IsRightLink (joined t from_head source.node id (one_more source.degree))
      (first_of (joined t from_head source.node id (one_more source.degree)).records to_head)
  second_right = one_right s.records t s.shape id edge_rec row from_head to_head lone can.keeps (one_more source.degree) (one_more target.degree)
      (more_of source leaves) (more_of target enters) same_shape

  change : ec.IsEdgeChange s.records last.records id
  change = ec.changed_relinked s.records t.records last.records id edge.made.change edge.links

  -- it stands at the heads
  end_now : (a : Head) (n : ℕ) → IsEndHead s.records a n row → IsEndHead last.records a n row
  end_now a n end = record {
    owns = subst (λ kinds. Owns kinds (group_at last.records) a n) (sym (ec.kinds_same s.records last.records id change))
        (subst (λ groups. Owns (kind_at s.records format.nodes_file) groups a n) (sym (ec.groups_same s.records last.records id change)) end.owns);
    on = subst (λ groups. IsOn groups a row) (sym (ec.groups_same s.records last.records id change)) end.on;
  }

  -- and their groups have counts
  counted_now : (a : Head) → IsCountedHead s.records a → IsCountedHead last.records a
  counted_now a counted file = ec.kind_same s.records last.records id change format.groups_file a.key.id refl (λ e. omega arith) ∙ counted file

  first : IsFirst last.records id source.node target.node
  first =
      let d = one_more source.degree in
      let e = one_more target.degree in
      let a = more_of source leaves in
      let b = more_of target enters in
      let label_small = small_label s.records s.shape number can.keeps known.0 in
      let from_small = small_node s.records s.shape from_head source.node can.keeps leaves.head.owns in
      let to_small = small_node s.records s.shape to_head target.node can.keeps enters.head.owns in
      record {
        row = row;
        there = at_new s.records t s.shape id edge_rec row from_head to_head lone can.keeps d e a b last.records edge.links;
        from_is = refl;
        to_is = refl;
        source = record {
          head = from_head;
          end = end_now from_head source.node leaves.head;
          first = first_source s.records t s.shape id edge_rec row from_head
              to_head lone can.keeps d e a b;
          counted = counted_now from_head leaves.counted;
        };
        target = record {
          head = to_head;
          end = end_now to_head target.node enters.head;
          first = first_target s.records t s.shape id edge_rec row from_head
              to_head lone can.keeps d e a b;
          counted = counted_now to_head enters.counted;
        };
        previous = λ loop. loop_target s.records t s.shape id edge_rec row from_head to_head lone can.keeps d e a b loop format.relationship_target_previous
            (omega arith) (omega arith) ∙ (new_pair id number source.node target.node label_small from_small to_small).0;
        next = λ loop. loop_target s.records t s.shape id edge_rec row from_head to_head lone can.keeps d e a b loop format.relationship_target_next
            (omega arith) (omega arith) ∙ (new_pair id number source.node target.node label_small from_small to_small).1;
      }

  puts : last.shape ≡ s.shape → PutsEdge s last names source.node label target.node id
  puts shape = record {
    store = record {
      store = subst (IsWellFormed last.records) (sym shape) (made_well s.records t.records last.records s.shape id edge_rec row edge can.keeps);
      names = can.named ∙ sym (made_names s.records t.records last.records s.shape id edge_rec row edge can.keeps);
    };
    keeps = edge_indexed s.records last.records id change;
    indexes = edge_graph_indexes s.records last.records id change;
    leaves = node_there s.records source.node (end_used source leaves);
    enters = node_there s.records target.node (end_used target enters);
    below = placed.small;
    fresh = made_fresh s.records t.records last.records s.shape id edge_rec row edge can.keeps;
    nodes = made_nodes s.records t.records last.records s.shape id edge_rec row edge can.keeps;
    edges = made_edges s.records t.records last.records s.shape id edge_rec row edge can.keeps
        ∙ ap (λ l. with_row edge_number (record { id = id; label = l; from = source.node; to = target.node; properties = no_properties }) (graph_in s).edges)
        known.1;
    first = first;
    metas = λ file ne _. ap metas.meta_of (ec.meta_same s.records last.records id (ec.changed_relinked s.records t.records last.records id edge.made.change
        edge.links) file ne);
  }

  pub firsts_right : AreRightFirsts t ends id
  firsts_right = by ends refl
    where
      by : (e : Ends EdgeEnd) → e ≡ ends → AreRightFirsts t e id
      by (Loop end) is = subst (λ (e : Ends EdgeEnd). IsRightFirst t (source_of e)) (sym is) first_right
      by (Two a b) is = (
        subst (λ (e : Ends EdgeEnd). IsRightFirst t (source_of e)) (sym is) first_right,
        subst (λ (e : Ends EdgeEnd). IsRightFirst (end_joined t (source_of e) id) (target_of e)) (sym is) second_right,
      )

  pub puts_edge : (z : State) → AreApart (λ (end : EdgeEnd). end.node) ends → z ≡ ends_joined t ends id → z.shape ≡ s.shape
      → PutsEdge s z names source.node label target.node id
  puts_edge z apart joins shape =
      let is = joins ∙ each_joined t ends id apart in
      subst (λ (q : State). PutsEdge s q names source.node label target.node id) (sym is) (puts (ap (λ (q : State). q.shape) (sym is) ∙ shape))
