-- An edge without properties that is taken out of the chains of its ends, and whose identifier is given back.
use Rattle.std.proofs.Common.{◌≡◌, ◌≢◌, ℕ, ◌-◌, List, [], sym, ap, ◌∙◌, subst, ⊎_elim, refl}
use Rattle.rec_bytes.specs.Format as format
use Rattle.rec_bytes.specs.Meta as metas
use Rattle.rec_bytes.specs.Meta.{IsMetaInRange}
use Rattle.rec_bytes.specs.Space.{State}
use Rattle.store_rules.specs.Graph.{names_of}
use Rattle.store_rules.specs.Rules as rules
use Rattle.store_rules.specs.Rules.{IsOn, IsSplit, KeepsRules}
use Rattle.store_rules.specs.Views as views
use Rattle.store_rules.specs.Views.{degree, group_at, is_live, kind_at, rec_at, rel_in}
use Rattle.store_rules.proofs.EdgeChange as ec
use Rattle.store_rules.proofs.EdgeChange.{IsEdgeChange}
use Rattle.store_rules.proofs.EdgeGone.{IsEdgeGone, gone_edges, gone_names, gone_nodes, gone_there, gone_well}
use Rattle.store_rules.proofs.Made.{IsGone}
use Rattle.store_rules.proofs.NumberLaws.{eq_false, eq_true}
use Rattle.store_rules.proofs.Relinks as re
use Rattle.store_rules.proofs.Shapes.{room_small}
use Rattle.store_rules.proofs.ViewLaws.{some_row}
use Rattle.id_freelist.specs.Giving.{CanGive, HasGiven}
use Rattle.id_freelist.proofs.Leaving.{is_gone, not_free_id}
use Rattle.chain_edit.specs.Chains.{next_of, prev_of}
use Rattle.chain_edit.specs.Heads.{head_of}
use Rattle.chain_edit.specs.Links.{IsRightLink}
use Rattle.edge_changes.specs.EdgeDeleting.{IsBareEdge, PartsEdge, StandsAtEnd}
use Rattle.edge_changes.specs.EdgeEnds.{AreApart, HasRightLinks, HaveRightLinks, end_groups, end_parted, ends_parted, parted, source_of, target_of}
use Rattle.change_parts.specs.Store.{IsMidway}
use Rattle.edge_changes.specs.declared.edge_end.EdgeEnd.{EdgeEnd}
use Rattle.edge_changes.specs.declared.edge_end.Ends.{Ends}
use Rattle.edge_changes.specs.declared.edge_end.Ends.TheVariants.{Loop, Two}
use Rattle.edge_changes.proofs.EdgeParted.{HasParted, IsLiveEdge, both_groups, both_parted, edge_left, edge_parted}
use Rattle.edge_changes.proofs.EdgeParted.{from_chain, from_next, from_prev, to_chain, to_next, to_prev}
use Rattle.change_parts.proofs.Elements.{found_degree}
use Rattle.edge_changes.proofs.EndLaws.{at_source, at_target}
use Rattle.change_parts.proofs.KeptIndexes.{edge_graph_indexes}
use Rattle.store_rules.proofs.IndexKept.{edge_indexed}

-- a loop is taken out of one chain, and has one head
each_parted : (s : State) (ends : Ends EdgeEnd) (id : ℕ) → AreApart (λ (end : EdgeEnd). end.node) ends
    → ends_parted s ends id ≡ both_parted s (head_of (source_of ends).head) (head_of (target_of ends).head) (source_of ends).node (target_of ends).node id
    ((source_of ends).degree - 1) ((target_of ends).degree - 1)
each_parted s (Loop end) id apart = rw (eq_true end.node end.node refl) refl
each_parted s (Two source target) id apart = rw (eq_false source.node target.node apart) refl

each_groups : (ends : Ends EdgeEnd) → AreApart (λ (end : EdgeEnd). end.node) ends
    → both_groups (head_of (source_of ends).head) (head_of (target_of ends).head) (source_of ends).node (target_of ends).node ≡ end_groups ends
each_groups (Loop end) apart = rw (eq_true end.node end.node refl) refl
each_groups (Two source target) apart = rw (eq_false source.node target.node apart) refl

module _ (s : State) (names : List (List ℕ)) (id : ℕ) (ends : Ends EdgeEnd) (store : IsMidway s names) (bare : IsBareEdge s id ends) where
  abbrev source : EdgeEnd
  source = source_of ends

  abbrev target : EdgeEnd
  target = target_of ends

  leaves : StandsAtEnd s.records id source
  leaves = at_source (StandsAtEnd s.records id) ends bare.stands

  enters : StandsAtEnd s.records id target
  enters = at_target (StandsAtEnd s.records id) ends bare.stands

  abbrev row : views.RelRow
  row = record { id = id; label = bare.label; from = source.node; to = target.node; property = format.nil }

  abbrev h : rules.Head
  h = head_of source.head

  abbrev k : rules.Head
  k = head_of target.head

  abbrev d : ℕ
  d = source.degree - 1

  abbrev e : ℕ
  e = target.degree - 1

  on_row : (end : EdgeEnd) → (p : StandsAtEnd s.records id end) → IsOn (group_at s.records) (head_of end.head) row
  on_row end p = subst (IsOn (group_at s.records) (head_of end.head)) (same p.stands.row row (sym p.stands.live ∙ bare.there)) p.stands.on
    where
      same : (a b : views.RelRow) → views.row_if 1 a ≡ views.row_if 1 b → a ≡ b
      same a b q = cc

  edge : IsLiveEdge s.records id row h k
  edge = record {
    live = bare.there;
    bare = refl;
    source = record { owns = leaves.owns; on = on_row source leaves };
    target = record { owns = enters.owns; on = on_row target enters };
  }

  d_now : d ≡ degree s.records source.node - 1
  d_now = ap (λ n. n - 1) (found_degree s names source.node source.degree store leaves.degree)

  e_now : e ≡ degree s.records target.node - 1
  e_now = ap (λ n. n - 1) (found_degree s names target.node target.degree store enters.degree)

  -- the links that the edits of chains read
  right_from_prev : IsRightLink s (prev_of s.records source.node id)
  right_from_prev = from_prev s s.shape id row h k edge store.store d e d_now e_now refl

  right_from_next : IsRightLink s (next_of s.records source.node id)
  right_from_next = from_next s s.shape id row h k edge store.store d e d_now e_now refl

  right_to_prev : IsRightLink (parted s h source.node id d) (prev_of (parted s h source.node id d).records target.node id)
  right_to_prev = to_prev s s.shape id row h k edge store.store d e d_now e_now refl

  right_to_next : IsRightLink (parted s h source.node id d) (next_of (parted s h source.node id d).records target.node id)
  right_to_next = to_next s s.shape id row h k edge store.store d e d_now e_now refl

  right_from : HasRightLinks s source id
  right_from = let c = from_chain s s.shape id row h k edge store.store d e d_now e_now in (right_from_prev, right_from_next, c.0, c.1)

  right_to : source.node ≢ target.node → HasRightLinks (end_parted s source id) target id
  right_to differ = let c = to_chain s s.shape id row h k edge store.store d e d_now e_now differ in (right_to_prev, right_to_next, c.0, c.1)

  pub links_right : AreApart (λ (end : EdgeEnd). end.node) ends → HaveRightLinks s ends id
  links_right apart = by ends refl apart
    where
      by : (e : Ends EdgeEnd) → e ≡ ends → AreApart (λ (end : EdgeEnd). end.node) ends → HaveRightLinks s e id
      by (Loop end) is differ = subst (λ (e : Ends EdgeEnd). HasRightLinks s (source_of e) id) (sym is) right_from
      by (Two a b) is differ = (
        subst (λ (e : Ends EdgeEnd). HasRightLinks s (source_of e) id) (sym is) right_from,
        subst (λ (e : Ends EdgeEnd). HasRightLinks (end_parted s (source_of e) id) (target_of e) id) (sym is)
            (right_to (subst (λ (e : Ends EdgeEnd). (source_of e).node ≢ (target_of e).node) is (subst (AreApart (λ (end : EdgeEnd). end.node)) (sym is)
            differ))),
      )

  module _ (u t : State) (apart : AreApart (λ (end : EdgeEnd). end.node) ends) (parts_are : u ≡ ends_parted s ends id) (shape : t.shape ≡ s.shape)
      (given : (free : List ℕ) → CanGive u format.relationships_file id free → HasGiven u.records t.records format.relationships_file id free) where
    is : u ≡ both_parted s h k source.node target.node id d e
    is = parts_are ∙ each_parted s ends id apart

    parts : HasParted s s.shape id row h k edge store.store d e d_now e_now u.records
    parts = subst (λ (z : State). HasParted s s.shape id row h k edge store.store d e d_now e_now z.records) (sym is)
        (edge_parted s s.shape id row h k edge store.store d e d_now e_now)

    split : (free : List ℕ) × IsSplit u.records format.relationships_file (is_live u.records format.relationships_file) free
    split = let p = store.store.split format.relationships_file refl in (p.0, re.split_stays s.records u.records parts.links format.relationships_file p.0 p.1)

    used : kind_at u.records format.relationships_file id ≢ format.free_kind
    used z = (some_row (kind_at s.records format.relationships_file id) (rel_in (rec_at s.records format.relationships_file id) id) row bare.there).0
        (sym (re.kind_stays s.records u.records parts.links format.relationships_file id) ∙ z)

    gone : IsGone u.records t.records s.shape format.relationships_file id
    gone = is_gone u.records t.records s.shape format.relationships_file id split.0 refl split.1 used
        (given split.0 (record { list = split.1.walk; fresh = not_free_id u.records format.relationships_file id split.0 split.1 used }))
        (room_small s.records s.shape format.relationships_file store.store.ranges)
        (subst (IsMetaInRange s.shape format.relationships_file) (sym (re.meta_stays s.records u.records parts.links format.relationships_file))
        (store.store.ranges.metas format.relationships_file refl))

    left : IsEdgeGone s.records u.records t.records s.shape id row [] (both_groups h k source.node target.node)
    left = edge_left s s.shape id row h k edge store.store d e d_now e_now u.records t.records parts gone

    change : IsEdgeChange s.records t.records id
    change = ec.relinked_changed s.records u.records t.records id left.links left.gone.change

    kept : names_of t.records ≡ names_of s.records
    kept = gone_names s.records u.records t.records s.shape id row left store.store

    pub parts_edge : PartsEdge s t names id ends
    parts_edge = record {
      keeps = subst (λ z. KeepsRules t.records z z.threshold (end_groups ends)) (sym shape)
          (subst (KeepsRules t.records s.shape s.shape.threshold) (each_groups ends apart) (gone_well s.records u.records t.records s.shape id row left
          store.store));
      names = store.names ∙ sym kept;
      removes = record {
        there = gone_there s.records u.records t.records s.shape id row left store.store;
        nodes = gone_nodes s.records u.records t.records s.shape id row left store.store;
        edges = gone_edges s.records u.records t.records s.shape id row left store.store;
        names = kept;
        indexes = edge_graph_indexes s.records t.records id change;
      };
      indexes = edge_indexed s.records t.records id change;
      nodes = λ n. ap (λ f. f n) (ec.nodes_same s.records t.records id change);
      kinds = λ n. ap (λ f. f n) (ec.kinds_same s.records t.records id change);
      groups = λ g. ap (λ f. f g) (ec.groups_same s.records t.records id change);
      rels = change.rels;
      less = left.less;
      as_before = λ n a b. left.as_before n (λ end. ⊎_elim (λ q. a (sym q)) (λ q. b (sym q)) end);
      metas = λ file ne. ap metas.meta_of (ec.meta_same s.records t.records id change file ne);
    }
