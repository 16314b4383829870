-- A sparse node that becomes dense, with no group: its relationships are left to come into groups.
use Rattle.std.proofs.Common.{◌≡◌, ◌≢◌, ◌⊎◌, ℕ, ◌+◌, ◌<◌, ◌≤◌, nat_eq, nat_lt, Bool, true, false, ◌&&◌, ◌||◌, Option}
use Rattle.std.proofs.Common.{Some, List, [], ◌∷◌, length, sym, ap, ◌∙◌, subst, inl, inr, ⊎_elim, arith, refl}
use Rattle.std.specs.List.{list_any}
use Rattle.std.proofs.lemmas.Bool.{cases_lt}
use Rattle.std.proofs.lemmas.Bool.Decides.{nat_tests}
use Rattle.rec_bytes.specs.declared.key.Key.{Key}
use Rattle.rec_bytes.specs.declared.record.Rec.{Rec}
use Rattle.rec_bytes.specs.Format as format
use Rattle.rec_bytes.specs.Record.{field, with_field}
use Rattle.rec_bytes.specs.Space.{State}
use Rattle.rec_bytes.proofs.Numbers.{field-with_field_other, field-with_field_same}
use Rattle.rec_bytes.proofs.Spaces.{put_other, put_other_file, put_same}
use Rattle.node_store.specs.NodeRecord.{node_key}
use Rattle.store_rules.specs.Chains.{In}
use Rattle.store_rules.specs.Ends.{Regroups}
use Rattle.store_rules.specs.Ranges.{Fits, IsBlankOutside, Layout, all_point, bytes_of, is_in, layout_by, may, points}
use Rattle.store_rules.specs.Rules.{HasCounts, HasGroups, Head, IsEnd, IsGrouped, IsInGroup, IsListed, KeepsRules, Owns}
use Rattle.store_rules.specs.Rules.{StandsAt, first_of, node_head, stands_in}
use Rattle.store_rules.specs.Rows.{ids}
use Rattle.store_rules.specs.Views as views
use Rattle.store_rules.specs.Views.{Records, RelRow, degree, first_link, group_at, high, key_in, kind_at, kind_in, rec_at, rel_at, rel_in}
use Rattle.store_rules.proofs.ChainLaws.{walk_of_chain}
use Rattle.store_rules.proofs.Counts.{in_ids}
use Rattle.store_rules.proofs.Frames.{split_same}
use Rattle.store_rules.proofs.NumberLaws.{and_parts, eq_true, nat_cases}
use Rattle.store_rules.proofs.OnceLaws.{length_once, once_walk}
use Rattle.store_rules.proofs.ViewLaws.{kind_below, kind_low, some_row}
use Rattle.chain_edit.specs.Chains.{next_of}
use Rattle.group_store.specs.Leaving.{LeavesOthers}
use Rattle.group_store.specs.Spreading.{IsLinkedBut, IsSpread, StandsBut, cleared}
use Rattle.group_store.proofs.CountedRels.{counted_other}
use Rattle.group_store.proofs.GroupSteps.{range_put}
use Rattle.group_store.proofs.MadeRules.{listed_again}
use Rattle.group_store.proofs.Regrouping as re
use Rattle.group_store.proofs.Regrouping.{IsFrame, KeepsRules-KeepsOthers, others_stay, regroups_of}

-- ---- the record of the node

abbrev pub clear_of : Rec → Rec
clear_of r = with_field 4 (with_field 1 r format.kind format.dense) format.node_first_link format.nil

-- numbers but the kind and the first link stay
pub clear_other : (r : Rec) (n at : ℕ) → at + n ≤ 64 → 1 ≤ at → (at + n ≤ 8) ⊎ (12 ≤ at) → field n (clear_of r) at ≡ field n r at
clear_other r n at inside one apart = field-with_field_other 4 (with_field 1 r format.kind format.dense) format.node_first_link format.nil n at inside
    (⊎_elim (λ l. inr l) (λ l. inl l) apart)
    ∙ field-with_field_other 1 r format.kind format.dense n at inside (inl one)

pub clear_kind : (r : Rec) → field 1 (clear_of r) format.kind ≡ format.dense
clear_kind r = field-with_field_other 4 (with_field 1 r format.kind format.dense) format.node_first_link format.nil 1 format.kind (omega arith)
    (inr (omega arith))
    ∙ field-with_field_same 1 r format.kind format.dense (omega arith) (omega arith)

pub clear_first : (r : Rec) → field 4 (clear_of r) format.node_first_link ≡ format.nil
clear_first r = field-with_field_same 4 (with_field 1 r format.kind format.dense) format.node_first_link format.nil (omega arith) (omega arith)

abbrev layout_is : ℕ → Layout
layout_is into = record {
  pointers = may format.node_first_link into ∷ may format.node_first_property format.properties_file ∷ [];
  used = bytes_of format.kind 1 ∷ bytes_of format.node_label 16 ∷ [];
}

outside : (i : ℕ) → list_any (is_in i) (bytes_of format.kind 1 ∷ bytes_of format.node_label 16 ∷ []) ≡ false → (1 ≤ i) × ((i + 1 ≤ 8) ⊎ (12 ≤ i))
outside i out = ⊎_elim (λ (low : i < 4). (⊎_elim (λ (z : i < 1). absurd (zero z)) (λ (ge : 1 ≤ i). ge) (cases_lt i 1), inl (omega arith)))
    (λ (ge : 4 ≤ i). (omega arith, ⊎_elim (λ (l : i < 20). absurd (inside l ge)) (λ (k : 20 ≤ i). inr (omega arith)) (cases_lt i 20))) (cases_lt i 4)
  where
    zero : i < 1 → ⊥
    zero lt = let a : 1 ≤ i = grind (arith, nat_tests) in omega arith

    inside : i < 20 → 4 ≤ i → ⊥
    inside lt ge = let a : 20 ≤ i = grind (arith, nat_tests) in omega arith

clear_fits : (marks : ℕ → ℕ) (r : Rec) → field 1 r format.kind ≡ format.sparse → Fits marks format.nodes_file r → Fits marks format.nodes_file (clear_of r)
clear_fits marks r sparse h =
    let same : layout_is format.relationships_file ≡ h.layout = inner (layout_is format.relationships_file) h.layout
    (ap (layout_by format.nodes_file r) (sym sparse) ∙ h.is) in
    let old : all_point marks r (layout_is format.relationships_file).pointers ≡ true =
    subst (λ (l : Layout). all_point marks r l.pointers ≡ true) (sym same) h.point in
    let property = (and_parts _ _ (and_parts _ _ old).1).0 in
    let property_now : points marks (clear_of r) (may format.node_first_property format.properties_file) ≡ true
    = ap (λ v. nat_lt v (marks format.properties_file) || (true && nat_eq v format.nil))
    (clear_other r 4 format.node_first_property (omega arith) (omega arith) (inr (omega arith))) ∙ property in
    let first_now : points marks (clear_of r) (may format.node_first_link format.groups_file) ≡ true
    = ap (λ v. nat_lt v (marks format.groups_file) || (true && nat_eq v format.nil)) (clear_first r)
    ∙ right_of (nat_lt format.nil (marks format.groups_file)) in
    record {
      layout = layout_is format.groups_file;
      is = ap (layout_by format.nodes_file (clear_of r)) (clear_kind r);
      point = rw (first_now, property_now) refl;
      blank = λ i lt out. let apart = outside i out in clear_other r 1 i (omega arith) apart.0 apart.1
          ∙ (subst (λ (l : Layout). IsBlankOutside l.used r) (sym same) h.blank) i lt out;
    }
  where
    inner : (a b : Layout) → Some a ≡ Some b → a ≡ b
    inner a b e = cc

    right_of : (a : Bool) → (a || true) ≡ true
    right_of true = refl
    right_of false = refl

-- ---- the store

-- a relationship at a node is counted for it
pub stands_true : (n : ℕ) (row : RelRow) → IsEnd n row → stands_in n (Some row) ≡ true
stands_true n row (inl e) = rw (eq_true row.from n e) refl
stands_true n row (inr e) = rw (eq_true row.to n e) (right_of (nat_eq row.from n))
  where
    right_of : (a : Bool) → (a || true) ≡ true
    right_of true = refl
    right_of false = refl

module _ (s : State) (node most : ℕ) (empty : List ℕ) (keeps : KeepsRules s.records s.shape most empty)
    (sparse : kind_at s.records format.nodes_file node ≡ format.sparse) where
  abbrev t : State
  t = cleared s node

  abbrev old : Rec
  old = rec_at s.records format.nodes_file node

  abbrev kind : ℕ → ℕ
  kind = kind_at s.records format.nodes_file

  abbrev groups : ℕ → Option views.GroupRow
  groups = group_at s.records

  abbrev rels : ℕ → Option RelRow
  rels = rel_at s.records

  low : node < high s.records format.nodes_file
  low = kind_below (high s.records format.nodes_file) old node (λ e. let k = sym e ∙ sparse in omega arith)

  here : rec_at t.records format.nodes_file node ≡ clear_of old
  here = put_same s.records (node_key node) (clear_of old)

  other : (x : ℕ) → x ≢ node → rec_at t.records format.nodes_file x ≡ rec_at s.records format.nodes_file x
  other x ne = put_other s.records (node_key node) (clear_of old) (key_in format.nodes_file x) (λ e. ne (ap (λ (k : Key). k.id) e))

  frame : IsFrame s.records t.records node
  frame = record {
    others = λ key a b c d. put_other_file s.records (node_key node) (clear_of old) key a;
    nodes = λ x n at inside one apart. ⊎_elim
        (λ (e : x ≡ node). subst (λ z. field n (rec_at t.records format.nodes_file z) at ≡ field n (rec_at s.records format.nodes_file z) at) (sym e)
        (ap (λ r. field n r at) here ∙ clear_other old n at inside one apart))
        (λ (ne : x ≢ node). ap (λ r. field n r at) (other x ne)) (nat_cases x node);
    kinds = λ x ne. ap (λ r. kind_in (high s.records format.nodes_file) r x) (other x ne);
    here = inr (
      sparse,
      kind_low (high s.records format.nodes_file) (rec_at t.records format.nodes_file node) node low ∙ ap (λ r. field 1 r format.kind) here
          ∙ clear_kind old,
    );
    rels = λ x n at inside apart. refl;
  }

  dense_now : kind_at t.records format.nodes_file node ≡ format.dense
  dense_now = kind_low (high s.records format.nodes_file) (rec_at t.records format.nodes_file node) node low ∙ ap (λ r. field 1 r format.kind) here
      ∙ clear_kind old

  -- the node had no group
  no_group : (g : ℕ) (row : views.GroupRow) → groups g ≡ Some row → row.owner ≡ node → ⊥
  no_group g row is owner = let d = keeps.grouped.owned g row is in let z = sym (ap kind owner ∙ sparse) ∙ d in omega arith

  dense_was : (n : ℕ) → n ≢ node → kind_at t.records format.nodes_file n ≡ format.dense → kind n ≡ format.dense
  dense_was n ne d = sym (frame.kinds n ne) ∙ d

  first_same : (n : ℕ) → n ≢ node → first_link t.records n ≡ first_link s.records n
  first_same n ne = ap (λ r. field 4 r format.node_first_link) (other n ne)

  grouped : IsGrouped (kind_at t.records format.nodes_file) (first_link t.records) (rec_at s.records format.groups_file) groups empty
  grouped = record {
    owned = λ g row is. re.dense_same s.records t.records node frame row.owner (keeps.grouped.owned g row is);
    each = λ n d. ⊎_elim
        (λ (e : n ≡ node). subst (λ z. HasGroups (first_link t.records z) z (rec_at s.records format.groups_file) groups empty) (sym e) (record {
          members = [];
          chain = ap (λ r. field 4 r format.node_first_link) here ∙ clear_first old;
          only = λ g i. elim i [ ];
          filled = λ g i. elim i [ ];
          all = λ g row is owner. absurd (no_group g row is owner);
          once = λ g k i j same. elim i [ ];
        }))
        (λ (ne : n ≢ node). subst (λ f. HasGroups f n (rec_at s.records format.groups_file) groups empty) (sym (first_same n ne))
        (keeps.grouped.each n (dense_was n ne d))) (nat_cases n node);
  }

  -- what is left
  node_list : IsListed s.records (node_head node) node (StandsAt rels groups (node_head node))
  node_list = keeps.linked.listed.each (node_head node) node (inl (record { sparse = sparse; is = refl }))

  pub rest : List ℕ
  rest = node_list.members

  pub at_node : (x : ℕ) (row : RelRow) → rels x ≡ Some row → IsEnd node row → In x rest
  unfolding rest
  at_node x row is end = node_list.all x (record { row = row; live = is; on = inl (refl, end) })

  listed : (h : Head) (n : ℕ) → Owns (kind_at t.records format.nodes_file) groups h n → IsListed t.records h n (StandsBut rels groups node rest h)
  listed h n o = listed_again s.records t.records h n (StandsAt rels groups h) (StandsBut rels groups node rest h) (λ x. refl) (first_is o)
      (λ x a. record { stands = a; apart = λ k. absurd (no_group h.key.id k.row k.group k.owner) }) (λ x a. a.stands) (keeps.linked.listed.each h n (was o))
    where
      not_node : (kind_at t.records format.nodes_file n ≡ format.sparse) → n ≢ node
      not_node is e = let z = sym dense_now ∙ ap (kind_at t.records format.nodes_file) (sym e) ∙ is in omega arith

      was : Owns (kind_at t.records format.nodes_file) groups h n → Owns kind groups h n
      was (inl o) = inl (record { sparse = re.sparse_was s.records t.records node frame n o.sparse; is = o.is })
      was (inr o) = inr (record {
        dense = ap kind (sym o.owner) ∙ keeps.grouped.owned o.row.id o.row o.group;
        row = o.row;
        group = o.group;
        owner = o.owner;
        key = o.key;
        field = o.field;
      })

      first_is : Owns (kind_at t.records format.nodes_file) groups h n → first_of t.records h ≡ first_of s.records h
      first_is (inl o) = ap (first_of t.records) o.is ∙ first_same n (not_node o.sparse) ∙ sym (ap (first_of s.records) o.is)
      first_is (inr o) = ap (λ (k : Key). field 4 (t.records k) h.field) o.key ∙ sym (ap (λ (k : Key). field 4 (s.records k) h.field) o.key)

  linked : IsLinkedBut t.records (kind_at t.records format.nodes_file) rels groups node rest
  linked = record {
    ends = λ x q e. let k = keeps.linked.ends x q e in record {
      from = re.used_same s.records t.records node frame q.from k.from;
      to = re.used_same s.records
          t.records node frame q.to k.to;
    };
    typed = λ x n q e end d left. ⊎_elim
        (λ (m : n ≡ node). absurd (left m (at_node x q e (subst (λ z. IsEnd z q) m end))))
        (λ (ne : n ≢ node). keeps.linked.typed x n q e end (dense_was n ne d)) (nat_cases n node);
    listed = record { each = listed };
  }

  pub spread_cleared : IsSpread t node (first_link s.records node) rest most empty
  unfolding rest
  spread_cleared = record {
    keeps = record {
      others = others_stay s.records t.records node frame s.shape most (KeepsRules-KeepsOthers s.records s.shape most empty keeps)
          (range_put s.records s.shape format.nodes_file node (clear_of old) refl (λ lt. clear_fits (high s.records) old
          (sym (kind_low (high s.records format.nodes_file) old node low) ∙ sparse) (keeps.ranges.fit format.nodes_file node refl lt)) keeps.ranges)
          (keeps.split format.groups_file refl).0 (split_same s.records t.records format.groups_file (keeps.split format.groups_file refl).0
          (record { meta = refl; each = λ y. refl }) (keeps.split format.groups_file refl).1);
      linked = linked;
      grouped = grouped;
    };
    dense = dense_now;
    walk = walk_of_chain _ _ format.nil (first_link s.records node) node_list.members node_list.chain;
    ends = λ x i. let a = node_list.only x i in (a.row, a.live, end_of x a a.on);
    exact = λ g row is kind. let ne : row.owner ≢ node = no_group g row is in
        subst (λ (f : ℕ → Option RelRow). HasCounts (rec_at s.records format.groups_file g) row f (high s.records format.relationships_file))
        (sym (counted_other node row.owner node_list.members rels ne)) (keeps.exact g row is kind);
    counted = λ g row is owner. absurd (no_group g row is owner);
  }
    where
      end_of : (x : ℕ) (a : StandsAt rels groups (node_head node) x) → ((format.nodes_file ≡ format.nodes_file) × IsEnd node a.row)
          ⊎ ((format.nodes_file ≡ format.groups_file) × IsInGroup groups (node_head node) a.row) → IsEnd node a.row
      end_of x a (inl k) = k.1
      end_of x a (inr k) = absurd (let z = k.0 in omega arith)

  pub regroups_cleared : Regroups s t node
  regroups_cleared = regroups_of s t node frame refl (λ g row is ne. is)

  pub leaves_cleared : LeavesOthers s t node
  leaves_cleared = record {
    files = λ key a b c d. frame.others key a b c d;
    nodes = λ x n at inside ne. ap (λ r. field n r at) (other x ne);
    here = λ n at inside one apart. frame.nodes node n at inside one apart;
    rels = λ x n at some inside beside. refl;
    groups = λ g q is ne n at inside. refl;
  }

  -- as many as the degree says at most
  pub few_left : length rest ≤ degree s.records node
  unfolding rest
  few_left = subst (λ d. length node_list.members ≤ d) (sym (keeps.degrees.each node (λ e. let k = sym e ∙ sparse in omega arith)))
      (length_once node_list.members (ids (λ x. stands_in node (rels x)) (high s.records format.relationships_file))
      (once_walk (next_of s.records node) (first_link s.records node) node_list.members (walk_of_chain _ _ format.nil (first_link s.records node)
      node_list.members node_list.chain))
      (λ x i. let e = spread_cleared.ends x i in in_ids (λ y. stands_in node (rels y)) (high s.records format.relationships_file) x
      (kind_below (high s.records format.relationships_file) (rec_at s.records format.relationships_file x) x
      (some_row (kind_at s.records format.relationships_file x) (rel_in (rec_at s.records format.relationships_file x) x) e.0 e.1).0)
      (ap (stands_in node) e.1 ∙ stands_true node e.0 e.2)))
