-- The head where an end of a relationship stands, in a store that keeps the rules.
use Rattle.std.proofs.Common.{◌≡◌, ◌≢◌, ◌⊎◌, ℕ, zero, suc, nat_eq, Bool, true, false, cond, None, Some, List, refl, sym, ap, ◌∙◌, subst, inl, inr, ⊎_elim}
use Rattle.rec_bytes.specs.declared.shape.Shape.{Shape}
use Rattle.rec_bytes.specs.Format as format
use Rattle.rec_bytes.specs.Record.{field}
use Rattle.rec_bytes.specs.Space.{SameButReads, State, after_get, after_gets}
use Rattle.store_rules.specs.Ends.{IsEndHead}
use Rattle.store_rules.specs.Ranges.{AreInRange, Layout, free_layout, layout_by, node_layout}
use Rattle.store_rules.specs.Rules.{HasGroup, IsEnd, KeepsRules, node_head}
use Rattle.store_rules.specs.Views as views
use Rattle.store_rules.specs.Views.{Records, RelRow, first_link, group_at, group_in, high, kind_at, rec_at, rel_at}
use Rattle.store_rules.proofs.ChainLaws.{walk_of_chain}
use Rattle.store_rules.proofs.NumberLaws.{eq_false, eq_true, nat_cases}
use Rattle.store_rules.proofs.ViewLaws.{kind_below, kind_low, row_some, some_row, group_used}
use Rattle.chain_edit.specs.Walking.{ReadsAtMost}
use Rattle.node_store.specs.Loading as nodes
use Rattle.node_store.proofs.Rows as node_rows
use Rattle.group_store.specs.declared.side.Side.{Side}
use Rattle.group_store.specs.declared.side.Side.TheVariants.{Out, In as Into, Loop}
use Rattle.group_store.specs.GroupChain.{IsDense, IsGroupChain, IsGroupOf, LacksGroup}
use Rattle.group_store.specs.Opening.{IsAt}
use Rattle.group_store.specs.Sides.{group_head, place_of}
use Rattle.group_store.specs.Walking.{IsWalkable}
use Rattle.group_store.proofs.GroupRules.{IsGroupChain-HasGroups}

-- ---- reads

pub same_gets : (n : ℕ) (s : State) → SameButReads s (after_gets n s)
unfolding after_gets
same_gets zero s = refl
same_gets (suc n) s = ap (λ (z : State). record z { reads = (after_get (after_gets n s)).reads }) (same_gets n s)

-- reads change nothing else
pub only_read : (s t : State) (n : ℕ) → ReadsAtMost n s t → SameButReads s t
only_read s t n h = subst (SameButReads s) (sym h.is) (same_gets h.count s)

pub same_twice : (a b c : State) → SameButReads a b → SameButReads b c → SameButReads a c
same_twice a b c h k = k ∙ ap (λ (z : State). record z { reads = c.reads }) h

pub same_records : (s t : State) → SameButReads s t → t.records ≡ s.records
same_records s t h = ap (λ (z : State). z.records) h

-- ---- a node in use is sparse or dense
pub sparse_unless : (s : Records) (shape : Shape) (n : ℕ) → AreInRange s shape → kind_at s format.nodes_file n ≢ 0
    → kind_at s format.nodes_file n ≢ format.dense → kind_at s format.nodes_file n ≡ format.sparse
sparse_unless s shape n ranges used thin =
    let r = rec_at s format.nodes_file n in
    let lt = kind_below (high s format.nodes_file) r n used in
    let low = kind_low (high s format.nodes_file) r n lt in
    let fits = ranges.fit format.nodes_file n refl lt in
    ⊎_elim (λ (e : field 1 r format.kind ≡ format.sparse). low ∙ e)
    (λ (ne : field 1 r format.kind ≢ format.sparse). absurd (none (field 1 r format.kind) fits.layout (λ e. used (low ∙ e)) ne (λ e. thin (low ∙ e)) fits.is))
    (nat_cases (field 1 r format.kind) format.sparse)
  where
    none : (kind : ℕ) (layout : Layout) → kind ≢ 0 → kind ≢ 1 → kind ≢ 2 → layout_by format.nodes_file (rec_at s format.nodes_file n) kind ≡ Some layout → ⊥
    none kind layout a b c is = by (nat_eq kind 0) (nat_eq kind 1) (nat_eq kind 2) (eq_false kind 0 a) (eq_false kind 1 b) (eq_false kind 2 c) is
      where
        by : (free sparse dense : Bool) → free ≡ false → sparse ≡ false → dense ≡ false
            → cond free (free_layout format.nodes_file) (cond sparse (node_layout format.relationships_file) (cond dense (node_layout format.groups_file) None))
            ≡ Some layout → ⊥
        by true sparse dense e f h k = cc
        by false true dense e f h k = cc
        by false false true e f h k = cc
        by false false false e f h k = cc

-- ---- heads

-- an end of a relationship is in use
pub end_used : (s : Records) (shape : Shape) {most : ℕ} {empty : List ℕ} (well : KeepsRules s shape most empty) (n x : ℕ) (row : RelRow) → rel_at s x ≡ Some row
    → IsEnd n row → kind_at s format.nodes_file n ≢ 0
end_used s shape well n x row live end =
    let ends = well.linked.ends x row live in
    ⊎_elim (λ (e : row.from ≡ n). subst (λ m. kind_at s format.nodes_file m ≢ 0) e ends.from)
    (λ (e : row.to ≡ n). subst (λ m. kind_at s format.nodes_file m ≢ 0) e ends.to) end

-- in a group of a dense node, whatever the other records are
module _ (s : Records) (n g label : ℕ) (side : Side) (row : RelRow) (member : IsGroupOf s n g)
    (typed : field 4 (rec_at s format.groups_file g) format.group_type ≡ label) (at : IsAt n label side row) (dense : IsDense s n) where
  there : group_at s g ≡ Some (group_in (rec_at s format.groups_file g) g)
  there = row_some (kind_at s format.groups_file g) (group_in (rec_at s format.groups_file g) g) (group_used (kind_at s format.groups_file g) member.kind)

  place : (z : Side) → (place_of z ≡ format.group_first_out) ⊎ ((place_of z ≡ format.group_first_in) ⊎ (place_of z ≡ format.group_first_loop))
  place Out = inl refl
  place Into = inr (inl refl)
  place Loop = inr (inr refl)

  owner : ℕ
  owner = field 4 (rec_at s format.groups_file g) format.group_owner

  is_eq : (a b : ℕ) → nat_eq a b ≡ true → a ≡ b
  is_eq a b e = ⊎_elim (λ k. k) (λ ne. absurd (clash (sym e ∙ eq_false a b ne))) (nat_cases a b)
    where
      clash : true ≡ false → ⊥
      clash q = cc

  differ : (a b : ℕ) → nat_eq a b ≡ false → a ≢ b
  differ a b e k = clash (sym (eq_true a b k) ∙ e)
    where
      clash : true ≡ false → ⊥
      clash q = cc

  -- which of the three it is
  aside : (loop out : Bool) → nat_eq row.from row.to ≡ loop → nat_eq row.from n ≡ out
      → ((place_of (cond loop Loop (cond out Out Into)) ≡ format.group_first_out) × (row.from ≡ owner) × (row.to ≢ owner))
      ⊎ (((place_of (cond loop Loop (cond out Out Into)) ≡ format.group_first_in) × (row.from ≢ owner) × (row.to ≡ owner))
      ⊎ ((place_of (cond loop Loop (cond out Out Into)) ≡ format.group_first_loop) × (row.from ≡ owner) × (row.to ≡ owner)))
  unfolding owner
  aside true out same leaves =
      let e = is_eq row.from row.to same in
      inr (inr (refl, ⊎_elim (λ f. f) (λ t. e ∙ t) at.end ∙ sym member.owner, ⊎_elim (λ f. sym e ∙ f) (λ t. t) at.end ∙ sym member.owner))
  aside false true same leaves =
      let f = is_eq row.from n leaves in
      inl (refl, f ∙ sym member.owner, λ t. differ row.from row.to same (f ∙ sym member.owner ∙ sym t))
  aside false false same leaves = inr (inl (
    refl,
    (λ f. differ row.from n leaves (f ∙ member.owner)),
    ⊎_elim (λ f. absurd (differ row.from n leaves f)) (λ t. t)
        at.end ∙ sym member.owner,
  ))

  pub group_end : IsEndHead s (group_head g side) n row
  unfolding owner
  group_end = record {
    owns = inr (record {
      dense = dense;
      row = group_in (rec_at s format.groups_file g) g;
      group = there;
      owner = member.owner;
      key = refl;
      field = place side;
    });
    on = inr (
      refl,
      record {
        row = group_in (rec_at s format.groups_file g) g;
        group = there;
        label = at.typed ∙ sym typed;
        side = subst (λ z. ((place_of z ≡ format.group_first_out) × (row.from ≡ field 4 (rec_at s format.groups_file g) format.group_owner) ×
            (row.to ≢ field 4 (rec_at s format.groups_file g) format.group_owner))
            ⊎ (((place_of z ≡ format.group_first_in) × (row.from ≢ field 4 (rec_at s format.groups_file g) format.group_owner) ×
            (row.to ≡ field 4 (rec_at s format.groups_file g) format.group_owner))
            ⊎ ((place_of z ≡ format.group_first_loop) × (row.from ≡ field 4 (rec_at s format.groups_file g) format.group_owner) ×
            (row.to ≡ field 4 (rec_at s format.groups_file g) format.group_owner)))) (sym at.aside)
            (aside (nat_eq row.from row.to) (nat_eq row.from n) refl refl);
      },
    );
  }

module _ (s : Records) (shape : Shape) {most : ℕ} {empty : List ℕ} (well : KeepsRules s shape most empty) (n : ℕ) where
  -- at a sparse node
  pub at_node : kind_at s format.nodes_file n ≢ 0 → (¬ IsDense s n) → (row : RelRow) → IsEnd n row → IsEndHead s (node_head n) n row
  at_node used thin row end = record { owns = inl (record { sparse = sparse_unless s shape n well.ranges used thin; is = refl }); on = inl (refl, end) }

  -- in a group of a dense one
  pub at_group : (g label : ℕ) (side : Side) (row : RelRow) → IsGroupOf s n g → field 4 (rec_at s format.groups_file g) format.group_type ≡ label
      → IsAt n label side row → IsEndHead s (group_head g side) n row
  at_group g label side row member typed at = group_end s n g label side row member typed at
      (subst (λ m. kind_at s format.nodes_file m ≡ format.dense) member.owner
      (well.grouped.owned g (group_in (rec_at s format.groups_file g) g) (row_some (kind_at s format.groups_file g) (group_in (rec_at s format.groups_file g) g)
      (group_used (kind_at s format.groups_file g) member.kind))))

  -- the chain of a dense node's groups
  pub chain_of : IsDense s n → List ℕ
  chain_of dense = (well.grouped.each n dense).members

  pub is_chain : (dense : IsDense s n) → IsGroupChain s n (chain_of dense)
  unfolding chain_of
  is_chain dense = IsGroupChain-HasGroups s shape n well.ranges (well.grouped.each n dense)

  -- a relationship at a dense node has a group there
  pub has_group : IsDense s n → (x label : ℕ) (row : RelRow) → rel_at s x ≡ Some row → IsEnd n row → row.label ≡ label → ¬ LacksGroup s n label
  unfolding chain_of
  has_group dense x label row live end typed lacks =
      let has : HasGroup (group_at s) n row.label = well.linked.typed x n row live end dense in
      let found = some_row (kind_at s format.groups_file has.row.id) (group_in (rec_at s format.groups_file has.row.id) has.row.id) has.row has.group in
      let chain = is_chain dense in
      let member = (well.grouped.each n dense).all has.row.id has.row has.group has.owner in
      lacks has.row.id (chain.only has.row.id member) (ap (λ (r : views.GroupRow). r.label) found.1 ∙ has.label ∙ typed)

module _ (s : State) {most : ℕ} {empty : List ℕ} (well : KeepsRules s.records s.shape most empty) (n : ℕ) where
  pub node_readable : nodes.IsReadable s n
  node_readable = node_rows.IsReadable-AreInRange s n well.ranges

  pub walkable : (dense : IsDense s.records n) → IsWalkable s n (first_link s.records n) (chain_of s.records s.shape well n dense)
  unfolding chain_of
  walkable dense = let c = is_chain s.records s.shape well n dense in record {
    mark = (well.ranges.metas format.groups_file refl).high;
    list = record { walk = walk_of_chain _ _ format.nil (first_link s.records n) (well.grouped.each n dense).members c.chain; only = c.only };
  }
