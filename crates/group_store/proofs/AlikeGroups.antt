-- What the groups of a node tell in two spaces that say the same of its group chain.
use Rattle.std.specs.Prelude.{not}
use Rattle.std.proofs.Common.{◌≡◌, ℕ, ◌+◌, ◌<◌, ◌≤◌, nat_eq, Bool, true, false, cond, Option, None, Some, List, sym, ap}
use Rattle.std.proofs.Common.{◌∙◌, subst, inl, inr, ⊎_elim, arith, refl}
use Rattle.rec_bytes.specs.declared.damage.Damage.{Damage}
use Rattle.rec_bytes.specs.declared.record.Rec.{Rec}
use Rattle.rec_bytes.specs.declared.shape.Shape.{Shape}
use Rattle.rec_bytes.specs.Format as format
use Rattle.rec_bytes.specs.Meta as metas
use Rattle.rec_bytes.specs.Record.{field}
use Rattle.rec_bytes.specs.RecordFiles.{meta_key_of, room_of}
use Rattle.rec_bytes.specs.Space.{State}
use Rattle.row_store.specs.Loading.IsRowDamage.{HighMark as HighRows, UnknownKind}
use Rattle.node_store.specs.Loading.{IsNodeDamage}
use Rattle.store_rules.specs.Breaking.{HasChains, IsChainHead, IsOnChain, IsOwnedBy}
use Rattle.store_rules.specs.Breaking.IsOnChain.{First, Next}
use Rattle.store_rules.specs.Chains.{IsWalk}
use Rattle.store_rules.specs.Ranges.{Layout, layout_by}
use Rattle.store_rules.specs.Rules.{Head, IsOn}
use Rattle.store_rules.specs.Views.{GroupRow, RelRow, first_link, group_at, high, is_group_kind, is_live, key_in, kind_at, kind_in, rec_at}
use Rattle.store_rules.proofs.ChainLaws.{walk_stays}
use Rattle.store_rules.proofs.NumberLaws.{eq_false}
use Rattle.store_rules.proofs.PropertyOwners.{used_of_live}
use Rattle.store_rules.proofs.ViewLaws.{kind_low, live_false, live_true, not_live}
use Rattle.group_store.specs.GroupChain.{IsDense, next_group, type_of}
use Rattle.group_store.specs.Leaving.{LeavesCounted}
use Rattle.group_store.specs.Loading.{HasNoKind, group_mark}
use Rattle.group_store.specs.Opening.{IsPlaced, LacksGroupOn}
use Rattle.group_store.specs.Twins.{HasTwin, IsGroupsDamage, IsLone}
use Rattle.group_store.specs.Walking.{IsWalkDamage}
use Rattle.group_store.specs.Walking.IsWalkDamage.{HighMark, NoList, UnknownGroup}
use Rattle.group_store.proofs.UnknownKinds.{layout-known, layout-other}

-- The node's record is the same, and of each group what its chain is told by.
pub record AreAlike (s t : State) (n : ℕ) : Type 0 where
  pub shape : t.shape ≡ s.shape
  pub node : rec_at t.records format.nodes_file n ≡ rec_at s.records format.nodes_file n
  pub node_mark : high t.records format.nodes_file ≡ high s.records format.nodes_file
  pub group_mark : high t.records format.groups_file ≡ high s.records format.groups_file
  pub numbers : (g m at : ℕ) → 1 ≤ at → at + m ≤ format.group_first_out
      → field m (rec_at t.records format.groups_file g) at ≡ field m (rec_at s.records format.groups_file g) at
  pub used : (g : ℕ) → is_group_kind (kind_at t.records format.groups_file g) ≡ is_group_kind (kind_at s.records format.groups_file g)
  pub live : (g : ℕ) → is_live t.records format.groups_file g ≡ is_live s.records format.groups_file g

pub alike_back : (s t : State) (n : ℕ) → AreAlike s t n → AreAlike t s n
alike_back s t n a = record {
  shape = sym a.shape;
  node = sym a.node;
  node_mark = sym a.node_mark;
  group_mark = sym a.group_mark;
  numbers = λ g m at one inside. sym (a.numbers g m at one inside);
  used = λ g. sym (a.used g);
  live = λ g. sym (a.live g);
}

pub alike_counted : (s t : State) (n : ℕ) → t.shape ≡ s.shape → LeavesCounted s.records t.records → AreAlike s t n
alike_counted s t n shape left = record {
  shape = shape;
  node = left.others (key_in format.nodes_file n) (λ e. omega arith);
  node_mark = ap (λ (r : Rec). (metas.meta_of r).high) (left.others (meta_key_of format.nodes_file) (λ e. omega arith));
  group_mark = ap (λ (r : Rec). (metas.meta_of r).high) (left.others (meta_key_of format.groups_file) (λ e. omega arith));
  numbers = λ g m at one inside. left.groups g m at one (omega arith);
  used = left.used;
  live = left.live;
}

not_same : (a b : Bool) → not a ≡ not b → a ≡ b
not_same true true e = refl
not_same true false e = absurd cc
not_same false true e = absurd cc
not_same false false e = refl

module _ (s t : State) (n : ℕ) (alike : AreAlike s t n) where
  pub group_row : (g : ℕ) → group_at t.records g ≡ group_at s.records g
  group_row g =
      let free = not_same (nat_eq (kind_at t.records format.groups_file g) 0) (nat_eq (kind_at s.records format.groups_file g) 0) (alike.live g) in
      let label = alike.numbers g 4 format.group_type (omega arith) (omega arith) in
      let owner = alike.numbers g 4 format.group_owner (omega arith) (omega arith) in
      λ i. cond (free i) None (Some (record { id = g; label = label i; owner = owner i }))

  pub groups_as : group_at t.records ≡ group_at s.records
  groups_as = λ i g. group_row g i

  kind_same : kind_at t.records format.nodes_file n ≡ kind_at s.records format.nodes_file n
  kind_same = ap (λ m. kind_in m (rec_at t.records format.nodes_file n) n) alike.node_mark
      ∙ ap (λ (r : Rec). kind_in (high s.records format.nodes_file) r n) alike.node

  room : (file : ℕ) → room_of t.shape file ≡ room_of s.shape file
  room file = ap (λ (h : Shape). room_of h file) alike.shape

  first_as : first_link t.records n ≡ first_link s.records n
  first_as = ap (λ (r : Rec). field 4 r format.node_first_link) alike.node

  owner_as : (g : ℕ) → field 4 (rec_at t.records format.groups_file g) format.group_owner ≡ field 4 (rec_at s.records format.groups_file g) format.group_owner
  owner_as g = alike.numbers g 4 format.group_owner (omega arith) (omega arith)

  next_as : (g : ℕ) → next_group t.records g ≡ next_group s.records g
  next_as g = alike.numbers g 4 format.group_next (omega arith) (omega arith)

  pub type_as : (g : ℕ) → type_of t.records g ≡ type_of s.records g
  type_as g = alike.numbers g 4 format.group_type (omega arith) (omega arith)

  -- a group that is free was so
  free_as : (g : ℕ) → kind_at t.records format.groups_file g ≡ 0 → kind_at s.records format.groups_file g ≡ 0
  free_as g free = not_live (kind_at s.records format.groups_file g) (sym (alike.live g) ∙ live_false (kind_at t.records format.groups_file g) free)

  -- ---- a node that can't be read, and groups that aren't found

  pub node_as : (d : Damage) → IsNodeDamage t n d → IsNodeDamage s n d
  node_as d (HighRows above) = HighRows (let m = alike.node_mark in let r = room format.nodes_file in omega (arith, above, m, r))
  node_as d (UnknownKind low none) = UnknownKind (subst (λ m. n < m) alike.node_mark low)
      (ap (λ (r : Rec). layout_by format.nodes_file r (field 1 r format.kind)) (sym alike.node) ∙ none)

  pub dense_as : IsDense t.records n → IsDense s.records n
  dense_as dense = sym kind_same ∙ dense

  pub chains_as : HasChains t.records n → HasChains s.records n
  chains_as has = ⊎_elim (λ e. inl (sym kind_same ∙ e)) (λ e. inr (sym kind_same ∙ e)) has

  links_as : (xs : List ℕ) → IsWalk (next_group s.records) (first_link s.records n) xs → IsWalk (next_group t.records) (first_link t.records n) xs
  links_as xs walk = subst (λ f. IsWalk (next_group t.records) f xs) (sym first_as)
      (walk_stays (next_group s.records) (next_group t.records) (first_link s.records n) xs (λ x i. next_as x) walk)

  -- a record of no kind was so
  pub kind_as : (g : ℕ) → g < group_mark t → HasNoKind t.records g → HasNoKind s.records g
  kind_as g low none =
      let r = rec_at t.records format.groups_file g in
      let q = rec_at s.records format.groups_file g in
      let k = field 1 r format.kind in
      let at : kind_at t.records format.groups_file g ≡ k = kind_low (group_mark t) r g low in
      let was : kind_at s.records format.groups_file g ≡ field 1 q format.kind = kind_low (group_mark s) q g (subst (λ m. g < m) alike.group_mark low) in
      layout-other q (field 1 q format.kind)
      (eq_false (field 1 q format.kind) format.free_kind (λ e. free r k none (sym at ∙ not_live (kind_at t.records format.groups_file g)
      (alike.live g ∙ live_false (kind_at s.records format.groups_file g) (was ∙ e)))))
      (ap is_group_kind (sym was) ∙ sym (alike.used g) ∙ ap is_group_kind at ∙ known r k none (is_group_kind k) refl)
    where
      free_known : (r : Rec) → (layout : Layout) × (layout_by format.groups_file r 0 ≡ Some layout)
      free_known r = (_, refl)

      free : (r : Rec) (k : ℕ) → layout_by format.groups_file r k ≡ None → k ≡ 0 → ⊥
      free r k none e = let both = sym (ap (layout_by format.groups_file r) (sym e) ∙ none) ∙ (free_known r).1 in cc

      known : (r : Rec) (k : ℕ) → layout_by format.groups_file r k ≡ None → (b : Bool) → is_group_kind k ≡ b → is_group_kind k ≡ false
      known r k none true e = absurd (let both = sym none ∙ (layout-known r k e).1 in cc)
      known r k none false e = e

  pub walk_as : (d : Damage) → IsWalkDamage t n (first_link t.records n) d → IsWalkDamage s n (first_link s.records n) d
  walk_as d (NoList none) = NoList (λ xs list. none xs (record {
    walk = links_as xs list.walk;
    only = λ g i. record { used = λ e. (list.only g i).used (free_as g e); owner = owner_as g ∙ (list.only g i).owner };
  }))
  walk_as d (UnknownGroup g none low unknown) = UnknownGroup g
      (λ xs list. none xs (record {
        walk = links_as xs list.walk;
        only = λ k i. record { kind = alike.used k ∙ (list.only k i).kind; owner = owner_as k ∙ (list.only k i).owner };
      }))
      (subst (λ m. g < m) alike.group_mark low) (kind_as g low unknown)
  walk_as d (HighMark above) = HighMark (let m = alike.group_mark in let r = room format.groups_file in omega (arith, above, m, r))

  pub groups_damage_as : (d : Damage) → IsGroupsDamage t n d → IsGroupsDamage s n d
  groups_damage_as d told = ⊎_elim (λ k. inl (node_as d k)) (λ k. inr (dense_as k.0, walk_as d k.1)) told

  pub lacks_as : (label : ℕ) → LacksGroupOn t.records n label → LacksGroupOn s.records n label
  lacks_as label lacks = record {
    dense = dense_as lacks.dense;
    members = lacks.members;
    list = record {
      walk = subst (λ f. IsWalk (next_group s.records) f lacks.members) first_as
          (walk_stays (next_group t.records) (next_group s.records) (first_link t.records n) lacks.members (λ x i. sym (next_as x)) lacks.list.walk);
      only = λ g i. record { kind = sym (alike.used g) ∙ (lacks.list.only g i).kind; owner = sym (owner_as g) ∙ (lacks.list.only g i).owner };
    };
    lacks = λ g i e. lacks.lacks g i (type_as g ∙ e);
  }

  -- ---- a group on a group chain was on it

  pub owned_as : (g : ℕ) → IsOwnedBy t.records n g → IsOwnedBy s.records n g
  owned_as g own = record {
    used = used_of_live s.records format.groups_file g (sym (alike.live g) ∙ live_true (kind_at t.records format.groups_file g)
        own.used);
    owner = sym (owner_as g) ∙ own.owner;
  }

  pub on_as : (g : ℕ) → IsOnChain t.records n g → IsOnChain s.records n g
  on_as g (First _ dense first own) = First g (dense_as dense) (sym first_as ∙ first) (owned_as g own)
  on_as g (Next h _ on next own) = Next h g (on_as h on) (sym (next_as h) ∙ next) (owned_as g own)

  pub twin_as : (g : ℕ) → HasTwin t.records n g → HasTwin s.records n g
  twin_as g h = record { twin = h.twin; other = h.other; typed = sym (type_as h.twin) ∙ h.typed ∙ type_as g; on = on_as h.twin h.on }

  pub chain_head_as : (h : Head) → IsChainHead t.records h n → IsChainHead s.records h n
  chain_head_as h (inl o) = inl (record { sparse = sym kind_same ∙ o.sparse; is = o.is })
  chain_head_as h (inr c) = inr (record {
    own = record {
      dense = dense_as c.own.dense;
      row = c.own.row;
      group = sym (group_row c.own.row.id) ∙ c.own.group;
      owner = c.own.owner;
      key = c.own.key;
      field = c.own.field;
    };
    on = on_as c.own.row.id c.on;
  })

  pub placed_as : (h : Head) (row : RelRow) → IsPlaced t.records h n row → IsPlaced s.records h n row
  placed_as h row p = record { owns = chain_head_as h p.owns; on = subst (λ (f : ℕ → Option GroupRow). IsOn f h row) groups_as p.on }

module _ (s t : State) (n : ℕ) (alike : AreAlike s t n) where
  pub lone_as : (g : ℕ) → IsLone t.records n g → IsLone s.records n g
  lone_as g lone k on same = lone k (on_as t s n (alike_back s t n alike) k on) (type_as s t n alike k ∙ same ∙ sym (type_as s t n alike g))
