-- A relationship that comes into a group of a dense node keeps the rules for those that are left.
use Rattle.std.proofs.Common.{◌≡◌, ◌≢◌, ◌⊎◌, ℕ, ◌+◌, ◌<◌, ◌≤◌, ◌^◌, nat_eq, not, true, ◌&&◌, cond, Option, Some, List}
use Rattle.std.proofs.Common.{◌∷◌, sym, ap, ◌∙◌, subst, inl, inr, ⊎_elim, arith, refl}
use Rattle.rec_bytes.specs.declared.key.Key.{Key}
use Rattle.rec_bytes.specs.declared.record.Rec.{Rec}
use Rattle.rec_bytes.specs.declared.shape.Shape.{Shape}
use Rattle.rec_bytes.specs.Format as format
use Rattle.rec_bytes.specs.Meta as metas
use Rattle.rec_bytes.specs.Record.{field, with_field}
use Rattle.rec_bytes.specs.RecordFiles.{meta_key_of}
use Rattle.rec_bytes.specs.Space.{State, after_get, put}
use Rattle.rec_bytes.proofs.Numbers.{field-with_field_other}
use Rattle.rec_bytes.proofs.Spaces.{put_other, put_same}
use Rattle.rel_store.specs.RelRecord.{rel_key}
use Rattle.store_rules.specs.Chains.{In, IsChain, IsWalk, place_of}
use Rattle.store_rules.specs.Ends.{Regroups}
use Rattle.store_rules.specs.Rules.{AllListed, GroupHead, Head, IsEnd, IsGrouped, IsInGroup, IsListed, IsOn, Owns, first_of, is_filled}
use Rattle.store_rules.specs.Views as views
use Rattle.store_rules.specs.Views.{Records, RelRow, first_link, group_at, group_in, high, is_group_kind, key_in}
use Rattle.store_rules.specs.Views.{kind_at, kind_in, rec_at, rel_at, rel_in, row_if}
use Rattle.store_rules.proofs.ChainLaws.{chain_stays, walk_of_chain, walk_stays}
use Rattle.store_rules.proofs.GroupLaws.{IsFirstPlace, chain_filled, same_group}
use Rattle.store_rules.proofs.LinkFits.{IsLink, IsLow}
use Rattle.store_rules.proofs.NumberLaws.{nat_cases}
use Rattle.store_rules.proofs.Shapes.{high_most}
use Rattle.store_rules.proofs.UsedKinds.{rel_kind}
use Rattle.store_rules.proofs.ViewLaws.{kind_below, kind_by, some_row}
use Rattle.chain_edit.specs.Chains.{Differ, next_of, prev_of}
use Rattle.chain_edit.specs.Links.{IsRightLink, backed, next_set, prev_set}
use Rattle.chain_edit.specs.Listed.{AreHeads, with_one}
use Rattle.chain_edit.specs.Pushing.{HasPushed, pushed}
use Rattle.chain_edit.proofs.AllPushed.{all_listed_pushed, all_listed_same, all_listed_stays}
use Rattle.store_rules.proofs.ChainSteps.{first_in, on_test}
use Rattle.chain_edit.proofs.Edits.{elsewhere-backed}
use Rattle.chain_edit.proofs.LinkLaws.{elsewhere-set_next, elsewhere-set_prev, next_of-set_prev, place-set_prev, prev_of-set_prev_other, prev_of-set_prev_same}
use Rattle.store_rules.proofs.OneHead.{end_on, only_head}
use Rattle.chain_edit.proofs.OwnedHeads.{end_in, ends_differ, owned_heads}
use Rattle.chain_edit.proofs.Pushes.{has_pushed}
use Rattle.group_store.specs.declared.side.Side.{Side}
use Rattle.group_store.specs.declared.side.Side.TheVariants.{Out, In as Into, Loop}
use Rattle.group_store.specs.GroupChain.{IsGroupOf}
use Rattle.group_store.specs.GroupRecord.{group_key}
use Rattle.group_store.specs.Moving.{HasCome}
use Rattle.group_store.specs.Sides as sides
use Rattle.group_store.specs.Sides.{group_head, side_at}
use Rattle.group_store.specs.Leaving.{IsBesideLinks, LeavesOthers}
use Rattle.group_store.proofs.Leaves.{leaves_both, leaves_put}
use Rattle.group_store.specs.Spreading.{AreExactBut, HasCountedGroups, IsHeadOf, IsLinkedBut, IsSpread, KeepsBut, StandsBut}
use Rattle.group_store.proofs.GroupRules.{group_of_row, row_of_group}
use Rattle.group_store.proofs.GroupSteps.{HasStepped, step_chain, step_link}
use Rattle.group_store.proofs.Regrouping as re
use Rattle.group_store.proofs.Regrouping.{frame_none, others_stay, regroups_both, regroups_of}
use Rattle.store_rules.proofs.CountLaws.{IsSide}
use Rattle.group_store.specs.Counting.{one_more, tallied}
use Rattle.group_store.proofs.CountedRels.{counted_stays, exact_stays}
use Rattle.group_store.proofs.ExactGroups as ex

-- ---- the head where a relationship at the node stands in a group of its type

side_place : (side : Side) → IsFirstPlace (sides.place_of side)
side_place Out = inl refl
side_place Into = inr (inl refl)
side_place Loop = inr (inr refl)

pub at_side : (g node label : ℕ) (row : RelRow) → IsEnd node row → IsSide (sides.place_of (side_at node row.from row.to))
    (record { id = g; label = label; owner = node }) row
at_side g node label row end = on_test (λ (side : Side). IsSide (sides.place_of side) (record { id = g; label = label; owner = node }) row) row.from row.to Loop
    (cond (nat_eq row.from node) Out Into)
    (λ (same : row.from ≡ row.to). inr (inr (refl, ⊎_elim (λ e. e) (λ e. same ∙ e) end, ⊎_elim (λ e. sym same ∙ e) (λ e. e) end)))
    (λ (ne : row.from ≢ row.to). on_test (λ (side : Side). IsSide (sides.place_of side) (record { id = g; label = label; owner = node }) row) row.from node Out
    Into
    (λ (e : row.from ≡ node). inl (refl, e, λ k. ne (e ∙ sym k)))
    (λ (a : row.from ≢ node). inr (inl (refl, a, ⊎_elim (λ e. absurd (a e)) (λ e. e) end))))

pub in_group : (groups : ℕ → Option views.GroupRow) (g node label : ℕ) (row : RelRow) → groups g ≡ Some (record { id = g; label = label; owner = node })
    → row.label ≡ label → IsEnd node row
    → IsInGroup groups (group_head g (side_at node row.from row.to)) row
in_group groups g node label row group typed end = record {
  row = record { id = g; label = label; owner = node };
  group = group;
  label = typed;
  side = at_side g node label row end;
}

first_low : (at : ℕ) → IsFirstPlace at → 20 ≤ at
first_low at place = ⊎_elim (λ (e : at ≡ 20). omega arith) (λ k. ⊎_elim (λ (e : at ≡ 24). omega arith) (λ (e : at ≡ 28). omega arith) k) place

place_link : (r : Rec) (n : ℕ) → IsLink (place_of r n)
place_link r n = on_test IsLink (field 4 r 8) n 16 24 (λ _. inl refl) (λ _. inr (inr (inl refl)))

next_link : (r : Rec) (n : ℕ) → IsLink (place_of r n + 4)
next_link r n = on_test (λ p. IsLink (p + 4)) (field 4 r 8) n 16 24 (λ _. inr (inl refl)) (λ _. inr (inr (inr refl)))

-- ---- the links that are set, as steps

back_stepped : (s : Records) (m : State) (shape : Shape) (node first to : ℕ) → HasStepped s m.records shape node
    → (first ≢ format.nil → kind_at m.records format.relationships_file first ≡ format.related) → IsLow (high m.records format.relationships_file) to
    → HasStepped s (backed m node first to).records shape node × (high (backed m node first to).records format.relationships_file ≡ high m.records
    format.relationships_file)
unfolding backed
back_stepped s m shape node first to h kind low =
    on_test (λ (q : State). HasStepped s q.records shape node × (high q.records format.relationships_file ≡ high m.records format.relationships_file)) first
    format.nil m (prev_set m node first to)
    (λ _. (h, refl)) (λ some. (
      step_link s m.records shape node h first (place_of (rec_at m.records format.relationships_file first) node) to
          (place_link (rec_at m.records format.relationships_file first) node) (kind some) low,
      refl,
    ))

pushed_stepped : (s : Records) (m : State) (shape : Shape) (node rel g at : ℕ) → HasStepped s m.records shape node → IsFirstPlace at
    → is_group_kind (kind_at m.records format.groups_file g) ≡ true
    → kind_at m.records format.relationships_file rel ≡ format.related → (field 4 (rec_at m.records format.groups_file g) at ≢ format.nil → kind_at m.records
    format.relationships_file (field 4 (rec_at m.records format.groups_file g) at) ≡ format.related)
    → HasStepped s (pushed m (record { key = group_key g; field = at }) node rel).records shape node
unfolding pushed
pushed_stepped s m shape node rel g at h place grouped related first_kind =
    let first = field 4 (rec_at m.records format.groups_file g) at in
    let a : State = after_get m in
    let b : State = backed a node first rel in
    let c : State = next_set b node rel first in
    let below : (x : ℕ) → kind_at m.records format.relationships_file x ≡ format.related → x < high m.records format.relationships_file
    = λ x is. kind_below (high m.records format.relationships_file) (rec_at m.records format.relationships_file x) x (λ e. let z = sym e ∙ is in omega arith) in
    let back = back_stepped s a shape node first rel h first_kind (inr (below rel related)) in
    let first_low : IsLow (high b.records format.relationships_file) first =
    ⊎_elim (λ e. inl e) (λ some. let lt = below first (first_kind some) in let e = back.1 in inr (omega arith)) (nat_cases first format.nil) in
    let rel_is : kind_at b.records format.relationships_file rel ≡ format.related = re.rel_kind s b.records node back.0.frame rel
    ∙ sym (re.rel_kind s m.records node h.frame rel) ∙ related in
    let next = step_link s b.records shape node back.0 rel (place_of (rec_at b.records format.relationships_file rel) node + 4) first
    (next_link (rec_at b.records format.relationships_file rel) node) rel_is first_low in
    let group_same : (k : ℕ) → rec_at c.records format.groups_file k ≡ rec_at m.records format.groups_file k
    = λ k. elsewhere-set_next b.records node rel first (group_key k) (λ e. omega arith) ∙ elsewhere-backed a node first rel (group_key k) (λ e. omega arith) in
    let meta_same : high c.records format.groups_file ≡ high m.records format.groups_file
    = ap (λ r. (metas.meta_of r).high) (elsewhere-set_next b.records node rel first (meta_key_of format.groups_file) (λ e. omega arith) ∙ elsewhere-backed a
    node first rel (meta_key_of format.groups_file) (λ e. omega arith)) in
    let group_is : is_group_kind (kind_at c.records format.groups_file g) ≡ true =
    ap is_group_kind (ap (λ q. kind_in q (rec_at c.records format.groups_file g) g) meta_same ∙ ap (λ r. kind_in (high m.records format.groups_file) r g)
    (group_same g)) ∙ grouped in
    let rel_low : IsLow (high c.records format.relationships_file) rel = inr (let lt = below rel related in let e = back.1 in omega arith) in
    subst (λ (r : Rec). HasStepped s (put c.records (group_key g) (with_field 4 r at rel)) shape node) (group_same g)
    (step_chain s c.records shape node next g at rel place group_is rel_low)

pub pushed_shape : (m : State) (h : Head) (node rel : ℕ) → (pushed m h node rel).shape ≡ m.shape
unfolding pushed backed
pushed_shape m h node rel = on_test (λ (q : State). q.shape ≡ m.shape) (first_of m.records h) format.nil (after_get m)
    (prev_set (after_get m) node (first_of m.records h) rel) (λ _. refl) (λ _. refl)

-- ---- one relationship

-- after a relationship has none before it in the chain of the node, and is put at the head
abbrev pub joined : State → Head → ℕ → ℕ → State
joined s head node rel = pushed (prev_set s node rel format.nil) head node rel

-- and after it is counted there
abbrev pub counted_joined : State → Head → ℕ → ℕ → State
counted_joined s head node rel = tallied one_more (joined s head node rel) head

module _ (s : State) (node rel g : ℕ) (row : RelRow) (rest : List ℕ) (most : ℕ) (empty : List ℕ)
    (keeps : KeepsBut s.records s.shape node (rel ∷ rest) most (g ∷ empty)) (dense : kind_at s.records format.nodes_file node ≡ format.dense)
    (live : rel_at s.records rel ≡ Some row) (end : IsEnd node row) (group : group_at s.records g ≡ Some (record { id = g; label = row.label; owner = node }))
    (out : ¬ In rel rest)
    (left : (x : ℕ) → In x rest → (row : RelRow) × (rel_at s.records x ≡ Some row) × IsEnd node row) where
  abbrev kind : ℕ → ℕ
  kind = kind_at s.records format.nodes_file

  abbrev groups : ℕ → Option views.GroupRow
  groups = group_at s.records

  abbrev rels : ℕ → Option RelRow
  rels = rel_at s.records

  abbrev Own : Head → ℕ → Type 0
  Own = Owns kind groups

  abbrev At : Head → ℕ → Type 0
  At = StandsBut rels groups node (rel ∷ rest)

  abbrev side : Side
  side = side_at node row.from row.to

  abbrev head : Head
  head = group_head g side

  abbrev t : State
  t = prev_set s node rel format.nil

  abbrev now : State
  now = joined s head node rel

  owned : GroupHead kind groups head node
  owned = record { dense = dense; row = record { id = g; label = row.label; owner = node }; group = group; owner = refl; key = refl; field = side_place side }

  heads : AreHeads Own
  heads = owned_heads kind groups

  on_head : IsOn groups head row
  on_head = inr (refl, in_group groups g node row.label row group refl end)

  same_row : (a b : RelRow) → Some a ≡ Some b → a ≡ b
  same_row a b e = cc

  related : (x : ℕ) (a : RelRow) → rels x ≡ Some a → kind_at s.records format.relationships_file x ≡ format.related
  related x a is = rel_kind s.records s.shape keeps.others.ranges x (some_row (kind_at s.records format.relationships_file x)
      (rel_in (rec_at s.records format.relationships_file x) x) a is).0

  below : (x : ℕ) (a : RelRow) → rels x ≡ Some a → x < high s.records format.relationships_file
  below x a is = kind_below (high s.records format.relationships_file) (rec_at s.records format.relationships_file x) x
      (λ e. let k = sym e ∙ related x a is in omega arith)

  small : rel < 2 ^ 25
  small = let lt = below rel row live in let le = high_most s.records s.shape format.relationships_file keeps.others.ranges refl in omega arith

  -- a head of the node lists none that is left
  none_left : (h : Head) (x : ℕ) → GroupHead kind groups h node → At h x → ¬ In x (rel ∷ rest)
  none_left h x o a = a.apart (record {
    file = ap (λ (k : Key). k.file) o.key;
    row = o.row;
    group = ap (λ (k : Key). groups k.id) o.key ∙ o.group;
    owner =
        o.owner;
  })

  node_head_is : (h : Head) → Own h node → GroupHead kind groups h node
  node_head_is h (inl o) = absurd (let z = sym o.sparse ∙ dense in omega arith)
  node_head_is h (inr o) = o

  -- ---- its own link back is set to none
  differs : (h : Head) (n : ℕ) → Own h n → At h rel → Differ s.records node n rel
  differs h n o a =
      let same : a.stands.row ≡ row = same_row a.stands.row row (sym a.stands.live ∙ live) in
      let there : IsEnd n row = subst (IsEnd n) same (end_on kind groups h n a.stands.row o a.stands.on) in
      ends_differ (rec_at s.records format.relationships_file rel) node n (end_in s.records rel node row live end) (end_in s.records rel n row live there)
      (λ e. none_left h rel (node_head_is h (subst (Own h) (sym e) o)) a (inl refl))

  listed_t : AllListed t.records Own At
  listed_t = all_listed_stays s.records t.records Own At
      (λ h n x o a. next_of-set_prev s.records node rel format.nil n x)
      (λ h n x o a. prev_of-set_prev_other s.records node rel format.nil n x (λ e. differs h n o (subst (At h) e a)))
      (λ h n o. ap (λ r. field 4 r h.field) (elsewhere-set_prev s.records node rel format.nil h.key ((heads.place h n o).elsewhere))) keeps.linked.listed

  -- ---- it is pushed
  apart : (h : Head) (n x : ℕ) → Own h n → h ≢ head → At h x → At head x ⊎ (x ≡ rel) → Differ t.records node n x
  apart h n x o ne a way = rw (place-set_prev s.records node rel format.nil node x, place-set_prev s.records node rel format.nil n x) (by way)
    where
      by : At head x ⊎ (x ≡ rel) → Differ s.records node n x
      by (inr e) = subst (Differ s.records node n) (sym e) (differs h n o (subst (At h) e a))
      by (inl b) =
          let same : b.stands.row ≡ a.stands.row = same_row b.stands.row a.stands.row (sym b.stands.live ∙ a.stands.live) in
          let on : IsOn groups head a.stands.row = subst (IsOn groups head) same b.stands.on in
          ends_differ (rec_at s.records format.relationships_file x) node n
          (end_in s.records x node a.stands.row a.stands.live (end_on kind groups head node a.stands.row (inr owned) on))
          (end_in s.records x n a.stands.row a.stands.live (end_on kind groups h n a.stands.row o a.stands.on))
          (λ e. ne (only_head s.records (g ∷ empty) keeps.grouped h head node a.stands.row (subst (Own h) (sym e) o) (inr owned) a.stands.on on))

  alone : prev_of t.records node rel ≡ format.nil
  alone = prev_of-set_prev_same s.records node rel format.nil (omega arith)

  fresh : At head rel → ⊥
  fresh a = none_left head rel owned a (inl refl)

  listed_with : AllListed now.records Own (with_one At head rel)
  listed_with = all_listed_pushed t Own At heads listed_t head node rel (inr owned) small fresh alone apart

  listed_now : AllListed now.records Own (StandsBut rels groups node rest)
  listed_now = all_listed_same now.records Own (with_one At head rel) Own (StandsBut rels groups node rest) (λ h n o. o) there back listed_with
    where
      there : (h : Head) (n x : ℕ) → Own h n → with_one At head rel h x → StandsBut rels groups node rest h x
      there h n x o (inl a) = record { stands = a.stands; apart = λ k i. a.apart k (inr i) }
      there h n x o (inr k) = subst (λ z. StandsBut rels groups node rest z x) (sym k.0)
          (subst (StandsBut rels groups node rest head) (sym k.1) (record { stands = record { row = row; live = live; on = on_head }; apart = λ _. out }))

      back : (h : Head) (n x : ℕ) → Own h n → StandsBut rels groups node rest h x → with_one At head rel h x
      back h n x o b = ⊎_elim
          (λ (e : x ≡ rel). ⊎_elim
          (λ (m : n ≡ node).
          let same : b.stands.row ≡ row = same_row b.stands.row row (sym b.stands.live ∙ ap rels e ∙ live) in
          inr (
            only_head s.records (g ∷ empty) keeps.grouped h head node row (subst (Own h) m o) (inr owned) (subst (IsOn groups h) same b.stands.on)
                on_head,
            e,
          ))
          (λ (m : n ≢ node). inl (record { stands = b.stands; apart = λ k. absurd (m (owner_is h n o k)) })) (nat_cases n node))
          (λ (ne : x ≢ rel). inl (record { stands = b.stands; apart = λ k i. ⊎_elim ne (λ j. b.apart k j) i })) (nat_cases x rel)
        where
          owner_is : (h : Head) (n : ℕ) → Own h n → IsHeadOf groups node h → n ≡ node
          owner_is h n (inl o) k = absurd (let f = ap (λ (z : Head). z.key.file) o.is in let e = k.file in omega arith)
          owner_is h n (inr o) k = sym o.owner ∙ ap (λ (r : views.GroupRow). r.owner)
              (same_group o.row k.row (sym o.group ∙ ap (λ (z : Key). groups z.id) (sym o.key) ∙ k.group)) ∙ k.owner

  -- ---- numbers
  here : IsListed t.records head node (At head)
  here = listed_t.each head node (inr owned)

  pushes : HasPushed t.records now.records head node rel here.members
  pushes = has_pushed t head node rel (heads.place head node (inr owned)) here.members small
      (record { chain = here.chain; new = λ i. fresh (here.only rel i); alone = alone })

  number : (x n at : ℕ) → at + n ≤ 64 → (x ≡ g → (at + n ≤ sides.place_of side) ⊎ (sides.place_of side + 4 ≤ at))
      → field n (rec_at now.records format.groups_file x) at ≡ field n (rec_at s.records format.groups_file x) at
  number x n at inside aside =
      pushes.only.same (key_in format.groups_file x) n at inside (
        (λ e. let f = ap (λ (k : Key). k.file) e in absurd (omega arith)),
        (
          (λ e. let f = ap (λ (k : Key). k.file) e in absurd (omega arith)),
          ((λ e. aside (ap (λ (k : Key). k.id) e)), tt),
        ),
      )
      ∙ ap (λ r. field n r at) (elsewhere-set_prev s.records node rel format.nil (key_in format.groups_file x) (λ e. omega arith))

  first_member : (first_of t.records head ≡ format.nil) ⊎ In (first_of t.records head) here.members
  first_member = first_in (next_of t.records node) (first_of t.records head) here.members
      (walk_of_chain _ _ format.nil (first_of t.records head) here.members here.chain)

  link_stays : (y : ℕ) → In y rest → next_of now.records node y ≡ next_of s.records node y
  link_stays y i = ap (λ p. field 4 (rec_at now.records format.relationships_file y) (p + 4)) place_same
      ∙ stays 4 (place_of (rec_at t.records format.relationships_file y) node + 4) (bound (field 4 (rec_at t.records format.relationships_file y) 8))
      ∙ next_of-set_prev s.records node rel format.nil node y
    where
      not_rel : y ≢ rel
      not_rel e = out (subst (λ z. In z rest) e i)

      not_first : y ≢ first_of t.records head
      not_first e = ⊎_elim
          (λ none. absurd (let lt = left_below in omega arith))
          (λ k. none_left head (first_of t.records head) owned (here.only (first_of t.records head) k) (inr (subst (λ z. In z rest) e i))) first_member
        where
          left_below : y < 4294967295
          left_below = let l = left y i in let lt = below y l.0 l.1 in let le =
              high_most s.records s.shape format.relationships_file keeps.others.ranges refl in omega arith

      stays : (n at : ℕ) → at + n ≤ 64 → field n (rec_at now.records format.relationships_file y) at ≡ field n (rec_at t.records format.relationships_file y) at
      stays n at inside = pushes.only.same (key_in format.relationships_file y) n at inside (
        (λ e. absurd (not_first (ap (λ (k : Key). k.id) e))),
        (
          (λ e. absurd (not_rel (ap (λ (k : Key). k.id) e))),
          ((λ e. let f = ap (λ (k : Key). k.file) e in absurd (omega arith)), tt),
        ),
      )

      place_same : place_of (rec_at now.records format.relationships_file y) node ≡ place_of (rec_at t.records format.relationships_file y) node
      place_same = ap (λ v. cond (nat_eq v node) 16 24) (stays 4 8 (omega arith))

      bound : (v : ℕ) → (cond (nat_eq v node) 16 24 + 4) + 4 ≤ 64
      bound v = on_test (λ p. (p + 4) + 4 ≤ 64) v node 16 24 (λ _. omega arith) (λ _. omega arith)

  -- the first one of the head leads to a relationship, or there is none
  pub first_right : IsRightLink t (first_of t.records head)
  first_right = record {
    low = ⊎_elim (λ none. inl none) (λ k. let a = here.only (first_of t.records head) k in inr (below (first_of t.records head) a.stands.row a.stands.live))
        first_member;
    mark = (keeps.others.ranges.metas format.relationships_file refl).high;
  }

  -- it is one at the node, which came there
  pub first_end : (first_of t.records head ≡ format.nil) ⊎ HasCome s.records node (rel ∷ rest) (first_of t.records head)
  first_end = ⊎_elim (λ none. inl none)
      (λ k. let a = here.only (first_of t.records head) k in
      inr (record {
        row = a.stands.row;
        live = a.stands.live;
        end = end_on kind groups head node a.stands.row (inr owned) a.stands.on;
        apart = none_left head
            (first_of t.records head) owned a;
      })) first_member

  -- ---- the first two rules, and rows
  stepped : HasStepped s.records now.records s.shape node
  stepped = pushed_stepped s.records t s.shape node rel g (sides.place_of side)
      (step_link s.records s.records s.shape node base rel (place_of (rec_at s.records format.relationships_file rel) node) format.nil
      (place_link (rec_at s.records format.relationships_file rel) node) (related rel row live) (inl refl))
      (side_place side) grouped_is
      (ap (λ q. q) (re.rel_kind s.records t.records node one.frame rel) ∙ related rel row live)
      (λ some. first_related some)
    where
      base : HasStepped s.records s.records s.shape node
      base = record {
        frame = frame_none s.records node;
        ranges = keeps.others.ranges;
        free = (keeps.others.split format.groups_file refl).0;
        split =
            (keeps.others.split format.groups_file refl).1;
      }

      one : HasStepped s.records t.records s.shape node
      one = step_link s.records s.records s.shape node base rel (place_of (rec_at s.records format.relationships_file rel) node) format.nil
          (place_link (rec_at s.records format.relationships_file rel) node) (related rel row live) (inl refl)

      grouped_is : is_group_kind (kind_at t.records format.groups_file g) ≡ true
      grouped_is = (group_of_row s.records s.shape node g (record { id = g; label = row.label; owner = node }) keeps.others.ranges group refl).kind

      first_related : first_of t.records head ≢ format.nil → kind_at t.records format.relationships_file (first_of t.records head) ≡ format.related
      first_related some = re.rel_kind s.records t.records node one.frame (first_of t.records head)
          ∙ ⊎_elim (λ e. absurd (some e)) (λ k. let a = here.only (first_of t.records head) k in related (first_of t.records head) a.stands.row a.stands.live)
          first_member

  kind_stays : (x : ℕ) → kind_at now.records format.groups_file x ≡ kind_at s.records format.groups_file x
  kind_stays x = ap (λ q. kind_in q (rec_at now.records format.groups_file x) x) mark
      ∙ kind_by (high s.records format.groups_file) (rec_at now.records format.groups_file x) (rec_at s.records format.groups_file x) x
      (number x 1 format.kind (omega arith) (λ _. inl low))
    where
      low : format.kind + 1 ≤ sides.place_of side
      low = let l = first_low (sides.place_of side) (side_place side) in omega arith

      meta : (n at : ℕ) → at + n ≤ 64 → field n (now.records (meta_key_of format.groups_file)) at ≡ field n (s.records (meta_key_of format.groups_file)) at
      meta n at inside = pushes.only.same (meta_key_of format.groups_file) n at inside (
        (λ e. let f = ap (λ (k : Key). k.file) e in absurd (omega arith)),
        (
          (λ e. let f = ap (λ (k : Key). k.file) e in absurd (omega arith)),
          ((λ e. let f = ap (λ (k : Key). k.file) e in absurd (omega arith)), tt),
        ),
      )
          ∙ ap (λ r. field n r at) (elsewhere-set_prev s.records node rel format.nil (meta_key_of format.groups_file) (λ e. omega arith))

      mark : high now.records format.groups_file ≡ high s.records format.groups_file
      mark = meta 4 format.meta_high (omega arith)

  group_stays : (x : ℕ) → group_at now.records x ≡ group_at s.records x
  group_stays x = λ i. row_if (kind_stays x i) (record {
    id = x;
    label = number x 4 format.group_type (omega arith) (λ _. inl (low 8 (omega arith)))
        i;
    owner = number x 4 format.group_owner (omega arith) (λ _. inl (low 12 (omega arith))) i;
  })
    where
      low : (n : ℕ) → n ≤ 20 → n ≤ sides.place_of side
      low n le = let l = first_low (sides.place_of side) (side_place side) in omega arith

  groups_same : group_at now.records ≡ groups
  groups_same = λ i x. group_stays x i

  groups_here : (x : ℕ) → IsGroupOf now.records node x → IsGroupOf s.records node x
  groups_here x is = group_of_row s.records s.shape node x (group_in (rec_at now.records format.groups_file x) x) keeps.others.ranges
      (sym (group_stays x) ∙ row_of_group now.records node x is) is.owner

  kinds_same : kind_at now.records format.nodes_file ≡ kind
  kinds_same = λ i x. each x i
    where
      each : (x : ℕ) → kind_at now.records format.nodes_file x ≡ kind x
      each x = ⊎_elim (λ (e : x ≡ node). ap (kind_at now.records format.nodes_file) e ∙ re.dense_same s.records now.records node stepped.frame node dense
          ∙ sym dense ∙ ap kind (sym e)) (λ ne. stepped.frame.kinds x ne) (nat_cases x node)

  linked_now : IsLinkedBut now.records kind rels groups node rest
  linked_now = record {
    ends = keeps.linked.ends;
    typed = λ x n q e there d left. ⊎_elim
        (λ (k : x ≡ rel). ⊎_elim
        (λ (m : n ≡ node). record {
          row = record { id = g; label = row.label; owner = node };
          group = group;
          owner = sym m;
          label = ap (λ (r : RelRow). r.label)
              (same_row row q (sym live ∙ ap rels (sym k) ∙ e));
        })
        (λ (m : n ≢ node). keeps.linked.typed x n q e there d (λ z. absurd (m z))) (nat_cases n node))
        (λ (ne : x ≢ rel). keeps.linked.typed x n q e there d (λ z i. ⊎_elim ne (λ j. left z j) i)) (nat_cases x rel);
    listed = listed_now;
  }

  grouped_now : IsGrouped kind (first_link now.records) (rec_at now.records format.groups_file) groups empty
  grouped_now = record {
    owned = keeps.grouped.owned;
    each = λ n d. let h = keeps.grouped.each n d in record {
      members = h.members;
      chain = subst (λ f. IsChain (λ k. field 4 (rec_at now.records format.groups_file k) format.group_next)
          (λ k. field 4 (rec_at now.records format.groups_file k) format.group_previous) format.nil f h.members) (sym (first_stays n))
          (chain_stays (λ k. field 4 (rec_at s.records format.groups_file k) format.group_next) (λ k. field 4 (rec_at s.records format.groups_file k)
          format.group_previous)
          (λ k. field 4 (rec_at now.records format.groups_file k) format.group_next)
          (λ k. field 4 (rec_at now.records format.groups_file k) format.group_previous) format.nil (first_link s.records n) h.members
          (λ k i. number k 4 format.group_next (omega arith) (λ _. inl (low 20 (omega arith))))
          (λ k i. number k 4 format.group_previous (omega arith) (λ _. inl (low 16 (omega arith)))) h.chain);
      only = h.only;
      filled = λ k i. ⊎_elim
          (λ (e : k ≡ g). inl (subst (λ z. is_filled (rec_at now.records format.groups_file z) ≡ true) (sym e)
          (chain_filled (rec_at now.records format.groups_file g) (sides.place_of side) (side_place side) (λ none. let is = sym (pushes.chain.0)
          ∙ none in let few = small in omega arith))))
          (λ (ne : k ≢ g). ⊎_elim (λ f. inl (filled_stays k ne ∙ f)) (λ j. ⊎_elim (λ e. absurd (ne e)) (λ l. inr l) j) (h.filled k i)) (nat_cases k g);
      all = h.all;
      once = λ a b i j same. h.once a b i j (sym (type_stays a) ∙ same ∙ type_stays b);
    };
  }
    where
      low : (n : ℕ) → n ≤ 20 → n ≤ sides.place_of side
      low n le = let l = first_low (sides.place_of side) (side_place side) in omega arith

      type_stays : (k : ℕ) → field 4 (rec_at now.records format.groups_file k) format.group_type ≡ field 4 (rec_at s.records format.groups_file k)
          format.group_type
      type_stays k = number k 4 format.group_type (omega arith) (λ _. inl (low 8 (omega arith)))

      filled_stays : (k : ℕ) → k ≢ g → is_filled (rec_at now.records format.groups_file k) ≡ is_filled (rec_at s.records format.groups_file k)
      filled_stays k ne =
          let a = number k 4 20 (omega arith) (λ e. absurd (ne e)) in
          let b = number k 4 24 (omega arith) (λ e. absurd (ne e)) in
          let c = number k 4 28 (omega arith) (λ e. absurd (ne e)) in
          λ i. not (nat_eq (a i) format.nil && (nat_eq (b i) format.nil && nat_eq (c i) format.nil))

      first_stays : (n : ℕ) → first_link now.records n ≡ first_link s.records n
      first_stays n = pushes.only.same (key_in format.nodes_file n) 4 format.node_first_link (omega arith) (
        (λ e. let f = ap (λ (k : Key). k.file) e in absurd (omega arith)),
        (
          (λ e. let f = ap (λ (k : Key). k.file) e in absurd (omega arith)),
          ((λ e. let f = ap (λ (k : Key). k.file) e in absurd (omega arith)), tt),
        ),
      )
          ∙ ap (λ r. field 4 r format.node_first_link) (elsewhere-set_prev s.records node rel format.nil (key_in format.nodes_file n) (λ e. omega arith))

  pub keeps_joined : KeepsBut now.records s.shape node rest most empty
  keeps_joined = record {
    others = others_stay s.records now.records node stepped.frame s.shape most keeps.others stepped.ranges stepped.free stepped.split;
    linked = subst (λ (k : ℕ → ℕ). IsLinkedBut now.records k (rel_at now.records) (group_at now.records) node rest) (sym kinds_same)
        (subst (λ (r : ℕ → Option RelRow). IsLinkedBut now.records kind r (group_at now.records) node rest)
        (sym (re.rels_same s.records now.records node stepped.frame))
        (subst (λ (q : ℕ → Option views.GroupRow). IsLinkedBut now.records kind rels q node rest) (sym groups_same) linked_now));
    grouped = subst (λ (k : ℕ → ℕ). IsGrouped k (first_link now.records) (rec_at now.records format.groups_file) (group_at now.records) empty) (sym kinds_same)
        (subst (λ (q : ℕ → Option views.GroupRow). IsGrouped kind (first_link now.records) (rec_at now.records format.groups_file) q empty) (sym groups_same)
        grouped_now);
  }

  regroups_now : Regroups s now node
  regroups_now = regroups_of s now node stepped.frame joined_shape (λ q row is ne. group_stays q ∙ is)
    where
      joined_shape : now.shape ≡ s.shape
      joined_shape = pushed_shape t head node rel

  -- what is left of other records
  leaves_now : LeavesOthers s now node
  leaves_now = record {
    files = λ key a b c d. stepped.frame.others key a b c d;
    nodes = λ x n at inside ne. node_stays x n at inside;
    here = λ n at inside one apart. node_stays node n at inside;
    rels = rel_stays;
    groups = λ x q is ne n at inside. number x n at inside
        (λ e. absurd (ne (ap (λ (z : views.GroupRow). z.owner) (same_group q (record { id = g; label = row.label; owner = node })
        (sym is ∙ ap groups e ∙ group)))));
  }
    where
      node_stays : (x n at : ℕ) → at + n ≤ 64 → field n (rec_at now.records format.nodes_file x) at ≡ field n (rec_at s.records format.nodes_file x) at
      node_stays x n at inside = pushes.only.same (key_in format.nodes_file x) n at inside (
        (λ e. let f = ap (λ (k : Key). k.file) e in absurd (omega arith)),
        (
          (λ e. let f = ap (λ (k : Key). k.file) e in absurd (omega arith)),
          ((λ e. let f = ap (λ (k : Key). k.file) e in absurd (omega arith)), tt),
        ),
      )
          ∙ ap (λ r. field n r at) (elsewhere-set_prev s.records node rel format.nil (key_in format.nodes_file x) (λ e. omega arith))

      -- the bytes of a relationship at the node that stand beside its links
      at_place : (x n at : ℕ) (q : RelRow) → rels x ≡ Some q → IsEnd node q → IsBesideLinks (rec_at s.records format.relationships_file x) node n at
          → (at + n ≤ place_of (rec_at s.records format.relationships_file x) node) ⊎ (place_of (rec_at s.records format.relationships_file x) node + 8 ≤ at)
      at_place x n at q is there beside = beside (end_in s.records x node q is there)

      -- and after the first link was set
      place_is : (x : ℕ) → place_of (rec_at t.records format.relationships_file x) node ≡ place_of (rec_at s.records format.relationships_file x) node
      place_is x = place-set_prev s.records node rel format.nil node x

      first_apart : (x n at : ℕ) → x ≢ format.nil → IsBesideLinks (rec_at s.records format.relationships_file x) node n at → x ≡ first_of t.records head
          → (at + n ≤ place_of (rec_at t.records format.relationships_file (first_of t.records head)) node)
          ⊎ (place_of (rec_at t.records format.relationships_file (first_of t.records head)) node + 4 ≤ at)
      first_apart x n at some beside e = ⊎_elim (λ none. absurd (some (e ∙ none)))
          (λ (k : HasCome s.records node (rel ∷ rest) (first_of t.records head)).
          let first = first_of t.records head in
          let a = at_place first n at k.row k.live k.end (subst (λ z. IsBesideLinks (rec_at s.records format.relationships_file z) node n at) e beside) in
          subst (λ p. (at + n ≤ p) ⊎ (p + 4 ≤ at)) (sym (place_is first))
          (⊎_elim (λ l. inl l) (λ (l : place_of (rec_at s.records format.relationships_file first) node + 8 ≤ at). inr (omega arith)) a)) first_end

      rel_apart : (n at : ℕ) → IsBesideLinks (rec_at s.records format.relationships_file rel) node n at
          → (at + n ≤ place_of (rec_at t.records format.relationships_file rel) node + 4)
          ⊎ ((place_of (rec_at t.records format.relationships_file rel) node + 4) + 4 ≤ at)
      rel_apart n at beside =
          subst (λ p. (at + n ≤ p + 4) ⊎ ((p + 4) + 4 ≤ at)) (sym (place_is rel))
          (⊎_elim (λ (l : at + n ≤ place_of (rec_at s.records format.relationships_file rel) node). inl (omega arith))
          (λ (l : place_of (rec_at s.records format.relationships_file rel) node + 8 ≤ at). inr (omega arith)) (at_place rel n at row live end beside))

      freed_stays : (x n at : ℕ) → at + n ≤ 64 → IsBesideLinks (rec_at s.records format.relationships_file x) node n at
          → field n (rec_at t.records format.relationships_file x) at ≡ field n (rec_at s.records format.relationships_file x) at
      freed_stays x n at inside beside =
          let place = place_of (rec_at s.records format.relationships_file rel) node in
          let freed : Rec = with_field 4 (rec_at s.records format.relationships_file rel) place format.nil in
          ⊎_elim
          (λ (e : x ≡ rel). subst (λ z. field n (rec_at t.records format.relationships_file z) at ≡ field n (rec_at s.records format.relationships_file z) at)
          (sym e)
          (ap (λ r. field n r at) (put_same s.records (rel_key rel) freed)
          ∙ field-with_field_other 4 (rec_at s.records format.relationships_file rel) place format.nil n at inside
          (⊎_elim (λ (l : at + n ≤ place). inr l) (λ (l : place + 8 ≤ at). inl (omega arith)) (at_place rel n at row live end
          (subst (λ z. IsBesideLinks (rec_at s.records format.relationships_file z) node n at) e beside)))))
          (λ (ne : x ≢ rel). ap (λ r. field n r at) (put_other s.records (rel_key rel) freed (key_in format.relationships_file x)
          (λ e. ne (ap (λ (k : Key). k.id) e)))) (nat_cases x rel)

      rel_stays : (x n at : ℕ) → x ≢ format.nil → at + n ≤ 64 → IsBesideLinks (rec_at s.records format.relationships_file x) node n at
          → field n (rec_at now.records format.relationships_file x) at ≡ field n (rec_at s.records format.relationships_file x) at
      rel_stays x n at some inside beside = pushes.only.same (key_in format.relationships_file x) n at inside (
        (λ e. first_apart x n at some beside (ap (λ (k : Key). k.id) e)),
        (
          (λ e. rel_apart n at (subst (λ z. IsBesideLinks (rec_at s.records format.relationships_file z) node n at) (ap (λ (k : Key). k.id) e) beside)),
          ((λ e. let f = ap (λ (k : Key). k.file) e in absurd (omega arith)), tt),
        ),
      )
          ∙ freed_stays x n at inside beside

  keeps_here : KeepsBut now.records now.shape node rest most empty
  keeps_here = subst (λ (q : Shape). KeepsBut now.records q node rest most empty) (sym (pushed_shape t head node rel)) keeps_joined

  dense_here : kind_at now.records format.nodes_file node ≡ format.dense
  dense_here = re.dense_same s.records now.records node stepped.frame node dense

  live_here : rel_at now.records rel ≡ Some row
  live_here = re.rel_same s.records now.records node stepped.frame rel ∙ live

  group_here : group_at now.records g ≡ Some (record { id = g; label = row.label; owner = node })
  group_here = group_stays g ∙ group

  -- ---- it is counted
  module _ (exact : AreExactBut s.records node (rel ∷ rest)) (counted : HasCountedGroups s.records node) where
    exact_here : AreExactBut now.records node (rel ∷ rest)
    exact_here = exact_stays s.records now.records node (rel ∷ rest) kind_stays group_stays
        (λ x at within. number x 4 at (let b = within.1 in omega arith) (λ _. inr (let b = within.0 in let c = place_high in omega arith)))
        (re.rels_same s.records now.records node stepped.frame) (re.mark_same s.records now.records node stepped.frame format.relationships_file
        (λ e. omega arith)) exact
      where
        place_high : sides.place_of side + 4 ≤ 32
        place_high = ⊎_elim (λ (e : sides.place_of side ≡ 20). omega arith)
            (λ k. ⊎_elim (λ (e : sides.place_of side ≡ 24). omega arith) (λ (e : sides.place_of side ≡ 28). omega arith) k) (side_place side)

    counted_here : HasCountedGroups now.records node
    counted_here = counted_stays s.records now.records node kind_stays group_stays counted

    abbrev end_state : State
    end_state = counted_joined s head node rel

    side_here : IsSide (sides.place_of side) (record { id = g; label = row.label; owner = node }) row
    side_here = at_side g node row.label row end

    put_is : (z : ℕ) × (end_state.records ≡ put now.records (group_key g) (with_field 4 (rec_at now.records format.groups_file g) (sides.place_of side + 12) z))
    put_is = ex.tally_put now node rel g (sides.place_of side) row rest most empty keeps_here dense_here live_here group_here out side_here exact_here
        counted_here

    -- the node has no more groups
    pub groups_joined : (x : ℕ) → IsGroupOf end_state.records node x → IsGroupOf s.records node x
    groups_joined x is = groups_here x (ex.tally_groups now node rel g (sides.place_of side) row rest most empty keeps_here dense_here live_here group_here out
        side_here exact_here counted_here x is)

    pub regroups_joined : Regroups s end_state node
    regroups_joined = regroups_both s now end_state node regroups_now (ex.tally_regroups now node rel g (sides.place_of side) row rest most empty keeps_here
        dense_here live_here group_here out side_here exact_here counted_here)

    pub leaves_joined : LeavesOthers s end_state node
    leaves_joined = leaves_both s now end_state node regroups_now leaves_now
        (leaves_put now end_state node g (with_field 4 (rec_at now.records format.groups_file g) (sides.place_of side + 12) put_is.0)
        (record { id = g; label = row.label; owner = node }) group_here refl put_is.1)

    -- the others are left
    pub spread_joined : (next : ℕ) → IsWalk (next_of s.records node) next rest → IsSpread end_state node next rest most empty
    spread_joined next walk = record {
      keeps = ex.tally_keeps now node rel g (sides.place_of side) row rest most empty keeps_here dense_here live_here group_here out side_here exact_here
          counted_here;
      dense = ap (λ (r : Records). kind_at r format.nodes_file node) put_is.1 ∙ dense_here;
      walk = subst (λ (r : Records). IsWalk (next_of r node) next rest) (sym put_is.1)
          (walk_stays (next_of s.records node) (next_of now.records node) next rest link_stays walk);
      ends = λ x i. let l = left x i in (l.0, ap (λ (r : Records). rel_at r x) put_is.1 ∙ re.rel_same s.records now.records node stepped.frame x ∙ l.1, l.2);
      exact = ex.tally_exact now node rel g (sides.place_of side) row rest most empty keeps_here dense_here live_here group_here out side_here exact_here
          counted_here;
      counted = ex.tally_counted now node rel g (sides.place_of side) row rest most empty keeps_here dense_here live_here group_here out side_here exact_here
          counted_here;
    }
