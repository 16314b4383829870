-- A relationship that comes into its group, by what the node has alone.
use Rattle.std.proofs.Common.{◌≡◌, ◌≢◌, ◌⊎◌, ℕ, ◌+◌, ◌<◌, ◌≤◌, ◌^◌, nat_eq, true, cond, Some, List, ◌∷◌, length, sym}
use Rattle.std.proofs.Common.{ap, ◌∙◌, subst, inl, inr, ⊎_elim, arith, refl}
use Rattle.rec_bytes.specs.declared.key.Key.{Key}
use Rattle.rec_bytes.specs.declared.meta.Meta.{Meta}
use Rattle.rec_bytes.specs.declared.shape.Shape.{Shape}
use Rattle.rec_bytes.specs.Format as format
use Rattle.rec_bytes.specs.Meta as metas
use Rattle.rec_bytes.specs.Record.{field}
use Rattle.rec_bytes.specs.RecordFiles.{meta_key_of, room_of}
use Rattle.rec_bytes.specs.Space.{State, meta_in, meta_of}
use Rattle.rec_bytes.proofs.Numbers.{field-lt}
use Rattle.store_rules.specs.Chains.{In, IsChain, IsWalk, next_in, place_of, prev_in}
use Rattle.store_rules.specs.Rows.{ids}
use Rattle.store_rules.specs.Rules.{Head, IsEnd, IsOn, StandsAt, first_of, next_free}
use Rattle.store_rules.specs.Views.{Records, RelRow, first_link, group_at, high, is_group_kind, key_in, kind_at, kind_in, rec_at, rel_at, rel_in, row_if}
use Rattle.store_rules.proofs.ChainLaws.{chain_stays, walk_of_chain, walk_stays}
use Rattle.store_rules.proofs.ChainSteps.{first_in}
use Rattle.store_rules.proofs.Counts.{in_ids, length-ids}
use Rattle.store_rules.proofs.NumberLaws.{eq_true, nat_cases}
use Rattle.store_rules.proofs.OnceLaws.{length_once, once_walk}
use Rattle.store_rules.proofs.ViewLaws.{kind_below, kind_by, kind_low, some_row}
use Rattle.chain_edit.specs.Chains.{IsChainAt, IsChainFrom, next_of, prev_of, prev_place}
use Rattle.chain_edit.specs.Heads.{IsPlace}
use Rattle.chain_edit.specs.Links.{prev_set}
use Rattle.chain_edit.specs.Pushing.{HasPushed, pushed}
use Rattle.chain_edit.proofs.LinkLaws.{elsewhere-set_prev, field-set_other, next_of-set_prev, place-set_prev}
use Rattle.chain_edit.proofs.LinkLaws.{place_high, prev_of-set_prev_other, prev_of-set_prev_same}
use Rattle.chain_edit.proofs.Pushes.{has_pushed}
use Rattle.id_freelist.specs.Taking.{IsCounted, room}
use Rattle.group_store.specs.declared.side.Side.{Side}
use Rattle.group_store.specs.declared.side.Side.TheVariants.{Out, In as Into, Loop}
use Rattle.group_store.specs.Counting.{count_place, one_more, tallied}
use Rattle.group_store.specs.GroupChain.{IsDense, IsGroupChain, IsGroupOf, next_group, previous_group, type_of}
use Rattle.group_store.specs.GroupRecord.{group_key, is_counted}
use Rattle.group_store.specs.Leaving.{LeavesApart, LeavesBeside}
use Rattle.group_store.specs.Opening.{IsAt}
use Rattle.group_store.specs.Sides as sides
use Rattle.group_store.specs.Sides.{group_head, side_at}
use Rattle.group_store.specs.Spreading.{CanTakeEach, HasSide, IsMember}
use Rattle.group_store.proofs.DenseStays.{dense_moved}
use Rattle.group_store.proofs.GroupRules.{row_of_group}
use Rattle.group_store.proofs.LeftBeside.{beside_moved}
use Rattle.group_store.proofs.Moves.{in_group, pushed_shape}
use Rattle.group_store.proofs.OwnRecords.{group_says}
use Rattle.group_store.proofs.Tallies.{apart-tallied, count-tallied, count_high, field-tallied, file-tallied, shape-tallied}

-- ---- rows of relationships

-- the mark of a file but that of the groups
pub beside_high : (s t : Records) (node file : ℕ) → LeavesBeside s t node → file ≢ format.groups_file → high t file ≡ high s file
beside_high s t node file b ne = ap (λ r. (metas.meta_of r).high) (b.others (meta_key_of file) (λ e. omega arith) (λ e. omega arith)
    (λ e. ne (ap (λ (k : Key). k.id) e)) (λ e. let f = ap (λ (k : Key). k.file) e in omega arith))

pub beside_kind : (s t : Records) (node x : ℕ) → LeavesBeside s t node → kind_at t format.relationships_file x ≡ kind_at s format.relationships_file x
beside_kind s t node x b = ap (λ m. kind_in m (rec_at t format.relationships_file x) x) (beside_high s t node format.relationships_file b (λ e. omega arith))
    ∙ kind_by (high s format.relationships_file) (rec_at t format.relationships_file x) (rec_at s format.relationships_file x) x
    (b.rels x 1 format.kind (omega arith) (inl (omega arith)))

pub beside_rels : (s t : Records) (node : ℕ) → LeavesBeside s t node → (x : ℕ) → rel_at t x ≡ rel_at s x
beside_rels s t node b x =
    let kind = beside_kind s t node x b in
    λ i. row_if (kind i) (record {
      id = x;
      label = b.rels x 4 format.relationship_type (omega arith) (inl (omega arith)) i;
      from = b.rels x 4 format.relationship_source (omega arith) (inl (omega arith)) i;
      to = b.rels x 4 format.relationship_target (omega arith) (inl (omega arith)) i;
      property = b.rels x 4 format.relationship_first_property (omega arith) (inr (omega arith)) i;
    })

inner : (a b : RelRow) → Some a ≡ Some b → a ≡ b
inner a b e = cc

-- a member of a type and side has no other
pub one_place : (records : Records) (node label other : ℕ) (side aside : Side) (x : ℕ) → IsMember records node label side x
    → IsMember records node other aside x → (label ≡ other) × (side ≡ aside)
one_place records node label other side aside x a b =
    let same = inner a.row b.row (sym a.live ∙ b.live) in
    (sym a.at.typed ∙ ap (λ (r : RelRow). r.label) same ∙ b.at.typed, a.at.aside ∙ ap (λ (r : RelRow). side_at node r.from r.to) same ∙ sym b.at.aside)

pub member_again : (s t : Records) (node label other : ℕ) (side : Side) (x : ℕ) → rel_at t x ≡ rel_at s x → label ≡ other → IsMember s node label side x
    → IsMember t node other side x
member_again s t node label other side x same typed a = record { row = a.row; live = same ∙ a.live; at = subst (λ l. IsAt node l side a.row) typed a.at }

-- it stands at the head of its group
pub member_stands : (records : Records) (node g : ℕ) (side : Side) (x : ℕ) → IsGroupOf records node g → IsMember records node (type_of records g) side x
    → StandsAt (rel_at records) (group_at records) (group_head g side) x
member_stands records node g side x is a = record {
  row = a.row;
  live = a.live;
  on = subst (λ (z : Side). IsOn (group_at records) (group_head g z) a.row) (sym a.at.aside)
      (inr (
        refl,
        in_group (group_at records) g node (type_of records g) a.row (row_of_group records node g is ∙
            (λ i. Some (record { id = g; label = type_of records g; owner = is.owner i }))) a.at.typed a.at.end,
      ));
}

-- one side of a group, from its chain
pub side_by : (records : Records) (node : ℕ) (came : List ℕ) (g : ℕ) (side : Side) (members : List ℕ) → IsGroupOf records node g
    → IsChainAt records (group_head g side) node members
    → ((x : ℕ) → In x members → In x came × IsMember records node (type_of records g) side x)
    → ((x : ℕ) → In x came → IsMember records node (type_of records g) side x → In x members)
    → field 4 (rec_at records format.groups_file g) (count_place (sides.place_of side)) ≡ length members → HasSide records node came g side
side_by records node came g side members is chain are all count = record {
  members = members;
  list = record { chain = chain; only = λ x i. member_stands records node g side x is (are x i).1 };
  are = are;
  all = all;
  count = count;
}

-- ---- sides, and their places

pub side_cases : (a b : Side) → (a ≡ b) ⊎ ((sides.place_of a + 4 ≤ sides.place_of b) ⊎ (sides.place_of b + 4 ≤ sides.place_of a))
side_cases Out Out = inl refl
side_cases Out Into = inr (inl (omega arith))
side_cases Out Loop = inr (inl (omega arith))
side_cases Into Out = inr (inr (omega arith))
side_cases Into Into = inl refl
side_cases Into Loop = inr (inl (omega arith))
side_cases Loop Out = inr (inr (omega arith))
side_cases Loop Into = inr (inr (omega arith))
side_cases Loop Loop = inl refl

pub count_is : (side : Side) → count_place (sides.place_of side) ≡ sides.place_of side + 12
count_is Out = refl
count_is Into = refl
count_is Loop = refl

pub place_range : (side : Side) → (20 ≤ sides.place_of side) × (sides.place_of side ≤ 28)
place_range Out = (omega arith, omega arith)
place_range Into = (omega arith, omega arith)
place_range Loop = (omega arith, omega arith)

side_head : (g : ℕ) (side : Side) → IsPlace (group_head g side)
side_head g Out = record { elsewhere = λ e. omega arith; whole = refl; fits = omega arith }
side_head g Into = record { elsewhere = λ e. omega arith; whole = refl; fits = omega arith }
side_head g Loop = record { elsewhere = λ e. omega arith; whole = refl; fits = omega arith }

-- ---- a relationship that comes into its group

module _ (m : State) (node rel g : ℕ) (row : RelRow) (groups came : List ℕ) (chain : IsGroupChain m.records node groups) (here : In g groups)
    (counted : (k : ℕ) → In k groups → kind_at m.records format.groups_file k ≡ format.counted)
    (all_sides : (k : ℕ) → In k groups → (side : Side) → HasSide m.records node came k side)
    (live : rel_at m.records rel ≡ Some row) (end : IsEnd node row) (typed : row.label ≡ type_of m.records g) (out : ¬ In rel came) (small : rel < 2 ^ 25) where
  abbrev side : Side
  side = side_at node row.from row.to

  abbrev head : Head
  head = group_head g side

  abbrev t : State
  t = prev_set m node rel format.nil

  abbrev p : State
  p = pushed t head node rel

  abbrev e : State
  e = tallied one_more p head

  -- its own link back is set to none
  group_t : (k : ℕ) → rec_at t.records format.groups_file k ≡ rec_at m.records format.groups_file k
  group_t k = elsewhere-set_prev m.records node rel format.nil (key_in format.groups_file k) (λ e. omega arith)

  chain_t : (from : ℕ) (ys : List ℕ) → ¬ In rel ys → IsChainFrom m.records node from ys → IsChainFrom t.records node from ys
  chain_t from ys absent c = chain_stays (next_of m.records node) (prev_of m.records node) (next_of t.records node) (prev_of t.records node) format.nil from ys
      (λ x i. next_of-set_prev m.records node rel format.nil node x)
      (λ x i. prev_of-set_prev_other m.records node rel format.nil node x (λ q. absurd (absent (subst (λ z. In z ys) q i)))) c

  first_t : (k : ℕ) (s : Side) → first_of t.records (group_head k s) ≡ first_of m.records (group_head k s)
  first_t k s = ap (λ r. field 4 r (sides.place_of s)) (group_t k)

  not_in : (k : ℕ) (i : In k groups) (s : Side) → ¬ In rel (all_sides k i s).members
  not_in k i s j = out ((all_sides k i s).are rel j).0

  chain_was : (k : ℕ) (i : In k groups) (s : Side) → IsChainAt t.records (group_head k s) node (all_sides k i s).members
  chain_was k i s = subst (λ f. IsChainFrom t.records node f (all_sides k i s).members) (sym (first_t k s))
      (chain_t (first_of m.records (group_head k s)) (all_sides k i s).members (not_in k i s) (all_sides k i s).list.chain)

  -- it is pushed
  unfoldable xs : List ℕ
  xs = (all_sides g here side).members

  own_chain : IsChainAt t.records head node xs
  unfolding xs
  own_chain = chain_was g here side

  pushes : HasPushed t.records p.records head node rel xs
  unfolding xs
  pushes = has_pushed t head node rel (side_head g side) (all_sides g here side).members small
      (record { chain = own_chain; new = not_in g here side; alone = prev_of-set_prev_same m.records node rel format.nil (omega arith) })

  -- numbers of other files' records, and of groups
  other : (key : Key) (n at : ℕ) → key.file ≢ format.relationships_file → key.file ≢ format.groups_file → at + n ≤ 64
      → field n (e.records key) at ≡ field n (m.records key) at
  other key n at no_rel no_group inside = ap (λ r. field n r at) (file-tallied one_more p head key no_group)
      ∙ pushes.only.same key n at inside (
        (λ q. absurd (no_rel (ap (λ (k : Key). k.file) q))),
        (
          (λ q. absurd (no_rel (ap (λ (k : Key). k.file) q))),
          ((λ q. absurd (no_group (ap (λ (k : Key). k.file) q))), tt),
        ),
      )
      ∙ ap (λ r. field n r at) (elsewhere-set_prev m.records node rel format.nil key no_rel)

  number_p : (k n at : ℕ) → at + n ≤ 64 → (k ≡ g → (at + n ≤ sides.place_of side) ⊎ (sides.place_of side + 4 ≤ at))
      → field n (rec_at p.records format.groups_file k) at ≡ field n (rec_at m.records format.groups_file k) at
  number_p k n at inside aside = pushes.only.same (key_in format.groups_file k) n at inside (
    (λ q. let f = ap (λ (z : Key). z.file) q in absurd (omega arith)),
    (
      (λ q. let f = ap (λ (z : Key). z.file) q in absurd (omega arith)),
      ((λ q. aside (ap (λ (z : Key). z.id) q)), tt),
    ),
  )
      ∙ ap (λ r. field n r at) (group_t k)

  number : (k n at : ℕ) → at + n ≤ 64 → (k ≡ g → ((at + n ≤ sides.place_of side) ⊎ (sides.place_of side + 4 ≤ at)) ×
      ((at + n ≤ count_place (sides.place_of side)) ⊎ (count_place (sides.place_of side) + 4 ≤ at)))
      → field n (rec_at e.records format.groups_file k) at ≡ field n (rec_at m.records format.groups_file k) at
  number k n at inside aside = apart-tallied one_more p head (key_in format.groups_file k) n at inside (λ q. (aside (ap (λ (z : Key). z.id) q)).1)
      ∙ number_p k n at inside (λ q. (aside q).0)

  pub number_low : (k n at : ℕ) → at + n ≤ 20 → field n (rec_at e.records format.groups_file k) at ≡ field n (rec_at m.records format.groups_file k) at
  number_low k n at low = number k n at (omega arith) (λ _. let a = (place_range side).0 in let b = (count_high (sides.place_of side)).0 in
      (inl (omega arith), inl (omega arith)))

  pub meta_e : meta_of e format.groups_file ≡ meta_of m format.groups_file
  meta_e =
      let same : (at : ℕ) → at + 4 ≤ 64 → field 4 (e.records (meta_key_of format.groups_file)) at ≡ field 4 (m.records (meta_key_of format.groups_file)) at
      = λ at inside. other (meta_key_of format.groups_file) 4 at (λ q. omega arith) (λ q. omega arith) inside in
      λ i. record { high = same format.meta_high (omega arith) i; free = same format.meta_free (omega arith) i; live = same format.meta_live (omega arith) i }

  pub kind_e : (k : ℕ) → kind_at e.records format.groups_file k ≡ kind_at m.records format.groups_file k
  kind_e k = ap (λ (q : Meta). kind_in q.high (rec_at e.records format.groups_file k) k) meta_e
      ∙ kind_by (high m.records format.groups_file) (rec_at e.records format.groups_file k) (rec_at m.records format.groups_file k) k
      (number_low k 1 format.kind (omega arith))

  pub type_e : (k : ℕ) → type_of e.records k ≡ type_of m.records k
  type_e k = number_low k 4 format.group_type (omega arith)

  owned_e : (k : ℕ) → IsGroupOf m.records node k → IsGroupOf e.records node k
  owned_e k is = record { kind = ap is_group_kind (kind_e k) ∙ is.kind; owner = number_low k 4 format.group_owner (omega arith) ∙ is.owner }

  owned_m : (k : ℕ) → IsGroupOf e.records node k → IsGroupOf m.records node k
  owned_m k is = record { kind = ap is_group_kind (sym (kind_e k)) ∙ is.kind; owner = sym (number_low k 4 format.group_owner (omega arith)) ∙ is.owner }

  pub chain_e : IsGroupChain e.records node groups
  chain_e = record {
    chain = subst (λ f. IsChain (next_group e.records) (previous_group e.records) format.nil f groups)
        (sym (other (key_in format.nodes_file node) 4 format.node_first_link (λ q. omega arith) (λ q. omega arith) (omega arith)))
        (chain_stays (next_group m.records) (previous_group m.records) (next_group e.records) (previous_group e.records) format.nil (first_link m.records node)
        groups
        (λ k i. number_low k 4 format.group_next (omega arith)) (λ k i. number_low k 4 format.group_previous (omega arith)) chain.chain);
    only = λ k i. owned_e k (chain.only k i);
    all = λ k is. chain.all k (owned_m k is);
    once = λ k l i j same. chain.once k l i j (sym (type_e k) ∙ same ∙ type_e l);
  }

  pub counted_e : (k : ℕ) → In k groups → kind_at e.records format.groups_file k ≡ format.counted
  counted_e k i = kind_e k ∙ counted k i

  -- rows, and what stands where
  pub beside_e : LeavesBeside m.records e.records node
  beside_e = beside_moved m t e node rel head refl (place_range side).0 (group_says m.records node g (chain.only g here)) refl refl

  pub rows_e : (x : ℕ) → rel_at e.records x ≡ rel_at m.records x
  rows_e = beside_rels m.records e.records node beside_e

  member_m : (k : ℕ) (s : Side) (x : ℕ) → IsMember e.records node (type_of e.records k) s x → IsMember m.records node (type_of m.records k) s x
  member_m k s x a = member_again e.records m.records node (type_of e.records k) (type_of m.records k) s x (sym (rows_e x)) (type_e k) a

  pub member_e : (k : ℕ) (s : Side) (x : ℕ) → IsMember m.records node (type_of m.records k) s x → IsMember e.records node (type_of e.records k) s x
  member_e k s x a = member_again m.records e.records node (type_of m.records k) (type_of e.records k) s x (rows_e x) (sym (type_e k)) a

  rel_member : IsMember m.records node (type_of m.records g) side rel
  rel_member = record { row = row; live = live; at = record { end = end; typed = typed; aside = refl } }

  pub rel_member_e : IsMember e.records node (type_of e.records g) side rel
  rel_member_e = member_e g side rel rel_member

  below : (x : ℕ) (a : RelRow) → rel_at m.records x ≡ Some a → x < high m.records format.relationships_file
  below x a is = kind_below (high m.records format.relationships_file) (rec_at m.records format.relationships_file x) x
      (some_row (kind_at m.records format.relationships_file x) (rel_in (rec_at m.records format.relationships_file x) x) a is).0

  -- the chain of its side
  chain_pe : (from : ℕ) (ys : List ℕ) → IsChainFrom p.records node from ys → IsChainFrom e.records node from ys
  chain_pe from ys c =
      let same : (x : ℕ) → rec_at e.records format.relationships_file x ≡ rec_at p.records format.relationships_file x = λ x.
      file-tallied one_more p head (key_in format.relationships_file x) (λ q. omega arith) in
      chain_stays (next_of p.records node) (prev_of p.records node) (next_of e.records node) (prev_of e.records node) format.nil from ys
      (λ x i. ap (λ r. next_in r node) (same x)) (λ x i. ap (λ r. prev_in r node) (same x)) c

  first_pe : (k : ℕ) (s : Side) → first_of e.records (group_head k s) ≡ first_of p.records (group_head k s)
  first_pe k s = field-tallied one_more p head (group_key k) 4 (sides.place_of s) (let b = (place_range s).1 in omega arith)

  own_chain_e : IsChainAt e.records head node (rel ∷ xs)
  own_chain_e = subst (λ f. IsChainFrom e.records node f (rel ∷ xs)) (sym (first_pe g side)) (chain_pe (first_of p.records head) (rel ∷ xs) pushes.chain)

  xs_are : (x : ℕ) → In x xs → In x came × IsMember m.records node (type_of m.records g) side x
  unfolding xs
  xs_are x i = (all_sides g here side).are x i

  few : length xs + 1 < 2 ^ 32
  few =
      let mark = high m.records format.relationships_file in
      let bound : mark < 2 ^ 32 = field-lt 4 (m.records (meta_key_of format.relationships_file)) format.meta_high in
      let le = length_once (rel ∷ xs) (ids (λ _. true) mark) (once_walk (next_of e.records node) (first_of e.records head) (rel ∷ xs)
      (walk_of_chain _ _ format.nil (first_of e.records head) (rel ∷ xs) own_chain_e))
      (λ x i. in_ids (λ _. true) mark x (⊎_elim (λ q. subst (λ z. z < mark) (sym q) (below rel row live)) (λ j. let a = (xs_are x j).1 in below x a.row a.live)
      i) refl) in
      let all = length-ids (λ _. true) mark in
      omega arith

  counted_p : is_counted (p.records head.key) ≡ true
  counted_p = eq_true _ _ (number_p g 1 format.kind (omega arith) (λ _. inl (let a = (place_range side).0 in omega arith))
      ∙ sym (kind_low (high m.records format.groups_file) (rec_at m.records format.groups_file g) g (kind_below (high m.records format.groups_file)
      (rec_at m.records format.groups_file g) g (λ q. let z = sym q ∙ counted g here in omega arith))) ∙ counted g here)

  own_count : field 4 (rec_at e.records format.groups_file g) (count_place (sides.place_of side)) ≡ length (rel ∷ xs)
  unfolding xs
  own_count =
      let was : field 4 (rec_at p.records format.groups_file g) (count_place (sides.place_of side)) ≡ length (all_sides g here side).members
      = number_p g 4 (count_place (sides.place_of side)) (let b = (count_high (sides.place_of side)).1 in omega arith)
      (λ _. inr (let c = count_is side in omega arith)) ∙ (all_sides g here side).count in
      let b : length xs + 1 < 2 ^ 32 = few in
      let more : one_more (length (all_sides g here side).members) ≡ length (rel ∷ (all_sides g here side).members) = omega arith in
      count-tallied one_more p head refl counted_p (subst (λ v. one_more v < 2 ^ 32) (sym was) (omega arith)) ∙ ap one_more was ∙ more

  own_side : HasSide e.records node (rel ∷ came) g side
  unfolding xs
  own_side = side_by e.records node (rel ∷ came) g side (rel ∷ xs) (owned_e g (chain.only g here)) own_chain_e
      (λ x i. ⊎_elim (λ q. (inl q, subst (IsMember e.records node (type_of e.records g) side) (sym q) rel_member_e)) (λ j. let a = xs_are x j in
      (inr a.0, member_e g side x a.1)) i)
      (λ x i a. ⊎_elim (λ q. inl q) (λ j. inr ((all_sides g here side).all x j (member_m g side x a))) i) own_count

  -- another side
  module _ (k : ℕ) (i : In k groups) (s : Side) (ne : (k ≡ g) → (side ≡ s) → ⊥) where
    ys : List ℕ
    ys = (all_sides k i s).members

    not_both : (x : ℕ) → IsMember m.records node (type_of m.records k) s x → IsMember m.records node (type_of m.records g) side x → ⊥
    not_both x a b = let q = one_place m.records node (type_of m.records k) (type_of m.records g) s side x a b in ne (chain.once k g i here q.0) (sym q.1)

    apart_places : (k ≡ g) → (sides.place_of s + 4 ≤ sides.place_of side) ⊎ (sides.place_of side + 4 ≤ sides.place_of s)
    apart_places same = ⊎_elim (λ q. absurd (ne same (sym q))) (λ z. z) (side_cases s side)

    other_first : first_of p.records (group_head k s) ≡ first_of t.records (group_head k s)
    other_first = pushes.only.same (group_key k) 4 (sides.place_of s) (let b = (place_range s).1 in omega arith) (
      (λ q. let f = ap (λ (z : Key). z.file) q in absurd (omega arith)),
      (
        (λ q. let f = ap (λ (z : Key). z.file) q in absurd (omega arith)),
        ((λ q. apart_places (ap (λ (z : Key). z.id) q)), tt),
      ),
    )

    other_chain : IsChainAt e.records (group_head k s) node ys
    unfolding ys xs
    other_chain = subst (λ f. IsChainFrom e.records node f (all_sides k i s).members) (sym (first_pe k s ∙ other_first))
        (chain_pe (first_of t.records (group_head k s)) (all_sides k i s).members
        (pushes.others node (first_of t.records (group_head k s)) (all_sides k i s).members (chain_was k i s)
        (λ x j l. absurd (⊎_elim (λ q. not_in k i s (subst (λ z. In z (all_sides k i s).members) q j)) (λ n. not_both x ((all_sides k i s).are x j).1
        (xs_are x n).1) l))))

    other_count : field 4 (rec_at e.records format.groups_file k) (count_place (sides.place_of s)) ≡ length ys
    unfolding ys
    other_count = number k 4 (count_place (sides.place_of s)) (let b = (count_high (sides.place_of s)).1 in omega arith)
        (λ same. let a = count_is s in let b = count_is side in let c = (place_range side).1 in let d = (place_range s).0 in (
          inr (omega arith),
          ⊎_elim (λ (l : sides.place_of s + 4 ≤ sides.place_of side). inl (omega arith)) (λ (l : sides.place_of side + 4 ≤ sides.place_of s). inr (omega arith))
              (apart_places same),
        )) ∙ (all_sides k i s).count

    pub other_side : HasSide e.records node (rel ∷ came) k s
    unfolding ys
    other_side = side_by e.records node (rel ∷ came) k s ys (owned_e k (chain.only k i)) other_chain
        (λ x j. let a = (all_sides k i s).are x j in (inr a.0, member_e k s x a.1))
        (λ x j a. ⊎_elim (λ q. absurd (not_both rel (subst (IsMember m.records node (type_of m.records k) s) q (member_m k s x a)) rel_member))
        (λ n. (all_sides k i s).all x n (member_m k s x a)) j) other_count

  pub sides_e : (k : ℕ) → In k groups → (s : Side) → HasSide e.records node (rel ∷ came) k s
  sides_e k i s = ⊎_elim
      (λ (same : k ≡ g). ⊎_elim
      (λ (q : side ≡ s). subst (λ z. HasSide e.records node (rel ∷ came) z s) (sym same) (subst (HasSide e.records node (rel ∷ came) g) q own_side))
      (λ apart. other_side k i s (λ _ q. ⊎_elim (λ (l : sides.place_of side + 4 ≤ sides.place_of s). let z = ap sides.place_of q in omega arith)
      (λ (l : sides.place_of s + 4 ≤ sides.place_of side). let z = ap sides.place_of q in omega arith) apart)) (side_cases side s))
      (λ (apart : k ≢ g). other_side k i s (λ q _. apart q)) (nat_cases k g)

  -- what stood first at its head came there
  pub first_known : (first_of t.records head ≡ format.nil) ⊎ In (first_of t.records head) came
  unfolding xs
  first_known = ⊎_elim (λ none. inl none) (λ i. inr (xs_are (first_of t.records head) i).0)
      (first_in (next_of t.records node) (first_of t.records head) xs (walk_of_chain _ _ format.nil (first_of t.records head) xs own_chain))

  -- a relationship that isn't there has the next one that it had
  pub next_e : (y : ℕ) → y ≢ rel → ¬ In y came → y ≢ format.nil → next_of e.records node y ≡ next_of m.records node y
  next_e y not_rel not_came some =
      let same : rec_at e.records format.relationships_file y ≡ rec_at p.records format.relationships_file y =
      file-tallied one_more p head (key_in format.relationships_file y) (λ q. omega arith) in
      let low : (n at : ℕ) → at + n ≤ 64 → field n (rec_at p.records format.relationships_file y) at ≡ field n (rec_at t.records format.relationships_file y) at
      = λ n at inside. pushes.only.same (key_in format.relationships_file y) n at inside (
        (λ q. absurd (not_first (ap (λ (k : Key). k.id) q))),
        (
          (λ q. absurd (not_rel (ap (λ (k : Key). k.id) q))),
          ((λ q. let f = ap (λ (k : Key). k.file) q in absurd (omega arith)), tt),
        ),
      ) in
      ap (λ r. next_in r node) same
      ∙ ap (λ v. field 4 (rec_at p.records format.relationships_file y) (cond (nat_eq v node) 16 24 + 4)) (low 4 8 (omega arith))
      ∙ low 4 (place_of (rec_at t.records format.relationships_file y) node + 4)
      (let b = place_high (rec_at t.records format.relationships_file y) node in omega arith)
      ∙ next_of-set_prev m.records node rel format.nil node y
    where
      not_first : y ≢ first_of t.records head
      not_first q = ⊎_elim (λ none. some (q ∙ none)) (λ i. not_came (subst (λ z. In z came) (sym q) i)) first_known

  -- what else stays
  pub leaves_e : LeavesApart m.records e.records node (rel ∷ came) groups
  leaves_e = record {
    others = λ x n at some absent inside.
        rels_pe x n at
        ∙ pushes.only.same (key_in format.relationships_file x) n at inside (
          (λ q. absurd (⊎_elim (λ none. some (ap (λ (k : Key). k.id) q ∙ none)) (λ i. absent (inr (subst (λ z. In z came) (sym (ap (λ (k : Key). k.id) q)) i)))
              first_known)),
          ((λ q. absurd (absent (inl (ap (λ (k : Key). k.id) q)))), ((λ q. let f = ap (λ (k : Key). k.file) q in absurd (omega arith)), tt)),
        )
        ∙ field-set_other m.records (prev_place m.records node rel) format.nil (key_in format.relationships_file x) n at inside
        (λ q. absurd (absent (inl (ap (λ (k : Key). k.id) q))));
    links = λ x n at inside beside.
        rels_pe x n at
        ∙ pushes.only.same (key_in format.relationships_file x) n at inside (
          (λ q. near (first_of t.records head) (place_of (rec_at t.records format.relationships_file (first_of t.records head)) node) x n at
              (let z = place_same (first_of t.records head) in (omega arith, omega arith)) (ap (λ (k : Key). k.id) q) beside),
          (
            (λ q. near rel (place_of (rec_at t.records format.relationships_file rel) node + 4) x n at (let z = place_same rel in (omega arith, omega arith))
                (ap (λ (k : Key). k.id) q) beside),
            ((λ q. let f = ap (λ (k : Key). k.file) q in absurd (omega arith)), tt),
          ),
        )
        ∙ field-set_other m.records (prev_place m.records node rel) format.nil (key_in format.relationships_file x) n at inside
        (λ q. near rel (place_of (rec_at m.records format.relationships_file rel) node) x n at (omega arith, omega arith) (ap (λ (k : Key). k.id) q) beside);
    groups_stay = λ k n at some absent inside. number k n at inside (λ q. absurd (absent (subst (λ z. In z groups) (sym q) here)));
  }
    where
      rels_pe : (x n at : ℕ) → field n (rec_at e.records format.relationships_file x) at ≡ field n (rec_at p.records format.relationships_file x) at
      rels_pe x n at = ap (λ r. field n r at) (file-tallied one_more p head (key_in format.relationships_file x) (λ q. omega arith))

      place_same : (y : ℕ) → place_of (rec_at t.records format.relationships_file y) node ≡ place_of (rec_at m.records format.relationships_file y) node
      place_same y = place-set_prev m.records node rel format.nil node y

      near : (y f x n at : ℕ) → (place_of (rec_at m.records format.relationships_file y) node ≤ f)
          × (f + 4 ≤ place_of (rec_at m.records format.relationships_file y) node + 8) → x ≡ y
          → (at + n ≤ place_of (rec_at m.records format.relationships_file x) node) ⊎ (place_of (rec_at m.records format.relationships_file x) node + 8 ≤ at)
          → (at + n ≤ f) ⊎ (f + 4 ≤ at)
      near y f x n at within same beside =
          let here : place_of (rec_at m.records format.relationships_file x) node ≡ place_of (rec_at m.records format.relationships_file y) node =
          ap (λ z. place_of (rec_at m.records format.relationships_file z) node) same in
          ⊎_elim (λ (low : at + n ≤ place_of (rec_at m.records format.relationships_file x) node). inl (omega arith))
          (λ (high : place_of (rec_at m.records format.relationships_file x) node + 8 ≤ at). inr (omega arith)) beside

  -- free identifiers
  pub shape_e : e.shape ≡ m.shape
  shape_e = shape-tallied one_more p head ∙ pushed_shape t head node rel

  pub take_e : (free : List ℕ) → CanTakeEach m free → CanTakeEach e free
  take_e free can =
      let mark : high e.records format.groups_file ≡ high m.records format.groups_file = ap (λ (q : Meta). q.high) meta_e in
      let live_is : (meta_of e format.groups_file).live ≡ (meta_of m format.groups_file).live = ap (λ (q : Meta). q.live) meta_e in
      let size : room e format.groups_file ≡ room m format.groups_file = ap (λ (q : Shape). room_of q format.groups_file) shape_e in
      let le = can.take.mark in
      let all = can.exact in
      record {
        take = record {
          list = subst (λ f. IsWalk (next_free e.records format.groups_file) f free) (sym (ap (λ (q : Meta). q.free) meta_e))
              (walk_stays (next_free m.records format.groups_file) (next_free e.records format.groups_file) (meta_in m.records format.groups_file).free free
              (λ x i. number_low x 4 format.free_next (omega arith)) can.take.list);
          low = λ x i. let lt = can.take.low x i in omega arith;
          unused = λ x i. kind_e x ∙ can.take.unused x i;
          count = subst (λ n. IsCounted free n (high e.records format.groups_file)) (sym live_is)
              (subst (IsCounted free (meta_of m format.groups_file).live) (sym mark) can.take.count);
          mark = omega arith;
        };
        exact = omega arith;
      }

  pub dense_e : IsDense m.records node → IsDense e.records node
  dense_e dense = dense_moved m t e node rel head refl refl refl dense
