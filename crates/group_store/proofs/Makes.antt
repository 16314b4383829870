-- What a group at the front of a node's chain makes of the chains of groups.
use Rattle.std.proofs.Common.{◌≡◌, ◌≢◌, ◌⊎◌, ⊎_elim, inl, inr, ℕ, true, cond, ◌+◌, ◌<◌, ◌≤◌, ◌^◌, List, [], ◌∷◌, Some, refl, sym, ap, ◌∙◌, subst, arith}
use Rattle.std.proofs.lemmas.Bool.{cases_lt}
use Rattle.id_freelist.specs.FreeLists.{IsFreeList}
use Rattle.id_freelist.specs.Taking.{CanTake, HasTaken, first_of, mark_after, rest_of}
use Rattle.node_store.specs.NodeRecord.{node_key}
use Rattle.rec_bytes.specs.declared.key.Key.{Key}
use Rattle.rec_bytes.specs.declared.record.Rec.{Rec}
use Rattle.rec_bytes.specs.Format as format
use Rattle.rec_bytes.specs.Meta as metas
use Rattle.rec_bytes.specs.Record.{field, with_field, zeros}
use Rattle.rec_bytes.specs.RecordFiles.{meta_key_of}
use Rattle.rec_bytes.specs.Space.{State, after_put, after_set, meta_in}
use Rattle.rec_bytes.specs.Tables.{AllFit, field_at}
use Rattle.rec_bytes.proofs.Numbers.{field-lt}
use Rattle.rec_bytes.proofs.Spaces.{put_other, put_same}
use Rattle.rec_bytes.proofs.Tables.{field-with_fields}
use Rattle.store_rules.specs.Chains.{In, IsChain, IsWalk}
use Rattle.store_rules.specs.Rules.{next_free}
use Rattle.store_rules.specs.Views.{Records, first_link, high, is_group_kind, kind_at, rec_at}
use Rattle.store_rules.proofs.ChainLaws.{chain_stays, head_once, walk_of_chain, walk_stays}
use Rattle.store_rules.proofs.NumberLaws.{eq_true, nat_cases}
use Rattle.store_rules.proofs.ViewLaws.{group_used, kind_high, kind_low}
use Rattle.store_rules.proofs.ChainSteps.{chain_push, first_in, nil_out, on_test}
use Rattle.chain_edit.proofs.LinkLaws.{field-set_other, field-set_same}
use Rattle.group_store.specs.GroupChain.{IsGroupChain, IsGroupOf, LacksType, group_field, next_group, previous_group, type_of}
use Rattle.group_store.specs.GroupRecord.{count_in, group_key, is_counted}
use Rattle.group_store.specs.Links.{backed}
use Rattle.group_store.specs.Making.{HasMade, empty_fields, empty_group, empty_row, led}
use Rattle.group_store.specs.Walking.{group_row_at}

-- ---- the record of an empty group

all_fit : (node label next : ℕ) → node < 2 ^ 32 → label < 2 ^ 32 → next < 2 ^ 32 → AllFit (empty_fields node label next)
all_fit node label next a b c =
    (omega arith, (b, (a, (omega arith, (c, (omega arith, (omega arith, (omega arith, (omega arith, (omega arith, (omega arith, tt)))))))))))

pub kind-empty_group : (node label next : ℕ) → node < 2 ^ 32 → label < 2 ^ 32 → next < 2 ^ 32
    → field 1 (empty_group node label next) format.kind ≡ format.counted
kind-empty_group node label next a b c = field-with_fields 1 zeros (empty_fields node label next) format.kind format.counted refl
    (all_fit node label next a b c) refl

pub number-empty_group : (node label next at value : ℕ) → node < 2 ^ 32 → label < 2 ^ 32 → next < 2 ^ 32
    → field_at (empty_fields node label next) 4 at ≡ Some value
    → field 4 (empty_group node label next) at ≡ value
number-empty_group node label next at value a b c is = field-with_fields 4 zeros (empty_fields node label next) at value refl (all_fit node label next a b c) is

-- ---- what stays where a record is put and linked

pub same_group : (g id : ℕ) → group_key g ≡ group_key id → g ≡ id
same_group g id e = ap (λ (k : Key). k.id) e

module _ (u : State) (node first id : ℕ) (rec : Rec) where
  t : State
  t = after_put u (group_key id) rec

  b : State
  b = backed t first id

  unfoldable pub new : State
  new = led u node first id rec

  new_is : new ≡ after_set b (node_key node) 4 format.node_first_link id
  unfolding new led b t
  new_is = refl

  field_back : (key : Key) (n at : ℕ) → at + n ≤ 64 → (key ≡ group_key first → (at + n ≤ 12) ⊎ (16 ≤ at))
      → field n (b.records key) at ≡ field n (t.records key) at
  unfolding b backed
  field_back key n at fits apart = on_test (λ (q : State). field n (q.records key) at ≡ field n (t.records key) at) first format.nil t
      (after_set t (group_key first) 4 format.group_previous id) (λ _. refl)
      (λ _. field-set_other t.records (record { key = group_key first; field = format.group_previous }) id key n at fits apart)

  other_back : (key : Key) → key ≢ group_key first → b.records key ≡ t.records key
  unfolding b backed
  other_back key ne = on_test (λ (q : State). q.records key ≡ t.records key) first format.nil t (after_set t (group_key first) 4 format.group_previous id)
      (λ _. refl)
      (λ _. put_other t.records (group_key first) (with_field 4 (t.records (group_key first)) format.group_previous id) key ne)

  new_other : (key : Key) → key ≢ node_key node → new.records key ≡ b.records key
  new_other key ne = ap (λ (q : State). q.records key) new_is ∙ put_other b.records (node_key node)
      (with_field 4 (b.records (node_key node)) format.node_first_link id) key ne

  t_other : (key : Key) → key ≢ group_key id → t.records key ≡ u.records key
  unfolding t
  t_other key ne = put_other u.records (group_key id) rec key ne

  t_same : t.records (group_key id) ≡ rec
  unfolding t
  t_same = put_same u.records (group_key id) rec

  no_node : (g : ℕ) → group_key g ≢ node_key node
  no_node g e = let f = ap (λ (k : Key). k.file) e in absurd (omega arith)

  pub stays : (key : Key) → key ≢ node_key node → key ≢ group_key id → key ≢ group_key first → new.records key ≡ u.records key
  stays key a c d = new_other key a ∙ other_back key d ∙ t_other key c

  -- numbers of groups
  pub group_stays : (g n at : ℕ) → at + n ≤ 64 → g ≢ id → (g ≡ first → (at + n ≤ 12) ⊎ (16 ≤ at))
      → field n (rec_at new.records 3 g) at ≡ field n (rec_at u.records 3 g) at
  group_stays g n at fits ne apart = ap (λ r. field n r at) (new_other (group_key g) (no_node g))
      ∙ field_back (group_key g) n at fits (λ e. apart (same_group g first e)) ∙ ap (λ r. field n r at) (t_other (group_key g) (λ e. ne (same_group g id e)))

  pub group_here : id ≢ first → rec_at new.records 3 id ≡ rec
  group_here ne = new_other (group_key id) (no_node id) ∙ other_back (group_key id) (λ e. ne (same_group id first e)) ∙ t_same

  -- all of it but the link to the group before, whichever group stood first
  pub number_aside : (n at : ℕ) → at + n ≤ 64 → (at + n ≤ 12) ⊎ (16 ≤ at) → field n (rec_at new.records 3 id) at ≡ field n rec at
  number_aside n at fits apart = ap (λ r. field n r at) (new_other (group_key id) (no_node id))
      ∙ field_back (group_key id) n at fits (λ _. apart) ∙ ap (λ r. field n r at) t_same

  -- its kind, type and owner
  pub number_here : (n at : ℕ) → at + n ≤ 12 → field n (rec_at new.records 3 id) at ≡ field n rec at
  number_here n at low = number_aside n at (omega arith) (inl low)

  pub back_link : first ≢ format.nil → id < 2 ^ 32 → previous_group new.records first ≡ id
  unfolding b backed
  back_link some small = ap (λ r. field 4 r format.group_previous) (new_other (group_key first) (no_node first))
      ∙ on_test (λ (q : State). previous_group q.records first ≡ id) first format.nil t (after_set t (group_key first) 4 format.group_previous id)
      (λ none. absurd (some none))
      (λ _. field-set_same t.records (record { key = group_key first; field = format.group_previous }) id (omega arith) small)

  -- the node's first link
  pub first_here : id < 2 ^ 32 → first_link new.records node ≡ id
  first_here small = ap (λ (q : State). first_link q.records node) new_is
      ∙ field-set_same b.records (record { key = node_key node; field = format.node_first_link }) id (omega arith) small

  pub first_other : (m : ℕ) → m ≢ node → first_link new.records m ≡ first_link u.records m
  first_other m ne = ap (λ r. field 4 r format.node_first_link) (stays (node_key m) (λ e. ne (ap (λ (k : Key). k.id) e)) (λ e. absurd (no_node id m e))
      (λ e. absurd (no_node first m e)))
    where
      no_node : (g m : ℕ) → node_key m ≡ group_key g → ⊥
      no_node g m e = let f = ap (λ (k : Key). k.file) e in omega arith

  -- the meta record
  pub meta_stays : new.records (meta_key_of format.groups_file) ≡ u.records (meta_key_of format.groups_file)
  meta_stays = stays (meta_key_of format.groups_file)
      (λ e. let f = ap (λ (k : Key). k.file) e in absurd (omega arith)) (λ e. let f = ap (λ (k : Key). k.file) e in absurd (omega arith))
      (λ e. let f = ap (λ (k : Key). k.file) e in absurd (omega arith))

-- ---- the chains

-- where a mark follows a take, all but the one that was taken are below it as before
marks : (free : List ℕ) (mark id g : ℕ) → id ≡ first_of free mark → g ≢ id → (g < mark_after free mark → g < mark) × (g < mark → g < mark_after free mark)
marks [] mark id g is ne = ((λ lt. ⊎_elim (λ (l : g < mark). l) (λ (ge : mark ≤ g). absurd (ne (omega arith))) (cases_lt g mark)), (λ lt. omega arith))
marks (y ∷ later) mark id g is ne = ((λ lt. lt), (λ lt. lt))

taken_low : (free : List ℕ) (mark id : ℕ) → id ≡ first_of free mark → ((x : ℕ) → In x free → x < mark) → id < mark_after free mark
taken_low [] mark id is low = omega arith
taken_low (y ∷ later) mark id is low = let l = low y (inl refl) in omega arith

pub rest_once : (next : ℕ → ℕ) (from mark id : ℕ) (free : List ℕ) → id ≡ first_of free mark → IsWalk next from free → In id (rest_of free) → ⊥
rest_once next from mark id [] is walk i = elim i [ ]
rest_once next from mark id (y ∷ later) is walk i = head_once next y later walk.1 walk.2 (subst (λ z. In z later) is i)

-- what is not in use is not a group
pub unused_apart : (records : Records) (m g id : ℕ) → kind_at records format.groups_file id ≡ 0 → IsGroupOf records m g → g ≢ id
unused_apart records m g id none is e = group_used (kind_at records format.groups_file g) is.kind (ap (kind_at records format.groups_file) e ∙ none)

module _ (s u : State) (node label id : ℕ) (free xs : List ℕ)
    (chain : IsGroupChain s.records node xs) (lacks : LacksType s.records label xs) (can : CanTake s format.groups_file free)
    (taken : HasTaken s.records u.records format.groups_file id free) (fresh : kind_at s.records format.groups_file id ≡ 0)
    (small : id < 2 ^ 25) (small_node : node < 2 ^ 32) (small_label : label < 2 ^ 32) where
  first : ℕ
  first = first_link s.records node

  rec : Rec
  unfolding first
  rec = empty_group node label first

  now : State
  unfolding first rec
  now = new u node first id rec

  small_first : first < 2 ^ 32
  unfolding first
  small_first = field-lt 4 (rec_at s.records format.nodes_file node) format.node_first_link

  walked : IsWalk (next_group s.records) first xs
  unfolding first
  walked = walk_of_chain _ _ format.nil (first_link s.records node) xs chain.chain

  id_out : In id xs → ⊥
  id_out i = unused_apart s.records node id id fresh (chain.only id i) refl

  apart : id ≢ first
  apart e = ⊎_elim (λ (none : first ≡ format.nil). omega arith) (λ (i : In first xs). id_out (subst (λ z. In z xs) (sym e) i))
      (first_in (next_group s.records) first xs walked)

  group_old : (g : ℕ) → rec_at u.records 3 g ≡ rec_at s.records 3 g
  group_old g = taken.others (group_key g) (λ e. let f = ap (λ (k : Key). k.file) e in absurd (omega arith))

  number : (g n at : ℕ) → at + n ≤ 64 → g ≢ id → (g ≡ first → (at + n ≤ 12) ⊎ (16 ≤ at))
      → field n (rec_at now.records 3 g) at ≡ field n (rec_at s.records 3 g) at
  unfolding now
  number g n at fits ne where_first = group_stays u node first id rec g n at fits ne where_first ∙ ap (λ r. field n r at) (group_old g)

  here : rec_at now.records 3 id ≡ rec
  unfolding now
  here = group_here u node first id rec apart

  mark : high now.records 3 ≡ mark_after free (high s.records 3)
  unfolding now
  mark = ap (λ r. (metas.meta_of r).high) (meta_stays u node first id rec) ∙ taken.mark

  kind_stays : (g : ℕ) → g ≢ id → kind_at now.records 3 g ≡ kind_at s.records 3 g
  kind_stays g ne =
      let m = mark in
      let both = marks free (high s.records 3) id g taken.is ne in
      ⊎_elim
      (λ (lt : g < high s.records 3). let now_lt = both.1 lt in
      kind_low (high now.records 3) (rec_at now.records 3 g) g (omega arith) ∙ number g 1 0 (omega arith) ne (λ _. inl (omega arith))
      ∙ sym (kind_low (high s.records 3) (rec_at s.records 3 g) g lt))
      (λ (ge : high s.records 3 ≤ g).
      kind_high (high now.records 3) (rec_at now.records 3 g) g (⊎_elim (λ (lt : g < high now.records 3). let l = both.0 (omega arith) in absurd (omega arith))
      (λ (le : high now.records 3 ≤ g). le) (cases_lt g (high now.records 3)))
      ∙ sym (kind_high (high s.records 3) (rec_at s.records 3 g) g ge))
      (cases_lt g (high s.records 3))

  id_low : id < high now.records 3
  id_low = let l = taken_low free (high s.records 3) id taken.is can.low in let m = mark in omega arith

  -- groups of each node
  member_now : (m g : ℕ) → g ≢ id → IsGroupOf s.records m g → IsGroupOf now.records m g
  member_now m g ne is = record {
    kind = ap is_group_kind (kind_stays g ne) ∙ is.kind;
    owner = number g 4 8 (omega arith) ne (λ _. inl (omega arith))
        ∙ is.owner;
  }

  member_was : (m g : ℕ) → g ≢ id → IsGroupOf now.records m g → IsGroupOf s.records m g
  member_was m g ne is = record {
    kind = ap is_group_kind (sym (kind_stays g ne)) ∙ is.kind;
    owner = sym (number g 4 8 (omega arith) ne
        (λ _. inl (omega arith))) ∙ is.owner;
  }

  owner_here : group_field now.records format.group_owner id ≡ node
  unfolding rec
  owner_here = ap (λ r. field 4 r format.group_owner) here ∙ number-empty_group node label first format.group_owner node small_node small_label small_first refl

  member_here : IsGroupOf now.records node id
  unfolding rec
  member_here = record {
    kind = ap is_group_kind (kind_low (high now.records 3) (rec_at now.records 3 id) id id_low ∙ ap (λ r. field 1 r format.kind) here ∙ kind-empty_group node
        label first small_node small_label small_first);
    owner = owner_here;
  }

  only_node : (m : ℕ) → IsGroupOf now.records m id → m ≡ node
  only_node m is = sym is.owner ∙ owner_here

  type_here : type_of now.records id ≡ label
  unfolding rec
  type_here = ap (λ r. field 4 r format.group_type) here ∙ number-empty_group node label first format.group_type label small_node small_label small_first refl

  type_stays : (g : ℕ) → g ≢ id → type_of now.records g ≡ type_of s.records g
  type_stays g ne = number g 4 4 (omega arith) ne (λ _. inl (omega arith))

  not_id : (m g : ℕ) → IsGroupOf s.records m g → g ≢ id
  not_id m g is = unused_apart s.records m g id fresh is

  -- the node's chain
  links_here : IsChain (next_group now.records) (previous_group now.records) format.nil (first_link now.records node) (id ∷ xs)
  unfolding rec now first
  links_here = subst (λ z. IsChain (next_group now.records) (previous_group now.records) format.nil z (id ∷ xs))
      (sym (first_here u node first id rec (omega arith)))
      (chain_push (next_group s.records) (previous_group s.records) (next_group now.records) (previous_group now.records) first id xs chain.chain id_out
      (omega arith)
      (ap (λ r. field 4 r format.group_next) here ∙ number-empty_group node label first format.group_next first small_node small_label small_first refl)
      (ap (λ r. field 4 r format.group_previous) here ∙ number-empty_group node label first format.group_previous format.nil small_node small_label small_first
      refl)
      (λ some. back_link u node first id rec some (omega arith))
      (λ x ne. number x 4 16 (omega arith) ne (λ _. inr (omega arith)))
      (λ x ne nf. number x 4 12 (omega arith) ne (λ e. absurd (nf e))))

  types_once : (g k : ℕ) → In g (id ∷ xs) → In k (id ∷ xs) → type_of now.records g ≡ type_of now.records k → g ≡ k
  types_once g k (inl e) (inl f) same = e ∙ sym f
  types_once g k (inl e) (inr j) same = absurd (lacks k j (sym (type_stays k (not_id node k (chain.only k j))) ∙ sym same ∙ ap (type_of now.records) e
      ∙ type_here))
  types_once g k (inr i) (inl f) same = absurd (lacks g i (sym (type_stays g (not_id node g (chain.only g i))) ∙ same ∙ ap (type_of now.records) f ∙ type_here))
  types_once g k (inr i) (inr j) same = chain.once g k i j (sym (type_stays g (not_id node g (chain.only g i))) ∙ same ∙ type_stays k
      (not_id node k (chain.only k j)))

  chain_here : IsGroupChain now.records node (id ∷ xs)
  chain_here = record {
    chain = links_here;
    only = λ g i. ⊎_elim (λ e. subst (IsGroupOf now.records node) (sym e) member_here)
        (λ j. member_now node g (not_id node g (chain.only g j)) (chain.only g j)) i;
    all = λ g is. ⊎_elim (λ e. inl e) (λ ne. inr (chain.all g (member_was node g ne is))) (nat_cases g id);
    once = types_once;
  }

  -- the others' chains
  first_apart : (m g : ℕ) → m ≢ node → IsGroupOf s.records m g → g ≢ format.nil → g ≢ first
  first_apart m g ne is some e = ⊎_elim (λ (none : first ≡ format.nil). some (e ∙ none))
      (λ (i : In first xs). ne (sym is.owner ∙ ap (group_field s.records format.group_owner) e ∙ (chain.only first i).owner))
      (first_in (next_group s.records) first xs walked)

  chain_other : (m : ℕ) (ys : List ℕ) → m ≢ node → IsGroupChain s.records m ys → IsGroupChain now.records m ys
  unfolding now
  chain_other m ys ne other =
      let walk = walk_of_chain _ _ format.nil (first_link s.records m) ys other.chain in
      let out : (g : ℕ) → In g ys → g ≢ first = λ g i. first_apart m g ne (other.only g i)
      (λ e. nil_out (next_group s.records) (first_link s.records m) ys walk (subst (λ z. In z ys) e i)) in
      let off : (g : ℕ) → In g ys → g ≢ id = λ g i. not_id m g (other.only g i) in
      record {
        chain = subst (λ z. IsChain (next_group now.records) (previous_group now.records) format.nil z ys)
            (sym (first_other u node first id rec m ne ∙ ap (λ r. field 4 r format.node_first_link) (taken.others (node_key m)
            (λ e. let f = ap (λ (k : Key). k.file) e in absurd (omega arith)))))
            (chain_stays (next_group s.records) (previous_group s.records) (next_group now.records) (previous_group now.records) format.nil
            (first_link s.records m) ys
            (λ x i. number x 4 16 (omega arith) (off x i) (λ _. inr (omega arith)))
            (λ x i. number x 4 12 (omega arith) (off x i) (λ e. absurd (out x i e))) other.chain);
        only = λ g i. member_now m g (off g i) (other.only g i);
        all = λ g is. ⊎_elim (λ e. absurd (ne (only_node m (subst (IsGroupOf now.records m) e is)))) (λ nid. other.all g (member_was m g nid is))
            (nat_cases g id);
        once = λ g k i j same. other.once g k i j (sym (type_stays g (off g i)) ∙ same ∙ type_stays k (off k j));
      }

  -- the free list
  list : IsFreeList now.records format.groups_file (rest_of free)
  unfolding now
  list = subst (λ z. IsWalk (next_free now.records 3) z (rest_of free)) (sym (ap (λ r. (metas.meta_of r).free) (meta_stays u node first id rec)))
      (walk_stays (next_free u.records 3) (next_free now.records 3) (meta_in u.records 3).free (rest_of free)
      (λ x i. group_stays u node first id rec x 4 4 (omega arith) (λ e. rest_once (next_free s.records 3) (meta_in s.records 3).free (high s.records 3)
      id free taken.is can.list (subst (λ z. In z (rest_of free)) e i)) (λ _. inl (omega arith)))
      taken.list)

  counted : is_counted (rec_at now.records 3 id) ≡ true
  unfolding rec
  counted = eq_true _ _ (ap (λ r. field 1 r format.kind) here ∙ kind-empty_group node label first small_node small_label small_first)

  count_is : (at : ℕ) → count_in (rec_at now.records 3 id) at ≡ field 4 (rec_at now.records 3 id) at
  count_is at = ap (λ b. cond b (field 4 (rec_at now.records 3 id) at) 0) counted

  row_here : group_row_at now.records id ≡ empty_row id label
  unfolding rec
  row_here =
      let value : (at v : ℕ) → field_at (empty_fields node label first) 4 at ≡ Some v → group_field now.records at id ≡ v
      = λ at v is. ap (λ r. field 4 r at) here ∙ number-empty_group node label first at v small_node small_label small_first is in
      λ i. record {
        id = id;
        label = value format.group_type label refl i;
        first_out = value format.group_first_out format.nil refl i;
        first_in = value format.group_first_in format.nil refl i;
        first_loop = value format.group_first_loop format.nil refl i;
        counted = counted i;
        out_count = (count_is format.group_out_count ∙ value format.group_out_count 0 refl) i;
        in_count = (count_is format.group_in_count ∙ value format.group_in_count 0 refl) i;
        loop_count = (count_is format.group_loop_count ∙ value format.group_loop_count 0 refl) i;
      }

  pub has_made : HasMade s.records (led u node (first_link s.records node) id (empty_group node label (first_link s.records node))).records node label
      (empty_row id label) free xs
  unfolding now first rec new
  has_made = record {
    is = refl;
    first_free = taken.is;
    here = row_here;
    chain = chain_here;
    others = chain_other;
    list = list;
    mark = mark;
    live = ap (λ r. (metas.meta_of r).live) (meta_stays u node first id rec) ∙ taken.live;
    stays = λ key a b c d. stays u node first id rec key b c d ∙ taken.others key a;
    numbers = λ g n at fits ne apart. number g n at fits ne apart;
  }
