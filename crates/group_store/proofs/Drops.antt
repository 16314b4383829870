-- What the removal of a group from a node's chain makes of the chains of groups.
use Rattle.std.proofs.Common.{◌≡◌, ◌≢◌, ◌⊎◌, ⊎_elim, inl, inr, ℕ, ◌+◌, ◌<◌, ◌≤◌, ◌^◌, ◌-◌, nat_eq, cond, List, refl, sym, ap, ◌∙◌, subst, arith}
use Rattle.id_freelist.specs.Giving.{CanGive, HasGiven}
use Rattle.id_freelist.proofs.Leaving.{free_is_free}
use Rattle.node_store.specs.NodeRecord.{node_key}
use Rattle.rec_bytes.specs.declared.key.Key.{Key}
use Rattle.rec_bytes.specs.Format as format
use Rattle.rec_bytes.specs.Meta as metas
use Rattle.rec_bytes.specs.Record.{field, with_field}
use Rattle.rec_bytes.specs.RecordFiles.{meta_key_of}
use Rattle.rec_bytes.specs.Space.{State, after_get, after_set, meta_in}
use Rattle.rec_bytes.proofs.Numbers.{field-lt}
use Rattle.rec_bytes.proofs.Spaces.{put_other}
use Rattle.store_rules.specs.Chains.{In, IsChain, IsWalk, without}
use Rattle.store_rules.specs.Rules.{next_free}
use Rattle.store_rules.specs.Views.{first_link, high, kind_at, kind_in, rec_at, is_group_kind}
use Rattle.store_rules.proofs.ChainLaws.{chain_stays, walk_of_chain, walk_stays}
use Rattle.store_rules.proofs.NumberLaws.{eq_false, eq_true, nat_cases}
use Rattle.store_rules.proofs.ViewLaws.{kind_by, kind_low}
use Rattle.store_rules.proofs.ChainSteps.{after_in, after_other, before_in, before_other, chain_unlink, first_before}
use Rattle.store_rules.proofs.ChainSteps.{gone, in_without, nil_out, on_test, stays_without}
use Rattle.chain_edit.proofs.LinkLaws.{field-set_other, field-set_same}
use Rattle.group_store.specs.Dropping.{CanDrop, HasDropped, follows}
use Rattle.group_store.specs.GroupChain.{IsGroupChain, IsGroupOf, group_field, next_group, previous_group, type_of}
use Rattle.group_store.specs.GroupRecord.{group_key}
use Rattle.group_store.specs.Links.{backed, link_set}
use Rattle.group_store.proofs.GroupRecords.{group_below}
use Rattle.group_store.proofs.Makes.{same_group, unused_apart}

-- ---- what stays where the links are set

module _ (s : State) (node before after : ℕ) where
  b : State
  b = backed (after_get s) after before

  unfoldable pub linked : State
  linked = follows (backed (after_get s) after before) node before after

  field_back : (key : Key) (n at : ℕ) → at + n ≤ 64 → (key ≡ group_key after → (at + n ≤ 12) ⊎ (16 ≤ at))
      → field n (b.records key) at ≡ field n (s.records key) at
  unfolding b backed
  field_back key n at fits apart = on_test (λ (q : State). field n (q.records key) at ≡ field n (s.records key) at) after format.nil (after_get s)
      (after_set (after_get s) (group_key after) 4 format.group_previous before) (λ _. refl)
      (λ _. field-set_other s.records (record { key = group_key after; field = format.group_previous }) before key n at fits apart)

  other_back : (key : Key) → key ≢ group_key after → b.records key ≡ s.records key
  unfolding b backed
  other_back key ne = on_test (λ (q : State). q.records key ≡ s.records key) after format.nil (after_get s)
      (after_set (after_get s) (group_key after) 4 format.group_previous before) (λ _. refl)
      (λ _. put_other s.records (group_key after) (with_field 4 (s.records (group_key after)) format.group_previous before) key ne)

  other_follow : (key : Key) → key ≢ node_key node → key ≢ group_key before → linked.records key ≡ b.records key
  unfolding b linked follows
  other_follow key nn nb = on_test (λ (q : State). q.records key ≡ b.records key) before format.nil (after_set b (node_key node) 4 format.node_first_link after)
      (link_set b before format.group_next after)
      (λ _. put_other b.records (node_key node) (with_field 4 (b.records (node_key node)) format.node_first_link after) key nn)
      (λ _. put_other b.records (group_key before) (with_field 4 (b.records (group_key before)) format.group_next after) key nb)

  no_node : (g : ℕ) → group_key g ≢ node_key node
  no_node g e = let f = ap (λ (k : Key). k.file) e in absurd (omega arith)

  field_follow : (g n at : ℕ) → at + n ≤ 64 → (g ≡ before → (at + n ≤ 16) ⊎ (20 ≤ at))
      → field n (rec_at linked.records 3 g) at ≡ field n (rec_at b.records 3 g) at
  unfolding b linked follows
  field_follow g n at fits apart = on_test (λ (q : State). field n (rec_at q.records 3 g) at ≡ field n (rec_at b.records 3 g) at) before format.nil
      (after_set b (node_key node) 4 format.node_first_link after) (link_set b before format.group_next after)
      (λ _. ap (λ r. field n r at) (put_other b.records (node_key node) (with_field 4 (b.records (node_key node)) format.node_first_link after) (group_key g)
      (no_node g)))
      (λ _. field-set_other b.records (record { key = group_key before; field = format.group_next }) after (group_key g) n at fits
      (λ e. apart (same_group g before e)))

  -- numbers of groups
  pub group_stays : (g n at : ℕ) → at + n ≤ 64 → (g ≡ after → (at + n ≤ 12) ⊎ (16 ≤ at)) → (g ≡ before → (at + n ≤ 16) ⊎ (20 ≤ at))
      → field n (rec_at linked.records 3 g) at ≡ field n (rec_at s.records 3 g) at
  group_stays g n at fits where_after where_before = field_follow g n at fits where_before
      ∙ field_back (group_key g) n at fits (λ e. where_after (same_group g after e))

  pub stays : (key : Key) → key ≢ node_key node → key ≢ group_key before → key ≢ group_key after → linked.records key ≡ s.records key
  stays key nn nb na = other_follow key nn nb ∙ other_back key na

  pub next_before : before ≢ format.nil → after < 2 ^ 32 → next_group linked.records before ≡ after
  unfolding b linked follows
  next_before some small = on_test (λ (q : State). next_group q.records before ≡ after) before format.nil
      (after_set b (node_key node) 4 format.node_first_link after) (link_set b before format.group_next after)
      (λ none. absurd (some none)) (λ _. field-set_same b.records (record { key = group_key before; field = format.group_next }) after (omega arith) small)

  pub previous_after : after ≢ format.nil → before < 2 ^ 32 → previous_group linked.records after ≡ before
  unfolding b backed
  previous_after some small = field_follow after 4 12 (omega arith) (λ _. inl (omega arith))
      ∙ on_test (λ (q : State). previous_group q.records after ≡ before) after format.nil (after_get s)
      (after_set (after_get s) (group_key after) 4 format.group_previous before) (λ none. absurd (some none))
      (λ _. field-set_same s.records (record { key = group_key after; field = format.group_previous }) before (omega arith) small)

  -- first links
  pub first_none : before ≡ format.nil → after < 2 ^ 32 → first_link linked.records node ≡ after
  unfolding b linked follows
  first_none none small = on_test (λ (q : State). first_link q.records node ≡ after) before format.nil
      (after_set b (node_key node) 4 format.node_first_link after) (link_set b before format.group_next after)
      (λ _. field-set_same b.records (record { key = node_key node; field = format.node_first_link }) after (omega arith) small) (λ some. absurd (some none))

  no_group : (g m : ℕ) → node_key m ≢ group_key g
  no_group g m e = let f = ap (λ (k : Key). k.file) e in absurd (omega arith)

  pub first_some : before ≢ format.nil → first_link linked.records node ≡ first_link s.records node
  unfolding b linked follows
  first_some some = on_test (λ (q : State). first_link q.records node ≡ first_link b.records node) before format.nil
      (after_set b (node_key node) 4 format.node_first_link after) (link_set b before format.group_next after)
      (λ none. absurd (some none)) (λ _. ap (λ r. field 4 r format.node_first_link) (put_other b.records (group_key before)
      (with_field 4 (b.records (group_key before)) format.group_next after) (node_key node) (no_group before node)))
      ∙ ap (λ r. field 4 r format.node_first_link) (other_back (node_key node) (no_group after node))

  pub first_other : (m : ℕ) → m ≢ node → first_link linked.records m ≡ first_link s.records m
  first_other m ne = ap (λ r. field 4 r format.node_first_link) (stays (node_key m) (λ e. ne (ap (λ (k : Key). k.id) e)) (no_group before m) (no_group after m))

  pub meta_stays : linked.records (meta_key_of format.groups_file) ≡ s.records (meta_key_of format.groups_file)
  meta_stays = stays (meta_key_of format.groups_file)
      (λ e. let f = ap (λ (k : Key). k.file) e in absurd (omega arith)) (λ e. let f = ap (λ (k : Key). k.file) e in absurd (omega arith))
      (λ e. let f = ap (λ (k : Key). k.file) e in absurd (omega arith))

-- ---- the chains

module _ (s end : State) (node g : ℕ) (free xs : List ℕ) (can : CanDrop s node g free xs)
    (gives : CanGive (linked s node (previous_group s.records g) (next_group s.records g)) format.groups_file g free
    → HasGiven (linked s node (previous_group s.records g) (next_group s.records g)).records end.records format.groups_file g free) where
  abbrev pub before : ℕ
  before = previous_group s.records g

  abbrev pub after : ℕ
  after = next_group s.records g

  abbrev pub first : ℕ
  first = first_link s.records node

  pub u : State
  unfolding before after
  u = linked s node before after

  small_before : before < 2 ^ 32
  unfolding before
  small_before = field-lt 4 (rec_at s.records 3 g) format.group_previous

  small_after : after < 2 ^ 32
  unfolding after
  small_after = field-lt 4 (rec_at s.records 3 g) format.group_next

  member : IsGroupOf s.records node g
  member = can.chain.only g can.member

  walked : IsWalk (next_group s.records) first xs
  unfolding first
  walked = walk_of_chain _ _ format.nil (first_link s.records node) xs can.chain.chain

  some_in : (x : ℕ) → In x xs → x ≢ format.nil
  some_in x i e = nil_out (next_group s.records) first xs walked (subst (λ z. In z xs) e i)

  after_not : after ≢ g
  unfolding after
  after_not e = after_other (next_group s.records) first xs g walked can.member e

  before_not : before ≢ g
  unfolding before first
  before_not = before_other (next_group s.records) (previous_group s.records) format.nil first xs g (nil_out (next_group s.records) first xs walked)
      can.chain.chain can.member

  pub after_member : (after ≡ format.nil) ⊎ In after xs
  unfolding after
  after_member = after_in (next_group s.records) first xs g walked can.member

  pub before_member : (first ≡ g) ⊎ In before xs
  unfolding before first
  before_member = before_in (next_group s.records) (previous_group s.records) format.nil first xs g can.chain.chain can.member

  pub before_nil : first ≡ g → before ≡ format.nil
  unfolding before first
  before_nil e = first_before (next_group s.records) (previous_group s.records) format.nil first xs g can.chain.chain can.member e

  before_some : first ≢ g → before ≢ format.nil
  before_some ne none = ⊎_elim (λ e. ne e) (λ (i : In before xs). some_in before i none) before_member

  -- the identifier is given back
  out : (x : ℕ) → In x free → x ≢ g
  out x i e = unused_apart s.records node g x (can.unused x i) member (sym e)

  pub has : HasGiven u.records end.records format.groups_file g free
  unfolding u before after
  has = gives (record {
    list = subst (λ z. IsWalk (next_free u.records 3) z free) (sym (ap (λ r. (metas.meta_of r).free) (meta_stays s node before after)))
        (walk_stays (next_free s.records 3) (next_free u.records 3) (meta_in s.records 3).free free (λ x i. group_stays s node before after x 4 4 (omega arith)
        (λ _. inl (omega arith)) (λ _. inl (omega arith))) can.list);
    fresh = λ i. out g i refl;
  })

  rec_end : (h : ℕ) → h ≢ g → rec_at end.records 3 h ≡ rec_at u.records 3 h
  rec_end h ne = has.others (group_key h) (λ e. let f = ap (λ (k : Key). k.file) e in absurd (omega arith)) (λ e. ne (same_group h g e))

  node_end : (m : ℕ) → first_link end.records m ≡ first_link u.records m
  node_end m = ap (λ r. field 4 r format.node_first_link) (has.others (node_key m) (λ e. let f = ap (λ (k : Key). k.file) e in absurd (omega arith))
      (λ e. let f = ap (λ (k : Key). k.file) e in absurd (omega arith)))

  pub number : (h n at : ℕ) → at + n ≤ 64 → h ≢ g → (h ≡ after → (at + n ≤ 12) ⊎ (16 ≤ at)) → (h ≡ before → (at + n ≤ 16) ⊎ (20 ≤ at))
      → field n (rec_at end.records 3 h) at ≡ field n (rec_at s.records 3 h) at
  unfolding u
  number h n at fits ne where_after where_before = ap (λ r. field n r at) (rec_end h ne) ∙ group_stays s node before after h n at fits where_after where_before

  mark : high end.records 3 ≡ high s.records 3
  unfolding u
  mark = has.mark ∙ ap (λ r. (metas.meta_of r).high) (meta_stays s node before after)

  pub kind_stays : (h : ℕ) → h ≢ g → kind_at end.records 3 h ≡ kind_at s.records 3 h
  kind_stays h ne = kind_by (high end.records 3) (rec_at end.records 3 h) (rec_at s.records 3 h) h
      (number h 1 0 (omega arith) ne (λ _. inl (omega arith)) (λ _. inl (omega arith)))
      ∙ ap (λ m. kind_in m (rec_at s.records 3 h) h) mark

  pub no_kind : kind_at end.records 3 g ≡ format.free_kind
  no_kind = let m = mark in let lt = group_below s.records node g member in
      kind_low (high end.records 3) (rec_at end.records 3 g) g (omega arith) ∙ ap (λ r. field 1 r format.kind) has.here
      ∙ free_is_free (meta_in u.records format.groups_file).free

  member_now : (m h : ℕ) → h ≢ g → IsGroupOf s.records m h → IsGroupOf end.records m h
  member_now m h ne is = record {
    kind = ap is_group_kind (kind_stays h ne) ∙ is.kind;
    owner = number h 4 8 (omega arith) ne (λ _. inl (omega arith))
        (λ _. inl (omega arith)) ∙ is.owner;
  }

  member_was : (m h : ℕ) → h ≢ g → IsGroupOf end.records m h → IsGroupOf s.records m h
  member_was m h ne is = record {
    kind = ap is_group_kind (sym (kind_stays h ne)) ∙ is.kind;
    owner = sym (number h 4 8 (omega arith) ne (λ _. inl (omega arith))
        (λ _. inl (omega arith))) ∙ is.owner;
  }

  -- the group is none any more
  none_here : (m h : ℕ) → IsGroupOf end.records m h → h ≢ g
  none_here m h is = unused_apart end.records m h g no_kind is

  type_stays : (h : ℕ) → h ≢ g → type_of end.records h ≡ type_of s.records h
  type_stays h ne = number h 4 4 (omega arith) ne (λ _. inl (omega arith)) (λ _. inl (omega arith))

  first_end : first_link end.records node ≡ cond (nat_eq first g) after first
  unfolding u first
  first_end = node_end node ∙ ⊎_elim
      (λ (e : first ≡ g). first_none s node before after (before_nil e) small_after ∙ sym (ap (λ t. cond t after first) (eq_true first g e)))
      (λ (ne : first ≢ g). first_some s node before after (before_some ne) ∙ sym (ap (λ t. cond t after first) (eq_false first g ne))) (nat_cases first g)

  links : IsChain (next_group end.records) (previous_group end.records) format.nil (first_link end.records node) (without g xs)
  unfolding u before after first
  links = subst (λ z. IsChain (next_group end.records) (previous_group end.records) format.nil z (without g xs)) (sym first_end)
      (chain_unlink (next_group s.records) (previous_group s.records) (next_group end.records) (previous_group end.records) g
      (λ some. ap (λ r. field 4 r format.group_next) (rec_end before before_not) ∙ next_before s node before after some small_after)
      (λ some. ap (λ r. field 4 r format.group_previous) (rec_end after after_not) ∙ previous_after s node before after some small_before)
      (λ x ne nb. number x 4 16 (omega arith) ne (λ _. inr (omega arith)) (λ e. absurd (nb e)))
      (λ x ne na. number x 4 12 (omega arith) ne (λ e. absurd (na e)) (λ _. inl (omega arith)))
      format.nil first xs (nil_out (next_group s.records) first xs walked) can.chain.chain can.member)

  left : (h : ℕ) → In h (without g xs) → h ≢ g
  left h i e = gone (next_group s.records) g first xs walked (subst (λ z. In z (without g xs)) e i)

  chain_here : IsGroupChain end.records node (without g xs)
  chain_here = record {
    chain = links;
    only = λ h i. member_now node h (left h i) (can.chain.only h (in_without g xs h i));
    all = λ h is. stays_without g xs h (none_here node h is) (can.chain.all h (member_was node h (none_here node h is) is));
    once = λ h k i j same. can.chain.once h k (in_without g xs h i) (in_without g xs k j) (sym (type_stays h (left h i)) ∙ same ∙ type_stays k (left k j));
  }

  -- the others' chains
  owned_apart : (m h x : ℕ) → m ≢ node → IsGroupOf s.records m h → IsGroupOf s.records node x → h ≢ x
  owned_apart m h x ne is other e = ne (sym is.owner ∙ ap (group_field s.records format.group_owner) e ∙ other.owner)

  chain_other : (m : ℕ) (ys : List ℕ) → m ≢ node → IsGroupChain s.records m ys → IsGroupChain end.records m ys
  unfolding u
  chain_other m ys ne other =
      let walk = walk_of_chain _ _ format.nil (first_link s.records m) ys other.chain in
      let some : (h : ℕ) → In h ys → h ≢ format.nil = λ h i e. nil_out (next_group s.records) (first_link s.records m) ys walk (subst (λ z. In z ys) e i) in
      let off : (h : ℕ) → In h ys → h ≢ g = λ h i. owned_apart m h g ne (other.only h i) member in
      let off_after : (h : ℕ) → In h ys → h ≢ after = λ h i e. ⊎_elim (λ none. some h i (e ∙ none))
      (λ k. owned_apart m h after ne (other.only h i) (can.chain.only after k) e) after_member in
      let off_before : (h : ℕ) → In h ys → h ≢ before = λ h i e. ⊎_elim (λ first_is. some h i (e ∙ before_nil first_is))
      (λ k. owned_apart m h before ne (other.only h i) (can.chain.only before k) e) before_member in
      record {
        chain = subst (λ z. IsChain (next_group end.records) (previous_group end.records) format.nil z ys)
            (sym (node_end m ∙ first_other s node before after m ne))
            (chain_stays (next_group s.records) (previous_group s.records) (next_group end.records) (previous_group end.records) format.nil
            (first_link s.records m) ys
            (λ x i. number x 4 16 (omega arith) (off x i) (λ _. inr (omega arith)) (λ e. absurd (off_before x i e)))
            (λ x i. number x 4 12 (omega arith) (off x i) (λ e. absurd (off_after x i e)) (λ _. inl (omega arith))) other.chain);
        only = λ h i. member_now m h (off h i) (other.only h i);
        all = λ h is. other.all h (member_was m h (none_here m h is) is);
        once = λ h k i j same. other.once h k i j (sym (type_stays h (off h i)) ∙ same ∙ type_stays k (off k j));
      }

  pub has_dropped : HasDropped s.records end.records node g free xs
  unfolding u before after
  has_dropped = record {
    chain = chain_here;
    others = chain_other;
    gone = no_kind;
    list = has.list;
    mark = mark;
    live = has.live ∙ ap (λ r. (metas.meta_of r).live - 1) (meta_stays s node before after);
    stays = λ key a b c d e. has.others key a c ∙ stays s node before after key b d e;
  }
