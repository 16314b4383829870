-- What a dropped group leaves of another node's groups, whatever the records are.
use Rattle.std.proofs.Common.{◌≡◌, ◌≢◌, ◌⊎◌, ℕ, ◌+◌, ◌<◌, ◌≤◌, ◌^◌, Bool, true, false, List, sym, ap, ◌∙◌, subst, inl, inr, ⊎_elim, arith, refl}
use Rattle.rec_bytes.specs.declared.key.Key.{Key}
use Rattle.rec_bytes.specs.declared.record.Rec.{Rec}
use Rattle.rec_bytes.specs.Format as format
use Rattle.rec_bytes.specs.Meta as metas
use Rattle.rec_bytes.specs.Record.{field}
use Rattle.rec_bytes.specs.Space.{SameButReads, State}
use Rattle.rec_bytes.proofs.Numbers.{field-lt}
use Rattle.id_freelist.specs.Giving.{given}
use Rattle.node_store.specs.NodeRecord.{node_key}
use Rattle.store_rules.specs.Breaking.{IsHeadOf, IsOwnedBy}
use Rattle.store_rules.specs.Chains.{In, IsChain}
use Rattle.store_rules.specs.Rules.{Head}
use Rattle.store_rules.specs.Views.{GroupRow, first_link, group_in, high, kind_at, rec_at}
use Rattle.store_rules.proofs.ChainLaws.{chain_stays, walk_of_chain}
use Rattle.store_rules.proofs.ChainSteps.{after_in, before_in, first_before, nil_out, on_test}
use Rattle.store_rules.proofs.MetaLaws.{high_fits}
use Rattle.store_rules.proofs.NumberLaws.{nat_cases}
use Rattle.store_rules.proofs.ViewLaws.{kind_below, some_row}
use Rattle.group_store.specs.Closing.{IsOwnChain, IsSameOrLow, KeepsOtherChains}
use Rattle.group_store.specs.Dropping.{HasLowLinks, IsLinkChain, IsLinkedIn, dropped}
use Rattle.group_store.specs.GroupChain.{next_group, previous_group}
use Rattle.group_store.specs.GroupRecord.{group_key}
use Rattle.group_store.specs.Loading.{group_mark}
use Rattle.group_store.proofs.Drops.{first_other, group_stays, linked, meta_stays, next_before, previous_after}
use Rattle.group_store.proofs.KeptHeads.{mark_groups, record_given}

module _ (s : State) (node g : ℕ) (own : IsOwnedBy s.records node g) (tested : IsLinkedIn s.records node g) (low : HasLowLinks s g) where
  abbrev before : ℕ
  before = previous_group s.records g

  abbrev after : ℕ
  after = next_group s.records g

  abbrev l : State
  l = linked s node before after

  abbrev t : State
  t = given l format.groups_file g

  below : g < high s.records format.groups_file
  below = kind_below (high s.records format.groups_file) (rec_at s.records format.groups_file g) g own.used

  some_g : g ≢ format.nil
  some_g e = let b = below in let most = high_fits s.records format.groups_file in omega arith

  small : g < 2 ^ 32
  small = let b = below in let most = high_fits s.records format.groups_file in omega arith

  small_before : before < 2 ^ 32
  small_before = field-lt 4 (rec_at s.records format.groups_file g) format.group_previous

  small_after : after < 2 ^ 32
  small_after = field-lt 4 (rec_at s.records format.groups_file g) format.group_next

  rec_t : (h : ℕ) → h ≢ g → rec_at t.records format.groups_file h ≡ rec_at l.records format.groups_file h
  rec_t h ne = record_given l g small (group_key h) (λ e. ne (ap (λ (k : Key). k.id) e)) (λ e. let f = ap (λ (k : Key). k.file) e in omega arith)

  number : (h n at : ℕ) → at + n ≤ 64 → h ≢ g → (h ≡ after → (at + n ≤ 12) ⊎ (16 ≤ at)) → (h ≡ before → (at + n ≤ 16) ⊎ (20 ≤ at))
      → field n (rec_at t.records format.groups_file h) at ≡ field n (rec_at s.records format.groups_file h) at
  number h n at fits ne where_after where_before = ap (λ (r : Rec). field n r at) (rec_t h ne)
      ∙ group_stays s node before after h n at fits where_after where_before

  mark : group_mark t ≡ group_mark s
  mark = mark_groups l g small ∙ ap (λ (r : Rec). (metas.meta_of r).high) (meta_stays s node before after)

  first_t : (n : ℕ) → n ≢ node → first_link t.records n ≡ first_link s.records n
  first_t n ne = ap (λ (r : Rec). field 4 r format.node_first_link) (record_given l g small (node_key n) (λ e. let f = ap (λ (k : Key). k.file)
      e in omega arith) (λ e. let f = ap (λ (k : Key). k.file) e in omega arith))
      ∙ first_other s node before after n ne

  -- ---- a chain of another node has none of the records that are written
  module _ (n : ℕ) (xs : List ℕ) (ne : n ≢ node) (here : IsOwnChain s.records n xs) where
    abbrev first : ℕ
    first = first_link s.records n

    some : (h : ℕ) → In h xs → h ≢ format.nil
    some h i e = nil_out (next_group s.records) first xs (walk_of_chain _ _ format.nil first xs here.chain) (subst (λ z. In z xs) e i)

    off : (h : ℕ) → In h xs → h ≢ g
    off h i e = ne (sym (here.only h i).owner ∙ ap (λ x. field 4 (rec_at s.records format.groups_file x) format.group_owner) e ∙ own.owner)

    off_after : (h : ℕ) → In h xs → h ≢ after
    off_after h i e =
        let member : In after xs = subst (λ z. In z xs) e i in
        let back = (tested.behind (some after member)).back in
        ⊎_elim
        (λ (is : first ≡ after). some_g (sym back ∙ first_before (next_group s.records) (previous_group s.records) format.nil first xs after here.chain member
        is))
        (λ k. off g (subst (λ z. In z xs) back k) refl)
        (before_in (next_group s.records) (previous_group s.records) format.nil first xs after here.chain member)

    off_before : (h : ℕ) → In h xs → h ≢ before
    off_before h i e =
        let member : In before xs = subst (λ z. In z xs) e i in
        let led : next_group s.records before ≡ g = on_test (λ v. v ≡ g → next_group s.records before ≡ g) before format.nil (first_link s.records node)
        (next_group s.records before)
        (λ none. absurd (some before member none)) (λ _ is. is) tested.led in
        ⊎_elim (λ none. some_g (sym led ∙ none)) (λ k. off g (subst (λ z. In z xs) led k) refl)
        (after_in (next_group s.records) first xs before (walk_of_chain _ _ format.nil first xs here.chain) member)

    chain_t : IsLinkChain t.records n xs
    chain_t = subst (λ z. IsChain (next_group t.records) (previous_group t.records) format.nil z xs) (sym (first_t n ne))
        (chain_stays (next_group s.records) (previous_group s.records) (next_group t.records) (previous_group t.records) format.nil first xs
        (λ x i. number x 4 format.group_next (omega arith) (off x i) (λ _. inr (omega arith)) (λ e. absurd (off_before x i e)))
        (λ x i. number x 4 format.group_previous (omega arith) (off x i) (λ e. absurd (off_after x i e)) (λ _. inl (omega arith))) here.chain)

  -- ---- other nodes' groups
  module _ (n h : ℕ) (ne : n ≢ node) (there : IsOwnedBy s.records n h) where
    other : h ≢ g
    other e = ne (sym there.owner ∙ ap (λ x. field 4 (rec_at s.records format.groups_file x) format.group_owner) e ∙ own.owner)

    some_h : h ≢ format.nil
    some_h e =
        let b = kind_below (high s.records format.groups_file) (rec_at s.records format.groups_file h) h there.used in
        let most = high_fits s.records format.groups_file in
        omega arith

    kind_t : field 1 (rec_at t.records format.groups_file h) format.kind ≡ field 1 (rec_at s.records format.groups_file h) format.kind
    kind_t = number h 1 format.kind (omega arith) other (λ _. inl (omega arith)) (λ _. inl (omega arith))

    before_t : IsSameOrLow t (previous_group t.records h) (previous_group s.records h)
    before_t = ⊎_elim
        (λ (e : h ≡ after).
        let is : previous_group t.records h ≡ before
        = ap (λ (r : Rec). field 4 r format.group_previous) (rec_t h other) ∙ ap (previous_group l.records) e
        ∙ previous_after s node before after (λ none. some_h (e ∙ none)) small_before in
        inr (⊎_elim (λ none. inl (is ∙ none)) (λ some. inr (subst (λ m. previous_group t.records h < m) (sym mark) (subst (λ x. x < group_mark s) (sym is)
        (low.before some)))) (nat_cases before format.nil)))
        (λ (apart : h ≢ after). inl (number h 4 format.group_previous (omega arith) other (λ e. absurd (apart e)) (λ _. inl (omega arith))))
        (nat_cases h after)

    after_t : IsSameOrLow t (next_group t.records h) (next_group s.records h)
    after_t = ⊎_elim
        (λ (e : h ≡ before).
        let is : next_group t.records h ≡ after
        = ap (λ (r : Rec). field 4 r format.group_next) (rec_t h other) ∙ ap (next_group l.records) e
        ∙ next_before s node before after (λ none. some_h (e ∙ none)) small_after in
        inr (⊎_elim (λ none. inl (is ∙ none)) (λ some. inr (subst (λ m. next_group t.records h < m) (sym mark) (subst (λ x. x < group_mark s) (sym is)
        (low.after some)))) (nat_cases after format.nil)))
        (λ (apart : h ≢ before). inl (number h 4 format.group_next (omega arith) other (λ _. inr (omega arith)) (λ e. absurd (apart e))))
        (nat_cases h before)

  kept : t.shape ≡ s.shape → KeepsOtherChains s t node
  kept shape = record {
    shape = shape;
    mark = mark;
    chains = λ n xs ne here. chain_t n xs ne here;
    kinds = λ n h ne there. kind_t n h ne there;
    before = λ n h ne there. before_t n h ne there;
    after = λ n h ne there. after_t n h ne there;
  }

  others_dropped : (u : State) → u ≡ dropped s node g → u.shape ≡ s.shape → KeepsOtherChains s u node
  unfolding linked dropped
  others_dropped u is shape = subst (λ (z : State). z.shape ≡ s.shape → KeepsOtherChains s z node) (sym is) kept shape

-- where nothing is written
others_read : (s t : State) (node : ℕ) → SameButReads s t → KeepsOtherChains s t node
others_read s t node same = subst (λ (z : State). KeepsOtherChains s z node) (sym same) (record {
  shape = refl;
  mark = refl;
  chains = λ n xs ne here. here.chain;
  kinds = λ n g ne there. refl;
  before = λ n g ne there. inl refl;
  after = λ n g ne there. inl refl;
})

-- the group of a head is the node's own
head_owned : (s : State) (head : Head) (node : ℕ) → head.key.file ≡ format.groups_file → IsHeadOf s.records head node → IsOwnedBy s.records node head.key.id
head_owned s head node file (inl o) = absurd (let f = ap (λ (h : Head). h.key.file) o.is in omega arith)
head_owned s head node file (inr o) =
    let row = some_row (kind_at s.records format.groups_file o.row.id) (group_in (rec_at s.records format.groups_file o.row.id) o.row.id) o.row o.group in
    subst (IsOwnedBy s.records node) (sym (ap (λ (k : Key). k.id) o.key)) (record { used = row.0; owner = ap (λ (r : GroupRow). r.owner) row.1 ∙ o.owner })

-- a head that is closed
pub others_closed : (s t : State) (head : Head) (node : ℕ) → head.key.file ≡ format.groups_file → IsHeadOf s.records head node → t.shape ≡ s.shape
    → (gone : Bool)
    → (gone ≡ false → SameButReads s t) → (gone ≡ true → t ≡ dropped s node head.key.id) → (gone ≡ true → IsLinkedIn s.records node head.key.id)
    → (gone ≡ true → HasLowLinks s head.key.id)
    → KeepsOtherChains s t node
others_closed s t head node file owns shape true same is tested low = others_dropped s node head.key.id (head_owned s head node file owns) (tested refl)
    (low refl) t (is refl) shape
others_closed s t head node file owns shape false same is tested low = others_read s t node (same refl)
