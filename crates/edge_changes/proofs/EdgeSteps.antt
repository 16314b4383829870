-- A relationship that joins a chain of a node, or leaves it: links and degrees alone are set.
use Rattle.std.proofs.Common.{◌≡◌, ◌≢◌, ◌⊎◌, ℕ, ◌+◌, ◌<◌, ◌≤◌, ◌^◌, nat_eq, Bool, true, false, cond, sym, ap, ◌∙◌, subst, inl, inr, ⊎_elim, arith, refl}
use Rattle.rec_bytes.specs.declared.key.Key.{Key}
use Rattle.rec_bytes.specs.declared.record.Rec.{Rec}
use Rattle.rec_bytes.specs.Format as format
use Rattle.rec_bytes.specs.Record.{field, with_field}
use Rattle.rec_bytes.specs.Space.{State, after_get, after_put, put}
use Rattle.rec_bytes.proofs.Spaces.{put_other, put_same, put_twice}
use Rattle.store_rules.specs.Chains.{place_of}
use Rattle.store_rules.specs.Rules.{Head, first_of}
use Rattle.store_rules.specs.Views.{Records, degree, high, key_in, kind_at, rec_at, is_group_kind}
use Rattle.store_rules.proofs.LinkFits.{IsLink, IsLow}
use Rattle.store_rules.proofs.Relinks.{IsFirstLink, IsRelinked, kind_stays, relinked_none, set_degree, set_head, set_link}
use Rattle.store_rules.proofs.NumberLaws.{eq_true, nat_cases}
use Rattle.store_rules.proofs.ViewLaws.{group_used, kind_below}
use Rattle.rec_bytes.proofs.Numbers.{field-with_field_other, field-with_field_same}
use Rattle.chain_edit.specs.Chains.{Differ, next_of, next_place, prev_of}
use Rattle.chain_edit.specs.Heads.{IsPlace}
use Rattle.chain_edit.specs.Links.{backed, next_set, number_set, prev_set}
use Rattle.chain_edit.specs.Pushing.{pushed}
use Rattle.chain_edit.specs.Unlinking.{alone, led, unlinked}
use Rattle.store_rules.proofs.ChainSteps.{on_test}
use Rattle.chain_edit.proofs.Edits.{elsewhere-backed, field-backed, place-backed}
use Rattle.chain_edit.proofs.LinkLaws.{elsewhere-set_next, field-set_other, field-set_same}
use Rattle.group_store.specs.Counting.{one_less, one_more, tallied}
use Rattle.group_store.proofs.Tallies.{elsewhere-tallied, field-tallied, less_small, links_tallied, more_small, shape-tallied}
use Rattle.edge_changes.specs.EdgeEnds.{joined, parted}

-- none, or a relationship in use
abbrev pub IsUsedLink : Records → ℕ → Type 0
IsUsedLink records link = (link ≡ format.nil) ⊎ (kind_at records format.relationships_file link ≡ format.related)

-- a node in use
abbrev pub IsNode : Records → ℕ → Type 0
IsNode records n = (kind_at records format.nodes_file n ≡ format.sparse) ⊎ (kind_at records format.nodes_file n ≡ format.dense)

rel_low : (records : Records) (rel : ℕ) → kind_at records format.relationships_file rel ≡ format.related → IsLow (high records format.relationships_file) rel
rel_low records rel related = inr (kind_below (high records format.relationships_file) (rec_at records format.relationships_file rel) rel
    (λ e. let z = sym e ∙ related in omega arith))

-- what leads to one is below the mark
pub used_low : (records : Records) (link : ℕ) → IsUsedLink records link → IsLow (high records format.relationships_file) link
used_low records link used = ⊎_elim (λ e. inl e) (λ k. rel_low records link k) used

place_link : (r : Rec) (n : ℕ) → IsLink (place_of r n)
place_link r n = by (nat_eq (field 4 r 8) n)
  where
    by : (b : Bool) → IsLink (cond b 16 24)
    by true = inl refl
    by false = inr (inr (inl refl))

next_link : (r : Rec) (n : ℕ) → IsLink (place_of r n + 4)
next_link r n = by (nat_eq (field 4 r 8) n)
  where
    by : (b : Bool) → IsLink (cond b 16 24 + 4)
    by true = inr (inl refl)
    by false = inr (inr (inr refl))

-- a previous link more, unless there is none
links_backed : (s : Records) (t : State) (n link to : ℕ) → IsRelinked s t.records → IsUsedLink s link → IsLow (high s format.relationships_file) to
    → IsRelinked s (backed t n link to).records
unfolding backed
links_backed s t n link to old used low = on_test (λ (z : State). IsRelinked s z.records) link format.nil t (prev_set t n link to) (λ _. old)
    (λ ne. set_link s t.records old link (place_of (rec_at t.records format.relationships_file link) n) to (⊎_elim (λ e. absurd (ne e)) (λ k. k) used)
    (place_link (rec_at t.records format.relationships_file link) n) low)

links_next : (s : Records) (t : State) (n rel to : ℕ) → IsRelinked s t.records → kind_at s format.relationships_file rel ≡ format.related
    → IsLow (high s format.relationships_file) to → IsRelinked s (next_set t n rel to).records
links_next s t n rel to old related low = set_link s t.records old rel (place_of (rec_at t.records format.relationships_file rel) n + 4) to related
    (next_link (rec_at t.records format.relationships_file rel) n) low

module _ (s : State) (head : Head) (n rel : ℕ) (first : IsFirstLink s.records head) (place : IsPlace head) (node : IsNode s.records n)
    (related : kind_at s.records format.relationships_file rel ≡ format.related) where
  -- a group's head is one of a group in use
  below : head.key.file ≡ format.groups_file → head.key.id < high s.records format.groups_file
  below is = ⊎_elim
      (λ k. absurd (let f = ap (λ (z : Head). z.key.file) k.1 in omega arith))
      (λ k. kind_below (high s.records format.groups_file) (rec_at s.records format.groups_file head.key.id) head.key.id
      (group_used (kind_at s.records format.groups_file head.key.id) k.0)) first

  -- ---- at the front
  links_pushed : IsUsedLink s.records (first_of s.records head) → IsRelinked s.records (pushed s head n rel).records
  unfolding pushed
  links_pushed used =
      let old = first_of s.records head in
      let back = backed (after_get s) n old rel in
      let linked = next_set back n rel old in
      let low = rel_low s.records rel related in
      let links = links_next s.records back n rel old (links_backed s.records (after_get s) n old rel (relinked_none s.records) used low) related
      (used_low s.records old used) in
      let same : linked.records head.key ≡ s.records head.key = elsewhere-set_next back.records n rel old head.key place.elsewhere
      ∙ elsewhere-backed (after_get s) n old rel head.key place.elsewhere in
      subst (λ r. IsRelinked s.records (put linked.records head.key (with_field 4 r head.field rel))) same
      (set_head s.records linked.records links head rel first low)

  pub links_joined : (d : ℕ) → d < 2 ^ 32 → IsUsedLink s.records (first_of s.records head) → IsRelinked s.records (joined s head n rel d).records
  unfolding joined
  links_joined d small used = set_degree s.records (tallied one_more (pushed s head n rel) head).records
      (links_tallied s.records (pushed s head n rel) one_more head more_small below (links_pushed used)) n d node small

  -- ---- taken out
  links_freed : IsRelinked s.records (put s.records (key_in format.relationships_file rel) (alone (s.records (key_in format.relationships_file rel)) n))
  links_freed =
      let key = key_in format.relationships_file rel in
      let r = s.records key in
      let one = with_field 4 r (place_of r n) format.nil in
      let two = with_field 4 one (place_of r n + 4) format.nil in
      let single = put s.records key one in
      let there : single key ≡ one = put_same s.records key one in
      let before = set_link s.records s.records (relinked_none s.records) rel (place_of r n) format.nil related (place_link r n) (inl refl) in
      let both = set_link s.records single before rel (place_of r n + 4) format.nil related (next_link r n) (inl refl) in
      subst (IsRelinked s.records) (put_twice s.records key one two)
      (subst (λ q. IsRelinked s.records (put single key (with_field 4 q (place_of r n + 4) format.nil))) there both)

  links_led : (t : State) (before after : ℕ) → IsRelinked s.records t.records → IsUsedLink s.records before
      → IsLow (high s.records format.relationships_file) after → IsRelinked s.records (led t head n before after).records
  unfolding led
  links_led t before after old used low = on_test (λ (z : State). IsRelinked s.records z.records) before format.nil (number_set t head after)
      (next_set t n before after)
      (λ _. set_head s.records t.records old head after first low)
      (λ ne. links_next s.records t n before after old (⊎_elim (λ e. absurd (ne e)) (λ k. k) used) low)

  links_unlinked : IsUsedLink s.records (prev_of s.records n rel) → IsUsedLink s.records (next_of s.records n rel)
      → IsRelinked s.records (unlinked s head n rel).records
  unfolding unlinked
  links_unlinked before after =
      let freed = after_put (after_get s) (key_in format.relationships_file rel) (alone (s.records (key_in format.relationships_file rel)) n) in
      links_led (backed freed n (next_of s.records n rel) (prev_of s.records n rel)) (prev_of s.records n rel) (next_of s.records n rel)
      (links_backed s.records freed n (next_of s.records n rel) (prev_of s.records n rel) links_freed after (used_low s.records (prev_of s.records n rel)
      before)) before (used_low s.records (next_of s.records n rel) after)

  pub links_parted : (d : ℕ) → d < 2 ^ 32 → IsUsedLink s.records (prev_of s.records n rel) → IsUsedLink s.records (next_of s.records n rel)
      → IsRelinked s.records (parted s head n rel d).records
  unfolding parted
  links_parted d small before after = set_degree s.records (tallied one_less (unlinked s head n rel) head).records
      (links_tallied s.records (unlinked s head n rel) one_less head less_small below (links_unlinked before after)) n d node small

-- ---- degrees, and the records of other nodes and groups
module _ (s : State) (head : Head) (n rel d : ℕ) where
  pub degree_joined : d < 2 ^ 32 → degree (joined s head n rel d).records n ≡ d
  unfolding joined
  degree_joined small = field-set_same (tallied one_more (pushed s head n rel) head).records
      (record { key = key_in format.nodes_file n; field = format.node_degree }) d (omega arith) small

  -- the head leads to the relationship
  pub first_joined : head.field + 4 ≤ 32 → (head.key ≡ key_in format.nodes_file n → head.field + 4 ≤ format.node_degree) → rel < 2 ^ 32
      → first_of (joined s head n rel d).records head ≡ rel
  unfolding joined pushed
  first_joined low aside small =
      let old = first_of s.records head in
      let back = backed (after_get s) n old rel in
      let linked = next_set back n rel old in
      let one = (tallied one_more (pushed s head n rel) head).records in
      field-set_other one (record { key = key_in format.nodes_file n; field = format.node_degree }) d head.key 4 head.field (omega arith) (λ e. inl (aside e))
      ∙ field-tallied one_more (pushed s head n rel) head head.key 4 head.field low
      ∙ ap (λ r. field 4 r head.field) (put_same linked.records head.key (with_field 4 (s.records head.key) head.field rel))
      ∙ field-with_field_same 4 (s.records head.key) head.field rel (omega arith) (omega arith)

  -- where it has the node as its source, the links of its target stay
  pub target_joined : (at : ℕ) → 24 ≤ at → at + 4 ≤ 64 → head.key.file ≢ format.relationships_file
      → field 4 (rec_at s.records format.relationships_file rel) format.relationship_source ≡ n
      → field 4 (rec_at (joined s head n rel d).records format.relationships_file rel) at ≡ field 4 (rec_at s.records format.relationships_file rel) at
  unfolding joined pushed
  target_joined at high inside no_head source =
      let key = key_in format.relationships_file rel in
      let old = first_of s.records head in
      let back = backed (after_get s) n old rel in
      let linked = next_set back n rel old in
      let one = (tallied one_more (pushed s head n rel) head).records in
      let place : place_of (rec_at s.records format.relationships_file rel) n ≡ 16 = ap (λ t. cond t 16 24) (eq_true _ n source) in
      ap (λ r. field 4 r at) (put_other one (key_in format.nodes_file n) (with_field 4 (one (key_in format.nodes_file n)) format.node_degree d) key
      (λ e. let f = ap (λ (k : Key). k.file) e in omega arith))
      ∙ ap (λ r. field 4 r at) (elsewhere-tallied one_more (pushed s head n rel) head key (λ e. no_head (ap (λ (k : Key). k.file) (sym e))))
      ∙ ap (λ r. field 4 r at) (put_other linked.records head.key (with_field 4 (s.records head.key) head.field rel) key
      (λ e. no_head (ap (λ (k : Key). k.file) (sym e))))
      ∙ field-set_other back.records (next_place back.records n rel) old key 4 at (omega arith)
      (λ e. inr (let same = place-backed (after_get s) n old rel n rel in omega arith))
      ∙ field-backed (after_get s) n old rel key 4 at (omega arith) (λ e. inr (
      let same = ap (λ (k : Key). place_of (s.records k) n) (sym e) in omega arith))

  pub degree_parted : d < 2 ^ 32 → degree (parted s head n rel d).records n ≡ d
  unfolding parted
  degree_parted small = field-set_same (tallied one_less (unlinked s head n rel) head).records
      (record { key = key_in format.nodes_file n; field = format.node_degree }) d (omega arith) small

  pub record_joined : (key : Key) → key.file ≢ format.relationships_file → key ≢ head.key → key ≢ key_in format.nodes_file n
      → (joined s head n rel d).records key ≡ s.records key
  unfolding joined pushed
  record_joined key no_link no_head no_node =
      let old = first_of s.records head in
      let back = backed (after_get s) n old rel in
      let linked = next_set back n rel old in
      let one = (tallied one_more (pushed s head n rel) head).records in
      put_other one (key_in format.nodes_file n) (with_field 4 (one (key_in format.nodes_file n)) format.node_degree d) key no_node
      ∙ elsewhere-tallied one_more (pushed s head n rel) head key no_head
      ∙ put_other linked.records head.key (with_field 4 (s.records head.key) head.field rel) key no_head
      ∙ elsewhere-set_next back.records n rel old key no_link ∙ elsewhere-backed (after_get s) n old rel key no_link

  pub record_parted : (key : Key) → key.file ≢ format.relationships_file → key ≢ head.key → key ≢ key_in format.nodes_file n
      → (parted s head n rel d).records key ≡ s.records key
  unfolding parted unlinked led
  record_parted key no_link no_head no_node =
      let before = prev_of s.records n rel in
      let after = next_of s.records n rel in
      let freed = after_put (after_get s) (key_in format.relationships_file rel) (alone (s.records (key_in format.relationships_file rel)) n) in
      let back = backed freed n after before in
      let one = (tallied one_less (unlinked s head n rel) head).records in
      let stays : back.records key ≡ s.records key = elsewhere-backed freed n after before key no_link
      ∙ put_other s.records (key_in format.relationships_file rel) (alone (s.records (key_in format.relationships_file rel)) n) key
      (λ e. no_link (ap (λ (k : Key). k.file) e)) in
      put_other one (key_in format.nodes_file n) (with_field 4 (one (key_in format.nodes_file n)) format.node_degree d) key no_node
      ∙ elsewhere-tallied one_less (unlinked s head n rel) head key no_head
      ∙ on_test (λ (z : State). z.records key ≡ s.records key) before format.nil (number_set back head after) (next_set back n before after)
      (λ _. put_other back.records head.key (with_field 4 (back.records head.key) head.field after) key no_head ∙ stays)
      (λ _. elsewhere-set_next back.records n before after key no_link ∙ stays)

-- numbers of groups that stand apart from the head's first link
key_cases : (a b : Key) → (a ≡ b) ⊎ (a ≢ b)
key_cases a b = ⊎_elim
    (λ (f : a.file ≡ b.file). ⊎_elim
    (λ (i : a.id ≡ b.id). inl (ap (λ z. record { file = z; id = a.id }) f ∙ ap (λ z. record { file = b.file; id = z }) i))
    (λ (i : a.id ≢ b.id). inr (λ e. i (ap (λ (k : Key). k.id) e))) (nat_cases a.id b.id))
    (λ (f : a.file ≢ b.file). inr (λ e. f (ap (λ (k : Key). k.file) e))) (nat_cases a.file b.file)

module _ (s : State) (head : Head) (n rel : ℕ) where
  pub number_pushed : (key : Key) (m at : ℕ) → key.file ≢ format.relationships_file → at + m ≤ 64
      → (key ≡ head.key → (at + m ≤ head.field) ⊎ (head.field + 4 ≤ at)) → field m ((pushed s head n rel).records key) at ≡ field m (s.records key) at
  unfolding pushed
  number_pushed key m at no_link inside aside =
      let old = first_of s.records head in
      let back = backed (after_get s) n old rel in
      let linked = next_set back n rel old in
      ⊎_elim
      (λ (e : key ≡ head.key). ap (λ k. field m (put linked.records head.key (with_field 4 (s.records head.key) head.field rel) k) at) e ∙ ap
      (λ r. field m r at) (put_same linked.records head.key (with_field 4 (s.records head.key) head.field rel))
      ∙ field-with_field_other 4 (s.records head.key) head.field rel m at inside (⊎_elim (λ low. inr low) (λ high. inl high) (aside e))
      ∙ ap (λ k. field m (s.records k) at) (sym e))
      (λ (ne : key ≢ head.key). ap (λ r. field m r at) (put_other linked.records head.key (with_field 4 (s.records head.key) head.field rel) key ne
      ∙ elsewhere-set_next back.records n rel old key no_link ∙ elsewhere-backed (after_get s) n old rel key no_link)) (key_cases key head.key)

  pub number_unlinked : (key : Key) (m at : ℕ) → key.file ≢ format.relationships_file → at + m ≤ 64
      → (key ≡ head.key → (at + m ≤ head.field) ⊎ (head.field + 4 ≤ at)) → field m ((unlinked s head n rel).records key) at ≡ field m (s.records key) at
  unfolding unlinked led
  number_unlinked key m at no_link inside aside =
      let before = prev_of s.records n rel in
      let after = next_of s.records n rel in
      let freed = after_put (after_get s) (key_in format.relationships_file rel) (alone (s.records (key_in format.relationships_file rel)) n) in
      let back = backed freed n after before in
      let stays : back.records key ≡ s.records key = elsewhere-backed freed n after before key no_link
      ∙ put_other s.records (key_in format.relationships_file rel) (alone (s.records (key_in format.relationships_file rel)) n) key
      (λ e. no_link (ap (λ (k : Key). k.file) e)) in
      on_test (λ (z : State). field m (z.records key) at ≡ field m (s.records key) at) before format.nil (number_set back head after)
      (next_set back n before after)
      (λ _. field-set_other back.records head after key m at inside aside ∙ ap (λ r. field m r at) stays)
      (λ _. ap (λ r. field m r at) (elsewhere-set_next back.records n before after key no_link ∙ stays))

-- ---- the shape
shape_backed : (s : State) (n link to : ℕ) → (backed s n link to).shape ≡ s.shape
unfolding backed
shape_backed s n link to = on_test (λ (z : State). z.shape ≡ s.shape) link format.nil s (prev_set s n link to) (λ _. refl) (λ _. refl)

pub shape_joined : (s : State) (head : Head) (n rel d : ℕ) → (joined s head n rel d).shape ≡ s.shape
unfolding joined pushed
shape_joined s head n rel d = shape-tallied one_more (pushed s head n rel) head ∙ shape_backed (after_get s) n (first_of s.records head) rel

pub shape_parted : (s : State) (head : Head) (n rel d : ℕ) → (parted s head n rel d).shape ≡ s.shape
unfolding parted unlinked led
shape_parted s head n rel d =
    let before = prev_of s.records n rel in
    let after = next_of s.records n rel in
    let freed = after_put (after_get s) (key_in format.relationships_file rel) (alone (s.records (key_in format.relationships_file rel)) n) in
    let back = backed freed n after before in
    shape-tallied one_less (unlinked s head n rel) head ∙ on_test (λ (z : State). z.shape ≡ s.shape) before format.nil (number_set back head after)
    (next_set back n before after) (λ _. shape_backed freed n after before) (λ _. shape_backed freed n after before)

-- ---- what stays where links alone are set
pub first_stays : (s t : Records) → IsRelinked s t → (h : Head) → IsFirstLink s h → IsFirstLink t h
first_stays s t links h (inl k) = inl (kind_stays s t links format.nodes_file h.key.id ∙ k.0, k.1)
first_stays s t links h (inr k) = inr (ap is_group_kind (kind_stays s t links format.groups_file h.key.id) ∙ k.0, k.1, k.2)

pub node_stays : (s t : Records) → IsRelinked s t → (n : ℕ) → IsNode s n → IsNode t n
node_stays s t links n (inl k) = inl (kind_stays s t links format.nodes_file n ∙ k)
node_stays s t links n (inr k) = inr (kind_stays s t links format.nodes_file n ∙ k)

-- the places of links
place_stays : (s t : Records) → IsRelinked s t → (x n : ℕ) → place_of (rec_at t format.relationships_file x) n ≡ place_of (rec_at s format.relationships_file x)
    n
place_stays s t links x n = ap (λ z. cond (nat_eq z n) 16 24) (links.same (key_in format.relationships_file x) 4 format.relationship_source (omega arith)
    ((λ e. absurd (let z : 2 ≡ 1 = e in omega arith)), (λ _. inl (omega arith)), (λ e. absurd (let z : 2 ≡ 3 = e in omega arith))))

pub differ_stays : (s t : Records) → IsRelinked s t → (n m x : ℕ) → Differ s n m x → Differ t n m x
differ_stays s t links n m x differ = rw (place_stays s t links x n, place_stays s t links x m) differ
