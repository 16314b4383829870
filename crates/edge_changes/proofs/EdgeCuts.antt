-- Which record breaks its rule where an edge can't be taken out of the chain of an end.
use Rattle.std.proofs.Common.{◌≡◌, ◌≢◌, ◌⊎◌, ℕ, ◌-◌, Some, List, sym, ap, ◌∙◌, subst, inl, inr, ⊎_elim, arith, refl}
use Rattle.rec_bytes.specs.declared.damage.Damage.{Damage}
use Rattle.rec_bytes.specs.declared.fault.Fault.{Fault}
use Rattle.rec_bytes.specs.declared.fault.Fault.TheVariants as faults
use Rattle.rec_bytes.specs.declared.key.Key.{Key}
use Rattle.rec_bytes.specs.Format as format
use Rattle.rec_bytes.specs.Space.{State}
use Rattle.rec_bytes.specs.Record.{field, with_field}
use Rattle.rec_bytes.proofs.Spaces.{put_other}
use Rattle.store_rules.specs.Breaking.{HasChains, IsChainHead, IsHeadChain, IsHeadOf, IsInChain}
use Rattle.store_rules.specs.Chains.{In, next_in, prev_in}
use Rattle.store_rules.specs.Rules.{Head, IsEnd, first_of}
use Rattle.store_rules.specs.Views.{GroupRow, Records, RelRow, group_at, key_in, kind_at, rec_at, rel_at, rel_in}
use Rattle.store_rules.proofs.ChainLaws.{chain_stays, walk_of_chain}
use Rattle.store_rules.proofs.ChainRules.{chain_head}
use Rattle.store_rules.proofs.ChainSteps.{after_in, before_in, first_before, nil_out}
use Rattle.store_rules.proofs.GroupLaws.{same_group}
use Rattle.store_rules.proofs.OneHead.{end_on}
use Rattle.store_rules.proofs.ViewLaws.{some_row}
use Rattle.chain_edit.specs.Chains.{Differ, IsChainAt, IsChainFrom, next_of, prev_of}
use Rattle.chain_edit.specs.Heads.{IsPlace, head_of}
use Rattle.chain_edit.specs.Unlinking.{IsAstray, unlinked}
use Rattle.chain_edit.proofs.OwnedHeads.{end_in, ends_differ, other_record, owned_heads}
use Rattle.chain_edit.proofs.Removals.{unlinked_others}
use Rattle.group_store.specs.Counting.{one_less, tallied}
use Rattle.group_store.specs.Opening.{IsPlaced}
use Rattle.group_store.specs.Twins.{IsLoneAt, IsPartFault}
use Rattle.group_store.proofs.AlikeGroups.{AreAlike, alike_back, groups_damage_as, lone_as, placed_as, twin_as}
use Rattle.group_store.proofs.Tallies.{file-tallied}
use Rattle.group_store.proofs.TwinLaws.{head_on, lone_head}
use Rattle.change_parts.specs.ChangeFault.{of_fault}
use Rattle.change_parts.specs.Damage.{IfBlames}
use Rattle.edge_changes.specs.EdgeDeleting.{HasPlace, IsCutDamage, IsEdgeLink, IsGroupedDamage, IsPartedDamage, IsPlacedEdge}
use Rattle.edge_changes.specs.EdgeEnds.{AtEach, HasHead, end_parted, parted, source_of, target_of}
use Rattle.edge_changes.specs.declared.edge_end.EdgeEnd.{EdgeEnd}
use Rattle.edge_changes.specs.declared.edge_end.Ends.{Ends}
use Rattle.edge_changes.specs.declared.edge_end.Ends.TheVariants.{Loop, Two}
use Rattle.edge_changes.proofs.EdgeBlames.{alike_parted}
use Rattle.edge_changes.proofs.EdgeFrames.{HasEndsIn, link_before, row_still}
use Rattle.edge_changes.proofs.EdgeSteps.{record_parted}

pub cut_blamed : (s : State) (head : Head) (node id : ℕ) (fault : Fault) → IsPartFault s head node id fault
    → IfBlames (IsCutDamage s head node id) (of_fault fault)
cut_blamed s head node id faults.Memory told = tt
cut_blamed s head node id faults.Disk told = tt
cut_blamed s head node id (faults.Damaged damage) told = told

-- an edge that isn't in the chain of its one head at a node is in no right chain of the node
out_of_chain : (s u : State) (head : Head) (n id : ℕ) (row : RelRow) (damage : Damage) → rel_at s.records id ≡ Some row → IsPlaced s.records head n row
    → IsLoneAt s.records head n
    → ((ys : List ℕ) → IsHeadChain s.records head n ys → IsChainAt u.records head n ys) → IsAstray u.records head n id damage → ¬ IsInChain s.records n id
out_of_chain s u head n id row damage live placed alone kept astray = λ here.
    let lone = lone_head s.records head n id row live placed alone in
    let same : here.head ≡ head = lone.lone here.head here.owns (here.chain.only id here.member) in
    astray.out here.members (kept here.members (subst (λ (h : Head). IsHeadChain s.records h n here.members) same here.chain)) here.member

-- what is told of an end in a space, of the space as it was
pub cut_told : (s u : State) (head : Head) (n id from to : ℕ) (row : RelRow) (damage : Damage) → (n ≡ from) ⊎ (n ≡ to) → HasChains s.records from
    → HasChains s.records to
    → rel_at s.records id ≡ Some row → IsPlaced s.records head n row → AreAlike s u n → (IsEdgeLink u id n damage → IsEdgeLink s id n damage)
    → (IsInChain s.records from id → IsInChain s.records to id → (ys : List ℕ) → IsHeadChain s.records head n ys → IsChainAt u.records head n ys)
    → IsCutDamage u head n id damage → IsPartedDamage s id from to damage
cut_told s u head n id from to row damage which source target live placed alike links kept told = by told
  where
    link : IsEdgeLink u id n damage → IsPartedDamage s id from to damage
    link l = inl (⊎_elim (λ e. inl (subst (λ m. IsEdgeLink s id m damage) e (links l))) (λ e. inr (subst (λ m. IsEdgeLink s id m damage) e (links l))) which)

    here : IsInChain s.records from id → IsInChain s.records to id → IsInChain s.records n id
    here a b = ⊎_elim (λ e. subst (λ m. IsInChain s.records m id) (sym e) a) (λ e. subst (λ m. IsInChain s.records m id) (sym e) b) which

    stray : IsAstray u.records head n id damage → IsLoneAt u.records head n → IsPartedDamage s id from to damage
    stray astray lone = inr (inl (
      astray.is,
      record {
        source = source;
        target = target;
        out = λ a b. out_of_chain s u head n id row damage live placed (λ file. lone_as s u n alike head.key.id (lone file)) (kept a b) astray (here a b);
      },
    ))

    groups : IsGroupedDamage s n damage → IsPartedDamage s id from to damage
    groups g = inr (inr (⊎_elim (λ e. inl (subst (λ m. IsGroupedDamage s m damage) e g)) (λ e. inr (subst (λ m. IsGroupedDamage s m damage) e g)) which))

    by : IsCutDamage u head n id damage → IsPartedDamage s id from to damage
    by (inl k) = ⊎_elim (λ l. link l) (λ a. stray a k.1) k.0
    by (inr k) = groups (⊎_elim (λ b. inl (groups_damage_as s u n alike damage b))
        (λ b. inr (b.0, head.key.id, head_on s.records head n placed.owns k.group, twin_as s u n alike head.key.id b.1)) k.broken)

pub alike_same : (s : State) (n : ℕ) → AreAlike s s n
alike_same s n = record {
  shape = refl;
  node = refl;
  node_mark = refl;
  group_mark = refl;
  numbers = λ g m at one inside. refl;
  used = λ g. refl;
  live = λ g.
      refl;
}

-- at the first end nothing is written yet
pub first_cut : (s : State) (head : Head) (n id from to : ℕ) (row : RelRow) (damage : Damage) → (n ≡ from) ⊎ (n ≡ to) → HasChains s.records from
    → HasChains s.records to
    → rel_at s.records id ≡ Some row → IsPlaced s.records head n row → IsCutDamage s head n id damage → IsPartedDamage s id from to damage
first_cut s head n id from to row damage which source target live placed told =
    cut_told s s head n id from to row damage which source target live placed (alike_same s n) (λ l. l) (λ a b ys chain. chain.chain) told

-- ---- chains of another node, where an edge in right chains of both was taken out of one

module _ (s : State) (head : Head) (n rel d m : ℕ) (ne : n ≢ m) (owns : IsHeadOf s.records head n) (here : IsInChain s.records n rel) where
  place : IsPlace head
  place = (owned_heads (kind_at s.records format.nodes_file) (group_at s.records)).place head n owns

  at_node : (x : ℕ) → In x here.members → (row : RelRow) × (rel_at s.records x ≡ Some row) × IsEnd n row
  at_node x i =
      let stands = here.chain.only x i in (
        stands.row,
        stands.live,
        end_on (kind_at s.records format.nodes_file) (group_at s.records) here.head n stands.row
            (chain_head s.records here.head n here.owns) stands.on,
      )

  -- the neighbours are in its chain
  beside : (x : ℕ) → x ≢ format.nil → (x ≡ rel) ⊎ ((x ≡ prev_of s.records n rel) ⊎ (x ≡ next_of s.records n rel)) → In x here.members
  beside x some (inl e) = subst (λ z. In z here.members) (sym e) here.member
  beside x some (inr (inl e)) = ⊎_elim
      (λ (first : first_of s.records here.head ≡ rel). absurd (some (e ∙ first_before (next_of s.records n) (prev_of s.records n) format.nil
      (first_of s.records here.head) here.members rel here.chain.chain here.member first)))
      (λ i. subst (λ z. In z here.members) (sym e) i)
      (before_in (next_of s.records n) (prev_of s.records n) format.nil (first_of s.records here.head) here.members rel here.chain.chain here.member)
  beside x some (inr (inr e)) = ⊎_elim
      (λ (none : next_of s.records n rel ≡ format.nil). absurd (some (e ∙ none)))
      (λ i. subst (λ z. In z here.members) (sym e) i)
      (after_in (next_of s.records n) (first_of s.records here.head) here.members rel
      (walk_of_chain (next_of s.records n) (prev_of s.records n) format.nil (first_of s.records here.head) here.members here.chain.chain) here.member)

  module _ (k : Head) (at : IsChainHead s.records k m) where
    own : IsHeadOf s.records k m
    own = chain_head s.records k m at

    no_head : k.key ≢ head.key
    no_head e = by own owns
      where
        by : IsHeadOf s.records k m → IsHeadOf s.records head n → ⊥
        by (inl a) o = other_record (kind_at s.records format.nodes_file) (group_at s.records) head n m o (λ q. ne (sym q))
            (sym (ap (λ (h : Head). h.key) a.is) ∙ e)
        by (inr a) (inl b) = let f = ap (λ (h : Head). h.key.file) b.is in let g = ap (λ (q : Key). q.file) (sym a.key ∙ e) in omega arith
        by (inr a) (inr b) =
            let group : a.row.id ≡ b.row.id = ap (λ (q : Key). q.id) (sym a.key ∙ e ∙ b.key) in
            ne (sym b.owner ∙ ap (λ (r : GroupRow). r.owner) (same_group b.row a.row (sym b.group ∙ ap (group_at s.records) (sym group) ∙ a.group)) ∙ a.owner)

    no_node : k.key ≢ key_in format.nodes_file n
    no_node e = by own
      where
        by : IsHeadOf s.records k m → ⊥
        by (inl a) = ne (ap (λ (q : Key). q.id) (sym e) ∙ ap (λ (h : Head). h.key.id) a.is)
        by (inr a) = let f = ap (λ (q : Key). q.file) (sym a.key ∙ e) in omega arith

    first_same : first_of (parted s head n rel d).records k ≡ first_of s.records k
    first_same = ap (λ r. field 4 r k.field) (record_parted s head n rel d k.key
        ((owned_heads (kind_at s.records format.nodes_file) (group_at s.records)).place k m own).elsewhere no_head no_node)

    rel_same : (x : ℕ) → rec_at (parted s head n rel d).records format.relationships_file x ≡ rec_at (unlinked s head n rel).records format.relationships_file x
    unfolding parted
    rel_same x =
        let t = tallied one_less (unlinked s head n rel) head in
        put_other t.records (key_in format.nodes_file n) (with_field 4 (t.records (key_in format.nodes_file n)) format.node_degree d)
        (key_in format.relationships_file x) (λ e. let f = ap (λ (q : Key). q.file) e in omega arith)
        ∙ file-tallied one_less (unlinked s head n rel) head (key_in format.relationships_file x) (λ e. let z : 2 ≡ 3 = e in omega arith)

    pub chain_parted : (ys : List ℕ) → IsHeadChain s.records k m ys → IsChainAt (parted s head n rel d).records k m ys
    chain_parted ys chain =
        let u = parted s head n rel d in
        let v = unlinked s head n rel in
        let out = nil_out (next_of s.records m) (first_of s.records k) ys
        (walk_of_chain (next_of s.records m) (prev_of s.records m) format.nil (first_of s.records k) ys chain.chain) in
        let differ : (x : ℕ) → In x ys → (x ≡ rel) ⊎ ((x ≡ prev_of s.records n rel) ⊎ (x ≡ next_of s.records n rel)) → Differ s.records n m x
        = λ x i e.
        let a = at_node x (beside x (λ none. out (subst (λ z. In z ys) none i)) e) in
        let stands = chain.only x i in
        ends_differ (rec_at s.records format.relationships_file x) n m (end_in s.records x n a.0 a.1 a.2)
        (end_in s.records x m stands.row stands.live (end_on (kind_at s.records format.nodes_file) (group_at s.records) k m stands.row own stands.on)) ne in
        subst (λ f. IsChainFrom u.records m f ys) (sym first_same)
        (chain_stays (next_of v.records m) (prev_of v.records m) (next_of u.records m) (prev_of u.records m) format.nil (first_of s.records k) ys
        (λ x i. ap (λ r. next_in r m) (rel_same x)) (λ x i. ap (λ r. prev_in r m) (rel_same x))
        (unlinked_others s head n rel place m (first_of s.records k) ys chain.chain differ))

-- ---- both ends

has_chains : (records : Records) (head : Head) (n : ℕ) → IsChainHead records head n → HasChains records n
has_chains records head n (inl o) = inl o.sparse
has_chains records head n (inr c) = inr c.own.dense

pub place_source : (records : Records) (row : RelRow) (ends : Ends EdgeEnd) → AtEach (HasPlace records row) ends → HasPlace records row (source_of ends)
place_source records row (Loop end) places = places
place_source records row (Two a b) places = places.0

place_target : (records : Records) (row : RelRow) (ends : Ends EdgeEnd) → AtEach (HasPlace records row) ends → HasPlace records row (target_of ends)
place_target records row (Loop end) places = places
place_target records row (Two a b) places = places.1

-- the heads are those of the nodes
pub placed_heads : (records : Records) (row : RelRow) (ends : Ends EdgeEnd) → AtEach (HasPlace records row) ends → AtEach (HasHead records) ends
placed_heads records row (Loop end) places = chain_head records (head_of end.head) end.node places.owns
placed_heads records row (Two a b) places = (chain_head records (head_of a.head) a.node places.0.owns, chain_head records (head_of b.head) b.node places.1.owns)

module _ (s : State) (id : ℕ) (row : RelRow) (ends : Ends EdgeEnd) (edge : IsPlacedEdge s.records id row ends) where
  source_has : HasChains s.records row.from
  source_has = let p = place_source s.records row ends edge.places in subst (HasChains s.records) edge.source
      (has_chains s.records (head_of (source_of ends).head) (source_of ends).node p.owns)

  target_has : HasChains s.records row.to
  target_has = let p = place_target s.records row ends edge.places in subst (HasChains s.records) edge.target
      (has_chains s.records (head_of (target_of ends).head) (target_of ends).node p.owns)

  pub source_cut : (damage : Damage) → IsCutDamage s (head_of (source_of ends).head) (source_of ends).node id damage
      → IsPartedDamage s id row.from row.to damage
  source_cut damage told =
      first_cut s (head_of (source_of ends).head) (source_of ends).node id row.from row.to row damage (inl edge.source) source_has target_has edge.live
      (place_source s.records row ends edge.places) told

pub target_cut : (s u : State) (id : ℕ) (row : RelRow) (a b : EdgeEnd) → IsPlacedEdge s.records id row (Two a b) → a.node ≢ b.node → u ≡ end_parted s a id
    → (damage : Damage)
    → IsCutDamage u (head_of b.head) b.node id damage → IsPartedDamage s id row.from row.to damage
target_cut s u id row a b edge ne is damage told =
    let h = head_of a.head in
    let k = head_of b.head in
    let owns = chain_head s.records h a.node edge.places.0.owns in
    let is_row = (some_row (kind_at s.records format.relationships_file id) (rel_in (rec_at s.records format.relationships_file id) id) row edge.live).1 in
    let ends : HasEndsIn s.records id a.node b.node
    = record { source = ap (λ (r : RelRow). r.from) is_row ∙ sym edge.source; target = ap (λ (r : RelRow). r.to) is_row ∙ sym edge.target } in
    cut_told s u k b.node id row.from row.to row damage (inr edge.target) (source_has s id row (Two a b) edge) (target_has s id row (Two a b) edge) edge.live
    edge.places.1
    (subst (λ (z : State). AreAlike s z b.node) (sym is) (alike_parted s h a.node owns id (a.degree - 1) b.node ne))
    (link_before s u h a.node id (a.degree - 1) b.node ne ends owns is damage)
    (λ from _ ys chain. subst (λ (z : State). IsChainAt z.records k b.node ys) (sym is)
    (chain_parted s h a.node id (a.degree - 1) b.node ne owns (subst (λ m. IsInChain s.records m id) (sym edge.source) from) k edge.places.1.owns ys chain))
    told

-- an edge that was taken out at one end stands at the other
pub place_later : (s u : State) (id : ℕ) (row : RelRow) (a b : EdgeEnd) → IsPlacedEdge s.records id row (Two a b) → a.node ≢ b.node → u ≡ end_parted s a id
    → (rel_at u.records id ≡ Some row) × HasPlace u.records row b
place_later s u id row a b edge ne is =
    let h = head_of a.head in
    let owns = chain_head s.records h a.node edge.places.0.owns in (
      row_still s u h a.node id (a.degree - 1) owns is id ∙ edge.live,
      placed_as u s b.node (alike_back s u b.node (subst (λ (z : State). AreAlike s z b.node) (sym is) (alike_parted s h a.node owns id (a.degree - 1)
          b.node ne))) (head_of b.head) row edge.places.1,
    )
