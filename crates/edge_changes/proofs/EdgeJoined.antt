-- A new relationship that joined the chains of its ends, as the rules ask of one.
use Rattle.std.proofs.Common.{◌≡◌, ◌≢◌, ◌⊎◌, ℕ, ◌+◌, ◌<◌, ◌^◌, nat_eq, cond, None, Some, List, sym, ap, ◌∙◌, subst, inl, inr, ⊎_elim, arith, refl, ◌≤◌}
use Rattle.rec_bytes.specs.declared.record.Rec.{Rec}
use Rattle.rec_bytes.specs.declared.key.Key.{Key}
use Rattle.rec_bytes.specs.declared.shape.Shape.{Shape}
use Rattle.rec_bytes.specs.Format as format
use Rattle.rec_bytes.specs.Record.{field, with_field}
use Rattle.rec_bytes.specs.Space.{State}
use Rattle.store_rules.specs.Chains.{In, next_in, prev_in}
use Rattle.store_rules.specs.Ends.{IsEndHead, group_of_head}
use Rattle.store_rules.specs.Ranges.{AreInRange, Fits}
use Rattle.store_rules.specs.Rules.{AllListed, Head, IsEnd, IsInGroup, IsOn, KeepsRules, Owns, StandsAt, first_of}
use Rattle.store_rules.specs.Views.{GroupRow, Records, RelRow, degree, group_at, high, key_in, kind_at, rec_at, rel_at, rel_in, is_group_kind}
use Rattle.store_rules.proofs.Changes as ch
use Rattle.rec_bytes.proofs.Spaces.{put_other}
use Rattle.store_rules.proofs.CountLaws.{HasOneMore, counts_away}
use Rattle.store_rules.proofs.GroupLaws.{same_group}
use Rattle.chain_edit.specs.Pushing.{pushed}
use Rattle.group_store.specs.Counting.{one_more, tallied}
use Rattle.group_store.proofs.HeadCounts.{more_here}
use Rattle.store_rules.proofs.EdgeChange as ec
use Rattle.store_rules.proofs.EdgeChange.{IsGoodRow}
use Rattle.store_rules.proofs.EdgeMade.{IsEdgeMade, made_row, no_row}
use Rattle.store_rules.proofs.FilledGroups.{group_head}
use Rattle.store_rules.proofs.GraphRows.{degree_most}
use Rattle.store_rules.proofs.Made.{IsMade}
use Rattle.store_rules.proofs.NumberLaws.{nat_cases}
use Rattle.store_rules.proofs.Relinks as re
use Rattle.store_rules.proofs.Relinks.{IsFirstLink, IsRelinked, owned_link, relinked_both}
use Rattle.store_rules.proofs.UsedKinds.{rel_kind}
use Rattle.store_rules.proofs.ViewLaws.{kind_below, kind_low, some_row}
use Rattle.chain_edit.specs.Chains.{Differ, prev_of}
use Rattle.chain_edit.specs.Links.{IsRightLink}
use Rattle.chain_edit.specs.Listed.{AreHeads, with_one}
use Rattle.chain_edit.proofs.AllPushed.{all_listed_same, all_listed_stays}
use Rattle.store_rules.proofs.ChainSteps.{on_test}
use Rattle.store_rules.proofs.OneHead.{end_on, on_has_group, only_head}
use Rattle.chain_edit.proofs.OwnedHeads.{end_in, ends_differ, heads_differ, in_head_group, other_record, owned_heads, owner_kind, owner_used}
use Rattle.edge_changes.specs.EdgeEnds.{joined}
use Rattle.edge_changes.proofs.EdgeLists.{first_used, joined_listed, prev_joined}
use Rattle.edge_changes.proofs.EdgeSteps.{IsNode, number_pushed, degree_joined, differ_stays, first_joined, first_stays}
use Rattle.edge_changes.proofs.EdgeSteps.{links_joined, node_stays, record_joined, shape_joined, target_joined, used_low}

some_same : (a b : RelRow) → Some a ≡ Some b → a ≡ b
some_same a b q = cc

-- a relationship that was put into the chains of its ends, by their numbers
abbrev pub both_joined : State → Head → Head → ℕ → ℕ → ℕ → ℕ → ℕ → State
both_joined s h k from to rel from_degree to_degree = cond (nat_eq from to) (joined s h from rel from_degree)
    (joined (joined s h from rel from_degree) k to rel to_degree)

-- What was made: a record of a relationship with no neighbour yet, which is to stand at these heads. Groups that may be empty are those of the
-- heads, and a sparse end has less than the most.
pub record IsLoneEdge (s m : Records) (shape : Shape) (id : ℕ) (rec : Rec) (row : RelRow) (h k : Head) (most : ℕ) (empty : List ℕ) : Type 0 where
  pub made : IsMade s m shape format.relationships_file id rec
  pub is : rel_in rec id ≡ row
  pub kind : field 1 rec format.kind ≡ format.related
  pub fits : Fits (high m) format.relationships_file rec
  pub lone : (n : ℕ) → prev_in rec n ≡ format.nil
  pub named : row.label < high s format.names_file
  pub bare : row.property ≡ format.nil
  pub source : IsEndHead s h row.from row
  pub target : IsEndHead s k row.to row
  pub into : (g : ℕ) → In g empty → In g (group_of_head h) ⊎ In g (group_of_head k)
  pub few : (n : ℕ) → IsEnd n row → kind_at s format.nodes_file n ≡ format.sparse → degree s n < most
  pub small : id < 2 ^ 25

module _ (s : Records) (m : State) (shape : Shape) (id : ℕ) (rec : Rec) (row : RelRow) (h k : Head) {most : ℕ} {empty : List ℕ}
    (edge : IsLoneEdge s m.records shape id rec row h k most empty) (well : KeepsRules s shape most empty)
    (d e : ℕ) (d_is : d ≡ degree s row.from + 1) (e_is : e ≡ degree s row.to + 1) where
  abbrev Own : Head → ℕ → Type 0
  Own = Owns (kind_at s format.nodes_file) (group_at s)

  abbrev At : Head → ℕ → Type 0
  At = StandsAt (rel_at s) (group_at s)

  heads : AreHeads Own
  heads = owned_heads (kind_at s format.nodes_file) (group_at s)

  rel_old : rel_at s id ≡ None
  rel_old = no_row s id edge.made.fresh

  not_id : (x : ℕ) (a : RelRow) → rel_at s x ≡ Some a → x ≢ id
  not_id x a is same = absurd (let z : None ≡ Some a = sym rel_old ∙ ap (rel_at s) (sym same) ∙ is in cc)

  rec_other : (x : ℕ) → x ≢ id → rec_at m.records format.relationships_file x ≡ rec_at s format.relationships_file x
  rec_other x ne = ch.other_record s m.records format.relationships_file id edge.made.change format.relationships_file x refl (λ _. ne)

  node_made : (n : ℕ) → rec_at m.records format.nodes_file n ≡ rec_at s format.nodes_file n
  node_made n = ec.rec_beside s m.records id edge.made.change format.nodes_file n refl (λ q. omega arith)

  first_made : (a : Head) (n : ℕ) → Own a n → first_of m.records a ≡ first_of s a
  first_made a n (inl o) = ap (first_of m.records) o.is ∙ ap (λ r. field 4 r format.node_first_link) (node_made n) ∙ sym (ap (first_of s) o.is)
  first_made a n (inr o) = ap (λ (z : Key). field 4 (m.records z) a.field) o.key
      ∙ ap (λ r. field 4 r a.field) (ec.rec_beside s m.records id edge.made.change format.groups_file o.row.id refl (λ q. omega arith))
      ∙ sym (ap (λ (z : Key). field 4 (s z) a.field) o.key)

  listed_made : AllListed m.records Own At
  listed_made = all_listed_stays s m.records Own At
      (λ a n x o p. ap (λ r. next_in r n) (rec_other x (not_id x p.row p.live)))
      (λ a n x o p. ap (λ r. prev_in r n) (rec_other x (not_id x p.row p.live)))
      first_made well.linked.listed

  -- chains of two heads use different links
  meet : (a b : Head) (n j x : ℕ) → Own a n → Own b j → a ≢ b → At a x → At b x → Differ m.records j n x
  meet a b n j x o q ne p there = rw (rec_other x (not_id x p.row p.live))
      (heads_differ s empty well.grouped b a j n p.row (rec_at s format.relationships_file x) q o (λ z. ne (sym z))
      (subst (IsOn (group_at s) b) (some_same there.row p.row (sym there.live ∙ p.live)) there.on) p.on
      (λ end. end_in s x j p.row p.live end) (λ end. end_in s x n p.row p.live end))

  related_made : kind_at m.records format.relationships_file id ≡ format.related
  related_made = kind_low (high m.records format.relationships_file) (rec_at m.records format.relationships_file id) id edge.made.below
      ∙ ap (λ r. field 1 r format.kind) edge.made.here ∙ edge.kind

  related_old : (a : Head) (x : ℕ) → At a x → kind_at m.records format.relationships_file x ≡ format.related
  related_old a x p = ch.kind_other s m.records format.relationships_file id edge.made.change x (not_id x p.row p.live)
      ∙ rel_kind s shape well.ranges x (some_row (kind_at s format.relationships_file x) (rel_in (rec_at s format.relationships_file x) x) p.row p.live).0

  alone_made : (n : ℕ) → prev_of m.records n id ≡ format.nil
  alone_made n = ap (λ r. prev_in r n) edge.made.here ∙ edge.lone n

  -- ---- the ends
  node_of : (a : Head) (n : ℕ) → Own a n → IsNode m.records n
  node_of a n o = let same = ec.kind_beside s m.records id edge.made.change format.nodes_file n refl (λ q. omega arith) in
      ⊎_elim (λ z. inl (same ∙ z)) (λ z. inr (same ∙ z)) (owner_kind (kind_at s format.nodes_file) (group_at s) a n o)

  first_link_of : (a : Head) (n : ℕ) → Own a n → IsFirstLink m.records a
  first_link_of a n o = ⊎_elim
      (λ z. inl (ec.kind_beside s m.records id edge.made.change format.nodes_file a.key.id refl (λ q. omega arith) ∙ z.0, z.1))
      (λ z. inr (ap is_group_kind (ec.kind_beside s m.records id edge.made.change format.groups_file a.key.id refl (λ q. omega arith)) ∙ z.0, z.1, z.2))
      (owned_link s shape well.ranges a n o)

  used_of : (a : Head) (n : ℕ) → Own a n → kind_at s format.nodes_file n ≢ format.free_kind
  used_of = owner_used (kind_at s format.nodes_file) (group_at s)

  degree_small : (n : ℕ) → kind_at s format.nodes_file n ≢ format.free_kind → degree s n + 1 < 2 ^ 32
  degree_small n used = let few = degree_most s shape well n used in omega arith

  d_small : d < 2 ^ 32
  d_small = let b = degree_small row.from (used_of h row.from edge.source.owns) in omega arith

  e_small : e < 2 ^ 32
  e_small = let b = degree_small row.to (used_of k row.to edge.target.owns) in omega arith

  good : IsGoodRow s row
  good = record {
    ends = record { from = used_of h row.from edge.source.owns; to = used_of k row.to edge.target.owns };
    typed = λ n end dense. ⊎_elim
        (λ (q : row.from ≡ n). on_has_group (kind_at s format.nodes_file) (group_at s) h n row (subst (Own h) q edge.source.owns) edge.source.on dense)
        (λ (q : row.to ≡ n). on_has_group (kind_at s format.nodes_file) (group_at s) k n row (subst (Own k) q edge.target.owns) edge.target.on dense) end;
    named = edge.named;
    bare = edge.bare;
  }

  groups_into : (g : ℕ) → In g empty → (at : ℕ) × IsInGroup (group_at s) (group_head g at) row
  groups_into g i = ⊎_elim
      (in_head_group (kind_at s format.nodes_file) (group_at s) h row.from row edge.source.owns edge.source.on g)
      (in_head_group (kind_at s format.nodes_file) (group_at s) k row.to row edge.target.owns edge.target.on g) (edge.into g i)

  -- ---- at the source
  one : State
  one = joined m h row.from id d

  one_listed : AllListed one.records Own (with_one At h id)
  unfolding one
  one_listed = joined_listed m (kind_at s format.nodes_file) (group_at s) At listed_made h row.from id d edge.source.owns edge.small
      (λ p. not_id id p.row p.live refl) (alone_made row.from)
      (λ a n x o ne p b. ⊎_elim (λ there. meet a h n row.from x o edge.source.owns ne p there) (λ q. absurd (not_id x p.row p.live q)) b)

  one_links : IsRelinked m.records one.records
  unfolding one
  one_links = links_joined m h row.from id (first_link_of h row.from edge.source.owns) (heads.place h row.from edge.source.owns)
      (node_of h row.from edge.source.owns) related_made d d_small
      (first_used m (kind_at s format.nodes_file) (group_at s) At listed_made h row.from id d edge.source.owns (λ x p. related_old h x p))

  one_alone : (n : ℕ) → prev_of one.records n id ≡ format.nil
  unfolding one
  one_alone n = prev_joined m (kind_at s format.nodes_file) (group_at s) At listed_made h row.from id d edge.source.owns edge.small
      (λ p. not_id id p.row p.live refl) n ∙ alone_made n

  -- ---- at the target
  two : State
  two = joined one k row.to id e

  new_differ : row.from ≢ row.to → Differ m.records row.to row.from id
  new_differ ne = rw edge.made.here (ends_differ rec row.to row.from (inr (ap (λ (r : RelRow). r.to) edge.is)) (inl (ap (λ (r : RelRow). r.from) edge.is))
      (λ q. ne (sym q)))

  one_related : (x : ℕ) → with_one At h id k x → kind_at one.records format.relationships_file x ≡ format.related
  one_related x p = re.kind_stays m.records one.records one_links format.relationships_file x
      ∙ ⊎_elim (λ z. related_old k x z) (λ z. ap (kind_at m.records format.relationships_file) z.1 ∙ related_made) p

  -- the heads of two nodes are two
  heads_apart : row.from ≢ row.to → k ≢ h
  heads_apart differ q = differ (heads.one_node h row.from row.to edge.source.owns (subst (λ z. Own z row.to) q edge.target.owns))

  two_listed : row.from ≢ row.to → AllListed two.records Own (with_one (with_one At h id) k id)
  unfolding two
  two_listed differ = joined_listed one (kind_at s format.nodes_file) (group_at s) (with_one At h id) one_listed k row.to id e edge.target.owns edge.small
      (λ p. ⊎_elim (λ z. not_id id z.row z.live refl) (λ z. heads_apart differ z.0) p) (one_alone row.to)
      (λ a n x o ne p b. differ_stays m.records one.records one_links row.to n x (⊎_elim
      (λ (z : At a x). ⊎_elim
      (λ c. ⊎_elim (λ (there : At k x). meet a k n row.to x o edge.target.owns ne z there) (λ j. absurd (not_id x z.row z.live j.1)) c)
      (λ q. absurd (not_id x z.row z.live q)) b)
      (λ (z : (a ≡ h) × (x ≡ id)). subst (Differ m.records row.to n) (sym z.1)
      (subst (λ j. Differ m.records row.to j id) (heads.one_node h row.from n edge.source.owns (subst (λ w. Own w n) z.0 o)) (new_differ differ))) p))

  two_links : row.from ≢ row.to → IsRelinked m.records two.records
  unfolding two
  two_links differ = relinked_both m.records one.records two.records one_links (links_joined one k row.to id
      (first_stays m.records one.records one_links k (first_link_of k row.to edge.target.owns)) (heads.place k row.to edge.target.owns)
      (node_stays m.records one.records one_links row.to (node_of k row.to edge.target.owns))
      (re.kind_stays m.records one.records one_links format.relationships_file id ∙ related_made) e e_small
      (first_used one (kind_at s format.nodes_file) (group_at s) (with_one At h id) one_listed k row.to id e edge.target.owns one_related))

  -- it stands at its two heads alone
  heads_of : (a : Head) (n : ℕ) → Own a n → IsOn (group_at s) a row → (a ≡ h) ⊎ (a ≡ k)
  heads_of a n o on = ⊎_elim
      (λ (q : row.from ≡ n). inl (only_head s empty well.grouped a h n row o (subst (Own h) q edge.source.owns) on edge.source.on))
      (λ (q : row.to ≡ n). inr (only_head s empty well.grouped a k n row o (subst (Own k) q edge.target.owns) on edge.target.on))
      (end_on (kind_at s format.nodes_file) (group_at s) a n row o on)

  loop_head : row.from ≡ row.to → k ≡ h
  loop_head loop = only_head s empty well.grouped k h row.from row (subst (Own k) (sym loop) edge.target.owns) edge.source.owns edge.target.on edge.source.on

  -- ---- the numbers of counted groups
  apart_key : (a : Head) (n g : ℕ) (group : GroupRow) → Own a n → group_at s g ≡ Some group → group.owner ≢ n → key_in format.groups_file g ≢ a.key
  apart_key a n g group (inl o) is ne q = let f = ap (λ (z : Key). z.file) (q ∙ ap (λ (z : Head). z.key) o.is) in omega arith
  apart_key a n g group (inr o) is ne q =
      ne (ap (λ (z : GroupRow). z.owner) (same_group group o.row (sym is ∙ ap (λ (z : Key). group_at s z.id) (q ∙ o.key) ∙ o.group)) ∙ o.owner)

  first_low : (a : Head) (n : ℕ) → Own a n → (8 ≤ a.field) × (a.field + 4 ≤ 32)
  first_low a n (inl o) = let q = ap (λ (z : Head). z.field) o.is in (omega arith, omega arith)
  first_low a n (inr o) = ⊎_elim (λ (q : a.field ≡ 20). (omega arith, omega arith))
      (λ z. ⊎_elim (λ (q : a.field ≡ 24). (omega arith, omega arith)) (λ (q : a.field ≡ 28). (omega arith, omega arith)) z) o.field

  module _ (g : ℕ) (group : GroupRow) (is : group_at s g ≡ Some group) (counted : kind_at s format.groups_file g ≡ format.counted) where
    group_made : rec_at m.records format.groups_file g ≡ rec_at s format.groups_file g
    group_made = ec.rec_beside s m.records id edge.made.change format.groups_file g refl (λ q. omega arith)

    byte_s : field 1 (rec_at s format.groups_file g) format.kind ≡ format.counted
    byte_s = sym (kind_low (high s format.groups_file) (rec_at s format.groups_file g) g (kind_below (high s format.groups_file) (rec_at s format.groups_file g)
        g (λ q. let z = sym q ∙ counted in omega arith))) ∙ counted

    -- at one head, after a state in which the group is as it was
    step : (p : State) (a : Head) (n : ℕ) → IsEndHead s a n row → rec_at p.records format.groups_file g ≡ rec_at s format.groups_file g → group.owner ≡ n
        → (f : ℕ)
        → HasOneMore (rec_at s format.groups_file g) (rec_at (joined p a n id f).records format.groups_file g) group row
    unfolding joined
    step p a n end same own f =
        let low = first_low a n end.owns in
        subst (λ (r : Rec). HasOneMore (rec_at s format.groups_file g) r group row)
        (sym (put_other (tallied one_more (pushed p a n id) a).records (key_in format.nodes_file n)
        (with_field 4 ((tallied one_more (pushed p a n id) a).records (key_in format.nodes_file n)) format.node_degree f) (key_in format.groups_file g)
        (λ q. let w = ap (λ (z : Key). z.file) q in omega arith)))
        (more_here s shape well row a n end g group is counted (pushed p a n id)
        (λ at w. number_pushed p a n id (key_in format.groups_file g) 4 at (λ q. let z : 3 ≡ 2 = q in omega arith) (let b = w.1 in omega arith)
        (λ _. inr (let b = w.0 in let c = low.1 in omega arith)) ∙ ap (λ r. field 4 r at) same)
        (number_pushed p a n id (key_in format.groups_file g) 1 format.kind (λ q. let z : 3 ≡ 2 = q in omega arith) (omega arith)
        (λ _. inl (let c = low.0 in omega arith)) ∙ ap (λ r. field 1 r format.kind) same ∙ byte_s) own)

    away : (p : State) (a : Head) (n f : ℕ) → Own a n → group.owner ≢ n
        → rec_at (joined p a n id f).records format.groups_file g ≡ rec_at p.records format.groups_file g
    away p a n f o ne = record_joined p a n id f (key_in format.groups_file g) (λ q. let z : 3 ≡ 2 = q in omega arith) (apart_key a n g group o is ne)
        (λ q. let w = ap (λ (z : Key). z.file) q in omega arith)

    loop_counts : row.from ≡ row.to → HasOneMore (rec_at s format.groups_file g) (rec_at one.records format.groups_file g) group row
    unfolding one
    loop_counts loop = ⊎_elim (λ (own : group.owner ≡ row.from). step m h row.from edge.source group_made own d)
        (λ (ne : group.owner ≢ row.from).
        let same = away m h row.from d edge.source.owns ne ∙ group_made in
        counts_away (rec_at s format.groups_file g) (rec_at (joined m h row.from id d).records format.groups_file g) group row
        (λ at w. ap (λ r. field 4 r at) same)
        (λ end. ⊎_elim (λ q. ne (sym q)) (λ q. ne (sym q ∙ sym loop)) end)) (nat_cases group.owner row.from)

    pair_counts : row.from ≢ row.to → HasOneMore (rec_at s format.groups_file g) (rec_at two.records format.groups_file g) group row
    unfolding two one
    pair_counts differ = ⊎_elim
        (λ (own : group.owner ≡ row.from).
        subst (λ (r : Rec). HasOneMore (rec_at s format.groups_file g) r group row)
        (sym (away (joined m h row.from id d) k row.to e edge.target.owns (λ q. differ (sym own ∙ q)))) (step m h row.from edge.source group_made own d))
        (λ (ne : group.owner ≢ row.from).
        let one_same = away m h row.from d edge.source.owns ne ∙ group_made in
        ⊎_elim (λ (own : group.owner ≡ row.to). step (joined m h row.from id d) k row.to edge.target one_same own e)
        (λ (no : group.owner ≢ row.to).
        let same = away (joined m h row.from id d) k row.to e edge.target.owns no ∙ one_same in
        counts_away (rec_at s format.groups_file g) (rec_at (joined (joined m h row.from id d) k row.to id e).records format.groups_file g) group row
        (λ at w. ap (λ r. field 4 r at) same)
        (λ end. ⊎_elim (λ q. ne (sym q)) (λ q. no (sym q)) end)) (nat_cases group.owner row.to)) (nat_cases group.owner row.from)

  -- ---- what stands at each head, in the words of the new store
  module _ (t : Records) (links : IsRelinked m.records t) where
    pub at_new : rel_at t id ≡ Some row
    at_new = ec.rels_relinked m.records t links id ∙ made_row s m.records shape id rec edge.made (λ q. let z = edge.kind in omega arith)
        ∙ ap (λ r. Some r) edge.is

    at_other : (x : ℕ) → x ≢ id → rel_at t x ≡ rel_at s x
    at_other x ne = ec.rels_relinked m.records t links x ∙ ec.rels_changed s m.records id edge.made.change x ne

    abbrev Now : Head → ℕ → Type 0
    Now = StandsAt (rel_at t) (group_at s)

    stands_new : (a : Head) (x : ℕ) → At a x → Now a x
    stands_new a x p = record { row = p.row; live = at_other x (not_id x p.row p.live) ∙ p.live; on = p.on }

    stands_old : (a : Head) (x : ℕ) → x ≢ id → Now a x → At a x
    stands_old a x ne p = record { row = p.row; live = sym (at_other x ne) ∙ p.live; on = p.on }

    stands_at : (a b : Head) (x : ℕ) → a ≡ b → x ≡ id → IsOn (group_at s) b row → Now a x
    stands_at a b x p q on = subst (λ z. Now z x) (sym p) (subst (Now b) (sym q) (record { row = row; live = at_new; on = on }))

    ends_new : (a : Head) (n x : ℕ) → Own a n → x ≡ id → Now a x → (a ≡ h) ⊎ (a ≡ k)
    ends_new a n x o q p = heads_of a n o (subst (IsOn (group_at s) a) (some_same p.row row (sym p.live ∙ ap (rel_at t) q ∙ at_new)) p.on)

    loop_stands : row.from ≡ row.to → AllListed t Own (with_one At h id) → AllListed t Own Now
    loop_stands loop = all_listed_same t Own (with_one At h id) Own Now (λ a n o. o)
        (λ a n x o p. ⊎_elim (stands_new a x) (λ z. stands_at a h x z.0 z.1 edge.source.on) p)
        (λ a n x o p. ⊎_elim (λ (q : x ≡ id). inr (⊎_elim (λ z. z) (λ z. z ∙ loop_head loop) (ends_new a n x o q p), q))
        (λ (ne : x ≢ id). inl (stands_old a x ne p)) (nat_cases x id))

    both_stand : AllListed t Own (with_one (with_one At h id) k id) → AllListed t Own Now
    both_stand = all_listed_same t Own (with_one (with_one At h id) k id) Own Now (λ a n o. o)
        (λ a n x o p. ⊎_elim (λ b. ⊎_elim (stands_new a x) (λ z. stands_at a h x z.0 z.1 edge.source.on) b) (λ z. stands_at a k x z.0 z.1 edge.target.on) p)
        (λ a n x o p. ⊎_elim (λ (q : x ≡ id). ⊎_elim (λ z. inl (inr (z, q))) (λ z. inr (z, q)) (ends_new a n x o q p))
        (λ (ne : x ≢ id). inl (inl (stands_old a x ne p))) (nat_cases x id))

    edge_of_links : AllListed t Own Now → ((n : ℕ) → IsEnd n row → degree t n ≡ degree s n + 1) → ((n : ℕ) → ¬ IsEnd n row → degree t n ≡ degree s n)
        → ((g : ℕ) (group : GroupRow) → group_at s g ≡ Some group → kind_at s format.groups_file g ≡ format.counted → HasOneMore (rec_at s format.groups_file g)
        (rec_at t format.groups_file g) group row)
        → IsEdgeMade s m.records t shape id rec row most empty
    edge_of_links listed more as_before counts = record {
      made = edge.made;
      links = links;
      is = edge.is;
      used = λ q. let z = edge.kind in omega arith;
      fits = edge.fits;
      good = good;
      listed = listed;
      into = groups_into;
      more = more;
      as_before = as_before;
      few = edge.few;
      counts = counts;
    }

  -- ---- degrees
  one_degree : degree one.records row.from ≡ degree s row.from + 1
  unfolding one
  one_degree = degree_joined m h row.from id d d_small ∙ d_is

  one_else : (n : ℕ) → n ≢ row.from → degree one.records n ≡ degree s n
  unfolding one
  one_else n ne = ap (λ r. field 4 r format.node_degree) (record_joined m h row.from id d (key_in format.nodes_file n) (λ q. omega arith)
      (other_record (kind_at s format.nodes_file) (group_at s) h row.from n edge.source.owns ne) (λ q. ne (ap (λ (z : Key). z.id) q)) ∙ node_made n)

  two_degree : degree two.records row.to ≡ degree s row.to + 1
  unfolding two
  two_degree = degree_joined one k row.to id e e_small ∙ e_is

  two_else : (n : ℕ) → n ≢ row.to → degree two.records n ≡ degree one.records n
  unfolding two
  two_else n ne = ap (λ r. field 4 r format.node_degree) (record_joined one k row.to id e (key_in format.nodes_file n) (λ q. omega arith)
      (other_record (kind_at s format.nodes_file) (group_at s) k row.to n edge.target.owns ne) (λ q. ne (ap (λ (z : Key). z.id) q)))

  loop_made : row.from ≡ row.to → IsEdgeMade s m.records one.records shape id rec row most empty
  loop_made loop = edge_of_links one.records one_links (loop_stands one.records one_links loop one_listed)
      (λ n end. let same : row.from ≡ n = ⊎_elim (λ z. z) (λ z. loop ∙ z) end in subst (λ z. degree one.records z ≡ degree s z + 1) same one_degree)
      (λ n out. one_else n (λ q. out (inl (sym q)))) (λ g group is counted. loop_counts g group is counted loop)

  pair_made : row.from ≢ row.to → IsEdgeMade s m.records two.records shape id rec row most empty
  pair_made differ = edge_of_links two.records (two_links differ) (both_stand two.records (two_links differ) (two_listed differ))
      (λ n end. ⊎_elim
      (λ (z : row.from ≡ n). subst (λ z. degree two.records z ≡ degree s z + 1) z (two_else row.from differ ∙ one_degree))
      (λ (z : row.to ≡ n). subst (λ z. degree two.records z ≡ degree s z + 1) z two_degree) end)
      (λ n out. two_else n (λ q. out (inr (sym q))) ∙ one_else n (λ q. out (inl (sym q)))) (λ g group is counted. pair_counts g group is counted differ)

  -- the relationship as the rules ask of one that was made
  pub edge_joined : IsEdgeMade s m.records (both_joined m h k row.from row.to id d e).records shape id rec row most empty
  unfolding one two
  edge_joined = on_test (λ (u : State). IsEdgeMade s m.records u.records shape id rec row most empty) row.from row.to (joined m h row.from id d)
      (joined (joined m h row.from id d) k row.to id e) loop_made pair_made

  -- ---- what is first
  head_aside : (a : Head) (n : ℕ) → Own a n → a.key ≡ key_in format.nodes_file n → a.field + 4 ≤ format.node_degree
  head_aside a n (inl o) e = let f = ap (λ (z : Head). z.field) o.is in omega arith
  head_aside a n (inr o) e = let f = ap (λ (z : Key). z.file) (sym o.key ∙ e) in absurd (omega arith)

  -- the record of a head of one node is none that a step at another node's head sets
  head_apart : (a b : Head) (n j : ℕ) → Own a n → Own b j → n ≢ j → (a.key.file ≢ format.relationships_file) × (a.key ≢ b.key)
      × (a.key ≢ key_in format.nodes_file j)
  head_apart a b n j (inl o) q ne =
      let is = ap (λ (z : Head). z.key) o.is in (
        (λ e. let f = sym (ap (λ (z : Key). z.file) is) ∙ e in absurd (omega arith)),
        (λ e. other_record (kind_at s format.nodes_file) (group_at s) b j n q ne (sym is ∙ e)),
        (λ e. ne (ap (λ (z : Key). z.id) (sym is ∙ e))),
      )
  head_apart a b n j (inr o) q ne = (
    (λ e. let f = sym (ap (λ (z : Key). z.file) o.key) ∙ e in absurd (omega arith)),
    (λ e. apart_key b j o.row.id o.row q o.group (λ z. ne (sym o.owner ∙ z)) (sym o.key ∙ e)),
    (λ e. let f = ap (λ (z : Key). z.file) (sym o.key ∙ e) in absurd (omega arith)),
  )

  one_first : first_of one.records h ≡ id
  unfolding one
  one_first = let low = first_low h row.from edge.source.owns in first_joined m h row.from id d (omega arith) (head_aside h row.from edge.source.owns)
      (let b = edge.small in omega arith)

  two_first : first_of two.records k ≡ id
  unfolding two
  two_first = let low = first_low k row.to edge.target.owns in first_joined one k row.to id e (omega arith) (head_aside k row.to edge.target.owns)
      (let b = edge.small in omega arith)

  -- the other end's head is left
  one_then : row.from ≢ row.to → first_of two.records h ≡ id
  unfolding two
  one_then differ =
      let apart = head_apart h k row.from row.to edge.source.owns edge.target.owns differ in
      ap (λ (r : Rec). field 4 r h.field) (record_joined one k row.to id e h.key apart.0 apart.1 apart.2) ∙ one_first

  pub first_source : first_of (both_joined m h k row.from row.to id d e).records h ≡ id
  unfolding one two
  first_source = on_test (λ (u : State). first_of u.records h ≡ id) row.from row.to (joined m h row.from id d) (joined (joined m h row.from id d) k row.to id e)
      (λ _. one_first) one_then

  pub first_target : first_of (both_joined m h k row.from row.to id d e).records k ≡ id
  unfolding one two
  first_target = on_test (λ (u : State). first_of u.records k ≡ id) row.from row.to (joined m h row.from id d) (joined (joined m h row.from id d) k row.to id e)
      (λ loop. ap (first_of (joined m h row.from id d).records) (loop_head loop) ∙ one_first) (λ _. two_first)

  -- and of a loop the links of the target
  pub loop_target : row.from ≡ row.to → (at : ℕ) → 24 ≤ at → at + 4 ≤ 64
      → field 4 (rec_at (both_joined m h k row.from row.to id d e).records format.relationships_file id) at ≡ field 4 rec at
  loop_target loop at high inside =
      let source : field 4 (rec_at m.records format.relationships_file id) format.relationship_source ≡ row.from =
      ap (λ r. field 4 r format.relationship_source) edge.made.here ∙ ap (λ (r : RelRow). r.from) edge.is in
      let file : h.key.file ≢ format.relationships_file = no_rel h row.from edge.source.owns in
      on_test (λ (u : State). field 4 (rec_at u.records format.relationships_file id) at ≡ field 4 rec at) row.from row.to (joined m h row.from id d)
      (joined (joined m h row.from id d) k row.to id e)
      (λ _. target_joined m h row.from id d at high inside file source ∙ ap (λ r. field 4 r at) edge.made.here) (λ differ. absurd (differ loop))
    where
      no_rel : (a : Head) (n : ℕ) → Own a n → a.key.file ≢ format.relationships_file
      no_rel a n (inl o) e = let f = sym (ap (λ (z : Head). z.key.file) o.is) ∙ e in absurd (omega arith)
      no_rel a n (inr o) e = let f = sym (ap (λ (z : Key). z.file) o.key) ∙ e in absurd (omega arith)

  -- ---- the links that are read
  made_range : AreInRange m.records shape
  made_range = ch.in_range s m.records format.relationships_file id edge.made.change shape edge.made.meta
      (λ _. subst (Fits (high m.records) format.relationships_file) (sym edge.made.here) edge.fits) well.ranges

  pub made_right : m.shape ≡ shape → IsRightLink m (first_of m.records h)
  made_right same = record {
    low = used_low m.records (first_of m.records h) (first_used m (kind_at s format.nodes_file) (group_at s) At listed_made h row.from id d edge.source.owns
        (λ x p. related_old h x p));
    mark = ((subst (AreInRange m.records) (sym same) made_range).metas format.relationships_file refl).high;
  }

  pub one_right : m.shape ≡ shape → IsRightLink (joined m h row.from id d) (first_of (joined m h row.from id d).records k)
  unfolding one
  one_right same = record {
    low = used_low one.records (first_of one.records k) (first_used one (kind_at s format.nodes_file) (group_at s) (with_one At h id) one_listed k row.to id e
        edge.target.owns one_related);
    mark = ((subst (AreInRange one.records) (sym (shape_joined m h row.from id d ∙ same)) (re.range_stays m.records one.records one_links shape
        made_range)).metas format.relationships_file refl).high;
  }
