-- A relationship that left the chains of its ends, as the rules ask of one that goes.
use Rattle.std.proofs.Common.{◌≡◌, ◌≢◌, ◌⊎◌, ℕ, ◌+◌, ◌-◌, ◌<◌, ◌^◌, nat_eq, true, not, ◌&&◌, cond, None, Some, List, []}
use Rattle.std.proofs.Common.{◌++◌, sym, ap, ◌∙◌, subst, inl, inr, ⊎_elim, arith, refl, ◌≤◌}
use Rattle.rec_bytes.specs.declared.key.Key.{Key}
use Rattle.rec_bytes.specs.declared.shape.Shape.{Shape}
use Rattle.rec_bytes.specs.Format as format
use Rattle.rec_bytes.specs.Record.{field, with_field}
use Rattle.rec_bytes.specs.Space.{State}
use Rattle.rec_bytes.proofs.Numbers.{field-lt}
use Rattle.store_rules.specs.Chains.{In, next_in, prev_in}
use Rattle.store_rules.specs.Ends.{IsEndHead, group_of_head}
use Rattle.store_rules.specs.Ranges.{AreInRange}
use Rattle.store_rules.specs.Rules.{AllListed, Head, IsEnd, IsInGroup, IsOn, IsWellFormed, Owns, StandsAt, first_of, stands_in}
use Rattle.store_rules.specs.Views.{Records, RelRow, degree, group_at, high, is_at, key_in, kind_at, rec_at, rel_at, rel_in, GroupRow}
use Rattle.store_rules.proofs.Changes as ch
use Rattle.store_rules.proofs.Counts.{ids_with}
use Rattle.store_rules.proofs.EdgeChange as ec
use Rattle.store_rules.proofs.EdgeGone.{IsEdgeGone}
use Rattle.store_rules.proofs.EdgeMade.{end_cases, no_row}
use Rattle.store_rules.proofs.FilledGroups.{group_head, in_place, owns_chain}
use Rattle.store_rules.proofs.Made.{IsGone}
use Rattle.store_rules.proofs.NumberLaws.{eq_false, eq_true, nat_cases}
use Rattle.store_rules.proofs.OnceLaws.{in_left, in_right}
use Rattle.store_rules.proofs.Relinks as re
use Rattle.store_rules.proofs.Relinks.{IsRelinked, owned_link, relinked_both}
use Rattle.store_rules.proofs.UsedKinds.{rel_kind}
use Rattle.store_rules.proofs.ViewLaws.{kind_below, some_row, kind_low}
use Rattle.chain_edit.specs.Chains.{Differ, next_of, prev_of}
use Rattle.chain_edit.specs.Heads.{IsPlace}
use Rattle.chain_edit.specs.Links.{IsRightLink}
use Rattle.rec_bytes.specs.declared.record.Rec.{Rec}
use Rattle.rec_bytes.proofs.Spaces.{put_other}
use Rattle.store_rules.proofs.CountLaws.{HasOneMore, counts_away}
use Rattle.store_rules.proofs.GroupLaws.{same_group}
use Rattle.chain_edit.specs.Unlinking.{CanUnlink, unlinked}
use Rattle.group_store.specs.Counting.{one_less, tallied}
use Rattle.group_store.proofs.HeadCounts.{less_here}
use Rattle.chain_edit.specs.Listed.{AreHeads, without_one}
use Rattle.chain_edit.proofs.AllPushed.{all_listed_same, all_listed_stays}
use Rattle.store_rules.proofs.ChainSteps.{on_test}
use Rattle.chain_edit.proofs.InRange.{right_next, right_prev}
use Rattle.store_rules.proofs.OneHead.{end_on, only_head}
use Rattle.chain_edit.proofs.OwnedHeads.{end_in, heads_differ, other_record, owned_heads, owner_kind}
use Rattle.edge_changes.specs.EdgeEnds.{parted}
use Rattle.edge_changes.proofs.EdgeLists.{next_used, parted_listed, prev_used}
use Rattle.edge_changes.proofs.EdgeSteps.{IsNode, number_unlinked, degree_parted, differ_stays, first_stays, links_parted, node_stays, record_parted}
use Rattle.edge_changes.proofs.EdgeSteps.{shape_parted}

some_same : (a b : RelRow) → Some a ≡ Some b → a ≡ b
some_same a b q = cc

-- a relationship that was taken out of the chains of its ends, by their numbers
abbrev pub both_parted : State → Head → Head → ℕ → ℕ → ℕ → ℕ → ℕ → State
both_parted s h k from to rel from_degree to_degree = cond (nat_eq from to) (parted s h from rel from_degree)
    (parted (parted s h from rel from_degree) k to rel to_degree)

-- and the groups of their heads
abbrev pub both_groups : Head → Head → ℕ → ℕ → List ℕ
both_groups h k from to = group_of_head h ++ cond (nat_eq from to) [] (group_of_head k ++ [])

-- all but one
abbrev pub But : (Head → ℕ → Type 0) → ℕ → Head → ℕ → Type 0
But at id h x = at h x × (x ≢ id)

-- A relationship in use without properties, and the heads that it stands at; a loop stands at one.
pub record IsLiveEdge (s : Records) (id : ℕ) (row : RelRow) (h k : Head) : Type 0 where
  pub live : rel_at s id ≡ Some row
  pub bare : row.property ≡ format.nil
  pub source : IsEndHead s h row.from row
  pub target : IsEndHead s k row.to row

module _ (s : State) (shape : Shape) (id : ℕ) (row : RelRow) (h k : Head) (edge : IsLiveEdge s.records id row h k) (store : IsWellFormed s.records shape)
    (d e : ℕ) (d_is : d ≡ degree s.records row.from - 1) (e_is : e ≡ degree s.records row.to - 1) where
  abbrev Own : Head → ℕ → Type 0
  Own = Owns (kind_at s.records format.nodes_file) (group_at s.records)

  abbrev At : Head → ℕ → Type 0
  At = StandsAt (rel_at s.records) (group_at s.records)

  -- one relationship stands at two heads by one row
  on_same : (a : Head) (x : ℕ) (r : RelRow) → rel_at s.records x ≡ Some r → (p : At a x) → IsOn (group_at s.records) a r
  on_same a x r is p = subst (IsOn (group_at s.records) a) (some_same p.row r (sym p.live ∙ is)) p.on

  meet : (a b : Head) (n m x : ℕ) → Own a n → Own b m → a ≢ b → At a x → At b x → Differ s.records m n x
  meet a b n m x o q ne p there =
      heads_differ s.records [] store.grouped b a m n p.row (rec_at s.records format.relationships_file x) q o (λ z. ne (sym z))
      (on_same b x p.row p.live there) p.on
      (λ end. end_in s.records x m p.row p.live end) (λ end. end_in s.records x n p.row p.live end)

  row_is : (kind_at s.records format.relationships_file id ≢ 0) × (rel_in (rec_at s.records format.relationships_file id) id ≡ row)
  row_is = some_row (kind_at s.records format.relationships_file id) (rel_in (rec_at s.records format.relationships_file id) id) row edge.live

  related_at : (a : Head) (x : ℕ) → At a x → kind_at s.records format.relationships_file x ≡ format.related
  related_at a x p = rel_kind s.records shape store.ranges x (some_row (kind_at s.records format.relationships_file x)
      (rel_in (rec_at s.records format.relationships_file x) x) p.row p.live).0

  related : kind_at s.records format.relationships_file id ≡ format.related
  related = rel_kind s.records shape store.ranges id row_is.0

  at_source : At h id
  at_source = record { row = row; live = edge.live; on = edge.source.on }

  at_target : At k id
  at_target = record { row = row; live = edge.live; on = edge.target.on }

  small_at : (n : ℕ) → degree s.records n - 1 < 2 ^ 32
  small_at n = let b = field-lt 4 (rec_at s.records format.nodes_file n) format.node_degree in omega arith

  d_small : d < 2 ^ 32
  d_small = let b = small_at row.from in omega arith

  e_small : e < 2 ^ 32
  e_small = let b = small_at row.to in omega arith

  heads : AreHeads Own
  heads = owned_heads (kind_at s.records format.nodes_file) (group_at s.records)

  place_at_source : IsPlace h
  place_at_source = heads.place h row.from edge.source.owns

  place_at_target : IsPlace k
  place_at_target = heads.place k row.to edge.target.owns

  node_at_source : IsNode s.records row.from
  node_at_source = owner_kind (kind_at s.records format.nodes_file) (group_at s.records) h row.from edge.source.owns

  node_at_target : IsNode s.records row.to
  node_at_target = owner_kind (kind_at s.records format.nodes_file) (group_at s.records) k row.to edge.target.owns

  -- ---- at the source
  one : State
  one = parted s h row.from id d

  one_listed : AllListed one.records Own (without_one At h id)
  unfolding one
  one_listed = parted_listed s (kind_at s.records format.nodes_file) (group_at s.records) At store.linked.listed h row.from id d edge.source.owns at_source
      (λ a n x o ne p there. meet a h n row.from x o edge.source.owns ne p there)

  one_links : IsRelinked s.records one.records
  unfolding one
  one_links = links_parted s h row.from id (owned_link s.records shape store.ranges h row.from edge.source.owns) place_at_source node_at_source related d
      d_small
      (prev_used s (kind_at s.records format.nodes_file) (group_at s.records) At store.linked.listed h row.from id d edge.source.owns at_source
      (λ x p. related_at h x p))
      (next_used s (kind_at s.records format.nodes_file) (group_at s.records) At store.linked.listed h row.from id d edge.source.owns at_source
      (λ x p. related_at h x p))

  -- ---- at the target
  two : State
  two = parted one k row.to id e

  still : row.from ≢ row.to → without_one At h id k id
  still differ = (at_target, λ q. absurd (differ (heads.one_node h row.from row.to edge.source.owns (subst (λ z. Own z row.to) q edge.target.owns))))

  one_related : (x : ℕ) → without_one At h id k x → kind_at one.records format.relationships_file x ≡ format.related
  one_related x p = re.kind_stays s.records one.records one_links format.relationships_file x ∙ related_at k x p.0

  two_listed : row.from ≢ row.to → AllListed two.records Own (without_one (without_one At h id) k id)
  unfolding two
  two_listed differ = parted_listed one (kind_at s.records format.nodes_file) (group_at s.records) (without_one At h id) one_listed k row.to id e
      edge.target.owns (still differ)
      (λ a n x o ne p there. differ_stays s.records one.records one_links row.to n x (meet a k n row.to x o edge.target.owns ne p.0 there.0))

  two_links : row.from ≢ row.to → IsRelinked s.records two.records
  unfolding two
  two_links differ = relinked_both s.records one.records two.records one_links (links_parted one k row.to id
      (first_stays s.records one.records one_links k (owned_link s.records shape store.ranges k row.to edge.target.owns)) place_at_target
      (node_stays s.records one.records one_links row.to node_at_target) (re.kind_stays s.records one.records one_links format.relationships_file id ∙ related)
      e e_small
      (prev_used one (kind_at s.records format.nodes_file) (group_at s.records) (without_one At h id) one_listed k row.to id e edge.target.owns (still differ)
      one_related)
      (next_used one (kind_at s.records format.nodes_file) (group_at s.records) (without_one At h id) one_listed k row.to id e edge.target.owns (still differ)
      one_related))

  -- it stood at its two heads alone
  heads_of : (a : Head) (n : ℕ) → Own a n → IsOn (group_at s.records) a row → (a ≡ h) ⊎ (a ≡ k)
  heads_of a n o on = ⊎_elim
      (λ (q : row.from ≡ n). inl (only_head s.records [] store.grouped a h n row o (subst (Own h) q edge.source.owns) on edge.source.on))
      (λ (q : row.to ≡ n). inr (only_head s.records [] store.grouped a k n row o (subst (Own k) q edge.target.owns) on edge.target.on))
      (end_on (kind_at s.records format.nodes_file) (group_at s.records) a n row o on)

  loop_head : row.from ≡ row.to → k ≡ h
  loop_head loop = only_head s.records [] store.grouped k h row.from row (subst (Own k) (sym loop) edge.target.owns) edge.source.owns edge.target.on
      edge.source.on

  ends_of : (a : Head) (n x : ℕ) → Own a n → x ≡ id → At a x → (a ≡ h) ⊎ (a ≡ k)
  ends_of a n x o q p = heads_of a n o (on_same a x row (ap (rel_at s.records) q ∙ edge.live) p)

  loop_listed : row.from ≡ row.to → AllListed one.records Own (But At id)
  loop_listed loop = all_listed_same one.records Own (without_one At h id) Own (But At id) (λ a n o. o)
      (λ a n x o p. (p.0, λ q. p.1 (⊎_elim (λ z. z) (λ z. z ∙ loop_head loop) (ends_of a n x o q p.0)) q)) (λ a n x o p. (p.0, λ _. p.1)) one_listed

  pair_listed : row.from ≢ row.to → AllListed two.records Own (But At id)
  pair_listed differ = all_listed_same two.records Own (without_one (without_one At h id) k id) Own (But At id) (λ a n o. o)
      (λ a n x o p. (p.0.0, λ q. ⊎_elim (λ z. p.0.1 z q) (λ z. p.1 z q) (ends_of a n x o q p.0.0))) (λ a n x o p. ((p.0, λ _. p.1), λ _. p.1))
      (two_listed differ)

  -- ---- degrees
  some_degree : (n : ℕ) → IsNode s.records n → is_at n row ≡ true → (degree s.records n - 1) + 1 ≡ degree s.records n
  some_degree n used end =
      let more = ids_with (λ x. not (nat_eq x id) && stands_in n (rel_at s.records x)) (λ x. stands_in n (rel_at s.records x))
      (high s.records format.relationships_file) (high s.records format.relationships_file) id
      (rw (eq_true id id refl) refl) (ap (stands_in n) edge.live ∙ end) (λ x ne. rw (eq_false x id ne) refl)
      (kind_below (high s.records format.relationships_file) (rec_at s.records format.relationships_file id) id row_is.0) (inl refl) in
      let deg = store.degrees.each n (λ z. ⊎_elim (λ q. let w = sym z ∙ q in omega arith) (λ q. let w = sym z ∙ q in omega arith) used) in
      omega arith

  at_some : (n : ℕ) → IsNode s.records n → IsEnd n row → (degree s.records n - 1) + 1 ≡ degree s.records n
  at_some n used end = end_cases n row (λ i at. some_degree n used at) (λ out at. absurd (out end))

  one_degree : degree one.records row.from + 1 ≡ degree s.records row.from
  unfolding one
  one_degree = ap (λ z. z + 1) (degree_parted s h row.from id d d_small ∙ d_is) ∙ at_some row.from node_at_source (inl refl)

  one_else : (n : ℕ) → n ≢ row.from → degree one.records n ≡ degree s.records n
  unfolding one
  one_else n ne = ap (λ r. field 4 r format.node_degree) (record_parted s h row.from id d (key_in format.nodes_file n) (λ q. omega arith)
      (other_record (kind_at s.records format.nodes_file) (group_at s.records) h row.from n edge.source.owns ne) (λ q. ne (ap (λ (z : Key). z.id) q)))

  two_degree : degree two.records row.to + 1 ≡ degree s.records row.to
  unfolding two
  two_degree = ap (λ z. z + 1) (degree_parted one k row.to id e e_small ∙ e_is) ∙ at_some row.to node_at_target (inr refl)

  two_else : (n : ℕ) → n ≢ row.to → degree two.records n ≡ degree one.records n
  unfolding two
  two_else n ne = ap (λ r. field 4 r format.node_degree) (record_parted one k row.to id e (key_in format.nodes_file n) (λ q. omega arith)
      (other_record (kind_at s.records format.nodes_file) (group_at s.records) k row.to n edge.target.owns ne) (λ q. ne (ap (λ (z : Key). z.id) q)))

  -- ---- the numbers of counted groups
  apart_key : (a : Head) (n g : ℕ) (group : GroupRow) → Own a n → group_at s.records g ≡ Some group → group.owner ≢ n → key_in format.groups_file g ≢ a.key
  apart_key a n g group (inl o) is ne q = let f = ap (λ (z : Key). z.file) (q ∙ ap (λ (z : Head). z.key) o.is) in omega arith
  apart_key a n g group (inr o) is ne q =
      ne (ap (λ (z : GroupRow). z.owner) (same_group group o.row (sym is ∙ ap (λ (z : Key). group_at s.records z.id) (q ∙ o.key) ∙ o.group)) ∙ o.owner)

  first_low : (a : Head) (n : ℕ) → Own a n → (8 ≤ a.field) × (a.field + 4 ≤ 32)
  first_low a n (inl o) = let q = ap (λ (z : Head). z.field) o.is in (omega arith, omega arith)
  first_low a n (inr o) = ⊎_elim (λ (q : a.field ≡ 20). (omega arith, omega arith))
      (λ z. ⊎_elim (λ (q : a.field ≡ 24). (omega arith, omega arith)) (λ (q : a.field ≡ 28). (omega arith, omega arith)) z) o.field

  module _ (g : ℕ) (group : GroupRow) (is : group_at s.records g ≡ Some group) (counted : kind_at s.records format.groups_file g ≡ format.counted) where
    byte_s : field 1 (rec_at s.records format.groups_file g) format.kind ≡ format.counted
    byte_s = sym (kind_low (high s.records format.groups_file) (rec_at s.records format.groups_file g) g (kind_below (high s.records format.groups_file)
        (rec_at s.records format.groups_file g) g (λ q. let z = sym q ∙ counted in omega arith))) ∙ counted

    step : (p : State) (a : Head) (n : ℕ) → IsEndHead s.records a n row → rec_at p.records format.groups_file g ≡ rec_at s.records format.groups_file g
        → group.owner ≡ n → (f : ℕ)
        → HasOneMore (rec_at (parted p a n id f).records format.groups_file g) (rec_at s.records format.groups_file g) group row
    unfolding parted
    step p a n end same own f =
        let low = first_low a n end.owns in
        subst (λ (r : Rec). HasOneMore r (rec_at s.records format.groups_file g) group row)
        (sym (put_other (tallied one_less (unlinked p a n id) a).records (key_in format.nodes_file n)
        (with_field 4 ((tallied one_less (unlinked p a n id) a).records (key_in format.nodes_file n)) format.node_degree f) (key_in format.groups_file g)
        (λ q. let w = ap (λ (z : Key). z.file) q in omega arith)))
        (less_here s.records shape store row a n end g group is counted (unlinked p a n id)
        (λ at w. number_unlinked p a n id (key_in format.groups_file g) 4 at (λ q. let z : 3 ≡ 2 = q in omega arith) (let b = w.1 in omega arith)
        (λ _. inr (let b = w.0 in let c = low.1 in omega arith)) ∙ ap (λ r. field 4 r at) same)
        (number_unlinked p a n id (key_in format.groups_file g) 1 format.kind (λ q. let z : 3 ≡ 2 = q in omega arith) (omega arith)
        (λ _. inl (let c = low.0 in omega arith)) ∙ ap (λ r. field 1 r format.kind) same ∙ byte_s) own id edge.live)

    away : (p : State) (a : Head) (n f : ℕ) → Own a n → group.owner ≢ n
        → rec_at (parted p a n id f).records format.groups_file g ≡ rec_at p.records format.groups_file g
    away p a n f o ne = record_parted p a n id f (key_in format.groups_file g) (λ q. let z : 3 ≡ 2 = q in omega arith) (apart_key a n g group o is ne)
        (λ q. let w = ap (λ (z : Key). z.file) q in omega arith)

    loop_counts : row.from ≡ row.to → HasOneMore (rec_at one.records format.groups_file g) (rec_at s.records format.groups_file g) group row
    unfolding one
    loop_counts loop = ⊎_elim (λ (own : group.owner ≡ row.from). step s h row.from edge.source refl own d)
        (λ (ne : group.owner ≢ row.from).
        let same = away s h row.from d edge.source.owns ne in
        counts_away (rec_at (parted s h row.from id d).records format.groups_file g) (rec_at s.records format.groups_file g) group row
        (λ at w. sym (ap (λ r. field 4 r at) same))
        (λ end. ⊎_elim (λ q. ne (sym q)) (λ q. ne (sym q ∙ sym loop)) end)) (nat_cases group.owner row.from)

    pair_counts : row.from ≢ row.to → HasOneMore (rec_at two.records format.groups_file g) (rec_at s.records format.groups_file g) group row
    unfolding two one
    pair_counts differ = ⊎_elim
        (λ (own : group.owner ≡ row.from).
        subst (λ (r : Rec). HasOneMore r (rec_at s.records format.groups_file g) group row)
        (sym (away (parted s h row.from id d) k row.to e edge.target.owns (λ q. differ (sym own ∙ q)))) (step s h row.from edge.source refl own d))
        (λ (ne : group.owner ≢ row.from).
        let one_same = away s h row.from d edge.source.owns ne in
        ⊎_elim (λ (own : group.owner ≡ row.to). step (parted s h row.from id d) k row.to edge.target one_same own e)
        (λ (no : group.owner ≢ row.to).
        let same = away (parted s h row.from id d) k row.to e edge.target.owns no ∙ one_same in
        counts_away (rec_at (parted (parted s h row.from id d) k row.to id e).records format.groups_file g) (rec_at s.records format.groups_file g) group row
        (λ at w. sym (ap (λ r. field 4 r at) same))
        (λ end. ⊎_elim (λ q. ne (sym q)) (λ q. no (sym q)) end)) (nat_cases group.owner row.to)) (nat_cases group.owner row.from)

  -- ---- given back
  pub record HasParted (u : Records) : Type 0 where
    pub links : IsRelinked s.records u
    pub listed : AllListed u Own (But At id)
    pub less : (n : ℕ) → IsEnd n row → degree u n + 1 ≡ degree s.records n
    pub as_before : (n : ℕ) → ¬ IsEnd n row → degree u n ≡ degree s.records n
    pub counts : (g : ℕ) (group : GroupRow) → group_at s.records g ≡ Some group → kind_at s.records format.groups_file g ≡ format.counted
        → HasOneMore (rec_at u format.groups_file g) (rec_at s.records format.groups_file g) group row

  loop_parted : row.from ≡ row.to → HasParted one.records
  loop_parted loop = record {
    links = one_links;
    listed = loop_listed loop;
    less = λ n end. let same : row.from ≡ n = ⊎_elim (λ z. z) (λ z. loop ∙ z) end in subst (λ z. degree one.records z + 1 ≡ degree s.records z) same one_degree;
    as_before = λ n out. one_else n (λ q. out (inl (sym q)));
    counts = λ g group is counted. loop_counts g group is counted loop;
  }

  pair_parted : row.from ≢ row.to → HasParted two.records
  pair_parted differ = record {
    links = two_links differ;
    listed = pair_listed differ;
    less = λ n end. ⊎_elim
        (λ (q : row.from ≡ n). subst (λ z. degree two.records z + 1 ≡ degree s.records z) q (ap (λ z. z + 1) (two_else row.from differ) ∙ one_degree))
        (λ (q : row.to ≡ n). subst (λ z. degree two.records z + 1 ≡ degree s.records z) q two_degree) end;
    as_before = λ n out. two_else n (λ q. out (inr (sym q))) ∙ one_else n (λ q. out (inl (sym q)));
    counts = λ g group is counted. pair_counts g group is counted differ;
  }

  pub edge_parted : HasParted (both_parted s h k row.from row.to id d e).records
  unfolding one two
  edge_parted = on_test (λ (u : State). HasParted u.records) row.from row.to (parted s h row.from id d) (parted (parted s h row.from id d) k row.to id e)
      loop_parted pair_parted

  -- the groups that it stood in are those of its heads
  of_head : (g at : ℕ) (a : Head) → group_head g at ≡ a → In g (group_of_head a)
  of_head g at a q = subst (λ z. In g (group_of_head z)) q (inl refl)

  of_heads : (g at : ℕ) → (group_head g at ≡ h) ⊎ (group_head g at ≡ k) → In g (both_groups h k row.from row.to)
  of_heads g at either = ⊎_elim
      (λ (loop : row.from ≡ row.to). in_left g (group_of_head h) _ (of_head g at h (⊎_elim (λ z. z) (λ z. z ∙ loop_head loop) either)))
      (λ (differ : row.from ≢ row.to). ⊎_elim (λ z. in_left g (group_of_head h) _ (of_head g at h z))
      (λ z. in_right g (group_of_head h) _ (rw (eq_false row.from row.to differ) (in_left g (group_of_head k) [] (of_head g at k z)))) either)
      (nat_cases row.from row.to)

  left_groups : (g at : ℕ) → IsInGroup (group_at s.records) (group_head g at) row → In g (both_groups h k row.from row.to)
  left_groups g at i =
      let o = owns_chain s.records store.grouped g i.row i.group at (in_place (group_at s.records) (group_head g at) row i) in
      of_heads g at (heads_of (group_head g at) i.row.owner (inr o) (inr (refl, i)))

  -- the relationship as the rules ask of one that went
  pub edge_left : (u t : Records) → HasParted u → IsGone u t shape format.relationships_file id
      → IsEdgeGone s.records u t shape id row [] (both_groups h k row.from row.to)
  edge_left u t parts gone = record {
    links = parts.links;
    gone = gone;
    live = edge.live;
    bare = edge.bare;
    listed = all_listed_same t Own (But At id) Own (StandsAt (rel_at t) (group_at s.records)) (λ a n o. o)
        (λ a n x o p. record { row = p.0.row; live = rel_other x p.1 ∙ p.0.live; on = p.0.on })
        (λ a n x o (p : StandsAt (rel_at t) (group_at s.records) a x). let ne = other x p.row p.live in (
          record {
            row = p.row;
            live = sym (rel_other x ne)
                ∙ p.live;
            on = p.on;
          },
          ne,
        ))
        (all_listed_stays u t Own (But At id) (λ a n x o p. ap (λ r. next_in r n) (rec_other x p.1)) (λ a n x o p. ap (λ r. prev_in r n) (rec_other x p.1))
        first_same parts.listed);
    out_of = left_groups;
    still = λ g i. absurd i;
    less = λ n end. ap (λ r. field 4 r format.node_degree + 1) (node_same n) ∙ parts.less n end;
    as_before = λ n out. ap (λ r. field 4 r format.node_degree) (node_same n) ∙ parts.as_before n out;
    counts = λ g group is counted. subst (λ (r : Rec). HasOneMore r (rec_at s.records format.groups_file g) group row) (sym (group_same g))
        (parts.counts g group is counted);
  }
    where
      rel_other : (x : ℕ) → x ≢ id → rel_at t x ≡ rel_at s.records x
      rel_other x ne = ec.rels_changed u t id gone.change x ne ∙ ec.rels_relinked s.records u parts.links x

      other : (x : ℕ) (r : RelRow) → rel_at t x ≡ Some r → x ≢ id
      other x r q same = absurd (let z : None ≡ Some r = sym (no_row t id gone.gone) ∙ ap (rel_at t) (sym same) ∙ q in cc)

      rec_other : (x : ℕ) → x ≢ id → rec_at t format.relationships_file x ≡ rec_at u format.relationships_file x
      rec_other x ne = ch.other_record u t format.relationships_file id gone.change format.relationships_file x refl (λ _. ne)

      node_same : (n : ℕ) → rec_at t format.nodes_file n ≡ rec_at u format.nodes_file n
      node_same n = ch.other_record u t format.relationships_file id gone.change format.nodes_file n refl (λ q. absurd (let z : 1 ≡ 2 = q in omega arith))

      group_same : (g : ℕ) → rec_at t format.groups_file g ≡ rec_at u format.groups_file g
      group_same g = ch.other_record u t format.relationships_file id gone.change format.groups_file g refl (λ q. absurd (let z : 3 ≡ 2 = q in omega arith))

      first_same : (a : Head) (n : ℕ) → Own a n → first_of t a ≡ first_of u a
      first_same a n (inl o) = ap (first_of t) o.is ∙ ap (λ r. field 4 r format.node_first_link) (node_same n) ∙ sym (ap (first_of u) o.is)
      first_same a n (inr o) = ap (λ z. field 4 (t z) a.field) o.key ∙ ap (λ r. field 4 r a.field) (group_same o.row.id)
          ∙ sym (ap (λ z. field 4 (u z) a.field) o.key)

  -- ---- the links that are read
  pub from_prev : s.shape ≡ shape → IsRightLink s (prev_of s.records row.from id)
  from_prev same = right_prev s (subst (AreInRange s.records) (sym same) store.ranges) id row.from row_is.0

  pub from_next : s.shape ≡ shape → IsRightLink s (next_of s.records row.from id)
  from_next same = right_next s (subst (AreInRange s.records) (sym same) store.ranges) id row.from row_is.0

  pub from_chain : (xs : List ℕ) × CanUnlink s.records h row.from id xs
  from_chain = let l = store.linked.listed.each h row.from edge.source.owns in (l.members, record { chain = l.chain; member = l.all id at_source })

  pub to_chain : row.from ≢ row.to → (xs : List ℕ) × CanUnlink (parted s h row.from id d).records k row.to id xs
  unfolding one
  to_chain differ = let l = one_listed.each k row.to edge.target.owns in (l.members, record { chain = l.chain; member = l.all id (still differ) })

  one_ranges : s.shape ≡ shape → AreInRange one.records one.shape
  unfolding one
  one_ranges same = subst (AreInRange one.records) (sym (shape_parted s h row.from id d ∙ same))
      (re.range_stays s.records one.records one_links shape store.ranges)

  one_live : kind_at one.records format.relationships_file id ≢ 0
  one_live z = row_is.0 (sym (re.kind_stays s.records one.records one_links format.relationships_file id) ∙ z)

  pub to_prev : s.shape ≡ shape → IsRightLink (parted s h row.from id d) (prev_of (parted s h row.from id d).records row.to id)
  unfolding one
  to_prev same = right_prev one (one_ranges same) id row.to one_live

  pub to_next : s.shape ≡ shape → IsRightLink (parted s h row.from id d) (next_of (parted s h row.from id d).records row.to id)
  unfolding one
  to_next same = right_next one (one_ranges same) id row.to one_live
