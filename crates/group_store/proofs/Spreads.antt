-- The relationships of a node that come into its groups, one after another.
use Rattle.std.proofs.Common.{◌≡◌, ◌≢◌, ◌⊎◌, ℕ, ◌+◌, ◌≤◌, nat_lt, Bool, true, false, cond, ◌&&◌, Option, None, Some}
use Rattle.std.proofs.Common.{Err, List, [], ◌∷◌, ◌++◌, length, sym, ap, ◌∙◌, subst, inl, inr, ⊎_elim, arith, refl}
use Rattle.rec_bytes.specs.declared.key.Key.{Key}
use Rattle.rec_bytes.specs.declared.meta.Meta.{Meta}
use Rattle.rec_bytes.specs.declared.record.Rec.{Rec}
use Rattle.rec_bytes.specs.declared.shape.Shape.{Shape}
use Rattle.rec_bytes.specs.Format as format
use Rattle.rec_bytes.specs.RowFault as rows
use Rattle.rec_bytes.specs.declared.row_fault.RowFault.{RowFault}
use Rattle.rec_bytes.specs.declared.row_fault.RowFault.TheVariants as rows_fault
use Rattle.rec_bytes.specs.RecordFiles.{room_of}
use Rattle.rec_bytes.specs.Space.{IsAmong, SameButReads, State, WritesOnly, after_get, meta_of}
use Rattle.rec_bytes.proofs.Spaces.{writes_more, writes_then}
use Rattle.rel_store.specs.declared.rel_row.RelRow.{RelRow}
use Rattle.rel_store.specs.Loading as loading
use Rattle.rel_store.specs.RelRecord.{row_of}
use Rattle.rel_store.proofs.Rows.{kind-row_at-Some, rel_at-None, rel_at-Some, rule_row}
use Rattle.store_rules.specs.Chains.{In, IsWalk, next_in}
use Rattle.store_rules.specs.Ends.{Regroups}
use Rattle.store_rules.specs.Rules.{Head, IsEnd, KeepsRules, first_of}
use Rattle.store_rules.specs.Views as views
use Rattle.store_rules.specs.Views.{degree, first_link, group_at, group_in, kind_at, rec_at, rel_at}
use Rattle.store_rules.proofs.ChainLaws.{head_once}
use Rattle.chain_edit.specs.Chains.{next_of}
use Rattle.chain_edit.specs.Links.{IsRightLink, prev_set}
use Rattle.chain_edit.specs.Pushing.{pushed}
use Rattle.node_store.specs.declared.node_row.NodeRow.{NodeRow}
use Rattle.node_store.specs.Loading as nodes
use Rattle.node_store.proofs.Rows.{kind-row_at-Some as node_row}
use Rattle.group_store.specs.Densing.{BecomesDense, CanBecomeDense, HasDenseRoom}
use Rattle.group_store.specs.declared.moved.Turn.{Turn}
use Rattle.group_store.specs.GroupChain.{IsDense, IsGroupOf}
use Rattle.rec_bytes.specs.Fault.{of_row}
use Rattle.group_store.specs.Moving.{HasCome, IsOwnTurn}
use Rattle.group_store.specs.Sides.{group_head, side_at}
use Rattle.group_store.specs.Spreading.{AreExactBut, HasCountedGroups, HasEndRoom, HasOpened, IsSpread, KeepsBut, cleared}
use Rattle.group_store.proofs.Clearing.{at_node, few_left, leaves_cleared, regroups_cleared, rest, spread_cleared}
use Rattle.group_store.proofs.GroupCounts.{fewer_groups}
use Rattle.group_store.proofs.GroupRules.{row_of_group}
use Rattle.group_store.proofs.GroupWalks.{IsUndamaged}
use Rattle.group_store.proofs.Moves.{counted_joined, first_right, leaves_joined, regroups_joined, spread_joined}
use Rattle.group_store.specs.Counting.{one_more, tallied}
use Rattle.group_store.proofs.CountedRels.{exact_all}
use Rattle.group_store.proofs.Opens.{but_all}
use Rattle.group_store.proofs.OwnGroups.{keeps_then, writes_after}
use Rattle.group_store.specs.Leaving.{LeavesOthers}
use Rattle.group_store.proofs.Leaves.{leaves_both, leaves_read}
use Rattle.group_store.proofs.Regrouping.{regroups_both, regroups_read}
use Rattle.group_store.proofs.Seeks.{dense_is}

-- a load reads at most
pub only_loads : (s l : State) (rel : ℕ) → l ≡ loading.after_load s rel → SameButReads s l
only_loads s l rel = by (nat_lt rel (loading.rel_mark s) && nat_lt rel (loading.rel_room s))
  where
    by : (b : Bool) → l ≡ cond b (after_get s) s → SameButReads s l
    by true e = subst (SameButReads s) (sym e) refl
    by false e = subst (SameButReads s) (sym e) refl

inner : (a b : views.RelRow) → Some a ≡ Some b → a ≡ b
inner a b e = cc

-- the node has a group for the relationship, which is not in it yet
pub record IsMoving (m : State) (node rel g : ℕ) (row : views.RelRow) (rest : List ℕ) (most : ℕ) (empty : List ℕ) : Type 0 where
  pub keeps : KeepsBut m.records m.shape node (rel ∷ rest) most (g ∷ empty)
  pub dense : kind_at m.records format.nodes_file node ≡ format.dense
  pub live : rel_at m.records rel ≡ Some row
  pub end : IsEnd node row
  pub group : group_at m.records g ≡ Some (record { id = g; label = row.label; owner = node })
  pub out : ¬ In rel rest
  pub left : (x : ℕ) → In x rest → (q : views.RelRow) × (rel_at m.records x ≡ Some q) × IsEnd node q
  pub exact : AreExactBut m.records node (rel ∷ rest)
  pub counted : HasCountedGroups m.records node

-- the group was found or made after a load, told by the space as it was
module _ (s l m : State) (node rel : ℕ) (row : RelRow) (g : ℕ) (same : SameButReads s l) (is : Some row ≡ loading.row_at s.records rel)
    (opens : (rest : List ℕ) (most : ℕ) (empty : List ℕ) → KeepsBut l.records l.shape node rest most empty → IsDense l.records node → KeepsBut m.records m.shape
    node rest most (g ∷ empty) × HasOpened l m node row.label g rest)
    (rest : List ℕ) (most : ℕ) (empty : List ℕ) (spread : IsSpread s node rel (rel ∷ rest) most empty) where
  pub opened : KeepsBut m.records m.shape node (rel ∷ rest) most (g ∷ empty) × HasOpened l m node row.label g (rel ∷ rest)
  opened = opens (rel ∷ rest) most empty (keeps_then s l node (rel ∷ rest) most empty same spread.keeps)
      (subst (λ (q : State). IsDense q.records node) (sym same) spread.dense)

  pub to_m : Regroups s m node
  to_m = regroups_both s l m node (subst (λ (q : State). Regroups s q node) (sym same) (regroups_read s l.reads node)) opened.1.regroups

  leaves_m : LeavesOthers s m node
  leaves_m = leaves_both s l m node (subst (λ (q : State). Regroups s q node) (sym same) (regroups_read s l.reads node)) (leaves_read s l node same)
      opened.1.leaves

  pub live_row : rel_at s.records rel ≡ Some (rule_row row)
  live_row = rel_at-Some s.records rel row (sym is)

  pub moving : IsMoving m node rel g (rule_row row) rest most empty
  moving = record {
    keeps = opened.0;
    dense = opened.1.dense;
    live = to_m.rels rel ∙ live_row;
    end = let found = spread.ends rel (inl refl) in subst (IsEnd node) (inner found.0 (rule_row row) (sym found.1 ∙ live_row)) found.2;
    group = opened.1.group;
    out = head_once (next_of s.records node) rel rest spread.walk.1 spread.walk.2;
    left = λ x i. let k = spread.ends x (inr i) in (k.0, to_m.rels x ∙ k.1, k.2);
    exact = opened.1.exact (subst (λ (q : State). AreExactBut q.records node (rel ∷ rest)) (sym same) spread.exact);
    counted = opened.1.counted (subst (λ (q : State). HasCountedGroups q.records node) (sym same) spread.counted);
  }

  -- a push at its head finds a right link
  pub push_right : (t : State) (h : Head) → t ≡ prev_set m node rel format.nil → h ≡ group_head g (side_at node row.from row.to)
      → IsRightLink t (first_of t.records h)
  push_right t h freed head =
      subst (λ (q : Head). IsRightLink t (first_of t.records q)) (sym head)
      (subst (λ (q : State). IsRightLink q (first_of q.records (group_head g (side_at node row.from row.to)))) (sym freed)
      (first_right m node rel g (rule_row row) rest most empty moving.keeps moving.dense moving.live moving.end moving.group moving.out moving.left))

  -- it is moved
  pub moved : (t end : State) (next : ℕ) (h : Head) → t ≡ prev_set m node rel format.nil → h ≡ group_head g (side_at node row.from row.to)
      → end ≡ tallied one_more (pushed t h node rel) h → ((rec : Rec) → row ≡ row_of rec row.id → next ≡ next_in rec node)
      → IsSpread end node next rest most empty × Regroups s end node × LeavesOthers s end node
  moved t end next h freed head put links =
      let recs : (x : ℕ) → rec_at m.records format.relationships_file x ≡ rec_at s.records format.relationships_file x = λ x. opened.1.rels x
      ∙ ap (λ (q : State). rec_at q.records format.relationships_file x) same in
      let nexts : next_of s.records node ≡ next_of m.records node = λ i x. next_in (sym (recs x) i) node in
      let rec = rec_at s.records format.relationships_file rel in
      let row_is : row_of rec rel ≡ row = (kind-row_at-Some s.records rel row (sym is)).1 in
      let next_is : next ≡ next_of s.records node rel = links rec (sym row_is ∙ ap (row_of rec) (ap (λ (q : RelRow). q.id) row_is)) in
      let walk : IsWalk (next_of m.records node) next rest = subst (λ (f : ℕ → ℕ). IsWalk f next rest) nexts
      (subst (λ z. IsWalk (next_of s.records node) z rest) (sym next_is) spread.walk.2) in
      let side = side_at node row.from row.to in
      let end_of : counted_joined m (group_head g side) node rel ≡ end =
      sym (put ∙ ap (λ (q : State). tallied one_more (pushed q h node rel) h) freed ∙ ap (λ (q : Head). tallied one_more
      (pushed (prev_set m node rel format.nil) q node rel) q) head) in (
        subst (λ (q : State). IsSpread q node next rest most empty) end_of
            (spread_joined m node rel g (rule_row row) rest most empty moving.keeps moving.dense moving.live moving.end moving.group moving.out moving.left
            moving.exact moving.counted next walk),
        regroups_both s m end node to_m
            (subst (λ (q : State). Regroups m q node) end_of (regroups_joined m node rel g (rule_row row) rest most empty moving.keeps moving.dense moving.live
            moving.end moving.group moving.out moving.left moving.exact moving.counted)),
        leaves_both s m end node to_m leaves_m
            (subst (λ (q : State). LeavesOthers m q node) end_of (leaves_joined m node rel g (rule_row row) rest most empty moving.keeps moving.dense
            moving.live moving.end moving.group moving.out moving.left moving.exact moving.counted)),
      )

-- there is room for another group
pub has_room : (s l : State) (node rel : ℕ) (rest : List ℕ) (most : ℕ) (empty : List ℕ) → SameButReads s l → IsSpread s node rel (rel ∷ rest) most empty
    → HasEndRoom s empty
    → (meta_of l format.groups_file).live ≢ room_of l.shape format.groups_file
has_room s l node rel rest most empty same spread room = subst (λ (q : State). (meta_of q format.groups_file).live ≢ room_of q.shape format.groups_file)
    (sym same)
    (λ full. let found = spread.ends rel (inl refl) in let lt = fewer_groups s.records s.shape node (rel ∷ rest) most empty spread.keeps rel found.0 (inl refl)
    found.1 found.2 in omega arith)

-- ---- no damage is told

pub row_sound : (fault : RowFault) → rows.NotDamaged {T = Option RelRow} (Err fault) → IsUndamaged (of_row fault)
row_sound rows_fault.Disk h = tt
row_sound (rows_fault.Damaged damage) h = h

-- a relationship that is left is there
pub rel_there : (s : State) (node rel : ℕ) (rest : List ℕ) (most : ℕ) (empty : List ℕ) → IsSpread s node rel (rel ∷ rest) most empty
    → loading.row_at s.records rel ≢ None
rel_there s node rel rest most empty spread none = let found = spread.ends rel (inl refl) in
    absurd (let z : None ≡ Some found.0 = sym (rel_at-None s.records rel none) ∙ found.1 in cc)

-- ---- what is written

module _ (s l m t end : State) (same : SameButReads s l) (r k g f n q : Key) (made : WritesOnly l m (g ∷ f ∷ n ∷ q ∷ [])) (freed : WritesOnly m t (r ∷ []))
  where
    two : WritesOnly s t (g ∷ f ∷ n ∷ q ∷ r ∷ [])
    two = writes_then s m t (g ∷ f ∷ n ∷ q ∷ []) (r ∷ []) (writes_after s l m (g ∷ f ∷ n ∷ q ∷ []) same made) freed

    among : (z : Key) → IsAmong z (g ∷ f ∷ n ∷ q ∷ r ∷ []) → IsAmong z (r ∷ k ∷ g ∷ f ∷ n ∷ q ∷ [])
    among z (inl e) = inr (inr (inl e))
    among z (inr (inl e)) = inr (inr (inr (inl e)))
    among z (inr (inr (inl e))) = inr (inr (inr (inr (inl e))))
    among z (inr (inr (inr (inl e)))) = inr (inr (inr (inr (inr (inl e)))))
    among z (inr (inr (inr (inr (inl e))))) = inl e
    among z (inr (inr (inr (inr (inr e))))) = elim e [ ]

    pub writes_freed : WritesOnly s t (r ∷ k ∷ g ∷ f ∷ n ∷ q ∷ [])
    writes_freed = writes_more s t (g ∷ f ∷ n ∷ q ∷ r ∷ []) (r ∷ k ∷ g ∷ f ∷ n ∷ q ∷ []) among two

    pub writes_pushed : WritesOnly t end (k ∷ r ∷ g ∷ []) → WritesOnly s end (r ∷ k ∷ g ∷ f ∷ n ∷ q ∷ [])
    writes_pushed push = record { each = λ z w. ⊎_elim (λ a. writes_freed.each z a) (λ i. inr (late z i)) (push.each z w) }
      where
        late : (z : Key) → IsAmong z (k ∷ r ∷ g ∷ []) → IsAmong z (r ∷ k ∷ g ∷ f ∷ n ∷ q ∷ [])
        late z (inl e) = inr (inl e)
        late z (inr (inl e)) = inl e
        late z (inr (inr (inl e))) = inr (inr (inl e))
        late z (inr (inr (inr e))) = elim e [ ]

-- ---- those that are left

-- The node's relationships from this one on are left, and so many were moved. Each is left or among
-- those that came, and each group of the node is among these.
pub record HasLeft (s now : State) (node at count most : ℕ) (empty came groups : List ℕ) : Type 0 where
  pub rest : List ℕ
  pub spread : IsSpread now node at rest most empty
  pub regroups : Regroups s now node
  pub leaves : LeavesOthers s now node
  pub few : length rest + count ≤ degree s.records node
  pub rels : (x : ℕ) (row : views.RelRow) → rel_at s.records x ≡ Some row → IsEnd node row → In x rest ⊎ In x came
  pub owned : (g : ℕ) → IsGroupOf now.records node g → In g groups
  pub no_rel : In format.nil came
  pub no_group : In format.nil groups

-- a sparse node has no group
none_owned : (s : State) (node most : ℕ) (empty : List ℕ) → KeepsRules s.records s.shape most empty → kind_at s.records format.nodes_file node ≡ format.sparse
    → (g : ℕ) → IsGroupOf (cleared s node).records node g → ⊥
none_owned s node most empty keeps sparse g is =
    let dense = keeps.grouped.owned g (group_in (rec_at s.records format.groups_file g) g)
    (row_of_group s.records node g (record { kind = is.kind; owner = is.owner })) in
    let z = sym (ap (kind_at s.records format.nodes_file) is.owner ∙ sparse) ∙ dense in omega arith

pub left_all : (s l t : State) (node : ℕ) (row : NodeRow) (most : ℕ) (empty came groups : List ℕ) → SameButReads s l → Some row ≡ nodes.row_at s.records node
    → t ≡ cleared l node → came ≡ format.nil ∷ [] → groups ≡ format.nil ∷ [] → CanBecomeDense s node most empty
    → HasLeft s t node row.first 0 most empty came groups
left_all s l t node row most empty came groups same is clear came_is groups_is can =
    let keeps : KeepsRules l.records l.shape most empty = subst (λ (q : State). KeepsRules q.records q.shape most empty) (sym same) can.keeps in
    let sparse : kind_at l.records format.nodes_file node ≡ format.sparse =
    subst (λ (q : State). kind_at q.records format.nodes_file node ≡ format.sparse) (sym same) can.sparse in
    let first : first_link l.records node ≡ row.first = ap (λ (q : State). first_link q.records node) same
    ∙ sym (ap (λ (q : NodeRow). q.first) (node_row s.records node row (sym is)).1) in
    let to_l : Regroups s l node = subst (λ (q : State). Regroups s q node) (sym same) (regroups_read s l.reads node) in
    record {
      rest = rest l node most empty keeps sparse;
      spread = subst (λ (q : State). IsSpread q node row.first (rest l node most empty keeps sparse) most empty) (sym clear)
          (subst (λ f. IsSpread (cleared l node) node f (rest l node most empty keeps sparse) most empty) first (spread_cleared l node most empty keeps
          sparse));
      regroups = regroups_both s l t node to_l (subst (λ (q : State). Regroups l q node) (sym clear) (regroups_cleared l node most empty keeps sparse));
      leaves = leaves_both s l t node to_l (leaves_read s l node same) (subst (λ (q : State). LeavesOthers l q node) (sym clear)
          (leaves_cleared l node most empty keeps sparse));
      few = let le = few_left l node most empty keeps sparse in let e = to_l.degrees node in omega arith;
      rels = λ x q live end. inl (at_node l node most empty keeps sparse x q (to_l.rels x ∙ live) end);
      owned = λ g i. absurd (none_owned l node most empty keeps sparse g (subst (λ (q : State). IsGroupOf q.records node g) clear i));
      no_rel = subst (λ xs. In format.nil xs) (sym came_is) (inl refl);
      no_group = subst (λ xs. In format.nil xs) (sym groups_is) (inl refl);
    }

-- one more moved, and among the identifiers
pub in_last : (x : ℕ) (xs : List ℕ) → In x (xs ++ x ∷ [])
in_last x [] = inl refl
in_last x (y ∷ ys) = inr (in_last x ys)

pub in_before : (x y : ℕ) (xs : List ℕ) → In x xs → In x (xs ++ y ∷ [])
in_before x y [] i = elim i [ ]
in_before x y (z ∷ zs) i = ⊎_elim inl (λ j. inr (in_before x y zs j)) i

-- the relationship that is moved, and what the turn says of it
module _ (s now end : State) (node at count most : ℕ) (empty came groups : List ℕ) (turn : Turn) (there : at ≢ format.nil)
    (own : (rest : List ℕ) (most : ℕ) (empty : List ℕ) → IsSpread now node at (at ∷ rest) most empty → IsOwnTurn now end node (at ∷ rest) turn)
    (left : HasLeft s now node at count most empty came groups) where
  pub left_next : (xs ys : List ℕ) → xs ≡ came ++ at ∷ [] → ys ≡ groups ++ turn.group ∷ []
      → ((rest : List ℕ) (most : ℕ) (empty : List ℕ) → IsSpread now node at (at ∷ rest) most empty → IsSpread end node turn.next rest most empty × Regroups now
      end node × LeavesOthers now end node)
      → HasLeft s end node turn.next (count + 1) most empty xs ys
  left_next xs ys xs_is ys_is move = by left.rest left.spread left.few left.rels
    where
      by : (later : List ℕ) → IsSpread now node at later most empty → length later + count ≤ degree s.records node
          → ((x : ℕ) (row : views.RelRow) → rel_at s.records x ≡ Some row → IsEnd node row → In x later ⊎ In x came)
          → HasLeft s end node turn.next (count + 1) most empty xs ys
      by [] spread few rels = absurd (there spread.walk)
      by (x ∷ later) spread few rels =
          let here = subst (λ z. IsSpread now node at (z ∷ later) most empty) (sym spread.walk.0) spread in
          let one = move later most empty here in
          let turned = own later most empty here in
          record {
            rest = later;
            spread = one.0;
            regroups = regroups_both s now end node left.regroups one.1;
            leaves = leaves_both s now end node left.regroups left.leaves one.2;
            few = omega arith;
            rels = λ y row live at_end. subst (λ zs. In y later ⊎ In y zs) (sym xs_is)
                (⊎_elim (λ i. ⊎_elim (λ e. inr (subst (λ z. In z (came ++ at ∷ [])) (spread.walk.0 ∙ sym e) (in_last at came))) inl i)
                (λ i. inr (in_before y at came i)) (rels y row live at_end));
            owned = λ g i. subst (λ zs. In g zs) (sym ys_is)
                (⊎_elim (λ e. subst (λ z. In z (groups ++ turn.group ∷ [])) (sym e) (in_last turn.group groups)) (λ k. in_before g turn.group groups
                (left.owned g k)) (turned.grows.groups g i));
            no_rel = subst (λ zs. In format.nil zs) (sym xs_is) (in_before format.nil at came left.no_rel);
            no_group = subst (λ zs. In format.nil zs) (sym ys_is) (in_before format.nil turn.group groups left.no_group);
          }

  -- what stood first came there, or is none
  pub turn_known : In turn.first came × In turn.before groups
  turn_known = by left.rest left.spread left.rels
    where
      by : (later : List ℕ) → IsSpread now node at later most empty → ((x : ℕ) (row : views.RelRow) → rel_at s.records x ≡ Some row → IsEnd node row
          → In x later ⊎ In x came) → In turn.first came × In turn.before groups
      by [] spread rels = absurd (there spread.walk)
      by (x ∷ later) spread rels =
          let turned = own later most empty (subst (λ z. IsSpread now node at (z ∷ later) most empty) (sym spread.walk.0) spread) in (
            ⊎_elim (λ e. subst (λ z. In z came) (sym e) left.no_rel)
                (λ (k : HasCome now.records node (at ∷ later) turn.first). ⊎_elim (λ i. absurd (k.apart (⊎_elim (λ e. inl (e ∙ sym spread.walk.0)) inr i)))
                (λ i. i)
                (rels turn.first k.row (sym (left.regroups.rels turn.first) ∙ k.live) k.end)) turned.first,
            ⊎_elim (λ e. subst (λ z. In z groups) (sym e) left.no_group) (λ k. left.owned turn.before k) turned.grows.first,
          )

pub left_none : (s now : State) (node at count most : ℕ) (empty came groups : List ℕ) → at ≡ format.nil → HasLeft s now node at count most empty came groups
    → BecomesDense s now node most empty
left_none s now node at count most empty came groups none left = by left.rest left.spread
  where
    by : (later : List ℕ) → IsSpread now node at later most empty → BecomesDense s now node most empty
    by [] spread = record {
      keeps = but_all now.records now.shape node most empty spread.keeps (exact_all now.records node spread.exact);
      dense = spread.dense;
      counted = spread.counted;
      regroups = left.regroups;
      leaves = left.leaves;
    }
    by (x ∷ later) spread = absurd (spread.walk.1 (sym spread.walk.0 ∙ none))

-- where some are left the next one is the first of them
pub left_first : {P : Type 0} (s now : State) (node at count most threshold : ℕ) (empty came groups : List ℕ) → at ≢ format.nil
    → HasLeft s now node at count most empty came groups → HasDenseRoom s node threshold empty
    → ((rest : List ℕ) (most : ℕ) (empty : List ℕ) → IsSpread now node at (at ∷ rest) most empty → HasEndRoom now empty → P) → P
left_first {P} s now node at count most threshold empty came groups there left room found = by left.rest left.spread
  where
    end_room : HasEndRoom now empty
    end_room =
        let live : (meta_of now format.relationships_file).live ≡ (meta_of s format.relationships_file).live =
        ap (λ (m : Meta). m.live) (left.regroups.metas format.relationships_file (λ e. omega arith)) in
        let most : room_of now.shape format.groups_file ≡ room_of s.shape format.groups_file =
        ap (λ (q : Shape). room_of q format.groups_file) left.regroups.shape in
        let le = room.room in omega arith

    by : (later : List ℕ) → IsSpread now node at later most empty → P
    by [] spread = absurd (there spread.walk)
    by (x ∷ later) spread = found later most empty (subst (λ z. IsSpread now node at (z ∷ later) most empty) (sym spread.walk.0) spread) end_room

-- none is left once as many were moved as the degree says
pub none_over : (s now : State) (node at count most : ℕ) (empty came groups : List ℕ) → at ≢ format.nil → HasLeft s now node at count most empty came groups
    → degree s.records node ≤ count → ⊥
none_over s now node at count most empty came groups there left all = by left.rest left.spread left.few
  where
    by : (later : List ℕ) → IsSpread now node at later most empty → length later + count ≤ degree s.records node → ⊥
    by [] spread few = there spread.walk
    by (x ∷ later) spread few = omega arith

-- the degree that a row says
pub row_degree : (s : State) (node : ℕ) (row : NodeRow) → Some row ≡ nodes.row_at s.records node → row.degree ≡ degree s.records node
row_degree s node row is = ap (λ (q : NodeRow). q.degree) (node_row s.records node row (sym is)).1

-- a sparse node isn't read as a dense one
pub not_dense_row : (s : State) (node : ℕ) (row : NodeRow) (most : ℕ) (empty : List ℕ) → Some row ≡ nodes.row_at s.records node
    → CanBecomeDense s node most empty → row.dense ≡ true → ⊥
not_dense_row s node row most empty is can dense = let d = dense_is s.records node row is dense in let k = can.sparse in let z = sym k ∙ d in omega arith
