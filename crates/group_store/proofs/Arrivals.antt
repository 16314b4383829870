-- The relationships of a sparse node come into its groups, by what the node has alone.
use Rattle.std.proofs.Common.{◌≡◌, ◌≢◌, ◌⊎◌, ℕ, ◌+◌, ◌<◌, ◌≤◌, ◌^◌, nat_eq, cond, None, Some, List, [], ◌∷◌, ◌++◌}
use Rattle.std.proofs.Common.{length, sym, ap, ◌∙◌, subst, inl, inr, ⊎_elim, arith, refl}
use Rattle.std.proofs.lemmas.Bool.{cases_lt}
use Rattle.id_freelist.specs.Taking.{rest_of}
use Rattle.rec_bytes.specs.declared.meta.Meta.{Meta}
use Rattle.rec_bytes.specs.declared.record.Rec.{Rec}
use Rattle.rec_bytes.specs.declared.shape.Shape.{Shape}
use Rattle.rec_bytes.specs.Format as format
use Rattle.rec_bytes.specs.Meta as metas
use Rattle.rec_bytes.specs.RecordFiles.{meta_key_of, room_of}
use Rattle.rec_bytes.specs.Record.{field}
use Rattle.rec_bytes.specs.Space.{SameButReads, State, meta_of}
use Rattle.rec_bytes.proofs.Numbers.{field-lt}
use Rattle.rec_bytes.proofs.Spaces.{put_same}
use Rattle.node_store.specs.declared.node_row.NodeRow.{NodeRow}
use Rattle.node_store.specs.Loading as nodes
use Rattle.node_store.specs.NodeRecord.{node_key}
use Rattle.rel_store.specs.declared.rel_row.RelRow as loaded
use Rattle.rel_store.specs.Loading as loading
use Rattle.rel_store.specs.RelRecord.{row_of}
use Rattle.rel_store.proofs.Rows.{kind-row_at-Some, rel_at-None, rel_at-Some, rule_row}
use Rattle.row_store.specs.Loading as rows
use Rattle.store_rules.specs.Chains.{In, IsWalk, next_in, place_of}
use Rattle.store_rules.specs.Ranges.{layout_by}
use Rattle.store_rules.specs.Rules.{Head, IsEnd, IsInGroup, StandsAt, first_of, node_head}
use Rattle.store_rules.specs.Views.{Records, RelRow, degree, first_link, group_at, high, kind_at, rec_at, rel_at, rel_in}
use Rattle.store_rules.proofs.ChainLaws.{head_once, walk_of_chain, walk_stays}
use Rattle.store_rules.proofs.ChainSteps.{first_in, nil_out}
use Rattle.store_rules.proofs.ViewLaws.{kind_below, kind_high, kind_low, some_row}
use Rattle.chain_edit.specs.Chains.{next_of}
use Rattle.chain_edit.proofs.LinkLaws.{elsewhere-set_prev, place_low}
use Rattle.chain_edit.specs.Links.{IsRightLink, prev_set}
use Rattle.chain_edit.specs.Pushing.{pushed}
use Rattle.group_store.specs.declared.making.OwnGroup.{OwnGroup}
use Rattle.group_store.specs.declared.moved.Turn.{Turn}
use Rattle.group_store.specs.declared.side.Side.{Side}
use Rattle.group_store.specs.Counting.{one_more, tallied}
use Rattle.group_store.specs.GroupChain.{IsDense, IsGroupChain, next_group, type_of}
use Rattle.group_store.specs.Moving.{ComesIn, HasAdded, HasFound}
use Rattle.group_store.specs.Leaving.{LeavesApart, LeavesBeside}
use Rattle.group_store.specs.Sides.{group_head, side_at}
use Rattle.group_store.specs.SparseChain.{AreReadable}
use Rattle.group_store.specs.Densing.{CanSpread, HasSpreadRoom, SpreadsChain}
use Rattle.group_store.specs.Spreading.{CanTakeEach, HasSpread, IsMember, IsSpreading, cleared}
use Rattle.group_store.proofs.Additions.{IsReady, added_fresh, added_off, ready_added, ready_found, take_after}
use Rattle.group_store.proofs.Clearing.{clear_first, clear_of}
use Rattle.group_store.proofs.DenseStays.{dense_cleared}
use Rattle.group_store.proofs.Gathers as g
use Rattle.group_store.proofs.Gathers.{beside_high, beside_kind}
use Rattle.group_store.proofs.Seeks.{first_is}
use Rattle.group_store.proofs.Spreads.{in_before, in_last}

inner : (a b : RelRow) → Some a ≡ Some b → a ≡ b
inner a b e = cc

-- ---- what is left of other records

leaves_then : (s t u : Records) (node : ℕ) (xs ys gs hs : List ℕ) → ((x : ℕ) → In x xs → In x ys) → ((g : ℕ) → In g gs → In g hs) → LeavesApart s t node xs gs
    → LeavesApart t u node ys hs → LeavesApart s u node ys hs
leaves_then s t u node xs ys gs hs more grown a b = record {
  others = λ x n at some absent inside. b.others x n at some absent inside ∙ a.others x n at some (λ i. absent (more x i)) inside;
  links = λ x n at inside beside.
      let place : place_of (rec_at t format.relationships_file x) node ≡ place_of (rec_at s format.relationships_file x) node
      = ap (λ v. cond (nat_eq v node) 16 24) (a.links x 4 format.relationship_source (omega arith)
      (inl (let low = place_low (rec_at s format.relationships_file x) node in omega arith))) in
      b.links x n at inside (subst (λ q. (at + n ≤ q) ⊎ (q + 8 ≤ at)) (sym place) beside) ∙ a.links x n at inside beside;
  groups_stay = λ g n at some absent inside. b.groups_stay g n at some absent inside ∙ a.groups_stay g n at some (λ i. absent (grown g i)) inside;
}

leaves_none : (s : Records) (node : ℕ) (xs gs : List ℕ) → LeavesApart s s node xs gs
leaves_none s node xs gs = record {
  others = λ x n at some absent inside. refl;
  links = λ x n at inside beside. refl;
  groups_stay = λ g n at some absent inside.
      refl;
}

-- ---- one that has its group

module _ (s m : State) (node rel group : ℕ) (row : RelRow) (came rest groups free : List ℕ) (ready : IsReady s m node row.label group came groups free)
    (dense : IsDense m.records node)
    (live : rel_at s.records rel ≡ Some row) (end : IsEnd node row) (small : rel < 2 ^ 25) (walk : IsWalk (next_of s.records node) rel (rel ∷ rest))
    (ends : (x : ℕ) → In x (rel ∷ rest) → (row : RelRow) × (rel_at s.records x ≡ Some row) × IsEnd node row) (apart : (x : ℕ) → In x (rel ∷ rest) → ¬ In x came)
  where
    abbrev side : Side
    side = side_at node row.from row.to

    abbrev now : State
    now = tallied one_more (pushed (prev_set m node rel format.nil) (group_head group side) node rel) (group_head group side)

    out : ¬ In rel came
    out = apart rel (inl refl)

    live_m : rel_at m.records rel ≡ Some row
    live_m = ready.rows rel ∙ live

    member_now : (k : ℕ) (s : Side) (x : ℕ) → IsMember m.records node (type_of m.records k) s x → IsMember now.records node (type_of now.records k) s x
    member_now = g.member_e m node rel group row groups came ready.chain ready.here ready.counted ready.sides live_m end (sym ready.named) out small

    here : IsMember now.records node (type_of now.records group) side rel
    here = g.rel_member_e m node rel group row groups came ready.chain ready.here ready.counted ready.sides live_m end (sym ready.named) out small

    spread_now : HasSpread now.records node groups (rel ∷ came)
    spread_now = record {
      dense = g.dense_e m node rel group row groups came ready.chain ready.here ready.counted ready.sides live_m end (sym ready.named) out small dense;
      chain = g.chain_e m node rel group row groups came ready.chain ready.here ready.counted ready.sides live_m end (sym ready.named) out small;
      counted = g.counted_e m node rel group row groups came ready.chain ready.here ready.counted ready.sides live_m end (sym ready.named) out small;
      typed = λ k i. ⊎_elim
          (λ (same : k ≡ group). (rel, side, (inl refl, subst (λ z. IsMember now.records node (type_of now.records z) side rel) (sym same) here)))
          (λ a. (a.0, a.1, (inr a.2.0, member_now k a.1 a.0 a.2.1))) (ready.typed k i);
      placed = λ x i. ⊎_elim
          (λ (same : x ≡ rel). (group, side, (ready.here, subst (IsMember now.records node (type_of now.records group) side) (sym same) here)))
          (λ j. let a = ready.placed x j in (a.0, a.1, (a.2.0, member_now a.0 a.1 x a.2.1))) i;
      sides = g.sides_e m node rel group row groups came ready.chain ready.here ready.counted ready.sides live_m end (sym ready.named) out small;
    }

    not_rel : (y : ℕ) → In y rest → y ≢ rel
    not_rel y i e = head_once (next_of s.records node) rel rest walk.1 walk.2 (subst (λ z. In z rest) e i)

    pub spreading_now : (next : ℕ) → next ≡ next_of s.records node rel → IsSpreading now node next (rel ∷ came) rest groups free
    spreading_now next next_is = record {
      spread = spread_now;
      take = g.take_e m node rel group row groups came ready.chain ready.here ready.counted ready.sides live_m end (sym ready.named) out small free ready.take;
      walk = walk_stays (next_of s.records node) (next_of now.records node) next rest
          (λ y i. g.next_e m node rel group row groups came ready.chain ready.here ready.counted ready.sides live_m end (sym ready.named) out small y
          (not_rel y i) (apart y (inr i))
          (λ e. nil_out (next_of s.records node) rel (rel ∷ rest) walk (subst (λ z. In z (rel ∷ rest)) e (inr i))) ∙ ap (λ r. next_in r node) (ready.rels y))
          (subst (λ z. IsWalk (next_of s.records node) z rest) (sym next_is) walk.2);
      ends = λ x i. let a = ends x (inr i) in (
        a.0,
        g.rows_e m node rel group row groups came ready.chain ready.here ready.counted ready.sides live_m end
            (sym ready.named) out small x ∙ ready.rows x ∙ a.1,
        a.2,
      );
      apart = λ x i j. ⊎_elim (not_rel x i) (apart x (inr i)) j;
    }

    pub first_now : (first_of (prev_set m node rel format.nil).records (group_head group side) ≡ format.nil)
        ⊎ In (first_of (prev_set m node rel format.nil).records (group_head group side)) came
    first_now = g.first_known m node rel group row groups came ready.chain ready.here ready.counted ready.sides live_m end (sym ready.named) out small

    pub live_now : (meta_of now format.groups_file).live ≤ (meta_of s format.groups_file).live + 1
    live_now = let e = ap (λ (q : Meta). q.live) (g.meta_e m node rel group row groups came ready.chain ready.here ready.counted ready.sides live_m end
        (sym ready.named) out small) in let le = ready.live in omega arith

    pub mark_now : high s.records format.groups_file ≤ high now.records format.groups_file
    mark_now = let e = ap (λ (q : Meta). q.high) (g.meta_e m node rel group row groups came ready.chain ready.here ready.counted ready.sides live_m end
        (sym ready.named) out small) in let le = ready.marks in omega arith

    pub leaves_now : LeavesApart s.records now.records node (rel ∷ came) groups
    leaves_now = leaves_then s.records m.records now.records node came (rel ∷ came) groups groups (λ x i. inr i) (λ k i. i) ready.leaves
        (g.leaves_e m node rel group row groups came ready.chain ready.here ready.counted ready.sides live_m end (sym ready.named) out small)

    pub shape_now : now.shape ≡ s.shape
    shape_now = g.shape_e m node rel group row groups came ready.chain ready.here ready.counted ready.sides live_m end (sym ready.named) out small ∙ ready.shape

-- ---- one turn

-- one that is left is there
pub left_there : (s : State) (node rel : ℕ) (came rest groups free : List ℕ) → IsSpreading s node rel came (rel ∷ rest) groups free
    → loading.row_at s.records rel ≢ None
left_there s node rel came rest groups free spreading none = let a = spreading.ends rel (inl refl) in let z : None ≡ Some a.0 =
    sym (rel_at-None s.records rel none) ∙ a.1 in cc

-- the group was found or made after a load, told by the space as it was
module _ (s l m : State) (node rel : ℕ) (row : loaded.RelRow) (own : OwnGroup) (same : SameButReads s l) (is : Some row ≡ loading.row_at s.records rel)
    (opens : (groups free : List ℕ) → IsDense l.records node → IsGroupChain l.records node groups → CanTakeEach l free → HasFound l m row.label groups own
    ⊎ HasAdded l m node row.label groups free own)
    (stays : IsDense l.records node → IsDense m.records node) (small : rel < 2 ^ 25) (came rest groups free : List ℕ)
    (spreading : IsSpreading s node rel came (rel ∷ rest) groups free) where
  pub spread_l : HasSpread l.records node groups came
  spread_l = subst (λ (q : State). HasSpread q.records node groups came) (sym same) spreading.spread

  pub take_l : CanTakeEach l free
  take_l = take_after s l free same spreading.take

  live_l : rel_at l.records rel ≡ Some (rule_row row)
  live_l = ap (λ (q : State). rel_at q.records rel) same ∙ rel_at-Some s.records rel row (sym is)

  end_l : IsEnd node (rule_row row)
  end_l = let a = spreading.ends rel (inl refl) in subst (IsEnd node) (inner a.0 (rule_row row) (sym a.1 ∙ rel_at-Some s.records rel row (sym is))) a.2

  walk_l : IsWalk (next_of l.records node) rel (rel ∷ rest)
  walk_l = subst (λ (q : State). IsWalk (next_of q.records node) rel (rel ∷ rest)) (sym same) spreading.walk

  ends_l : (x : ℕ) → In x (rel ∷ rest) → (row : RelRow) × (rel_at l.records x ≡ Some row) × IsEnd node row
  ends_l = subst (λ (q : State). (x : ℕ) → In x (rel ∷ rest) → (row : RelRow) × (rel_at q.records x ≡ Some row) × IsEnd node row) (sym same) spreading.ends

  abbrev own_head : Head
  own_head = group_head own.row.id (side_at node row.from row.to)

  -- it has come there
  pub comes_in : (t end : State) (h : Head) (first next : ℕ) → t ≡ prev_set m node rel format.nil → h ≡ group_head own.row.id (side_at node row.from row.to)
      → end ≡ tallied one_more (pushed t h node rel) h → first ≡ first_of t.records h
      → ((rec : Rec) → row ≡ row_of rec row.id → next ≡ next_in rec node)
      → ComesIn s end node rel came rest groups (record { next = next; group = own.row.id; before = own.first; first = first })
  comes_in t end h first next freed head put first_is links = by (opens groups free spread_l.dense spread_l.chain take_l)
    where
      end_of : tallied one_more (pushed (prev_set m node rel format.nil) own_head node rel) own_head ≡ end
      end_of = sym (put ∙ ap (λ (q : State). tallied one_more (pushed q h node rel) h) freed ∙ ap (λ (q : Head). tallied one_more
          (pushed (prev_set m node rel format.nil) q node rel) q) head)

      first_of_l : first ≡ first_of (prev_set m node rel format.nil).records own_head
      first_of_l = first_is ∙ ap (λ (q : State). first_of q.records h) freed ∙ ap (λ (q : Head). first_of (prev_set m node rel format.nil).records q) head

      next_l : next ≡ next_of l.records node rel
      next_l =
          let rec = rec_at s.records format.relationships_file rel in
          let row_is : row_of rec rel ≡ row = (kind-row_at-Some s.records rel row (sym is)).1 in
          links rec (sym row_is ∙ ap (row_of rec) (ap (λ (q : loaded.RelRow). q.id) row_is)) ∙ ap (λ (q : State). next_of q.records node rel) (sym same)

      live_is : (meta_of l format.groups_file).live ≡ (meta_of s format.groups_file).live
      live_is = ap (λ (q : State). (meta_of q format.groups_file).live) same

      shape_is : l.shape ≡ s.shape
      shape_is = ap (λ (q : State). q.shape) same

      done : (now left : List ℕ) → IsReady l m node row.label own.row.id came now left → ((k : ℕ) → In k now → (k ≡ own.row.id) ⊎ In k groups)
          → ((k : ℕ) → In k groups → In k now)
          → ((k : ℕ) → In k now → In k groups ⊎ ((¬ In k groups) × (kind_at l.records format.groups_file k ≡ format.free_kind))) → (own.first ≡ format.nil)
          ⊎ In own.first groups
          → ComesIn s end node rel came rest groups (record { next = next; group = own.row.id; before = own.first; first = first })
      done gs left ready grows stay fresh before = record {
        groups_now = gs;
        free_now = left;
        spreading = subst (λ (q : State). IsSpreading q node next (rel ∷ came) rest gs left) end_of
            (spreading_now l m node rel own.row.id (rule_row row) came rest gs left ready (stays spread_l.dense) live_l end_l small walk_l ends_l
            spreading.apart next next_l);
        grows = grows;
        stay = stay;
        fresh = subst (λ (q : State). (k : ℕ) → In k gs → In k groups ⊎ ((¬ In k groups) × (kind_at q.records format.groups_file k ≡ format.free_kind))) same
            fresh;
        mark = subst (λ (q : State). high q.records format.groups_file ≤ high end.records format.groups_file) same
            (subst (λ (q : State). high l.records format.groups_file ≤ high q.records format.groups_file) end_of
            (mark_now l m node rel own.row.id (rule_row row) came rest gs left ready (stays spread_l.dense) live_l end_l small walk_l ends_l spreading.apart));
        leaves = subst (λ (q : State). LeavesApart q.records end.records node (rel ∷ came) gs) same
            (subst (λ (q : State). LeavesApart l.records q.records node (rel ∷ came) gs) end_of
            (leaves_now l m node rel own.row.id (rule_row row) came rest gs left ready (stays spread_l.dense) live_l end_l small walk_l ends_l
            spreading.apart));
        before = before;
        first = subst (λ z. (z ≡ format.nil) ⊎ In z came) (sym first_of_l)
            (first_now l m node rel own.row.id (rule_row row) came rest gs left ready (stays spread_l.dense) live_l end_l small walk_l ends_l spreading.apart);
        live = let le = subst (λ (q : State). (meta_of q format.groups_file).live ≤ (meta_of l format.groups_file).live + 1) end_of
            (live_now l m node rel own.row.id (rule_row row) came rest gs left ready (stays spread_l.dense) live_l end_l small walk_l ends_l spreading.apart) in
            let as_it_was = live_is in omega arith;
        shape = subst (λ (q : State). q.shape ≡ l.shape) end_of (shape_now l m node rel own.row.id (rule_row row) came rest gs left ready (stays spread_l.dense)
            live_l end_l small walk_l ends_l spreading.apart) ∙ shape_is;
      }

      by : HasFound l m row.label groups own ⊎ HasAdded l m node row.label groups free own
          → ComesIn s end node rel came rest groups (record { next = next; group = own.row.id; before = own.first; first = first })
      by (inl found) = done groups free (ready_found l m node row.label own came groups free spread_l take_l found) (λ k i. inr i) (λ k i. i) (λ k i. inl i)
          (inl found.before)
      by (inr added) = done (own.row.id ∷ groups) (rest_of free) (ready_added l m node row.label own came groups free spread_l added) (λ k i. i) (λ k i. inr i)
          (λ k i. ⊎_elim
          (λ e. inr (subst (λ z. (¬ In z groups) × (kind_at l.records format.groups_file z ≡ format.free_kind)) (sym e) (
            added_off l m node row.label own came
                groups free spread_l added,
            added_fresh l m node row.label own came groups free spread_l added take_l,
          )))
          (λ j. inl j) i)
          (subst (λ z. (z ≡ format.nil) ⊎ In z groups) (sym added.before)
          (first_in (next_group l.records) (first_link l.records node) groups (walk_of_chain _ _ format.nil (first_link l.records node)
          groups spread_l.chain.chain)))

  -- a push at its head finds a right link
  pub push_finds : (t : State) (h : Head) → t ≡ prev_set m node rel format.nil → h ≡ group_head own.row.id (side_at node row.from row.to)
      → high s.records format.relationships_file ≤ room_of s.shape format.relationships_file → IsRightLink t (first_of t.records h)
  push_finds t h freed head le = subst (λ (q : Head). IsRightLink t (first_of t.records q)) (sym head)
      (subst (λ (q : State). IsRightLink q (first_of q.records own_head)) (sym freed) (by (opens groups free spread_l.dense spread_l.chain take_l)))
    where
      found : (gs left : List ℕ) → IsReady l m node row.label own.row.id came gs left
          → IsRightLink (prev_set m node rel format.nil) (first_of (prev_set m node rel format.nil).records own_head)
      found gs left ready =
          let first = first_of (prev_set m node rel format.nil).records own_head in
          let mark : high (prev_set m node rel format.nil).records format.relationships_file ≡ high m.records format.relationships_file
          = ap (λ r. (metas.meta_of r).high) (elsewhere-set_prev m.records node rel format.nil (meta_key_of format.relationships_file) (λ e. omega arith)) in
          let was : high l.records format.relationships_file ≡ high s.records format.relationships_file =
          ap (λ (q : State). high q.records format.relationships_file) same in
          let grown = ready.mark in
          let size : room_of m.shape format.relationships_file ≡ room_of s.shape format.relationships_file =
          ap (λ (q : Shape). room_of q format.relationships_file) (ready.shape ∙ ap (λ (q : State). q.shape) same) in
          record {
            low = ⊎_elim (λ none. inl none)
                (λ i. let a = ready.placed first i in
                let lt = kind_below (high m.records format.relationships_file) (rec_at m.records format.relationships_file first) first
                (some_row (kind_at m.records format.relationships_file first) (rel_in (rec_at m.records format.relationships_file first) first)
                a.2.1.row a.2.1.live).0 in inr (omega arith))
                (first_now l m node rel own.row.id (rule_row row) came rest gs left ready (stays spread_l.dense) live_l end_l small walk_l ends_l
                spreading.apart);
            mark = omega arith;
          }

      by : HasFound l m row.label groups own ⊎ HasAdded l m node row.label groups free own
          → IsRightLink (prev_set m node rel format.nil) (first_of (prev_set m node rel format.nil).records own_head)
      by (inl is) = found groups free (ready_found l m node row.label own came groups free spread_l take_l is)
      by (inr added) = found (own.row.id ∷ groups) (rest_of free) (ready_added l m node row.label own came groups free spread_l added)

-- ---- all of them

-- The node's own chain is partly moved: so many came into groups, and the rest is left from this one on. What came and
-- its groups are among these, as is none.
pub record HasPart (s now : State) (node at count : ℕ) (members came groups : List ℕ) : Type 0 where
  pub moved : List ℕ
  pub rest : List ℕ
  pub own : List ℕ
  pub free : List ℕ
  pub spreading : IsSpreading now node at moved rest own free
  pub parts : (x : ℕ) → In x members → In x moved ⊎ In x rest
  pub members_moved : (x : ℕ) → In x moved → In x members
  pub members_left : (x : ℕ) → In x rest → In x members
  pub rels : (x : ℕ) → In x moved → In x came
  pub owned : (g : ℕ) → In g own → In g groups
  pub no_rel : In format.nil came
  pub no_group : In format.nil groups
  pub many : length rest + count ≡ length members
  pub live : (meta_of now format.groups_file).live ≤ (meta_of s format.groups_file).live + count
  pub mark : high s.records format.groups_file ≤ high now.records format.groups_file
  pub fresh : (g : ℕ) → In g own → kind_at s.records format.groups_file g ≡ format.free_kind
  pub leaves : LeavesApart s.records now.records node moved own
  pub shape : now.shape ≡ s.shape

member_end : (records : Records) (node x : ℕ) → StandsAt (rel_at records) (group_at records) (node_head node) x → (row : RelRow) × (rel_at records x ≡ Some row)
    × IsEnd node row
member_end records node x a = (a.row, a.live, by a.on)
  where
    by : ((format.nodes_file ≡ format.nodes_file) × IsEnd node a.row) ⊎ ((format.nodes_file ≡ format.groups_file) × IsInGroup (group_at records)
        (node_head node) a.row) → IsEnd node a.row
    by (inl k) = k.1
    by (inr k) = absurd (let z = k.0 in omega arith)

-- the node is dense and has no group yet
spreading_cleared : (l : State) (node : ℕ) (members free : List ℕ) → CanSpread l node members free
    → IsSpreading (cleared l node) node (first_link l.records node) [] members [] free
spreading_cleared l node members free can =
    let old = rec_at l.records format.nodes_file node in
    let first : first_link (cleared l node).records node ≡ format.nil =
    ap (λ r. field 4 r format.node_first_link) (put_same l.records (node_key node) (clear_of old)) ∙ clear_first old in
    record {
      spread = record {
        dense = dense_cleared l node (λ e. let k = can.sparse in let z = sym e ∙ k in omega arith);
        chain = record {
          chain = first;
          only = λ g i. elim i [ ];
          all = λ g is. absurd (can.none g (record { kind = is.kind; owner = is.owner }));
          once =
              λ g k i j same. elim i [ ];
        };
        counted = λ g i. elim i [ ];
        typed = λ g i. elim i [ ];
        placed = λ x i. elim i [ ];
        sides = λ g i side. elim i [ ];
      };
      take = record {
        take = record {
          list = can.take.take.list;
          low = can.take.take.low;
          unused = can.take.take.unused;
          count = can.take.take.count;
          mark =
              can.take.take.mark;
        };
        exact = can.take.exact;
      };
      walk = walk_of_chain _ _ format.nil (first_link l.records node) members can.chain.chain;
      ends = λ x i. member_end l.records node x (can.chain.only x i);
      apart = λ x i j. j;
    }

can_spread_read : (s l : State) (node : ℕ) (members free : List ℕ) → SameButReads s l → CanSpread s node members free → CanSpread l node members free
can_spread_read s l node members free same can = subst (λ (q : State). CanSpread q node members free) (sym same)
    (record { sparse = can.sparse; chain = can.chain; none = can.none; take = take_after s (record s { reads = l.reads }) free refl can.take })

pub part_all : (s l t : State) (node : ℕ) (row : NodeRow) (members free came groups : List ℕ) → SameButReads s l → Some row ≡ nodes.row_at s.records node
    → t ≡ cleared l node → came ≡ format.nil ∷ [] → groups ≡ format.nil ∷ [] → CanSpread s node members free
    → HasPart s t node row.first 0 members came groups
part_all s l t node row members free came groups same is clear came_is groups_is can =
    let first : first_link l.records node ≡ row.first = ap (λ (q : State). first_link q.records node) same ∙ sym (first_is s.records node row is) in
    let spreading = spreading_cleared l node members free (can_spread_read s l node members free same can) in
    record {
      moved = [];
      rest = members;
      own = [];
      free = free;
      spreading = subst (λ (q : State). IsSpreading q node row.first [] members [] free) (sym clear)
          (subst (λ f. IsSpreading (cleared l node) node f [] members [] free) first spreading);
      parts = λ x i. inr i;
      members_moved = λ x i. elim i [ ];
      members_left = λ x i. i;
      rels = λ x i. elim i [ ];
      owned = λ g i. elim i [ ];
      no_rel = subst (λ xs. In format.nil xs) (sym came_is) (inl refl);
      no_group = subst (λ xs. In format.nil xs) (sym groups_is) (inl refl);
      many = omega arith;
      live = let e = ap (λ (q : State). (meta_of q format.groups_file).live) clear in let f = ap (λ (q : State). (meta_of q format.groups_file).live) same in
          omega arith;
      mark = let e = ap (λ (q : State). high q.records format.groups_file) clear in let f = ap (λ (q : State). high q.records format.groups_file) same in
          omega arith;
      fresh = λ g i. elim i [ ];
      leaves = subst (λ (q : State). LeavesApart s.records q.records node [] []) (sym clear)
          (subst (λ (q : State). LeavesApart s.records (cleared q node).records node [] []) (sym same)
          (record { others = λ x n at some absent inside. refl; links = λ x n at inside beside. refl; groups_stay = λ g n at some absent inside. refl }));
      shape = ap (λ (q : State). q.shape) clear ∙ ap (λ (q : State). q.shape) same;
    }

-- where some are left the next one is the first of them
module _ (s now : State) (node at count : ℕ) (members came groups : List ℕ) (there : at ≢ format.nil) (part : HasPart s now node at count members came groups)
  where
    pub part_first : {P : Type 0} → ((rest : List ℕ) → IsSpreading now node at part.moved (at ∷ rest) part.own part.free → ((x : ℕ) → In x (at ∷ rest)
        → In x part.rest) → ((x : ℕ) → In x part.rest → In x (at ∷ rest)) → length rest + (count + 1) ≡ length members → P) → P
    part_first {P} found = by part.rest part.spreading (λ x i. i) (λ x i. i) part.many
      where
        by : (later : List ℕ) → IsSpreading now node at part.moved later part.own part.free → ((x : ℕ) → In x later → In x part.rest)
            → ((x : ℕ) → In x part.rest → In x later) → length later + count ≡ length members → P
        by [] spreading from into many = absurd (there spreading.walk)
        by (y ∷ later) spreading from into many = found later (subst (λ z. IsSpreading now node at part.moved (z ∷ later) part.own part.free)
            (sym spreading.walk.0) spreading)
            (λ x i. from x (subst (λ z. In x (z ∷ later)) spreading.walk.0 i)) (λ x i. subst (λ z. In x (z ∷ later)) (sym spreading.walk.0) (into x i))
            (omega arith)

    -- what isn't in use and none of its groups wasn't in use
    was_free : (g : ℕ) → ¬ In g part.own → kind_at now.records format.groups_file g ≡ format.free_kind → kind_at s.records format.groups_file g ≡
        format.free_kind
    was_free g absent free =
        let mark = high s.records format.groups_file in
        let le = part.mark in
        ⊎_elim
        (λ (lt : g < mark).
        let bound : mark < 2 ^ 32 = field-lt 4 (s.records (meta_key_of format.groups_file)) format.meta_high in
        kind_low mark (rec_at s.records format.groups_file g) g lt ∙ sym (part.leaves.groups_stay g 1 format.kind (λ e. omega arith) absent (omega arith))
        ∙ sym (kind_low (high now.records format.groups_file) (rec_at now.records format.groups_file g) g (omega arith)) ∙ free)
        (λ (ge : mark ≤ g). kind_high mark (rec_at s.records format.groups_file g) g ge) (cases_lt g mark)

    -- one more came
    pub part_next : (end : State) (turn : Turn) (xs ys : List ℕ) → xs ≡ came ++ at ∷ [] → ys ≡ groups ++ turn.group ∷ []
        → ((came rest groups free : List ℕ) → IsSpreading now node at came (at ∷ rest) groups free → ComesIn now end node at came rest groups turn)
        → HasPart s end node turn.next (count + 1) members xs ys
    part_next end turn xs ys xs_is ys_is move = part_first (λ rest spreading from into many.
        let comes = move part.moved rest part.own part.free spreading in
        record {
          moved = at ∷ part.moved;
          rest = rest;
          own = comes.groups_now;
          free = comes.free_now;
          spreading = comes.spreading;
          parts = λ x i. ⊎_elim (λ j. inl (inr j)) (λ j. ⊎_elim (λ e. inl (inl e)) inr (into x j)) (part.parts x i);
          members_moved = λ x i. ⊎_elim (λ e. part.members_left x (from x (inl e))) (part.members_moved x) i;
          members_left = λ x i. part.members_left x (from x (inr i));
          rels = λ x i. subst (λ zs. In x zs) (sym xs_is) (⊎_elim (λ e. subst (λ z. In z (came ++ at ∷ [])) (sym e) (in_last at came)) (λ j. in_before x at came
              (part.rels x j)) i);
          owned = λ g i. subst (λ zs. In g zs) (sym ys_is) (⊎_elim (λ e. subst (λ z. In z (groups ++ turn.group ∷ [])) (sym e) (in_last turn.group groups))
              (λ j. in_before g turn.group groups (part.owned g j)) (comes.grows g i));
          no_rel = subst (λ zs. In format.nil zs) (sym xs_is) (in_before format.nil at came part.no_rel);
          no_group = subst (λ zs. In format.nil zs) (sym ys_is) (in_before format.nil turn.group groups part.no_group);
          many = many;
          live = let a = comes.live in let b = part.live in omega arith;
          mark = let a = comes.mark in let b = part.mark in omega arith;
          fresh = λ g i. ⊎_elim (part.fresh g) (λ k. was_free g k.0 k.1) (comes.fresh g i);
          leaves = leaves_then s.records now.records end.records node part.moved (at ∷ part.moved) part.own comes.groups_now (λ x i. inr i)
              comes.stay part.leaves
              comes.leaves;
          shape = comes.shape ∙ part.shape;
        })

    -- what stood first came there, or is none
    pub part_known : (end : State) (turn : Turn) → ((came rest groups free : List ℕ) → IsSpreading now node at came (at ∷ rest) groups free → ComesIn now end
        node at came rest groups turn) → In turn.first came × In turn.before groups
    part_known end turn move = part_first (λ rest spreading from into many.
        let comes = move part.moved rest part.own part.free spreading in (
          ⊎_elim (λ e. subst (λ z. In z came) (sym e) part.no_rel) (part.rels turn.first) comes.first,
          ⊎_elim (λ e. subst (λ z. In z groups) (sym e) part.no_group) (part.owned turn.before) comes.before,
        ))

-- the same relationships in another order
spread_again : (records : Records) (node : ℕ) (groups xs ys : List ℕ) → ((x : ℕ) → In x xs → In x ys) → ((x : ℕ) → In x ys → In x xs)
    → HasSpread records node groups xs → HasSpread records node groups ys
spread_again records node groups xs ys there back h = record {
  dense = h.dense;
  chain = h.chain;
  counted = h.counted;
  typed = λ g i. let a = h.typed g i in (a.0, a.1, (there a.0 a.2.0, a.2.1));
  placed = λ x i. h.placed x (back x i);
  sides = λ g i side. let a = h.sides g i side in record {
    members = a.members;
    list = a.list;
    are = λ x j. let b = a.are x j in (there x b.0, b.1);
    all =
        λ x j b. a.all x (back x j) b;
    count = a.count;
  };
}

-- none is left
pub part_none : (s now : State) (node at count : ℕ) (members came groups : List ℕ) → at ≡ format.nil → HasPart s now node at count members came groups
    → SpreadsChain s now node members
part_none s now node at count members came groups none part = by part.rest part.spreading part.parts
  where
    by : (later : List ℕ) → IsSpreading now node at part.moved later part.own part.free → ((x : ℕ) → In x members → In x part.moved ⊎ In x later)
        → SpreadsChain s now node members
    by [] spreading parts = record {
      groups = part.own;
      spread = spread_again now.records node part.own part.moved members part.members_moved (λ x i. ⊎_elim (λ j. j) (λ j. elim j [ ]) (parts x i))
          spreading.spread;
      fresh = part.fresh;
      leaves = leaves_then s.records now.records now.records node part.moved members part.own part.own part.members_moved (λ g i. i) part.leaves
          (leaves_none now.records node members part.own);
    }
    by (y ∷ later) spreading parts = absurd (spreading.walk.1 (sym spreading.walk.0 ∙ none))

-- ---- no damage is told

-- what is of a kind that its file has can be read
kind_read : (file : ℕ) (s : State) (x kind : ℕ) → high s.records file ≤ room_of s.shape file → kind_at s.records file x ≡ kind
    → ((r : Rec) → layout_by file r kind ≡ None → ⊥) → rows.IsReadable file s x
kind_read file s x kind le is known = record {
  mark = le;
  kind = λ low none. known (rec_at s.records file x) (ap (layout_by file (rec_at s.records file x)) (sym is ∙ kind_low (high s.records file)
      (rec_at s.records file x) x low) ∙ none);
}

pub sparse_read : (s : State) (node threshold : ℕ) (members free : List ℕ) → CanSpread s node members free → HasSpreadRoom s node threshold members
    → nodes.IsReadable s node
sparse_read s node threshold members free can room = kind_read format.nodes_file s node format.sparse room.nodes can.sparse (λ r e. cc)

pub members_read : (s : State) (node threshold : ℕ) (members : List ℕ) → HasSpreadRoom s node threshold members → AreReadable s members
members_read s node threshold members room = λ x i. kind_read format.relationships_file s x format.related room.rels (room.known x i) (λ r e. cc)

pub readable_after : (s l : State) (members : List ℕ) → SameButReads s l → AreReadable s members → AreReadable l members
readable_after s l members same can = subst (λ (q : State). AreReadable q members) (sym same) (λ x i. record { mark = (can x i).mark; kind = (can x i).kind })

-- the next one can come, and a group be made for it
module _ (s now : State) (node at count threshold : ℕ) (members came groups : List ℕ) (there : at ≢ format.nil)
    (part : HasPart s now node at count members came groups) (room : HasSpreadRoom s node threshold members) where
  pub turn_sound : {P : Type 0} → LeavesBeside s.records now.records node
      → ((came rest groups free : List ℕ) → IsSpreading now node at came (at ∷ rest) groups free → nodes.IsReadable now node → loading.IsReadable now at →
      (meta_of now format.groups_file).live ≢ room_of now.shape format.groups_file → P) → P
  turn_sound {P} beside found = part_first s now node at count members came groups there part (λ rest spreading from into many.
      let size : (file : ℕ) → room_of now.shape file ≡ room_of s.shape file = λ file. ap (λ (q : Shape). room_of q file) part.shape in
      let node_high = beside_high s.records now.records node format.nodes_file beside (λ e. omega arith) in
      let rel_high = beside_high s.records now.records node format.relationships_file beside (λ e. omega arith) in
      let node_le = room.nodes in
      let rel_le = room.rels in
      let node_size = size format.nodes_file in
      let rel_size = size format.relationships_file in
      found part.moved rest part.own part.free spreading
      (kind_read format.nodes_file now node format.dense (omega arith) spreading.spread.dense (λ r e. cc))
      (kind_read format.relationships_file now at format.related (omega arith) (beside_kind s.records now.records node at beside ∙ room.known at
      (part.members_left at (from at (inl refl)))) (λ r e. cc))
      (λ full. let a = part.live in let b = room.room in let c = size format.groups_file in omega arith))

  -- none is left once as many came as the degree says
  pub turn_over : degree s.records node ≤ count → ⊥
  turn_over all = part_first s now node at count members came groups there part (λ rest spreading from into many. let e = room.exact in omega arith)
