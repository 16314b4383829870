-- A group that is found or made for a relationship, by what the node has alone.
use Rattle.std.specs.Prelude.{IsErr}
use Rattle.std.proofs.Common.{◌≡◌, ◌≢◌, ◌⊎◌, ℕ, ◌+◌, ◌<◌, ◌≤◌, true, cond, List, [], ◌∷◌, length, Result, Ok, Err, IfOk}
use Rattle.std.proofs.Common.{sym, ap, ◌∙◌, subst, inl, inr, ⊎_elim, arith, refl}
use Rattle.std.proofs.lemmas.Bool.{eqb-true, false≢true}
use Rattle.id_freelist.specs.Taking.{CanTake, IsCounted, first_of, mark_after, rest_of, room}
use Rattle.rec_bytes.specs.declared.key.Key.{Key}
use Rattle.rec_bytes.specs.declared.shape.Shape.{Shape}
use Rattle.rec_bytes.specs.Format as format
use Rattle.rec_bytes.specs.Meta as metas
use Rattle.rec_bytes.specs.Record.{field}
use Rattle.rec_bytes.specs.RecordFiles.{meta_key_of, room_of}
use Rattle.rec_bytes.specs.Space.{SameButReads, State, meta_in, meta_of}
use Rattle.node_store.specs.Loading as nodes
use Rattle.store_rules.specs.Chains.{In, next_in, prev_in}
use Rattle.store_rules.specs.Rules as rules
use Rattle.store_rules.specs.Rules.{next_free}
use Rattle.store_rules.specs.Views.{first_link, high, kind_at, kind_in, rec_at, rel_at, rel_in, row_if}
use Rattle.store_rules.proofs.ChainLaws.{chain_stays, head_once, walk_of_chain}
use Rattle.store_rules.proofs.ChainSteps.{first_in}
use Rattle.store_rules.proofs.NumberLaws.{nat_cases}
use Rattle.store_rules.proofs.ViewLaws.{kind_high, kind_low}
use Rattle.chain_edit.specs.Chains.{IsChainFrom, next_of, prev_of}
use Rattle.group_store.specs.declared.group_row.GroupRow.{GroupRow}
use Rattle.group_store.specs.declared.making.OwnGroup.{OwnGroup}
use Rattle.group_store.specs.declared.open_fault.OpenFault.{OpenFault}
use Rattle.group_store.specs.declared.side.Side.{Side}
use Rattle.group_store.specs.declared.side.Side.TheVariants.{Out, In as Into, Loop}
use Rattle.group_store.specs.Counting.{count_place}
use Rattle.group_store.specs.GroupChain.{IsDense, IsGroupChain, LacksGroup, LacksType, next_group, type_of}
use Rattle.group_store.specs.GroupRecord.{count_in, is_counted}
use Rattle.group_store.specs.Leaving.{LeavesApart}
use Rattle.group_store.specs.Making.{CanMake, HasMade, empty_row}
use Rattle.group_store.specs.Moving.{HasAdded, HasFound}
use Rattle.group_store.specs.Sides.{group_head, place_of}
use Rattle.group_store.specs.Spreading.{CanTakeEach, HasSide, HasSpread, IsMember}
use Rattle.group_store.specs.Walking.{IsWalkable, group_row_at}
use Rattle.group_store.proofs.Gathers.{count_is, member_again, one_place, place_range, side_by}
use Rattle.group_store.proofs.GroupRecords.{group_below}
use Rattle.group_store.proofs.Makes.{rest_once}

-- ---- the free identifiers that are left

counted_of : (free : List ℕ) (live mark : ℕ) → live + length free ≡ mark → IsCounted free live mark
counted_of [] live mark is = omega arith
counted_of (x ∷ later) live mark is = omega arith

in_rest : (free : List ℕ) (x : ℕ) → In x (rest_of free) → In x free
in_rest [] x i = i
in_rest (y ∷ later) x i = inr i

marks_grow : (free : List ℕ) (mark : ℕ) → mark ≤ mark_after free mark
marks_grow [] mark = omega arith
marks_grow (x ∷ later) mark = omega arith

rest_counts : (free : List ℕ) (live mark now after : ℕ) → live + length free ≡ mark → now ≡ live + 1 → after ≡ mark_after free mark
    → now + length (rest_of free) ≡ after
rest_counts [] live mark now after is more grown = omega arith
rest_counts (x ∷ later) live mark now after is more grown = omega arith

rest_fits : (free : List ℕ) (live mark most : ℕ) → live + length free ≡ mark → mark ≤ most → live ≢ most → mark_after free mark ≤ most
rest_fits [] live mark most is le ne = ⊎_elim (λ (e : mark ≡ most). absurd (ne (omega arith))) (λ (other : mark ≢ most). omega arith) (nat_cases mark most)
rest_fits (x ∷ later) live mark most is le ne = le

-- a count of reads is none of it
pub can_read : (s : State) (n : ℕ) (free : List ℕ) → CanTake s format.groups_file free → CanTake (record s { reads = n }) format.groups_file free
can_read s n free can = record { list = can.list; low = can.low; unused = can.unused; count = can.count; mark = can.mark }

pub take_after : (s l : State) (free : List ℕ) → SameButReads s l → CanTakeEach s free → CanTakeEach l free
take_after s l free same can = subst (λ (q : State). CanTakeEach q free) (sym same) (record { take = can_read s l.reads free can.take; exact = can.exact })

pub take_rest : (s t : State) (node label : ℕ) (row : GroupRow) (groups free : List ℕ) → HasMade s.records t.records node label row free groups
    → t.shape ≡ s.shape → (meta_of s format.groups_file).live ≢ room s format.groups_file → CanTakeEach s free
    → CanTakeEach t (rest_of free)
take_rest s t node label row groups free made shape left can =
    let mark = high s.records format.groups_file in
    let le = marks_grow free mark in
    let counts : (meta_of t format.groups_file).live + length (rest_of free) ≡ high t.records format.groups_file
    = rest_counts free (meta_of s format.groups_file).live mark (meta_of t format.groups_file).live (high t.records format.groups_file) can.exact made.live
    made.mark in
    let off : (x : ℕ) → In x (rest_of free) → x ≢ row.id = λ x i e. rest_once (next_free s.records format.groups_file)
    (meta_in s.records format.groups_file).free mark row.id free made.first_free can.take.list (subst (λ z. In z (rest_of free)) e i) in
    let low : (x : ℕ) → In x (rest_of free) → x < mark = λ x i. can.take.low x (in_rest free x i) in
    let grown = made.mark in
    record {
      take = record {
        list = made.list;
        low = λ x i. let lt = low x i in omega arith;
        unused = λ x i.
            let lt = low x i in
            kind_low (high t.records format.groups_file) (rec_at t.records format.groups_file x) x (omega arith)
            ∙ made.numbers x 1 format.kind (omega arith) (off x i) (λ _. inl (omega arith))
            ∙ sym (kind_low mark (rec_at s.records format.groups_file x) x lt) ∙ can.take.unused x (in_rest free x i);
        count = counted_of (rest_of free) (meta_of t format.groups_file).live (high t.records format.groups_file) counts;
        mark = let fits = rest_fits free (meta_of s format.groups_file).live mark (room s format.groups_file) can.exact can.take.mark left in
            let same : room t format.groups_file ≡ room s format.groups_file = ap (λ (q : Shape). room_of q format.groups_file) shape in omega arith;
      };
      exact = counts;
    }

-- ---- what the call says

no_error : {T : Type 0} (value : T) → IsErr {T = T} {E = OpenFault} (Ok value) → ⊥
no_error value e = false≢true e

pub has_added : (r : Result OwnGroup OpenFault) (s l t : State) (node label : ℕ) → SameButReads s l
    → (IsDense s.records node → (xs : List ℕ) → IsGroupChain s.records node xs → LacksGroup s.records node label)
    → IfOk r (λ own. (free xs : List ℕ) → CanMake l node label free xs → HasMade l.records t.records node label own.row free xs)
    → IfOk r (λ own. own.first ≡ first_link l.records node)
    → ((meta_of l format.groups_file).live ≡ room l format.groups_file → IsErr r) → t.shape ≡ l.shape
    → IfOk r (λ own. (groups free : List ℕ) → IsDense s.records node → IsGroupChain s.records node groups → CanTakeEach s free → HasFound s t label groups own
    ⊎ HasAdded s t node label groups free own)
has_added (Err fault) s l t node label same lacks made first full shape = tt
has_added (Ok own) s l t node label same lacks made first full shape = λ groups free dense chain can.
    let none : LacksType s.records label groups = λ g i. lacks dense groups chain g (chain.only g i) in
    let is : HasMade s.records t.records node label own.row free groups
    = subst (λ (q : State). HasMade q.records t.records node label own.row free groups) same
    (made free groups (subst (λ (q : State). CanMake q node label free groups) (sym same) (record {
      chain = chain;
      lacks = none;
      take = can_read s l.reads free
          can.take;
    }))) in
    let shaped : t.shape ≡ s.shape = shape ∙ ap (λ (q : State). q.shape) same in
    inr (record {
      lacks = none;
      made = is;
      take = take_rest s t node label own.row groups free is shaped (λ e. no_error own (full (ap (λ (q : State). (meta_of q format.groups_file).live) same ∙ e
          ∙ sym (ap (λ (q : State). room q format.groups_file) same)))) can;
      before = first ∙ ap (λ (q : State). first_link q.records node) same;
      shape = shaped;
    })

-- ---- what the node has then

-- The node has this group of the type for a relationship. Each other has one of those that came, and
-- no relationship changed.
pub record IsReady (s m : State) (node label g : ℕ) (came groups free : List ℕ) : Type 0 where
  pub chain : IsGroupChain m.records node groups
  pub here : In g groups
  pub named : type_of m.records g ≡ label
  pub counted : (k : ℕ) → In k groups → kind_at m.records format.groups_file k ≡ format.counted
  pub sides : (k : ℕ) → In k groups → (side : Side) → HasSide m.records node came k side
  pub typed : (k : ℕ) → In k groups → (k ≡ g) ⊎ ((x : ℕ) × (side : Side) × (In x came × IsMember m.records node (type_of m.records k) side x))
  pub placed : (x : ℕ) → In x came → (k : ℕ) × (side : Side) × (In k groups × IsMember m.records node (type_of m.records k) side x)
  pub take : CanTakeEach m free
  pub rels : (x : ℕ) → rec_at m.records format.relationships_file x ≡ rec_at s.records format.relationships_file x
  pub rows : (x : ℕ) → rel_at m.records x ≡ rel_at s.records x
  pub mark : high m.records format.relationships_file ≡ high s.records format.relationships_file
  pub live : (meta_of m format.groups_file).live ≤ (meta_of s format.groups_file).live + 1
  pub marks : high s.records format.groups_file ≤ high m.records format.groups_file
  pub leaves : LeavesApart s.records m.records node came groups
  pub shape : m.shape ≡ s.shape

pub ready_found : (s m : State) (node label : ℕ) (own : OwnGroup) (came groups free : List ℕ) → HasSpread s.records node groups came → CanTakeEach s free
    → HasFound s m label groups own → IsReady s m node label own.row.id came groups free
ready_found s m node label own came groups free spread can found = subst (λ (q : State). IsReady s q node label own.row.id came groups free) (sym found.same)
    (record {
      chain = spread.chain;
      here = found.member;
      named = found.typed;
      counted = spread.counted;
      sides = spread.sides;
      typed = λ k i. inr (spread.typed k i);
      placed = spread.placed;
      take = record { take = can_read s m.reads free can.take; exact = can.exact };
      rels = λ x. refl;
      rows = λ x. refl;
      mark = refl;
      live = omega arith;
      marks = omega arith;
      leaves = record { others = λ x n at some absent inside. refl; links = λ x n at inside beside. refl; groups_stay = λ k n at some absent inside. refl };
      shape = refl;
    })

module _ (s m : State) (node label : ℕ) (own : OwnGroup) (came groups free : List ℕ) (spread : HasSpread s.records node groups came)
    (added : HasAdded s m node label groups free own) where
  off : (k : ℕ) → In k groups → k ≢ own.row.id
  off k i e = let walk = walk_of_chain _ _ format.nil (first_link m.records node) (own.row.id ∷ groups) added.made.chain.chain in
      head_once (next_group m.records) own.row.id groups walk.1 walk.2 (subst (λ z. In z groups) e i)

  number : (k n at : ℕ) → In k groups → at + n ≤ 64 → (at + n ≤ 12) ⊎ (16 ≤ at)
      → field n (rec_at m.records format.groups_file k) at ≡ field n (rec_at s.records format.groups_file k) at
  number k n at i inside apart = added.made.numbers k n at inside (off k i) (λ _. apart)

  rels : (x : ℕ) → rec_at m.records format.relationships_file x ≡ rec_at s.records format.relationships_file x
  rels x = added.made.stays (record { file = format.relationships_file; id = x }) (λ e. let f = ap (λ (k : Key). k.file) e in omega arith)
      (λ e. let f = ap (λ (k : Key). k.file) e in omega arith)
      (λ e. let f = ap (λ (k : Key). k.file) e in omega arith) (λ e. let f = ap (λ (k : Key). k.file) e in omega arith)

  meta : m.records (meta_key_of format.relationships_file) ≡ s.records (meta_key_of format.relationships_file)
  meta = added.made.stays (meta_key_of format.relationships_file) (λ e. let f = ap (λ (k : Key). k.id) e in omega arith)
      (λ e. let f = ap (λ (k : Key). k.file) e in omega arith)
      (λ e. let f = ap (λ (k : Key). k.file) e in omega arith) (λ e. let f = ap (λ (k : Key). k.file) e in omega arith)

  rows : (x : ℕ) → rel_at m.records x ≡ rel_at s.records x
  rows x = λ i. row_if (kind_in (metas.meta_of (meta i)).high (rels x i) x) (rel_in (rels x i) x)

  type_m : (k : ℕ) → In k groups → type_of m.records k ≡ type_of s.records k
  type_m k i = number k 4 format.group_type i (omega arith) (inl (omega arith))

  row_is : group_row_at m.records own.row.id ≡ empty_row own.row.id label
  row_is = added.made.here ∙ added.made.is

  type_here : type_of m.records own.row.id ≡ label
  type_here = ap (λ (r : GroupRow). r.label) row_is

  counted_here : is_counted (rec_at m.records format.groups_file own.row.id) ≡ true
  counted_here = ap (λ (r : GroupRow). r.counted) row_is

  kind_m : (k : ℕ) → In k groups → kind_at m.records format.groups_file k ≡ kind_at s.records format.groups_file k
  kind_m k i =
      let lt = group_below s.records node k (spread.chain.only k i) in
      let le = marks_grow free (high s.records format.groups_file) in
      let grown = added.made.mark in
      kind_low (high m.records format.groups_file) (rec_at m.records format.groups_file k) k (omega arith)
      ∙ number k 1 format.kind i (omega arith) (inl (omega arith)) ∙ sym
      (kind_low (high s.records format.groups_file) (rec_at s.records format.groups_file k) k lt)

  member_m : (k : ℕ) (side : Side) (x : ℕ) → In k groups → IsMember s.records node (type_of s.records k) side x
      → IsMember m.records node (type_of m.records k) side x
  member_m k side x i a = member_again s.records m.records node (type_of s.records k) (type_of m.records k) side x (rows x) (sym (type_m k i)) a

  member_s : (label other : ℕ) (side : Side) (x : ℕ) → label ≡ other → IsMember m.records node label side x → IsMember s.records node other side x
  member_s label other side x same a = member_again m.records s.records node label other side x (sym (rows x)) same a

  old_side : (k : ℕ) → In k groups → (side : Side) → HasSide m.records node came k side
  old_side k i side =
      let was = spread.sides k i side in
      let range = place_range side in
      let count = count_is side in
      let first : rules.first_of m.records (group_head k side) ≡ rules.first_of s.records (group_head k side) =
      number k 4 (place_of side) i (omega arith) (inr (omega arith)) in
      side_by m.records node came k side was.members (added.made.chain.only k (inr i))
      (subst (λ f. IsChainFrom m.records node f was.members) (sym first)
      (chain_stays (next_of s.records node) (prev_of s.records node) (next_of m.records node) (prev_of m.records node) format.nil (rules.first_of s.records
      (group_head k side)) was.members
      (λ x j. ap (λ r. next_in r node) (rels x)) (λ x j. ap (λ r. prev_in r node) (rels x)) was.list.chain))
      (λ x j. let a = was.are x j in (a.0, member_m k side x i a.1)) (λ x j a. was.all x j (member_s (type_of m.records k) (type_of s.records k) side x
      (type_m k i) a))
      (number k 4 (count_place (place_of side)) i (omega arith) (inr (omega arith)) ∙ was.count)

  none_here : (side : Side) → rules.first_of m.records (group_head own.row.id side) ≡ format.nil
  none_here Out = ap (λ (r : GroupRow). r.first_out) row_is
  none_here Into = ap (λ (r : GroupRow). r.first_in) row_is
  none_here Loop = ap (λ (r : GroupRow). r.first_loop) row_is

  zero_here : (at : ℕ) → count_in (rec_at m.records format.groups_file own.row.id) at ≡ 0 → field 4 (rec_at m.records format.groups_file own.row.id) at ≡ 0
  zero_here at is = sym (ap (λ b. cond b (field 4 (rec_at m.records format.groups_file own.row.id) at) 0) counted_here) ∙ is

  no_count : (side : Side) → field 4 (rec_at m.records format.groups_file own.row.id) (count_place (place_of side)) ≡ 0
  no_count Out = zero_here format.group_out_count (ap (λ (r : GroupRow). r.out_count) row_is)
  no_count Into = zero_here format.group_in_count (ap (λ (r : GroupRow). r.in_count) row_is)
  no_count Loop = zero_here format.group_loop_count (ap (λ (r : GroupRow). r.loop_count) row_is)

  new_side : (side : Side) → HasSide m.records node came own.row.id side
  new_side side = side_by m.records node came own.row.id side [] (added.made.chain.only own.row.id (inl refl)) (none_here side) (λ x j. elim j [ ])
      (λ x j a.
      let at = spread.placed x j in
      absurd (added.lacks at.0 at.2.0 (one_place s.records node (type_of s.records at.0) label at.1 side x at.2.1 (member_s (type_of m.records own.row.id)
      label side x type_here a)).0)) (no_count side)

  -- the identifier wasn't in use
  pub added_fresh : CanTakeEach s free → kind_at s.records format.groups_file own.row.id ≡ format.free_kind
  added_fresh can = by free added.made.first_free can.take.unused
    where
      by : (ids : List ℕ) → own.row.id ≡ first_of ids (high s.records format.groups_file)
          → ((x : ℕ) → In x ids → kind_at s.records format.groups_file x ≡ format.free_kind)
          → kind_at s.records format.groups_file own.row.id ≡ format.free_kind
      by [] is unused = kind_high (high s.records format.groups_file) (rec_at s.records format.groups_file own.row.id) own.row.id (omega arith)
      by (x ∷ later) is unused = ap (kind_at s.records format.groups_file) is ∙ unused x (inl refl)

  pub added_off : ¬ In own.row.id groups
  added_off i = off own.row.id i refl

  pub ready_added : IsReady s m node label own.row.id came (own.row.id ∷ groups) (rest_of free)
  ready_added = record {
    chain = added.made.chain;
    here = inl refl;
    named = type_here;
    counted = λ k i. ⊎_elim (λ e. ap (kind_at m.records format.groups_file) e ∙ kind_here) (λ j. kind_m k j ∙ spread.counted k j) i;
    sides = λ k i side. ⊎_elim (λ e. subst (λ z. HasSide m.records node came z side) (sym e) (new_side side)) (λ j. old_side k j side) i;
    typed = λ k i. ⊎_elim (λ e. inl e) (λ j. let a = spread.typed k j in inr (a.0, a.1, (a.2.0, member_m k a.1 a.0 j a.2.1))) i;
    placed = λ x j. let a = spread.placed x j in (a.0, a.1, (inr a.2.0, member_m a.0 a.1 x a.2.0 a.2.1));
    take = added.take;
    rels = rels;
    rows = rows;
    mark = ap (λ r. (metas.meta_of r).high) meta;
    live = let l = added.made.live in omega arith;
    marks = let le = marks_grow free (high s.records format.groups_file) in let grown = added.made.mark in omega arith;
    leaves = record {
      others = λ x n at some absent inside. ap (λ r. field n r at) (rels x);
      links = λ x n at inside beside. ap (λ r. field n r at) (rels x);
      groups_stay = λ k n at some absent inside. added.made.numbers k n at inside (λ e. absent (inl e))
          (λ e. absurd (⊎_elim (λ none. some (e ∙ none)) (λ i. absent (inr (subst (λ z. In z groups) (sym e) i))) first_known));
    };
    shape = added.shape;
  }
    where
      first_known : (first_link s.records node ≡ format.nil) ⊎ In (first_link s.records node) groups
      first_known = first_in (next_group s.records) (first_link s.records node) groups
          (walk_of_chain _ _ format.nil (first_link s.records node) groups spread.chain.chain)

      kind_here : kind_at m.records format.groups_file own.row.id ≡ format.counted
      kind_here = kind_low (high m.records format.groups_file) (rec_at m.records format.groups_file own.row.id) own.row.id
          (group_below m.records node own.row.id (added.made.chain.only own.row.id (inl refl))) ∙ eqb-true _ _ counted_here

-- ---- no damage is told

pub node_read : (s l : State) (node : ℕ) → SameButReads s l → nodes.IsReadable s node → nodes.IsReadable l node
node_read s l node same can = subst (λ (q : State). nodes.IsReadable q node) (sym same) (record { mark = can.mark; kind = can.kind })

pub make_read : (s l : State) (node label : ℕ) (groups free : List ℕ) → SameButReads s l → IsGroupChain s.records node groups → LacksType s.records label groups
    → CanTakeEach s free → CanMake l node label free groups
make_read s l node label groups free same chain lacks can = subst (λ (q : State). CanMake q node label free groups) (sym same)
    (record { chain = chain; lacks = lacks; take = can_read s l.reads free can.take })

pub can_walk : (s : State) (node : ℕ) (groups free : List ℕ) → IsGroupChain s.records node groups → CanTakeEach s free
    → IsWalkable s node (first_link s.records node) groups
can_walk s node groups free chain can = record {
  mark = can.take.mark;
  list = record {
    walk = walk_of_chain _ _ format.nil (first_link s.records node)
        groups chain.chain;
    only = chain.only;
  };
}
