-- A group that gets its numbers: what stays of the rules.
use Rattle.std.proofs.Common.{◌≡◌, ◌≢◌, ℕ, ◌+◌, ◌<◌, ◌^◌, min, nat_eq, Bool, true, false, Some, List, [], sym, ap, ◌∙◌, subst, inl, inr, ⊎_elim, arith, refl}
use Rattle.std.proofs.lemmas.Bool.{true≢false}
use Rattle.rec_bytes.specs.declared.damage.Damage.{Damage}
use Rattle.rec_bytes.specs.declared.fault.Fault.{Fault}
use Rattle.rec_bytes.specs.declared.fault.Fault.TheVariants.{Memory, Disk, Damaged}
use Rattle.rec_bytes.specs.declared.record.Rec.{Rec}
use Rattle.rec_bytes.specs.Format as format
use Rattle.rec_bytes.specs.Record.{field}
use Rattle.rec_bytes.specs.Space.{SameButReads, State, after_get, put}
use Rattle.store_rules.specs.Breaking.{Breaks}
use Rattle.store_rules.specs.Breaking.Breaks.{WrongDegree}
use Rattle.store_rules.specs.Chains.{IsWalk}
use Rattle.store_rules.specs.Ends.{Regroups}
use Rattle.store_rules.specs.Ranges.{Fits}
use Rattle.store_rules.specs.Rules.{HasCounts, KeepsRules, count_of, degree_of, first_of, is_into, is_loop_of, is_out_of, passes}
use Rattle.store_rules.specs.Views as views
use Rattle.store_rules.specs.Views.{Records, RelRow, degree, group_at, high, is_group_kind, key_in, kind_at, rec_at, rel_at}
use Rattle.store_rules.proofs.Counts.{length-ids}
use Rattle.store_rules.proofs.GroupLaws.{same_group}
use Rattle.store_rules.proofs.MetaLaws.{high_fits}
use Rattle.store_rules.proofs.NumberLaws.{nat_cases}
use Rattle.store_rules.proofs.ViewLaws.{group_kinds, group_used, kind_below, kind_low}
use Rattle.chain_edit.specs.Breaks.{IsBreakFault}
use Rattle.chain_edit.specs.Chains.{next_of}
use Rattle.chain_edit.specs.Length.{HasCounted, IsLengthDamage, IsLengthFault, IsMemberChain, is_member}
use Rattle.chain_edit.specs.Length.IsLengthDamage.{HighMark, NoChain}
use Rattle.chain_edit.specs.declared.members.Members.{Members}
use Rattle.chain_edit.proofs.Walks.{walk_in}
use Rattle.group_store.specs.declared.group_row.GroupRow.{GroupRow}
use Rattle.group_store.specs.declared.raising.Counts.{Counts}
use Rattle.group_store.specs.declared.side.Side.{Side}
use Rattle.group_store.specs.declared.side.Side.TheVariants.{Out, In as Into, Loop}
use Rattle.group_store.specs.GroupRecord.{is_counted}
use Rattle.group_store.specs.Raising.{AreLengths, CanRaise, HasLength, HasRaised, IsCountDamage, IsCountFault}
use Rattle.group_store.specs.Raising.{IsGroupAt, degree_damage, first_in, members_of, raised, raised_state}
use Rattle.group_store.specs.Sides.{group_head}
use Rattle.group_store.proofs.GroupPuts as puts
use Rattle.group_store.proofs.GroupRules.{row_of_group}
use Rattle.group_store.proofs.Leaves.{leaves_both, leaves_put, leaves_read}
use Rattle.group_store.proofs.Opens.{all_but, but_all}
use Rattle.group_store.proofs.RaisedRecords as records
use Rattle.group_store.proofs.Regrouping.{regroups_both, regroups_of, regroups_read}
use Rattle.group_store.proofs.SideCounts.{chain_of_side, length_is, less_said, row_as}

-- ---- after reads

pub breaks_read : (s z : State) → SameButReads s z → (fault : Fault) → IsBreakFault z fault → IsBreakFault s fault
breaks_read s z same Memory told = tt
breaks_read s z same Disk told = tt
breaks_read s z same (Damaged damage) told = subst (λ (q : State). Breaks q.records q.shape damage) same told

-- which record is said to be damaged
pub length_names : (s : State) (node g first : ℕ) (members : Members) (fault : Fault) → IsLengthFault s (key_in format.groups_file g) first node members fault
    → IsCountFault node g fault
length_names s node g first members Memory told = tt
length_names s node g first members Disk told = tt
length_names s node g first members (Damaged damage) told = by damage told
  where
    by : (damage : Damage) → IsLengthDamage s (key_in format.groups_file g) first node members damage → IsCountDamage node g damage
    by damage (NoChain none) = inl refl
    by damage (HighMark above) = inr (inr refl)

group_reads : (s : State) (r node : ℕ) (row : GroupRow) → IsGroupAt s node row → IsGroupAt (record s { reads = r }) node row
group_reads s r node row at = record { dense = at.dense; member = at.member; on = at.on; is = at.is }

pub can_read : (s z : State) (node : ℕ) (row : GroupRow) (most : ℕ) (empty : List ℕ) → SameButReads s z → CanRaise s node row most empty
    → CanRaise z node row most empty
can_read s z node row most empty same can =
    subst (λ (q : State). CanRaise q node row most empty) (sym same) (record { keeps = can.keeps; group = group_reads s z.reads node row can.group })

-- a read changes nothing else
pub got_same : (s z : State) → z ≡ after_get s → SameButReads s z
got_same s z e = e ∙ ap (λ r. record s { reads = r }) (ap (λ (q : State). q.reads) (sym e))

length_reads : (s : State) (r node first n : ℕ) → HasLength s node first n → HasLength (record s { reads = r }) node first n
length_reads s r node first n h = (h.0, record { chain = h.1.chain; few = h.1.few; low = h.1.low }, h.2)

-- numbers that are known before reads
pub lengths_read : (s z : State) (node : ℕ) (row : GroupRow) (counts : Counts) → SameButReads s z → AreLengths s node row counts → AreLengths z node row counts
lengths_read s z node row counts same h = subst (λ (q : State). AreLengths q node row counts) (sym same)
    (record {
      out = length_reads s z.reads node row.first_out counts.out h.out;
      into = length_reads s z.reads node row.first_in counts.into h.into;
      loops =
          length_reads s z.reads node row.first_loop counts.loops h.loops;
    })

counted_reads : (s : State) (r first node : ℕ) (members : Members) (budget n : ℕ) → HasCounted (record s { reads = r }) first node members budget n
    → HasCounted s first node members budget n
counted_reads s r first node members budget n h = record {
  last = h.last;
  counted = h.counted;
  many = h.many;
  walk = h.walk;
  low = h.low;
  key = h.key;
  are = h.are;
  whole = λ lt. let w = h.whole lt in (w.0, record { chain = w.1.chain; few = w.1.few; low = w.1.low }, w.2);
}

-- what was counted after reads
pub counted_read : (s z : State) (first node : ℕ) (members : Members) (budget n : ℕ) → SameButReads s z → HasCounted z first node members budget n
    → HasCounted s first node members budget n
counted_read s z first node members budget n same h = counted_reads s z.reads first node members budget n
    (subst (λ (q : State). HasCounted q first node members budget n) same h)

-- ---- the group of a row

module _ (s : State) (node : ℕ) (row : GroupRow) (at : IsGroupAt s node row) where
  pub group_is : group_at s.records row.id ≡ Some (row_as row.id row.label node)
  group_is = row_of_group s.records node row.id at.member
      ∙ (λ i. Some (record { id = row.id; label = ap (λ (q : GroupRow). q.label) (sym at.is) i; owner = at.member.owner i }))

  pub first_is : (z : Side) → first_in row z ≡ first_of s.records (group_head row.id z)
  first_is Out = ap (λ (q : GroupRow). q.first_out) at.is
  first_is Into = ap (λ (q : GroupRow). q.first_in) at.is
  first_is Loop = ap (λ (q : GroupRow). q.first_loop) at.is

  pub below : row.id < high s.records format.groups_file
  below = kind_below (high s.records format.groups_file) (rec_at s.records format.groups_file row.id) row.id
      (group_used (kind_at s.records format.groups_file row.id) at.member.kind)

  pub byte_is : kind_at s.records format.groups_file row.id ≡ field 1 (rec_at s.records format.groups_file row.id) format.kind
  byte_is = kind_low (high s.records format.groups_file) (rec_at s.records format.groups_file row.id) row.id below

  counted_byte : row.counted ≡ is_counted (rec_at s.records format.groups_file row.id)
  counted_byte = ap (λ (q : GroupRow). q.counted) at.is

  -- where the row has numbers the record has them
  pub counted_kind : row.counted ≡ true → kind_at s.records format.groups_file row.id ≡ format.counted
  counted_kind e = ⊎_elim
      (λ (k : kind_at s.records format.groups_file row.id ≡ format.grouped). absurd (true≢false (sym e ∙ counted_byte ∙ ap (λ v. nat_eq v format.counted)
      (sym byte_is ∙ k))))
      (λ (k : kind_at s.records format.groups_file row.id ≡ format.counted). k) (group_kinds (kind_at s.records format.groups_file row.id) at.member.kind)

  -- where it hasn't the record is of the other kind
  pub grouped_byte : row.counted ≡ false → field 1 (rec_at s.records format.groups_file row.id) format.kind ≡ format.grouped
  grouped_byte e = ⊎_elim
      (λ (k : kind_at s.records format.groups_file row.id ≡ format.grouped). sym byte_is ∙ k)
      (λ (k : kind_at s.records format.groups_file row.id ≡ format.counted). absurd (true≢false (sym (counted_byte ∙ ap (λ v. nat_eq v format.counted)
      (sym byte_is ∙ k)) ∙ e)))
      (group_kinds (kind_at s.records format.groups_file row.id) at.member.kind)

  -- more relationships than the degree says
  module _ (degree_is limit a b c : ℕ) {f g h k m n : ℕ} (is : degree_is ≡ degree s.records node) (allowed : limit ≡ min (degree_is + 1) 4294967295)
      (all : (a + b) + c ≡ limit)
      (out : HasCounted s f node (members_of row.label Out) k a) (into : HasCounted s g node (members_of row.label Into) m b)
      (loops : HasCounted s h node (members_of row.label Loop) n c) where
    wrong : degree s.records node ≢ degree_of (rel_at s.records) (high s.records format.relationships_file) node
    wrong e = less_said s node row.label a b c out into loops degree_is limit allowed all (is ∙ e)

    used : kind_at s.records format.nodes_file node ≢ 0
    used e = let d = at.dense in omega arith

    pub degree_breaks : Breaks s.records s.shape (degree_damage node)
    degree_breaks = WrongDegree node (kind_below (high s.records format.nodes_file) (rec_at s.records format.nodes_file node) node used)
        (λ keeps. wrong (keeps.exact used))

    pub degree_right : {most : ℕ} {empty : List ℕ} → KeepsRules s.records s.shape most empty → ⊥
    degree_right well = wrong (well.degrees.each node used)

-- ---- in a store that keeps the rules

-- the chain of a side
pub side_chain : (s : State) (node : ℕ) (row : GroupRow) (most : ℕ) (empty : List ℕ) → CanRaise s node row most empty → (z : Side) → (xs : List ℕ)
    × IsMemberChain s (first_in row z) node (members_of row.label z) xs
side_chain s node row most empty can z =
    let c = chain_of_side s.records row.id row.label node (group_is s node row can.group) s.shape can.keeps can.group.dense z s refl in
    (c.0, subst (λ f. IsMemberChain s f node (members_of row.label z) c.0) (sym (first_is s node row can.group z)) c.1)

module _ (s : State) (node : ℕ) (row : GroupRow) (most : ℕ) (empty : List ℕ) (can : CanRaise s node row most empty) (uncounted : row.counted ≡ false)
    (counts : Counts) (lengths : AreLengths s node row counts) where
  at : IsGroupAt s node row
  at = can.group

  g : ℕ
  g = row.id

  abbrev gr : views.GroupRow
  gr = row_as row.id row.label node

  mark_small : high s.records format.relationships_file < 2 ^ 32
  mark_small = high_fits s.records format.relationships_file

  -- the number of a side is that of the relationships that stand there
  number : (z : Side) (n : ℕ) → HasLength s node (first_in row z) n → n ≡ count_of (λ rel. is_member node (members_of row.label z) rel) (rel_at s.records)
      (high s.records format.relationships_file)
  number z n h = sym h.2 ∙ length_is s.records row.id row.label node (group_is s node row at) s.shape can.keeps at.dense z h.0
      (subst (λ f. IsWalk (next_of s.records node) f h.0) (first_is s node row at z) (walk_in s (first_in row z) node n h.0 h.1))

  small : (test : RelRow → Bool) (n : ℕ) → n ≡ count_of test (rel_at s.records) (high s.records format.relationships_file) → n < 2 ^ 32
  small test n e = let le = length-ids (λ x. passes test (rel_at s.records x)) (high s.records format.relationships_file) in let m = mark_small in omega arith

  out_is : counts.out ≡ count_of (is_out_of gr) (rel_at s.records) (high s.records format.relationships_file)
  out_is = number Out counts.out lengths.out

  into_is : counts.into ≡ count_of (is_into gr) (rel_at s.records) (high s.records format.relationships_file)
  into_is = number Into counts.into lengths.into

  loops_is : counts.loops ≡ count_of (is_loop_of gr) (rel_at s.records) (high s.records format.relationships_file)
  loops_is = number Loop counts.loops lengths.loops

  a : counts.out < 2 ^ 32
  a = small (is_out_of gr) counts.out out_is

  b : counts.into < 2 ^ 32
  b = small (is_into gr) counts.into into_is

  c : counts.loops < 2 ^ 32
  c = small (is_loop_of gr) counts.loops loops_is

  abbrev r : Rec
  r = rec_at s.records format.groups_file row.id

  abbrev rec : Rec
  rec = raised r counts

  kind : field 1 rec format.kind ≡ format.counted
  kind = records.kind_is r counts a b c

  fits : Fits (high s.records) format.groups_file rec
  fits = records.fits_now r counts a b c (high s.records) (grouped_byte s node row at uncounted)
      (can.keeps.ranges.fit format.groups_file row.id refl (below s node row at))

  abbrev t : Records
  t = put s.records (key_in format.groups_file row.id) rec

  group_same : (k : ℕ) → group_at t k ≡ group_at s.records k
  group_same k = puts.group_same s.records s.shape node row.id rec at.member.kind (ap is_group_kind kind) (records.same r counts a b c) fits k

  counts_now : HasCounts rec gr (rel_at s.records) (high s.records format.relationships_file)
  counts_now = record {
    out = records.out_is r counts a b c ∙ out_is;
    into = records.into_is r counts a b c ∙ into_is;
    loops = records.loops_is r counts a b c ∙ loops_is;
  }

  exact : (k : ℕ) (q : views.GroupRow) → group_at t k ≡ Some q → kind_at t format.groups_file k ≡ format.counted
      → HasCounts (rec_at t format.groups_file k) q (rel_at s.records) (high s.records format.relationships_file)
  exact k q is counted = ⊎_elim
      (λ (e : k ≡ row.id).
      let same : gr ≡ q = same_group gr q (sym (group_is s node row at) ∙ ap (group_at s.records) (sym e) ∙ sym (group_same k) ∙ is) in
      subst (λ j. HasCounts (rec_at t format.groups_file j) q (rel_at s.records) (high s.records format.relationships_file)) (sym e)
      (subst (λ (v : Rec). HasCounts v q (rel_at s.records) (high s.records format.relationships_file))
      (sym (puts.here s.records s.shape node row.id rec at.member.kind (ap is_group_kind kind) (records.same r counts a b c) fits))
      (subst (λ (v : views.GroupRow). HasCounts rec v (rel_at s.records) (high s.records format.relationships_file)) same counts_now)))
      (λ (ne : k ≢ row.id).
      subst (λ (v : Rec). HasCounts v q (rel_at s.records) (high s.records format.relationships_file))
      (sym (puts.other s.records s.shape node row.id rec at.member.kind (ap is_group_kind kind) (records.same r counts a b c) fits k ne))
      (can.keeps.exact k q (sym (group_same k) ∙ is) (sym (puts.kind_other s.records s.shape node row.id rec at.member.kind (ap is_group_kind kind)
      (records.same r counts a b c) fits k ne) ∙ counted)))
      (nat_cases k row.id)

  keeps_now : KeepsRules t s.shape most empty
  keeps_now = but_all t s.shape node most empty
      (puts.put_keeps s.records s.shape node row.id rec at.member.kind (ap is_group_kind kind) (records.same r counts a b c) fits [] most empty
      (all_but s.records s.shape node most empty can.keeps)) exact

  pub raises : HasRaised s (raised_state s row.id counts) node row.id most empty
  raises = record {
    keeps = keeps_now;
    counted = puts.kind_here s.records s.shape node row.id rec at.member.kind (ap is_group_kind kind) (records.same r counts a b c) fits ∙ kind;
    kinds = λ n. refl;
    others = λ k ne. puts.kind_other s.records s.shape node row.id rec at.member.kind (ap is_group_kind kind) (records.same r counts a b c) fits k ne;
    groups = group_same;
    regroups = regroups_of s (raised_state s row.id counts) node (puts.frame s.records s.shape node row.id rec at.member.kind (ap is_group_kind kind)
        (records.same r counts a b c) fits) refl
        (λ k q is ne. group_same k ∙ is);
    leaves = leaves_put s (raised_state s row.id counts) node row.id rec gr (group_is s node row at) refl refl;
  }

-- one that has its numbers
pub raises_none : (s : State) (node : ℕ) (row : GroupRow) (most : ℕ) (empty : List ℕ) → CanRaise s node row most empty → row.counted ≡ true
    → HasRaised s s node row.id most empty
raises_none s node row most empty can counted = record {
  keeps = can.keeps;
  counted = counted_kind s node row can.group counted;
  kinds = λ n. refl;
  others = λ k ne. refl;
  groups = λ k. refl;
  regroups = regroups_read s s.reads node;
  leaves = leaves_read s s node refl;
}

-- after reads
pub raises_after : (s z t : State) (node g most : ℕ) (empty : List ℕ) → SameButReads s z → HasRaised z t node g most empty → HasRaised s t node g most empty
raises_after s z t node g most empty same h = record {
  keeps = h.keeps;
  counted = h.counted;
  kinds = λ n. h.kinds n ∙ ap (λ (q : State). kind_at q.records format.nodes_file n) same;
  others = λ k ne. h.others k ne ∙ ap (λ (q : State). kind_at q.records format.groups_file k) same;
  groups = λ k. h.groups k ∙ ap (λ (q : State). group_at q.records k) same;
  regroups = regroups_both s z t node (subst (λ (q : State). Regroups s q node) (sym same) (regroups_read s z.reads node)) h.regroups;
  leaves = leaves_both s z t node (subst (λ (q : State). Regroups s q node) (sym same) (regroups_read s z.reads node)) (leaves_read s z node same) h.leaves;
}
