-- The first link of a node that was loaded, and what follows from it.
use Rattle.std.proofs.Common.{◌≡◌, inr, ℕ, ◌+◌, ◌<◌, ◌≤◌, Bool, true, false, cond, List, length, Option, None, Some}
use Rattle.std.proofs.Common.{Result, Ok, Err, IfOk, IfErr, refl, sym, ap, ◌∙◌, subst, arith}
use Rattle.std.specs.Prelude.{◌↔◌, IfSome, ◌&&◌, nat_lt}
use Rattle.rec_bytes.specs.declared.damage.Damage.{Damage}
use Rattle.rec_bytes.specs.declared.row_fault.RowFault.{RowFault}
use Rattle.rec_bytes.specs.declared.row_fault.RowFault.TheVariants as row
use Rattle.rec_bytes.specs.Format as format
use Rattle.rec_bytes.specs.Space.{SameButReads, State, after_get}
use Rattle.store_rules.specs.Views.{Records, first_link, high, rec_at}
use Rattle.store_rules.proofs.NumberLaws.{lt_true}
use Rattle.store_rules.proofs.ViewLaws.{kind_below}
use Rattle.chain_edit.specs.Walking.{ReadsAtMost}
use Rattle.node_store.specs.declared.node_row.NodeRow.{NodeRow}
use Rattle.node_store.specs.Loading as nodes
use Rattle.node_store.proofs.Rows.{kind-row_at-Some}
use Rattle.rec_bytes.specs.declared.fault.Fault.{Fault}
use Rattle.rec_bytes.specs.declared.fault.Fault.TheVariants.{Memory, Disk, Damaged}
use Rattle.group_store.specs.declared.group_row.GroupRow.{GroupRow}
use Rattle.group_store.specs.Finding.{IsFindFault, IsFound, IsReached, IsSought}
use Rattle.group_store.specs.FirstGroup.{IsFirst, IsNodeFault, first_of}
use Rattle.group_store.specs.GroupChain.{IsDense, IsGroupChain, IsGroupList, IsOwnedList, LacksGroup, up_to_type}
use Rattle.rec_bytes.specs.Fault.{of_row}
use Rattle.group_store.specs.Loading.{HasNoKind, group_mark}
use Rattle.group_store.specs.Walking.{IsWalkDamage, IsWalkFault, IsWalkable}
use Rattle.group_store.specs.Walking.IsWalkDamage.{NoList, UnknownGroup, HighMark}
use Rattle.group_store.proofs.GroupWalks.{mark_then, reads_more, reads_none, reads_one, records_then, room_then}
use Rattle.group_store.proofs.Seeks.{dense_is, exactly_none, first_is, not_dense}

-- ---- a row that was loaded

pub is_first : (records : Records) (node : ℕ) (found : NodeRow) → Some found ≡ nodes.row_at records node → IsFirst records node (first_of found)
is_first records node found is = by found.dense refl
  where
    by : (b : Bool) → found.dense ≡ b → IsFirst records node (cond b (Some found.first) None)
    by true e = (dense_is records node found is e, first_is records node found is)
    by false e = not_dense records node found is e

load_one : (s : State) (node : ℕ) → node < nodes.node_mark s → node < nodes.node_room s → nodes.after_load s node ≡ after_get s
load_one s node low room = rw (lt_true node (nodes.node_mark s) low, lt_true node (nodes.node_room s) room) refl

pub was_read : (s now : State) (node : ℕ) (found : NodeRow) → Some found ≡ nodes.row_at s.records node → nodes.IsKnown s node → now ≡ nodes.after_load s node
    → IfSome (first_of found) (λ _. now ≡ after_get s)
was_read s now node found is known after = by found.dense
  where
    low : node < nodes.node_mark s
    low = kind_below (high s.records format.nodes_file) (rec_at s.records format.nodes_file node) node (kind-row_at-Some s.records node found (sym is)).0

    by : (b : Bool) → IfSome (cond b (Some found.first) None) (λ _. now ≡ after_get s)
    by true = after ∙ load_one s node low (known.room low)
    by false = tt

pub load_reads : (s now : State) (node : ℕ) → now ≡ nodes.after_load s node → ReadsAtMost 1 s now
load_reads s now node after = by (nat_lt node (nodes.node_mark s) && nat_lt node (nodes.node_room s)) after
  where
    by : (b : Bool) → now ≡ cond b (after_get s) s → ReadsAtMost 1 s now
    by true e = reads_one s now e
    by false e = subst (ReadsAtMost 1 s) (sym e) (reads_none s 1)

pub only_loads_node : (s now : State) (node : ℕ) → now ≡ nodes.after_load s node → SameButReads s now
only_loads_node s now node after = by (nat_lt node (nodes.node_mark s) && nat_lt node (nodes.node_room s)) after
  where
    by : (b : Bool) → now ≡ cond b (after_get s) s → SameButReads s now
    by true e = subst (SameButReads s) (sym e) refl
    by false e = subst (SameButReads s) (sym e) refl

pub node_fault : (s : State) (node : ℕ) (fault : RowFault) → nodes.IsNodeFault s node fault → IsNodeFault s node (of_row fault)
node_fault s node row.Disk told = tt
node_fault s node (row.Damaged damage) told = told

-- ---- a search from the first link on, told by the space as it was

pub walkable_then : (s now : State) (node first : ℕ) (xs : List ℕ) → ReadsAtMost 1 s now → first ≡ first_link s.records node
    → IsWalkable s node (first_link s.records node) xs → IsWalkable now node first xs
walkable_then s now node first xs reads is can =
    let mark = mark_then s now reads.count reads.is in
    let room = room_then s now reads.count reads.is in
    let le = can.mark in
    record {
      mark = omega arith;
      list = subst (λ z. IsGroupList now.records node z xs) (sym is) (subst (λ (r : Records). IsGroupList r node (first_link s.records node) xs)
          (sym (records_then s now reads.count reads.is)) can.list);
    }

pub reads_then : (s now end : State) (label : ℕ) (xs : List ℕ) → ReadsAtMost 1 s now → ReadsAtMost (length (up_to_type now.records label xs)) now end
    → ReadsAtMost (1 + length (up_to_type s.records label xs)) s end
reads_then s now end label xs reads more =
    let within = reads.within in
    let same : length (up_to_type now.records label xs) ≡ length (up_to_type s.records label xs) =
    ap (λ (r : Records). length (up_to_type r label xs)) (records_then s now reads.count reads.is) in
    reads_more s now end reads.count (length (up_to_type now.records label xs)) (1 + length (up_to_type s.records label xs)) (omega arith) reads.is more

pub all_reads_then : (s now end : State) → ReadsAtMost 1 s now → ReadsAtMost (group_mark now) now end → ReadsAtMost (1 + group_mark s) s end
all_reads_then s now end reads more =
    let within = reads.within in
    let mark = mark_then s now reads.count reads.is in
    reads_more s now end reads.count (group_mark now) (1 + group_mark s) (omega arith) reads.is more

pub reads_fewer : (s now : State) (m n : ℕ) → m ≤ n → ReadsAtMost m s now → ReadsAtMost n s now
reads_fewer s now m n le reads = let within = reads.within in record { count = reads.count; within = omega arith; is = reads.is }

pub reached_then : (s now : State) (node first : ℕ) (r : Result (Option GroupRow) Fault) → ReadsAtMost 1 s now → first ≡ first_link s.records node
    → IfOk r (λ found. IfSome found (λ row. IsReached now.records first row.id))
    → IfOk r (λ found. IfSome found (λ row. IsReached s.records (first_link s.records node) row.id))
reached_then s now node first r reads is told = subst (λ f. IfOk r (λ found. IfSome found (λ row. IsReached s.records f row.id))) is
    (subst (λ (q : Records). IfOk r (λ found. IfSome found (λ row. IsReached q first row.id))) (records_then s now reads.count reads.is) told)

pub found_then : (s now : State) (node first label : ℕ) (r : Result (Option GroupRow) Fault) → ReadsAtMost 1 s now → IsDense s.records node
    → first ≡ first_link s.records node
    → IfOk r (IsSought now.records node first label) → IfOk r (IsFound s.records node label)
found_then s now node first label (Err fault) reads dense is found = tt
found_then s now node first label (Ok found) reads dense is sought = by found (subst (λ z. IsSought s.records node z label found) is
    (subst (λ (r : Records). IsSought r node first label found) (records_then s now reads.count reads.is) sought))
  where
    by : (found : Option GroupRow) → IsSought s.records node (first_link s.records node) label found → IsFound s.records node label found
    by None h = λ _. h
    by (Some row) h = (dense, h)

pub none_then : (records : Records) (node label : ℕ) (xs : List ℕ) (r : Result (Option GroupRow) Fault) → IsDense records node → IsGroupChain records node xs
    → IfOk r (IsFound records node label) → IfOk r (λ found. (found ≡ None) ↔ LacksGroup records node label)
none_then records node label xs (Err fault) dense chain found = tt
none_then records node label xs (Ok found) dense chain is = exactly_none records node label xs found dense chain is

pub fault_then : (s now : State) (node first : ℕ) (r : Result (Option GroupRow) Fault) → ReadsAtMost 1 s now → first ≡ first_link s.records node
    → IfErr r (IsWalkFault now node first) → IfErr r (IsFindFault s node)
fault_then s now node first (Ok found) reads is told = tt
fault_then s now node first (Err Memory) reads is told = tt
fault_then s now node first (Err Disk) reads is told = tt
fault_then s now node first (Err (Damaged damage)) reads is told = inr (subst (λ z. IsWalkDamage s node z damage) is (by damage told))
  where
    by : (damage : Damage) → IsWalkDamage now node first damage → IsWalkDamage s node first damage
    by damage (NoList none) = NoList (λ xs list. none xs (subst (λ (r : Records). IsOwnedList r node first xs) (sym (records_then s now reads.count reads.is))
        list))
    by damage (UnknownGroup g none below unknown) = UnknownGroup g
        (λ xs list. none xs (subst (λ (r : Records). IsGroupList r node first xs) (sym (records_then s now reads.count reads.is)) list))
        (let mark = mark_then s now reads.count reads.is in omega arith)
        (subst (λ (r : Records). HasNoKind r g) (records_then s now reads.count reads.is) unknown)
    by damage (HighMark above) = HighMark (let mark = mark_then s now reads.count reads.is in let room = room_then s now reads.count reads.is in omega arith)
