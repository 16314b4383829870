use Rattle.std.proofs.Common.{◌≡◌, ◌⊎◌, ◌+◌, ◌*◌, ◌<◌, [], length, take, get_or, true, false, sym, ap, ◌∙◌, subst, inl, refl, arith}
use Rattle.std.proofs.lemmas.List.{get_or_read}
use Rattle.plain_graph.specs.declared.pairs.Pair.{Pair}
use Rattle.plain_graph.specs.declared.value.Value.TheVariants as values
use Rattle.prop_index.proofs.ContentsWanted.{node_mark}
use Rattle.prop_index.proofs.FillSteps.{elsewhere_of}
use Rattle.prop_index.proofs.IndexTouches.{index_then}
use Rattle.prop_index.proofs.LinkRules.{free_list, store_takes}
use Rattle.rec_bytes.specs.Format as format
use Rattle.rec_bytes.specs.RecordFiles.{room_of}
use Rattle.rec_bytes.specs.Space.{meta_of}
use Rattle.rec_bytes.specs.declared.shape.Shape.{Shape}
use Rattle.change_parts.specs.Assigning.{pair_at}
use Rattle.change_parts.specs.ChangeFault.{IsOutside, of_take}
use Rattle.change_parts.specs.Damage.{BlamesEntry, IfBlames, IsListOrFound}
use Rattle.change_parts.proofs.Broken.{blames_more}
use Rattle.node_changes.specs.Entries.{IsEntryFault, indexed_of, is_listed}
use Rattle.change_parts.specs.declared.assigning.Assignment.{Assignment}
use Rattle.node_changes.proofs.EntriesMade.{IsEntering, count_few, count_more, entered_all, entered_lacks, entered_more, entered_none, entered_skip}
use Rattle.node_changes.proofs.EntriesFaults.{take_blames, take_full, take_outside, take_untouched}
use Rattle.change_parts.proofs.Broken.{blames_both}
use Rattle.node_changes.proofs.EntriesNamed.{listed_some, named_found, still_has, take_named}
use Rattle.prop_index.proofs.Sparing.{spares_none, spares_then}
use Rattle.change_parts.proofs.Exits.{fault_exit}
use Rattle.rec_bytes.proofs.Causes.{never_ok, ok_cause}
use Rattle.node_changes.proofs.entries.enter_values.Goals as goal
use Rattle.node_changes.proofs.entries.enter_values.Goals.{then-has_pair+in_ok-enter, else-has_pair}

pub loop-assignment-init : goal.loop-assignment-init
loop-assignment-init g c =
    let s = g.S.Reads.state c.args.space.now in
    record {
      entered = λ tells wanted right low lacks once. (
        entered_none c.args.listed.now c.args.label c.args.node c.args.pairs.now wanted c.args.assigned.now
            s.records right.indexed right.are,
        right.kept,
        refl,
      );
      counted = λ tells. omega arith;
      touched = record {
        ids = [];
        few = omega arith;
        only = record { writes = record { each = λ q w. inl w }; stays = λ told. record { each = λ q. inl refl } };
      };
      spared = λ tells. spares_none s s refl;
      onward_is = g.met.S.Reads.stays_onward c.args.space.now;
      later = omega arith;
    }

pub loop-assignment-preserved : goal.loop-assignment-preserved
loop-assignment-preserved g c =
    let s = g.S.Reads.state c.args.space.now in
    let m = g.S.Reads.state c.loop-assignment.space in
    let inv = c.loop-assignment.invariant in
    let listed = c.args.listed.now in
    let assigned = c.args.assigned.now in
    let pairs = c.args.pairs.now in
    let label = c.args.label in
    let node = c.args.node in
    let i = c.loop-assignment.assignment-index in
    let lt = c.loop-assignment-test.true in
    let d : Assignment = record { key = 0; pair = 0 } in
    let this = get_or assigned i d in
    elim c.if-has_pair.branch [
      | then-has_pair+in_ok-enter w ↦
          let t = g.S.Reads.state w.enter.new.space in
          let there : is_listed listed label this.key ≡ true = sym c.has_pair.ensures ∙ w.if-has_pair.true in
          let value = (get_or pairs this.pair w.index-pairs-assignment.result).value in
          let inside = c.requires.placed i d lt in
          let is : value ≡ (pair_at pairs this.pair).value = ap (λ (p : Pair). p.value)
          (sym w.index-pairs-assignment.is ∙ get_or_read pairs this.pair w.index-pairs-assignment.result inside w.index-pairs-assignment.is
          (record { key = []; value = values.Text [] })) in
          let count = count_more listed label assigned i d lt true there in
          subst (λ sp. IsEntering g.S.Reads.tells (g.S.Reads.onward c.args.space.now sp) s (g.S.Reads.state sp) (g.S.Reads.faults c.args.space.now)
          (g.S.Reads.faults sp) listed label node assigned pairs (i + 1)) (sym w.space-is)
          (record {
            entered = λ tells wanted right low lacks once.
                let was = inv.entered tells wanted right low lacks once in
                let same = node_mark s.records m.records (elsewhere_of g.S.Reads.tells s m inv.touched.ids tells inv.touched.only) in
                let none = entered_lacks listed label node pairs wanted assigned i d lt there lacks once value in (
                  entered_more listed label node pairs wanted assigned i d lt there value is t.records
                      (w.in_ok-enter.ensures.entered tells _ (free_list m was.1).0 was.0 (store_takes m was.1) none),
                  w.in_ok-enter.ensures.keeps tells _ was.0 was.1 (omega (arith, same, low)),
                  w.in_ok-enter.ensures.graph tells _ (free_list m was.1).0 was.0 (store_takes m was.1) ∙ was.2,
                );
            counted = λ tells. let before = inv.counted tells in let one = w.in_ok-enter.ensures.counted tells in omega (arith, before, one, count);
            touched = index_then (3 * length (indexed_of listed label (take i assigned))) 3 (3 * length (indexed_of listed label (take (i + 1) assigned))) s m t
                (omega (arith, count)) inv.touched w.enter.ensures.touches;
            spared = λ tells. spares_then s m t (inv.spared tells) (w.in_ok-enter.ensures.spares tells);
            onward_is = g.met.S.Reads.further_onward _ _ _ inv.onward_is w.enter.ensures.onward;
            later = let a = inv.later in let b = w.enter.ensures.cause.later in omega arith;
          })
      | else-has_pair w ↦
          let none : is_listed listed label this.key ≡ false = sym c.has_pair.ensures ∙ w.if-has_pair.false in
          let count = count_more listed label assigned i d lt false none in
          subst (λ sp. IsEntering g.S.Reads.tells (g.S.Reads.onward c.args.space.now sp) s (g.S.Reads.state sp) (g.S.Reads.faults c.args.space.now)
          (g.S.Reads.faults sp) listed label node assigned pairs (i + 1)) (sym w.space-is)
          (record {
            entered = λ tells wanted right low lacks once.
                let was = inv.entered tells wanted right low lacks once in
                (entered_skip listed label node pairs wanted assigned i d lt none m.records was.0, was.1, was.2);
            counted = λ tells. let before = inv.counted tells in omega (arith, before, count);
            touched = record { ids = inv.touched.ids; few = let few = inv.touched.few in omega (arith, few, count); only = inv.touched.only };
            spared = inv.spared;
            onward_is = inv.onward_is;
            later = inv.later;
          })
    ]

pub returns-clause-entered : goal.returns-clause-entered
returns-clause-entered g c tells wanted right low lacks once =
    let t = g.S.Reads.state c.loop-assignment.space in
    entered_all c.args.listed.now c.args.label c.args.node c.args.pairs.now wanted c.args.assigned.now c.loop-assignment.assignment-index
    (omega (arith, c.loop-assignment-test.false)) t.records (c.loop-assignment.invariant.entered tells wanted right low lacks once).0

pub returns-clause-keeps : goal.returns-clause-keeps
returns-clause-keeps g c tells wanted right low lacks once = (c.loop-assignment.invariant.entered tells wanted right low lacks once).1

pub returns-clause-graph : goal.returns-clause-graph
returns-clause-graph g c tells wanted right low lacks once = (c.loop-assignment.invariant.entered tells wanted right low lacks once).2

pub returns-in_err-enter-clause-not_damaged : goal.returns-in_err-enter-clause-not_damaged
returns-in_err-enter-clause-not_damaged g c tells wanted right low lacks once room =
    let s = g.S.Reads.state c.args.space.now in
    let m = g.S.Reads.state c.loop-assignment.space in
    let inv = c.loop-assignment.invariant in
    let was = inv.entered tells wanted right low lacks once in
    let listed = c.args.listed.now in
    let assigned = c.args.assigned.now in
    let i = c.loop-assignment.assignment-index in
    let there : is_listed listed c.args.label (get_or assigned i (record { key = 0; pair = 0 })).key ≡ true = sym c.has_pair.ensures ∙ c.if-has_pair.true in
    let count = count_more listed c.args.label assigned i (record { key = 0; pair = 0 }) c.loop-assignment-test.true true there in
    let few = count_few listed c.args.label assigned (i + 1) in
    let counted = inv.counted tells in
    let shape = ap (λ (shape : Shape). room_of shape format.index_file) (g.met.S.Reads.onward_shape _ _ inv.onward_is) in
    let left : (meta_of m format.index_file).live < room_of m.shape format.index_file = omega (arith, count, few, counted, shape, room) in
    fault_exit of_take IsOutside c.in_err-enter.field-0.0 c.from_residual.result c.from_residual.ensures.1
    (take_outside Unit m c.in_err-enter.field-0.0 (c.in_err-enter.ensures.not_damaged tells _ (free_list m was.1).0 was.0 (store_takes m was.1))
    (c.in_err-enter.ensures.full tells) left)

pub returns-in_err-enter-clause-blames : goal.returns-in_err-enter-clause-blames
returns-in_err-enter-clause-blames g c tells =
    let t = g.S.Reads.state c.enter.new.space in
    fault_exit of_take (BlamesEntry t) c.in_err-enter.field-0.0 c.from_residual.result c.from_residual.ensures.1
    (take_blames t c.in_err-enter.field-0.0 (c.in_err-enter.ensures.damaged_after tells) (c.in_err-enter.ensures.names tells))

pub returns-in_err-enter-clause-found : goal.returns-in_err-enter-clause-found
returns-in_err-enter-clause-found g c tells has =
    let s = g.S.Reads.state c.args.space.now in
    let m = g.S.Reads.state c.loop-assignment.space in
    let t = g.S.Reads.state c.enter.new.space in
    let spared = c.loop-assignment.invariant.spared tells in
    let fault = c.in_err-enter.field-0.0 in
    let there = sym c.has_pair.ensures ∙ c.if-has_pair.true in
    let h = still_has s m spared (has (listed_some c.args.listed.now c.args.label _ there)) in
    fault_exit of_take (IfBlames (IsListOrFound s t)) fault c.from_residual.result c.from_residual.ensures.1
    (blames_more _ _ (λ damage k. named_found s m t damage spared k.0 k.1) (of_take fault)
    (blames_both _ _ (of_take fault) (take_named m fault (c.in_err-enter.ensures.listed tells h.members h.list))
    (take_untouched m t fault c.in_err-enter.ensures.unwritten)))

pub returns-in_err-enter-clause-touches : goal.returns-in_err-enter-clause-touches
returns-in_err-enter-clause-touches g c =
    let inv = c.loop-assignment.invariant in
    let listed = c.args.listed.now in
    let assigned = c.args.assigned.now in
    let i = c.loop-assignment.assignment-index in
    let there : is_listed listed c.args.label (get_or assigned i (record { key = 0; pair = 0 })).key ≡ true = sym c.has_pair.ensures ∙ c.if-has_pair.true in
    let count = count_more listed c.args.label assigned i (record { key = 0; pair = 0 }) c.loop-assignment-test.true true there in
    let few = count_few listed c.args.label assigned (i + 1) in
    index_then (3 * length (indexed_of listed c.args.label (take i assigned))) 3 (3 * length (indexed_of listed c.args.label assigned)) _ _ _
    (omega (arith, count, few)) inv.touched c.enter.ensures.touches

pub returns-in_err-enter-clause-full : goal.returns-in_err-enter-clause-full
returns-in_err-enter-clause-full g c tells =
    let t = g.S.Reads.state c.enter.new.space in
    fault_exit of_take (IsEntryFault t) c.in_err-enter.field-0.0 c.from_residual.result c.from_residual.ensures.1
    (take_full t c.in_err-enter.field-0.0 (c.in_err-enter.ensures.crowded tells))

pub returns-in_err-enter-clause-some : goal.returns-in_err-enter-clause-some
returns-in_err-enter-clause-some g c =
    fault_exit of_take (λ _. 0 < length c.args.assigned.now) c.in_err-enter.field-0.0 c.from_residual.result c.from_residual.ensures.1
    (omega (arith, c.loop-assignment-test.true))

pub returns-in_err-enter-clause-entered : goal.returns-in_err-enter-clause-entered
returns-in_err-enter-clause-entered g c _ _ _ _ _ _ = never_ok c.from_residual.result _ _ c.from_residual.ensures.1

pub returns-in_err-enter-clause-keeps : goal.returns-in_err-enter-clause-keeps
returns-in_err-enter-clause-keeps g c _ _ _ _ _ _ = never_ok c.from_residual.result _ _ c.from_residual.ensures.1

pub returns-in_err-enter-clause-graph : goal.returns-in_err-enter-clause-graph
returns-in_err-enter-clause-graph g c _ _ _ _ _ _ = never_ok c.from_residual.result _ _ c.from_residual.ensures.1

pub returns-clause-cause : goal.returns-clause-cause
returns-clause-cause g c = ok_cause _ _ _ _ c.loop-assignment.invariant.later
