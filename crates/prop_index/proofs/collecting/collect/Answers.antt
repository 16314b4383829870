use Rattle.std.proofs.Common.{◌≡◌, ◌≤◌, ◌<◌, ◌+◌, Some, ap, sym, ◌∙◌, subst, arith, length, length-append, [], ◌∷◌, ◌++◌}
use Rattle.rec_bytes.specs.Format as format
use Rattle.rec_bytes.specs.Space.{SameButReads}
use Rattle.store_rules.specs.Views.{Records, high}
use Rattle.prop_store.proofs.Causes.{later_on}
use Rattle.prop_store.proofs.ReadCounts.{reads_same}
use Rattle.prop_index.specs.Collecting.{contents_in, hash_at}
use Rattle.std.proofs.lemmas.Result.{err_from_is_err_and}
use Rattle.prop_index.specs.Blaming.{BlamesBroken}
use Rattle.prop_index.proofs.Counting.{collect_read, read_make}
use Rattle.prop_index.proofs.IndexBlames.{blames_before}
use Rattle.prop_index.proofs.MakeFaults.{collect_exit}
use Rattle.prop_index.proofs.Collects.{contents-more, contents-skip, length-contents-more}
use Rattle.prop_index.proofs.Reread.{readable_after, same_records, same_then}
use Rattle.rec_bytes.proofs.Causes.{never_ok, ok_cause}
use Rattle.prop_index.proofs.Causes.{make_cause_passed, make_memory_cause, make_other_cause}
use Rattle.rec_bytes.specs.declared.fault.Fault.{Fault}
use Rattle.prop_index.specs.MakeFault.{IsCollectFault, of_fault}
use Rattle.prop_index.proofs.collecting.collect.Goals as goal
use Rattle.prop_index.proofs.collecting.collect.Goals.{in-Some, then-count-lt-MOST_ENTRIES+in_ok-push, else-count-lt-MOST_ENTRIES, in_default}

pub returns-in_err-hash-clause-refused : goal.returns-in_err-hash-clause-refused
returns-in_err-hash-clause-refused g c tells readable =
    let s = g.R.Reads.state c.args.space.now in
    let now = g.R.Reads.state c.loop-node.space in
    let same = c.loop-node.invariant.same in
    let low : c.loop-node.node < high now.records format.nodes_file = subst (λ (r : Records). c.loop-node.node < high r format.nodes_file)
    (sym (same_records s now same))
    (let end = c.loop-node.invariant.end in let test = c.loop-node-test.true in omega (arith, end, test)) in
    collect_exit s.records c.args.label c.args.key c.from_residual.result c.hash_at.result c.in_err-hash.field-0.0 c.in_err-hash.was c.from_residual.ensures.1
    (c.hash_at.ensures.not_damaged tells low (readable_after s now same readable))

pub returns-in_err-hash-clause-same : goal.returns-in_err-hash-clause-same
returns-in_err-hash-clause-same g c = same_then (g.R.Reads.state c.args.space.now) (g.R.Reads.state c.loop-node.space) (g.R.Reads.state c.hash_at.new.space)
    c.loop-node.invariant.same (reads_same 56 (g.R.Reads.state c.loop-node.space) (g.R.Reads.state c.hash_at.new.space) c.hash_at.ensures.at_most)

pub returns-in_err-push-clause-same : goal.returns-in_err-push-clause-same
returns-in_err-push-clause-same g c = same_then (g.R.Reads.state c.args.space.now) (g.R.Reads.state c.loop-node.space) (g.R.Reads.state c.hash_at.new.space)
    c.loop-node.invariant.same (reads_same 56 (g.R.Reads.state c.loop-node.space) (g.R.Reads.state c.hash_at.new.space) c.hash_at.ensures.at_most)

pub loop-node-preserved : goal.loop-node-preserved
loop-node-preserved g c =
    let s = g.R.Reads.state c.args.space.now in
    let now = g.R.Reads.state c.loop-node.space in
    let old = c.loop-node.invariant in
    let n = c.loop-node.node in
    let label = c.args.label in
    let key = c.args.key in
    let same : SameButReads s (g.R.Reads.state c.hash_at.new.space) = same_then s now (g.R.Reads.state c.hash_at.new.space) old.same
    (reads_same 56 now (g.R.Reads.state c.hash_at.new.space) c.hash_at.ensures.at_most) in
    let onward = g.met.R.Reads.further_onward _ _ _ old.onward c.in_ok-hash.ensures.onward in
    let later : g.R.Reads.faults c.args.space.now ≤ g.R.Reads.faults c.hash_at.new.space = let a = old.later in let b = c.in_ok-hash.ensures.cause.later in
    omega (arith, a, b) in
    let low : n < high now.records format.nodes_file = subst (λ (r : Records). n < high r format.nodes_file) (sym (same_records s now old.same))
    (let end = old.end in let test = c.loop-node-test.true in omega (arith, end, test)) in
    let read : g.R.Reads.tells → c.in_ok-hash.field-0 ≡ hash_at s.records label key n = λ tells. c.in_ok-hash.ensures.found tells low
    ∙ ap (λ (r : Records). hash_at r label key n) (same_records s now old.same) in
    elim c.match-branch-2.branch [
      | in-Some w ↦
          let hash = w.in-Some.hash in
          let is : g.R.Reads.tells → hash_at s.records label key n ≡ Some hash = λ tells. sym (read tells) ∙ w.in-Some.is in
          let more : g.R.Reads.tells → length (contents_in s.records label key (n + 1)) ≡ length (contents_in s.records label key n) + 1 = λ tells.
          length-contents-more s.records label key n hash (is tells) in
          elim w.if-count-lt-MOST_ENTRIES.branch [
            | then-count-lt-MOST_ENTRIES+in_ok-push u ↦
                let items = ap (λ v. v.items) (w.contents-is ∙ u.contents-is) ∙ u.in_ok-push.ensures.pushed in
                let longer : length c.match-branch-2.contents.items ≡ length c.loop-node.contents.items + 1 = ap length items
                ∙ length-append c.loop-node.contents.items _ in
                let test = u.if-count-lt-MOST_ENTRIES.true in
                record {
                  counted = λ tells. w.count-is ∙ ap (λ k. k + 1) (old.counted tells) ∙ sym (more tells);
                  found = λ tells few. items ∙ ap (λ xs. xs ++ record { node = n; hash = hash } ∷ []) (old.found tells (omega (arith, test)))
                      ∙ sym (contents-more s.records label key n hash (is tells));
                  few = omega (arith, longer, test, old.no_more);
                  no_more = omega (arith, longer, w.count-is, old.no_more);
                  under = omega (arith, w.count-is, old.under);
                  end = old.end;
                  same = same;
                  onward = onward;
                  later = later;
                }
            | else-count-lt-MOST_ENTRIES u ↦
                let items = ap (λ v. v.items) (w.contents-is ∙ u.contents-is) in
                let test = u.if-count-lt-MOST_ENTRIES.false in
                record {
                  counted = λ tells. w.count-is ∙ ap (λ k. k + 1) (old.counted tells) ∙ sym (more tells);
                  found = λ tells few. absurd (omega (arith, few, test, w.count-is));
                  few = subst (λ xs. length xs ≤ 1024) (sym items) old.few;
                  no_more = omega (arith, ap length items, w.count-is, old.no_more);
                  under = omega (arith, w.count-is, old.under);
                  end = old.end;
                  same = same;
                  onward = onward;
                  later = later;
                }
          ]
      | in_default w ↦
          let none : g.R.Reads.tells → contents_in s.records label key (n + 1) ≡ contents_in s.records label key n = λ tells.
          contents-skip s.records label key n (sym (read tells) ∙ w.in_default.is) in
          let items = ap (λ v. v.items) w.contents-is in
          record {
            counted = λ tells. w.count-is ∙ old.counted tells ∙ sym (ap length (none tells));
            found = λ tells few. items ∙ old.found tells (omega (arith, few, w.count-is)) ∙ sym (none tells);
            few = subst (λ xs. length xs ≤ 1024) (sym items) old.few;
            no_more = omega (arith, ap length items, w.count-is, old.no_more);
            under = omega (arith, w.count-is, old.under);
            end = old.end;
            same = same;
            onward = onward;
            later = later;
          }
    ]

pub returns-in_err-hash-clause-caused : goal.returns-in_err-hash-clause-caused
returns-in_err-hash-clause-caused g c tells =
    let s = g.R.Reads.state c.args.space.now in
    let p = err_from_is_err_and c.from_residual.result c.from_residual.ensures.1 in
    rw (p.1, p.2) (collect_read s.records c.args.label c.args.key c.in_err-hash.field-0.0)

pub returns-in_err-push-clause-caused : goal.returns-in_err-push-clause-caused
returns-in_err-push-clause-caused g c tells =
    let s = g.R.Reads.state c.args.space.now in
    let p = err_from_is_err_and c.from_residual-in_err-push.result c.from_residual-in_err-push.ensures.1 in
    rw (p.1, p.2) (collect_read s.records c.args.label c.args.key c.in_err-push.field-0.0)

pub returns-in_err-hash-clause-damaged : goal.returns-in_err-hash-clause-damaged
returns-in_err-hash-clause-damaged g c tells =
    let s = g.R.Reads.state c.args.space.now in
    let now = g.R.Reads.state c.loop-node.space in
    let same = c.loop-node.invariant.same in
    let low : c.loop-node.node < high now.records format.nodes_file = subst (λ (r : Records). c.loop-node.node < high r format.nodes_file)
    (sym (same_records s now same))
    (let end = c.loop-node.invariant.end in let test = c.loop-node-test.true in omega (arith, end, test)) in
    let p = err_from_is_err_and c.from_residual.result c.from_residual.ensures.1 in
    rw (p.1, p.2) (read_make s.records s.shape c.in_err-hash.field-0.0 (blames_before s now c.in_err-hash.field-0.0 same (c.in_err-hash.ensures.damaged tells
    low)))

pub returns-in_err-push-clause-damaged : goal.returns-in_err-push-clause-damaged
returns-in_err-push-clause-damaged g c tells =
    let s = g.R.Reads.state c.args.space.now in
    let p = err_from_is_err_and c.from_residual-in_err-push.result c.from_residual-in_err-push.ensures.1 in
    rw (p.1, p.2) (read_make s.records s.shape c.in_err-push.field-0.0 (subst (BlamesBroken s.records s.shape) (sym c.in_err-push.ensures.memory) tt))

pub returns-in_err-hash-clause-onward : goal.returns-in_err-hash-clause-onward
returns-in_err-hash-clause-onward g c =
    g.met.R.Reads.further_onward _ _ _ c.loop-node.invariant.onward c.in_err-hash.ensures.onward

pub returns-in_err-push-clause-onward : goal.returns-in_err-push-clause-onward
returns-in_err-push-clause-onward g c =
    g.met.R.Reads.further_onward _ _ _ c.loop-node.invariant.onward c.in_ok-hash.ensures.onward

pub returns-in_err-hash-clause-found : goal.returns-in_err-hash-clause-found
returns-in_err-hash-clause-found g c _ = never_ok c.from_residual.result _ _ c.from_residual.ensures.1

pub returns-in_err-hash-clause-few : goal.returns-in_err-hash-clause-few
returns-in_err-hash-clause-few g c = never_ok c.from_residual.result _ _ c.from_residual.ensures.1

pub returns-in_err-push-clause-found : goal.returns-in_err-push-clause-found
returns-in_err-push-clause-found g c _ = never_ok c.from_residual-in_err-push.result _ _ c.from_residual-in_err-push.ensures.1

pub returns-in_err-push-clause-few : goal.returns-in_err-push-clause-few
returns-in_err-push-clause-few g c = never_ok c.from_residual-in_err-push.result _ _ c.from_residual-in_err-push.ensures.1

pub returns-clause-cause : goal.returns-clause-cause
returns-clause-cause g c = ok_cause _ _ _ _ (omega arith)

pub returns-in_err-hash-clause-cause : goal.returns-in_err-hash-clause-cause
returns-in_err-hash-clause-cause g c =
    make_cause_passed _ _ _ c.from_residual.result c.in_err-hash.field-0.0 c.loop-node.invariant.later c.in_err-hash.ensures.cause c.from_residual.ensures.1

pub returns-in_err-push-clause-cause : goal.returns-in_err-push-clause-cause
returns-in_err-push-clause-cause g c =
    make_memory_cause _ _ c.from_residual-in_err-push.result c.in_err-push.field-0.0 (later_on c.loop-node.invariant.later c.in_ok-hash.ensures.cause.later)
    c.in_err-push.ensures.memory c.from_residual-in_err-push.ensures.1

pub returns-in_err-push-clause-refused : goal.returns-in_err-push-clause-refused
returns-in_err-push-clause-refused g c tells readable =
    let s = g.R.Reads.state c.args.space.now in
    let p = err_from_is_err_and c.from_residual-in_err-push.result c.from_residual-in_err-push.ensures.1 in
    rw (p.1, p.2) (subst (λ (f : Fault). IsCollectFault s.records c.args.label c.args.key (of_fault f)) (sym c.in_err-push.ensures.memory) tt)

pub returns-then-count-gt-MOST_ENTRIES-clause-cause : goal.returns-then-count-gt-MOST_ENTRIES-clause-cause
returns-then-count-gt-MOST_ENTRIES-clause-cause g c = make_other_cause _ _ _ c.loop-node.invariant.later (λ e. absurd cc)

pub returns-then-count-gt-MOST_ENTRIES-clause-caused : goal.returns-then-count-gt-MOST_ENTRIES-clause-caused
returns-then-count-gt-MOST_ENTRIES-clause-caused g c tells =
    let s = g.R.Reads.state c.args.space.now in
    let at : c.loop-node.node ≡ high s.records format.nodes_file = omega
    (arith, c.loop-node.invariant.end, c.loop-node.auto.node-end, c.loop-node-test.false) in (
      subst (λ n. c.loop-node.count ≡ length (contents_in s.records c.args.label c.args.key n)) at (c.loop-node.invariant.counted tells),
      c.if-count-gt-MOST_ENTRIES.true,
    )

pub returns-then-count-gt-MOST_ENTRIES-clause-refused : goal.returns-then-count-gt-MOST_ENTRIES-clause-refused
returns-then-count-gt-MOST_ENTRIES-clause-refused g c tells readable =
    let s = g.R.Reads.state c.args.space.now in
    let at : c.loop-node.node ≡ high s.records format.nodes_file = omega
    (arith, c.loop-node.invariant.end, c.loop-node.auto.node-end, c.loop-node-test.false) in (
      subst (λ n. c.loop-node.count ≡ length (contents_in s.records c.args.label c.args.key n)) at (c.loop-node.invariant.counted tells),
      c.if-count-gt-MOST_ENTRIES.true,
    )

pub returns-then-count-gt-MOST_ENTRIES-clause-same : goal.returns-then-count-gt-MOST_ENTRIES-clause-same
returns-then-count-gt-MOST_ENTRIES-clause-same g c = c.loop-node.invariant.same

pub returns-then-count-gt-MOST_ENTRIES-clause-onward : goal.returns-then-count-gt-MOST_ENTRIES-clause-onward
returns-then-count-gt-MOST_ENTRIES-clause-onward g c = c.loop-node.invariant.onward

pub returns-clause-found : goal.returns-clause-found
returns-clause-found g c tells =
    let s = g.R.Reads.state c.args.space.now in
    let at : c.loop-node.node ≡ high s.records format.nodes_file = omega
    (arith, c.loop-node.invariant.end, c.loop-node.auto.node-end, c.loop-node-test.false) in
    subst (λ n. c.loop-node.contents.items ≡ contents_in s.records c.args.label c.args.key n) at
    (c.loop-node.invariant.found tells c.if-count-gt-MOST_ENTRIES.false)

pub returns-clause-few : goal.returns-clause-few
returns-clause-few g c = c.loop-node.invariant.few

pub returns-clause-same : goal.returns-clause-same
returns-clause-same g c = c.loop-node.invariant.same

pub returns-clause-onward : goal.returns-clause-onward
returns-clause-onward g c = c.loop-node.invariant.onward
