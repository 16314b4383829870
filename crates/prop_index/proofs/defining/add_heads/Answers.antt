use Rattle.std.proofs.Common.{◌≡◌, ◌≢◌, ℕ, ◌+◌, ◌*◌, ◌<◌, ◌≤◌, ◌^◌, suc, List, [], ◌∷◌, refl, ap, sym, ◌∙◌, subst, inl, inr, ⊎_elim, arith}
use Rattle.std.proofs.lemmas.Bool.{cases_lt}
use Rattle.rec_bytes.specs.declared.record.Rec.{Rec}
use Rattle.rec_bytes.specs.Format as format
use Rattle.rec_bytes.specs.Key.{IsKey}
use Rattle.rec_bytes.specs.Record.{field}
use Rattle.store_rules.specs.Views.{key_in, kind_at}
use Rattle.rec_bytes.proofs.Numbers.{field-with_field_other}
use Rattle.id_freelist.specs.ListDamage.{BlamesList}
use Rattle.id_freelist.proofs.ListSteps.{blames_before, keeps_none, keeps_then}
use Rattle.prop_store.specs.Touching.{TouchesOnly}
use Rattle.prop_index.specs.Defining.{AreHeadsAdded, CountsMore, IsRecordAdded, PutsHeads}
use Rattle.prop_index.specs.DefinitionRecord.{head_ids, head_of}
use Rattle.prop_index.specs.Touching.{index_keys}
use Rattle.prop_index.specs.Entering.{IsMishap, IsNotFull}
use Rattle.prop_index.proofs.Counting.{counts_left, counts_then}
use Rattle.prop_index.proofs.IndexBlames.{take_has}
use Rattle.prop_index.proofs.HeadsAdded.{head-other, head-same, head_ids-more, heads-more, heads-none, length-head_ids, with_head}
use Rattle.prop_index.proofs.IndexTouches.{index_then, only_join}
use Rattle.prop_index.proofs.RecordFits.{empty_heads-kind}
use Rattle.rec_bytes.proofs.Causes.{never_ok}
use Rattle.prop_index.proofs.Causes.{take_cause_passed, take_ok_cause}
use Rattle.prop_index.specs.Blaming.{TakeBlamesBroken}
use Rattle.prop_index.proofs.defining.add_heads.Goals as goal

pub returns-in_err-id-clause-touches : goal.returns-in_err-id-clause-touches
returns-in_err-id-clause-touches g c =
    let n = c.loop-number.number in
    let few = length-head_ids n c.loop-number.rec in
    let test = c.loop-number-test.true in
    index_then n 1 12 _ _ _ (omega arith) (record { ids = head_ids n c.loop-number.rec; few = omega arith; only = c.loop-number.invariant.touched })
    c.in_err-id.ensures.touches

pub loop-number-preserved : goal.loop-number-preserved
loop-number-preserved g c =
    let s = g.S.Reads.state c.args.space.now in
    let m = g.S.Reads.state c.loop-number.space in
    let t = g.S.Reads.state c.add_record.new.space in
    let old = c.loop-number.invariant in
    let n = c.loop-number.number in
    let rec = c.loop-number.rec in
    let id = c.in_ok-id.id in
    let low : n < 12 = c.loop-number-test.true in
    let small : id < 2 ^ 32 = let k = c.in_ok-id.ensures.key.id in omega arith in
    let now_is : c.set_number.new.self ≡ with_head rec n id = c.set_number.ensures.set in
    record {
      added = λ tells store.
          let was = old.added tells store in
          let heads_is = c.empty_heads.ensures in
          let used : field 1 c.empty_heads.result format.kind ≢ format.free_kind = λ e. let k = ap (λ (r : Rec). field 1 r format.kind) heads_is
          ∙ empty_heads-kind in omega (arith, k, e) in
          let new = subst (λ (r : Rec). IsRecordAdded m t r id) heads_is (c.in_ok-id.ensures.added tells was.kept used) in
          subst (AreHeadsAdded s t c.args.start (n + 1)) (sym now_is) (heads-more s m t c.args.start rec n id low was new);
      kept = λ tells.
          let was = old.kept tells in
          let used : field 1 c.empty_heads.result format.kind ≢ format.free_kind = λ e. let k = ap (λ (r : Rec). field 1 r format.kind) c.empty_heads.ensures
          ∙ empty_heads-kind in omega (arith, k, e) in
          let new = c.in_ok-id.ensures.kept tells used in
          subst (PutsHeads s t (n + 1)) (sym now_is) (record {
            keeps = keeps_then s m t format.index_file was.keeps new.keeps;
            used = λ k lt. ⊎_elim
                (λ (u : k < n). subst (λ x. kind_at t.records format.index_file x ≢ format.free_kind) (sym (head-other rec n id k low u))
                (new.keeps.used (head_of rec k) (was.used k u)))
                (λ (u : n ≤ k). let e : k ≡ n = omega arith in subst (λ x. kind_at t.records format.index_file x ≢ format.free_kind)
                (sym (ap (head_of (with_head rec n id)) e ∙ head-same rec n id low small)) new.used)
                (cases_lt k n);
          });
      kind = ap (λ (r : Rec). field 1 r format.kind) now_is ∙ field-with_field_other 4 rec (format.definition_heads + 4 * n) id 1 format.kind (omega arith)
          (inr (omega arith)) ∙ old.kind;
      front = λ k at fits. ap (λ (r : Rec). field k r at) now_is
          ∙ field-with_field_other 4 rec (format.definition_heads + 4 * n) id k at (omega arith) (inr (omega arith)) ∙ old.front k at fits;
      counted = λ tells. counts_then s m t n 1 (n + 1) refl (old.counted tells) (c.in_ok-id.ensures.counted tells);
      heads = λ k lt. subst (λ (r : Rec). IsKey (key_in format.index_file (head_of r k))) (sym now_is) (⊎_elim
          (λ (u : k < n). subst (λ x. IsKey (key_in format.index_file x)) (sym (head-other rec n id k low u)) (old.heads k u))
          (λ (u : n ≤ k). let e : k ≡ n = omega arith in subst (λ x. IsKey (key_in format.index_file x))
          (sym (ap (head_of (with_head rec n id)) e ∙ head-same rec n id low small)) c.in_ok-id.ensures.key)
          (cases_lt k n));
      touched =
          let ids_are : head_ids (n + 1) c.set_number.new.self ≡ id ∷ head_ids n rec
          = (λ i. head_ids (n + 1) (now_is i)) ∙ ap (λ k. head_ids k (with_head rec n id)) (let e : n + 1 ≡ suc n = omega arith in e)
          ∙ head_ids-more rec n id low small in
          subst (λ (xs : List ℕ). TouchesOnly g.S.Reads.tells s t (index_keys xs)) (sym ids_are)
          (only_join (head_ids n rec) (id ∷ []) (id ∷ head_ids n rec) s m t (λ x i. inr i) (λ x i. ⊎_elim (λ e. inl e) (λ (k : ⊥). absurd k) i)
          old.touched c.in_ok-id.ensures.touched);
      onward = g.met.S.Reads.further_onward _ _ _ old.onward c.in_ok-id.ensures.onward;
      later = omega (arith, old.later, c.in_ok-id.ensures.cause.later);
    }

pub returns-in_err-id-clause-roomy : goal.returns-in_err-id-clause-roomy
returns-in_err-id-clause-roomy g c tells left =
    let s = g.S.Reads.state c.args.space.now in
    let m = g.S.Reads.state c.loop-number.space in
    let test = c.loop-number-test.true in
    take_has IsNotFull c.from_residual.result c.in_err-id.field-0.0 c.from_residual.ensures.1
    (c.in_err-id.ensures.roomy tells (counts_left s m c.loop-number.number 1 12 (c.loop-number.invariant.counted tells) (omega (arith, test)) left))

pub returns-in_err-id-clause-onward : goal.returns-in_err-id-clause-onward
returns-in_err-id-clause-onward g c =
    g.met.S.Reads.further_onward _ _ _ c.loop-number.invariant.onward c.in_err-id.ensures.onward

pub returns-in_err-id-clause-damaged : goal.returns-in_err-id-clause-damaged
returns-in_err-id-clause-damaged g c tells =
    let s = g.S.Reads.state c.args.space.now in
    let m = g.S.Reads.state c.loop-number.space in
    take_has (BlamesList s format.index_file) c.from_residual.result c.in_err-id.field-0.0 c.from_residual.ensures.1
    (blames_before s m format.index_file c.in_err-id.field-0.0 (c.loop-number.invariant.kept tells).keeps.harmless (c.in_err-id.ensures.damaged tells))

pub loop-number-init : goal.loop-number-init
loop-number-init g c =
    let s = g.S.Reads.state c.args.space.now in
    record {
      added = λ tells store. heads-none s c.args.start store;
      kept = λ tells. record { keeps = keeps_none s format.index_file; used = λ k lt. absurd (omega arith) };
      kind = refl;
      front = λ n at fits. refl;
      counted = λ tells. record { live = omega arith; shape = refl };
      heads = λ k lt. absurd (omega arith);
      touched = record { writes = record { each = λ q w. inl w }; stays = λ told. record { each = λ q. inl refl } };
      onward = g.met.S.Reads.stays_onward _;
      later = omega arith;
    }

pub returns-in_err-id-clause-kept : goal.returns-in_err-id-clause-kept
returns-in_err-id-clause-kept g c _ = never_ok c.from_residual.result _ _ c.from_residual.ensures.1

pub returns-in_err-id-clause-kind : goal.returns-in_err-id-clause-kind
returns-in_err-id-clause-kind g c = never_ok c.from_residual.result _ _ c.from_residual.ensures.1

pub returns-in_err-id-clause-added : goal.returns-in_err-id-clause-added
returns-in_err-id-clause-added g c _ _ = never_ok c.from_residual.result _ _ c.from_residual.ensures.1

pub returns-in_err-id-clause-counted : goal.returns-in_err-id-clause-counted
returns-in_err-id-clause-counted g c _ = never_ok c.from_residual.result _ _ c.from_residual.ensures.1

pub returns-in_err-id-clause-heads : goal.returns-in_err-id-clause-heads
returns-in_err-id-clause-heads g c = never_ok c.from_residual.result _ _ c.from_residual.ensures.1

pub returns-in_err-id-clause-touched : goal.returns-in_err-id-clause-touched
returns-in_err-id-clause-touched g c = never_ok c.from_residual.result _ _ c.from_residual.ensures.1

pub returns-in_err-id-clause-cause : goal.returns-in_err-id-clause-cause
returns-in_err-id-clause-cause g c =
    take_cause_passed _ _ _ c.from_residual.result c.in_err-id.field-0.0 c.loop-number.invariant.later c.in_err-id.ensures.cause c.from_residual.ensures.1

pub returns-in_err-id-clause-mishap : goal.returns-in_err-id-clause-mishap
returns-in_err-id-clause-mishap g c tells store left =
    let s = g.S.Reads.state c.args.space.now in
    let m = g.S.Reads.state c.loop-number.space in
    let test = c.loop-number-test.true in
    take_has IsMishap c.from_residual.result c.in_err-id.field-0.0 c.from_residual.ensures.1
    (c.in_err-id.ensures.mishap tells (c.loop-number.invariant.added tells store).kept (counts_left s m c.loop-number.number 1 12
    (c.loop-number.invariant.counted tells) (omega (arith, test)) left))

pub returns-in_err-id-clause-damaged_after : goal.returns-in_err-id-clause-damaged_after
returns-in_err-id-clause-damaged_after g c tells =
    let t = g.S.Reads.state c.add_record.new.space in
    take_has (TakeBlamesBroken t.records t.shape) c.from_residual.result c.in_err-id.field-0.0 c.from_residual.ensures.1
    (c.in_err-id.ensures.damaged_after tells)

pub returns-clause-added : goal.returns-clause-added
returns-clause-added g c tells store =
    let s = g.S.Reads.state c.args.space.now in
    let t = g.S.Reads.state c.loop-number.space in
    let rec = c.loop-number.rec in
    let full : c.loop-number.number ≡ 12 = omega (arith, c.loop-number.auto.number-end) in
    subst (λ n. AreHeadsAdded s t c.args.start n rec) full (c.loop-number.invariant.added tells store)

pub returns-clause-kept : goal.returns-clause-kept
returns-clause-kept g c tells =
    let s = g.S.Reads.state c.args.space.now in
    let t = g.S.Reads.state c.loop-number.space in
    let rec = c.loop-number.rec in
    let full : c.loop-number.number ≡ 12 = omega (arith, c.loop-number.auto.number-end) in
    subst (λ n. PutsHeads s t n rec) full (c.loop-number.invariant.kept tells)

pub returns-clause-counted : goal.returns-clause-counted
returns-clause-counted g c tells =
    let s = g.S.Reads.state c.args.space.now in
    let t = g.S.Reads.state c.loop-number.space in
    let rec = c.loop-number.rec in
    let full : c.loop-number.number ≡ 12 = omega (arith, c.loop-number.auto.number-end) in
    subst (λ n. CountsMore s t n) full (c.loop-number.invariant.counted tells)

pub returns-clause-kind : goal.returns-clause-kind
returns-clause-kind g c = c.loop-number.invariant.kind

pub returns-clause-heads : goal.returns-clause-heads
returns-clause-heads g c k lt =
    let full : c.loop-number.number ≡ 12 = omega (arith, c.loop-number.auto.number-end) in
    c.loop-number.invariant.heads k (omega (arith, lt, full))

pub returns-clause-touched : goal.returns-clause-touched
returns-clause-touched g c =
    let s = g.S.Reads.state c.args.space.now in
    let t = g.S.Reads.state c.loop-number.space in
    let rec = c.loop-number.rec in
    let full : c.loop-number.number ≡ 12 = omega (arith, c.loop-number.auto.number-end) in
    subst (λ n. TouchesOnly g.S.Reads.tells s t (index_keys (head_ids n rec))) full c.loop-number.invariant.touched

pub returns-clause-touches : goal.returns-clause-touches
returns-clause-touches g c =
    let n = c.loop-number.number in
    let few = length-head_ids n c.loop-number.rec in
    let full : c.loop-number.number ≡ 12 = omega (arith, c.loop-number.auto.number-end) in
    record { ids = head_ids n c.loop-number.rec; few = omega (arith, few, full); only = c.loop-number.invariant.touched }

pub returns-clause-onward : goal.returns-clause-onward
returns-clause-onward g c = c.loop-number.invariant.onward

pub returns-clause-cause : goal.returns-clause-cause
returns-clause-cause g c = take_ok_cause _ _ _ c.loop-number.invariant.later

pub returns-clause-front : goal.returns-clause-front
returns-clause-front g c = c.loop-number.invariant.front

pub returns-in_err-id-clause-front : goal.returns-in_err-id-clause-front
returns-in_err-id-clause-front g c = never_ok c.from_residual.result _ _ c.from_residual.ensures.1
