use Rattle.std.proofs.Common.{◌≡◌, ◌≢◌, ⊎_elim, ℕ, ◌+◌, ◌*◌, ◌/◌, ◌%◌, ◌<◌, [], ◌∷◌, length, take, get_or, set, ap, sym}
use Rattle.std.proofs.Common.{◌∙◌, subst, inl, inr, refl, arith, get_or-set_other, get_or-set_same}
use Rattle.std.specs.Prelude.{replicate}
use Rattle.std.proofs.lemmas.Result.{err_from_is_err_and}
use Rattle.std.proofs.lemmas.List.{get_or-replicate, get_or_default, length-replicate, length-set, length-take-le, take_more, take_all}
use Rattle.std.proofs.lemmas.List.Elements.{Contains-get_or}
use Rattle.rec_bytes.specs.declared.key.Key.{Key}
use Rattle.rec_bytes.specs.Format as format
use Rattle.rec_bytes.specs.Key.{IsKey}
use Rattle.rec_bytes.specs.Meta as metas
use Rattle.rec_bytes.specs.RecordFiles.{meta_key_of, room_of}
use Rattle.store_rules.specs.Chains.{In}
use Rattle.store_rules.specs.Hashes.{bucket_of}
use Rattle.store_rules.specs.Indexes.{first_entry}
use Rattle.store_rules.specs.Views.{high, key_in, kind_at}
use Rattle.store_rules.proofs.NumberLaws.{nat_cases}
use Rattle.id_freelist.specs.ListDamage.{BlamesList}
use Rattle.id_freelist.proofs.ListSteps.{blames_before, keeps_none, keeps_then}
use Rattle.prop_index.specs.DefinitionRecord.{head_ids, head_of}
use Rattle.prop_index.specs.Filling.{IsFilled}
use Rattle.prop_index.specs.Touching.{front_ids}
use Rattle.prop_index.specs.declared.entry_row.Content.{Content}
use Rattle.prop_index.specs.declared.heads.Bucket.{Bucket}
use Rattle.prop_index.specs.Blaming.{TakeBlamesBroken as BlamesBroken}
use Rattle.prop_index.specs.Entering.{IsNotFull}
use Rattle.prop_index.proofs.Counting.{counts_left, counts_then, full_roomy}
use Rattle.prop_index.proofs.IndexBlames.{take_has}
use Rattle.prop_index.proofs.FillSteps as fs
use Rattle.prop_index.proofs.FillTouches.{beside_more}
use Rattle.prop_index.proofs.HeadsAdded.{head-in}
use Rattle.prop_index.proofs.LinkRules.{free_list, store_takes}
use Rattle.rec_bytes.proofs.Causes.{never_ok}
use Rattle.prop_index.proofs.Causes.{take_cause_passed, take_ok_cause}
use Rattle.prop_index.proofs.PairStands.{apart_rec}
use Rattle.prop_index.proofs.filling.fill.Goals as goal

pub loop-content-init : goal.loop-content-init
loop-content-init g c =
    let s = g.S.Reads.state c.args.space.now in
    let nil_at : (b : ℕ) → b < 180 → get_or (replicate 180 format.nil) b 0 ≡ format.nil = λ b lt. get_or-replicate 180 b format.nil 0 lt in
    record {
      filled = λ tells wanted ix label key empty fillable store. (fs.filled-none s wanted ix label key store, λ b lt. nil_at b lt ∙ sym (empty.empty b lt));
      kept = λ tells heads. (keeps_none s format.index_file, λ b lt some. absurd (some (nil_at b lt)));
      beside = λ tells heads. ((λ x used apart. (used, refl)), λ b lt some. absurd (some (nil_at b lt)));
      long = length-replicate 180 format.nil;
      keys = λ b lt some. absurd (some (nil_at b lt));
      touched = (
        [],
        omega arith,
        (λ b lt some. absurd (some (nil_at b lt))),
        record {
          writes = record { each = λ q w. inl w };
          stays = λ told.
              record { each = λ q. inl refl };
        },
      );
      counted = λ tells. record { live = omega arith; shape = refl };
      onward = g.met.S.Reads.stays_onward _;
      later = omega arith;
    }

pub loop-content-preserved : goal.loop-content-preserved
loop-content-preserved g c =
    let s = g.S.Reads.state c.args.space.now in
    let m = g.S.Reads.state c.loop-content.space in
    let t = g.S.Reads.state c.put_in_front.new.space in
    let old = c.loop-content.invariant in
    let rec = c.args.definition.now.rec in
    let contents = c.args.contents.now in
    let i = c.loop-content.content-index in
    let content : Content = get_or contents i (record { node = 0; hash = 0 }) in
    let firsts = c.loop-content.firsts in
    let k = c.bucket_of-number.result in
    let k_low : k < 180 = c.bucket_of-number.ensures.low in
    let k_is : k ≡ bucket_of content.hash = c.bucket_of-number.ensures.is in
    let slot = c.slot_of.result in
    let first = get_or firsts k 0 in
    let bucket : Bucket = record { slot = slot; first = first } in
    let id = c.in_ok-firsts.field-0 in
    let test : i < length contents = c.loop-content-test.true in
    let long : k < length firsts = let l = old.long in omega (arith, l, k_low) in
    let there : In slot.id (head_ids 12 rec) = subst (λ x. In x (head_ids 12 rec)) (sym c.slot_of.ensures.is.id_is) (head-in 12 rec (k / 15) (omega arith)) in
    record {
      filled = λ tells wanted ix label key empty fillable store.
          let was = old.filled tells wanted ix label key empty fillable store in
          let id_is : slot.id ≡ head_of rec (bucket_of content.hash / 15) = c.slot_of.ensures.is.id_is ∙ ap (λ n. head_of rec (n / 15)) k_is in
          let place_is : slot.place ≡ format.heads_first + 4 * (bucket_of content.hash % 15) = c.slot_of.ensures.is.place_is
          ∙ ap (λ n. format.heads_first + 4 * (n % 15)) k_is in
          let first_is : first ≡ first_entry m.records c.args.definition.now.id (bucket_of content.hash) = was.1 k k_low
          ∙ ap (first_entry m.records c.args.definition.now.id) k_is in
          let head = fs.fill_head s m wanted ix label key c.args.definition.now empty (take i contents) was.0 content bucket id_is place_is first_is in
          let begins = fs.fill_begins s m wanted ix label key c.args.definition.now empty (take i contents) was.0 content bucket id_is place_is first_is in
          let place = fs.fill_place s m wanted ix label key c.args.definition.now empty (take i contents) was.0 content bucket id_is place_is first_is in
          let can = store_takes m was.0.kept in
          let made = c.in_ok-firsts.ensures.made tells (free_list m was.0.kept).0 head begins can in
          let nodes_same : high m.records format.nodes_file ≡ high s.records format.nodes_file
          = ap (λ r. (metas.meta_of r).high) (was.0.others (meta_key_of format.nodes_file) (λ e. omega arith) (λ e. let f = ap (λ (q : Key). q.id) e in omega
          (arith, f))) in
          let known : content.node < high m.records format.nodes_file = let a =
          fillable.low content (Contains-get_or contents i (record { node = 0; hash = 0 }) test) in omega (arith, a, nodes_same) in
          let kept = c.in_ok-firsts.ensures.keeps tells was.0.kept head begins place known in
          let live = c.in_ok-firsts.ensures.counted tells in
          let shape = g.met.S.Reads.onward_shape _ _ c.in_ok-firsts.ensures.onward in
          let others = fs.elsewhere_of g.S.Reads.tells m t (front_ids id slot.id first) tells c.in_ok-firsts.ensures.touched in
          let apart = fs.ascending_apart contents i content fillable.ascend test (λ d. get_or_default contents i d (record { node = 0; hash = 0 }) test) in (
            subst (IsFilled s t wanted ix label key) (sym (take_more contents i (record { node = 0; hash = 0 }) test))
                (fs.filled-more s m wanted ix label key c.args.definition.now empty (take i contents) was.0 content bucket id_is place_is first_is t id made
                apart live shape others kept),
            (λ b lt. ⊎_elim
                (λ (e : b ≡ k). ap (λ z. get_or (set firsts k id) z 0) e ∙ get_or-set_same firsts k id 0 long
                ∙ sym (fs.first_new s m wanted ix label key c.args.definition.now empty (take i contents) was.0 content bucket id_is place_is first_is t id made
                apart live shape others kept)
                ∙ ap (first_entry t.records c.args.definition.now.id) (sym (e ∙ k_is)))
                (λ (ne : b ≢ k). get_or-set_other firsts k b id 0 ne ∙ was.1 b lt
                ∙ sym (fs.first_same s m wanted ix label key c.args.definition.now empty (take i contents) was.0 content bucket id_is place_is first_is t id
                made apart live shape others kept b lt (λ q. ne (q ∙ sym k_is))))
                (nat_cases b k)),
          );
      kept = λ tells heads.
          let was = old.kept tells heads in
          let put = c.in_ok-firsts.ensures.kept tells (was.0.used slot.id (subst (λ x. kind_at s.records format.index_file x ≢ format.free_kind)
          (sym c.slot_of.ensures.is.id_is) (heads (k / 15) (omega arith)))) (was.1 k k_low) (let at = c.slot_of.ensures.is.place_is in omega arith) in (
            keeps_then s m t format.index_file was.0 put.keeps,
            λ b lt some. ⊎_elim
                (λ (e : b ≡ k). subst (λ x. kind_at t.records format.index_file x ≢ format.free_kind) (sym (ap (λ z. get_or (set firsts k id) z 0) e
                ∙ get_or-set_same firsts k id 0 long)) put.used)
                (λ (ne : b ≢ k). let same = get_or-set_other firsts k b id 0 ne in subst (λ x. kind_at t.records format.index_file x ≢ format.free_kind)
                (sym same) (put.keeps.used _ (was.1 b lt (λ q. some (same ∙ q)))))
                (nat_cases b k),
          );
      beside = λ tells heads.
          let was = old.beside tells heads in
          let kept = old.kept tells heads in
          let slot_is = c.slot_of.ensures.is.id_is in
          let put = c.in_ok-firsts.ensures.kept tells (kept.0.used slot.id (subst (λ x. kind_at s.records format.index_file x ≢ format.free_kind)
          (sym slot_is) (heads (k / 15) (omega arith)))) (kept.1 k k_low) (let at = c.slot_of.ensures.is.place_is in omega arith) in
          let before : kind_at s.records format.index_file id ≡ format.free_kind = ⊎_elim
          (λ (e : kind_at s.records format.index_file id ≡ format.free_kind). e)
          (λ (ne : kind_at s.records format.index_file id ≢ format.free_kind). absurd (kept.0.used id ne (c.in_ok-firsts.ensures.fresh tells)))
          (nat_cases (kind_at s.records format.index_file id) format.free_kind) in (
            (λ x used apart.
                let here = was.0 x used apart in (
                  put.keeps.used x here.0,
                  apart_rec g.S.Reads.tells m t id slot.id first x tells c.in_ok-firsts.ensures.touched
                      (λ e. used (ap (kind_at s.records format.index_file) e ∙ before)) (λ e. apart (k / 15) (omega arith) (e ∙ slot_is))
                      (λ some e. used (ap (kind_at s.records format.index_file) e ∙ was.1 k k_low some)) ∙ here.1,
                )),
            λ b lt some. ⊎_elim
                (λ (e : b ≡ k). subst (λ x. kind_at s.records format.index_file x ≡ format.free_kind) (sym (ap (λ z. get_or (set firsts k id) z 0) e
                ∙ get_or-set_same firsts k id 0 long)) before)
                (λ (ne : b ≢ k). let same = get_or-set_other firsts k b id 0 ne in subst (λ x. kind_at s.records format.index_file x ≡ format.free_kind)
                (sym same) (was.1 b lt (λ q. some (same ∙ q))))
                (nat_cases b k),
          );
      long = length-set firsts k id ∙ old.long;
      keys = λ b lt some. ⊎_elim
          (λ (e : b ≡ k). subst (λ x. IsKey (key_in format.index_file x)) (sym (ap (λ z. get_or (set firsts k id) z 0) e ∙ get_or-set_same firsts k id 0 long))
          c.in_ok-firsts.ensures.key)
          (λ (ne : b ≢ k). let same = get_or-set_other firsts k b id 0 ne in subst (λ x. IsKey (key_in format.index_file x)) (sym same)
          (old.keys b lt (λ q. some (same ∙ q))))
          (nat_cases b k);
      touched =
          let was = old.touched in (
            id ∷ was.0,
            (let few = was.1 in omega arith),
            (λ b lt some. ⊎_elim
                (λ (e : b ≡ k). inl (ap (λ z. get_or (set firsts k id) z 0) e ∙ get_or-set_same firsts k id 0 long))
                (λ (ne : b ≢ k). let same = get_or-set_other firsts k b id 0 ne in inr (subst (λ x. In x was.0) (sym same) (was.2 b lt (λ q. some (same ∙ q)))))
                (nat_cases b k)),
            beside_more (head_ids 12 rec) was.0 id slot.id first s m t there (was.2 k k_low) was.3 c.in_ok-firsts.ensures.touched,
          );
      counted = λ tells. counts_then s m t i 1 (i + 1) refl (old.counted tells)
          (record { live = c.in_ok-firsts.ensures.counted tells; shape = g.met.S.Reads.onward_shape _ _ c.in_ok-firsts.ensures.onward });
      onward = g.met.S.Reads.further_onward _ _ _ old.onward c.in_ok-firsts.ensures.onward;
      later = omega (arith, old.later, c.in_ok-firsts.ensures.cause.later);
    }

pub returns-in_err-firsts-clause-touches : goal.returns-in_err-firsts-clause-touches
returns-in_err-firsts-clause-touches g c =
    let s = g.S.Reads.state c.args.space.now in
    let m = g.S.Reads.state c.loop-content.space in
    let t = g.S.Reads.state c.put_in_front.new.space in
    let rec = c.args.definition.now.rec in
    let k = c.bucket_of-number.result in
    let was = c.loop-content.invariant.touched in
    let test = c.loop-content-test.true in
    let few = was.1 in
    let front = c.in_err-firsts.ensures.touches in
    record {
      ids = front.id ∷ was.0;
      few = omega arith;
      only = beside_more (head_ids 12 rec) was.0 front.id c.slot_of.result.id (get_or c.loop-content.firsts k 0) s m t
          (subst (λ x. In x (head_ids 12 rec)) (sym c.slot_of.ensures.is.id_is) (head-in 12 rec (k / 15) (let l = c.bucket_of-number.ensures.low in omega
          arith))) (was.2 k c.bucket_of-number.ensures.low) was.3 front.only;
    }

pub returns-in_err-firsts-clause-mishap : goal.returns-in_err-firsts-clause-mishap
returns-in_err-firsts-clause-mishap g c tells wanted ix label key empty fillable store left =
    let m = g.S.Reads.state c.loop-content.space in
    let was = (c.loop-content.invariant.filled tells wanted ix label key empty fillable store).0 in
    let test = c.loop-content-test.true in
    let few = length-take-le c.loop-content.content-index c.args.contents.now (omega (arith, test)) in
    let live = was.live in
    let room = ap (λ z. room_of z format.index_file) was.shape in
    let p = err_from_is_err_and c.from_residual.result c.from_residual.ensures.1 in
    rw (p.1, p.2) (fs.index_mishap m c.in_err-firsts.field-0.0 (c.in_err-firsts.ensures.full tells) (c.in_err-firsts.ensures.not_damaged tells
    (free_list m was.kept).0 (store_takes m was.kept)) (omega (arith, left, live, few, room, test)))

pub returns-clause-filled : goal.returns-clause-filled
returns-clause-filled g c tells wanted ix label key empty fillable store =
    let s = g.S.Reads.state c.args.space.now in
    let t = g.S.Reads.state c.loop-content.space in
    subst (IsFilled s t wanted ix label key) (take_all c.loop-content.content-index c.args.contents.now (omega (arith, c.loop-content-test.false)))
    (c.loop-content.invariant.filled tells wanted ix label key empty fillable store).0

pub returns-in_err-firsts-clause-roomy : goal.returns-in_err-firsts-clause-roomy
returns-in_err-firsts-clause-roomy g c tells left =
    let s = g.S.Reads.state c.args.space.now in
    let m = g.S.Reads.state c.loop-content.space in
    let test = c.loop-content-test.true in
    take_has IsNotFull c.from_residual.result c.in_err-firsts.field-0.0 c.from_residual.ensures.1
    (full_roomy m c.in_err-firsts.field-0.0 (c.in_err-firsts.ensures.full tells) (counts_left s m c.loop-content.content-index 1 (length c.args.contents.now)
    (c.loop-content.invariant.counted tells) (omega (arith, test)) left))

pub returns-in_err-firsts-clause-damaged : goal.returns-in_err-firsts-clause-damaged
returns-in_err-firsts-clause-damaged g c tells heads =
    let s = g.S.Reads.state c.args.space.now in
    let m = g.S.Reads.state c.loop-content.space in
    take_has (BlamesList s format.index_file) c.from_residual.result c.in_err-firsts.field-0.0 c.from_residual.ensures.1
    (blames_before s m format.index_file c.in_err-firsts.field-0.0 (c.loop-content.invariant.kept tells heads).0.harmless
    (c.in_err-firsts.ensures.damaged tells))

pub returns-in_err-firsts-clause-damaged_after : goal.returns-in_err-firsts-clause-damaged_after
returns-in_err-firsts-clause-damaged_after g c tells =
    let t = g.S.Reads.state c.put_in_front.new.space in
    take_has (BlamesBroken t.records t.shape) c.from_residual.result c.in_err-firsts.field-0.0 c.from_residual.ensures.1
    (c.in_err-firsts.ensures.damaged_after tells)

pub returns-in_err-firsts-clause-filled : goal.returns-in_err-firsts-clause-filled
returns-in_err-firsts-clause-filled g c _ _ _ _ _ _ _ _ = never_ok c.from_residual.result _ _ c.from_residual.ensures.1

pub returns-in_err-firsts-clause-cause : goal.returns-in_err-firsts-clause-cause
returns-in_err-firsts-clause-cause g c =
    take_cause_passed _ _ _ c.from_residual.result c.in_err-firsts.field-0.0 c.loop-content.invariant.later c.in_err-firsts.ensures.cause
    c.from_residual.ensures.1

pub returns-in_err-firsts-clause-onward : goal.returns-in_err-firsts-clause-onward
returns-in_err-firsts-clause-onward g c = g.met.S.Reads.further_onward _ _ _ c.loop-content.invariant.onward c.in_err-firsts.ensures.onward

pub returns-clause-cause : goal.returns-clause-cause
returns-clause-cause g c = take_ok_cause _ _ _ c.loop-content.invariant.later

pub returns-clause-onward : goal.returns-clause-onward
returns-clause-onward g c = c.loop-content.invariant.onward

pub returns-clause-leaves_others : goal.returns-clause-leaves_others
returns-clause-leaves_others g c tells heads = (c.loop-content.invariant.beside tells heads).0

pub returns-in_err-firsts-clause-leaves_others : goal.returns-in_err-firsts-clause-leaves_others
returns-in_err-firsts-clause-leaves_others g c _ _ = never_ok c.from_residual.result _ _ c.from_residual.ensures.1
