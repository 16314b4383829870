use Rattle.store_rules.specs.Chains.{In}
use Rattle.std.proofs.Common.{◌≡◌, ◌≢◌, ℕ, ◌+◌, refl, ◌<◌, ◌≤◌, ◌^◌, length, List, [], ◌∷◌, ap, sym, ◌∙◌, subst, inl, inr, ⊎_elim, arith, rules}
use Rattle.fault_count.specs.Cause.{raised}
use Rattle.rec_bytes.specs.declared.key.Key.{Key}
use Rattle.rec_bytes.specs.declared.record.Rec.{Rec}
use Rattle.rec_bytes.specs.Format as format
use Rattle.rec_bytes.specs.Record.{field}
use Rattle.rec_bytes.specs.RecordFiles.{meta_key_of}
use Rattle.rec_bytes.specs.Space.{State, after_get, after_set, meta_of}
use Rattle.store_rules.specs.Indexes.{first_definition}
use Rattle.id_freelist.specs.ListDamage.{BlamesList}
use Rattle.id_freelist.specs.declared.take_fault.TakeFault.{TakeFault}
use Rattle.id_freelist.proofs.ListSteps.{blames_before, keeps_then, list_of_space, reads_harm_none, reads_keep}
use Rattle.prop_index.proofs.ListKept.{definition_kept}
use Rattle.prop_store.specs.Touching.{TouchesOnly}
use Rattle.prop_store.proofs.ReadCounts.{reads_one, reads_same}
use Rattle.prop_index.specs.Defining.{AreHeadsAdded, CountsMore, HasLeft, IsRecordAdded}
use Rattle.prop_index.specs.DefinitionRecord.{definition_start, head_ids}
use Rattle.prop_index.specs.Entering.{IsMishap, IsNotFull}
use Rattle.std.proofs.lemmas.Result.{err_from_is_err_and}
use Rattle.prop_index.proofs.Counting.{counts_left, counts_then, first_live, space_roomy}
use Rattle.prop_index.proofs.RecordsAdded.{space_mishap}
use Rattle.prop_index.proofs.IndexBlames.{space_take, take_has}
use Rattle.prop_index.specs.Touching.{index_keys}
use Rattle.prop_index.proofs.DefinitionAdded.{definition_added, definition_reread, start-kind}
use Rattle.prop_index.proofs.HeadsAdded.{length-head_ids}
use Rattle.prop_index.proofs.IndexTouches.{index_read, index_then, only_join, then_meta}
use Rattle.rec_bytes.proofs.Causes.{never_ok}
use Rattle.prop_index.proofs.Causes.{space_take_cause, take_cause_passed, take_ok_cause}
use Rattle.prop_index.specs.Blaming.{TakeBlamesBroken}
use Rattle.prop_store.proofs.Causes.{later_on}
use Rattle.rec_bytes.specs.Record.{with_field, zeros}
use Rattle.rec_bytes.specs.Tables.{AllFit}
use Rattle.rec_bytes.proofs.Spaces.{put_other}
use Rattle.rec_bytes.proofs.Tables.{field-with_fields}
use Rattle.store_rules.specs.Indexes.{index_rec}
use Rattle.store_rules.specs.Views.{key_in, kind_at}
use Rattle.store_rules.proofs.MetaLaws.{not_meta_key}
use Rattle.prop_index.specs.DefinitionRecord.{definition_fields}
use Rattle.prop_index.proofs.defining.define.Goals as goal
use Rattle.store_rules.specs.Rules.{IsWhole}

pub returns-in_err-rec-clause-touches : goal.returns-in_err-rec-clause-touches
returns-in_err-rec-clause-touches g c = index_then 0 12 13 _ _ _ (omega arith) (index_read 0 1 _ _ (reads_one 1 _ _ (omega arith) c.get.ensures.state))
    c.in_err-rec.ensures.touches

pub returns-in_err-id-clause-touches : goal.returns-in_err-id-clause-touches
returns-in_err-id-clause-touches g c =
    index_then 12 1 13 _ _ _ (omega arith)
    (index_then 0 12 12 _ _ _ (omega arith) (index_read 0 1 _ _ (reads_one 1 _ _ (omega arith) c.get.ensures.state)) c.in_ok-rec.ensures.touches)
    c.in_err-id.ensures.touches

-- what was read, the heads, and the record of the definition
module _ where
  pub joined : {tells : Type 0} (s a m t : State) (rec : Rec) (id : ℕ) → a ≡ after_get s → TouchesOnly tells a m (index_keys (head_ids 12 rec))
      → TouchesOnly tells m t (index_keys (id ∷ [])) → TouchesOnly tells s t (index_keys (id ∷ head_ids 12 rec))
  joined s a m t rec id is h g =
      let read = (index_read 0 1 s a (reads_one 1 s a (omega arith) is)) in
      only_join read.ids (id ∷ head_ids 12 rec) (id ∷ head_ids 12 rec) s a t (λ x i. none read.ids read.few x i) (λ x i. i) read.only
      (only_join (head_ids 12 rec) (id ∷ []) (id ∷ head_ids 12 rec) a m t (λ x i. inr i) (λ x i. ⊎_elim (λ e. inl e) (λ (k : ⊥). absurd k) i) h g)
    where
      none : (xs : List ℕ) → length xs ≤ 0 → (x : ℕ) → In x xs → In x (id ∷ head_ids 12 rec)
      none [] few x i = elim i [ ]
      none (y ∷ ys) few x i = absurd (omega arith)

pub returns-in_err-set_number-clause-touches : goal.returns-in_err-set_number-clause-touches
returns-in_err-set_number-clause-touches g c =
    let ids = c.in_ok-id.id ∷ head_ids 12 c.in_ok-rec.rec in
    let few = length-head_ids 12 c.in_ok-rec.rec in
    record {
      ids = ids;
      few = omega arith;
      only = then_meta ids _ _ _ c.meta_key-2.result c.meta_key-2.ensures
          (joined _ _ _ _ c.in_ok-rec.rec c.in_ok-id.id c.get.ensures.state c.in_ok-rec.ensures.touched c.in_ok-id.ensures.touched)
          c.in_err-set_number.ensures.wrote;
    }

pub returns-clause-touched : goal.returns-clause-touched
returns-clause-touched g c =
    then_meta (c.in_ok-id.id ∷ head_ids 12 c.in_ok-rec.rec) _ _ _ c.meta_key-2.result c.meta_key-2.ensures
    (joined _ _ _ _ c.in_ok-rec.rec c.in_ok-id.id c.get.ensures.state c.in_ok-rec.ensures.touched c.in_ok-id.ensures.touched) c.in_ok-set_number.ensures.wrote

pub returns-clause-touches : goal.returns-clause-touches
returns-clause-touches g c =
    let ids = c.in_ok-id.id ∷ head_ids 12 c.in_ok-rec.rec in
    let few = length-head_ids 12 c.in_ok-rec.rec in
    record {
      ids = ids;
      few = omega arith;
      only = then_meta ids _ _ _ c.meta_key-2.result c.meta_key-2.ensures
          (joined _ _ _ _ c.in_ok-rec.rec c.in_ok-id.id c.get.ensures.state c.in_ok-rec.ensures.touched c.in_ok-id.ensures.touched)
          c.in_ok-set_number.ensures.wrote;
    }

pub returns-clause-onward : goal.returns-clause-onward
returns-clause-onward g c =
    g.met.S.Reads.further_onward _ _ _ (g.met.S.Reads.further_onward _ _ _ (g.met.S.Reads.further_onward _ _ _ c.get.ensures.onward c.in_ok-rec.ensures.onward)
    c.in_ok-id.ensures.onward) c.in_ok-set_number.ensures.onward

pub returns-clause-added : goal.returns-clause-added
returns-clause-added g c tells store named =
    let s = g.S.Reads.state c.args.space.now in
    let m = g.S.Reads.state c.add_heads.new.space in
    let t = g.S.Reads.state c.add_record.new.space in
    let w = g.S.Reads.state c.set_number.new.space in
    let label = c.args.label in
    let key = c.args.key in
    let first = c.number.result in
    let rec = c.in_ok-rec.rec in
    let id = c.in_ok-id.id in
    let label_fits : label < 2 ^ 32 = search rules in
    let key_fits : key < 2 ^ 32 = search rules in
    let first_fits : first < 2 ^ 32 = search rules in
    let got : c.in_ok-meta.meta ≡ s.records (meta_key_of format.index_file) = c.in_ok-meta.ensures.got tells ∙ ap s.records c.meta_key.ensures in
    let first_is : first ≡ first_definition s.records = c.number.ensures ∙ ap (λ (r : Rec). field 4 r format.meta_definition) got in
    let store_read : IsWhole (g.S.Reads.state c.get.new.self) = subst IsWhole (sym c.get.ensures.state) store in
    let heads_read = c.in_ok-rec.ensures.added tells store_read in
    let heads : AreHeadsAdded (after_get s) m (definition_start label key first) 12 rec
    = subst (λ (z : State). AreHeadsAdded z m (definition_start label key first) 12 rec) c.get.ensures.state
    (subst (λ (r : Rec). AreHeadsAdded (g.S.Reads.state c.get.new.self) m r 12 rec) c.definition_start-start.ensures heads_read) in
    let kind = heads.front 1 format.kind (omega arith) ∙ start-kind label key first label_fits key_fits first_fits in
    let used : field 1 rec format.kind ≢ format.free_kind = λ e. omega (arith, kind, e) in
    let added : IsRecordAdded m t rec id = c.in_ok-id.ensures.added tells heads.kept used in
    let is : w ≡ after_set t (meta_key_of format.index_file) 4 format.meta_definition id = c.in_ok-set_number.ensures.ok tells
    ∙ ap (λ (k : Key). after_set t k 4 format.meta_definition id) c.meta_key-2.ensures in
    definition_reread s w (raised s.reads) label key (record { id = id; rec = rec })
    (definition_added (after_get s) m t label key first id rec store heads added named first_is label_fits key_fits first_fits w is)

-- the heads, the definition, and the meta record
pub returns-clause-kept : goal.returns-clause-kept
returns-clause-kept g c tells =
    let s = g.S.Reads.state c.args.space.now in
    let a = g.S.Reads.state c.get.new.self in
    let m = g.S.Reads.state c.add_heads.new.space in
    let t = g.S.Reads.state c.add_record.new.space in
    let w = g.S.Reads.state c.set_number.new.space in
    let id = c.in_ok-id.id in
    let label = c.args.label in
    let key = c.args.key in
    let first = c.number.result in
    let rec = c.in_ok-rec.rec in
    let label_fits : label < 2 ^ 32 = search rules in
    let key_fits : key < 2 ^ 32 = search rules in
    let first_fits : first < 2 ^ 32 = search rules in
    let kind : field 1 rec format.kind ≡ format.definition = c.in_ok-rec.ensures.kind ∙ ap (λ (r : Rec). field 1 r format.kind) c.definition_start-start.ensures
    ∙ start-kind label key first label_fits key_fits first_fits in
    let used : field 1 rec format.kind ≢ format.free_kind = λ e. omega (arith, kind, e) in
    let is : w ≡ after_set t (meta_key_of format.index_file) 4 format.meta_definition id = c.in_ok-set_number.ensures.ok tells
    ∙ ap (λ (k : Key). after_set t k 4 format.meta_definition id) c.meta_key-2.ensures in
    let heads = c.in_ok-rec.ensures.kept tells in
    let added = c.in_ok-id.ensures.kept tells used in
    let last = definition_kept t w id is in
    record {
      keeps = keeps_then s a w format.index_file (reads_keep s a format.index_file (reads_same 1 s a (reads_one 1 s a (omega arith) c.get.ensures.state)))
          (keeps_then a m w format.index_file heads.keeps (keeps_then m t w format.index_file added.keeps last));
      used = λ k lt. last.used _ (added.keeps.used _ (heads.used k lt));
    }

-- what is blamed is wrong with the list
list_read : (s a : State) (fault : TakeFault) → a ≡ after_get s → BlamesList a format.index_file fault → BlamesList s format.index_file fault
list_read s a fault is why = blames_before s a format.index_file fault (reads_harm_none s a format.index_file (reads_same 1 s a (reads_one 1 s a (omega arith)
    is))) why

pub returns-in_err-meta-clause-damaged : goal.returns-in_err-meta-clause-damaged
returns-in_err-meta-clause-damaged g c tells =
    let s = g.S.Reads.state c.args.space.now in
    take_has (BlamesList s format.index_file) c.from_residual.result _ c.from_residual.ensures.1 (list_of_space s format.index_file c.in_err-meta.field-0.0)

pub returns-in_err-rec-clause-damaged : goal.returns-in_err-rec-clause-damaged
returns-in_err-rec-clause-damaged g c tells =
    let s = g.S.Reads.state c.args.space.now in
    take_has (BlamesList s format.index_file) c.from_residual-in_err-rec.result c.in_err-rec.field-0.0 c.from_residual-in_err-rec.ensures.1
    (list_read s (g.S.Reads.state c.get.new.self) c.in_err-rec.field-0.0 c.get.ensures.state (c.in_err-rec.ensures.damaged tells))

pub returns-in_err-id-clause-damaged : goal.returns-in_err-id-clause-damaged
returns-in_err-id-clause-damaged g c tells =
    let s = g.S.Reads.state c.args.space.now in
    let a = g.S.Reads.state c.get.new.self in
    let m = g.S.Reads.state c.add_heads.new.space in
    take_has (BlamesList s format.index_file) c.from_residual-in_err-id.result c.in_err-id.field-0.0 c.from_residual-in_err-id.ensures.1
    (list_read s a c.in_err-id.field-0.0 c.get.ensures.state (blames_before a m format.index_file c.in_err-id.field-0.0
    (c.in_ok-rec.ensures.kept tells).keeps.harmless (c.in_err-id.ensures.damaged tells)))

pub returns-in_err-set_number-clause-damaged : goal.returns-in_err-set_number-clause-damaged
returns-in_err-set_number-clause-damaged g c tells =
    let s = g.S.Reads.state c.args.space.now in
    take_has (BlamesList s format.index_file) c.from_residual-in_err-set_number.result _ c.from_residual-in_err-set_number.ensures.1
    (list_of_space s format.index_file c.in_err-set_number.field-0.0)

pub returns-in_err-meta-clause-kept : goal.returns-in_err-meta-clause-kept
returns-in_err-meta-clause-kept g c _ = never_ok c.from_residual.result _ _ c.from_residual.ensures.1

pub returns-in_err-rec-clause-kept : goal.returns-in_err-rec-clause-kept
returns-in_err-rec-clause-kept g c _ = never_ok c.from_residual-in_err-rec.result _ _ c.from_residual-in_err-rec.ensures.1

pub returns-in_err-id-clause-kept : goal.returns-in_err-id-clause-kept
returns-in_err-id-clause-kept g c _ = never_ok c.from_residual-in_err-id.result _ _ c.from_residual-in_err-id.ensures.1

pub returns-in_err-set_number-clause-kept : goal.returns-in_err-set_number-clause-kept
returns-in_err-set_number-clause-kept g c _ = never_ok c.from_residual-in_err-set_number.result _ _ c.from_residual-in_err-set_number.ensures.1

-- what was read before is counted as it was
counts_read : (s a t : State) (n : ℕ) → a ≡ after_get s → CountsMore a t n → CountsMore s t n
counts_read s a t n is h = record {
  live = h.live ∙ ap (λ (z : State). (meta_of z format.index_file).live + n) is;
  shape = h.shape ∙ ap (λ (z : State). z.shape) is;
}

left_read : (s a : State) (n : ℕ) → a ≡ after_get s → HasLeft s n → HasLeft a n
left_read s a n is left = subst (λ (z : State). HasLeft z n) (sym is) left

pub returns-clause-counted : goal.returns-clause-counted
returns-clause-counted g c tells =
    let s = g.S.Reads.state c.args.space.now in
    let a = g.S.Reads.state c.get.new.self in
    let m = g.S.Reads.state c.add_heads.new.space in
    let t = g.S.Reads.state c.add_record.new.space in
    let w = g.S.Reads.state c.set_number.new.space in
    let id = c.in_ok-id.id in
    let is : w ≡ after_set t (meta_key_of format.index_file) 4 format.meta_definition id = c.in_ok-set_number.ensures.ok tells
    ∙ ap (λ (k : Key). after_set t k 4 format.meta_definition id) c.meta_key-2.ensures in
    let counted = counts_read s a t 13 c.get.ensures.state (counts_then a m t 12 1 13 refl (c.in_ok-rec.ensures.counted tells)
    (c.in_ok-id.ensures.counted tells)) in
    record {
      live = ap (λ (z : State). (meta_of z format.index_file).live) is ∙ first_live t id ∙ counted.live;
      shape = g.met.S.Reads.onward_shape _ _ c.in_ok-set_number.ensures.onward ∙ counted.shape;
    }

pub returns-in_err-rec-clause-roomy : goal.returns-in_err-rec-clause-roomy
returns-in_err-rec-clause-roomy g c tells left =
    let s = g.S.Reads.state c.args.space.now in
    let a = g.S.Reads.state c.get.new.self in
    let fewer : HasLeft s 12 = omega (arith, left) in
    take_has IsNotFull c.from_residual-in_err-rec.result c.in_err-rec.field-0.0 c.from_residual-in_err-rec.ensures.1
    (c.in_err-rec.ensures.roomy tells (left_read s a 12 c.get.ensures.state fewer))

pub returns-in_err-id-clause-roomy : goal.returns-in_err-id-clause-roomy
returns-in_err-id-clause-roomy g c tells left =
    let s = g.S.Reads.state c.args.space.now in
    let a = g.S.Reads.state c.get.new.self in
    let m = g.S.Reads.state c.add_heads.new.space in
    take_has IsNotFull c.from_residual-in_err-id.result c.in_err-id.field-0.0 c.from_residual-in_err-id.ensures.1
    (c.in_err-id.ensures.roomy tells (counts_left a m 12 1 13 (c.in_ok-rec.ensures.counted tells) (omega arith) (left_read s a 13 c.get.ensures.state left)))

pub returns-in_err-set_number-clause-mishap : goal.returns-in_err-set_number-clause-mishap
returns-in_err-set_number-clause-mishap g c tells store left =
    let p = err_from_is_err_and c.from_residual-in_err-set_number.result c.from_residual-in_err-set_number.ensures.1 in
    rw (p.1, p.2) (space_mishap c.in_err-set_number.field-0.0)

pub returns-in_err-set_number-clause-roomy : goal.returns-in_err-set_number-clause-roomy
returns-in_err-set_number-clause-roomy g c tells left =
    let p = err_from_is_err_and c.from_residual-in_err-set_number.result c.from_residual-in_err-set_number.ensures.1 in
    rw (p.1, p.2) (space_roomy c.in_err-set_number.field-0.0)

pub returns-in_err-rec-clause-onward : goal.returns-in_err-rec-clause-onward
returns-in_err-rec-clause-onward g c =
    g.met.S.Reads.further_onward _ _ _ c.in_ok-meta.ensures.onward c.in_err-rec.ensures.onward

pub returns-in_err-id-clause-onward : goal.returns-in_err-id-clause-onward
returns-in_err-id-clause-onward g c =
    g.met.S.Reads.further_onward _ _ _
    (g.met.S.Reads.further_onward _ _ _ c.in_ok-meta.ensures.onward c.in_ok-rec.ensures.onward)
    c.in_err-id.ensures.onward

pub returns-in_err-set_number-clause-onward : goal.returns-in_err-set_number-clause-onward
returns-in_err-set_number-clause-onward g c =
    g.met.S.Reads.further_onward _ _ _
    (g.met.S.Reads.further_onward _ _ _ (g.met.S.Reads.further_onward _ _ _ c.in_ok-meta.ensures.onward c.in_ok-rec.ensures.onward) c.in_ok-id.ensures.onward)
    c.in_err-set_number.ensures.onward

pub returns-in_err-meta-clause-added : goal.returns-in_err-meta-clause-added
returns-in_err-meta-clause-added g c _ _ _ = never_ok c.from_residual.result _ _ c.from_residual.ensures.1

pub returns-in_err-meta-clause-counted : goal.returns-in_err-meta-clause-counted
returns-in_err-meta-clause-counted g c _ = never_ok c.from_residual.result _ _ c.from_residual.ensures.1

pub returns-in_err-meta-clause-heads : goal.returns-in_err-meta-clause-heads
returns-in_err-meta-clause-heads g c = never_ok c.from_residual.result _ _ c.from_residual.ensures.1

pub returns-in_err-meta-clause-touched : goal.returns-in_err-meta-clause-touched
returns-in_err-meta-clause-touched g c = never_ok c.from_residual.result _ _ c.from_residual.ensures.1

pub returns-in_err-meta-clause-onward : goal.returns-in_err-meta-clause-onward
returns-in_err-meta-clause-onward g c = search rules

pub returns-in_err-rec-clause-added : goal.returns-in_err-rec-clause-added
returns-in_err-rec-clause-added g c _ _ _ = never_ok c.from_residual-in_err-rec.result _ _ c.from_residual-in_err-rec.ensures.1

pub returns-in_err-rec-clause-counted : goal.returns-in_err-rec-clause-counted
returns-in_err-rec-clause-counted g c _ = never_ok c.from_residual-in_err-rec.result _ _ c.from_residual-in_err-rec.ensures.1

pub returns-in_err-rec-clause-heads : goal.returns-in_err-rec-clause-heads
returns-in_err-rec-clause-heads g c = never_ok c.from_residual-in_err-rec.result _ _ c.from_residual-in_err-rec.ensures.1

pub returns-in_err-rec-clause-touched : goal.returns-in_err-rec-clause-touched
returns-in_err-rec-clause-touched g c = never_ok c.from_residual-in_err-rec.result _ _ c.from_residual-in_err-rec.ensures.1

pub returns-in_err-id-clause-added : goal.returns-in_err-id-clause-added
returns-in_err-id-clause-added g c _ _ _ = never_ok c.from_residual-in_err-id.result _ _ c.from_residual-in_err-id.ensures.1

pub returns-in_err-id-clause-counted : goal.returns-in_err-id-clause-counted
returns-in_err-id-clause-counted g c _ = never_ok c.from_residual-in_err-id.result _ _ c.from_residual-in_err-id.ensures.1

pub returns-in_err-id-clause-heads : goal.returns-in_err-id-clause-heads
returns-in_err-id-clause-heads g c = never_ok c.from_residual-in_err-id.result _ _ c.from_residual-in_err-id.ensures.1

pub returns-in_err-id-clause-touched : goal.returns-in_err-id-clause-touched
returns-in_err-id-clause-touched g c = never_ok c.from_residual-in_err-id.result _ _ c.from_residual-in_err-id.ensures.1

pub returns-in_err-set_number-clause-added : goal.returns-in_err-set_number-clause-added
returns-in_err-set_number-clause-added g c _ _ _ = never_ok c.from_residual-in_err-set_number.result _ _ c.from_residual-in_err-set_number.ensures.1

pub returns-in_err-set_number-clause-counted : goal.returns-in_err-set_number-clause-counted
returns-in_err-set_number-clause-counted g c _ = never_ok c.from_residual-in_err-set_number.result _ _ c.from_residual-in_err-set_number.ensures.1

pub returns-in_err-set_number-clause-heads : goal.returns-in_err-set_number-clause-heads
returns-in_err-set_number-clause-heads g c = never_ok c.from_residual-in_err-set_number.result _ _ c.from_residual-in_err-set_number.ensures.1

pub returns-in_err-set_number-clause-touched : goal.returns-in_err-set_number-clause-touched
returns-in_err-set_number-clause-touched g c = never_ok c.from_residual-in_err-set_number.result _ _ c.from_residual-in_err-set_number.ensures.1

pub returns-in_err-meta-clause-cause : goal.returns-in_err-meta-clause-cause
returns-in_err-meta-clause-cause g c =
    space_take_cause _ _ _ c.from_residual.result c.in_err-meta.field-0.0 (omega arith) c.in_err-meta.ensures.cause c.from_residual.ensures.1

pub returns-in_err-meta-clause-mishap : goal.returns-in_err-meta-clause-mishap
returns-in_err-meta-clause-mishap g c tells store left =
    take_has IsMishap c.from_residual.result _ c.from_residual.ensures.1 (space_mishap c.in_err-meta.field-0.0)

pub returns-in_err-meta-clause-roomy : goal.returns-in_err-meta-clause-roomy
returns-in_err-meta-clause-roomy g c tells left = take_has IsNotFull c.from_residual.result _ c.from_residual.ensures.1 (space_roomy c.in_err-meta.field-0.0)

pub returns-in_err-meta-clause-damaged_after : goal.returns-in_err-meta-clause-damaged_after
returns-in_err-meta-clause-damaged_after g c tells =
    let t = g.S.Reads.state c.get.new.self in
    space_take t.records t.shape c.from_residual.result c.in_err-meta.field-0.0 c.from_residual.ensures.1

pub returns-in_err-meta-clause-touches : goal.returns-in_err-meta-clause-touches
returns-in_err-meta-clause-touches g c = index_read 13 1 _ _ (reads_one 1 _ _ (omega arith) c.get.ensures.state)

pub returns-in_err-rec-clause-cause : goal.returns-in_err-rec-clause-cause
returns-in_err-rec-clause-cause g c =
    take_cause_passed _ _ _ c.from_residual-in_err-rec.result c.in_err-rec.field-0.0 c.in_ok-meta.ensures.cause.later c.in_err-rec.ensures.cause
    c.from_residual-in_err-rec.ensures.1

pub returns-in_err-rec-clause-mishap : goal.returns-in_err-rec-clause-mishap
returns-in_err-rec-clause-mishap g c tells store left =
    let s = g.S.Reads.state c.args.space.now in
    let a = g.S.Reads.state c.get.new.self in
    let fewer : HasLeft s 12 = omega (arith, left) in
    take_has IsMishap c.from_residual-in_err-rec.result c.in_err-rec.field-0.0 c.from_residual-in_err-rec.ensures.1
    (c.in_err-rec.ensures.mishap tells (subst IsWhole (sym c.get.ensures.state) store) (left_read s a 12 c.get.ensures.state fewer))

pub returns-in_err-rec-clause-damaged_after : goal.returns-in_err-rec-clause-damaged_after
returns-in_err-rec-clause-damaged_after g c tells =
    let t = g.S.Reads.state c.add_heads.new.space in
    take_has (TakeBlamesBroken t.records t.shape) c.from_residual-in_err-rec.result c.in_err-rec.field-0.0 c.from_residual-in_err-rec.ensures.1
    (c.in_err-rec.ensures.damaged_after tells)

pub returns-in_err-id-clause-cause : goal.returns-in_err-id-clause-cause
returns-in_err-id-clause-cause g c =
    take_cause_passed _ _ _ c.from_residual-in_err-id.result c.in_err-id.field-0.0 (later_on c.in_ok-meta.ensures.cause.later c.in_ok-rec.ensures.cause.later)
    c.in_err-id.ensures.cause c.from_residual-in_err-id.ensures.1

pub returns-in_err-id-clause-mishap : goal.returns-in_err-id-clause-mishap
returns-in_err-id-clause-mishap g c tells store left =
    let s = g.S.Reads.state c.args.space.now in
    let a = g.S.Reads.state c.get.new.self in
    let m = g.S.Reads.state c.add_heads.new.space in
    let heads = c.in_ok-rec.ensures.added tells (subst IsWhole (sym c.get.ensures.state) store) in
    take_has IsMishap c.from_residual-in_err-id.result c.in_err-id.field-0.0 c.from_residual-in_err-id.ensures.1
    (c.in_err-id.ensures.mishap tells heads.kept (counts_left a m 12 1 13 (c.in_ok-rec.ensures.counted tells) (omega arith)
    (left_read s a 13 c.get.ensures.state left)))

pub returns-in_err-id-clause-damaged_after : goal.returns-in_err-id-clause-damaged_after
returns-in_err-id-clause-damaged_after g c tells =
    let t = g.S.Reads.state c.add_record.new.space in
    take_has (TakeBlamesBroken t.records t.shape) c.from_residual-in_err-id.result c.in_err-id.field-0.0 c.from_residual-in_err-id.ensures.1
    (c.in_err-id.ensures.damaged_after tells)

pub returns-in_err-set_number-clause-cause : goal.returns-in_err-set_number-clause-cause
returns-in_err-set_number-clause-cause g c =
    space_take_cause _ _ _ c.from_residual-in_err-set_number.result c.in_err-set_number.field-0.0
    (later_on (later_on c.in_ok-meta.ensures.cause.later c.in_ok-rec.ensures.cause.later) c.in_ok-id.ensures.cause.later)
    c.in_err-set_number.ensures.cause c.from_residual-in_err-set_number.ensures.1

pub returns-in_err-set_number-clause-damaged_after : goal.returns-in_err-set_number-clause-damaged_after
returns-in_err-set_number-clause-damaged_after g c tells =
    let t = g.S.Reads.state c.set_number.new.space in
    space_take t.records t.shape c.from_residual-in_err-set_number.result c.in_err-set_number.field-0.0 c.from_residual-in_err-set_number.ensures.1

pub returns-clause-heads : goal.returns-clause-heads
returns-clause-heads g c = c.in_ok-rec.ensures.heads

pub returns-clause-cause : goal.returns-clause-cause
returns-clause-cause g c =
    take_ok_cause _ _ _
    (later_on (later_on (later_on c.in_ok-meta.ensures.cause.later c.in_ok-rec.ensures.cause.later) c.in_ok-id.ensures.cause.later)
    c.in_ok-set_number.ensures.cause.later)

-- ---- the record of the definition, whatever the others are

pub returns-clause-defined : goal.returns-clause-defined
returns-clause-defined g c tells =
    let m = g.S.Reads.state c.add_heads.new.space in
    let t = g.S.Reads.state c.add_record.new.space in
    let w = g.S.Reads.state c.set_number.new.space in
    let id = c.in_ok-id.id in
    let label = c.args.label in
    let key = c.args.key in
    let first = c.number.result in
    let rec = c.in_ok-rec.rec in
    let label_fits : label < 2 ^ 32 = search rules in
    let key_fits : key < 2 ^ 32 = search rules in
    let first_fits : first < 2 ^ 32 = search rules in
    let fields = definition_fields label key first in
    let fit : AllFit fields = (omega arith, (label_fits, (key_fits, (first_fits, tt)))) in
    let start = c.definition_start-start.ensures in
    let kind : field 1 rec format.kind ≡ format.definition = c.in_ok-rec.ensures.kind ∙ ap (λ (r : Rec). field 1 r format.kind) start
    ∙ start-kind label key first label_fits key_fits first_fits in
    let used : field 1 rec format.kind ≢ format.free_kind = λ e. omega (arith, kind, e) in
    let is : w ≡ after_set t (meta_key_of format.index_file) 4 format.meta_definition id = c.in_ok-set_number.ensures.ok tells
    ∙ ap (λ (k : Key). after_set t k 4 format.meta_definition id) c.meta_key-2.ensures in
    let meta = meta_key_of format.index_file in
    record {
      used = (definition_kept t w id is).used id (c.in_ok-id.ensures.kept tells used).used;
      here = ap (λ (z : State). index_rec z.records id) is
          ∙ put_other t.records meta (with_field 4 (t.records meta) format.meta_definition id) (key_in format.index_file id)
          (not_meta_key format.index_file id format.index_file refl) ∙ c.in_ok-id.ensures.here tells;
      apart = λ k lt e. (c.in_ok-rec.ensures.kept tells).used k lt (ap (kind_at m.records format.index_file) (sym e) ∙ c.in_ok-id.ensures.fresh tells);
      kind = kind;
      label_is = c.in_ok-rec.ensures.front 4 format.definition_label (omega arith) ∙ ap (λ (r : Rec). field 4 r format.definition_label) start
          ∙ field-with_fields 4 zeros fields format.definition_label label refl fit refl;
      key_is = c.in_ok-rec.ensures.front 4 format.definition_key (omega arith) ∙ ap (λ (r : Rec). field 4 r format.definition_key) start
          ∙ field-with_fields 4 zeros fields format.definition_key key refl fit refl;
    }

pub returns-in_err-meta-clause-defined : goal.returns-in_err-meta-clause-defined
returns-in_err-meta-clause-defined g c _ = never_ok c.from_residual.result _ _ c.from_residual.ensures.1

pub returns-in_err-rec-clause-defined : goal.returns-in_err-rec-clause-defined
returns-in_err-rec-clause-defined g c _ = never_ok c.from_residual-in_err-rec.result _ _ c.from_residual-in_err-rec.ensures.1

pub returns-in_err-id-clause-defined : goal.returns-in_err-id-clause-defined
returns-in_err-id-clause-defined g c _ = never_ok c.from_residual-in_err-id.result _ _ c.from_residual-in_err-id.ensures.1

pub returns-in_err-set_number-clause-defined : goal.returns-in_err-set_number-clause-defined
returns-in_err-set_number-clause-defined g c _ = never_ok c.from_residual-in_err-set_number.result _ _ c.from_residual-in_err-set_number.ensures.1
