use Rattle.std.proofs.Common.{inl, inr, ◌≡◌, ◌≤◌, ◌+◌, arith, ap, sym, ◌∙◌, refl, subst}
use Rattle.std.proofs.lemmas.Bool.{true≢false}
use Rattle.rec_bytes.specs.declared.record.Rec.{Rec}
use Rattle.rec_bytes.specs.Format as format
use Rattle.rec_bytes.specs.Record.{field}
use Rattle.rec_bytes.specs.declared.meta.Meta.{Meta}
use Rattle.store_rules.specs.Indexes.{index_rec, next_entry}
use Rattle.store_rules.specs.Views.{Records, high, kind_at}
use Rattle.rec_bytes.specs.declared.damage.Damage.{Damage}
use Rattle.prop_index.specs.Leaving.{SaysContent}
use Rattle.prop_index.specs.Naming.{BlamesBucket}
use Rattle.prop_index.proofs.IndexNamed.{begins_first, entry_fault, late_lacks}
use Rattle.prop_store.proofs.Exits.{same_has}
use Rattle.prop_index.specs.Blaming.{IsEntryAt, IsOfIndexes, NamesIndexes}
use Rattle.prop_index.proofs.IndexBlames.{entry_goes_on, read_fault_same, read_names}
use Rattle.prop_store.proofs.ReadCounts.{reads_same}
use Rattle.prop_index.proofs.Reread.{same_records, same_then}
use Rattle.prop_index.proofs.Searches.{search_begins, search_here, search_on, search_over}
use Rattle.rec_bytes.proofs.Causes.{never_ok, ok_cause}
use Rattle.prop_index.proofs.Causes.{told_cause}
use Rattle.prop_store.proofs.Causes.{cause_passed, later_on}
use Rattle.prop_index.proofs.leaving.find_entry.Goals as goal

pub loop-init : goal.loop-init
loop-init g c = record {
  told = λ tells xs are. search_begins _ _ xs c.args.first are.walk;
  named_is = λ is. is;
  at = λ tells d b h. h;
  named_file = λ is. is;
  from = λ tells d b h some. inl (refl, begins_first (g.R.Reads.state c.args.space.now) d b c.args.first c.args.named h some);
  passed = λ tells some. absurd (some refl);
  key = λ some. absurd (some refl);
  same = refl;
  onward = g.met.R.Reads.stays_onward _;
  later = omega arith;
}

pub returns-then-at-clause-found : goal.returns-then-at-clause-found
returns-then-at-clause-found g c tells xs are = search_over _ _ xs c.loop.at c.loop.counter (c.loop.invariant.told tells xs are) c.if-at.true

pub returns-in_err-record_at-clause-same : goal.returns-in_err-record_at-clause-same
returns-in_err-record_at-clause-same g c =
    same_then (g.R.Reads.state c.args.space.now) (g.R.Reads.state c.loop.space) (g.R.Reads.state c.record_at.new.space) c.loop.invariant.same
    (reads_same 1 (g.R.Reads.state c.loop.space) (g.R.Reads.state c.record_at.new.space) c.in_err-record_at.ensures.at_most)

pub returns-then-is_of-clause-found : goal.returns-then-is_of-clause-found
returns-then-is_of-clause-found g c tells xs are =
    let s = g.R.Reads.state c.args.space.now in
    let now = g.R.Reads.state c.loop.space in
    let rec_is : c.record_at.new.rec ≡ index_rec s.records c.loop.at = c.in_ok-record_at.ensures.got tells
    ∙ ap (λ (r : Records). index_rec r c.loop.at) (same_records s now c.loop.invariant.same) in
    let says = c.is_of.ensures.0 c.if-is_of.true in
    record {
      member = (search_here _ _ xs c.loop.at c.loop.counter (c.loop.invariant.told tells xs are) c.if-at.false).0;
      rec_is = rec_is;
      says = (ap (λ (r : Rec). field 4 r format.indexed_node) (sym rec_is) ∙ says.0, ap (λ (r : Rec). field 8 r format.indexed_hash) (sym rec_is) ∙ says.1);
    }

pub returns-then-is_of-clause-same : goal.returns-then-is_of-clause-same
returns-then-is_of-clause-same g c = same_then (g.R.Reads.state c.args.space.now) (g.R.Reads.state c.loop.space) (g.R.Reads.state c.record_at.new.space)
    c.loop.invariant.same (reads_same 1 (g.R.Reads.state c.loop.space) (g.R.Reads.state c.record_at.new.space) c.in_ok-record_at.ensures.at_most)

pub loop-preserved : goal.loop-preserved
loop-preserved g c =
    let s = g.R.Reads.state c.args.space.now in
    let now = g.R.Reads.state c.loop.space in
    let records = same_records s now c.loop.invariant.same in
    let rec_is : g.R.Reads.tells → c.record_at.new.rec ≡ index_rec s.records c.loop.at = λ tells. c.in_ok-record_at.ensures.got tells
    ∙ ap (λ (r : Records). index_rec r c.loop.at) records in
    let next_is : g.R.Reads.tells → c.number-at.result ≡ next_entry s.records c.loop.at = λ tells. c.number-at.ensures
    ∙ ap (λ (r : Rec). field 4 r format.indexed_next) (rec_is tells) in
    let other : g.R.Reads.tells → ¬ SaysContent s.records c.args.content c.loop.at
    = λ tells says. true≢false (sym (c.is_of.ensures.1 (
      ap (λ (r : Rec). field 4 r format.indexed_node) (rec_is tells) ∙ says.0,
      ap
          (λ (r : Rec). field 8 r format.indexed_hash) (rec_is tells) ∙ says.1,
    )) ∙ c.if-is_of.false) in
    record {
      told = λ tells xs are.
          search_on _ _ xs c.loop.at c.loop.counter (c.loop.invariant.told tells xs are) c.number-at.result c.if-at.false (next_is tells)
          (other tells);
      named_is = λ is. subst IsOfIndexes (sym c.out_of_range-named.ensures) (inl refl);
      at = λ tells d b h. subst (IsEntryAt s d b (c.loop.counter + 1) c.number-at.result) (sym c.out_of_range-named.ensures)
          (entry_goes_on s d b c.loop.counter c.loop.at c.loop.named (c.loop.invariant.at tells d b h) c.if-at.false c.number-at.result
          (ap (λ (r : Records). kind_at r format.index_file c.loop.at) (sym records) ∙ c.in_ok-record_at.ensures.used tells) (next_is tells));
      named_file = λ is. ap (λ (z : Damage). z.file) c.out_of_range-named.ensures;
      from = λ tells d b h some. inr (record {
        count = c.loop.counter;
        leads = (c.loop.invariant.at tells d b h).leads c.if-at.false;
        used = ap (λ (r : Records). kind_at r format.index_file c.loop.at) (sym records) ∙ c.in_ok-record_at.ensures.used tells;
        next = sym (next_is tells);
      });
      passed = λ tells some. other tells;
      key = λ some. c.in_ok-record_at.ensures.key;
      same = same_then (g.R.Reads.state c.args.space.now) (g.R.Reads.state c.loop.space) (g.R.Reads.state c.record_at.new.space) c.loop.invariant.same
          (reads_same 1 (g.R.Reads.state c.loop.space) (g.R.Reads.state c.record_at.new.space) c.in_ok-record_at.ensures.at_most);
      onward = g.met.R.Reads.further_onward _ _ _ c.loop.invariant.onward c.in_ok-record_at.ensures.onward;
      later = omega (arith, c.loop.invariant.later, c.in_ok-record_at.ensures.cause.later);
    }

pub returns-clause-found : goal.returns-clause-found
returns-clause-found g c tells xs are = search_over _ _ xs c.loop.at c.loop.counter (c.loop.invariant.told tells xs are) c.if-at-2.false

pub returns-then-is_of-clause-row : goal.returns-then-is_of-clause-row
returns-then-is_of-clause-row g c tells =
    let s = g.R.Reads.state c.args.space.now in
    let records = same_records s (g.R.Reads.state c.loop.space) c.loop.invariant.same in
    record {
      rec_is = c.in_ok-record_at.ensures.got tells ∙ ap (λ (r : Records). index_rec r c.loop.at) records;
      used = ap (λ (r : Records). kind_at r format.index_file c.loop.at) (sym records) ∙ c.in_ok-record_at.ensures.used tells;
    }

pub returns-in_err-record_at-clause-names : goal.returns-in_err-record_at-clause-names
returns-in_err-record_at-clause-names g c tells is =
    let now = g.R.Reads.state c.loop.space in
    same_has NamesIndexes c.from_residual.result c.in_err-record_at.field-0.0 c.from_residual.ensures.1
    (read_names now c.loop.at format.indexed c.loop.named c.in_err-record_at.field-0.0 (c.loop.invariant.named_is is) (c.in_err-record_at.ensures.damaged
    tells))

pub returns-then-at-2-clause-names : goal.returns-then-at-2-clause-names
returns-then-at-2-clause-names g c tells is = subst NamesIndexes (sym c.damaged.ensures) (inl refl)

pub returns-in_err-record_at-clause-found : goal.returns-in_err-record_at-clause-found
returns-in_err-record_at-clause-found g c _ _ _ = never_ok c.from_residual.result _ _ c.from_residual.ensures.1

pub returns-in_err-record_at-clause-row : goal.returns-in_err-record_at-clause-row
returns-in_err-record_at-clause-row g c _ = never_ok c.from_residual.result _ _ c.from_residual.ensures.1

pub returns-in_err-record_at-clause-key : goal.returns-in_err-record_at-clause-key
returns-in_err-record_at-clause-key g c = never_ok c.from_residual.result _ _ c.from_residual.ensures.1

pub returns-clause-cause : goal.returns-clause-cause
returns-clause-cause g c = ok_cause _ _ _ _ (omega arith)

pub returns-in_err-record_at-clause-cause : goal.returns-in_err-record_at-clause-cause
returns-in_err-record_at-clause-cause g c =
    cause_passed _ _ _ c.from_residual.result c.in_err-record_at.field-0.0 c.loop.invariant.later c.in_err-record_at.ensures.cause c.from_residual.ensures.1

pub returns-in_err-record_at-clause-onward : goal.returns-in_err-record_at-clause-onward
returns-in_err-record_at-clause-onward g c = g.met.R.Reads.further_onward _ _ _ c.loop.invariant.onward c.in_err-record_at.ensures.onward

pub returns-then-is_of-clause-onward : goal.returns-then-is_of-clause-onward
returns-then-is_of-clause-onward g c = g.met.R.Reads.further_onward _ _ _ c.loop.invariant.onward c.in_ok-record_at.ensures.onward

pub returns-then-is_of-clause-cause : goal.returns-then-is_of-clause-cause
returns-then-is_of-clause-cause g c = ok_cause _ _ _ _ (later_on c.loop.invariant.later c.in_ok-record_at.ensures.cause.later)

pub returns-then-is_of-clause-key : goal.returns-then-is_of-clause-key
returns-then-is_of-clause-key g c = c.in_ok-record_at.ensures.key

pub returns-then-at-clause-cause : goal.returns-then-at-clause-cause
returns-then-at-clause-cause g c = ok_cause _ _ _ _ c.loop.invariant.later

pub returns-then-at-2-clause-cause : goal.returns-then-at-2-clause-cause
returns-then-at-2-clause-cause g c = told_cause _ _ _ _ c.loop.invariant.later c.damaged.ensures

pub returns-clause-onward : goal.returns-clause-onward
returns-clause-onward g c = c.loop.invariant.onward

pub returns-then-at-clause-onward : goal.returns-then-at-clause-onward
returns-then-at-clause-onward g c = c.loop.invariant.onward

pub returns-then-at-2-clause-onward : goal.returns-then-at-2-clause-onward
returns-then-at-2-clause-onward g c = c.loop.invariant.onward

pub returns-clause-same : goal.returns-clause-same
returns-clause-same g c = c.loop.invariant.same

pub returns-then-at-clause-same : goal.returns-then-at-clause-same
returns-then-at-clause-same g c = c.loop.invariant.same

pub returns-then-at-2-clause-same : goal.returns-then-at-2-clause-same
returns-then-at-2-clause-same g c = c.loop.invariant.same

pub returns-then-is_of-clause-led : goal.returns-then-is_of-clause-led
returns-then-is_of-clause-led g c tells d b h = record {
  count = c.loop.counter;
  leads = (c.loop.invariant.at tells d b h).leads c.if-at.false;
  from = c.loop.invariant.from tells d b h c.if-at.false;
}

pub returns-then-is_of-clause-before : goal.returns-then-is_of-clause-before
returns-then-is_of-clause-before g c = c.loop.invariant.key

pub returns-in_err-record_at-clause-led : goal.returns-in_err-record_at-clause-led
returns-in_err-record_at-clause-led g c _ _ _ _ = never_ok c.from_residual.result _ _ c.from_residual.ensures.1

pub returns-in_err-record_at-clause-before : goal.returns-in_err-record_at-clause-before
returns-in_err-record_at-clause-before g c = never_ok c.from_residual.result _ _ c.from_residual.ensures.1

pub returns-in_err-record_at-clause-wrong : goal.returns-in_err-record_at-clause-wrong
returns-in_err-record_at-clause-wrong g c tells file d b h =
    let s = g.R.Reads.state c.args.space.now in
    let now = g.R.Reads.state c.loop.space in
    same_has (BlamesBucket s d b) c.from_residual.result c.in_err-record_at.field-0.0 c.from_residual.ensures.1
    (entry_fault s d b c.loop.counter c.loop.at c.loop.named (c.loop.invariant.at tells d b h) c.if-at.false (c.loop.invariant.named_file file)
    c.in_err-record_at.field-0.0
    (read_fault_same s now c.loop.at format.indexed c.loop.named c.loop.invariant.same c.in_err-record_at.field-0.0 (c.in_err-record_at.ensures.damaged tells)))

pub returns-then-at-2-clause-wrong : goal.returns-then-at-2-clause-wrong
returns-then-at-2-clause-wrong g c tells file d b h =
    let s = g.R.Reads.state c.args.space.now in
    let late : high s.records format.index_file ≤ c.loop.counter = subst (λ (m : Meta). m.high ≤ c.loop.counter) c.meta-end.ensures (omega arith) in
    subst (BlamesBucket s d b) (sym c.damaged.ensures)
    (inr (refl, late_lacks s.records d b c.loop.counter c.loop.at ((c.loop.invariant.at tells d b h).leads c.if-at-2.true) late))

pub returns-then-is_of-clause-apart : goal.returns-then-is_of-clause-apart
returns-then-is_of-clause-apart g c tells same =
    let s = g.R.Reads.state c.args.space.now in
    let now = g.R.Reads.state c.loop.space in
    let rec_is : c.record_at.new.rec ≡ index_rec s.records c.loop.at = c.in_ok-record_at.ensures.got tells
    ∙ ap (λ (r : Records). index_rec r c.loop.at) (same_records s now c.loop.invariant.same) in
    let says = c.is_of.ensures.0 c.if-is_of.true in
    c.loop.invariant.passed tells (λ none. c.if-at.false (sym same ∙ none))
    (subst (SaysContent s.records c.args.content) (sym same)
    (ap (λ (r : Rec). field 4 r format.indexed_node) (sym rec_is) ∙ says.0, ap (λ (r : Rec). field 8 r format.indexed_hash) (sym rec_is) ∙ says.1))

pub returns-in_err-record_at-clause-apart : goal.returns-in_err-record_at-clause-apart
returns-in_err-record_at-clause-apart g c _ = never_ok c.from_residual.result _ _ c.from_residual.ensures.1
