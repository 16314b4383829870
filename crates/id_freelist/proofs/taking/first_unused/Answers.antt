use Rattle.std.proofs.Common.{ℕ, ◌≡◌, ◌≢◌, ◌≤◌, ◌<◌, ap, sym, subst, ◌∙◌, ⊎_elim, arith, refl}
use Rattle.std.proofs.lemmas.Bool.{cases_lt}
use Rattle.rec_bytes.specs.declared.record.Rec.{Rec}
use Rattle.rec_bytes.specs.Format.{free_kind, kind}
use Rattle.rec_bytes.specs.Record.{field}
use Rattle.rec_bytes.specs.Space.{SameButReads, State, after_get}
use Rattle.store_rules.specs.Views.{Records, high, key_in, kind_at, rec_at}
use Rattle.store_rules.proofs.ViewLaws.{kind_low}
use Rattle.rec_bytes.proofs.Causes.{never_ok}
use Rattle.id_freelist.proofs.taking.first_unused.Goals as goal

-- what the record below the mark says is its kind
kind_read : (s : State) (t : State) (file mark id : ℕ) (rec : Rec) → t.records ≡ s.records → mark ≡ high s.records file → id < mark
    → rec ≡ t.records (key_in file id) → kind_at s.records file id ≡ field 1 rec kind
kind_read s t file mark id rec same is lt read =
    let low : id < high s.records file = omega (arith, lt, is) in
    kind_low (high s.records file) (rec_at s.records file id) id low ∙ ap (λ r. field 1 r kind) (sym (read ∙ ap (λ (rs : Records). rs (key_in file id)) same))

same_more : (s t u : State) → SameButReads s t → u ≡ after_get t → SameButReads s u
same_more s t u same more = subst (λ (z : State). z ≡ record t { reads = z.reads }) (sym more) refl ∙ ap (λ (z : State). record z { reads = u.reads }) same

pub returns-then-byte-eq-FREE-clause-found : goal.returns-then-byte-eq-FREE-clause-found
returns-then-byte-eq-FREE-clause-found g c t =
    let s = g.R.Reads.state c.args.space.now in
    record {
      low = omega (arith, c.loop-id-test.true, c.requires.mark);
      free = kind_read s (g.R.Reads.state c.loop-id.space) c.args.file c.args.mark c.loop-id.id c.in_ok-rec.rec
          (ap (λ (z : State). z.records) c.loop-id.invariant.same) c.requires.mark c.loop-id-test.true (c.in_ok-rec.ensures.got t)
          ∙ sym c.byte.ensures ∙ c.if-byte-eq-FREE.true;
    }

pub loop-id-preserved : goal.loop-id-preserved
loop-id-preserved g c =
    let s = g.R.Reads.state c.args.space.now in
    let inv = c.loop-id.invariant in
    let id = c.loop-id.id in
    record {
      same = same_more s (g.R.Reads.state c.loop-id.space) (g.R.Reads.state c.get.new.self) inv.same c.in_ok-rec.ensures.state;
      used = λ t x lt. ⊎_elim (λ (l : x < id). inv.used t x l) (λ (ge : id ≤ x). let same : id ≡ x = omega arith in
          subst (λ z. kind_at s.records c.args.file z ≢ free_kind) same (λ e. c.if-byte-eq-FREE.false (c.byte.ensures
          ∙ sym (kind_read s (g.R.Reads.state c.loop-id.space) c.args.file c.args.mark id c.in_ok-rec.rec (ap (λ (z : State). z.records) inv.same)
          c.requires.mark c.loop-id-test.true (c.in_ok-rec.ensures.got t)) ∙ e))) (cases_lt x id);
      onward = g.met.R.Reads.further_onward c.args.space.now c.loop-id.space c.get.new.self inv.onward c.in_ok-rec.ensures.onward;
      faults = let cause = c.in_ok-rec.ensures.cause in omega (arith, inv.faults, cause.later);
    }

pub returns-in_err-rec-clause-found : goal.returns-in_err-rec-clause-found
returns-in_err-rec-clause-found g c _ = never_ok c.from_residual.result _ _ c.from_residual.ensures.1

pub returns-in_err-rec-clause-none : goal.returns-in_err-rec-clause-none
returns-in_err-rec-clause-none g c _ = never_ok c.from_residual.result _ _ c.from_residual.ensures.1
