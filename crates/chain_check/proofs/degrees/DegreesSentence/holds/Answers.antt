use Rattle.std.proofs.Common.{rules, arith, ◌≡◌, ◌<◌, ◌≤◌, ◌∙◌, get_or, ap, sym, refl}
use Rattle.std.proofs.lemmas.Bool.{eqb-true, true≢false}
use Rattle.std.proofs.lemmas.Grind.{get_or_default_zero}
use Rattle.rec_bytes.specs.Format.{node_degree, nodes_file}
use Rattle.rec_bytes.specs.Record.{field}
use Rattle.store_rules.specs.Views.{degree, high, kind_at}
use Rattle.store_rules.proofs.NumberLaws.{eq_true}
use Rattle.chain_check.specs.Degrees.{HasDegree, count_at}
use Rattle.record_lists.proofs.RecordLaws.{kind_read}
use Rattle.record_lists.proofs.Causes.{cause_passed}
use Rattle.record_lists.proofs.OnlyReads.{is_read-get}
use Rattle.rec_bytes.proofs.Causes.{ok_cause}
use Rattle.chain_check.proofs.degrees.DegreesSentence.holds.Goals as goal
use Rattle.chain_check.proofs.degrees.DegreesSentence.holds.Goals.{else-kind-eq-SPARSE-via-then-kind-eq-SPARSE+else-degree-self}
use Rattle.chain_check.proofs.degrees.DegreesSentence.holds.Goals.{else-kind-eq-SPARSE-via-else-kind-eq-SPARSE}

pub returns-then-kind-eq-FREE-clause-told : goal.returns-then-kind-eq-FREE-clause-told
returns-then-kind-eq-FREE-clause-told g c = λ tells.
    let records = (g.R.Reads.state c.args.space.now).records in
    let lt : c.args.id < high records nodes_file = omega (arith, c.requires.id, c.requires.suits.nodes) in
    let kind = kind_read records nodes_file c.args.id c.in_ok-rec.rec lt (c.in_ok-rec.ensures.got tells) in
    let free : kind_at records nodes_file c.args.id ≡ 0 = kind ∙ sym c.byte-kind.ensures ∙ c.if-kind-eq-FREE.true in
    ((λ _. record { exact = λ live. absurd (live free); few = λ is. absurd (let e : 0 ≡ 1 = sym free ∙ is in omega arith) }), (λ _. refl))

pub returns-then-degree-self-clause-told : goal.returns-then-degree-self-clause-told
returns-then-degree-self-clause-told g c = λ tells.
    let records = (g.R.Reads.state c.args.space.now).records in
    let lt : c.args.id < high records nodes_file = omega (arith, c.requires.id, c.requires.suits.nodes) in
    let got = c.in_ok-rec.ensures.got tells in
    let kind = kind_read records nodes_file c.args.id c.in_ok-rec.rec lt got in
    let read : c.number-degree.result ≡ degree records c.args.id = c.number-degree.ensures ∙ ap (λ r. field 4 r node_degree) got in
    let sparse : kind_at records nodes_file c.args.id ≡ 1 = kind ∙ sym c.byte-kind.ensures ∙ c.if-kind-eq-SPARSE.true in (
      (λ e. absurd (true≢false (sym e))),
      (λ (h : HasDegree c.args.self.now records c.args.id). absurd (let most = h.few sparse in omega
          (arith, c.if-degree-self.true))),
    )

pub returns-clause-told : goal.returns-clause-told
returns-clause-told g c = λ tells.
    let records = (g.R.Reads.state c.args.space.now).records in
    let lt : c.args.id < high records nodes_file = omega (arith, c.requires.id, c.requires.suits.nodes) in
    let got = c.in_ok-rec.ensures.got tells in
    let kind = kind_read records nodes_file c.args.id c.in_ok-rec.rec lt got in
    let read : c.number-degree.result ≡ degree records c.args.id = c.number-degree.ensures ∙ ap (λ r. field 4 r node_degree) got in
    let counts = c.args.self.now.counts.items in
    let at : c.index.result.now ≡ get_or counts c.args.id c.index.result.now = search rules in
    let count : c.index.result.now ≡ count_at counts c.args.id = at ∙ get_or_default_zero counts c.args.id c.index.result.now c.requires.id in
    let few : c.byte-kind.result ≡ 1 → c.number-degree.result ≤ c.args.self.now.threshold
    = elim c.else-kind-eq-SPARSE.branch [
      | else-kind-eq-SPARSE-via-then-kind-eq-SPARSE+else-degree-self w ↦ (λ _. omega (arith, w.if-degree-self.false))
      | else-kind-eq-SPARSE-via-else-kind-eq-SPARSE w ↦ (λ is. absurd (w.if-kind-eq-SPARSE.false is))
    ] in (
      (λ e. record {
        exact = λ _. sym read ∙ eqb-true c.number-degree.result c.index.result.now e ∙ count;
        few = λ is. let most = few (c.byte-kind.ensures ∙ sym kind ∙ is) in omega arith;
      }),
      (λ (h : HasDegree c.args.self.now records c.args.id). eq_true c.number-degree.result c.index.result.now (read ∙ h.exact (λ z. c.if-kind-eq-FREE.false
          (c.byte-kind.ensures ∙ sym kind ∙ z)) ∙ sym count)),
    )

pub returns-in_err-rec-clause-read : goal.returns-in_err-rec-clause-read
returns-in_err-rec-clause-read g c =
    is_read-get g.R.Reads _ _ c.in_err-rec.ensures.state c.in_err-rec.ensures.onward c.in_err-rec.ensures.cause.later

pub returns-in_err-rec-clause-cause : goal.returns-in_err-rec-clause-cause
returns-in_err-rec-clause-cause g c =
    cause_passed _ _ _ c.from_residual.result c.in_err-rec.field-0.0 (omega arith) c.in_err-rec.ensures.cause c.from_residual.ensures.1

pub returns-clause-read : goal.returns-clause-read
returns-clause-read g c = is_read-get g.R.Reads _ _ c.in_ok-rec.ensures.state c.in_ok-rec.ensures.onward c.in_ok-rec.ensures.cause.later

pub returns-clause-cause : goal.returns-clause-cause
returns-clause-cause g c = ok_cause _ _ _ _ (returns-clause-read g c).later

pub returns-then-degree-self-clause-read : goal.returns-then-degree-self-clause-read
returns-then-degree-self-clause-read g c =
    is_read-get g.R.Reads _ _ c.in_ok-rec.ensures.state c.in_ok-rec.ensures.onward c.in_ok-rec.ensures.cause.later

pub returns-then-degree-self-clause-cause : goal.returns-then-degree-self-clause-cause
returns-then-degree-self-clause-cause g c = ok_cause _ _ _ _ (returns-then-degree-self-clause-read g c).later

pub returns-then-kind-eq-FREE-clause-read : goal.returns-then-kind-eq-FREE-clause-read
returns-then-kind-eq-FREE-clause-read g c =
    is_read-get g.R.Reads _ _ c.in_ok-rec.ensures.state c.in_ok-rec.ensures.onward c.in_ok-rec.ensures.cause.later

pub returns-then-kind-eq-FREE-clause-cause : goal.returns-then-kind-eq-FREE-clause-cause
returns-then-kind-eq-FREE-clause-cause g c = ok_cause _ _ _ _ (returns-then-kind-eq-FREE-clause-read g c).later
