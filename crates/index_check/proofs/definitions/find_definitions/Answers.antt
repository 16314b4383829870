use Rattle.std.proofs.Common.{rules, arith, ◌≡◌, ◌≤◌, ◌∙◌, ℕ, List, length, ap, sym, subst}
use Rattle.rec_bytes.specs.Format as format
use Rattle.rec_bytes.specs.Record.{field}
use Rattle.record_lists.specs.Lines.{IsLineIn}
use Rattle.store_rules.specs.Indexes.{first_definition}
use Rattle.store_rules.specs.Views.{high}
use Rattle.index_check.specs.Definitions.{definition_line}
use Rattle.index_check.proofs.DefinitionLaws.{definitions_of, line_is, line_of_definitions, same_line}
use Rattle.rec_bytes.proofs.Causes.{never_ok, ok_cause}
use Rattle.record_lists.proofs.Causes.{cause_passed}
use Rattle.record_lists.proofs.OnlyReads.{is_read-on, is_read-get}
use Rattle.prop_store.proofs.Causes.{later_on}
use Rattle.index_check.proofs.definitions.find_definitions.Goals as goal

pub returns-in_default-clause-none : goal.returns-in_default-clause-none
returns-in_default-clause-none g c = λ tells xs h.
    let records = (g.R.Reads.state c.args.space.now).records in
    let first : c.number-first.result ≡ first_definition records = c.number-first.ensures
    ∙ ap (λ r. field 4 r format.meta_definition) (c.in_ok-meta.ensures.got tells ∙ ap records c.meta_key.ensures) in
    let read = ap (λ s. s.records) c.in_ok-meta.ensures.state in
    let none : (ys : List ℕ) → ¬ IsLineIn definition_line (g.R.Reads.state c.get.new.self).records c.args.records c.number-first.result ys =
    search (rules, c.in_ok-ids.ensures.none tells) in
    none xs (subst (λ (l : List ℕ → Type 0). l xs) (sym (same_line records _ _ _ read c.requires.records first)) (line_of_definitions records xs h))

pub returns-then-len-gt-MOST_INDEXES-clause-none : goal.returns-then-len-gt-MOST_INDEXES-clause-none
returns-then-len-gt-MOST_INDEXES-clause-none g c = λ tells xs h.
    let records = (g.R.Reads.state c.args.space.now).records in
    let first : c.number-first.result ≡ first_definition records = c.number-first.ensures
    ∙ ap (λ r. field 4 r format.meta_definition) (c.in_ok-meta.ensures.got tells ∙ ap records c.meta_key.ensures) in
    let read = ap (λ s. s.records) c.in_ok-meta.ensures.state in
    let ids = c.in-Some.ids.items in
    let found : IsLineIn definition_line (g.R.Reads.state c.get.new.self).records c.args.records c.number-first.result ids =
    search (rules, c.in_ok-ids.ensures.found tells) in
    let len : c.len.result ≡ length ids = search rules in
    let room : high records format.index_file ≤ format.most_ids = omega (arith, c.requires.records, c.requires.low) in
    let same = line_is records room ids xs (subst (λ (l : List ℕ → Type 0). l ids) (same_line records _ _ _ read c.requires.records first) found) h in
    let as_long : length xs ≡ length ids = ap length same in
    let few = h.few in
    omega (arith, c.if-len-gt-MOST_INDEXES.true)

pub returns-clause-found : goal.returns-clause-found
returns-clause-found g c = λ tells.
    let records = (g.R.Reads.state c.args.space.now).records in
    let first : c.number-first.result ≡ first_definition records = c.number-first.ensures
    ∙ ap (λ r. field 4 r format.meta_definition) (c.in_ok-meta.ensures.got tells ∙ ap records c.meta_key.ensures) in
    let read = ap (λ s. s.records) c.in_ok-meta.ensures.state in
    let ids = c.in-Some.ids.items in
    let found : IsLineIn definition_line (g.R.Reads.state c.get.new.self).records c.args.records c.number-first.result ids =
    search (rules, c.in_ok-ids.ensures.found tells) in
    let len : c.len.result ≡ length ids = search rules in
    let few : length ids ≤ 16 = omega (arith, c.if-len-gt-MOST_INDEXES.false) in
    let room : high records format.index_file ≤ format.most_ids = omega (arith, c.requires.records, c.requires.low) in
    definitions_of records room ids (subst (λ (l : List ℕ → Type 0). l ids) (same_line records _ _ _ read c.requires.records first) found) few

pub returns-in_err-ids-clause-read : goal.returns-in_err-ids-clause-read
returns-in_err-ids-clause-read g c =
    is_read-on g.R.Reads g.met.R.Reads.further_onward _ _ _ (is_read-get g.R.Reads _ _ c.in_ok-meta.ensures.state c.in_ok-meta.ensures.onward
    c.in_ok-meta.ensures.cause.later) c.in_err-ids.ensures.read

pub returns-in_default-clause-read : goal.returns-in_default-clause-read
returns-in_default-clause-read g c =
    is_read-on g.R.Reads g.met.R.Reads.further_onward _ _ _ (is_read-get g.R.Reads _ _ c.in_ok-meta.ensures.state c.in_ok-meta.ensures.onward
    c.in_ok-meta.ensures.cause.later) c.in_ok-ids.ensures.read

pub returns-then-len-gt-MOST_INDEXES-clause-read : goal.returns-then-len-gt-MOST_INDEXES-clause-read
returns-then-len-gt-MOST_INDEXES-clause-read g c =
    is_read-on g.R.Reads g.met.R.Reads.further_onward _ _ _ (is_read-get g.R.Reads _ _ c.in_ok-meta.ensures.state c.in_ok-meta.ensures.onward
    c.in_ok-meta.ensures.cause.later) c.in_ok-ids.ensures.read

pub returns-clause-read : goal.returns-clause-read
returns-clause-read g c =
    is_read-on g.R.Reads g.met.R.Reads.further_onward _ _ _ (is_read-get g.R.Reads _ _ c.in_ok-meta.ensures.state c.in_ok-meta.ensures.onward
    c.in_ok-meta.ensures.cause.later) c.in_ok-ids.ensures.read

pub returns-in_err-meta-clause-found : goal.returns-in_err-meta-clause-found
returns-in_err-meta-clause-found g c _ = never_ok c.from_residual.result _ _ c.from_residual.ensures.1

pub returns-in_err-meta-clause-none : goal.returns-in_err-meta-clause-none
returns-in_err-meta-clause-none g c _ = never_ok c.from_residual.result _ _ c.from_residual.ensures.1

pub returns-in_err-meta-clause-low : goal.returns-in_err-meta-clause-low
returns-in_err-meta-clause-low g c = never_ok c.from_residual.result _ _ c.from_residual.ensures.1

pub returns-in_err-meta-clause-few : goal.returns-in_err-meta-clause-few
returns-in_err-meta-clause-few g c = never_ok c.from_residual.result _ _ c.from_residual.ensures.1

pub returns-in_err-meta-clause-read : goal.returns-in_err-meta-clause-read
returns-in_err-meta-clause-read g c =
    is_read-get g.R.Reads _ _ c.in_err-meta.ensures.state c.in_err-meta.ensures.onward c.in_err-meta.ensures.cause.later

pub returns-in_err-ids-clause-found : goal.returns-in_err-ids-clause-found
returns-in_err-ids-clause-found g c _ = never_ok c.from_residual-in_err-ids.result _ _ c.from_residual-in_err-ids.ensures.1

pub returns-in_err-ids-clause-none : goal.returns-in_err-ids-clause-none
returns-in_err-ids-clause-none g c _ = never_ok c.from_residual-in_err-ids.result _ _ c.from_residual-in_err-ids.ensures.1

pub returns-in_err-ids-clause-low : goal.returns-in_err-ids-clause-low
returns-in_err-ids-clause-low g c = never_ok c.from_residual-in_err-ids.result _ _ c.from_residual-in_err-ids.ensures.1

pub returns-in_err-ids-clause-few : goal.returns-in_err-ids-clause-few
returns-in_err-ids-clause-few g c = never_ok c.from_residual-in_err-ids.result _ _ c.from_residual-in_err-ids.ensures.1

pub returns-clause-cause : goal.returns-clause-cause
returns-clause-cause g c = ok_cause _ _ _ _ (omega arith)

pub returns-in_err-meta-clause-cause : goal.returns-in_err-meta-clause-cause
returns-in_err-meta-clause-cause g c =
    cause_passed _ _ _ c.from_residual.result c.in_err-meta.field-0.0 (omega arith) c.in_err-meta.ensures.cause c.from_residual.ensures.1

pub returns-in_err-ids-clause-cause : goal.returns-in_err-ids-clause-cause
returns-in_err-ids-clause-cause g c =
    cause_passed _ _ _ c.from_residual-in_err-ids.result c.in_err-ids.field-0.0 c.in_ok-meta.ensures.cause.later
    c.in_err-ids.ensures.cause c.from_residual-in_err-ids.ensures.1

pub returns-in_default-clause-cause : goal.returns-in_default-clause-cause
returns-in_default-clause-cause g c = ok_cause _ _ _ _ (later_on c.in_ok-meta.ensures.cause.later c.in_ok-ids.ensures.cause.later)

pub returns-then-len-gt-MOST_INDEXES-clause-cause : goal.returns-then-len-gt-MOST_INDEXES-clause-cause
returns-then-len-gt-MOST_INDEXES-clause-cause g c = ok_cause _ _ _ _ (later_on c.in_ok-meta.ensures.cause.later c.in_ok-ids.ensures.cause.later)
