use Rattle.std.proofs.Common.{[], ap, arith, get_or, map, rules, sym, take, ◌++◌, ◌∙◌, ◌∷◌, ◌≡◌}
use Rattle.std.proofs.lemmas.List.{map_more, take_all}
use Rattle.rec_bytes.specs.Record.{field}
use Rattle.store_rules.specs.Views.{Records, rec_at}
use Rattle.record_lists.specs.Numbers.{number_at}
use Rattle.record_lists.proofs.Causes.{cause_passed}
use Rattle.rec_bytes.proofs.Causes.{never_ok, ok_cause}
use Rattle.record_lists.proofs.OnlyReads.{is_read-none, is_read-on, is_read-get}
use Rattle.record_lists.proofs.numbers.numbers_of.Goals as goal

pub loop-id-init : goal.loop-id-init
loop-id-init g c = record {
  numbers = λ tells. search rules;
  read = is_read-none g.R.Reads g.met.R.Reads.stays_onward c.args.space.now;
}

pub loop-id-preserved : goal.loop-id-preserved
loop-id-preserved g c =
    let records = (g.R.Reads.state c.args.space.now).records in
    let inv = c.loop-id.invariant in
    let ids = c.args.ids.now in
    let at = c.loop-id.id-index in
    let id = get_or ids at 0 in
    record {
      numbers = λ tells.
          let got : c.in_ok-rec.rec ≡ rec_at records c.args.file id = c.in_ok-rec.ensures.got tells ∙ ap (λ (r : Records). rec_at r
          c.args.file id) inv.read.records in
          let one : c.number.result ≡ number_at records c.args.file c.args.place id = c.number.ensures ∙ ap (λ r. field 4 r c.args.place) got in
          c.in-Ok.ensures.items
          ∙ ap (λ xs. xs ++ c.number.result ∷ []) (inv.numbers tells)
          ∙ ap (λ x. map (number_at records c.args.file c.args.place) (take at ids) ++ x ∷ []) one
          ∙ sym (map_more (number_at records c.args.file c.args.place) ids at 0 c.loop-id-test.true);
      read = is_read-on g.R.Reads g.met.R.Reads.further_onward c.args.space.now c.loop-id.space c.get.new.self inv.read (is_read-get g.R.Reads _ _
          c.in_ok-rec.ensures.state c.in_ok-rec.ensures.onward c.in_ok-rec.ensures.cause.later);
    }

pub returns-in_err-rec-clause-read : goal.returns-in_err-rec-clause-read
returns-in_err-rec-clause-read g c =
    is_read-on g.R.Reads g.met.R.Reads.further_onward _ _ _ c.loop-id.invariant.read (is_read-get g.R.Reads _ _ c.in_err-rec.ensures.state
    c.in_err-rec.ensures.onward c.in_err-rec.ensures.cause.later)

pub returns-in_default-clause-read : goal.returns-in_default-clause-read
returns-in_default-clause-read g c =
    is_read-on g.R.Reads g.met.R.Reads.further_onward _ _ _ c.loop-id.invariant.read (is_read-get g.R.Reads _ _ c.in_ok-rec.ensures.state
    c.in_ok-rec.ensures.onward c.in_ok-rec.ensures.cause.later)

pub returns-clause-numbers : goal.returns-clause-numbers
returns-clause-numbers g c = λ tells.
    let ids = c.args.ids.now in
    let all : take c.loop-id.id-index ids ≡ ids = take_all c.loop-id.id-index ids (omega arith) in
    c.loop-id.invariant.numbers tells ∙ ap (map (number_at (g.R.Reads.state c.args.space.now).records c.args.file c.args.place)) all

pub returns-in_err-rec-clause-cause : goal.returns-in_err-rec-clause-cause
returns-in_err-rec-clause-cause g c =
    cause_passed _ _ _ c.from_residual.result c.in_err-rec.field-0.0 c.loop-id.invariant.read.later c.in_err-rec.ensures.cause c.from_residual.ensures.1

pub returns-in_default-clause-cause : goal.returns-in_default-clause-cause
returns-in_default-clause-cause g c = record {
  later = let later = c.in_ok-rec.ensures.cause.later in omega (arith, c.loop-id.invariant.read.later, later);
  disk = λ blamed. absurd cc;
}

pub returns-in_err-rec-clause-numbers : goal.returns-in_err-rec-clause-numbers
returns-in_err-rec-clause-numbers g c _ = never_ok c.from_residual.result _ _ c.from_residual.ensures.1

pub returns-clause-cause : goal.returns-clause-cause
returns-clause-cause g c = ok_cause _ _ _ _ c.loop-id.invariant.read.later

pub returns-clause-read : goal.returns-clause-read
returns-clause-read g c =
    c.loop-id.invariant.read
