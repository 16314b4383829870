use Rattle.std.proofs.Common.{rules, arith, ◌≡◌, ◌<◌, ◌∙◌, ℕ, List, true, ap, sym, subst}
use Rattle.rec_bytes.specs.Format.{properties_file}
use Rattle.rec_bytes.specs.Record.{field}
use Rattle.store_rules.specs.Views.{Records, high, is_live}
use Rattle.store_rules.specs.Breaking.{IsPropertyList}
use Rattle.store_rules.specs.PropertyChange.{property_from}
use Rattle.store_check.proofs.PropertyLaws.{properties_one}
use Rattle.record_lists.proofs.RecordLaws.{free_read, live_read}
use Rattle.record_lists.proofs.Causes.{cause_passed}
use Rattle.record_lists.proofs.OnlyReads.{is_read-get, is_read-on}
use Rattle.rec_bytes.proofs.Causes.{ok_cause}
use Rattle.store_check.proofs.elements.ElementHeadsHeads.list.Goals as goal

pub property_list-requires-clause-mark : goal.property_list-requires-clause-mark
property_list-requires-clause-mark g c =
    c.requires.suits.properties ∙ ap (λ (r : Records). high r properties_file) (sym (ap (λ s. s.records) c.in_ok-rec.ensures.state))

pub returns-then-byte-eq-FREE-clause-told : goal.returns-then-byte-eq-FREE-clause-told
returns-then-byte-eq-FREE-clause-told g c = λ tells live.
    let records = (g.R.Reads.state c.args.space.now).records in
    let file = c.args.self.now.file in
    let lt : c.args.id < high records file = omega (arith, c.requires.id, c.requires.suits.elements) in
    free_read records file c.args.id c.in_ok-rec.rec lt (c.in_ok-rec.ensures.got tells) (sym c.byte.ensures ∙ c.if-byte-eq-FREE.true) live

pub returns-in-Some-clause-told : goal.returns-in-Some-clause-told
returns-in-Some-clause-told g c = λ tells.
    let records = (g.R.Reads.state c.args.space.now).records in
    let file = c.args.self.now.file in
    let ids = c.in-Some.ids.items in
    let lt : c.args.id < high records file = omega (arith, c.requires.id, c.requires.suits.elements) in
    let got = c.in_ok-rec.ensures.got tells in
    let live : is_live records file c.args.id ≡ true = live_read records file c.args.id c.in_ok-rec.rec lt got
    (λ z. c.if-byte-eq-FREE.false (c.byte.ensures ∙ z)) in
    let first : c.number-first.result ≡ property_from records file c.args.id = c.number-first.ensures ∙ ap (λ r. field 4 r c.property_place.result) got
    ∙ ap (field 4 (records (record { file = file; id = c.args.id }))) c.property_place.ensures.is in
    let read = ap (λ s. s.records) c.in_ok-rec.ensures.state in
    let found : IsPropertyList (g.R.Reads.state c.get.new.self).records c.number-first.result ids = search (rules, c.in_ok-ids.ensures.found tells) in
    let list : IsPropertyList records (property_from records file c.args.id) ids =
    subst (λ f. IsPropertyList records f ids) first (subst (λ (r : Records). IsPropertyList r c.number-first.result ids) read found) in
    (live, list, (λ xs h. properties_one records (property_from records file c.args.id) xs ids h list))

pub returns-in-None-clause-told : goal.returns-in-None-clause-told
returns-in-None-clause-told g c = λ tells.
    let records = (g.R.Reads.state c.args.space.now).records in
    let file = c.args.self.now.file in
    let lt : c.args.id < high records file = omega (arith, c.requires.id, c.requires.suits.elements) in
    let got = c.in_ok-rec.ensures.got tells in
    let live : is_live records file c.args.id ≡ true = live_read records file c.args.id c.in_ok-rec.rec lt got
    (λ z. c.if-byte-eq-FREE.false (c.byte.ensures ∙ z)) in
    let first : c.number-first.result ≡ property_from records file c.args.id = c.number-first.ensures ∙ ap (λ r. field 4 r c.property_place.result) got
    ∙ ap (field 4 (records (record { file = file; id = c.args.id }))) c.property_place.ensures.is in
    let read = ap (λ s. s.records) c.in_ok-rec.ensures.state in
    let none : (xs : List ℕ) → ¬ IsPropertyList (g.R.Reads.state c.get.new.self).records c.number-first.result xs =
    search (rules, c.in_ok-ids.ensures.none tells) in (
      live,
      subst (λ f. (xs : List ℕ) → ¬ IsPropertyList records f xs) first (subst (λ (r : Records). (xs : List ℕ) → ¬ IsPropertyList r c.number-first.result
          xs) read none),
    )

pub returns-in_err-rec-clause-cause : goal.returns-in_err-rec-clause-cause
returns-in_err-rec-clause-cause g c =
    cause_passed _ _ _ c.from_residual.result c.in_err-rec.field-0.0 (omega arith) c.in_err-rec.ensures.cause c.from_residual.ensures.1

pub returns-in_err-ids-clause-cause : goal.returns-in_err-ids-clause-cause
returns-in_err-ids-clause-cause g c =
    cause_passed _ _ _ c.from_residual-in_err-ids.result c.in_err-ids.field-0.0 c.in_ok-rec.ensures.cause.later c.in_err-ids.ensures.cause
    c.from_residual-in_err-ids.ensures.1

pub returns-in_err-rec-clause-read : goal.returns-in_err-rec-clause-read
returns-in_err-rec-clause-read g c =
    is_read-get g.R.Reads _ _ c.in_err-rec.ensures.state c.in_err-rec.ensures.onward c.in_err-rec.ensures.cause.later

pub returns-in_err-ids-clause-read : goal.returns-in_err-ids-clause-read
returns-in_err-ids-clause-read g c =
    is_read-on g.R.Reads g.met.R.Reads.further_onward _ _ _ (is_read-get g.R.Reads _ _ c.in_ok-rec.ensures.state c.in_ok-rec.ensures.onward
    c.in_ok-rec.ensures.cause.later) c.in_err-ids.ensures.read

pub returns-then-byte-eq-FREE-clause-read : goal.returns-then-byte-eq-FREE-clause-read
returns-then-byte-eq-FREE-clause-read g c =
    is_read-get g.R.Reads _ _ c.in_ok-rec.ensures.state c.in_ok-rec.ensures.onward c.in_ok-rec.ensures.cause.later

pub returns-then-byte-eq-FREE-clause-cause : goal.returns-then-byte-eq-FREE-clause-cause
returns-then-byte-eq-FREE-clause-cause g c = ok_cause _ _ _ _ (returns-then-byte-eq-FREE-clause-read g c).later

pub returns-in-None-clause-read : goal.returns-in-None-clause-read
returns-in-None-clause-read g c =
    is_read-on g.R.Reads g.met.R.Reads.further_onward _ _ _ (is_read-get g.R.Reads _ _ c.in_ok-rec.ensures.state c.in_ok-rec.ensures.onward
    c.in_ok-rec.ensures.cause.later) c.property_list.ensures.read

pub returns-in-None-clause-cause : goal.returns-in-None-clause-cause
returns-in-None-clause-cause g c = ok_cause _ _ _ _ (returns-in-None-clause-read g c).later

pub returns-in-Some-clause-read : goal.returns-in-Some-clause-read
returns-in-Some-clause-read g c =
    is_read-on g.R.Reads g.met.R.Reads.further_onward _ _ _ (is_read-get g.R.Reads _ _ c.in_ok-rec.ensures.state c.in_ok-rec.ensures.onward
    c.in_ok-rec.ensures.cause.later) c.property_list.ensures.read

pub returns-in-Some-clause-cause : goal.returns-in-Some-clause-cause
returns-in-Some-clause-cause g c = ok_cause _ _ _ _ (returns-in-Some-clause-read g c).later
