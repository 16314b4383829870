use Rattle.plain_graph.specs.Names.{IsShortName}
use Rattle.std.proofs.Common.{◌≡◌, true≢false, ◌<◌, false, None, Some, slice_get, Contains, ap, sym, subst, ◌∙◌, rules, arith}
use Rattle.std.proofs.lemmas.Option.{slice_get-get_or}
use Rattle.rec_bytes.specs.Format as format
use Rattle.store_rules.specs.Ranges.{layout_of}
use Rattle.store_rules.specs.Views.{rec_at, text_of}
use Rattle.name_store.specs.Loading.{IsLoadFault, name_mark, text_at}
use Rattle.name_store.specs.Loading.IsNameDamage.{SameText, WrongForm, WrongText}
use Rattle.name_store.proofs.Reading.{none_from, some_from}
use Rattle.name_store.proofs.loading.load_next.Goals as goal

pub returns-then-not-has_name_form-clause-damaged : goal.returns-then-not-has_name_form-clause-damaged
returns-then-not-has_name_form-clause-damaged g c = λ tells first.
    let records = (g.R.Reads.state c.args.space.now).records in
    let id = c.count-id.result in
    let read : c.in-Ok.rec ≡ rec_at records format.names_file id = c.in-Ok.ensures.got tells in
    let lt : id < name_mark records = omega (arith, c.requires.below, c.count-id.ensures.value) in
    let no : c.has_name_form.result ≡ false = search rules in
    let none : layout_of format.names_file (rec_at records format.names_file id) ≡ None = ap (layout_of format.names_file) (sym read)
    ∙ none_from (layout_of format.names_file c.in-Ok.rec) c.has_name_form.result c.has_name_form.ensures no in
    subst (IsLoadFault records) (sym c.damaged.ensures) (WrongForm id lt none)

pub returns-then-not-is_short_name-clause-damaged : goal.returns-then-not-is_short_name-clause-damaged
returns-then-not-is_short_name-clause-damaged g c = λ tells first.
    let records = (g.R.Reads.state c.args.space.now).records in
    let id = c.count-id.result in
    let read : c.text_of-text.result.now ≡ text_at records id = c.text_of-text.ensures ∙ ap text_of (c.in-Ok.ensures.got tells) in
    let lt : id < name_mark records = omega (arith, c.requires.below, c.count-id.ensures.value) in
    let wrong : IsShortName (text_at records id) → ⊥ = λ short. true≢false
    (sym (c.is_short_name.ensures.1 (subst IsShortName (sym read) short)) ∙ c.if-not-is_short_name.true) in
    let has = λ (none : layout_of format.names_file (rec_at records format.names_file id) ≡ None).
    some_from (layout_of format.names_file c.in-Ok.rec) c.has_name_form.result c.has_name_form.ensures (search rules)
    (ap (layout_of format.names_file) (c.in-Ok.ensures.got tells) ∙ none) in
    subst (IsLoadFault records) (sym c.damaged-then-not-is_short_name.ensures) (WrongText id lt has wrong)

-- an earlier record has the name
pub returns-in-Ok-false-clause-damaged : goal.returns-in-Ok-false-clause-damaged
returns-in-Ok-false-clause-damaged g c = λ tells first.
    let records = (g.R.Reads.state c.args.space.now).records in
    let names = c.args.names.now.names in
    let id = c.count-id.result in
    let read : c.in-Ok-from_slice.name.items ≡ text_at records id = (c.in-Ok-from_slice.ensures).items ∙ c.text_of-text.ensures
    ∙ ap text_of (c.in-Ok.ensures.got tells) in
    let lt : id < name_mark records = omega (arith, c.requires.below, c.count-id.ensures.value) in
    let known : Contains names c.in-Ok-from_slice.name.items = (c.in-Ok-false.ensures.known c.in-Ok-false.field-0-test).0 in
    let earlier : known.0 < id = omega (arith, known.1, c.count-id.ensures.value) in
    let there : slice_get names known.0 ≡ Some c.in-Ok-from_slice.name.items = slice_get-get_or names known.0 c.in-Ok-from_slice.name.items known.1
    ∙ ap Some known.2 in
    let same : text_at records known.0 ≡ c.in-Ok-from_slice.name.items = let e = sym (first known.0 known.1) ∙ there in cc in
    let has = λ (none : layout_of format.names_file (rec_at records format.names_file id) ≡ None).
    some_from (layout_of format.names_file c.in-Ok.rec) c.has_name_form.result c.has_name_form.ensures (search rules)
    (ap (layout_of format.names_file) (c.in-Ok.ensures.got tells) ∙ none) in
    subst (IsLoadFault records) (sym c.damaged-in-Ok-false.ensures) (SameText id known.0 lt has earlier (same ∙ read))
