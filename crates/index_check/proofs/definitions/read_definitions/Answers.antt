use Rattle.std.proofs.Common.{[], ap, arith, get_or, map, rules, sym, take, ◌++◌, ◌∙◌, ◌∷◌, ◌≡◌}
use Rattle.std.proofs.lemmas.List.{map-append, map_more, take_all, take_more}
use Rattle.store_rules.specs.Views.{Records}
use Rattle.record_lists.proofs.Causes.{cause_passed}
use Rattle.index_check.specs.Definitions.{definition_at}
use Rattle.index_check.specs.declared.definitions.Definition.{Definition}
use Rattle.rec_bytes.proofs.Causes.{never_ok, ok_cause}
use Rattle.record_lists.proofs.OnlyReads.{is_read-none, is_read-on}
use Rattle.index_check.proofs.definitions.read_definitions.Goals as goal

pub loop-id-init : goal.loop-id-init
loop-id-init g c = record {
  are = λ tells. search rules;
  ids = search rules;
  read = is_read-none g.R.Reads g.met.R.Reads.stays_onward c.args.space.now;
}

pub loop-id-preserved : goal.loop-id-preserved
loop-id-preserved g c =
    let records = (g.R.Reads.state c.args.space.now).records in
    let inv = c.loop-id.invariant in
    let ids = c.args.ids.now in
    let at = c.loop-id.id-index in
    let id = get_or ids at 0 in
    let one = c.in_ok-definition.definition in
    record {
      are = λ tells.
          c.in-Ok.ensures.items
          ∙ ap (λ xs. xs ++ one ∷ []) (inv.are tells)
          ∙ ap (λ x. map (definition_at records) (take at ids) ++ x ∷ [])
          (c.in_ok-definition.ensures.is tells ∙ ap (λ (r : Records). definition_at r id) inv.read.records)
          ∙ sym (map_more (definition_at records) ids at 0 c.loop-id-test.true);
      ids = ap (map (λ (d : Definition). d.id)) c.in-Ok.ensures.items
          ∙ map-append (λ (d : Definition). d.id) c.loop-id.definitions.items (one ∷ [])
          ∙ ap (λ xs. xs ++ one.id ∷ []) inv.ids
          ∙ ap (λ x. take at ids ++ x ∷ []) c.in_ok-definition.ensures.id
          ∙ sym (take_more ids at 0 c.loop-id-test.true);
      read = is_read-on g.R.Reads g.met.R.Reads.further_onward c.args.space.now c.loop-id.space c.read_definition.new.space inv.read
          c.in_ok-definition.ensures.read;
    }

pub returns-in_err-definition-clause-read : goal.returns-in_err-definition-clause-read
returns-in_err-definition-clause-read g c =
    is_read-on g.R.Reads g.met.R.Reads.further_onward c.args.space.now c.loop-id.space c.read_definition.new.space c.loop-id.invariant.read
    c.in_err-definition.ensures.read

pub returns-in_err-definition-clause-cause : goal.returns-in_err-definition-clause-cause
returns-in_err-definition-clause-cause g c =
    cause_passed _ _ _ c.from_residual.result c.in_err-definition.field-0.0 c.loop-id.invariant.read.later c.in_err-definition.ensures.cause
    c.from_residual.ensures.1

pub returns-in_default-clause-read : goal.returns-in_default-clause-read
returns-in_default-clause-read g c =
    is_read-on g.R.Reads g.met.R.Reads.further_onward _ _ _ c.loop-id.invariant.read c.in_ok-definition.ensures.read

pub returns-clause-are : goal.returns-clause-are
returns-clause-are g c = λ tells.
    let ids = c.args.ids.now in
    let all : take c.loop-id.id-index ids ≡ ids = take_all c.loop-id.id-index ids (omega arith) in
    c.loop-id.invariant.are tells ∙ ap (map (definition_at (g.R.Reads.state c.args.space.now).records)) all

pub returns-clause-ids : goal.returns-clause-ids
returns-clause-ids g c = c.loop-id.invariant.ids ∙ take_all c.loop-id.id-index c.args.ids.now (omega arith)

pub returns-in_default-clause-cause : goal.returns-in_default-clause-cause
returns-in_default-clause-cause g c = record {
  later = let later = c.in_ok-definition.ensures.cause.later in omega (arith, c.loop-id.invariant.read.later, later);
  disk = λ blamed. absurd cc;
}

pub returns-in_err-definition-clause-are : goal.returns-in_err-definition-clause-are
returns-in_err-definition-clause-are g c _ = never_ok c.from_residual.result _ _ c.from_residual.ensures.1

pub returns-in_err-definition-clause-ids : goal.returns-in_err-definition-clause-ids
returns-in_err-definition-clause-ids g c = never_ok c.from_residual.result _ _ c.from_residual.ensures.1

pub returns-clause-cause : goal.returns-clause-cause
returns-clause-cause g c = ok_cause _ _ _ _ c.loop-id.invariant.read.later

pub returns-clause-read : goal.returns-clause-read
returns-clause-read g c =
    c.loop-id.invariant.read
