use Rattle.std.proofs.Common.{Some, false, refl}
use Rattle.std.proofs.lemmas.Result.{err_from_is_err_and}
use Rattle.gremlin_parse.specs.Drafts.{drafted}
use Rattle.gremlin_parse.specs.Queries.{OfMaps}
use Rattle.gremlin_parse.proofs.Drafts.{maps_read}
use Rattle.gremlin_parse.proofs.Exits.{never_ok}
use Rattle.gremlin_parse.proofs.draft.Draft.read_maps.Goals as goal

pub returns-in_err-keys-clause-err : goal.returns-in_err-keys-clause-err
returns-in_err-keys-clause-err c =
    let p = err_from_is_err_and c.from_residual.result c.from_residual.ensures.1 in
    rw (p.1, p.2) (λ source is. c.in_err-keys.ensures.err (OfMaps (drafted source c.args.self.now)) refl)

pub returns-clause-ok : goal.returns-clause-ok
returns-clause-ok c = λ source is.
    maps_read source c.args.self.now (record c.args.self.now { maps = Some c.in_ok-keys.keys; is_ordered = false }) c.in_ok-keys.keys c.args.bytes.now
    c.in_ok-keys.rest.now is
    (record { steps_are = refl; maps_are = refl; items_are = refl; counted = refl; plain = refl })
    c.requires c.in_ok-keys.ensures.ok

pub returns-in_err-keys-clause-ok : goal.returns-in_err-keys-clause-ok
returns-in_err-keys-clause-ok c = never_ok c.from_residual.result _ _ c.from_residual.ensures.1

pub returns-in_err-keys-clause-within : goal.returns-in_err-keys-clause-within
returns-in_err-keys-clause-within c = never_ok c.from_residual.result _ _ c.from_residual.ensures.1
