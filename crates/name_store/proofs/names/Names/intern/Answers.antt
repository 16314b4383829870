use Rattle.std.proofs.Common.{◌≡◌, ◌<◌, ◌∷◌, [], ◌++◌, slice_get, length, inl, ap, sym, subst, ◌∙◌, refl, arith, inr}
use Rattle.rec_bytes.specs.Format as format
use Rattle.rec_bytes.specs.Space.{State}
use Rattle.store_rules.specs.Graph.{names_of}
use Rattle.store_rules.specs.Rules.{AreAllLive}
use Rattle.name_store.specs.Interning.{named}
use Rattle.name_store.proofs.FirstNames.{contains_at, slice_get-push_last}
use Rattle.name_store.proofs.NamedStore.{interned-known, interned-new, live-named, names_of-named}
use Rattle.rec_bytes.proofs.Causes.{never_ok}
use Rattle.name_store.proofs.names.Names.intern.Goals as goal

pub returns-in-Some-clause-ok : goal.returns-in-Some-clause-ok
returns-in-Some-clause-ok g c = λ tells.
    sym (interned-known (g.S.Reads.state c.args.space.now) c.args.self.now.names c.args.text.now (contains_at c.args.self.now.names c.in-Some.id c.args.text.now
    c.in-Some.ensures.some))

pub returns-in-Some-clause-names : goal.returns-in-Some-clause-names
returns-in-Some-clause-names g c = inl (contains_at c.args.self.now.names c.in-Some.id c.args.text.now c.in-Some.ensures.some, refl)

pub returns-in-Some-clause-full : goal.returns-in-Some-clause-full
returns-in-Some-clause-full g c = λ all lacks. absurd (lacks (contains_at c.args.self.now.names c.in-Some.id c.args.text.now c.in-Some.ensures.some))

pub returns-clause-ok : goal.returns-clause-ok
returns-clause-ok g c = λ tells.
    let s = g.S.Reads.state c.args.space.now in
    c.in_ok-write_name.ensures.ok tells ∙ ap (λ id. named s id c.args.text.now) c.count-id.ensures.value
    ∙ sym (interned-new s c.args.self.now.names c.args.text.now c.in_default.ensures.none)

pub returns-clause-number : goal.returns-clause-number
returns-clause-number g c =
    let names = c.args.self.now.names in
    let new : c.push_reserved.new.self.names ≡ names ++ c.args.text.now ∷ [] = c.push_reserved.ensures
    ∙ ap (λ ns. ns ++ c.in-Ok.name.items ∷ []) c.reserve.ensures.names ∙ ap (λ name. names ++ name ∷ []) c.in-Ok.ensures.text in
    ap (λ ns. slice_get ns c.count-id.result) new ∙ ap (slice_get (names ++ c.args.text.now ∷ [])) c.count-id.ensures.value
    ∙ slice_get-push_last names c.args.text.now

pub returns-clause-named : goal.returns-clause-named
returns-clause-named g c = λ tells is.
    let s = g.S.Reads.state c.args.space.now in
    let names = c.args.self.now.names in
    let text = c.args.text.now in
    let new : c.push_reserved.new.self.names ≡ names ++ text ∷ [] = c.push_reserved.ensures ∙ ap (λ ns. ns ++ c.in-Ok.name.items ∷ []) c.reserve.ensures.names
    ∙ ap (λ name. names ++ name ∷ []) c.in-Ok.ensures.text in
    let few : length names < 4096 = omega (arith, c.count-id.ensures.value, c.count-id.ensures.few, c.if-id-eq-MOST_NAMES.false) in
    let state : g.S.Reads.state c.write_name.new.space ≡ named s (length names) text = c.in_ok-write_name.ensures.ok tells
    ∙ ap (λ id. named s id text) c.count-id.ensures.value in
    new ∙ names_of-named s names text c.requires.1 few is ∙ sym (ap (λ (t : State). names_of t.records) state)

pub returns-clause-live : goal.returns-clause-live
returns-clause-live g c = λ tells live.
    let s = g.S.Reads.state c.args.space.now in
    subst (λ (t : State). AreAllLive t.records format.names_file) (sym (c.in_ok-write_name.ensures.ok tells))
    (live-named s c.count-id.result c.args.text.now live)

pub returns-clause-known : goal.returns-clause-known
returns-clause-known g c has = absurd (c.in_default.ensures.none has)

pub returns-in_err-write_name-clause-known : goal.returns-in_err-write_name-clause-known
returns-in_err-write_name-clause-known g c has = absurd (c.in_default.ensures.none has)

pub returns-clause-full : goal.returns-clause-full
returns-clause-full g c all lacks = absurd (omega (arith, all, c.count-id.ensures.value, c.if-id-eq-MOST_NAMES.false))

pub returns-in_err-write_name-clause-full : goal.returns-in_err-write_name-clause-full
returns-in_err-write_name-clause-full g c all lacks = absurd (omega (arith, all, c.count-id.ensures.value, c.if-id-eq-MOST_NAMES.false))

pub returns-clause-onward : goal.returns-clause-onward
returns-clause-onward g c = c.write_name.ensures.onward

pub returns-in_err-write_name-clause-onward : goal.returns-in_err-write_name-clause-onward
returns-in_err-write_name-clause-onward g c = c.write_name.ensures.onward

pub returns-clause-full_only : goal.returns-clause-full_only
returns-clause-full_only g c = tt

pub returns-clause-err : goal.returns-clause-err
returns-clause-err g c = tt

pub returns-in_err-write_name-clause-ok : goal.returns-in_err-write_name-clause-ok
returns-in_err-write_name-clause-ok g c _ = never_ok c.from_residual.result _ _ c.from_residual.ensures.1

pub returns-in_err-write_name-clause-names : goal.returns-in_err-write_name-clause-names
returns-in_err-write_name-clause-names g c = never_ok c.from_residual.result _ _ c.from_residual.ensures.1

pub returns-in_err-write_name-clause-number : goal.returns-in_err-write_name-clause-number
returns-in_err-write_name-clause-number g c = never_ok c.from_residual.result _ _ c.from_residual.ensures.1

pub returns-in_err-write_name-clause-named : goal.returns-in_err-write_name-clause-named
returns-in_err-write_name-clause-named g c _ = never_ok c.from_residual.result _ _ c.from_residual.ensures.1

pub returns-in_err-write_name-clause-live : goal.returns-in_err-write_name-clause-live
returns-in_err-write_name-clause-live g c _ = never_ok c.from_residual.result _ _ c.from_residual.ensures.1

pub returns-clause-names : goal.returns-clause-names
returns-clause-names g c =
    inr (
      c.in_default.ensures.none,
      c.push_reserved.ensures ∙ ap (λ ns. ns ++ c.in-Ok.name.items ∷ []) c.reserve.ensures.names
          ∙ ap (λ name. c.args.self.now.names ++ name ∷ []) c.in-Ok.ensures.text,
    )
