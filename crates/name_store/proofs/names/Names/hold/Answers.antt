use Rattle.std.proofs.Common.{◌≡◌, ◌∷◌, [], ◌++◌, slice_get, inl, ap, ◌∙◌, refl}
use Rattle.name_store.proofs.FirstNames.{contains_at, slice_get-push_last}
use Rattle.name_store.proofs.names.Names.hold.Goals as goal

pub returns-in-Some-clause-names : goal.returns-in-Some-clause-names
returns-in-Some-clause-names c = inl (contains_at c.args.self.now.names c.in-Some.id c.args.text.now c.in-Some.ensures.some, refl)

pub returns-in-Some-clause-full : goal.returns-in-Some-clause-full
returns-in-Some-clause-full c = λ all lacks. absurd (lacks (contains_at c.args.self.now.names c.in-Some.id c.args.text.now c.in-Some.ensures.some))

pub returns-clause-number : goal.returns-clause-number
returns-clause-number c =
    let names = c.args.self.now.names in
    let new : c.push_reserved.new.self.names ≡ names ++ c.args.text.now ∷ [] = c.push_reserved.ensures
    ∙ ap (λ ns. ns ++ c.in-Ok.name.items ∷ []) c.reserve.ensures.names ∙ ap (λ name. names ++ name ∷ []) c.in-Ok.ensures.text in
    ap (λ ns. slice_get ns c.count-id.result) new ∙ ap (slice_get (names ++ c.args.text.now ∷ [])) c.count-id.ensures.value
    ∙ slice_get-push_last names c.args.text.now
