use Rattle.std.proofs.Common.{◌≡◌, ◌++◌, ◌∷◌, [], List, ℕ, Bool, true, false, cond, not, nat_eq, refl, ap, ◌∙◌}
use Rattle.std.specs.List.{list_any}
use Rattle.indexmap.specs.IndexSet.{insert_key}
use Rattle.rec_bytes.proofs.Causes.{never_ok}
use Rattle.traversal_run.proofs.id_set.IdSet.add.Goals as goal

kept : (ids : List ℕ) (id : ℕ) (known is_new : Bool) → is_new ≡ not known → list_any (nat_eq id) ids ≡ known
    → insert_key nat_eq ids id ≡ cond is_new (ids ++ id ∷ []) ids
kept ids id true false is e = ap (λ b. cond b ids (ids ++ id ∷ [])) e
kept ids id false true is e = ap (λ b. cond b ids (ids ++ id ∷ [])) e
kept ids id true true is e = absurd cc
kept ids id false false is e = absurd cc

pub returns-clause-is_new : goal.returns-clause-is_new
returns-clause-is_new c = c.in_ok-is_new.ensures.added ∙ ap (λ (ids : List ℕ). not (list_any (nat_eq c.args.id) ids)) c.self.view_is

pub returns-clause-added : goal.returns-clause-added
returns-clause-added c =
    let ids = c.self.inside.ids.keys in
    c.in_ok-is_new.ensures.keys ∙ kept ids c.args.id (list_any (nat_eq c.args.id) ids) c.in_ok-is_new.is_new c.in_ok-is_new.ensures.added refl
    ∙ ap (λ (list : List ℕ). cond c.in_ok-is_new.is_new (list ++ c.args.id ∷ []) list) c.self.view_is

pub returns-in_err-is_new-clause-is_new : goal.returns-in_err-is_new-clause-is_new
returns-in_err-is_new-clause-is_new c = never_ok c.from_residual.result _ _ c.from_residual.ensures.1

pub returns-in_err-is_new-clause-added : goal.returns-in_err-is_new-clause-added
returns-in_err-is_new-clause-added c = never_ok c.from_residual.result _ _ c.from_residual.ensures.1
