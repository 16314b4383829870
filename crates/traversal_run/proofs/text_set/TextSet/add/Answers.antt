use Rattle.std.proofs.Common.{ap, sym, ◌∙◌, not, nat_eq, cond, ◌∷◌, [], ◌++◌, List, ℕ}
use Rattle.std.specs.List.{list_any}
use Rattle.std.specs.Cmp.Lexicographic.{pointwise}
use Rattle.traversal_run.specs.TextSet.{bytes_of}
use Rattle.traversal_run.proofs.Texts.{bytes_of-insert_key, list_any-bytes_of}
use Rattle.rec_bytes.proofs.Causes.{never_ok}
use Rattle.traversal_run.proofs.text_set.TextSet.add.Goals as goal

pub returns-clause-is_new : goal.returns-clause-is_new
returns-clause-is_new c =
    let text = c.args.text in
    c.in_ok-is_new.ensures.added ∙ ap not (sym (list_any-bytes_of c.self.inside.texts.keys text) ∙ ap (list_any (pointwise nat_eq text.items)) c.self.view_is)

pub returns-clause-added : goal.returns-clause-added
returns-clause-added c =
    let text = c.args.text in
    ap bytes_of c.in_ok-is_new.ensures.keys ∙ bytes_of-insert_key c.self.inside.texts.keys text c.in_ok-is_new.is_new c.in_ok-is_new.ensures.added
    ∙ ap (λ (kept : List (List ℕ)). cond c.in_ok-is_new.is_new (kept ++ text.items ∷ []) kept) c.self.view_is

pub returns-in_err-is_new-clause-is_new : goal.returns-in_err-is_new-clause-is_new
returns-in_err-is_new-clause-is_new c = never_ok c.from_residual.result _ _ c.from_residual.ensures.1

pub returns-in_err-is_new-clause-added : goal.returns-in_err-is_new-clause-added
returns-in_err-is_new-clause-added c = never_ok c.from_residual.result _ _ c.from_residual.ensures.1
