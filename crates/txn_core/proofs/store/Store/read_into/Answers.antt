use Rattle.std.proofs.Common.{◌∙◌, is_ok, is_some, refl, sym, Bool, ◌||◌, ◌≡◌}
use Rattle.std.proofs.lemmas.Bool.{or_left}
use Rattle.std.proofs.lemmas.Result.{IfOk-weaker}
use Rattle.page_cache.specs.Pages.{kept_page}
use Rattle.txn_core.specs.Base.{working}
use Rattle.txn_core.specs.Through.{has_key, holds_drafted, holds_working}
use Rattle.txn_core.proofs.States.{state_read}
use Rattle.txn_core.proofs.Through.{through_beneath, through_none, told_beneath, told_found}
use Rattle.txn_core.proofs.store.Store.read_into.Goals as goal

pub returns-then-found_into-clause-through : goal.returns-then-found_into-clause-through
returns-then-found_into-clause-through g c =
    let s = c.args.self.now in
    through_none c.args.key (holds_drafted s c.args.key) s.base
    (or_left (has_key s.draft.pairs c.args.key) (holds_working s.base c.args.key) (sym c.found_into.ensures.found ∙ c.if-found_into.true))

pub returns-then-found_into-clause-told : goal.returns-then-found_into-clause-told
returns-then-found_into-clause-told g c =
    let s = c.args.self.now in
    told_found (has_key s.draft.pairs c.args.key) (holds_working s.base c.args.key) (is_some (kept_page c.args.key s.base.cache))
    (sym c.if-found_into.true ∙ c.found_into.ensures.found)

pub returns-clause-through : goal.returns-clause-through
returns-clause-through g c =
    let s = c.args.self.now in
    through_beneath c.args.key (has_key s.draft.pairs c.args.key) (holds_working s.base c.args.key) s.base c.fetch_into.new.self (is_ok c.fetch_into.result)
    (sym c.if-found_into.false ∙ c.found_into.ensures.found) c.fetch_into.ensures.through

pub returns-clause-told : goal.returns-clause-told
returns-clause-told g c =
    let s = c.args.self.now in
    let new = c.fetch_into.new.self in
    IfOk-weaker c.fetch_into.result
    (λ (held : Bool). held ≡ (holds_working new c.args.key || is_some (kept_page c.args.key new.cache)))
    (λ (held : Bool). held ≡ ((has_key s.draft.pairs c.args.key || holds_working new c.args.key) || is_some (kept_page c.args.key new.cache)))
    (λ held is. told_beneath (has_key s.draft.pairs c.args.key) (holds_working new c.args.key) (is_some (kept_page c.args.key new.cache)) held
    (sym c.if-found_into.false ∙ c.found_into.ensures.found) is)
    c.fetch_into.ensures.told

pub returns-clause-state : goal.returns-clause-state
returns-clause-state g c =
    let s = c.args.self.now in
    state_read s.draft.pairs (working s.base) (working c.fetch_into.new.self) s.reads c.saturating_add-self.result s.base.shape c.fetch_into.new.self.shape
    c.fetch_into.ensures.records c.saturating_add-self.ensures c.fetch_into.ensures.onward.shape

pub returns-clause-onward : goal.returns-clause-onward
returns-clause-onward g c = record { base = c.fetch_into.ensures.onward; draft = refl }
