use Rattle.std.proofs.Common.{◌∙◌, ap, is_ok, is_some, sym, false, Bool, ◌||◌, ◌≡◌}
use Rattle.std.proofs.lemmas.Bool.{or_left}
use Rattle.std.proofs.lemmas.Result.{IfOk-weaker}
use Rattle.rec_bytes.specs.Pairs.{Held}
use Rattle.page_cache.specs.Pages.{kept_page}
use Rattle.txn_core.specs.Through.{has_key, holds_committed, holds_working}
use Rattle.txn_core.proofs.Through.{through_beneath, through_none, told_beneath, told_found}
use Rattle.txn_core.proofs.base.Base.fetch_into.Goals as goal

pub returns-then-found_into-clause-through : goal.returns-then-found_into-clause-through
returns-then-found_into-clause-through g c =
    let b = c.args.self.now in
    through_none c.args.key (holds_working b c.args.key) b
    (or_left (has_key b.own.pairs c.args.key) (holds_committed b c.args.key) (sym c.found_into.ensures.found ∙ c.if-found_into.true))

pub returns-then-found_into-clause-told : goal.returns-then-found_into-clause-told
returns-then-found_into-clause-told g c =
    let b = c.args.self.now in
    told_found (has_key b.own.pairs c.args.key) (holds_committed b c.args.key) (is_some (kept_page c.args.key b.cache))
    (sym c.if-found_into.true ∙ c.found_into.ensures.found)

pub returns-clause-through : goal.returns-clause-through
returns-clause-through g c =
    let b = c.args.self.now in
    through_beneath c.args.key (has_key b.own.pairs c.args.key) (holds_committed b c.args.key) b c.fetch_committed_into.new.self
    (is_ok c.fetch_committed_into.result)
    (sym c.if-found_into.false ∙ c.found_into.ensures.found) c.fetch_committed_into.ensures.through

pub returns-clause-told : goal.returns-clause-told
returns-clause-told g c =
    let b = c.args.self.now in
    let new = c.fetch_committed_into.new.self in
    let none : false ≡ has_key new.own.pairs c.args.key
    = sym c.if-found_into.false ∙ c.found_into.ensures.found ∙ sym (ap (λ (own : Held). has_key own.pairs c.args.key) c.fetch_committed_into.ensures.onward.own)
    in
    IfOk-weaker c.fetch_committed_into.result
    (λ (held : Bool). held ≡ (holds_committed new c.args.key || is_some (kept_page c.args.key new.cache)))
    (λ (held : Bool). held ≡ (holds_working new c.args.key || is_some (kept_page c.args.key new.cache)))
    (λ held is. told_beneath (has_key new.own.pairs c.args.key) (holds_committed new c.args.key) (is_some (kept_page c.args.key new.cache)) held none is)
    c.fetch_committed_into.ensures.told
