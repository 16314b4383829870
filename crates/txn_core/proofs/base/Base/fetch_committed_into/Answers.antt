use Rattle.std.proofs.Common.{◌∙◌, ap, is_some, refl, sym, false, Bool, Option, None, Some, ◌||◌, ◌≡◌}
use Rattle.std.proofs.lemmas.Bool.{false≢true, or_left, or_right}
use Rattle.std.proofs.lemmas.Result.{IfOk-weaker}
use Rattle.record_file.specs.MetaFile.{find_meta}
use Rattle.page_cache.specs.Pages.{kept_page}
use Rattle.page_cache.proofs.Agreement.{KeepsPage-room}
use Rattle.txn_core.specs.Through.{has_key, holds_committed}
use Rattle.txn_core.proofs.Through.{neither, through_none, told_found, told_meta}
use Rattle.txn_core.proofs.base.Base.fetch_committed_into.Goals as goal

pub invariant_of-self-clause-room : goal.invariant_of-self-clause-room
invariant_of-self-clause-room g c =
    let b = c.args.self.now in
    KeepsPage-room c.args.key b.cache c.get_into.new.self c.get_into.ensures.pages ∙ b.room

pub invariant_of-self-clause-cached : goal.invariant_of-self-clause-cached
invariant_of-self-clause-cached g c = λ reads. c.get_into.ensures.agrees reads (c.args.self.now.cached reads)

pub returns-then-found_into-clause-through : goal.returns-then-found_into-clause-through
returns-then-found_into-clause-through g c =
    let b = c.args.self.now in
    through_none c.args.key (holds_committed b c.args.key) b
    (or_left (has_key b.changed.pairs c.args.key) (is_some (find_meta b.metas.records c.args.key)) (sym c.found_into.ensures.found ∙ c.if-found_into.true))

pub returns-then-found_into-clause-told : goal.returns-then-found_into-clause-told
returns-then-found_into-clause-told g c =
    let b = c.args.self.now in
    told_found (has_key b.changed.pairs c.args.key) (is_some (find_meta b.metas.records c.args.key)) (is_some (kept_page c.args.key b.cache))
    (sym c.if-found_into.true ∙ c.found_into.ensures.found)

pub returns-in-Some-clause-through : goal.returns-in-Some-clause-through
returns-in-Some-clause-through g c =
    let b = c.args.self.now in
    through_none c.args.key (holds_committed b c.args.key) b
    (or_right (has_key b.changed.pairs c.args.key) (is_some (find_meta b.metas.records c.args.key)) (sym (ap is_some c.in-Some.ensures)))

pub returns-in-Some-clause-told : goal.returns-in-Some-clause-told
returns-in-Some-clause-told g c =
    let b = c.args.self.now in
    told_meta (has_key b.changed.pairs c.args.key) (is_some (find_meta b.metas.records c.args.key)) (is_some (kept_page c.args.key b.cache))
    (ap is_some c.in-Some.ensures)

-- no meta record has the key
unfound : {X : Type 0} (o : Option X) → ((x : X) → o ≡ Some x → ⊥) → false ≡ is_some o
unfound None other = refl
unfound (Some x) other = absurd (other x refl)

pub returns-clause-through : goal.returns-clause-through
returns-clause-through g c =
    let b = c.args.self.now in
    let none : false ≡ (has_key b.changed.pairs c.args.key || is_some (find_meta b.metas.records c.args.key))
    = neither (has_key b.changed.pairs c.args.key) (is_some (find_meta b.metas.records c.args.key)) (sym c.if-found_into.false ∙ c.found_into.ensures.found)
    (unfound c.find.result c.in_default.not-Some ∙ ap is_some c.find.ensures) in
    record {
      memory = λ yes. absurd (false≢true (none ∙ yes));
      hit = c.get_into.ensures.hit;
      used = λ _. c.get_into.ensures.used;
      pages = λ _. c.get_into.ensures.pages;
      stay = c.get_into.ensures.stay;
    }

pub returns-clause-told : goal.returns-clause-told
returns-clause-told g c =
    let b = c.args.self.now in
    let none : false ≡ (has_key b.changed.pairs c.args.key || is_some (find_meta b.metas.records c.args.key))
    = neither (has_key b.changed.pairs c.args.key) (is_some (find_meta b.metas.records c.args.key)) (sym c.if-found_into.false ∙ c.found_into.ensures.found)
    (unfound c.find.result c.in_default.not-Some ∙ ap is_some c.find.ensures) in
    IfOk-weaker c.get_into.result
    (λ (held : Bool). held ≡ is_some (kept_page c.args.key c.get_into.new.self))
    (λ (held : Bool). held ≡ ((has_key b.changed.pairs c.args.key || is_some (find_meta b.metas.records c.args.key)) || is_some
    (kept_page c.args.key c.get_into.new.self)))
    (λ held is. is ∙ ap (λ (b : Bool). b || is_some (kept_page c.args.key c.get_into.new.self)) none) c.get_into.ensures.told
