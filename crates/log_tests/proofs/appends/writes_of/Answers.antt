use Rattle.std.proofs.Common.{◌≡◌, ◌∙◌, ap, sym, subst, [], ◌∷◌, length, refl, lit≤, lit<}
use Rattle.rec_bytes.specs.declared.key.Key.{Key}
use Rattle.rec_bytes.specs.declared.record.Rec.{Rec}
use Rattle.rec_bytes.specs.Key.{IsKey}
use Rattle.rec_bytes.specs.Pairs.{Pairs, with_pair}
use Rattle.redo_log.specs.Entries.{IsEntryOf}
use Rattle.log_tests.proofs.appends.writes_of.Goals as goal

one_pair : (new old : Pairs) (key : Key) (rec : Rec) → new ≡ with_pair old key rec → old ≡ [] → new ≡ (key, rec) ∷ []
unfolding with_pair
one_pair new old key rec put fresh = put ∙ ap (λ (pairs : Pairs). with_pair pairs key rec) fresh

IsEntryOf-one : (key : Key) (rec : Rec) → IsKey key → IsEntryOf ((key, rec) ∷ [])
IsEntryOf-one key rec is_key = record { some = lit< tt; few = lit≤ tt; keys = (is_key, tt); rising = (tt, tt) }

pub returns-clause-form : goal.returns-clause-form
returns-clause-form c =
    subst IsEntryOf (sym (one_pair _ _ _ _ c.in_ok-put.ensures.ok c.new-writes.ensures)) (IsEntryOf-one _ _ (record { file = refl; id = c.requires }))

pub returns-clause-one : goal.returns-clause-one
returns-clause-one c = ap length (one_pair _ _ _ _ c.in_ok-put.ensures.ok c.new-writes.ensures)
