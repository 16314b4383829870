-- How the names of steps are written, and what may stand after a step.
use Rattle.std.proofs.Common.{◌≡◌, ◌⊎◌, inl, inr, ℕ, false, None, List, [], ◌∷◌, ◌++◌, codes, refl, sym, subst}
use Rattle.plain_graph.specs.declared.direction.Direction.TheVariants as directions
use Rattle.gremlin_parse.specs.Faults.{EndsRun}
use Rattle.gremlin_parse.specs.Grammar.{direction_name, is_blank}
use Rattle.gremlin_parse.specs.Keywords.{Entry, InTable}
use Rattle.gremlin_parse.specs.OrderKeys.{after_token}
use Rattle.gremlin_parse.specs.Productions.{Token, word, dot}
use Rattle.gremlin_parse.specs.Queries.{step_words}
use Rattle.gremlin_parse.specs.Stages.{is_by}
use Rattle.gremlin_parse.specs.declared.step_word.BareStep.TheVariants as bare
use Rattle.gremlin_parse.specs.declared.step_word.BodyWord.{BodyWord}
use Rattle.gremlin_parse.specs.declared.step_word.BodyWord.TheVariants as of_body
use Rattle.gremlin_parse.specs.declared.step_word.ChangeWord.TheVariants as changes
use Rattle.gremlin_parse.specs.declared.step_word.NamesStep.TheVariants as of_names
use Rattle.gremlin_parse.specs.declared.step_word.StepWord.{StepWord}
use Rattle.gremlin_parse.specs.declared.step_word.StepWord.TheVariants as words

-- how the word of a body is written
abbrev pub letters_of : BodyWord → List ℕ
letters_of (of_body.Neighbours direction) = direction_name direction
letters_of of_body.HasLabel = codes "hasLabel"
letters_of of_body.Has = codes "has"

-- how the name of a step is written
abbrev pub step_letters : StepWord → List ℕ
step_letters (words.Bare bare.OutV) = codes "outV"
step_letters (words.Bare bare.InV) = codes "inV"
step_letters (words.Bare bare.Id) = codes "id"
step_letters (words.Bare bare.Label) = codes "label"
step_letters (words.Bare bare.Dedup) = codes "dedup"
step_letters (words.Bare bare.Count) = codes "count"
step_letters (words.Names (of_names.Incident direction)) = direction_name direction ++ codes "E"
step_letters (words.Names of_names.Values) = codes "values"
step_letters (words.Body body) = letters_of body
step_letters words.ElementMap = codes "elementMap"
step_letters words.Limit = codes "limit"
step_letters words.Order = codes "order"
step_letters words.By = codes "by"
step_letters words.Repeat = codes "repeat"
step_letters (words.Change changes.AddE) = codes "addE"
step_letters (words.Change changes.Property) = codes "property"
step_letters (words.Change changes.Drop) = codes "drop"

-- Each name of a step is written so, and is no `by`.
abbrev pub IsStepWord : Entry StepWord → Type 0
IsStepWord entry = (step_letters entry.1 ≡ entry.0) × (is_by entry.1 ≡ false)

pub step_word : (entry : Entry StepWord) → InTable entry step_words → IsStepWord entry
step_word entry (inl same) = subst IsStepWord (sym same) (refl, refl)
step_word entry (inr (inl same)) = subst IsStepWord (sym same) (refl, refl)
step_word entry (inr (inr (inl same))) = subst IsStepWord (sym same) (refl, refl)
step_word entry (inr (inr (inr (inl same)))) = subst IsStepWord (sym same) (refl, refl)
step_word entry (inr (inr (inr (inr (inl same))))) = subst IsStepWord (sym same) (refl, refl)
step_word entry (inr (inr (inr (inr (inr (inl same)))))) = subst IsStepWord (sym same) (refl, refl)
step_word entry (inr (inr (inr (inr (inr (inr (inl same))))))) = subst IsStepWord (sym same) (refl, refl)
step_word entry (inr (inr (inr (inr (inr (inr (inr (inl same)))))))) = subst IsStepWord (sym same) (refl, refl)
step_word entry (inr (inr (inr (inr (inr (inr (inr (inr (inl same))))))))) = subst IsStepWord (sym same) (refl, refl)
step_word entry (inr (inr (inr (inr (inr (inr (inr (inr (inr (inl same)))))))))) = subst IsStepWord (sym same) (refl, refl)
step_word entry (inr (inr (inr (inr (inr (inr (inr (inr (inr (inr (inl same))))))))))) = subst IsStepWord (sym same) (refl, refl)
step_word entry (inr (inr (inr (inr (inr (inr (inr (inr (inr (inr (inr (inl same)))))))))))) = subst IsStepWord (sym same) (refl, refl)
step_word entry (inr (inr (inr (inr (inr (inr (inr (inr (inr (inr (inr (inr (inl same))))))))))))) = subst IsStepWord (sym same) (refl, refl)
step_word entry (inr (inr (inr (inr (inr (inr (inr (inr (inr (inr (inr (inr (inr (inl same)))))))))))))) = subst IsStepWord (sym same) (refl, refl)
step_word entry (inr (inr (inr (inr (inr (inr (inr (inr (inr (inr (inr (inr (inr (inr (inl same))))))))))))))) = subst IsStepWord (sym same) (refl, refl)
step_word entry (inr (inr (inr (inr (inr (inr (inr (inr (inr (inr (inr (inr (inr (inr (inr (inl same)))))))))))))))) = subst IsStepWord (sym same) (refl, refl)
step_word entry (inr (inr (inr (inr (inr (inr (inr (inr (inr (inr (inr (inr (inr (inr (inr (inr (inl same))))))))))))))))) =
    subst IsStepWord (sym same) (refl, refl)
step_word entry (inr (inr (inr (inr (inr (inr (inr (inr (inr (inr (inr (inr (inr (inr (inr (inr (inr (inl same)))))))))))))))))) =
    subst IsStepWord (sym same) (refl, refl)
step_word entry (inr (inr (inr (inr (inr (inr (inr (inr (inr (inr (inr (inr (inr (inr (inr (inr (inr (inr (inl same))))))))))))))))))) =
    subst IsStepWord (sym same) (refl, refl)
step_word entry (inr (inr (inr (inr (inr (inr (inr (inr (inr (inr (inr (inr (inr (inr (inr (inr (inr (inr (inr (inl same)))))))))))))))))))) =
    subst IsStepWord (sym same) (refl, refl)
step_word entry (inr (inr (inr (inr (inr (inr (inr (inr (inr (inr (inr (inr (inr (inr (inr (inr (inr (inr (inr (inr (inl same))))))))))))))))))))) =
    subst IsStepWord (sym same) (refl, refl)
step_word entry (inr (inr (inr (inr (inr (inr (inr (inr (inr (inr (inr (inr (inr (inr (inr (inr (inr (inr (inr (inr (inr (inl same)))))))))))))))))))))) =
    subst IsStepWord (sym same) (refl, refl)
step_word entry (inr (inr (inr (inr (inr (inr (inr (inr (inr (inr (inr (inr (inr (inr (inr (inr (inr (inr (inr (inr (inr (inr none)))))))))))))))))))))) =
    absurd none

-- No other name begins as `by` does, and none with a blank.
pub name_starts : (this : StepWord) → is_by this ≡ false → (more : List ℕ) → (after_token (codes "by") (step_letters this ++ more) ≡ None)
    × EndsRun is_blank (step_letters this ++ more)
name_starts (words.Bare bare.OutV) other more = (refl, refl)
name_starts (words.Bare bare.InV) other more = (refl, refl)
name_starts (words.Bare bare.Id) other more = (refl, refl)
name_starts (words.Bare bare.Label) other more = (refl, refl)
name_starts (words.Bare bare.Dedup) other more = (refl, refl)
name_starts (words.Bare bare.Count) other more = (refl, refl)
name_starts (words.Names (of_names.Incident directions.Outgoing)) other more = (refl, refl)
name_starts (words.Names (of_names.Incident directions.Incoming)) other more = (refl, refl)
name_starts (words.Names (of_names.Incident directions.Both)) other more = (refl, refl)
name_starts (words.Names of_names.Values) other more = (refl, refl)
name_starts (words.Body (of_body.Neighbours directions.Outgoing)) other more = (refl, refl)
name_starts (words.Body (of_body.Neighbours directions.Incoming)) other more = (refl, refl)
name_starts (words.Body (of_body.Neighbours directions.Both)) other more = (refl, refl)
name_starts (words.Body of_body.HasLabel) other more = (refl, refl)
name_starts (words.Body of_body.Has) other more = (refl, refl)
name_starts words.ElementMap other more = (refl, refl)
name_starts words.Limit other more = (refl, refl)
name_starts words.Order other more = (refl, refl)
name_starts words.By other more = cc
name_starts words.Repeat other more = (refl, refl)
name_starts (words.Change changes.AddE) other more = (refl, refl)
name_starts (words.Change changes.Property) other more = (refl, refl)
name_starts (words.Change changes.Drop) other more = (refl, refl)

-- What may stand after a step: nothing, or a dot and the name of another one.
abbrev pub Follows : List Token → Type 0
Follows tokens = (tokens ≡ []) ⊎ ((this : StepWord) × (later : List Token) × (is_by this ≡ false) × (tokens ≡ dot ∷ word (step_letters this) ∷ later))
