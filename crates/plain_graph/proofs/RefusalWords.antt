-- A refusal's line is its parts, and they are short.
use Rattle.std.proofs.Common.{◌+◌, ◌≤◌, ◌≡◌, ◌++◌, length, arith, refl, append-nil}
use Rattle.plain_graph.specs.declared.refusal.Refusal.{Refusal}
use Rattle.plain_graph.specs.declared.refusal.Refusal.TheVariants as refusals
use Rattle.plain_graph.specs.Reply.{refusal_text}
use Rattle.plain_graph.specs.RefusalWords.{number_text, refusal_number, refusal_rest, refusal_words}

pub refusal_parts : (why : Refusal) → refusal_words why ++ number_text (refusal_number why) ++ refusal_rest why ≡ refusal_text why
refusal_parts refusals.LongLine = simp append-nil
refusal_parts (refusals.Syntax at) = simp append-nil
refusal_parts (refusals.NameLength at) = simp append-nil
refusal_parts (refusals.TimesRange at) = simp append-nil
refusal_parts (refusals.StepKind at) = simp append-nil
refusal_parts (refusals.TooManySteps at) = simp append-nil
refusal_parts (refusals.TextLength at) = simp append-nil
refusal_parts refusals.ReadOnly = simp append-nil
refusal_parts refusals.Writer = simp append-nil
refusal_parts refusals.Failed = simp append-nil
refusal_parts refusals.SnapshotOpen = simp append-nil
refusal_parts refusals.NoSnapshot = simp append-nil
refusal_parts refusals.SnapshotEnded = simp append-nil
refusal_parts refusals.FullNodes = simp append-nil
refusal_parts refusals.FullNames = simp append-nil
refusal_parts refusals.TooManyProperties = simp append-nil
refusal_parts refusals.FullProperties = simp append-nil
refusal_parts refusals.FullStrings = simp append-nil
refusal_parts (refusals.NumberRange at) = simp append-nil
refusal_parts refusals.TransactionOpen = simp append-nil
refusal_parts refusals.NoTransaction = simp append-nil
refusal_parts refusals.FullEdges = simp append-nil
refusal_parts (refusals.NoNode id) = simp append-nil
refusal_parts (refusals.NoEdge id) = simp append-nil
refusal_parts (refusals.HasRelationships id) = refl
refusal_parts refusals.TransactionFull = simp append-nil
refusal_parts refusals.IndexThere = simp append-nil
refusal_parts refusals.TooManyIndexes = simp append-nil
refusal_parts (refusals.IndexTooLarge count) = simp append-nil
refusal_parts refusals.FullIndex = simp append-nil
refusal_parts refusals.NoIndex = simp append-nil

pub refusal_short : (why : Refusal) → length (refusal_words why) + length (refusal_rest why) ≤ 40
refusal_short refusals.LongLine = omega arith
refusal_short (refusals.Syntax at) = omega arith
refusal_short (refusals.NameLength at) = omega arith
refusal_short (refusals.TimesRange at) = omega arith
refusal_short (refusals.StepKind at) = omega arith
refusal_short (refusals.TooManySteps at) = omega arith
refusal_short (refusals.TextLength at) = omega arith
refusal_short refusals.ReadOnly = omega arith
refusal_short refusals.Writer = omega arith
refusal_short refusals.Failed = omega arith
refusal_short refusals.SnapshotOpen = omega arith
refusal_short refusals.NoSnapshot = omega arith
refusal_short refusals.SnapshotEnded = omega arith
refusal_short refusals.FullNodes = omega arith
refusal_short refusals.FullNames = omega arith
refusal_short refusals.TooManyProperties = omega arith
refusal_short refusals.FullProperties = omega arith
refusal_short refusals.FullStrings = omega arith
refusal_short (refusals.NumberRange at) = omega arith
refusal_short refusals.TransactionOpen = omega arith
refusal_short refusals.NoTransaction = omega arith
refusal_short refusals.FullEdges = omega arith
refusal_short (refusals.NoNode id) = omega arith
refusal_short (refusals.NoEdge id) = omega arith
refusal_short (refusals.HasRelationships id) = omega arith
refusal_short refusals.TransactionFull = omega arith
refusal_short refusals.IndexThere = omega arith
refusal_short refusals.TooManyIndexes = omega arith
refusal_short (refusals.IndexTooLarge count) = omega arith
refusal_short refusals.FullIndex = omega arith
refusal_short refusals.NoIndex = omega arith

pub ruleset refusal_laws = (refusal_parts, refusal_short)
