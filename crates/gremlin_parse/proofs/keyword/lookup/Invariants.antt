use Rattle.std.proofs.Common.{◌≡◌, drop}
use Rattle.gremlin_parse.specs.Keywords.{lookup, words_of}
use Rattle.gremlin_parse.proofs.keyword.lookup.Given as goal

abbrev pub invariant-loop-word : goal.invariant-loop-word
invariant-loop-word g l = lookup (words_of (drop l.word-index l.table)) l.run ≡ lookup (words_of l.table) l.run
