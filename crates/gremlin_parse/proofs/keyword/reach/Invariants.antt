use Rattle.std.proofs.Common.{◌≡◌, ◌≤◌, max, drop, length}
use Rattle.gremlin_parse.specs.Keywords.{reach, words_of}
use Rattle.gremlin_parse.proofs.keyword.reach.Given as goal

abbrev pub invariant-loop-word : goal.invariant-loop-word
invariant-loop-word g l = record {
  most : max l.most (reach (words_of (drop l.word-index l.table)) l.run) ≡ reach (words_of l.table) l.run;
  within : l.most ≤ length l.run;
}
