use Rattle.std.proofs.Common.{length}
use Rattle.gremlin_parse.proofs.keyword.+common_len.Given as goal

abbrev pub decreases-common_len : goal.decreases-common_len
decreases-common_len l = length l.word.now
