use Rattle.std.proofs.Common.{rules}
use Rattle.page_cache.proofs.page.Page.read.Goals as goal

pub returns-clause-bytes : goal.returns-clause-bytes
returns-clause-bytes g c reads there = record { whole = search rules; holds = rw c.of-page.ensures at (c.in_ok-read.ensures.bytes reads) }
