use Rattle.std.proofs.Common.{◌+◌, ◌-◌, leb, get_or}
use Rattle.disk_model.proofs.Fills.{ArePut}
use Rattle.disk_model.proofs.plain_file.lay_bytes.Given as goal

abbrev pub invariant-loop-k : goal.invariant-loop-k
invariant-loop-k l = ArePut l.at (l.at + l.k) (λ i. leb (get_or l.pokes i 0) l.call) (λ i. get_or l.part (i - l.at) 0) l.fn.bytes l.bytes
