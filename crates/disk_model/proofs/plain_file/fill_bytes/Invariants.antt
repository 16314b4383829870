use Rattle.std.proofs.Common.{leb, get_or}
use Rattle.disk_model.proofs.Fills.{ArePut}
use Rattle.disk_model.proofs.plain_file.fill_bytes.Given as goal

abbrev pub invariant-loop-i : goal.invariant-loop-i
invariant-loop-i l = ArePut l.start l.i (λ k. leb (get_or l.pokes k 0) l.call) (λ _. l.byte) l.fn.bytes l.bytes
