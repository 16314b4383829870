use Rattle.std.proofs.Common.{rules}
use Rattle.rec_bytes.proofs.Numbers.{byte-is}
use Rattle.rec_bytes.proofs.record.Rec.byte.Goals as goal

pub returns : goal.returns
returns c = byte-is c.args.self.now c.args.at (search rules)
