use Rattle.std.proofs.Common.{◌≡◌, ◌+◌, ◌<◌, ◌≤◌, [], ◌∷◌, ◌++◌, length, subst, sym, arith}
use Rattle.std.proofs.lemmas.Grind.{common_steps}
use Rattle.std.proofs.lemmas.List.{length-map}
use Rattle.disk_model.specs.declared.call_log.KeptCall.TheVariants as kept
use Rattle.disk_model.specs.Calls.{Wrote, bytes_kept}
use Rattle.disk_model.specs.CallLog.{call_of, calls_of, IsLog}
use Rattle.disk_model.proofs.Logs.{IsLog-wrote, calls_of-wrote}
use Rattle.disk_model.proofs.call_log.CallLog.wrote.Goals as goal

pub invariant_of-self : goal.invariant_of-self
invariant_of-self c =
    let log = c.self.inside in
    let bytes : c.extend_from_slice.new.self.items ≡ log.bytes.items ++ c.args.bytes.now = grind (arith, common_steps) in
    let calls : c.push.new.self.items ≡ log.calls.items ++ kept.Wrote c.args.file c.args.at (length log.bytes.items) (length c.args.bytes.now) ∷ [] =
    grind (arith, common_steps) in
    let room : length log.calls.items < log.room.calls = rw (← length-map log.calls.items (call_of log.bytes.items))
    (rw (← c.self.view_is) at c.requires.calls) in
    let byte_room : bytes_kept (calls_of log.calls.items log.bytes.items) + length c.args.bytes.now ≤ log.room.bytes =
    rw (← c.self.view_is) at c.requires.bytes in
    let count = c.self.invariant.0.count in (
      subst (λ cs. IsLog cs c.extend_from_slice.new.self.items) (sym calls) (subst (λ bs. IsLog (log.calls.items ++ kept.Wrote c.args.file c.args.at
          (length log.bytes.items) (length c.args.bytes.now) ∷ []) bs) (sym bytes) (IsLog-wrote log.calls.items log.bytes.items c.args.bytes.now c.args.file
          c.args.at (omega arith) c.self.invariant.0)),
      grind (arith, common_steps),
      omega arith,
      grind (arith, common_steps),
      omega arith,
    )

pub returns : goal.returns
returns c =
    let log = c.self.inside in
    let bytes : c.extend_from_slice.new.self.items ≡ log.bytes.items ++ c.args.bytes.now = grind (arith, common_steps) in
    let calls : c.push.new.self.items ≡ log.calls.items ++ kept.Wrote c.args.file c.args.at (length log.bytes.items) (length c.args.bytes.now) ∷ [] =
    grind (arith, common_steps) in
    let wrote = calls_of-wrote log.calls.items log.bytes.items c.args.bytes.now c.args.file c.args.at c.self.invariant.0 in
    let is : calls_of c.push.new.self.items c.extend_from_slice.new.self.items ≡ calls_of log.calls.items log.bytes.items ++ Wrote c.args.file c.args.at
    c.args.bytes.now ∷ [] = rw (calls, bytes) wrote in
    rw (is, ← c.self.view_is)
