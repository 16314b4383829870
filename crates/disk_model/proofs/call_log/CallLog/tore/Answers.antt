use Rattle.std.proofs.Common.{◌≡◌, [], ◌∷◌, ◌++◌, ◌<◌, length, vec_len, subst, sym, arith}
use Rattle.std.proofs.lemmas.Grind.{common_steps}
use Rattle.std.proofs.lemmas.List.{length-map}
use Rattle.disk_model.specs.declared.call_log.KeptCall.TheVariants as kept
use Rattle.disk_model.specs.CallLog.{call_of, IsLog}
use Rattle.disk_model.proofs.Logs.{IsLog-tore}
use Rattle.disk_model.proofs.call_log.CallLog.tore.Goals as goal

pub invariant_of-self : goal.invariant_of-self
invariant_of-self c =
    let log = c.self.inside in
    let is : c.push.new.self.items ≡ log.calls.items ++ kept.Tore c.args.file c.args.at c.args.len ∷ [] = grind (arith, common_steps) in
    let room : length log.calls.items < log.room.calls = rw (← length-map log.calls.items (call_of log.bytes.items))
    (rw (← c.self.view_is) at c.requires.room) in
    let count : vec_len c.push.new.self ≡ length c.push.new.self.items = omega arith in (
      subst (λ calls. IsLog calls log.bytes.items) (sym is) (IsLog-tore log.calls.items log.bytes.items c.args.file c.args.at c.args.len (omega arith)
          c.self.invariant.0),
      grind (arith, common_steps),
      omega arith,
      omega arith,
      omega arith,
    )
