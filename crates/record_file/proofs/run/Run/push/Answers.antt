use Rattle.std.proofs.Common.{◌≡◌, ◌+◌, ◌*◌, ◌-◌, length, subst, sym, rules, arith}
use Rattle.record_file.specs.declared.run.Run.TheInside.{Inside}
use Rattle.record_file.proofs.Runs.{FindsPut-ready, IsReady, IsReady-none, IsReady-some}
use Rattle.record_file.proofs.run.Run.push.Goals as goal
use Rattle.record_file.proofs.run.Run.push.Goals.{then-self-eq0, else-self-eq0}

pub returns : goal.returns
returns c =
    let was = c.self.inside in
    let now = c.if-self-eq0.self-inside in
    let ready : IsReady now.first now.bytes now.count c.args.key c.args.self.now = elim c.if-self-eq0.branch [
      | then-self-eq0 w ↦ subst (λ (r : Inside). IsReady r.first r.bytes r.count c.args.key c.args.self.now) (sym w.self-inside-is)
          (IsReady-none was.first c.args.key was.bytes was.count c.args.self.now w.if-self-eq0.true c.self.view_is c.self.told)
      | else-self-eq0 w ↦ subst (λ (r : Inside). IsReady r.first r.bytes r.count c.args.key c.args.self.now) (sym w.self-inside-is)
          (IsReady-some was.first c.args.key was.bytes was.count c.args.self.now w.if-self-eq0.false c.self.view_is c.requires.takes c.self.told)
    ] in
    let whole : length c.args.rec.bytes ≡ 64 = search rules in
    FindsPut-ready now.first now.count (now.count * 64) (now.count * 64 + 64 - now.count * 64) now.bytes c.copy_from_slice.new.self c.args.key c.args.rec
    c.args.self.now ready (omega arith) c.copy_from_slice.ensures.after whole
