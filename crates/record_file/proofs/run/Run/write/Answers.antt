use Rattle.std.proofs.Common.{◌*◌, arith}
use Rattle.std.proofs.lemmas.Result.{on_ok_weaker}
use Rattle.record_file.proofs.Runs.{SameButRecords-held, run_written-held}
use Rattle.record_file.proofs.run.Run.write.Goals as goal

pub returns-clause-written : goal.returns-clause-written
returns-clause-written g c reads =
    let run = c.self.inside in
    on_ok_weaker c.write.result
    (λ holds. run_written-held run.first run.bytes run.count (run.count * 64) c.place_of-at.result (g.D.Disk.reads c.args.disk.now)
    (g.D.Disk.reads c.write.new.self) c.args.self.now c.self.view_is c.self.invariant.0.file c.self.invariant.1 c.self.told (omega arith)
    c.place_of-at.ensures holds c.write.ensures.elsewhere)
    (c.write.ensures.written reads)

pub returns-clause-elsewhere : goal.returns-clause-elsewhere
returns-clause-elsewhere g c =
    let run = c.self.inside in
    SameButRecords-held run.first run.bytes run.count (run.count * 64) c.place_of-at.result (g.D.Disk.reads c.args.disk.now) (g.D.Disk.reads c.write.new.self)
    c.args.self.now c.self.view_is c.self.invariant.0.file c.self.invariant.1 c.self.told (omega arith) c.place_of-at.ensures c.write.ensures.elsewhere

pub returns-clause-crash : goal.returns-clause-crash
returns-clause-crash g c images image left =
    let run = c.self.inside in
    let was = c.write.ensures.crash images image left in (
      was.0,
      was.1,
      SameButRecords-held run.first run.bytes run.count (run.count * 64) c.place_of-at.result was.0 image c.args.self.now c.self.view_is
          c.self.invariant.0.file c.self.invariant.1 c.self.told (omega arith) c.place_of-at.ensures was.2,
    )
