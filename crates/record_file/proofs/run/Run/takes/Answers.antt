use Rattle.std.proofs.Common.{◌≡◌, arith}
use Rattle.std.proofs.lemmas.Bool.Decides.{nat_tests}
use Rattle.record_file.proofs.Runs.{Takes-iff}
use Rattle.record_file.proofs.run.Run.takes.Goals as goal
use Rattle.record_file.proofs.run.Run.takes.Goals.{then-self-lt-MOST_RECORDS, else-self-lt-MOST_RECORDS}

pub returns-then-key-self : goal.returns-then-key-self
returns-then-key-self c =
    let run = c.self.inside in
    elim c.if-self-lt-MOST_RECORDS.branch [
      | then-self-lt-MOST_RECORDS w ↦
          let file : c.args.key.file ≡ run.first.file = grind (arith, nat_tests, c.if-key-self.true, w.value-is) in
          Takes-iff run.first c.args.key run.bytes run.count c.args.self.now c.if-self-eq0.false c.self.view_is w.if-self-lt-MOST_RECORDS.true file
      | else-self-lt-MOST_RECORDS w ↦ absurd (grind (arith, nat_tests, c.if-key-self.true, w.value-is, w.if-self-lt-MOST_RECORDS.false))
    ]
