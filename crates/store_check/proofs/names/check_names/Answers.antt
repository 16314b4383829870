use Rattle.std.proofs.Common.{rules}
use Rattle.name_store.specs.Loading.{AreLoadable, IsNameDamage}
use Rattle.store_check.proofs.NameLaws.{name_breaks}
use Rattle.store_check.proofs.names.check_names.Goals.{in-Ok, in-Err-Damaged, in-Err-Memory, in-Err-Disk}
use Rattle.record_lists.proofs.OnlyReads.{is_read-gets}
use Rattle.store_check.proofs.names.check_names.Goals as goal

pub returns-clause-decided : goal.returns-clause-decided
returns-clause-decided g c = λ tells.
    let s = g.R.Reads.state c.args.space.now in
    elim c.match-load.branch [
      | in-Ok w ↦ let all : AreLoadable s.records = search (rules, c.load.ensures.right tells) in rw w.result-is all.names
      | in-Err-Damaged w ↦
          let d : IsNameDamage s.records w.in-Err-Damaged.damage = search (rules, c.load.ensures.damaged tells) in
          rw w.result-is (name_breaks s.records s.shape w.in-Err-Damaged.damage (c.requires tells) d)
      | in-Err-Memory w ↦ rw w.result-is tt
      | in-Err-Disk w ↦ rw w.result-is tt
    ]

pub returns-clause-read : goal.returns-clause-read
returns-clause-read g c =
    is_read-gets g.R.Reads c.load.ensures.at_most.count _ _ c.load.ensures.at_most.is c.load.ensures.onward c.load.ensures.cause.later
