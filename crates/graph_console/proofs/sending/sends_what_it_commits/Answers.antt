use Rattle.graph_console.proofs.SentRecords.{begins-sent, goes_on-sent, ships-sent, tapped-steps}
use Rattle.graph_console.proofs.sending.sends_what_it_commits.Goals as goal

pub returns-clause-begins : goal.returns-clause-begins
returns-clause-begins g c told config disk new allowed zero opened = begins-sent g.D.Disk told config disk new allowed zero opened

pub returns-clause-steps : goal.returns-clause-steps
returns-clause-steps g c line old new turn tap before taps at = tapped-steps g.D.Disk g.K.Sink line old new turn tap before taps at

pub returns-clause-goes_on : goal.returns-clause-goes_on
returns-clause-goes_on g c told shape sent later line old new before reply tap was steps sends =
    goes_on-sent g.D.Disk told shape sent line old new before reply tap was steps later sends

pub returns-clause-run : goal.returns-clause-run
returns-clause-run g c told shape lines first last was ships = ships-sent g.D.Disk told shape lines first last was ships
