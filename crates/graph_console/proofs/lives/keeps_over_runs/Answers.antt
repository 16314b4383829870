use Rattle.graph_console.proofs.Events.{served}
use Rattle.graph_console.proofs.Histories.{transactions_last, transactions_run}
use Rattle.graph_console.proofs.Keeping.{keeps_always}
use Rattle.graph_console.proofs.Recorded.{transactions_of}
use Rattle.graph_console.proofs.TakenSnapshots.{taken_since}
use Rattle.graph_console.proofs.lives.keeps_over_runs.Goals as goal

pub returns : goal.returns
returns g c = record {
  kept = λ reads images start shape disk events end stands happen.
      keeps_always g.D.Disk (record {
        reads = reads;
        images = images;
        read_is_image = λ of. g.met.D.Disk.read_is_image of reads images;
        only =
            g.met.D.Disk.only_now;
        counts = g.met.D.Disk.counts_now;
      }) start shape disk stands events end happen;
  events = λ options exit first last input left written serves. served g.D.Disk options first last exit input left written serves;
  recorded = λ told first run last live steps. transactions_of g.D.Disk.tells_reads told first run last live steps;
  transactions = λ first run last graphs made. (
    transactions_run g.D.Disk.tells_reads first run last graphs made,
    transactions_last g.D.Disk.tells_reads first
        run last graphs made,
  );
  snapshots = λ told first run last none steps reader graph sees. taken_since g.D.Disk.tells_reads told first run last none steps reader graph sees;
}
