use Rattle.std.proofs.Common.{◌≡◌, ◌<◌, length}
use Rattle.std.specs.List.{All}
use Rattle.rec_bytes.specs.Format.{nil}
use Rattle.store_rules.specs.Views.{rec_at}
use Rattle.record_lists.proofs.LineLaws.{IsPath}
use Rattle.rec_bytes.specs.Frame.{IsRead}
use Rattle.record_lists.proofs.line.follow.Given as goal

-- what was met so far
abbrev pub invariant-loop : goal.invariant-loop
invariant-loop g l =
    let records = (g.R.Reads.state l.fn.space).records in
    let kind = g.L.Line.kind l.line in
    record {
      read : IsRead g.R.Reads l.fn.space l.space;
      low : All (λ x. x < l.high) l.ids.items;
      count : length l.ids.items ≡ l.counter;
      path : g.R.Reads.tells → IsPath (λ x. kind.next (rec_at records kind.file x)) (λ before x. kind.fits before x (rec_at records kind.file x)) l.high nil
          l.first l.ids.items l.before l.at;
    }
