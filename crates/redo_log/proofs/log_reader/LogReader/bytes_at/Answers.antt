use Rattle.std.proofs.Common.{◌≡◌, ℕ, ◌-◌, ◌+◌, take, drop, arith, sym, subst, ap, ◌∙◌}
use Rattle.redo_log.specs.Reading.{Piece, IsPieceOf, Covers}
use Rattle.redo_log.proofs.LogBytes.{kept_part}
use Rattle.redo_log.proofs.log_reader.LogReader.bytes_at.Goals as goal

pub returns-clause-bytes : goal.returns-clause-bytes
returns-clause-bytes c = λ content held.
    let r = c.self.inside in
    let covers = subst (λ (p : Piece). Covers p c.args.at c.args.len) (sym c.self.view_is) c.requires in
    let kept = subst (λ (p : Piece). IsPieceOf content p) (sym c.self.view_is) held in
    let n : c.args.at - r.start + c.args.len - (c.args.at - r.start) ≡ c.args.len = omega arith in
    ap (λ (k : ℕ). take k (drop (c.args.at - r.start) r.bytes)) n ∙ kept_part content r.start r.len r.bytes c.args.at c.args.len kept covers.begins covers.ends
    (omega arith)
