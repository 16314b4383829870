use Rattle.std.proofs.Common.{◌≡◌, ap, ◌∙◌, subst, sym, IfErr, OnOk, arith, ℕ, ◌<◌}
use Rattle.rec_bytes.specs.declared.meta.Meta.{Meta}
use Rattle.rec_bytes.specs.declared.shape.Shape.{Shape}
use Rattle.rec_bytes.specs.RecordFiles.{room_of}
use Rattle.rec_bytes.specs.RowFault.{NotDamaged}
use Rattle.store_rules.specs.Views.{high, rec_at}
use Rattle.row_store.specs.Loading.{IsKnown, IsRowDamage, IsRowFault, mark_damage}
use Rattle.row_store.specs.Loading.IsRowDamage.{HighMark}
use Rattle.row_store.proofs.UnknownKinds.{fault-read_row, known-read_row, sound-read_row}
use Rattle.row_store.proofs.loading.load.Goals as goal

pub returns-then-id-room_of-clause-damaged : goal.returns-then-id-room_of-clause-damaged
returns-then-id-room_of-clause-damaged g c = λ tells.
    let s = g.R.Reads.state c.args.space.now in
    let mark : c.meta.result.high ≡ high s.records c.FILE-file.result = ap (λ (m : Meta). m.high) c.meta.ensures in
    let room : c.room_of.result ≡ room_of s.shape c.FILE-file.result = c.room_of.ensures
    ∙ ap (λ (shape : Shape). room_of shape c.FILE-file.result) c.shape.ensures.is in
    let above : room_of s.shape c.FILE-file.result < high s.records c.FILE-file.result = omega arith in
    subst (λ (f : ℕ). IsRowDamage g.T.Row.FILE s c.args.id (mark_damage f)) (sym c.FILE-file.ensures)
    (HighMark (subst (λ (f : ℕ). room_of s.shape f < high s.records f) c.FILE-file.ensures above))

pub returns-in-Ok-clause-damaged : goal.returns-in-Ok-clause-damaged
returns-in-Ok-clause-damaged g c = λ tells.
    let s = g.R.Reads.state c.args.space.now in
    let mark : c.meta.result.high ≡ high s.records c.FILE-file.result = ap (λ (m : Meta). m.high) c.meta.ensures in
    let low = subst (λ (f : ℕ). c.args.id < high s.records f) c.FILE-file.ensures (omega arith) in
    let there = subst (λ (f : ℕ). c.get_into.new.rec ≡ rec_at s.records f c.args.id) c.FILE-file.ensures (c.in-Ok.ensures.got tells) in
    subst (λ r. IfErr r (IsRowFault g.T.Row.FILE s c.args.id)) (sym c.read_row.ensures)
    (fault-read_row g.T.Row g.met.T.Row.no_kind g.met.T.Row.own_kind g.met.T.Row.in_reused s c.args.id c.get_into.new.rec low there)

pub returns-in-Ok-clause-known : goal.returns-in-Ok-clause-known
returns-in-Ok-clause-known g c = λ tells.
    let s = g.R.Reads.state c.args.space.now in
    let room : c.room_of.result ≡ room_of s.shape c.FILE-file.result = c.room_of.ensures
    ∙ ap (λ (shape : Shape). room_of shape c.FILE-file.result) c.shape.ensures.is in
    let low = subst (λ (f : ℕ). c.args.id < room_of s.shape f) c.FILE-file.ensures (omega arith) in
    let there = subst (λ (f : ℕ). c.get_into.new.rec ≡ rec_at s.records f c.args.id) c.FILE-file.ensures (c.in-Ok.ensures.got tells) in
    subst (λ r. OnOk r (IsKnown g.T.Row.FILE s c.args.id)) (sym c.read_row.ensures)
    (known-read_row g.T.Row g.met.T.Row.no_kind g.met.T.Row.own_kind g.met.T.Row.in_reused s c.args.id c.get_into.new.rec low there)

pub returns-in-Ok-clause-not_damaged : goal.returns-in-Ok-clause-not_damaged
returns-in-Ok-clause-not_damaged g c = λ tells right.
    let s = g.R.Reads.state c.args.space.now in
    let mark : c.meta.result.high ≡ high s.records c.FILE-file.result = ap (λ (m : Meta). m.high) c.meta.ensures in
    let low = subst (λ (f : ℕ). c.args.id < high s.records f) c.FILE-file.ensures (omega arith) in
    let there = subst (λ (f : ℕ). c.get_into.new.rec ≡ rec_at s.records f c.args.id) c.FILE-file.ensures (c.in-Ok.ensures.got tells) in
    subst (λ r. NotDamaged r) (sym c.read_row.ensures)
    (sound-read_row g.T.Row g.met.T.Row.no_kind g.met.T.Row.own_kind g.met.T.Row.in_reused s c.args.id c.get_into.new.rec low there right)
