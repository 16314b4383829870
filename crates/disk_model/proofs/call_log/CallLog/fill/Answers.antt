use Rattle.std.proofs.Common.{◌&&◌, ap, ◌∙◌, sym, ltb, length, drop, cond, ◌≡◌}
use Rattle.std.proofs.lemmas.List.{drop-map}
use Rattle.disk_model.specs.Calls.{is_pending, pending_since}
use Rattle.disk_model.specs.CallLog.{call_of, kept_pending, CallLogState, IsKeptWithin}
use Rattle.disk_model.specs.PlainDisk.{file_of, contents}
use Rattle.disk_model.proofs.Fills.{kept_pending-is}
use Rattle.disk_model.proofs.ReadFiles.{all-drop}
use Rattle.disk_model.proofs.call_log.CallLog.fill.Goals as goal

pub returns-clause-bytes : goal.returns-clause-bytes
returns-clause-bytes c file place =
    let log = c.self.inside in
    let pokes = c.args.pokes.now in
    let n = contents pokes file place in
    let within = all-drop (IsKeptWithin (length log.bytes.items)) n log.calls.items c.self.invariant.0.within in
    let here : kept_pending (drop n c.deref.result.now) file place ≡ pending_since (contents pokes) c.args.self.now.calls file place =
    ap (λ calls. kept_pending (drop n calls) file place) c.deref.ensures.value
    ∙ kept_pending-is (drop n log.calls.items) log.bytes.items file place within
    ∙ ap (λ calls. is_pending calls file place) (sym (drop-map (call_of log.bytes.items) n log.calls.items))
    ∙ ap (λ (l : CallLogState). pending_since (contents pokes) l.calls file place) c.self.view_is in
    c.fill_pending.ensures.bytes file place
    ∙ ap (λ pending. cond (pending && ltb place (length (file_of c.args.files.now file))) c.args.byte (contents c.args.files.now file place)) here
