use Rattle.std.proofs.Common.{◌≡◌, ◌+◌, ◌-◌, ◌<◌, [], ◌∷◌, ℕ, cond, length, get_or, drop, ap, add-one, ◌∙◌, sym, arith}
use Rattle.std.proofs.lemmas.List.{drop_all}
use Rattle.std.proofs.Math.Seq.{drop-cons}
use Rattle.disk_model.specs.declared.call_log.KeptCall.TheVariants as kept
use Rattle.disk_model.specs.Calls.{synced_content}
use Rattle.disk_model.specs.CallLog.{calls_of, kept_syncs, sync_count}
use Rattle.disk_model.specs.PlainDisk.{contents}
use Rattle.disk_model.proofs.Lays.{fits-at, lay-step, add_cancel_left}
use Rattle.disk_model.proofs.call_log.lay_all.Goals as goal

pub lay_call-requires-clause-fits : goal.lay_call-requires-clause-fits
lay_call-requires-clause-fits c = fits-at c.loop-i.files c.args.files.now c.args.bytes.now c.args.calls.now c.loop-i.i (kept.Wrote 0 0 0 0) (omega arith)
    c.loop-i.invariant.rooms c.requires.fits

pub loop-i-preserved : goal.loop-i-preserved
loop-i-preserved c =
    let calls = c.args.calls.now in
    let bytes = c.args.bytes.now in
    let i = c.loop-i.i in
    let call = get_or calls i (kept.Wrote 0 0 0 0) in
    let later = drop (i + 1) calls in
    let below : i < length calls = omega arith in
    let more : drop i calls ≡ call ∷ later = drop-cons calls i (kept.Wrote 0 0 0 0) below ∙ ap (λ k. call ∷ drop k calls) (sym (add-one i)) in
    let counts = λ (file : ℕ). add_cancel_left (cond (kept_syncs call file) 1 0) (get_or c.lay_call.new.counts file 0) (sync_count later file)
    (sym (c.lay_call.ensures.counts file) ∙ c.loop-i.invariant.counts file ∙ ap (λ cs. sync_count cs file) more) in
    record {
      rooms = c.lay_call.ensures.rooms ∙ c.loop-i.invariant.rooms;
      counts = counts;
      bytes = λ file place.
          let n = contents c.args.pokes.now file place in
          lay-step call later bytes i n (contents c.loop-i.files) (contents c.lay_call.new.files) (λ f. get_or c.lay_call.new.counts f 0) file place counts
          (c.lay_call.ensures.bytes file place)
          ∙ sym (ap (λ cs. synced_content (contents c.loop-i.files) (drop (n - i) (calls_of cs bytes)) file place) more)
          ∙ c.loop-i.invariant.bytes file place;
    }

pub returns-clause-bytes : goal.returns-clause-bytes
returns-clause-bytes c file place =
    let n = contents c.args.pokes.now file place in
    let i = c.loop-i.i in
    let none : drop i c.args.calls.now ≡ [] = drop_all i c.args.calls.now (omega arith) in
    sym (ap (λ cs. synced_content (contents c.loop-i.files) (drop (n - i) (calls_of cs c.args.bytes.now)) file place) none
    ∙ ap (λ cs. synced_content (contents c.loop-i.files) cs file place) (drop_all (n - i) [] (omega arith)))
    ∙ c.loop-i.invariant.bytes file place
