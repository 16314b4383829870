use Rattle.std.proofs.Common.{◌≡◌, ◌+◌, ◌-◌, leb, not, ◌&&◌, ◌||◌, cond, ltb, length, get_or, drop, ◌∷◌, ap, ◌∙◌, sym, arith}
use Rattle.disk_model.specs.declared.call_log.KeptCall.TheVariants as kept
use Rattle.disk_model.specs.CallLog.{kept_covers, kept_syncs, kept_synced, kept_pending}
use Rattle.disk_model.specs.PlainDisk.{file_of, contents}
use Rattle.disk_model.proofs.Fills.{drop_before, fill_both, kept_pending-before}
use Rattle.disk_model.proofs.ReadFiles.{same_room}
use Rattle.disk_model.proofs.call_log.fill_pending.Goals as goal

pub loop-i-preserved : goal.loop-i-preserved
loop-i-preserved c =
    let calls = c.args.calls.now in
    let i = c.loop-i.i in
    let call = get_or calls (i - 1) (kept.Wrote 0 0 0 0) in
    let later = drop i calls in
    let old = c.args.files.now in
    let byte = c.args.byte in
    let more : drop (i - 1) calls ≡ call ∷ later = drop_before calls i (kept.Wrote 0 0 0 0) c.loop-i-test.true c.loop-i.invariant.within in
    let whole : (i - 1) + 1 ≡ i = omega (arith, c.loop-i-test.true) in
    record {
      within = omega arith;
      rooms = c.fill_call.ensures.rooms ∙ c.loop-i.invariant.rooms;
      synced = λ file. c.fill_call.ensures.synced file ∙ ap (λ s. kept_syncs call file || s) (c.loop-i.invariant.synced file)
          ∙ sym (ap (λ cs. kept_synced cs file) more);
      bytes = λ file place.
          let n = contents c.args.pokes.now file place in
          let old_file = file_of old file in
          let was = contents old file place in
          let here = kept_covers call file place && not (kept_synced later file) in
          let before : kept_pending (drop (n - (i - 1)) (call ∷ later)) file place ≡ (kept_pending (drop (n - i) later) file place || (here && leb n (i - 1))) =
          kept_pending-before call later n (i - 1) file place
          ∙ ap (λ k. kept_pending (drop (n - k) later) file place || (here && leb n (i - 1))) whole in
          c.fill_call.ensures.bytes file place
          ∙ ap (λ s. cond (((kept_covers call file place && not s) && leb n (i - 1)) && ltb place (length (file_of c.loop-i.files file))) byte
          (contents c.loop-i.files file place)) (c.loop-i.invariant.synced file)
          ∙ ap (λ m. cond ((here && leb n (i - 1)) && ltb place m) byte (contents c.loop-i.files file place))
          (same_room c.loop-i.files old file c.loop-i.invariant.rooms)
          ∙ ap (λ x. cond ((here && leb n (i - 1)) && ltb place (length old_file)) byte x) (c.loop-i.invariant.bytes file place)
          ∙ fill_both (here && leb n (i - 1)) (kept_pending (drop (n - i) later) file place) (ltb place (length old_file)) byte was
          ∙ sym (ap (λ b. cond (b && ltb place (length old_file)) byte was) (ap (λ cs. kept_pending (drop (n - (i - 1)) cs) file place) more ∙ before));
    }
