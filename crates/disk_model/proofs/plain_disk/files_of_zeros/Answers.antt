use Rattle.std.proofs.Common.{◌≡◌, ℕ, ◌+◌, List, [], ◌∷◌, ◌++◌, length, get_or, replicate, ap, ◌∙◌, sym, subst, arith}
use Rattle.std.proofs.Math.Seq.{take-suc}
use Rattle.std.specs.Prelude.{suc, take}
use Rattle.std.proofs.lemmas.List.{length-replicate}
use Rattle.disk_model.specs.Contents.{number_of_files}
use Rattle.disk_model.specs.PlainDisk.{rooms_of, AllZeros}
use Rattle.disk_model.proofs.Files.{rooms_of-push, AllZeros-push}
use Rattle.disk_model.proofs.plain_disk.files_of_zeros.Goals as goal

pub loop-room-preserved : goal.loop-room-preserved
loop-room-preserved c =
    let rooms : List ℕ = c.rooms-room-items.result in
    let i = c.loop-room.room-index in
    let files = c.loop-room.files.items in
    let room = get_or rooms i 0 in
    let pushed : c.push.new.self.items ≡ files ++ replicate room 0 ∷ [] = c.in_ok-push.ensures.items ∙ ap (λ f. files ++ f ∷ []) c.in_ok-zeros.ensures in
    let next : suc i ≡ i + 1 = omega arith in
    let count : length rooms ≡ number_of_files = ap length c.rooms-room-items.ensures in
    record {
      rooms =
          ap rooms_of pushed
          ∙ rooms_of-push files (replicate room 0)
          ∙ ap (λ n. rooms_of files ++ n ∷ []) (length-replicate room 0)
          ∙ ap (λ done. done ++ room ∷ []) c.loop-room.invariant.rooms
          ∙ sym (take-suc rooms i 0 (omega (arith, count, c.loop-room-test.true)))
          ∙ ap (λ n. take n rooms) next;
      zeros = subst AllZeros (sym pushed) (AllZeros-push files room c.loop-room.invariant.zeros);
    }
