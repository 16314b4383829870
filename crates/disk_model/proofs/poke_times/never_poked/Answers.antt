use Rattle.std.proofs.Common.{◌≡◌, [], ◌∷◌, ◌++◌, length, get_or, replicate, ap, ◌∙◌, sym, subst}
use Rattle.std.proofs.lemmas.List.{map_more, length-replicate}
use Rattle.disk_model.specs.PlainDisk.{rooms_of, AllZeros}
use Rattle.disk_model.proofs.Files.{rooms_of-push, AllZeros-push}
use Rattle.disk_model.proofs.poke_times.never_poked.Goals as goal

pub loop-file-preserved : goal.loop-file-preserved
loop-file-preserved c =
    let files = c.args.files.now in
    let i = c.loop-file.file-index in
    let pokes = c.loop-file.pokes.items in
    let room = c.room.result in
    let pushed : c.push.new.self.items ≡ pokes ++ replicate room 0 ∷ [] = c.in_ok-push.ensures.items ∙ ap (λ f. pokes ++ f ∷ []) c.in_ok-never.ensures in
    let is : length (replicate room 0) ≡ length (get_or files i c.file-item.result) = length-replicate room 0 ∙ c.room.ensures ∙ ap length c.file-item.is in
    record {
      rooms =
          ap rooms_of pushed
          ∙ rooms_of-push pokes (replicate room 0)
          ∙ ap (λ n. rooms_of pokes ++ n ∷ []) is
          ∙ ap (λ rooms. rooms ++ length (get_or files i c.file-item.result) ∷ []) c.loop-file.invariant.rooms
          ∙ sym (map_more length files i c.file-item.result c.loop-file-test.true);
      zeros = subst AllZeros (sym pushed) (AllZeros-push pokes room c.loop-file.invariant.zeros);
    }
