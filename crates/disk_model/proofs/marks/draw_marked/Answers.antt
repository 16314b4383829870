use Rattle.std.proofs.Common.{◌≡◌, ◌≢◌, ◌<◌, ◌%◌, [], length, cond, get_or, ap, ◌∙◌, sym, arith, add-one, below_more, get_or-set_other, get_or-set_same}
use Rattle.std.proofs.lemmas.List.{get_or_default, get_or_read}
use Rattle.std.proofs.Math.Seq.{map-set_same}
use Rattle.disk_model.specs.Generator.{drawn, state_after}
use Rattle.disk_model.specs.Marks.{is_marked, is_marked_in}
use Rattle.disk_model.specs.Places.{count_below, count_in_files, count_before}
use Rattle.disk_model.specs.PlainDisk.{file_of}
use Rattle.disk_model.proofs.Draws.{state_after-state_after, drawn-state_after}
use Rattle.disk_model.proofs.ReadFiles.{same_room-read, same_count}
use Rattle.disk_model.proofs.marks.draw_marked.Goals as goal

pub draw_marked-requires : goal.draw_marked-requires
draw_marked-requires c =
    let count = same_count c.args.marks.now c.args.files.now c.requires in
    same_room-read c.args.marks.now c.loop-i.files c.loop-i.i c.index-marks-i.result c.index-files-i.result (c.requires ∙ sym c.loop-i.invariant.rooms)
    (omega arith) (omega arith) c.index-marks-i.is

pub loop-i-preserved : goal.loop-i-preserved
loop-i-preserved c =
    let i = c.loop-i.i in
    let seed = c.args.seed in
    let files = c.loop-i.files in
    let marks = c.args.marks.now in
    let mark = c.index-marks-i.result in
    let new = c.draw_marked.new.self in
    let before = count_in_files (is_marked_in marks) marks i in
    let old = c.loop-i.invariant in
    let count = same_count marks c.args.files.now c.requires in
    let known : i < length files = omega arith in
    let mark_is : mark ≡ file_of marks i = get_or_read marks i mark (omega arith) c.index-marks-i.is [] in
    let file_is : get_or files i c.index-files-i.result ≡ file_of c.args.files.now i = get_or_default files i c.index-files-i.result [] known
    ∙ old.rest i (omega arith) in
    record {
      state =
          c.draw_marked.ensures.draws
          ∙ ap (λ m. state_after c.loop-i.generator (count_below (is_marked m) (length m))) mark_is
          ∙ ap (λ state. state_after state (count_below (is_marked_in marks i) (length (file_of marks i)))) old.state
          ∙ state_after-state_after seed before (count_below (is_marked_in marks i) (length (file_of marks i)))
          ∙ ap (λ k. state_after seed (count_in_files (is_marked_in marks) marks k)) (sym (add-one i));
      rooms = map-set_same length files i new c.index-files-i.result c.draw_marked.ensures.room ∙ old.rooms;
      done = below_more _ _
          (λ file below place. let differs : file ≢ i = omega arith in ap (λ f. get_or f place 0) (get_or-set_other files i file new [] differs) ∙ old.done file
          below place)
          (λ place.
          let draw = count_below (is_marked_in marks i) place in
          ap (λ f. get_or f place 0) (get_or-set_same files i new [] known)
          ∙ c.draw_marked.ensures.bytes place
          ∙ ap (λ m. cond (is_marked m place) (drawn c.loop-i.generator (count_below (is_marked m) place) % 256) (get_or (get_or files i c.index-files-i.result)
          place 0)) mark_is
          ∙ ap (λ n. cond (is_marked_in marks i place) (n % 256) (get_or (get_or files i c.index-files-i.result) place 0))
          (ap (λ state. drawn state draw) old.state ∙ drawn-state_after seed before draw)
          ∙ ap (λ f. cond (is_marked_in marks i place) (drawn seed (count_before (is_marked_in marks) marks i place) % 256) (get_or f place 0)) file_is);
      rest = λ file above. let differs : file ≢ i = omega arith in get_or-set_other files i file new [] differs ∙ old.rest file (omega arith);
    }
