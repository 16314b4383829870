use Rattle.std.proofs.Common.{◌≡◌, ◌≤◌, ◌<◌, ℕ}
use Rattle.disk_model.specs.Generator.{state_after}
use Rattle.disk_model.specs.Marks.{is_marked_in, with_draws}
use Rattle.disk_model.specs.Places.{count_in_files}
use Rattle.disk_model.specs.PlainDisk.{file_of, rooms_of, contents}
use Rattle.disk_model.proofs.marks.draw_marked.Given as goal

abbrev pub invariant-loop-i : goal.invariant-loop-i
invariant-loop-i l =
    record {
      state : l.generator ≡ state_after l.seed (count_in_files (is_marked_in l.marks) l.marks l.i);
      rooms : rooms_of l.files ≡ rooms_of l.fn.files;
      done : (file : ℕ) → file < l.i → (place : ℕ) → contents l.files file place ≡ with_draws l.seed l.marks (contents l.fn.files) file place;
      rest : (file : ℕ) → l.i ≤ file → file_of l.files file ≡ file_of l.fn.files file;
    }
