use Rattle.std.proofs.Common.{◌≡◌, ◌≤◌, ◌<◌, ◌%◌, ℕ, cond, get_or}
use Rattle.disk_model.specs.Generator.{drawn, state_after}
use Rattle.disk_model.specs.Marks.{is_marked}
use Rattle.disk_model.specs.Places.{count_below}
use Rattle.disk_model.proofs.plain_file.draw_bytes.Given as goal

abbrev pub invariant-loop-i : goal.invariant-loop-i
invariant-loop-i l =
    record {
      state : l.generator ≡ state_after l.fn.generator (count_below (is_marked l.marks) l.i);
      done : (k : ℕ) → k < l.i → get_or l.bytes k 0 ≡ cond (is_marked l.marks k) (drawn l.fn.generator (count_below (is_marked l.marks) k) % 256)
          (get_or l.fn.bytes k 0);
      rest : (k : ℕ) → l.i ≤ k → get_or l.bytes k 0 ≡ get_or l.fn.bytes k 0;
    }
