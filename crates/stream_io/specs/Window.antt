-- The window of a buffer that a reader's bytes lie in.
use Rattle.std.specs.Prelude.{ℕ, ◌≡◌, ◌≤◌, List, length, slice_range}
use Rattle.stream_io.specs.Answers.{IsPiece}
use Rattle.stream_io.specs.declared.window.Window.{Window}

-- the bytes that a window holds
abbrev pub held_bytes : Window → List ℕ
held_bytes w = slice_range w.buffer.items w.start w.end

-- The bytes lie from start to end, and no newline stands before searched.
pub record IsInOrder (w : Window) : Type 0 where
  pub size : length w.buffer.items ≡ 81920
  pub start_order : w.start ≤ w.searched
  pub searched_order : w.searched ≤ w.end
  pub within : w.end ≤ 81920
  pub no_newline : IsPiece (slice_range w.buffer.items w.start w.searched)
