-- How a reader of lines lies in its buffer.
use Rattle.std.specs.Prelude.{◌-◌, ◌^◌, ◌≤◌, slice_range}
use Rattle.stream_io.specs.Reading.{Reading}
use Rattle.stream_io.specs.Window.{held_bytes, IsInOrder}
use Rattle.stream_io.specs.declared.line_reader.LineReader.TheInside.{Inside}

abbrev pub reading_of : Inside → Reading
reading_of r = record {
  held = held_bytes r.window;
  line = slice_range r.window.buffer.items r.line_start r.line_end;
  taken = r.taken;
  ended = r.ended;
}

pub record IsRight (r : Inside) : Type 0 where
  pub window : IsInOrder r.window
  pub line_order : r.line_start ≤ r.line_end
  pub line_within : r.line_end ≤ 81920
  pub held_counted : r.window.end - r.window.start ≤ r.taken
  pub limit : r.taken ≤ 2 ^ 30
