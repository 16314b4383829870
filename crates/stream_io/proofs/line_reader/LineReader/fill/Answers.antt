use Rattle.std.proofs.Common.{◌≡◌, ◌+◌, ◌-◌, length, ◌∙◌, ap, arith, length-append}
use Rattle.stream_io.proofs.Ranges.{length-range}
use Rattle.stream_io.specs.Window.{held_bytes}
use Rattle.stream_io.proofs.line_reader.LineReader.fill.Goals as goal

pub invariant_of-self-2 : goal.invariant_of-self-2
invariant_of-self-2 g c =
    let w = c.grow.new.self in
    let o = c.grow.ensures.order in
    let i = c.self.invariant in
    let old = c.self.inside.window in
    let grown = c.in_ok-count.ensures.grown.1 in
    let new_held : length (held_bytes w) ≡ w.end - w.start = length-range w.buffer.items w.start w.end (omega (arith, o.within, o.size)) in
    let old_held : length (held_bytes old) ≡ old.end - old.start = length-range old.buffer.items old.start old.end
    (omega (arith, i.window.within, i.window.size)) in
    let longer : length (held_bytes w) ≡ length (held_bytes old) + c.in_ok-count.count = ap length grown.held ∙ length-append (held_bytes old) grown.more
    ∙ ap (λ n. length (held_bytes old) + n) grown.count_is in
    record {
      window = o;
      line_order = i.line_order;
      line_within = i.line_within;
      held_counted = omega (arith, new_held, old_held, longer, i.held_counted);
      limit = omega (arith, c.in_ok-count.ensures.grown.0, i.limit);
    }
