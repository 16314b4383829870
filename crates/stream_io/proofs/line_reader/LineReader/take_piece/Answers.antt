use Rattle.std.proofs.Common.{◌+◌, inl, inr, arith, sym, ◌∙◌, ap, subst}
use Rattle.std.specs.List.{slice_range}
use Rattle.stream_io.specs.Answers.{IsPiece}
use Rattle.stream_io.specs.Lines.{Whole}
use Rattle.stream_io.specs.Reading.{Reading}
use Rattle.stream_io.proofs.Ranges.{none_held, piece_held, split_held, take-range_held}
use Rattle.stream_io.proofs.line_reader.LineReader.take_piece.Goals as goal

pub invariant_of-self : goal.invariant_of-self
invariant_of-self c =
    let i = c.self.invariant.window in
    record {
      window = record {
        size = i.size;
        start_order = omega arith;
        searched_order = omega arith;
        within = i.within;
        no_newline = none_held c.self.inside.window.buffer.items _ _ _ i.start_order i.searched_order i.no_newline
            (rw c.deref.ensures.value at c.in_default.ensures.none);
      };
      line_order = c.self.invariant.line_order;
      line_within = c.self.invariant.line_within;
      held_counted = c.self.invariant.held_counted;
      limit = c.self.invariant.limit;
    }

pub returns-in_default-clause-none : goal.returns-in_default-clause-none
returns-in_default-clause-none c =
    let i = c.self.invariant.window in (
      subst IsPiece (ap (λ (r : Reading). r.held) c.self.view_is) (none_held c.self.inside.window.buffer.items _ _ _ i.start_order i.searched_order i.no_newline
          (rw c.deref.ensures.value at c.in_default.ensures.none)),
      c.self.view_is,
    )

pub returns-in-Some-line_length-clause-taken : goal.returns-in-Some-line_length-clause-taken
returns-in-Some-line_length-clause-taken c =
    let i = c.self.invariant.window in
    let found = rw c.deref.ensures.value at c.in-Some.ensures.found in
    let within = rw c.deref.ensures.value at c.in-Some.ensures.within in
    let xs = c.self.inside.window.buffer.items in
    record {
      piece = slice_range xs c.self.inside.window.start (c.self.inside.window.searched + c.in-Some.at);
      no_newline = piece_held xs _ _ _ i.start_order i.searched_order i.no_newline _ within found.0 found.1;
      split = sym (ap (λ (r : Reading). r.held) c.self.view_is) ∙ split_held xs _ _ _ i.start_order i.searched_order i.no_newline _ within found.0 found.1;
      is_found = (
        c.if-not-dropped.true,
        (rw c.deref-2.ensures.value at c.in-Some-line_length.ensures.whole) ∙ ap Whole (take-range_held xs _ _ _
            (rw c.deref-2.ensures.value at c.in-Some-line_length.ensures.within)),
      );
      taken = ap (λ (r : Reading). r.taken) c.self.view_is;
      ended = ap (λ (r : Reading). r.ended) c.self.view_is;
    }

pub returns-in_default-line_length-clause-taken : goal.returns-in_default-line_length-clause-taken
returns-in_default-line_length-clause-taken c =
    let i = c.self.invariant.window in
    let found = rw c.deref.ensures.value at c.in-Some.ensures.found in
    let within = rw c.deref.ensures.value at c.in-Some.ensures.within in
    let xs = c.self.inside.window.buffer.items in
    record {
      piece = slice_range xs c.self.inside.window.start (c.self.inside.window.searched + c.in-Some.at);
      no_newline = piece_held xs _ _ _ i.start_order i.searched_order i.no_newline _ within found.0 found.1;
      split = sym (ap (λ (r : Reading). r.held) c.self.view_is) ∙ split_held xs _ _ _ i.start_order i.searched_order i.no_newline _ within found.0 found.1;
      is_found = inl c.if-not-dropped.false;
      taken = ap (λ (r : Reading). r.taken) c.self.view_is;
      ended = ap (λ (r : Reading). r.ended) c.self.view_is;
    }

pub returns-in_default-line_length-2-clause-taken : goal.returns-in_default-line_length-2-clause-taken
returns-in_default-line_length-2-clause-taken c =
    let i = c.self.invariant.window in
    let found = rw c.deref.ensures.value at c.in-Some.ensures.found in
    let within = rw c.deref.ensures.value at c.in-Some.ensures.within in
    let xs = c.self.inside.window.buffer.items in
    record {
      piece = slice_range xs c.self.inside.window.start (c.self.inside.window.searched + c.in-Some.at);
      no_newline = piece_held xs _ _ _ i.start_order i.searched_order i.no_newline _ within found.0 found.1;
      split = sym (ap (λ (r : Reading). r.held) c.self.view_is) ∙ split_held xs _ _ _ i.start_order i.searched_order i.no_newline _ within found.0 found.1;
      is_found = inr (rw c.deref-2.ensures.value at c.in_default-line_length.ensures.long);
      taken = ap (λ (r : Reading). r.taken) c.self.view_is;
      ended = ap (λ (r : Reading). r.ended) c.self.view_is;
    }
