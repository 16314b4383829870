use Rattle.std.proofs.Common.{ℕ, List, ◌-◌, length, sym, ◌∙◌, ap, subst, arith}
use Rattle.std.specs.List.{slice_range}
use Rattle.std.proofs.lemmas.List.{with_items_is}
use Rattle.stream_io.specs.Answers.{IsPiece}
use Rattle.stream_io.proofs.Growth.{moved_no_newline}
use Rattle.stream_io.proofs.window.Window.make_room.Goals as goal

pub returns-then-self-lt-READ_BYTES-clause-order : goal.returns-then-self-lt-READ_BYTES-clause-order
returns-then-self-lt-READ_BYTES-clause-order c =
    let o = c.requires.order in
    let moved = rw c.deref_mut.ensures.value at c.move_to_front.ensures in
    let items = with_items_is c.args.self.now.buffer c.move_to_front.new.buffer (c.move_to_front.auto.buffer ∙ c.deref_mut.ensures.len) in
    record {
      size = ap length items ∙ c.move_to_front.auto.buffer ∙ ap length c.deref_mut.ensures.value ∙ o.size;
      start_order = omega arith;
      searched_order = omega (arith, o.start_order, o.searched_order);
      within = omega (arith, o.within);
      no_newline = subst (λ (zs : List ℕ). IsPiece (slice_range zs 0 (c.args.self.now.searched - c.args.self.now.start))) (sym items)
          (moved_no_newline c.args.self.now o c.move_to_front.new.buffer moved);
    }
