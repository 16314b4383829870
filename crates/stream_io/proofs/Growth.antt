-- A reader's buffer after its bytes were moved to the front, and after bytes came behind them.
use Rattle.std.proofs.Common.{◌≡◌, ℕ, ◌+◌, ◌-◌, ◌≤◌, List, ◌++◌, take, drop, sym, ◌∙◌, ap, subst, arith}
use Rattle.std.specs.List.{slice_range}
use Rattle.stream_io.specs.Answers.{IsPiece}
use Rattle.stream_io.specs.Window.{IsInOrder}
use Rattle.stream_io.specs.declared.window.Window.{Window}
use Rattle.stream_io.proofs.Ranges.{take-range, range_joined, range_same}

-- Bytes moved from the range of the old buffer to the front of the new one: so is each front of that range.
moved_front : (xs ys : List ℕ) (start end n : ℕ) → n ≤ end - start → slice_range ys 0 (end - start) ≡ slice_range xs start end
    → slice_range ys 0 n ≡ slice_range xs start (start + n)
moved_front xs ys start end n le moved =
    let from_zero : 0 + n ≡ n = omega arith in
    ap (slice_range ys 0) (sym from_zero) ∙ sym (take-range ys 0 (end - start) n (omega arith)) ∙ ap (take n) moved ∙ take-range xs start end n le

module _ (r : Window) (order : IsInOrder r) where
  pub moved_no_newline : (ys : List ℕ) → slice_range ys 0 (r.end - r.start) ≡ slice_range r.buffer.items r.start r.end
      → IsPiece (slice_range ys 0 (r.searched - r.start))
  moved_no_newline ys moved =
      let o = order in
      let within : r.searched - r.start ≤ r.end - r.start = omega (arith, o.start_order, o.searched_order) in
      let searched : r.start + (r.searched - r.start) ≡ r.searched = omega (arith, o.start_order) in
      subst IsPiece (ap (slice_range r.buffer.items r.start) (sym searched) ∙ sym (moved_front r.buffer.items ys r.start r.end (r.searched - r.start)
      within moved)) o.no_newline

  module _ (ys : List ℕ) (same : take r.end ys ≡ take r.end r.buffer.items) where
    pub grown_no_newline : IsPiece (slice_range ys r.start r.searched)
    grown_no_newline = subst IsPiece (sym (range_same ys r.buffer.items r.start r.searched r.end order.start_order order.searched_order same)) order.no_newline

    order_of_ends : r.start ≤ r.end
    order_of_ends = omega (arith, order.start_order, order.searched_order)

    pub same_held : slice_range ys r.start r.end ≡ slice_range r.buffer.items r.start r.end
    same_held = range_same ys r.buffer.items r.start r.end r.end order_of_ends (omega arith) same

    pub grown_held : (n : ℕ) → slice_range ys r.start (r.end + n) ≡ slice_range r.buffer.items r.start r.end ++ take n (drop r.end ys)
    grown_held n =
        let count : r.end + n - r.end ≡ n = omega arith in
        sym (range_joined ys r.start r.end (r.end + n) order_of_ends (omega arith))
        ∙ ap (λ (zs : List ℕ). zs ++ slice_range ys r.end (r.end + n)) same_held
        ∙ ap (λ (k : ℕ). slice_range r.buffer.items r.start r.end ++ take k (drop r.end ys)) count
