use Rattle.std.proofs.Common.{◌≡◌, ℕ, List, ◌+◌, ◌-◌, ◌≤◌, length, take, drop, sym, ◌∙◌, ap, subst, arith, length-drop, min, ◌++◌, Result, Ok, Err, OnErr}
use Rattle.std.specs.List.{slice_range}
use Rattle.std.proofs.lemmas.List.{with_items_is, length-take}
use Rattle.stream_io.specs.Answers.{IsPiece}
use Rattle.stream_io.proofs.Growth.{grown_no_newline, same_held, grown_held}
use Rattle.stream_io.proofs.window.Window.grow.Goals as goal

pub returns-in_err-count-clause-order : goal.returns-in_err-count-clause-order
returns-in_err-count-clause-order g c =
    let w = c.make_room.new.self in
    let o = c.make_room.ensures.order in
    let ys = c.read_into.new.buffer in
    let same = rw c.deref_mut.ensures.value at c.read_into.ensures.stays in
    let items = with_items_is w.buffer ys (c.read_into.auto.buffer ∙ c.deref_mut.ensures.len) in
    record {
      size = ap length items ∙ c.read_into.auto.buffer ∙ ap length c.deref_mut.ensures.value ∙ o.size;
      start_order = o.start_order;
      searched_order = o.searched_order;
      within = o.within;
      no_newline = subst (λ (zs : List ℕ). IsPiece (slice_range zs w.start w.searched)) (sym items) (grown_no_newline w o ys same);
    }

-- what holds anyhow holds after an error
at_error : {T E : Type 0} {P : Type 0} → (r : Result T E) → P → OnErr r P
at_error (Ok x) p = tt
at_error (Err e) p = p

pub returns-in_err-count-clause-held : goal.returns-in_err-count-clause-held
returns-in_err-count-clause-held g c =
    let w = c.make_room.new.self in
    let same = rw c.deref_mut.ensures.value at c.read_into.ensures.stays in
    let items = with_items_is w.buffer c.read_into.new.buffer (c.read_into.auto.buffer ∙ c.deref_mut.ensures.len) in
    at_error c.from_residual.result (
    ap (λ (zs : List ℕ). slice_range zs w.start w.end) items ∙ same_held w c.make_room.ensures.order c.read_into.new.buffer same ∙ c.make_room.ensures.held
    )

pub returns-clause-order : goal.returns-clause-order
returns-clause-order g c =
    let w = c.make_room.new.self in
    let o = c.make_room.ensures.order in
    let ys = c.read_into.new.buffer in
    let same = rw c.deref_mut.ensures.value at c.read_into.ensures.stays in
    let items = with_items_is w.buffer ys (c.read_into.auto.buffer ∙ c.deref_mut.ensures.len) in
    record {
      size = ap length items ∙ c.read_into.auto.buffer ∙ ap length c.deref_mut.ensures.value ∙ o.size;
      start_order = o.start_order;
      searched_order = omega (arith, o.searched_order);
      within = omega (arith, c.in_ok-count.ensures.count, c.min.ensures, c.make_room.ensures.room);
      no_newline = subst (λ (zs : List ℕ). IsPiece (slice_range zs w.start w.searched)) (sym items) (grown_no_newline w o ys same);
    }

pub returns-clause-grown : goal.returns-clause-grown
returns-clause-grown g c =
    let w = c.make_room.new.self in
    let o = c.make_room.ensures.order in
    let ys = c.read_into.new.buffer in
    let n = c.in_ok-count.count in
    let same = rw c.deref_mut.ensures.value at c.read_into.ensures.stays in
    let items = with_items_is w.buffer ys (c.read_into.auto.buffer ∙ c.deref_mut.ensures.len) in
    let size : length ys ≡ 81920 = c.read_into.auto.buffer ∙ ap length c.deref_mut.ensures.value ∙ o.size in
    let fits : n ≤ min c.args.wanted (81920 - w.end) = omega (arith, c.in_ok-count.ensures.count, c.min.ensures) in (
      omega (arith, fits),
      record {
        more = take n (drop w.end ys);
        count_is = omega (arith, length-take n (drop w.end ys), length-drop w.end ys, size, fits);
        held = ap (λ (zs : List ℕ). slice_range zs w.start (w.end + n)) items ∙ grown_held w o ys same n
            ∙ ap (λ (zs : List ℕ). zs ++ take n (drop w.end ys)) c.make_room.ensures.held;
        given = λ t. (c.in_ok-count.ensures.given t).0;
        at_end = λ t. (c.in_ok-count.ensures.given t).1;
      },
    )
