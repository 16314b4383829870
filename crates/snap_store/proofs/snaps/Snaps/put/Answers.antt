use Rattle.std.proofs.Common.{◌≡◌, ◌+◌, ◌-◌, ◌<◌, None, ap, sym, ◌∙◌, subst, arith, length, refl}
use Rattle.rec_bytes.specs.Format.{most_kept}
use Rattle.rec_bytes.specs.Pairs.{find_pair}
use Rattle.snap_store.specs.Layers.{Layers, sees, total, youngest, with_kept}
use Rattle.snap_store.specs.Marks.{AreMarked}
use Rattle.snap_store.specs.Snaps.{Snapshots, layers_of}
use Rattle.snap_store.specs.Sums.{AreCovered, risen}
use Rattle.snap_store.proofs.HeldLaws.{length-layers_of, put_last, right_last, room_last, some_open}
use Rattle.snap_store.proofs.KeepingLaws.{none_of}
use Rattle.snap_store.proofs.LayerLaws.{sees-with_kept}
use Rattle.snap_store.proofs.MarkLaws.{marked_more}
use Rattle.snap_store.proofs.ShapeLaws.{covered-with_kept}
use Rattle.snap_store.proofs.snaps.Snaps.put.Goals as goal

pub put_reserved-requires-clause-room : goal.put_reserved-requires-clause-room
put_reserved-requires-clause-room c =
    let xs = c.self.inside.layers.items in
    let open_ones : length c.args.self.now.open_ones ≡ length xs = ap (λ (s : Snapshots). length s.open_ones) (sym c.self.view_is) ∙ length-layers_of xs in
    let size : length xs ≡ c.len-last.result - 1 + 1 = omega (
      arith,
      c.len-last.ensures,
      c.self.inside.layers.ok.0,
      some_open c.args.self.now.open_ones
          c.requires.«open»,
      open_ones,
    ) in
    room_last xs (c.len-last.result - 1) c.index_mut-layer.result.now size c.index_mut-layer.ensures.value c.self.invariant.right
    (subst (λ (s : Snapshots). total s.open_ones < most_kept) (sym c.self.view_is) c.requires.room)

pub invariant_of-self : goal.invariant_of-self
invariant_of-self c =
    let xs = c.self.inside.layers.items in
    let open_ones : length c.args.self.now.open_ones ≡ length xs = ap (λ (s : Snapshots). length s.open_ones) (sym c.self.view_is) ∙ length-layers_of xs in
    let size : length xs ≡ c.len-last.result - 1 + 1 = omega (
      arith,
      c.len-last.ensures,
      c.self.inside.layers.ok.0,
      some_open c.args.self.now.open_ones
          c.requires.«open»,
      open_ones,
    ) in
    record {
      right = right_last xs (c.len-last.result - 1) c.index_mut-layer.result.now _ c.args.key c.args.rec size c.index_mut-layer.ensures.value refl
          c.put_reserved.ensures.pairs c.put_reserved.ensures.room
          (subst (λ (s : Snapshots). find_pair (youngest s.open_ones) c.args.key ≡ None) (sym c.self.view_is)
          (none_of (find_pair (youngest c.args.self.now.open_ones) c.args.key) c.requires.absent))
          (subst (λ (s : Snapshots). total s.open_ones < most_kept) (sym c.self.view_is) c.requires.room) c.self.invariant.right;
      marked = subst (AreMarked c.set_mark.new.marks.items)
          (sym (put_last xs (c.len-last.result - 1) c.index_mut-layer.result.now _ c.args.key c.args.rec size c.index_mut-layer.ensures.value refl
          c.put_reserved.ensures.pairs))
          (marked_more c.self.inside.marks.items c.set_mark.new.marks.items (layers_of xs) c.args.key c.args.rec c.self.invariant.marked c.set_mark.ensures.own
          c.set_mark.ensures.others);
    }

pub returns-clause-kept : goal.returns-clause-kept
returns-clause-kept c =
    let xs = c.self.inside.layers.items in
    let open_ones : length c.args.self.now.open_ones ≡ length xs = ap (λ (s : Snapshots). length s.open_ones) (sym c.self.view_is) ∙ length-layers_of xs in
    let size : length xs ≡ c.len-last.result - 1 + 1 = omega (
      arith,
      c.len-last.ensures,
      c.self.inside.layers.ok.0,
      some_open c.args.self.now.open_ones
          c.requires.«open»,
      open_ones,
    ) in
    put_last xs (c.len-last.result - 1) c.index_mut-layer.result.now _ c.args.key c.args.rec size c.index_mut-layer.ensures.value refl
    c.put_reserved.ensures.pairs
    ∙ ap (λ (s : Snapshots). with_kept s.open_ones c.args.key c.args.rec) c.self.view_is

pub returns-clause-sights : goal.returns-clause-sights
returns-clause-sights c = λ reader committed is.
    let xs = c.self.inside.layers.items in
    let open_ones : length c.args.self.now.open_ones ≡ length xs = ap (λ (s : Snapshots). length s.open_ones) (sym c.self.view_is) ∙ length-layers_of xs in
    let size : length xs ≡ c.len-last.result - 1 + 1 = omega (
      arith,
      c.len-last.ensures,
      c.self.inside.layers.ok.0,
      some_open c.args.self.now.open_ones
          c.requires.«open»,
      open_ones,
    ) in
    let made = put_last xs (c.len-last.result - 1) c.index_mut-layer.result.now
    (record { reader = c.index_mut-layer.result.now.reader; set = c.put_reserved.new.self }) c.args.key c.args.rec size c.index_mut-layer.ensures.value refl
    c.put_reserved.ensures.pairs
    ∙ ap (λ (s : Snapshots). with_kept s.open_ones c.args.key c.args.rec) c.self.view_is in
    ap (λ (ls : Layers). sees ls reader committed) made
    ∙ (λ i q. sees-with_kept c.args.self.now.open_ones c.args.key c.args.rec reader committed q is (none_of (find_pair (youngest c.args.self.now.open_ones)
    c.args.key) c.requires.absent) i)

pub returns-clause-covered : goal.returns-clause-covered
returns-clause-covered c = λ sums covered.
    let xs = c.self.inside.layers.items in
    let open_ones : length c.args.self.now.open_ones ≡ length xs = ap (λ (s : Snapshots). length s.open_ones) (sym c.self.view_is) ∙ length-layers_of xs in
    let size : length xs ≡ c.len-last.result - 1 + 1 = omega (
      arith,
      c.len-last.ensures,
      c.self.inside.layers.ok.0,
      some_open c.args.self.now.open_ones
          c.requires.«open»,
      open_ones,
    ) in
    let made = put_last xs (c.len-last.result - 1) c.index_mut-layer.result.now
    (record { reader = c.index_mut-layer.result.now.reader; set = c.put_reserved.new.self }) c.args.key c.args.rec size c.index_mut-layer.ensures.value refl
    c.put_reserved.ensures.pairs
    ∙ ap (λ (s : Snapshots). with_kept s.open_ones c.args.key c.args.rec) c.self.view_is in
    subst (AreCovered (risen 1 sums)) (sym made) (covered-with_kept sums c.args.self.now.open_ones c.args.key c.args.rec covered)
