use Rattle.std.proofs.Common.{sym, ◌∙◌, subst}
use Rattle.snap_store.specs.Layers.{SameSights}
use Rattle.snap_store.specs.Snaps.{Snapshots}
use Rattle.snap_store.specs.Sums.{AreCovered, EndsOverfull}
use Rattle.snap_store.proofs.RoomLaws.{covered-with_room, overfull-with_room, room_is, sees-with_room}
use Rattle.snap_store.proofs.snaps.Snaps.make_room.Goals as goal

pub returns-clause-sights : goal.returns-clause-sights
returns-clause-sights c =
    let is = sym c.loop-self.invariant ∙ room_is c.args.new c.loop-self.self.open_ones c.loop-self.self.ended
    (sym c.lacks_room.ensures ∙ c.loop-self-test.false) in
    subst (λ (s : Snapshots). SameSights c.args.self.now.open_ones s.open_ones) is
    (sees-with_room c.args.new c.args.self.now.open_ones c.args.self.now.ended c.kept_count-kept.ensures.distinct)

pub returns-clause-covered : goal.returns-clause-covered
returns-clause-covered c = λ sums covered.
    let is = sym c.loop-self.invariant ∙ room_is c.args.new c.loop-self.self.open_ones c.loop-self.self.ended
    (sym c.lacks_room.ensures ∙ c.loop-self-test.false) in
    subst (λ (s : Snapshots). AreCovered sums s.open_ones) is (covered-with_room sums c.args.new c.args.self.now.open_ones c.args.self.now.ended covered)

pub returns-clause-overfull : goal.returns-clause-overfull
returns-clause-overfull c = λ sums weight le covered.
    let is = sym c.loop-self.invariant ∙ room_is c.args.new c.loop-self.self.open_ones c.loop-self.self.ended
    (sym c.lacks_room.ensures ∙ c.loop-self-test.false) in
    subst (λ (s : Snapshots). EndsOverfull weight sums c.args.self.now.open_ones s.open_ones) is
    (overfull-with_room sums weight c.args.new c.args.self.now.open_ones c.args.self.now.ended le covered)
