use Rattle.std.proofs.Common.{◌≡◌, ◌+◌, ◌-◌, ◌<◌, ◌++◌, length, set, replicate, vec_len, ap, ◌∙◌, sym, arith, length-append}
use Rattle.std.proofs.lemmas.List.{length-replicate}
use Rattle.disk_model.proofs.Pokes.{set-padded}
use Rattle.disk_model.proofs.poke_times.PokeTimes.poke.Goals as goal

pub returns : goal.returns
returns c =
    let times = c.self.inside.times in
    let room = c.self.inside.room in
    let new = c.reach.new.times in
    let place = c.args.place in
    let count : vec_len times ≡ length times.items = omega arith in
    let new_count : vec_len new ≡ length new.items = omega arith in
    let padded : length (times.items ++ replicate (room - vec_len times) 0) ≡ vec_len times + (room - vec_len times) =
    length-append times.items (replicate (room - vec_len times) 0) ∙ ap (λ n. length times.items + n) (length-replicate (room - vec_len times) 0)
    ∙ ap (λ n. n + (room - vec_len times)) (sym count) in
    let within : place < room = omega (arith, c.requires, padded, ap length c.self.view_is, c.self.invariant.0) in
    let is : new.items ≡ times.items ++ replicate ((place + 1) - length times.items) 0 = c.reach.ensures.items
    ∙ ap (λ n. times.items ++ replicate ((place + 1) - n) 0) count in
    let reached : place < length new.items = omega (arith, c.reach.ensures.reached) in
    ap (λ n. set new.items place c.args.kept ++ replicate (room - n) 0) new_count
    ∙ set-padded times.items new.items room place c.args.kept within (omega (arith, c.self.invariant.0)) is reached
    ∙ sym (ap (λ n. set (times.items ++ replicate (room - n) 0) place c.args.kept) count)
    ∙ ap (λ ns. set ns place c.args.kept) c.self.view_is
