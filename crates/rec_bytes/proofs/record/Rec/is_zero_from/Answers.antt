use Rattle.std.proofs.Common.{◌≡◌, ◌-◌, nat_eq, length, drop, take, rules, arith, sym, ap, ◌∙◌}
use Rattle.std.specs.List.{list_all}
use Rattle.std.proofs.lemmas.List.{take_all, length-drop}
use Rattle.rec_bytes.specs.Record.{zeros_from}
use Rattle.rec_bytes.proofs.Numbers.{as_64-whole}
use Rattle.rec_bytes.proofs.record.Rec.is_zero_from.Goals as goal

pub returns : goal.returns
unfolding zeros_from
returns c =
    let r = c.args.self.now in
    let long : length r.bytes ≡ 64 = search rules in
    let all : take (64 - c.args.at) (drop c.args.at r.bytes) ≡ drop c.args.at r.bytes =
    take_all (64 - c.args.at) (drop c.args.at r.bytes) (simp length-drop (omega (arith, long))) in
    c.are_zeros.ensures ∙ ap (list_all (λ b. nat_eq b 0)) (all ∙ ap (drop c.args.at) (sym (as_64-whole r.bytes long)))
