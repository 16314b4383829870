use Rattle.std.proofs.Common.{◌≡◌, ◌+◌, ◌++◌, length, take, drop, sym, ap, ◌∙◌, arith}
use Rattle.std.proofs.lemmas.Grind.{common_steps}
use Rattle.std.proofs.lemmas.List.{take-append-drop, nil_from_length}
use Rattle.stream_io.proofs.bytes.BytesSource.read.Goals as goal

pub returns-clause-given : goal.returns-clause-given
returns-clause-given c =
    let rest = drop c.self.inside.at c.self.inside.bytes.items in
    let same : c.args.self.now.rest ≡ rest = sym (ap (λ s. s.rest) c.self.view_is) in
    let n = c.min-count.result in
    let front : take n (c.copy_from_slice.new.self ++ drop n c.args.out.now) ≡ take n rest = grind (arith, common_steps) in
    let back : drop (c.self.inside.at + n) c.self.inside.bytes.items ≡ drop n rest = grind (arith, common_steps) in
    let whole : rest ≡ take n (c.copy_from_slice.new.self ++ drop n c.args.out.now) ++ drop (c.self.inside.at + n) c.self.inside.bytes.items =
    rw (front, back) (sym (take-append-drop n rest)) in
    (same ∙ whole, λ none. let empty : length rest ≡ 0 = grind (arith, common_steps) in same ∙ nil_from_length rest empty)
