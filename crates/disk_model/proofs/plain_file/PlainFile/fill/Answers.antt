use Rattle.std.proofs.Common.{◌≡◌, ◌+◌, ◌&&◌, ◌++◌, leb, ltb, cond, length, get_or, take, drop, ap, ◌∙◌, sym, arith}
use Rattle.std.proofs.lemmas.List.{take_at}
use Rattle.disk_model.proofs.Fills.{range-cut}
use Rattle.disk_model.proofs.plain_file.PlainFile.fill.Goals as goal

pub returns-clause-bytes : goal.returns-clause-bytes
returns-clause-bytes c i =
    let old = c.args.self.now in
    let bytes = c.self.inside.bytes in
    let new = c.fill_bytes.new.bytes in
    let start = c.min-start.result in
    let count = c.min-count.result in
    let is : length old ≡ length bytes.items = ap length (sym c.self.view_is) in
    let counts = leb (get_or c.args.pokes.now i 0) c.args.call in
    let same : length new ≡ bytes.len = omega arith in
    let whole : take bytes.len (new ++ drop (length new) bytes.items) ≡ new = take_at new (drop (length new) bytes.items) bytes.len same in
    ap (λ bs. get_or bs i 0) whole
    ∙ c.fill_bytes.ensures i
    ∙ ap (λ bs. cond ((leb start i && ltb i (start + count)) && counts) c.args.byte (get_or bs i 0)) (c.deref_mut.ensures.value ∙ c.self.view_is)
    ∙ ap (λ r. cond (r && counts) c.args.byte (get_or old i 0)) (range-cut c.args.at c.args.len (length old) i start count (omega arith) (omega arith))
