use Rattle.std.proofs.Common.{◌∙◌, ◌++◌, List, ℕ, ap, ap₂}
use Rattle.stream_io.specs.Memory.{Receipt}
use Rattle.graph_console.proofs.follow.telling.tell.Goals as goal

pub returns : goal.returns
returns g c = λ told shape graph stands.
    let empty = ap (λ (page : Receipt). page.taken) c.in_ok-page.ensures in
    c.in_ok-put_in-2.ensures
    ∙ ap₂ (λ (first second : List ℕ). first ++ second)
    (c.in_ok-put_in.ensures ∙ ap₂ (λ (first second : List ℕ). first ++ second) empty (c.as_bytes.ensures ∙ c.line.ensures))
    (c.taken.ensures ∙ c.in_ok-reply.ensures told shape graph stands)
