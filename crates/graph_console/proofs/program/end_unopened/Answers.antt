use Rattle.std.proofs.Common.{◌∙◌}
use Rattle.graph_console.proofs.program.end_unopened.Goals as goal

pub returns-in-ConfigDiffers : goal.returns-in-ConfigDiffers
returns-in-ConfigDiffers g c =
    rw c.in-ConfigDiffers.is (rw (c.as_bytes-in-ConfigDiffers.ensures ∙ c.configuration.ensures) at c.end_with_line-in-ConfigDiffers.ensures)
