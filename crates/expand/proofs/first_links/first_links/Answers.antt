use Rattle.rec_bytes.proofs.Causes.{never_ok}
use Rattle.expand.proofs.first_links.first_links.Goals as goal

pub returns-in_err-add_links : goal.returns-in_err-add_links
returns-in_err-add_links c = never_ok c.from_residual.result _ _ c.from_residual.ensures.1
