use Rattle.rec_bytes.proofs.Causes.{never_ok}
use Rattle.txn_core.proofs.opening.Sets.new.Goals as goal

pub returns-in_err-reserve-clause-changed : goal.returns-in_err-reserve-clause-changed
returns-in_err-reserve-clause-changed c = never_ok c.from_residual.result _ _ c.from_residual.ensures.1

pub returns-in_err-reserve-clause-room : goal.returns-in_err-reserve-clause-room
returns-in_err-reserve-clause-room c = never_ok c.from_residual.result _ _ c.from_residual.ensures.1

pub returns-in_err-reserve-clause-creation : goal.returns-in_err-reserve-clause-creation
returns-in_err-reserve-clause-creation c = never_ok c.from_residual.result _ _ c.from_residual.ensures.1

pub returns-in_err-reserve-clause-cache : goal.returns-in_err-reserve-clause-cache
returns-in_err-reserve-clause-cache c = never_ok c.from_residual.result _ _ c.from_residual.ensures.1

pub returns-in_err-reserve-clause-pages : goal.returns-in_err-reserve-clause-pages
returns-in_err-reserve-clause-pages c = never_ok c.from_residual.result _ _ c.from_residual.ensures.1

pub returns-in_err-creation-clause-changed : goal.returns-in_err-creation-clause-changed
returns-in_err-creation-clause-changed c = never_ok c.from_residual-in_err-creation.result _ _ c.from_residual-in_err-creation.ensures.1

pub returns-in_err-creation-clause-room : goal.returns-in_err-creation-clause-room
returns-in_err-creation-clause-room c = never_ok c.from_residual-in_err-creation.result _ _ c.from_residual-in_err-creation.ensures.1

pub returns-in_err-creation-clause-creation : goal.returns-in_err-creation-clause-creation
returns-in_err-creation-clause-creation c = never_ok c.from_residual-in_err-creation.result _ _ c.from_residual-in_err-creation.ensures.1

pub returns-in_err-creation-clause-cache : goal.returns-in_err-creation-clause-cache
returns-in_err-creation-clause-cache c = never_ok c.from_residual-in_err-creation.result _ _ c.from_residual-in_err-creation.ensures.1

pub returns-in_err-creation-clause-pages : goal.returns-in_err-creation-clause-pages
returns-in_err-creation-clause-pages c = never_ok c.from_residual-in_err-creation.result _ _ c.from_residual-in_err-creation.ensures.1

pub returns-in_err-new-clause-changed : goal.returns-in_err-new-clause-changed
returns-in_err-new-clause-changed c = never_ok c.from_residual-in_err-new.result _ _ c.from_residual-in_err-new.ensures.1

pub returns-in_err-new-clause-room : goal.returns-in_err-new-clause-room
returns-in_err-new-clause-room c = never_ok c.from_residual-in_err-new.result _ _ c.from_residual-in_err-new.ensures.1

pub returns-in_err-new-clause-creation : goal.returns-in_err-new-clause-creation
returns-in_err-new-clause-creation c = never_ok c.from_residual-in_err-new.result _ _ c.from_residual-in_err-new.ensures.1

pub returns-in_err-new-clause-cache : goal.returns-in_err-new-clause-cache
returns-in_err-new-clause-cache c = never_ok c.from_residual-in_err-new.result _ _ c.from_residual-in_err-new.ensures.1

pub returns-in_err-new-clause-pages : goal.returns-in_err-new-clause-pages
returns-in_err-new-clause-pages c = never_ok c.from_residual-in_err-new.result _ _ c.from_residual-in_err-new.ensures.1
