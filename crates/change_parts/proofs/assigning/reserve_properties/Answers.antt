use Rattle.rec_bytes.proofs.Causes.{never_ok}
use Rattle.change_parts.proofs.assigning.reserve_properties.Goals as goal

pub returns-in_err-test_room-clause-blocks : goal.returns-in_err-test_room-clause-blocks
returns-in_err-test_room-clause-blocks g c = never_ok c.from_residual.result _ _ c.from_residual.ensures.1

pub returns-in_err-test_room-clause-few_blocks : goal.returns-in_err-test_room-clause-few_blocks
returns-in_err-test_room-clause-few_blocks g c = never_ok c.from_residual.result _ _ c.from_residual.ensures.1

pub returns-in_err-test_room-clause-room : goal.returns-in_err-test_room-clause-room
returns-in_err-test_room-clause-room g c = never_ok c.from_residual.result _ _ c.from_residual.ensures.1

pub returns-in_err-test_room-2-clause-blocks : goal.returns-in_err-test_room-2-clause-blocks
returns-in_err-test_room-2-clause-blocks g c = never_ok c.from_residual-in_err-test_room-2.result _ _ c.from_residual-in_err-test_room-2.ensures.1

pub returns-in_err-test_room-2-clause-few_blocks : goal.returns-in_err-test_room-2-clause-few_blocks
returns-in_err-test_room-2-clause-few_blocks g c = never_ok c.from_residual-in_err-test_room-2.result _ _ c.from_residual-in_err-test_room-2.ensures.1

pub returns-in_err-test_room-2-clause-room : goal.returns-in_err-test_room-2-clause-room
returns-in_err-test_room-2-clause-room g c = never_ok c.from_residual-in_err-test_room-2.result _ _ c.from_residual-in_err-test_room-2.ensures.1
