use Rattle.store_check.proofs.ranges.find_wrong.Goals as goal

pub returns-clause-read : goal.returns-clause-read
returns-clause-read g c = c.find_false.ensures.read

pub returns-clause-cause : goal.returns-clause-cause
returns-clause-cause g c = c.find_false.ensures.cause
