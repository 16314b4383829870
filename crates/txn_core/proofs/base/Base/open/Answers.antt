use Rattle.txn_core.proofs.base.Base.open.Goals as goal

pub returns-in-Ok-find_or_make-clause-opened : goal.returns-in-Ok-find_or_make-clause-opened
returns-in-Ok-find_or_make-clause-opened g c = c.in-Ok-find_or_make.ensures.opened

pub returns-in-Ok-find_or_make-clause-suits : goal.returns-in-Ok-find_or_make-clause-suits
returns-in-Ok-find_or_make-clause-suits g c = c.in-Ok-find_or_make.ensures.suits

pub returns-in-Ok-find_or_make-clause-settled : goal.returns-in-Ok-find_or_make-clause-settled
returns-in-Ok-find_or_make-clause-settled g c = c.in-Ok-find_or_make.ensures.settled

pub returns-in-Ok-find_or_make-clause-log : goal.returns-in-Ok-find_or_make-clause-log
returns-in-Ok-find_or_make-clause-log g c = c.in-Ok-find_or_make.ensures.log

pub returns-in-Ok-find_or_make-clause-crash : goal.returns-in-Ok-find_or_make-clause-crash
returns-in-Ok-find_or_make-clause-crash g c = c.find_or_make.ensures.crash

pub returns-in-Ok-find_or_make-clause-crash_new : goal.returns-in-Ok-find_or_make-clause-crash_new
returns-in-Ok-find_or_make-clause-crash_new g c = c.find_or_make.ensures.crash_new

pub returns-in-Ok-find_or_make-clause-later : goal.returns-in-Ok-find_or_make-clause-later
returns-in-Ok-find_or_make-clause-later g c = c.find_or_make.ensures.later

pub returns-in-Ok-find_or_make-clause-clean : goal.returns-in-Ok-find_or_make-clause-clean
returns-in-Ok-find_or_make-clause-clean g c = c.find_or_make.ensures.clean

pub returns-clause-refused : goal.returns-clause-refused
returns-clause-refused g c = c.in-Err.ensures.refused

pub returns-clause-sound : goal.returns-clause-sound
returns-clause-sound g c = c.in-Err.ensures.sound

pub returns-clause-unmade : goal.returns-clause-unmade
returns-clause-unmade g c = c.in-Err.ensures.unmade

pub returns-clause-untouched : goal.returns-clause-untouched
returns-clause-untouched g c = c.in-Err.ensures.untouched

pub returns-clause-differs : goal.returns-clause-differs
returns-clause-differs g c = c.in-Err.ensures.differs

pub returns-clause-left : goal.returns-clause-left
returns-clause-left g c = c.find_or_make.ensures.crash

pub returns-clause-left_new : goal.returns-clause-left_new
returns-clause-left_new g c = c.find_or_make.ensures.crash_new

pub returns-clause-clean_refused : goal.returns-clause-clean_refused
returns-clause-clean_refused g c = c.find_or_make.ensures.clean

pub returns-clause-careful : goal.returns-clause-careful
returns-clause-careful g c = c.find_or_make.ensures.careful

pub returns-clause-later_refused : goal.returns-clause-later_refused
returns-clause-later_refused g c = c.find_or_make.ensures.later

pub returns-clause-no_memory : goal.returns-clause-no_memory
returns-clause-no_memory g c = λ is. absurd (c.in-Err.ensures.no_memory is)
