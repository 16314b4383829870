-- The kinds of lines. What a line may do follows from its kind.

-- A line of blanks; the end of the run; what begins or ends a transaction; what is done to the
-- store and not to its graph; what takes a snapshot or releases it; a change of the graph; and what
-- is read of it.
pub data Kind : Type 0 where
  Blanks : Kind
  Ending : Kind
  Bound : Kind
  Upkeep : Kind
  Sight : Kind
  Change : Kind
  Question : Kind

-- lines of this kind change the graph
abbrev pub AreChanges : Kind → Type 0
AreChanges Change = Unit {0}
AreChanges _ = ⊥

-- lines of this kind read it
abbrev pub AreQuestions : Kind → Type 0
AreQuestions Question = Unit {0}
AreQuestions _ = ⊥

-- lines of this kind are also those of a session that reads
abbrev pub AreOfReaders : Kind → Type 0
AreOfReaders Bound = ⊥
AreOfReaders Upkeep = ⊥
AreOfReaders Change = ⊥
AreOfReaders _ = Unit {0}

-- lines of this kind get no reply
abbrev pub AreSilent : Kind → Type 0
AreSilent Blanks = Unit {0}
AreSilent Ending = Unit {0}
AreSilent _ = ⊥
