use Rattle.std.proofs.Common.{Some}
use Rattle.std.proofs.lemmas.Bool.{OnFalse_at, OnFalse_from, OnTrue_at, OnTrue_from}
use Rattle.path_find.specs.Checking.{AreIn}
use Rattle.path_find.proofs.CheckLaws.{inner_below}
use Rattle.path_find.proofs.known.are_held.Goals as goal

pub returns-in-Some-clause-yes : goal.returns-in-Some-clause-yes
returns-in-Some-clause-yes c = rw c.in-Some.is (OnTrue_from c.are_near.result (AreIn c.args.levels.now (Some c.in-Some.field-0) c.args.row c.args.ends.now)
    (λ e. λ lt. OnTrue_at e c.are_near.ensures.yes))

pub returns-in-Some-clause-no : goal.returns-in-Some-clause-no
returns-in-Some-clause-no c = rw c.in-Some.is (OnFalse_from c.are_near.result (¬ AreIn c.args.levels.now (Some c.in-Some.field-0) c.args.row c.args.ends.now)
    (λ e. λ held. OnFalse_at e c.are_near.ensures.no (held (inner_below c.args.row c.in-Some.field-0 (rw c.in-Some.is at c.requires.inner)))))

pub returns-in-None-clause-yes : goal.returns-in-None-clause-yes
returns-in-None-clause-yes c = rw c.in-None.is c.are_known.ensures.yes

pub returns-in-None-clause-no : goal.returns-in-None-clause-no
returns-in-None-clause-no c = rw c.in-None.is c.are_known.ensures.no
