use Rattle.std.proofs.Common.{nat_eq, Contains, subst}
use Rattle.std.proofs.lemmas.Bool.{OnFalse_from, OnTrue_from, eqb-false}
use borrow.Author.Tests.{eqb-true}
use Rattle.plain_graph.specs.Levels.{level_of}
use Rattle.path_find.proofs.KnownLevels.{one_level}
use Rattle.path_find.proofs.known.has_level.Goals as goal

pub returns-in-Some-clause-yes : goal.returns-in-Some-clause-yes
returns-in-Some-clause-yes c = OnTrue_from (nat_eq c.in-Some.found c.args.level) (Contains c.args.levels.now (level_of c.args.node c.args.level))
    (λ e. subst (λ l. Contains c.args.levels.now (level_of c.args.node l)) (eqb-true _ _ e) c.in-Some.ensures.some)

pub returns-in-Some-clause-no : goal.returns-in-Some-clause-no
returns-in-Some-clause-no c = OnFalse_from (nat_eq c.in-Some.found c.args.level) (¬ Contains c.args.levels.now (level_of c.args.node c.args.level))
    (λ e. λ has. eqb-false _ _ e (one_level c.args.levels.now c.requires.distinct c.args.node c.in-Some.found c.args.level c.in-Some.ensures.some has))

pub returns-in-None-clause-no : goal.returns-in-None-clause-no
returns-in-None-clause-no c = λ has. c.in-None.ensures.none (c.args.level, has)
