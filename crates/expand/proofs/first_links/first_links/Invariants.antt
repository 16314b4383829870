use Rattle.std.proofs.Common.{◌≡◌, ◌++◌, drop}
use Rattle.expand.specs.FirstLinks.{first_links}
use Rattle.expand.proofs.first_links.first_links.Given as goal

-- what is left gives the rest
abbrev pub invariant-loop-group : goal.invariant-loop-group
invariant-loop-group l = l.links.items ++ first_links l.direction l.labels (drop l.group-index l.groups) ≡ first_links l.direction l.labels l.groups
