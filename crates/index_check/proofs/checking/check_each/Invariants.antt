use Rattle.std.proofs.Common.{ℕ, take, map}
use Rattle.store_rules.specs.Chains.{In}
use Rattle.index_check.specs.Indexing.{IsRight}
use Rattle.index_check.specs.declared.definitions.Definition.{Definition}
use Rattle.rec_bytes.specs.Frame.{IsRead}
use Rattle.index_check.proofs.checking.check_each.Given as goal

abbrev pub invariant-loop-definition : goal.invariant-loop-definition
invariant-loop-definition g l =
    let records = (g.R.Reads.state l.fn.space).records in
    record {
      read : IsRead g.R.Reads l.fn.space l.space;
      right : g.R.Reads.tells → (d : ℕ) → In d (map (λ (a : Definition). a.id) (take l.definition-index l.definitions)) → IsRight records d;
    }
