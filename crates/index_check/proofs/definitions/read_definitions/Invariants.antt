use Rattle.std.proofs.Common.{◌≡◌, take, map}
use Rattle.index_check.specs.Definitions.{definition_at}
use Rattle.index_check.specs.declared.definitions.Definition.{Definition}
use Rattle.rec_bytes.specs.Frame.{IsRead}
use Rattle.index_check.proofs.definitions.read_definitions.Given as goal

abbrev pub invariant-loop-id : goal.invariant-loop-id
invariant-loop-id g l =
    let records = (g.R.Reads.state l.fn.space).records in
    record {
      read : IsRead g.R.Reads l.fn.space l.space;
      are : g.R.Reads.tells → l.definitions.items ≡ map (definition_at records) (take l.id-index l.ids);
      ids : map (λ (d : Definition). d.id) l.definitions.items ≡ take l.id-index l.ids;
    }
