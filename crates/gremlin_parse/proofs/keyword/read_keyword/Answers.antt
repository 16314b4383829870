use Rattle.std.proofs.Common.{◌∙◌, ◌-◌, sym, ap, length}
use Rattle.plain_graph.specs.Names.{is_name_byte}
use Rattle.gremlin_parse.proofs.Runs.{cut_run_at}
use Rattle.gremlin_parse.proofs.keyword.read_keyword.Goals as goal

pub returns-in-Some-clause-ok : goal.returns-in-Some-clause-ok
returns-in-Some-clause-ok g c = (
  c.split_at.result.0.now,
  cut_run_at is_name_byte c.args.bytes.now c.split_at.result.0.now c.split_at.result.1.now c.run_len-len.result
      c.run_len-len.ensures.count c.split_at.ensures.front c.split_at.ensures.back,
  sym c.lookup.ensures ∙ c.in-Some.is,
)

pub returns-in-None-clause-err : goal.returns-in-None-clause-err
returns-in-None-clause-err g c = (
  c.split_at.result.0.now,
  c.split_at.result.1.now,
  cut_run_at is_name_byte c.args.bytes.now c.split_at.result.0.now c.split_at.result.1.now
      c.run_len-len.result c.run_len-len.ensures.count c.split_at.ensures.front c.split_at.ensures.back,
  sym c.lookup.ensures ∙ c.in-None.is,
  ap
      (λ n. length c.args.bytes.now - n) c.reach.ensures.most,
)
