use Rattle.std.proofs.Common.{arith, sym, subst}
use Rattle.prop_store.specs.Reading.{ReadsAtMost}
use Rattle.prop_store.proofs.ReadCounts.{reads_none}
use Rattle.rec_bytes.proofs.Causes.{ok_cause}
use Rattle.traversal_run.specs.Owing.{mapping_reads}
use Rattle.traversal_run.specs.declared.mapping.Mapping.{Mapping}
use Rattle.traversal_run.proofs.OnlyReads.{is_read-none}
use Rattle.traversal_run.proofs.mapping.mapped.Goals as goal

pub returns-in-Neighbours-clause-damaged : goal.returns-in-Neighbours-clause-damaged
returns-in-Neighbours-clause-damaged g c = c.neighbours.ensures.damaged

pub returns-in-Neighbours-clause-read : goal.returns-in-Neighbours-clause-read
returns-in-Neighbours-clause-read g c = c.neighbours.ensures.read

pub returns-in-Neighbours-clause-cause : goal.returns-in-Neighbours-clause-cause
returns-in-Neighbours-clause-cause g c = c.neighbours.ensures.cause

pub returns-in-Incident-clause-damaged : goal.returns-in-Incident-clause-damaged
returns-in-Incident-clause-damaged g c = c.incident.ensures.damaged

pub returns-in-Incident-clause-read : goal.returns-in-Incident-clause-read
returns-in-Incident-clause-read g c = c.incident.ensures.read

pub returns-in-Incident-clause-cause : goal.returns-in-Incident-clause-cause
returns-in-Incident-clause-cause g c = c.incident.ensures.cause

pub returns-in-Filter-clause-damaged : goal.returns-in-Filter-clause-damaged
returns-in-Filter-clause-damaged g c = c.filtered.ensures.damaged

pub returns-in-Filter-clause-read : goal.returns-in-Filter-clause-read
returns-in-Filter-clause-read g c = c.filtered.ensures.read

pub returns-in-Filter-clause-cause : goal.returns-in-Filter-clause-cause
returns-in-Filter-clause-cause g c = c.filtered.ensures.cause

pub returns-in-Values-clause-damaged : goal.returns-in-Values-clause-damaged
returns-in-Values-clause-damaged g c = c.distinct_values.ensures.damaged

pub returns-in-Values-clause-read : goal.returns-in-Values-clause-read
returns-in-Values-clause-read g c = c.distinct_values.ensures.read

pub returns-in-Values-clause-cause : goal.returns-in-Values-clause-cause
returns-in-Values-clause-cause g c = c.distinct_values.ensures.cause

pub returns-in-Label-clause-damaged : goal.returns-in-Label-clause-damaged
returns-in-Label-clause-damaged g c = c.label_value.ensures.damaged

pub returns-in-Label-clause-read : goal.returns-in-Label-clause-read
returns-in-Label-clause-read g c = c.label_value.ensures.read

pub returns-in-Label-clause-cause : goal.returns-in-Label-clause-cause
returns-in-Label-clause-cause g c = c.label_value.ensures.cause

pub returns-in-Id-clause-read : goal.returns-in-Id-clause-read
returns-in-Id-clause-read g c = is_read-none g.R.Reads g.met.R.Reads.stays_onward c.args.space.now

pub returns-in-Id-clause-cause : goal.returns-in-Id-clause-cause
returns-in-Id-clause-cause g c = ok_cause _ _ _ _ (omega arith)

pub returns-in-OutV-clause-read : goal.returns-in-OutV-clause-read
returns-in-OutV-clause-read g c = is_read-none g.R.Reads g.met.R.Reads.stays_onward c.args.space.now

pub returns-in-OutV-clause-cause : goal.returns-in-OutV-clause-cause
returns-in-OutV-clause-cause g c = ok_cause _ _ _ _ (omega arith)

pub returns-in-InV-clause-read : goal.returns-in-InV-clause-read
returns-in-InV-clause-read g c = is_read-none g.R.Reads g.met.R.Reads.stays_onward c.args.space.now

pub returns-in-InV-clause-cause : goal.returns-in-InV-clause-cause
returns-in-InV-clause-cause g c = ok_cause _ _ _ _ (omega arith)

pub returns-in-Id-clause-reads : goal.returns-in-Id-clause-reads
returns-in-Id-clause-reads g c = λ tells store.
    let s = g.R.Reads.state c.args.space.now in
    reads_none (mapping_reads s.records c.args.mapping.now c.args.item) s

pub returns-in-OutV-clause-reads : goal.returns-in-OutV-clause-reads
returns-in-OutV-clause-reads g c = λ tells store.
    let s = g.R.Reads.state c.args.space.now in
    reads_none (mapping_reads s.records c.args.mapping.now c.args.item) s

pub returns-in-InV-clause-reads : goal.returns-in-InV-clause-reads
returns-in-InV-clause-reads g c = λ tells store.
    let s = g.R.Reads.state c.args.space.now in
    reads_none (mapping_reads s.records c.args.mapping.now c.args.item) s

pub returns-in-Filter-clause-reads : goal.returns-in-Filter-clause-reads
returns-in-Filter-clause-reads g c = λ tells store.
    let s = g.R.Reads.state c.args.space.now in
    let t = g.R.Reads.state c.filtered.new.space in
    subst (λ (mapping : Mapping). ReadsAtMost (mapping_reads s.records mapping c.args.item) s t) (sym c.in-Filter.is) c.filtered.ensures.at_most

pub returns-in-Values-clause-reads : goal.returns-in-Values-clause-reads
returns-in-Values-clause-reads g c = λ tells store.
    let s = g.R.Reads.state c.args.space.now in
    let t = g.R.Reads.state c.distinct_values.new.space in
    subst (λ (mapping : Mapping). ReadsAtMost (mapping_reads s.records mapping c.args.item) s t) (sym c.in-Values.is) c.distinct_values.ensures.at_most

pub returns-in-Label-clause-reads : goal.returns-in-Label-clause-reads
returns-in-Label-clause-reads g c = λ tells store.
    let s = g.R.Reads.state c.args.space.now in
    let t = g.R.Reads.state c.label_value.new.space in
    subst (λ (mapping : Mapping). ReadsAtMost (mapping_reads s.records mapping c.args.item) s t) (sym c.in-Label.is) c.label_value.ensures.at_most
