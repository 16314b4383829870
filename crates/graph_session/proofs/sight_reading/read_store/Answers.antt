use Rattle.std.proofs.Common.{◌≡◌, ℕ, List, ap, rules, subst, sym}
use Rattle.disk_model.specs.declared.disk.Disk.{Ghosts as DiskGhosts}
use Rattle.stream_io.specs.declared.streams.Sink.{Ghosts as SinkGhosts}
use Rattle.plain_graph.specs.declared.command.Command.{Command}
use Rattle.rec_bytes.specs.declared.shape.Shape.{Shape}
use Rattle.store_rules.specs.Views.{Records}
use Rattle.txn_core.specs.Committed.{OnlyReadsStore}
use Rattle.txn_core.specs.declared.committed.Committed.{Committed}
use Rattle.txn_core.specs.declared.store.Store.{Store}
use Rattle.graph_session.specs.SightReading.{Counts, GivesSight, counts}
use Rattle.graph_session.specs.declared.turn.Turn.{Turn}
use Rattle.graph_session.proofs.sight_reading.read_store.Goals as goal

-- what holds of the store that is lent holds of it when it is back
back : {S : Type 0} (P : S → Type 0) (now new : S) → new ≡ now → P now → P new
back P now new same holds = subst P (sym same) holds

-- and of its disk
disk_back : {D : Type 0} {g : DiskGhosts D} {now new : Store D g} → new ≡ now → new.base.disk.now ≡ now.base.disk.now
disk_back same = ap (λ (s : Store _ _). s.base.disk.now) same

-- what is given is given by what the disk has counted
given_back : {D K : Type 0} (g : DiskGhosts D) {tells : Type 0} {sink : SinkGhosts K} {seen : Records} {shape : Shape} {names : List (List ℕ)}
    {command : Command} {prefix : List ℕ} {was : ℕ} {before after : K} {turn : Turn}
    (now new : D) → new ≡ now → GivesSight tells sink seen shape names command prefix (counts was (g.faults now)) before after turn
    → GivesSight tells sink seen shape names command prefix (counts was (g.faults new)) before after turn
given_back g {tells = tells} {sink = sink} {seen = seen} {shape = shape} {names = names} {command = command} {prefix = prefix} {was = was} {before = before}
    {after = after} {turn = turn} =
    back (λ disk. GivesSight tells sink seen shape names command prefix (counts was (g.faults disk)) before after turn)

-- what was given to the sink that was lent was given to it
given_to : {K tells : Type 0} {sink : SinkGhosts K} {seen : Records} {shape : Shape} {names : List (List ℕ)} {command : Command} {prefix : List ℕ}
    {faults : Counts} {before : K} {turn : Turn} (now new : K) → new ≡ now
    → GivesSight tells sink seen shape names command prefix faults before now turn
    → GivesSight tells sink seen shape names command prefix faults before new turn
given_to {tells = tells} {sink = sink} {seen = seen} {shape = shape} {names = names} {command = command} {prefix = prefix} {faults = faults}
    {before = before} {turn = turn} now new same given =
    subst (λ k. GivesSight tells sink seen shape names command prefix faults before k turn) (sym same) given

pub returns-clause-gives : goal.returns-clause-gives
returns-clause-gives g c =
    let name = sym c.read_by.ensures.onward.same in
    let sink = sym c.read_by.ensures.same_sink in
    given_to _ _ (search rules) (given_back g.D.Disk _ _ (search (rules, disk_back)) c.read_by.ensures.gives)

pub returns-clause-onward : goal.returns-clause-onward
returns-clause-onward g c =
    let read = c.read_by.ensures.onward in
    let name = sym read.same in
    back (λ (s : Store _ _). OnlyReadsStore c.args.store.now s) _ _ (search rules) read.reads

pub returns-clause-idle : goal.returns-clause-idle
returns-clause-idle g c = λ spared.
    let name = sym c.read_by.ensures.onward.same in
    back (λ (s : Store _ _). s ≡ c.args.store.now) _ _ (search rules) (ap (λ (space : Committed _ _). space.store.now) (c.read_by.ensures.idle spared))
