-- The reply to `stats` tells the counts of the graph.
use Rattle.std.proofs.Common.{◌≡◌, ◌∙◌, ℕ, Bool, true, false, ◌||◌, None, List, [], ◌++◌, codes, inl, inr, refl, sym, ap, subst, flat_map}
use Rattle.std.proofs.lemmas.Bool.Decides.{Decides-eqb}
use Rattle.std.proofs.lemmas.Slice.Eq.{ends_is}
use Rattle.disk_model.specs.declared.disk.Disk.{Ghosts as DiskGhosts}
use Rattle.stream_io.specs.Lines.{InputLine, Whole}
use Rattle.plain_graph.specs.Counts.{counts_of}
use Rattle.plain_graph.specs.Graph.{Graph}
use Rattle.plain_graph.specs.Lines.{Reading, counts_text}
use Rattle.plain_graph.specs.Reply as replies
use Rattle.plain_graph.specs.Reply.{Fault, Reply, fault_line, prefixed_line, prefixed_text, text_line}
use Rattle.plain_graph.specs.declared.command.Command.{Command}
use Rattle.plain_graph.specs.declared.command.Command.TheVariants as commands
use Rattle.plain_graph.specs.declared.refusal.Refusal.{Refusal}
use Rattle.gremlin_parse.specs.Lines.{Spells}
use Rattle.gremlin_parse.specs.Symbols.{AnyBlanks, Takes}
use Rattle.gremlin_parse.proofs.Leftmost.{no_fault_of}
use Rattle.gremlin_parse.proofs.Lines.{spelled_loosely, tail_after}
use Rattle.graph_session.specs.Exchange.{CarriesOut, ConsoleStep, Exchange, IsDone, ShowsPast, Stops}
use Rattle.graph_session.specs.Refusals.{SpellsOnly, refusal_order}
use Rattle.graph_session.specs.SharedExchange.{SharedStep}
use Rattle.graph_session.specs.SnapshotEffects.{SharedView}
use Rattle.graph_session.specs.Snapshots.{SharedState}
use Rattle.graph_session.specs.State.{IsFailed, Live, SpellsLine, State, seen, seen_by}
use Rattle.graph_session.proofs.Conditions.{idle-accepted, reached}
use Rattle.graph_session.proofs.DiskUse.{none-first}
use Rattle.graph_session.proofs.OneCommand.{line_agrees}
use Rattle.graph_session.proofs.Reasons.{unchanging-free}
use Rattle.graph_console.specs.Run.{exchange_text}
use Rattle.graph_console.specs.Sample.{tells_failure}
use Rattle.graph_console.specs.Sampling.{AnswersWell}

abbrev stats_bytes : List ℕ
stats_bytes = codes "stats"

abbrev stats_line : InputLine
stats_line = Whole stats_bytes

-- ---- the line spells `stats` and nothing else

stats_spelled : Spells stats_bytes commands.Stats
stats_spelled = ([], stats_bytes, refl, tt, ((stats_bytes, [], refl, refl, ([], [], refl, tt, refl)), (tt, (tt, tt))))

stats_takes : Takes AnyBlanks tt stats_bytes stats_bytes
stats_takes = record { prefix = []; bytes_are = refl; is = tt; ends = refl }

stats_only : SpellsOnly stats_bytes commands.Stats
stats_only = record {
  spelled = stats_spelled;
  only = λ other spelled. line_agrees stats_line commands.Stats other stats_spelled spelled;
  no_fault = no_fault_of stats_bytes stats_bytes stats_bytes commands.Stats refl stats_takes
      (tail_after commands.Stats stats_bytes stats_bytes stats_takes (spelled_loosely stats_bytes commands.Stats stats_spelled)) (tt, (tt, tt));
}

is_stats : (command : Command) → SpellsLine stats_line command → command ≡ commands.Stats
is_stats command spelled = line_agrees stats_line commands.Stats command stats_spelled spelled

-- ---- a text that ends with a failure tells it

or_true : (a b : Bool) → b ≡ true → (a || b) ≡ true
or_true true b is = refl
or_true false b is = is

disk_failure_told : (text : List ℕ) → tells_failure (text ++ fault_line replies.DiskFailed) ≡ true
unfolding tells_failure
disk_failure_told text =
    or_true _ _ ((ends_is Decides-eqb (text ++ fault_line replies.DiskFailed) (fault_line replies.DiskFailed) _ refl).1 text refl)

-- ---- the step

module _ (old new : State) (failed : Bool) (live : old.standing ≡ Live) (closed : old.open_one ≡ None) where
  -- no condition refuses it
  not_refused : (why : Refusal) → ¬ (ConsoleStep old (record { line = stats_line; disk_failed = failed; reply = replies.Refused why }) new)
  not_refused why step =
      none-first refusal_order old stats_line why
      (idle-accepted old stats_only (λ change. change) (unchanging-free commands.Stats (λ change. change) old.shape.limit (seen old) tt tt)
      (reached old stats_only (inl (λ is. subst IsFailed live is)) (λ needs. elim needs [ inl e ↦ cc | inr (inl e) ↦ cc | inr (inr e) ↦ cc ])
      (λ needs. elim needs [ inl e ↦ cc | inr e ↦ cc ])))
      step.0

  told : (reply : Reply) → IsDone old (record { line = stats_line; disk_failed = failed; reply = reply }) new
      → reply ≡ replies.Told [] (counts_text (counts_of old.committed))
  told reply done =
      let carries : CarriesOut old commands.Stats reply new = subst (λ (c : Command). CarriesOut old c reply new) (is_stats done.1 done.2) done.3 in
      carries.3
      ∙ ap (λ (r : Reading). replies.Told r.lines r.last) carries.1
      ∙ ap (λ (g : Graph). replies.Told [] (counts_text (counts_of g))) (ap (seen_by old.committed) closed)

  text_told : (reply : Reply) → IsDone old (record { line = stats_line; disk_failed = failed; reply = reply }) new
      → prefixed_text [] reply ≡ text_line (counts_text (counts_of old.committed))
  text_told reply done = ap (prefixed_text []) (told reply done)

  stopped : (lines : List (List ℕ)) (fault : Fault) → Stops old stats_line failed lines fault new
      → tells_failure (prefixed_text [] (replies.Faulted lines fault)) ≡ false → ⊥
  stopped lines replies.PastCount stops well =
      let past = subst (λ (c : Command). ShowsPast (seen old) c lines) (is_stats stops.1 stops.2) stops.3 in
      let is_past : false ≡ true = sym (ap (λ (r : Reading). r.is_past) past.1) ∙ past.2 in
      cc
  stopped lines replies.NoMemory stops well = stops.0 (inr (commands.Stats, stats_spelled, inr (inl refl)))
  stopped lines replies.DiskFailed stops well = let clash : true ≡ false = sym (disk_failure_told (flat_map (prefixed_line []) lines)) ∙ well in cc
  stopped lines (replies.DamagedRecord file id) stops well = stops

  console_tells : (reply : Reply) → ConsoleStep old (record { line = stats_line; disk_failed = failed; reply = reply }) new
      → tells_failure (prefixed_text [] reply) ≡ false
      → prefixed_text [] reply ≡ text_line (counts_text (counts_of old.committed))
  console_tells replies.Silent (inl blank, same) well = let clash : commands.Blank ≡ commands.Stats = is_stats commands.Blank blank in cc
  console_tells replies.Silent (inr quit, same) well = let clash : commands.Quit ≡ commands.Stats = is_stats commands.Quit quit in cc
  console_tells replies.Done step well = text_told replies.Done step
  console_tells (replies.NodeMade id) step well = text_told (replies.NodeMade id) step
  console_tells (replies.EdgeMade id) step well = text_told (replies.EdgeMade id) step
  console_tells (replies.Told lines last) step well = text_told (replies.Told lines last) step
  console_tells (replies.Faulted lines fault) step well = absurd (stopped lines fault step well)
  console_tells (replies.Refused why) step well = absurd (not_refused why step)

-- a console that is live and has no open transaction tells the counts of its graph
pub stats_told : (old new : SharedState) (failed : Bool) (reply : Reply) → old.writer.standing ≡ Live → old.writer.open_one ≡ None
    → SharedStep old (record { line = stats_line; disk_failed = failed; reply = reply }) new
    → tells_failure (prefixed_text [] reply) ≡ false → prefixed_text [] reply ≡ text_line (counts_text (counts_of old.writer.committed))
stats_told old new failed reply live closed (inl (inl snapshot, refused, same)) well = let clash : commands.Snapshot ≡ commands.Stats =
    is_stats commands.Snapshot snapshot in cc
stats_told old new failed reply live closed (inl (inr release, refused, same)) well = let clash : commands.Release ≡ commands.Stats =
    is_stats commands.Release release in cc
stats_told old new failed reply live closed (inr (other, step)) well = console_tells old.writer new.writer failed live closed reply step.0 well

-- the answer of such a console is its counts
pub answers_stats : {D : Type 0} (disk : DiskGhosts D) (state : SharedState) (text : List ℕ) (now : SharedView D) → disk.tells_reads
    → state.writer.standing ≡ Live → state.writer.open_one ≡ None → AnswersWell disk (codes "stats") text state now
    → text ≡ text_line (counts_text (counts_of state.writer.committed))
answers_stats disk state text now reads live closed a = by a.exchange.line a.line_is a.exchange.reply refl
  where
    by : (line : InputLine) → line ≡ stats_line → (reply : Reply) → a.exchange ≡ record { line = line; disk_failed = a.exchange.disk_failed; reply = reply }
        → text ≡ text_line (counts_text (counts_of state.writer.committed))
    by line line_is reply exchange_is =
        let x : Exchange = record { line = stats_line; disk_failed = a.exchange.disk_failed; reply = reply } in
        let same : a.exchange ≡ x = exchange_is ∙ ap (λ (l : InputLine). record { line = l; disk_failed = a.exchange.disk_failed; reply = reply }) line_is in
        let text_is : exchange_text x ≡ text = ap exchange_text (sym same) ∙ a.text_is in
        let step : SharedStep state x a.after = subst (λ (y : Exchange). SharedStep state y a.after) same (a.step.step reads) in
        sym text_is ∙ stats_told state a.after a.exchange.disk_failed reply live closed step
        (subst (λ (t : List ℕ). tells_failure t ≡ false) (sym text_is) a.well)
