-- A query's results, taken from its run one by one.
use Rattle.std.proofs.Common.{◌≡◌, ◌≢◌, ◌∙◌, ℕ, true, None, List, [], ◌∷◌, ◌++◌, append_assoc, inl, inr, map, refl, sym, ap, subst, arith}
use Rattle.std.proofs.lemmas.List.{append-nil, map-append}
use Rattle.fault_count.specs.Cause.{Rose}
use Rattle.stream_io.specs.declared.streams.Sink.{Ghosts as SinkGhosts}
use Rattle.plain_graph.specs.ElementMaps.{shown_line}
use Rattle.plain_graph.specs.Graph.{Graph}
use Rattle.plain_graph.specs.Lines.{AreResults}
use Rattle.plain_graph.specs.Meaning.{has_past_count, meaning}
use Rattle.plain_graph.specs.Reply.{DamagedRecord, DiskFailed, Fault, Faulted, NoMemory, Told, end_text, fault_line, text_line}
use Rattle.plain_graph.specs.declared.command.Command.TheVariants as commands
use Rattle.plain_graph.specs.declared.item.Item.{Item}
use Rattle.plain_graph.specs.declared.query.Query.{Query}
use Rattle.rec_bytes.specs.Space.{SameButReads, State}
use Rattle.prop_store.specs.Fault.{BlamesBroken}
use Rattle.rec_bytes.specs.declared.fault.Fault.{Fault as StopFault}
use Rattle.rec_bytes.specs.declared.fault.Fault.TheVariants as faults
use Rattle.rec_bytes.specs.declared.shape.Shape.{Shape}
use Rattle.rec_bytes.specs.declared.space.Reads.{Ghosts as SpaceGhosts}
use Rattle.store_rules.specs.Breaking.{Breaks}
use Rattle.store_rules.specs.Graph.{graph_of}
use Rattle.store_rules.specs.Views.{Records}
use Rattle.store_rules.proofs.Breaches.{none_broken}
use Rattle.traversal_run.specs.Reading.{IsNamedStore, IsRead}
use Rattle.traversal_run.specs.Row.{Stream, stream, with_first}
use Rattle.traversal_run.specs.Run.{meant, stopped_by, to_come}
use Rattle.traversal_run.specs.declared.run.Run.{Run}
use Rattle.graph_session.specs.Answer.{Gives}
use Rattle.graph_session.specs.Answering.{stop_of}
use Rattle.graph_session.specs.Exchange.{ShowsPast, ShowsSome, told_in}
use Rattle.graph_session.specs.Questions.{GivesReading, MeansFault}
use Rattle.graph_session.specs.QueryResults.{AddsNone, AddsShown}
use Rattle.graph_session.specs.ReplyLines.{AddsLine, BeginsLines}
use Rattle.graph_session.specs.Verdicts.{TellsBroken}
use Rattle.graph_session.specs.declared.reply_lines.ReplyLines.{ReplyLines}
use Rattle.graph_session.specs.declared.turn.Turn.{Turn}
use Rattle.graph_session.specs.declared.turn.Turn.TheVariants.{Go}
use Rattle.graph_session.proofs.ListedLines.{HasLines, lines-add, lines-last, lines-none, lines-stop}
use Rattle.graph_session.proofs.Questioned.{OfStore}
use Rattle.graph_session.proofs.Reasons.{HasAsked}
use Rattle.graph_session.proofs.WholeReplies.{BeginResults, all_lines, asks-query, lines-first, more_lines, query-all}
use Rattle.graph_session.proofs.WholeReplies.{query-stop, query-tell, reading_of, rest_of, results-more, results-none}
use Rattle.graph_session.proofs.WholeReplies.{whole-blames, whole-form, whole-means, whole-text, whole-told, whole_of}
use Rattle.graph_session.proofs.Streams.{Rose-from}

-- ---- spaces that were only read

pub records-same : (s t : State) → SameButReads s t → t.records ≡ s.records
records-same s t same = ap (λ (x : State). x.records) same

-- what holds of the records and the shape holds of them still
pub named-same : (s t : State) (names : List (List ℕ)) → SameButReads s t → IsNamedStore s.records s.shape names → IsNamedStore t.records t.shape names
named-same s t names same store =
    subst (λ (shape : Shape). IsNamedStore t.records shape names) (sym (ap (λ (x : State). x.shape) same))
    (subst (λ (records : Records). IsNamedStore records s.shape names) (sym (records-same s t same)) store)

-- and so it does of a record that is said to be damaged
blamed-same : (s t : State) (fault : StopFault) → SameButReads s t → BlamesBroken t.records t.shape fault → BlamesBroken s.records s.shape fault
blamed-same s t fault same blames = subst (λ (x : State). BlamesBroken x.records x.shape fault) same blames

same-on : (s t u : State) → SameButReads s t → SameButReads t u → SameButReads s u
same-on s t u first more = more ∙ ap (λ (x : State). record x { reads = u.reads }) first

module _ {R : Type 0} (space : SpaceGhosts R) where
  -- nothing was read
  pub is_read-none : ((a : R) → space.onward a a) → (r : R) → IsRead space r r
  is_read-none stays r = record { same = refl; onward = stays r; later = omega arith }

  -- more was read
  pub is_read-on : ((a b c : R) → space.onward a b → space.onward b c → space.onward a c) → (a b c : R) → IsRead space a b → IsRead space b c → IsRead space a c
  is_read-on further a b c first more = record {
    same = same-on (space.state a) (space.state b) (space.state c) first.same more.same;
    onward = further a b c first.onward more.onward;
    later = let early = first.later in let late = more.later in omega (arith, early, late);
  }

-- ---- results that come

first-first : (found : List Item) (item : Item) (coming : Stream) → with_first found (with_first (item ∷ []) coming) ≡ with_first (found ++ item ∷ []) coming
first-first found item coming = λ i. record { items = sym (append_assoc found (item ∷ []) coming.items) i; past = coming.past }

-- Some results of a query were found, and the run has the others. Each that was found has a line.
pub record IsRunning {R K : Type 0} (space : SpaceGhosts R) (sink : SinkGhosts K) (names : List (List ℕ)) (query : Query) (old now : R)
    (was held : ReplyLines K) (run : Run) : Type 0 where
  pub found : List Item
  pub lines : List (List ℕ)
  pub formed : AreResults query.maps lines
  pub shown : OfStore space names old (λ graph. lines ≡ map (shown_line graph query.maps) found)
  pub there : OfStore space names old (λ graph. HasAsked graph (commands.Query query))
  pub coming : OfStore space names old (λ graph. meant graph query ≡ with_first found (to_come graph run))
  pub goes : stopped_by run ≡ None
  pub read : IsRead space old now
  pub has : HasLines sink was held lines

-- nothing was found yet
pub running-first : {R K : Type 0} {space : SpaceGhosts R} {sink : SinkGhosts K} (names : List (List ℕ)) (query : Query) {old now : R}
    → IsRead space old now → {was held : ReplyLines K} → BeginsLines was held → (run : Run)
    → OfStore space names old (λ graph. to_come graph run ≡ meant graph query) → OfStore space names old (λ graph. HasAsked graph (commands.Query query))
    → stopped_by run ≡ None
    → IsRunning space sink names query old now was held run
running-first names query read empty run begins there goes = record {
  found = [];
  lines = [];
  formed = results-none query.maps;
  shown = λ told store. refl;
  there = there;
  coming = λ told store. sym (begins told store);
  goes = goes;
  read = read;
  has = lines-none empty;
}

module _ {R K : Type 0} {space : SpaceGhosts R} {sink : SinkGhosts K} {names : List (List ℕ)} {query : Query}
    (further : (a b c : R) → space.onward a b → space.onward b c → space.onward a c) {old now : R} {was held : ReplyLines K}
    {run : Run} (running : IsRunning space sink names query old now was held run) where
  abbrev graph : Graph
  graph = graph_of (space.state old).records

  abbrev line_of : Item → List ℕ
  line_of = shown_line graph query.maps

  -- the store is as it was at the start
  pub named-now : IsNamedStore (space.state old).records (space.state old).shape names → IsNamedStore (space.state now).records (space.state now).shape names
  named-now store = named-same (space.state old) (space.state now) names running.read.same store

  -- what the run says of the records as they are now, it says of those at the start
  pub at_start : (P : Graph → Type 0) → OfStore space names now P → OfStore space names old P
  at_start P says told store = subst (λ (records : Records). P (graph_of records)) (records-same (space.state old) (space.state now) running.read.same)
      (says told (named-now store))

  -- the results so far, with what is still to come
  first-found : (coming : Stream) → to_come graph run ≡ coming → OfStore space names old (λ graph. meant graph query ≡ with_first running.found coming)
  first-found coming is told store = running.coming told store ∙ ap (with_first running.found) is

  are-first : OfStore space names old (λ graph. BeginResults running.found (meaning graph query))
  are-first told store = ((to_come graph run).items, sym (ap (λ (s : Stream). s.items) (running.coming told store)))

  -- the lines so far are the first of those that the query asks for
  begin-lines : OfStore space names old (λ graph. (more : List (List ℕ)) × (running.lines ++ more ≡ all_lines graph query))
  begin-lines told store =
      let all = lines-first line_of running.found (meaning graph query) (are-first told store) in
      (all.0, ap (λ (lines : List (List ℕ)). lines ++ all.0) (running.shown told store) ∙ all.1)

  module _ {next : R} (reads : IsRead space now next) where
    read-on : IsRead space old next
    read-on = is_read-on space further old now next running.read reads

    -- all results were found
    pub running-end : OfStore space names now (λ graph. to_come graph run ≡ stream []) → (then : K) (turn : Turn)
        → Gives sink (held.buffer.now.bytes ++ (held.prefix.now ++ text_line end_text)) held.output.now then turn
        → GivesReading space sink names (commands.Query query) was.prefix.now old next was.output.now then turn
    running-end ends then turn gives = record {
      reply = Told running.lines end_text;
      form = query-tell query running.lines running.formed;
      gives = lines-last running.has (text_line end_text) then turn gives;
      means = λ told store.
          let all = first-found (stream []) (at_start (λ g. to_come g run ≡ stream []) ends told store) told store in
          query-all graph query (running.there told store) running.lines
          (running.shown told store ∙ ap (map line_of) (sym (ap (λ (s : Stream). s.items) all ∙ append-nil running.found))) (ap (λ (s : Stream). s.past) all);
      judges = λ told. record { verdict = λ is. cc; blames = tt };
      told = λ blames. absurd (blames refl);
      read = read-on;
      idle = λ spared. absurd ((asks-query query).unspared spared);
    }

    -- the run stopped with a fault
    pub running-fault : (fault : Fault) → OfStore space names old (λ graph. MeansFault graph (commands.Query query) running.lines fault)
        → (told_in fault ≢ 0 → Rose (space.faults now) (space.faults next))
        → (space.tells → TellsBroken (space.state old).records (space.state old).shape (Faulted running.lines fault)) → (then : K) (turn : Turn)
        → Gives sink (held.buffer.now.bytes ++ (held.prefix.now ++ fault_line fault)) held.output.now then turn
        → GivesReading space sink names (commands.Query query) was.prefix.now old next was.output.now then turn
    running-fault fault means rose broken then turn gives = record {
      reply = Faulted running.lines fault;
      form = query-stop query running.lines running.formed fault;
      gives = lines-last running.has (fault_line fault) then turn gives;
      means = λ told store. means told store;
      judges = λ told. record { verdict = λ is. cc; blames = broken told };
      told = λ blames. Rose-from (space.faults old) (space.faults now) (space.faults next) running.read.later (rose blames);
      read = read-on;
      idle = λ spared. absurd ((asks-query query).unspared spared);
    }

  -- so they may stand before a fault
  pub shows-some : OfStore space names old (λ graph. ShowsSome graph (commands.Query query) running.lines)
  shows-some told store = inr (reading_of graph query, refl, begin-lines told store)

  -- where a count passes of what is to come, the query's passes
  past-found : OfStore space names now (λ graph. (to_come graph run).past ≡ true) → OfStore space names old (λ graph. has_past_count graph query ≡ true)
  past-found passes told store = ap (λ (s : Stream). s.past) (running.coming told store) ∙ at_start (λ g. (to_come g run).past ≡ true) passes told store

  -- so a count passes in what the query asks for
  pub shows-past : OfStore space names now (λ graph. (to_come graph run).past ≡ true)
      → OfStore space names old (λ graph. ShowsPast graph (commands.Query query) running.lines)
  shows-past passes told store = (reading_of graph query, refl, past-found passes told store, begin-lines told store)

  -- records were not read to their end
  pub running-stopped : {next : R} → IsRead space now next → (fault : StopFault) → (fault ≡ faults.Disk → Rose (space.faults now) (space.faults next))
      → (space.tells → BlamesBroken (space.state now).records (space.state now).shape fault)
      → (then : K) (turn : Turn) → Gives sink (held.buffer.now.bytes ++ (held.prefix.now ++ fault_line (stop_of fault))) held.output.now then turn
      → GivesReading space sink names (commands.Query query) was.prefix.now old next was.output.now then turn
  running-stopped reads faults.Memory rose blames then turn gives = running-fault reads NoMemory shows-some (λ told. absurd (told refl)) (λ told. tt) then turn
      gives
  running-stopped reads faults.Disk rose blames then turn gives = running-fault reads DiskFailed shows-some (λ told. rose refl) (λ told. tt) then turn gives
  running-stopped reads (faults.Damaged damage) rose blames then turn gives =
      let broken : space.tells → Breaks (space.state old).records (space.state old).shape damage = λ told.
      blamed-same (space.state old) (space.state now) (faults.Damaged damage) running.read.same (blames told) in
      running-fault reads (DamagedRecord damage.file damage.id) (λ told store. absurd (none_broken (space.state old).records (space.state old).shape store.store
      damage (broken told)))
      (λ told. absurd (told refl)) (λ told. (damage.rule, inl (broken told))) then turn gives

  -- ---- one more result

  module _ {mid : R} (comes-read : IsRead space now mid) (later : Run) (item : Item)
      (comes : OfStore space names now (λ graph. to_come graph run ≡ with_first (item ∷ []) (to_come graph later))) where
    found_more : OfStore space names old (λ graph. meant graph query ≡ with_first (running.found ++ item ∷ []) (to_come graph later))
    found_more told store =
        first-found (with_first (item ∷ []) (to_come graph later)) (at_start (λ g. to_come g run ≡ with_first (item ∷ []) (to_come g later)) comes told store)
        told store
        ∙ first-first running.found item (to_come graph later)

    -- what is read until its line is gathered
    read-to : {next : R} → IsRead space mid next → IsRead space old next
    read-to {next = next} reads = is_read-on space further old mid next (is_read-on space further old now mid running.read comes-read) reads

    module _ {new : ReplyLines K} {turn : Turn} (adds : AddsShown space sink names query.maps item mid held new turn) where
      -- the lines with its own
      formed-more : AreResults query.maps (running.lines ++ adds.line ∷ [])
      formed-more = results-more query.maps running.lines running.formed item adds.line adds.form

      shown-more : OfStore space names old (λ graph. running.lines ++ adds.line ∷ [] ≡ map (shown_line graph query.maps) (running.found ++ item ∷ []))
      shown-more told store =
          let same = is_read-on space further old now mid running.read comes-read in
          let line : adds.line ≡ line_of item
          = subst (λ (records : Records). adds.line ≡ shown_line (graph_of records) query.maps item)
          (records-same (space.state old) (space.state mid) same.same)
          (adds.shown told (named-same (space.state old) (space.state mid) names same.same store)) in
          (λ i. running.shown told store i ++ line i ∷ []) ∙ sym (map-append line_of running.found (item ∷ []))

      -- a result was found, and its line gathered
      pub running-on : {next : R} → IsRead space mid next → turn ≡ Go → stopped_by later ≡ None
          → IsRunning space sink names query old next was new later
      running-on reads is goes = record {
        found = running.found ++ item ∷ [];
        lines = running.lines ++ adds.line ∷ [];
        formed = formed-more;
        shown = shown-more;
        there = running.there;
        coming = found_more;
        goes = goes;
        read = read-to reads;
        has = lines-add running.has adds.line new (subst (λ (t : Turn). AddsLine sink (text_line adds.line) held new t) is adds.adds);
      }

      -- the sink failed
      pub running-stop : {next : R} → IsRead space mid next → turn ≢ Go
          → GivesReading space sink names (commands.Query query) was.prefix.now old next was.output.now new.output.now turn
      running-stop reads stops =
          let lines = running.lines ++ adds.line ∷ [] in
          let found = running.found ++ item ∷ [] in
          let more = more_lines graph query found in
          let past = has_past_count graph query in
          record {
            reply = whole_of past lines more;
            form = whole-form graph query lines found formed-more past;
            gives = subst (λ (text : List ℕ). Gives sink text was.output.now new.output.now turn) (whole-text was.prefix.now past lines more)
                (lines-stop running.has adds.line new turn adds.adds stops (rest_of was.prefix.now past more));
            means = λ told store. whole-means graph query lines found (running.there told store) (shown-more told store)
                ((to_come graph later).items, sym (ap (λ (s : Stream). s.items) (found_more told store))) past refl;
            judges = λ told. record { verdict = λ is. cc; blames = whole-blames (space.state old).records (space.state old).shape past lines more };
            told = λ blames. absurd (blames (whole-told past lines more));
            read = read-to reads;
            idle = λ spared. absurd ((asks-query query).unspared spared);
          }

    -- its line was not known
    pub running-unshown : {new : ReplyLines K} {then : K} {next : R} (fault : StopFault) → IsRead space mid next
        → AddsNone space mid next held new fault → (turn : Turn)
        → Gives sink (new.buffer.now.bytes ++ (new.prefix.now ++ fault_line (stop_of fault))) new.output.now then turn
        → GivesReading space sink names (commands.Query query) was.prefix.now old next was.output.now then turn
    running-unshown {new = new} {then = then} {next = next} fault reads none turn gives =
        running-stopped (is_read-on space further now mid next comes-read reads) fault
        (λ is. Rose-from (space.faults now) (space.faults mid) (space.faults next) comes-read.later (none.disk is))
        (λ told. blamed-same (space.state now) (space.state mid) fault comes-read.same (none.blames told)) then turn
        (subst (λ (lines : ReplyLines K). Gives sink (lines.buffer.now.bytes ++ (lines.prefix.now ++ fault_line (stop_of fault))) lines.output.now then turn)
        none.same gives)
