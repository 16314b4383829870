-- A sample as far as it has come: turns, and then lines.
use Rattle.std.proofs.Common.{◌<◌, suc, get_or, drop-cons, ◌≡◌, ◌⊎◌, inl, inr, ℕ, ◌+◌, false, List, [], ◌∷◌, ◌++◌, Some}
use Rattle.std.proofs.Common.{length, map, take, drop, refl, sym, ◌∙◌, ap, subst, arith, append_assoc, length-append}
use Rattle.std.proofs.lemmas.List.{append-nil, map_push, take-append-drop, take_more}
use Rattle.std.specs.List.{AllByRecursion}
use Rattle.disk_model.specs.declared.disk.Disk.{Ghosts as DiskGhosts}
use Rattle.stream_io.specs.Lines.{InputLine, Whole}
use Rattle.stream_io.specs.Streams.{TakesFront}
use Rattle.plain_graph.specs.Reply.{NoMemory as WantOfMemory, fault_line}
use Rattle.console_words.specs.declared.sample_options.SampleOptions.{SampleOptions}
use Rattle.graph_session.specs.Exchange.{Exchange}
use Rattle.graph_session.specs.SharedConsole.{IsSharedAt}
use Rattle.graph_session.specs.SharedExchange.{TakesSharedStep}
use Rattle.graph_session.specs.SnapshotEffects.{SharedView}
use Rattle.graph_session.specs.Snapshots.{SharedState}
use Rattle.graph_console.specs.Program.{Writes}
use Rattle.graph_console.specs.Run.{Run, exchange_text, run_text}
use Rattle.graph_console.specs.Sample.{Adds, EndsSample, LacksMemory, SampleState, Samples, TakesTurn, TakesTurns}
use Rattle.graph_console.specs.Sample.{last_lines, sample_store, sample_start, tells_failure, turn}
use Rattle.graph_console.specs.Sampling.{AnswersWell, Asks, SampledTo, TookTurns}
use Rattle.graph_console.specs.declared.exit.Exit.{Exit}
use Rattle.graph_console.specs.declared.exit.Exit.TheVariants.{NoMemory, OutputFault}
use Rattle.graph_console.proofs.Runs.{run_lines_on, run_on, run_text_on}

-- one turn more
pub turns_on : (first middle last : SampleState) (run : List Exchange) (x : Exchange) → TakesTurns first run middle → TakesTurn middle x last
    → TakesTurns first (run ++ x ∷ []) last
turns_on first middle last [] x turns one = (last, subst (λ (s : SampleState). TakesTurn s x last) turns one, refl)
turns_on first middle last (y ∷ run) x turns one = (turns.0, turns.1, turns_on turns.0 middle last run x turns.2 one)

-- no turn was taken
unfoldable pub no_turns : {D : Type 0} (disk : DiskGhosts D) (options : SampleOptions) (now : SharedView D) → IsSharedAt disk now (sample_store options)
    → TookTurns disk options 0 (sample_start options.seed) now
no_turns disk options now is_at = record {
  run = [];
  last = sample_store options;
  steps = refl;
  is_at = is_at;
  turned = refl;
  many = refl;
}

-- a turn was taken, whose line was answered well
unfoldable pub turn_more : {D : Type 0} (disk : DiskGhosts D) (options : SampleOptions) (turns : ℕ) (sample next : SampleState) (old new : SharedView D)
    (text : List ℕ) → TookTurns disk options turns sample old
    → ((state : SharedState) → IsSharedAt disk old state → AnswersWell disk (turn sample).line text state new) → Adds text (turn sample).after next
    → TookTurns disk options (turns + 1) next new
turn_more disk options turns sample next old new text took answers adds =
    let a : AnswersWell disk (turn sample).line text took.last new = answers took.last took.is_at in
    let one : TakesTurn sample a.exchange next = record {
      line = a.line_is;
      well = subst (λ (t : List ℕ). tells_failure t ≡ false) (sym a.text_is) a.well;
      adds = subst (λ (t : List ℕ). Adds t (turn sample).after next) (sym a.text_is) adds;
    } in
    record {
      run = took.run ++ a.exchange ∷ [];
      last = a.after;
      steps = run_on (TakesSharedStep disk.tells_reads) (sample_store options) took.last a.after took.run a.exchange took.steps a.step;
      is_at = a.is_at;
      turned = turns_on (sample_start options.seed) sample next took.run a.exchange took.turned one;
      many = length-append took.run (a.exchange ∷ []) ∙ ap (λ (n : ℕ). n + 1) took.many;
    }

-- one exchange more of which the same holds
all_on : (P : Exchange → Type 0) (run : List Exchange) (x : Exchange) → AllByRecursion P run → P x → AllByRecursion P (run ++ x ∷ [])
all_on P [] x all one = (one, tt)
all_on P (y ∷ run) x all one = (all.0, all_on P run x all.1 one)

-- nothing was taken or asked yet, and memory lacks
pub lacks_first : (tells : Type 0) (options : SampleOptions) → LacksMemory tells options (fault_line WantOfMemory)
lacks_first tells options = record {
  turns = 0;
  asked = [];
  short = inl (omega arith, refl);
  answered = [];
  last = sample_store options;
  run = record {
    made = [];
    steps = refl;
    generated = record { last = sample_start options.seed; turns = refl; many = refl };
    lines = refl;
    well = tt;
  };
  text = refl;
}

-- how a sample may end that was not stopped by its sink
abbrev Ending : Type 0 → SampleOptions → List ℕ → Type 0
Ending tells options text = EndsSample tells options text ⊎ LacksMemory tells options text

-- a front of a text, and the rest of it
split_front : (text bytes : List ℕ) (n : ℕ) → text ++ bytes ≡ (text ++ take n bytes) ++ drop n bytes
split_front text bytes n = ap (λ (bs : List ℕ). text ++ bs) (sym (take-append-drop n bytes)) ∙ sym (append_assoc text (take n bytes) (drop n bytes))

module _ {D : Type 0} {disk : DiskGhosts D} {options : SampleOptions} where
  -- all turns were taken, and nothing was asked
  pub sampled_first : (sample : SampleState) (now : SharedView D) → TookTurns disk options options.count sample now → SampledTo disk options [] now []
  sampled_first sample now took = record {
    answered = [];
    last = took.last;
    run = record {
      made = took.run;
      steps = subst (λ (run : List Exchange). Run disk.tells_reads (sample_store options) run took.last) (sym (append-nil took.run)) took.steps;
      generated = record { last = sample; turns = took.turned; many = took.many };
      lines = refl;
      well = tt;
    };
    is_at = took.is_at;
    text_is = refl;
  }

  -- one line more was answered well
  pub sampled_on : (asked : List (List ℕ)) (line reply text : List ℕ) (old new : SharedView D) (s : SampledTo disk options asked old text)
      → AnswersWell disk line reply s.last new
      → SampledTo disk options (asked ++ line ∷ []) new (text ++ reply)
  sampled_on asked line reply text old new s a = record {
    answered = s.answered ++ a.exchange ∷ [];
    last = a.after;
    run = record {
      made = s.run.made;
      steps =
          subst (λ (run : List Exchange). Run disk.tells_reads (sample_store options) run a.after) (append_assoc s.run.made s.answered (a.exchange ∷ []))
          (run_on (TakesSharedStep disk.tells_reads) (sample_store options) s.last a.after (s.run.made ++ s.answered) a.exchange s.run.steps a.step);
      generated = s.run.generated;
      lines =
          run_lines_on s.answered a.exchange
          ∙ ap (λ (lines : List InputLine). lines ++ a.exchange.line ∷ []) s.run.lines
          ∙ ap (λ (l : InputLine). map Whole asked ++ l ∷ []) a.line_is
          ∙ sym (map_push Whole asked line);
      well = all_on (λ x. tells_failure (exchange_text x) ≡ false) s.answered a.exchange s.run.well
          (subst (λ (t : List ℕ). tells_failure t ≡ false) (sym a.text_is) a.well);
    };
    is_at = a.is_at;
    text_is =
        ap (λ (t : List ℕ). t ++ reply) s.text_is
        ∙ ap (λ (t : List ℕ). run_text s.answered ++ t) (sym a.text_is)
        ∙ sym (run_text_on s.answered a.exchange);
  }

  -- all last lines were asked
  pub ends_sample : (now : SharedView D) (text : List ℕ) → SampledTo disk options last_lines now text → EndsSample disk.tells_reads options text
  ends_sample now text s = record { answered = s.answered; last = s.last; run = s.run; text = s.text_is }

  -- another line is to be asked, and memory lacks
  lacks_next : (asked : List (List ℕ)) (line : List ℕ) (later : List (List ℕ)) (now : SharedView D) (text : List ℕ) → last_lines ≡ asked ++ line ∷ later
      → SampledTo disk options asked now text
      → LacksMemory disk.tells_reads options (text ++ fault_line WantOfMemory)
  lacks_next asked line later now text all s = record {
    turns = options.count;
    asked = asked;
    short = inr (refl, line, later, all);
    answered = s.answered;
    last = s.last;
    run = s.run;
    text = ap (λ (t : List ℕ). t ++ fault_line WantOfMemory) s.text_is;
  }

  -- what was written so far is a prefix of what a sample ends with
  begins_ending : (asked later : List (List ℕ)) (now : SharedView D) (text : List ℕ) → last_lines ≡ asked ++ later → SampledTo disk options asked now text
      → (whole : List ℕ) × Ending disk.tells_reads options whole × (rest : List ℕ) × (whole ≡ text ++ rest)
  begins_ending asked [] now text all s = (
    text,
    inl (ends_sample now text (subst (λ (lines : List (List ℕ)). SampledTo disk options lines now text) (sym (all ∙ append-nil asked)) s)),
    [],
    sym
        (append-nil text),
  )
  begins_ending asked (line ∷ later) now text all s = (
    text ++ fault_line WantOfMemory,
    inr (lacks_next asked line later now text all s),
    fault_line
        WantOfMemory,
    refl,
  )

  -- the sample ends in this line
  pub ends_in_line : (asked : List (List ℕ)) (line : List ℕ) (later : List (List ℕ)) (old new : SharedView D) (text : List ℕ)
      (first old_taken new_taken : List ℕ) (exit : Exit) → last_lines ≡ asked ++ line ∷ later
      → (s : SampledTo disk options asked old text) → old_taken ≡ first ++ text → Asks disk line s.last new old_taken new_taken (Some exit)
      → Writes first new_taken (Samples disk.tells_reads options exit)
  ends_in_line asked line later old _ text first _ _ exit all s taken (inl lacks) = let written : List ℕ = text ++ fault_line WantOfMemory in (
    written,
    lacks.1 ∙ ap (λ (t : List ℕ). t ++ fault_line WantOfMemory) taken ∙ append_assoc first text (fault_line WantOfMemory),
    subst (λ (e : Exit). Samples disk.tells_reads options e written) (sym lacks.0) (lacks_next asked line later old text all s),
  )
  ends_in_line asked line later old new text first old_taken new_taken exit all s taken (inr (fails, inl front)) = let written : List ℕ =
      text ++ take front.0 (fault_line WantOfMemory) in (
        written,
        front.2 ∙ ap (λ (t : List ℕ). t ++ take front.0 (fault_line WantOfMemory)) taken ∙ append_assoc first text (take front.0 (fault_line WantOfMemory)),
        subst (λ (e : Exit). Samples disk.tells_reads options e written) (sym fails) (
          text ++ fault_line WantOfMemory,
          inr (lacks_next asked line later old text all s),
          drop front.0 (fault_line WantOfMemory),
          split_front text (fault_line WantOfMemory) front.0,
        ),
      )
  ends_in_line asked line later old new text first old_taken new_taken exit all s taken (inr (fails, inr (reply, answers, front))) =
      let written : List ℕ = text ++ take front.0 reply in
      let begins = begins_ending (asked ++ line ∷ []) later new (text ++ reply) (all ∙ sym (append_assoc asked (line ∷ []) later))
      (sampled_on asked line reply text old new s answers) in (
        written,
        front.2 ∙ ap (λ (t : List ℕ). t ++ take front.0 reply) taken ∙ append_assoc first text (take front.0 reply),
        subst (λ (e : Exit). Samples disk.tells_reads options e written) (sym fails) (
          begins.0,
          begins.1,
          drop front.0 reply ++ begins.2,
          begins.3 ∙ ap (λ (t : List ℕ). t ++ begins.2) (split_front text reply front.0) ∙ append_assoc written (drop front.0 reply) begins.2,
        ),
      )

-- A sample that lacks memory before it writes anything ends with that line, or with a prefix of it.
pub ends_first : (tells : Type 0) (options : SampleOptions) (old new : List ℕ) (exit : Exit) → ((exit ≡ NoMemory) × (new ≡ old ++ fault_line WantOfMemory))
    ⊎ ((exit ≡ OutputFault) × TakesFront old new (fault_line WantOfMemory))
    → Writes old new (Samples tells options exit)
ends_first tells options old new exit (inl lacks) =
    (fault_line WantOfMemory, lacks.1, subst (λ (e : Exit). Samples tells options e (fault_line WantOfMemory)) (sym lacks.0) (lacks_first tells options))
ends_first tells options old new exit (inr fails) = let written : List ℕ = take fails.1.0 (fault_line WantOfMemory) in (
  written,
  fails.1.2,
  subst (λ (e : Exit). Samples tells options e written) (sym fails.0) (
    fault_line WantOfMemory,
    inr (lacks_first tells options),
    drop fails.1.0 (fault_line WantOfMemory),
    sym (take-append-drop fails.1.0
        (fault_line WantOfMemory)),
  ),
)

-- There are five last lines.
pub count-last_lines : length last_lines ≡ 5
unfolding last_lines
count-last_lines = refl

-- all of them, up to the end
pub last_lines_all : (index : ℕ) → index ≡ 5 → take index last_lines ≡ last_lines
unfolding last_lines
last_lines_all index is = ap (λ (n : ℕ). take n last_lines) is

module _ (index : ℕ) (within : index < 5) (line : List ℕ) (line_is : line ≡ get_or last_lines index []) where
  at_line : index < length last_lines
  at_line = omega (arith, count-last_lines)

  -- those before a line, and it
  pub last_lines_more : take index last_lines ++ line ∷ [] ≡ take (index + 1) last_lines
  last_lines_more = ap (λ (l : List ℕ). take index last_lines ++ l ∷ []) line_is ∙ sym (take_more last_lines index [] at_line)

  -- those before a line, it, and those after it
  pub last_lines_split : last_lines ≡ take index last_lines ++ line ∷ drop (suc index) last_lines
  last_lines_split =
      sym (take-append-drop index last_lines)
      ∙ ap (λ (ls : List (List ℕ)). take index last_lines ++ ls) (drop-cons last_lines index [] at_line)
      ∙ ap (λ (l : List ℕ). take index last_lines ++ l ∷ drop (suc index) last_lines) (sym line_is)
