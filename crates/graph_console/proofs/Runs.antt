-- A run of the console, as far as the program's loop has come.
use Rattle.std.proofs.Common.{◌≡◌, ◌≢◌, ◌⊎◌, ⊎_elim, inl, inr, ℕ, ◌+◌, ◌-◌, ◌^◌, ◌<◌, ◌≤◌, Bool, true, false, List, []}
use Rattle.std.proofs.Common.{◌∷◌, ◌++◌, length, take, map, refl, sym, ◌∙◌, ap, subst, arith, append_assoc}
use Rattle.std.proofs.Common.{length-append, Some, cond}
use Rattle.std.proofs.lemmas.Bool.{cases_lt}
use Rattle.std.proofs.lemmas.List.{append-nil, map_push}
use Rattle.std.proofs.lemmas.Grind.{flat_map-append}
use Rattle.fault_count.specs.Cause.{Rose}
use Rattle.stream_io.specs.Lines.{InputLine, Pieces, pieces_of, line_of, lines_of, ended_lines}
use Rattle.stream_io.specs.Answers.{TakesLine}
use Rattle.stream_io.specs.Reading.{HasNoneLeft, Reading, ahead, IsFresh}
use Rattle.stream_io.specs.Streams.{TakesFront}
use Rattle.plain_graph.specs.Reply as replies
use Rattle.plain_graph.specs.Reply.{Reply}
use Rattle.graph_session.specs.Exchange.{Exchange, told_fault}
use Rattle.graph_session.specs.State.{IsQuit}
use Rattle.graph_session.specs.declared.health.Health.{Health}
use Rattle.graph_session.specs.declared.health.Health.TheVariants.{Live, Failed}
use Rattle.graph_console.specs.Run.{CountsRises, Course, RunBy, exchange_text, run_lines, run_text, told_faults, NoQuit, AreUpToQuit, AreFirstOf, LacksEnd}
use Rattle.graph_console.specs.Program.{RunTo, Serves, ServesAll, ServesEnded, Terms, Writes}
use Rattle.graph_console.specs.Serve.{TurnSays, Exchanges, Ends, Breaks, Progress, bytes_ahead}
use Rattle.graph_console.specs.declared.exit.Exit.{Exit}
use Rattle.graph_console.specs.declared.exit.Exit.TheVariants.{Done, StoreFailed, Usage, InputFault, OutputFault}
use Rattle.graph_console.specs.declared.exit.Exit.TheVariants.{NoMemory, BadFiles, ConfigDiffers, DiskFault}
use Rattle.graph_console.specs.declared.exit.Exit.TheVariants.{InputTooLong}
use Rattle.graph_console.proofs.LineLaws.{piece_first, piece_alone, pieces_joined, lines-piece, lines-last}

-- one step more
pub run_on : {V : Type 0} (Step : V → Exchange → V → Type 0) (first middle last : V) (run : List Exchange) (x : Exchange) → RunBy Step first run middle
    → Step middle x last → RunBy Step first (run ++ x ∷ []) last
run_on {V} Step first middle last [] x steps step = (last, subst (λ (s : V). Step s x last) steps step, refl)
run_on Step first middle last (y ∷ run) x steps step = (steps.0, steps.1, run_on Step steps.0 middle last run x steps.2 step)

no_quit_on : (lines : List InputLine) (line : InputLine) → NoQuit lines → ¬ IsQuit line → NoQuit (lines ++ line ∷ [])
no_quit_on [] line none not_quit = (not_quit, tt)
no_quit_on (l ∷ lines) line none not_quit = (none.0, no_quit_on lines line none.1 not_quit)

-- none of a run's lines is quit, and so its last one isn't
no_quit_last : (lines : List InputLine) (line : InputLine) → NoQuit (lines ++ line ∷ []) → ¬ IsQuit line
no_quit_last [] line none = none.0
no_quit_last (l ∷ lines) line none = no_quit_last lines line none.1

pub run_text_on : (run : List Exchange) (x : Exchange) → run_text (run ++ x ∷ []) ≡ run_text run ++ exchange_text x
run_text_on run x =
    flat_map-append (λ (y : Exchange). exchange_text y) run (x ∷ [])
    ∙ ap (λ (text : List ℕ). run_text run ++ text) (append-nil (exchange_text x))

pub run_lines_on : (run : List Exchange) (x : Exchange) → run_lines (run ++ x ∷ []) ≡ run_lines run ++ x.line ∷ []
run_lines_on run x = map_push (λ (y : Exchange). y.line) run x

told_faults_on : (run : List Exchange) (x : Exchange) → told_faults (run ++ x ∷ []) ≡ told_faults run + told_fault x.reply
told_faults_on [] x = omega arith
told_faults_on (y ∷ run) x = omega (arith, told_faults_on run x)

told_once : (reply : Reply) → (told_fault reply ≡ 0) ⊎ (told_fault reply ≡ 1)
told_once (replies.Faulted lines replies.DiskFailed) = inr refl
told_once (replies.Faulted lines fault) = inl refl
told_once reply = inl refl

-- the reply blames the disk only where it failed in the line
abbrev pub Blames : Exchange → Type 0
Blames x = told_fault x.reply ≢ 0 → x.disk_failed ≡ true

-- so it is with each step of the course
abbrev pub AllBlame : {V : Type 0} → Course V → Type 0
AllBlame {V} course = (old : V) (x : Exchange) (new : V) → course.step old x new → Blames x

-- only a reply to a line in which the disk failed says so
told_failed : (x : Exchange) → Blames x → (told_fault x.reply ≡ 0) ⊎ ((told_fault x.reply ≡ 1) × (x.disk_failed ≡ true))
told_failed x blames = ⊎_elim (λ none. inl none) (λ one. inr (one, blames (λ none. cc))) (told_once x.reply)

-- a count rises by one at least where a fault is told
count_on : (failed : Bool) (told total before middle after : ℕ) → (told ≡ 0) ⊎ ((told ≡ 1) × (failed ≡ true)) → (total + before ≤ middle)
    ⊎ (2 ^ 64 - 1 ≤ middle) → (failed ≡ true → Rose middle after) → middle ≤ after
    → ((total + told) + before ≤ after) ⊎ (2 ^ 64 - 1 ≤ after)
count_on failed told total before middle after is (inr last) counted later = inr (omega arith)
count_on failed told total before middle after (inl none) (inl counts) counted later = inl (omega arith)
count_on failed told total before middle after (inr one) (inl counts) counted later =
    let one_more : Rose middle after = counted one.1 in
    elim (cases_lt middle after) [ inl below ↦ inl (omega (arith, one.0)) | inr not_below ↦ inr (omega arith) ]

-- a count that kept up with a run keeps up with it and one exchange more
counts_on : (before middle after : ℕ) (run : List Exchange) (x : Exchange) → Blames x → CountsRises before middle run
    → (x.disk_failed ≡ true → Rose middle after) → middle ≤ after
    → CountsRises before after (run ++ x ∷ [])
counts_on before middle after run x blames counts counted later =
    subst (λ (n : ℕ). (n + before ≤ after) ⊎ (2 ^ 64 - 1 ≤ after)) (sym (told_faults_on run x))
    (count_on x.disk_failed (told_fault x.reply) (told_faults run) before middle after (told_failed x blames) counts counted later)

-- a count that kept up with a run keeps up with it later, and from an earlier one on
pub counts_within : (earlier before middle after : ℕ) (run : List Exchange) → earlier ≤ before → CountsRises before middle run → middle ≤ after
    → CountsRises earlier after run
counts_within earlier before middle after run begins (inl counts) later = inl (omega arith)
counts_within earlier before middle after run begins (inr last) later = inr (omega arith)

-- the line that was taken is the first of those ahead
first_line : (line : InputLine) (before after : List ℕ) (ended : Bool) → TakesLine line before after ended → lines_of before ≡ line ∷ lines_of after
first_line line before after ended t = elim t.split [
  | inl by_newline ↦ ap lines_of by_newline ∙ lines-piece t.piece after t.no_newline ∙ ap (λ (l : InputLine). l ∷ lines_of after) t.line_is
  | inr at_end ↦
      ap lines_of at_end.0
      ∙ lines-last t.piece t.no_newline at_end.1
      ∙ ap (λ (l : InputLine). l ∷ []) t.line_is
      ∙ ap (λ (bs : List ℕ). line ∷ lines_of bs) (sym at_end.2)
]

-- Of the input, the bytes up to the end of a line were used, and the lines of the run are those that they hold.
pub record Boundary (input ahead_of : List ℕ) (lines : List InputLine) : Type 0 where
  pub used : List ℕ
  pub input_is : input ≡ used ++ ahead_of
  pub no_rest : (pieces_of used).rest ≡ []
  pub lines_are : ended_lines used ≡ lines

-- What a turn leaves of a source that answers its end: fewer than 2^30 bytes were taken, and none is left.
pub record EndsSource (old new : Progress) : Type 0 where
  pub below_limit : old.reader.ended ≡ false → new.reader.ended ≡ true → new.reader.taken < 2 ^ 30
  pub none_left : HasNoneLeft old.reader old.left → HasNoneLeft new.reader new.left

-- an input of whose end the source has told has fewer than 2^30 bytes
short_input : (start old new : Progress) → (old.reader.ended ≡ true → length start.left < 2 ^ 30) → old.reader.taken + length old.left ≡ length start.left
    → new.reader.taken + length new.left ≡ old.reader.taken + length old.left
    → EndsSource old new → HasNoneLeft old.reader old.left → new.reader.ended ≡ true → length start.left < 2 ^ 30
short_input start old new was_short so_far counted source was_none ended = by old.reader.ended refl
  where
    by : (b : Bool) → old.reader.ended ≡ b → length start.left < 2 ^ 30
    by true is = was_short is
    by false is = let none : length new.left ≡ 0 = ap length (source.none_left was_none ended) in
        omega (arith, none, so_far, counted, source.below_limit is ended)

-- A run from the first state has come from the start to here, and to a state that the session is at.
pub record Serving {V : Type 0} (course : Course V) (first : V) (is_at : List Exchange → V → Type 0) (start now : Progress) : Type 0 where
  pub run : List Exchange
  pub state : V
  pub steps : RunBy course.step first run state
  pub arrives : is_at run state
  pub no_quit : NoQuit (run_lines run)
  pub text : now.taken ≡ start.taken ++ run_text run
  pub lines : run_lines run ++ lines_of (bytes_ahead now) ≡ lines_of start.left
  pub boundary : now.reader.ended ≡ false → Boundary start.left (bytes_ahead now) (run_lines run)
  pub counted : now.reader.taken + length now.left ≡ length start.left
  pub none_left : HasNoneLeft now.reader now.left
  pub short : now.reader.ended ≡ true → length start.left < 2 ^ 30
  pub counts : CountsRises start.faults now.faults run

fresh_ahead : (reader : Reading) (left : List ℕ) → reader.ended ≡ false → reader.held ≡ [] → ahead reader left ≡ left
fresh_ahead reader left goes_on none = ap (λ (b : Bool). cond b reader.held (reader.held ++ left)) goes_on ∙ ap (λ (bs : List ℕ). bs ++ left) none

pub serving_first : {V : Type 0} (course : Course V) (first : V) (is_at : List Exchange → V → Type 0) (start : Progress) → is_at [] first → IsFresh start.reader
    → Serving course first is_at start start
serving_first course first is_at start at_first fresh =
    let same = fresh_ahead start.reader start.left fresh.ended fresh.held in
    record {
      run = [];
      state = first;
      steps = refl;
      arrives = at_first;
      no_quit = tt;
      text = sym (append-nil start.taken);
      lines = ap lines_of same;
      boundary = λ _. record { used = []; input_is = sym same; no_rest = refl; lines_are = refl };
      counted = ap (λ n. n + length start.left) fresh.taken ∙ omega arith;
      none_left = λ ended. absurd (cc (fresh.ended, ended));
      short = λ ended. absurd (cc (fresh.ended, ended));
      counts = inl (omega arith);
    }

-- A turn that comes to a state carries on what is said of the run so far: by its line, or without one.
pub record Carries {V : Type 0} (course : Course V) (run : List Exchange) (state : V) (comes_to : V → Type 0) (is_at : List Exchange → V → Type 0) : Type 0
  where
    pub on : (x : Exchange) (last : V) → course.step state x last → comes_to last → is_at (run ++ x ∷ []) last
    pub stays : comes_to state → is_at run state

-- What is said of the whole run: its end, by the state that the session is then at and by the disk's count.
abbrev Closes : {V : Type 0} → (List Exchange → V → Type 0) → (List Exchange → V → Type 0) → ℕ → ℕ → Type 0
Closes {V} is_at ends before after = (run : List Exchange) (last : V) → is_at run last → CountsRises before after run → ends run last

-- What is served when a line's exchange has come to its end.
module _ {V : Type 0} (course : Course V) (blamed : AllBlame course) (first : V) (old_is_at is_at : List Exchange → V → Type 0) (comes_to : V → Type 0)
    (start old new : Progress) (s : Serving course first old_is_at start old) (carries : Carries course s.run s.state comes_to is_at)
    (says : V → Exchange → Type 0) (e : Exchanges course s.state comes_to old new says) where
  abbrev run_after : List Exchange
  run_after = s.run ++ e.exchange ∷ []

  steps_after : RunBy course.step first run_after e.after
  steps_after = run_on course.step first s.state e.after s.run e.exchange s.steps e.step

  counts_after : old.faults ≤ new.faults → CountsRises start.faults new.faults run_after
  counts_after later = counts_on start.faults old.faults new.faults s.run e.exchange (blamed s.state e.exchange e.after e.step) s.counts e.counted later

  lines_after : run_lines run_after ≡ run_lines s.run ++ e.exchange.line ∷ []
  lines_after = run_lines_on s.run e.exchange

  all_lines : lines_of start.left ≡ run_lines run_after ++ lines_of (bytes_ahead new)
  all_lines =
      sym s.lines
      ∙ ap (λ (ls : List InputLine). run_lines s.run ++ ls) (first_line e.exchange.line (bytes_ahead old) (bytes_ahead new) new.reader.ended e.takes)
      ∙ sym (append_assoc (run_lines s.run) (e.exchange.line ∷ []) (lines_of (bytes_ahead new)))
      ∙ ap (λ (ls : List InputLine). ls ++ lines_of (bytes_ahead new)) (sym lines_after)

  text_after : start.taken ++ run_text run_after ≡ old.taken ++ exchange_text e.exchange
  text_after =
      ap (λ (text : List ℕ). start.taken ++ text) (run_text_on s.run e.exchange)
      ∙ sym (append_assoc start.taken (run_text s.run) (exchange_text e.exchange))
      ∙ ap (λ (text : List ℕ). text ++ exchange_text e.exchange) (sym s.text)

  no_quit_after : ¬ IsQuit e.exchange.line → NoQuit (run_lines run_after)
  no_quit_after not_quit = subst NoQuit (sym lines_after) (no_quit_on (run_lines s.run) e.exchange.line s.no_quit not_quit)

  -- behind a newline the bytes used end with a line again
  boundary_after : old.reader.ended ≡ false → new.reader.ended ≡ false → Boundary start.left (bytes_ahead new) (run_lines run_after)
  boundary_after old_goes_on new_goes_on = elim e.takes.split [
    | inl by_newline ↦
        let b = s.boundary old_goes_on in
        let piece = e.takes.piece in
        let alone : pieces_of (piece ++ 10 ∷ []) ≡ record { ended = piece ∷ []; rest = [] } = piece_first piece [] e.takes.no_newline in
        let joined : pieces_of (b.used ++ piece ++ 10 ∷ []) ≡ record { ended = (pieces_of b.used).ended ++ piece ∷ []; rest = [] } =
        ap pieces_of (append_assoc b.used piece (10 ∷ []))
        ∙ pieces_joined (piece ++ 10 ∷ []) b.used b.no_rest
        ∙ ap (λ (ps : Pieces). record { ended = (pieces_of b.used).ended ++ ps.ended; rest = ps.rest }) alone in
        record {
          used = b.used ++ piece ++ 10 ∷ [];
          input_is =
              b.input_is
              ∙ ap (λ (bs : List ℕ). b.used ++ bs) by_newline
              ∙ sym (append_assoc b.used piece (10 ∷ bytes_ahead new))
              ∙ sym (append_assoc (b.used ++ piece) (10 ∷ []) (bytes_ahead new));
          no_rest = ap (λ (ps : Pieces). ps.rest) joined;
          lines_are =
              ap (λ (ps : Pieces). map line_of ps.ended) joined
              ∙ map_push line_of (pieces_of b.used).ended piece
              ∙ ap (λ (ls : List InputLine). ls ++ line_of piece ∷ []) b.lines_are
              ∙ ap (λ (l : InputLine). run_lines s.run ++ l ∷ []) e.takes.line_is
              ∙ sym lines_after;
        }
    | inr at_end ↦ absurd (cc (at_end.3, new_goes_on))
  ]

  pub serving_on : ¬ IsQuit e.exchange.line → new.taken ≡ old.taken ++ exchange_text e.exchange → old.faults ≤ new.faults
      → (new.reader.ended ≡ false → old.reader.ended ≡ false)
      → new.reader.taken + length new.left ≡ old.reader.taken + length old.left → EndsSource old new → Serving course first is_at start new
  serving_on not_quit text later stays counted source = record {
    run = run_after;
    state = e.after;
    steps = steps_after;
    arrives = carries.on e.exchange e.after e.step e.arrives;
    no_quit = no_quit_after not_quit;
    text = text ∙ sym text_after;
    lines = sym all_lines;
    boundary = λ goes_on. boundary_after (stays goes_on) goes_on;
    counted = counted ∙ s.counted;
    none_left = source.none_left s.none_left;
    short = short_input start old new s.short s.counted counted source s.none_left;
    counts = counts_after later;
  }

  module _ (terms : Terms course) (begins : terms.starts first) (closes : Closes is_at (terms.ends first) start.faults new.faults)
      (later : old.faults ≤ new.faults) where
    -- the run with this exchange ends so
    closed : (P : List Exchange → V → Type 0) → P run_after e.after → RunTo terms P
    closed P says_so = record {
      first = first;
      begins = begins;
      run = run_after;
      last = e.after;
      steps = steps_after;
      arrives = closes run_after e.after (carries.on e.exchange e.after e.step e.arrives) (counts_after later);
      says = says_so;
    }

    pub serves_quit : (health : Health) → course.health e.after ≡ health → IsQuit e.exchange.line → new.taken ≡ old.taken ++ exchange_text e.exchange
        → Writes start.taken new.taken (ServesAll terms health start.left)
    serves_quit health ends_so is_quit text = (
      run_text run_after,
      text ∙ sym text_after,
      closed (λ run last. (course.health last ≡ health) × AreUpToQuit (lines_of start.left) (run_lines run) × (NoQuit (run_lines run) → length start.left < 2 ^
          30) × (run_text run_after ≡ run_text run)) (
            ends_so,
            inr (record {
              before = run_lines s.run;
              quit = e.exchange.line;
              later = lines_of (bytes_ahead new);
              no_quit = s.no_quit;
              is_quit = is_quit;
              done_is = lines_after;
              lines_are = all_lines;
            }),
            (λ none. absurd (no_quit_last (run_lines s.run) e.exchange.line (subst NoQuit lines_after none) is_quit)),
            refl,
          ),
    )

    pub serves_short : ¬ IsQuit e.exchange.line → TakesFront old.taken new.taken (exchange_text e.exchange)
        → Writes start.taken new.taken (Serves terms OutputFault start.left new.left)
    serves_short not_quit front = let written : List ℕ = run_text s.run ++ take front.0 (exchange_text e.exchange) in (
      written,
      front.2 ∙ ap (λ (text : List ℕ). text ++ take front.0 (exchange_text e.exchange)) s.text
          ∙ append_assoc start.taken (run_text s.run) (take front.0 (exchange_text e.exchange)),
      inl (closed (λ run last. AreFirstOf (lines_of start.left) (run_lines run) × NoQuit (run_lines run) × LacksEnd run written) (
        (lines_of (bytes_ahead new), all_lines),
        no_quit_after not_quit,
        record { before = s.run; last = e.exchange; length_of_prefix = front.0; run_is = refl; short = front.1; text_is = refl },
      )),
    )

-- What is served when the run ends without a line, in a state that the session is still at.
module _ {V : Type 0} (course : Course V) (first : V) (old_is_at is_at : List Exchange → V → Type 0) (comes_to : V → Type 0) (start old new : Progress)
    (s : Serving course first old_is_at start old) (carries : Carries course s.run s.state comes_to is_at) (arrives : comes_to s.state)
    (terms : Terms course) (begins : terms.starts first) (closes : Closes is_at (terms.ends first) start.faults new.faults) (later : old.faults ≤ new.faults)
  where
    -- the run so far ends so
    closed_here : (P : List Exchange → V → Type 0) → P s.run s.state → RunTo terms P
    closed_here P says_so = record {
      first = first;
      begins = begins;
      run = s.run;
      last = s.state;
      steps = s.steps;
      arrives = closes s.run s.state (carries.stays arrives) (counts_within start.faults start.faults old.faults new.faults s.run (omega arith) s.counts later);
      says = says_so;
    }

    pub serves_end : (health : Health) → course.health s.state ≡ health → bytes_ahead old ≡ [] → new.taken ≡ old.taken → length start.left < 2 ^ 30
        → Writes start.taken new.taken (ServesAll terms health start.left)
    serves_end health ends_so none same short = let all = sym (append-nil (run_lines s.run)) ∙ ap (λ (bs : List ℕ). run_lines s.run ++ lines_of bs) (sym none)
        ∙ s.lines in (
          run_text s.run,
          same ∙ s.text,
          closed_here (λ run last. (course.health last ≡ health) × AreUpToQuit (lines_of start.left) (run_lines run) × (NoQuit (run_lines run)
              → length start.left < 2 ^ 30) × (run_text s.run ≡ run_text run))
              (ends_so, inl (subst NoQuit all s.no_quit, all), (λ none. short), refl),
        )

    module _ (b : Breaks course s.state comes_to old new) where
      boundary : Boundary start.left (bytes_ahead old) (run_lines s.run)
      boundary = s.boundary b.stops.had_not_ended

      left_ahead : bytes_ahead new ≡ new.left
      left_ahead = fresh_ahead new.reader new.left b.stops.has_not_ended b.stops.none_held

      input_is_taken : start.left ≡ (boundary.used ++ b.drops.piece) ++ new.left
      input_is_taken =
          boundary.input_is
          ∙ ap (λ (bs : List ℕ). boundary.used ++ bs) (b.drops.split ∙ ap (λ (bs : List ℕ). b.drops.piece ++ bs) left_ahead)
          ∙ sym (append_assoc boundary.used b.drops.piece new.left)

      abbrev serves_ended : ServesEnded start.left new.left s.run
      serves_ended = record {
        taken = boundary.used ++ b.drops.piece;
        input_is = input_is_taken;
        lines =
            sym boundary.lines_are
            ∙ ap (map line_of) (sym (append-nil (pieces_of boundary.used).ended))
            ∙ ap (λ (ps : Pieces). map line_of ((pieces_of boundary.used).ended ++ ps.ended)) (sym (piece_alone b.drops.piece b.drops.no_newline))
            ∙ ap (λ (ps : Pieces). map line_of ps.ended) (sym (pieces_joined b.drops.piece boundary.used boundary.no_rest));
        no_quit = s.no_quit;
      }

      pub serves_fault : Writes start.taken new.taken (Serves terms InputFault start.left new.left)
      serves_fault = (
        run_text s.run,
        b.output ∙ s.text,
        closed_here (λ run last. ServesEnded start.left new.left run × (run_text s.run ≡ run_text run)) (serves_ended, refl),
      )

      pub serves_too_long : new.reader.taken ≡ 2 ^ 30 → new.reader.taken + length new.left ≡ old.reader.taken + length old.left
          → Writes start.taken new.taken (Serves terms InputTooLong start.left new.left)
      serves_too_long limit counted =
          let all = boundary.used ++ b.drops.piece in
          let size : length start.left ≡ length all + length new.left = ap length input_is_taken ∙ length-append all new.left in (
            run_text s.run,
            b.output ∙ s.text,
            closed_here (λ run last. (ended : ServesEnded start.left new.left run) × (length ended.taken ≡ 2 ^ 30) × (run_text s.run ≡ run_text run))
                (serves_ended, omega (arith, size, limit, counted, s.counted), refl),
          )

-- What a turn that ends the run has served.
module _ {V : Type 0} (course : Course V) (blamed : AllBlame course) (first : V) (old_is_at is_at : List Exchange → V → Type 0) (comes_to : V → Type 0)
    (start old new : Progress) (s : Serving course first old_is_at start old) (carries : Carries course s.run s.state comes_to is_at)
    (terms : Terms course) (begins : terms.starts first) (closes : Closes is_at (terms.ends first) start.faults new.faults) (later : old.faults ≤ new.faults)
    (counted : new.reader.taken + length new.left ≡ old.reader.taken + length old.left) (source : EndsSource old new) where
  serves_all : (health : Health) → Ends course s.state comes_to old new health
      → Writes start.taken new.taken (ServesAll terms health start.left)
  serves_all health (inl at_end) = serves_end course first old_is_at is_at comes_to start old new s carries at_end.2 terms begins closes later health at_end.1
      at_end.0 at_end.3 (short_input start old new s.short s.counted counted source s.none_left at_end.4)
  serves_all health (inr quits) = serves_quit course blamed first old_is_at is_at comes_to start old new s carries _ quits terms begins closes later health
      quits.more.1 quits.more.0 quits.more.2

  pub served : (exit : Exit) → TurnSays course s.state comes_to old new (Some exit)
      → Writes start.taken new.taken (Serves terms exit start.left new.left)
  served Done says = serves_all Live says
  served StoreFailed says = serves_all Failed says
  served Usage says = absurd says
  served InputFault says = serves_fault course first old_is_at is_at comes_to start old new s carries says.arrives terms begins closes later says
  served OutputFault says = serves_short course blamed first old_is_at is_at comes_to start old new s carries _ says terms begins closes later says.more.0
      says.more.1
  served NoMemory says = absurd says
  served BadFiles says = absurd says
  served (ConfigDiffers stored asked) says = absurd says
  served DiskFault says = absurd says
  served InputTooLong says = serves_too_long course first old_is_at is_at comes_to start old new s carries says.0.arrives terms begins closes later says.0
      says.1 counted
