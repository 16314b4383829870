-- The turns of a sample of each of which a shipment is made.
use Rattle.std.proofs.Common.{◌≡◌, ◌≢◌, ◌∙◌, ℕ, zero, suc, ◌+◌, ◌<◌, ◌≤◌, ◌^◌, Bool, false, is_some, None, Some, List}
use Rattle.std.proofs.Common.{[], ◌∷◌, ◌++◌, length, ap, sym, subst, inl, inr, refl, arith, length-append}
use Rattle.disk_model.specs.declared.disk.Disk.{Ghosts as DiskGhosts}
use Rattle.stream_io.specs.Lines.{InputLine, Whole}
use Rattle.plain_graph.specs.Changes.{IsChange}
use Rattle.plain_graph.specs.Kinds.{AreChanges, Blanks, Bound, Change, Ending, Kind, Question, Sight, Upkeep}
use Rattle.plain_graph.specs.Lines.{kind_of}
use Rattle.plain_graph.specs.Reply as replies
use Rattle.plain_graph.specs.Reply.{Reply}
use Rattle.plain_graph.specs.declared.command.Command.{Command}
use Rattle.plain_graph.specs.declared.command.Command.TheVariants as commands
use Rattle.console_words.specs.declared.sample_options.SampleOptions.{SampleOptions}
use Rattle.rec_bytes.specs.Pairs.{Pairs}
use Rattle.txn_core.specs.Config.{shape_of}
use Rattle.follower.specs.Shipment.{most_shipped}
use Rattle.follower.specs.Shipping.{shipment_bytes}
use Rattle.graph_session.specs.Exchange.{CarriesKind, CarriesOut, ConsoleStep, DoesUpkeep, MakesChange, MovesBound}
use Rattle.graph_session.specs.SharedConsole.{IsSharedAt}
use Rattle.graph_session.specs.SharedExchange.{step_of}
use Rattle.graph_session.specs.SnapshotEffects.{Confirms, SharedView}
use Rattle.graph_session.specs.Snapshots.{SharedState}
use Rattle.graph_session.specs.State.{SpellsLine, State, session_in}
use Rattle.graph_session.specs.Tapping.{Acknowledges}
use Rattle.graph_session.proofs.OneCommand.{line_agrees}
use Rattle.graph_console.specs.Sending.{HasSent, Sends, Steps}
use Rattle.graph_console.specs.Following.{AnswersTapped, HasSentTurns, SendsSample}
use Rattle.graph_console.specs.Sample.{Adds, SampleState, sample_config, sample_start, sample_store, turn}
use Rattle.graph_console.specs.Sampling.{AnswersWell}
use Rattle.graph_console.proofs.Samples.{no_turns, turn_more}

-- ---- a line whose set has records

-- the line was acknowledged, and the console stands with the disk as before and has no open transaction
record IsAlone (line : InputLine) (reply : Reply) (old new : State) : Type 0 where
  acknowledges : Acknowledges false line reply
  standing : new.standing ≡ old.standing
  closed : new.open_one ≡ None

module _ (line : InputLine) (own : session_in line ≡ 0) (reply : Reply) (old new : State) (closed : old.open_one ≡ None)
    (told : ¬ Acknowledges false line reply → ⊥) where
  -- a command that is neither a change nor `commit`
  neither : (command : Command) → SpellsLine line command → ¬ IsChange command → command ≢ commands.Commit → ⊥
  neither command spelled no_change no_commit = told (λ acknowledges. elim acknowledges.2 [
    | inl commit ↦ no_commit (line_agrees line commands.Commit command commit spelled)
    | inr alone ↦ no_change (subst IsChange (line_agrees line command alone.1 spelled alone.3) alone.2)
  ])

  made : (command : Command) → SpellsLine line command → Confirms reply → IsChange command → MakesChange old command reply new → IsAlone line reply old new
  made command spelled confirms change (inl (transaction, opened, graph, weight, changes, weighs, same)) = let clash : None ≡ Some transaction = sym closed
      ∙ opened in cc
  made command spelled confirms change (inr (none, graph, changes, same)) = record {
    acknowledges = (own, confirms, inr (refl, command, change, spelled));
    standing = ap (λ (s : State). s.standing) same;
    closed = ap (λ (s : State). s.open_one) same ∙ closed;
  }

  bound : (command : Command) → SpellsLine line command → MovesBound old command reply new → ⊥
  bound commands.Begin spelled done = neither commands.Begin spelled (λ change. change) (λ e. cc)
  bound commands.Commit spelled done = let clash : None ≡ Some done.1 = sym closed ∙ done.2 in cc
  bound commands.Rollback spelled done = neither commands.Rollback spelled (λ change. change) (λ e. cc)
  bound command spelled never = absurd never

  upkeep : (command : Command) → SpellsLine line command → DoesUpkeep old command reply new → ⊥
  upkeep commands.Checkpoint spelled done = neither commands.Checkpoint spelled (λ change. change) (λ e. cc)
  upkeep commands.Reopen spelled done = neither commands.Reopen spelled (λ change. change) (λ e. cc)
  upkeep command spelled never = absurd never

  carried : (command : Command) → SpellsLine line command → Confirms reply → CarriesOut old command reply new → IsAlone line reply old new
  carried command spelled confirms carries = by (kind_of command) refl carries
    where
      by : (kind : Kind) → kind_of command ≡ kind → CarriesKind kind old command reply new → IsAlone line reply old new
      by Blanks is never = absurd never
      by Ending is never = absurd never
      by Sight is never = absurd never
      by Bound is here = absurd (bound command spelled here)
      by Upkeep is here = absurd (upkeep command spelled here)
      by Change is here = made command spelled confirms (subst AreChanges (sym is) tt) here
      by Question is here = absurd (neither command spelled (λ change. let clash : AreChanges Question = subst AreChanges is change in clash)
          (λ e. let clash : Question ≡ Bound = sym is ∙ ap kind_of e in cc))

module _ (line : InputLine) (own : session_in line ≡ 0) (failed : Bool) (old new : State) (closed : old.open_one ≡ None) where
  -- the step of the console, reply by reply
  stepped : (reply : Reply) → (¬ Acknowledges false line reply → ⊥) → ConsoleStep old (record { line = line; disk_failed = failed; reply = reply }) new
      → IsAlone line reply old new
  stepped replies.Silent told step = absurd (told (λ acknowledges. acknowledges.1))
  stepped (replies.Faulted lines fault) told step = absurd (told (λ acknowledges. acknowledges.1))
  stepped (replies.Refused why) told step = absurd (told (λ acknowledges. acknowledges.1))
  stepped replies.Done told step = carried line own replies.Done old new closed told step.1 step.2 tt step.3
  stepped (replies.NodeMade id) told step = carried line own (replies.NodeMade id) old new closed told step.1 step.2 tt step.3
  stepped (replies.EdgeMade id) told step = carried line own (replies.EdgeMade id) old new closed told step.1 step.2 tt step.3
  stepped (replies.Told lines last) told step = carried line own (replies.Told lines last) old new closed told step.1 step.2 tt step.3

-- a line of any session
shared_step : (line : InputLine) (failed : Bool) (reply : Reply) (old new : SharedState) → old.writer.open_one ≡ None → (¬ Acknowledges false line reply → ⊥)
    → (session : ℕ) → session_in line ≡ session → step_of session old (record { line = line; disk_failed = failed; reply = reply }) new
    → IsAlone line reply old.writer new.writer
shared_step line failed reply old new closed told (suc reader) is step =
    absurd (told (λ acknowledges. let clash : 0 ≡ suc reader = sym acknowledges.0 ∙ is in cc))
shared_step line failed reply old new closed told zero is (inl refused) = absurd (told (λ acknowledges. subst Confirms refused.1 acknowledges.1))
shared_step line failed reply old new closed told zero is (inr step) = stepped line is failed old.writer new.writer closed reply told step.1.0

-- ---- a turn more

module _ {D : Type 0} (g : DiskGhosts D) where
  -- no line was asked
  pub none_sent : (options : SampleOptions) (now : SharedView D) → HasSent g (shape_of (sample_config options)) [] now (sample_store options)
      → HasSentTurns g options 0 (sample_start options.seed) [] now
  unfolding no_turns
  none_sent options now sends = record {
    took = no_turns g options now sends.is_at;
    sends = sends;
    many = refl;
    live = refl;
    closed = refl;
  }

  -- the shipment of one more was made
  pub sent_more : (options : SampleOptions) (turns : ℕ) (sample next : SampleState) (sent : List (List ℕ)) (old new : SharedView D) (text : List ℕ)
      (tap : Pairs) → g.tells_reads → turns < 2 ^ 32
      → ((sent later : List (List ℕ)) (line : InputLine) (old new : SharedView D) (before : SharedState) (reply : Reply) (tap : Pairs) → HasSent g
      (shape_of (sample_config options)) sent old before
      → (steps : Steps g line old before reply new tap) → Sends line old reply new tap (shape_of (sample_config options)) sent later
      → HasSent g (shape_of (sample_config options)) later new steps.settles.shared.after)
      → HasSentTurns g options turns sample sent old → AnswersTapped g (turn sample).line text old new tap → Adds text (turn sample).after next → tap ≢ []
      → length tap ≤ most_shipped
      → HasSentTurns g options (turns + 1) next (sent ++ shipment_bytes (length sent + 1) tap ∷ []) new
  unfolding turn_more
  sent_more options turns sample next sent old new text tap reads few goes_on has answers adds some fits = record {
    took = turn_more g options turns sample next old new text has.took well adds;
    sends = goes_on sent (sent ++ shipment_bytes (length sent + 1) tap ∷ []) line old new has.took.last answers.reply tap has.sends steps
        (inl (acknowledges, fits, omega (arith, many), refl));
    many = length-append sent (shipment_bytes (length sent + 1) tap ∷ []) ∙ ap (λ (n : ℕ). n + 1) has.many;
    live = alone.standing ∙ has.live;
    closed = alone.closed;
  }
    where
      line : InputLine
      line = Whole (turn sample).line

      many : length sent ≡ turns
      many = has.many

      steps : Steps g line old has.took.last answers.reply new tap
      steps = answers.steps has.took.last has.took.is_at

      not_open : old.session.console.is_open ≡ false
      not_open = sym has.took.is_at.writer.opened ∙ ap is_some has.closed

      told : ¬ Acknowledges false line answers.reply → ⊥
      told none = some (steps.taps.empty (subst (λ (b : Bool). ¬ Acknowledges b line answers.reply) (sym not_open) none))

      alone : IsAlone line answers.reply has.took.last.writer steps.settles.shared.after.writer
      alone = shared_step line steps.settles.shared.disk_failed answers.reply has.took.last steps.settles.shared.after has.closed told (session_in line) refl
          (steps.settles.shared.step reads)

      acknowledges : Acknowledges old.session.console.is_open line answers.reply
      acknowledges = subst (λ (b : Bool). Acknowledges b line answers.reply) (sym not_open) alone.acknowledges

      well : (state : SharedState) → IsSharedAt g old state → AnswersWell g (turn sample).line text state new
      well state is_at =
          let settled = (answers.steps state is_at).settles.shared in
          record {
            exchange = record { line = line; disk_failed = settled.disk_failed; reply = answers.reply };
            after = settled.after;
            line_is = refl;
            text_is = sym answers.text_is;
            step = record { step = settled.step; blames = settled.blames };
            is_at = settled.arrives.is_at;
            well = answers.well;
          }

  -- all lines were asked
  pub sends_sample : (options : SampleOptions) (sample : SampleState) (sent : List (List ℕ)) (now : SharedView D)
      → HasSentTurns g options options.count sample sent now → SendsSample g.tells_reads options sample.x sent
  sends_sample options sample sent now has = record {
    run = has.took.run;
    last = has.took.last;
    steps = has.took.steps;
    generated = record { last = sample; turns = has.took.turned; many = has.took.many };
    x_is = refl;
    well = has.sends.well;
    many = has.many;
    graph = has.sends.graph has.live;
  }
