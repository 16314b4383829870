use Rattle.std.proofs.Common.{◌≡◌, ◌≢◌, ◌∙◌, ◌+◌, ◌≤◌, List, ℕ, [], arith, ap, length, subst, sym}
use Rattle.std.proofs.lemmas.Bool.Decides.{nat_tests}
use Rattle.rec_bytes.specs.Pairs.{Pairs}
use Rattle.txn_core.specs.Config.{shape_of}
use Rattle.follower.specs.Shipment.{most_shipped}
use Rattle.graph_session.specs.Session.{shared_view}
use Rattle.graph_console.specs.Following.{AnswersTapped, HasSentTurns, SendsSample}
use Rattle.graph_console.specs.Sample.{Adds, SampleState, sample_config, turn}
use Rattle.graph_console.proofs.SentTurns.{none_sent, sends_sample, sent_more}
use Rattle.graph_console.proofs.follow.sending.send_each.Goals as goal

pub lines-init : goal.lines-init
lines-init g c = λ reads has. rw (c.new-sampler.ensures, c.new-shipments.ensures) (none_sent g.D.Disk c.args.options (shared_view c.args.session.now) has)

pub lines-preserved : goal.lines-preserved
lines-preserved g c = λ reads has.
    let options = c.args.options in
    let now = shared_view c.ask_tapped.new.session in
    let pairs : Pairs = c.ask_tapped.new.tap.pairs in
    let line_is = c.as_bytes.ensures ∙ c.next_line-line.ensures.line in
    let answers : AnswersTapped g.D.Disk (turn c.lines.sampler).line c.taken.result.now (shared_view c.lines.session) now pairs =
    subst (λ (text : List ℕ). AnswersTapped g.D.Disk (turn c.lines.sampler).line text (shared_view c.lines.session) now pairs) (sym c.taken.ensures)
    (subst (λ (line : List ℕ). AnswersTapped g.D.Disk line c.in_ok-reply.reply.taken (shared_view c.lines.session) now pairs) line_is c.in_ok-reply.ensures) in
    let adds : Adds c.taken.result.now (turn c.lines.sampler).after c.note.new.self =
    subst (λ (after : SampleState). Adds c.taken.result.now after c.note.new.self) c.next_line-line.ensures.after c.in_ok-note.ensures in
    let few = c.requires in
    let some : pairs ≢ [] = λ none. let no_length : length pairs ≡ 0 = ap length none in let counted = c.len.ensures.value in let other = c.if-len-eq0.false in
    absurd (grind (arith, nat_tests)) in
    let fits : length pairs ≤ most_shipped = let counted = c.len-else-len-eq0.ensures.value in let other = c.if-len-gt-MOST_SHIPPED.false in
    grind (arith, nat_tests) in
    subst (λ (sent : List (List ℕ)). HasSentTurns g.D.Disk options (c.lines._line + 1) c.note.new.self sent now) (sym c.in_ok-add.ensures)
    (sent_more g.D.Disk options c.lines._line c.lines.sampler c.note.new.self c.lines.shipments (shared_view c.lines.session) now c.taken.result.now pairs reads
    (omega arith)
    (c.sends_what_it_commits.ensures.goes_on reads (shape_of (sample_config options))) (c.lines.invariant reads has) answers adds some fits)

pub returns : goal.returns
returns g c = λ reads has.
    let all : c.lines._line ≡ c.args.options.count = omega arith in
    subst (λ (x : ℕ). SendsSample g.D.Disk.tells_reads c.args.options x c.lines.shipments) (sym c.into_generator.ensures)
    (sends_sample g.D.Disk c.args.options c.lines.sampler c.lines.shipments (shared_view c.lines.session)
    (subst (λ (turns : ℕ). HasSentTurns g.D.Disk c.args.options turns c.lines.sampler c.lines.shipments (shared_view c.lines.session)) all
    (c.lines.invariant reads has)))
