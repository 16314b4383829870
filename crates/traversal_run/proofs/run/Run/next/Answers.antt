use Rattle.std.specs.Prelude.{Err}
use Rattle.std.proofs.Common.{[], ◌≡◌, ◌∙◌, ap, refl, true, arith}
use Rattle.store_rules.specs.Graph.{graph_of}
use Rattle.traversal_run.specs.Row.{stream}
use Rattle.traversal_run.specs.Run.{answer_if, to_come}
use Rattle.traversal_run.proofs.NextAnswers.{damage_told, disk_told, end_told, no_item, none_told, past_told, same_told, told_stop}
use Rattle.traversal_run.proofs.OnlyReads.{is_read-none}
use Rattle.traversal_run.proofs.run.Run.next.Goals as goal

-- ---- it stopped before

pub returns-in-Some-clause-item : goal.returns-in-Some-clause-item
returns-in-Some-clause-item g c = λ _ _. no_item _ c.in-Some.stop c.from.result c.from.ensures

pub returns-in-Some-clause-shown : goal.returns-in-Some-clause-shown
returns-in-Some-clause-shown g c = no_item _ c.in-Some.stop c.from.result c.from.ensures

pub returns-in-Some-clause-end : goal.returns-in-Some-clause-end
returns-in-Some-clause-end g c = λ _ _ going _. absurd (none_told c.in-Some.stop _ (ap answer_if c.in-Some.is) going)

pub returns-in-Some-clause-past : goal.returns-in-Some-clause-past
returns-in-Some-clause-past g c = λ _ _ going _. absurd (none_told c.in-Some.stop _ (ap answer_if c.in-Some.is) going)

pub returns-in-Some-clause-damaged : goal.returns-in-Some-clause-damaged
returns-in-Some-clause-damaged g c = λ _ going. absurd (none_told c.in-Some.stop _ (ap answer_if c.in-Some.is) going)

pub returns-in-Some-clause-cause : goal.returns-in-Some-clause-cause
returns-in-Some-clause-cause g c = λ going _. absurd (none_told c.in-Some.stop _ (ap answer_if c.in-Some.is) going)

pub returns-in-Some-clause-stops : goal.returns-in-Some-clause-stops
returns-in-Some-clause-stops g c = ap answer_if c.in-Some.is ∙ told_stop c.in-Some.stop c.from.result c.from.ensures

pub returns-in-Some-clause-again : goal.returns-in-Some-clause-again
returns-in-Some-clause-again g c = λ answer told. (c.from.ensures ∙ same_told c.in-Some.stop answer _ (ap answer_if c.in-Some.is) told, refl, refl)

pub returns-in-Some-clause-allowed : goal.returns-in-Some-clause-allowed
returns-in-Some-clause-allowed g c = no_item _ c.in-Some.stop c.from.result c.from.ensures

pub returns-in-Some-clause-no_read : goal.returns-in-Some-clause-no_read
returns-in-Some-clause-no_read g c = λ going _. absurd (none_told c.in-Some.stop _ (ap answer_if c.in-Some.is) going)

pub returns-in-Some-clause-scan : goal.returns-in-Some-clause-scan
returns-in-Some-clause-scan g c = λ at scan. no_item _ c.in-Some.stop c.from.result c.from.ensures

pub returns-in-Some-clause-hop : goal.returns-in-Some-clause-hop
returns-in-Some-clause-hop g c = λ id hop is. absurd (none_told c.in-Some.stop _ (ap answer_if c.in-Some.is) (ap answer_if is.going))

pub returns-in-Some-clause-ready : goal.returns-in-Some-clause-ready
returns-in-Some-clause-ready g c = λ is. absurd (none_told c.in-Some.stop _ (ap answer_if c.in-Some.is) (ap answer_if is.going))

pub returns-in-Some-clause-read : goal.returns-in-Some-clause-read
returns-in-Some-clause-read g c = is_read-none g.R.Reads g.met.R.Reads.stays_onward c.args.space.now

-- ---- it stops now

pub returns-in-Err-clause-item : goal.returns-in-Err-clause-item
returns-in-Err-clause-item g c = λ _ _. no_item _ c.in-Err.stop c.stop.result c.stop.ensures.answer

pub returns-in-Err-clause-shown : goal.returns-in-Err-clause-shown
returns-in-Err-clause-shown g c = no_item _ c.in-Err.stop c.stop.result c.stop.ensures.answer

pub returns-in-Err-clause-end : goal.returns-in-Err-clause-end
returns-in-Err-clause-end g c = λ tells store going.
    let coming = to_come (graph_of (g.R.Reads.state c.args.space.now).records) c.args.self.now in
    end_told (coming ≡ stream []) (coming.past ≡ true) c.in-Err.stop c.stop.result c.stop.ensures.answer (c.in-Err.ensures.stops tells store)

pub returns-in-Err-clause-past : goal.returns-in-Err-clause-past
returns-in-Err-clause-past g c = λ tells store going.
    let coming = to_come (graph_of (g.R.Reads.state c.args.space.now).records) c.args.self.now in
    past_told (coming ≡ stream []) (coming.past ≡ true) c.in-Err.stop c.stop.result c.stop.ensures.answer (c.in-Err.ensures.stops tells store)

pub returns-in-Err-clause-damaged : goal.returns-in-Err-clause-damaged
returns-in-Err-clause-damaged g c = λ tells going.
    let s = g.R.Reads.state c.args.space.now in
    damage_told s.records s.shape c.in-Err.stop c.stop.result c.stop.ensures.answer (c.in-Err.ensures.damaged tells)

pub returns-in-Err-clause-cause : goal.returns-in-Err-clause-cause
returns-in-Err-clause-cause g c = λ going failed. c.in-Err.ensures.cause.disk (ap Err (disk_told c.in-Err.stop c.stop.result c.stop.ensures.answer failed))

pub returns-in-Err-clause-stops : goal.returns-in-Err-clause-stops
returns-in-Err-clause-stops g c = ap answer_if c.stop.ensures.stopped ∙ told_stop c.in-Err.stop c.stop.result c.stop.ensures.answer

pub returns-in-Err-clause-allowed : goal.returns-in-Err-clause-allowed
returns-in-Err-clause-allowed g c = no_item _ c.in-Err.stop c.stop.result c.stop.ensures.answer

pub returns-in-Err-clause-scan : goal.returns-in-Err-clause-scan
returns-in-Err-clause-scan g c = λ at scan. no_item _ c.in-Err.stop c.stop.result c.stop.ensures.answer

pub returns-in-Err-clause-within : goal.returns-in-Err-clause-within
returns-in-Err-clause-within g c = λ _ _ d most _ _. c.stop.ensures.within d most

pub returns-in-Err-clause-hop : goal.returns-in-Err-clause-hop
returns-in-Err-clause-hop g c = λ id hop is. ((c.in-Err.ensures.hop id hop is).0, no_item _ c.in-Err.stop c.stop.result c.stop.ensures.answer)

pub returns-in-Err-clause-ready : goal.returns-in-Err-clause-ready
returns-in-Err-clause-ready g c = λ is. ((c.in-Err.ensures.ready is).0, no_item _ c.in-Err.stop c.stop.result c.stop.ensures.answer)

pub returns-in-Err-clause-read : goal.returns-in-Err-clause-read
returns-in-Err-clause-read g c = c.in-Err.ensures.read

-- ---- a result

pub returns-in-Ok-clause-item : goal.returns-in-Ok-clause-item
returns-in-Ok-clause-item g c = c.in-Ok.ensures.item

pub returns-in-Ok-clause-allowed : goal.returns-in-Ok-clause-allowed
returns-in-Ok-clause-allowed g c = c.in-Ok.ensures.allowed

pub returns-in-Ok-clause-within : goal.returns-in-Ok-clause-within
returns-in-Ok-clause-within g c = c.in-Ok.ensures.within

pub returns-in-Ok-clause-scan : goal.returns-in-Ok-clause-scan
returns-in-Ok-clause-scan g c = c.in-Ok.ensures.scan

pub returns-in-Ok-clause-hop : goal.returns-in-Ok-clause-hop
returns-in-Ok-clause-hop g c = c.in-Ok.ensures.hop

pub returns-in-Ok-clause-ready : goal.returns-in-Ok-clause-ready
returns-in-Ok-clause-ready g c = c.in-Ok.ensures.ready

pub returns-in-Ok-clause-read : goal.returns-in-Ok-clause-read
returns-in-Ok-clause-read g c = c.in-Ok.ensures.read

-- ---- what it reads

pub returns-in-Some-clause-owes : goal.returns-in-Some-clause-owes
returns-in-Some-clause-owes g c = λ _ _. omega arith

pub returns-in-Err-clause-owes : goal.returns-in-Err-clause-owes
returns-in-Err-clause-owes g c = λ tells store.
    let spends = c.in-Err.ensures.owes tells store in
    let none = c.stop.ensures.owes (g.R.Reads.state c.args.space.now).records in
    omega (arith, spends, none)

pub returns-in-Ok-clause-owes : goal.returns-in-Ok-clause-owes
returns-in-Ok-clause-owes g c = c.in-Ok.ensures.owes
