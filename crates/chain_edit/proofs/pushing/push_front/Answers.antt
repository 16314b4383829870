use Rattle.std.proofs.Common.{◌≡◌, ◌<◌, ◌^◌, [], ◌∷◌, ap, ◌∙◌, refl, rules, arith, subst, sym}
use Rattle.std.proofs.lemmas.Result.{err_from_is_err_and}
use Rattle.rec_bytes.specs.Record.{field}
use Rattle.rec_bytes.specs.Space.{State, WritesOnly}
use Rattle.rec_bytes.proofs.Spaces.{writes_none}
use Rattle.rel_store.specs.RelRecord.{rel_key}
use Rattle.store_rules.specs.Rules.{first_of}
use Rattle.chain_edit.specs.Heads.{head_of}
use Rattle.chain_edit.specs.Pushing.{HasPushed, first_damage, pushed}
use Rattle.chain_edit.proofs.Broken.{head_breaks}
use Rattle.chain_edit.proofs.Damages.{damage_read}
use Rattle.chain_edit.proofs.Beside.{wrote_front, wrote_none}
use Rattle.chain_edit.proofs.Pushes.{has_pushed}
use Rattle.chain_edit.proofs.Causes.{damage_cause, space_cause_passed, space_has}
use Rattle.rec_bytes.proofs.Causes.{never_ok}
use Rattle.chain_edit.proofs.pushing.push_front.Goals as goal

pub returns-in_err-test_link-clause-damaged : goal.returns-in_err-test_link-clause-damaged
returns-in_err-test_link-clause-damaged g c = λ tells.
    let s = g.S.Reads.state c.args.space.now in
    let p = err_from_is_err_and c.from_residual-in_err-test_link.result c.from_residual-in_err-test_link.ensures.1 in
    let first : c.number-first.result ≡ first_of s.records (head_of c.args.head) = c.number-first.ensures ∙ ap (λ r. field 4 r c.args.head.field)
    (c.in_ok-rec.ensures.got tells) in
    rw (p.1, p.2) (damage_read s (g.S.Reads.state c.get.new.self) c.number-first.result (first_of s.records (head_of c.args.head))
    (first_damage c.args.head.key) c.in_err-test_link.field-0.0
    c.in_ok-rec.ensures.state first c.in_err-test_link.ensures.damaged)

pub returns-in_err-test_link-clause-breaks : goal.returns-in_err-test_link-clause-breaks
returns-in_err-test_link-clause-breaks g c = λ tells n owns.
    let s = g.S.Reads.state c.args.space.now in
    let p = err_from_is_err_and c.from_residual-in_err-test_link.result c.from_residual-in_err-test_link.ensures.1 in
    let first : c.number-first.result ≡ first_of s.records (head_of c.args.head) = c.number-first.ensures ∙ ap (λ r. field 4 r c.args.head.field)
    (c.in_ok-rec.ensures.got tells) in
    rw (p.1, p.2) (head_breaks s (head_of c.args.head) n c.in_err-test_link.field-0.0 owns
    (damage_read s (g.S.Reads.state c.get.new.self) c.number-first.result (first_of s.records (head_of c.args.head)) (first_damage c.args.head.key)
    c.in_err-test_link.field-0.0
    c.in_ok-rec.ensures.state first c.in_err-test_link.ensures.damaged))

pub returns-clause-ok : goal.returns-clause-ok
unfolding pushed
returns-clause-ok g c = λ tells. search rules

pub returns-clause-chains : goal.returns-clause-chains
unfolding pushed
returns-clause-chains g c = λ tells xs can.
    let old = g.S.Reads.state c.args.space.now in
    let is : g.S.Reads.state c.put.new.self ≡ pushed old (head_of c.args.head) c.args.node c.args.rel = returns-clause-ok g c tells in
    let small : c.args.rel < 2 ^ 25 = omega (arith, c.requires.rel.id) in
    subst (λ (new : State). HasPushed old.records new.records (head_of c.args.head) c.args.node c.args.rel xs) (sym is) (has_pushed old (head_of c.args.head)
    c.args.node c.args.rel c.requires.head.place xs small can)

pub returns-in_err-test_link-clause-cause : goal.returns-in_err-test_link-clause-cause
returns-in_err-test_link-clause-cause g c =
    damage_cause _ _ c.from_residual-in_err-test_link.result c.in_err-test_link.field-0.0 c.in_ok-rec.ensures.cause.later
    c.from_residual-in_err-test_link.ensures.1

pub returns-in_err-back-clause-cause : goal.returns-in_err-back-clause-cause
returns-in_err-back-clause-cause g c =
    space_cause_passed _ _ _ c.from_residual-in_err-back.result c.in_err-back.field-0.0 c.in_ok-rec.ensures.cause.later c.in_err-back.ensures.cause
    c.from_residual-in_err-back.ensures.1

pub returns-in_err-set_next-clause-cause : goal.returns-in_err-set_next-clause-cause
returns-in_err-set_next-clause-cause g c =
    let later0 = c.in_ok-rec.ensures.cause.later in
    let later1 = c.in_ok-back.ensures.cause.later in
    space_cause_passed _ _ _ c.from_residual-in_err-set_next.result c.in_err-set_next.field-0.0 (omega (arith, later0, later1)) c.in_err-set_next.ensures.cause
    c.from_residual-in_err-set_next.ensures.1

pub returns-in_err-put-clause-cause : goal.returns-in_err-put-clause-cause
returns-in_err-put-clause-cause g c =
    let later0 = c.in_ok-rec.ensures.cause.later in
    let later1 = c.in_ok-back.ensures.cause.later in
    let later2 = c.in_ok-set_next.ensures.cause.later in
    space_cause_passed _ _ _ c.from_residual-in_err-put.result c.in_err-put.field-0.0 (omega (arith, later0, later1, later2)) c.in_err-put.ensures.cause
    c.from_residual-in_err-put.ensures.1

pub returns-in_err-rec-clause-chains : goal.returns-in_err-rec-clause-chains
returns-in_err-rec-clause-chains g c _ = never_ok c.from_residual.result _ _ c.from_residual.ensures.1

pub returns-in_err-rec-clause-ok : goal.returns-in_err-rec-clause-ok
returns-in_err-rec-clause-ok g c _ = never_ok c.from_residual.result _ _ c.from_residual.ensures.1

pub returns-in_err-rec-clause-first : goal.returns-in_err-rec-clause-first
returns-in_err-rec-clause-first g c _ = never_ok c.from_residual.result _ _ c.from_residual.ensures.1

pub returns-in_err-rec-clause-known : goal.returns-in_err-rec-clause-known
returns-in_err-rec-clause-known g c _ = never_ok c.from_residual.result _ _ c.from_residual.ensures.1

pub returns-in_err-rec-clause-wrote : goal.returns-in_err-rec-clause-wrote
returns-in_err-rec-clause-wrote g c = never_ok c.from_residual.result _ _ c.from_residual.ensures.1

pub returns-in_err-rec-clause-onward : goal.returns-in_err-rec-clause-onward
returns-in_err-rec-clause-onward g c = search rules

pub returns-in_err-test_link-clause-chains : goal.returns-in_err-test_link-clause-chains
returns-in_err-test_link-clause-chains g c _ = never_ok c.from_residual-in_err-test_link.result _ _ c.from_residual-in_err-test_link.ensures.1

pub returns-in_err-test_link-clause-ok : goal.returns-in_err-test_link-clause-ok
returns-in_err-test_link-clause-ok g c _ = never_ok c.from_residual-in_err-test_link.result _ _ c.from_residual-in_err-test_link.ensures.1

pub returns-in_err-test_link-clause-first : goal.returns-in_err-test_link-clause-first
returns-in_err-test_link-clause-first g c _ = never_ok c.from_residual-in_err-test_link.result _ _ c.from_residual-in_err-test_link.ensures.1

pub returns-in_err-test_link-clause-known : goal.returns-in_err-test_link-clause-known
returns-in_err-test_link-clause-known g c _ = never_ok c.from_residual-in_err-test_link.result _ _ c.from_residual-in_err-test_link.ensures.1

pub returns-in_err-test_link-clause-wrote : goal.returns-in_err-test_link-clause-wrote
returns-in_err-test_link-clause-wrote g c = never_ok c.from_residual-in_err-test_link.result _ _ c.from_residual-in_err-test_link.ensures.1

pub returns-in_err-back-clause-chains : goal.returns-in_err-back-clause-chains
returns-in_err-back-clause-chains g c _ = never_ok c.from_residual-in_err-back.result _ _ c.from_residual-in_err-back.ensures.1

pub returns-in_err-back-clause-ok : goal.returns-in_err-back-clause-ok
returns-in_err-back-clause-ok g c _ = never_ok c.from_residual-in_err-back.result _ _ c.from_residual-in_err-back.ensures.1

pub returns-in_err-back-clause-first : goal.returns-in_err-back-clause-first
returns-in_err-back-clause-first g c _ = never_ok c.from_residual-in_err-back.result _ _ c.from_residual-in_err-back.ensures.1

pub returns-in_err-back-clause-known : goal.returns-in_err-back-clause-known
returns-in_err-back-clause-known g c _ = never_ok c.from_residual-in_err-back.result _ _ c.from_residual-in_err-back.ensures.1

pub returns-in_err-back-clause-wrote : goal.returns-in_err-back-clause-wrote
returns-in_err-back-clause-wrote g c = never_ok c.from_residual-in_err-back.result _ _ c.from_residual-in_err-back.ensures.1

pub returns-in_err-set_next-clause-chains : goal.returns-in_err-set_next-clause-chains
returns-in_err-set_next-clause-chains g c _ = never_ok c.from_residual-in_err-set_next.result _ _ c.from_residual-in_err-set_next.ensures.1

pub returns-in_err-set_next-clause-ok : goal.returns-in_err-set_next-clause-ok
returns-in_err-set_next-clause-ok g c _ = never_ok c.from_residual-in_err-set_next.result _ _ c.from_residual-in_err-set_next.ensures.1

pub returns-in_err-set_next-clause-first : goal.returns-in_err-set_next-clause-first
returns-in_err-set_next-clause-first g c _ = never_ok c.from_residual-in_err-set_next.result _ _ c.from_residual-in_err-set_next.ensures.1

pub returns-in_err-set_next-clause-known : goal.returns-in_err-set_next-clause-known
returns-in_err-set_next-clause-known g c _ = never_ok c.from_residual-in_err-set_next.result _ _ c.from_residual-in_err-set_next.ensures.1

pub returns-in_err-set_next-clause-wrote : goal.returns-in_err-set_next-clause-wrote
returns-in_err-set_next-clause-wrote g c = never_ok c.from_residual-in_err-set_next.result _ _ c.from_residual-in_err-set_next.ensures.1

pub returns-in_err-put-clause-chains : goal.returns-in_err-put-clause-chains
returns-in_err-put-clause-chains g c _ = never_ok c.from_residual-in_err-put.result _ _ c.from_residual-in_err-put.ensures.1

pub returns-in_err-put-clause-ok : goal.returns-in_err-put-clause-ok
returns-in_err-put-clause-ok g c _ = never_ok c.from_residual-in_err-put.result _ _ c.from_residual-in_err-put.ensures.1

pub returns-in_err-put-clause-first : goal.returns-in_err-put-clause-first
returns-in_err-put-clause-first g c _ = never_ok c.from_residual-in_err-put.result _ _ c.from_residual-in_err-put.ensures.1

pub returns-in_err-put-clause-known : goal.returns-in_err-put-clause-known
returns-in_err-put-clause-known g c _ = never_ok c.from_residual-in_err-put.result _ _ c.from_residual-in_err-put.ensures.1

pub returns-in_err-put-clause-wrote : goal.returns-in_err-put-clause-wrote
returns-in_err-put-clause-wrote g c = never_ok c.from_residual-in_err-put.result _ _ c.from_residual-in_err-put.ensures.1

-- ---- faults that name no record, and what each exit has written

pub returns-in_err-rec-clause-damaged : goal.returns-in_err-rec-clause-damaged
returns-in_err-rec-clause-damaged g c _ = space_has _ tt tt c.from_residual.result c.in_err-rec.field-0.0 c.from_residual.ensures.1

pub returns-in_err-rec-clause-breaks : goal.returns-in_err-rec-clause-breaks
returns-in_err-rec-clause-breaks g c _ _ _ = space_has _ tt tt c.from_residual.result c.in_err-rec.field-0.0 c.from_residual.ensures.1

pub returns-in_err-rec-clause-not_damaged : goal.returns-in_err-rec-clause-not_damaged
returns-in_err-rec-clause-not_damaged g c _ _ = space_has _ tt tt c.from_residual.result c.in_err-rec.field-0.0 c.from_residual.ensures.1

pub returns-in_err-rec-clause-unwritten : goal.returns-in_err-rec-clause-unwritten
returns-in_err-rec-clause-unwritten g c = space_has _ tt tt c.from_residual.result c.in_err-rec.field-0.0 c.from_residual.ensures.1

pub returns-in_err-back-clause-damaged : goal.returns-in_err-back-clause-damaged
returns-in_err-back-clause-damaged g c _ = space_has _ tt tt c.from_residual-in_err-back.result c.in_err-back.field-0.0 c.from_residual-in_err-back.ensures.1

pub returns-in_err-back-clause-breaks : goal.returns-in_err-back-clause-breaks
returns-in_err-back-clause-breaks g c _ _ _ = space_has _ tt tt c.from_residual-in_err-back.result c.in_err-back.field-0.0 c.from_residual-in_err-back.ensures.1

pub returns-in_err-back-clause-not_damaged : goal.returns-in_err-back-clause-not_damaged
returns-in_err-back-clause-not_damaged g c _ _ =
    space_has _ tt tt c.from_residual-in_err-back.result c.in_err-back.field-0.0 c.from_residual-in_err-back.ensures.1

pub returns-in_err-back-clause-unwritten : goal.returns-in_err-back-clause-unwritten
returns-in_err-back-clause-unwritten g c = space_has _ tt tt c.from_residual-in_err-back.result c.in_err-back.field-0.0 c.from_residual-in_err-back.ensures.1

pub returns-in_err-set_next-clause-damaged : goal.returns-in_err-set_next-clause-damaged
returns-in_err-set_next-clause-damaged g c _ = space_has _ tt tt c.from_residual-in_err-set_next.result c.in_err-set_next.field-0.0
    c.from_residual-in_err-set_next.ensures.1

pub returns-in_err-set_next-clause-breaks : goal.returns-in_err-set_next-clause-breaks
returns-in_err-set_next-clause-breaks g c _ _ _ = space_has _ tt tt c.from_residual-in_err-set_next.result c.in_err-set_next.field-0.0
    c.from_residual-in_err-set_next.ensures.1

pub returns-in_err-set_next-clause-not_damaged : goal.returns-in_err-set_next-clause-not_damaged
returns-in_err-set_next-clause-not_damaged g c _ _ = space_has _ tt tt c.from_residual-in_err-set_next.result c.in_err-set_next.field-0.0
    c.from_residual-in_err-set_next.ensures.1

pub returns-in_err-set_next-clause-unwritten : goal.returns-in_err-set_next-clause-unwritten
returns-in_err-set_next-clause-unwritten g c = space_has _ tt tt c.from_residual-in_err-set_next.result c.in_err-set_next.field-0.0
    c.from_residual-in_err-set_next.ensures.1

pub returns-in_err-put-clause-damaged : goal.returns-in_err-put-clause-damaged
returns-in_err-put-clause-damaged g c _ = space_has _ tt tt c.from_residual-in_err-put.result c.in_err-put.field-0.0 c.from_residual-in_err-put.ensures.1

pub returns-in_err-put-clause-breaks : goal.returns-in_err-put-clause-breaks
returns-in_err-put-clause-breaks g c _ _ _ = space_has _ tt tt c.from_residual-in_err-put.result c.in_err-put.field-0.0 c.from_residual-in_err-put.ensures.1

pub returns-in_err-put-clause-not_damaged : goal.returns-in_err-put-clause-not_damaged
returns-in_err-put-clause-not_damaged g c _ _ = space_has _ tt tt c.from_residual-in_err-put.result c.in_err-put.field-0.0 c.from_residual-in_err-put.ensures.1

pub returns-in_err-put-clause-unwritten : goal.returns-in_err-put-clause-unwritten
returns-in_err-put-clause-unwritten g c = space_has _ tt tt c.from_residual-in_err-put.result c.in_err-put.field-0.0 c.from_residual-in_err-put.ensures.1

pub returns-in_err-rec-clause-neighbours : goal.returns-in_err-rec-clause-neighbours
returns-in_err-rec-clause-neighbours g c _ = writes_none (g.S.Reads.state c.args.space.now) (g.S.Reads.state c.get.new.self) _ (ap (λ (t : State). t.written)
    c.in_err-rec.ensures.state)

pub returns-in_err-rec-clause-writes : goal.returns-in_err-rec-clause-writes
returns-in_err-rec-clause-writes g c = (
  0,
  writes_none (g.S.Reads.state c.args.space.now) (g.S.Reads.state c.get.new.self) _ (ap (λ (t : State). t.written)
      c.in_err-rec.ensures.state),
)

pub returns-in_err-rec-clause-cause : goal.returns-in_err-rec-clause-cause
returns-in_err-rec-clause-cause g c =
    space_cause_passed _ _ _ c.from_residual.result c.in_err-rec.field-0.0 (omega arith) c.in_err-rec.ensures.cause c.from_residual.ensures.1

pub returns-in_err-test_link-clause-unwritten : goal.returns-in_err-test_link-clause-unwritten
returns-in_err-test_link-clause-unwritten g c =
    let p = err_from_is_err_and c.from_residual-in_err-test_link.result c.from_residual-in_err-test_link.ensures.1 in
    rw (p.1, p.2) c.in_ok-rec.ensures.state

pub returns-in_err-test_link-clause-neighbours : goal.returns-in_err-test_link-clause-neighbours
returns-in_err-test_link-clause-neighbours g c _ = writes_none (g.S.Reads.state c.args.space.now) (g.S.Reads.state c.get.new.self) _
    (ap (λ (t : State). t.written) c.in_ok-rec.ensures.state)

pub returns-in_err-test_link-clause-writes : goal.returns-in_err-test_link-clause-writes
returns-in_err-test_link-clause-writes g c = (
  0,
  writes_none (g.S.Reads.state c.args.space.now) (g.S.Reads.state c.get.new.self) _
      (ap (λ (t : State). t.written) c.in_ok-rec.ensures.state),
)

pub returns-in_err-test_link-clause-onward : goal.returns-in_err-test_link-clause-onward
returns-in_err-test_link-clause-onward g c = c.in_ok-rec.ensures.onward

pub returns-in_err-back-clause-onward : goal.returns-in_err-back-clause-onward
returns-in_err-back-clause-onward g c = g.met.S.Reads.further_onward _ _ _ c.in_ok-rec.ensures.onward c.in_err-back.ensures.onward

pub returns-in_err-set_next-clause-onward : goal.returns-in_err-set_next-clause-onward
returns-in_err-set_next-clause-onward g c = g.met.S.Reads.further_onward _ _ _ (g.met.S.Reads.further_onward _ _ _ c.in_ok-rec.ensures.onward
    c.in_ok-back.ensures.onward) c.in_err-set_next.ensures.onward

pub returns-in_err-put-clause-onward : goal.returns-in_err-put-clause-onward
returns-in_err-put-clause-onward g c = g.met.S.Reads.further_onward _ _ _ (g.met.S.Reads.further_onward _ _ _ (g.met.S.Reads.further_onward _ _ _
    c.in_ok-rec.ensures.onward c.in_ok-back.ensures.onward) c.in_ok-set_next.ensures.onward) c.in_err-put.ensures.onward

pub returns-in_err-back-clause-writes : goal.returns-in_err-back-clause-writes
returns-in_err-back-clause-writes g c = (
  c.number-first.result,
  wrote_front (g.S.Reads.state c.args.space.now) (g.S.Reads.state c.get.new.self) (g.S.Reads.state c.back.new.space)
      (g.S.Reads.state c.back.new.space) (g.S.Reads.state c.back.new.space) c.number-first.result c.args.rel c.args.head.key (ap (λ (t : State). t.written)
      c.in_ok-rec.ensures.state) c.in_err-back.ensures.writes (wrote_none (g.S.Reads.state c.back.new.space) (g.S.Reads.state c.back.new.space) _ refl)
      (wrote_none (g.S.Reads.state c.back.new.space) (g.S.Reads.state c.back.new.space) _ refl),
)

pub returns-in_err-back-clause-neighbours : goal.returns-in_err-back-clause-neighbours
returns-in_err-back-clause-neighbours g c tells =
    let first : c.number-first.result ≡ first_of (g.S.Reads.state c.args.space.now).records (head_of c.args.head) = c.number-first.ensures ∙ ap
    (λ r. field 4 r c.args.head.field) (c.in_ok-rec.ensures.got tells) in
    subst (λ f. WritesOnly (g.S.Reads.state c.args.space.now) (g.S.Reads.state c.back.new.space) (rel_key f ∷ rel_key c.args.rel ∷ c.args.head.key ∷ [])) first
    (wrote_front (g.S.Reads.state c.args.space.now) (g.S.Reads.state c.get.new.self) (g.S.Reads.state c.back.new.space) (g.S.Reads.state c.back.new.space)
    (g.S.Reads.state c.back.new.space) c.number-first.result c.args.rel c.args.head.key (ap (λ (t : State). t.written) c.in_ok-rec.ensures.state)
    c.in_err-back.ensures.writes (wrote_none (g.S.Reads.state c.back.new.space) (g.S.Reads.state c.back.new.space) _ refl)
    (wrote_none (g.S.Reads.state c.back.new.space) (g.S.Reads.state c.back.new.space) _ refl))

pub returns-in_err-set_next-clause-writes : goal.returns-in_err-set_next-clause-writes
returns-in_err-set_next-clause-writes g c = (
  c.number-first.result,
  wrote_front (g.S.Reads.state c.args.space.now) (g.S.Reads.state c.get.new.self) (g.S.Reads.state c.back.new.space)
      (g.S.Reads.state c.set_next.new.space) (g.S.Reads.state c.set_next.new.space) c.number-first.result c.args.rel c.args.head.key
      (ap (λ (t : State). t.written) c.in_ok-rec.ensures.state) c.in_ok-back.ensures.writes c.in_err-set_next.ensures.writes
      (wrote_none (g.S.Reads.state c.set_next.new.space) (g.S.Reads.state c.set_next.new.space) _ refl),
)

pub returns-in_err-set_next-clause-neighbours : goal.returns-in_err-set_next-clause-neighbours
returns-in_err-set_next-clause-neighbours g c tells =
    let first : c.number-first.result ≡ first_of (g.S.Reads.state c.args.space.now).records (head_of c.args.head) = c.number-first.ensures ∙ ap
    (λ r. field 4 r c.args.head.field) (c.in_ok-rec.ensures.got tells) in
    subst (λ f. WritesOnly (g.S.Reads.state c.args.space.now) (g.S.Reads.state c.set_next.new.space) (rel_key f ∷ rel_key c.args.rel ∷ c.args.head.key ∷ []))
    first
    (wrote_front (g.S.Reads.state c.args.space.now) (g.S.Reads.state c.get.new.self) (g.S.Reads.state c.back.new.space) (g.S.Reads.state c.set_next.new.space)
    (g.S.Reads.state c.set_next.new.space) c.number-first.result c.args.rel c.args.head.key (ap (λ (t : State). t.written) c.in_ok-rec.ensures.state)
    c.in_ok-back.ensures.writes c.in_err-set_next.ensures.writes (wrote_none (g.S.Reads.state c.set_next.new.space) (g.S.Reads.state c.set_next.new.space)
    _ refl))

pub returns-in_err-put-clause-writes : goal.returns-in_err-put-clause-writes
returns-in_err-put-clause-writes g c = (
  c.number-first.result,
  wrote_front (g.S.Reads.state c.args.space.now) (g.S.Reads.state c.get.new.self) (g.S.Reads.state c.back.new.space)
      (g.S.Reads.state c.set_next.new.space) (g.S.Reads.state c.put.new.self) c.number-first.result c.args.rel c.args.head.key (ap (λ (t : State). t.written)
      c.in_ok-rec.ensures.state) c.in_ok-back.ensures.writes c.in_ok-set_next.ensures.writes (wrote_none (g.S.Reads.state c.set_next.new.space)
      (g.S.Reads.state c.put.new.self) _ c.in_err-put.ensures.err),
)

pub returns-in_err-put-clause-neighbours : goal.returns-in_err-put-clause-neighbours
returns-in_err-put-clause-neighbours g c tells =
    let first : c.number-first.result ≡ first_of (g.S.Reads.state c.args.space.now).records (head_of c.args.head) = c.number-first.ensures ∙ ap
    (λ r. field 4 r c.args.head.field) (c.in_ok-rec.ensures.got tells) in
    subst (λ f. WritesOnly (g.S.Reads.state c.args.space.now) (g.S.Reads.state c.put.new.self) (rel_key f ∷ rel_key c.args.rel ∷ c.args.head.key ∷ [])) first
    (wrote_front (g.S.Reads.state c.args.space.now) (g.S.Reads.state c.get.new.self) (g.S.Reads.state c.back.new.space) (g.S.Reads.state c.set_next.new.space)
    (g.S.Reads.state c.put.new.self) c.number-first.result c.args.rel c.args.head.key (ap (λ (t : State). t.written) c.in_ok-rec.ensures.state)
    c.in_ok-back.ensures.writes c.in_ok-set_next.ensures.writes (wrote_none (g.S.Reads.state c.set_next.new.space) (g.S.Reads.state c.put.new.self)
    _ c.in_err-put.ensures.err))
