use Rattle.std.proofs.Common.{◌≡◌, ◌∙◌, Err, ap, inl, refl, subst, sym, true≢false}
use Rattle.disk_model.proofs.Spans.{only_reads_none}
use Rattle.rec_bytes.specs.declared.damage.Damage.{Damage}
use Rattle.txn_core.specs.Again.{RefusesAgain}
use Rattle.txn_core.specs.Store.{content}
use Rattle.txn_core.specs.declared.again_fault.AgainFault.TheVariants as faults
use Rattle.graph_session.specs.Session.{view}
use Rattle.graph_session.proofs.Moves.{refused-reopen}
use Rattle.graph_session.proofs.Reopening.{careful-on, lost_damaged, lost_disk, named_again}
use Rattle.graph_session.proofs.session.Session.reopen.Goals as goal

not-disk : (damage : Damage) → ¬ (faults.Damaged damage ≡ faults.Disk)
not-disk damage e = cc

pub returns-then-in_transaction-clause-settles : goal.returns-then-in_transaction-clause-settles
returns-then-in_transaction-clause-settles g c = refused-reopen {g = g.D.Disk} g.met.D.Disk.only_now (view c.args.self.now) (sym c.if-in_transaction.ensures.is)

pub returns-in-Ok-clause-settles : goal.returns-in-Ok-clause-settles
returns-in-Ok-clause-settles g c =
    let s = c.args.self.now in
    let done = c.in-Ok.ensures in
    let closed = sym c.if-in_transaction.ensures.is in
    let named = c.name_again.ensures in
    named_again g.met.D.Disk.counts_now s.store c.recover_again.new.self done.same closed done.closed done.draft done.later done.crash done.read done.clean
    s.health s.weight s.names.names done.own (c.if-in_transaction.ensures.none closed)
    done.done c.name_again.new.self.store named.reads named.draft named.later c.name_again.new.self.health c.name_again.new.self.weight
    c.name_again.new.self.names.names c.name_again.result named.takes

pub returns-in-Err-Disk-clause-settles : goal.returns-in-Err-Disk-clause-settles
returns-in-Err-Disk-clause-settles g c =
    let s = c.args.self.now in
    let done = c.in-Err-Disk.ensures in
    lost_disk g.met.D.Disk.counts_now s.store c.recover_again.new.self done.same (sym c.if-in_transaction.ensures.is) done.closed done.draft done.later
    done.crash done.read done.clean s.health s.weight s.names.names (done.cause (ap Err c.in-Err-Disk.field-0-is))

pub returns-in-Err-Damaged-clause-settles : goal.returns-in-Err-Damaged-clause-settles
returns-in-Err-Damaged-clause-settles g c =
    let s = c.args.self.now in
    let done = c.in-Err-Damaged.ensures in
    let damage = c.in-Err-Damaged.damage in
    lost_damaged g.met.D.Disk.counts_now s.store c.recover_again.new.self done.same (sym c.if-in_transaction.ensures.is) done.closed done.draft done.later
    done.crash done.read done.clean s.health s.weight s.names.names damage
    (λ told space redoes made newest. not-disk damage (sym c.in-Err-Damaged.field-0-is ∙ done.sound told space redoes made newest))
    (λ told. subst (RefusesAgain (content s.store) s.store.base.shape) c.in-Err-Damaged.field-0-is (done.refused told))

pub returns-then-in_transaction-clause-careful : goal.returns-then-in_transaction-clause-careful
returns-then-in_transaction-clause-careful g c = λ told. inl (only_reads_none g.D.Disk c.args.self.now.store.base.disk.now g.met.D.Disk.only_now)

pub returns-in-Ok-clause-careful : goal.returns-in-Ok-clause-careful
returns-in-Ok-clause-careful g c = careful-on g.D.Disk c.args.self.now.store.base.disk.now c.recover_again.new.self.base.disk.now
    c.name_again.new.self.store.base.disk.now c.in-Ok.ensures.careful c.name_again.ensures.reads.disk

pub returns-in-Err-Disk-clause-careful : goal.returns-in-Err-Disk-clause-careful
returns-in-Err-Disk-clause-careful g c = c.in-Err-Disk.ensures.careful

pub returns-in-Err-Damaged-clause-careful : goal.returns-in-Err-Damaged-clause-careful
returns-in-Err-Damaged-clause-careful g c = c.in-Err-Damaged.ensures.careful

pub returns-then-in_transaction-clause-keeps : goal.returns-then-in_transaction-clause-keeps
returns-then-in_transaction-clause-keeps g c = record { held = refl; weighed = λ none weighed. weighed }

pub returns-in-Ok-clause-keeps : goal.returns-in-Ok-clause-keeps
returns-in-Ok-clause-keeps g c = record {
  held = c.name_again.ensures.snaps;
  weighed = λ none weighed opened. absurd (true≢false (sym opened ∙ c.name_again.ensures.reads.in_transaction ∙ c.in-Ok.ensures.closed));
}

pub returns-in-Err-Disk-clause-keeps : goal.returns-in-Err-Disk-clause-keeps
returns-in-Err-Disk-clause-keeps g c = record { held = refl; weighed = λ none weighed opened. absurd (true≢false (sym opened ∙ c.in-Err-Disk.ensures.closed)) }

pub returns-in-Err-Damaged-clause-keeps : goal.returns-in-Err-Damaged-clause-keeps
returns-in-Err-Damaged-clause-keeps g c = record {
  held = refl;
  weighed = λ none weighed opened. absurd
      (true≢false (sym opened ∙ c.in-Err-Damaged.ensures.closed));
}
