use Rattle.std.proofs.Common.{rules, arith, ◌≡◌, ◌≢◌, ◌<◌, ◌∙◌, ap, sym, subst}
use Rattle.rec_bytes.specs.Format as format
use Rattle.rec_bytes.specs.Record.{field}
use Rattle.store_rules.specs.Rules.{first_of}
use Rattle.store_rules.specs.Views.{group_in, high, kind_at, rec_at}
use Rattle.store_rules.proofs.ViewLaws.{row_some}
use Rattle.store_rules.specs.Breaking.{group_head, group_label}
use Rattle.chain_check.specs.NodeChains.{EndsFound, IsChained, group_of, owner_at, place_of, side_at}
use Rattle.chain_check.proofs.ChainLaws.{IsSideOf, found_is, group_side}
use Rattle.record_lists.proofs.RecordLaws.{kind_read}
use Rattle.chain_check.proofs.SideLaws.{place_first}
use Rattle.record_lists.proofs.Causes.{cause_passed}
use Rattle.rec_bytes.proofs.Causes.{never_ok, ok_cause}
use Rattle.record_lists.proofs.OnlyReads.{is_read-get, is_read-none, is_read-on}
use Rattle.chain_check.proofs.chains.GroupHeadsHeads.list.Goals as goal

pub returns-then-byte-eq-FREE-clause-told : goal.returns-then-byte-eq-FREE-clause-told
returns-then-byte-eq-FREE-clause-told g c = λ tells l.
    let records = (g.R.Reads.state c.args.space.now).records in
    let id = group_of c.args.id in
    let lt : id < high records format.groups_file = omega (arith, c.requires.id, c.requires.suits.groups) in
    let kind = kind_read records format.groups_file id c.in_ok-rec.rec lt (c.in_ok-rec.ensures.got tells) in
    l.live (kind ∙ sym c.byte.ensures ∙ c.if-byte-eq-FREE.true)

pub returns-clause-told : goal.returns-clause-told
returns-clause-told g c = λ tells.
    let records = (g.R.Reads.state c.args.space.now).records in
    let id = group_of c.args.id in
    let place = place_of c.args.id in
    let chained = c.args.self.now.chained.now in
    let lt : id < high records format.groups_file = omega (arith, c.requires.id, c.requires.suits.groups) in
    let got = c.in_ok-rec.ensures.got tells in
    let node : c.number-node.result ≡ owner_at records id = c.number-node.ensures ∙ ap (λ r. field 4 r format.group_owner) got in
    let label : c.number-label.result ≡ group_label records id = c.number-label.ensures ∙ ap (λ r. field 4 r format.group_type) got in
    let kind = kind_read records format.groups_file id c.in_ok-rec.rec lt got in
    let live : kind_at records format.groups_file id ≢ 0 = λ z. c.if-byte-eq-FREE.false (c.byte.ensures ∙ sym kind ∙ z) in
    let has : IsChained chained records id = record { live = live; seen = search rules } in
    let row = group_in (rec_at records format.groups_file id) id in
    let fit : IsSideOf records (group_head id place) (owner_at records id) (side_at place (group_label records id)) =
    group_side records id place row (row_some (kind_at records format.groups_file id) row live) (place_first c.args.id) in
    let first : c.number-first.result ≡ first_of records (group_head id place) = c.number-first.ensures ∙ ap (λ r. field 4 r place) got in
    let found : EndsFound (g.R.Reads.state c.get.new.self).records c.args.self.now.relationships c.side_at.result c.number-node.result c.number-first.result
    c.in_ok-found.found = c.in_ok-found.ensures.told tells in
    let side : c.side_at.result ≡ side_at place (group_label records id) = c.side_at.ensures ∙ ap (side_at place) label in
    found_is records (g.R.Reads.state c.get.new.self).records (group_head id place) (owner_at records id) (side_at place (group_label records id))
    c.args.self.now.relationships c.number-first.result c.in_ok-found.found fit
    (ap (λ s. s.records) c.in_ok-rec.ensures.state) c.requires.suits.relationships c.requires.suits.few_relationships first (IsChained chained records id) has
    (subst (λ o. EndsFound (g.R.Reads.state c.get.new.self).records c.args.self.now.relationships (side_at place (group_label records id))
    o c.number-first.result c.in_ok-found.found) node
    (subst (λ s. EndsFound (g.R.Reads.state c.get.new.self).records c.args.self.now.relationships s c.number-node.result c.number-first.result
    c.in_ok-found.found) side found))

pub returns-in_err-rec-clause-cause : goal.returns-in_err-rec-clause-cause
returns-in_err-rec-clause-cause g c =
    cause_passed _ _ _ c.from_residual.result c.in_err-rec.field-0.0 (omega arith) c.in_err-rec.ensures.cause c.from_residual.ensures.1

pub returns-in_err-found-clause-cause : goal.returns-in_err-found-clause-cause
returns-in_err-found-clause-cause g c =
    cause_passed _ _ _ c.from_residual-in_err-found.result c.in_err-found.field-0.0 c.in_ok-rec.ensures.cause.later c.in_err-found.ensures.cause
    c.from_residual-in_err-found.ensures.1

pub returns-in_err-rec-clause-told : goal.returns-in_err-rec-clause-told
returns-in_err-rec-clause-told g c _ = never_ok c.from_residual.result _ _ c.from_residual.ensures.1

pub returns-in_err-rec-clause-low : goal.returns-in_err-rec-clause-low
returns-in_err-rec-clause-low g c = never_ok c.from_residual.result _ _ c.from_residual.ensures.1

pub returns-in_err-found-clause-told : goal.returns-in_err-found-clause-told
returns-in_err-found-clause-told g c _ = never_ok c.from_residual-in_err-found.result _ _ c.from_residual-in_err-found.ensures.1

pub returns-in_err-found-clause-low : goal.returns-in_err-found-clause-low
returns-in_err-found-clause-low g c = never_ok c.from_residual-in_err-found.result _ _ c.from_residual-in_err-found.ensures.1

pub returns-then-byte-eq-FREE-clause-cause : goal.returns-then-byte-eq-FREE-clause-cause
returns-then-byte-eq-FREE-clause-cause g c = ok_cause _ _ _ _ c.in_ok-rec.ensures.cause.later

pub returns-clause-cause : goal.returns-clause-cause
returns-clause-cause g c = ok_cause _ _ _ _ (omega (arith, c.in_ok-rec.ensures.cause.later, c.in_ok-found.ensures.cause.later))

pub returns-in_err-rec-clause-read : goal.returns-in_err-rec-clause-read
returns-in_err-rec-clause-read g c =
    is_read-get g.R.Reads _ _ c.in_err-rec.ensures.state c.in_err-rec.ensures.onward c.in_err-rec.ensures.cause.later

pub returns-in_err-found-clause-read : goal.returns-in_err-found-clause-read
returns-in_err-found-clause-read g c =
    is_read-on g.R.Reads g.met.R.Reads.further_onward _ _ _ (is_read-get g.R.Reads _ _ c.in_ok-rec.ensures.state c.in_ok-rec.ensures.onward
    c.in_ok-rec.ensures.cause.later) c.in_err-found.ensures.read

pub returns-then-byte-eq-FREE-clause-read : goal.returns-then-byte-eq-FREE-clause-read
returns-then-byte-eq-FREE-clause-read g c =
    is_read-get g.R.Reads _ _ c.in_ok-rec.ensures.state c.in_ok-rec.ensures.onward c.in_ok-rec.ensures.cause.later

pub returns-clause-read : goal.returns-clause-read
returns-clause-read g c =
    is_read-on g.R.Reads g.met.R.Reads.further_onward _ _ _ (is_read-get g.R.Reads _ _ c.in_ok-rec.ensures.state c.in_ok-rec.ensures.onward
    c.in_ok-rec.ensures.cause.later) c.in_ok-found.ensures.read

pub returns-then-not-self-group-clause-read : goal.returns-then-not-self-group-clause-read
returns-then-not-self-group-clause-read g c = is_read-none g.R.Reads g.met.R.Reads.stays_onward c.args.space.now

pub returns-then-not-self-group-clause-cause : goal.returns-then-not-self-group-clause-cause
returns-then-not-self-group-clause-cause g c = ok_cause _ _ _ _ (returns-then-not-self-group-clause-read g c).later
