use Rattle.std.proofs.Common.{rules, subst, arith}
use Rattle.record_lists.proofs.LineLaws.{in_from_among}
use Rattle.record_lists.specs.declared.heads.Found.TheVariants.{Items}
use Rattle.record_lists.specs.Heads.{FoundIs}
use Rattle.record_lists.proofs.HeadLaws.{told_seen}
use Rattle.rec_bytes.proofs.Causes.{never_ok, ok_cause}
use Rattle.record_lists.proofs.Causes.{cause_passed}
use Rattle.record_lists.proofs.heads.see_head.Goals as goal

pub returns-in-Some-clause-told : goal.returns-in-Some-clause-told
returns-in-Some-clause-told g c tells =
    let records = (g.R.Reads.state c.args.space.now).records in
    let has = g.H.Heads.has c.args.heads.now records in
    let lists = g.H.Heads.lists c.args.heads.now records in
    let found : FoundIs (has c.args.id) (lists c.args.id) (Items c.in-Items.items) =
    subst (FoundIs (has c.args.id) (lists c.args.id)) c.in-Items.is (c.in_ok-list.ensures.told tells) in
    (record { must = found.0; items = c.in-Items.items.items; listed = found.1; member = in_from_among _ c.in-Items.items.items (search rules) }, search rules)

pub returns-in_default-clause-told : goal.returns-in_default-clause-told
returns-in_default-clause-told g c tells =
    let records = (g.R.Reads.state c.args.space.now).records in
    let heads = c.args.heads.now in
    let has = g.H.Heads.has heads records in
    let lists = g.H.Heads.lists heads records in
    let found : FoundIs (has c.args.id) (lists c.args.id) (Items c.in-Items.items) =
    subst (FoundIs (has c.args.id) (lists c.args.id)) c.in-Items.is (c.in_ok-list.ensures.told tells) in
    told_seen has lists c.args.id c.in-Items.items.items c.args.seen.now c.see_all.new.seen found.0 found.1 found.2 (search rules) (search rules)

pub returns-in_err-list-clause-told : goal.returns-in_err-list-clause-told
returns-in_err-list-clause-told g c _ = never_ok c.from_residual.result _ _ c.from_residual.ensures.1

pub returns-in_err-list-clause-read : goal.returns-in_err-list-clause-read
returns-in_err-list-clause-read g c =
    c.in_err-list.ensures.read

pub returns-in-Some-clause-cause : goal.returns-in-Some-clause-cause
returns-in-Some-clause-cause g c = ok_cause _ _ _ _ c.in_ok-list.ensures.read.later

pub returns-in-Nothing-clause-cause : goal.returns-in-Nothing-clause-cause
returns-in-Nothing-clause-cause g c = ok_cause _ _ _ _ c.in_ok-list.ensures.read.later

pub returns-in-Missing-clause-cause : goal.returns-in-Missing-clause-cause
returns-in-Missing-clause-cause g c = ok_cause _ _ _ _ c.in_ok-list.ensures.read.later

pub returns-in_default-clause-cause : goal.returns-in_default-clause-cause
returns-in_default-clause-cause g c = ok_cause _ _ _ _ c.in_ok-list.ensures.read.later

pub returns-in_err-list-clause-cause : goal.returns-in_err-list-clause-cause
returns-in_err-list-clause-cause g c =
    cause_passed _ _ _ c.from_residual.result c.in_err-list.field-0.0 (omega arith) c.in_err-list.ensures.cause c.from_residual.ensures.1

pub returns-in-Some-clause-read : goal.returns-in-Some-clause-read
returns-in-Some-clause-read g c =
    c.in_ok-list.ensures.read

pub returns-in-Nothing-clause-read : goal.returns-in-Nothing-clause-read
returns-in-Nothing-clause-read g c =
    c.in_ok-list.ensures.read

pub returns-in-Missing-clause-read : goal.returns-in-Missing-clause-read
returns-in-Missing-clause-read g c =
    c.in_ok-list.ensures.read

pub returns-in_default-clause-read : goal.returns-in_default-clause-read
returns-in_default-clause-read g c =
    c.in_ok-list.ensures.read
