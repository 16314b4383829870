use Rattle.std.proofs.Common.{arith, rules, ◌≡◌, ◌≢◌, ◌∙◌, ℕ, List, length, ap, sym, subst, refl}
use Rattle.rec_bytes.specs.declared.meta.Meta.{Meta}
use Rattle.rec_bytes.specs.Space.{meta_in}
use Rattle.store_rules.specs.Rows.{ids}
use Rattle.store_rules.specs.Views.{high, is_live}
use Rattle.store_rules.specs.Breaking.{damage}
use Rattle.store_rules.specs.Breaking.Breaks.{FreeList, OffFreeList}
use Rattle.store_check.specs.Free.{IsCounted, free_line}
use Rattle.record_lists.specs.Lines.{IsLineIn}
use Rattle.record_lists.specs.Seen.{is_among, is_seen}
use Rattle.store_check.specs.declared.free.Counted.TheVariants.{Live, OffList}
use Rattle.store_check.proofs.FreeLaws.{IsIt, counted_at, is_off, is_split, no_list, wrong_count}
use Rattle.record_lists.proofs.DecidingLaws.{breaks_by}
use Rattle.record_lists.proofs.Causes.{cause_passed}
use Rattle.chain_check.proofs.Causes.{no_memory}
use Rattle.rec_bytes.proofs.Causes.{never_ok, ok_cause}
use Rattle.record_lists.proofs.OnlyReads.{is_read-on}
use Rattle.store_check.proofs.free.check_free.Goals as goal

pub returns-in_default-clause-broken : goal.returns-in_default-clause-broken
returns-in_default-clause-broken g c = λ tells.
    let s = g.R.Reads.state c.args.space.now in
    let m = c.meta-meta.result in
    let none : (xs : List ℕ) → ¬ IsLineIn (free_line c.args.file) s.records m.high m.free xs = search (rules, c.in_ok-ids.ensures.none tells) in
    let it : (xs : List ℕ) → ¬ IsIt s.records c.args.file xs = subst (λ (n : Meta). (xs : List ℕ) → ¬ IsLineIn (free_line c.args.file) s.records n.high n.free
    xs) c.meta-meta.ensures none in
    breaks_by s.records s.shape 2 _ (damage 0 c.args.file 2) refl refl (FreeList c.args.file c.requires.file (no_list s.records c.args.file c.requires.mark it))

pub returns-in-Live-clause-sound : goal.returns-in-Live-clause-sound
returns-in-Live-clause-sound g c = λ tells.
    let s = g.R.Reads.state c.args.space.now in
    let m = c.meta-meta.result in
    let found : IsLineIn (free_line c.args.file) s.records m.high m.free c.in-Some.ids.items = search (rules, c.in_ok-ids.ensures.found tells) in
    let it : IsIt s.records c.args.file c.in-Some.ids.items = subst (λ (n : Meta). IsLineIn (free_line c.args.file) s.records n.high n.free c.in-Some.ids.items)
    c.meta-meta.ensures found in
    let counted : IsCounted s.records c.args.file c.in-Ok.seen.items (Live c.in-Live.live) =
    counted_at _ s.records c.args.file _ c.in-Ok.seen.items (Live c.in-Live.live) _ c.in_ok-ids.ensures.read.records c.deref-2.ensures.value c.in-Live.is
    (c.in_ok-live.ensures.counted tells) in
    let seen : (p : ℕ) → is_seen c.in-Ok.seen.items p ≡ is_among c.in-Some.ids.items p = search rules in
    let exact : (meta_in s.records c.args.file).live ≡ length (ids (is_live s.records c.args.file) (high s.records c.args.file)) =
    ap (λ (n : Meta). n.live) (sym c.meta-meta.ensures) ∙ sym c.if-live-meta.true ∙ counted.0 in
    is_split s.records c.args.file c.requires.mark c.in-Ok.seen.items c.in-Some.ids.items it seen exact counted.1

pub returns-in-Live-2-clause-broken : goal.returns-in-Live-2-clause-broken
returns-in-Live-2-clause-broken g c = λ tells.
    let s = g.R.Reads.state c.args.space.now in
    let counted : IsCounted s.records c.args.file c.in-Ok.seen.items (Live c.in-Live.live) =
    counted_at _ s.records c.args.file _ c.in-Ok.seen.items (Live c.in-Live.live) _ c.in_ok-ids.ensures.read.records c.deref-2.ensures.value c.in-Live.is
    (c.in_ok-live.ensures.counted tells) in
    let other : c.in-Live.live ≢ (meta_in s.records c.args.file).live = λ e. c.if-live-meta.false (e ∙ ap (λ (n : Meta). n.live) (sym c.meta-meta.ensures)) in
    breaks_by s.records s.shape 2 _ (damage 0 c.args.file 2) refl refl (FreeList c.args.file c.requires.file (wrong_count s.records c.args.file c.requires.mark
    c.in-Live.live counted.0 other))

pub returns-clause-broken : goal.returns-clause-broken
returns-clause-broken g c = λ tells.
    let s = g.R.Reads.state c.args.space.now in
    let m = c.meta-meta.result in
    let found : IsLineIn (free_line c.args.file) s.records m.high m.free c.in-Some.ids.items = search (rules, c.in_ok-ids.ensures.found tells) in
    let it : IsIt s.records c.args.file c.in-Some.ids.items = subst (λ (n : Meta). IsLineIn (free_line c.args.file) s.records n.high n.free c.in-Some.ids.items)
    c.meta-meta.ensures found in
    let counted : IsCounted s.records c.args.file c.in-Ok.seen.items (OffList c.in-OffList.id) =
    counted_at _ s.records c.args.file _ c.in-Ok.seen.items (OffList c.in-OffList.id) _ c.in_ok-ids.ensures.read.records c.deref-2.ensures.value
    c.in-OffList.is
    (c.in_ok-live.ensures.counted tells) in
    let seen : (p : ℕ) → is_seen c.in-Ok.seen.items p ≡ is_among c.in-Some.ids.items p = search rules in
    breaks_by s.records s.shape 2 _ (damage c.args.file c.in-OffList.id 2) refl refl
    (OffFreeList c.args.file c.in-OffList.id c.requires.file counted.0 counted.1 (is_off s.records c.args.file c.requires.mark c.in-Ok.seen.items
    c.in-Some.ids.items it seen c.in-OffList.id counted.2))

pub returns-in_err-ids-clause-cause : goal.returns-in_err-ids-clause-cause
returns-in_err-ids-clause-cause g c =
    cause_passed _ _ _ c.from_residual.result c.in_err-ids.field-0.0 (omega arith) c.in_err-ids.ensures.cause c.from_residual.ensures.1

pub returns-in_err-live-clause-cause : goal.returns-in_err-live-clause-cause
returns-in_err-live-clause-cause g c =
    cause_passed _ _ _ c.from_residual-in_err-live.result c.in_err-live.field-0.0 c.in_ok-ids.ensures.cause.later c.in_err-live.ensures.cause
    c.from_residual-in_err-live.ensures.1

pub returns-in_err-live-clause-read : goal.returns-in_err-live-clause-read
returns-in_err-live-clause-read g c =
    is_read-on g.R.Reads g.met.R.Reads.further_onward _ _ _ c.in_ok-ids.ensures.read c.in_err-live.ensures.read

pub returns-in-Live-clause-read : goal.returns-in-Live-clause-read
returns-in-Live-clause-read g c =
    is_read-on g.R.Reads g.met.R.Reads.further_onward _ _ _ c.in_ok-ids.ensures.read c.in_ok-live.ensures.read

pub returns-in-Live-2-clause-read : goal.returns-in-Live-2-clause-read
returns-in-Live-2-clause-read g c =
    is_read-on g.R.Reads g.met.R.Reads.further_onward _ _ _ c.in_ok-ids.ensures.read c.in_ok-live.ensures.read

pub returns-in_err-ids-clause-sound : goal.returns-in_err-ids-clause-sound
returns-in_err-ids-clause-sound g c _ = never_ok c.from_residual.result _ _ c.from_residual.ensures.1

pub returns-in_err-ids-clause-broken : goal.returns-in_err-ids-clause-broken
returns-in_err-ids-clause-broken g c _ = never_ok c.from_residual.result _ _ c.from_residual.ensures.1

pub returns-in_err-ids-clause-read : goal.returns-in_err-ids-clause-read
returns-in_err-ids-clause-read g c =
    c.in_err-ids.ensures.read

pub returns-in_err-live-clause-sound : goal.returns-in_err-live-clause-sound
returns-in_err-live-clause-sound g c _ = never_ok c.from_residual-in_err-live.result _ _ c.from_residual-in_err-live.ensures.1

pub returns-in_err-live-clause-broken : goal.returns-in_err-live-clause-broken
returns-in_err-live-clause-broken g c _ = never_ok c.from_residual-in_err-live.result _ _ c.from_residual-in_err-live.ensures.1

pub returns-in_default-clause-read : goal.returns-in_default-clause-read
returns-in_default-clause-read g c = c.follow.ensures.read

pub returns-in_default-clause-cause : goal.returns-in_default-clause-cause
returns-in_default-clause-cause g c = ok_cause _ _ _ _ (returns-in_default-clause-read g c).later

pub returns-in_default-seen_of-clause-read : goal.returns-in_default-seen_of-clause-read
returns-in_default-seen_of-clause-read g c = c.follow.ensures.read

pub returns-in_default-seen_of-clause-cause : goal.returns-in_default-seen_of-clause-cause
returns-in_default-seen_of-clause-cause g c = no_memory _ _ (returns-in_default-seen_of-clause-read g c).later

pub returns-in-Live-clause-cause : goal.returns-in-Live-clause-cause
returns-in-Live-clause-cause g c = ok_cause _ _ _ _ (returns-in-Live-clause-read g c).later

pub returns-in-Live-2-clause-cause : goal.returns-in-Live-2-clause-cause
returns-in-Live-2-clause-cause g c = ok_cause _ _ _ _ (returns-in-Live-2-clause-read g c).later

pub returns-clause-read : goal.returns-clause-read
returns-clause-read g c = is_read-on g.R.Reads g.met.R.Reads.further_onward _ _ _ c.follow.ensures.read c.count_live.ensures.read

pub returns-clause-cause : goal.returns-clause-cause
returns-clause-cause g c = ok_cause _ _ _ _ (returns-clause-read g c).later
