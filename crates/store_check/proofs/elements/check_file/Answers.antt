use Rattle.std.proofs.Common.{rules, arith, ◌≡◌, ◌<◌, ◌⊎◌, ℕ, true, false, IfNone, ap, subst, inl, inr}
use Rattle.std.specs.Bool.{Decides}
use Rattle.rec_bytes.specs.declared.meta.Meta.{Meta}
use Rattle.store_rules.specs.Views.{Records, high}
use Rattle.store_check.specs.declared.elements.ElementHeads.{ElementHeads}
use Rattle.store_check.specs.declared.elements.Named.{Named}
use Rattle.record_lists.specs.declared.heads.Broke.TheVariants.{Head, Item}
use Rattle.store_check.specs.Elements.{AreItsProperties, HasName, IsInUse}
use Rattle.record_lists.specs.Heads.{AmongHeads, AtHead, BrokeIs, HeadKeeps, IsOnce}
use Rattle.record_lists.specs.Seen.{is_seen}
use Rattle.store_check.proofs.ElementLaws.{are_listed, element_head, had_twice}
use Rattle.record_lists.proofs.Causes.{cause_passed}
use Rattle.rec_bytes.proofs.Causes.{never_ok, ok_cause}
use Rattle.record_lists.proofs.OnlyReads.{is_read-on}
use Rattle.store_check.proofs.elements.check_file.Goals as goal

pub returns-in-Some-Head-clause-found : goal.returns-in-Some-Head-clause-found
returns-in-Some-Head-clause-found g c = λ tells.
    let records = (g.R.Reads.state c.args.space.now).records in
    let heads : ElementHeads = record { file = c.args.file; elements = c.meta-elements.result.high; properties = c.meta-properties.result.high } in
    let mark : c.meta-elements.result.high ≡ high records c.args.file = ap (λ (m : Meta). m.high) c.meta-elements.ensures in
    let b : BrokeIs (IsInUse heads records) (AreItsProperties heads records) c.meta-elements.result.high c.args.seen.now (Head c.in-Some-Head.id) =
    search (rules, c.in_ok-id.ensures.broken tells) in
    inl (c.in-Some-Head.id, c.broken.ensures, omega (arith, b.0), (λ k. b.1 (element_head records heads c.requires.file c.in-Some-Head.id k)))

pub returns-in-Some-Item-clause-found : goal.returns-in-Some-Item-clause-found
returns-in-Some-Item-clause-found g c = λ tells.
    let records = (g.R.Reads.state c.args.space.now).records in
    let heads : ElementHeads = record { file = c.args.file; elements = c.meta-elements.result.high; properties = c.meta-properties.result.high } in
    let b : BrokeIs (IsInUse heads records) (AreItsProperties heads records) c.meta-elements.result.high c.args.seen.now (Item c.in-Some-Item.id) =
    search (rules, c.in_ok-id.ensures.broken tells) in
    inr (
      c.in-Some-Item.id,
      c.broken-in-Some-Item.ensures,
      had_twice records heads c.requires.file c.meta-elements.result.high c.args.seen.now
          c.in-Some-Item.id b,
    )

pub returns-in-None-2-clause-none : goal.returns-in-None-2-clause-none
returns-in-None-2-clause-none g c = λ tells.
    let records = (g.R.Reads.state c.args.space.now).records in
    let heads : ElementHeads = record { file = c.args.file; elements = c.meta-elements.result.high; properties = c.meta-properties.result.high } in
    let named : Named = record { file = c.args.file; elements = c.meta-elements.result.high } in
    let n = c.meta-elements.result.high in
    let old = c.args.seen.now in
    let new = c.list_heads.new.seen in
    let mark : n ≡ high records c.args.file = ap (λ (m : Meta). m.high) c.meta-elements.ensures in
    let keeps : (x : ℕ) → x < n → HeadKeeps (IsInUse heads records) (AreItsProperties heads records) x = search (rules, c.in_ok-id.ensures.keeps tells) in
    let told : (p : ℕ) → Decides (is_seen new p) ((is_seen old p ≡ true) ⊎ AmongHeads (IsInUse heads records) (AreItsProperties heads records) n p) =
    search (rules, c.in_ok-id.ensures.seen tells) in
    let once : (p : ℕ) → IsOnce (IsInUse heads records) (AreItsProperties heads records) n p = search (rules, c.in_ok-id.ensures.once tells) in
    let fresh : (k : ℕ) → k < n → (p : ℕ) → AtHead (IsInUse heads records) (AreItsProperties heads records) k p
    → is_seen old p ≡ false = search (rules, c.in_ok-id.ensures.fresh tells) in
    let names : IfNone c.in_ok-id-2.field-0 ((x : ℕ) → x < n → HasName named records x)
    = subst (λ (r : Records). IfNone c.in_ok-id-2.field-0 ((x : ℕ) → x < n → HasName named r x)) c.in_ok-id.ensures.read.records
    (c.in_ok-id-2.ensures.none tells) in
    let each : (x : ℕ) → x < n → HasName named records x = search (rules, names) in
    are_listed records heads c.requires.file n old new mark keeps told once fresh each

pub returns-in_err-id-clause-cause : goal.returns-in_err-id-clause-cause
returns-in_err-id-clause-cause g c =
    cause_passed _ _ _ c.from_residual.result c.in_err-id.field-0.0 (omega arith) c.in_err-id.ensures.cause c.from_residual.ensures.1

pub returns-in_err-id-2-clause-cause : goal.returns-in_err-id-2-clause-cause
returns-in_err-id-2-clause-cause g c =
    cause_passed _ _ _ c.from_residual-in_err-id-2.result c.in_err-id-2.field-0.0 c.in_ok-id.ensures.cause.later c.in_err-id-2.ensures.cause
    c.from_residual-in_err-id-2.ensures.1

pub returns-in_err-id-2-clause-read : goal.returns-in_err-id-2-clause-read
returns-in_err-id-2-clause-read g c =
    is_read-on g.R.Reads g.met.R.Reads.further_onward _ _ _ c.in_ok-id.ensures.read c.in_err-id-2.ensures.read

pub returns-in-Some-clause-read : goal.returns-in-Some-clause-read
returns-in-Some-clause-read g c =
    is_read-on g.R.Reads g.met.R.Reads.further_onward _ _ _ c.in_ok-id.ensures.read c.in_ok-id-2.ensures.read

pub returns-in-None-2-clause-read : goal.returns-in-None-2-clause-read
returns-in-None-2-clause-read g c =
    is_read-on g.R.Reads g.met.R.Reads.further_onward _ _ _ c.in_ok-id.ensures.read c.in_ok-id-2.ensures.read

pub returns-in_err-id-clause-none : goal.returns-in_err-id-clause-none
returns-in_err-id-clause-none g c _ = never_ok c.from_residual.result _ _ c.from_residual.ensures.1

pub returns-in_err-id-clause-found : goal.returns-in_err-id-clause-found
returns-in_err-id-clause-found g c _ = never_ok c.from_residual.result _ _ c.from_residual.ensures.1

pub returns-in_err-id-clause-read : goal.returns-in_err-id-clause-read
returns-in_err-id-clause-read g c =
    c.in_err-id.ensures.read

pub returns-in_err-id-2-clause-none : goal.returns-in_err-id-2-clause-none
returns-in_err-id-2-clause-none g c _ = never_ok c.from_residual-in_err-id-2.result _ _ c.from_residual-in_err-id-2.ensures.1

pub returns-in_err-id-2-clause-found : goal.returns-in_err-id-2-clause-found
returns-in_err-id-2-clause-found g c _ = never_ok c.from_residual-in_err-id-2.result _ _ c.from_residual-in_err-id-2.ensures.1

pub returns-in-Some-Head-clause-read : goal.returns-in-Some-Head-clause-read
returns-in-Some-Head-clause-read g c = c.in_ok-id.ensures.read

pub returns-in-Some-Head-clause-cause : goal.returns-in-Some-Head-clause-cause
returns-in-Some-Head-clause-cause g c = ok_cause _ _ _ _ (returns-in-Some-Head-clause-read g c).later

pub returns-in-Some-Item-clause-read : goal.returns-in-Some-Item-clause-read
returns-in-Some-Item-clause-read g c = c.in_ok-id.ensures.read

pub returns-in-Some-Item-clause-cause : goal.returns-in-Some-Item-clause-cause
returns-in-Some-Item-clause-cause g c = ok_cause _ _ _ _ (returns-in-Some-Item-clause-read g c).later

pub returns-in-None-2-clause-cause : goal.returns-in-None-2-clause-cause
returns-in-None-2-clause-cause g c = ok_cause _ _ _ _ (returns-in-None-2-clause-read g c).later

pub returns-in-Some-clause-cause : goal.returns-in-Some-clause-cause
returns-in-Some-clause-cause g c = ok_cause _ _ _ _ (returns-in-Some-clause-read g c).later
