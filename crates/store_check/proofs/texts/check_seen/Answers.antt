use Rattle.std.proofs.Common.{rules, arith, ◌≡◌, ◌<◌, ◌⊎◌, ℕ, true, IfNone, IfSome, ap, subst, refl}
use Rattle.std.specs.Bool.{Decides}
use Rattle.rec_bytes.specs.declared.meta.Meta.{Meta}
use Rattle.rec_bytes.specs.Format.{properties_file, strings_file}
use Rattle.store_rules.specs.Views.{Records, high, is_live}
use Rattle.record_lists.specs.declared.heads.Broke.TheVariants.{Head, Item}
use Rattle.store_rules.specs.Breaking.{IsBlockList, IsLong, damage}
use Rattle.store_rules.specs.Breaking.Breaks.{WrongBlock, WrongText}
use Rattle.record_lists.specs.Heads.{AmongHeads, BrokeIs, HeadKeeps, IsOnce}
use Rattle.store_check.specs.Holding.{AllTexts}
use Rattle.record_lists.specs.Seen.{is_seen}
use Rattle.store_check.proofs.BlockLaws.{all_texts, not_held, text_head, texts_right, twice_breaks}
use Rattle.record_lists.proofs.DecidingLaws.{breaks_by}
use Rattle.record_lists.proofs.Causes.{cause_passed}
use Rattle.rec_bytes.proofs.Causes.{never_ok, ok_cause}
use Rattle.record_lists.proofs.OnlyReads.{is_read-on}
use Rattle.store_check.proofs.texts.check_seen.Goals as goal

pub returns-in-Some-Head-clause-found : goal.returns-in-Some-Head-clause-found
returns-in-Some-Head-clause-found g c = λ tells.
    let s = g.R.Reads.state c.args.space.now in
    let n = c.meta-properties.result.high in
    let mark : n ≡ high s.records properties_file = ap (λ (m : Meta). m.high) c.meta-properties.ensures in
    let b : BrokeIs (IsLong s.records) (IsBlockList s.records) n c.args.seen.now (Head c.in-Some-Head.id) = search (rules, c.in_ok-id.ensures.broken tells) in
    breaks_by s.records s.shape 5 c.broken.result (damage 4 c.in-Some-Head.id 5) c.broken.ensures refl
    (WrongText c.in-Some-Head.id (omega (arith, b.0)) (λ k. b.1 (text_head s.records c.in-Some-Head.id k)))

pub returns-in-Some-Item-clause-found : goal.returns-in-Some-Item-clause-found
returns-in-Some-Item-clause-found g c = λ tells.
    let s = g.R.Reads.state c.args.space.now in
    let n = c.meta-properties.result.high in
    let b : BrokeIs (IsLong s.records) (IsBlockList s.records) n c.args.seen.now (Item c.in-Some-Item.id) = search (rules, c.in_ok-id.ensures.broken tells) in
    breaks_by s.records s.shape 5 c.broken-in-Some-Item.result (damage 5 c.in-Some-Item.id 5) c.broken-in-Some-Item.ensures refl
    (WrongBlock c.in-Some-Item.id (twice_breaks s.records n c.args.seen.now c.in-Some-Item.id c.requires.clear b))

pub returns-in-Some-clause-found : goal.returns-in-Some-clause-found
returns-in-Some-clause-found g c = λ tells.
    let s = g.R.Reads.state c.args.space.now in
    let n = c.meta-properties.result.high in
    let now = c.list_heads.new.seen in
    let mark : n ≡ high s.records properties_file = ap (λ (m : Meta). m.high) c.meta-properties.ensures in
    let keeps : (p : ℕ) → p < n → HeadKeeps (IsLong s.records) (IsBlockList s.records) p = search (rules, c.in_ok-id.ensures.keeps tells) in
    let told : (b : ℕ) → Decides (is_seen now b) ((is_seen c.args.seen.now b ≡ true) ⊎ AmongHeads (IsLong s.records) (IsBlockList s.records) n b) =
    search (rules, c.in_ok-id.ensures.seen tells) in
    let once : (b : ℕ) → IsOnce (IsLong s.records) (IsBlockList s.records) n b = search (rules, c.in_ok-id.ensures.once tells) in
    let all : AllTexts s.records now = all_texts s.records n c.args.seen.now now mark c.requires.clear keeps told once in
    let found : IfSome c.in_ok-id-2.field-0 (λ x. ¬ (is_live s.records strings_file x ≡ true → is_seen now x ≡ true))
    = subst (λ (r : Records). IfSome c.in_ok-id-2.field-0 (λ x. ¬ (is_live r strings_file x ≡ true → is_seen now x ≡ true))) c.in_ok-id.ensures.read.records
    (c.in_ok-id-2.ensures.found tells) in
    let bad : ¬ (is_live s.records strings_file c.in-Some.id ≡ true → is_seen now c.in-Some.id ≡ true) = search (rules, found) in
    breaks_by s.records s.shape 5 c.broken-in-Some.result (damage 5 c.in-Some.id 5) c.broken-in-Some.ensures refl
    (WrongBlock c.in-Some.id (not_held s.records now c.in-Some.id all bad))

pub returns-in-None-2-clause-none : goal.returns-in-None-2-clause-none
returns-in-None-2-clause-none g c = λ tells.
    let s = g.R.Reads.state c.args.space.now in
    let n = c.meta-properties.result.high in
    let now = c.list_heads.new.seen in
    let mark : n ≡ high s.records properties_file = ap (λ (m : Meta). m.high) c.meta-properties.ensures in
    let keeps : (p : ℕ) → p < n → HeadKeeps (IsLong s.records) (IsBlockList s.records) p = search (rules, c.in_ok-id.ensures.keeps tells) in
    let told : (b : ℕ) → Decides (is_seen now b) ((is_seen c.args.seen.now b ≡ true) ⊎ AmongHeads (IsLong s.records) (IsBlockList s.records) n b) =
    search (rules, c.in_ok-id.ensures.seen tells) in
    let once : (b : ℕ) → IsOnce (IsLong s.records) (IsBlockList s.records) n b = search (rules, c.in_ok-id.ensures.once tells) in
    let all : AllTexts s.records now = all_texts s.records n c.args.seen.now now mark c.requires.clear keeps told once in
    let none : IfNone c.in_ok-id-2.field-0 ((x : ℕ) → x < high s.records strings_file → is_live s.records strings_file x ≡ true → is_seen now x ≡ true)
    = subst (λ (r : Records). IfNone c.in_ok-id-2.field-0 ((x : ℕ) → x < high r strings_file → is_live r strings_file x ≡ true → is_seen now x ≡ true))
    c.in_ok-id.ensures.read.records (c.in_ok-id-2.ensures.none tells) in
    let each : (x : ℕ) → x < high s.records strings_file → is_live s.records strings_file x ≡ true → is_seen now x ≡ true = search (rules, none) in
    texts_right s.records now all each

pub returns-in_err-id-2-clause-read : goal.returns-in_err-id-2-clause-read
returns-in_err-id-2-clause-read g c =
    is_read-on g.R.Reads g.met.R.Reads.further_onward _ _ _ c.in_ok-id.ensures.read c.in_err-id-2.ensures.read

pub returns-in-Some-clause-read : goal.returns-in-Some-clause-read
returns-in-Some-clause-read g c =
    is_read-on g.R.Reads g.met.R.Reads.further_onward _ _ _ c.in_ok-id.ensures.read c.in_ok-id-2.ensures.read

pub returns-in-None-2-clause-read : goal.returns-in-None-2-clause-read
returns-in-None-2-clause-read g c =
    is_read-on g.R.Reads g.met.R.Reads.further_onward _ _ _ c.in_ok-id.ensures.read c.in_ok-id-2.ensures.read

pub returns-in_err-id-2-clause-cause : goal.returns-in_err-id-2-clause-cause
returns-in_err-id-2-clause-cause g c =
    cause_passed _ _ _ c.from_residual-in_err-id-2.result c.in_err-id-2.field-0.0
    c.in_ok-id.ensures.cause.later c.in_err-id-2.ensures.cause
    c.from_residual-in_err-id-2.ensures.1

pub returns-in_err-id-clause-none : goal.returns-in_err-id-clause-none
returns-in_err-id-clause-none g c _ = never_ok c.from_residual.result _ _ c.from_residual.ensures.1

pub returns-in_err-id-clause-found : goal.returns-in_err-id-clause-found
returns-in_err-id-clause-found g c _ = never_ok c.from_residual.result _ _ c.from_residual.ensures.1

pub returns-in_err-id-clause-read : goal.returns-in_err-id-clause-read
returns-in_err-id-clause-read g c =
    c.in_err-id.ensures.read

pub returns-in_err-id-2-clause-none : goal.returns-in_err-id-2-clause-none
returns-in_err-id-2-clause-none g c _ = never_ok c.from_residual-in_err-id-2.result _ _ c.from_residual-in_err-id-2.ensures.1

pub returns-in_err-id-2-clause-found : goal.returns-in_err-id-2-clause-found
returns-in_err-id-2-clause-found g c _ = never_ok c.from_residual-in_err-id-2.result _ _ c.from_residual-in_err-id-2.ensures.1

pub returns-in_err-id-clause-cause : goal.returns-in_err-id-clause-cause
returns-in_err-id-clause-cause g c =
    cause_passed _ _ _ c.from_residual.result c.in_err-id.field-0.0 (omega arith) c.in_err-id.ensures.cause c.from_residual.ensures.1

pub returns-in-Some-Head-clause-read : goal.returns-in-Some-Head-clause-read
returns-in-Some-Head-clause-read g c = c.in_ok-id.ensures.read

pub returns-in-Some-Head-clause-cause : goal.returns-in-Some-Head-clause-cause
returns-in-Some-Head-clause-cause g c = ok_cause _ _ _ _ (returns-in-Some-Head-clause-read g c).later

pub returns-in-Some-Item-clause-read : goal.returns-in-Some-Item-clause-read
returns-in-Some-Item-clause-read g c = c.in_ok-id.ensures.read

pub returns-in-Some-Item-clause-cause : goal.returns-in-Some-Item-clause-cause
returns-in-Some-Item-clause-cause g c = ok_cause _ _ _ _ (returns-in-Some-Item-clause-read g c).later

pub returns-in-None-2-clause-cause : goal.returns-in-None-2-clause-cause
returns-in-None-2-clause-cause g c = ok_cause _ _ _ _ (returns-in-None-2-clause-read g c).later

pub returns-in-Some-clause-cause : goal.returns-in-Some-clause-cause
returns-in-Some-clause-cause g c = ok_cause _ _ _ _ (returns-in-Some-clause-read g c).later
