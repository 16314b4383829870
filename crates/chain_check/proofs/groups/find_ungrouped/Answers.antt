use Rattle.std.proofs.Common.{rules, arith, ◌≡◌, ◌<◌, ◌⊎◌, ℕ, true, IfNone, IfSome, ap, subst, refl}
use Rattle.std.specs.Bool.{Decides}
use Rattle.rec_bytes.specs.declared.meta.Meta.{Meta}
use Rattle.rec_bytes.specs.Format.{groups_file, nodes_file}
use Rattle.store_rules.specs.Views.{Records, high, is_live}
use Rattle.record_lists.specs.declared.heads.Broke.TheVariants.{Head, Item}
use Rattle.store_rules.specs.Breaking.{IsGroupChain, damage}
use Rattle.store_rules.specs.Breaking.Breaks.{GroupOwner, OwnerGroups}
use Rattle.record_lists.specs.Heads.{AmongHeads, BrokeIs, HeadKeeps}
use Rattle.record_lists.specs.Seen.{is_seen}
use Rattle.chain_check.specs.NodeChains.{IsDense}
use Rattle.chain_check.proofs.GroupChainLaws.{are_grouped, head_of_keeps, keeps_of_head, seen_of_member, member_of_seen, never_twice}
use Rattle.record_lists.proofs.HeadLaws.{told_clear}
use Rattle.record_lists.proofs.DecidingLaws.{breaks_by}
use Rattle.record_lists.proofs.Causes.{cause_passed}
use Rattle.rec_bytes.proofs.Causes.{never_ok, ok_cause}
use Rattle.record_lists.proofs.OnlyReads.{is_read-on}
use Rattle.chain_check.proofs.groups.find_ungrouped.Goals as goal

pub returns-in-Some-Head-clause-broken : goal.returns-in-Some-Head-clause-broken
returns-in-Some-Head-clause-broken g c = λ tells.
    let s = g.R.Reads.state c.args.space.now in
    let id = c.in-Some-Head.id in
    let mark : c.meta-nodes.result.high ≡ high s.records nodes_file = ap (λ (m : Meta). m.high) c.meta-nodes.ensures in
    let b : BrokeIs (IsDense s.records) (IsGroupChain s.records) c.meta-nodes.result.high c.args.seen.now (Head id) =
    search (rules, c.in_ok-id.ensures.broken tells) in
    breaks_by s.records s.shape 4 c.broken.result (damage 1 id 4) c.broken.ensures refl
    (OwnerGroups id (omega (arith, b.0)) (λ k. b.1 (head_of_keeps s.records id k)))

pub returns-in-Some-Item-clause-broken : goal.returns-in-Some-Item-clause-broken
returns-in-Some-Item-clause-broken g c = λ tells.
    let s = g.R.Reads.state c.args.space.now in
    let b : BrokeIs (IsDense s.records) (IsGroupChain s.records) c.meta-nodes.result.high c.args.seen.now (Item c.in-Some-Item.group) =
    search (rules, c.in_ok-id.ensures.broken tells) in
    absurd (never_twice s.records c.meta-nodes.result.high c.args.seen.now c.in-Some-Item.group c.requires.clear b)

pub returns-in-Some-clause-broken : goal.returns-in-Some-clause-broken
returns-in-Some-clause-broken g c = λ tells.
    let s = g.R.Reads.state c.args.space.now in
    let seen = c.list_heads.new.seen in
    let id = c.in-Some.id in
    let mark : c.meta-nodes.result.high ≡ high s.records nodes_file = ap (λ (m : Meta). m.high) c.meta-nodes.ensures in
    let told : (p : ℕ) → Decides (is_seen seen p) ((is_seen c.args.seen.now p ≡ true) ⊎ AmongHeads (IsDense s.records) (IsGroupChain s.records)
    c.meta-nodes.result.high p) = search (rules, c.in_ok-id.ensures.seen tells) in
    let told2 : (p : ℕ) → Decides (is_seen seen p) (AmongHeads (IsDense s.records) (IsGroupChain s.records) (high s.records nodes_file) p)
    = subst (λ m. (p : ℕ) → Decides (is_seen seen p) (AmongHeads (IsDense s.records) (IsGroupChain s.records) m p)) mark
    (told_clear (IsDense s.records) (IsGroupChain s.records) c.meta-nodes.result.high c.args.seen.now seen c.requires.clear told) in
    let found : IfSome c.in_ok-id-2.field-0 (λ x. ¬ (is_live s.records groups_file x ≡ true → is_seen seen x ≡ true))
    = subst (λ (r : Records). IfSome c.in_ok-id-2.field-0 (λ x. ¬ (is_live r groups_file x ≡ true → is_seen seen x ≡ true))) c.in_ok-id.ensures.read.records
    (c.in_ok-id-2.ensures.found tells) in
    let bad : ¬ (is_live s.records groups_file id ≡ true → is_seen seen id ≡ true) = search (rules, found) in
    breaks_by s.records s.shape 4 c.broken-in-Some.result (damage 3 id 4) c.broken-in-Some.ensures refl
    (GroupOwner id (λ k. bad (seen_of_member s.records seen told2 id k)))

pub returns-in-None-2-clause-grouped : goal.returns-in-None-2-clause-grouped
returns-in-None-2-clause-grouped g c = λ tells.
    let s = g.R.Reads.state c.args.space.now in
    let seen = c.list_heads.new.seen in
    let mark : c.meta-nodes.result.high ≡ high s.records nodes_file = ap (λ (m : Meta). m.high) c.meta-nodes.ensures in
    let told : (p : ℕ) → Decides (is_seen seen p) ((is_seen c.args.seen.now p ≡ true) ⊎ AmongHeads (IsDense s.records) (IsGroupChain s.records)
    c.meta-nodes.result.high p) = search (rules, c.in_ok-id.ensures.seen tells) in
    let told2 : (p : ℕ) → Decides (is_seen seen p) (AmongHeads (IsDense s.records) (IsGroupChain s.records) (high s.records nodes_file) p)
    = subst (λ m. (p : ℕ) → Decides (is_seen seen p) (AmongHeads (IsDense s.records) (IsGroupChain s.records) m p)) mark
    (told_clear (IsDense s.records) (IsGroupChain s.records) c.meta-nodes.result.high c.args.seen.now seen c.requires.clear told) in
    let heads : (k : ℕ) → k < c.meta-nodes.result.high → HeadKeeps (IsDense s.records) (IsGroupChain s.records) k =
    search (rules, c.in_ok-id.ensures.keeps tells) in
    let none : IfNone c.in_ok-id-2.field-0 ((x : ℕ) → x < high s.records groups_file → is_live s.records groups_file x ≡ true → is_seen seen x ≡ true)
    = subst (λ (r : Records). IfNone c.in_ok-id-2.field-0 ((x : ℕ) → x < high r groups_file → is_live r groups_file x ≡ true → is_seen seen x ≡ true))
    c.in_ok-id.ensures.read.records (c.in_ok-id-2.ensures.none tells) in
    let held : (x : ℕ) → x < high s.records groups_file → is_live s.records groups_file x ≡ true → is_seen seen x ≡ true = search (rules, none) in
    are_grouped s.records (λ n lt. keeps_of_head s.records n (heads n (omega arith))) (λ x lt. member_of_seen s.records seen told2 x (held x lt))

pub returns-in_err-id-clause-cause : goal.returns-in_err-id-clause-cause
returns-in_err-id-clause-cause g c =
    cause_passed _ _ _ c.from_residual.result c.in_err-id.field-0.0 (omega arith) c.in_err-id.ensures.cause c.from_residual.ensures.1

pub returns-in_err-id-2-clause-cause : goal.returns-in_err-id-2-clause-cause
returns-in_err-id-2-clause-cause g c =
    cause_passed _ _ _ c.from_residual-in_err-id-2.result c.in_err-id-2.field-0.0 c.in_ok-id.ensures.cause.later c.in_err-id-2.ensures.cause
    c.from_residual-in_err-id-2.ensures.1

pub returns-in_err-id-2-clause-read : goal.returns-in_err-id-2-clause-read
returns-in_err-id-2-clause-read g c =
    is_read-on g.R.Reads g.met.R.Reads.further_onward _ _ _ c.in_ok-id.ensures.read c.in_err-id-2.ensures.read

pub returns-in-Some-clause-read : goal.returns-in-Some-clause-read
returns-in-Some-clause-read g c =
    is_read-on g.R.Reads g.met.R.Reads.further_onward _ _ _ c.in_ok-id.ensures.read c.in_ok-id-2.ensures.read

pub returns-in-None-2-clause-read : goal.returns-in-None-2-clause-read
returns-in-None-2-clause-read g c =
    is_read-on g.R.Reads g.met.R.Reads.further_onward _ _ _ c.in_ok-id.ensures.read c.in_ok-id-2.ensures.read

pub returns-in_err-id-clause-grouped : goal.returns-in_err-id-clause-grouped
returns-in_err-id-clause-grouped g c _ = never_ok c.from_residual.result _ _ c.from_residual.ensures.1

pub returns-in_err-id-clause-broken : goal.returns-in_err-id-clause-broken
returns-in_err-id-clause-broken g c _ = never_ok c.from_residual.result _ _ c.from_residual.ensures.1

pub returns-in_err-id-clause-read : goal.returns-in_err-id-clause-read
returns-in_err-id-clause-read g c =
    c.in_err-id.ensures.read

pub returns-in_err-id-2-clause-grouped : goal.returns-in_err-id-2-clause-grouped
returns-in_err-id-2-clause-grouped g c _ = never_ok c.from_residual-in_err-id-2.result _ _ c.from_residual-in_err-id-2.ensures.1

pub returns-in_err-id-2-clause-broken : goal.returns-in_err-id-2-clause-broken
returns-in_err-id-2-clause-broken g c _ = never_ok c.from_residual-in_err-id-2.result _ _ c.from_residual-in_err-id-2.ensures.1

pub returns-in-Some-Head-clause-read : goal.returns-in-Some-Head-clause-read
returns-in-Some-Head-clause-read g c = c.in_ok-id.ensures.read

pub returns-in-Some-Head-clause-cause : goal.returns-in-Some-Head-clause-cause
returns-in-Some-Head-clause-cause g c = ok_cause _ _ _ _ (returns-in-Some-Head-clause-read g c).later

pub returns-in-Some-Item-clause-read : goal.returns-in-Some-Item-clause-read
returns-in-Some-Item-clause-read g c = c.in_ok-id.ensures.read

pub returns-in-Some-Item-clause-cause : goal.returns-in-Some-Item-clause-cause
returns-in-Some-Item-clause-cause g c = ok_cause _ _ _ _ (returns-in-Some-Item-clause-read g c).later

pub returns-in-None-2-clause-cause : goal.returns-in-None-2-clause-cause
returns-in-None-2-clause-cause g c = ok_cause _ _ _ _ (returns-in-None-2-clause-read g c).later

pub returns-in-Some-clause-cause : goal.returns-in-Some-clause-cause
returns-in-Some-clause-cause g c = ok_cause _ _ _ _ (returns-in-Some-clause-read g c).later
