use Rattle.std.proofs.Common.{rules, arith, ◌≡◌, ◌*◌, ◌/◌, ◌<◌, ◌⊎◌, ℕ, true, IfNone, IfSome, sym, ap, ◌∙◌, subst, refl}
use Rattle.std.specs.Bool.{Decides}
use Rattle.rec_bytes.specs.declared.meta.Meta.{Meta}
use Rattle.rec_bytes.specs.Format.{groups_file, nodes_file}
use Rattle.store_rules.specs.Views.{Records, high}
use Rattle.record_lists.specs.declared.heads.Broke.TheVariants.{Head, Item}
use Rattle.store_rules.specs.Breaking.{damage}
use Rattle.store_rules.specs.Breaking.Breaks.{GroupChains, NodeChain, RelEnds}
use Rattle.record_lists.specs.Heads.{AmongHeads, BrokeIs, HeadKeeps, IsOnce}
use Rattle.record_lists.specs.Seen.{is_seen}
use Rattle.chain_check.specs.NodeChains.{AreGroupEnds, AreNodeEnds, IsChained, IsSparse, group_of}
use Rattle.chain_check.proofs.EndLaws.{all_met, group_twice, head_of_keeps, heads_of_keeps, keeps_of_head}
use Rattle.chain_check.proofs.EndLaws.{keeps_of_heads, met_once, never_twice, nodes_keep, own_chain}
use Rattle.record_lists.proofs.HeadLaws.{told_clear}
use Rattle.record_lists.proofs.DecidingLaws.{breaks_by}
use Rattle.record_lists.proofs.Causes.{cause_passed}
use Rattle.rec_bytes.proofs.Causes.{never_ok, ok_cause}
use Rattle.record_lists.proofs.OnlyReads.{is_read-on}
use Rattle.chain_check.proofs.chains.see_ends.Goals as goal

pub returns-in-Some-Head-clause-broken : goal.returns-in-Some-Head-clause-broken
returns-in-Some-Head-clause-broken g c = λ tells.
    let s = g.R.Reads.state c.args.space.now in
    let id = c.in-Some-Head.id in
    let b : BrokeIs (IsSparse s.records) (AreNodeEnds s.records) (high s.records nodes_file) c.args.seen.now (Head id) =
    search (rules, c.in_ok-id.ensures.broken tells) in
    breaks_by s.records s.shape 3 c.broken.result (damage 1 id 3) (c.broken.ensures ∙ ap (λ i. damage 1 i 3) c.in-Some-Head.id-is) refl
    (NodeChain id b.0 (λ k. b.1 (head_of_keeps s.records id k)))

pub returns-in-Some-Item-clause-broken : goal.returns-in-Some-Item-clause-broken
returns-in-Some-Item-clause-broken g c = λ tells.
    let s = g.R.Reads.state c.args.space.now in
    let b : BrokeIs (IsSparse s.records) (AreNodeEnds s.records) (high s.records nodes_file) c.args.seen.now (Item c.in-Some-Item.end) =
    search (rules, c.in_ok-id.ensures.broken tells) in
    absurd (never_twice s.records (high s.records nodes_file) c.args.seen.now c.in-Some-Item.end c.requires.clear b)

pub returns-in-Some-Head-2-clause-broken : goal.returns-in-Some-Head-2-clause-broken
returns-in-Some-Head-2-clause-broken g c = λ tells.
    let s = g.R.Reads.state c.args.space.now in
    let id = c.in-Some-Head-2.id in
    let chained = c.args.chained.now in
    let right = c.requires.chained tells in
    let first = c.see_node_ends.new.seen in
    let groups = 3 * c.meta-groups.result.high in
    let group_mark : c.meta-groups.result.high ≡ high s.records groups_file = ap (λ (m : Meta). m.high) c.meta-groups.ensures in
    let told : IfSome c.in_ok-id-2.field-0 (BrokeIs (λ k. IsChained chained s.records (group_of k)) (AreGroupEnds s.records) groups first)
    = subst (λ (r : Records). IfSome c.in_ok-id-2.field-0 (BrokeIs (λ k. IsChained chained r (group_of k)) (AreGroupEnds r) groups first))
    c.in_ok-id.ensures.read.records (c.in_ok-id-2.ensures.broken tells) in
    let b : BrokeIs (λ k. IsChained chained s.records (group_of k)) (AreGroupEnds s.records) groups first (Head id) = search (rules, told) in
    breaks_by s.records s.shape 3 c.broken-in-Some-Head-2.result (damage 3 (id / 3) 3) c.broken-in-Some-Head-2.ensures refl
    (GroupChains (id / 3) (omega (arith, b.0)) (own_chain s.records chained right id b.1) (λ k. b.1 (heads_of_keeps s.records chained right id k)))

pub returns-in-Some-Item-2-clause-broken : goal.returns-in-Some-Item-2-clause-broken
returns-in-Some-Item-2-clause-broken g c = λ tells.
    let s = g.R.Reads.state c.args.space.now in
    let chained = c.args.chained.now in
    let first = c.see_node_ends.new.seen in
    let end = c.in-Some-Item-2.end in
    let nodes = high s.records nodes_file in
    let groups = 3 * c.meta-groups.result.high in
    let told : (p : ℕ) → Decides (is_seen first p) ((is_seen c.args.seen.now p ≡ true) ⊎ AmongHeads (IsSparse s.records) (AreNodeEnds s.records) nodes p) =
    search (rules, c.in_ok-id.ensures.seen tells) in
    let twice : IfSome c.in_ok-id-2.field-0 (BrokeIs (λ k. IsChained chained s.records (group_of k)) (AreGroupEnds s.records) groups first)
    = subst (λ (r : Records). IfSome c.in_ok-id-2.field-0 (BrokeIs (λ k. IsChained chained r (group_of k)) (AreGroupEnds r) groups first))
    c.in_ok-id.ensures.read.records (c.in_ok-id-2.ensures.broken tells) in
    let b : BrokeIs (λ k. IsChained chained s.records (group_of k)) (AreGroupEnds s.records) groups first (Item end) = search (rules, twice) in
    let bad = group_twice s.records chained (c.requires.chained tells) nodes groups first end
    (told_clear (IsSparse s.records) (AreNodeEnds s.records) nodes c.args.seen.now first c.requires.clear told) b in
    breaks_by s.records s.shape 3 c.broken-in-Some-Item-2.result (damage 2 bad.0 3) (c.broken-in-Some-Item-2.ensures ∙ ap (λ x. damage 2 x 3) (sym bad.1)) refl
    (RelEnds bad.0 bad.2 bad.3)

pub returns-in-None-2-clause-met : goal.returns-in-None-2-clause-met
returns-in-None-2-clause-met g c = λ tells.
    let s = g.R.Reads.state c.args.space.now in
    let chained = c.args.chained.now in
    let right = c.requires.chained tells in
    let first = c.see_node_ends.new.seen in
    let last = c.list_heads.new.seen in
    let nodes = high s.records nodes_file in
    let groups = 3 * c.meta-groups.result.high in
    let group_mark : c.meta-groups.result.high ≡ high s.records groups_file = ap (λ (m : Meta). m.high) c.meta-groups.ensures in
    let told : (p : ℕ) → Decides (is_seen first p) ((is_seen c.args.seen.now p ≡ true) ⊎ AmongHeads (IsSparse s.records) (AreNodeEnds s.records) nodes p) =
    search (rules, c.in_ok-id.ensures.seen tells) in
    let node_told : (p : ℕ) → Decides (is_seen first p) (AmongHeads (IsSparse s.records) (AreNodeEnds s.records) nodes p) =
    told_clear (IsSparse s.records) (AreNodeEnds s.records) nodes c.args.seen.now first c.requires.clear told in
    let node_heads : (k : ℕ) → k < nodes → HeadKeeps (IsSparse s.records) (AreNodeEnds s.records) k = search (rules, c.in_ok-id.ensures.keeps tells) in
    let seen : IfNone c.in_ok-id-2.field-0 ((p : ℕ) → Decides (is_seen last p) ((is_seen first p ≡ true) ⊎ AmongHeads (λ k. IsChained chained s.records
    (group_of k)) (AreGroupEnds s.records) groups p))
    = subst (λ (r : Records). IfNone c.in_ok-id-2.field-0 ((p : ℕ) → Decides (is_seen last p) ((is_seen first p ≡ true) ⊎ AmongHeads
    (λ k. IsChained chained r (group_of k)) (AreGroupEnds r) groups p))) c.in_ok-id.ensures.read.records (c.in_ok-id-2.ensures.seen tells) in
    let group_told : (p : ℕ) → Decides (is_seen last p) ((is_seen first p ≡ true) ⊎ AmongHeads (λ k. IsChained chained s.records (group_of k))
    (AreGroupEnds s.records) groups p) = search (rules, seen) in
    let keeps : IfNone c.in_ok-id-2.field-0 ((k : ℕ) → k < groups → HeadKeeps (λ k. IsChained chained s.records (group_of k)) (AreGroupEnds s.records) k)
    = subst (λ (r : Records). IfNone c.in_ok-id-2.field-0 ((k : ℕ) → k < groups → HeadKeeps (λ k. IsChained chained r (group_of k)) (AreGroupEnds r) k))
    c.in_ok-id.ensures.read.records (c.in_ok-id-2.ensures.keeps tells) in
    let group_heads : (k : ℕ) → k < groups → HeadKeeps (λ k. IsChained chained s.records (group_of k)) (AreGroupEnds s.records) k = search (rules, keeps) in
    let once : IfNone c.in_ok-id-2.field-0 ((p : ℕ) → IsOnce (λ k. IsChained chained s.records (group_of k)) (AreGroupEnds s.records) groups p)
    = subst (λ (r : Records). IfNone c.in_ok-id-2.field-0 ((p : ℕ) → IsOnce (λ k. IsChained chained r (group_of k)) (AreGroupEnds r) groups p))
    c.in_ok-id.ensures.read.records (c.in_ok-id-2.ensures.once tells) in
    let group_once : (p : ℕ) → IsOnce (λ k. IsChained chained s.records (group_of k)) (AreGroupEnds s.records) groups p = search (rules, once) in
    let all_told = subst (λ m. (p : ℕ) → Decides (is_seen last p) ((is_seen first p ≡ true) ⊎ AmongHeads (λ k. IsChained chained s.records (group_of k))
    (AreGroupEnds s.records) (3 * m) p)) group_mark group_told in
    record {
      nodes = nodes_keep s.records (λ n lt. keeps_of_head s.records n (node_heads n lt));
      groups = keeps_of_heads s.records chained right (λ k low. group_heads k (omega arith));
      told = all_met s.records chained right first last node_told all_told;
      once = met_once s.records chained right first last node_told all_told
          (subst (λ m. (p : ℕ) → IsOnce (λ k. IsChained chained s.records (group_of k)) (AreGroupEnds s.records) (3 * m) p) group_mark group_once);
    }

pub returns-in_err-id-clause-cause : goal.returns-in_err-id-clause-cause
returns-in_err-id-clause-cause g c =
    cause_passed _ _ _ c.from_residual.result c.in_err-id.field-0.0 (omega arith) c.in_err-id.ensures.cause c.from_residual.ensures.1

pub returns-in_err-id-2-clause-cause : goal.returns-in_err-id-2-clause-cause
returns-in_err-id-2-clause-cause g c =
    cause_passed _ _ _ c.from_residual-in_err-id-2.result c.in_err-id-2.field-0.0 c.in_ok-id.ensures.cause.later c.in_err-id-2.ensures.cause
    c.from_residual-in_err-id-2.ensures.1

pub returns-in_err-id-2-clause-read : goal.returns-in_err-id-2-clause-read
returns-in_err-id-2-clause-read g c =
    is_read-on g.R.Reads g.met.R.Reads.further_onward _ _ _ c.in_ok-id.ensures.read c.in_err-id-2.ensures.read

pub returns-in-Some-Head-2-clause-read : goal.returns-in-Some-Head-2-clause-read
returns-in-Some-Head-2-clause-read g c =
    is_read-on g.R.Reads g.met.R.Reads.further_onward _ _ _ c.in_ok-id.ensures.read c.in_ok-id-2.ensures.read

pub returns-in-Some-Item-2-clause-read : goal.returns-in-Some-Item-2-clause-read
returns-in-Some-Item-2-clause-read g c =
    is_read-on g.R.Reads g.met.R.Reads.further_onward _ _ _ c.in_ok-id.ensures.read c.in_ok-id-2.ensures.read

pub returns-in-None-2-clause-read : goal.returns-in-None-2-clause-read
returns-in-None-2-clause-read g c =
    is_read-on g.R.Reads g.met.R.Reads.further_onward _ _ _ c.in_ok-id.ensures.read c.in_ok-id-2.ensures.read

pub returns-in_err-id-clause-met : goal.returns-in_err-id-clause-met
returns-in_err-id-clause-met g c _ = never_ok c.from_residual.result _ _ c.from_residual.ensures.1

pub returns-in_err-id-clause-broken : goal.returns-in_err-id-clause-broken
returns-in_err-id-clause-broken g c _ = never_ok c.from_residual.result _ _ c.from_residual.ensures.1

pub returns-in_err-id-clause-read : goal.returns-in_err-id-clause-read
returns-in_err-id-clause-read g c =
    c.in_err-id.ensures.read

pub returns-in_err-id-2-clause-met : goal.returns-in_err-id-2-clause-met
returns-in_err-id-2-clause-met g c _ = never_ok c.from_residual-in_err-id-2.result _ _ c.from_residual-in_err-id-2.ensures.1

pub returns-in_err-id-2-clause-broken : goal.returns-in_err-id-2-clause-broken
returns-in_err-id-2-clause-broken g c _ = never_ok c.from_residual-in_err-id-2.result _ _ c.from_residual-in_err-id-2.ensures.1

pub returns-in-Some-Head-clause-read : goal.returns-in-Some-Head-clause-read
returns-in-Some-Head-clause-read g c = c.in_ok-id.ensures.read

pub returns-in-Some-Head-clause-cause : goal.returns-in-Some-Head-clause-cause
returns-in-Some-Head-clause-cause g c = ok_cause _ _ _ _ (returns-in-Some-Head-clause-read g c).later

pub returns-in-Some-Item-clause-read : goal.returns-in-Some-Item-clause-read
returns-in-Some-Item-clause-read g c = c.in_ok-id.ensures.read

pub returns-in-Some-Item-clause-cause : goal.returns-in-Some-Item-clause-cause
returns-in-Some-Item-clause-cause g c = ok_cause _ _ _ _ (returns-in-Some-Item-clause-read g c).later

pub returns-in-None-2-clause-cause : goal.returns-in-None-2-clause-cause
returns-in-None-2-clause-cause g c = ok_cause _ _ _ _ (returns-in-None-2-clause-read g c).later

pub returns-in-Some-Head-2-clause-cause : goal.returns-in-Some-Head-2-clause-cause
returns-in-Some-Head-2-clause-cause g c = ok_cause _ _ _ _ (returns-in-Some-Head-2-clause-read g c).later

pub returns-in-Some-Item-2-clause-cause : goal.returns-in-Some-Item-2-clause-cause
returns-in-Some-Item-2-clause-cause g c = ok_cause _ _ _ _ (returns-in-Some-Item-2-clause-read g c).later
