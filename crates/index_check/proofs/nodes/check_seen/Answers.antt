use Rattle.std.proofs.Common.{rules, ◌≡◌, ◌∙◌, ℕ, true, sym}
use Rattle.std.proofs.lemmas.Bool.{true≢false}
use Rattle.record_lists.specs.Seen.{is_among, is_seen}
use Rattle.record_lists.proofs.LineLaws.{among_from_in, in_from_among}
use Rattle.store_rules.specs.Properties.{AreOnce}
use Rattle.index_check.specs.Nodes.{HasValue, IsMissing}
use Rattle.index_check.specs.Nodes.IsWrongNode.{Lacking, Twice}
use Rattle.index_check.proofs.nodes.check_seen.Goals as goal

pub returns-in-Some-clause-found : goal.returns-in-Some-clause-found
returns-in-Some-clause-found g c = λ tells. Twice (c.in-Some.ensures.twice)

pub returns-in-Some-2-clause-found : goal.returns-in-Some-2-clause-found
returns-in-Some-2-clause-found g c = λ tells.
    let records = (g.R.Reads.state c.args.space.now).records in
    let nodes = c.args.nodes.now in
    let n = c.in-Some-2.node in
    let told : (p : ℕ) → is_seen c.see_once.new.seen p ≡ is_among nodes p = search (rules, c.in_default.ensures.seen) in
    let missing : IsMissing records c.args.definition.now n (is_seen c.see_once.new.seen n) = search (rules, c.in_ok-node.ensures.found tells) in
    Lacking missing.has (λ i. true≢false (sym (among_from_in n nodes i) ∙ sym (told n) ∙ missing.unmet))

pub returns-in-None-clause-none : goal.returns-in-None-clause-none
returns-in-None-clause-none g c = λ tells.
    let records = (g.R.Reads.state c.args.space.now).records in
    let nodes = c.args.nodes.now in
    let once : AreOnce nodes = search (rules, c.in_default.ensures.once) in
    let told : (p : ℕ) → is_seen c.see_once.new.seen p ≡ is_among nodes p = search (rules, c.in_default.ensures.seen) in
    let met : (n : ℕ) → HasValue records c.args.definition.now n → is_seen c.see_once.new.seen n ≡ true = search (rules, c.in_ok-node.ensures.none tells) in
    record { once = once; all = λ n h. in_from_among n nodes (sym (told n) ∙ met n h) }
