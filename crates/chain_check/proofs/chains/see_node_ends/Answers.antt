use Rattle.std.proofs.Common.{arith, ap, rules, ◌≡◌, ◌≤◌, ◌<◌, ◌⊎◌, ◌∙◌, ℕ, IfNone, IfSome, length, refl, subst, sym, true}
use Rattle.std.specs.Bool.{Decides}
use Rattle.std.proofs.lemmas.Result.{IfOk-weaker}
use Rattle.rec_bytes.specs.declared.meta.Meta.{Meta}
use Rattle.rec_bytes.specs.Format.{most_ids, nodes_file, relationships_file}
use Rattle.rec_bytes.proofs.Causes.{never_ok}
use Rattle.store_rules.specs.Views.{Records, high}
use Rattle.record_lists.specs.Heads.{AmongHeads, BrokeIs, HeadKeeps}
use Rattle.record_lists.specs.Seen.{is_seen}
use Rattle.record_lists.proofs.Causes.{cause_passed}
use Rattle.chain_check.proofs.Causes.{cause_later}
use Rattle.chain_check.specs.LinkRows.{AreLinkRows, AreRowEndsOf}
use Rattle.chain_check.specs.NodeChains.{IsSparse}
use Rattle.chain_check.proofs.RowLaws.{broken_found, keeps_found, seen_found}
use Rattle.record_lists.proofs.OnlyReads.{is_read-on}
use Rattle.chain_check.proofs.chains.see_node_ends.Goals as goal

pub returns-clause-keeps : goal.returns-clause-keeps
returns-clause-keeps g c = λ tells.
    let records = (g.R.Reads.state c.args.space.now).records in
    let after = (g.R.Reads.state c.link_rows.new.space).records in
    let rows = c.deref.result.now in
    let is : rows ≡ c.in_ok-rows.rows.items = c.deref.ensures.value in
    let nodes = c.meta-nodes.result.high in
    let same = c.in_ok-rows.ensures.read.records in
    let mark : nodes ≡ high records nodes_file = ap (λ (m : Meta). m.high) c.meta-nodes.ensures ∙ ap (λ (r : Records). high r nodes_file) same in
    IfOk-weaker c.list_heads.result (λ found. IfNone found ((k : ℕ) → k < nodes → HeadKeeps (IsSparse after) (AreRowEndsOf rows after) k)) _
    (keeps_found records after rows nodes same mark (subst (AreLinkRows records) (sym is) (c.in_ok-rows.ensures.rows tells))
    (ap length is ∙ c.in_ok-rows.ensures.len) (c.requires.low nodes_file refl) (c.requires.low relationships_file refl)) (c.list_heads.ensures.keeps tells)

pub returns-clause-seen : goal.returns-clause-seen
returns-clause-seen g c = λ tells.
    let records = (g.R.Reads.state c.args.space.now).records in
    let after = (g.R.Reads.state c.link_rows.new.space).records in
    let rows = c.deref.result.now in
    let is : rows ≡ c.in_ok-rows.rows.items = c.deref.ensures.value in
    let nodes = c.meta-nodes.result.high in
    let same = c.in_ok-rows.ensures.read.records in
    let old = c.args.seen.now in
    let new = c.list_heads.new.seen in
    let mark : nodes ≡ high records nodes_file = ap (λ (m : Meta). m.high) c.meta-nodes.ensures ∙ ap (λ (r : Records). high r nodes_file) same in
    IfOk-weaker c.list_heads.result (λ found. IfNone found ((p : ℕ) → Decides (is_seen new p) ((is_seen old p ≡ true) ⊎ AmongHeads (IsSparse after)
    (AreRowEndsOf rows after) nodes p))) _
    (seen_found records after rows nodes same mark (subst (AreLinkRows records) (sym is) (c.in_ok-rows.ensures.rows tells))
    (ap length is ∙ c.in_ok-rows.ensures.len) (c.requires.low nodes_file refl) (c.requires.low relationships_file refl) old new) (c.list_heads.ensures.seen
    tells)

pub returns-clause-broken : goal.returns-clause-broken
returns-clause-broken g c = λ tells.
    let records = (g.R.Reads.state c.args.space.now).records in
    let after = (g.R.Reads.state c.link_rows.new.space).records in
    let rows = c.deref.result.now in
    let is : rows ≡ c.in_ok-rows.rows.items = c.deref.ensures.value in
    let nodes = c.meta-nodes.result.high in
    let same = c.in_ok-rows.ensures.read.records in
    let old = c.args.seen.now in
    let mark : nodes ≡ high records nodes_file = ap (λ (m : Meta). m.high) c.meta-nodes.ensures ∙ ap (λ (r : Records). high r nodes_file) same in
    IfOk-weaker c.list_heads.result (λ found. IfSome found (BrokeIs (IsSparse after) (AreRowEndsOf rows after) nodes old)) _
    (broken_found records after rows nodes same mark (subst (AreLinkRows records) (sym is) (c.in_ok-rows.ensures.rows tells))
    (ap length is ∙ c.in_ok-rows.ensures.len) (c.requires.low nodes_file refl) (c.requires.low relationships_file refl) old) (c.list_heads.ensures.broken tells)

pub list_heads-requires-clause-suits : goal.list_heads-requires-clause-suits
list_heads-requires-clause-suits g c =
    let same = c.in_ok-rows.ensures.read.records in
    let few : high (g.R.Reads.state c.args.space.now).records relationships_file ≤ most_ids = c.requires.low relationships_file refl in
    record {
      nodes = ap (λ (m : Meta). m.high) c.meta-nodes.ensures;
      few_nodes = subst (λ (r : Records). high r nodes_file ≤ most_ids) (sym same) (c.requires.low nodes_file refl);
      few_rows = let is : c.deref.result.now ≡ c.in_ok-rows.rows.items = search rules in omega (arith, ap length is, c.in_ok-rows.ensures.len, few);
    }

pub returns-in_err-rows-clause-keeps : goal.returns-in_err-rows-clause-keeps
returns-in_err-rows-clause-keeps g c _ = never_ok c.from_residual.result _ _ c.from_residual.ensures.1

pub returns-in_err-rows-clause-seen : goal.returns-in_err-rows-clause-seen
returns-in_err-rows-clause-seen g c _ = never_ok c.from_residual.result _ _ c.from_residual.ensures.1

pub returns-in_err-rows-clause-broken : goal.returns-in_err-rows-clause-broken
returns-in_err-rows-clause-broken g c _ = never_ok c.from_residual.result _ _ c.from_residual.ensures.1

pub returns-in_err-rows-clause-read : goal.returns-in_err-rows-clause-read
returns-in_err-rows-clause-read g c =
    c.in_err-rows.ensures.read

pub returns-in_err-rows-clause-cause : goal.returns-in_err-rows-clause-cause
returns-in_err-rows-clause-cause g c =
    cause_passed _ _ _ c.from_residual.result c.in_err-rows.field-0.0 (omega arith) c.in_err-rows.ensures.cause c.from_residual.ensures.1

pub returns-clause-read : goal.returns-clause-read
returns-clause-read g c = is_read-on g.R.Reads g.met.R.Reads.further_onward _ _ _ c.link_rows.ensures.read c.list_heads.ensures.read

pub returns-clause-cause : goal.returns-clause-cause
returns-clause-cause g c = cause_later _ _ _ c.list_heads.result c.link_rows.ensures.read.later c.list_heads.ensures.cause
