use Rattle.std.proofs.Common.{rules, ◌≡◌, ◌∙◌, ℕ, List, subst, arith, sym}
use Rattle.rec_bytes.specs.Format as format
use Rattle.store_rules.specs.Views.{Records}
use Rattle.index_check.specs.Entries.{AreEntriesTo, LacksBucket}
use Rattle.index_check.specs.Nodes.{AreNodesOf, AreNodesRight, IsWrongNode}
use Rattle.index_check.specs.declared.definitions.Definition.{Definition}
use Rattle.index_check.specs.declared.nodes.Entered.{Entered}
use Rattle.index_check.specs.declared.nodes.Entered.TheVariants.{Nodes, Unwanted}
use Rattle.index_check.proofs.IndexLaws.{breaks_by, lacks_breaks, right_of, unwanted_breaks, wrong_breaks}
use Rattle.prop_store.proofs.Causes.{cause_passed, later_on, space_cause_passed}
use Rattle.rec_bytes.proofs.Causes.{never_ok, ok_cause}
use Rattle.prop_store.proofs.Exits.{space_exit}
use Rattle.index_check.proofs.SoundExits.{sound_exit}
use Rattle.index_check.specs.Values.{AreReadable}
use Rattle.record_lists.proofs.OnlyReads.{is_read-on}
use Rattle.index_check.proofs.index.check_index.Goals as goal

pub returns-in_default-clause-broken : goal.returns-in_default-clause-broken
returns-in_default-clause-broken g c = λ tells.
    let records = (g.R.Reads.state c.args.space.now).records in
    let d = c.args.definition.now in
    let lacks : LacksBucket records d.id = search (rules, c.in_ok-entries.ensures.none tells) in
    breaks_by records c.broken.result format.index_file d.id c.broken.ensures (lacks_breaks records d (c.requires.given tells) lacks)

-- what was found of the nodes, over records and entries by other names
nodes_told : (records after : Records) (d : Definition) (xs ys : List ℕ) (e f : Entered) → after ≡ records → xs ≡ ys → e ≡ f → AreNodesOf after d xs e
    → AreNodesOf records d ys f
nodes_told records after d xs ys e f read is what h =
    subst (AreNodesOf records d ys) what (subst (λ zs. AreNodesOf records d zs e) is (subst (λ (r : Records). AreNodesOf r d xs e) read h))

pub returns-in-Unwanted-clause-broken : goal.returns-in-Unwanted-clause-broken
returns-in-Unwanted-clause-broken g c = λ tells.
    let records = (g.R.Reads.state c.args.space.now).records in
    let d = c.args.definition.now in
    let given = c.requires.given tells in
    let entries = c.in-Some.entries.items in
    let x = c.in-Unwanted.id in
    let are : AreEntriesTo records d.id 180 entries = search (rules, c.in_ok-entries.ensures.found tells) in
    let told = nodes_told records _ d c.deref.result.now entries c.in_ok-id.field-0 (Unwanted x) c.in_ok-entries.ensures.read.records c.deref.ensures.value
    c.in-Unwanted.is (c.in_ok-id.ensures.told tells) in
    breaks_by records c.broken-in-Unwanted.result format.index_file x c.broken-in-Unwanted.ensures (unwanted_breaks records d given entries are x told.0 told.1)

pub returns-in-Some-2-clause-broken : goal.returns-in-Some-2-clause-broken
returns-in-Some-2-clause-broken g c = λ tells.
    let records = (g.R.Reads.state c.args.space.now).records in
    let d = c.args.definition.now in
    let given = c.requires.given tells in
    let entries = c.in-Some.entries.items in
    let nodes = c.in-Nodes.nodes.items in
    let n = c.in-Some-2.node in
    let are : AreEntriesTo records d.id 180 entries = search (rules, c.in_ok-entries.ensures.found tells) in
    let told = nodes_told records _ d c.deref.result.now entries c.in_ok-id.field-0 (Nodes c.in-Nodes.nodes) c.in_ok-entries.ensures.read.records
    c.deref.ensures.value
    c.in-Nodes.is (c.in_ok-id.ensures.told tells) in
    let found : IsWrongNode (g.R.Reads.state c.nodes_of.new.space).records d c.deref-in-Nodes.result.now n =
    search (rules, c.in_ok-node-in-Nodes.ensures.found tells) in
    let wrong : IsWrongNode records d nodes n
    = subst (λ ns. IsWrongNode records d ns n) c.deref-in-Nodes.ensures.value
    (subst (λ (r : Records). IsWrongNode r d c.deref-in-Nodes.result.now n) (c.in_ok-id.ensures.read.records ∙ c.in_ok-entries.ensures.read.records) found) in
    breaks_by records c.broken-in-Some-2.result format.nodes_file n c.broken-in-Some-2.ensures (wrong_breaks records d given entries are nodes told.0 n wrong)

pub returns-clause-right : goal.returns-clause-right
returns-clause-right g c = λ tells.
    let records = (g.R.Reads.state c.args.space.now).records in
    let d = c.args.definition.now in
    let given = c.requires.given tells in
    let entries = c.in-Some.entries.items in
    let nodes = c.in-Nodes.nodes.items in
    let are : AreEntriesTo records d.id 180 entries = search (rules, c.in_ok-entries.ensures.found tells) in
    let told = nodes_told records _ d c.deref.result.now entries c.in_ok-id.field-0 (Nodes c.in-Nodes.nodes) c.in_ok-entries.ensures.read.records
    c.deref.ensures.value
    c.in-Nodes.is (c.in_ok-id.ensures.told tells) in
    let found : AreNodesRight (g.R.Reads.state c.nodes_of.new.space).records d c.deref-in-Nodes.result.now =
    search (rules, c.in_ok-node-in-Nodes.ensures.none tells) in
    let right : AreNodesRight records d nodes
    = subst (λ ns. AreNodesRight records d ns) c.deref-in-Nodes.ensures.value
    (subst (λ (r : Records). AreNodesRight r d c.deref-in-Nodes.result.now) (c.in_ok-id.ensures.read.records ∙ c.in_ok-entries.ensures.read.records) found) in
    right_of records d given entries are nodes told.0 told.1 right

pub returns-in_err-id-clause-read : goal.returns-in_err-id-clause-read
returns-in_err-id-clause-read g c =
    is_read-on g.R.Reads g.met.R.Reads.further_onward _ _ _ c.in_ok-entries.ensures.read c.in_err-id.ensures.read

pub returns-in-Unwanted-clause-read : goal.returns-in-Unwanted-clause-read
returns-in-Unwanted-clause-read g c =
    is_read-on g.R.Reads g.met.R.Reads.further_onward _ _ _ c.in_ok-entries.ensures.read c.in_ok-id.ensures.read

pub returns-in_err-node-in-Nodes-clause-read : goal.returns-in_err-node-in-Nodes-clause-read
returns-in_err-node-in-Nodes-clause-read g c =
    is_read-on g.R.Reads g.met.R.Reads.further_onward _ _ _ (is_read-on g.R.Reads g.met.R.Reads.further_onward _ _ _ c.in_ok-entries.ensures.read
    c.in_ok-id.ensures.read) c.in_err-node-in-Nodes.ensures.read

pub returns-in-Some-2-clause-read : goal.returns-in-Some-2-clause-read
returns-in-Some-2-clause-read g c =
    is_read-on g.R.Reads g.met.R.Reads.further_onward _ _ _ (is_read-on g.R.Reads g.met.R.Reads.further_onward _ _ _ c.in_ok-entries.ensures.read
    c.in_ok-id.ensures.read) c.in_ok-node-in-Nodes.ensures.read

pub returns-clause-read : goal.returns-clause-read
returns-clause-read g c =
    is_read-on g.R.Reads g.met.R.Reads.further_onward _ _ _ (is_read-on g.R.Reads g.met.R.Reads.further_onward _ _ _ c.in_ok-entries.ensures.read
    c.in_ok-id.ensures.read) c.in_ok-node-in-Nodes.ensures.read

pub returns-in_err-id-clause-cause : goal.returns-in_err-id-clause-cause
returns-in_err-id-clause-cause g c =
    cause_passed _ _ _ c.from_residual-in_err-id.result c.in_err-id.field-0.0
    c.in_ok-entries.ensures.cause.later c.in_err-id.ensures.cause
    c.from_residual-in_err-id.ensures.1

pub returns-in_err-node-in-Nodes-clause-cause : goal.returns-in_err-node-in-Nodes-clause-cause
returns-in_err-node-in-Nodes-clause-cause g c =
    cause_passed _ _ _ c.from_residual-in_err-node-in-Nodes.result c.in_err-node-in-Nodes.field-0.0
    (later_on c.in_ok-entries.ensures.cause.later c.in_ok-id.ensures.cause.later) c.in_err-node-in-Nodes.ensures.cause
    c.from_residual-in_err-node-in-Nodes.ensures.1

pub returns-in_err-entries-clause-right : goal.returns-in_err-entries-clause-right
returns-in_err-entries-clause-right g c _ = never_ok c.from_residual.result _ _ c.from_residual.ensures.1

pub returns-in_err-entries-clause-broken : goal.returns-in_err-entries-clause-broken
returns-in_err-entries-clause-broken g c _ = never_ok c.from_residual.result _ _ c.from_residual.ensures.1

pub returns-in_err-entries-clause-read : goal.returns-in_err-entries-clause-read
returns-in_err-entries-clause-read g c =
    c.in_err-entries.ensures.read

pub returns-in_err-id-clause-right : goal.returns-in_err-id-clause-right
returns-in_err-id-clause-right g c _ = never_ok c.from_residual-in_err-id.result _ _ c.from_residual-in_err-id.ensures.1

pub returns-in_err-id-clause-broken : goal.returns-in_err-id-clause-broken
returns-in_err-id-clause-broken g c _ = never_ok c.from_residual-in_err-id.result _ _ c.from_residual-in_err-id.ensures.1

pub returns-in_err-node-in-Nodes-clause-right : goal.returns-in_err-node-in-Nodes-clause-right
returns-in_err-node-in-Nodes-clause-right g c _ = never_ok c.from_residual-in_err-node-in-Nodes.result _ _ c.from_residual-in_err-node-in-Nodes.ensures.1

pub returns-in_err-node-in-Nodes-clause-broken : goal.returns-in_err-node-in-Nodes-clause-broken
returns-in_err-node-in-Nodes-clause-broken g c _ = never_ok c.from_residual-in_err-node-in-Nodes.result _ _ c.from_residual-in_err-node-in-Nodes.ensures.1

pub returns-in_err-entries-clause-not_damaged : goal.returns-in_err-entries-clause-not_damaged
returns-in_err-entries-clause-not_damaged g c _ _ = space_exit c.from_residual.result c.in_err-entries.field-0.0 c.from_residual.ensures.1

pub returns-in_err-entries-clause-cause : goal.returns-in_err-entries-clause-cause
returns-in_err-entries-clause-cause g c =
    space_cause_passed _ _ _ c.from_residual.result c.in_err-entries.field-0.0 (omega arith) c.in_err-entries.ensures.cause c.from_residual.ensures.1

pub returns-in_err-id-clause-not_damaged : goal.returns-in_err-id-clause-not_damaged
returns-in_err-id-clause-not_damaged g c tells readable =
    sound_exit c.from_residual-in_err-id.result c.in_err-id.field-0.0 c.from_residual-in_err-id.ensures.1
    (c.in_err-id.ensures.not_damaged tells (subst AreReadable (sym (c.in_ok-entries.ensures.read.records)) readable))

pub returns-in_err-node-in-Nodes-clause-not_damaged : goal.returns-in_err-node-in-Nodes-clause-not_damaged
returns-in_err-node-in-Nodes-clause-not_damaged g c tells readable =
    sound_exit c.from_residual-in_err-node-in-Nodes.result c.in_err-node-in-Nodes.field-0.0 c.from_residual-in_err-node-in-Nodes.ensures.1
    (c.in_err-node-in-Nodes.ensures.not_damaged tells (subst AreReadable (sym (c.in_ok-id.ensures.read.records
    ∙ c.in_ok-entries.ensures.read.records)) readable))

pub returns-in_default-clause-cause : goal.returns-in_default-clause-cause
returns-in_default-clause-cause g c = ok_cause _ _ _ _ c.in_ok-entries.ensures.cause.later

pub returns-in-Unwanted-clause-cause : goal.returns-in-Unwanted-clause-cause
returns-in-Unwanted-clause-cause g c = ok_cause _ _ _ _ (later_on c.in_ok-entries.ensures.cause.later c.in_ok-id.ensures.cause.later)
