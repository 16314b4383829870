use Rattle.std.proofs.Common.{arith, ◌≡◌, ◌∙◌, ℕ, Option, ap, sym, subst}
use Rattle.plain_graph.specs.declared.value.Value.{Value}
use Rattle.rec_bytes.specs.Format as format
use Rattle.rec_bytes.specs.Record.{field}
use Rattle.rec_bytes.specs.Space.{State}
use Rattle.rec_bytes.specs.declared.record.Rec.{Rec}
use Rattle.prop_store.proofs.Causes.{cause_passed, space_cause_passed, later_on}
use Rattle.store_rules.specs.Indexes.{entry_hash, entry_node, has_hash, node_value, wanted_in}
use Rattle.store_rules.specs.Views.{Records}
use Rattle.index_check.specs.Nodes.{said_by}
use Rattle.index_check.specs.declared.definitions.Definition.{Definition}
use Rattle.rec_bytes.proofs.Causes.{never_ok, ok_cause}
use Rattle.prop_store.proofs.Exits.{space_exit}
use Rattle.index_check.proofs.SoundExits.{sound_exit}
use Rattle.index_check.specs.Values.{AreReadable}
use Rattle.record_lists.proofs.OnlyReads.{is_read-on, is_read-get}
use Rattle.index_check.proofs.nodes.node_of.Goals as goal

-- what was tested is whether the entry is wanted
tested : (records after : Records) (d : Definition) (x n hash : ℕ) (value : Option Value) → after ≡ records → n ≡ entry_node records x
    → hash ≡ entry_hash records x
    → value ≡ node_value after d.label d.key n → has_hash hash value ≡ wanted_in records (said_by records d x)
tested records after d x n hash value read node same is =
    ap (has_hash hash) is ∙ (λ i. has_hash (same i) (node_value (read i) d.label d.key (node i)))

pub returns-then-has_hash-clause-wanted : goal.returns-then-has_hash-clause-wanted
returns-then-has_hash-clause-wanted g c = λ tells.
    let records = (g.R.Reads.state c.args.space.now).records in
    let x = c.args.id in
    let got = c.in_ok-rec.ensures.got tells in
    let node : c.number-node.result ≡ entry_node records x = c.number-node.ensures ∙ ap (λ (r : Rec). field 4 r format.indexed_node) got in
    let hash : c.wide.result ≡ entry_hash records x = c.wide.ensures ∙ ap (λ (r : Rec). field 8 r format.indexed_hash) got in
    let test = tested records _ c.args.definition.now x c.number-node.result c.wide.result c.in_ok-value.value
    (ap (λ (s : State). s.records) c.in_ok-rec.ensures.state) node hash (c.in_ok-value.ensures.is tells) in
    record { is = node; wanted = sym test ∙ sym c.has_hash.ensures ∙ c.if-has_hash.true }

pub returns-clause-unwanted : goal.returns-clause-unwanted
returns-clause-unwanted g c = λ tells.
    let records = (g.R.Reads.state c.args.space.now).records in
    let x = c.args.id in
    let got = c.in_ok-rec.ensures.got tells in
    let node : c.number-node.result ≡ entry_node records x = c.number-node.ensures ∙ ap (λ (r : Rec). field 4 r format.indexed_node) got in
    let hash : c.wide.result ≡ entry_hash records x = c.wide.ensures ∙ ap (λ (r : Rec). field 8 r format.indexed_hash) got in
    let test = tested records _ c.args.definition.now x c.number-node.result c.wide.result c.in_ok-value.value
    (ap (λ (s : State). s.records) c.in_ok-rec.ensures.state) node hash (c.in_ok-value.ensures.is tells) in
    sym test ∙ sym c.has_hash.ensures ∙ c.if-has_hash.false

pub returns-in_err-value-clause-cause : goal.returns-in_err-value-clause-cause
returns-in_err-value-clause-cause g c =
    cause_passed _ _ _ c.from_residual-in_err-value.result c.in_err-value.field-0.0 c.in_ok-rec.ensures.cause.later c.in_err-value.ensures.cause
    c.from_residual-in_err-value.ensures.1

pub returns-in_err-rec-clause-cause : goal.returns-in_err-rec-clause-cause
returns-in_err-rec-clause-cause g c =
    space_cause_passed _ _ _ c.from_residual.result c.in_err-rec.field-0.0 (omega arith) c.in_err-rec.ensures.cause c.from_residual.ensures.1

pub returns-in_err-value-clause-read : goal.returns-in_err-value-clause-read
returns-in_err-value-clause-read g c =
    is_read-on g.R.Reads g.met.R.Reads.further_onward _ _ _ (is_read-get g.R.Reads _ _ c.in_ok-rec.ensures.state c.in_ok-rec.ensures.onward
    c.in_ok-rec.ensures.cause.later) c.in_err-value.ensures.read

pub returns-then-has_hash-clause-read : goal.returns-then-has_hash-clause-read
returns-then-has_hash-clause-read g c =
    is_read-on g.R.Reads g.met.R.Reads.further_onward _ _ _ (is_read-get g.R.Reads _ _ c.in_ok-rec.ensures.state c.in_ok-rec.ensures.onward
    c.in_ok-rec.ensures.cause.later) c.in_ok-value.ensures.read

pub returns-clause-read : goal.returns-clause-read
returns-clause-read g c =
    is_read-on g.R.Reads g.met.R.Reads.further_onward _ _ _ (is_read-get g.R.Reads _ _ c.in_ok-rec.ensures.state c.in_ok-rec.ensures.onward
    c.in_ok-rec.ensures.cause.later) c.in_ok-value.ensures.read

pub returns-in_err-rec-clause-wanted : goal.returns-in_err-rec-clause-wanted
returns-in_err-rec-clause-wanted g c _ = never_ok c.from_residual.result _ _ c.from_residual.ensures.1

pub returns-in_err-rec-clause-unwanted : goal.returns-in_err-rec-clause-unwanted
returns-in_err-rec-clause-unwanted g c _ = never_ok c.from_residual.result _ _ c.from_residual.ensures.1

pub returns-in_err-rec-clause-low : goal.returns-in_err-rec-clause-low
returns-in_err-rec-clause-low g c = never_ok c.from_residual.result _ _ c.from_residual.ensures.1

pub returns-in_err-rec-clause-read : goal.returns-in_err-rec-clause-read
returns-in_err-rec-clause-read g c =
    is_read-get g.R.Reads _ _ c.in_err-rec.ensures.state c.in_err-rec.ensures.onward c.in_err-rec.ensures.cause.later

pub returns-in_err-value-clause-wanted : goal.returns-in_err-value-clause-wanted
returns-in_err-value-clause-wanted g c _ = never_ok c.from_residual-in_err-value.result _ _ c.from_residual-in_err-value.ensures.1

pub returns-in_err-value-clause-unwanted : goal.returns-in_err-value-clause-unwanted
returns-in_err-value-clause-unwanted g c _ = never_ok c.from_residual-in_err-value.result _ _ c.from_residual-in_err-value.ensures.1

pub returns-in_err-value-clause-low : goal.returns-in_err-value-clause-low
returns-in_err-value-clause-low g c = never_ok c.from_residual-in_err-value.result _ _ c.from_residual-in_err-value.ensures.1

pub returns-in_err-rec-clause-not_damaged : goal.returns-in_err-rec-clause-not_damaged
returns-in_err-rec-clause-not_damaged g c _ _ = space_exit c.from_residual.result c.in_err-rec.field-0.0 c.from_residual.ensures.1

pub returns-in_err-value-clause-not_damaged : goal.returns-in_err-value-clause-not_damaged
returns-in_err-value-clause-not_damaged g c tells readable =
    sound_exit c.from_residual-in_err-value.result c.in_err-value.field-0.0 c.from_residual-in_err-value.ensures.1
    (c.in_err-value.ensures.not_damaged tells (subst AreReadable (sym (ap (λ (s : State). s.records) c.in_ok-rec.ensures.state)) readable))

pub returns-clause-cause : goal.returns-clause-cause
returns-clause-cause g c = ok_cause _ _ _ _ (later_on c.in_ok-rec.ensures.cause.later c.in_ok-value.ensures.cause.later)

pub returns-then-has_hash-clause-cause : goal.returns-then-has_hash-clause-cause
returns-then-has_hash-clause-cause g c = ok_cause _ _ _ _ (later_on c.in_ok-rec.ensures.cause.later c.in_ok-value.ensures.cause.later)
