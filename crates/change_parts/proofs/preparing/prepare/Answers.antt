use Rattle.std.specs.Prelude.{Contains, slice_get}
use Rattle.std.proofs.Common.{◌≡◌, ◌≢◌, ℕ, List, ◌++◌, ◌∷◌, [], Some, length, ◌∙◌, sym, ap, subst, append_assoc, append-nil, inl, inr, arith, refl, rules}
use Rattle.plain_graph.specs.Graph.{UsesName}
use Rattle.plain_graph.specs.Names.{IsShortName}
use Rattle.plain_graph.specs.Properties.{keys_in}
use Rattle.plain_graph.specs.Refusals.{most_names}
use Rattle.plain_graph.specs.declared.command.Command.TheVariants as commands
use Rattle.store_rules.specs.Writes.{WritesAtMost}
use Rattle.change_parts.specs.Assigning.{HasPropertyRoom, IsReserveFault, assigned_blocks}
use Rattle.change_parts.specs.Change.{IsCounted, IsRefusedBy}
use Rattle.change_parts.specs.ChangeFault.{LeavesSpace, of_intern}
use Rattle.change_parts.specs.Preparing.{IsLineCause, line_reasons}
use Rattle.change_parts.specs.Store.{IsMidway, KeepsElements}
use Rattle.change_parts.proofs.Counted.{assign_counted, count_full, reserve_counted}
use Rattle.change_parts.proofs.Exits.{fault_exit, late_leaves}
use Rattle.change_parts.proofs.Interned.{keeps_interned, keeps_then, metas_interned, metas_then, name_written, one_written}
use Rattle.change_parts.proofs.Assigned.{blocks-assigned, length-assigned}
use Rattle.change_parts.proofs.Late.{assign_late, intern_late, is_err, reserve_late}
use Rattle.change_parts.proofs.LineNames.{held_name, name_long, name_prefix, uses_long, uses_once}
use Rattle.change_parts.proofs.NewNames.{name_one}
use Rattle.change_parts.proofs.Preparation.{assign_refused_by, label_refused, prepared_is, reserve_refused, slice_get-more}
use Rattle.store_rules.proofs.WriteLaws.{more_written, then_written}
use Rattle.change_parts.proofs.Causes.{assign_caused, label_caused, reserve_caused}
use Rattle.change_parts.proofs.Adding.{interned_beside, names_then}
use Rattle.change_parts.proofs.DiskCauses.{change_cause_passed, intern_cause_passed, later_on, reserve_refusal_cause}
use Rattle.rec_bytes.proofs.Causes.{never_ok, ok_cause}
use Rattle.change_parts.proofs.preparing.prepare.Goals as goal
use Rattle.change_parts.proofs.preparing.prepare.Goals.{After-assign_pairs, After-intern, In_ok-assigned, In_ok-label}
use Rattle.change_parts.proofs.preparing.prepare.Given.{Over}
use Rattle.store_rules.specs.Graph.{graph_in}

pub returns-in_err-label-clause-refused : goal.returns-in_err-label-clause-refused
returns-in_err-label-clause-refused g c tells store =
    let s = g.S.Reads.state c.args.space.now in
    let reasons = IsRefusedBy line_reasons s.shape.limit (graph_in s) (commands.Node c.args.label.now c.args.pairs.now) in
    fault_exit of_intern reasons c.in_err-label.field-0.0 c.from_residual.result c.from_residual.ensures.1
    (label_refused s c.args.names.now.names c.args.label.now c.args.pairs.now store c.in_err-label.field-0.0
    (rw c.as_bytes.ensures at c.in_err-label.ensures.full_only))

-- the label has a number
uses : (g : Over) (c : In_ok-label g) → UsesName c.args.names.now.names c.args.label.now c.intern.new.self.names
uses g c = subst (λ x. UsesName c.args.names.now.names x c.intern.new.self.names) c.as_bytes.ensures c.in_ok-label.ensures.names

short : (g : Over) (c : In_ok-label g) → IsShortName c.as_bytes.result.now
short g c = subst IsShortName (sym c.as_bytes.ensures) c.requires.label

room : (g : Over) (c : In_ok-label g) → ¬ Contains c.args.names.now.names c.as_bytes.result.now → length c.args.names.now.names ≢ most_names
room g c lacks all = absurd (let e = c.in_ok-label.ensures.full all lacks in cc)

pub assign_pairs-requires-clause-names : goal.assign_pairs-requires-clause-names
assign_pairs-requires-clause-names g c =
    let at = (goal.at.assign_pairs-requires-clause-names g c).In_ok-label in
    held_name c.args.names.now.names c.as_bytes.result.now c.intern.new.self.names c.count-known.ensures.are_names c.in_ok-label.ensures.names (short g at)
    (room g at)

pub returns-in_err-assigned-clause-refused : goal.returns-in_err-assigned-clause-refused
returns-in_err-assigned-clause-refused g c tells store =
    let s = g.S.Reads.state c.args.space.now in
    let reasons = IsRefusedBy line_reasons s.shape.limit (graph_in s) (commands.Node c.args.label.now c.args.pairs.now) in
    fault_exit (λ f. f) reasons c.in_err-assigned.field-0.0 c.from_residual-in_err-assigned.result c.from_residual-in_err-assigned.ensures.1
    (assign_refused_by s c.args.names.now.names c.intern.new.self.names c.args.label.now c.args.pairs.now store
    (uses g (goal.at.returns-in_err-assigned-clause-refused g c).In_ok-label) c.in_err-assigned.field-0.0 c.in_err-assigned.ensures.refused)

-- the elements are kept
kept : (g : Over) (c : In_ok-assigned g) → g.S.Reads.tells → IsMidway (g.S.Reads.state c.args.space.now) c.args.names.now.names
    → KeepsElements (g.S.Reads.state c.args.space.now) (g.S.Reads.state c.assign_pairs.new.space) c.assign_pairs.new.names.names
kept g c tells store =
    let at = (goal.at.In_ok-assigned g c).In_ok-label in
    let s = g.S.Reads.state c.args.space.now in
    let t = g.S.Reads.state c.intern.new.space in
    let u = g.S.Reads.state c.assign_pairs.new.space in
    let first = keeps_interned s t c.args.names.now.names c.intern.new.self.names c.as_bytes.result.now (c.in_ok-label.ensures.ok tells)
    c.in_ok-label.ensures.names (short g at) (room g at) store in
    keeps_then s t u c.intern.new.self.names c.assign_pairs.new.names.names first (c.in_ok-assigned.ensures.kept tells first.store)

pub returns-in_err-blocks-clause-refused : goal.returns-in_err-blocks-clause-refused
returns-in_err-blocks-clause-refused g c tells store =
    let at = (goal.at.returns-in_err-blocks-clause-refused g c).In_ok-assigned in
    let s = g.S.Reads.state c.args.space.now in
    let u = g.S.Reads.state c.assign_pairs.new.space in
    let pairs = c.args.pairs.now in
    let reasons = IsRefusedBy line_reasons s.shape.limit (graph_in s) (commands.Node c.args.label.now pairs) in
    let fault = c.in_err-blocks.field-0.0 in
    fault_exit (λ f. f) reasons fault c.from_residual-in_err-blocks.result c.from_residual-in_err-blocks.ensures.1
    (reserve_refused s c.args.names.now.names c.intern.new.self.names c.args.label.now pairs store
    (uses g (goal.at.returns-in_err-blocks-clause-refused g c).In_ok-label) u c.assign_pairs.new.names.names c.in_ok-assigned.assigned.items
    c.in_ok-assigned.ensures.uses (kept g at tells store) c.in_ok-assigned.ensures.assigned c.in_ok-assigned.ensures.few c.in_ok-assigned.ensures.held.few fault
    (subst (λ l. IsReserveFault u (length l) (assigned_blocks pairs l) fault) c.deref.ensures.0 c.in_err-blocks.ensures.refused))

-- the label has its number among all names
labelled : (g : Over) (c : In_ok-assigned g) → slice_get c.assign_pairs.new.names.names c.in_ok-label.label ≡ Some c.args.label.now
labelled g c =
    let grown = c.assign_pairs.ensures.prefix in
    let label = c.in_ok-label.label in
    ap (λ (n : List (List ℕ)). slice_get n label) grown.1
    ∙ slice_get-more c.intern.new.self.names grown.0 label c.args.label.now (c.in_ok-label.ensures.number ∙ ap (λ l. Some l) c.as_bytes.ensures)

pub returns-clause-label : goal.returns-clause-label
returns-clause-label g c = labelled g (goal.at.returns-clause-label g c).In_ok-assigned

pub returns-in_err-label-clause-label : goal.returns-in_err-label-clause-label
returns-in_err-label-clause-label g c = never_ok c.from_residual.result _ _ c.from_residual.ensures.1

pub returns-in_err-assigned-clause-label : goal.returns-in_err-assigned-clause-label
returns-in_err-assigned-clause-label g c = never_ok c.from_residual-in_err-assigned.result _ _ c.from_residual-in_err-assigned.ensures.1

pub returns-in_err-blocks-clause-label : goal.returns-in_err-blocks-clause-label
returns-in_err-blocks-clause-label g c = never_ok c.from_residual-in_err-blocks.result _ _ c.from_residual-in_err-blocks.ensures.1

pub returns-clause-prepared : goal.returns-clause-prepared
returns-clause-prepared g c tells store =
    let at = (goal.at.returns-clause-prepared g c).In_ok-assigned in
    let s = g.S.Reads.state c.args.space.now in
    let u = g.S.Reads.state c.assign_pairs.new.space in
    let pairs = c.args.pairs.now in
    let items = c.in_ok-assigned.assigned.items in
    prepared_is s c.args.names.now.names c.intern.new.self.names c.args.label.now pairs store (uses g (goal.at.returns-clause-prepared g c).In_ok-label) u
    c.assign_pairs.new.names.names items
    c.in_ok-assigned.ensures.uses (kept g at tells store) c.in_ok-assigned.ensures.assigned c.in_ok-assigned.ensures.few c.in_ok-assigned.ensures.held.few _
    refl (labelled g at)
    (subst (λ l. HasPropertyRoom u (length l) (assigned_blocks pairs l)) c.deref.ensures.0 c.in_ok-blocks.ensures.room)
    (let n = c.len.ensures.value in let b = c.in_ok-blocks.ensures.blocks ∙ ap (assigned_blocks pairs) c.deref.ensures.0 in let k =
    c.count-known.ensures.value in let m = c.count.ensures.value in omega arith)

pub returns-clause-names_full : goal.returns-clause-names_full
returns-clause-names_full g c used other many =
    let same = ap length (uses_once c.args.names.now.names (c.args.label.now ∷ keys_in c.args.pairs.now) used c.assign_pairs.new.names.names other
    (c.intern.new.self.names, uses g (goal.at.returns-clause-names_full g c).In_ok-label, c.in_ok-assigned.ensures.uses)) in
    let few = c.in_ok-assigned.ensures.held.few in
    absurd (omega arith)

-- ---- what refusals count
pub returns-in_err-label-clause-counts : goal.returns-in_err-label-clause-counts
returns-in_err-label-clause-counts g c tells =
    let s = g.S.Reads.state c.args.space.now in
    fault_exit of_intern (IsCounted s) c.in_err-label.field-0.0 c.from_residual.result c.from_residual.ensures.1
    (assign_counted s (of_intern c.in_err-label.field-0.0) (count_full c.args.names.now.names c.as_bytes.result.now c.in_err-label.field-0.0
    c.in_err-label.ensures.full_only))

pub returns-in_err-assigned-clause-counts : goal.returns-in_err-assigned-clause-counts
returns-in_err-assigned-clause-counts g c tells =
    let s = g.S.Reads.state c.args.space.now in
    fault_exit (λ f. f) (IsCounted s) c.in_err-assigned.field-0.0 c.from_residual-in_err-assigned.result c.from_residual-in_err-assigned.ensures.1
    (assign_counted s c.in_err-assigned.field-0.0 c.in_err-assigned.ensures.counts)

pub returns-in_err-blocks-clause-counts : goal.returns-in_err-blocks-clause-counts
returns-in_err-blocks-clause-counts g c tells =
    let s = g.S.Reads.state c.args.space.now in
    let t = g.S.Reads.state c.intern.new.space in
    let u = g.S.Reads.state c.assign_pairs.new.space in
    let metas = metas_then (metas_interned s t c.args.names.now.names c.intern.new.self.names c.as_bytes.result.now (c.in_ok-label.ensures.ok tells)
    c.in_ok-label.ensures.names) (c.in_ok-assigned.ensures.metas tells) in
    fault_exit (λ f. f) (IsCounted s) c.in_err-blocks.field-0.0 c.from_residual-in_err-blocks.result c.from_residual-in_err-blocks.ensures.1
    (reserve_counted s u _ _ metas c.in_err-blocks.field-0.0 c.in_err-blocks.ensures.refused)

-- the label's record, or none
label_written : (g : Over) (c : After-intern g) → WritesAtMost 1 (g.S.Reads.state c.args.space.now) (g.S.Reads.state c.intern.new.space)
label_written g c = one_written (g.S.Reads.state c.args.space.now) (g.S.Reads.state c.intern.new.space) (length c.args.names.now.names) c.intern.ensures.writes

both_written : (g : Over) (c : After-assign_pairs g) → WritesAtMost 34 (g.S.Reads.state c.args.space.now) (g.S.Reads.state c.assign_pairs.new.space)
both_written g c = then_written (label_written g (goal.at.After-assign_pairs g c).After-intern) c.assign_pairs.ensures.few_writes

pub returns-in_err-label-clause-few_writes : goal.returns-in_err-label-clause-few_writes
returns-in_err-label-clause-few_writes g c = more_written (omega arith) (label_written g (goal.at.returns-in_err-label-clause-few_writes g c).After-intern)

pub returns-in_err-assigned-clause-few_writes : goal.returns-in_err-assigned-clause-few_writes
returns-in_err-assigned-clause-few_writes g c = both_written g (goal.at.returns-in_err-assigned-clause-few_writes g c).After-assign_pairs

pub returns-in_err-blocks-clause-few_writes : goal.returns-in_err-blocks-clause-few_writes
returns-in_err-blocks-clause-few_writes g c = both_written g (goal.at.returns-in_err-blocks-clause-few_writes g c).After-assign_pairs

pub returns-clause-few_writes : goal.returns-clause-few_writes
returns-clause-few_writes g c = both_written g (goal.at.returns-clause-few_writes g c).After-assign_pairs

pub returns-clause-metas : goal.returns-clause-metas
returns-clause-metas g c tells =
    let s = g.S.Reads.state c.args.space.now in
    let t = g.S.Reads.state c.intern.new.space in
    metas_then (metas_interned s t c.args.names.now.names c.intern.new.self.names c.as_bytes.result.now (c.in_ok-label.ensures.ok tells)
    c.in_ok-label.ensures.names) (c.in_ok-assigned.ensures.metas tells)

pub returns-clause-light : goal.returns-clause-light
returns-clause-light g c =
    let one = name_one c.args.names.now.names c.as_bytes.result.now c.intern.new.self.names c.in_ok-label.ensures.names in
    let two = c.in_ok-assigned.ensures.few_names in
    let few = c.in_ok-assigned.ensures.few in
    let n = c.len.ensures.value in
    let b = c.in_ok-blocks.ensures.few_blocks in
    let k = c.count-known.ensures.value in
    let m = c.count.ensures.value in
    omega arith

pub returns-clause-weighs : goal.returns-clause-weighs
returns-clause-weighs g c =
    let names = c.assign_pairs.new.names.names in
    let pairs = c.args.pairs.now in
    let items = c.in_ok-assigned.assigned.items in
    let all = length-assigned names pairs items c.in_ok-assigned.ensures.assigned in
    let blocks = blocks-assigned names pairs items c.in_ok-assigned.ensures.assigned in
    let n = c.len.ensures.value in
    let b = c.in_ok-blocks.ensures.blocks ∙ ap (assigned_blocks pairs) c.deref.ensures.0 in
    let k = c.count-known.ensures.value in
    let m = c.count.ensures.value in
    omega arith

pub returns-clause-needs : goal.returns-clause-needs
returns-clause-needs g c =
    let names = c.assign_pairs.new.names.names in
    let pairs = c.args.pairs.now in
    let items = c.in_ok-assigned.assigned.items in (
      inl (refl, length-assigned names pairs items c.in_ok-assigned.ensures.assigned),
      inr (
        refl,
        blocks-assigned names pairs items
            c.in_ok-assigned.ensures.assigned,
      ),
    )

-- the names before, and the new ones
longer : (g : Over) (c : In_ok-label g) (two : List (List ℕ)) (names : List (List ℕ)) → names ≡ c.intern.new.self.names ++ two
    → (rest : List (List ℕ)) × (names ≡ c.args.names.now.names ++ rest)
longer g c two names is =
    let one = name_prefix c.args.names.now.names c.as_bytes.result.now c.intern.new.self.names c.in_ok-label.ensures.names in
    (one.0 ++ two, is ∙ ap (λ l. l ++ two) one.1 ∙ append_assoc c.args.names.now.names one.0 two)

pub returns-clause-prefix : goal.returns-clause-prefix
returns-clause-prefix g c =
    longer g (goal.at.returns-clause-prefix g c).In_ok-label c.assign_pairs.ensures.prefix.0 c.assign_pairs.new.names.names c.assign_pairs.ensures.prefix.1

pub returns-in_err-label-clause-prefix : goal.returns-in_err-label-clause-prefix
returns-in_err-label-clause-prefix g c = ([], c.in_err-label.ensures.err ∙ sym (append-nil c.args.names.now.names))

pub returns-in_err-assigned-clause-prefix : goal.returns-in_err-assigned-clause-prefix
returns-in_err-assigned-clause-prefix g c =
    longer g (goal.at.returns-in_err-assigned-clause-prefix g c).In_ok-label c.assign_pairs.ensures.prefix.0 c.assign_pairs.new.names.names
    c.assign_pairs.ensures.prefix.1

pub returns-in_err-blocks-clause-prefix : goal.returns-in_err-blocks-clause-prefix
returns-in_err-blocks-clause-prefix g c =
    longer g (goal.at.returns-in_err-blocks-clause-prefix g c).In_ok-label c.assign_pairs.ensures.prefix.0 c.assign_pairs.new.names.names
    c.assign_pairs.ensures.prefix.1

pub returns-clause-writes : goal.returns-clause-writes
returns-clause-writes g c =
    let one = name_long c.args.names.now.names c.as_bytes.result.now c.intern.new.self.names c.in_ok-label.ensures.names in
    let two = uses_long c.intern.new.self.names (keys_in c.args.pairs.now) c.assign_pairs.new.names.names c.in_ok-assigned.ensures.uses in
    more_written (omega arith) (then_written
    (name_written (g.S.Reads.state c.args.space.now) (g.S.Reads.state c.intern.new.space) c.args.names.now.names c.intern.new.self.names c.as_bytes.result.now
    c.in_ok-label.ensures.names (λ k. (c.intern.ensures.known k).1) c.intern.ensures.writes)
    c.in_ok-assigned.ensures.writes)

-- ---- why it is refused over any records
pub returns-in_err-label-clause-caused : goal.returns-in_err-label-clause-caused
returns-in_err-label-clause-caused g c tells =
    let s = g.S.Reads.state c.args.space.now in
    let old = c.args.names.now.names in
    fault_exit of_intern (IsLineCause s old c.args.label.now c.args.pairs.now) c.in_err-label.field-0.0 c.from_residual.result c.from_residual.ensures.1
    (label_caused s old c.args.label.now c.args.pairs.now c.in_err-label.field-0.0 (rw c.as_bytes.ensures at c.in_err-label.ensures.full_only))

pub returns-in_err-assigned-clause-caused : goal.returns-in_err-assigned-clause-caused
returns-in_err-assigned-clause-caused g c tells =
    let s = g.S.Reads.state c.args.space.now in
    let old = c.args.names.now.names in
    fault_exit (λ f. f) (IsLineCause s old c.args.label.now c.args.pairs.now) c.in_err-assigned.field-0.0 c.from_residual-in_err-assigned.result
    c.from_residual-in_err-assigned.ensures.1
    (assign_caused s old c.intern.new.self.names c.args.label.now c.args.pairs.now (uses g (goal.at.returns-in_err-assigned-clause-caused g c).In_ok-label)
    c.in_err-assigned.field-0.0 c.in_err-assigned.ensures.refused c.in_err-assigned.ensures.counts)

pub returns-in_err-blocks-clause-caused : goal.returns-in_err-blocks-clause-caused
returns-in_err-blocks-clause-caused g c tells =
    let s = g.S.Reads.state c.args.space.now in
    let t = g.S.Reads.state c.intern.new.space in
    let u = g.S.Reads.state c.assign_pairs.new.space in
    let old = c.args.names.now.names in
    let names = c.assign_pairs.new.names.names in
    let pairs = c.args.pairs.now in
    let items = c.in_ok-assigned.assigned.items in
    let fault = c.in_err-blocks.field-0.0 in
    let metas = metas_then (metas_interned s t old c.intern.new.self.names c.as_bytes.result.now (c.in_ok-label.ensures.ok tells) c.in_ok-label.ensures.names)
    (c.in_ok-assigned.ensures.metas tells) in
    let shape = (g.met.S.Reads.onward_shape _ _ c.assign_pairs.ensures.onward) ∙ (g.met.S.Reads.onward_shape _ _ c.intern.ensures.onward) in
    fault_exit (λ f. f) (IsLineCause s old c.args.label.now pairs) fault c.from_residual-in_err-blocks.result c.from_residual-in_err-blocks.ensures.1
    (reserve_caused s u old c.args.label.now pairs shape (length items) (assigned_blocks pairs items) (length-assigned names pairs items
    c.in_ok-assigned.ensures.assigned) (blocks-assigned names pairs items c.in_ok-assigned.ensures.assigned) metas fault
    (subst (λ l. IsReserveFault u (length l) (assigned_blocks pairs l) fault) c.deref.ensures.0 c.in_err-blocks.ensures.refused))

pub returns-clause-stays : goal.returns-clause-stays
returns-clause-stays g c tells =
    let s = g.S.Reads.state c.args.space.now in
    let t = g.S.Reads.state c.intern.new.space in
    names_then s t (g.S.Reads.state c.assign_pairs.new.space) (interned_beside s t c.args.names.now.names c.as_bytes.result.now
    (c.in_ok-label.ensures.ok tells)) (c.in_ok-assigned.ensures.stays tells)

pub returns-in_err-label-clause-cause : goal.returns-in_err-label-clause-cause
returns-in_err-label-clause-cause g c =
    intern_cause_passed _ _ _ c.from_residual.result c.in_err-label.field-0.0 (omega arith) c.in_err-label.ensures.cause c.from_residual.ensures.1

pub returns-in_err-assigned-clause-cause : goal.returns-in_err-assigned-clause-cause
returns-in_err-assigned-clause-cause g c =
    change_cause_passed _ _ _ c.from_residual-in_err-assigned.result c.in_err-assigned.field-0.0 c.in_ok-label.ensures.cause.later
    c.in_err-assigned.ensures.cause c.from_residual-in_err-assigned.ensures.1

pub returns-in_err-blocks-clause-cause : goal.returns-in_err-blocks-clause-cause
returns-in_err-blocks-clause-cause g c =
    reserve_refusal_cause _ _ c.from_residual-in_err-blocks.result c.in_err-blocks.field-0.0 c.in_err-blocks.ensures.refused
    (later_on c.in_ok-label.ensures.cause.later c.in_ok-assigned.ensures.cause.later) c.from_residual-in_err-blocks.ensures.1

-- ---- and by the space as it is left

pub returns-in_err-label-clause-caused_after : goal.returns-in_err-label-clause-caused_after
returns-in_err-label-clause-caused_after g c tells =
    let t = g.S.Reads.state c.intern.new.space in
    let old = c.args.names.now.names in
    fault_exit of_intern (IsLineCause t old c.args.label.now c.args.pairs.now) c.in_err-label.field-0.0 c.from_residual.result c.from_residual.ensures.1
    (label_caused t old c.args.label.now c.args.pairs.now c.in_err-label.field-0.0 (rw c.as_bytes.ensures at c.in_err-label.ensures.full_only))

pub returns-in_err-assigned-clause-caused_after : goal.returns-in_err-assigned-clause-caused_after
returns-in_err-assigned-clause-caused_after g c tells =
    let t = g.S.Reads.state c.assign_pairs.new.space in
    let old = c.args.names.now.names in
    fault_exit (λ f. f) (IsLineCause t old c.args.label.now c.args.pairs.now) c.in_err-assigned.field-0.0 c.from_residual-in_err-assigned.result
    c.from_residual-in_err-assigned.ensures.1
    (assign_caused t old c.intern.new.self.names c.args.label.now c.args.pairs.now (uses g
    (goal.at.returns-in_err-assigned-clause-caused_after g c).In_ok-label)
    c.in_err-assigned.field-0.0 c.in_err-assigned.ensures.refused c.in_err-assigned.ensures.counts)

pub returns-in_err-blocks-clause-caused_after : goal.returns-in_err-blocks-clause-caused_after
returns-in_err-blocks-clause-caused_after g c tells =
    let u = g.S.Reads.state c.assign_pairs.new.space in
    let old = c.args.names.now.names in
    let names = c.assign_pairs.new.names.names in
    let pairs = c.args.pairs.now in
    let items = c.in_ok-assigned.assigned.items in
    let fault = c.in_err-blocks.field-0.0 in
    fault_exit (λ f. f) (IsLineCause u old c.args.label.now pairs) fault c.from_residual-in_err-blocks.result c.from_residual-in_err-blocks.ensures.1
    (reserve_caused u u old c.args.label.now pairs refl (length items) (assigned_blocks pairs items) (length-assigned names pairs items
    c.in_ok-assigned.ensures.assigned) (blocks-assigned names pairs items c.in_ok-assigned.ensures.assigned)
    (record { nodes = refl; edges = refl; properties = refl; blocks = refl }) fault
    (subst (λ l. IsReserveFault u (length l) (assigned_blocks pairs l) fault) c.deref.ensures.0 c.in_err-blocks.ensures.refused))

pub returns-in_err-label-clause-prepared : goal.returns-in_err-label-clause-prepared
returns-in_err-label-clause-prepared g c _ = never_ok c.from_residual.result _ _ c.from_residual.ensures.1

pub returns-in_err-label-clause-placed : goal.returns-in_err-label-clause-placed
returns-in_err-label-clause-placed g c = never_ok c.from_residual.result _ _ c.from_residual.ensures.1

pub returns-in_err-label-clause-few : goal.returns-in_err-label-clause-few
returns-in_err-label-clause-few g c = never_ok c.from_residual.result _ _ c.from_residual.ensures.1

pub returns-in_err-label-clause-weight : goal.returns-in_err-label-clause-weight
returns-in_err-label-clause-weight g c = never_ok c.from_residual.result _ _ c.from_residual.ensures.1

pub returns-in_err-label-clause-weighs : goal.returns-in_err-label-clause-weighs
returns-in_err-label-clause-weighs g c = never_ok c.from_residual.result _ _ c.from_residual.ensures.1

pub returns-in_err-label-clause-needs : goal.returns-in_err-label-clause-needs
returns-in_err-label-clause-needs g c = never_ok c.from_residual.result _ _ c.from_residual.ensures.1

pub returns-in_err-label-clause-light : goal.returns-in_err-label-clause-light
returns-in_err-label-clause-light g c = never_ok c.from_residual.result _ _ c.from_residual.ensures.1

pub returns-in_err-label-clause-writes : goal.returns-in_err-label-clause-writes
returns-in_err-label-clause-writes g c = never_ok c.from_residual.result _ _ c.from_residual.ensures.1

pub returns-in_err-label-clause-metas : goal.returns-in_err-label-clause-metas
returns-in_err-label-clause-metas g c _ = never_ok c.from_residual.result _ _ c.from_residual.ensures.1

pub returns-in_err-label-clause-stays : goal.returns-in_err-label-clause-stays
returns-in_err-label-clause-stays g c _ = never_ok c.from_residual.result _ _ c.from_residual.ensures.1

pub returns-in_err-label-clause-onward : goal.returns-in_err-label-clause-onward
returns-in_err-label-clause-onward g c = search rules

pub returns-in_err-assigned-clause-prepared : goal.returns-in_err-assigned-clause-prepared
returns-in_err-assigned-clause-prepared g c _ = never_ok c.from_residual-in_err-assigned.result _ _ c.from_residual-in_err-assigned.ensures.1

pub returns-in_err-assigned-clause-placed : goal.returns-in_err-assigned-clause-placed
returns-in_err-assigned-clause-placed g c = never_ok c.from_residual-in_err-assigned.result _ _ c.from_residual-in_err-assigned.ensures.1

pub returns-in_err-assigned-clause-few : goal.returns-in_err-assigned-clause-few
returns-in_err-assigned-clause-few g c = never_ok c.from_residual-in_err-assigned.result _ _ c.from_residual-in_err-assigned.ensures.1

pub returns-in_err-assigned-clause-weight : goal.returns-in_err-assigned-clause-weight
returns-in_err-assigned-clause-weight g c = never_ok c.from_residual-in_err-assigned.result _ _ c.from_residual-in_err-assigned.ensures.1

pub returns-in_err-assigned-clause-weighs : goal.returns-in_err-assigned-clause-weighs
returns-in_err-assigned-clause-weighs g c = never_ok c.from_residual-in_err-assigned.result _ _ c.from_residual-in_err-assigned.ensures.1

pub returns-in_err-assigned-clause-needs : goal.returns-in_err-assigned-clause-needs
returns-in_err-assigned-clause-needs g c = never_ok c.from_residual-in_err-assigned.result _ _ c.from_residual-in_err-assigned.ensures.1

pub returns-in_err-assigned-clause-light : goal.returns-in_err-assigned-clause-light
returns-in_err-assigned-clause-light g c = never_ok c.from_residual-in_err-assigned.result _ _ c.from_residual-in_err-assigned.ensures.1

pub returns-in_err-assigned-clause-writes : goal.returns-in_err-assigned-clause-writes
returns-in_err-assigned-clause-writes g c = never_ok c.from_residual-in_err-assigned.result _ _ c.from_residual-in_err-assigned.ensures.1

pub returns-in_err-assigned-clause-metas : goal.returns-in_err-assigned-clause-metas
returns-in_err-assigned-clause-metas g c _ = never_ok c.from_residual-in_err-assigned.result _ _ c.from_residual-in_err-assigned.ensures.1

pub returns-in_err-assigned-clause-stays : goal.returns-in_err-assigned-clause-stays
returns-in_err-assigned-clause-stays g c _ = never_ok c.from_residual-in_err-assigned.result _ _ c.from_residual-in_err-assigned.ensures.1

pub returns-in_err-blocks-clause-prepared : goal.returns-in_err-blocks-clause-prepared
returns-in_err-blocks-clause-prepared g c _ = never_ok c.from_residual-in_err-blocks.result _ _ c.from_residual-in_err-blocks.ensures.1

pub returns-in_err-blocks-clause-placed : goal.returns-in_err-blocks-clause-placed
returns-in_err-blocks-clause-placed g c = never_ok c.from_residual-in_err-blocks.result _ _ c.from_residual-in_err-blocks.ensures.1

pub returns-in_err-blocks-clause-few : goal.returns-in_err-blocks-clause-few
returns-in_err-blocks-clause-few g c = never_ok c.from_residual-in_err-blocks.result _ _ c.from_residual-in_err-blocks.ensures.1

pub returns-in_err-blocks-clause-weight : goal.returns-in_err-blocks-clause-weight
returns-in_err-blocks-clause-weight g c = never_ok c.from_residual-in_err-blocks.result _ _ c.from_residual-in_err-blocks.ensures.1

pub returns-in_err-blocks-clause-weighs : goal.returns-in_err-blocks-clause-weighs
returns-in_err-blocks-clause-weighs g c = never_ok c.from_residual-in_err-blocks.result _ _ c.from_residual-in_err-blocks.ensures.1

pub returns-in_err-blocks-clause-needs : goal.returns-in_err-blocks-clause-needs
returns-in_err-blocks-clause-needs g c = never_ok c.from_residual-in_err-blocks.result _ _ c.from_residual-in_err-blocks.ensures.1

pub returns-in_err-blocks-clause-light : goal.returns-in_err-blocks-clause-light
returns-in_err-blocks-clause-light g c = never_ok c.from_residual-in_err-blocks.result _ _ c.from_residual-in_err-blocks.ensures.1

pub returns-in_err-blocks-clause-writes : goal.returns-in_err-blocks-clause-writes
returns-in_err-blocks-clause-writes g c = never_ok c.from_residual-in_err-blocks.result _ _ c.from_residual-in_err-blocks.ensures.1

pub returns-in_err-blocks-clause-metas : goal.returns-in_err-blocks-clause-metas
returns-in_err-blocks-clause-metas g c _ = never_ok c.from_residual-in_err-blocks.result _ _ c.from_residual-in_err-blocks.ensures.1

pub returns-in_err-blocks-clause-stays : goal.returns-in_err-blocks-clause-stays
returns-in_err-blocks-clause-stays g c _ = never_ok c.from_residual-in_err-blocks.result _ _ c.from_residual-in_err-blocks.ensures.1

pub returns-clause-cause : goal.returns-clause-cause
returns-clause-cause g c = ok_cause _ _ _ _ (later_on c.in_ok-label.ensures.cause.later c.in_ok-assigned.ensures.cause.later)

-- ---- exits by a fault are no answers, and leave any space
pub returns-in_err-label-clause-names_full : goal.returns-in_err-label-clause-names_full
returns-in_err-label-clause-names_full g c used uses many = is_err c.from_residual.result _ c.from_residual.ensures.1

pub returns-in_err-assigned-clause-names_full : goal.returns-in_err-assigned-clause-names_full
returns-in_err-assigned-clause-names_full g c used uses many = is_err c.from_residual-in_err-assigned.result _ c.from_residual-in_err-assigned.ensures.1

pub returns-in_err-blocks-clause-names_full : goal.returns-in_err-blocks-clause-names_full
returns-in_err-blocks-clause-names_full g c used uses many = is_err c.from_residual-in_err-blocks.result _ c.from_residual-in_err-blocks.ensures.1

pub returns-in_err-label-clause-leaves : goal.returns-in_err-label-clause-leaves
returns-in_err-label-clause-leaves g c =
    let s = g.S.Reads.state c.args.space.now in
    let t = g.S.Reads.state c.intern.new.space in
    let fault = c.in_err-label.field-0.0 in
    fault_exit of_intern (LeavesSpace s t) fault c.from_residual.result c.from_residual.ensures.1 (late_leaves s t (of_intern fault) (intern_late fault))

pub returns-in_err-assigned-clause-leaves : goal.returns-in_err-assigned-clause-leaves
returns-in_err-assigned-clause-leaves g c =
    let s = g.S.Reads.state c.args.space.now in
    let t = g.S.Reads.state c.assign_pairs.new.space in
    let fault = c.in_err-assigned.field-0.0 in
    fault_exit (λ f. f) (LeavesSpace s t) fault c.from_residual-in_err-assigned.result c.from_residual-in_err-assigned.ensures.1
    (late_leaves s t fault (assign_late c.intern.new.self.names c.args.pairs.now fault c.in_err-assigned.ensures.refused))

pub returns-in_err-blocks-clause-leaves : goal.returns-in_err-blocks-clause-leaves
returns-in_err-blocks-clause-leaves g c =
    let s = g.S.Reads.state c.args.space.now in
    let t = g.S.Reads.state c.assign_pairs.new.space in
    let fault = c.in_err-blocks.field-0.0 in
    fault_exit (λ f. f) (LeavesSpace s t) fault c.from_residual-in_err-blocks.result c.from_residual-in_err-blocks.ensures.1
    (late_leaves s t fault (reserve_late _ _ _ fault c.in_err-blocks.ensures.refused))

-- ---- the space goes on
pub returns-in_err-assigned-clause-onward : goal.returns-in_err-assigned-clause-onward
returns-in_err-assigned-clause-onward g c =
    g.met.S.Reads.further_onward c.args.space.now c.intern.new.space c.assign_pairs.new.space c.intern.ensures.onward c.assign_pairs.ensures.onward

pub returns-in_err-blocks-clause-onward : goal.returns-in_err-blocks-clause-onward
returns-in_err-blocks-clause-onward g c =
    g.met.S.Reads.further_onward c.args.space.now c.intern.new.space c.assign_pairs.new.space c.intern.ensures.onward c.assign_pairs.ensures.onward

pub returns-clause-onward : goal.returns-clause-onward
returns-clause-onward g c =
    g.met.S.Reads.further_onward c.args.space.now c.intern.new.space c.assign_pairs.new.space c.intern.ensures.onward c.assign_pairs.ensures.onward

-- ---- an answer is no refusal
pub returns-clause-refused : goal.returns-clause-refused
returns-clause-refused g c tells store = tt

pub returns-clause-caused : goal.returns-clause-caused
returns-clause-caused g c tells = tt

pub returns-clause-caused_after : goal.returns-clause-caused_after
returns-clause-caused_after g c tells = tt

pub returns-clause-counts : goal.returns-clause-counts
returns-clause-counts g c tells = tt

pub returns-clause-leaves : goal.returns-clause-leaves
returns-clause-leaves g c = tt

pub returns-clause-placed : goal.returns-clause-placed
returns-clause-placed g c = c.in_ok-assigned.ensures.assigned.placed

pub returns-clause-few : goal.returns-clause-few
returns-clause-few g c = c.in_ok-assigned.ensures.few
