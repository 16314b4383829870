use Rattle.std.proofs.Common.{◌≡◌, ◌++◌, ◌∷◌, [], List, sym, subst, refl, rules}
use Rattle.std.specs.Prelude.{IfErr}
use Rattle.plain_graph.specs.Reply.{Reply}
use Rattle.plain_graph.specs.declared.command.Command.TheVariants as commands
use Rattle.plain_graph.specs.declared.item.Item.{Item}
use Rattle.plain_graph.specs.declared.pairs.Pair.{Pair}
use Rattle.change_parts.proofs.Exits.{fault_exit}
use Rattle.graph_ops.specs.Mutating.{IsListCaused, IsListRefusal, MakesMutation, MakesPart, any_replies}
use Rattle.plain_graph.specs.Mutations.{changes_of, new_elements}
use Rattle.plain_graph.specs.declared.mutation.Mutation.{Mutation}
use Rattle.plain_graph.specs.declared.mutation.Mutation.TheVariants as mutations
use Rattle.graph_ops.specs.ChangeLeft.{LeavesEach, LeavesMutation}
use Rattle.graph_ops.proofs.Parts.{drops_made, edges_made, one_refused, shown_left, values_made, vertex_made}
use Rattle.rec_bytes.proofs.Causes.{never_ok}
use Rattle.rec_bytes.specs.Format as format
use Rattle.graph_ops.specs.NewIds.{GetsFreeIds}
use Rattle.graph_ops.proofs.NewIds.{shown_have, vertex_has}
use Rattle.graph_ops.proofs.mutating.make_changes.Goals as goal
use Rattle.store_rules.specs.Graph.{graph_in}

pub returns-in_err-weight-in-AddV-clause-refused :
    goal.returns-in_err-weight-in-AddV-clause-refused
returns-in_err-weight-in-AddV-clause-refused g c told store =
    let s = g.S.Reads.state c.args.space.now in
    let out = c.from_residual.result in
    let fault = c.in_err-weight-in-AddV.field-0.0 in
    let command = commands.Node c.in-AddV.label c.in-AddV.pairs in
    subst (λ (m : Mutation). IfErr out (IsListRefusal s.shape.limit (graph_in s) (changes_of m c.args.items.items))) (sym c.in-AddV.is)
    (fault_exit (λ f. f) (IsListRefusal s.shape.limit (graph_in s) (command ∷ [])) fault out c.from_residual.ensures.1 (one_refused s.shape.limit (graph_in s)
    command fault (c.in_err-weight-in-AddV.ensures.refused told store)))

pub returns-in_ok-weight-in-AddV-clause-made : goal.returns-in_ok-weight-in-AddV-clause-made
returns-in_ok-weight-in-AddV-clause-made g c told store =
    let s = g.S.Reads.state c.args.space.now in
    let t = g.S.Reads.state c.add_vertex.new.space in
    let shown = c.add_vertex.new.shown.items in
    let weight = c.in_ok-weight-in-AddV.weight in
    let n = c.add_vertex.new.names.names in
    subst (λ (m : Mutation). MakesMutation m c.args.items.items shown c.told_weight.result s t n) (sym c.in-AddV.is)
    (vertex_made c.args.items.items shown c.new-vertices.result.items weight c.told_weight.result c.told_weight.ensures.is s t c.args.names.now.names n
    c.in-AddV.label c.in-AddV.pairs c.new-vertices.ensures.items c.in_ok-weight-in-AddV.ensures.part told store)

pub returns-in_ok-weight-in-AddE-clause-made : goal.returns-in_ok-weight-in-AddE-clause-made
returns-in_ok-weight-in-AddE-clause-made g c told store =
    let s = g.S.Reads.state c.args.space.now in
    let t = g.S.Reads.state c.add_edges.new.space in
    let shown = c.add_edges.new.shown.items in
    let weight = c.in_ok-weight-in-AddE.weight in
    let n = c.add_edges.new.names.names in
    let label = c.in-AddE.label in
    let to = c.in-AddE.to in
    let pairs = c.in-AddE.pairs in
    let part =
    subst (λ (list : List Item). MakesPart g.S.Reads.tells (changes_of (mutations.AddE label to pairs) list) (λ (replies : List Reply).
    shown ≡ c.new-edges.result.items ++ new_elements (changes_of (mutations.AddE label to pairs) list) replies) weight s t c.args.names.now.names n)
    c.deref.ensures.value
    c.in_ok-weight-in-AddE.ensures.part in
    subst (λ (m : Mutation). MakesMutation m c.args.items.items shown c.told_weight-in-AddE.result s t n) (sym c.in-AddE.is)
    (edges_made c.args.items.items shown c.new-edges.result.items weight c.told_weight-in-AddE.result c.told_weight-in-AddE.ensures.is s t
    c.args.names.now.names n label to pairs c.new-edges.ensures.items part told store)

pub returns-in_ok-weight-in-Property-clause-made :
    goal.returns-in_ok-weight-in-Property-clause-made
returns-in_ok-weight-in-Property-clause-made g c told store =
    let s = g.S.Reads.state c.args.space.now in
    let t = g.S.Reads.state c.set_each.new.space in
    let weight = c.in_ok-weight-in-Property.weight in
    let n = c.set_each.new.names.names in
    let results = c.args.items.items in
    let pairs = c.in-Property.pairs in
    let part = subst (λ (list : List Pair). MakesPart g.S.Reads.tells (changes_of (mutations.Property list) c.deref-in-Property.result.now) any_replies weight s
    t c.args.names.now.names n) c.as_slice.ensures c.in_ok-weight-in-Property.ensures.part in
    let whole = subst (λ (list : List Item). MakesPart g.S.Reads.tells (changes_of (mutations.Property pairs) list) any_replies weight s t
    c.args.names.now.names n) c.deref-in-Property.ensures.value part in
    subst (λ (m : Mutation). MakesMutation m results results c.told_weight-in-Property.result s t n) (sym c.in-Property.is)
    (values_made results results results weight c.told_weight-in-Property.result c.told_weight-in-Property.ensures.is s t c.args.names.now.names n pairs whole
    told store)

pub returns-in_ok-weight-in-Drop-clause-made : goal.returns-in_ok-weight-in-Drop-clause-made
returns-in_ok-weight-in-Drop-clause-made g c told store =
    let s = g.S.Reads.state c.args.space.now in
    let t = g.S.Reads.state c.drop_each.new.space in
    let weight = c.in_ok-weight-in-Drop.weight in
    let n = c.args.names.now.names in
    let shown = c.new.result.items in
    let part = subst (λ (list : List Item). MakesPart g.S.Reads.tells (changes_of mutations.Drop list) any_replies weight s t n n) c.deref-in-Drop.ensures.value
    c.in_ok-weight-in-Drop.ensures.part in
    subst (λ (m : Mutation). MakesMutation m c.args.items.items shown c.told_weight-in-Drop.result s t n) (sym c.in-Drop.is)
    (drops_made c.args.items.items shown shown weight c.told_weight-in-Drop.result c.told_weight-in-Drop.ensures.is s t n n c.new.ensures.items part told store)

-- ---- why it is refused, by the space as it is left

pub returns-in_err-weight-in-AddV-clause-caused_after : goal.returns-in_err-weight-in-AddV-clause-caused_after
returns-in_err-weight-in-AddV-clause-caused_after g c tells =
    let t = g.S.Reads.state c.add_vertex.new.space in
    let names = c.args.names.now.names in
    let now = c.add_vertex.new.names.names in
    let out = c.from_residual.result in
    let command = commands.Node c.in-AddV.label c.in-AddV.pairs in
    subst (λ (m : Mutation). IfErr out (IsListCaused (changes_of m c.args.items.items) t names now)) (sym c.in-AddV.is)
    (fault_exit (λ f. f) (IsListCaused (command ∷ []) t names now) c.in_err-weight-in-AddV.field-0.0 out c.from_residual.ensures.1
    (c.in_err-weight-in-AddV.ensures.caused_after tells))

pub returns-in_err-weight-in-AddV-clause-made : goal.returns-in_err-weight-in-AddV-clause-made
returns-in_err-weight-in-AddV-clause-made g c _ = never_ok c.from_residual.result _ _ c.from_residual.ensures.1

pub returns-in_err-weight-in-AddV-clause-shown : goal.returns-in_err-weight-in-AddV-clause-shown
returns-in_err-weight-in-AddV-clause-shown g c _ = never_ok c.from_residual.result _ _ c.from_residual.ensures.1

pub returns-in_err-weight-in-AddV-clause-few : goal.returns-in_err-weight-in-AddV-clause-few
returns-in_err-weight-in-AddV-clause-few g c = never_ok c.from_residual.result _ _ c.from_residual.ensures.1

pub returns-in_err-weight-in-AddV-clause-writes : goal.returns-in_err-weight-in-AddV-clause-writes
returns-in_err-weight-in-AddV-clause-writes g c = never_ok c.from_residual.result _ _ c.from_residual.ensures.1

pub returns-in_err-weight-in-AddV-clause-onward : goal.returns-in_err-weight-in-AddV-clause-onward
returns-in_err-weight-in-AddV-clause-onward g c = search rules

pub returns-in_err-weight-in-AddE-clause-made : goal.returns-in_err-weight-in-AddE-clause-made
returns-in_err-weight-in-AddE-clause-made g c _ = never_ok c.from_residual-in_err-weight-in-AddE.result _ _ c.from_residual-in_err-weight-in-AddE.ensures.1

pub returns-in_err-weight-in-AddE-clause-shown : goal.returns-in_err-weight-in-AddE-clause-shown
returns-in_err-weight-in-AddE-clause-shown g c _ = never_ok c.from_residual-in_err-weight-in-AddE.result _ _ c.from_residual-in_err-weight-in-AddE.ensures.1

pub returns-in_err-weight-in-AddE-clause-few : goal.returns-in_err-weight-in-AddE-clause-few
returns-in_err-weight-in-AddE-clause-few g c = never_ok c.from_residual-in_err-weight-in-AddE.result _ _ c.from_residual-in_err-weight-in-AddE.ensures.1

pub returns-in_err-weight-in-AddE-clause-writes : goal.returns-in_err-weight-in-AddE-clause-writes
returns-in_err-weight-in-AddE-clause-writes g c = never_ok c.from_residual-in_err-weight-in-AddE.result _ _ c.from_residual-in_err-weight-in-AddE.ensures.1

pub returns-in_err-weight-in-Property-clause-made : goal.returns-in_err-weight-in-Property-clause-made
returns-in_err-weight-in-Property-clause-made g c _ =
    never_ok c.from_residual-in_err-weight-in-Property.result _ _ c.from_residual-in_err-weight-in-Property.ensures.1

pub returns-in_err-weight-in-Property-clause-shown : goal.returns-in_err-weight-in-Property-clause-shown
returns-in_err-weight-in-Property-clause-shown g c _ =
    never_ok c.from_residual-in_err-weight-in-Property.result _ _ c.from_residual-in_err-weight-in-Property.ensures.1

pub returns-in_err-weight-in-Property-clause-few : goal.returns-in_err-weight-in-Property-clause-few
returns-in_err-weight-in-Property-clause-few g c =
    never_ok c.from_residual-in_err-weight-in-Property.result _ _ c.from_residual-in_err-weight-in-Property.ensures.1

pub returns-in_err-weight-in-Property-clause-writes : goal.returns-in_err-weight-in-Property-clause-writes
returns-in_err-weight-in-Property-clause-writes g c =
    never_ok c.from_residual-in_err-weight-in-Property.result _ _ c.from_residual-in_err-weight-in-Property.ensures.1

pub returns-in_err-weight-in-Drop-clause-made : goal.returns-in_err-weight-in-Drop-clause-made
returns-in_err-weight-in-Drop-clause-made g c _ = never_ok c.from_residual-in_err-weight-in-Drop.result _ _ c.from_residual-in_err-weight-in-Drop.ensures.1

pub returns-in_err-weight-in-Drop-clause-shown : goal.returns-in_err-weight-in-Drop-clause-shown
returns-in_err-weight-in-Drop-clause-shown g c _ = never_ok c.from_residual-in_err-weight-in-Drop.result _ _ c.from_residual-in_err-weight-in-Drop.ensures.1

pub returns-in_err-weight-in-Drop-clause-few : goal.returns-in_err-weight-in-Drop-clause-few
returns-in_err-weight-in-Drop-clause-few g c = never_ok c.from_residual-in_err-weight-in-Drop.result _ _ c.from_residual-in_err-weight-in-Drop.ensures.1

pub returns-in_err-weight-in-Drop-clause-writes : goal.returns-in_err-weight-in-Drop-clause-writes
returns-in_err-weight-in-Drop-clause-writes g c = never_ok c.from_residual-in_err-weight-in-Drop.result _ _ c.from_residual-in_err-weight-in-Drop.ensures.1

-- ---- which identifiers its new elements get

pub returns-in_ok-weight-in-AddV-clause-ids : goal.returns-in_ok-weight-in-AddV-clause-ids
returns-in_ok-weight-in-AddV-clause-ids g c tells =
    let s = (g.S.Reads.state c.args.space.now).records in
    let shown = c.add_vertex.new.shown.items in
    subst (λ (m : Mutation). GetsFreeIds m shown s) (sym c.in-AddV.is)
    (vertex_has s c.new-vertices.result.items shown c.new-vertices.ensures.items (c.in_ok-weight-in-AddV.ensures.ids tells))

pub returns-in_ok-weight-in-AddE-clause-ids : goal.returns-in_ok-weight-in-AddE-clause-ids
returns-in_ok-weight-in-AddE-clause-ids g c tells =
    let s = (g.S.Reads.state c.args.space.now).records in
    let shown = c.add_edges.new.shown.items in
    subst (λ (m : Mutation). GetsFreeIds m shown s) (sym c.in-AddE.is)
    (shown_have s (g.S.Reads.state c.add_edges.new.space).records format.relationships_file c.new-edges.result.items shown c.new-edges.ensures.items
    (c.in_ok-weight-in-AddE.ensures.ids tells))

pub returns-in_ok-weight-in-Property-clause-ids : goal.returns-in_ok-weight-in-Property-clause-ids
returns-in_ok-weight-in-Property-clause-ids g c tells =
    subst (λ (m : Mutation). GetsFreeIds m c.args.items.items (g.S.Reads.state c.args.space.now).records) (sym c.in-Property.is) tt

pub returns-in_ok-weight-in-Drop-clause-ids : goal.returns-in_ok-weight-in-Drop-clause-ids
returns-in_ok-weight-in-Drop-clause-ids g c tells =
    subst (λ (m : Mutation). GetsFreeIds m c.new.result.items (g.S.Reads.state c.args.space.now).records) (sym c.in-Drop.is) tt

pub returns-in_err-weight-in-AddV-clause-ids : goal.returns-in_err-weight-in-AddV-clause-ids
returns-in_err-weight-in-AddV-clause-ids g c _ = never_ok c.from_residual.result _ _ c.from_residual.ensures.1

pub returns-in_err-weight-in-AddE-clause-ids : goal.returns-in_err-weight-in-AddE-clause-ids
returns-in_err-weight-in-AddE-clause-ids g c _ = never_ok c.from_residual-in_err-weight-in-AddE.result _ _ c.from_residual-in_err-weight-in-AddE.ensures.1

pub returns-in_err-weight-in-Property-clause-ids : goal.returns-in_err-weight-in-Property-clause-ids
returns-in_err-weight-in-Property-clause-ids g c _ =
    never_ok c.from_residual-in_err-weight-in-Property.result _ _ c.from_residual-in_err-weight-in-Property.ensures.1

pub returns-in_err-weight-in-Drop-clause-ids : goal.returns-in_err-weight-in-Drop-clause-ids
returns-in_err-weight-in-Drop-clause-ids g c _ = never_ok c.from_residual-in_err-weight-in-Drop.result _ _ c.from_residual-in_err-weight-in-Drop.ensures.1

-- ---- what it leaves of the records

pub returns-in_ok-weight-in-AddV-clause-leaves : goal.returns-in_ok-weight-in-AddV-clause-leaves
returns-in_ok-weight-in-AddV-clause-leaves g c told =
    let s = g.S.Reads.state c.args.space.now in
    let t = g.S.Reads.state c.add_vertex.new.space in
    let shown = c.add_vertex.new.shown.items in
    let n = c.add_vertex.new.names.names in
    subst (λ (m : Mutation). LeavesMutation m c.args.items.items shown s.records t.records n) (sym c.in-AddV.is)
    (shown_left (commands.Node c.in-AddV.label c.in-AddV.pairs ∷ []) shown c.new-vertices.result.items c.in_ok-weight-in-AddV.weight
    s t c.args.names.now.names n
    c.new-vertices.ensures.items c.in_ok-weight-in-AddV.ensures.part told)

pub returns-in_ok-weight-in-AddE-clause-leaves : goal.returns-in_ok-weight-in-AddE-clause-leaves
returns-in_ok-weight-in-AddE-clause-leaves g c told =
    let s = g.S.Reads.state c.args.space.now in
    let t = g.S.Reads.state c.add_edges.new.space in
    let shown = c.add_edges.new.shown.items in
    let n = c.add_edges.new.names.names in
    let steps = mutations.AddE c.in-AddE.label c.in-AddE.to c.in-AddE.pairs in
    let left = shown_left (changes_of steps c.deref.result.now) shown c.new-edges.result.items c.in_ok-weight-in-AddE.weight s t c.args.names.now.names n
    c.new-edges.ensures.items c.in_ok-weight-in-AddE.ensures.part told in
    subst (λ (m : Mutation). LeavesMutation m c.args.items.items shown s.records t.records n) (sym c.in-AddE.is)
    (subst (λ (list : List Item). LeavesMutation steps list shown s.records t.records n) c.deref.ensures.value left)

pub returns-in_ok-weight-in-Property-clause-leaves : goal.returns-in_ok-weight-in-Property-clause-leaves
returns-in_ok-weight-in-Property-clause-leaves g c told =
    let s = (g.S.Reads.state c.args.space.now).records in
    let t = (g.S.Reads.state c.set_each.new.space).records in
    let n = c.set_each.new.names.names in
    let results = c.args.items.items in
    let made = c.in_ok-weight-in-Property.ensures.part.made told in
    let left = subst (λ (pairs : List Pair). LeavesEach (changes_of (mutations.Property pairs) c.deref-in-Property.result.now) made.0 s t n) c.as_slice.ensures
    made.2 in
    let whole = subst (λ (list : List Item). LeavesEach (changes_of (mutations.Property c.in-Property.pairs) list) made.0 s t n)
    c.deref-in-Property.ensures.value left in
    subst (λ (m : Mutation). LeavesMutation m results results s t n) (sym c.in-Property.is) (made.0, refl, whole)

pub returns-in_ok-weight-in-Drop-clause-leaves : goal.returns-in_ok-weight-in-Drop-clause-leaves
returns-in_ok-weight-in-Drop-clause-leaves g c told =
    let s = (g.S.Reads.state c.args.space.now).records in
    let t = (g.S.Reads.state c.drop_each.new.space).records in
    let n = c.args.names.now.names in
    let shown = c.new.result.items in
    let made = c.in_ok-weight-in-Drop.ensures.part.made told in
    subst (λ (m : Mutation). LeavesMutation m c.args.items.items shown s t n) (sym c.in-Drop.is)
    (made.0, c.new.ensures.items, subst (λ (list : List Item). LeavesEach (changes_of mutations.Drop list) made.0 s t n) c.deref-in-Drop.ensures.value made.2)

pub returns-in_err-weight-in-AddV-clause-leaves : goal.returns-in_err-weight-in-AddV-clause-leaves
returns-in_err-weight-in-AddV-clause-leaves g c _ = never_ok c.from_residual.result _ _ c.from_residual.ensures.1

pub returns-in_err-weight-in-AddE-clause-leaves : goal.returns-in_err-weight-in-AddE-clause-leaves
returns-in_err-weight-in-AddE-clause-leaves g c _ =
    never_ok c.from_residual-in_err-weight-in-AddE.result _ _ c.from_residual-in_err-weight-in-AddE.ensures.1

pub returns-in_err-weight-in-Property-clause-leaves : goal.returns-in_err-weight-in-Property-clause-leaves
returns-in_err-weight-in-Property-clause-leaves g c _ =
    never_ok c.from_residual-in_err-weight-in-Property.result _ _ c.from_residual-in_err-weight-in-Property.ensures.1

pub returns-in_err-weight-in-Drop-clause-leaves : goal.returns-in_err-weight-in-Drop-clause-leaves
returns-in_err-weight-in-Drop-clause-leaves g c _ =
    never_ok c.from_residual-in_err-weight-in-Drop.result _ _ c.from_residual-in_err-weight-in-Drop.ensures.1
