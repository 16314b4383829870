use Rattle.std.proofs.Common.{◌≡◌, ◌<◌, ◌≤◌, ℕ, ap, ◌∙◌, subst, arith}
use Rattle.rec_bytes.specs.declared.meta.Meta.{Meta}
use Rattle.rec_bytes.specs.declared.shape.Shape.{Shape}
use Rattle.rec_bytes.specs.Format as format
use Rattle.rec_bytes.specs.RecordFiles.{room_of}
use Rattle.store_rules.specs.Views.{high}
use Rattle.prop_index.specs.Gathering.{HighNodes, NamesNone}
use Rattle.prop_index.proofs.holding.owner_of.Goals as goal

pub returns-then-node-meta-clause-damaged : goal.returns-then-node-meta-clause-damaged
returns-then-node-meta-clause-damaged g c = NamesNone (subst (λ (m : Meta). m.high ≤ c.args.node) c.meta.ensures c.if-node-meta.true)

pub returns-then-node-room_of-clause-damaged : goal.returns-then-node-room_of-clause-damaged
returns-then-node-room_of-clause-damaged g c =
    let s = g.R.Reads.state c.args.space.now in
    let low : c.args.node < high s.records format.nodes_file = subst (λ (m : Meta). c.args.node < m.high) c.meta.ensures c.if-node-meta.false in
    let room : c.room_of.result ≡ room_of s.shape format.nodes_file = c.room_of.ensures ∙ ap (λ (h : Shape). room_of h format.nodes_file) c.shape.ensures.is in
    let past : room_of s.shape format.nodes_file ≤ c.args.node = subst (λ (n : ℕ). n ≤ c.args.node) room c.if-node-room_of.true in
    HighNodes (omega (arith, low, past))
