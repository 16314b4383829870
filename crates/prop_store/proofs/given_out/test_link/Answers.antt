use Rattle.std.proofs.Common.{◌≡◌, ◌≤◌, ◌<◌, ℕ, true, sym, ap, ◌∙◌, subst, arith}
use Rattle.rec_bytes.specs.Format.{meta_file, most_ids}
use Rattle.rec_bytes.specs.Shape.{is_allowed}
use Rattle.rec_bytes.specs.Space.{State}
use Rattle.rec_bytes.specs.declared.key.Key.{Key}
use Rattle.rec_bytes.specs.declared.meta.Meta.{Meta}
use Rattle.rec_bytes.specs.declared.shape.Shape.{Shape}
use Rattle.rec_bytes.proofs.RecordFiles.{room_of-most}
use Rattle.store_rules.specs.Breaking.{damage}
use Rattle.store_rules.specs.Views.{high}
use Rattle.prop_store.specs.GivenOut.{HighMark, IsLinkDamage, IsLinkFault, PastMark}
use Rattle.prop_store.proofs.given_out.test_link.Goals as goal

pub returns-then-id-meta-clause-damaged : goal.returns-then-id-meta-clause-damaged
returns-then-id-meta-clause-damaged g c =
    let s = g.R.Reads.state c.args.space.now in
    let mark : high s.records c.args.file ≤ c.args.id = let e = ap (λ (m : Meta). m.high) c.meta.ensures in omega (arith, c.if-id-meta.true, e) in
    subst (IsLinkFault s c.args.from c.args.file c.args.id) (sym c.damaged.ensures) (PastMark mark)

-- the mark is above an identifier that no shape has room for
high_mark : (s : State) (from : Key) (file id mark : ℕ) (shape : Shape) → mark ≡ high s.records file → shape ≡ s.shape → is_allowed shape ≡ true → id < mark
    → most_ids ≤ id → IsLinkDamage s from file id (damage meta_file file 1)
high_mark s from file id mark shape is of_shape allowed lt le =
    HighMark (let most = room_of-most s.shape file (ap is_allowed (sym of_shape) ∙ allowed) in omega (arith, most, is, lt, le))

pub returns-then-id-ge-MOST_IDS-clause-damaged : goal.returns-then-id-ge-MOST_IDS-clause-damaged
returns-then-id-ge-MOST_IDS-clause-damaged g c =
    let s = g.R.Reads.state c.args.space.now in
    subst (IsLinkFault s c.args.from c.args.file c.args.id) (sym c.damaged-then-id-ge-MOST_IDS.ensures)
    (high_mark s c.args.from c.args.file c.args.id c.meta.result.high c.shape-shape.result (ap (λ (m : Meta). m.high) c.meta.ensures) c.shape-shape.ensures.is
    c.shape-shape.ensures.allowed (omega (arith, c.if-id-meta.false)) (omega (arith, c.if-id-ge-MOST_IDS.true)))
