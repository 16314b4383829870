-- What stands in a meta record after it was written.
use Rattle.std.proofs.Common.{◌≡◌, ℕ, ◌<◌, ◌^◌, ap, ◌∙◌, inl, inr, arith}
use Rattle.rec_bytes.specs.declared.record.Rec.{Rec}
use Rattle.rec_bytes.specs.declared.meta.Meta.{Meta}
use Rattle.rec_bytes.specs.Meta.{meta_of, with_meta}
use Rattle.rec_bytes.specs.Record.{field, with_field}
use Rattle.rec_bytes.proofs.Numbers.{field-with_field_same, field-with_field_other}

-- each of the three numbers is read back
pub meta_reads_back : (r : Rec) (m : Meta) → m.high < 2 ^ 32 → m.free < 2 ^ 32 → m.live < 2 ^ 32 → meta_of (with_meta r m) ≡ m
meta_reads_back r m high free live =
    let one = with_field 4 r 0 m.high in
    let two = with_field 4 one 4 m.free in
    let a = field-with_field_other 4 two 8 m.live 4 0 (omega arith) (inr (omega arith))
    ∙ field-with_field_other 4 one 4 m.free 4 0 (omega arith) (inr (omega arith)) ∙ field-with_field_same 4 r 0 m.high (omega arith) (omega arith) in
    let b = field-with_field_other 4 two 8 m.live 4 4 (omega arith) (inr (omega arith)) ∙ field-with_field_same 4 one 4 m.free (omega arith) (omega arith) in
    let c = field-with_field_same 4 two 8 m.live (omega arith) (omega arith) in
    ap (λ x. record { high = x; free = field 4 (with_meta r m) 4; live = field 4 (with_meta r m) 8 }) a
    ∙ ap (λ x. record { high = m.high; free = x; live = field 4 (with_meta r m) 8 }) b
    ∙ ap (λ x. record { high = m.high; free = m.free; live = x }) c

-- a link behind them leaves them
pub meta_of-definition : (r : Rec) (link : ℕ) → meta_of (with_field 4 r 12 link) ≡ meta_of r
meta_of-definition r link =
    let new = with_field 4 r 12 link in
    let a = field-with_field_other 4 r 12 link 4 0 (omega arith) (inr (omega arith)) in
    let b = field-with_field_other 4 r 12 link 4 4 (omega arith) (inr (omega arith)) in
    let c = field-with_field_other 4 r 12 link 4 8 (omega arith) (inr (omega arith)) in
    ap (λ x. record { high = x; free = field 4 new 4; live = field 4 new 8 }) a
    ∙ ap (λ x. record { high = field 4 r 0; free = x; live = field 4 new 8 }) b
    ∙ ap (λ x. record { high = field 4 r 0; free = field 4 r 4; live = x }) c

-- and they leave it
pub definition-with_meta : (r : Rec) (m : Meta) → field 4 (with_meta r m) 12 ≡ field 4 r 12
definition-with_meta r m =
    let one = with_field 4 r 0 m.high in
    let two = with_field 4 one 4 m.free in
    field-with_field_other 4 two 8 m.live 4 12 (omega arith) (inl (omega arith)) ∙ field-with_field_other 4 one 4 m.free 4 12 (omega arith) (inl (omega arith))
    ∙ field-with_field_other 4 r 0 m.high 4 12 (omega arith) (inl (omega arith))
