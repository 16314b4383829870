use Rattle.std.specs.Cmp.Lexicographic.{other_text, same_text}
use Rattle.std.proofs.Common.{◌≡◌, inl, inr, ◌+◌, Bool, true, false, not, sym, ◌∙◌, subst, refl}
use Rattle.node_changes.specs.Indexing.{IsNumberOf, IsPairOf}
use Rattle.node_changes.proofs.IndexNumbers.{pair_apart, pair_next}
use Rattle.node_changes.proofs.indexing.pair_of.Goals as goal
use Rattle.node_changes.proofs.indexing.pair_of.Goals.{else-label_number-key_number-via-then-label_number-key_number+else-ne}
use Rattle.node_changes.proofs.indexing.pair_of.Goals.{else-label_number-key_number-via-else-label_number-key_number}

told_other : (b : Bool) → true ≡ not b → false ≡ b
told_other true e = absurd cc
told_other false e = refl

told_same : (b : Bool) → false ≡ not b → true ≡ b
told_same true e = refl
told_same false e = absurd cc

pub returns-then-ne : goal.returns-then-ne
returns-then-ne c =
    let names = c.args.names.now.names in
    let label = c.args.label.now in
    let key = c.args.key.now in
    let l = c.number_of-label_number.result in
    let same = c.if-label_number-key_number.true in
    subst (λ n. IsPairOf names label key (record { label = l; key = n + 1 })) same
    (pair_next names label key l c.number_of-label_number.ensures.is (subst (IsNumberOf names key) (sym same) c.number_of-key_number.ensures.is)
    (λ e. other_text c.as_bytes.result.now c.as_bytes-then-label_number-key_number.result.now (told_other _ c.if-ne.ensures) (c.as_bytes.ensures ∙ e
    ∙ sym c.as_bytes-then-label_number-key_number.ensures)))

pub returns : goal.returns
returns c =
    let names = c.args.names.now.names in
    let label = c.args.label.now in
    let key = c.args.key.now in
    pair_apart names label key c.number_of-label_number.result c.number_of-key_number.result c.number_of-label_number.ensures.is
    c.number_of-key_number.ensures.is
    (elim c.else-label_number-key_number.branch [
      | else-label_number-key_number-via-then-label_number-key_number+else-ne w ↦ inr
          (sym w.as_bytes.ensures ∙ same_text w.as_bytes.result.now w.as_bytes-then-label_number-key_number.result.now (told_same _ w.if-ne.ensures)
          ∙ w.as_bytes-then-label_number-key_number.ensures)
      | else-label_number-key_number-via-else-label_number-key_number w ↦ inl w.if-label_number-key_number.false
    ])
