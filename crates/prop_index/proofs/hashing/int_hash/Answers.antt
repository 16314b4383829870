use Rattle.std.specs.Int.{cast_unsigned, to_le_bytes}
use mir.Val.{SFits}
use mir.Syntax.{w64}
use Rattle.std.proofs.Common.{◌≡◌, ap, ◌∙◌}
use Rattle.std.proofs.lemmas.Int.{to_z-of_z}
use Rattle.store_rules.specs.Hashes.{hash_from, hash_with}
use Rattle.prop_index.proofs.hashing.int_hash.Goals as goal

pub returns : goal.returns
unfolding hash_from
returns c =
    let fits : SFits w64 c.args.number = c.ranges.number in
    let bytes : c.to_le_bytes-bytes.result ≡ to_le_bytes w64 (cast_unsigned w64 c.args.number) = simp to_z-of_z at c.to_le_bytes-bytes.ensures in
    c.hash_from.ensures ∙ ap (λ h. hash_from h c.to_le_bytes-bytes.result) c.hash_with.ensures ∙ ap (hash_from (hash_with 0 1)) bytes
