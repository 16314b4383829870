-- The kind of a relationship is the one that a record in use of the relationships may have.
use Rattle.std.proofs.Common.{◌≡◌, ◌≢◌, ℕ, false, true, nat_eq, None, refl, arith}
use Rattle.std.proofs.lemmas.Bool.Decides.{nat_tests}
use Rattle.rec_bytes.specs.declared.record.Rec.{Rec}
use Rattle.rec_bytes.specs.Format as format
use Rattle.store_rules.specs.Ranges.{layout_by}
use Rattle.rel_store.specs.RelRecord.{is_rel_kind}

free_false : (kind : ℕ) → kind ≢ format.free_kind → nat_eq kind format.free_kind ≡ false
free_false kind ne = grind (arith, nat_tests)

pub no_kind : (rec : Rec) (kind : ℕ) → kind ≢ format.free_kind → is_rel_kind kind ≡ false
    → layout_by format.relationships_file rec kind ≡ None
no_kind rec kind used other = rw (free_false kind used, other) refl

pub own_kind : (rec : Rec) (kind : ℕ) → kind ≢ format.free_kind → is_rel_kind kind ≡ true
    → layout_by format.relationships_file rec kind ≢ None
own_kind rec kind used own = rw (free_false kind used, own) (λ e. absurd cc)
