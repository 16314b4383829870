-- A node whose value's entry left has no entry of the pair.
use Rattle.std.specs.Prelude.{Option, None, Some}
use Rattle.std.proofs.Common.{◌≡◌, ◌≢◌, ⊎_elim, ℕ, Bool, true, false, ◌&&◌, not, refl, ap, sym, ◌∙◌}
use Rattle.plain_graph.specs.declared.value.Value.{Value}
use Rattle.store_rules.specs.Hashes.{hash_of}
use Rattle.store_rules.specs.IndexChange.{WantsValue, without_value}
use Rattle.store_rules.specs.Indexes.{Entries, is_entry}
use Rattle.store_rules.proofs.NumberLaws.{eq_false, eq_true, nat_cases}
use Rattle.prop_index.specs.Entering.{entry_of}

pub left-unwanted : (wanted : Entries) (label key n : ℕ) (old : Option Value) (v : Value) → WantsValue wanted label key n old
    → without_value wanted label key n old (entry_of label key n v) ≡ false
left-unwanted wanted label key n None v wants = wants (hash_of v)
left-unwanted wanted label key n (Some u) v wants = ⊎_elim
    (λ (e : hash_of v ≡ hash_of u). rw (eq_true label label refl, eq_true key key refl, eq_true n n refl, eq_true (hash_of v) (hash_of u) e) refl)
    (λ (ne : hash_of v ≢ hash_of u). ap (λ b. not (is_entry (entry_of label key n v) (entry_of label key n u)) && b) (wants (hash_of v) ∙ eq_false (hash_of u)
    (hash_of v) (λ e. ne (sym e))) ∙ by (not (is_entry (entry_of label key n v) (entry_of label key n u))))
    (nat_cases (hash_of v) (hash_of u))
  where
    by : (b : Bool) → (b && false) ≡ false
    by true = refl
    by false = refl
