-- Counts of the relationships at a node.
use Rattle.std.proofs.Common.{◌≡◌, ℕ, ◌+◌, ◌<◌, Bool, true, false, cond, not, ◌&&◌, ◌||◌, Some, None, length, nat_eq, sym, ap, ◌∙◌, ⊎_elim, arith, refl}
use Rattle.std.proofs.lemmas.Bool.{cases_Bool}
use Rattle.rec_bytes.specs.declared.record.Rec.{Rec}
use Rattle.rec_bytes.specs.Format as format
use Rattle.rec_bytes.specs.Record.{field}
use Rattle.store_rules.specs.Rows.{ids}
use Rattle.store_rules.specs.Rules as rules
use Rattle.store_rules.specs.Views.{Records, high, rec_at, rel_at, rel_in}
use Rattle.store_rules.specs.Breaking.{DegreeKeeps}
use Rattle.chain_check.specs.NodeChains.{enters, is_of_node, leaves}
use Rattle.record_lists.proofs.CountLaws.{count_more, count_same}
use Rattle.record_lists.proofs.RecordLaws.{kind_read}
use Rattle.store_rules.specs.Rules.{KeepsDegrees}

-- a record below the mark stands at a node where it says so
stands_read : (records : Records) (x n : ℕ) (r : Rec) → x < high records format.relationships_file → r ≡ rec_at records format.relationships_file x
    → rules.stands_in n (rel_at records x) ≡ is_of_node n r
stands_read records x n r lt e =
    let file = format.relationships_file in
    ap (λ k. rules.stands_in n (cond (nat_eq k 0) None (Some (rel_in (rec_at records file x) x)))) (kind_read records file x r lt e)
    ∙ ap (λ q. rules.stands_in n (cond (nat_eq (field 1 r format.kind) 0) None (Some (rel_in q x)))) (sym e)
    ∙ by (nat_eq (field 1 r format.kind) 0)
  where
    by : (b : Bool) → rules.stands_in n (cond b None (Some (rel_in r x))) ≡ (not b && (leaves r n || enters r n))
    by true = refl
    by false = refl

-- so one more record counts where it stands at the node
pub degree_more : (records : Records) (x y n : ℕ) (r : Rec) → x < high records format.relationships_file → r ≡ rec_at records format.relationships_file x
    → y ≡ x + 1
    → rules.degree_of (rel_at records) y n ≡ rules.degree_of (rel_at records) x n + cond (is_of_node n r) 1 0
degree_more records x y n r lt e next =
    let test : ℕ → Bool = λ z. rules.stands_in n (rel_at records z) in
    let read = stands_read records x n r lt e in
    ⊎_elim
    (λ (t : is_of_node n r ≡ true). count_more test x y next (read ∙ t) ∙ ap (λ b. length (ids test x) + cond b 1 0) (sym t))
    (λ (f : is_of_node n r ≡ false). count_same test x y next (read ∙ f) ∙ (let z : length (ids test x) ≡ length (ids test x) + 0 = omega arith in z) ∙ ap
    (λ b. length (ids test x) + cond b 1 0) (sym f))
    (cases_Bool (is_of_node n r))

-- where each node keeps the rule the store does
pub are_counted : (records : Records) (threshold : ℕ) → ((n : ℕ) → DegreeKeeps records threshold n)
    → KeepsDegrees records threshold
are_counted records threshold each = record {
  each = λ n live. let k = each n in k.exact live;
  few = λ n is. let k = each n in k.few is;
}
