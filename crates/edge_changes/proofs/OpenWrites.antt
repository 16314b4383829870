-- Which records are written where the ends of a new edge are opened.
use Rattle.std.proofs.Common.{◌≡◌, ℕ, ◌+◌, ◌≤◌, true, List, ◌∷◌, ◌++◌, ◌∙◌, Result, Ok, Err, inl, inr, sym, ⊎_elim, arith, refl}
use Rattle.std.specs.Prelude.{OnErr}
use Rattle.std.proofs.lemmas.Bool.Decides.{nat_tests}
use Rattle.std.proofs.lemmas.List.{length-append}
use Rattle.rec_bytes.specs.declared.shape.Shape.{Shape}
use Rattle.rec_bytes.specs.Shape.{is_allowed}
use Rattle.store_rules.proofs.NumberLaws.{eq_false, eq_true}
use Rattle.rec_bytes.specs.declared.key.Key.{Key}
use Rattle.rec_bytes.specs.Space.{IsAmong, State}
use Rattle.rec_bytes.proofs.Spaces.{writes_more, writes_then}
use Rattle.store_rules.specs.Writes.{WritesAtMost, WritesBeside, meta_keys}
use Rattle.rel_store.specs.RelRecord.{rel_key}
use Rattle.node_store.specs.NodeRecord.{node_key}
use Rattle.group_store.specs.Opening.{WritesOpened}
use Rattle.edge_changes.specs.declared.edge_end.EdgeEnd.{EdgeEnd}
use Rattle.edge_changes.specs.declared.edge_end.EndDegree.{EndDegree}
use Rattle.edge_changes.specs.declared.edge_end.Ends.{Ends}
use Rattle.edge_changes.specs.declared.edge_end.Ends.TheVariants.{Loop, Two}
use Rattle.edge_changes.specs.EdgeJoining.{WritesJoined, joined_keys}
use Rattle.edge_changes.specs.EdgeAdding.{LeadFrom, degrees_weight}
use Rattle.edge_changes.specs.EdgeEnds.{AtEach, IsEdgeEnd, source_of, target_of}
use Rattle.edge_changes.specs.EdgeOpening.{WritesEndsOpened, ends_moved, opened_keys}
use Rattle.change_parts.specs.declared.change_fault.ChangeFault.{ChangeFault}
use Rattle.edge_changes.proofs.EndLaws.{at_source, at_target}
use Rattle.edge_changes.proofs.JoinWrites.{joined_written}
use Rattle.store_rules.proofs.WriteLaws.{among_both, among_left, among_right, more_written, then_written}
use Rattle.group_store.proofs.GroupWrites.{own_both}

-- ---- the ends that become dense

-- what they weigh is what they write
pub ends_weigh : (threshold from to : ℕ) (ends : Ends EndDegree) → LeadFrom ends from to
    → ends_moved threshold ends ≡ degrees_weight threshold from (source_of ends).degree to (target_of ends).degree
ends_weigh threshold from to (Loop end) lead = rw (eq_true from to (sym lead.leaves ∙ lead.enters)) (omega arith)
ends_weigh threshold from to (Two source target) lead = rw (eq_false from to (λ e. lead.apart (lead.leaves ∙ e ∙ sym lead.enters))) refl

-- ---- the heads that are opened

-- all that is written at both ends
module _ (source target : EdgeEnd) (keys : List Key) where
  abbrev all : List Key
  all = opened_keys source ++ opened_keys target ++ keys ++ meta_keys

  others : (q : Key) → IsAmong q (keys ++ meta_keys) → IsAmong q all
  others q i = among_right q (opened_keys source) (opened_keys target ++ keys ++ meta_keys) (among_right q (opened_keys target) (keys ++ meta_keys) i)

  in_source : (q : Key) (more : List Key) → (IsAmong q more → IsAmong q keys) → IsAmong q (node_key source.node ∷ source.head.key ∷ more ++ meta_keys)
      → IsAmong q all
  in_source q more are i = ⊎_elim (λ e. inl e) (λ j. ⊎_elim (λ e. inr (inl e)) (λ k. others q (among_both q more meta_keys (λ l. among_left q keys meta_keys
      (are l)) (λ l. among_right q keys meta_keys l) k)) j) i

  in_target : (q : Key) (more : List Key) → (IsAmong q more → IsAmong q keys) → IsAmong q (node_key target.node ∷ target.head.key ∷ more ++ meta_keys)
      → IsAmong q all
  in_target q more are i = ⊎_elim (λ e. inr (inr (inl e))) (λ j. ⊎_elim (λ e. inr (inr (inr (inl e))))
      (λ k. others q (among_both q more meta_keys (λ l. among_left q keys meta_keys (are l)) (λ l. among_right q keys meta_keys l) k)) j) i

-- a loop's
pub loop_wrote : {n m : ℕ} (s t : State) (source : EdgeEnd) → n ≤ m → WritesOpened s t source.node source.head.key n → WritesEndsOpened s t (Loop source) m
loop_wrote s t source le w = record {
  keys = w.keys;
  few = let f = w.few in omega arith;
  own = w.own;
  only = writes_more s t _ _
      (λ q i. in_source source source w.keys q w.keys (λ l. l) i) w.only;
}

-- both, one after the other
pub both_wrote : {n m k : ℕ} (s t u : State) (source target : EdgeEnd) → n + m ≤ k → WritesOpened s t source.node source.head.key n
    → WritesOpened t u target.node target.head.key m
    → WritesEndsOpened s u (Two source target) k
both_wrote s t u source target le v w = record {
  keys = v.keys ++ w.keys;
  few = let a = v.few in let b = w.few in omega (arith, length-append v.keys w.keys);
  own = own_both v.keys w.keys v.own w.own;
  only = writes_more s u (first ++ second) (all source target (v.keys ++ w.keys))
      (λ q i. among_both q first second
      (λ j. in_source source target (v.keys ++ w.keys) q v.keys (λ l. among_left q v.keys w.keys l) j)
      (λ j. in_target source target (v.keys ++ w.keys) q w.keys (λ l. among_right q v.keys w.keys l) j) i)
      (writes_then s t u first second v.only w.only);
}
  where
    first : List Key
    first = node_key source.node ∷ source.head.key ∷ v.keys ++ meta_keys

    second : List Key
    second = node_key target.node ∷ target.head.key ∷ w.keys ++ meta_keys

-- ---- and the relationship that joins the chains then

module _ (s t u : State) (rel : ℕ) (ends : Ends EdgeEnd) (count : ℕ) (are : AtEach IsEdgeEnd ends) (opened : WritesEndsOpened s t ends count)
    (joins : WritesJoined t u rel ends) where
  abbrev chains : List Key
  chains = joined_keys joins.first_source (source_of ends) ++ joined_keys joins.first_target (target_of ends)

  abbrev E : List Key
  E = chains ++ opened.keys

  in_chains : (q : Key) → IsAmong q chains → IsAmong q (rel_key rel ∷ E ++ meta_keys)
  in_chains q i = inr (among_left q E meta_keys (among_left q chains opened.keys i))

  in_opened : (q : Key) → IsAmong q (opened.keys ++ meta_keys) → IsAmong q (rel_key rel ∷ E ++ meta_keys)
  in_opened q i = inr (among_both q opened.keys meta_keys (λ j. among_left q E meta_keys (among_right q chains opened.keys j))
      (λ j. among_right q E meta_keys j) i)

  before : (q : Key) → IsAmong q (opened_keys (source_of ends) ++ opened_keys (target_of ends) ++ opened.keys ++ meta_keys)
      → IsAmong q (rel_key rel ∷ E ++ meta_keys)
  before q (inl e) = in_chains q (inr (inr (inl e)))
  before q (inr (inl e)) = in_chains q (inr (inl e))
  before q (inr (inr (inl e))) = in_chains q (inr (inr (inr (inr (inr (inl e))))))
  before q (inr (inr (inr (inl e)))) = in_chains q (inr (inr (inr (inr (inl e)))))
  before q (inr (inr (inr (inr i)))) = in_opened q i

  after : (q : Key) → IsAmong q (rel_key rel ∷ chains ++ meta_keys) → IsAmong q (rel_key rel ∷ E ++ meta_keys)
  after q i = ⊎_elim (λ e. inl e) (λ j. among_both q chains meta_keys (in_chains q) (λ k. in_opened q (among_right q opened.keys meta_keys k)) j) i

  pub put_beside : WritesBeside (rel_key rel) (6 + count) s u
  put_beside = record {
    keys = E;
    few = let f = opened.few in omega (arith, length-append chains opened.keys);
    own = own_both chains opened.keys (refl, ((at_source IsEdgeEnd ends are).own, (refl, (refl, ((at_target IsEdgeEnd ends are).own, (refl, tt)))))) opened.own;
    only = writes_more s u (before_keys ++ (rel_key rel ∷ chains ++ meta_keys)) (rel_key rel ∷ E ++ meta_keys)
        (λ q i. among_both q before_keys (rel_key rel ∷ chains ++ meta_keys) (before q) (after q) i)
        (writes_then s t u before_keys (rel_key rel ∷ chains ++ meta_keys) opened.only joins.only);
  }
    where
      before_keys : List Key
      before_keys = opened_keys (source_of ends) ++ opened_keys (target_of ends) ++ opened.keys ++ meta_keys

-- what is written where it joins none
pub put_failed : {n : ℕ} (s t u : State) (ends : Ends EdgeEnd) → AtEach IsEdgeEnd ends → WritesAtMost n s t → (result : Result ℕ ChangeFault)
    → OnErr result ((id : ℕ) × WritesJoined t u id ends) → OnErr result (WritesAtMost (n + 7) s u)
put_failed s t u ends are few (Ok id) failed = tt
put_failed s t u ends are few (Err fault) failed = then_written few (joined_written t u failed.0 ends are failed.1)

pub err_more : (n m : ℕ) (s t : State) → n ≤ m → (result : Result ℕ ChangeFault) → OnErr result (WritesAtMost n s t) → OnErr result (WritesAtMost m s t)
err_more n m s t le (Ok id) w = tt
err_more n m s t le (Err fault) w = more_written le w

-- no store has a greater threshold
pub most_threshold : (shape : Shape) → is_allowed shape ≡ true → shape.threshold ≤ 200
most_threshold shape allowed = grind (arith, nat_tests)
