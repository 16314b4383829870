-- Which records are written where a relationship joins the chains of its ends.
use Rattle.std.proofs.Common.{ℕ, List, [], ◌∷◌, ◌++◌, inl, inr, ⊎_elim, arith, refl}
use Rattle.rec_bytes.specs.declared.key.Key.{Key}
use Rattle.rec_bytes.specs.Format as format
use Rattle.rec_bytes.specs.Space.{IsAmong, State, WritesOnly}
use Rattle.rec_bytes.proofs.Spaces.{writes_more, writes_then}
use Rattle.store_rules.specs.Views.{key_in}
use Rattle.store_rules.specs.Writes.{WritesAtMost, WritesBeside, meta_keys}
use Rattle.rel_store.specs.RelRecord.{rel_key}
use Rattle.edge_changes.specs.EdgeEnds.{AtEach, IsEdgeEnd, source_of, target_of}
use Rattle.edge_changes.specs.declared.edge_end.EdgeEnd.{EdgeEnd}
use Rattle.edge_changes.specs.declared.edge_end.Ends.{Ends}
use Rattle.edge_changes.specs.EdgeJoining.{WritesJoined, joined_keys}
use Rattle.edge_changes.proofs.EndLaws.{at_source, at_target}
use Rattle.store_rules.proofs.WriteLaws.{among_both, among_left, among_right, beside_written}

-- ---- at one end
abbrev JoinsEnd : State → State → ℕ → EdgeEnd → Type 0
JoinsEnd s t rel end = (first : ℕ) × WritesOnly s t (rel_key rel ∷ joined_keys first end)

abbrev PushesEnd : State → State → ℕ → EdgeEnd → Type 0
PushesEnd s t rel end = (first : ℕ) × WritesOnly s t (rel_key first ∷ rel_key rel ∷ end.head.key ∷ [])

pub head_written : (s t : State) (rel : ℕ) (end : EdgeEnd) → PushesEnd s t rel end → JoinsEnd s t rel end
head_written s t rel end w = (
  w.0,
  writes_more s t (rel_key w.0 ∷ rel_key rel ∷ end.head.key ∷ []) _
      (λ q i. ⊎_elim (λ e. inr (inl e)) (λ j. ⊎_elim (λ e. inl e) (λ k. ⊎_elim (λ e. inr (inr (inl e))) (λ e. absurd e) k) j) i) w.1,
)

pub end_written : (s t u : State) (rel : ℕ) (end : EdgeEnd) → PushesEnd s t rel end → WritesOnly t u (key_in format.nodes_file end.node ∷ [])
    → JoinsEnd s u rel end
end_written s t u rel end w node = let h = head_written s t rel end w in (
  h.0,
  writes_more s u ((rel_key rel ∷ joined_keys h.0 end) ++ (key_in format.nodes_file end.node ∷ [])) _
      (λ q i. among_both q (rel_key rel ∷ joined_keys h.0 end) (key_in format.nodes_file end.node ∷ []) (λ j. j)
      (λ j. ⊎_elim (λ e. inr (inr (inr (inl e)))) (λ e. absurd e) j) i)
      (writes_then s t u (rel_key rel ∷ joined_keys h.0 end) (key_in format.nodes_file end.node ∷ []) h.1 node),
)

-- ---- at each end
module _ (rel : ℕ) (ends : Ends EdgeEnd) where
  abbrev source : EdgeEnd
  source = source_of ends

  abbrev target : EdgeEnd
  target = target_of ends

  -- the keys of all
  abbrev all : ℕ → ℕ → List Key
  all first second = rel_key rel ∷ joined_keys first source ++ joined_keys second target ++ meta_keys

  in_source : (first second : ℕ) (q : Key) → IsAmong q (rel_key rel ∷ joined_keys first source) → IsAmong q (all first second)
  in_source first second q i = ⊎_elim (λ e. inl e) (λ j. inr (among_left q (joined_keys first source) (joined_keys second target ++ meta_keys) j)) i

  in_target : (first second : ℕ) (q : Key) → IsAmong q (rel_key rel ∷ joined_keys second target) → IsAmong q (all first second)
  in_target first second q i = ⊎_elim (λ e. inl e) (λ j. inr (among_right q (joined_keys first source) (joined_keys second target ++ meta_keys)
      (among_left q (joined_keys second target) meta_keys j))) i

  in_metas : (first second : ℕ) (q : Key) → IsAmong q (rel_key rel ∷ meta_keys) → IsAmong q (all first second)
  in_metas first second q i = ⊎_elim (λ e. inl e) (λ j. inr (among_right q (joined_keys first source) (joined_keys second target ++ meta_keys)
      (among_right q (joined_keys second target) meta_keys j))) i

  pub source_written : (s t : State) → JoinsEnd s t rel source → WritesJoined s t rel ends
  source_written s t w = record { first_source = w.0; first_target = rel; only = writes_more s t _ (all w.0 rel) (in_source w.0 rel) w.1 }

  pub both_written : (s t u : State) → JoinsEnd s t rel source → JoinsEnd t u rel target → WritesJoined s u rel ends
  both_written s t u w v = record {
    first_source = w.0;
    first_target = v.0;
    only = writes_more s u ((rel_key rel ∷ joined_keys w.0 source) ++ (rel_key rel ∷ joined_keys v.0 target)) (all w.0 v.0)
        (λ q i. among_both q (rel_key rel ∷ joined_keys w.0 source) (rel_key rel ∷ joined_keys v.0 target) (in_source w.0 v.0 q) (in_target w.0 v.0 q) i)
        (writes_then s t u _ _ w.1 v.1);
  }

  -- ---- after the record was placed
  pub placed_written : (s t : State) → WritesOnly s t (rel_key rel ∷ meta_keys) → WritesJoined s t rel ends
  placed_written s t w = record { first_source = rel; first_target = rel; only = writes_more s t _ (all rel rel) (in_metas rel rel) w }

  pub placed_joined : (s t u : State) → WritesOnly s t (rel_key rel ∷ meta_keys) → WritesJoined t u rel ends → WritesJoined s u rel ends
  placed_joined s t u w v = record {
    first_source = v.first_source;
    first_target = v.first_target;
    only = writes_more s u ((rel_key rel ∷ meta_keys) ++ all v.first_source v.first_target) (all v.first_source v.first_target)
        (λ q i. among_both q (rel_key rel ∷ meta_keys) (all v.first_source v.first_target) (in_metas v.first_source v.first_target q) (λ j. j) i)
        (writes_then s t u _ _ w v.only);
  }

-- ---- how many they are

-- the heads are in files of records, and six are written besides the relationship's
pub joined_written : (s t : State) (rel : ℕ) (ends : Ends EdgeEnd) → AtEach IsEdgeEnd ends → WritesJoined s t rel ends → WritesAtMost 7 s t
joined_written s t rel ends are w = beside_written refl six
  where
    six : WritesBeside (rel_key rel) 6 s t
    six = record {
      keys = joined_keys w.first_source (source_of ends) ++ joined_keys w.first_target (target_of ends);
      few = omega arith;
      own = (refl, ((at_source IsEdgeEnd ends are).own, (refl, (refl, ((at_target IsEdgeEnd ends are).own, (refl, tt))))));
      only = w.only;
    }
