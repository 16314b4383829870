-- Which records are written at the ends of a relationship.
use Rattle.std.proofs.Common.{◌≡◌, ◌≤◌, ℕ, true, List, [], ◌∷◌, ◌++◌, length, sym, ap, subst, inl, inr, ⊎_elim, arith, refl}
use Rattle.rec_bytes.specs.Format as format
use Rattle.rec_bytes.specs.RecordFiles.{is_meta_file, meta_key_of}
use Rattle.rec_bytes.specs.declared.key.Key.{Key}
use Rattle.rec_bytes.specs.Space.{IsAmong, SameButReads, State, WritesOnly}
use Rattle.rec_bytes.proofs.Spaces.{writes_more, writes_none, writes_then}
use Rattle.rel_store.specs.RelRecord.{rel_key}
use Rattle.node_store.specs.NodeRecord.{node_key}
use Rattle.store_rules.specs.Views.{key_in}
use Rattle.store_rules.specs.Writes.{AreOwn, WritesBeside, meta_keys}
use Rattle.store_rules.proofs.WriteLaws.{among_both, among_left, among_metas, among_right, beside_more, these_written}
use Rattle.store_rules.proofs.ChainSteps.{on_test}
use Rattle.group_store.specs.Dropping.{lead_key}
use Rattle.group_store.specs.GroupRecord.{group_key}
use Rattle.edge_changes.specs.EdgeDeleting.{WritesEnds, WritesTaken}
use Rattle.edge_changes.specs.EdgeEnds.{AtEach, IsEdgeEnd, end_keys, source_of, target_of}
use Rattle.edge_changes.specs.declared.edge_end.EdgeEnd.{EdgeEnd}
use Rattle.edge_changes.specs.declared.edge_end.Ends.{Ends}
use Rattle.edge_changes.proofs.EndLaws.{at_source, at_target}

abbrev WritesEnd : State → State → ℕ → EdgeEnd → Type 0
WritesEnd old new rel end = (before after : ℕ) × WritesOnly old new (rel_key rel ∷ end_keys before after end)

-- a relationship is taken out of a chain, and then the degree is written
pub end_parted : (s t u : State) (rel : ℕ) (end : EdgeEnd)
    → ((before after : ℕ) × WritesOnly s t (rel_key before ∷ rel_key rel ∷ rel_key after ∷ end.head.key ∷ []))
    → WritesOnly t u (key_in format.nodes_file end.node ∷ []) → WritesEnd s u rel end
end_parted s t u rel end w v = (
  w.0,
  w.1,
  writes_more s u
      (rel_key w.0 ∷ rel_key rel ∷ rel_key w.1 ∷ end.head.key ∷ key_in format.nodes_file end.node ∷ []) _
      (λ q i. ⊎_elim (λ e. inr (inl e)) (λ j. ⊎_elim (λ e. inl e) (λ k. inr (inr k)) j) i)
      (writes_then s t u _ _ w.2 v),
)

module _ (s t : State) (rel : ℕ) (ends : Ends EdgeEnd) where
  abbrev leaves : EdgeEnd
  leaves = source_of ends

  abbrev enters : EdgeEnd
  enters = target_of ends

  -- at one end
  pub end_written : WritesEnd s t rel leaves → WritesEnds s t rel ends
  end_written w = record {
    before_source = w.0;
    after_source = w.1;
    before_target = rel;
    after_target = rel;
    only = writes_more s t (rel_key rel ∷ end_keys w.0 w.1 leaves) _
        (λ q i. ⊎_elim (λ e. inl e) (λ j. inr (among_left q (end_keys w.0 w.1 leaves) (end_keys rel rel enters ++ meta_keys) j)) i) w.2;
  }

  -- at both, one after the other
  pub ends_written : (u : State) → WritesEnd s t rel leaves → WritesEnd t u rel enters → WritesEnds s u rel ends
  ends_written u w v = record {
    before_source = w.0;
    after_source = w.1;
    before_target = v.0;
    after_target = v.1;
    only = writes_more s u ((rel_key rel ∷ end_keys w.0 w.1 leaves) ++ (rel_key rel ∷ end_keys v.0 v.1 enters)) _
        (λ q i. among_both q (rel_key rel ∷ end_keys w.0 w.1 leaves) (rel_key rel ∷ end_keys v.0 v.1 enters)
        (λ j. ⊎_elim (λ e. inl e) (λ m. inr (among_left q (end_keys w.0 w.1 leaves) (end_keys v.0 v.1 enters ++ meta_keys) m)) j)
        (λ j. ⊎_elim (λ e. inl e) (λ m. inr (among_right q (end_keys w.0 w.1 leaves) (end_keys v.0 v.1 enters ++ meta_keys)
        (among_left q (end_keys v.0 v.1 enters) meta_keys m))) j) i)
        (writes_then s t u _ _ w.2 v.2);
  }

  -- and the identifier is given back then
  pub ends_given : (u : State) → WritesEnds s t rel ends → WritesOnly t u (rel_key rel ∷ meta_key_of format.relationships_file ∷ []) → WritesEnds s u rel ends
  ends_given u w given = record {
    before_source = w.before_source;
    after_source = w.after_source;
    before_target = w.before_target;
    after_target = w.after_target;
    only = writes_more s u (all ++ (rel_key rel ∷ meta_key_of format.relationships_file ∷ [])) all
        (λ q i. among_both q all (rel_key rel ∷ meta_key_of format.relationships_file ∷ []) (λ j. j)
        (λ j. ⊎_elim (λ e. inl e) (λ m. ⊎_elim (λ e. inr (among_right q (end_keys w.before_source w.after_source leaves)
        (end_keys w.before_target w.after_target enters ++ meta_keys)
        (among_right q (end_keys w.before_target w.after_target enters) meta_keys (among_metas format.relationships_file q refl e)))) (λ e. absurd e) m) j) i)
        (writes_then s t u _ _ w.only given);
  }
    where
      all : List Key
      all = rel_key rel ∷ end_keys w.before_source w.after_source leaves ++ end_keys w.before_target w.after_target enters ++ meta_keys

-- ---- counted, besides the relationship

-- the ends' records, and the neighbours of the groups that are dropped after
abbrev ends_keys : ℕ → ℕ → ℕ → ℕ → EdgeEnd → EdgeEnd → List Key
ends_keys a b c d source target = end_keys a b source ++ end_keys c d target

own_lead : (node before : ℕ) → is_meta_file (lead_key node before).file ≡ true
own_lead node before = on_test (λ (k : Key). is_meta_file k.file ≡ true) before format.nil (node_key node) (group_key before) (λ _. refl) (λ _. refl)

-- the chain of an end is closed
abbrev WritesClosed : State → State → EdgeEnd → Type 0
WritesClosed old new end = (before after : ℕ) × WritesOnly old new (group_key after ∷ lead_key end.node before ∷ end.head.key ∷ meta_key_of format.groups_file ∷
    [])

-- the group's key is there already
close_in : (q : Key) (end : EdgeEnd) (a b : ℕ) (keys : List Key) → IsAmong end.head.key keys → IsAmong (group_key a) keys → IsAmong (lead_key end.node b) keys
    → IsAmong q (group_key a ∷ lead_key end.node b ∷ end.head.key ∷ meta_key_of format.groups_file ∷ []) → IsAmong q (keys ++ meta_keys)
close_in q end a b keys head after before (inl e) = among_left q keys meta_keys (subst (λ z. IsAmong z keys) (sym e) after)
close_in q end a b keys head after before (inr (inl e)) = among_left q keys meta_keys (subst (λ z. IsAmong z keys) (sym e) before)
close_in q end a b keys head after before (inr (inr (inl e))) = among_left q keys meta_keys (subst (λ z. IsAmong z keys) (sym e) head)
close_in q end a b keys head after before (inr (inr (inr (inl e)))) = among_right q keys meta_keys (among_metas format.groups_file q refl e)
close_in q end a b keys head after before (inr (inr (inr (inr i)))) = absurd i

module _ (s t : State) (rel : ℕ) (ends : Ends EdgeEnd) (w : WritesEnds s t rel ends) where
  abbrev source : EdgeEnd
  source = source_of ends

  abbrev target : EdgeEnd
  target = target_of ends

  abbrev E : List Key
  E = ends_keys w.before_source w.after_source w.before_target w.after_target source target

  ends_in : (q : Key) (more : List Key) → IsAmong q (rel_key rel ∷ E ++ meta_keys) → IsAmong q (rel_key rel ∷ (E ++ more) ++ meta_keys)
  ends_in q more i = ⊎_elim (λ e. inl e) (λ j. inr (among_both q E meta_keys (λ m. among_left q (E ++ more) meta_keys (among_left q E more m))
      (λ m. among_right q (E ++ more) meta_keys m) j)) i

  -- those besides the heads'
  abbrev R : List Key
  R = rel_key w.before_source ∷ rel_key w.after_source ∷ key_in format.nodes_file source.node
      ∷ rel_key w.before_target ∷ rel_key w.after_target ∷ key_in format.nodes_file target.node ∷ []

  apart : (q : Key) (more : List Key) → IsAmong q (rel_key rel ∷ (E ++ more) ++ meta_keys)
      → IsAmong q (rel_key rel ∷ source.head.key ∷ target.head.key ∷ (R ++ more) ++ meta_keys)
  apart q more (inl e) = inl e
  apart q more (inr (inl e)) = inr (inr (inr (inl e)))
  apart q more (inr (inr (inl e))) = inr (inr (inr (inr (inl e))))
  apart q more (inr (inr (inr (inl e)))) = inr (inl e)
  apart q more (inr (inr (inr (inr (inl e))))) = inr (inr (inr (inr (inr (inl e)))))
  apart q more (inr (inr (inr (inr (inr (inl e)))))) = inr (inr (inr (inr (inr (inr (inl e))))))
  apart q more (inr (inr (inr (inr (inr (inr (inl e))))))) = inr (inr (inr (inr (inr (inr (inr (inl e)))))))
  apart q more (inr (inr (inr (inr (inr (inr (inr (inl e)))))))) = inr (inr (inl e))
  apart q more (inr (inr (inr (inr (inr (inr (inr (inr (inl e))))))))) = inr (inr (inr (inr (inr (inr (inr (inr (inl e))))))))
  apart q more (inr (inr (inr (inr (inr (inr (inr (inr (inr i))))))))) = inr (inr (inr (inr (inr (inr (inr (inr (inr i))))))))

  these_taken : (v : State) (more : List Key) → length more ≤ 4 → AreOwn more → WritesOnly s v (rel_key rel ∷ (E ++ more) ++ meta_keys)
      → WritesTaken s v rel ends
  these_taken v more few own only = record {
    keys = R ++ more;
    few = omega arith;
    own = (refl, (refl, (refl, (refl, (refl, (refl, own))))));
    only = writes_more s v (rel_key rel ∷ (E ++ more) ++ meta_keys) _ (λ q i. apart q more i) only;
  }

  pub ends_taken : WritesTaken s t rel ends
  ends_taken = these_taken t [] (omega arith) tt w.only

  module _ (v : State) (first : WritesClosed t v source) where
    abbrev C : List Key
    C = group_key first.1 ∷ lead_key source.node first.0 ∷ []

    source_only : WritesOnly s v (rel_key rel ∷ (E ++ C) ++ meta_keys)
    source_only = writes_more s v ((rel_key rel ∷ E ++ meta_keys) ++ (group_key first.1 ∷ lead_key source.node first.0 ∷ source.head.key ∷ meta_key_of
        format.groups_file ∷ [])) _
        (λ q i. among_both q (rel_key rel ∷ E ++ meta_keys) (group_key first.1 ∷ lead_key source.node first.0 ∷ source.head.key ∷ meta_key_of format.groups_file
        ∷ []) (λ m. ends_in q C m)
        (λ m. inr (close_in q source first.1 first.0 (E ++ C) (inr (inr (inl refl))) (among_right (group_key first.1) E C (inl refl))
        (among_right (lead_key source.node first.0) E C (inr (inl refl))) m)) i)
        (writes_then s t v _ _ w.only first.2)

    pub source_taken : WritesTaken s v rel ends
    source_taken = these_taken v C (omega arith) (refl, (own_lead source.node first.0, tt)) source_only

    module _ (x : State) (last : WritesClosed v x target) where
      abbrev D : List Key
      D = group_key last.1 ∷ lead_key target.node last.0 ∷ []

      target_only : WritesOnly s x (rel_key rel ∷ ((E ++ C) ++ D) ++ meta_keys)
      target_only = writes_more s x ((rel_key rel ∷ (E ++ C) ++ meta_keys) ++ (group_key last.1 ∷ lead_key target.node last.0 ∷ target.head.key ∷ meta_key_of
          format.groups_file ∷ [])) _
          (λ q i. among_both q (rel_key rel ∷ (E ++ C) ++ meta_keys) (group_key last.1 ∷ lead_key target.node last.0 ∷ target.head.key ∷ meta_key_of
          format.groups_file ∷ [])
          (λ m. ⊎_elim (λ e. inl e) (λ j. inr (among_both q (E ++ C) meta_keys (λ k. among_left q ((E ++ C) ++ D) meta_keys (among_left q (E ++ C) D k))
          (λ k. among_right q ((E ++ C) ++ D) meta_keys k) j)) m)
          (λ m. inr (close_in q target last.1 last.0 ((E ++ C) ++ D) (inr (inr (inr (inr (inr (inr (inl refl))))))) (among_right (group_key last.1) (E ++ C) D
          (inl refl)) (among_right (lead_key target.node last.0) (E ++ C) D (inr (inl refl))) m)) i)
          (writes_then s v x _ _ source_only last.2)

      pub target_taken : WritesTaken s x rel ends
      target_taken = these_taken x (C ++ D) (omega arith) (refl, (own_lead source.node first.0, (refl, (own_lead target.node last.0, tt)))) target_only

-- ---- with the groups of the heads, which were counted before

pub taken_after : (s t u : State) (rel : ℕ) (ends : Ends EdgeEnd) → WritesOnly s t ((source_of ends).head.key ∷ (target_of ends).head.key ∷ [])
    → WritesTaken t u rel ends → WritesTaken s u rel ends
taken_after s t u rel ends counted taken =
    let heads = (source_of ends).head.key ∷ (target_of ends).head.key ∷ [] in
    let all = rel_key rel ∷ (source_of ends).head.key ∷ (target_of ends).head.key ∷ taken.keys ++ meta_keys in
    record {
      keys = taken.keys;
      few = taken.few;
      own = taken.own;
      only = writes_more s u (heads ++ all) all (λ q i. ⊎_elim (λ e. inr (inl e)) (λ j. ⊎_elim (λ e. inr (inr (inl e))) (λ k. k) j) i)
          (writes_then s t u heads all counted taken.only);
    }

pub taken_beside : (s u : State) (rel : ℕ) (ends : Ends EdgeEnd) → AtEach IsEdgeEnd ends → WritesTaken s u rel ends → WritesBeside (rel_key rel) 12 s u
taken_beside s u rel ends are taken = record {
  keys = (source_of ends).head.key ∷ (target_of ends).head.key ∷ taken.keys;
  few = let few = taken.few in omega arith;
  own = ((at_source IsEdgeEnd ends are).own, ((at_target IsEdgeEnd ends are).own, taken.own));
  only = taken.only;
}

pub groups_beside : (s t : State) (rel g k : ℕ) → WritesOnly s t (group_key g ∷ group_key k ∷ []) → WritesBeside (rel_key rel) 12 s t
groups_beside s t rel g k only = beside_more (omega arith) (these_written (rel_key rel) s t (group_key g ∷ group_key k ∷ []) (group_key g ∷ group_key k ∷ [])
    (refl, (refl, tt))
    (λ q i. ⊎_elim (λ e. inr (inl e)) (λ j. ⊎_elim (λ e. inr (inr (inl e))) (λ z. absurd z) j) i) only)

-- one record twice
pub one_head : (s t : State) (key : Key) → WritesOnly s t (key ∷ []) → WritesOnly s t (key ∷ key ∷ [])
one_head s t key only = writes_more s t (key ∷ []) (key ∷ key ∷ []) (λ q i. ⊎_elim (λ e. inl e) (λ z. absurd z) i) only

pub one_group : (s t : State) (g : ℕ) → WritesOnly s t (group_key g ∷ []) → WritesOnly s t (group_key g ∷ group_key g ∷ [])
one_group s t g only = one_head s t (group_key g) only

-- what is written after a read
pub read_then : (s m t : State) (keys : List Key) → SameButReads s m → WritesOnly m t keys → WritesOnly s t keys
read_then s m t keys same only = writes_then s m t [] keys (writes_none s m [] (ap (λ (z : State). z.written) same)) only
