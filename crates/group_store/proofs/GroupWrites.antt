-- Which records a group's making writes, counted.
use Rattle.std.proofs.Common.{◌≡◌, ℕ, ◌+◌, ◌≤◌, true, List, [], ◌∷◌, ◌++◌, subst, inl, inr, ⊎_elim, arith, refl}
use Rattle.rec_bytes.specs.declared.key.Key.{Key}
use Rattle.rec_bytes.specs.Format as format
use Rattle.rec_bytes.specs.RecordFiles.{meta_key_of}
use Rattle.rec_bytes.specs.Space.{SameButReads, State, WritesOnly}
use Rattle.rec_bytes.proofs.Spaces.{writes_more}
use Rattle.store_rules.specs.Writes.{AreOwn, WritesBeside, meta_keys}
use Rattle.store_rules.proofs.WriteLaws.{among_both, among_left, among_metas, among_right, these_written}
use Rattle.std.proofs.lemmas.List.{length-append}
use Rattle.node_store.specs.NodeRecord.{node_key}
use Rattle.group_store.specs.GroupRecord.{group_key}
use Rattle.group_store.specs.Opening.{WritesOpened}

pub made_writes : (s t : State) (node first id : ℕ) → WritesOnly s t (group_key first ∷ group_key id ∷ node_key node ∷ meta_key_of format.groups_file ∷ [])
    → WritesBeside (node_key node) 2 s t
made_writes s t node first id = these_written (node_key node) s t (group_key first ∷ group_key id ∷ [])
    (group_key first ∷ group_key id ∷ node_key node ∷ meta_key_of format.groups_file ∷ []) (refl, (refl, tt))
    (λ q i. ⊎_elim (λ e. inr (inl e)) (λ j. ⊎_elim (λ e. inr (inr (inl e))) (λ k. ⊎_elim (λ e. inl e)
    (λ l. ⊎_elim (λ e. inr (inr (inr (among_metas format.groups_file q refl e)))) (λ e. absurd e) l) k) j) i)

-- a group that is found or made, by its own record
pub opened_writes : (s t : State) (node first id : ℕ) → WritesOnly s t (group_key id ∷ group_key first ∷ node_key node ∷ meta_key_of format.groups_file ∷ [])
    → WritesOpened s t node (group_key id) 1
opened_writes s t node first id w = record {
  keys = group_key first ∷ [];
  few = omega arith;
  own = (refl, tt);
  only = writes_more s t (group_key id ∷ group_key first ∷ node_key node ∷ meta_key_of format.groups_file ∷ [])
      (node_key node ∷ group_key id ∷ group_key first ∷ meta_keys)
      (λ q i. ⊎_elim (λ e. inr (inl e)) (λ j. ⊎_elim (λ e. inr (inr (inl e))) (λ k. ⊎_elim (λ e. inl e)
      (λ l. ⊎_elim (λ e. inr (inr (inr (among_metas format.groups_file q refl e)))) (λ e. absurd e) l) k) j) i) w;
}

-- a group that is found or made, and then counted
pub found_writes : (s m t : State) (id first node : ℕ) → WritesOnly s m (group_key id ∷ group_key first ∷ node_key node ∷ meta_key_of format.groups_file ∷ [])
    → WritesOnly m t (group_key id ∷ [])
    → WritesOnly s t (group_key id ∷ group_key first ∷ node_key node ∷ meta_key_of format.groups_file ∷ [])
found_writes s m t id first node w v = record { each = λ q k. ⊎_elim (λ old. w.each q old) (λ i. inr (⊎_elim (λ e. inl e) (λ e. absurd e) i)) (v.each q k) }

-- the same, by the order of a group that is made
pub raised_writes : (s m t : State) (id first node : ℕ) → WritesOnly s m (group_key id ∷ group_key first ∷ node_key node ∷ meta_key_of format.groups_file ∷ [])
    → WritesOnly m t (group_key id ∷ [])
    → WritesOnly s t (group_key first ∷ group_key id ∷ node_key node ∷ meta_key_of format.groups_file ∷ [])
raised_writes s m t id first node w v = record {
  each = λ q k. ⊎_elim (λ old. inl old) (λ i. inr (⊎_elim (λ e. inr (inl e)) (λ j. ⊎_elim (λ e. inl e) (λ l. inr (inr l)) j) i))
      ((found_writes s m t id first node w v).each q k);
}

-- ---- after other records were written

pub own_both : (xs ys : List Key) → AreOwn xs → AreOwn ys → AreOwn (xs ++ ys)
own_both [] ys a b = b
own_both (x ∷ xs) ys a b = (a.0, own_both xs ys a.1 b)

-- the node's record and so many others, and then the head's
pub opened_then : {n m : ℕ} (s t u : State) (node : ℕ) (head : Key) → WritesBeside (node_key node) n s t → WritesOpened t u node head m
    → WritesOpened s u node head (n + m)
opened_then s t u node head h k = record {
  keys = h.keys ++ k.keys;
  few = let a = h.few in let b = k.few in omega (arith, length-append h.keys k.keys);
  own = own_both h.keys k.keys h.own k.own;
  only = record {
    each = λ q w. ⊎_elim
        (λ old. ⊎_elim (λ older. inl older)
        (λ i. inr (⊎_elim (λ e. inl e) (λ l. inr (inr (among_both q h.keys meta_keys (λ j. among_left q (h.keys ++ k.keys) meta_keys
        (among_left q h.keys k.keys j)) (among_right q (h.keys ++ k.keys) meta_keys) l))) i)) (h.only.each q old))
        (λ i. inr (⊎_elim (λ e. inl e) (λ l. inr (⊎_elim (λ e. inl e) (λ p. inr (among_both q k.keys meta_keys (λ j. among_left q (h.keys ++ k.keys) meta_keys
        (among_right q h.keys k.keys j)) (among_right q (h.keys ++ k.keys) meta_keys) p)) l)) i)) (k.only.each q w);
  };
}

pub opened_more : {n m : ℕ} {s t : State} {node : ℕ} {head : Key} → n ≤ m → WritesOpened s t node head n → WritesOpened s t node head m
opened_more le h = record { keys = h.keys; few = let f = h.few in omega arith; own = h.own; only = h.only }

-- nothing was written
pub opened_none : (s t : State) (node : ℕ) (head : Key) → SameButReads s t → WritesOpened s t node head 0
opened_none s t node head same = record {
  keys = [];
  few = omega arith;
  own = tt;
  only = record {
    each = λ q w. inl (subst (λ (z : State). z.written q ≡ true)
        same w);
  };
}
