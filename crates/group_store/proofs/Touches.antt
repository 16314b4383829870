-- Which records changes of a node's groups touch, one after another.
use Rattle.std.proofs.Common.{◌≡◌, ℕ, ◌+◌, ◌≤◌, true, List, [], ◌∷◌, ◌++◌, map, subst, inl, inr, ⊎_elim, arith, refl}
use Rattle.std.proofs.lemmas.List.{length-append, length-map}
use Rattle.rec_bytes.specs.declared.key.Key.{Key}
use Rattle.rec_bytes.specs.Format as format
use Rattle.rec_bytes.specs.RecordFiles.{is_meta_file, meta_key_of}
use Rattle.rec_bytes.specs.Space.{IsAmong, SameButReads, State, WritesOnly}
use Rattle.rel_store.specs.RelRecord.{rel_key}
use Rattle.store_rules.specs.Writes.{AreOwn, WritesBeside, meta_keys}
use Rattle.store_rules.proofs.WriteLaws.{among_both, among_left, among_metas, among_right}
use Rattle.node_store.specs.NodeRecord.{node_key}
use Rattle.group_store.specs.GroupRecord.{group_key}
use Rattle.group_store.specs.Touching.{TouchesGroups}
use Rattle.group_store.proofs.GroupWrites.{own_both}

own_map : (key : ℕ → Key) → ((x : ℕ) → is_meta_file (key x).file ≡ true) → (xs : List ℕ) → AreOwn (map key xs)
own_map key own [] = tt
own_map key own (x ∷ xs) = (own x, own_map key own xs)

-- as many as these, besides the node's
pub touches_beside : (s t : State) (node a b most : ℕ) → a + b ≤ most → TouchesGroups s t node a b → WritesBeside (node_key node) most s t
touches_beside s t node a b most le h = record {
  keys = map rel_key h.rels ++ map group_key h.groups;
  few = let c = length-map h.rels rel_key in let d = length-map h.groups group_key in let e = h.few_rels in let f = h.few_groups in
      omega (arith, length-append (map rel_key h.rels) (map group_key h.groups));
  own = own_both (map rel_key h.rels) (map group_key h.groups) (own_map rel_key (λ x. refl) h.rels) (own_map group_key (λ x. refl) h.groups);
  only = record {
    each = λ q w. ⊎_elim inl (λ i. inr (⊎_elim inl (λ j. inr (⊎_elim
        (λ e. among_right q (map rel_key h.rels ++ map group_key h.groups) meta_keys (among_metas format.groups_file q refl e))
        (λ k. among_left q (map rel_key h.rels ++ map group_key h.groups) meta_keys k) j)) i)) (h.only.each q w);
  };
}

pub touches_none : (s t : State) (node a b : ℕ) → SameButReads s t → TouchesGroups s t node a b
touches_none s t node a b same = record {
  rels = [];
  groups = [];
  few_rels = omega arith;
  few_groups = omega arith;
  only = record { each = λ q w. inl (subst (λ (z : State). z.written q ≡ true) same w) };
}

pub touches_more : (s t : State) (node a b c d : ℕ) → a ≤ c → b ≤ d → TouchesGroups s t node a b → TouchesGroups s t node c d
touches_more s t node a b c d le few h = record {
  rels = h.rels;
  groups = h.groups;
  few_rels = let e = h.few_rels in omega arith;
  few_groups = let e =
      h.few_groups in omega arith;
  only = h.only;
}

-- a longer list has what a shorter one had
map_left : (key : ℕ → Key) (q : Key) (xs ys : List ℕ) → IsAmong q (map key xs) → IsAmong q (map key (xs ++ ys))
map_left key q [] ys i = absurd i
map_left key q (x ∷ xs) ys i = ⊎_elim inl (λ j. inr (map_left key q xs ys j)) i

map_right : (key : ℕ → Key) (q : Key) (xs ys : List ℕ) → IsAmong q (map key ys) → IsAmong q (map key (xs ++ ys))
map_right key q [] ys i = i
map_right key q (x ∷ xs) ys i = inr (map_right key q xs ys i)

pub touches_then : (s m t : State) (node a b c d : ℕ) → TouchesGroups s m node a b → TouchesGroups m t node c d → TouchesGroups s t node (a + c) (b + d)
touches_then s m t node a b c d h k = record {
  rels = h.rels ++ k.rels;
  groups = h.groups ++ k.groups;
  few_rels = let e = h.few_rels in let f = k.few_rels in omega (arith, length-append h.rels k.rels);
  few_groups = let e = h.few_groups in let f = k.few_groups in omega (arith, length-append h.groups k.groups);
  only = record {
    each = λ q w. ⊎_elim
        (λ old. ⊎_elim inl (λ i. inr (⊎_elim inl (λ j. inr (⊎_elim inl (λ l. inr (among_both q (map rel_key h.rels) (map group_key h.groups)
        (λ x. among_left q (map rel_key (h.rels ++ k.rels)) (map group_key (h.groups ++ k.groups)) (map_left rel_key q h.rels k.rels x))
        (λ x. among_right q (map rel_key (h.rels ++ k.rels)) (map group_key (h.groups ++ k.groups)) (map_left group_key q h.groups k.groups x))
        l)) j)) i)) (h.only.each q old))
        (λ i. inr (⊎_elim inl (λ j. inr (⊎_elim inl (λ l. inr (among_both q (map rel_key k.rels) (map group_key k.groups)
        (λ x. among_left q (map rel_key (h.rels ++ k.rels)) (map group_key (h.groups ++ k.groups)) (map_right rel_key q h.rels k.rels x))
        (λ x. among_right q (map rel_key (h.rels ++ k.rels)) (map group_key (h.groups ++ k.groups)) (map_right group_key q h.groups k.groups x))
        l)) j)) i)) (k.only.each q w);
  };
}

-- a relationship, the one that follows it, a group and the group that follows it
pub four_touched : (s t : State) (node r k g f : ℕ) → WritesOnly s t (rel_key r ∷ rel_key k ∷ group_key g ∷ group_key f ∷ node_key node ∷ meta_key_of
    format.groups_file ∷ []) → TouchesGroups s t node 2 2
four_touched s t node r k g f w = record {
  rels = r ∷ k ∷ [];
  groups = g ∷ f ∷ [];
  few_rels = omega arith;
  few_groups = omega arith;
  only = record { each = λ q l. ⊎_elim inl (λ i. inr (among q i)) (w.each q l) };
}
  where
    among : (q : Key) → IsAmong q (rel_key r ∷ rel_key k ∷ group_key g ∷ group_key f ∷ node_key node ∷ meta_key_of format.groups_file ∷ [])
        → IsAmong q (node_key node ∷ meta_key_of format.groups_file ∷ rel_key r ∷ rel_key k ∷ group_key g ∷ group_key f ∷ [])
    among q (inl e) = inr (inr (inl e))
    among q (inr (inl e)) = inr (inr (inr (inl e)))
    among q (inr (inr (inl e))) = inr (inr (inr (inr (inl e))))
    among q (inr (inr (inr (inl e)))) = inr (inr (inr (inr (inr (inl e)))))
    among q (inr (inr (inr (inr (inl e))))) = inl e
    among q (inr (inr (inr (inr (inr (inl e)))))) = inr (inl e)
    among q (inr (inr (inr (inr (inr (inr i)))))) = elim i [ ]

-- a group that is found or made, and the group that follows it
pub made_touched : (s t : State) (node first id : ℕ) → WritesOnly s t (group_key first ∷ group_key id ∷ node_key node ∷ meta_key_of format.groups_file ∷ [])
    → TouchesGroups s t node 0 2
made_touched s t node first id w = record {
  rels = [];
  groups = first ∷ id ∷ [];
  few_rels = omega arith;
  few_groups = omega arith;
  only = record {
    each = λ q l. ⊎_elim inl (λ i. inr (⊎_elim (λ e. inr (inr (inl e))) (λ j. ⊎_elim (λ e. inr (inr (inr (inl e))))
        (λ k. ⊎_elim inl (λ m. ⊎_elim (λ e. inr (inl e)) (λ e. absurd e) m) k) j) i)) (w.each q l);
  };
}

-- the node's record alone
pub node_touched : (s l t : State) (node a b : ℕ) → SameButReads s l → WritesOnly l t (node_key node ∷ []) → TouchesGroups s t node a b
node_touched s l t node a b same w = record {
  rels = [];
  groups = [];
  few_rels = omega arith;
  few_groups = omega arith;
  only = record {
    each = λ q k. ⊎_elim (λ old. inl (subst (λ (z : State). z.written q ≡ true) same old)) (λ i. inr (⊎_elim inl (λ j. absurd j) i)) (w.each q k);
  };
}
