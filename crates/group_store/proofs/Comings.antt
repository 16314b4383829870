-- What was written after relationships of a node came into groups: these, the groups, and the node.
use Rattle.std.proofs.Common.{◌≡◌, ℕ, ◌+◌, ◌*◌, ◌≤◌, true, List, [], ◌∷◌, ◌++◌, length, map, ap, ◌∙◌, subst, sym, inl, inr, ⊎_elim, arith}
use Rattle.std.proofs.lemmas.List.{length-append}
use Rattle.rec_bytes.specs.declared.key.Key.{Key}
use Rattle.rec_bytes.specs.Format as format
use Rattle.rec_bytes.specs.RecordFiles.{meta_key_of}
use Rattle.rec_bytes.specs.Space.{IsAmong, SameButReads, State, WritesOnly}
use Rattle.rel_store.specs.RelRecord.{rel_key}
use Rattle.store_rules.specs.Chains.{In}
use Rattle.store_rules.specs.Writes.{WritesBeside}
use Rattle.store_rules.proofs.WriteLaws.{among_both, among_left, among_right}
use Rattle.node_store.specs.NodeRecord.{node_key}
use Rattle.group_store.specs.declared.moved.Turn.{Turn}
use Rattle.group_store.specs.GroupRecord.{group_key}
use Rattle.group_store.specs.Moving.{turn_keys}
use Rattle.group_store.specs.Touching.{TouchesGroups}
use Rattle.group_store.proofs.Touches.{touches_beside}
use Rattle.group_store.proofs.Spreads.{in_before, in_last}

abbrev pub own_keys : List ℕ → List ℕ → List Key
own_keys came groups = map rel_key came ++ map group_key groups

-- No other record became written but the node's, the meta record of the groups, and those of these relationships and groups.
pub record WritesCome (s t : State) (node : ℕ) (came groups : List ℕ) : Type 0 where
  pub only : WritesOnly s t (node_key node ∷ meta_key_of format.groups_file ∷ own_keys came groups)

among_map : (key : ℕ → Key) (q : Key) (x : ℕ) (xs : List ℕ) → q ≡ key x → In x xs → IsAmong q (map key xs)
among_map key q x [] e i = absurd i
among_map key q x (y ∷ ys) e i = ⊎_elim (λ k. inl (e ∙ ap key k)) (λ j. inr (among_map key q x ys e j)) i

map_more : (key : ℕ → Key) (q : Key) (x : ℕ) (xs : List ℕ) → IsAmong q (map key xs) → IsAmong q (map key (xs ++ x ∷ []))
map_more key q x [] i = absurd i
map_more key q x (y ∷ ys) i = ⊎_elim inl (λ j. inr (map_more key q x ys j)) i

module _ (node : ℕ) (came groups : List ℕ) where
  abbrev all : List Key
  all = node_key node ∷ meta_key_of format.groups_file ∷ own_keys came groups

  is_rel : (q : Key) (x : ℕ) → In x came → q ≡ rel_key x → IsAmong q all
  is_rel q x i e = inr (inr (among_left q (map rel_key came) (map group_key groups) (among_map rel_key q x came e i)))

  is_group : (q : Key) (x : ℕ) → In x groups → q ≡ group_key x → IsAmong q all
  is_group q x i e = inr (inr (among_right q (map rel_key came) (map group_key groups) (among_map group_key q x groups e i)))

  -- what a turn writes
  is_turn : (rel : ℕ) (turn : Turn) → In rel came → In turn.first came → In turn.group groups → In turn.before groups → (q : Key)
      → IsAmong q (turn_keys node rel turn) → IsAmong q all
  is_turn rel turn a b c d q (inl e) = is_rel q rel a e
  is_turn rel turn a b c d q (inr (inl e)) = is_rel q turn.first b e
  is_turn rel turn a b c d q (inr (inr (inl e))) = is_group q turn.group c e
  is_turn rel turn a b c d q (inr (inr (inr (inl e)))) = is_group q turn.before d e
  is_turn rel turn a b c d q (inr (inr (inr (inr (inl e))))) = inl e
  is_turn rel turn a b c d q (inr (inr (inr (inr (inr (inl e)))))) = inr (inl e)
  is_turn rel turn a b c d q (inr (inr (inr (inr (inr (inr i)))))) = elim i [ ]

  -- one more of each
  is_more : (rel g : ℕ) (q : Key) → IsAmong q all → IsAmong q (node_key node ∷ meta_key_of format.groups_file ∷ own_keys (came ++ rel ∷ []) (groups ++ g ∷ []))
  is_more rel g q (inl e) = inl e
  is_more rel g q (inr (inl e)) = inr (inl e)
  is_more rel g q (inr (inr i)) = inr (inr (among_both q (map rel_key came) (map group_key groups)
      (λ k. among_left q (map rel_key (came ++ rel ∷ [])) (map group_key (groups ++ g ∷ [])) (map_more rel_key q rel came k))
      (λ k. among_right q (map rel_key (came ++ rel ∷ [])) (map group_key (groups ++ g ∷ [])) (map_more group_key q g groups k)) i))

-- nothing came
pub come_none : (s l t : State) (node : ℕ) (came groups : List ℕ) → SameButReads s l → WritesOnly l t (node_key node ∷ []) → WritesCome s t node came groups
come_none s l t node came groups same w = record {
  only = record {
    each = λ q k. ⊎_elim (λ old. inl (subst (λ (z : State). z.written q ≡ true) same old)) (λ i. inr (⊎_elim inl (λ j. absurd j) i)) (w.each q k);
  };
}

-- one more came
pub come_next : (s now end : State) (node rel : ℕ) (turn : Turn) (came groups xs ys : List ℕ) → WritesCome s now node came groups
    → WritesOnly now end (turn_keys node rel turn)
    → In turn.first came × In turn.before groups → xs ≡ came ++ rel ∷ [] → ys ≡ groups ++ turn.group ∷ [] → WritesCome s end node xs ys
come_next s now end node rel turn came groups xs ys was w known xs_is ys_is =
    subst (λ zs. WritesCome s end node zs ys) (sym xs_is) (subst (λ zs. WritesCome s end node (came ++ rel ∷ []) zs) (sym ys_is) (record {
      only = record {
        each = λ q k. ⊎_elim (λ old. ⊎_elim inl (λ i. inr (is_more node came groups rel turn.group q i)) (was.only.each q old))
            (λ i. inr (is_turn node (came ++ rel ∷ []) (groups ++ turn.group ∷ []) rel turn (in_last rel came) (in_before turn.first rel came known.0)
            (in_last turn.group groups) (in_before turn.before turn.group groups known.1) q i)) (w.each q k);
      };
    }))

pub one_longer : (x count : ℕ) (xs ys : List ℕ) → ys ≡ xs ++ x ∷ [] → length xs ≡ count + 1 → length ys ≡ (count + 1) + 1
one_longer x count xs ys is e = let k = ap length is in omega (arith, length-append xs (x ∷ []))

-- as many as these, besides the node's
pub come_touches : (s t : State) (node count most : ℕ) (came groups : List ℕ) → length came ≡ count + 1 → length groups ≡ count + 1 → count + 1 ≤ most
    → WritesCome s t node came groups → TouchesGroups s t node most most
come_touches s t node count most came groups few_rels few_groups le w =
    record { rels = came; groups = groups; few_rels = omega arith; few_groups = omega arith; only = w.only }

pub come_beside : (s t : State) (node count most : ℕ) (came groups : List ℕ) → length came ≡ count + 1 → length groups ≡ count + 1 → 2 * (count + 1) ≤ most
    → WritesCome s t node came groups → WritesBeside (node_key node) most s t
come_beside s t node count most came groups few_rels few_groups le w = touches_beside s t node (count + 1) (count + 1) most (omega arith)
    (come_touches s t node count (count + 1) came groups few_rels few_groups (omega arith) w)
