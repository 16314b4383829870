-- What a relationship that comes into its group writes beside it is the node's.
use Rattle.std.proofs.Common.{◌≡◌, ◌⊎◌, ℕ, Some, IfOk, Result, Ok, Err, List, ◌∷◌, sym, ap, ◌∙◌, subst, inl, inr, ⊎_elim, refl}
use Rattle.rec_bytes.specs.Format as format
use Rattle.rec_bytes.specs.Space.{SameButReads, State}
use Rattle.rel_store.specs.declared.rel_row.RelRow as loaded
use Rattle.rel_store.specs.Loading as loading
use Rattle.rel_store.proofs.Rows.{rule_row}
use Rattle.store_rules.specs.Chains.{In}
use Rattle.store_rules.specs.Rules.{Head, first_of}
use Rattle.store_rules.specs.Views.{first_link}
use Rattle.store_rules.proofs.ChainLaws.{walk_of_chain}
use Rattle.chain_edit.specs.Links.{prev_set}
use Rattle.chain_edit.specs.Pushing.{pushed}
use Rattle.store_rules.proofs.ChainSteps.{first_in}
use Rattle.group_store.specs.declared.making.OwnGroup.{OwnGroup}
use Rattle.group_store.specs.declared.open_fault.OpenFault.{OpenFault}
use Rattle.group_store.specs.GroupChain.{IsDense, IsGroupOf, LacksGroup, next_group}
use Rattle.group_store.specs.Making.{CanMake, HasMade}
use Rattle.group_store.specs.Moving.{GrowsBy, HasCome, IsOwnTurn}
use Rattle.group_store.specs.Sides.{group_head, side_at}
use Rattle.group_store.specs.Spreading.{HasOpened, IsSpread, KeepsBut}
use Rattle.group_store.proofs.Moves.{counted_joined, first_end, groups_joined}
use Rattle.group_store.specs.Counting.{one_more, tallied}
use Rattle.group_store.proofs.OwnGroups.{keeps_then}
use Rattle.group_store.proofs.OwnRoom.{can_make, chain_ids, free_ids}
use Rattle.group_store.proofs.Spreads.{moving, to_m}

-- ---- a group that is found or made

-- where one is found nothing was made
pub found_grows : (s t : State) (node g : ℕ) → SameButReads s t → GrowsBy s t node g format.nil
found_grows s t node g same = subst (λ (q : State). GrowsBy s q node g format.nil) (sym same) (record { groups = λ k is. inr is; first = inl refl })

-- where none is found one was made
pub made_grows : (r : Result OwnGroup OpenFault) (s l t : State) (node label : ℕ) → SameButReads s l
    → ((rest : List ℕ) (most : ℕ) (empty : List ℕ) → KeepsBut s.records s.shape node rest most empty → IsDense s.records node → LacksGroup s.records node label)
    → IfOk r (λ own. (free xs : List ℕ) → CanMake l node label free xs → HasMade l.records t.records node label own.row free xs)
    → IfOk r (λ own. own.first ≡ first_link l.records node)
    → IfOk r (λ own. (rest : List ℕ) (most : ℕ) (empty : List ℕ) → KeepsBut s.records s.shape node rest most empty → IsDense s.records node → GrowsBy s t node
    own.row.id own.first)
made_grows (Err fault) s l t node label same lacks has first = tt
made_grows (Ok own) s l t node label same lacks has first = λ rest most empty keeps dense.
    let keeps_l = keeps_then s l node rest most empty same keeps in
    let dense_l = subst (λ (q : State). IsDense q.records node) (sym same) dense in
    let can = can_make l node rest most empty keeps_l dense_l label (subst (λ (q : State). LacksGroup q.records node label) (sym same)
    (lacks rest most empty keeps dense)) in
    let free = free_ids l node rest most empty keeps_l dense_l in
    let xs = chain_ids l node rest most empty keeps_l dense_l in
    let was : (g : ℕ) → IsGroupOf l.records node g → IsGroupOf s.records node g = λ g is. subst (λ (q : State). IsGroupOf q.records node g) same is in
    record {
      groups = λ g i. ⊎_elim inl (λ j. inr (was g (can.chain.only g j))) ((has free xs can).chain.all g i);
      first = ⊎_elim (λ none. inl (first ∙ none)) (λ i. inr (was own.first (can.chain.only own.first (subst (λ f. In f xs) (sym first) i))))
          (first_in (next_group l.records) (first_link l.records node) xs (walk_of_chain _ _ format.nil (first_link l.records node) xs can.chain.chain));
    }

-- ---- a relationship that is moved

module _ (s l m : State) (node rel : ℕ) (row : loaded.RelRow) (g : ℕ) (same : SameButReads s l) (is : Some row ≡ loading.row_at s.records rel)
    (opens : (rest : List ℕ) (most : ℕ) (empty : List ℕ) → KeepsBut l.records l.shape node rest most empty → IsDense l.records node → KeepsBut m.records m.shape
    node rest most (g ∷ empty) × HasOpened l m node row.label g rest)
    (rest : List ℕ) (most : ℕ) (empty : List ℕ) (spread : IsSpread s node rel (rel ∷ rest) most empty) where
  pub own_turn : (first : ℕ) → ((rest : List ℕ) (most : ℕ) (empty : List ℕ) → KeepsBut l.records l.shape node rest most empty → IsDense l.records node
      → GrowsBy l m node g first)
      → (t end : State) (h : Head) (old next : ℕ) → t ≡ prev_set m node rel format.nil → h ≡ group_head g (side_at node row.from row.to)
      → end ≡ tallied one_more (pushed t h node rel) h → old ≡ first_of t.records h
      → IsOwnTurn s end node (rel ∷ rest) (record { next = next; group = g; before = first; first = old })
  own_turn first grows t end h old next freed head put old_is =
      let v = moving s l m node rel row g same is opens rest most empty spread in
      let to = to_m s l m node rel row g same is opens rest most empty spread in
      let w = grows (rel ∷ rest) most empty (keeps_then s l node (rel ∷ rest) most empty same spread.keeps)
      (subst (λ (q : State). IsDense q.records node) (sym same) spread.dense) in
      let was : (k : ℕ) → IsGroupOf l.records node k → IsGroupOf s.records node k = λ k i. subst (λ (q : State). IsGroupOf q.records node k) same i in
      let side = side_at node row.from row.to in
      let end_of : counted_joined m (group_head g side) node rel ≡ end =
      sym (put ∙ ap (λ (q : State). tallied one_more (pushed q h node rel) h) freed ∙ ap (λ (q : Head). tallied one_more
      (pushed (prev_set m node rel format.nil) q node rel) q) head) in
      let old_of : old ≡ first_of (prev_set m node rel format.nil).records (group_head g side) = old_is ∙ ap (λ (q : State). first_of q.records h) freed
      ∙ ap (λ (q : Head). first_of (prev_set m node rel format.nil).records q) head in
      record {
        grows = record {
          groups = λ k i. ⊎_elim inl (λ j. inr (was k j))
              (w.groups k (groups_joined m node rel g (rule_row row) rest most empty v.keeps v.dense v.live v.end v.group v.out v.left v.exact v.counted k
              (subst (λ (q : State). IsGroupOf q.records node k) (sym end_of) i)));
          first = ⊎_elim inl (λ j. inr (was first j)) w.first;
        };
        first = subst (λ z. (z ≡ format.nil) ⊎ HasCome s.records node (rel ∷ rest) z) (sym old_of)
            (⊎_elim inl (λ k. inr (record {
              row = k.row;
              live = sym (to.rels (first_of (prev_set m node rel format.nil).records (group_head g side)))
                  ∙ k.live;
              end = k.end;
              apart = k.apart;
            }))
            (first_end m node rel g (rule_row row) rest most empty v.keeps v.dense v.live v.end v.group v.out v.left));
      }
