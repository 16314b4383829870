-- The chains of several heads of a node, one after the other.
use Rattle.std.proofs.Common.{◌≡◌, ◌≢◌, ℕ, suc, Some, List, [], ◌∷◌, ◌++◌, map, refl, sym, ◌∙◌, subst, ⊎_elim, arith}
use Rattle.std.specs.List.{All, AllPairs, Contains}
use Rattle.std.proofs.lemmas.List.Elements.{All-contains}
use Rattle.rec_bytes.specs.declared.shape.Shape.{Shape}
use Rattle.rec_bytes.specs.Format as format
use Rattle.store_rules.specs.Chains.{In}
use Rattle.store_rules.specs.Properties.{AreOnce}
use Rattle.store_rules.specs.Rules.{Head, IsOn, IsWellFormed, Owns, StandsAt, first_of}
use Rattle.store_rules.specs.Views.{Records, RelRow, group_at, kind_at, rel_at}
use Rattle.store_rules.proofs.ChainLaws.{walk_of_chain}
use Rattle.store_rules.proofs.OnceLaws.{in_left, in_parts, in_right, once_both, once_walk}
use Rattle.chain_edit.specs.Chains.{next_of}
use Rattle.store_rules.proofs.OneHead.{only_head}
use Rattle.expand.specs.Walking.{AreWalks}
use Rattle.store_rules.proofs.Members.{contains_cases, contains_first, contains_later, pairs_first, pairs_rest}

module _ (s : Records) (shape : Shape) (store : IsWellFormed s shape) (n : ℕ) where
  abbrev pub Own : Head → Type 0
  Own h = Owns (kind_at s format.nodes_file) (group_at s) h n

  abbrev pub Stands : Head → ℕ → Type 0
  Stands h x = StandsAt (rel_at s) (group_at s) h x

  -- what is met in the chains of the heads stands at one of them, and all that does is met once
  pub record HaveChains (heads : List Head) : Type 0 where
    pub members : List ℕ
    pub walks : AreWalks s n (map (first_of s) heads) members
    pub only : (x : ℕ) → In x members → (h : Head) × Contains heads h × Stands h x
    pub all : (h : Head) (x : ℕ) → Contains heads h → Stands h x → In x members
    pub once : AreOnce members

  same_row : (a b : RelRow) → Some a ≡ Some b → a ≡ b
  same_row a b e = cc

  -- a relationship stands at one head of the node only
  one_head : (h k : Head) (x : ℕ) → Own h → Own k → Stands h x → Stands k x → h ≡ k
  one_head h k x own other at there =
      let same : there.row ≡ at.row = same_row there.row at.row (sym there.live ∙ at.live) in
      only_head s [] store.grouped h k n at.row own other at.on (subst (IsOn (group_at s) k) same there.on)

  pub have_chains : (heads : List Head) → All Own heads → AllPairs (λ h k. h ≢ k) heads → HaveChains heads
  have_chains [] own apart = record { members = []; walks = refl; only = λ x i. elim i [ ]; all = λ h x (k, lt, is) at. absurd (omega arith); once = tt }
  have_chains (head ∷ heads) own apart =
      let l = store.linked.listed.each head n (own 0 head (omega arith)) in
      let later : All Own heads = λ k d lt. own (suc k) d (omega arith) in
      let rest = have_chains heads later (pairs_rest (λ h k. h ≢ k) head heads apart) in
      let walk = walk_of_chain _ _ format.nil (first_of s head) l.members l.chain in
      record {
        members = l.members ++ rest.members;
        walks = (l.members, rest.members, l.chain, rest.walks, refl);
        only = λ x i. ⊎_elim
            (λ j. (head, contains_first head heads, l.only x j))
            (λ j. let r = rest.only x j in (r.0, contains_later head heads r.0 r.1, r.2))
            (in_parts x l.members rest.members i);
        all = λ h x is at. ⊎_elim
            (λ (same : h ≡ head). in_left x l.members rest.members (l.all x (subst (λ z. Stands z x) same at)))
            (λ (rested : Contains heads h). in_right x l.members rest.members (rest.all h x rested at))
            (contains_cases head heads h is);
        once = once_both l.members rest.members (once_walk (next_of s n) (first_of s head) l.members walk) rest.once (λ x i j.
            let r = rest.only x j in
            All-contains (λ k. head ≢ k) heads r.0 (pairs_first (λ h k. h ≢ k) head heads apart) r.1
            (one_head head r.0 x (own 0 head (omega arith)) (All-contains Own heads r.0 later r.1) (l.only x i) r.2));
      }
