-- The groups that are seen on group chains, group by group and node by node.
use Rattle.std.proofs.Common.{◌≡◌, ◌≢◌, ◌⊎◌, ℕ, ◌+◌, ◌<◌, ◌≤◌, Bool, true, false, cond, List, length, set, sym, ap, ◌∙◌}
use Rattle.std.proofs.Common.{subst, inl, inr, ⊎_elim, arith, refl, get_or-set_other, get_or-set_same}
use Rattle.std.specs.Bool.{Decides}
use Rattle.std.specs.List.{sum_by}
use Rattle.std.proofs.lemmas.Bool.{cases_Bool, cases_lt, true≢false}
use Rattle.rec_bytes.specs.Format as format
use Rattle.store_rules.specs.Breaking.{IsOnChain, IsOwnedBy}
use Rattle.store_rules.specs.Breaking.IsOnChain.{First, Next}
use Rattle.store_rules.specs.Views.{Records, first_link, high, rec_at}
use Rattle.store_rules.proofs.ChainRules.{on_dense, on_owned}
use Rattle.store_rules.proofs.NumberLaws.{nat_cases}
use Rattle.store_rules.proofs.ViewLaws.{kind_below}
use Rattle.record_lists.specs.Seen.{is_seen}
use Rattle.chain_check.specs.Chained.{SeesChain, SeesChains, next_group}
use Rattle.chain_check.specs.NodeChains.{IsDense}

-- how many are not seen
abbrev pub unseen : List Bool → ℕ
unseen seen = sum_by (λ b. cond b 0 1) seen

module _ (records : Records) where
  module _ (node from : ℕ) where
    -- A walk of the groups that the node owns has come to a record. What it has seen is on the chain, and leads to
    -- what is seen, or to this record.
    pub record HasCome (old new : List Bool) (at : ℕ) : Type 0 where
      pub kept : (g : ℕ) → is_seen old g ≡ true → is_seen new g ≡ true
      pub only : (g : ℕ) → is_seen new g ≡ true → (is_seen old g ≡ true) ⊎ IsOnChain records node g
      pub here : IsOwnedBy records node at → IsOnChain records node at
      pub first : IsOwnedBy records node from → (is_seen new from ≡ true) ⊎ (from ≡ at)
      pub next : (g : ℕ) → IsOwnedBy records node g → is_seen new g ≡ true → IsOwnedBy records node (next_group records g)
          → (is_seen new (next_group records g) ≡ true) ⊎ (next_group records g ≡ at)

    module _ (dense : IsDense records node) (is : first_link records node ≡ from) where
      pub come_first : (old : List Bool) → ((g : ℕ) → IsOwnedBy records node g → is_seen old g ≡ false) → HasCome old old from
      come_first old clear = record {
        kept = λ g m. m;
        only = λ g m. inl m;
        here = λ own. First from dense is own;
        first = λ own. inr refl;
        next = λ g own m after. absurd (true≢false (sym m ∙ clear g own));
      }

      -- where the walk ends, it has seen the chain
      pub come_last : (old new : List Bool) (at : ℕ) → HasCome old new at → (IsOwnedBy records node at → is_seen new at ≡ true) → SeesChain records node old new
      come_last old new at h last g = (h.only g, ⊎_elim (h.kept g) (all g))
        where
          all : (k : ℕ) → IsOnChain records node k → is_seen new k ≡ true
          all k (First z d e own) =
              let begins : from ≡ k = sym is ∙ e in
              ⊎_elim
              (λ (m : is_seen new from ≡ true). subst (λ x. is_seen new x ≡ true) begins m)
              (λ (a : from ≡ at). subst (λ x. is_seen new x ≡ true) (sym a ∙ begins) (last (subst (IsOwnedBy records node) (sym begins ∙ a) own)))
              (h.first (subst (IsOwnedBy records node) (sym begins) own))
          all k (Next z y on e own) =
              ⊎_elim
              (λ (m : is_seen new (next_group records z) ≡ true). subst (λ x. is_seen new x ≡ true) e m)
              (λ (a : next_group records z ≡ at). subst (λ x. is_seen new x ≡ true) (sym a ∙ e) (last (subst (IsOwnedBy records node) (sym e ∙ a) own)))
              (h.next z (on_owned records node z on) (all z on) (subst (IsOwnedBy records node) (sym e) own))

    -- one group more
    module _ (old new : List Bool) (at to : ℕ) (lt : at < length new) where
      now : List Bool
      now = set new at true

      seen_at : is_seen (set new at true) at ≡ true
      seen_at = rw get_or-set_same refl

      seen_else : (g : ℕ) → g ≢ at → is_seen (set new at true) g ≡ is_seen new g
      seen_else g ne = rw get_or-set_other refl

      grown : (g : ℕ) → is_seen new g ≡ true → is_seen (set new at true) g ≡ true
      grown g m = ⊎_elim (λ (e : g ≡ at). subst (λ x. is_seen (set new at true) x ≡ true) (sym e) seen_at) (λ (ne : g ≢ at). seen_else g ne ∙ m)
          (nat_cases g at)

      pub come_next : HasCome old new at → IsOwnedBy records node at → next_group records at ≡ to → HasCome old (set new at true) to
      come_next h own is = record {
        kept = λ g m. grown g (h.kept g m);
        only = λ g m. ⊎_elim
            (λ (e : g ≡ at). inr (subst (IsOnChain records node) (sym e) (h.here own)))
            (λ (ne : g ≢ at). h.only g (sym (seen_else g ne) ∙ m))
            (nat_cases g at);
        here = λ o. Next at to (h.here own) is o;
        first = λ o. ⊎_elim
            (λ m. inl (grown from m))
            (λ (e : from ≡ at). inl (subst (λ x. is_seen (set new at true) x ≡ true) (sym e) seen_at))
            (h.first o);
        next = λ g o m after. ⊎_elim
            (λ (e : g ≡ at). inr (ap (next_group records) e ∙ is))
            (λ (ne : g ≢ at). ⊎_elim
            (λ k. inl (grown (next_group records g) k))
            (λ (a : next_group records g ≡ at). inl (subst (λ x. is_seen (set new at true) x ≡ true) (sym a) seen_at))
            (h.next g o (sym (seen_else g ne) ∙ m) after))
            (nat_cases g at);
      }

  -- a node that isn't dense has no group chain
  pub not_dense : (node : ℕ) (seen : List Bool) → ¬ IsDense records node → SeesChain records node seen seen
  not_dense node seen other g = ((λ m. inl m), ⊎_elim (λ m. m) (λ on. absurd (other (on_dense records node g on))))

  -- what isn't below the mark is owned by none
  pub owned_low : (node g : ℕ) → IsOwnedBy records node g → g < high records format.groups_file
  owned_low node g own = kind_below (high records format.groups_file) (rec_at records format.groups_file g) g own.used

  -- ---- node by node

  -- the group is on the chain of one of the first nodes
  pub record IsOnOneBelow (mark g : ℕ) : Type 0 where
    pub node : ℕ
    pub below : node < mark
    pub on : IsOnChain records node g

  abbrev pub SeenBelow : ℕ → List Bool → Type 0
  SeenBelow mark seen = (g : ℕ) → Decides (is_seen seen g) (IsOnOneBelow mark g)

  pub below_none : (seen : List Bool) → ((g : ℕ) → is_seen seen g ≡ false) → SeenBelow 0 seen
  below_none seen clear g = ((λ m. absurd (true≢false (sym m ∙ clear g))), (λ h. absurd (let lt : h.node < 0 = h.below in omega arith)))

  -- the groups of the next node are not seen yet
  pub below_clear : (mark : ℕ) (seen : List Bool) → SeenBelow mark seen → (g : ℕ) → IsOwnedBy records mark g → is_seen seen g ≡ false
  below_clear mark seen h g own = ⊎_elim
      (λ (m : is_seen seen g ≡ true).
      let o = (h g).0 m in
      let same : o.node ≡ mark = let k = on_owned records o.node g o.on in sym k.owner ∙ own.owner in
      absurd (let lt : o.node < mark = o.below in omega arith))
      (λ (f : is_seen seen g ≡ false). f)
      (cases_Bool (is_seen seen g))

  pub below_more : (mark : ℕ) (old new : List Bool) → SeenBelow mark old → SeesChain records mark old new → SeenBelow (mark + 1) new
  below_more mark old new h step g = (
    (λ m. ⊎_elim
        (λ o. let k = (h g).0 o in let lt : k.node < mark = k.below in record { node = k.node; below = omega arith; on = k.on })
        (λ on. record { node = mark; below = omega arith; on = on })
        ((step g).0 m)),
    (λ k. (step g).1 (⊎_elim
        (λ (lt : k.node < mark). inl ((h g).1 (record { node = k.node; below = lt; on = k.on })))
        (λ (ge : mark ≤ k.node). let lt : k.node < mark + 1 = k.below in let same : k.node ≡ mark = omega arith in inr (subst (λ n. IsOnChain records n g)
        same k.on))
        (cases_lt k.node mark))),
  )

  -- all nodes
  pub below_all : (seen : List Bool) → SeenBelow (high records format.nodes_file) seen → SeesChains records seen
  below_all seen h g = (
    (λ m. let k = (h g).0 m in (k.node, k.on)),
    (λ k.
        let dense = on_dense records k.0 g k.1 in
        let low = kind_below (high records format.nodes_file) (rec_at records format.nodes_file k.0) k.0
        (λ z. let two : 2 ≡ 0 = sym dense ∙ z in omega arith) in
        (h g).1 (record { node = k.0; below = low; on = k.1 })),
  )
