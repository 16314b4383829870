-- A group is filled just where a relationship stands at one of its heads.
use Rattle.std.proofs.Common.{◌≡◌, ◌≢◌, ℕ, true, Option, Some, List, [], ◌∷◌, sym, ap, ◌∙◌, inl, inr, ⊎_elim, refl}
use Rattle.rec_bytes.specs.Format as format
use Rattle.store_rules.specs.Chains.{In, IsChain}
use Rattle.store_rules.specs.Rules.{AllListed, GroupHead, Head, IsInGroup, KeepsGroups, Owns, StandsAt, first_of, is_filled}
use Rattle.store_rules.specs.Views.{GroupRow, Records, RelRow, group_at, key_in, kind_at, rec_at}
use Rattle.store_rules.proofs.GroupLaws.{IsFirstPlace, chain_filled, filled_chain, group_id}

-- the head of a chain of a group
abbrev pub group_head : ℕ → ℕ → Head
group_head g at = record { key = key_in format.groups_file g; field = at }

-- what is in a group stands in one of its three chains
pub in_place : (groups : ℕ → Option GroupRow) (h : Head) (rel : RelRow) → IsInGroup groups h rel → IsFirstPlace h.field
in_place groups h rel i = ⊎_elim (λ k. inl k.0) (λ k. ⊎_elim (λ j. inr (inl j.0)) (λ j. inr (inr j.0)) k) i.side

-- a chain that has a member begins with one
chain_begins : (next prev : ℕ → ℕ) (before from : ℕ) (xs : List ℕ) (x : ℕ) → IsChain next prev before from xs → In x xs → from ≢ format.nil
chain_begins next prev before from [] x chain i = elim i [ ]
chain_begins next prev before from (y ∷ ys) x chain i = λ e. chain.1 (sym chain.0 ∙ e)

chain_member : (next prev : ℕ → ℕ) (before from : ℕ) (xs : List ℕ) → IsChain next prev before from xs → from ≢ format.nil → (x : ℕ) × In x xs
chain_member next prev before from [] chain some = absurd (some chain)
chain_member next prev before from (y ∷ ys) chain some = (y, inl refl)

-- the groups are those of one store, and their heads are listed in another
module _ (s : Records) {empty : List ℕ} (grouped : KeepsGroups s empty)
    (g : ℕ) (row : GroupRow) (is : group_at s g ≡ Some row) where
  -- the chains of a group in use are its owner's
  pub owns_chain : (at : ℕ) → IsFirstPlace at → GroupHead (kind_at s format.nodes_file) (group_at s) (group_head g at) row.owner
  owns_chain at place = record {
    dense = grouped.owned g row is;
    row = row;
    group = ap (group_at s) (group_id s g row is) ∙ is;
    owner = refl;
    key = ap (key_in format.groups_file) (sym (group_id s g row is));
    field = place;
  }

  pub filled_by : (t : Records) (rels : ℕ → Option RelRow) → AllListed t (Owns (kind_at s format.nodes_file) (group_at s)) (StandsAt rels (group_at s))
      → (at x : ℕ) → IsFirstPlace at → StandsAt rels (group_at s) (group_head g at) x
      → is_filled (rec_at t format.groups_file g) ≡ true
  filled_by t rels listed at x place stands =
      let l = listed.each (group_head g at) row.owner (inr (owns_chain at place)) in
      chain_filled (rec_at t format.groups_file g) at place (chain_begins _ _ format.nil (first_of t (group_head g at)) l.members x l.chain (l.all x stands))

  pub filled_has : (t : Records) (rels : ℕ → Option RelRow) → AllListed t (Owns (kind_at s format.nodes_file) (group_at s)) (StandsAt rels (group_at s))
      → is_filled (rec_at t format.groups_file g) ≡ true
      → (at : ℕ) × (x : ℕ) × IsFirstPlace at × StandsAt rels (group_at s) (group_head g at) x
  filled_has t rels listed filled =
      let at = filled_chain (rec_at t format.groups_file g) filled in
      let l = listed.each (group_head g at.0) row.owner (inr (owns_chain at.0 at.1)) in
      let m = chain_member _ _ format.nil (first_of t (group_head g at.0)) l.members l.chain at.2 in
      (at.0, m.0, at.1, l.only m.0 m.1)
