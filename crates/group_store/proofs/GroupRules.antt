-- The chains of groups of a well-formed store are right.
use Rattle.std.proofs.Common.{◌≡◌, ◌≢◌, ◌⊎◌, ℕ, true, List, [], ◌∷◌, Some, inl, inr, refl, sym, subst, ap, ◌∙◌}
use Rattle.rec_bytes.specs.declared.shape.Shape.{Shape}
use Rattle.rec_bytes.specs.Format as format
use Rattle.store_rules.specs.Ranges.{AreInRange}
use Rattle.store_rules.specs.Breaking.{IsOnChain, IsOwnedBy}
use Rattle.store_rules.specs.Breaking.IsOnChain.{First, Next}
use Rattle.store_rules.specs.Chains.{In, IsWalk}
use Rattle.store_rules.specs.Rules.{HasGroups, is_filled}
use Rattle.store_rules.specs.Views as views
use Rattle.store_rules.specs.Views.{Records, first_link, group_at, group_in, is_group_kind, kind_at, rec_at}
use Rattle.store_rules.proofs.UsedKinds.{group_kind}
use Rattle.store_rules.proofs.ViewLaws.{group_used, row_some, some_row}
use Rattle.group_store.specs.GroupChain.{IsDense, IsGroupChain, IsGroupList, IsGroupOf, next_group}

-- the kind of a group in use, where its record is in range
pub kind_of_group : (records : Records) (shape : Shape) (g : ℕ) → AreInRange records shape → kind_at records format.groups_file g ≢ 0
    → is_group_kind (kind_at records format.groups_file g) ≡ true
kind_of_group records shape g ranges some = group_kind records shape ranges g some

-- a group of the rules is one in use that its node owns, and the other way round
pub group_of_row : (records : Records) (shape : Shape) (node g : ℕ) (row : views.GroupRow) → AreInRange records shape → group_at records g ≡ Some row
    → row.owner ≡ node → IsGroupOf records node g
group_of_row records shape node g row ranges is owner =
    let found = some_row (kind_at records format.groups_file g) (group_in (rec_at records format.groups_file g) g) row is in
    record { kind = kind_of_group records shape g ranges found.0; owner = ap (λ (r : views.GroupRow). r.owner) found.1 ∙ owner }

pub row_of_group : (records : Records) (node g : ℕ) → IsGroupOf records node g → group_at records g ≡ Some (group_in (rec_at records format.groups_file g) g)
row_of_group records node g is = row_some (kind_at records format.groups_file g) (group_in (rec_at records format.groups_file g) g)
    (group_used (kind_at records format.groups_file g) is.kind)

pub group_owned : (records : Records) (node g : ℕ) → IsGroupOf records node g → IsOwnedBy records node g
group_owned records node g is = record { used = group_used (kind_at records format.groups_file g) is.kind; owner = is.owner }

-- what is met from the first group on is on the group chain
pub list_on : (records : Records) (node : ℕ) (xs : List ℕ) → IsDense records node → IsGroupList records node (first_link records node) xs → (g : ℕ) → In g xs
    → IsOnChain records node g
list_on records node xs dense list = met (first_link records node) xs list.walk list.only (λ own. First (first_link records node) dense refl own)
  where
    met : (from : ℕ) (xs : List ℕ) → IsWalk (next_group records) from xs → ((g : ℕ) → In g xs → IsGroupOf records node g)
        → (IsOwnedBy records node from → IsOnChain records node from) → (g : ℕ) → In g xs → IsOnChain records node g
    met from [] walk only here g i = elim i [ ]
    met from (x ∷ xs) walk only here g (inl e) =
        subst (IsOnChain records node) (walk.0 ∙ sym e) (here (subst (IsOwnedBy records node) (sym walk.0) (group_owned records node x (only x (inl refl)))))
    met from (x ∷ xs) walk only here g (inr i) =
        let on : IsOnChain records node x = subst (IsOnChain records node) walk.0
        (here (subst (IsOwnedBy records node) (sym walk.0) (group_owned records node x (only x (inl refl))))) in
        met (next_group records x) xs walk.2 (λ k j. only k (inr j)) (λ own. Next x (next_group records x) on refl own) g i

-- the first and the fourth rule make a chain right
pub IsGroupChain-HasGroups : (records : Records) (shape : Shape) (node : ℕ) {empty : List ℕ} → AreInRange records shape
    → (has : HasGroups (first_link records node) node (rec_at records format.groups_file) (group_at records) empty) → IsGroupChain records node has.members
IsGroupChain-HasGroups records shape node {empty} ranges has = record {
  chain = has.chain;
  only = λ g i. let row = has.only g i in group_of_row records shape node g row.0 ranges row.1 row.2;
  all = λ g is. has.all g (group_in (rec_at records format.groups_file g) g) (row_of_group records node g is) is.owner;
  once = has.once;
}

-- and such a chain keeps the fourth rule, where each group in it that is empty may be
pub HasGroups-IsGroupChain : (records : Records) (shape : Shape) (node : ℕ) (xs empty : List ℕ) → AreInRange records shape → IsGroupChain records node xs
    → ((g : ℕ) → In g xs → (is_filled (rec_at records format.groups_file g) ≡ true) ⊎ In g empty)
    → HasGroups (first_link records node) node (rec_at records format.groups_file) (group_at records) empty
HasGroups-IsGroupChain records shape node xs empty ranges chain filled = record {
  members = xs;
  chain = chain.chain;
  only = λ g i. (group_in (rec_at records format.groups_file g) g, row_of_group records node g (chain.only g i), (chain.only g i).owner);
  filled = filled;
  all = λ g row is owner. chain.all g (group_of_row records shape node g row ranges is owner);
  once = chain.once;
}
