-- The steps in which a group is dropped, told by the space as it was.
use Rattle.std.proofs.Common.{◌⊎◌, ⊎_elim, inl, inr, arith, ◌≡◌, ◌≢◌, ℕ, ◌<◌, Bool, List, refl, sym, ap, ◌∙◌, subst}
use Rattle.id_freelist.specs.Giving.{CanGive, HasGiven, given}
use Rattle.rec_bytes.specs.declared.damage.Damage.{Damage}
use Rattle.rec_bytes.specs.declared.record.Rec.{Rec}
use Rattle.rec_bytes.specs.Format as format
use Rattle.rec_bytes.specs.Record.{field}
use Rattle.rec_bytes.specs.Space.{SameButReads, State, after_get}
use Rattle.store_rules.proofs.ChainSteps.{after_in, before_in, first_before}
use Rattle.store_rules.specs.Chains.{In}
use Rattle.store_rules.specs.Rules.{is_filled}
use Rattle.store_rules.proofs.ChainLaws.{walk_of_chain}
use Rattle.store_rules.specs.Views.{Records, first_link, rec_at}
use Rattle.rec_bytes.specs.declared.fault.Fault.{Fault}
use Rattle.rec_bytes.specs.declared.fault.Fault.TheVariants.{Memory, Disk, Damaged}
use Rattle.group_store.specs.Dropping.{CanDrop, HasDropped, HasLowLinks, IsDropFault, IsOnChain, dropped, follows}
use Rattle.group_store.specs.Dropping.IsDropDamage.{BadMember}
use Rattle.group_store.specs.GroupChain.{group_field, next_group, previous_group}
use Rattle.group_store.specs.Links.{IsLinkDamage, IsRightLink, backed}
use Rattle.group_store.specs.Links.IsLinkDamage.{LeadsNowhere, HighLink}
use Rattle.group_store.specs.Loading.{group_mark}
use Rattle.group_store.specs.Walking.{IsMemberDamage, IsMemberFault}
use Rattle.group_store.specs.Walking.IsMemberDamage.{HighMember, NoMember, UnknownMember}
use Rattle.group_store.proofs.Drops.{has_dropped, linked}
use Rattle.group_store.proofs.GroupRecords.{group_below, owned}
use Rattle.group_store.proofs.GroupWalks.{IsUndamaged}
use Rattle.group_store.proofs.UnknownKinds.{known_kind}

pub member_told : (s : State) (node g : ℕ) (fault : Fault) → IsMemberFault s node g fault → IsDropFault s node g fault
member_told s node g Memory told = tt
member_told s node g Disk told = tt
member_told s node g (Damaged damage) told = BadMember damage told

pub link_read : (s now : State) (link was : ℕ) (named damage : Damage) → now ≡ after_get s → link ≡ was → IsLinkDamage now link named damage
    → IsLinkDamage s was named damage
link_read s now link was named damage read is told = subst (λ l. IsLinkDamage s l named damage) is
    (by damage (subst (λ (t : State). IsLinkDamage t link named damage) read told))
  where
    by : (damage : Damage) → IsLinkDamage (after_get s) link named damage → IsLinkDamage s link named damage
    by damage (LeadsNowhere some high) = LeadsNowhere some high
    by damage (HighLink above) = HighLink above

-- a number of the record that was read
pub number_read : (records : Records) (g at number : ℕ) (rec : Rec) → rec ≡ rec_at records format.groups_file g → number ≡ field 4 rec at
    → number ≡ group_field records at g
number_read records g at number rec got is = is ∙ ap (λ r. field 4 r at) got

pub filled_is : (records : Records) (g : ℕ) (rec : Rec) (test b : Bool) → rec ≡ rec_at records format.groups_file g → test ≡ is_filled rec → test ≡ b
    → is_filled (rec_at records format.groups_file g) ≡ b
filled_is records g rec test b got is e = ap is_filled (sym got) ∙ sym is ∙ e

pub same_one : (s now : State) → now ≡ after_get s → SameButReads s now
same_one s now read = subst (SameButReads s) (sym read) refl

-- links that were tested
pub low_links : (s now : State) (g before after : ℕ) → now ≡ after_get s → before ≡ previous_group s.records g → after ≡ next_group s.records g
    → (before ≢ format.nil → before < group_mark now) → (after ≢ format.nil → after < group_mark now) → HasLowLinks s g
low_links s now g before after read b a low_before low_after =
    let mark : group_mark now ≡ group_mark s = ap group_mark read in
    record {
      before = λ some. subst (λ x. x < group_mark s) b (subst (λ m. before < m) mark (low_before (λ e. some (sym b ∙ e))));
      after = λ some. subst (λ x. x < group_mark s) a (subst (λ m. after < m) mark (low_after (λ e. some (sym a ∙ e))));
    }

-- ---- the end

linked_is : (s now b f : State) (node before after g : ℕ) → now ≡ after_get s → b ≡ backed now after before → f ≡ follows b node before after
    → before ≡ previous_group s.records g → after ≡ next_group s.records g → f ≡ linked s node (previous_group s.records g) (next_group s.records g)
unfolding linked
linked_is s now b f node before after g read back is before_is after_is =
    is ∙ ap (λ (t : State). follows t node before after) (back ∙ ap (λ (t : State). backed t after before) read)
    ∙ ap (λ x. follows (backed (after_get s) after x) node x after) before_is
    ∙ ap (λ x. follows (backed (after_get s) x (previous_group s.records g)) node (previous_group s.records g) x) after_is

pub dropped_is : (s now b f end : State) (node before after g : ℕ) → now ≡ after_get s → b ≡ backed now after before → f ≡ follows b node before after
    → before ≡ previous_group s.records g → after ≡ next_group s.records g → end ≡ given f format.groups_file g → end ≡ dropped s node g
unfolding linked dropped
dropped_is s now b f end node before after g read back is before_is after_is gave =
    gave ∙ ap (λ (t : State). given t format.groups_file g) (linked_is s now b f node before after g read back is before_is after_is)

pub dropped_has : (s now b f end : State) (node before after g : ℕ) (free xs : List ℕ) → now ≡ after_get s → b ≡ backed now after before
    → f ≡ follows b node before after
    → before ≡ previous_group s.records g → after ≡ next_group s.records g
    → (CanGive f format.groups_file g free → HasGiven f.records end.records format.groups_file g free)
    → CanDrop s node g free xs → HasDropped s.records end.records node g free xs
dropped_has s now b f end node before after g free xs read back is before_is after_is gives can =
    let f_is = linked_is s now b f node before after g read back is before_is after_is in
    has_dropped s end node g free xs can (subst (λ (t : State). CanGive t format.groups_file g free → HasGiven t.records end.records format.groups_file g free)
    f_is gives)

-- ---- a chain that is right

pub is_undamaged : (s : State) (node g : ℕ) (xs : List ℕ) (fault : Fault) → IsOnChain s node g xs → IsMemberFault s node g fault → IsUndamaged fault
is_undamaged s node g xs Memory on told = tt
is_undamaged s node g xs Disk on told = tt
is_undamaged s node g xs (Damaged damage) on told = by damage told
  where
    by : (damage : Damage) → IsMemberDamage s node g damage → ⊥
    by damage (NoMember none) = none (owned s.records node g (on.chain.only g on.member))
    by damage (UnknownMember below unknown) = known_kind s.records node g below (on.chain.only g on.member) unknown
    by damage (HighMember above) = let mark = on.mark in omega arith

-- a link to a member, or to none, is right
right_link : (s now : State) (node g link : ℕ) (xs : List ℕ) → now ≡ after_get s → IsOnChain s node g xs → (link ≡ format.nil) ⊎ In link xs
    → IsRightLink now link
right_link s now node g link xs read on there = subst (λ (t : State). IsRightLink t link) (sym read) (record {
  low = ⊎_elim (λ none. inl none) (λ i. inr (group_below s.records node link (on.chain.only link i))) there;
  mark = on.mark;
})

pub right_previous : (s now : State) (node g link : ℕ) (xs : List ℕ) → now ≡ after_get s → link ≡ previous_group s.records g → IsOnChain s node g xs
    → IsRightLink now link
right_previous s now node g link xs read is on = right_link s now node g link xs read on (subst (λ l. (l ≡ format.nil) ⊎ In l xs) (sym is) (⊎_elim
    (λ first. inl (first_before (next_group s.records) (previous_group s.records) format.nil (first_link s.records node) xs g on.chain.chain on.member first))
    (λ i. inr i)
    (before_in (next_group s.records) (previous_group s.records) format.nil (first_link s.records node) xs g on.chain.chain on.member)))

pub right_next : (s now : State) (node g link : ℕ) (xs : List ℕ) → now ≡ after_get s → link ≡ next_group s.records g → IsOnChain s node g xs
    → IsRightLink now link
right_next s now node g link xs read is on = right_link s now node g link xs read on (subst (λ l. (l ≡ format.nil) ⊎ In l xs) (sym is)
    (after_in (next_group s.records) (first_link s.records node) xs g (walk_of_chain _ _ format.nil (first_link s.records node) xs on.chain.chain) on.member))
