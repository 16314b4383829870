-- A group of an end that isn't dropped broke the rule before.
use Rattle.std.proofs.Common.{◌≡◌, ◌≢◌, ℕ, ◌<◌, List, None, Some, sym, ap, ◌∙◌, subst, inl, inr, ⊎_elim, arith, refl}
use Rattle.rec_bytes.specs.declared.damage.Damage.{Damage}
use Rattle.rec_bytes.specs.declared.fault.Fault.{Fault}
use Rattle.rec_bytes.specs.declared.fault.Fault.TheVariants as faults
use Rattle.rec_bytes.specs.declared.key.Key.{Key}
use Rattle.rec_bytes.specs.declared.record.Rec.{Rec}
use Rattle.rec_bytes.specs.declared.shape.Shape.{Shape}
use Rattle.rec_bytes.specs.Format as format
use Rattle.rec_bytes.specs.Record.{field}
use Rattle.rec_bytes.specs.RecordFiles.{room_of}
use Rattle.rec_bytes.specs.Space.{State}
use Rattle.store_rules.specs.Breaking as breaking
use Rattle.store_rules.specs.Breaking.{Breaks, IsHeadOf, IsOwnedBy}
use Rattle.store_rules.specs.Breaking.Breaks.{GroupOwner}
use Rattle.store_rules.specs.Chains.{IsChain}
use Rattle.store_rules.specs.Ranges.{layout_by, layout_of}
use Rattle.store_rules.specs.Rules.{Head}
use Rattle.store_rules.specs.Views as views
use Rattle.store_rules.specs.Views.{Records, first_link, group_at, group_in, high, kind_at, kind_in, rec_at}
use Rattle.store_rules.proofs.ChainLaws.{chain_stays}
use Rattle.store_rules.proofs.ViewLaws.{kind_by, some_row}
use Rattle.group_store.specs.Closing.{IsOwnChain, IsSameOrLow, KeepsOtherChains}
use Rattle.group_store.specs.Dropping.{IsDropDamage, IsDropFault}
use Rattle.group_store.specs.Dropping.IsDropDamage.{Astray as Loose, BadMember, BadNext, BadPrevious}
use Rattle.group_store.specs.GroupChain.{next_group, previous_group}
use Rattle.group_store.specs.GroupRecord.{range_damage}
use Rattle.group_store.specs.Links.{IsLinkDamage}
use Rattle.group_store.specs.Links.IsLinkDamage.{HighLink, LeadsNowhere}
use Rattle.group_store.specs.Loading.{group_mark, group_room}
use Rattle.group_store.specs.Walking.IsMemberDamage.{HighMember, NoMember, UnknownMember}
use Rattle.group_store.proofs.AlikeGroups.{AreAlike, alike_back, group_row, kind_as, owned_as}
use Rattle.group_store.proofs.BrokenGroups.{drop_breaks}
use Rattle.change_parts.specs.ChangeFault.{of_fault}
use Rattle.change_parts.specs.Damage.{IfBlames}
use Rattle.edge_changes.specs.EdgeDeleting.{HasGroup, IsUndropped, IsUndroppedDamage, KeepsGroups}
use Rattle.edge_changes.specs.EdgeDeleting.IsUndropped.{Astray, BadLink, HighMark, NoKind}

-- ---- the group of a head

pub head_group : (records : Records) (head : Head) (node : ℕ) → head.key.file ≡ format.groups_file → IsHeadOf records head node
    → HasGroup records node head.key.id
head_group records head node file (inl o) = absurd (let f = ap (λ (h : Head). h.key.file) o.is in omega arith)
head_group records head node file (inr o) = record {
  dense = o.dense;
  row = o.row;
  group = ap (λ (k : Key). group_at records k.id) o.key ∙ o.group;
  owner =
      o.owner;
}

module _ (records : Records) (node g : ℕ) (has : HasGroup records node g) where
  used : (kind_at records format.groups_file g ≢ 0) × (group_in (rec_at records format.groups_file g) g ≡ has.row)
  used = some_row (kind_at records format.groups_file g) (group_in (rec_at records format.groups_file g) g) has.row has.group

  pub group_owned : IsOwnedBy records node g
  group_owned = record { used = used.0; owner = ap (λ (r : views.GroupRow). r.owner) used.1 ∙ has.owner }

-- ---- what is met is so of the space before

link_on : (s t : State) (l k : ℕ) (named damage : Damage) → l ≡ k → group_mark t ≡ group_mark s → t.shape ≡ s.shape → IsLinkDamage t l named damage
    → IsLinkDamage s k named damage
link_on s t l k named damage is mark shape (LeadsNowhere some above) = LeadsNowhere (λ e. some (is ∙ e)) (let m = mark in omega (arith, above, is, m))
link_on s t l k named damage is mark shape (HighLink above) = HighLink (let m = mark in let r : group_room t ≡ group_room s = ap
    (λ (h : Shape). room_of h format.groups_file) shape in omega (arith, above, m, r))

-- a link that another group's removal left
link_left : (s t : State) (l k : ℕ) (named damage : Damage) → IsSameOrLow t l k → group_mark t ≡ group_mark s → t.shape ≡ s.shape
    → IsLinkDamage t l named damage → IsLinkDamage s k named damage
link_left s t l k named damage (inl is) mark shape told = link_on s t l k named damage is mark shape told
link_left s t l k named damage (inr low) mark shape (LeadsNowhere some above) = absurd (⊎_elim some (λ (b : l < group_mark t). omega (arith, b, above)) low)
link_left s t l k named damage (inr low) mark shape (HighLink above) = HighLink
    (let m = mark in let r : group_room t ≡ group_room s = ap (λ (h : Shape). room_of h format.groups_file) shape in omega (arith, above, m, r))

-- a kind that there isn't is told by the kind alone
no_kind : (r q : Rec) → field 1 r format.kind ≡ field 1 q format.kind → layout_of format.groups_file r ≡ None → layout_of format.groups_file q ≡ None
no_kind r q same none = ap (layout_by format.groups_file q) (sym same) ∙ none

-- where no group was dropped before
pub met_here : (s : State) (n g : ℕ) → HasGroup s.records n g → (d : Damage) → IsDropDamage s n g d → IsUndropped s n g d
met_here s n g has d (BadMember _ (NoMember none)) = absurd (none (group_owned s.records n g has))
met_here s n g has d (BadMember _ (UnknownMember low none)) = NoKind low none
met_here s n g has d (BadMember _ (HighMember above)) = HighMark above
met_here s n g has d (BadPrevious _ bad) = BadLink (previous_group s.records g) (inl refl) d bad
met_here s n g has d (BadNext _ bad) = BadLink (next_group s.records g) (inr refl) d bad
met_here s n g has d (Loose out) = Astray (λ xs own. out xs own.chain)

-- where one of another node may have been
pub met_later : (s t : State) (node n g : ℕ) → KeepsOtherChains s t node → n ≢ node → HasGroup s.records n g → HasGroup t.records n g → (d : Damage)
    → IsDropDamage t n g d → IsUndropped s n g d
met_later s t node n g kept ne was has d (BadMember _ (NoMember none)) = absurd (none (group_owned t.records n g has))
met_later s t node n g kept ne was has d (BadMember _ (UnknownMember low none)) =
    NoKind (subst (λ m. g < m) kept.mark low) (no_kind (rec_at t.records format.groups_file g) (rec_at s.records format.groups_file g)
    (kept.kinds n g ne (group_owned s.records n g was)) none)
met_later s t node n g kept ne was has d (BadMember _ (HighMember above)) =
    HighMark (let m = kept.mark in let r : group_room t ≡ group_room s = ap (λ (h : Shape). room_of h format.groups_file) kept.shape in omega
    (arith, above, m, r))
met_later s t node n g kept ne was has d (BadPrevious _ bad) =
    BadLink (previous_group s.records g) (inl refl) d (link_left s t (previous_group t.records g) (previous_group s.records g) (range_damage g) d
    (kept.before n g ne (group_owned s.records n g was)) kept.mark kept.shape bad)
met_later s t node n g kept ne was has d (BadNext _ bad) =
    BadLink (next_group s.records g) (inr refl) d (link_left s t (next_group t.records g) (next_group s.records g) (range_damage g) d
    (kept.after n g ne (group_owned s.records n g was)) kept.mark kept.shape bad)
met_later s t node n g kept ne was has d (Loose out) = Astray (λ xs own. out xs (kept.chains n xs ne own))

-- before the edge left its chains
pub kept_undropped : (s t : State) (n g : ℕ) → KeepsGroups s t → HasGroup s.records n g → (d : Damage) → IsUndropped t n g d → IsUndropped s n g d
kept_undropped s t n g kept has d (NoKind low none) =
    NoKind (subst (λ m. g < m) kept.mark low) (no_kind (rec_at t.records format.groups_file g) (rec_at s.records format.groups_file g)
    (kept.numbers g 1 format.kind (omega arith)) none)
kept_undropped s t n g kept has d (BadLink l which _ bad) = ⊎_elim
    (λ (e : l ≡ previous_group t.records g). BadLink (previous_group s.records g) (inl refl) d (link_on s t l (previous_group s.records g) (range_damage g) d
    (e ∙ kept.numbers g 4 format.group_previous (omega arith)) kept.mark kept.shape bad))
    (λ (e : l ≡ next_group t.records g). BadLink (next_group s.records g) (inr refl) d (link_on s t l (next_group s.records g) (range_damage g) d
    (e ∙ kept.numbers g 4 format.group_next (omega arith)) kept.mark kept.shape bad)) which
kept_undropped s t n g kept has d (HighMark above) =
    HighMark (let m = kept.mark in let r : group_room t ≡ group_room s = ap (λ (h : Shape). room_of h format.groups_file) kept.shape in omega
    (arith, above, m, r))
kept_undropped s t n g kept has d (Astray out) = Astray (λ xs own. out xs (record {
  chain = subst (λ z. IsChain (next_group t.records) (previous_group t.records) format.nil z xs) (sym (kept.first n has.dense))
      (chain_stays (next_group s.records) (previous_group s.records) (next_group t.records) (previous_group t.records) format.nil (first_link s.records n) xs
      (λ x i. kept.numbers x 4 format.group_next (omega arith)) (λ x i. kept.numbers x 4 format.group_previous (omega arith)) own.chain);
  only = λ h i. record {
    used = λ e. (own.only h i).used (sym (kind h) ∙ e);
    owner = kept.numbers h 4 format.group_owner (omega arith) ∙ (own.only h i).owner;
  };
}))
  where
    kind : (h : ℕ) → kind_at t.records format.groups_file h ≡ kind_at s.records format.groups_file h
    kind h = ap (λ m. kind_in m (rec_at t.records format.groups_file h) h) kept.mark
        ∙ kind_by (high s.records format.groups_file) (rec_at t.records format.groups_file h) (rec_at s.records format.groups_file h) h
        (kept.numbers h 1 format.kind (omega arith))

-- ---- what broke the rule

module _ (s t : State) (n g : ℕ) (alike : AreAlike s t n) (has : HasGroup t.records n g) where
  group_was : group_at s.records g ≡ Some has.row
  group_was = sym (group_row s t n alike g) ∙ has.group

  by_drop : (d : Damage) → IsDropDamage s n g d → Breaks s.records s.shape d
  by_drop d told = drop_breaks s n g has.row group_was has.owner (faults.Damaged d) told

  -- a right chain of groups is there still
  chain_now : (xs : List ℕ) → breaking.IsGroupChain s.records n xs → IsOwnChain t.records n xs
  chain_now xs right = record {
    chain = subst (λ z. IsChain (next_group t.records) (previous_group t.records) format.nil z xs)
        (sym (ap (λ (r : Rec). field 4 r format.node_first_link) alike.node))
        (chain_stays (next_group s.records) (previous_group s.records) (next_group t.records) (previous_group t.records) format.nil (first_link s.records n) xs
        (λ x i. alike.numbers x 4 format.group_next (omega arith) (omega arith)) (λ x i. alike.numbers x 4 format.group_previous (omega arith) (omega arith))
        right.chain);
    only = λ h i.
        let is = right.only h i in
        let row = some_row (kind_at s.records format.groups_file h) (group_in (rec_at s.records format.groups_file h) h) is.0 is.1 in
        owned_as t s n (alike_back s t n alike) h (record { used = row.0; owner = ap (λ (r : views.GroupRow). r.owner) row.1 ∙ is.2 });
  }

  pub undropped_broke : (d : Damage) → IsUndropped t n g d → Breaks s.records s.shape d
  undropped_broke d (NoKind low none) = by_drop d (BadMember d (UnknownMember (subst (λ m. g < m) alike.group_mark low) (kind_as s t n alike g low none)))
  undropped_broke d (BadLink l which _ bad) = ⊎_elim
      (λ (e : l ≡ previous_group t.records g). by_drop d (BadPrevious d (link_on s t l (previous_group s.records g) (range_damage g) d
      (e ∙ alike.numbers g 4 format.group_previous (omega arith) (omega arith)) alike.group_mark alike.shape bad)))
      (λ (e : l ≡ next_group t.records g). by_drop d (BadNext d (link_on s t l (next_group s.records g) (range_damage g) d
      (e ∙ alike.numbers g 4 format.group_next (omega arith) (omega arith)) alike.group_mark alike.shape bad))) which
  undropped_broke d (HighMark above) = by_drop d (BadMember d (HighMember (let m = alike.group_mark in let r : group_room t ≡ group_room s = ap
      (λ (h : Shape). room_of h format.groups_file) alike.shape in omega (arith, above, m, r))))
  undropped_broke d (Astray out) = GroupOwner g (λ keeps.
      let o = keeps.owner has.row group_was in
      out o.members (chain_now o.members (subst (λ m. breaking.IsGroupChain s.records m o.members) has.owner o.groups)) o.member)

-- ---- a head that isn't closed

-- the first one
pub close_blamed : (s u : State) (head : Head) (node : ℕ) → KeepsGroups s u → IsHeadOf s.records head node → IsHeadOf u.records head node
    → head.key.file ≡ format.groups_file → (fault : Fault) → IsDropFault u node head.key.id fault
    → IfBlames (IsUndroppedDamage s) (of_fault fault)
close_blamed s u head node kept was now file faults.Memory told = tt
close_blamed s u head node kept was now file faults.Disk told = tt
close_blamed s u head node kept was now file (faults.Damaged damage) told =
    let has = head_group s.records head node file was in (
      node,
      head.key.id,
      has,
      kept_undropped s u node head.key.id kept has damage (met_here u node head.key.id (head_group u.records head node file now)
          damage told),
    )

-- the second one
pub later_blamed : (s u v : State) (head : Head) (node n : ℕ) → KeepsGroups s u → KeepsOtherChains u v node → n ≢ node → IsHeadOf s.records head n
    → IsHeadOf u.records head n → IsHeadOf v.records head n
    → head.key.file ≡ format.groups_file → (fault : Fault) → IsDropFault v n head.key.id fault → IfBlames (IsUndroppedDamage s) (of_fault fault)
later_blamed s u v head node n kept others ne was mid now file faults.Memory told = tt
later_blamed s u v head node n kept others ne was mid now file faults.Disk told = tt
later_blamed s u v head node n kept others ne was mid now file (faults.Damaged damage) told =
    let has = head_group s.records head n file was in (
      n,
      head.key.id,
      has,
      kept_undropped s u n head.key.id kept has damage
          (met_later u v node n head.key.id others ne (head_group u.records head n file mid) (head_group v.records head n file now) damage told),
    )
