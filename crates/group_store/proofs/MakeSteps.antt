-- The steps in which a group is made, told by the space as it was.
use Rattle.std.proofs.Common.{◌≡◌, ◌≢◌, ◌⊎◌, ⊎_elim, inl, inr, ℕ, zero, suc, ◌<◌, ◌^◌, Bool, true, List, [], ◌∷◌}
use Rattle.std.proofs.Common.{Result, Ok, Err, refl, sym, ap, ◌∙◌, subst, arith}
use Rattle.id_freelist.specs.declared.take_fault.TakeFault.{TakeFault}
use Rattle.id_freelist.specs.declared.take_fault.TakeFault.TheVariants as take
use Rattle.id_freelist.specs.FreeLists.{IsFreeList}
use Rattle.id_freelist.specs.TakeFault.{NotDamaged}
use Rattle.id_freelist.specs.Taking.{CanTake, HasTaken, IsTakeDamage, IsTakeFault, room, taken, taken_id}
use Rattle.id_freelist.specs.Taking.IsTakeDamage.{Unranged, Unlisted, Undercounted, Overcounted, InUse, BadNext}
use Rattle.rec_bytes.specs.declared.damage.Damage.{Damage}
use Rattle.rec_bytes.specs.declared.key.Key.{Key}
use Rattle.rec_bytes.specs.declared.record.Rec.{Rec}
use Rattle.rec_bytes.specs.Format as format
use Rattle.rec_bytes.specs.Space.{IsAmong, SameButReads, State, WritesOnly, after_get, after_gets, meta_of}
use Rattle.store_rules.specs.Chains.{In}
use Rattle.store_rules.specs.Views.{Records, first_link, kind_at}
use Rattle.store_rules.proofs.ChainLaws.{walk_of_chain}
use Rattle.chain_edit.specs.Walking.{ReadsAtMost}
use Rattle.store_rules.proofs.ChainSteps.{first_in}
use Rattle.rec_bytes.specs.declared.fault.Fault.{Fault}
use Rattle.rec_bytes.specs.declared.fault.Fault.TheVariants.{Memory, Disk, Damaged}
use Rattle.group_store.specs.declared.group_row.GroupRow.{GroupRow}
use Rattle.group_store.specs.FirstGroup.{IsNodeFault}
use Rattle.group_store.specs.GroupChain.{next_group}
use Rattle.rec_bytes.specs.Fault.{OnDamage}
use Rattle.group_store.specs.OpenFault.{IfRefuses, of_fault, of_take}
use Rattle.group_store.specs.Links.{IsLinkDamage, IsRightLink}
use Rattle.group_store.specs.Links.IsLinkDamage.{LeadsNowhere, HighLink}
use Rattle.group_store.specs.Making.{CanMake, HasMade, IsMakeFault, empty_group, empty_row, led, made}
use Rattle.group_store.specs.Making.IsMakeDamage.{BadNode, BadFree}
use Rattle.group_store.proofs.Additions.{can_read}
use Rattle.group_store.proofs.GroupRecords.{group_below}
use Rattle.group_store.proofs.GroupWalks.{mark_then, room_then}
use Rattle.group_store.proofs.Makes.{has_made}

-- ---- reads change nothing else

gets_same : (n : ℕ) (s : State) → SameButReads s (after_gets n s)
unfolding after_gets
gets_same zero s = refl
gets_same (suc n) s = ap after_get (gets_same n s)

pub same_read : (n : ℕ) (s now : State) → ReadsAtMost n s now → SameButReads s now
same_read n s now reads = subst (SameButReads s) (sym reads.is) (gets_same reads.count s)

pub same_then : (a b c : State) → SameButReads a b → SameButReads b c → SameButReads a c
same_then a b c first then = then ∙ ap (λ (t : State). record t { reads = c.reads }) first

pub on_damage : {T : Type 0} (r : Result T Fault) (P : Type 0) → P → OnDamage r P
on_damage (Ok value) P p = tt
on_damage (Err Memory) P p = tt
on_damage (Err Disk) P p = tt
on_damage (Err (Damaged damage)) P p = p

pub same_writes : (s now : State) (keys : List Key) → SameButReads s now → WritesOnly s now keys
same_writes s now keys same = record { each = λ q w. inl (subst (λ (t : Key → Bool). t q ≡ true) (ap (λ (t : State). t.written) same) w) }

pub all_writes : (s now u end : State) (a b c m : Key) → SameButReads s now → WritesOnly now u (m ∷ []) → WritesOnly u end (a ∷ b ∷ c ∷ [])
    → WritesOnly s end (a ∷ b ∷ c ∷ m ∷ [])
all_writes s now u end a b c m same one three = record { each = λ q w. late q (three.each q w) }
  where
    before : (q : Key) → now.written q ≡ true → s.written q ≡ true
    before q w = subst (λ (t : Key → Bool). t q ≡ true) (ap (λ (t : State). t.written) same) w

    early : (q : Key) → (now.written q ≡ true) ⊎ IsAmong q (m ∷ []) → (s.written q ≡ true) ⊎ IsAmong q (a ∷ b ∷ c ∷ m ∷ [])
    early q (inl w) = inl (before q w)
    early q (inr i) = inr (inr (inr (inr i)))

    late : (q : Key) → (u.written q ≡ true) ⊎ IsAmong q (a ∷ b ∷ c ∷ []) → (s.written q ≡ true) ⊎ IsAmong q (a ∷ b ∷ c ∷ m ∷ [])
    late q (inl w) = early q (one.each q w)
    late q (inr (inl e)) = inr (inl e)
    late q (inr (inr (inl e))) = inr (inr (inl e))
    late q (inr (inr (inr (inl e)))) = inr (inr (inr (inl e)))
    late q (inr (inr (inr (inr i)))) = elim i [ ]

-- ---- damage

pub node_told : (s : State) (node : ℕ) (fault : Fault) → IsNodeFault s node fault → IsMakeFault s node (of_fault fault)
node_told s node Memory told = tt
node_told s node Disk told = tt
node_told s node (Damaged damage) told = BadNode damage told

pub link_told : (s now : State) (n first was : ℕ) (named damage : Damage) → now ≡ after_gets n s → first ≡ was → IsLinkDamage now first named damage
    → IsLinkDamage s was named damage
link_told s now n first was named damage reads is told = subst (λ l. IsLinkDamage s l named damage) is (by damage told)
  where
    by : (damage : Damage) → IsLinkDamage now first named damage → IsLinkDamage s first named damage
    by damage (LeadsNowhere some high) = LeadsNowhere some (let mark = mark_then s now n reads in omega arith)
    by damage (HighLink above) = HighLink (let mark = mark_then s now n reads in let room = room_then s now n reads in omega arith)

-- a chain that is right has a first link that is right
pub right_first : (s now : State) (n node label first : ℕ) (free xs : List ℕ) → now ≡ after_gets n s → first ≡ first_link s.records node
    → CanMake s node label free xs → IsRightLink now first
right_first s now n node label first free xs reads is can =
    let mark = mark_then s now n reads in
    let room = room_then s now n reads in
    let le = can.take.mark in
    let walk = walk_of_chain _ _ format.nil (first_link s.records node) xs can.chain.chain in
    record {
      low = ⊎_elim (λ (none : first_link s.records node ≡ format.nil). inl (is ∙ none))
          (λ (i : In (first_link s.records node) xs). inr (let lt = group_below s.records node (first_link s.records node)
          (can.chain.only (first_link s.records node) i) in omega arith))
          (first_in (next_group s.records) (first_link s.records node) xs walk);
      mark = omega arith;
    }

take_read : (s : State) (damage : Damage) → IsTakeDamage (after_get s) format.groups_file damage → IsTakeDamage s format.groups_file damage
take_read s damage (Unranged h) = Unranged h
take_read s damage (Unlisted x a b c) = Unlisted x a b c
take_read s damage (Undercounted a b c) = Undercounted a b c
take_read s damage (Overcounted a b) = Overcounted a b
take_read s damage (InUse a b) = InUse a b
take_read s damage (BadNext a b c d) = BadNext a b c d

pub take_told : (s now : State) (node : ℕ) (fault : TakeFault) → now ≡ after_get s → IsTakeFault now format.groups_file fault
    → IsMakeFault s node (of_take fault)
take_told s now node fault read told = by fault (subst (λ (t : State). IsTakeFault t format.groups_file fault) read told)
  where
    by : (fault : TakeFault) → IsTakeFault (after_get s) format.groups_file fault → IsMakeFault s node (of_take fault)
    by (take.Full file live) told = (told.1, told.2)
    by take.Memory told = tt
    by take.Disk told = tt
    by (take.Damaged damage) told = BadFree damage (take_read s damage told)

-- a list that can give an identifier gives one where there is room
pub take_right : (s now : State) (free : List ℕ) (fault : TakeFault) → now ≡ after_get s → CanTake s format.groups_file free
    → (meta_of s format.groups_file).live ≢ room s format.groups_file → IsTakeFault now format.groups_file fault
    → (CanTake now format.groups_file free → NotDamaged {T = ℕ} (Err fault)) → IfRefuses ⊥ (of_take fault)
take_right s now free fault read can some told sound = by fault (subst (λ (q : State). IsTakeFault q format.groups_file fault) read told)
    (sound (subst (λ (q : State). CanTake q format.groups_file free) (sym read) (can_read s (after_get s).reads free can)))
  where
    by : (fault : TakeFault) → IsTakeFault (after_get s) format.groups_file fault → NotDamaged {T = ℕ} (Err fault) → IfRefuses ⊥ (of_take fault)
    by (take.Full file live) told right = some (sym told.1 ∙ told.2)
    by take.Memory told right = tt
    by take.Disk told right = tt
    by (take.Damaged damage) told right = right

-- ---- the end

pub made_is : (s now u end : State) (node label first id : ℕ) (rec : Rec) → now ≡ after_get s → u ≡ taken now format.groups_file
    → first ≡ first_link s.records node
    → id ≡ taken_id (meta_of now format.groups_file) → rec ≡ empty_group node label first → end ≡ led u node first id rec → end ≡ made s node label
unfolding made
made_is s now u end node label first id rec read took first_is id_is rec_is is =
    let at = taken (after_get s) format.groups_file in
    let was = first_link s.records node in
    let new = taken_id (meta_of s format.groups_file) in
    is ∙ ap (λ (t : State). led t node first id rec) (took ∙ ap (λ (t : State). taken t format.groups_file) read)
    ∙ ap (λ f. led at node f id rec) first_is
    ∙ ap (λ i. led at node was i rec) (id_is ∙ ap (λ (t : State). taken_id (meta_of t format.groups_file)) read)
    ∙ ap (λ (r : Rec). led at node was new r) (rec_is ∙ ap (empty_group node label) first_is)

pub made_has : (s now u end : State) (node label first id : ℕ) (rec : Rec) (row : GroupRow) (free xs : List ℕ) → now ≡ after_get s
    → (IsFreeList now.records format.groups_file free → HasTaken now.records u.records format.groups_file id free)
    → kind_at now.records format.groups_file id ≡ 0
    → first ≡ first_link s.records node → rec ≡ empty_group node label first → end ≡ led u node first id rec → row ≡ empty_row id label
    → id < 2 ^ 25 → node < 2 ^ 32 → label < 2 ^ 32 → CanMake s node label free xs → HasMade s.records end.records node label row free xs
made_has s now u end node label first id rec row free xs read took fresh first_is rec_is is row_is small small_node small_label can =
    let same : now.records ≡ s.records = ap (λ (t : State). t.records) read in
    let was = first_link s.records node in
    let end_is : end ≡ led u node was id (empty_group node label was) = is ∙ ap (λ f. led u node f id rec) first_is
    ∙ ap (λ (r : Rec). led u node was id r) (rec_is ∙ ap (empty_group node label) first_is) in
    let has_taken : HasTaken s.records u.records format.groups_file id free
    = subst (λ (r : Records). HasTaken r u.records format.groups_file id free) same
    (took (subst (λ (r : Records). IsFreeList r format.groups_file free) (sym same) can.take.list)) in
    let unused : kind_at s.records format.groups_file id ≡ 0 = ap (λ (r : Records). kind_at r format.groups_file id) (sym same) ∙ fresh in
    subst (λ (t : State). HasMade s.records t.records node label row free xs) (sym end_is)
    (subst (λ (r : GroupRow). HasMade s.records (led u node was id (empty_group node label was)).records node label r free xs) (sym row_is)
    (has_made s u node label id free xs can.chain can.lacks can.take has_taken unused small small_node small_label))
