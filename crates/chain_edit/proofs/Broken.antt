-- Damage that breaks a rule.
use Rattle.std.proofs.Common.{◌≡◌, ◌≢◌, ℕ, ◌<◌, ◌≤◌, true, Some, List, sym, ap, ◌∙◌, subst, inl, inr, ⊎_elim, arith, refl}
use Rattle.rec_bytes.specs.declared.damage.Damage.{Damage}
use Rattle.rec_bytes.specs.declared.fault.Fault.{Fault}
use Rattle.rec_bytes.specs.declared.fault.Fault.TheVariants.{Memory, Disk, Damaged}
use Rattle.rec_bytes.specs.declared.key.Key.{Key}
use Rattle.rec_bytes.specs.Format as format
use Rattle.rec_bytes.specs.Meta.{IsMetaInRange}
use Rattle.rec_bytes.specs.Record.{field}
use Rattle.rec_bytes.specs.RecordFiles.{meta_key_of}
use Rattle.rec_bytes.specs.Space.{State}
use Rattle.store_rules.specs.Breaking.{Breaks, IsChainHead, IsGroupHeadOf, IsHeadChain, IsHeadOf, group_head}
use Rattle.store_rules.specs.Breaking.Breaks.{GroupChains, NodeChain, RecordRange, WrongMeta}
use Rattle.store_rules.specs.Ranges.{Fits}
use Rattle.store_rules.specs.Rules.{Head, StandsAt, first_of}
use Rattle.store_rules.specs.Views.{RelRow, group_at, group_in, high, key_in, kind_at, rec_at, rel_at, rel_in}
use Rattle.store_rules.proofs.LinkFits.{IsLow}
use Rattle.store_rules.proofs.ViewLaws.{kind_below, kind_low, some_row}
use Rattle.rel_store.specs.Loading.{mark_damage, rel_mark, rel_room}
use Rattle.rel_store.specs.RelRecord.{range_damage}
use Rattle.chain_edit.specs.Chains.{next_of, prev_of}
use Rattle.chain_edit.specs.Breaks.{IsBreakFault}
use Rattle.chain_edit.specs.Length.{IsLengthDamage, IsLengthFault, IsMemberChain, stands}
use Rattle.chain_edit.specs.Length.IsLengthDamage.{NoChain, HighMark as HighLength}
use Rattle.chain_edit.specs.Links.{IsLinkDamage}
use Rattle.chain_edit.specs.Links.IsLinkDamage.{LeadsNowhere, HighMark as HighLink}
use Rattle.chain_edit.specs.Pushing.{first_damage}
use Rattle.chain_edit.specs.Walking.{IsSoundWalk, IsWalkDamage, IsWalkFault, chain_damage}
use Rattle.chain_edit.specs.Walking.IsWalkDamage.{NoWalk, HighMark}
use Rattle.chain_edit.specs.declared.members.Members.{Members}
use Rattle.chain_edit.proofs.InRange.{group_low, next_low, prev_low, sparse_low}
use Rattle.chain_edit.proofs.Walks.{sound_below}

-- ---- the first rule

-- a meta record that counts more relationships than there is room for
pub mark_breaks : (s : State) → rel_room s < rel_mark s → Breaks s.records s.shape mark_damage
mark_breaks s above = WrongMeta format.relationships_file (omega arith)
    (λ (kept : IsMetaInRange s.shape format.relationships_file (s.records (meta_key_of format.relationships_file))). let few = kept.high in omega arith)

not_low : (mark link : ℕ) → link ≢ format.nil → mark ≤ link → IsLow mark link → ⊥
not_low mark link some above low = ⊎_elim (λ (e : link ≡ format.nil). some e) (λ (lt : link < mark). omega arith) low

-- a record of a relationship in use with a link that leads nowhere
pub link_breaks : (s : State) (x link : ℕ) (row : RelRow) (damage : Damage) → rel_at s.records x ≡ Some row
    → (field 1 (rec_at s.records format.relationships_file x) format.kind ≢ 0 → Fits (high s.records) format.relationships_file
    (rec_at s.records format.relationships_file x) → IsLow (rel_mark s) link)
    → IsLinkDamage s link (range_damage x) damage → Breaks s.records s.shape damage
link_breaks s x link row damage live low (LeadsNowhere some above) =
    let r = rec_at s.records format.relationships_file x in
    let used = (some_row (kind_at s.records format.relationships_file x) (rel_in r x) row live).0 in
    let lt : x < rel_mark s = kind_below (rel_mark s) r x used in
    RecordRange format.relationships_file x refl lt (λ fits. not_low (rel_mark s) link some above (low (λ e. used (kind_low (rel_mark s) r x lt ∙ e)) fits))
link_breaks s x link row damage live low (HighLink above) = mark_breaks s above

pub prev_breaks : (s : State) (x n : ℕ) (row : RelRow) (damage : Damage) → rel_at s.records x ≡ Some row → IsLinkDamage s (prev_of s.records n x)
    (range_damage x) damage → Breaks s.records s.shape damage
prev_breaks s x n row damage live told = link_breaks s x (prev_of s.records n x) row damage live (λ used fits. prev_low (high s.records)
    (rec_at s.records format.relationships_file x) n used fits) told

pub next_breaks : (s : State) (x n : ℕ) (row : RelRow) (damage : Damage) → rel_at s.records x ≡ Some row → IsLinkDamage s (next_of s.records n x)
    (range_damage x) damage → Breaks s.records s.shape damage
next_breaks s x n row damage live told = link_breaks s x (next_of s.records n x) row damage live (λ used fits. next_low (high s.records)
    (rec_at s.records format.relationships_file x) n used fits) told

-- a head is that of its group
group_head_is : (head : Head) (g : ℕ) → head.key ≡ key_in format.groups_file g → head ≡ group_head g head.field
group_head_is head g key = λ i. record { key = key i; field = head.field }

group_live : (s : State) (n g place : ℕ) → IsGroupHeadOf s.records (group_head g place) n → (kind_at s.records format.groups_file g ≢ 0) ×
    (g < high s.records format.groups_file)
group_live s n g place o =
    let id : g ≡ o.row.id = ap (λ (q : Key). q.id) o.key in
    let used : kind_at s.records format.groups_file g ≢ 0 = subst (λ k. kind_at s.records format.groups_file k ≢ 0) (sym id)
    (some_row (kind_at s.records format.groups_file o.row.id) (group_in (rec_at s.records format.groups_file o.row.id) o.row.id) o.row o.group).0 in
    (used, kind_below (high s.records format.groups_file) (rec_at s.records format.groups_file g) g used)

-- a record that has a head, whose link leads nowhere
pub head_breaks : (s : State) (head : Head) (n : ℕ) (damage : Damage) → IsHeadOf s.records head n → IsLinkDamage s (first_of s.records head)
    (first_damage head.key) damage → Breaks s.records s.shape damage
head_breaks s head n damage owns (HighLink above) = mark_breaks s above
head_breaks s head n damage (inl o) (LeadsNowhere some above) = subst At (sym o.is) here some above
  where
    At : Head → Type 0
    At h = first_of s.records h ≢ format.nil → rel_mark s ≤ first_of s.records h → Breaks s.records s.shape (first_damage h.key)

    here : At (record { key = key_in format.nodes_file n; field = format.node_first_link })
    here = λ some above.
        let r = rec_at s.records format.nodes_file n in
        let lt = kind_below (high s.records format.nodes_file) r n (λ e. absurd (let k = o.sparse in omega arith)) in
        let kind : field 1 r format.kind ≡ format.sparse = sym (kind_low (high s.records format.nodes_file) r n lt) ∙ o.sparse in
        RecordRange format.nodes_file n refl lt (λ fits. not_low (rel_mark s) (field 4 r format.node_first_link) some above (sparse_low (high s.records)
        r kind fits))
head_breaks s head n damage (inr o) (LeadsNowhere some above) = subst At (sym (group_head_is head o.row.id o.key)) here o some above
  where
    At : Head → Type 0
    At h = IsGroupHeadOf s.records h n → first_of s.records h ≢ format.nil → rel_mark s ≤ first_of s.records h → Breaks s.records s.shape (first_damage h.key)

    here : At (group_head o.row.id head.field)
    here = λ own some above.
        let g = o.row.id in
        let r = rec_at s.records format.groups_file g in
        let live = group_live s n g head.field own in
        let used : field 1 r format.kind ≢ 0 = λ e. live.0 (kind_low (high s.records format.groups_file) r g live.1 ∙ e) in
        RecordRange format.groups_file g refl live.1 (λ fits. not_low (rel_mark s) (field 4 r head.field) some above (group_low (high s.records) r head.field
        own.field used fits))

-- ---- the third rule

-- what stands at a head was given out
stands_low : (s : State) (head : Head) (x : ℕ) → StandsAt (rel_at s.records) (group_at s.records) head x → x < rel_mark s
stands_low s head x at =
    let r = rec_at s.records format.relationships_file x in
    kind_below (rel_mark s) r x (some_row (kind_at s.records format.relationships_file x) (rel_in r x) at.row at.live).0

-- a head that has no chain
pub no_chain : (s : State) (head : Head) (n : ℕ) → IsChainHead s.records head n → ((members : List ℕ) → ¬ IsHeadChain s.records head n members)
    → Breaks s.records s.shape (chain_damage head.key)
no_chain s head n (inl o) none = subst At (sym o.is) here none
  where
    At : Head → Type 0
    At h = ((members : List ℕ) → ¬ IsHeadChain s.records h n members) → Breaks s.records s.shape (chain_damage h.key)

    here : At (record { key = key_in format.nodes_file n; field = format.node_first_link })
    here = λ none.
        let lt = kind_below (high s.records format.nodes_file) (rec_at s.records format.nodes_file n) n (λ e. absurd (let k = o.sparse in omega arith)) in
        NodeChain n lt (λ keeps. let c = keeps.chain o.sparse in none c.0 c.1)
no_chain s head n (inr c) none = subst At (sym (group_head_is head c.own.row.id c.own.key)) here c.own none
  where
    At : Head → Type 0
    At h = IsGroupHeadOf s.records h n → ((members : List ℕ) → ¬ IsHeadChain s.records h n members) → Breaks s.records s.shape (chain_damage h.key)

    here : At (group_head c.own.row.id head.field)
    here = λ own none.
        GroupChains c.own.row.id (group_live s n c.own.row.id head.field own).1 (n, c.on) (λ keeps. let k = keeps.chains head.field n own in none k.0 k.1)

module _ (s : State) (owner : Key) (first n : ℕ) (head : Head) (key : head.key ≡ owner) (is : first ≡ first_of s.records head)
    (owns : IsChainHead s.records head n) where
  -- a walk of a head's chain that fails, though it may meet each relationship
  pub walk_breaks : (budget : ℕ) (damage : Damage) → rel_mark s ≤ budget → IsWalkDamage s owner first n budget damage → Breaks s.records s.shape damage
  walk_breaks budget damage enough (HighMark above) = mark_breaks s above
  walk_breaks budget damage enough (NoWalk none) =
      subst (λ (k : Key). Breaks s.records s.shape (chain_damage k)) key (no_chain s head n owns (λ members c.
      let sound = sound_below s (first_of s.records head) n members c.chain (λ x i. stands_low s head x (c.only x i)) in
      none members (subst (λ f. IsSoundWalk s f n budget members) (sym is) (record {
        chain = sound.chain;
        few = let few = sound.few in omega arith;
        low =
            sound.low;
      }))))

  -- a count of it that fails
  pub length_breaks : (members : Members) (damage : Damage) → ((x : ℕ) → StandsAt (rel_at s.records) (group_at s.records) head x → stands s.records n members x
      ≡ true)
      → IsLengthDamage s owner first n members damage → Breaks s.records s.shape damage
  length_breaks members damage right (HighLength above) = mark_breaks s above
  length_breaks members damage right (NoChain none) =
      subst (λ (k : Key). Breaks s.records s.shape (chain_damage k)) key (no_chain s head n owns (λ xs c.
      none xs (subst (λ f. IsMemberChain s f n members xs) (sym is) (record {
        chain = c.chain;
        low = λ x i. stands_low s head x (c.only x i);
        are = λ x i.
            right x (c.only x i);
      }))))

  pub walk_fault_breaks : (budget : ℕ) (fault : Fault) → rel_mark s ≤ budget → IsWalkFault s owner first n budget fault → IsBreakFault s fault
  walk_fault_breaks budget Memory enough told = tt
  walk_fault_breaks budget Disk enough told = tt
  walk_fault_breaks budget (Damaged damage) enough told = walk_breaks budget damage enough told

  pub length_fault_breaks : (members : Members) (fault : Fault) → ((x : ℕ) → StandsAt (rel_at s.records) (group_at s.records) head x → stands s.records n
      members x ≡ true)
      → IsLengthFault s owner first n members fault → IsBreakFault s fault
  length_fault_breaks members Memory right told = tt
  length_fault_breaks members Disk right told = tt
  length_fault_breaks members (Damaged damage) right told = length_breaks members damage right told
