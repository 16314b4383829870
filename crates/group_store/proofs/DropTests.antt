-- What is tested beside a group before it is dropped, and what is left then.
use Rattle.std.proofs.Common.{◌≡◌, ◌≢◌, ℕ, nat_eq, true, false, List, [], ◌∷◌, sym, ap, ◌∙◌, subst, ⊎_elim, refl}
use Rattle.node_store.specs.NodeRecord.{node_key}
use Rattle.rec_bytes.specs.declared.fault.Fault.{Fault}
use Rattle.rec_bytes.specs.declared.fault.Fault.TheVariants.{Memory, Disk, Damaged}
use Rattle.rec_bytes.specs.declared.key.Key.{Key}
use Rattle.rec_bytes.specs.declared.record.Rec.{Rec}
use Rattle.rec_bytes.specs.Format as format
use Rattle.rec_bytes.specs.Record.{with_field}
use Rattle.rec_bytes.specs.Space.{SameButReads, State, WritesOnly, after_get, after_put}
use Rattle.rec_bytes.proofs.Spaces.{put_other, writes_then}
use Rattle.store_rules.specs.Chains.{In}
use Rattle.store_rules.specs.Views.{Records, first_link}
use Rattle.store_rules.proofs.ChainSteps.{eq_cases, on_test}
use Rattle.chain_edit.proofs.Beside.{apart_member, back_member, led_member, other_member}
use Rattle.group_store.specs.Dropping.{IsAstrayFault, IsBehind, IsDropFault, IsLinkChain, IsLinkedIn, IsOnChain, follows, leads_to, put_back, put_led, seen}
use Rattle.group_store.specs.Dropping.IsDropDamage.{Astray}
use Rattle.group_store.specs.GroupChain.{next_group, previous_group}
use Rattle.group_store.specs.GroupRecord.{group_key}
use Rattle.group_store.specs.Links.{backed, link_set}
use Rattle.group_store.proofs.DropSteps.{same_one}
use Rattle.group_store.proofs.GroupWalks.{IsUndamaged}
use Rattle.group_store.proofs.MakeSteps.{same_then, same_writes}

-- the tests hold of a member of a right chain
pub chain_linked : (records : Records) (node g : ℕ) (xs : List ℕ) → IsLinkChain records node xs → In g xs → IsLinkedIn records node g
chain_linked records node g xs chain member = record {
  led = led_member (next_group records) (previous_group records) (first_link records node) xs g chain member;
  behind = λ some. record {
    back = back_member (next_group records) (previous_group records) format.nil (first_link records node) xs g chain member some;
    other = other_member (next_group records) (previous_group records) (first_link records node) xs g chain member;
    apart = apart_member (next_group records) (previous_group records) (first_link records node) xs g chain member some;
  };
}

-- where a test fails, it is in none
abbrev pub IsLoose : State → ℕ → ℕ → Fault → Type 0
IsLoose s node g fault = IsAstrayFault (IsLinkedIn s.records node g → ⊥) g fault

pub behind_loose : (s t : State) (node g before after : ℕ) (fault : Fault) → t ≡ after_get s → before ≡ previous_group s.records g
    → after ≡ next_group s.records g
    → IsAstrayFault ((after ≢ format.nil) × (IsBehind t.records g before after → ⊥)) g fault → IsLoose s node g fault
behind_loose s t node g before after Memory read b a told = tt
behind_loose s t node g before after Disk read b a told = tt
behind_loose s t node g before after (Damaged damage) read b a told = (
  told.0,
  λ linked.
      told.1.1 (subst (λ (z : State). IsBehind z.records g before after) (sym read)
      (subst (λ x. IsBehind s.records g x after) (sym b) (subst (λ x. IsBehind s.records g (previous_group s.records g) x) (sym a)
      (linked.behind (λ none. told.1.0 (a ∙ none)))))),
)

pub lead_loose : (s t : State) (node g before : ℕ) (fault : Fault) → t.records ≡ s.records → before ≡ previous_group s.records g
    → IsAstrayFault (leads_to t.records node before ≢ g) g fault → IsLoose s node g fault
lead_loose s t node g before Memory same b told = tt
lead_loose s t node g before Disk same b told = tt
lead_loose s t node g before (Damaged damage) same b told = (
  told.0,
  λ linked.
      told.1 (ap (λ (r : Records). leads_to r node before) same ∙ ap (λ x. leads_to s.records node x) b ∙ linked.led),
)

pub loose_told : (s : State) (node g : ℕ) (fault : Fault) → IsLoose s node g fault → IsDropFault s node g fault
loose_told s node g Memory told = tt
loose_told s node g Disk told = tt
loose_told s node g (Damaged damage) told = subst (λ d. IsDropFault s node g (Damaged d)) (sym told.0)
    (Astray (λ xs chain i. told.1 (chain_linked s.records node g xs chain i)))

pub loose_undamaged : (s : State) (node g : ℕ) (xs : List ℕ) (fault : Fault) → IsOnChain s node g xs → IsLoose s node g fault → IsUndamaged fault
loose_undamaged s node g xs Memory on told = tt
loose_undamaged s node g xs Disk on told = tt
loose_undamaged s node g xs (Damaged damage) on told = told.1 (chain_linked s.records node g xs on.chain.chain on.member)

-- ---- reads
pub seen_records : (t : State) (x : ℕ) → (seen t x).records ≡ t.records
unfolding seen
seen_records t x = on_test (λ (z : State). z.records ≡ t.records) x format.nil t (after_get t) (λ _. refl) (λ _. refl)

same_seen : (t : State) (x : ℕ) → SameButReads t (seen t x)
unfolding seen
same_seen t x = on_test (λ (z : State). SameButReads t z) x format.nil t (after_get t) (λ _. refl) (λ _. refl)

pub same_three : (s t u v : State) (after : ℕ) → t ≡ after_get s → u ≡ seen t after → v ≡ after_get u → SameButReads s v
same_three s t u v after first then last = same_then s u v (same_then s t u (same_one s t first) (subst (SameButReads t) (sym then) (same_seen t after)))
    (same_one u v last)

-- ---- what is written
pub lead_writes : (s now b f : State) (after lead group meta : Key) → SameButReads s now → WritesOnly now b (after ∷ []) → WritesOnly b f (lead ∷ [])
    → WritesOnly s f (after ∷ lead ∷ group ∷ meta ∷ [])
lead_writes s now b f after lead group meta same one two =
    writes_then s f f (after ∷ lead ∷ []) (group ∷ meta ∷ []) (writes_then s b f (after ∷ []) (lead ∷ []) (writes_then s now b [] (after ∷ [])
    (same_writes s now [] same) one) two) (same_writes f f _ refl)

pub all_writes : (s now b f end : State) (after lead group meta : Key) → SameButReads s now → WritesOnly now b (after ∷ []) → WritesOnly b f (lead ∷ [])
    → WritesOnly f end (group ∷ meta ∷ [])
    → WritesOnly s end (after ∷ lead ∷ group ∷ meta ∷ [])
all_writes s now b f end after lead group meta same one two three =
    writes_then s f end (after ∷ lead ∷ []) (group ∷ meta ∷ []) (writes_then s b f (after ∷ []) (lead ∷ []) (writes_then s now b [] (after ∷ [])
    (same_writes s now [] same) one) two) three

-- ---- the state
back_is : (t : State) (x to : ℕ) (r : Rec) → (x ≢ format.nil → r ≡ t.records (group_key x)) → put_back (after_get (seen t x)) x to r ≡ after_get (backed t x to)
unfolding put_back seen backed
back_is t x to r got = ⊎_elim
    (λ (e : (x ≡ format.nil) × (nat_eq x format.nil ≡ true)). rw e.1 refl)
    (λ (e : (x ≢ format.nil) × (nat_eq x format.nil ≡ false)). rw e.1 (ap (λ q. after_put (after_get (after_get t)) (group_key x)
    (with_field 4 q format.group_previous to)) (got e.0)))
    (eq_cases x format.nil)

led_is : (t : State) (node before after : ℕ) (r : Rec) → (before ≡ format.nil → r ≡ t.records (node_key node))
    → (before ≢ format.nil → r ≡ t.records (group_key before))
    → put_led (after_get t) node before after r ≡ follows t node before after
unfolding put_led follows
led_is t node before after r none some = ⊎_elim
    (λ (e : (before ≡ format.nil) × (nat_eq before format.nil ≡ true)). rw e.1 (ap (λ q. after_put (after_get t) (node_key node)
    (with_field 4 q format.node_first_link after)) (none e.0)))
    (λ (e : (before ≢ format.nil) × (nat_eq before format.nil ≡ false)). rw e.1 (ap (λ q. after_put (after_get t) (group_key before)
    (with_field 4 q format.group_next after)) (some e.0)))
    (eq_cases before format.nil)

backed_other : (t : State) (x to : ℕ) (key : Key) → (x ≢ format.nil → key ≢ group_key x) → (backed t x to).records key ≡ t.records key
unfolding backed
backed_other t x to key ne = on_test (λ (z : State). z.records key ≡ t.records key) x format.nil t (link_set t x format.group_previous to)
    (λ _. refl) (λ some. put_other t.records (group_key x) (with_field 4 (t.records (group_key x)) format.group_previous to) key (ne some))

no_node : (node x : ℕ) → node_key node ≢ group_key x
no_node node x e = let f = ap (λ (k : Key). k.file) e in absurd cc

-- the calls have read, tested and written these
pub follows_is : (s1 s2 s3 s4 s5 : State) (node g before after : ℕ) (behind lead : Rec) → s2 ≡ seen s1 after → s3 ≡ after_get s2
    → s4 ≡ put_back s3 after before behind → s5 ≡ put_led s4 node before after lead
    → (after ≢ format.nil → behind ≡ s1.records (group_key after)) → (before ≡ format.nil → lead ≡ s2.records (node_key node))
    → (before ≢ format.nil → lead ≡ s2.records (group_key before))
    → (after ≢ format.nil → IsBehind s1.records g before after) → s5 ≡ follows (backed s1 after before) node before after
follows_is s1 s2 s3 s4 s5 node g before after behind lead two three four five got_behind got_node got_before tested =
    let same : s2.records ≡ s1.records = ap (λ (z : State). z.records) two ∙ seen_records s1 after in
    let e4 : s4 ≡ after_get (backed s1 after before) = four ∙ ap (λ (z : State). put_back z after before behind) (three ∙ ap after_get two)
    ∙ back_is s1 after before behind got_behind in
    five ∙ ap (λ (z : State). put_led z node before after lead) e4
    ∙ led_is (backed s1 after before) node before after lead
    (λ none. got_node none ∙ ap (λ (r : Records). r (node_key node)) same ∙ sym (backed_other s1 after before (node_key node) (λ _. no_node node after)))
    (λ some. got_before some ∙ ap (λ (r : Records). r (group_key before)) same ∙ sym (backed_other s1 after before (group_key before)
    (λ there e. (tested there).apart (sym (ap (λ (k : Key). k.id) e)))))

pub linked_is : (s s1 s2 : State) (node g before after : ℕ) → s1 ≡ after_get s → s2 ≡ seen s1 after → before ≡ previous_group s.records g
    → after ≡ next_group s.records g
    → (after ≢ format.nil → IsBehind s1.records g before after) → leads_to s2.records node before ≡ g → IsLinkedIn s.records node g
linked_is s s1 s2 node g before after one two b a behind led =
    let same_one : s1.records ≡ s.records = ap (λ (z : State). z.records) one in
    let same : s2.records ≡ s.records = ap (λ (z : State). z.records) two ∙ seen_records s1 after ∙ same_one in
    record {
      led = ap (λ x. leads_to s.records node x) (sym b) ∙ ap (λ (r : Records). leads_to r node before) (sym same) ∙ led;
      behind = λ some. subst (λ x. IsBehind s.records g x (next_group s.records g)) b (subst (λ x. IsBehind s.records g before x) a
          (subst (λ (r : Records). IsBehind r g before after) same_one (behind (λ none. some (sym a ∙ none)))));
    }
