-- The chain of a sparse node, as a test meets it.
use Rattle.std.proofs.Common.{◌≡◌, ◌≢◌, ◌⊎◌, ⊎_elim, inl, inr, ℕ, ◌+◌, ◌<◌, ◌≤◌, ◌||◌, nat_eq, Bool, None, Some, true}
use Rattle.std.proofs.Common.{List, [], ◌∷◌, ◌++◌, length, refl, sym, ap, ◌∙◌, subst, arith}
use Rattle.std.proofs.lemmas.Bool.{false≢true}
use Rattle.std.proofs.lemmas.List.{append-nil, append_assoc, length_push}
use Rattle.rec_bytes.specs.declared.damage.Damage.{Damage}
use Rattle.rec_bytes.specs.declared.fault.Fault.{Fault}
use Rattle.rec_bytes.specs.declared.fault.Fault.TheVariants.{Memory, Disk, Damaged}
use Rattle.rec_bytes.specs.Format as format
use Rattle.rec_bytes.specs.Meta.{IsMetaInRange}
use Rattle.rec_bytes.specs.RecordFiles.{meta_key_of}
use Rattle.rec_bytes.specs.Space.{SameButReads, State}
use Rattle.row_store.specs.Loading.{IsRowDamage}
use Rattle.row_store.specs.Loading.IsRowDamage.{HighMark, UnknownKind}
use Rattle.store_rules.specs.Breaking.{Breaks, IsHeadChain}
use Rattle.store_rules.specs.Breaking.Breaks.{RecordRange, WrongDegree, WrongMeta}
use Rattle.rec_bytes.specs.declared.record.Rec.{Rec}
use Rattle.store_rules.specs.Chains.{In, IsChain, IsWalk, next_in, prev_in}
use Rattle.store_rules.specs.Rules.{IsEnd, IsInGroup, KeepsRules, StandsAt, degree_of, node_head, stands_in}
use Rattle.store_rules.specs.Rows.{ids}
use Rattle.store_rules.specs.Views.{Records, degree, first_link, group_at, high, kind_at, rec_at, rel_at, rel_in, row_if}
use Rattle.store_rules.proofs.Counts.{in_ids}
use Rattle.store_rules.proofs.OnceLaws.{length_once, once_walk}
use Rattle.store_rules.proofs.ViewLaws.{kind_below}
use Rattle.rel_store.specs.Loading.{row_at}
use Rattle.rel_store.specs.RelRecord.{row_of}
use Rattle.rel_store.specs.declared.rel_row.RelRow.{RelRow}
use Rattle.rel_store.proofs.Rows.{IsReadable-AreInRange, kind-row_at-Some, rel_at-Some}
use Rattle.chain_edit.specs.Breaks.{IsBreakFault}
use Rattle.chain_edit.specs.Chains.{next_of, prev_of}
use Rattle.chain_edit.proofs.Broken.{no_chain}
use Rattle.group_store.specs.Raising.{degree_damage}
use Rattle.group_store.specs.SparseChain.{AreReadable, HasChain, IsMet, IsSparseDamage, IsSparseFault, IsStepDamage, IsStepFault}
use Rattle.group_store.specs.SparseChain.IsStepDamage.{NotMet, BadRow}
use Rattle.group_store.specs.SparseChain.IsSparseDamage.{NoChain, MoreThanSaid, BadRelationship}
use Rattle.group_store.proofs.Clearing.{stands_true}
use Rattle.group_store.proofs.GroupWalks.{IsUndamaged, in_push}

-- ---- a row that was read

-- the relationship stands at its ends
pub row_stands : (records : Records) (node at : ℕ) (row : RelRow) → Some row ≡ row_at records at
    → stands_in node (rel_at records at) ≡ (nat_eq row.from node || nat_eq row.to node)
row_stands records node at row is = ap (stands_in node) (rel_at-Some records at row (sym is))

-- its links are those of its record
pub links_are : (records : Records) (node at : ℕ) (row : RelRow) (links : ℕ × ℕ) → Some row ≡ row_at records at
    → ((rec : Rec) → row ≡ row_of rec row.id → links ≡ (prev_in rec node, next_in rec node))
    → (links.0 ≡ prev_of records node at) × (links.1 ≡ next_of records node at)
links_are records node at row links is of =
    let rec = rec_at records format.relationships_file at in
    let row_is : row_of rec at ≡ row = (kind-row_at-Some records at row (sym is)).1 in
    let e = of rec (sym row_is ∙ ap (row_of rec) (ap (λ (q : RelRow). q.id) row_is)) in
    (ap (λ (p : ℕ × ℕ). p.0) e, ap (λ (p : ℕ × ℕ). p.1) e)

-- ---- what is left of a chain

-- All of the chain but the first so many is left, from this one on, and each stands at the node.
pub record HasTail (s : State) (node before at n : ℕ) (xs : List ℕ) : Type 0 where
  pub left : List ℕ
  pub chain : IsChain (next_of s.records node) (prev_of s.records node) before at left
  pub only : (x : ℕ) → In x left → StandsAt (rel_at s.records) (group_at s.records) (node_head node) x
  pub among : (x : ℕ) → In x left → In x xs
  pub many : length left + n ≡ length xs

pub tail_all : (s : State) (node first : ℕ) (xs : List ℕ) → first ≡ first_link s.records node → IsHeadChain s.records (node_head node) node xs
    → HasTail s node format.nil first 0 xs
tail_all s node first xs is c = record {
  left = xs;
  chain = subst (λ f. IsChain (next_of s.records node) (prev_of s.records node) format.nil f xs) (sym is) c.chain;
  only = c.only;
  among = λ x i. i;
  many = omega arith;
}

end_stands : (s : State) (node x : ℕ) → StandsAt (rel_at s.records) (group_at s.records) (node_head node) x → stands_in node (rel_at s.records x) ≡ true
end_stands s node x a = ap (stands_in node) a.live ∙ stands_true node a.row (end_of a.on)
  where
    end_of : ((format.nodes_file ≡ format.nodes_file) × IsEnd node a.row)
        ⊎ ((format.nodes_file ≡ format.groups_file) × IsInGroup (group_at s.records) (node_head node) a.row) → IsEnd node a.row
    end_of (inl k) = k.1
    end_of (inr k) = absurd (let z = k.0 in omega arith)

module _ (s : State) (node before at n : ℕ) (xs : List ℕ) (some : at ≢ format.nil) (t : HasTail s node before at n xs) where
  tail_first : {P : Type 0} → ((ys : List ℕ) → IsChain (next_of s.records node) (prev_of s.records node) before at (at ∷ ys) → ((x : ℕ) → In x (at ∷ ys)
      → In x t.left) → length ys + (n + 1) ≡ length xs → P) → P
  tail_first {P} found = by t.left t.chain (λ x i. i) t.many
    where
      by : (ys : List ℕ) → IsChain (next_of s.records node) (prev_of s.records node) before at ys → ((x : ℕ) → In x ys → In x t.left)
          → length ys + n ≡ length xs → P
      by [] chain from many = absurd (some chain)
      by (y ∷ ys) chain from many = found ys (subst (λ z. IsChain (next_of s.records node) (prev_of s.records node) before at (z ∷ ys)) (sym chain.0) chain)
          (λ x i. from x (subst (λ z. In x (z ∷ ys)) chain.0 i)) (omega arith)

  pub tail_in : In at xs
  tail_in = tail_first (λ ys chain from many. t.among at (from at (inl refl)))

  pub tail_low : n < length xs
  tail_low = tail_first (λ ys chain from many. omega arith)

  pub tail_met : IsMet s.records node before at
  tail_met = tail_first (λ ys chain from many. record { stands = end_stands s node at (t.only at (from at (inl refl))); back = chain.2 })

  pub tail_next : (next : ℕ) → next_of s.records node at ≡ next → HasTail s node at next (n + 1) xs
  tail_next next link = tail_first (λ ys chain from many. record {
    left = ys;
    chain = subst (λ z. IsChain (next_of s.records node) (prev_of s.records node) at z ys) link chain.3;
    only = λ x i. t.only x (from x (inr i));
    among = λ x i. t.among x (from x (inr i));
    many = many;
  })

-- ---- what was met

-- so many were met, which lead back from the last one to none
pub record HasMet (s : State) (node before n : ℕ) : Type 0 where
  pub met : List ℕ
  pub walk : IsWalk (prev_of s.records node) before met
  pub long : length met ≡ n
  pub are : (x : ℕ) → In x met → stands_in node (rel_at s.records x) ≡ true

pub met_none : (s : State) (node : ℕ) → HasMet s node format.nil 0
met_none s node = record { met = []; walk = refl; long = refl; are = λ x i. elim i [ ] }

pub met_more : (s : State) (node before at n : ℕ) → at ≢ format.nil → IsMet s.records node before at → HasMet s node before n → HasMet s node at (n + 1)
met_more s node before at n some here m = record {
  met = at ∷ m.met;
  walk = (refl, some, subst (λ z. IsWalk (prev_of s.records node) z m.met) (sym here.back) m.walk);
  long = let e = m.long in omega arith;
  are = λ x i. ⊎_elim (λ e. subst (λ z. stands_in node (rel_at s.records z) ≡ true) (sym e) here.stands) (λ j. m.are x j) i;
}

stands_low : (s : State) (node x : ℕ) → stands_in node (rel_at s.records x) ≡ true → x < high s.records format.relationships_file
stands_low s node x is =
    let r = rec_at s.records format.relationships_file x in
    kind_below (high s.records format.relationships_file) r x (λ e. false≢true (ap (λ k. stands_in node (row_if k (rel_in r x))) (sym e) ∙ is))

-- no more than the node has
pub met_few : (s : State) (node before n : ℕ) → HasMet s node before n → n ≤ degree_of (rel_at s.records) (high s.records format.relationships_file) node
met_few s node before n m =
    let mark = high s.records format.relationships_file in
    let test : ℕ → Bool = λ x. stands_in node (rel_at s.records x) in
    let le = length_once m.met (ids test mark) (once_walk (prev_of s.records node) before m.met m.walk)
    (λ x i. in_ids test mark x (stands_low s node x (m.are x i)) (m.are x i)) in
    let e = m.long in
    omega arith

-- ---- damage

row_read : (s : State) (n x : ℕ) (damage : Damage) → IsRowDamage format.relationships_file (record s { reads = n }) x damage
    → IsRowDamage format.relationships_file s x damage
row_read s n x damage (HighMark above) = HighMark above
row_read s n x damage (UnknownKind low unknown) = UnknownKind low unknown

-- a step that fails
pub step_told : (s z : State) (node count before at n : ℕ) → SameButReads s z → at ≢ format.nil
    → ((xs : List ℕ) → IsHeadChain s.records (node_head node) node xs → HasTail s node before at n xs)
    → (fault : Fault) → IsStepFault z node before at fault → IsSparseFault s node count fault
step_told s z node count before at n same some tail Memory told = tt
step_told s z node count before at n same some tail Disk told = tt
step_told s z node count before at n same some tail (Damaged damage) told = by damage (subst (λ (q : State). IsStepDamage q node before at damage) same told)
  where
    by : (damage : Damage) → IsStepDamage (record s { reads = z.reads }) node before at damage → IsSparseDamage s node count damage
    by damage (NotMet lacks) = NoChain (λ xs c. lacks (tail_met s node before at n xs some (tail xs c)))
    by damage (BadRow d bad) = BadRelationship at d (row_read s z.reads at d bad)

-- none does in a chain of relationships that can be read
pub step_sound : (s z : State) (node before at n : ℕ) (xs : List ℕ) → SameButReads s z → at ≢ format.nil → AreReadable s xs → HasTail s node before at n xs
    → (fault : Fault) → IsStepFault z node before at fault → IsUndamaged fault
step_sound s z node before at n xs same some readable tail Memory told = tt
step_sound s z node before at n xs same some readable tail Disk told = tt
step_sound s z node before at n xs same some readable tail (Damaged damage) told =
    by damage (subst (λ (q : State). IsStepDamage q node before at damage) same told)
  where
    row : (d : Damage) → IsRowDamage format.relationships_file (record s { reads = z.reads }) at d → ⊥
    row d (HighMark above) = let few = (readable at (tail_in s node before at n xs some tail)).mark in omega arith
    row d (UnknownKind low unknown) = (readable at (tail_in s node before at n xs some tail)).kind low unknown

    by : (damage : Damage) → IsStepDamage (record s { reads = z.reads }) node before at damage → ⊥
    by damage (NotMet lacks) = lacks (tail_met s node before at n xs some tail)
    by damage (BadRow d bad) = row d bad

-- a relationship that can't be read
pub rel_breaks : (s : State) (x : ℕ) (damage : Damage) → IsRowDamage format.relationships_file s x damage → Breaks s.records s.shape damage
rel_breaks s x damage (HighMark above) = WrongMeta format.relationships_file (omega arith)
    (λ (kept : IsMetaInRange s.shape format.relationships_file (s.records (meta_key_of format.relationships_file))). let few = kept.high in omega arith)
rel_breaks s x damage (UnknownKind low unknown) = RecordRange format.relationships_file x refl low (λ fits. let layout = fits.is in cc)

module _ (s : State) (node : ℕ) (sparse : kind_at s.records format.nodes_file node ≡ format.sparse) where
  used : kind_at s.records format.nodes_file node ≢ 0
  used e = let k = sym e ∙ sparse in omega arith

  below : node < high s.records format.nodes_file
  below = kind_below (high s.records format.nodes_file) (rec_at s.records format.nodes_file node) node used

  -- a node with more relationships than it may have
  pub many_break : (threshold : ℕ) → s.shape.threshold ≤ threshold → threshold < degree s.records node → Breaks s.records s.shape (degree_damage node)
  many_break threshold le many = WrongDegree node below (λ keeps. let few = keeps.few sparse in omega arith)

  by_damage : (count : ℕ) → count ≡ degree s.records node → (damage : Damage) → IsSparseDamage s node count damage → Breaks s.records s.shape damage
  by_damage count is damage (NoChain none) = no_chain s (node_head node) node (inl (record { sparse = sparse; is = refl })) none
  by_damage count is damage (MoreThanSaid more) = WrongDegree node below (λ keeps. let exact = keeps.exact used in omega arith)
  by_damage count is damage (BadRelationship x d bad) = rel_breaks s x d bad

  pub sparse_breaks : (count : ℕ) → count ≡ degree s.records node → (fault : Fault) → IsSparseFault s node count fault → IsBreakFault s fault
  sparse_breaks count is Memory told = tt
  sparse_breaks count is Disk told = tt
  sparse_breaks count is (Damaged damage) told = by_damage count is damage told

  -- none is told in a store that keeps the rules
  pub no_sparse_damage : (count most : ℕ) (empty : List ℕ) → count ≡ degree s.records node → KeepsRules s.records s.shape most empty → (damage : Damage)
      → IsSparseDamage s node count damage → ⊥
  no_sparse_damage count most empty is keeps damage (NoChain none) =
      let list = keeps.linked.listed.each (node_head node) node (inl (record { sparse = sparse; is = refl })) in
      none list.members (record { chain = list.chain; only = list.only })
  no_sparse_damage count most empty is keeps damage (MoreThanSaid more) = let exact = keeps.degrees.each node used in omega arith
  no_sparse_damage count most empty is keeps damage (BadRelationship x d bad) = by d bad
    where
      by : (d : Damage) → IsRowDamage format.relationships_file s x d → ⊥
      by d (HighMark above) = let few = (IsReadable-AreInRange s x keeps.ranges).mark in omega arith
      by d (UnknownKind low unknown) = (IsReadable-AreInRange s x keeps.ranges).kind low unknown

-- ---- the links from the first one on

-- so many in use were met between one and another
pub record HasCrossed (s : State) (node first at n : ℕ) : Type 0 where
  pub met : List ℕ
  pub walk : (rest : List ℕ) → IsWalk (next_of s.records node) at rest → IsWalk (next_of s.records node) first (met ++ rest)
  pub live : (x : ℕ) → In x met → rel_at s.records x ≢ None
  pub long : length met ≡ n

pub crossed_none : (s : State) (node first : ℕ) → HasCrossed s node first first 0
crossed_none s node first = record { met = []; walk = λ rest h. h; live = λ x i. elim i [ ]; long = refl }

pub crossed_more : (s : State) (node first before at next n : ℕ) → at ≢ format.nil → IsMet s.records node before at → next_of s.records node at ≡ next
    → HasCrossed s node first at n → HasCrossed s node first next (n + 1)
crossed_more s node first before at next n there here link h = record {
  met = h.met ++ at ∷ [];
  walk = λ rest w. subst (IsWalk (next_of s.records node) first) (sym (append_assoc h.met (at ∷ []) rest))
      (h.walk (at ∷ rest) (refl, there, subst (λ z. IsWalk (next_of s.records node) z rest) (sym link) w));
  live = λ x i. ⊎_elim (h.live x) (λ e none. false≢true (sym (ap (stands_in node) (ap (rel_at s.records) (sym e) ∙ none)) ∙ here.stands))
      (in_push h.met at x i);
  long = let e = h.long in length_push h.met at ∙ ap (λ m. m + 1) e;
}

pub crossed_all : (s : State) (node first at n most : ℕ) → at ≡ format.nil → n ≤ most → HasCrossed s node first at n → HasChain s.records node first most
crossed_all s node first at n most none le h = record {
  members = h.met;
  walk = subst (IsWalk (next_of s.records node) first) (append-nil h.met)
      (h.walk [] none);
  live = h.live;
  few = let e = h.long in omega arith;
}
