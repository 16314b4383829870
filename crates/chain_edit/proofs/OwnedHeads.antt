-- The heads that nodes own: each is a place of one node.
use Rattle.std.proofs.Common.{◌≡◌, ◌≢◌, ◌⊎◌, ℕ, cond, Option, Some, List, [], ◌∷◌, sym, ap, ◌∙◌, subst, inl, inr, ⊎_elim, arith, refl}
use Rattle.rec_bytes.specs.declared.key.Key.{Key}
use Rattle.rec_bytes.specs.declared.record.Rec.{Rec}
use Rattle.rec_bytes.specs.Format as format
use Rattle.rec_bytes.specs.Record.{field}
use Rattle.store_rules.specs.Chains.{In, place_of}
use Rattle.store_rules.specs.Ends.{group_of_head}
use Rattle.store_rules.specs.Rules.{GroupHead, Head, IsEnd, IsInGroup, IsOn, KeepsGroups, Owns, SparseHead}
use Rattle.store_rules.specs.Views.{GroupRow, Records, RelRow, group_at, key_in, kind_at, rec_at, rel_at, rel_in}
use Rattle.store_rules.proofs.GroupLaws.{same_group}
use Rattle.store_rules.proofs.NumberLaws.{eq_false, eq_true, nat_cases}
use Rattle.store_rules.proofs.OneHead.{end_on, only_head}
use Rattle.store_rules.proofs.ViewLaws.{some_row}
use Rattle.chain_edit.specs.Heads.{IsPlace}
use Rattle.chain_edit.specs.Listed.{AreHeads}

-- the node is the source or the target that the record names
abbrev pub IsEndOf : Rec → ℕ → Type 0
IsEndOf r n = (field 4 r format.relationship_source ≡ n) ⊎ (field 4 r format.relationship_target ≡ n)

place_source : (r : Rec) (n : ℕ) → field 4 r format.relationship_source ≡ n → place_of r n ≡ 16
place_source r n e = rw (eq_true (field 4 r format.relationship_source) n e) refl

place_other : (r : Rec) (n : ℕ) → field 4 r format.relationship_source ≢ n → place_of r n ≡ 24
place_other r n ne = rw (eq_false (field 4 r format.relationship_source) n ne) refl

-- chains of two ends use different links
pub ends_differ : (r : Rec) (n m : ℕ) → IsEndOf r n → IsEndOf r m → n ≢ m → place_of r n ≢ place_of r m
ends_differ r n m a b ne = ⊎_elim
    (λ (source : field 4 r 8 ≡ n). λ e. let p = place_source r n source in let q = place_other r m (λ k. ne (sym source ∙ k)) in omega arith)
    (λ (other : field 4 r 8 ≢ n). ⊎_elim
    (λ (source : field 4 r 8 ≡ m). λ e. let p = place_other r n other in let q = place_source r m source in omega arith)
    (λ (target : field 4 r 12 ≡ m). absurd (⊎_elim other (λ k. ne (sym k ∙ target)) a)) b)
    (nat_cases (field 4 r 8) n)

-- the record of a relationship in use names the ends of its row
pub end_in : (s : Records) (x n : ℕ) (row : RelRow) → rel_at s x ≡ Some row → IsEnd n row → IsEndOf (rec_at s format.relationships_file x) n
end_in s x n row live end = subst (IsEnd n) (sym (some_row (kind_at s format.relationships_file x) (rel_in (rec_at s format.relationships_file x) x)
    row live).1) end

module _ (kind : ℕ → ℕ) (groups : ℕ → Option GroupRow) where
  place : (h : Head) (n : ℕ) → Owns kind groups h n → IsPlace h
  place h n (inl o) = subst IsPlace (sym o.is) (record { elsewhere = λ e. omega arith; whole = refl; fits = omega arith })
  place h n (inr o) = record {
    elsewhere = λ e. let f = ap (λ (z : Key). z.file) o.key in omega arith;
    whole = ⊎_elim (λ (e : h.field ≡ 20). omega arith) (λ k. ⊎_elim (λ (e : h.field ≡ 24). omega arith) (λ (e : h.field ≡ 28). omega arith) k) o.field;
    fits = ⊎_elim (λ (e : h.field ≡ 20). omega arith) (λ k. ⊎_elim (λ (e : h.field ≡ 24). omega arith) (λ (e : h.field ≡ 28). omega arith) k) o.field;
  }

  -- the rows of two heads in one group are one
  rows_same : (h k : Head) (n m : ℕ) (a : GroupHead kind groups h n) (b : GroupHead kind groups k m) → h.key.id ≡ k.key.id → a.row ≡ b.row
  rows_same h k n m a b same =
      let p : h.key.id ≡ a.row.id = ap (λ (z : Key). z.id) a.key in
      let q : k.key.id ≡ b.row.id = ap (λ (z : Key). z.id) b.key in
      same_group a.row b.row (sym a.group ∙ ap groups (sym p ∙ same ∙ q) ∙ b.group)

  files_differ : {A : Type 0} (h k : Head) (n m : ℕ) → SparseHead kind h n → GroupHead kind groups k m → h.key.file ≡ k.key.file → A
  files_differ h k n m a b same = absurd (let p = ap (λ (z : Head). z.key.file) a.is in let q = ap (λ (z : Key). z.file) b.key in omega (arith, p, q, same))

  one_node : (h : Head) (n m : ℕ) → Owns kind groups h n → Owns kind groups h m → n ≡ m
  one_node h n m (inl a) (inl b) = ap (λ (z : Head). z.key.id) (sym a.is ∙ b.is)
  one_node h n m (inl a) (inr b) = files_differ h h n m a b refl
  one_node h n m (inr a) (inl b) = files_differ h h m n b a refl
  one_node h n m (inr a) (inr b) = sym a.owner ∙ ap (λ (r : GroupRow). r.owner) (rows_same h h n m a b refl) ∙ b.owner

  pub owned_heads : AreHeads (Owns kind groups)
  owned_heads = record { place = place; one_node = one_node }

  -- a node that owns a head is sparse or dense
  pub owner_kind : (h : Head) (n : ℕ) → Owns kind groups h n → (kind n ≡ format.sparse) ⊎ (kind n ≡ format.dense)
  owner_kind h n (inl o) = inl o.sparse
  owner_kind h n (inr o) = inr o.dense

  pub owner_used : (h : Head) (n : ℕ) → Owns kind groups h n → kind n ≢ format.free_kind
  owner_used h n o free = ⊎_elim (λ z. let p = sym free ∙ z in omega arith) (λ z. let p = sym free ∙ z in omega arith) (owner_kind h n o)

  -- a head that a node owns is in no other node's record
  pub other_record : (h : Head) (n m : ℕ) → Owns kind groups h n → m ≢ n → key_in format.nodes_file m ≢ h.key
  other_record h n m (inl o) ne e = ne (ap (λ (z : Key). z.id) e ∙ ap (λ (z : Head). z.key.id) o.is)
  other_record h n m (inr o) ne e = let f = ap (λ (z : Key). z.file) (e ∙ o.key) in omega arith

  -- the group of a head has what is on the head
  pub in_head_group : (h : Head) (n : ℕ) (row : RelRow) → Owns kind groups h n → IsOn groups h row → (g : ℕ) → In g (group_of_head h) → (at : ℕ)
      × IsInGroup groups (record { key = key_in format.groups_file g; field = at }) row
  in_head_group h n row o on g i = by (nat_cases h.key.file format.groups_file)
    where
      by : (h.key.file ≡ format.groups_file) ⊎ (h.key.file ≢ format.groups_file) → (at : ℕ) × IsInGroup groups
          (record { key = key_in format.groups_file g; field = at }) row
      by (inr ne) = elim (subst (In g) (ap (λ b. cond b (h.key.id ∷ []) []) (eq_false h.key.file format.groups_file ne)) i) [ ]
      by (inl e) =
          let same : g ≡ h.key.id = ⊎_elim (λ k. k) (λ k. absurd k) (subst (In g) (ap (λ b. cond b (h.key.id ∷ []) []) (eq_true h.key.file format.groups_file
          e)) i) in
          let key : h.key ≡ key_in format.groups_file g = ap (λ f. record { file = f; id = h.key.id }) e ∙ ap (key_in format.groups_file) (sym same) in
          (h.field, ⊎_elim (λ k. absurd (let f = k.0 in omega arith)) (λ k. subst (λ z. IsInGroup groups (record { key = z; field = h.field }) row) key k.1) on)

module _ (s : Records) (empty : List ℕ) (grouped : KeepsGroups s empty)
  where
    abbrev Own : Head → ℕ → Type 0
    Own = Owns (kind_at s format.nodes_file) (group_at s)

    -- chains of two heads use different links of a relationship that is on both
    pub heads_differ : (h k : Head) (n m : ℕ) (row : RelRow) (r : Rec) → Own h n → Own k m → h ≢ k → IsOn (group_at s) h row → IsOn (group_at s) k row
        → (IsEnd n row → IsEndOf r n) → (IsEnd m row → IsEndOf r m) → place_of r n ≢ place_of r m
    heads_differ h k n m row r a b ne on at of_n of_m = ends_differ r n m (of_n (end_on _ _ h n row a on)) (of_m (end_on _ _ k m row b at))
        (λ same. ne (only_head s empty grouped h k n row a (subst (Own k) (sym same) b) on at))
