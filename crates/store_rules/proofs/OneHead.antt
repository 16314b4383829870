-- A relationship of a row stands at one head of each of its nodes, where the groups of a node differ in type.
use Rattle.std.proofs.Common.{◌≡◌, ℕ, Option, Some, List, sym, ap, ◌∙◌, subst, inl, inr, ⊎_elim, arith}
use Rattle.rec_bytes.specs.Format as format
use Rattle.rec_bytes.specs.Record.{field}
use Rattle.store_rules.specs.Rules.{HasGroup, Head, IsEnd, IsInGroup, IsOn, KeepsGroups, Owns}
use Rattle.store_rules.specs.Views.{GroupRow, Records, RelRow, group_at, group_in, key_in, kind_at, rec_at}
use Rattle.store_rules.proofs.GroupPlaces.{on_group, one_place}
use Rattle.store_rules.proofs.ViewLaws.{some_row}

-- two heads in one record are one where their places are
head_is : (h k : Head) → h.key ≡ k.key → h.field ≡ k.field → h ≡ k
head_is h k key place = ap (λ z. record { key = z; field = h.field }) key ∙ ap (λ z. record { key = k.key; field = z }) place

module _ (kind : ℕ → ℕ) (groups : ℕ → Option GroupRow) where
  -- what is on a head is at its node
  pub end_on : (h : Head) (n : ℕ) (row : RelRow) → Owns kind groups h n → IsOn groups h row → IsEnd n row
  end_on h n row (inl o) on = ⊎_elim
      (λ (b : (h.key.file ≡ format.nodes_file) × IsEnd h.key.id row). subst (λ k. IsEnd k row) (ap (λ (z : Head). z.key.id) o.is) b.1)
      (λ (b : (h.key.file ≡ format.groups_file) × IsInGroup groups h row). absurd (let f = b.0 in let k = ap (λ (z : Head). z.key.file) o.is in omega arith)) on
  end_on h n row (inr o) on = ⊎_elim (λ k. inl k.1) (λ k. ⊎_elim (λ j. inr j.2) (λ j. inl j.1) k) (on_group kind groups h n o row on).1

  -- a dense node whose head a relationship is on has a group of its type
  pub on_has_group : (h : Head) (n : ℕ) (row : RelRow) → Owns kind groups h n → IsOn groups h row → kind n ≡ format.dense → HasGroup groups n row.label
  on_has_group h n row (inl o) on dense = absurd (let p = o.sparse in omega arith)
  on_has_group h n row (inr o) on dense = record { row = o.row; group = o.group; owner = o.owner; label = sym (on_group kind groups h n o row on).0 }

-- a node has one head where a relationship of a row stands
module _ (s : Records) (empty : List ℕ) (grouped : KeepsGroups s empty)
  where
    abbrev Own : Head → ℕ → Type 0
    Own = Owns (kind_at s format.nodes_file) (group_at s)

    type_is : (row : GroupRow) → group_at s row.id ≡ Some row → field 4 (rec_at s format.groups_file row.id) format.group_type ≡ row.label
    type_is row is = ap (λ (r : GroupRow). r.label) (some_row (kind_at s format.groups_file row.id) (group_in (rec_at s format.groups_file row.id) row.id)
        row is).1

    pub only_head : (h k : Head) (n : ℕ) (row : RelRow) → Own h n → Own k n → IsOn (group_at s) h row → IsOn (group_at s) k row → h ≡ k
    only_head h k n row (inl a) (inl b) on at = a.is ∙ sym b.is
    only_head h k n row (inl a) (inr b) on at = absurd (let p = a.sparse in let q = b.dense in omega (arith, p, q))
    only_head h k n row (inr a) (inl b) on at = absurd (let p = b.sparse in let q = a.dense in omega (arith, p, q))
    only_head h k n row (inr a) (inr b) on at =
        let has = grouped.each n a.dense in
        let p = on_group (kind_at s format.nodes_file) (group_at s) h n a row on in
        let q = on_group (kind_at s format.nodes_file) (group_at s) k n b row at in
        let group : a.row.id ≡ b.row.id = has.once a.row.id b.row.id (has.all a.row.id a.row a.group a.owner) (has.all b.row.id b.row b.group b.owner)
        (type_is a.row a.group ∙ sym p.0 ∙ q.0 ∙ sym (type_is b.row b.group)) in
        head_is h k (a.key ∙ ap (key_in format.groups_file) group ∙ sym b.key) (one_place h.field k.field row.from row.to n p.1 q.1)
