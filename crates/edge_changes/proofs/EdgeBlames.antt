-- Which record is blamed where an edge is taken out of its chains, and heads that stay.
use Rattle.std.specs.Prelude.{IfErr, nat_eq, not}
use Rattle.std.proofs.Common.{◌≡◌, ◌≢◌, ℕ, ◌+◌, ◌≤◌, Result, Ok, Err, [], ◌∷◌, sym, ap, ◌∙◌, subst, inl, inr, ⊎_elim, arith}
use Rattle.rec_bytes.specs.declared.damage.Damage.{Damage}
use Rattle.rec_bytes.specs.declared.fault.Fault.{Fault}
use Rattle.rec_bytes.specs.declared.fault.Fault.TheVariants as faults
use Rattle.rec_bytes.specs.declared.key.Key.{Key}
use Rattle.rec_bytes.specs.declared.record.Rec.{Rec}
use Rattle.rec_bytes.specs.declared.row_fault.RowFault.{RowFault}
use Rattle.rec_bytes.specs.declared.row_fault.RowFault.TheVariants as rows
use Rattle.rec_bytes.specs.Format as format
use Rattle.rec_bytes.specs.Meta as metas
use Rattle.rec_bytes.specs.Record.{field}
use Rattle.rec_bytes.specs.RecordFiles.{meta_key_of}
use Rattle.rec_bytes.specs.Space.{IsAmong, SameButReads, State, after_set}
use Rattle.store_rules.specs.Breaking.{IsHeadOf}
use Rattle.store_rules.specs.Rules.{Head}
use Rattle.store_rules.specs.Views.{group_at, high, is_group_kind, key_in, kind_at, kind_in, rec_at}
use Rattle.store_rules.proofs.ViewLaws.{kind_by}
use Rattle.chain_edit.proofs.OwnedHeads.{other_record}
use Rattle.group_store.proofs.AlikeGroups.{AreAlike}
use Rattle.store_rules.specs.Writes.{ChangesOnly}
use Rattle.node_store.specs.Loading as nodes
use Rattle.prop_store.specs.Fault as props
use Rattle.chain_edit.specs.Pushing.{pushed}
use Rattle.chain_edit.specs.Unlinking.{unlinked}
use Rattle.chain_edit.proofs.LinkLaws.{field-set_other}
use Rattle.group_store.specs.Counting.{one_less, one_more, tallied}
use Rattle.group_store.specs.Leaving.{KeepsHeads}
use Rattle.group_store.specs.Opening.{IsHeadFault, LacksGroupOn}
use Rattle.group_store.specs.Opening.IsSearchDamage.{BadNode}
use Rattle.group_store.proofs.BrokenGroups.{node_breaks, search_read}
use Rattle.group_store.proofs.KeptHeads.{alike_by, heads_alike}
use Rattle.group_store.proofs.Tallies.{field-tallied}
use Rattle.change_parts.specs.ChangeFault.{of_fault, of_row}
use Rattle.change_parts.specs.Damage.{BlamesBroken, IfBlames, IsBroken}
use Rattle.edge_changes.specs.EdgeDeleting.{BlamesEnd, KeepsGroups}
use Rattle.edge_changes.specs.EdgeEnds.{joined, parted}
use Rattle.change_parts.specs.declared.change_fault.ChangeFault.{ChangeFault}
use Rattle.change_parts.proofs.Broken.{blames_more}
use Rattle.edge_changes.proofs.EdgeSteps.{number_pushed, number_unlinked, record_joined, record_parted, shape_parted}

-- ---- an end that is looked for

pub head_blamed : (s m : State) (id node label : ℕ) → SameButReads s m → (fault : Fault) → IsHeadFault m node id label fault
    → BlamesEnd s id node label (of_fault fault)
head_blamed s m id node label same faults.Memory told = tt
head_blamed s m id node label same faults.Disk told = tt
head_blamed s m id node label same (faults.Damaged damage) told =
    ⊎_elim (λ k. inl (subst (λ (z : State). IsBroken z damage) same (inl k.0), search_read s m node damage same k.1))
    (λ k. inr (k.0, inr (subst (λ (z : State). LacksGroupOn z.records node label) same k.1))) told

-- a node that can't be read
pub load_blamed : (s : State) (id node label : ℕ) (fault : RowFault) → nodes.IsNodeFault s node fault → BlamesEnd s id node label (of_row fault)
load_blamed s id node label rows.Disk told = tt
load_blamed s id node label (rows.Damaged damage) told = inl (inl (node_breaks s node damage told), BadNode damage told)

-- what is so of a record that is blamed, for what follows from it
pub if_blames : {T : Type 0} (r : Result T ChangeFault) (P Q : Damage → Type 0) → ((damage : Damage) → P damage → Q damage) → IfErr r (IfBlames P)
    → IfErr r (IfBlames Q)
if_blames (Ok x) P Q then h = tt
if_blames (Err fault) P Q then h = blames_more P Q then fault h

-- properties that aren't taken away
pub drop_blamed : (s v : State) → SameButReads s v → (fault : Fault) → props.BlamesBroken v.records v.shape fault → BlamesBroken s (of_fault fault)
drop_blamed s v same faults.Memory told = tt
drop_blamed s v same faults.Disk told = tt
drop_blamed s v same (faults.Damaged damage) told =
    inl (subst (λ (z : State). props.BlamesBroken z.records z.shape (faults.Damaged damage)) same told)

-- ---- heads

-- a head is in a record of a node or a group, behind its kind, and behind a group's type and owner
module _ (s : State) (head : Head) (n : ℕ) (owns : IsHeadOf s.records head n) where
  no_meta : head.key.file ≢ format.meta_file
  no_meta e = by owns
    where
      by : IsHeadOf s.records head n → ⊥
      by (inl o) = let f = ap (λ (h : Head). h.key.file) o.is in omega arith
      by (inr o) = let f = ap (λ (k : Key). k.file) o.key in omega arith

  behind_kind : 1 ≤ head.field
  behind_kind = by owns
    where
      by : IsHeadOf s.records head n → 1 ≤ head.field
      by (inl o) = let a = ap (λ (h : Head). h.field) o.is in omega arith
      by (inr o) = ⊎_elim (λ (e : head.field ≡ format.group_first_out). omega arith)
          (λ k. ⊎_elim (λ (e : head.field ≡ format.group_first_in). omega arith) (λ (e : head.field ≡ format.group_first_loop). omega arith) k) o.field

  behind_chain : head.key.file ≡ format.groups_file → format.group_first_out ≤ head.field
  behind_chain group = by owns
    where
      by : IsHeadOf s.records head n → format.group_first_out ≤ head.field
      by (inl o) = absurd (let f = ap (λ (h : Head). h.key.file) o.is in omega arith)
      by (inr o) = ⊎_elim (λ (e : head.field ≡ format.group_first_out). omega arith)
          (λ k. ⊎_elim (λ (e : head.field ≡ format.group_first_in). omega arith) (λ (e : head.field ≡ format.group_first_loop). omega arith) k) o.field

  module _ (rel d : ℕ) where
    number_parted : (key : Key) (m at : ℕ) → key.file ≢ format.relationships_file → at + m ≤ 32 → (key.file ≡ format.nodes_file → at + m ≤ 12)
        → (key ≡ head.key → at + m ≤ head.field)
        → field m ((parted s head n rel d).records key) at ≡ field m (s.records key) at
    unfolding parted
    number_parted key m at no_link within below aside =
        field-set_other (tallied one_less (unlinked s head n rel) head).records (record { key = key_in format.nodes_file n; field = format.node_degree }) d key
        m at (omega arith)
        (λ e. inl (let b = below (ap (λ (k : Key). k.file) e) in omega arith))
        ∙ field-tallied one_less (unlinked s head n rel) head key m at (omega arith)
        ∙ number_unlinked s head n rel key m at no_link (omega arith) (λ e. inl (aside e))

    mark : (f : ℕ) → high (parted s head n rel d).records f ≡ high s.records f
    mark f = ap (λ r. (metas.meta_of r).high) (record_parted s head n rel d (meta_key_of f) (λ e. omega arith) (λ e. no_meta (sym (ap (λ (k : Key). k.file) e)))
        (λ e. let k = ap (λ (q : Key). q.file) e in omega arith))

    heads_parted : KeepsHeads s (parted s head n rel d)
    heads_parted = heads_alike s.records (parted s head n rel d).records (alike_by s.records (parted s head n rel d).records
        (mark format.nodes_file) (mark format.groups_file)
        (λ x. number_parted (key_in format.nodes_file x) 1 format.kind (λ e. omega arith) (omega arith) (λ e. omega arith) (λ e. let b = behind_kind in omega
        arith))
        (λ g m at within. number_parted (key_in format.groups_file g) m at (λ e. omega arith) (omega arith) (λ e. omega arith) (λ e. let b = behind_chain
        (sym (ap (λ (k : Key). k.file) e)) in omega arith)))

    -- in two steps
    pub heads_parted_by : (u t : State) → u ≡ tallied one_less (unlinked s head n rel) head
        → t ≡ after_set u (key_in format.nodes_file n) 4 format.node_degree d → KeepsHeads s t
    unfolding parted
    heads_parted_by u t out set = subst (KeepsHeads s) (sym (set ∙ ap (λ (z : State). after_set z (key_in format.nodes_file n) 4 format.node_degree d) out))
        heads_parted

    -- the groups of dense nodes are linked as they were
    groups_parted : KeepsGroups s (parted s head n rel d)
    groups_parted = record {
      shape = shape_parted s head n rel d;
      kinds = λ x. ap (λ m. kind_in m (rec_at (parted s head n rel d).records format.nodes_file x) x) (mark format.nodes_file)
          ∙ kind_by (high s.records format.nodes_file) (rec_at (parted s head n rel d).records format.nodes_file x) (rec_at s.records format.nodes_file x) x
          (number_parted (key_in format.nodes_file x) 1 format.kind (λ e. omega arith) (omega arith) (λ e. omega arith) (λ e. let b = behind_kind in omega
          arith));
      first = λ x dense. number_parted (key_in format.nodes_file x) 4 format.node_first_link (λ e. omega arith) (omega arith) (λ e. omega arith)
          (λ e. absurd (no_dense x dense e));
      mark = mark format.groups_file;
      numbers = λ g m at inside. number_parted (key_in format.groups_file g) m at (λ e. let z : 3 ≡ 2 = e in omega arith) (omega arith)
          (λ e. absurd (let z : 3 ≡ 1 = e in omega arith))
          (λ e. let b = behind_chain (sym (ap (λ (k : Key). k.file) e)) in omega arith);
    }
      where
        -- the head of a sparse node is in no record of a dense one
        no_dense : (x : ℕ) → kind_at s.records format.nodes_file x ≡ format.dense → key_in format.nodes_file x ≡ head.key → ⊥
        no_dense x dense e = by owns
          where
            by : IsHeadOf s.records head n → ⊥
            by (inl o) =
                let is : x ≡ n = ap (λ (k : Key). k.id) (e ∙ ap (λ (h : Head). h.key) o.is) in
                let sparse = ap (kind_at s.records format.nodes_file) is ∙ o.sparse in
                omega arith
            by (inr o) = let f = ap (λ (k : Key). k.file) (e ∙ o.key) in omega arith

    -- in two steps
    pub groups_parted_by : (u t : State) → u ≡ tallied one_less (unlinked s head n rel) head
        → t ≡ after_set u (key_in format.nodes_file n) 4 format.node_degree d → KeepsGroups s t
    unfolding parted
    groups_parted_by u t out set = subst (KeepsGroups s) (sym (set ∙ ap (λ (z : State). after_set z (key_in format.nodes_file n) 4 format.node_degree d) out))
        groups_parted

    -- what another node's groups tell
    pub alike_parted : (b : ℕ) → n ≢ b → AreAlike s (parted s head n rel d) b
    alike_parted b ne = record {
      shape = shape_parted s head n rel d;
      node = record_parted s head n rel d (key_in format.nodes_file b) (λ e. let z : 1 ≡ 2 = e in omega arith)
          (other_record (kind_at s.records format.nodes_file) (group_at s.records) head n b owns (λ e. ne (sym e))) (λ e. ne (sym (ap (λ (k : Key). k.id) e)));
      node_mark = mark format.nodes_file;
      group_mark = mark format.groups_file;
      numbers = λ g m at one inside. number g m at inside;
      used = λ g. ap is_group_kind (kind g);
      live = λ g. ap (λ k. not (nat_eq k 0)) (kind g);
    }
      where
        number : (g m at : ℕ) → at + m ≤ format.group_first_out → field m (rec_at (parted s head n rel d).records format.groups_file g) at ≡ field m
            (rec_at s.records format.groups_file g) at
        number g m at inside = number_parted (key_in format.groups_file g) m at (λ e. let z : 3 ≡ 2 = e in omega arith) (omega arith)
            (λ e. absurd (let z : 3 ≡ 1 = e in omega arith))
            (λ e. let b = behind_chain (sym (ap (λ (k : Key). k.file) e)) in omega arith)

        kind : (g : ℕ) → kind_at (parted s head n rel d).records format.groups_file g ≡ kind_at s.records format.groups_file g
        kind g = ap (λ m. kind_in m (rec_at (parted s head n rel d).records format.groups_file g) g) (mark format.groups_file)
            ∙ kind_by (high s.records format.groups_file) (rec_at (parted s head n rel d).records format.groups_file g) (rec_at s.records format.groups_file g)
            g (number g 1 format.kind (omega arith))

-- ---- heads where a relationship joins a chain

module _ (s : State) (head : Head) (n : ℕ) (owns : IsHeadOf s.records head n) (rel d : ℕ) where
  number_joined : (key : Key) (m at : ℕ) → key.file ≢ format.relationships_file → at + m ≤ 32 → (key.file ≡ format.nodes_file → at + m ≤ 12)
      → (key ≡ head.key → at + m ≤ head.field)
      → field m ((joined s head n rel d).records key) at ≡ field m (s.records key) at
  unfolding joined
  number_joined key m at no_link within below aside =
      field-set_other (tallied one_more (pushed s head n rel) head).records (record { key = key_in format.nodes_file n; field = format.node_degree }) d key m at
      (omega arith)
      (λ e. inl (let b = below (ap (λ (k : Key). k.file) e) in omega arith))
      ∙ field-tallied one_more (pushed s head n rel) head key m at (omega arith)
      ∙ number_pushed s head n rel key m at no_link (omega arith) (λ e. inl (aside e))

  mark_joined : (f : ℕ) → high (joined s head n rel d).records f ≡ high s.records f
  mark_joined f = ap (λ r. (metas.meta_of r).high) (record_joined s head n rel d (meta_key_of f) (λ e. omega arith) (λ e. no_meta s head n owns
      (sym (ap (λ (k : Key). k.file) e))) (λ e. let k = ap (λ (q : Key). q.file) e in omega arith))

  heads_joined : KeepsHeads s (joined s head n rel d)
  heads_joined = heads_alike s.records (joined s head n rel d).records (alike_by s.records (joined s head n rel d).records
      (mark_joined format.nodes_file) (mark_joined format.groups_file)
      (λ x. number_joined (key_in format.nodes_file x) 1 format.kind (λ e. omega arith) (omega arith) (λ e. omega arith) (λ e. let b = behind_kind s head n
      owns in omega arith))
      (λ g m at within. number_joined (key_in format.groups_file g) m at (λ e. omega arith) (omega arith) (λ e. omega arith) (λ e. let b = behind_chain s head n
      owns (sym (ap (λ (k : Key). k.file) e)) in omega arith)))

  -- in two steps
  pub mark_joined_by : (u t : State) → u ≡ tallied one_more (pushed s head n rel) head → t ≡ after_set u (key_in format.nodes_file n) 4 format.node_degree d
      → high t.records format.relationships_file ≡ high s.records format.relationships_file
  unfolding joined
  mark_joined_by u t put set = ap (λ (z : State). high z.records format.relationships_file)
      (set ∙ ap (λ (z : State). after_set z (key_in format.nodes_file n) 4 format.node_degree d) put) ∙ mark_joined format.relationships_file

  pub heads_joined_by : (u t : State) → u ≡ tallied one_more (pushed s head n rel) head → t ≡ after_set u (key_in format.nodes_file n) 4 format.node_degree d
      → KeepsHeads s t
  unfolding joined
  heads_joined_by u t put set = subst (KeepsHeads s) (sym (set ∙ ap (λ (z : State). after_set z (key_in format.nodes_file n) 4 format.node_degree d) put))
      heads_joined

-- a relationship is written, and an identifier taken or given back
pub heads_given : (s t : State) (id : ℕ) → ChangesOnly s t (key_in format.relationships_file id ∷ meta_key_of format.relationships_file ∷ []) → KeepsHeads s t
heads_given s t id changes = heads_alike s.records t.records (alike_by s.records t.records (mark format.nodes_file (λ e. omega arith)) (mark format.groups_file
    (λ e. omega arith))
    (λ x. ap (λ (r : Rec). field 1 r format.kind) (same (key_in format.nodes_file x) (λ e. let f = ap (λ (k : Key). k.file) e in omega arith)
    (λ e. let f = ap (λ (k : Key). k.file) e in omega arith)))
    (λ g m at within. ap (λ (r : Rec). field m r at) (same (key_in format.groups_file g) (λ e. let f = ap (λ (k : Key). k.file) e in omega arith)
    (λ e. let f = ap (λ (k : Key). k.file) e in omega arith))))
  where
    same : (q : Key) → q ≢ key_in format.relationships_file id → q ≢ meta_key_of format.relationships_file → t.records q ≡ s.records q
    same q no_rel no_meta = ⊎_elim (λ e. e) (λ (i : IsAmong q (key_in format.relationships_file id ∷ meta_key_of format.relationships_file ∷ [])). absurd
        (⊎_elim no_rel (λ j. ⊎_elim no_meta (λ (f : ⊥). f) j) i)) (changes.each q)

    mark : (f : ℕ) → f ≢ format.relationships_file → high t.records f ≡ high s.records f
    mark f ne = ap (λ r. (metas.meta_of r).high) (same (meta_key_of f) (λ e. let k = ap (λ (q : Key). q.file) e in omega arith)
        (λ e. ne (ap (λ (q : Key). q.id) e)))

-- the groups of dense nodes then
pub groups_given : (s t : State) (id : ℕ) → t.shape ≡ s.shape → ChangesOnly s t
    (key_in format.relationships_file id ∷ meta_key_of format.relationships_file ∷ []) → KeepsGroups s t
groups_given s t id shape changes = record {
  shape = shape;
  kinds = λ n. ap (λ m. kind_in m (rec_at t.records format.nodes_file n) n) (mark format.nodes_file (λ e. omega arith))
      ∙ ap (λ (r : Rec). kind_in (high s.records format.nodes_file) r n) (node n);
  first = λ n dense. ap (λ (r : Rec). field 4 r format.node_first_link) (node n);
  mark = mark format.groups_file (λ e. omega arith);
  numbers = λ g n at inside. ap (λ (r : Rec). field n r at) (same (key_in format.groups_file g) (λ e. let f = ap (λ (k : Key). k.file) e in omega arith)
      (λ e. let f = ap (λ (k : Key). k.file) e in omega arith));
}
  where
    same : (q : Key) → q ≢ key_in format.relationships_file id → q ≢ meta_key_of format.relationships_file → t.records q ≡ s.records q
    same q no_rel no_meta = ⊎_elim (λ e. e) (λ (i : IsAmong q (key_in format.relationships_file id ∷ meta_key_of format.relationships_file ∷ [])). absurd
        (⊎_elim no_rel (λ j. ⊎_elim no_meta (λ (f : ⊥). f) j) i)) (changes.each q)

    node : (n : ℕ) → rec_at t.records format.nodes_file n ≡ rec_at s.records format.nodes_file n
    node n = same (key_in format.nodes_file n) (λ e. let f = ap (λ (k : Key). k.file) e in omega arith) (λ e. let f = ap (λ (k : Key). k.file) e in omega arith)

    mark : (f : ℕ) → f ≢ format.relationships_file → high t.records f ≡ high s.records f
    mark f ne = ap (λ r. (metas.meta_of r).high) (same (meta_key_of f) (λ e. let k = ap (λ (q : Key). q.file) e in omega arith)
        (λ e. ne (ap (λ (q : Key). q.id) e)))

pub groups_then : (s t u : State) → KeepsGroups s t → KeepsGroups t u → KeepsGroups s u
groups_then s t u a b = record {
  shape = b.shape ∙ a.shape;
  kinds = λ n. b.kinds n ∙ a.kinds n;
  first = λ n dense. b.first n (a.kinds n ∙ dense) ∙ a.first n dense;
  mark = b.mark ∙ a.mark;
  numbers = λ g n at inside. b.numbers g n at inside ∙ a.numbers g n at inside;
}
