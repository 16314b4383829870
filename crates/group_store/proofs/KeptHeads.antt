-- Heads that nodes have still, and nodes that were read, whatever the records are.
use Rattle.std.proofs.Common.{◌≡◌, ◌≢◌, ◌⊎◌, ℕ, ◌+◌, ◌<◌, ◌≤◌, ◌-◌, ◌^◌, nat_eq, Bool, true, false, cond, None, Some}
use Rattle.std.proofs.Common.{sym, ap, ◌∙◌, subst, inl, inr, ⊎_elim, arith, refl}
use Rattle.rec_bytes.specs.declared.key.Key.{Key}
use Rattle.rec_bytes.specs.declared.meta.Meta.{Meta}
use Rattle.rec_bytes.specs.declared.record.Rec.{Rec}
use Rattle.rec_bytes.specs.Format as format
use Rattle.rec_bytes.specs.Record.{field, with_field}
use Rattle.rec_bytes.specs.RecordFiles.{meta_key_of}
use Rattle.rec_bytes.specs.Space.{SameButReads, State, after_get, after_put, meta_of, put}
use Rattle.rec_bytes.proofs.Numbers.{field-with_field_other, field-with_field_same}
use Rattle.rec_bytes.proofs.Spaces.{meta_in-put_other, meta_of-after_meta, meta_of-after_meta_other, put_other, put_same}
use Rattle.id_freelist.specs.FreeLists.{free_record}
use Rattle.id_freelist.specs.Giving.{given}
use Rattle.store_rules.specs.Breaking.{IsHeadOf}
use Rattle.store_rules.specs.Ranges.{free_layout, layout_by, node_layout}
use Rattle.store_rules.specs.Rules.{Head}
use Rattle.store_rules.specs.Views.{GroupRow, Records, group_at, group_in, high, key_in, kind_at, kind_in, rec_at}
use Rattle.store_rules.proofs.GroupLaws.{IsFirstPlace, same_group}
use Rattle.store_rules.proofs.MetaLaws.{high_fits, live_fits}
use Rattle.store_rules.proofs.NumberLaws.{eq_false, nat_cases}
use Rattle.store_rules.proofs.ViewLaws.{kind_below, kind_by, kind_low, row_some, some_row}
use Rattle.store_rules.proofs.ChainSteps.{on_test}
use Rattle.chain_edit.proofs.LinkLaws.{field-set_other, key_cases, set_at}
use Rattle.node_store.specs.Loading as nodes
use Rattle.group_store.specs.Densing.{IsSparse}
use Rattle.group_store.specs.Dropping.{dropped, follows}
use Rattle.group_store.specs.GroupChain.{IsDense, next_group, previous_group}
use Rattle.group_store.specs.GroupRecord.{group_key}
use Rattle.group_store.specs.Leaving.{KeepsHeads, KeepsOtherHeads}
use Rattle.group_store.specs.Links.{backed, link_set}
use Rattle.group_store.specs.Raising.{IsGroupAt, raised, raised_state}
use Rattle.group_store.specs.Sides.{group_head, place_of}
use Rattle.group_store.specs.declared.group_row.GroupRow.{GroupRow as OwnRow}
use Rattle.group_store.specs.declared.raising.Counts.{Counts}
use Rattle.group_store.specs.declared.side.Side.{Side}
use Rattle.group_store.specs.declared.side.Side.TheVariants.{Out, In as Into, Loop}
use Rattle.group_store.proofs.Raises.{group_is}
use Rattle.group_store.proofs.SideCounts.{row_as}

-- ---- what a head is told by

-- Each node is of the kind that it was, and each group in use is so still, at its node.
pub record IsAlike (s t : Records) : Type 0 where
  pub nodes : (n : ℕ) → kind_at t format.nodes_file n ≡ kind_at s format.nodes_file n
  pub groups : (g : ℕ) (row : GroupRow) → group_at s g ≡ Some row → group_at t g ≡ Some row

pub heads_alike : (s t : Records) → IsAlike s t → (h : Head) (n : ℕ) → IsHeadOf s h n → IsHeadOf t h n
heads_alike s t alike h n (inl o) = inl (record { sparse = alike.nodes n ∙ o.sparse; is = o.is })
heads_alike s t alike h n (inr o) = inr (record {
  dense = alike.nodes n ∙ o.dense;
  row = o.row;
  group = alike.groups o.row.id o.row o.group;
  owner = o.owner;
  key = o.key;
  field = o.field;
})

alike_none : (s : Records) → IsAlike s s
alike_none s = record { nodes = λ n. refl; groups = λ g row is. is }

alike_then : (s t u : Records) → IsAlike s t → IsAlike t u → IsAlike s u
alike_then s t u a b = record { nodes = λ n. b.nodes n ∙ a.nodes n; groups = λ g row is. b.groups g row (a.groups g row is) }

-- a group in use, whose type and owner stay, where no fewer are given out
pub group_grown : (s t : Records) (g : ℕ) (row : GroupRow) → high s format.groups_file ≤ high t format.groups_file
    → (field 1 (rec_at s format.groups_file g) format.kind ≢ 0 → field 1 (rec_at t format.groups_file g) format.kind ≢ 0)
    → field 4 (rec_at t format.groups_file g) format.group_type ≡ field 4 (rec_at s format.groups_file g) format.group_type
    → field 4 (rec_at t format.groups_file g) format.group_owner ≡ field 4 (rec_at s format.groups_file g) format.group_owner
    → group_at s g ≡ Some row → group_at t g ≡ Some row
group_grown s t g row marks live typed owner is =
    let r = rec_at s format.groups_file g in
    let q = rec_at t format.groups_file g in
    let was = some_row (kind_at s format.groups_file g) (group_in r g) row is in
    let lt = kind_below (high s format.groups_file) r g was.0 in
    let byte : field 1 r format.kind ≢ 0 = λ e. was.0 (kind_low (high s format.groups_file) r g lt ∙ e) in
    let now : kind_at t format.groups_file g ≢ 0 = λ e. live byte (sym (kind_low (high t format.groups_file) q g (omega arith)) ∙ e) in
    row_some (kind_at t format.groups_file g) (group_in q g) now
    ∙ (λ i. Some (record { id = g; label = typed i; owner = owner i }))
    ∙ ap (λ (z : GroupRow). Some z) was.1

group_kept : (s t : Records) (g : ℕ) (row : GroupRow) → high t format.groups_file ≡ high s format.groups_file
    → (field 1 (rec_at s format.groups_file g) format.kind ≢ 0 → field 1 (rec_at t format.groups_file g) format.kind ≢ 0)
    → field 4 (rec_at t format.groups_file g) format.group_type ≡ field 4 (rec_at s format.groups_file g) format.group_type
    → field 4 (rec_at t format.groups_file g) format.group_owner ≡ field 4 (rec_at s format.groups_file g) format.group_owner
    → group_at s g ≡ Some row → group_at t g ≡ Some row
group_kept s t g row marks live typed owner is = group_grown s t g row (omega arith) live typed owner is

-- by the numbers of records
pub alike_by : (s t : Records) → high t format.nodes_file ≡ high s format.nodes_file → high t format.groups_file ≡ high s format.groups_file
    → ((n : ℕ) → field 1 (rec_at t format.nodes_file n) format.kind ≡ field 1 (rec_at s format.nodes_file n) format.kind)
    → ((g n at : ℕ) → at + n ≤ 12 → field n (rec_at t format.groups_file g) at ≡ field n (rec_at s format.groups_file g) at) → IsAlike s t
alike_by s t node_mark group_mark nodes groups = record {
  nodes = λ n. ap (λ m. kind_in m (rec_at t format.nodes_file n) n) node_mark
      ∙ kind_by (high s format.nodes_file) (rec_at t format.nodes_file n) (rec_at s format.nodes_file n) n (nodes n);
  groups = λ g row is. group_kept s t g row group_mark (λ some e. some (sym (groups g 1 format.kind (omega arith)) ∙ e))
      (groups g 4 format.group_type (omega arith)) (groups g 4 format.group_owner (omega arith)) is;
}

-- a number is set that no head is told by
alike_set : (s : Records) (p : Head) (to : ℕ) → p.key.file ≢ format.meta_file → (p.key.file ≡ format.groups_file → 12 ≤ p.field) → 1 ≤ p.field
    → IsAlike s (set_at s p to)
alike_set s p to no_meta far low = alike_by s (set_at s p to) (mark format.nodes_file) (mark format.groups_file)
    (λ n. field-set_other s p to (key_in format.nodes_file n) 1 format.kind (omega arith) (λ e. inl (omega arith)))
    (λ g n at within. field-set_other s p to (key_in format.groups_file g) n at (omega arith) (λ e. inl (let w = far (sym (ap (λ (k : Key). k.file) e)) in omega
    arith)))
  where
    mark : (f : ℕ) → high (set_at s p to) f ≡ high s f
    mark f = ap (λ (m : Meta). m.high) (meta_in-put_other s p.key (with_field 4 (s p.key) p.field to) f (λ e. no_meta (sym (ap (λ (k : Key). k.file) e))))

-- ---- a group that is dropped

alike_backed : (s : State) (g to : ℕ) → IsAlike s.records (backed s g to).records
unfolding backed
alike_backed s g to = on_test (λ (z : State). IsAlike s.records z.records) g format.nil s (link_set s g format.group_previous to) (λ _. alike_none s.records)
    (λ _. alike_set s.records (record { key = group_key g; field = format.group_previous }) to (λ e. omega arith) (λ e. omega arith) (omega arith))

alike_follows : (s : State) (node before after : ℕ) → IsAlike s.records (follows s node before after).records
unfolding follows
alike_follows s node before after = on_test (λ (z : State). IsAlike s.records z.records) before format.nil _ (link_set s before format.group_next after)
    (λ _. alike_set s.records (record { key = key_in format.nodes_file node; field = format.node_first_link }) after (λ e. omega arith) (λ e. omega arith)
    (omega arith))
    (λ _. alike_set s.records (record { key = group_key before; field = format.group_next }) after (λ e. omega arith) (λ e. omega arith) (omega arith))

-- its identifier is given back
module _ (l : State) (g : ℕ) (small : g < 2 ^ 32) where
  abbrev t : State
  t = given l format.groups_file g

  abbrev freed : State
  freed = after_put l (key_in format.groups_file g) (free_record (meta_of l format.groups_file).free)

  abbrev counts : Meta
  counts = record { high = (meta_of l format.groups_file).high; free = g; live = (meta_of l format.groups_file).live - 1 }

  pub record_given : (q : Key) → q ≢ key_in format.groups_file g → q ≢ meta_key_of format.groups_file → t.records q ≡ l.records q
  record_given q ne meta = put_other freed.records (meta_key_of format.groups_file) (t.records (meta_key_of format.groups_file)) q meta
      ∙ put_other l.records (key_in format.groups_file g) (free_record (meta_of l format.groups_file).free) q ne

  pub mark_groups : high t.records format.groups_file ≡ high l.records format.groups_file
  mark_groups = ap (λ (k : Meta). k.high) (meta_of-after_meta freed format.groups_file counts (high_fits l.records format.groups_file) small
      (let b = live_fits l.records format.groups_file in omega arith))

  mark_nodes : high t.records format.nodes_file ≡ high l.records format.nodes_file
  mark_nodes = ap (λ (k : Meta). k.high) (meta_of-after_meta_other freed format.groups_file counts format.nodes_file (λ e. omega arith)
      ∙ meta_in-put_other l.records (key_in format.groups_file g) (free_record (meta_of l format.groups_file).free) format.nodes_file
      (λ e. let f = ap (λ (k : Key). k.file) e in omega arith))

  kind_given : (n : ℕ) → kind_at t.records format.nodes_file n ≡ kind_at l.records format.nodes_file n
  kind_given n = ap (λ m. kind_in m (rec_at t.records format.nodes_file n) n) mark_nodes
      ∙ ap (λ (r : Rec). kind_in (high l.records format.nodes_file) r n)
      (record_given (key_in format.nodes_file n) (λ e. let f = ap (λ (k : Key). k.file) e in omega arith) (λ e. let f = ap (λ (k : Key). k.file)
      e in omega arith))

  heads_given : (h : Head) (n : ℕ) → h.key ≢ group_key g → IsHeadOf l.records h n → IsHeadOf t.records h n
  heads_given h n ne (inl o) = inl (record { sparse = kind_given n ∙ o.sparse; is = o.is })
  heads_given h n ne (inr o) =
      let same = record_given (key_in format.groups_file o.row.id) (λ e. ne (o.key ∙ e)) (λ e. let f = ap (λ (k : Key). k.file) e in omega arith) in
      inr (record {
        dense = kind_given n ∙ o.dense;
        row = o.row;
        group = group_kept l.records t.records o.row.id o.row mark_groups (λ some e. some (ap (λ (r : Rec). field 1 r format.kind) (sym same) ∙ e))
            (ap (λ (r : Rec). field 4 r format.group_type) same) (ap (λ (r : Rec). field 4 r format.group_owner) same) o.group;
        owner = o.owner;
        key = o.key;
        field = o.field;
      })

-- two nodes have no group in common
apart : (s : Records) (head h : Head) (node n : ℕ) → head.key.file ≡ format.groups_file → IsHeadOf s head node → IsHeadOf s h n → n ≢ node
    → h.key ≢ group_key head.key.id
apart s head h node n file (inl a) b ne e = absurd (let f = ap (λ (z : Head). z.key.file) a.is in omega arith)
apart s head h node n file (inr a) (inl b) ne e = absurd (let f = ap (λ (z : Head). z.key.file) b.is in let k = ap (λ (z : Key). z.file) e in omega arith)
apart s head h node n file (inr a) (inr b) ne e =
    let is : b.row.id ≡ a.row.id = sym (ap (λ (k : Key). k.id) b.key) ∙ ap (λ (k : Key). k.id) e ∙ ap (λ (k : Key). k.id) a.key in
    let row = same_group b.row a.row (sym b.group ∙ ap (group_at s) is ∙ a.group) in
    ne (sym b.owner ∙ ap (λ (r : GroupRow). r.owner) row ∙ a.owner)

-- the group of a head was given out
pub below : (s : Records) (head : Head) (node : ℕ) → head.key.file ≡ format.groups_file → IsHeadOf s head node → head.key.id < 2 ^ 32
below s head node file (inl a) = absurd (let f = ap (λ (z : Head). z.key.file) a.is in omega arith)
below s head node file (inr a) =
    let r = rec_at s format.groups_file a.row.id in
    let lt = kind_below (high s format.groups_file) r a.row.id (some_row (kind_at s format.groups_file a.row.id) (group_in r a.row.id) a.row a.group).0 in
    let most = high_fits s format.groups_file in
    let is : head.key.id ≡ a.row.id = ap (λ (k : Key). k.id) a.key in
    omega arith

heads_dropped : (s : State) (head : Head) (node : ℕ) → head.key.file ≡ format.groups_file → IsHeadOf s.records head node
    → KeepsOtherHeads s (dropped s node head.key.id) node
unfolding dropped
heads_dropped s head node file owns h n ne o =
    let g = head.key.id in
    let before = previous_group s.records g in
    let after = next_group s.records g in
    let back = backed (after_get s) after before in
    let l = follows back node before after in
    let alike = alike_then s.records back.records l.records (alike_backed (after_get s) after before) (alike_follows back node before after) in
    let own_now = heads_alike s.records l.records alike head node owns in
    let now = heads_alike s.records l.records alike h n o in
    heads_given l g (below s.records head node file owns) h n (apart l.records head h node n file own_now now ne) now

-- the group of a head that is closed
pub heads_closed : (s t : State) (head : Head) (node : ℕ) → head.key.file ≡ format.groups_file → IsHeadOf s.records head node → (gone : Bool)
    → (gone ≡ false → SameButReads s t) → (gone ≡ true → t ≡ dropped s node head.key.id) → KeepsOtherHeads s t node
heads_closed s t head node file owns true kept is = subst (λ (z : State). KeepsOtherHeads s z node) (sym (is refl)) (heads_dropped s head node file owns)
heads_closed s t head node file owns false kept is = subst (λ (z : State). KeepsOtherHeads s z node) (sym (kept refl)) (λ h n ne o. o)

-- ---- a group that gets its numbers

module _ (r : Rec) (counts : Counts) where
  abbrev r1 : Rec
  r1 = with_field 1 r format.kind format.counted

  abbrev r2 : Rec
  r2 = with_field 4 r1 format.group_out_count counts.out

  abbrev r3 : Rec
  r3 = with_field 4 r2 format.group_in_count counts.into

  pub numbered : (n at : ℕ) → at + n ≤ 32 → field n (raised r counts) at ≡ field n r1 at
  numbered n at within = field-with_field_other 4 r3 format.group_loop_count counts.loops n at (omega arith) (inr (omega arith))
      ∙ field-with_field_other 4 r2 format.group_in_count counts.into n at (omega arith) (inr (omega arith))
      ∙ field-with_field_other 4 r1 format.group_out_count counts.out n at (omega arith) (inr (omega arith))

  pub raised_kind : field 1 (raised r counts) format.kind ≡ format.counted
  raised_kind = numbered 1 format.kind (omega arith) ∙ field-with_field_same 1 r format.kind format.counted (omega arith) (omega arith)

  pub raised_number : (at : ℕ) → 1 ≤ at → at + 4 ≤ 32 → field 4 (raised r counts) at ≡ field 4 r at
  raised_number at low within = numbered 4 at within ∙ field-with_field_other 1 r format.kind format.counted 4 at (omega arith) (inl (omega arith))

alike_raised : (s : State) (g : ℕ) (counts : Counts) → IsAlike s.records (raised_state s g counts).records
alike_raised s g counts =
    let rec : Rec = raised (s.records (group_key g)) counts in
    let t : Records = put s.records (group_key g) rec in
    let marks : (f : ℕ) → high t f ≡ high s.records f = λ f. ap (λ (m : Meta). m.high)
    (meta_in-put_other s.records (group_key g) rec f (λ e. let k = ap (λ (q : Key). q.file) e in omega arith)) in
    let node : (n : ℕ) → rec_at t format.nodes_file n ≡ rec_at s.records format.nodes_file n = λ n.
    put_other s.records (group_key g) rec (key_in format.nodes_file n) (λ e. let k = ap (λ (q : Key). q.file) e in omega arith) in
    record {
      nodes = λ n. ap (λ m. kind_in m (rec_at t format.nodes_file n) n) (marks format.nodes_file)
          ∙ ap (λ (r : Rec). kind_in (high s.records format.nodes_file) r n) (node n);
      groups = λ k row is. ⊎_elim
          (λ (e : group_key k ≡ group_key g).
          let there : rec_at t format.groups_file k ≡ rec = ap t e ∙ put_same s.records (group_key g) rec in
          let was : s.records (group_key g) ≡ rec_at s.records format.groups_file k = ap s.records (sym e) in
          group_kept s.records t k row (marks format.groups_file)
          (λ _ z. let byte = ap (λ (r : Rec). field 1 r format.kind) (sym there) ∙ z in let c = raised_kind (s.records (group_key g)) counts in omega arith)
          (ap (λ (r : Rec). field 4 r format.group_type) there ∙ raised_number (s.records (group_key g)) counts format.group_type (omega arith) (omega arith)
          ∙ ap (λ (r : Rec). field 4 r format.group_type) was)
          (ap (λ (r : Rec). field 4 r format.group_owner) there ∙ raised_number (s.records (group_key g)) counts format.group_owner (omega arith) (omega arith)
          ∙ ap (λ (r : Rec). field 4 r format.group_owner) was) is)
          (λ (ne : group_key k ≢ group_key g).
          let same = put_other s.records (group_key g) rec (group_key k) ne in
          group_kept s.records t k row (marks format.groups_file) (λ some z. some (ap (λ (r : Rec). field 1 r format.kind) (sym same) ∙ z))
          (ap (λ (r : Rec). field 4 r format.group_type) same) (ap (λ (r : Rec). field 4 r format.group_owner) same) is)
          (key_cases (group_key k) (group_key g));
    }

pub heads_same : (s t : State) → SameButReads s t → KeepsHeads s t
heads_same s t same = subst (λ (z : State). KeepsHeads s z) (sym same) (λ h n o. o)

pub heads_raised : (s z t : State) (g : ℕ) (counts : Counts) → SameButReads s z → t ≡ raised_state z g counts → KeepsHeads s t
heads_raised s z t g counts same is h n o =
    subst (λ (q : State). IsHeadOf q.records h n) (sym is) (heads_alike z.records (raised_state z g counts).records (alike_raised z g counts) h n
    (heads_same s z same h n o))

pub heads_then : (s t u : State) → KeepsHeads s t → KeepsHeads t u → KeepsHeads s u
heads_then s t u a b h n o = b h n (a h n o)

-- ---- heads that are found

pub place_first : (side : Side) → IsFirstPlace (place_of side)
place_first Out = inl refl
place_first Into = inr (inl refl)
place_first Loop = inr (inr refl)

-- that of a group of the node
pub own_head : (s : State) (node : ℕ) (group : OwnRow) (side : Side) → IsGroupAt s node group → IsHeadOf s.records (group_head group.id side) node
own_head s node group side at = inr (record {
  dense = at.dense;
  row = row_as group.id group.label node;
  group = group_is s node group at;
  owner = refl;
  key =
      refl;
  field = place_first side;
})

-- ---- a node that was read

-- it is sparse or dense
pub node_known : (s : State) (id : ℕ) → nodes.IsKnown s id → kind_at s.records format.nodes_file id ≢ 0 → IsDense s.records id ⊎ IsSparse s.records id
node_known s id known used =
    let r = rec_at s.records format.nodes_file id in
    let lt = kind_below (high s.records format.nodes_file) r id used in
    let low = kind_low (high s.records format.nodes_file) r id lt in
    ⊎_elim (λ (e : field 1 r format.kind ≡ format.sparse). inr (low ∙ e))
    (λ (a : field 1 r format.kind ≢ format.sparse). ⊎_elim (λ (e : field 1 r format.kind ≡ format.dense). inl (low ∙ e))
    (λ (b : field 1 r format.kind ≢ format.dense). absurd (known.kind lt (none r (field 1 r format.kind) (λ e. used (low ∙ e)) a b)))
    (nat_cases (field 1 r format.kind) format.dense)) (nat_cases (field 1 r format.kind) format.sparse)
  where
    none : (r : Rec) (kind : ℕ) → kind ≢ 0 → kind ≢ 1 → kind ≢ 2 → layout_by format.nodes_file r kind ≡ None
    none r kind a b c = by (nat_eq kind 0) (nat_eq kind 1) (nat_eq kind 2) (eq_false kind 0 a) (eq_false kind 1 b) (eq_false kind 2 c)
      where
        by : (free sparse dense : Bool) → free ≡ false → sparse ≡ false → dense ≡ false
            → cond free (free_layout format.nodes_file) (cond sparse (node_layout format.relationships_file) (cond dense (node_layout format.groups_file) None))
            ≡ None
        by true sparse dense e f h = absurd cc
        by false true dense e f h = absurd cc
        by false false true e f h = absurd cc
        by false false false e f h = refl
