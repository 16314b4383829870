-- The rules that read rows, where nodes and relationships differ in their first property alone.
use Rattle.std.proofs.Common.{◌≡◌, ℕ, Bool, Option, None, Some, length, sym, ap, ◌∙◌, subst, inl, inr, ⊎_elim, arith, refl}
use Rattle.rec_bytes.specs.declared.record.Rec.{Rec}
use Rattle.rec_bytes.specs.Format as format
use Rattle.rec_bytes.specs.Record.{field}
use Rattle.store_rules.specs.Chains.{IsChain, next_in, prev_in}
use Rattle.store_rules.specs.Rows.{ids}
use Rattle.store_rules.specs.Rules.{AreCounted, AreNamed, HasCounts, Head, IsEnd, IsInGroup, IsLinked, Owns, StandsAt}
use Rattle.store_rules.specs.Rules.{count_of, degree_of, first_of, is_into, is_loop_of, is_out_of, passes, stands_in}
use Rattle.store_rules.specs.Views.{GroupRow, NodeRow, Records, RelRow, kind_at, node_at, node_in, rec_at, rel_at, rel_in}
use Rattle.store_rules.proofs.ChainLaws.{chain_stays}
use Rattle.store_rules.proofs.ViewLaws.{row_some, some_row}

-- each node of these is one of those, but for its first property
abbrev pub HaveNodes : (ℕ → Option NodeRow) → (ℕ → Option NodeRow) → Type 0
HaveNodes nodes now = (x : ℕ) (row : NodeRow) → nodes x ≡ Some row → (first : ℕ) × (now x ≡ Some (record row { property = first }))

-- and each relationship
abbrev pub HaveRels : (ℕ → Option RelRow) → (ℕ → Option RelRow) → Type 0
HaveRels rels now = (x : ℕ) (row : RelRow) → rels x ≡ Some row → (first : ℕ) × (now x ≡ Some (record row { property = first }))

-- ---- rows of records whose other numbers are the same
pub have_nodes : (s t : Records) → ((x : ℕ) → kind_at t format.nodes_file x ≡ kind_at s format.nodes_file x)
    → ((x : ℕ) → field 4 (rec_at t format.nodes_file x) format.node_label ≡ field 4 (rec_at s format.nodes_file x) format.node_label)
    → HaveNodes (node_at s) (node_at t)
have_nodes s t kinds labels x row e =
    let k = some_row (kind_at s format.nodes_file x) (node_in (rec_at s format.nodes_file x) x) row e in
    let first = field 4 (rec_at t format.nodes_file x) format.node_first_property in (
      first,
      row_some (kind_at t format.nodes_file x) (node_in (rec_at t format.nodes_file x) x) (λ z. k.0 (sym (kinds x) ∙ z))
          ∙ ap (λ l. Some (record { id = x; label = l; property = first })) (labels x)
          ∙ ap (λ (r : NodeRow). Some (record r { property = first })) k.1,
    )

-- of relationships
pub have_rels : (s t : Records) → ((x : ℕ) → kind_at t format.relationships_file x ≡ kind_at s format.relationships_file x)
    → ((x : ℕ) → rel_in (rec_at t format.relationships_file x) x ≡ record (rel_in (rec_at s format.relationships_file x) x)
    { property = field 4 (rec_at t format.relationships_file x) format.relationship_first_property })
    → HaveRels (rel_at s) (rel_at t)
have_rels s t kinds rows x row e =
    let k = some_row (kind_at s format.relationships_file x) (rel_in (rec_at s format.relationships_file x) x) row e in
    let first = field 4 (rec_at t format.relationships_file x) format.relationship_first_property in (
      first,
      row_some (kind_at t format.relationships_file x) (rel_in (rec_at t format.relationships_file x) x) (λ z. k.0 (sym (kinds x) ∙ z))
          ∙ ap (λ (r : RelRow). Some r) (rows x)
          ∙ ap (λ (r : RelRow). Some (record r { property = first })) k.1,
    )

-- ---- labels
pub named_alike : (nodes now : ℕ → Option NodeRow) (rels then : ℕ → Option RelRow) (names : ℕ) → HaveNodes now nodes → HaveRels then rels
    → AreNamed nodes rels names → AreNamed now then names
named_alike nodes now rels then names node rel h = record {
  nodes_named = λ x row e. let b = node x row e in h.nodes_named x (record row { property = b.0 }) b.1;
  rels_named = λ x row e. let b = rel x row e in h.rels_named x (record row { property = b.0 }) b.1;
}

module _ (rels now : ℕ → Option RelRow) (there : HaveRels rels now) (back : HaveRels now rels) where
  -- ---- chains of relationships
  pub stands_alike : (groups : ℕ → Option GroupRow) (h : Head) (x : ℕ) → StandsAt rels groups h x → StandsAt now groups h x
  stands_alike groups h x a =
      let b = there x a.row a.live in
      record {
        row = record a.row { property = b.0 };
        live = b.1;
        on = ⊎_elim
            (λ (k : (h.key.file ≡ format.nodes_file) × IsEnd h.key.id a.row). inl k)
            (λ (k : (h.key.file ≡ format.groups_file) × IsInGroup groups h a.row). inr (
              k.0,
              record {
                row = k.1.row;
                group = k.1.group;
                label = k.1.label;
                side = k.1.side;
              },
            )) a.on;
      }

  -- ---- degrees
  pub degree_alike : (mark n : ℕ) → degree_of now mark n ≡ degree_of rels mark n
  degree_alike mark n = λ i. length (ids (λ x. on (rels x) (now x) (λ row e. there x row e) (λ row e. back x row e) i) mark)
    where
      on : (o u : Option RelRow) → ((row : RelRow) → o ≡ Some row → (first : ℕ) × (u ≡ Some (record row { property = first })))
          → ((row : RelRow) → u ≡ Some row → (first : ℕ) × (o ≡ Some (record row { property = first }))) → stands_in n u ≡ stands_in n o
      on None None f g = refl
      on None (Some u) f g = absurd (let e = (g u refl).1 in cc)
      on (Some row) u f g = ap (stands_in n) (f row refl).1

  -- ---- the numbers of counted groups
  count_alike : (test : RelRow → Bool) → ((row : RelRow) (first : ℕ) → test (record row { property = first }) ≡ test row) → (mark : ℕ)
      → count_of test now mark ≡ count_of test rels mark
  count_alike test blind mark = λ i. length (ids (λ x. on (rels x) (now x) (λ row e. there x row e) (λ row e. back x row e) i) mark)
    where
      on : (o u : Option RelRow) → ((row : RelRow) → o ≡ Some row → (first : ℕ) × (u ≡ Some (record row { property = first })))
          → ((row : RelRow) → u ≡ Some row → (first : ℕ) × (o ≡ Some (record row { property = first }))) → passes test u ≡ passes test o
      on None None f g = refl
      on None (Some u) f g = absurd (let e = (g u refl).1 in cc)
      on (Some row) u f g = ap (passes test) (f row refl).1 ∙ blind row (f row refl).0

  pub counts_alike : (r : Rec) (group : GroupRow) (mark : ℕ) → HasCounts r group rels mark → HasCounts r group now mark
  counts_alike r group mark h = record {
    out = h.out ∙ sym (count_alike (is_out_of group) (λ row first. refl) mark);
    into = h.into ∙ sym (count_alike (is_into group) (λ row first. refl) mark);
    loops = h.loops ∙ sym (count_alike (is_loop_of group) (λ row first. refl) mark);
  }

  -- the seventh rule
  pub counted_alike : (kind degrees degrees' : ℕ → ℕ) (mark most : ℕ) → ((n : ℕ) → degrees' n ≡ degrees n) → AreCounted kind degrees rels mark most
      → AreCounted kind degrees' now mark most
  counted_alike kind degrees degrees' mark most same h = record {
    each = λ n used. same n ∙ h.each n used ∙ sym (degree_alike mark n);
    few = λ n is. let e = same n in let le = h.few n is in omega arith;
  }

module _ (s t : Records) (kind : ℕ → ℕ) (rels now : ℕ → Option RelRow) (groups : ℕ → Option GroupRow) (there : HaveRels rels now) (back : HaveRels now rels)
  where
    -- the third rule, where links and first links are as they were
    pub linked_alike : ((x n : ℕ) → next_in (rec_at t format.relationships_file x) n ≡ next_in (rec_at s format.relationships_file x) n)
        → ((x n : ℕ) → prev_in (rec_at t format.relationships_file x) n ≡ prev_in (rec_at s format.relationships_file x) n)
        → ((h : Head) (n : ℕ) → Owns kind groups h n → first_of t h ≡ first_of s h) → IsLinked s kind rels groups → IsLinked t kind now groups
    linked_alike next prev first old = record {
      ends = λ x row e. let b = back x row e in let k = old.ends x (record row { property = b.0 }) b.1 in record { from = k.from; to = k.to };
      typed = λ x n row e at d. let b = back x row e in old.typed x n (record row { property = b.0 }) b.1 at d;
      listed = record {
        each = λ h n o. let l = old.listed.each h n o in record {
          members = l.members;
          chain = subst (λ f. IsChain (λ y. next_in (rec_at t format.relationships_file y) n) (λ y. prev_in (rec_at t format.relationships_file y) n)
              format.nil f l.members) (sym (first h n o))
              (chain_stays (λ y. next_in (rec_at s format.relationships_file y) n) (λ y. prev_in (rec_at s format.relationships_file y) n)
              (λ y. next_in (rec_at t format.relationships_file y) n) (λ y. prev_in (rec_at t format.relationships_file y) n)
              format.nil (first_of s h) l.members (λ y i. next y n) (λ y i. prev y n) l.chain);
          only = λ x i. stands_alike rels now there back groups h x (l.only x i);
          all = λ x a. l.all x (stands_alike now rels back there groups h x a);
        };
      };
    }
