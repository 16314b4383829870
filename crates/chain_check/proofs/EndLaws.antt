-- The ends of relationships in the chains of nodes and of groups, and what it says that they are seen.
use Rattle.std.proofs.Common.{◌≡◌, ◌≢◌, ◌⊎◌, ℕ, ◌+◌, ◌*◌, ◌/◌, ◌<◌, Bool, true, false, cond, ◌||◌, Some, List, map, sym}
use Rattle.std.proofs.Common.{ap, ◌∙◌, subst, inl, inr, ⊎_elim, arith, refl}
use Rattle.std.specs.Bool.{Decides}
use Rattle.std.proofs.lemmas.Bool.{cases_Bool, eqb-true, or_cases, true≢false}
use Rattle.rec_bytes.specs.declared.key.Key.{Key}
use Rattle.rec_bytes.specs.declared.record.Rec.{Rec}
use Rattle.rec_bytes.specs.Format as format
use Rattle.rec_bytes.specs.Record.{field}
use Rattle.store_rules.specs.Chains.{In}
use Rattle.store_rules.specs.Rules as rules
use Rattle.store_rules.specs.Views.{RelRow, Records, group_at, high, kind_at, rec_at, rel_at, rel_in}
use Rattle.store_rules.proofs.ChainRules.{Stands, chain_head, head_is, on_dense, on_owned, owned_by, owned_head}
use Rattle.store_rules.proofs.GroupLaws.{IsFirstPlace, stands_end}
use Rattle.store_rules.proofs.OnceLaws.{map_in}
use Rattle.store_rules.proofs.ViewLaws.{kind_below, row_some, some_row}
use Rattle.store_rules.specs.Breaking.{ChainedHead, EndKeeps, GroupKeeps, IsChainHead, IsHeadChain, IsHeadOf, IsInChain}
use Rattle.store_rules.specs.Breaking.{IsOnChain, IsOnOwnChain, NodeKeeps, RelKeeps, group_head}
use Rattle.chain_check.specs.declared.chains.Side.TheVariants.{Any}
use Rattle.record_lists.specs.Heads.{AmongHeads, AtHead, HeadKeeps, IsOnce, IsTwice}
use Rattle.chain_check.specs.Chained.{SeesChains}
use Rattle.record_lists.specs.Seen.{is_seen}
use Rattle.chain_check.specs.NodeChains.{AreGroupEnds, AreHeadEnds, AreNodeEnds, EndHolds, IsChained, IsMet, IsSparse}
use Rattle.chain_check.specs.NodeChains.{RelHolds, end_in, end_of, enters, group_of, leaves, owner_at, place_of}
use Rattle.chain_check.proofs.ChainedLaws.{owned_low}
use Rattle.record_lists.proofs.LineLaws.{in_map}
use Rattle.record_lists.proofs.RecordLaws.{kind_read}
use Rattle.chain_check.proofs.SideLaws.{head_id, place_first, same_id, side_test}

-- ---- numbers of ends

-- ends with one number are those of one relationship, at its source or at its target
pub ends_same : (x y : ℕ) (a b : Bool) → 2 * x + cond a 0 1 ≡ 2 * y + cond b 0 1 → (x ≡ y) × (a ≡ b)
ends_same x y true true e = (omega arith, refl)
ends_same x y false false e = (omega arith, refl)
ends_same x y true false e = absurd (omega arith)
ends_same x y false true e = absurd (omega arith)

-- nodes at which a relationship has the same end are one
same_node : (r : Rec) (m n : ℕ) → leaves r m ≡ leaves r n → (leaves r m || enters r m) ≡ true → (leaves r n || enters r n) ≡ true → m ≡ n
same_node r m n e hm hn = ⊎_elim
    (λ (t : leaves r n ≡ true). sym (eqb-true (field 4 r format.relationship_source) m (e ∙ t)) ∙ eqb-true (field 4 r format.relationship_source) n t)
    (λ (f : leaves r n ≡ false).
    let em : enters r m ≡ true = ⊎_elim (λ k. absurd (true≢false (sym k ∙ e ∙ f))) (λ k. k) (or_cases (leaves r m) (enters r m) hm) in
    let en : enters r n ≡ true = ⊎_elim (λ k. absurd (true≢false (sym k ∙ f))) (λ k. k) (or_cases (leaves r n) (enters r n) hn) in
    sym (eqb-true (field 4 r format.relationship_target) m em) ∙ eqb-true (field 4 r format.relationship_target) n en)
    (cases_Bool (leaves r n))

-- the relationship of an end
half_of : (x p : ℕ) (a : Bool) → p ≡ 2 * x + cond a 0 1 → x ≡ p / 2
half_of x p true e = omega arith
half_of x p false e = omega arith

module _ (records : Records) where
  -- the end of this number is one at the node
  pub record IsEndAt (n p : ℕ) : Type 0 where
    pub rel : ℕ
    pub end : p ≡ end_of records n rel
    pub at : (leaves (rec_at records format.relationships_file rel) n || enters (rec_at records format.relationships_file rel) n) ≡ true

  end_node : (m n p : ℕ) → IsEndAt m p → IsEndAt n p → m ≡ n
  end_node m n p a b =
      let file = format.relationships_file in
      let s = ends_same a.rel b.rel (leaves (rec_at records file a.rel) m) (leaves (rec_at records file b.rel) n) (sym a.end ∙ b.end) in
      same_node (rec_at records file b.rel) m n
      (subst (λ x. leaves (rec_at records file x) m ≡ leaves (rec_at records file b.rel) n) s.0 s.1)
      (subst (λ x. (leaves (rec_at records file x) m || enters (rec_at records file x) m) ≡ true) s.0 a.at)
      b.at

  end_rel : (m n p : ℕ) (a : IsEndAt m p) (b : IsEndAt n p) → a.rel ≡ b.rel
  end_rel m n p a b =
      let file = format.relationships_file in
      (ends_same a.rel b.rel (leaves (rec_at records file a.rel) m) (leaves (rec_at records file b.rel) n) (sym a.end ∙ b.end)).0

  rel_low : (x : ℕ) (row : RelRow) → rel_at records x ≡ Some row → x < high records format.relationships_file
  rel_low x row live = kind_below (high records format.relationships_file) (rec_at records format.relationships_file x) x
      (some_row (kind_at records format.relationships_file x) (rel_in (rec_at records format.relationships_file x) x) row live).0

  -- what each relationship below the mark keeps all do
  pub all_keep : ((x : ℕ) → x < high records format.relationships_file → RelKeeps records x) → (x : ℕ) → RelKeeps records x
  all_keep each x = record {
    from = λ row live. let k = each x (rel_low x row live) in k.from row live;
    to = λ row live. let k = each x (rel_low x row live) in k.to row live;
  }

  -- and so do all nodes
  pub nodes_keep : ((n : ℕ) → n < high records format.nodes_file → NodeKeeps records n) → (n : ℕ) → NodeKeeps records n
  nodes_keep each n = record {
    chain = λ is. let k = each n (kind_below (high records format.nodes_file) (rec_at records format.nodes_file n) n (λ z. let e : 1 ≡ 0 = sym is ∙ z in omega
        arith)) in k.chain is;
  }

  row_end : (n x : ℕ) (row : RelRow) → rel_at records x ≡ Some row → rules.IsEnd n row
      → (leaves (rec_at records format.relationships_file x) n || enters (rec_at records format.relationships_file x) n) ≡ true
  row_end n x row live end =
      let r = rec_at records format.relationships_file x in
      side_test n r x Any (subst (rules.IsEnd n) (sym (some_row (kind_at records format.relationships_file x) (rel_in r x) row live).1) end)

  -- what stands at a head of a node has an end there
  head_end : (head : rules.Head) (n x : ℕ) → IsHeadOf records head n → (s : Stands records head x) → rules.IsEnd n s.row
  head_end head n x (inl o) s = ⊎_elim
      (λ (b : (head.key.file ≡ format.nodes_file) × rules.IsEnd head.key.id s.row). subst (λ (h : rules.Head). rules.IsEnd h.key.id s.row) o.is b.1)
      (λ (b : (head.key.file ≡ format.groups_file) × rules.IsInGroup (group_at records) head s.row). absurd (let f = b.0 in let k = ap
      (λ (h : rules.Head). h.key.file) o.is in omega arith))
      s.on
  head_end head n x (inr o) s = stands_end records head n x o s

  -- a member of a chain, by the number of its end
  pub record IsMember (head : rules.Head) (n p : ℕ) (members : List ℕ) : Type 0 where
    pub end : IsEndAt n p
    pub member : In end.rel members
    pub stands : Stands records head end.rel

  met_in : (head : rules.Head) (n p : ℕ) (ends : List ℕ) → IsHeadOf records head n → (h : AreHeadEnds records head n ends) → In p ends
      → IsMember head n p h.members
  met_in head n p ends own h i =
      let r = map_in (end_of records n) p h.members (subst (In p) h.are i) in
      let s = h.chain.only r.0 r.1 in
      record { end = record { rel = r.0; end = r.2; at = row_end n r.0 s.row s.live (head_end head n r.0 own s) }; member = r.1; stands = s }

  node_own : (n : ℕ) → IsSparse records n → IsHeadOf records (rules.node_head n) n
  node_own n is = inl (record { sparse = is; is = refl })

  node_end : (n p : ℕ) → AtHead (IsSparse records) (AreNodeEnds records) n p → IsEndAt n p
  node_end n p a = let m = met_in (rules.node_head n) n p a.items (node_own n a.must) a.listed a.member in m.end

  -- so no end is met twice in the chains of sparse nodes
  pub never_twice : (n : ℕ) (seen : List Bool) (p : ℕ) → ((q : ℕ) → is_seen seen q ≡ false) → ¬ IsTwice (IsSparse records) (AreNodeEnds records) n seen p
  never_twice n seen p clear t = ⊎_elim
      (λ (m : is_seen seen p ≡ true). true≢false (sym m ∙ clear p))
      (λ (a : AmongHeads (IsSparse records) (AreNodeEnds records) t.head p).
      let same = end_node a.id t.head p (node_end a.id p a.here) (node_end t.head p t.here) in
      let below : a.id < t.head = a.below in
      absurd (omega arith))
      t.before

  pub keeps_of_head : (n : ℕ) → HeadKeeps (IsSparse records) (AreNodeEnds records) n → NodeKeeps records n
  keeps_of_head n h = record { chain = λ is. let l = h.list is in (l.1.members, l.1.chain) }

  pub head_of_keeps : (n : ℕ) → NodeKeeps records n → HeadKeeps (IsSparse records) (AreNodeEnds records) n
  head_of_keeps n k = record { list = λ is. let l = k.chain is in (map (end_of records n) l.0, record { members = l.0; chain = l.1; are = refl }) }

  -- ---- the chains of groups

  module _ (chained : List Bool) (right : SeesChains records chained) where
    abbrev pub Begins : ℕ → Type 0
    Begins id = IsChained chained records (group_of id)

    -- a group that is seen is on the chain of the node that its record names
    on_own : (g : ℕ) → IsChained chained records g → IsOnChain records (owner_at records g) g
    on_own g c = let k = (right g).0 c.seen in let o = on_owned records k.0 g k.1 in subst (λ n. IsOnChain records n g) (sym o.owner) k.1

    -- and one that is there is seen
    chained_of : (n g : ℕ) → IsOnChain records n g → IsChained chained records g
    chained_of n g on = let o = on_owned records n g on in record { live = o.used; seen = (right g).1 (n, on) }

    abbrev own_of : (id : ℕ) → Begins id → ChainedHead records (group_head (group_of id) (place_of id)) (owner_at records (group_of id))
    own_of id c =
        let g = group_of id in
        let n = owner_at records g in
        let on = on_own g c in
        record { own = owned_head records n g (place_of id) (place_first id) (on_dense records n g on) (on_owned records n g on); on = on }

    group_met : (id p : ℕ) (a : AtHead Begins (AreGroupEnds records) id p)
        → IsMember (group_head (group_of id) (place_of id)) (owner_at records (group_of id)) p a.listed.members
    group_met id p a = let o = own_of id a.must in met_in (group_head (group_of id) (place_of id)) (owner_at records (group_of id)) p a.items (inr o.own)
        a.listed a.member

    dense_node : (id : ℕ) → Begins id → kind_at records format.nodes_file (owner_at records (group_of id)) ≡ format.dense
    dense_node id c = on_dense records (owner_at records (group_of id)) (group_of id) (on_own (group_of id) c)

    -- ends at a sparse node are none of a dense one
    apart : (n id p : ℕ) → AtHead (IsSparse records) (AreNodeEnds records) n p → AtHead Begins (AreGroupEnds records) id p → ⊥
    apart n id p a b =
        let m = group_met id p b in
        let same = end_node n (owner_at records (group_of id)) p (node_end n p a) m.end in
        absurd (let e : 1 ≡ 2 = sym a.must ∙ ap (kind_at records format.nodes_file) same ∙ dense_node id b.must in omega arith)

    -- a relationship in chains of two heads of a node doesn't keep the rule
    two_heads : (i j p : ℕ) → i < j → AtHead Begins (AreGroupEnds records) i p → AtHead Begins (AreGroupEnds records) j p → (x : ℕ) × (x ≡ p / 2)
        × (x < high records format.relationships_file) × (¬ RelKeeps records x)
    two_heads i j p lt a b =
        let n = owner_at records (group_of i) in
        let m = owner_at records (group_of j) in
        let ma = group_met i p a in
        let mb = group_met j p b in
        let node : m ≡ n = end_node m n p mb.end ma.end in
        let rel : mb.end.rel ≡ ma.end.rel = end_rel m n p mb.end ma.end in
        let x = ma.end.rel in
        let one : IsInChain records n x = record {
          head = group_head (group_of i) (place_of i);
          owns = inr (own_of i a.must);
          members = a.listed.members;
          chain = a.listed.chain;
          member = ma.member;
        } in
        let other : IsInChain records n x = record {
          head = group_head (group_of j) (place_of j);
          owns = inr (subst (ChainedHead records (group_head (group_of j) (place_of j))) node (own_of j b.must));
          members = b.listed.members;
          chain = subst (λ k. IsHeadChain records (group_head (group_of j) (place_of j)) k b.listed.members) node b.listed.chain;
          member = subst (λ k. In k b.listed.members) rel mb.member;
        } in
        let apart_heads : group_head (group_of i) (place_of i) ≡ group_head (group_of j) (place_of j) → ⊥
        = λ e. let same = same_id i j (ap (λ (h : rules.Head). h.key.id) e) (ap (λ (h : rules.Head). h.field) e) in omega arith in
        let own = own_of i a.must in
        let end : rules.IsEnd n ma.stands.row = head_end (group_head (group_of i) (place_of i)) n x (inr own.own) ma.stands in (
          x,
          half_end ma.end,
          rel_low x ma.stands.row ma.stands.live,
          (λ k. ⊎_elim
              (λ (e : ma.stands.row.from ≡ n). let keeps = subst (λ z. EndKeeps records z x) e (k.from ma.stands.row ma.stands.live) in apart_heads
              (keeps.once one other))
              (λ (e : ma.stands.row.to ≡ n). let keeps = subst (λ z. EndKeeps records z x) e (k.to ma.stands.row ma.stands.live) in apart_heads
              (keeps.once one other))
              end),
        )
      where
        half_end : {k q : ℕ} (e : IsEndAt k q) → e.rel ≡ q / 2
        half_end {k} {q} e = half_of e.rel q (leaves (rec_at records format.relationships_file e.rel) k) e.end

    -- so what is met twice doesn't
    pub group_twice : (mark count : ℕ) (seen : List Bool) (p : ℕ) → ((q : ℕ) → Decides (is_seen seen q) (AmongHeads (IsSparse records) (AreNodeEnds records)
        mark q)) → IsTwice Begins (AreGroupEnds records) count seen p
        → (x : ℕ) × (x ≡ p / 2) × (x < high records format.relationships_file) × (¬ RelKeeps records x)
    group_twice mark count seen p told t = ⊎_elim
        (λ (m : is_seen seen p ≡ true). let a = (told p).0 m in absurd (apart a.id t.head p a.here t.here))
        (λ (a : AmongHeads Begins (AreGroupEnds records) t.head p). two_heads a.id t.head p a.below a.here t.here)
        t.before

    -- the number of a head of a group
    pub record IsNumbered (head : rules.Head) (n : ℕ) : Type 0 where
      pub id : ℕ
      pub low : id < 3 * high records format.groups_file
      pub begins : Begins id
      pub is : head ≡ group_head (group_of id) (place_of id)
      pub owner : owner_at records (group_of id) ≡ n

    number_of : (g place n : ℕ) → IsFirstPlace place → IsOnChain records n g → IsNumbered (group_head g place) n
    number_of g place n first on =
        let i = head_id g place first in
        let o = on_owned records n g on in
        let low = owned_low records n g o in
        record {
          id = i.0;
          low = let up = i.3 in omega arith;
          begins = subst (IsChained chained records) (sym i.1) (chained_of n g on);
          is = ap (λ k. group_head k place) (sym i.1) ∙ ap (group_head (group_of i.0)) (sym i.2);
          owner = ap (owner_at records) i.1 ∙ o.owner;
        }

    pub keeps_of_heads : ((id : ℕ) → id < 3 * high records format.groups_file → HeadKeeps Begins (AreGroupEnds records) id) → (g : ℕ) → IsOnOwnChain records g
        → GroupKeeps records g
    keeps_of_heads heads g k = record {
      chains = λ place n own.
          let id : own.row.id ≡ g = ap (λ (z : Key). z.id) (sym own.key) in
          let o = on_owned records k.0 g k.1 in
          let p = owned_by records n own.row.id own.row own.group own.owner in
          let same : k.0 ≡ n = sym o.owner ∙ ap (owner_at records) (sym id) ∙ p.owner in
          let i = number_of g place n own.field (subst (λ m. IsOnChain records m g) same k.1) in
          let l = (heads i.id i.low).list i.begins in (
            l.1.members,
            subst (λ h. IsHeadChain records h n l.1.members) (sym i.is)
                (subst (λ m. IsHeadChain records (group_head (group_of i.id) (place_of i.id)) m l.1.members) i.owner l.1.chain),
          );
    }

    pub heads_of_keeps : (id : ℕ) → GroupKeeps records (group_of id) → HeadKeeps Begins (AreGroupEnds records) id
    heads_of_keeps id k = record {
      list = λ begins.
          let o = own_of id begins in
          let l = k.chains (place_of id) (owner_at records (group_of id)) o.own in
          (map (end_of records (owner_at records (group_of id))) l.0, record { members = l.0; chain = l.1; are = refl });
    }

    -- a group without a chain that it needs is on its owner's chain
    pub own_chain : (id : ℕ) → ¬ HeadKeeps Begins (AreGroupEnds records) id → IsOnOwnChain records (group_of id)
    own_chain id bad = ⊎_elim
        (λ (m : is_seen chained (group_of id) ≡ true). (right (group_of id)).0 m)
        (λ (f : is_seen chained (group_of id) ≡ false). absurd (bad (record { list = λ c. absurd (true≢false (sym c.seen ∙ f)) })))
        (cases_Bool (is_seen chained (group_of id)))

    -- ---- what is seen in all chains

    module _ (first last : List Bool)
        (nodes : (p : ℕ) → Decides (is_seen first p) (AmongHeads (IsSparse records) (AreNodeEnds records) (high records format.nodes_file) p))
        (groups : (p : ℕ) → Decides (is_seen last p) ((is_seen first p ≡ true) ⊎ AmongHeads Begins (AreGroupEnds records) (3 * high records format.groups_file)
        p)) where
      node_met : (p : ℕ) → AmongHeads (IsSparse records) (AreNodeEnds records) (high records format.nodes_file) p → IsMet records p
      node_met p a = record {
        node = a.id;
        head = rules.node_head a.id;
        owns = inl (record { sparse = a.here.must; is = refl });
        ends = a.here.items;
        here = a.here.listed;
        member = a.here.member;
      }

      among_met : (p : ℕ) → AmongHeads Begins (AreGroupEnds records) (3 * high records format.groups_file) p → IsMet records p
      among_met p a = record {
        node = owner_at records (group_of a.id);
        head = group_head (group_of a.id) (place_of a.id);
        owns = inr (own_of a.id a.here.must);
        ends = a.here.items;
        here = a.here.listed;
        member = a.here.member;
      }

      met_node : (p : ℕ) (m : IsMet records p) → rules.SparseHead (kind_at records format.nodes_file) m.head m.node
          → AtHead (IsSparse records) (AreNodeEnds records) m.node p
      met_node p m s = record { must = s.sparse; items = m.ends; listed = subst (λ h. AreHeadEnds records h m.node m.ends) s.is m.here; member = m.member }

      -- what is met at a head of a group, by the head's number
      record IsMetAt (p : ℕ) (head : rules.Head) : Type 0 where
        pub id : ℕ
        pub low : id < 3 * high records format.groups_file
        pub is : head ≡ group_head (group_of id) (place_of id)
        pub here : AtHead Begins (AreGroupEnds records) id p

      met_group : (p : ℕ) (m : IsMet records p) → ChainedHead records m.head m.node → IsMetAt p m.head
      met_group p m c =
          let i = number_of c.own.row.id m.head.field m.node c.own.field c.on in
          let is : m.head ≡ group_head (group_of i.id) (place_of i.id) = head_is records m.head m.node c.own ∙ i.is in
          record {
            id = i.id;
            low = i.low;
            is = is;
            here = record {
              must = i.begins;
              items = m.ends;
              listed = subst (λ o. AreHeadEnds records (group_head (group_of i.id) (place_of i.id)) o m.ends) (sym i.owner)
                  (subst (λ h. AreHeadEnds records h m.node m.ends) is m.here);
              member = m.member;
            };
          }

      pub all_met : (p : ℕ) → Decides (is_seen last p) (IsMet records p)
      all_met p = (
        (λ t. ⊎_elim (λ (f : is_seen first p ≡ true). node_met p ((nodes p).0 f)) (λ a. among_met p a) ((groups p).0 t)),
        (λ m. (groups p).1 (⊎_elim
            (λ s. inl ((nodes p).1 (record {
              id = m.node;
              below = kind_below (high records format.nodes_file) (rec_at records format.nodes_file m.node) m.node
                  (λ z. let e : 1 ≡ 0 = sym s.sparse ∙ z in omega arith);
              here = met_node p m s;
            })))
            (λ c. let k = met_group p m c in inr (record { id = k.id; below = k.low; here = k.here }))
            m.owns)),
      )

      -- each end is met at one head
      pub met_once : ((p : ℕ) → IsOnce Begins (AreGroupEnds records) (3 * high records format.groups_file) p) → (p : ℕ) (one other : IsMet records p)
          → one.head ≡ other.head
      met_once once p one other = by one.owns other.owns
        where
          by : IsChainHead records one.head one.node → IsChainHead records other.head other.node → one.head ≡ other.head
          by (inl s) (inl t) =
              let same = end_node one.node other.node p (node_end one.node p (met_node p one s)) (node_end other.node p (met_node p other t)) in
              s.is ∙ ap rules.node_head same ∙ sym t.is
          by (inl s) (inr d) = let k = met_group p other d in absurd (apart one.node k.id p (met_node p one s) k.here)
          by (inr c) (inl t) = let k = met_group p one c in absurd (apart other.node k.id p (met_node p other t) k.here)
          by (inr c) (inr d) =
              let k = met_group p one c in
              let l = met_group p other d in
              let same = once p k.id l.id k.low l.low k.here l.here in
              k.is ∙ ap (λ i. group_head (group_of i) (place_of i)) same ∙ sym l.is

  -- ---- what is seen of a relationship

  module _ (seen : List Bool) (told : (p : ℕ) → Decides (is_seen seen p) (IsMet records p))
      (once : (p : ℕ) (one other : IsMet records p) → one.head ≡ other.head) where
    -- what is in a chain of the node is met
    abbrev in_met : (n x : ℕ) → IsInChain records n x → IsMet records (end_of records n x)
    in_met n x c = record {
      node = n;
      head = c.head;
      owns = c.owns;
      ends = map (end_of records n) c.members;
      here = record { members = c.members; chain = c.chain; are = refl };
      member = in_map (end_of records n) x c.members c.member;
    }

    end_keeps : (x n : ℕ) (row : RelRow) → rel_at records x ≡ Some row → rules.IsEnd n row
        → EndHolds (kind_at records format.nodes_file) n (is_seen seen (end_of records n x)) → EndKeeps records n x
    end_keeps x n row live end h = record {
      node = h.node;
      chain = λ has.
          let p = end_of records n x in
          let m = (told p).0 (h.chain has) in
          let i = met_in m.head m.node p m.ends (chain_head records m.head m.node m.owns) m.here m.member in
          let here : IsEndAt n p = record { rel = x; end = refl; at = row_end n x row live end } in
          let node = end_node m.node n p i.end here in
          let rel = end_rel m.node n p i.end here in
          subst (λ z. IsInChain records z x) node
          (record { head = m.head; owns = m.owns; members = m.here.members; chain = m.here.chain; member = subst (λ y. In y m.here.members) rel i.member });
      once = λ one other. once (end_of records n x) (in_met n x one) (in_met n x other);
    }

    end_holds : (x n : ℕ) → EndKeeps records n x → EndHolds (kind_at records format.nodes_file) n (is_seen seen (end_of records n x))
    end_holds x n k = record {
      node = k.node;
      chain = λ has. (told (end_of records n x)).1 (in_met n x (k.chain has));
    }

    pub rel_kept : (x : ℕ) → RelHolds (kind_at records format.nodes_file) records seen x → RelKeeps records x
    rel_kept x h = record {
      from = λ row live. end_keeps x row.from row live (inl refl) (h.from row live);
      to = λ row live. end_keeps x row.to row live (inr refl) (h.to row live);
    }

    pub rel_holds : (x : ℕ) → RelKeeps records x → RelHolds (kind_at records format.nodes_file) records seen x
    rel_holds x k = record {
      from = λ row live. end_holds x row.from (k.from row live);
      to = λ row live. end_holds x row.to (k.to row live);
    }

-- ---- the test of a relationship

module _ (kind : ℕ → ℕ) (records : Records) (seen : List Bool) (x : ℕ) (r : Rec) (lt : x < high records format.relationships_file)
    (e : r ≡ rec_at records format.relationships_file x) (some : field 1 r format.kind ≢ 0) where
  read_row : rel_at records x ≡ Some (rel_in r x)
  read_row =
      row_some (kind_at records format.relationships_file x) (rel_in (rec_at records format.relationships_file x) x)
      (λ z. some (sym (kind_read records format.relationships_file x r lt e) ∙ z))
      ∙ ap (λ q. Some (rel_in q x)) (sym e)

  one_row : (row : RelRow) → rel_at records x ≡ Some row → rel_in r x ≡ row
  one_row row live = let same : Some (rel_in r x) ≡ Some row = sym read_row ∙ live in cc

  abbrev pub Holds : ℕ → Type 0
  Holds n = EndHolds kind n (is_seen seen (end_in r n x))

  pub hold_both : Holds (field 4 r format.relationship_source) → Holds (field 4 r format.relationship_target) → RelHolds kind records seen x
  hold_both a b = record {
    from = λ row live. subst (λ (o : RelRow). EndHolds kind o.from (is_seen seen (end_of records o.from x))) (one_row row live)
        (subst (λ q. EndHolds kind (field 4 r format.relationship_source) (is_seen seen (end_in q (field 4 r format.relationship_source) x))) e a);
    to = λ row live. subst (λ (o : RelRow). EndHolds kind o.to (is_seen seen (end_of records o.to x))) (one_row row live)
        (subst (λ q. EndHolds kind (field 4 r format.relationship_target) (is_seen seen (end_in q (field 4 r format.relationship_target) x))) e b);
  }

  pub hold_from : RelHolds kind records seen x → Holds (field 4 r format.relationship_source)
  hold_from h = subst (λ q. EndHolds kind (field 4 r format.relationship_source) (is_seen seen (end_in q (field 4 r format.relationship_source) x))) (sym e)
      (h.from (rel_in r x) read_row)

  pub hold_to : RelHolds kind records seen x → Holds (field 4 r format.relationship_target)
  hold_to h = subst (λ q. EndHolds kind (field 4 r format.relationship_target) (is_seen seen (end_in q (field 4 r format.relationship_target) x))) (sym e)
      (h.to (rel_in r x) read_row)

-- a record that isn't in use is no relationship
pub none_holds : (kind : ℕ → ℕ) (records : Records) (seen : List Bool) (x : ℕ) → kind_at records format.relationships_file x ≡ 0
    → RelHolds kind records seen x
none_holds kind records seen x e = record { from = λ row live. absurd (none row live); to = λ row live. absurd (none row live) }
  where
    none : (row : RelRow) → rel_at records x ≡ Some row → ⊥
    none row live = (some_row (kind_at records format.relationships_file x) (rel_in (rec_at records format.relationships_file x) x) row live).0 e
