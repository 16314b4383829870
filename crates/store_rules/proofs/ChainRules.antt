-- The third rule asks the groups on group chains alone for their chains. Where the fourth rule is
-- kept, these are all groups, so the two forms of the third rule say the same.
use Rattle.std.proofs.Common.{◌≡◌, ◌⊎◌, ℕ, List, [], ◌∷◌, Some, sym, ap, ◌∙◌, subst, inl, inr, ⊎_elim, arith, refl}
use Rattle.rec_bytes.specs.declared.key.Key.{Key}
use Rattle.rec_bytes.specs.Format as format
use Rattle.rec_bytes.specs.Record.{field}
use Rattle.store_rules.specs.Breaking.{AreChained, EndKeeps, HasChains, IsChainHead, IsGroupHeadOf, IsHeadChain}
use Rattle.store_rules.specs.Breaking.{IsHeadOf, IsInChain, IsOnChain, IsOwnedBy, group_head}
use Rattle.store_rules.specs.Breaking.IsOnChain.{First, Next}
use Rattle.store_rules.specs.Chains.{In, IsChain, IsWalk, next_in, prev_in}
use Rattle.store_rules.specs.Rules as rules
use Rattle.store_rules.specs.Rules.{Head, KeepsGroups, KeepsLinks}
use Rattle.store_rules.specs.Views.{GroupRow, Records, RelRow, first_link, group_at, group_in, high, kind_at, rec_at, rel_at}
use Rattle.store_rules.proofs.ChainLaws.{walk_of_chain}
use Rattle.store_rules.proofs.GroupLaws.{IsFirstPlace}
use Rattle.store_rules.proofs.GroupPlaces.{first_place, group_on, some_place}
use Rattle.store_rules.proofs.MetaLaws.{high_fits}
use Rattle.store_rules.proofs.OneHead.{end_on, on_has_group, only_head}
use Rattle.store_rules.proofs.PropertyWalks.{walk_is}
use Rattle.store_rules.proofs.ViewLaws.{kind_below, row_some, some_row}

-- the link of a member of a walk leads to a member, or nowhere
goes_on : (next : ℕ → ℕ) (from : ℕ) (xs : List ℕ) → IsWalk next from xs → (g : ℕ) → In g xs → In (next g) xs ⊎ (next g ≡ format.nil)
goes_on next from [] walk g i = elim i [ ]
goes_on next from (x ∷ []) walk g (inl e) = inr (ap next e ∙ walk.2)
goes_on next from (x ∷ []) walk g (inr i) = elim i [ ]
goes_on next from (x ∷ y ∷ ys) walk g (inl e) = inl (inr (inl (ap next e ∙ walk.2.0)))
goes_on next from (x ∷ y ∷ ys) walk g (inr i) = ⊎_elim (λ k. inl (inr k)) (λ k. inr k) (goes_on next (next x) (y ∷ ys) walk.2 g i)

module _ (records : Records) where
  abbrev pub Stands : Head → ℕ → Type 0
  Stands head x = rules.StandsAt (rel_at records) (group_at records) head x

  pub same_rel : (x : ℕ) (a b : RelRow) → rel_at records x ≡ Some a → rel_at records x ≡ Some b → a ≡ b
  same_rel x a b h k = let e : Some a ≡ Some b = sym h ∙ k in cc

  -- ---- groups that a node owns, and those on its chain

  pub owned_by : (n g : ℕ) (row : GroupRow) → group_at records g ≡ Some row → row.owner ≡ n → IsOwnedBy records n g
  owned_by n g row live owner =
      let r = some_row (kind_at records format.groups_file g) (group_in (rec_at records format.groups_file g) g) row live in
      record { used = r.0; owner = ap (λ (w : GroupRow). w.owner) r.1 ∙ owner }

  pub owned_row : (n g : ℕ) → IsOwnedBy records n g → group_at records g ≡ Some (group_in (rec_at records format.groups_file g) g)
  owned_row n g o = row_some (kind_at records format.groups_file g) (group_in (rec_at records format.groups_file g) g) o.used

  pub on_dense : (n g : ℕ) → IsOnChain records n g → kind_at records format.nodes_file n ≡ format.dense
  on_dense n g (First h dense first own) = dense
  on_dense n g (Next h k on next own) = on_dense n h on

  pub on_owned : (n g : ℕ) → IsOnChain records n g → IsOwnedBy records n g
  on_owned n g (First h dense first own) = own
  on_owned n g (Next h k on next own) = own

  -- no group is numbered as what leads nowhere
  not_nil : (n : ℕ) → IsOwnedBy records n format.nil → ⊥
  not_nil n o =
      let below = kind_below (high records format.groups_file) (rec_at records format.groups_file format.nil) format.nil o.used in
      let fits = high_fits records format.groups_file in
      omega arith

  -- a walk along the group links of a node meets what is on its chain
  pub on_walk : (n : ℕ) (xs : List ℕ) → IsWalk (λ g. field 4 (rec_at records format.groups_file g) format.group_next) (first_link records n) xs → (g : ℕ)
      → IsOnChain records n g → In g xs
  on_walk n [] walk g (First h dense first own) = absurd (not_nil n (subst (IsOwnedBy records n) (sym first ∙ walk) own))
  on_walk n (x ∷ xs) walk g (First h dense first own) = inl (sym first ∙ walk.0)
  on_walk n xs walk g (Next h k on next own) = ⊎_elim
      (λ i. subst (λ z. In z xs) next i)
      (λ e. absurd (not_nil n (subst (IsOwnedBy records n) (sym next ∙ e) own)))
      (goes_on (λ z. field 4 (rec_at records format.groups_file z) format.group_next) (first_link records n) xs walk h (on_walk n xs walk h on))

  -- the head at a place of a group that the node owns
  abbrev pub owned_head : (n g place : ℕ) → IsFirstPlace place → kind_at records format.nodes_file n ≡ format.dense → IsOwnedBy records n g
      → IsGroupHeadOf records (group_head g place) n
  owned_head n g place first dense o = record {
    dense = dense;
    row = group_in (rec_at records format.groups_file g) g;
    group = owned_row n g o;
    owner = o.owner;
    key = refl;
    field = first;
  }

  -- a head of a group, by its place
  pub head_is : (head : Head) (n : ℕ) (own : IsGroupHeadOf records head n) → head ≡ group_head own.row.id head.field
  head_is head n own = ap (λ (k : Key). record { key = k; field = head.field }) own.key

  -- what begins a chain of a node is a head that it owns
  pub chain_head : (head : Head) (n : ℕ) → IsChainHead records head n → IsHeadOf records head n
  chain_head head n (inl s) = inl s
  chain_head head n (inr c) = inr c.own

  -- and it has a chain where the third rule is kept
  pub chain_at : AreChained records → (head : Head) (n : ℕ) → IsChainHead records head n → (members : List ℕ) × IsHeadChain records head n members
  chain_at h head n (inl s) = subst (λ k. (members : List ℕ) × IsHeadChain records k n members) (sym s.is) ((h.nodes n).chain s.sparse)
  chain_at h head n (inr c) =
      let is = head_is head n c.own in
      subst (λ k. (members : List ℕ) × IsHeadChain records k n members) (sym is)
      ((h.groups c.own.row.id (n, c.on)).chains head.field n (subst (λ k. IsGroupHeadOf records k n) is c.own))

  -- the chain at a head is determined
  pub chain_same : (head : Head) (n : ℕ) (xs ys : List ℕ) → IsHeadChain records head n xs → IsHeadChain records head n ys → xs ≡ ys
  chain_same head n xs ys a b =
      let next = λ (x : ℕ). next_in (rec_at records format.relationships_file x) n in
      let prev = λ (x : ℕ). prev_in (rec_at records format.relationships_file x) n in
      walk_is next (rules.first_of records head) xs ys
      (walk_of_chain next prev format.nil (rules.first_of records head) xs a.chain)
      (walk_of_chain next prev format.nil (rules.first_of records head) ys b.chain)

  abbrev pub Linked : Type 0
  Linked = KeepsLinks records

  abbrev pub Grouped : Type 0
  Grouped = KeepsGroups records []

  -- ---- where each group is on its owner's chain

  module _ (grouped : Grouped) where
    -- what a chain leads through is met from the node on
    met_on : (n before from : ℕ) (xs : List ℕ)
        → IsChain (λ g. field 4 (rec_at records format.groups_file g) format.group_next)
        (λ g. field 4 (rec_at records format.groups_file g) format.group_previous) before from xs
        → ((g : ℕ) → In g xs → IsOwnedBy records n g) → (IsOwnedBy records n from → IsOnChain records n from) → (g : ℕ) → In g xs → IsOnChain records n g
    met_on n before from [] chain own here g i = elim i [ ]
    met_on n before from (x ∷ xs) chain own here g (inl e) =
        subst (IsOnChain records n) (chain.0 ∙ sym e) (here (subst (IsOwnedBy records n) (sym chain.0) (own x (inl refl))))
    met_on n before from (x ∷ xs) chain own here g (inr i) =
        let met : IsOnChain records n x = subst (IsOnChain records n) chain.0 (here (subst (IsOwnedBy records n) (sym chain.0) (own x (inl refl)))) in
        met_on n x (field 4 (rec_at records format.groups_file x) format.group_next) xs chain.3 (λ k j. own k (inr j))
        (λ o. Next x (field 4 (rec_at records format.groups_file x) format.group_next) met refl o) g i

    pub all_on : (n g : ℕ) (row : GroupRow) → kind_at records format.nodes_file n ≡ format.dense → group_at records g ≡ Some row → row.owner ≡ n
        → IsOnChain records n g
    all_on n g row dense live owner =
        let has = grouped.each n dense in
        met_on n format.nil (first_link records n) has.members has.chain
        (λ k i. let r = has.only k i in owned_by n k r.0 r.1 r.2)
        (λ o. First (first_link records n) dense refl o) g (has.all g row live owner)

    -- so each head that a node owns begins one of its chains
    pub head_chained : (head : Head) (n : ℕ) → IsHeadOf records head n → IsChainHead records head n
    head_chained head n (inl s) = inl s
    head_chained head n (inr own) = inr (record { own = own; on = all_on n own.row.id own.row own.dense own.group own.owner })

    -- and heads of a node where one relationship stands are one
    same_head : (a b : Head) (n x : ℕ) → IsHeadOf records a n → IsHeadOf records b n → Stands a x → Stands b x → a ≡ b
    same_head a b n x o p s t =
        only_head records [] grouped a b n s.row o p s.on (subst (rules.IsOn (group_at records) b) (same_rel x t.row s.row t.live s.live) t.on)

    -- ---- one form from the other

    module _ (h : AreChained records) where
      end_kept : (x n : ℕ) (row : RelRow) → rel_at records x ≡ Some row → rules.IsEnd n row → EndKeeps records n x
      end_kept x n row live (inl e) = subst (λ m. EndKeeps records m x) e ((h.rels x).from row live)
      end_kept x n row live (inr e) = subst (λ m. EndKeeps records m x) e ((h.rels x).to row live)

      typed : (x n : ℕ) (row : RelRow) → rel_at records x ≡ Some row → rules.IsEnd n row → kind_at records format.nodes_file n ≡ format.dense
          → rules.HasGroup (group_at records) n row.label
      typed x n row live end dense =
          let k = end_kept x n row live end in
          let c = k.chain (inr dense) in
          let s = c.chain.only x c.member in
          on_has_group (kind_at records format.nodes_file) (group_at records) c.head n row (chain_head c.head n c.owns)
          (subst (rules.IsOn (group_at records) c.head) (same_rel x s.row row s.live live) s.on) dense

      has_chains : (head : Head) (n : ℕ) → IsHeadOf records head n → HasChains records n
      has_chains head n (inl s) = inl s.sparse
      has_chains head n (inr o) = inr o.dense

      each : (head : Head) (n : ℕ) → IsHeadOf records head n → rules.IsListed records head n (Stands head)
      each head n own =
          let k = chain_at h head n (head_chained head n own) in
          record {
            members = k.0;
            chain = k.1.chain;
            only = k.1.only;
            all = λ x s.
                let end = end_kept x n s.row s.live (end_on (kind_at records format.nodes_file) (group_at records) head n s.row own s.on) in
                let c = end.chain (has_chains head n own) in
                let is = same_head c.head head n x (chain_head c.head n c.owns) own (c.chain.only x c.member) s in
                subst (In x) (chain_same head n c.members k.0 (subst (λ a. IsHeadChain records a n c.members) is c.chain) k.1) c.member;
          }

      -- the rule of the chains on group chains is that of all chains
      pub linked_of : Linked
      linked_of = record {
        ends = λ x row live. let k = h.rels x in let from = k.from row live in let to = k.to row live in record { from = from.node; to = to.node };
        typed = typed;
        listed = record { each = each };
      }

    module _ (h : Linked) where
      listed : (head : Head) (n : ℕ) → IsHeadOf records head n → (members : List ℕ) × IsHeadChain records head n members
      listed head n own = let l = h.listed.each head n own in (l.members, record { chain = l.chain; only = l.only })

      in_chain : (x n : ℕ) (row : RelRow) → rel_at records x ≡ Some row → rules.IsEnd n row → HasChains records n → IsInChain records n x
      in_chain x n row live end (inl sparse) =
          let l = h.listed.each (rules.node_head n) n (inl (record { sparse = sparse; is = refl })) in
          record {
            head = rules.node_head n;
            owns = inl (record { sparse = sparse; is = refl });
            members = l.members;
            chain = record { chain = l.chain; only = l.only };
            member = l.all x (record { row = row; live = live; on = inl (refl, end) });
          }
      in_chain x n row live end (inr dense) =
          let t = h.typed x n row live end dense in
          let side = some_place row.from row.to n end in
          let head : Head = group_head t.row.id side.0 in
          let own : IsGroupHeadOf records head n = record {
            dense = dense;
            row = t.row;
            group = t.group;
            owner = t.owner;
            key = refl;
            field = first_place side.0
                row.from row.to n side.1;
          } in
          let l = h.listed.each head n (inr own) in
          record {
            head = head;
            owns = head_chained head n (inr own);
            members = l.members;
            chain = record { chain = l.chain; only = l.only };
            member = l.all x (record {
              row = row;
              live = live;
              on = group_on (kind_at records format.nodes_file) (group_at records) head n own row (sym t.label)
                  side.1;
            });
          }

      once : (n x : ℕ) (a b : IsInChain records n x) → a.head ≡ b.head
      once n x a b = same_head a.head b.head n x (chain_head a.head n a.owns) (chain_head b.head n b.owns) (a.chain.only x a.member) (b.chain.only x b.member)

      -- and that of all chains is the rule of those on group chains
      pub chained_of : AreChained records
      chained_of = record {
        nodes = λ n. record { chain = λ is. listed (rules.node_head n) n (inl (record { sparse = is; is = refl })) };
        groups = λ g on. record { chains = λ place m own. listed (group_head g place) m (inr own) };
        rels = λ x. record {
          from = λ row live. let ends = h.ends x row live in record {
            node = ends.from;
            chain = λ has. in_chain x row.from row live (inl refl) has;
            once = once
                row.from x;
          };
          to = λ row live. let ends = h.ends x row live in record {
            node = ends.to;
            chain = λ has. in_chain x row.to row live (inr refl) has;
            once = once row.to
                x;
          };
        };
      }
