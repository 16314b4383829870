-- The rows of relationships: what they say is what the records say, so the chains of nodes in both are the same.
use Rattle.std.proofs.Common.{◌≡◌, ◌≢◌, ◌⊎◌, ℕ, ◌+◌, ◌<◌, ◌≤◌, Bool, true, false, cond, not, ◌&&◌, ◌||◌, nat_eq, Option}
use Rattle.std.proofs.Common.{Some, None, IfNone, IfSome, List, [], ◌∷◌, length, map, sym, ap, ◌∙◌, subst, inl, inr}
use Rattle.std.proofs.Common.{⊎_elim, arith, refl}
use Rattle.std.specs.Bool.{Decides}
use Rattle.std.proofs.lemmas.Bool.{true≢false}
use Rattle.rec_bytes.specs.declared.record.Rec.{Rec}
use Rattle.rec_bytes.specs.Format as format
use Rattle.rec_bytes.specs.Record.{field}
use Rattle.store_rules.specs.Chains.{next_in, prev_in}
use Rattle.store_rules.specs.Rules.{node_head}
use Rattle.store_rules.specs.Views.{Records, first_link, high, rec_at}
use Rattle.store_rules.proofs.NumberLaws.{and_parts, eq_false}
use Rattle.store_rules.proofs.ViewLaws.{kind_below}
use Rattle.record_lists.specs.declared.heads.Broke.{Broke}
use Rattle.record_lists.specs.declared.heads.Broke.TheVariants.{Head, Item}
use Rattle.record_lists.specs.declared.heads.Found.{Found}
use Rattle.record_lists.specs.declared.heads.Found.TheVariants.{Items, Missing, Nothing}
use Rattle.record_lists.specs.Heads.{AmongHeads, AtHead, BrokeIs, FoundIs, HeadKeeps, IsTwice}
use Rattle.record_lists.specs.Lines.{IsLine, IsLineIn}
use Rattle.record_lists.specs.Seen.{is_seen}
use Rattle.record_lists.proofs.LineLaws.{line_one}
use Rattle.chain_check.specs.declared.chains.Side.TheVariants.{Any}
use Rattle.chain_check.specs.declared.link_rows.LinkRow.{LinkRow}
use Rattle.chain_check.specs.LinkRows.{AreLinkRows, AreRowEnds, AreRowEndsOf, IsRowChain, RowEndsFound, free_row}
use Rattle.chain_check.specs.LinkRows.{link_row, row_at, row_end, row_fits, row_next, used_row}
use Rattle.chain_check.specs.NodeChains.{AreNodeEnds, IsSparse, chain_line, end_in, end_of, enters, is_of_node, leaves}
use Rattle.chain_check.proofs.ChainLaws.{head_ends, line_of_head, node_side}

-- ---- one row

module _ (r : Rec) (n : ℕ) where
  abbrev pub is_free : Bool
  is_free = nat_eq (field 1 r format.kind) format.free_kind

  -- a link of the node, chosen by its value or by its place
  linked : (one : Bool) (a b : ℕ) → cond one (field 4 r a) (field 4 r b) ≡ field 4 r (cond one a b)
  linked true a b = refl
  linked false a b = refl

  linked_on : (one : Bool) → cond one (field 4 r format.relationship_source_next) (field 4 r format.relationship_target_next)
      ≡ field 4 r (cond one format.relationship_source_previous format.relationship_target_previous + 4)
  linked_on true = refl
  linked_on false = refl

  -- a row fits where its record does
  pub fits_same : (before : ℕ) → n ≢ format.nil → row_fits n before (link_row r) ≡ (is_of_node n r && nat_eq (prev_in r n) before)
  fits_same before some = by is_free
    where
      by : (b : Bool) → row_fits n before (cond b free_row (used_row r)) ≡ ((not b && (leaves r n || enters r n)) && nat_eq (prev_in r n) before)
      by true = ap (λ z. (z || z) && nat_eq (cond z format.nil format.nil) before) (eq_false format.nil n (λ e. some (sym e)))
      by false = ap (λ p. (leaves r n || enters r n) && nat_eq p before)
          (linked (leaves r n) format.relationship_source_previous format.relationship_target_previous)

  -- what is at the node is in use
  pub used : is_of_node n r ≡ true → is_free ≡ false
  used t = by is_free (and_parts (not is_free) (leaves r n || enters r n) t).0
    where
      by : (b : Bool) → not b ≡ true → b ≡ false
      by true e = absurd (true≢false (sym e))
      by false e = refl

  -- and so its row says what its record says
  pub next_same : is_free ≡ false → row_next n (link_row r) ≡ next_in r n
  next_same e = ap (λ b. row_next n (cond b free_row (used_row r))) e ∙ linked_on (leaves r n)

  pub end_same : (x : ℕ) → is_free ≡ false → row_end n x (link_row r) ≡ end_in r n x
  end_same x e = ap (λ b. row_end n x (cond b free_row (used_row r))) e

-- ---- lines

module _ (next other : ℕ → ℕ) (fits also : ℕ → ℕ → Bool) (high : ℕ) where
  -- a line by other links, which are the same where it leads
  pub line_by : ((b x : ℕ) → x < high → fits b x ≡ true → (also b x ≡ true) × (next x ≡ other x)) → (b f : ℕ) (xs : List ℕ)
      → IsLine next fits high b f xs → IsLine other also high b f xs
  line_by agree b f [] h = h
  line_by agree b f (x ∷ xs) h =
      let a = agree b x h.1 h.2 in
      (h.0, h.1, a.0, subst (λ z. IsLine other also high x z xs) a.1 (line_by agree x (next x) xs h.3))

module _ (next : ℕ → ℕ) (fits : ℕ → ℕ → Bool) (high : ℕ) where
  -- two functions that are the same on the members of a line
  pub map_by : (one two : ℕ → ℕ) → ((b x : ℕ) → x < high → fits b x ≡ true → one x ≡ two x) → (b f : ℕ) (xs : List ℕ)
      → IsLine next fits high b f xs → map one xs ≡ map two xs
  map_by one two agree b f [] h = refl
  map_by one two agree b f (x ∷ xs) h = ap (λ z. z ∷ map one xs) (agree b x h.1 h.2) ∙ ap (λ zs. two x ∷ zs) (map_by one two agree x (next x) xs h.3)

-- ---- the chain of a node

module _ (records : Records) (rows : List LinkRow) (are : AreLinkRows records rows) (n : ℕ) (some : n ≢ format.nil) where
  abbrev pub rel_of : ℕ → Rec
  rel_of x = rec_at records format.relationships_file x

  abbrev pub next : ℕ → ℕ
  next x = row_next n (row_at rows x)

  abbrev pub fits : ℕ → ℕ → Bool
  fits before x = row_fits n before (row_at rows x)

  abbrev pub link : ℕ → ℕ
  link x = next_in (rel_of x) n

  abbrev pub stands : ℕ → ℕ → Bool
  stands before x = is_of_node n (rel_of x) && nat_eq (prev_in (rel_of x) n) before

  stands_same : (b x : ℕ) → x < length rows → fits b x ≡ stands b x
  stands_same b x lt = ap (row_fits n b) (are x lt) ∙ fits_same (rel_of x) n b some

  in_use : (b x : ℕ) → stands b x ≡ true → is_free (rel_of x) n ≡ false
  in_use b x t = used (rel_of x) n (and_parts (is_of_node n (rel_of x)) (nat_eq (prev_in (rel_of x) n) b) t).0

  link_same : (b x : ℕ) → x < length rows → stands b x ≡ true → next x ≡ link x
  link_same b x lt t = ap (row_next n) (are x lt) ∙ next_same (rel_of x) n (in_use b x t)

  ends_same : (b x : ℕ) → x < length rows → stands b x ≡ true → row_end n x (row_at rows x) ≡ end_of records n x
  ends_same b x lt t = ap (row_end n x) (are x lt) ∙ end_same (rel_of x) n x (in_use b x t)

  to_records : (b x : ℕ) → x < length rows → fits b x ≡ true → (stands b x ≡ true) × (next x ≡ link x)
  to_records b x lt t = let here = sym (stands_same b x lt) ∙ t in (here, link_same b x lt here)

  to_rows : (b x : ℕ) → x < length rows → stands b x ≡ true → (fits b x ≡ true) × (link x ≡ next x)
  to_rows b x lt t = (stands_same b x lt ∙ t, sym (link_same b x lt t))

  module _ (len : length rows ≡ high records format.relationships_file) (room : high records format.relationships_file ≤ format.most_ids) where
    abbrev pub IsChainOf : List ℕ → Type 0
    IsChainOf xs = IsLineIn (chain_line Any n) records (high records format.relationships_file) (first_link records n) xs

    -- the ends in the chain that the rows make are those in the node's chain
    pub node_ends : (ends : List ℕ) → AreRowEndsOf rows records n ends → AreNodeEnds records n ends
    node_ends ends h = head_ends records (node_head n) n Any (node_side records n) (first_link records n) ends room refl (record {
      members = h.members;
      line = subst (λ m. IsLine link stands m format.nil (first_link records n) h.members) len
          (line_by next link fits stands (length rows) to_records format.nil (first_link records n) h.members h.chain);
      are = h.are ∙ map_by next fits (length rows) (λ x. row_end n x (row_at rows x)) (end_of records n) (λ b x lt t. ends_same b x lt (to_records b x lt t).0)
          format.nil (first_link records n) h.members h.chain;
    })

    pub row_ends : (ends : List ℕ) → AreNodeEnds records n ends → AreRowEndsOf rows records n ends
    row_ends ends h =
        let line : IsChainOf h.members = line_of_head records (node_head n) n Any (node_side records n) (first_link records n) refl h.members h.chain in
        let below : IsLine link stands (length rows) format.nil (first_link records n) h.members =
        subst (λ m. IsLine link stands m format.nil (first_link records n) h.members) (sym len) line in
        record {
          members = h.members;
          chain = line_by link next stands fits (length rows) to_rows format.nil (first_link records n) h.members below;
          are = h.are ∙ sym (map_by link stands (length rows) (λ x. row_end n x (row_at rows x)) (end_of records n) ends_same format.nil (first_link records n)
              h.members below);
        }

-- ---- the head of a chain

-- the ends are determined
ends_one : (rows : List LinkRow) (n first : ℕ) (xs ys : List ℕ) → length rows ≤ format.most_ids → AreRowEnds rows n first xs → AreRowEnds rows n first ys
    → xs ≡ ys
ends_one rows n first xs ys room h k =
    h.are
    ∙ ap (map (λ x. row_end n x (row_at rows x)))
    (line_one (λ x. row_next n (row_at rows x)) (λ before x. row_fits n before (row_at rows x)) (length rows) format.nil first h.members k.members room h.chain
    k.chain)
    ∙ sym k.are

-- what a walk finds is the one list of ends
pub row_found : (rows : List LinkRow) (records : Records) (n first : ℕ) (found : Found) (has : Type 0) → length rows ≤ format.most_ids
    → first ≡ first_link records n → has
    → RowEndsFound rows n first found → FoundIs has (AreRowEndsOf rows records n) found
row_found rows records n first Nothing has room at must h = absurd h
row_found rows records n first Missing has room at must h = (must, (λ ends k. h k.members (subst (λ f. IsRowChain rows n f k.members) (sym at) k.chain)))
row_found rows records n first (Items v) has room at must h =
    let here = subst (λ f. AreRowEnds rows n f v.items) at h in
    (must, here, (λ xs k. ends_one rows n (first_link records n) xs v.items room k here))

-- ---- heads of other lists, which are the same

module _ (has : ℕ → Type 0) (lists other : ℕ → List ℕ → Type 0) (to : (k : ℕ) (xs : List ℕ) → has k → lists k xs → other k xs) where
  pub keeps_by : (k : ℕ) → HeadKeeps has lists k → HeadKeeps has other k
  keeps_by k h = record { list = λ must. let l = h.list must in (l.0, to k l.0 must l.1) }

  pub at_by : (k p : ℕ) → AtHead has lists k p → AtHead has other k p
  at_by k p a = record { must = a.must; items = a.items; listed = to k a.items a.must a.listed; member = a.member }

  pub among_by : (n p : ℕ) → AmongHeads has lists n p → AmongHeads has other n p
  among_by n p a = record { id = a.id; below = a.below; here = at_by a.id p a.here }

  pub twice_by : (n : ℕ) (seen : List Bool) (p : ℕ) → IsTwice has lists n seen p → IsTwice has other n seen p
  twice_by n seen p t = record {
    head = t.head;
    below = t.below;
    here = at_by t.head p t.here;
    before = ⊎_elim (λ m. inl m) (λ (a : AmongHeads has lists t.head p). inr (among_by t.head p a)) t.before;
  }

-- ---- what a walk by the rows finds is found by the records

module _ (records after : Records) (rows : List LinkRow) (nodes : ℕ) (same : after ≡ records) (is : nodes ≡ high records format.nodes_file)
    (are : AreLinkRows records rows) (len : length rows ≡ high records format.relationships_file)
    (few : high records format.nodes_file ≤ format.most_ids) (room : high records format.relationships_file ≤ format.most_ids) where
  sparse_some : (k : ℕ) → IsSparse records k → k ≢ format.nil
  sparse_some k s e =
      let lt : k < high records format.nodes_file = kind_below (high records format.nodes_file) (rec_at records format.nodes_file k) k
      (λ z. let o : 1 ≡ 0 = sym s ∙ z in omega arith) in
      omega arith

  to_node : (k : ℕ) (xs : List ℕ) → IsSparse records k → AreRowEndsOf rows records k xs → AreNodeEnds records k xs
  to_node k xs s h = node_ends records rows are k (sparse_some k s) len room xs h

  from_node : (k : ℕ) (xs : List ℕ) → IsSparse records k → AreNodeEnds records k xs → AreRowEndsOf rows records k xs
  from_node k xs s h = row_ends records rows are k (sparse_some k s) len room xs h

  pub keeps_found : (found : Option Broke) → IfNone found ((k : ℕ) → k < nodes → HeadKeeps (IsSparse after) (AreRowEndsOf rows after) k)
      → IfNone found ((k : ℕ) → k < high records format.nodes_file → HeadKeeps (IsSparse records) (AreNodeEnds records) k)
  keeps_found (Some b) h = tt
  keeps_found None h = λ k lt. keeps_by (IsSparse records) (AreRowEndsOf rows records) (AreNodeEnds records) to_node k
      (subst (λ (r : Records). HeadKeeps (IsSparse r) (AreRowEndsOf rows r) k) same (h k (omega arith)))

  pub seen_found : (old new : List Bool) (found : Option Broke)
      → IfNone found ((p : ℕ) → Decides (is_seen new p) ((is_seen old p ≡ true) ⊎ AmongHeads (IsSparse after) (AreRowEndsOf rows after) nodes p))
      → IfNone found ((p : ℕ) → Decides (is_seen new p) ((is_seen old p ≡ true) ⊎ AmongHeads (IsSparse records) (AreNodeEnds records)
      (high records format.nodes_file) p))
  seen_found old new (Some b) h = tt
  seen_found old new None h = λ p.
      let d : Decides (is_seen new p) ((is_seen old p ≡ true) ⊎ AmongHeads (IsSparse records) (AreRowEndsOf rows records) (high records format.nodes_file) p)
      = subst (λ m. Decides (is_seen new p) ((is_seen old p ≡ true) ⊎ AmongHeads (IsSparse records) (AreRowEndsOf rows records) m p)) is
      (subst (λ (r : Records). Decides (is_seen new p) ((is_seen old p ≡ true) ⊎ AmongHeads (IsSparse r) (AreRowEndsOf rows r) nodes p)) same (h p)) in (
        (λ t. ⊎_elim (λ o. inl o) (λ (a : AmongHeads (IsSparse records) (AreRowEndsOf rows records) (high records format.nodes_file) p).
            inr (among_by (IsSparse records) (AreRowEndsOf rows records) (AreNodeEnds records) to_node (high records format.nodes_file) p a)) (d.0 t)),
        (λ i. d.1 (⊎_elim (λ o. inl o) (λ (a : AmongHeads (IsSparse records) (AreNodeEnds records) (high records format.nodes_file) p).
            inr (among_by (IsSparse records) (AreNodeEnds records) (AreRowEndsOf rows records) from_node (high records format.nodes_file) p a)) i)),
      )

  broke_is : (seen : List Bool) (b : Broke) → BrokeIs (IsSparse records) (AreRowEndsOf rows records) nodes seen b
      → BrokeIs (IsSparse records) (AreNodeEnds records) (high records format.nodes_file) seen b
  broke_is seen (Head id) h = (omega (arith, h.0), (λ k. h.1 (keeps_by (IsSparse records) (AreNodeEnds records) (AreRowEndsOf rows records) from_node id k)))
  broke_is seen (Item p) h = subst (λ m. IsTwice (IsSparse records) (AreNodeEnds records) m seen p) is
      (twice_by (IsSparse records) (AreRowEndsOf rows records) (AreNodeEnds records) to_node nodes seen p h)

  pub broken_found : (seen : List Bool) (found : Option Broke) → IfSome found (BrokeIs (IsSparse after) (AreRowEndsOf rows after) nodes seen)
      → IfSome found (BrokeIs (IsSparse records) (AreNodeEnds records) (high records format.nodes_file) seen)
  broken_found seen None h = tt
  broken_found seen (Some b) h = broke_is seen b (subst (λ (r : Records). BrokeIs (IsSparse r) (AreRowEndsOf rows r) nodes seen b) same h)
