-- A link or a degree that is set in a record that fits.
use Rattle.std.proofs.Common.{◌≡◌, ◌≢◌, ◌⊎◌, ℕ, zero, suc, ◌+◌, ◌*◌, ◌<◌, ◌≤◌, ◌^◌, nat_lt, nat_eq, Bool, true, false}
use Rattle.std.proofs.Common.{◌&&◌, ◌||◌, Some, List, [], ◌∷◌, sym, ap, ◌∙◌, subst, inl, inr, ⊎_elim, arith, refl}
use Rattle.std.specs.List.{list_any}
use Rattle.std.proofs.lemmas.Bool.{cases_lt}
use Rattle.std.proofs.lemmas.Bool.Decides.{nat_tests}
use Rattle.rec_bytes.specs.declared.record.Rec.{Rec}
use Rattle.rec_bytes.specs.Format as format
use Rattle.rec_bytes.specs.Record.{field, with_field}
use Rattle.rec_bytes.proofs.Numbers.{field-with_field_other, field-with_field_same}
use Rattle.store_rules.specs.Ranges.{Fits, IsBlankOutside, Layout, Pointer, all_point, bytes_of, is_in, layout_by, layout_of, may, must, pointers_from, points}
use Rattle.store_rules.specs.Views.{is_group_kind}
use Rattle.store_rules.proofs.GroupLaws.{IsFirstPlace}
use Rattle.store_rules.proofs.NumberLaws.{and_parts, eq_true, lt_true, nat_cases}
use Rattle.store_rules.proofs.ViewLaws.{group_kinds}

-- none, or below a mark
abbrev pub IsLow : ℕ → ℕ → Type 0
IsLow mark link = (link ≡ format.nil) ⊎ (link < mark)

pub low_points : (n mark : ℕ) → IsLow mark n → (nat_lt n mark || (true && nat_eq n format.nil)) ≡ true
low_points n mark low = ⊎_elim (λ (e : n ≡ format.nil). rw (eq_true n format.nil e) (right (nat_lt n mark))) (λ (lt : n < mark). rw (lt_true n mark lt) refl)
    low
  where
    right : (a : Bool) → (a || true) ≡ true
    right true = refl
    right false = refl

-- the place is a link's
abbrev pub IsLink : ℕ → Type 0
IsLink at = (at ≡ format.relationship_source_previous) ⊎ ((at ≡ format.relationship_source_next)
    ⊎ ((at ≡ format.relationship_target_previous) ⊎ (at ≡ format.relationship_target_next)))

-- a node's, by the file that its first link points into
abbrev node_layout_is : ℕ → Layout
node_layout_is into = record {
  pointers = may format.node_first_link into ∷ may format.node_first_property format.properties_file ∷ [];
  used = bytes_of format.kind 1 ∷ bytes_of format.node_label 16 ∷ [];
}

abbrev rel_layout_is : Layout
rel_layout_is = record {
  pointers = must format.relationship_source format.nodes_file ∷ must format.relationship_target format.nodes_file
      ∷ may format.relationship_source_previous format.relationships_file ∷ may format.relationship_source_next format.relationships_file
      ∷ may format.relationship_target_previous format.relationships_file ∷ may format.relationship_target_next format.relationships_file
      ∷ may format.relationship_first_property format.properties_file ∷ [];
  used = bytes_of format.kind 1 ∷ bytes_of format.relationship_type 32 ∷ [];
}

-- a group's, by how many bytes are in use from its type on
abbrev group_layout_is : ℕ → Layout
group_layout_is size = record {
  pointers = must format.group_owner format.nodes_file ∷ may format.group_previous format.groups_file ∷ may format.group_next format.groups_file
      ∷ may format.group_first_out format.relationships_file ∷ may format.group_first_in format.relationships_file
      ∷ may format.group_first_loop format.relationships_file ∷ [];
  used = bytes_of format.kind 1 ∷ bytes_of format.group_type size ∷ [];
}

abbrev entry_layout_is : Layout
entry_layout_is = record {
  pointers = must format.indexed_node format.nodes_file ∷ may format.indexed_previous format.index_file ∷ may format.indexed_next format.index_file ∷ [];
  used = bytes_of format.kind 1 ∷ bytes_of format.indexed_node 20 ∷ [];
}

abbrev heads_layout_is : Layout
heads_layout_is = record {
  pointers = pointers_from format.heads_count (λ place. may place format.index_file) format.heads_first;
  used = bytes_of format.kind 1 ∷ bytes_of format.heads_first 60 ∷ [];
}

inner : (a b : Layout) → Some a ≡ Some b → a ≡ b
inner a b e = cc

-- a byte outside of the used ones stands apart from each four of them
apart_used : (i at size : ℕ) → 4 ≤ at → at + 4 ≤ 4 + size → list_any (is_in i) (bytes_of format.kind 1 ∷ bytes_of 4 size ∷ []) ≡ false → (i + 1 ≤ at)
    ⊎ (at + 4 ≤ i)
apart_used i at size low high out = ⊎_elim (λ (l : i < 4). inl (omega arith))
    (λ (ge : 4 ≤ i). ⊎_elim (λ (l : i < 4 + size). absurd (let a : 4 + size ≤ i = grind (arith, nat_tests) in omega arith)) (λ (k : 4 + size ≤ i). inr
    (omega arith)) (cases_lt i (4 + size))) (cases_lt i 4)

module _ (marks : ℕ → ℕ) (r : Rec) (at to : ℕ) (low : 4 ≤ at) (fits : at + 4 ≤ 64) (small : to < 2 ^ 32) where
  abbrev now : Rec
  now = with_field 4 r at to

  other : (n place : ℕ) → place + n ≤ 64 → (place + n ≤ at) ⊎ (at + 4 ≤ place) → field n now place ≡ field n r place
  other n place inside apart = field-with_field_other 4 r at to n place inside (⊎_elim (λ below. inr below) (λ above. inl above) apart)

  here : field 4 now at ≡ to
  here = field-with_field_same 4 r at to fits small

  kind_same : field 1 now format.kind ≡ field 1 r format.kind
  kind_same = other 1 0 (omega arith) (inl (omega arith))

  -- each pointer stands apart from the place, or there, where the number is one that it may be
  abbrev PointRight : List Pointer → Type 0
  PointRight [] = Unit {0}
  PointRight (p ∷ ps) = (((p.place + 4 ≤ 64) × ((p.place + 4 ≤ at) ⊎ (at + 4 ≤ p.place))) ⊎ ((p.place ≡ at) × (p.optional ≡ true) × IsLow (marks p.into) to))
      × PointRight ps

  right_of : (a : Bool) → (a || true) ≡ true
  right_of true = refl
  right_of false = refl

  point_here : (p : Pointer) → p.place ≡ at → p.optional ≡ true → IsLow (marks p.into) to → points marks now p ≡ true
  point_here p is optional low = ⊎_elim
      (λ (e : to ≡ format.nil). rw (ap (field 4 now) is ∙ here, optional, eq_true to format.nil e) (right_of (nat_lt to (marks p.into))))
      (λ (lt : to < marks p.into). rw (ap (field 4 now) is ∙ here, lt_true to (marks p.into) lt) refl) low

  all_right : (ps : List Pointer) → PointRight ps → all_point marks r ps ≡ true → all_point marks now ps ≡ true
  all_right [] h old = refl
  all_right (p ∷ ps) h old =
      let k = and_parts (points marks r p) (all_point marks r ps) old in
      let first : points marks now p ≡ true = ⊎_elim
      (λ (a : (p.place + 4 ≤ 64) × ((p.place + 4 ≤ at) ⊎ (at + 4 ≤ p.place))). ap (λ v. nat_lt v (marks p.into) || (p.optional && nat_eq v format.nil))
      (other 4 p.place a.0 a.1) ∙ k.0)
      (λ b. point_here p b.0 b.1 b.2) h.0 in
      rw (first, all_right ps h.1 k.1) refl

  fits_as : (file size : ℕ) (layout : Layout) → layout.used ≡ bytes_of format.kind 1 ∷ bytes_of 4 size ∷ [] → at + 4 ≤ 4 + size → PointRight layout.pointers
      → layout_of file r ≡ Some layout → layout_of file now ≡ Some layout → Fits marks file r → Fits marks file now
  fits_as file size layout used inside right old new h =
      let same : layout ≡ h.layout = inner layout h.layout (sym old ∙ h.is) in
      record {
        layout = layout;
        is = new;
        point = all_right layout.pointers right (subst (λ (l : Layout). all_point marks r l.pointers ≡ true) (sym same) h.point);
        blank = λ i lt out. other 1 i (omega arith) (apart_used i at size low inside (ap (list_any (is_in i)) (sym used) ∙ out))
            ∙ (subst (λ (l : Layout). IsBlankOutside l.used r) (sym same) h.blank) i lt out;
      }

  node_as : at + 4 ≤ 20 → PointRight (node_layout_is format.relationships_file).pointers → field 1 r format.kind ≡ format.sparse
      → Fits marks format.nodes_file r → Fits marks format.nodes_file now
  node_as inside right kind = fits_as format.nodes_file 16 (node_layout_is format.relationships_file) refl inside right
      (ap (layout_by format.nodes_file r) kind) (ap (layout_by format.nodes_file now) (kind_same ∙ kind))

  dense_as : at + 4 ≤ 20 → PointRight (node_layout_is format.groups_file).pointers → field 1 r format.kind ≡ format.dense → Fits marks format.nodes_file r
      → Fits marks format.nodes_file now
  dense_as inside right kind = fits_as format.nodes_file 16 (node_layout_is format.groups_file) refl inside right (ap (layout_by format.nodes_file r) kind)
      (ap (layout_by format.nodes_file now) (kind_same ∙ kind))

  rel_as : at + 4 ≤ 36 → PointRight rel_layout_is.pointers → field 1 r format.kind ≡ format.related → Fits marks format.relationships_file r
      → Fits marks format.relationships_file now
  rel_as inside right kind = fits_as format.relationships_file 32 rel_layout_is refl inside right (ap (layout_by format.relationships_file r) kind)
      (ap (layout_by format.relationships_file now) (kind_same ∙ kind))

  group_as : at + 4 ≤ 32 → PointRight (group_layout_is 28).pointers → is_group_kind (field 1 r format.kind) ≡ true → Fits marks format.groups_file r
      → Fits marks format.groups_file now
  group_as inside right kind = ⊎_elim
      (λ (k : field 1 r format.kind ≡ format.grouped). fits_as format.groups_file 28 (group_layout_is 28) refl inside right (ap (layout_by format.groups_file r)
      k) (ap (layout_by format.groups_file now) (kind_same ∙ k)))
      (λ (k : field 1 r format.kind ≡ format.counted). fits_as format.groups_file 40 (group_layout_is 40) refl (omega arith) right
      (ap (layout_by format.groups_file r) k) (ap (layout_by format.groups_file now) (kind_same ∙ k)))
      (group_kinds (field 1 r format.kind) kind)

  count_as : at + 4 ≤ 44 → PointRight (group_layout_is 40).pointers → field 1 r format.kind ≡ format.counted → Fits marks format.groups_file r
      → Fits marks format.groups_file now
  count_as inside right kind = fits_as format.groups_file 40 (group_layout_is 40) refl inside right (ap (layout_by format.groups_file r) kind)
      (ap (layout_by format.groups_file now) (kind_same ∙ kind))

  entry_as : at + 4 ≤ 24 → PointRight entry_layout_is.pointers → field 1 r format.kind ≡ format.indexed → Fits marks format.index_file r
      → Fits marks format.index_file now
  entry_as inside right kind = fits_as format.index_file 20 entry_layout_is refl inside right (ap (layout_by format.index_file r) kind)
      (ap (layout_by format.index_file now) (kind_same ∙ kind))

  -- links from a place on, four bytes apart, of which the place is one or none
  links_right : (into n a b : ℕ) → at ≡ 4 * a → b + n ≤ 16 → IsLow (marks into) to → PointRight (pointers_from n (λ place. may place into) (4 * b))
  links_right into zero a b is inside low = tt
  links_right into (suc n) a b is inside low = (
    ⊎_elim (λ (p : b ≡ a). inr (omega arith, refl, low)) (λ (ne : b ≢ a). inl (omega arith, aside (cases_lt b a) ne)) (nat_cases b a),
    subst (λ place. PointRight (pointers_from n (λ place. may place into) place)) (omega arith) (links_right into n a (b + 1) is (omega arith) low),
  )
    where
      aside : (b < a) ⊎ (a ≤ b) → b ≢ a → (4 * b + 4 ≤ at) ⊎ (at + 4 ≤ 4 * b)
      aside (inl lt) ne = inl (omega arith)
      aside (inr le) ne = inr (let less : a < b = omega arith in omega arith)

  heads_as : (a : ℕ) → at ≡ 4 * a → IsLow (marks format.index_file) to → field 1 r format.kind ≡ format.heads → Fits marks format.index_file r
      → Fits marks format.index_file now
  heads_as a is low kind = fits_as format.index_file 60 heads_layout_is refl fits (links_right format.index_file format.heads_count a 1 is (omega arith) low)
      (ap (layout_by format.index_file r) kind) (ap (layout_by format.index_file now) (kind_same ∙ kind))

-- the place of a number of relationships
abbrev pub IsCountPlace : ℕ → Type 0
IsCountPlace at = (at ≡ format.group_out_count) ⊎ ((at ≡ format.group_in_count) ⊎ (at ≡ format.group_loop_count))

-- a number of a counted group
pub fits_count : (marks : ℕ → ℕ) (r : Rec) (at to : ℕ) → IsCountPlace at → to < 2 ^ 32 → field 1 r format.kind ≡ format.counted
    → Fits marks format.groups_file r → Fits marks format.groups_file (with_field 4 r at to)
fits_count marks r at to place small = count_as marks r at to (let b = within in omega arith) (let b = within in omega arith) small
    (let b = within in omega arith) (
      inl (omega arith, inl (let b = within in omega arith)),
      (
        inl (omega arith, inl (let b = within in omega arith)),
        (
          inl (omega arith, inl (let b = within in omega arith)),
          (
            inl (omega arith, inl (let b = within in omega arith)),
            (inl (omega arith, inl (let b = within in omega arith)), (inl (omega arith, inl (let b = within in omega arith)), tt)),
          ),
        ),
      ),
    )
  where
    within : (32 ≤ at) × (at + 4 ≤ 44)
    within = ⊎_elim (λ (e : at ≡ 32). (omega arith, omega arith)) (λ k. ⊎_elim (λ (e : at ≡ 36). (omega arith, omega arith))
        (λ (e : at ≡ 40). (omega arith, omega arith)) k) place

-- the first link of a sparse node
pub fits_first : (marks : ℕ → ℕ) (r : Rec) (to : ℕ) → to < 2 ^ 32 → IsLow (marks format.relationships_file) to → field 1 r format.kind ≡ format.sparse
    → Fits marks format.nodes_file r
    → Fits marks format.nodes_file (with_field 4 r format.node_first_link to)
fits_first marks r to small low = node_as marks r format.node_first_link to (omega arith) (omega arith) small (omega arith)
    (inr (refl, refl, low), (inl (omega arith, inr (omega arith)), tt))

-- the degree of a node
pub fits_degree : (marks : ℕ → ℕ) (r : Rec) (to : ℕ) → to < 2 ^ 32 → (field 1 r format.kind ≡ format.sparse) ⊎ (field 1 r format.kind ≡ format.dense)
    → Fits marks format.nodes_file r → Fits marks format.nodes_file (with_field 4 r format.node_degree to)
fits_degree marks r to small (inl sparse) = node_as marks r format.node_degree to (omega arith) (omega arith) small (omega arith)
    (inl (omega arith, inl (omega arith)), (inl (omega arith, inl (omega arith)), tt)) sparse
fits_degree marks r to small (inr dense) = dense_as marks r format.node_degree to (omega arith) (omega arith) small (omega arith)
    (inl (omega arith, inl (omega arith)), (inl (omega arith, inl (omega arith)), tt)) dense

abbrev FirstFits : (ℕ → ℕ) → Rec → ℕ → ℕ → Type 0
FirstFits marks r to at = is_group_kind (field 1 r format.kind) ≡ true → Fits marks format.groups_file r → Fits marks format.groups_file (with_field 4 r at to)

-- the first link of a chain of a group
pub fits_group_first : (marks : ℕ → ℕ) (r : Rec) (at to : ℕ) → IsFirstPlace at → to < 2 ^ 32 → IsLow (marks format.relationships_file) to
    → is_group_kind (field 1 r format.kind) ≡ true → Fits marks format.groups_file r
    → Fits marks format.groups_file (with_field 4 r at to)
fits_group_first marks r at to is small low = ⊎_elim (λ (e : at ≡ 20). subst (FirstFits marks r to) (sym e) at_20)
    (λ k. ⊎_elim (λ (e : at ≡ 24). subst (FirstFits marks r to) (sym e) at_24) (λ (e : at ≡ 28). subst (FirstFits marks r to) (sym e) at_28) k) is
  where
    at_20 : FirstFits marks r to 20
    at_20 = group_as marks r 20 to (omega arith) (omega arith) small (omega arith) (
      inl (omega arith, inl (omega arith)),
      (
        inl (omega arith, inl (omega arith)),
        (
          inl (omega arith, inl (omega arith)),
          (
            inr (refl, refl, low),
            (inl (omega arith, inr (omega arith)), (inl (omega arith, inr (omega arith)), tt)),
          ),
        ),
      ),
    )

    at_24 : FirstFits marks r to 24
    at_24 = group_as marks r 24 to (omega arith) (omega arith) small (omega arith) (
      inl (omega arith, inl (omega arith)),
      (
        inl (omega arith, inl (omega arith)),
        (
          inl (omega arith, inl (omega arith)),
          (inl (omega arith, inl (omega arith)), (inr (refl, refl, low), (inl (omega arith, inr (omega arith)), tt))),
        ),
      ),
    )

    at_28 : FirstFits marks r to 28
    at_28 = group_as marks r 28 to (omega arith) (omega arith) small (omega arith) (
      inl (omega arith, inl (omega arith)),
      (
        inl (omega arith, inl (omega arith)),
        (
          inl (omega arith, inl (omega arith)),
          (inl (omega arith, inl (omega arith)), (inl (omega arith, inl (omega arith)), (inr (refl, refl, low), tt))),
        ),
      ),
    )

abbrev LinkFits : (ℕ → ℕ) → Rec → ℕ → ℕ → Type 0
LinkFits marks r to at = field 1 r format.kind ≡ format.related → Fits marks format.relationships_file r
    → Fits marks format.relationships_file (with_field 4 r at to)

-- a link of a relationship
pub fits_link : (marks : ℕ → ℕ) (r : Rec) (at to : ℕ) → IsLink at → to < 2 ^ 32 → IsLow (marks format.relationships_file) to
    → field 1 r format.kind ≡ format.related → Fits marks format.relationships_file r
    → Fits marks format.relationships_file (with_field 4 r at to)
fits_link marks r at to is small low = ⊎_elim (λ (e : at ≡ 16). subst (LinkFits marks r to) (sym e) at_16)
    (λ k. ⊎_elim (λ (e : at ≡ 20). subst (LinkFits marks r to) (sym e) at_20) (λ l. ⊎_elim (λ (e : at ≡ 24). subst (LinkFits marks r to) (sym e) at_24)
    (λ (e : at ≡ 28). subst (LinkFits marks r to) (sym e) at_28) l) k) is
  where
    at_16 : LinkFits marks r to 16
    at_16 = rel_as marks r 16 to (omega arith) (omega arith) small (omega arith) (
      inl (omega arith, inl (omega arith)),
      (
        inl (omega arith, inl (omega arith)),
        (
          inr (refl, refl, low),
          (
            inl (omega arith, inr (omega arith)),
            (inl (omega arith, inr (omega arith)), (inl (omega arith, inr (omega arith)), (inl (omega arith, inr (omega arith)), tt))),
          ),
        ),
      ),
    )

    at_20 : LinkFits marks r to 20
    at_20 = rel_as marks r 20 to (omega arith) (omega arith) small (omega arith) (
      inl (omega arith, inl (omega arith)),
      (
        inl (omega arith, inl (omega arith)),
        (
          inl (omega arith, inl (omega arith)),
          (
            inr (refl, refl, low),
            (inl (omega arith, inr (omega arith)), (inl (omega arith, inr (omega arith)), (inl (omega arith, inr (omega arith)), tt))),
          ),
        ),
      ),
    )

    at_24 : LinkFits marks r to 24
    at_24 = rel_as marks r 24 to (omega arith) (omega arith) small (omega arith) (
      inl (omega arith, inl (omega arith)),
      (
        inl (omega arith, inl (omega arith)),
        (
          inl (omega arith, inl (omega arith)),
          (
            inl (omega arith, inl (omega arith)),
            (
              inr (refl, refl, low),
              (
                inl (omega arith, inr (omega arith)),
                (
                  inl (omega arith, inr (omega arith)),
                  tt,
                ),
              ),
            ),
          ),
        ),
      ),
    )

    at_28 : LinkFits marks r to 28
    at_28 = rel_as marks r 28 to (omega arith) (omega arith) small (omega arith) (
      inl (omega arith, inl (omega arith)),
      (
        inl (omega arith, inl (omega arith)),
        (
          inl (omega arith, inl (omega arith)),
          (
            inl (omega arith, inl (omega arith)),
            (
              inl (omega arith, inl (omega arith)),
              (
                inr (refl, refl, low),
                (
                  inl (omega arith, inr (omega arith)),
                  tt,
                ),
              ),
            ),
          ),
        ),
      ),
    )

-- the first property of a node, and of a relationship
pub fits_node_property : (marks : ℕ → ℕ) (r : Rec) (to : ℕ) → to < 2 ^ 32 → IsLow (marks format.properties_file) to → (field 1 r format.kind ≡ format.sparse)
    ⊎ (field 1 r format.kind ≡ format.dense) → Fits marks format.nodes_file r
    → Fits marks format.nodes_file (with_field 4 r format.node_first_property to)
fits_node_property marks r to small low (inl sparse) = node_as marks r format.node_first_property to (omega arith) (omega arith) small (omega arith)
    (inl (omega arith, inl (omega arith)), (inr (refl, refl, low), tt)) sparse
fits_node_property marks r to small low (inr dense) = dense_as marks r format.node_first_property to (omega arith) (omega arith) small (omega arith)
    (inl (omega arith, inl (omega arith)), (inr (refl, refl, low), tt)) dense

pub fits_rel_property : (marks : ℕ → ℕ) (r : Rec) (to : ℕ) → to < 2 ^ 32 → IsLow (marks format.properties_file) to → field 1 r format.kind ≡ format.related
    → Fits marks format.relationships_file r
    → Fits marks format.relationships_file (with_field 4 r format.relationship_first_property to)
fits_rel_property marks r to small low = rel_as marks r format.relationship_first_property to (omega arith) (omega arith) small (omega arith) (
  inl (omega arith, inl (omega arith)),
  (
    inl (omega arith, inl (omega arith)),
    (
      inl (omega arith, inl (omega arith)),
      (
        inl (omega arith, inl (omega arith)),
        (inl (omega arith, inl (omega arith)), (inl (omega arith, inl (omega arith)), (inr (refl, refl, low), tt))),
      ),
    ),
  ),
)

-- the link of a group to another
pub fits_group_previous : (marks : ℕ → ℕ) (r : Rec) (to : ℕ) → to < 2 ^ 32 → IsLow (marks format.groups_file) to → is_group_kind (field 1 r format.kind) ≡ true
    → Fits marks format.groups_file r
    → Fits marks format.groups_file (with_field 4 r format.group_previous to)
fits_group_previous marks r to small low = group_as marks r format.group_previous to (omega arith) (omega arith) small (omega arith) (
  inl (omega arith, inl (omega arith)),
  (
    inr (refl, refl, low),
    (
      inl (omega arith, inr (omega arith)),
      (
        inl (omega arith, inr (omega arith)),
        (inl (omega arith, inr (omega arith)), (inl (omega arith, inr (omega arith)), tt)),
      ),
    ),
  ),
)

pub fits_group_next : (marks : ℕ → ℕ) (r : Rec) (to : ℕ) → to < 2 ^ 32 → IsLow (marks format.groups_file) to → is_group_kind (field 1 r format.kind) ≡ true
    → Fits marks format.groups_file r
    → Fits marks format.groups_file (with_field 4 r format.group_next to)
fits_group_next marks r to small low = group_as marks r format.group_next to (omega arith) (omega arith) small (omega arith) (
  inl (omega arith, inl (omega arith)),
  (
    inl (omega arith, inl (omega arith)),
    (
      inr (refl, refl, low),
      (
        inl (omega arith, inr (omega arith)),
        (inl (omega arith, inr (omega arith)), (inl (omega arith, inr (omega arith)), tt)),
      ),
    ),
  ),
)

-- the first link of a dense node, which is to a group
pub fits_dense_first : (marks : ℕ → ℕ) (r : Rec) (to : ℕ) → to < 2 ^ 32 → IsLow (marks format.groups_file) to → field 1 r format.kind ≡ format.dense
    → Fits marks format.nodes_file r
    → Fits marks format.nodes_file (with_field 4 r format.node_first_link to)
fits_dense_first marks r to small low = dense_as marks r format.node_first_link to (omega arith) (omega arith) small (omega arith)
    (inr (refl, refl, low), (inl (omega arith, inr (omega arith)), tt))

-- the links of an entry
pub fits_entry_previous : (marks : ℕ → ℕ) (r : Rec) (to : ℕ) → to < 2 ^ 32 → IsLow (marks format.index_file) to → field 1 r format.kind ≡ format.indexed
    → Fits marks format.index_file r
    → Fits marks format.index_file (with_field 4 r format.indexed_previous to)
fits_entry_previous marks r to small low = entry_as marks r format.indexed_previous to (omega arith) (omega arith) small (omega arith)
    (inl (omega arith, inl (omega arith)), (inr (refl, refl, low), (inl (omega arith, inr (omega arith)), tt)))

pub fits_entry_next : (marks : ℕ → ℕ) (r : Rec) (to : ℕ) → to < 2 ^ 32 → IsLow (marks format.index_file) to → field 1 r format.kind ≡ format.indexed
    → Fits marks format.index_file r
    → Fits marks format.index_file (with_field 4 r format.indexed_next to)
fits_entry_next marks r to small low = entry_as marks r format.indexed_next to (omega arith) (omega arith) small (omega arith)
    (inl (omega arith, inl (omega arith)), (inl (omega arith, inl (omega arith)), (inr (refl, refl, low), tt)))

-- the first entry of a bucket
pub fits_head : (marks : ℕ → ℕ) (r : Rec) (place to : ℕ) → place < 15 → to < 2 ^ 32 → IsLow (marks format.index_file) to → field 1 r format.kind ≡ format.heads
    → Fits marks format.index_file r
    → Fits marks format.index_file (with_field 4 r (format.heads_first + 4 * place) to)
fits_head marks r place to low_place small low = heads_as marks r (format.heads_first + 4 * place) to (omega arith) (omega arith) small (place + 1)
    (omega arith) low
