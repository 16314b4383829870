-- Items that are told apart by their identifiers or codes.
use Rattle.std.proofs.Common.{◌≡◌, ℕ, ℤ, Bool, true, false, not, ◌||◌, cond, nat_eq, List, [], ◌∷◌, ◌++◌, map, refl, sym, ap, ◌∙◌, subst}
use Rattle.std.specs.Cmp.Lexicographic.{pointwise, same_text}
use Rattle.std.specs.Int.{cast_signed, cast_unsigned, from_le_bytes, to_le_bytes}
use Rattle.std.specs.Int.RustNames.{FitsSigned}
use Rattle.std.specs.List.{list_any}
use mir.Syntax.{w64}
use Rattle.std.proofs.lemmas.Bool.Decides.{Decides-int_eq}
use Rattle.std.proofs.lemmas.Cmp.{nat_list_eq_equiv}
use Rattle.std.proofs.Math.Facts.{Fits-lt-pow, Fits-of_z}
use Rattle.std.proofs.lemmas.Int.{to_z-of_z}
use Rattle.std.proofs.lemmas.List.{map-append}
use Rattle.std.proofs.lemmas.List.Folds.{list_any-append}
use Rattle.std.proofs.lemmas.Nat.{from_le_bytes-to_le_bytes_8}
use Rattle.plain_graph.specs.Meaning.{is_same, unseen}
use Rattle.plain_graph.specs.declared.item.Item.{Item}
use Rattle.plain_graph.specs.declared.item.Item.TheVariants as items
use Rattle.plain_graph.specs.declared.value.Value.{Value}
use Rattle.plain_graph.specs.declared.value.Value.TheVariants as values
use Rattle.traversal_run.specs.Seen.{AreCodes, IsCode, IsInRange, bare_edge, code_of, seen_items, value_item, value_of}
use Rattle.traversal_run.proofs.Asked.{same_tests}
use Rattle.traversal_run.proofs.Texts.{is_text-pointwise}

-- ---- values by their codes

signed_back : (number : ℤ) → FitsSigned w64 number → cast_signed w64 (from_le_bytes w64 (to_le_bytes w64 (cast_unsigned w64 number))) ≡ number
signed_back number fits = ap (cast_signed w64) (from_le_bytes-to_le_bytes_8 (cast_unsigned w64 number) (Fits-lt-pow (Fits-of_z fits)))
    ∙ to_z-of_z w64 number fits

-- the code of a value is read back
decoded : (value : Value) → IsInRange value → value_of (code_of value) ≡ value
decoded (values.Int number) range = ap values.Int (signed_back number range)
decoded (values.Bool true) range = refl
decoded (values.Bool false) range = refl
decoded (values.Text text) range = refl

-- values that are the same have one code
same_codes : (value other : Value) → is_same (items.Value value) (items.Value other) ≡ true → code_of value ≡ code_of other
same_codes (values.Int a) (values.Int b) same = ap (λ z. 0 ∷ to_le_bytes w64 (cast_unsigned w64 z)) ((Decides-int_eq a b).0 same)
same_codes (values.Int a) (values.Bool b) same = absurd cc
same_codes (values.Int a) (values.Text b) same = absurd cc
same_codes (values.Bool a) (values.Int b) same = absurd cc
same_codes (values.Bool true) (values.Bool true) same = refl
same_codes (values.Bool true) (values.Bool false) same = absurd cc
same_codes (values.Bool false) (values.Bool true) same = absurd cc
same_codes (values.Bool false) (values.Bool false) same = refl
same_codes (values.Bool a) (values.Text b) same = absurd cc
same_codes (values.Text a) (values.Int b) same = absurd cc
same_codes (values.Text a) (values.Bool b) same = absurd cc
same_codes (values.Text a) (values.Text b) same = ap (λ t. 2 ∷ t) (same_text a b (sym (sym (is_text-pointwise a b) ∙ same)))

-- a value is the same as itself
itself : (value : Value) → is_same (items.Value value) (items.Value value) ≡ true
itself (values.Int number) = (Decides-int_eq number number).1 refl
itself (values.Bool true) = refl
itself (values.Bool false) = refl
itself (values.Text text) = is_text-pointwise text text ∙ nat_list_eq_equiv.refl text

-- values in their ranges are the same where their codes are
code_same : (value other : Value) → IsInRange value → IsInRange other → pointwise nat_eq (code_of value) (code_of other) ≡ is_same (items.Value value)
    (items.Value other)
code_same value other range there = same_tests (pointwise nat_eq (code_of value) (code_of other)) (is_same (items.Value value) (items.Value other))
    (λ e.
    let codes = same_text (code_of value) (code_of other) (sym e) in
    let both : value ≡ other = sym (decoded value range) ∙ ap value_of codes ∙ decoded other there in
    ap (λ (v : Value). is_same (items.Value value) (items.Value v)) (sym both) ∙ itself value)
    (λ e. subst (λ code. pointwise nat_eq (code_of value) code ≡ true) (same_codes value other e) (nat_list_eq_equiv.refl (code_of value)))

-- the code of a value is one
code_is : (value : Value) → IsInRange value → IsCode (code_of value)
code_is value range = record {
  is = ap code_of (decoded value range);
  range = subst IsInRange (sym (decoded value range)) range;
}

codes-more : (codes : List (List ℕ)) (value : Value) → IsInRange value → AreCodes codes → AreCodes (codes ++ code_of value ∷ [])
codes-more [] value range are = (code_is value range, tt)
codes-more (code ∷ codes) value range are = (are.0, codes-more codes value range are.1)

pub codes-kept : (codes kept : List (List ℕ)) (value : Value) (is_new : Bool) → IsInRange value → AreCodes codes
    → kept ≡ cond is_new (codes ++ code_of value ∷ []) codes → AreCodes kept
codes-kept codes kept value true range are is = subst AreCodes (sym is) (codes-more codes value range are)
codes-kept codes kept value false range are is = subst AreCodes (sym is) are

-- ---- which were seen

-- a value was seen where its code was
codes-values : (value : Value) → IsInRange value → (codes : List (List ℕ)) → AreCodes codes
    → list_any (pointwise nat_eq (code_of value)) codes ≡ list_any (is_same (items.Value value)) (map value_item codes)
codes-values value range [] are = refl
codes-values value range (code ∷ codes) are =
    let first : pointwise nat_eq (code_of value) code ≡ is_same (items.Value value) (value_item code) = ap (pointwise nat_eq (code_of value)) (sym are.0.is)
    ∙ code_same value (value_of code) range are.0.range in
    λ i. first i || codes-values value range codes are.1 i

-- an element where its identifier was
ids-vertices : (id : ℕ) (ids : List ℕ) → list_any (is_same (items.Vertex id)) (map items.Vertex ids) ≡ list_any (nat_eq id) ids
ids-vertices id [] = refl
ids-vertices id (x ∷ xs) = ap (λ b. nat_eq id x || b) (ids-vertices id xs)

ids-edges : (id from to : ℕ) (label : List ℕ) (ids : List ℕ) → list_any (is_same (items.Edge id label from to)) (map bare_edge ids) ≡ list_any (nat_eq id) ids
ids-edges id from to label [] = refl
ids-edges id from to label (x ∷ xs) = ap (λ b. nat_eq id x || b) (ids-edges id from to label xs)

-- none of another kind is the same
none-in : {X : Type 0} (make : X → Item) (item : Item) → ((x : X) → is_same item (make x) ≡ false) → (xs : List X)
    → list_any (is_same item) (map make xs) ≡ false
none-in make item none [] = refl
none-in make item none (x ∷ xs) = λ i. none x i || none-in make item none xs i

last_false : (a : Bool) → a || (false || false) ≡ a
last_false true = refl
last_false false = refl

mid_false : (a : Bool) → false || (a || false) ≡ a
mid_false true = refl
mid_false false = refl

any-seen : (p : Item → Bool) (vertices edges : List ℕ) (codes : List (List ℕ))
    → list_any p (seen_items vertices edges codes) ≡ list_any p (map items.Vertex vertices) ||
    (list_any p (map bare_edge edges) || list_any p (map value_item codes))
any-seen p vertices edges codes =
    list_any-append p (map items.Vertex vertices) (map bare_edge edges ++ map value_item codes)
    ∙ ap (λ b. list_any p (map items.Vertex vertices) || b) (list_any-append p (map bare_edge edges) (map value_item codes))

seen-vertex : (id : ℕ) (vertices edges : List ℕ) (codes : List (List ℕ))
    → list_any (is_same (items.Vertex id)) (seen_items vertices edges codes) ≡ list_any (nat_eq id) vertices
seen-vertex id vertices edges codes =
    any-seen (is_same (items.Vertex id)) vertices edges codes
    ∙ (λ i. ids-vertices id vertices i || (none-in bare_edge (items.Vertex id) (λ x. refl) edges i || none-in value_item (items.Vertex id) (λ x. refl) codes i))
    ∙ last_false (list_any (nat_eq id) vertices)

seen-edge : (id from to : ℕ) (label : List ℕ) (vertices edges : List ℕ) (codes : List (List ℕ))
    → list_any (is_same (items.Edge id label from to)) (seen_items vertices edges codes) ≡ list_any (nat_eq id) edges
seen-edge id from to label vertices edges codes =
    let item = items.Edge id label from to in
    any-seen (is_same item) vertices edges codes
    ∙ (λ i. none-in items.Vertex item (λ x. refl) vertices i || (ids-edges id from to label edges i || none-in value_item item (λ x. refl) codes i))
    ∙ mid_false (list_any (nat_eq id) edges)

seen-value : (value : Value) → IsInRange value → (vertices edges : List ℕ) (codes : List (List ℕ)) → AreCodes codes
    → list_any (is_same (items.Value value)) (seen_items vertices edges codes) ≡ list_any (pointwise nat_eq (code_of value)) codes
seen-value value range vertices edges codes are =
    let item = items.Value value in
    let own = sym (codes-values value range codes are) in
    any-seen (is_same item) vertices edges codes
    ∙ (λ i. none-in items.Vertex item (λ x. refl) vertices i || (none-in bare_edge item (λ x. refl) edges i || own i))

-- ---- one more item

-- of the items seen, only which they are the same as counts
unseen-seen : (seen other later : List Item) → ((item : Item) → list_any (is_same item) seen ≡ list_any (is_same item) other)
    → unseen seen later ≡ unseen other later
unseen-seen seen other [] same = refl
unseen-seen seen other (item ∷ later) same =
    let more = unseen-seen (seen ++ item ∷ []) (other ++ item ∷ []) later
    (λ x. list_any-append (is_same x) seen (item ∷ []) ∙ ap (λ b. b || list_any (is_same x) (item ∷ [])) (same x) ∙ sym (list_any-append (is_same x) other
    (item ∷ []))) in
    λ i. cond (same item i) (unseen-seen seen other later same i) (item ∷ more i)

-- an item is kept where it is new
unseen-added : (seen added kept : List Item) (item : Item) (is_new : Bool) → is_new ≡ not (list_any (is_same item) seen)
    → ((x : Item) → list_any (is_same x) (seen ++ item ∷ []) ≡ list_any (is_same x) added)
    → kept ≡ cond is_new added seen → (later : List Item) → unseen seen (item ∷ later) ≡ cond is_new (item ∷ []) [] ++ unseen kept later
unseen-added seen added kept item is_new is same is_kept later = by (list_any (is_same item) seen) is_new is is_kept
  where
    by : (b n : Bool) → n ≡ not b → kept ≡ cond n added seen → cond b (unseen seen later) (item ∷ unseen (seen ++ item ∷ []) later) ≡ cond n (item ∷ [])
        [] ++ unseen kept later
    by true false e k = ap (λ list. unseen list later) (sym k)
    by false true e k = ap (λ rest. item ∷ rest) (unseen-seen (seen ++ item ∷ []) added later same ∙ ap (λ list. unseen list later) (sym k))
    by true true e k = absurd cc
    by false false e k = absurd cc

or_first : (v p r : Bool) → (v || r) || (p || false) ≡ (v || (p || false)) || r
or_first true p r = refl
or_first false true true = refl
or_first false true false = refl
or_first false false true = refl
or_first false false false = refl

or_mid : (v e p c : Bool) → (v || (e || c)) || (p || false) ≡ v || ((e || (p || false)) || c)
or_mid true e p c = refl
or_mid false e p c = or_first e p c

or_last : (v e c p : Bool) → (v || (e || c)) || (p || false) ≡ v || (e || (c || (p || false)))
or_last true e c p = refl
or_last false true c p = refl
or_last false false c p = refl

-- the list that is seen after one more, by its parts
after-item : (p : Item → Bool) (vertices edges : List ℕ) (codes : List (List ℕ)) (item : Item)
    → list_any p (seen_items vertices edges codes ++ item ∷ []) ≡ (list_any p (map items.Vertex vertices) || (list_any p (map bare_edge edges) || list_any p
    (map value_item codes))) || (p item || false)
after-item p vertices edges codes item = list_any-append p (seen_items vertices edges codes) (item ∷ [])
    ∙ ap (λ b. b || (p item || false)) (any-seen p vertices edges codes)

more-in : {X : Type 0} (p : Item → Bool) (make : X → Item) (xs : List X) (x : X)
    → list_any p (map make (xs ++ x ∷ [])) ≡ list_any p (map make xs) || (p (make x) || false)
more-in p make xs x = ap (list_any p) (map-append make xs (x ∷ [])) ∙ list_any-append p (map make xs) (make x ∷ [])

pub unseen-vertex : (vertices edges : List ℕ) (codes : List (List ℕ)) (id : ℕ) (kept : List ℕ) (is_new : Bool) → is_new ≡ not (list_any (nat_eq id) vertices)
    → kept ≡ cond is_new (vertices ++ id ∷ []) vertices
    → (later : List Item) → unseen (seen_items vertices edges codes) (items.Vertex id ∷ later) ≡ cond is_new (items.Vertex id ∷ []) [] ++ unseen
    (seen_items kept edges codes) later
unseen-vertex vertices edges codes id kept is_new is is_kept =
    unseen-added (seen_items vertices edges codes) (seen_items (vertices ++ id ∷ []) edges codes) (seen_items kept edges codes) (items.Vertex id) is_new
    (is ∙ ap not (sym (seen-vertex id vertices edges codes)))
    (λ x.
    let p = is_same x in
    let rest = list_any p (map bare_edge edges) || list_any p (map value_item codes) in
    after-item p vertices edges codes (items.Vertex id)
    ∙ or_first (list_any p (map items.Vertex vertices)) (p (items.Vertex id)) rest
    ∙ ap (λ b. b || rest) (sym (more-in p items.Vertex vertices id))
    ∙ sym (any-seen p (vertices ++ id ∷ []) edges codes))
    (by is_new is_kept)
  where
    by : (n : Bool) → kept ≡ cond n (vertices ++ id ∷ []) vertices → seen_items kept edges codes ≡ cond n (seen_items (vertices ++ id ∷ []) edges codes)
        (seen_items vertices edges codes)
    by true k = ap (λ list. seen_items list edges codes) k
    by false k = ap (λ list. seen_items list edges codes) k

-- of an edge only its identifier counts
bare_same : (x : Item) (id from to : ℕ) (label : List ℕ) → is_same x (items.Edge id label from to) ≡ is_same x (bare_edge id)
bare_same (items.Vertex other) id from to label = refl
bare_same (items.Edge other name source target) id from to label = refl
bare_same (items.Value value) id from to label = refl

pub unseen-edge : (vertices edges : List ℕ) (codes : List (List ℕ)) (id from to : ℕ) (label : List ℕ) (kept : List ℕ) (is_new : Bool)
    → is_new ≡ not (list_any (nat_eq id) edges) → kept ≡ cond is_new (edges ++ id ∷ []) edges
    → (later : List Item) → unseen (seen_items vertices edges codes) (items.Edge id label from to ∷ later) ≡ cond is_new (items.Edge id label from to ∷ [])
    [] ++ unseen (seen_items vertices kept codes) later
unseen-edge vertices edges codes id from to label kept is_new is is_kept =
    unseen-added (seen_items vertices edges codes) (seen_items vertices (edges ++ id ∷ []) codes) (seen_items vertices kept codes) (items.Edge id label from to)
    is_new (is ∙ ap not (sym (seen-edge id from to label vertices edges codes)))
    (λ x.
    let p = is_same x in
    let first = list_any p (map items.Vertex vertices) in
    let last = list_any p (map value_item codes) in
    after-item p vertices edges codes (items.Edge id label from to)
    ∙ or_mid first (list_any p (map bare_edge edges)) (p (items.Edge id label from to)) last
    ∙ (λ i. first || ((list_any p (map bare_edge edges) || (bare_same x id from to label i || false)) || last))
    ∙ ap (λ b. first || (b || last)) (sym (more-in p bare_edge edges id))
    ∙ sym (any-seen p vertices (edges ++ id ∷ []) codes))
    (by is_new is_kept)
  where
    by : (n : Bool) → kept ≡ cond n (edges ++ id ∷ []) edges → seen_items vertices kept codes ≡ cond n (seen_items vertices (edges ++ id ∷ []) codes)
        (seen_items vertices edges codes)
    by true k = ap (λ list. seen_items vertices list codes) k
    by false k = ap (λ list. seen_items vertices list codes) k

pub unseen-value : (vertices edges : List ℕ) (codes : List (List ℕ)) (value : Value) (kept : List (List ℕ)) (is_new : Bool) → IsInRange value → AreCodes codes
    → is_new ≡ not (list_any (pointwise nat_eq (code_of value)) codes)
    → kept ≡ cond is_new (codes ++ code_of value ∷ []) codes → (later : List Item)
    → unseen (seen_items vertices edges codes) (items.Value value ∷ later) ≡ cond is_new (items.Value value ∷ []) [] ++ unseen
    (seen_items vertices edges kept) later
unseen-value vertices edges codes value kept is_new range are is is_kept =
    unseen-added (seen_items vertices edges codes) (seen_items vertices edges (codes ++ code_of value ∷ [])) (seen_items vertices edges kept)
    (items.Value value) is_new (is ∙ ap not (sym (seen-value value range vertices edges codes are)))
    (λ x.
    let p = is_same x in
    let first = list_any p (map items.Vertex vertices) in
    let second = list_any p (map bare_edge edges) in
    after-item p vertices edges codes (items.Value value)
    ∙ or_last first second (list_any p (map value_item codes)) (p (items.Value value))
    ∙ ap (λ (v : Value). first || (second || (list_any p (map value_item codes) || (p (items.Value v) || false)))) (sym (decoded value range))
    ∙ ap (λ b. first || (second || b)) (sym (more-in p value_item codes (code_of value)))
    ∙ sym (any-seen p vertices edges (codes ++ code_of value ∷ [])))
    (by is_new is_kept)
  where
    by : (n : Bool) → kept ≡ cond n (codes ++ code_of value ∷ []) codes
        → seen_items vertices edges kept ≡ cond n (seen_items vertices edges (codes ++ code_of value ∷ [])) (seen_items vertices edges codes)
    by true k = ap (λ list. seen_items vertices edges list) k
    by false k = ap (λ list. seen_items vertices edges list) k
