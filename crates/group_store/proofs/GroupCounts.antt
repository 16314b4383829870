-- A store has no more groups than ends of relationships, besides those that are empty.
use Rattle.std.proofs.Common.{◌≡◌, ◌≢◌, ◌⊎◌, ℕ, ◌+◌, ◌*◌, ◌≤◌, nat_eq, Bool, true, false, cond, List, [], ◌∷◌, ◌++◌}
use Rattle.std.proofs.Common.{length, Some, refl, sym, ap, ◌∙◌, subst, inl, inr, ⊎_elim, arith}
use Rattle.std.proofs.lemmas.List.{length-append}
use Rattle.rec_bytes.specs.declared.key.Key.{Key}
use Rattle.rec_bytes.specs.declared.shape.Shape.{Shape}
use Rattle.rec_bytes.specs.Format as format
use Rattle.rec_bytes.specs.Record.{field}
use Rattle.rec_bytes.specs.Space.{meta_in}
use Rattle.store_rules.specs.Chains.{In, IsChain, next_in, prev_in, without}
use Rattle.store_rules.specs.Properties.{AreOnce}
use Rattle.store_rules.specs.Rows.{ids}
use Rattle.store_rules.specs.Rules.{GroupHead, Head, IsEnd, IsInGroup, first_of}
use Rattle.store_rules.specs.Views.{GroupRow, Records, RelRow, group_at, group_in, high, is_live, key_in, kind_at, rec_at, rel_at, rel_in}
use Rattle.store_rules.proofs.Counts.{ids_in, in_ids, once_ids}
use Rattle.store_rules.proofs.GroupLaws.{filled_chain, group_id, same_group}
use Rattle.store_rules.proofs.NumberLaws.{eq_false, eq_true, nat_cases}
use Rattle.store_rules.proofs.OnceLaws.{in_left, in_right}
use Rattle.store_rules.proofs.ViewLaws.{kind_below, live_false, live_true, row_some, some_row}
use Rattle.store_rules.proofs.ChainSteps.{stays_without}
use Rattle.group_store.specs.Spreading.{KeepsBut, StandsBut}

-- ---- no more than there are to go round

length-without : (e : ℕ) (es : List ℕ) → In e es → length (without e es) + 1 ≡ length es
length-without e [] i = elim i [ ]
length-without e (x ∷ xs) i = ⊎_elim
    (λ (same : e ≡ x). rw (eq_true e x same) (omega arith))
    (λ (ne : e ≢ x). rw (eq_false e x ne) (let l = length-without e xs (⊎_elim (λ k. absurd (ne k)) (λ k. k) i) in omega arith)) (nat_cases e x)

-- each of the first has one of the second, and no two have the same
pub fewer : (R : ℕ → ℕ → Type 0) (gs es : List ℕ) → AreOnce gs → ((g : ℕ) → In g gs → (e : ℕ) × In e es × R g e) → ((g k e : ℕ) → R g e → R k e → g ≡ k)
    → length gs ≤ length es
fewer R [] es once has apart = omega arith
fewer R (g ∷ gs) es once has apart =
    let mine = has g (inl refl) in
    let less = fewer R gs (without mine.0 es) once.1
    (λ k i. let its = has k (inr i) in (
      its.0,
      stays_without mine.0 es its.0 (λ same. once.0 (subst (λ z. In z gs) (apart k g mine.0 (subst (R k) same its.2)
          mine.2) i)) its.1,
      its.2,
    )) apart in
    let l = length-without mine.0 es mine.1 in omega arith

-- ---- ends of relationships, and groups that may be empty, by numbers

abbrev ends_of : List ℕ → List ℕ
ends_of [] = []
ends_of (x ∷ xs) = 3 * x ∷ (3 * x + 1) ∷ ends_of xs

abbrev marks_of : List ℕ → List ℕ
marks_of [] = []
marks_of (g ∷ gs) = (3 * g + 2) ∷ marks_of gs

length-ends : (xs : List ℕ) → length (ends_of xs) ≡ 2 * length xs
length-ends [] = refl
length-ends (x ∷ xs) = let k = length-ends xs in omega arith

length-marks : (gs : List ℕ) → length (marks_of gs) ≡ length gs
length-marks [] = refl
length-marks (g ∷ gs) = let k = length-marks gs in omega arith

in_ends : (xs : List ℕ) (x : ℕ) → In x xs → In (3 * x) (ends_of xs) × In (3 * x + 1) (ends_of xs)
in_ends [] x i = elim i [ ]
in_ends (y ∷ ys) x i = ⊎_elim (λ (e : x ≡ y). (inl (omega arith), inr (inl (omega arith)))) (λ j. let k = in_ends ys x j in (inr (inr k.0), inr (inr k.1))) i

in_marks : (gs : List ℕ) (g : ℕ) → In g gs → In (3 * g + 2) (marks_of gs)
in_marks [] g i = elim i [ ]
in_marks (y ∷ ys) g i = ⊎_elim (λ (e : g ≡ y). inl (omega arith)) (λ j. inr (in_marks ys g j)) i

-- the end of a relationship at a node
abbrev end_code : ℕ → ℕ → ℕ → ℕ
end_code x from n = cond (nat_eq from n) (3 * x) (3 * x + 1)

-- ends with one code are one
codes_same : (x y f h n m : ℕ) → end_code x f n ≡ end_code y h m → (x ≡ y) × (((f ≡ n) × (h ≡ m)) ⊎ ((f ≢ n) × (h ≢ m)))
codes_same x y f h n m e = ⊎_elim
    (λ (a : f ≡ n). ⊎_elim
    (λ (b : h ≡ m). let k : 3 * x ≡ 3 * y = sym (ap (λ t. cond t (3 * x) (3 * x + 1)) (eq_true f n a)) ∙ e ∙ ap (λ t. cond t (3 * y) (3 * y + 1))
    (eq_true h m b) in (omega arith, inl (a, b)))
    (λ (b : h ≢ m). let k : 3 * x ≡ 3 * y + 1 = sym (ap (λ t. cond t (3 * x) (3 * x + 1)) (eq_true f n a)) ∙ e ∙ ap (λ t. cond t (3 * y) (3 * y + 1))
    (eq_false h m b) in absurd (omega arith)) (nat_cases h m))
    (λ (a : f ≢ n). ⊎_elim
    (λ (b : h ≡ m). let k : 3 * x + 1 ≡ 3 * y = sym (ap (λ t. cond t (3 * x) (3 * x + 1)) (eq_false f n a)) ∙ e ∙ ap (λ t. cond t (3 * y) (3 * y + 1))
    (eq_true h m b) in absurd (omega arith))
    (λ (b : h ≢ m). let k : 3 * x + 1 ≡ 3 * y + 1 = sym (ap (λ t. cond t (3 * x) (3 * x + 1)) (eq_false f n a)) ∙ e ∙ ap (λ t. cond t (3 * y) (3 * y + 1))
    (eq_false h m b) in (omega arith, inr (a, b))) (nat_cases h m)) (nat_cases f n)

module _ (s : Records) (shape : Shape) (node : ℕ) (rest : List ℕ) (most : ℕ) (empty : List ℕ) (well : KeepsBut s shape node rest most empty) where
  -- a relationship of the group's owner and of its type, which isn't apart
  record Fills (g x : ℕ) : Type 0 where
    row : RelRow
    group : GroupRow
    live : rel_at s x ≡ Some row
    is : group_at s g ≡ Some group
    end : IsEnd group.owner row
    typed : row.label ≡ group.label
    apart : group.owner ≡ node → ¬ In x rest

  record Has (g e : ℕ) : Type 0 where
    x : ℕ
    fills : Fills g x
    code : e ≡ end_code x fills.row.from fills.group.owner

  record May (g e : ℕ) : Type 0 where
    may : In g empty
    code : e ≡ 3 * g + 2

  abbrev Takes : ℕ → ℕ → Type 0
  Takes g e = Has g e ⊎ May g e

  -- two groups that have the same are one
  type_is : (g : ℕ) (group : GroupRow) → group_at s g ≡ Some group → field 4 (rec_at s format.groups_file g) format.group_type ≡ group.label
  type_is g group is = ap (λ (r : GroupRow). r.label) (some_row (kind_at s format.groups_file g) (group_in (rec_at s format.groups_file g) g) group is).1

  one_of : (g k : ℕ) (a b : GroupRow) → group_at s g ≡ Some a → group_at s k ≡ Some b → a.owner ≡ b.owner → a.label ≡ b.label → g ≡ k
  one_of g k a b is at owner label =
      let has = well.grouped.each b.owner (well.grouped.owned k b at) in
      has.once g k (has.all g a is owner) (has.all k b at refl) (type_is g a is ∙ label ∙ sym (type_is k b at))

  same_row : (a b : RelRow) → Some a ≡ Some b → a ≡ b
  same_row a b e = cc

  same_end : (g k e : ℕ) → Has g e → Has k e → g ≡ k
  same_end g k e a b =
      let code = codes_same a.x b.x a.fills.row.from b.fills.row.from a.fills.group.owner b.fills.group.owner (sym a.code ∙ b.code) in
      let row = same_row a.fills.row b.fills.row (sym a.fills.live ∙ ap (rel_at s) code.0 ∙ b.fills.live) in
      one_of g k a.fills.group b.fills.group a.fills.is b.fills.is
      (⊎_elim (λ (both : (a.fills.row.from ≡ a.fills.group.owner) × (b.fills.row.from ≡ b.fills.group.owner)). sym both.0 ∙ ap (λ (r : RelRow). r.from) row
      ∙ both.1)
      (λ (none : (a.fills.row.from ≢ a.fills.group.owner) × (b.fills.row.from ≢ b.fills.group.owner)).
      sym (⊎_elim (λ f. absurd (none.0 f)) (λ f. f) a.fills.end) ∙ ap (λ (r : RelRow). r.to) row ∙ ⊎_elim (λ f. absurd (none.1 f)) (λ f. f) b.fills.end) code.1)
      (sym a.fills.typed ∙ ap (λ (r : RelRow). r.label) row ∙ b.fills.typed)

  not_both : (g k e : ℕ) → Has g e → May k e → ⊥
  not_both g k e a b = by (nat_eq a.fills.row.from a.fills.group.owner) (sym a.code ∙ b.code)
    where
      by : (t : Bool) → cond t (3 * a.x) (3 * a.x + 1) ≡ 3 * k + 2 → ⊥
      by true q = omega arith
      by false q = omega arith

  apart : (g k e : ℕ) → Takes g e → Takes k e → g ≡ k
  apart g k e (inl a) (inl b) = same_end g k e a b
  apart g k e (inl a) (inr b) = absurd (not_both g k e a b)
  apart g k e (inr a) (inl b) = absurd (not_both k g e b a)
  apart g k e (inr a) (inr b) = let p = a.code in let q = b.code in omega arith

  -- a group in use that isn't empty has a relationship
  filled : (g : ℕ) (group : GroupRow) → group_at s g ≡ Some group → ((x : ℕ) × Fills g x) ⊎ In g empty
  filled g group is =
      let dense = well.grouped.owned g group is in
      let has = well.grouped.each group.owner dense in
      ⊎_elim (λ full.
      let at = filled_chain (rec_at s format.groups_file g) full in
      let id = group_id s g group is in
      let h : Head = record { key = key_in format.groups_file g; field = at.0 } in
      let o : GroupHead (kind_at s format.nodes_file) (group_at s) h group.owner =
      record { dense = dense; row = group; group = ap (group_at s) id ∙ is; owner = refl; key = ap (key_in format.groups_file) (sym id); field = at.1 } in
      let l = well.linked.listed.each h group.owner (inr o) in
      inl (some h refl l.members l.chain at.2 l.only)) (λ k. inr k) (has.filled g (has.all g group is refl))
    where
      fills : (h : Head) → h.key ≡ key_in format.groups_file g → (x : ℕ) → StandsBut (rel_at s) (group_at s) node rest h x → Fills g x
      fills h key x b = ⊎_elim
          (λ (k : (h.key.file ≡ format.nodes_file) × IsEnd h.key.id b.stands.row). absurd (let f = k.0 in let j = ap (λ (z : Key). z.file) key in omega arith))
          (λ (k : (h.key.file ≡ format.groups_file) × IsInGroup (group_at s) h b.stands.row).
          let same : k.1.row ≡ group = same_group k.1.row group (sym k.1.group ∙ ap (λ (z : Key). group_at s z.id) key ∙ is) in
          let owner = ap (λ (r : GroupRow). r.owner) same in
          record {
            row = b.stands.row;
            group = group;
            live = b.stands.live;
            is = is;
            end = ⊎_elim (λ j. inl (j.1 ∙ owner)) (λ j. ⊎_elim (λ l. inr (l.2 ∙ owner)) (λ l. inl (l.1 ∙ owner)) j) k.1.side;
            typed = k.1.label ∙ ap (λ (r : GroupRow). r.label) same;
            apart = λ e. b.apart (record { file = ap (λ (z : Key). z.file) key; row = group; group = ap (λ (z : Key). group_at s z.id) key ∙ is; owner = e });
          }) b.stands.on

      some : (h : Head) → h.key ≡ key_in format.groups_file g → (xs : List ℕ)
          → IsChain (λ x. next_in (rec_at s format.relationships_file x) group.owner) (λ x. prev_in (rec_at s format.relationships_file x) group.owner)
          format.nil (first_of s h) xs
          → first_of s h ≢ format.nil → ((x : ℕ) → In x xs → StandsBut (rel_at s) (group_at s) node rest h x) → (x : ℕ) × Fills g x
      some h key [] c ne only = absurd (ne c)
      some h key (x ∷ xs) c ne only = (x, fills h key x (only x (inl refl)))

  -- ---- the counts
  groups : List ℕ
  groups = ids (is_live s format.groups_file) (high s format.groups_file)

  rels : List ℕ
  rels = ids (is_live s format.relationships_file) (high s format.relationships_file)

  codes : List ℕ
  codes = ends_of rels ++ marks_of empty

  rel_in_rels : (x : ℕ) (row : RelRow) → rel_at s x ≡ Some row → In x rels
  unfolding rels
  rel_in_rels x row live =
      let k = some_row (kind_at s format.relationships_file x) (rel_in (rec_at s format.relationships_file x) x) row live in
      in_ids (is_live s format.relationships_file) (high s format.relationships_file) x
      (kind_below (high s format.relationships_file) (rec_at s format.relationships_file x) x k.0) (live_true (kind_at s format.relationships_file x) k.0)

  in_codes : (x from n : ℕ) → In x rels → In (end_code x from n) codes
  unfolding codes
  in_codes x from n i = by (nat_eq from n)
    where
      by : (t : Bool) → In (cond t (3 * x) (3 * x + 1)) (ends_of rels ++ marks_of empty)
      by true = in_left (3 * x) (ends_of rels) (marks_of empty) (in_ends rels x i).0
      by false = in_left (3 * x + 1) (ends_of rels) (marks_of empty) (in_ends rels x i).1

  takes : (g : ℕ) → In g groups → (e : ℕ) × In e codes × Takes g e
  unfolding groups codes
  takes g i =
      let k = ids_in (is_live s format.groups_file) (high s format.groups_file) g i in
      let is = row_some (kind_at s format.groups_file g) (group_in (rec_at s format.groups_file g) g)
      (λ e. clash (sym k.1 ∙ live_false (kind_at s format.groups_file g) e)) in
      ⊎_elim
      (λ (f : (x : ℕ) × Fills g x). (
        end_code f.0 f.1.row.from f.1.group.owner,
        in_codes f.0 f.1.row.from f.1.group.owner (rel_in_rels f.0 f.1.row f.1.live),
        inl (record { x = f.0; fills = f.1; code = refl }),
      ))
      (λ j. (3 * g + 2, in_right (3 * g + 2) (ends_of rels) (marks_of empty) (in_marks empty g j), inr (record { may = j; code = refl })))
      (filled g (group_in (rec_at s format.groups_file g) g) is)
    where
      clash : true ≡ false → ⊥
      clash e = cc

  live_groups : (meta_in s format.groups_file).live ≡ length groups
  unfolding groups
  live_groups = (well.others.split format.groups_file refl).1.exact

  live_rels : (meta_in s format.relationships_file).live ≡ length rels
  unfolding rels
  live_rels = (well.others.split format.relationships_file refl).1.exact

  length-codes : length codes ≡ 2 * length rels + length empty
  unfolding codes
  length-codes = length-append (ends_of rels) (marks_of empty) ∙ (let a = length-ends rels in let b = length-marks empty in omega arith)

  once : AreOnce groups
  unfolding groups
  once = once_ids (is_live s format.groups_file) (high s format.groups_file)

  pub few_groups : (meta_in s format.groups_file).live ≤ 2 * (meta_in s format.relationships_file).live + length empty
  few_groups = let f = fewer Takes groups codes once takes apart in let a = live_groups in let b = live_rels in let c = length-codes in omega arith

  -- and fewer where a relationship at the node is apart
  pub fewer_groups : (x : ℕ) (row : RelRow) → In x rest → rel_at s x ≡ Some row → IsEnd node row
      → (meta_in s format.groups_file).live + 1 ≤ 2 * (meta_in s format.relationships_file).live + length empty
  fewer_groups x row i live end =
      let loose = end_code x row.from node in
      let there : In loose codes = in_codes x row.from node (rel_in_rels x row live) in
      let f = fewer Takes groups (without loose codes) once (λ g j. let k = takes g j in (k.0, stays_without loose codes k.0 (off g k.0 k.2) k.1, k.2)) apart in
      let l = length-without loose codes there in
      let a = live_groups in let b = live_rels in let c = length-codes in omega arith
    where
      off : (g e : ℕ) → Takes g e → e ≢ end_code x row.from node
      off g e (inl a) same =
          let mine : Has g e = a in
          let code = codes_same a.x x a.fills.row.from row.from a.fills.group.owner node (sym a.code ∙ same) in
          let r = same_row a.fills.row row (sym a.fills.live ∙ ap (rel_at s) code.0 ∙ live) in
          let owner : a.fills.group.owner ≡ node = ⊎_elim (λ (both : (a.fills.row.from ≡ a.fills.group.owner) × (row.from ≡ node)). sym both.0 ∙ ap
          (λ (z : RelRow). z.from) r ∙ both.1)
          (λ (none : (a.fills.row.from ≢ a.fills.group.owner) × (row.from ≢ node)). sym (⊎_elim (λ q. absurd (none.0 q)) (λ q. q) a.fills.end) ∙ ap
          (λ (z : RelRow). z.to) r ∙ ⊎_elim (λ q. absurd (none.1 q)) (λ q. q) end) code.1 in
          a.fills.apart owner (subst (λ z. In z rest) (sym code.0) i)
      off g e (inr b) same = by (nat_eq row.from node) (sym same ∙ b.code)
        where
          by : (t : Bool) → cond t (3 * x) (3 * x + 1) ≡ 3 * g + 2 → ⊥
          by true q = omega arith
          by false q = omega arith
