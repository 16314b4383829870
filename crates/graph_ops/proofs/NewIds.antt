-- Identifiers that new elements get, one part of a list after another.
use Rattle.std.proofs.Common.{◌≡◌, ◌∙◌, ℕ, zero, suc, ◌+◌, ◌-◌, List, [], ◌∷◌, ◌++◌, length, drop, append_assoc, length-append, length-drop, sym, ap, subst}
use Rattle.std.proofs.Common.{arith, refl}
use Rattle.std.proofs.Math.Seq.{drop-nil}
use Rattle.std.proofs.lemmas.List.{drop-drop}
use Rattle.std.proofs.lemmas.List.Elements.{filter_map-append}
use Rattle.plain_graph.specs.declared.item.Item.{Item}
use Rattle.plain_graph.specs.declared.item.Item.TheVariants as items
use Rattle.rec_bytes.specs.Format as format
use Rattle.rec_bytes.specs.Space.{meta_in}
use Rattle.store_rules.specs.Views.{Records, high}
use Rattle.store_rules.proofs.NumberLaws.{eq_false, eq_true}
use Rattle.store_rules.proofs.RowLaws.{append_none}
use Rattle.id_freelist.specs.FreeLists.{IsFreeList}
use Rattle.id_freelist.specs.Taking.{first_of, mark_after, rest_of, taken_id}
use Rattle.edge_changes.specs.EdgePlacing.{TakesFirst}
use Rattle.graph_ops.specs.NewIds.{HaveFreeIds, ShowsIds, TakesIds, free_then, id_of, ids_of}

-- ---- the first one

taken_first : (s : Records) (file : ℕ) (free : List ℕ) → IsFreeList s file free → taken_id (meta_in s file) ≡ first_of free (high s file)
taken_first s file [] list = rw (eq_true (meta_in s file).free format.nil list) refl
taken_first s file (x ∷ later) list = rw (eq_false (meta_in s file).free format.nil (λ e. list.1 (sym list.0 ∙ e))) list.0

first_then : (free : List ℕ) (mark : ℕ) → free_then free mark 1 ≡ first_of free mark ∷ []
first_then [] mark = refl
first_then (x ∷ later) mark = refl

drop_first : (free : List ℕ) → drop 1 free ≡ rest_of free
drop_first [] = refl
drop_first (x ∷ later) = refl

mark_first : (free : List ℕ) (mark : ℕ) → mark_after free mark ≡ mark + (1 - length free)
mark_first [] mark = omega arith
mark_first (x ∷ later) mark = omega arith

node_has : (s : Records) → HaveFreeIds s format.nodes_file (items.Vertex (taken_id (meta_in s format.nodes_file)) ∷ [])
node_has s free list = ap (λ n. n ∷ []) (taken_first s format.nodes_file free list) ∙ sym (first_then free (high s format.nodes_file))

pub edge_takes : (s t : Records) (file id : ℕ) (label : List ℕ) (from to : ℕ) → id ≡ taken_id (meta_in s file) → TakesFirst s t file
    → TakesIds s t file (items.Edge id label from to ∷ [])
edge_takes s t file id label from to is takes free list =
    let took = takes free list in (
      ap (λ n. n ∷ []) (is ∙ taken_first s file free list) ∙ sym (first_then free (high s file)),
      subst (IsFreeList t file) (sym (drop_first free)) took.0,
      took.1 ∙ mark_first free (high s file),
    )

-- ---- one part after another

free_parts : (free : List ℕ) (mark next m n : ℕ) → next ≡ mark + (m - length free)
    → free_then free mark (m + n) ≡ free_then free mark m ++ free_then (drop m free) next n
free_parts free mark next zero n is =
    let none : zero + n ≡ n = omega arith in
    let same : next ≡ mark = omega (arith, is) in
    ap (free_then free mark) none ∙ ap (λ k. free_then free k n) (sym same)
free_parts [] mark next (suc m) n is =
    let more : suc m + n ≡ suc (m + n) = omega arith in
    ap (free_then [] mark) more ∙ ap (λ (l : List ℕ). mark ∷ l) (free_parts [] (mark + 1) next m n (omega (arith, is)))
    ∙ ap (λ (l : List ℕ). mark ∷ (free_then [] (mark + 1) m ++ free_then l next n)) (drop-nil m)
free_parts (id ∷ later) mark next (suc m) n is =
    let more : suc m + n ≡ suc (m + n) = omega arith in
    ap (free_then (id ∷ later) mark) more ∙ ap (λ (l : List ℕ). id ∷ l) (free_parts later mark next m n (omega (arith, is)))

takes_then : (s t u : Records) (file : ℕ) (a b : List Item) → TakesIds s t file a → TakesIds t u file b → TakesIds s u file (a ++ b)
takes_then s t u file a b one other free list =
    let x = one free list in
    let y = other (drop (length a) free) x.1 in
    let both : length (a ++ b) ≡ length a + length b = length-append a b in
    let left : length (drop (length a) free) ≡ length free - length a = length-drop (length a) free in (
      filter_map-append id_of a b ∙ ap (λ (l : List ℕ). l ++ ids_of b) x.0 ∙ ap (λ (l : List ℕ). free_then free (high s file) (length a) ++ l) y.0
          ∙ sym (free_parts free (high s file) (high t file) (length a) (length b) x.2) ∙ ap (free_then free (high s file)) (sym both),
      subst (IsFreeList u file) (drop-drop (length b) (length a) free ∙ ap (λ n. drop n free) (sym both)) y.1,
      let before = x.2 in let after = y.2 in omega (arith, before, after, both, left),
    )

pub shows_then : (s t u : Records) (file : ℕ) (a b c : List Item) → ShowsIds s t file a b → ShowsIds t u file b c → ShowsIds s u file a c
shows_then s t u file a b c one other = (
  one.0 ++ other.0,
  other.1 ∙ ap (λ (l : List Item). l ++ other.0) one.1 ∙ append_assoc a one.0 other.0,
  takes_then s t u file one.0 other.0 one.2 other.2,
)

pub shows_none : (s : Records) (file : ℕ) (shown : List Item) → ShowsIds s s file shown shown
shows_none s file shown = ([], sym (append_none shown), λ free list. (refl, list, omega arith))

-- where nothing was shown before
pub shown_have : (s t : Records) (file : ℕ) (start now : List Item) → start ≡ [] → ShowsIds s t file start now → HaveFreeIds s file now
shown_have s t file start now none shows =
    subst (HaveFreeIds s file) (sym (shows.1 ∙ ap (λ (l : List Item). l ++ shows.0) none)) (λ free list. (shows.2 free list).0)

pub vertex_has : (s : Records) (start now : List Item) → start ≡ [] → now ≡ start ++ items.Vertex (taken_id (meta_in s format.nodes_file)) ∷ []
    → HaveFreeIds s format.nodes_file now
vertex_has s start now none is =
    let vertex = items.Vertex (taken_id (meta_in s format.nodes_file)) ∷ [] in
    subst (HaveFreeIds s format.nodes_file) (sym (is ∙ ap (λ (l : List Item). l ++ vertex) none)) (node_has s)
