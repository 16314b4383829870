-- A way from a row back to the first one.
use Rattle.std.proofs.Common.{◌≡◌, ◌<◌, ℕ, List, [], ◌∷◌, ◌++◌, reverse, append_assoc, sym, ap, ◌∙◌, arith, inl, inr}
use Rattle.std.proofs.lemmas.Bool.{cases_lt}
use Rattle.std.proofs.lemmas.List.{reverse-append}
use Rattle.path_find.specs.Tree.{IsTree, Rows, level_at, node_at, parent_at, row_count, way_to}

module _ (rows : Rows) (done : ℕ) (tree : IsTree rows done) (at : ℕ) (low : at < row_count rows) where
  pub pos_at : 0 < level_at rows at → 0 < at
  pos_at some = elim (cases_lt 0 at) [
    | inl pos ↦ pos
    | inr le ↦ let none : at ≡ 0 = omega arith in let same = ap (level_at rows) none in let root = tree.root in absurd (omega (arith, same, root))
  ]

  -- the way is one node longer than the one to the parent
  pub way_back : (way walk walk' : List ℕ) → 0 < level_at rows at → way ≡ way_to rows (level_at rows at) at ++ reverse walk
      → walk' ≡ walk ++ node_at rows at ∷ []
      → way ≡ way_to rows (level_at rows (parent_at rows at)) (parent_at rows at) ++ reverse walk'
  way_back way walk walk' some is more =
      let up = (tree.grown at (pos_at some) low).level in
      let before = way_to rows (level_at rows (parent_at rows at)) (parent_at rows at) in
      is
      ∙ ap (λ l. way_to rows l at ++ reverse walk) up
      ∙ append_assoc before (node_at rows at ∷ []) (reverse walk)
      ∙ ap (λ rest. before ++ rest) (sym (reverse-append walk (node_at rows at ∷ [])) ∙ ap reverse (sym more))
