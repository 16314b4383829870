-- A record in use is of a kind of its file.
use Rattle.std.proofs.Common.{◌≡◌, ◌≢◌, ◌⊎◌, ℕ, nat_eq, Bool, true, false, ◌||◌, cond, Some, None, ap, ◌∙◌, ⊎_elim, refl}
use Rattle.rec_bytes.specs.declared.shape.Shape.{Shape}
use Rattle.rec_bytes.specs.Format as format
use Rattle.rec_bytes.specs.RecordFiles.{is_meta_file}
use Rattle.store_rules.specs.Ranges.{AreInRange, Layout, free_layout, group_layout, layout_by, relationship_layout}
use Rattle.store_rules.specs.Views.{Records, high, is_group_kind, kind_at, rec_at}
use Rattle.store_rules.proofs.NumberLaws.{eq_false, nat_cases}
use Rattle.store_rules.proofs.ViewLaws.{kind_below, kind_low}

module _ (s : Records) (shape : Shape) (ranges : AreInRange s shape) where
  laid_out : (f x : ℕ) → is_meta_file f ≡ true → kind_at s f x ≢ format.free_kind → (layout : Layout)
      × (layout_by f (rec_at s f x) (kind_at s f x) ≡ Some layout)
  laid_out f x file live =
      let lt = kind_below (high s f) (rec_at s f x) x live in
      let fits = ranges.fit f x file lt in
      (fits.layout, ap (layout_by f (rec_at s f x)) (kind_low (high s f) (rec_at s f x) x lt) ∙ fits.is)

  pub rel_kind : (x : ℕ) → kind_at s format.relationships_file x ≢ format.free_kind → kind_at s format.relationships_file x ≡ format.related
  rel_kind x live = ⊎_elim (λ e. e) (λ ne. absurd (let l = laid_out format.relationships_file x refl live in none (kind_at s format.relationships_file x)
      live ne l.0 l.1))
      (nat_cases (kind_at s format.relationships_file x) format.related)
    where
      none : (kind : ℕ) → kind ≢ 0 → kind ≢ format.related → (layout : Layout)
          → layout_by format.relationships_file (rec_at s format.relationships_file x) kind ≡ Some layout → ⊥
      none kind a b layout is = by (nat_eq kind 0) (nat_eq kind format.related) (eq_false kind 0 a) (eq_false kind format.related b) is
        where
          by : (p q : Bool) → p ≡ false → q ≡ false → cond p (free_layout format.relationships_file) (cond q relationship_layout None) ≡ Some layout → ⊥
          by true q e f h = cc
          by false true e f h = cc
          by false false e f h = cc

  pub group_kind : (x : ℕ) → kind_at s format.groups_file x ≢ format.free_kind → is_group_kind (kind_at s format.groups_file x) ≡ true
  group_kind x live = let l = laid_out format.groups_file x refl live in
      by (nat_eq (kind_at s format.groups_file x) 0) (nat_eq (kind_at s format.groups_file x) format.grouped)
      (nat_eq (kind_at s format.groups_file x) format.counted) (eq_false (kind_at s format.groups_file x) 0 live) l.0 l.1
    where
      by : (p q r : Bool) → p ≡ false → (layout : Layout) → cond p (free_layout format.groups_file)
          (cond q (group_layout 28) (cond r (group_layout 40) None)) ≡ Some layout → (q || r) ≡ true
      by true q r e layout h = cc
      by false true r e layout h = refl
      by false false true e layout h = refl
      by false false false e layout h = cc
