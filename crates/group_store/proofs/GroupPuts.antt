-- The record of a group that is replaced by one of the same type, owner and links: what stays of the rules.
use Rattle.std.proofs.Common.{◌≡◌, ◌≢◌, ℕ, ◌+◌, ◌<◌, ◌≤◌, nat_eq, not, true, ◌&&◌, Option, List, sym, ap, ◌∙◌, subst, inl, inr, ⊎_elim, arith, refl}
use Rattle.rec_bytes.specs.declared.key.Key.{Key}
use Rattle.rec_bytes.specs.declared.record.Rec.{Rec}
use Rattle.rec_bytes.specs.declared.shape.Shape.{Shape}
use Rattle.rec_bytes.specs.Format as format
use Rattle.rec_bytes.specs.Record.{field}
use Rattle.rec_bytes.specs.Space.{meta_in, put}
use Rattle.rec_bytes.proofs.Spaces.{put_other, put_other_file, put_same}
use Rattle.store_rules.specs.Ranges.{Fits}
use Rattle.store_rules.specs.Rules.{Head, IsGrouped, IsSplit, KeepsGroups, Owns, first_of, is_filled, next_free}
use Rattle.store_rules.specs.Views.{GroupRow, Records, first_link, group_at, high, is_group_kind, is_live, key_in, kind_at, kind_in, rec_at, rel_at, row_if}
use Rattle.store_rules.proofs.ChainLaws.{chain_stays, walk_stays}
use Rattle.store_rules.proofs.GroupLaws.{IsFirstPlace}
use Rattle.store_rules.proofs.NumberLaws.{nat_cases}
use Rattle.store_rules.proofs.ViewLaws.{group_used, kind_below, kind_low, live_true, not_live, row_some}
use Rattle.group_store.specs.Spreading.{IsLinkedBut, KeepsBut, StandsBut}
use Rattle.group_store.proofs.GroupSteps.{range_put}
use Rattle.group_store.proofs.MadeRules.{listed_again}
use Rattle.group_store.proofs.Regrouping.{IsFrame, others_stay}

module _ (s : Records) (shape : Shape) (node g : ℕ) (rec : Rec) (used : is_group_kind (kind_at s format.groups_file g) ≡ true)
    (kind : is_group_kind (field 1 rec format.kind) ≡ true)
    (same : (at : ℕ) → (4 ≤ at) × (at + 4 ≤ 32) → field 4 rec at ≡ field 4 (rec_at s format.groups_file g) at) (fits : Fits (high s) format.groups_file rec)
  where
    abbrev pub t : Records
    t = put s (key_in format.groups_file g) rec

    below : g < high s format.groups_file
    below = kind_below (high s format.groups_file) (rec_at s format.groups_file g) g (group_used (kind_at s format.groups_file g) used)

    pub here : rec_at t format.groups_file g ≡ rec
    here = put_same s (key_in format.groups_file g) rec

    pub other : (k : ℕ) → k ≢ g → rec_at t format.groups_file k ≡ rec_at s format.groups_file k
    other k ne = put_other s (key_in format.groups_file g) rec (key_in format.groups_file k) (λ e. ne (ap (λ (q : Key). q.id) e))

    pub kind_other : (k : ℕ) → k ≢ g → kind_at t format.groups_file k ≡ kind_at s format.groups_file k
    kind_other k ne = ap (λ r. kind_in (high s format.groups_file) r k) (other k ne)

    pub kind_here : kind_at t format.groups_file g ≡ field 1 rec format.kind
    kind_here = kind_low (high s format.groups_file) (rec_at t format.groups_file g) g below ∙ ap (λ r. field 1 r format.kind) here

    kind_used : kind_at t format.groups_file g ≢ 0
    kind_used e = group_used (field 1 rec format.kind) kind (sym kind_here ∙ e)

    -- numbers of groups
    pub number : (k at : ℕ) → (4 ≤ at) × (at + 4 ≤ 32) → field 4 (rec_at t format.groups_file k) at ≡ field 4 (rec_at s format.groups_file k) at
    number k at within = ⊎_elim
        (λ (e : k ≡ g). subst (λ z. field 4 (rec_at t format.groups_file z) at ≡ field 4 (rec_at s format.groups_file z) at) (sym e) (ap (λ r. field 4 r at)
        here ∙ same at within))
        (λ (ne : k ≢ g). ap (λ r. field 4 r at) (other k ne)) (nat_cases k g)

    abbrev row_in : Records → ℕ → GroupRow
    row_in r k = record {
      id = k;
      label = field 4 (rec_at r format.groups_file k) format.group_type;
      owner = field 4 (rec_at r format.groups_file k)
          format.group_owner;
    }

    row_same : (k : ℕ) → row_in t k ≡ row_in s k
    row_same k = λ i. record {
      id = k;
      label = number k format.group_type (omega arith, omega arith) i;
      owner = number k format.group_owner
          (omega arith, omega arith) i;
    }

    pub group_same : (k : ℕ) → group_at t k ≡ group_at s k
    group_same k = ⊎_elim
        (λ (e : k ≡ g). subst (λ z. group_at t z ≡ group_at s z) (sym e)
        (row_some (kind_at t format.groups_file g) (row_in t g) kind_used ∙ ap (λ (r : GroupRow). row_if 1 r) (row_same g)
        ∙ sym (row_some (kind_at s format.groups_file g) (row_in s g) (group_used (kind_at s format.groups_file g) used))))
        (λ (ne : k ≢ g). λ i. row_if (kind_other k ne i) (row_same k i)) (nat_cases k g)

    pub groups_same : group_at t ≡ group_at s
    groups_same = λ i k. group_same k i

    -- ---- the first two rules
    live_one : (k : ℕ) → is_live t format.groups_file k ≡ is_live s format.groups_file k
    live_one k = ⊎_elim
        (λ (e : k ≡ g). subst (λ z. is_live t format.groups_file z ≡ is_live s format.groups_file z) (sym e)
        (live_true (kind_at t format.groups_file g) kind_used ∙ sym (live_true (kind_at s format.groups_file g) (group_used (kind_at s format.groups_file g)
        used))))
        (λ (ne : k ≢ g). ap (λ z. not (nat_eq z 0)) (kind_other k ne)) (nat_cases k g)

    split : (free : List ℕ) → IsSplit s format.groups_file (is_live s format.groups_file) free → IsSplit t format.groups_file (is_live t format.groups_file)
        free
    split free k = subst (λ v. IsSplit t format.groups_file v free) (sym (λ i y. live_one y i)) (record {
      walk = walk_stays (next_free s format.groups_file) (next_free t format.groups_file) (meta_in s format.groups_file).free free
          (λ y i. ap (λ r. field 4 r format.free_next) (other y (λ e. group_used (kind_at s format.groups_file g) used (ap (kind_at s format.groups_file)
          (sym e) ∙ not_live (kind_at s format.groups_file y) (k.only y i))))) k.walk;
      low = k.low;
      only = k.only;
      all = k.all;
      exact = k.exact;
    })

    pub frame : IsFrame s t node
    frame = record {
      others = λ key a b c d. put_other_file s (key_in format.groups_file g) rec key c;
      nodes = λ y n place inside one apart. refl;
      kinds = λ y ne. refl;
      here = inl refl;
      rels = λ y n place inside apart. refl;
    }

    -- ---- the third and the fourth
    first_same : (h : Head) (n : ℕ) → Owns (kind_at s format.nodes_file) (group_at s) h n → first_of t h ≡ first_of s h
    first_same h n (inl o) = ap (first_of t) o.is ∙ sym (ap (first_of s) o.is)
    first_same h n (inr o) = ap (λ (q : Key). field 4 (t q) h.field) o.key ∙ number o.row.id h.field (within o.field)
        ∙ sym (ap (λ (q : Key). field 4 (s q) h.field) o.key)
      where
        within : IsFirstPlace h.field → (4 ≤ h.field) × (h.field + 4 ≤ 32)
        within place = ⊎_elim (λ (e : h.field ≡ 20). (omega arith, omega arith))
            (λ k. ⊎_elim (λ (e : h.field ≡ 24). (omega arith, omega arith)) (λ (e : h.field ≡ 28). (omega arith, omega arith)) k) place

    filled_same : (k : ℕ) → is_filled (rec_at t format.groups_file k) ≡ is_filled (rec_at s format.groups_file k)
    filled_same k =
        let a = number k 20 (omega arith, omega arith) in
        let b = number k 24 (omega arith, omega arith) in
        let c = number k 28 (omega arith, omega arith) in
        λ i. not (nat_eq (a i) format.nil && (nat_eq (b i) format.nil && nat_eq (c i) format.nil))

    linked : (rest : List ℕ) → IsLinkedBut s (kind_at s format.nodes_file) (rel_at s) (group_at s) node rest
        → IsLinkedBut t (kind_at s format.nodes_file) (rel_at s) (group_at s) node rest
    linked rest old = record {
      ends = old.ends;
      typed = old.typed;
      listed = record {
        each = λ h n o. listed_again s t h n (StandsBut (rel_at s) (group_at s) node rest h) (StandsBut (rel_at s) (group_at s) node rest h)
            (λ x. refl) (first_same h n o) (λ x a. a) (λ x a. a) (old.listed.each h n o);
      };
    }

    grouped : (empty : List ℕ) → KeepsGroups s empty
        → IsGrouped (kind_at s format.nodes_file) (first_link s) (rec_at t format.groups_file) (group_at s) empty
    grouped empty old = record {
      owned = old.owned;
      each = λ n d. let h = old.each n d in record {
        members = h.members;
        chain = chain_stays (λ k. field 4 (rec_at s format.groups_file k) format.group_next) (λ k. field 4 (rec_at s format.groups_file k)
            format.group_previous)
            (λ k. field 4 (rec_at t format.groups_file k) format.group_next) (λ k. field 4 (rec_at t format.groups_file k) format.group_previous) format.nil
            (first_link s n) h.members
            (λ k i. number k format.group_next (omega arith, omega arith)) (λ k i. number k format.group_previous (omega arith, omega arith)) h.chain;
        only = h.only;
        filled = λ k i. ⊎_elim (λ f. inl (filled_same k ∙ f)) (λ j. inr j) (h.filled k i);
        all = h.all;
        once = λ a b i j e. h.once a b i j (sym (number a format.group_type (omega arith, omega arith)) ∙ e ∙ number b format.group_type
            (omega arith, omega arith));
      };
    }

    pub put_keeps : (rest : List ℕ) (most : ℕ) (empty : List ℕ) → KeepsBut s shape node rest most empty → KeepsBut t shape node rest most empty
    put_keeps rest most empty keeps = record {
      others = others_stay s t node frame shape most keeps.others (range_put s shape format.groups_file g rec refl (λ lt. fits) keeps.others.ranges)
          (keeps.others.split format.groups_file refl).0 (split (keeps.others.split format.groups_file refl).0 (keeps.others.split format.groups_file refl).1);
      linked = subst (λ (q : ℕ → Option GroupRow). IsLinkedBut t (kind_at s format.nodes_file) (rel_at s) q node rest) (sym groups_same)
          (linked rest keeps.linked);
      grouped = subst (λ (q : ℕ → Option GroupRow). IsGrouped (kind_at s format.nodes_file) (first_link s) (rec_at t format.groups_file) q empty)
          (sym groups_same) (grouped empty keeps.grouped);
    }
