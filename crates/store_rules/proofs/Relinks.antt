-- Links and degrees that are set, one after another: what stays of the records, and of the first and second rule.
use Rattle.std.proofs.Common.{◌≡◌, ◌≢◌, ◌⊎◌, ℕ, ◌+◌, ◌<◌, ◌≤◌, ◌^◌, nat_eq, not, List, length, sym, ap, ◌∙◌, subst, inl, inr, true, ⊎_elim, arith, refl}
use Rattle.rec_bytes.specs.declared.key.Key.{Key}
use Rattle.rec_bytes.specs.declared.meta.Meta.{Meta}
use Rattle.rec_bytes.specs.declared.record.Rec.{Rec}
use Rattle.rec_bytes.specs.declared.shape.Shape.{Shape}
use Rattle.rec_bytes.specs.Format as format
use Rattle.rec_bytes.specs.Meta as metas
use Rattle.rec_bytes.specs.Meta.{IsMetaInRange}
use Rattle.rec_bytes.specs.Record.{field, with_field, zeros_from}
use Rattle.rec_bytes.specs.RecordFiles.{meta_key_of}
use Rattle.rec_bytes.specs.Shape.{shape_of_record, version_of}
use Rattle.rec_bytes.specs.Space.{meta_in, put}
use Rattle.rec_bytes.proofs.Numbers.{field-with_field_other}
use Rattle.rec_bytes.proofs.Spaces.{put_other, put_same}
use Rattle.store_rules.specs.Chains.{IsWalk}
use Rattle.store_rules.specs.Ranges.{AreInRange, Fits}
use Rattle.store_rules.specs.Rows.{ids}
use Rattle.store_rules.specs.Rules.{Head, IsSplit, Owns, next_free, node_head}
use Rattle.store_rules.specs.Views.{Records, first_link, group_at, group_in, high, is_group_kind, is_live, key_in, kind_at, kind_in, rec_at}
use Rattle.store_rules.proofs.ChainLaws.{walk_stays}
use Rattle.store_rules.proofs.GroupLaws.{IsFirstPlace}
use Rattle.store_rules.proofs.LinkFits.{IsCountPlace, IsLink, IsLow, fits_count, fits_degree, fits_first, fits_group_first, fits_link}
use Rattle.store_rules.proofs.MetaLaws.{high_fits}
use Rattle.store_rules.proofs.NumberLaws.{nat_cases}
use Rattle.store_rules.proofs.UsedKinds.{group_kind}
use Rattle.store_rules.proofs.ViewLaws.{kind_by, kind_low, some_row}

-- the n bytes from a place on are none of a link's, of a degree's or of a number's of a counted group
abbrev pub IsKept : ℕ → ℕ → ℕ → Type 0
IsKept file n at =
    (file ≡ format.nodes_file → ((at + n ≤ format.node_first_link) ⊎ (format.node_first_property ≤ at)) × ((at + n ≤ format.node_degree) ⊎
    (format.node_degree + 4 ≤ at)))
    × (file ≡ format.relationships_file → (at + n ≤ format.relationship_source_previous) ⊎ (format.relationship_first_property ≤ at))
    × (file ≡ format.groups_file → (at + n ≤ format.group_first_out) ⊎ (format.group_loop_count + 4 ≤ at))

-- what stands before all links is kept
pub kept_low : (file n at : ℕ) → at + n ≤ 8 → IsKept file n at
kept_low file n at low = ((λ _. (inl (omega arith), inl (omega arith))), (λ _. inl (omega arith)), (λ _. inl (omega arith)))

-- the file is one of nodes, relationships or groups
abbrev pub HasLinks : ℕ → Type 0
HasLinks file = (file ≡ format.nodes_file) ⊎ ((file ≡ format.relationships_file) ⊎ (file ≡ format.groups_file))

-- no links in the other files
pub unlinked : (file : ℕ) → (file ≡ format.meta_file) ⊎ (format.groups_file < file) → ¬ HasLinks file
unlinked file either is = ⊎_elim (λ (e : file ≡ 1). ⊎_elim (λ (z : file ≡ 0). omega arith) (λ (l : 3 < file). omega arith) either)
    (λ k. ⊎_elim (λ (e : file ≡ 2). ⊎_elim (λ (z : file ≡ 0). omega arith) (λ (l : 3 < file). omega arith) either) (λ (e : file ≡ 3). ⊎_elim
    (λ (z : file ≡ 0). omega arith) (λ (l : 3 < file). omega arith) either) k) is

-- No number of a record changed but links of relationships, first links of sparse nodes and of the
-- chains of groups, degrees, and numbers of counted groups. Records that fitted their file fit it.
pub record IsRelinked (s t : Records) : Type 0 where
  pub others : (key : Key) → ¬ HasLinks key.file → t key ≡ s key
  pub same : (key : Key) (n at : ℕ) → at + n ≤ 64 → IsKept key.file n at → field n (t key) at ≡ field n (s key) at
  pub dense : (n : ℕ) → kind_at s format.nodes_file n ≡ format.dense → first_link t n ≡ first_link s n
  pub fit : (file x : ℕ) → x < high s file → Fits (high s) file (rec_at s file x) → Fits (high s) file (rec_at t file x)

pub relinked_none : (s : Records) → IsRelinked s s
relinked_none s = record { others = λ key out. refl; same = λ key n at inside kept. refl; dense = λ n d. refl; fit = λ file x lt h. h }

-- the four bytes from a place on are all that changed of a record
abbrev OnlyThere : ℕ → ℕ → Type 0
OnlyThere file at = (n place : ℕ) → IsKept file n place → (place + n ≤ at) ⊎ (at + 4 ≤ place)

-- they are none of a dense node's first link
abbrev NotDense : Records → ℕ → ℕ → ℕ → Type 0
NotDense s file id at = (n : ℕ) → kind_at s format.nodes_file n ≡ format.dense → key_in format.nodes_file n ≡ key_in file id
    → (format.node_first_link + 4 ≤ at) ⊎ (at + 4 ≤ format.node_first_link)

key_cases : (a b : Key) → (a ≡ b) ⊎ (a ≢ b)
key_cases a b = ⊎_elim
    (λ (f : a.file ≡ b.file). ⊎_elim
    (λ (i : a.id ≡ b.id). inl (ap (λ z. record { file = z; id = a.id }) f ∙ ap (λ z. record { file = b.file; id = z }) i))
    (λ (i : a.id ≢ b.id). inr (λ e. i (ap (λ (k : Key). k.id) e))) (nat_cases a.id b.id))
    (λ (f : a.file ≢ b.file). inr (λ e. f (ap (λ (k : Key). k.file) e))) (nat_cases a.file b.file)

-- one number more
module _ (s t : Records) (file id at to : ℕ) (linked : HasLinks file) (only : OnlyThere file at) (thin : NotDense s file id at)
    (fits : id < high s file → Fits (high s) file (rec_at s file id) → Fits (high s) file (with_field 4 (rec_at t file id) at to)) (old : IsRelinked s t) where
  abbrev rec : Rec
  rec = with_field 4 (rec_at t file id) at to

  abbrev now : Records
  now = put t (key_in file id) rec

  -- a number that stands apart from it
  apart : (key : Key) (n place : ℕ) → place + n ≤ 64 → (key ≡ key_in file id → (place + n ≤ at) ⊎ (at + 4 ≤ place))
      → field n (now key) place ≡ field n (t key) place
  apart key n place inside aside = ⊎_elim
      (λ (e : key ≡ key_in file id). ap (λ r. field n r place) (ap now e ∙ put_same t (key_in file id) rec)
      ∙ field-with_field_other 4 (rec_at t file id) at to n place inside (⊎_elim (λ below. inr below) (λ above. inl above) (aside e))
      ∙ ap (λ k. field n (t k) place) (sym e))
      (λ (ne : key ≢ key_in file id). ap (λ r. field n r place) (put_other t (key_in file id) rec key ne)) (key_cases key (key_in file id))

  there : (f x : ℕ) → f ≡ file → x ≡ id → x < high s f → Fits (high s) f (rec_at s f x) → Fits (high s) f (rec_at now f x)
  there f x p q lt h = subst (λ g. Fits (high s) g (rec_at now g x)) (sym p)
      (subst (λ z. Fits (high s) file (rec_at now file z)) (sym q)
      (subst (Fits (high s) file) (sym (put_same t (key_in file id) rec))
      (fits (subst (λ z. z < high s file) q (subst (λ g. x < high s g) p lt)) (subst (λ z. Fits (high s) file (rec_at s file z)) q
      (subst (λ g. Fits (high s) g (rec_at s g x)) p h)))))

  set_more : IsRelinked s now
  set_more = record {
    others = λ key out. put_other t (key_in file id) rec key (λ e. out (subst HasLinks (sym (ap (λ (k : Key). k.file) e)) linked)) ∙ old.others key out;
    same = λ key n place inside kept. apart key n place inside (λ e. only n place (subst (λ (k : Key). IsKept k.file n place) e kept))
        ∙ old.same key n place inside kept;
    dense = λ n d. apart (key_in format.nodes_file n) 4 format.node_first_link (omega arith) (thin n d) ∙ old.dense n d;
    fit = λ f x lt h. ⊎_elim
        (λ (e : key_in f x ≡ key_in file id). there f x (ap (λ (k : Key). k.file) e) (ap (λ (k : Key). k.id) e) lt h)
        (λ (ne : key_in f x ≢ key_in file id). subst (Fits (high s) f) (sym (put_other t (key_in file id) rec (key_in f x) ne)) (old.fit f x lt h))
        (key_cases (key_in f x) (key_in file id));
  }

-- ---- what stays
module _ (s t : Records) (h : IsRelinked s t) where
  pub meta_stays : (f : ℕ) → t (meta_key_of f) ≡ s (meta_key_of f)
  meta_stays f = h.others (meta_key_of f) (unlinked format.meta_file (inl refl))

  pub mark_stays : (f : ℕ) → high t f ≡ high s f
  mark_stays f = ap (λ r. (metas.meta_of r).high) (meta_stays f)

  pub byte_stays : (f x : ℕ) → field 1 (rec_at t f x) format.kind ≡ field 1 (rec_at s f x) format.kind
  byte_stays f x = h.same (key_in f x) 1 format.kind (omega arith) (kept_low f 1 format.kind (omega arith))

  pub kind_stays : (f x : ℕ) → kind_at t f x ≡ kind_at s f x
  kind_stays f x = ap (λ m. kind_in m (rec_at t f x) x) (mark_stays f) ∙ kind_by (high s f) (rec_at t f x) (rec_at s f x) x (byte_stays f x)

  pub live_stays : (f : ℕ) → is_live t f ≡ is_live s f
  live_stays f = λ i x. not (nat_eq (kind_stays f x i) 0)

  pub next_stays : (f x : ℕ) → next_free t f x ≡ next_free s f x
  next_stays f x = h.same (key_in f x) 4 format.free_next (omega arith) (kept_low f 4 format.free_next (omega arith))

  pub split_stays : (f : ℕ) (free : List ℕ) → IsSplit s f (is_live s f) free → IsSplit t f (is_live t f) free
  split_stays f free k = subst (λ v. IsSplit t f v free) (sym (live_stays f)) (record {
    walk = subst (λ (m : Meta). IsWalk (next_free t f) m.free free) (sym (ap metas.meta_of (meta_stays f)))
        (walk_stays (next_free s f) (next_free t f) (meta_in s f).free free (λ x _. next_stays f x) k.walk);
    low = λ x i. subst (λ m. x < m) (sym (mark_stays f)) (k.low x i);
    only = k.only;
    all = λ x lt. k.all x (subst (λ m. x < m) (mark_stays f) lt);
    exact = ap (λ r. (metas.meta_of r).live) (meta_stays f) ∙ k.exact ∙ ap (λ m. length (ids (is_live s f) m)) (sym (mark_stays f));
  })

  -- the first rule
  pub range_stays : (shape : Shape) → AreInRange s shape → AreInRange t shape
  range_stays shape old = record {
    own = ap shape_of_record (meta_stays format.meta_file) ∙ old.own;
    newest = ap version_of (meta_stays format.meta_file) ∙ old.newest;
    taken = ap (zeros_from format.taken_rest) (meta_stays format.taken_id) ∙ old.taken;
    metas = λ f is. subst (IsMetaInRange shape f) (sym (meta_stays f)) (old.metas f is);
    fit = λ f x is lt. subst (λ (m : ℕ → ℕ). Fits m f (rec_at t f x)) marks
        (let low = subst (λ m. x < m) (mark_stays f) lt in h.fit f x low (old.fit f x is low));
  }
    where
      marks : high s ≡ high t
      marks = λ i f. sym (mark_stays f) i

-- ---- one number more, by its kind

-- the head is that of a sparse node, or of a chain of a group
abbrev pub IsFirstLink : Records → Head → Type 0
IsFirstLink records h =
    ((kind_at records format.nodes_file h.key.id ≡ format.sparse) × (h ≡ node_head h.key.id))
    ⊎ ((is_group_kind (kind_at records format.groups_file h.key.id) ≡ true) × (h.key ≡ key_in format.groups_file h.key.id) × IsFirstPlace h.field)

-- the heads that a node owns are such
pub owned_link : (s : Records) (shape : Shape) → AreInRange s shape → (h : Head) (n : ℕ) → Owns (kind_at s format.nodes_file) (group_at s) h n → IsFirstLink s h
owned_link s shape ranges h n (inl k) = inl (
  ap (λ (z : Head). kind_at s format.nodes_file z.key.id) k.is ∙ k.sparse,
  k.is ∙ ap
      (λ (z : Head). node_head z.key.id) (sym k.is),
)
owned_link s shape ranges h n (inr k) =
    let live = (some_row (kind_at s format.groups_file k.row.id) (group_in (rec_at s format.groups_file k.row.id) k.row.id) k.row k.group).0 in
    inr (
      ap (λ (z : Key). is_group_kind (kind_at s format.groups_file z.id)) k.key ∙ group_kind s shape ranges k.row.id live,
      k.key ∙ ap
          (λ (z : Key). key_in format.groups_file z.id) (sym k.key),
      k.field,
    )

low_small : (s : Records) (to : ℕ) → IsLow (high s format.relationships_file) to → to < 2 ^ 32
low_small s to low = let b = high_fits s format.relationships_file in ⊎_elim (λ (e : to ≡ format.nil). omega arith)
    (λ (lt : to < high s format.relationships_file). omega arith) low

module _ (s t : Records) (h : IsRelinked s t) where
  kind_is : (f x kind : ℕ) → x < high s f → kind_at s f x ≡ kind → field 1 (rec_at t f x) format.kind ≡ kind
  kind_is f x kind lt is = byte_stays s t h f x ∙ sym (kind_low (high s f) (rec_at s f x) x lt) ∙ is

  group_is : (g : ℕ) → g < high s format.groups_file → is_group_kind (kind_at s format.groups_file g) ≡ true
      → is_group_kind (field 1 (rec_at t format.groups_file g) format.kind) ≡ true
  group_is g lt is = ap is_group_kind (kind_is format.groups_file g (kind_at s format.groups_file g) lt refl) ∙ is

  -- a number in another file, or of a node that isn't dense, is no dense node's
  other_file : (file id at : ℕ) → file ≢ format.nodes_file → NotDense s file id at
  other_file file id at ne n d e = absurd (ne (sym (ap (λ (k : Key). k.file) e)))

  pub set_first : (n to : ℕ) → kind_at s format.nodes_file n ≡ format.sparse → IsLow (high s format.relationships_file) to
      → IsRelinked s (put t (key_in format.nodes_file n) (with_field 4 (rec_at t format.nodes_file n) format.node_first_link to))
  set_first n to sparse low = set_more s t format.nodes_file n format.node_first_link to (inl refl) (λ m place kept. (kept.0 refl).0)
      (λ m d e. absurd (let z = sym sparse ∙ ap (λ (k : Key). kind_at s format.nodes_file k.id) (sym e) ∙ d in omega arith))
      (λ lt fits. fits_first (high s) (rec_at t format.nodes_file n) to (low_small s to low) low (kind_is format.nodes_file n format.sparse lt sparse)
      (h.fit format.nodes_file n lt fits)) h

  pub set_group_first : (g at to : ℕ) → is_group_kind (kind_at s format.groups_file g) ≡ true → IsFirstPlace at → IsLow (high s format.relationships_file) to
      → IsRelinked s (put t (key_in format.groups_file g) (with_field 4 (rec_at t format.groups_file g) at to))
  set_group_first g at to grouped place low = set_more s t format.groups_file g at to (inr (inr refl)) (λ m p kept. apart m p (kept.2 refl))
      (other_file format.groups_file g at (λ e. omega arith))
      (λ lt fits. fits_group_first (high s) (rec_at t format.groups_file g) at to place (low_small s to low) low (group_is g lt grouped)
      (h.fit format.groups_file g lt fits)) h
    where
      within : (20 ≤ at) × (at + 4 ≤ 32)
      within = ⊎_elim (λ (e : at ≡ 20). (omega arith, omega arith)) (λ k. ⊎_elim (λ (e : at ≡ 24). (omega arith, omega arith))
          (λ (e : at ≡ 28). (omega arith, omega arith)) k) place

      apart : (m p : ℕ) → (p + m ≤ 20) ⊎ (44 ≤ p) → (p + m ≤ at) ⊎ (at + 4 ≤ p)
      apart m p k = ⊎_elim (λ (l : p + m ≤ 20). inl (let b = within.0 in omega arith)) (λ (l : 44 ≤ p). inr (let b = within.1 in omega arith)) k

  pub set_count : (g at to : ℕ) → kind_at s format.groups_file g ≡ format.counted → IsCountPlace at → to < 2 ^ 32
      → IsRelinked s (put t (key_in format.groups_file g) (with_field 4 (rec_at t format.groups_file g) at to))
  set_count g at to counted place small = set_more s t format.groups_file g at to (inr (inr refl)) (λ m p kept. apart m p (kept.2 refl))
      (other_file format.groups_file g at (λ e. omega arith))
      (λ lt fits. fits_count (high s) (rec_at t format.groups_file g) at to place small (kind_is format.groups_file g format.counted lt counted)
      (h.fit format.groups_file g lt fits)) h
    where
      within : (32 ≤ at) × (at + 4 ≤ 44)
      within = ⊎_elim (λ (e : at ≡ 32). (omega arith, omega arith)) (λ k. ⊎_elim (λ (e : at ≡ 36). (omega arith, omega arith))
          (λ (e : at ≡ 40). (omega arith, omega arith)) k) place

      apart : (m p : ℕ) → (p + m ≤ 20) ⊎ (44 ≤ p) → (p + m ≤ at) ⊎ (at + 4 ≤ p)
      apart m p k = ⊎_elim (λ (l : p + m ≤ 20). inl (let b = within.0 in omega arith)) (λ (l : 44 ≤ p). inr (let b = within.1 in omega arith)) k

  pub set_degree : (n to : ℕ) → (kind_at s format.nodes_file n ≡ format.sparse) ⊎ (kind_at s format.nodes_file n ≡ format.dense) → to < 2 ^ 32
      → IsRelinked s (put t (key_in format.nodes_file n) (with_field 4 (rec_at t format.nodes_file n) format.node_degree to))
  set_degree n to used small = set_more s t format.nodes_file n format.node_degree to (inl refl) (λ m place kept. (kept.0 refl).1) (λ m d e. inl (omega arith))
      (λ lt fits. fits_degree (high s) (rec_at t format.nodes_file n) to small (⊎_elim (λ k. inl (kind_is format.nodes_file n format.sparse lt k))
      (λ k. inr (kind_is format.nodes_file n format.dense lt k)) used) (h.fit format.nodes_file n lt fits)) h

  pub set_link : (x at to : ℕ) → kind_at s format.relationships_file x ≡ format.related → IsLink at → IsLow (high s format.relationships_file) to
      → IsRelinked s (put t (key_in format.relationships_file x) (with_field 4 (rec_at t format.relationships_file x) at to))
  set_link x at to related link low = set_more s t format.relationships_file x at to (inr (inl refl)) (λ m place kept. apart m place (kept.1 refl))
      (other_file format.relationships_file x at (λ e. omega arith))
      (λ lt fits. fits_link (high s) (rec_at t format.relationships_file x) at to link (low_small s to low) low (kind_is format.relationships_file x
      format.related lt related) (h.fit format.relationships_file x lt fits)) h
    where
      within : (16 ≤ at) × (at + 4 ≤ 32)
      within = ⊎_elim (λ (e : at ≡ 16). (omega arith, omega arith)) (λ k. ⊎_elim (λ (e : at ≡ 20). (omega arith, omega arith))
          (λ l. ⊎_elim (λ (e : at ≡ 24). (omega arith, omega arith)) (λ (e : at ≡ 28). (omega arith, omega arith)) l) k) link

      apart : (m place : ℕ) → (place + m ≤ 16) ⊎ (32 ≤ place) → (place + m ≤ at) ⊎ (at + 4 ≤ place)
      apart m place k = ⊎_elim (λ (l : place + m ≤ 16). inl (let b = within.0 in omega arith)) (λ (l : 32 ≤ place). inr (let b = within.1 in omega arith)) k

  -- the first link of a head
  pub set_head : (head : Head) (to : ℕ) → IsFirstLink s head → IsLow (high s format.relationships_file) to
      → IsRelinked s (put t head.key (with_field 4 (t head.key) head.field to))
  set_head head to (inl k) low = subst (λ (z : Head). IsRelinked s (put t z.key (with_field 4 (t z.key) z.field to))) (sym k.1)
      (set_first head.key.id to k.0 low)
  set_head head to (inr k) low = subst (λ (z : Key). IsRelinked s (put t z (with_field 4 (t z) head.field to))) (sym k.1)
      (set_group_first head.key.id head.field to k.0 k.2 low)

-- numbers that are set after others
pub relinked_both : (s m t : Records) → IsRelinked s m → IsRelinked m t → IsRelinked s t
relinked_both s m t h k = record {
  others = λ key out. k.others key out ∙ h.others key out;
  same = λ key n at inside kept. k.same key n at inside kept ∙ h.same key n at inside kept;
  dense = λ n d. k.dense n (kind_stays s m h format.nodes_file n ∙ d) ∙ h.dense n d;
  fit = λ f x lt old.
      let marks : high m ≡ high s = λ i g. mark_stays s m h g i in
      subst (λ (w : ℕ → ℕ). Fits w f (rec_at t f x)) marks (k.fit f x (subst (λ n. x < n) (sym (mark_stays s m h f)) lt)
      (subst (λ (w : ℕ → ℕ). Fits w f (rec_at m f x)) (sym marks) (h.fit f x lt old)));
}
