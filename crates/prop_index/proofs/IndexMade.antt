-- A definition and its entries are an index of what the nodes have.
use Rattle.std.proofs.Common.{◌≡◌, ◌≢◌, ℕ, ◌+◌, ◌/◌, ◌%◌, ◌<◌, ◌≤◌, List, [], ◌∷◌, ◌++◌, length, map, refl, ap, sym, ◌∙◌, subst, inl, inr, arith, length-append}
use Rattle.rec_bytes.specs.declared.record.Rec.{Rec}
use Rattle.rec_bytes.specs.Format as format
use Rattle.rec_bytes.specs.Record.{field}
use Rattle.rec_bytes.specs.Space.{SameButReads, State}
use Rattle.id_freelist.specs.declared.take_fault.TakeFault.{TakeFault}
use Rattle.store_rules.specs.Chains.{In, IsWalk}
use Rattle.store_rules.specs.Indexes.{AreIndexed, Entries, IsIndexed, first_definition, index_rec, indexed_key, indexed_label, next_definition, wanted_in}
use Rattle.store_rules.specs.Views.{high}
use Rattle.store_rules.proofs.ChainLaws.{walk_stays}
use Rattle.store_rules.proofs.DefinitionMade as dm
use Rattle.store_rules.proofs.IndexFrames.{indexed_same}
use Rattle.store_rules.proofs.MetaLaws.{high_fits}
use Rattle.store_rules.proofs.ViewLaws.{kind_below}
use Rattle.store_rules.proofs.OnceLaws.{in_left}
use Rattle.store_rules.proofs.PropertyWalks.{walk_is}
use Rattle.prop_store.specs.Touching.{TouchesOnly}
use Rattle.prop_index.specs.Collecting.{contents_in}
use Rattle.prop_index.specs.Defining.{HasLeft, IsDefinitionAdded, SameElsewhere}
use Rattle.prop_index.specs.Entering.{IsMishap}
use Rattle.prop_index.specs.declared.entry_row.Content.{Content}
use Rattle.prop_index.specs.DefinitionRecord.{head_ids}
use Rattle.prop_index.specs.Filling.{IsEmptyIndex, IsFilled, TouchesBeside, with_contents}
use Rattle.prop_index.specs.Listing.{pair_of}
use Rattle.prop_index.specs.Making.{MayDefine, WritesIndex, pair_is}
use Rattle.prop_index.specs.Touching.{TouchesIndex, index_keys}
use Rattle.prop_index.specs.declared.finding.Definition.{Definition}
use Rattle.prop_index.proofs.ContentsWanted.{lacking, lacking-here, lacking-other, wanted_again, wanted_same}
use Rattle.prop_index.proofs.HeadsAdded.{length-head_ids}
use Rattle.prop_index.proofs.IndexTouches.{only_join}

map_same : {X : Type 0} (f h : ℕ → X) (xs : List ℕ) → ((x : ℕ) → In x xs → f x ≡ h x) → map f xs ≡ map h xs
map_same f h [] same = refl
map_same f h (x ∷ xs) same = λ i. same x (inl refl) i ∷ map_same f h xs (λ y j. same y (inr j)) i

module _ (s m : State) (label key : ℕ) (definition : Definition) (was : IsIndexed s.records s.shape)
    (may : MayDefine s.records was.indexes.definitions label key) (added : IsDefinitionAdded s m label key definition) where
  abbrev d : ℕ
  d = definition.id

  abbrev ds : List ℕ
  ds = was.indexes.definitions

  -- what is to be indexed but the nodes of the pair
  abbrev pub before : Entries
  before = lacking label key (wanted_in s.records)

  ix_before : AreIndexed s.records before
  ix_before = indexed_same s.records (wanted_in s.records) before was.indexes
      (λ f e i l k. lacking-other label key (wanted_in s.records) e (λ a b. may.lacked f i (sym l ∙ a, sym k ∙ b)))

  abbrev olds : List ℕ
  olds = ix_before.definitions

  olds_are : ds ≡ olds
  olds_are = walk_is (next_definition s.records) (first_definition s.records) ds olds was.indexes.walk ix_before.walk

  few : length olds < 16
  few = let a = may.few in let b = ap length olds_are in omega (arith, a, b)

  lacked : (e : ℕ) → In e olds → indexed_label s.records e ≡ label → indexed_key s.records e ≡ key → ⊥
  lacked e i l k = may.lacked e (subst (In e) (sym olds_are) i) (l, k)

  -- the definition is one more
  pub ix_defined : AreIndexed m.records before
  ix_defined = dm.definition_made s.records m.records before ix_before d label key added.made few lacked
      (λ e l k. lacking-here label key (wanted_in s.records) e l k)

  walk_defined : IsWalk (next_definition m.records) (first_definition m.records) (d ∷ olds)
  walk_defined = (
    added.made.first,
    some,
    subst (λ f. IsWalk (next_definition m.records) f olds) (sym added.made.next)
        (walk_stays (next_definition s.records) (next_definition m.records) (first_definition s.records) olds
        (λ e i. ap (λ (r : Rec). field 4 r format.definition_next) (dm.definition_old s.records m.records before ix_before d label key added.made e i))
        ix_before.walk),
  )
    where
      some : d ≢ format.nil
      some e =
          let k = added.made.kind in
          let under = kind_below (high m.records format.index_file) (index_rec m.records d) d (λ q. omega (arith, k, q)) in
          let fits = high_fits m.records format.index_file in omega (arith, e, under, fits)

  now_are : d ∷ olds ≡ ix_defined.definitions
  now_are = walk_is (next_definition m.records) (first_definition m.records) (d ∷ olds) ix_defined.definitions walk_defined ix_defined.walk

  pub empty_index : IsEmptyIndex m.records before ix_defined label key definition
  empty_index = record {
    listed = subst (In d) now_are (inl refl);
    rec_is = added.rec_is;
    pair = (added.made.label_is, added.made.key_is);
    empty = λ b lt. added.made.empty (b / 15) (b % 15) (omega arith) (omega arith);
    unwanted = λ e l k. lacking-here label key (wanted_in s.records) e l k;
  }

  module _ (t : State) (filled : IsFilled m t before ix_defined label key (contents_in s.records label key (high s.records format.nodes_file))) where
    others : SameElsewhere s.records t.records
    others q file meta = filled.others q file meta ∙ added.others q file meta

    ix_now : AreIndexed t.records (wanted_in t.records)
    ix_now = indexed_same t.records (with_contents before label key (contents_in s.records label key (high s.records format.nodes_file))) (wanted_in t.records)
        filled.indexes
        (λ f e i l k. wanted_same s.records t.records others e ∙ sym (wanted_again s.records label key e))

    rec_same : (e : ℕ) → In e (d ∷ olds) → index_rec t.records e ≡ index_rec m.records e
    rec_same e i = filled.definitions e (subst (In e) now_are i)

    walk_now : IsWalk (next_definition t.records) (first_definition t.records) (d ∷ olds)
    walk_now = subst (λ f. IsWalk (next_definition t.records) f (d ∷ olds)) (sym filled.first)
        (walk_stays (next_definition m.records) (next_definition t.records) (first_definition m.records) (d ∷ olds)
        (λ e i. ap (λ (r : Rec). field 4 r format.definition_next) (rec_same e i)) walk_defined)

    new_pair : pair_of t.records d ≡ pair_is label key
    new_pair =
        let rec = rec_same d (inl refl) in
        let l = ap (λ (r : Rec). field 4 r format.definition_label) rec ∙ added.made.label_is in
        let k = ap (λ (r : Rec). field 4 r format.definition_key) rec ∙ added.made.key_is in
        λ i. record { label = l i; key = k i }

    old_pair : (e : ℕ) → In e olds → pair_of t.records e ≡ pair_of s.records e
    old_pair e j =
        let rec = rec_same e (inr j) ∙ dm.definition_old s.records m.records before ix_before d label key added.made e j in
        λ i. record { label = field 4 (rec i) format.definition_label; key = field 4 (rec i) format.definition_key }

    pairs : map (pair_of t.records) ix_now.definitions ≡ pair_is label key ∷ map (pair_of s.records) ds
    pairs = ap (map (pair_of t.records)) (sym (walk_is (next_definition t.records) (first_definition t.records) (d ∷ olds) ix_now.definitions walk_now
        ix_now.walk))
        ∙ (λ i. new_pair i ∷ (map_same (pair_of t.records) (pair_of s.records) olds old_pair ∙ ap (map (pair_of s.records)) (sym olds_are)) i)

    -- The pair has an index of what its nodes have.
    pub index_written : WritesIndex s t label key was
    index_written = record { store = record { store = filled.kept; indexes = ix_now }; pairs = pairs; others = others }

-- ---- what it touches

pub index_more : {tells : Type 0} (n k : ℕ) (s t : State) → n ≤ k → TouchesIndex tells n s t → TouchesIndex tells k s t
index_more n k s t le h = record { ids = h.ids; few = let f = h.few in omega (arith, le, f); only = h.only }

pub written_touches : {tells : Type 0} (s m t : State) (definition : Definition) (n : ℕ)
    → TouchesOnly tells s m (index_keys (definition.id ∷ head_ids 12 definition.rec)) → TouchesBeside tells (head_ids 12 definition.rec) n m t
    → TouchesIndex tells (13 + n) s t
written_touches s m t definition n h g = record {
  ids = (definition.id ∷ head_ids 12 definition.rec) ++ g.ids;
  few =
      let a = length-append (definition.id ∷ head_ids 12 definition.rec) g.ids in
      let b = length-head_ids 12 definition.rec in let f = g.few in
      omega (arith, a, b, f);
  only = only_join (definition.id ∷ head_ids 12 definition.rec) (head_ids 12 definition.rec ++ g.ids) ((definition.id ∷ head_ids 12 definition.rec) ++ g.ids) s
      m t
      (λ x i. in_left x (definition.id ∷ head_ids 12 definition.rec) g.ids i) (λ x i. inr i) h g.only;
}

-- ---- reads before it

pub written_reread : (s b t : State) (label key : ℕ) (contents : List Content) → SameButReads s b
    → ((w : IsIndexed b.records b.shape) → MayDefine b.records w.indexes.definitions label key → contents ≡ contents_in b.records label key
    (high b.records format.nodes_file) → WritesIndex b t label key w)
    → (was : IsIndexed s.records s.shape) → MayDefine s.records was.indexes.definitions label key
    → contents ≡ contents_in s.records label key (high s.records format.nodes_file) → WritesIndex s t label key was
written_reread s b t label key contents same writes was may are =
    let Q : State → Type 0 = λ z. (w : IsIndexed z.records z.shape) → MayDefine z.records w.indexes.definitions label key
    → contents ≡ contents_in z.records label key (high z.records format.nodes_file) → WritesIndex z t label key w in
    let now : WritesIndex (record s { reads = b.reads }) t label key was = subst Q same writes was may are in
    record { store = now.store; pairs = now.pairs; others = now.others }

pub mishap_reread : (s b : State) (label key : ℕ) (contents : List Content) (f : TakeFault) → SameButReads s b
    → ((w : IsIndexed b.records b.shape) → MayDefine b.records w.indexes.definitions label key → contents ≡ contents_in b.records label key
    (high b.records format.nodes_file) → HasLeft b (13 + length contents) → IsMishap f)
    → (was : IsIndexed s.records s.shape) → MayDefine s.records was.indexes.definitions label key
    → contents ≡ contents_in s.records label key (high s.records format.nodes_file) → HasLeft s (13 + length contents) → IsMishap f
mishap_reread s b label key contents f same fails was may are left =
    let Q : State → Type 0 = λ z. (w : IsIndexed z.records z.shape) → MayDefine z.records w.indexes.definitions label key
    → contents ≡ contents_in z.records label key (high z.records format.nodes_file) → HasLeft z (13 + length contents) → IsMishap f in
    subst Q same fails was may are left

pub left_reread : (s b : State) (n : ℕ) → SameButReads s b → HasLeft s n → HasLeft b n
left_reread s b n same left = subst (λ (z : State). HasLeft z n) (sym same) left

pub left_before : (s b : State) (n : ℕ) → SameButReads s b → HasLeft b n → HasLeft s n
left_before s b n same left = subst (λ (z : State). HasLeft z n) same left
