-- A pair that was found to have no index has none after its label and its key became names.
use Rattle.std.specs.Prelude.{Contains, map}
use Rattle.std.proofs.Common.{◌≡◌, ⊎_elim, ℕ, Bool, true, false, ◌&&◌, ◌||◌, List, [], ◌∷◌, length, ap, sym, ◌∙◌, subst, arith, refl}
use Rattle.std.proofs.lemmas.Bool.{false≢true}
use Rattle.rec_bytes.specs.declared.record.Rec.{Rec}
use Rattle.rec_bytes.specs.Format as format
use Rattle.rec_bytes.specs.Record.{field}
use Rattle.store_rules.specs.Chains.{IsWalk}
use Rattle.store_rules.specs.Indexes.{first_definition, next_definition}
use Rattle.store_rules.specs.RuleList.{IsSameFile}
use Rattle.store_rules.specs.Views.{Records}
use Rattle.store_rules.proofs.Members.{contains_cases}
use Rattle.store_rules.proofs.NumberLaws.{eq_true}
use Rattle.store_rules.proofs.PropertyWalks.{walk_is}
use Rattle.prop_index.specs.Listing.{ArePairsMet, pair_of}
use Rattle.prop_index.specs.Making.{AreManyMet, HasPairMet, pair_is}
use Rattle.prop_index.specs.declared.listing.IndexPair.{IndexPair}
use Rattle.node_changes.specs.Entries.{is_listed, is_pair}
use Rattle.node_changes.specs.Indexing.{LacksIndex}

or_true : (a b : Bool) → b ≡ true → (a || b) ≡ true
or_true true b is = refl
or_true false b is = is

listed_in : (pairs : List IndexPair) (l k : ℕ) → Contains pairs (pair_is l k) → is_listed pairs l k ≡ true
listed_in [] l k has = absurd (omega (arith, has.1))
listed_in (p ∷ ps) l k has = ⊎_elim
    (λ (e : pair_is l k ≡ p). ap (λ b. b || is_listed ps l k) (ap (is_pair l k) (sym e) ∙ (λ i. eq_true l l refl i && eq_true k k refl i)))
    (λ (later : Contains ps (pair_is l k)). or_true (is_pair l k p) (is_listed ps l k) (listed_in ps l k later))
    (contains_cases p ps (pair_is l k) has)

module _ (s m : Records) (file : IsSameFile s m format.index_file) where
  walks_same : (xs ys : List ℕ) → IsWalk (next_definition s) (first_definition s) xs → IsWalk (next_definition m) (first_definition m) ys → ys ≡ xs
  walks_same xs ys was is = walk_is (next_definition s) (first_definition s) ys xs
      (subst (λ (p : (ℕ → Rec) × Rec). IsWalk (λ d. field 4 (p.0 d) format.definition_next) (field 4 p.1 format.meta_definition) ys)
      (λ i. (file.records i, file.meta i)) is) was

  -- the chain leads to the same pairs
  pairs_same : (old now : List IndexPair) → ArePairsMet s old → ArePairsMet m now → now ≡ old
  pairs_same old now was is =
      is.pairs_are
      ∙ ap (λ (f : ℕ → Rec). map (λ d. record { label = field 4 (f d) format.definition_label; key = field 4 (f d) format.definition_key }) is.definitions)
      file.records
      ∙ ap (map (pair_of s)) (walks_same was.definitions is.definitions was.walk is.walk)
      ∙ sym was.pairs_are

  module _ (names : List (List ℕ)) (label key : List ℕ) (free : LacksIndex s names label key) where
    -- none is of the pair, by these numbers
    pub none_there : (l k : ℕ) → (free.pair.label ≡ l) × (free.pair.key ≡ k) → ¬ HasPairMet m l k
    none_there l k same there =
        let listed = listed_in there.pairs l k there.there in
        false≢true (sym free.unlisted ∙ (λ i. is_listed free.pairs (same.0 i) (same.1 i)) ∙ ap (λ ps. is_listed ps l k)
        (sym (pairs_same free.pairs there.pairs free.met there.met)) ∙ listed)

    -- they aren't as many as there may be
    pub few_there : ¬ AreManyMet m
    few_there many =
        let n = ap length (pairs_same free.pairs many.pairs free.met many.met) in
        let all = many.many in
        let few = free.few in
        omega (arith, n, all, few)
