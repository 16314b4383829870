-- A record that breaks the eighth rule shows that the store doesn't keep it.
use Rattle.std.proofs.Common.{◌≡◌, ◌≢◌, ℕ, ◌+◌, ◌<◌, ◌≤◌, suc, List, [], ◌∷◌, length, refl, sym, ap, ◌∙◌, subst, ⊎_elim, inl, inr, arith}
use Rattle.std.proofs.lemmas.Bool.{true≢false}
use Rattle.rec_bytes.specs.declared.damage.Damage.{Damage}
use Rattle.rec_bytes.specs.Format as format
use Rattle.store_rules.specs.Chains.{In, IsWalk}
use Rattle.store_rules.specs.Indexes.{AreIndexed, Entries, first_definition, next_definition, next_entry, wanted_in}
use Rattle.store_rules.specs.IndexBreaking.{HasHead, IndexBreaks, LeadsToDefinition, LeadsToEntry}
use Rattle.store_rules.specs.IndexBreaking.IndexBreaks.{LateEntry, LeftOver, OtherDefinition, OtherEntry, OtherHead}
use Rattle.store_rules.specs.IndexBreaking.IndexBreaks.{UnwantedEntry, WrongDefinition, WrongDefinitions, WrongEntry}
use Rattle.store_rules.specs.IndexBreaking.IndexBreaks.{WrongHead, WrongNode}
use Rattle.store_rules.specs.IndexBreaking.LeadsToDefinition.{FirstDefinition, NextDefinition}
use Rattle.store_rules.specs.IndexBreaking.LeadsToEntry.{FirstEntry, NextEntry}
use Rattle.store_rules.specs.Views.{Records, high, rec_at}
use Rattle.store_rules.proofs.ChainLaws.{walk_of_chain}
use Rattle.store_rules.proofs.ChainSteps.{after_in, first_in}
use Rattle.store_rules.proofs.IndexParts.{parts_of}
use Rattle.store_rules.proofs.Members.{length-once_below}
use Rattle.store_rules.proofs.OnceLaws.{once_walk}
use Rattle.store_rules.proofs.ViewLaws.{kind_below}

-- the rest of a list that links lead through, from what they lead to after so many
record IsRest (next : ℕ → ℕ) (xs : List ℕ) (n x : ℕ) : Type 0 where
  pub rest : List ℕ
  pub walk : IsWalk next x rest
  pub within : (y : ℕ) → In y rest → In y xs
  pub count : n + length rest ≡ length xs

next_rest : (next : ℕ → ℕ) (xs : List ℕ) (n x y : ℕ) → x ≢ format.nil → IsRest next xs n x → next x ≡ y → IsRest next xs (suc n) y
next_rest next xs n x y some r e = go r.rest r.walk r.within r.count
  where
    go : (rest : List ℕ) → IsWalk next x rest → ((z : ℕ) → In z rest → In z xs) → n + length rest ≡ length xs → IsRest next xs (suc n) y
    go [] walk within count = absurd (some walk)
    go (z ∷ zs) walk within count = record {
      rest = zs;
      walk = subst (λ f. IsWalk next f zs) (ap next (sym walk.0) ∙ e) walk.2;
      within = λ q i. within q (inr i);
      count = omega (arith, count);
    }

rest_in : (next : ℕ → ℕ) (xs : List ℕ) (n x : ℕ) → x ≢ format.nil → IsRest next xs n x → In x xs × (n < length xs)
rest_in next xs n x some r = go r.rest r.walk r.within r.count
  where
    go : (rest : List ℕ) → IsWalk next x rest → ((z : ℕ) → In z rest → In z xs) → n + length rest ≡ length xs → In x xs × (n < length xs)
    go [] walk within count = absurd (some walk)
    go (z ∷ zs) walk within count = (within x (inl walk.0), omega (arith, count))

module _ (records : Records) (wanted : Entries) (ix : AreIndexed records wanted) where
  -- the chain of the definitions leads to these alone
  pub definition_met : (d : ℕ) → LeadsToDefinition records d → In d ix.definitions
  definition_met d (FirstDefinition a e some) = ⊎_elim (λ nil. absurd (some (sym e ∙ nil))) (λ i. subst (λ z. In z ix.definitions) e i)
      (first_in (next_definition records) (first_definition records) ix.definitions ix.walk)
  definition_met d (NextDefinition c a before defined e some) = ⊎_elim (λ nil. absurd (some (sym e ∙ nil))) (λ i. subst (λ z. In z ix.definitions) e i)
      (after_in (next_definition records) (first_definition records) ix.definitions c ix.walk (definition_met c before))

  -- what a bucket leads to is not none
  met_some : (d b n x : ℕ) → LeadsToEntry records d b n x → x ≢ format.nil
  met_some d b n x (FirstEntry z has e some) = some
  met_some d b n x (NextEntry k y z before used e some) = some

  has_head : (d b n x : ℕ) → LeadsToEntry records d b n x → HasHead records d b
  has_head d b n x (FirstEntry z has e some) = has
  has_head d b n x (NextEntry k y z before used e some) = has_head d b k y before

  -- a bucket leads to its entries alone
  bucket_rest : (d b n x : ℕ) → LeadsToEntry records d b n x → IsRest (next_entry records) (ix.lists d b) n x
  bucket_rest d b n x (FirstEntry z has e some) = record {
    rest = ix.lists d b;
    walk = subst (λ f. IsWalk (next_entry records) f (ix.lists d b)) e (walk_of_chain _ _ _ _ (ix.lists d b) (ix.buckets d b (definition_met d has.leads)
        has.low).chain);
    within = λ y i. i;
    count = omega arith;
  }
  bucket_rest d b n x (NextEntry k y z before used e some) = next_rest (next_entry records) (ix.lists d b) k y x (met_some d b k y before)
      (bucket_rest d b k y before) e

  pub entry_met : (d b n x : ℕ) → LeadsToEntry records d b n x → In x (ix.lists d b) × (n < length (ix.lists d b))
  entry_met d b n x leads = rest_in (next_entry records) (ix.lists d b) n x (met_some d b n x leads) (bucket_rest d b n x leads)

  -- there are no more of them than were given out
  few_entries : (d b n x : ℕ) → LeadsToEntry records d b n x → length (ix.lists d b) ≤ high records format.index_file
  few_entries d b n x leads =
      let has = has_head d b n x leads in
      let is = ix.buckets d b (definition_met d has.leads) has.low in
      length-once_below (ix.lists d b) (high records format.index_file) (once_walk _ _ (ix.lists d b) (walk_of_chain _ _ _ _ (ix.lists d b) is.chain))
      (λ y i. kind_below (high records format.index_file) (rec_at records format.index_file y) y (λ e. let k = is.kind y i in omega (arith, e, k)))

  pub never_late : (d b n x : ℕ) → LeadsToEntry records d b n x → ¬ (high records format.index_file ≤ n)
  never_late d b n x leads late = let m = entry_met d b n x leads in let few = few_entries d b n x leads in omega (arith, late, m.1, few)

module _ (records : Records) where
  pub not_indexed : (d : Damage) → IndexBreaks records d → ¬ AreIndexed records (wanted_in records)
  not_indexed d (WrongDefinitions bad) ix = bad (parts_of records ix).meta
  not_indexed d (WrongDefinition x a bad) ix = bad ((parts_of records ix).definition x a)
  not_indexed d (WrongHead h bad) ix = bad ((parts_of records ix).head h)
  not_indexed d (WrongEntry x bad) ix = bad ((parts_of records ix).entry x)
  not_indexed d (WrongNode n bad) ix = bad ((parts_of records ix).node n)
  not_indexed d (LeftOver x live bad) ix = bad ((parts_of records ix).held x live)
  not_indexed d (OtherDefinition x leads given other) ix = other (ix.defined x (definition_met records (wanted_in records) ix x leads))
  not_indexed d (OtherHead x c leads defined low given other) ix = other (ix.heads x c (definition_met records (wanted_in records) ix x leads) low)
  not_indexed d (OtherEntry x b n y leads given other) ix =
      let has = has_head records (wanted_in records) ix x b n y leads in
      other ((ix.buckets x b (definition_met records (wanted_in records) ix x has.leads) has.low).kind y (entry_met records (wanted_in records)
      ix x b n y leads).0)
  not_indexed d (LateEntry x b n y leads late) ix = never_late records (wanted_in records) ix x b n y leads late
  not_indexed d (UnwantedEntry x b n y leads used not) ix =
      let has = has_head records (wanted_in records) ix x b n y leads in
      true≢false (sym ((ix.buckets x b (definition_met records (wanted_in records) ix x has.leads) has.low).wanted_is y (entry_met records (wanted_in records)
      ix x b n y leads).0) ∙ not)

  -- it is told with the number of the rule
  pub index_rule : (d : Damage) → IndexBreaks records d → d.rule ≡ 8
  index_rule d (WrongDefinitions bad) = refl
  index_rule d (WrongDefinition x among bad) = refl
  index_rule d (WrongHead h bad) = refl
  index_rule d (WrongEntry x bad) = refl
  index_rule d (WrongNode n bad) = refl
  index_rule d (LeftOver x live bad) = refl
  index_rule d (OtherDefinition x leads given other) = refl
  index_rule d (OtherHead x c leads defined low given other) = refl
  index_rule d (OtherEntry x b n y leads given other) = refl
  index_rule d (LateEntry x b n y leads late) = refl
  index_rule d (UnwantedEntry x b n y leads used not) = refl
