-- A value that was set or taken away is the change of one value of a node.
use Rattle.std.proofs.Common.{◌≡◌, ◌≢◌, ⊎_elim, inl, inr, ℕ, ◌++◌, nat_eq, Bool, true, false, cond, Option, None, Some}
use Rattle.std.proofs.Common.{List, [], ◌∷◌, ap, sym, ◌∙◌, subst, refl}
use Rattle.plain_graph.specs.declared.value.Value.{Value}
use Rattle.rec_bytes.specs.Format as format
use Rattle.rec_bytes.specs.Record.{field}
use Rattle.rec_bytes.specs.Space.{State}
use Rattle.store_rules.specs.Chains.{In}
use Rattle.store_rules.specs.IndexChange.{ChangesValue}
use Rattle.store_rules.specs.Indexes.{node_value, value_in}
use Rattle.store_rules.specs.Properties.{AreOnce, Property, keys_of}
use Rattle.store_rules.specs.Rules.{KeepsRules}
use Rattle.store_rules.specs.Views.{rec_at}
use Rattle.store_rules.proofs.NumberLaws.{eq_false, eq_true, nat_cases}
use Rattle.store_rules.proofs.ValueChange.{changes_value, value_elsewhere, value_now}
use Rattle.prop_store.specs.Alone.{DropsAllAlone, IsAdded, IsReplaced, RemovesAlone, SetsAlone}
use Rattle.prop_store.specs.declared.changing.Dropped.{Dropped}
use Rattle.prop_store.specs.declared.owner.Owner.{Owner}

-- ---- values among properties

-- the value of the first property, where it has the key
value_here : (e : Property) (es : List Property) (key : ℕ) → e.key ≡ key → value_in (e ∷ es) key ≡ Some e.value
value_here e es key is = ap (λ b. cond b (Some e.value) (value_in es key)) (eq_true e.key key is)

-- and of the others, where it hasn't
value_later : (e : Property) (es : List Property) (key : ℕ) → e.key ≢ key → value_in (e ∷ es) key ≡ value_in es key
value_later e es key other = ap (λ b. cond b (Some e.value) (value_in es key)) (eq_false e.key key other)

-- keys that none before has
value_behind : (before es : List Property) (key : ℕ) → (In key (keys_of before) → ⊥) → value_in (before ++ es) key ≡ value_in es key
value_behind [] es key none = refl
value_behind (e ∷ before) es key none = value_later e (before ++ es) key (λ is. none (inl (sym is))) ∙ value_behind before es key (λ i. none (inr i))

value_lacked : (es : List Property) (key : ℕ) → (In key (keys_of es) → ⊥) → value_in es key ≡ None
value_lacked [] key none = refl
value_lacked (e ∷ es) key none = value_later e es key (λ is. none (inl (sym is))) ∙ value_lacked es key (λ i. none (inr i))

-- one property of another key more, or another in its place
value_between : (before : List Property) (e : Property) (rest : List Property) (key : ℕ) → e.key ≢ key
    → value_in (before ++ e ∷ rest) key ≡ value_in (before ++ rest) key
value_between [] e rest key other = value_later e rest key other
value_between (f ∷ before) e rest key other = ap (λ v. cond (nat_eq f.key key) (Some f.value) v) (value_between before e rest key other)

-- where no key comes twice, none of the others has that of one
once_before : (before : List Property) (e : Property) (rest : List Property) → AreOnce (keys_of (before ++ e ∷ rest)) → In e.key (keys_of before) → ⊥
once_before [] e rest once i = elim i [ ]
once_before (f ∷ before) e rest once (inl is) = once.0 (subst (λ k. In k (keys_of (before ++ e ∷ rest))) is (in_keys before e rest))
  where
    in_keys : (before : List Property) (e : Property) (rest : List Property) → In e.key (keys_of (before ++ e ∷ rest))
    in_keys [] e rest = inl refl
    in_keys (g ∷ before) e rest = inr (in_keys before e rest)
once_before (f ∷ before) e rest once (inr i) = once_before before e rest once.1 i

once_after : (before : List Property) (e : Property) (rest : List Property) → AreOnce (keys_of (before ++ e ∷ rest)) → In e.key (keys_of rest) → ⊥
once_after [] e rest once = once.0
once_after (f ∷ before) e rest once = once_after before e rest once.1

-- ---- a node

module _ (old new : State) (owner : Owner) (es : List Property) (key : ℕ) (node : owner.key.file ≡ format.nodes_file) {most : ℕ} {empty : List ℕ}
    (well : KeepsRules old.records old.shape most empty) where
  abbrev label : ℕ
  label = field 4 (rec_at old.records format.nodes_file owner.key.id) format.node_label

  -- the key has the value among these properties, and other keys have what they had
  abbrev HasSet : List Property → Value → Type 0
  HasSet after value = (value_in after key ≡ Some value) × ((k : ℕ) → k ≢ key → value_in after k ≡ value_in es k)

  -- The key has the value now.
  pub sets_value : (value : Value) (released : ℕ) → SetsAlone old new owner es key value released
      → ChangesValue old.records new.records label key owner.key.id (value_in es key) (Some value)
  sets_value value released sets = subst (ChangesValue old.records new.records label key owner.key.id (value_in es key)) (after.0 ∙ ap Some sets.value_is)
      (changes_value old.records new.records old.shape owner.key.file owner.key.id es sets.after sets.changes well node key after.1)
    where
      by_added : IsAdded es sets.after sets.property released → HasSet sets.after sets.property.value
      by_added added = (
        ap (λ ps. value_in ps key) added.all ∙ value_here sets.property es key sets.key_is,
        λ k ne. ap (λ ps. value_in ps k) added.all ∙ value_later sets.property es k (λ e. ne (sym e ∙ sets.key_is)),
      )

      by_replaced : IsReplaced es sets.after sets.property released → HasSet sets.after sets.property.value
      by_replaced r =
          let was_key : r.was.key ≡ key = r.found.key_is ∙ sets.key_is in
          let once = subst (λ ps. AreOnce (keys_of ps)) r.found.all sets.changes.was.keys_once in
          let none : In key (keys_of r.before) → ⊥ = λ i. once_before r.before r.was r.rest once (subst (λ k. In k (keys_of r.before)) (sym was_key) i) in (
            ap (λ ps. value_in ps key) r.all ∙ value_behind r.before (sets.property ∷ r.rest) key none ∙ value_here sets.property r.rest key sets.key_is,
            λ k ne. ap (λ ps. value_in ps k) r.all ∙ value_between r.before sets.property r.rest k (λ e. ne (sym e ∙ sets.key_is))
                ∙ sym (value_between r.before r.was r.rest k (λ e. ne (sym e ∙ was_key))) ∙ sym (ap (λ ps. value_in ps k) r.found.all),
          )

      after : HasSet sets.after sets.property.value
      after = ⊎_elim by_added by_replaced sets.place

  -- The key has none now.
  pub removes_value : (released : ℕ) → RemovesAlone old new owner es key released
      → ChangesValue old.records new.records label key owner.key.id (value_in es key) None
  removes_value released gone = subst (ChangesValue old.records new.records label key owner.key.id (value_in es key)) none
      (changes_value old.records new.records old.shape owner.key.file owner.key.id es (gone.before ++ gone.rest) gone.changes well node key same)
    where
      once : AreOnce (keys_of (gone.before ++ gone.was ∷ gone.rest))
      once = subst (λ ps. AreOnce (keys_of ps)) gone.found.all gone.changes.was.keys_once

      none : value_in (gone.before ++ gone.rest) key ≡ None
      none = value_behind gone.before gone.rest key (λ i. once_before gone.before gone.was gone.rest once (subst (λ k. In k (keys_of gone.before))
          (sym gone.found.key_is) i))
          ∙ value_lacked gone.rest key (λ i. once_after gone.before gone.was gone.rest once (subst (λ k. In k (keys_of gone.rest)) (sym gone.found.key_is) i))

      same : (k : ℕ) → k ≢ key → value_in (gone.before ++ gone.rest) k ≡ value_in es k
      same k ne = sym (value_between gone.before gone.was gone.rest k (λ e. ne (sym e ∙ gone.found.key_is))) ∙ sym (ap (λ ps. value_in ps k) gone.found.all)

-- No key of the node has a value now, and the values of others are as they were.
pub drops_values : (old new : State) (owner : Owner) (es : List Property) (dropped : Dropped) → owner.key.file ≡ format.nodes_file → {most : ℕ} {empty : List ℕ}
    → KeepsRules old.records old.shape most empty → DropsAllAlone old new owner es dropped
    → (l k n : ℕ) → node_value new.records l k n ≡ cond (nat_eq n owner.key.id) None (node_value old.records l k n)
drops_values old new owner es dropped node well drops l k n = ⊎_elim
    (λ (here : n ≡ owner.key.id). ap (node_value new.records l k) here ∙ value_now old.records new.records old.shape owner.key.file owner.key.id es []
    drops.changes well node l k ∙ both (nat_eq (field 4 (rec_at old.records format.nodes_file owner.key.id) format.node_label) l) None refl
    ∙ sym (ap (λ b. cond b None (node_value old.records l k n)) (eq_true n owner.key.id here)))
    (λ (other : n ≢ owner.key.id). value_elsewhere old.records new.records old.shape owner.key.file owner.key.id es [] drops.changes well node l k n other
    ∙ sym (ap (λ b. cond b None (node_value old.records l k n)) (eq_false n owner.key.id other)))
    (nat_cases n owner.key.id)
  where
    -- either way there is none
    both : (b : Bool) (v : Option Value) → v ≡ None → cond b v None ≡ None
    both true v is = is
    both false v is = refl
