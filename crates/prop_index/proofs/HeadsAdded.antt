-- One record of heads more of a definition.
use Rattle.std.proofs.Common.{◌≡◌, ◌≢◌, ⊎_elim, ℕ, zero, suc, ◌+◌, ◌*◌, ◌<◌, ◌≤◌, ◌^◌, ◌∷◌, length, refl, ap, sym, ◌∙◌, inl, inr, arith}
use Rattle.std.proofs.lemmas.Bool.{cases_lt}
use Rattle.rec_bytes.specs.declared.record.Rec.{Rec}
use Rattle.rec_bytes.specs.Format as format
use Rattle.rec_bytes.specs.Record.{with_field}
use Rattle.rec_bytes.specs.Space.{State}
use Rattle.rec_bytes.proofs.Numbers.{field-with_field_other, field-with_field_same}
use Rattle.store_rules.specs.Chains.{In}
use Rattle.store_rules.specs.Indexes.{index_rec}
use Rattle.store_rules.specs.Views.{high, kind_at}
use Rattle.store_rules.proofs.MetaLaws.{high_fits}
use Rattle.prop_index.specs.Defining.{AreHeadsAdded, IsRecordAdded}
use Rattle.prop_index.specs.DefinitionRecord.{empty_heads, head_ids, head_of}
use Rattle.prop_index.proofs.RecordFits.{empty_heads-kind, fits-empty_heads}
use Rattle.prop_index.proofs.RecordsAdded.{grows_then}
use Rattle.store_rules.specs.Rules.{IsWhole}

-- none yet
pub heads-none : (s : State) (start : Rec) → IsWhole s → AreHeadsAdded s s start 0 start
heads-none s start store = record {
  front = λ n at fits. refl;
  fresh = λ c lt. absurd (omega arith);
  here = λ c lt. absurd (omega arith);
  kind = λ c lt. absurd (omega arith);
  low = λ c lt. absurd (omega arith);
  once = λ c k lt. absurd (omega arith);
  kinds = λ y out. refl;
  records = λ y out. refl;
  grows = record { first = refl; more = omega arith; live = omega arith; shape = refl; others = λ q file meta. refl };
  kept = store;
}

-- ---- the record of the definition

abbrev pub with_head : Rec → ℕ → ℕ → Rec
with_head rec n id = with_field 4 rec (format.definition_heads + 4 * n) id

pub head-same : (rec : Rec) (n id : ℕ) → n < 12 → id < 2 ^ 32 → head_of (with_head rec n id) n ≡ id
head-same rec n id low small = field-with_field_same 4 rec (format.definition_heads + 4 * n) id (omega arith) small

pub head-other : (rec : Rec) (n id c : ℕ) → n < 12 → c < n → head_of (with_head rec n id) c ≡ head_of rec c
head-other rec n id c low lt = field-with_field_other 4 rec (format.definition_heads + 4 * n) id 4 (format.definition_heads + 4 * c) (omega arith)
    (inr (omega arith))

pub head_ids-other : (rec : Rec) (n id m : ℕ) → n < 12 → m ≤ n → head_ids m (with_head rec n id) ≡ head_ids m rec
head_ids-other rec n id zero low le = refl
head_ids-other rec n id (suc m) low le = λ i. head-other rec n id m low (omega arith) i ∷ head_ids-other rec n id m low (omega arith) i

pub head_ids-more : (rec : Rec) (n id : ℕ) → n < 12 → id < 2 ^ 32 → head_ids (suc n) (with_head rec n id) ≡ id ∷ head_ids n rec
head_ids-more rec n id low small = λ i. head-same rec n id low small i ∷ head_ids-other rec n id n low (omega arith) i

pub length-head_ids : (n : ℕ) (rec : Rec) → length (head_ids n rec) ≡ n
length-head_ids zero rec = refl
length-head_ids (suc n) rec = ap suc (length-head_ids n rec)

pub head-in : (n : ℕ) (rec : Rec) (c : ℕ) → c < n → In (head_of rec c) (head_ids n rec)
head-in zero rec c lt = absurd (omega arith)
head-in (suc n) rec c lt = ⊎_elim (λ (u : c < n). inr (head-in n rec c u)) (λ (u : n ≤ c). let e : c ≡ n = omega arith in inl (ap (head_of rec) e))
    (cases_lt c n)

-- ---- the store

module _ (s m t : State) (start rec : Rec) (n id : ℕ) (low : n < 12) (old : AreHeadsAdded s m start n rec) (new : IsRecordAdded m t empty_heads id) where
  abbrev now : Rec
  now = with_head rec n id

  small : id < 2 ^ 32
  small = let a = new.low in let b = high_fits t.records format.index_file in omega (arith, a, b)

  here_is : head_of now n ≡ id
  here_is = head-same rec n id low small

  there_is : (c : ℕ) → c < n → head_of now c ≡ head_of rec c
  there_is c lt = head-other rec n id c low lt

  -- one of the first heads, or the new one
  cases : {P : Type 0} (c : ℕ) → c < n + 1 → (c < n → P) → (c ≡ n → P) → P
  cases c lt there here = ⊎_elim (λ (u : c < n). there u) (λ (u : n ≤ c). here (omega arith)) (cases_lt c n)

  not_new : (c : ℕ) → c < n → head_of rec c ≢ id
  not_new c lt e = let k = old.kind c lt in let f = new.fresh in let q = ap (kind_at m.records format.index_file) e in omega (arith, k, f, q)

  id_fresh : kind_at s.records format.index_file id ≡ format.free_kind
  id_fresh = sym (old.kinds id (λ c lt e. not_new c lt (sym e))) ∙ new.fresh

  out_of : (y : ℕ) → ((c : ℕ) → c < n + 1 → y ≢ head_of now c) → (y ≢ id) × ((c : ℕ) → c < n → y ≢ head_of rec c)
  out_of y out = ((λ e. out n (omega arith) (e ∙ sym here_is)), (λ c lt e. out c (omega arith) (e ∙ sym (there_is c lt))))

  pub heads-more : AreHeadsAdded s t start (n + 1) now
  heads-more = record {
    front = λ k at fits. field-with_field_other 4 rec (format.definition_heads + 4 * n) id k at (omega arith) (inr (omega arith)) ∙ old.front k at fits;
    fresh = λ c lt. cases c lt
        (λ u. ap (kind_at s.records format.index_file) (there_is c u) ∙ old.fresh c u)
        (λ e. ap (λ z. kind_at s.records format.index_file (head_of now z)) e ∙ ap (kind_at s.records format.index_file) here_is ∙ id_fresh);
    here = λ c lt. cases c lt
        (λ u. ap (index_rec t.records) (there_is c u) ∙ new.records (head_of rec c) (not_new c u) ∙ old.here c u)
        (λ e. ap (λ z. index_rec t.records (head_of now z)) e ∙ ap (index_rec t.records) here_is ∙ new.here);
    kind = λ c lt. cases c lt
        (λ u. ap (kind_at t.records format.index_file) (there_is c u) ∙ new.kinds (head_of rec c) (not_new c u) ∙ old.kind c u)
        (λ e. ap (λ z. kind_at t.records format.index_file (head_of now z)) e ∙ ap (kind_at t.records format.index_file) here_is ∙ new.kind ∙ empty_heads-kind);
    low = λ c lt. cases c lt
        (λ u. let a = there_is c u in let b = old.low c u in let d = new.grows.more in omega (arith, a, b, d))
        (λ e. let a = ap (head_of now) e in let b = here_is in let d = new.low in omega (arith, a, b, d));
    once = λ c k lt le q. cases c lt
        (λ u. cases k le
        (λ v. old.once c k u v (sym (there_is c u) ∙ q ∙ there_is k v))
        (λ e. absurd (not_new c u (sym (there_is c u) ∙ q ∙ ap (head_of now) e ∙ here_is))))
        (λ e. cases k le
        (λ v. absurd (not_new k v (sym (there_is k v) ∙ sym q ∙ ap (head_of now) e ∙ here_is)))
        (λ f. e ∙ sym f));
    kinds = λ y out. let o = out_of y out in new.kinds y o.0 ∙ old.kinds y o.1;
    records = λ y out. let o = out_of y out in new.records y o.0 ∙ old.records y o.1;
    grows = grows_then s m t n 1 (n + 1) refl old.grows new.grows;
    kept = new.kept (fits-empty_heads (high t.records)) (λ q. let k = empty_heads-kind in absurd (omega (arith, k, q)));
  }
