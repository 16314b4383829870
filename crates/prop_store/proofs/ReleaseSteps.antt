-- One of several blocks is given back.
use Rattle.std.proofs.Common.{◌≡◌, ℕ, ◌+◌, ◌<◌, true, false, List, [], ◌∷◌, length, ap, refl, subst, sym, ◌∙◌, inl, inr, ⊎_elim, arith}
use Rattle.std.proofs.lemmas.Bool.{true≢false}
use Rattle.rec_bytes.specs.RecordFiles.{meta_key_of}
use Rattle.rec_bytes.specs.Format as format
use Rattle.rec_bytes.specs.Meta.{IsLinkBelow}
use Rattle.rec_bytes.specs.Space.{State, meta_in, meta_of}
use Rattle.rec_bytes.specs.declared.key.Key.{Key}
use Rattle.rec_bytes.specs.Key.{key_eq}
use Rattle.rec_bytes.proofs.KeyLaws.{key_eq-other}
use Rattle.rec_bytes.specs.declared.shape.Shape.{Shape}
use Rattle.store_rules.specs.Chains.{In}
use Rattle.store_rules.specs.Properties.{AreOnce}
use Rattle.store_rules.specs.PropertyChange.{ChangesFile}
use Rattle.store_rules.specs.Views.{Records, is_live, key_in}
use Rattle.id_freelist.specs.Giving.{CanGive, HasGiven, given}
use Rattle.id_freelist.specs.ListDamage.{HarmsNoList}
use Rattle.id_freelist.proofs.ListSteps.{give_harms_none, give_link, give_used, harms_none_then}
use Rattle.prop_store.specs.Blocks.{AreUsedOnce}
use Rattle.prop_store.specs.FileChange.{IsSameBeside}
use Rattle.prop_store.proofs.FileSteps.{IsPropertyFile, file_given, file_less, file_now, live_given}

-- Of the blocks these are left, none twice, and so many fewer are live.
pub record HasLeft (s t : Records) (shape : Shape) (file : ℕ) (blocks rest : List ℕ) (count : ℕ) : Type 0 where
  pub changes : ChangesFile s t shape file blocks rest
  pub once : AreOnce rest
  pub fewer : (meta_in t file).live + count ≡ (meta_in s file).live

pub none_given : (s : Records) (shape : Shape) (file : ℕ) (blocks : List ℕ) → AreOnce blocks → ChangesFile s s shape file blocks blocks
    → HasLeft s s shape file blocks blocks 0
none_given s shape file blocks once h = record { changes = h; once = once; fewer = omega arith }

pub one_given : (s : Records) (t u : State) (shape : Shape) (file : ℕ) (blocks whole rest : List ℕ) (id count more : ℕ) → IsPropertyFile file
    → whole ≡ id ∷ rest → more ≡ count + 1
    → ((free : List ℕ) → CanGive t file id free → HasGiven t.records u.records file id free) → HasLeft s t.records shape file blocks whole count
    → HasLeft s u.records shape file blocks rest more
one_given s t u shape file blocks whole rest id count more is e one gives left =
    let once : AreOnce (id ∷ rest) = subst AreOnce e left.once in
    let changes : ChangesFile s t.records shape file blocks (id ∷ rest) = subst (ChangesFile s t.records shape file blocks) e left.changes in
    let live : is_live t.records file id ≡ true = changes.live id (inl refl) in
    let now = file_now s t.records shape file blocks (id ∷ rest) changes [] (λ x i. elim i [ ]) in
    let has : HasGiven t.records u.records file id now.free = gives now.free
    (record { list = now.split.walk; fresh = λ i. true≢false (sym live ∙ now.split.only id i) }) in
    record {
      changes = file_less s t.records u.records shape file blocks [] (id ∷ []) rest (λ x i. elim i [ ])
          (λ x i. (changes.live x (inr i), λ j. ⊎_elim (λ (q : x ≡ id). once.0 (subst (λ z. In z rest) q i)) (λ (k : ⊥). k) j))
          changes (file_given t.records u.records shape file id [] [] is now live has);
      once = once.1;
      fewer = let l = live_given t.records u.records shape file id [] [] is now live has in let f = left.fewer in omega arith;
    }

-- Nothing beside the file changed.
pub beside_given : (s t : State) (file id : ℕ) → t ≡ given s file id → IsSameBeside file s.records t.records
beside_given s t file id is key out other =
    let not_meta : key_eq key (meta_key_of file) ≡ false = key_eq-other key (meta_key_of file) other in
    let not_here : key_eq key (key_in file id) ≡ false = key_eq-other key (key_in file id) (λ e. out (ap (λ (k : Key). k.file) e)) in
    ap (λ (z : State). z.records key) is ∙ rw (not_meta, not_here) refl

-- Nothing more is wrong with their list, the blocks that are left are in use, and the first free one may stand there.
pub record LeavesLinked (s t : State) (blocks rest : List ℕ) : Type 0 where
  pub harmless : HarmsNoList s t format.strings_file
  pub left : AreUsedOnce t.records rest
  pub link : 0 < length blocks → IsLinkBelow (meta_of t format.strings_file).free (meta_of t format.strings_file).high

pub one_linked : (s t u : State) (blocks whole rest : List ℕ) (id : ℕ) → 0 < length blocks → whole ≡ id ∷ rest → id < format.most_ids
    → u ≡ given t format.strings_file id → LeavesLinked s t blocks whole → LeavesLinked s u blocks rest
one_linked s t u blocks whole rest id some e few now left =
    let both : AreUsedOnce t.records (id ∷ rest) = subst (AreUsedOnce t.records) e left.left in
    let used = both.used id (inl refl) in
    let link = left.link some in
    record {
      harmless = harms_none_then s t u format.strings_file left.harmless (give_harms_none t u format.strings_file id refl now few used link);
      left = record {
        once = both.once.1;
        used = λ b i. give_used t u format.strings_file id refl now few used link b (λ q. both.once.0 (subst (λ z. In z rest) q i)) (both.used b (inr i));
      };
      link = λ _. give_link t u format.strings_file id refl now few used link;
    }
