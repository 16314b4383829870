-- Stores of every version, and the same stores in the newest one.
use Rattle.std.proofs.Common.{◌≡◌, ◌∙◌, ℕ, ◌<◌, Bool, true, false, cond, nat_lt, refl, sym, ap, subst, arith}
use Rattle.std.proofs.lemmas.Bool.Decides.{nat_tests}
use Rattle.plain_graph.specs.Graph.{Graph}
use Rattle.rec_bytes.specs.Creation.{own_key, raised, raising_pairs}
use Rattle.rec_bytes.specs.Format.{index_file, meta_high, names_file, newest_version}
use Rattle.rec_bytes.specs.MetaForm.{IsMetaRight}
use Rattle.rec_bytes.specs.Record.{field, zeros}
use Rattle.rec_bytes.specs.RecordFiles.{meta_key_of}
use Rattle.rec_bytes.specs.Shape.{version_of}
use Rattle.rec_bytes.specs.Space.{laid_over}
use Rattle.rec_bytes.specs.declared.key.Key.{Key}
use Rattle.rec_bytes.specs.declared.meta.Meta.{Meta}
use Rattle.rec_bytes.specs.declared.record.Rec.{Rec}
use Rattle.rec_bytes.specs.declared.shape.Shape.{Shape}
use Rattle.rec_bytes.proofs.CreationPairs.{first_meta-says}
use Rattle.recovery.specs.Finding as finding
use Rattle.store_rules.specs.Graph.{graph_of, indexes_from}
use Rattle.store_rules.specs.Indexes.{IsIndexed}
use Rattle.store_rules.specs.Ranges.{AreInRange}
use Rattle.store_rules.specs.Views.{high, kind_in, rec_at}
use Rattle.store_rules.proofs.MetaRights.{metas_right}
use Rattle.stored_graph.specs.Versions.{IsIndexedIn}

module _ (space : Key → Rec) (shape : Shape) (are : AreInRange space shape) where
  -- the records of a store say the newest version
  pub newest-not_old : ¬ (version_of (space own_key) < newest_version)
  newest-not_old old = let newest : version_of (space own_key) ≡ newest_version = are.newest in omega (arith, old, newest)

  -- recovery finds it
  pub newest-made : finding.IsMade space shape
  newest-made = record {
    own = are.own;
    metas = λ id low. subst (λ (version : ℕ). IsMetaRight version shape id (space (meta_key_of id))) (sym are.newest) (metas_right space shape are id low);
  }

  -- and it stays as it is
  pub newest-raised : raised shape space ≡ space
  newest-raised =
      let newest : version_of (space own_key) ≡ newest_version = are.newest in
      ap (λ (version : ℕ). cond (nat_lt version newest_version) (laid_over space (raising_pairs shape)) space) newest

-- so it is a store of a known version
pub newest-indexed : (space : Key → Rec) (shape : Shape) → IsIndexed space shape → IsIndexedIn space shape
newest-indexed space shape store = record {
  made = newest-made space shape store.store.ranges;
  store = subst (λ (records : Key → Rec). IsIndexed records shape) (sym (newest-raised space shape store.store.ranges)) store;
}

-- before the version that brings the index its meta record says that nothing was given out
blank_high : field 4 zeros meta_high ≡ 0
unfolding field
blank_high = refl

-- the graph of a store is the same in the newest version: one that is older has no index
pub graph_of-raised : (shape : Shape) (space : Key → Rec) → finding.IsMade space shape → graph_of (raised shape space) ≡ graph_of space
graph_of-raised shape space made = pick (nat_lt (version_of (space own_key)) newest_version) refl
  where
    -- the graph with the indexes below a mark
    below : ℕ → Graph
    below mark = record (graph_of space) {
      indexes = indexes_from (λ x. kind_in mark (rec_at space index_file x) x) (rec_at space index_file) mark (rec_at space names_file) (high space names_file);
    }

    pick : (old : Bool) → nat_lt (version_of (space own_key)) newest_version ≡ old
        → graph_of (cond old (laid_over space (raising_pairs shape)) space) ≡ graph_of space
    pick true is =
        let blank : space (meta_key_of index_file) ≡ zeros = (made.metas index_file (omega arith)).before (grind (arith, nat_tests)) in
        ap below (ap (λ (m : Meta). m.high) (first_meta-says index_file) ∙ sym (ap (λ (r : Rec). field 4 r meta_high) blank ∙ blank_high))
    pick false is = refl
