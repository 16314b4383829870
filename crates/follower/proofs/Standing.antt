-- What an opening finds on a follower's disk, and what it leaves.
use Rattle.std.proofs.Common.{◌≡◌, ◌∙◌, ap, sym, subst, inl, inr, ⊎_elim, ℕ, ◌≤◌, List, Option, None, Some, length, refl, unwrap_or}
use Rattle.disk_model.specs.Contents.{Files}
use Rattle.rec_bytes.specs.declared.key.Key.{Key}
use Rattle.rec_bytes.specs.declared.record.Rec.{Rec}
use Rattle.rec_bytes.specs.declared.shape.Shape.{Shape}
use Rattle.rec_bytes.specs.Creation.{creation_pairs, own_key, raised}
use Rattle.rec_bytes.specs.Format.{default_limit, default_threshold}
use Rattle.rec_bytes.specs.Shape.{shape_of_record}
use Rattle.rec_bytes.specs.Space.{laid_over}
use Rattle.recovery.specs.Finding.{IsMade}
use Rattle.record_file.specs.Redone.{Redoes}
use Rattle.stored_graph.specs.Stands.{IsZeros}
use Rattle.stored_graph.proofs.Versions.{newest-made, newest-not_old, newest-raised}
use Rattle.stored_graph.proofs.Zeros.{zeros-records, zeros-unmade}
use Rattle.txn_core.specs.Again.{IsOld}
use Rattle.txn_core.specs.Config.{IsAsked, Suits, shape_of}
use Rattle.txn_core.specs.Opening.{IsOldOrNew, IsOldOrRaised, Opens, made_over}
use Rattle.txn_core.specs.declared.config.Config.{Config}
use Rattle.txn_core.proofs.Finding.{none_made, redoes_unique}
use Rattle.follower.specs.Sent.{HoldsSent, IsBlank, IsSent}
use Rattle.follower.specs.Taken.{follower_records}
use Rattle.follower.proofs.Numbered.{follower_well}
use Rattle.follower.proofs.Taking.{follower_records-none}

some_same : {X : Type 0} (x y : X) → let one : Option X = Some x in one ≡ Some y → x ≡ y
some_same x y e = cc

-- the shape that the configuration asks for suits it
asked_else : (o : Option ℕ) (d : ℕ) → IsAsked o (unwrap_or o d)
asked_else None d = tt
asked_else (Some asked) d = refl

pub suits_itself : (config : Config) → Suits config (shape_of config)
suits_itself config = (asked_else config.threshold default_threshold, asked_else config.limit default_limit)

-- ---- a follower's records are a store of the newest version

module _ (shape : Shape) (sent : List (List ℕ)) (j : ℕ) (is : IsSent shape sent) (below : j ≤ length sent) where
  pub follower_made : IsMade (follower_records shape sent j) shape
  follower_made = newest-made (follower_records shape sent j) shape (follower_well shape sent j is below).store.ranges

  pub follower_not_old : ¬ IsOld (follower_records shape sent j)
  follower_not_old = newest-not_old (follower_records shape sent j) shape (follower_well shape sent j is below).store.ranges

  pub follower_raised : raised shape (follower_records shape sent j) ≡ follower_records shape sent j
  follower_raised = newest-raised (follower_records shape sent j) shape (follower_well shape sent j is below).store.ranges

  -- an opening leaves the same records
  pub left_redoes : (left : Files) → IsOldOrRaised shape (follower_records shape sent j) left → Redoes left (follower_records shape sent j)
  left_redoes left = ⊎_elim (λ redoes. redoes) (λ redoes. subst (Redoes left) follower_raised redoes)

-- ---- a disk of zeros

pub zeros_blank : (content : Files) → IsZeros content → IsBlank content
zeros_blank content all = record { unmade = zeros-unmade content all; records = zeros-records content all }

-- ---- what an opening finds

-- the records of a store that is made on a blank disk
made_over-blank : (content : Files) (shape : Shape) (sent : List (List ℕ)) → IsBlank content → made_over content shape ≡ follower_records shape sent 0
made_over-blank content shape sent blank =
    ap (λ (records : Key → Rec). laid_over records (creation_pairs shape)) blank.records ∙ sym (follower_records-none shape sent)

-- it finds as many as the content has
pub opens_as : (config : Config) (sent : List (List ℕ)) (content : Files) (j : ℕ) (found : Shape) (records : Key → Rec) → IsSent (shape_of config) sent
    → j ≤ length sent
    → HoldsSent (shape_of config) sent j content → Opens content config found records → (records ≡ follower_records (shape_of config) sent j)
    × (found ≡ shape_of config)
opens_as config sent content j found records is below (inl redoes) (inl new) =
    absurd (none_made content (shape_of config) new.0 (record {
      space = follower_records (shape_of config) sent j;
      redoes = redoes;
      made = follower_made
          (shape_of config) sent j is below;
    }))
opens_as config sent content j found records is below (inl redoes) (inr (before, was, store, suits, brought)) =
    let shape = shape_of config in
    let has = follower_records shape sent j in
    let same : before ≡ has = redoes_unique content before has was redoes in
    let shape_is : found ≡ shape = some_same found shape (sym store.own ∙ ap (λ (r : Key → Rec). shape_of_record (r own_key)) same ∙
    (follower_made shape sent j is below).own) in
    (brought ∙ ap (raised found) same ∙ ap (λ (s : Shape). raised s has) shape_is ∙ follower_raised shape sent j is below, shape_is)
opens_as config sent content j found records is below (inr blank) (inl new) = (
  new.2 ∙ ap (made_over content) new.1 ∙ made_over-blank content (shape_of config) sent blank.1 ∙ ap (follower_records (shape_of config) sent) (sym blank.0),
  new.1,
)
opens_as config sent content j found records is below (inr blank) (inr (before, was, store, suits, brought)) =
    absurd (none_made content found blank.1.unmade (record { space = before; redoes = was; made = store }))

-- what a stop leaves while an opening makes the store
pub old_or_new_taken : (shape : Shape) (sent : List (List ℕ)) (content left : Files) → IsBlank content → IsOldOrNew content shape left
    → HoldsSent shape sent 0 left
old_or_new_taken shape sent content left blank (inl old) = inr (refl, record { unmade = old.0; records = old.1 ∙ blank.records })
old_or_new_taken shape sent content left blank (inr new) = inl (subst (Redoes left) (made_over-blank content shape sent blank) new)
