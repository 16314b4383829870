-- A change that met damage: its draft was dropped, and a broken record was looked for beneath it.
use Rattle.std.proofs.Common.{◌≡◌, ◌∙◌, ◌≤◌, ℕ, List, [], length, take, ap, inl, inr, sym, subst, arith}
use Rattle.std.proofs.lemmas.List.{append-nil}
use Rattle.disk_model.specs.declared.disk.Disk.{Ghosts}
use Rattle.plain_graph.specs.declared.command.Command.{Command}
use Rattle.rec_bytes.specs.declared.damage.Damage.{Damage}
use Rattle.rec_bytes.specs.declared.shape.Shape.{Shape}
use Rattle.store_rules.specs.Breaking.{BreaksAny}
use Rattle.store_rules.specs.Graph.{names_of}
use Rattle.store_rules.specs.Indexes.{IsIndexed}
use Rattle.store_rules.specs.Views.{Records}
use Rattle.name_store.specs.Again.{IsOtherName}
use Rattle.txn_core.specs.Base as base
use Rattle.txn_core.specs.OnlyReading.{only_reads_base_on}
use Rattle.txn_core.specs.Store.{drafted, working}
use Rattle.txn_core.specs.declared.base.Base.{Base}
use Rattle.txn_core.proofs.StoreRecords.{drafted-none, working-read}
use Rattle.graph_session.specs.ChangeDamage.{IsSeenDamage, IsToldAsFound}
use Rattle.graph_session.specs.Console.{HasNoDraft}
use Rattle.graph_session.specs.Drafting.{HasStore, IsBrokenBeneath, OnlyDrafts, ReadsBeneath}
use Rattle.graph_session.specs.Session.{view}
use Rattle.graph_session.specs.declared.session.Session.{Session}
use Rattle.graph_session.proofs.Held.{take-brought}

-- what a check says once the draft is dropped is so of what was beneath it
pub at-dropped : {D : Type 0} {g : Ghosts D} (P : Records → Shape → Type 0) (old new : Session D g) → new.store.draft.pairs ≡ []
    → new.store.base ≡ old.store.base → P (drafted new.store) new.store.base.shape → P (working old.store) old.store.base.shape
at-dropped {D = D} {g = g} P old new none same told =
    subst (λ (shape : Shape). P (working old.store) shape) (ap (λ (b : Base D g). b.shape) same)
    (subst (λ (records : Records). P records new.store.base.shape) (drafted-none new.store none ∙ ap (λ (b : Base D g). base.working b) same) told)

module _ {D : Type 0} {g : Ghosts D} {old mid : Session D g} (only : OnlyDrafts old mid) where
  pub names-dropped : (count : ℕ) → count ≡ length old.names.names → {new : Session D g} → ReadsBeneath count mid new → new.names.names ≡ old.names.names
  names-dropped count counts drops = drops.names ∙ ap (take count) only.brought.1 ∙ take-brought old.names.names only.brought.0 count counts

  -- but for reads the session is as it was
  pub drafts-dropped : (count : ℕ) → count ≡ length old.names.names → {new : Session D g} → ReadsBeneath count mid new
      → g.faults mid.store.base.disk.now ≤ g.faults new.store.base.disk.now → OnlyDrafts old new
  drafts-dropped count counts drops later = record {
    base = only_reads_base_on only.base drops.base;
    weight = drops.weight ∙ only.weight;
    health = drops.health ∙ only.health;
    snaps = drops.snaps ∙ only.snaps;
    brought = ([], names-dropped count counts drops ∙ sym (append-nil old.names.names));
    later = let early = only.later in omega (arith, early, later);
  }

  -- What breaks a rule beneath the draft does so in what the line sees. Where nothing does, the names are not those of the records: the call would blame
  -- nothing then.
  pub seen-beneath : (command : Command) → (HasStore old → ⊥) → (met damage : Damage)
      → (IsToldAsFound command old.names.names met → BreaksAny (drafted old.store) old.store.base.shape met) → (names : List (List ℕ))
      → names ≡ old.names.names → IsBrokenBeneath command names mid met damage → HasNoDraft (view old) → IsSeenDamage command (view old).console damage
  seen-beneath command lacks met damage found names kept beneath none = by beneath
    where
      same : working mid.store ≡ drafted old.store
      same = working-read old.store.base mid.store.base only.base ∙ sym (drafted-none old.store none)

      indexed : IsIndexed (working mid.store) mid.store.base.shape → IsIndexed (drafted old.store) old.store.base.shape
      indexed sound =
          subst (λ (shape : Shape). IsIndexed (drafted old.store) shape) only.base.shape
          (subst (λ (records : Records). IsIndexed records mid.store.base.shape) same sound)

      by : IsBrokenBeneath command names mid met damage → IsSeenDamage command (view old).console damage
      by (inl breaks) =
          inl (subst (λ (shape : Shape). BreaksAny (drafted old.store) shape damage) only.base.shape
          (subst (λ (records : Records). BreaksAny records mid.store.base.shape damage) same breaks))
      by (inr (inl (is, at_once))) =
          inl (subst (λ (d : Damage). BreaksAny (drafted old.store) old.store.base.shape d) (sym is)
          (found (subst (λ (known : List (List ℕ)). IsToldAsFound command known met) kept at_once)))
      by (inr (inr (may, sound, inl other))) = inr (
        may,
        indexed sound,
        subst (λ (known : List (List ℕ)). IsOtherName (drafted old.store) known damage) kept
            (subst (λ (records : Records). IsOtherName records names damage) same other),
      )
      by (inr (inr (may, sound, inr (named, is)))) =
          absurd (lacks (record { store = indexed sound; names = sym kept ∙ named ∙ ap names_of same }))
