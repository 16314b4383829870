-- What a run answers where it stops.
use Rattle.std.proofs.Common.{◌≡◌, ◌∙◌, None, Option, Some, refl, sym, subst}
use Rattle.plain_graph.specs.declared.item.Item.{Item}
use Rattle.rec_bytes.specs.declared.shape.Shape.{Shape}
use Rattle.store_rules.specs.Breaking.{Breaks}
use Rattle.store_rules.specs.Views.{Records}
use Rattle.traversal_run.specs.Run.{IfDamaged, IfItem, answer_of, stop_in}
use Rattle.traversal_run.specs.Stop.{MayStop, StopsAtBroken}
use Rattle.traversal_run.specs.declared.run.Next.{Next}
use Rattle.traversal_run.specs.declared.run.Next.TheVariants as nexts
use Rattle.traversal_run.specs.declared.stop.Stop.{Stop}
use Rattle.traversal_run.specs.declared.stop.Stop.TheVariants as stops

-- no result
pub no_item : (P : Item → Type 0) (stop : Stop) (next : Next) → next ≡ answer_of stop → IfItem next P
no_item P stop next is = subst (λ (n : Next). IfItem n P) (sym is) (by stop)
  where
    by : (s : Stop) → IfItem (answer_of s) P
    by stops.End = tt
    by stops.Memory = tt
    by stops.Disk = tt
    by (stops.Damaged damage) = tt
    by stops.PastCount = tt

-- the answer for good
pub told_stop : (stop : Stop) (next : Next) → next ≡ answer_of stop → Some (answer_of stop) ≡ stop_in next
told_stop stop next is = subst (λ (n : Next). Some (answer_of stop) ≡ stop_in n) (sym is) (by stop)
  where
    by : (s : Stop) → Some (answer_of s) ≡ stop_in (answer_of s)
    by stops.End = refl
    by stops.Memory = refl
    by stops.Disk = refl
    by (stops.Damaged damage) = refl
    by stops.PastCount = refl

-- the end, where all was given
pub end_told : (ended past : Type 0) (stop : Stop) (next : Next) → next ≡ answer_of stop → MayStop ended past stop → next ≡ nexts.End → ended
end_told ended past stop next is may end = by stop may (sym is ∙ end)
  where
    by : (s : Stop) → MayStop ended past s → answer_of s ≡ nexts.End → ended
    by stops.End all e = all
    by stops.Memory all e = absurd cc
    by stops.Disk all e = absurd cc
    by (stops.Damaged damage) all e = absurd cc
    by stops.PastCount all e = absurd cc

-- a count that passes
pub past_told : (ended past : Type 0) (stop : Stop) (next : Next) → next ≡ answer_of stop → MayStop ended past stop → next ≡ nexts.PastCount → past
past_told ended past stop next is may passed = by stop may (sym is ∙ passed)
  where
    by : (s : Stop) → MayStop ended past s → answer_of s ≡ nexts.PastCount → past
    by stops.End all e = absurd cc
    by stops.Memory all e = absurd cc
    by stops.Disk all e = absurd cc
    by (stops.Damaged damage) all e = absurd cc
    by stops.PastCount all e = all

-- damage
pub damage_told : (records : Records) (shape : Shape) (stop : Stop) (next : Next) → next ≡ answer_of stop → StopsAtBroken records shape stop
    → IfDamaged next (Breaks records shape)
damage_told records shape stop next is broken = subst (λ (n : Next). IfDamaged n (Breaks records shape)) (sym is) (by stop broken)
  where
    by : (s : Stop) → StopsAtBroken records shape s → IfDamaged (answer_of s) (Breaks records shape)
    by stops.End b = tt
    by stops.Memory b = tt
    by stops.Disk b = tt
    by (stops.Damaged damage) b = b
    by stops.PastCount b = tt

-- a disk that failed
pub disk_told : (stop : Stop) (next : Next) → next ≡ answer_of stop → next ≡ nexts.Disk → stop ≡ stops.Disk
disk_told stop next is failed = by stop (sym is ∙ failed)
  where
    by : (s : Stop) → answer_of s ≡ nexts.Disk → s ≡ stops.Disk
    by stops.End e = absurd cc
    by stops.Memory e = absurd cc
    by stops.Disk e = refl
    by (stops.Damaged damage) e = absurd cc
    by stops.PastCount e = absurd cc

pub none_told : (stop : Stop) (told : Option Next) → told ≡ Some (answer_of stop) → told ≡ None → ⊥
none_told stop told is none = let clash : Some (answer_of stop) ≡ None = sym is ∙ none in cc

pub same_told : (stop : Stop) (next : Next) (told : Option Next) → told ≡ Some (answer_of stop) → told ≡ Some next → answer_of stop ≡ next
same_told stop next told is same = let both : Some (answer_of stop) ≡ Some next = sym is ∙ same in cc
