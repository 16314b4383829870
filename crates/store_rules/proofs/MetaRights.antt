-- Where a store keeps the first rule each record of its meta file is right.
use Rattle.std.proofs.Common.{ℕ, zero, suc, ◌<◌, refl, arith}
use Rattle.rec_bytes.specs.declared.shape.Shape.{Shape}
use Rattle.rec_bytes.specs.Format as format
use Rattle.store_rules.specs.Breaking.{IsMetaKept}
use Rattle.store_rules.specs.Ranges.{AreInRange}
use Rattle.store_rules.specs.Views.{Records}

pub metas_right : (records : Records) (shape : Shape) → AreInRange records shape → (id : ℕ) → id < format.meta_records → IsMetaKept records shape id
metas_right records shape h zero low = tt
metas_right records shape h (suc zero) low = h.metas 1 refl
metas_right records shape h (suc (suc zero)) low = h.metas 2 refl
metas_right records shape h (suc (suc (suc zero))) low = h.metas 3 refl
metas_right records shape h (suc (suc (suc (suc zero)))) low = h.metas 4 refl
metas_right records shape h (suc (suc (suc (suc (suc zero))))) low = h.metas 5 refl
metas_right records shape h (suc (suc (suc (suc (suc (suc zero)))))) low = h.metas 6 refl
metas_right records shape h (suc (suc (suc (suc (suc (suc (suc zero))))))) low = h.taken
metas_right records shape h (suc (suc (suc (suc (suc (suc (suc (suc zero)))))))) low =
    record { before = λ old. absurd (omega (arith, old)); since = λ _. h.metas 8 refl }
metas_right records shape h (suc (suc (suc (suc (suc (suc (suc (suc (suc k))))))))) low = absurd (omega (arith, low))
