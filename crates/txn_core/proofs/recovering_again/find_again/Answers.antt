use Rattle.std.proofs.Common.{◌≡◌, ◌∙◌, ◌⊎◌, sym, subst, inl, inr, ⊎_elim, refl}
use Rattle.std.proofs.lemmas.Result.{IfErr-weaker, on_ok_weaker}
use Rattle.disk_model.proofs.Spans.{at_each_moment_read, only_reads_on}
use Rattle.record_file.specs.Records.{record_at}
use Rattle.record_file.proofs.Redone.{Redoes-kept}
use Rattle.txn_core.specs.Again.{IsOld, RefusesAgain, own_damage}
use Rattle.txn_core.specs.declared.again_fault.AgainFault.TheVariants.{Disk, Damaged}
use Rattle.txn_core.proofs.Finding.{none_made, one_shape}
use Rattle.txn_core.proofs.Kept.{same_records}
use Rattle.txn_core.proofs.recovering_again.find_again.Given.{Over}
use Rattle.txn_core.proofs.recovering_again.find_again.Goals as goal
use Rattle.txn_core.specs.Opening.{HoldsStore}

-- the store that is found
store : (g : Over) (c : goal.After-read_same g) → g.D.Disk.tells_reads → HoldsStore (g.D.Disk.reads c.args.disk.now) c.in-Ok-Made.found
store g c reads =
    let intact = c.in-Ok-Made.ensures.intact reads in
    record { space = intact.0; redoes = intact.1; made = rw c.in-Ok-Made.field-0-is at (c.in-Ok-Made.ensures.found reads intact.0 intact.1) }

pub returns-in-Ok-Made-clause-crash : goal.returns-in-Ok-Made-clause-crash
returns-in-Ok-Made-clause-crash g c reads images space redoes =
    at_each_moment_read g.D.Disk c.args.disk.now c.recover.new.disk c.read_same.new.disk _ g.met.D.Disk.counts_now images
    (c.recover.ensures.crash reads images space redoes) c.read_same.ensures.only_reads

pub returns-in-Ok-Made-clause-read : goal.returns-in-Ok-Made-clause-read
returns-in-Ok-Made-clause-read g c reads space redoes =
    Redoes-kept space (g.D.Disk.reads c.recover.new.disk) (g.D.Disk.reads c.read_same.new.disk) (c.recover.ensures.read reads space redoes)
    c.read_same.ensures.only_reads.keeps

pub returns-in-Ok-Made-clause-space : goal.returns-in-Ok-Made-clause-space
returns-in-Ok-Made-clause-space g c reads space redoes =
    let mid = g.D.Disk.reads c.recover.new.disk in
    on_ok_weaker {P = c.in-Ok-Made.found ≡ c.args.shape} c.read_same.result
    (λ _. same_records mid (g.D.Disk.reads c.read_same.new.disk) c.read_same.ensures.only_reads.keeps ∙ c.in-Ok-Made.ensures.space reads space redoes)
    c.read_same.ensures.same

pub returns-in-Ok-Made-clause-store : goal.returns-in-Ok-Made-clause-store
returns-in-Ok-Made-clause-store g c reads =
    on_ok_weaker {P = c.in-Ok-Made.found ≡ c.args.shape} c.read_same.result (λ same. subst (HoldsStore (g.D.Disk.reads c.args.disk.now)) same (store g c reads))
    c.read_same.ensures.same

pub returns-in-Ok-Made-clause-refused : goal.returns-in-Ok-Made-clause-refused
returns-in-Ok-Made-clause-refused g c reads =
    let content = g.D.Disk.reads c.args.disk.now in
    let mid = record_at (g.D.Disk.reads c.recover.new.disk) in
    let made = store g c reads in
    let same : mid ≡ made.space = c.in-Ok-Made.ensures.space reads made.space made.redoes in
    IfErr-weaker c.read_same.result (λ fault. (fault ≡ Disk) ⊎ ((fault ≡ Damaged own_damage) × ((¬ (c.in-Ok-Made.found ≡ c.args.shape)) ⊎ IsOld mid)))
    (RefusesAgain content c.args.shape)
    (λ fault. ⊎_elim (λ is. subst (RefusesAgain content c.args.shape) (sym is) tt)
    (λ other. subst (RefusesAgain content c.args.shape) (sym other.0)
    (inr (refl, inr (inr (⊎_elim (λ differs. inl (c.in-Ok-Made.found, made, differs)) (λ old. inr (made.space, made.redoes, subst IsOld same old)) other.1))))))
    (c.read_same.ensures.other reads)

pub returns-in-Ok-Made-clause-sound : goal.returns-in-Ok-Made-clause-sound
returns-in-Ok-Made-clause-sound g c reads space redoes is newest =
    let content = g.D.Disk.reads c.args.disk.now in
    let mid = record_at (g.D.Disk.reads c.recover.new.disk) in
    let same = one_shape content space c.in-Ok-Made.found c.args.shape (store g c reads) redoes is in
    let records : mid ≡ space = c.in-Ok-Made.ensures.space reads space redoes in
    IfErr-weaker c.read_same.result (λ fault. (fault ≡ Disk) ⊎ ((fault ≡ Damaged own_damage) × ((¬ (c.in-Ok-Made.found ≡ c.args.shape)) ⊎ IsOld mid)))
    (λ fault. fault ≡ Disk)
    (λ fault. ⊎_elim (λ is. is) (λ other. absurd (⊎_elim (λ differs. differs (sym same)) (λ old. newest (subst IsOld records old)) other.1)))
    (c.read_same.ensures.other reads)

pub returns-in-Ok-Made-clause-careful : goal.returns-in-Ok-Made-clause-careful
returns-in-Ok-Made-clause-careful g c reads =
    let made = store g c reads in
    inr (made.space, made.redoes, inr (c.in-Ok-Made.found, made.made))

pub returns-in-Ok-Made-clause-newest : goal.returns-in-Ok-Made-clause-newest
returns-in-Ok-Made-clause-newest g c reads =
    let mid = g.D.Disk.reads c.recover.new.disk in
    let now = g.D.Disk.reads c.read_same.new.disk in
    let same : record_at now ≡ record_at mid = same_records mid now c.read_same.ensures.only_reads.keeps in
    on_ok_weaker {P = ¬ IsOld (record_at mid)} c.read_same.result (λ newest old. newest (subst IsOld same old)) (c.read_same.ensures.newest reads)

pub returns-in-Ok-Unmade-clause-refused : goal.returns-in-Ok-Unmade-clause-refused
returns-in-Ok-Unmade-clause-refused g c reads =
    let intact = c.in-Ok-Unmade.ensures.intact reads in
    let unmade = rw c.in-Ok-Unmade.field-0-is at (c.in-Ok-Unmade.ensures.found reads intact.0 intact.1) in
    inr (refl, inr (inl unmade))

pub returns-in-Ok-Unmade-clause-sound : goal.returns-in-Ok-Unmade-clause-sound
returns-in-Ok-Unmade-clause-sound g c reads space redoes is newest =
    let unmade = rw c.in-Ok-Unmade.field-0-is at (c.in-Ok-Unmade.ensures.found reads space redoes) in
    absurd (none_made (g.D.Disk.reads c.args.disk.now) c.args.shape unmade (record { space = space; redoes = redoes; made = is }))

pub returns-in-Err-NotAStore-clause-sound : goal.returns-in-Err-NotAStore-clause-sound
returns-in-Err-NotAStore-clause-sound g c reads space redoes is newest =
    let e = sym c.in-Err-NotAStore.field-0-is ∙ c.in-Err-NotAStore.ensures.sound reads space redoes (inr (c.args.shape, is)) in cc

pub returns-in-Err-Damaged-clause-sound : goal.returns-in-Err-Damaged-clause-sound
returns-in-Err-Damaged-clause-sound g c reads space redoes is newest =
    let e = sym c.in-Err-Damaged.field-0-is ∙ c.in-Err-Damaged.ensures.sound reads space redoes (inr (c.args.shape, is)) in cc

pub returns-in-Ok-Made-clause-clean : goal.returns-in-Ok-Made-clause-clean
returns-in-Ok-Made-clause-clean g c reads clean = only_reads_on g.D.Disk c.args.disk.now c.recover.new.disk c.read_same.new.disk
    (c.recover.ensures.closed reads clean) c.read_same.ensures.only_reads
