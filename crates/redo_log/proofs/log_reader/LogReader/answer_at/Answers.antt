use Rattle.std.proofs.Common.{◌≡◌, true, arith, refl}
use Rattle.std.proofs.lemmas.Bool.{false≢true}
use Rattle.redo_log.proofs.EntryForms.{is_entry, entry_size, entry_rises}
use Rattle.rec_bytes.proofs.Causes.{never_ok}
use Rattle.redo_log.proofs.log_reader.LogReader.answer_at.Goals as goal

pub returns-then-not-head-clause-tells : goal.returns-then-not-head-clause-tells
returns-then-not-head-clause-tells g c = λ told content has one.
    let head = c.bytes_at.ensures.bytes content (c.cover.ensures.keeps told content has).kept in
    let open_gate : c.head_of-head.result.is_open ≡ true = (c.head_of-head.ensures.gate content c.args.place head).1 one in
    cc

pub returns-then-not-is_entry_size-clause-tells : goal.returns-then-not-is_entry_size-clause-tells
returns-then-not-is_entry_size-clause-tells g c = λ told content has.
    let head = c.bytes_at.ensures.bytes content (c.cover.ensures.keeps told content has).kept in
    let count = c.head_of-head.ensures.count content c.args.place head in (
      refl,
      (
        (c.head_of-head.ensures.gate content c.args.place head).0 (cc),
        λ entry. false≢true (c.if-not-is_entry_size.ensures.1
            (entry_size content c.args.place c.head_of-head.result.count count entry)),
      ),
    )

pub returns-in_err-has_entry_keys-clause-keeps : goal.returns-in_err-has_entry_keys-clause-keeps
returns-in_err-has_entry_keys-clause-keeps g c = λ told content has. c.has_entry_keys.ensures.keeps told content (c.cover.ensures.keeps told content has)

pub returns-then-not-branch-clause-tells : goal.returns-then-not-branch-clause-tells
returns-then-not-branch-clause-tells g c = λ told content has.
    let covered = c.cover.ensures.keeps told content has in
    let head = c.bytes_at.ensures.bytes content covered.kept in
    let count = c.head_of-head.ensures.count content c.args.place head in
    let decides = c.in_ok-has_entry_keys.ensures.keys told content covered in (
      refl,
      (
        (c.head_of-head.ensures.gate content c.args.place head).0 (cc),
        λ entry.
            let rising : c.in_ok-has_entry_keys.field-0 ≡ true = decides.1 (entry_rises content c.args.place c.head_of-head.result.count count entry) in
            cc,
      ),
    )

pub returns-then-not-branch-clause-keeps : goal.returns-then-not-branch-clause-keeps
returns-then-not-branch-clause-keeps g c = λ told content has. c.has_entry_keys.ensures.keeps told content (c.cover.ensures.keeps told content has)

pub returns-clause-tells : goal.returns-clause-tells
returns-clause-tells g c = λ told content has.
    let covered = c.cover.ensures.keeps told content has in
    let head = c.bytes_at.ensures.bytes content covered.kept in
    let count = c.head_of-head.ensures.count content c.args.place head in
    let rising = (c.in_ok-has_entry_keys.ensures.keys told content covered).0 (cc) in (
      is_entry content c.args.place c.head_of-head.result.count ((c.head_of-head.ensures.gate content c.args.place head).0 (cc)) count
          (c.if-not-is_entry_size.ensures.0 (cc)) rising,
      count,
      omega arith,
    )

pub returns-clause-keeps : goal.returns-clause-keeps
returns-clause-keeps g c = λ told content has. c.has_entry_keys.ensures.keeps told content (c.cover.ensures.keeps told content has)

pub returns-in_err-cover-clause-tells : goal.returns-in_err-cover-clause-tells
returns-in_err-cover-clause-tells g c _ _ _ = never_ok c.from_residual.result _ _ c.from_residual.ensures.1

pub returns-in_err-cover-clause-in_log : goal.returns-in_err-cover-clause-in_log
returns-in_err-cover-clause-in_log g c = never_ok c.from_residual.result _ _ c.from_residual.ensures.1

pub returns-in_err-cover-clause-known : goal.returns-in_err-cover-clause-known
returns-in_err-cover-clause-known g c = never_ok c.from_residual.result _ _ c.from_residual.ensures.1

pub returns-in_err-has_entry_keys-clause-tells : goal.returns-in_err-has_entry_keys-clause-tells
returns-in_err-has_entry_keys-clause-tells g c _ _ _ = never_ok c.from_residual-in_err-has_entry_keys.result _ _ c.from_residual-in_err-has_entry_keys.ensures.1

pub returns-in_err-has_entry_keys-clause-in_log : goal.returns-in_err-has_entry_keys-clause-in_log
returns-in_err-has_entry_keys-clause-in_log g c = never_ok c.from_residual-in_err-has_entry_keys.result _ _ c.from_residual-in_err-has_entry_keys.ensures.1

pub returns-in_err-has_entry_keys-clause-known : goal.returns-in_err-has_entry_keys-clause-known
returns-in_err-has_entry_keys-clause-known g c = never_ok c.from_residual-in_err-has_entry_keys.result _ _ c.from_residual-in_err-has_entry_keys.ensures.1
