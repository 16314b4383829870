use Rattle.std.proofs.Common.{rules, ◌≡◌, ◌≢◌, ◌%◌, ◌∙◌, ◌∷◌, ◌++◌, [], ℕ, List, ap, sym}
use Rattle.rec_bytes.specs.Format as format
use Rattle.store_rules.specs.Indexes.{heads_of}
use Rattle.store_rules.specs.Views.{kind_at}
use Rattle.index_check.specs.Definitions.{definition_of}
use Rattle.index_check.specs.HeadRecords.{IsHeadItem, IsHeadRead}
use Rattle.index_check.proofs.head_records.HeadRecordsHeads.list.Goals as goal

pub returns-in-Ok-clause-told : goal.returns-in-Ok-clause-told
returns-in-Ok-clause-told g c = λ tells.
    let records = (g.R.Reads.state c.args.space.now).records in
    let self = c.args.self.now in
    let k = c.args.id in
    let read : IsHeadRead records (definition_of 12 self.ids.now k) (k % 12) c.in-Some.head = search (rules, c.in_ok-head.ensures.found tells) in
    let are : c.push.new.self.items ≡ heads_of records (definition_of 12 self.ids.now k) (k % 12) ∷ []
    = c.in-Ok.ensures.items ∙ ap (λ xs. xs ++ c.in-Some.head.id ∷ []) c.new-items.ensures.items ∙ ap (λ x. x ∷ []) read.id_is in
    let item : IsHeadItem records self.ids.now k c.push.new.self.items = record { kind = read.kind; are = are } in
    (tt, item, (λ (xs : List ℕ) (h : IsHeadItem records self.ids.now k xs). h.are ∙ sym are))

pub returns-in-None-clause-told : goal.returns-in-None-clause-told
returns-in-None-clause-told g c = λ tells.
    let records = (g.R.Reads.state c.args.space.now).records in
    let self = c.args.self.now in
    let k = c.args.id in
    let none : kind_at records format.index_file (heads_of records (definition_of 12 self.ids.now k) (k % 12)) ≢ format.heads =
    search (rules, c.in_ok-head.ensures.none tells) in
    (tt, (λ (xs : List ℕ) (h : IsHeadItem records self.ids.now k xs). none h.kind))
