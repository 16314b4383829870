use Rattle.std.proofs.Common.{rules, arith, ◌≡◌, ◌<◌, ◌∙◌, ℕ, List, map, true, false, ap, sym, subst}
use Rattle.std.proofs.lemmas.Bool.{true≢false}
use Rattle.rec_bytes.specs.Format as format
use Rattle.rec_bytes.specs.Record.{field}
use Rattle.store_rules.specs.Views.{Records, high}
use Rattle.store_rules.specs.Breaking.{IsLong, block_size, first_block, text_size}
use Rattle.record_lists.specs.Lines.{IsLineIn}
use Rattle.store_check.specs.Pieces.{AreLengths}
use Rattle.store_check.specs.Texts.{block_line}
use Rattle.record_lists.proofs.RecordLaws.{kind_read}
use Rattle.store_rules.proofs.PropertyHolds.{blocks_one}
use Rattle.store_check.proofs.TextLaws.{IsIt, blocks_of, no_blocks, wrong_blocks}
use Rattle.record_lists.proofs.Causes.{cause_passed}
use Rattle.record_lists.proofs.OnlyReads.{is_read-get, is_read-on}
use Rattle.rec_bytes.proofs.Causes.{ok_cause}
use Rattle.store_check.proofs.texts.TextHeadsHeads.list.Goals as goal

pub returns-then-byte-ne-TEXT_IN_BLOCKS-clause-told : goal.returns-then-byte-ne-TEXT_IN_BLOCKS-clause-told
returns-then-byte-ne-TEXT_IN_BLOCKS-clause-told g c = λ tells is.
    let records = (g.R.Reads.state c.args.space.now).records in
    let lt : c.args.id < high records format.properties_file = omega (arith, c.requires.id, c.requires.suits.properties) in
    let kind = kind_read records format.properties_file c.args.id c.in_ok-rec.rec lt (c.in_ok-rec.ensures.got tells) in
    c.if-byte-ne-TEXT_IN_BLOCKS.true (c.byte.ensures ∙ sym kind ∙ is)

pub returns-in_default-clause-told : goal.returns-in_default-clause-told
returns-in_default-clause-told g c = λ tells.
    let records = (g.R.Reads.state c.args.space.now).records in
    let lt : c.args.id < high records format.properties_file = omega (arith, c.requires.id, c.requires.suits.properties) in
    let got = c.in_ok-rec.ensures.got tells in
    let long : IsLong records c.args.id = kind_read records format.properties_file c.args.id c.in_ok-rec.rec lt got ∙ sym c.byte.ensures
    ∙ c.if-byte-ne-TEXT_IN_BLOCKS.false in
    let first : c.number-first.result ≡ first_block records c.args.id = c.number-first.ensures ∙ ap (λ r. field 4 r format.property_first_block) got in
    let read = ap (λ s. s.records) c.in_ok-rec.ensures.state in
    let none : (xs : List ℕ) → ¬ IsLineIn block_line (g.R.Reads.state c.get.new.self).records c.args.self.now.blocks c.number-first.result xs =
    search (rules, c.in_ok-ids.ensures.none tells) in
    let none2 : (xs : List ℕ) → ¬ IsLineIn block_line records c.args.self.now.blocks c.number-first.result xs =
    subst (λ (r : Records). (xs : List ℕ) → ¬ IsLineIn block_line r c.args.self.now.blocks c.number-first.result xs) read none in
    let none3 : (xs : List ℕ) → ¬ IsIt records c.args.id xs = subst (λ f. (xs : List ℕ) → ¬ IsLineIn block_line records (high records format.strings_file) f xs)
    first (subst (λ m. (xs : List ℕ) → ¬ IsLineIn block_line records m c.number-first.result xs) c.requires.suits.blocks none2) in
    (long, no_blocks records c.args.id none3)

pub returns-then-not-are_pieces-clause-told : goal.returns-then-not-are_pieces-clause-told
returns-then-not-are_pieces-clause-told g c = λ tells.
    let records = (g.R.Reads.state c.args.space.now).records in
    let ids = c.in-Some.ids.items in
    let lt : c.args.id < high records format.properties_file = omega (arith, c.requires.id, c.requires.suits.properties) in
    let got = c.in_ok-rec.ensures.got tells in
    let long : IsLong records c.args.id = kind_read records format.properties_file c.args.id c.in_ok-rec.rec lt got ∙ sym c.byte.ensures
    ∙ c.if-byte-ne-TEXT_IN_BLOCKS.false in
    let first : c.number-first.result ≡ first_block records c.args.id = c.number-first.ensures ∙ ap (λ r. field 4 r format.property_first_block) got in
    let read = ap (λ s. s.records) c.in_ok-rec.ensures.state in
    let found : IsLineIn block_line (g.R.Reads.state c.get.new.self).records c.args.self.now.blocks c.number-first.result ids =
    search (rules, c.in_ok-ids.ensures.found tells) in
    let it : IsIt records c.args.id ids = subst (λ f. IsLineIn block_line records (high records format.strings_file) f ids) first
    (subst (λ m. IsLineIn block_line records m c.number-first.result ids) c.requires.suits.blocks
    (subst (λ (r : Records). IsLineIn block_line r c.args.self.now.blocks c.number-first.result ids) read found)) in
    let same = c.in_ok-ids.ensures.read.records ∙ read in
    let lengths : c.deref-2.result.now ≡ map (block_size records) ids
    = c.deref-2.ensures.value ∙ c.in_ok-lengths.ensures.lengths tells ∙ ap (λ (r : Records). map (block_size r) c.deref.result.now) same
    ∙ ap (map (block_size records)) c.deref.ensures.value in
    let text : c.short.result ≡ text_size records c.args.id = c.short.ensures ∙ ap (λ r. field 2 r format.property_length) got in
    let no : c.are_pieces.result ≡ false = search rules in (
      long,
      wrong_blocks records c.args.id c.requires.suits.few_blocks ids it
          (λ l. true≢false (sym (c.are_pieces.ensures.1 (subst (λ t. AreLengths t c.deref-2.result.now) (sym text)
          (subst (AreLengths (text_size records c.args.id)) (sym lengths) l))) ∙ no)),
    )

pub returns-clause-told : goal.returns-clause-told
returns-clause-told g c = λ tells.
    let records = (g.R.Reads.state c.args.space.now).records in
    let ids = c.in-Some.ids.items in
    let lt : c.args.id < high records format.properties_file = omega (arith, c.requires.id, c.requires.suits.properties) in
    let got = c.in_ok-rec.ensures.got tells in
    let long : IsLong records c.args.id = kind_read records format.properties_file c.args.id c.in_ok-rec.rec lt got ∙ sym c.byte.ensures
    ∙ c.if-byte-ne-TEXT_IN_BLOCKS.false in
    let first : c.number-first.result ≡ first_block records c.args.id = c.number-first.ensures ∙ ap (λ r. field 4 r format.property_first_block) got in
    let read = ap (λ s. s.records) c.in_ok-rec.ensures.state in
    let found : IsLineIn block_line (g.R.Reads.state c.get.new.self).records c.args.self.now.blocks c.number-first.result ids =
    search (rules, c.in_ok-ids.ensures.found tells) in
    let it : IsIt records c.args.id ids = subst (λ f. IsLineIn block_line records (high records format.strings_file) f ids) first
    (subst (λ m. IsLineIn block_line records m c.number-first.result ids) c.requires.suits.blocks
    (subst (λ (r : Records). IsLineIn block_line r c.args.self.now.blocks c.number-first.result ids) read found)) in
    let same = c.in_ok-ids.ensures.read.records ∙ read in
    let lengths : c.deref-2.result.now ≡ map (block_size records) ids
    = c.deref-2.ensures.value ∙ c.in_ok-lengths.ensures.lengths tells ∙ ap (λ (r : Records). map (block_size r) c.deref.result.now) same
    ∙ ap (map (block_size records)) c.deref.ensures.value in
    let text : c.short.result ≡ text_size records c.args.id = c.short.ensures ∙ ap (λ r. field 2 r format.property_length) got in
    let yes : c.are_pieces.result ≡ true = search rules in
    let list = blocks_of records c.args.id c.requires.suits.few_blocks ids it
    (subst (AreLengths (text_size records c.args.id)) lengths (subst (λ t. AreLengths t c.deref-2.result.now) text (c.are_pieces.ensures.0 yes))) in
    (long, list, (λ xs h. blocks_one records c.args.id xs ids h list))

pub returns-in_err-ids-clause-read : goal.returns-in_err-ids-clause-read
returns-in_err-ids-clause-read g c =
    is_read-on g.R.Reads g.met.R.Reads.further_onward _ _ _ (is_read-get g.R.Reads _ _ c.in_ok-rec.ensures.state c.in_ok-rec.ensures.onward
    c.in_ok-rec.ensures.cause.later) c.in_err-ids.ensures.read

pub returns-in_default-clause-read : goal.returns-in_default-clause-read
returns-in_default-clause-read g c =
    is_read-on g.R.Reads g.met.R.Reads.further_onward _ _ _ (is_read-get g.R.Reads _ _ c.in_ok-rec.ensures.state c.in_ok-rec.ensures.onward
    c.in_ok-rec.ensures.cause.later) c.in_ok-ids.ensures.read

pub returns-in_err-lengths-clause-read : goal.returns-in_err-lengths-clause-read
returns-in_err-lengths-clause-read g c =
    is_read-on g.R.Reads g.met.R.Reads.further_onward _ _ _ (is_read-on g.R.Reads g.met.R.Reads.further_onward _ _ _ (is_read-get g.R.Reads _ _
    c.in_ok-rec.ensures.state c.in_ok-rec.ensures.onward c.in_ok-rec.ensures.cause.later) c.in_ok-ids.ensures.read) c.in_err-lengths.ensures.read

pub returns-then-not-are_pieces-clause-read : goal.returns-then-not-are_pieces-clause-read
returns-then-not-are_pieces-clause-read g c =
    is_read-on g.R.Reads g.met.R.Reads.further_onward _ _ _ (is_read-on g.R.Reads g.met.R.Reads.further_onward _ _ _ (is_read-get g.R.Reads _ _
    c.in_ok-rec.ensures.state c.in_ok-rec.ensures.onward c.in_ok-rec.ensures.cause.later) c.in_ok-ids.ensures.read) c.in_ok-lengths.ensures.read

pub returns-clause-read : goal.returns-clause-read
returns-clause-read g c =
    is_read-on g.R.Reads g.met.R.Reads.further_onward _ _ _ (is_read-on g.R.Reads g.met.R.Reads.further_onward _ _ _ (is_read-get g.R.Reads _ _
    c.in_ok-rec.ensures.state c.in_ok-rec.ensures.onward c.in_ok-rec.ensures.cause.later) c.in_ok-ids.ensures.read) c.in_ok-lengths.ensures.read

pub returns-in_err-ids-clause-cause : goal.returns-in_err-ids-clause-cause
returns-in_err-ids-clause-cause g c =
    cause_passed _ _ _ c.from_residual-in_err-ids.result c.in_err-ids.field-0.0
    c.in_ok-rec.ensures.cause.later c.in_err-ids.ensures.cause
    c.from_residual-in_err-ids.ensures.1

pub returns-in_err-rec-clause-read : goal.returns-in_err-rec-clause-read
returns-in_err-rec-clause-read g c =
    is_read-get g.R.Reads _ _ c.in_err-rec.ensures.state c.in_err-rec.ensures.onward c.in_err-rec.ensures.cause.later

pub returns-in_err-rec-clause-cause : goal.returns-in_err-rec-clause-cause
returns-in_err-rec-clause-cause g c =
    cause_passed _ _ _ c.from_residual.result c.in_err-rec.field-0.0 (omega arith) c.in_err-rec.ensures.cause c.from_residual.ensures.1

pub returns-in_err-lengths-clause-cause : goal.returns-in_err-lengths-clause-cause
returns-in_err-lengths-clause-cause g c =
    cause_passed _ _ _ c.from_residual-in_err-lengths.result c.in_err-lengths.field-0.0
    (omega (arith, c.in_ok-rec.ensures.cause.later, c.in_ok-ids.ensures.cause.later))
    c.in_err-lengths.ensures.cause c.from_residual-in_err-lengths.ensures.1

pub returns-then-byte-ne-TEXT_IN_BLOCKS-clause-read : goal.returns-then-byte-ne-TEXT_IN_BLOCKS-clause-read
returns-then-byte-ne-TEXT_IN_BLOCKS-clause-read g c =
    is_read-get g.R.Reads _ _ c.in_ok-rec.ensures.state c.in_ok-rec.ensures.onward c.in_ok-rec.ensures.cause.later

pub returns-then-byte-ne-TEXT_IN_BLOCKS-clause-cause : goal.returns-then-byte-ne-TEXT_IN_BLOCKS-clause-cause
returns-then-byte-ne-TEXT_IN_BLOCKS-clause-cause g c = ok_cause _ _ _ _ (returns-then-byte-ne-TEXT_IN_BLOCKS-clause-read g c).later

pub returns-in_default-clause-cause : goal.returns-in_default-clause-cause
returns-in_default-clause-cause g c = ok_cause _ _ _ _ (returns-in_default-clause-read g c).later

pub returns-then-not-are_pieces-clause-cause : goal.returns-then-not-are_pieces-clause-cause
returns-then-not-are_pieces-clause-cause g c = ok_cause _ _ _ _ (returns-then-not-are_pieces-clause-read g c).later

pub returns-clause-cause : goal.returns-clause-cause
returns-clause-cause g c = ok_cause _ _ _ _ (returns-clause-read g c).later
