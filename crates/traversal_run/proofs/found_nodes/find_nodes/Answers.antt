use Rattle.std.proofs.Common.{◌≡◌, ℕ, Vec, refl}
use Rattle.std.specs.declared.alloc.Global.{Global}
use Rattle.rec_bytes.specs.Space.{State}
use Rattle.store_rules.specs.Indexes.{IsIndexed}
use Rattle.prop_index.specs.Looking.{ReadsForLookup, nodes_in}
use Rattle.prop_index.specs.declared.lookup_fault.LookupFault.{LookupFault}
use Rattle.traversal_run.specs.FoundNodes.ReadsForFind.{ByIndex, NoName}
use Rattle.traversal_run.specs.Reading.{IsNamedStore}
use Rattle.traversal_run.proofs.AskedIndexes.{err-then, found-index, found-meaning, found-text, looked-reads, no-key}
use Rattle.traversal_run.proofs.AskedIndexes.{no-label, ok-anyway, ok-then, refused-index}
use Rattle.traversal_run.proofs.OnlyReads.{is_read-none}
use Rattle.traversal_run.proofs.found_nodes.find_nodes.Goals as goal

indexed : (s : State) (names : _) → IsNamedStore s.records s.shape names → IsIndexed s.records s.shape
indexed s names store = record { store = store.store; indexes = store.indexes }

pub returns-in_default-clause-refused : goal.returns-in_default-clause-refused
returns-in_default-clause-refused g c = λ tells store.
    let s = g.R.Reads.state c.args.space.now in
    no-label s.records s.shape (indexed s c.args.names.now.names store) c.args.label.now c.args.key.now (c.in_default.ensures.finds store)

pub returns-in_default-clause-read : goal.returns-in_default-clause-read
returns-in_default-clause-read g c = is_read-none g.R.Reads g.met.R.Reads.stays_onward c.args.space.now

pub returns-in_default-text_number-clause-refused : goal.returns-in_default-text_number-clause-refused
returns-in_default-text_number-clause-refused g c = λ tells store.
    let s = g.R.Reads.state c.args.space.now in
    no-key s.records s.shape (indexed s c.args.names.now.names store) c.args.label.now c.args.key.now (c.in_default-text_number.ensures.finds store)

pub returns-in_default-text_number-clause-read : goal.returns-in_default-text_number-clause-read
returns-in_default-text_number-clause-read g c = is_read-none g.R.Reads g.met.R.Reads.stays_onward c.args.space.now

pub returns-clause-found : goal.returns-clause-found
returns-clause-found g c = λ tells store.
    let s = g.R.Reads.state c.args.space.now in
    let l = c.in-Some.label_number in
    let k = c.in-Some-text_number.key_number in
    let has = indexed s c.args.names.now.names store in
    ok-then c.lookup.result
    (λ (nodes : Vec ℕ Global) (is : nodes.items ≡ nodes_in s.records l k c.args.value.now).
    found-meaning s.records s.shape has c.args.label.now c.args.key.now l k (c.in-Some.ensures.finds store) (c.in-Some-text_number.ensures.finds store)
    c.in-Some.ensures.below c.in-Some-text_number.ensures.below c.args.value.now nodes.items is)
    (c.lookup.ensures.graph tells has (record { label_low = c.in-Some.ensures.below; key_low = c.in-Some-text_number.ensures.below }))

pub returns-clause-there : goal.returns-clause-there
returns-clause-there g c = λ tells store.
    let s = g.R.Reads.state c.args.space.now in
    let l = c.in-Some.label_number in
    let k = c.in-Some-text_number.key_number in
    let has = indexed s c.args.names.now.names store in
    ok-anyway c.lookup.result
    (λ (reads : ReadsForLookup l k c.args.value.now s (g.R.Reads.state c.lookup.new.space)).
    found-index s.records s.shape has c.args.label.now c.args.key.now l k (c.in-Some.ensures.finds store) (c.in-Some-text_number.ensures.finds store)
    c.in-Some.ensures.below c.in-Some-text_number.ensures.below reads.definitions reads.walk reads.definition reads.listed reads.pair)
    (c.lookup.ensures.cost tells has)

pub returns-clause-refused : goal.returns-clause-refused
returns-clause-refused g c = λ tells store.
    let s = g.R.Reads.state c.args.space.now in
    let l = c.in-Some.label_number in
    let k = c.in-Some-text_number.key_number in
    let has = indexed s c.args.names.now.names store in
    err-then c.lookup.result
    (λ (fault : LookupFault) refused. refused-index s.records s.shape has c.args.label.now c.args.key.now l k (c.in-Some.ensures.finds store)
    (c.in-Some-text_number.ensures.finds store) fault refused) (c.lookup.ensures.refused tells has)

pub returns-in_default-clause-cost : goal.returns-in_default-clause-cost
returns-in_default-clause-cost g c = λ tells store. NoName refl

pub returns-in_default-text_number-clause-cost : goal.returns-in_default-text_number-clause-cost
returns-in_default-text_number-clause-cost g c = λ tells store. NoName refl

pub returns-clause-cost : goal.returns-clause-cost
returns-clause-cost g c = λ tells store.
    let s = g.R.Reads.state c.args.space.now in
    let t = g.R.Reads.state c.lookup.new.space in
    let l = c.in-Some.label_number in
    let k = c.in-Some-text_number.key_number in
    let has = indexed s c.args.names.now.names store in
    ByIndex l k (record { label_low = c.in-Some.ensures.below; key_low = c.in-Some-text_number.ensures.below })
    (found-text s.records c.args.label.now l (c.in-Some.ensures.finds store) c.in-Some.ensures.below)
    (found-text s.records c.args.key.now k (c.in-Some-text_number.ensures.finds store) c.in-Some-text_number.ensures.below)
    (looked-reads l k c.args.value.now s t c.lookup.result (c.lookup.ensures.cost tells has) (c.lookup.ensures.cost_refused tells has))

pub returns-clause-read : goal.returns-clause-read
returns-clause-read g c = record { same = c.lookup.ensures.same; onward = c.lookup.ensures.onward; later = c.lookup.ensures.cause.later }
