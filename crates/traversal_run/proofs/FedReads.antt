-- What a source and a step that takes its items may still read.
use Rattle.std.proofs.Common.{◌≡◌, ◌<◌, ◌≤◌, ◌+◌, ℕ, zero, suc, true, List, [], ◌∷◌, Result, Ok, Err, refl, sym, ap, ◌∙◌, subst, arith}
use Rattle.std.proofs.lemmas.List.Sums.{sum_by-cons}
use Rattle.std.specs.List.{sum_by}
use Rattle.std.specs.Result.{IsErrAnd}
use Rattle.plain_graph.specs.declared.item.Item.{Item}
use Rattle.prop_store.specs.Reading.{ReadsAtMost}
use Rattle.rec_bytes.specs.Space.{State, after_gets}
use Rattle.store_rules.specs.Graph.{graph_of}
use Rattle.store_rules.specs.Views.{Records}
use Rattle.traversal_run.specs.Finding.{element_mark}
use Rattle.traversal_run.specs.Owing.{Spends, SpendsIf, feed_owes, source_owes, stage_reads}
use Rattle.traversal_run.specs.Source.{left_count, left_of}
use Rattle.traversal_run.specs.Stage.{is_count}
use Rattle.traversal_run.specs.declared.source.Left.{Left}
use Rattle.traversal_run.specs.declared.source.Left.TheVariants.{Nothing}
use Rattle.traversal_run.specs.declared.source.Source.{Source}
use Rattle.traversal_run.specs.declared.stage.Stage.{Stage}
use Rattle.traversal_run.specs.declared.stage.Stage.TheVariants as stages
use Rattle.traversal_run.proofs.Fed.{ended}
use Rattle.traversal_run.proofs.Spending.{reads_count}

-- ---- an identifier is taken

-- for each that may still come, and for each item that comes
abbrev pub owes_by : Records → (Item → ℕ) → Source → ℕ
owes_by records cost source = source_owes records source + sum_by cost (left_of (graph_of records) source)

module _ (records : Records) (cost : Item → ℕ) (now rest : Source) where
  -- it had no item
  pub pays_past : 1 + source_owes records rest ≤ source_owes records now → left_of (graph_of records) now ≡ left_of (graph_of records) rest
      → 1 + owes_by records cost rest ≤ owes_by records cost now
  pays_past pays same =
      let all : sum_by cost (left_of (graph_of records) now) ≡ sum_by cost (left_of (graph_of records) rest) = ap (sum_by cost) same in
      omega (arith, pays, all)

  -- it had this one
  pub pays_taken : (item : Item) → 1 + source_owes records rest ≤ source_owes records now
      → left_of (graph_of records) now ≡ item ∷ left_of (graph_of records) rest → 1 + cost item + owes_by records cost rest ≤ owes_by records cost now
  pays_taken item pays gives =
      let all : sum_by cost (left_of (graph_of records) now) ≡ cost item + sum_by cost (left_of (graph_of records) rest)
      = ap (sum_by cost) gives ∙ sum_by-cons cost item (left_of (graph_of records) rest) in
      omega (arith, pays, all)

  module _ (a b : State) (one : ReadsAtMost 1 a b) (pays : 1 + source_owes records rest ≤ source_owes records now) where
    -- its read is paid
    pub spends_row : Spends a b (owes_by records cost now) 0
    spends_row = let read = reads_count 1 a b one in omega (arith, read, pays)

    pub spends_past : left_of (graph_of records) now ≡ left_of (graph_of records) rest → Spends a b (owes_by records cost now) (owes_by records cost rest)
    spends_past same = let read = reads_count 1 a b one in let less = pays_past pays same in omega (arith, read, less)

    -- and what its item costs
    pub spends_taken : (c : State) (item : Item) (most : ℕ) → most ≡ cost item → ReadsAtMost most b c
        → left_of (graph_of records) now ≡ item ∷ left_of (graph_of records) rest → Spends a c (owes_by records cost now) (owes_by records cost rest)
    spends_taken c item most is costs gives =
        let read = reads_count 1 a b one in
        let more = reads_count most b c costs in
        let less = pays_taken item pays gives in
        omega (arith, read, more, is, less)

-- the identifier that was taken pays for its read
pub taken_pays : (records : Records) (now : Source) (left : Left) (mark : ℕ) → mark ≡ element_mark records now.edges
    → left_count mark left < left_count mark now.left → 1 + source_owes records (record now { left = left }) ≤ source_owes records now
taken_pays records now left mark is fewer =
    let less = subst (λ n. left_count n left < left_count n now.left) is fewer in omega (arith, less)

-- what was ended owes nothing
pub ended_owes : (records : Records) (cost : Item → ℕ) (old new : Source) → new ≡ record old { left = Nothing } → owes_by records cost new ≡ 0
ended_owes records cost old new is =
    let paid : source_owes records new ≡ 0 = ap (source_owes records) is in
    let none : sum_by cost (left_of (graph_of records) new) ≡ 0 = ap (sum_by cost) (ended (graph_of records) old new is) in
    omega (arith, paid, none)

pub spends_end : (records : Records) (cost : Item → ℕ) (old new : Source) (a b : State) (before now : ℕ) → new ≡ record old { left = Nothing }
    → Spends a b before now → Spends a b before (owes_by records cost new)
spends_end records cost old new a b before now is spends =
    let none = ended_owes records cost old new is in omega (arith, spends, none)

-- ---- a step goes on

-- a step that reads the same for each item owes the same
pub same_owes : (records : Records) (source : Source) (old new : Stage) → ((item : Item) → stage_reads records new item ≡ stage_reads records old item)
    → feed_owes records source new ≡ feed_owes records source old
same_owes records source old new same = λ i. source_owes records source + sum_by (λ item. same item i) (left_of (graph_of records) source)

pub spends_stage : (records : Records) (source : Source) (old new : Stage) (a b : State) (before : ℕ)
    → ((item : Item) → stage_reads records new item ≡ stage_reads records old item)
    → Spends a b before (feed_owes records source old) → Spends a b before (feed_owes records source new)
spends_stage records source old new a b before same spends = subst (Spends a b before) (sym (same_owes records source old new same)) spends

-- ---- a source that pays its own reads

module _ (records : Records) (cost : Item → ℕ) (now : Source) (a b : State) where
  pub spends_source : (after : ℕ) → Spends a b (source_owes records now) after → Spends a b (owes_by records cost now) 0
  spends_source after paid = omega (arith, paid)

  -- it gave an item, which a step took
  pub spends_next : (rest : Source) (c : State) (item : Item) (most : ℕ) → most ≡ cost item
      → Spends a b (source_owes records now) (source_owes records rest) → ReadsAtMost most b c
      → left_of (graph_of records) now ≡ item ∷ left_of (graph_of records) rest → Spends a c (owes_by records cost now) (owes_by records cost rest)
  spends_next rest c item most is paid costs gives =
      let more = reads_count most b c costs in
      let all : sum_by cost (left_of (graph_of records) now) ≡ cost item + sum_by cost (left_of (graph_of records) rest)
      = ap (sum_by cost) gives ∙ sum_by-cons cost item (left_of (graph_of records) rest) in
      omega (arith, paid, more, is, all)

-- ---- a count

pub sum_zero : (f : Item → ℕ) (list : List Item) → ((x : Item) → f x ≡ 0) → sum_by f list ≡ 0
sum_zero f [] none = refl
sum_zero f (x ∷ xs) none =
    let all = sum_by-cons f x xs in let one = none x in let rest = sum_zero f xs none in omega (arith, all, one, rest)

count_free : (records : Records) (stage : Stage) (item : Item) → is_count stage ≡ true → stage_reads records stage item ≡ 0
count_free records (stages.Mapped mapping) item counts = absurd cc
count_free records (stages.Dedup seen) item counts = absurd cc
count_free records (stages.Count so_far given) item counts = refl
count_free records (stages.Limit left) item counts = absurd cc
count_free records (stages.Order key descending kept given) item counts = absurd cc

-- it reads nothing but what the source does
pub spends_count : (records : Records) (before after : Source) (old new : Stage) (a b : State) → is_count old ≡ true → is_count new ≡ true
    → Spends a b (source_owes records before) (source_owes records after) → Spends a b (feed_owes records before old) (feed_owes records after new)
spends_count records before after old new a b old_counts new_counts paid =
    let first = sum_zero (stage_reads records old) (left_of (graph_of records) before) (λ item. count_free records old item old_counts) in
    let last = sum_zero (stage_reads records new) (left_of (graph_of records) after) (λ item. count_free records new item new_counts) in
    omega (arith, first, last, paid)
