-- How many records the line of a query reads: what its run may still read, and what the results to come cost as maps, comes off what it may read in all.
use Rattle.std.proofs.Common.{◌≡◌, ◌≤◌, ℕ, ◌+◌, ◌*◌, List, [], ◌∷◌, length, ap, ◌∙◌, subst, arith}
use Rattle.std.proofs.Math.Nat.{mul-suc}
use Rattle.plain_graph.specs.declared.item.Item.{Item}
use Rattle.plain_graph.specs.declared.query.Query.{Query}
use Rattle.prop_store.specs.Reading.{ReadsAtMost}
use Rattle.rec_bytes.specs.Space.{SameButReads, State}
use Rattle.rec_bytes.specs.declared.space.Reads.{Ghosts as SpaceGhosts}
use Rattle.store_rules.specs.Graph.{graph_of}
use Rattle.store_rules.specs.Views.{Records}
use Rattle.traversal_run.specs.FoundNodes.{ReadsToBegin}
use Rattle.traversal_run.specs.Owing.{Spends, owed, query_reads}
use Rattle.traversal_run.specs.Reading.{IsNamedStore}
use Rattle.traversal_run.specs.Row.{Stream, with_first}
use Rattle.traversal_run.specs.Run.{meant, to_come}
use Rattle.traversal_run.specs.declared.run.Run.{Run}
use Rattle.graph_session.specs.QueryResults.{line_reads, map_reads}
use Rattle.graph_session.proofs.Questioned.{OfStore}
use Rattle.traversal_run.proofs.Spending.{reads_count}
use Rattle.graph_session.proofs.Running.{named-same}

-- ---- sums

begun : (reads run all maps meant : ℕ) → run ≤ all → maps ≡ meant → reads + (run + maps) ≤ reads + (all + meant)
begun reads run all maps meant le is = omega (arith, le, is)

no_more : (reads left most : ℕ) → reads + left ≤ most → reads ≤ most
no_more reads left most le = omega (arith, le)

after_next : (then now run new maps most : ℕ) → then + new ≤ now + run → now + (run + maps) ≤ most → then + (new + maps) ≤ most
after_next then now run new maps most spent le = omega (arith, spent, le)

after_shown : (last then new cost maps all most : ℕ) → last ≤ then + cost → all ≡ maps + cost → then + (new + all) ≤ most → last + (new + maps) ≤ most
after_shown last then new cost maps all most read is le = omega (arith, read, is, le)

-- what the results to come cost as maps
abbrev maps_of : Query → Stream → ℕ
maps_of query coming = map_reads query.maps * length coming.items

-- what was read, and so much more, is within what the line may read
abbrev pub LineOwes : {R : Type 0} → SpaceGhosts R → List (List ℕ) → Query → R → R → ℕ → Type 0
LineOwes space names query old now left = space.tells → IsNamedStore (space.state old).records (space.state old).shape names
    → (mid : State) × ReadsToBegin query.source (space.state old) mid
    × ((space.state now).reads + left ≤ mid.reads + line_reads (space.state old).records query)

-- The run may still read so much, with its results as maps.
pub record RunOwes {R : Type 0} (space : SpaceGhosts R) (names : List (List ℕ)) (query : Query) (old now : R) (run : Run) : Type 0 where
  pub within : LineOwes space names query old now
      (owed (space.state old).records run + maps_of query (to_come (graph_of (space.state old).records) run))

module _ {R : Type 0} (space : SpaceGhosts R) (names : List (List ℕ)) (query : Query) (old : R) where
  abbrev records : Records
  records = (space.state old).records

  -- what is promised where it ends
  abbrev pub LineReads : R → Type 0
  LineReads now = space.tells → IsNamedStore records (space.state old).shape names
      → (mid : State) × ReadsToBegin query.source (space.state old) mid × ((space.state now).reads ≤ mid.reads + line_reads records query)

  pub owes-first : (now : R) (run : Run)
      → (space.tells → IsNamedStore records (space.state old).shape names → ReadsToBegin query.source (space.state old) (space.state now))
      → OfStore space names old (λ graph. to_come graph run ≡ meant graph query)
      → (space.tells → IsNamedStore records (space.state old).shape names → owed records run ≤ query_reads records query)
      → RunOwes space names query old now run
  owes-first now run read found owes = record {
    within = λ told store. (
      space.state now,
      read told store,
      begun (space.state now).reads (owed records run) (query_reads records query) (maps_of query (to_come (graph_of records) run))
          (maps_of query (meant (graph_of records) query)) (owes told store) (ap (maps_of query) (found told store)),
    );
  }

  -- there is no run
  pub owes-none : (now : R)
      → (space.tells → IsNamedStore records (space.state old).shape names → ReadsToBegin query.source (space.state old) (space.state now))
      → LineReads now
  owes-none now read told store = (space.state now, read told store, omega arith)

  -- where the line ends
  pub owes-end : (now : R) (left : ℕ) → LineOwes space names query old now left → LineReads now
  owes-end now left owes told store =
      let met = owes told store in
      (met.0, met.1, no_more (space.state now).reads left _ met.2)

  -- the next result was asked for
  module _ (now next : R) (run new : Run) (same : SameButReads (space.state old) (space.state now)) (owes : RunOwes space names query old now run)
      (spends : space.tells → IsNamedStore (space.state now).records (space.state now).shape names
      → Spends (space.state now) (space.state next) (owed (space.state now).records run) (owed (space.state now).records new)) where
    spent : space.tells → IsNamedStore records (space.state old).shape names
        → Spends (space.state now) (space.state next) (owed records run) (owed records new)
    spent told store =
        subst (λ (rs : Records). Spends (space.state now) (space.state next) (owed rs run) (owed rs new)) (ap (λ (s : State). s.records) same)
        (spends told (named-same (space.state old) (space.state now) names same store))

    owes-next : LineOwes space names query old next (owed records new + maps_of query (to_come (graph_of records) run))
    owes-next told store =
        let met = owes.within told store in (
          met.0,
          met.1,
          after_next (space.state next).reads (space.state now).reads (owed records run) (owed records new)
              (maps_of query (to_come (graph_of records) run)) _ (spent told store) met.2,
        )

    -- it was no result
    pub owes-stop : LineReads next
    owes-stop = owes-end next (owed records new + maps_of query (to_come (graph_of records) run)) owes-next

    -- its line was gathered
    module _ (item : Item) (gives : OfStore space names now (λ graph. to_come graph run ≡ with_first (item ∷ []) (to_come graph new)))
        (last : R) (shown : ReadsAtMost (map_reads query.maps) (space.state next) (space.state last)) where
      pub owes-shown : RunOwes space names query old last new
      owes-shown = record {
        within = λ told store.
            let met = owes-next told store in
            let graph = graph_of records in
            let is = subst (λ (rs : Records). to_come (graph_of rs) run ≡ with_first (item ∷ []) (to_come (graph_of rs) new))
            (ap (λ (s : State). s.records) same) (gives told (named-same (space.state old) (space.state now) names same store)) in (
              met.0,
              met.1,
              after_shown (space.state last).reads (space.state next).reads (owed records new) (map_reads query.maps)
                  (maps_of query (to_come graph new)) (maps_of query (to_come graph run)) _
                  (reads_count (map_reads query.maps) (space.state next) (space.state last) shown)
                  (ap (maps_of query) is ∙ mul-suc (map_reads query.maps) (length (to_come graph new).items)) met.2,
            );
      }

      pub owes-shown-end : LineReads last
      owes-shown-end = owes-end last (owed records new + maps_of query (to_come (graph_of records) new)) owes-shown.within
