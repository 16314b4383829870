-- The reply of a query, also where the sink didn't take all of it.
use Rattle.std.proofs.Common.{◌≡◌, ◌∙◌, ℕ, Bool, true, false, Option, None, Some, List, [], ◌∷◌, ◌++◌, append_assoc, length, drop, map, inl, inr, refl, sym, ap}
use Rattle.std.proofs.Math.Seq.{drop-append_seam}
use Rattle.std.proofs.lemmas.Grind.{flat_map-append}
use Rattle.std.proofs.lemmas.List.{append-nil, map-append}
use Rattle.plain_graph.specs.ElementMaps.{element_map, map_line, shown_line}
use Rattle.plain_graph.specs.Graph.{Graph}
use Rattle.plain_graph.specs.Lines.{AreResults, Reading}
use Rattle.plain_graph.specs.Meaning.{has_past_count, meaning}
use Rattle.plain_graph.specs.Reply.{DamagedRecord, DiskFailed, Fault, Faulted, NoMemory, PastCount, Reply, Told}
use Rattle.plain_graph.specs.Reply.{end_text, fault_line, item_line, prefixed_line, prefixed_text}
use Rattle.plain_graph.specs.declared.command.Command.TheVariants as commands
use Rattle.plain_graph.specs.declared.element_map.ElementMap.{ElementMap}
use Rattle.plain_graph.specs.declared.item.Item.{Item}
use Rattle.plain_graph.specs.declared.query.Query.{Query}
use Rattle.rec_bytes.specs.declared.shape.Shape.{Shape}
use Rattle.store_rules.specs.Views.{Records}
use Rattle.graph_session.specs.Exchange.{AreFirst, told_fault}
use Rattle.graph_session.specs.MayStep.{MayTell}
use Rattle.graph_session.specs.Questions.{Means}
use Rattle.graph_session.specs.QueryResults.{IsResultLine}
use Rattle.graph_session.specs.State.{IsSpared}
use Rattle.graph_session.specs.Verdicts.{TellsBroken}
use Rattle.graph_session.proofs.ListedLines.{bytes_of}
use Rattle.graph_session.proofs.Questioned.{Asks}
use Rattle.graph_session.proofs.Reasons.{HasAsked, unchanging-free}

-- ---- first results

-- these results are the first of those
abbrev pub BeginResults : List Item → List Item → Type 0
BeginResults found all = (more : List Item) × (found ++ more ≡ all)

-- a list with what it lacks of a longer one
with_rest : (found all more : List Item) → found ++ more ≡ all → found ++ drop (length found) all ≡ all
with_rest found all more is = ap (λ (xs : List Item). found ++ drop (length found) xs) (sym is)
    ∙ ap (λ (xs : List Item). found ++ xs) (drop-append_seam found more) ∙ is

-- the lines of the first results are the first lines
pub lines-first : (line_of : Item → List ℕ) (found all : List Item) → BeginResults found all → AreFirst (map line_of found) (map line_of all)
lines-first line_of found all first = (map line_of first.0, sym (map-append line_of found first.0) ∙ ap (map line_of) first.1)

-- ---- lines over any files

-- there are none yet
pub results-none : (maps : Option (List (List ℕ))) → AreResults maps []
results-none None = ([], refl)
results-none (Some keys) = ([], refl)

-- one more
pub results-more : (maps : Option (List (List ℕ))) (lines : List (List ℕ)) → AreResults maps lines → (item : Item) (line : List ℕ) → IsResultLine maps item line
    → AreResults maps (lines ++ line ∷ [])
results-more None lines are item line is =
    (are.0 ++ item ∷ [], (λ i. are.1 i ++ is i ∷ []) ∙ sym (map-append item_line are.0 (item ∷ [])))
results-more (Some keys) lines are item line is =
    let row : Item × ElementMap = (item, is.0) in
    (are.0 ++ row ∷ [], (λ i. are.1 i ++ is.1 i ∷ []) ∙ sym (map-append map_line are.0 (row ∷ [])))

-- those that a graph shows
results-shown : (graph : Graph) (maps : Option (List (List ℕ))) (items : List Item) → AreResults maps (map (shown_line graph maps) items)
results-shown graph None items = (items, refl)
results-shown graph (Some keys) items = (map row items, by items)
  where
    row : Item → Item × ElementMap
    row item = (item, element_map graph keys item)

    by : (items : List Item) → map (shown_line graph (Some keys)) items ≡ map map_line (map row items)
    by [] = refl
    by (item ∷ later) = ap (λ (lines : List (List ℕ)). map_line (row item) ∷ lines) (by later)

results-both : (maps : Option (List (List ℕ))) (lines more : List (List ℕ)) → AreResults maps lines → AreResults maps more → AreResults maps (lines ++ more)
results-both None lines more are also = (are.0 ++ also.0, (λ i. are.1 i ++ also.1 i) ∙ sym (map-append item_line are.0 also.0))
results-both (Some keys) lines more are also = (are.0 ++ also.0, (λ i. are.1 i ++ also.1 i) ∙ sym (map-append map_line are.0 also.0))

-- ---- what may be told

-- what a query asks for
abbrev pub reading_of : Graph → Query → Reading
reading_of graph query = record { lines = map (shown_line graph query.maps) (meaning graph query); last = end_text; is_past = has_past_count graph query }

abbrev pub all_lines : Graph → Query → List (List ℕ)
all_lines graph query = map (shown_line graph query.maps) (meaning graph query)

query-spared : (query : Query) → ¬ IsSpared (commands.Query query)
query-spared query (inl spared) = spared
query-spared query (inr (inl e)) = cc
query-spared query (inr (inr e)) = cc

pub asks-query : (query : Query) → Asks (commands.Query query)
asks-query query = record {
  question = tt;
  unspared = query-spared query;
  unchecked = λ e. cc;
  reading = record { lines = []; last = end_text; is_past = false };
  formed = ([], results-none query.maps, false, refl);
}

module _ (query : Query) (lines : List (List ℕ)) (are : AreResults query.maps lines) where
  -- a fault may come after any lines
  pub query-stop : (fault : Fault) → MayTell (commands.Query query) (Faulted lines fault)
  query-stop PastCount = (query-spared query, record { lines = lines; last = end_text; is_past = true }, (lines, are, true, refl), refl, ([], append-nil lines))
  query-stop NoMemory = (query-spared query, record { lines = lines; last = end_text; is_past = true }, (lines, are, true, refl), tt, ([], append-nil lines))
  query-stop DiskFailed = (query-spared query, record { lines = lines; last = end_text; is_past = true }, (lines, are, true, refl), tt, ([], append-nil lines))
  query-stop (DamagedRecord file id) = (
    query-spared query,
    record { lines = lines; last = end_text; is_past = true },
    (lines, are, true, refl),
    (λ e. cc),
    ([], append-nil lines),
  )

  -- and so may the end
  pub query-tell : MayTell (commands.Query query) (Told lines end_text)
  query-tell = (record { lines = lines; last = end_text; is_past = false }, (lines, are, false, refl), refl, refl)

-- all results are told
pub query-all : (graph : Graph) (query : Query) → HasAsked graph (commands.Query query) → (lines : List (List ℕ)) → lines ≡ all_lines graph query
    → has_past_count graph query ≡ false → Means graph (commands.Query query) (Told lines end_text)
query-all graph query there lines all none = (
  (λ limit. unchanging-free (commands.Query query) (λ h. h) limit graph tt there),
  (reading_of graph query, refl, none, all, refl),
)

-- ---- the whole reply of which some lines were given

-- what comes after the first results
abbrev pub more_lines : Graph → Query → List Item → List (List ℕ)
more_lines graph query found = map (shown_line graph query.maps) (drop (length found) (meaning graph query))

-- It goes on up to the end, or where a count passes up to its fault.
abbrev pub whole_of : Bool → (first more : List (List ℕ)) → Reply
whole_of false first more = Told (first ++ more) end_text
whole_of true first more = Faulted first PastCount

-- what of its text is not the first lines
abbrev pub rest_of : List ℕ → Bool → List (List ℕ) → List ℕ
rest_of prefix false more = bytes_of prefix more ++ prefixed_line prefix end_text
rest_of prefix true more = prefix ++ fault_line PastCount

pub whole-text : (prefix : List ℕ) (past : Bool) (first more : List (List ℕ))
    → bytes_of prefix first ++ rest_of prefix past more ≡ prefixed_text prefix (whole_of past first more)
whole-text prefix false first more =
    sym (append_assoc (bytes_of prefix first) (bytes_of prefix more) (prefixed_line prefix end_text))
    ∙ ap (λ (xs : List ℕ). xs ++ prefixed_line prefix end_text) (sym (flat_map-append (prefixed_line prefix) first more))
whole-text prefix true first more = refl

pub whole-told : (past : Bool) (first more : List (List ℕ)) → told_fault (whole_of past first more) ≡ 0
whole-told false first more = refl
whole-told true first more = refl

-- it calls no record damaged
pub whole-blames : (records : Records) (shape : Shape) (past : Bool) (first more : List (List ℕ)) → TellsBroken records shape (whole_of past first more)
whole-blames records shape false first more = tt
whole-blames records shape true first more = tt

module _ (graph : Graph) (query : Query) (first : List (List ℕ)) (found : List Item) where
  pub whole-form : AreResults query.maps first → (past : Bool) → MayTell (commands.Query query) (whole_of past first (more_lines graph query found))
  whole-form are false =
      query-tell query (first ++ more_lines graph query found)
      (results-both query.maps first (more_lines graph query found) are (results-shown graph query.maps (drop (length found) (meaning graph query))))
  whole-form are true = query-stop query first are PastCount

  pub whole-means : HasAsked graph (commands.Query query) → first ≡ map (shown_line graph query.maps) found → BeginResults found (meaning graph query)
      → (past : Bool) → has_past_count graph query ≡ past
      → Means graph (commands.Query query) (whole_of past first (more_lines graph query found))
  whole-means there shown are false is =
      query-all graph query there (first ++ more_lines graph query found)
      (ap (λ (lines : List (List ℕ)). lines ++ more_lines graph query found) shown
      ∙ sym (map-append (shown_line graph query.maps) found (drop (length found) (meaning graph query)))
      ∙ ap (map (shown_line graph query.maps)) (with_rest found (meaning graph query) are.0 are.1)) is
  whole-means there shown are true is = (reading_of graph query, refl, is, begins)
    where
      begins : AreFirst first (all_lines graph query)
      begins =
          let all = lines-first (shown_line graph query.maps) found (meaning graph query) are in
          (all.0, ap (λ (lines : List (List ℕ)). lines ++ all.0) shown ∙ all.1)
