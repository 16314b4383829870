-- The lines of edges, one after the other.
use Rattle.std.proofs.Common.{◌≡◌, ◌≢◌, ◌∙◌, ◌+◌, ◌<◌, ◌≤◌, ℕ, List, [], ◌∷◌, ◌++◌, get_or, length, map, take, drop, add-one, refl, sym, ap, subst, arith}
use Rattle.std.proofs.Math.Seq.{take-length, take-suc}
use Rattle.std.proofs.lemmas.List.{map-append, take-append-drop}
use Rattle.stream_io.specs.declared.streams.Sink.{Ghosts}
use Rattle.plain_graph.specs.Reply.{Told, end_text, item_line, prefixed_text, result_text, text_line}
use Rattle.plain_graph.specs.declared.item.Item.{Item}
use Rattle.rel_store.specs.declared.edge_row.EdgeRow.{EdgeRow}
use Rattle.graph_session.specs.Answer.{Gives}
use Rattle.graph_session.specs.EdgeResults.{IsEdge, item_of, items_of}
use Rattle.graph_session.specs.Exchange.{AreFirst}
use Rattle.graph_session.specs.ReplyLines.{AddsLine, BeginsLines}
use Rattle.graph_session.specs.declared.reply_lines.ReplyLines.{ReplyLines}
use Rattle.graph_session.specs.declared.turn.Turn.{Turn}
use Rattle.graph_session.specs.declared.turn.Turn.TheVariants.{Go}
use Rattle.graph_session.proofs.ListedLines.{HasLines, lines-add, lines-last, lines-none, lines-stop_in}
use Rattle.graph_session.proofs.WholeReplies.{lines-first}

-- the lines of the first rows
abbrev pub edge_lines : List ℕ → ℕ → List EdgeRow → List (List ℕ)
edge_lines label n rows = map item_line (items_of label (take n rows))

-- The lines of the first rows were gathered. The edge that is written next has the name of the type.
pub record IsGiving {K : Type 0} (sink : Ghosts K) (old now : ReplyLines K) (label : List ℕ) (edge : Item) (n : ℕ) (rows : List EdgeRow)
    : Type 0 where
  pub has : HasLines sink old now (edge_lines label n rows)
  pub named : IsEdge label edge

abbrev row_at : List EdgeRow → ℕ → EdgeRow
row_at rows n = get_or rows n (record { id = 0; label = 0; from = 0; to = 0 })

-- one more
items-more : (label : List ℕ) (rows : List EdgeRow) (n : ℕ) → n < length rows
    → items_of label (take (n + 1) rows) ≡ items_of label (take n rows) ++ item_of label (row_at rows n) ∷ []
items-more label rows n lt =
    ap (λ (m : ℕ). items_of label (take m rows)) (add-one n) ∙ ap (items_of label) (take-suc rows n (record { id = 0; label = 0; from = 0; to = 0 }) lt)
    ∙ map-append (item_of label) (take n rows) (row_at rows n ∷ [])

lines-more : (label : List ℕ) (rows : List EdgeRow) (n : ℕ) → n < length rows
    → edge_lines label (n + 1) rows ≡ edge_lines label n rows ++ item_line (item_of label (row_at rows n)) ∷ []
lines-more label rows n lt = ap (map item_line) (items-more label rows n lt)
    ∙ map-append item_line (items_of label (take n rows)) (item_of label (row_at rows n) ∷ [])

-- the lines of the first rows are the first lines
first-rows : (label : List ℕ) (rows : List EdgeRow) (n : ℕ) → AreFirst (edge_lines label n rows) (map item_line (items_of label rows))
first-rows label rows n =
    lines-first item_line (items_of label (take n rows)) (items_of label rows)
    (items_of label (drop n rows), sym (map-append (item_of label) (take n rows) (drop n rows)) ∙ ap (items_of label) (take-append-drop n rows))

-- no line yet
pub giving-none : {K : Type 0} {sink : Ghosts K} {old now : ReplyLines K} → BeginsLines old now → (label : List ℕ) (rows : List EdgeRow)
    (id number from to : ℕ) → IsGiving sink old now label (item_of label (record { id = id; label = number; from = from; to = to })) 0 rows
giving-none begins label rows id number from to = record {
  has = lines-none begins;
  named = (record { id = id; label = number; from = from; to = to }, refl);
}

module _ {K : Type 0} {sink : Ghosts K} {old now : ReplyLines K} {label : List ℕ} {edge : Item} {n : ℕ} {rows : List EdgeRow}
    (giving : IsGiving sink old now label edge n rows) where
  module _ (lt : n < length rows) (item : Item) (is : item ≡ item_of label (row_at rows n)) (new : ReplyLines K) where
    adds-row : (turn : Turn) → AddsLine sink (result_text item) now new turn
        → AddsLine sink (text_line (item_line (item_of label (row_at rows n)))) now new turn
    adds-row turn adds = subst (λ (x : Item). AddsLine sink (result_text x) now new turn) is adds

    -- the line of one more
    pub giving-more : AddsLine sink (result_text item) now new Go → IsGiving sink old new label item (n + 1) rows
    giving-more adds = record {
      has = subst (λ (lines : List (List ℕ)). HasLines sink old new lines) (sym (lines-more label rows n lt))
          (lines-add giving.has (item_line (item_of label (row_at rows n))) new (adds-row Go adds));
      named = (row_at rows n, is);
    }

    -- the sink failed
    pub giving-stop : (turn : Turn) → AddsLine sink (result_text item) now new turn → turn ≢ Go
        → Gives sink (prefixed_text old.prefix.now (Told (map item_line (items_of label rows)) end_text)) old.output.now new.output.now turn
    giving-stop turn adds stops =
        lines-stop_in giving.has (map item_line (items_of label rows)) end_text (item_line (item_of label (row_at rows n)))
        (subst (λ (lines : List (List ℕ)). AreFirst lines (map item_line (items_of label rows))) (lines-more label rows n lt) (first-rows label rows (n + 1)))
        new turn (adds-row turn adds) stops

  -- all have lines
  pub giving-end : n ≤ length rows → length rows ≤ n → (then : K) (turn : Turn)
      → Gives sink (now.buffer.now.bytes ++ (now.prefix.now ++ text_line end_text)) now.output.now then turn
      → Gives sink (prefixed_text old.prefix.now (Told (map item_line (items_of label rows)) end_text)) old.output.now then turn
  giving-end low high then turn gives =
      let same : n ≡ length rows = omega (arith, low, high) in
      subst (λ (lines : List (List ℕ)). Gives sink (prefixed_text old.prefix.now (Told lines end_text)) old.output.now then turn)
      (ap (λ (m : ℕ). edge_lines label m rows) same ∙ ap (λ (found : List EdgeRow). map item_line (items_of label found)) (take-length rows))
      (lines-last giving.has (text_line end_text) then turn gives)
